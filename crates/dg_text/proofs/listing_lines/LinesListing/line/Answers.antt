use Rattle.std.proofs.Common.{◌≡◌, ◌∷◌, [], ℕ, List, refl, sym, subst, ◌≤◌, length, arith}
use Rattle.std.proofs.lemmas.List.{append-nil}
use Rattle.std.proofs.lemmas.Result.{on_ok_weaker, on_err_weaker}
use Rattle.dg_io.specs.SinkCalls.{LeavesSink}
use Rattle.dg_io.specs.SinkLines.{lines_of_text}
use Rattle.dg_io.specs.Told.{Told, Took, TookPart}
use Rattle.dg_io.specs.declared.outside.Sink.{Ghosts}
use Rattle.dg_text.specs.LineCalls.{entry_calls}
use Rattle.dg_text.specs.Replies.{entry_line, node_line}
use Rattle.dg_text.specs.Listings.{line_in, lines_in}
use Rattle.dg_text.specs.ListingLines.{TookEntries, TookEntriesPart}
use Rattle.dg_text.specs.declared.listing_lines.Lines.{Lines}
use Rattle.dg_text.specs.declared.listings.Form.{Form}
use Rattle.dg_text.specs.declared.listings.Form.TheVariants.{Directory, Volume}
use Rattle.dg_text.proofs.Pieces.{pieces_one}
use Rattle.dg_text.proofs.ReplyWeights.{line_weight}
use Rattle.dg_text.proofs.listing_lines.LinesListing.line.Goals as goal
use Rattle.ufs_model.specs.Listings.{Listed}

one_line : (form : Form) (entry : Listed) → line_in form entry ≡ lines_in form (entry ∷ [])
one_line Directory entry = sym (append-nil (entry_line entry))
one_line Volume entry = sym (append-nil (node_line entry))

-- the line of an entry whose name a directory can have is one call
one_call : {K : Type 0} (sink : Ghosts K) (form : Form) (entry : Listed) (a b : K) → length entry.name ≤ 255
    → LeavesSink sink.whole sink.calls (entry_calls entry) (length (line_in form entry)) a b → LeavesSink sink.whole sink.calls 1 (length (lines_in form (entry ∷ []))) a b
one_call sink form entry a b short calls =
    subst (λ (text : List ℕ). LeavesSink sink.whole sink.calls 1 (length text) a b) (one_line form entry)
    (subst (λ (n : ℕ). LeavesSink sink.whole sink.calls n (length (line_in form entry)) a b) (pieces_one 255 (length entry.name) (omega arith) short) calls)

took_one : {K : Type 0} (sink : Ghosts K) (old new : Lines K) (entry : Listed) → new.form ≡ old.form → new.sink.ghost_name ≡ old.sink.ghost_name
    → Told (Took (line_in old.form entry)) (sink.taken old.sink.now) (sink.taken new.sink.now)
    → length entry.name ≤ 255 → LeavesSink sink.whole sink.calls (entry_calls entry) (length (line_in old.form entry)) old.sink.now new.sink.now → TookEntries sink old (entry ∷ []) new
took_one sink old new entry form same told short calls =
    let P : List ℕ → Type 0 = λ l. Told (Took l) (sink.taken old.sink.now) (sink.taken new.sink.now) in
    record {
      form = form;
      same = same;
      told = subst P (one_line old.form entry) told;
      calls = one_call sink old.form entry old.sink.now new.sink.now short calls;
      few_lines = lines_of_text 255 sink.whole sink.calls sink.taken (entry_calls entry) (length (line_in old.form entry)) (line_in old.form entry) old.sink.now new.sink.now
          (line_weight old.form entry) calls told;
    }

took_part_of_one : {K : Type 0} (sink : Ghosts K) (old new : Lines K) (entry : Listed) → new.form ≡ old.form → new.sink.ghost_name ≡ old.sink.ghost_name
    → Told (TookPart (line_in old.form entry)) (sink.taken old.sink.now) (sink.taken new.sink.now)
    → length entry.name ≤ 255 → LeavesSink sink.whole sink.calls (entry_calls entry) (length (line_in old.form entry)) old.sink.now new.sink.now → TookEntriesPart sink old (entry ∷ []) new
took_part_of_one sink old new entry form same told short calls =
    let P : List ℕ → Type 0 = λ l. Told (TookPart l) (sink.taken old.sink.now) (sink.taken new.sink.now) in
    record { form = form; same = same; told = subst P (one_line old.form entry) told; calls = one_call sink old.form entry old.sink.now new.sink.now short calls }

pub returns-clause-ok : goal.returns-clause-ok
returns-clause-ok g c =
    on_ok_weaker c.write_entry_line.result (λ told. took_one g.K.Sink c.args.self.now _ _ refl refl told c.requires c.write_entry_line.ensures.calls) c.write_entry_line.ensures.ok

pub returns-clause-err : goal.returns-clause-err
returns-clause-err g c =
    on_err_weaker c.write_entry_line.result (λ told. took_part_of_one g.K.Sink c.args.self.now _ _ refl refl told c.requires c.write_entry_line.ensures.calls) c.write_entry_line.ensures.err
