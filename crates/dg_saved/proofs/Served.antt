-- An event on an opened volume was answered.
use Rattle.std.proofs.Common.{◌≡◌, ◌∙◌, ◌<◌, ◌++◌, ℕ, List, ap, append_assoc, refl, sym, subst, arith, inl, inr}
use Rattle.std.specs.Prelude.{Bool, true, false, Option, codes, length}
use Rattle.std.specs.Fmt.{decimal}
use Rattle.std.specs.List.{concat}
use Rattle.dg_io.specs.Told.{Told, Took, TookPart}
use Rattle.dg_io.specs.declared.outside.Rack.{Ghosts}
use Rattle.dg_model.specs.Lists.{AreLines}
use Rattle.dg_model.specs.Shapes.{IsShape}
use Rattle.dg_model.specs.declared.events.Event.{Event}
use Rattle.dg_model.specs.declared.events.Event.TheVariants.{Cat, Ls}
use Rattle.dg_model.specs.declared.replies.Reply.{Reply}
use Rattle.dg_model.specs.declared.replies.Reply.TheVariants.{Cut, Given, Listed as ListedReply, ListedCut}
use Rattle.dg_model.specs.declared.shapes.Shape.{Shape}
use Rattle.dg_model.proofs.Lined.{in_lines}
use Rattle.dg_saved.specs.PathReplies.{IsPlain}
use Rattle.dg_saved.specs.Serves.{EndsNothing, EndsServed, Served, ServedPart, Steps}
use Rattle.dg_saved.specs.Texts.{cat_text, gives_file, gives_listing, ls_text}
use Rattle.dg_saved.specs.declared.ends.SavedEnd.{SavedEnd}
use Rattle.dg_saved.specs.declared.ends.SavedEnd.TheVariants.{Done, NoState, Refused, Unclean, WriteFault}
use Rattle.dg_text.specs.HexLines.{last_line}
use Rattle.dg_text.specs.Replies.{entries_text, reply_line}
use Rattle.dg_text.specs.ToldSteps.{took_both, took_part_after, took_part_of_more}
use Rattle.dg_volume.specs.Volumes.{StepsBy, StepsTo, any_phase}
use Rattle.dg_volume.specs.declared.phases.AnyPhase.{AnyPhase}
use Rattle.dg_volume.specs.declared.volumes.Volume.{Volume}
use Rattle.ufs_model.specs.Listings.{Listed}

-- a block has bytes
pub some_bytes : (shape : Shape) → IsShape shape → 0 < shape.l
some_bytes shape h = elim h.block [
  | inl a ↦ omega (arith, a)
  | inr (inl b) ↦ omega (arith, b)
  | inr (inr (inl c)) ↦ omega (arith, c)
  | inr (inr (inr d)) ↦ omega (arith, d)
]

-- entries, and the line that ends them, are the reply's lines
listing_line : (entries : List Listed) (n : ℕ) → length entries ≡ n → entries_text entries ++ last_line (codes "end ") n ≡ reply_line (ListedReply entries)
listing_line entries n size =
    ap (λ (k : ℕ). entries_text entries ++ last_line (codes "end ") k) (sym size)
    ∙ sym (append_assoc (entries_text entries) (codes "end " ++ decimal (length entries)) (codes "\n")
    ∙ ap (λ (l : List ℕ). entries_text entries ++ l) (append_assoc (codes "end ") (decimal (length entries)) (codes "\n")))

module _ {R : Type 0} (rack : Ghosts R) (old new : Volume AnyPhase R) where
  pub steps : (touch : List ℕ → List ℕ) (event : Event) (reply : Reply) → StepsBy any_phase any_phase rack touch old event reply new → Steps rack old event reply new
  steps touch event reply by origin state st = let one = by origin state st in (one.0, one.1, one.2)

  -- a file was given
  pub file_given : (touch : List ℕ → List ℕ) (l : ℕ) (path bytes : List ℕ) (x y : Option (List ℕ)) → 0 < l
      → ((lines : List (List ℕ)) → AreLines l lines → concat lines ≡ bytes → StepsBy any_phase any_phase rack touch old (Cat path) (Given lines) new)
      → Told (Took bytes) x y → Served rack old (Cat path) cat_text gives_file true x y new
  file_given touch l path bytes x y some gives told =
      let file = in_lines l (length bytes) bytes some (omega arith) in
      record {
        reply = Given file.lines;
        steps = steps touch (Cat path) (Given file.lines) (gives file.lines file.are file.whole);
        kind_is = refl;
        output = subst (λ (b : List ℕ). Told (Took b) x y) (sym file.whole) told;
      }

  -- a file was cut
  pub file_cut : (l : ℕ) (path bytes : List ℕ) (x y : Option (List ℕ)) → 0 < l
      → ((lines : List (List ℕ)) → AreLines l lines → concat lines ≡ bytes → StepsTo any_phase any_phase rack old (Cat path) (Cut lines) new)
      → Told (Took bytes) x y → Served rack old (Cat path) cat_text gives_file false x y new
  file_cut l path bytes x y some gives told =
      let file = in_lines l (length bytes) bytes some (omega arith) in
      record {
        reply = Cut file.lines;
        steps = steps (λ recent. recent) (Cat path) (Cut file.lines) (gives file.lines file.are file.whole);
        kind_is = refl;
        output = subst (λ (b : List ℕ). Told (Took b) x y) (sym file.whole) told;
      }

  -- the sink failed at a file
  pub file_part : (touch : List ℕ → List ℕ) (l : ℕ) (path bytes : List ℕ) (x y : Option (List ℕ)) → 0 < l
      → ((lines : List (List ℕ)) → AreLines l lines → concat lines ≡ bytes → StepsBy any_phase any_phase rack touch old (Cat path) (Given lines) new)
      → Told (TookPart bytes) x y → ServedPart rack old (Cat path) cat_text x y new
  file_part touch l path bytes x y some gives told =
      let file = in_lines l (length bytes) bytes some (omega arith) in
      record {
        reply = Given file.lines;
        steps = steps touch (Cat path) (Given file.lines) (gives file.lines file.are file.whole);
        output = subst (λ (b : List ℕ). Told (TookPart b) x y) (sym file.whole) told;
      }

  -- nothing was given at the path, by a reply that is one line and whose text for such an event is its line
  refused : (event : Event) (reply : Reply) (text : Reply → List ℕ) (gives : Reply → Bool) (x y : Option (List ℕ)) (end : SavedEnd) → gives reply ≡ false → text reply ≡ reply_line reply
      → StepsTo any_phase any_phase rack old event reply new → EndsNothing (reply_line reply) x y end → EndsServed rack old event text gives x y new end
  refused event reply text gives x y Done none line by told = absurd told
  refused event reply text gives x y Refused none line by told = record {
    reply = reply;
    steps = steps (λ recent. recent) event reply by;
    kind_is = none;
    output = subst (λ (t : List ℕ). Told (Took t) x y) (sym line) told;
  }
  refused event reply text gives x y NoState none line by told = absurd told
  refused event reply text gives x y Unclean none line by told = absurd told
  refused event reply text gives x y WriteFault none line by told = record {
    reply = reply;
    steps = steps (λ recent. recent) event reply by;
    output = subst (λ (t : List ℕ). Told (TookPart t) x y) (sym line) told;
  }

  pub file_refused : (path : List ℕ) (reply : Reply) (x y : Option (List ℕ)) (end : SavedEnd) → IsPlain reply → StepsTo any_phase any_phase rack old (Cat path) reply new
      → EndsNothing (reply_line reply) x y end → EndsServed rack old (Cat path) cat_text gives_file x y new end
  file_refused path reply x y end plain by told = refused (Cat path) reply cat_text gives_file x y end plain.no_file plain.file_line by told

  pub listing_refused : (path : List ℕ) (reply : Reply) (x y : Option (List ℕ)) (end : SavedEnd) → IsPlain reply → StepsTo any_phase any_phase rack old (Ls path) reply new
      → EndsNothing (reply_line reply) x y end → EndsServed rack old (Ls path) ls_text gives_listing x y new end
  listing_refused path reply x y end plain by told = refused (Ls path) reply ls_text gives_listing x y end plain.no_listing plain.listing_line by told

  -- a directory was listed: its entries, and the line that ends them
  pub listing_given : (path : List ℕ) (entries : List Listed) (n : ℕ) (x m y : Option (List ℕ)) → length entries ≡ n
      → StepsTo any_phase any_phase rack old (Ls path) (ListedReply entries) new → Told (Took (entries_text entries)) x m → Told (Took (last_line (codes "end ") n)) m y
      → Served rack old (Ls path) ls_text gives_listing true x y new
  listing_given path entries n x m y size by first last = record {
    reply = ListedReply entries;
    steps = steps (λ recent. recent) (Ls path) (ListedReply entries) by;
    kind_is = refl;
    output = subst (λ (t : List ℕ). Told (Took t) x y) (listing_line entries n size) (took_both (entries_text entries) (last_line (codes "end ") n) x m y first last);
  }

  -- the sink failed at its last line
  pub listing_end_part : (path : List ℕ) (entries : List Listed) (n : ℕ) (x m y : Option (List ℕ)) → length entries ≡ n
      → StepsTo any_phase any_phase rack old (Ls path) (ListedReply entries) new → Told (Took (entries_text entries)) x m → Told (TookPart (last_line (codes "end ") n)) m y
      → ServedPart rack old (Ls path) ls_text x y new
  listing_end_part path entries n x m y size by first last = record {
    reply = ListedReply entries;
    steps = steps (λ recent. recent) (Ls path) (ListedReply entries) by;
    output = subst (λ (t : List ℕ). Told (TookPart t) x y) (listing_line entries n size) (took_part_after (entries_text entries) (last_line (codes "end ") n) x m y first last);
  }

  -- or at its entries
  pub listing_part : (path : List ℕ) (entries : List Listed) (x y : Option (List ℕ)) → StepsTo any_phase any_phase rack old (Ls path) (ListedReply entries) new
      → Told (TookPart (entries_text entries)) x y → ServedPart rack old (Ls path) ls_text x y new
  listing_part path entries x y by told = record {
    reply = ListedReply entries;
    steps = steps (λ recent. recent) (Ls path) (ListedReply entries) by;
    output = subst (λ (t : List ℕ). Told (TookPart t) x y) (listing_line entries (length entries) refl)
        (took_part_of_more (entries_text entries) (last_line (codes "end ") (length entries)) x y told);
  }

  -- a listing was cut
  pub listing_cut : (path : List ℕ) (entries : List Listed) (x y : Option (List ℕ)) → StepsTo any_phase any_phase rack old (Ls path) (ListedCut entries) new
      → Told (Took (entries_text entries)) x y → Served rack old (Ls path) ls_text gives_listing false x y new
  listing_cut path entries x y by told = record {
    reply = ListedCut entries;
    steps = steps (λ recent. recent) (Ls path) (ListedCut entries) by;
    kind_is = refl;
    output = told;
  }
