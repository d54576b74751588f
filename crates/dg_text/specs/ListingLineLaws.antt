-- How what a receiver takes goes on from some entries to the next.
use Rattle.std.proofs.Common.{◌≡◌, ◌≤◌, List, [], ◌++◌, length, length-append, refl, sym, ◌∙◌, subst, arith}
use Rattle.std.proofs.lemmas.Grind.{flat_map-append}
use Rattle.dg_io.specs.SinkLines.{lines_both as lines_on, lines_none}
use Rattle.dg_io.specs.declared.outside.Sink.{Ghosts}
use Rattle.dg_text.specs.Replies.{entry_line, node_line}
use Rattle.dg_text.specs.Listings.{lines_in}
use Rattle.dg_text.specs.declared.listings.Form.{Form}
use Rattle.dg_text.specs.declared.listings.Form.TheVariants.{Directory, Volume}
use Rattle.dg_text.specs.ListingLines.{TookEntries, TookEntriesPart}
use Rattle.dg_text.specs.declared.listing_lines.Lines.{Lines}
use Rattle.dg_text.specs.WrittenTexts.{Wrote, WrotePart, wrote_none, wrote_both, wrote_part_after, wrote_part_of_more}
use Rattle.ufs_model.specs.Listings.{Listed}

pub lines_both : (form : Form) (first second : List Listed) → lines_in form first ++ lines_in form second ≡ lines_in form (first ++ second)
lines_both Directory first second = sym (flat_map-append entry_line first second)
lines_both Volume first second = sym (flat_map-append node_line first second)

no_lines : (form : Form) → lines_in form [] ≡ []
no_lines Directory = refl
no_lines Volume = refl

pub took_no_entry : {K : Type 0} (sink : Ghosts K) (s : Lines K) → TookEntries sink s [] s
took_no_entry sink s =
    let none = wrote_none sink (lines_in s.form []) 0 s.sink.now (no_lines s.form) in
    record { form = refl; same = refl; told = none.0; calls = none.1; few_lines = lines_none 255 sink.whole sink.calls sink.taken s.sink.now }

pub took_entries : {K : Type 0} (sink : Ghosts K) (a b c : Lines K) (x y : List Listed) → TookEntries sink a x b → TookEntries sink b y c → TookEntries sink a (x ++ y) c
took_entries sink a b c x y first second =
    let P : Form → Type 0 = λ form. Wrote sink (lines_in form y) (length y) b.sink.now c.sink.now in
    let all =
    wrote_both sink (lines_in a.form x) (lines_in a.form y) (lines_in a.form (x ++ y)) (length x) (length y) (length (x ++ y)) a.sink.now b.sink.now c.sink.now
    (lines_both a.form x y) (sym (length-append x y)) (first.told, first.calls) (subst P first.form (second.told, second.calls)) in
    record {
      form = second.form ∙ first.form;
      same = second.same ∙ first.same;
      told = all.0;
      calls = all.1;
      few_lines = lines_on 255 sink.whole sink.calls sink.taken a.sink.now b.sink.now c.sink.now first.few_lines second.few_lines;
    }

pub took_entries_part : {K : Type 0} (sink : Ghosts K) (a b c : Lines K) (x y : List Listed) → TookEntries sink a x b → TookEntriesPart sink b y c → TookEntriesPart sink a (x ++ y) c
took_entries_part sink a b c x y first second =
    let P : Form → Type 0 = λ form. WrotePart sink (lines_in form y) (length y) b.sink.now c.sink.now in
    let all =
    wrote_part_after sink (lines_in a.form x) (lines_in a.form y) (lines_in a.form (x ++ y)) (length x) (length y) (length (x ++ y)) a.sink.now b.sink.now c.sink.now
    (lines_both a.form x y) (sym (length-append x y)) (first.told, first.calls) (subst P first.form (second.told, second.calls)) in
    record { form = second.form ∙ first.form; same = second.same ∙ first.same; told = all.0; calls = all.1 }

pub took_part_of_entries : {K : Type 0} (sink : Ghosts K) (a b : Lines K) (x y : List Listed) → TookEntriesPart sink a x b → TookEntriesPart sink a (x ++ y) b
took_part_of_entries sink a b x y part =
    let fewer : length x ≤ length (x ++ y) = omega (arith, length-append x y) in
    let all =
    wrote_part_of_more sink (lines_in a.form x) (lines_in a.form y) (lines_in a.form (x ++ y)) (length x) (length (x ++ y)) a.sink.now b.sink.now (lines_both a.form x y) fewer (part.told, part.calls) in
    record { form = part.form; same = part.same; told = all.0; calls = all.1 }
