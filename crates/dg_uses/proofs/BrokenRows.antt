-- What a replay prints whose source fails behind the first bytes of a line.
use Rattle.std.proofs.Common.{◌≡◌, ◌∙◌, ℕ, false, List, [], ◌∷◌, ◌++◌, ap, refl, sym}
use Rattle.std.specs.Prelude.{codes}
use Rattle.std.specs.Fmt.{digits}
use Rattle.std.proofs.lemmas.List.{append-nil}
use Rattle.hex.specs.Hex.{encode_with}
use Rattle.dg_io.specs.Racks.{told_in}
use Rattle.dg_io.specs.Sinks.{taken_in}
use Rattle.dg_io.specs.Sources.{left_in}
use Rattle.dg_model.specs.declared.events.Event.TheVariants.{Array}
use Rattle.dg_text.specs.Lines.{input_of}
use Rattle.dg_text.specs.Replies.{output_of}
use Rattle.dg_uses.proofs.Lines.{replied}
use Rattle.dg_uses.proofs.Ran.{ran_answers}
use Rattle.dg_uses.proofs.RefusedRows.{OneLine, all_of}
use Rattle.dg_uses.proofs.Rows.{shape_here, shape_is, written, written_output, written_placed}
use Rattle.dg_uses.proofs.SameLines.{same_input}
use Rattle.dg_uses.specs.Answers.{answers}
use Rattle.dg_uses.specs.Replays.{HasBrokenOff, NeverFailed}
use Rattle.dg_uses.specs.declared.replays.Replay.{Replay}

broken_text : codes "array 1024 64 4 32 2\nwrite 3 6869\nread 3\nre" ≡ input_of (Array shape_here ∷ written) ++ codes "re"
unfolding digits encode_with
broken_text = refl

pub prints_broken : OneLine → (end : Replay) → HasBrokenOff (codes "array 1024 64 4 32 2\nwrite 3 6869\nread 3\nre") end → NeverFailed end → left_in end.source ≡ []
    → taken_in end.sink ≡ codes "ok\nok\ndata 6869\n"
prints_broken one end did never all =
    let broke = did.broke in
    let part = broke.input.part in
    let ends : part ++ left_in end.source ≡ part = ap (λ (l : List ℕ). part ++ l) all ∙ append-nil part in
    let same = same_input one part (codes "re") broke.input.none (all_of (codes "re") refl) broke.events shape_here written broke.ran.in_place shape_is written_placed.1
    (sym (broke.input.split ∙ ap (λ (l : List ℕ). input_of broke.events ++ l) ends) ∙ broken_text) in
    broke.output
    ∙ ap output_of
    (replied shape_here written (answers shape_here (λ q. false) (λ b. []) written) end did.before did.images broke.events broke.replies same broke.ran did.fresh
    (λ replies run. ran_answers (Unit {0}) (told_in end.rack) shape_here written replies tt run) never)
    ∙ written_output
