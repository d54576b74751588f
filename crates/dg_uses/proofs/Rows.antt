-- What replays of some short texts print.
use Rattle.std.proofs.Common.{◌≡◌, ◌<◌, ◌∙◌, ℕ, false, List, [], ◌∷◌, refl, arith, inl, inr}
use Rattle.std.specs.Prelude.{Some, codes}
use Rattle.std.specs.Fmt.{digits}
use Rattle.std.proofs.lemmas.List.Elements.{All-cons, All-nil}
use Rattle.hex.specs.Hex.{encode_with}
use Rattle.dg_io.specs.Racks.{told_in}
use Rattle.dg_io.specs.Sinks.{taken_in}
use Rattle.dg_model.specs.Shapes.{IsShape}
use Rattle.dg_model.specs.States.{has_lost}
use Rattle.dg_model.specs.declared.events.Event.{Event}
use Rattle.dg_model.specs.declared.events.Event.TheVariants.{Array, Fail, Read, Write}
use Rattle.dg_model.specs.declared.replies.Reply.TheVariants.{Done}
use Rattle.dg_model.specs.declared.shapes.Shape.{Shape}
use Rattle.dg_text.specs.Lines.{AreBytes, AreInPlace, IsInPlace, input_of}
use Rattle.dg_text.specs.Replies.{output_of}
use Rattle.dg_uses.proofs.Lines.{OneInput, prints}
use Rattle.dg_uses.proofs.Ran.{ran_answers}
use Rattle.dg_uses.specs.Answers.{StaysWhole, answers, member_by, struck}
use Rattle.dg_uses.specs.Replays.{HasReplayed, NeverFailed}
use Rattle.dg_uses.specs.declared.replays.Replay.{Replay}

abbrev pub shape_here : Shape
shape_here = record { l = 1024; n = 64; b = 4; k = 32; m = 2 }

pub shape_is : IsShape shape_here
shape_is = record {
  block = inr (inl refl);
  least_blocks = omega arith;
  most_blocks = omega arith;
  least_boundaries = omega arith;
  most_boundaries = omega arith;
  least_slots = omega arith;
  most_slots = omega arith;
  room = omega arith;
  sites = omega arith;
  least_places = omega arith;
  most_places = omega arith;
}

abbrev pub IsHere : Event → Type 0
IsHere event = IsInPlace (Some shape_here) event

pub one_byte : (x : ℕ) → x < 256 → AreBytes (x ∷ [])
one_byte x low = All-cons (λ (z : ℕ). z < 256) x [] low (All-nil (λ (z : ℕ). z < 256))

pub two_bytes : (x y : ℕ) → x < 256 → y < 256 → AreBytes (x ∷ y ∷ [])
two_bytes x y low small = All-cons (λ (z : ℕ). z < 256) x (y ∷ []) low (one_byte y small)

-- ---- a block is written and read

abbrev pub written : List Event
written = Write 3 (104 ∷ 105 ∷ []) ∷ Read 3 ∷ []

pub written_placed : AreInPlace (Array shape_here ∷ written)
written_placed = (
  shape_is,
  All-cons IsHere (Write 3 (104 ∷ 105 ∷ [])) (Read 3 ∷ []) (omega arith, omega arith, two_bytes 104 105 (omega arith) (omega arith))
      (All-cons IsHere (Read 3) [] (omega arith) (All-nil IsHere)),
)

written_text : codes "array 1024 64 4 32 2\nwrite 3 6869\nread 3\n" ≡ input_of (Array shape_here ∷ written)
unfolding digits encode_with
written_text = refl

pub written_output : output_of (Done ∷ answers shape_here (λ q. false) (λ b. []) written) ≡ codes "ok\nok\ndata 6869\n"
unfolding encode_with
written_output = refl

pub prints_written : OneInput → (end : Replay) → HasReplayed (codes "array 1024 64 4 32 2\nwrite 3 6869\nread 3\n") end → NeverFailed end
    → taken_in end.sink ≡ codes "ok\nok\ndata 6869\n"
prints_written one end did never =
    prints one shape_here written (answers shape_here (λ q. false) (λ b. []) written) written_placed
    (codes "array 1024 64 4 32 2\nwrite 3 6869\nread 3\n") written_text end
    (λ replies run. ran_answers (Unit {0}) (told_in end.rack) shape_here written replies tt run) did never
    ∙ written_output

-- ---- a member fails between two writes

abbrev failed : List Event
failed = Write 3 (170 ∷ []) ∷ Fail 3 0 ∷ Write 3 (187 ∷ []) ∷ Read 3 ∷ []

failed_placed : AreInPlace (Array shape_here ∷ failed)
failed_placed = (
  shape_is,
  All-cons IsHere (Write 3 (170 ∷ [])) (Fail 3 0 ∷ Write 3 (187 ∷ []) ∷ Read 3 ∷ []) (omega arith, omega arith, one_byte 170 (omega arith))
      (All-cons IsHere (Fail 3 0) (Write 3 (187 ∷ []) ∷ Read 3 ∷ []) (omega arith, omega arith)
      (All-cons IsHere (Write 3 (187 ∷ [])) (Read 3 ∷ []) (omega arith, omega arith, one_byte 187 (omega arith))
      (All-cons IsHere (Read 3) [] (omega arith) (All-nil IsHere)))),
)

failed_text : codes "array 1024 64 4 32 2\nwrite 3 aa\nfail 3 0\nwrite 3 bb\nread 3\n" ≡ input_of (Array shape_here ∷ failed)
unfolding digits encode_with
failed_text = refl

failed_output : output_of (Done ∷ answers shape_here (λ q. false) (λ b. []) failed) ≡ codes "ok\nok\nok\nok\ndata bb\n"
unfolding encode_with
failed_output = refl

-- the other member of the boundary is good still
still_whole : has_lost shape_here (member_by shape_here (struck (λ q. false) 6)) ≡ false
still_whole = refl

failed_whole : StaysWhole shape_here (λ q. false) failed
failed_whole = (record { boundary = omega arith; side = omega arith }, still_whole, tt)

pub prints_failed : OneInput → (end : Replay) → HasReplayed (codes "array 1024 64 4 32 2\nwrite 3 aa\nfail 3 0\nwrite 3 bb\nread 3\n") end → NeverFailed end
    → taken_in end.sink ≡ codes "ok\nok\nok\nok\ndata bb\n"
prints_failed one end did never =
    prints one shape_here failed (answers shape_here (λ q. false) (λ b. []) failed) failed_placed
    (codes "array 1024 64 4 32 2\nwrite 3 aa\nfail 3 0\nwrite 3 bb\nread 3\n") failed_text end
    (λ replies run. ran_answers (Unit {0}) (told_in end.rack) shape_here failed replies failed_whole run) did never
    ∙ failed_output
