-- Lines that are written in pieces.
use Rattle.std.proofs.Common.{◌≡◌, ◌<◌, ◌≤◌, ◌+◌, ◌-◌, ◌/◌, ℕ, List, [], ◌++◌, drop, length, length-append, sym, ◌∙◌, ap, subst, append_assoc, arith}
use Rattle.std.specs.Prelude.{codes, slice_range}
use Rattle.std.proofs.lemmas.List.{length-drop, take_all}
use Rattle.std.proofs.Math.Nat.{add-div_right, div-eq_of_lt}
use Rattle.dg_io.specs.SinkCalls.{LeavesSink}
use Rattle.dg_io.specs.Told.{Told, Took, TookPart}
use Rattle.dg_io.specs.declared.outside.Sink.{Ghosts}
use Rattle.dg_text.specs.LineCalls.{pieces}
use Rattle.dg_text.specs.SinkCallSteps.{leaves_both, leaves_more, leaves_none}
use Rattle.dg_text.specs.ToldSteps.{took_both, took_none, took_part_after, took_part_of_more}

-- a line that holds no more bytes than a piece is one piece
pub pieces_one : (most n : ℕ) → 0 < most → n ≤ most → pieces most n ≡ 1
pieces_one most n some within = ap (λ (k : ℕ). k + 1) (div-eq_of_lt (omega arith))

-- with its first piece taken off, a longer one has a piece less
pub pieces_more : (most n rest : ℕ) → 0 < most → 0 < rest → n ≡ most + rest → pieces most n ≡ pieces most rest + 1
pieces_more most n rest some left is =
    let less : n - 1 ≡ (rest - 1) + most = omega arith in
    ap (λ (k : ℕ). k / most + 1) less ∙ ap (λ (k : ℕ). k + 1) (add-div_right (rest - 1) some)

-- what is left of bytes from a place on
pub to_end : (at : ℕ) (bytes : List ℕ) → slice_range bytes at (length bytes) ≡ drop at bytes
to_end at bytes = take_all (length bytes - at) (drop at bytes) (omega (arith, length-drop at bytes))

-- Some pieces of a line are written: what of it was put out, and by how many calls. Still to come are what stands in front of the rest, the rest as
-- it is spelled, and the LF.
pub record Goes {K : Type 0} (sink : Ghosts K) (spell : List ℕ → List ℕ) (most : ℕ) (text : List ℕ) (count : ℕ) (start : K) (front rest : List ℕ) (now : K) : Type 0 where
  pub done : List ℕ
  pub few : ℕ
  pub whole : done ++ (front ++ (spell rest ++ codes "\n")) ≡ text
  pub told : Told (Took done) (sink.taken start) (sink.taken now)
  pub calls : LeavesSink sink.whole sink.calls few (length done) start now
  pub left : few + pieces most (length rest) ≡ count

module _ {K : Type 0} (sink : Ghosts K) (spell : List ℕ → List ℕ) (both : (a b : List ℕ) → spell (a ++ b) ≡ spell a ++ spell b) (most : ℕ) (text : List ℕ) (count : ℕ) (start : K) where
  pub goes_first : (front bytes : List ℕ) → text ≡ front ++ (spell bytes ++ codes "\n") → count ≡ pieces most (length bytes)
      → Goes sink spell most text count start front bytes start
  goes_first front bytes is counted = record {
    done = [];
    few = 0;
    whole = sym is;
    told = took_none (sink.taken start);
    calls = leaves_none sink.whole sink.calls start;
    left = omega (arith, counted);
  }

  -- the text from the next piece on
  from_piece : (front rest first back line : List ℕ) → rest ≡ first ++ back → line ≡ front ++ spell first
      → line ++ (spell back ++ codes "\n") ≡ front ++ (spell rest ++ codes "\n")
  from_piece front rest first back line is same =
      ap (λ (l : List ℕ). l ++ (spell back ++ codes "\n")) same ∙ append_assoc front (spell first) (spell back ++ codes "\n")
      ∙ ap (λ (l : List ℕ). front ++ l) (sym (append_assoc (spell first) (spell back) (codes "\n")) ∙ ap (λ (l : List ℕ). l ++ codes "\n") (sym (both first back) ∙ ap spell (sym is)))

  -- the next piece is written
  pub goes_on : (front rest first back line : List ℕ) (now next : K) → 0 < most → rest ≡ first ++ back → length first ≡ most → 0 < length back
      → line ≡ front ++ spell first → Goes sink spell most text count start front rest now
      → Told (Took line) (sink.taken now) (sink.taken next) → LeavesSink sink.whole sink.calls 1 (length line) now next
      → Goes sink spell most text count start [] back next
  goes_on front rest first back line now next some is full more same goes told calls =
      let size : length rest ≡ most + length back = ap length is ∙ length-append first back ∙ ap (λ (k : ℕ). k + length back) full in
      let fewer = pieces_more most (length rest) (length back) some more size in
      record {
        done = goes.done ++ line;
        few = goes.few + 1;
        whole =
            append_assoc goes.done line (spell back ++ codes "\n")
            ∙ ap (λ (l : List ℕ). goes.done ++ l) (from_piece front rest first back line is same) ∙ goes.whole;
        told = took_both goes.done line (sink.taken start) (sink.taken now) (sink.taken next) goes.told told;
        calls = leaves_more sink.whole sink.calls _ _ (goes.few + 1) (length (goes.done ++ line)) start next
            (omega arith) (omega (arith, length-append goes.done line))
            (leaves_both sink.whole sink.calls goes.few (length goes.done) 1 (length line) start now next goes.calls calls);
        left = omega (arith, fewer, goes.left);
      }

  -- a part of it is written
  pub goes_part : (front rest first back line : List ℕ) (now next : K) → rest ≡ first ++ back → line ≡ front ++ spell first
      → Goes sink spell most text count start front rest now → Told (TookPart line) (sink.taken now) (sink.taken next)
      → Told (TookPart text) (sink.taken start) (sink.taken next)
  goes_part front rest first back line now next is same goes told =
      let more = took_part_of_more line (spell back ++ codes "\n") (sink.taken now) (sink.taken next) told in
      let P : List ℕ → Type 0 = λ l. Told (TookPart l) (sink.taken start) (sink.taken next) in
      subst P (ap (λ (l : List ℕ). goes.done ++ l) (from_piece front rest first back line is same) ∙ goes.whole)
      (took_part_after goes.done (line ++ (spell back ++ codes "\n")) (sink.taken start) (sink.taken now) (sink.taken next) goes.told more)

  -- one call more is made for a part of what is still to come
  pub goes_calls : (front rest piece : List ℕ) (now next : K) → length piece ≤ length (front ++ (spell rest ++ codes "\n"))
      → Goes sink spell most text count start front rest now → LeavesSink sink.whole sink.calls 1 (length piece) now next
      → LeavesSink sink.whole sink.calls count (length text) start next
  goes_calls front rest piece now next within goes calls =
      let size : length text ≡ length goes.done + length (front ++ (spell rest ++ codes "\n")) = ap length (sym goes.whole) ∙ length-append goes.done (front ++ (spell rest ++ codes "\n")) in
      leaves_more sink.whole sink.calls _ _ count (length text) start next (omega (arith, goes.left)) (omega (arith, size, within))
      (leaves_both sink.whole sink.calls goes.few (length goes.done) 1 (length piece) start now next goes.calls calls)

  pub goes_part_calls : (front rest first back line : List ℕ) (now next : K) → rest ≡ first ++ back → line ≡ front ++ spell first
      → Goes sink spell most text count start front rest now → LeavesSink sink.whole sink.calls 1 (length line) now next
      → LeavesSink sink.whole sink.calls count (length text) start next
  goes_part_calls front rest first back line now next is same goes calls =
      let size = ap length (from_piece front rest first back line is same) in
      goes_calls front rest line now next (omega (arith, size, length-append line (spell back ++ codes "\n"))) goes calls

  -- the last piece is written
  pub goes_last : (front rest line : List ℕ) (now next : K) → line ≡ front ++ (spell rest ++ codes "\n") → Goes sink spell most text count start front rest now
      → Told (Took line) (sink.taken now) (sink.taken next) → Told (Took text) (sink.taken start) (sink.taken next)
  goes_last front rest line now next is goes told =
      let P : List ℕ → Type 0 = λ l. Told (Took l) (sink.taken start) (sink.taken next) in
      subst P (ap (λ (l : List ℕ). goes.done ++ l) is ∙ goes.whole) (took_both goes.done line (sink.taken start) (sink.taken now) (sink.taken next) goes.told told)

  pub goes_last_part : (front rest line : List ℕ) (now next : K) → line ≡ front ++ (spell rest ++ codes "\n") → Goes sink spell most text count start front rest now
      → Told (TookPart line) (sink.taken now) (sink.taken next) → Told (TookPart text) (sink.taken start) (sink.taken next)
  goes_last_part front rest line now next is goes told =
      let P : List ℕ → Type 0 = λ l. Told (TookPart l) (sink.taken start) (sink.taken next) in
      subst P (ap (λ (l : List ℕ). goes.done ++ l) is ∙ goes.whole) (took_part_after goes.done line (sink.taken start) (sink.taken now) (sink.taken next) goes.told told)

  pub goes_last_calls : (front rest line : List ℕ) (now next : K) → line ≡ front ++ (spell rest ++ codes "\n") → Goes sink spell most text count start front rest now
      → LeavesSink sink.whole sink.calls 1 (length line) now next → LeavesSink sink.whole sink.calls count (length text) start next
  goes_last_calls front rest line now next is goes calls =
      let size = ap length is in
      goes_calls front rest line now next (omega (arith, size)) goes calls
