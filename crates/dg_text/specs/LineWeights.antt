-- How many calls may write a text, where each takes a line or 255 bytes: one for each line of it, and for each line in pieces of 255 bytes or more.
use Rattle.std.proofs.Common.{◌≡◌, ◌≤◌, ◌+◌, ◌*◌, ◌-◌, ◌/◌, ◌==◌, ℕ, List, [], ◌∷◌, ◌++◌, length, refl, sym, subst, arith}
use Rattle.std.specs.Prelude.{codes, Result, OnOk, if◌then◌else◌}
use Rattle.std.specs.Fmt.{decimal}
use Rattle.std.specs.List.{flat_map, sum_by}
use Rattle.std.proofs.Math.Nat.{mul-div-le, mul-le-mul_left, mul-le-mul_right}
use Rattle.std.proofs.lemmas.List.{length-append}
use Rattle.std.proofs.lemmas.List.Sums.{sum_by-append, sum_by-cons}
use Rattle.std.proofs.lemmas.Result.{on_ok_weaker}
use Rattle.dg_io.specs.SinkCalls.{LeavesSink}
use Rattle.dg_io.specs.SinkLines.{LeavesLines, MayWrite, feeds_in, lines_of_text}
use Rattle.dg_io.specs.Told.{Told, Took}
use Rattle.dg_io.specs.declared.outside.Sink.{Ghosts}
use Rattle.dg_text.specs.LineCalls.{pieces}

-- the line feeds of a text, and of what stands behind it
pub feeds_both : (a text : List ℕ) → feeds_in (a ++ text) ≡ feeds_in a + feeds_in text
feeds_both a text = sum_by-append (λ byte. if byte == 10 then 1 else 0) a text

-- what ends a line has a line feed
pub feed_last : (words : List ℕ) → 1 ≤ feeds_in (words ++ codes "\n")
feed_last words =
    let one : feeds_in (codes "\n") ≡ 1 = refl in
    omega (arith, feeds_both words (codes "\n"), one)

pub feed_behind : (front text : List ℕ) → 1 ≤ feeds_in text → 1 ≤ feeds_in (front ++ text)
feed_behind front text some = omega (arith, feeds_both front text, some)

pub feed_ahead : (text rest : List ℕ) → 1 ≤ feeds_in text → 1 ≤ feeds_in (text ++ rest)
feed_ahead text rest some = omega (arith, feeds_both text rest, some)

-- a line of a word and a number
pub feed_number : (word : List ℕ) (n : ℕ) → 1 ≤ feeds_in (word ++ (decimal n ++ codes "\n"))
feed_number word n = feed_behind word (decimal n ++ codes "\n") (feed_last (decimal n))

-- one call, for a line
pub may_line : (w : ℕ) (text : List ℕ) → 1 ≤ feeds_in text → MayWrite w 1 text
may_line w text some =
    let more : w * 1 ≤ w * feeds_in text = mul-le-mul_left w some in
    omega (arith, more)

-- calls for a text, and for another
pub may_both : (m n : ℕ) (s text : List ℕ) → MayWrite 255 m s → MayWrite 255 n text → MayWrite 255 (m + n) (s ++ text)
may_both m n s text first second = omega (arith, feeds_both s text, length-append s text, first, second)

-- a line in pieces that are no shorter
pub may_pieces : (most n : ℕ) (text : List ℕ) → 255 ≤ most → n ≤ length text → 1 ≤ feeds_in text → MayWrite 255 (pieces most n) text
may_pieces most n text long within some =
    let all : most * ((n - 1) / most) ≤ n - 1 = mul-div-le (n - 1) most in
    let fewer : 255 * ((n - 1) / most) ≤ most * ((n - 1) / most) = mul-le-mul_right ((n - 1) / most) long in
    omega (arith, all, fewer, within, some)

-- lines, and the one that ends them
pub may_ended : (few : ℕ) (text words : List ℕ) → MayWrite 255 few text → MayWrite 255 (few + 1) ((text ++ words) ++ codes "\n")
may_ended few text words may = omega (arith, feeds_both (text ++ words) (codes "\n"), feeds_both text words, length-append (text ++ words) (codes "\n"), length-append text words, may)

-- as many calls for each item of a list as may write its line
pub may_lines : {A : Type 0} (line_of : A → List ℕ) (count : A → ℕ) (xs : List A) → ((x : A) → MayWrite 255 (count x) (line_of x))
    → MayWrite 255 (sum_by count xs) (flat_map line_of xs)
may_lines line_of count [] each = omega arith
may_lines line_of count (x ∷ xs) each =
    subst (λ (few : ℕ). MayWrite 255 few (flat_map line_of (x ∷ xs))) (sym (sum_by-cons count x xs))
    (may_both (count x) (sum_by count xs) (line_of x) (flat_map line_of xs) (each x) (may_lines line_of count xs each))

-- one call for each item
pub may_each : {A : Type 0} (line_of : A → List ℕ) (xs : List A) → ((x : A) → 1 ≤ feeds_in (line_of x)) → MayWrite 255 (length xs) (flat_map line_of xs)
may_each line_of [] each = omega arith
may_each line_of (x ∷ xs) each =
    omega (arith, may_both 1 (length xs) (line_of x) (flat_map line_of xs) (may_line 255 (line_of x) (each x)) (may_each line_of xs each))

-- what was written leaves no more calls than its lines and bytes allow
pub leaves_lines : {K : Type 0} (sink : Ghosts K) {T E : Type 0} (result : Result T E) (few each : ℕ) (text : List ℕ) (a b : K) → MayWrite 255 few text
    → LeavesSink sink.whole sink.calls few each a b → OnOk result (Told (Took text) (sink.taken a) (sink.taken b))
    → OnOk result (LeavesLines 255 sink.whole sink.calls sink.taken a b)
leaves_lines sink result few each text a b may leaves took =
    on_ok_weaker result (λ told. lines_of_text 255 sink.whole sink.calls sink.taken few each text a b may leaves told) took

-- the same of a line that was written by one call
pub leaves_line : {K : Type 0} (sink : Ghosts K) {T E : Type 0} (result : Result T E) (each : ℕ) (line text : List ℕ) (a b : K) → line ≡ text → 1 ≤ feeds_in text
    → LeavesSink sink.whole sink.calls 1 each a b → OnOk result (Told (Took line) (sink.taken a) (sink.taken b))
    → OnOk result (LeavesLines 255 sink.whole sink.calls sink.taken a b)
leaves_line sink result each line text a b is some leaves took =
    leaves_lines sink result 1 each line a b (may_line 255 line (subst (λ (l : List ℕ). 1 ≤ feeds_in l) (sym is) some)) leaves took
