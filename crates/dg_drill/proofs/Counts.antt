-- How many files were given, one reply after another.
use Rattle.std.proofs.Common.{◌≡◌, ◌+◌, ◌++◌, ℕ, suc, List, [], ◌∷◌, length, ap, arith}
use Rattle.std.specs.Prelude.{if◌then◌else◌}
use Rattle.dg_model.specs.declared.replies.Reply.{Reply}
use Rattle.ufs_drill.specs.Items.{file_bytes}
use Rattle.dg_drill.specs.Reports.{given_bytes, given_count, gives, is_unavailable, unavailable_count}

-- what the reply to the reading of file k adds
abbrev pub given_more : ℕ → ℕ → Reply → ℕ
given_more seed k reply = if gives (file_bytes seed k) reply then 1 else 0

abbrev pub bytes_more : ℕ → ℕ → Reply → ℕ
bytes_more seed k reply = if gives (file_bytes seed k) reply then length (file_bytes seed k) else 0

abbrev pub unavailable_more : Reply → ℕ
unavailable_more reply = if is_unavailable reply then 1 else 0

step_at : (f : ℕ → ℕ) (k n : ℕ) → f (suc k + n) ≡ f (k + suc n)
step_at f k n = ap f (let e : suc k + n ≡ k + suc n = omega arith in e)

pub given_push : (seed k : ℕ) (replies : List Reply) (reply : Reply)
    → given_count seed k (replies ++ reply ∷ []) ≡ given_count seed k replies + given_more seed (k + length replies) reply
given_push seed k [] reply =
    let here : given_more seed (k + 0) reply ≡ given_more seed k reply = ap (λ (n : ℕ). given_more seed n reply) (let e : k + 0 ≡ k = omega arith in e) in
    omega (arith, here)
given_push seed k (first ∷ rest) reply =
    let later = given_push seed (suc k) rest reply in
    let same = step_at (λ (n : ℕ). given_more seed n reply) k (length rest) in
    omega (arith, later, same)

pub bytes_push : (seed k : ℕ) (replies : List Reply) (reply : Reply)
    → given_bytes seed k (replies ++ reply ∷ []) ≡ given_bytes seed k replies + bytes_more seed (k + length replies) reply
bytes_push seed k [] reply =
    let here : bytes_more seed (k + 0) reply ≡ bytes_more seed k reply = ap (λ (n : ℕ). bytes_more seed n reply) (let e : k + 0 ≡ k = omega arith in e) in
    omega (arith, here)
bytes_push seed k (first ∷ rest) reply =
    let later = bytes_push seed (suc k) rest reply in
    let same = step_at (λ (n : ℕ). bytes_more seed n reply) k (length rest) in
    omega (arith, later, same)

pub unavailable_push : (replies : List Reply) (reply : Reply)
    → unavailable_count (replies ++ reply ∷ []) ≡ unavailable_count replies + unavailable_more reply
unavailable_push [] reply = omega arith
unavailable_push (first ∷ rest) reply = let later = unavailable_push rest reply in omega (arith, later)
