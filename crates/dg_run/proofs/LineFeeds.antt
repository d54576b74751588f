-- Bytes without a line feed.
use Rattle.std.proofs.Common.{◌≡◌, [], ◌∷◌, ℕ, ◌+◌, ◌≤◌, List, ◌++◌, length, take, drop, refl, sym, ◌∙◌, ap, subst, arith, append_assoc, length-append, take-append-drop, take_at, ◌≢◌}
use Rattle.std.proofs.Math.Seq.{take-add, get_or-append_seam}
use Rattle.std.proofs.lemmas.List.{drop-drop, take-append-le}
use Rattle.std.proofs.lemmas.List.Elements.{All-append, All-take}
use Rattle.std.proofs.lemmas.Grind.{common_steps}
use Rattle.dg_run.specs.Bytes.{HasNoLineFeed}

pub none_behind : (bytes : List ℕ) (seen i : ℕ) → HasNoLineFeed (take seen bytes) → HasNoLineFeed (take i (drop seen bytes)) → HasNoLineFeed (take (seen + i) bytes)
none_behind bytes seen i front behind =
    subst HasNoLineFeed (sym (take-add seen i bytes)) (All-append (λ byte. byte ≢ 10) (take seen bytes) (take i (drop seen bytes)) front behind)

pub none_shorter : (bytes : List ℕ) (m n : ℕ) → m ≤ n → HasNoLineFeed (take n bytes) → HasNoLineFeed (take m bytes)
none_shorter bytes m n h none =
    let e : take m (take n bytes) ≡ take m bytes = grind (arith, common_steps) in
    subst HasNoLineFeed e (All-take (λ byte. byte ≢ 10) m (take n bytes) none)

pub none_whole : (bytes : List ℕ) (seen : ℕ) → HasNoLineFeed (take seen bytes) → HasNoLineFeed (drop seen bytes) → HasNoLineFeed bytes
none_whole bytes seen front behind =
    subst HasNoLineFeed (take-append-drop seen bytes) (All-append (λ byte. byte ≢ 10) (take seen bytes) (drop seen bytes) front behind)

-- the first line feed behind the first bytes is that of all
pub found_behind : (bytes : List ℕ) (seen i : ℕ) → drop seen bytes ≡ take i (drop seen bytes) ++ 10 ∷ drop (i + 1) (drop seen bytes) → bytes ≡ take (seen + i) bytes ++ 10 ∷ drop (seen + i + 1) bytes
found_behind bytes seen i is =
    let rest = 10 ∷ drop (seen + i + 1) bytes in
    let e : i + 1 + seen ≡ seen + i + 1 = omega arith in
    let d : drop (i + 1) (drop seen bytes) ≡ drop (seen + i + 1) bytes = drop-drop (i + 1) seen bytes ∙ ap (λ (n : ℕ). drop n bytes) (omega arith) in
    sym (take-append-drop seen bytes)
    ∙ ap (λ (l : List ℕ). take seen bytes ++ l) (is ∙ ap (λ (l : List ℕ). take i (drop seen bytes) ++ 10 ∷ l) d)
    ∙ sym (append_assoc (take seen bytes) (take i (drop seen bytes)) rest)
    ∙ ap (λ (l : List ℕ). l ++ rest) (sym (take-add seen i bytes))

-- a front without a line feed, before more
pub none_in_front : (bytes more : List ℕ) (limit : ℕ) → limit ≤ length bytes → HasNoLineFeed (take limit bytes) → HasNoLineFeed (take limit (bytes ++ more))
none_in_front bytes more limit h none = subst HasNoLineFeed (sym (take-append-le limit bytes more h)) none

-- a text whose first bytes have no line feed begins with no short line
pub no_short_line : (text spelling tail : List ℕ) (limit : ℕ) → text ≡ (spelling ++ 10 ∷ []) ++ tail → length (spelling ++ 10 ∷ []) ≤ limit → HasNoLineFeed (take limit text) → ⊥
no_short_line text spelling tail limit is h none =
    let line = spelling ++ 10 ∷ [] in
    let front : take (length line) text ≡ line = ap (λ (l : List ℕ). take (length line) l) is ∙ take_at line tail (length line) refl in
    let shorter = subst HasNoLineFeed front (none_shorter text (length line) limit h none) in
    let n = length spelling in
    let size = length-append spelling (10 ∷ []) in
    shorter n 10 (omega arith) (get_or-append_seam spelling 10 [] 10)
