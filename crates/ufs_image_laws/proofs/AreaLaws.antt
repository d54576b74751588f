-- The blocks of an image, as they are read.
use Rattle.std.proofs.Common.{◌≡◌, ◌∙◌, ℕ, zero, suc, ◌+◌, ◌-◌, ◌*◌, ◌<◌, ◌≤◌, List, ◌++◌, take, drop, min, sym, ap, arith}
use Rattle.std.specs.Prelude.{replicate}
use Rattle.std.proofs.Math.Seq.{take-add}
use Rattle.std.proofs.lemmas.List.{append-nil, drop-drop}
use Rattle.std.proofs.lemmas.List.FromFn.{get_or-map-range_with_len}
use Rattle.ufs_model.specs.Blocks.{area_of, area_within, bind, block_at}
use Rattle.ufs_build.specs.Traces.{block_in}
use Rattle.ufs_image_laws.specs.Built.{blocks_in}

pub block_is : (l n : ℕ) (image : List ℕ) (b : ℕ) → b < n → block_at l (blocks_in l n image) b ≡ block_in l image b
unfolding blocks_in
block_is l n image b low = get_or-map-range_with_len (block_in l image) 0 n b b (replicate l 0) low (omega arith)

pub area_is : (l n a k : ℕ) (image : List ℕ) → a + k ≤ n → (area_of l a k (blocks_in l n image)).value ≡ take (k * l) (drop (a * l) image)
unfolding area_of bind
area_is l n a zero image fits = ap (λ (m : ℕ). take m (drop (a * l) image)) (let e : 0 ≡ 0 * l = omega arith in e)
area_is l n a (suc k) image fits =
    let front = area_is l n a k image (omega arith) in
    let last = block_is l n image (a + k) (omega arith) in
    let place : (a + k) * l ≡ a * l + k * l = grind arith in
    let rest : block_in l image (a + k) ≡ take l (drop (k * l) (drop (a * l) image)) =
    ap (λ (m : ℕ). take l (drop m image)) place ∙ ap (take l) (sym (drop-drop (k * l) (a * l) image)) in
    let whole : suc k * l ≡ k * l + l = grind arith in
    ap (λ (xs : List ℕ). xs ++ block_at l (blocks_in l n image) (a + k)) front
    ∙ ap (λ (xs : List ℕ). take (k * l) (drop (a * l) image) ++ xs) (last ∙ rest)
    ∙ sym (ap (λ (m : ℕ). take m (drop (a * l) image)) whole ∙ take-add (k * l) l (drop (a * l) image))

pub area_within_is : (l n a k : ℕ) (image : List ℕ) → a + k ≤ n → (area_within l n a k (blocks_in l n image)).value ≡ take (k * l) (drop (a * l) image)
unfolding area_within bind
area_within_is l n a k image fits =
    let all : min k (n - a) ≡ k = omega arith in
    let none : (k - k) * l ≡ 0 = let e : k - k ≡ 0 = omega arith in rw e (let z : 0 * l ≡ 0 = omega arith in z) in
    rw (all, none) (append-nil ((area_of l a k (blocks_in l n image)).value) ∙ area_is l n a k image fits)
