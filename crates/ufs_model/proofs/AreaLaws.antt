-- Blocks end to end, read one after the other. For the crates that read a volume.
use Rattle.std.proofs.Common.{◌≡◌, ℕ, zero, suc, ◌+◌, ◌-◌, ◌*◌, ◌≤◌, List, [], ◌++◌, Bool, Some, None, refl, subst, take, drop, arith}
use Rattle.std.proofs.Math.Seq.{take-add}
use Rattle.ufs_model.specs.Blocks.{Volume, area_of, consult}
use Rattle.ufs_model.specs.Readings.{ReadsAs, Grows}
use Rattle.ufs_model.proofs.ReadingLaws.{reads_then, reads_none, reads_known}

pub area_none : {stands : Volume → Type 0} {tells : Type 0} {before after : ℕ → Bool} (l a : ℕ) → ReadsAs stands before tells after (area_of l a 0) (Some [])
unfolding area_of
area_none l a = reads_known []

-- one more block
pub area_more : {stands still : Volume → Type 0} {tells told : Type 0} {before now after : ℕ → Bool} (l a i : ℕ) (x y : List ℕ)
    → Grows before now → Grows now after → ((v : Volume) → stands v → still v) → (told → tells)
    → ReadsAs stands before tells now (area_of l a i) (Some x) → ReadsAs still now told after (consult l (a + i)) (Some y) → ReadsAs stands before told after (area_of l a (suc i)) (Some (x ++ y))
unfolding area_of
area_more l a i x y grows further keeps tell one two =
    reads_then _ grows keeps tell one
    (reads_then _ further (λ v holds. holds) (λ is. is) two (reads_known (x ++ y)))

-- one block that is gone
pub area_fails : {stands still : Volume → Type 0} {tells told : Type 0} {before now after : ℕ → Bool} (l a i : ℕ) (x : List ℕ)
    → Grows before now → ((v : Volume) → stands v → still v) → (told → tells)
    → ReadsAs stands before tells now (area_of l a i) (Some x) → ReadsAs still now told after (consult l (a + i)) None → ReadsAs stands before told after (area_of l a (suc i)) None
unfolding area_of
area_fails l a i x grows keeps tell one two =
    reads_then _ grows keeps tell one (reads_none _ two)

-- where the front isn't read, the whole isn't
area_stays : {stands : Volume → Type 0} {tells : Type 0} {before after : ℕ → Bool} (l a i d : ℕ) → ReadsAs stands before tells after (area_of l a i) None → ReadsAs stands before tells after (area_of l a (d + i)) None
unfolding area_of
area_stays {stands} {tells} {before} {after} l a i zero h = subst (λ k. ReadsAs stands before tells after (area_of l a k) None) (let e : i ≡ 0 + i = omega arith in e) h
area_stays {stands} {tells} {before} {after} l a i (suc d) h =
    subst (λ k. ReadsAs stands before tells after (area_of l a k) None) (let e : suc (d + i) ≡ suc d + i = omega arith in e)
    (reads_none _ (area_stays l a i d h))

pub area_fails_whole : {stands : Volume → Type 0} {tells : Type 0} {before after : ℕ → Bool} (l a i k : ℕ) → i ≤ k → ReadsAs stands before tells after (area_of l a i) None → ReadsAs stands before tells after (area_of l a k) None
area_fails_whole {stands} {tells} {before} {after} l a i k le h =
    subst (λ j. ReadsAs stands before tells after (area_of l a j) None) (let e : (k - i) + i ≡ k = omega arith in e) (area_stays l a i (k - i) h)

-- the buffer has one more block
pub buffer_more : (old new : List ℕ) (i l : ℕ) → take (i * l) new ≡ take (i * l) old
    → take (i * l) old ++ take l (drop (i * l) new) ≡ take (suc i * l) new
buffer_more old new i l front =
    let e : suc i * l ≡ i * l + l = omega arith in
    rw (e, take-add (i * l) l new, front) refl
