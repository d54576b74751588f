-- Blocks in a row, end to end.
use Rattle.std.proofs.Common.{◌≡◌, ℕ, zero, suc, ◌+◌, ◌<◌, ◌≤◌, ◌++◌, ◌∙◌, [], inl, inr, refl, ap, arith, Contains}
use Rattle.std.proofs.lemmas.Bool.{cases_eq}
use Rattle.ufs_model.specs.Blocks.{Volume, area_of, bind, block_at}
use Rattle.dg_infer.proofs.ListLaws.{contains_last, contains_none}

pub area_off : (l a k : ℕ) (v w : Volume) → ((b : ℕ) → a ≤ b → b < a + k → block_at l v b ≡ block_at l w b) → (area_of l a k v).value ≡ (area_of l a k w).value
unfolding area_of bind
area_off l a zero v w same = refl
area_off l a (suc k) v w same =
    ap (λ xs. xs ++ block_at l v (a + k)) (area_off l a k v w (λ b low high. same b low (omega (arith, high))))
    ∙ ap (λ ys. (area_of l a k w).value ++ ys) (same (a + k) (omega arith) (omega arith))

pub area_none : (l a : ℕ) (v : Volume) → (area_of l a 0 v).value ≡ []
unfolding area_of
area_none l a v = refl

pub area_more : (l a k count : ℕ) (v : Volume) → count ≡ suc k → (area_of l a count v).value ≡ (area_of l a k v).value ++ block_at l v (a + k)
unfolding area_of bind
area_more l a k count v is = ap (λ n. (area_of l a n v).value) is

pub area_needs : (l a k : ℕ) (v : Volume) (b : ℕ) → a ≤ b → b < a + k → Contains ((area_of l a k v).needs) b
unfolding area_of bind
area_needs l a zero v b low high = absurd (omega (arith, low, high))
area_needs l a (suc k) v b low high = (contains_last ((area_of l a k v).needs) (a + k) b).1 (elim (cases_eq b (a + k)) [
  | inl e ↦ inr e
  | inr apart ↦ inl (area_needs l a k v b low (omega (arith, high, apart)))
])

pub area_needed : (l a k : ℕ) (v : Volume) (b : ℕ) → Contains ((area_of l a k v).needs) b → (a ≤ b) × (b < a + k)
unfolding area_of bind
area_needed l a zero v b has = absurd (contains_none b has)
area_needed l a (suc k) v b has = elim ((contains_last ((area_of l a k v).needs) (a + k) b).0 has) [
  | inl h ↦ let r = area_needed l a k v b h in (r.0, omega (arith, r.1))
  | inr e ↦ (omega (arith, e), omega (arith, e))
]
