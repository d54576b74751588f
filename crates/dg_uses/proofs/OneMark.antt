-- Which marks are left is told by a volume and the marks before.
use Rattle.std.proofs.Common.{◌≡◌, ◌∙◌, ℕ, Bool, true, false, List, refl, sym, subst, arith}
use Rattle.std.proofs.lemmas.Bool.{false≢true}
use Rattle.std.proofs.lemmas.List.{get_or_default, same_lists}
use Rattle.ufs_model.specs.Blocks.{Volume}
use Rattle.dg_model.specs.Marks.{AreLeft, AreNext, is_marked}
use Rattle.dg_promise.specs.Promises.{AreTold}

marks_by : (a b : Bool) → (a ≡ true → b ≡ true) → (b ≡ true → a ≡ true) → a ≡ b
marks_by true true there back = refl
marks_by true false there back = sym (there refl)
marks_by false true there back = back refl
marks_by false false there back = refl

module _ (l n : ℕ) (v : Volume) (old one other : List Bool) (h : AreLeft AreTold l n v old one) (g : AreLeft AreTold l n v old other) where
  mark_same : (b : ℕ) → is_marked one b ≡ is_marked other b
  mark_same b = marks_by (is_marked one b) (is_marked other b) (λ e. (g.are tt b).1 ((h.are tt b).0 e)) (λ e. (h.are tt b).1 ((g.are tt b).0 e))

  pub left_same : one ≡ other
  left_same =
      let size = h.size ∙ sym g.size in
      same_lists one other size (λ b d low. get_or_default one b d false low ∙ mark_same b ∙ get_or_default other b false d (omega (arith, low, size)))

-- the next marks are one list
pub next_same : (broken lost : Bool) (l n : ℕ) (v w : Volume) (old one other : List Bool) → broken ≡ lost → v ≡ w → AreNext broken AreTold l n v old one → AreNext lost AreTold l n w old other → one ≡ other
next_same true true l n v w old one other e f h g = h ∙ sym g
next_same true false l n v w old one other e f h g = absurd (false≢true (sym e))
next_same false true l n v w old one other e f h g = absurd (false≢true e)
next_same false false l n v w old one other e f h g = left_same l n v old one other h (subst (λ (u : Volume). AreLeft AreTold l n u old other) (sym f) g)
