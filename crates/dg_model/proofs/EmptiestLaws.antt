-- The boundary for a copy is not the home.
use Rattle.std.proofs.Common.{◌≡◌, ◌≢◌, ℕ, zero, suc, Bool, true, false, inl, inr, sym, ap, subst}
use Rattle.std.specs.Prelude.{IfSome, Option, Some, None, if◌then◌else◌, nat_lt}
use Rattle.std.proofs.lemmas.Bool.{cases_eq}
use Rattle.dg_model.specs.Copies.{emptier, emptiest_of}
use Rattle.dg_model.specs.Tables.{Table, used_in}
use Rattle.dg_model.proofs.SiteLists.{apart_test, same_test}

emptier_not : (table : Table) (home s : ℕ) (best : Option ℕ) → (s ≡ home → ⊥) → IfSome best (λ t. t ≢ home) → IfSome (emptier table best s) (λ t. t ≢ home)
emptier_not table home s None off other = off
emptier_not table home s (Some t) off other = by_test (nat_lt (used_in table s) (used_in table t))
  where
    by_test : (less : Bool) → IfSome (if less then Some s else Some t) (λ u. u ≢ home)
    by_test true = off
    by_test false = other

-- it isn't the home
pub never_home : (table : Table) (home n : ℕ) → IfSome (emptiest_of table home n) (λ s. s ≢ home)
never_home table home zero = tt
never_home table home (suc s) = elim (cases_eq s home) [
  | inl here ↦
      subst (λ (o : Option ℕ). IfSome o (λ t. t ≢ home))
      (sym (ap (λ (t : Bool). if t then emptiest_of table home s else emptier table (emptiest_of table home s) s) (same_test s home here)))
      (never_home table home s)
  | inr off ↦
      subst (λ (o : Option ℕ). IfSome o (λ t. t ≢ home))
      (sym (ap (λ (t : Bool). if t then emptiest_of table home s else emptier table (emptiest_of table home s) s) (apart_test s home off)))
      (emptier_not table home s (emptiest_of table home s) off (never_home table home s))
]
