-- Calls on one member, as a chain.
use Rattle.std.proofs.Common.{◌≡◌, ℕ, Bool, true, [], ◌∷◌, refl, subst}
use Rattle.dg_io.specs.Makes.{Makes}
use Rattle.dg_io.specs.MakesLaws.{makes_both, makes_only, makes_such}
use Rattle.dg_io.specs.OnlyLaws.{only_one}
use Rattle.dg_io.specs.RackCalls.RackCall.{calls}
use Rattle.dg_io.specs.declared.outside.Rack.{Ghosts}
use Rattle.dg_stop.specs.Phases.{IsOnServed}
use Rattle.dg_stop.specs.Serving.{IsOn}

module _ {S : Type 0} (rack : Ghosts S) (q : ℕ) where
  pub made_one : (a b : S) → rack.made a (calls q ∷ []) b → Makes rack (IsOn q) a b
  made_one a b made = makes_only rack (IsOn q) a b (only_one rack (IsOn q) (calls q) a b refl made)

  pub made_two : (a b c : S) → rack.made a (calls q ∷ []) b → rack.made b (calls q ∷ []) c → Makes rack (IsOn q) a c
  made_two a b c first second = makes_both rack (IsOn q) a b c (made_one a b first) (made_one b c second)

  pub made_three : (a b c d : S) → rack.made a (calls q ∷ []) b → rack.made b (calls q ∷ []) c → rack.made c (calls q ∷ []) d → Makes rack (IsOn q) a d
  made_three a b c d first second third = makes_both rack (IsOn q) a c d (made_two a b c first second) (made_one c d third)

  -- calls on a member that served
  pub on_served : (served : Bool) → served ≡ true → (a b : S) → Makes rack (IsOn q) a b → Makes rack (IsOnServed q served) a b
  on_served served was a b made = makes_such rack (IsOn q) (IsOnServed q served) (λ call on. record { on = on; was = was }) a b made

  pub as_served : (flag served : Bool) → flag ≡ served → (a b : S) → Makes rack (IsOnServed q flag) a b → Makes rack (IsOnServed q served) a b
  as_served flag served same a b made = subst (λ (x : Bool). Makes rack (IsOnServed q x) a b) same made
