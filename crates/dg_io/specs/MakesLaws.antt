-- Laws of chains of calls. Only the end of a chain takes the laws of the rack.
use Rattle.std.specs.Prelude.{List, [], ◌++◌, refl}
use Rattle.std.proofs.Common.{sym, subst}
use Rattle.dg_io.specs.Makes.{Makes}
use Rattle.dg_io.specs.Makes.Makes.{nothing, after}
use Rattle.dg_io.specs.OnlyLaws.{only_none, only_such, only_both}
use Rattle.dg_io.specs.RackCalls.{RackCall}
use Rattle.dg_io.specs.RackWords.{MadeOnly}
use Rattle.dg_io.specs.declared.outside.Rack.{Ghosts}

module _ {S : Type 0} (rack : Ghosts S) (may : RackCall → Type 0) where
  pub makes_none : (a : S) → Makes rack may a a
  makes_none a = nothing refl

  pub makes_only : (a b : S) → MadeOnly rack may a b → Makes rack may a b
  makes_only a b only = after (nothing refl) only

  pub makes_both : (a b c : S) → Makes rack may a b → Makes rack may b c → Makes rack may a c
  makes_both a b c first (nothing same) = subst (λ (s : S). Makes rack may a s) (sym same) first
  makes_both a b c first (after {b = mid} second only) = after (makes_both a b mid first second) only

  pub makes_such : (such : RackCall → Type 0) → ((call : RackCall) → may call → such call) → (a b : S) → Makes rack may a b → Makes rack such a b
  makes_such such h a b (nothing same) = nothing same
  makes_such such h a b (after {b = mid} first only) = after (makes_such such h a mid first) (only_such rack may such mid b h only)

  -- the whole chain as one list of calls
  pub makes_made : ((s : S) → rack.made s [] s) → ((a b c : S) (x y : List RackCall) → rack.made a x b → rack.made b y c → rack.made a (x ++ y) c) → (a b : S) → Makes rack may a b → MadeOnly rack may a b
  makes_made none then a b (nothing same) = subst (λ (s : S). MadeOnly rack may a s) (sym same) (only_none rack may none a)
  makes_made none then a b (after {b = mid} first only) = only_both rack may then a mid b (makes_made none then a mid first) only
