-- Where a rack kept nothing, it keeps nothing behind two members that were made anew.
use Rattle.std.proofs.Common.{◌≡◌, ◌==◌, inr, ℕ, Bool, true, false, List, refl}
use Rattle.std.specs.Prelude.{None, Option, if◌then◌else◌}
use Rattle.dg_io.specs.Kept.{IsNothing, Kept, without}
use Rattle.dg_io.specs.declared.outside.Rack.{Ghosts}
use Rattle.dg_pair.specs.Kept.{BlanksMember, KeepsNothing}

without_nothing : (q : ℕ) (kept : Kept) → IsNothing kept → IsNothing (without q kept)
without_nothing q kept nothing = record { entries = λ p. either (p == q) (kept.entries p) (nothing.entries p); extra = nothing.extra } where
  either : (b : Bool) (told : Option (List ℕ)) → told ≡ None → (if b then None else told) ≡ None
  either true told none = refl
  either false told none = none

pub new_keeps : {S : Type 0} (rack : Ghosts S) (p q : ℕ) (first mid last : S) → BlanksMember rack p first mid → BlanksMember rack q mid last → KeepsNothing rack.keeps first last
new_keeps rack p q first mid last one two kept nothing keeps =
    let still = without_nothing p kept nothing in
    (without q (without p kept), without_nothing q (without p kept) still, two.keeps.rest (without p kept) (one.keeps.rest kept keeps (inr nothing)) (inr still))
