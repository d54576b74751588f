-- A member that is refilled isn't past the last slot of its boundary.
use Rattle.std.proofs.Common.{◌≡◌, ◌==◌, ◌||◌, ◌≤◌, ℕ, Bool, true, false, arith}
use Rattle.std.specs.Prelude.{if◌then◌else◌}
use Rattle.dg_model.specs.declared.members.MemberState.TheVariants.{Good, Filling, Out}
use Rattle.dg_pair.specs.declared.boundaries.Boundary.{Boundary}
use Rattle.dg_pair.specs.declared.boundaries.Boundary.TheVariants.{Both, Half, Fill, Lost}
use Rattle.dg_pair.specs.Boundaries.{IsWell, members_of, slots_of}

-- neither is filling
good_or_out : (t : Bool) (have : ℕ) → (if t then Good else Out) ≡ Filling have → ⊥
good_or_out true have is = cc
good_or_out false have is = cc

filled_is : (t u : Bool) (least have : ℕ) → (if t then Good else if u then Filling least else Out) ≡ Filling have → least ≡ have
filled_is true u least have is = absurd (cc is)
filled_is false true least have is = cc
filled_is false false least have is = absurd (cc is)

pub filled_within : (x : Boundary) (q have slots : ℕ) → IsWell x → slots_of x ≡ slots → members_of x q ≡ Filling have → have ≤ slots
filled_within (Both a b) q have slots well count is = absurd (good_or_out (q == a.number || q == b.number) have is)
filled_within (Half a b) q have slots well count is = absurd (good_or_out (q == a.number) have is)
filled_within (Fill a b) q have slots well count is =
    let same = filled_is (q == a.number) (q == b.number) b.state.have have is in
    let partners = well.0.slots in
    let low = well.1 in
    omega (arith, same, partners, low, count)
filled_within (Lost a b) q have slots well count is = absurd (good_or_out false have is)
