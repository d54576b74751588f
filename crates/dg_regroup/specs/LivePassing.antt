-- Calls on members that are there are calls of the rack below, and leave the boundaries in use and the own counts. Laws for the crates above.
use Rattle.std.proofs.Common.{◌≡◌, ◌∙◌, ℕ, Bool, true, false, List, [], ◌∷◌, arith, length, refl, sym, subst}
use Rattle.std.specs.Prelude.{not, filter, if◌then◌else◌}
use Rattle.dg_io.specs.Makes.{Makes}
use Rattle.dg_io.specs.Makes.Makes.{nothing, after}
use Rattle.dg_io.specs.RackCalls.{RackCall, Each}
use Rattle.dg_io.specs.declared.outside.Rack.{Ghosts}
use Rattle.dg_regroup.specs.LiveGhosts.{live}
use Rattle.dg_regroup.specs.LiveMade.{calls_below, call_below, count_absent, is_passed}
use Rattle.dg_regroup.specs.LivePlaces.{each_below}
use Rattle.dg_regroup.specs.LiveRacks.{live_in, rack_in}
use Rattle.dg_regroup.specs.declared.live_racks.LiveRack.{LiveRack}

-- how many calls were made on members that aren't there, and how many of them write
abbrev pub own_calls : {R : Type 0} → LiveRack R → ℕ
own_calls it = it.calls

abbrev pub own_writes : {R : Type 0} → LiveRack R → ℕ
own_writes it = it.writes

-- The rack below got such calls, and nothing else has changed.
pub record PassesOn {R : Type 0} (rack : Ghosts R) (such : RackCall → Type 0) (old new : LiveRack R) : Type 0 where
  pub live_is : live_in new ≡ live_in old
  pub below : Makes rack such (rack_in old) (rack_in new)
  pub calls : own_calls new ≡ own_calls old
  pub writes : own_writes new ≡ own_writes old

module _ {R : Type 0} (rack : Ghosts R) (may : RackCall → Type 0) where
  -- each of these calls is on a member that is there
  none_absent : (numbers : List ℕ) → ((call : RackCall) → may call → is_passed numbers call ≡ true) → (made : List RackCall) → Each may made → count_absent numbers made ≡ 0
  none_absent numbers h [] each = refl
  none_absent numbers h (call ∷ rest) each = one (is_passed numbers call) (h call each.0) (none_absent numbers h rest each.1) where
    one : (passed : Bool) → passed ≡ true → count_absent numbers rest ≡ 0
        → length (if not passed then call ∷ filter (λ call. not (is_passed numbers call)) rest else filter (λ call. not (is_passed numbers call)) rest) ≡ 0
    one true is later = later
    one false is later = absurd (cc is)

  -- Calls of which each is on a member that is there, and is such a one by the numbers below.
  pub passes_on : (such : RackCall → Type 0) (a b : LiveRack R) → ((call : RackCall) → may call → is_passed (live_in a) call ≡ true)
      → ((call : RackCall) → may call → such (call_below (live_in a) call)) → Makes (live rack) may a b → PassesOn rack such a b
  passes_on such a b there below (nothing same) = subst (λ (s : LiveRack R). PassesOn rack such a s) (sym same) (record {
    live_is = refl;
    below = nothing refl;
    calls = refl;
    writes = refl;
  })
  passes_on such a b there below (after {b = mid} first only) =
      let was = passes_on such a mid there below first in
      let made = only.made in
      let numbers = live_in mid in
      let passed : (call : RackCall) → may call → is_passed numbers call ≡ true = λ call h. subst (λ (l : List ℕ). is_passed l call ≡ true) (sym was.live_is) (there call h) in
      let suited : (call : RackCall) → may call → such (call_below numbers call) = λ call h. subst (λ (l : List ℕ). such (call_below l call)) (sym was.live_is) (below call h) in
      let same_live : live_in b ≡ live_in mid = λ i. (made.live i).items in
      let few = none_absent numbers passed only.calls only.each in
      record {
        live_is = same_live ∙ was.live_is;
        below = after was.below (record {
          calls = calls_below numbers only.calls;
          each = each_below numbers may such (λ call is h. suited call h) only.calls only.each;
          made = made.below;
        });
        calls = omega (arith, was.calls, made.calls_rise, made.few_calls, few);
        writes = omega (arith, was.writes, made.writes_rise, made.few_writes, few);
      }
