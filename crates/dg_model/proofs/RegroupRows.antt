-- Going on after a loss, computed on the settled volume of three files: boundary 2, and with it file 5, is lost; then boundary 0; then there is
-- one boundary too few.
use Rattle.std.proofs.Common.{◌≡◌, ◌++◌, ◌<◌, ◌⊎◌, Bool, true, false, not, ℕ, List, [], ◌∷◌, length, refl, inl, inr, arith}
use Rattle.std.specs.Prelude.{◌*◌, ◌==◌, ◌/◌, ◌&&◌, nat_lt, if◌then◌else◌, Option, None, Ok, replicate}
use Rattle.dg_model.specs.Lives.{place_in}
use Rattle.dg_model.specs.Marks.{marked}
use Rattle.dg_model.specs.Moves.{count_upto, missing, missing_in, moved, moves, round, tidying}
use Rattle.dg_model.specs.Plans.{place_kept, place_stray, place_with, plan, roomiest, stay, targets_of}
use Rattle.dg_model.specs.Regroups.{IsTooSmall, falls_out, lost_in, without_lost}
use Rattle.dg_model.specs.States.{Counts, State, gone_in}
use Rattle.dg_model.specs.Tables.{Table, lowest_free, sites_in}
use Rattle.dg_model.specs.declared.members.MemberState.{MemberState}
use Rattle.dg_model.specs.declared.members.MemberState.TheVariants.{Good, Out}
use Rattle.dg_model.specs.declared.parents.Parent.{Parent}
use Rattle.dg_model.specs.declared.phases.Phase.TheVariants.{Settled}
use Rattle.dg_model.specs.declared.wants.Want.{Want}
use Rattle.dg_model.proofs.PlanRows.{blank, file, home, homes_three, kept, on, shape_of, table_placed}

abbrev none_yet : Counts
none_yet = record { faults = λ q. 0; calls = 0; writes = 0 }

-- so many boundaries, one of which, if it is there, is lost
abbrev members_but : ℕ → ℕ → ℕ → MemberState
members_but b lost q = if nat_lt (q / 2) b && not (q / 2 == lost) then Good else Out

-- ---- boundary 2 is lost

abbrev lost_two : State
lost_two = record {
  boundaries = 4;
  live = 0 ∷ 1 ∷ 2 ∷ 3 ∷ [];
  table = table_placed;
  blocks = replicate 128 [];
  pending = replicate 128 false;
  cut = replicate 128 false;
  homes = homes_three;
  copies = [];
  phase = Settled;
  recent = [];
  members = members_but 4 2;
  label = None;
  counts = none_yet;
}

abbrev three_left : State
three_left = without_lost lost_two none_yet

one_lost : lost_in lost_two ≡ 1
one_lost = refl

its_blocks : count_upto 128 (falls_out lost_two) ≡ 53
its_blocks = refl

enough_left : IsTooSmall lost_two → ⊥
enough_left small = elim small [ inl few ↦ omega (arith, few) | inr other ↦ elim other [ inl few ↦ omega (arith, few) | inr few ↦ omega (arith, few) ] ]

in_use : three_left.live ≡ 0 ∷ 1 ∷ 3 ∷ []
in_use = refl

boundary_3_is_third : place_in three_left.live 3 ≡ 2
boundary_3_is_third = refl

-- one that isn't in use has the place behind the last
boundary_2_has_none : place_in three_left.live 2 ≡ 3
boundary_2_has_none = refl

homes_are : three_left.homes ≡ home 3 2 ∷ home 7 2 ∷ []
homes_are = refl

-- block 9 lost the site on boundary 2; block 34 keeps its slot, under the new place
sites_of_9 : sites_in three_left.table 9 ≡ on 1 0 ∷ []
sites_of_9 = refl

sites_of_34 : sites_in three_left.table 34 ≡ on 2 14 ∷ []
sites_of_34 = refl

gone_is_cut : gone_in three_left 36 ≡ true
gone_is_cut = refl

cut_of_file_5 : length (marked three_left.cut) ≡ 53
cut_of_file_5 = refl

-- the settling behind it: the blocks of file 5 aren't written any more
abbrev wants_left : List (Option Want)
wants_left = blank 8 ++ kept 2 ++ blank 14 ++ kept 1 ++ blank 3 ++ kept 1 ++ blank 4 ++ kept 1 ++ file 3 1 ++ kept 1 ++ blank 56 ++ file 7 2 ++ blank 34

abbrev in_directory : ℕ → ℕ → Parent
in_directory i d = record { inode = i; directory = d }

abbrev parents_left : List Parent
parents_left = in_directory 3 2 ∷ in_directory 4 2 ∷ in_directory 5 4 ∷ in_directory 6 2 ∷ in_directory 7 2 ∷ []

plan_left : plan (shape_of 3 64 2) wants_left parents_left three_left.homes ≡ Ok (record { homes = home 3 2 ∷ home 7 2 ∷ []; strays = [] })
unfolding plan place_kept stay place_with place_stray roomiest
plan_left = refl

abbrev targets_left : ℕ → ℕ → Bool
targets_left = targets_of (shape_of 3 64 2) wants_left (record { homes = home 3 2 ∷ home 7 2 ∷ []; strays = [] })

missing_left : missing_in targets_left three_left.table ≡ 4
unfolding targets_of
missing_left = refl

abbrev settled_left : Table
settled_left = moved targets_left None three_left.table

-- ---- then boundary 0 is lost

abbrev lost_first : State
lost_first = record three_left { table = settled_left; phase = Settled; members = members_but 3 0 }

again_one : lost_in lost_first ≡ 1
unfolding missing targets_of moves round tidying lowest_free
again_one = refl

-- no block stood there alone
no_blocks : count_upto 128 (falls_out lost_first) ≡ 0
unfolding missing targets_of moves round tidying lowest_free
no_blocks = refl

abbrev two_left : State
two_left = without_lost lost_first none_yet

two_in_use : two_left.live ≡ 1 ∷ 3 ∷ []
unfolding missing targets_of moves round tidying lowest_free
two_in_use = refl

enough_still : IsTooSmall lost_first → ⊥
unfolding missing targets_of moves round tidying lowest_free
enough_still small = enough small
  where
    enough : (2 < 2) ⊎ (2 < 2) ⊎ (2 * 64 < 128) → ⊥
    enough h = elim h [ inl few ↦ omega (arith, few) | inr other ↦ elim other [ inl few ↦ omega (arith, few) | inr few ↦ omega (arith, few) ] ]

still_cut : gone_in two_left 36 ≡ true
unfolding missing targets_of moves round tidying lowest_free
still_cut = refl

-- ---- and then boundary 1, the first of the two

one_too_few : IsTooSmall (record two_left { members = members_but 2 0 })
unfolding missing targets_of moves round tidying lowest_free
one_too_few = inl few
  where
    few : 1 < 2
    few = omega arith
