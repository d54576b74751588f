-- Plans and moves of small volumes, computed. What each block is for is written out by hand.
use Rattle.std.proofs.Common.{◌≡◌, ◌+◌, ◌%◌, ◌++◌, Bool, ℕ, suc, List, [], ◌∷◌, length, map, refl}
use Rattle.std.specs.Prelude.{Option, Some, None, Result, Ok, Err, replicate, slice_index, slice_set}
use Rattle.dg_model.specs.Homes.{home_of}
use Rattle.dg_model.specs.Moves.{missing, missing_in, moved, moves, round, tidying}
use Rattle.dg_model.specs.Plans.{Plan, place_kept, place_stray, place_with, plan, roomiest, stay, targets_of}
use Rattle.dg_model.specs.Tables.{Table, lowest_free, used_in}
use Rattle.dg_model.specs.declared.homes.Home.{Home}
use Rattle.dg_model.specs.declared.parents.Parent.{Parent}
use Rattle.dg_model.specs.declared.shapes.Shape.{Shape}
use Rattle.dg_model.specs.declared.sites.Site.{Site}
use Rattle.dg_model.specs.declared.wants.NoRoom.{NoRoom}
use Rattle.dg_model.specs.declared.wants.NoRoom.TheVariants.{System, Inode, Strays}
use Rattle.dg_model.specs.declared.wants.Want.{Want}
use Rattle.dg_model.specs.declared.wants.Want.TheVariants.{Kept, File, Stray}

-- ---- a volume of three files that have blocks, in two directories

abbrev pub blank : ℕ → List (Option Want)
blank count = replicate count None

abbrev pub kept : ℕ → List (Option Want)
kept count = replicate count (Some Kept)

abbrev pub file : ℕ → ℕ → List (Option Want)
file i count = replicate count (Some (File i))

abbrev pub stray : ℕ → List (Option Want)
stray count = replicate count (Some Stray)

abbrev pub shape_of : ℕ → ℕ → ℕ → Shape
shape_of b k m = record { l = 1024; n = 128; b = b; k = k; m = m }

abbrev pub home : ℕ → ℕ → Home
home i s = record { inode = i; boundary = s }

abbrev in_directory : ℕ → ℕ → Parent
in_directory i d = record { inode = i; directory = d }

-- the superblock is blocks 8 and 9, the group's block 24, inodes are in block 28, the root's entries in 33; file 3 is block 34, directory 4
-- is block 35, file 5 is blocks 36 to 84 and 88 to 91, file 7 is blocks 92 and 93; file 6 is empty
abbrev pub wants_three : List (Option Want)
wants_three = blank 8 ++ kept 2 ++ blank 14 ++ kept 1 ++ blank 3 ++ kept 1 ++ blank 4 ++ kept 1
    ++ file 3 1 ++ kept 1 ++ file 5 49 ++ blank 3 ++ file 5 4 ++ file 7 2 ++ blank 34

abbrev parents_three : List Parent
parents_three = in_directory 3 2 ∷ in_directory 4 2 ∷ in_directory 5 4 ∷ in_directory 6 2 ∷ in_directory 7 2 ∷ []

abbrev pub homes_three : List Home
homes_three = home 3 3 ∷ home 5 2 ∷ home 7 3 ∷ []

one_want_a_block : length wants_three ≡ 128
one_want_a_block = refl

-- file 7 goes beside file 3, which stands in its directory
three_homes : plan (shape_of 4 64 2) wants_three parents_three [] ≡ Ok (record { homes = homes_three; strays = [] })
unfolding plan place_kept stay place_with place_stray roomiest
three_homes = refl

-- a file without blocks has no home
empty_has_none : home_of homes_three 6 ≡ None
empty_has_none = refl

-- with three places of a naming block the homes are others
three_places : plan (shape_of 4 64 3) wants_three parents_three [] ≡ Ok (record { homes = home 3 3 ∷ home 5 0 ∷ home 7 3 ∷ []; strays = [] })
unfolding plan place_kept stay place_with place_stray roomiest
three_places = refl

-- a file that has a home stays there, and a home of a file without blocks is dropped
old_homes_stay : plan (shape_of 4 64 2) wants_three parents_three (home 3 1 ∷ home 6 2 ∷ []) ≡ Ok (record { homes = home 3 1 ∷ home 5 3 ∷ home 7 1 ∷ []; strays = [] })
unfolding plan place_kept stay place_with place_stray roomiest
old_homes_stay = refl

-- ---- no room

-- 34 blocks of the file system on each of four boundaries of 32 slots
no_room_for_system : plan (shape_of 4 32 4) (kept 34 ++ blank 94) [] [] ≡ Err System
unfolding plan place_kept stay place_with place_stray roomiest
no_room_for_system = refl

no_room_for_file : plan (shape_of 4 32 2) wants_three parents_three [] ≡ Err (Inode 5)
unfolding plan place_kept stay place_with place_stray roomiest
no_room_for_file = refl

-- 68 placements and 94 other blocks for 128 slots
no_room_for_strays : plan (shape_of 4 32 2) (kept 34 ++ stray 94) [] [] ≡ Err Strays
unfolding plan place_kept stay place_with place_stray roomiest
no_room_for_strays = refl

-- ---- moves

-- the site of block `at` once it is written and stands on boundary `at mod b`, where so many slots are used on each boundary
abbrev site_by : ℕ → List ℕ → ℕ → Option Want → List Site
site_by b used at None = []
site_by b used at (Some want) = record { boundary = at % b; slot = slice_index used (at % b) } ∷ []

abbrev used_by : List ℕ → ℕ → Option Want → List ℕ
used_by used s None = used
used_by used s (Some want) = slice_set used s (slice_index used s + 1)

abbrev written_from : ℕ → List ℕ → ℕ → List (Option Want) → List (List Site)
written_from b used at [] = []
written_from b used at (want ∷ wants) = site_by b used at want ∷ written_from b (used_by used (at % b) want) (suc at) wants

-- the table once the blocks that have a want were written, ascending
abbrev pub written_up : Shape → List (Option Want) → Table
written_up shape wants = record { shape = shape; rows = written_from shape.b (replicate shape.b 0) 0 wants }

abbrev pub table_three : Table
table_three = written_up (shape_of 4 64 2) wants_three

abbrev pub targets_three : ℕ → ℕ → Bool
targets_three = targets_of (shape_of 4 64 2) wants_three (record { homes = homes_three; strays = [] })

missing_at_first : missing_in targets_three table_three ≡ 49
unfolding targets_of
missing_at_first = refl

-- one round meets one placement
missing_after_one : missing_in targets_three (moved targets_three (Some 1) table_three) ≡ 48
unfolding missing targets_of moves round tidying lowest_free
missing_after_one = refl

-- a limit of none meets none, and gives up nothing
moved_by_none : moves targets_three (Some 0) table_three ≡ []
unfolding missing targets_of moves round tidying lowest_free
moved_by_none = refl

abbrev pub on : ℕ → ℕ → Site
on s slot = record { boundary = s; slot = slot }

-- blocks without a site, and blocks that stand on one boundary alone
abbrev none_of : ℕ → List (List Site)
none_of count = replicate count []

abbrev alone_on : ℕ → List ℕ → List (List Site)
alone_on s slots = map (λ slot. on s slot ∷ []) slots

-- once all placements are met, blocks stand so: file 5 on boundary 2, the others on boundary 3
abbrev pub rows_placed : List (List Site)
rows_placed =
    none_of 8
    ++ (on 0 0 ∷ on 1 16 ∷ []) ∷ (on 1 0 ∷ on 2 14 ∷ []) ∷ none_of 14
    ++ (on 0 1 ∷ on 1 17 ∷ []) ∷ none_of 3 ++ (on 0 2 ∷ on 1 18 ∷ []) ∷ none_of 4 ++ (on 1 1 ∷ on 2 15 ∷ [])
    ∷ (on 3 14 ∷ []) ∷ (on 3 0 ∷ on 0 18 ∷ [])
    ∷ alone_on 2 (
    0 ∷ 16 ∷ 1 ∷ 17 ∷ 18 ∷ 19 ∷ 2 ∷ 20 ∷ 21 ∷ 22 ∷ 3 ∷ 23 ∷ 24 ∷ 25 ∷ 4 ∷ 26 ∷ 27 ∷ 28 ∷ 5 ∷ 29 ∷ 30 ∷ 31 ∷ 6 ∷ 32 ∷ 33
    ∷ 34 ∷ 7 ∷ 35 ∷ 36 ∷ 37 ∷ 8 ∷ 38 ∷ 39 ∷ 40 ∷ 9 ∷ 41 ∷ 42 ∷ 43 ∷ 10 ∷ 44 ∷ 45 ∷ 46 ∷ 11 ∷ 47 ∷ 48 ∷ 49 ∷ 12 ∷ 50 ∷ 51 ∷ []
    )
    ++ none_of 3 ++ alone_on 2 (52 ∷ 53 ∷ 13 ∷ 54 ∷ []) ++ alone_on 3 (1 ∷ 2 ∷ []) ++ none_of 34

abbrev pub table_placed : Table
table_placed = record { shape = shape_of 4 64 2; rows = rows_placed }

all_met : moved targets_three None table_three ≡ table_placed
unfolding missing targets_of moves round tidying lowest_free
all_met = refl

-- once all are met, there is nothing left to do
nothing_left : moves targets_three (Some 99) table_placed ≡ []
unfolding missing targets_of moves round tidying lowest_free
nothing_left = refl

used_in_the_end : map (used_in table_placed) (0 ∷ 1 ∷ 2 ∷ 3 ∷ []) ≡ 4 ∷ 5 ∷ 55 ∷ 4 ∷ []
used_in_the_end = refl

-- ---- two full boundaries: files 3 and 4 of one directory have 16 blocks each, and each other block is written too

abbrev wants_full : List (Option Want)
wants_full = kept 34 ++ stray 2 ++ file 3 16 ++ file 4 16 ++ stray 60

abbrev parents_full : List Parent
parents_full = in_directory 3 2 ∷ in_directory 4 2 ∷ []

homes_in : Result Plan NoRoom → List Home
homes_in (Ok found) = found.homes
homes_in (Err bad) = []

plan_in : Result Plan NoRoom → Plan
plan_in (Ok found) = found
plan_in (Err bad) = record { homes = []; strays = [] }

one_directory : homes_in (plan (shape_of 2 64 1) wants_full parents_full []) ≡ home 3 0 ∷ home 4 0 ∷ []
unfolding plan place_kept stay place_with place_stray roomiest homes_in
one_directory = refl

-- without directories each goes to the boundary with the most room
no_directories : homes_in (plan (shape_of 2 64 1) wants_full [] []) ≡ home 3 0 ∷ home 4 1 ∷ []
unfolding plan place_kept stay place_with place_stray roomiest homes_in
no_directories = refl

abbrev table_full : Table
table_full = written_up (shape_of 2 64 1) wants_full

abbrev targets_full : ℕ → ℕ → Bool
unfolding plan place_kept stay place_with place_stray roomiest plan_in
targets_full = targets_of (shape_of 2 64 1) wants_full (plan_in (plan (shape_of 2 64 1) wants_full parents_full []))

-- the spare slot of each boundary is enough to move them all
full_at_first : missing_in targets_full table_full ≡ 32
unfolding targets_of plan place_kept stay place_with place_stray roomiest plan_in
full_at_first = refl

full_after_one : missing_in targets_full (moved targets_full (Some 1) table_full) ≡ 31
unfolding missing targets_of plan_in moves round tidying lowest_free plan place_kept stay place_with place_stray roomiest
full_after_one = refl

full_in_the_end : missing_in targets_full (moved targets_full None table_full) ≡ 0
unfolding missing targets_of plan_in moves round tidying lowest_free plan place_kept stay place_with place_stray roomiest
full_in_the_end = refl

-- ---- a block of the file system alone, and one that is nobody's

abbrev pub wants_stray : List (Option Want)
wants_stray = blank 8 ++ kept 2 ++ blank 14 ++ kept 1 ++ blank 3 ++ kept 1 ++ blank 4 ++ kept 1 ++ stray 1 ++ blank 93

stray_place : plan (shape_of 4 64 2) wants_stray [] [] ≡ Ok (record { homes = []; strays = record { block = 34; boundary = 3 } ∷ [] })
unfolding plan place_kept stay place_with place_stray roomiest
stray_place = refl

abbrev pub table_stray : Table
table_stray = record {
  shape = shape_of 4 64 2;
  rows = none_of 8 ++ (on 0 0 ∷ on 1 2 ∷ []) ∷ (on 1 0 ∷ on 2 1 ∷ []) ∷ none_of 14
      ++ (on 0 1 ∷ on 1 3 ∷ []) ∷ none_of 3 ++ (on 0 2 ∷ on 1 4 ∷ []) ∷ none_of 4 ++ (on 1 1 ∷ on 2 2 ∷ []) ∷ (on 3 0 ∷ []) ∷ none_of 93;
}

stray_met : moved (targets_of (shape_of 4 64 2) wants_stray (record { homes = []; strays = record { block = 34; boundary = 3 } ∷ [] })) None
    (written_up (shape_of 4 64 2) wants_stray) ≡ table_stray
unfolding missing targets_of moves round tidying lowest_free
stray_met = refl
