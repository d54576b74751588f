-- Copies and refills of a settled array, computed, and what they are not.
use Rattle.std.proofs.Common.{◌≡◌, true, false, ℕ, List, [], ◌∷◌, refl, sym, inl, inr, arith}
use Rattle.std.specs.Prelude.{slice_set}
use Rattle.std.proofs.lemmas.Bool.{false≢true}
use Rattle.dg_model.specs.Changes.{MayReap}
use Rattle.dg_model.specs.Copies.{emptiest, spread_over, touched}
use Rattle.dg_model.specs.Refills.{Reaps, Refills}
use Rattle.dg_model.specs.States.{State}
use Rattle.dg_model.specs.Tables.{Table, lowest_free, used_in}
use Rattle.dg_model.proofs.PlanRows.{home, homes_three, table_placed, table_stray, wants_three}

-- ---- copies: file 3, whose home is boundary 3, was read last

one_copy : (spread_over wants_three homes_three (3 ∷ []) (record { table = table_placed; copies = [] })).copies ≡ home 3 0 ∷ []
unfolding spread_over emptiest lowest_free
one_copy = refl

used_with_copy : used_in (spread_over wants_three homes_three (3 ∷ []) (record { table = table_placed; copies = [] })).table 0 ≡ 5
unfolding spread_over emptiest lowest_free
used_with_copy = refl

-- a file without a home gets none, and neither does one that has a copy
no_copy : (spread_over wants_three homes_three (6 ∷ 3 ∷ []) (record { table = table_placed; copies = home 3 1 ∷ [] })).copies ≡ home 3 1 ∷ []
unfolding spread_over emptiest lowest_free
no_copy = refl

-- file 5 has 53 blocks: they fit beside the 4 used slots of boundary 0
large_copy : (spread_over wants_three homes_three (5 ∷ []) (record { table = table_placed; copies = [] })).copies ≡ home 5 0 ∷ []
unfolding spread_over emptiest lowest_free
large_copy = refl

-- and once they do, the copy of file 7 goes elsewhere
next_copy : (spread_over wants_three homes_three (5 ∷ 7 ∷ []) (record { table = table_placed; copies = [] })).copies ≡ home 5 0 ∷ home 7 1 ∷ []
unfolding spread_over emptiest lowest_free
next_copy = refl

-- an inode is among the recent ones once
touched_once : touched 5 (3 ∷ 5 ∷ 7 ∷ []) ≡ 5 ∷ 3 ∷ 7 ∷ []
touched_once = refl

-- and 16 of them stay
touched_few : touched 20 (1 ∷ 2 ∷ 3 ∷ 4 ∷ 5 ∷ 6 ∷ 7 ∷ 8 ∷ 9 ∷ 10 ∷ 11 ∷ 12 ∷ 13 ∷ 14 ∷ 15 ∷ 16 ∷ [])
    ≡ 20 ∷ 1 ∷ 2 ∷ 3 ∷ 4 ∷ 5 ∷ 6 ∷ 7 ∷ 8 ∷ 9 ∷ 10 ∷ 11 ∷ 12 ∷ 13 ∷ 14 ∷ 15 ∷ []
touched_few = refl

-- ---- refills of boundary 2, whose 55 used slots are the lowest

ten_of_all : Refills table_placed 2 0 10 10 10 45
ten_of_all = record { copied = refl; limit = omega arith; end = inr (refl, (74, (0, omega arith, refl))); rest = refl }

all_of_them : Refills table_placed 2 0 65 99 55 0
all_of_them = record { copied = refl; limit = omega arith; end = inl refl; rest = refl }

-- a stray on boundary 3 is copied where it isn't dead
one_stray : Refills table_stray 3 0 65 99 1 0
one_stray = record { copied = refl; limit = omega arith; end = inl refl; rest = refl }

-- boundary 3 has blocks 34, 35, 92 and 93 alone: where all of them were reaped, nothing is left to copy
abbrev without_all : List ℕ → Table → Table
without_all [] table = table
without_all (b ∷ more) table = without_all more (record table { rows = slice_set table.rows b [] })

none_of_dead : Refills (without_all (34 ∷ 35 ∷ 92 ∷ 93 ∷ []) table_placed) 3 0 65 99 0 0
none_of_dead = record { copied = refl; limit = omega arith; end = inl refl; rest = refl }

-- ---- what a refill is not

-- it doesn't stop before its limit
stops_early : Refills table_placed 2 0 9 10 9 46 → ⊥
stops_early h = elim h.end [ inl last ↦ absurd (omega (arith, last)) | inr used ↦ absurd (omega (arith, used.0)) ]

-- it copies no more than its limit
copies_more : (table : Table) (s low high l : ℕ) → Refills table s low high 3 4 l → ⊥
copies_more table s low high l h = omega (arith, h.limit)

-- a pending block isn't reaped
pending_stays : (Known : Type 0) (old : State) (s low high : ℕ) (new : State) → MayReap Known (record old { pending = false ∷ true ∷ [] }) s low high (λ b. true) new → ⊥
pending_stays Known old s low high new h = false≢true (sym (h.marks 1 refl))

-- a block that stands in no passed slot isn't reaped
none_beside : (table : Table) (blocks : List (List ℕ)) (new : Table) (left : List (List ℕ)) → Reaps table blocks 2 5 5 (λ b. true) new left → ⊥
none_beside table blocks new left h = let there = h.passed 0 refl in omega (arith, there.from, there.before)
