-- The words of the promise on an array of three boundaries, of which two hold each block of a directory.
use Rattle.std.proofs.Common.{◌≡◌, ℕ, ◌/◌, inl, inr, true, false, List, [], ◌∷◌, refl, sym, arith}
use Rattle.std.specs.Prelude.{◌==◌, if◌then◌else◌}
use Rattle.std.specs.List.{list_any}
use Rattle.std.proofs.lemmas.Bool.{false≢true}
use Rattle.dg_model.specs.Plans.{places_of}
use Rattle.dg_model.specs.States.{Counts, State, gone_in, plain_state}
use Rattle.dg_model.specs.Tables.{Table, is_on}
use Rattle.dg_model.specs.declared.members.MemberState.{MemberState}
use Rattle.dg_model.specs.declared.members.MemberState.TheVariants.{Good, Out}
use Rattle.dg_model.specs.declared.shapes.Shape.{Shape}
use Rattle.dg_promise.specs.Promises.{FewLost, Survives}

abbrev three : Shape
three = record { l = 512; n = 4; b = 3; k = 4; m = 2 }

-- block 0 is nowhere, block 1 is of a directory, block 2 of file 5, and block 3 of file 6
abbrev table : Table
table = record {
  shape = three;
  rows = [] ∷ (record { boundary = 1; slot = 0 } ∷ record { boundary = 2; slot = 0 } ∷ []) ∷ (record { boundary = 0; slot = 0 } ∷ []) ∷ (record { boundary = 0; slot = 1 } ∷ record { boundary = 2; slot = 1 } ∷ []) ∷ [];
}

-- both members of these boundaries are out
abbrev members_without : List ℕ → ℕ → MemberState
members_without lost q = if list_any (λ s. s == q / 2) lost then Out else Good

abbrev no_calls : Counts
no_calls = record { faults = λ q. 0; calls = 0; writes = 0 }

abbrev array : List ℕ → State
array lost = record (plain_state table [] (members_without lost) no_calls) {
  homes = record { inode = 5; boundary = 0 } ∷ record { inode = 6; boundary = 0 } ∷ [];
  copies = record { inode = 6; boundary = 2 } ∷ [];
}

-- the block of the directory stands on just its two places
directory_places : (places_of three 1 ≡ 1 ∷ 2 ∷ []) × (is_on table 1 0 ≡ false) × (is_on table 1 1 ≡ true) × (is_on table 1 2 ≡ true)
directory_places = (refl, refl, refl, refl)

-- with one lost boundary few are lost, and with two not
one_is_few : FewLost (array (0 ∷ []))
one_is_few = omega arith

two_are_not_few : FewLost (array (0 ∷ 2 ∷ [])) → ⊥
two_are_not_few few = absurd (omega (arith, few))

-- with one lost boundary the directory's block isn't gone, whichever it is; with both of its places lost it is
directory_stands : (gone_in (array (0 ∷ [])) 1 ≡ false) × (gone_in (array (1 ∷ [])) 1 ≡ false) × (gone_in (array (2 ∷ [])) 1 ≡ false) × (gone_in (array (1 ∷ 2 ∷ [])) 1 ≡ true)
directory_stands = (refl, refl, refl, refl)

-- file 5 is lost with its home, file 6 only with its copy as well, and a file without blocks never
home_is_lost : (gone_in (array (0 ∷ [])) 2 ≡ true) × (Survives (array (0 ∷ [])) 5 → ⊥)
home_is_lost = (
  refl,
  λ survives. elim survives [
    | inl none ↦ false≢true (sym none)
    | inr other ↦ elim other [ inl stands ↦ false≢true (sym stands) | inr copy ↦ copy ]
  ],
)

copy_survives : (gone_in (array (0 ∷ [])) 3 ≡ false) × Survives (array (0 ∷ [])) 6
copy_survives = (refl, inr (inr refl))

home_survives : (gone_in (array (1 ∷ [])) 2 ≡ false) × Survives (array (1 ∷ [])) 5
home_survives = (refl, inr (inl refl))

nothing_to_lose : Survives (array (0 ∷ 1 ∷ 2 ∷ [])) 7
nothing_to_lose = inl refl
