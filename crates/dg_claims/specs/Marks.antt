-- Which sources claim each fragment, as the table keeps it.
use Rattle.std.specs.Prelude.{◌≡◌, ◌<◌, ◌≤◌, ◌+◌, ◌^◌, ◌==◌, ◌↔◌, ◌⊎◌, Bool, ℕ, List, [], ◌∷◌, Option, Some, None, cond, length, map, slice_index_or}
use Rattle.std.specs.List.{Contains}
use Rattle.std.specs.Ordering.{nat_cmp}
use Rattle.std.specs.declared.cmp.Ordering.TheVariants.{Less}
use Rattle.std.specs.BTreeMap.{BTreeMap, get}
use Rattle.std.specs.BTreeSet.{BTreeSet}
use Rattle.ufs_model.specs.Claims.{level_of}
use Rattle.dg_claims.specs.Places.{mark_cmp, mark_of, source_of}
use Rattle.dg_claims.specs.declared.marks.Marks.{Marks}
use Rattle.dg_claims.specs.declared.places.Mark.{Mark}
use Rattle.dg_claims.specs.declared.places.Place.{Place}

-- a source without its level
abbrev pub place_in : Mark → Place
place_in mark = mark.place

-- whether a source claims at the level
abbrev pub is_of_level : ℕ → Place → Bool
is_of_level level place = level_of (source_of place) == level

-- the elements of a set that may be missing, in their order
abbrev pub marks_in : Option (BTreeSet Mark) → List Mark
marks_in None = []
marks_in (Some set) = set.keys

-- the further sources of a fragment
abbrev pub more_on : BTreeMap ℕ (BTreeSet Mark) → ℕ → List Mark
more_on more fragment = marks_in (get nat_cmp more fragment)

-- each fragment has the further sources that it had
abbrev pub SameMore : BTreeMap ℕ (BTreeSet Mark) → BTreeMap ℕ (BTreeSet Mark) → Type 0
SameMore old new = (fragment : ℕ) → more_on new fragment ≡ more_on old fragment

-- the fragment has these further sources now, and each other one those that it had
abbrev pub SetsMore : BTreeMap ℕ (BTreeSet Mark) → BTreeMap ℕ (BTreeSet Mark) → ℕ → List Mark → Type 0
SetsMore old new fragment marks = (other : ℕ) → more_on new other ≡ cond (fragment == other) marks (more_on old other)

-- the first source, if there is one, and then the others; there are none without a first one
abbrev pub joined : Option Place → List Mark → List Mark
joined None others = []
joined (Some place) others = mark_of place ∷ others

-- the sources of a fragment, with their levels
unfoldable pub all_on : Marks → ℕ → List Mark
all_on marks fragment = joined (slice_index_or marks.first.items fragment None) (more_on marks.more fragment)

-- the sources of a fragment
abbrev pub marked_on : Marks → ℕ → List Place
marked_on marks fragment = map place_in (all_on marks fragment)

-- each is before those behind it
abbrev pub AreOrdered : List Mark → Type 0
AreOrdered [] = Unit {0}
AreOrdered (mark ∷ marks) = ((other : Mark) → Contains marks other → mark_cmp mark other ≡ Less) × AreOrdered marks

-- none without a first source
abbrev pub IsFilled : Option Place → List Mark → Type 0
IsFilled None others = others ≡ []
IsFilled (Some place) others = Unit {0}

-- each fragment has fewer than 2^32 sources, in their order, with their levels
pub record IsMarks (marks : Marks) : Type 0 where
  pub ordered : (fragment : ℕ) → AreOrdered (all_on marks fragment)
  pub leveled : (fragment : ℕ) (mark : Mark) → Contains (all_on marks fragment) mark → mark ≡ mark_of mark.place
  pub few : (fragment : ℕ) → length (all_on marks fragment) < 2 ^ 32
  pub filled : (fragment : ℕ) → IsFilled (slice_index_or marks.first.items fragment None) (more_on marks.more fragment)

-- there are as many fragments, and each has the sources that it had
pub record SameMarks (old new : Marks) : Type 0 where
  pub room : length new.first.items ≡ length old.first.items
  pub all : (fragment : ℕ) → marked_on new fragment ≡ marked_on old fragment

-- there are as many fragments, and a source is on those that it was on
pub record SameSources (old new : Marks) : Type 0 where
  pub room : length new.first.items ≡ length old.first.items
  pub all : (fragment : ℕ) (place : Place) → Contains (marked_on new fragment) place ↔ Contains (marked_on old fragment) place

-- the fragment has this source too, and all else is the same
pub record AddsMark (old new : Marks) (fragment : ℕ) (place : Place) : Type 0 where
  pub room : length new.first.items ≡ length old.first.items
  pub here : (other : Place) → Contains (marked_on new fragment) other ↔ (Contains (marked_on old fragment) other ⊎ (other ≡ place))
  pub elsewhere : (other : ℕ) → (other ≡ fragment → ⊥) → marked_on new other ≡ marked_on old other

-- the fragment hasn't this source any more, and all else is the same
pub record DropsMark (old new : Marks) (fragment : ℕ) (place : Place) : Type 0 where
  pub room : length new.first.items ≡ length old.first.items
  pub here : (other : Place) → Contains (marked_on new fragment) other ↔ (Contains (marked_on old fragment) other × (other ≡ place → ⊥))
  pub elsewhere : (other : ℕ) → (other ≡ fragment → ⊥) → marked_on new other ≡ marked_on old other

-- so many fragments from one on have the source too, and all else is the same
pub record AddsMarks (old new : Marks) (place : Place) (first count : ℕ) : Type 0 where
  pub room : length new.first.items ≡ length old.first.items
  pub here : (fragment : ℕ)
      → Contains (marked_on new fragment) place ↔ (Contains (marked_on old fragment) place ⊎ ((first ≤ fragment) × (fragment < first + count)))
  pub others : (fragment : ℕ) (other : Place) → (other ≡ place → ⊥) → Contains (marked_on new fragment) other ↔ Contains (marked_on old fragment) other

-- the source is taken from so many fragments from one on, and all else is the same
pub record Unmarks (old new : Marks) (place : Place) (first count : ℕ) : Type 0 where
  pub room : length new.first.items ≡ length old.first.items
  pub here : (fragment : ℕ)
      → Contains (marked_on new fragment) place ↔ (Contains (marked_on old fragment) place × (first ≤ fragment → first + count ≤ fragment))
  pub others : (fragment : ℕ) (other : Place) → (other ≡ place → ⊥) → Contains (marked_on new fragment) other ↔ Contains (marked_on old fragment) other
