-- Where a block is to stand, as a number.
use Rattle.std.specs.Prelude.{◌≡◌, ◌<◌, ◌==◌, ℕ, List, [], Option, Some, None, option_to_list, slice_index}
use Rattle.std.specs.Int.{bit_at}
use Rattle.std.specs.List.{list_any}
use Rattle.dg_model.specs.Homes.{home_of}
use Rattle.dg_model.specs.Plans.{places_of}
use Rattle.dg_model.specs.Wants.{want_of}
use Rattle.dg_model.specs.declared.homes.Home.{Home}
use Rattle.dg_model.specs.declared.shapes.Shape.{Shape}
use Rattle.dg_model.specs.declared.wants.Want.{Want}
use Rattle.dg_model.specs.declared.wants.Want.TheVariants.{Kept, File, Stray}

-- just the bits of these boundaries are set
pub record IsMarkOf (mark : ℕ) (boundaries : List ℕ) : Type 0 where
  pub bits : (s : ℕ) → (bit_at mark s == 1) ≡ list_any (λ t. t == s) boundaries

-- the marks of the blocks of files below n are those of their homes
abbrev pub AreFilesMarked : List Home → List (Option Want) → List ℕ → ℕ → Type 0
AreFilesMarked homes wants marks n =
    (b i : ℕ) → b < n → want_of wants b ≡ Some (File i) → IsMarkOf (slice_index marks b) (option_to_list (home_of homes i))

-- the mark of block b by its want; that of a stray is the one that it had
abbrev pub IsMarkBy : Shape → List Home → ℕ → Option Want → ℕ → ℕ → Type 0
IsMarkBy shape homes b None before mark = IsMarkOf mark []
IsMarkBy shape homes b (Some Kept) before mark = IsMarkOf mark (places_of shape b)
IsMarkBy shape homes b (Some (File i)) before mark = IsMarkOf mark (option_to_list (home_of homes i))
IsMarkBy shape homes b (Some Stray) before mark = mark ≡ before
