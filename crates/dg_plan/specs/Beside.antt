-- The least placed file of each directory, as a table.
use Rattle.std.specs.Prelude.{◌≡◌, ◌<◌, ℕ, List, [], ◌∷◌, Option, Some, None, cond, find, nat_lt}
use Rattle.std.specs.BTreeMap.{BTreeMap, get}
use Rattle.std.specs.Ordering.{nat_cmp}
use Rattle.dg_model.specs.Plans.{are_same, directory_of}
use Rattle.dg_model.specs.declared.homes.Home.{Home}
use Rattle.dg_model.specs.declared.parents.Parent.{Parent}

-- each inode is above n, and they rise
abbrev pub RiseFrom : ℕ → List Home → Type 0
RiseFrom n [] = Unit {0}
RiseFrom n (home ∷ homes) = (n < home.inode) × RiseFrom home.inode homes

abbrev pub Rise : List Home → Type 0
Rise [] = Unit {0}
Rise (home ∷ homes) = RiseFrom home.inode homes

-- the one with the lesser inode
abbrev pub lesser : Home → Option Home → Option Home
lesser home None = Some home
lesser home (Some f) = cond (nat_lt home.inode f.inode) (Some home) (Some f)

-- the table has the least of the placed files of each directory
abbrev pub AreLeast : List Parent → BTreeMap ℕ Home → List Home → Type 0
AreLeast parents table homes = (d : ℕ) → get nat_cmp table d ≡ find (λ home. are_same (directory_of parents home.inode) (Some d)) homes
