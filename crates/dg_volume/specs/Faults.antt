-- What counts of faults tell of the members of an array.
use Rattle.std.specs.Prelude.{◌≡◌, ◌<◌, ◌≤◌, ◌/◌, ℕ}
use Rattle.dg_io.specs.declared.outside.Rack.{Ghosts}
use Rattle.dg_model.specs.declared.members.MemberState.TheVariants.{Out}
use Rattle.dg_store.specs.Stores.{members_of, rack_of, shape_of}
use Rattle.dg_store.specs.declared.store.Store.{Store}

-- how often calls on a member have failed
abbrev pub faults_of : {R : Type 0} → Ghosts R → Store R → ℕ → ℕ
faults_of rack store = (rack.counts (rack_of store)).faults

-- a member of the array of which a call failed is out, and no member behind the array's own was called
pub record TellsFaults {R : Type 0} (rack : Ghosts R) (old new : Store R) : Type 0 where
  pub fell : (q : ℕ) → q / 2 < (shape_of old).b → faults_of rack old q < faults_of rack new q → members_of new q ≡ Out
  pub beyond : (q : ℕ) → (shape_of old).b ≤ q / 2 → faults_of rack new q ≡ faults_of rack old q

-- no member that is out was called
abbrev pub OutsStay : {R : Type 0} → Ghosts R → Store R → Store R → Type 0
OutsStay rack old new = (q : ℕ) → members_of old q ≡ Out → faults_of rack new q ≡ faults_of rack old q
