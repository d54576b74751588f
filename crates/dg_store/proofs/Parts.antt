-- One boundary of a sound store, as a call finds it.
use Rattle.std.proofs.Common.{◌≡◌, ℕ, ◌+◌, ◌<◌, length, get_or, refl, arith}
use Rattle.std.specs.Prelude.{Some, slice_get, slice_set}
use Rattle.dg_io.specs.declared.outside.Rack.{Ghosts}
use Rattle.dg_pair.specs.declared.boundaries.Boundary.{Boundary}
use Rattle.dg_pair.specs.Boundaries.{MembersFit, MembersStand, members_of, size_of, slots_of}
use Rattle.dg_pair.specs.Calls.{IsPair}
use Rattle.dg_store.specs.Rows.{members_in}
use Rattle.dg_store.specs.Stores.{IsSound}
use Rattle.dg_store.specs.declared.store.Store.{Store}
use Rattle.dg_store.proofs.Calls.{part_room, part_stand}
use Rattle.dg_store.proofs.Changed.{IsChanged}
use Rattle.dg_store.proofs.Rows.{set_changed, there}

-- it is x, and whatever y takes its place changes its members alone
pub record IsPart {R : Type 0} (rack : Ghosts R) (store : Store R) (s : ℕ) (x : Boundary) : Type 0 where
  pub within : s < length store.row.items
  pub was : slice_get store.row.items s ≡ Some x
  pub pair : IsPair s store.map.shape.l (store.map.shape.k + 1) x
  pub room : MembersFit (size_of x) (slots_of x) (members_of x) (rack.bytes store.rack)
  pub stand : MembersStand (members_of x) (rack.stands store.rack)
  pub changed : (y : Boundary) → IsChanged s (members_of x) (members_of y) (members_in store.row.items) (members_in (slice_set store.row.items s y))

pub part_of : {R : Type 0} {rack : Ghosts R} {store : Store R} {s : ℕ} {x : Boundary} → IsSound rack store → s < store.map.shape.b → x ≡ get_or store.row.items s x → IsPart rack store s x
part_of {rack = rack} {store = store} {s = s} {x = x} sound low is =
    let within : s < length store.row.items = omega (arith, sound.built.count) in
    let was = there store.row.items s x within is in
    record {
      within = within;
      was = was;
      pair = sound.built.stands s x was;
      room = part_room _ _ s store.row.items x x within was sound.built.stands store.map.shape _ refl refl sound.long;
      stand = part_stand _ _ s store.row.items x x within was sound.built.stands _ sound.stand;
      changed = λ y. set_changed store.row.items s x y within was;
    }
