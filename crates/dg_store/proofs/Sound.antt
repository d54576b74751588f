-- When the parts of a store fit one another.
use Rattle.std.proofs.Common.{◌≡◌, ℕ, ◌+◌, ◌/◌, true, List, [], length, refl, sym, ◌∙◌, ap, subst, arith}
use Rattle.std.specs.Prelude.{IsSome, Option, Some, None, slice_get}
use Rattle.std.proofs.lemmas.Bool.{false≢true}
use Rattle.dg_io.specs.declared.outside.Rack.{Ghosts}
use Rattle.dg_model.specs.Members.{ArePaired, is_filling, is_good, partner_of}
use Rattle.dg_model.specs.Tables.{IsTable}
use Rattle.dg_model.specs.declared.shapes.Shape.{Shape}
use Rattle.dg_pair.specs.declared.boundaries.Boundary.{Boundary}
use Rattle.dg_store.specs.declared.store.Store.{Store}
use Rattle.dg_store.specs.Leaves.{Leaves}
use Rattle.dg_store.specs.Rows.{AreLong, IsRow, RowStands, member_at, members_in}
use Rattle.dg_store.specs.Slots.{RowKeeps}
use Rattle.dg_store.specs.Stores.{IsSound, IsWhole}
use Rattle.dg_store.proofs.Rows.{beyond}

paired_at : (l slots : ℕ) (row : List Boundary) (q : ℕ) (o : Option Boundary) → slice_get row (q / 2) ≡ o → RowStands l slots row → is_filling (member_at o q) ≡ true → is_good (member_at o (partner_of q)) ≡ true
paired_at l slots row q None is stands fills = absurd (false≢true fills)
paired_at l slots row q (Some x) is stands fills = (stands (q / 2) x is).paired q fills

pub row_paired : (l slots : ℕ) (row : List Boundary) → RowStands l slots row → ArePaired (members_in row)
row_paired l slots row stands q fills =
    let beside : partner_of q / 2 ≡ q / 2 = omega arith in
    ap (λ (t : ℕ). is_good (member_at (slice_get row t) (partner_of q))) beside ∙ paired_at l slots row q (slice_get row (q / 2)) refl stands fills

module _ {R : Type 0} (rack : Ghosts R) where
  -- the row of a sound store
  pub row_of : (store : Store R) → IsSound rack store → IsRow rack store.map.shape store.row.items store.rack
  row_of store sound = record { count = sound.built.count; stands = sound.built.stands; long = sound.long; stand = sound.stand }

  -- the same whatever stands
  pub whole_of : (store : Store R) → IsTable store.map → length store.row.items ≡ store.map.shape.b → RowStands store.map.shape.l (store.map.shape.k + 1) store.row.items
      → AreLong store.map.shape (members_in store.row.items) (rack.bytes store.rack) → length store.block.items ≡ store.map.shape.l → store.given_up.items ≡ [] → IsWhole rack store
  whole_of store table count stands long block given_up = record {
    table = table;
    paired = row_paired store.map.shape.l (store.map.shape.k + 1) store.row.items stands;
    others = λ q past. beyond store.row.items q (omega (arith, count));
    long = long;
    built = record { count = count; stands = stands; block = block; given_up = given_up };
  }

-- `told` is the law of the rack that a member which stands tells its bytes, where the rack tells it
module _ {R : Type 0} (rack : Ghosts R) (told : (s : R) (q : ℕ) → rack.tells s q → rack.stands s q ≡ true → IsSome (rack.bytes s q)) where
  -- a store of such parts
  pub sound_of : (store : Store R) → IsTable store.map → IsRow rack store.map.shape store.row.items store.rack → length store.block.items ≡ store.map.shape.l → store.given_up.items ≡ [] → IsSound rack store
  sound_of store table row block given_up = record {
    table = table;
    paired = row_paired store.map.shape.l (store.map.shape.k + 1) store.row.items row.stands;
    others = λ q past. beyond store.row.items q (omega (arith, row.count));
    long = row.long;
    stand = row.stand;
    telling = λ q tells some. told store.rack q tells (row.stand q some);
    built = record { count = row.count; stands = row.stands; block = block; given_up = given_up };
  }

  pub sound_by : (store : Store R) (shape : Shape) → store.map.shape ≡ shape → IsTable store.map → IsRow rack shape store.row.items store.rack → length store.block.items ≡ shape.l → store.given_up.items ≡ [] → IsSound rack store
  sound_by store shape is table row block given_up =
      sound_of store table (subst (λ (s : Shape). IsRow rack s store.row.items store.rack) (sym is) row) (block ∙ sym (ap (λ (s : Shape). s.l) is)) given_up

  -- what a call on slots leaves of the row, it leaves of the store
  pub leaves_of : (old new : Store R) → new.map.shape ≡ old.map.shape → IsTable new.map → length new.block.items ≡ old.map.shape.l → new.given_up.items ≡ [] → RowKeeps rack old.map.shape old.row.items old.rack new.row.items new.rack → Leaves rack old new
  leaves_of old new shape table block given_up keeps = record {
    sound = sound_by new old.map.shape shape table keeps.row block given_up;
    keeps = record { shape = shape; stays = keeps.stays; own = keeps.own; called = keeps.called; idle = keeps.idle; fell = keeps.fell; falls = keeps.falls; beside = keeps.beside };
  }
