-- Calls on a row of boundaries, one after another.
use Rattle.std.proofs.Common.{inl, refl, ◌+◌, List, arith}
use Rattle.dg_io.specs.MakesLaws.{makes_none}
use Rattle.dg_io.specs.declared.outside.Rack.{Ghosts}
use Rattle.dg_model.specs.declared.shapes.Shape.{Shape}
use Rattle.dg_pair.specs.declared.boundaries.Boundary.{Boundary}
use Rattle.dg_pair.specs.Calls.{IsCallOf}
use Rattle.dg_store.specs.ReadLaws.{beside_both, beside_none, called_both, falls_both, fell_both, idle_both, own_both, own_none, rack_both, rack_none}
use Rattle.dg_store.specs.Rows.{IsRow, members_in}
use Rattle.dg_store.specs.Slots.{RowKeeps}

module _ {R : Type 0} (rack : Ghosts R) (shape : Shape) where
  pub keeps_none : (row : List Boundary) (r : R) → IsRow rack shape row r → RowKeeps rack shape row r row r
  keeps_none row r is = record {
    row = is;
    stays = rack_none rack r;
    own = own_none rack shape.b r;
    called = makes_none rack (IsCallOf (members_in row)) r;
    idle = λ q out. refl;
    fell = λ q rose. absurd (omega (arith, rose));
    falls = λ q. inl refl;
    beside = beside_none shape.l (shape.k + 1) (rack.bytes r);
  }

  pub keeps_both : (a b c : List Boundary) (x y z : R) → RowKeeps rack shape a x b y → RowKeeps rack shape b y c z → RowKeeps rack shape a x c z
  keeps_both a b c x y z first second = record {
    row = second.row;
    stays = rack_both rack x y z first.stays second.stays;
    own = own_both rack shape.b x y z first.own second.own;
    called = called_both rack _ _ (members_in a) (members_in b) x y z first.falls first.called second.called;
    idle = idle_both _ _ _ (members_in a) (members_in b) first.idle second.idle first.falls;
    fell = fell_both _ _ _ (members_in b) (members_in c) first.fell second.fell second.falls;
    falls = falls_both _ _ _ _ _ _ first.stays.rise.faults second.stays.rise.faults first.falls second.falls;
    beside = beside_both shape.l (shape.k + 1) (rack.bytes x) (rack.bytes y) (rack.bytes z) first.beside second.beside;
  }
