use Rattle.std.proofs.Common.{arith}
use Rattle.dg_store.specs.ReadLaws.{tells_good}
use Rattle.dg_store.specs.Stores.{members_of, shape_of, table_of}
use Rattle.dg_hot.proofs.CallLaws.{one_copy}
use Rattle.dg_hot.proofs.StoreLaws.{not_placed, placed_is}
use Rattle.dg_hot.proofs.copies.copy_block.Goals as goal

pub returns-in-Placed-clause-moved : goal.returns-in-Placed-clause-moved
returns-in-Placed-clause-moved g c = record {
  leaves = c.place.ensures.leaves;
  written = c.place.ensures.written;
  stands = λ told. c.in-Ok.ensures.stands c.in-Placed.is (tells_good g.R.Rack _ c.place.ensures.leaves.sound told);
}

pub returns-in-Placed-clause-copied : goal.returns-in-Placed-clause-copied
returns-in-Placed-clause-copied g c is =
    placed_is _ _ c.args.block c.args.boundary c.place.ensures.leaves.sound.table (omega (arith, c.requires.sound.table.size, c.requires.range))
    (c.in-Ok.ensures.placed c.in-Placed.is)

pub returns-in_default : goal.returns-in_default
returns-in_default g c =
    let did = c.in-Ok.ensures in
    record {
      moved = record { leaves = did.leaves; written = did.written; stands = λ told. did.same c.in_default.not-Placed };
      copied = λ e. absurd (cc e);
      lost = λ e. not_placed c.in-Ok.answer (table_of c.args.store.now) (shape_of c.place.new.self) (members_of c.place.new.self) c.args.block c.args.boundary c.requires.sound.table c.requires.boundary did.leaves.keeps.shape c.requires.room
          c.in_default.not-Placed did.full.0 did.gone did.lost did.other;
      same = λ e. did.refused c.in_default.not-Placed;
      err = tt;
      most = omega (arith, did.most, one_copy (table_of c.args.store.now) c.args.block c.args.boundary c.requires.sound.table c.requires.boundary c.requires.none);
    }

pub returns-in-Placed-clause-most : goal.returns-in-Placed-clause-most
returns-in-Placed-clause-most g c =
    omega (
      arith,
      c.place.ensures.most,
      one_copy (table_of c.args.store.now) c.args.block c.args.boundary c.requires.sound.table c.requires.boundary c.requires.none,
    )

pub returns-in-Err-clause-most : goal.returns-in-Err-clause-most
returns-in-Err-clause-most g c =
    omega (
      arith,
      c.place.ensures.most,
      one_copy (table_of c.args.store.now) c.args.block c.args.boundary c.requires.sound.table c.requires.boundary c.requires.none,
    )
