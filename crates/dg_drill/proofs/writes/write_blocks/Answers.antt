use Rattle.std.proofs.Common.{◌≡◌, ◌<◌, ℕ, ap, arith, get_or, refl}
use Rattle.std.proofs.lemmas.List.Elements.{All-get_or}
use Rattle.dg_drill.proofs.ChainLaws.{leaves_both, leaves_none, writes_all, writes_more, writes_none}
use Rattle.dg_model.specs.declared.shapes.Shape.{Shape}
use Rattle.dg_volume.specs.Volumes.{shape_of}
use Rattle.dg_drill.proofs.writes.write_blocks.Goals as goal

pub loop-b-init : goal.loop-b-init
loop-b-init g c = record {
  leaves = leaves_none g.R.Rack c.args.volume.now c.requires.well;
  most = omega arith;
  runs = λ state stands none. writes_none g.R.Rack c.args.volume.now state c.args.blocks.now stands none;
}

pub loop-b-preserved : goal.loop-b-preserved
loop-b-preserved g c =
    let i = c.loop-b.b-index in
    let was = c.loop-b.invariant in
    let below : get_or c.args.blocks.now c.loop-b.b-index 0 < c.args.g.now.size =
    All-get_or (λ (b : ℕ). b < c.args.g.now.size) c.args.blocks.now c.loop-b.b-index 0 c.loop-b-test.true c.requires.blocks in
    let shape : (shape_of c.loop-b.volume).n ≡ (shape_of c.args.volume.now).n = ap (λ (s : Shape). s.n) was.leaves.shape in
    record {
      leaves = leaves_both g.R.Rack c.args.volume.now c.loop-b.volume c.write_block.new.volume was.leaves c.write_block.ensures.leaves;
      most = omega (arith, was.most, c.in_ok-more.ensures.most);
      runs = λ state stands none.
          writes_more g.R.Rack c.loop-b.volume c.write_block.new.volume state c.args.g.now.fsize c.args.image.now c.args.blocks.now i
          (get_or c.args.blocks.now c.loop-b.b-index 0) _ _ c.loop-b-test.true refl (omega (arith, below, shape, c.requires.inside)) c.requires.apart
          was.leaves.well c.write_block.ensures.leaves (was.runs state stands none) c.in_ok-more.ensures.answered;
    }

pub returns-clause-runs : goal.returns-clause-runs
returns-clause-runs g c = λ state stands none.
    writes_all g.R.Rack c.loop-b.volume state c.args.g.now.fsize c.args.image.now c.args.blocks.now c.loop-b.b-index c.loop-b.more
    (omega (arith, c.loop-b-test.false)) (c.loop-b.invariant.runs state stands none)

pub returns-in_err-more-clause-leaves : goal.returns-in_err-more-clause-leaves
returns-in_err-more-clause-leaves g c =
    leaves_both g.R.Rack c.args.volume.now c.loop-b.volume c.write_block.new.volume c.loop-b.invariant.leaves c.write_block.ensures.leaves
