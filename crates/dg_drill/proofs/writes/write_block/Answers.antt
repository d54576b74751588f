use Rattle.std.proofs.Common.{◌≡◌, ◌∙◌, ap, sym}
use Rattle.dg_drill.proofs.BlockLaws.{padded_block}
use Rattle.dg_drill.proofs.ChainLaws.{steps_of}
use Rattle.dg_model.specs.Blocks.{padded, stripped}
use Rattle.dg_model.specs.declared.events.Event.TheVariants.{Write}
use Rattle.dg_volume.specs.Volumes.{shape_of}
use Rattle.dg_volume.specs.Writes.{write_reply}
use Rattle.ufs_build.specs.Traces.{block_in}
use Rattle.dg_drill.proofs.writes.write_block.Goals as goal

pub returns-clause-answered : goal.returns-clause-answered
returns-clause-answered g c =
    let old = c.args.volume.now in
    let bytes = stripped (block_in c.args.g.now.fsize c.args.image.now c.args.b) in
    let padded : c.block_in.result.now ≡ padded (shape_of old).l bytes =
    padded_block (shape_of old).l c.block_in.result.now bytes (c.block_in.ensures.size ∙ c.requires.fits) (ap stripped (sym c.block_in.ensures.is)) in
    record {
      reply = write_reply c.in_ok-answer.answer;
      steps = steps_of g.R.Rack (λ recent. recent) old c.write_block.new.self (Write c.args.b bytes) _ (c.in_ok-answer.ensures.steps.steps bytes padded);
      count = c.count_of.ensures;
    }
