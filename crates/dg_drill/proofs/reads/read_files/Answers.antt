use Rattle.std.proofs.Common.{◌≡◌, ◌∙◌, ◌*◌, ◌+◌, ap, refl, arith}
use Rattle.dg_drill.proofs.ChainLaws.{leaves_both, leaves_none}
use Rattle.dg_drill.proofs.ReadLaws.{outcome_few, reads_more, reads_none}
use Rattle.ufs_drill.specs.Items.{size_by}
use Rattle.rand_pcg.specs.Lcg.{Lcg}
use Rattle.rand_pcg.specs.Pcg.{pcg32}
use Rattle.dg_drill.proofs.reads.read_files.Goals as goal

pub loop-k-init : goal.loop-k-init
loop-k-init g c = record {
  leaves = leaves_none g.R.Rack c.args.volume.now c.requires.well;
  sizes = c.sizes_of-sizes.ensures;
  given = omega arith;
  bytes = omega arith;
  unavailable = omega arith;
  runs = λ state stands. reads_none g.R.Rack c.args.seed c.args.volume.now state _ refl stands;
}

pub loop-k-preserved : goal.loop-k-preserved
loop-k-preserved g c =
    let k = c.loop-k.k in
    let was = c.loop-k.invariant in
    let size = c.next_size-size.ensures.size ∙ ap (λ (g : Lcg). size_by (pcg32 g).0 c.loop-k.k) was.sizes in
    let few = outcome_few c.read_file-outcome.result c.next_size-size.result c.loop-k.tally c.add.new.self c.add.ensures in
    let up : 212000 * (c.loop-k.k + 1) ≡ 212000 * c.loop-k.k + 212000 = omega arith in
    record {
      leaves = leaves_both g.R.Rack c.args.volume.now c.loop-k.volume c.read_file-outcome.new.volume was.leaves c.read_file-outcome.ensures.leaves;
      sizes = c.next_size-size.ensures.next c.args.seed k was.sizes;
      given = omega (arith, few.given, was.given);
      bytes = omega (arith, few.bytes, was.bytes, up, c.next_size-size.ensures.small);
      unavailable = omega (arith, few.unavailable, was.unavailable);
      runs = λ state stands.
          reads_more g.R.Rack c.args.seed k c.next_size-size.result c.loop-k.volume c.read_file-outcome.new.volume state c.loop-k.tally c.add.new.self c.read_file-outcome.result size
          c.add.ensures c.read_file-outcome.ensures.leaves (was.runs state stands) c.read_file-outcome.ensures.read;
    }

pub returns-clause-runs : goal.returns-clause-runs
returns-clause-runs g c = λ state stands.
    let last : c.loop-k.k ≡ c.args.files = omega arith in
    rw last at (c.loop-k.invariant.runs state stands)
