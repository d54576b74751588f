use Rattle.std.proofs.Common.{ℕ, ◌≡◌, ◌+◌, subst, ◌∙◌, arith}
use Rattle.std.proofs.lemmas.List.{length-set}
use Rattle.dg_parity.specs.Groups.{disk_number}
use Rattle.dg_parity.specs.Openings.{LeavesRead}
use Rattle.dg_parity.proofs.OpeningLemmas.{read-then, fronts-more}
use Rattle.dg_parity.proofs.openings.read_fronts.Goals as goal

pub loop-j-preserved : goal.loop-j-preserved
loop-j-preserved g c =
    let next : disk_number c.args.s c.loop-j.j + 1 ≡ disk_number c.args.s (c.loop-j.j + 1) = omega arith in
    record {
      size = length-set c.loop-j.fronts c.loop-j.j c.read_front.result ∙ c.loop-j.invariant.size;
      leaves = subst (λ (k : ℕ). LeavesRead g.R.Rack (disk_number c.args.s 0) k c.args.rack.now c.read_front.new.rack) next
          (read-then g.R.Rack (disk_number c.args.s 0) (disk_number c.args.s c.loop-j.j) (disk_number c.args.s c.loop-j.j + 1) c.args.rack.now c.loop-j.rack c.read_front.new.rack (omega arith) (omega arith)
          c.loop-j.invariant.leaves c.read_front.ensures.leaves);
      found = fronts-more g.R.Rack c.args.rack.now c.loop-j.rack c.read_front.new.rack c.args.s c.loop-j.j c.loop-j.fronts c.read_front.result (omega (arith, c.loop-j.invariant.size, c.loop-j-test.true))
          c.loop-j.invariant.leaves c.read_front.ensures.leaves c.loop-j.invariant.found c.read_front.ensures.found;
      calls = omega (arith, c.loop-j.invariant.calls, c.read_front.ensures.calls);
    }
