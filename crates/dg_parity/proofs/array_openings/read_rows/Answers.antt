use Rattle.std.proofs.Common.{ℕ, ◌≡◌, ◌+◌, subst, ◌∙◌, arith}
use Rattle.std.proofs.lemmas.List.{length-set}
use Rattle.dg_parity.specs.Groups.{disk_number}
use Rattle.dg_parity.specs.Openings.{LeavesRead}
use Rattle.dg_parity.proofs.ArrayOpeningLemmas.{rows-more}
use Rattle.dg_parity.proofs.OpeningLemmas.{read-then}
use Rattle.dg_parity.proofs.array_openings.read_rows.Goals as goal

pub loop-s-preserved : goal.loop-s-preserved
loop-s-preserved g c =
    let next : disk_number c.loop-s.s 8 ≡ disk_number (c.loop-s.s + 1) 0 = omega arith in
    record {
      size = length-set c.loop-s.rows c.loop-s.s c.read_fronts.result ∙ c.loop-s.invariant.size;
      leaves = subst (λ (k : ℕ). LeavesRead g.R.Rack (disk_number 0 0) k c.args.rack.now c.read_fronts.new.rack) next
          (read-then g.R.Rack (disk_number 0 0) (disk_number c.loop-s.s 0) (disk_number c.loop-s.s 8) c.args.rack.now c.loop-s.rack c.read_fronts.new.rack (omega arith) (omega arith)
          c.loop-s.invariant.leaves c.read_fronts.ensures.leaves);
      found = rows-more g.R.Rack c.args.rack.now c.loop-s.rack c.read_fronts.new.rack c.loop-s.s c.loop-s.rows c.read_fronts.result (omega (arith, c.loop-s.invariant.size, c.loop-s-test.true))
          c.loop-s.invariant.leaves c.read_fronts.ensures.leaves c.loop-s.invariant.found c.read_fronts.ensures.found;
      calls = omega (arith, c.loop-s.invariant.calls, c.read_fronts.ensures.calls);
    }
