use Rattle.std.proofs.Common.{refl, ◌∙◌, arith}
use Rattle.std.specs.Prelude.{not}
use Rattle.std.proofs.lemmas.List.{length-set}
use Rattle.dg_parity.specs.Openings.{IsIn, fronts_in}
use Rattle.dg_parity.proofs.ChiefLemmas.{outs-more, rest-more}
use Rattle.dg_parity.proofs.chiefs.outs.Goals as goal

pub loop-j-preserved : goal.loop-j-preserved
loop-j-preserved c = record {
  size = length-set c.loop-j.out c.loop-j.j (not c.is_in.result) ∙ c.loop-j.invariant.size;
  ins = outs-more (IsIn (fronts_in c.args.fronts.now) c.args.n c.args.chief.now) c.loop-j.out c.loop-j.j c.is_in.result (omega (arith, c.loop-j.invariant.size, c.loop-j-test.true, c.requires))
      c.loop-j.invariant.ins (c.is_in.ensures (fronts_in c.args.fronts.now) refl);
  rest = rest-more c.loop-j.out c.loop-j.j (not c.is_in.result) c.loop-j.invariant.rest;
}
