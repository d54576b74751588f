use Rattle.std.proofs.Common.{◌+◌, ◌/◌, ◌%◌, ℕ, inl, inr, get_or, refl, ap, ◌∙◌, arith}
use Rattle.std.proofs.lemmas.Bool.{cases_eq}
use Rattle.dg_parity.specs.Stripes.{stripe_of}
use Rattle.dg_parity.proofs.RunLemmas.{chunk-slice}
use Rattle.dg_parity.proofs.windows.scatter.Goals as goal

pub loop-q-preserved : goal.loop-q-preserved
loop-q-preserved c = record {
  end = refl;
  own = λ k lt disk low high. elim (cases_eq (stripe_of c.args.n ((c.args.at + k) / 512)) (c.args.first + c.loop-q.q)) [
    | inl e ↦
        c.scatter_chunk.ensures.own k (omega (arith, c.scatter_chunk.auto.buf)) disk e
        ∙ chunk-slice c.args.row.now c.loop-q.q ((c.args.at + k) % 512) _ (omega arith)
        ∙ ap (λ (x : ℕ). get_or c.args.row.now x 0) (omega (arith, e))
    | inr ne ↦
        c.scatter_chunk.ensures.stripes k (omega (arith, c.scatter_chunk.auto.buf)) ne
        ∙ c.loop-q.invariant.own k (omega (arith, c.scatter_chunk.auto.buf)) disk low (omega (arith, high, ne))
  ];
  disks = λ k lt ne.
      c.scatter_chunk.ensures.disks k (omega (arith, c.scatter_chunk.auto.buf)) ne ∙ c.loop-q.invariant.disks k (omega (arith, c.scatter_chunk.auto.buf)) ne;
}
