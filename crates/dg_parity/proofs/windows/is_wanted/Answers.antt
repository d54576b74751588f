use Rattle.std.proofs.Common.{◌+◌, ◌/◌, inl, inr, refl, arith}
use Rattle.std.proofs.lemmas.Bool.{cases_eq}
use Rattle.dg_parity.specs.Stripes.{stripe_of}
use Rattle.dg_parity.proofs.RunLemmas.{window-high}
use Rattle.dg_parity.proofs.windows.is_wanted.Goals as goal

pub returns-clause-no : goal.returns-clause-no
returns-clause-no c k lt disk =
    c.loop-q.invariant.none k lt (omega (arith, window-high c.args.n c.args.at c.args.size k c.args.window c.requires.least c.requires.window lt)) disk

pub loop-q-preserved : goal.loop-q-preserved
loop-q-preserved c = record {
  end = refl;
  none = λ k lt high disk. elim (cases_eq (stripe_of c.args.n ((c.args.at + k) / 512)) (c.args.window.first + c.loop-q.q)) [
    | inl e ↦ c.if-has_bytes.ensures.no k lt e disk
    | inr ne ↦ c.loop-q.invariant.none k lt (omega (arith, high, ne)) disk
  ];
}
