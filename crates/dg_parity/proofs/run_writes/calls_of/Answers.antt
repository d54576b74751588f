use Rattle.std.proofs.Common.{inl, inr, sym, ◌∙◌, arith}
use Rattle.std.proofs.lemmas.Bool.{cases_eq, false≢true}
use Rattle.dg_parity.specs.Stripes.{parity_of}
use Rattle.dg_parity.proofs.RowLemmas.{whole-covers}
use Rattle.dg_parity.proofs.run_writes.calls_of.Goals as goal

pub returns-then-is_out-clause-whole : goal.returns-then-is_out-clause-whole
returns-then-is_out-clause-whole c by whole = elim (cases_eq c.args.j (parity_of c.args.group.now.disks c.args.t)) [
  | inl e ↦ absurd (false≢true (sym (c.is_needed.ensures.parity e ∙ by) ∙ c.if-not-is_needed.false))
  | inr ne ↦
      let all = whole-covers c.args.group.now.disks c.args.t c.args.j c.args.at c.args.size c.args.group.now.least c.requires.disk ne whole in
      elim (c.is_needed.ensures.partly by c.if-not-is_needed.false) [ inl low ↦ absurd (omega (arith, low, all.0)) | inr high ↦ absurd (omega (arith, high, all.1)) ]
]

pub returns-clause-whole : goal.returns-clause-whole
returns-clause-whole c by whole = elim (cases_eq c.args.j (parity_of c.args.group.now.disks c.args.t)) [
  | inl e ↦ absurd (false≢true (sym (c.is_needed.ensures.parity e ∙ by) ∙ c.if-not-is_needed.false))
  | inr ne ↦
      let all = whole-covers c.args.group.now.disks c.args.t c.args.j c.args.at c.args.size c.args.group.now.least c.requires.disk ne whole in
      elim (c.is_needed.ensures.partly by c.if-not-is_needed.false) [ inl low ↦ absurd (omega (arith, low, all.0)) | inr high ↦ absurd (omega (arith, high, all.1)) ]
]
