use Rattle.std.proofs.Common.{ℕ, length, inl, inr, sym, subst, ◌∙◌, arith, refl}
use Rattle.std.proofs.lemmas.Bool.{cases_eq, false≢true}
use Rattle.dg_io.specs.Told.{patch}
use Rattle.dg_parity.specs.Stripes.{parity_of}
use Rattle.dg_parity.specs.Runs.{laid, ChangesPage}
use Rattle.dg_parity.proofs.LaidLemmas.{laid-even, term-added}
use Rattle.dg_parity.proofs.LaidSteps.{patched}
use Rattle.dg_parity.proofs.RowLemmas.{whole-covers}
use Rattle.dg_parity.specs.Groups.{is_out}
use Rattle.dg_parity.proofs.UpdateLemmas.{reads-needed, within-is, within-none}
use Rattle.dg_parity.proofs.run_writes.add_term.Goals as goal

pub returns-then-not-is_needed-clause-added : goal.returns-then-not-is_needed-clause-added
returns-then-not-is_needed-clause-added g c bytes size all held r lt =
    term-added c.args.by_change c.is_needed.result c.args.group.now.disks c.args.j c.args.t c.args.at r c.args.piece.now c.clear.new.row c.args.page.now c.change_page.new.page
    bytes (patch bytes c.args.at c.args.piece.now) c.change_page.ensures (patched bytes c.args.piece.now c.args.at (omega (arith, size, c.requires.range))) lt
    c.is_needed.ensures.parity (λ by none ne. c.is_needed.ensures.untouched by none ne r lt) c.is_needed.ensures.covered
    (λ h. absurd (false≢true (sym c.if-not-is_needed.true ∙ h))) (λ h. c.clear.ensures r (omega (arith, lt)))

pub returns-clause-added : goal.returns-clause-added
returns-clause-added g c bytes size all held r lt =
    term-added c.args.by_change c.is_needed.result c.args.group.now.disks c.args.j c.args.t c.args.at r c.args.piece.now c.read_part.new.buf c.args.page.now c.change_page-2.new.page
    bytes (patch bytes c.args.at c.args.piece.now) (subst (λ (m : ℕ). ChangesPage m c.args.j c.args.t c.args.by_change c.args.at c.args.piece.now c.read_part.new.buf c.args.page.now c.change_page-2.new.page)
    c.read_part.ensures.leaves.later.disks c.change_page-2.ensures) (patched bytes c.args.piece.now c.args.at (omega (arith, size, c.requires.range))) lt
    c.is_needed.ensures.parity (λ by none ne. c.is_needed.ensures.untouched by none ne r lt) c.is_needed.ensures.covered
    (λ h. c.if-not-read_part.ensures.got (laid c.args.group.now.disks bytes) all held (λ x range. laid-even c.args.group.now.disks bytes x (omega (arith, c.args.group.now.least))) r (omega (arith, lt, c.read_part.auto.buf)))
    (λ h. absurd (false≢true (sym h ∙ c.if-not-is_needed.false)))

pub returns-then-not-read_part-clause-idle : goal.returns-then-not-read_part-clause-idle
returns-then-not-read_part-clause-idle g c by whole = elim (cases_eq c.args.j (parity_of c.args.group.now.disks c.args.t)) [
  | inl e ↦ absurd (false≢true (sym (c.is_needed.ensures.parity e ∙ by) ∙ c.if-not-is_needed.false))
  | inr ne ↦
      let all = whole-covers c.args.group.now.disks c.args.t c.args.j c.args.at (length c.args.piece.now) c.args.group.now.least c.requires.disk ne whole in
      elim (c.is_needed.ensures.partly by c.if-not-is_needed.false) [ inl low ↦ absurd (omega (arith, low, all.0)) | inr high ↦ absurd (omega (arith, high, all.1)) ]
]

pub returns-clause-idle : goal.returns-clause-idle
returns-clause-idle g c by whole = elim (cases_eq c.args.j (parity_of c.args.group.now.disks c.args.t)) [
  | inl e ↦ absurd (false≢true (sym (c.is_needed.ensures.parity e ∙ by) ∙ c.if-not-is_needed.false))
  | inr ne ↦
      let all = whole-covers c.args.group.now.disks c.args.t c.args.j c.args.at (length c.args.piece.now) c.args.group.now.least c.requires.disk ne whole in
      elim (c.is_needed.ensures.partly by c.if-not-is_needed.false) [ inl low ↦ absurd (omega (arith, low, all.0)) | inr high ↦ absurd (omega (arith, high, all.1)) ]
]

pub returns-then-not-is_needed-clause-steady : goal.returns-then-not-is_needed-clause-steady
returns-then-not-is_needed-clause-steady g c = inl refl

pub returns-clause-steady : goal.returns-clause-steady
returns-clause-steady g c = c.if-not-read_part.ensures.steady

pub returns-then-not-is_needed-clause-few : goal.returns-then-not-is_needed-clause-few
returns-then-not-is_needed-clause-few g c = within-none g.R.Rack _ c.args.group.now c.args.rack.now

pub returns-clause-few : goal.returns-clause-few
returns-clause-few g c =
    within-is g.R.Rack _ _ _ _ _ _
    (sym (reads-needed c.args.group.now.disks (is_out c.args.group.now) c.args.at (length c.args.piece.now) c.args.t c.args.by_change c.args.j (sym c.is_needed.ensures.exact ∙ c.if-not-is_needed.false)))
    c.if-not-read_part.ensures.few
