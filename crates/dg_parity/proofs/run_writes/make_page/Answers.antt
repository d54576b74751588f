use Rattle.std.proofs.Common.{ℕ, sym, ap, ◌∙◌, arith, bit_xor, inl, refl, length}
use Rattle.std.proofs.lemmas.Bool.{false≢true}
use Rattle.std.specs.Int.Bits.{xor_zero_l}
use Rattle.dg_io.specs.Told.{patch}
use Rattle.dg_parity.specs.Exclusive.{xor_upto}
use Rattle.dg_parity.specs.Groups.{is_out}
use Rattle.dg_parity.specs.Runs.{term_of}
use Rattle.dg_parity.proofs.LaidLemmas.{page-made}
use Rattle.dg_parity.proofs.UpdateLemmas.{least-is, within-is, within-none}
use Rattle.dg_parity.proofs.run_writes.make_page.Goals as goal

pub returns-then-is_out-clause-right : goal.returns-then-is_out-clause-right
returns-then-is_out-clause-right g c bytes size all held in0 =
    absurd (false≢true (sym in0 ∙ ap (is_out c.args.group.now) (sym c.parity_on.ensures) ∙ sym c.is_out.ensures ∙ c.if-is_out.true))

pub returns-clause-right : goal.returns-clause-right
returns-clause-right g c bytes size all held in0 r lt =
    c.if-not-add_terms.ensures.added bytes size all held r lt
    ∙ ap (λ (k : ℕ). bit_xor k (xor_upto (term_of c.args.group.now.disks c.args.t c.is_by_change-by_change.result bytes (patch bytes c.args.at c.args.piece.now) r) c.args.group.now.disks))
    (c.clear.ensures r (omega (arith, lt, c.requires.page)))
    ∙ xor_zero_l _
    ∙ page-made c.args.group.now.disks c.args.t r c.is_by_change-by_change.result bytes (patch bytes c.args.at c.args.piece.now) (omega (arith, c.args.group.now.least)) lt

pub returns-then-not-add_terms-clause-whole : goal.returns-then-not-add_terms-clause-whole
returns-then-not-add_terms-clause-whole g c whole = c.add_terms.ensures.idle (c.is_by_change-by_change.ensures.whole whole) whole

pub returns-clause-whole : goal.returns-clause-whole
returns-clause-whole g c whole = c.add_terms.ensures.idle (c.is_by_change-by_change.ensures.whole whole) whole

pub returns-then-is_out-clause-steady : goal.returns-then-is_out-clause-steady
returns-then-is_out-clause-steady g c = inl refl

pub returns-clause-steady : goal.returns-clause-steady
returns-clause-steady g c = c.if-not-add_terms.ensures.steady

pub returns-then-is_out-clause-few : goal.returns-then-is_out-clause-few
returns-then-is_out-clause-few g c = within-none g.R.Rack _ c.args.group.now c.args.rack.now

pub returns-clause-few : goal.returns-clause-few
returns-clause-few g c =
    within-is g.R.Rack _ _ _ _ _ _
    (least-is c.args.group.now.disks (is_out c.args.group.now) c.args.at (length c.args.piece.now) c.args.t c.is_by_change-by_change.result
    (ap (is_out c.args.group.now) (sym c.parity_on.ensures) ∙ sym c.is_out.ensures ∙ c.if-is_out.false) c.is_by_change-by_change.ensures.exact)
    c.if-not-add_terms.ensures.few
