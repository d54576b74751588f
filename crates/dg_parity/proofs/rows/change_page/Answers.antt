use Rattle.std.proofs.Common.{◌∙◌, sym, arith}
use Rattle.dg_parity.proofs.LaidLemmas.{changes-idle, changes-parity, changes-plain, changes-both}
use Rattle.dg_parity.proofs.rows.change_page.Goals as goal

pub returns-then-not-by_change : goal.returns-then-not-by_change
returns-then-not-by_change c =
    changes-idle c.args.n c.args.j c.args.t c.args.by_change c.args.at c.args.piece.now c.args.chunk.now c.args.page.now
    (c.if-j-parity_on.true ∙ c.parity_on.ensures) c.if-not-by_change.true

pub returns-then-j-parity_on : goal.returns-then-j-parity_on
returns-then-j-parity_on c =
    changes-parity c.args.n c.args.j c.args.t c.args.by_change c.args.at c.args.piece.now c.args.chunk.now c.args.page.now c.xor_into.new.row
    (c.if-j-parity_on.true ∙ c.parity_on.ensures) c.if-not-by_change.false c.requires.page c.xor_into.ensures

pub returns-then-not-by_change-2 : goal.returns-then-not-by_change-2
returns-then-not-by_change-2 c =
    changes-plain c.args.n c.args.j c.args.t c.args.by_change c.args.at c.args.piece.now c.args.chunk.now c.overlay.new.row c.args.page.now c.xor_into-then-not-by_change-2.new.row
    (λ e. c.if-j-parity_on.false (e ∙ sym c.parity_on.ensures)) c.if-not-by_change-2.true c.requires.page c.overlay.ensures c.xor_into-then-not-by_change-2.ensures

pub returns : goal.returns
returns c =
    changes-both c.args.n c.args.j c.args.t c.args.by_change c.args.at c.args.piece.now c.args.chunk.now c.overlay-2.new.row c.args.page.now c.xor_into-2.new.row c.xor_into-3.new.row
    (λ e. c.if-j-parity_on.false (e ∙ sym c.parity_on.ensures)) c.if-not-by_change-2.false c.requires.page (omega (arith, c.xor_into-2.auto.row, c.requires.page))
    c.xor_into-2.ensures c.overlay-2.ensures c.xor_into-3.ensures
