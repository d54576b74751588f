use Rattle.std.proofs.Common.{◌∙◌, sym}
use Rattle.dg_parity.proofs.RunLemmas.{scatters-none, scatters-past, scatters}
use Rattle.dg_parity.proofs.windows.scatter_chunk.Goals as goal

pub returns-then-j-parity_on : goal.returns-then-j-parity_on
returns-then-j-parity_on c = scatters-none c.args.n c.args.j c.args.t c.args.at c.args.chunk.now c.args.buf.now (c.if-j-parity_on.true ∙ c.parity_on.ensures)

pub returns-then-i-gt-LAST : goal.returns-then-i-gt-LAST
returns-then-i-gt-LAST c =
    scatters-past c.args.n c.args.j c.args.t c.args.at c.chunk_on-i.result c.args.chunk.now c.args.buf.now c.chunk_on-i.ensures c.if-i-gt-LAST.true c.requires.range

pub returns : goal.returns
returns c =
    scatters c.args.n c.args.j c.args.t c.args.at c.chunk_on-i.result c.args.chunk.now c.args.buf.now c.copy_common.new.to c.requires.least c.requires.disk
    (λ e. c.if-j-parity_on.false (e ∙ sym c.parity_on.ensures)) c.requires.size c.chunk_on-i.ensures
    c.copy_common.ensures.inside c.copy_common.ensures.before c.copy_common.ensures.behind
