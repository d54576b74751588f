use Rattle.std.proofs.Common.{◌+◌, ◌*◌, ◌-◌, ◌/◌, ◌<◌, ◌≡◌, sym, ◌∙◌, arith}
use Rattle.dg_parity.proofs.RunLemmas.{stands-on}
use Rattle.dg_parity.proofs.windows.has_bytes.Goals as goal

pub returns-clause-yes : goal.returns-clause-yes
returns-clause-yes c =
    let k = 512 * c.chunk_on-i.result - c.args.at in
    let at : (c.args.at + k) / 512 ≡ c.chunk_on-i.result = omega (arith, c.if-at-size.false, c.if-i-at.false) in
    let low : k < c.args.size = omega (arith, c.if-at-size.false, c.requires.some) in (
      k,
      low,
      (stands-on c.args.n (c.args.at + k) c.args.t c.args.j c.requires.least c.requires.disk (λ e. c.if-j-parity_on.false (e ∙ sym c.parity_on.ensures))
          (at ∙ c.chunk_on-i.ensures)).disk,
    )
