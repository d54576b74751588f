use Rattle.std.specs.Prelude.{codes}
use Rattle.std.proofs.lemmas.Result.{on_ok_weaker, on_err_weaker}
use Rattle.dg_text.specs.HexLines.{last_line}
use Rattle.dg_text.specs.LineWeights.{feed_number}
use Rattle.dg_text.proofs.HexLineSteps.{ends, ends_part}
use Rattle.dg_text.proofs.hex_lines.HexLines.cut.Goals as goal

pub returns-clause-ok : goal.returns-clause-ok
returns-clause-ok g c =
    on_ok_weaker c.finish.result (λ told. ends g.K.Sink c.args.self.now c.finish.new.self (last_line (codes "cut ") c.args.n) (feed_number (codes "cut ") c.args.n) told c.finish.ensures.calls) c.finish.ensures.ok

pub returns-clause-err : goal.returns-clause-err
returns-clause-err g c =
    on_err_weaker c.finish.result (λ told. ends_part g.K.Sink c.args.self.now c.finish.new.self (last_line (codes "cut ") c.args.n) told c.finish.ensures.calls) c.finish.ensures.err
