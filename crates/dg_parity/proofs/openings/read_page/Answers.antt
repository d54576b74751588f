use Rattle.std.proofs.Common.{ℕ, subst, arith}
use Rattle.std.specs.Prelude.{Option, IfSome}
use Rattle.dg_io.specs.Told.{Told, Measures}
use Rattle.dg_parity.proofs.OpeningLemmas.{page-got}
use Rattle.dg_parity.proofs.openings.read_page.Goals as goal

pub returns-clause-got : goal.returns-clause-got
returns-clause-got g c =
    let found = subst (λ (o : Option ℕ). IfSome o (λ n. Told (Measures n) (g.R.Rack.bytes c.args.rack.now c.args.member) (g.R.Rack.bytes c.attach.new.self c.args.member)))
    c.in-Some.is c.in-Ok.ensures.found in
    page-got (g.R.Rack.bytes c.args.rack.now c.args.member) (g.R.Rack.bytes c.attach.new.self c.args.member) (g.R.Rack.bytes c.read.new.self c.args.member) c.in-Some.long c.read.new.buf
    (omega (arith, c.told-page, c.read.auto.buf)) found c.in-Ok-read.ensures.ok
