use Rattle.std.proofs.Common.{refl, sym, subst}
use Rattle.std.specs.Prelude.{IfOk, IsErr, IsOk}
use Rattle.dg_stop.proofs.TableLemmas.{first_bears, loses_first, reads_first}
use Rattle.dg_stop.specs.Tables.{HasExtra}
use Rattle.dg_stop.proofs.tables.read_first.Goals as goal

pub read_extra-requires-clause-bears : goal.read_extra-requires-clause-bears
read_extra-requires-clause-bears g c = first_bears g.R.Rack c.args.heads.now c.args.rack.now c.requires.borne c.in-Some.first c.in-Some.ensures

pub returns-in-Ok-clause-read : goal.returns-in-Ok-clause-read
returns-in-Ok-clause-read g c =
    reads_first g.R.Rack c.args.heads.now c.args.rack.now c.requires.borne c.in-Some.first c.in-Some.ensures c.read_extra.new.rack c.in_ok-extra.field-0 c.in_ok-extra.ensures.looks
    (subst (λ r. IsOk r) (sym c.in-Ok.is) refl) c.in-Ok.extra.items
    (subst (λ r. IfOk r (λ extra. HasExtra g.R.Rack c.read_extra.new.rack c.in-Some.first extra.items)) c.in-Ok.is c.in_ok-extra.ensures.has)

pub returns-in-Err-clause-lost : goal.returns-in-Err-clause-lost
returns-in-Err-clause-lost g c =
    loses_first g.R.Rack c.args.heads.now c.args.rack.now c.requires.borne c.in-Some.first c.in-Some.ensures c.read_extra.new.rack c.in_ok-extra.field-0 c.in_ok-extra.ensures.looks
    (subst (λ r. IsErr r) (sym c.in-Err.is) refl)
