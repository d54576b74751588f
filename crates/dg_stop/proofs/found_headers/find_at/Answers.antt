use Rattle.std.proofs.Common.{refl, sym, subst}
use Rattle.std.specs.Prelude.{IsOk}
use Rattle.dg_stop.proofs.FindLemmas.{looks_then}
use Rattle.dg_stop.proofs.found_headers.find_at.Goals as goal

pub returns-in-Some-clause-looks : goal.returns-in-Some-clause-looks
returns-in-Some-clause-looks g c =
    looks_then g.R.Rack c.args.member c.attach.result c.read_headers.result (subst (λ r. IsOk r) (sym c.in_ok-size.was) refl) c.args.rack.now c.attach.new.rack c.read_headers.new.rack
    c.attach.ensures.looks c.read_headers.ensures.looks
