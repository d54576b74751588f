use Rattle.std.proofs.Common.{arith, sym, ◌∙◌, ap}
use Rattle.std.specs.Prelude.{is_err}
use Rattle.std.proofs.lemmas.Bool.{false≢true}
use Rattle.dg_stop.proofs.FindLemmas.{labeled_read, looks_as, on_read, was_read}
use Rattle.dg_stop.proofs.found_headers.read_headers.Goals as goal

pub returns-in_err-read-clause-looks : goal.returns-in_err-read-clause-looks
returns-in_err-read-clause-looks g c =
    looks_as g.R.Rack c.args.member c.read.result c.from_residual.result (λ h. c.from_residual.ensures.0) (λ h. ap is_err c.in_err-read.was) c.args.rack.now c.read.new.self
    (was_read g.R.Rack c.args.member c.read.result c.args.rack.now c.read.new.self c.read.ensures.leaves c.read.ensures.made c.read.ensures.same c.read.ensures.writes)

pub returns-clause-looks : goal.returns-clause-looks
returns-clause-looks g c =
    looks_as g.R.Rack c.args.member c.read.result _ (λ h. sym (ap is_err c.in_ok-read.was) ∙ h) (λ h. absurd (false≢true h)) c.args.rack.now c.read.new.self
    (was_read g.R.Rack c.args.member c.read.result c.args.rack.now c.read.new.self c.read.ensures.leaves c.read.ensures.made c.read.ensures.same c.read.ensures.writes)

pub returns-then-is_labeled-clause-looks : goal.returns-then-is_labeled-clause-looks
returns-then-is_labeled-clause-looks g c =
    looks_as g.R.Rack c.args.member c.read.result _ (λ h. sym (ap is_err c.in_ok-read.was) ∙ h) (λ h. absurd (false≢true h)) c.args.rack.now c.read.new.self
    (was_read g.R.Rack c.args.member c.read.result c.args.rack.now c.read.new.self c.read.ensures.leaves c.read.ensures.made c.read.ensures.same c.read.ensures.writes)

pub returns-then-is_labeled-clause-found : goal.returns-then-is_labeled-clause-found
returns-then-is_labeled-clause-found g c =
    labeled_read c.read.new.buf (omega (arith, c.read.auto.buf)) g.R.Rack c.args.member c.args.rack.now c.read.new.self c.in_ok-read.ensures.ok (c.is_labeled.ensures.0 c.if-is_labeled.true)

pub returns-clause-found : goal.returns-clause-found
returns-clause-found g c =
    on_read c.args.member c.args.size c.read.new.buf c.headers_of.result c.headers_of.ensures.first c.headers_of.ensures.second (omega (arith, c.read.auto.buf)) g.R.Rack c.args.rack.now c.read.new.self
    c.requires.long c.in_ok-read.ensures.ok (c.in_ok-read.ensures.leaves.stands_on c.requires.stands) (λ is. false≢true (sym c.if-is_labeled.false ∙ c.is_labeled.ensures.1 is))
