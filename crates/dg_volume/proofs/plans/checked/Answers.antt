use Rattle.std.proofs.Common.{◌≡◌, ◌∙◌, sym, ap, true}
use Rattle.std.specs.Prelude.{Ok}
use Rattle.std.proofs.lemmas.Bool.{false≢true}
use Rattle.dg_model.specs.States.{has_lost}
use Rattle.dg_store.specs.Stores.{members_of, shape_of, table_of}
use Rattle.dg_volume.proofs.ArrayLaws.{table_right}
use Rattle.dg_volume.proofs.GoneLaws.{gone_lost}
use Rattle.dg_volume.proofs.plans.checked.Goals as goal

pub unreachable-requires : goal.unreachable-requires
unreachable-requires g c =
    let new = c.check.new.view in
    let lost = c.in_ok-check.ensures.gone (ap Ok c.in-Gone.is) in
    let some : has_lost (shape_of new) (members_of new) ≡ true = gone_lost (table_of new) (members_of new) lost.block c.in_ok-check.ensures.keeps.sound.table lost.lost in
    absurd (false≢true (sym c.in-None.ensures ∙ some))

pub returns-in-Malformed-clause-answer : goal.returns-in-Malformed-clause-answer
returns-in-Malformed-clause-answer g c told V held inferred =
    c.in_ok-check.ensures.malformed c.in-Malformed.kind c.in-Malformed.n (ap Ok c.in-Malformed.is) told V
    (held, table_right (shape_of c.args.store.now) c.args.inference.now c.claims.result.now V c.requires.fits c.claims.ensures inferred)
