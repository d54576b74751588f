use Rattle.std.proofs.Common.{◌==◌, ◌∙◌, refl}
use Rattle.std.proofs.lemmas.Bool.{eq-eqb}
use Rattle.dg_infer.proofs.FetchedLaws.{on_ok_map}
use Rattle.dg_infer.proofs.KindLaws.{kind_stored}
use Rattle.dg_infer.proofs.TargetLaws.{cond_true}
use Rattle.dg_infer.specs.Meanings.{kind_at}
use Rattle.dg_infer.proofs.kinds.move_kind.Goals as goal

pub returns-clause-here : goal.returns-clause-here
returns-clause-here c =
    on_ok_map c.set_kind.result (λ sets low v has.
    sets c.args.number
    ∙ cond_true (c.args.number == c.args.number) c.kind_in.result (kind_at c.args.kinds.now.entries c.args.number) (eq-eqb c.args.number c.args.number refl)
    ∙ c.kind_in.ensures
    ∙ kind_stored c.args.g.now v c.args.number _ c.place_of-byte.result.1 c.args.bytes.now low c.requires.inside refl c.place_of-byte.ensures.byte has) c.set_kind.ensures
