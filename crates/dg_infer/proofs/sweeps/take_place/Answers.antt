use Rattle.dg_infer.proofs.FetchedLaws.{on_ok_any}
use Rattle.dg_infer.proofs.TargetLaws.{kinds_more}
use Rattle.dg_infer.specs.Meanings.{kind_at}
use Rattle.dg_infer.proofs.sweeps.take_place.Goals as goal

pub returns-clause-kinds : goal.returns-clause-kinds
returns-clause-kinds c =
    on_ok_any c.take_piece.result (λ v has before.
    let more = kinds_more c.args.g.now v c.args.place (kind_at c.args.sweep.now.kinds.entries) (kind_at c.move_kinds.new.kinds.entries) (c.in_ok-move_kinds.ensures.here v has) c.in_ok-move_kinds.ensures.others before.here before.later in
    record { here = more.0; later = more.1 })
