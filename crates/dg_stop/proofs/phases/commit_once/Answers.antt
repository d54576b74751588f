use Rattle.std.proofs.Common.{◌≡◌, Bool, true, false, List, refl, sym, ◌∙◌, ap, arith}
use Rattle.std.proofs.lemmas.Bool.{false≢true, not-false, not-true}
use Rattle.std.proofs.lemmas.Slice.Eq.{slice_eq-Decides}
use Rattle.std.specs.Cmp.{booleans_Decides}
use Rattle.dg_stop.proofs.OnceLemmas.{once_tried, once_untried}
use Rattle.dg_stop.proofs.OneCommit.{leaves_tried, leaves_untried, sized_passed}
use Rattle.dg_stop.specs.Behind.{members_of}
use Rattle.dg_stop.specs.Phases.{flag_in}
use Rattle.dg_stop.proofs.phases.commit_once.Goals as goal

pub finish_all-requires-clause-sized : goal.finish_all-requires-clause-sized
finish_all-requires-clause-sized g c =
    sized_passed g.R.Rack c.args.members.now c.args.sequence c.args.room c.args.extra.now c.args.serving.now c.prepare_all.new.serving c.args.rack.now c.prepare_all.new.rack c.prepare_all.ensures

pub returns-then-ne : goal.returns-then-ne
returns-then-ne g c =
    let apart : c.args.serving.now ≡ c.prepare_all.new.serving → ⊥ = λ same. false≢true ((slice_eq-Decides booleans_Decides c.args.serving.now c.prepare_all.new.serving false
    (sym (not-true _ (sym c.ne.ensures ∙ c.if-ne.true)))).1 same) in
    record {
      calls = c.prepare_all.ensures.calls;
      leaves = once_untried g.R.Rack c.args.members.now c.args.sequence c.args.room c.args.extra.now c.args.serving.now c.prepare_all.new.serving c.args.rack.now c.prepare_all.new.rack
          c.prepare_all.ensures c.told-serving c.prepare_all.array_long apart;
      kept = leaves_untried g.R.Rack c.args.members.now c.args.sequence c.args.room c.args.extra.now c.args.serving.now c.prepare_all.new.serving c.told-serving
          c.args.rack.now c.prepare_all.new.rack c.prepare_all.ensures;
    }

pub returns : goal.returns
returns g c =
    let same : c.args.serving.now ≡ c.prepare_all.new.serving = (slice_eq-Decides booleans_Decides c.args.serving.now c.prepare_all.new.serving true
    (sym (not-false _ (sym c.ne.ensures ∙ c.if-ne.false)))).0 refl in
    let both : members_of (flag_in c.args.serving.now) ≡ members_of (flag_in c.prepare_all.new.serving) = ap (λ (l : List Bool). members_of (flag_in l)) same in
    record {
      calls = omega (arith, c.prepare_all.ensures.calls, c.finish_all.ensures.calls, both);
      leaves = once_tried g.R.Rack c.args.members.now c.args.sequence c.args.room c.args.extra.now c.args.serving.now c.prepare_all.new.serving c.args.rack.now c.prepare_all.new.rack
          c.prepare_all.ensures (sym same) c.finish_all.new.serving c.finish_all.new.rack c.finish_all.ensures;
      kept = leaves_tried g.R.Rack c.args.members.now c.args.sequence c.args.room c.args.extra.now c.args.serving.now c.prepare_all.new.serving c.finish_all.new.serving c.told-serving
          c.args.rack.now c.prepare_all.new.rack c.finish_all.new.rack c.prepare_all.ensures (sym same) c.finish_all.ensures;
    }
