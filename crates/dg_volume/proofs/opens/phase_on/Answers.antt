use Rattle.std.proofs.Common.{◌∙◌, subst, sym}
use Rattle.dg_save.specs.States.{state_of}
use Rattle.dg_store.specs.Stores.{members_of, table_of}
use Rattle.dg_volume.specs.Opens.{IsPhaseOf}
use Rattle.dg_volume.specs.Planned.{HasReadArray}
use Rattle.dg_volume.specs.declared.phases.AnyPhase.{AnyPhase}
use Rattle.dg_volume.proofs.ArrayLaws.{read_both, read_none}
use Rattle.dg_volume.proofs.GoneLaws.{gone_lost}
use Rattle.dg_volume.proofs.OpenLaws.{phase_is, restored_later}
use Rattle.dg_volume.proofs.opens.phase_on.Goals as goal

pub returns-in_default-clause-phase : goal.returns-in_default-clause-phase
returns-in_default-clause-phase g c =
    let new = c.restored.new.view in
    let lost = rw c.in_default.is at c.in_ok-inference.ensures.lost in
    gone_lost (table_of new) (members_of new) lost.block c.in_ok-inference.ensures.keeps.sound.table lost.lost

pub returns-in_err-settled-clause-reads : goal.returns-in_err-settled-clause-reads
returns-in_err-settled-clause-reads g c =
    let keeps = c.in_ok-inference.ensures.keeps in
    read_both g.R.Rack c.args.store.now c.restored.new.view c.is_still_settled.new.store (record { sound = keeps.sound; reads = keeps.goes; stands = keeps.stands }) c.in_err-settled.ensures.reads

pub returns-then-is_degraded-2-clause-reads : goal.returns-then-is_degraded-2-clause-reads
returns-then-is_degraded-2-clause-reads g c =
    let keeps = c.in_ok-inference.ensures.keeps in
    read_both g.R.Rack c.args.store.now c.restored.new.view c.is_still_settled.new.store (record { sound = keeps.sound; reads = keeps.goes; stands = keeps.stands }) c.in_ok-settled.ensures.reads

pub returns-clause-reads : goal.returns-clause-reads
returns-clause-reads g c =
    let keeps = c.in_ok-inference.ensures.keeps in
    read_both g.R.Rack c.args.store.now c.restored.new.view c.is_still_settled.new.store (record { sound = keeps.sound; reads = keeps.goes; stands = keeps.stands }) c.in_ok-settled.ensures.reads

pub returns-clause-phase : goal.returns-clause-phase
returns-clause-phase g c =
    let keeps = c.in_ok-inference.ensures.keeps in
    let old = c.args.store.now in
    let mid = c.restored.new.view in
    let new = c.is_still_settled.new.store in
    let saved = state_of c.args.saved.now in
    let kept = c.in-Some.inference in
    let read : HasReadArray g.R.Rack old mid = record { sound = keeps.sound; reads = keeps.goes; stands = keeps.stands } in
    let stands = rw c.in-Some.is at c.in_ok-inference.ensures.stands in
    let left = rw (c.in-Some.is, c.as_slice.ensures) at c.in_ok-inference.ensures.pending in
    let size = rw c.in-Some.is at c.in_ok-inference.ensures.size in
    let restored =
    restored_later g.R.Rack old mid new read saved.pending kept c.in_ok-settled.ensures.reads (sym c.is_degraded-2.ensures ∙ c.if-is_degraded-2.false)
    (record { bytes = size.0; number = size.1 })
    (λ told V held. stands V (record { tells = told; stands = held; number = held.size }))
    (λ V. record {
      size = (left V).size;
      fewer = (left V).fewer;
      are = λ known b. (left V).are (record { tells = known.0; stands = known.1; number = let whole = known.1 in whole.size }) b;
    }) in
    subst (λ (p : AnyPhase). IsPhaseOf g.R.Rack old new saved p) (sym c.phase_with.ensures)
    (phase_is g.R.Rack old mid new read saved kept c.in_ok-settled.settled restored c.in_ok-settled.ensures.still)

pub returns-then-is_degraded-clause-reads : goal.returns-then-is_degraded-clause-reads
returns-then-is_degraded-clause-reads g c = read_none g.R.Rack c.args.store.now c.requires.sound
