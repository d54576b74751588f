use Rattle.std.proofs.Common.{◌≡◌, ◌∙◌, ◌<◌, ◌%◌, [], List, ℕ, ap, refl, subst, sym}
use Rattle.std.specs.Prelude.{All}
use Rattle.dg_drill.proofs.DrillLaws.{has_drilled}
use Rattle.dg_drill.proofs.OrderLaws.{late_apart, late_below}
use Rattle.dg_drill.specs.Calls.{rack_facts}
use Rattle.dg_drill.specs.Chains.{AreApart, AreUnwritten, HasWritten}
use Rattle.dg_drill.specs.Drills.{HasDrilled}
use Rattle.dg_model.specs.States.{State}
use Rattle.dg_model.specs.declared.events.Event.TheVariants.{Settle}
use Rattle.dg_model.specs.declared.replies.Reply.{Reply}
use Rattle.dg_model.specs.declared.shapes.Shape.{Shape}
use Rattle.dg_trace.specs.Traces.{writes_of}
use Rattle.dg_volume.specs.Origins.{Always}
use Rattle.dg_volume.specs.Volumes.{IsBlankVolume, StandsIn, StepsTo, any_phase}
use Rattle.dg_words.specs.declared.commands.Order.TheVariants.{Late}
use Rattle.ufs_build.specs.Traces.{trace_of}
use Rattle.dg_drill.proofs.drills.drill_array.Goals as goal

pub write_blocks-requires-clause-blocks : goal.write_blocks-requires-clause-blocks
write_blocks-requires-clause-blocks g c =
    let same : c.deref-3.result.now ≡ trace_of Late c.args.made.now.geometry c.args.made.now.image.items =
    c.deref-3.ensures.value ∙ c.in_ok-blocks.ensures ∙ ap (λ (l : List ℕ). trace_of Late c.args.made.now.geometry l) c.deref.ensures.value in
    subst (λ (l : List ℕ). All (λ b. b < c.args.made.now.geometry.size) l) (sym same) (late_below c.args.made.now.geometry c.args.made.now.image.items)

pub write_blocks-requires-clause-apart : goal.write_blocks-requires-clause-apart
write_blocks-requires-clause-apart g c =
    let same : c.deref-3.result.now ≡ trace_of Late c.args.made.now.geometry c.args.made.now.image.items =
    c.deref-3.ensures.value ∙ c.in_ok-blocks.ensures ∙ ap (λ (l : List ℕ). trace_of Late c.args.made.now.geometry l) c.deref.ensures.value in
    subst (λ (l : List ℕ). AreApart l) (sym same) (late_apart c.args.made.now.geometry c.args.made.now.image.items)

pub returns-clause-drilled : goal.returns-clause-drilled
returns-clause-drilled g c = λ taken given.
    let made = c.args.made.now in
    let v0 = c.into_any-volume.result in
    let v1 = c.write_blocks.new.volume in
    let v2 = c.settle.new.self in
    let v4 = c.read_files-tally.new.volume in
    let more = c.in_ok-written.written in
    let same : c.deref-3.result.now ≡ trace_of Late c.args.made.now.geometry c.args.made.now.image.items =
    c.deref-3.ensures.value ∙ c.in_ok-blocks.ensures ∙ ap (λ (l : List ℕ). trace_of Late c.args.made.now.geometry l) c.deref.ensures.value in
    let blank = subst (λ (s : Shape). IsBlankVolume g.R.Rack s c.args.rack c.in_ok-loose.loose) c.drill_shape.ensures.is c.in_ok-loose.ensures in
    let Writes : List ℕ → List ℕ → Type 0 = λ image blocks. (state : State) → StandsIn any_phase g.R.Rack Always c.into_any-volume.result state → AreUnwritten state.table blocks
    → HasWritten g.R.Rack state (writes_of c.args.made.now.geometry.fsize image blocks) [] c.in_ok-written.written c.write_blocks.new.volume in
    let writes = subst (λ (blocks : List ℕ). Writes c.args.made.now.image.items blocks) same
    (subst (λ (image : List ℕ). Writes image c.deref-3.result.now) c.deref-2.ensures.value c.in_ok-written.ensures.runs) in
    let settles = subst (λ (r : Reply). StepsTo any_phase any_phase g.R.Rack c.write_blocks.new.volume Settle r c.settle.new.self) (sym c.settle_reply-settled.ensures) c.in_ok-settle.ensures.steps in
    subst (λ (r : g.row.R.Denot). HasDrilled (g.R.Rack.tells r) (rack_facts g.R.Rack c.args.rack r taken given) c.args.seed c.args.files c.in_ok-text.text.items) (sym c.into_rack.ensures)
    (has_drilled g.R.Rack c.args.rack c.in_ok-loose.loose v0 v1 v2 c.lose.new.volume v4 c.args.seed c.args.files (c.args.seed % 4) more made.image.items made.geometry
    c.settle_reply-settled.result c.read_files-tally.result c.in_ok-text.text.items blank c.into_any-volume.ensures c.write_blocks.ensures.leaves c.settle.ensures.leaves
    c.lose.ensures.leaves c.read_files-tally.ensures.leaves writes settles c.lose.ensures.runs c.read_files-tally.ensures.runs c.in_ok-text.ensures c.requires.volume refl taken given)
