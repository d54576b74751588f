use Rattle.std.proofs.Common.{◌≡◌, ◌≤◌, ◌++◌, ◌∷◌, ℕ, refl, subst, sym}
use Rattle.std.specs.Prelude.{length}
use Rattle.dg_drill.proofs.BlockLaws.{stripped_within}
use Rattle.dg_drill.proofs.GivenLaws.{drill_gives, few_items, size_is, volume_held}
use Rattle.dg_drill.proofs.LossSteps.{ends_in_use, settle_ends, written_fine}
use Rattle.dg_drill.proofs.MadeLaws.{built_length, spec_numbers}
use Rattle.dg_drill.proofs.RoomSteps.{IsLight, never_cramped}
use Rattle.dg_drill.specs.Drills.{later_events, loss_events, read_events}
use Rattle.dg_drill.specs.Volumes.{drill_shape}
use Rattle.dg_model.proofs.MemberLaws.{none_front}
use Rattle.dg_model.proofs.StepLaws.{run_keeps}
use Rattle.dg_model.specs.Blocks.{stripped}
use Rattle.dg_model.specs.Runs.{Run}
use Rattle.dg_model.specs.declared.replies.Reply.{Reply}
use Rattle.dg_model.specs.declared.replies.Reply.TheVariants.{Settled}
use Rattle.dg_promise.specs.Promises.{AreTold}
use Rattle.dg_words.specs.declared.commands.Order.TheVariants.{Late}
use Rattle.ufs_build.specs.Traces.{block_in, trace_of}
use Rattle.ufs_drill.specs.Items.{drill_items}
use Rattle.ufs_drill.specs.Volumes.{drill_spec}
use Rattle.ufs_model.specs.Blocks.{Volume}
use Rattle.ufs_model.specs.Malformations.{IsSoundVolume}
use Rattle.dg_drill.proofs.laws.drills_give_their_files.Goals as goal

pub returns-clause-settled : goal.returns-clause-settled
returns-clause-settled c = λ before seed files g image writes losses cats reply written final few is led run number none.
    let numbers = spec_numbers c.accepted_superblocks.ensures drill_spec g is.geometry_is in
    let short : (b : ℕ) → length (stripped (block_in g.fsize image b)) ≤ 1024 =
    λ b. subst (λ (l : ℕ). length (stripped (block_in g.fsize image b)) ≤ l) numbers.fsize (stripped_within g.fsize image b) in
    let at = written_fine c.steps_keep_steady.ensures c.blank_arrays_are_steady.ensures before seed files (λ b. stripped (block_in g.fsize image b)) (trace_of Late g image) writes
    reply (losses ++ cats) written final short led run none in
    let blocks = volume_held c.replay_holds_the_volume.ensures before g image writes written numbers.fsize (size_is g c.drills_have_volumes.ensures.numbers is.geometry_is) (built_length drill_spec (drill_items seed files) g image is.geometry_is is.image_is)
    led at.none in
    let sound = subst (λ (v : Volume). IsSoundVolume 1024 32768 v) (sym blocks)
    (c.built_volumes_are_sound.ensures drill_spec (drill_items seed files) image is.image_is refl (few_items seed files few)) in
    let rest = (run_keeps AreTold run.0 (loss_events seed ++ read_events files) (losses ++ cats) final (ends_in_use seed files (losses ++ cats)) run.2).counts.faults in
    let here = none_front written.counts.faults run.0.counts.faults final.counts.faults rest at.later in
    let shape : written.table.shape ≡ drill_shape = at.fine.shape in
    let light : IsLight written.blocks = subst IsLight (sym blocks) (record {
      kept = c.drills_have_few_blocks.ensures.kept seed files image few is.image_is;
      files = c.drills_have_few_blocks.ensures.files seed files image few is.image_is;
    }) in
    settle_ends written run.0 reply at.fine here sound (λ bad cramped. never_cramped c.plans_have_room.ensures written bad shape at.fine.steady.homes light cramped) run.1

pub returns-clause-given : goal.returns-clause-given
returns-clause-given c = λ before seed files g image writes losses cats reply written final few is led any number none.
    let settled : reply ≡ Settled = returns-clause-settled c before seed files g image writes losses cats reply written final few is led any number none in
    let run = subst (λ (r : Reply). Run AreTold written (later_events seed files) (r ∷ (losses ++ cats)) final) settled any in
    let numbers = spec_numbers c.accepted_superblocks.ensures drill_spec g is.geometry_is in
    let short : (b : ℕ) → length (stripped (block_in g.fsize image b)) ≤ 1024 =
    λ b. subst (λ (l : ℕ). length (stripped (block_in g.fsize image b)) ≤ l) numbers.fsize (stripped_within g.fsize image b) in
    let at = written_fine c.steps_keep_steady.ensures c.blank_arrays_are_steady.ensures before seed files (λ b. stripped (block_in g.fsize image b)) (trace_of Late g image) writes
    Settled (losses ++ cats) written final short led run none in
    drill_gives c.replay_holds_the_volume.ensures c.built_files_are_read.ensures c.files_are_read.ensures.refused before seed files g image writes losses cats written final few
    is.image_is numbers.fsize (size_is g c.drills_have_volumes.ensures.numbers is.geometry_is) (built_length drill_spec (drill_items seed files) g image is.geometry_is is.image_is) led at.none at.shape run number
    (c.drill_loses_its_homes.ensures.unavailable before seed files g image writes losses cats written final is led run number none)
    (c.drill_loses_its_homes.ensures.given before seed files g image writes losses cats written final is led run number none)
