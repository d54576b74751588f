use Rattle.std.proofs.Common.{◌≤◌, ℕ, subst}
use Rattle.std.specs.Prelude.{length}
use Rattle.dg_drill.proofs.BlockLaws.{stripped_within}
use Rattle.dg_drill.proofs.LossSteps.{drill_read}
use Rattle.dg_drill.proofs.MadeLaws.{spec_numbers}
use Rattle.ufs_drill.specs.Volumes.{drill_spec}
use Rattle.dg_model.specs.Blocks.{stripped}
use Rattle.ufs_build.specs.Traces.{block_in, trace_of}
use Rattle.dg_words.specs.declared.commands.Order.TheVariants.{Late}
use Rattle.dg_drill.proofs.laws.drill_loses_its_homes.Goals as goal

pub returns-clause-unavailable : goal.returns-clause-unavailable
returns-clause-unavailable c = λ before seed files g image writes losses cats written final is led run number none.
    let numbers = spec_numbers c.accepted_superblocks.ensures drill_spec g is.geometry_is in
    let short : (b : ℕ) → length (stripped (block_in g.fsize image b)) ≤ 1024 =
    λ b. subst (λ (l : ℕ). length (stripped (block_in g.fsize image b)) ≤ l) numbers.fsize (stripped_within g.fsize image b) in
    (drill_read c.steps_keep_steady.ensures c.cat_keeps_its_promise.ensures c.cats_without_faults_lose_none.ensures c.blank_arrays_are_steady.ensures
    before seed files (λ b. stripped (block_in g.fsize image b)) (trace_of Late g image) writes losses cats written final short led run number none).0

pub returns-clause-given : goal.returns-clause-given
returns-clause-given c = λ before seed files g image writes losses cats written final is led run number none.
    let numbers = spec_numbers c.accepted_superblocks.ensures drill_spec g is.geometry_is in
    let short : (b : ℕ) → length (stripped (block_in g.fsize image b)) ≤ 1024 =
    λ b. subst (λ (l : ℕ). length (stripped (block_in g.fsize image b)) ≤ l) numbers.fsize (stripped_within g.fsize image b) in
    (drill_read c.steps_keep_steady.ensures c.cat_keeps_its_promise.ensures c.cats_without_faults_lose_none.ensures c.blank_arrays_are_steady.ensures
    before seed files (λ b. stripped (block_in g.fsize image b)) (trace_of Late g image) writes losses cats written final short led run number none).1
