use Rattle.std.proofs.Common.{◌≡◌, ◌∙◌, ◌+◌, ℕ, ap, arith}
use Rattle.ufs_model.specs.Geometries.{cgstart}
use Rattle.dg_infer.proofs.GroupLaws.{in_its_group}
use Rattle.dg_infer.proofs.groups.group_with.Goals as goal

pub returns-then-g-block-clause-none : goal.returns-then-g-block-clause-none
returns-then-g-block-clause-none c = λ group small in_block.
    let own = in_its_group c.args.g.now group c.args.block c.requires.geometry small (in_block.0) (in_block.1) in
    omega (arith, own.1, c.if-g-block.true)

pub returns-then-block-first-clause-none : goal.returns-then-block-first-clause-none
returns-then-block-first-clause-none c = λ group small in_block.
    let own = in_its_group c.args.g.now group c.args.block c.requires.geometry small (in_block.0) (in_block.1) in
    let first : c.group_block-first.result ≡ cgstart c.args.g.now group + c.args.g.now.cblkno =
    c.group_block-first.ensures.value ∙ ap (λ (x : ℕ). cgstart c.args.g.now x + c.args.g.now.cblkno) (c.group_of-c.ensures.value ∙ own.0) in
    omega (arith, first, in_block.0, c.if-block-first.true)

pub returns-then-first-g-clause-none : goal.returns-then-first-g-clause-none
returns-then-first-g-clause-none c = λ group small in_block.
    let own = in_its_group c.args.g.now group c.args.block c.requires.geometry small (in_block.0) (in_block.1) in
    let first : c.group_block-first.result ≡ cgstart c.args.g.now group + c.args.g.now.cblkno =
    c.group_block-first.ensures.value ∙ ap (λ (x : ℕ). cgstart c.args.g.now x + c.args.g.now.cblkno) (c.group_of-c.ensures.value ∙ own.0) in
    omega (arith, first, in_block.1, c.if-first-g.true)
