use Rattle.std.proofs.Common.{◌≡◌, ◌∙◌, ap, false, not, sym, true}
use Rattle.std.specs.Option.{is_some}
use Rattle.ufs_build.specs.Items.{parent_inode}
use Rattle.ufs_build.proofs.ParentLaws.{is_at, told_ends, told_goes_on, told_stops}
use Rattle.ufs_build.proofs.parents.without_memory.Goals as goal

pub returns-then-is_none : goal.returns-then-is_none
returns-then-is_none c =
    let at = is_at c.args.items.now c.split_at.result.0.now c.split_at.result.1.now c.index-rest-0.result c.loop-k.k c.loop-k-test.true
    c.split_at.ensures.front c.split_at.ensures.back c.index-rest-0.is in
    let none : is_some (parent_inode c.split_at.result.0.now c.index-rest-0.result) ≡ false = ap is_some (sym c.parent_inode.ensures.value) ∙ c.is_none.ensures ∙ ap not c.if-is_none.true in
    sym (told_stops c.args.items.now _ c.index-rest-0.result c.loop-k.k at none) ∙ c.loop-k.invariant.told

pub loop-k-preserved : goal.loop-k-preserved
loop-k-preserved c =
    let at = is_at c.args.items.now c.split_at.result.0.now c.split_at.result.1.now c.index-rest-0.result c.loop-k.k c.loop-k-test.true
    c.split_at.ensures.front c.split_at.ensures.back c.index-rest-0.is in
    let some : is_some (parent_inode c.split_at.result.0.now c.index-rest-0.result) ≡ true = ap is_some (sym c.parent_inode.ensures.value) ∙ c.is_none.ensures ∙ ap not c.if-is_none.false in
    record { told = told_goes_on c.args.items.now _ c.index-rest-0.result c.loop-k.k at some ∙ c.loop-k.invariant.told }

pub returns : goal.returns
returns c = sym (told_ends c.args.items.now c.loop-k.k c.loop-k-test.false) ∙ c.loop-k.invariant.told
