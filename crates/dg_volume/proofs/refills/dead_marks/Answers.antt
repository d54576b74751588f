use Rattle.std.proofs.Common.{◌≡◌, ◌∙◌, ◌+◌, ℕ, Bool, List, sym, ap, subst, arith}
use Rattle.dg_model.specs.declared.shapes.Shape.{Shape}
use Rattle.dg_store.specs.Stores.{table_of}
use Rattle.dg_volume.proofs.RefillLaws.{AreFirstMarks, all_marks, next_mark, pushed_mark}
use Rattle.dg_volume.proofs.refills.dead_marks.Goals as goal

pub loop-block-preserved : goal.loop-block-preserved
loop-block-preserved g c =
    let table = table_of c.args.store.now in
    let kept = c.args.inference.now in
    let before = c.loop-block.marks.items in
    let after = pushed_mark c.push.result before c.push.new.self.items c.dead_mark.result (sym c.is_err.ensures.value ∙ c.if-is_err.false) c.push.ensures.items in
    subst (λ (marks : List Bool). AreFirstMarks table kept marks (c.loop-block.block + 1)) (sym after)
    (next_mark table kept before c.loop-block.block c.dead_mark.result c.loop-block.invariant c.dead_mark.ensures)

pub returns : goal.returns
returns g c =
    let table = table_of c.args.store.now in
    let kept = c.args.inference.now in
    let n : c.shape.result.now.n ≡ table.shape.n = ap (λ (x : Shape). x.n) c.shape.ensures in
    let all : c.loop-block.block ≡ table.shape.n = omega (arith, n, c.loop-block-test.false) in
    all_marks table kept c.loop-block.marks.items c.requires.sound.table (subst (λ (k : ℕ). AreFirstMarks table kept c.loop-block.marks.items k) all c.loop-block.invariant)
