use Rattle.std.proofs.Common.{◌≡◌, ◌∙◌, ◌*◌, ℕ, ap, map, arith}
use Rattle.std.specs.List.{range_with_len}
use Rattle.dg_model.specs.Members.{is_good}
use Rattle.dg_model.specs.declared.shapes.Shape.{Shape}
use Rattle.dg_store.specs.Stores.{members_of, shape_of}
use Rattle.dg_volume.proofs.SaveLaws.{mark_more}
use Rattle.dg_volume.proofs.saves.mark_good.Goals as goal

pub loop-member-preserved : goal.loop-member-preserved
loop-member-preserved g c =
    mark_more (λ q. is_good (members_of c.args.store.now q)) c.loop-member.member c.loop-member.marks.items c.push.new.self.items c.is_good.result c.in-Ok.ensures.items
    c.loop-member.invariant c.is_good.ensures

pub returns : goal.returns
returns g c =
    let b = ap (λ (sh : Shape). sh.b) c.shape.ensures in
    let all : c.loop-member.member ≡ 2 * (shape_of c.args.store.now).b = omega (arith, b) in
    c.new.ensures ∙ c.loop-member.invariant ∙ ap (λ (n : ℕ). map (λ q. is_good (members_of c.args.store.now q)) (range_with_len 0 n)) all
