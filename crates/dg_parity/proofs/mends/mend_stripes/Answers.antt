use Rattle.std.proofs.Common.{◌≡◌, ◌+◌, ◌*◌, ◌<◌, ℕ, length, inl, sym, subst, ◌∙◌, arith}
use Rattle.std.proofs.lemmas.List.{length-take-le}
use Rattle.std.proofs.lemmas.Bool.{false≢true}
use Rattle.dg_parity.proofs.PartLemmas.{others-in}
use Rattle.dg_parity.proofs.CallLemmas.{lost-by}
use Rattle.dg_parity.proofs.MendLemmas.{but-of, but-past, held-past, filled-past, refilled-past, made-right}
use Rattle.dg_parity.proofs.RunSteps.{in-few}
use Rattle.dg_parity.proofs.mends.mend_stripes.Goals as goal

pub add_others-requires-clause-there : goal.add_others-requires-clause-there
add_others-requires-clause-there g c i lt na nb = others-in c.args.group.now c.args.j i c.requires.alive c.requires.out na

pub returns-then-not-add_others-clause-leaves : goal.returns-then-not-add_others-clause-leaves
returns-then-not-add_others-clause-leaves g c = but-of g.R.Rack c.args.j _ _ _ _ c.add_others.ensures.leaves

pub returns-then-not-add_others-clause-fell : goal.returns-then-not-add_others-clause-fell
returns-then-not-add_others-clause-fell g c =
    let h = c.if-not-add_others.ensures.fell in
    inl (lost-by c.args.group.now c.add_others.new.group c.args.j c.add_others.ensures.leaves.later c.requires.out (h.0, h.1, h.3))

pub returns-in-Err-clause-holds : goal.returns-in-Err-clause-holds
returns-in-Err-clause-holds g c =
    held-past g.R.Rack c.args.group.now c.add_others.new.group c.args.j c.disk.result _ c.args.rack.now c.add_others.new.rack c.write.new.self
    c.add_others.ensures.leaves c.requires.out c.disk.ensures c.in-Err.ensures.leaves c.add_others.ensures.holds

pub returns-in-Ok-clause-filled : goal.returns-in-Ok-clause-filled
returns-in-Ok-clause-filled g c =
    filled-past g.R.Rack c.args.group.now c.add_others.new.group c.args.j c.disk.result c.args.t c.args.part _ c.add_others.new.row c.args.rack.now c.add_others.new.rack c.write.new.self
    c.add_others.ensures.leaves c.requires.disk c.requires.out c.disk.ensures c.in-Ok.ensures.leaves c.in-Ok.ensures.ok c.requires.refilled (c.add_others.auto.row ∙ c.clear.auto.row ∙ length-take-le (512 * c.args.part) _ (omega (arith, c.requires.few))) c.requires.stripes
    (λ has all held even k lt. made-right c.args.group.now has c.args.j c.args.t c.args.part k c.clear.new.row c.add_others.new.row c.requires.disk c.requires.stripes even lt
    (c.clear.ensures k (subst (λ (n : ℕ). k < n) (sym (length-take-le (512 * c.args.part) _ (omega (arith, c.requires.few)))) lt))
    (c.if-not-add_others.ensures.added has all held k (subst (λ (n : ℕ). k < n) (sym (c.add_others.auto.row ∙ c.clear.auto.row ∙ length-take-le (512 * c.args.part) _ (omega (arith, c.requires.few)))) lt)))

pub returns-in-Ok-clause-leaves : goal.returns-in-Ok-clause-leaves
returns-in-Ok-clause-leaves g c =
    but-past g.R.Rack c.args.group.now c.add_others.new.group c.args.j c.disk.result _ c.args.rack.now c.add_others.new.rack c.write.new.self
    c.add_others.ensures.leaves c.requires.out c.disk.ensures c.in-Ok.ensures.leaves

pub returns-in-Err-clause-leaves : goal.returns-in-Err-clause-leaves
returns-in-Err-clause-leaves g c =
    but-past g.R.Rack c.args.group.now c.add_others.new.group c.args.j c.disk.result _ c.args.rack.now c.add_others.new.rack c.write.new.self
    c.add_others.ensures.leaves c.requires.out c.disk.ensures c.in-Err.ensures.leaves

pub returns-in-Ok-clause-refilled : goal.returns-in-Ok-clause-refilled
returns-in-Ok-clause-refilled g c =
    refilled-past g.R.Rack c.args.group.now c.add_others.new.group c.args.j c.disk.result (512 + 512 * c.args.t) c.in-Ok.field-0 c.add_others.new.row
    c.args.rack.now c.add_others.new.rack c.write.new.self c.add_others.ensures.leaves c.requires.out c.disk.ensures c.in-Ok.ensures.leaves c.in-Ok.ensures.ok
    (let long : length c.add_others.new.row ≡ 512 * c.args.part = c.add_others.auto.row ∙ c.clear.auto.row ∙ length-take-le (512 * c.args.part) _ (omega (arith, c.requires.few)) in omega (arith, long, c.requires.stripes)) c.requires.refilled

pub returns-in-Ok-clause-holds : goal.returns-in-Ok-clause-holds
returns-in-Ok-clause-holds g c =
    held-past g.R.Rack c.args.group.now c.add_others.new.group c.args.j c.disk.result _ c.args.rack.now c.add_others.new.rack c.write.new.self
    c.add_others.ensures.leaves c.requires.out c.disk.ensures c.in-Ok.ensures.leaves c.add_others.ensures.holds

pub returns-in-Ok-clause-calls : goal.returns-in-Ok-clause-calls
returns-in-Ok-clause-calls g c = omega (arith, c.add_others.ensures.calls, c.in-Ok.ensures.leaves.counted, in-few c.args.group.now c.args.j c.requires.disk c.requires.out)

pub returns-in-Err-clause-calls : goal.returns-in-Err-clause-calls
returns-in-Err-clause-calls g c = omega (arith, c.add_others.ensures.calls, c.in-Err.ensures.leaves.counted, in-few c.args.group.now c.args.j c.requires.disk c.requires.out)

pub returns-then-not-add_others-clause-calls : goal.returns-then-not-add_others-clause-calls
returns-then-not-add_others-clause-calls g c = omega (arith, c.add_others.ensures.calls, in-few c.args.group.now c.args.j c.requires.disk c.requires.out)

pub returns-then-not-add_others-clause-calm : goal.returns-then-not-add_others-clause-calm
returns-then-not-add_others-clause-calm g c alive =
    let h = c.if-not-add_others.ensures.fell in
    absurd (false≢true (sym alive ∙ lost-by c.args.group.now c.add_others.new.group c.args.j c.add_others.ensures.leaves.later c.requires.out (h.0, h.1, h.3)))

pub returns-in-Err-clause-calm : goal.returns-in-Err-clause-calm
returns-in-Err-clause-calm g c alive = c.if-not-add_others.ensures.done

pub returns-in-Ok-clause-calm : goal.returns-in-Ok-clause-calm
returns-in-Ok-clause-calm g c alive = c.if-not-add_others.ensures.done
