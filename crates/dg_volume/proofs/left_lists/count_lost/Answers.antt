use Rattle.std.proofs.Common.{◌∙◌, ℕ, Bool, cond, sym, ap, arith}
use Rattle.dg_model.specs.Members.{is_lost}
use Rattle.dg_store.specs.Stores.{members_of}
use Rattle.dg_volume.proofs.LeftLists.{count_more}
use Rattle.dg_volume.proofs.left_lists.count_lost.Goals as goal
use Rattle.dg_volume.proofs.left_lists.count_lost.Goals.{then-is_lost, else-is_lost}

pub loop-place-preserved : goal.loop-place-preserved
loop-place-preserved g c =
    let h = c.loop-place.invariant in
    let more = count_more (is_lost (members_of c.args.store.now)) c.loop-place.place in
    let one = ap (λ (b : Bool). cond {A = ℕ} b 1 0) (sym c.is_lost.ensures) in
    elim c.if-is_lost.branch [
      | then-is_lost w ↦
          let is = one ∙ ap (λ (b : Bool). cond {A = ℕ} b 1 0) w.if-is_lost.true in
          record { few = omega (arith, w.count-is, h.few); count_is = omega (arith, w.count-is, h.count_is, more, is) }
      | else-is_lost w ↦
          let is = one ∙ ap (λ (b : Bool). cond {A = ℕ} b 1 0) w.if-is_lost.false in
          record { few = omega (arith, w.count-is, h.few); count_is = omega (arith, w.count-is, h.count_is, more, is) }
    ]
