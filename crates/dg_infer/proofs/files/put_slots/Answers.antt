use Rattle.std.proofs.Common.{◌≡◌, ◌<◌, ℕ, arith}
use Rattle.ufs_model.specs.Claims.{level_of}
use Rattle.ufs_model.specs.declared.claims.ClaimSource.TheVariants.{Slot}
use Rattle.dg_infer.proofs.FileLaws.{gains_as, gains_next, slot_below}
use Rattle.dg_infer.specs.Files.{IsSoleSource, IsOfSlot}
use Rattle.dg_infer.proofs.files.put_slots.Goals as goal

pub loop-slot-preserved : goal.loop-slot-preserved
loop-slot-preserved c = record {
  gains = gains_next c.args.list.now.items c.loop-slot.list.items c.put_claimed_at.new.list.items c.loop-slot.slot
      (λ slot f. (level_of (Slot c.args.inode slot) ≡ c.args.level) × IsSoleSource c.args.claims.now (Slot c.args.inode slot) f)
      c.loop-slot.invariant.gains c.in_ok-put_claimed_at.ensures;
}

pub returns : goal.returns
returns c =
    gains_as c.args.list.now.items c.loop-slot.list.items
    (λ f. (slot : ℕ) × (slot < c.loop-slot.slot) × ((level_of (Slot c.args.inode slot) ≡ c.args.level) × IsSoleSource c.args.claims.now (Slot c.args.inode slot) f))
    (IsOfSlot c.args.claims.now c.args.inode c.args.level) c.loop-slot.invariant.gains
    (λ f h. (h.0, h.2.0, h.2.1))
    (λ f h.
    let low = slot_below c.args.claims.now.geometry c.args.inode (h.0) (c.claims_inside.ensures.sources f (Slot c.args.inode (h.0)) h.2.claim) in
    (h.0, omega (arith, low, c.loop-slot-test.false), (h.1, h.2)))
