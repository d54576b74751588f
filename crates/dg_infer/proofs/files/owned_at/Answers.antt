use Rattle.std.proofs.Common.{◌+◌, ◌<◌, ◌⊎◌, ℕ, List, [], inl, inr, subst, arith, slice_index}
use Rattle.dg_infer.proofs.FileLaws.{gains_after, gains_as, owned_list}
use Rattle.dg_infer.specs.Files.{Gains, IsOfPointer, IsOfSlot}
use Rattle.dg_infer.proofs.files.owned_at.Goals as goal

pub loop-place-init : goal.loop-place-init
loop-place-init c = record {
  gains = gains_as [] c.put_slots.new.list.items (IsOfSlot c.args.claims.now c.args.inode c.args.level)
      (λ f. IsOfSlot c.args.claims.now c.args.inode c.args.level f ⊎ ((k : ℕ) × (k < 0) × IsOfPointer c.args.claims.now (slice_index c.args.uppers.now k) (c.args.level + 1) f))
      (subst (λ (xs : List ℕ). Gains xs c.put_slots.new.list.items (IsOfSlot c.args.claims.now c.args.inode c.args.level)) c.new-owned.ensures.items c.in_ok-put_slots.ensures)
      (λ f h. inl h) (λ f h. elim h [ inl s ↦ s | inr p ↦ absurd (omega (arith, p.1)) ]);
}

pub loop-place-preserved : goal.loop-place-preserved
loop-place-preserved c = record {
  gains = gains_after [] c.loop-place.owned.items c.put_pointers.new.list.items c.loop-place.place (IsOfSlot c.args.claims.now c.args.inode c.args.level)
      (λ k f. IsOfPointer c.args.claims.now (slice_index c.args.uppers.now k) (c.args.level + 1) f) c.loop-place.invariant.gains c.in_ok-put_pointers.ensures;
}

pub returns : goal.returns
returns c =
    owned_list c.args.claims.now c.args.inode c.args.level c.args.uppers.now c.loop-place.owned.items c.loop-place.place c.claims_inside.ensures.sources c.requires.uppers
    (omega (arith, c.loop-place-test.false, c.loop-place.auto.place-end)) c.loop-place.invariant.gains
