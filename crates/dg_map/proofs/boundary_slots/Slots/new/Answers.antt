use Rattle.std.proofs.Common.{refl, ◌∙◌, ap, ⊎_elim, arith}
use Rattle.std.proofs.lemmas.Bool.{cases_eq}
use Rattle.dg_map.specs.Bits.{has}
use Rattle.dg_map.proofs.SlotLemmas.{slots_unused}
use Rattle.dg_map.proofs.boundary_slots.Slots.new.Goals as goal

pub loop-slot-preserved : goal.loop-slot-preserved
loop-slot-preserved c = record {
  sound = c.insert.ensures.sound;
  bound = c.insert.ensures.bound ∙ c.loop-slot.invariant.bound;
  set = λ k lt.
      ⊎_elim
      (λ e. ap (has c.insert.new.self) e ∙ c.insert.ensures.here)
      (λ ne. c.insert.ensures.others k ne ∙ c.loop-slot.invariant.set k (omega arith))
      (cases_eq k c.loop-slot.slot);
}

pub returns-in-Ok : goal.returns-in-Ok
returns-in-Ok c =
    let past = c.loop-slot-test.false in
    slots_unused _ c.loop-slot.invariant.sound c.loop-slot.invariant.bound c.requires (λ k lt. c.loop-slot.invariant.set k (omega arith))
    (omega (arith, c.in-Ok.ensures.len, c.in-Ok.blocks.ok)) refl
