use Rattle.std.proofs.Common.{◌∙◌, ap, arith}
use Rattle.dg_model.specs.declared.shapes.Shape.{Shape}
use Rattle.dg_pair.specs.Boundaries.{raised}
use Rattle.dg_store.specs.ReadLaws.{stays_none}
use Rattle.dg_rebuild.proofs.Steps.{reaped_free}
use Rattle.dg_rebuild.proofs.slots.reap_slot.Goals as goal

pub pass_slot-requires-clause-next : goal.pass_slot-requires-clause-next
pass_slot-requires-clause-next g c =
    let k = ap (λ (sh : Shape). sh.k) c.reap.ensures.leaves.keeps.shape in
    record {
      next = record {
        member = c.requires.next.member;
        have = c.args.slot;
        refilled = (c.requires.next.refilled.0, c.reap.ensures.members c.requires.next.member ∙ c.requires.next.refilled.1);
        below = omega (arith, k, c.requires.below);
      };
      free = reaped_free _ _ c.args.boundary c.args.slot c.args.block c.requires.sound.table c.reap.ensures.table c.requires.stands;
    }

pub returns-clause-members : goal.returns-clause-members
returns-clause-members g c = record {
  here = λ q at. c.pass_slot.ensures.raised.here q at ∙ ap raised (c.reap.ensures.members q);
  others = λ q off. c.pass_slot.ensures.raised.others q off ∙ c.reap.ensures.members q;
}

pub returns-clause-zeros : goal.returns-clause-zeros
returns-clause-zeros g c V st = c.pass_slot.ensures.stands _ (c.reap.ensures.zeros V st)

pub returns-in_default-clause-stays : goal.returns-in_default-clause-stays
returns-in_default-clause-stays g c = stays_none g.R.Rack c.args.store.now
