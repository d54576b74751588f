use Rattle.std.proofs.Common.{◌≡◌, ◌+◌, ◌*◌, ◌/◌, ℕ, sym, ◌∙◌, ap, arith}
use Rattle.dg_model.specs.declared.shapes.Shape.{Shape}
use Rattle.dg_pair.specs.Boundaries.{members_of}
use Rattle.dg_store_tests.proofs.refill_tests.refill_one.Goals as goal

pub pass_slot-requires-clause-next : goal.pass_slot-requires-clause-next
pass_slot-requires-clause-next g c =
    let p = 2 * c.args.boundary + c.args.side in
    let at : p / 2 ≡ c.args.boundary = omega (arith, c.requires.side) in
    let b = c.boundary.result.now in
    let slots = ap (λ (s : Shape). s.k) c.shape.ensures in
    let apart = c.if-have-slots.false in
    let low = c.if-have-slots-2.false in
    record {
      next = record {
        member = p;
        have = c.in-Filling.have;
        refilled = (
          at,
          sym (c.boundary.ensures.members p at)
              ∙ ap (λ (n : ℕ). members_of b (2 * n + c.args.side)) (sym c.boundary.ensures.number)
              ∙ sym c.member.ensures
              ∙ c.in-Filling.is,
        );
        below = omega (arith, slots, apart, low);
      };
      free = rw c.map.ensures at c.in-None.ensures.block;
    }
