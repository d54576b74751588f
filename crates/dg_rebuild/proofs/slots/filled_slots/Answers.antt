use Rattle.std.proofs.Common.{◌≡◌, ◌+◌, ◌*◌, ◌/◌, ◌∙◌, ℕ, ap, arith}
use Rattle.dg_pair.specs.Boundaries.{members_of as boundary_members}
use Rattle.dg_rebuild.proofs.Members.{neither_filling}
use Rattle.dg_rebuild.proofs.slots.filled_slots.Goals as goal

pub returns-in_default-member : goal.returns-in_default-member
returns-in_default-member g c =
    let s = c.args.boundary in
    let x = c.boundary-pair.result.now in
    let number = c.boundary-pair.ensures.number in
    let even : (2 * s + 0) / 2 ≡ s = omega arith in
    let odd : (2 * s + 1) / 2 ≡ s = omega arith in
    let first = c.member.ensures ∙ ap (λ (n : ℕ). boundary_members x (2 * n + 0)) number ∙ c.boundary-pair.ensures.members (2 * s + 0) even in
    let second = c.member-2.ensures ∙ ap (λ (n : ℕ). boundary_members x (2 * n + 1)) number ∙ c.boundary-pair.ensures.members (2 * s + 1) odd in
    record {
      filling = neither_filling _ s _ _ first second c.in_default.not-Filling c.in_default-member.not-Filling;
      within = tt;
    }
