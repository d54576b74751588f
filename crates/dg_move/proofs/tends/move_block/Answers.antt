use Rattle.std.proofs.Common.{◌<◌, ℕ, length, arith, ap, ◌∙◌}
use Rattle.dg_model.specs.Members.{is_lost}
use Rattle.dg_model.specs.declared.members.MemberState.{MemberState}
use Rattle.dg_model.proofs.MissingLaws.{missing_none, missing_wanted}
use Rattle.dg_plan.specs.Targets.{wants_of}
use Rattle.dg_store.specs.Stores.{members_of, table_of}
use Rattle.dg_move.proofs.CallLaws.{one_copy}
use Rattle.dg_move.proofs.MeetLaws.{meets_of}
use Rattle.dg_move.proofs.StoreLaws.{cause_lost, cause_of, moves_both, not_placed, only_missing, only_moves, placed_moves, put_slot, stands_of, stays_moves}
use Rattle.dg_move.proofs.tends.move_block.Goals as goal

pub returns-in-Placed-clause-on : goal.returns-in-Placed-clause-on
returns-in-Placed-clause-on g c =
    let old = c.args.store.now in
    let mid = c.place.new.self in
    let e = c.in_ok-place.ensures in
    let p = e.placed c.in-Placed.is in
    let targets = wants_of c.args.targets.now in
    moves_both g.R.Rack targets old mid c.give_up_spare.new.store
    (placed_moves g.R.Rack targets old mid c.args.block p.site c.requires.sound c.requires.block e.leaves e.written p.takes.taken (e.stands c.in-Placed.is))
    (only_moves g.R.Rack targets mid c.give_up_spare.new.store c.give_up_spare.ensures.only)

pub returns-in-Placed-clause-meets : goal.returns-in-Placed-clause-meets
returns-in-Placed-clause-meets g c =
    let old = c.args.store.now in
    let mid = c.place.new.self in
    let new = c.give_up_spare.new.store in
    let e = c.in_ok-place.ensures in
    let p = e.placed c.in-Placed.is in
    let u = c.give_up_spare.ensures in
    let targets = wants_of c.args.targets.now in
    let wanted = missing_wanted targets (table_of old) c.args.block c.args.boundary c.requires.missing in
    let within : c.args.block < length (table_of old).rows = let size = c.requires.sound.table.size in omega (arith, size, c.requires.block) in
    λ _. meets_of targets (table_of old) (table_of mid) (table_of new) c.args.block c.args.boundary p.site within wanted p.takes.on p.takes.lowest
    (put_slot (table_of old) (table_of mid) c.args.block p.site p.takes.taken e.leaves.sound.table within) p.takes.taken u.acts u.none u.others u.only.kept
    (only_missing g.R.Rack targets mid new u.only)

pub returns-in-Gone-clause-on : goal.returns-in-Gone-clause-on
returns-in-Gone-clause-on g c =
    let e = c.in_ok-place.ensures in
    let other = not_placed c.in_ok-place.field-0 c.in-Gone.is in
    stays_moves g.R.Rack (wants_of c.args.targets.now) c.args.store.now c.place.new.self e.leaves (e.refused other) (e.same other)

pub returns-in-Gone-clause-stopped : goal.returns-in-Gone-clause-stopped
returns-in-Gone-clause-stopped g c =
    let e = c.in_ok-place.ensures in
    let old = table_of c.args.store.now in
    let new = table_of c.place.new.self in
    let members = members_of c.place.new.self in
    let other = not_placed c.in_ok-place.field-0 c.in-Gone.is in
    let same = e.refused other in
    let cause = cause_of c.in_ok-place.field-0 old members c.args.block c.args.boundary c.in-Gone.is e.gone e.lost e.other in
    let lost = cause_lost old members c.args.block c.args.boundary c.requires.sound.table c.requires.boundary cause in
    λ _. record {
      fails = record {
        leaves = e.leaves;
        same = same;
        cause = rw same cause;
        stands = e.same other;
      };
      lost = rw same lost;
    }

pub returns-in_err-place-clause-most : goal.returns-in_err-place-clause-most
returns-in_err-place-clause-most g c =
    let old = table_of c.args.store.now in
    let none = missing_none (wants_of c.args.targets.now) old c.args.block c.args.boundary c.requires.missing in
    omega (arith, c.in_err-place.ensures.most, one_copy old c.args.block c.args.boundary c.requires.sound.table c.requires.boundary none)

pub returns-in-Gone-clause-most : goal.returns-in-Gone-clause-most
returns-in-Gone-clause-most g c =
    let old = table_of c.args.store.now in
    let none = missing_none (wants_of c.args.targets.now) old c.args.block c.args.boundary c.requires.missing in
    omega (arith, c.in_ok-place.ensures.most, one_copy old c.args.block c.args.boundary c.requires.sound.table c.requires.boundary none)

pub returns-in-Placed-clause-most : goal.returns-in-Placed-clause-most
returns-in-Placed-clause-most g c =
    let old = table_of c.args.store.now in
    let none = missing_none (wants_of c.args.targets.now) old c.args.block c.args.boundary c.requires.missing in
    let calls = ap (λ r. (g.R.Rack.counts r).calls) c.give_up_spare.ensures.only.rack_is in
    omega (arith, calls, c.in_ok-place.ensures.most, one_copy old c.args.block c.args.boundary c.requires.sound.table c.requires.boundary none)

pub returns-in-Placed-clause-stands : goal.returns-in-Placed-clause-stands
returns-in-Placed-clause-stands g c =
    let mid = members_of c.place.new.self in
    let new = members_of c.give_up_spare.new.store in
    let same = c.give_up_spare.ensures.only.members in
    λ _. ap (λ (m : ℕ → MemberState). is_lost m c.args.boundary) (λ i q. same q i)
    ∙ stands_of c.in_ok-place.field-0 mid c.args.boundary c.in-Placed.is c.in_ok-place.ensures.lost
