use Rattle.std.proofs.Common.{◌≡◌, ◌<◌, ℕ, length, refl, sym, ap, subst, ◌∙◌}
use Rattle.dg_io.specs.DiskAnswers.{DropsDisk, LeavesMembers, OneDisk}
use Rattle.dg_parity.proofs.ArraySteps.{held_on, member-group, members_on}
use Rattle.dg_parity.specs.Arrays.{GoesOn, Grouped, grouped_disks, grouped_words, is_noted}
use Rattle.dg_parity.proofs.arrays.GroupRackDisks.drop_disk.Goals as goal

pub drop_at-requires : goal.drop_at-requires
drop_at-requires g c =
    let old : Grouped g.row.R.Denot = record { rack = c.self.inside.rack; width = c.self.inside.width; groups = c.self.inside.groups.items; tally = c.self.inside.tally } in
    let at : (c.args.s < length old.groups) × (c.args.j < old.width) = subst (λ (it : Grouped g.row.R.Denot). (c.args.s < length it.groups) × (c.args.j < it.width)) (sym c.self.view_is) c.requires.place in
    record {
      kept = c.self.invariant.kept;
      place = at.0;
      disk = subst (λ (n : ℕ). c.args.j < n) (sym (c.self.invariant.widths c.args.s at.0)) at.1;
    }

pub invariant_of-self : goal.invariant_of-self
invariant_of-self g c = held_on g.R.Rack c.args.s c.args.j c.self.inside.width c.self.inside.groups.items c.drop_at.new.groups.items c.self.inside.rack c.drop_at.new.rack c.self.invariant c.drop_at.ensures.steps

pub returns-clause-answer : goal.returns-clause-answer
returns-clause-answer g c =
    let old : Grouped g.row.R.Denot = record { rack = c.self.inside.rack; width = c.self.inside.width; groups = c.self.inside.groups.items; tally = c.self.inside.tally } in
    let new : Grouped g.row.R.Denot = record { rack = c.drop_at.new.rack; width = c.self.inside.width; groups = c.drop_at.new.groups.items; tally = c.self.inside.tally } in
    let at : (c.args.s < length old.groups) × (c.args.j < old.width) = subst (λ (it : Grouped g.row.R.Denot). (c.args.s < length it.groups) × (c.args.j < it.width)) (sym c.self.view_is) c.requires.place in
    subst (λ (it : Grouped g.row.R.Denot). DropsDisk it.width c.args.s c.args.j (grouped_disks g.R.Rack it) (grouped_disks g.R.Rack new) c.drop_at.result) c.self.view_is
    (subst (λ (n : ℕ). DropsDisk n c.args.s c.args.j (grouped_disks g.R.Rack old) (grouped_disks g.R.Rack new) c.drop_at.result) (c.self.invariant.widths c.args.s at.0) c.drop_at.ensures.answer)

pub returns-clause-disks : goal.returns-clause-disks
returns-clause-disks g c =
    let old : Grouped g.row.R.Denot = record { rack = c.self.inside.rack; width = c.self.inside.width; groups = c.self.inside.groups.items; tally = c.self.inside.tally } in
    let new : Grouped g.row.R.Denot = record { rack = c.drop_at.new.rack; width = c.self.inside.width; groups = c.drop_at.new.groups.items; tally = c.self.inside.tally } in
    let at : (c.args.s < length old.groups) × (c.args.j < old.width) = subst (λ (it : Grouped g.row.R.Denot). (c.args.s < length it.groups) × (c.args.j < it.width)) (sym c.self.view_is) c.requires.place in
    subst (λ (it : Grouped g.row.R.Denot). OneDisk c.args.s c.args.j (grouped_disks g.R.Rack it) (grouped_disks g.R.Rack new)) c.self.view_is c.drop_at.ensures.steps.one

pub returns-clause-leaves : goal.returns-clause-leaves
returns-clause-leaves g c =
    let old : Grouped g.row.R.Denot = record { rack = c.self.inside.rack; width = c.self.inside.width; groups = c.self.inside.groups.items; tally = c.self.inside.tally } in
    let new : Grouped g.row.R.Denot = record { rack = c.drop_at.new.rack; width = c.self.inside.width; groups = c.drop_at.new.groups.items; tally = c.self.inside.tally } in
    let at : (c.args.s < length old.groups) × (c.args.j < old.width) = subst (λ (it : Grouped g.row.R.Denot). (c.args.s < length it.groups) × (c.args.j < it.width)) (sym c.self.view_is) c.requires.place in
    let h = subst (λ (it : Grouped g.row.R.Denot). LeavesMembers (grouped_words g.R.Rack) it new) c.self.view_is (members_on g.R.Rack c.args.s c.args.j old new c.drop_at.ensures.steps refl) in
    record {
      same_rack = h.same_rack;
      steady_on = h.steady_on;
      counts_stay = h.counts_stay;
      stand = h.stand;
      same = h.same;
      told_before = h.told_before;
      keeps_on = h.keeps_on;
    }

pub returns-clause-groups : goal.returns-clause-groups
returns-clause-groups g c = subst (λ (it : Grouped g.row.R.Denot). length c.drop_at.new.groups.items ≡ length it.groups) c.self.view_is c.drop_at.ensures.steps.count

pub returns-clause-goes_on : goal.returns-clause-goes_on
returns-clause-goes_on g c =
    subst (λ (s : Grouped g.row.R.Denot). GoesOn g.R.Rack s.groups c.drop_at.new.groups.items s.rack c.drop_at.new.rack) c.self.view_is c.drop_at.ensures.goes_on

pub returns-clause-noted : goal.returns-clause-noted
returns-clause-noted g c is = ap is_noted (member-group c.drop_at.new.groups.items c.args.s) ∙ c.drop_at.ensures.noted is
