use Rattle.std.proofs.Common.{◌≡◌, ◌<◌, ◌≤◌, ℕ, IfSome, length, slice_index, rules, refl, subst}
use Rattle.dg_io.specs.DiskAnswers.{MendsDisk, OneDisk}
use Rattle.dg_model.specs.Lives.{boundary_at}
use Rattle.dg_regroup.proofs.LiveDisks.{group_below, mends_through, none_says, not_in_use, one_disk_through}
use Rattle.dg_regroup.proofs.live_racks.LiveRackDisks.mend.Goals as goal

pub mend-requires : goal.mend-requires
mend-requires g c =
    let group : c.in-Some.group.now ≡ slice_index c.args.self.now.live.items c.args.s = search rules in
    record { place = group_below (g.R.Disks.width c.args.self.now.rack) c.args.self.now g.R.Disks.groups c.args.s c.args.j c.in-Some.group.now group c.requires.place }

pub returns-in-Some-clause-answer : goal.returns-in-Some-clause-answer
returns-in-Some-clause-answer g c =
    let within : c.args.s < length c.args.self.now.live.items = search rules in
    let group : c.in-Some.group.now ≡ boundary_at c.args.self.now.live.items c.args.s = search rules in
    mends_through c.args.self.now.live.items (g.R.Disks.width c.args.self.now.rack) c.args.s c.args.j c.mend.result (g.R.Rack.disks c.args.self.now.rack) (g.R.Rack.disks c.mend.new.self) within
    (subst (λ (t : ℕ). IfSome (g.R.Disks.width c.args.self.now.rack) (λ n. MendsDisk n t c.args.j (g.R.Rack.disks c.args.self.now.rack) (g.R.Rack.disks c.mend.new.self) c.mend.result)) group c.mend.ensures.answer)

pub returns-in-Some-clause-disks : goal.returns-in-Some-clause-disks
returns-in-Some-clause-disks g c =
    let within : c.args.s < length c.args.self.now.live.items = search rules in
    let group : c.in-Some.group.now ≡ boundary_at c.args.self.now.live.items c.args.s = search rules in
    one_disk_through c.args.self.now.live.items c.args.s c.args.j (g.R.Rack.disks c.args.self.now.rack) (g.R.Rack.disks c.mend.new.self) c.args.self.now.ascend within
    (subst (λ (t : ℕ). OneDisk t c.args.j (g.R.Rack.disks c.args.self.now.rack) (g.R.Rack.disks c.mend.new.self)) group c.mend.ensures.disks)

pub returns-in-None-clause-plain : goal.returns-in-None-clause-plain
returns-in-None-clause-plain g c =
    let high : length c.args.self.now.live.items ≤ c.args.s = search rules in
    (λ is. not_in_use (g.R.Disks.width c.args.self.now.rack) c.args.self.now g.R.Disks.groups c.args.s c.args.j c.requires.place high, λ is. refl)

pub returns-in-None-clause-answer : goal.returns-in-None-clause-answer
returns-in-None-clause-answer g c =
    let high : length c.args.self.now.live.items ≤ c.args.s = search rules in
    none_says _ _ (not_in_use (g.R.Disks.width c.args.self.now.rack) c.args.self.now g.R.Disks.groups c.args.s c.args.j c.requires.place high)
