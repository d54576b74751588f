use Rattle.std.proofs.Common.{◌≡◌, ◌<◌, ◌≤◌, ℕ, length, slice_index, rules, refl, subst}
use Rattle.dg_io.specs.DiskAnswers.{OneDisk}
use Rattle.dg_model.specs.Lives.{boundary_at}
use Rattle.dg_regroup.proofs.LiveDisks.{group_below, none_says, not_in_use, one_disk_through}
use Rattle.dg_regroup.proofs.live_racks.LiveRackDisks.drop_disk.Goals as goal

pub drop_disk-requires : goal.drop_disk-requires
drop_disk-requires g c =
    let group : c.in-Some.group.now ≡ slice_index c.args.self.now.live.items c.args.s = search rules in
    record { place = group_below (g.R.Disks.width c.args.self.now.rack) c.args.self.now g.R.Disks.groups c.args.s c.args.j c.in-Some.group.now group c.requires.place }

pub returns-in-Some-clause-disks : goal.returns-in-Some-clause-disks
returns-in-Some-clause-disks g c =
    let within : c.args.s < length c.args.self.now.live.items = search rules in
    let group : c.in-Some.group.now ≡ boundary_at c.args.self.now.live.items c.args.s = search rules in
    one_disk_through c.args.self.now.live.items c.args.s c.args.j (g.R.Rack.disks c.args.self.now.rack) (g.R.Rack.disks c.drop_disk.new.self) c.args.self.now.ascend within
    (subst (λ (t : ℕ). OneDisk t c.args.j (g.R.Rack.disks c.args.self.now.rack) (g.R.Rack.disks c.drop_disk.new.self)) group c.drop_disk.ensures.disks)

pub returns-in-None-clause-plain : goal.returns-in-None-clause-plain
returns-in-None-clause-plain g c =
    let high : length c.args.self.now.live.items ≤ c.args.s = search rules in
    (λ is. not_in_use (g.R.Disks.width c.args.self.now.rack) c.args.self.now g.R.Disks.groups c.args.s c.args.j c.requires.place high, λ is. refl)

pub returns-in-None-clause-answer : goal.returns-in-None-clause-answer
returns-in-None-clause-answer g c =
    let high : length c.args.self.now.live.items ≤ c.args.s = search rules in
    none_says _ _ (not_in_use (g.R.Disks.width c.args.self.now.rack) c.args.self.now g.R.Disks.groups c.args.s c.args.j c.requires.place high)
