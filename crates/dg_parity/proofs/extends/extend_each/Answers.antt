use Rattle.std.proofs.Common.{◌<◌, ◌≡◌, ℕ, true, refl, sym, subst, ◌∙◌, arith}
use Rattle.std.specs.Prelude.{IfSome}
use Rattle.dg_io.specs.Told.{FitsIn}
use Rattle.dg_parity.specs.Groups.{disk_number}
use Rattle.dg_parity.proofs.ExtendLemmas.{extended-none, extended-more, room-along}
use Rattle.dg_parity.proofs.extends.extend_each.Goals as goal

pub extend_disk-requires : goal.extend_disk-requires
extend_disk-requires g c =
    let h = c.loop-j.invariant.extended in
    record {
      disk = subst (λ (n : ℕ). c.loop-j.j < n) (sym h.later.disks) (omega arith);
      renewed = h.renewed;
      stands = λ in0. subst (λ (k : ℕ). g.R.Rack.stands c.loop-j.rack (disk_number k c.loop-j.j) ≡ true) (sym h.later.number) (h.stands c.loop-j.j (omega arith) in0);
      room = λ in0. subst (λ (k : ℕ). IfSome (g.R.Rack.bytes c.loop-j.rack (disk_number k c.loop-j.j)) (FitsIn c.args.long)) (sym h.later.number)
          (room-along c.args.long (g.R.Rack.bytes c.args.rack.now (disk_number c.args.group.now.number c.loop-j.j)) (g.R.Rack.bytes c.loop-j.rack (disk_number c.args.group.now.number c.loop-j.j))
          (h.same c.loop-j.j (omega arith)) (c.requires.room c.loop-j.j (omega arith) (sym (h.rest c.loop-j.j (omega arith)) ∙ in0)));
    }

pub loop-j-init : goal.loop-j-init
loop-j-init g c = record {
  end = refl;
  extended = extended-none g.R.Rack c.args.long c.args.group.now c.args.rack.now c.requires.renewed c.requires.stands;
  calls = omega arith;
}

pub loop-j-preserved : goal.loop-j-preserved
loop-j-preserved g c = record {
  end = refl;
  extended = extended-more g.R.Rack c.args.long c.args.group.now c.loop-j.group c.extend_disk.new.group c.args.rack.now c.loop-j.rack c.extend_disk.new.rack c.loop-j.j (omega arith)
      c.loop-j.invariant.extended c.extend_disk.ensures.extends;
  calls = omega (arith, c.loop-j.invariant.calls, c.extend_disk.ensures.calls);
}
