use Rattle.std.proofs.Common.{◌<◌, ℕ, refl, sym, ap, subst, ◌∙◌, arith}
use Rattle.dg_parity.specs.Stripes.{disk_length}
use Rattle.dg_parity.proofs.BlankLemmas.{blanked-more}
use Rattle.dg_parity.proofs.blanks.blank_disks.Goals as goal

pub blank_disk-requires : goal.blank_disk-requires
blank_disk-requires g c = record {
  disk = subst (λ (n : ℕ). c.loop-j.j < n) (sym c.loop-j.invariant.blanked.same.disks) (omega arith);
  out = c.loop-j.invariant.blanked.later c.loop-j.j (omega arith) ∙ c.requires.out c.loop-j.j (omega arith);
  renewed = c.loop-j.invariant.blanked.renewed;
  size = c.loop-j.invariant.size;
}

pub loop-j-preserved : goal.loop-j-preserved
loop-j-preserved g c = record {
  end = refl;
  size = c.loop-j.invariant.size ∙ sym (ap (λ (n : ℕ). disk_length n c.blank_disk.new.group.length) c.blank_disk.ensures.same.disks ∙ ap (disk_length c.loop-j.group.disks) c.blank_disk.ensures.same.size);
  blanked = blanked-more g.R.Rack c.args.group.now c.loop-j.group c.blank_disk.new.group c.args.rack.now c.loop-j.rack c.blank_disk.new.rack c.loop-j.j (omega arith)
      c.loop-j.invariant.blanked c.blank_disk.ensures;
}
