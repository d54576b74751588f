use Rattle.std.proofs.Common.{◌≡◌, ◌/◌, ◌%◌, ◌<◌, ◌≤◌, ◌⊎◌, ℕ, length}
use Rattle.ufs_model.specs.Geometries.{cgbase}
use Rattle.ufs_model.specs.GroupMaps.{by_maps, group_in, is_free}
use Rattle.dg_model.specs.Marks.{is_marked}
use Rattle.dg_infer.proofs.groups.mark_group.Given as goal

abbrev pub invariant-loop-f : goal.invariant-loop-f
invariant-loop-f l = record {
  room : length l.free ≡ length l.fn.free;
  inside : (x : ℕ) → cgbase l.g l.c ≤ x → x < l.f → is_marked l.free x ≡ by_maps (group_in l.g (x / l.g.fpg) l.bytes) (λ group. is_free l.bytes group (x % l.g.fpg));
  others : (x : ℕ) → ((x < cgbase l.g l.c) ⊎ (l.f ≤ x)) → is_marked l.free x ≡ is_marked l.fn.free x;
}
