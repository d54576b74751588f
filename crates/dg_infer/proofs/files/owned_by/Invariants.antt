use Rattle.std.proofs.Common.{◌+◌, ◌-◌, ◌≤◌, ◌↔◌, ℕ, Contains}
use Rattle.dg_infer.specs.Files.{IsOwnedAt}
use Rattle.dg_infer.proofs.files.owned_by.Given as goal

abbrev pub invariant-loop-done : goal.invariant-loop-done
invariant-loop-done l = record {
  all : (f : ℕ) → Contains l.all.items f ↔ ((level : ℕ) × (4 ≤ level + l.done) × IsOwnedAt l.claims l.inode level f);
  uppers : (f : ℕ) → Contains l.uppers.items f ↔ IsOwnedAt l.claims l.inode (4 - l.done) f;
}
