use Rattle.std.proofs.Common.{List, ℕ}
use Rattle.std.specs.Bool.{Decides}
use Rattle.std.specs.BTreeSet.{contains}
use Rattle.std.specs.Cmp.Lexicographic.{slice_cmp}
use Rattle.std.specs.Ordering.{nat_cmp}
use denote.Ref.{Bor}
use Rattle.ufs_check.proofs.NameLaws.{AreDistinct, IsMet}
use Rattle.ufs_check.proofs.names.has_same_names.Given as goal

abbrev pub invariant-loop-entry : goal.invariant-loop-entry
invariant-loop-entry l = record {
  met : (q : Bor (List ℕ)) → Decides (contains (λ (x y : Bor (List ℕ)). slice_cmp nat_cmp x.now y.now) l.names q) (IsMet l.entries l.entry-index q.now);
  distinct : AreDistinct l.entries l.entry-index;
}
