use Rattle.std.proofs.Common.{◌≡◌, ◌++◌, map, take}
use Rattle.dg_model.specs.declared.findings.Finding.TheVariants.{Unclaimed}
use Rattle.ufs_audit.proofs.told.tell_unclaimed.Given as goal

abbrev pub invariant-loop-fragment : goal.invariant-loop-fragment
invariant-loop-fragment l = l.lines.items ≡ l.fn.lines.items ++ map Unclaimed (take l.fragment-index l.fragments)
