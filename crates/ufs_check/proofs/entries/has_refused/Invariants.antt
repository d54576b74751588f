use Rattle.std.proofs.Common.{◌≡◌, ◌-◌, ◌*◌, drop}
use Rattle.std.specs.List.{list_any}
use Rattle.ufs_model.specs.Paths.{chunks_in}
use Rattle.ufs_check.specs.Entries.{is_refused}
use Rattle.ufs_check.proofs.entries.has_refused.Given as goal

abbrev pub invariant-loop-i : goal.invariant-loop-i
invariant-loop-i l = list_any (is_refused l.endian) (chunks_in (l.count - l.i) (drop (l.i * 512) l.bytes)) ≡ list_any (is_refused l.endian) (chunks_in l.count l.bytes)
