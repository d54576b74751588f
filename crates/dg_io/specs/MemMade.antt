-- Calls that were made of the racks in memory.
use Rattle.std.specs.Prelude.{List, [], ◌++◌}
use Rattle.dg_io.specs.MadeLaws.{after_none, after_both}
use Rattle.dg_io.specs.RackCalls.{RackCall}
use Rattle.dg_io.specs.Racks.{name_in, member_in, counts_in, stands_in, steady_in, told_in, keeps_in, disks_in, made_in}
use Rattle.dg_io.specs.Racks.{sure_name, sure_member, sure_counts, sure_stands, sure_steady, sure_told, sure_keeps, sure_disks, sure_made}
use Rattle.dg_io.specs.declared.racks.MemRack.{MemRack}
use Rattle.dg_io.specs.declared.racks.SureRack.{SureRack}

pub mem_made_none : (s : MemRack) → made_in s [] s
mem_made_none s = after_none name_in member_in counts_in stands_in steady_in told_in keeps_in disks_in s

pub mem_made_both : (a b c : MemRack) (x y : List RackCall) → made_in a x b → made_in b y c → made_in a (x ++ y) c
mem_made_both a b c x y first second = after_both name_in member_in counts_in stands_in steady_in told_in keeps_in disks_in a b c x y first second

pub sure_made_none : (s : SureRack) → sure_made s [] s
sure_made_none s = after_none sure_name sure_member sure_counts sure_stands sure_steady sure_told sure_keeps sure_disks s

pub sure_made_both : (a b c : SureRack) (x y : List RackCall) → sure_made a x b → sure_made b y c → sure_made a (x ++ y) c
sure_made_both a b c x y first second = after_both sure_name sure_member sure_counts sure_stands sure_steady sure_told sure_keeps sure_disks a b c x y first second
