-- Calls of a rack of groups leave what each of them leaves.
use Rattle.std.proofs.Common.{◌∙◌, ◌++◌, List, [], refl}
use Rattle.dg_io.specs.MadeLaws.{after_both, after_none}
use Rattle.dg_io.specs.RackCalls.{RackCall}
use Rattle.dg_io.specs.RackWords.{After}
use Rattle.dg_io.specs.declared.outside.Rack.{Ghosts}
use Rattle.dg_parity.specs.Arrays.{Grouped, GroupedMade, grouped_bytes, grouped_counts, grouped_disks, grouped_keeps, grouped_name, grouped_stands, grouped_steady, grouped_tells, grouped_words}

-- the words of a rack of groups, all of them
abbrev pub grouped_rack : {R : Type 0} → Ghosts R → Ghosts (Grouped R)
grouped_rack rack = record {
  name = grouped_name rack;
  bytes = grouped_bytes rack;
  counts = grouped_counts rack;
  stands = grouped_stands rack;
  steady = grouped_steady rack;
  tells = grouped_tells rack;
  keeps = grouped_keeps rack;
  disks = grouped_disks rack;
  made = GroupedMade rack;
}

module _ {R : Type 0} (rack : Ghosts R) where
  pub grouped_none : (s : Grouped R) → GroupedMade rack s [] s
  grouped_none s = record {
    after = after_none (grouped_name rack) (grouped_bytes rack) (grouped_counts rack) (grouped_stands rack) (grouped_steady rack) (grouped_tells rack) (grouped_keeps rack) (grouped_disks rack) s;
    shaped = record { width = refl; groups = refl };
  }

  pub grouped_both : (a b c : Grouped R) (x y : List RackCall) → GroupedMade rack a x b → GroupedMade rack b y c → GroupedMade rack a (x ++ y) c
  grouped_both a b c x y first second = record {
    after = after_both (grouped_name rack) (grouped_bytes rack) (grouped_counts rack) (grouped_stands rack) (grouped_steady rack) (grouped_tells rack) (grouped_keeps rack) (grouped_disks rack) a b c x y
        first.after second.after;
    shaped = record { width = second.shaped.width ∙ first.shaped.width; groups = second.shaped.groups ∙ first.shaped.groups };
  }

  pub grouped_after : (a b : Grouped R) (calls : List RackCall) → GroupedMade rack a calls b → After (grouped_words rack) calls a b
  grouped_after a b calls made = made.after
