use Rattle.std.proofs.Common.{◌+◌, sym, ◌∙◌, arith, length}
use Rattle.dg_parity.proofs.MemberSteps.{stands-along, stands-at}
use Rattle.dg_parity.proofs.StripeLemmas.{disk-below}
use Rattle.dg_parity.proofs.RunSteps.{below-take, window-below}
use Rattle.dg_parity.proofs.run_reads.read_window.Goals as goal

pub returns-then-not-read_stripes-clause-stands : goal.returns-then-not-read_stripes-clause-stands
returns-then-not-read_stripes-clause-stands g c bytes all h =
    stands-along g.R.Rack c.args.group.now c.read_stripes.new.group c.args.rack.now c.read_stripes.new.rack bytes c.read_stripes.ensures.leaves.later
    (λ has held. c.read_stripes.ensures.holds has all held) h

pub returns-clause-stands : goal.returns-clause-stands
returns-clause-stands g c bytes all h =
    stands-along g.R.Rack c.args.group.now c.read_stripes.new.group c.args.rack.now c.read_stripes.new.rack bytes c.read_stripes.ensures.leaves.later
    (λ has held. c.read_stripes.ensures.holds has all held) h

pub returns-clause-got : goal.returns-clause-got
returns-clause-got g c bytes all h k lt =
    c.if-not-read_stripes.ensures.got h.has all h.holds h.even k lt (disk-below c.args.group.now.disks (c.args.at + k) c.args.group.now.least)
    ∙ sym (stands-at g.R.Rack c.args.group.now c.args.rack.now bytes (c.args.at + k) h (omega (arith, lt, c.read_stripes.auto.buf, c.requires.range)))

pub read_stripes-requires-clause-below : goal.read_stripes-requires-clause-below
read_stripes-requires-clause-below g c =
    below-take _ _ _ _ (window-below c.args.group.now.disks c.args.at (length c.args.buf.now) c.args.group.now.length c.window_of-window.result c.args.group.now.least c.requires.some
    c.requires.range c.window_of-window.ensures)
