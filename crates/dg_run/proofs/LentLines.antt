-- How often a sink was called that was lent to a receiver of lines.
use Rattle.std.proofs.Common.{◌≡◌, subst}
use Rattle.dg_io.specs.SinkLines.{LeavesLines, lines_both}
use Rattle.dg_io.specs.declared.outside.Sink.{Ghosts}

module _ {K : Type 0} (ghosts : Ghosts K) where
  -- no more often than there are lines, and 255 bytes
  abbrev pub Leaves : K → K → Type 0
  Leaves old new = LeavesLines 255 ghosts.whole ghosts.calls ghosts.taken old new

  -- it is the receiver's at first, and the lender's in the end
  pub lent : (sink start out end : K) → start ≡ sink → Leaves start out → out ≡ end → Leaves sink end
  lent sink start out end is leaves back = subst (λ (k : K). Leaves sink k) back (subst (λ (k : K). Leaves k out) is leaves)

  -- lines, and then the one that ends them
  pub lent_both : (sink start middle out end : K) → start ≡ sink → Leaves start middle → Leaves middle out → out ≡ end → Leaves sink end
  lent_both sink start middle out end is first second back =
      lent sink start out end is (lines_both 255 ghosts.whole ghosts.calls ghosts.taken start middle out first second) back
