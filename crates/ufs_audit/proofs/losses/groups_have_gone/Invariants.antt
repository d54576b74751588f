use Rattle.std.proofs.Common.{◌≡◌, ◌<◌, ◌+◌, ℕ, false}
use Rattle.ufs_audit.specs.Losses.{IsBetween}
use Rattle.ufs_model.specs.Geometries.{cgstart}
use Rattle.ufs_audit.proofs.losses.groups_have_gone.Given as goal

abbrev pub invariant-loop-c : goal.invariant-loop-c
invariant-loop-c g l = (b : ℕ) → b < g.V.View.count l.view → (d : ℕ) → d < l.c → IsBetween (cgstart l.g d + l.g.cblkno) (cgstart l.g d + l.g.cblkno + l.g.frag) b
    → g.V.View.is_gone l.view b ≡ false
