use Rattle.std.proofs.Common.{◌+◌, ◌*◌, ◌<◌, ◌≤◌, ◌⊎◌, ℕ, subst}
use Rattle.dg_parity.proofs.rows.is_needed.Goals as goal

pub returns-then-by_change-clause-untouched : goal.returns-then-by_change-clause-untouched
returns-then-by_change-clause-untouched c by none other r lt =
    subst (λ (i : ℕ). (512 * i + r < c.args.at) ⊎ (c.args.at + c.args.size ≤ 512 * i + r)) c.chunk_on-i.ensures (c.is_touched.ensures.no none r lt)
