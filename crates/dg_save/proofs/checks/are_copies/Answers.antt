use Rattle.std.proofs.Common.{subst, sym}
use Rattle.std.specs.List.{All}
use Rattle.dg_save.specs.Checks.{IsElsewhere}
use Rattle.dg_save.proofs.checks.are_copies.Goals as goal

pub returns-in-Settled : goal.returns-in-Settled
returns-in-Settled c = (
  λ e. record {
    settled = λ some. c.in-Settled.is;
    elsewhere = subst (λ l. All (IsElsewhere c.args.homes.now) l) c.as_slice.ensures (c.are_elsewhere.ensures.0 e);
  },
  λ are. c.are_elsewhere.ensures.1 (subst (λ l. All (IsElsewhere c.args.homes.now) l) (sym c.as_slice.ensures) are.elsewhere),
)
