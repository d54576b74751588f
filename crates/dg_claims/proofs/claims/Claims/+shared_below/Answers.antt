use Rattle.std.proofs.Common.{arith}
use Rattle.ufs_model.specs.Owners.{by_itself}
use Rattle.dg_claims.proofs.OwnerLaws.{if_none}
use Rattle.dg_claims.proofs.SharedLaws.{fewer_above, if_not_shared, if_shared, nothing_above, shared_none, shared_pointer, shared_slot}
use Rattle.dg_claims.specs.Kept.{table_of}
use Rattle.dg_claims.specs.Tables.{TableClaims}
use Rattle.dg_claims.proofs.claims.Claims.+shared_below.Goals as goal

pub returns-then-number-gt1-clause-shared : goal.returns-then-number-gt1-clause-shared
returns-then-number-gt1-clause-shared t c = by_itself c.claims_on-number.ensures (omega (arith, c.if-number-gt1.true))

pub returns-in_err-source-clause-none : goal.returns-in_err-source-clause-none
returns-in_err-source-clause-none t c = λ leveled few.
    if_none c.from_residual.result (shared_none (TableClaims (table_of c.args.self.now)) c.args.fragment c.claims_on-number.result c.claims_on-number.ensures (omega (arith, c.if-number-gt1.false)) c.in_err-source.ensures.none)

pub returns-in-Slot-clause-none : goal.returns-in-Slot-clause-none
returns-in-Slot-clause-none t c = λ leveled few.
    shared_slot (TableClaims (table_of c.args.self.now)) c.args.fragment c.claims_on-number.result c.in-Slot.inode c.in-Slot.slot c.in_ok-source.source c.claims_on-number.ensures
    (omega (arith, c.if-number-gt1.false)) c.in-Slot.is c.in_ok-source.ensures.only

pub returns-then-levels-eq0-clause-none : goal.returns-then-levels-eq0-clause-none
returns-then-levels-eq0-clause-none t c = λ leveled few.
    absurd (nothing_above (table_of c.args.self.now) c.args.fragment c.in-Pointer.upper _ _ c.args.levels c.in_ok-source.source c.in-Pointer.is c.in_ok-source.ensures.source c.in_ok-source.ensures.only few
    c.if-levels-eq0.true)

pub returns-else-levels-eq0-clause-shared : goal.returns-else-levels-eq0-clause-shared
returns-else-levels-eq0-clause-shared t c =
    if_shared (TableClaims (table_of c.args.self.now)) c.args.fragment c.in-Pointer.upper _ _ c.in_ok-source.source c.shared_below.result c.in-Pointer.is c.in_ok-source.ensures.only
    c.shared_below.ensures.shared

pub returns-else-levels-eq0-clause-none : goal.returns-else-levels-eq0-clause-none
returns-else-levels-eq0-clause-none t c = λ leveled few.
    if_not_shared c.shared_below.result
    (λ none. shared_pointer (TableClaims (table_of c.args.self.now)) c.args.fragment c.claims_on-number.result c.in-Pointer.upper _ _ c.in_ok-source.source c.claims_on-number.ensures
    (omega (arith, c.if-number-gt1.false)) c.in-Pointer.is c.in_ok-source.ensures.only none)
    (c.shared_below.ensures.none leveled (fewer_above (table_of c.args.self.now) c.args.fragment c.in-Pointer.upper _ _ c.args.levels c.in_ok-source.source c.in-Pointer.is
    c.in_ok-source.ensures.source c.in_ok-source.ensures.only leveled few c.if-levels-eq0.false))
