use Rattle.std.proofs.Common.{◌∙◌, sym, ap, subst, arith}
use Rattle.ufs_model.specs.Claims.{level_of}
use Rattle.ufs_model.specs.Owners.{by_itself}
use Rattle.dg_claims.specs.Kept.{table_of}
use Rattle.dg_claims.specs.Tables.{TableClaims}
use Rattle.dg_infer.proofs.ChainLaws.{chain_up, fewer_above, none_above, own_slot, unclaimed}
use Rattle.dg_infer.specs.Chains.{IsChain}
use Rattle.dg_infer.specs.declared.chains.Chain.{Chain}
use Rattle.dg_infer.proofs.chains.+chain_of.Goals as goal

pub returns-then-count-gt1 : goal.returns-then-count-gt1
returns-then-count-gt1 t c = λ leveled few. by_itself c.claims_on-count.ensures (omega (arith, c.if-count-gt1.true))

pub returns-in_default : goal.returns-in_default
returns-in_default t c = λ leveled few.
    unclaimed (TableClaims (table_of c.args.claims.now)) c.args.fragment c.claims_on-count.result c.claims_on-count.ensures (omega (arith, c.if-count-gt1.false)) c.in_default.ensures.none

pub returns-in-Slot : goal.returns-in-Slot
returns-in-Slot t c = λ leveled few.
    own_slot (TableClaims (table_of c.args.claims.now)) c.args.fragment c.in-Slot.inode c.in-Slot.slot c.level.result c.in-Some.source c.in-Slot.is c.in-Some.ensures.only
    (ap level_of c.in-Slot.is ∙ sym c.level.ensures)

pub returns-then-levels-eq0 : goal.returns-then-levels-eq0
returns-then-levels-eq0 t c = λ leveled few.
    absurd (none_above (table_of c.args.claims.now) c.args.fragment c.in-Pointer.upper c.in-Pointer.level c.in-Pointer.at c.args.levels c.in-Some.source c.in-Pointer.is c.in-Some.ensures.source
    c.in-Some.ensures.only few c.if-levels-eq0.true)

pub returns-else-levels-eq0 : goal.returns-else-levels-eq0
returns-else-levels-eq0 t c = λ leveled few.
    subst (λ (chain : Chain). IsChain (TableClaims (table_of c.args.claims.now)) c.args.fragment chain) (sym c.chain_below.ensures)
    (chain_up (table_of c.args.claims.now) c.args.fragment c.in-Pointer.upper c.in-Pointer.level c.in-Pointer.at c.level-in-Pointer.result c.in-Some.source c.chain_of.result leveled c.in-Pointer.is
    c.in-Some.ensures.only (ap level_of c.in-Pointer.is ∙ sym c.level-in-Pointer.ensures)
    (c.chain_of.ensures leveled (fewer_above (table_of c.args.claims.now) c.args.fragment c.in-Pointer.upper c.in-Pointer.level c.in-Pointer.at c.args.levels c.in-Some.source c.in-Pointer.is
    c.in-Some.ensures.source c.in-Some.ensures.only leveled few c.if-levels-eq0.false)))
