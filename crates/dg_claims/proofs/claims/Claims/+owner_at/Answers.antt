use Rattle.std.proofs.Common.{sym, ◌∙◌}
use Rattle.dg_claims.proofs.OwnerLaws.{if_none, owner_level, owner_none, owner_not_through, owner_own, owner_through}
use Rattle.dg_claims.specs.Kept.{table_of}
use Rattle.dg_claims.specs.Tables.{TableClaims}
use Rattle.dg_claims.proofs.claims.Claims.+owner_at.Goals as goal

pub returns-in_err-source-clause-none : goal.returns-in_err-source-clause-none
returns-in_err-source-clause-none t c = if_none c.from_residual.result (λ inode. owner_none (TableClaims (table_of c.args.self.now)) c.args.fragment c.in_err-source.ensures.none inode c.args.level)

pub returns-then-level-clause-none : goal.returns-then-level-clause-none
returns-then-level-clause-none t c = λ inode owner.
    c.if-level.true (c.level.ensures ∙ owner_level (TableClaims (table_of c.args.self.now)) c.args.fragment c.in_ok-source.source c.in_ok-source.ensures.only inode c.args.level owner)

pub returns-in-Slot-clause-owner : goal.returns-in-Slot-clause-owner
returns-in-Slot-clause-owner t c =
    owner_own (TableClaims (table_of c.args.self.now)) c.args.fragment c.in-Slot.inode c.in-Slot.slot c.args.level c.in_ok-source.source c.in-Slot.is c.in_ok-source.ensures.only
    (sym c.level.ensures ∙ c.if-level.false)

pub returns-in-Pointer-clause-owner : goal.returns-in-Pointer-clause-owner
returns-in-Pointer-clause-owner t c =
    owner_through (TableClaims (table_of c.args.self.now)) c.args.fragment c.in-Pointer.upper c.in-Pointer.above c.in-Pointer.at c.args.level c.in_ok-source.source c.owner_at.result c.in-Pointer.is
    c.in_ok-source.ensures.only (sym c.level.ensures ∙ c.if-level.false) c.owner_at.ensures.owner

pub returns-in-Pointer-clause-none : goal.returns-in-Pointer-clause-none
returns-in-Pointer-clause-none t c =
    owner_not_through (TableClaims (table_of c.args.self.now)) c.args.fragment c.in-Pointer.upper c.in-Pointer.above c.in-Pointer.at c.in_ok-source.source c.owner_at.result c.in-Pointer.is
    c.in_ok-source.ensures.only c.owner_at.ensures.none c.args.level
