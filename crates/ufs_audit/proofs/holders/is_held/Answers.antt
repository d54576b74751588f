use Rattle.std.proofs.Common.{◌∙◌, arith, refl, sym}
use Rattle.dg_claims.specs.Kept.{table_of}
use Rattle.ufs_audit.proofs.HolderLaws.{held_here, no_claim, none_held, none_here, none_next}
use Rattle.ufs_audit.proofs.holders.is_held.Goals as goal

pub returns-in_default : goal.returns-in_default
returns-in_default c =
    let on = c.claims_on-i-end.ensures in
    absurd (no_claim (table_of c.args.claims.now) c.args.directories.now c.args.above.now c.args.level c.args.f on.sources c.loop-i.i
    (omega (arith, c.loop-i-test.true, on.number)) (sym (c.claim.ensures.claim on.sources on.are) ∙ c.in_default.is))

pub returns-then-is_holder : goal.returns-then-is_holder
returns-then-is_holder c =
    let on = c.claims_on-i-end.ensures in (
      λ is.
          held_here (table_of c.args.claims.now) c.args.directories.now c.args.above.now c.args.level c.args.f on.sources c.loop-i.i c.in-Some.height c.in-Some.source on.are
          (sym c.in-Some.is ∙ c.claim.ensures.claim on.sources on.are) (sym c.is_holder.ensures ∙ c.if-is_holder.true),
      λ holder. refl,
    )

pub loop-i-preserved : goal.loop-i-preserved
loop-i-preserved c =
    none_next (table_of c.args.claims.now) c.args.directories.now c.args.above.now c.args.level c.args.f c.loop-i.i c.loop-i.invariant
    (none_here (table_of c.args.claims.now) c.args.directories.now c.args.above.now c.args.level c.args.f c.loop-i.i c.in-Some.height c.in-Some.source
    (λ sources are. sym c.in-Some.is ∙ c.claim.ensures.claim sources are) (sym c.is_holder.ensures ∙ c.if-is_holder.false))

pub returns : goal.returns
returns c =
    let on = c.claims_on-i-end.ensures in (
      λ is. absurd (cc is),
      λ holder.
          absurd (none_held (table_of c.args.claims.now) c.args.directories.now c.args.above.now c.args.level c.args.f on.sources on.are
          (λ j low. c.loop-i.invariant j (omega (arith, low, on.number, c.loop-i-test.false))) holder),
    )
