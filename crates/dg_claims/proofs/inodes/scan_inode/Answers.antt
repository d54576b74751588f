use Rattle.std.proofs.Common.{◌∙◌, arith, refl, sym, subst, Option, ℕ}
use Rattle.ufs_pointer.specs.KindLaws.{loses_once, only_along}
use Rattle.dg_claims.proofs.ScanLaws.{has_inode, stored_source}
use Rattle.dg_claims.specs.Scans.{HasInode, HoldsIn}
use Rattle.dg_claims.proofs.inodes.scan_inode.Goals as goal

pub returns-clause-slots : goal.returns-clause-slots
returns-clause-slots g c = λ got is v holds had.
    let whole = c.hold.ensures.bytes c.if-not-hold.false is v holds had in
    let kept = c.hold.ensures.held c.if-not-hold.false in (
      subst (λ (o : Option ℕ). HoldsIn (g.V.View.size c.args.view.now) v o c.hold.new.levels.aside) (sym (kept.0)) whole,
      λ slot.
          c.in_ok-claim_stored.ensures.slots slot
          ∙ stored_source c.args.g.now c.args.claims.now.geometry v c.args.number slot c.place_of-block.result.0 c.place_of-block.result.1 (g.V.View.size c.args.view.now) c.aside.result.now
          c.requires.table c.requires.low c.requires.high c.place_of-block.ensures.block c.place_of-block.ensures.byte c.requires.geometry.fsize (c.aside.ensures ∙ whole),
    )

pub returns-then-not-hold-clause-lost : goal.returns-then-not-hold-clause-lost
returns-then-not-hold-clause-lost g c = λ got.
    loses_once (HasInode c.args.g.now) (omega (arith, c.place_of-block.ensures.inside, c.requires.geometry.size)) (c.hold.ensures.gone c.if-not-hold.true)
    (λ v holds. has_inode c.args.g.now c.args.number _ _ c.requires.high c.place_of-block.ensures.block v refl)

pub returns-then-not-hold-clause-fetched : goal.returns-then-not-hold-clause-fetched
returns-then-not-hold-clause-fetched g c =
    only_along (λ is v holds. (holds, λ b e. has_inode c.args.g.now c.args.number _ b c.requires.high c.place_of-block.ensures.block v e)) c.hold.ensures.fetched

pub returns-in_err-claim_stored-clause-fetched : goal.returns-in_err-claim_stored-clause-fetched
returns-in_err-claim_stored-clause-fetched g c =
    only_along (λ is v holds. (holds, λ b e. has_inode c.args.g.now c.args.number _ b c.requires.high c.place_of-block.ensures.block v e)) c.hold.ensures.fetched

pub returns-clause-fetched : goal.returns-clause-fetched
returns-clause-fetched g c =
    only_along (λ is v holds. (holds, λ b e. has_inode c.args.g.now c.args.number _ b c.requires.high c.place_of-block.ensures.block v e)) c.hold.ensures.fetched

pub returns-clause-held : goal.returns-clause-held
returns-clause-held g c = λ got. rw (← c.place_of-block.ensures.block) (c.hold.ensures.held c.if-not-hold.false).0

pub returns-clause-there : goal.returns-clause-there
returns-clause-there g c = λ got. rw (← c.place_of-block.ensures.block) (c.hold.ensures.there c.if-not-hold.false)
