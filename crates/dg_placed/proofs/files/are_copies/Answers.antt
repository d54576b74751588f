use Rattle.std.proofs.Common.{refl}
use Rattle.dg_model.specs.declared.homes.Home.{Home}
use Rattle.dg_placed.specs.Used.{IsCopy}
use Rattle.dg_placed.proofs.HomeLaws.{all_copies, no_copy}
use Rattle.dg_placed.proofs.StandLaws.{more_with, not_both}
use Rattle.dg_placed.proofs.files.are_copies.Goals as goal

pub returns-then-not-is_copy : goal.returns-then-not-is_copy
returns-then-not-is_copy c =
    let none : Home = record { inode = 0; boundary = 0 } in (
      λ h. absurd (cc),
      λ all. absurd (no_copy c.args.homes.now c.args.copies.now c.loop-copy.copy-index none c.requires.copies c.loop-copy-test.true
          (λ is. not_both c.is_copy.result (c.is_copy.ensures.1 is) c.if-not-is_copy.true) all),
    )

pub loop-copy-preserved : goal.loop-copy-preserved
loop-copy-preserved c =
    let none : Home = record { inode = 0; boundary = 0 } in
    more_with (λ (copy : Home). IsCopy c.args.homes.now copy.inode copy.boundary) c.args.copies.now c.loop-copy.copy-index none c.loop-copy-test.true c.loop-copy.invariant
    (c.is_copy.ensures.0 c.if-not-is_copy.false)

pub returns : goal.returns
returns c = (
  λ h. all_copies c.args.homes.now c.args.copies.now c.loop-copy.copy-index c.loop-copy-test.false c.loop-copy.invariant,
  λ all. refl,
)
