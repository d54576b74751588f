use Rattle.std.proofs.Common.{◌≡◌, ◌∙◌, ℕ, IfSome, Option, false, refl, sym, subst, inl, inr, arith}
use Rattle.std.proofs.lemmas.Bool.{cases_eq}
use Rattle.ufs_model.specs.Inodes.{inode_block}
use Rattle.dg_io.specs.ViewLaws.{keeps_both, keeps_same}
use Rattle.ufs_model.specs.declared.claims.ClaimSource.TheVariants.{Slot, Pointer}
use Rattle.dg_claims.proofs.ScanLaws.{low_source, past_source, pointer_no_slot, slot_apart, slots_more}
use Rattle.ufs_pointer.specs.KindLaws.{loses_along, only_both, only_none}
use Rattle.dg_claims.proofs.ListLaws.{below_cases}
use Rattle.dg_claims.specs.ThereLaws.{all_blocks}
use Rattle.dg_claims.specs.Kept.{claimed_by}
use Rattle.dg_claims.specs.Scans.{HasInode, HoldsIn}
use Rattle.dg_claims.proofs.inodes.scan_inodes.Goals as goal

pub loop-number-init : goal.loop-number-init
loop-number-init g c = record {
  keeps = keeps_same c.args.view.now c.requires.sound (g.met.V.View.unchanged c.args.view.now);
  levels = refl;
  geometry = refl;
  room = tt;
  later = λ number slot le. c.requires.bare (Slot number slot);
  pointers = λ fragment level at. c.requires.bare (Pointer fragment level at);
  slots = λ is v holds. (tt, λ number slot lt. c.requires.bare (Slot number slot) ∙ sym (low_source c.args.g.now v number slot lt));
  there = λ is v holds. (tt, λ i low lt. absurd (omega (arith, low, lt)));
  fetched = only_none (HasInode c.args.g.now) c.args.view.now (g.met.V.View.fetched_none c.args.view.now);
}

pub returns-in_err-scan_inode-clause-fetched : goal.returns-in_err-scan_inode-clause-fetched
returns-in_err-scan_inode-clause-fetched g c =
    only_both g.met.V.View.fetched_both c.scan_inode.ensures.keeps.told (λ is v holds. (c.loop-number.invariant.keeps.stands v holds, λ b h. h)) c.loop-number.invariant.fetched c.scan_inode.ensures.fetched

pub returns-then-not-branch-clause-fetched : goal.returns-then-not-branch-clause-fetched
returns-then-not-branch-clause-fetched g c =
    only_both g.met.V.View.fetched_both c.scan_inode.ensures.keeps.told (λ is v holds. (c.loop-number.invariant.keeps.stands v holds, λ b h. h)) c.loop-number.invariant.fetched c.scan_inode.ensures.fetched

pub loop-number-preserved : goal.loop-number-preserved
loop-number-preserved g c =
    let so_far = c.loop-number.invariant in
    let one = c.in_ok-scan_inode.ensures in
    let more = c.scan_inode.new.levels in record {
      keeps = keeps_both g.met.V.View.further c.args.view.now c.loop-number.view c.scan_inode.new.view so_far.keeps c.scan_inode.ensures.keeps;
      levels = one.levels ∙ so_far.levels;
      geometry = one.geometry ∙ so_far.geometry;
      room = rw so_far.keeps.bytes at (one.room c.if-not-branch.false);
      later = λ number slot le. one.others (Slot number slot) (λ s e. omega (arith, slot_apart number c.loop-number.number slot s e, le)) ∙ so_far.later number slot (omega (arith, le));
      pointers = λ fragment level at. one.others (Pointer fragment level at) (λ s e. pointer_no_slot fragment level at c.loop-number.number s e) ∙ so_far.pointers fragment level at;
      slots = λ is v holds.
          let before = so_far.slots (one.keeps.told is) v holds in
          let now = one.slots c.if-not-branch.false is v (so_far.keeps.stands v holds)
          (subst (λ (l : ℕ). HoldsIn l v c.loop-number.held c.loop-number.levels.aside) (sym so_far.keeps.bytes) (before.0)) in (
            subst (λ (l : ℕ). HoldsIn l v c.scan_inode.new.held c.scan_inode.new.levels.aside) so_far.keeps.bytes (now.0),
            slots_more c.args.g.now v (claimed_by c.loop-number.claims.runs) (claimed_by c.scan_inode.new.claims.runs) c.loop-number.number _ refl one.others (now.1) (before.1),
          );
      there = λ is v holds.
          let before = so_far.there (one.keeps.told is) v holds in
          let here = one.there c.if-not-branch.false (g.V.View.is_gone c.args.view.now) so_far.keeps.stays is v (so_far.keeps.stands v holds) (before.0) in (
            subst (λ (o : Option ℕ). IfSome o (λ b. g.V.View.is_gone c.args.view.now b ≡ false)) (sym (one.held c.if-not-branch.false)) here,
            λ i low lt. elim (cases_eq i c.loop-number.number) [
              | inl same ↦ subst (λ k. g.V.View.is_gone c.args.view.now (inode_block c.args.g.now k) ≡ false) (sym same) here
              | inr apart ↦ before.1 i low (omega (arith, lt, apart))
            ],
          );
      fetched = only_both g.met.V.View.fetched_both one.keeps.told (λ is v holds. (so_far.keeps.stands v holds, λ b h. h)) so_far.fetched one.fetched;
    }

pub returns-clause-slots : goal.returns-clause-slots
returns-clause-slots g c = λ got is v holds number slot. elim (below_cases number c.loop-number.number) [
  | inl lt ↦ (c.loop-number.invariant.slots is v holds).1 number slot lt
  | inr le ↦ c.loop-number.invariant.later number slot le ∙ sym (past_source c.args.g.now v number slot (omega (arith, le, c.loop-number-test.false)))
]

pub returns-then-not-branch-clause-lost : goal.returns-then-not-branch-clause-lost
returns-then-not-branch-clause-lost g c = λ got.
    let so_far = c.loop-number.invariant.keeps in
    loses_along so_far.blocks (λ b h. h) (λ h. h) (λ is v holds. (so_far.stands v holds, λ b h. h)) (c.in_ok-scan_inode.ensures.lost c.if-not-branch.true)

pub returns-clause-there : goal.returns-clause-there
returns-clause-there g c = λ got. record {
  each = λ is v holds b has.
      subst (λ x. g.V.View.is_gone c.args.view.now x ≡ false) (sym (has.2))
      (all_blocks c.args.g.now (λ x. g.V.View.is_gone c.args.view.now x ≡ false) c.requires.geometry.tests
      (λ i low high. (c.loop-number.invariant.there is v holds).1 i low (omega (arith, high, c.loop-number-test.false))) (has.0) (has.1));
}
