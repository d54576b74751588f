use Rattle.std.proofs.Common.{◌≡◌, ◌+◌, ◌-◌, ◌↔◌, ◌++◌, ℕ, List, Contains, sym, subst, arith}
use Rattle.dg_infer.proofs.FileLaws.{all_none, all_more, all_owned, uppers_none}
use Rattle.dg_infer.specs.Files.{IsOwnedAt}
use Rattle.dg_infer.proofs.files.owned_by.Goals as goal

pub loop-done-init : goal.loop-done-init
loop-done-init c = record {
  all = all_none c.args.claims.now c.args.inode c.new-all.result.items c.new-all.ensures.items c.claims_inside.ensures.levels;
  uppers = uppers_none c.args.claims.now c.args.inode c.new-uppers.result.items c.new-uppers.ensures.items c.claims_inside.ensures.levels;
}

pub owned_at-requires-clause-uppers : goal.owned_at-requires-clause-uppers
owned_at-requires-clause-uppers c = λ f.
    let e : 4 - c.loop-done.done ≡ 3 - c.loop-done.done + 1 = omega (arith, c.loop-done-test.true) in
    subst (λ (n : ℕ). Contains c.deref.result.now f ↔ IsOwnedAt c.args.claims.now c.args.inode n f) e
    (subst (λ (xs : List ℕ). Contains xs f ↔ IsOwnedAt c.args.claims.now c.args.inode (4 - c.loop-done.done) f) (sym c.deref.ensures.value) (c.loop-done.invariant.uppers f))

pub loop-done-preserved : goal.loop-done-preserved
loop-done-preserved c = record {
  all = all_more c.args.claims.now c.args.inode c.loop-done.done c.loop-done.all.items c.in_ok-owned.owned.items c.extend_from_slice.new.self.items
      (omega (arith, c.loop-done-test.true)) (subst (λ (xs : List ℕ). c.extend_from_slice.new.self.items ≡ c.loop-done.all.items ++ xs) c.deref-in-loop-done.ensures.value c.in-Ok.ensures.items)
      c.loop-done.invariant.all c.in_ok-owned.ensures;
  uppers =
      let e : 3 - c.loop-done.done ≡ 4 - (c.loop-done.done + 1) = omega (arith, c.loop-done-test.true) in
      λ f. subst (λ (n : ℕ). Contains c.in_ok-owned.owned.items f ↔ IsOwnedAt c.args.claims.now c.args.inode n f) e (c.in_ok-owned.ensures f);
}

pub returns : goal.returns
returns c =
    all_owned c.args.claims.now c.args.inode c.loop-done.done c.loop-done.all.items (omega (arith, c.loop-done-test.false)) c.loop-done.invariant.all
