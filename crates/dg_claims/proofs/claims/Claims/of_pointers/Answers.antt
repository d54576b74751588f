use Rattle.std.proofs.Common.{◌≡◌, ◌∙◌, ◌+◌, ◌/◌, ap, arith, refl, subst, sym}
use Rattle.ufs_model.specs.Claims.{pointer_fragments}
use Rattle.dg_claims.proofs.SourceLaws.{all_pointers, next_bare, other_pointers, pointer_apart, sets_cut, sets_more, sets_over}
use Rattle.dg_claims.specs.Kept.{HasFragments, SetsFirst}
use Rattle.dg_claims.specs.Places.{pointer_place}
use Rattle.dg_claims.specs.Runs.{run_fragments}
use Rattle.dg_claims.proofs.claims.Claims.of_pointers.Goals as goal

pub set-requires-clause-none : goal.set-requires-clause-none
set-requires-clause-none c =
    next_bare c.args.self.now.runs c.clear_pointers.new.self.runs c.loop-at.self.runs (pointer_place c.args.fragment c.args.level) (HasFragments (pointer_fragments c.in-Some.g c.args.bytes.now))
    c.loop-at.at (c.in-Some.g.fsize / 4) (pointer_apart c.args.fragment c.args.level) c.clear_pointers.ensures.cleared c.loop-at.invariant.pointers c.loop-at-test.true

pub returns-in_err-set-clause-others : goal.returns-in_err-set-clause-others
returns-in_err-set-clause-others c =
    other_pointers c.args.fragment c.args.level c.args.self.now.runs c.set.new.self.runs
    (sets_cut c.args.self.now.runs c.clear_pointers.new.self.runs c.loop-at.self.runs c.set.new.self.runs (pointer_place c.args.fragment c.args.level)
    (HasFragments (pointer_fragments c.in-Some.g c.args.bytes.now)) c.loop-at.at (c.in-Some.g.fsize / 4) c.clear_pointers.ensures.cleared c.loop-at.invariant.pointers c.set.ensures.others)

pub returns-clause-pointers : goal.returns-clause-pointers
returns-clause-pointers c =
    let last : c.loop-at.at ≡ c.in-Some.g.fsize / 4 = omega (arith, c.loop-at-test.false, c.loop-at.auto.at-end) in
    all_pointers c.args.self.now c.in-Some.g c.args.fragment c.args.level c.args.bytes.now c.loop-at.self.runs c.in-Some.ensures.sources (sym c.in-Some.ensures.value)
    (sets_over c.args.self.now.runs c.clear_pointers.new.self.runs c.loop-at.self.runs (pointer_place c.args.fragment c.args.level) (HasFragments (pointer_fragments c.in-Some.g c.args.bytes.now))
    (c.in-Some.g.fsize / 4) c.clear_pointers.ensures.cleared
    (subst (λ n. SetsFirst c.clear_pointers.new.self.runs c.loop-at.self.runs (pointer_place c.args.fragment c.args.level) (HasFragments (pointer_fragments c.in-Some.g c.args.bytes.now)) n) last
    c.loop-at.invariant.pointers))

pub returns-clause-others : goal.returns-clause-others
returns-clause-others c =
    other_pointers c.args.fragment c.args.level c.args.self.now.runs c.loop-at.self.runs
    (λ place off. c.loop-at.invariant.pointers.others place (λ k lt e. off k e) ∙ c.clear_pointers.ensures.cleared.others place (λ k lt e. off k e))

pub loop-at-preserved : goal.loop-at-preserved
loop-at-preserved c = record {
  geometry = c.in_ok-set.ensures.geometry ∙ c.loop-at.invariant.geometry;
  pointers = sets_more c.clear_pointers.new.self.runs c.loop-at.self.runs c.set.new.self.runs (pointer_place c.args.fragment c.args.level) (HasFragments (pointer_fragments c.in-Some.g c.args.bytes.now))
      c.loop-at.at (c.loop-at.at + 1) refl (pointer_apart c.args.fragment c.args.level) c.loop-at.invariant.pointers (ap run_fragments c.in_ok-set.ensures.set ∙ c.pointer_run.ensures.value)
      c.in_ok-set.ensures.others;
}
