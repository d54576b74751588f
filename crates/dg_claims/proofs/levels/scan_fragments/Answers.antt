use Rattle.std.proofs.Common.{◌≡◌, ◌∙◌, false, arith, Contains, get_or, refl, sym, subst, inl, inr}
use Rattle.std.proofs.lemmas.Bool.{cases_eq}
use Rattle.std.proofs.lemmas.List.Elements.{Contains-get_or}
use Rattle.dg_io.specs.ViewLaws.{keeps_both, keeps_same}
use Rattle.ufs_model.specs.Claims.{source_fragments}
use Rattle.ufs_model.specs.declared.claims.ClaimSource.TheVariants.{Pointer}
use Rattle.ufs_pointer.specs.KindLaws.{loses_once, only_both, only_none}
use Rattle.dg_claims.specs.Scans.{IsAmong}
use Rattle.dg_claims.specs.ThereLaws.{not_before}
use Rattle.dg_claims.proofs.ListLaws.{contains_none}
use Rattle.dg_claims.proofs.ScanLaws.{fragment_apart, in_taken, in_whole}
use Rattle.dg_claims.specs.Kept.{claimed_by}
use Rattle.dg_claims.proofs.levels.scan_fragments.Goals as goal

pub loop-fragment-init : goal.loop-fragment-init
loop-fragment-init g c = record {
  keeps = keeps_same c.args.view.now c.requires.sound (g.met.V.View.unchanged c.args.view.now);
  levels = refl;
  geometry = refl;
  pointers = λ is v holds fragment at has. absurd (contains_none fragment has);
  others = λ source off. refl;
  there = record { each = λ is v holds b has. absurd (contains_none b has) };
  fetched = only_none (IsAmong c.args.fragments.now) c.args.view.now (g.met.V.View.fetched_none c.args.view.now);
}

pub scan_fragment-requires-clause-inside : goal.scan_fragment-requires-clause-inside
scan_fragment-requires-clause-inside g c =
    c.requires.inside (get_or c.args.fragments.now c.loop-fragment.fragment-index 0) (Contains-get_or c.args.fragments.now c.loop-fragment.fragment-index 0 c.loop-fragment-test.true)

pub returns-in_err-scan_fragment-clause-fetched : goal.returns-in_err-scan_fragment-clause-fetched
returns-in_err-scan_fragment-clause-fetched g c =
    only_both g.met.V.View.fetched_both c.scan_fragment.ensures.keeps.told
    (λ is v holds. (c.loop-fragment.invariant.keeps.stands v holds, λ b e. subst (λ f. Contains c.args.fragments.now f) (sym e) (Contains-get_or c.args.fragments.now c.loop-fragment.fragment-index 0 c.loop-fragment-test.true)))
    c.loop-fragment.invariant.fetched c.scan_fragment.ensures.fetched

pub returns-then-not-branch-clause-fetched : goal.returns-then-not-branch-clause-fetched
returns-then-not-branch-clause-fetched g c =
    only_both g.met.V.View.fetched_both c.scan_fragment.ensures.keeps.told
    (λ is v holds. (c.loop-fragment.invariant.keeps.stands v holds, λ b e. subst (λ f. Contains c.args.fragments.now f) (sym e) (Contains-get_or c.args.fragments.now c.loop-fragment.fragment-index 0 c.loop-fragment-test.true)))
    c.loop-fragment.invariant.fetched c.scan_fragment.ensures.fetched

pub loop-fragment-preserved : goal.loop-fragment-preserved
loop-fragment-preserved g c =
    let so_far = c.loop-fragment.invariant in
    let one = c.in_ok-scan_fragment.ensures in
    let here = Contains-get_or c.args.fragments.now c.loop-fragment.fragment-index 0 c.loop-fragment-test.true in record {
      keeps = keeps_both g.met.V.View.further c.args.view.now c.loop-fragment.view c.scan_fragment.new.view so_far.keeps one.keeps;
      levels = one.levels ∙ so_far.levels;
      geometry = one.geometry ∙ so_far.geometry;
      pointers = λ is v holds fragment at has. elim (cases_eq fragment (get_or c.args.fragments.now c.loop-fragment.fragment-index 0)) [
        | inl same ↦ subst (λ f. claimed_by c.scan_fragment.new.claims.runs (Pointer f c.args.level at) ≡ source_fragments c.args.g.now v (Pointer f c.args.level at)) (sym same)
            (one.pointers c.if-not-branch.false is v (so_far.keeps.stands v holds) at)
        | inr apart ↦
            one.others (Pointer fragment c.args.level at) (λ a e. apart (fragment_apart fragment (get_or c.args.fragments.now c.loop-fragment.fragment-index 0) c.args.level c.args.level at a e))
            ∙ so_far.pointers (one.keeps.told is) v holds fragment at (in_taken c.args.fragments.now c.loop-fragment.fragment-index fragment c.loop-fragment-test.true apart has)
      ];
      others = λ source off. one.others source (λ a e. off (get_or c.args.fragments.now c.loop-fragment.fragment-index 0) a here e) ∙ so_far.others source off;
      there = record {
        each = λ is v holds b has. elim (cases_eq b (get_or c.args.fragments.now c.loop-fragment.fragment-index 0)) [
          | inl same ↦ subst (λ f. g.V.View.is_gone c.args.view.now f ≡ false) (sym same)
              (not_before (g.V.View.is_gone c.args.view.now) (g.V.View.is_gone c.loop-fragment.view) (get_or c.args.fragments.now c.loop-fragment.fragment-index 0) so_far.keeps.stays
              ((one.there c.if-not-branch.false).each is v (so_far.keeps.stands v holds) (get_or c.args.fragments.now c.loop-fragment.fragment-index 0) refl))
          | inr apart ↦ so_far.there.each (one.keeps.told is) v holds b (in_taken c.args.fragments.now c.loop-fragment.fragment-index b c.loop-fragment-test.true apart has)
        ];
      };
      fetched = only_both g.met.V.View.fetched_both one.keeps.told (λ is v holds. (so_far.keeps.stands v holds, λ b e. subst (λ f. Contains c.args.fragments.now f) (sym e) here)) so_far.fetched one.fetched;
    }

pub returns-clause-pointers : goal.returns-clause-pointers
returns-clause-pointers g c = λ got is v holds fragment at has.
    c.loop-fragment.invariant.pointers is v holds fragment at (in_whole c.args.fragments.now c.loop-fragment.fragment-index fragment c.loop-fragment-test.false has)

pub returns-then-not-branch-clause-lost : goal.returns-then-not-branch-clause-lost
returns-then-not-branch-clause-lost g c = λ got.
    let here = Contains-get_or c.args.fragments.now c.loop-fragment.fragment-index 0 c.loop-fragment-test.true in
    let inside = c.requires.inside (get_or c.args.fragments.now c.loop-fragment.fragment-index 0) here in
    loses_once (IsAmong c.args.fragments.now) (omega (arith, inside, c.requires.geometry.size)) (c.in_ok-scan_fragment.ensures.gone c.if-not-branch.true) (λ v holds. here)

pub returns-clause-there : goal.returns-clause-there
returns-clause-there g c = λ got. record {
  each = λ is v holds b has. c.loop-fragment.invariant.there.each is v holds b (in_whole c.args.fragments.now c.loop-fragment.fragment-index b c.loop-fragment-test.false has);
}
