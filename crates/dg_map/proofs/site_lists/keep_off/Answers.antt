use Rattle.std.proofs.Common.{◌≡◌, ◌<◌, ◌+◌, get_or, length, refl, ◌∙◌, inr, arith}
use Rattle.std.proofs.lemmas.List.{length-set}
use Rattle.dg_model.proofs.SiteLists.{apart_test, same_test}
use Rattle.dg_map.proofs.ListLemmas.{keep_others, keep_step, leave_others, leave_step}
use Rattle.dg_map.proofs.site_lists.keep_off.Goals as goal
use Rattle.dg_map.proofs.site_lists.keep_off.Goals.{else-site-boundary, then-site-boundary}

pub loop-place-preserved : goal.loop-place-preserved
loop-place-preserved c =
    let old = c.args.sites.now.items in
    let now = c.loop-place.sites.items in
    let start = c.args.start in
    let place = c.loop-place.place in
    let kept = c.loop-place.kept in
    let site = c.index-site.result.now in
    let before = c.loop-place.invariant in
    let lt : start + place < length old = omega (arith, c.requires, c.loop-place-test.true) in
    let is : site ≡ get_or old (start + place) site = c.index-site.ensures ∙ before.others (start + place) site (inr (omega arith)) in
    elim c.if-site-boundary.branch [
      | then-site-boundary w ↦ rw w.kept-is
          (rw w.sites-is
          (record {
            few = omega (arith, before.few);
            long = length-set now (start + kept) site ∙ before.long;
            row = keep_step old now start place kept c.args.boundary site lt before.long before.few is before.row (place + 1) (kept + 1) (apart_test site.boundary c.args.boundary w.if-site-boundary.true) refl refl;
            others = keep_others old now start place kept c.args.boundary site lt before.long before.few is before.row (place + 1) refl before.others;
          }))
      | else-site-boundary w ↦ rw w.kept-is
          (rw w.sites-is
          (record {
            few = omega (arith, before.few);
            long = before.long;
            row = leave_step old now start place kept c.args.boundary site lt before.long before.few is before.row (place + 1) (same_test site.boundary c.args.boundary w.if-site-boundary.false) refl;
            others = leave_others old now start place kept c.args.boundary site lt before.long before.few is before.row (place + 1) refl before.others;
          }))
    ]
