use Rattle.std.proofs.Common.{◌≡◌, ◌∙◌, ◌-◌, get_or, ap, refl, arith}
use Rattle.dg_model.specs.Copies.{touched}
use Rattle.dg_volume.proofs.OpenLaws.{touched_next}
use Rattle.dg_volume.proofs.opens.hot_of.Goals as goal

pub loop-place-preserved : goal.loop-place-preserved
loop-place-preserved c =
    let xs = c.args.recent.now in
    let place = c.loop-place.place in
    let some = c.loop-place-test.true in
    let within = c.loop-place.invariant.within in
    let i = get_or xs (place - 1) 0 in
    let touch : c.touch.new.self ≡ touched i c.loop-place.hot = c.in_ok-touch.ensures.touched in
    record {
      within = omega (arith, within);
      hot = touch ∙ ap (touched i) c.loop-place.invariant.hot ∙ touched_next xs (place - 1) place i (omega (arith, some, within)) (omega (arith, some)) refl c.requires.few c.requires.once;
    }
