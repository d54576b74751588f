use Rattle.std.proofs.Common.{◌≡◌, [], false, slice_index, arith}
use Rattle.dg_infer.proofs.FileLaws.{gains_next, gains_put, gains_tested, not_decides}
use Rattle.dg_infer.specs.Known.{is_system_by}
use Rattle.dg_infer.proofs.files.without_system.Goals as goal

pub loop-place-preserved : goal.loop-place-preserved
loop-place-preserved c = record {
  gains = gains_next [] c.loop-place.plain.items c.put_if.new.list.items c.loop-place.place
      (λ k b. (b ≡ slice_index c.args.blocks.now k) × (is_system_by c.args.geometry b ≡ false)) c.loop-place.invariant.gains
      (gains_put c.loop-place.plain.items c.put_if.new.list.items (slice_index c.args.blocks.now c.loop-place.place) _ (λ b. is_system_by c.args.geometry b ≡ false) c.in_ok-put_if.ensures
      (not_decides c.is_system.result _ c.is_system.ensures));
}

pub returns : goal.returns
returns c =
    gains_tested c.args.blocks.now c.loop-place.plain.items (is_system_by c.args.geometry) c.loop-place.place (omega (arith, c.loop-place-test.false, c.loop-place.auto.place-end))
    c.loop-place.invariant.gains
