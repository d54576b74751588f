use Rattle.std.proofs.Common.{ℕ, List, length, subst}
use Rattle.dg_io.specs.Told.{Patched, Torn}
use Rattle.dg_label.specs.Pages.{LeavesFallen}
use Rattle.dg_label.specs.Passes.{Touches}
use Rattle.dg_label.proofs.FallenLaws.{fallen_more, fallen_none}
use Rattle.dg_label.proofs.PassLaws.{passes_more, passes_none}
use Rattle.dg_model.specs.Saves.{body_place}
use Rattle.dg_model.specs.declared.shapes.Shape.{Shape}
use Rattle.dg_store.specs.Stores.{shape_of}
use Rattle.dg_label.proofs.passes.write_bodies.Goals as goal

pub loop-member-preserved : goal.loop-member-preserved
loop-member-preserved g c =
    let first = c.loop-member.invariant.passes in
    let n = c.loop-member.member in
    let a = c.args.store.now in
    let b = c.loop-member.store in
    let d = c.write_body_on.new.store in
    let change : ℕ → List ℕ → List ℕ → Type 0 = λ (q : ℕ). Patched (body_place (shape_of a)) c.args.body.now in
    let fails : ℕ → List ℕ → List ℕ → Type 0 = λ (q : ℕ). Torn (body_place (shape_of a)) (length c.args.body.now) in
    let touches : Touches g.R.Rack n (change n) b d =
    subst (λ (sh : Shape). Touches g.R.Rack n (Patched (body_place sh) c.args.body.now) b d) first.array.stays.shape c.write_body_on.ensures.touches in
    let fallen : LeavesFallen g.R.Rack fails b d =
    subst (λ (sh : Shape). LeavesFallen g.R.Rack (λ (q : ℕ). Torn (body_place sh) (length c.args.body.now)) b d) first.array.stays.shape c.write_body_on.ensures.fallen in
    record {
      passes = passes_more g.R.Rack change n a b d first touches;
      fallen = fallen_more g.R.Rack fails change n a b d first touches c.loop-member.invariant.fallen fallen;
    }

pub loop-member-init : goal.loop-member-init
loop-member-init g c = record {
  passes = passes_none g.R.Rack (λ (q : ℕ). Patched (body_place (shape_of c.args.store.now)) c.args.body.now) c.args.store.now c.requires.sound;
  fallen = fallen_none g.R.Rack (λ (q : ℕ). Torn (body_place (shape_of c.args.store.now)) (length c.args.body.now)) c.args.store.now;
}
