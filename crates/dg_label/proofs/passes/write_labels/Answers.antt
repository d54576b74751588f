use Rattle.std.proofs.Common.{◌≡◌, ◌∙◌, ◌≤◌, ◌*◌, ℕ, List, ap, arith, subst, sym}
use Rattle.std.proofs.lemmas.Bool.{false≢true}
use Rattle.dg_io.specs.Told.{Patched}
use Rattle.dg_model.specs.Saves.{label_bytes}
use Rattle.dg_model.specs.declared.shapes.Shape.{Shape}
use Rattle.dg_store.specs.Leaves.{HasWritten}
use Rattle.dg_store.specs.Stores.{rack_of, shape_of}
use Rattle.dg_label.specs.Pages.{LeavesFallen, PageFails, numbered, page_of}
use Rattle.dg_label.specs.Passes.{Passes, Touches}
use Rattle.dg_label.proofs.FallenLaws.{fallen_more, fallen_none, pages_failed}
use Rattle.dg_label.proofs.LabelLaws.{none_past, some_wrote}
use Rattle.dg_label.proofs.PassLaws.{bad_more, passes_more, passes_none, wrote_more}
use Rattle.dg_label.proofs.passes.write_labels.Goals as goal
use Rattle.dg_label.proofs.passes.write_labels.Goals.{then-write_label_on, else-write_label_on}

pub loop-member-preserved : goal.loop-member-preserved
loop-member-preserved g c =
    let old = c.loop-member.invariant in
    let first = old.passes in
    let n = c.loop-member.member in
    let a = c.args.store.now in
    let b = c.loop-member.store in
    let d = c.write_label_on.new.store in
    let touches =
    subst (λ (sh : Shape). Touches g.R.Rack n (Patched 0 (label_bytes (numbered sh c.args.kept.now n))) b d) first.array.stays.shape c.write_label_on.ensures.touches in
    let more = passes_more g.R.Rack (λ (q : ℕ). Patched 0 (label_bytes (numbered (shape_of a) c.args.kept.now q))) n a b d first touches in
    let wrote = wrote_more g.R.Rack (λ (q : ℕ). Patched 0 (label_bytes (numbered (shape_of a) c.args.kept.now q))) n a b d first touches.array old.wrote c.write_label_on.ensures.wrote in
    let fails : ℕ → List ℕ → List ℕ → Type 0 = λ (q : ℕ). PageFails (g.R.Rack.steady (rack_of a)) (page_of (shape_of a) c.args.kept.now q) in
    let next : LeavesFallen g.R.Rack fails b d = pages_failed g.R.Rack c.args.kept.now a b d first.array.stays c.write_label_on.ensures.fallen in
    let fallen =
    fallen_more g.R.Rack fails (λ (q : ℕ). Patched 0 (label_bytes (numbered (shape_of a) c.args.kept.now q))) n a b d first touches old.fallen next in
    elim c.if-write_label_on.branch [
      | then-write_label_on w ↦ record {
        passes = more;
        fallen = fallen;
        some = λ is. (n, omega arith, c.write_label_on.ensures.good ∙ w.if-write_label_on.true);
        none = λ is. absurd (false≢true (sym is ∙ w.some-is));
        wrote = wrote;
      }
      | else-write_label_on w ↦ record {
        passes = more;
        fallen = fallen;
        some = λ is. let had = old.some (sym w.some-is ∙ is) in
            (had.0, omega (arith, had.1), touches.stay_good had.0 (let low = had.1 in λ e. omega (arith, low, e)) had.2);
        none = λ is. bad_more g.R.Rack n b d touches.array (old.none (sym w.some-is ∙ is)) (c.write_label_on.ensures.good ∙ w.if-write_label_on.false);
        wrote = wrote;
      }
    ]

pub returns-clause-passes : goal.returns-clause-passes
returns-clause-passes g c =
    let b = ap (λ (sh : Shape). sh.b) c.shape.ensures in
    let end : c.loop-member.member ≡ 2 * (shape_of c.args.store.now).b = omega (arith, b) in
    subst (λ (n : ℕ). Passes g.R.Rack n (λ (q : ℕ). Patched 0 (label_bytes (numbered (shape_of c.args.store.now) c.args.kept.now q))) c.args.store.now c.loop-member.store)
    end c.loop-member.invariant.passes

pub returns-clause-some : goal.returns-clause-some
returns-clause-some g c is = let had = c.loop-member.invariant.some is in (had.0, had.2)

pub returns-clause-none : goal.returns-clause-none
returns-clause-none g c is =
    let passes = c.loop-member.invariant.passes in
    let same : (shape_of c.loop-member.store).b ≡ (shape_of c.args.store.now).b = ap (λ (sh : Shape). sh.b) passes.array.stays.shape in
    let b = ap (λ (sh : Shape). sh.b) c.shape.ensures in
    let past : 2 * (shape_of c.loop-member.store).b ≤ c.loop-member.member = omega (arith, b, same) in
    none_past g.R.Rack c.loop-member.store c.loop-member.member passes.array.sound past (c.loop-member.invariant.none is)

pub returns-clause-wrote : goal.returns-clause-wrote
returns-clause-wrote g c =
    let b = ap (λ (sh : Shape). sh.b) c.shape.ensures in
    let past : 2 * (shape_of c.args.store.now).b ≤ c.loop-member.member = omega (arith, b) in
    some_wrote g.R.Rack (HasWritten g.R.Rack c.args.store.now c.loop-member.store) c.args.store.now c.loop-member.member c.requires.sound past c.loop-member.invariant.wrote

pub loop-member-init : goal.loop-member-init
loop-member-init g c = record {
  passes = passes_none g.R.Rack (λ (q : ℕ). Patched 0 (label_bytes (numbered (shape_of c.args.store.now) c.args.kept.now q))) c.args.store.now c.requires.sound;
  fallen = fallen_none g.R.Rack (λ (q : ℕ). PageFails (g.R.Rack.steady (rack_of c.args.store.now)) (page_of (shape_of c.args.store.now) c.args.kept.now q)) c.args.store.now;
  some = λ is. absurd (false≢true is);
  none = λ is q low. absurd (omega (arith, low));
  wrote = λ q low good. absurd (omega (arith, low));
}
