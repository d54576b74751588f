use Rattle.std.proofs.Common.{◌≡◌, ◌*◌, ℕ, List, ap, arith, subst}
use Rattle.dg_io.specs.Told.{Extended, KeepsFront}
use Rattle.dg_label.specs.Passes.{PassesBy, TouchesBy}
use Rattle.dg_label.specs.Saves.{short_members}
use Rattle.dg_label.proofs.FallenLaws.{fallen_more, fallen_none}
use Rattle.dg_label.proofs.LabelLaws.{whole_extended}
use Rattle.dg_label.proofs.PassLaws.{passes_more, passes_none}
use Rattle.dg_label.proofs.SaveLaws.{extended_fronts, short_more, uncalled_more, uncalled_none}
use Rattle.dg_model.specs.Saves.{member_length}
use Rattle.dg_model.specs.declared.shapes.Shape.{Shape}
use Rattle.dg_store.specs.Leaves.{CallsAtMost, IsCallOrExtendBelow}
use Rattle.dg_store.specs.Stores.{shape_of}
use Rattle.dg_label.proofs.passes.lengthen.Goals as goal

pub loop-member-preserved : goal.loop-member-preserved
loop-member-preserved g c =
    let old = c.loop-member.invariant in
    let n = c.loop-member.member in
    let a = c.args.store.now in
    let b = c.loop-member.store in
    let d = c.lengthen_one.new.store in
    let change : ℕ → List ℕ → List ℕ → Type 0 = λ (q : ℕ). Extended (member_length 2 c.args.line.now) in
    let fails : ℕ → List ℕ → List ℕ → Type 0 = λ (q : ℕ). KeepsFront in
    let touches : TouchesBy g.R.Rack IsCallOrExtendBelow n (change n) b d = c.lengthen_one.ensures.touches in
    record {
      passes = passes_more g.R.Rack change n a b d old.passes touches;
      fallen = fallen_more g.R.Rack fails change n a b d old.passes touches old.fallen c.lengthen_one.ensures.fallen;
      uncalled = uncalled_more g.R.Rack c.args.label.now n a b d old.uncalled c.lengthen_one.ensures.uncalled;
      most = let first = old.most in let next = c.lengthen_one.ensures.most in omega (arith, first, next, short_more c.args.label.now n);
    }

pub loop-member-init : goal.loop-member-init
loop-member-init g c = record {
  passes = passes_none g.R.Rack (λ (q : ℕ). Extended (member_length 2 c.args.line.now)) c.args.store.now c.requires.sound;
  fallen = fallen_none g.R.Rack (λ (q : ℕ). KeepsFront) c.args.store.now;
  uncalled = λ q good long. uncalled_none g.R.Rack q c.args.store.now;
  most = omega arith;
}

pub returns-clause-whole : goal.returns-clause-whole
returns-clause-whole g c =
    let a = c.args.store.now in
    let b = ap (λ (sh : Shape). sh.b) c.shape.ensures in
    let end : c.loop-member.member ≡ 2 * (shape_of a).b = omega (arith, b) in
    whole_extended g.R.Rack a c.loop-member.store c.requires.sound c.args.line.now c.args.label.now c.requires.labeled
    (subst (λ (n : ℕ). PassesBy g.R.Rack IsCallOrExtendBelow n (λ (q : ℕ). Extended (member_length 2 c.args.line.now)) a c.loop-member.store) end c.loop-member.invariant.passes)

pub returns-clause-fronts : goal.returns-clause-fronts
returns-clause-fronts g c =
    let a = c.args.store.now in
    let b = ap (λ (sh : Shape). sh.b) c.shape.ensures in
    let end : c.loop-member.member ≡ 2 * (shape_of a).b = omega (arith, b) in
    extended_fronts g.R.Rack a c.loop-member.store (member_length 2 c.args.line.now) c.requires.sound
    (subst (λ (n : ℕ). PassesBy g.R.Rack IsCallOrExtendBelow n (λ (q : ℕ). Extended (member_length 2 c.args.line.now)) a c.loop-member.store) end c.loop-member.invariant.passes)
    c.loop-member.invariant.fallen

pub returns-clause-most : goal.returns-clause-most
returns-clause-most g c =
    let a = c.args.store.now in
    let b = ap (λ (sh : Shape). sh.b) c.shape.ensures in
    let end : c.loop-member.member ≡ 2 * (shape_of a).b = omega (arith, b) in
    subst (λ (n : ℕ). CallsAtMost g.R.Rack a c.loop-member.store (short_members c.args.label.now n)) end c.loop-member.invariant.most
