use Rattle.std.proofs.Common.{◌≡◌, ◌∙◌, ◌<◌, List, Bool, true, Option, Some, None, length, sym, ap, subst, arith}
use Rattle.std.proofs.lemmas.List.{with_items_is}
use Rattle.std.specs.Vec.{with_items}
use Rattle.dg_model.specs.Marks.{AreLeft, with_mark}
use Rattle.dg_infer.proofs.VolumeLaws.{length_mark}
use Rattle.dg_infer.proofs.WriteLaws.{marks_anew, marks_fewer, marks_touched, stands_marked}
use Rattle.dg_infer.specs.Inferences.{kept_in}
use Rattle.dg_infer.specs.Meanings.{KeptInference, StandsFor}
use Rattle.dg_infer.specs.Moves.{Follows, with_pending}
use Rattle.dg_infer.specs.declared.watches.Touch.{Touch}
use Rattle.dg_infer.proofs.inferences.Inference.mark.Goals as goal

pub returns-in-Some-clause-stands : goal.returns-in-Some-clause-stands
returns-in-Some-clause-stands c = λ w h.
    let old = kept_in c.self.inside in
    let count : c.self.inside.n ≡ c.args.self.now.n = ap (λ (k : KeptInference). k.n) c.self.view_is in
    let inside : c.args.block < length c.self.inside.pending.items = omega (arith, c.self.invariant.marks, c.requires.inside, count) in
    let size = c.move_pending.ensures.room ∙ ap length c.deref_mut.ensures.value in
    let pending = with_items_is c.self.inside.pending c.move_pending.new.marks (size ∙ sym (c.self.inside.pending.ok.0)) in
    let touched : c.args.moved.now ≡ Some c.in-Some.watch = sym c.moved.view_is ∙ c.in-Some.is in
    let follows : Follows old (Some c.in-Some.watch) w = subst (λ (o : Option (List Touch)). Follows old o w) touched (subst (λ (k : KeptInference). Follows k c.args.moved.now w) (sym c.self.view_is) h) in
    let are = marks_touched old c.in-Some.watch w c.move_pending.new.marks c.args.block c.is_system-own.result inside c.is_system-own.ensures (rw c.deref_mut.ensures.value at c.move_pending.ensures.marks) follows in
    subst (λ (xs : List Bool). StandsFor (with_pending old xs) w) (sym pending) (stands_marked old (Some c.in-Some.watch) w c.move_pending.new.marks c.args.block follows are)

pub returns-in-Some-clause-pending : goal.returns-in-Some-clause-pending
returns-in-Some-clause-pending c = λ w.
    let old = kept_in c.self.inside in
    let count : c.self.inside.n ≡ c.args.self.now.n = ap (λ (k : KeptInference). k.n) c.self.view_is in
    let inside : c.args.block < length c.self.inside.pending.items = omega (arith, c.self.invariant.marks, c.requires.inside, count) in
    let size = c.move_pending.ensures.room ∙ ap length c.deref_mut.ensures.value in
    let pending = with_items_is c.self.inside.pending c.move_pending.new.marks (size ∙ sym (c.self.inside.pending.ok.0)) in
    let touched : c.args.moved.now ≡ Some c.in-Some.watch = sym c.moved.view_is ∙ c.in-Some.is in
    let Left : KeptInference → List Bool → Type 0 = λ k xs. AreLeft (Follows k c.args.moved.now w) k.l k.n w (with_mark k.pending c.args.block) xs in
    subst (λ (k : KeptInference). Left k (with_items c.self.inside.pending c.move_pending.new.marks).items) c.self.view_is (subst (λ (xs : List Bool). Left old xs) (sym pending) (record {
      size = size ∙ sym (length_mark c.self.inside.pending.items c.args.block true);
      fewer = marks_fewer c.self.inside.pending.items c.move_pending.new.marks c.args.block inside (rw c.deref_mut.ensures.value at c.move_pending.ensures.fewer);
      are = λ h.
          let follows : Follows old (Some c.in-Some.watch) w = subst (λ (o : Option (List Touch)). Follows old o w) touched h in
          marks_touched old c.in-Some.watch w c.move_pending.new.marks c.args.block c.is_system-own.result inside c.is_system-own.ensures (rw c.deref_mut.ensures.value at c.move_pending.ensures.marks) follows;
    }))

pub returns-in-None-clause-stands : goal.returns-in-None-clause-stands
returns-in-None-clause-stands c = λ w h.
    let old = kept_in c.self.inside in
    let size = c.mark_anew.ensures.room ∙ ap length c.deref_mut-in-None.ensures.value in
    let pending = with_items_is c.self.inside.pending c.mark_anew.new.marks (size ∙ sym (c.self.inside.pending.ok.0)) in
    let touched : c.args.moved.now ≡ None = sym c.moved.view_is ∙ c.in-None.is in
    let follows : Follows old None w = subst (λ (o : Option (List Touch)). Follows old o w) touched (subst (λ (k : KeptInference). Follows k c.args.moved.now w) (sym c.self.view_is) h) in
    let are = marks_anew old w c.mark_anew.new.marks c.args.block (rw c.deref_mut-in-None.ensures.value at c.mark_anew.ensures.marks) follows in
    subst (λ (xs : List Bool). StandsFor (with_pending old xs) w) (sym pending) (stands_marked old None w c.mark_anew.new.marks c.args.block follows are)

pub returns-in-None-clause-pending : goal.returns-in-None-clause-pending
returns-in-None-clause-pending c = λ w.
    let old = kept_in c.self.inside in
    let size = c.mark_anew.ensures.room ∙ ap length c.deref_mut-in-None.ensures.value in
    let pending = with_items_is c.self.inside.pending c.mark_anew.new.marks (size ∙ sym (c.self.inside.pending.ok.0)) in
    let touched : c.args.moved.now ≡ None = sym c.moved.view_is ∙ c.in-None.is in
    let marks = rw c.deref_mut-in-None.ensures.value at c.mark_anew.ensures.marks in
    let Left : KeptInference → List Bool → Type 0 = λ k xs. AreLeft (Follows k c.args.moved.now w) k.l k.n w (with_mark k.pending c.args.block) xs in
    subst (λ (k : KeptInference). Left k (with_items c.self.inside.pending c.mark_anew.new.marks).items) c.self.view_is (subst (λ (xs : List Bool). Left old xs) (sym pending) (record {
      size = size ∙ sym (length_mark c.self.inside.pending.items c.args.block true);
      fewer = λ b t. ((marks b).0 t).0;
      are = λ h. marks_anew old w c.mark_anew.new.marks c.args.block marks (subst (λ (o : Option (List Touch)). Follows old o w) touched h);
    }))
