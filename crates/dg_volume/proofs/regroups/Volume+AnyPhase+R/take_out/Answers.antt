use Rattle.std.proofs.Common.{◌≡◌, ◌∙◌, ◌&&◌, Bool, List, ap, length, not, refl, subst, arith}
use Rattle.dg_model.specs.Marks.{is_marked}
use Rattle.dg_model.specs.declared.shapes.Shape.{Shape}
use Rattle.dg_io.specs.Reduced.{places_left}
use Rattle.dg_label.specs.Lefts.{KeepsLeft}
use Rattle.dg_store.specs.Reduced.{left_in}
use Rattle.dg_store.specs.Stores.{lost_bits, members_of, shape_of}
use Rattle.dg_volume.proofs.LeftLists.{marked_is, unmarked_is}
use Rattle.dg_volume.specs.Regroups.{gone_of}
use Rattle.dg_volume.specs.Volumes.{any_phase, cut_of, marks_of}
use Rattle.dg_volume.proofs.regroups.Volume+AnyPhase+R.take_out.Goals as goal

pub returns-clause-out : goal.returns-clause-out
returns-clause-out g c =
    let a = c.args.self.now in
    let well = c.requires.well in
    let left = c.requires.left in
    let gone = gone_of a in
    let marks = c.take_marks.ensures.marks in
    let unmark = c.unmark_gone.ensures in
    let mark = c.mark_gone.ensures in
    let places : places_left c.lost.result c.shape.result.now.b ≡ left_in a.store =
    ap (λ n. places_left n c.shape.result.now.b) c.lost.ensures ∙ ap (λ (s : Shape). places_left (lost_bits (members_of a.store) (shape_of a.store).b) s.b) c.shape.ensures ∙ c.bits_leave_the_live.ensures in record {
      array = c.reduce.ensures;
      bits = c.bits_leave_the_live.ensures;
      phase_is = c.take_marks.ensures.phase;
      kept_is = c.take_marks.ensures.kept;
      pending_is =
          unmarked_is gone (marks_of any_phase a) c.unmark_gone.new.marks.items (unmark.size ∙ ap length marks)
          (λ b low. unmark.marked b (omega (arith, low, well.marks)) ∙ ap (λ (xs : List Bool). is_marked xs b && not (gone b)) marks);
      boundaries_are = refl;
      long_is = refl;
      live_is = left.live_is;
      cut_is = marked_is gone (cut_of a) c.mark_gone.new.marks.items mark.size (λ b low. mark.marked b (omega (arith, low, well.in_use.marks)));
      homes_are = left.homes_are;
      copies_are = c.new-copies.ensures ∙ c.new.ensures.items;
      levels_are = refl;
      given_is = refl;
      label_is = subst (λ xs. KeepsLeft xs a.label c.keep_left.new.label) places c.keep_left.ensures;
    }

pub unmark_gone-requires-clause-size : goal.unmark_gone-requires-clause-size
unmark_gone-requires-clause-size g c = ap length c.take_marks.ensures.marks ∙ c.requires.well.marks

pub keep_left-requires : goal.keep_left-requires
keep_left-requires g c =
    let b = ap (λ (s : Shape). s.b) c.shape.ensures in
    let shape = c.requires.well.array.table.shape in
    let most = shape.most_boundaries in
    omega (arith, b, most)
