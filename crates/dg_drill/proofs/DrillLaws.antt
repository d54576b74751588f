-- A drill, from the blank array to the last reading.
use Rattle.std.proofs.Common.{◌≡◌, ◌≢◌, ◌∙◌, ◌/◌, ◌<◌, ◌≤◌, ◌%◌, ℕ, zero, suc, List, [], ◌∷◌, refl, sym, ap, subst, arith}
use Rattle.std.specs.Prelude.{Option, cond, replicate}
use Rattle.std.proofs.lemmas.List.Sums.{sum_by-cons}
use Rattle.dg_drill.proofs.ChainLaws.{run_both, told_before}
use Rattle.dg_drill.specs.Calls.{Facts, rack_facts}
use Rattle.dg_drill.specs.Chains.{AreUnwritten, HasLost, HasReadAll, HasWritten}
use Rattle.dg_drill.specs.Drills.{EndsDrill, HasDrilled, OthersKept, TellsBoundaries, loss_events, read_events, written_count}
use Rattle.dg_drill.specs.Outcomes.{IsTally}
use Rattle.dg_drill.specs.Reports.{report_text}
use Rattle.dg_drill.specs.Volumes.{IsDrillVolume, drill_shape}
use Rattle.dg_drill.specs.declared.drills.DrillEnd.{DrillEnd}
use Rattle.dg_drill.specs.declared.drills.DrillEnd.TheVariants.{Done as DrillDone, WriteFault}
use Rattle.dg_io.specs.MadeLaws.{same_both}
use Rattle.dg_io.specs.Told.{Told, Took, TookPart}
use Rattle.dg_drill.specs.declared.reads.Tally.{Tally}
use Rattle.dg_io.specs.declared.outside.Rack.{Ghosts}
use Rattle.dg_model.proofs.FirstSites.{empty_rows}
use Rattle.dg_model.proofs.KnownLaws.{run_less, step_less}
use Rattle.dg_model.specs.Runs.{Run}
use Rattle.dg_model.specs.Sites.{has_site}
use Rattle.dg_model.specs.States.{State}
use Rattle.dg_model.specs.Tables.{Table, empty_table, sites_in}
use Rattle.dg_model.specs.declared.events.Event.{Event}
use Rattle.dg_model.specs.declared.events.Event.TheVariants.{Fail, Settle}
use Rattle.dg_model.specs.declared.replies.Reply.{Reply}
use Rattle.dg_model.specs.declared.replies.Reply.TheVariants.{Done}
use Rattle.dg_model.specs.declared.shapes.Shape.{Shape}
use Rattle.dg_model.specs.declared.sites.Site.{Site}
use Rattle.dg_trace.specs.Traces.{writes_of}
use Rattle.dg_volume.specs.Origins.{Always}
use Rattle.dg_volume.specs.Origins.Origin.{nothing}
use Rattle.dg_volume.specs.HeldLaws.{holds_all}
use Rattle.dg_volume.specs.Volumes.{IsBlankVolume, IsSame, Known, Leaves, StandsIn, StepsTo, any_phase, loose_phase, rack_of, shape_of}
use Rattle.dg_volume.specs.declared.phases.AnyPhase.{AnyPhase}
use Rattle.dg_volume.specs.declared.phases.Loose.{Loose}
use Rattle.dg_volume.specs.declared.volumes.Volume.{Volume}
use Rattle.dg_words.specs.declared.commands.Order.TheVariants.{Late}
use Rattle.ufs_build.specs.Traces.{trace_of}
use Rattle.ufs_model.specs.declared.geometries.Geometry.{Geometry}

-- ---- the blank array

none_written : (n : ℕ) → written_count (record { shape = drill_shape; rows = replicate n [] }) ≡ 0
none_written zero = refl
none_written (suc n) =
    let rest = none_written n in
    let cons = sum_by-cons (λ (sites : List Site). cond (has_site sites) 1 0) [] (replicate n []) in
    omega (arith, rest, cons)

blank_count : (state : State) → state.table ≡ empty_table drill_shape → written_count state.table ≡ 0
blank_count state is = ap written_count is ∙ none_written drill_shape.n

blank_unwritten : (state : State) (blocks : List ℕ) → state.table ≡ empty_table drill_shape → AreUnwritten state.table blocks
blank_unwritten state blocks is b there = ap (λ (t : Table). has_site (sites_in t b)) is ∙ ap has_site (empty_rows drill_shape.n b)

-- ---- the losses

module _ {R : Type 0} (rack : Ghosts R) where
  pub lost_both : (a b c : Volume AnyPhase R) (s : ℕ) (one other : Reply) → Leaves any_phase any_phase rack b c → StepsTo any_phase any_phase rack a (Fail s 0) one b
      → StepsTo any_phase any_phase rack b (Fail s 1) other c → (state : State) → StandsIn any_phase rack Always a state → HasLost rack state s c
  lost_both a b c s one other leaves first second state stands =
      let half = first nothing state stands in
      let whole = second nothing half.0 half.1 in
      record {
        losses = one ∷ other ∷ [];
        next = whole.0;
        led = record {
          stands = whole.1;
          run = (half.0, step_less (told_before rack b c leaves) state (Fail s 0) one half.0 half.2, (whole.0, whole.2, refl));
        };
        number = refl;
      }

-- ---- the whole chain

-- both members of a boundary fail
abbrev loss_at : ℕ → List Event
loss_at s = Fail s 0 ∷ Fail s 1 ∷ []

module _ {R : Type 0} (rack : Ghosts R) (before : R) (loose : Volume Loose R) (v0 v1 v2 v3 v4 : Volume AnyPhase R) (seed files s more : ℕ) (image : List ℕ) (g : Geometry)
    (settled : Reply) (tally : Tally) (text : List ℕ)
    (blank : IsBlankVolume rack drill_shape before loose) (same : IsSame loose_phase any_phase rack loose v0)
    (l1 : Leaves any_phase any_phase rack v0 v1) (l2 : Leaves any_phase any_phase rack v1 v2) (l3 : Leaves any_phase any_phase rack v2 v3) (l4 : Leaves any_phase any_phase rack v3 v4)
    (writes : (state : State) → StandsIn any_phase rack Always v0 state → AreUnwritten state.table (trace_of Late g image)
    → HasWritten rack state (writes_of g.fsize image (trace_of Late g image)) [] more v1)
    (settles : StepsTo any_phase any_phase rack v1 Settle settled v2)
    (loses : (state : State) → StandsIn any_phase rack Always v2 state → HasLost rack state s v3)
    (reads : (state : State) → StandsIn any_phase rack Always v3 state → HasReadAll rack seed state files tally v4)
    (text_is : (replies : List Reply) → IsTally seed replies tally → text ≡ report_text seed files more settled replies)
    (volume : IsDrillVolume seed files image g) (boundary : s ≡ seed % 4) (taken given : Option (List ℕ)) where
  table_is : blank.state.table ≡ empty_table drill_shape
  table_is = ap (λ (s : State). s.table) blank.blank.is

  written : HasWritten rack blank.state (writes_of g.fsize image (trace_of Late g image)) [] more v1
  written = writes blank.state (same.stands nothing blank.state blank.stands) (blank_unwritten blank.state (trace_of Late g image) table_is)

  lost : HasLost rack (settles nothing written.next written.led.stands).0 s v3
  lost = loses (settles nothing written.next written.led.stands).0 (settles nothing written.next written.led.stands).1

  read : HasReadAll rack seed lost.next files tally v4
  read = reads lost.next lost.led.stands

  shape_is : read.next.table.shape ≡ shape_of v4
  shape_is = ap (λ (s : State). s.table.shape) read.led.stands.is

  known4 : TellsBoundaries (rack.tells (rack_of v4)) read.next → Known Always rack v4
  known4 told = ((λ q below. told q (subst (λ (t : Shape). q / 2 < t.b) (sym shape_is) below)), tt)

  known3 : TellsBoundaries (rack.tells (rack_of v4)) read.next → Known Always rack v3
  known3 told = told_before rack v3 v4 l4 (known4 told)

  known2 : TellsBoundaries (rack.tells (rack_of v4)) read.next → Known Always rack v2
  known2 told = told_before rack v2 v3 l3 (known3 told)

  known1 : TellsBoundaries (rack.tells (rack_of v4)) read.next → Known Always rack v1
  known1 told = told_before rack v1 v2 l2 (known2 told)

  -- the members behind the array's own were left alone
  shape_then : (v w : Volume AnyPhase R) → Leaves any_phase any_phase rack v w → shape_of v ≡ drill_shape → shape_of w ≡ drill_shape
  shape_then v w leaves is = leaves.shape ∙ is

  others_then : (v w : Volume AnyPhase R) → Leaves any_phase any_phase rack v w → shape_of v ≡ drill_shape
      → OthersKept (rack.bytes before) (rack.bytes (rack_of v)) → OthersKept (rack.bytes before) (rack.bytes (rack_of w))
  others_then v w leaves is was q past = same_both _ _ _ (was q past) (leaves.own.other_bytes q (subst (λ (t : Shape). t.b ≤ q / 2) (sym is) past))

  others : OthersKept (rack.bytes before) (rack.bytes (rack_of v4))
  others =
      let shape0 : shape_of v0 ≡ drill_shape = same.leaves.shape ∙ blank.shape_is in
      let shape1 = shape_then v0 v1 l1 shape0 in
      let shape2 = shape_then v1 v2 l2 shape1 in
      let shape3 = shape_then v2 v3 l3 shape2 in
      let first : OthersKept (rack.bytes before) (rack.bytes (rack_of v0)) =
      λ q past. same_both _ _ _ (blank.own.other_bytes q past) (same.leaves.own.other_bytes q (subst (λ (t : Shape). t.b ≤ q / 2) (sym blank.shape_is) past)) in
      others_then v3 v4 l4 shape3 (others_then v2 v3 l3 shape2 (others_then v1 v2 l2 shape1 (others_then v0 v1 l1 shape0 first)))

  count_is : more ≡ written_count written.next.table
  count_is = let none = blank_count blank.state table_is in omega (arith, none, written.count)

  pub has_drilled : HasDrilled (rack.tells (rack_of v4)) (rack_facts rack before (rack_of v4) taken given) seed files text
  has_drilled =
      let K : Type 0 = TellsBoundaries (rack.tells (rack_of v4)) read.next in
      let step = settles nothing written.next written.led.stands in
      let fails = subst (λ (n : ℕ). Run K step.0 (loss_at n) lost.losses lost.next) boundary
      (run_less known3 step.0 (loss_at s) lost.losses lost.next lost.led.run) in
      record {
        image = image;
        geometry = g;
        volume = volume;
        written = written.next;
        final = read.next;
        writes = Done ∷ written.replies;
        settled = settled;
        losses = lost.losses;
        cats = read.replies;
        number = lost.number;
        led = (blank.state, blank.blank, run_less known1 blank.state (writes_of g.fsize image (trace_of Late g image)) written.replies written.next written.led.run);
        on = (
          step.0,
          step_less known2 written.next Settle settled step.0 step.2,
          run_both K step.0 lost.next read.next (loss_events seed) (read_events files) lost.losses read.replies fails
              (run_less known4 lost.next (read_events files) read.replies read.next read.led.run),
        );
        counts = ap (λ (s : State). s.counts) read.led.stands.is;
        holds = λ told. holds_all rack v4 any_phase read.next l4.well read.led.stands (known4 told);
        others = others;
        text_is = text_is read.replies read.tallied ∙ ap (λ (n : ℕ). report_text seed files n settled read.replies) count_is;
      }

-- ---- how it ends

-- by whether the text was printed whole
pub ends_drill : (tells : ℕ → Type 0) (facts : Facts) (seed files : ℕ) (end : DrillEnd) (text : List ℕ) → HasDrilled tells facts seed files text
    → (end ≢ WriteFault → Told (Took text) facts.taken facts.given) → (end ≡ WriteFault → Told (TookPart text) facts.taken facts.given)
    → EndsDrill tells facts seed files end
ends_drill tells facts seed files DrillDone text done told part = (text, done, told (λ e. cc e))
ends_drill tells facts seed files WriteFault text done told part = (text, done, part refl)
