-- A volume makes a step by a refill of a member.
use Rattle.std.proofs.Common.{◌≡◌, ◌∙◌, ◌<◌, ◌≤◌, ◌+◌, ◌/◌, ◌++◌, ◌⊎◌, ℕ, Bool, true, false, List, [], length, inl, inr, refl, sym, ap, subst, arith}
use Rattle.std.specs.Prelude.{◌↔◌, Err, IfOk, IfSome, IsSome, OnErr, Ok, Option, Result, Some, if◌then◌else◌, replicate}
use Rattle.std.proofs.lemmas.Bool.{cases_eq, false≢true}
use Rattle.std.proofs.lemmas.List.{length-replicate}
use Rattle.dg_infer.specs.Meanings as inferences
use Rattle.dg_infer.specs.Wants.{IsWantBy}
use Rattle.dg_io.specs.declared.outside.Rack.{Ghosts}
use Rattle.dg_label.specs.Seals.{KeepsArray}
use Rattle.dg_label.specs.declared.labels.KeptLabel.{KeptLabel}
use Rattle.dg_model.proofs.MemberLaws.{good_was, rose_before}
use Rattle.dg_model.specs.Causes.{Rose}
use Rattle.dg_model.specs.Blocks.{block_in, zeros}
use Rattle.dg_model.specs.Changes.{BreaksOff, MayReap, PassesSlots, Rebuilds, SparesAll, refilled_to}
use Rattle.dg_model.specs.Marks.{IsDead, is_marked}
use Rattle.dg_model.specs.Members.{HasFallen, IsRefilled, is_filling, is_good, is_lost}
use Rattle.dg_model.specs.Refills.{Reaps}
use Rattle.dg_model.specs.Saves.{AreHomes}
use Rattle.dg_model.specs.Sites.{has_site}
use Rattle.dg_model.specs.States.{State, has_lost, is_broken}
use Rattle.dg_model.specs.Steps.{Step}
use Rattle.dg_model.specs.Tables.{Table, sites_in}
use Rattle.dg_model.specs.Wants.{AreWants, want_of}
use Rattle.dg_model.specs.declared.events.Event.{Event}
use Rattle.dg_model.specs.declared.events.Event.TheVariants.{Rebuild}
use Rattle.dg_model.specs.declared.homes.Home.{Home}
use Rattle.dg_model.specs.declared.members.MemberState.{MemberState}
use Rattle.dg_model.specs.declared.members.MemberState.TheVariants.{Filling, Out}
use Rattle.dg_model.specs.declared.phases.Phase.TheVariants.{Worn as WornPhase}
use Rattle.dg_model.specs.declared.replies.Reply.{Reply}
use Rattle.dg_model.specs.declared.replies.Reply.TheVariants.{Copied as CopiedReply, Failed as FailedReply, Lost as LostReply, NotFilling as NotFillingReply}
use Rattle.dg_model.specs.declared.shapes.Shape.{Shape}
use Rattle.dg_model.specs.declared.sites.Site.{Site}
use Rattle.dg_model.specs.declared.wants.Want.TheVariants.{Stray}
use Rattle.dg_rebuild.specs.Answers as answers
use Rattle.dg_rebuild.specs.Passed.{IsLeftAt, Passed}
use Rattle.dg_rebuild.specs.Reaped.{AreMarkedBetween, is_among, zeroed}
use Rattle.dg_rebuild.specs.declared.rebuilds.RebuildAnswer.{RebuildAnswer}
use Rattle.dg_rebuild.specs.declared.rebuilds.RebuildAnswer.TheVariants.{Copied, Failed, Lost, NotFilling}
use Rattle.dg_store.specs.Leaves as arrays
use Rattle.dg_store.specs.Stores.{IsSound}
use Rattle.dg_store.specs.Stores as stores
use Rattle.dg_store.specs.declared.store.Store.{Store}
use Rattle.dg_volume.proofs.FaultLaws.{array_outs, array_tells, behind_outs, behind_tells, falls_out, passed_outs, passed_tells}
use Rattle.dg_volume.proofs.LabelLaws.{CallsOnSlots, relabels_then, slots_fell}
use Rattle.dg_volume.proofs.LooseLaws.{LooseBlocksChange, reaped_differ}
use Rattle.dg_volume.proofs.ReapLaws.{are_without, by_without, fit_without, placed_without, without}
use Rattle.dg_volume.proofs.RebuildMarks.{both_out, by_loss, copied_not_lost, dead_mark, failed_not_lost, if_some, mark_dead, mark_free, none_passed, reaped_stands, stands_has, stray_at}
use Rattle.dg_volume.proofs.RefillBehind.{HasSlots, falls_behind, filling_was, live_before, lost_behind, others_behind, slots_behind}
use Rattle.dg_volume.proofs.RefillLaws.{filling_live, left_outs, lost_none_filling, lost_where_left}
use Rattle.dg_volume.proofs.UseLaws.{HasPlace, IsUnused, fits_as, long_on, lost_in, lost_of, place_on, unused_lost}
use Rattle.dg_volume.proofs.VolumeLaws.{IsBeside, Keeps, Labels, StepsAt, holds_on, kept_state, label_by, labeled_by, leaves, line_same, lost_on, on_label, quiet_in, still_in, under_by}
use Rattle.dg_volume.proofs.VolumeSteps.{false_of}
use Rattle.dg_volume.specs.Origins.{Origin, WasHeld}
use Rattle.dg_volume.specs.Faults.{OutsStay, TellsFaults}
use Rattle.dg_volume.specs.Phases.{CanReapAll}
use Rattle.dg_volume.specs.Seals.{Relabels}
use Rattle.dg_volume.specs.Refills.{AreReapMarks, AreReaped, HasFilling, IsDeadMark, SparesFiles, rebuild_reply, rebuilt_at, told_of}
use Rattle.dg_volume.specs.Volumes.{FitsArray, HasLabel, IsInPlace, IsWell, Known, Leaves, StandsFor, StandsIn, StandsUnder, StepsSized, Tells, line_of, marks_by, marks_of, members_of, rack_of, shape_of, state_of, table_of}
use Rattle.dg_volume.specs.declared.in_use.InUse.{InUse}
use Rattle.dg_volume.specs.declared.phases.InPhase as phases
use Rattle.dg_volume.specs.declared.refills.RebuildAnswer as rebuilds
use Rattle.dg_volume.specs.declared.refills.RebuildAnswer.TheVariants.{Failed as RebuildFailed, Lost as RebuildLost}
use Rattle.dg_volume.specs.declared.volumes.Volume.{Volume}

-- what is left of the sites of a block that has none
bare_left : (reaped : Bool) (sites : List Site) → has_site sites ≡ false → has_site (if reaped then [] else sites) ≡ false
bare_left true sites none = refl
bare_left false sites none = none

module _ {S R : Type 0} (phase : phases.Ghosts S) (rack : Ghosts R) where
  -- ---- behind the opening of the seal

  -- the marks of blocks that may be reaped, by the table that stood before the opening
  pub record HasMarks (a : Volume S R) (m : Store R) (marks : List Bool) : Type 0 where
    pub none : (has_lost (stores.shape_of m) (stores.members_of m) ≡ true) ⊎ (phase.phase a.phase ≡ WornPhase) → (b : ℕ) → is_marked marks b ≡ false
    pub some : ((has_lost (stores.shape_of m) (stores.members_of m) ≡ true) ⊎ (phase.phase a.phase ≡ WornPhase) → ⊥) → IsSome (phase.kept a.phase)
    pub known : (b : ℕ) → is_marked marks b ≡ true → IsSome (phase.kept a.phase)
    pub each : IfSome (phase.kept a.phase) (λ inference. ((has_lost (stores.shape_of m) (stores.members_of m) ≡ true) ⊎ (phase.phase a.phase ≡ WornPhase) → ⊥)
        → (b : ℕ) → IsDeadMark (table_of a) inference b (is_marked marks b))
    pub safe : IfSome (phase.kept a.phase) (λ inference. (b : ℕ) → is_marked marks b ≡ true → IsDeadMark (table_of a) inference b true)

  marks_behind : (a : Volume S R) (m : Store R) (marks : List Bool) → KeepsArray rack a.store m → AreReapMarks m (phase.phase a.phase) (phase.kept a.phase) marks → HasMarks a m marks
  marks_behind a m marks opening h = record {
    none = h.none;
    some = h.some;
    known = h.known;
    each = if_some (phase.kept a.phase) (λ inference each live b. subst (λ (t : Table). IsDeadMark t inference b (is_marked marks b)) opening.table (let all = each live in all.each b)) h.each;
    safe = if_some (phase.kept a.phase) (λ inference safe b marked. subst (λ (t : Table). IsDeadMark t inference b true) opening.table (safe b marked)) h.safe;
  }

  -- ---- what is left

  -- slots were passed, and marked blocks in them reaped
  pub record HasPassed (a : Volume S R) (m : Store R) (marks : List Bool) (s : ℕ) (reaped : List ℕ) (b : Volume S R) : Type 0 where
    pub low : ℕ
    pub high : ℕ
    pub before : List ℕ
    pub none : before ≡ []
    pub slots : HasSlots rack marks s low high before reaped a.store b.store
    pub faults : TellsFaults rack a.store b.store
    pub outs : OutsStay rack a.store b.store
    pub lost : has_lost (shape_of a) (stores.members_of m) ≡ true → has_lost (shape_of a) (members_of b) ≡ true

  -- what the array's call left
  pub record CallsRebuild {E : Type 0} (m : Store R) (s n : ℕ) (marks : List Bool) (before after : List ℕ) (result : Result RebuildAnswer E) (c : Store R) : Type 0 where
    pub sound : IsSound rack c
    pub left : arrays.Stays rack m c
    pub lost : IfOk result (λ answer. (answer ≡ Lost s) ↔ (is_lost (stores.members_of c) s ≡ true))
    pub other : IfOk result (λ answer. (t : ℕ) → answer ≡ Lost t → t ≡ s)
    pub not_filling : IfOk result (λ answer. (answer ≡ NotFilling) ↔ (answers.HasNoFilling (stores.members_of m) s × (is_lost (stores.members_of c) s ≡ false)))
    pub quiet : IfOk result (λ answer. answers.HasNoFilling (stores.members_of m) s → (c ≡ m) × (after ≡ before))
    pub copied : IfOk result (λ answer. (d l : ℕ) → answer ≡ Copied d l → answers.HasCopied rack marks s n d l before after m c)
    pub failed : IfOk result (λ answer. answer ≡ Failed → answers.FillingFell rack s m c)
    pub broken : IfOk result (λ answer. (answer ≡ Failed) ⊎ (answer ≡ Lost s) → is_lost (stores.members_of m) s ≡ false → answers.HasBrokenOff rack marks s before after m c)
    pub err : OnErr result (answers.HasPaused rack marks s before after m c)

  -- and what is left of the volume, behind the opening of the seal
  pub record HasRebuilt {E : Type 0} (a : Volume S R) (m : Store R) (s n : ℕ) (marks : List Bool) (before after : List ℕ) (result : Result RebuildAnswer E) (b : Volume S R) : Type 0 where
    pub number : ℕ
    pub place : HasPlace a number s
    pub none : before ≡ []
    pub beside : IsBeside phase rack a b
    pub levels : b.levels.fragment ≡ a.levels.fragment
    pub opening : KeepsArray rack a.store m
    pub same : answers.HasNoFilling (stores.members_of m) s → (m ≡ a.store) × (b.label ≡ a.label)
    pub labels : Labels rack a b
    pub can : IfSome (phase.kept a.phase) (λ inference. CanReapAll inference after)
    pub marks_are : AreReapMarks m (phase.phase a.phase) (phase.kept a.phase) marks
    pub call : CallsRebuild m s n marks before after result b.store

  -- nothing was done, or slots were passed
  abbrev Outcome : Volume S R → Store R → List Bool → ℕ → List ℕ → Volume S R → Type 0
  Outcome a m marks s after b = (b.store ≡ m) ⊎ HasPassed a m marks s after b

  abbrev passed_copied : (a : Volume S R) (m : Store R) (s n d l : ℕ) (marks : List Bool) (before after : List ℕ) (b : Volume S R) → before ≡ [] → KeepsArray rack a.store m
      → answers.HasCopied rack marks s n d l before after m b.store → HasPassed a m marks s after b
  passed_copied a m s n d l marks before after b none opening h = record {
    before = before;
    none = none;
    low = h.low;
    high = h.high;
    slots = slots_behind rack marks s h.low h.high before after a.store m b.store opening h.slots;
    faults = behind_tells rack a.store m b.store opening (left_outs (stores.members_of m) (members_of b) s h.q h.low (refilled_to ((stores.shape_of m).k + 1) h.high) h.filling h.members)
        (passed_tells rack marks s h.low h.high before after m b.store h.slots);
    outs = behind_outs rack a.store m b.store opening (passed_outs rack marks s h.low h.high before after m b.store h.slots);
    lost = λ lost.
        lost_where_left (shape_of a) (stores.members_of m) (members_of b) s h.q h.low (refilled_to ((stores.shape_of m).k + 1) h.high) opening.sound.paired h.filling h.members lost;
  }

  abbrev passed_broken : (a : Volume S R) (m : Store R) (s : ℕ) (marks : List Bool) (before after : List ℕ) (b : Volume S R) → before ≡ [] → KeepsArray rack a.store m
      → answers.HasBrokenOff rack marks s before after m b.store → HasPassed a m marks s after b
  passed_broken a m s marks before after b none opening h = record {
    before = before;
    none = none;
    low = h.low;
    high = h.high;
    slots = slots_behind rack marks s h.low h.high before after a.store m b.store opening h.slots;
    faults = behind_tells rack a.store m b.store opening (falls_out (rack.counts (stores.rack_of m)).faults (rack.counts (rack_of b)).faults (stores.members_of m) (members_of b) h.members)
        (passed_tells rack marks s h.low h.high before after m b.store h.slots);
    outs = behind_outs rack a.store m b.store opening (passed_outs rack marks s h.low h.high before after m b.store h.slots);
    lost = λ lost.
        lost_on (shape_of a) (stores.members_of m) (members_of b)
        (λ q good. good_was (rack.counts (stores.rack_of m)).faults (rack.counts (rack_of b)).faults (stores.members_of m) (members_of b) q h.members good) lost;
  }

  abbrev passed_paused : (a : Volume S R) (m : Store R) (s : ℕ) (marks : List Bool) (before after : List ℕ) (b : Volume S R) → before ≡ [] → KeepsArray rack a.store m
      → answers.HasPaused rack marks s before after m b.store → HasPassed a m marks s after b
  passed_paused a m s marks before after b none opening h = record {
    before = before;
    none = none;
    low = h.low;
    high = h.high;
    slots = slots_behind rack marks s h.low h.high before after a.store m b.store opening h.came.slots;
    faults = behind_tells rack a.store m b.store opening (left_outs (stores.members_of m) (members_of b) s h.came.members.q h.low _ h.came.members.was h.came.members.left)
        (passed_tells rack marks s h.low h.high before after m b.store h.came.slots);
    outs = behind_outs rack a.store m b.store opening (passed_outs rack marks s h.low h.high before after m b.store h.came.slots);
    lost = λ lost.
        lost_where_left (shape_of a) (stores.members_of m) (members_of b) s h.came.members.q h.low _ opening.sound.paired h.came.members.was h.came.members.left lost;
  }

  outcome : {E : Type 0} (a : Volume S R) (m : Store R) (s n : ℕ) (marks : List Bool) (before after : List ℕ) (result : Result RebuildAnswer E) (b : Volume S R)
      → HasRebuilt a m s n marks before after result b → Outcome a m marks s after b
  outcome a m s n marks before after (Ok (Copied d l)) b h = inr (passed_copied a m s n d l marks before after b h.none h.opening (h.call.copied d l refl))
  outcome a m s n marks before after (Ok (Lost t)) b h = elim (by_loss rack m s (is_lost (stores.members_of m) s) refl h.opening.sound) [
    | inl none ↦ inl ((h.call.quiet none).0)
    | inr live ↦ inr (passed_broken a m s marks before after b h.none h.opening (h.call.broken (inr (ap Lost (h.call.other t refl))) live))
  ]
  outcome a m s n marks before after (Ok NotFilling) b h = inl ((h.call.quiet ((h.call.not_filling.0 refl).0)).0)
  outcome a m s n marks before after (Ok Failed) b h = elim (by_loss rack m s (is_lost (stores.members_of m) s) refl h.opening.sound) [
    | inl none ↦ inl ((h.call.quiet none).0)
    | inr live ↦ inr (passed_broken a m s marks before after b h.none h.opening (h.call.broken (inl refl) live))
  ]
  outcome a m s n marks before after (Err e) b h = inr (passed_paused a m s marks before after b h.none h.opening h.call.err)

  -- ---- the label

  -- one member was refilled on
  left_slots : (a : Volume S R) (m c : Store R) (marks : List Bool) (s low high q have : ℕ) (state : MemberState) (before after : List ℕ) → KeepsArray rack a.store m
      → Passed rack marks s low high before after m c → IsRefilled (stores.members_of m) s q have → IsLeftAt (stores.members_of m) (stores.members_of c) q state → CallsOnSlots rack a.store m c
  left_slots a m c marks s low high q have state before after opening passed filling left = record {
    shape = passed.stays.shape;
    rise = passed.stays.stays.rise.writes;
    back = λ p was good. elim (cases_eq p q) [
      | inl here ↦
          let old = filling_was rack a.store m s q have opening filling in
          absurd (false≢true (sym (ap (λ (x : ℕ). is_good (members_of a x)) here ∙ ap is_good old.1) ∙ was))
      | inr apart ↦ sym (ap is_good (left.others p apart)) ∙ good
    ];
    outs = λ p out. elim (cases_eq p q) [
      | inl here ↦ absurd (not_out (sym filling.1 ∙ sym (ap (stores.members_of m) here) ∙ out))
      | inr apart ↦ left.others p apart ∙ out
    ];
    fills = λ p fills. elim (cases_eq p q) [
      | inl here ↦ ap (λ (x : ℕ). is_filling (stores.members_of m x)) here ∙ ap is_filling filling.1
      | inr apart ↦ sym (ap is_filling (left.others p apart)) ∙ fills
    ];
    beside = passed.beside;
  }
    where
      not_out : Filling have ≡ Out → ⊥
      not_out e = cc e

  broken_slots : (a : Volume S R) (m c : Store R) (marks : List Bool) (s : ℕ) (before after : List ℕ) → answers.HasBrokenOff rack marks s before after m c → CallsOnSlots rack a.store m c
  broken_slots a m c marks s before after h =
      slots_fell rack a.store m c h.slots.stays h.members h.slots.beside

  rebuilt_by : {E : Type 0} (a : Volume S R) (m : Store R) (s n : ℕ) (marks : List Bool) (before after : List ℕ) (result : Result RebuildAnswer E) (c : Store R) → KeepsArray rack a.store m
      → CallsRebuild m s n marks before after result c → (c ≡ m) ⊎ CallsOnSlots rack a.store m c
  rebuilt_by a m s n marks before after (Ok (Copied d l)) c opening h =
      let k = h.copied d l refl in
      inr (left_slots a m c marks s k.low k.high k.q k.low (refilled_to ((stores.shape_of m).k + 1) k.high) before after opening k.slots k.filling k.members)
  rebuilt_by a m s n marks before after (Ok (Lost t)) c opening h = elim (by_loss rack m s (is_lost (stores.members_of m) s) refl opening.sound) [
    | inl none ↦ inl ((h.quiet none).0)
    | inr live ↦ inr (broken_slots a m c marks s before after (h.broken (inr (ap Lost (h.other t refl))) live))
  ]
  rebuilt_by a m s n marks before after (Ok NotFilling) c opening h = inl ((h.quiet ((h.not_filling.0 refl).0)).0)
  rebuilt_by a m s n marks before after (Ok Failed) c opening h = elim (by_loss rack m s (is_lost (stores.members_of m) s) refl opening.sound) [
    | inl none ↦ inl ((h.quiet none).0)
    | inr live ↦ inr (broken_slots a m c marks s before after (h.broken (inl refl) live))
  ]
  rebuilt_by a m s n marks before after (Err e) c opening h =
      let k = h.err in
      inr (left_slots a m c marks s k.low k.high k.came.members.q k.low (Filling k.high) before after opening k.came.slots k.came.members.was k.came.members.left)

  pub rebuilt_labels : {E : Type 0} (a : Volume S R) (m : Store R) (s n : ℕ) (marks : List Bool) (before after : List ℕ) (result : Result RebuildAnswer E) (c : Store R) (label : Option KeptLabel)
      → KeepsArray rack a.store m → CallsRebuild m s n marks before after result c → (first : Relabels rack (line_of a) a.store m a.label label)
      → (first.opens ≡ false → stores.rack_of c ≡ stores.rack_of m) → Relabels rack (line_of a) a.store c a.label label
  rebuilt_labels a m s n marks before after result c label opening h first still = elim (rebuilt_by a m s n marks before after result c opening h) [
    | inl same ↦ subst (λ (x : Store R). Relabels rack (line_of a) a.store x a.label label) (sym same) first
    | inr slots ↦ relabels_then rack (line_of a) a.store m c a.label label first slots (λ closed. ap (λ (r : R). (rack.counts r).writes) (still closed))
  ]

  -- where no member is refilled no call is made
  pub quiet_rack : {E : Type 0} (m : Store R) (s n : ℕ) (marks : List Bool) (before after : List ℕ) (result : Result RebuildAnswer E) (c : Store R) → CallsRebuild m s n marks before after result c
      → answers.HasNoFilling (stores.members_of m) s → stores.rack_of c ≡ stores.rack_of m
  quiet_rack m s n marks before after (Ok answer) c h none = ap (λ (x : Store R). stores.rack_of x) ((h.quiet none).0)
  quiet_rack m s n marks before after (Err e) c h none =
      let was = h.err.came.members.was in
      absurd (false≢true (sym (none h.err.came.members.q was.0) ∙ ap is_filling was.1))

  -- all but the array is well as it was
  pub record IsUsual (a : Volume S R) (m : Store R) (marks : List Bool) (after : List ℕ) (b : Volume S R) : Type 0 where
    pub well : IsWell phase rack a
    pub beside : IsBeside phase rack a b
    pub levels : b.levels.fragment ≡ a.levels.fragment
    pub opening : KeepsArray rack a.store m
    pub labels : Labels rack a b
    pub can : IfSome (phase.kept a.phase) (λ inference. CanReapAll inference after)
    pub marks_are : HasMarks a m marks

  module _ (a : Volume S R) (m : Store R) (marks : List Bool) (s : ℕ) (reaped : List ℕ) (b : Volume S R) (h : IsUsual a m marks reaped b) (passed : HasPassed a m marks s reaped b) where
    same_shape : shape_of b ≡ shape_of a
    same_shape = passed.slots.stays.shape

    joined : reaped ≡ passed.slots.reaped
    joined = passed.slots.joined ∙ ap (λ (xs : List ℕ). xs ++ passed.slots.reaped) passed.none

    are : AreMarkedBetween (table_of a) marks s passed.low passed.high reaped
    are = subst (λ (xs : List ℕ). AreMarkedBetween (table_of a) marks s passed.low passed.high xs) (sym joined) passed.slots.marked

    marked : (c : ℕ) → is_among reaped c ≡ true → is_marked marks c ≡ true
    marked c among = let each = are.each c in (each.0 among).0

    written : (c : ℕ) → is_among reaped c ≡ true → has_site (sites_in (table_of a) c) ≡ true
    written c among =
        let each = are.each c in
        let between = (each.0 among).1 in
        stands_has (sites_in (table_of a) c) _ between.stands

    -- of a list of blocks of any values
    reaps : (V : List (List ℕ)) → length V ≡ (shape_of a).n → Reaps (table_of a) V s passed.low passed.high (is_among reaped) (table_of b) (zeroed (shape_of a).l reaped V)
    reaps V size =
        subst (λ (xs : List ℕ). Reaps (table_of a) V s passed.low passed.high (is_among xs) (table_of b) (zeroed (shape_of a).l xs V)) (sym joined) (passed.slots.reaps V size)

    sites : (c : ℕ) → sites_in (table_of b) c ≡ (if is_among reaped c then [] else sites_in (table_of a) c)
    sites c = let some = reaps (replicate (shape_of a).n []) (length-replicate (shape_of a).n []) in some.sites c

    in_place : IsInPlace (table_of a) (phase.kept a.phase) a.homes a.copies → IsInPlace (table_of b) (phase.kept b.phase) b.homes b.copies
    in_place placed =
        let wants = placed.wants in
        let strays : (c : ℕ) → is_among reaped c ≡ true → want_of wants c ≡ Some Stray =
        λ c among. stray_at a.store (phase.kept a.phase) marks wants placed.fit h.marks_are.known h.marks_are.safe placed.by c (marked c among) (written c among) in
        let now : IsInPlace (table_of b) (phase.kept a.phase) a.homes a.copies = record {
          wants = without reaped wants;
          fit = fit_without (table_of a) (table_of b) reaped wants same_shape sites strays placed.fit;
          placed = placed_without (table_of a) (table_of b) reaped wants same_shape sites strays a.homes a.copies placed.placed;
          are = λ V. if_some (phase.kept a.phase) (λ inference right held.
              subst (λ (x : Shape). AreWants x.l x.n V (without reaped wants)) (sym same_shape)
              (are_without (table_of a) (table_of b) reaped wants same_shape sites strays (shape_of a).l (shape_of a).n V (right held))) (placed.are V);
          by = if_some (phase.kept a.phase) (λ inference by. by_without (table_of a) (table_of b) reaped wants same_shape sites strays (IsWantBy inference) by) placed.by;
        } in
        let by_phase = subst (λ (p : S). IsInPlace (table_of b) (phase.kept p) a.homes a.copies) (sym h.beside.phase_is) now in
        let by_homes = subst (λ (x : List Home). IsInPlace (table_of b) (phase.kept b.phase) x a.copies) (sym h.beside.homes) by_phase in
        subst (λ (x : List Home). IsInPlace (table_of b) (phase.kept b.phase) b.homes x) (sym h.beside.copies) by_homes

    same_marks : marks_of phase b ≡ marks_of phase a
    same_marks i = marks_by (phase.kept (h.beside.phase_is i)) ((h.beside.pending i).items)

    well_passed : IsWell phase rack b
    well_passed =
        let well = h.well in
        let fits = subst (λ (x : Shape). IfSome (phase.kept a.phase) (FitsArray x)) (sym same_shape) well.inferred in
        let homes = subst (λ (x : Shape). AreHomes x a.homes) (sym same_shape) well.homes_are in
        let copies = subst (λ (x : Shape). AreHomes x a.copies) (sym same_shape) well.copies_are in
        record {
          array = passed.slots.sound;
          levels = h.levels ∙ well.levels ∙ sym (ap (λ (x : Shape). x.l) same_shape);
          marks = ap length same_marks ∙ well.marks ∙ sym (ap (λ (x : Shape). x.n) same_shape);
          inferred = subst (λ (p : S). IfSome (phase.kept p) (FitsArray (shape_of b))) (sym h.beside.phase_is) fits;
          labeled = labeled_by rack a b (line_same a b (ap (λ (u : InUse). u.long) h.beside.in_use) same_shape) h.labels well.labeled;
          in_use = fits_as a b h.beside.in_use same_shape (λ c none. subst (λ (xs : List Site). has_site xs ≡ false) (sym (sites c)) (bare_left (is_among reaped c) (sites_in (table_of a) c) none)) well.in_use;
          long = long_on a b h.beside.in_use well.long;
          homes_are = subst (λ (x : List Home). AreHomes (shape_of b) x) (sym h.beside.homes) homes;
          few_homes =
              subst (λ (x : List Home). length x ≤ (shape_of b).n) (sym h.beside.homes)
              (subst (λ (x : Shape). length a.homes ≤ x.n) (sym same_shape) well.few_homes);
          copies_are = subst (λ (x : List Home). AreHomes (shape_of b) x) (sym h.beside.copies) copies;
          uncopied = λ unsettled. h.beside.copies ∙ well.uncopied (λ settled. unsettled (ap phase.phase h.beside.phase_is ∙ settled));
          worn = λ worn.
              let lost = passed.lost (lost_behind rack a.store m h.opening (well.worn (ap phase.phase (sym h.beside.phase_is) ∙ worn))) in
              ap (λ (x : Shape). has_lost x (members_of b)) same_shape ∙ lost;
          settled = λ settled. in_place (well.settled (ap phase.phase (sym h.beside.phase_is) ∙ settled));
        }

    leaves_passed : Leaves phase phase rack a b
    leaves_passed = record { well = well_passed; shape = same_shape; boundaries = ap (λ (u : InUse). u.boundaries) h.beside.in_use; live = ap (λ (u : InUse). u.live.items) h.beside.in_use; line = line_same a b (ap (λ (u : InUse). u.long) h.beside.in_use) same_shape; rise = passed.slots.stays.stays.rise; tells = passed.slots.stays.stays.tells; told_before = passed.slots.stays.stays.told_before; own = passed.slots.stays.own; same_rack = passed.slots.stays.stays.same_rack }

    told_before : {P : Type 0} → Known P rack b → Known P rack a
    told_before known = (λ q below. passed.slots.stays.stays.told_before q (known.0 q (subst (λ (x : Shape). q / 2 < x.b) (sym same_shape) below)), known.1)

    -- ---- what it stands for

    stands_passed : (V : List (List ℕ)) → Tells rack b → StandsFor phase rack a V → StandsFor phase rack b (zeroed (shape_of a).l reaped V)
    stands_passed V told held = record {
      array = subst (λ (xs : List ℕ). stores.StandsFor rack b.store (zeroed (shape_of a).l xs V)) (sym joined) (passed.slots.stands told V held.array);
      inferred =
          subst (λ (p : S). IfSome (phase.kept p) (λ inference. inferences.StandsFor inference (zeroed (shape_of a).l reaped V))) (sym h.beside.phase_is)
          (reaped_stands (phase.kept a.phase) (table_of a) (shape_of a) refl marks reaped h.well.inferred h.marks_are.safe h.can marked V held.inferred);
    }

    dead_at : (V : List (List ℕ)) → StandsFor phase rack a V → (c : ℕ) → is_among reaped c ≡ true → IsDead (table_of a) V (marks_of phase a) c
    dead_at V held c among = mark_dead a.store (phase.kept a.phase) marks a.pending.items h.marks_are.known h.marks_are.safe V held.inferred c (marked c among)

    each_block : (V : List (List ℕ)) → StandsFor phase rack a V → (c : ℕ)
        → (block_in (zeroed (shape_of a).l reaped V) c ≡ block_in V c) ⊎ (IsDead (table_of a) V (marks_of phase a) c × (block_in (zeroed (shape_of a).l reaped V) c ≡ zeros (shape_of a).l))
    each_block V held c = let all = reaps V held.array.size in at_block c (is_among reaped c) refl (all.values c)
      where
        at_block : (c : ℕ) (x : Bool) → is_among reaped c ≡ x
            → block_in (zeroed (shape_of a).l reaped V) c ≡ (if is_among reaped c then zeros (shape_of a).l else block_in V c)
            → (block_in (zeroed (shape_of a).l reaped V) c ≡ block_in V c) ⊎ (IsDead (table_of a) V (marks_of phase a) c × (block_in (zeroed (shape_of a).l reaped V) c ≡ zeros (shape_of a).l))
        at_block c true is value = inr (dead_at V held c is, value ∙ ap (λ (y : Bool). if y then zeros (shape_of a).l else block_in V c) is)
        at_block c false is value = inl (value ∙ ap (λ (y : Bool). if y then zeros (shape_of a).l else block_in V c) is)

    spares_passed : LooseBlocksChange → (V : List (List ℕ)) → Tells rack b → StandsFor phase rack a V
        → (W : List (List ℕ)) × StandsFor phase rack b W × AreReaped (table_of a) (marks_of phase a) V W
    spares_passed law V told held =
        let all = reaps V held.array.size in (
          zeroed (shape_of a).l reaped V,
          stands_passed V told held,
          record {
            count = all.count;
            each = λ c. each_block V held c;
            files = reaped_differ (table_of a) (marks_of phase a) V law (zeroed (shape_of a).l reaped V) all.count (each_block V held);
          },
        )

    -- ---- states

    module _ {P : Type 0} (rest : State) (V : List (List ℕ)) (label : StandsUnder rack a rest.label) (size : length V ≡ (shape_of a).n) (holds : Known P rack a → StandsFor phase rack a V) where
      abbrev was : State
      was = state_of phase rack a rest V

      abbrev next : State
      next = state_of phase rack b (on_label a b h.labels.opens rest) (zeroed (shape_of a).l reaped V)

      next_in : StandsIn phase rack P b next
      next_in = record { is = refl; label = under_by rack a b (line_same a b (ap (λ (u : InUse). u.long) h.beside.in_use) same_shape) h.labels h.well.labeled rest.label label; holds = λ told. stands_passed V (told.0) (holds (told_before told)) }

      mid_shape : stores.shape_of m ≡ shape_of a
      mid_shape = h.opening.stays.shape

      broken_mid : has_lost (shape_of a) (members_of a) ≡ true → has_lost (stores.shape_of m) (stores.members_of m) ≡ true
      broken_mid lost = ap (λ (x : Shape). has_lost x (stores.members_of m)) mid_shape ∙ lost_behind rack a.store m h.opening lost

      broken_now : has_lost (stores.shape_of m) (stores.members_of m) ≡ true → has_lost (shape_of b) (members_of b) ≡ true
      broken_now lost =
          ap (λ (x : Shape). has_lost x (members_of b)) same_shape ∙ passed.lost (sym (ap (λ (x : Shape). has_lost x (stores.members_of m)) mid_shape) ∙ lost)

      -- where blocks may be reaped each dead one is marked
      marked_dead : Known P rack b → (SparesAll was → ⊥) → is_broken next ≡ false → (c : ℕ) → IsDead (table_of a) V (marks_of phase a) c → is_marked marks c ≡ true
      marked_dead told live unbroken c dead =
          let held = holds (told_before told) in
          let live_mid : (has_lost (stores.shape_of m) (stores.members_of m) ≡ true) ⊎ (phase.phase a.phase ≡ WornPhase) → ⊥ =
          λ why. elim why [ inl lost ↦ false≢true (sym unbroken ∙ broken_now lost) | inr worn ↦ live (inr worn) ] in
          dead_mark a.store (phase.kept a.phase) marks a.pending.items (h.marks_are.some live_mid)
          (if_some (phase.kept a.phase) (λ inference all. all live_mid) h.marks_are.each) V held.inferred c dead

      may_reap : MayReap (Known P rack b) was s passed.low passed.high (is_among reaped) next
      may_reap = record {
        none = λ spares c. at_test c (is_among reaped c) refl (elim spares [ inl lost ↦ inl (broken_mid lost) | inr worn ↦ inr worn ]);
        marks = λ c among. mark_free a.store (phase.kept a.phase) marks a.pending.items h.marks_are.known h.marks_are.safe c (marked c among);
        dead = λ told c among. dead_at V (holds (told_before told)) c among;
        all = λ told live unbroken c dead between. let each = are.each c in each.1 (marked_dead told live unbroken c dead, between);
      }
        where
          at_test : (c : ℕ) (x : Bool) → is_among reaped c ≡ x → (has_lost (stores.shape_of m) (stores.members_of m) ≡ true) ⊎ (phase.phase a.phase ≡ WornPhase) → is_among reaped c ≡ false
          at_test c true is spares = absurd (false≢true (sym (h.marks_are.none spares c) ∙ marked c is))
          at_test c false is spares = is

      passes : answers.IsUnmarkedAt (table_of a) marks s passed.high → PassesSlots (Known P rack b) was s passed.low passed.high next
      passes unmarked = record {
        reaped = is_among reaped;
        passes = record {
          counts = passed.slots.stays.stays.rise;
          label = label_by rack a b h.labels rest.label label;
          paired = passed.slots.sound.paired;
          faults = record { fell = passed.faults.fell; beyond = passed.faults.beyond };
        };
        out = passed.outs;
        kept = λ told live unbroken c stands dead. false≢true (sym (unmarked c stands) ∙ marked_dead told live unbroken c dead);
        reaps = reaps V size;
        may = may_reap;
        rest = λ i. record (on_label a b h.labels.opens rest) {
          boundaries = (h.beside.in_use i).boundaries;
          live = (h.beside.in_use i).live.items;
          cut = (h.beside.in_use i).cut.items;
          table = table_of b;
          blocks = zeroed (shape_of a).l reaped V;
          pending = same_marks i;
          homes = h.beside.homes i;
          copies = h.beside.copies i;
          phase = phase.phase (h.beside.phase_is i);
          members = members_of b;
          counts = rack.counts (rack_of b);
        };
      }

  -- ---- steps

  -- a step of each state that has a block for each of the array's
  sized : (a b : Volume S R) (event : Event) (reply : Reply)
      → ((origin : Origin R) (rest : State) (V : List (List ℕ)) → StandsUnder rack a rest.label → length V ≡ (shape_of a).n
      → (Known (WasHeld rack origin) rack a → StandsFor phase rack a V) → StepsAt phase rack (WasHeld rack origin) (λ recent. recent) a rest V event reply b)
      → StepsSized phase phase rack a event reply b
  sized a b event reply go origin state st size =
      subst (λ (s : State). (next : State) × StandsIn phase rack (WasHeld rack origin) b next × Step (Known (WasHeld rack origin) rack b) s event reply next × (next.recent ≡ s.recent)) (sym st.is)
      (go origin state state.blocks st.label size st.holds)

  -- nothing was done
  quiet_state : (a b : Volume S R) → IsBeside phase rack a b → b.store ≡ a.store → (rest : State) (V : List (List ℕ)) → state_of phase rack b rest V ≡ state_of phase rack a rest V
  quiet_state a b beside same rest V i = record rest {
    boundaries = (beside.in_use i).boundaries;
    live = (beside.in_use i).live.items;
    cut = (beside.in_use i).cut.items;
    table = stores.table_of (same i);
    blocks = V;
    pending = marks_by (phase.kept (beside.phase_is i)) ((beside.pending i).items);
    homes = beside.homes i;
    copies = beside.copies i;
    phase = phase.phase (beside.phase_is i);
    members = stores.members_of (same i);
    counts = rack.counts (stores.rack_of (same i));
  }

  -- each block keeps its sites
  opened_keeps : (a : Volume S R) (m : Store R) (b : Volume S R) → HasLabel rack a → KeepsArray rack a.store m → Labels rack a b → IsBeside phase rack a b → b.levels.fragment ≡ a.levels.fragment → b.store ≡ m
      → Keeps phase rack a b
  opened_keeps a m b labeled opening labels beside levels same =
      let now : KeepsArray rack a.store b.store = subst (λ (x : Store R). KeepsArray rack a.store x) (sym same) opening in
      record {
        beside = beside;
        labeled = labeled;
        levels = levels;
        sound = now.sound;
        table = now.table;
        rise = now.stays.stays.rise;
        tells = now.stays.stays.tells;
        told_before = now.stays.stays.told_before;
        own = now.stays.own;
        same_rack = now.stays.stays.same_rack;
        back = λ q good. good_was (rack.counts (rack_of a)).faults (rack.counts (rack_of b)).faults (members_of a) (members_of b) q now.falls good;
        stands = now.stands;
        labels = labels;
        faults = array_tells rack a.store b.store now;
      }

  usual : {E : Type 0} (a : Volume S R) (m : Store R) (s n : ℕ) (marks : List Bool) (before after : List ℕ) (result : Result RebuildAnswer E) (b : Volume S R) → IsWell phase rack a
      → HasRebuilt a m s n marks before after result b → IsUsual a m marks after b
  usual a m s n marks before after result b well h = record {
    well = well;
    beside = h.beside;
    levels = h.levels;
    opening = h.opening;
    labels = h.labels;
    can = h.can;
    marks_are = marks_behind a m marks h.opening h.marks_are;
  }

  pub rebuild_leaves : {E : Type 0} (a : Volume S R) (m : Store R) (s n : ℕ) (marks : List Bool) (before after : List ℕ) (result : Result RebuildAnswer E) (b : Volume S R) → IsWell phase rack a
      → HasRebuilt a m s n marks before after result b → Leaves phase phase rack a b
  rebuild_leaves a m s n marks before after result b well h = elim (outcome a m s n marks before after result b h) [
    | inl same ↦ leaves phase rack a b well (opened_keeps a m b well.labeled h.opening h.labels h.beside h.levels same)
    | inr passed ↦ leaves_passed a m marks s after b (usual a m s n marks before after result b well h) passed
  ]

  still_spares : (law : LooseBlocksChange) (a b : Volume S R) → Keeps phase rack a b → SparesFiles phase rack a b
  still_spares law a b keeps V told held =
      (V, holds_on phase rack a b V keeps held, record { count = refl; each = λ c. inl refl; files = reaped_differ (table_of a) (marks_of phase a) V law V refl (λ c. inl refl) })

  pub rebuild_spares : {E : Type 0} (law : LooseBlocksChange) (a : Volume S R) (m : Store R) (s n : ℕ) (marks : List Bool) (before after : List ℕ) (result : Result RebuildAnswer E) (b : Volume S R) → IsWell phase rack a
      → HasRebuilt a m s n marks before after result b → SparesFiles phase rack a b
  rebuild_spares law a m s n marks before after result b well h V told held = elim (outcome a m s n marks before after result b h) [
    | inl same ↦ still_spares law a b (opened_keeps a m b well.labeled h.opening h.labels h.beside h.levels same) V told held
    | inr passed ↦ spares_passed a m marks s after b (usual a m s n marks before after result b well h) passed law V told held
  ]

  -- ---- where the opening of the seal took the member away

  -- the seal was opened, and that is all
  pub record HasOpened (a : Volume S R) (b : Volume S R) : Type 0 where
    pub labeled : HasLabel rack a
    pub beside : IsBeside phase rack a b
    pub levels : b.levels.fragment ≡ a.levels.fragment
    pub opening : KeepsArray rack a.store b.store
    pub labels : Labels rack a b

  keeps_opened : (a b : Volume S R) → HasOpened a b → Keeps phase rack a b
  keeps_opened a b h = opened_keeps a b.store b h.labeled h.opening h.labels h.beside h.levels refl

  pub opened_leaves : (a b : Volume S R) → IsWell phase rack a → HasOpened a b → Leaves phase phase rack a b
  opened_leaves a b well h = leaves phase rack a b well (keeps_opened a b h)

  pub opened_spares : (law : LooseBlocksChange) (a b : Volume S R) → HasOpened a b → SparesFiles phase rack a b
  opened_spares law a b h = still_spares law a b (keeps_opened a b h)

  breaks_at_once : {P : Type 0} → (a b : Volume S R) (s : ℕ) → IsSound rack a.store → (h : HasOpened a b) (rest : State) (V : List (List ℕ)) (label : StandsUnder rack a rest.label)
      → BreaksOff (Known P rack b) (state_of phase rack a rest V) s (kept_state phase rack a b (keeps_opened a b h) rest V)
  breaks_at_once a b s sound h rest V label =
      let keeps = keeps_opened a b h in
      let last = (shape_of a).k + 1 in
      record {
        low = last;
        high = last;
        at = inl refl;
        slots = record {
          reaped = λ c. false;
          passes = record {
            counts = h.opening.stays.stays.rise;
            label = label_by rack a b keeps.labels rest.label label;
            paired = h.opening.sound.paired;
            faults = record { fell = keeps.faults.fell; beyond = keeps.faults.beyond };
          };
          out = array_outs rack a.store b.store h.opening;
          kept = λ told live unbroken c stands dead. let low = sound.table.slots c s last stands in omega (arith, low);
          reaps = subst (λ (t : Table). Reaps (table_of a) V s last last (λ c. false) t V) (sym h.opening.table) (none_passed (table_of a) V s last (omega arith));
          may = record {
            none = λ spares c. refl;
            marks = λ c among. absurd (false≢true among);
            dead = λ told c among. absurd (false≢true among);
            all = λ told live unbroken c dead between. absurd (let early = between.before in let late = between.from in omega (arith, early, late));
          };
          rest = λ i. record (on_label a b keeps.labels.opens rest) {
            boundaries = (h.beside.in_use i).boundaries;
            live = (h.beside.in_use i).live.items;
            cut = (h.beside.in_use i).cut.items;
            table = table_of b;
            blocks = V;
            pending = marks_by (phase.kept (h.beside.phase_is i)) ((h.beside.pending i).items);
            homes = h.beside.homes i;
            copies = h.beside.copies i;
            phase = phase.phase (h.beside.phase_is i);
            members = members_of b;
            counts = rack.counts (rack_of b);
          };
        };
        members = h.opening.falls;
        begun = λ less. absurd (omega (arith, less));
      }

  -- the boundary is there still
  place_kept : (a b : Volume S R) (t s : ℕ) → Keeps phase rack a b → HasPlace a t s → HasPlace b t s
  place_kept a b t s keeps h = place_on a b t s keeps.beside.in_use (ap (λ (x : Table). x.shape) keeps.table) h

  -- the member was refilled, and isn't any more
  pub record HasLostFilling (a b : Volume S R) (s : ℕ) : Type 0 where
    pub number : ℕ
    pub place : HasPlace a number s
    pub sound : IsSound rack a.store
    pub was : HasFilling (members_of a) s
    pub none : answers.HasNoFilling (members_of b) s
    pub opened : HasOpened a b

  pub steps_gone : (a b : Volume S R) (s n : ℕ) → (h : HasLostFilling a b s) → is_lost (members_of b) s ≡ true → StepsSized phase phase rack a (Rebuild h.number n) (LostReply h.number) b
  steps_gone a b s n h lost = sized a b (Rebuild h.number n) (LostReply h.number) (λ origin rest V label size holds. (
    kept_state phase rack a b (keeps_opened a b h.opened) rest V,
    still_in phase rack a b rest V label (keeps_opened a b h.opened) holds,
    (
      h.place.number,
      refl,
      inr (
        λ was. filling_live (members_of a) s h.was.q h.was.have h.sound.paired h.was.refilled (lost_of a (members_of a) h.number s h.place was),
        lost_in b (members_of b) h.number s (place_kept a b h.number s (keeps_opened a b h.opened) h.place) lost,
        subst (λ (x : ℕ). BreaksOff (Known (WasHeld rack origin) rack b) (state_of phase rack a rest V) x (kept_state phase rack a b (keeps_opened a b h.opened) rest V))
            (sym h.place.is) (breaks_at_once a b s h.sound h.opened rest V label),
      ),
    ),
    refl,
  ))

  pub steps_fell : (a b : Volume S R) (s n : ℕ) → (h : HasLostFilling a b s) → is_lost (members_of b) s ≡ false → StepsSized phase phase rack a (Rebuild h.number n) FailedReply b
  steps_fell a b s n h live = sized a b (Rebuild h.number n) FailedReply (λ origin rest V label size holds. (
    kept_state phase rack a b (keeps_opened a b h.opened) rest V,
    still_in phase rack a b rest V label (keeps_opened a b h.opened) holds,
    (
      h.place.number,
      λ lost. false≢true (sym live ∙ lost_of b (members_of b) h.number s (place_kept a b h.number s (keeps_opened a b h.opened) h.place) lost),
      record { q = h.was.q; have = h.was.have; filling = (h.was.refilled.0 ∙ (sym h.place.is), h.was.refilled.1); out = fell.out; rose = rose },
      subst (λ (x : ℕ). BreaksOff (Known (WasHeld rack origin) rack b) (state_of phase rack a rest V) x (kept_state phase rack a b (keeps_opened a b h.opened) rest V))
          (sym h.place.is) (breaks_at_once a b s h.sound h.opened rest V label),
    ),
    refl,
  ))
    where
      fell : HasFallen (rack.counts (rack_of a)).faults (rack.counts (rack_of b)).faults (members_of a) (members_of b) h.was.q
      fell = elim (h.opened.opening.falls h.was.q) [
        | inl same ↦ absurd (false≢true (sym (h.none h.was.q h.was.refilled.0) ∙ ap is_filling (same ∙ h.was.refilled.1)))
        | inr gone ↦ gone
      ]

      rose : Rose ((rack.counts (rack_of a)).faults h.was.q) ((rack.counts (rack_of b)).faults h.was.q)
      rose = elim fell.caused [ inl up ↦ up | inr left ↦ absurd (both_out (members_of b) s h.was.q h.was.refilled.0 fell.out left.1 live) ]

  -- what the refill answers then
  pub steps_ended : (a b : Volume S R) (s n : ℕ) (answer : rebuilds.RebuildAnswer) → (h : HasLostFilling a b s) → (is_lost (members_of b) s ≡ true → answer ≡ RebuildLost s)
      → (is_lost (members_of b) s ≡ false → answer ≡ RebuildFailed) → StepsSized phase phase rack a (Rebuild h.number n) (rebuild_reply (rebuilt_at h.number answer)) b
  steps_ended a b s n answer h lost fell = by_loss_of (is_lost (members_of b) s) refl
    where
      by_loss_of : (x : Bool) → is_lost (members_of b) s ≡ x → StepsSized phase phase rack a (Rebuild h.number n) (rebuild_reply (rebuilt_at h.number answer)) b
      by_loss_of true is = subst (λ (r : rebuilds.RebuildAnswer). StepsSized phase phase rack a (Rebuild h.number n) (rebuild_reply (rebuilt_at h.number r)) b) (sym (lost is)) (steps_gone a b s n h is)
      by_loss_of false is = subst (λ (r : rebuilds.RebuildAnswer). StepsSized phase phase rack a (Rebuild h.number n) (rebuild_reply (rebuilt_at h.number r)) b) (sym (fell is)) (steps_fell a b s n h is)

  steps_copied : {E : Type 0} (a : Volume S R) (m : Store R) (s n d l : ℕ) (marks : List Bool) (before after : List ℕ) (b : Volume S R) → IsWell phase rack a
      → (h : HasRebuilt {E = E} a m s n marks before after (Ok (Copied d l)) b) → StepsSized phase phase rack a (Rebuild h.number n) (CopiedReply d l) b
  steps_copied a m s n d l marks before after b well h =
      let k = h.call.copied d l refl in
      let passed = passed_copied a m s n d l marks before after b h.none h.opening k in
      let all = usual a m s n marks before after (Ok (Copied d l)) b well h in
      sized a b (Rebuild h.number n) (CopiedReply d l) (λ origin rest V label size holds. (
        next a m marks s after b all passed rest V label size holds,
        next_in a m marks s after b all passed rest V label size holds,
        (
          h.place.number,
          λ lost. copied_not_lost d l s (sym (h.call.lost.1 (lost_of b (members_of b) h.number s (place_on a b h.number s h.beside.in_use (h.call.left.shape ∙ h.opening.stays.shape) h.place) lost))),
          subst (λ (x : ℕ). Rebuilds (Known (WasHeld rack origin) rack b) (state_of phase rack a rest V) x n d l (next a m marks s after b all passed rest V label size holds)) (sym h.place.is) (record {
            q = k.q;
            low = k.low;
            high = k.high;
            filling = filling_was rack a.store m s k.q k.low h.opening k.filling;
            refills = k.refills;
            slots = passes a m marks s after b all passed rest V label size holds (subst (λ (t : Table). answers.IsUnmarkedAt t marks s k.high) h.opening.table k.kept);
            member = k.members.member ∙ ap (λ (x : Shape). refilled_to (x.k + 1) k.high) h.opening.stays.shape;
            others = others_behind rack a.store m b.store k.q k.low (refilled_to ((stores.shape_of m).k + 1) k.high) h.opening h.call.left (k.filling.1) k.members;
          }),
        ),
        refl,
      ))

  breaks_off : {P : Type 0} → (a : Volume S R) (m : Store R) (s : ℕ) (marks : List Bool) (before after : List ℕ) (b : Volume S R) (none : before ≡ []) (all : IsUsual a m marks after b)
      (left : arrays.Stays rack m b.store) (k : answers.HasBrokenOff rack marks s before after m b.store)
      (rest : State) (V : List (List ℕ)) (label : StandsUnder rack a rest.label) (size : length V ≡ (shape_of a).n) (holds : Known P rack a → StandsFor phase rack a V)
      → BreaksOff (Known P rack b) (state_of phase rack a rest V) s (next a m marks s after b all (passed_broken a m s marks before after b none all.opening k) rest V label size holds)
  breaks_off a m s marks before after b none all left k rest V label size holds = record {
    low = k.low;
    high = k.high;
    at = inr k.at;
    slots = passes a m marks s after b all (passed_broken a m s marks before after b none all.opening k) rest V label size holds
        (subst (λ (t : Table). answers.IsUnmarkedAt t marks s k.high) all.opening.table k.kept);
    members = falls_behind rack a.store m b.store all.opening left k.members;
    begun = λ less. (k.q, filling_was rack a.store m s k.q k.low all.opening k.filling);
  }

  steps_lost : {E : Type 0} (a : Volume S R) (m : Store R) (s n t : ℕ) (marks : List Bool) (before after : List ℕ) (b : Volume S R) → IsWell phase rack a
      → (h : HasRebuilt {E = E} a m s n marks before after (Ok (Lost t)) b) → (lost : Bool) → is_lost (stores.members_of m) s ≡ lost → StepsSized phase phase rack a (Rebuild h.number n) (LostReply h.number) b
  steps_lost a m s n t marks before after b well h true is =
      let none = lost_none_filling (stores.members_of m) s h.opening.sound.paired is in
      let still = h.same none in
      let same : b.store ≡ a.store = (h.call.quiet none).0 ∙ still.0 in
      sized a b (Rebuild h.number n) (LostReply h.number) (λ origin rest V label size holds. (
        state_of phase rack b rest V,
        quiet_in phase rack a b rest V label (opened_keeps a m b well.labeled h.opening h.labels h.beside h.levels (h.call.quiet none).0) (ap (λ (x : Store R). stores.rack_of x) same) still.1
            (λ q out. ap (λ (x : Store R). stores.members_of x q) same ∙ out)
            (λ q fills. ap (λ (x : Store R). is_filling (stores.members_of x q)) (sym same) ∙ fills) holds,
        (h.place.number, refl, inl (lost_in a (members_of a) h.number s h.place (subst (λ (x : Store R). is_lost (stores.members_of x) s ≡ true) still.0 is), quiet_state a b h.beside same rest V)),
        refl,
      ))
  steps_lost a m s n t marks before after b well h false is =
      let e = h.call.other t refl in
      let k = h.call.broken (inr (ap Lost e)) is in
      let all = usual a m s n marks before after (Ok (Lost t)) b well h in
      sized a b (Rebuild h.number n) (LostReply h.number) (λ origin rest V label size holds. (
        next a m marks s after b all (passed_broken a m s marks before after b h.none all.opening k) rest V label size holds,
        next_in a m marks s after b all (passed_broken a m s marks before after b h.none all.opening k) rest V label size holds,
        (
          h.place.number,
          refl,
          inr (
            λ lost. live_before rack a.store m s h.opening is (lost_of a (members_of a) h.number s h.place lost),
            lost_in b (members_of b) h.number s (place_on a b h.number s h.beside.in_use (h.call.left.shape ∙ h.opening.stays.shape) h.place) (h.call.lost.0 (ap Lost e)),
            subst (λ (x : ℕ). BreaksOff (Known (WasHeld rack origin) rack b) (state_of phase rack a rest V) x (next a m marks s after b all (passed_broken a m s marks before after b h.none all.opening k) rest V label size holds))
                (sym h.place.is) (breaks_off a m s marks before after b h.none all h.call.left k rest V label size holds),
          ),
        ),
        refl,
      ))

  steps_not_filling : {E : Type 0} (a : Volume S R) (m : Store R) (s n : ℕ) (marks : List Bool) (before after : List ℕ) (b : Volume S R) → IsWell phase rack a
      → (h : HasRebuilt {E = E} a m s n marks before after (Ok NotFilling) b) → StepsSized phase phase rack a (Rebuild h.number n) NotFillingReply b
  steps_not_filling a m s n marks before after b well h =
      let k = h.call.not_filling.0 refl in
      let still = h.same k.0 in
      let same : b.store ≡ a.store = (h.call.quiet k.0).0 ∙ still.0 in
      sized a b (Rebuild h.number n) NotFillingReply (λ origin rest V label size holds. (
        state_of phase rack b rest V,
        quiet_in phase rack a b rest V label (opened_keeps a m b well.labeled h.opening h.labels h.beside h.levels (h.call.quiet k.0).0) (ap (λ (x : Store R). stores.rack_of x) same) still.1
            (λ q out. ap (λ (x : Store R). stores.members_of x q) same ∙ out)
            (λ q fills. ap (λ (x : Store R). is_filling (stores.members_of x q)) (sym same) ∙ fills) holds,
        (
          h.place.number,
          λ lost. false≢true (sym k.1 ∙ ap (λ (x : Store R). is_lost (stores.members_of x) s) same ∙ lost_of a (members_of a) h.number s h.place lost),
          subst (λ (x : ℕ). answers.HasNoFilling (members_of a) x) (sym h.place.is) (subst (λ (x : Store R). answers.HasNoFilling (stores.members_of x) s) still.0 k.0),
          quiet_state a b h.beside same rest V,
        ),
        refl,
      ))

  steps_failed : {E : Type 0} (a : Volume S R) (m : Store R) (s n : ℕ) (marks : List Bool) (before after : List ℕ) (b : Volume S R) → IsWell phase rack a
      → (h : HasRebuilt {E = E} a m s n marks before after (Ok Failed) b) → StepsSized phase phase rack a (Rebuild h.number n) FailedReply b
  steps_failed a m s n marks before after b well h =
      let fell = h.call.failed refl in
      let live : is_lost (stores.members_of m) s ≡ false =
      false_of (is_lost (stores.members_of m) s) (λ lost. filling_live (stores.members_of m) s fell.q fell.low h.opening.sound.paired fell.filling lost) in
      let k = h.call.broken (inl refl) live in
      let all = usual a m s n marks before after (Ok Failed) b well h in
      sized a b (Rebuild h.number n) FailedReply (λ origin rest V label size holds. (
        next a m marks s after b all (passed_broken a m s marks before after b h.none all.opening k) rest V label size holds,
        next_in a m marks s after b all (passed_broken a m s marks before after b h.none all.opening k) rest V label size holds,
        (
          h.place.number,
          λ lost. failed_not_lost s (sym (h.call.lost.1 (lost_of b (members_of b) h.number s (place_on a b h.number s h.beside.in_use (h.call.left.shape ∙ h.opening.stays.shape) h.place) lost))),
          record {
            q = fell.q;
            have = fell.low;
            filling = subst (λ (x : ℕ). IsRefilled (members_of a) x fell.q fell.low) (sym h.place.is) (filling_was rack a.store m s fell.q fell.low h.opening fell.filling);
            out = fell.out;
            rose = rose_before ((rack.counts (rack_of a)).faults fell.q) ((rack.counts (stores.rack_of m)).faults fell.q) ((rack.counts (rack_of b)).faults fell.q)
                (h.opening.stays.stays.rise.faults fell.q) fell.rose;
          },
          subst (λ (x : ℕ). BreaksOff (Known (WasHeld rack origin) rack b) (state_of phase rack a rest V) x (next a m marks s after b all (passed_broken a m s marks before after b h.none all.opening k) rest V label size holds))
              (sym h.place.is) (breaks_off a m s marks before after b h.none all h.call.left k rest V label size holds),
        ),
        refl,
      ))

  pub rebuild_steps : {E : Type 0} (a : Volume S R) (m : Store R) (s n : ℕ) (marks : List Bool) (before after : List ℕ) (result : Result RebuildAnswer E) (b : Volume S R) → IsWell phase rack a
      → (h : HasRebuilt a m s n marks before after result b) → IfOk (told_of h.number result) (λ answer. StepsSized phase phase rack a (Rebuild h.number n) (rebuild_reply answer) b)
  rebuild_steps a m s n marks before after (Ok (Copied d l)) b well h = steps_copied a m s n d l marks before after b well h
  rebuild_steps a m s n marks before after (Ok (Lost t)) b well h = steps_lost a m s n t marks before after b well h (is_lost (stores.members_of m) s) refl
  rebuild_steps a m s n marks before after (Ok NotFilling) b well h = steps_not_filling a m s n marks before after b well h
  rebuild_steps a m s n marks before after (Ok Failed) b well h = steps_failed a m s n marks before after b well h
  rebuild_steps a m s n marks before after (Err e) b well h = tt

  -- it isn't in use
  pub steps_unused : (a : Volume S R) (t n : ℕ) → IsWell phase rack a → IsUnused a t → StepsSized phase phase rack a (Rebuild t n) (LostReply t) a
  steps_unused a t n well unused = sized a a (Rebuild t n) (LostReply t) (λ origin rest V label size holds. (
    state_of phase rack a rest V,
    record { is = refl; label = label; holds = holds },
    (unused.number, refl, inl (unused_lost phase rack a t well unused, refl)),
    refl,
  ))
