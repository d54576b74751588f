-- A volume makes a step where it goes on without its lost boundaries.
use Rattle.std.proofs.Common.{◌≡◌, ◌∙◌, ◌<◌, ◌≤◌, ◌+◌, ◌*◌, ◌&&◌, ℕ, Bool, true, false, cond, filter, not, List, [], ◌∷◌, length, map, inl, inr, refl, sym, ap, subst, arith}
use Rattle.std.specs.Prelude.{IfSome, None, Option, Some}
use Rattle.std.specs.List.{range_with_len}
use Rattle.std.specs.Option.{option_map}
use Rattle.std.proofs.lemmas.Bool.{and_from, false≢true}
use Rattle.std.proofs.lemmas.List.FromFn.{length-map-range_with_len}
use Rattle.dg_infer.specs.Meanings.{KeptInference}
use Rattle.dg_infer.specs.Meanings as inferences
use Rattle.dg_io.specs.declared.outside.Rack.{Ghosts}
use Rattle.dg_label.specs.Labels.{IsKeptOf, IsLabeled, StandsLabeled, is_sealed, unsealed}
use Rattle.dg_label.specs.Lefts.{LabelsAreLeft, LabelsStandLeft}
use Rattle.dg_label.specs.Seals.{HasGood, HasNoGood, OpensSeal}
use Rattle.dg_label.specs.declared.labels.KeptLabel.{KeptLabel}
use Rattle.dg_model.proofs.MemberLaws.{good_was}
use Rattle.dg_model.specs.Changes.{Goes, phase_after}
use Rattle.dg_model.specs.Homes.{Ascend}
use Rattle.dg_model.specs.Lives.{boundary_at}
use Rattle.dg_model.specs.Marks.{AreNext, is_marked}
use Rattle.dg_model.specs.Members.{is_good, is_lost}
use Rattle.dg_model.specs.Openings.{FitsReduced, Reduced}
use Rattle.dg_model.specs.Regroups.{Regroups, homes_left, label_left, shape_left, table_left, without_lost}
use Rattle.dg_model.specs.Saves.{AreHomes}
use Rattle.dg_model.specs.Seals.{IsUnsealed, LastLabel, label_after}
use Rattle.dg_model.specs.States.{State, has_lost, is_broken}
use Rattle.dg_model.specs.Steps.{Step}
use Rattle.dg_model.specs.Tables.{IsTable, Table}
use Rattle.dg_model.specs.declared.events.Event.TheVariants.{Regroup}
use Rattle.dg_model.specs.declared.homes.Home.{Home}
use Rattle.dg_model.specs.declared.members.MemberState.{MemberState}
use Rattle.dg_model.specs.declared.phases.Phase.TheVariants.{Loose as LoosePhase, Settled as SettledPhase, Worn as WornPhase}
use Rattle.dg_model.specs.declared.replies.Reply.TheVariants.{Regrouped, TooFew, Whole}
use Rattle.dg_model.specs.declared.shapes.Shape.{Shape}
use Rattle.dg_regroup.specs.Cuts.{IsCutOver, IsTooFew}
use Rattle.dg_regroup.specs.declared.cut_overs.CutOver.{CutOver}
use Rattle.dg_store.specs.Reduced.{blocks_left, left_in}
use Rattle.dg_store.specs.Stores.{TellsAll}
use Rattle.dg_store.specs.Stores as stores
use Rattle.dg_store.specs.declared.store.Store.{Store}
use Rattle.dg_volume.proofs.BlankLaws.{no_homes}
use Rattle.dg_volume.proofs.FaultLaws.{array_outs, array_tells, keeps_outs, keeps_tells, stays_by}
use Rattle.dg_volume.proofs.LabelLaws.{keeps_label, labeled_kept, relabels_opened, relabels_read}
use Rattle.dg_volume.proofs.LeftLaws.{fits_left, homes_few, homes_fit, left_fewer}
use Rattle.dg_volume.proofs.MoveSteps.{loose_not_settled, loose_not_worn}
use Rattle.dg_volume.proofs.VolumeLaws.{IsBeside, Keeps, Labels, kept_state, leaves, leaves_none, line_kept, lost_on, on_label, read_state, reads_in, reads_stay, same_in, shape_kept, stays, steps_from, still_in, told_before, under_by}
use Rattle.dg_volume.proofs.VolumeSteps.{read_none}
use Rattle.dg_volume.specs.Left.{marked_too}
use Rattle.dg_volume.specs.Origins.{WasHeld}
use Rattle.dg_volume.specs.Phases.{kept_in, phase_in}
use Rattle.dg_volume.specs.Planned.{HasReadArray}
use Rattle.dg_volume.specs.Regroups.{AreRemains, GoesOn, HasTooFew, IsPhaseLeft, IsRegrouped, IsTakenOut, KeepsLeft, TakesOut, gone_count, gone_of, lost_count, told_in}
use Rattle.dg_volume.specs.Settles.{GoesBy}
use Rattle.dg_volume.specs.Volumes.{FitsArray, HasLabel, IsWell, Known, Leaves, StandsFor, StandsIn, StandsUnder, any_phase, cut_of, line_of, live_of, marks_by, marks_of, members_of, rack_of, reduced_of, shape_of, state_of, table_of}
use Rattle.dg_volume.specs.declared.in_use.InUse.{InUse}
use Rattle.dg_volume.specs.declared.phases.AnyPhase.{AnyPhase}
use Rattle.dg_volume.specs.declared.phases.AnyPhase.TheVariants.{Loose, Settled, Worn}
use Rattle.dg_volume.specs.declared.phases.InPhase as phases
use Rattle.dg_volume.specs.declared.regroups.Remains.{Remains}
use Rattle.dg_volume.specs.declared.volumes.Volume.{Volume}
use Rattle.ufs_pointer.specs.Buffers.{Buffers}

-- ---- seals

none_sealed : (label : Option KeptLabel) → is_sealed (unsealed label) ≡ false
none_sealed None = refl
none_sealed (Some kept) = refl

-- the label of the model isn't sealed where what is kept of it isn't
model_unsealed : (last : Option LastLabel) (label : Option KeptLabel) → IsKeptOf last label → is_sealed label ≡ false → IsUnsealed last
model_unsealed None label is open_now = tt
model_unsealed (Some last) None is open_now = absurd is
model_unsealed (Some last) (Some kept) is open_now = is.sealed ∙ open_now

-- ---- what any call leaves, also one that takes boundaries out of use

pub goes_on : {S T R : Type 0} (from : phases.Ghosts S) (to : phases.Ghosts T) (rack : Ghosts R) (old : Volume S R) (new : Volume T R) → Leaves from to rack old new → GoesOn to rack old new
goes_on from to rack old new h = record { well = h.well; boundaries = h.boundaries; line = h.line; calls = h.rise.calls; writes = h.rise.writes }

-- ---- none is left

none_passes : (p : ℕ → Bool) → ((x : ℕ) → p x ≡ true) → (xs : List ℕ) → filter (λ x. not (p x)) xs ≡ []
none_passes p all [] = refl
none_passes p all (x ∷ xs) = ap (λ (b : Bool). cond (not b) (x ∷ filter (λ y. not (p y)) xs) (filter (λ y. not (p y)) xs)) (all x) ∙ none_passes p all xs

-- where no member is good each boundary is lost
all_are_lost : (members : ℕ → MemberState) → ((q : ℕ) → is_good (members q) ≡ false) → (s : ℕ) → is_lost members s ≡ true
all_are_lost members none s =
    and_from (not (is_good (members (2 * s)))) (not (is_good (members (2 * s + 1)))) (ap not (none (2 * s))) (ap not (none (2 * s + 1)))

-- ---- what remains

-- by its parts
pub remains_made : {R : Type 0} (store : Store R) (homes copies : List Home) (live : List ℕ) (left : List ℕ) (shape : Shape) (table : Table) (over : CutOver) (remains : Remains) → shape ≡ stores.shape_of store
    → table ≡ stores.table_of store → left ≡ left_in store → (IsTooFew left shape → ⊥) → IsCutOver left table homes copies over → remains.map ≡ over.map → remains.homes ≡ over.homes
    → remains.live.items ≡ map (boundary_at live) (left_in store) → (remains.blank.l ≡ shape.l) × (remains.blank.n ≡ shape.n) → length remains.blank.pending ≡ shape.n
    → AreRemains store homes copies live remains
remains_made store homes copies live left shape table over remains shapes tables lefts enough cut map_is homes_is live_is size marks = record {
  enough = λ few. enough (subst (λ (s : Shape). IsTooFew left s) (sym shapes) (subst (λ (xs : List ℕ). IsTooFew xs (stores.shape_of store)) (sym lefts) few));
  map_is =
      map_is ∙ cut.map_is ∙ ap (λ (xs : List ℕ). table_left xs table) lefts ∙ ap (λ (t : Table). table_left (left_in store) t) tables;
  is_table = subst IsTable (sym map_is) cut.is_table;
  homes_are = homes_is ∙ cut.homes_are ∙ ap (λ (xs : List ℕ). homes_left xs copies homes) lefts;
  live_is = live_is;
  bytes = size.0 ∙ ap (λ (s : Shape). s.l) shapes;
  number = size.1 ∙ ap (λ (s : Shape). s.n) shapes;
  marks = marks ∙ ap (λ (s : Shape). s.n) shapes;
}

-- where there is one, the others aren't too few
pub not_few : {A : Type 0} (found : Option A) (one : A) (Few : Type 0) → found ≡ Some one → (Few → found ≡ None) → Few → ⊥
not_few found one Few is none few = cc (sym is ∙ none few)

-- ---- the phase

-- a law of the homes that are left
abbrev pub HomesLeftAscend : Type 0
HomesLeftAscend = (left : List ℕ) (copies homes : List Home) → Ascend homes → Ascend (homes_left left copies homes)

module _ {R : Type 0} (rack : Ghosts R) where
  module _ (old new : Store R) (pending : List Bool) where
    phase_is : (p : AnyPhase) → IsPhaseLeft rack old new pending p → phase_in p ≡ phase_after (has_lost (stores.shape_of new) (stores.members_of new))
    phase_is (Worn worn) lost = sym (ap phase_after lost)
    phase_is (Loose loose) h = sym (ap phase_after h.live)
    phase_is (Settled settled) h = absurd h

    -- the marks of pending blocks
    marks_next : (p : AnyPhase) → IsPhaseLeft rack old new pending p → (K : Type 0) (V : List (List ℕ)) → (K → TellsAll rack new × stores.StandsFor rack old V)
        → AreNext (has_lost (stores.shape_of new) (stores.members_of new)) K (stores.shape_of old).l (stores.shape_of old).n V pending (marks_by (kept_in p) pending)
    marks_next (Worn worn) lost K V along = subst (λ (x : Bool). AreNext x K (stores.shape_of old).l (stores.shape_of old).n V pending pending) (sym lost) refl
    marks_next (Loose loose) h K V along =
        let left = h.pending_are V in
        subst (λ (x : Bool). AreNext x K (stores.shape_of old).l (stores.shape_of old).n V pending loose.inference.pending) (sym h.live)
        (record { size = left.size; fewer = left.fewer; are = λ k. left.are (along k) })
    marks_next (Settled settled) h K V along = absurd h

    -- what is inferred
    inferred_of : (p : AnyPhase) → IsPhaseLeft rack old new pending p → TellsAll rack new → (V : List (List ℕ)) → stores.StandsFor rack old V
        → IfSome (kept_in p) (λ kept. inferences.StandsFor kept V)
    inferred_of (Worn worn) lost told V held = tt
    inferred_of (Loose loose) h told V held = h.stands told V held
    inferred_of (Settled settled) h told V held = absurd h

    marks_size : (p : AnyPhase) → IsPhaseLeft rack old new pending p → length (marks_by (kept_in p) pending) ≡ length pending
    marks_size (Worn worn) lost = refl
    marks_size (Loose loose) h = (h.pending_are []).size
    marks_size (Settled settled) h = absurd h

    fits_of : (p : AnyPhase) → IsPhaseLeft rack old new pending p → IfSome (kept_in p) (FitsArray (stores.shape_of old))
    fits_of (Worn worn) lost = tt
    fits_of (Loose loose) h = h.fits
    fits_of (Settled settled) h = absurd h

    worn_of : (p : AnyPhase) → IsPhaseLeft rack old new pending p → phase_in p ≡ WornPhase → has_lost (stores.shape_of new) (stores.members_of new) ≡ true
    worn_of (Worn worn) lost is = lost
    worn_of (Loose loose) h is = absurd (loose_not_worn is)
    worn_of (Settled settled) h is = absurd h

    unsettled_of : (p : AnyPhase) → IsPhaseLeft rack old new pending p → phase_in p ≡ SettledPhase → ⊥
    unsettled_of (Worn worn) lost is = cc is
    unsettled_of (Loose loose) h is = loose_not_settled is
    unsettled_of (Settled settled) h is = h

  -- ---- nothing was done

  pub whole_goes : (a : Volume AnyPhase R) → IsWell any_phase rack a → has_lost (shape_of a) (members_of a) ≡ false → GoesBy any_phase any_phase rack a Regroup Whole a
  whole_goes a well whole = record {
    leaves = leaves_none any_phase rack a well;
    given_is = refl;
    steps = steps_from any_phase rack a a Regroup Whole (λ origin rest V label holds. (
      state_of any_phase rack a rest V,
      same_in any_phase rack a rest V label holds,
      (whole, refl),
      refl,
    ));
  }

  -- no member is good: none is left
  pub none_goes : (a : Volume AnyPhase R) → IsWell any_phase rack a → has_lost (shape_of a) (members_of a) ≡ true → HasNoGood a.store → GoesBy any_phase any_phase rack a Regroup TooFew a
  none_goes a well lost none =
      let read = read_none any_phase rack a well in
      let few : length (left_in a.store) ≡ 0 = ap length (none_passes (is_lost (members_of a)) (all_are_lost (members_of a) none) (range_with_len 0 (shape_of a).b)) in
      let small : length (left_in a.store) < 2 = omega (arith, few) in record {
        leaves = leaves_none any_phase rack a well;
        given_is = refl;
        steps = steps_from any_phase rack a a Regroup TooFew (λ origin rest V label holds. (
          read_state any_phase rack a a read rest V,
          reads_in any_phase rack a a rest V label read holds,
          (lost, λ q good. absurd (false≢true (sym (none q) ∙ good)), inr (inl small), reads_stay any_phase rack a a rest V label read),
          refl,
        ));
      }

  pub goes_none : (a : Volume AnyPhase R) → IsWell any_phase rack a → GoesOn any_phase rack a a
  goes_none a well = goes_on any_phase any_phase rack a a (leaves_none any_phase rack a well)

  -- ---- the opening of the seal

  -- the seal was opened, and all else is as it was
  pub record HasUnsealed (a m : Volume AnyPhase R) : Type 0 where
    pub well : IsWell any_phase rack a
    pub lost : has_lost (shape_of a) (members_of a) ≡ true
    pub beside : IsBeside any_phase rack a m
    pub levels : m.levels.fragment ≡ a.levels.fragment
    pub given_is : m.given ≡ a.given
    pub good : HasGood a.store
    pub opening : OpensSeal rack a.store m.store a.label m.label

  pub unsealed_by : (a : Volume AnyPhase R) (store : Store R) (label : Option KeptLabel) → IsWell any_phase rack a → has_lost (shape_of a) (members_of a) ≡ true → HasGood a.store
      → OpensSeal rack a.store store a.label label → HasUnsealed a (record a { store = store; label = label })
  unsealed_by a store label well lost good opening = record {
    well = well;
    lost = lost;
    beside = record { phase_is = refl; pending = refl; homes = refl; copies = refl; in_use = refl };
    levels = refl;
    given_is = refl;
    good = good;
    opening = opening;
  }

  module _ (a m : Volume AnyPhase R) (h : HasUnsealed a m) where
    abbrev labels_open : Labels rack a m
    labels_open = relabels_opened rack (line_of a) a.store m.store a.label m.label h.good h.opening

    abbrev keeps_open : Keeps any_phase rack a m
    keeps_open = let k = h.opening.array in record {
      beside = h.beside;
      labeled = h.well.labeled;
      levels = h.levels;
      sound = k.sound;
      table = k.table;
      rise = k.stays.stays.rise;
      tells = k.stays.stays.tells;
      told_before = k.stays.stays.told_before;
      own = k.stays.own;
      same_rack = k.stays.stays.same_rack;
      back = λ q good. good_was (rack.counts (rack_of a)).faults (rack.counts (rack_of m)).faults (members_of a) (members_of m) q k.falls good;
      stands = k.stands;
      labels = labels_open;
      faults = array_tells rack a.store m.store k;
    }

    pub open_leaves : Leaves any_phase any_phase rack a m
    open_leaves = leaves any_phase rack a m h.well keeps_open

    pub open_goes : GoesOn any_phase rack a m
    open_goes = goes_on any_phase any_phase rack a m open_leaves

    pub open_lost : has_lost (shape_of m) (members_of m) ≡ true
    open_lost =
        ap (λ (x : Shape). has_lost x (members_of m)) (shape_kept any_phase rack a m keeps_open) ∙ lost_on (shape_of a) (members_of a) (members_of m) keeps_open.back h.lost

    now_unsealed : is_sealed m.label ≡ false
    now_unsealed = ap is_sealed h.opening.after_is ∙ none_sealed a.label

    abbrev open_state : State → List (List ℕ) → State
    open_state rest V = kept_state any_phase rack a m keeps_open rest V

    -- it stands with its label, by the numbers of the first line
    open_under : (last : Option LastLabel) → StandsUnder rack a last → StandsUnder rack m (label_after labels_open.opens (members_of a) (members_of m) last)
    open_under last stands = under_by rack a m (line_kept any_phase rack a m keeps_open) labels_open h.well.labeled last stands

    unseals : (rest : State) → StandsUnder rack a rest.label → IsUnsealed (on_label a m labels_open.opens rest).label
    unseals rest label = model_unsealed (on_label a m labels_open.opens rest).label m.label (open_under rest.label label).kept now_unsealed

    -- what is left would be too few
    pub few_goes : HasTooFew m.store → GoesBy any_phase any_phase rack a Regroup TooFew m
    few_goes few = record {
      leaves = open_leaves;
      given_is = h.given_is;
      steps = steps_from any_phase rack a m Regroup TooFew (λ origin rest V label holds. (
        open_state rest V,
        still_in any_phase rack a m rest V label keeps_open holds,
        (
          h.lost,
          λ q good. unseals rest label,
          few,
          stays any_phase rack a m rest V label keeps_open h.opening.array.stays.stays.rise h.opening.array.falls (array_outs rack a.store m.store h.opening.array),
        ),
        refl,
      ));
    }

  -- ---- without the lost boundaries

  -- what the reading of it asks for
  pub out_levels : (boundaries : R → ℕ) (dropped : R → ℕ → R → Type 0) (remains : Remains) (m b : Volume AnyPhase R) → IsTakenOut rack boundaries dropped remains m b → IsWell any_phase rack m
      → b.levels.fragment ≡ (shape_of b).l
  out_levels boundaries dropped remains m b h well = h.levels_are ∙ well.levels ∙ sym (ap (λ (t : Table). t.shape.l) h.array.table)

  pub out_size : (boundaries : R → ℕ) (dropped : R → ℕ → R → Type 0) (remains : Remains) (m b : Volume AnyPhase R) → IsTakenOut rack boundaries dropped remains m b → IsWell any_phase rack m
      → length b.pending.items ≡ (shape_of b).n
  out_size boundaries dropped remains m b h well =
      ap length h.pending_is ∙ length-map-range_with_len (λ x. is_marked (marks_of any_phase m) x && not (gone_of m x)) 0 (length (marks_of any_phase m))
      ∙ well.marks ∙ sym (ap (λ (t : Table). t.shape.n) h.array.table)

  module _ (boundaries : R → ℕ) (dropped : R → ℕ → R → Type 0) where
    -- The seal was opened, the lost boundaries were taken out, and what is left was read.
    pub record HasReduced (a m : Volume AnyPhase R) (remains : Remains) (b f : Volume AnyPhase R) : Type 0 where
      pub unsealed : HasUnsealed a m
      pub remains_are : AreRemains m.store m.homes m.copies (live_of m) remains
      pub out : IsTakenOut rack boundaries dropped remains m b
      pub read : HasReadArray rack b.store f.store
      pub levels : f.levels.fragment ≡ b.levels.fragment
      pub pending : f.pending ≡ b.pending
      pub in_use : f.in_use ≡ b.in_use
      pub homes : f.homes ≡ b.homes
      pub copies : f.copies ≡ b.copies
      pub given_is : f.given ≡ b.given
      pub label_is : f.label ≡ b.label
      pub are_left : LabelsAreLeft rack boundaries dropped
      pub stand_left : LabelsStandLeft rack boundaries dropped
      pub ascend : HomesLeftAscend

    -- by what the calls left, with whatever phase
    pub reduced_by : (a m : Volume AnyPhase R) (remains : Remains) (b : Volume AnyPhase R) (store : Store R) (levels : Buffers) (phase : AnyPhase) → HasUnsealed a m
        → AreRemains m.store m.homes m.copies (live_of m) remains → IsTakenOut rack boundaries dropped remains m b → HasReadArray rack b.store store → levels.fragment ≡ b.levels.fragment
        → LabelsAreLeft rack boundaries dropped → LabelsStandLeft rack boundaries dropped → HomesLeftAscend → HasReduced a m remains b (record b { store = store; levels = levels; phase = phase })
    reduced_by a m remains b store levels phase unsealed remains_are out read same are_left stand_left ascend = record {
      unsealed = unsealed;
      remains_are = remains_are;
      out = out;
      read = read;
      levels = same;
      pending = refl;
      in_use = refl;
      homes = refl;
      copies = refl;
      given_is = refl;
      label_is = refl;
      are_left = are_left;
      stand_left = stand_left;
      ascend = ascend;
    }

    module _ (a m : Volume AnyPhase R) (remains : Remains) (b f : Volume AnyPhase R) (h : HasReduced a m remains b f) where
      abbrev left : List ℕ
      left = left_in m.store

      abbrev keeps_mid : Keeps any_phase rack a m
      keeps_mid = keeps_open a m h.unsealed

      -- ---- its numbers, and the length of its members

      shape_b : shape_of b ≡ shape_left left (shape_of m)
      shape_b = ap (λ (t : Table). t.shape) h.out.array.table

      shape_f : shape_of f ≡ shape_left left (shape_of m)
      shape_f = h.read.reads.keeps.shape ∙ shape_b

      line_f : line_of f ≡ line_of a
      line_f =
          let long : f.in_use.long ≡ m.in_use.long = ap (λ (u : InUse). u.long) h.in_use ∙ h.out.long_is in
          let first : line_of f ≡ line_of m = λ i. record (shape_f i) { b = long i } in
          first ∙ line_kept any_phase rack a m keeps_mid

      -- ---- its boundaries

      live_left : live_of f ≡ map (boundary_at (live_of m)) left
      live_left = ap (λ (u : InUse). u.live.items) h.in_use ∙ h.out.live_is

      live_taken : live_of f ≡ map (boundary_at (live_of a)) left
      live_taken = live_left ∙ ap (λ (u : InUse). map (boundary_at u.live.items) left) h.unsealed.beside.in_use

      -- ---- its label

      labeled_mid : IsLabeled rack (line_of a) m.store m.label
      labeled_mid = (labels_open a m h.unsealed).labeled h.unsealed.well.labeled

      labeled_b : IsLabeled rack (line_of a) b.store b.label
      labeled_b = h.are_left (line_of a) m.store b.store m.label b.label h.out.array (now_unsealed a m h.unsealed) h.out.label_is labeled_mid

      labeled_f : HasLabel rack f
      labeled_f =
          subst (λ (x : Shape). IsLabeled rack x f.store f.label) (sym line_f)
          (subst (λ (k : Option KeptLabel). IsLabeled rack (line_of a) f.store k) (sym h.label_is) (labeled_kept rack (line_of a) b.store f.store b.label labeled_b h.read.reads.keeps))

      abbrev mid_label : Option LastLabel → Option LastLabel
      mid_label last = label_after (labels_open a m h.unsealed).opens (members_of a) (members_of m) last

      -- the label on what is left
      abbrev left_label : Option LastLabel → Option LastLabel
      left_label last = option_map (label_left left) (mid_label last)

      stands_b : (last : Option LastLabel) → StandsUnder rack a last → StandsLabeled rack (line_of a) b.store b.label (left_label last)
      stands_b last stands =
          h.stand_left (line_of a) m.store b.store m.label b.label h.out.array (now_unsealed a m h.unsealed) h.out.label_is labeled_mid (open_lost a m h.unsealed) (mid_label last)
          ((labels_open a m h.unsealed).stands last h.unsealed.well.labeled stands)

      abbrev read_opens : Bool
      read_opens = (relabels_read rack (line_of a) b.store f.store b.label h.read.reads).opens

      abbrev last_label : Option LastLabel → Option LastLabel
      last_label last = label_after read_opens (members_of b) (members_of f) (left_label last)

      stands_f : (last : Option LastLabel) → StandsUnder rack a last → StandsUnder rack f (last_label last)
      stands_f last stands =
          subst (λ (x : Shape). StandsLabeled rack x f.store f.label (last_label last)) (sym line_f)
          (subst (λ (k : Option KeptLabel). StandsLabeled rack (line_of a) f.store k (last_label last)) (sym h.label_is)
          ((relabels_read rack (line_of a) b.store f.store b.label h.read.reads).stands (left_label last) labeled_b (stands_b last stands)))

      -- ---- what it stands for

      abbrev left_blocks : List (List ℕ) → List (List ℕ)
      left_blocks V = blocks_left (table_of m) (members_of m) V

      held_b : (V : List (List ℕ)) → stores.StandsFor rack a.store V → stores.StandsFor rack b.store (left_blocks V)
      held_b V held = h.out.array.blocks V (h.unsealed.opening.array.stands V held)

      pub held_f : (V : List (List ℕ)) → stores.StandsFor rack a.store V → stores.StandsFor rack f.store (left_blocks V)
      held_f V held = h.read.stands (left_blocks V) (held_b V held)

      -- something is so, and each member told its bytes
      abbrev pub WasTold : Type 0 → Store R → Type 0
      WasTold P store = P × TellsAll rack store

      told_a : {P : Type 0} → Known (WasTold P m.store) rack f → Known P rack a
      told_a told = told_before any_phase rack a m keeps_mid (told.1.1, told.1.0)

      -- ---- the states

      -- without the lost boundaries, over the reduced rack
      abbrev cut_state : State → List (List ℕ) → State
      cut_state rest V = without_lost (open_state a m h.unsealed rest V) (rack.counts (rack_of b))

      -- the one that it is in then
      abbrev last_state : State → List (List ℕ) → State
      last_state rest V = state_of any_phase rack f (record rest { label = last_label rest.label }) (left_blocks V)

      -- the same members and sites, as the array tells them
      same_cut : (rest : State) (V : List (List ℕ)) → record (cut_state rest V) { members = members_of b; table = table_of b } ≡ cut_state rest V
      same_cut rest V i = record (cut_state rest V) { members = λ q. h.out.array.members q i; table = h.out.array.table i }

      goes_cut : (rest : State) (V : List (List ℕ)) → StandsUnder rack a rest.label → Goes (cut_state rest V) (last_state rest V)
      goes_cut rest V label =
          let reads = h.read.reads.keeps in
          let tells = keeps_tells rack b.store f.store reads in
          let goes : Goes (record (cut_state rest V) { members = members_of b; table = table_of b }) (last_state rest V) = record {
            passes = record {
              counts = reads.stays.rise;
              label =
                  keeps_label rack (line_of a) b.store f.store b.label b.label (relabels_read rack (line_of a) b.store f.store b.label h.read.reads) (left_label rest.label)
                  (stands_b rest.label label).kept;
              paired = h.read.sound.paired;
              faults = record { fell = tells.fell; beyond = tells.beyond };
            };
            members = reads.falls;
            out = keeps_outs rack b.store f.store reads;
          } in
          subst (λ (s : State). Goes s (last_state rest V)) (same_cut rest V) goes

      module _ (phase : IsPhaseLeft rack b.store f.store b.pending.items f.phase) where
        -- marks that are kept beside the inference
        pending_f : marks_of any_phase f ≡ marks_by (kept_in f.phase) b.pending.items
        pending_f i = marks_by (kept_in f.phase) ((h.pending i).items)

        marks_cut : (K : Type 0) (rest : State) (V : List (List ℕ)) → (K → TellsAll rack f.store × stores.StandsFor rack b.store (left_blocks V))
            → AreNext (is_broken (last_state rest V)) K (shape_of f).l (shape_of f).n (left_blocks V) (cut_state rest V).pending (marks_of any_phase f)
        marks_cut K rest V along =
            let lost = has_lost (shape_of f) (members_of f) in
            let next = marks_next b.store f.store b.pending.items f.phase phase K (left_blocks V) along in
            subst (λ (x : Shape). AreNext lost K x.l x.n (left_blocks V) (cut_state rest V).pending (marks_of any_phase f)) (sym h.read.reads.keeps.shape)
            (subst (λ (old : List Bool). AreNext lost K (shape_of b).l (shape_of b).n (left_blocks V) old (marks_of any_phase f)) h.out.pending_is
            (subst (λ (new : List Bool). AreNext lost K (shape_of b).l (shape_of b).n (left_blocks V) b.pending.items new) (sym pending_f) next))

        -- all but what the members do, the label and the counts
        rest_cut : (rest : State) (V : List (List ℕ)) → last_state rest V ≡ record (cut_state rest V) {
          members = members_of f;
          label = last_label rest.label;
          counts = rack.counts (rack_of f);
          pending = marks_of any_phase f;
          phase = phase_after (is_broken (last_state rest V));
        }
        rest_cut rest V =
            let bounds : f.in_use.boundaries ≡ m.in_use.boundaries = ap (λ (u : InUse). u.boundaries) h.in_use ∙ h.out.boundaries_are in
            let cut = ap (λ (u : InUse). u.cut.items) h.in_use ∙ h.out.cut_is in
            let table = h.read.reads.table ∙ h.out.array.table in
            let homes = h.homes ∙ h.out.homes_are in
            let copies = h.copies ∙ h.out.copies_are in
            let told = phase_is b.store f.store b.pending.items f.phase phase in
            λ i. record (last_state rest V) { boundaries = bounds i; live = live_left i; cut = cut i; table = table i; homes = homes i; copies = copies i; phase = told i }

        regroups : {P : Type 0} → (rest : State) (V : List (List ℕ)) → StandsUnder rack a rest.label → (Known P rack a → StandsFor any_phase rack a V)
            → Regroups (Known (WasTold P m.store) rack f) (state_of any_phase rack a rest V) (lost_count m) (gone_count m) (last_state rest V)
        regroups rest V label holds = record {
          mid = open_state a m h.unsealed rest V;
          opened =
              stays any_phase rack a m rest V label keeps_mid h.unsealed.opening.array.stays.stays.rise h.unsealed.opening.array.falls
              (array_outs rack a.store m.store h.unsealed.opening.array);
          unsealed = λ q good. unseals a m h.unsealed rest label;
          enough = h.remains_are.enough;
          boundaries = refl;
          blocks = refl;
          counts = rack.counts (rack_of b);
          same_rack = record { faults = h.out.array.leaves.faults; calls = h.out.array.leaves.calls; writes = h.out.array.leaves.writes };
          goes = goes_cut rest V label;
          unwritten = h.read.reads.writes ∙ h.out.array.leaves.writes;
          marks = marks_cut _ rest V (λ told. (told.0, held_b V (holds (told_a told)).array));
          rest = rest_cut rest V;
        }

        last_in : {P : Type 0} → (rest : State) (V : List (List ℕ)) → StandsUnder rack a rest.label → (Known P rack a → StandsFor any_phase rack a V)
            → StandsIn any_phase rack (WasTold P m.store) f (last_state rest V)
        last_in rest V label holds = record {
          is = refl;
          label = stands_f rest.label label;
          holds = λ told.
              let held = (holds (told_a told)).array in
              record { array = held_f V held; inferred = inferred_of b.store f.store b.pending.items f.phase phase (told.0) (left_blocks V) (held_b V held) };
        }

      -- ---- what became of the array

      abbrev takes_out : TakesOut rack boundaries dropped a.store f.store
      takes_out = record {
        mid = m.store;
        left = b.store;
        opened = h.unsealed.opening.array.stays;
        falls = h.unsealed.opening.array.falls;
        leaves = h.out.array.leaves;
        rest = h.out.array.rest;
        below = h.out.array.below;
        bits = h.out.bits;
        fewer = left_fewer (shape_of m) (members_of m) (open_lost a m h.unsealed);
        read = stays_by rack b.store f.store h.read.reads.keeps;
      }

      -- after want of memory
      pub left_kept : KeepsLeft rack boundaries dropped a f
      left_kept = record { out = takes_out; live_is = live_taken; stands = λ was told V held. held_f V held }

      pub regrouped : IsPhaseLeft rack b.store f.store b.pending.items f.phase → IsRegrouped rack boundaries dropped (lost_count m) (gone_count m) a f
      regrouped phase = record {
        out = takes_out;
        live_is = live_taken;
        given_is = h.given_is ∙ h.out.given_is ∙ h.unsealed.given_is;
        steps = λ origin state st.
            subst (λ (s : State). (next : State) × StandsIn any_phase rack (WasHeld rack (told_in m.store origin)) f next
            × Step (Known (WasHeld rack (told_in m.store origin)) rack f) s Regroup (Regrouped (lost_count m) (gone_count m)) next × (next.recent ≡ s.recent)) (sym st.is) (
              last_state state state.blocks,
              last_in phase state state.blocks st.label st.holds,
              (h.unsealed.lost, regroups phase state state.blocks st.label st.holds),
              refl,
            );
      }

      -- ---- before it was read

      out_marks : length b.pending.items ≡ (shape_of m).n
      out_marks = out_size boundaries dropped remains m b h.out (open_leaves a m h.unsealed).well ∙ ap (λ (x : Shape). x.n) shape_b

      -- ---- what holds between calls

      -- what a phase keeps is of what is left
      pub record FitsPhase : Type 0 where
        pub marks : length (marks_of any_phase f) ≡ (shape_of f).n
        pub inferred : IfSome (kept_in f.phase) (FitsArray (shape_of f))
        pub worn : phase_in f.phase ≡ WornPhase → has_lost (shape_of f) (members_of f) ≡ true
        pub unsettled : phase_in f.phase ≡ SettledPhase → ⊥

      in_use_f : FitsReduced (table_of f) (reduced_of f)
      in_use_f =
          let table = h.read.reads.table ∙ h.out.array.table in
          let fits = fits_left (table_of m) (members_of m) (reduced_of m) (open_leaves a m h.unsealed).well.in_use in
          let now : record (reduced_of m) { live = map (boundary_at (live_of m)) left; cut = marked_too (gone_of m) (cut_of m) } ≡ reduced_of f =
          λ i. record { boundaries = sym (ap (λ (u : InUse). u.boundaries) h.in_use ∙ h.out.boundaries_are) i; live = sym (ap (λ (u : InUse). u.live.items) h.in_use ∙ h.out.live_is) i; cut = sym (ap (λ (u : InUse). u.cut.items) h.in_use ∙ h.out.cut_is) i } in
          subst (λ (t : Table). FitsReduced t (reduced_of f)) (sym table) (subst (λ (r : Reduced). FitsReduced (table_left left (table_of m)) r) now fits)

      long_f : f.in_use.long ≤ f.in_use.boundaries
      long_f =
          let less = (open_leaves a m h.unsealed).well.long in
          let long = ap (λ (u : InUse). u.long) h.in_use ∙ h.out.long_is in
          let boundaries = ap (λ (u : InUse). u.boundaries) h.in_use ∙ h.out.boundaries_are in
          omega (arith, less, long, boundaries)

      homes_f : AreHomes (shape_of f) f.homes × (length f.homes ≤ (shape_of f).n)
      homes_f =
          let well = (open_leaves a m h.unsealed).well in
          let are : AreHomes (shape_left left (shape_of m)) (homes_left left m.copies m.homes) =
          (h.ascend left m.copies m.homes well.homes_are.0, homes_fit left (shape_of m).b m.copies m.homes well.homes_are.1) in
          let most = homes_few left m.copies m.homes in
          let few : length (homes_left left m.copies m.homes) ≤ (shape_of m).n = let all = well.few_homes in omega (arith, most, all) in
          subst (λ (x : List Home). AreHomes (shape_of f) x × (length x ≤ (shape_of f).n)) (sym (h.homes ∙ h.out.homes_are))
          (subst (λ (s : Shape). AreHomes s (homes_left left m.copies m.homes) × (length (homes_left left m.copies m.homes) ≤ s.n)) (sym shape_f) (are, few))

      left_well : FitsPhase → IsWell any_phase rack f
      left_well fits =
          let well = (open_leaves a m h.unsealed).well in
          let none : f.copies ≡ [] = h.copies ∙ h.out.copies_are in record {
            array = h.read.sound;
            levels = h.levels ∙ h.out.levels_are ∙ well.levels ∙ sym (ap (λ (s : Shape). s.l) shape_f);
            marks = fits.marks;
            inferred = fits.inferred;
            labeled = labeled_f;
            in_use = in_use_f;
            long = long_f;
            homes_are = homes_f.0;
            few_homes = homes_f.1;
            copies_are = subst (λ (x : List Home). AreHomes (shape_of f) x) (sym none) (no_homes (shape_of f));
            uncopied = λ unsettled. none;
            worn = fits.worn;
            settled = λ settled. absurd (fits.unsettled settled);
          }

      pub left_goes : FitsPhase → GoesOn any_phase rack a f
      left_goes fits =
          let opened = (open_leaves a m h.unsealed).rise in
          let same = h.out.array.leaves in
          let reads = h.read.reads.keeps.stays.rise in record {
            well = left_well fits;
            boundaries = ap (λ (u : InUse). u.boundaries) h.in_use ∙ h.out.boundaries_are ∙ ap (λ (u : InUse). u.boundaries) h.unsealed.beside.in_use;
            line = line_f;
            calls = omega (arith, opened.calls, same.calls, reads.calls);
            writes = omega (arith, opened.writes, same.writes, reads.writes);
          }

      -- by the phase that was found
      pub phase_fits : IsPhaseLeft rack b.store f.store b.pending.items f.phase → FitsPhase
      phase_fits phase =
          record {
            marks = ap length (pending_f phase) ∙ marks_size b.store f.store b.pending.items f.phase phase ∙ out_marks ∙ sym (ap (λ (s : Shape). s.n) shape_f);
            inferred = subst (λ (s : Shape). IfSome (kept_in f.phase) (FitsArray s)) (sym h.read.reads.keeps.shape) (fits_of b.store f.store b.pending.items f.phase phase);
            worn = worn_of b.store f.store b.pending.items f.phase phase;
            unsettled = unsettled_of b.store f.store b.pending.items f.phase phase;
          }

      -- by the one that is kept until then
      pub blank_fits : f.phase ≡ b.phase → FitsPhase
      blank_fits same =
          let kept : kept_in f.phase ≡ Some remains.blank = ap kept_in same ∙ h.out.kept_is in
          let loose : phase_in f.phase ≡ LoosePhase = ap phase_in same ∙ h.out.phase_is in record {
            marks = ap (λ (k : Option KeptInference). length (marks_by k f.pending.items)) kept ∙ h.remains_are.marks ∙ sym (ap (λ (s : Shape). s.n) shape_f);
            inferred =
                subst (λ (s : Shape). IfSome (kept_in f.phase) (FitsArray s)) (sym shape_f)
                (subst (λ (k : Option KeptInference). IfSome k (FitsArray (shape_left left (shape_of m)))) (sym kept)
                (record { bytes = h.remains_are.bytes; number = h.remains_are.number }));
            worn = λ worn. absurd (loose_not_worn (sym loose ∙ worn));
            unsettled = λ settled. loose_not_settled (sym loose ∙ settled);
          }
