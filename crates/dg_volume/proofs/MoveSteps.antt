-- A volume makes a step by moves of its blocks: what is left of it, and each answer of `tend` and of `settle`.
use Rattle.std.proofs.Common.{◌≡◌, ◌≢◌, ◌⊎◌, ◌∙◌, ◌≤◌, ℕ, Bool, false, List, length, refl, sym, ap, subst, inl, inr}
use Rattle.std.specs.Prelude.{Option, Some, None, Err, IfSome}
use Rattle.dg_label.specs.declared.labels.KeptLabel.{KeptLabel}
use Rattle.dg_infer.specs.Meanings.{KeptInference}
use Rattle.dg_infer.specs.Meanings as inferences
use Rattle.dg_io.specs.declared.outside.Rack.{Ghosts}
use Rattle.dg_model.specs.Changes.{Goes, IsCramped, IsCut, IsPlan, MovesNothing, SeesParents, SeesWants, Stays}
use Rattle.dg_model.specs.Lives.{boundary_at}
use Rattle.dg_model.specs.Moves.{IsCutByLoss, missing_in, moved, within}
use Rattle.dg_model.specs.Openings.{FitsReduced}
use Rattle.dg_model.specs.Plans.{targets_of}
use Rattle.dg_model.specs.Saves.{AreHomes}
use Rattle.dg_model.specs.Seals.{KeepsLabel, LastLabel}
use Rattle.dg_model.specs.States.{IsLeastLost, State, has_lost}
use Rattle.dg_model.specs.Steps.{Step}
use Rattle.dg_model.specs.Tables.{Table}
use Rattle.dg_model.specs.Wants.{AreWants}
use Rattle.dg_model.specs.declared.events.Event.TheVariants.{Settle, Tend}
use Rattle.dg_model.specs.declared.homes.Home.{Home}
use Rattle.dg_model.specs.declared.parents.Parent.{Parent}
use Rattle.dg_model.specs.declared.phases.Phase.TheVariants.{Loose as LoosePhase, Settled as SettledPhase, Worn as WornPhase}
use Rattle.dg_model.specs.declared.replies.Reply.TheVariants.{Lost as LostReply, Malformed as MalformedReply, NoSpace as NoSpaceReply, Settled as SettledReply, Tended as TendedReply}
use Rattle.dg_model.specs.declared.shapes.Shape.{Shape}
use Rattle.dg_model.specs.declared.wants.NoRoom.{NoRoom}
use Rattle.dg_model.specs.declared.wants.Want.{Want}
use Rattle.dg_move.specs.Answers.{IsTended}
use Rattle.dg_plan.specs.Targets.{wants_of}
use Rattle.dg_plan.specs.declared.target_lists.Targets.{Targets}
use Rattle.dg_store.specs.Answers.{SameWritten}
use Rattle.dg_store.specs.Stores.{TellsAll}
use Rattle.dg_store.specs.Stores as stores
use Rattle.dg_store.specs.declared.store.Store.{Store}
use Rattle.dg_volume.proofs.ArrayLaws.{moved_both, told_by, told_moved}
use Rattle.dg_volume.proofs.LabelLaws.{good_falls, relabels_behind}
use Rattle.dg_volume.proofs.UseLaws.{fits_same, least_here, least_on, long_on}
use Rattle.dg_volume.proofs.VolumeLaws.{HasRead, IsBeside, Labels, label_by, labeled_by, line_same, on_label, read_state, reads_in, reads_leave, reads_stay, same_in, steps_from, under_by}
use Rattle.dg_volume.specs.Origins.{WasHeld}
use Rattle.dg_volume.specs.Numbers.{unsettled_by}
use Rattle.dg_volume.specs.Planned.{AnswersCheck, AreKnown, AreWanted, FindsOn, HasMovedArray, HasNoPlan, HasPlan, HasReadArray}
use Rattle.dg_volume.specs.Seals.{Relabels}
use Rattle.dg_volume.specs.Settles.{unsettled_reply}
use Rattle.dg_volume.specs.Volumes.{FitsArray, HasLabel, IsWell, Known, Leaves, StandsFor, StandsIn, StandsUnder, StepsTo, Tells, line_of, live_of, marks_by, marks_of, members_of, rack_of, reduced_of, shape_of, state_of, table_of}
use Rattle.dg_volume.specs.declared.in_use.InUse.{InUse}
use Rattle.dg_volume.specs.declared.phases.InPhase as phases
use Rattle.dg_volume.specs.declared.settles.Unsettled.{Unsettled}
use Rattle.dg_volume.specs.declared.settles.Unsettled.TheVariants.{Lost, Malformed, NoSpace}
use Rattle.dg_volume.specs.declared.volumes.Volume.{Volume}
use Rattle.ufs_model.specs.Malformations.{IsFirstMalformation, IsSoundVolume}
use Rattle.ufs_model.specs.declared.malformations.BadKind.{BadKind}
use Rattle.ufs_pointer.specs.Buffers.{Buffers}

pub loose_not_worn : LoosePhase ≡ WornPhase → ⊥
loose_not_worn e = absurd (cc e)

pub loose_not_settled : LoosePhase ≡ SettledPhase → ⊥
loose_not_settled e = absurd (cc e)

module _ {S R : Type 0} (phase : phases.Ghosts S) (rack : Ghosts R) where
  -- all but the array, the buffers and the homes is as it was
  pub record HasMoved (a b : Volume S R) : Type 0 where
    pub phase_is : b.phase ≡ a.phase
    pub pending : b.pending ≡ a.pending
    pub copies : b.copies ≡ a.copies
    pub in_use : b.in_use ≡ a.in_use
    pub levels : b.levels.fragment ≡ a.levels.fragment
    pub array : HasMovedArray rack a.store b.store
    pub written : SameWritten (table_of a) (table_of b)
    pub labeled : HasLabel rack a
    pub labels : Labels rack a b
    pub homes_are : AreHomes (shape_of b) b.homes
    pub few_homes : length b.homes ≤ (shape_of b).n

  line_moved : (a b : Volume S R) → HasMoved a b → line_of b ≡ line_of a
  line_moved a b h = line_same a b (ap (λ (u : InUse). u.long) h.in_use) h.array.stays.shape

  marks_moved : (a b : Volume S R) → HasMoved a b → marks_of phase b ≡ marks_of phase a
  marks_moved a b h = λ i. marks_by (phase.kept (h.phase_is i)) ((h.pending i).items)

  -- what moves leave of a loose volume
  pub moved_leaves : (a b : Volume S R) → IsWell phase rack a → phase.phase a.phase ≡ LoosePhase → HasMoved a b → Leaves phase phase rack a b
  moved_leaves a b well loose h =
      let shape : shape_of b ≡ shape_of a = h.array.stays.shape in
      let fits = subst (λ (x : Shape). IfSome (phase.kept a.phase) (FitsArray x)) (sym shape) well.inferred in
      let copies = subst (λ (x : Shape). AreHomes x a.copies) (sym shape) well.copies_are in
      let still : phase.phase b.phase ≡ LoosePhase = ap phase.phase h.phase_is ∙ loose in
      record {
        well = record {
          array = h.array.sound;
          levels = h.levels ∙ well.levels ∙ sym (ap (λ (x : Shape). x.l) shape);
          marks = ap length (marks_moved a b h) ∙ well.marks ∙ sym (ap (λ (x : Shape). x.n) shape);
          inferred = subst (λ (p : S). IfSome (phase.kept p) (FitsArray (shape_of b))) (sym h.phase_is) fits;
          labeled = labeled_by rack a b (line_moved a b h) h.labels well.labeled;
          in_use = fits_same a b h.in_use shape h.written well.in_use;
          long = long_on a b h.in_use well.long;
          homes_are = h.homes_are;
          few_homes = h.few_homes;
          copies_are = subst (λ (x : List Home). AreHomes (shape_of b) x) (sym h.copies) copies;
          uncopied = λ unsettled. h.copies ∙ well.uncopied (λ settled. loose_not_settled (sym loose ∙ settled));
          worn = λ worn. absurd (loose_not_worn (sym still ∙ worn));
          settled = λ settled. absurd (loose_not_settled (sym still ∙ settled));
        };
        shape = shape;
        boundaries = ap (λ (u : InUse). u.boundaries) h.in_use;
        live = ap (λ (u : InUse). u.live.items) h.in_use;
        line = line_moved a b h;
        rise = h.array.stays.stays.rise;
        tells = h.array.stays.stays.tells;
        told_before = h.array.stays.stays.told_before;
        own = h.array.stays.own;
        same_rack = h.array.stays.stays.same_rack;
      }

  told_before : {P : Type 0} → (a b : Volume S R) → HasMoved a b → Known P rack b → Known P rack a
  told_before a b h known = (told_moved rack a.store b.store h.array (known.0), known.1)

  pub stands_moved : (a b : Volume S R) (V : List (List ℕ)) → HasMoved a b → Tells rack b → StandsFor phase rack a V → StandsFor phase rack b V
  stands_moved a b V h told held = record {
    array = h.array.stands told V held.array;
    inferred = subst (λ (p : S). IfSome (phase.kept p) (λ kept. inferences.StandsFor kept V)) (sym h.phase_is) held.inferred;
  }

  -- the state that it is in then
  abbrev moved_state : (a b : Volume S R) → HasMoved a b → State → List (List ℕ) → State
  moved_state a b h rest V = state_of phase rack b (on_label a b h.labels.opens rest) V

  moved_in : {P : Type 0} → (a b : Volume S R) (rest : State) (V : List (List ℕ)) → StandsUnder rack a rest.label → (h : HasMoved a b) → (Known P rack a → StandsFor phase rack a V)
      → StandsIn phase rack P b (moved_state a b h rest V)
  moved_in a b rest V label h holds = record {
    is = refl;
    label = under_by rack a b (line_moved a b h) h.labels h.labeled rest.label label;
    holds = λ told. stands_moved a b V h (told.0) (holds (told_before a b h told));
  }

  moved_passes : (a b : Volume S R) (rest : State) → StandsUnder rack a rest.label → (h : HasMoved a b)
      → KeepsLabel (rack.counts (rack_of a)).writes (rack.counts (rack_of b)).writes (members_of a) (members_of b) rest.label (on_label a b h.labels.opens rest).label
  moved_passes a b rest label h = label_by rack a b h.labels rest.label label

  moved_goes : (a b : Volume S R) (rest : State) (V : List (List ℕ)) → StandsUnder rack a rest.label → (h : HasMoved a b)
      → Goes (state_of phase rack a rest V) (moved_state a b h rest V)
  moved_goes a b rest V label h = record {
    passes = record {
      counts = h.array.stays.stays.rise;
      label = moved_passes a b rest label h;
      paired = h.array.sound.paired;
      faults = record { fell = h.array.faults.fell; beyond = h.array.faults.beyond };
    };
    members = h.array.falls;
    out = h.array.outs;
  }

  -- such a step in which no block was moved
  moved_stays : (a b : Volume S R) (rest : State) (V : List (List ℕ)) → StandsUnder rack a rest.label → (h : HasMoved a b) → table_of b ≡ table_of a
      → b.homes ≡ a.homes → Stays (state_of phase rack a rest V) (moved_state a b h rest V)
  moved_stays a b rest V label h table homes = record {
    goes = moved_goes a b rest V label h;
    rest = λ i. record (on_label a b h.labels.opens rest) {
      boundaries = (h.in_use i).boundaries;
      live = (h.in_use i).live.items;
      table = table i;
      blocks = V;
      pending = marks_moved a b h i;
      cut = (h.in_use i).cut.items;
      homes = homes i;
      copies = h.copies i;
      phase = phase.phase (h.phase_is i);
      members = members_of b;
      counts = rack.counts (rack_of b);
    };
  }

  -- what reads left of a volume, by what they left of its array
  pub has_read : (a b : Volume S R) → IsWell phase rack a → IsBeside phase rack a b → b.levels.fragment ≡ a.levels.fragment → b.label ≡ a.label → HasReadArray rack a.store b.store
      → HasRead phase rack a b
  has_read a b well beside levels label h = record {
    beside = beside;
    levels = levels;
    sound = h.sound;
    reads = h.reads;
    stands = h.stands;
    labeled = well.labeled;
    label_is = label;
  }

  -- what moves left of it, where the homes stay
  has_moved : (a b : Volume S R) → IsBeside phase rack a b → b.levels.fragment ≡ a.levels.fragment → IsWell phase rack a → SameWritten (table_of a) (table_of b) → Labels rack a b
      → HasMovedArray rack a.store b.store → HasMoved a b
  has_moved a b beside levels well written labels h = record {
    phase_is = beside.phase_is;
    pending = beside.pending;
    copies = beside.copies;
    in_use = beside.in_use;
    levels = levels;
    array = h;
    written = written;
    labeled = well.labeled;
    labels = labels;
    homes_are =
        subst (λ (x : Shape). AreHomes x b.homes) (sym h.stays.shape)
        (subst (λ (x : List Home). AreHomes (shape_of a) x) (sym beside.homes) well.homes_are);
    few_homes =
        subst (λ (x : Shape). length b.homes ≤ x.n) (sym h.stays.shape)
        (subst (λ (x : List Home). length x ≤ (shape_of a).n) (sym beside.homes) well.few_homes);
  }

  -- the written blocks, where reads were followed by moves
  written_run : (a : Volume S R) (mid last : Store R) → HasReadArray rack a.store mid → SameWritten (stores.table_of mid) (stores.table_of last) → SameWritten (table_of a) (stores.table_of last)
  written_run a mid last read written = subst (λ (t : Table). SameWritten t (stores.table_of last)) read.reads.table written

  -- the label, where reads were followed by moves
  labels_run : (a : Volume S R) (mid last : Store R) (label : Option KeptLabel) → HasReadArray rack a.store mid → HasMovedArray rack mid last → Relabels rack (line_of a) mid last a.label label
      → Relabels rack (line_of a) a.store last a.label label
  labels_run a mid last label read moved second =
      relabels_behind rack (line_of a) a.store mid last a.label label read.reads second (λ q was good.
      good_falls rack (rack.counts (stores.rack_of mid)).faults (rack.counts (stores.rack_of last)).faults (stores.members_of mid) (stores.members_of last) moved.falls q good)

  -- what reads left of it, by what they left of its array and its buffers
  pub read_over : (a : Volume S R) (store : Store R) (levels : Buffers) → IsWell phase rack a → levels.fragment ≡ a.levels.fragment → HasReadArray rack a.store store
      → HasRead phase rack a (record a { store = store; levels = levels })
  read_over a store levels well same h =
      has_read a (record a { store = store; levels = levels }) well (record { phase_is = refl; pending = refl; homes = refl; copies = refl; in_use = refl }) same refl h

  pub leaves_over : (a : Volume S R) (store : Store R) (levels : Buffers) → IsWell phase rack a → levels.fragment ≡ a.levels.fragment → HasReadArray rack a.store store
      → Leaves phase phase rack a (record a { store = store; levels = levels })
  leaves_over a store levels well same h = reads_leave phase rack a (record a { store = store; levels = levels }) well (read_over a store levels well same h)

  -- what moves left of it behind such reads
  pub moved_over : (a : Volume S R) (mid last : Store R) (label : Option KeptLabel) (levels : Buffers) → IsWell phase rack a → levels.fragment ≡ a.levels.fragment
      → HasReadArray rack a.store mid → HasMovedArray rack mid last → SameWritten (stores.table_of mid) (stores.table_of last) → Relabels rack (line_of a) mid last a.label label
      → HasMoved a (record a { store = last; label = label; levels = levels })
  moved_over a mid last label levels well same read moved written labels =
      has_moved a (record a { store = last; label = label; levels = levels }) (record { phase_is = refl; pending = refl; homes = refl; copies = refl; in_use = refl }) same well
      (written_run a mid last read written) (labels_run a mid last label read moved labels) (moved_both rack a.store mid last read moved)

  -- ---- what is inferred

  -- it is kept, and is of this array
  pub record Keeps (a : Volume S R) (kept : KeptInference) : Type 0 where
    pub is : phase.kept a.phase ≡ Some kept
    pub fits : FitsArray (shape_of a) kept

  pub keeps_of : (a : Volume S R) (kept : KeptInference) → IsWell phase rack a → phase.kept a.phase ≡ Some kept → Keeps a kept
  keeps_of a kept well is = record { is = is; fits = subst (λ (k : Option KeptInference). IfSome k (FitsArray (shape_of a))) is well.inferred }

  inferred_of : (a : Volume S R) (kept : KeptInference) (V : List (List ℕ)) → Keeps a kept → StandsFor phase rack a V → inferences.StandsFor kept V
  inferred_of a kept V keeps held = subst (λ (k : Option KeptInference). IfSome k (λ x. inferences.StandsFor x V)) keeps.is held.inferred

  -- the wants are right of each volume for which the inference stands
  pub wants_right : (a : Volume S R) (kept : KeptInference) (wants : List (Option Want)) (V : List (List ℕ)) → Keeps a kept → AreWanted (table_of a) kept wants
      → inferences.StandsFor kept V → AreWants (shape_of a).l (shape_of a).n V wants
  wants_right a kept wants V keeps wanted held =
      let by_bytes = subst (λ (l : ℕ). AreWants l kept.n V wants) keeps.fits.bytes (wanted.are V held) in
      subst (λ (n : ℕ). AreWants (shape_of a).l n V wants) keeps.fits.number by_bytes

  -- ---- the plan, in a state

  module _ (Known : Type 0) (a : Volume S R) (mid : Store R) (kept : KeptInference) (rest : State) (V : List (List ℕ)) where
    module _ (keeps : Keeps a kept) (middle : Known → TellsAll rack mid) (held : Known → StandsFor phase rack a V) where
      sees_wants : (wants : List (Option Want)) → AreWanted (table_of a) kept wants → SeesWants Known (state_of phase rack a rest V) wants
      sees_wants wants wanted = record { fit = wanted.fit; are = λ known. wants_right a kept wants V keeps wanted (inferred_of a kept V keeps (held known)) }

      sees_parents : (parents : List Parent) → AreKnown rack a.store mid parents → SeesParents Known (state_of phase rack a rest V) parents
      sees_parents parents are known = let array = held known in are (middle known) V array.array

      is_plan : (targets : Targets) (found : HasPlan rack a.store mid kept a.homes targets) → IsPlan Known (state_of phase rack a rest V) found.wants found.planned.found
      is_plan targets found = record {
        parents = found.parents;
        sees_wants = sees_wants found.wants found.wanted;
        sees_parents = sees_parents found.parents found.known;
        is = found.planned.by_plan;
      }

      is_cramped : (bad : NoRoom) → HasNoPlan rack a.store mid kept a.homes bad → IsCramped Known (state_of phase rack a rest V) bad
      is_cramped bad found = record {
        wants = found.wants;
        parents = found.parents;
        sees_wants = sees_wants found.wants found.wanted;
        sees_parents = sees_parents found.parents found.known;
        is = found.is;
      }

  -- ---- answers before any move

  -- it is loose, and no boundary is lost
  pub record IsReady (a : Volume S R) : Type 0 where
    pub loose : phase.phase a.phase ≡ LoosePhase
    pub whole : has_lost (shape_of a) (members_of a) ≡ false
    pub in_use : FitsReduced (table_of a) (reduced_of a)

  pub ready_of : (a : Volume S R) → IsWell phase rack a → phase.phase a.phase ≡ LoosePhase → has_lost (shape_of a) (members_of a) ≡ false → IsReady a
  ready_of a well loose whole = record { loose = loose; whole = whole; in_use = well.in_use }

  not_settled : (a : Volume S R) → IsReady a → phase.phase a.phase ≢ SettledPhase
  not_settled a ready settled = loose_not_settled (sym ready.loose ∙ settled)

  pub tend_lost_first : (a : Volume S R) (limit s : ℕ) → IsWell phase rack a → IsLeastLost (shape_of a) (members_of a) s
      → StepsTo phase phase rack a (Tend limit) (LostReply (boundary_at (live_of a) s)) a
  tend_lost_first a limit s well least = steps_from phase rack a a (Tend limit) (LostReply (boundary_at (live_of a) s)) (λ origin rest V label holds. (
    state_of phase rack a rest V,
    same_in phase rack a rest V label holds,
    inl (least_here a s well.in_use least, refl),
    refl,
  ))

  pub settle_lost_first : (a : Volume S R) (s : ℕ) → IsWell phase rack a → IsLeastLost (shape_of a) (members_of a) s → StepsTo phase phase rack a Settle (LostReply (boundary_at (live_of a) s)) a
  settle_lost_first a s well least = steps_from phase rack a a Settle (LostReply (boundary_at (live_of a) s)) (λ origin rest V label holds. (
    state_of phase rack a rest V,
    same_in phase rack a rest V label holds,
    inl (least_here a s well.in_use least, refl),
    refl,
  ))

  -- in a settled volume nothing is done
  pub tend_settled : (a : Volume S R) (limit : ℕ) → phase.phase a.phase ≡ SettledPhase → has_lost (shape_of a) (members_of a) ≡ false
      → StepsTo phase phase rack a (Tend limit) (TendedReply 0 0) a
  tend_settled a limit settled whole = steps_from phase rack a a (Tend limit) (TendedReply 0 0) (λ origin rest V label holds. (
    state_of phase rack a rest V,
    same_in phase rack a rest V label holds,
    (whole, inl (settled, refl, refl, refl)),
    refl,
  ))

  pub settle_settled : (a : Volume S R) → phase.phase a.phase ≡ SettledPhase → has_lost (shape_of a) (members_of a) ≡ false → StepsTo phase phase rack a Settle SettledReply a
  settle_settled a settled whole = steps_from phase rack a a Settle SettledReply (λ origin rest V label holds. (
    state_of phase rack a rest V,
    same_in phase rack a rest V label holds,
    (whole, inl (settled, refl)),
    refl,
  ))

  -- a boundary was lost by reads
  pub tend_lost_reading : (a b : Volume S R) (limit s : ℕ) → IsReady a → HasRead phase rack a b → IsLeastLost (shape_of b) (members_of b) s
      → StepsTo phase phase rack a (Tend limit) (LostReply (boundary_at (live_of b) s)) b
  tend_lost_reading a b limit s ready h least = steps_from phase rack a b (Tend limit) (LostReply (boundary_at (live_of b) s)) (λ origin rest V label holds. (
    read_state phase rack a b h rest V,
    reads_in phase rack a b rest V label h holds,
    inr ((ready.whole, least_on a b s ready.in_use h.beside.in_use h.reads.keeps.shape least), not_settled a ready, inl (reads_stay phase rack a b rest V label h)),
    refl,
  ))

  pub settle_lost_reading : (a b : Volume S R) (s : ℕ) → IsReady a → HasRead phase rack a b → IsLeastLost (shape_of b) (members_of b) s
      → StepsTo phase phase rack a Settle (LostReply (boundary_at (live_of b) s)) b
  settle_lost_reading a b s ready h least = steps_from phase rack a b Settle (LostReply (boundary_at (live_of b) s)) (λ origin rest V label holds. (
    read_state phase rack a b h rest V,
    reads_in phase rack a b rest V label h holds,
    inr ((ready.whole, least_on a b s ready.in_use h.beside.in_use h.reads.keeps.shape least), not_settled a ready, inl (reads_stay phase rack a b rest V label h)),
    refl,
  ))

  -- where each member tells its bytes in the end, the blocks are those for which the volume stood
  held_before : {P : Type 0} → (a b : Volume S R) (V : List (List ℕ)) → HasRead phase rack a b → (Known P rack a → StandsFor phase rack a V) → Known P rack b → StandsFor phase rack a V
  held_before a b V h holds known = holds (told_by rack a.store b.store h.reads.keeps (known.0), known.1)

  -- there is no room
  pub tend_cramped : (a b : Volume S R) (kept : KeptInference) (limit : ℕ) (bad : NoRoom) → IsReady a → Keeps a kept → HasRead phase rack a b
      → HasNoPlan rack a.store b.store kept a.homes bad → StepsTo phase phase rack a (Tend limit) (NoSpaceReply bad) b
  tend_cramped a b kept limit bad ready keeps h found = steps_from phase rack a b (Tend limit) (NoSpaceReply bad) (λ origin rest V label holds. (
    read_state phase rack a b h rest V,
    reads_in phase rack a b rest V label h holds,
    (
      ready.whole,
      not_settled a ready,
      is_cramped (Known (WasHeld rack origin) rack b) a b.store kept rest V keeps (λ known. known.0) (held_before a b V h holds) bad found,
      record { stays = reads_stay phase rack a b rest V label h; unwritten = h.reads.writes },
    ),
    refl,
  ))

  -- what is found of the blocks of a state, where each member tells its bytes in the end
  found_in : {P : Type 0} → (a b : Volume S R) (mid : Store R) (kept : KeptInference) (V : List (List ℕ)) (finds : List (List ℕ) → Type 0) → Keeps a kept
      → (Known P rack b → TellsAll rack mid) → (Known P rack b → StandsFor phase rack a V) → FindsOn rack a.store mid kept finds → Known P rack b → finds V
  found_in a b mid kept V finds keeps middle held found told = let array = held told in found (middle told) V array.array (inferred_of a kept V keeps array)

  pub settle_malformed : (a b : Volume S R) (kept : KeptInference) (kind : BadKind) (n : ℕ) → IsReady a → Keeps a kept → HasRead phase rack a b
      → FindsOn rack a.store b.store kept (λ V. IsFirstMalformation (shape_of a).l (shape_of a).n V kind n) → StepsTo phase phase rack a Settle (MalformedReply kind n) b
  settle_malformed a b kept kind n ready keeps h found = steps_from phase rack a b Settle (MalformedReply kind n) (λ origin rest V label holds. (
    read_state phase rack a b h rest V,
    reads_in phase rack a b rest V label h holds,
    (
      ready.whole,
      not_settled a ready,
      found_in a b b.store kept V (λ v. IsFirstMalformation (shape_of a).l (shape_of a).n v kind n) keeps (λ known. known.0) (held_before a b V h holds) found,
      record { stays = reads_stay phase rack a b rest V label h; unwritten = h.reads.writes },
    ),
    refl,
  ))

  -- a check found the volume sound, over an array that still told its bytes
  pub record IsChecked (a : Volume S R) (kept : KeptInference) (b : Volume S R) : Type 0 where
    pub mid : Store R
    pub told : Tells rack b → TellsAll rack mid
    pub sound : FindsOn rack a.store mid kept (λ V. IsSoundVolume (shape_of a).l (shape_of a).n V)

  pub checked_over : (a : Volume S R) (kept : KeptInference) (first mid : Store R) (b : Volume S R) → HasReadArray rack first mid → (Tells rack b → TellsAll rack mid)
      → FindsOn rack a.store first kept (λ V. IsSoundVolume (shape_of a).l (shape_of a).n V) → IsChecked a kept b
  checked_over a kept first mid b read told sound = record { mid = first; told = λ known. told_by rack first mid read.reads.keeps (told known); sound = sound }

  sound_in : {P : Type 0} → (a b : Volume S R) (kept : KeptInference) (V : List (List ℕ)) → Keeps a kept → IsChecked a kept b → (Known P rack b → StandsFor phase rack a V)
      → Known P rack b → IsSoundVolume (shape_of a).l (shape_of a).n V
  sound_in a b kept V keeps check held = found_in a b check.mid kept V (λ v. IsSoundVolume (shape_of a).l (shape_of a).n v) keeps (λ known. check.told (known.0)) held check.sound

  pub settle_cramped : (a b : Volume S R) (kept : KeptInference) (bad : NoRoom) → IsReady a → Keeps a kept → IsChecked a kept b → HasRead phase rack a b
      → HasNoPlan rack a.store b.store kept a.homes bad → StepsTo phase phase rack a Settle (NoSpaceReply bad) b
  settle_cramped a b kept bad ready keeps check h found = steps_from phase rack a b Settle (NoSpaceReply bad) (λ origin rest V label holds. (
    read_state phase rack a b h rest V,
    reads_in phase rack a b rest V label h holds,
    (
      ready.whole,
      not_settled a ready,
      sound_in a b kept V keeps check (held_before a b V h holds),
      is_cramped (Known (WasHeld rack origin) rack b) a b.store kept rest V keeps (λ known. known.0) (held_before a b V h holds) bad found,
      record { stays = reads_stay phase rack a b rest V label h; unwritten = h.reads.writes },
    ),
    refl,
  ))

  -- each refusal of a check
  pub check_refused : (a b : Volume S R) (kept : KeptInference) (unsettled : Unsettled) → IsReady a → Keeps a kept → HasRead phase rack a b
      → AnswersCheck rack a.store b.store kept (Err unsettled) → StepsTo phase phase rack a Settle (unsettled_reply (unsettled_by (live_of b) unsettled)) b
  check_refused a b kept (Lost s) ready keeps h answer = settle_lost_reading a b s ready h answer
  check_refused a b kept (Malformed kind n) ready keeps h answer = settle_malformed a b kept kind n ready keeps h answer
  check_refused a b kept (NoSpace bad) ready keeps h answer = absurd answer

  -- ---- moves by the plan

  -- a plan was made, and blocks were moved
  pub record HasRun (a : Volume S R) (kept : KeptInference) (targets : Targets) (mid : Store R) (b : Volume S R) : Type 0 where
    pub keeps : Keeps a kept
    pub read : HasReadArray rack a.store mid
    pub plan : HasPlan rack a.store mid kept a.homes targets
    pub told : Tells rack b → TellsAll rack mid
    pub moves : HasMoved a b

  pub run_over : (a : Volume S R) (kept : KeptInference) (targets : Targets) (mid : Store R) (b : Volume S R) → IsWell phase rack a → phase.kept a.phase ≡ Some kept
      → HasReadArray rack a.store mid → HasPlan rack a.store mid kept a.homes targets → HasMovedArray rack mid b.store → HasMoved a b → HasRun a kept targets mid b
  run_over a kept targets mid b well is read plan moved moves = record {
    keeps = keeps_of a kept well is;
    read = read;
    plan = plan;
    told = λ told. told_moved rack mid b.store moved told;
    moves = moves;
  }

  -- where the homes stay
  pub ran_over : (a : Volume S R) (kept : KeptInference) (targets : Targets) (mid last : Store R) (label : Option KeptLabel) (levels : Buffers) → IsWell phase rack a
      → phase.kept a.phase ≡ Some kept → levels.fragment ≡ a.levels.fragment → HasReadArray rack a.store mid → HasPlan rack a.store mid kept a.homes targets → HasMovedArray rack mid last
      → SameWritten (stores.table_of mid) (stores.table_of last) → Relabels rack (line_of a) mid last a.label label
      → HasRun a kept targets mid (record a { store = last; label = label; levels = levels })
  ran_over a kept targets mid last label levels well is same read plan moved written labels =
      run_over a kept targets mid (record a { store = last; label = label; levels = levels }) well is read plan moved (moved_over a mid last label levels well same read moved written labels)

  module _ (a : Volume S R) (kept : KeptInference) (targets : Targets) (mid : Store R) (b : Volume S R) (run : HasRun a kept targets mid b) where
    -- the targets as the plan has them
    abbrev goals : ℕ → ℕ → Bool
    goals = targets_of (shape_of a) run.plan.wants run.plan.planned.found

    same_goals : wants_of targets ≡ goals
    same_goals = λ i b s. run.plan.planned.same_targets b s i

    -- what holds of the targets and the table between holds of the plan's and of the first
    on_plan : (P : (ℕ → ℕ → Bool) → Table → Type 0) → P (wants_of targets) (stores.table_of mid) → P goals (table_of a)
    on_plan P is = subst (λ (t : Table). P goals t) run.read.reads.table (subst (λ (f : ℕ → ℕ → Bool). P f (stores.table_of mid)) same_goals is)

    held_at : {P : Type 0} → (V : List (List ℕ)) → (Known P rack a → StandsFor phase rack a V) → Known P rack b → StandsFor phase rack a V
    held_at V holds told = holds (told_before a b run.moves told)

    plan_at : {P : Type 0} → (rest : State) (V : List (List ℕ)) → (Known P rack a → StandsFor phase rack a V)
        → IsPlan (Known P rack b) (state_of phase rack a rest V) run.plan.wants run.plan.planned.found
    plan_at {P = p} rest V holds = is_plan (Known p rack b) a mid kept rest V run.keeps (λ known. run.told (known.0)) (held_at V holds) targets run.plan

    cut_at : {P : Type 0} → (rest : State) (V : List (List ℕ)) (limit : Option ℕ) → StandsUnder rack a rest.label → b.homes ≡ a.homes → (Known P rack a → StandsFor phase rack a V)
        → IsCutByLoss (wants_of targets) limit (stores.table_of mid) (table_of b) (members_of b) → IsCut (Known P rack b) (state_of phase rack a rest V) limit (moved_state a b run.moves rest V)
    cut_at rest V limit label homes holds cut = record {
      wants = run.plan.wants;
      found = run.plan.planned.found;
      planned = plan_at rest V holds;
      goes = moved_goes a b rest V label run.moves;
      cut = on_plan (λ f t. IsCutByLoss f limit t (table_of b) (members_of b)) cut;
      rest = λ i. record (on_label a b run.moves.labels.opens rest) {
        boundaries = (run.moves.in_use i).boundaries;
        live = (run.moves.in_use i).live.items;
        cut = (run.moves.in_use i).cut.items;
        table = table_of b;
        blocks = V;
        pending = marks_moved a b run.moves i;
        homes = homes i;
        copies = run.moves.copies i;
        phase = phase.phase (run.moves.phase_is i);
        members = members_of b;
        counts = rack.counts (rack_of b);
      };
    }

    -- a loss ended the moves, before any of them or at one
    abbrev pub IsEnded : Option ℕ → Type 0
    IsEnded limit = (table_of b ≡ stores.table_of mid) ⊎ IsCutByLoss (wants_of targets) limit (stores.table_of mid) (table_of b) (members_of b)

    -- where nothing was to be moved the rack wasn't called by moves
    abbrev pub IsStill : Option ℕ → Type 0
    IsStill limit = within limit (missing_in (wants_of targets) (stores.table_of mid)) ≡ 0 → rack_of b ≡ stores.rack_of mid

    still_at : (rest : State) (V : List (List ℕ)) (next : State) (limit : Option ℕ) → IsStill limit → next.counts.writes ≡ (rack.counts (rack_of b)).writes
        → MovesNothing goals limit (state_of phase rack a rest V) next
    still_at rest V next limit still same none =
        let quiet = on_plan (λ f t. within limit (missing_in f t) ≡ 0 → rack_of b ≡ stores.rack_of mid) still in
        same ∙ ap (λ (r : R). (rack.counts r).writes) (quiet none) ∙ run.read.reads.writes

    pub tend_lost_moving : (limit s : ℕ) → IsReady a → b.homes ≡ a.homes → IsLeastLost (shape_of b) (members_of b) s
        → IsEnded (Some limit) → StepsTo phase phase rack a (Tend limit) (LostReply (boundary_at (live_of b) s)) b
    tend_lost_moving limit s ready homes least ended = steps_from phase rack a b (Tend limit) (LostReply (boundary_at (live_of b) s)) (λ origin rest V label holds. (
      moved_state a b run.moves rest V,
      moved_in a b rest V label run.moves holds,
      inr (
        (ready.whole, least_on a b s ready.in_use run.moves.in_use run.moves.array.stays.shape least),
        not_settled a ready,
        elim ended [
          | inl same ↦ inl (moved_stays a b rest V label run.moves (same ∙ run.read.reads.table) homes)
          | inr cut ↦ inr (cut_at rest V (Some limit) label homes holds cut)
        ],
      ),
      refl,
    ))

    pub settle_lost_moving : (s : ℕ) → IsReady a → IsChecked a kept b → b.homes ≡ a.homes → IsLeastLost (shape_of b) (members_of b) s
        → IsEnded None → StepsTo phase phase rack a Settle (LostReply (boundary_at (live_of b) s)) b
    settle_lost_moving s ready check homes least ended = steps_from phase rack a b Settle (LostReply (boundary_at (live_of b) s)) (λ origin rest V label holds. (
      moved_state a b run.moves rest V,
      moved_in a b rest V label run.moves holds,
      inr (
        (ready.whole, least_on a b s ready.in_use run.moves.in_use run.moves.array.stays.shape least),
        not_settled a ready,
        elim ended [
          | inl same ↦ inl (moved_stays a b rest V label run.moves (same ∙ run.read.reads.table) homes)
          | inr cut ↦ inr (sound_in a b kept V run.keeps check (held_at V holds), cut_at rest V None label homes holds cut)
        ],
      ),
      refl,
    ))

    pub tend_done : (limit m l : ℕ) → IsReady a → b.homes ≡ a.homes → has_lost (shape_of b) (members_of b) ≡ false
        → IsTended (wants_of targets) limit (stores.table_of mid) (table_of b) m l → IsStill (Some limit) → StepsTo phase phase rack a (Tend limit) (TendedReply m l) b
    tend_done limit m l ready homes live is still = steps_from phase rack a b (Tend limit) (TendedReply m l) (λ origin rest V label holds.
        let done = on_plan (λ f t. IsTended f limit t (table_of b) m l) is in (
          moved_state a b run.moves rest V,
          moved_in a b rest V label run.moves holds,
          (
            ready.whole,
            inr (
              not_settled a ready,
              live,
              record {
                wants = run.plan.wants;
                found = run.plan.planned.found;
                planned = plan_at rest V holds;
                goes = moved_goes a b rest V label run.moves;
                rest = λ i. record (on_label a b run.moves.labels.opens rest) {
                  boundaries = (run.moves.in_use i).boundaries;
                  live = (run.moves.in_use i).live.items;
                  cut = (run.moves.in_use i).cut.items;
                  table = done.table i;
                  blocks = V;
                  pending = marks_moved a b run.moves i;
                  homes = homes i;
                  copies = run.moves.copies i;
                  phase = phase.phase (run.moves.phase_is i);
                  members = members_of b;
                  counts = rack.counts (rack_of b);
                };
                met = done.met;
                left = done.left;
                still = still_at rest V (moved_state a b run.moves rest V) (Some limit) still refl;
              },
            ),
          ),
          refl,
        ))

    -- the step of settling, to a state of a settled volume
    pub settle_step : {P : Type 0} → IsReady a → IsChecked a kept b → b.homes ≡ run.plan.planned.found.homes → has_lost (shape_of b) (members_of b) ≡ false
        → table_of b ≡ moved (wants_of targets) None (stores.table_of mid) → IsStill None
        → (rest : State) (V : List (List ℕ)) → StandsUnder rack a rest.label → (Known P rack a → StandsFor phase rack a V)
        → (last : Option LastLabel) × StandsUnder rack b last
        × Step (Known P rack b) (state_of phase rack a rest V) Settle SettledReply (record (state_of phase rack b rest V) { phase = SettledPhase; label = last })
    settle_step ready check homes live is still rest V label holds =
        let done = on_plan (λ f t. table_of b ≡ moved f None t) is in (
          (on_label a b run.moves.labels.opens rest).label,
          under_by rack a b (line_moved a b run.moves) run.moves.labels run.moves.labeled rest.label label,
          (
            ready.whole,
            inr (
              not_settled a ready,
              live,
              record {
                wants = run.plan.wants;
                found = run.plan.planned.found;
                planned = plan_at rest V holds;
                goes = record {
                  passes = record {
                    counts = run.moves.array.stays.stays.rise;
                    label = moved_passes a b rest label run.moves;
                    paired = run.moves.array.sound.paired;
                    faults = record { fell = run.moves.array.faults.fell; beyond = run.moves.array.faults.beyond };
                  };
                  members = run.moves.array.falls;
                  out = run.moves.array.outs;
                };
                sound = sound_in a b kept V run.keeps check (held_at V holds);
                rest = λ i. record (on_label a b run.moves.labels.opens rest) {
                  boundaries = (run.moves.in_use i).boundaries;
                  live = (run.moves.in_use i).live.items;
                  cut = (run.moves.in_use i).cut.items;
                  table = done i;
                  blocks = V;
                  pending = marks_moved a b run.moves i;
                  homes = homes i;
                  copies = run.moves.copies i;
                  phase = SettledPhase;
                  members = members_of b;
                  counts = rack.counts (rack_of b);
                };
                still = still_at rest V (moved_state a b run.moves rest V) None still refl;
              },
            ),
          ),
        )
