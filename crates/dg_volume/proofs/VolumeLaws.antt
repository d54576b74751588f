-- What calls that keep all of a volume but its array leave of it.
use Rattle.std.proofs.Common.{◌≡◌, ◌∙◌, ◌<◌, ◌≤◌, ◌/◌, ℕ, Bool, true, List, length, refl, sym, ap, subst}
use Rattle.std.specs.Prelude.{IfSome, Option}
use Rattle.dg_infer.specs.Meanings as inferences
use Rattle.dg_io.specs.RackCalls.{RackCall}
use Rattle.dg_io.specs.Told.{StillTold}
use Rattle.dg_io.specs.declared.outside.Rack.{Ghosts}
use Rattle.dg_model.proofs.MemberLaws.{NoneRecovers, good_was, has_lost_at, has_lost_from, lost_stays}
use Rattle.dg_label.specs.Labels.{IsLabeled, StandsLabeled}
use Rattle.dg_label.specs.declared.labels.KeptLabel.{KeptLabel}
use Rattle.dg_model.specs.Changes.{Stays}
use Rattle.dg_model.specs.Members.{MembersFall, is_filling}
use Rattle.dg_model.specs.Saves.{AreHomes}
use Rattle.dg_model.specs.Seals.{KeepsLabel, LastLabel, label_after}
use Rattle.dg_model.specs.States.{CountsRise, State, has_lost}
use Rattle.dg_model.specs.Steps.{Step}
use Rattle.dg_model.specs.Tables.{Table}
use Rattle.dg_model.specs.declared.events.Event.{Event}
use Rattle.dg_model.specs.declared.homes.Home.{Home}
use Rattle.dg_model.specs.declared.members.MemberState.{MemberState}
use Rattle.dg_model.specs.declared.members.MemberState.TheVariants.{Out}
use Rattle.dg_model.specs.declared.replies.Reply.{Reply}
use Rattle.dg_model.specs.declared.shapes.Shape.{Shape}
use Rattle.dg_store.specs.Leaves.{IsCallBelow, MadeBelow}
use Rattle.dg_store.specs.ReadLaws.{own_none, rack_none}
use Rattle.dg_store.specs.Stores.{IsSound, KeepsBlocks}
use Rattle.dg_store.specs.Views.{ReadsOn}
use Rattle.dg_volume.proofs.FaultLaws.{keeps_outs, keeps_tells}
use Rattle.dg_volume.proofs.LabelLaws.{keeps_label, relabels_read, stands_same}
use Rattle.dg_volume.proofs.UseLaws.{fits_table, long_on}
use Rattle.dg_volume.specs.Origins.{Origin, WasHeld}
use Rattle.dg_volume.specs.Faults.{OutsStay, TellsFaults}
use Rattle.dg_volume.specs.Seals.{Relabels}
use Rattle.dg_volume.specs.Volumes.{FitsArray, HasLabel, IsInPlace, IsWell, Known, Leaves, LeavesBy, StandsFor, StandsIn, StandsUnder, StepsBy, StepsTo, line_of, marks_by, marks_of, members_of, rack_of, shape_of, state_of, table_of}
use Rattle.dg_volume.specs.declared.in_use.InUse.{InUse}
use Rattle.dg_volume.specs.declared.phases.InPhase as phases
use Rattle.dg_volume.specs.declared.volumes.Volume.{Volume}

pub lost_on : (shape : Shape) (old new : ℕ → MemberState) → NoneRecovers old new → has_lost shape old ≡ true → has_lost shape new ≡ true
lost_on shape old new back lost =
    let found = has_lost_from shape old lost in
    has_lost_at shape new found.0 found.1 (lost_stays old new found.0 back found.2)

-- ---- the label

-- the rest of a state, with the label that calls left
abbrev pub on_label : {S T R : Type 0} → Volume S R → Volume T R → Bool → State → State
on_label a b opens rest = record rest { label = label_after opens (members_of a) (members_of b) rest.label }

-- what calls left of the label of a volume
abbrev pub Labels : {S T R : Type 0} → Ghosts R → Volume S R → Volume T R → Type 0
Labels rack a b = Relabels rack (line_of a) a.store b.store a.label b.label

-- the label that they left is one that a step leaves
pub label_by : {S T R : Type 0} (rack : Ghosts R) (a : Volume S R) (b : Volume T R) (h : Labels rack a b) (last : Option LastLabel) → StandsUnder rack a last
    → KeepsLabel (rack.counts (rack_of a)).writes (rack.counts (rack_of b)).writes (members_of a) (members_of b) last (label_after h.opens (members_of a) (members_of b) last)
label_by rack a b h last stands = keeps_label rack (line_of a) a.store b.store a.label b.label h last stands.kept

-- members are as long by the same numbers
pub line_same : {S T R : Type 0} (a : Volume S R) (b : Volume T R) → b.in_use.long ≡ a.in_use.long → shape_of b ≡ shape_of a → line_of b ≡ line_of a
line_same a b same shape i = record (shape i) { b = same i }

-- the label that they left fits the array
pub labeled_by : {S T R : Type 0} (rack : Ghosts R) (a : Volume S R) (b : Volume T R) → line_of b ≡ line_of a → Labels rack a b → HasLabel rack a → HasLabel rack b
labeled_by rack a b line labels labeled = subst (λ (x : Shape). IsLabeled rack x b.store b.label) (sym line) (labels.labeled labeled)

-- and stands on the members that keep it
pub under_by : {S T R : Type 0} (rack : Ghosts R) (a : Volume S R) (b : Volume T R) → line_of b ≡ line_of a → (labels : Labels rack a b) → HasLabel rack a → (last : Option LastLabel)
    → StandsUnder rack a last → StandsUnder rack b (label_after labels.opens (members_of a) (members_of b) last)
under_by rack a b line labels labeled last stands =
    subst (λ (x : Shape). StandsLabeled rack x b.store b.label (label_after labels.opens (members_of a) (members_of b) last)) (sym line) (labels.stands last labeled stands)

module _ {S R : Type 0} (phase : phases.Ghosts S) (rack : Ghosts R) where
  -- all but the array, the label and the buffers is as it was
  pub record IsBeside (a b : Volume S R) : Type 0 where
    pub phase_is : b.phase ≡ a.phase
    pub pending : b.pending ≡ a.pending
    pub homes : b.homes ≡ a.homes
    pub copies : b.copies ≡ a.copies
    pub in_use : b.in_use ≡ a.in_use

  -- what any such call keeps of the array, by which calls it makes of the rack
  pub record KeepsBy (may : ℕ → RackCall → Type 0) (a b : Volume S R) : Type 0 where
    pub beside : IsBeside a b
    pub labeled : HasLabel rack a
    pub levels : b.levels.fragment ≡ a.levels.fragment
    pub sound : IsSound rack b.store
    pub table : table_of b ≡ table_of a
    pub rise : CountsRise (rack.counts (rack_of a)) (rack.counts (rack_of b))
    pub tells : StillTold (rack.bytes (rack_of a)) (rack.bytes (rack_of b))
    pub told_before : (q : ℕ) → rack.tells (rack_of b) q → rack.tells (rack_of a) q
    pub own : MadeBelow rack may (shape_of a).b (rack_of a) (rack_of b)
    pub same_rack : rack.name (rack_of b) ≡ rack.name (rack_of a)
    pub back : NoneRecovers (members_of a) (members_of b)
    pub stands : KeepsBlocks rack a.store b.store
    pub labels : Labels rack a b
    pub faults : TellsFaults rack a.store b.store

  abbrev pub Keeps : Volume S R → Volume S R → Type 0
  Keeps a b = KeepsBy IsCallBelow a b

  pub shape_kept : (a b : Volume S R) → {may : ℕ → RackCall → Type 0} → KeepsBy may a b → shape_of b ≡ shape_of a
  shape_kept a b keeps = ap (λ (t : Table). t.shape) keeps.table

  -- so are the numbers by which members are as long
  pub line_kept : (a b : Volume S R) → {may : ℕ → RackCall → Type 0} → KeepsBy may a b → line_of b ≡ line_of a
  line_kept a b keeps = line_same a b (ap (λ (u : InUse). u.long) keeps.beside.in_use) (shape_kept a b keeps)

  marks_kept : (a b : Volume S R) → IsBeside a b → marks_of phase b ≡ marks_of phase a
  marks_kept a b beside = λ i. marks_by (phase.kept (beside.phase_is i)) ((beside.pending i).items)

  in_place_on : (a b : Volume S R) → {may : ℕ → RackCall → Type 0} → KeepsBy may a b → IsInPlace (table_of a) (phase.kept a.phase) a.homes a.copies
      → IsInPlace (table_of b) (phase.kept b.phase) b.homes b.copies
  in_place_on a b keeps placed =
      let by_table = subst (λ (t : Table). IsInPlace t (phase.kept a.phase) a.homes a.copies) (sym keeps.table) placed in
      let by_phase = subst (λ (p : S). IsInPlace (table_of b) (phase.kept p) a.homes a.copies) (sym keeps.beside.phase_is) by_table in
      let by_homes = subst (λ (x : List Home). IsInPlace (table_of b) (phase.kept b.phase) x a.copies) (sym keeps.beside.homes) by_phase in
      subst (λ (x : List Home). IsInPlace (table_of b) (phase.kept b.phase) b.homes x) (sym keeps.beside.copies) by_homes

  well_on : (a b : Volume S R) → IsWell phase rack a → {may : ℕ → RackCall → Type 0} → KeepsBy may a b → IsWell phase rack b
  well_on a b well keeps =
      let shape = shape_kept a b keeps in
      let fits = subst (λ (x : Shape). IfSome (phase.kept a.phase) (FitsArray x)) (sym shape) well.inferred in
      let homes = subst (λ (x : Shape). AreHomes x a.homes) (sym shape) well.homes_are in
      let copies = subst (λ (x : Shape). AreHomes x a.copies) (sym shape) well.copies_are in
      record {
        array = keeps.sound;
        levels = keeps.levels ∙ well.levels ∙ sym (ap (λ (x : Shape). x.l) shape);
        marks = ap length (marks_kept a b keeps.beside) ∙ well.marks ∙ sym (ap (λ (x : Shape). x.n) shape);
        inferred = subst (λ (p : S). IfSome (phase.kept p) (FitsArray (shape_of b))) (sym keeps.beside.phase_is) fits;
        labeled = labeled_by rack a b (line_same a b (ap (λ (u : InUse). u.long) keeps.beside.in_use) shape) keeps.labels keeps.labeled;
        in_use = fits_table a b keeps.beside.in_use keeps.table well.in_use;
        long = long_on a b keeps.beside.in_use well.long;
        homes_are = subst (λ (x : List Home). AreHomes (shape_of b) x) (sym keeps.beside.homes) homes;
        few_homes =
            subst (λ (x : List Home). length x ≤ (shape_of b).n) (sym keeps.beside.homes)
            (subst (λ (x : Shape). length a.homes ≤ x.n) (sym shape) well.few_homes);
        copies_are = subst (λ (x : List Home). AreHomes (shape_of b) x) (sym keeps.beside.copies) copies;
        uncopied = λ unsettled. keeps.beside.copies ∙ well.uncopied (λ settled. unsettled (ap phase.phase keeps.beside.phase_is ∙ settled));
        worn = λ worn.
            let lost = lost_on (shape_of a) (members_of a) (members_of b) keeps.back (well.worn (ap phase.phase (sym keeps.beside.phase_is) ∙ worn)) in
            ap (λ (x : Shape). has_lost x (members_of b)) shape ∙ lost;
        settled = λ settled. in_place_on a b keeps (well.settled (ap phase.phase (sym keeps.beside.phase_is) ∙ settled));
      }

  pub leaves : (a b : Volume S R) → IsWell phase rack a → {may : ℕ → RackCall → Type 0} → KeepsBy may a b → LeavesBy phase phase rack may a b
  leaves a b well keeps = record { well = well_on a b well keeps; shape = shape_kept a b keeps; boundaries = ap (λ (u : InUse). u.boundaries) keeps.beside.in_use; live = ap (λ (u : InUse). u.live.items) keeps.beside.in_use; line = line_kept a b keeps; rise = keeps.rise; tells = keeps.tells; told_before = keeps.told_before; own = keeps.own; same_rack = keeps.same_rack }

  -- no call was made
  pub leaves_none : (a : Volume S R) → IsWell phase rack a → Leaves phase phase rack a a
  leaves_none a well = record {
    well = well;
    shape = refl;
    boundaries = refl;
    live = refl;
    line = refl;
    rise = (rack_none rack (rack_of a)).rise;
    tells = λ q told. told;
    told_before = λ q told. told;
    own = own_none rack (shape_of a).b (rack_of a);
    same_rack = refl;
  }

  -- ---- states

  -- a state of the volume, and a step to it from the state with this rest and these blocks that another was in
  abbrev pub StepsAt : Type 0 → (List ℕ → List ℕ) → Volume S R → State → List (List ℕ) → Event → Reply → Volume S R → Type 0
  StepsAt P touch a rest V event reply b =
      (next : State) × StandsIn phase rack P b next × Step (Known P rack b) (state_of phase rack a rest V) event reply next × (next.recent ≡ touch rest.recent)

  -- the same of all such states
  abbrev pub StepsFrom : Volume S R → Event → Reply → Volume S R → Type 0
  StepsFrom a event reply b = (origin : Origin R) (rest : State) (V : List (List ℕ)) → StandsUnder rack a rest.label
      → (Known (WasHeld rack origin) rack a → StandsFor phase rack a V) → StepsAt (WasHeld rack origin) (λ recent. recent) a rest V event reply b

  pub steps_by : (touch : List ℕ → List ℕ) (a b : Volume S R) (event : Event) (reply : Reply)
      → ((origin : Origin R) (rest : State) (V : List (List ℕ)) → StandsUnder rack a rest.label
      → (Known (WasHeld rack origin) rack a → StandsFor phase rack a V) → StepsAt (WasHeld rack origin) touch a rest V event reply b)
      → StepsBy phase phase rack touch a event reply b
  steps_by touch a b event reply h origin state st =
      subst (λ (s : State). (next : State) × StandsIn phase rack (WasHeld rack origin) b next × Step (Known (WasHeld rack origin) rack b) s event reply next × (next.recent ≡ touch s.recent))
      (sym st.is) (h origin state state.blocks st.label st.holds)

  pub steps_from : (a b : Volume S R) (event : Event) (reply : Reply) → StepsFrom a event reply b → StepsTo phase phase rack a event reply b
  steps_from a b event reply h = steps_by (λ recent. recent) a b event reply h

  -- what is told in the end was told before
  pub told_before : {P : Type 0} → (a b : Volume S R) → {may : ℕ → RackCall → Type 0} → KeepsBy may a b → Known P rack b → Known P rack a
  told_before a b keeps known = (λ q below. keeps.told_before q (known.0 q (subst (λ (s : Shape). q / 2 < s.b) (sym (shape_kept a b keeps)) below)), known.1)

  pub holds_on : (a b : Volume S R) (V : List (List ℕ)) → {may : ℕ → RackCall → Type 0} → KeepsBy may a b → StandsFor phase rack a V → StandsFor phase rack b V
  holds_on a b V keeps holds = record {
    array = keeps.stands V holds.array;
    inferred = subst (λ (p : S). IfSome (phase.kept p) (λ kept. inferences.StandsFor kept V)) (sym keeps.beside.phase_is) holds.inferred;
  }

  -- the state that it is in then, with this rest and these blocks
  abbrev pub kept_state : (a b : Volume S R) → {may : ℕ → RackCall → Type 0} → KeepsBy may a b → State → List (List ℕ) → State
  kept_state a b keeps rest V = state_of phase rack b (on_label a b keeps.labels.opens rest) V

  pub still_in : {P : Type 0} → (a b : Volume S R) (rest : State) (V : List (List ℕ)) → StandsUnder rack a rest.label → {may : ℕ → RackCall → Type 0} (keeps : KeepsBy may a b)
      → (Known P rack a → StandsFor phase rack a V) → StandsIn phase rack P b (kept_state a b keeps rest V)
  still_in a b rest V label keeps holds = record {
    is = refl;
    label = under_by rack a b (line_kept a b keeps) keeps.labels keeps.labeled rest.label label;
    holds = λ told. holds_on a b V keeps (holds (told_before a b keeps told));
  }

  -- nothing was done: it is in the state that it was in
  pub same_in : {P : Type 0} → (a : Volume S R) (rest : State) (V : List (List ℕ)) → StandsUnder rack a rest.label → (Known P rack a → StandsFor phase rack a V)
      → StandsIn phase rack P a (state_of phase rack a rest V)
  same_in a rest V label holds = record { is = refl; label = label; holds = holds }

  -- no call was made on its rack: it is in the state with the same label
  pub quiet_in : {P : Type 0} → (a b : Volume S R) (rest : State) (V : List (List ℕ)) → StandsUnder rack a rest.label → {may : ℕ → RackCall → Type 0} → KeepsBy may a b → rack_of b ≡ rack_of a → b.label ≡ a.label
      → ((q : ℕ) → members_of a q ≡ Out → members_of b q ≡ Out) → ((q : ℕ) → is_filling (members_of b q) ≡ true → is_filling (members_of a q) ≡ true)
      → (Known P rack a → StandsFor phase rack a V) → StandsIn phase rack P b (state_of phase rack b rest V)
  quiet_in a b rest V label keeps same label_is outs fills holds = record {
    is = refl;
    label =
        subst (λ (k : Option KeptLabel). StandsLabeled rack (line_of b) b.store k rest.label) (sym label_is)
        (subst (λ (x : Shape). StandsLabeled rack x b.store a.label rest.label) (sym (line_kept a b keeps))
        (stands_same rack (line_of a) a.store b.store a.label rest.label (shape_kept a b keeps) same outs fills label));
    holds = λ told. holds_on a b V keeps (holds (told_before a b keeps told));
  }

  -- and it stays in it where its members fall
  pub stays : (a b : Volume S R) (rest : State) (V : List (List ℕ)) → StandsUnder rack a rest.label → {may : ℕ → RackCall → Type 0} (keeps : KeepsBy may a b)
      → CountsRise (rack.counts (rack_of a)) (rack.counts (rack_of b))
      → MembersFall (rack.counts (rack_of a)).faults (rack.counts (rack_of b)).faults (members_of a) (members_of b) → OutsStay rack a.store b.store
      → Stays (state_of phase rack a rest V) (kept_state a b keeps rest V)
  stays a b rest V label keeps rises falls outs = record {
    goes = record {
      passes = record { counts = rises; label = label_by rack a b keeps.labels rest.label label; paired = keeps.sound.paired; faults = record { fell = keeps.faults.fell; beyond = keeps.faults.beyond } };
      members = falls;
      out = outs;
    };
    rest = λ i. record (on_label a b keeps.labels.opens rest) {
      boundaries = (keeps.beside.in_use i).boundaries;
      live = (keeps.beside.in_use i).live.items;
      table = keeps.table i;
      blocks = V;
      pending = marks_kept a b keeps.beside i;
      cut = (keeps.beside.in_use i).cut.items;
      homes = keeps.beside.homes i;
      copies = keeps.beside.copies i;
      phase = phase.phase (keeps.beside.phase_is i);
      members = members_of b;
      counts = rack.counts (rack_of b);
    };
  }

  -- ---- reads

  -- what reads left
  pub record HasRead (a b : Volume S R) : Type 0 where
    pub beside : IsBeside a b
    pub levels : b.levels.fragment ≡ a.levels.fragment
    pub sound : IsSound rack b.store
    pub reads : ReadsOn rack a.store b.store
    pub stands : KeepsBlocks rack a.store b.store
    pub labeled : HasLabel rack a
    pub label_is : b.label ≡ a.label

  pub read_keeps : (a b : Volume S R) → HasRead a b → Keeps a b
  read_keeps a b h = record {
    beside = h.beside;
    labeled = h.labeled;
    levels = h.levels;
    sound = h.sound;
    table = h.reads.table;
    rise = h.reads.keeps.stays.rise;
    tells = h.reads.keeps.stays.tells;
    told_before = h.reads.keeps.stays.told_before;
    own = h.reads.keeps.own;
    same_rack = h.reads.keeps.stays.same_rack;
    back = λ q. good_was (rack.counts (rack_of a)).faults (rack.counts (rack_of b)).faults (members_of a) (members_of b) q h.reads.keeps.falls;
    stands = h.stands;
    labels =
        subst (λ (k : Option KeptLabel). Relabels rack (line_of a) a.store b.store a.label k) (sym h.label_is)
        (relabels_read rack (line_of a) a.store b.store a.label h.reads);
    faults = keeps_tells rack a.store b.store h.reads.keeps;
  }

  -- the state that it is in then
  abbrev pub read_state : (a b : Volume S R) → HasRead a b → State → List (List ℕ) → State
  read_state a b h rest V = kept_state a b (read_keeps a b h) rest V

  pub reads_stay : (a b : Volume S R) (rest : State) (V : List (List ℕ)) → StandsUnder rack a rest.label → (h : HasRead a b)
      → Stays (state_of phase rack a rest V) (read_state a b h rest V)
  reads_stay a b rest V label h = stays a b rest V label (read_keeps a b h) h.reads.keeps.stays.rise h.reads.keeps.falls (keeps_outs rack a.store b.store h.reads.keeps)

  pub reads_in : {P : Type 0} → (a b : Volume S R) (rest : State) (V : List (List ℕ)) → StandsUnder rack a rest.label → (h : HasRead a b)
      → (Known P rack a → StandsFor phase rack a V) → StandsIn phase rack P b (read_state a b h rest V)
  reads_in a b rest V label h holds = still_in a b rest V label (read_keeps a b h) holds

  pub reads_leave : (a b : Volume S R) → IsWell phase rack a → HasRead a b → Leaves phase phase rack a b
  reads_leave a b well h = leaves a b well (read_keeps a b h)
