-- A volume makes a step by a save.
use Rattle.std.proofs.Common.{◌≡◌, ◌≢◌, ◌⊎◌, ◌∙◌, ◌<◌, ◌≤◌, ◌+◌, ◌*◌, ◌/◌, ◌^◌, ◌++◌, ℕ, suc, Bool, true, false, List, [], ◌∷◌, length, map, take, get_or, inl, inr, refl, sym, ap, subst, arith}
use Rattle.std.specs.Prelude.{All, Err, IfOk, IfSome, None, Ok, OnErr, Option, Result, Some}
use Rattle.std.specs.Global.{Vec}
use Rattle.std.specs.List.{AllPairs, range_with_len}
use Rattle.std.specs.Option.{option_map}
use Rattle.std.proofs.lemmas.Bool.{cases_lt, false≢true}
use Rattle.std.proofs.lemmas.List.{get_or_past, map-append, take_more}
use Rattle.std.proofs.lemmas.List.FromFn.{get_or-map-range_with_len, length-map-range_with_len, map-range_with_len_more}
use Rattle.dg_io.specs.declared.outside.Rack.{Ghosts}
use Rattle.dg_label.specs.Labels.{IsKeptOf, IsLabeled, StandsLabeled, next_number}
use Rattle.dg_label.specs.Seals.{AnswersSave, HasNoGood, KeepsArrayBy, saved_label}
use Rattle.dg_label.specs.declared.labels.KeptLabel.{KeptLabel}
use Rattle.dg_label.specs.declared.saves.SaveAnswer.{SaveAnswer}
use Rattle.dg_label.specs.declared.saves.SaveAnswer.TheVariants.{Lost, Saved}
use Rattle.dg_model.proofs.MemberLaws.{good_was}
use Rattle.dg_model.specs.Changes.{AreGoodMarks, PassesSave}
use Rattle.dg_model.specs.Homes.{home_of}
use Rattle.dg_model.specs.Lives.{boundary_at}
use Rattle.dg_model.specs.Marks.{is_marked}
use Rattle.dg_model.specs.Members.{is_good}
use Rattle.dg_model.specs.Openings.{FitsReduced}
use Rattle.dg_model.specs.Saves.{AreHomes, CanBeSaved, HasForm, SavedState, body_of, room_of}
use Rattle.dg_model.specs.Seals.{LastLabel, forgotten, next_sequence}
use Rattle.dg_model.specs.States.{State, has_lost}
use Rattle.dg_model.specs.Steps.{Step}
use Rattle.dg_model.specs.Tables.{Table}
use Rattle.dg_model.specs.declared.events.Event.TheVariants.{Save}
use Rattle.dg_model.specs.declared.homes.Home.{Home}
use Rattle.dg_model.specs.declared.phases.Phase.{Phase}
use Rattle.dg_model.specs.declared.phases.Phase.TheVariants.{Loose as LoosePhase, Settled as SettledPhase, Worn as WornPhase}
use Rattle.dg_model.specs.declared.replies.Reply.{Reply}
use Rattle.dg_model.specs.declared.replies.Reply.TheVariants.{Lost as LostReply, Saved as SavedReply}
use Rattle.dg_model.specs.declared.shapes.Shape.{Shape}
use Rattle.dg_model.specs.declared.sites.Site.{Site}
use Rattle.dg_save.specs.Parts.{rows_in}
use Rattle.dg_store.specs.Leaves.{IsCallOrExtendBelow}
use Rattle.dg_store.specs.Stores.{IsSound}
use Rattle.dg_store.specs.Stores as stores
use Rattle.dg_store.specs.declared.store.Store.{Store}
use Rattle.dg_volume.proofs.FaultLaws.{array_outs, array_tells}
use Rattle.dg_volume.proofs.ForgetLaws.{label_forgotten}
use Rattle.dg_volume.proofs.UseLaws.{fits_table, least_on}
use Rattle.dg_volume.proofs.VolumeLaws.{line_same, lost_on}
use Rattle.dg_volume.specs.Origins.{Origin, WasHeld}
use Rattle.dg_volume.specs.Copies.{StepsHot}
use Rattle.dg_volume.specs.Numbers.{save_told}
use Rattle.dg_volume.specs.Saves.{good_marks, save_reply, saved_by}
use Rattle.dg_volume.specs.Settles as settles
use Rattle.dg_volume.specs.Volumes.{FitsArray, IsInPlace, IsWell, Known, LeavesBy, StandsFor, StandsIn, StandsUnder, cut_of, line_of, live_of, marks_of, reduced_of, shape_of, state_of, table_of}
use Rattle.dg_volume.specs.declared.phases.InPhase as phases
use Rattle.dg_volume.specs.declared.volumes.Volume.{Volume}

-- ---- lists

-- one more row
pub row_more : (rows : List (List Site)) (lists : List (Vec Site)) (row : Vec Site) (b : ℕ) → b < length rows → rows_in lists ≡ take b rows → row.items ≡ get_or rows b []
    → rows_in (lists ++ row ∷ []) ≡ take (b + 1) rows
row_more rows lists row b low same is =
    map-append (λ (v : Vec Site). v.items) lists (row ∷ [])
    ∙ ap (λ (xs : List (List Site)). xs ++ row.items ∷ []) same
    ∙ ap (λ (xs : List Site). take b rows ++ xs ∷ []) is
    ∙ sym (take_more rows b [] low)

-- one more mark
pub mark_more : (good : ℕ → Bool) (n : ℕ) (old new : List Bool) (x : Bool) → new ≡ old ++ x ∷ [] → old ≡ map good (range_with_len 0 n) → x ≡ good n
    → new ≡ map good (range_with_len 0 (n + 1))
mark_more good n old new x added same is =
    added
    ∙ ap (λ (xs : List Bool). xs ++ x ∷ []) same
    ∙ ap (λ (y : Bool). map good (range_with_len 0 n) ++ y ∷ []) is
    ∙ sym (map-range_with_len_more good 0 n n (omega arith))

-- marks are equal where each of them is
pub marks_same : (xs ys : List Bool) → length xs ≡ length ys → ((b : ℕ) → is_marked xs b ≡ is_marked ys b) → xs ≡ ys
marks_same [] [] size each = refl
marks_same [] (y ∷ ys) size each = absurd (omega (arith, size))
marks_same (x ∷ xs) [] size each = absurd (omega (arith, size))
marks_same (x ∷ xs) (y ∷ ys) size each =
    let rest : xs ≡ ys = marks_same xs ys (omega (arith, size)) (λ b. each (suc b)) in
    λ i. each 0 i ∷ rest i

-- ---- the state that is saved

settled_or : (p : Phase) → (p ≡ SettledPhase) ⊎ (p ≢ SettledPhase)
settled_or LoosePhase = inr (λ e. cc e)
settled_or SettledPhase = inl refl
settled_or WornPhase = inr (λ e. cc e)

none_home : (i t : ℕ) → home_of [] i ≡ Some t → ⊥
none_home i t e = cc e

-- the parts that are saved
pub saved_parts : {S R : Type 0} (phase : phases.Ghosts S) (a : Volume S R) (shape : Shape) (now : Phase) (good : List Bool) (rows : List (List Site)) (pending : List Bool)
    (homes copies : List Home) (numbers recent : List ℕ) → shape ≡ shape_of a → now ≡ phase.phase a.phase → good ≡ good_marks a.store → rows ≡ (table_of a).rows
    → pending ≡ marks_of phase a → homes ≡ a.homes → copies ≡ a.copies → numbers ≡ recent
    → saved_by phase a recent ≡ record {
      phase = now;
      good = good;
      table = record { shape = shape; rows = rows };
      pending = pending;
      homes = homes;
      copies = copies;
      recent = numbers;
    }
saved_parts phase a shape now good rows pending homes copies numbers recent e0 e1 e2 e3 e4 e5 e6 e7 = λ i. record {
  phase = sym e1 i;
  good = sym e2 i;
  table = record { shape = sym e0 i; rows = sym e3 i };
  pending = sym e4 i;
  homes = sym e5 i;
  copies = sym e6 i;
  recent = sym e7 i;
}

-- what is so whatever the value of a result is
pub of_any : {T E P : Type 0} (result : Result T E) → P → IfOk result (λ x. P)
of_any (Ok x) p = p
of_any (Err e) p = tt

-- a body is no longer than its room
pub bodies_fit : {E : Type 0} (state : SavedState) (shape : Shape) (result : Result (Vec ℕ) E) → state.table.shape ≡ shape → length (body_of 2 state) ≤ room_of 2 state.table.shape
    → IfOk result (λ bytes. bytes.items ≡ body_of 2 state) → IfOk result (λ bytes. length bytes.items ≤ room_of 2 shape)
bodies_fit state shape (Ok bytes) same room is =
    subst (λ (sh : Shape). length bytes.items ≤ room_of 2 sh) same (subst (λ (xs : List ℕ). length xs ≤ room_of 2 state.table.shape) (sym is) room)
bodies_fit state shape (Err e) same room is = tt

module _ {S R : Type 0} (phase : phases.Ghosts S) (rack : Ghosts R) where
  pub can_save : (a : Volume S R) (recent : List ℕ) → IsWell phase rack a → length recent ≤ 16 → All (λ i. i < 2 ^ 32) recent → AllPairs (λ i j. i ≢ j) recent
      → HasForm 2 (saved_by phase a recent)
  can_save a recent well few fit once = record {
    can = record {
      members = length-map-range_with_len (λ q. is_good (stores.members_of a.store q)) 0 (2 * (shape_of a).b);
      table = well.array.table;
      marks = well.marks;
      homes = well.homes_are;
      few_homes = well.few_homes;
      copies = well.copies_are;
      settled = λ some. elim (settled_or (phase.phase a.phase)) [
        | inl is ↦ is
        | inr other ↦ absurd (let none = ap (λ (xs : List Home). length xs) (well.uncopied other) in omega (arith, none, some))
      ];
      elsewhere = λ i t copied. elim (settled_or (phase.phase a.phase)) [
        | inl is ↦ let placed = well.settled is in let home = placed.placed.copies_are i t copied in (home.0, home.1, λ e. home.2 (sym e))
        | inr other ↦ absurd (none_home i t (sym (ap (λ (xs : List Home). home_of xs i) (well.uncopied other)) ∙ copied))
      ];
      few_recent = few;
      recent = fit;
      once = once;
    };
    formats = inr refl;
    no_copies = λ e. absurd (omega (arith, e));
    no_recent = λ e. absurd (omega (arith, e));
  }

  -- ---- what a save leaves

  module _ (a : Volume S R) (store : Store R) (label : Option KeptLabel) (keeps : KeepsArrayBy rack IsCallOrExtendBelow a.store store) where
    abbrev after : Volume S R
    after = record a { store = store; label = label }

    shape : stores.shape_of store ≡ shape_of a
    shape = keeps.stays.shape

    line : line_of after ≡ line_of a
    line = line_same a after refl shape

    saved_well : IsWell phase rack a → IsLabeled rack (line_of a) store label → IsWell phase rack after
    saved_well well labeled = record {
      array = keeps.sound;
      levels = well.levels ∙ sym (ap (λ (x : Shape). x.l) shape);
      marks = well.marks ∙ sym (ap (λ (x : Shape). x.n) shape);
      inferred = subst (λ (x : Shape). IfSome (phase.kept a.phase) (FitsArray x)) (sym shape) well.inferred;
      labeled = subst (λ (x : Shape). IsLabeled rack x store label) (sym line) labeled;
      in_use = fits_table a after refl keeps.table well.in_use;
      long = well.long;
      homes_are = subst (λ (x : Shape). AreHomes x a.homes) (sym shape) well.homes_are;
      few_homes = subst (λ (x : Shape). length a.homes ≤ x.n) (sym shape) well.few_homes;
      copies_are = subst (λ (x : Shape). AreHomes x a.copies) (sym shape) well.copies_are;
      uncopied = well.uncopied;
      worn = λ worn.
          let back = λ (q : ℕ) (good : is_good (stores.members_of store q) ≡ true). good_was _ _ (stores.members_of a.store) (stores.members_of store) q keeps.falls good in
          ap (λ (x : Shape). has_lost x (stores.members_of store)) shape
          ∙ lost_on (shape_of a) (stores.members_of a.store) (stores.members_of store) back (well.worn worn);
      settled = λ settled. subst (λ (t : Table). IsInPlace t (phase.kept a.phase) a.homes a.copies) (sym keeps.table) (well.settled settled);
    }

    pub save_leaves : IsWell phase rack a → IsLabeled rack (line_of a) store label → LeavesBy phase phase rack IsCallOrExtendBelow a after
    save_leaves well labeled = record {
      well = saved_well well labeled;
      shape = shape;
      boundaries = refl;
      live = refl;
      line = line;
      rise = keeps.stays.stays.rise;
      tells = keeps.stays.stays.tells;
      told_before = keeps.stays.stays.told_before;
      own = keeps.stays.own;
      same_rack = keeps.stays.stays.same_rack;
    }

    told_before : {P : Type 0} → Known P rack after → Known P rack a
    told_before known = (λ q below. keeps.stays.stays.told_before q (known.0 q (subst (λ (s : Shape). q / 2 < s.b) (sym shape) below)), known.1)

    passes : (rest : State) (V : List (List ℕ)) (next : Option LastLabel)
        → PassesSave (state_of phase rack a rest V) (record (state_of phase rack after rest V) { label = next })
    passes rest V next =
        let faults = array_tells rack a.store store keeps in
        record {
          counts = keeps.stays.stays.rise;
          members = keeps.falls;
          paired = keeps.sound.paired;
          faults = record { fell = faults.fell; beyond = faults.beyond };
          out = array_outs rack a.store store keeps;
        }

    still_stands : {P : Type 0} → (rest : State) (V : List (List ℕ)) (next : Option LastLabel) → StandsLabeled rack (line_of a) store label next → (Known P rack a → StandsFor phase rack a V)
        → StandsIn phase rack P after (record (state_of phase rack after rest V) { label = next })
    still_stands rest V next stands holds = record {
      is = refl;
      label = subst (λ (x : Shape). StandsLabeled rack x store label next) (sym line) stands;
      holds = λ told. let had = holds (told_before told) in record { array = keeps.stands V had.array; inferred = had.inferred };
    }

    -- ---- each good member was saved

    good_below : (q : ℕ) → IsSound rack a.store → is_good (stores.members_of a.store q) ≡ true → q < 2 * (shape_of a).b
    good_below q sound good = elim (cases_lt (q / 2) (shape_of a).b) [
      | inl low ↦ omega (arith, low)
      | inr high ↦ absurd (false≢true (sym (ap is_good (sound.others q high)) ∙ good))
    ]

    marked_at : (q : ℕ) → q < 2 * (shape_of a).b → is_marked (good_marks a.store) q ≡ is_good (stores.members_of a.store q)
    marked_at q low = get_or-map-range_with_len (λ p. is_good (stores.members_of a.store p)) 0 (2 * (shape_of a).b) q q false low (omega arith)

    marks_are : IsSound rack a.store → (rest : State) (V : List (List ℕ)) (next : Option LastLabel)
        → AreGoodMarks (state_of phase rack a rest V) (record (state_of phase rack after rest V) { label = next }) (good_marks a.store)
    marks_are sound rest V next = record {
      size = length-map-range_with_len (λ q. is_good (stores.members_of a.store q)) 0 (2 * (shape_of a).b);
      still = λ q good.
          let was = good_was _ _ (stores.members_of a.store) (stores.members_of store) q keeps.falls good in
          marked_at q (good_below q sound was) ∙ was;
      before = λ q marked. elim (cases_lt q (2 * (shape_of a).b)) [
        | inl low ↦ sym (marked_at q low) ∙ marked
        | inr high ↦
            let size = length-map-range_with_len (λ q. is_good (stores.members_of a.store q)) 0 (2 * (shape_of a).b) in
            absurd (false≢true (sym (get_or_past (good_marks a.store) q false (omega (arith, size, high))) ∙ marked))
      ];
    }

    next_of : (last : Option LastLabel) (kept : Option KeptLabel) → IsKeptOf last kept → next_number kept ≡ next_sequence last
    next_of None None is = refl
    next_of None (Some k) is = absurd is
    next_of (Some l) None is = absurd is
    next_of (Some l) (Some k) is = ap (λ (n : ℕ). n + 1) (sym is.sequence)

    -- the state, with this rest and these blocks, in which a volume makes a step
    abbrev Goes : Type 0 → State → List (List ℕ) → Reply → Type 0
    Goes P rest V reply =
        (next : State) × StandsIn phase rack P after next × Step (Known P rack after) (state_of phase rack a rest V) Save reply next × (next.recent ≡ rest.recent)

    by_state : (hot : List ℕ) (reply : Reply)
        → ((origin : Origin R) (rest : State) (V : List (List ℕ)) → StandsUnder rack a rest.label
        → (Known (WasHeld rack origin) rack a → StandsFor phase rack a V) → rest.recent ≡ hot → Goes (WasHeld rack origin) rest V reply)
        → StepsHot phase phase rack hot a Save reply after
    by_state hot reply goes origin state st recent =
        subst (λ (s : State). (next : State) × StandsIn phase rack (WasHeld rack origin) after next × Step (Known (WasHeld rack origin) rack after) s Save reply next × (next.recent ≡ s.recent)) (sym st.is)
        (goes origin state state.blocks st.label st.holds recent)

    saves : (hot body : List ℕ) (sequence : ℕ) → IsSound rack a.store → body ≡ body_of 2 (saved_by phase a hot) → CanBeSaved (saved_by phase a hot)
        → AnswersSave rack (line_of a) body a.store store a.label label (Saved sequence) → StepsHot phase phase rack hot a Save (SavedReply sequence) after
    saves hot body sequence sound says can answer = by_state hot (SavedReply sequence) goes
      where
        goes : (origin : Origin R) (rest : State) (V : List (List ℕ)) → StandsUnder rack a rest.label → (Known (WasHeld rack origin) rack a → StandsFor phase rack a V) → rest.recent ≡ hot
            → Goes (WasHeld rack origin) rest V (SavedReply sequence)
        goes origin rest V stands holds recent =
            let last : Option LastLabel = Some (saved_label store sequence body) in
            let said : body ≡ body_of 2 (saved_by phase a rest.recent) = says ∙ ap (λ (r : List ℕ). body_of 2 (saved_by phase a r)) (sym recent) in (
              record (state_of phase rack after rest V) { label = last },
              still_stands rest V last (answer.2 rest.label stands) holds,
              record {
                passes = passes rest V last;
                some = answer.0;
                marks = good_marks a.store;
                marks_are = marks_are sound rest V last;
                form = subst (λ (r : List ℕ). CanBeSaved (saved_by phase a r)) (sym recent) can;
                next = answer.1 ∙ next_of rest.label a.label stands.kept;
                rest = λ i. record rest {
                  boundaries = a.in_use.boundaries;
                  live = live_of a;
                  cut = cut_of a;
                  table = keeps.table i;
                  blocks = V;
                  pending = marks_of phase a;
                  homes = a.homes;
                  copies = a.copies;
                  phase = phase.phase a.phase;
                  members = stores.members_of store;
                  label = Some (record {
                    format = 2;
                    sequence = sequence;
                    sealed = true;
                    shape = (keeps.table i).shape;
                    body = said i;
                    keepers = λ q. is_good (stores.members_of store q);
                    bodies = λ q. is_good (stores.members_of store q);
                    numbers = λ q. q;
                  });
                  counts = rack.counts (stores.rack_of store);
                };
              },
              refl,
            )

    -- ---- no member is good

    forgets : (last : Option LastLabel) → StandsUnder rack a last → label ≡ a.label → HasNoGood store → StandsLabeled rack (line_of a) store label (option_map forgotten last)
    forgets last stands same none =
        subst (λ (k : Option KeptLabel). StandsLabeled rack (line_of a) store k (option_map forgotten last)) (sym same)
        (label_forgotten rack store keeps.sound none (line_of a) a.store a.label last shape stands)

    saves_none : (hot body : List ℕ) (s : ℕ) → FitsReduced (table_of a) (reduced_of a) → AnswersSave rack (line_of a) body a.store store a.label label (Lost s)
        → StepsHot phase phase rack hot a Save (LostReply (boundary_at (live_of a) s)) after
    saves_none hot body s fits answer = by_state hot (LostReply (boundary_at (live_of a) s)) goes
      where
        goes : (origin : Origin R) (rest : State) (V : List (List ℕ)) → StandsUnder rack a rest.label → (Known (WasHeld rack origin) rack a → StandsFor phase rack a V) → rest.recent ≡ hot
            → Goes (WasHeld rack origin) rest V (LostReply (boundary_at (live_of a) s))
        goes origin rest V stands holds recent =
            let last : Option LastLabel = option_map forgotten rest.label in (
              record (state_of phase rack after rest V) { label = last },
              still_stands rest V last (forgets rest.label stands answer.2 answer.0) holds,
              (
                least_on a after s fits refl shape answer.1,
                record {
                  passes = passes rest V last;
                  none = answer.0;
                  rest = λ i. record rest {
                    boundaries = a.in_use.boundaries;
                    live = live_of a;
                    cut = cut_of a;
                    table = keeps.table i;
                    blocks = V;
                    pending = marks_of phase a;
                    homes = a.homes;
                    copies = a.copies;
                    phase = phase.phase a.phase;
                    members = stores.members_of store;
                    label = last;
                    counts = rack.counts (stores.rack_of store);
                  };
                },
              ),
              refl,
            )

    pub save_steps : (hot body : List ℕ) (answer : SaveAnswer) → IsWell phase rack a → body ≡ body_of 2 (saved_by phase a hot) → CanBeSaved (saved_by phase a hot)
        → AnswersSave rack (line_of a) body a.store store a.label label answer → StepsHot phase phase rack hot a Save (save_reply (save_told (live_of a) answer)) after
    save_steps hot body (Saved sequence) well says can answer = saves hot body sequence well.array says can answer
    save_steps hot body (Lost s) well says can answer = saves_none hot body s well.in_use answer

    pub save_keeps : {E : Type 0} (result : Result SaveAnswer E) → OnErr result (settles.KeepsArray rack a after)
    save_keeps (Ok answer) = tt
    save_keeps (Err e) = λ told. keeps.stands
