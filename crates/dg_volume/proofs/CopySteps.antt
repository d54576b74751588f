-- A settled volume makes a step by a spreading of copies.
use Rattle.std.proofs.Common.{◌≡◌, ◌∙◌, ◌<◌, ◌≤◌, ◌/◌, ◌^◌, ◌==◌, ◌||◌, ℕ, Bool, true, false, List, [], ◌∷◌, length, inl, inr, refl, sym, ap, subst, arith}
use Rattle.std.specs.Prelude.{◌++◌, All, Err, IfOk, IfSome, IsSome, None, Ok, Option, Result, Some, filter, if◌then◌else◌, option_to_list, take}
use Rattle.std.specs.List.{list_any, range_with_len}
use Rattle.std.proofs.lemmas.Bool.{cases_lt, eq-eqb, eqb-true, false≢true, or_left, or_right}
use Rattle.dg_hot.specs.Spreads.{HasSpread, HasSpreadSome, IsLost, spread_of}
use Rattle.dg_hot.specs.declared.spreads.DiffuseAnswer.{DiffuseAnswer}
use Rattle.dg_hot.specs.declared.spreads.DiffuseAnswer.TheVariants.{Diffused, Lost}
use Rattle.dg_infer.specs.Meanings.{KeptInference}
use Rattle.dg_infer.specs.Meanings as inferences
use Rattle.dg_io.specs.declared.outside.Rack.{Ghosts}
use Rattle.dg_model.specs.Changes.{Spreads}
use Rattle.dg_model.specs.Copies.{lacks_copy, spread_over}
use Rattle.dg_model.specs.Homes.{home_of}
use Rattle.dg_model.specs.Lives.{boundary_at}
use Rattle.dg_model.specs.Placed.{IsPlaced, boundaries_with}
use Rattle.dg_model.specs.Plans.{is_file}
use Rattle.dg_model.specs.Saves.{AreHomes}
use Rattle.dg_model.specs.States.{IsLeastLost, State, has_lost}
use Rattle.dg_model.specs.Steps.{Step}
use Rattle.dg_model.specs.Tables.{IsTable, Table}
use Rattle.dg_model.specs.Wants.{AreWants, FitWants, want_of}
use Rattle.dg_model.specs.declared.events.Event.{Event}
use Rattle.dg_model.specs.declared.events.Event.TheVariants.{Diffuse}
use Rattle.dg_model.specs.declared.homes.Home.{Home}
use Rattle.dg_model.specs.declared.phases.Phase.TheVariants.{Settled as SettledPhase, Worn as WornPhase}
use Rattle.dg_model.specs.declared.replies.Reply.{Reply}
use Rattle.dg_model.specs.declared.replies.Reply.TheVariants.{Diffused as DiffusedReply, Lost as LostReply, NotSettled as NotSettledReply}
use Rattle.dg_model.specs.declared.shapes.Shape.{Shape}
use Rattle.dg_model.specs.declared.wants.Want.{Want}
use Rattle.dg_model.specs.declared.wants.Want.TheVariants.{File, Kept, Stray}
use Rattle.dg_volume.proofs.HomeLaws.{are_homes}
use Rattle.dg_volume.proofs.PlacedLaws.{off_table}
use Rattle.dg_store.specs.Answers.{SameWritten}
use Rattle.dg_volume.proofs.UseLaws.{fits_same, least_here, least_on, long_on}
use Rattle.dg_volume.proofs.VolumeLaws.{Labels, StepsAt, label_by, labeled_by, line_same, on_label, under_by}
use Rattle.dg_volume.specs.Origins.{Origin, WasHeld}
use Rattle.dg_volume.specs.Copies.{StepsHot, diffuse_reply}
use Rattle.dg_volume.specs.Numbers.{diffused_by}
use Rattle.dg_volume.specs.Planned.{AreWanted, HasMovedArray}
use Rattle.dg_volume.specs.Settles.{KeepsArray}
use Rattle.dg_volume.specs.Volumes.{AreWantsBy, FitsArray, IsInPlace, IsWell, Known, Leaves, StandsFor, StandsIn, StandsUnder, line_of, live_of, marks_by, marks_of, members_of, rack_of, shape_of, state_of, table_of}
use Rattle.dg_volume.specs.declared.in_use.InUse.{InUse}
use Rattle.dg_volume.specs.declared.phases.InPhase as phases
use Rattle.dg_volume.specs.declared.volumes.Volume.{Volume}

-- ---- copies stand on boundaries of the array

some_kept : (test : ℕ → Bool) (xs : List ℕ) → 0 < length (filter test xs) → (x : ℕ) × (test x ≡ true)
some_kept test [] h = absurd (omega (arith, h))
some_kept test (x ∷ xs) h = by_test (test x) refl h (λ low. some_kept test xs low)
  where
    by_test : (b : Bool) → test x ≡ b → 0 < length (filter test (x ∷ xs)) → (0 < length (filter test xs) → (x : ℕ) × (test x ≡ true)) → (x : ℕ) × (test x ≡ true)
    by_test true is low rest = (x, is)
    by_test false is low rest = rest (subst (λ (b : Bool). 0 < length (if b then x ∷ filter test xs else filter test xs)) is low)

pub file_want : (i : ℕ) (want : Option Want) → is_file i want ≡ true → want ≡ Some (File i)
file_want i None h = absurd (false≢true h)
file_want i (Some Kept) h = absurd (false≢true h)
file_want i (Some (File j)) h = ap (λ (k : ℕ). Some (File k)) (eqb-true j i h)
file_want i (Some Stray) h = absurd (false≢true h)

copies_within : (table : Table) (wants : List (Option Want)) (homes copies : List Home) → IsTable table → IsPlaced wants table homes copies
    → (i t : ℕ) → home_of copies i ≡ Some t → t < table.shape.b
copies_within table wants homes copies is placed i t copied = elim (cases_lt t table.shape.b) [
  | inl within ↦ within
  | inr past ↦
      let home = placed.copies_are i t copied in
      let some : IsSome (home_of homes i) = subst (λ (h : Option ℕ). IsSome h) (sym home.1) refl in
      let homed = placed.homes_are i in
      let found = some_kept (λ b. is_file i (want_of wants b)) (range_with_len 0 (length wants)) (homed.0 some) in
      let on = placed.file (found.0) i (file_want i (want_of wants (found.0)) found.1) t in
      absurd (false≢true (sym (off_table table (found.0) t is past) ∙ on ∙ both (home.0) home.1))
]
  where
    both : (s : ℕ) → home_of homes i ≡ Some s → list_any (λ u. u == t) (boundaries_with homes copies i) ≡ true
    both s at =
        ap (λ (h : Option ℕ). list_any (λ u. u == t) (option_to_list h ++ option_to_list (home_of copies i))) at
        ∙ ap (λ (h : Option ℕ). list_any (λ u. u == t) (option_to_list (Some s) ++ option_to_list h)) copied
        ∙ or_right (s == t) ((t == t) || false) (or_left (t == t) false (eq-eqb t t refl))

settled_not_worn : SettledPhase ≡ WornPhase → ⊥
settled_not_worn e = absurd (cc e)

module _ {S R : Type 0} (phase : phases.Ghosts S) (rack : Ghosts R) where
  -- what the array's call left
  pub record HasDiffused {E : Type 0} (a : Volume S R) (kept : KeptInference) (wants : List (Option Want)) (hot : List ℕ) (result : Result DiffuseAnswer E) (b : Volume S R) : Type 0 where
    pub well : IsWell phase rack a
    pub settled : phase.phase a.phase ≡ SettledPhase
    pub kept_is : phase.kept a.phase ≡ Some kept
    pub whole : has_lost (shape_of a) (members_of a) ≡ false
    pub wanted : AreWanted (table_of a) kept wants
    pub phase_is : b.phase ≡ a.phase
    pub pending : b.pending ≡ a.pending
    pub homes : b.homes ≡ a.homes
    pub in_use : b.in_use ≡ a.in_use
    pub levels : b.levels.fragment ≡ a.levels.fragment
    pub small : All (λ (home : Home). home.inode < 2 ^ 32) b.copies
    pub moved : HasMovedArray rack a.store b.store
    pub written : SameWritten (table_of a) (table_of b)
    pub labels : Labels rack a b
    pub placed : IsPlaced wants (table_of b) a.homes b.copies
    pub live : IfOk result (λ answer. (n : ℕ) → answer ≡ Diffused n → has_lost (shape_of b) (members_of b) ≡ false)
    pub diffused : IfOk result (λ answer. (n : ℕ) → answer ≡ Diffused n → HasSpread wants a.homes hot (length hot) n a.copies b.copies a.store b.store)
    pub lost : IfOk result (λ answer. (s : ℕ) → answer ≡ Lost s → IsLost b.store s)
    pub cut : IfOk result (λ answer. (s : ℕ) → answer ≡ Lost s → HasSpreadSome wants a.homes hot a.copies b.copies a.store b.store)
    pub still : list_any (lacks_copy a.homes a.copies) hot ≡ false → rack_of b ≡ rack_of a

  -- the wants by which each block of a settled volume is in its place
  pub wanted_by : (a : Volume S R) (kept : KeptInference) → IsWell phase rack a → phase.kept a.phase ≡ Some kept
      → (place : IsInPlace (table_of a) (phase.kept a.phase) a.homes a.copies) → AreWanted (table_of a) kept place.wants
  wanted_by a kept well is place =
      let fitted : FitsArray (shape_of a) kept = subst (λ (k : Option KeptInference). IfSome k (FitsArray (shape_of a))) is well.inferred in
      record {
        fit = place.fit;
        are = λ V held.
            let found : inferences.StandsFor kept V → AreWants (shape_of a).l (shape_of a).n V place.wants =
            subst (λ (k : Option KeptInference). IfSome k (λ inference. inferences.StandsFor inference V → AreWants (shape_of a).l (shape_of a).n V place.wants)) is (place.are V) in
            subst (λ (l : ℕ). AreWants l kept.n V place.wants) (sym fitted.bytes) (subst (λ (n : ℕ). AreWants (shape_of a).l n V place.wants) (sym fitted.number) (found held));
        by = subst (λ (k : Option KeptInference). IfSome k (λ inference. AreWantsBy inference place.wants)) is place.by;
      }

  module _ {E : Type 0} (a : Volume S R) (kept : KeptInference) (wants : List (Option Want)) (hot : List ℕ) (result : Result DiffuseAnswer E) (b : Volume S R) (h : HasDiffused a kept wants hot result b) where
    same_shape : shape_of b ≡ shape_of a
    same_shape = h.moved.stays.shape

    fitted : FitsArray (shape_of a) kept
    fitted = subst (λ (k : Option KeptInference). IfSome k (FitsArray (shape_of a))) h.kept_is h.well.inferred

    wants_on : (V : List (List ℕ)) → inferences.StandsFor kept V → AreWants (shape_of a).l (shape_of a).n V wants
    wants_on V held =
        subst (λ (l : ℕ). AreWants l (shape_of a).n V wants) fitted.bytes (subst (λ (n : ℕ). AreWants kept.l n V wants) fitted.number (h.wanted.are V held))

    fit_on : FitWants (table_of b) wants
    fit_on = record {
      size = h.wanted.fit.size ∙ sym (ap (λ (x : Shape). x.n) same_shape);
      written = λ c. h.wanted.fit.written c ∙ sym (h.written c);
    }

    in_place : IsInPlace (table_of b) (phase.kept b.phase) b.homes b.copies
    in_place =
        let now : IsInPlace (table_of b) (Some kept) a.homes b.copies = record {
          wants = wants;
          fit = fit_on;
          placed = h.placed;
          are = λ V held. subst (λ (x : Shape). AreWants x.l x.n V wants) (sym same_shape) (wants_on V held);
          by = h.wanted.by;
        } in
        subst (λ (p : S). IsInPlace (table_of b) (phase.kept p) b.homes b.copies) (sym h.phase_is)
        (subst (λ (k : Option KeptInference). IsInPlace (table_of b) k b.homes b.copies) (sym h.kept_is)
        (subst (λ (x : List Home). IsInPlace (table_of b) (Some kept) x b.copies) (sym h.homes) now))

    same_marks : marks_of phase b ≡ marks_of phase a
    same_marks i = marks_by (phase.kept (h.phase_is i)) ((h.pending i).items)

    line : line_of b ≡ line_of a
    line = line_same a b (ap (λ (u : InUse). u.long) h.in_use) same_shape

    still : phase.phase b.phase ≡ SettledPhase
    still = ap phase.phase h.phase_is ∙ h.settled

    pub diffuse_leaves : Leaves phase phase rack a b
    diffuse_leaves =
        let well = h.well in
        let fits = subst (λ (x : Shape). IfSome (phase.kept a.phase) (FitsArray x)) (sym same_shape) well.inferred in
        let homes = subst (λ (x : Shape). AreHomes x a.homes) (sym same_shape) well.homes_are in
        record {
          well = record {
            array = h.moved.sound;
            levels = h.levels ∙ well.levels ∙ sym (ap (λ (x : Shape). x.l) same_shape);
            marks = ap length same_marks ∙ well.marks ∙ sym (ap (λ (x : Shape). x.n) same_shape);
            inferred = subst (λ (p : S). IfSome (phase.kept p) (FitsArray (shape_of b))) (sym h.phase_is) fits;
            labeled = labeled_by rack a b line h.labels well.labeled;
            in_use = fits_same a b h.in_use same_shape h.written well.in_use;
            long = long_on a b h.in_use well.long;
            homes_are = subst (λ (x : List Home). AreHomes (shape_of b) x) (sym h.homes) homes;
            few_homes =
                subst (λ (x : List Home). length x ≤ (shape_of b).n) (sym h.homes)
                (subst (λ (x : Shape). length a.homes ≤ x.n) (sym same_shape) well.few_homes);
            copies_are = are_homes (shape_of b) b.copies h.placed.copies_ascend (copies_within (table_of b) wants a.homes b.copies h.moved.sound.table h.placed) h.small;
            uncopied = λ unsettled. absurd (unsettled still);
            worn = λ worn. absurd (settled_not_worn (sym still ∙ worn));
            settled = λ settled. in_place;
          };
          shape = same_shape;
          boundaries = ap (λ (u : InUse). u.boundaries) h.in_use;
          live = ap (λ (u : InUse). u.live.items) h.in_use;
          line = line;
          rise = h.moved.stays.stays.rise;
          tells = h.moved.stays.stays.tells;
          told_before = h.moved.stays.stays.told_before;
          own = h.moved.stays.own;
          same_rack = h.moved.stays.stays.same_rack;
        }

    pub diffuse_keeps : KeepsArray rack a b
    diffuse_keeps told = h.moved.stands told

    told_before : {P : Type 0} → Known P rack b → Known P rack a
    told_before known = (λ q below. h.moved.stays.stays.told_before q (known.0 q (subst (λ (x : Shape). q / 2 < x.b) (sym same_shape) below)), known.1)

    -- the state that it is in then
    abbrev next_state : State → List (List ℕ) → State
    next_state rest V = state_of phase rack b (on_label a b h.labels.opens rest) V

    next_in : {P : Type 0} → (rest : State) (V : List (List ℕ)) → StandsUnder rack a rest.label → (Known P rack a → StandsFor phase rack a V) → StandsIn phase rack P b (next_state rest V)
    next_in rest V label holds = record {
      is = refl;
      label = under_by rack a b line h.labels h.well.labeled rest.label label;
      holds = λ told.
          let held = holds (told_before told) in
          record {
            array = h.moved.stands (told.0) V held.array;
            inferred = subst (λ (p : S). IfSome (phase.kept p) (λ inference. inferences.StandsFor inference V)) (sym h.phase_is) held.inferred;
          };
    }

    -- where no file lacks a copy no call that writes was made
    still_on : (rest : State) → rest.recent ≡ hot → list_any (lacks_copy a.homes a.copies) rest.recent ≡ false
        → (rack.counts (rack_of b)).writes ≡ (rack.counts (rack_of a)).writes
    still_on rest recent none =
        ap (λ (r : R). (rack.counts r).writes) (h.still (subst (λ (files : List ℕ). list_any (lacks_copy a.homes a.copies) files ≡ false) recent none))

    -- so many of the files may have got copies
    spreads : {P : Type 0} → (count gained : ℕ) → HasSpread wants a.homes hot count gained a.copies b.copies a.store b.store → (rest : State) (V : List (List ℕ))
        → StandsUnder rack a rest.label → rest.recent ≡ hot → (Known P rack a → StandsFor phase rack a V)
        → Spreads (Known P rack b) (state_of phase rack a rest V) count gained (next_state rest V)
    spreads count gained has rest V label recent holds = record {
      wants = wants;
      seen = record {
        fit = h.wanted.fit;
        are = λ told.
            let held = holds (told_before told) in
            wants_on V (subst (λ (k : Option KeptInference). IfSome k (λ inference. inferences.StandsFor inference V)) h.kept_is held.inferred);
      };
      goes = record {
        passes = record {
          counts = h.moved.stays.stays.rise;
          label = label_by rack a b h.labels rest.label label;
          paired = h.moved.sound.paired;
          faults = record { fell = h.moved.faults.fell; beyond = h.moved.faults.beyond };
        };
        members = h.moved.falls;
        out = h.moved.outs;
      };
      spread = has.spread ∙ ap (λ (files : List ℕ). spread_over wants a.homes (take count files) (spread_of a.store a.copies)) (sym recent);
      gained_is = has.gained_is;
      rest = λ i. record (on_label a b h.labels.opens rest) {
        boundaries = (h.in_use i).boundaries;
        live = (h.in_use i).live.items;
        cut = (h.in_use i).cut.items;
        table = table_of b;
        blocks = V;
        pending = same_marks i;
        homes = h.homes i;
        copies = b.copies;
        phase = phase.phase (h.phase_is i);
        members = members_of b;
        counts = rack.counts (rack_of b);
      };
      still = still_on rest recent;
    }

  hot_steps : (a b : Volume S R) (hot : List ℕ) (event : Event) (reply : Reply)
      → ((origin : Origin R) (rest : State) (V : List (List ℕ)) → StandsUnder rack a rest.label → rest.recent ≡ hot → (Known (WasHeld rack origin) rack a → StandsFor phase rack a V)
      → StepsAt phase rack (WasHeld rack origin) (λ recent. recent) a rest V event reply b)
      → StepsHot phase phase rack hot a event reply b
  hot_steps a b hot event reply go origin state st recent =
      subst (λ (s : State). (next : State) × StandsIn phase rack (WasHeld rack origin) b next × Step (Known (WasHeld rack origin) rack b) s event reply next × (next.recent ≡ s.recent)) (sym st.is)
      (go origin state state.blocks st.label recent st.holds)

  pub diffuse_steps : {E : Type 0} (a : Volume S R) (kept : KeptInference) (wants : List (Option Want)) (hot : List ℕ) (result : Result DiffuseAnswer E) (b : Volume S R)
      → HasDiffused a kept wants hot result b → IfOk result (λ answer. StepsHot phase phase rack hot a Diffuse (diffuse_reply (diffused_by (live_of b) answer)) b)
  diffuse_steps a kept wants hot (Ok (Diffused n)) b h = hot_steps a b hot Diffuse (DiffusedReply n) (λ origin rest V label recent holds. (
    next_state a kept wants hot (Ok (Diffused n)) b h rest V,
    next_in a kept wants hot (Ok (Diffused n)) b h rest V label holds,
    (
      h.settled,
      h.whole,
      h.live n refl,
      subst (λ (count : ℕ). Spreads (Known (WasHeld rack origin) rack b) (state_of phase rack a rest V) count n (next_state a kept wants hot (Ok (Diffused n)) b h rest V)) (ap length (sym recent))
          (spreads a kept wants hot (Ok (Diffused n)) b h (length hot) n (h.diffused n refl) rest V label recent holds),
    ),
    refl,
  ))
  diffuse_steps a kept wants hot (Ok (Lost s)) b h =
      let some = h.cut s refl in
      hot_steps a b hot Diffuse (LostReply (boundary_at (live_of b) s)) (λ origin rest V label recent holds. (
        next_state a kept wants hot (Ok (Lost s)) b h rest V,
        next_in a kept wants hot (Ok (Lost s)) b h rest V label holds,
        (
          h.settled,
          inr ((h.whole, least_on a b s h.well.in_use h.in_use h.moved.stays.shape (h.lost s refl)), (some.count, some.gained, spreads a kept wants hot (Ok (Lost s)) b h some.count some.gained some.has rest V label recent holds)),
        ),
        refl,
      ))
  diffuse_steps a kept wants hot (Err e) b h = tt

  -- ---- nothing is done

  pub diffuse_lost : (a : Volume S R) (hot : List ℕ) (s : ℕ) → IsWell phase rack a → phase.phase a.phase ≡ SettledPhase → IsLeastLost (shape_of a) (members_of a) s
      → StepsHot phase phase rack hot a Diffuse (LostReply (boundary_at (live_of a) s)) a
  diffuse_lost a hot s well settled lost = hot_steps a a hot Diffuse (LostReply (boundary_at (live_of a) s)) (λ origin rest V label recent holds. (
    state_of phase rack a rest V,
    record { is = refl; label = label; holds = holds },
    (settled, inl (least_here a s well.in_use lost, refl)),
    refl,
  ))

  pub diffuse_refused : (a : Volume S R) (hot : List ℕ) → (phase.phase a.phase ≡ SettledPhase → ⊥) → StepsHot phase phase rack hot a Diffuse NotSettledReply a
  diffuse_refused a hot unsettled = hot_steps a a hot Diffuse NotSettledReply (λ origin rest V label recent holds. (
    state_of phase rack a rest V,
    record { is = refl; label = label; holds = holds },
    (unsettled, refl),
    refl,
  ))
