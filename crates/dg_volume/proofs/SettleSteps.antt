-- A volume whose blocks are put in their places, and which is settled by that.
use Rattle.std.proofs.Common.{◌≡◌, ◌⊎◌, ◌∙◌, ◌<◌, ◌≤◌, ◌/◌, ◌+◌, ◌^◌, min, ℕ, Bool, false, List, [], length, inl, inr, refl, sym, ap, subst, arith}
use Rattle.std.specs.Prelude.{Option, Some, None, All, IfSome}
use Rattle.dg_infer.specs.Meanings.{KeptInference}
use Rattle.dg_infer.specs.Meanings as inferences
use Rattle.dg_io.specs.declared.outside.Rack.{Ghosts}
use Rattle.dg_model.specs.Moves.{IsAtTargets, IsCutByLoss, all_done, missing_in, moves}
use Rattle.dg_model.specs.Placed.{IsPlaced}
use Rattle.dg_model.specs.Saves.{AreHomes}
use Rattle.dg_model.specs.Seals.{LastLabel}
use Rattle.dg_model.specs.States.{State, has_lost}
use Rattle.dg_model.specs.Tables.{Table}
use Rattle.dg_model.specs.Steps.{Step}
use Rattle.dg_model.specs.Wants.{AreWants, FitWants}
use Rattle.dg_model.specs.declared.events.Event.TheVariants.{Settle}
use Rattle.dg_model.specs.declared.homes.Home.{Home}
use Rattle.dg_model.specs.declared.members.MemberState.{MemberState}
use Rattle.dg_model.specs.declared.phases.Phase.TheVariants.{Settled as SettledPhase, Worn as WornPhase}
use Rattle.dg_model.specs.declared.replies.Reply.TheVariants.{Settled as SettledReply}
use Rattle.dg_model.specs.declared.shapes.Shape.{Shape}
use Rattle.dg_move.specs.Answers.{IsTended}
use Rattle.dg_plan.specs.Targets.{homes_of, wants_of}
use Rattle.dg_plan.specs.declared.target_lists.Targets.{Targets}
use Rattle.dg_store.specs.Answers.{SameWritten}
use Rattle.dg_store.specs.Stores as stores
use Rattle.dg_store.specs.declared.store.Store.{Store}
use Rattle.dg_volume.proofs.FewLaws.{few_homes}
use Rattle.dg_volume.proofs.HomeLaws.{are_homes}
use Rattle.dg_volume.proofs.MoveSteps.{HasMoved, HasRun, IsChecked, IsReady, settle_step, stands_moved, wants_right}
use Rattle.dg_volume.proofs.PlacedLaws.{are_placed}
use Rattle.dg_volume.specs.Origins.{WasHeld}
use Rattle.dg_volume.specs.Planned.{HasPlan, IsPutInPlace}
use Rattle.dg_volume.specs.Settles.{GoesBy}
use Rattle.dg_volume.specs.Volumes.{AreWantsBy, FitsArray, IsInPlace, IsWell, Known, Leaves, StandsFor, StepsTo, cut_of, given_of, live_of, marks_by, members_of, rack_of, shape_of, state_of, table_of}
use Rattle.dg_volume.specs.declared.phases.InPhase as phases
use Rattle.dg_volume.specs.declared.volumes.Volume.{Volume}

-- where a limit allows all missing placements, none is left
none_left : (limit missing m l : ℕ) → missing ≤ limit → m ≡ min limit missing → m + l ≡ missing → l ≡ 0
none_left limit missing m l few met whole = omega (arith, few, met, whole)

-- where a limit allows all moves, they end as without one
pub unlimited : (targets : ℕ → ℕ → Bool) (limit : ℕ) (old new : Table) (members : ℕ → MemberState) → moves targets (Some limit) old ≡ moves targets None old
    → (new ≡ old) ⊎ IsCutByLoss targets (Some limit) old new members → (new ≡ old) ⊎ IsCutByLoss targets None old new members
unlimited targets limit old new members all (inl same) = inl same
unlimited targets limit old new members all (inr c) =
    inr (record { cut = record { front = c.cut.front; rest = c.cut.rest; whole = sym all ∙ c.cut.whole; led = c.cut.led }; end = c.end })

no_limit : (limit missing : ℕ) → missing ≡ 0 → min limit missing ≡ 0
no_limit limit missing none = omega (arith, none)

module _ {S R : Type 0} (phase : phases.Ghosts S) (rack : Ghosts R) where
  -- the plan's homes are on boundaries of the array
  plan_homes : (a : Volume S R) (mid new : Store R) (kept : KeptInference) (targets : Targets) (homes : List Home) → HasPlan rack a.store mid kept a.homes targets
      → homes ≡ homes_of targets → stores.shape_of new ≡ shape_of a → All (λ (home : Home). home.inode < 2 ^ 32) homes → AreHomes (stores.shape_of new) homes
  plan_homes a mid new kept targets homes found same shape small =
      let fits : All (λ (home : Home). home.inode < 2 ^ 32) (homes_of targets) = subst (λ (x : List Home). All (λ (home : Home). home.inode < 2 ^ 32) x) same small in
      let old : AreHomes (shape_of a) (homes_of targets) = are_homes (shape_of a) (homes_of targets) found.rules.ascend found.rules.homes_within fits in
      subst (λ (x : List Home). AreHomes (stores.shape_of new) x) (sym same) (subst (λ (x : Shape). AreHomes x (homes_of targets)) (sym shape) old)

  -- and no more than its blocks
  plan_few : (a : Volume S R) (mid new : Store R) (kept : KeptInference) (targets : Targets) (homes : List Home) → HasPlan rack a.store mid kept a.homes targets
      → homes ≡ homes_of targets → stores.shape_of new ≡ shape_of a → length homes ≤ (stores.shape_of new).n
  plan_few a mid new kept targets homes found same shape =
      let few : length (homes_of targets) ≤ length found.wants = few_homes found.wants (homes_of targets) found.rules.ascend (λ i some. let both = found.rules.homes_are i in both.0 some) in
      let size : length found.wants ≡ (shape_of a).n = found.wanted.fit.size in
      let old : length (homes_of targets) ≤ (shape_of a).n = omega (arith, few, size) in
      subst (λ (x : List Home). length x ≤ (stores.shape_of new).n) (sym same) (subst (λ (x : Shape). length (homes_of targets) ≤ x.n) (sym shape) old)

  -- what moves by the plan left, where its homes are taken over
  pub rehomed : (a b : Volume S R) (mid : Store R) (kept : KeptInference) (targets : Targets) (homes : List Home) → HasMoved phase rack a b → HasPlan rack a.store mid kept a.homes targets
      → homes ≡ homes_of targets → All (λ (home : Home). home.inode < 2 ^ 32) homes → HasMoved phase rack a (record b { homes = homes })
  rehomed a b mid kept targets homes moved found same small = record {
    phase_is = moved.phase_is;
    pending = moved.pending;
    copies = moved.copies;
    in_use = moved.in_use;
    levels = moved.levels;
    array = moved.array;
    written = moved.written;
    labeled = moved.labeled;
    labels = moved.labels;
    homes_are = plan_homes a mid b.store kept targets homes found same moved.array.stays.shape small;
    few_homes = plan_few a mid b.store kept targets homes found same moved.array.stays.shape;
  }

  -- ---- places

  module _ (a : Volume S R) (kept : KeptInference) (targets : Targets) (mid : Store R) (b : Volume S R) (run : HasRun phase rack a kept targets mid b) where
    shape_on : shape_of b ≡ shape_of a
    shape_on = run.moves.array.stays.shape

    written_on : SameWritten (table_of a) (table_of b) → FitWants (table_of b) run.plan.wants
    written_on written = record {
      size = run.plan.wanted.fit.size ∙ sym (ap (λ (x : Shape). x.n) shape_on);
      written = λ c. run.plan.wanted.fit.written c ∙ sym (written c);
    }

    right_on : (V : List (List ℕ)) → IfSome (phase.kept a.phase) (λ inference. inferences.StandsFor inference V → AreWants (shape_of b).l (shape_of b).n V run.plan.wants)
    right_on V =
        let right : inferences.StandsFor kept V → AreWants (shape_of b).l (shape_of b).n V run.plan.wants =
        λ held. subst (λ (x : Shape). AreWants x.l x.n V run.plan.wants) (sym shape_on) (wants_right phase rack a kept run.plan.wants V run.keeps run.plan.wanted held) in
        subst (λ (k : Option KeptInference). IfSome k (λ inference. inferences.StandsFor inference V → AreWants (shape_of b).l (shape_of b).n V run.plan.wants))
        (sym run.keeps.is) right

    by_on : IfSome (phase.kept a.phase) (λ inference. AreWantsBy inference run.plan.wants)
    by_on = subst (λ (k : Option KeptInference). IfSome k (λ inference. AreWantsBy inference run.plan.wants)) (sym run.keeps.is) run.plan.wanted.by

    placed_on : b.homes ≡ homes_of targets → b.copies ≡ [] → IsAtTargets (wants_of targets) (table_of b) → IsPlaced run.plan.wants (table_of b) b.homes b.copies
    placed_on homes copies at =
        let placed =
        are_placed (shape_of a) run.plan.wants targets run.plan.rules (table_of b) run.moves.array.sound.table shape_on run.plan.wanted.fit.size at in
        subst (λ (x : List Home). IsPlaced run.plan.wants (table_of b) b.homes x) (sym copies)
        (subst (λ (x : List Home). IsPlaced run.plan.wants (table_of b) x []) (sym homes) placed)

    in_place : b.homes ≡ homes_of targets → b.copies ≡ [] → SameWritten (table_of a) (table_of b) → IsAtTargets (wants_of targets) (table_of b)
        → IsInPlace (table_of b) (phase.kept a.phase) b.homes b.copies
    in_place homes copies written at = record { wants = run.plan.wants; fit = written_on written; placed = placed_on homes copies at; are = right_on; by = by_on }

    -- moves without a limit put each block in its place
    pub put_in_place : (m l limit : ℕ) → IsReady phase rack a → IsChecked phase rack a kept b → b.homes ≡ homes_of targets → b.copies ≡ []
        → SameWritten (table_of a) (table_of b) → has_lost (shape_of b) (members_of b) ≡ false → missing_in (wants_of targets) (stores.table_of mid) ≤ limit
        → moves (wants_of targets) (Some limit) (stores.table_of mid) ≡ moves (wants_of targets) None (stores.table_of mid)
        → IsTended (wants_of targets) limit (stores.table_of mid) (table_of b) m l
        → (min limit (missing_in (wants_of targets) (stores.table_of mid)) ≡ 0 → rack_of b ≡ stores.rack_of mid) → IsPutInPlace phase rack a b
    put_in_place m l limit ready check homes copies written live few all is still = record {
      phase_is = run.moves.phase_is;
      pending_is = run.moves.pending;
      placed = in_place homes copies written (is.placed (none_left limit (missing_in (wants_of targets) (stores.table_of mid)) m l few is.met is.whole));
      stands = λ V told held. stands_moved phase rack a b V run.moves told held;
      steps = λ origin.
          settle_step phase rack a kept targets mid b run ready check (homes ∙ run.plan.planned.same_homes) live
          (is.table ∙ ap (all_done (stores.table_of mid)) all)
          (λ none. still (no_limit limit (missing_in (wants_of targets) (stores.table_of mid)) none));
    }

-- ---- the settled volume

settled_not_worn : SettledPhase ≡ WornPhase → ⊥
settled_not_worn e = absurd (cc e)

module _ {S T R : Type 0} (from : phases.Ghosts S) (to : phases.Ghosts T) (rack : Ghosts R) where
  -- the volume in another phase
  abbrev pub in_phase : Volume S R → T → Volume T R
  in_phase volume phase = record {
    store = volume.store;
    phase = phase;
    pending = volume.pending;
    homes = volume.homes;
    copies = volume.copies;
    in_use = volume.in_use;
    levels = volume.levels;
    given = volume.given;
    label = volume.label;
  }

  -- that is Settled, and what is inferred is kept
  pub record IsSettledPhase (volume : Volume S R) (phase : T) : Type 0 where
    pub phase_is : to.phase phase ≡ SettledPhase
    pub kept_is : to.kept phase ≡ from.kept volume.phase

  module _ (a b : Volume S R) (phase : T) (is : IsSettledPhase b phase) (left : Leaves from from rack a b) (put : IsPutInPlace from rack a b) where
    settled_well : IsWell to rack (in_phase b phase)
    settled_well = record {
      array = left.well.array;
      levels = left.well.levels;
      marks = subst (λ (k : Option KeptInference). length (marks_by k b.pending.items) ≡ (shape_of b).n) (sym is.kept_is) left.well.marks;
      inferred = subst (λ (k : Option KeptInference). IfSome k (FitsArray (shape_of b))) (sym is.kept_is) left.well.inferred;
      labeled = left.well.labeled;
      in_use = left.well.in_use;
      long = left.well.long;
      homes_are = left.well.homes_are;
      few_homes = left.well.few_homes;
      copies_are = left.well.copies_are;
      uncopied = λ unsettled. absurd (unsettled is.phase_is);
      worn = λ worn. absurd (settled_not_worn (sym is.phase_is ∙ worn));
      settled = λ settled.
          subst (λ (k : Option KeptInference). IsInPlace (table_of b) k b.homes b.copies) (sym (ap from.kept put.phase_is) ∙ sym is.kept_is) put.placed;
    }

    told_first : {P : Type 0} → Known P rack b → Known P rack a
    told_first known = (λ q below. left.told_before q (known.0 q (subst (λ (s : Shape). q / 2 < s.b) (sym left.shape) below)), known.1)

    settled_stands : {P : Type 0} → (V : List (List ℕ)) → (Known P rack a → StandsFor from rack a V) → Known P rack b → StandsFor to rack (in_phase b phase) V
    settled_stands V holds told =
        let held = put.stands V (told.0) (holds (told_first told)) in
        record { array = held.array; inferred = subst (λ (k : Option KeptInference). IfSome k (λ kept. inferences.StandsFor kept V)) (sym is.kept_is) held.inferred }

    -- the rest of a state, with this label
    abbrev labeled_so : State → Option LastLabel → State
    labeled_so rest last = record rest { label = last }

    settled_state : (rest : State) (last : Option LastLabel) (V : List (List ℕ))
        → record (state_of from rack b rest V) { phase = SettledPhase; label = last } ≡ state_of to rack (in_phase b phase) (labeled_so rest last) V
    settled_state rest last V = λ i. record (labeled_so rest last) {
      boundaries = b.in_use.boundaries;
      live = live_of b;
      cut = cut_of b;
      table = table_of b;
      blocks = V;
      pending = marks_by (sym is.kept_is i) b.pending.items;
      homes = b.homes;
      copies = b.copies;
      phase = sym is.phase_is i;
      members = members_of b;
      counts = rack.counts (rack_of b);
    }

    settled_steps : StepsTo from to rack a Settle SettledReply (in_phase b phase)
    settled_steps origin state st =
        let led = put.steps origin state state.blocks st.label st.holds in
        let next = state_of to rack (in_phase b phase) (labeled_so state led.0) state.blocks in
        let step =
        subst (λ (x : State). Step (Known (WasHeld rack origin) rack b) (state_of from rack a state state.blocks) Settle SettledReply x) (settled_state state led.0 state.blocks) led.2 in (
          next,
          record { is = refl; label = led.1; holds = settled_stands state.blocks st.holds },
          subst (λ (x : State). Step (Known (WasHeld rack origin) rack b) x Settle SettledReply next) (sym st.is) step,
          refl,
        )

    -- the volume is settled by that
    pub goes_settled : given_of b ≡ given_of a → GoesBy from to rack a Settle SettledReply (in_phase b phase)
    goes_settled given = record {
      given_is = given;
      leaves = record { well = settled_well; shape = left.shape; boundaries = left.boundaries; live = left.live; line = left.line; rise = left.rise; tells = left.tells; told_before = left.told_before; own = left.own; same_rack = left.same_rack };
      steps = settled_steps;
    }
