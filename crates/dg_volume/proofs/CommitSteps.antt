-- What a commit leaves of a volume and its states.
use Rattle.std.proofs.Common.{◌≡◌, ◌∙◌, ◌&&◌, ℕ, Bool, true, false, List, inl, inr, refl, sym, ap, subst, arith}
use Rattle.std.specs.Prelude.{None, Option, Some}
use Rattle.std.specs.Option.{option_map}
use Rattle.std.proofs.lemmas.Bool.{and_from, and_parts, cases_Bool, false≢true}
use Rattle.dg_io.specs.Commits.{fell_in, is_marked}
use Rattle.dg_io.specs.declared.checkpoints.CommitAnswer.{CommitAnswer}
use Rattle.dg_io.specs.declared.outside.Rack.{Ghosts}
use Rattle.dg_label.specs.Labels.{StandsLabeled}
use Rattle.dg_label.specs.Seals.{HasGood}
use Rattle.dg_model.proofs.MemberLaws.{falls_both, good_was}
use Rattle.dg_model.specs.Changes.{PassesSave, Saves}
use Rattle.dg_model.specs.Members.{is_good}
use Rattle.dg_model.specs.Saves.{body_of}
use Rattle.dg_model.specs.Seals.{LastLabel, label_after}
use Rattle.dg_model.specs.States.{State, saved_of}
use Rattle.dg_model.specs.Tables.{Table}
use Rattle.dg_model.specs.declared.members.MemberState.{MemberState}
use Rattle.dg_model.specs.declared.members.MemberState.TheVariants.{Out}
use Rattle.dg_regroup.specs.Extras.{extra_bytes}
use Rattle.dg_store.specs.ReadLaws.{rises_both}
use Rattle.dg_store.specs.Stores as stores
use Rattle.dg_store.specs.declared.store.Store.{Store}
use Rattle.dg_volume.proofs.CommitLaws.{commit_falls, idle_commit, told_commit}
use Rattle.dg_volume.proofs.ToldLaws.{StaysTold, fewer, holds_told, known_before, line_told, stands_after, stands_still, under_told, well_told}
use Rattle.dg_volume.specs.Commits.{Commits, CommitsArray, committed, extra_of, left_on}
use Rattle.dg_volume.specs.Origins.{Origin, WasHeld}
use Rattle.dg_volume.specs.Regroups.{GoesOn}
use Rattle.dg_volume.specs.Volumes.{IsWell, Known, StandsFor, StandsIn, line_of, members_of, rack_of, state_of, table_of}
use Rattle.dg_volume.specs.declared.phases.InPhase as phases
use Rattle.dg_volume.specs.declared.volumes.Volume.{Volume}

narrowed : (x y : Bool) → (y ≡ true → x ≡ true) → (x && y) ≡ y
narrowed true y back = refl
narrowed false true back = absurd (false≢true (back refl))
narrowed false false back = refl

module _ {S R : Type 0} (phase : phases.Ghosts S) (rack : Ghosts R) (room : R → Option ℕ) (goes : R → R → Type 0) (extra : List ℕ) (answer : CommitAnswer) (a : Volume S R) (store : Store R)
    (h : CommitsArray rack room goes extra answer a.store store) where
  abbrev after : Volume S R
  after = record a { store = store }

  told : StaysTold rack a.store store
  told = told_commit rack room goes extra answer a.store store h

  pub commit_goes : IsWell phase rack a → GoesOn phase rack a after
  commit_goes well =
      let rise = h.leaves.rise in
      record { well = well_told phase rack a store told well; boundaries = refl; line = line_told phase rack a store told; calls = rise.calls; writes = rise.writes }

  -- ---- states

  -- the state with this rest and these blocks, and this label on what the members do now
  abbrev left_state : State → List (List ℕ) → Option LastLabel → State
  left_state rest V label = committed rack after (state_of phase rack a rest V) label

  in_state : {P : Type 0} → (rest : State) (V : List (List ℕ)) (label : Option LastLabel) → StandsLabeled rack (line_of a) store a.label label → (Known P rack a → StandsFor phase rack a V)
      → StandsIn phase rack P after (left_state rest V label)
  in_state rest V label stands holds = record {
    is = λ i. record (left_state rest V label) { table = sym h.table i };
    label = under_told phase rack a store told label stands;
    holds = λ known. holds_told phase rack a store told V (holds (known_before phase rack a store told known));
  }

  -- the label on those that are good of the members that had it
  stands_left : (last : Option LastLabel) → StandsLabeled rack (line_of a) a.store a.label last
      → StandsLabeled rack (line_of a) store a.label (option_map (left_on (stores.members_of store)) last)
  stands_left None stands = stands_still rack a.store store told (line_of a) a.label None stands
  stands_left (Some last) stands =
      let good : ℕ → Bool = λ q. is_good (stores.members_of store q) in
      fewer rack a.store store told (line_of a) a.label last (λ q. last.keepers q && good q) (λ q. last.bodies q && good q)
      (λ q keeps. (and_parts (last.keepers q) (good q) keeps).0) (λ q has. (and_parts (last.bodies q) (good q) has).0)
      (λ q keeps is. and_from (last.keepers q) (good q) keeps is) stands

  pub states_at : (origin : Origin R) (state : State) → StandsIn phase rack (WasHeld rack origin) a state
      → StandsIn phase rack (WasHeld rack origin) after (committed rack after state (label_after false (members_of a) (stores.members_of store) state.label))
  states_at origin state st =
      subst (λ (s : State). StandsIn phase rack (WasHeld rack origin) after (committed rack after s (label_after false (members_of a) (stores.members_of store) s.label))) (sym st.is)
      (in_state state state.blocks (label_after false (members_of a) (stores.members_of store) state.label)
      (stands_after rack a.store store told (line_of a) a.label state.label st.label) st.holds)

  pub left_at : (origin : Origin R) (state : State) → StandsIn phase rack (WasHeld rack origin) a state
      → StandsIn phase rack (WasHeld rack origin) after (committed rack after state (option_map (left_on (stores.members_of store)) state.label))
  left_at origin state st =
      subst (λ (s : State). StandsIn phase rack (WasHeld rack origin) after (committed rack after s (option_map (left_on (stores.members_of store)) s.label))) (sym st.is)
      (in_state state state.blocks (option_map (left_on (stores.members_of store)) state.label) (stands_left state.label st.label) st.holds)

  -- ---- a save before it

  passes_from : (before rest : State) (V : List (List ℕ)) (label : Option LastLabel) → IsWell phase rack a → table_of a ≡ before.table → PassesSave before (state_of phase rack a rest V)
      → PassesSave before (left_state rest V label)
  passes_from before rest V label well same p =
      let first = p.counts in
      let falls = p.members in
      record {
        counts = rises_both before.counts (rack.counts (rack_of a)) (rack.counts (stores.rack_of store)) first h.leaves.rise;
        members =
            falls_both before.counts.faults (rack.counts (rack_of a)).faults (rack.counts (stores.rack_of store)).faults before.members (members_of a) (stores.members_of store)
            first.faults h.leaves.rise.faults falls (commit_falls rack room goes extra answer a.store store h);
        paired = h.sound.paired;
        faults = record {
          fell = λ q below rose. elim (cases_Bool (is_marked (fell_in h.keep answer) q)) [
            | inl fallen ↦ h.members.out q fallen
            | inr stood ↦ told.outs q (p.faults.fell q below (let idle = h.leaves.uncalled q stood in omega (arith, idle, rose)))
          ];
          beyond = λ q past.
              let out : members_of a q ≡ Out = well.array.others q (let b = ap (λ (t : Table). t.shape.b) same in omega (arith, b, past)) in
              idle_commit rack room goes extra answer a.store store h q (ap is_good out) ∙ p.faults.beyond q past;
        };
        out = λ q out. idle_commit rack room goes extra answer a.store store h q (bad_still q out) ∙ p.out q out;
      }
    where
      bad_still : (q : ℕ) → before.members q ≡ Out → is_good (members_of a q) ≡ false
      bad_still q out = elim (cases_Bool (is_good (members_of a q))) [
        | inl good ↦ absurd (false≢true (sym (ap is_good out)
            ∙ good_was before.counts.faults (rack.counts (rack_of a)).faults before.members (members_of a) q p.members good))
        | inr bad ↦ bad
      ]

  pub passes_at : (origin : Origin R) (before state : State) → IsWell phase rack a → StandsIn phase rack (WasHeld rack origin) a state → state.table ≡ before.table → PassesSave before state
      → (label : Option LastLabel) → PassesSave before (committed rack after state label)
  passes_at origin before state well st same p label =
      subst (λ (s : State). PassesSave before (committed rack after s label)) (sym st.is)
      (passes_from before state state.blocks label well (ap (λ (s : State). s.table) (sym st.is) ∙ same) (subst (λ (s : State). PassesSave before s) st.is p))

  saves_from : (before rest : State) (V : List (List ℕ)) (sequence : ℕ) → IsWell phase rack a → Saves before sequence (state_of phase rack a rest V) → HasGood store
      → Saves before sequence (left_state rest V (option_map (left_on (stores.members_of store)) rest.label))
  saves_from before rest V sequence well s some = record {
    passes = passes_from before rest V (option_map (left_on (stores.members_of store)) rest.label) well (ap (λ (x : State). x.table) s.rest) s.passes;
    some = some;
    marks = s.marks;
    marks_are = record { size = s.marks_are.size; still = λ q good. s.marks_are.still q (told.back q good); before = s.marks_are.before };
    form = s.form;
    next = s.next;
    rest = (λ i. record (s.rest i) { members = now; counts = rack.counts (stores.rack_of store); label = option_map (left_on now) ((s.rest i).label) }) ∙ (λ i. record before {
      members = now;
      counts = rack.counts (stores.rack_of store);
      label = Some (record {
        format = 2;
        sequence = sequence;
        sealed = true;
        shape = before.table.shape;
        body = body_of 2 (saved_of before s.marks);
        keepers = λ q. good_now q i;
        bodies = λ q. good_now q i;
        numbers = λ q. q;
      });
    });
  }
    where
      now : ℕ → MemberState
      now = stores.members_of store

      good_now : (q : ℕ) → (is_good (members_of a q) && is_good (stores.members_of store q)) ≡ is_good (stores.members_of store q)
      good_now q = narrowed (is_good (members_of a q)) (is_good (stores.members_of store q)) (told.back q)

  pub saves_at : (origin : Origin R) (before state : State) (sequence : ℕ) → IsWell phase rack a → StandsIn phase rack (WasHeld rack origin) a state → Saves before sequence state
      → HasGood store → Saves before sequence (committed rack after state (option_map (left_on (stores.members_of store)) state.label))
  saves_at origin before state sequence well st s some =
      subst (λ (x : State). Saves before sequence (committed rack after x (option_map (left_on (stores.members_of store)) x.label))) (sym st.is)
      (saves_from before state state.blocks sequence well (subst (λ (x : State). Saves before sequence x) st.is s) some)

-- all of it
pub commits : {S R : Type 0} (phase : phases.Ghosts S) (rack : Ghosts R) (room : R → Option ℕ) (goes : R → R → Type 0) (answer : CommitAnswer) (a : Volume S R) (store : Store R) → IsWell phase rack a
    → CommitsArray rack room goes (extra_bytes (extra_of a)) answer a.store store → Commits phase rack room goes a answer (record a { store = store })
commits phase rack room goes answer a store well h =
    let extra = extra_bytes (extra_of a) in
    record {
      array = h;
      states = states_at phase rack room goes extra answer a store h;
      left = left_at phase rack room goes extra answer a store h;
      passes = λ origin before state st. passes_at phase rack room goes extra answer a store h origin before state well st;
      saves = λ origin before state sequence st. saves_at phase rack room goes extra answer a store h origin before state sequence well st;
    }
