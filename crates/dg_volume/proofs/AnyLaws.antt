-- A volume whose phase is told only when the program runs is the same volume.
use Rattle.std.proofs.Common.{◌≡◌, ◌∙◌, length, refl, sym, subst}
use Rattle.std.specs.Prelude.{Option, IfSome}
use Rattle.dg_infer.specs.Meanings.{KeptInference}
use Rattle.dg_infer.specs.Meanings as inferences
use Rattle.dg_io.specs.declared.outside.Rack.{Ghosts}
use Rattle.dg_model.specs.States.{State}
use Rattle.dg_store.specs.ReadLaws.{own_none, rack_none}
use Rattle.dg_volume.specs.Phases.{kept_in, phase_in}
use Rattle.dg_volume.specs.Volumes.{FitsArray, IsInPlace, IsSame, IsWell, StandsIn, any_phase, cut_of, live_of, marks_by, members_of, rack_of, shape_of, table_of}
use Rattle.dg_volume.specs.declared.phases.AnyPhase.{AnyPhase}
use Rattle.dg_volume.specs.declared.phases.InPhase as phases
use Rattle.dg_volume.specs.declared.volumes.Volume.{Volume}

module _ {S R : Type 0} (phase : phases.Ghosts S) (rack : Ghosts R) where
  -- the volume, with its phase told so
  abbrev pub told_later : Volume S R → AnyPhase → Volume AnyPhase R
  told_later volume any = record {
    store = volume.store;
    phase = any;
    pending = volume.pending;
    homes = volume.homes;
    copies = volume.copies;
    in_use = volume.in_use;
    levels = volume.levels;
    given = volume.given;
    label = volume.label;
  }

  -- that is the same phase
  pub record IsPhaseOf (volume : Volume S R) (any : AnyPhase) : Type 0 where
    pub phase_is : phase_in any ≡ phase.phase volume.phase
    pub kept_is : kept_in any ≡ phase.kept volume.phase

  well_still : (volume : Volume S R) (any : AnyPhase) → IsPhaseOf volume any → IsWell phase rack volume → IsWell any_phase rack (told_later volume any)
  well_still volume any h well = record {
    array = well.array;
    levels = well.levels;
    marks = subst (λ (k : Option KeptInference). length (marks_by k volume.pending.items) ≡ (shape_of volume).n) (sym h.kept_is) well.marks;
    inferred = subst (λ (k : Option KeptInference). IfSome k (FitsArray (shape_of volume))) (sym h.kept_is) well.inferred;
    labeled = well.labeled;
    in_use = well.in_use;
    long = well.long;
    homes_are = well.homes_are;
    few_homes = well.few_homes;
    copies_are = well.copies_are;
    uncopied = λ unsettled. well.uncopied (λ settled. unsettled (h.phase_is ∙ settled));
    worn = λ worn. well.worn (sym h.phase_is ∙ worn);
    settled = λ settled.
        subst (λ (k : Option KeptInference). IsInPlace (table_of volume) k volume.homes volume.copies) (sym h.kept_is) (well.settled (sym h.phase_is ∙ settled));
  }

  stands_still : {P : Type 0} → (volume : Volume S R) (any : AnyPhase) → IsPhaseOf volume any → (state : State) → StandsIn phase rack P volume state
      → StandsIn any_phase rack P (told_later volume any) state
  stands_still volume any h state st = record {
    is = st.is ∙ (λ i. record state {
      boundaries = volume.in_use.boundaries;
      live = live_of volume;
      table = table_of volume;
      pending = marks_by (sym h.kept_is i) volume.pending.items;
      cut = cut_of volume;
      homes = volume.homes;
      copies = volume.copies;
      phase = sym h.phase_is i;
      members = members_of volume;
      counts = rack.counts (rack_of volume);
    });
    label = st.label;
    holds = λ told.
        let held = st.holds told in
        let inferred = subst (λ (k : Option KeptInference). IfSome k (λ kept. inferences.StandsFor kept state.blocks)) (sym h.kept_is) held.inferred in
        record { array = held.array; inferred = inferred };
  }

  pub same_later : (volume : Volume S R) (any : AnyPhase) → IsPhaseOf volume any → IsWell phase rack volume → IsSame phase any_phase rack volume (told_later volume any)
  same_later volume any h well = record {
    leaves = record { well = well_still volume any h well; shape = refl; boundaries = refl; live = refl; line = refl; rise = (rack_none rack (rack_of volume)).rise; tells = λ q told. told; told_before = λ q tells. tells; own = own_none rack (shape_of volume).b (rack_of volume); same_rack = refl };
    stands = λ origin. stands_still volume any h;
    rack_is = refl;
    given_is = refl;
  }
