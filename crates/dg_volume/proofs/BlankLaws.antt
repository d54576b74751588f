-- The volume of a blank array is in the state of the blank array.
use Rattle.std.proofs.Common.{◌≡◌, ◌≢◌, ◌∙◌, ◌≤◌, ◌/◌, ℕ, true, false, List, [], length, inl, inr, refl, sym, ap, subst, arith, rules}
use Rattle.std.specs.Prelude.{IfSome, None, Option, Some, replicate, take}
use Rattle.std.proofs.lemmas.Bool.{cases_lt, false≢true}
use Rattle.std.proofs.lemmas.List.{length-replicate, take-replicate}
use Rattle.dg_infer.specs.Meanings as inferences
use Rattle.dg_io.specs.declared.outside.Rack.{Ghosts}
use Rattle.dg_label.specs.Labels.{AreFresh, HasLength, IsLabeled, StandsLabeled}
use Rattle.dg_label.specs.LineLaws.{line_itself}
use Rattle.dg_label.specs.declared.labels.KeptLabel.{KeptLabel}
use Rattle.dg_model.specs.Blocks.{zeros}
use Rattle.dg_model.specs.Lives.{all_live}
use Rattle.dg_model.specs.Members.{is_filling}
use Rattle.dg_model.specs.Openings.{FitsReduced, Reduced, all_in_use}
use Rattle.dg_model.specs.Saves.{AreHomes, member_length}
use Rattle.dg_model.specs.States.{IsBlank, State, plain_state}
use Rattle.dg_model.specs.Tables.{Table, empty_table}
use Rattle.dg_model.specs.declared.homes.Home.{Home}
use Rattle.dg_model.specs.declared.members.MemberState.TheVariants.{Out}
use Rattle.dg_model.specs.declared.shapes.Shape.{Shape}
use Rattle.dg_store.specs.Answers.{IsBlankStore, IsZeroed}
use Rattle.dg_store.specs.Stores as stores
use Rattle.dg_store.specs.declared.store.Store.{Store}
use Rattle.dg_volume.proofs.FaultLaws.{blank_beyond, blank_fell}
use Rattle.dg_volume.proofs.PlaceLaws.{fits_all}
use Rattle.dg_volume.specs.Origins.{Always}
use Rattle.dg_volume.specs.Volumes.{IsBlankVolume, StandsIn, cut_of, line_of, live_of, loose_phase, members_of, rack_of, reduced_of, shape_of, table_of}
use Rattle.dg_volume.specs.declared.phases.Loose.{Loose}
use Rattle.dg_volume.specs.declared.volumes.Volume.{Volume}

pub no_homes : (shape : Shape) → AreHomes shape []
no_homes shape = search rules

-- No label was written on a blank array: a member that isn't out is good, and as long as it was blanked.
module _ {R : Type 0} (rack : Ghosts R) (shape : Shape) (before : R) (store : Store R) (blank : IsBlankStore rack shape before store) where
  lengths : (q : ℕ) → stores.members_of store q ≢ Out → IfSome (rack.bytes (stores.rack_of store) q) (λ all. HasLength (stores.shape_of store) None q (length all))
  lengths q here = elim (cases_lt (q / 2) shape.b) [
    | inl within ↦ elim (blank.members.begins q within) [
      | inl good ↦ long (rack.bytes (stores.rack_of store) q) (blank.blanked q good)
      | inr fell ↦ absurd (here fell.0)
    ]
    | inr past ↦ absurd (here (blank.members.others q (omega (arith, past))))
  ]
    where
      long : (told : Option (List ℕ)) → IsZeroed (member_length 2 shape) told → IfSome told (λ all. HasLength (stores.shape_of store) None q (length all))
      long None zeroed = tt
      long (Some all) zeroed = ap length zeroed ∙ length-replicate (member_length 2 shape) 0 ∙ sym (ap (λ (t : Table). member_length 2 t.shape) blank.table)

  -- none is refilled
  none_filling : (q : ℕ) → is_filling (stores.members_of store q) ≡ true → IfSome (rack.bytes (stores.rack_of store) q) (λ all. length all ≡ member_length 2 (stores.shape_of store))
  none_filling q fills = elim (cases_lt (q / 2) shape.b) [
    | inl within ↦ elim (blank.members.begins q within) [
      | inl good ↦ absurd (false≢true (sym (ap is_filling good) ∙ fills))
      | inr fell ↦ absurd (false≢true (sym (ap is_filling fell.0) ∙ fills))
    ]
    | inr past ↦ absurd (false≢true (sym (ap is_filling (blank.members.others q (omega (arith, past)))) ∙ fills))
  ]

  -- where a label would be it has zeros
  blank_fresh : AreFresh rack store None
  blank_fresh q below here lacks = elim (cases_lt (q / 2) shape.b) [
    | inl within ↦ elim (blank.members.begins q within) [
      | inl good ↦ none (rack.bytes (stores.rack_of store) q) (blank.blanked q good)
      | inr fell ↦ absurd (here fell.0)
    ]
    | inr past ↦ absurd (here (blank.members.others q (omega (arith, past))))
  ]
    where
      none : (told : Option (List ℕ)) → IsZeroed (member_length 2 shape) told → IfSome told (λ all. take 512 all ≡ zeros 512)
      none None zeroed = tt
      none (Some all) zeroed = ap (λ (xs : List ℕ). take 512 xs) zeroed ∙ take-replicate 512 (member_length 2 shape) 0 (omega arith)

  pub blank_unlabeled : StandsLabeled rack (stores.shape_of store) store None None
  blank_unlabeled = record { kept = tt; holds = tt; sizes = tt; of_array = tt; filling = λ q fills. refl; fresh = blank_fresh }

  pub blank_labeled : IsLabeled rack (stores.shape_of store) store None
  blank_labeled = record {
    fits = line_itself (stores.shape_of store) blank.sound.table.shape;
    numbers = tt;
    sealed = λ sealed. absurd (false≢true sealed);
    lengths = lengths;
    filling = none_filling;
  }

-- What is inferred of a blank volume, and that it has no homes.
pub record IsPlain {R : Type 0} (shape : Shape) (volume : Volume Loose R) : Type 0 where
  pub bytes : volume.phase.inference.l ≡ shape.l
  pub number : volume.phase.inference.n ≡ shape.n
  pub pending : volume.phase.inference.pending ≡ replicate shape.n false
  pub inferred : inferences.StandsFor volume.phase.inference (replicate shape.n (zeros shape.l))
  pub levels : volume.levels.fragment ≡ shape.l
  pub homes : volume.homes ≡ []
  pub copies : volume.copies ≡ []
  pub boundaries : volume.in_use.boundaries ≡ shape.b
  pub long : volume.in_use.long ≡ shape.b
  pub live : live_of volume ≡ all_live shape.b
  pub cut : cut_of volume ≡ replicate shape.n false
  pub label : volume.label ≡ None
  pub given : volume.given ≡ None

module _ {R : Type 0} (rack : Ghosts R) (shape : Shape) (before : R) (volume : Volume Loose R) (blank : IsBlankStore rack shape before volume.store) (plain : IsPlain shape volume) where
  same_shape : shape_of volume ≡ shape
  same_shape = ap (λ (t : Table). t.shape) blank.table

  -- members are as long by its own numbers
  own_line : shape_of volume ≡ line_of volume
  own_line i = record (shape_of volume) { b = (ap (λ (s : Shape). s.b) same_shape ∙ sym plain.long) i }

  -- the state of the blank array
  start : State
  start = plain_state (empty_table shape) (replicate shape.n (zeros shape.l)) (members_of volume) (rack.counts (rack_of volume))

  start_in : StandsIn loose_phase rack Always volume start
  unfolding start
  start_in = record {
    is = λ i. record start {
      boundaries = sym plain.boundaries i;
      live = sym plain.live i;
      cut = sym plain.cut i;
      table = sym blank.table i;
      pending = sym plain.pending i;
      homes = sym plain.homes i;
      copies = sym plain.copies i;
    };
    label =
        subst (λ (x : Shape). StandsLabeled rack x volume.store volume.label None) own_line
        (subst (λ (k : Option KeptLabel). StandsLabeled rack (shape_of volume) volume.store k None) (sym plain.label) (blank_unlabeled rack shape before volume.store blank));
    holds = λ told. record { array = blank.stands; inferred = plain.inferred };
  }

  start_blank : IsBlank shape (rack.counts before) start
  unfolding start
  start_blank = record {
    is = refl;
    others = blank.members.others;
    members = blank.members.begins;
    counts = blank.stays.rise;
    fell = blank_fell rack shape before volume.store blank;
    beyond = blank_beyond rack shape before volume.store blank;
    few = blank.most;
  }

  in_use_all : FitsReduced (table_of volume) (reduced_of volume)
  in_use_all =
      let all : all_in_use shape ≡ reduced_of volume = λ i. record { boundaries = sym plain.boundaries i; live = sym plain.live i; cut = sym plain.cut i } in
      subst (λ (r : Reduced). FitsReduced (table_of volume) r) all (subst (λ (s : Shape). FitsReduced (table_of volume) (all_in_use s)) same_shape (fits_all (table_of volume) blank.sound.table))

  pub is_blank : IsBlankVolume rack shape before volume
  is_blank = record {
    well = record {
      array = blank.sound;
      levels = plain.levels ∙ sym (ap (λ (s : Shape). s.l) same_shape);
      marks = ap length plain.pending ∙ length-replicate shape.n false ∙ sym (ap (λ (s : Shape). s.n) same_shape);
      inferred = record { bytes = plain.bytes ∙ sym (ap (λ (s : Shape). s.l) same_shape); number = plain.number ∙ sym (ap (λ (s : Shape). s.n) same_shape) };
      labeled =
          subst (λ (x : Shape). IsLabeled rack x volume.store volume.label) own_line
          (subst (λ (k : Option KeptLabel). IsLabeled rack (shape_of volume) volume.store k) (sym plain.label) (blank_labeled rack shape before volume.store blank));
      in_use = in_use_all;
      long = omega (arith, plain.long, plain.boundaries);
      homes_are = subst (λ (x : List Home). AreHomes (shape_of volume) x) (sym plain.homes) (no_homes (shape_of volume));
      few_homes = subst (λ (x : List Home). length x ≤ (shape_of volume).n) (sym plain.homes) (omega arith);
      copies_are = subst (λ (x : List Home). AreHomes (shape_of volume) x) (sym plain.copies) (no_homes (shape_of volume));
      uncopied = λ unsettled. plain.copies;
      worn = λ worn. absurd (cc worn);
      settled = λ settled. absurd (cc settled);
    };
    shape_is = same_shape;
    tells = blank.stays.tells;
    told_before = blank.stays.told_before;
    own = blank.own;
    nothing = blank.nothing;
    same_rack = blank.stays.same_rack;
    state = start;
    blank = start_blank;
    stands = start_in;
    given_is = plain.given;
    few = blank.most;
  }
