-- What calls leave of a volume that keep all its bytes: members only fall, and what is told was told before.
use Rattle.std.proofs.Common.{◌≡◌, ◌≢◌, ◌∙◌, ◌≤◌, ◌<◌, ◌/◌, ◌&&◌, ◌||◌, ℕ, Bool, true, false, List, length, inl, inr, refl, sym, ap, subst}
use Rattle.std.specs.Prelude.{IfSome, None, Option, Some, if◌then◌else◌, not, take}
use Rattle.std.proofs.lemmas.Bool.{and_from, and_parts, cases_Bool, false≢true}
use Rattle.dg_io.specs.Told.{IsSame, Told}
use Rattle.dg_io.specs.declared.outside.Rack.{Ghosts}
use Rattle.dg_label.specs.Labels.{HasLength, IsKeptOf, IsLabeled, IsOfBoundariesInUse, StandsLabeled}
use Rattle.dg_label.specs.LineLaws.{line_on, seal_on}
use Rattle.dg_label.specs.declared.labels.KeptLabel.{KeptLabel}
use Rattle.dg_model.proofs.MemberLaws.{NoneRecovers}
use Rattle.dg_model.specs.Blocks.{zeros}
use Rattle.dg_model.specs.Members.{is_filling, is_good}
use Rattle.dg_model.specs.Saves.{AreHomes, BeginsWith, HasBody, member_length}
use Rattle.dg_model.specs.Saves as saves
use Rattle.dg_model.specs.Seals.{LastLabel, label_after, label_on}
use Rattle.dg_model.specs.States.{has_lost}
use Rattle.dg_model.specs.Tables.{Table}
use Rattle.dg_model.specs.declared.members.MemberState.TheVariants.{Out}
use Rattle.dg_model.specs.declared.shapes.Shape.{Shape}
use Rattle.dg_store.specs.Stores.{IsSound, KeepsBlocks}
use Rattle.dg_store.specs.Stores as stores
use Rattle.dg_store.specs.declared.store.Store.{Store}
use Rattle.dg_volume.proofs.LabelLaws.{here_filling, opened}
use Rattle.dg_volume.proofs.UseLaws.{fits_table}
use Rattle.dg_volume.proofs.VolumeLaws.{line_same, lost_on}
use Rattle.dg_volume.specs.Volumes.{FitsArray, IsInPlace, IsWell, Known, StandsFor, StandsUnder, line_of, members_of, shape_of}
use Rattle.dg_volume.specs.declared.phases.InPhase as phases
use Rattle.dg_volume.specs.declared.volumes.Volume.{Volume}

-- what is said of bytes that are as they were
if_told : (P : List ℕ → Type 0) (before now : Option (List ℕ)) → Told IsSame before now → IfSome before P → IfSome now P
if_told P before None told had = tt
if_told P None (Some a) told had = absurd told
if_told P (Some b) (Some a) told had = subst P (sym told) had

-- a label of which fewer members tell has the same numbers
kept_fewer : (last : LastLabel) (keepers bodies : ℕ → Bool) (kept : Option KeptLabel) → IsKeptOf (Some last) kept → IsKeptOf (Some (record last { keepers = keepers; bodies = bodies })) kept
kept_fewer last keepers bodies None is = absurd is
kept_fewer last keepers bodies (Some k) is = record { format = is.format; sequence = is.sequence; sealed = is.sealed; body = is.body }

-- The array of the same blocks, of which no member came back, and what is told of their bytes is as it was.
pub record StaysTold {R : Type 0} (rack : Ghosts R) (a b : Store R) : Type 0 where
  pub sound : IsSound rack b
  pub table : stores.table_of b ≡ stores.table_of a
  pub same : (q : ℕ) → Told IsSame (rack.bytes (stores.rack_of a) q) (rack.bytes (stores.rack_of b) q)
  pub told_before : (q : ℕ) → rack.tells (stores.rack_of b) q → rack.tells (stores.rack_of a) q
  pub back : NoneRecovers (stores.members_of a) (stores.members_of b)
  pub outs : (q : ℕ) → stores.members_of a q ≡ Out → stores.members_of b q ≡ Out
  pub fills : (q : ℕ) → is_filling (stores.members_of b q) ≡ true → is_filling (stores.members_of a q) ≡ true
  pub blocks : KeepsBlocks rack a b

-- ---- labels

module _ {R : Type 0} (rack : Ghosts R) (a b : Store R) (h : StaysTold rack a b) where
  pub shape_told : stores.shape_of b ≡ stores.shape_of a
  shape_told = ap (λ (t : Table). t.shape) h.table

  told : (P : List ℕ → Type 0) (q : ℕ) → IfSome (rack.bytes (stores.rack_of a) q) P → IfSome (rack.bytes (stores.rack_of b) q) P
  told P q had = if_told P (rack.bytes (stores.rack_of a) q) (rack.bytes (stores.rack_of b) q) (h.same q) had

  pub labeled_still : (line : Shape) (kept : Option KeptLabel) → IsLabeled rack line a kept → IsLabeled rack line b kept
  labeled_still line kept labeled = record {
    fits = line_on line (stores.shape_of a) (stores.shape_of b) shape_told labeled.fits;
    numbers = labeled.numbers;
    sealed = seal_on (stores.shape_of a) (stores.shape_of b) kept shape_told labeled.sealed;
    lengths = λ q here. told (λ (all : List ℕ). HasLength line kept q (length all)) q (labeled.lengths q (λ out. here (h.outs q out)));
    filling = λ q fills. told (λ (all : List ℕ). length all ≡ member_length 2 line) q (labeled.filling q (h.fills q fills));
  }

  -- a member that isn't out, and had no label, has none
  fresh_still : (q : ℕ) → stores.members_of b q ≢ Out → (stores.members_of a q ≢ Out → IfSome (rack.bytes (stores.rack_of a) q) (λ all. take 512 all ≡ zeros 512))
      → IfSome (rack.bytes (stores.rack_of b) q) (λ all. take 512 all ≡ zeros 512)
  fresh_still q here fresh = told (λ (all : List ℕ). take 512 all ≡ zeros 512) q (fresh (λ out. here (h.outs q out)))

  below_still : (q : ℕ) → q / 2 < (stores.shape_of b).b → q / 2 < (stores.shape_of a).b
  below_still q below = subst (λ (shape : Shape). q / 2 < shape.b) shape_told below

  -- the label stands on fewer of the members that have it, but on each good one
  pub fewer : (line : Shape) (kept : Option KeptLabel) (last : LastLabel) (keepers bodies : ℕ → Bool) → ((q : ℕ) → keepers q ≡ true → last.keepers q ≡ true)
      → ((q : ℕ) → bodies q ≡ true → last.bodies q ≡ true) → ((q : ℕ) → last.keepers q ≡ true → is_good (stores.members_of b q) ≡ true → keepers q ≡ true)
      → StandsLabeled rack line a kept (Some last) → StandsLabeled rack line b kept (Some (record last { keepers = keepers; bodies = bodies }))
  fewer line kept last keepers bodies less_keep less_bodies still stands = record {
    kept = kept_fewer last keepers bodies kept stands.kept;
    holds = record {
      label = λ q keeps. told (λ (all : List ℕ). BeginsWith all (label_on last q)) q (stands.holds.label q (less_keep q keeps));
      body = λ q has sealed. told (λ (all : List ℕ). HasBody all last.shape last.body) q (stands.holds.body q (less_bodies q has) sealed);
    };
    sizes = λ named q keeps. told (λ (all : List ℕ). saves.HasLength (label_on last q) (length all)) q (stands.sizes named q (less_keep q keeps));
    of_array = λ why.
        let is = subst (λ (shape : Shape). IsOfBoundariesInUse line shape last) (sym shape_told) stands.of_array why in
        record { shape_is = is.shape_is; numbers_are = is.numbers_are };
    filling = λ q fills. elim (cases_Bool (keepers q)) [
      | inl keeps ↦ absurd (false≢true (sym (stands.filling q (h.fills q fills)) ∙ less_keep q keeps))
      | inr lacks ↦ lacks
    ];
    fresh = λ q below here lacks. fresh_still q here (λ stood. stands.fresh q (below_still q below) stood (elim (cases_Bool (last.keepers q)) [
      | inl kept_it ↦ elim (cases_Bool (is_good (stores.members_of b q))) [
        | inl good ↦ absurd (false≢true (sym lacks ∙ still q kept_it good))
        | inr bad ↦ stands.filling q (h.fills q (here_filling (stores.members_of b q) here bad))
      ]
      | inr lacked ↦ lacked
    ]));
  }

  -- it stands as it stood
  pub stands_still : (line : Shape) (kept : Option KeptLabel) (last : Option LastLabel) → StandsLabeled rack line a kept last → StandsLabeled rack line b kept last
  stands_still line kept None stands = record {
    kept = stands.kept;
    holds = tt;
    sizes = tt;
    of_array = tt;
    filling = λ q fills. refl;
    fresh = λ q below here lacks. fresh_still q here (λ stood. stands.fresh q (below_still q below) stood lacks);
  }
  stands_still line kept (Some last) stands = fewer line kept last last.keepers last.bodies (λ q keeps. keeps) (λ q has. has) (λ q keeps good. keeps) stands

  -- no seal was opened
  pub stands_after : (line : Shape) (kept : Option KeptLabel) (last : Option LastLabel) → StandsLabeled rack line a kept last
      → StandsLabeled rack line b kept (label_after false (stores.members_of a) (stores.members_of b) last)
  stands_after line kept None stands = stands_still line kept None stands
  stands_after line kept (Some last) stands = by_seal last.sealed refl
    where
      keepers : ℕ → Bool
      keepers q = (last.sealed || last.keepers q) && (is_good (stores.members_of a q) && is_good (stores.members_of b q))

      had : (x y z : Bool) → x ≡ false → ((x || y) && z) ≡ true → y ≡ true
      had x y z unsealed keeps = subst (λ (s : Bool). (s || y) ≡ true) unsealed (and_parts (x || y) z keeps).0

      has : (x y z w : Bool) → y ≡ true → z ≡ true → w ≡ true → ((x || y) && (z && w)) ≡ true
      has true y z w one two three = and_from z w two three
      has false y z w one two three = and_from y (z && w) one (and_from z w two three)

      by_seal : (s : Bool) → last.sealed ≡ s → StandsLabeled rack line b kept (label_after false (stores.members_of a) (stores.members_of b) (Some last))
      by_seal true is =
          subst (λ (s : Bool). StandsLabeled rack line b kept (Some (if s && not false then last else opened (stores.members_of a) (stores.members_of b) last))) (sym is)
          (stands_still line kept (Some last) stands)
      by_seal false is =
          let left = fewer line kept last keepers last.bodies
          (λ q keeps. had last.sealed (last.keepers q) (is_good (stores.members_of a q) && is_good (stores.members_of b q)) is keeps)
          (λ q had_it. had_it) (λ q keeps good. has last.sealed (last.keepers q) (is_good (stores.members_of a q)) (is_good (stores.members_of b q)) keeps (h.back q good) good) stands in
          let open_now = subst (λ (s : Bool). StandsLabeled rack line b kept (Some (record last { sealed = s; keepers = keepers }))) is left in
          subst (λ (s : Bool). StandsLabeled rack line b kept (Some (if s && not false then last else opened (stores.members_of a) (stores.members_of b) last))) (sym is) open_now

-- ---- volumes

module _ {S R : Type 0} (phase : phases.Ghosts S) (rack : Ghosts R) (a : Volume S R) (store : Store R) (h : StaysTold rack a.store store) where
  abbrev pub over : Volume S R
  over = record a { store = store }

  pub line_told : line_of over ≡ line_of a
  line_told = line_same a over refl (shape_told rack a.store store h)

  pub well_told : IsWell phase rack a → IsWell phase rack over
  well_told well =
      let shape = shape_told rack a.store store h in
      record {
        array = h.sound;
        levels = well.levels ∙ sym (ap (λ (x : Shape). x.l) shape);
        marks = well.marks ∙ sym (ap (λ (x : Shape). x.n) shape);
        inferred = subst (λ (x : Shape). IfSome (phase.kept a.phase) (FitsArray x)) (sym shape) well.inferred;
        labeled = subst (λ (x : Shape). IsLabeled rack x store a.label) (sym line_told) (labeled_still rack a.store store h (line_of a) a.label well.labeled);
        in_use = fits_table a over refl h.table well.in_use;
        long = well.long;
        homes_are = subst (λ (x : Shape). AreHomes x a.homes) (sym shape) well.homes_are;
        few_homes = subst (λ (x : Shape). length a.homes ≤ x.n) (sym shape) well.few_homes;
        copies_are = subst (λ (x : Shape). AreHomes x a.copies) (sym shape) well.copies_are;
        uncopied = well.uncopied;
        worn = λ worn. ap (λ (x : Shape). has_lost x (stores.members_of store)) shape ∙ lost_on (shape_of a) (members_of a) (stores.members_of store) h.back (well.worn worn);
        settled = λ settled. subst (λ (x : Table). IsInPlace x (phase.kept a.phase) a.homes a.copies) (sym h.table) (well.settled settled);
      }

  -- the label that it stands under
  pub under_told : (last : Option LastLabel) → StandsLabeled rack (line_of a) store a.label last → StandsUnder rack over last
  under_told last stands = subst (λ (x : Shape). StandsLabeled rack x store a.label last) (sym line_told) stands

  -- what is told in the end was told before
  pub known_before : {P : Type 0} → Known P rack over → Known P rack a
  known_before known = (λ q below. h.told_before q (known.0 q (subst (λ (x : Shape). q / 2 < x.b) (sym (shape_told rack a.store store h)) below)), known.1)

  pub holds_told : (V : List (List ℕ)) → StandsFor phase rack a V → StandsFor phase rack over V
  holds_told V holds = record { array = h.blocks V holds.array; inferred = holds.inferred }
