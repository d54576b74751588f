-- What calls leave of a label: each law is one on the array and what is kept of the label.
use Rattle.std.proofs.Common.{◌≡◌, ◌⊎◌, ◌∙◌, ◌<◌, ◌≤◌, ◌+◌, ◌*◌, ◌^◌, ◌-◌, ◌/◌, ◌&&◌, ◌||◌, ◌≢◌, ℕ, Bool, true, false, List, length, inl, inr, refl, sym, ap, subst, arith}
use Rattle.std.specs.Prelude.{IfSome, None, Option, Some, drop, if◌then◌else◌, nat_lt, not, take}
use Rattle.std.proofs.lemmas.Bool.{and_parts, false≢true, le-ltb, lt-ltb}
use Rattle.dg_io.specs.Told.{IsSame, Told, Torn}
use Rattle.dg_io.specs.declared.outside.Rack.{Ghosts}
use Rattle.dg_label.specs.Labels.{AreFresh, AreNumbers, AreNumbersOf, AreSized, HasLength, HaveSameNumbers, IsKeptOf, IsLabeled, IsOfBoundariesInUse, StandsLabeled, is_sealed, unsealed}
use Rattle.dg_label.specs.LineLaws.{line_on, seal_on}
use Rattle.dg_label.specs.Seals.{HasGood, OpensSeal}
use Rattle.dg_label.specs.declared.labels.KeptLabel.{KeptLabel}
use Rattle.dg_model.proofs.MemberLaws.{none_lost}
use Rattle.dg_model.specs.Blocks.{zeros}
use Rattle.dg_model.specs.Causes.{Rose}
use Rattle.dg_model.specs.Members.{MembersFall, is_filling, is_good, is_lost}
use Rattle.dg_model.specs.Saves.{BeginsWith, HasBody, Label, body_place, member_length}
use Rattle.dg_model.specs.Saves as saves
use Rattle.dg_model.specs.Seals.{HoldsLabel, KeepsLabel, LastLabel, keeps_label as has_label, label_after, label_on, next_label}
use Rattle.dg_model.specs.States.{has_lost}
use Rattle.dg_model.specs.declared.members.MemberState.{MemberState}
use Rattle.dg_model.specs.declared.members.MemberState.TheVariants.{Filling, Good, Out}
use Rattle.dg_model.specs.declared.shapes.Shape.{Shape}
use Rattle.dg_pair.specs.Calls.{KeepsBeside}
use Rattle.dg_store.specs.Leaves.{Keeps, Stays}
use Rattle.dg_store.specs.ReadLaws.{beside_none}
use Rattle.dg_store.specs.Stores.{members_of, rack_of, shape_of}
use Rattle.dg_store.specs.Views.{ReadsOn}
use Rattle.dg_store.specs.declared.store.Store.{Store}
use Rattle.dg_volume.proofs.FaultLaws.{stays_by}
use Rattle.dg_volume.specs.Seals.{OpensWhere, Relabels}

-- ---- the bytes of a member

-- a label before the slots stays where only bytes of slots changed
front_stays : (n : ℕ) (label : Label) (before now : Option (List ℕ)) → Told (Torn 512 n) before now → IfSome before (λ all. BeginsWith all label)
    → IfSome now (λ all. BeginsWith all label)
front_stays n label None None told had = tt
front_stays n label (Some b) None told had = tt
front_stays n label None (Some a) told had = absurd told
front_stays n label (Some b) (Some a) told had = record { is = had.is; bytes = told.front ∙ had.bytes }

-- so does a body behind them
body_stays : (shape : Shape) (body : List ℕ) (before now : Option (List ℕ)) → Told (Torn 512 ((shape.k + 1) * shape.l)) before now
    → IfSome before (λ all. HasBody all shape body) → IfSome now (λ all. HasBody all shape body)
body_stays shape body None None told had = tt
body_stays shape body (Some b) None told had = tt
body_stays shape body None (Some a) told had = absurd told
body_stays shape body (Some b) (Some a) told had =
    ap (λ (xs : List ℕ). take ((body_place shape + length body) - body_place shape) xs) told.back ∙ had

-- so does what is said of the length
pub length_stays : (n : ℕ) (P : ℕ → Type 0) (before now : Option (List ℕ)) → Told (Torn 512 n) before now → IfSome before (λ all. P (length all)) → IfSome now (λ all. P (length all))
length_stays n P None None told had = tt
length_stays n P (Some b) None told had = tt
length_stays n P None (Some a) told had = absurd told
length_stays n P (Some b) (Some a) told had = subst P (sym told.size) had

-- bytes that are as they were
pub torn_none : (place n : ℕ) (before now : Option (List ℕ)) → Told IsSame before now → Told (Torn place n) before now
torn_none place n None None told = tt
torn_none place n (Some b) None told = tt
torn_none place n None (Some a) told = absurd told
torn_none place n (Some b) (Some a) told = record {
  size = ap length told;
  front = ap (λ (xs : List ℕ). take place xs) told;
  back = ap (λ (xs : List ℕ). drop (place + n) xs) told;
}

-- zeros where a label would be
abbrev pub HasNone : Option (List ℕ) → Type 0
HasNone told = IfSome told (λ all. take 512 all ≡ zeros 512)

-- so do they
pub none_stays : (n : ℕ) (before now : Option (List ℕ)) → Told (Torn 512 n) before now → HasNone before → HasNone now
none_stays n None None told had = tt
none_stays n (Some b) None told had = tt
none_stays n None (Some a) told had = absurd told
none_stays n (Some b) (Some a) told had = told.front ∙ had

-- ---- members

pub filling_not_good : (m : MemberState) → is_filling m ≡ true → is_good m ≡ false
filling_not_good Good fills = absurd (false≢true fills)
filling_not_good (Filling n) fills = refl
filling_not_good Out fills = refl

pub here_filling : (m : MemberState) → m ≢ Out → is_good m ≡ false → is_filling m ≡ true
here_filling Good here bad = absurd (false≢true (sym bad))
here_filling (Filling n) here bad = refl
here_filling Out here bad = absurd (here refl)

pub out_or : (m : MemberState) → (m ≡ Out) ⊎ (m ≢ Out)
out_or Good = inr (λ e. absurd (cc e))
out_or (Filling n) = inr (λ e. absurd (cc e))
out_or Out = inl refl

and_first : (x g h : Bool) → x ≡ false → (x && (g && h)) ≡ false
and_first x g h e = ap (λ (b : Bool). b && (g && h)) e

and_second : (x g h : Bool) → g ≡ false → (x && (g && h)) ≡ false
and_second true g h e = ap (λ (b : Bool). b && h) e
and_second false g h e = refl

and_third : (x g h : Bool) → h ≡ false → (x && (g && h)) ≡ false
and_third true true h e = e
and_third true false h e = refl
and_third false g h e = refl

lacking : (x g h : Bool) → (x && (g && h)) ≡ false → (x ≡ false) ⊎ ((g ≡ false) ⊎ (h ≡ false))
lacking false g h e = inl refl
lacking true false h e = inr (inl refl)
lacking true true h e = inr (inr e)

-- ---- the label of the next state

-- the label with its seal opened, on the members that were good and still are
abbrev pub opened : (ℕ → MemberState) → (ℕ → MemberState) → LastLabel → LastLabel
opened old new last = record last { sealed = false; keepers = λ q. (last.sealed || last.keepers q) && (is_good (old q) && is_good (new q)) }

still_test : (opens : Bool) → (true && not opens) ≡ not opens
still_test true = refl
still_test false = refl

-- ---- whose label

sealed_of : (last : LastLabel) (kept : Option KeptLabel) (s : Bool) → last.sealed ≡ s → IsKeptOf (Some last) kept → is_sealed kept ≡ s
sealed_of last None s is kept = absurd kept
sealed_of last (Some k) s is kept = sym kept.sealed ∙ is

kept_opened : (old new : ℕ → MemberState) (last : LastLabel) (kept : Option KeptLabel) → is_sealed kept ≡ false → IsKeptOf (Some last) kept → IsKeptOf (Some (opened old new last)) kept
kept_opened old new last None is kept = absurd kept
kept_opened old new last (Some k) is kept = record { format = kept.format; sequence = kept.sequence; sealed = sym is; body = kept.body }

-- ---- labels that differ in the bits of members alone

pub same_numbers : (label : Option KeptLabel) → HaveSameNumbers label label
same_numbers None = tt
same_numbers (Some k) = refl

noted_kept : (last : Option LastLabel) (mid after : Option KeptLabel) → HaveSameNumbers mid after → IsKeptOf last mid → IsKeptOf last after
noted_kept None None None same kept = tt
noted_kept None None (Some k) same kept = absurd same
noted_kept None (Some m) after same kept = absurd kept
noted_kept (Some l) None after same kept = absurd kept
noted_kept (Some l) (Some m) None same kept = absurd same
noted_kept (Some l) (Some m) (Some k) same kept =
    subst (λ (x : KeptLabel). AreNumbersOf l x) (sym same) (record { format = kept.format; sequence = kept.sequence; sealed = kept.sealed; body = kept.body })

pub noted_numbers : (shape : Shape) (mid after : Option KeptLabel) → HaveSameNumbers mid after → IfSome mid (AreNumbers shape) → IfSome after (AreNumbers shape)
noted_numbers shape None None same numbers = tt
noted_numbers shape None (Some k) same numbers = absurd same
noted_numbers shape (Some m) None same numbers = absurd same
noted_numbers shape (Some m) (Some k) same numbers =
    subst (λ (x : KeptLabel). AreNumbers shape x) (sym same) (record { formats = numbers.formats; first = numbers.first; last = numbers.last; body = numbers.body })

-- one that isn't sealed is the same where it is opened
unsealed_same : (kept : Option KeptLabel) → is_sealed kept ≡ false → unsealed kept ≡ kept
unsealed_same None is = refl
unsealed_same (Some k) is = λ i. Some (record k { sealed = sym is i })

-- the array's numbers stay
of_opened : (line shape : Shape) (old new : ℕ → MemberState) (last : LastLabel) → IsOfBoundariesInUse line shape last → IsOfBoundariesInUse line shape (opened old new last)
of_opened line shape old new last of (inl sealed) = absurd (false≢true sealed)
of_opened line shape old new last of (inr same) = let is = of (inr same) in record { shape_is = is.shape_is; numbers_are = is.numbers_are }

of_shape : (line a b : Shape) (last : Option LastLabel) → b ≡ a → IfSome last (IsOfBoundariesInUse line a) → IfSome last (IsOfBoundariesInUse line b)
of_shape line a b last same is = subst (λ (s : Shape). IfSome last (IsOfBoundariesInUse line s)) (sym same) is

-- no member that is refilled keeps a label that was opened
filling_lacks : (old new : ℕ → MemberState) (last : LastLabel) (q : ℕ) → is_filling (new q) ≡ true → has_label (Some (opened old new last)) q ≡ false
filling_lacks old new last q fills = and_third (last.sealed || last.keepers q) (is_good (old q)) (is_good (new q)) (filling_not_good (new q) fills)

module _ {R : Type 0} (rack : Ghosts R) where
  abbrev writes_of : Store R → ℕ
  writes_of store = (rack.counts (rack_of store)).writes

  -- ---- steps of the model

  rose_not : (before now : ℕ) → Rose before now → now ≡ before → now < 2 ^ 64 - 1 → ⊥
  rose_not before now rose same low = omega (arith, rose, same, low)

  sealed_rose : (opens : Bool) (before now : ℕ) → (opens ≡ false → now ≡ before) → before < now → opens ≡ true
  sealed_rose true before now stood less = refl
  sealed_rose false before now stood less = absurd (let same = stood refl in omega (arith, same, less))

  sealed_stood : (opens : Bool) (before now : ℕ) → (opens ≡ true → Rose before now) → now ≡ before → now < 2 ^ 64 - 1 → opens ≡ false
  sealed_stood true before now wrote same low = absurd (rose_not before now (wrote refl) same low)
  sealed_stood false before now wrote same low = refl

  after_unsealed : (one two : Bool) (old new : ℕ → MemberState) (last : LastLabel) → last.sealed ≡ false → next_label one old new last ≡ next_label two old new last
  after_unsealed one two old new last is =
      ap (λ (s : Bool). if s && not one then last else opened old new last) is ∙ sym (ap (λ (s : Bool). if s && not two then last else opened old new last) is)

  -- the label that is left is one that a step may leave
  pub keeps_label : (line : Shape) (a b : Store R) (before after : Option KeptLabel) (h : Relabels rack line a b before after) (last : Option LastLabel) → IsKeptOf last before
      → KeepsLabel (writes_of a) (writes_of b) (members_of a) (members_of b) last (label_after h.opens (members_of a) (members_of b) last)
  keeps_label line a b before after h None kept = record {
    opens = nat_lt (writes_of a) (writes_of b);
    rose = λ less low. lt-ltb (writes_of a) (writes_of b) less;
    stood = λ same low. le-ltb (writes_of a) (writes_of b) (omega (arith, same));
    is = refl;
  }
  keeps_label line a b before after h (Some last) kept = by_seal last.sealed refl
    where
      by_seal : (s : Bool) → last.sealed ≡ s
          → KeepsLabel (writes_of a) (writes_of b) (members_of a) (members_of b) (Some last) (label_after h.opens (members_of a) (members_of b) (Some last))
      by_seal true is =
          let sealed = sealed_of last before true is kept in
          record {
            opens = h.opens;
            rose = λ less low. sealed_rose h.opens (writes_of a) (writes_of b) (h.stood sealed) less;
            stood = λ same low. sealed_stood h.opens (writes_of a) (writes_of b) (h.wrote sealed) same low;
            is = refl;
          }
      by_seal false is = record {
        opens = nat_lt (writes_of a) (writes_of b);
        rose = λ less low. lt-ltb (writes_of a) (writes_of b) less;
        stood = λ same low. le-ltb (writes_of a) (writes_of b) (omega (arith, same));
        is = ap Some (after_unsealed h.opens (nat_lt (writes_of a) (writes_of b)) (members_of a) (members_of b) last is);
      }

  -- ---- no call

  still_label : (line : Shape) (a : Store R) (kept : Option KeptLabel) (last : LastLabel) (s : Bool) → last.sealed ≡ s → StandsLabeled rack line a kept (Some last)
      → StandsLabeled rack line a kept (Some (next_label false (members_of a) (members_of a) last))
  still_label line a kept last true is stands =
      subst (λ (s : Bool). StandsLabeled rack line a kept (Some (if s && not false then last else opened (members_of a) (members_of a) last))) (sym is) stands
  still_label line a kept last false is stands =
      let open_now : StandsLabeled rack line a kept (Some (opened (members_of a) (members_of a) last)) = record {
        kept = kept_opened (members_of a) (members_of a) last kept (sealed_of last kept false is stands.kept) stands.kept;
        holds = record {
          label = λ q keeps.
              let parts = and_parts (last.sealed || last.keepers q) (is_good (members_of a q) && is_good (members_of a q)) keeps in
              let had : last.keepers q ≡ true = subst (λ (s : Bool). (s || last.keepers q) ≡ true) is parts.0 in
              subst (λ (s : Bool). IfSome (rack.bytes (rack_of a) q) (λ all. BeginsWith all (record (label_on last q) { sealed = s }))) is
              (stands.holds.label q had);
          body = λ q keeps sealed. absurd (false≢true sealed);
        };
        sizes = λ named q keeps.
            let parts = and_parts (last.sealed || last.keepers q) (is_good (members_of a q) && is_good (members_of a q)) keeps in
            stands.sizes named q (subst (λ (s : Bool). (s || last.keepers q) ≡ true) is parts.0);
        of_array = of_opened line (shape_of a) (members_of a) (members_of a) last stands.of_array;
        filling = filling_lacks (members_of a) (members_of a) last;
        fresh = λ q below here lacks. elim (lacking (last.sealed || last.keepers q) (is_good (members_of a q)) (is_good (members_of a q)) lacks) [
          | inl none ↦ stands.fresh q below here (sym (ap (λ (s : Bool). s || last.keepers q) is) ∙ none)
          | inr bad ↦ stands.fresh q below here (stands.filling q (here_filling (members_of a q) here (elim bad [ inl one ↦ one | inr two ↦ two ])))
        ];
      } in
      subst (λ (s : Bool). StandsLabeled rack line a kept (Some (if s && not false then last else opened (members_of a) (members_of a) last))) (sym is) open_now

  pub relabels_none : (line : Shape) (a : Store R) (kept : Option KeptLabel) → Relabels rack line a a kept kept
  relabels_none line a kept = record {
    labeled = λ labeled. labeled;
    opens = false;
    stands = λ last labeled stands. at_last last stands;
    wrote = λ sealed opens. absurd (false≢true opens);
    stood = λ sealed opens. refl;
  }
    where
      at_last : (last : Option LastLabel) → StandsLabeled rack line a kept last → StandsLabeled rack line a kept (label_after false (members_of a) (members_of a) last)
      at_last None stands = stands
      at_last (Some last) stands = still_label line a kept last last.sealed refl stands

  -- ---- an opening

  pub relabels_opened : (line : Shape) (a m : Store R) (before after : Option KeptLabel) → HasGood a → OpensSeal rack a m before after → Relabels rack line a m before after
  relabels_opened line a m before after good h = record {
    labeled = h.labeled line;
    opens = true;
    stands = λ last labeled stands. by_seal labeled (is_sealed before) refl last stands;
    wrote = λ sealed opens. h.wrote sealed good;
    stood = λ sealed opens. absurd (false≢true (sym opens));
  }
    where
      at_open : (last : LastLabel) → is_sealed before ≡ false → StandsLabeled rack line a before (Some last)
          → StandsLabeled rack line a before (Some (next_label true (members_of a) (members_of a) last))
      at_open last is stands =
          subst (λ (x : LastLabel). StandsLabeled rack line a before (Some x))
          (after_unsealed false true (members_of a) (members_of a) last (unsealed_last before is stands.kept))
          (still_label line a before last last.sealed refl stands)
        where
          unsealed_last : (kept : Option KeptLabel) → is_sealed kept ≡ false → IsKeptOf (Some last) kept → last.sealed ≡ false
          unsealed_last None is kept = absurd kept
          unsealed_last (Some k) is kept = kept.sealed ∙ is

      by_seal : IsLabeled rack line a before → (s : Bool) → is_sealed before ≡ s → (last : Option LastLabel) → StandsLabeled rack line a before last
          → StandsLabeled rack line m after (label_after true (members_of a) (members_of m) last)
      by_seal labeled true is last stands = h.stands line last labeled is stands
      by_seal labeled false is None stands =
          subst (λ (k : Option KeptLabel). StandsLabeled rack line m k None) (sym (h.after_is ∙ unsealed_same before is))
          (subst (λ (x : Store R). StandsLabeled rack line x before None) (sym (h.quiet is)) stands)
      by_seal labeled false is (Some last) stands =
          subst (λ (k : Option KeptLabel). StandsLabeled rack line m k (Some (next_label true (members_of a) (members_of m) last))) (sym (h.after_is ∙ unsealed_same before is))
          (subst (λ (x : Store R). StandsLabeled rack line x before (Some (next_label true (members_of a) (members_of x) last))) (sym (h.quiet is)) (at_open last is stands))

  -- ---- a call behind that

  -- What a call left that doesn't touch the label: of the members that keep it, the bytes beside the slots are as they were. Where the seal
  -- was opened some member may have been made anew.
  pub record LeavesLabel (a m c : Store R) (opens : Bool) : Type 0 where
    pub shape : shape_of c ≡ shape_of m
    pub rise : writes_of m ≤ writes_of c
    pub back : (q : ℕ) → is_good (members_of a q) ≡ true → is_good (members_of c q) ≡ true → is_good (members_of m q) ≡ true
    pub beside : (q : ℕ) → (is_good (members_of c q) ≡ true) ⊎ (opens ≡ false)
        → Told (Torn 512 (((shape_of m).k + 1) * (shape_of m).l)) (rack.bytes (rack_of m) q) (rack.bytes (rack_of c) q)
    pub fills : (q : ℕ) → is_filling (members_of c q) ≡ true → (is_filling (members_of m q) ≡ true) ⊎ ((opens ≡ true) × HasNone (rack.bytes (rack_of c) q))
    pub outs : (q : ℕ) → members_of m q ≡ Out → (members_of c q ≡ Out) ⊎ ((opens ≡ true) × HasNone (rack.bytes (rack_of c) q))
    pub live : (q : ℕ) → members_of c q ≢ Out → members_of m q ≢ Out
        → Told (Torn 512 (((shape_of m).k + 1) * (shape_of m).l)) (rack.bytes (rack_of m) q) (rack.bytes (rack_of c) q)

  below_on : (a c : Store R) → shape_of c ≡ shape_of a → (q : ℕ) → q / 2 < (shape_of c).b → q / 2 < (shape_of a).b
  below_on a c same q below = subst (λ (s : Shape). q / 2 < s.b) same below

  -- a member that has no label had none where the array stood with this one before
  fresh_on : (a m c : Store R) (opens : Bool) (last : Option LastLabel) → LeavesLabel a m c opens → AreFresh rack m last
      → (q : ℕ) → q / 2 < (shape_of c).b → members_of c q ≢ Out → (members_of m q ≢ Out → has_label last q ≡ false) → HasNone (rack.bytes (rack_of c) q)
  fresh_on a m c opens last h fresh q below here lacks = elim (out_or (members_of m q)) [
    | inl out ↦ elim (h.outs q out) [ inl still ↦ absurd (here still) | inr anew ↦ anew.1 ]
    | inr stood ↦
        none_stays (((shape_of m).k + 1) * (shape_of m).l) (rack.bytes (rack_of m) q) (rack.bytes (rack_of c) q) (h.live q here stood)
        (fresh q (below_on m c h.shape q below) stood (lacks stood))
  ]

  still_or_opened : (line : Shape) (a m c : Store R) (opens : Bool) (kept : Option KeptLabel) (last : LastLabel) (test : Bool) → (last.sealed && not opens) ≡ test → LeavesLabel a m c opens
      → StandsLabeled rack line m kept (Some (if test then last else opened (members_of a) (members_of m) last))
      → StandsLabeled rack line c kept (Some (if test then last else opened (members_of a) (members_of c) last))
  still_or_opened line a m c opens kept last true is h stands =
      let tests = and_parts last.sealed (not opens) is in
      let closed : opens ≡ false = closed_of opens tests.1 in
      let shape : last.shape ≡ shape_of m = (stands.of_array (inl tests.0)).shape_is in
      let room : ((shape_of m).k + 1) * (shape_of m).l ≡ (last.shape.k + 1) * last.shape.l = ap (λ (s : Shape). (s.k + 1) * s.l) (sym shape) in
      record {
        kept = stands.kept;
        holds = record {
          label = λ q keeps. front_stays (((shape_of m).k + 1) * (shape_of m).l) (label_on last q) (rack.bytes (rack_of m) q) (rack.bytes (rack_of c) q)
              (h.beside q (inr closed)) (stands.holds.label q keeps);
          body = λ q has sealed. body_stays last.shape last.body (rack.bytes (rack_of m) q) (rack.bytes (rack_of c) q)
              (subst (λ (n : ℕ). Told (Torn 512 n) (rack.bytes (rack_of m) q) (rack.bytes (rack_of c) q)) room (h.beside q (inr closed))) (stands.holds.body q has sealed);
        };
        sizes = λ named q keeps. length_stays (((shape_of m).k + 1) * (shape_of m).l) (λ size. saves.HasLength (label_on last q) size) (rack.bytes (rack_of m) q) (rack.bytes (rack_of c) q)
            (h.beside q (inr closed)) (stands.sizes named q keeps);
        of_array = of_shape line (shape_of m) (shape_of c) (Some last) h.shape stands.of_array;
        filling = λ q fills. elim (h.fills q fills) [ inl was ↦ stands.filling q was | inr anew ↦ absurd (false≢true (sym closed ∙ anew.0)) ];
        fresh = λ q below here lacks. fresh_on a m c opens (Some last) h stands.fresh q below here (λ stood. lacks);
      }
    where
      closed_of : (b : Bool) → not b ≡ true → b ≡ false
      closed_of true e = sym e
      closed_of false e = refl
  still_or_opened line a m c opens kept last false is h stands = record {
    kept = again kept stands.kept;
    holds = record {
      label = λ q keeps.
          let parts = and_parts (last.sealed || last.keepers q) (is_good (members_of a q) && is_good (members_of c q)) keeps in
          let both = and_parts (is_good (members_of a q)) (is_good (members_of c q)) parts.1 in
          let mid = h.back q both.0 both.1 in
          front_stays (((shape_of m).k + 1) * (shape_of m).l) (label_on (opened (members_of a) (members_of c) last) q) (rack.bytes (rack_of m) q) (rack.bytes (rack_of c) q)
          (h.beside q (inl both.1)) (stands.holds.label q (joined (last.sealed || last.keepers q) (is_good (members_of a q)) (is_good (members_of m q)) parts.0 both.0 mid));
      body = λ q keeps sealed. absurd (false≢true sealed);
    };
    sizes = λ named q keeps.
        let parts = and_parts (last.sealed || last.keepers q) (is_good (members_of a q) && is_good (members_of c q)) keeps in
        let both = and_parts (is_good (members_of a q)) (is_good (members_of c q)) parts.1 in
        let mid = h.back q both.0 both.1 in
        length_stays (((shape_of m).k + 1) * (shape_of m).l) (λ size. saves.HasLength (label_on last q) size) (rack.bytes (rack_of m) q) (rack.bytes (rack_of c) q)
        (h.beside q (inl both.1)) (stands.sizes named q (joined (last.sealed || last.keepers q) (is_good (members_of a q)) (is_good (members_of m q)) parts.0 both.0 mid));
    of_array = of_shape line (shape_of m) (shape_of c) (Some (opened (members_of a) (members_of c) last)) h.shape
        (λ why. let is = stands.of_array why in record { shape_is = is.shape_is; numbers_are = is.numbers_are });
    filling = filling_lacks (members_of a) (members_of c) last;
    fresh = λ q below here lacks.
        elim (lacking (last.sealed || last.keepers q) (is_good (members_of a q)) (is_good (members_of c q)) lacks) [
          | inl none ↦ on q below here (λ stood. and_first (last.sealed || last.keepers q) (is_good (members_of a q)) (is_good (members_of m q)) none)
          | inr (inl bad) ↦ on q below here (λ stood. and_second (last.sealed || last.keepers q) (is_good (members_of a q)) (is_good (members_of m q)) bad)
          | inr (inr bad) ↦ elim (h.fills q (here_filling (members_of c q) here bad)) [
            | inl fills ↦ on q below here (λ stood. stands.filling q fills)
            | inr anew ↦ anew.1
          ]
        ];
  }
    where
      on : (q : ℕ) → q / 2 < (shape_of c).b → members_of c q ≢ Out → (members_of m q ≢ Out → has_label (Some (opened (members_of a) (members_of m) last)) q ≡ false)
          → HasNone (rack.bytes (rack_of c) q)
      on = fresh_on a m c opens (Some (opened (members_of a) (members_of m) last)) h stands.fresh

      joined : (x y z : Bool) → x ≡ true → y ≡ true → z ≡ true → (x && (y && z)) ≡ true
      joined x y z e f g = ap (λ (b : Bool). b && (y && z)) e ∙ ap (λ (b : Bool). true && (b && z)) f ∙ ap (λ (b : Bool). true && (true && b)) g

      again : (k : Option KeptLabel) → IsKeptOf (Some (opened (members_of a) (members_of m) last)) k → IsKeptOf (Some (opened (members_of a) (members_of c) last)) k
      again None is = absurd is
      again (Some k) is = record { format = is.format; sequence = is.sequence; sealed = is.sealed; body = is.body }

  -- the label that stands is the one with other bits
  noted_stands : (line : Shape) (c : Store R) (mid after : Option KeptLabel) (last : Option LastLabel) → HaveSameNumbers mid after → StandsLabeled rack line c mid last
      → StandsLabeled rack line c after last
  noted_stands line c mid after last same stands = record {
    kept = noted_kept last mid after same stands.kept;
    holds = stands.holds;
    sizes = stands.sizes;
    of_array = stands.of_array;
    filling = stands.filling;
    fresh = stands.fresh;
  }

  pub relabels_noted : (line : Shape) (a m c : Store R) (before mid after : Option KeptLabel) (first : Relabels rack line a m before mid) → HaveSameNumbers mid after
      → (IsLabeled rack line m mid → IsLabeled rack line c after) → LeavesLabel a m c first.opens → (first.opens ≡ false → writes_of c ≡ writes_of m) → Relabels rack line a c before after
  relabels_noted line a m c before mid after first same labeled h stood = record {
    labeled = λ was. labeled (first.labeled was);
    opens = first.opens;
    stands = λ last was stands.
        noted_stands line c mid after (label_after first.opens (members_of a) (members_of c) last) same (at_last last (first.stands last was stands));
    wrote = λ sealed opens. rose_on (writes_of a) (writes_of m) (writes_of c) (first.wrote sealed opens) h.rise;
    stood = λ sealed opens. stood opens ∙ first.stood sealed opens;
  }
    where
      rose_on : (x y z : ℕ) → Rose x y → y ≤ z → Rose x z
      rose_on x y z rose up = omega (arith, rose, up)

      at_last : (last : Option LastLabel) → StandsLabeled rack line m mid (label_after first.opens (members_of a) (members_of m) last)
          → StandsLabeled rack line c mid (label_after first.opens (members_of a) (members_of c) last)
      at_last None stands = record {
        kept = stands.kept;
        holds = tt;
        sizes = tt;
        of_array = tt;
        filling = λ q fills. refl;
        fresh = λ q below here lacks. fresh_on a m c first.opens None h stands.fresh q below here (λ stood. refl);
      }
      at_last (Some last) stands = still_or_opened line a m c first.opens mid last (last.sealed && not first.opens) refl h stands

  -- the same where no bit has changed
  relabels_on : (line : Shape) (a m c : Store R) (before after : Option KeptLabel) (first : Relabels rack line a m before after)
      → (IsLabeled rack line m after → IsLabeled rack line c after) → LeavesLabel a m c first.opens
      → (first.opens ≡ false → writes_of c ≡ writes_of m) → Relabels rack line a c before after
  relabels_on line a m c before after first labeled h stood = relabels_noted line a m c before after after first (same_numbers after) labeled h stood

  -- ---- calls on slots

  -- members that aren't out were not out before, and their bytes beside the slots and lengths are as they were
  pub record CallsOnSlots (a m c : Store R) : Type 0 where
    pub shape : shape_of c ≡ shape_of m
    pub rise : writes_of m ≤ writes_of c
    pub back : (q : ℕ) → is_good (members_of a q) ≡ true → is_good (members_of c q) ≡ true → is_good (members_of m q) ≡ true
    pub outs : (q : ℕ) → members_of m q ≡ Out → members_of c q ≡ Out
    pub fills : (q : ℕ) → is_filling (members_of c q) ≡ true → is_filling (members_of m q) ≡ true
    pub beside : (q : ℕ) → Told (Torn 512 (((shape_of m).k + 1) * (shape_of m).l)) (rack.bytes (rack_of m) q) (rack.bytes (rack_of c) q)

  labeled_on : (line : Shape) (a m c : Store R) (kept : Option KeptLabel) → IsLabeled rack line m kept → CallsOnSlots a m c → IsLabeled rack line c kept
  labeled_on line a m c kept labeled h = record {
    fits = line_on line (shape_of m) (shape_of c) h.shape labeled.fits;
    numbers = labeled.numbers;
    sealed = seal_on (shape_of m) (shape_of c) kept h.shape labeled.sealed;
    lengths = λ q here.
        length_stays (((shape_of m).k + 1) * (shape_of m).l) (λ size. HasLength line kept q size) (rack.bytes (rack_of m) q) (rack.bytes (rack_of c) q) (h.beside q)
        (labeled.lengths q (λ out. here (h.outs q out)));
    filling = λ q fills.
        length_stays (((shape_of m).k + 1) * (shape_of m).l) (λ size. size ≡ member_length 2 line) (rack.bytes (rack_of m) q) (rack.bytes (rack_of c) q) (h.beside q)
        (labeled.filling q (h.fills q fills));
  }

  pub relabels_then : (line : Shape) (a m c : Store R) (before after : Option KeptLabel) (first : Relabels rack line a m before after) → CallsOnSlots a m c
      → (first.opens ≡ false → writes_of c ≡ writes_of m) → Relabels rack line a c before after
  relabels_then line a m c before after first h stood =
      relabels_on line a m c before after first (λ labeled. labeled_on line a m c after labeled h) (record {
        shape = h.shape;
        rise = h.rise;
        back = h.back;
        beside = λ q why. h.beside q;
        fills = λ q fills. inl (h.fills q fills);
        outs = λ q out. inl (h.outs q out);
        live = λ q here stood. h.beside q;
      }) stood

  pub out_falls : (before now : ℕ → ℕ) (old new : ℕ → MemberState) → MembersFall before now old new → (q : ℕ) → old q ≡ Out → new q ≡ Out
  out_falls before now old new falls q out = elim (falls q) [ inl same ↦ same ∙ out | inr fell ↦ fell.out ]

  pub good_falls : (before now : ℕ → ℕ) (old new : ℕ → MemberState) → MembersFall before now old new → (q : ℕ) → is_good (new q) ≡ true → is_good (old q) ≡ true
  good_falls before now old new falls q good = elim (falls q) [
    | inl same ↦ sym (ap is_good same) ∙ good
    | inr fell ↦ absurd (false≢true (sym (ap is_good fell.out) ∙ good))
  ]

  fills_falls : (before now : ℕ → ℕ) (old new : ℕ → MemberState) → MembersFall before now old new → (q : ℕ) → is_filling (new q) ≡ true → is_filling (old q) ≡ true
  fills_falls before now old new falls q fills = elim (falls q) [
    | inl same ↦ sym (ap is_filling same) ∙ fills
    | inr fell ↦ absurd (false≢true (sym (ap is_filling fell.out) ∙ fills))
  ]

  -- calls of which the array tells so
  pub slots_fell : (a m c : Store R) → Stays rack m c → MembersFall (rack.counts (rack_of m)).faults (rack.counts (rack_of c)).faults (members_of m) (members_of c)
      → KeepsBeside (shape_of m).l ((shape_of m).k + 1) (rack.bytes (rack_of m)) (rack.bytes (rack_of c)) → CallsOnSlots a m c
  slots_fell a m c left falls beside = record {
    shape = left.shape;
    rise = left.stays.rise.writes;
    back = λ q was good. good_falls (rack.counts (rack_of m)).faults (rack.counts (rack_of c)).faults (members_of m) (members_of c) falls q good;
    outs = out_falls (rack.counts (rack_of m)).faults (rack.counts (rack_of c)).faults (members_of m) (members_of c) falls;
    fills = fills_falls (rack.counts (rack_of m)).faults (rack.counts (rack_of c)).faults (members_of m) (members_of c) falls;
    beside = beside;
  }

  pub slots_kept : (a m c : Store R) → Keeps rack m c → CallsOnSlots a m c
  slots_kept a m c h = slots_fell a m c (stays_by rack m c h) h.falls h.beside

  -- ---- some member is good

  good_of : (members : ℕ → MemberState) (s : ℕ) → is_lost members s ≡ false → (q : ℕ) × (is_good (members q) ≡ true)
  good_of members s live = by_first (is_good (members (2 * s))) refl
    where
      by_second : (second : Bool) → is_good (members (2 * s + 1)) ≡ second → is_good (members (2 * s)) ≡ false → (q : ℕ) × (is_good (members q) ≡ true)
      by_second true e first = (2 * s + 1, e)
      by_second false e first =
          absurd (false≢true (sym live ∙ ap (λ (b : Bool). not b && not (is_good (members (2 * s + 1)))) first ∙ ap (λ (b : Bool). true && not b) e))

      by_first : (first : Bool) → is_good (members (2 * s)) ≡ first → (q : ℕ) × (is_good (members q) ≡ true)
      by_first true e = (2 * s, e)
      by_first false e = by_second (is_good (members (2 * s + 1))) refl e

  pub good_live : (a : Store R) (s : ℕ) → is_lost (members_of a) s ≡ false → HasGood a
  good_live a s live = good_of (members_of a) s live

  pub good_whole : (a : Store R) → 0 < (shape_of a).b → has_lost (shape_of a) (members_of a) ≡ false → HasGood a
  good_whole a some whole = good_of (members_of a) 0 (none_lost (shape_of a) (members_of a) 0 whole some)

  -- where the seal was opened or not
  pub relabels_where : (line : Shape) (writes : Bool) (a m : Store R) (before after : Option KeptLabel) → (writes ≡ true → HasGood a) → OpensWhere rack writes a m before after
      → (h : Relabels rack line a m before after) × (h.opens ≡ writes)
  unfolding relabels_none relabels_opened
  relabels_where line true a m before after good h = (relabels_opened line a m before after (good refl) (h.opens refl), refl)
  relabels_where line false a m before after good h =
      let quiet = h.quiet refl in
      subst (λ (k : Option KeptLabel). (r : Relabels rack line a m before k) × (r.opens ≡ false)) (sym quiet.1)
      (subst (λ (x : Store R). (r : Relabels rack line a x before before) × (r.opens ≡ false)) (sym quiet.0) (relabels_none line a before, refl))

  -- ---- reads

  pub stands_through : (line : Shape) (a r : Store R) (kept : Option KeptLabel) (last : Option LastLabel) → Keeps rack a r → StandsLabeled rack line a kept last
      → StandsLabeled rack line r kept last
  stands_through line a r kept last h stands = record {
    kept = stands.kept;
    holds = at_last last stands.holds stands.of_array;
    sizes = sizes_at last stands.sizes;
    of_array = of_shape line (shape_of a) (shape_of r) last h.shape stands.of_array;
    filling = λ q fills. stands.filling q (fills_falls (rack.counts (rack_of a)).faults (rack.counts (rack_of r)).faults (members_of a) (members_of r) h.falls q fills);
    fresh = λ q below here lacks.
        none_stays (((shape_of a).k + 1) * (shape_of a).l) (rack.bytes (rack_of a) q) (rack.bytes (rack_of r) q) (h.beside q)
        (stands.fresh q (below_on a r h.shape q below)
        (λ out. here (out_falls (rack.counts (rack_of a)).faults (rack.counts (rack_of r)).faults (members_of a) (members_of r) h.falls q out)) lacks);
  }
    where
      at_last : (last : Option LastLabel) → IfSome last (λ label. HoldsLabel label (rack.bytes (rack_of a))) → IfSome last (IsOfBoundariesInUse line (shape_of a))
          → IfSome last (λ label. HoldsLabel label (rack.bytes (rack_of r)))
      at_last None holds of_array = tt
      at_last (Some last) holds of_array =
          record {
            label = λ q keeps. front_stays (((shape_of a).k + 1) * (shape_of a).l) (label_on last q) (rack.bytes (rack_of a) q) (rack.bytes (rack_of r) q)
                (h.beside q) (holds.label q keeps);
            body = λ q has sealed.
                let shape : last.shape ≡ shape_of a = (of_array (inl sealed)).shape_is in
                let room : ((shape_of a).k + 1) * (shape_of a).l ≡ (last.shape.k + 1) * last.shape.l = ap (λ (s : Shape). (s.k + 1) * s.l) (sym shape) in
                body_stays last.shape last.body (rack.bytes (rack_of a) q) (rack.bytes (rack_of r) q)
                (subst (λ (n : ℕ). Told (Torn 512 n) (rack.bytes (rack_of a) q) (rack.bytes (rack_of r) q)) room (h.beside q)) (holds.body q has sealed);
          }

      sizes_at : (last : Option LastLabel) → IfSome last (λ label. label.shape ≡ line → AreSized rack a label) → IfSome last (λ label. label.shape ≡ line → AreSized rack r label)
      sizes_at None sizes = tt
      sizes_at (Some last) sizes = λ named q keeps.
          length_stays (((shape_of a).k + 1) * (shape_of a).l) (λ size. saves.HasLength (label_on last q) size) (rack.bytes (rack_of a) q) (rack.bytes (rack_of r) q) (h.beside q)
          (sizes named q keeps)

  -- fewer members keep it where more were good before
  narrowed : (line : Shape) (a r c : Store R) (kept : Option KeptLabel) (last : LastLabel) (test : Bool)
      → ((q : ℕ) → is_good (members_of a q) ≡ true → is_good (members_of c q) ≡ true → is_good (members_of r q) ≡ true)
      → ((q : ℕ) → is_good (members_of r q) ≡ true → is_good (members_of a q) ≡ true)
      → StandsLabeled rack line c kept (Some (if test then last else opened (members_of r) (members_of c) last))
      → StandsLabeled rack line c kept (Some (if test then last else opened (members_of a) (members_of c) last))
  narrowed line a r c kept last true back from stands = stands
  narrowed line a r c kept last false back from stands = record {
    kept = again kept stands.kept;
    holds = record {
      label = λ q keeps.
          let parts = and_parts (last.sealed || last.keepers q) (is_good (members_of a q) && is_good (members_of c q)) keeps in
          let both = and_parts (is_good (members_of a q)) (is_good (members_of c q)) parts.1 in
          let mid = back q both.0 both.1 in
          stands.holds.label q (joined (last.sealed || last.keepers q) (is_good (members_of r q)) (is_good (members_of c q)) parts.0 mid both.1);
      body = λ q keeps sealed. absurd (false≢true sealed);
    };
    sizes = λ named q keeps.
        let parts = and_parts (last.sealed || last.keepers q) (is_good (members_of a q) && is_good (members_of c q)) keeps in
        let both = and_parts (is_good (members_of a q)) (is_good (members_of c q)) parts.1 in
        let mid = back q both.0 both.1 in
        stands.sizes named q (joined (last.sealed || last.keepers q) (is_good (members_of r q)) (is_good (members_of c q)) parts.0 mid both.1);
    of_array = λ why. let is = stands.of_array why in record { shape_is = is.shape_is; numbers_are = is.numbers_are };
    filling = filling_lacks (members_of a) (members_of c) last;
    fresh = λ q below here lacks. stands.fresh q below here (elim (lacking (last.sealed || last.keepers q) (is_good (members_of a q)) (is_good (members_of c q)) lacks) [
      | inl none ↦ and_first (last.sealed || last.keepers q) (is_good (members_of r q)) (is_good (members_of c q)) none
      | inr (inl bad) ↦ and_second (last.sealed || last.keepers q) (is_good (members_of r q)) (is_good (members_of c q)) (was_bad (is_good (members_of r q)) (is_good (members_of a q)) bad (from q))
      | inr (inr bad) ↦ and_third (last.sealed || last.keepers q) (is_good (members_of r q)) (is_good (members_of c q)) bad
    ]);
  }
    where
      was_bad : (r a : Bool) → a ≡ false → (r ≡ true → a ≡ true) → r ≡ false
      was_bad true a bad from = absurd (false≢true (sym bad ∙ from refl))
      was_bad false a bad from = refl

      joined : (x y z : Bool) → x ≡ true → y ≡ true → z ≡ true → (x && (y && z)) ≡ true
      joined x y z e f g = ap (λ (b : Bool). b && (y && z)) e ∙ ap (λ (b : Bool). true && (b && z)) f ∙ ap (λ (b : Bool). true && (true && b)) g

      again : (k : Option KeptLabel) → IsKeptOf (Some (opened (members_of r) (members_of c) last)) k → IsKeptOf (Some (opened (members_of a) (members_of c) last)) k
      again None is = absurd is
      again (Some k) is = record { format = is.format; sequence = is.sequence; sealed = is.sealed; body = is.body }

  -- reads, and then other calls
  pub relabels_behind : (line : Shape) (a r c : Store R) (before after : Option KeptLabel) → ReadsOn rack a r → (second : Relabels rack line r c before after)
      → ((q : ℕ) → is_good (members_of a q) ≡ true → is_good (members_of c q) ≡ true → is_good (members_of r q) ≡ true) → Relabels rack line a c before after
  relabels_behind line a r c before after reads second back = record {
    labeled = λ labeled. second.labeled (labeled_on line a a r before labeled (slots_kept a a r reads.keeps));
    opens = second.opens;
    stands = λ last labeled stands. at_last (labeled_on line a a r before labeled (slots_kept a a r reads.keeps)) last stands;
    wrote = λ sealed opens. rose_from (writes_of a) (writes_of r) (writes_of c) reads.writes (second.wrote sealed opens);
    stood = λ sealed opens. second.stood sealed opens ∙ reads.writes;
  }
    where
      rose_from : (x y z : ℕ) → y ≡ x → Rose y z → Rose x z
      rose_from x y z same rose = subst (λ (n : ℕ). Rose n z) same rose

      at_last : IsLabeled rack line r before → (last : Option LastLabel) → StandsLabeled rack line a before last
          → StandsLabeled rack line c after (label_after second.opens (members_of a) (members_of c) last)
      at_last labeled None stands = second.stands None labeled (stands_through line a r before None reads.keeps stands)
      at_last labeled (Some last) stands =
          narrowed line a r c after last (last.sealed && not second.opens) back
          (good_falls (rack.counts (rack_of a)).faults (rack.counts (rack_of r)).faults (members_of a) (members_of r) reads.keeps.falls)
          (second.stands (Some last) labeled (stands_through line a r before (Some last) reads.keeps stands))

  pub relabels_read : (line : Shape) (a c : Store R) (kept : Option KeptLabel) → ReadsOn rack a c → Relabels rack line a c kept kept
  relabels_read line a c kept reads = relabels_then line a a c kept kept (relabels_none line a kept) (slots_kept a a c reads.keeps) (λ opens. reads.writes)

  -- ---- no call on the rack

  pub same_bytes : (a c : Store R) → rack_of c ≡ rack_of a → (q : ℕ) → Told (Torn 512 (((shape_of a).k + 1) * (shape_of a).l)) (rack.bytes (rack_of a) q) (rack.bytes (rack_of c) q)
  same_bytes a c same =
      subst (λ (r : R). KeepsBeside (shape_of a).l ((shape_of a).k + 1) (rack.bytes (rack_of a)) (rack.bytes r)) (sym same)
      (beside_none (shape_of a).l ((shape_of a).k + 1) (rack.bytes (rack_of a)))

  -- what the members do may change
  pub relabels_quiet : (line : Shape) (a m c : Store R) (before after : Option KeptLabel) → Relabels rack line a m before after → shape_of c ≡ shape_of m → rack_of c ≡ rack_of m
      → ((q : ℕ) → is_good (members_of a q) ≡ true → is_good (members_of c q) ≡ true → is_good (members_of m q) ≡ true) → ((q : ℕ) → members_of m q ≡ Out → members_of c q ≡ Out)
      → ((q : ℕ) → is_filling (members_of c q) ≡ true → is_filling (members_of m q) ≡ true) → Relabels rack line a c before after
  relabels_quiet line a m c before after first shape same back outs fills =
      let writes : writes_of c ≡ writes_of m = ap (λ (r : R). (rack.counts r).writes) same in
      relabels_then line a m c before after first
      (record { shape = shape; rise = omega (arith, writes); back = back; outs = outs; fills = fills; beside = same_bytes m c same }) (λ opens. writes)

  -- the label stands as it stood
  pub stands_same : (line : Shape) (a c : Store R) (kept : Option KeptLabel) (last : Option LastLabel) → shape_of c ≡ shape_of a → rack_of c ≡ rack_of a
      → ((q : ℕ) → members_of a q ≡ Out → members_of c q ≡ Out) → ((q : ℕ) → is_filling (members_of c q) ≡ true → is_filling (members_of a q) ≡ true)
      → StandsLabeled rack line a kept last → StandsLabeled rack line c kept last
  stands_same line a c kept last shape same outs fills stands = record {
    kept = stands.kept;
    holds = subst (λ (r : R). IfSome last (λ label. HoldsLabel label (rack.bytes r))) (sym same) stands.holds;
    sizes = subst (λ (r : R). IfSome last (λ label. label.shape ≡ line → (q : ℕ) → label.keepers q ≡ true → IfSome (rack.bytes r q) (λ all. saves.HasLength (label_on label q) (length all)))) (sym same) stands.sizes;
    of_array = of_shape line (shape_of a) (shape_of c) last shape stands.of_array;
    filling = λ q filled. stands.filling q (fills q filled);
    fresh = λ q below here lacks.
        subst (λ (r : R). HasNone (rack.bytes r q)) (sym same) (stands.fresh q (below_on a c shape q below) (λ out. here (outs q out)) lacks);
  }

  -- whether the seal was opened
  pub none_opens : (line : Shape) (a : Store R) (kept : Option KeptLabel) → (relabels_none line a kept).opens ≡ false
  unfolding relabels_none
  none_opens line a kept = refl

  pub then_opens : (line : Shape) (a m c : Store R) (before after : Option KeptLabel) (first : Relabels rack line a m before after) (h : CallsOnSlots a m c) (stood : first.opens ≡ false → writes_of c ≡ writes_of m)
      → (relabels_then line a m c before after first h stood).opens ≡ first.opens
  unfolding relabels_then relabels_on relabels_noted
  then_opens line a m c before after first h stood = refl

  pub quiet_opens : (line : Shape) (a m c : Store R) (before after : Option KeptLabel) (first : Relabels rack line a m before after) (shape : shape_of c ≡ shape_of m) (same : rack_of c ≡ rack_of m)
      (back : (q : ℕ) → is_good (members_of a q) ≡ true → is_good (members_of c q) ≡ true → is_good (members_of m q) ≡ true) (outs : (q : ℕ) → members_of m q ≡ Out → members_of c q ≡ Out)
      (fills : (q : ℕ) → is_filling (members_of c q) ≡ true → is_filling (members_of m q) ≡ true) → (relabels_quiet line a m c before after first shape same back outs fills).opens ≡ first.opens
  unfolding relabels_quiet relabels_then relabels_on relabels_noted
  quiet_opens line a m c before after first shape same back outs fills = refl

  pub opened_opens : (line : Shape) (a m : Store R) (before after : Option KeptLabel) (good : HasGood a) (h : OpensSeal rack a m before after) → (relabels_opened line a m before after good h).opens ≡ true
  unfolding relabels_opened
  opened_opens line a m before after good h = refl

  -- calls on slots keep the label that fits
  pub labeled_kept : (line : Shape) (m c : Store R) (kept : Option KeptLabel) → IsLabeled rack line m kept → Keeps rack m c → IsLabeled rack line c kept
  labeled_kept line m c kept labeled h = labeled_on line m m c kept labeled (slots_kept m m c h)
