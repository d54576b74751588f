-- What stays of a label where an array goes on without its lost boundaries.
use Rattle.std.proofs.Common.{◌≡◌, ◌≢◌, ◌∙◌, ◌≤◌, ◌<◌, ◌/◌, ◌&&◌, ◌||◌, ℕ, suc, Bool, true, false, cond, not, List, [], ◌∷◌, All, inl, inr, filter, length, refl, sym, ap, subst, arith}
use Rattle.std.specs.Prelude.{IfSome, None, Option, Some, if◌then◌else◌, nat_lt, slice_index}
use Rattle.std.specs.List.{list_any, range_with_len}
use Rattle.std.specs.Option.{option_map}
use Rattle.std.proofs.lemmas.Bool.{and_parts, cases_lt, false≢true, le-ltb, lt-ltb}
use Rattle.std.proofs.lemmas.List.Elements.{All-filter}
use Rattle.std.proofs.lemmas.List.FromFn.{get_or-range_with_len, length-range_with_len}
use Rattle.dg_io.specs.declared.outside.Rack.{Ghosts}
use Rattle.dg_label.specs.Labels.{AreNumbersOf, AreSized, HasLength, HaveSameNumbers, IsKeptOf, IsLabeled, IsOfBoundariesInUse, StandsLabeled, is_sealed}
use Rattle.dg_label.specs.Lefts.{KeepsLeft, LabelsAreLeft, LabelsStandLeft}
use Rattle.dg_label.specs.LineLaws.{same_numbers, same_seal}
use Rattle.dg_label.specs.Lines.{IsLineOf}
use Rattle.dg_label.specs.declared.labels.KeptLabel.{KeptLabel}
use Rattle.dg_model.specs.Lives.{left_of}
use Rattle.dg_model.specs.Members.{is_filling, is_good, is_lost}
use Rattle.dg_model.specs.Regroups.{label_left, member_before, state_left}
use Rattle.dg_model.specs.Saves.{BeginsWith, HasBody, member_length}
use Rattle.dg_model.specs.Saves as saves
use Rattle.dg_model.specs.Seals.{HoldsLabel, LastLabel, keeps_label, label_on}
use Rattle.dg_model.specs.States.{has_lost}
use Rattle.dg_model.specs.Tables.{Table}
use Rattle.dg_model.specs.declared.members.MemberState.{MemberState}
use Rattle.dg_model.specs.declared.members.MemberState.TheVariants.{Filling, Good, Out}
use Rattle.dg_model.specs.declared.shapes.Shape.{Shape}
use Rattle.dg_store.specs.Reduced.{IsReduced, left_in}
use Rattle.dg_store.specs.Stores.{members_of, rack_of, shape_of}
use Rattle.dg_store.specs.declared.store.Store.{Store}

-- ---- how many are left

one_short : (b : Bool) (x : ℕ) (kept xs : List ℕ) → length kept ≤ length xs → length (cond b (x ∷ kept) kept) ≤ suc (length xs)
one_short true x kept xs h = omega (arith, h)
one_short false x kept xs h = omega (arith, h)

none_more : (p : ℕ → Bool) (xs : List ℕ) → length (filter p xs) ≤ length xs
none_more p [] = omega arith
none_more p (x ∷ xs) = one_short (p x) x (filter p xs) xs (none_more p xs)

-- fewer are left where one is lost
one_less : (lost : ℕ → Bool) (xs : List ℕ) → list_any lost xs ≡ true → length (filter (λ x. not (lost x)) xs) < length xs
one_less lost [] some = absurd (false≢true some)
one_less lost (x ∷ xs) some = by_first (lost x) refl (one_less lost xs)
  where
    by_first : (first : Bool) → lost x ≡ first → (list_any lost xs ≡ true → length (filter (λ y. not (lost y)) xs) < length xs)
        → length (filter (λ y. not (lost y)) (x ∷ xs)) < length (x ∷ xs)
    by_first true is rest =
        let here = ap (λ (b : Bool). length (cond (not b) (x ∷ filter (λ y. not (lost y)) xs) (filter (λ y. not (lost y)) xs))) is in
        let few = none_more (λ y. not (lost y)) xs in
        omega (arith, here, few)
    by_first false is rest =
        let here = ap (λ (b : Bool). length (cond (not b) (x ∷ filter (λ y. not (lost y)) xs) (filter (λ y. not (lost y)) xs))) is in
        let some_more : list_any lost xs ≡ true = ap (λ (b : Bool). b || list_any lost xs) (sym is) ∙ some in
        let less = rest some_more in
        omega (arith, here, less)

left_few : (shape : Shape) (members : ℕ → MemberState) → length (left_of shape members) ≤ shape.b
left_few shape members =
    let few = none_more (λ x. not (is_lost members x)) (range_with_len 0 shape.b) in
    let all = length-range_with_len 0 shape.b in
    omega (arith, few, all)

left_fewer : (shape : Shape) (members : ℕ → MemberState) → has_lost shape members ≡ true → length (left_of shape members) < shape.b
left_fewer shape members lost =
    let few = one_less (is_lost members) (range_with_len 0 shape.b) lost in
    let all = length-range_with_len 0 shape.b in
    omega (arith, few, all)

left_low : (shape : Shape) (members : ℕ → MemberState) (i : ℕ) → i < length (left_of shape members) → slice_index (left_of shape members) i < shape.b
left_low shape members i within =
    let below : All (λ x. x < shape.b) (range_with_len 0 shape.b) = λ k d low.
    let all = length-range_with_len 0 shape.b in
    let here : k < shape.b = omega (arith, low, all) in
    let e = get_or-range_with_len 0 shape.b k d here in
    omega (arith, e, here) in
    All-filter (λ x. not (is_lost members x)) (λ x. x < shape.b) (range_with_len 0 shape.b) below i 0 within

-- ---- members

good_left : (left : List ℕ) (m : MemberState) → state_left left m ≢ Out → is_good m ≡ true
good_left left Good stands = refl
good_left left (Filling have) stands = absurd (stands refl)
good_left left Out stands = absurd (stands refl)

none_filling : (left : List ℕ) (m : MemberState) → is_filling (state_left left m) ≡ false
none_filling left Good = refl
none_filling left (Filling have) = refl
none_filling left Out = refl

good_stands : (m : MemberState) → is_good m ≡ true → m ≢ Out
good_stands m good out = false≢true (sym (ap is_good out) ∙ good)

-- ---- numbers

kept_left : (left : List ℕ) (last : Option LastLabel) (before after : Option KeptLabel) → HaveSameNumbers before after → IsKeptOf last before
    → IsKeptOf (option_map (label_left left) last) after
kept_left left None None None same kept = tt
kept_left left None None (Some k) same kept = absurd same
kept_left left None (Some b) after same kept = absurd kept
kept_left left (Some l) None after same kept = absurd kept
kept_left left (Some l) (Some b) None same kept = absurd same
kept_left left (Some l) (Some b) (Some k) same kept =
    subst (λ (x : KeptLabel). AreNumbersOf (label_left left l) x) (sym same) (record { format = kept.format; sequence = kept.sequence; sealed = kept.sealed; body = kept.body })

last_opened : (last : LastLabel) (before : Option KeptLabel) → is_sealed before ≡ false → IsKeptOf (Some last) before → last.sealed ≡ false
last_opened last None opened kept = absurd kept
last_opened last (Some b) opened kept = kept.sealed ∙ opened

-- ---- the array

module _ {R : Type 0} (rack : Ghosts R) (boundaries : R → ℕ) (dropped : R → ℕ → R → Type 0) (line : Shape) (old new : Store R) (before after : Option KeptLabel)
    (reduced : IsReduced rack boundaries dropped old new) (opened : is_sealed before ≡ false) (keeps : KeepsLeft (left_in old) before after)
    (labeled : IsLabeled rack line old before) where
  abbrev left : List ℕ
  left = left_in old

  shape_is : shape_of new ≡ record (shape_of old) { b = length left }
  shape_is = ap (λ (t : Table). t.shape) reduced.table

  -- a member at a new place
  placed : (q : ℕ) → q / 2 < length left → members_of new q ≡ state_left left (members_of old (member_before left q))
  placed q low = reduced.members q ∙ ap (λ (b : Bool). if b then state_left left (members_of old (member_before left q)) else Out) (lt-ltb (q / 2) (length left) low)

  behind : (q : ℕ) → length left ≤ q / 2 → members_of new q ≡ Out
  behind q past = reduced.members q ∙ ap (λ (b : Bool). if b then state_left left (members_of old (member_before left q)) else Out) (le-ltb (q / 2) (length left) past)

  -- one that stands was good at its old place
  was : (q : ℕ) → members_of new q ≢ Out → (q / 2 < length left) × (is_good (members_of old (member_before left q)) ≡ true)
  was q stands = elim (cases_lt (q / 2) (length left)) [
    | inl low ↦ (low, good_left left (members_of old (member_before left q)) (λ out. stands (placed q low ∙ out)))
    | inr past ↦ absurd (stands (behind q past))
  ]

  not_filling : (q : ℕ) → is_filling (members_of new q) ≡ true → ⊥
  not_filling q filling = elim (cases_lt (q / 2) (length left)) [
    | inl low ↦ false≢true (sym (none_filling left (members_of old (member_before left q))) ∙ sym (ap is_filling (placed q low)) ∙ filling)
    | inr past ↦ false≢true (sym (ap is_filling (behind q past)) ∙ filling)
  ]

  -- its bytes are the same
  bytes_are : (P : List ℕ → Type 0) (q : ℕ) → q / 2 < length left → IfSome (rack.bytes (rack_of old) (member_before left q)) P → IfSome (rack.bytes (rack_of new) q) P
  bytes_are P q low had = subst (λ (told : Option (List ℕ)). IfSome told P) (sym (reduced.leaves.bytes q low)) had

  is_labeled : IsLabeled rack line new after
  is_labeled = record {
    fits = subst (λ (s : Shape). IsLineOf line s) (sym shape_is) (record {
      is = labeled.fits.is;
      fewer = let few = left_few (shape_of old) (members_of old) in let most = labeled.fits.fewer in omega (arith, few, most);
      numbers = ap (λ (s : Shape). record s { b = length left }) labeled.fits.numbers;
    });
    numbers = same_numbers line before after keeps.numbers labeled.numbers;
    sealed = λ sealed. absurd (false≢true (sym (same_seal before after keeps.numbers ∙ opened) ∙ sealed));
    lengths = λ q stands.
        let good = was q stands in
        bytes_are (λ all. HasLength line after q (length all)) q good.0
        (subst (λ (long : Bool). IfSome (rack.bytes (rack_of old) (member_before left q)) (λ all. length all ≡ member_length (if long then 2 else 1) line)) (sym (keeps.long q good.0))
        (labeled.lengths (member_before left q) (good_stands (members_of old (member_before left q)) good.1)));
    filling = λ q filling. absurd (not_filling q filling);
  }

  -- a member that keeps the label kept it at its old place
  kept_before : (keepers : ℕ → Bool) (q : ℕ) → (nat_lt (q / 2) (length left) && keepers (member_before left q)) ≡ true → (q / 2 < length left) × (keepers (member_before left q) ≡ true)
  kept_before keepers q has =
      let parts = and_parts (nat_lt (q / 2) (length left)) (keepers (member_before left q)) has in
      elim (cases_lt (q / 2) (length left)) [
        | inl low ↦ (low, parts.1)
        | inr past ↦ absurd (false≢true (sym (le-ltb (q / 2) (length left) past) ∙ parts.0))
      ]

  lacked_before : (last : Option LastLabel) (q : ℕ) → q / 2 < length left → keeps_label (option_map (label_left left) last) q ≡ false → keeps_label last (member_before left q) ≡ false
  lacked_before None q low lacks = refl
  lacked_before (Some l) q low lacks = sym (ap (λ (b : Bool). b && l.keepers (member_before left q)) (lt-ltb (q / 2) (length left) low)) ∙ lacks

  held : (last : Option LastLabel) → IfSome last (λ l. HoldsLabel l (rack.bytes (rack_of old))) → IfSome (option_map (label_left left) last) (λ l. HoldsLabel l (rack.bytes (rack_of new)))
  held None holds = tt
  held (Some l) holds = record {
    label = λ q has. let was = kept_before l.keepers q has in
        bytes_are (λ all. BeginsWith all (label_on l (member_before left q))) q was.0 (holds.label (member_before left q) was.1);
    body = λ q has sealed. let was = kept_before l.bodies q has in
        bytes_are (λ all. HasBody all l.shape l.body) q was.0 (holds.body (member_before left q) was.1 sealed);
  }

  sized : (last : Option LastLabel) → IfSome last (λ l. l.shape ≡ line → AreSized rack old l) → IfSome (option_map (label_left left) last) (λ l. l.shape ≡ line → AreSized rack new l)
  sized None sizes = tt
  sized (Some l) sizes = λ all_named q has. let was = kept_before l.keepers q has in
      bytes_are (λ all. saves.HasLength (label_on l (member_before left q)) (length all)) q was.0 (sizes all_named (member_before left q) was.1)

  module _ (lost : has_lost (shape_of old) (members_of old) ≡ true) where
    -- not all boundaries of the line are in use any more
    not_whole : shape_of new ≡ line → ⊥
    not_whole same =
        let here : length left ≡ line.b = ap (λ (s : Shape). s.b) (sym shape_is ∙ same) in
        let less = left_fewer (shape_of old) (members_of old) lost in
        let most = labeled.fits.fewer in
        omega (arith, here, less, most)

    of_left : (last : Option LastLabel) → IsKeptOf last before → IfSome (option_map (label_left left) last) (IsOfBoundariesInUse line (shape_of new))
    of_left None kept = tt
    of_left (Some l) kept = λ why. elim why [
      | inl sealed ↦ absurd (false≢true (sym (last_opened l before opened kept) ∙ sealed))
      | inr same ↦ absurd (not_whole same)
    ]

    stands_left : (last : Option LastLabel) → StandsLabeled rack line old before last → StandsLabeled rack line new after (option_map (label_left left) last)
    stands_left last stands = record {
      kept = kept_left left last before after keeps.numbers stands.kept;
      holds = held last stands.holds;
      sizes = sized last stands.sizes;
      of_array = of_left last stands.kept;
      filling = λ q filling. absurd (not_filling q filling);
      fresh = λ q below here lacks.
          let good = was q here in
          let place : (member_before left q) / 2 ≡ slice_index left (q / 2) = omega arith in
          let low = left_low (shape_of old) (members_of old) (q / 2) good.0 in
          bytes_are _ q good.0
          (stands.fresh (member_before left q) (omega (arith, place, low)) (good_stands (members_of old (member_before left q)) good.1) (lacked_before last q good.0 lacks));
    }

pub labels_are_left : {R : Type 0} (rack : Ghosts R) (boundaries : R → ℕ) (dropped : R → ℕ → R → Type 0) → LabelsAreLeft rack boundaries dropped
labels_are_left rack boundaries dropped line old new before after reduced opened keeps labeled =
    is_labeled rack boundaries dropped line old new before after reduced opened keeps labeled

pub labels_stand_left : {R : Type 0} (rack : Ghosts R) (boundaries : R → ℕ) (dropped : R → ℕ → R → Type 0) → LabelsStandLeft rack boundaries dropped
labels_stand_left rack boundaries dropped line old new before after reduced opened keeps labeled lost last stands =
    stands_left rack boundaries dropped line old new before after reduced opened keeps labeled lost last stands
