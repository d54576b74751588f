-- What passes over the members leave of a label and a body.
use Rattle.std.proofs.Common.{◌≡◌, ◌≢◌, ◌⊎◌, ◌∙◌, ◌<◌, ◌≤◌, ◌+◌, ◌*◌, ◌/◌, ◌%◌, ◌^◌, ◌&&◌, ◌||◌, ℕ, Bool, true, false, not, List, length, inl, inr, refl, sym, ap, subst, take, arith}
use Rattle.std.specs.Prelude.{◌==◌, Err, IfOk, IfSome, None, Ok, Option, Result, Some, replicate, if◌then◌else◌}
use Rattle.std.proofs.lemmas.Bool.{and_from, and_parts, both_ways, cases_Bool, cases_lt, false≢true, or_left}
use Rattle.dg_io.specs.RackCalls.{RackCall}
use Rattle.dg_io.specs.Told.{Extended, FitsIn, IsSame, Patched, Told}
use Rattle.dg_io.specs.declared.outside.Rack.{Ghosts}
use Rattle.dg_label.specs.Labels.{AreFresh, AreNumbers, AreNumbersOf, HasLength, IsLabeled, IsOfArray, StandsLabeled, is_long, is_sealed, next_number, unsealed}
use Rattle.dg_io.specs.Commits.{is_marked}
use Rattle.dg_label.specs.Pages.{LeavesFallen, OpensMember, PageFails, numbered, page_of}
use Rattle.dg_label.specs.LineLaws.{line_itself, line_on, numbers_fit, place_is, room_fits, seal_on}
use Rattle.dg_label.specs.Lines.{IsLineOf}
use Rattle.dg_label.specs.Passes.{AreWhole, FillingStay, HaveRoom, Passes, PassesBy, TouchesBy}
use Rattle.dg_label.specs.Seals.{HasGood, HasNoGood, KeepsArrayBy, OpensMembers, OpensSeal, saved_label}
use Rattle.dg_label.specs.declared.labels.KeptLabel.{KeptLabel}
use Rattle.dg_label.proofs.ByteLaws.{body_stays, body_there, extended_long, extended_none, front_there, label_long, patched_long}
use Rattle.dg_label.proofs.PassLaws.{filling_bad, filling_kept, good_kept, good_or_filling, keeps_none, rest_is, stood_kept, told_is, told_same}
use Rattle.dg_model.specs.Blocks.{zeros}
use Rattle.dg_model.specs.Members.{is_filling, is_good, partner_of}
use Rattle.dg_model.specs.Saves.{BeginsWith, HasBody, IsLabel, Label, body_place, label_bytes, member_length, room_of}
use Rattle.dg_model.specs.Saves as saves
use Rattle.dg_model.specs.Seals.{LastLabel, label_after, label_on}
use Rattle.dg_model.specs.Shapes.{IsShape}
use Rattle.dg_model.specs.States.{IsLeastLost}
use Rattle.dg_model.specs.declared.members.MemberState.TheVariants.{Good, Out}
use Rattle.dg_model.specs.declared.shapes.Shape.{Shape}
use Rattle.std.proofs.lemmas.List.{length-replicate}
use Rattle.dg_model.specs.Tables.{Table}
use Rattle.dg_model.specs.declared.failures.NoMemory.{NoMemory}
use Rattle.dg_store.specs.Answers.{IsBlankStore}
use Rattle.dg_store.specs.Leaves.{HasWritten}
use Rattle.dg_store.specs.Stores.{IsSound, members_of, rack_of, shape_of}
use Rattle.dg_store.specs.declared.store.Store.{Store}

-- ---- bytes that may be told

told_with : (P : List ℕ → Type 0) (Q : List ℕ → Type 0) (change : List ℕ → List ℕ → Type 0) (a b : Option (List ℕ))
    → ((x y : List ℕ) → change x y → P x → Q y) → Told change a b → IfSome a P → IfSome b Q
told_with P Q change a None step changed had = tt
told_with P Q change None (Some y) step changed had = absurd changed
told_with P Q change (Some x) (Some y) step changed had = step x y changed had

both : (P Q : List ℕ → Type 0) (a : Option (List ℕ)) → IfSome a P → IfSome a Q → IfSome a (λ x. P x × Q x)
both P Q None p q = tt
both P Q (Some x) p q = (p, q)

weaker : (P Q : List ℕ → Type 0) (a : Option (List ℕ)) → ((x : List ℕ) → P x → Q x) → IfSome a P → IfSome a Q
weaker P Q None step p = tt
weaker P Q (Some x) step p = step x p

pub flipped : (b : Bool) → not b ≡ false → b ≡ true
flipped true e = refl
flipped false e = sym e

pub unflipped : (b : Bool) → not b ≡ true → b ≡ false
unflipped true e = sym e
unflipped false e = refl

unsealed_same : (label : Option KeptLabel) → is_sealed label ≡ false → label ≡ unsealed label
unsealed_same None none = refl
unsealed_same (Some kept) none = ap (λ (b : Bool). Some (record kept { sealed = b })) none

-- a member whose seal was opened, or fell in that
opened_done : (steady : Type 0) (page : List ℕ) (good : Bool) → good ≡ true → (a b : Option (List ℕ)) → Told (Patched 0 page) a b → Told (OpensMember steady page good) a b
opened_done steady page good is a None put = tt
opened_done steady page good is None (Some y) put = absurd put
opened_done steady page good is (Some x) (Some y) put = record { done = λ e. put; failed = λ e. absurd (both_ways good e is) }

opened_failed : (steady : Type 0) (page : List ℕ) (good : Bool) → good ≡ false → (a b : Option (List ℕ)) → Told (PageFails steady page) a b
    → Told (OpensMember steady page good) a b
opened_failed steady page good is a None fails = tt
opened_failed steady page good is None (Some y) fails = absurd fails
opened_failed steady page good is (Some x) (Some y) fails = record { done = λ e. absurd (both_ways good is e); failed = λ e. fails }

-- the label that there is
abbrev kept_in : KeptLabel → Option KeptLabel → KeptLabel
kept_in other None = other
kept_in other (Some kept) = kept

-- ---- numbers

pub next_first : (label : Option KeptLabel) → 1 ≤ next_number label
next_first None = omega arith
next_first (Some kept) = omega arith

is_label : (shape : Shape) (kept : KeptLabel) (q : ℕ) → IsShape shape → AreNumbers shape kept → q / 2 < shape.b → IsLabel (numbered shape kept q)
is_label shape kept q is numbers within = record {
  formats = numbers.formats;
  first = numbers.first;
  last = numbers.last;
  shape = is;
  boundary = within;
  side = omega arith;
  body = numbers.body;
}

label_same : (shape : Shape) (last : LastLabel) (kept : KeptLabel) (q : ℕ) → AreNumbersOf last kept → IsOfArray shape last → numbered shape kept q ≡ label_on last q
label_same shape last kept q same of_array = λ i. record {
  format = sym same.format i;
  sequence = sym same.sequence i;
  sealed = sym same.sealed i;
  boundary = sym (of_array.numbers_are q) i / 2;
  side = sym (of_array.numbers_are q) i % 2;
  shape = sym of_array.shape_is i;
  body = sym same.body i;
}

-- each member is long beneath a label of format 2
long_by : (kept : KeptLabel) (q : ℕ) → kept.format ≡ 2 → is_long (Some kept) q ≡ true
long_by kept q two = ap (λ (f : ℕ). (f == 2) || is_marked kept.long q) two

-- how long a member is, by whether it is long
length_when : (shape : Shape) (label : Option KeptLabel) (q size : ℕ) (long : Bool) → is_long label q ≡ long → HasLength shape label q size
    → size ≡ member_length (if long then 2 else 1) shape
length_when shape label q size long is has = subst (λ (b : Bool). size ≡ member_length (if b then 2 else 1) shape) is has

length_long : (shape : Shape) (label : Option KeptLabel) (q size : ℕ) → is_long label q ≡ true → size ≡ member_length 2 shape → HasLength shape label q size
length_long shape label q size is long = subst (λ (b : Bool). size ≡ member_length (if b then 2 else 1) shape) (sym is) long

-- no member is longer than format 2 says
length_fits : (shape : Shape) (long : Bool) (size : ℕ) → size ≡ member_length (if long then 2 else 1) shape → size ≤ member_length 2 shape
length_fits shape true size is = omega (arith, is)
length_fits shape false size is = omega (arith, is)

-- a member as long as the array's label says is so as the model's label says
size_is : (shape : Shape) (last : LastLabel) (kept : KeptLabel) (q size : ℕ) → AreNumbersOf last kept → IsOfArray shape last → (kept.format ≡ 1) ⊎ (kept.format ≡ 2)
    → HasLength shape (Some kept) q size → saves.HasLength (label_on last q) size
size_is shape last kept q size same of_array formats has = subst (λ (l : Label). saves.HasLength l size) (label_same shape last kept q same of_array) numbered_size
  where
    numbered_size : saves.HasLength (numbered shape kept q) size
    numbered_size = elim formats [
      | inr two ↦ inl (length_when shape (Some kept) q size true (long_by kept q two) has ∙ ap (λ (f : ℕ). member_length f shape) (sym two))
      | inl one ↦ elim (cases_Bool (is_long (Some kept) q)) [
        | inl long ↦ inr (one, length_when shape (Some kept) q size true long has)
        | inr short ↦ inl (length_when shape (Some kept) q size false short has ∙ ap (λ (f : ℕ). member_length f shape) (sym one))
      ]
    ]

-- a member that isn't good keeps no label once its seal is opened
kept_none : (x y z : Bool) → z ≡ false → (x && (y && z)) ≡ false
kept_none false y z bad = refl
kept_none true false z bad = refl
kept_none true true z bad = bad

module _ {R : Type 0} (rack : Ghosts R) where
  -- ---- which members there are

  pub good_within : (a : Store R) (q : ℕ) → IsSound rack a → is_good (members_of a q) ≡ true → q / 2 < (shape_of a).b
  good_within a q sound good = elim (cases_lt (q / 2) (shape_of a).b) [
    | inl low ↦ low
    | inr high ↦ absurd (false≢true (sym (ap is_good (sound.others q high)) ∙ good))
  ]

  -- a good member stands
  pub good_stands : (a : Store R) (q : ℕ) → is_good (members_of a q) ≡ true → members_of a q ≢ Out
  good_stands a q good out = false≢true (sym (ap is_good out) ∙ good)

  filling_stands : (a : Store R) (q : ℕ) → is_filling (members_of a q) ≡ true → members_of a q ≢ Out
  filling_stands a q filling out = false≢true (sym (ap is_filling out) ∙ filling)

  filling_within : (a : Store R) (q : ℕ) → IsSound rack a → is_filling (members_of a q) ≡ true → q / 2 < (shape_of a).b
  filling_within a q sound filling = elim (cases_lt (q / 2) (shape_of a).b) [
    | inl low ↦ low
    | inr high ↦ absurd (filling_stands a q filling (sound.others q high))
  ]

  -- where none is good, none stands
  none_stands : (a : Store R) → IsSound rack a → HasNoGood a → (q : ℕ) → members_of a q ≢ Out → ⊥
  none_stands a sound none q stands = elim (good_or_filling (members_of a q) stands) [
    | inl good ↦ both_ways (is_good (members_of a q)) (none q) good
    | inr filling ↦ both_ways (is_good (members_of a (partner_of q))) (none (partner_of q)) (sound.paired q filling)
  ]

  -- where each good member below the last was called so, one that is good was
  pub some_wrote : (P : Type 0) (a : Store R) (n : ℕ) → IsSound rack a → 2 * (shape_of a).b ≤ n → ((q : ℕ) → q < n → is_good (members_of a q) ≡ true → P)
      → HasGood a → P
  some_wrote P a n sound past each has = each has.0 (let low = good_within a has.0 sound has.1 in omega (arith, low, past)) has.1

  pub none_past : (a : Store R) (n : ℕ) → IsSound rack a → 2 * (shape_of a).b ≤ n → ((q : ℕ) → q < n → is_good (members_of a q) ≡ false) → HasNoGood a
  none_past a n sound past none q = elim (cases_lt q n) [
    | inl low ↦ none q low
    | inr high ↦ ap is_good (sound.others q (omega (arith, past, high)))
  ]

  -- ---- members that are refilled

  -- where a label would be, each of them has zeros
  abbrev pub FillingFresh : Store R → Type 0
  FillingFresh store = (q : ℕ) → is_filling (members_of store q) ≡ true → IfSome (rack.bytes (rack_of store) q) (λ all. take 512 all ≡ zeros 512)

  filling_fresh : (line : Shape) (a : Store R) (label : Option KeptLabel) (last : Option LastLabel) → IsSound rack a → StandsLabeled rack line a label last → FillingFresh a
  filling_fresh line a label last sound stands q filling = stands.fresh q (filling_within a q sound filling) (filling_stands a q filling) (stands.filling q filling)

  -- so they have while their bytes stay
  pub fresh_on : {may : ℕ → RackCall → Type 0} (a b : Store R) → KeepsArrayBy rack may a b → FillingStay rack a b → FillingFresh a → FillingFresh b
  fresh_on a b keeps stay fresh q filling =
      told_is (λ all. take 512 all ≡ zeros 512) (rack.bytes (rack_of a) q) (rack.bytes (rack_of b) q) (stay q filling) (fresh q (filling_kept rack a b q keeps filling))

  -- and once a seal was opened
  pub fresh_opened : (line : Shape) (a b : Store R) (before after : Option KeptLabel) (last : Option LastLabel) → IsSound rack a → OpensSeal rack a b before after
      → IsLabeled rack line a before → StandsLabeled rack line a before last → FillingFresh b
  fresh_opened line a b before after last sound opens labeled stands = elim (cases_Bool (is_sealed before)) [
    | inl sealed ↦ filling_fresh line b after (label_after true (members_of a) (members_of b) last) opens.array.sound (opens.stands line last labeled sealed stands)
    | inr other ↦ subst (λ (s : Store R). FillingFresh s) (sym (opens.quiet other)) (filling_fresh line a before last sound stands)
  ]

  -- no other members are without a label where each good one keeps it
  fresh_rest : (b : Store R) (last : LastLabel) → ((q : ℕ) → is_good (members_of b q) ≡ true → last.keepers q ≡ true) → FillingFresh b → AreFresh rack b (Some last)
  fresh_rest b last each fresh q within stands none = elim (good_or_filling (members_of b q) stands) [
    | inl good ↦ absurd (both_ways (last.keepers q) none (each q good))
    | inr filling ↦ fresh q filling
  ]

  -- ---- how long members are

  -- each member that is good, and tells its bytes, has this body
  abbrev HaveBody : Store R → List ℕ → Type 0
  HaveBody store body = (q : ℕ) → is_good (members_of store q) ≡ true → IfSome (rack.bytes (rack_of store) q) (λ all. HasBody all (shape_of store) body)

  -- a label has room on each good member
  pub has_front : (a : Store R) (q : ℕ) → IsSound rack a → is_good (members_of a q) ≡ true → IfSome (rack.bytes (rack_of a) q) (λ all. 512 ≤ length all)
  has_front a q sound good =
      weaker (λ all. member_length 1 (shape_of a) ≤ length all) (λ all. 512 ≤ length all) (rack.bytes (rack_of a) q) (λ all long. omega (arith, long))
      (sound.long q (good_stands a q good))

  -- so has a body, where members are whole
  pub have_room : (line : Shape) (a : Store R) (size : ℕ) → IsLineOf line (shape_of a) → AreWhole rack line a → size ≤ room_of 2 (shape_of a) → HaveRoom rack a size
  have_room line a size fits whole room q good =
      let place = place_is line (shape_of a) fits in
      let less = room_fits line (shape_of a) 2 fits in
      weaker (λ all. length all ≡ member_length 2 line) (λ all. body_place (shape_of a) + size ≤ length all) (rack.bytes (rack_of a) q)
      (λ all long. omega (arith, long, room, place, less))
      (whole q (good_stands a q good))

  -- on a store of the same shape
  pub room_on : (line : Shape) (a b : Store R) (size : ℕ) → shape_of b ≡ shape_of a → IsLineOf line (shape_of a) → AreWhole rack line b → size ≤ room_of 2 (shape_of a) → HaveRoom rack b size
  room_on line a b size same fits whole room =
      have_room line b size (line_on line (shape_of a) (shape_of b) same fits) whole (subst (λ (sh : Shape). size ≤ room_of 2 sh) (sym same) room)

  -- what holds of the length of each member that stands, holds after such a pass that keeps lengths
  lengths_stay : {may : ℕ → RackCall → Type 0} (P : ℕ → Type 0) (change : ℕ → List ℕ → List ℕ → Type 0) (Fits : ℕ → List ℕ → Type 0) (a b : Store R) → IsSound rack a
      → PassesBy rack may (2 * (shape_of a).b) change a b
      → ((q : ℕ) (x y : List ℕ) → change q x y → Fits q x → length y ≡ length x)
      → ((q : ℕ) → is_good (members_of a q) ≡ true → IfSome (rack.bytes (rack_of a) q) (Fits q))
      → (q : ℕ) → members_of b q ≢ Out → IfSome (rack.bytes (rack_of a) q) (λ all. P (length all)) → IfSome (rack.bytes (rack_of b) q) (λ all. P (length all))
  lengths_stay P change Fits a b sound passes keeps fits q stands had = elim (good_or_filling (members_of b q) stands) [
    | inl good ↦
        let was = good_kept rack a b q passes.array good in
        let within = good_within a q sound was in
        told_with (λ all. P (length all) × Fits q all) (λ all. P (length all)) (change q) (rack.bytes (rack_of a) q) (rack.bytes (rack_of b) q)
        (λ x y changed h. subst P (sym (keeps q x y changed h.1)) h.0) (passes.done q (omega (arith, within)) good)
        (both (λ all. P (length all)) (Fits q) (rack.bytes (rack_of a) q) had (fits q was))
    | inr filling ↦
        told_with (λ all. P (length all)) (λ all. P (length all)) IsSame (rack.bytes (rack_of a) q) (rack.bytes (rack_of b) q)
        (λ x y same h. subst (λ (xs : List ℕ). P (length xs)) (sym same) h) (passes.filling q filling) had
  ]

  -- so long is a good member whose turn hasn't come, where members are made longer
  pub length_on : {may : ℕ → RackCall → Type 0} (line : Shape) (a b : Store R) (kept : Option KeptLabel) (n : ℕ) → IsLabeled rack line a kept
      → PassesBy rack may n (λ (q : ℕ). Extended (member_length 2 line)) a b → is_good (members_of b n) ≡ true
      → IfSome (rack.bytes (rack_of b) n) (λ all. HasLength line kept n (length all))
  length_on line a b kept n labeled passes good =
      rest_is rack (λ all. HasLength line kept n (length all)) (λ (q : ℕ). Extended (member_length 2 line)) n a b passes
      (labeled.lengths n (good_stands a n (good_kept rack a b n passes.array good)))

  -- no good member is longer than format 2 says
  pub fits_one : (line : Shape) (a : Store R) (kept : Option KeptLabel) (q : ℕ) → IfSome (rack.bytes (rack_of a) q) (λ all. HasLength line kept q (length all))
      → IfSome (rack.bytes (rack_of a) q) (FitsIn (member_length 2 line))
  fits_one line a kept q =
      weaker (λ all. HasLength line kept q (length all)) (FitsIn (member_length 2 line)) (rack.bytes (rack_of a) q)
      (λ all long. length_fits line (is_long kept q) (length all) long)

  fits_whole : (line : Shape) (a : Store R) (kept : Option KeptLabel) → IsLabeled rack line a kept → (q : ℕ) → is_good (members_of a q) ≡ true
      → IfSome (rack.bytes (rack_of a) q) (FitsIn (member_length 2 line))
  fits_whole line a kept labeled q good = fits_one line a kept q (labeled.lengths q (good_stands a q good))

  -- a good member that is long already is as if it were made longer
  pub touched_long : {may : ℕ → RackCall → Type 0} (line : Shape) (a : Store R) (kept : Option KeptLabel) (q : ℕ) → IsSound rack a → is_long kept q ≡ true
      → (is_good (members_of a q) ≡ true → IfSome (rack.bytes (rack_of a) q) (λ all. HasLength line kept q (length all)))
      → TouchesBy rack may q (Extended (member_length 2 line)) a a
  touched_long line a kept q sound long has = record {
    array = keeps_none rack a sound;
    here = λ good. extended_same (rack.bytes (rack_of a) q) (has good);
    filling = λ filling. told_same (rack.bytes (rack_of a) q);
    others = λ p other. told_same (rack.bytes (rack_of a) p);
    stay_good = λ p other good. good;
    most = omega arith;
  }
    where
      extended_same : (told : Option (List ℕ)) → IfSome told (λ all. HasLength line kept q (length all))
          → Told (Extended (member_length 2 line)) told told
      extended_same None is = tt
      extended_same (Some all) is = extended_none (member_length 2 line) all (length_when line kept q (length all) true long is)

  -- where there is no seal, none is opened
  pub opens_none : (a : Store R) (label : Option KeptLabel) → IsSound rack a → is_sealed label ≡ false → OpensSeal rack a a label label
  opens_none a label sound none = record {
    array = keeps_none rack a sound;
    labeled = λ line labeled. labeled;
    after_is = unsealed_same label none;
    quiet = λ other. refl;
    stands = λ line last labeled sealed. absurd (both_ways (is_sealed label) none sealed);
    members = λ kept is sealed. absurd (both_ways (is_sealed label) none (ap is_sealed is ∙ sealed));
    wrote = λ sealed. absurd (both_ways (is_sealed label) none sealed);
    most = omega arith;
  }

  module _ (a b : Store R) (sound : IsSound rack a) where
    abbrev Labels : KeptLabel → Type 0
    Labels kept = Passes rack (2 * (shape_of a).b) (λ (q : ℕ). Patched 0 (label_bytes (numbered (shape_of a) kept q))) a b

    label_lengths : (P : ℕ → Type 0) (kept : KeptLabel) → Labels kept → (q : ℕ) → members_of b q ≢ Out
        → IfSome (rack.bytes (rack_of a) q) (λ all. P (length all)) → IfSome (rack.bytes (rack_of b) q) (λ all. P (length all))
    label_lengths P kept passes =
        lengths_stay P (λ (q : ℕ). Patched 0 (label_bytes (numbered (shape_of a) kept q))) (λ q all. 512 ≤ length all) a b sound passes
        (λ q x y changed fits. patched_long 0 (label_bytes (numbered (shape_of a) kept q)) x y changed (omega (arith, fits, label_long (numbered (shape_of a) kept q))))
        (λ q good. has_front a q sound good)

    -- each good member has the label
    have_labels : (kept : KeptLabel) → AreNumbers (shape_of a) kept → Labels kept → (q : ℕ) → is_good (members_of b q) ≡ true
        → IfSome (rack.bytes (rack_of b) q) (λ all. BeginsWith all (numbered (shape_of b) kept q))
    have_labels kept numbers passes q good =
        let within = good_within a q sound (good_kept rack a b q passes.array good) in
        subst (λ (sh : Shape). IfSome (rack.bytes (rack_of b) q) (λ all. BeginsWith all (numbered sh kept q))) (sym passes.array.stays.shape)
        (told_with (λ all. 512 ≤ length all) (λ all. BeginsWith all (numbered (shape_of a) kept q)) (Patched 0 (label_bytes (numbered (shape_of a) kept q)))
        (rack.bytes (rack_of a) q) (rack.bytes (rack_of b) q)
        (λ x y changed fits. record {
          is = is_label (shape_of a) kept q sound.table.shape numbers within;
          bytes = ap (λ (xs : List ℕ). take 512 xs) changed ∙ front_there (label_bytes (numbered (shape_of a) kept q)) x (label_long (numbered (shape_of a) kept q));
        })
        (passes.done q (omega (arith, within)) good) (has_front a q sound (good_kept rack a b q passes.array good)))

    -- and the body that it had
    have_body : (kept : KeptLabel) (body : List ℕ) → Labels kept → HaveBody a body → HaveBody b body
    have_body kept body passes had q good =
        let was = good_kept rack a b q passes.array good in
        let within = good_within a q sound was in
        subst (λ (sh : Shape). IfSome (rack.bytes (rack_of b) q) (λ all. HasBody all sh body)) (sym passes.array.stays.shape)
        (told_with (λ all. HasBody all (shape_of a) body) (λ all. HasBody all (shape_of a) body) (Patched 0 (label_bytes (numbered (shape_of a) kept q)))
        (rack.bytes (rack_of a) q) (rack.bytes (rack_of b) q)
        (λ x y changed h. body_stays (shape_of a) body (label_bytes (numbered (shape_of a) kept q)) x y (label_long (numbered (shape_of a) kept q)) changed h)
        (passes.done q (omega (arith, within)) good) (had q was))

    unsealed_numbers : (shape : Shape) (kept : KeptLabel) → AreNumbers shape kept → AreNumbers shape (record kept { sealed = false })
    unsealed_numbers shape kept is = record { formats = is.formats; first = is.first; last = is.last; body = is.body }

    labeled_after : (line : Shape) (kept : KeptLabel) → IsLabeled rack line a (Some kept) → Labels (record kept { sealed = false })
        → IsLabeled rack line b (Some (record kept { sealed = false }))
    labeled_after line kept labeled passes = let next : KeptLabel = record kept { sealed = false } in record {
      fits = line_on line (shape_of a) (shape_of b) passes.array.stays.shape labeled.fits;
      numbers = unsealed_numbers line kept labeled.numbers;
      sealed = λ sealed. absurd (false≢true sealed);
      lengths = λ q stands.
          label_lengths (HasLength line (Some next) q) next passes q stands (labeled.lengths q (stood_kept rack a b q passes.array stands));
      filling = λ q filling.
          label_lengths (λ size. size ≡ member_length 2 line) next passes q (filling_stands b q filling)
          (labeled.filling q (filling_kept rack a b q passes.array filling));
    }

    -- ---- opening a seal

    -- the last label once its seal is opened
    abbrev opened : LastLabel → LastLabel
    opened last = record last { sealed = false; keepers = λ q. (last.sealed || last.keepers q) && (is_good (members_of a q) && is_good (members_of b q)) }

    opens_all : (last : LastLabel) (s : Bool) → (if s && not true then last else opened last) ≡ opened last
    opens_all last true = refl
    opens_all last false = refl

    opened_stands : (line : Shape) (kept : KeptLabel) (last : LastLabel) → kept.sealed ≡ true → AreNumbers (shape_of a) kept → Labels (record kept { sealed = false })
        → IsLabeled rack line b (Some (record kept { sealed = false }))
        → StandsLabeled rack line a (Some kept) (Some last) → StandsLabeled rack line b (Some (record kept { sealed = false })) (Some (opened last))
    opened_stands line kept last is numbers passes labeled stands =
        let same : AreNumbersOf last kept = stands.kept in
        let was : IsOfArray (shape_of a) last = stands.of_array (inl (same.sealed ∙ is)) in
        let of_array : IsOfArray (shape_of b) (opened last) = record {
          shape_is = was.shape_is ∙ sym passes.array.stays.shape;
          numbers_are = was.numbers_are;
        } in
        let next : KeptLabel = record kept { sealed = false } in
        let next_numbers : AreNumbers (shape_of a) next = unsealed_numbers (shape_of a) kept numbers in
        let of_next : AreNumbersOf (opened last) next = record { format = same.format; sequence = same.sequence; sealed = refl; body = same.body } in
        record {
          kept = of_next;
          holds = record {
            label = λ q keeps.
                let parts = and_parts (last.sealed || last.keepers q) (is_good (members_of a q) && is_good (members_of b q)) keeps in
                let good = (and_parts (is_good (members_of a q)) (is_good (members_of b q)) parts.1).1 in
                subst (λ (l : Label). IfSome (rack.bytes (rack_of b) q) (λ all. BeginsWith all l)) (label_same (shape_of b) (opened last) next q of_next of_array)
                (have_labels next next_numbers passes q good);
            body = λ q keeps sealed. absurd (false≢true sealed);
          };
          sizes = λ all_named q keeps.
              let parts = and_parts (last.sealed || last.keepers q) (is_good (members_of a q) && is_good (members_of b q)) keeps in
              let good = (and_parts (is_good (members_of a q)) (is_good (members_of b q)) parts.1).1 in
              weaker (λ all. HasLength line (Some next) q (length all)) (λ all. saves.HasLength (label_on (opened last) q) (length all)) (rack.bytes (rack_of b) q)
              (λ all long. size_is line (opened last) next q (length all) of_next (record { shape_is = all_named; numbers_are = was.numbers_are }) numbers.formats long)
              (labeled.lengths q (good_stands b q good));
          of_array = λ why. of_array;
          filling = λ q filling.
              kept_none (last.sealed || last.keepers q) (is_good (members_of a q)) (is_good (members_of b q)) (filling_bad (members_of b q) filling);
          fresh = fresh_rest b (opened last)
              (λ q good. and_from (last.sealed || last.keepers q) (is_good (members_of a q) && is_good (members_of b q))
              (or_left last.sealed (last.keepers q) (same.sealed ∙ is))
              (and_from (is_good (members_of a q)) (is_good (members_of b q)) (good_kept rack a b q passes.array good) good))
              (fresh_on a b passes.array passes.filling (filling_fresh line a (Some kept) (Some last) sound stands));
        }

    -- a failed page with the opened seal of each member
    abbrev UnsealFails : KeptLabel → ℕ → List ℕ → List ℕ → Type 0
    UnsealFails kept q = PageFails (rack.steady (rack_of a)) (page_of (shape_of a) (record kept { sealed = false }) q)

    opens_members : (kept : KeptLabel) → Labels (record kept { sealed = false }) → LeavesFallen rack (UnsealFails kept) a b → OpensMembers rack kept a b
    opens_members kept passes fallen = record { good = each; bad = fallen.bad }
      where
        each : (q : ℕ) → is_good (members_of a q) ≡ true
            → Told (OpensMember (rack.steady (rack_of a)) (page_of (shape_of a) (record kept { sealed = false }) q) (is_good (members_of b q)))
            (rack.bytes (rack_of a) q) (rack.bytes (rack_of b) q)
        each q was = elim (cases_Bool (is_good (members_of b q))) [
          | inl good ↦
              let within = good_within a q sound was in
              opened_done (rack.steady (rack_of a)) (page_of (shape_of a) (record kept { sealed = false }) q) (is_good (members_of b q)) good
              (rack.bytes (rack_of a) q) (rack.bytes (rack_of b) q) (passes.done q (omega (arith, within)) good)
          | inr gone ↦
              opened_failed (rack.steady (rack_of a)) (page_of (shape_of a) (record kept { sealed = false }) q) (is_good (members_of b q)) gone
              (rack.bytes (rack_of a) q) (rack.bytes (rack_of b) q) (fallen.fell q was gone)
        ]

    pub opens_seal : (kept : KeptLabel) → kept.sealed ≡ true → AreNumbers (shape_of a) kept → Labels (record kept { sealed = false })
        → LeavesFallen rack (UnsealFails kept) a b → (HasGood a → HasWritten rack a b) → OpensSeal rack a b (Some kept) (Some (record kept { sealed = false }))
    opens_seal kept is numbers passes fallen wrote = record {
      array = passes.array;
      labeled = λ line labeled. labeled_after line kept labeled passes;
      after_is = refl;
      quiet = λ other. absurd (false≢true (sym other ∙ is));
      stands = λ line last labeled sealed stands. at_last line labeled last stands;
      members = λ same is_same sealed.
          subst (λ (k : KeptLabel). OpensMembers rack k a b) (ap (kept_in kept) is_same) (opens_members kept passes fallen);
      wrote = λ sealed has. wrote has;
      most = passes.most;
    }
      where
        at_last : (line : Shape) → IsLabeled rack line a (Some kept) → (last : Option LastLabel) → StandsLabeled rack line a (Some kept) last
            → StandsLabeled rack line b (Some (record kept { sealed = false })) (label_after true (members_of a) (members_of b) last)
        at_last line labeled None stands = absurd stands.kept
        at_last line labeled (Some last) stands =
            subst (λ (l : LastLabel). StandsLabeled rack line b (Some (record kept { sealed = false })) (Some l)) (sym (opens_all last last.sealed))
            (opened_stands line kept last is numbers passes (labeled_after line kept labeled passes) stands)

    -- ---- saving

    -- the body, behind the slots of each good member
    pub have_bodies : (body : List ℕ) → HaveRoom rack a (length body)
        → Passes rack (2 * (shape_of a).b) (λ (q : ℕ). Patched (body_place (shape_of a)) body) a b → HaveBody b body
    have_bodies body room passes q good =
        let was = good_kept rack a b q passes.array good in
        let within = good_within a q sound was in
        subst (λ (sh : Shape). IfSome (rack.bytes (rack_of b) q) (λ all. HasBody all sh body)) (sym passes.array.stays.shape)
        (told_with (λ all. body_place (shape_of a) + length body ≤ length all) (λ all. HasBody all (shape_of a) body) (Patched (body_place (shape_of a)) body)
        (rack.bytes (rack_of a) q) (rack.bytes (rack_of b) q) (λ x y changed fits. body_there (shape_of a) body x y changed fits)
        (passes.done q (omega (arith, within)) good) (room q was))

    -- members that are whole stay so where bodies are written
    pub whole_bodies : (line : Shape) (body : List ℕ) → AreWhole rack line a → HaveRoom rack a (length body)
        → Passes rack (2 * (shape_of a).b) (λ (q : ℕ). Patched (body_place (shape_of a)) body) a b → AreWhole rack line b
    whole_bodies line body whole room passes q stands =
        lengths_stay (λ size. size ≡ member_length 2 line) (λ (q : ℕ). Patched (body_place (shape_of a)) body)
        (λ q all. body_place (shape_of a) + length body ≤ length all) a b sound passes (λ q x y changed fits. patched_long (body_place (shape_of a)) body x y changed fits)
        room q stands (whole q (stood_kept rack a b q passes.array stands))

    -- and where labels are
    whole_labels : (line : Shape) (kept : KeptLabel) → AreWhole rack line a → Labels kept → AreWhole rack line b
    whole_labels line kept whole passes q stands =
        label_lengths (λ size. size ≡ member_length 2 line) kept passes q stands (whole q (stood_kept rack a b q passes.array stands))

    -- beneath a label of format 1 members are made whole
    pub whole_extended : {may : ℕ → RackCall → Type 0} (line : Shape) (kept : Option KeptLabel) → IsLabeled rack line a kept
        → PassesBy rack may (2 * (shape_of a).b) (λ (q : ℕ). Extended (member_length 2 line)) a b → AreWhole rack line b
    whole_extended line kept labeled passes q stands = elim (good_or_filling (members_of b q) stands) [
      | inl good ↦
          let was = good_kept rack a b q passes.array good in
          let within = good_within a q sound was in
          told_with (FitsIn (member_length 2 line)) (λ all. length all ≡ member_length 2 line) (Extended (member_length 2 line))
          (rack.bytes (rack_of a) q) (rack.bytes (rack_of b) q) (λ x y changed fits. extended_long (member_length 2 line) x y changed fits)
          (passes.done q (omega (arith, within)) good) (fits_whole line a kept labeled q was)
      | inr filling ↦
          told_with (λ all. length all ≡ member_length 2 line) (λ all. length all ≡ member_length 2 line) IsSame
          (rack.bytes (rack_of a) q) (rack.bytes (rack_of b) q) (λ x y same h. ap length same ∙ h) (passes.filling q filling)
          (labeled.filling q (filling_kept rack a b q passes.array filling))
    ]

    -- what a save leaves on members that have the body already
    pub saved : (line : Shape) (body : List ℕ) (kept : KeptLabel) → kept.format ≡ 2 → kept.sealed ≡ true → kept.body ≡ length body → 1 ≤ kept.sequence → kept.sequence < 2 ^ 63
        → IsLineOf line (shape_of a) → length body ≤ room_of 2 (shape_of a) → AreWhole rack line a → HaveBody a body → Labels kept
        → IsLabeled rack line b (Some kept) × (FillingFresh b → StandsLabeled rack line b (Some kept) (Some (saved_label b kept.sequence body)))
    saved line body kept format sealed size first last fits room whole had passes =
        let numbers : AreNumbers (shape_of a) kept = record {
          formats = inr format;
          first = first;
          last = last;
          body = subst (λ (f : ℕ). kept.body ≤ room_of f (shape_of a)) (sym format) (omega (arith, size, room));
        } in
        let is_whole = whole_labels line kept whole passes in
        let of_kept : AreNumbersOf (saved_label b kept.sequence body) kept = record { format = sym format; sequence = refl; sealed = sym sealed; body = sym size } in
        let of_array : IsOfArray (shape_of b) (saved_label b kept.sequence body) = record { shape_is = refl; numbers_are = λ q. refl } in (
          record {
            fits = line_on line (shape_of a) (shape_of b) passes.array.stays.shape fits;
            numbers = numbers_fit line (shape_of a) kept fits numbers;
            sealed = λ is. subst (λ (sh : Shape). AreNumbers sh kept) (sym passes.array.stays.shape) numbers;
            lengths = λ q stands.
                weaker (λ all. length all ≡ member_length 2 line) (λ all. HasLength line (Some kept) q (length all)) (rack.bytes (rack_of b) q)
                (λ all long. length_long line (Some kept) q (length all) (long_by kept q format) long) (is_whole q stands);
            filling = λ q filling. is_whole q (filling_stands b q filling);
          },
          λ fresh. record {
            kept = of_kept;
            holds = record {
              label = λ q good.
                  subst (λ (l : Label). IfSome (rack.bytes (rack_of b) q) (λ all. BeginsWith all l))
                  (label_same (shape_of b) (saved_label b kept.sequence body) kept q of_kept of_array) (have_labels kept numbers passes q good);
              body = λ q good is. have_body kept body passes had q good;
            };
            sizes = λ all_named q good.
                weaker (λ all. length all ≡ member_length 2 line) (λ all. saves.HasLength (label_on (saved_label b kept.sequence body) q) (length all))
                (rack.bytes (rack_of b) q) (λ all long. inl (long ∙ ap (member_length 2) (sym all_named))) (is_whole q (good_stands b q good));
            of_array = λ why. of_array;
            filling = λ q filling. filling_bad (members_of b q) filling;
            fresh = fresh_rest b (saved_label b kept.sequence body) (λ q good. good) fresh;
          },
        )

  -- what a save leaves once members are whole: bodies are written, and then labels
  pub save_stands : (line : Shape) (a b c : Store R) (body : List ℕ) (kept : KeptLabel) → IsSound rack a → IsLineOf line (shape_of a) → AreWhole rack line a
      → length body ≤ room_of 2 (shape_of a)
      → Passes rack (2 * (shape_of a).b) (λ (q : ℕ). Patched (body_place (shape_of a)) body) a b
      → Passes rack (2 * (shape_of b).b) (λ (q : ℕ). Patched 0 (label_bytes (numbered (shape_of b) kept q))) b c
      → kept.format ≡ 2 → kept.sealed ≡ true → kept.body ≡ length body → 1 ≤ kept.sequence → kept.sequence < 2 ^ 63
      → IsLabeled rack line c (Some kept) × (FillingFresh a → StandsLabeled rack line c (Some kept) (Some (saved_label c kept.sequence body)))
  save_stands line a b c body kept sound fits whole room bodies labels format sealed size first last =
      let place = have_room line a (length body) fits whole room in
      let both =
      saved b c bodies.array.sound line body kept format sealed size first last (line_on line (shape_of a) (shape_of b) bodies.array.stays.shape fits)
      (subst (λ (sh : Shape). length body ≤ room_of 2 sh) (sym bodies.array.stays.shape) room)
      (whole_bodies a b sound line body whole place bodies) (have_bodies a b sound body place bodies) labels in (
        both.0,
        λ fresh. both.1 (fresh_on b c labels.array labels.filling (fresh_on a b bodies.array bodies.filling fresh)),
      )

  -- a label stays that of an array none of whose members stands
  pub none_labeled : {may : ℕ → RackCall → Type 0} (line : Shape) (a b : Store R) (kept : Option KeptLabel) → IsLabeled rack line a kept → KeepsArrayBy rack may a b → HasNoGood b → IsLabeled rack line b kept
  none_labeled line a b kept labeled keeps none = record {
    fits = line_on line (shape_of a) (shape_of b) keeps.stays.shape labeled.fits;
    numbers = labeled.numbers;
    sealed = seal_on (shape_of a) (shape_of b) kept keeps.stays.shape labeled.sealed;
    lengths = λ q stands. absurd (none_stands b keeps.sound none q stands);
    filling = λ q filling. absurd (none_stands b keeps.sound none q (filling_stands b q filling));
  }

  pub all_lost : (b : Store R) → IsSound rack b → HasNoGood b → IsLeastLost (shape_of b) (members_of b) 0
  all_lost b sound none = record {
    within = omega (arith, sound.table.shape.least_boundaries);
    lost = and_from (not (is_good (members_of b (2 * 0)))) (not (is_good (members_of b (2 * 0 + 1)))) (ap not (none (2 * 0))) (ap not (none (2 * 0 + 1)));
    least = λ t low. absurd (omega (arith, low));
  }

-- ---- a blank array

module _ {R : Type 0} (rack : Ghosts R) where
  blank_good : (shape : Shape) (before : R) (store : Store R) → IsBlankStore rack shape before store → (q : ℕ) → members_of store q ≢ Out
      → members_of store q ≡ Good
  blank_good shape before store blank q stands = elim (cases_lt (q / 2) shape.b) [
    | inl low ↦ elim (blank.members.begins q low) [ inl good ↦ good | inr out ↦ absurd (stands out.0) ]
    | inr high ↦ absurd (stands (blank.members.others q high))
  ]

  blank_long : (shape : Shape) (before : R) (store : Store R) → IsBlankStore rack shape before store → (q : ℕ) → members_of store q ≢ Out
      → IfSome (rack.bytes (rack_of store) q) (λ all. length all ≡ member_length 2 shape)
  blank_long shape before store blank q stands =
      weaker (λ all. all ≡ replicate (member_length 2 shape) 0) (λ all. length all ≡ member_length 2 shape) (rack.bytes (rack_of store) q)
      (λ all zeros. ap length zeros ∙ length-replicate {A = ℕ} (member_length 2 shape) 0)
      (blank.blanked q (blank_good shape before store blank q stands))

  blank_labeled : (shape : Shape) (before : R) (store : Store R) → IsBlankStore rack shape before store → IsLabeled rack shape store None
  blank_labeled shape before store blank = record {
    fits = let same : shape_of store ≡ shape = ap (λ (t : Table). t.shape) blank.table in
        line_on shape shape (shape_of store) same (line_itself shape (subst IsShape same blank.sound.table.shape));
    numbers = tt;
    sealed = λ sealed. absurd (false≢true sealed);
    lengths = λ q stands. blank_long shape before store blank q stands;
    filling = λ q filling. blank_long shape before store blank q (filling_stands rack store q filling);
  }

  pub made_sound : (shape : Shape) (before : R) (r : Result (Store R) NoMemory) → IfOk r (λ store. IsBlankStore rack shape before store) → IfOk r (λ store. IsSound rack store)
  made_sound shape before (Ok store) blank = blank.sound
  made_sound shape before (Err e) blank = tt

  pub made_labeled : (shape : Shape) (before : R) (r : Result (Store R) NoMemory) → IfOk r (λ store. IsBlankStore rack shape before store)
      → IfOk r (λ store. IsLabeled rack shape store None)
  made_labeled shape before (Ok store) blank = blank_labeled shape before store blank
  made_labeled shape before (Err e) blank = tt
