-- What a change of the sources of one fragment does.
use Rattle.std.proofs.Common.{◌≡◌, ℕ, suc, ◌-◌, ◌^◌, ◌<◌, ◌↔◌, ◌⊎◌, ◌∙◌, ◌==◌, ◌||◌, inl, inr, List, [], ◌∷◌, Bool, true, false, Contains, Option, Some, None, IfOk, IfSome, IfNone, length, map, refl, sym, ap, subst, arith, get_or-set_same, get_or-set_other, length-set, MatchResult, Result, Ok, Err, Decides, Less}
use Rattle.std.specs.BTreeMap.{BTreeMap, is_at}
use Rattle.std.specs.BTreeSet.{BTreeSet, insert_key}
use Rattle.std.specs.List.{list_any}
use Rattle.std.specs.List.Sorted.{IsStrictlySortedBy}
use Rattle.std.specs.Option.{option_map}
use Rattle.std.specs.Prelude.{IsErr, slice_index_or, slice_set}
use Rattle.std.specs.Set.{remove_key}
use Rattle.std.proofs.lemmas.Bool.{false≢true}
use Rattle.std.proofs.lemmas.Bool.Decides.{nat_tests}
use Rattle.dg_claims.proofs.ListLaws.{apart_number, cond_false, cond_true, contains_cons, contains_none, same_number}
use Rattle.dg_claims.proofs.OrderLaws.{before_all, contains_insert, contains_remove, length_insert, length_remove, not_before_itself, ordered_behind, ordered_from, ordered_remove, other_way}
use Rattle.dg_claims.specs.Marks.{AddsMark, AreOrdered, DropsMark, IsFilled, IsMarks, SameMarks, SameMore, SetsMore, all_on, is_of_level, joined, marked_on, more_on, place_in}
use Rattle.dg_claims.specs.Places.{mark_cmp, mark_of}
use Rattle.dg_claims.specs.declared.marks.Marks.{Marks}
use Rattle.dg_claims.specs.declared.places.Mark.{Mark}
use Rattle.dg_claims.specs.declared.places.Place.{Place}

-- ---- sources with their levels, and without

-- each has the level of its source
abbrev pub AreLeveled : List Mark → Type 0
AreLeveled marks = (mark : Mark) → Contains marks mark → mark ≡ mark_of mark.place

contains_placed : (marks : List Mark) (place : Place) → Contains (map place_in marks) place → (mark : Mark) × Contains marks mark × (mark.place ≡ place)
contains_placed [] place has = absurd (contains_none place has)
contains_placed (m ∷ ms) place has = elim ((contains_cons m.place (map place_in ms) place).0 has) [
  | inl e ↦ (m, (contains_cons m ms m).1 (inl refl), sym e)
  | inr h ↦ let rest = contains_placed ms place h in (rest.0, (contains_cons m ms (rest.0)).1 (inr (rest.1)), rest.2)
]

placed : (marks : List Mark) (mark : Mark) → Contains marks mark → Contains (map place_in marks) mark.place
placed [] mark has = absurd (contains_none mark has)
placed (m ∷ ms) mark has = elim ((contains_cons m ms mark).0 has) [
  | inl e ↦ (contains_cons m.place (map place_in ms) mark.place).1 (inl (ap place_in e))
  | inr h ↦ (contains_cons m.place (map place_in ms) mark.place).1 (inr (placed ms mark h))
]

pub contains_marked : (marks : List Mark) (place : Place) → AreLeveled marks → Contains (map place_in marks) place ↔ Contains marks (mark_of place)
contains_marked marks place leveled = (
  λ has. let found = contains_placed marks place has in
      subst (λ m. Contains marks m) (leveled (found.0) (found.1) ∙ ap mark_of (found.2)) (found.1),
  λ has. placed marks (mark_of place) has,
)

-- ---- one fragment's sources become others

-- These are the first source and the further ones of a fragment now; all other fragments have what they had.
pub record Remarks (old new : Marks) (fragment : ℕ) (first : Option Place) (more : List Mark) : Type 0 where
  pub room : length new.first.items ≡ length old.first.items
  pub one : slice_index_or new.first.items fragment None ≡ first
  pub others : more_on new.more fragment ≡ more
  pub one_off : (other : ℕ) → (other ≡ fragment → ⊥) → slice_index_or new.first.items other None ≡ slice_index_or old.first.items other None
  pub others_off : (other : ℕ) → (other ≡ fragment → ⊥) → more_on new.more other ≡ more_on old.more other

all_here : (old new : Marks) (fragment : ℕ) (first : Option Place) (more : List Mark) → Remarks old new fragment first more → all_on new fragment ≡ joined first more
unfolding all_on
all_here old new fragment first more made = ap (λ o. joined o (more_on new.more fragment)) made.one ∙ ap (joined first) made.others

all_off : (old new : Marks) (fragment : ℕ) (first : Option Place) (more : List Mark) → Remarks old new fragment first more → (other : ℕ) → (other ≡ fragment → ⊥) → all_on new other ≡ all_on old other
unfolding all_on
all_off old new fragment first more made other apart =
    ap (λ o. joined o (more_on new.more other)) (made.one_off other apart) ∙ ap (joined (slice_index_or old.first.items other None)) (made.others_off other apart)

cases_at : (a b : ℕ) → (a ≡ b) ⊎ (a ≡ b → ⊥)
cases_at a b = elim (a == b) as (λ t. (a == b) ≡ t → (a ≡ b) ⊎ (a ≡ b → ⊥)) [
  | true ↦ λ e. inl (grind (arith, nat_tests))
  | false ↦ λ e. inr (λ same. grind (arith, nat_tests))
] refl

pub remarked : (old new : Marks) (fragment : ℕ) (first : Option Place) (more : List Mark) → IsMarks old → Remarks old new fragment first more
    → AreOrdered (joined first more) → AreLeveled (joined first more) → length (joined first more) < 2 ^ 32 → IsFilled first more → IsMarks new
remarked old new fragment first more sound made ordered leveled few filled =
    let here = all_here old new fragment first more made in
    let off = all_off old new fragment first more made in record {
      ordered = λ other. elim (cases_at other fragment) [
        | inl same ↦ subst AreOrdered (sym (ap (all_on new) same ∙ here)) ordered
        | inr apart ↦ subst AreOrdered (sym (off other apart)) (sound.ordered other)
      ];
      leveled = λ other. elim (cases_at other fragment) [
        | inl same ↦ subst AreLeveled (sym (ap (all_on new) same ∙ here)) leveled
        | inr apart ↦ subst AreLeveled (sym (off other apart)) (sound.leveled other)
      ];
      few = λ other. elim (cases_at other fragment) [
        | inl same ↦ subst (λ (ms : List Mark). length ms < 2 ^ 32) (sym (ap (all_on new) same ∙ here)) few
        | inr apart ↦ subst (λ (ms : List Mark). length ms < 2 ^ 32) (sym (off other apart)) (sound.few other)
      ];
      filled = λ other. elim (cases_at other fragment) [
        | inl same ↦ subst (λ (f : ℕ). IsFilled (slice_index_or new.first.items f None) (more_on new.more f)) (sym same)
            (subst (λ o. IsFilled o (more_on new.more fragment)) (sym made.one) (subst (IsFilled first) (sym made.others) filled))
        | inr apart ↦ subst (λ o. IsFilled o (more_on new.more other)) (sym (made.one_off other apart))
            (subst (IsFilled (slice_index_or old.first.items other None)) (sym (made.others_off other apart)) (sound.filled other))
      ];
    }

pub adds : (old new : Marks) (fragment : ℕ) (place : Place) (first : Option Place) (more : List Mark) → IsMarks old → IsMarks new → Remarks old new fragment first more
    → ((mark : Mark) → Contains (joined first more) mark ↔ (Contains (all_on old fragment) mark ⊎ (mark ≡ mark_of place))) → AddsMark old new fragment place
adds old new fragment place first more sound now made which = record {
  room = made.room;
  here = λ other.
      let was = contains_marked (all_on old fragment) other (sound.leveled fragment) in
      let is = contains_marked (all_on new fragment) other (now.leveled fragment) in
      let here = all_here old new fragment first more made in (
        λ has. elim ((which (mark_of other)).0 (subst (λ ms. Contains ms (mark_of other)) here (is.0 has))) [ inl h ↦ inl (was.1 h) | inr e ↦ inr (ap place_in e) ],
        λ either. is.1 (subst (λ ms. Contains ms (mark_of other)) (sym here) ((which (mark_of other)).1 (elim either [ inl h ↦ inl (was.0 h) | inr e ↦ inr (ap mark_of e) ]))),
      );
  elsewhere = λ other apart. ap (map place_in) (all_off old new fragment first more made other apart);
}

pub drops : (old new : Marks) (fragment : ℕ) (place : Place) (first : Option Place) (more : List Mark) → IsMarks old → IsMarks new → Remarks old new fragment first more
    → ((mark : Mark) → Contains (joined first more) mark ↔ (Contains (all_on old fragment) mark × (mark ≡ mark_of place → ⊥))) → DropsMark old new fragment place
drops old new fragment place first more sound now made which = record {
  room = made.room;
  here = λ other.
      let was = contains_marked (all_on old fragment) other (sound.leveled fragment) in
      let is = contains_marked (all_on new fragment) other (now.leveled fragment) in
      let here = all_here old new fragment first more made in (
        λ has. let both = (which (mark_of other)).0 (subst (λ ms. Contains ms (mark_of other)) here (is.0 has)) in (was.1 (both.0), λ e. both.1 (ap mark_of e)),
        λ both. is.1 (subst (λ ms. Contains ms (mark_of other)) (sym here) ((which (mark_of other)).1 (was.0 (both.0), λ e. both.1 (ap place_in e)))),
      );
  elsewhere = λ other apart. ap (map place_in) (all_off old new fragment first more made other apart);
}

-- ---- the parts of a change

sets_one : (old new : Marks) (fragment : ℕ) (one : Option Place) (more : List Mark) → fragment < length old.first.items → new.first.items ≡ slice_set old.first.items fragment one
    → more_on new.more fragment ≡ more → ((other : ℕ) → (other ≡ fragment → ⊥) → more_on new.more other ≡ more_on old.more other) → Remarks old new fragment one more
sets_one old new fragment one more lt firsts here off = record {
  room = ap length firsts ∙ length-set old.first.items fragment one;
  one = ap (λ (xs : List (Option Place)). slice_index_or xs fragment None) firsts ∙ get_or-set_same old.first.items fragment one None lt;
  others = here;
  one_off = λ other apart. ap (λ (xs : List (Option Place)). slice_index_or xs other None) firsts ∙ get_or-set_other old.first.items fragment other one None apart;
  others_off = off;
}

set_here : (old new : Marks) (fragment : ℕ) (more : List Mark) → SetsMore old.more new.more fragment more → more_on new.more fragment ≡ more
set_here old new fragment more sets = sets fragment ∙ cond_true (fragment == fragment) more (more_on old.more fragment) (same_number fragment fragment refl)

set_off : (old new : Marks) (fragment : ℕ) (more : List Mark) → SetsMore old.more new.more fragment more → (other : ℕ) → (other ≡ fragment → ⊥) → more_on new.more other ≡ more_on old.more other
set_off old new fragment more sets other apart = sets other ∙ cond_false (fragment == other) more (more_on old.more other) (apart_number fragment other apart)

sets_others : (old new : Marks) (fragment : ℕ) (more : List Mark) → new.first ≡ old.first → SetsMore old.more new.more fragment more
    → Remarks old new fragment (slice_index_or old.first.items fragment None) more
sets_others old new fragment more firsts sets = record {
  room = ap (λ v. length v.items) firsts;
  one = ap (λ v. slice_index_or v.items fragment None) firsts;
  others = set_here old new fragment more sets;
  one_off = λ other apart. ap (λ v. slice_index_or v.items other None) firsts;
  others_off = set_off old new fragment more sets;
}

-- ---- adding

all_of : (marks : Marks) (fragment : ℕ) (first : Option Place) → slice_index_or marks.first.items fragment None ≡ first → all_on marks fragment ≡ joined first (more_on marks.more fragment)
unfolding all_on
all_of marks fragment first is = ap (λ o. joined o (more_on marks.more fragment)) is

leveled_one : (place : Place) (marks : List Mark) → AreLeveled marks → AreLeveled (mark_of place ∷ marks)
leveled_one place marks leveled mark has = elim ((contains_cons (mark_of place) marks mark).0 has) [
  | inl e ↦ e ∙ ap (λ m. mark_of (place_in m)) (sym e)
  | inr h ↦ leveled mark h
]

pub leveled_rest : (mark : Mark) (marks : List Mark) → AreLeveled (mark ∷ marks) → AreLeveled marks
leveled_rest mark marks leveled other has = leveled other ((contains_cons mark marks other).1 (inr has))

leveled_insert : (place : Place) (marks : List Mark) → AreLeveled marks → AreLeveled (insert_key mark_cmp marks (mark_of place))
leveled_insert place marks leveled mark has = elim ((contains_insert marks (mark_of place) mark).0 has) [
  | inl h ↦ leveled mark h
  | inr e ↦ e ∙ ap (λ m. mark_of (place_in m)) (sym e)
]

pub added_first : (old new : Marks) (fragment : ℕ) (place : Place) → IsMarks old → fragment < length old.first.items → slice_index_or old.first.items fragment None ≡ None
    → new.first.items ≡ slice_set old.first.items fragment (Some place) → new.more ≡ old.more → IsMarks new × AddsMark old new fragment place
added_first old new fragment place sound lt bare firsts more =
    let none : more_on old.more fragment ≡ [] = subst (λ o. IsFilled o (more_on old.more fragment)) bare (sound.filled fragment) in
    let was : all_on old fragment ≡ [] = all_of old fragment None bare in
    let made = sets_one old new fragment (Some place) [] lt firsts (ap (λ m. more_on m fragment) more ∙ none) (λ other apart. ap (λ m. more_on m other) more) in
    let one = contains_cons (mark_of place) [] in
    let now = remarked old new fragment (Some place) [] sound made ((λ other has. absurd (contains_none other has)), tt) (leveled_one place [] (λ mark has. absurd (contains_none mark has))) (omega arith) tt in (
      now,
      adds old new fragment place (Some place) [] sound now made (λ mark. (
        λ has. elim ((one mark).0 has) [ inl e ↦ inr e | inr h ↦ absurd (contains_none mark h) ],
        λ either. (one mark).1 (elim either [ inl h ↦ absurd (contains_none mark (subst (λ ms. Contains ms mark) was h)) | inr e ↦ inl e ]),
      )),
    )

-- what there is where there is a first source
ordered_there : (marks : Marks) (fragment : ℕ) (one : Place) → IsMarks marks → slice_index_or marks.first.items fragment None ≡ Some one → AreOrdered (mark_of one ∷ more_on marks.more fragment)
ordered_there marks fragment one sound is = subst AreOrdered (all_of marks fragment (Some one) is) (sound.ordered fragment)

leveled_there : (marks : Marks) (fragment : ℕ) (one : Place) → IsMarks marks → slice_index_or marks.first.items fragment None ≡ Some one → AreLeveled (mark_of one ∷ more_on marks.more fragment)
leveled_there marks fragment one sound is = subst AreLeveled (all_of marks fragment (Some one) is) (sound.leveled fragment)

-- of two sources the one stands first, and the other among the further ones
which_two : (low high one place : Place) (more : List Mark) → ((low ≡ one) × (high ≡ place)) ⊎ ((low ≡ place) × (high ≡ one))
    → (mark : Mark) → Contains (mark_of low ∷ insert_key mark_cmp more (mark_of high)) mark ↔ (Contains (mark_of one ∷ more) mark ⊎ (mark ≡ mark_of place))
which_two low high one place more (inl same) mark =
    let front = contains_cons (mark_of low) (insert_key mark_cmp more (mark_of high)) mark in
    let old = contains_cons (mark_of one) more mark in
    let put = contains_insert more (mark_of high) mark in (
      λ has. elim (front.0 has) [
        | inl e ↦ inl (old.1 (inl (e ∙ ap mark_of (same.0))))
        | inr h ↦ elim (put.0 h) [ inl k ↦ inl (old.1 (inr k)) | inr e ↦ inr (e ∙ ap mark_of (same.1)) ]
      ],
      λ either. front.1 (elim either [
        | inl h ↦ elim (old.0 h) [ inl e ↦ inl (e ∙ ap mark_of (sym (same.0))) | inr k ↦ inr (put.1 (inl k)) ]
        | inr e ↦ inr (put.1 (inr (e ∙ ap mark_of (sym (same.1)))))
      ]),
    )
which_two low high one place more (inr same) mark =
    let front = contains_cons (mark_of low) (insert_key mark_cmp more (mark_of high)) mark in
    let old = contains_cons (mark_of one) more mark in
    let put = contains_insert more (mark_of high) mark in (
      λ has. elim (front.0 has) [
        | inl e ↦ inr (e ∙ ap mark_of (same.0))
        | inr h ↦ elim (put.0 h) [ inl k ↦ inl (old.1 (inr k)) | inr e ↦ inl (old.1 (inl (e ∙ ap mark_of (same.1)))) ]
      ],
      λ either. front.1 (elim either [
        | inl h ↦ elim (old.0 h) [ inl e ↦ inr (put.1 (inr (e ∙ ap mark_of (sym (same.1))))) | inr k ↦ inr (put.1 (inl k)) ]
        | inr e ↦ inl (e ∙ ap mark_of (sym (same.0)))
      ]),
    )

added_two : (old new : Marks) (fragment : ℕ) (low high one place : Place) → IsMarks old → slice_index_or old.first.items fragment None ≡ Some one
    → ((low ≡ one) × (high ≡ place)) ⊎ ((low ≡ place) × (high ≡ one)) → ((other : Mark) → Contains (more_on old.more fragment) other → mark_cmp (mark_of low) other ≡ Less)
    → mark_cmp (mark_of low) (mark_of high) ≡ Less → length (all_on old fragment) < 2 ^ 32 - 1 → AreOrdered (insert_key mark_cmp (more_on old.more fragment) (mark_of high))
    → Remarks old new fragment (Some low) (insert_key mark_cmp (more_on old.more fragment) (mark_of high)) → IsMarks new × AddsMark old new fragment place
added_two old new fragment low high one place sound is two below less few ordered made =
    let more = more_on old.more fragment in
    let was = all_of old fragment (Some one) is in
    let longer = length_insert more (mark_of high) in
    let leveled = leveled_there old fragment one sound is in
    let fewer : length (mark_of one ∷ more) < 2 ^ 32 - 1 = subst (λ (ms : List Mark). length ms < 2 ^ 32 - 1) was few in
    let now = remarked old new fragment (Some low) (insert_key mark_cmp more (mark_of high)) sound made (ordered_behind (mark_of low) (mark_of high) more below less ordered)
    (leveled_one low (insert_key mark_cmp more (mark_of high)) (leveled_insert high more (leveled_rest (mark_of one) more leveled))) (omega (arith, longer, fewer)) tt in (
      now,
      adds old new fragment place (Some low) (insert_key mark_cmp more (mark_of high)) sound now made
          (subst (λ (ms : List Mark). (mark : Mark) → Contains (mark_of low ∷ insert_key mark_cmp more (mark_of high)) mark ↔ (Contains ms mark ⊎ (mark ≡ mark_of place))) (sym was)
          (which_two low high one place more two)),
    )

same_marks : (old new : Marks) → IsMarks old → new.first ≡ old.first → SameMore old.more new.more → IsMarks new × SameMarks old new
unfolding all_on
same_marks old new sound firsts more =
    let same : (fragment : ℕ) → all_on new fragment ≡ all_on old fragment =
    λ fragment. ap (λ v. joined (slice_index_or v.items fragment None) (more_on new.more fragment)) firsts ∙ ap (joined (slice_index_or old.first.items fragment None)) (more fragment) in (
      record {
        ordered = λ fragment. subst AreOrdered (sym (same fragment)) (sound.ordered fragment);
        leveled = λ fragment. subst AreLeveled (sym (same fragment)) (sound.leveled fragment);
        few = λ fragment. subst (λ (ms : List Mark). length ms < 2 ^ 32) (sym (same fragment)) (sound.few fragment);
        filled = λ fragment. subst (λ v. IsFilled (slice_index_or v.items fragment None) (more_on new.more fragment)) (sym firsts)
            (subst (IsFilled (slice_index_or old.first.items fragment None)) (sym (more fragment)) (sound.filled fragment));
      },
      record { room = ap (λ v. length v.items) firsts; all = λ fragment. ap (map place_in) (same fragment) },
    )

pub added_behind : {A E : Type 0} (r : Result A E) (old new : Marks) (fragment : ℕ) (one place : Place) → IsMarks old → slice_index_or old.first.items fragment None ≡ Some one
    → mark_cmp (mark_of one) (mark_of place) ≡ Less → length (all_on old fragment) < 2 ^ 32 - 1 → new.first ≡ old.first
    → MatchResult r (λ _. SetsMore old.more new.more fragment (insert_key mark_cmp (more_on old.more fragment) (mark_of place))) (λ _. SameMore old.more new.more)
    → IfOk r (λ _. IsStrictlySortedBy mark_cmp (more_on new.more fragment)) → IsMarks new × MatchResult r (λ _. AddsMark old new fragment place) (λ _. SameMarks old new)
added_behind (Ok a) old new fragment one place sound is less few firsts sets sorted =
    let more = insert_key mark_cmp (more_on old.more fragment) (mark_of place) in
    let there = ordered_there old fragment one sound is in
    let made = subst (λ o. Remarks old new fragment o more) is (sets_others old new fragment more firsts sets) in
    added_two old new fragment one place one place sound is (inl (refl, refl)) (there.0) less few (ordered_from more (subst (IsStrictlySortedBy mark_cmp) (set_here old new fragment more sets) sorted)) made
added_behind (Err e) old new fragment one place sound is less few firsts sets sorted = same_marks old new sound firsts sets

pub added_front : (old new : Marks) (fragment : ℕ) (one place : Place) → IsMarks old → fragment < length old.first.items → slice_index_or old.first.items fragment None ≡ Some one
    → (Contains (marked_on old fragment) place → ⊥) → (mark_cmp (mark_of one) (mark_of place) ≡ Less → ⊥) → length (all_on old fragment) < 2 ^ 32 - 1
    → new.first.items ≡ slice_set old.first.items fragment (Some place)
    → SetsMore old.more new.more fragment (insert_key mark_cmp (more_on old.more fragment) (mark_of one)) → IsStrictlySortedBy mark_cmp (more_on new.more fragment)
    → IsMarks new × AddsMark old new fragment place
added_front old new fragment one place sound lt is fresh not_less few firsts sets sorted =
    let more = insert_key mark_cmp (more_on old.more fragment) (mark_of one) in
    let there = ordered_there old fragment one sound is in
    let was = all_of old fragment (Some one) is in
    let apart : mark_of one ≡ mark_of place → ⊥ = λ e. fresh (placed (all_on old fragment) (mark_of place)
    (subst (λ (ms : List Mark). Contains ms (mark_of place)) (sym was) ((contains_cons (mark_of one) (more_on old.more fragment) (mark_of place)).1 (inl (sym e))))) in
    let less = other_way (mark_of one) (mark_of place) apart not_less in
    added_two old new fragment place one one place sound is (inr (refl, refl)) (before_all (mark_of place) (mark_of one) (more_on old.more fragment) less there) less few
    (ordered_from more (subst (IsStrictlySortedBy mark_cmp) (set_here old new fragment more sets) sorted))
    (sets_one old new fragment (Some place) more lt firsts (set_here old new fragment more sets) (set_off old new fragment more sets))

-- ---- the same by the results of calls

length_placed : (marks : List Mark) → length (map place_in marks) ≡ length marks
length_placed [] = refl
length_placed (m ∷ ms) = ap suc (length_placed ms)

pub room_left : (marks : Marks) (fragment count : ℕ) → IsMarks marks → count ≡ length (marked_on marks fragment) → (count ≡ 2 ^ 32 - 1 → ⊥) → length (all_on marks fragment) < 2 ^ 32 - 1
room_left marks fragment count sound is full =
    let few = sound.few fragment in
    let same : length (marked_on marks fragment) ≡ length (all_on marks fragment) = length_placed (all_on marks fragment) in
    omega (arith, few, is, same, full)

pub before_by : (m n : Mark) (one other : Place) (b : Bool) → m ≡ mark_of one → n ≡ mark_of other → Decides b (mark_cmp m n ≡ Less) → Decides b (mark_cmp (mark_of one) (mark_of other) ≡ Less)
before_by m n one other b is_one is_other test = subst (λ m. Decides b (mark_cmp m (mark_of other) ≡ Less)) is_one (subst (λ n. Decides b (mark_cmp m n ≡ Less)) is_other test)

pub put_by : {A E : Type 0} (r : Result A E) (old new : BTreeMap ℕ (BTreeSet Mark)) (fragment : ℕ) (m : Mark) (place : Place) → m ≡ mark_of place
    → MatchResult r (λ _. SetsMore old new fragment (insert_key mark_cmp (more_on old fragment) m)) (λ _. SameMore old new)
    → MatchResult r (λ _. SetsMore old new fragment (insert_key mark_cmp (more_on old fragment) (mark_of place))) (λ _. SameMore old new)
put_by r old new fragment m place is put =
    subst (λ m. MatchResult r (λ _. SetsMore old new fragment (insert_key mark_cmp (more_on old fragment) m)) (λ _. SameMore old new)) is put

pub sets_by : (old new : BTreeMap ℕ (BTreeSet Mark)) (fragment : ℕ) (m : Mark) (place : Place) → m ≡ mark_of place → SetsMore old new fragment (insert_key mark_cmp (more_on old fragment) m)
    → SetsMore old new fragment (insert_key mark_cmp (more_on old fragment) (mark_of place))
sets_by old new fragment m place is sets = subst (λ m. SetsMore old new fragment (insert_key mark_cmp (more_on old fragment) m)) is sets

pub drop_by : (old new : BTreeMap ℕ (BTreeSet Mark)) (fragment : ℕ) (m : Mark) (place : Place) → m ≡ mark_of place → SetsMore old new fragment (remove_key (is_at (mark_cmp m)) (more_on old fragment))
    → SetsMore old new fragment (remove_key (is_at (mark_cmp (mark_of place))) (more_on old fragment))
drop_by old new fragment m place is sets = subst (λ m. SetsMore old new fragment (remove_key (is_at (mark_cmp m)) (more_on old fragment))) is sets

pub same_by : {A E : Type 0} (P : Type 0) {Q : Type 0} (r : Result A E) → IsErr r → Q → MatchResult r (λ _. P) (λ _. Q)
same_by P (Ok a) is q = absurd (false≢true is)
same_by P (Err e) is q = q

pub not_by : {P : Type 0} (b : Bool) → Decides b P → b ≡ false → P → ⊥
not_by b test e p = false≢true (sym e ∙ test.1 p)

pub added_nothing : (old new : Marks) → IsMarks old → new.first ≡ old.first → SameMore old.more new.more → IsMarks new × SameMarks old new
added_nothing = same_marks

-- ---- dropping

apart_from : (one other : Mark) → one ≡ other → mark_cmp one other ≡ Less → ⊥
apart_from = not_before_itself

-- the first of the further sources, if there is one, is the first source now
dropped_next : (old new : Marks) (fragment : ℕ) (place : Place) (next : Option Mark) → IsMarks old → slice_index_or old.first.items fragment None ≡ Some place
    → IfSome next (λ mark. more_on old.more fragment ≡ mark ∷ more_on new.more fragment) → IfNone next ((more_on old.more fragment ≡ []) × (more_on new.more fragment ≡ []))
    → Remarks old new fragment (option_map place_in next) (more_on new.more fragment) → IsMarks new × DropsMark old new fragment place
dropped_next old new fragment place None sound is some none made =
    let was = all_of old fragment (Some place) is ∙ ap (λ ms. mark_of place ∷ ms) (none.0) in
    let now = remarked old new fragment None (more_on new.more fragment) sound made tt (λ mark has. absurd (contains_none mark has)) (omega arith) (none.1) in
    let one = contains_cons (mark_of place) [] in (
      now,
      drops old new fragment place None (more_on new.more fragment) sound now made (λ mark. (
        λ has. absurd (contains_none mark has),
        λ both. elim ((one mark).0 (subst (λ (ms : List Mark). Contains ms mark) was (both.0))) [ inl e ↦ absurd (both.1 e) | inr h ↦ h ],
      )),
    )
dropped_next old new fragment place (Some next) sound is some none made =
    let rest = more_on new.more fragment in
    let was : all_on old fragment ≡ mark_of place ∷ next ∷ rest = all_of old fragment (Some place) is ∙ ap (λ ms. mark_of place ∷ ms) some in
    let ordered : AreOrdered (mark_of place ∷ next ∷ rest) = subst AreOrdered was (sound.ordered fragment) in
    let leveled : AreLeveled (mark_of place ∷ next ∷ rest) = subst AreLeveled was (sound.leveled fragment) in
    let few : length (mark_of place ∷ next ∷ rest) < 2 ^ 32 = subst (λ (ms : List Mark). length ms < 2 ^ 32) was (sound.few fragment) in
    let back = leveled_rest (mark_of place) (next ∷ rest) leveled in
    let itself : next ≡ mark_of next.place = back next ((contains_cons next rest next).1 (inl refl)) in
    let front = contains_cons (mark_of place) (next ∷ rest) in
    let now = remarked old new fragment (Some next.place) rest sound made (subst (λ m. AreOrdered (m ∷ rest)) itself (ordered.1)) (subst (λ m. AreLeveled (m ∷ rest)) itself back) (omega (arith, few)) tt in (
      now,
      drops old new fragment place (Some next.place) rest sound now made (λ mark. (
        λ has.
            let there = subst (λ m. Contains (m ∷ rest) mark) (sym itself) has in
            (subst (λ (ms : List Mark). Contains ms mark) (sym was) ((front mark).1 (inr there)), λ e. apart_from (mark_of place) mark (sym e) (ordered.0 mark there)),
        λ both. subst (λ m. Contains (m ∷ rest) mark) itself (elim ((front mark).0 (subst (λ (ms : List Mark). Contains ms mark) was (both.0))) [ inl e ↦ absurd (both.1 e) | inr h ↦ h ]),
      )),
    )

pub dropped_first : (old new : Marks) (fragment : ℕ) (place : Place) (next : Option Mark) → IsMarks old → fragment < length old.first.items → slice_index_or old.first.items fragment None ≡ Some place
    → IfSome next (λ mark. more_on old.more fragment ≡ mark ∷ more_on new.more fragment) → IfNone next ((more_on old.more fragment ≡ []) × (more_on new.more fragment ≡ []))
    → ((other : ℕ) → (other ≡ fragment → ⊥) → more_on new.more other ≡ more_on old.more other) → new.first.items ≡ slice_set old.first.items fragment (option_map place_in next)
    → IsMarks new × DropsMark old new fragment place
dropped_first old new fragment place next sound lt is some none off firsts =
    dropped_next old new fragment place next sound is some none (sets_one old new fragment (option_map place_in next) (more_on new.more fragment) lt firsts refl off)

dropped_from : (old new : Marks) (fragment : ℕ) (place : Place) (first : Option Place) → IsMarks old → slice_index_or old.first.items fragment None ≡ first → (first ≡ Some place → ⊥)
    → Remarks old new fragment first (remove_key (is_at (mark_cmp (mark_of place))) (more_on old.more fragment)) → IsMarks new × DropsMark old new fragment place
dropped_from old new fragment place None sound is apart made =
    let more = more_on old.more fragment in
    let none : more ≡ [] = subst (λ o. IsFilled o more) is (sound.filled fragment) in
    let was = all_of old fragment None is in
    let now = remarked old new fragment None (remove_key (is_at (mark_cmp (mark_of place))) more) sound made tt (λ mark has. absurd (contains_none mark has)) (omega arith) (ap (remove_key (is_at (mark_cmp (mark_of place)))) none) in (
      now,
      drops old new fragment place None (remove_key (is_at (mark_cmp (mark_of place))) more) sound now made (λ mark. (
        λ has. absurd (contains_none mark has),
        λ both. subst (λ (ms : List Mark). Contains ms mark) was (both.0),
      )),
    )
dropped_from old new fragment place (Some one) sound is apart made =
    let more = more_on old.more fragment in
    let left = remove_key (is_at (mark_cmp (mark_of place))) more in
    let was = all_of old fragment (Some one) is in
    let there = ordered_there old fragment one sound is in
    let leveled = leveled_there old fragment one sound is in
    let few : length (mark_of one ∷ more) < 2 ^ 32 = subst (λ (ms : List Mark). length ms < 2 ^ 32) was (sound.few fragment) in
    let fewer = length_remove more (mark_of place) in
    let removed = λ (mark : Mark). contains_remove more (mark_of place) mark (there.1) in
    let now = remarked old new fragment (Some one) left sound made
    (λ other has. there.0 other (((removed other).0 has).0), ordered_remove more (mark_of place) (there.1))
    (leveled_one one left (λ mark has. leveled_rest (mark_of one) more leveled mark (((removed mark).0 has).0))) (omega (arith, few, fewer)) tt in (
      now,
      drops old new fragment place (Some one) left sound now made (λ mark.
          let old_front = contains_cons (mark_of one) more mark in
          let new_front = contains_cons (mark_of one) left mark in (
            λ has. elim (new_front.0 has) [
              | inl e ↦ (subst (λ (ms : List Mark). Contains ms mark) (sym was) (old_front.1 (inl e)), λ same. apart (ap (λ m. Some (place_in m)) (sym e ∙ same)))
              | inr h ↦ (subst (λ (ms : List Mark). Contains ms mark) (sym was) (old_front.1 (inr (((removed mark).0 h).0))), ((removed mark).0 h).1)
            ],
            λ both. new_front.1 (elim (old_front.0 (subst (λ (ms : List Mark). Contains ms mark) was (both.0))) [ inl e ↦ inl e | inr h ↦ inr ((removed mark).1 (h, both.1)) ]),
          )),
    )

pub dropped_more : (old new : Marks) (fragment : ℕ) (place : Place) → IsMarks old → (slice_index_or old.first.items fragment None ≡ Some place → ⊥) → new.first ≡ old.first
    → SetsMore old.more new.more fragment (remove_key (is_at (mark_cmp (mark_of place))) (more_on old.more fragment)) → IsMarks new × DropsMark old new fragment place
dropped_more old new fragment place sound apart firsts sets =
    dropped_from old new fragment place (slice_index_or old.first.items fragment None) sound refl apart
    (sets_others old new fragment (remove_key (is_at (mark_cmp (mark_of place))) (more_on old.more fragment)) firsts sets)

-- ---- levels

any_both : (a b s t : Bool) → a ≡ b → s ≡ t → (a || s) ≡ (b || t)
any_both a b s t e f = ap (λ x. x || s) e ∙ ap (λ y. b || y) f

levels_of : (level : ℕ) (marks : List Mark) → AreLeveled marks → list_any (λ mark. mark.level == level) marks ≡ list_any (is_of_level level) (map place_in marks)
levels_of level [] leveled = refl
levels_of level (m ∷ ms) leveled =
    any_both _ _ _ _ (ap (λ (n : Mark). n.level == level) (leveled m ((contains_cons m ms m).1 (inl refl)))) (levels_of level ms (leveled_rest m ms leveled))

pub levels_on : (marks : Marks) (fragment level : ℕ) (one : Place) → IsMarks marks → slice_index_or marks.first.items fragment None ≡ Some one
    → list_any (λ mark. mark.level == level) (more_on marks.more fragment) ≡ list_any (is_of_level level) (map place_in (more_on marks.more fragment))
levels_on marks fragment level one sound is = levels_of level (more_on marks.more fragment) (leveled_rest (mark_of one) (more_on marks.more fragment) (leveled_there marks fragment one sound is))

behind : (b t : Bool) → b ≡ false → t ≡ (b || t)
behind true t e = absurd (false≢true (sym e))
behind false t e = refl

-- the first source isn't at the level
pub level_behind : (marks : Marks) (fragment level : ℕ) (one : Place) (m : Mark) → IsMarks marks → slice_index_or marks.first.items fragment None ≡ Some one → m ≡ mark_of one → (m.level ≡ level → ⊥)
    → list_any (λ mark. mark.level == level) (more_on marks.more fragment) ≡ list_any (is_of_level level) (marked_on marks fragment)
level_behind marks fragment level one m sound is same apart =
    levels_on marks fragment level one sound is
    ∙ behind (is_of_level level one) _ (apart_number ((mark_of one).level) level (λ e. apart (ap (λ (n : Mark). n.level) same ∙ sym e)))
    ∙ ap (λ (ms : List Mark). list_any (is_of_level level) (map place_in ms)) (sym (all_of marks fragment (Some one) is))
