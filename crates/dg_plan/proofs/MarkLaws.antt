-- The bits of marks.
use Rattle.std.proofs.Common.{◌≡◌, ◌<◌, ◌≤◌, ◌+◌, ◌*◌, ◌%◌, ◌^◌, ◌==◌, ◌||◌, ℕ, Bool, true, false, List, [], ◌∷◌, map, max, inl, inr, refl, sym, ◌∙◌, ap, subst, arith}
use Rattle.std.specs.Prelude.{Option, Some, None, bit_or, option_to_list}
use Rattle.std.specs.Int.{bit_at}
use Rattle.std.specs.List.{list_any}
use Rattle.std.specs.BTreeMap.{BTreeMap, get}
use Rattle.std.specs.Ordering.{nat_cmp}
use Rattle.std.proofs.lemmas.Bool.{cases_eq}
use Rattle.std.proofs.lemmas.Nat.Bits.{bit_at-lt, bit_at-pow_other, bit_at-pow_same, bit_at-zero, bit_at_or}
use Rattle.dg_model.proofs.SiteLists.{apart_test, same_test}
use Rattle.dg_model.specs.Homes.{home_of}
use Rattle.dg_model.specs.Plans.{Placement, place_in, places_of, targets_by}
use Rattle.dg_model.specs.declared.homes.Home.{Home}
use Rattle.dg_model.specs.declared.shapes.Shape.{Shape}
use Rattle.dg_model.specs.declared.wants.Want.{Want}
use Rattle.dg_model.specs.declared.wants.Want.TheVariants.{Kept, File, Stray}
use Rattle.dg_plan.specs.Marks.{IsMarkBy, IsMarkOf}
use Rattle.dg_plan.specs.Placings.{homes_in}
use Rattle.dg_plan.specs.Strays.{mark_of}
use Rattle.dg_plan.proofs.EachLaws.{bit_is, places_from, places_step, range_end, range_start}
use Rattle.dg_plan.proofs.FileLaws.{home_found}

-- bit s is set
abbrev pub is_set : ℕ → ℕ → Bool
is_set mark s = bit_at mark s == 1

or_false : (b : Bool) → (b || false) ≡ b
or_false true = refl
or_false false = refl

or_true : (b : Bool) → (b || true) ≡ true
or_true true = refl
or_true false = refl

or_assoc : (a b c : Bool) → ((a || b) || c) ≡ (a || (b || c))
or_assoc true b c = refl
or_assoc false b c = refl

none_set : (s : ℕ) → is_set 0 s ≡ false
none_set s = ap (λ (n : ℕ). n == 1) (bit_at-zero s)

one_set : (t s : ℕ) → is_set (2 ^ t) s ≡ (t == s)
one_set t s = elim (cases_eq t s) [
  | inl at ↦ ap (is_set (2 ^ t)) (sym at) ∙ ap (λ (n : ℕ). n == 1) (bit_at-pow_same t) ∙ sym (same_test t s at)
  | inr off ↦ ap (λ (n : ℕ). n == 1) (bit_at-pow_other t s (λ e. off (sym e))) ∙ sym (apart_test t s off)
]

-- one bit more
set_more : (mark t s : ℕ) → is_set (bit_or mark (2 ^ t)) s ≡ (is_set mark s || (t == s))
set_more mark t s = elim (cases_eq t s) [
  | inl at ↦
      ap (λ (n : ℕ). n == 1) (bit_at_or mark (2 ^ t) s ∙ ap (max (bit_at mark s)) (ap (bit_at (2 ^ t)) (sym at) ∙ bit_at-pow_same t) ∙ one_most (bit_at mark s) (bit_at-lt mark s))
      ∙ sym (ap (λ (b : Bool). is_set mark s || b) (same_test t s at) ∙ or_true (is_set mark s))
  | inr off ↦
      ap (λ (n : ℕ). n == 1) (bit_at_or mark (2 ^ t) s ∙ ap (max (bit_at mark s)) (bit_at-pow_other t s (λ e. off (sym e))) ∙ omega arith)
      ∙ sym (ap (λ (b : Bool). is_set mark s || b) (apart_test t s off) ∙ or_false (is_set mark s))
]
  where
    one_most : (n : ℕ) → n < 2 → max n 1 ≡ 1
    one_most n low = omega arith

pub mark_none : IsMarkOf 0 []
mark_none = record { bits = λ s. none_set s }

pub mark_one : (t : ℕ) → t < 16 → IsMarkOf (1 * 2 ^ t % 65536) (t ∷ [])
mark_one t low = record { bits = λ s. ap (λ (n : ℕ). is_set n s) (bit_is t low) ∙ one_set t s ∙ sym (or_false (t == s)) }

-- ---- the places of a block

abbrev any_at : ℕ → List ℕ → Bool
any_at s targets = list_any (λ t. t == s) targets

-- the places so far, and those from k on
pub record IsMarking (shape : Shape) (b k mark : ℕ) : Type 0 where
  pub bits : (s : ℕ) → (is_set mark s || any_at s (places_from shape b k)) ≡ any_at s (places_of shape b)

pub marking_begins : (shape : Shape) (b : ℕ) → IsMarking shape b 0 0
marking_begins shape b = record {
  bits = λ s. ap (λ (v : Bool). v || any_at s (places_from shape b 0)) (none_set s) ∙ ap (λ xs. any_at s (places_at xs)) (range_start shape.m);
}
  where
    places_at : List ℕ → List ℕ
    places_at xs = map (λ i. (b + i) % shape.b) xs

pub marking_step : (shape : Shape) (b k mark t : ℕ) → k < shape.m → t < 16 → t ≡ (b + k) % shape.b → IsMarking shape b k mark → IsMarking shape b (k + 1) (bit_or mark (1 * 2 ^ t % 65536))
marking_step shape b k mark t below low at marking = record {
  bits = λ s.
      ap (λ (n : ℕ). is_set (bit_or mark n) s || any_at s (places_from shape b (k + 1))) (bit_is t low)
      ∙ ap (λ (v : Bool). v || any_at s (places_from shape b (k + 1))) (set_more mark t s)
      ∙ or_assoc (is_set mark s) (t == s) (any_at s (places_from shape b (k + 1)))
      ∙ ap (λ (u : ℕ). is_set mark s || ((u == s) || any_at s (places_from shape b (k + 1)))) at
      ∙ sym (ap (λ xs. is_set mark s || any_at s xs) (places_step shape b k below))
      ∙ marking.bits s;
}

pub marking_ends : (shape : Shape) (b k mark : ℕ) → shape.m ≤ k → IsMarking shape b k mark → IsMarkOf mark (places_of shape b)
marking_ends shape b k mark past marking = record {
  bits = λ s.
      sym (or_false (is_set mark s))
      ∙ sym (ap (λ xs. is_set mark s || any_at s (map (λ i. (b + i) % shape.b) xs)) (range_end k shape.m past))
      ∙ marking.bits s;
}

-- ---- the home of a file

pub home_some : (homes : BTreeMap ℕ ℕ) (i t : ℕ) → get nat_cmp homes i ≡ Some t → t < 16 → IsMarkOf (1 * 2 ^ t % 65536) (option_to_list (home_of (homes_in homes.entries) i))
home_some homes i t found low =
    subst (λ (o : Option ℕ). IsMarkOf (1 * 2 ^ t % 65536) (option_to_list o)) (sym (home_found homes.entries i ∙ found)) (mark_one t low)

pub home_none : (homes : BTreeMap ℕ ℕ) (i : ℕ) → get nat_cmp homes i ≡ None → IsMarkOf 0 (option_to_list (home_of (homes_in homes.entries) i))
home_none homes i found = subst (λ (o : Option ℕ). IsMarkOf 0 (option_to_list o)) (sym (home_found homes.entries i ∙ found)) mark_none

-- ---- all blocks

seat_mark : (o : Option ℕ) → IsMarkOf (mark_of o 0) (option_to_list o)
seat_mark None = mark_none
seat_mark (Some t) = record { bits = λ s. one_set t s ∙ sym (or_false (t == s)) }

-- the mark of a block has its targets
pub mark_by : (shape : Shape) (homes : List Home) (strays : List Placement) (b : ℕ) (want : Option Want) (before mark : ℕ) → IsMarkBy shape homes b want before mark → before ≡ mark_of (place_in strays b) 0
    → (s : ℕ) → is_set mark s ≡ any_at s (targets_by shape (record { homes = homes; strays = strays }) b want)
mark_by shape homes strays b None before mark is seat s = is.bits s
mark_by shape homes strays b (Some Kept) before mark is seat s = is.bits s
mark_by shape homes strays b (Some (File i)) before mark is seat s = is.bits s
mark_by shape homes strays b (Some Stray) before mark is seat s = ap (λ (n : ℕ). is_set n s) (is ∙ seat) ∙ (seat_mark (place_in strays b)).bits s

-- blocks of one file have one mark
pub file_marked : (shape : Shape) (homes : List Home) (b i : ℕ) (want : Option Want) (before mark : ℕ) → want ≡ Some (File i) → IsMarkBy shape homes b want before mark → IsMarkOf mark (option_to_list (home_of homes i))
file_marked shape homes b i want before mark is marked = subst (λ (w : Option Want). IsMarkBy shape homes b w before mark) is marked

pub same_mark : (shape : Shape) (homes : List Home) (b i : ℕ) (want : Option Want) (before mark : ℕ) → want ≡ Some (File i) → IsMarkOf mark (option_to_list (home_of homes i)) → IsMarkBy shape homes b want before mark
same_mark shape homes b i want before mark is marked = subst (λ (w : Option Want). IsMarkBy shape homes b w before mark) (sym is) marked
