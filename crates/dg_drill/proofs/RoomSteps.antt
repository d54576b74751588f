-- The plan of a drill finds room: few of its blocks are kept, and each of its files has few.
use Rattle.std.proofs.Common.{◌≡◌, ◌≢◌, ◌∙◌, ◌+◌, ◌<◌, ◌≤◌, ◌&&◌, ◌==◌, not, ℕ, zero, suc, Bool, true, false, cond, List, [], ◌∷◌, length, inl, inr, refl, sym, ap, subst, arith}
use Rattle.std.specs.Prelude.{Contains, Err, IsOk, None, Ok, Option, Result, Some}
use Rattle.std.specs.List.{filter, range_with_len}
use Rattle.std.proofs.lemmas.Bool.{and_parts, cases_eq, eq-eqb, false≢true, ne_eqb}
use Rattle.std.proofs.lemmas.Bool.Decides.{nat_tests}
use Rattle.std.proofs.lemmas.List.Elements.{Contains-append_cases}
use Rattle.dg_drill.proofs.HomeSteps.{file_is}
use Rattle.dg_drill.specs.Volumes.{drill_shape}
use Rattle.dg_model.specs.Changes.{IsCramped}
use Rattle.dg_model.specs.Homes.{Ascend}
use Rattle.dg_model.specs.Plans.{Plan, is_file, is_kept, plan}
use Rattle.dg_model.specs.States.{State}
use Rattle.dg_model.specs.Wants.{AreWants, IsWant, want_of}
use Rattle.dg_model.specs.declared.homes.Home.{Home}
use Rattle.dg_model.specs.declared.parents.Parent.{Parent}
use Rattle.dg_model.specs.declared.shapes.Shape.{Shape}
use Rattle.dg_model.specs.declared.wants.NoRoom.{NoRoom}
use Rattle.dg_model.specs.declared.wants.Want.{Want}
use Rattle.dg_model.specs.declared.wants.Want.TheVariants.{File, Kept, Stray}
use Rattle.dg_promise.specs.Promises.{AreTold}
use Rattle.dg_promise.specs.Rooms.{HasRoom}
use Rattle.ufs_image_laws.specs.Owners.{AreAtMost}
use Rattle.ufs_model.specs.Blocks.{Volume}

-- ---- numbers of a range that pass a test, and are among others

-- a number that passes both tests, or the first alone, before others
both_pass : (one other : Bool) (x more : ℕ) (xs ys : List ℕ) → (one ≡ true → other ≡ true) → length xs ≤ length ys + more → length (cond one (x ∷ xs) xs) ≤ length (cond other (x ∷ ys) ys) + more
both_pass true true x more xs ys on few = omega (arith, few)
both_pass true false x more xs ys on few = absurd (false≢true (on refl))
both_pass false true x more xs ys on few = omega (arith, few)
both_pass false false x more xs ys on few = few

first_passes : (one other : Bool) (x : ℕ) (xs ys : List ℕ) → length xs ≤ length ys → length (cond one (x ∷ xs) xs) ≤ length (cond other (x ∷ ys) ys) + 1
first_passes true true x xs ys few = omega (arith, few)
first_passes true false x xs ys few = omega (arith, few)
first_passes false true x xs ys few = omega (arith, few)
first_passes false false x xs ys few = omega (arith, few)

none_passes : (f : ℕ → Bool) (a n : ℕ) → ((b : ℕ) → f b ≡ true → ⊥) → length (filter f (range_with_len a n)) ≤ 0
none_passes f a zero none = omega arith
none_passes f a (suc n) none = by_first (f a) refl (none_passes f (a + 1) n none)
  where
    by_first : (here : Bool) → f a ≡ here → length (filter f (range_with_len (a + 1) n)) ≤ 0
        → length (cond here (a ∷ filter f (range_with_len (a + 1) n)) (filter f (range_with_len (a + 1) n))) ≤ 0
    by_first true is rest = absurd (none a is)
    by_first false is rest = rest

-- all but one
but : (ℕ → Bool) → ℕ → ℕ → Bool
but f y b = f b && not (b == y)

but_other : (f : ℕ → Bool) (y b : ℕ) → b ≢ y → f b ≡ true → but f y b ≡ true
unfolding but
but_other f y b other is = let apart : (b == y) ≡ false = ne_eqb b y other in rw (is, apart) refl

past_one : (f : ℕ → Bool) (y a n : ℕ) → y < a → length (filter f (range_with_len a n)) ≤ length (filter (but f y) (range_with_len a n)) + 0
past_one f y a zero past = omega arith
past_one f y a (suc n) past =
    both_pass (f a) (but f y a) a 0 (filter f (range_with_len (a + 1) n)) (filter (but f y) (range_with_len (a + 1) n)) (but_other f y a (λ (same : a ≡ y). absurd (omega (arith, same, past))))
    (past_one f y (a + 1) n (omega (arith, past)))

but_one : (f : ℕ → Bool) (y a n : ℕ) → length (filter f (range_with_len a n)) ≤ length (filter (but f y) (range_with_len a n)) + 1
but_one f y a zero = omega arith
but_one f y a (suc n) = elim (cases_eq a y) as (λ _. length (filter f (range_with_len a (suc n))) ≤ length (filter (but f y) (range_with_len a (suc n))) + 1) [
  | inl here ↦
      let rest = past_one f y (a + 1) n (omega (arith, here)) in
      first_passes (f a) (but f y a) a (filter f (range_with_len (a + 1) n)) (filter (but f y) (range_with_len (a + 1) n)) (omega (arith, rest))
  | inr apart ↦
      both_pass (f a) (but f y a) a 1 (filter f (range_with_len (a + 1) n)) (filter (but f y) (range_with_len (a + 1) n)) (but_other f y a apart) (but_one f y (a + 1) n)
]

-- those that pass are no more than the numbers that they are among
among : (numbers : List ℕ) (f : ℕ → Bool) (a n : ℕ) → ((b : ℕ) → f b ≡ true → Contains numbers b) → length (filter f (range_with_len a n)) ≤ length numbers
unfolding but
among [] f a n each = none_passes f a n (λ b is. let low = (each b is).1 in omega (arith, low))
among (y ∷ ys) f a n each =
    let rest = among ys (but f y) a n (λ b is.
    let parts = and_parts (f b) (not (b == y)) is in
    elim (Contains-append_cases (y ∷ []) ys b (each b parts.0)) as (λ _. Contains ys b) [
      | inl first ↦
          let place : first.0 ≡ 0 = let low = first.1 in omega (arith, low) in
          let same : y ≡ b = rw place at first.2 in
          absurd (false≢true (sym (ap not (eq-eqb b y (sym same))) ∙ parts.1))
      | inr later ↦ later
    ]) in
    let one = but_one f y a n in
    omega (arith, rest, one)

-- ---- blocks by their wants

kept_is : (want : Option Want) → is_kept want ≡ true → want ≡ Some Kept
kept_is None is = absurd (false≢true is)
kept_is (Some Kept) is = refl
kept_is (Some (File i)) is = absurd (false≢true is)
kept_is (Some Stray) is = absurd (false≢true is)

-- a law of plans
abbrev pub PlansHaveRoom : Type 0
PlansHaveRoom = (shape : Shape) (wants : List (Option Want)) (parents : List Parent) (homes : List Home) (kept most : ℕ) → Ascend homes
    → HasRoom shape wants kept most → IsOk (plan shape wants parents homes)

-- how few blocks of a volume are kept, and how few a file has
pub record IsLight (v : Volume) : Type 0 where
  pub kept : AreAtMost (λ b. IsWant 1024 32768 v b Kept) 2600
  pub files : (i : ℕ) → AreAtMost (λ b. IsWant 1024 32768 v b (File i)) 216

has_room : (v : Volume) (wants : List (Option Want)) → IsLight v → length wants ≡ 32768 → AreWants 1024 32768 v wants → HasRoom drill_shape wants 2600 216
has_room v wants light long are = record {
  some = omega arith;
  few =
      let most = light.kept.few in
      let less = among light.kept.numbers (λ b. is_kept (want_of wants b)) 0 (length wants) (λ b is. light.kept.each b (are b Kept (kept_is (want_of wants b) is))) in
      omega (arith, most, less);
  small = λ i.
      let its = light.files i in
      let most = its.few in
      let less = among its.numbers (λ b. is_file i (want_of wants b)) 0 (length wants) (λ b is. its.each b (are b (File i) (file_is i (want_of wants b) is))) in
      omega (arith, most, less);
  each = omega arith;
  all = omega (arith, long);
}

err_not_ok : (found : Result Plan NoRoom) (bad : NoRoom) → found ≡ Err bad → IsOk found → ⊥
err_not_ok (Ok p) bad is ok = cc is
err_not_ok (Err e) bad is ok = false≢true ok

-- so there is room
pub never_cramped : PlansHaveRoom → (state : State) (bad : NoRoom) → state.table.shape ≡ drill_shape → Ascend state.homes → IsLight state.blocks → IsCramped AreTold state bad → ⊥
never_cramped law state bad shape up light cramped =
    let sees = cramped.sees_wants in
    let long : length cramped.wants ≡ 32768 = sees.fit.size ∙ ap (λ (s : Shape). s.n) shape in
    let are : AreWants 1024 32768 state.blocks cramped.wants = subst (λ (s : Shape). AreWants s.l s.n state.blocks cramped.wants) shape (sees.are tt) in
    let room = has_room state.blocks cramped.wants light long are in
    err_not_ok (plan drill_shape cramped.wants cramped.parents state.homes) bad
    (subst (λ (s : Shape). plan s cramped.wants cramped.parents state.homes ≡ Err bad) shape cramped.is)
    (law drill_shape cramped.wants cramped.parents state.homes 2600 216 up room)
