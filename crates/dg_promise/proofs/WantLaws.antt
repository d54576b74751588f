-- Files that have written blocks, by the wants of blocks.
use Rattle.std.proofs.Common.{◌≡◌, ◌∙◌, ℕ, ◌<◌, inl, inr, length, Bool, true, List, [], ◌∷◌, Option, Some, None, refl, sym, ap, arith}
use Rattle.std.specs.Prelude.{Contains, filter, ◌==◌}
use Rattle.std.specs.List.{range_with_len}
use Rattle.std.proofs.lemmas.Bool.{cases_Bool, cases_lt, false≢true}
use Rattle.std.proofs.lemmas.Bool.Decides.{nat_tests}
use Rattle.std.proofs.lemmas.List.{get_or_past}
use Rattle.std.proofs.lemmas.List.Elements.{Contains-append_cases}
use Rattle.ufs_frames.proofs.FragmentLaws.{in_one}
use Rattle.dg_model.specs.Plans.{count_of, is_file}
use Rattle.dg_model.specs.Wants.{want_of}
use Rattle.dg_model.specs.declared.wants.Want.{Want}
use Rattle.dg_model.specs.declared.wants.Want.TheVariants.{File, Kept, Stray}
use Rattle.dg_model.proofs.ClaimSearch.{in_range}

-- ---- filtered lists

some_filtered : (test : ℕ → Bool) (xs : List ℕ) → 0 < length (filter test xs) → (x : ℕ) × (test x ≡ true)
some_filtered test [] some = absurd (omega arith)
some_filtered test (x ∷ xs) some = elim (cases_Bool (test x)) [
  | inl yes_it_is ↦ (x, yes_it_is)
  | inr not_it ↦ some_filtered test xs (rw not_it at some)
]

filtered_some : (test : ℕ → Bool) (xs : List ℕ) (x : ℕ) → Contains xs x → test x ≡ true → 0 < length (filter test xs)
filtered_some test [] x has is = let low = has.1 in absurd (omega arith)
filtered_some test (y ∷ ys) x has is = elim (cases_Bool (test y)) [
  | inl passes ↦ rw passes (omega arith)
  | inr fails ↦ elim (Contains-append_cases (y ∷ []) ys x has) [
    | inl first ↦ absurd (false≢true (sym fails ∙ ap test (sym (in_one y x first)) ∙ is))
    | inr later ↦ rw fails (filtered_some test ys x later is)
  ]
]

-- ---- files

file_is : (i : ℕ) (want : Option Want) → is_file i want ≡ true → want ≡ Some (File i)
file_is i None is = absurd (false≢true is)
file_is i (Some Kept) is = absurd (false≢true is)
file_is i (Some (File j)) is = let same : j ≡ i = grind (arith, nat_tests) in rw same refl
file_is i (Some Stray) is = absurd (false≢true is)

is_file_of : (i : ℕ) (want : Option Want) → want ≡ Some (File i) → is_file i want ≡ true
is_file_of i want is = let same : (i == i) ≡ true = grind (arith, nat_tests) in rw is same

pub want_inside : (wants : List (Option Want)) (b : ℕ) (want : Want) → want_of wants b ≡ Some want → b < length wants
want_inside wants b want is = elim (cases_lt b (length wants)) [
  | inl lt ↦ lt
  | inr ge ↦ let no : None ≡ Some want = sym (get_or_past wants b None ge) ∙ is in cc
]

-- a file with written blocks has one of them
pub some_block : (wants : List (Option Want)) (i : ℕ) → 0 < count_of wants i → (b : ℕ) × (want_of wants b ≡ Some (File i))
some_block wants i some =
    let one = some_filtered (λ b. is_file i (want_of wants b)) (range_with_len 0 (length wants)) some in
    (one.0, file_is i (want_of wants one.0) one.1)

pub block_counts : (wants : List (Option Want)) (b i : ℕ) → want_of wants b ≡ Some (File i) → 0 < count_of wants i
block_counts wants b i is =
    filtered_some (λ b. is_file i (want_of wants b)) (range_with_len 0 (length wants)) b (in_range (length wants) b (want_inside wants b (File i) is)) (is_file_of i (want_of wants b) is)
