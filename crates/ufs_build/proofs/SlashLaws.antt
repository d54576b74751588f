-- The last slash of a path.
use Rattle.std.proofs.Common.{◌≡◌, ◌≢◌, ℕ, zero, suc, ◌+◌, ◌-◌, ◌<◌, ◌≤◌, ◌==◌, ◌&&◌, Bool, true, false, List, [], ◌∷◌, Some, length, take, drop, get_or, refl, sym, ap, arith}
use Rattle.std.specs.Prelude.{nat_le, slice_get, if◌then◌else◌, ◌||◌}
use Rattle.std.specs.List.{list_all, list_any}
use Rattle.std.proofs.lemmas.List.{drop_more, length-take-le, take-take}
use Rattle.std.proofs.lemmas.Bool.Decides.{nat_tests}
use Rattle.std.proofs.lemmas.Bool.{and_parts, false≢true}
use Rattle.ufs_model.specs.Chunks.{is_name}
use Rattle.ufs_model.specs.Paths.{in_part, is_path, is_path_name, parts_of}
use Rattle.ufs_build.specs.Items.{is_slash, name_of, parent_of}

-- ---- looking for it from the end

differs : (b : ℕ) → b ≢ 47 → is_slash b ≡ false
differs b h = grind (arith, nat_tests)

pub last_step : (path : List ℕ) (start before : ℕ) → before + 1 ≡ start → start ≤ length path → get_or path before 0 ≢ 47
    → list_any is_slash (drop start path) ≡ false → list_any is_slash (drop before path) ≡ false
last_step path start before e inside other rest =
    let low : before < length path = omega arith in
    rw (drop_more path before 0 low, differs (get_or path before 0) other, e) rest

pub not_first : (path : List ℕ) → 1 ≤ length path → slice_get path 0 ≡ Some 47 → get_or path 0 0 ≢ 47 → ⊥
not_first [] some first other = absurd (omega arith)
not_first (b ∷ path) some first other = other (let same : b ≡ 47 = cc in same)

pub some_first : (path : List ℕ) → slice_get path 0 ≡ Some 47 → 1 ≤ length path
some_first [] first = absurd (let no : ⊥ = cc in no)
some_first (b ∷ path) first = omega arith

pub slice_at : (path : List ℕ) (i : ℕ) → i < length path → get_or path i 0 ≡ 47 → slice_get path i ≡ Some 47
slice_at [] i low e = absurd (omega arith)
slice_at (b ∷ path) zero low e = ap Some e
slice_at (b ∷ path) (suc i) low e = slice_at path i (omega arith) e

-- ---- what stands before and behind it

has_at : (path : List ℕ) (i : ℕ) → slice_get path i ≡ Some 47 → list_any is_slash path ≡ true
has_at [] i e = absurd (let no : ⊥ = cc in no)
has_at (b ∷ path) zero e = let same : b ≡ 47 = cc in rw same refl
has_at (b ∷ path) (suc i) e =
    let rest : list_any is_slash path ≡ true = has_at path i e in
    rw rest (elim (b == 47) as (λ t. (t || true) ≡ true) [ true ↦ refl | false ↦ refl ])

pub split_name : (path : List ℕ) (before : ℕ) → slice_get path before ≡ Some 47 → list_any is_slash (drop (suc before) path) ≡ false
    → drop (suc before) path ≡ name_of path
split_name [] before e rest = absurd (let no : ⊥ = cc in no)
split_name (b ∷ path) zero e rest = rw rest refl
split_name (b ∷ path) (suc before) e rest = rw (has_at path before e) (split_name path before e rest)

pub split_parent : (path : List ℕ) (before : ℕ) → slice_get path before ≡ Some 47 → list_any is_slash (drop (suc before) path) ≡ false
    → take before path ≡ parent_of path
split_parent [] before e rest = absurd (let no : ⊥ = cc in no)
split_parent (b ∷ path) zero e rest = rw rest refl
split_parent (b ∷ path) (suc before) e rest = rw (has_at path before e) (ap (λ r. b ∷ r) (split_parent path before e rest))

-- ---- names of a path are short

abbrev is_short : List ℕ → Bool
is_short part = nat_le (length part) 255

shorter : (b : ℕ) (part : List ℕ) → is_short (b ∷ part) ≡ true → is_short part ≡ true
shorter b part h = grind (arith, nat_tests)

both : (a b : Bool) → a ≡ true → b ≡ true → (a && b) ≡ true
both a b e f = rw (e, f) refl

in_part_short : (b : ℕ) (parts : List (List ℕ)) → list_all is_short (in_part b parts) ≡ true → list_all is_short parts ≡ true
in_part_short b [] h = refl
in_part_short b (part ∷ parts) h =
    let both_short = and_parts (is_short (b ∷ part)) (list_all is_short parts) h in
    both (is_short part) (list_all is_short parts) (shorter b part (both_short.0)) (both_short.1)

parts_short : (b : ℕ) (path : List ℕ) (test : Bool) → b == 47 ≡ test
    → list_all is_short (if test then [] ∷ parts_of path else in_part b (parts_of path)) ≡ true → list_all is_short (parts_of path) ≡ true
parts_short b path true e h = h
parts_short b path false e h = in_part_short b (parts_of path) h

neither : (a b : Bool) → (a || b) ≡ false → (a ≡ false) × (b ≡ false)
neither true b e = absurd (false≢true (sym e))
neither false b e = (refl, e)

one_part : (path : List ℕ) → list_any is_slash path ≡ false → parts_of path ≡ path ∷ []
one_part [] none = refl
one_part (b ∷ path) none =
    let parts = neither (b == 47) (list_any is_slash path) none in
    rw (parts.0, one_part path (parts.1)) refl

short_alone : (path : List ℕ) → list_any is_slash path ≡ false → list_all is_short (parts_of path) ≡ true → length path ≤ 255
short_alone path none h =
    let parts = rw (one_part path none) at h in
    let short = (and_parts (is_short path) true parts).0 in
    grind (arith, nat_tests)

name_cases : (b c : ℕ) (path : List ℕ) (test : Bool) → list_any is_slash (c ∷ path) ≡ test → list_all is_short (parts_of (c ∷ path)) ≡ true
    → length (name_of (c ∷ path)) ≤ 255 → length (if test then name_of (c ∷ path) else c ∷ path) ≤ 255
name_cases b c path true e h inner = inner
name_cases b c path false e h inner = short_alone (c ∷ path) e h

name_short : (b : ℕ) (path : List ℕ) → list_all is_short (parts_of path) ≡ true → length (name_of (b ∷ path)) ≤ 255
name_short b [] h = omega arith
name_short b (c ∷ path) h = name_cases b c path (list_any is_slash (c ∷ path)) refl h (name_short c path (parts_short c path (c == 47) refl h))

named_short : (names : List (List ℕ)) → list_all is_path_name names ≡ true → list_all is_short names ≡ true
unfolding is_path_name
named_short [] h = refl
named_short (name ∷ names) h =
    let parts = and_parts (is_path_name name) (list_all is_path_name names) h in
    both (is_short name) (list_all is_short names) ((and_parts (is_name name) (is_short name) (parts.0)).1) (named_short names (parts.1))

pub short_name : (path : List ℕ) → is_path path ≡ true → 2 ≤ length path → length (name_of path) ≤ 255
unfolding is_path
short_name [] is long = absurd (false≢true is)
short_name (b ∷ bytes) is long =
    let path = and_parts (b == 47) (nat_le (length (b ∷ bytes)) 1023 && (nat_le (length (b ∷ bytes)) 1 || list_all is_path_name (parts_of bytes))) is in
    let form = and_parts (nat_le (length (b ∷ bytes)) 1023) (nat_le (length (b ∷ bytes)) 1 || list_all is_path_name (parts_of bytes)) (path.1) in
    let more : nat_le (length (b ∷ bytes)) 1 ≡ false = grind (arith, nat_tests) in
    name_short b bytes (named_short (parts_of bytes) (rw more at (form.1)))

pub first_slash : (path : List ℕ) → is_path path ≡ true → slice_get path 0 ≡ Some 47
unfolding is_path
first_slash [] is = absurd (false≢true is)
first_slash (b ∷ bytes) is =
    let path = and_parts (b == 47) (nat_le (length (b ∷ bytes)) 1023 && (nat_le (length (b ∷ bytes)) 1 || list_all is_path_name (parts_of bytes))) is in
    let first = path.0 in
    let same : b ≡ 47 = grind (arith, nat_tests) in
    ap Some same

-- ---- a path that is cut there

pub cut_name : (path : List ℕ) (start : ℕ) → 1 ≤ start → slice_get path (start - 1) ≡ Some 47 → list_any is_slash (drop start path) ≡ false
    → drop start path ≡ name_of path
cut_name path zero some slash last = absurd (omega arith)
cut_name path (suc start) some slash last =
    let same : suc start - 1 ≡ start = omega arith in
    split_name path start (rw same at slash) last

pub cut_parent : (path front : List ℕ) (start : ℕ) → 1 ≤ start → start ≤ length path → slice_get path (start - 1) ≡ Some 47
    → list_any is_slash (drop start path) ≡ false → front ≡ take start path → take (length front - 1) front ≡ parent_of path
cut_parent path front zero some inside slash last e = absurd (omega arith)
cut_parent path front (suc start) some inside slash last e =
    let same : suc start - 1 ≡ start = omega arith in
    let long : length front - 1 ≡ start = rw (e, length-take-le (suc start) path inside) same in
    let low : start ≤ suc start = omega arith in
    rw (long, e, take-take start (suc start) path low) (split_parent path start (rw same at slash) last)
