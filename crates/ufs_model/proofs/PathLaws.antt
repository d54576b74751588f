-- The names of a path.
use Rattle.std.proofs.Common.{◌≡◌, ◌∙◌, ℕ, zero, suc, ◌+◌, ◌≤◌, Bool, true, false, not, ◌==◌, ◌&&◌, nat_lt, List, [], ◌∷◌, Option, Some, None, length, take, drop, refl, sym, ap, arith}
use Rattle.std.specs.Prelude.{cond, filter, nat_le, ◌||◌}
use Rattle.std.specs.List.{list_all, position, position_or_len}
use Rattle.std.specs.Option.{unwrap_or}
use Rattle.std.proofs.lemmas.Bool.Decides.{nat_tests}
use Rattle.std.proofs.lemmas.Bool.{and_parts, false≢true}
use Rattle.ufs_model.specs.Chunks.{is_name}
use Rattle.ufs_model.specs.Paths.{is_path, is_path_name, names_after, names_of, parts_of}
use Rattle.std.specs.List.{list_any}

abbrev pub is_slash : ℕ → Bool
is_slash b = b == 47

-- ---- where the first slash is

step : (b : Bool) (n m : ℕ) → n ≤ m → cond (not b) (1 + n) 0 ≤ suc m
step true n m h = omega arith
step false n m h = omega arith

fits : (bytes : List ℕ) → position_or_len is_slash bytes ≤ length bytes
fits [] = omega arith
fits (b ∷ bytes) = step (b == 47) (position_or_len is_slash bytes) (length bytes) (fits bytes)

or_len : (n m : ℕ) (low : Bool) → nat_lt n m ≡ low → n ≤ m → unwrap_or (cond low (Some n) None) m ≡ n
or_len n m true e fits = refl
or_len n m false e fits = grind (arith, nat_tests)

slash_or_end : (bytes : List ℕ) → unwrap_or (position is_slash bytes) (length bytes) ≡ position_or_len is_slash bytes
slash_or_end bytes = or_len (position_or_len is_slash bytes) (length bytes) _ refl (fits bytes)

-- ---- the first name

one_more : (n : ℕ) → 1 + n ≡ suc n
one_more n = omega arith

part_cases : (b : ℕ) (bytes : List ℕ) (test : Bool) → b == 47 ≡ test
    → parts_of bytes ≡ take (position_or_len is_slash bytes) bytes ∷ names_after (drop (position_or_len is_slash bytes) bytes)
    → parts_of (b ∷ bytes) ≡ take (position_or_len is_slash (b ∷ bytes)) (b ∷ bytes) ∷ names_after (drop (position_or_len is_slash (b ∷ bytes)) (b ∷ bytes))
part_cases b bytes true e rest = rw e refl
part_cases b bytes false e rest = rw (e, rest, one_more (position_or_len is_slash bytes)) refl

-- the first part of a path, and those after it
part_then : (bytes : List ℕ) → parts_of bytes ≡ take (position_or_len is_slash bytes) bytes ∷ names_after (drop (position_or_len is_slash bytes) bytes)
part_then [] = refl
part_then (b ∷ bytes) = part_cases b bytes (b == 47) refl (part_then bytes)

names_of_rest : (path : List ℕ) → 1 ≤ length path → names_after path ≡ parts_of (drop 1 path)
names_of_rest [] some = absurd (omega arith)
names_of_rest (b ∷ bytes) some = refl

pub first_name : (path after name rest : List ℕ) (found : Option ℕ) (n : ℕ) → 1 ≤ length path → after ≡ drop 1 path → found ≡ position is_slash after
    → n ≡ unwrap_or found (length after) → name ≡ take n after → rest ≡ drop n after → names_after path ≡ name ∷ names_after rest
first_name path after name rest found n some e1 e2 e3 e4 e5 =
    let place : n ≡ position_or_len is_slash after = e3 ∙ ap (λ o. unwrap_or o (length after)) e2 ∙ slash_or_end after in
    rw (e4, e5, place) (names_of_rest path some ∙ ap parts_of (sym e1) ∙ part_then after)

-- ---- the names of a path

named : (name : List ℕ) → is_path_name name ≡ true → nat_lt 0 (length name) ≡ true
unfolding is_path_name is_name
named name h =
    let both = and_parts (nat_lt 0 (length name) && not (list_any (λ b. (b == 0) || (b == 47)) name)) (nat_le (length name) 255) h in
    (and_parts (nat_lt 0 (length name)) (not (list_any (λ b. (b == 0) || (b == 47)) name)) (both.0)).0

all_kept : (names : List (List ℕ)) → list_all is_path_name names ≡ true → filter (λ part. nat_lt 0 (length part)) names ≡ names
all_kept [] h = refl
all_kept (name ∷ names) h =
    let both = and_parts (is_path_name name) (list_all is_path_name names) h in
    rw (named name (both.0), all_kept names (both.1)) refl

or_else : (x y : Bool) → x ≡ false → (x || y) ≡ true → y ≡ true
or_else true y e h = absurd (false≢true (sym e))
or_else false y e h = h

long_enough : (n : ℕ) → (suc n ≡ 1 → ⊥) → nat_le (suc n) 1 ≡ false
long_enough zero more = absurd (more refl)
long_enough (suc n) more = grind (arith, nat_tests)

pub no_names : (path : List ℕ) → is_path path ≡ true → length path ≡ 1 → [] ≡ names_of path
unfolding is_path
no_names [] is one = absurd (false≢true is)
no_names (b ∷ []) is one =
    let first = (and_parts (b == 47) _ is).0 in
    let slash : b ≡ 47 = grind (arith, nat_tests) in
    rw slash refl
no_names (b ∷ c ∷ bytes) is one = absurd (omega arith)

pub some_names : (path : List ℕ) → is_path path ≡ true → (length path ≡ 1 → ⊥) → names_after path ≡ names_of path
unfolding is_path
some_names [] is more = absurd (false≢true is)
some_names (b ∷ bytes) is more =
    let path = and_parts (b == 47) (nat_le (length (b ∷ bytes)) 1023 && (nat_le (length (b ∷ bytes)) 1 || list_all is_path_name (parts_of bytes))) is in
    let first = path.0 in
    let slash : b ≡ 47 = grind (arith, nat_tests) in
    let long : nat_le (length (b ∷ bytes)) 1 ≡ false = long_enough (length bytes) more in
    let form = and_parts (nat_le (length (b ∷ bytes)) 1023) (nat_le (length (b ∷ bytes)) 1 || list_all is_path_name (parts_of bytes)) (path.1) in
    rw slash (sym (all_kept (parts_of bytes) (or_else _ _ long (form.1))))
