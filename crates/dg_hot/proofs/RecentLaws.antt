-- The files that were read last, as a cache keeps them.
use Rattle.std.proofs.Common.{◌≡◌, ◌≤◌, ◌+◌, ◌-◌, ◌++◌, ◌==◌, ℕ, zero, suc, Bool, true, false, cond, not, nat_eq, List, [], ◌∷◌, length, take, refl, sym, ◌∙◌, ap, subst, arith, length-append}
use Rattle.std.specs.Prelude.{Option, Some, None, filter}
use Rattle.std.specs.List.{AllByRecursion, IsDistinct}
use Rattle.std.specs.Map.{keys_of, lookup_entry, remove_entry}
use Rattle.std.specs.Option.{option_map_or}
use Rattle.std.proofs.lemmas.Bool.Decides.{nat_tests}
use Rattle.std.proofs.lemmas.List.{take_all}
use Rattle.lru.specs.LruCache.{LruCache, put_entries}
use Rattle.dg_model.specs.Copies.{touched}
use Rattle.dg_model.proofs.NumberLists.{filter_no, filter_yes}

abbrev others : ℕ → ℕ → Bool
others i j = not (j == i)

kept_test : (i j : ℕ) → nat_eq i j ≡ false → others i j ≡ true
kept_test i j e = grind (arith, nat_tests, e)

gone_test : (i j : ℕ) → nat_eq i j ≡ true → others i j ≡ false
gone_test i j e = grind (arith, nat_tests, e)

same_number : (i j : ℕ) → nat_eq i j ≡ true → j ≡ i
same_number i j e = grind (arith, nat_tests, e)

all_kept : (i : ℕ) (ks : List ℕ) → AllByRecursion (λ j. nat_eq i j ≡ false) ks → filter (others i) ks ≡ ks
all_kept i [] apart = refl
all_kept i (k ∷ ks) apart = filter_yes (others i) k ks (kept_test i k apart.0) ∙ ap (λ (xs : List ℕ). k ∷ xs) (all_kept i ks apart.1)

length_keys : {V : Type 0} (es : List (ℕ × V)) → length (keys_of es) ≡ length es
length_keys [] = refl
length_keys (e ∷ es) = let h = length_keys es in omega (arith, h)

keys_take : {V : Type 0} (n : ℕ) (es : List (ℕ × V)) → keys_of (take n es) ≡ take n (keys_of es)
keys_take zero es = refl
keys_take (suc n) [] = refl
keys_take (suc n) (e ∷ es) = ap (λ (xs : List ℕ). e.0 ∷ xs) (keys_take n es)

module _ {V : Type 0} (i : ℕ) where
  some_none : (e : ℕ × V) → Some e ≡ None → ⊥
  some_none e h = cc h

  some_same : (e f : ℕ × V) → Some e ≡ Some f → e ≡ f
  some_same e f h = cc h

  -- no entry has the key
  none_gone : (es : List (ℕ × V)) → lookup_entry (nat_eq i) es ≡ None → filter (others i) (keys_of es) ≡ keys_of es
  none_gone [] none = refl
  none_gone (e ∷ es) none = by_test (nat_eq i e.0) refl (none_gone es)
    where
      by_test : (t : Bool) → nat_eq i e.0 ≡ t → (lookup_entry (nat_eq i) es ≡ None → filter (others i) (keys_of es) ≡ keys_of es)
          → filter (others i) (keys_of (e ∷ es)) ≡ keys_of (e ∷ es)
      by_test true h later = absurd (some_none e (sym (ap (λ (u : Bool). cond u (Some e) (lookup_entry (nat_eq i) es)) h) ∙ none))
      by_test false h later =
          filter_yes (others i) e.0 (keys_of es) (kept_test i e.0 h)
          ∙ ap (λ (xs : List ℕ). e.0 ∷ xs) (later (sym (ap (λ (u : Bool). cond u (Some e) (lookup_entry (nat_eq i) es)) h) ∙ none))

  -- one entry has it
  pub record IsGone (es : List (ℕ × V)) (e : ℕ × V) : Type 0 where
    pub key : e.0 ≡ i
    pub keys : keys_of (remove_entry (nat_eq i) es) ≡ filter (others i) (keys_of es)
    pub fewer : length (remove_entry (nat_eq i) es) + 1 ≡ length es

  head_gone : (f : ℕ × V) (es : List (ℕ × V)) (e : ℕ × V) → nat_eq i f.0 ≡ true → AllByRecursion (λ j. nat_eq f.0 j ≡ false) (keys_of es)
      → lookup_entry (nat_eq i) (f ∷ es) ≡ Some e → IsGone (f ∷ es) e
  head_gone f es e h apart found =
      let at : f.0 ≡ i = same_number i f.0 h in
      let gone : remove_entry (nat_eq i) (f ∷ es) ≡ es = ap (λ (u : Bool). cond u es (f ∷ remove_entry (nat_eq i) es)) h in
      let same : f ≡ e = some_same f e (sym (ap (λ (u : Bool). cond u (Some f) (lookup_entry (nat_eq i) es)) h) ∙ found) in
      let few = ap (λ (xs : List (ℕ × V)). length xs) gone in
      record {
        key = sym (ap (λ (x : ℕ × V). x.0) same) ∙ at;
        keys = ap (λ (xs : List (ℕ × V)). keys_of xs) gone
            ∙ sym (filter_no (others i) f.0 (keys_of es) (gone_test i f.0 h)
            ∙ all_kept i (keys_of es) (subst (λ (n : ℕ). AllByRecursion (λ j. nat_eq n j ≡ false) (keys_of es)) at apart));
        fewer = omega (arith, few);
      }

  tail_gone : (f : ℕ × V) (es : List (ℕ × V)) (e : ℕ × V) → nat_eq i f.0 ≡ false → IsGone es e → IsGone (f ∷ es) e
  tail_gone f es e h gone =
      let left : remove_entry (nat_eq i) (f ∷ es) ≡ f ∷ remove_entry (nat_eq i) es = ap (λ (u : Bool). cond u es (f ∷ remove_entry (nat_eq i) es)) h in
      let few = ap (λ (xs : List (ℕ × V)). length xs) left in
      record {
        key = gone.key;
        keys = ap (λ (xs : List (ℕ × V)). keys_of xs) left
            ∙ ap (λ (xs : List ℕ). f.0 ∷ xs) gone.keys
            ∙ sym (filter_yes (others i) f.0 (keys_of es) (kept_test i f.0 h));
        fewer = omega (arith, few, gone.fewer);
      }

  one_gone : (es : List (ℕ × V)) (e : ℕ × V) → IsDistinct nat_eq (keys_of es) → lookup_entry (nat_eq i) es ≡ Some e → IsGone es e
  unfolding IsDistinct
  one_gone [] e apart found = absurd (some_none e (sym found))
  one_gone (f ∷ es) e apart found = by_test (nat_eq i f.0) refl (one_gone es e apart.1)
    where
      by_test : (t : Bool) → nat_eq i f.0 ≡ t → (lookup_entry (nat_eq i) es ≡ Some e → IsGone es e) → IsGone (f ∷ es) e
      by_test true h later = head_gone f es e h apart.0 found
      by_test false h later = tail_gone f es e h (later (sym (ap (λ (u : Bool). cond u (Some f) (lookup_entry (nat_eq i) es)) h) ∙ found))

  module _ (cache : LruCache ℕ V) (v : V) (cap : cache.cap ≡ 16) (apart : IsDistinct nat_eq (keys_of cache.entries)) (few : length cache.entries ≤ 16) where
    by_found : (found : Option (ℕ × V)) → lookup_entry (nat_eq i) cache.entries ≡ found
        → keys_of (option_map_or (λ (e : ℕ × V). (e.0, v) ∷ remove_entry (nat_eq i) cache.entries) found ((i, v) ∷ take (cache.cap - 1) cache.entries))
        ≡ take 16 (i ∷ filter (others i) (keys_of cache.entries))
    by_found None e =
        let room : cache.cap - 1 ≡ 15 = omega (arith, cap) in
        ap (λ (xs : List ℕ). i ∷ xs)
        (ap (λ (n : ℕ). keys_of (take n cache.entries)) room ∙ keys_take 15 cache.entries ∙ sym (ap (take 15) (none_gone cache.entries e)))
    by_found (Some f) e =
        let gone = one_gone cache.entries f apart e in
        let left = remove_entry (nat_eq i) cache.entries in
        let fits : length (filter (others i) (keys_of cache.entries)) ≤ 15 =
        (let size = ap (λ (xs : List ℕ). length xs) gone.keys in let keys = length_keys left in let fewer = gone.fewer in omega (arith, size, keys, fewer, few))
        in
        ap (λ (k : ℕ). k ∷ keys_of left) gone.key
        ∙ ap (λ (xs : List ℕ). i ∷ xs) (gone.keys ∙ sym (take_all 15 (filter (others i) (keys_of cache.entries)) fits))

    -- the file is the first of the recent ones, of which 16 stay
    pub touched_is : keys_of (put_entries nat_eq cache i v) ≡ touched i (keys_of cache.entries)
    touched_is = by_found (lookup_entry (nat_eq i) cache.entries) refl

pub few_front : {V : Type 0} (es : List (ℕ × V)) (front rest : List ℕ) (cap : ℕ) → front ++ rest ≡ keys_of es → length es ≤ cap → length front ≤ cap
few_front es front rest cap same few =
    let size = ap (λ (xs : List ℕ). length xs) same in
    let keys = length_keys es in
    omega (arith, size, keys, few, length-append front rest)
