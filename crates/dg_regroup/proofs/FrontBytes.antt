-- What a call does to the bytes that a member shows.
use Rattle.std.proofs.Common.{◌≡◌, ◌∙◌, ◌+◌, ◌-◌, ◌≤◌, ◌<◌, ◌⊎◌, inl, inr, nat_le, ℕ, Bool, true, false, List, [], ◌∷◌, ◌++◌, Option, None, Some, Result, Ok, Err, OnOk, OnErr, IfSome, length, take, drop, slice_range, refl, sym, ap, append_assoc, subst, arith}
use Rattle.std.proofs.lemmas.Bool.{cases_lt}
use Rattle.std.proofs.lemmas.List.{length-append, length-drop, length-take, take-append-drop, take-append-le, drop-append-le, take-take, take_at, drop_at, length-take-le}
use Rattle.std.proofs.Math.Seq.{drop-nil, take-add, take-nil}
use Rattle.std.proofs.lemmas.Bool.Decides.{nat_tests}
use Rattle.dg_io.specs.Told.{OldOrNew, Patched, Reads, Told, Torn, patch}
use Rattle.dg_regroup.specs.FrontRacks.{front_of, shown}

-- a step of the whole bytes is one of those that are shown, where these may take it
pub told_shown : (cut : Bool) (n : Option ℕ) (may : List ℕ → Type 0) (step : List ℕ → List ℕ → Type 0) → ((b a : List ℕ) → may (front_of n b) → step b a → step (front_of n b) (front_of n a))
    → (old new : Option (List ℕ)) → IfSome (shown cut n old) may → Told step old new → Told step (shown cut n old) (shown cut n new)
told_shown true n may step h old None can told = tt
told_shown true n may step h None (Some a) can told = absurd told
told_shown true n may step h (Some b) (Some a) can told = h b a can told
told_shown false n may step h old new can told = told

-- ---- a range within what is shown

abbrev pub Covers : ℕ → ℕ → List ℕ → Type 0
Covers place size all = place + size ≤ length all

full : (n : ℕ) (all : List ℕ) → n ≤ length all → front_of (Some n) all ≡ take n all
full n all long = let test : nat_le n (length all) ≡ true = grind (arith, nat_tests, long) in rw test refl

short : (n : ℕ) (all : List ℕ) → length all < n → front_of (Some n) all ≡ []
short n all few = let test : nat_le n (length all) ≡ false = grind (arith, nat_tests, few) in rw test refl

-- some bytes have so many, or fewer
by_length : (n : ℕ) (all : List ℕ) → (n ≤ length all) ⊎ (length all < n)
by_length n all = elim (cases_lt (length all) n) [ inl few ↦ inr few | inr long ↦ inl long ]

pub covered : (cut : Bool) (n : Option ℕ) (place size : ℕ) (bytes : Option (List ℕ)) → IfSome (shown cut n bytes) (Covers place size) → IfSome bytes (Covers place size)
covered true n place size None covers = tt
covered true None place size (Some all) covers = omega (arith, covers)
covered true (Some n) place size (Some all) covers = elim (by_length n all) [
  | inl long ↦
      let h : place + size ≤ length (take n all) = subst (λ (xs : List ℕ). place + size ≤ length xs) (full n all long) covers in
      omega (arith, h, length-take n all)
  | inr few ↦
      let h : place + size ≤ 0 = subst (λ (xs : List ℕ). place + size ≤ length xs) (short n all few) covers in
      omega (arith, h)
]
covered false n place size bytes covers = covers

no_bytes : (xs : List ℕ) → length xs ≡ 0 → xs ≡ []
no_bytes [] is = refl
no_bytes (x ∷ xs) is = absurd (omega (arith, is))

-- the rest of the first bytes
rest_of_front : (p n : ℕ) (all : List ℕ) → p ≤ n → n ≤ length all → drop p (take n all) ≡ take (n - p) (drop p all)
rest_of_front p n all low long =
    let parts : p + (n - p) ≡ n = omega (arith, low) in
    let e : take n all ≡ take p all ++ take (n - p) (drop p all) = ap (λ (m : ℕ). take m all) (sym parts) ∙ take-add p (n - p) all in
    let size : length (take p all) ≡ p = length-take-le p all (omega (arith, low, long)) in
    ap (drop p) e ∙ drop_at (take p all) (take (n - p) (drop p all)) p size

-- nothing is read of no bytes, and nothing written
none_read : (place : ℕ) (piece : List ℕ) → place + length piece ≤ 0 → piece ≡ slice_range [] place (place + length piece)
none_read place piece covers =
    no_bytes piece (omega (arith, covers)) ∙ sym (take-nil (place + length piece - place)) ∙ ap (take (place + length piece - place)) (sym (drop-nil place))

none_torn : (place size : ℕ) → place + size ≤ 0 → Torn place size [] []
none_torn place size covers = record { size = refl; front = refl; back = refl }

reads_front : (n place : ℕ) (piece before after : List ℕ) → Covers place (length piece) (front_of (Some n) before) → Reads place piece before after
    → Reads place piece (front_of (Some n) before) (front_of (Some n) after)
reads_front n place piece before after covers reads = record { same = ap (front_of (Some n)) reads.same; there = elim (by_length n before) [ inl long ↦ far long | inr few ↦ near few ] } where
  far : n ≤ length before → piece ≡ slice_range (front_of (Some n) before) place (place + length piece)
  far long =
      let inside : place + length piece ≤ n = (let h : place + length piece ≤ length (take n before) = subst (λ (xs : List ℕ). place + length piece ≤ length xs) (full n before long) covers in omega (arith, h, length-take n before)) in
      reads.there
      ∙ sym (take-take (place + length piece - place) (n - place) (drop place before) (omega (arith, inside)))
      ∙ ap (take (place + length piece - place)) (sym (rest_of_front place n before (omega (arith, inside)) long))
      ∙ ap (λ (xs : List ℕ). slice_range xs place (place + length piece)) (sym (full n before long))

  near : length before < n → piece ≡ slice_range (front_of (Some n) before) place (place + length piece)
  near few =
      let h : place + length piece ≤ 0 = subst (λ (xs : List ℕ). place + length piece ≤ length xs) (short n before few) covers in
      none_read place piece h ∙ ap (λ (xs : List ℕ). slice_range xs place (place + length piece)) (sym (short n before few))

pub reads_shown : (n : Option ℕ) (place : ℕ) (piece before after : List ℕ) → Covers place (length piece) (front_of n before) → Reads place piece before after
    → Reads place piece (front_of n before) (front_of n after)
reads_shown None place piece before after covers reads = record { same = refl; there = none_read place piece covers }
reads_shown (Some n) place piece before after covers reads = reads_front n place piece before after covers reads

-- a patch within the first bytes
patch_front : (n place : ℕ) (piece all : List ℕ) → place + length piece ≤ n → n ≤ length all → patch all place piece ≡ patch (take n all) place piece ++ drop n all
patch_front n place piece all inside long =
    let size : length (take n all) ≡ n = length-take-le n all long in
    let parts : all ≡ take n all ++ drop n all = sym (take-append-drop n all) in
    ap (λ (xs : List ℕ). patch xs place piece) parts
    ∙ ap (λ (xs : List ℕ). xs ++ piece ++ drop (place + length piece) (take n all ++ drop n all)) (take-append-le place (take n all) (drop n all) (omega (arith, inside, size)))
    ∙ ap (λ (xs : List ℕ). take place (take n all) ++ piece ++ xs) (drop-append-le (place + length piece) (take n all) (drop n all) (omega (arith, inside, size)))
    ∙ sym (append_assoc (take place (take n all) ++ piece) (drop (place + length piece) (take n all)) (drop n all))

patch_length : (place : ℕ) (piece all : List ℕ) → place + length piece ≤ length all → length (patch all place piece) ≡ length all
patch_length place piece all inside =
    omega (arith, inside, length-append (take place all ++ piece) (drop (place + length piece) all), length-append (take place all) piece, length-take place all, length-drop (place + length piece) all)

patched_front : (n place : ℕ) (piece before after : List ℕ) → Covers place (length piece) (front_of (Some n) before) → Patched place piece before after
    → Patched place piece (front_of (Some n) before) (front_of (Some n) after)
patched_front n place piece before after covers patched = elim (by_length n before) [ inl long ↦ far long | inr few ↦ near few ] where
  far : n ≤ length before → front_of (Some n) after ≡ patch (front_of (Some n) before) place piece
  far long =
      let size : length (take n before) ≡ n = length-take-le n before long in
      let inside : place + length piece ≤ n = (let h : place + length piece ≤ length (take n before) = subst (λ (xs : List ℕ). place + length piece ≤ length xs) (full n before long) covers in omega (arith, h, size)) in
      let whole : length (patch (take n before) place piece) ≡ n = patch_length place piece (take n before) (omega (arith, inside, size)) ∙ size in
      let long_after : n ≤ length after = subst (λ (xs : List ℕ). n ≤ length xs) (sym patched) (omega (arith, long, inside, patch_length place piece before (omega (arith, long, inside)))) in
      full n after long_after
      ∙ ap (take n) (patched ∙ patch_front n place piece before inside long)
      ∙ take_at (patch (take n before) place piece) (drop n before) n whole
      ∙ ap (λ (xs : List ℕ). patch xs place piece) (sym (full n before long))

  near : length before < n → front_of (Some n) after ≡ patch (front_of (Some n) before) place piece
  near few =
      let h : place + length piece ≤ 0 = subst (λ (xs : List ℕ). place + length piece ≤ length xs) (short n before few) covers in
      let none : piece ≡ [] = no_bytes piece (omega (arith, h)) in
      let same : length after ≡ length before = ap length patched ∙ patch_length place piece before (omega (arith, h)) in
      short n after (omega (arith, same, few))
      ∙ sym (no_bytes (patch (front_of (Some n) before) place piece)
      (patch_length place piece (front_of (Some n) before) covers ∙ ap length (short n before few)))

pub patched_shown : (n : Option ℕ) (place : ℕ) (piece before after : List ℕ) → Covers place (length piece) (front_of n before) → Patched place piece before after
    → Patched place piece (front_of n before) (front_of n after)
patched_shown None place piece before after covers patched = sym (no_bytes (patch [] place piece) (patch_length place piece [] covers))
patched_shown (Some n) place piece before after covers patched = patched_front n place piece before after covers patched

torn_front : (n place size : ℕ) (before after : List ℕ) → Covers place size (front_of (Some n) before) → Torn place size before after → Torn place size (front_of (Some n) before) (front_of (Some n) after)
torn_front n place size before after covers torn = elim (by_length n before) [ inl long ↦ far long | inr few ↦ near few ] where
  far : n ≤ length before → Torn place size (front_of (Some n) before) (front_of (Some n) after)
  far long =
      let inside : place + size ≤ n = (let h : place + size ≤ length (take n before) = subst (λ (xs : List ℕ). place + size ≤ length xs) (full n before long) covers in omega (arith, h, length-take n before)) in
      let long_after : n ≤ length after = omega (arith, long, torn.size) in
      let parts : Torn place size (take n before) (take n after) = record {
        size = length-take-le n after long_after ∙ sym (length-take-le n before long);
        front = take-take place n after (omega (arith, inside)) ∙ torn.front ∙ sym (take-take place n before (omega (arith, inside)));
        back = rest_of_front (place + size) n after inside long_after ∙ ap (take (n - (place + size))) torn.back ∙ sym (rest_of_front (place + size) n before inside long);
      } in
      subst (λ (xs : List ℕ). Torn place size xs (front_of (Some n) after)) (sym (full n before long))
      (subst (λ (xs : List ℕ). Torn place size (take n before) xs) (sym (full n after long_after)) parts)

  near : length before < n → Torn place size (front_of (Some n) before) (front_of (Some n) after)
  near few =
      let h : place + size ≤ 0 = subst (λ (xs : List ℕ). place + size ≤ length xs) (short n before few) covers in
      subst (λ (xs : List ℕ). Torn place size xs (front_of (Some n) after)) (sym (short n before few))
      (subst (λ (xs : List ℕ). Torn place size [] xs) (sym (short n after (omega (arith, few, torn.size)))) (none_torn place size h))

pub torn_shown : (n : Option ℕ) (place size : ℕ) (before after : List ℕ) → Covers place size (front_of n before) → Torn place size before after
    → Torn place size (front_of n before) (front_of n after)
torn_shown None place size before after covers torn = none_torn place size covers
torn_shown (Some n) place size before after covers torn = torn_front n place size before after covers torn

pub old_or_new_shown : (n : Option ℕ) (place : ℕ) (piece before after : List ℕ) → Covers place (length piece) (front_of n before) → OldOrNew place piece before after
    → OldOrNew place piece (front_of n before) (front_of n after)
old_or_new_shown n place piece before after covers (inl same) = inl (ap (front_of n) same)
old_or_new_shown n place piece before after covers (inr patched) = inr (patched_shown n place piece before after covers patched)

-- ---- answers

pub ok_more : {T E : Type 0} (P Q : Type 0) (result : Result T E) → (P → Q) → OnOk result P → OnOk result Q
ok_more P Q (Ok value) h on = h on
ok_more P Q (Err fault) h on = on

pub err_more : {T E : Type 0} (P Q : Type 0) (result : Result T E) → (P → Q) → OnErr result P → OnErr result Q
err_more P Q (Ok value) h on = on
err_more P Q (Err fault) h on = h on
