-- What the disks have for the bytes of a member, and the new parity of a stripe.
use Rattle.std.proofs.Common.{◌≡◌, ◌≢◌, ℕ, zero, suc, ◌+◌, ◌-◌, ◌*◌, ◌/◌, ◌%◌, ◌<◌, ◌≤◌, ◌⊎◌, inl, inr, Bool, true, false, List, [], ◌∷◌, length, get_or, refl, sym, ap, subst, ◌∙◌, arith, eq-eqb, bit_xor}
use Rattle.std.specs.Prelude.{slice_index, nat_le, nat_lt, ◌&&◌, ◌==◌, if◌then◌else◌}
use Rattle.std.proofs.lemmas.Bool.{cases_eq, cases_lt, cases_Bool, false≢true}
use Rattle.std.proofs.lemmas.Bool.Decides.{nat_tests}
use Rattle.std.proofs.lemmas.Nat.{mod_below, xor_comm}
use Rattle.std.specs.Int.Bits.{xor_self, xor_zero_l, xor_zero_r}
use lib.Bits.{xor_assoc}
use Rattle.dg_parity.specs.Exclusive.{xor_upto, with_at, IsXored}
use Rattle.dg_parity.specs.Stripes.{parity_of, stripe_of}
use Rattle.dg_parity.specs.Runs.{byte_in, byte_on, data_on, laid, mixed, over, stripe_at, term_of, ChangesPage, GathersRow, IsPatched, IsSpan, IsWindow, Overlays}
use Rattle.dg_parity.specs.declared.windows.Window.{Window}
use Rattle.dg_parity.proofs.RowLemmas.{chunk-before, chunk-behind}
use Rattle.dg_parity.proofs.ExclusiveLemmas.{xor-same, xor-with, with-same, with-other}

eqb-not : (i a : ℕ) → i ≢ a → (i == a) ≡ false
eqb-not i a ne = grind (arith, nat_tests)

pub past-end : (xs : List ℕ) (b : ℕ) → length xs ≤ b → get_or xs b 0 ≡ 0
past-end [] b le = refl
past-end (x ∷ xs) zero le = absurd (omega (arith, le))
past-end (x ∷ xs) (suc b) le = past-end xs b (omega (arith, le))

-- ---- what stands where

pub laid-data : (n : ℕ) (bytes : List ℕ) (j x : ℕ) → j ≢ parity_of n (stripe_at x) → laid n bytes j x ≡ data_on n bytes j x
laid-data n bytes j x ne = ap (λ (b : Bool). if b then xor_upto (with_at (λ i. data_on n bytes i x) j 0) n else data_on n bytes j x) (eqb-not j (parity_of n (stripe_at x)) ne)

pub laid-parity : (n : ℕ) (bytes : List ℕ) (j x : ℕ) → j ≡ parity_of n (stripe_at x) → laid n bytes j x ≡ xor_upto (with_at (λ i. data_on n bytes i x) j 0) n
laid-parity n bytes j x e = ap (λ (b : Bool). if b then xor_upto (with_at (λ i. data_on n bytes i x) j 0) n else data_on n bytes j x) (eq-eqb j (parity_of n (stripe_at x)) e)

pub stripe-is : (t r : ℕ) → r < 512 → stripe_at (512 + 512 * t + r) ≡ t
stripe-is t r lt = omega arith

pub byte-is : (n t j r : ℕ) → r < 512 → byte_on n j (512 + 512 * t + r) ≡ byte_in n t j r
byte-is n t j r lt = ap (λ (s : ℕ). byte_in n s j ((512 + 512 * t + r) % 512)) (stripe-is t r lt) ∙ ap (byte_in n t j) (omega arith)

pub laid-in : (n : ℕ) (bytes : List ℕ) (t j r : ℕ) → r < 512 → j ≢ parity_of n t → laid n bytes j (512 + 512 * t + r) ≡ slice_index bytes (byte_in n t j r)
laid-in n bytes t j r lt ne =
    laid-data n bytes j (512 + 512 * t + r) (λ e. ne (e ∙ ap (parity_of n) (stripe-is t r lt))) ∙ ap (slice_index bytes) (byte-is n t j r lt)

xor-both : (f g : ℕ → ℕ) (n : ℕ) → xor_upto (λ i. bit_xor (f i) (g i)) n ≡ bit_xor (xor_upto f n) (xor_upto g n)
xor-both f g zero = sym (xor_zero_l 0)
xor-both f g (suc n) =
    ap (λ (k : ℕ). bit_xor k (bit_xor (f n) (g n))) (xor-both f g n)
    ∙ xor_assoc (xor_upto f n) (xor_upto g n) (bit_xor (f n) (g n))
    ∙ ap (bit_xor (xor_upto f n)) (sym (xor_assoc (xor_upto g n) (f n) (g n)) ∙ ap (λ (k : ℕ). bit_xor k (g n)) (xor_comm (xor_upto g n) (f n)) ∙ xor_assoc (f n) (xor_upto g n) (g n))
    ∙ sym (xor_assoc (xor_upto f n) (f n) (bit_xor (xor_upto g n) (g n)))

-- a number in place of the one that all the others together are makes all of them zero
xor-filled : (f : ℕ → ℕ) (p n : ℕ) → p < n → xor_upto (with_at f p (xor_upto (with_at f p 0) n)) n ≡ 0
xor-filled f p n lt =
    let v = xor_upto (with_at f p 0) n in
    xor-same (with_at f p v) (with_at (with_at f p 0) p v) n (λ i low. again i)
    ∙ xor-with (with_at f p 0) p v n lt
    ∙ ap (λ (k : ℕ). bit_xor v (bit_xor k v)) (with-same f p 0)
    ∙ ap (bit_xor v) (xor_zero_l v) ∙ xor_self v
  where
    again : (i : ℕ) → with_at f p (xor_upto (with_at f p 0) n) i ≡ with_at (with_at f p 0) p (xor_upto (with_at f p 0) n) i
    again i = elim (cases_eq i p) [
      | inl e ↦
          ap (with_at f p (xor_upto (with_at f p 0) n)) e ∙ with-same f p (xor_upto (with_at f p 0) n)
          ∙ sym (ap (with_at (with_at f p 0) p (xor_upto (with_at f p 0) n)) e ∙ with-same (with_at f p 0) p (xor_upto (with_at f p 0) n))
      | inr ne ↦ with-other f p _ i ne ∙ sym (with-other f p 0 i ne) ∙ sym (with-other (with_at f p 0) p _ i ne)
    ]

laid-is : (n : ℕ) (bytes : List ℕ) (x j : ℕ)
    → laid n bytes j x ≡ with_at (λ i. data_on n bytes i x) (parity_of n (stripe_at x)) (xor_upto (with_at (λ i. data_on n bytes i x) (parity_of n (stripe_at x)) 0) n) j
laid-is n bytes x j = elim (cases_eq j (parity_of n (stripe_at x))) [
  | inl e ↦
      laid-parity n bytes j x e ∙ ap (λ (p : ℕ). xor_upto (with_at (λ i. data_on n bytes i x) p 0) n) e
      ∙ sym (ap (with_at (λ i. data_on n bytes i x) (parity_of n (stripe_at x)) (xor_upto (with_at (λ i. data_on n bytes i x) (parity_of n (stripe_at x)) 0) n)) e
      ∙ with-same (λ i. data_on n bytes i x) (parity_of n (stripe_at x)) _)
  | inr ne ↦ laid-data n bytes j x ne ∙ sym (with-other (λ i. data_on n bytes i x) (parity_of n (stripe_at x)) _ j ne)
]

-- the exclusive or over all disks is zero
pub laid-even : (n : ℕ) (bytes : List ℕ) (x : ℕ) → 0 < n → xor_upto (λ j. laid n bytes j x) n ≡ 0
laid-even n bytes x some =
    xor-same (λ j. laid n bytes j x) _ n (λ j lt. laid-is n bytes x j) ∙ xor-filled (λ i. data_on n bytes i x) (parity_of n (stripe_at x)) n (mod_below (stripe_at x) n some)

-- ---- the new parity of a stripe

-- what all disks together change it by is the new parity
pub page-made : (n t r : ℕ) (by : Bool) (bytes next : List ℕ) → 0 < n → r < 512 → xor_upto (term_of n t by bytes next r) n ≡ laid n next (parity_of n t) (512 + 512 * t + r)
page-made n t r by bytes next some lt =
    let x = 512 + 512 * t + r in
    let p = parity_of n t in
    let at : p ≡ parity_of n (stripe_at x) = ap (parity_of n) (sym (stripe-is t r lt)) in
    let plain : xor_upto (with_at (λ i. laid n next i x) p 0) n ≡ laid n next p x =
    xor-same (with_at (λ i. laid n next i x) p 0) (with_at (λ i. data_on n next i x) p 0) n (λ i low. same i)
    ∙ sym (laid-parity n next p x at) in
    elim (cases_Bool by) [
      | inr no0 ↦ subst (λ (b : Bool). xor_upto (term_of n t b bytes next r) n ≡ laid n next p x) (sym no0) plain
      | inl yes0 ↦ subst (λ (b : Bool). xor_upto (term_of n t b bytes next r) n ≡ laid n next p x) (sym yes0)
          (xor-both (λ i. laid n bytes i x) (with_at (λ i. laid n next i x) p 0) n
          ∙ ap (λ (k : ℕ). bit_xor k (xor_upto (with_at (λ i. laid n next i x) p 0) n)) (laid-even n bytes x some)
          ∙ xor_zero_l (xor_upto (with_at (λ i. laid n next i x) p 0) n) ∙ plain)
    ] where
      same : (i : ℕ) → with_at (λ i. laid n next i (512 + 512 * t + r)) (parity_of n t) 0 i ≡ with_at (λ i. data_on n next i (512 + 512 * t + r)) (parity_of n t) 0 i
      same i = elim (cases_eq i (parity_of n t)) [
        | inl e ↦
            ap (with_at (λ i. laid n next i (512 + 512 * t + r)) (parity_of n t) 0) e ∙ with-same (λ i. laid n next i (512 + 512 * t + r)) (parity_of n t) 0
            ∙ sym (ap (with_at (λ i. data_on n next i (512 + 512 * t + r)) (parity_of n t) 0) e ∙ with-same (λ i. data_on n next i (512 + 512 * t + r)) (parity_of n t) 0)
        | inr ne ↦
            with-other (λ i. laid n next i (512 + 512 * t + r)) (parity_of n t) 0 i ne
            ∙ laid-data n next i (512 + 512 * t + r) (λ e. ne (e ∙ ap (parity_of n) (stripe-is t r lt)))
            ∙ sym (with-other (λ i. data_on n next i (512 + 512 * t + r)) (parity_of n t) 0 i ne)
      ]

-- ---- a piece over a chunk

pub over-inside : (n t j at r : ℕ) (piece chunk : List ℕ) → at ≤ byte_in n t j r → byte_in n t j r < at + length piece → over n t j at piece chunk r ≡ slice_index piece (byte_in n t j r - at)
over-inside n t j at r piece chunk low high =
    let in1 : (nat_le at (byte_in n t j r) && nat_lt (byte_in n t j r) (at + length piece)) ≡ true = grind (arith, nat_tests) in
    ap (λ (b : Bool). if b then slice_index piece (byte_in n t j r - at) else slice_index chunk r) in1

pub over-before : (n t j at r : ℕ) (piece chunk : List ℕ) → byte_in n t j r < at → over n t j at piece chunk r ≡ slice_index chunk r
over-before n t j at r piece chunk low =
    let in0 : (nat_le at (byte_in n t j r) && nat_lt (byte_in n t j r) (at + length piece)) ≡ false = grind (arith, nat_tests) in
    ap (λ (b : Bool). if b then slice_index piece (byte_in n t j r - at) else slice_index chunk r) in0

pub over-behind : (n t j at r : ℕ) (piece chunk : List ℕ) → at + length piece ≤ byte_in n t j r → over n t j at piece chunk r ≡ slice_index chunk r
over-behind n t j at r piece chunk high =
    let in0 : (nat_le at (byte_in n t j r) && nat_lt (byte_in n t j r) (at + length piece)) ≡ false = grind (arith, nat_tests) in
    ap (λ (b : Bool). if b then slice_index piece (byte_in n t j r - at) else slice_index chunk r) in0

pub data Where (n t j at r size : ℕ) : Type 0 where
  Before : byte_in n t j r < at → Where n t j at r size
  Inside : at ≤ byte_in n t j r → byte_in n t j r < at + size → Where n t j at r size
  Behind : at + size ≤ byte_in n t j r → Where n t j at r size

pub where_is : (n t j at r size : ℕ) → Where n t j at r size
where_is n t j at r size = elim (cases_lt (byte_in n t j r) at) [
  | inl lt ↦ Before lt
  | inr le ↦ elim (cases_lt (byte_in n t j r) (at + size)) [ inl lt ↦ Inside le lt | inr past ↦ Behind past ]
]

pub over-is : (n t j at r : ℕ) (piece old new : List ℕ) → Overlays n j t 0 at piece old new → r < 512 → slice_index new r ≡ over n t j at piece old r
over-is n t j at r piece old new h lt =
    let zero-r : 512 * 0 + r ≡ r = omega arith in
    elim (where_is n t j at r (length piece)) [
      | Before low ↦ ap (slice_index new) (sym zero-r) ∙ h.low r lt low ∙ ap (slice_index old) zero-r ∙ sym (over-before n t j at r piece old low)
      | Behind high ↦ ap (slice_index new) (sym zero-r) ∙ h.high r lt high ∙ ap (slice_index old) zero-r ∙ sym (over-behind n t j at r piece old high)
      | Inside low high ↦ ap (slice_index new) (sym zero-r) ∙ h.own r lt low high ∙ sym (over-inside n t j at r piece old low high)
    ]

-- an old chunk with the piece over it is the new one
pub over-laid : (n t j at r : ℕ) (piece chunk bytes next : List ℕ) → IsPatched at piece bytes next → r < 512 → j ≢ parity_of n t
    → slice_index chunk r ≡ laid n bytes j (512 + 512 * t + r) → over n t j at piece chunk r ≡ laid n next j (512 + 512 * t + r)
over-laid n t j at r piece chunk bytes next h lt ne old = elim (where_is n t j at r (length piece)) [
  | Before low ↦ over-before n t j at r piece chunk low ∙ old ∙ laid-in n bytes t j r lt ne ∙ sym (h.before (byte_in n t j r) low) ∙ sym (laid-in n next t j r lt ne)
  | Behind high ↦ over-behind n t j at r piece chunk high ∙ old ∙ laid-in n bytes t j r lt ne ∙ sym (h.behind (byte_in n t j r) high) ∙ sym (laid-in n next t j r lt ne)
  | Inside low high ↦ over-inside n t j at r piece chunk low high ∙ sym (h.inside (byte_in n t j r) low high) ∙ sym (laid-in n next t j r lt ne)
]

-- ---- how a parity is changed

pub changes-idle : (n j t : ℕ) (by : Bool) (at : ℕ) (piece chunk old : List ℕ) → j ≡ parity_of n t → by ≡ false → ChangesPage n j t by at piece chunk old old
changes-idle n j t by at piece chunk old is plain = record {
  parity = λ r lt e. sym (ap (λ (b : Bool). if b then bit_xor (slice_index old r) (slice_index chunk r) else slice_index old r) plain);
  own = λ r lt ne. absurd (ne is);
}

pub changes-parity : (n j t : ℕ) (by : Bool) (at : ℕ) (piece chunk old new : List ℕ) → j ≡ parity_of n t → by ≡ true → length old ≡ 512 → IsXored old chunk new
    → ChangesPage n j t by at piece chunk old new
changes-parity n j t by at piece chunk old new is change size x = record {
  parity = λ r lt e. x r (omega arith) ∙ sym (ap (λ (b : Bool). if b then bit_xor (slice_index old r) (slice_index chunk r) else slice_index old r) change);
  own = λ r lt ne. absurd (ne is);
}

pub changes-plain : (n j t : ℕ) (by : Bool) (at : ℕ) (piece chunk laid1 old new : List ℕ) → j ≢ parity_of n t → by ≡ false → length old ≡ 512
    → Overlays n j t 0 at piece chunk laid1 → IsXored old laid1 new → ChangesPage n j t by at piece chunk old new
changes-plain n j t by at piece chunk laid1 old new ne plain size o x = record {
  parity = λ r lt is. absurd (ne is);
  own = λ r lt e.
      x r (omega arith) ∙ ap (bit_xor (slice_index old r)) (over-is n t j at r piece chunk laid1 o lt)
      ∙ sym (ap (λ (b : Bool). bit_xor (if b then bit_xor (slice_index old r) (slice_index chunk r) else slice_index old r) (over n t j at piece chunk r)) plain);
}

pub changes-both : (n j t : ℕ) (by : Bool) (at : ℕ) (piece chunk laid1 old mid new : List ℕ) → j ≢ parity_of n t → by ≡ true → length old ≡ 512 → length mid ≡ 512
    → IsXored old chunk mid → Overlays n j t 0 at piece chunk laid1 → IsXored mid laid1 new → ChangesPage n j t by at piece chunk old new
changes-both n j t by at piece chunk laid1 old mid new ne change size size2 x o y = record {
  parity = λ r lt is. absurd (ne is);
  own = λ r lt e.
      y r (omega arith) ∙ ap (λ (k : ℕ). bit_xor k (slice_index laid1 r)) (x r (omega arith))
      ∙ ap (bit_xor (bit_xor (slice_index old r) (slice_index chunk r))) (over-is n t j at r piece chunk laid1 o lt)
      ∙ sym (ap (λ (b : Bool). bit_xor (if b then bit_xor (slice_index old r) (slice_index chunk r) else slice_index old r) (over n t j at piece chunk r)) change);
}

-- ---- by what each disk changes the new parity

term-zero : (n t r j : ℕ) (next : List ℕ) → j ≡ parity_of n t → with_at (λ i. laid n next i (512 + 512 * t + r)) (parity_of n t) 0 j ≡ 0
term-zero n t r j next e = ap (with_at (λ i. laid n next i (512 + 512 * t + r)) (parity_of n t) 0) e ∙ with-same (λ i. laid n next i (512 + 512 * t + r)) (parity_of n t) 0

term-own : (n t r j : ℕ) (next : List ℕ) → j ≢ parity_of n t → with_at (λ i. laid n next i (512 + 512 * t + r)) (parity_of n t) 0 j ≡ laid n next j (512 + 512 * t + r)
term-own n t r j next ne = with-other (λ i. laid n next i (512 + 512 * t + r)) (parity_of n t) 0 j ne

patched-same : (n j t at r : ℕ) (piece bytes next : List ℕ) → IsPatched at piece bytes next → (byte_in n t j r < at) ⊎ (at + length piece ≤ byte_in n t j r)
    → slice_index next (byte_in n t j r) ≡ slice_index bytes (byte_in n t j r)
patched-same n j t at r piece bytes next h (inl low) = h.before (byte_in n t j r) low
patched-same n j t at r piece bytes next h (inr high) = h.behind (byte_in n t j r) high

over-none : (n j t at r : ℕ) (piece chunk : List ℕ) → (byte_in n t j r < at) ⊎ (at + length piece ≤ byte_in n t j r) → over n t j at piece chunk r ≡ slice_index chunk r
over-none n j t at r piece chunk (inl low) = over-before n t j at r piece chunk low
over-none n j t at r piece chunk (inr high) = over-behind n t j at r piece chunk high

pub term-added : (by needed : Bool) (n j t at r : ℕ) (piece chunk old new bytes next : List ℕ) → ChangesPage n j t by at piece chunk old new → IsPatched at piece bytes next → r < 512
    → (j ≡ parity_of n t → needed ≡ by)
    → (by ≡ true → needed ≡ false → j ≢ parity_of n t → (byte_in n t j r < at) ⊎ (at + length piece ≤ byte_in n t j r))
    → (by ≡ false → needed ≡ false → j ≢ parity_of n t → (at ≤ byte_in n t j 0) × (byte_in n t j 0 + 512 ≤ at + length piece))
    → (needed ≡ true → slice_index chunk r ≡ laid n bytes j (512 + 512 * t + r)) → (needed ≡ false → slice_index chunk r ≡ 0)
    → slice_index new r ≡ bit_xor (slice_index old r) (term_of n t by bytes next r j)
term-added true true n j t at r piece chunk old new bytes next c h lt parity untouched covered read none = elim (cases_eq j (parity_of n t)) [
  | inl e ↦
      c.parity r lt e ∙ ap (bit_xor (slice_index old r)) (read refl ∙ sym (xor_zero_r (laid n bytes j (512 + 512 * t + r)))
      ∙ ap (bit_xor (laid n bytes j (512 + 512 * t + r))) (sym (term-zero n t r j next e)))
  | inr ne ↦
      c.own r lt ne ∙ xor_assoc (slice_index old r) (slice_index chunk r) (over n t j at piece chunk r)
      ∙ ap (bit_xor (slice_index old r)) (ap (λ (k : ℕ). bit_xor k (over n t j at piece chunk r)) (read refl)
      ∙ ap (bit_xor (laid n bytes j (512 + 512 * t + r))) (over-laid n t j at r piece chunk bytes next h lt ne (read refl) ∙ sym (term-own n t r j next ne)))
]
term-added true false n j t at r piece chunk old new bytes next c h lt parity untouched covered read none = elim (cases_eq j (parity_of n t)) [
  | inl e ↦ absurd (false≢true (parity e))
  | inr ne ↦
      let far = untouched refl refl ne in
      let zero0 : over n t j at piece chunk r ≡ 0 = over-none n j t at r piece chunk far ∙ none refl in
      let same : laid n next j (512 + 512 * t + r) ≡ laid n bytes j (512 + 512 * t + r) =
      laid-in n next t j r lt ne ∙ patched-same n j t at r piece bytes next h far ∙ sym (laid-in n bytes t j r lt ne) in
      c.own r lt ne ∙ ap (bit_xor (bit_xor (slice_index old r) (slice_index chunk r))) zero0
      ∙ xor_zero_r (bit_xor (slice_index old r) (slice_index chunk r)) ∙ ap (bit_xor (slice_index old r)) (none refl
      ∙ sym (ap (bit_xor (laid n bytes j (512 + 512 * t + r))) (term-own n t r j next ne ∙ same) ∙ xor_self (laid n bytes j (512 + 512 * t + r))))
]
term-added false true n j t at r piece chunk old new bytes next c h lt parity untouched covered read none = elim (cases_eq j (parity_of n t)) [
  | inl e ↦ absurd (false≢true (sym (parity e)))
  | inr ne ↦ c.own r lt ne ∙ ap (bit_xor (slice_index old r)) (over-laid n t j at r piece chunk bytes next h lt ne (read refl) ∙ sym (term-own n t r j next ne))
]
term-added false false n j t at r piece chunk old new bytes next c h lt parity untouched covered read none = elim (cases_eq j (parity_of n t)) [
  | inl e ↦ c.parity r lt e ∙ sym (ap (bit_xor (slice_index old r)) (term-zero n t r j next e) ∙ xor_zero_r (slice_index old r))
  | inr ne ↦
      let all = covered refl refl ne in
      let low : at ≤ byte_in n t j r = omega (arith, all.0) in
      let high : byte_in n t j r < at + length piece = omega (arith, all.1) in
      c.own r lt ne ∙ ap (bit_xor (slice_index old r)) (over-inside n t j at r piece chunk low high ∙ sym (h.inside (byte_in n t j r) low high)
      ∙ sym (laid-in n next t j r lt ne) ∙ sym (term-own n t r j next ne))
]

-- ---- rows

-- disk j has the same where no byte of the stripe changes
pub laid-same : (n : ℕ) (bytes next : List ℕ) (t j r : ℕ) → r < 512
    → ((i : ℕ) → i < n → i ≢ parity_of n t → slice_index next (byte_in n t i r) ≡ slice_index bytes (byte_in n t i r)) → j < n
    → laid n bytes j (512 + 512 * t + r) ≡ laid n next j (512 + 512 * t + r)
laid-same n bytes next t j r lt same low = elim (cases_eq j (parity_of n t)) [
  | inr ne ↦ laid-in n bytes t j r lt ne ∙ sym (same j low ne) ∙ sym (laid-in n next t j r lt ne)
  | inl e ↦
      let at : j ≡ parity_of n (stripe_at (512 + 512 * t + r)) = e ∙ ap (parity_of n) (sym (stripe-is t r lt)) in
      laid-parity n bytes j (512 + 512 * t + r) at
      ∙ xor-same (with_at (λ i. data_on n bytes i (512 + 512 * t + r)) j 0) (with_at (λ i. data_on n next i (512 + 512 * t + r)) j 0) n (λ i below. one i below e)
      ∙ sym (laid-parity n next j (512 + 512 * t + r) at)
] where
  one : (i : ℕ) → i < n → j ≡ parity_of n t → with_at (λ i. data_on n bytes i (512 + 512 * t + r)) j 0 i ≡ with_at (λ i. data_on n next i (512 + 512 * t + r)) j 0 i
  one i below e = elim (cases_eq i j) [
    | inl is ↦
        ap (with_at (λ i. data_on n bytes i (512 + 512 * t + r)) j 0) is ∙ with-same (λ i. data_on n bytes i (512 + 512 * t + r)) j 0
        ∙ sym (ap (with_at (λ i. data_on n next i (512 + 512 * t + r)) j 0) is ∙ with-same (λ i. data_on n next i (512 + 512 * t + r)) j 0)
    | inr ne ↦
        with-other (λ i. data_on n bytes i (512 + 512 * t + r)) j 0 i ne
        ∙ ap (slice_index bytes) (byte-is n t i r lt) ∙ sym (same i below (λ is. ne (is ∙ sym e))) ∙ ap (slice_index next) (sym (byte-is n t i r lt))
        ∙ sym (with-other (λ i. data_on n next i (512 + 512 * t + r)) j 0 i ne)
  ]

place-split : (x first : ℕ) → 512 + 512 * first ≤ x → x ≡ 512 + 512 * (first + (x - (512 + 512 * first)) / 512) + (x - (512 + 512 * first)) % 512
place-split x first le = omega arith

-- what is written of a row is what the disk has for the next bytes
pub row-inside : (n j at x : ℕ) (window : Window) (low high : ℕ) (piece parities row bytes next : List ℕ) → IsPatched at piece bytes next → IsSpan n j at (length piece) window low high
    → GathersRow n j window.first at piece parities row window.count
    → ((q r : ℕ) → q < window.count → r < 512 → j ≡ parity_of n (window.first + q) → slice_index parities (512 * q + r) ≡ laid n next j (512 + 512 * (window.first + q) + r))
    → 512 + 512 * window.first + low ≤ x → x < 512 + 512 * window.first + high
    → slice_index row (x - (512 + 512 * window.first)) ≡ laid n next j x
row-inside n j at x window low high piece parities row bytes next h span g pages above below =
    let y = x - (512 + 512 * window.first) in
    let q = y / 512 in
    let r = y % 512 in
    let small : r < 512 = omega arith in
    let within : q < window.count = omega (arith, span.fits, below) in
    let is : x ≡ 512 + 512 * (window.first + q) + r = place-split x window.first (omega arith) in
    let split : y ≡ 512 * q + r = omega arith in
    ap (slice_index row) split ∙ elim (cases_eq j (parity_of n (window.first + q))) [
      | inl e ↦ g.parity q r within small e ∙ pages q r within small e ∙ ap (laid n next j) (sym is)
      | inr ne ↦
          let both = span.inside q r within small (omega (arith, split)) (omega (arith, split)) ne in
          g.own q r within small ne both.0 both.1 ∙ sym (h.inside (byte_in n (window.first + q) j r) both.0 both.1)
          ∙ sym (laid-in n next (window.first + q) j r small ne) ∙ ap (laid n next j) (sym is)
    ]

-- and what isn't written doesn't change
pub row-outside : (n j at x : ℕ) (window : Window) (low high : ℕ) (piece bytes next : List ℕ) → 3 ≤ n → j < n → 0 < length piece → IsWindow n at (length piece) window
    → IsPatched at piece bytes next → IsSpan n j at (length piece) window low high → 512 ≤ x
    → (x < 512 + 512 * window.first + low) ⊎ (512 + 512 * window.first + high ≤ x)
    → laid n bytes j x ≡ laid n next j x
row-outside n j at x window low high piece bytes next least lt some w h span behind outside = elim (cases_lt x (512 + 512 * window.first)) [
  | inl early ↦ far-before early
  | inr late ↦ elim (cases_lt x (512 + 512 * (window.first + window.count))) [
    | inr past ↦ far-behind past
    | inl within ↦ near late within
  ]
] where
  t : ℕ
  t = (x - 512) / 512

  r : ℕ
  r = (x - 512) % 512

  small : r < 512
  small = omega arith

  is : x ≡ 512 + 512 * t + r
  is = omega (arith, behind)

  far-before : x < 512 + 512 * window.first → laid n bytes j x ≡ laid n next j x
  far-before early =
      let low0 : t < stripe_of n (at / 512) = omega (arith, w.first, early, is) in
      ap (laid n bytes j) is
      ∙ laid-same n bytes next t j r small (λ i below other. h.before (byte_in n t i r) (omega (arith, small, chunk-before n i t at least below other low0))) lt
      ∙ ap (laid n next j) (sym is)

  far-behind : 512 + 512 * (window.first + window.count) ≤ x → laid n bytes j x ≡ laid n next j x
  far-behind past =
      let high0 : stripe_of n ((at + (length piece - 1)) / 512) < t = omega (arith, w.last, past, is, small) in
      ap (laid n bytes j) is
      ∙ laid-same n bytes next t j r small (λ i below other. h.behind (byte_in n t i r) (omega (arith, some, chunk-behind n i t (at + (length piece - 1)) least below other high0))) lt
      ∙ ap (laid n next j) (sym is)

  same-at : (q s : ℕ) → s < 512 → x ≡ 512 + 512 * (window.first + q) + s → (j ≢ parity_of n (window.first + q))
      → (byte_in n (window.first + q) j s < at) ⊎ (at + length piece ≤ byte_in n (window.first + q) j s) → laid n bytes j x ≡ laid n next j x
  same-at q s below e ne out =
      ap (laid n bytes j) e ∙ laid-in n bytes (window.first + q) j s below ne ∙ sym (patched-same n j (window.first + q) at s piece bytes next h out)
      ∙ sym (laid-in n next (window.first + q) j s below ne) ∙ ap (laid n next j) (sym e)

  near : 512 + 512 * window.first ≤ x → x < 512 + 512 * (window.first + window.count) → laid n bytes j x ≡ laid n next j x
  near late within =
      let q = (x - (512 + 512 * window.first)) / 512 in
      let s = (x - (512 + 512 * window.first)) % 512 in
      let e : x ≡ 512 + 512 * (window.first + q) + s = place-split x window.first late in
      let below : s < 512 = omega arith in
      let count : q < window.count = omega (arith, within, late) in
      elim outside [
        | inl before ↦ let out = span.before q s count below (omega (arith, before, e)) in same-at q s below e out.0 (inl out.1)
        | inr after ↦ let out = span.behind q s count below (omega (arith, after, e)) in same-at q s below e out.0 (inr out.1)
      ]

-- ---- the disks one after the other

pub mixed-other : (n : ℕ) (bytes next : List ℕ) (j i x : ℕ) → i ≢ j → mixed n bytes next j i x ≡ mixed n bytes next (j + 1) i x
mixed-other n bytes next j i x ne =
    let same : nat_lt i j ≡ nat_lt i (j + 1) = grind (arith, nat_tests) in
    ap (λ (b : Bool). if b then laid n next i x else laid n bytes i x) same

pub mixed-before : (n : ℕ) (bytes next : List ℕ) (j x : ℕ) → mixed n bytes next j j x ≡ laid n bytes j x
mixed-before n bytes next j x =
    let no0 : nat_lt j j ≡ false = grind (arith, nat_tests) in
    ap (λ (b : Bool). if b then laid n next j x else laid n bytes j x) no0

pub mixed-after : (n : ℕ) (bytes next : List ℕ) (m j x : ℕ) → j < m → mixed n bytes next m j x ≡ laid n next j x
mixed-after n bytes next m j x lt =
    let yes0 : nat_lt j m ≡ true = grind (arith, nat_tests) in
    ap (λ (b : Bool). if b then laid n next j x else laid n bytes j x) yes0

pub mixed-none : (n : ℕ) (bytes next : List ℕ) (j x : ℕ) → mixed n bytes next 0 j x ≡ laid n bytes j x
mixed-none n bytes next j x =
    let no0 : nat_lt j 0 ≡ false = grind (arith, nat_tests) in
    ap (λ (b : Bool). if b then laid n next j x else laid n bytes j x) no0
