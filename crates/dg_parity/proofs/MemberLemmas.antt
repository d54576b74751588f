-- The bytes of a member change as its disks change.
use Rattle.std.proofs.Common.{◌≡◌, ◌≢◌, ℕ, ◌+◌, ◌-◌, ◌%◌, ◌<◌, ◌≤◌, inl, inr, Bool, false, List, length, get_or, refl, sym, ap, ◌∙◌, arith, eq-eqb, zero-add}
use Rattle.std.specs.Prelude.{slice_index, nat_le, nat_lt, ◌==◌, if◌then◌else◌}
use Rattle.std.specs.List.{range_with_len}
use Rattle.std.proofs.lemmas.List.{ext_get_or, get_or-map, length-map}
use Rattle.std.proofs.lemmas.List.FromFn.{get_or-range_with_len, length-range_with_len}
use Rattle.std.proofs.lemmas.Bool.{cases_Bool, and_parts}
use Rattle.std.proofs.lemmas.Bool.Decides.{nat_tests}
use Rattle.dg_io.specs.Told.{patch}
use Rattle.dg_parity.specs.Stripes.{spot_of, member_by, written, next_parity, IsClear}
use Rattle.dg_parity.proofs.BytesLemmas.{is_inside, inside-true, place_is, Before, Inside, Behind, patch-inside, patch-before, patch-behind, patch-length}
use Rattle.dg_parity.proofs.StripeLemmas.{spot-along, same-spot, never-parity}

pub member-length : (n size : ℕ) (has : ℕ → ℕ → ℕ) → length (member_by n size has) ≡ size
member-length n size has = length-map (range_with_len 0 size) (λ (b : ℕ). has (spot_of n b).disk (spot_of n b).place) ∙ length-range_with_len 0 size

pub member-at : (n size b : ℕ) (has : ℕ → ℕ → ℕ) → b < size → slice_index (member_by n size has) b ≡ has (spot_of n b).disk (spot_of n b).place
member-at n size b has lt =
    let f : ℕ → ℕ = λ b. has (spot_of n b).disk (spot_of n b).place in
    let within : b < length (range_with_len 0 size) = omega (arith, length-range_with_len 0 size) in
    let is : get_or (range_with_len 0 size) b 0 ≡ b = get_or-range_with_len 0 size b 0 lt ∙ zero-add b in
    get_or-map f (range_with_len 0 size) b 0 0 within ∙ ap f is

-- two ways of having bytes that agree where the member's bytes stand
pub member-same : (n size : ℕ) (f h : ℕ → ℕ → ℕ) → ((b : ℕ) → b < size → f (spot_of n b).disk (spot_of n b).place ≡ h (spot_of n b).disk (spot_of n b).place)
    → member_by n size f ≡ member_by n size h
member-same n size f h e =
    ext_get_or 0 (member_by n size f) (member_by n size h) (member-length n size f ∙ sym (member-length n size h)) (λ b lt.
    let low : b < size = omega (arith, member-length n size f) in
    member-at n size b f low ∙ e b low ∙ sym (member-at n size b h low))

pub written-inside : (has : ℕ → ℕ → ℕ) (a p place k : ℕ) (piece : List ℕ) → k < length piece → written has a p place piece a (place + k) ≡ slice_index piece k
written-inside has a p place k piece lt =
    ap (λ (b : Bool). if b then (if a == a then slice_index piece (place + k - place) else if a == p then next_parity has a p (place + k) (slice_index piece (place + k - place)) else has a (place + k)) else has a (place + k)) (inside-true place (length piece) (place + k) (omega arith) (omega arith))
    ∙ ap (λ (b : Bool). if b then slice_index piece (place + k - place) else if a == p then next_parity has a p (place + k) (slice_index piece (place + k - place)) else has a (place + k)) (eq-eqb a a refl)
    ∙ ap (slice_index piece) (omega arith)

pub written-outside : (has : ℕ → ℕ → ℕ) (a p place i x : ℕ) (piece : List ℕ) → is_inside place (length piece) x ≡ false → written has a p place piece i x ≡ has i x
written-outside has a p place i x piece e =
    ap (λ (b : Bool). if b then (if i == a then slice_index piece (x - place) else if i == p then next_parity has a p x (slice_index piece (x - place)) else has i x) else has i x) e

eqb-not : (i a : ℕ) → i ≢ a → (i == a) ≡ false
eqb-not i a ne = grind (arith, nat_tests)

pub written-beside : (has : ℕ → ℕ → ℕ) (a p place i x : ℕ) (piece : List ℕ) → i ≢ a → i ≢ p → written has a p place piece i x ≡ has i x
written-beside has a p place i x piece na np = elim (cases_Bool (is_inside place (length piece) x)) [
  | inr in0 ↦ written-outside has a p place i x piece in0
  | inl in1 ↦
      ap (λ (b : Bool). if b then (if i == a then slice_index piece (x - place) else if i == p then next_parity has a p x (slice_index piece (x - place)) else has i x) else has i x) in1
      ∙ ap (λ (b : Bool). if b then slice_index piece (x - place) else if i == p then next_parity has a p x (slice_index piece (x - place)) else has i x) (eqb-not i a na)
      ∙ ap (λ (b : Bool). if b then next_parity has a p x (slice_index piece (x - place)) else has i x) (eqb-not i p np)
]

-- a byte that isn't one of the piece stays
pub written-other : (has : ℕ → ℕ → ℕ) (n at b : ℕ) (piece : List ℕ) → at % 512 + length piece ≤ 512 → ((k : ℕ) → k < length piece → b ≢ at + k)
    → written has (spot_of n at).disk (spot_of n at).parity (spot_of n at).place piece (spot_of n b).disk (spot_of n b).place ≡ has (spot_of n b).disk (spot_of n b).place
written-other has n at b piece fits apart = elim (cases_Bool (is_inside (spot_of n at).place (length piece) (spot_of n b).place)) [
  | inr in0 ↦ written-outside has _ _ _ _ _ piece in0
  | inl in1 ↦
      let parts = and_parts (nat_le (spot_of n at).place (spot_of n b).place) (nat_lt (spot_of n b).place ((spot_of n at).place + length piece)) in1 in
      let low : (spot_of n at).place ≤ (spot_of n b).place = grind (arith, nat_tests) in
      let high : (spot_of n b).place < (spot_of n at).place + length piece = grind (arith, nat_tests) in
      let k = (spot_of n b).place - (spot_of n at).place in
      let lt : k < length piece = omega arith in
      let along = spot-along n at k (omega arith) in
      let same : (spot_of n b).place ≡ (spot_of n (at + k)).place = omega (arith, along.place) in
      written-beside has _ _ _ _ _ piece
      (λ e. apart k lt (same-spot n b (at + k) same (e ∙ sym along.disk)))
      (λ e. never-parity n b (at + k) same (e ∙ sym along.parity))
]

-- a piece in one chunk: the member's bytes with it
pub member-written : (n size at : ℕ) (has : ℕ → ℕ → ℕ) (piece : List ℕ) → at % 512 + length piece ≤ 512 → at + length piece ≤ size
    → member_by n size (written has (spot_of n at).disk (spot_of n at).parity (spot_of n at).place piece) ≡ patch (member_by n size has) at piece
member-written n size at has piece fits within =
    let new : ℕ → ℕ → ℕ = written has (spot_of n at).disk (spot_of n at).parity (spot_of n at).place piece in
    let all : length (member_by n size has) ≡ size = member-length n size has in
    ext_get_or 0 (member_by n size new) (patch (member_by n size has) at piece)
    (member-length n size new ∙ sym (patch-length (member_by n size has) piece at (omega arith) ∙ all))
    (λ b lt0.
    let lt : b < size = omega (arith, member-length n size new) in
    member-at n size b new lt ∙ elim (place_is at (length piece) b) [
      | Before low ↦ written-other has n at b piece fits (λ k h e. absurd (omega arith)) ∙ sym (member-at n size b has lt) ∙ sym (patch-before (member_by n size has) piece at b (omega arith) low)
      | Behind high ↦ written-other has n at b piece fits (λ k h e. absurd (omega arith)) ∙ sym (member-at n size b has lt) ∙ sym (patch-behind (member_by n size has) piece at b (omega arith) high)
      | Inside low high ↦
          let k = b - at in
          let is : b ≡ at + k = omega arith in
          let along = spot-along n at k (omega arith) in
          ap (λ (c : ℕ). new (spot_of n c).disk (spot_of n c).place) is
          ∙ ap (λ (d : ℕ). new d (spot_of n (at + k)).place) along.disk
          ∙ ap (new (spot_of n at).disk) along.place
          ∙ written-inside has (spot_of n at).disk (spot_of n at).parity (spot_of n at).place k piece (omega arith)
          ∙ sym (patch-inside (member_by n size has) piece at b (omega arith) low high)
    ])

-- what is behind the last byte stays zero
pub clear-written : (n size at : ℕ) (has : ℕ → ℕ → ℕ) (piece : List ℕ) → at % 512 + length piece ≤ 512 → at + length piece ≤ size → IsClear n size has
    → IsClear n size (written has (spot_of n at).disk (spot_of n at).parity (spot_of n at).place piece)
clear-written n size at has piece fits within clear b behind range =
    written-other has n at b piece fits (λ k h e. absurd (omega (arith, within, behind, h, e))) ∙ clear b behind range
