-- Writes that touch nothing that a header names.
use Rattle.std.proofs.Common.{◌≡◌, ◌≢◌, ◌≤◌, ◌<◌, ◌+◌, ◌*◌, ◌/◌, ◌%◌, ◌⊎◌, ℕ, Bool, true, false, List, refl, sym, ◌∙◌, ap, arith, inl, inr}
use Rattle.std.specs.Prelude.{slice_index, ◌==◌, if◌then◌else◌}
use Rattle.std.specs.Int.{bit_at}
use Rattle.dg_io.specs.Told.{Torn}
use Rattle.dg_stop.proofs.Ranges.{same_slice, seen_same, torn_at}
use Rattle.dg_stop.specs.Headers.{Header, HasHeader, IsHeader, entry_of, extra_of, header_table}
use Rattle.dg_stop.specs.Layouts.{bits_of, table_size, header_place, table_place, spot, names_second, page_place}
use Rattle.dg_stop.specs.Changes.{Avoids}

outside : (place n from to i : ℕ) → (place + n ≤ from) ⊎ (to ≤ place) → from ≤ i → i < to → (i < place) ⊎ (place + n ≤ i)
outside place n from to i (inl low) above below = inr (omega (arith, low, above))
outside place n from to i (inr high) above below = inl (omega (arith, high, below))

-- ---- numbers

pub within_bits : (o size : ℕ) → o < size → o / 512 / 8 < bits_of size
within_bits o size low = omega (arith, low)

pub bits_fit : (size room : ℕ) → bits_of size + room ≤ table_size size room
bits_fit size room = omega arith

pub half : (c : ℕ) → (c % 2 ≡ 0) ⊎ (c % 2 ≡ 1)
half c = grind arith

-- ---- a header beside the range

pub keeps_header : (q : ℕ) (h : Header) (place n : ℕ) (before after : List ℕ) → Torn place n before after
    → (place + n ≤ header_place h.sequence) ⊎ (header_place h.sequence + 512 ≤ place) → HasHeader q before h → HasHeader q after h
keeps_header q h place n before after torn beside has = record {
  is = has.is;
  own = has.own;
  bytes = same_slice after before (header_place h.sequence) (header_place h.sequence + 512) torn.size
      (λ i above below. torn_at place n before after torn i (outside place n (header_place h.sequence) (header_place h.sequence + 512) i beside above below))
      ∙ has.bytes;
  long = torn.size ∙ has.long;
}

-- ---- what its table names

pub keeps_names : (h : Header) (place n : ℕ) (before after : List ℕ) → Torn place n before after
    → (place + n ≤ table_place (header_table h) h.sequence) ⊎ (table_place (header_table h) h.sequence + header_table h ≤ place)
    → (o : ℕ) → o < h.size → names_second after (table_place (header_table h) h.sequence) (o / 512) ≡ names_second before (table_place (header_table h) h.sequence) (o / 512)
keeps_names h place n before after torn beside o low =
    ap (λ (x : ℕ). bit_at x (o / 512 % 8) == 1)
    (torn_at place n before after torn (table_place (header_table h) h.sequence + o / 512 / 8)
    (outside place n (table_place (header_table h) h.sequence) (table_place (header_table h) h.sequence + header_table h) _ beside
    (omega arith) (omega (arith, within_bits o h.size low, bits_fit h.size h.room))))

pub keeps_entry : (h : Header) (place n : ℕ) (before after : List ℕ) → Torn place n before after → Avoids h before place n → entry_of h after ≡ entry_of h before
keeps_entry h place n before after torn avoids =
    seen_same (header_table h) h.size (names_second after (table_place (header_table h) h.sequence)) (names_second before (table_place (header_table h) h.sequence)) after before
    (λ o low.
    let named = keeps_names h place n before after torn avoids.table o low in
    ap (λ (b : Bool). slice_index after (page_place (header_table h) (o / 512) b + o % 512)) named
    ∙ torn_at place n before after torn (spot (header_table h) (names_second before (table_place (header_table h) h.sequence)) o) (avoids.pages o low))

pub keeps_extra : (h : Header) (place n : ℕ) (before after : List ℕ) → Torn place n before after → IsHeader h
    → (place + n ≤ table_place (header_table h) h.sequence) ⊎ (table_place (header_table h) h.sequence + header_table h ≤ place)
    → extra_of h after ≡ extra_of h before
keeps_extra h place n before after torn is beside =
    same_slice after before (table_place (header_table h) h.sequence + bits_of h.size) (table_place (header_table h) h.sequence + bits_of h.size + h.extra) torn.size
    (λ i above below. torn_at place n before after torn i
    (outside place n (table_place (header_table h) h.sequence) (table_place (header_table h) h.sequence + header_table h) i beside
    (omega (arith, above)) (omega (arith, below, is.fits, bits_fit h.size h.room))))

-- ---- which writes avoid it

-- two tables of t bytes end where the pages begin
pub tables_end : (t c : ℕ) → c % 2 * t ≤ t
tables_end t c = elim (half c) [
  | inl zero_is ↦ rw zero_is (omega arith)
  | inr one_is ↦ rw one_is (omega arith)
]

three_ways : (a b : ℕ) → (a < b) ⊎ ((b < a) ⊎ (a ≡ b))
three_ways a b = grind arith

pub apart_places : (base P p b s r k n : ℕ) → b ≤ 512 → s ≤ 512 → r < 512 → k + n ≤ 512 → (P ≡ p → (b + 512 ≤ s) ⊎ (s + 512 ≤ b))
    → (base + 1024 * P + b + r < base + 1024 * p + s + k) ⊎ (base + 1024 * p + s + k + n ≤ base + 1024 * P + b + r)
apart_places base P p b s r k n b_low s_low r_low fits other = elim (three_ways P p) [
  | inl before ↦ inl (omega arith)
  | inr more ↦ elim more [
    | inl behind ↦ inr (omega arith)
    | inr same ↦ elim (other same) [
      | inl x ↦ inl (omega arith)
      | inr x ↦ inr (omega arith)
    ]
  ]
]

pub low_place : (b : Bool) → (if b then 512 else 0) ≤ 512
low_place true = omega arith
low_place false = omega arith

pub other_places : (b s : Bool) → b ≢ s → ((if b then 512 else 0) + 512 ≤ (if s then 512 else 0)) ⊎ ((if s then 512 else 0) + 512 ≤ (if b then 512 else 0))
other_places true true apart = absurd (apart refl)
other_places false false apart = absurd (apart refl)
other_places true false apart = inr (omega arith)
other_places false true apart = inl (omega arith)

-- a write in the place of a page that the table doesn't name
pub page_avoids : (h : Header) (all : List ℕ) (p k n : ℕ) (second : Bool)
    → names_second all (table_place (header_table h) h.sequence) p ≢ second → k + n ≤ 512 → Avoids h all (page_place (header_table h) p second + k) n
page_avoids h all p k n second other fits = record {
  header = inr (omega arith);
  table = inr (omega (arith, tables_end (header_table h) h.sequence));
  pages = λ o low. apart_places (1024 + 2 * header_table h) (o / 512) p (if names_second all (table_place (header_table h) h.sequence) (o / 512) then 512 else 0)
      (if second then 512 else 0) (o % 512) k n (low_place _) (low_place second) (omega arith) fits
      (λ same. other_places _ second (λ e. other (ap (names_second all (table_place (header_table h) h.sequence)) (sym same) ∙ e)));
}

-- a write in the other table
pub table_avoids : (h : Header) (all : List ℕ) (c k n : ℕ) → c % 2 ≢ h.sequence % 2 → k + n ≤ header_table h
    → Avoids h all (table_place (header_table h) c + k) n
table_avoids h all c k n other fits = record {
  header = inr (omega arith);
  table = tables c h.sequence (header_table h) other fits;
  pages = λ o low. inr (omega (arith, fits, tables_end (header_table h) c));
}
  where
    tables : (c d t : ℕ) → c % 2 ≢ d % 2 → k + n ≤ t → (table_place t c + k + n ≤ table_place t d) ⊎ (table_place t d + t ≤ table_place t c + k)
    tables c d t apart room = elim (half c) [
      | inl c0 ↦ elim (half d) [
        | inl d0 ↦ absurd (apart (c0 ∙ sym d0))
        | inr d1 ↦ inl (rw (c0, d1) (omega (arith, room)))
      ]
      | inr c1 ↦ elim (half d) [
        | inl d0 ↦ inr (rw (c1, d0) (omega (arith, room)))
        | inr d1 ↦ absurd (apart (c1 ∙ sym d1))
      ]
    ]

-- a write of the other header
pub header_avoids : (h : Header) (all : List ℕ) (c : ℕ) → c % 2 ≢ h.sequence % 2 → Avoids h all (header_place c) 512
header_avoids h all c other = record {
  header = grind (arith, other);
  table = inl (omega arith);
  pages = λ o low. inr (omega arith);
}

-- where nothing but one of the two headers changed, what a table names stays
pub header_keeps_entry : (h : Header) (c : ℕ) (before after : List ℕ) → Torn (header_place c) 512 before after → entry_of h after ≡ entry_of h before
header_keeps_entry h c before after torn =
    seen_same (header_table h) h.size (names_second after (table_place (header_table h) h.sequence)) (names_second before (table_place (header_table h) h.sequence)) after before
    (λ o low.
    let named = keeps_names h (header_place c) 512 before after torn (inl (omega arith)) o low in
    ap (λ (b : Bool). slice_index after (page_place (header_table h) (o / 512) b + o % 512)) named
    ∙ torn_at (header_place c) 512 before after torn (spot (header_table h) (names_second before (table_place (header_table h) h.sequence)) o) (inr (omega arith)))

pub header_keeps_extra : (h : Header) (c : ℕ) (before after : List ℕ) → Torn (header_place c) 512 before after → IsHeader h → extra_of h after ≡ extra_of h before
header_keeps_extra h c before after torn is = keeps_extra h (header_place c) 512 before after torn is (inl (omega arith))
