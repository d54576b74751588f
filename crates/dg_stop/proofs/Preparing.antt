-- A commit that is prepared on one member: the bits of its table, the extra bytes behind them, and the header.
use Rattle.std.proofs.Common.{◌≡◌, ◌≤◌, ◌<◌, ◌+◌, ◌/◌, ◌%◌, ◌⊎◌, ℕ, Bool, false, List, length, sym, ◌∙◌, ap, arith, inl, inr, subst}
use Rattle.std.specs.Prelude.{slice_index, slice_range, ◌==◌}
use Rattle.std.specs.Int.{bit_at}
use Rattle.dg_io.specs.Told.{Torn, patch}
use Rattle.dg_stop.proofs.Ranges.{seen_same, torn_at, patch_at, patch_there, patch_torn}
use Rattle.dg_stop.proofs.Avoiding.{bits_fit, keeps_header, table_avoids, tables_end, within_bits}
use Rattle.dg_stop.proofs.Committing.{has_written, names_stay, header_prepares, header_ready, prepares_then, torn_prepares}
use Rattle.dg_stop.specs.Headers.{Header, HasHeader, IsHeader, entry_of, extra_of, header_table}
use Rattle.dg_stop.specs.Layouts.{bit_in, bits_of, double_size, names_second, page_place, seen, spot, table_place, table_size}
use Rattle.dg_stop.specs.Changes.{Avoids}
use Rattle.dg_stop.specs.Commits.{HasNone, IsNamed, IsOpenTo, IsPlaced, Prepares, PutsHeader, WritesHeader}

-- a write in the table of s is one that the header of p doesn't feel
pub table_prepares : (p q : ℕ) (h : Header) (k n : ℕ) (before after : List ℕ) → IsOpenTo p q h before → k + n ≤ header_table h
    → Torn (table_place (header_table h) h.sequence + k) n before after → Prepares p h.sequence q before after
table_prepares p q h k n before after open_to fits torn =
    torn_prepares p h.sequence q (table_place (header_table h) h.sequence + k) n before after (omega arith) torn open_to.low
    (λ old has e.
    let same : header_table old ≡ header_table h = ap (λ (x : ℕ). table_size x old.room) (open_to.size old has e) ∙ ap (λ (x : ℕ). table_size h.size x) (open_to.room_is old has e) in
    subst (λ (t : ℕ). Avoids old before (table_place t h.sequence + k) n) same
    (table_avoids old before h.sequence k n (λ parity. open_to.apart (parity ∙ ap (λ (x : ℕ). x % 2) e)) (omega (arith, fits, same))))

-- headers stay as they were, whatever is written behind them
pub open_on : (p q : ℕ) (h : Header) (place n : ℕ) (before after : List ℕ) → 1024 ≤ place → Torn place n before after → IsOpenTo p q h before → IsOpenTo p q h after
open_on p q h place n before after behind torn open_to = record {
  apart = open_to.apart;
  low = λ k has. open_to.low k (was k has);
  size = λ k has e. open_to.size k (was k has) e;
  room_is = λ k has e. open_to.room_is k (was k has) e;
}
  where
    back : Torn place n after before
    back = record { size = sym torn.size; front = sym torn.front; back = sym torn.back }

    was : (k : Header) → HasHeader q after k → HasHeader q before k
    was k has = keeps_header q k place n after before back (inr (omega (arith, behind))) has

-- what the header would name where its table and its extra bytes were written
module _ (h : Header) (bits extra before first second : List ℕ) (is : IsHeader h) (long : length before ≡ double_size h.size h.room)
    (bits_are : length bits ≡ bits_of h.size) (extra_are : length extra ≡ h.extra)
    (put_bits : first ≡ patch before (table_place (header_table h) h.sequence) bits)
    (put_extra : second ≡ patch first (table_place (header_table h) h.sequence + bits_of h.size) extra) where
  bits_room : table_place (header_table h) h.sequence + length bits ≤ length before
  bits_room = omega (arith, long, bits_are, bits_fit h.size h.room, tables_end (header_table h) h.sequence)

  first_torn : Torn (table_place (header_table h) h.sequence) (length bits) before first
  first_torn = subst (λ (l : List ℕ). Torn (table_place (header_table h) h.sequence) (length bits) before l) (sym put_bits)
      (patch_torn before (table_place (header_table h) h.sequence) bits bits_room)

  extra_room : table_place (header_table h) h.sequence + bits_of h.size + length extra ≤ length first
  extra_room = omega (arith, long, first_torn.size, extra_are, is.fits, bits_fit h.size h.room, tables_end (header_table h) h.sequence)

  second_torn : Torn (table_place (header_table h) h.sequence + bits_of h.size) (length extra) first second
  second_torn = subst (λ (l : List ℕ). Torn (table_place (header_table h) h.sequence + bits_of h.size) (length extra) first l) (sym put_extra)
      (patch_torn first (table_place (header_table h) h.sequence + bits_of h.size) extra extra_room)

  pub named : (o : ℕ) → o < h.size → names_second second (table_place (header_table h) h.sequence) (o / 512) ≡ bit_in bits (o / 512)
  named o low =
      ap (λ (x : ℕ). bit_at x (o / 512 % 8) == 1)
      (torn_at (table_place (header_table h) h.sequence + bits_of h.size) (length extra) first second second_torn (table_place (header_table h) h.sequence + o / 512 / 8)
      (inl (omega (arith, within_bits o h.size low)))
      ∙ ap (λ (l : List ℕ). slice_index l (table_place (header_table h) h.sequence + o / 512 / 8)) put_bits
      ∙ patch_at before (table_place (header_table h) h.sequence) bits bits_room (o / 512 / 8) (omega (arith, bits_are, within_bits o h.size low)))

  pub table_names : entry_of h second ≡ seen (header_table h) (bit_in bits) h.size before
  table_names =
      seen_same (header_table h) h.size (names_second second (table_place (header_table h) h.sequence)) (bit_in bits) second before
      (λ o low.
      ap (λ (b : Bool). slice_index second (page_place (header_table h) (o / 512) b + o % 512)) (named o low)
      ∙ torn_at (table_place (header_table h) h.sequence + bits_of h.size) (length extra) first second second_torn (spot (header_table h) (bit_in bits) o)
      (inr (omega (arith, extra_are, is.fits, bits_fit h.size h.room, tables_end (header_table h) h.sequence)))
      ∙ torn_at (table_place (header_table h) h.sequence) (length bits) before first first_torn (spot (header_table h) (bit_in bits) o)
      (inr (omega (arith, bits_are, bits_fit h.size h.room, tables_end (header_table h) h.sequence))))

  pub extra_stands : extra_of h second ≡ extra
  extra_stands =
      ap (λ (l : List ℕ). slice_range l (table_place (header_table h) h.sequence + bits_of h.size) (table_place (header_table h) h.sequence + bits_of h.size + h.extra)) put_extra
      ∙ patch_there first (table_place (header_table h) h.sequence + bits_of h.size) extra extra_room (table_place (header_table h) h.sequence + bits_of h.size + h.extra)
      (omega (arith, extra_are))

-- ---- the exits of the call that prepares

-- no header is there but those that were, each below s
none_behind : (q s place n : ℕ) (before after : List ℕ) → 1024 ≤ place → Torn place n before after → ((k : Header) → HasHeader q before k → k.sequence < s)
    → ((k : Header) → HasHeader q after k → k.sequence < s)
none_behind q s place n before after behind torn low k has =
    low k (keeps_header q k place n after before (record { size = sym torn.size; front = sym torn.front; back = sym torn.back }) (inr (omega (arith, behind))) has)

pub none_there : (q s : ℕ) (all : List ℕ) → ((k : Header) → HasHeader q all k → k.sequence < s) → HasNone s q all
none_there q s all low k has same = omega (arith, low k has, same)

module _ (q : ℕ) (h : Header) (bits extra : List ℕ) (is : IsHeader h) (own : h.member ≡ q) (plain : h.committed ≡ false)
    (bits_are : length bits ≡ bits_of h.size) (extra_are : length extra ≡ h.extra) where
  module _ (before : List ℕ) (long : length before ≡ double_size h.size h.room) where
    bits_fit_table : length bits ≤ header_table h
    bits_fit_table = omega (arith, bits_are, bits_fit h.size h.room)

    extra_fits_table : bits_of h.size + length extra ≤ header_table h
    extra_fits_table = omega (arith, extra_are, is.fits, bits_fit h.size h.room)

    -- it stopped at the bits
    pub stops_at_bits : (after : List ℕ) → Torn (table_place (header_table h) h.sequence) (length bits) before after
        → ((p : ℕ) → IsOpenTo p q h before → Prepares p h.sequence q before after)
    stops_at_bits after torn p open_to = table_prepares p q h 0 (length bits) before after open_to (omega (arith, bits_fit_table))
        (subst (λ (x : ℕ). Torn x (length bits) before after) (omega arith) torn)

    pub none_at_bits : (after : List ℕ) → Torn (table_place (header_table h) h.sequence) (length bits) before after
        → ((k : Header) → HasHeader q before k → k.sequence < h.sequence) → ((k : Header) → HasHeader q after k → k.sequence < h.sequence)
    none_at_bits after torn low = none_behind q h.sequence (table_place (header_table h) h.sequence) (length bits) before after (omega arith) torn low

    module _ (first : List ℕ) (put_bits : first ≡ patch before (table_place (header_table h) h.sequence) bits) where
      bits_torn : Torn (table_place (header_table h) h.sequence) (length bits) before first
      bits_torn = subst (λ (l : List ℕ). Torn (table_place (header_table h) h.sequence) (length bits) before l) (sym put_bits)
          (patch_torn before (table_place (header_table h) h.sequence) bits
          (omega (arith, long, bits_are, bits_fit h.size h.room, tables_end (header_table h) h.sequence)))

      -- it stopped at the extra bytes
      pub stops_at_extra : (after : List ℕ) → Torn (table_place (header_table h) h.sequence + bits_of h.size) (length extra) first after
          → ((p : ℕ) → IsOpenTo p q h before → Prepares p h.sequence q before after)
      stops_at_extra after torn p open_to = prepares_then p h.sequence q before first after (stops_at_bits first bits_torn p open_to)
          (table_prepares p q h (bits_of h.size) (length extra) first after
          (open_on p q h (table_place (header_table h) h.sequence) (length bits) before first (omega arith) bits_torn open_to) extra_fits_table torn)

      pub none_at_extra : (after : List ℕ) → Torn (table_place (header_table h) h.sequence + bits_of h.size) (length extra) first after
          → ((k : Header) → HasHeader q before k → k.sequence < h.sequence) → ((k : Header) → HasHeader q after k → k.sequence < h.sequence)
      none_at_extra after torn low = none_behind q h.sequence (table_place (header_table h) h.sequence + bits_of h.size) (length extra) first after (omega arith) torn (none_at_bits first bits_torn low)

      module _ (second : List ℕ) (put_extra : second ≡ patch first (table_place (header_table h) h.sequence + bits_of h.size) extra) where
        extra_torn : Torn (table_place (header_table h) h.sequence + bits_of h.size) (length extra) first second
        extra_torn = subst (λ (l : List ℕ). Torn (table_place (header_table h) h.sequence + bits_of h.size) (length extra) first l) (sym put_extra)
            (patch_torn first (table_place (header_table h) h.sequence + bits_of h.size) extra
            (omega (arith, long, bits_torn.size, extra_fits_table, tables_end (header_table h) h.sequence)))

        pub second_long : length second ≡ double_size h.size h.room
        second_long = extra_torn.size ∙ bits_torn.size ∙ long

        -- it came to the header, which was written or not
        pub stops_at_header : (after : List ℕ) → WritesHeader h second after → ((p : ℕ) → IsOpenTo p q h before → Prepares p h.sequence q before after)
        stops_at_header after wrote p open_to = prepares_then p h.sequence q before second after (stops_at_extra second extra_torn p open_to)
            (header_prepares p q h second after is own plain second_long open_to.apart (none_at_extra second extra_torn open_to.low) wrote)

        pub names_all : (after : List ℕ) → PutsHeader h second after → ((k : Header) → HasHeader q before k → k.sequence < h.sequence)
            → IsNamed q h extra (seen (header_table h) (bit_in bits) h.size before) after
        names_all after put low = record {
          has = has_written q h second after is own second_long put;
          ready = header_ready q h (seen (header_table h) (bit_in bits) h.size before) extra second after is own second_long (none_at_extra second extra_torn low)
              (table_names h bits extra before first second is long bits_are extra_are put_bits put_extra)
              (extra_stands h bits extra before first second is long bits_are extra_are put_bits put_extra) put;
        }

        pub placed_all : (after : List ℕ) → PutsHeader h second after → IsPlaced h (bit_in bits) after
        placed_all after put o low = names_stay q h second after is own second_long put h o low
            ∙ named h bits extra before first second is long bits_are extra_are put_bits put_extra o low

        pub names_or_none : (after : List ℕ) → WritesHeader h second after → ((k : Header) → HasHeader q before k → k.sequence < h.sequence)
            → (HasNone h.sequence q after) ⊎ (IsNamed q h extra (seen (header_table h) (bit_in bits) h.size before) after)
        names_or_none after (inl same) low = inl (subst (λ (l : List ℕ). HasNone h.sequence q l) (sym same) (none_there q h.sequence second (none_at_extra second extra_torn low)))
        names_or_none after (inr put) low = inr (names_all after put low)
