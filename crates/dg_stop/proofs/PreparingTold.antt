-- The same where the bytes are told or not.
use Rattle.std.proofs.Common.{◌≡◌, ◌≤◌, ◌+◌, ℕ, false, List, length, ◌∙◌, ap, arith, inl, inr}
use Rattle.std.specs.Prelude.{Option, Some, None, IfSome, OnErr, OnOk, Result, Ok, Err}
use Rattle.dg_io.specs.Told.{Told, Torn, Patched, patch}
use Rattle.dg_stop.proofs.Ranges.{patch_torn}
use Rattle.dg_stop.proofs.Avoiding.{bits_fit, tables_end}
use Rattle.dg_stop.proofs.Preparing.{stops_at_bits, stops_at_extra, stops_at_header, names_all, names_or_none, none_at_bits, none_at_extra, none_there, placed_all, second_long}
use Rattle.dg_stop.proofs.Committing.{has_written}
use Rattle.dg_stop.specs.Headers.{Header, IsHeader, header_table}
use Rattle.dg_stop.specs.Layouts.{bit_in, bits_of, double_size, seen, table_place}
use Rattle.dg_stop.specs.Commits.{AreBelow, IsNamed, IsNamedOrNone, IsOpenTo, IsPlaced, Prepares, PutsHeader, WritesHeader}

module _ (q : ℕ) (h : Header) (bits extra : List ℕ) (is : IsHeader h) (own : h.member ≡ q) (plain : h.committed ≡ false)
    (bits_are : length bits ≡ bits_of h.size) (extra_are : length extra ≡ h.extra) where
  pub bits_told : (p : ℕ) (x y : Option (List ℕ)) → IfSome x (λ all. length all ≡ double_size h.size h.room)
      → Told (Torn (table_place (header_table h) h.sequence) (length bits)) x y → Told (λ b a. IsOpenTo p q h b → Prepares p h.sequence q b a) x y
  bits_told p x None long torn = tt
  bits_told p None (Some a) long torn = absurd torn
  bits_told p (Some b) (Some a) long torn = λ open_to. stops_at_bits q h bits extra is own plain bits_are extra_are b long a torn p open_to

  pub bits_none : (x y : Option (List ℕ)) → IfSome x (λ all. length all ≡ double_size h.size h.room)
      → Told (Torn (table_place (header_table h) h.sequence) (length bits)) x y
      → Told (λ b a. AreBelow h.sequence q b → IsNamedOrNone q h extra (seen (header_table h) (bit_in bits) h.size b) a) x y
  bits_none x None long torn = tt
  bits_none None (Some a) long torn = absurd torn
  bits_none (Some b) (Some a) long torn = λ low. inl (none_there q h.sequence a (none_at_bits q h bits extra is own plain bits_are extra_are b long a torn low))

  pub extra_told : (p : ℕ) (x y z : Option (List ℕ)) → IfSome x (λ all. length all ≡ double_size h.size h.room)
      → Told (Patched (table_place (header_table h) h.sequence) bits) x y
      → Told (Torn (table_place (header_table h) h.sequence + bits_of h.size) (length extra)) y z → Told (λ b a. IsOpenTo p q h b → Prepares p h.sequence q b a) x z
  extra_told p x y None long first torn = tt
  extra_told p x None (Some a) long first torn = absurd torn
  extra_told p None (Some f) (Some a) long first torn = absurd first
  extra_told p (Some b) (Some f) (Some a) long first torn = λ open_to. stops_at_extra q h bits extra is own plain bits_are extra_are b long f first a torn p open_to

  pub extra_none : (x y z : Option (List ℕ)) → IfSome x (λ all. length all ≡ double_size h.size h.room)
      → Told (Patched (table_place (header_table h) h.sequence) bits) x y
      → Told (Torn (table_place (header_table h) h.sequence + bits_of h.size) (length extra)) y z
      → Told (λ b a. AreBelow h.sequence q b → IsNamedOrNone q h extra (seen (header_table h) (bit_in bits) h.size b) a) x z
  extra_none x y None long first torn = tt
  extra_none x None (Some a) long first torn = absurd torn
  extra_none None (Some f) (Some a) long first torn = absurd first
  extra_none (Some b) (Some f) (Some a) long first torn = λ low. inl (none_there q h.sequence a (none_at_extra q h bits extra is own plain bits_are extra_are b long f first a torn low))

  module _ (x y z : Option (List ℕ)) (long : IfSome x (λ all. length all ≡ double_size h.size h.room))
      (first : Told (Patched (table_place (header_table h) h.sequence) bits) x y)
      (second : Told (Patched (table_place (header_table h) h.sequence + bits_of h.size) extra) y z) where
    pub header_told : (p : ℕ) (w : Option (List ℕ)) → Told (WritesHeader h) z w → Told (λ b a. IsOpenTo p q h b → Prepares p h.sequence q b a) x w
    header_told p w wrote = go x y z w long first second wrote
      where
        go : (x y z w : Option (List ℕ)) → IfSome x (λ all. length all ≡ double_size h.size h.room)
            → Told (Patched (table_place (header_table h) h.sequence) bits) x y
            → Told (Patched (table_place (header_table h) h.sequence + bits_of h.size) extra) y z → Told (WritesHeader h) z w
            → Told (λ b a. IsOpenTo p q h b → Prepares p h.sequence q b a) x w
        go x y z None long first second wrote = tt
        go x y None (Some a) long first second wrote = absurd wrote
        go x None (Some e) (Some a) long first second wrote = absurd second
        go None (Some f) (Some e) (Some a) long first second wrote = absurd first
        go (Some b) (Some f) (Some e) (Some a) long first second wrote = λ open_to.
            stops_at_header q h bits extra is own plain bits_are extra_are b long f first e second a wrote p open_to

    pub header_none : (w : Option (List ℕ)) → Told (WritesHeader h) z w
        → Told (λ b a. AreBelow h.sequence q b → IsNamedOrNone q h extra (seen (header_table h) (bit_in bits) h.size b) a) x w
    header_none w wrote = go x y z w long first second wrote
      where
        go : (x y z w : Option (List ℕ)) → IfSome x (λ all. length all ≡ double_size h.size h.room)
            → Told (Patched (table_place (header_table h) h.sequence) bits) x y
            → Told (Patched (table_place (header_table h) h.sequence + bits_of h.size) extra) y z → Told (WritesHeader h) z w
            → Told (λ b a. AreBelow h.sequence q b → IsNamedOrNone q h extra (seen (header_table h) (bit_in bits) h.size b) a) x w
        go x y z None long first second wrote = tt
        go x y None (Some a) long first second wrote = absurd wrote
        go x None (Some e) (Some a) long first second wrote = absurd second
        go None (Some f) (Some e) (Some a) long first second wrote = absurd first
        go (Some b) (Some f) (Some e) (Some a) long first second wrote = λ low.
            names_or_none q h bits extra is own plain bits_are extra_are b long f first e second a wrote low

    pub header_names : (w : Option (List ℕ)) → Told (PutsHeader h) z w
        → Told (λ b a. AreBelow h.sequence q b → IsNamed q h extra (seen (header_table h) (bit_in bits) h.size b) a) x w
    header_names w wrote = go x y z w long first second wrote
      where
        go : (x y z w : Option (List ℕ)) → IfSome x (λ all. length all ≡ double_size h.size h.room)
            → Told (Patched (table_place (header_table h) h.sequence) bits) x y
            → Told (Patched (table_place (header_table h) h.sequence + bits_of h.size) extra) y z → Told (PutsHeader h) z w
            → Told (λ b a. AreBelow h.sequence q b → IsNamed q h extra (seen (header_table h) (bit_in bits) h.size b) a) x w
        go x y z None long first second wrote = tt
        go x y None (Some a) long first second wrote = absurd wrote
        go x None (Some e) (Some a) long first second wrote = absurd second
        go None (Some f) (Some e) (Some a) long first second wrote = absurd first
        go (Some b) (Some f) (Some e) (Some a) long first second wrote = λ low.
            names_all q h bits extra is own plain bits_are extra_are b long f first e second a wrote low

  module _ (x y z : Option (List ℕ)) (long : IfSome x (λ all. length all ≡ double_size h.size h.room))
      (first : Told (Patched (table_place (header_table h) h.sequence) bits) x y)
      (second : Told (Patched (table_place (header_table h) h.sequence + bits_of h.size) extra) y z) where
    pub header_placed : (w : Option (List ℕ)) → Told (PutsHeader h) z w → Told (λ b a. IsPlaced h (bit_in bits) a) x w
    header_placed w wrote = go x y z w long first second wrote
      where
        go : (x y z w : Option (List ℕ)) → IfSome x (λ all. length all ≡ double_size h.size h.room)
            → Told (Patched (table_place (header_table h) h.sequence) bits) x y
            → Told (Patched (table_place (header_table h) h.sequence + bits_of h.size) extra) y z → Told (PutsHeader h) z w
            → Told (λ b a. IsPlaced h (bit_in bits) a) x w
        go x y z None long first second wrote = tt
        go x y None (Some a) long first second wrote = absurd wrote
        go x None (Some e) (Some a) long first second wrote = absurd second
        go None (Some f) (Some e) (Some a) long first second wrote = absurd first
        go (Some b) (Some f) (Some e) (Some a) long first second wrote = placed_all q h bits extra is own plain bits_are extra_are b long f first e second a wrote

    pub header_long : (w : Option (List ℕ)) → Told (PutsHeader h) z w → IfSome w (λ all. length all ≡ double_size h.size h.room)
    header_long w wrote = go x y z w long first second wrote
      where
        go : (x y z w : Option (List ℕ)) → IfSome x (λ all. length all ≡ double_size h.size h.room)
            → Told (Patched (table_place (header_table h) h.sequence) bits) x y
            → Told (Patched (table_place (header_table h) h.sequence + bits_of h.size) extra) y z → Told (PutsHeader h) z w
            → IfSome w (λ all. length all ≡ double_size h.size h.room)
        go x y z None long first second wrote = tt
        go x y None (Some a) long first second wrote = absurd wrote
        go x None (Some e) (Some a) long first second wrote = absurd second
        go None (Some f) (Some e) (Some a) long first second wrote = absurd first
        go (Some b) (Some f) (Some e) (Some a) long first second wrote =
            (has_written q h e a is own (second_long q h bits extra is own plain bits_are extra_are b long f first e second) wrote).long

-- a write that was done leaves the length
patched_size : (place : ℕ) (piece before after : List ℕ) → place + length piece ≤ length before → after ≡ patch before place piece → length after ≡ length before
patched_size place piece before after fits put = ap (λ (l : List ℕ). length l) put ∙ (patch_torn before place piece fits).size

tables_fit : (h : Header) (n size : ℕ) → n ≤ header_table h → size ≡ double_size h.size h.room → table_place (header_table h) h.sequence + n ≤ size
tables_fit h n size fits long = omega (arith, fits, long, tables_end (header_table h) h.sequence)

-- the second write, and the header, are inside the member
pub second_fits : (h : Header) (bits extra : List ℕ) (x y : Option (List ℕ)) → IsHeader h → length bits ≡ bits_of h.size → length extra ≡ h.extra
    → IfSome x (λ all. length all ≡ double_size h.size h.room) → Told (Patched (table_place (header_table h) h.sequence) bits) x y
    → IfSome y (λ all. table_place (header_table h) h.sequence + bits_of h.size + length extra ≤ length all)
second_fits h bits extra x None is bits_are extra_are long put = tt
second_fits h bits extra None (Some a) is bits_are extra_are long put = absurd put
second_fits h bits extra (Some b) (Some a) is bits_are extra_are long put =
    let same = patched_size (table_place (header_table h) h.sequence) bits b a (tables_fit h (length bits) (length b) (omega (arith, bits_are, bits_fit h.size h.room)) long) put in
    omega (arith, tables_fit h (bits_of h.size + length extra) (length a) (omega (arith, extra_are, is.fits, bits_fit h.size h.room)) (same ∙ long))

pub third_fits : (h : Header) (bits extra : List ℕ) (x y z : Option (List ℕ)) → IsHeader h → length bits ≡ bits_of h.size → length extra ≡ h.extra
    → IfSome x (λ all. length all ≡ double_size h.size h.room) → Told (Patched (table_place (header_table h) h.sequence) bits) x y
    → Told (Patched (table_place (header_table h) h.sequence + bits_of h.size) extra) y z → IfSome z (λ all. 1024 ≤ length all)
third_fits h bits extra x y None is bits_are extra_are long first second = tt
third_fits h bits extra x None (Some e) is bits_are extra_are long first second = absurd second
third_fits h bits extra None (Some f) (Some e) is bits_are extra_are long first second = absurd first
third_fits h bits extra (Some b) (Some f) (Some e) is bits_are extra_are long first second =
    let same = patched_size (table_place (header_table h) h.sequence) bits b f (tables_fit h (length bits) (length b) (omega (arith, bits_are, bits_fit h.size h.room)) long) first in
    let more = patched_size (table_place (header_table h) h.sequence + bits_of h.size) extra f e
    (omega (arith, tables_fit h (bits_of h.size + length extra) (length f) (omega (arith, extra_are, is.fits, bits_fit h.size h.room)) (same ∙ long))) second in
    omega (arith, more, same, long)

pub puts_writes : (h : Header) (x y : Option (List ℕ)) → Told (PutsHeader h) x y → Told (WritesHeader h) x y
puts_writes h x None put = tt
puts_writes h None (Some a) put = absurd put
puts_writes h (Some b) (Some a) put = inr put

-- by the answer of the last call
pub writes_either : {T E : Type 0} (r : Result T E) (steady : Type 0) (h : Header) (x y : Option (List ℕ)) → OnOk r (Told (PutsHeader h) x y)
    → OnErr r (steady → Told (WritesHeader h) x y) → steady → Told (WritesHeader h) x y
writes_either (Ok t) steady h x y done stopped is = puts_writes h x y done
writes_either (Err e) steady h x y done stopped is = stopped is

pub OnOk-map : {T E : Type 0} (r : Result T E) (P Q : Type 0) → (P → Q) → OnOk r P → OnOk r Q
OnOk-map (Ok t) P Q f h = f h
OnOk-map (Err e) P Q f h = tt

pub OnErr-map : {T E : Type 0} (r : Result T E) (P Q : Type 0) → (P → Q) → OnErr r P → OnErr r Q
OnErr-map (Ok t) P Q f h = tt
OnErr-map (Err e) P Q f h = f h

pub OnErr-any : {T E : Type 0} (r : Result T E) (Q : Type 0) → Q → OnErr r Q
OnErr-any (Ok t) Q h = tt
OnErr-any (Err e) Q h = h
