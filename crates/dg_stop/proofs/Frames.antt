-- Writes of tables and headers leave the pages.
use Rattle.std.proofs.Common.{◌≡◌, ◌≤◌, ◌+◌, ◌*◌, ℕ, List, length, refl, sym, ◌∙◌, ap, arith, inr, subst}
use Rattle.std.specs.Prelude.{slice_index, Option, Some, None, IfSome, OnErr, OnOk, Result, Ok, Err}
use Rattle.dg_io.specs.Told.{Told, IsSame, Torn, Patched}
use Rattle.dg_stop.proofs.Avoiding.{bits_fit, tables_end}
use Rattle.dg_stop.proofs.HeaderLemmas.{header_size}
use Rattle.dg_stop.proofs.Ranges.{patch_torn, torn_at}
use Rattle.dg_stop.specs.Commits.{PutsHeader}
use Rattle.dg_stop.specs.Headers.{Header, IsHeader, header_bytes, header_table}
use Rattle.dg_stop.specs.Layouts.{SamePages, bits_of, double_size, header_place, table_place}

pub torn_pages : (t place n : ℕ) (b a : List ℕ) → place + n ≤ 1024 + 2 * t → Torn place n b a → SamePages t b a
torn_pages t place n b a low torn = record { size = torn.size; bytes = λ i above. torn_at place n b a torn i (inr (omega (arith, low, above))) }

pub pages_both : (t : ℕ) (a b c : List ℕ) → SamePages t a b → SamePages t b c → SamePages t a c
pages_both t a b c first second = record { size = second.size ∙ first.size; bytes = λ i above. second.bytes i above ∙ first.bytes i above }

pub told_both_pages : (t : ℕ) (x y z : Option (List ℕ)) → Told (SamePages t) x y → Told (SamePages t) y z → Told (SamePages t) x z
told_both_pages t x y None first second = tt
told_both_pages t x None (Some c) first second = absurd second
told_both_pages t None (Some b) (Some c) first second = absurd first
told_both_pages t (Some a) (Some b) (Some c) first second = pages_both t a b c first second

pub told_same_pages : (t : ℕ) (x y : Option (List ℕ)) → Told IsSame x y → Told (SamePages t) x y
told_same_pages t x None same = tt
told_same_pages t None (Some b) same = absurd same
told_same_pages t (Some a) (Some b) same = record { size = ap (λ (l : List ℕ). length l) same; bytes = λ i above. ap (λ (l : List ℕ). slice_index l i) same }

pub itself_pages : (t : ℕ) (x : Option (List ℕ)) → Told (SamePages t) x x
itself_pages t None = tt
itself_pages t (Some a) = record { size = refl; bytes = λ i above. refl }

pub told_torn_pages : (t place n : ℕ) (x y : Option (List ℕ)) → place + n ≤ 1024 + 2 * t → Told (Torn place n) x y → Told (SamePages t) x y
told_torn_pages t place n x None low torn = tt
told_torn_pages t place n None (Some a) low torn = absurd torn
told_torn_pages t place n (Some b) (Some a) low torn = torn_pages t place n b a low torn

-- a write that was done changed its range alone
pub told_patched : (place : ℕ) (piece : List ℕ) (x y : Option (List ℕ)) → IfSome x (λ all. place + length piece ≤ length all) → Told (Patched place piece) x y → Told (Torn place (length piece)) x y
told_patched place piece x None fits put = tt
told_patched place piece None (Some a) fits put = absurd put
told_patched place piece (Some b) (Some a) fits put = subst (λ (l : List ℕ). Torn place (length piece) b l) (sym put) (patch_torn b place piece fits)

pub some_map : (x : Option (List ℕ)) (P Q : List ℕ → Type 0) → ((l : List ℕ) → P l → Q l) → IfSome x P → IfSome x Q
some_map None P Q f h = tt
some_map (Some l) P Q f h = f l h

-- a header that was written, or not
pub header_torn : {T E : Type 0} (r : Result T E) (h : Header) (x y : Option (List ℕ)) → IfSome x (λ all. 1024 ≤ length all)
    → OnOk r (Told (PutsHeader h) x y) → OnErr r (Told (Torn (header_place h.sequence) 512) x y) → Told (Torn (header_place h.sequence) 512) x y
header_torn (Ok t) h x y long done torn =
    subst (λ (n : ℕ). Told (Torn (header_place h.sequence) n) x y) (header_size h)
    (told_patched (header_place h.sequence) (header_bytes h) x y (some_map x _ _ (λ l long. omega (arith, long, header_size h)) long) done)
header_torn (Err e) h x y long done torn = torn

module _ (h : Header) (bits extra : List ℕ) (is : IsHeader h) (bits_are : length bits ≡ bits_of h.size) (extra_are : length extra ≡ h.extra) where
  first_low : table_place (header_table h) h.sequence + length bits ≤ 1024 + 2 * header_table h
  first_low = omega (arith, bits_are, bits_fit h.size h.room, tables_end (header_table h) h.sequence)

  second_low : table_place (header_table h) h.sequence + bits_of h.size + length extra ≤ 1024 + 2 * header_table h
  second_low = omega (arith, extra_are, is.fits, bits_fit h.size h.room, tables_end (header_table h) h.sequence)

  first_in : (x : Option (List ℕ)) → IfSome x (λ all. length all ≡ double_size h.size h.room) → IfSome x (λ all. table_place (header_table h) h.sequence + length bits ≤ length all)
  first_in x long = some_map x _ _ (λ l long. omega (arith, first_low, long)) long

  -- where the bits weren't written
  pub bits_pages : (x y : Option (List ℕ)) → Told (Torn (table_place (header_table h) h.sequence) (length bits)) x y → Told (SamePages (header_table h)) x y
  bits_pages x y torn = told_torn_pages (header_table h) (table_place (header_table h) h.sequence) (length bits) x y first_low torn

  put_pages : (x y : Option (List ℕ)) → IfSome x (λ all. length all ≡ double_size h.size h.room)
      → Told (Patched (table_place (header_table h) h.sequence) bits) x y → Told (SamePages (header_table h)) x y
  put_pages x y long put = bits_pages x y (told_patched (table_place (header_table h) h.sequence) bits x y (first_in x long) put)

  -- where the extra bytes weren't
  pub extra_pages : (x y z : Option (List ℕ)) → IfSome x (λ all. length all ≡ double_size h.size h.room)
      → Told (Patched (table_place (header_table h) h.sequence) bits) x y
      → Told (Torn (table_place (header_table h) h.sequence + bits_of h.size) (length extra)) y z → Told (SamePages (header_table h)) x z
  extra_pages x y z long first torn = told_both_pages (header_table h) x y z (put_pages x y long first)
      (told_torn_pages (header_table h) (table_place (header_table h) h.sequence + bits_of h.size) (length extra) y z second_low torn)

  -- and where both were
  pub all_pages : (x y z w : Option (List ℕ)) → IfSome x (λ all. length all ≡ double_size h.size h.room)
      → Told (Patched (table_place (header_table h) h.sequence) bits) x y
      → IfSome y (λ all. table_place (header_table h) h.sequence + bits_of h.size + length extra ≤ length all)
      → Told (Patched (table_place (header_table h) h.sequence + bits_of h.size) extra) y z → Told (Torn (header_place h.sequence) 512) z w → Told (SamePages (header_table h)) x w
  all_pages x y z w long first fits second torn = told_both_pages (header_table h) x z w
      (extra_pages x y z long first (told_patched (table_place (header_table h) h.sequence + bits_of h.size) extra y z fits second))
      (told_torn_pages (header_table h) (header_place h.sequence) 512 z w (omega arith) torn)
