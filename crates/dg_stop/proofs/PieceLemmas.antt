-- Pieces that are read and written page by page.
use Rattle.std.proofs.Common.{◌≡◌, ◌≢◌, ◌≤◌, ◌<◌, ◌+◌, ◌-◌, ◌*◌, ◌/◌, ◌%◌, ◌++◌, ◌⊎◌, ℕ, Bool, true, false, List, length, take, drop, refl, sym, ◌∙◌, ap, arith, inl, inr, subst, append_assoc, length-append, length-take, length-drop, get_or-take, get_or-drop}
use Rattle.std.specs.Prelude.{not, slice_index, slice_range, Option, Some, None, IfSome, OnErr, OnOk, Result, Ok, Err, IsOk, if◌then◌else◌}
use Rattle.std.proofs.Math.Seq.{take-add}
use Rattle.std.proofs.lemmas.Bool.{false≢true}
use Rattle.std.proofs.lemmas.List.{append-nil, drop-drop, ext_get_or, get_or_past, take-append-drop, take_at}
use Rattle.dg_io.specs.Told.{Reads, Told, Torn, patch}
use Rattle.dg_io.specs.declared.outside.Rack.{Ghosts}
use Rattle.dg_io.specs.MadeLaws.{same_both, same_told}
use Rattle.dg_io.specs.Makes.{Makes}
use Rattle.dg_model.specs.Causes.{Rose}
use Rattle.dg_stop.proofs.Avoiding.{apart_places, low_place, other_places}
use Rattle.dg_stop.proofs.Committing.{same_or_not}
use Rattle.dg_stop.proofs.PageLemmas.{torn_wider}
use Rattle.dg_stop.proofs.Paging.{at_seen, pages_are_patched, size_seen}
use Rattle.dg_stop.proofs.Ranges.{patch-back, patch_torn, seen_same, torn_at}
use Rattle.dg_stop.specs.Layouts.{double_size, page_place, seen, spot, table_size}
use Rattle.dg_stop.specs.Pages.{PutsPart, PutsPiece, ReadsPiece, TearsPiece, TornPages, moved}
use Rattle.dg_stop.specs.Pages.TornPages.{untorn, tears}
use Rattle.dg_stop.specs.Serving.{IsOn, Serves}

-- ---- what is told

pub told_then : (P Q R : List ℕ → List ℕ → Type 0) (x y z : Option (List ℕ)) → ((a b c : List ℕ) → P a b → Q b c → R a c) → Told P x y → Told Q y z → Told R x z
told_then P Q R x y None f first second = tt
told_then P Q R x None (Some c) f first second = absurd second
told_then P Q R None (Some b) (Some c) f first second = absurd first
told_then P Q R (Some a) (Some b) (Some c) f first second = f a b c first second

-- a step of bytes of which this is known
pub told_long : (P Q : List ℕ → List ℕ → Type 0) (n : ℕ) (x y : Option (List ℕ)) → IfSome x (λ all. length all ≡ n) → ((a b : List ℕ) → length a ≡ n → P a b → Q a b) → Told P x y → Told Q x y
told_long P Q n x None long f told = tt
told_long P Q n None (Some b) long f told = absurd told
told_long P Q n (Some a) (Some b) long f told = f a b long told

pub long_then : (P : List ℕ → List ℕ → Type 0) (n : ℕ) (x y : Option (List ℕ)) → ((a b : List ℕ) → P a b → length b ≡ length a) → Told P x y
    → IfSome x (λ all. length all ≡ n) → IfSome y (λ all. length all ≡ n)
long_then P n x None f told long = tt
long_then P n None (Some b) f told long = absurd told
long_then P n (Some a) (Some b) f told long = f a b told ∙ long

pub told_map : (P Q : List ℕ → List ℕ → Type 0) (x y : Option (List ℕ)) → ((a b : List ℕ) → P a b → Q a b) → Told P x y → Told Q x y
told_map P Q x None f told = tt
told_map P Q None (Some b) f told = absurd told
told_map P Q (Some a) (Some b) f told = f a b told

-- two clauses on one step, the second under a premise
pub told_two : (P Q : List ℕ → List ℕ → Type 0) (X : Type 0) (R : List ℕ → List ℕ → Type 0) (n : ℕ) (x y : Option (List ℕ)) → IfSome x (λ all. length all ≡ n)
    → ((a b : List ℕ) → length a ≡ n → P a b → (X → Q a b) → R a b) → Told P x y → (X → Told Q x y) → Told R x y
told_two P Q X R n x None long f one two = tt
told_two P Q X R n None (Some b) long f one two = absurd one
told_two P Q X R n (Some a) (Some b) long f one two = f a b long one two

pub OnErr-always : {A B : Type 0} (r : Result A B) (P : Type 0) → P → OnErr r P
OnErr-always (Ok x) P is = tt
OnErr-always (Err x) P is = is

pub told_self : (P : List ℕ → List ℕ → Type 0) (x : Option (List ℕ)) → ((a : List ℕ) → P a a) → Told P x x
told_self P None f = tt
told_self P (Some a) f = f a

-- ---- slices

slice_is : (s : List ℕ) (p n : ℕ) → slice_range s p (p + n) ≡ take n (drop p s)
slice_is s p n =
    let e : p + n - p ≡ n = omega arith in
    ap (λ (k : ℕ). take k (drop p s)) e

slice_size : (s : List ℕ) (p n : ℕ) → p + n ≤ length s → length (slice_range s p (p + n)) ≡ n
slice_size s p n fits = ap (λ (l : List ℕ). length l) (slice_is s p n) ∙ omega (arith, fits, length-take n (drop p s), length-drop p s)

slice_at : (s : List ℕ) (p n i : ℕ) → i < n → slice_index (slice_range s p (p + n)) i ≡ slice_index s (p + i)
slice_at s p n i low = ap (λ (l : List ℕ). slice_index l i) (slice_is s p n) ∙ get_or-take n (drop p s) i 0 low ∙ get_or-drop p s i 0

two_slices : (a b : List ℕ) (p q n : ℕ) → p + n ≤ length a → q + n ≤ length b → ((i : ℕ) → i < n → slice_index a (p + i) ≡ slice_index b (q + i))
    → slice_range a p (p + n) ≡ slice_range b q (q + n)
two_slices a b p q n a_fits b_fits same =
    ext_get_or 0 (slice_range a p (p + n)) (slice_range b q (q + n)) (slice_size a p n a_fits ∙ sym (slice_size b q n b_fits))
    (λ i low.
    let near : i < n = omega (arith, low, slice_size a p n a_fits) in
    slice_at a p n i near ∙ same i near ∙ sym (slice_at b q n i near))

pub take_parts : (d n : ℕ) (s : List ℕ) → take (d + n) s ≡ take d s ++ take n (drop d s)
take_parts d n s = take-add d n s

-- a slice, and the one behind it
slices : (s : List ℕ) (p d n : ℕ) → slice_range s p (p + (d + n)) ≡ slice_range s p (p + d) ++ slice_range s (p + d) (p + d + n)
slices s p d n =
    slice_is s p (d + n) ∙ take_parts d n (drop p s)
    ∙ ap (λ (l : List ℕ). take d (drop p s) ++ take n l) (drop-drop d p s)
    ∙ ap (λ (l : List ℕ). l ++ take n (drop (p + d) s)) (sym (slice_is s p d))
    ∙ ap (λ (l : List ℕ). slice_range s p (p + d) ++ l) (sym (slice_is s (p + d) n))

-- two lists that agree beside a range
torn_from : (place n : ℕ) (before after : List ℕ) → length after ≡ length before → place + n ≤ length before
    → ((i : ℕ) → (i < place) ⊎ (place + n ≤ i) → slice_index after i ≡ slice_index before i) → Torn place n before after
torn_from place n before after size fits same = record {
  size = size;
  front = ext_get_or 0 (take place after) (take place before) (omega (arith, length-take place after, length-take place before, size))
      (λ i low.
      let near : i < place = omega (arith, low, length-take place after) in
      get_or-take place after i 0 near ∙ same i (inl near) ∙ sym (get_or-take place before i 0 near));
  back = ext_get_or 0 (drop (place + n) after) (drop (place + n) before) (omega (arith, length-drop (place + n) after, length-drop (place + n) before, size))
      (λ i low. get_or-drop (place + n) after i 0 ∙ same (place + n + i) (inr (omega arith)) ∙ sym (get_or-drop (place + n) before i 0));
}

torn_same : (place n : ℕ) (before after : List ℕ) → after ≡ before → Torn place n before after
torn_same place n before after same = record { size = ap (λ (l : List ℕ). length l) same; front = ap (take place) same; back = ap (drop (place + n)) same }

torn_then : (place n : ℕ) (a b c : List ℕ) → Torn place n a b → Torn place n b c → Torn place n a c
torn_then place n a b c first second = record { size = second.size ∙ first.size; front = second.front ∙ first.front; back = second.back ∙ first.back }

-- ---- the byte of a member on a page

on_page : (at i n : ℕ) → at % 512 + n ≤ 512 → i < n → ((at + i) / 512 ≡ at / 512) × ((at + i) % 512 ≡ at % 512 + i)
on_page at i n page low = (omega (arith, page, low), omega (arith, page, low))

spot_on : (t : ℕ) (places : ℕ → Bool) (at i n : ℕ) → at % 512 + n ≤ 512 → i < n → spot t places (at + i) ≡ page_place t (at / 512) (places (at / 512)) + at % 512 + i
spot_on t places at i n page low =
    let on = on_page at i n page low in
    ap (λ (p : ℕ). page_place t p (places p) + (at + i) % 512) (on.0) ∙ ap (λ (r : ℕ). page_place t (at / 512) (places (at / 512)) + r) (on.1) ∙ omega arith

page_end : (size room page : ℕ) (second : Bool) → 512 * page < size → page_place (table_size size room) page second + 512 ≤ double_size size room
page_end size room page second within = ends (table_size size room) where
  ends : (t : ℕ) → page_place t page second + 512 ≤ 1024 + 2 * t + 1024 * ((size + 511) / 512)
  ends t = omega (arith, within, low_place second)

-- ---- reads

-- where a part of a page stands it is inside the member
pub page_inside : (size room at n : ℕ) (second : Bool) (x : Option (List ℕ)) → at % 512 + n ≤ 512 → 0 < n → at + n ≤ size → IfSome x (λ all. length all ≡ double_size size room)
    → IfSome x (λ all. page_place (table_size size room) (at / 512) second + at % 512 + n ≤ length all)
page_inside size room at n second None page some range long = tt
page_inside size room at n second (Some all) page some range long = omega (arith, long, page, page_end size room (at / 512) second (omega (arith, range, some)))

-- and there is room for all of the page
pub page_room : (size room at n : ℕ) (x : Option (List ℕ)) → 0 < n → at + n ≤ size → IfSome x (λ all. length all ≡ double_size size room)
    → IfSome x (λ all. 1024 + 2 * table_size size room + 1024 * (at / 512 + 1) ≤ length all)
page_room size room at n None some range long = tt
page_room size room at n (Some all) some range long = ends (table_size size room) long where
  ends : (t : ℕ) → length all ≡ 1024 + 2 * t + 1024 * ((size + 511) / 512) → 1024 + 2 * t + 1024 * (at / 512 + 1) ≤ length all
  ends t is = omega (arith, is, some, range)

pub reads_page : (size room at : ℕ) (places : ℕ → Bool) (buf before after : List ℕ) → length before ≡ double_size size room → at % 512 + length buf ≤ 512 → 0 < length buf → at + length buf ≤ size
    → Reads (page_place (table_size size room) (at / 512) (places (at / 512)) + at % 512) buf before after → ReadsPiece (table_size size room) size places at buf before after
reads_page size room at places buf before after long page some range read = record {
  same = read.same;
  there = read.there ∙ two_slices before (seen (table_size size room) places size before) (page_place (table_size size room) (at / 512) (places (at / 512)) + at % 512) at (length buf)
      (omega (arith, long, page, page_end size room (at / 512) (places (at / 512)) (omega (arith, range, some))))
      (omega (arith, range, size_seen (table_size size room) size places before))
      (λ i low. ap (λ (k : ℕ). slice_index before k) (sym (spot_on (table_size size room) places at i (length buf) page low))
      ∙ sym (at_seen (table_size size room) size places before (at + i) (omega (arith, range, low))));
}

pub reads_then : (t size place d n : ℕ) (places : ℕ → Bool) (front part whole a b c : List ℕ) → length front ≡ d → length part ≡ n → whole ≡ front ++ part
    → ReadsPiece t size places place front a b → ReadsPiece t size places (place + d) part b c → ReadsPiece t size places place whole a c
reads_then t size place d n places front part whole a b c front_size part_size is first second = record {
  same = second.same ∙ first.same;
  there =
      let s = seen t places size a in
      let x : front ≡ slice_range s place (place + d) = first.there ∙ ap (λ (k : ℕ). slice_range s place (place + k)) front_size in
      let y : part ≡ slice_range s (place + d) (place + d + n) = second.there ∙ ap (λ (l : List ℕ). slice_range (seen t places size l) (place + d) (place + d + length part)) first.same
      ∙ ap (λ (k : ℕ). slice_range s (place + d) (place + d + k)) part_size in
      let long : length whole ≡ d + n = ap (λ (l : List ℕ). length l) is ∙ length-append front part ∙ ap (λ (k : ℕ). k + length part) front_size ∙ ap (λ (k : ℕ). d + k) part_size in
      is ∙ ap (λ (l : List ℕ). l ++ part) x ∙ ap (λ (l : List ℕ). slice_range s place (place + d) ++ l) y ∙ sym (slices s place d n)
      ∙ ap (λ (k : ℕ). slice_range s place (place + k)) (sym long);
}

-- ---- writes

module _ (size room at n : ℕ) (places : ℕ → Bool) (second : Bool) (before after : List ℕ) (long : length before ≡ double_size size room)
    (page : at % 512 + n ≤ 512) (range : at + n ≤ size) where
  -- a write in the place where the page stands
  torn_here : places (at / 512) ≡ second → Torn (page_place (table_size size room) (at / 512) second + at % 512) n before after
      → TearsPiece (table_size size room) size places places at n before after
  torn_here stands torn = torn_from at n (seen (table_size size room) places size before) (seen (table_size size room) places size after)
      (size_seen (table_size size room) size places after ∙ sym (size_seen (table_size size room) size places before))
      (omega (arith, range, size_seen (table_size size room) size places before))
      (λ i beside. elim (below_or i size) [
        | inl low ↦ at_seen (table_size size room) size places after i low
            ∙ torn_at (page_place (table_size size room) (at / 512) second + at % 512) n before after torn (spot (table_size size room) places i) (off i beside)
            ∙ sym (at_seen (table_size size room) size places before i low)
        | inr high ↦ get_or_past (seen (table_size size room) places size after) i 0 (omega (arith, high, size_seen (table_size size room) size places after))
            ∙ sym (get_or_past (seen (table_size size room) places size before) i 0 (omega (arith, high, size_seen (table_size size room) size places before)))
      ])
    where
      below_or : (i m : ℕ) → (i < m) ⊎ (m ≤ i)
      below_or i m = grind arith

      base : ℕ
      base = 1024 + 2 * table_size size room

      -- on the same page
      same_page : (i : ℕ) → (i < at) ⊎ (at + n ≤ i) → i / 512 ≡ at / 512 → (t b : ℕ) → (1024 + 2 * t + 1024 * (i / 512) + b + i % 512 < 1024 + 2 * t + 1024 * (at / 512) + b + at % 512)
          ⊎ (1024 + 2 * t + 1024 * (at / 512) + b + at % 512 + n ≤ 1024 + 2 * t + 1024 * (i / 512) + b + i % 512)
      same_page i (inl low) same t b = inl (omega (arith, low, same))
      same_page i (inr high) same t b = inr (omega (arith, high, same))

      other_page : (P p t b s r k : ℕ) → b ≤ 512 → s ≤ 512 → r < 512 → k + n ≤ 512 → P ≢ p
          → (1024 + 2 * t + 1024 * P + b + r < 1024 + 2 * t + 1024 * p + s + k) ⊎ (1024 + 2 * t + 1024 * p + s + k + n ≤ 1024 + 2 * t + 1024 * P + b + r)
      other_page P p t b s r k b_low s_low r_low fits apart = apart_places (1024 + 2 * t) P p b s r k n b_low s_low r_low fits (λ same. absurd (apart same))

      off : (i : ℕ) → (i < at) ⊎ (at + n ≤ i) → (spot (table_size size room) places i < page_place (table_size size room) (at / 512) second + at % 512)
          ⊎ (page_place (table_size size room) (at / 512) second + at % 512 + n ≤ spot (table_size size room) places i)
      off i beside = elim (same_or_not (i / 512) (at / 512)) [
        | inl same ↦ subst (λ (b : Bool). (page_place (table_size size room) (i / 512) b + i % 512 < page_place (table_size size room) (at / 512) second + at % 512)
            ⊎ (page_place (table_size size room) (at / 512) second + at % 512 + n ≤ page_place (table_size size room) (i / 512) b + i % 512)) (sym (ap places same ∙ stands))
            (same_page i beside same (table_size size room) (if second then 512 else 0))
        | inr apart ↦ other_page (i / 512) (at / 512) (table_size size room) (if places (i / 512) then 512 else 0) (if second then 512 else 0) (i % 512) (at % 512)
            (low_place (places (i / 512))) (low_place second) (omega arith) page apart
      ]

  -- a write in its other place
  torn_there : places (at / 512) ≢ second → Torn (page_place (table_size size room) (at / 512) second) 512 before after
      → TearsPiece (table_size size room) size places places at n before after
  torn_there apart torn = torn_same at n (seen (table_size size room) places size before) (seen (table_size size room) places size after)
      (seen_same (table_size size room) size places places after before
      (λ o low. torn_at (page_place (table_size size room) (at / 512) second) 512 before after torn (spot (table_size size room) places o) (off o)))
    where
      zero_more : (o t b s : ℕ) → ((1024 + 2 * t + 1024 * (o / 512) + b + o % 512 < 1024 + 2 * t + 1024 * (at / 512) + s + 0)
          ⊎ (1024 + 2 * t + 1024 * (at / 512) + s + 0 + 512 ≤ 1024 + 2 * t + 1024 * (o / 512) + b + o % 512))
          → (1024 + 2 * t + 1024 * (o / 512) + b + o % 512 < 1024 + 2 * t + 1024 * (at / 512) + s)
          ⊎ (1024 + 2 * t + 1024 * (at / 512) + s + 512 ≤ 1024 + 2 * t + 1024 * (o / 512) + b + o % 512)
      zero_more o t b s (inl x) = inl (omega (arith, x))
      zero_more o t b s (inr x) = inr (omega (arith, x))

      off : (o : ℕ) → (spot (table_size size room) places o < page_place (table_size size room) (at / 512) second)
          ⊎ (page_place (table_size size room) (at / 512) second + 512 ≤ spot (table_size size room) places o)
      off o = zero_more o (table_size size room) (if places (o / 512) then 512 else 0) (if second then 512 else 0)
          (apart_places (1024 + 2 * table_size size room) (o / 512) (at / 512) (if places (o / 512) then 512 else 0) (if second then 512 else 0) (o % 512) 0 512
          (low_place (places (o / 512))) (low_place second) (omega arith) (omega arith)
          (λ same. other_places (places (o / 512)) second (λ e. apart (ap places (sym same) ∙ e))))

  same_bool : (a b : Bool) → (a ≡ b) ⊎ (a ≢ b)
  same_bool true true = inl refl
  same_bool false false = inl refl
  same_bool true false = inr (λ e. false≢true (sym e))
  same_bool false true = inr (λ e. false≢true e)

  -- a write that failed
  pub torn_page : Torn (page_place (table_size size room) (at / 512) second) 512 before after
      → (places (at / 512) ≡ second → Torn (page_place (table_size size room) (at / 512) second + at % 512) n before after)
      → TearsPiece (table_size size room) size places places at n before after
  torn_page whole part = elim (same_bool (places (at / 512)) second) [
    | inl same ↦ torn_here same (part same)
    | inr apart ↦ torn_there apart whole
  ]

-- a write that was done
pub puts_page : (size room at : ℕ) (places new : ℕ → Bool) (second : Bool) (piece before after : List ℕ) → length before ≡ double_size size room → at % 512 + length piece ≤ 512
    → 0 < length piece → at + length piece ≤ size → ((p : ℕ) → new p ≡ moved (at / 512) second places p) → PutsPart (table_size size room) (at / 512) (places (at / 512)) second (at % 512) piece before after
    → PutsPiece (table_size size room) size places new at piece before after
puts_page size room at places new second piece before after long page some range is put =
    let within : 512 * (at / 512) < size = omega (arith, some, range) in
    let whole : 512 * (at / 512) + at % 512 ≡ at = omega arith in
    seen_same (table_size size room) size new (moved (at / 512) second places) after after
    (λ o low. ap (λ (b : Bool). slice_index after (page_place (table_size size room) (o / 512) b + o % 512)) (is (o / 512)))
    ∙ pages_are_patched (table_size size room) size (at / 512) (at % 512) second places piece before after page (omega (arith, range, whole))
    (omega (arith, long, page_end size room (at / 512) (places (at / 512)) within)) put
    ∙ ap (λ (k : ℕ). patch (seen (table_size size room) places size before) k piece) whole

pub one_page : (size room at : ℕ) (last : ℕ → Bool) (before after : List ℕ) → at < size → Torn (page_place (table_size size room) (at / 512) (not (last (at / 512)))) 512 before after
    → TornPages (table_size size room) size last before after
one_page size room at last before after within torn = tears (untorn refl) (at / 512) (omega (arith, within)) torn

-- ---- writes of several pages

pub torn_pages_both : (t size : ℕ) (last : ℕ → Bool) (a b c : List ℕ) → TornPages t size last a b → TornPages t size last b c → TornPages t size last a c
torn_pages_both t size last a b c first (untorn same) = subst (λ (l : List ℕ). TornPages t size last a l) (sym same) first
torn_pages_both t size last a b c first (tears {b = mid} more page within torn) = tears (torn_pages_both t size last a b mid first more) page within torn

pub torn_pages_size : (t size : ℕ) (last : ℕ → Bool) (a b : List ℕ) → TornPages t size last a b → length b ≡ length a
torn_pages_size t size last a b (untorn same) = ap (λ (l : List ℕ). length l) same
torn_pages_size t size last a b (tears {b = mid} more page within torn) = torn.size ∙ torn_pages_size t size last a mid more

-- a piece behind a piece
patch_both : (s x y : List ℕ) (p : ℕ) → p + length x + length y ≤ length s → patch (patch s p x) (p + length x) y ≡ patch s p (x ++ y)
patch_both s x y p fits =
    let within : p + length x ≤ length s = omega (arith, fits) in
    let front_size : length (take p s ++ x) ≡ p + length x = omega (arith, fits, length-append (take p s) x, length-take p s) in
    let front : take (p + length x) (patch s p x) ≡ take p s ++ x = take_at (take p s ++ x) (drop (p + length x) s) (p + length x) front_size in
    let back : drop (p + length x + length y) (patch s p x) ≡ drop (p + length (x ++ y)) s =
    sym (drop-drop (length y) (p + length x) (patch s p x)) ∙ ap (drop (length y)) (patch-back s p x within) ∙ drop-drop (length y) (p + length x) s
    ∙ ap (λ (k : ℕ). drop k s) (omega (arith, length-append x y)) in
    ap (λ (l : List ℕ). l ++ y ++ drop (p + length x + length y) (patch s p x)) front
    ∙ ap (λ (l : List ℕ). take p s ++ x ++ y ++ l) back
    ∙ ap (λ (l : List ℕ). l ++ drop (p + length (x ++ y)) s) (append_assoc (take p s) x y)

pub puts_then : (t size place : ℕ) (p q r : ℕ → Bool) (front part whole a b c : List ℕ) → place + length front + length part ≤ size → whole ≡ front ++ part
    → PutsPiece t size p q place front a b → PutsPiece t size q r (place + length front) part b c → PutsPiece t size p r place whole a c
puts_then t size place p q r front part whole a b c fits is first second =
    second ∙ ap (λ (l : List ℕ). patch l (place + length front) part) first
    ∙ patch_both (seen t p size a) front part place (omega (arith, fits, size_seen t size p a))
    ∙ ap (λ (l : List ℕ). patch (seen t p size a) place l) (sym is)

pub puts_torn : (t size place n m : ℕ) (p q r : ℕ → Bool) (front a b c : List ℕ) → place + n ≤ size → length front + m ≤ n
    → PutsPiece t size p q place front a b → TearsPiece t size q r (place + length front) m b c → TearsPiece t size p r place n a c
puts_torn t size place n m p q r front a b c fits low first second =
    let s = seen t p size a in
    let put : Torn place n s (seen t q size b) = subst (λ (l : List ℕ). Torn place n s l) (sym first)
    (torn_wider place (length front) place n s (patch s place front) (omega arith) (omega (arith, low))
    (patch_torn s place front (omega (arith, fits, low, size_seen t size p a)))) in
    torn_then place n s (seen t q size b) (seen t r size c) put
    (torn_wider (place + length front) m place n (seen t q size b) (seen t r size c) (omega arith) (omega (arith, low)) second)

-- nothing was read or written so far
pub slices_none : (t size : ℕ) (places : ℕ → Bool) (place : ℕ) (buf b : List ℕ) → take 0 buf ≡ slice_range (seen t places size b) place (place + length (take 0 buf))
slices_none t size places place buf b =
    let e : 0 ≡ place + 0 - place = omega arith in
    ap (λ (k : ℕ). take k (drop place (seen t places size b))) e

pub puts_none : (t size place : ℕ) (p : ℕ → Bool) (piece b : List ℕ) → PutsPiece t size p p place (take 0 piece) b b
puts_none t size place p piece b =
    let s = seen t p size b in
    let e : place + 0 ≡ place = omega arith in
    sym (ap (λ (l : List ℕ). l ++ drop (place + 0) s) (append-nil (take place s)) ∙ ap (λ (k : ℕ). take place s ++ drop k s) e ∙ take-append-drop place s)

-- ---- calls one after another

pub serves_ok : {S A B : Type 0} (rack : Ghosts S) (q : ℕ) (r : Result A B) (a b : S) → IsOk r → Serves rack q r a b → Serves {T = Unit {0}} {E = Unit {0}} rack q (Ok tt) a b
serves_ok rack q (Ok x) a b is s = record {
  same_rack = s.same_rack;
  cause = tt;
  spared = s.spared;
  rise = s.rise;
  others = s.others;
  other_faults = s.other_faults;
  others_stand = s.others_stand;
  stands_on = s.stands_on;
  tells = s.tells;
  steady_on = s.steady_on;
}
serves_ok rack q (Err x) a b is s = absurd (false≢true is)

pub serves_done : {S A B : Type 0} (rack : Ghosts S) (q : ℕ) (x : A) (a b : S) → Serves {T = Unit {0}} {E = Unit {0}} rack q (Ok tt) a b → Serves {T = A} {E = B} rack q (Ok x) a b
serves_done rack q x a b s = record {
  same_rack = s.same_rack;
  cause = tt;
  spared = s.spared;
  rise = s.rise;
  others = s.others;
  other_faults = s.other_faults;
  others_stand = s.others_stand;
  stands_on = s.stands_on;
  tells = s.tells;
  steady_on = s.steady_on;
}

pub serves_none : {S : Type 0} (rack : Ghosts S) (q : ℕ) (a : S) → Serves {T = Unit {0}} {E = Unit {0}} rack q (Ok tt) a a
serves_none rack q a = record {
  same_rack = refl;
  cause = tt;
  spared = refl;
  rise = record { faults = λ r. omega arith; calls = omega arith; writes = omega arith };
  others = λ r apart. same_told (rack.bytes a r);
  other_faults = λ r apart. refl;
  others_stand = λ r apart h. h;
  stands_on = λ h. h;
  tells = λ r h. h;
  steady_on = (λ h. h, λ h. h);
}

later_rose : (a b c : ℕ) → a ≤ b → Rose b c → Rose a c
later_rose a b c later rose = omega (arith, later, rose)

module _ {S : Type 0} (rack : Ghosts S) (q : ℕ) (a b c : S) (one : Serves {T = Unit {0}} {E = Unit {0}} rack q (Ok tt) a b) where
  cause_of : {A B : Type 0} (r : Result A B) → OnErr r (Rose ((rack.counts b).faults q) ((rack.counts c).faults q)) → OnErr r (Rose ((rack.counts a).faults q) ((rack.counts c).faults q))
  cause_of (Ok x) rose = tt
  cause_of (Err x) rose = later_rose _ _ _ (one.rise.faults q) rose

  spared_of : {A B : Type 0} (r : Result A B) → OnOk r ((rack.counts c).faults q ≡ (rack.counts b).faults q) → OnOk r ((rack.counts c).faults q ≡ (rack.counts a).faults q)
  spared_of (Ok x) same = same ∙ one.spared
  spared_of (Err x) same = tt

  stands_of : {A B : Type 0} (r : Result A B) → OnOk r (rack.stands b q ≡ true → rack.stands c q ≡ true) → OnOk r (rack.stands a q ≡ true → rack.stands c q ≡ true)
  stands_of (Ok x) on = λ h. on (one.stands_on h)
  stands_of (Err x) on = tt

  pub serves_then : {A B : Type 0} (r : Result A B) → Serves rack q r b c → Serves rack q r a c
  serves_then r two = record {
    same_rack = two.same_rack ∙ one.same_rack;
    cause = cause_of r two.cause;
    spared = spared_of r two.spared;
    rise = record {
      faults = λ x. omega (arith, one.rise.faults x, two.rise.faults x);
      calls = omega (arith, one.rise.calls, two.rise.calls);
      writes = omega (arith, one.rise.writes, two.rise.writes);
    };
    others = λ x apart. same_both _ _ _ (one.others x apart) (two.others x apart);
    other_faults = λ x apart. two.other_faults x apart ∙ one.other_faults x apart;
    others_stand = λ x apart h. two.others_stand x apart (one.others_stand x apart h);
    stands_on = stands_of r two.stands_on;
    tells = λ x h. one.tells x (two.tells x h);
    steady_on = (λ h. two.steady_on.0 (one.steady_on.0 h), λ h. one.steady_on.1 (two.steady_on.1 h));
  }

-- ---- loops over pages

-- so many bytes were read
pub record ReadSoFar {S : Type 0} (rack : Ghosts S) (q t size : ℕ) (places : ℕ → Bool) (place done : ℕ) (first buf : List ℕ) (a b : S) : Type 0 where
  pub made : Makes rack (IsOn q) a b
  pub serves : Serves {T = Unit {0}} {E = Unit {0}} rack q (Ok tt) a b
  pub low : done ≤ length first
  pub long : length buf ≡ length first
  pub reads : Told (ReadsPiece t size places place (take done buf)) (rack.bytes a q) (rack.bytes b q)

-- or written
pub record WroteSoFar {S : Type 0} (rack : Ghosts S) (q t size : ℕ) (last old new : ℕ → Bool) (place done : ℕ) (piece : List ℕ) (a b : S) : Type 0 where
  pub made : Makes rack (IsOn q) a b
  pub serves : Serves {T = Unit {0}} {E = Unit {0}} rack q (Ok tt) a b
  pub low : done ≤ length piece
  pub pages : Told (TornPages t size last) (rack.bytes a q) (rack.bytes b q)
  pub puts : Told (PutsPiece t size old new place (take done piece)) (rack.bytes a q) (rack.bytes b q)
