-- The loops that read and write a member page by page.
use Rattle.std.proofs.Common.{◌≡◌, ◌≤◌, ◌+◌, ◌-◌, ◌++◌, ℕ, Bool, List, length, take, drop, refl, sym, ◌∙◌, ap, arith, subst, append_assoc, length-append, length-take, length-drop}
use Rattle.std.specs.Prelude.{IfSome, IsOk, Result, Ok}
use Rattle.std.proofs.lemmas.List.{take_all, take_at}
use borrow.Rule.Slice.PartMut.{put_mid}
use Rattle.dg_io.specs.Makes.{Makes}
use Rattle.dg_io.specs.MakesLaws.{makes_both, makes_none}
use Rattle.dg_io.specs.Told.{IsSame, Told}
use Rattle.dg_io.specs.declared.outside.Rack.{Ghosts}
use Rattle.dg_stop.proofs.PieceLemmas.{ReadSoFar, WroteSoFar, puts_none, puts_then, puts_torn, reads_then, serves_none, serves_ok, serves_then, slices_none, take_parts, told_map, told_self, told_then, long_then, torn_pages_both, torn_pages_size}
use Rattle.dg_stop.specs.Pages.{PutsPiece, ReadsPiece, TearsPiece, TornPages}
use Rattle.dg_stop.specs.Pages.TornPages.{untorn}
use Rattle.dg_stop.specs.Serving.{IsOn, Serves}

-- ---- reads

pub read_none : {S : Type 0} (rack : Ghosts S) (q t size : ℕ) (places : ℕ → Bool) (place : ℕ) (buf : List ℕ) (a : S) → place ≤ size → ReadSoFar rack q t size places place 0 buf buf a a
read_none rack q t size places place buf a fits = record {
  made = makes_none rack (IsOn q) a;
  serves = serves_none rack q a;
  low = omega arith;
  long = refl;
  reads = told_self (ReadsPiece t size places place (take 0 buf)) (rack.bytes a q) (λ b. record { same = refl; there = slices_none t size places place buf b });
}

-- the buffer with a part of it read
module _ (d n k : ℕ) (buf part next : List ℕ) (size_is : length part ≡ n) (same : k ≡ n) (fits : d + n ≤ length buf) (is : next ≡ put_mid d k buf part) where
  front_of : take (d + n) next ≡ take d buf ++ part
  front_of =
      ap (λ (l : List ℕ). take (d + n) l) (is ∙ sym (append_assoc (take d buf) part (drop k (drop d buf))))
      ∙ take_at (take d buf ++ part) (drop k (drop d buf)) (d + n) (omega (arith, fits, size_is, length-append (take d buf) part, length-take d buf))

  long_of : length next ≡ length buf
  long_of = ap (λ (l : List ℕ). length l) is
      ∙ omega (arith, length-append (take d buf) (part ++ drop k (drop d buf)), length-append part (drop k (drop d buf)), length-take d buf, length-drop k (drop d buf), length-drop d buf, size_is, same, fits)

-- a part of a list is as long as that
pub part_long : (d n : ℕ) (l : List ℕ) → d + n ≤ length l → length (take (d + n - d) (drop d l)) ≡ n
part_long d n l fits = omega (arith, length-take (d + n - d) (drop d l), length-drop d l, fits)

pub part_is : (d n : ℕ) (l : List ℕ) → take (d + n - d) (drop d l) ≡ take n (drop d l)
part_is d n l =
    let e : d + n - d ≡ n = omega arith in
    ap (λ (k : ℕ). take k (drop d l)) e

pub read_turn : {S A B : Type 0} (rack : Ghosts S) (q t size : ℕ) (places : ℕ → Bool) (place d n k : ℕ) (first buf part next : List ℕ) (r : Result A B) (a b c : S)
    → ReadSoFar rack q t size places place d first buf a b → length part ≡ n → k ≡ n → d + n ≤ length first → next ≡ put_mid d k buf part
    → Makes rack (IsOn q) b c → IsOk r → Serves rack q r b c → Told (ReadsPiece t size places (place + d) part) (rack.bytes b q) (rack.bytes c q)
    → ReadSoFar rack q t size places place (d + n) first next a c
read_turn rack q t size places place d n k first buf part next r a b c so size_is same fits is made ok serves reads = record {
  made = makes_both rack (IsOn q) a b c so.made made;
  serves = serves_then rack q a b c so.serves (Ok tt) (serves_ok rack q r b c ok serves);
  low = fits;
  long = long_of d n k buf part next size_is same (omega (arith, so.long, fits)) is ∙ so.long;
  reads = told_then (ReadsPiece t size places place (take d buf)) (ReadsPiece t size places (place + d) part) (ReadsPiece t size places place (take (d + n) next))
      (rack.bytes a q) (rack.bytes b q) (rack.bytes c q)
      (λ x y z one two. reads_then t size place d n places (take d buf) part (take (d + n) next) x y z (omega (arith, length-take d buf, so.long, fits)) size_is
      (front_of d n k buf part next size_is same (omega (arith, so.long, fits)) is) one two) so.reads reads;
}

-- the bytes are as they were so far
pub read_same : {S : Type 0} (rack : Ghosts S) (q t size : ℕ) (places : ℕ → Bool) (place d : ℕ) (first buf : List ℕ) (a b : S) → ReadSoFar rack q t size places place d first buf a b
    → Told IsSame (rack.bytes a q) (rack.bytes b q)
read_same rack q t size places place d first buf a b so = told_map (ReadsPiece t size places place (take d buf)) IsSame (rack.bytes a q) (rack.bytes b q) (λ x y r. r.same) so.reads

pub read_long : {S : Type 0} (rack : Ghosts S) (q t size : ℕ) (places : ℕ → Bool) (place d n : ℕ) (first buf : List ℕ) (a b : S) → ReadSoFar rack q t size places place d first buf a b
    → IfSome (rack.bytes a q) (λ all. length all ≡ n) → IfSome (rack.bytes b q) (λ all. length all ≡ n)
read_long rack q t size places place d n first buf a b so long = long_then IsSame n (rack.bytes a q) (rack.bytes b q) (λ x y e. ap (λ (l : List ℕ). length l) e) (read_same rack q t size places place d first buf a b so) long

-- all of it was read
pub read_all : {S : Type 0} (rack : Ghosts S) (q t size : ℕ) (places : ℕ → Bool) (place d : ℕ) (first buf : List ℕ) (a b : S) → ReadSoFar rack q t size places place d first buf a b
    → length buf ≤ d → Told (ReadsPiece t size places place buf) (rack.bytes a q) (rack.bytes b q)
read_all rack q t size places place d first buf a b so past =
    subst (λ (l : List ℕ). Told (ReadsPiece t size places place l) (rack.bytes a q) (rack.bytes b q)) (take_all d buf past) so.reads

-- ---- writes

pub wrote_none : {S : Type 0} (rack : Ghosts S) (q t size : ℕ) (last old : ℕ → Bool) (place : ℕ) (piece : List ℕ) (a : S) → place ≤ size → WroteSoFar rack q t size last old old place 0 piece a a
wrote_none rack q t size last old place piece a fits = record {
  made = makes_none rack (IsOn q) a;
  serves = serves_none rack q a;
  low = omega arith;
  pages = told_self (TornPages t size last) (rack.bytes a q) (λ b. untorn refl);
  puts = told_self (PutsPiece t size old old place (take 0 piece)) (rack.bytes a q) (λ b. puts_none t size place old piece b);
}

taken : (d n : ℕ) (piece : List ℕ) → d + n ≤ length piece → (length (take d piece) ≡ d) × (length (take n (drop d piece)) ≡ n)
taken d n piece fits = (omega (arith, length-take d piece, fits), omega (arith, length-take n (drop d piece), length-drop d piece, fits))

module _ {S A B : Type 0} (rack : Ghosts S) (q t size : ℕ) (last old mid new : ℕ → Bool) (place d n : ℕ) (piece part : List ℕ) (r : Result A B) (a b c : S)
    (so : WroteSoFar rack q t size last old mid place d piece a b) (part_is : part ≡ take n (drop d piece)) (fits : d + n ≤ length piece) (range : place + length piece ≤ size)
    (made : Makes rack (IsOn q) b c) (serves : Serves rack q r b c) (pages : Told (TornPages t size last) (rack.bytes b q) (rack.bytes c q)) where
  pub turn_made : Makes rack (IsOn q) a c
  turn_made = makes_both rack (IsOn q) a b c so.made made

  pub turn_serves : Serves rack q r a c
  turn_serves = serves_then rack q a b c so.serves r serves

  pub turn_pages : Told (TornPages t size last) (rack.bytes a q) (rack.bytes c q)
  turn_pages = told_then (TornPages t size last) (TornPages t size last) (TornPages t size last) (rack.bytes a q) (rack.bytes b q) (rack.bytes c q) (λ x y z. torn_pages_both t size last x y z) so.pages pages

  front_size : length (take d piece) ≡ d
  front_size = (taken d n piece fits).0

  part_size : length part ≡ n
  part_size = ap (λ (l : List ℕ). length l) part_is ∙ (taken d n piece fits).1

  pub wrote_turn : IsOk r → Told (PutsPiece t size mid new (place + d) part) (rack.bytes b q) (rack.bytes c q) → WroteSoFar rack q t size last old new place (d + n) piece a c
  wrote_turn ok puts = record {
    made = turn_made;
    serves = serves_then rack q a b c so.serves (Ok tt) (serves_ok rack q r b c ok serves);
    low = fits;
    pages = turn_pages;
    puts = told_then (PutsPiece t size old mid place (take d piece)) (PutsPiece t size mid new (place + d) part) (PutsPiece t size old new place (take (d + n) piece))
        (rack.bytes a q) (rack.bytes b q) (rack.bytes c q)
        (λ x y z one two. puts_then t size place old mid new (take d piece) part (take (d + n) piece) x y z (omega (arith, front_size, part_size, fits, range))
        (take_parts d n piece ∙ ap (λ (l : List ℕ). take d piece ++ l) (sym part_is)) one
        (subst (λ (k : ℕ). PutsPiece t size mid new (place + k) part y z) (sym front_size) two)) so.puts puts;
  }

  pub turn_torn : Told (TearsPiece t size mid new (place + d) (length part)) (rack.bytes b q) (rack.bytes c q) → Told (TearsPiece t size old new place (length piece)) (rack.bytes a q) (rack.bytes c q)
  turn_torn torn = told_then (PutsPiece t size old mid place (take d piece)) (TearsPiece t size mid new (place + d) (length part)) (TearsPiece t size old new place (length piece))
      (rack.bytes a q) (rack.bytes b q) (rack.bytes c q)
      (λ x y z one two. puts_torn t size place (length piece) (length part) old mid new (take d piece) x y z range (omega (arith, front_size, part_size, fits)) one
      (subst (λ (k : ℕ). TearsPiece t size mid new (place + k) (length part) y z) (sym front_size) two)) so.puts torn

-- the whole piece was written
pub wrote_all : {S : Type 0} (rack : Ghosts S) (q t size : ℕ) (last old new : ℕ → Bool) (place d : ℕ) (piece : List ℕ) (a b : S) → WroteSoFar rack q t size last old new place d piece a b
    → length piece ≤ d → Told (PutsPiece t size old new place piece) (rack.bytes a q) (rack.bytes b q)
wrote_all rack q t size last old new place d piece a b so past =
    subst (λ (l : List ℕ). Told (PutsPiece t size old new place l) (rack.bytes a q) (rack.bytes b q)) (take_all d piece past) so.puts

pub wrote_long : {S : Type 0} (rack : Ghosts S) (q t size n : ℕ) (last old new : ℕ → Bool) (place d : ℕ) (piece : List ℕ) (a b : S) → WroteSoFar rack q t size last old new place d piece a b
    → IfSome (rack.bytes a q) (λ all. length all ≡ n) → IfSome (rack.bytes b q) (λ all. length all ≡ n)
wrote_long rack q t size n last old new place d piece a b so long = long_then (TornPages t size last) n (rack.bytes a q) (rack.bytes b q) (λ x y e. torn_pages_size t size last x y e) so.pages long
