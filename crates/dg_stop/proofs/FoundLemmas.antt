-- Headers that are read of bytes.
use Rattle.std.proofs.Common.{◌≡◌, ℕ, Bool, List, drop, refl, sym, ◌∙◌, ap, arith, subst, true, false}
use Rattle.std.proofs.lemmas.Bool.Decides.{Decides-eqb}
use Rattle.std.specs.Prelude.{◌==◌, Some, slice_index}
use Rattle.byteorder.specs.Endian.{little_from}
use Rattle.dg_stop.proofs.HeaderLemmas.{HasNumbers, own_numbers}
use Rattle.dg_stop.specs.FoundHeaders.{HasRange}
use Rattle.dg_stop.specs.Headers.{header_bytes, mark_byte}
use Rattle.dg_stop.specs.Values.{header_of}
use Rattle.dg_stop.specs.declared.headers.Header.{Header}

same_stored : (s s' m m' n n' r r' x x' : ℕ) (c c' : Bool) → s ≡ s' → c ≡ c' → m ≡ m' → n ≡ n' → r ≡ r' → x ≡ x'
    → ◌≡◌ {A = Header} (record { sequence = s; committed = c; member = m; size = n; room = r; extra = x })
    (record { sequence = s'; committed = c'; member = m'; size = n'; room = r'; extra = x' })
same_stored s s' m m' n n' r r' x x' c c' e1 e2 e3 e4 e5 e6 = rw (e1, e2, e3, e4, e5, e6) refl

pub mark_is : (n : ℕ) → n ≡ 0x43 → (n == 0x43) ≡ true
mark_is n e = (Decides-eqb n 0x43).1 e

pub is_mark : (n : ℕ) → (n == 0x43) ≡ true → n ≡ 0x43
is_mark n e = (Decides-eqb n 0x43).0 e

-- the numbers that are read of a page, where the page is a header's bytes
pub record ReadsAs (page : List ℕ) (h : Header) : Type 0 where
  pub sequence : little_from 0 8 (drop 8 page) ≡ h.sequence
  pub mark : slice_index page 16 ≡ 0x43 → h.committed ≡ true
  pub unmarked : h.committed ≡ true → slice_index page 16 ≡ 0x43
  pub member : slice_index page 17 ≡ h.member
  pub size : little_from 0 8 (drop 24 page) ≡ h.size
  pub room : little_from 0 4 (drop 32 page) ≡ h.room
  pub extra : little_from 0 4 (drop 36 page) ≡ h.extra

one_mark : (a b : Bool) (n : ℕ) → (n ≡ 0x43 → a ≡ true) → (a ≡ true → n ≡ 0x43) → n ≡ mark_byte b → a ≡ b
one_mark true true n is was e = refl
one_mark false false n is was e = refl
one_mark true false n is was e = absurd (omega (arith, e, was refl))
one_mark false true n is was e = is e

-- bytes are one header at most
pub read_back : (page : List ℕ) (h k : Header) → ReadsAs page h → HasRange (header_of k) → page ≡ header_bytes (header_of k) → h ≡ k
read_back page h k has is e =
    let own = subst (λ (l : List ℕ). HasNumbers l (header_of k)) (sym e) (own_numbers (header_of k) is.sequences is.sizes is.rooms is.extras) in
    same_stored h.sequence k.sequence h.member k.member h.size k.size h.room k.room h.extra k.extra h.committed k.committed
    (sym has.sequence ∙ own.sequence) (one_mark h.committed k.committed (slice_index page 16) has.mark has.unmarked own.mark) (sym has.member ∙ own.member)
    (sym has.size ∙ own.size) (sym has.room ∙ own.room) (sym has.extra ∙ own.extra)

pub read_some : (page : List ℕ) (h k : Header) → ReadsAs page h → HasRange (header_of k) → page ≡ header_bytes (header_of k) → Some h ≡ Some k
read_some page h k has is e = ap Some (read_back page h k has is e)

-- what isn't the bytes of its own numbers is no header's
pub read_none : (page own : List ℕ) (h k : Header) → ReadsAs page h → own ≡ header_bytes (header_of h) → HasRange (header_of k) → page ≡ header_bytes (header_of k) → page ≡ own
read_none page own h k has is ok e = e ∙ ap (λ (x : Header). header_bytes (header_of x)) (sym (read_back page h k has ok e)) ∙ sym is
