-- That bytes are one header at most.
use Rattle.std.proofs.Common.{◌≡◌, ◌<◌, ◌+◌, ◌*◌, ◌%◌, ◌^◌, ℕ, Bool, true, false, List, length, drop, refl, sym, ◌∙◌, ap, arith, subst}
use Rattle.std.specs.Prelude.{slice_index, slice_range}
use Rattle.byteorder.specs.Endian.{little_from}
use Rattle.byteorder.specs.Numbers.{little_number-reads_back}
use Rattle.dg_stop.specs.Headers.{Header, HasHeader, IsHeader, header_bytes, mark_byte}
use Rattle.dg_stop.specs.Layouts.{header_place}

pub record HasNumbers (buf : List ℕ) (h : Header) : Type 0 where
  pub sequence : little_from 0 8 (drop 8 buf) ≡ h.sequence
  pub mark : slice_index buf 16 ≡ mark_byte h.committed
  pub member : slice_index buf 17 ≡ h.member
  pub size : little_from 0 8 (drop 24 buf) ≡ h.size
  pub room : little_from 0 4 (drop 32 buf) ≡ h.room
  pub extra : little_from 0 4 (drop 36 buf) ≡ h.extra

pub own_numbers : (h : Header) → h.sequence < 2 ^ 64 → h.size < 2 ^ 64 → h.room < 2 ^ 32 → h.extra < 2 ^ 32 → HasNumbers (header_bytes h) h
unfolding header_bytes
own_numbers h s n r x = record {
  sequence = little_number-reads_back 8 h.sequence (drop 16 (header_bytes h)) s;
  mark = refl;
  member = refl;
  size = little_number-reads_back 8 h.size (drop 32 (header_bytes h)) n;
  room = little_number-reads_back 4 h.room (drop 36 (header_bytes h)) r;
  extra = little_number-reads_back 4 h.extra (drop 40 (header_bytes h)) x;
}

numbers_of : (h : Header) → IsHeader h → HasNumbers (header_bytes h) h
numbers_of h is = own_numbers h (omega (arith, is.last)) is.sizes is.rooms (omega (arith, is.fits, is.rooms))

marked : (a b : Bool) → mark_byte a ≡ mark_byte b → a ≡ b
marked true true e = refl
marked false false e = refl
marked true false e = absurd (omega (arith, e))
marked false true e = absurd (omega (arith, e))

same_fields : (s s' m m' n n' r r' x x' : ℕ) (c c' : Bool) → s ≡ s' → c ≡ c' → m ≡ m' → n ≡ n' → r ≡ r' → x ≡ x'
    → ◌≡◌ {A = Header} (record { sequence = s; committed = c; member = m; size = n; room = r; extra = x })
    (record { sequence = s'; committed = c'; member = m'; size = n'; room = r'; extra = x' })
same_fields s s' m m' n n' r r' x x' c c' e1 e2 e3 e4 e5 e6 = rw (e1, e2, e3, e4, e5, e6) refl

pub same_header : (h k : Header) → IsHeader h → IsHeader k → header_bytes h ≡ header_bytes k → h ≡ k
same_header h k h_is k_is e =
    let a = numbers_of h h_is in
    let b : HasNumbers (header_bytes h) k = subst (λ (l : List ℕ). HasNumbers l k) (sym e) (numbers_of k k_is) in
    same_fields h.sequence k.sequence h.member k.member h.size k.size h.room k.room h.extra k.extra h.committed k.committed
    (sym a.sequence ∙ b.sequence) (marked h.committed k.committed (sym a.mark ∙ b.mark)) (sym a.member ∙ b.member) (sym a.size ∙ b.size)
    (sym a.room ∙ b.room) (sym a.extra ∙ b.extra)

-- a member has one header at most in each of the two places
pub one_header : (q : ℕ) (all : List ℕ) (h k : Header) → HasHeader q all h → HasHeader q all k → h.sequence % 2 ≡ k.sequence % 2 → h ≡ k
one_header q all h k has other parity =
    let at : header_place h.sequence ≡ header_place k.sequence = ap (λ (x : ℕ). 512 * x) parity in
    same_header h k has.is other.is (sym has.bytes ∙ ap (λ (x : ℕ). slice_range all x (x + 512)) at ∙ other.bytes)

pub header_size : (h : Header) → length (header_bytes h) ≡ 512
unfolding header_bytes
header_size h = refl
