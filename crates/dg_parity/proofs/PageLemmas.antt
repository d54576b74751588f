-- The bytes of a header: put into a page one behind the other, and read again.
use Rattle.std.proofs.Common.{◌≡◌, ◌+◌, ◌-◌, ◌≤◌, ◌++◌, ℕ, List, [], ◌∷◌, length, take, drop, refl, sym, ◌∙◌, ap, arith, subst}
use Rattle.std.specs.Prelude.{codes, replicate, slice_index, Some}
use Rattle.std.proofs.lemmas.List.{append_assoc, length-append, drop-replicate, drop_at, take_at}
use borrow.Rule.Slice.PartMut.{put_mid}
use Rattle.byteorder.specs.Endian.{little_bytes, little_from}
use Rattle.byteorder.specs.Numbers.{little_number-reads_back}
use Rattle.dg_model.specs.Blocks.{padded}
use Rattle.dg_parity.specs.Headers.{IsHeader, header_bytes}
use Rattle.dg_parity.specs.declared.headers.Header.{Header}

pub put_padded : (done bytes old : List ℕ) (a k : ℕ) → length done ≡ a → k ≡ length bytes → a + k ≤ 512 → old ≡ padded 512 done
    → put_mid a k old bytes ≡ padded 512 (done ++ bytes)
put_padded done bytes old a k at long room is =
    let front : take a old ≡ done = ap (take a) is ∙ take_at done (replicate (512 - length done) 0) a at in
    let back : drop a old ≡ replicate (512 - length done) 0 = ap (drop a) is ∙ drop_at done (replicate (512 - length done) 0) a at in
    let rest : drop k (drop a old) ≡ replicate (512 - length (done ++ bytes)) 0 =
    ap (drop k) back ∙ drop-replicate k (512 - length done) 0
    ∙ ap (λ (n : ℕ). replicate n 0) (omega (arith, length-append done bytes)) in
    ap (λ (xs : List ℕ). xs ++ (bytes ++ drop k (drop a old))) front
    ∙ ap (λ (xs : List ℕ). done ++ (bytes ++ xs)) rest
    ∙ sym (append_assoc done bytes (replicate (512 - length (done ++ bytes)) 0))

-- what stands in a page, and where it ends
pub record Stands (page done : List ℕ) (at : ℕ) : Type 0 where
  pub is : page ≡ padded 512 done
  pub end : length done ≡ at

pub put_next : (page new done bytes : List ℕ) (at next : ℕ) → next ≡ at + length bytes
    → ((d : List ℕ) → length d ≡ at → page ≡ padded 512 d → new ≡ padded 512 (d ++ bytes))
    → Stands page done at → Stands new (done ++ bytes) next
put_next page new done bytes at next end puts stands = record { is = puts done stands.end stands.is; end = omega (arith, end, stands.end, length-append done bytes) }

pub parts_are : (h : Header) (epoch size : List ℕ) → epoch ≡ little_bytes 8 h.epoch → size ≡ little_bytes 8 h.size
    → padded 512 (((([] ++ codes "DGRAID-P") ++ epoch) ++ h.group ∷ h.place ∷ h.disks ∷ h.marks ∷ 0 ∷ 0 ∷ 0 ∷ 0 ∷ []) ++ size) ≡ header_bytes h
unfolding header_bytes
parts_are h epoch size e0 e1 = rw (e0, e1) refl

pub header_size : (h : Header) → length (header_bytes h) ≡ 512
unfolding header_bytes
header_size h = refl

-- the numbers that stand at their places in a page
pub record HasNumbers (page : List ℕ) (h : Header) : Type 0 where
  pub epoch : little_from 0 8 (drop 8 page) ≡ h.epoch
  pub group : slice_index page 16 ≡ h.group
  pub place : slice_index page 17 ≡ h.place
  pub disks : slice_index page 18 ≡ h.disks
  pub marks : slice_index page 19 ≡ h.marks
  pub size : little_from 0 8 (drop 24 page) ≡ h.size

pub own_numbers : (h : Header) → IsHeader h → HasNumbers (header_bytes h) h
unfolding header_bytes
own_numbers h is = record {
  epoch = little_number-reads_back 8 h.epoch (drop 16 (header_bytes h)) is.epochs;
  group = refl;
  place = refl;
  disks = refl;
  marks = refl;
  size = little_number-reads_back 8 h.size (drop 32 (header_bytes h)) is.sizes;
}

pub same_fields : (e e' g g' p p' n n' m m' s s' : ℕ) → e ≡ e' → g ≡ g' → p ≡ p' → n ≡ n' → m ≡ m' → s ≡ s'
    → ◌≡◌ {A = Header} (record { epoch = e; group = g; place = p; disks = n; marks = m; size = s })
    (record { epoch = e'; group = g'; place = p'; disks = n'; marks = m'; size = s' })
same_fields e e' g g' p p' n n' m m' s s' e1 e2 e3 e4 e5 e6 = rw (e1, e2, e3, e4, e5, e6) refl

-- bytes are one header at most
pub read_back : (page : List ℕ) (h k : Header) → HasNumbers page h → IsHeader k → page ≡ header_bytes k → h ≡ k
read_back page h k has is e =
    let own : HasNumbers page k = subst (λ (l : List ℕ). HasNumbers l k) (sym e) (own_numbers k is) in
    same_fields h.epoch k.epoch h.group k.group h.place k.place h.disks k.disks h.marks k.marks h.size k.size
    (sym has.epoch ∙ own.epoch) (sym has.group ∙ own.group) (sym has.place ∙ own.place) (sym has.disks ∙ own.disks) (sym has.marks ∙ own.marks) (sym has.size ∙ own.size)

pub read_some : (page : List ℕ) (h k : Header) → HasNumbers page h → IsHeader k → page ≡ header_bytes k → Some h ≡ Some k
read_some page h k has is e = ap Some (read_back page h k has is e)

-- what isn't the bytes of its own numbers is no header's
pub read_none : (page own : List ℕ) (h k : Header) → HasNumbers page h → own ≡ header_bytes h → IsHeader k → page ≡ header_bytes k → page ≡ own
read_none page own h k has is ok e = e ∙ ap header_bytes (sym (read_back page h k has ok e)) ∙ sym is
