-- Bytes that are put into a page one behind the other.
use Rattle.std.proofs.Common.{◌≡◌, ◌+◌, ◌-◌, ◌≤◌, ◌++◌, ℕ, List, [], ◌∷◌, length, take, drop, refl, sym, ◌∙◌, ap, arith}
use Rattle.std.specs.Prelude.{codes, replicate}
use Rattle.std.proofs.lemmas.List.{append_assoc, length-append, drop-replicate, drop_at, take_at}
use borrow.Rule.Slice.PartMut.{put_mid}
use Rattle.byteorder.specs.Endian.{little_bytes}
use Rattle.dg_model.specs.Blocks.{padded}
use Rattle.dg_stop.specs.Headers.{Header, header_bytes, mark_byte}

pub put_padded : (done bytes old : List ℕ) (a k : ℕ) → length done ≡ a → k ≡ length bytes → a + k ≤ 512 → old ≡ padded 512 done
    → put_mid a k old bytes ≡ padded 512 (done ++ bytes)
put_padded done bytes old a k at long room is =
    let front : take a old ≡ done = ap (take a) is ∙ take_at done (replicate (512 - length done) 0) a at in
    let back : drop a old ≡ replicate (512 - length done) 0 = ap (drop a) is ∙ drop_at done (replicate (512 - length done) 0) a at in
    let rest : drop k (drop a old) ≡ replicate (512 - length (done ++ bytes)) 0 =
    ap (drop k) back ∙ drop-replicate k (512 - length done) 0
    ∙ ap (λ (n : ℕ). replicate n 0) (omega (arith, length-append done bytes)) in
    ap (λ (xs : List ℕ). xs ++ (bytes ++ drop k (drop a old))) front
    ∙ ap (λ (xs : List ℕ). done ++ (bytes ++ xs)) rest
    ∙ sym (append_assoc done bytes (replicate (512 - length (done ++ bytes)) 0))

-- what stands in a buffer, and where it ends
pub record Stands (buf done : List ℕ) (at : ℕ) : Type 0 where
  pub is : buf ≡ padded 512 done
  pub end : length done ≡ at

pub put_next : (buf new done bytes : List ℕ) (at next : ℕ) → next ≡ at + length bytes
    → ((d : List ℕ) → length d ≡ at → buf ≡ padded 512 d → new ≡ padded 512 (d ++ bytes))
    → Stands buf done at → Stands new (done ++ bytes) next
put_next buf new done bytes at next end puts stands = record { is = puts done stands.end stands.is; end = omega (arith, end, stands.end, length-append done bytes) }

pub parts_are : (h : Header) (mark : ℕ) (sequence size room extra : List ℕ) → mark ≡ mark_byte h.committed → sequence ≡ little_bytes 8 h.sequence
    → size ≡ little_bytes 8 h.size → room ≡ little_bytes 4 h.room → extra ≡ little_bytes 4 h.extra
    → padded 512 (((((([] ++ codes "DGRAID-S") ++ sequence) ++ mark ∷ h.member ∷ 0 ∷ 0 ∷ 0 ∷ 0 ∷ 0 ∷ 0 ∷ []) ++ size) ++ room) ++ extra)
    ≡ header_bytes h
unfolding header_bytes
parts_are h mark sequence size room extra e0 e1 e2 e3 e4 = rw (e0, e1, e2, e3, e4) refl
