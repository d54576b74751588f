-- Two calls on a group, one after the other.
use Rattle.std.proofs.Common.{◌≡◌, ◌≢◌, ℕ, ◌<◌, true, false, List, refl, sym, ◌∙◌}
use Rattle.std.specs.Prelude.{IfSome}
use Rattle.std.proofs.Common.{add-one}
use lib.Bits.{xor_assoc}
use Rattle.dg_io.specs.Told.{Told, IsSame, Patched, OthersSame}
use Rattle.dg_io.specs.declared.outside.Rack.{Ghosts}
use Rattle.std.specs.Prelude.{slice_index, length, take, bit_xor, ◌+◌, ◌≤◌}
use Rattle.std.proofs.Common.{ap, subst, arith, inl, inr}
use Rattle.std.proofs.lemmas.Bool.{cases_eq, false≢true}
use Rattle.dg_parity.specs.Exclusive.{xor_upto, with_at}
use Rattle.dg_parity.specs.Stripes.{put, written, next_parity, IsEven, IsParity, InStripes}
use Rattle.dg_parity.specs.Groups.{disk_number, is_out, is_lost, length_of, AllTold, Holds, IsLater, IsReady, LeavesGroup, IsSpot, HasHead, header_in, FellOne}
use Rattle.dg_parity.specs.Headers.{header_bytes}
use Rattle.dg_parity.specs.declared.stripes.Spot.{Spot}
use Rattle.dg_parity.specs.declared.groups.Group.{Group}
use Rattle.dg_parity.proofs.GroupLemmas.{told-before, Marks, later-then, in-before, head-same, head-put, other-disk}
use Rattle.dg_parity.proofs.HoldLemmas.{holds-failed, holds-of, holds-same, holds-written, holds-headed, put-other}
use Rattle.dg_parity.proofs.PartLemmas.{two-out, parity-changed, parity-made, made-up, put-both}

pub told-back : {S : Type 0} (rack : Ghosts S) (old new : Group) (before now : S) → LeavesGroup rack old new before now → AllTold rack new now → AllTold rack old before
told-back rack old new before now h all = told-before rack old new before now h.later h.tells all

pub holds-then : {S : Type 0} (rack : Ghosts S) (a b c : Group) (s t u : S) → LeavesGroup rack b c t u
    → ((has : ℕ → ℕ → ℕ) → AllTold rack b t → Holds rack a s has → Holds rack b t has)
    → ((has : ℕ → ℕ → ℕ) → AllTold rack c u → Holds rack b t has → Holds rack c u has)
    → (has : ℕ → ℕ → ℕ) → AllTold rack c u → Holds rack a s has → Holds rack c u has
holds-then rack a b c s t u leaves f g has all held = g has all (f has (told-back rack b c t u leaves all) held)

-- the same spot in the same group
pub spot-later : (a b : Group) (spot : Spot) → IsLater a b → IsSpot a spot → IsSpot b spot
spot-later a b spot h at = record {
  disk = subst (λ (n : ℕ). spot.disk < n) (sym h.disks) at.disk;
  parity = subst (λ (n : ℕ). spot.parity < n) (sym h.disks) at.parity;
  apart = at.apart;
  behind = at.behind;
}

pub even-later : (a b : Group) (has : ℕ → ℕ → ℕ) → IsLater a b → IsEven a.disks a.length has → IsEven b.disks b.length has
even-later a b has h even = subst (λ (n : ℕ). IsEven n b.length has) (sym h.disks) (subst (λ (z : ℕ). IsEven a.disks z has) (sym h.size) even)

-- ---- the parity of a piece

pub right-changed : (has : ℕ → ℕ → ℕ) (spot : Spot) (piece row0 row1 row2 : List ℕ) (k : ℕ) → row0 ≡ piece
    → slice_index row1 k ≡ bit_xor (slice_index row0 k) (has spot.disk (spot.place + k))
    → slice_index row2 k ≡ bit_xor (slice_index row1 k) (has spot.parity (spot.place + k))
    → slice_index row2 k ≡ next_parity has spot.disk spot.parity (spot.place + k) (slice_index piece k)
right-changed has spot piece row0 row1 row2 k copied first second =
    second ∙ ap (λ (v : ℕ). bit_xor v (has spot.parity (spot.place + k))) (first ∙ ap (λ (l : List ℕ). bit_xor (slice_index l k) (has spot.disk (spot.place + k))) copied)
    ∙ parity-changed (slice_index piece k) (has spot.disk (spot.place + k)) (has spot.parity (spot.place + k))

range-of : (group : Group) (spot : Spot) (k n : ℕ) → IsSpot group spot → spot.place + n ≤ length_of group → k < n → InStripes group.disks group.length (spot.place + k)
range-of group spot k n at fits lt = record { behind = omega (arith, at.behind); below = omega arith }

pub right-others : (group : Group) (has : ℕ → ℕ → ℕ) (spot : Spot) (piece row0 row1 : List ℕ) (k : ℕ) → IsSpot group spot → IsEven group.disks group.length has
    → spot.place + length piece ≤ length_of group → k < length piece → row0 ≡ piece
    → slice_index row1 k ≡ bit_xor (slice_index row0 k) (xor_upto (with_at (with_at (λ i. has i (spot.place + k)) spot.disk 0) spot.parity 0) group.disks)
    → slice_index row1 k ≡ next_parity has spot.disk spot.parity (spot.place + k) (slice_index piece k)
right-others group has spot piece row0 row1 k at even fits lt copied made =
    made ∙ ap (λ (l : List ℕ). bit_xor (slice_index l k) (xor_upto (with_at (with_at (λ i. has i (spot.place + k)) spot.disk 0) spot.parity 0) group.disks)) copied
    ∙ parity-made (λ i. has i (spot.place + k)) spot.disk spot.parity (slice_index piece k) group.disks at.disk at.parity at.apart
    (even (spot.place + k) (range-of group spot k (length piece) at fits lt))

pub right-made : (group : Group) (has : ℕ → ℕ → ℕ) (spot : Spot) (row0 row1 : List ℕ) (k n : ℕ) → IsSpot group spot → IsEven group.disks group.length has
    → spot.place + n ≤ length_of group → k < n → slice_index row0 k ≡ 0
    → slice_index row1 k ≡ bit_xor (slice_index row0 k) (xor_upto (with_at (with_at (λ i. has i (spot.place + k)) spot.disk 0) spot.disk 0) group.disks)
    → slice_index row1 k ≡ has spot.disk (spot.place + k)
right-made group has spot row0 row1 k n at even fits lt cleared made =
    made ∙ ap (λ (v : ℕ). bit_xor v (xor_upto (with_at (with_at (λ i. has i (spot.place + k)) spot.disk 0) spot.disk 0) group.disks)) cleared
    ∙ made-up (λ i. has i (spot.place + k)) spot.disk group.disks at.disk (even (spot.place + k) (range-of group spot k n at fits lt))

-- another disk went out beside the one that was out
pub lost-by : (old new : Group) (a : ℕ) → IsLater old new → is_out old a ≡ true → ((j : ℕ) × (j ≢ a) × (is_out new j ≡ true)) → is_lost new ≡ true
lost-by old new a later out h = two-out new h.0 a h.1 h.2 (later.grows a out)

-- ---- the piece, and then its parity

pub part-put : {S : Type 0} (rack : Ghosts S) (g0 g1 g2 g3 : Group) (s0 s1 s2 s3 : S) (spot : Spot) (piece row : List ℕ)
    → LeavesGroup rack g1 g2 s1 s2 → LeavesGroup rack g2 g3 s2 s3 → IsSpot g0 spot → length row ≡ length piece
    → ((has : ℕ → ℕ → ℕ) → AllTold rack g1 s1 → Holds rack g0 s0 has → Holds rack g1 s1 has)
    → (is_out g1 spot.parity ≡ false → (has : ℕ → ℕ → ℕ) → AllTold rack g1 s1 → Holds rack g0 s0 has → IsEven g0.disks g0.length has → IsParity has spot piece row)
    → ((has : ℕ → ℕ → ℕ) → AllTold rack g2 s2 → Holds rack g1 s1 has → Holds rack g2 s2 (put has spot.disk spot.place piece))
    → ((has : ℕ → ℕ → ℕ) → AllTold rack g3 s3 → Holds rack g2 s2 has → Holds rack g3 s3 (put has spot.parity spot.place row))
    → (has : ℕ → ℕ → ℕ) → AllTold rack g3 s3 → Holds rack g0 s0 has → IsEven g0.disks g0.length has
    → Holds rack g3 s3 (written has spot.disk spot.parity spot.place piece)
part-put rack g0 g1 g2 g3 s0 s1 s2 s3 spot piece row two three at size h1 right h2 h3 has all held even =
    let t2 = told-back rack g2 g3 s2 s3 three all in
    let t1 = told-back rack g1 g2 s1 s2 two t2 in
    holds-of rack g3 s3 (put (put has spot.disk spot.place piece) spot.parity spot.place row) (written has spot.disk spot.parity spot.place piece)
    (h3 (put has spot.disk spot.place piece) all (h2 has t2 (h1 has t1 held)))
    (λ j x lt in0 range. put-both has spot piece row j x at.apart size (λ e.
    right (subst (λ (i : ℕ). is_out g1 i ≡ false) e (in-before g1 g3 j (later-then g1 g2 g3 two.later three.later) in0)) has t1 held even))

-- ---- a call on disk j under its number q

pub put-failed-at : {S : Type 0} (rack : Ghosts S) (old new : Group) (j q place : ℕ) (piece : List ℕ) (s t : S) → q ≡ disk_number old.number j → Marks old new j
    → OthersSame q (rack.bytes s) (rack.bytes t)
    → (has : ℕ → ℕ → ℕ) → AllTold rack new t → Holds rack old s has → Holds rack new t (put has j place piece)
put-failed-at rack old new j q place piece s t is m same has all held =
    holds-failed rack old new j s t has (put has j place piece) m (subst (λ (k : ℕ). OthersSame k (rack.bytes s) (rack.bytes t)) is same)
    (λ i x ne. sym (put-other has j place i x piece ne)) all held

pub held-failed-at : {S : Type 0} (rack : Ghosts S) (old new : Group) (j q : ℕ) (s t : S) → q ≡ disk_number old.number j → Marks old new j
    → OthersSame q (rack.bytes s) (rack.bytes t)
    → (has : ℕ → ℕ → ℕ) → AllTold rack new t → Holds rack old s has → Holds rack new t has
held-failed-at rack old new j q s t is m same has all held =
    holds-failed rack old new j s t has has m (subst (λ (k : ℕ). OthersSame k (rack.bytes s) (rack.bytes t)) is same) (λ i x ne. refl) all held

pub put-done-at : {S : Type 0} (rack : Ghosts S) (group : Group) (j q place : ℕ) (before now : S) (piece : List ℕ) (has : ℕ → ℕ → ℕ) → q ≡ disk_number group.number j
    → j < group.disks → is_out group j ≡ false → IsReady rack group before
    → place + length piece ≤ length_of group
    → Told (Patched place piece) (rack.bytes before q) (rack.bytes now q)
    → OthersSame q (rack.bytes before) (rack.bytes now)
    → AllTold rack group now → Holds rack group before has → Holds rack group now (put has j place piece)
put-done-at rack group j q place before now piece has is lt there ready fits patched same all held =
    holds-written rack group j place before now piece has lt (ready.room j lt there) fits
    (subst (λ (k : ℕ). Told (Patched place piece) (rack.bytes before k) (rack.bytes now k)) is patched)
    (subst (λ (k : ℕ). OthersSame k (rack.bytes before) (rack.bytes now)) is same) all held

-- ---- one disk more

pub added-more : (f : ℕ → ℕ) (r0 r1 r2 j : ℕ) → r1 ≡ bit_xor r0 (xor_upto f j) → r2 ≡ bit_xor r1 (f j) → r2 ≡ bit_xor r0 (xor_upto f (j + 1))
added-more f r0 r1 r2 j first second =
    second ∙ ap (λ (v : ℕ). bit_xor v (f j)) first ∙ xor_assoc r0 (xor_upto f j) (f j) ∙ ap (λ (n : ℕ). bit_xor r0 (xor_upto f n)) (sym (add-one j))

-- a read leaves what the disks hold
pub held-read-at : {S : Type 0} (rack : Ghosts S) (group : Group) (j q : ℕ) (before now : S) → q ≡ disk_number group.number j
    → Told IsSame (rack.bytes before q) (rack.bytes now q) → OthersSame q (rack.bytes before) (rack.bytes now)
    → (has : ℕ → ℕ → ℕ) → AllTold rack group now → Holds rack group before has → Holds rack group now has
held-read-at rack group j q before now is same others has all held =
    holds-same rack group before now has (λ i lt. elim (cases_eq i j) [
      | inl e ↦ subst (λ (k : ℕ). Told IsSame (rack.bytes before k) (rack.bytes now k)) (is ∙ ap (disk_number group.number) (sym e)) same
      | inr ne ↦ others (disk_number group.number i) (λ e. other-disk group.number i j ne (e ∙ is))
    ]) all held

-- ---- headers

pub headed-at : {S : Type 0} (rack : Ghosts S) (group : Group) (j q : ℕ) (before now : S) (page : List ℕ) (has : ℕ → ℕ → ℕ) → q ≡ disk_number group.number j
    → j < group.disks → is_out group j ≡ false → IsReady rack group before → length page ≡ 512
    → Told (Patched 0 page) (rack.bytes before q) (rack.bytes now q) → OthersSame q (rack.bytes before) (rack.bytes now)
    → AllTold rack group now → Holds rack group before has → Holds rack group now has
headed-at rack group j q before now page has is lt there ready size patched same all held =
    holds-headed rack group j before now page has lt (ready.room j lt there) size
    (subst (λ (k : ℕ). Told (Patched 0 page) (rack.bytes before k) (rack.bytes now k)) is patched)
    (subst (λ (k : ℕ). OthersSame k (rack.bytes before) (rack.bytes now)) is same) all held

-- a header that was written stands
pub head-at : {S : Type 0} (rack : Ghosts S) (group : Group) (j q : ℕ) (before now : S) (page : List ℕ) → q ≡ disk_number group.number j → length page ≡ 512
    → page ≡ header_bytes (header_in group j) → Told (Patched 0 page) (rack.bytes before q) (rack.bytes now q) → HasHead rack group now j
head-at rack group j q before now page is size right patched =
    subst (λ (l : List ℕ). IfSome (rack.bytes now (disk_number group.number j)) (λ all. take 512 all ≡ l)) right
    (head-put (rack.bytes before (disk_number group.number j)) (rack.bytes now (disk_number group.number j)) page size
    (subst (λ (k : ℕ). Told (Patched 0 page) (rack.bytes before k) (rack.bytes now k)) is patched))

pub head-other : {S : Type 0} (rack : Ghosts S) (group : Group) (j q : ℕ) (before now : S) → q ≡ disk_number group.number j → OthersSame q (rack.bytes before) (rack.bytes now)
    → (i : ℕ) → i ≢ j → HasHead rack group before i → HasHead rack group now i
head-other rack group j q before now is same i ne h =
    head-same _ _ (header_bytes (header_in group i)) (same (disk_number group.number i) (λ e. other-disk group.number i j ne (e ∙ is))) h

-- two rounds of headers that failed lost the group
pub two-fell : (a b c : Group) → IsLater b c → FellOne a b → FellOne b c → is_lost c ≡ true
two-fell a b c later one two =
    two-out c one.disk two.disk (λ e. false≢true (sym two.before ∙ sym (ap (is_out b) e) ∙ one.now)) (later.grows one.disk one.now) two.now
