-- The bytes of a member, chunk by chunk.
use Rattle.std.proofs.Common.{◌++◌, Bool, true, false, ◌≡◌, ℕ, ◌+◌, ◌-◌, ◌%◌, ◌<◌, ◌≤◌, inl, inr, List, length, take, drop, get_or, refl, sym, ap, subst, ◌∙◌, arith, length-append}
use Rattle.std.specs.Prelude.{slice_index, not}
use Rattle.std.proofs.lemmas.List.{ext_get_or, get_or-take, get_or-drop, length-take-le, length-drop, get_or_append_left, get_or-append_right}
use Rattle.std.proofs.lemmas.Bool.{cases_lt, false≢true}
use Rattle.dg_io.specs.Told.{patch}
use Rattle.dg_io.specs.declared.outside.Rack.{Ghosts}
use Rattle.dg_parity.specs.Stripes.{spot_of, disk_length, member_by, written, IsClear, IsEven}
use Rattle.dg_parity.specs.Groups.{AllTold, Holds, StandsFor, IsLater, LeavesGroup, IsSpot}
use Rattle.dg_parity.specs.declared.stripes.Spot.{Spot}
use Rattle.dg_parity.specs.declared.groups.Group.{Group}
use Rattle.dg_parity.proofs.BytesLemmas.{patch-inside, patch-before, patch-behind, patch-length, place_is, Before, Inside, Behind}
use Rattle.dg_parity.proofs.MemberLemmas.{clear-written, member-written, member-length, member-at}
use Rattle.dg_parity.proofs.PartLemmas.{even-written}
use Rattle.dg_parity.proofs.StripeLemmas.{disk-below, parity-below, spot-apart, spot-behind, spot-below, spot-along}

-- the group has other bytes by the same rule
pub stands-along : {S : Type 0} (rack : Ghosts S) (a b : Group) (s t : S) (bytes : List ℕ) → IsLater a b
    → ((has : ℕ → ℕ → ℕ) → Holds rack a s has → Holds rack b t has) → StandsFor rack a s bytes → StandsFor rack b t bytes
stands-along rack a b s t bytes later holds h = record {
  has = h.has;
  holds = holds h.has h.holds;
  even = subst (λ (n : ℕ). IsEven n b.length h.has) (sym later.disks) (subst (λ (z : ℕ). IsEven a.disks z h.has) (sym later.size) h.even);
  clear = subst (λ (n : ℕ). IsClear n b.length h.has) (sym later.disks) (subst (λ (z : ℕ). IsClear a.disks z h.has) (sym later.size) h.clear);
  is = h.is ∙ ap (λ (n : ℕ). member_by n a.length h.has) (sym later.disks) ∙ ap (λ (z : ℕ). member_by b.disks z h.has) (sym later.size);
}

pub stands-written : {S : Type 0} (rack : Ghosts S) (a b : Group) (s t : S) (bytes piece : List ℕ) (at : ℕ) → 3 ≤ a.disks → IsLater a b
    → at % 512 + length piece ≤ 512 → at + length piece ≤ a.length
    → ((has : ℕ → ℕ → ℕ) → Holds rack a s has → IsEven a.disks a.length has
    → Holds rack b t (written has (spot_of a.disks at).disk (spot_of a.disks at).parity (spot_of a.disks at).place piece))
    → StandsFor rack a s bytes → StandsFor rack b t (patch bytes at piece)
stands-written rack a b s t bytes piece at least later chunk range holds h =
    let spot = spot_of a.disks at in
    let new : ℕ → ℕ → ℕ = written h.has spot.disk spot.parity spot.place piece in
    let even : IsEven a.disks a.length new = even-written a.disks a.length h.has spot.disk spot.parity spot.place piece (disk-below a.disks at least) (parity-below a.disks at least) (spot-apart a.disks at) h.even in
    record {
      has = new;
      holds = holds h.has h.holds h.even;
      even = subst (λ (n : ℕ). IsEven n b.length new) (sym later.disks) (subst (λ (z : ℕ). IsEven a.disks z new) (sym later.size) even);
      clear = subst (λ (n : ℕ). IsClear n b.length new) (sym later.disks)
          (subst (λ (z : ℕ). IsClear a.disks z new) (sym later.size) (clear-written a.disks a.length at h.has piece chunk range h.clear));
      is = ap (λ (l : List ℕ). patch l at piece) h.is ∙ sym (member-written a.disks a.length at h.has piece chunk range)
          ∙ ap (λ (n : ℕ). member_by n a.length new) (sym later.disks) ∙ ap (λ (z : ℕ). member_by b.disks z new) (sym later.size);
    }

-- what is there at a place of the member
pub stands-at : {S : Type 0} (rack : Ghosts S) (group : Group) (now : S) (bytes : List ℕ) (b : ℕ) (h : StandsFor rack group now bytes) → b < group.length
    → slice_index bytes b ≡ h.has (spot_of group.disks b).disk (spot_of group.disks b).place
stands-at rack group now bytes b h lt = ap (λ (l : List ℕ). slice_index l b) h.is ∙ member-at group.disks group.length b h.has lt

pub stands-length : {S : Type 0} (rack : Ghosts S) (group : Group) (now : S) (bytes : List ℕ) → StandsFor rack group now bytes → length bytes ≡ group.length
stands-length rack group now bytes h = ap length h.is ∙ member-length group.disks group.length h.has

-- a piece, and then the next one behind it
pub patch-then : (bytes buf : List ℕ) (place i n : ℕ) → i + n ≤ length buf → place + length buf ≤ length bytes
    → patch (patch bytes place (take i buf)) (place + i) (take n (drop i buf)) ≡ patch bytes place (take (i + n) buf)
patch-then bytes buf place i n fits within =
    let one = take i buf in
    let two = take n (drop i buf) in
    let all = take (i + n) buf in
    let mid = patch bytes place one in
    let len1 : length one ≡ i = length-take-le i buf (omega arith) in
    let len2 : length two ≡ n = length-take-le n (drop i buf) (omega (arith, length-drop i buf)) in
    let len3 : length all ≡ i + n = length-take-le (i + n) buf fits in
    let lenm : length mid ≡ length bytes = patch-length bytes one place (omega arith) in
    ext_get_or 0 (patch mid (place + i) two) (patch bytes place all)
    (patch-length mid two (place + i) (omega arith) ∙ lenm ∙ sym (patch-length bytes all place (omega arith)))
    (λ k lt. elim (place_is place (i + n) k) [
      | Before low ↦ patch-before mid two (place + i) k (omega arith) (omega arith) ∙ patch-before bytes one place k (omega arith) low ∙ sym (patch-before bytes all place k (omega arith) low)
      | Behind high ↦ patch-behind mid two (place + i) k (omega arith) (omega arith) ∙ patch-behind bytes one place k (omega arith) (omega arith) ∙ sym (patch-behind bytes all place k (omega arith) (omega arith))
      | Inside low high ↦ elim (cases_lt k (place + i)) [
        | inl first ↦ patch-before mid two (place + i) k (omega arith) first ∙ patch-inside bytes one place k (omega arith) low (omega arith)
            ∙ get_or-take i buf (k - place) 0 (omega arith) ∙ sym (get_or-take (i + n) buf (k - place) 0 (omega arith)) ∙ sym (patch-inside bytes all place k (omega arith) low (omega arith))
        | inr second ↦
            let e : i + (k - (place + i)) ≡ k - place = omega arith in
            patch-inside mid two (place + i) k (omega arith) second (omega arith)
            ∙ get_or-take n (drop i buf) (k - (place + i)) 0 (omega arith) ∙ get_or-drop i buf (k - (place + i)) 0
            ∙ ap (λ (x : ℕ). get_or buf x 0) e
            ∙ sym (get_or-take (i + n) buf (k - place) 0 (omega arith)) ∙ sym (patch-inside bytes all place k (omega arith) low (omega arith))
      ]
    ])

-- ---- one chunk

pub spot-is : (group : Group) (at : ℕ) (spot : Spot) → 3 ≤ group.disks → spot ≡ spot_of group.disks at → IsSpot group spot
spot-is group at spot least is = subst (λ (s : Spot). IsSpot group s) (sym is)
    (record { disk = disk-below group.disks at least; parity = parity-below group.disks at least; apart = spot-apart group.disks at; behind = spot-behind group.disks at })

pub spot-fits : (group : Group) (at n : ℕ) (spot : Spot) → 3 ≤ group.disks → spot ≡ spot_of group.disks at → 0 < n → at % 512 + n ≤ 512 → at + n ≤ group.length
    → spot.place + n ≤ disk_length group.disks group.length
spot-fits group at n spot least is some chunk range = subst (λ (s : Spot). s.place + n ≤ disk_length group.disks group.length) (sym is) (spot-below group.disks at group.length n least (omega arith) chunk)

pub chunk-got : {S : Type 0} (rack : Ghosts S) (group : Group) (now : S) (bytes buf : List ℕ) (at k : ℕ) (spot : Spot) (h : StandsFor rack group now bytes)
    → spot ≡ spot_of group.disks at → at % 512 + k < 512 → at + k < group.length
    → slice_index buf k ≡ h.has spot.disk (spot.place + k) → slice_index buf k ≡ slice_index bytes (at + k)
chunk-got rack group now bytes buf at k spot h is chunk range got =
    let along = spot-along group.disks at k chunk in
    got ∙ ap (λ (s : Spot). h.has s.disk (s.place + k)) is
    ∙ ap (λ (d : ℕ). h.has d ((spot_of group.disks at).place + k)) (sym along.disk)
    ∙ ap (h.has (spot_of group.disks (at + k)).disk) (sym along.place)
    ∙ sym (stands-at rack group now bytes (at + k) h range)

-- ---- a part of a row after a write to it

pub mid-before : (xs ys zs : List ℕ) (a i : ℕ) → i < a → a ≤ length xs → get_or (take a xs ++ (ys ++ zs)) i 0 ≡ get_or xs i 0
mid-before xs ys zs a i lt fits =
    get_or_append_left (take a xs) (ys ++ zs) 0 i (omega (arith, length-take-le a xs fits)) ∙ get_or-take a xs i 0 lt

pub mid-inside : (xs ys zs : List ℕ) (a i : ℕ) → a ≤ i → i < a + length ys → a ≤ length xs → get_or (take a xs ++ (ys ++ zs)) i 0 ≡ get_or ys (i - a) 0
mid-inside xs ys zs a i low high fits =
    get_or-append_right (take a xs) (ys ++ zs) a i 0 (length-take-le a xs fits) low ∙ get_or_append_left ys zs 0 (i - a) (omega arith)

pub not-true : (b : Bool) → true ≡ not b → b ≡ false
not-true true h = absurd (false≢true (sym h))
not-true false h = refl

pub mid-length : (xs ys zs : List ℕ) (a : ℕ) → a ≤ length xs → a + length ys ≤ length (take a xs ++ (ys ++ zs))
mid-length xs ys zs a fits = omega (arith, length-append (take a xs) (ys ++ zs), length-append ys zs, length-take-le a xs fits)

-- the next piece was written behind those before
pub stands-next : {S : Type 0} (rack : Ghosts S) (group : Group) (now : S) (bytes buf : List ℕ) (place i n : ℕ) → i + n ≤ length buf → place + length buf ≤ length bytes
    → StandsFor rack group now (patch (patch bytes place (take i buf)) (place + i) (take (i + n - i) (drop i buf)))
    → StandsFor rack group now (patch bytes place (take (i + n) buf))
stands-next rack group now bytes buf place i n fits within h =
    let count : i + n - i ≡ n = omega arith in
    subst (λ (l : List ℕ). StandsFor rack group now l)
    (ap (λ (m : ℕ). patch (patch bytes place (take i buf)) (place + i) (take m (drop i buf))) count ∙ patch-then bytes buf place i n fits within) h

-- ---- headers are noted beside

pub stands-noted : {S : Type 0} (rack : Ghosts S) (a b : Group) (s t : S) → LeavesGroup rack a b s t → ((has : ℕ → ℕ → ℕ) → AllTold rack b t → Holds rack a s has → Holds rack b t has)
    → (bytes : List ℕ) → AllTold rack b t → StandsFor rack a s bytes → StandsFor rack b t bytes
stands-noted rack a b s t leaves holds bytes all h = stands-along rack a b s t bytes leaves.later (λ has held. holds has all held) h

-- where it wasn't noted
pub noted-false : (group : Group) (noted : Bool) {P : Type 0} → noted ≡ group.noted → noted ≡ false → group.noted ≡ true → P
noted-false group noted is not0 h = absurd (false≢true (sym not0 ∙ is ∙ h))
