-- What the disks of a group hold, after one call.
use Rattle.std.proofs.Common.{◌≡◌, ◌≢◌, ℕ, ◌+◌, ◌-◌, ◌<◌, ◌≤◌, inl, inr, Bool, false, List, length, get_or, refl, sym, ap, subst, ◌∙◌, arith, eq-eqb}
use Rattle.std.specs.Prelude.{Option, None, Some, IsSome, IfSome, slice_index, nat_le, nat_lt, ◌&&◌, ◌==◌, if◌then◌else◌}
use Rattle.std.proofs.lemmas.Bool.{cases_eq, cases_Bool, false≢true}
use Rattle.std.proofs.lemmas.Bool.Decides.{nat_tests}
use Rattle.dg_io.specs.Told.{Told, IsSame, Patched, patch, OthersSame}
use Rattle.dg_io.specs.declared.outside.Rack.{Ghosts}
use Rattle.dg_parity.specs.Stripes.{InStripes, put, disk_length}
use Rattle.dg_parity.specs.Groups.{disk_number, is_out, length_of, bytes_of, disk_in, AllTold, Holds, IsLater, IsAlike}
use Rattle.dg_parity.specs.declared.groups.Group.{Group}
use Rattle.dg_parity.proofs.BytesLemmas.{is_inside, place_is, Before, Inside, Behind, inside-true, inside-before, inside-behind, patch-inside, patch-before, patch-behind}
use Rattle.dg_parity.proofs.GroupLemmas.{told-at, other-disk, Marks, not-marked, in-before, alike-later}

eqb-not : (i a : ℕ) → i ≢ a → (i == a) ≡ false
eqb-not i a ne = grind (arith, nat_tests)

pub put-other : (has : ℕ → ℕ → ℕ) (j place i x : ℕ) (piece : List ℕ) → i ≢ j → put has j place piece i x ≡ has i x
put-other has j place i x piece ne = ap (λ (b : Bool). if b && nat_le place x && nat_lt x (place + length piece) then slice_index piece (x - place) else has i x) (eqb-not i j ne)

pub put-inside : (has : ℕ → ℕ → ℕ) (j place x : ℕ) (piece : List ℕ) → place ≤ x → x < place + length piece → put has j place piece j x ≡ slice_index piece (x - place)
put-inside has j place x piece low high =
    ap (λ (b : Bool). if b && nat_le place x && nat_lt x (place + length piece) then slice_index piece (x - place) else has j x) (eq-eqb j j refl)
    ∙ ap (λ (b : Bool). if b then slice_index piece (x - place) else has j x) (inside-true place (length piece) x low high)

pub put-outside : (has : ℕ → ℕ → ℕ) (j place i x : ℕ) (piece : List ℕ) → is_inside place (length piece) x ≡ false → put has j place piece i x ≡ has i x
put-outside has j place i x piece in0 = elim (cases_Bool (i == j)) [
  | inr ne ↦ ap (λ (b : Bool). if b && nat_le place x && nat_lt x (place + length piece) then slice_index piece (x - place) else has i x) ne
  | inl eq ↦
      ap (λ (b : Bool). if b && nat_le place x && nat_lt x (place + length piece) then slice_index piece (x - place) else has i x) eq
      ∙ ap (λ (b : Bool). if b then slice_index piece (x - place) else has i x) in0
]

pub range-before : (old new : Group) (x : ℕ) → IsLater old new → InStripes new.disks new.length x → InStripes old.disks old.length x
range-before old new x h r = record { behind = r.behind; below = subst (λ (n : ℕ). x < n) (ap (λ (n : ℕ). disk_length n new.length) h.disks ∙ ap (disk_length old.disks) h.size) r.below }

-- what holds of the same bytes
pub holds-of : {S : Type 0} (rack : Ghosts S) (group : Group) (now : S) (f h : ℕ → ℕ → ℕ) → Holds rack group now f
    → ((j x : ℕ) → j < group.disks → is_out group j ≡ false → InStripes group.disks group.length x → f j x ≡ h j x) → Holds rack group now h
holds-of rack group now f h held e = record { at = λ j x lt in0 range. held.at j x lt in0 range ∙ e j x lt in0 range }

pub holds-alike : {S : Type 0} (rack : Ghosts S) (old new : Group) (now : S) (has : ℕ → ℕ → ℕ) → IsAlike old new → old.epoch ≤ new.epoch → Holds rack old now has → Holds rack new now has
holds-alike rack old new now has alike epoch held = record {
  at = λ j x lt in0 range.
      ap (λ (s : ℕ). slice_index (bytes_of (rack.bytes now (disk_number s j))) x) alike.number
      ∙ held.at j x (subst (λ (n : ℕ). j < n) alike.disks lt) (ap (λ (l : List Bool). get_or l j false) (sym alike.out) ∙ in0) (range-before old new x (alike-later old new alike epoch) range);
}

pub holds-same : {S : Type 0} (rack : Ghosts S) (group : Group) (before now : S) (has : ℕ → ℕ → ℕ)
    → ((j : ℕ) → j < group.disks → Told IsSame (rack.bytes before (disk_number group.number j)) (rack.bytes now (disk_number group.number j)))
    → AllTold rack group now → Holds rack group before has → Holds rack group now has
holds-same rack group before now has same all held = record {
  at = λ j x lt in0 range.
      ap (λ (l : List ℕ). slice_index l x) (told-at IsSame _ _ (same j lt) (all.1 j lt)) ∙ held.at j x lt in0 range;
}

-- a call on disk j failed, and the disk went out: what it has doesn't matter any more
pub holds-failed : {S : Type 0} (rack : Ghosts S) (old new : Group) (j : ℕ) (before now : S) (f h : ℕ → ℕ → ℕ) → Marks old new j
    → OthersSame (disk_number old.number j) (rack.bytes before) (rack.bytes now) → ((i x : ℕ) → i ≢ j → f i x ≡ h i x)
    → AllTold rack new now → Holds rack old before f → Holds rack new now h
holds-failed rack old new j before now f h m same e all held = record {
  at = λ i x lt in0 range.
      let ne = not-marked old new i j m in0 in
      let lt2 : i < old.disks = subst (λ (n : ℕ). i < n) m.later.disks lt in
      let number : disk_number new.number i ≡ disk_number old.number i = ap (λ (s : ℕ). disk_number s i) m.later.number in
      let some : IsSome (rack.bytes now (disk_number old.number i)) = subst (λ (q : ℕ). IsSome (rack.bytes now q)) number (all.1 i lt) in
      ap (λ (q : ℕ). slice_index (bytes_of (rack.bytes now q)) x) number
      ∙ ap (λ (l : List ℕ). slice_index l x) (told-at IsSame _ _ (same (disk_number old.number i) (other-disk old.number i j ne)) some)
      ∙ held.at i x lt2 (in-before old new i m.later in0) (range-before old new x m.later range) ∙ e i x ne;
}

pub length-told : (o p : Option (List ℕ)) (n : ℕ) (step : List ℕ → List ℕ → Type 0) → Told step o p → IsSome p → IfSome o (λ all. length all ≡ n) → length (bytes_of o) ≡ n
length-told o None n step h s e = absurd (false≢true s)
length-told None (Some y) n step h s e = absurd h
length-told (Some x) (Some y) n step h s e = e

own : {S : Type 0} (rack : Ghosts S) (group : Group) (j place : ℕ) (before now : S) (piece : List ℕ) (has : ℕ → ℕ → ℕ)
    → j < group.disks → IfSome (rack.bytes before (disk_number group.number j)) (λ all. length all ≡ length_of group)
    → place + length piece ≤ length_of group
    → Told (Patched place piece) (rack.bytes before (disk_number group.number j)) (rack.bytes now (disk_number group.number j))
    → AllTold rack group now → Holds rack group before has
    → (i x : ℕ) → i ≡ j → i < group.disks → is_out group i ≡ false → InStripes group.disks group.length x → slice_index (disk_in rack group now i) x ≡ put has j place piece i x
own rack group j place before now piece has ltj room fits patched all held i x eq lt in0 range =
    let old : List ℕ = disk_in rack group before j in
    let is : disk_in rack group now j ≡ patch old place piece = told-at (Patched place piece) _ _ patched (all.1 j ltj) in
    let size : length old ≡ length_of group = length-told _ _ _ _ patched (all.1 j ltj) room in
    let at : slice_index old x ≡ has j x = held.at j x ltj (subst (λ (k : ℕ). is_out group k ≡ false) eq in0) range in
    let stands : slice_index (patch old place piece) x ≡ put has j place piece j x = elim (place_is place (length piece) x) [
      | Before low ↦ patch-before old piece place x (omega arith) low ∙ at ∙ sym (put-outside has j place j x piece (inside-before place (length piece) x low))
      | Behind high ↦ patch-behind old piece place x (omega arith) high ∙ at ∙ sym (put-outside has j place j x piece (inside-behind place (length piece) x high))
      | Inside low high ↦ patch-inside old piece place x (omega arith) low high ∙ sym (put-inside has j place x piece low high)
    ] in
    subst (λ (k : ℕ). slice_index (disk_in rack group now k) x ≡ put has j place piece k x) (sym eq) (ap (λ (l : List ℕ). slice_index l x) is ∙ stands)

pub holds-written : {S : Type 0} (rack : Ghosts S) (group : Group) (j place : ℕ) (before now : S) (piece : List ℕ) (has : ℕ → ℕ → ℕ)
    → j < group.disks → IfSome (rack.bytes before (disk_number group.number j)) (λ all. length all ≡ length_of group)
    → place + length piece ≤ length_of group
    → Told (Patched place piece) (rack.bytes before (disk_number group.number j)) (rack.bytes now (disk_number group.number j))
    → OthersSame (disk_number group.number j) (rack.bytes before) (rack.bytes now)
    → AllTold rack group now → Holds rack group before has → Holds rack group now (put has j place piece)
holds-written rack group j place before now piece has ltj room fits patched same all held = record {
  at = λ i x lt in0 range. elim (cases_eq i j) [
    | inr ne ↦ ap (λ (l : List ℕ). slice_index l x) (told-at IsSame _ _ (same (disk_number group.number i) (other-disk group.number i j ne)) (all.1 i lt))
        ∙ held.at i x lt in0 range ∙ sym (put-other has j place i x piece ne)
    | inl eq ↦ own rack group j place before now piece has ltj room fits patched all held i x eq lt in0 range
  ];
}

headed-range : (n size x : ℕ) (page : List ℕ) → length page ≡ 512 → InStripes n size x → is_inside 0 (length page) x ≡ false
headed-range n size x page e r = inside-behind 0 (length page) x (omega (arith, r.behind))

-- a header was written: the stripes are as they were
pub holds-headed : {S : Type 0} (rack : Ghosts S) (group : Group) (j : ℕ) (before now : S) (page : List ℕ) (has : ℕ → ℕ → ℕ)
    → j < group.disks → IfSome (rack.bytes before (disk_number group.number j)) (λ all. length all ≡ length_of group)
    → length page ≡ 512
    → Told (Patched 0 page) (rack.bytes before (disk_number group.number j)) (rack.bytes now (disk_number group.number j))
    → OthersSame (disk_number group.number j) (rack.bytes before) (rack.bytes now)
    → AllTold rack group now → Holds rack group before has → Holds rack group now has
holds-headed rack group j before now page has ltj room size patched same all held =
    holds-of rack group now (put has j 0 page) has
    (holds-written rack group j 0 before now page has ltj room (omega arith) patched same all held)
    (λ i x lt in0 range. put-outside has j 0 i x page (headed-range group.disks group.length x page size range))
