-- A disk that comes back, stripe by stripe.
use Rattle.std.proofs.Common.{◌≡◌, ◌≢◌, ℕ, ◌+◌, ◌-◌, ◌*◌, ◌<◌, ◌≤◌, inl, inr, true, false, List, length, refl, sym, ap, subst, ◌∙◌, arith, bit_xor}
use Rattle.std.specs.Prelude.{Option, None, Some, IsSome, IfSome, Result, Ok, slice_index}
use Rattle.std.proofs.lemmas.List.{length-replicate}
use Rattle.std.proofs.lemmas.Bool.{cases_eq, cases_lt, cases_Bool, false≢true}
use Rattle.dg_model.specs.Causes.{Rose}
use Rattle.dg_io.specs.RackWords.{Leaves}
use Rattle.dg_io.specs.Told.{Told, IsZeros, IsSame, Patched, patch, OthersSame}
use Rattle.dg_io.specs.declared.outside.Rack.{Ghosts}
use Rattle.dg_parity.specs.Exclusive.{xor_upto, with_at}
use Rattle.dg_parity.specs.Stripes.{IsEven, stripes_of, disk_length}
use Rattle.dg_parity.specs.Groups.{disk_number, is_out, is_sure, length_of, disk_in, bytes_of, AllTold, IsReady, Holds, IsLater, IsApart, header_in, LeavesGroup}
use Rattle.dg_parity.specs.Headers.{header_bytes}
use Rattle.dg_parity.specs.Mends.{FilledTo, IsRefilled, LeavesBut}
use Rattle.dg_parity.specs.declared.groups.Group.{Group}
use Rattle.dg_parity.proofs.BytesLemmas.{patch-inside, patch-before}
use Rattle.dg_parity.proofs.GroupLemmas.{later-same, later-then, told-at, told-before, same-then, rise-then, rose-later, rose-sooner, off, room-same, other-disk, same-length, head-same, numbers-along, room-patched}
use Rattle.dg_parity.proofs.HoldLemmas.{length-told}
use Rattle.dg_parity.proofs.PartLemmas.{made-up}

-- a disk that is out isn't called with the others
pub out-apart : (group : Group) (j : ℕ) → is_out group j ≡ true → IsApart group (disk_number group.number j)
out-apart group j out i lt in0 e = elim (cases_eq j i) [
  | inl same ↦ false≢true (sym in0 ∙ ap (is_out group) (sym same) ∙ out)
  | inr ne ↦ other-disk group.number j i ne e
]

pub refilled-along : {S : Type 0} (rack : Ghosts S) (old new : Group) (s t : S) (j : ℕ) → is_out old j ≡ true → LeavesGroup rack old new s t → IsRefilled rack old s j → IsRefilled rack new t j
refilled-along rack old new s t j out leaves h = record {
  stands = subst (λ (k : ℕ). rack.stands t (disk_number k j) ≡ true) (sym leaves.later.number) (leaves.others_stand (disk_number old.number j) (out-apart old j out) h.stands);
  room = subst (λ (k : ℕ). IfSome (rack.bytes t (disk_number k j)) (λ all. length all ≡ length_of new)) (sym leaves.later.number)
      (subst (λ (n : ℕ). IfSome (rack.bytes t (disk_number old.number j)) (λ all. length all ≡ n)) (same-length old new leaves.later)
      (room-same (length_of old) _ _ (leaves.others (disk_number old.number j) (out-apart old j out)) h.room));
}

pub filled-along : {S : Type 0} (rack : Ghosts S) (old new : Group) (s t : S) (j count : ℕ) (has : ℕ → ℕ → ℕ) → j < old.disks → is_out old j ≡ true → LeavesGroup rack old new s t → AllTold rack new t
    → FilledTo rack old s j has count → FilledTo rack new t j has count
filled-along rack old new s t j count has lt out leaves all h = record {
  at = λ x low high.
      let number : disk_number new.number j ≡ disk_number old.number j = ap (λ (k : ℕ). disk_number k j) leaves.later.number in
      let some : IsSome (rack.bytes t (disk_number old.number j)) = subst (λ (q : ℕ). IsSome (rack.bytes t q)) number (all.1 j (subst (λ (n : ℕ). j < n) (sym leaves.later.disks) lt)) in
      ap (λ (q : ℕ). slice_index (bytes_of (rack.bytes t q)) x) number
      ∙ ap (λ (l : List ℕ). slice_index l x) (told-at IsSame _ _ (leaves.others (disk_number old.number j) (out-apart old j out)) some)
      ∙ h.at x low high;
}

-- ---- calls, those on disk j among them

pub but-of : {S : Type 0} (rack : Ghosts S) (j : ℕ) (old new : Group) (before now : S) → LeavesGroup rack old new before now → LeavesBut rack j old new before now
but-of rack j old new before now h = record {
  later = h.later;
  cause = h.cause;
  ready = h.ready;
  numbers = h.numbers;
  others = λ q apart ne. h.others q apart;
  other_faults = λ q apart ne. h.other_faults q apart;
  others_stand = λ q apart ne. h.others_stand q apart;
  rise = h.rise;
  tells = h.tells;
  same_rack = h.same_rack;
  steady_on = h.steady_on;
}

in-other : (group : Group) (i j : ℕ) → is_out group j ≡ true → is_out group i ≡ false → i ≢ j
in-other group i j out in0 e = false≢true (sym in0 ∙ ap (is_out group) e ∙ out)

pub but-call : {S T E : Type 0} (rack : Ghosts S) (group : Group) (j : ℕ) (r : Result T E) (before now : S) → is_out group j ≡ true
    → Leaves rack (disk_number group.number j) r before now → IsReady rack group before → LeavesBut rack j group group before now
but-call rack group j r before now out call ready = record {
  later = later-same group;
  cause = λ i lt a b. absurd (false≢true (sym a ∙ b));
  ready = record {
    first = ready.first;
    stands = λ i h in0. call.others_stand (disk_number group.number i) (other-disk group.number i j (in-other group i j out in0)) (ready.stands i h in0);
    room = λ i h in0. room-same (length_of group) _ _ (call.others (disk_number group.number i) (other-disk group.number i j (in-other group i j out in0))) (ready.room i h in0);
    heads = λ noted i h in0. head-same _ _ (header_bytes (header_in group i)) (call.others (disk_number group.number i) (other-disk group.number i j (in-other group i j out in0))) (ready.heads noted i h in0);
  };
  numbers = numbers-along rack group group before now refl refl refl (omega arith)
      (λ i h in0. (in0, call.others (disk_number group.number i) (other-disk group.number i j (in-other group i j out in0))));
  others = λ q apart ne. call.others q ne;
  other_faults = λ q apart ne. call.other_faults q ne;
  others_stand = λ q apart ne. call.others_stand q ne;
  rise = call.rise;
  tells = call.tells;
  same_rack = call.same_rack;
  steady_on = call.steady_on;
}

off-number : (a b : Group) (q j : ℕ) → IsLater a b → q ≢ disk_number a.number j → q ≢ disk_number b.number j
off-number a b q j h ne e = ne (e ∙ ap (λ (s : ℕ). disk_number s j) h.number)

pub but-then : {S : Type 0} (rack : Ghosts S) (j : ℕ) (a b c : Group) (s t u : S) → LeavesBut rack j a b s t → LeavesBut rack j b c t u → LeavesBut rack j a c s u
but-then rack j a b c s t u f g = record {
  later = later-then a b c f.later g.later;
  cause = λ i h x y. elim (cases_Bool (is_out b i)) [
    | inl in1 ↦ rose-later _ _ _ (f.cause i h x in1) (g.rise.faults (disk_number a.number i))
    | inr in0 ↦ rose-sooner _ _ _ (f.rise.faults (disk_number a.number i))
        (subst (λ (k : ℕ). Rose ((rack.counts t).faults (disk_number k i)) ((rack.counts u).faults (disk_number k i))) f.later.number
        (g.cause i (subst (λ (n : ℕ). i < n) (sym f.later.disks) h) in0 y))
  ];
  ready = g.ready;
  numbers = λ h. g.numbers (f.numbers h);
  others = λ q apart ne. same-then _ _ _ (f.others q apart ne) (g.others q (off a b q f.later apart) (off-number a b q j f.later ne));
  other_faults = λ q apart ne. g.other_faults q (off a b q f.later apart) (off-number a b q j f.later ne) ∙ f.other_faults q apart ne;
  others_stand = λ q apart ne h. g.others_stand q (off a b q f.later apart) (off-number a b q j f.later ne) (f.others_stand q apart ne h);
  rise = rise-then _ _ _ f.rise g.rise;
  tells = λ q h. f.tells q (g.tells q h);
  same_rack = g.same_rack ∙ f.same_rack;
  steady_on = (λ h. g.steady_on.0 (f.steady_on.0 h), λ h. f.steady_on.1 (g.steady_on.1 h));
}

-- what the others hold stays
pub holds-out : {S : Type 0} (rack : Ghosts S) (group : Group) (j : ℕ) (before now : S) (has : ℕ → ℕ → ℕ) → is_out group j ≡ true
    → OthersSame (disk_number group.number j) (rack.bytes before) (rack.bytes now) → AllTold rack group now → Holds rack group before has → Holds rack group now has
holds-out rack group j before now has out same all held = record {
  at = λ i x lt in0 range.
      ap (λ (l : List ℕ). slice_index l x) (told-at IsSame _ _ (same (disk_number group.number i) (other-disk group.number i j (in-other group i j out in0))) (all.1 i lt))
      ∙ held.at i x lt in0 range;
}

-- several stripes more
pub filled-more : {S : Type 0} (rack : Ghosts S) (group : Group) (j t m : ℕ) (before now : S) (has : ℕ → ℕ → ℕ) (page : List ℕ) → j < group.disks → length page ≡ 512 * m
    → t + m ≤ stripes_of group.disks group.length
    → IfSome (rack.bytes before (disk_number group.number j)) (λ all. length all ≡ length_of group)
    → Told (Patched (512 + 512 * t) page) (rack.bytes before (disk_number group.number j)) (rack.bytes now (disk_number group.number j))
    → AllTold rack group now → ((k : ℕ) → k < 512 * m → slice_index page k ≡ has j (512 + 512 * t + k))
    → FilledTo rack group before j has t → FilledTo rack group now j has (t + m)
filled-more rack group j t m before now has page lt size below room patched all right h =
    let old : List ℕ = disk_in rack group before j in
    let is : disk_in rack group now j ≡ patch old (512 + 512 * t) page = told-at (Patched (512 + 512 * t) page) _ _ patched (all.1 j lt) in
    let long : length old ≡ length_of group = length-told _ _ _ _ patched (all.1 j lt) room in
    record {
      at = λ x low high. ap (λ (l : List ℕ). slice_index l x) is ∙ elim (cases_lt x (512 + 512 * t)) [
        | inl first ↦ patch-before old page (512 + 512 * t) x (omega arith) first ∙ h.at x low first
        | inr next ↦
            patch-inside old page (512 + 512 * t) x (omega arith) next (omega arith)
            ∙ right (x - (512 + 512 * t)) (omega arith) ∙ ap (has j) (omega arith)
      ];
    }

-- ---- a call on disk j under its number q, behind calls on the others

pub but-past : {S T E : Type 0} (rack : Ghosts S) (a g : Group) (j q : ℕ) (r : Result T E) (s t u : S) → LeavesGroup rack a g s t → is_out a j ≡ true → q ≡ disk_number g.number j
    → Leaves rack q r t u → LeavesBut rack j a g s u
but-past {T = T} {E = E} rack a g j q r s t u before out is call =
    but-then rack j a g g s t u (but-of rack j a g s t before)
    (but-call rack g j r t u (before.later.grows j out) (subst (λ (k : ℕ). Leaves {T = T} {E = E} rack k r t u) is call) before.ready)

pub held-past : {S T E : Type 0} (rack : Ghosts S) (a g : Group) (j q : ℕ) (r : Result T E) (s t u : S) → LeavesGroup rack a g s t → is_out a j ≡ true → q ≡ disk_number g.number j
    → Leaves rack q r t u → ((has : ℕ → ℕ → ℕ) → AllTold rack g t → Holds rack a s has → Holds rack g t has)
    → (has : ℕ → ℕ → ℕ) → AllTold rack g u → Holds rack a s has → Holds rack g u has
held-past rack a g j q r s t u before out is call holds has all held =
    holds-out rack g j t u has (before.later.grows j out) (subst (λ (k : ℕ). OthersSame k (rack.bytes t) (rack.bytes u)) is call.others) all
    (holds has (told-before rack g g t u (later-same g) call.tells all) held)

pub filled-past : {S T E : Type 0} (rack : Ghosts S) (a g : Group) (j q stripe m : ℕ) (r : Result T E) (page : List ℕ) (s t u : S) → LeavesGroup rack a g s t → j < a.disks → is_out a j ≡ true
    → q ≡ disk_number g.number j → Leaves rack q r t u → Told (Patched (512 + 512 * stripe) page) (rack.bytes t q) (rack.bytes u q) → IsRefilled rack a s j
    → length page ≡ 512 * m → stripe + m ≤ stripes_of a.disks a.length
    → ((has : ℕ → ℕ → ℕ) → AllTold rack g t → Holds rack a s has → IsEven a.disks a.length has → (k : ℕ) → k < 512 * m → slice_index page k ≡ has j (512 + 512 * stripe + k))
    → (has : ℕ → ℕ → ℕ) → AllTold rack g u → Holds rack a s has → IsEven a.disks a.length has → FilledTo rack a s j has stripe → FilledTo rack g u j has (stripe + m)
filled-past rack a g j q stripe m r page s t u before lt out is call patched refilled size below right has all held even filled =
    let back = told-before rack g g t u (later-same g) call.tells all in
    filled-more rack g j stripe m t u has page (subst (λ (n : ℕ). j < n) (sym before.later.disks) lt) size
    (subst (λ (n : ℕ). stripe + m ≤ stripes_of n g.length) (sym before.later.disks) (subst (λ (z : ℕ). stripe + m ≤ stripes_of a.disks z) (sym before.later.size) below))
    (refilled-along rack a g s t j out before refilled).room
    (subst (λ (k : ℕ). Told (Patched (512 + 512 * stripe) page) (rack.bytes t k) (rack.bytes u k)) is patched)
    all (right has back held even) (filled-along rack a g s t j stripe has lt out before back filled)

pub made-right : (group : Group) (has : ℕ → ℕ → ℕ) (j stripe m k : ℕ) (row0 row1 : List ℕ) → j < group.disks → stripe + m ≤ stripes_of group.disks group.length → IsEven group.disks group.length has → k < 512 * m
    → slice_index row0 k ≡ 0
    → slice_index row1 k ≡ bit_xor (slice_index row0 k) (xor_upto (with_at (with_at (λ i. has i (512 + 512 * stripe + k)) j 0) j 0) group.disks)
    → slice_index row1 k ≡ has j (512 + 512 * stripe + k)
made-right group has j stripe m k row0 row1 lt below even small cleared made =
    made ∙ ap (λ (v : ℕ). bit_xor v (xor_upto (with_at (with_at (λ i. has i (512 + 512 * stripe + k)) j 0) j 0) group.disks)) cleared
    ∙ made-up (λ i. has i (512 + 512 * stripe + k)) j group.disks lt (even (512 + 512 * stripe + k) (record { behind = omega arith; below = omega arith }))

-- ---- after a blank

zeros-room : (o p : Option (List ℕ)) (n : ℕ) → Told (IsZeros n) o p → IfSome p (λ all. length all ≡ n)
zeros-room o None n h = tt
zeros-room None (Some y) n h = absurd h
zeros-room (Some x) (Some y) n h = ap length h ∙ length-replicate n 0

pub refilled-blank : {S : Type 0} (rack : Ghosts S) (group : Group) (now before : S) (j q n : ℕ) → q ≡ disk_number group.number j → n ≡ length_of group
    → rack.stands now q ≡ true → Told (IsZeros n) (rack.bytes before q) (rack.bytes now q) → IsRefilled rack group now j
refilled-blank rack group now before j q n is size stands blank = record {
  stands = subst (λ (k : ℕ). rack.stands now k ≡ true) is stands;
  room = subst (λ (k : ℕ). IfSome (rack.bytes now k) (λ all. length all ≡ length_of group)) is
      (subst (λ (m : ℕ). IfSome (rack.bytes now q) (λ all. length all ≡ m)) size (zeros-room (rack.bytes before q) (rack.bytes now q) n blank));
}

pub filled-none : {S : Type 0} (rack : Ghosts S) (group : Group) (now : S) (j : ℕ) (has : ℕ → ℕ → ℕ) → FilledTo rack group now j has 0
filled-none rack group now j has = record { at = λ x low high. absurd (omega arith) }

pub but-holds-then : {S : Type 0} (rack : Ghosts S) (j : ℕ) (a b c : Group) (s t u : S) → LeavesBut rack j b c t u
    → ((has : ℕ → ℕ → ℕ) → AllTold rack b t → Holds rack a s has → Holds rack b t has)
    → ((has : ℕ → ℕ → ℕ) → AllTold rack c u → Holds rack b t has → Holds rack c u has)
    → (has : ℕ → ℕ → ℕ) → AllTold rack c u → Holds rack a s has → Holds rack c u has
but-holds-then rack j a b c s t u leaves f g has all held = g has all (f has (told-before rack b c t u leaves.later leaves.tells all) held)

pub but-back : {S : Type 0} (rack : Ghosts S) (j : ℕ) (b c : Group) (t u : S) → LeavesBut rack j b c t u → AllTold rack c u → AllTold rack b t
but-back rack j b c t u leaves all = told-before rack b c t u leaves.later leaves.tells all

-- ---- disk j comes back

pub record Unmarks (old new : Group) (j : ℕ) : Type 0 where
  pub number : new.number ≡ old.number
  pub disks : new.disks ≡ old.disks
  pub size : new.length ≡ old.length
  pub sure : is_sure new ≡ is_sure old
  pub back : is_out new j ≡ false
  pub noted : new.noted ≡ false
  pub others : (i : ℕ) → i ≢ j → is_out new i ≡ is_out old i

-- a disk that has its chunk of each stripe holds what the group stands for
pub mended-holds : {S : Type 0} (rack : Ghosts S) (old new : Group) (now : S) (j : ℕ) (has : ℕ → ℕ → ℕ) → Unmarks old new j
    → FilledTo rack old now j has (stripes_of old.disks old.length) → Holds rack old now has → Holds rack new now has
mended-holds rack old new now j has u filled held = record {
  at = λ i x lt in0 range.
      let below : x < length_of old = subst (λ (n : ℕ). x < n) (ap (λ (n : ℕ). disk_length n new.length) u.disks ∙ ap (disk_length old.disks) u.size) range.below in
      ap (λ (s : ℕ). slice_index (bytes_of (rack.bytes now (disk_number s i))) x) u.number
      ∙ elim (cases_eq i j) [
        | inl same ↦ subst (λ (k : ℕ). slice_index (disk_in rack old now k) x ≡ has k x) (sym same) (filled.at x range.behind below)
        | inr ne ↦ held.at i x (subst (λ (n : ℕ). i < n) u.disks lt) (sym (u.others i ne) ∙ in0) (record { behind = range.behind; below = below })
      ];
}

pub mended-ready : {S : Type 0} (rack : Ghosts S) (old new : Group) (now : S) (j : ℕ) → Unmarks old new j → IsRefilled rack old now j → IsReady rack old now → IsReady rack new now
mended-ready rack old new now j u refilled ready = record {
  first = λ noted. absurd (false≢true (sym u.noted ∙ noted));
  stands = λ i lt in0. subst (λ (s : ℕ). rack.stands now (disk_number s i) ≡ true) (sym u.number) (elim (cases_eq i j) [
    | inl same ↦ subst (λ (k : ℕ). rack.stands now (disk_number old.number k) ≡ true) (sym same) refilled.stands
    | inr ne ↦ ready.stands i (subst (λ (n : ℕ). i < n) u.disks lt) (sym (u.others i ne) ∙ in0)
  ]);
  room = λ i lt in0. subst (λ (s : ℕ). IfSome (rack.bytes now (disk_number s i)) (λ all. length all ≡ length_of new)) (sym u.number)
      (subst (λ (n : ℕ). IfSome (rack.bytes now (disk_number old.number i)) (λ all. length all ≡ n)) (ap (λ (n : ℕ). disk_length n old.length) (sym u.disks) ∙ ap (disk_length new.disks) (sym u.size)) (elim (cases_eq i j) [
        | inl same ↦ subst (λ (k : ℕ). IfSome (rack.bytes now (disk_number old.number k)) (λ all. length all ≡ length_of old)) (sym same) refilled.room
        | inr ne ↦ ready.room i (subst (λ (n : ℕ). i < n) u.disks lt) (sym (u.others i ne) ∙ in0)
      ]));
  heads = λ noted. absurd (false≢true (sym u.noted ∙ noted));
}

-- a chunk was written on disk j
pub refilled-past : {S T E : Type 0} (rack : Ghosts S) (a g : Group) (j q place : ℕ) (x : T) (page : List ℕ) (s t u : S) → LeavesGroup rack a g s t → is_out a j ≡ true → q ≡ disk_number g.number j
    → Leaves {E = E} rack q (Ok x) t u → Told (Patched place page) (rack.bytes t q) (rack.bytes u q) → place + length page ≤ length_of a → IsRefilled rack a s j → IsRefilled rack g u j
refilled-past rack a g j q place x page s t u before out is call patched fits h =
    let mid : IsRefilled rack g t j = refilled-along rack a g s t j out before h in
    record {
      stands = subst (λ (k : ℕ). rack.stands u k ≡ true) is (call.stands_on (subst (λ (k : ℕ). rack.stands t k ≡ true) (sym is) mid.stands));
      room = room-patched place (length_of g) page _ _ (subst (λ (n : ℕ). place + length page ≤ n) (same-length a g before.later) fits)
          (subst (λ (k : ℕ). Told (Patched place page) (rack.bytes t k) (rack.bytes u k)) is patched) mid.room;
    }

-- the disk was made anew, whether it was done or not
pub but-blank : {S T E : Type 0} (rack : Ghosts S) (group : Group) (j q : ℕ) (r : Result T E) (before now : S) → is_out group j ≡ true → q ≡ disk_number group.number j
    → Leaves rack q r before now → IsReady rack group before → LeavesBut rack j group group before now
but-blank {T = T} {E = E} rack group j q r before now out is call ready =
    but-call rack group j r before now out (subst (λ (k : ℕ). Leaves {T = T} {E = E} rack k r before now) is call) ready

pub held-blank : {S T E : Type 0} (rack : Ghosts S) (group : Group) (j q : ℕ) (r : Result T E) (before now : S) → is_out group j ≡ true → q ≡ disk_number group.number j
    → Leaves rack q r before now → (has : ℕ → ℕ → ℕ) → AllTold rack group now → Holds rack group before has → Holds rack group now has
held-blank rack group j q r before now out is call has all held =
    holds-out rack group j before now has out (subst (λ (k : ℕ). OthersSame k (rack.bytes before) (rack.bytes now)) is call.others) all held
