-- A group that an opening made: its disks that are in stand, with their headers, and it stands for what they say.
use Rattle.std.proofs.Common.{◌≡◌, ◌⊎◌, ℕ, ◌<◌, ◌≤◌, inl, inr, Bool, true, false, List, length, take, refl, sym, ap, subst, ◌∙◌, arith}
use Rattle.std.specs.Prelude.{Option, None, Some, IfSome}
use Rattle.std.proofs.lemmas.Bool.{false≢true}
use Rattle.dg_model.specs.Causes.{Rose}
use Rattle.dg_io.specs.declared.outside.Rack.{Ghosts}
use Rattle.dg_parity.specs.Stripes.{disk_length}
use Rattle.dg_parity.specs.Headers.{header_bytes, marks_of, IsCounted}
use Rattle.dg_parity.specs.Groups.{disk_number, is_out, length_of, header_in, AreNumbered, IsNumbered, IsReady}
use Rattle.dg_parity.specs.Kept.{IsKept}
use Rattle.dg_parity.specs.Openings.{HasFront, IsFront, IsFound, IsOpened, AreSound}
use Rattle.dg_parity.specs.declared.groups.Group.{Group}
use Rattle.dg_parity.specs.declared.headers.Header.{Header}
use Rattle.dg_parity.proofs.PageLemmas.{same_fields}

pub some-map : (o : Option (List ℕ)) (P Q : List ℕ → Type 0) → ((all : List ℕ) → P all → Q all) → IfSome o P → IfSome o Q
some-map None P Q f h = tt
some-map (Some all) P Q f h = f all h

pub some-not : (h : Header) → Some h ≡ None → ⊥
some-not h e = false≢true (sym (ap is_there e)) where
  is_there : Option Header → Bool
  is_there None = false
  is_there (Some h) = true

-- a disk that has a header: what it says stands in its bytes
pub front-there : {S : Type 0} (rack : Ghosts S) (before now : S) (s j : ℕ) (front : Option Header) (h : Header) → front ≡ Some h → IsFound rack before now s j front
    → IfSome (rack.bytes now (disk_number s j)) (λ all. HasFront s j all h)
front-there rack before now s j front h is found = there (subst (λ (o : Option Header). IsFound rack before now s j o) is found).front_is where
  there : IfSome (rack.bytes now (disk_number s j)) (λ all. IsFront s j all (Some h))
      ⊎ ((Some h ≡ None) × Rose ((rack.counts before).faults (disk_number s j)) ((rack.counts now).faults (disk_number s j)))
      → IfSome (rack.bytes now (disk_number s j)) (λ all. HasFront s j all h)
  there (inl is) = is
  there (inr fell) = absurd (some-not h fell.0)

stands-there : {S : Type 0} (rack : Ghosts S) (before now : S) (s j : ℕ) (front : Option Header) (h : Header) → front ≡ Some h → IsFound rack before now s j front → rack.stands now (disk_number s j) ≡ true
stands-there rack before now s j front h is found = (subst (λ (o : Option Header). IsFound rack before now s j o) is found).stands refl

-- a header that was found counts, whatever is told
counted-there : {S : Type 0} (rack : Ghosts S) (before now : S) (s j : ℕ) (front : Option Header) (h : Header) → front ≡ Some h → IsFound rack before now s j front
    → IsCounted s j (disk_length h.disks h.size) h
counted-there rack before now s j front h is found = (subst (λ (o : Option Header). IsFound rack before now s j o) is found).counted

-- the header of a disk that is in is the one that the group gives it, where the group says that its headers stand
own-header : (s j : ℕ) (all : List ℕ) (n : ℕ) (group : Group) (chief h : Header) → HasFront s j all h → group.number ≡ s → group.disks ≡ n → h.disks ≡ n → group.epoch ≡ chief.epoch
    → h.epoch ≡ chief.epoch → group.length ≡ chief.size → h.size ≡ chief.size → h.marks ≡ chief.marks → marks_of (is_out group) 8 ≡ 0 → chief.marks ≡ 0 → h ≡ header_in group j
own-header s j all n group chief h has number disks width epoch own size long marks none clear =
    same_fields h.epoch group.epoch h.group group.number h.place j h.disks group.disks h.marks (marks_of (is_out group) 8) h.size group.length
    (own ∙ sym epoch) (has.counted.group ∙ sym number) has.counted.place (width ∙ sym disks) (marks ∙ clear ∙ sym none) (long ∙ sym size)

pub opened-ready : {S : Type 0} (rack : Ghosts S) (fronts : ℕ → Option Header) (n s : ℕ) (group : Group) (before now : S) → n ≤ 8
    → ((j : ℕ) → j < 8 → IsFound rack before now s j (fronts j)) → IsOpened fronts n s group → IsReady rack group now
opened-ready rack fronts n s group before now most found open0 =
    let below : (j : ℕ) → j < group.disks → j < n = λ j lt. subst (λ (k : ℕ). j < k) open0.disks lt in
    record {
      first = λ noted. omega (arith, open0.epoch, (counted-there rack before now s open0.place (fronts open0.place) open0.chief open0.is.has.found (found open0.place (omega (arith, open0.is.within, most)))).first);
      stands = λ j lt in0. let i = (open0.ins j (below j lt)).0 in0 in
          subst (λ (k : ℕ). rack.stands now (disk_number k j) ≡ true) (sym open0.number)
          (stands-there rack before now s j (fronts j) i.header i.has.found (found j (omega (arith, below j lt, most))));
      room = λ j lt in0. let i = (open0.ins j (below j lt)).0 in0 in
          subst (λ (k : ℕ). IfSome (rack.bytes now (disk_number k j)) (λ all. length all ≡ length_of group)) (sym open0.number)
          (some-map (rack.bytes now (disk_number s j)) (λ all. HasFront s j all i.header) (λ all. length all ≡ length_of group)
          (λ all has. has.counted.size ∙ ap (λ (k : ℕ). disk_length k i.header.size) (i.has.width ∙ sym open0.disks) ∙ ap (disk_length group.disks) (i.size ∙ sym open0.size))
          (front-there rack before now s j (fronts j) i.header i.has.found (found j (omega (arith, below j lt, most)))));
      heads = λ noted j lt in0. let i = (open0.ins j (below j lt)).0 in0 in
          subst (λ (k : ℕ). IfSome (rack.bytes now (disk_number k j)) (λ all. take 512 all ≡ header_bytes (header_in group j))) (sym open0.number)
          (some-map (rack.bytes now (disk_number s j)) (λ all. HasFront s j all i.header) (λ all. take 512 all ≡ header_bytes (header_in group j))
          (λ all has. has.bytes ∙ ap header_bytes (own-header s j all n group open0.chief i.header has open0.number open0.disks i.has.width open0.epoch i.epoch open0.size i.size i.marks
          (open0.noted.0 noted).0 (open0.noted.0 noted).1))
          (front-there rack before now s j (fronts j) i.header i.has.found (found j (omega (arith, below j lt, most)))));
    }

-- each disk that is in has a header with the numbers of the standing one
pub opened-numbered : {S : Type 0} (rack : Ghosts S) (fronts : ℕ → Option Header) (n s : ℕ) (group : Group) (before now : S) → n ≤ 8
    → ((j : ℕ) → j < 8 → IsFound rack before now s j (fronts j)) → IsOpened fronts n s group → AreNumbered rack group now
opened-numbered rack fronts n s group before now most found open0 j lt in0 =
    let below : j < n = subst (λ (k : ℕ). j < k) open0.disks lt in
    let i = (open0.ins j below).0 in0 in
    subst (λ (k : ℕ). IfSome (rack.bytes now (disk_number k j)) (λ all. IsNumbered group j (take 512 all))) (sym open0.number)
    (some-map (rack.bytes now (disk_number s j)) (λ all. HasFront s j all i.header) (λ all. IsNumbered group j (take 512 all))
    (λ all has. record {
      header = i.header;
      bytes = has.bytes;
      fits = has.fits;
      group = has.counted.group ∙ sym open0.number;
      place = has.counted.place;
      width = i.has.width ∙ sym open0.disks;
      size = i.size ∙ sym open0.size;
      epoch = omega (arith, i.epoch, open0.epoch);
    })
    (front-there rack before now s j (fronts j) i.header i.has.found (found j (omega (arith, below, most)))))

-- ---- what is kept

kept-ready : {S : Type 0} (rack : Ghosts S) (group : Group) (now : S) → IsReady rack group now → AreNumbered rack group now → AreSound rack group now → IsKept rack group now
kept-ready rack group now ready numbers sound = record { ready = λ alive. ready; numbers = λ alive. numbers; even = λ alive all. (sound all).0; clear = λ alive all. (sound all).1 }

pub some-ready : {S : Type 0} (rack : Ghosts S) (fronts : ℕ → Option Header) (n s : ℕ) (answer : Option Group) (before now : S) → n ≤ 8
    → ((j : ℕ) → j < 8 → IsFound rack before now s j (fronts j)) → IfSome answer (λ group. IsOpened fronts n s group) → IfSome answer (λ group. IsReady rack group now)
some-ready rack fronts n s None before now most found open0 = tt
some-ready rack fronts n s (Some group) before now most found open0 = opened-ready rack fronts n s group before now most found open0

pub some-kept : {S : Type 0} (rack : Ghosts S) (fronts : ℕ → Option Header) (n s : ℕ) (answer : Option Group) (before now : S) → n ≤ 8
    → ((j : ℕ) → j < 8 → IsFound rack before now s j (fronts j)) → IfSome answer (λ group. IsOpened fronts n s group)
    → IfSome answer (λ group. AreSound rack group now → IsKept rack group now)
some-kept rack fronts n s None before now most found open0 = tt
some-kept rack fronts n s (Some group) before now most found open0 = kept-ready rack group now (opened-ready rack fronts n s group before now most found open0) (opened-numbered rack fronts n s group before now most found open0)
