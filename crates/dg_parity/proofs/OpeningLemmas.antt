-- What an opening finds on disks, one after the other.
use Rattle.std.proofs.Common.{◌≡◌, ◌⊎◌, ℕ, ◌+◌, ◌-◌, ◌<◌, ◌≤◌, inl, inr, List, length, take, refl, sym, ap, subst, ◌∙◌, arith}
use Rattle.std.specs.Prelude.{Option, None, Some, IfSome, slice_set}
use Rattle.std.proofs.lemmas.Bool.{cases_eq, false≢true}
use Rattle.std.proofs.lemmas.List.{get_or-set_same, get_or-set_other}
use Rattle.dg_model.specs.Causes.{Rose}
use Rattle.dg_io.specs.Told.{Told, IsSame, Reads, Measures}
use Rattle.dg_io.specs.declared.outside.Rack.{Ghosts}
use Rattle.dg_parity.specs.Headers.{IsCounted}
use Rattle.dg_parity.specs.Stripes.{disk_length}
use Rattle.dg_parity.specs.Groups.{disk_number}
use Rattle.dg_parity.specs.Openings.{IsFront, IsFound, LeavesRead, fronts_in}
use Rattle.dg_parity.specs.declared.headers.Header.{Header}
use Rattle.dg_parity.proofs.GroupLemmas.{same-then, same-self, rise-then, rose-later, rose-sooner}

-- the first page of a member that was measured and read
pub page-got : (o p r : Option (List ℕ)) (long : ℕ) (page : List ℕ) → length page ≡ 512 → Told (Measures long) o p → Told (Reads 0 page) p r
    → IfSome r (λ all. (take 512 all ≡ page) × (length all ≡ long))
page-got o p None long page size found read = tt
page-got o None (Some z) long page size found read = absurd read
page-got None (Some y) (Some z) long page size found read = absurd found
page-got (Some x) (Some y) (Some z) long page size found read =
    let all : 512 ≡ 0 + length page - 0 = omega (arith, size) in
    (ap (take 512) read.same ∙ ap (λ (k : ℕ). take k y) all ∙ sym read.there, ap (λ (l : List ℕ). length l) read.same ∙ ap (λ (l : List ℕ). length l) found.same ∙ found.size)

pub front-of : (s j long : ℕ) (page : List ℕ) (o : Option (List ℕ)) (front : Option Header)
    → IfSome o (λ all. (take 512 all ≡ page) × (length all ≡ long)) → ((all : List ℕ) → take 512 all ≡ page → length all ≡ long → IsFront s j all front)
    → IfSome o (λ all. IsFront s j all front)
front-of s j long page None front got is = tt
front-of s j long page (Some all) front got is = is all got.0 got.1

-- a disk that is too short has no header that counts
pub short-front : (s j : ℕ) (o : Option (List ℕ)) → IfSome o (λ all. length all < 512) → IfSome o (λ all. IsFront s j all None)
short-front s j None h = tt
short-front s j (Some all) h = λ front has. absurd (omega (arith, h, has.counted.size))

-- nothing was read
pub read-none : {S : Type 0} (rack : Ghosts S) (low high : ℕ) (now : S) → LeavesRead rack low high now now
read-none rack low high now = record {
  same = λ q. same-self (rack.bytes now q);
  other_faults = λ q h. refl;
  others_stand = λ q h s. s;
  writes = refl;
  rise = record { faults = λ q. omega arith; calls = omega arith; writes = omega arith };
  tells = λ q h. h;
  same_rack = refl;
  steady_on = (λ h. h, λ h. h);
}

outside : (low mid high q : ℕ) → low ≤ mid → mid ≤ high → (q < low) ⊎ (high ≤ q) → ((q < low) ⊎ (mid ≤ q)) × ((q < mid) ⊎ (high ≤ q))
outside low mid high q a b (inl lt) = (inl lt, inl (omega arith))
outside low mid high q a b (inr le) = (inr (omega arith), inr le)

-- members from one number up to another, and then those behind them
pub read-then : {S : Type 0} (rack : Ghosts S) (low mid high : ℕ) (s t u : S) → low ≤ mid → mid ≤ high → LeavesRead rack low mid s t → LeavesRead rack mid high t u → LeavesRead rack low high s u
read-then rack low mid high s t u a b f g = record {
  same = λ q. same-then _ _ _ (f.same q) (g.same q);
  other_faults = λ q h. let both = outside low mid high q a b h in g.other_faults q both.1 ∙ f.other_faults q both.0;
  others_stand = λ q h x. let both = outside low mid high q a b h in g.others_stand q both.1 (f.others_stand q both.0 x);
  writes = g.writes ∙ f.writes;
  rise = rise-then _ _ _ f.rise g.rise;
  tells = λ q h. f.tells q (g.tells q h);
  same_rack = g.same_rack ∙ f.same_rack;
  steady_on = (λ h. g.steady_on.0 (f.steady_on.0 h), λ h. f.steady_on.1 (g.steady_on.1 h));
}

front-same : (s j : ℕ) (o p : Option (List ℕ)) (front : Option Header) → Told IsSame o p → IfSome o (λ all. IsFront s j all front) → IfSome p (λ all. IsFront s j all front)
front-same s j o None front h is = tt
front-same s j None (Some y) front h is = absurd h
front-same s j (Some x) (Some y) front h is = subst (λ (all : List ℕ). IsFront s j all front) (sym h) is

-- what was found stands when others are looked at
pub found-later : {S : Type 0} (rack : Ghosts S) (a b c : S) (s j low high : ℕ) (front : Option Header) → (disk_number s j < low) ⊎ (high ≤ disk_number s j)
    → LeavesRead rack low high b c → IsFound rack a b s j front → IsFound rack a c s j front
found-later rack a b c s j low high front out leaves found = record {
  front_is = later found.front_is;
  stands = λ h. leaves.others_stand (disk_number s j) out (found.stands h);
  counted = found.counted;
} where
  later : IfSome (rack.bytes b (disk_number s j)) (λ all. IsFront s j all front)
      ⊎ ((front ≡ None) × Rose ((rack.counts a).faults (disk_number s j)) ((rack.counts b).faults (disk_number s j)))
      → IfSome (rack.bytes c (disk_number s j)) (λ all. IsFront s j all front)
      ⊎ ((front ≡ None) × Rose ((rack.counts a).faults (disk_number s j)) ((rack.counts c).faults (disk_number s j)))
  later (inl is) = inl (front-same s j _ _ front (leaves.same (disk_number s j)) is)
  later (inr fell) = inr (fell.0, rose-later _ _ _ fell.1 (leaves.rise.faults (disk_number s j)))

pub found-sooner : {S : Type 0} (rack : Ghosts S) (a b c : S) (s j low high : ℕ) (front : Option Header) → LeavesRead rack low high a b → IsFound rack b c s j front → IsFound rack a c s j front
found-sooner rack a b c s j low high front leaves found = record { front_is = sooner found.front_is; stands = found.stands; counted = found.counted } where
  sooner : IfSome (rack.bytes c (disk_number s j)) (λ all. IsFront s j all front)
      ⊎ ((front ≡ None) × Rose ((rack.counts b).faults (disk_number s j)) ((rack.counts c).faults (disk_number s j)))
      → IfSome (rack.bytes c (disk_number s j)) (λ all. IsFront s j all front)
      ⊎ ((front ≡ None) × Rose ((rack.counts a).faults (disk_number s j)) ((rack.counts c).faults (disk_number s j)))
  sooner (inl is) = inl is
  sooner (inr fell) = inr (fell.0, rose-sooner _ _ _ (leaves.rise.faults (disk_number s j)) fell.1)

-- one disk more was looked at
pub fronts-more : {S : Type 0} (rack : Ghosts S) (a b c : S) (s j : ℕ) (row : List (Option Header)) (front : Option Header) → j < length row
    → LeavesRead rack (disk_number s 0) (disk_number s j) a b → LeavesRead rack (disk_number s j) (disk_number s j + 1) b c
    → ((i : ℕ) → i < j → IsFound rack a b s i (fronts_in row i)) → IsFound rack b c s j front
    → (i : ℕ) → i < j + 1 → IsFound rack a c s i (fronts_in (slice_set row j front) i)
fronts-more rack a b c s j row front room first second before own i lt = elim (cases_eq i j) [
  | inl e ↦
      let at : front ≡ fronts_in (slice_set row j front) i = sym (ap (fronts_in (slice_set row j front)) e ∙ get_or-set_same row j front None room) in
      subst (λ (o : Option Header). IsFound rack a c s i o) at (subst (λ (k : ℕ). IsFound rack a c s k front) (sym e) (found-sooner rack a b c s j (disk_number s 0) (disk_number s j) front first own))
  | inr ne ↦
      let at : fronts_in row i ≡ fronts_in (slice_set row j front) i = sym (get_or-set_other row j i front None ne) in
      subst (λ (o : Option Header). IsFound rack a c s i o) at
      (found-later rack a b c s i (disk_number s j) (disk_number s j + 1) (fronts_in row i) (inl (omega (arith, lt, ne))) second (before i (omega (arith, lt, ne))))
]

abbrev nothing : Option Header
nothing = None

-- a disk without a page, or on which a call failed
pub found-none : {S : Type 0} (rack : Ghosts S) (before now : S) (s j q : ℕ) → q ≡ disk_number s j
    → IfSome (rack.bytes now q) (λ all. length all < 512) ⊎ Rose ((rack.counts before).faults q) ((rack.counts now).faults q) → IsFound rack before now s j None
found-none rack before now s j q is none = record { front_is = front none; stands = λ h. absurd (false≢true h); counted = tt } where
  front : IfSome (rack.bytes now q) (λ all. length all < 512) ⊎ Rose ((rack.counts before).faults q) ((rack.counts now).faults q)
      → IfSome (rack.bytes now (disk_number s j)) (λ all. IsFront s j all None)
      ⊎ ((nothing ≡ None) × Rose ((rack.counts before).faults (disk_number s j)) ((rack.counts now).faults (disk_number s j)))
  front (inl short) = inl (subst (λ (k : ℕ). IfSome (rack.bytes now k) (λ all. IsFront s j all None)) is (short-front s j (rack.bytes now q) short))
  front (inr rose) = inr (refl, subst (λ (k : ℕ). Rose ((rack.counts before).faults k) ((rack.counts now).faults k)) is rose)

-- a header counts on a disk of the length that its numbers give
pub counts-anyway : (s j long : ℕ) (front : Option Header) → IfSome front (λ h. IsCounted s j long h) → IfSome front (λ h. IsCounted s j (disk_length h.disks h.size) h)
counts-anyway s j long None is = tt
counts-anyway s j long (Some h) is = record { group = is.group; place = is.place; least = is.least; most = is.most; first = is.first; last = is.last; size = refl }
