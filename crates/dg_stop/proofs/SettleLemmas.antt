-- Turns of members after a commit: their marks, what is kept in memory of them, and their counts.
use Rattle.std.proofs.Common.{◌≡◌, ◌≤◌, ◌<◌, ◌+◌, ◌^◌, ℕ, Bool, true, false, List, length, refl, sym, ◌∙◌, ap, arith, inl, inr, subst}
use Rattle.std.specs.Prelude.{◌==◌, ◌&&◌, ◌||◌, not, if◌then◌else◌, slice_index, slice_set}
use Rattle.std.proofs.lemmas.Bool.{false≢true}
use Rattle.std.proofs.lemmas.List.{get_or-set_other, get_or-set_same, get_or_past, length-set}
use Rattle.std.proofs.lemmas.Nat.Bits.{bit_at-zero, bit_at_above}
use Rattle.dg_io.specs.Commits.{is_marked}
use Rattle.dg_stop.proofs.Committing.{same_or_not}
use Rattle.dg_stop.proofs.OneCommit.{lt_or}
use Rattle.dg_stop.specs.DoubleCommits.{Faults, FaultsBelow, FaultsOne, IsFaulted, IsMarkedWith, IsSettled, IsSettledBeside, Settles, SettlesBelow, SettlesOne, fell_now}
use Rattle.dg_stop.specs.Phases.{bits_in, flag_in}
use Rattle.dg_stop.specs.declared.memories.Memory.{Memory}
use Rattle.dg_stop.specs.declared.places.Places.{Places}
use Rattle.dg_stop.specs.declared.tallies.Tally.{Tally}
use Rattle.std.specs.Global.{Vec}

-- ---- bits

high_unmarked : (marks q : ℕ) → marks < 2 ^ 32 → 32 ≤ q → is_marked marks q ≡ false
high_unmarked marks q fits high = ap (λ (n : ℕ). n == 1) (bit_at_above marks 32 q fits high)

-- the members below n have their flags
pub record FlagsBelow (n marks : ℕ) (flags : List Bool) : Type 0 where
  pub count : length flags ≡ 32
  pub below : (q : ℕ) → q < n → flag_in flags q ≡ is_marked marks q

pub flags_next : (n marks : ℕ) (flags : List Bool) (mark : Bool) → n < 32 → mark ≡ is_marked marks n → FlagsBelow n marks flags → FlagsBelow (n + 1) marks (slice_set flags n mark)
flags_next n marks flags mark low is so = record {
  count = length-set flags n mark ∙ so.count;
  below = λ q near. elim (same_or_not q n) [
    | inl e ↦ subst (λ (x : ℕ). flag_in (slice_set flags n mark) x ≡ is_marked marks x) (sym e) (get_or-set_same flags n mark false (omega (arith, low, so.count)) ∙ is)
    | inr apart ↦ get_or-set_other flags n q mark false apart ∙ so.below q (omega (arith, near, apart))
  ];
}

pub flags_all : (marks : ℕ) (flags : List Bool) → marks < 2 ^ 32 → FlagsBelow 32 marks flags → (q : ℕ) → flag_in flags q ≡ is_marked marks q
flags_all marks flags fits so q = elim (lt_or q 32) [
  | inl low ↦ so.below q low
  | inr high ↦ get_or_past flags q false (omega (arith, so.count, high)) ∙ sym (high_unmarked marks q fits high)
]

no_fall : (served serves : List Bool) (q : ℕ) → length served ≡ 32 → 32 ≤ q → fell_now served serves q ≡ false
no_fall served serves q count high = ap (λ (b : Bool). b && not (flag_in serves q)) (get_or_past served q false (omega (arith, count, high)))

-- the members below n that fell have their bits
pub record MarksBelow (n : ℕ) (served serves : List Bool) (marks : ℕ) : Type 0 where
  pub below : (q : ℕ) → q < n → is_marked marks q ≡ fell_now served serves q
  pub rest : (q : ℕ) → n ≤ q → is_marked marks q ≡ false

pub marks_none : (served serves : List Bool) → MarksBelow 0 served serves 0
marks_none served serves = record { below = λ q low. absurd (omega (arith, low)); rest = λ q high. ap (λ (n : ℕ). n == 1) (bit_at-zero q) }

pub marks_next : (n : ℕ) (served serves : List Bool) (marks next : ℕ) → MarksBelow n served serves marks → IsMarkedWith marks n (fell_now served serves n) next → MarksBelow (n + 1) served serves next
marks_next n served serves marks next so one = record {
  below = λ q near. elim (same_or_not q n) [
    | inl e ↦ subst (λ (x : ℕ). is_marked next x ≡ fell_now served serves x) (sym e) (one.here ∙ ap (λ (b : Bool). b || fell_now served serves n) (so.rest n (omega arith)))
    | inr apart ↦ one.others q apart ∙ so.below q (omega (arith, near, apart))
  ];
  rest = λ q high. one.others q (λ e. omega (arith, e, high)) ∙ so.rest q (omega (arith, high));
}

pub marks_all : (served serves : List Bool) (marks : ℕ) → length served ≡ 32 → MarksBelow 32 served serves marks → (q : ℕ) → is_marked marks q ≡ fell_now served serves q
marks_all served serves marks count so q = elim (lt_or q 32) [
  | inl low ↦ so.below q low
  | inr high ↦ so.rest q high ∙ sym (no_fall served serves q count high)
]

-- ---- memory

beside_then : (a b c : Memory) → IsSettledBeside a b → IsSettledBeside b c → IsSettledBeside a c
beside_then a b c one two = record {
  current = two.current ∙ one.current;
  known = two.known ∙ one.known;
  room = two.room ∙ one.room;
  commit = two.commit ∙ one.commit;
  top = two.top ∙ one.top;
}

pub settles_none : (served serves : List Bool) (m : Memory) → SettlesBelow 0 served serves m m
settles_none served serves m = record {
  beside = record { current = refl; known = refl; room = refl; commit = refl; top = refl };
  below = λ q low. absurd (omega (arith, low));
  rest = λ q high. record { stands = refl; gone = refl; last = refl };
}

settled_on : (q : ℕ) (fell serves : Bool) (a b c : Memory) → IsSettled q fell serves a b → IsSettled q false false b c → IsSettled q fell serves a c
settled_on q fell serves a b c one two = record { stands = two.stands ∙ one.stands; gone = two.gone ∙ one.gone; last = two.last ∙ one.last }

settled_now : (q : ℕ) (fell serves : Bool) (a b c : Memory) → IsSettledBeside a b → IsSettled q false false a b → IsSettled q fell serves b c → IsSettled q fell serves a c
settled_now q fell serves a b c beside one two = record {
  stands = two.stands ∙ ap (λ (x : Bool). if fell then false else x) one.stands;
  gone = two.gone ∙ ap (λ (x : Bool). if fell then true else x) one.gone;
  last = two.last ∙ ap (λ (v : Vec Places). if serves then bits_in v.items q else bits_in b.last.items q) beside.current
      ∙ ap (λ (x : List ℕ). if serves then bits_in a.current.items q else x) one.last;
}

pub settles_next : (n : ℕ) (served serves : List Bool) (old mid new : Memory) → SettlesBelow n served serves old mid → SettlesOne n (fell_now served serves n) (flag_in serves n) mid new
    → SettlesBelow (n + 1) served serves old new
settles_next n served serves old mid new so one = record {
  beside = beside_then old mid new so.beside one.beside;
  below = λ q near. elim (same_or_not q n) [
    | inl e ↦ subst (λ (x : ℕ). IsSettled x (fell_now served serves x) (flag_in serves x) old new) (sym e)
        (settled_now n (fell_now served serves n) (flag_in serves n) old mid new so.beside (so.rest n (omega arith)) one.own)
    | inr apart ↦ settled_on q (fell_now served serves q) (flag_in serves q) old mid new (so.below q (omega (arith, near, apart))) (one.others q apart)
  ];
  rest = λ q high. settled_on q false false old mid new (so.rest q (omega (arith, high))) (one.others q (λ e. omega (arith, e, high)));
}

pub settles_all : (served serves : List Bool) (old new : Memory) → length served ≡ 32 → length serves ≡ 32 → SettlesBelow 32 served serves old new → Settles served serves old new
settles_all served serves old new count later so = record {
  beside = so.beside;
  members = λ q. elim (lt_or q 32) [
    | inl low ↦ so.below q low
    | inr high ↦ subst (λ (b : Bool). IsSettled q b (flag_in serves q) old new) (sym (no_fall served serves q count high))
        (subst (λ (b : Bool). IsSettled q false b old new) (sym (get_or_past serves q false (omega (arith, later, high)))) (so.rest q high))
  ];
}

-- a member whose turn it is has the bits of its last places that it had
pub paired_still : (n q : ℕ) (served serves : List Bool) (old mid : Memory) → SettlesBelow n served serves old mid → n ≤ q → length (bits_in old.last.items q) ≡ length (bits_in old.current.items q)
    → length (bits_in mid.last.items q) ≡ length (bits_in mid.current.items q)
paired_still n q served serves old mid so high same = ap (λ (l : List ℕ). length l) (so.rest q high).last ∙ same ∙ ap (λ (v : Vec Places). length (bits_in v.items q)) (sym so.beside.current)

-- ---- counts

pub faults_none : (served serves : List Bool) (t : Tally) → FaultsBelow 0 served serves t t
faults_none served serves t = record { below = λ q low. absurd (omega (arith, low)); rest = λ q high. refl; calls = refl; writes = refl }

faulted_on : (q : ℕ) (fell : Bool) (a b c : Tally) → IsFaulted q fell a b → slice_index c.faults q ≡ slice_index b.faults q → IsFaulted q fell a c
faulted_on q fell a b c one same = record {
  later = omega (arith, one.later, same);
  rose = λ is. omega (arith, one.rose is, same);
  spared = λ is. same ∙ one.spared is;
}

faulted_now : (q : ℕ) (fell : Bool) (a b c : Tally) → slice_index b.faults q ≡ slice_index a.faults q → IsFaulted q fell b c → IsFaulted q fell a c
faulted_now q fell a b c same two = record {
  later = omega (arith, two.later, same);
  rose = λ is. omega (arith, two.rose is, same);
  spared = λ is. two.spared is ∙ same;
}

pub faults_next : (n : ℕ) (served serves : List Bool) (old mid new : Tally) → FaultsBelow n served serves old mid → FaultsOne n (fell_now served serves n) mid new → FaultsBelow (n + 1) served serves old new
faults_next n served serves old mid new so one = record {
  below = λ q near. elim (same_or_not q n) [
    | inl e ↦ subst (λ (x : ℕ). IsFaulted x (fell_now served serves x) old new) (sym e) (faulted_now n (fell_now served serves n) old mid new (so.rest n (omega arith)) one.own)
    | inr apart ↦ faulted_on q (fell_now served serves q) old mid new (so.below q (omega (arith, near, apart))) (one.others q apart)
  ];
  rest = λ q high. one.others q (λ e. omega (arith, e, high)) ∙ so.rest q (omega (arith, high));
  calls = one.calls ∙ so.calls;
  writes = one.writes ∙ so.writes;
}

pub faults_all : (served serves : List Bool) (old new : Tally) → length served ≡ 32 → FaultsBelow 32 served serves old new → Faults served serves old new
faults_all served serves old new count so = record {
  members = λ q. elim (lt_or q 32) [
    | inl low ↦ so.below q low
    | inr high ↦ record {
      later = omega (arith, so.rest q high);
      rose = λ is. absurd (false≢true (sym (no_fall served serves q count high) ∙ is));
      spared = λ is. so.rest q high;
    }
  ];
  calls = so.calls;
  writes = so.writes;
}
