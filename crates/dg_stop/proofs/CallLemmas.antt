-- The calls of a double rack, with its own counts.
use Rattle.std.proofs.Common.{◌≡◌, ◌<◌, ◌≤◌, ◌-◌, ◌⊎◌, ◌++◌, ◌∷◌, ℕ, Bool, true, false, List, [], replicate, refl, sym, ◌∙◌, ap, arith, inl, inr, subst}
use Rattle.std.specs.Prelude.{Option, Some, None, IfOk, IfSome, IsErr, IsSome, OnErr, OnOk, Result, Ok, Err, is_err, length, slice_index, take}
use Rattle.std.proofs.lemmas.Bool.{false≢true}
use Rattle.std.proofs.lemmas.List.{append-nil, take_all}
use Rattle.dg_io.specs.Faults.{HasCause}
use Rattle.dg_io.specs.Kept.{HasAnother, IsNothing, Kept, KeepsRest, without}
use Rattle.dg_io.specs.Told.{Extended, IsEmpty, IsSame, KeepsFront, Measures, Told}
use Rattle.dg_io.specs.declared.outside.Rack.{Ghosts}
use Rattle.dg_model.specs.Causes.{Rose}
use Rattle.dg_stop.proofs.BlankLemmas.{no_header_unknown}
use Rattle.dg_stop.proofs.Keeping.{anchored_none}
use Rattle.dg_stop.proofs.MemberLemmas.{fall_seen}
use Rattle.dg_stop.proofs.Paging.{size_seen}
use Rattle.dg_stop.proofs.StepLemmas.{TallySteps}
use Rattle.dg_stop.specs.DoubleLaws.{both_of}
use Rattle.dg_stop.specs.Doubles.{AreHeld, Double, Falls, IsBlank, IsDue, KeepsOthers, Notes, double_keeps, double_stands, fell_in, keeps_in, known_in, nothing_kept, seen_in, sizes_in, stands_in}
use Rattle.dg_stop.specs.Headers.{Header, HasHeader}
use Rattle.dg_stop.specs.Layouts.{bit_in, table_size}
use Rattle.dg_stop.specs.Phases.{bits_in, known_at, view_of}
use Rattle.dg_stop.specs.Reopens.{NoneCommitted}
use Rattle.dg_stop.specs.declared.memories.Memory.{Memory}
use Rattle.dg_stop.specs.declared.tallies.Tally.{Tally}

cause_of : {T E : Type 0} (q : ℕ) (r : Result T E) (failed : Bool) (old new : Tally) → failed ≡ is_err r → Notes q failed old new → HasCause (slice_index old.faults q) (slice_index new.faults q) r
cause_of q (Ok x) failed old new is notes = record { later = notes.later; failed = tt; kept = notes.kept is }
cause_of q (Err x) failed old new is notes = record { later = notes.later; failed = notes.rose is; kept = tt }

pub tally_of : {T E : Type 0} (q : ℕ) (r : Result T E) (failed : Bool) (old new : Tally) → failed ≡ is_err r → Notes q failed old new → TallySteps q r old new
tally_of q r failed old new is notes = record { cause = cause_of q r failed old new is notes; others = notes.others; calls = notes.calls; writes = notes.rise }

-- ---- a read or a write

-- a member that is told has all the bytes that the call is on
inside_told : (m : Memory) (q most : ℕ) (x : Option (List ℕ)) → IsSome x → IfSome (seen_in m q x) (λ all. most ≤ length all) → sizes_in m q < most → ⊥
inside_told m q most None some fits past = false≢true some
inside_told m q most (Some all) some fits past =
    let size = size_seen (table_size (sizes_in m q) m.room) (sizes_in m q) (bit_in (bits_in m.current.items q)) all in
    omega (arith, size, fits, past)

-- so where it failed the count of the member behind rose
pub due_told : {S T E : Type 0} (rack : Ghosts S) → ((s : S) (q : ℕ) → rack.tells s q → rack.stands s q ≡ true → IsSome (rack.bytes s q)) → (m : Memory) (q most : ℕ) (a b : S) (r : Result T E)
    → rack.tells a q → rack.stands a q ≡ true → IfSome (seen_in m q (rack.bytes a q)) (λ all. most ≤ length all) → OnErr r (IsDue rack q (sizes_in m q < most) a b)
    → OnErr r (Rose ((rack.counts a).faults q) ((rack.counts b).faults q))
due_told rack told m q most a b (Ok x) tells stands fits due = tt
due_told rack told m q most a b (Err x) tells stands fits due = elim due [
  | inl rose ↦ rose
  | inr past ↦ absurd (inside_told m q most (rack.bytes a q) (told a q tells stands) fits past)
]

-- ---- a blank

pub rest_double : {R : Type 0} (rack : Ghosts R) (q : ℕ) (old new : Double R) → KeepsOthers rack q old.memory new.memory old.rack new.rack → KeepsRest (double_keeps rack) (double_stands rack) q old new
rest_double rack q old new keeps = record { rest = rest; any = keeps.any } where
  case_of : (kept : Kept) → HasAnother (double_stands rack old) q kept ⊎ IsNothing kept → HasAnother (stands_in old.memory) q kept ⊎ IsNothing kept
  case_of kept (inl another) = inl (record {
    other = another.other;
    differs = another.differs;
    stand = (both_of (stands_in old.memory another.other) (rack.stands old.rack another.other) another.stand).0;
    entry = another.entry;
  })
  case_of kept (inr nothing) = inr nothing

  rest : (kept : Kept) → double_keeps rack old (Some kept) → HasAnother (double_stands rack old) q kept ⊎ IsNothing kept → double_keeps rack new (Some (without q kept))
  rest kept is case = keeps.rest kept is (case_of kept case)

-- ---- an attach

pub measured : (m : Memory) (q n : ℕ) (x : Option (List ℕ)) → n ≡ sizes_in m q → Told (Measures n) (seen_in m q x) (seen_in m q x)
measured m q n None is = tt
measured m q n (Some all) is = record { same = refl; size = size_seen (table_size (sizes_in m q) m.room) (sizes_in m q) (bit_in (bits_in m.current.items q)) all ∙ sym is }

no_bytes : (l : List ℕ) → length l ≡ 0 → l ≡ []
no_bytes [] none = refl
no_bytes (x ∷ l) none = absurd (omega (arith, none))

pub absent_empty : (m : Memory) (q : ℕ) (x : Option (List ℕ)) → sizes_in m q ≡ 0 → Told IsEmpty (seen_in m q x) (seen_in m q x)
absent_empty m q None none = tt
absent_empty m q (Some all) none = record {
  same = refl;
  none = no_bytes (view_of m.current.items m.room q all) (size_seen (table_size (sizes_in m q) m.room) (sizes_in m q) (bit_in (bits_in m.current.items q)) all ∙ none);
}

pub seen_itself : (x : Option (List ℕ)) → Told IsSame x x
seen_itself None = tt
seen_itself (Some b) = refl

-- ---- an extend

append_none : (all : List ℕ) (n : ℕ) → length all ≡ n → all ≡ all ++ replicate (n - length all) 0
append_none all n is =
    let e : n - length all ≡ 0 = omega (arith, is) in
    sym (ap (λ (k : ℕ). all ++ replicate k 0) e ∙ append-nil all)

-- the bytes are as many as they are to be
pub extended : (m : Memory) (q n : ℕ) (x : Option (List ℕ)) → n ≤ sizes_in m q → IfSome (seen_in m q x) (λ all. length all ≤ n) → Told (Extended n) (seen_in m q x) (seen_in m q x)
extended m q n None low fits = tt
extended m q n (Some all) low fits =
    let size = size_seen (table_size (sizes_in m q) m.room) (sizes_in m q) (bit_in (bits_in m.current.items q)) all in
    append_none (view_of m.current.items m.room q all) n (omega (arith, low, fits, size))

-- ---- what an attach finds

module _ {E : Type 0} (m : Memory) (q : ℕ) (x : Option (List ℕ)) where
  pub found_told : (r : Result (Option ℕ) E) → IfOk r (λ found. IfSome found (λ n. (stands_in m q ≡ true) × (n ≡ sizes_in m q)))
      → IfOk r (λ found. IfSome found (λ n. Told (Measures n) (seen_in m q x) (seen_in m q x)))
  found_told (Ok (Some n)) is = measured m q n x is.1
  found_told (Ok None) is = tt
  found_told (Err e) is = tt

  pub absent_told : (r : Result (Option ℕ) E) → IfOk r (λ found. found ≡ None → (stands_in m q ≡ false) × (fell_in m q ≡ false)) → (stands_in m q ≡ false → fell_in m q ≡ false → sizes_in m q ≡ 0)
      → IfOk r (λ found. found ≡ None → Told IsEmpty (seen_in m q x) (seen_in m q x))
  absent_told (Ok found) is bare = λ none. absent_empty m q x (bare (is none).0 (is none).1)
  absent_told (Err e) is bare = tt

  pub found_stands : (P : Type 0) (r : Result (Option ℕ) E) → IfOk r (λ found. IfSome found (λ n. (stands_in m q ≡ true) × (n ≡ sizes_in m q))) → (stands_in m q ≡ true → P)
      → IfOk r (λ found. IsSome found → P)
  found_stands P (Ok (Some n)) is f = λ some. f is.0
  found_stands P (Ok None) is f = λ some. absurd (false≢true some)
  found_stands P (Err e) is f = tt

below_or : (k n : ℕ) → (k < n) ⊎ (n ≤ k)
below_or k n = grind arith

-- a member that isn't found because it fell
pub fallen_or : {T E : Type 0} (r : Result T E) (P Q R : Type 0) → OnErr r (Q × R) → OnErr r (P ⊎ R)
fallen_or (Ok x) P Q R is = tt
fallen_or (Err x) P Q R is = inr is.1

-- what an extend leaves of the bytes
module _ {T E : Type 0} (m n : Memory) (q k : ℕ) (x : Option (List ℕ)) where
  pub extend_ok : (r : Result T E) → OnOk r (n ≡ m) → (sizes_in m q < k → IsErr r) → IfSome (seen_in m q x) (λ all. length all ≤ k) → OnOk r (Told (Extended k) (seen_in m q x) (seen_in n q x))
  extend_ok (Ok t) same fails fits = subst (λ (y : Memory). Told (Extended k) (seen_in m q x) (seen_in y q x)) (sym same) (elim (below_or (sizes_in m q) k) [
    | inl low ↦ absurd (false≢true (fails low))
    | inr high ↦ extended m q k x high fits
  ])
  extend_ok (Err e) same fails fits = tt

  pub extend_err : (r : Result T E) → OnErr r (Falls q m n) → OnErr r (Told KeepsFront (seen_in m q x) (seen_in n q x))
  extend_err (Ok t) falls = tt
  extend_err (Err e) falls = fall_seen IsSame KeepsFront q m n x x falls
      (λ a b e. ap (λ (l : List ℕ). take (length (view_of m.current.items m.room q a)) (view_of m.current.items m.room q l)) e ∙ take_all (length (view_of m.current.items m.room q a)) (view_of m.current.items m.room q a) (omega arith))
      (seen_itself x)

-- ---- a blank array

module _ {S : Type 0} (rack : Ghosts S) (members most room : ℕ) (m : Memory) (a : S) (blank : IsBlank members most room m) where
  pub blank_held : members ≤ 32 → AreHeld rack m a
  blank_held few = record {
    sized = λ q at. absurd (false≢true (sym (blank.stands q) ∙ at));
    bare = λ q out gone. blank.sizes q;
    paired = λ q at. absurd (false≢true (sym (blank.stands q) ∙ at));
    few = omega (arith, few, blank.count);
  }

  bare_at : (q : ℕ) (h : Header) → HasHeader q (known_at (known_in m) (rack.bytes a) q) h → ⊥
  bare_at q h has = no_header_unknown m (rack.bytes a) q (blank.known q) h has

  none_at : NoneCommitted (known_at (known_in m) (rack.bytes a))
  none_at q h has mark = bare_at q h has

  pub blank_keeps : rack.steady a → keeps_in rack m a (Some nothing_kept)
  blank_keeps steady = (
    steady,
    λ told. (
      record {
        guarded = record {
          seen = λ q h has. absurd (bare_at q h has);
          size = λ q h at has e. absurd (bare_at q h has);
          room_is = λ q h at has e. absurd (bare_at q h has);
          mark = λ q h at has e. absurd (bare_at q h has);
          named = λ q h at has e. absurd (bare_at q h has);
          later = λ q h at has. absurd (bare_at q h has);
        };
        low = omega (arith, blank.commit, blank.top);
        known = λ q at. absurd (false≢true (sym (blank.stands q) ∙ at));
        numbers = λ q at. absurd (false≢true (sym (blank.known q) ∙ at));
      },
      record {
        fresh = inl none_at;
        reopened = record {
          nothing = λ none. (λ q. refl, refl);
          last = λ c q lead last leads. absurd (bare_at last.member last.header last.is.has);
        };
        anchored = anchored_none (stands_in m) (known_at (known_in m) (rack.bytes a)) nothing_kept none_at;
      },
    ),
  )
