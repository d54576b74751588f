-- What an opening takes of four members, three of which have the last save, and what it doesn't.
use Rattle.std.proofs.Common.{get_or, ◌≡◌, ◌<◌, ◌≤◌, ◌⊎◌, inl, inr, ℕ, zero, suc, Bool, true, false, cond, [], ◌∷◌, ap, refl, arith, sym, ◌∙◌, length}
use Rattle.std.proofs.lemmas.Bool.{false≢true}
use Rattle.std.specs.Prelude.{◌↔◌, ◌==◌, ◌/◌, ◌%◌, IsSome, Option, Some, None, is_some, nat_lt, ◌+◌, ◌||◌, ◌&&◌, if◌then◌else◌}
use Rattle.std.specs.List.{list_any}
use Rattle.std.specs.List.Sorted.{IsStrictlyIncreasing}
use Rattle.dg_model.specs.Marks.{is_marked}
use Rattle.dg_model.specs.Sites.{has_site}
use Rattle.dg_model.specs.Causes.{Rose}
use Rattle.dg_model.specs.Changes.{IsInOrder}
use Rattle.dg_model.specs.Members.{is_good}
use Rattle.dg_model.specs.Openings.{Found, IsReopened, IsSource, IsUnclean, MayBeGood, Opens}
use Rattle.dg_model.specs.Placed.{IsPlaced, StandsOnJust, boundaries_with}
use Rattle.dg_model.specs.Plans.{is_kept}
use Rattle.dg_model.specs.Saves.{HasLength, Label, SavedState, body_of}
use Rattle.dg_model.specs.States.{Counts, State, is_broken, saved_of}
use Rattle.dg_model.specs.Tables.{is_on, sites_in}
use Rattle.dg_model.specs.Wants.{want_of}
use Rattle.dg_model.specs.declared.members.MemberState.{MemberState}
use Rattle.dg_model.specs.declared.members.MemberState.TheVariants.{Good, Out}
use Rattle.dg_model.specs.declared.phases.Phase.{Phase}
use Rattle.dg_model.specs.declared.phases.Phase.TheVariants.{Loose, Settled, Worn}
use Rattle.dg_model.specs.declared.shapes.Shape.{Shape}
use Rattle.dg_model.specs.declared.wants.Want.{Want}
use Rattle.dg_model.specs.declared.wants.Want.TheVariants.{Kept, File, Stray}
use Rattle.dg_model.proofs.PlanRows.{home}
use Rattle.dg_model.proofs.SettledRows.{at_home, both_on_0, of_file, written_0}
use Rattle.dg_model.proofs.StepRows.{array_with, shape}

-- ---- what is found

abbrev saved : SavedState
saved = saved_of (array_with both_on_0 at_home 5) (true ∷ true ∷ true ∷ true ∷ [])

abbrev label : ℕ → ℕ → Bool → Label
label q sequence sealed = record {
  format = 2;
  sequence = sequence;
  sealed = sealed;
  boundary = q / 2;
  side = q % 2;
  shape = shape;
  body = length (body_of 2 saved);
}

abbrev found : ℕ → ℕ → Bool → Option Found
found q sequence sealed = Some (record { label = label q sequence sealed; state = Some saved })

-- member 3 has an older save, since it was away
taken : ℕ → Option Found
taken zero = found 0 5 true
taken (suc zero) = found 1 5 true
taken (suc (suc zero)) = found 2 5 true
taken (suc (suc (suc zero))) = found 3 4 true
taken (suc (suc (suc (suc q)))) = None

abbrev sealed_of : Option Found → Bool
sealed_of None = true
sealed_of (Some f) = f.label.sealed

abbrev number_of : Option Found → ℕ
number_of None = 0
number_of (Some f) = f.label.sequence

all_sealed : (q : ℕ) → sealed_of (taken q) ≡ true
unfolding taken
all_sealed zero = refl
all_sealed (suc zero) = refl
all_sealed (suc (suc zero)) = refl
all_sealed (suc (suc (suc zero))) = refl
all_sealed (suc (suc (suc (suc q)))) = refl

no_later : (q : ℕ) → number_of (taken q) ≤ 5
unfolding taken
no_later zero = omega arith
no_later (suc zero) = omega arith
no_later (suc (suc zero)) = omega arith
no_later (suc (suc (suc zero))) = omega arith
no_later (suc (suc (suc (suc q)))) = omega arith

clean : IsUnclean taken → ⊥
clean h = false≢true (sym h.opened ∙ sym (ap sealed_of h.newest.there) ∙ all_sealed h.q)

source : IsSource taken 0 (label 0 5 true) saved
unfolding taken
source = record {
  clean = clean;
  newest = record { there = refl; greatest = λ p other there. (let n = ap number_of there in omega (arith, n, no_later p)) };
  first = λ p other low. absurd (omega (arith, low));
}

-- an older save isn't taken
older : (q : ℕ) (state : SavedState) → IsSource taken q (label q 4 true) state → ⊥
unfolding taken
older q state is =
    let least = is.newest.greatest 0 (record { label = label 0 5 true; state = Some saved }) refl in
    omega (arith, least)

-- nor one after which members were written
taken_opened : ℕ → Option Found
taken_opened zero = found 0 5 false
taken_opened (suc q) = None

opened : (q : ℕ) (last : Label) (state : SavedState) → IsSource taken_opened q last state → ⊥
unfolding taken_opened
opened q last state is = is.clean (record {
  q = 0;
  found = record { label = label 0 5 false; state = Some saved };
  newest = record { there = refl; greatest = at_most };
  opened = refl;
})
  where
    at_most : (p : ℕ) (other : Found) → taken_opened p ≡ Some other → other.label.sequence ≤ 5
    at_most zero other there = let n = ap number_of there in omega (arith, n)
    at_most (suc p) other there = absurd (false≢true (ap (λ (o : Option Found). is_some o) there))

-- ---- what holds of the settled state

same_file : (i : ℕ) → Some (File 3) ≡ Some (File i) → 3 ≡ i
same_file i e = ap (λ (o : Option Want). number o) e
  where
    number : Option Want → ℕ
    number None = 0
    number (Some Kept) = 0
    number (Some (File j)) = j
    number (Some Stray) = 0

on_one : (same : Bool) → nat_lt 0 (0 + cond {A = ℕ} same 1 0) ≡ (same || false)
on_one true = refl
on_one false = refl

at_0 : (s : ℕ) → is_on both_on_0 0 s ≡ list_any (λ t. t == s) (0 ∷ [])
at_0 s = on_one (0 == s)

at_1 : (s : ℕ) → is_on both_on_0 1 s ≡ list_any (λ t. t == s) (0 ∷ [])
at_1 s = on_one (0 == s)

stands : (b i : ℕ) → want_of of_file b ≡ Some (File i) → StandsOnJust both_on_0 b (boundaries_with (home 3 0 ∷ []) [] i)
stands zero i e s = at_0 s ∙ ap (λ j. list_any (λ t. t == s) (boundaries_with (home 3 0 ∷ []) [] j)) (same_file i e)
stands (suc zero) i e s = at_1 s ∙ ap (λ j. list_any (λ t. t == s) (boundaries_with (home 3 0 ∷ []) [] j)) (same_file i e)
stands (suc (suc b)) i e s = absurd (false≢true (ap (λ (o : Option Want). is_some o) e))

none_kept : (b : ℕ) → want_of of_file b ≡ Some Kept → ⊥
none_kept zero e = false≢true (ap is_kept e)
none_kept (suc zero) e = false≢true (ap is_kept e)
none_kept (suc (suc b)) e = false≢true (ap is_kept e)

homes_by : (same : Bool) → IsSome (cond {A = Option ℕ} same (Some 0) None) ↔ (0 < length {A = ℕ} (cond same (0 ∷ cond same (1 ∷ []) []) (cond same (1 ∷ []) [])))
homes_by true = ((λ some. omega arith), (λ low. refl))
homes_by false = ((λ none. absurd (false≢true none)), (λ low. absurd (omega (arith, low))))

placed : IsPlaced of_file both_on_0 (home 3 0 ∷ []) []
placed = record {
  kept = λ b e. absurd (none_kept b e);
  file = stands;
  homes_are = λ i. homes_by (3 == i);
  copies_are = λ i t e. absurd (false≢true (ap (λ (o : Option ℕ). is_some o) e));
  homes_ascend = λ k low. absurd (omega (arith, low));
  copies_ascend = λ k low. absurd (omega (arith, low));
}

-- a file doesn't stand beside its home
elsewhere : IsPlaced of_file both_on_0 (home 3 1 ∷ []) [] → ⊥
elsewhere h = false≢true (sym (h.file 0 3 refl 0))

-- and a block of the file system has each of its places
one_short : IsPlaced (Some Kept ∷ []) (record both_on_0 { shape = record shape { m = 2 } }) [] [] → ⊥
one_short h = false≢true (h.kept 0 refl 1)

-- ---- the opened state

members : ℕ → MemberState
members zero = Good
members (suc zero) = Good
members (suc (suc zero)) = Good
members (suc (suc (suc q))) = Out

abbrev opened_state : State
opened_state = record (array_with both_on_0 at_home 9) {
  members = members;
  label = Some (record {
    format = 2;
    sequence = 5;
    sealed = true;
    shape = shape;
    body = body_of 2 saved;
    keepers = λ q. is_good (members q);
    bodies = λ q. (q == 0) && is_good (members q);
    numbers = λ q. q;
  });
}

may_be : (q : ℕ) → members q ≡ Good → MayBeGood taken (label 0 5 true) saved q
unfolding members taken
may_be zero good = record { found = record { label = label 0 5 true; state = Some saved }; there = refl; same = refl; said = refl }
may_be (suc zero) good = record { found = record { label = label 1 5 true; state = Some saved }; there = refl; same = refl; said = refl }
may_be (suc (suc zero)) good = record { found = record { label = label 2 5 true; state = Some saved }; there = refl; same = refl; said = refl }
may_be (suc (suc (suc q))) good = absurd (false≢true (ap is_good good))

may_not : (q : ℕ) → MayBeGood taken (label 0 5 true) saved (suc (suc (suc q))) → ⊥
unfolding taken
may_not zero may = let n = ap number_of may.there in let m = ap (λ l. l.sequence) may.same in omega (arith, n, m)
may_not (suc q) may = false≢true (ap (λ (o : Option Found). is_some o) may.there)

abbrev before : Counts
before = record { faults = λ q. 0; calls = 0; writes = 0 }

out_or_good : (q : ℕ) → (members q ≡ Good) ⊎ ((members q ≡ Out) × (MayBeGood taken (label 0 5 true) saved q → Rose 0 0))
unfolding members
out_or_good zero = inl refl
out_or_good (suc zero) = inl refl
out_or_good (suc (suc zero)) = inl refl
out_or_good (suc (suc (suc q))) = inr (refl, λ may. absurd (may_not q may))

phase_apart : (phase : Phase) → phase ≡ Settled → phase ≡ Worn → ⊥
phase_apart Loose a b = loose_apart a
  where
    loose_apart : Loose ≡ Settled → ⊥
    loose_apart e = cc
phase_apart Settled a b = settled_apart b
  where
    settled_apart : Settled ≡ Worn → ⊥
    settled_apart e = cc
phase_apart Worn a b = worn_apart a
  where
    worn_apart : Worn ≡ Settled → ⊥
    worn_apart e = cc

not_loose : Settled ≡ Loose → ⊥
not_loose e = cc

holds : IsInOrder ⊥ opened_state
holds = record {
  wants = of_file;
  seen = record { fit = record { size = refl; written = written_0 }; are = λ told. absurd told };
  placed = placed;
  sound = λ told. absurd told;
}

two_ascend : IsStrictlyIncreasing (0 ∷ 1 ∷ [])
two_ascend zero low = omega arith
two_ascend (suc k) low = absurd (omega (arith, low))

two_within : (k d : ℕ) → k < 2 → get_or (0 ∷ 1 ∷ []) k d < 2
two_within zero d low = omega arith
two_within (suc zero) d low = omega arith
two_within (suc (suc k)) d low = absurd (omega (arith, low))

none_cut : (b : ℕ) → is_marked (false ∷ false ∷ []) b ≡ true → has_site (sites_in both_on_0 b) ≡ false
none_cut zero e = absurd (false≢true e)
none_cut (suc zero) e = absurd (false≢true e)
none_cut (suc (suc b)) e = absurd (false≢true e)

opens : Opens ⊥ taken None before opened_state
unfolding members
opens = record {
  source = 0;
  label = label 0 5 true;
  saved = saved;
  is_source = source;
  reduced = record { boundaries = 2; live = 0 ∷ 1 ∷ []; cut = false ∷ false ∷ [] };
  reduced_is = refl;
  fits = record {
    most = omega arith;
    live = record { ascend = two_ascend; within = two_within };
    number = refl;
    marks = refl;
    unsited = none_cut;
  };
  boundaries = refl;
  live = refl;
  cut = refl;
  table = refl;
  homes = refl;
  recent = refl;
  good = may_be;
  out = out_or_good;
  fell = λ q less. absurd (omega (arith, less));
  pending = record { size = refl; fewer = λ b e. e; are = λ told. absurd told };
  phase = record {
    worn = ((λ e. absurd (phase_apart Settled refl e)), (λ e. absurd (false≢true e)));
    settled = λ e. (refl, holds);
    loose = λ e. absurd (not_loose e);
    copies = refl;
  };
  label_is = refl;
  body = refl;
  counts = record { faults = λ q. omega arith; calls = omega arith; writes = omega arith };
}

-- a member on which a call of the opening failed isn't good
fallen_good : (Known : Type 0) → Opens Known taken None before (record opened_state { counts = record { faults = λ q. if q == 1 then 1 else 0; calls = 9; writes = 9 } }) → ⊥
unfolding members
fallen_good Known h = false≢true (sym (ap is_good (h.fell 1 (omega arith))))

-- an array with a lost boundary isn't opened as a settled one
broken_settled : (Known : Type 0) (state : State) → state.phase ≡ Settled → is_broken state ≡ true → IsReopened Known saved state → ⊥
broken_settled Known state settled broken is = phase_apart state.phase settled (is.worn.1 broken)

-- ---- lengths: a label of format 1 counts at the length of either format, one of format 2 at its own

abbrev large : Shape
large = record { l = 1024; n = 128; b = 4; k = 64; m = 2 }

abbrev of_format : ℕ → Label
of_format format = record { format = format; sequence = 1; sealed = true; boundary = 0; side = 0; shape = large; body = 0 }

old_length : HasLength (of_format 1) 69284
old_length = inl refl

extended : HasLength (of_format 1) 69993
extended = inr (refl, refl)

too_short : HasLength (of_format 2) 69284 → ⊥
too_short h = elim h [ inl e ↦ omega (arith, e) | inr other ↦ omega (arith, other.0) ]
