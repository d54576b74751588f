-- Blocks that are reaped: what is inferred stays, and each other block stays in its place.
use Rattle.std.proofs.Common.{◌≡◌, ◌∙◌, ◌<◌, ◌≤◌, ◌==◌, ◌||◌, ◌⊎◌, ℕ, suc, Bool, true, false, List, [], ◌∷◌, length, inl, inr, refl, sym, ap, subst, arith}
use Rattle.std.specs.Prelude.{None, Option, Some, filter, if◌then◌else◌, is_some, slice_set}
use Rattle.std.specs.List.{list_any, range_with_len}
use Rattle.std.proofs.lemmas.Bool.{cases_eq, cases_lt, eq-eqb, ne_eqb, or_left, or_right}
use Rattle.std.proofs.lemmas.List.{get_or-set_other, get_or-set_same, get_or_past, length-set}
use Rattle.std.proofs.lemmas.List.Elements.{filter_agree}
use Rattle.dg_infer.specs.Meanings.{KeptInference}
use Rattle.dg_infer.specs.Meanings as inferences
use Rattle.dg_model.specs.Blocks.{zeros}
use Rattle.dg_model.specs.Marks.{IsDead, is_marked}
use Rattle.dg_model.specs.Placed.{IsPlaced}
use Rattle.dg_model.specs.Plans.{count_of, is_file, places_of}
use Rattle.dg_model.specs.Sites.{has_site}
use Rattle.dg_model.specs.Tables.{Table, is_on, sites_in, stands_on}
use Rattle.dg_model.specs.Wants.{AreWants, FitWants, want_of}
use Rattle.dg_model.specs.declared.homes.Home.{Home}
use Rattle.dg_model.specs.declared.shapes.Shape.{Shape}
use Rattle.dg_model.specs.declared.sites.Site.{Site}
use Rattle.dg_model.specs.declared.wants.Want.{Want}
use Rattle.dg_model.specs.declared.wants.Want.TheVariants.{File, Kept, Stray}
use Rattle.dg_rebuild.specs.Reaped.{is_among, zeroed}
use Rattle.dg_volume.specs.Phases.{CanReapAll}

-- ---- lists of blocks

among_first : (b : ℕ) (more : List ℕ) → is_among (b ∷ more) b ≡ true
among_first b more = or_left (b == b) (is_among more b) (eq-eqb b b refl)

among_rest : (b c : ℕ) (more : List ℕ) → is_among more c ≡ true → is_among (b ∷ more) c ≡ true
among_rest b c more h = or_right (b == c) (is_among more c) h

-- ---- what is inferred

-- it stands for the volume in which dead blocks are zeros
pub zeroed_stands : (kept : KeptInference) (table : Table) (marks : List Bool) → table.shape.l ≡ kept.l → table.shape.n ≡ kept.n
    → ((b : ℕ) → is_marked marks b ≡ true → (V : List (List ℕ)) → inferences.StandsFor kept V → IsDead table V kept.pending b)
    → (blocks : List ℕ) → CanReapAll kept blocks → ((b : ℕ) → is_among blocks b ≡ true → is_marked marks b ≡ true)
    → (V : List (List ℕ)) → inferences.StandsFor kept V → inferences.StandsFor kept (zeroed kept.l blocks V)
zeroed_stands kept table marks bytes number dead [] can marked V holds = holds
zeroed_stands kept table marks bytes number dead (b ∷ more) can marked V holds =
    let is = dead b (marked b (among_first b more)) V holds in
    let next = can 0 (omega arith) table V (record { bytes = bytes; number = number; site = is.written }) holds is in
    zeroed_stands kept table marks bytes number dead more (λ k low. can (suc k) (omega (arith, low))) (λ c h. marked c (among_rest b c more h)) (slice_set V b (zeros kept.l)) next

-- ---- wants

-- these blocks have none
pub without : List ℕ → List (Option Want) → List (Option Want)
without [] wants = wants
without (b ∷ more) wants = without more (slice_set wants b None)

without_size : (blocks : List ℕ) (wants : List (Option Want)) → length (without blocks wants) ≡ length wants
unfolding without
without_size [] wants = refl
without_size (b ∷ more) wants = without_size more (slice_set wants b None) ∙ length-set wants b None

set_none : (wants : List (Option Want)) (b c : ℕ) → want_of (slice_set wants b None) c ≡ (if b == c then None else want_of wants c)
set_none wants b c = elim (cases_eq b c) [
  | inl same ↦
      subst (λ (k : ℕ). want_of (slice_set wants b None) k ≡ (if b == k then None else want_of wants k)) same
      (at_same (cases_lt b (length wants)) ∙ ap (λ (x : Bool). if x then None else want_of wants b) (sym (eq-eqb b b refl)))
  | inr other ↦
      get_or-set_other wants b c None None (λ e. other (sym e))
      ∙ ap (λ (x : Bool). if x then None else want_of wants c) (sym (ne_eqb b c other))
]
  where
    at_same : (b < length wants) ⊎ (length wants ≤ b) → want_of (slice_set wants b None) b ≡ None
    at_same h = elim h [
      | inl low ↦ get_or-set_same wants b None None low
      | inr past ↦ get_or_past (slice_set wants b None) b None (let size : length (slice_set wants b None) ≡ length wants = length-set wants b None in omega (arith, size, past))
    ]

join_none : (x y : Bool) (want : Option Want) → (if y then None else (if x then None else want)) ≡ (if x || y then None else want)
join_none true true want = refl
join_none true false want = refl
join_none false true want = refl
join_none false false want = refl

without_at : (blocks : List ℕ) (wants : List (Option Want)) (c : ℕ) → want_of (without blocks wants) c ≡ (if is_among blocks c then None else want_of wants c)
unfolding without
without_at [] wants c = refl
without_at (b ∷ more) wants c =
    without_at more (slice_set wants b None) c
    ∙ ap (λ (w : Option Want). if is_among more c then None else w) (set_none wants b c)
    ∙ join_none (b == c) (is_among more c) (want_of wants c)

left_at : (x : Bool) (w : Option Want) (want : Want) → (if x then None else w) ≡ Some want → (x ≡ false) × (w ≡ Some want)
left_at true w want e = absurd (cc e)
left_at false w want e = (refl, e)

-- ---- places

module _ (old new : Table) (blocks : List ℕ) (wants : List (Option Want)) (shape : new.shape ≡ old.shape)
    (sites : (b : ℕ) → sites_in new b ≡ (if is_among blocks b then [] else sites_in old b)) (strays : (b : ℕ) → is_among blocks b ≡ true → want_of wants b ≡ Some Stray) where
  left : (b : ℕ) (want : Want) → want_of (without blocks wants) b ≡ Some want → (is_among blocks b ≡ false) × (want_of wants b ≡ Some want)
  left b want found = left_at (is_among blocks b) (want_of wants b) want (sym (without_at blocks wants b) ∙ found)

  same_on : (b : ℕ) → is_among blocks b ≡ false → (s : ℕ) → is_on new b s ≡ is_on old b s
  same_on b apart s = ap (stands_on s) (sites b ∙ ap (λ (x : Bool). if x then [] else sites_in old b) apart)

  some_at : (x : Bool) (w : Option Want) (at : List Site) → is_some w ≡ has_site at → is_some (if x then None else w) ≡ has_site (if x then [] else at)
  some_at true w at is = refl
  some_at false w at is = is

  pub fit_without : FitWants old wants → FitWants new (without blocks wants)
  fit_without fit = record {
    size = without_size blocks wants ∙ fit.size ∙ sym (ap (λ (x : Shape). x.n) shape);
    written = λ b. ap is_some (without_at blocks wants b) ∙ some_at (is_among blocks b) (want_of wants b) (sites_in old b) (fit.written b) ∙ sym (ap has_site (sites b));
  }

  file_at : (i : ℕ) (x : Bool) (w : Option Want) → (x ≡ true → w ≡ Some Stray) → is_file i (if x then None else w) ≡ is_file i w
  file_at i true w stray = sym (ap (is_file i) (stray refl))
  file_at i false w stray = refl

  same_count : (i : ℕ) → count_of (without blocks wants) i ≡ count_of wants i
  same_count i =
      ap (λ (n : ℕ). length (filter (λ b. is_file i (want_of (without blocks wants) b)) (range_with_len 0 n))) (without_size blocks wants)
      ∙ ap length (filter_agree (λ b. is_file i (want_of (without blocks wants) b)) (λ b. is_file i (want_of wants b))
      (λ b. ap (is_file i) (without_at blocks wants b) ∙ file_at i (is_among blocks b) (want_of wants b) (strays b)) (range_with_len 0 (length wants)))

  pub placed_without : (homes copies : List Home) → IsPlaced wants old homes copies → IsPlaced (without blocks wants) new homes copies
  placed_without homes copies placed = record {
    kept = λ b found s.
        let l = left b Kept found in
        same_on b l.0 s ∙ placed.kept b l.1 s ∙ ap (λ (x : Shape). list_any (λ t. t == s) (places_of x b)) (sym shape);
    file = λ b i found s. let l = left b (File i) found in same_on b l.0 s ∙ placed.file b i l.1 s;
    homes_are = λ i.
        let both = placed.homes_are i in
        (λ h. subst (λ (n : ℕ). 0 < n) (sym (same_count i)) (both.0 h), λ h. both.1 (subst (λ (n : ℕ). 0 < n) (same_count i) h));
    copies_are = placed.copies_are;
    homes_ascend = placed.homes_ascend;
    copies_ascend = placed.copies_ascend;
  }

  pub are_without : (l n : ℕ) (V : List (List ℕ)) → AreWants l n V wants → AreWants l n V (without blocks wants)
  are_without l n V are b want found = let at = left b want found in are b want at.1

  pub by_without : (by : ℕ → Want → Type 0) → ((b : ℕ) (want : Want) → want_of wants b ≡ Some want → by b want) → (b : ℕ) (want : Want) → want_of (without blocks wants) b ≡ Some want → by b want
  by_without by are b want found = let at = left b want found in are b want at.1
