-- Which fragments have a claim at a level.
use Rattle.std.proofs.Common.{◌≡◌, ℕ, ◌+◌, ◌<◌, ◌↔◌, ◌∙◌, inl, inr, List, [], ◌∷◌, ◌++◌, Bool, true, false, Contains, Option, Some, None, IfSome, refl, sym, ap, subst, arith, if◌then◌else◌, ◌≤◌}
use Rattle.std.specs.List.{list_any}
use Rattle.std.proofs.lemmas.Bool.{cases_eq, false≢true, or_cases, or_left, or_right}
use Rattle.std.proofs.lemmas.List.{append-nil}
use Rattle.ufs_model.specs.Claims.{IsClaimedAt, level_of}
use Rattle.ufs_model.specs.declared.claims.ClaimSource.{ClaimSource}
use Rattle.ufs_model.specs.declared.claims.ClaimSource.TheVariants.{Slot, Pointer}
use Rattle.ufs_model.specs.declared.geometries.Geometry.{Geometry}
use Rattle.dg_claims.proofs.ListLaws.{number_is, same_number, contains_cons, contains_last, contains_none}
use Rattle.dg_claims.proofs.OwnerLaws.{claims_marked}
use Rattle.dg_claims.proofs.RunLaws.{contains_run}
use Rattle.dg_claims.proofs.SourceLaws.{place_is, source_is}
use Rattle.dg_claims.specs.Kept.{IsKept, IsRun, IsPlace, KeptClaims, claimed_by, kept_of, size_in, table_of}
use Rattle.dg_claims.specs.Marks.{is_of_level, marked_on}
use Rattle.dg_claims.specs.Places.{place_of, source_of}
use Rattle.dg_claims.specs.Runs.{run_at, run_fragments}
use Rattle.dg_claims.specs.Tables.{IsSource, TableClaims}
use Rattle.dg_claims.specs.declared.claims.Claims.TheInside.{Inside}
use Rattle.dg_claims.specs.declared.places.Place.{Place}
use Rattle.dg_claims.specs.declared.runs.Run.{Run}

-- one of the sources is at the level
any_source : (level : ℕ) (places : List Place) → list_any (is_of_level level) places ≡ true → (place : Place) × Contains places place × (level_of (source_of place) ≡ level)
any_source level [] h = absurd (false≢true h)
any_source level (p ∷ ps) h = elim (or_cases (is_of_level level p) (list_any (is_of_level level) ps) h) [
  | inl here ↦ (p, (contains_cons p ps p).1 (inl refl), number_is (level_of (source_of p)) level here)
  | inr rest ↦ let r = any_source level ps rest in (r.0, (contains_cons p ps (r.0)).1 (inr (r.1)), r.2)
]

source_any : (level : ℕ) (places : List Place) (place : Place) → Contains places place → level_of (source_of place) ≡ level → list_any (is_of_level level) places ≡ true
source_any level [] place has is = absurd (contains_none place has)
source_any level (p ∷ ps) place has is = elim ((contains_cons p ps place).0 has) [
  | inl e ↦ or_left (is_of_level level p) (list_any (is_of_level level) ps) (same_number (level_of (source_of p)) level (ap (λ q. level_of (source_of q)) (sym e) ∙ is))
  | inr rest ↦ or_right (is_of_level level p) (list_any (is_of_level level) ps) (source_any level ps place rest is)
]

pub claimed_at : (inside : Inside) (kept : KeptClaims) (fragment level : ℕ) → kept_of inside ≡ kept → IsKept inside
    → (list_any (is_of_level level) (marked_on inside.marks fragment) ≡ true) ↔ IsClaimedAt (TableClaims (table_of kept)) level fragment
claimed_at inside kept fragment level view is = (
  λ h.
      let some = any_source level (marked_on inside.marks fragment) h in record {
        source = source_of (some.0);
        claim = (claims_marked inside kept fragment (source_of (some.0)) view is).0 (subst (λ p. Contains (marked_on inside.marks fragment) p) (sym (place_is (some.0))) (some.1));
        is = some.2;
      },
  λ h.
      source_any level (marked_on inside.marks fragment) (place_of h.source) ((claims_marked inside kept fragment h.source view is).1 h.claim) (ap level_of (source_is h.source) ∙ h.is),
)

inside_run : (geometry : Option Geometry) (size fragment : ℕ) (place : Place) (run : Option Run) → IfSome run (λ r. IsPlace geometry place × IsRun size r) → Contains (run_fragments run) fragment → fragment < size
inside_run geometry size fragment place None h has = absurd (contains_none fragment has)
inside_run geometry size fragment place (Some run) h has =
    let both = (contains_run run fragment).0 has in
    let within = h.1 in
    omega (arith, both.1, within.inside)

-- what is claimed is inside the volume
pub claimed_inside : (inside : Inside) (kept : KeptClaims) (fragment level : ℕ) → kept_of inside ≡ kept → IsKept inside → IsClaimedAt (TableClaims (table_of kept)) level fragment → fragment < size_in kept.geometry
claimed_inside inside kept fragment level view is h =
    let marked = (claims_marked inside kept fragment h.source view is).1 h.claim in
    let place = place_of h.source in
    subst (λ (k : KeptClaims). fragment < size_in k.geometry) view
    (inside_run inside.geometry (size_in inside.geometry) fragment place (run_at inside.runs place) (is.runs place) ((is.marked fragment place).0 marked))

-- at a level of 0 to 3
level_most : (geometry : Option Geometry) (source : ClaimSource) → IsPlace geometry (place_of source) → level_of source ≤ 3
level_most None source is = absurd is
level_most (Some g) (Slot inode slot) is = let below = is.2 in omega arith
level_most (Some g) (Pointer fragment level at) is = let most = is.1 in omega arith

run_source : (geometry : Option Geometry) (size fragment : ℕ) (place : Place) (run : Option Run) → IfSome run (λ r. IsPlace geometry place × IsRun size r) → Contains (run_fragments run) fragment → IsPlace geometry place
run_source geometry size fragment place None h has = absurd (contains_none fragment has)
run_source geometry size fragment place (Some run) h has = h.0

pub claimed_level : (inside : Inside) (kept : KeptClaims) (fragment : ℕ) (source : ClaimSource) → kept_of inside ≡ kept → IsKept inside → Contains (claimed_by kept.runs source) fragment → level_of source ≤ 3
claimed_level inside kept fragment source view is has =
    let marked = (claims_marked inside kept fragment source view is).1 has in
    let place = place_of source in
    level_most inside.geometry source
    (run_source inside.geometry (size_in inside.geometry) fragment place (run_at inside.runs place) (is.runs place) ((is.marked fragment place).0 marked))

pub claimed_source : (inside : Inside) (kept : KeptClaims) (fragment : ℕ) (source : ClaimSource) → kept_of inside ≡ kept → IsKept inside → Contains (claimed_by kept.runs source) fragment → IsSource kept.geometry source
claimed_source inside kept fragment source view is has =
    let marked = (claims_marked inside kept fragment source view is).1 has in
    let place = place_of source in
    let there = run_source inside.geometry (size_in inside.geometry) fragment place (run_at inside.runs place) (is.runs place) ((is.marked fragment place).0 marked) in
    subst (λ (k : KeptClaims). IsSource k.geometry source) view (subst (λ (s : ClaimSource). IsSource inside.geometry s) (source_is source) there)

some_fits : (geometry : Option Geometry) (size : ℕ) (place : Place) (run : Option Run) → IfSome run (λ r. IsPlace geometry place × IsRun size r) → IfSome run (IsRun size)
some_fits geometry size place None h = tt
some_fits geometry size place (Some run) h = h.1

-- the run of a source
pub run_fits : (inside : Inside) (kept : KeptClaims) (place : Place) (run : Option Run) → kept_of inside ≡ kept → IsKept inside → run ≡ run_at inside.runs place
    → IfSome run (IsRun (size_in kept.geometry))
run_fits inside kept place run view is at =
    subst (λ (k : KeptClaims). IfSome run (IsRun (size_in k.geometry))) view
    (subst (λ (o : Option Run). IfSome o (IsRun (size_in inside.geometry))) (sym at) (some_fits inside.geometry (size_in inside.geometry) place (run_at inside.runs place) (is.runs place)))

-- ---- the list of them

pub fragments_more : (P : ℕ → Type 0) (items : List ℕ) (at count : ℕ) (wanted : Bool) → (wanted ≡ true) ↔ P at → count ≡ at + 1
    → ((fragment : ℕ) → Contains items fragment ↔ ((fragment < at) × P fragment))
    → (fragment : ℕ) → Contains (items ++ (if wanted then at ∷ [] else [])) fragment ↔ ((fragment < count) × P fragment)
fragments_more P items at count true test more before fragment =
    let listed = contains_last items at fragment in (
      λ has. elim (listed.0 has) [
        | inl h ↦ let b = (before fragment).0 h in (omega (arith, b.0, more), b.1)
        | inr e ↦ (omega (arith, e, more), subst P (sym e) (test.0 refl))
      ],
      λ both. listed.1 (elim (cases_eq fragment at) [
        | inl e ↦ inr e
        | inr ne ↦ inl ((before fragment).1 (omega (arith, both.0, ne, more), both.1))
      ]),
    )
fragments_more P items at count false test more before fragment =
    let none : items ++ [] ≡ items = append-nil items in (
      λ has. let b = (before fragment).0 (subst (λ xs. Contains xs fragment) none has) in (omega (arith, b.0, more), b.1),
      λ both. subst (λ xs. Contains xs fragment) (sym none) (elim (cases_eq fragment at) [
        | inl e ↦ absurd (false≢true (test.1 (subst P e (both.1))))
        | inr ne ↦ (before fragment).1 (omega (arith, both.0, ne, more), both.1)
      ]),
    )

by_test : {P : Type 0} (b t : Bool) → b ≡ t → (t ≡ true) ↔ P → (b ≡ true) ↔ P
by_test b t e iff = (λ h. iff.0 (sym e ∙ h), λ p. e ∙ iff.1 p)

pub wanted_at : (inside : Inside) (kept : KeptClaims) (fragment level : ℕ) (wanted : Bool) → kept_of inside ≡ kept → IsKept inside → wanted ≡ list_any (is_of_level level) (marked_on inside.marks fragment)
    → (wanted ≡ true) ↔ IsClaimedAt (TableClaims (table_of kept)) level fragment
wanted_at inside kept fragment level wanted view is e = by_test wanted (list_any (is_of_level level) (marked_on inside.marks fragment)) e (claimed_at inside kept fragment level view is)
