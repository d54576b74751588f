-- What the sources of an inode, and those of a fragment, claim in the end.
use Rattle.std.proofs.Common.{◌≡◌, ℕ, ◌+◌, ◌*◌, ◌/◌, ◌<◌, ◌≤◌, ◌∙◌, ◌&&◌, inl, inr, List, [], Bool, true, false, Option, Some, None, IfSome, nat_lt, refl, sym, ap, subst, arith, div-le_self, ◌^◌}
use Rattle.std.proofs.lemmas.Bool.{cases_eq, false≢true}
use Rattle.std.proofs.lemmas.Bool.Decides.{nat_tests}
use Rattle.ufs_model.specs.Claims.{slot_fragments, pointer_fragments, fragments_at}
use Rattle.ufs_model.specs.Geometries.{IsGeometry}
use Rattle.ufs_model.specs.Inodes.{has_pointers, is_inode_number}
use Rattle.ufs_model.specs.Pointers.{address, pointer_in, slot_address}
use Rattle.ufs_model.specs.declared.claims.ClaimSource.{ClaimSource}
use Rattle.ufs_model.specs.declared.claims.ClaimSource.TheVariants.{Slot, Pointer}
use Rattle.ufs_model.specs.declared.geometries.Geometry.{Geometry}
use Rattle.ufs_model.specs.declared.inodes.Inode.{Inode}
use Rattle.dg_claims.proofs.ListLaws.{below_cases, cond_false, cond_true}
use Rattle.dg_claims.specs.Kept.{HasFragments, HasNone, HasSources, IsPlace, KeptClaims, SetsFirst, claimed_by}
use Rattle.dg_claims.specs.Places.{index_of, place_of, pointer_place, slot_place, source_of}
use Rattle.dg_claims.specs.Runs.{run_at, run_fragments, run_of}
use Rattle.dg_claims.specs.Tables.{fragment_pointers, inode_fragments}
use Rattle.dg_claims.specs.declared.places.Place.{Place}
use Rattle.dg_claims.specs.declared.places.Place.TheVariants.{Slot as SlotPlace, Pointer as PointerPlace}
use Rattle.dg_claims.specs.declared.runs.Run.{Run}

-- ---- places

pub source_is : (source : ClaimSource) → source_of (place_of source) ≡ source
source_is (Slot inode slot) = refl
source_is (Pointer fragment level at) = refl

pub place_is : (place : Place) → place_of (source_of place) ≡ place
place_is (SlotPlace slot inode) = refl
place_is (PointerPlace level at fragment) = refl

pub slot_apart : (inode i j : ℕ) → slot_place inode i ≡ slot_place inode j → i ≡ j
slot_apart inode i j e = cc

pub pointer_apart : (fragment level i j : ℕ) → pointer_place fragment level i ≡ pointer_place fragment level j → i ≡ j
pointer_apart fragment level i j e = cc

-- ---- the first of some places

-- one that wasn't set in the end, behind what was cleared
pub sets_cut : (old bare middle new : List (ClaimSource × Run)) (place_at : ℕ → Place) (IsRight : ℕ → Option Run → Type 0) (n all : ℕ) → SetsFirst old bare place_at HasNone all
    → SetsFirst bare middle place_at IsRight n → ((place : Place) → (place ≡ place_at n → ⊥) → run_at new place ≡ run_at middle place)
    → (place : Place) → ((k : ℕ) → place ≡ place_at k → ⊥) → run_at new place ≡ run_at old place
sets_cut old bare middle new place_at IsRight n all cleared first others place off =
    others place (off n) ∙ first.others place (λ k lt e. off k e) ∙ cleared.others place (λ k lt e. off k e)

-- one more
pub sets_more : (old middle new : List (ClaimSource × Run)) (place_at : ℕ → Place) (IsRight : ℕ → Option Run → Type 0) (n count : ℕ) → count ≡ n + 1 → ((i j : ℕ) → place_at i ≡ place_at j → i ≡ j)
    → SetsFirst old middle place_at IsRight n → IsRight n (run_at new (place_at n)) → ((place : Place) → (place ≡ place_at n → ⊥) → run_at new place ≡ run_at middle place)
    → SetsFirst old new place_at IsRight count
sets_more old middle new place_at IsRight n count more apart first here others = record {
  done = λ k lt. elim (cases_eq k n) [
    | inl same ↦ subst (λ i. IsRight i (run_at new (place_at i))) (sym same) here
    | inr ne ↦ subst (IsRight k) (sym (others (place_at k) (λ e. ne (apart k n e)))) (first.done k (omega (arith, lt, more, ne)))
  ];
  others = λ place off. others place (off n (omega (arith, more))) ∙ first.others place (λ k lt. off k (omega (arith, lt, more)));
}

-- what was set where all was cleared first
pub sets_over : (old bare new : List (ClaimSource × Run)) (place_at : ℕ → Place) (IsRight : ℕ → Option Run → Type 0) (n : ℕ) → SetsFirst old bare place_at HasNone n
    → SetsFirst bare new place_at IsRight n → SetsFirst old new place_at IsRight n
sets_over old bare new place_at IsRight n cleared first = record {
  done = first.done;
  others = λ place off. first.others place off ∙ cleared.others place off;
}

-- the next one claims nothing yet
pub next_bare : (old bare now : List (ClaimSource × Run)) (place_at : ℕ → Place) (IsRight : ℕ → Option Run → Type 0) (n all : ℕ) → ((i j : ℕ) → place_at i ≡ place_at j → i ≡ j)
    → SetsFirst old bare place_at HasNone all → SetsFirst bare now place_at IsRight n → n < all → run_at now (place_at n) ≡ None
next_bare old bare now place_at IsRight n all apart cleared first lt = first.others (place_at n) (λ k less e. omega (arith, apart n k e, less)) ∙ cleared.done n lt

none_from : {X : Type 0} (P : X → Type 0) (o : Option X) → IfSome o P → ((x : X) → P x → ⊥) → o ≡ None
none_from P None h nobody = refl
none_from P (Some x) h nobody = absurd (nobody x h)

-- ---- slots

nat_lt_false : (a b : ℕ) → b ≤ a → nat_lt a b ≡ false
nat_lt_false a b le = grind (arith, nat_tests)

and_false : (a b : Bool) → b ≡ false → (a && b) ≡ false
and_false true b e = e
and_false false b e = refl

pub past_slots : (g : Geometry) (inode : Inode) (slot : ℕ) → 15 ≤ slot → slot_fragments g inode slot ≡ []
unfolding slot_fragments
past_slots g inode slot le =
    cond_false (has_pointers g inode && nat_lt slot 15) (fragments_at (slot_address g inode slot)) []
    (and_false (has_pointers g inode) (nat_lt slot 15) (nat_lt_false slot 15 le))

no_slot : (kept : KeptClaims) (g : Geometry) (number slot : ℕ) → HasSources kept → kept.geometry ≡ Some g → 15 ≤ slot → run_at kept.runs (slot_place number slot) ≡ None
no_slot kept g number slot sources is le =
    none_from (λ run. IsPlace kept.geometry (slot_place number slot)) (run_at kept.runs (slot_place number slot)) (sources (slot_place number slot))
    (λ run h. let source : IsPlace (Some g) (slot_place number slot) = subst (λ o. IsPlace o (slot_place number slot)) is h in omega (arith, source.2, le))

pub all_slots : (kept : KeptClaims) (g : Geometry) (number : ℕ) (inode : Inode) (new : List (ClaimSource × Run)) → HasSources kept → kept.geometry ≡ Some g
    → is_inode_number g number ≡ true → SetsFirst kept.runs new (slot_place number) (HasFragments (slot_fragments g inode)) 15
    → (slot : ℕ) → claimed_by new (Slot number slot) ≡ inode_fragments kept.geometry number inode slot
unfolding claimed_by inode_fragments
all_slots kept g number inode new sources is within first slot =
    let wanted : inode_fragments (Some g) number inode slot ≡ slot_fragments g inode slot = cond_true (is_inode_number g number) (slot_fragments g inode slot) [] within in
    subst (λ o. run_fragments (run_at new (slot_place number slot)) ≡ inode_fragments o number inode slot) (sym is) (elim (below_cases slot 15) [
      | inl lt ↦ first.done slot lt ∙ sym wanted
      | inr le ↦
          ap run_fragments (first.others (slot_place number slot) (λ k lt e. omega (arith, slot_apart number slot k e, lt, le)) ∙ no_slot kept g number slot sources is le)
          ∙ sym (past_slots g inode slot le) ∙ sym wanted
    ])

-- what a source claims, by its place
pub by_place : (runs : List (ClaimSource × Run)) (source : ClaimSource) → claimed_by runs source ≡ run_fragments (run_at runs (place_of source))
unfolding claimed_by
by_place runs source = ap (λ s. run_fragments (run_of runs s)) (sym (source_is source))

place_apart : (source : ClaimSource) (place : Place) → (source ≡ source_of place → ⊥) → place_of source ≡ place → ⊥
place_apart source place ne e = ne (sym (source_is source) ∙ ap source_of e)

pub other_slots : (number : ℕ) (old new : List (ClaimSource × Run)) → ((place : Place) → ((k : ℕ) → place ≡ slot_place number k → ⊥) → run_at new place ≡ run_at old place)
    → (source : ClaimSource) → ((slot : ℕ) → source ≡ Slot number slot → ⊥) → claimed_by new source ≡ claimed_by old source
other_slots number old new others source off =
    by_place new source ∙ ap run_fragments (others (place_of source) (λ k. place_apart source (slot_place number k) (off k))) ∙ sym (by_place old source)

pub in_range : (g : Geometry) (number : ℕ) → 2 ≤ number → number < g.ncg * g.ipg → is_inode_number g number ≡ true
in_range g number low high = grind (arith, nat_tests)

-- where the inode is none of the volume
pub no_inode : (kept : KeptClaims) (number : ℕ) (inode : Inode) → HasSources kept → ((g : Geometry) → kept.geometry ≡ Some g → is_inode_number g number ≡ false)
    → (slot : ℕ) → claimed_by kept.runs (Slot number slot) ≡ inode_fragments kept.geometry number inode slot
unfolding claimed_by inode_fragments
no_inode kept number inode sources out slot =
    elim (kept.geometry) as (λ o. kept.geometry ≡ o → run_fragments (run_at kept.runs (slot_place number slot)) ≡ inode_fragments o number inode slot) [
      | None ↦ λ is. ap run_fragments (none_from (λ run. IsPlace kept.geometry (slot_place number slot)) (run_at kept.runs (slot_place number slot)) (sources (slot_place number slot))
          (λ run h. subst (λ o. IsPlace o (slot_place number slot)) is h))
      | Some g ↦ λ is.
          ap run_fragments (none_from (λ run. IsPlace kept.geometry (slot_place number slot)) (run_at kept.runs (slot_place number slot)) (sources (slot_place number slot))
          (λ run h.
          let source : IsPlace (Some g) (slot_place number slot) = subst (λ o. IsPlace o (slot_place number slot)) is h in
          false≢true (sym (out g is) ∙ in_range g number (source.0) (source.1))))
          ∙ sym (cond_false (is_inode_number g number) (slot_fragments g inode slot) [] (out g is))
    ] refl

-- ---- pointers

past_pointers : (g : Geometry) (bytes : List ℕ) (at : ℕ) → g.fsize / 4 ≤ at → pointer_fragments g bytes at ≡ []
unfolding pointer_fragments
past_pointers g bytes at le =
    cond_false (nat_lt at (g.fsize / 4)) (fragments_at (address g (pointer_in g.endian bytes at) g.frag)) [] (nat_lt_false at (g.fsize / 4) le)

no_pointer_at : (kept : KeptClaims) (g : Geometry) (fragment level at : ℕ) → HasSources kept → kept.geometry ≡ Some g → g.fsize / 4 ≤ at
    → run_at kept.runs (pointer_place fragment level at) ≡ None
no_pointer_at kept g fragment level at sources is le =
    none_from (λ run. IsPlace kept.geometry (pointer_place fragment level at)) (run_at kept.runs (pointer_place fragment level at)) (sources (pointer_place fragment level at))
    (λ run h. let source : IsPlace (Some g) (pointer_place fragment level at) = subst (λ o. IsPlace o (pointer_place fragment level at)) is h in omega (arith, source.2, le))

pub all_pointers : (kept : KeptClaims) (g : Geometry) (fragment level : ℕ) (bytes : List ℕ) (new : List (ClaimSource × Run)) → HasSources kept → kept.geometry ≡ Some g
    → SetsFirst kept.runs new (pointer_place fragment level) (HasFragments (pointer_fragments g bytes)) (g.fsize / 4)
    → (at : ℕ) → claimed_by new (Pointer fragment level at) ≡ fragment_pointers kept.geometry bytes at
unfolding claimed_by fragment_pointers
all_pointers kept g fragment level bytes new sources is first at =
    subst (λ o. run_fragments (run_at new (pointer_place fragment level at)) ≡ fragment_pointers o bytes at) (sym is) (elim (below_cases at (g.fsize / 4)) [
      | inl lt ↦ first.done at lt
      | inr le ↦
          ap run_fragments (first.others (pointer_place fragment level at) (λ k lt e. omega (arith, pointer_apart fragment level at k e, lt, le)) ∙ no_pointer_at kept g fragment level at sources is le)
          ∙ sym (past_pointers g bytes at le)
    ])

pub other_pointers : (fragment level : ℕ) (old new : List (ClaimSource × Run)) → ((place : Place) → ((k : ℕ) → place ≡ pointer_place fragment level k → ⊥) → run_at new place ≡ run_at old place)
    → (source : ClaimSource) → ((at : ℕ) → source ≡ Pointer fragment level at → ⊥) → claimed_by new source ≡ claimed_by old source
other_pointers fragment level old new others source off =
    by_place new source ∙ ap run_fragments (others (place_of source) (λ k. place_apart source (pointer_place fragment level k) (off k))) ∙ sym (by_place old source)

-- without a geometry
pub no_pointer : (kept : KeptClaims) (fragment level : ℕ) (bytes : List ℕ) → HasSources kept → kept.geometry ≡ None
    → (at : ℕ) → claimed_by kept.runs (Pointer fragment level at) ≡ fragment_pointers kept.geometry bytes at
unfolding claimed_by fragment_pointers
no_pointer kept fragment level bytes sources is at =
    subst (λ o. run_fragments (run_at kept.runs (pointer_place fragment level at)) ≡ fragment_pointers o bytes at) (sym is)
    (ap run_fragments (none_from (λ run. IsPlace kept.geometry (pointer_place fragment level at)) (run_at kept.runs (pointer_place fragment level at)) (sources (pointer_place fragment level at))
    (λ run h. subst (λ o. IsPlace o (pointer_place fragment level at)) is h)))

-- ---- one source

pub removed_source : (new : List (ClaimSource × Run)) (source : ClaimSource) (place : Place) → place ≡ place_of source → run_at new place ≡ None → claimed_by new source ≡ []
removed_source new source place is none = by_place new source ∙ ap run_fragments (ap (run_at new) (sym is) ∙ none)

pub other_sources : (old new : List (ClaimSource × Run)) (source other : ClaimSource) (place : Place) → place ≡ place_of source
    → ((q : Place) → (q ≡ place → ⊥) → run_at new q ≡ run_at old q) → (other ≡ source → ⊥) → claimed_by new other ≡ claimed_by old other
other_sources old new source other place is others ne =
    by_place new other ∙ ap run_fragments (others (place_of other) (λ e. ne (sym (source_is other) ∙ ap source_of (e ∙ is) ∙ source_is source))) ∙ sym (by_place old other)

no_large : (o : Option Geometry) (fragment level at : ℕ) → IfSome o IsGeometry → IsPlace o (pointer_place fragment level at) → 2 ^ 16 ≤ at → ⊥
no_large None fragment level at is source le = source
no_large (Some g) fragment level at is source le =
    let size = is.fsize in
    let quarter : g.fsize / 4 ≤ g.fsize = div-le_self g.fsize 4 in
    omega (arith, source.2, size.1, quarter, le)

-- a source with a large number claims nothing
pub large_source : (kept : KeptClaims) (source : ClaimSource) → HasSources kept → IfSome kept.geometry IsGeometry → 2 ^ 16 ≤ index_of source → claimed_by kept.runs source ≡ []
unfolding claimed_by
large_source kept (Slot inode slot) sources is le = absurd (omega (arith, le))
large_source kept (Pointer fragment level at) sources is le =
    ap run_fragments (none_from (λ run. IsPlace kept.geometry (pointer_place fragment level at)) (run_at kept.runs (pointer_place fragment level at)) (sources (pointer_place fragment level at))
    (λ run h. no_large kept.geometry fragment level at is h le))

-- without a geometry no source claims anything
pub no_source : (kept : KeptClaims) (source : ClaimSource) → HasSources kept → kept.geometry ≡ None → claimed_by kept.runs source ≡ []
no_source kept source sources is =
    by_place kept.runs source ∙ ap run_fragments (none_from (λ run. IsPlace kept.geometry (place_of source)) (run_at kept.runs (place_of source)) (sources (place_of source)) (λ run h. subst (λ o. IsPlace o (place_of source)) is h))

-- ---- sources that claim nothing any more

no_slot_place : (o : Option Geometry) (number slot : ℕ) → 15 ≤ slot → IsPlace o (slot_place number slot) → ⊥
no_slot_place None number slot le is = is
no_slot_place (Some g) number slot le is = omega (arith, is.2, le)

pub removed_slots : (kept : KeptClaims) (number : ℕ) (new : List (ClaimSource × Run)) → HasSources kept → SetsFirst kept.runs new (slot_place number) HasNone 15
    → (slot : ℕ) → claimed_by new (Slot number slot) ≡ []
unfolding claimed_by
removed_slots kept number new sources first slot = elim (below_cases slot 15) [
  | inl lt ↦ ap run_fragments (first.done slot lt)
  | inr le ↦
      ap run_fragments (first.others (slot_place number slot) (λ k lt e. omega (arith, slot_apart number slot k e, lt, le))
      ∙ none_from (λ run. IsPlace kept.geometry (slot_place number slot)) (run_at kept.runs (slot_place number slot)) (sources (slot_place number slot)) (λ run h. no_slot_place kept.geometry number slot le h))
]

pub removed_pointers : (kept : KeptClaims) (g : Geometry) (fragment level : ℕ) (new : List (ClaimSource × Run)) → HasSources kept → kept.geometry ≡ Some g
    → SetsFirst kept.runs new (pointer_place fragment level) HasNone (g.fsize / 4) → (at : ℕ) → claimed_by new (Pointer fragment level at) ≡ []
unfolding claimed_by
removed_pointers kept g fragment level new sources is first at = elim (below_cases at (g.fsize / 4)) [
  | inl lt ↦ ap run_fragments (first.done at lt)
  | inr le ↦ ap run_fragments (first.others (pointer_place fragment level at) (λ k lt e. omega (arith, pointer_apart fragment level at k e, lt, le)) ∙ no_pointer_at kept g fragment level at sources is le)
]

-- ---- the run of a source

pub kept_run : (runs : List (ClaimSource × Run)) (source : ClaimSource) (place : Place) (run : Option Run) → place ≡ place_of source → run ≡ run_at runs place → run_fragments run ≡ claimed_by runs source
kept_run runs source place run is e = ap run_fragments (e ∙ ap (run_at runs) is) ∙ sym (by_place runs source)

-- without a geometry
pub bare_pointer : (kept : KeptClaims) (fragment level : ℕ) → HasSources kept → kept.geometry ≡ None → (at : ℕ) → claimed_by kept.runs (Pointer fragment level at) ≡ []
bare_pointer kept fragment level sources is at = no_source kept (Pointer fragment level at) sources is
