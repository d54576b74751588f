-- The places of boundaries among those in use, and the marks of cut blocks.
use Rattle.std.proofs.Common.{◌≡◌, ◌≢◌, ◌∙◌, ◌<◌, ◌+◌, ◌*◌, ◌||◌, ◌++◌, ℕ, zero, suc, Bool, true, false, List, [], ◌∷◌, get_or, length, inl, inr, refl, sym, ap, subst, arith}
use Rattle.std.specs.Prelude.{◌==◌, All, None, Option, Some, replicate, slice_set}
use Rattle.std.specs.List.{list_any}
use Rattle.std.specs.List.Sorted.{IsStrictlyIncreasing}
use Rattle.std.specs.Option.{option_map}
use Rattle.std.proofs.lemmas.Bool.{cases_eq, false≢true}
use Rattle.std.proofs.lemmas.Bool.Decides.{nat_tests}
use Rattle.std.proofs.lemmas.List.{get_or-set_other, get_or-set_same, length-replicate, length-set}
use Rattle.std.proofs.lemmas.List.FromFn.{get_or-range_with_len, length-range_with_len}
use Rattle.std.proofs.lemmas.List.Kept.{AllPairs-from_increasing}
use Rattle.std.proofs.lemmas.List.Sums.{position_or_len_is}
use Rattle.dg_model.specs.Lives.{all_live, boundary_at, place_in}
use Rattle.dg_model.specs.Marks.{is_marked}
use Rattle.dg_model.specs.Members.{is_lost}
use Rattle.dg_model.specs.Openings.{FitsReduced, Reduced, all_in_use}
use Rattle.dg_model.specs.Sites.{Evicts, IsGivenFirst, IsSited, has_site, without_last}
use Rattle.dg_model.specs.States.{IsLeastLost}
use Rattle.dg_model.specs.Tables.{IsTable, Table, sites_in}
use Rattle.dg_model.specs.declared.members.MemberState.{MemberState}
use Rattle.dg_model.specs.declared.members.MemberState.TheVariants.{Out}
use Rattle.dg_model.specs.declared.shapes.Shape.{Shape}
use Rattle.dg_model.specs.declared.sites.Site.{Site}
use Rattle.ufs_model.specs.Blocks.{Consulted}
use Rattle.ufs_model.specs.Readings.{MeetsRule}

-- ---- gone blocks

pub or_turned : (x y : Bool) → (y || x) ≡ (x || y)
or_turned true true = refl
or_turned true false = refl
or_turned false true = refl
or_turned false false = refl

-- a block that is gone or was cut, told in either order
turned : (gone cut : ℕ → Bool) → ◌≡◌ {A = ℕ → Bool} (λ b. gone b || cut b) (λ b. cut b || gone b)
turned gone cut = λ i b. or_turned (cut b) (gone b) i

-- the reading rule in the other order
pub meets_turned : {A : Type 0} (before was after now : ℕ → Bool) (d : Consulted A) (answer : Option A) → MeetsRule (λ (b : ℕ). was b || before b) (λ (b : ℕ). now b || after b) d answer
    → MeetsRule (λ (b : ℕ). before b || was b) (λ (b : ℕ). after b || now b) d answer
meets_turned before was after now d answer rule =
    let first = subst (λ (f : ℕ → Bool). MeetsRule f (λ (b : ℕ). now b || after b) d answer) (sym (turned before was)) rule in
    subst (λ (f : ℕ → Bool). MeetsRule (λ (b : ℕ). before b || was b) f d answer) (sym (turned after now)) first

pub any_turned : (gone cut : ℕ → Bool) (needs : List ℕ) → list_any (λ (b : ℕ). cut b || gone b) needs ≡ true → list_any (λ (b : ℕ). gone b || cut b) needs ≡ true
any_turned gone cut needs any = subst (λ (f : ℕ → Bool). list_any f needs ≡ true) (sym (turned gone cut)) any

-- ---- places

-- the boundary at a place has this place
pub place_at : (live : List ℕ) (x : ℕ) → IsStrictlyIncreasing live → x < length live → place_in live (boundary_at live x) ≡ x
place_at live x rise within = position_or_len_is (λ t. t == boundary_at live x) live x 0 (omega (arith, within)) before (λ low. grind (arith, nat_tests))
  where
    before : (k : ℕ) → k < x → (get_or live k 0 == boundary_at live x) ≡ false
    before k less = let low : get_or live k 0 < get_or live x 0 = AllPairs-from_increasing live rise k x 0 less within in grind (arith, nat_tests)

-- the least one that is lost is so by its number
pub least_at : (shape : Shape) (live : List ℕ) (members : ℕ → MemberState) (x : ℕ) → IsStrictlyIncreasing live → length live ≡ shape.b → IsLeastLost shape members x
    → IsLeastLost shape members (place_in live (boundary_at live x))
least_at shape live members x rise size least = subst (λ (k : ℕ). IsLeastLost shape members k) (sym (place_at live x rise (omega (arith, size, least.within)))) least

-- the boundary of a home, by its place
pub home_place : (live : List ℕ) (home : Option ℕ) (s : ℕ) → IsStrictlyIncreasing live → s < length live → home ≡ Some s → home ≡ Some (place_in live (boundary_at live s))
home_place live home s rise low is = is ∙ ap Some (sym (place_at live s rise low))

pub home_places : (live : List ℕ) (home : Option ℕ) → IsStrictlyIncreasing live → ((s : ℕ) → home ≡ Some s → s < length live)
    → home ≡ option_map (place_in live) (option_map (boundary_at live) home)
home_places live None rise within = refl
home_places live (Some s) rise within = ap Some (sym (place_at live s rise (within s refl)))

-- a boundary whose members are out is lost
pub lost_out : (members : ℕ → MemberState) (x : ℕ) → members (2 * x) ≡ Out → members (2 * x + 1) ≡ Out → is_lost members x ≡ true
lost_out members x first second = rw (first, second) refl

-- ---- marks

pub none_marked : (n b : ℕ) → is_marked (replicate n false) b ≡ false
none_marked zero b = refl
none_marked (suc n) zero = refl
none_marked (suc n) (suc b) = none_marked n b

-- a mark that is left once one was taken away is another's
pub marked_still : (marks : List Bool) (b c : ℕ) → b < length marks → is_marked (slice_set marks b false) c ≡ true → (c ≢ b) × (is_marked marks c ≡ true)
marked_still marks b c within marked = elim (cases_eq c b) [
  | inl same ↦ absurd (false≢true (sym (ap (λ (k : ℕ). is_marked (slice_set marks b false) k) same ∙ get_or-set_same marks b false false within) ∙ marked))
  | inr apart ↦ (apart, sym (get_or-set_other marks b c false false apart) ∙ marked)
]

-- ---- sites

no_sites : (sites : List Site) → has_site sites ≡ false → sites ≡ []
no_sites [] none = refl
no_sites (site ∷ sites) none = absurd (false≢true (sym none))

other_row : (rows : List (List Site)) (d c : ℕ) (row : List Site) → c ≢ d → get_or (slice_set rows d row) c [] ≡ get_or rows c []
other_row rows d c row apart = get_or-set_other rows d c row [] apart

-- a block without a site gets none where others lose theirs
bare_evicted : (count : ℕ) (old new : Table) (c : ℕ) → Evicts count old new → sites_in old c ≡ [] → sites_in new c ≡ []
bare_evicted zero old new c h bare = ap (λ (t : Table). sites_in t c) h.1 ∙ bare
bare_evicted (suc count) old new c h bare = bare_evicted count (without_last old h.1.0) new c h.1.2 (elim (cases_eq c h.1.0) [
  | inl same ↦
      let more = h.1.1.more in
      let size : length (sites_in old h.1.0) ≡ 0 = ap (λ (k : ℕ). length (sites_in old k)) (sym same) ∙ ap length bare in
      absurd (omega (arith, more, size))
  | inr apart ↦ other_row old.rows h.1.0 c _ apart ∙ bare
])

bare_given : (old new : Table) (b c : ℕ) → c ≢ b → IsGivenFirst old b new → sites_in old c ≡ [] → sites_in new c ≡ []
bare_given old new b c apart h bare =
    ap (λ (t : Table). sites_in t c) h.given ∙ other_row h.middle.rows b c (sites_in h.middle b ++ h.site ∷ []) apart
    ∙ bare_evicted h.evictions old h.middle c h.evicted bare

-- a write of a block gives no other one a site
pub bare_sited : (old new : Table) (b c : ℕ) → c ≢ b → IsSited old b new → has_site (sites_in old c) ≡ false → has_site (sites_in new c) ≡ false
bare_sited old new b c apart h none = by_site (has_site (sites_in old b)) refl
  where
    by_site : (x : Bool) → has_site (sites_in old b) ≡ x → has_site (sites_in new c) ≡ false
    by_site true is = ap (λ (t : Table). has_site (sites_in t c)) (h.kept is) ∙ none
    by_site false is = ap has_site (bare_given old new b c apart (h.first is) (no_sites (sites_in old c) none))

-- ---- what is in use

-- no block gets a site that was cut
pub fits_on : (old new : Table) (reduced : Reduced) → new.shape ≡ old.shape → ((c : ℕ) → has_site (sites_in old c) ≡ false → has_site (sites_in new c) ≡ false)
    → FitsReduced old reduced → FitsReduced new reduced
fits_on old new reduced shape bare fits = record {
  most = fits.most;
  live = fits.live;
  number = fits.number ∙ sym (ap (λ (s : Shape). s.b) shape);
  marks = fits.marks ∙ sym (ap (λ (s : Shape). s.n) shape);
  unsited = λ c marked. bare c (fits.unsited c marked);
}

-- a block that is written is cut no more
pub fits_written : (old new : Table) (reduced : Reduced) (b : ℕ) → new.shape ≡ old.shape → b < old.shape.n → IsSited old b new → FitsReduced old reduced
    → FitsReduced new (record reduced { cut = slice_set reduced.cut b false })
fits_written old new reduced b shape within sited fits = record {
  most = fits.most;
  live = fits.live;
  number = fits.number ∙ sym (ap (λ (s : Shape). s.b) shape);
  marks = length-set reduced.cut b false ∙ fits.marks ∙ sym (ap (λ (s : Shape). s.n) shape);
  unsited = λ c marked.
      let still = marked_still reduced.cut b c (omega (arith, within, fits.marks)) marked in
      bare_sited old new b c still.0 sited (fits.unsited c still.1);
}

-- ---- all boundaries

all_ascend : (b : ℕ) → IsStrictlyIncreasing (all_live b)
all_ascend b k low =
    let size = length-range_with_len 0 b in
    let one = get_or-range_with_len 0 b k 0 (omega (arith, low, size)) in
    let next = get_or-range_with_len 0 b (k + 1) 0 (omega (arith, low, size)) in
    omega (arith, one, next)

all_within : (b : ℕ) → All (λ s. s < b) (all_live b)
all_within b k d low =
    let size = length-range_with_len 0 b in
    let one = get_or-range_with_len 0 b k d (omega (arith, low, size)) in
    omega (arith, low, size, one)

pub fits_all : (table : Table) → IsTable table → FitsReduced table (all_in_use table.shape)
fits_all table is = record {
  most = is.shape.most_boundaries;
  live = record { ascend = all_ascend table.shape.b; within = all_within table.shape.b };
  number = length-range_with_len 0 table.shape.b;
  marks = length-replicate table.shape.n false;
  unsited = λ b marked. absurd (false≢true (sym (none_marked table.shape.n b) ∙ marked));
}
