-- What the tests of a superblock say of its geometry.
use Rattle.std.proofs.Common.{◌≡◌, ℕ, zero, suc, ◌+◌, ◌-◌, ◌*◌, ◌/◌, ◌%◌, ◌^◌, ◌<◌, ◌≤◌, inl, inr, Bool, true, false, ◌&&◌, not, List, [], ◌∷◌, arith, refl, sym, subst, ap, ◌∙◌}
use Rattle.std.specs.Prelude.{Option, Some, None, Ok, find, cond, ◌==◌, nat_le}
use Rattle.std.specs.Int.{div_ceil}
use Rattle.std.specs.List.{list_all}
use Rattle.std.proofs.lemmas.Bool.{cases_lt, and_from, and_parts}
use Rattle.std.proofs.lemmas.Bool.Decides.{nat_tests}
use Rattle.ufs_model.specs.Numbers.{all_below}
use Rattle.ufs_model.specs.Geometries.{IsGeometry, IsGeometryOn, cgstart, end_of, is_block_size, is_fragment_count}
use Rattle.ufs_model.specs.Superblocks.{IsSuperblock, magic_of, inodefmt_of, endian_of, fields, geometry_by, geometry_in, unless_bad, super_tests, passes, format_holds, frag_holds, groups_hold, inodes_hold, group_fits, layout_holds, summary_holds}
use Rattle.ufs_model.specs.declared.numbers.Endian.{Endian}
use Rattle.ufs_model.specs.declared.geometries.Geometry.{Geometry}
use Rattle.ufs_model.specs.declared.geometries.BadSuper.{BadSuper}
use Rattle.ufs_model.specs.declared.geometries.BadSuper.TheVariants.{Magic, Format, Bsize, Fsize, Frag, Nindir, Inopb, Size, Groups, Inodes, Layout, Summary}

-- ---- each test, as a fact

format_fact : (inodefmt : ℕ) (g : Geometry) → format_holds inodefmt g ≡ true → (inodefmt ≡ 2) × (1 ≤ g.maxsymlinklen) × (g.maxsymlinklen ≤ 60)
unfolding format_holds
format_fact inodefmt g h = grind (arith, nat_tests)

block_size_fact : (n : ℕ) → is_block_size n ≡ true → (4096 ≤ n) × (n ≤ 65536)
unfolding is_block_size
block_size_fact n h = grind (arith, nat_tests)

fragment_fact : (n : ℕ) → is_fragment_count n ≡ true → (1 ≤ n) × (n ≤ 8)
unfolding is_fragment_count
fragment_fact n h = grind (arith, nat_tests)

frag_fact : (g : Geometry) → frag_holds g ≡ true → (is_fragment_count g.frag ≡ true) × (g.bsize ≡ g.frag * g.fsize)
unfolding frag_holds
frag_fact g h = grind (arith, nat_tests)

-- a file block of 4096 bytes or more has at most eight fragments
fragment_bytes : (frag fsize bsize : ℕ) → is_fragment_count frag ≡ true → 4096 ≤ bsize → bsize ≤ 65536 → bsize ≡ frag * fsize
    → (512 ≤ fsize) × (fsize ≤ 65536)
unfolding is_fragment_count
fragment_bytes frag fsize bsize h low high product = grind (arith, nat_tests)

size_fact : (size n : ℕ) → (nat_le 1 size && nat_le size n) ≡ true → (1 ≤ size) × (size ≤ n)
size_fact size n h = grind (arith, nat_tests)

groups_fact : (g : Geometry) → groups_hold g ≡ true → (1 ≤ g.ncg) × (1 ≤ g.fpg) × ((g.ncg - 1) * g.fpg < g.size) × (g.size ≤ g.ncg * g.fpg)
unfolding groups_hold
groups_fact g h = grind (arith, nat_tests)

inodes_fact : (g : Geometry) → inodes_hold g ≡ true → (1 ≤ g.ipg) × (g.ipg % g.inopb ≡ 0) × (g.ncg * g.ipg < 2 ^ 32)
unfolding inodes_hold
inodes_fact g h = grind (arith, nat_tests)

all_below_at : (test : ℕ → Bool) (n : ℕ) → all_below test n ≡ true → (i : ℕ) → i < n → test i ≡ true
all_below_at test zero all i low = absurd (omega arith)
all_below_at test (suc n) all i low =
    let parts = and_parts (all_below test n) (test n) all in
    elim (cases_lt i n) [
      | inl lt ↦ all_below_at test n (parts.0) i lt
      | inr ge ↦ let e : n ≡ i = omega arith in subst (λ (k : ℕ). test k ≡ true) e (parts.1)
    ]

all_below_from : (test : ℕ → Bool) (n : ℕ) → ((i : ℕ) → i < n → test i ≡ true) → all_below test n ≡ true
all_below_from test zero each = refl
all_below_from test (suc n) each =
    and_from (all_below test n) (test n) (all_below_from test n (λ i low. each i (omega arith))) (each n (omega arith))

fits_fact : (g : Geometry) (c : ℕ) → group_fits g c ≡ true → cgstart g c + g.dblkno ≤ end_of g c
unfolding group_fits
fits_fact g c h = grind (arith, nat_tests)

layout_fact : (l : ℕ) (g : Geometry) → layout_holds l g ≡ true
    → (100 ≤ g.cgsize) × (g.cgsize ≤ g.bsize) × (9568 ≤ g.sblkno * l) × (g.sblkno + div_ceil 1376 l ≤ g.cblkno)
    × (g.cblkno + div_ceil g.cgsize l ≤ g.iblkno) × (g.iblkno + g.ipg / g.inopb * g.frag ≤ g.dblkno) × (all_below (group_fits g) g.ncg ≡ true)
unfolding layout_holds
layout_fact l g h = grind (arith, nat_tests)

summary_fact : (l : ℕ) (g : Geometry) → summary_holds l g ≡ true → g.csaddr + div_ceil g.cssize l ≤ g.size
unfolding summary_holds
summary_fact l g h = grind (arith, nat_tests)

equal_fact : (a b : ℕ) → (a == b) ≡ true → a ≡ b
equal_fact a b h = grind (arith, nat_tests)

-- ---- all tests together

tests_make : (endian : Endian) (bytes : List ℕ) (l n : ℕ) (g : Geometry)
    → ((kind : BadSuper) → passes endian bytes l n g kind ≡ true) → IsGeometryOn l n g
tests_make endian bytes l n g pass =
    let same = equal_fact g.fsize l (pass Fsize) in
    let format = format_fact (inodefmt_of endian bytes) g (pass Format) in
    let block = block_size_fact g.bsize (pass Bsize) in
    let frag = frag_fact g (pass Frag) in
    let count = fragment_fact g.frag (frag.0) in
    let size = size_fact g.size n (pass Size) in
    let layout = layout_fact g.fsize g (subst (λ (k : ℕ). layout_holds k g ≡ true) (sym same) (pass Layout)) in
    record {
      tests = record {
        format = (format.1, format.2);
        bsize = (pass Bsize, block.0, block.1);
        frag = (frag.0, count.0, count.1, frag.1);
        fsize = fragment_bytes g.frag g.fsize g.bsize (frag.0) (block.0) (block.1) (frag.1);
        nindir = equal_fact g.nindir (g.bsize / 4) (pass Nindir);
        inopb = equal_fact g.inopb (g.bsize / 128) (pass Inopb);
        size = size.0;
        groups = groups_fact g (pass Groups);
        inodes = inodes_fact g (pass Inodes);
        cgsize = (layout.0, layout.1);
        sblkno = layout.2;
        cblkno = layout.3;
        iblkno = layout.4;
        dblkno = layout.5;
        ends = λ c low. fits_fact g c (all_below_at (group_fits g) g.ncg (layout.6) c low);
        summary = summary_fact g.fsize g (subst (λ (k : ℕ). summary_holds k g ≡ true) (sym same) (pass Summary));
      };
      fsize = same;
      size = size.1;
    }

layout_passes : (g : Geometry) → IsGeometry g → layout_holds g.fsize g ≡ true
unfolding layout_holds group_fits
layout_passes g is =
    let all = all_below_from (group_fits g) g.ncg (λ c low. let h = is.ends c low in grind (arith, nat_tests)) in
    let h = is.cgsize in let h1 = is.sblkno in let h2 = is.cblkno in let h3 = is.iblkno in let h4 = is.dblkno in
    grind (arith, nat_tests)

summary_passes : (g : Geometry) → IsGeometry g → summary_holds g.fsize g ≡ true
unfolding summary_holds
summary_passes g is = let h = is.summary in grind (arith, nat_tests)

tests_pass : (endian : Endian) (bytes : List ℕ) (l n : ℕ) (g : Geometry)
    → magic_of endian bytes ≡ 0x00011954 → inodefmt_of endian bytes ≡ 2 → IsGeometryOn l n g → (kind : BadSuper) → passes endian bytes l n g kind ≡ true
unfolding format_holds frag_holds groups_hold inodes_hold
tests_pass endian bytes l n g magic inodefmt is Magic = grind (arith, nat_tests)
tests_pass endian bytes l n g magic inodefmt is Format = let h = is.tests.format in grind (arith, nat_tests)
tests_pass endian bytes l n g magic inodefmt is Bsize = is.tests.bsize.0
tests_pass endian bytes l n g magic inodefmt is Fsize = let h = is.fsize in grind (arith, nat_tests)
tests_pass endian bytes l n g magic inodefmt is Frag = let h = is.tests.frag in grind (arith, nat_tests)
tests_pass endian bytes l n g magic inodefmt is Nindir = let h = is.tests.nindir in grind (arith, nat_tests)
tests_pass endian bytes l n g magic inodefmt is Inopb = let h = is.tests.inopb in grind (arith, nat_tests)
tests_pass endian bytes l n g magic inodefmt is Size = let h = is.tests.size in let high = is.size in grind (arith, nat_tests)
tests_pass endian bytes l n g magic inodefmt is Groups = let h = is.tests.groups in grind (arith, nat_tests)
tests_pass endian bytes l n g magic inodefmt is Inodes = let h = is.tests.inodes in grind (arith, nat_tests)
tests_pass endian bytes l n g magic inodefmt is Layout = subst (λ (k : ℕ). layout_holds k g ≡ true) is.fsize (layout_passes g is.tests)
tests_pass endian bytes l n g magic inodefmt is Summary = subst (λ (k : ℕ). summary_holds k g ≡ true) is.fsize (summary_passes g is.tests)

-- ---- the first that fails

-- where none of the kinds fails, all of them hold
all_hold : (test : BadSuper → Bool) (kinds : List BadSuper) → find (λ kind. not (test kind)) kinds ≡ None → list_all test kinds ≡ true
all_hold test [] none = refl
all_hold test (kind ∷ kinds) none =
    let parts = not_first (test kind) kind (find (λ other. not (test other)) kinds) none in
    and_from (test kind) (list_all test kinds) (parts.0) (all_hold test kinds (parts.1))
  where
    not_first : (b : Bool) (first : BadSuper) (further : Option BadSuper) → cond (not b) (Some first) further ≡ None → (b ≡ true) × (further ≡ None)
    not_first true first further e = (refl, e)
    not_first false first further e = grind (arith, e)

none_fails : (test : BadSuper → Bool) → find (λ kind. not (test kind)) super_tests ≡ None → (kind : BadSuper) → test kind ≡ true
none_fails test none Magic = let all = all_hold test super_tests none in grind (arith, nat_tests)
none_fails test none Format = let all = all_hold test super_tests none in grind (arith, nat_tests)
none_fails test none Bsize = let all = all_hold test super_tests none in grind (arith, nat_tests)
none_fails test none Fsize = let all = all_hold test super_tests none in grind (arith, nat_tests)
none_fails test none Frag = let all = all_hold test super_tests none in grind (arith, nat_tests)
none_fails test none Nindir = let all = all_hold test super_tests none in grind (arith, nat_tests)
none_fails test none Inopb = let all = all_hold test super_tests none in grind (arith, nat_tests)
none_fails test none Size = let all = all_hold test super_tests none in grind (arith, nat_tests)
none_fails test none Groups = let all = all_hold test super_tests none in grind (arith, nat_tests)
none_fails test none Inodes = let all = all_hold test super_tests none in grind (arith, nat_tests)
none_fails test none Layout = let all = all_hold test super_tests none in grind (arith, nat_tests)
none_fails test none Summary = let all = all_hold test super_tests none in grind (arith, nat_tests)

-- where each holds, none fails
none_found : (test : BadSuper → Bool) → ((kind : BadSuper) → test kind ≡ true) → find (λ kind. not (test kind)) super_tests ≡ None
none_found test each = simp (each Magic, each Format, each Bsize, each Fsize, each Frag, each Nindir, each Inopb, each Size, each Groups, each Inodes, each Layout, each Summary) refl

unless_bad_ok : (o : Option BadSuper) (a g : Geometry) → unless_bad o a ≡ Ok g → (o ≡ None) × (a ≡ g)
unless_bad_ok None a g e = (refl, grind (arith, e))
unless_bad_ok (Some bad) a g e = grind (arith, e)

fields_order : (endian : Endian) (bytes : List ℕ) → (fields endian bytes).endian ≡ endian
unfolding fields
fields_order endian bytes = refl

pub accepted_is : (bytes : List ℕ) (l n : ℕ) (g : Geometry) → geometry_in bytes l n ≡ Ok g → IsSuperblock bytes l n g
unfolding geometry_in geometry_by
accepted_is bytes l n g accepted =
    let endian : Endian = endian_of bytes in
    let parts = unless_bad_ok (find (λ kind. not (passes endian bytes l n (fields endian bytes) kind)) super_tests) (fields endian bytes) g accepted in
    let pass = none_fails (passes endian bytes l n (fields endian bytes)) (parts.0) in
    let order : endian ≡ g.endian = sym (fields_order endian bytes) ∙ ap (λ (h : Geometry). h.endian) (parts.1) in
    record {
      order = order;
      magic = subst (λ (e : Endian). magic_of e bytes ≡ 0x00011954) order (equal_fact (magic_of endian bytes) 0x00011954 (pass Magic));
      inodefmt = subst (λ (e : Endian). inodefmt_of e bytes ≡ 2) order (format_fact (inodefmt_of endian bytes) (fields endian bytes) (pass Format)).0;
      stands = subst (λ (e : Endian). fields e bytes ≡ g) order (parts.1);
      geometry = subst (λ (h : Geometry). IsGeometryOn l n h) (parts.1) (tests_make endian bytes l n (fields endian bytes) pass);
    }

accepted_by : (endian : Endian) (bytes : List ℕ) (l n : ℕ) (g : Geometry) → magic_of endian bytes ≡ 0x00011954 → inodefmt_of endian bytes ≡ 2
    → fields endian bytes ≡ g → IsGeometryOn l n g → geometry_by endian bytes l n ≡ Ok g
unfolding geometry_by
accepted_by endian bytes l n g magic inodefmt stands geometry =
    let tests = subst (λ (h : Geometry). IsGeometryOn l n h) (sym stands) geometry in
    let none = none_found (passes endian bytes l n (fields endian bytes)) (tests_pass endian bytes l n (fields endian bytes) magic inodefmt tests) in
    rw (none, stands) refl

pub is_accepted : (bytes : List ℕ) (l n : ℕ) (g : Geometry) → IsSuperblock bytes l n g → geometry_in bytes l n ≡ Ok g
unfolding geometry_in
is_accepted bytes l n g is =
    subst (λ (e : Endian). geometry_by e bytes l n ≡ Ok g) (sym is.order) (accepted_by g.endian bytes l n g is.magic is.inodefmt is.stands is.geometry)
