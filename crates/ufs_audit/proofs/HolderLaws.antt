-- Marks of numbers one after another, and the claims on a fragment one after another.
use Rattle.std.proofs.Common.{◌≡◌, ◌∙◌, ◌<◌, ◌≤◌, ◌+◌, ◌*◌, ◌⊎◌, inl, inr, ℕ, zero, suc, Bool, true, false, List, [], ◌∷◌, ◌++◌, length, take, drop, Contains, Option, None, Some, Result, Ok, Err, refl, sym, ap, subst, length-append, arith}
use Rattle.std.specs.Prelude.{◌==◌, ◌&&◌, MatchOption, if◌then◌else◌, is_err, is_ok, slice_get}
use Rattle.std.specs.Bool.{Decides, then_some}
use Rattle.std.specs.Option.{option_map}
use Rattle.std.proofs.lemmas.Bool.{and_parts, cases_lt, cases_order, false≢true, true≢false}
use Rattle.std.proofs.lemmas.Bool.Decides.{nat_tests}
use Rattle.std.proofs.lemmas.List.{get_or_append_left, get_or_push}
use Rattle.std.proofs.lemmas.Option.{get_or_from_slice_get, slice_get_read, slice_get_within}
use Rattle.dg_claims.specs.Tables.{ClaimTable, TableClaims, claim_at, with_level}
use Rattle.dg_model.specs.Marks.{is_marked}
use Rattle.ufs_audit.specs.Holders.{AreMarks, HasMarkedHolder, leads_by}
use Rattle.ufs_audit.specs.Structures.{IsDirectoryOf, is_directory_in, is_directory_kind}
use Rattle.ufs_model.specs.Blocks.{Volume, Reading, area_of, bind, block_at, consult}
use Rattle.ufs_audit.specs.Losses.{IsIndirect}
use Rattle.ufs_model.specs.Claims.{AreClaimsOn, IsClaimedAt, level_of}
use Rattle.ufs_model.specs.Inodes.{inode_block, inode_byte, inode_in, inode_of, is_inode_number, kind_of}
use Rattle.ufs_model.specs.Malformations.{inode_at}
use Rattle.ufs_model.specs.Readings.{ReadsAs}
use Rattle.ufs_model.specs.declared.claims.ClaimSource.{ClaimSource}
use Rattle.ufs_model.specs.declared.geometries.Geometry.{Geometry}
use Rattle.ufs_model.specs.declared.inodes.Inode.{Inode}
use Rattle.ufs_model.specs.declared.inodes.Kind.{Kind}
use Rattle.ufs_model.specs.declared.inodes.Kind.TheVariants.{Block, Character, Directory, Link, Pipe, Regular, Socket, Unknown}

-- ---- marks

pub no_marks : (holds : ℕ → Type 0) (marks : List Bool) → marks ≡ [] → AreMarks holds 0 marks
no_marks holds [] none = record { number = refl; each = λ n low. absurd (omega (arith, low)) }
no_marks holds (x ∷ xs) none = let no : x ∷ xs ≡ [] = none in cc

ok_of : {A E : Type 0} (r : Result A E) → is_err r ≡ false → is_ok r ≡ true
ok_of (Ok a) e = refl
ok_of (Err x) e = absurd (true≢false e)

pushed : {A E : Type 0} (r : Result A E) (marks new : List Bool) (mark : Bool) → is_err r ≡ false → new ≡ (if is_ok r then marks ++ mark ∷ [] else marks) → new ≡ marks ++ mark ∷ []
pushed r marks new mark e is = is ∙ ap (λ (b : Bool). if b then marks ++ mark ∷ [] else marks) (ok_of r e)

next_mark : (holds : ℕ → Type 0) (n : ℕ) (marks : List Bool) (mark : Bool) → AreMarks holds n marks → Decides mark (holds n) → AreMarks holds (n + 1) (marks ++ mark ∷ [])
next_mark holds n marks mark are next = record {
  number = omega (arith, are.number, length-append marks (mark ∷ []));
  each = λ m low. elim (cases_lt m n) [
    | inl before ↦
        subst (λ (b : Bool). Decides b (holds m)) (sym (get_or_append_left marks (mark ∷ []) false m (let e = are.number in omega (arith, e, before)))) (are.each m before)
    | inr past ↦
        let at : m ≡ n = omega (arith, low, past) in
        let here : is_marked (marks ++ mark ∷ []) m ≡ mark = get_or_push marks mark false m (let e = are.number in omega (arith, e, at)) in
        subst (λ (b : Bool). Decides b (holds m)) (sym here) (subst (λ (k : ℕ). Decides mark (holds k)) (sym at) next)
  ];
}

-- with the mark of the next number
pub marks_more : {A E : Type 0} (holds : ℕ → Type 0) (n : ℕ) (marks new : List Bool) (mark : Bool) (r : Result A E) → is_err r ≡ false → new ≡ (if is_ok r then marks ++ mark ∷ [] else marks)
    → AreMarks holds n marks → Decides mark (holds n) → AreMarks holds (n + 1) new
marks_more holds n marks new mark r e is are next = subst (AreMarks holds (n + 1)) (sym (pushed r marks new mark e is)) (next_mark holds n marks mark are next)

-- ---- inodes

is_kind : (kind : Kind) → Decides (is_directory_kind kind) (kind ≡ Directory)
is_kind Directory = (λ e. refl, λ e. refl)
is_kind Pipe = (λ e. absurd (false≢true e), λ e. absurd (cc e))
is_kind Character = (λ e. absurd (false≢true e), λ e. absurd (cc e))
is_kind Block = (λ e. absurd (false≢true e), λ e. absurd (cc e))
is_kind Regular = (λ e. absurd (false≢true e), λ e. absurd (cc e))
is_kind Link = (λ e. absurd (false≢true e), λ e. absurd (cc e))
is_kind Socket = (λ e. absurd (false≢true e), λ e. absurd (cc e))
is_kind Unknown = (λ e. absurd (false≢true e), λ e. absurd (cc e))

is_directory : (inode : Option Inode) → Decides (is_directory_in inode) (MatchOption inode ⊥ (λ found. (kind_of found.mode ≡ Directory) × Unit {0}))
is_directory None = (λ e. absurd (false≢true e), λ h. absurd h)
is_directory (Some inode) = let decides = is_kind (kind_of inode.mode) in (λ e. (decides.0 e, tt), λ h. decides.1 (h.0))

-- whether the inode that is read is a directory's
pub directory_decides : (g : Geometry) (v : Volume) (i : ℕ) (inode : Option Inode) (mark : Bool) → inode ≡ inode_at g v i → mark ≡ is_directory_in inode → Decides mark (IsDirectoryOf g v i)
directory_decides g v i inode mark is same =
    subst (λ (b : Bool). Decides b (IsDirectoryOf g v i)) (sym same)
    (subst (λ (o : Option Inode). Decides (is_directory_in inode) (MatchOption o ⊥ (λ found. (kind_of found.mode ≡ Directory) × Unit {0}))) is (is_directory inode))

pub inode_there : (g : Geometry) (v : Volume) (i start : ℕ) (block : List ℕ) → 2 ≤ i → i < g.ncg * g.ipg → start ≡ inode_byte g i
    → block ≡ block_at g.fsize v (inode_block g i) → inode_at g v i ≡ inode_in g.endian (take 128 (drop start block))
unfolding inode_of bind
inode_there g v i start block low high at is =
    let within : is_inode_number g i ≡ true = grind (arith, nat_tests) in rw (within, at, is) refl

pub one_block : (l a : ℕ) → area_of l a 1 ≡ consult l a
unfolding area_of bind
one_block l a = let e : a + 0 ≡ a = omega arith in rw e refl

-- what a reading that could be done gives
pub read_value : {A : Type 0} {stands : Volume → Type 0} {before after : ℕ → Bool} {tells : Type 0} {d : Reading A} (could : Bool) (answer : A)
    → ReadsAs stands before tells after d (then_some could answer) → could ≡ true → tells → (v : Volume) → stands v → answer ≡ (d v).value
read_value true answer read could is v holds = (read.rule is v holds).answer
read_value false answer read could is v holds = let no : false ≡ true = could in cc

-- ---- claims

module _ (table : ClaimTable) (inodes above : List Bool) (level f : ℕ) where
  -- claim number j on the fragment is at another level, or leads to no marked inode
  pub IsNoHolder : ℕ → Type 0
  IsNoHolder j = (sources : List ClaimSource) → AreClaimsOn (TableClaims table) f sources → (source : ClaimSource) → slice_get sources j ≡ Some source
      → level_of source ≡ level → leads_by inodes above source ≡ true → ⊥

  -- a claim by its number
  pub claim_of : (sources : List ClaimSource) (j : ℕ) (height : ℕ) (source found : ClaimSource) → Some (height, source) ≡ claim_at sources j → slice_get sources j ≡ Some found
      → (height ≡ level_of found) × (source ≡ found)
  claim_of sources j height source found is here =
      let both : Some (height, source) ≡ Some (with_level found) = is ∙ ap (option_map with_level) here in
      let pair : (height, source) ≡ with_level found = cc in
      (ap (λ (p : ℕ × ClaimSource). p.0) pair, ap (λ (p : ℕ × ClaimSource). p.1) pair)

  -- an answer of `claim` below the number of claims
  pub no_claim : (sources : List ClaimSource) (j : ℕ) → j < length sources → claim_at sources j ≡ None → ⊥
  no_claim (source ∷ sources) zero low is = let no : Some (with_level source) ≡ None = is in cc
  no_claim (source ∷ sources) (suc j) low is = no_claim sources j (omega (arith, low)) is
  no_claim [] j low is = omega (arith, low)

  -- the source by its number
  source_at : (sources : List ClaimSource) (j height : ℕ) (source : ClaimSource) → Some (height, source) ≡ claim_at sources j → (slice_get sources j ≡ Some source) × (height ≡ level_of source)
  source_at [] j height source is = let no : ◌≡◌ {A = Option (ℕ × ClaimSource)} (Some (height, source)) None = is in cc
  source_at (found ∷ sources) zero height source is =
      let pair : (height, source) ≡ with_level found = cc in
      let same : source ≡ found = ap (λ (p : ℕ × ClaimSource). p.1) pair in
      (ap Some (sym same), ap (λ (p : ℕ × ClaimSource). p.0) pair ∙ ap level_of (sym same))
  source_at (found ∷ sources) (suc j) height source is = source_at sources j height source is

  got_contains : (sources : List ClaimSource) (j : ℕ) (source : ClaimSource) → slice_get sources j ≡ Some source → Contains sources source
  got_contains sources j source here = (j, slice_get_within sources j source here, get_or_from_slice_get sources j source source here)

  -- a claim at the level that leads to a marked inode is a holder
  pub is_holder : (sources : List ClaimSource) (j height : ℕ) (source : ClaimSource) → AreClaimsOn (TableClaims table) f sources → Some (height, source) ≡ claim_at sources j
      → height ≡ level → leads_by inodes above source ≡ true → HasMarkedHolder table inodes above level f
  is_holder sources j height source are is at leads =
      let found = source_at sources j height source is in
      record { source = source; claim = (are.each source).0 (got_contains sources j source (found.0)); is = sym (found.1) ∙ at; leads = leads }

  -- and one that isn't at the level, or leads to none, isn't
  pub is_none : (j height : ℕ) (source : ClaimSource) → ((sources : List ClaimSource) → AreClaimsOn (TableClaims table) f sources → Some (height, source) ≡ claim_at sources j)
      → (height ≡ level → leads_by inodes above source ≡ true → ⊥) → IsNoHolder j
  unfolding IsNoHolder
  is_none j height source all none sources are found here at leads =
      let same = claim_of sources j height source found (all sources are) here in
      none (same.0 ∙ at) (ap (leads_by inodes above) (same.1) ∙ leads)

  both_hold : (height : ℕ) (source : ClaimSource) → ((height == level) && leads_by inodes above source) ≡ true → (height ≡ level) × (leads_by inodes above source ≡ true)
  both_hold height source is = (grind (arith, nat_tests), (and_parts (height == level) (leads_by inodes above source) is).1)

  pub held_here : (sources : List ClaimSource) (j height : ℕ) (source : ClaimSource) → AreClaimsOn (TableClaims table) f sources → Some (height, source) ≡ claim_at sources j
      → ((height == level) && leads_by inodes above source) ≡ true → HasMarkedHolder table inodes above level f
  held_here sources j height source are is holds = let both = both_hold height source holds in is_holder sources j height source are is (both.0) (both.1)

  pub none_here : (j height : ℕ) (source : ClaimSource) → ((sources : List ClaimSource) → AreClaimsOn (TableClaims table) f sources → Some (height, source) ≡ claim_at sources j)
      → ((height == level) && leads_by inodes above source) ≡ false → IsNoHolder j
  none_here j height source all none = is_none j height source all (λ at leads. let no : ((height == level) && leads_by inodes above source) ≡ true = grind (arith, nat_tests) in false≢true (sym none ∙ no))

  pub none_next : (i : ℕ) → ((j : ℕ) → j < i → IsNoHolder j) → IsNoHolder i → (j : ℕ) → j < i + 1 → IsNoHolder j
  none_next i before here j low = elim (cases_lt j i) [
    | inl less ↦ before j less
    | inr past ↦ let at : i ≡ j = omega (arith, low, past) in subst IsNoHolder at here
  ]

  pub none_held : (sources : List ClaimSource) → AreClaimsOn (TableClaims table) f sources → ((j : ℕ) → j < length sources → IsNoHolder j) → HasMarkedHolder table inodes above level f → ⊥
  unfolding IsNoHolder
  none_held sources are none holder =
      let has = (are.each holder.source).1 holder.claim in
      let here : slice_get sources (has.0) ≡ Some holder.source = slice_get_read sources (length sources) (has.0) holder.source refl (has.1) (sym (has.2)) in
      none (has.0) (has.1) sources are holder.source here holder.is holder.leads

-- ---- levels

-- a fragment of an indirect block has a claim at level 1, 2 or 3
pub indirect_decides : (table : ClaimTable) (f : ℕ) (one two three : Bool) → ((h : ℕ) (source : ClaimSource) → TableClaims table h source → level_of source ≤ 3)
    → Decides one (IsClaimedAt (TableClaims table) 1 f) → Decides two (IsClaimedAt (TableClaims table) 2 f) → Decides three (IsClaimedAt (TableClaims table) 3 f)
    → one ≡ false → two ≡ false → Decides three (IsIndirect table f)
indirect_decides table f one two three most first second third no_first no_second = (
  λ is. let at = third.0 is in record { source = at.source; claim = at.claim; above = omega (arith, at.is) },
  λ indirect. at_level indirect (level_of indirect.source) refl (cases_order (level_of indirect.source) 2),
)
  where
    at_level : (indirect : IsIndirect table f) (level : ℕ) → level_of indirect.source ≡ level → (level ≡ 2) ⊎ ((level < 2) ⊎ (2 < level)) → three ≡ true
    at_level indirect level is (inl same) =
        absurd (false≢true (sym no_second ∙ second.1 (record { source = indirect.source; claim = indirect.claim; is = is ∙ same })))
    at_level indirect level is (inr (inl less)) =
        let some = indirect.above in
        let one_is : level_of indirect.source ≡ 1 = omega (arith, is, less, some) in
        absurd (false≢true (sym no_first ∙ first.1 (record { source = indirect.source; claim = indirect.claim; is = one_is })))
    at_level indirect level is (inr (inr more)) =
        let high = most f indirect.source indirect.claim in
        let three_is : level_of indirect.source ≡ 3 = omega (arith, is, more, high) in
        third.1 (record { source = indirect.source; claim = indirect.claim; is = three_is })
