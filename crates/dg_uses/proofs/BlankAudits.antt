-- An audit of an array whose blocks are all zero: they hold no volume.
use Rattle.std.proofs.Common.{◌≡◌, ◌∙◌, ◌++◌, ◌&&◌, ◌∷◌, [], ℕ, zero, suc, false, true, List, Contains, ap, arith, map, refl, replicate, subst, sym}
use Rattle.std.specs.Prelude.{Result, Err}
use Rattle.std.proofs.lemmas.Bool.{false≢true}
use Rattle.ufs_model.specs.Audits.{AreAll, AreMalformations, IsNoted, IsNotedBy, IsUnclaimed, IsUnnamed}
use Rattle.ufs_model.specs.Blocks.{Volume, area_of, area_within, bind}
use Rattle.ufs_model.specs.Malformations.{IsBadBy, IsMalformed}
use Rattle.ufs_model.specs.Numbers.{number_at}
use Rattle.ufs_model.specs.Superblocks.{endian_of, fields, geometry_by, geometry_in, geometry_of, superblock_of}
use Rattle.ufs_model.specs.declared.geometries.BadSuper.{BadSuper}
use Rattle.ufs_model.specs.declared.geometries.BadSuper.TheVariants.{Magic}
use Rattle.ufs_model.specs.declared.geometries.Geometry.{Geometry}
use Rattle.ufs_model.specs.declared.malformations.BadKind.{BadKind}
use Rattle.ufs_model.specs.declared.malformations.BadKind.TheVariants.{Super}
use Rattle.dg_model.specs.Blocks.{zeros}
use Rattle.dg_model.specs.Findings.{TellsFindings, bad_line}
use Rattle.dg_model.specs.Sites.{all_lost, has_site, is_gone}
use Rattle.dg_model.specs.States.{Counts, IsBlank, State}
use Rattle.dg_model.specs.Steps.{Step}
use Rattle.dg_model.specs.Tables.{Table, empty_table, sites_in}
use Rattle.dg_model.specs.declared.events.Event.TheVariants.{Audit}
use Rattle.dg_model.specs.declared.findings.Finding.{Finding}
use Rattle.dg_model.specs.declared.findings.Finding.TheVariants.{Bad, Unclaimed, Unnamed}
use Rattle.dg_model.specs.declared.members.MemberState.{MemberState}
use Rattle.dg_model.specs.declared.replies.Reply.{Reply}
use Rattle.dg_model.specs.declared.replies.Reply.TheVariants.{Audited, Unavailable}
use Rattle.dg_model.specs.declared.shapes.Shape.{Shape}
use Rattle.dg_model.specs.declared.sites.Site.{Site}
use Rattle.dg_model.proofs.FirstSites.{empty_rows}
use Rattle.dg_promise.specs.Promises.{AreTold}
use Rattle.dg_uses.proofs.OneAudit.{malformations_one}

-- ---- a volume whose superblock is refused

one_pair : (x y : BadKind × ℕ) → Contains (x ∷ []) y → x ≡ y
one_pair x y (zero, low, is) = is
one_pair x y (suc k, low, is) = absurd (omega arith)

none_of : (numbers : List ℕ) → AreAll (λ n. ⊥) numbers → numbers ≡ []
none_of [] are = refl
none_of (n ∷ numbers) are = absurd ((are.each n).0 (0, omega arith, refl))

pair_is : (kind : BadKind) (m : ℕ) (bad : BadSuper) → kind ≡ Super bad → m ≡ 0 → ◌≡◌ {A = BadKind × ℕ} (Super bad, 0) (kind, m)
pair_is kind m bad one other =
    subst (λ k. ◌≡◌ {A = BadKind × ℕ} (Super bad, 0) (k, m)) (sym one) (subst (λ m. ◌≡◌ {A = BadKind × ℕ} (Super bad, 0) (Super bad, m)) (sym other) refl)

module _ (l n : ℕ) (v : Volume) (bad : BadSuper) (is : (geometry_of l n v).value ≡ Err bad) where
  malformed_is : (kind : BadKind) (m : ℕ) → IsMalformed l n v kind m → ◌≡◌ {A = BadKind × ℕ} (Super bad, 0) (kind, m)
  unfolding IsMalformed
  malformed_is kind m h = let parts = subst (λ (r : Result Geometry BadSuper). IsBadBy v r kind m) is h in pair_is kind m bad parts.0 parts.1

  is_there : IsMalformed l n v (Super bad) 0
  unfolding IsMalformed
  is_there = subst (λ (r : Result Geometry BadSuper). IsBadBy v r (Super bad) 0) (sym is) (refl, refl)

  list_is : (list : List (BadKind × ℕ)) → AreMalformations l n v list → list ≡ (Super bad, 0) ∷ []
  list_is list are = malformations_one l n v list ((Super bad, 0) ∷ []) are (record {
    each = λ kind m. (
      (λ has. subst (λ (x : BadKind × ℕ). IsMalformed l n v x.0 x.1) (one_pair (Super bad, 0) (kind, m) has) is_there),
      λ h. (0, omega arith, malformed_is kind m h),
    );
    ordered = λ i j d before low. absurd (omega arith);
  })

  none_noted : (note : Geometry → Volume → ℕ → Type 0) (numbers : List ℕ) → AreAll (IsNoted note l n v) numbers → numbers ≡ []
  none_noted note numbers are = none_of numbers (subst (λ (r : Result Geometry BadSuper). AreAll (IsNotedBy note v r) numbers) is are)

  -- the refusal is all that is told
  lines_are : (lines : List Finding) → TellsFindings l n v lines → lines ≡ Bad (Super bad) 0 ∷ []
  lines_are lines h =
      h.is
      ∙ ap (λ (z : List (BadKind × ℕ)). map bad_line z ++ map Unnamed h.unnamed ++ map Unclaimed h.unclaimed) (list_is h.bad h.are.malformations)
      ∙ ap (λ (z : List ℕ). Bad (Super bad) 0 ∷ (map Unnamed z ++ map Unclaimed h.unclaimed)) (none_noted IsUnnamed h.unnamed h.are.unnamed)
      ∙ ap (λ (z : List ℕ). Bad (Super bad) 0 ∷ map Unclaimed z) (none_noted IsUnclaimed h.unclaimed h.are.unclaimed)

-- ---- an array of 64 blocks of 1024 bytes

pub no_volume : (geometry_of 1024 64 (replicate 64 (zeros 1024))).value ≡ Err Magic
unfolding geometry_of superblock_of area_within area_of bind geometry_in geometry_by endian_of fields number_at
no_volume = refl

gone_by : (sites : List Site) (members : ℕ → MemberState) → sites ≡ [] → has_site sites && all_lost members sites ≡ false
gone_by [] members is = refl
gone_by (site ∷ sites) members is = let no : site ∷ sites ≡ [] = is in cc

-- no block of a blank array is gone
none_gone : (shape : Shape) (members : ℕ → MemberState) (b : ℕ) → is_gone (empty_table shape) members b ≡ false
none_gone shape members b = gone_by (sites_in (empty_table shape) b) members (empty_rows shape.n b)

pub blank_reply : (shape : Shape) (before : Counts) (blank x : State) (reply : Reply) → shape.l ≡ 1024 → shape.n ≡ 64 → IsBlank shape before blank → Step AreTold blank Audit reply x
    → reply ≡ Audited (Bad (Super Magic) 0 ∷ [])
blank_reply shape before blank x (Audited lines) size count is h =
    let told = subst (λ (s : State). TellsFindings s.table.shape.l s.table.shape.n s.blocks lines) is.is (h.0.findings tt) in
    let here = subst (λ (l : ℕ). TellsFindings l shape.n (replicate shape.n (zeros l)) lines) size told in
    ap Audited (lines_are 1024 64 (replicate 64 (zeros 1024)) Magic no_volume lines (subst (λ (n : ℕ). TellsFindings 1024 n (replicate n (zeros 1024)) lines) count here))
blank_reply shape before blank x Unavailable size count is h =
    let table : x.table ≡ empty_table shape = ap (λ (s : State). s.table) h.1.rest ∙ ap (λ (s : State). s.table) is.is in
    let gone = h.0.cause in
    absurd (false≢true (sym (none_gone shape x.members gone.0) ∙ subst (λ (t : Table). is_gone t x.members gone.0 ≡ true) table gone.1))
blank_reply shape before blank x reply size count is h = absurd h
