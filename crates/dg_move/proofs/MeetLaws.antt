-- A placement that is met, and what its block does without then.
use Rattle.std.proofs.Common.{◌≡◌, ◌≢◌, ◌<◌, ◌≤◌, ◌==◌, ◌&&◌, ℕ, zero, suc, Bool, true, false, not, List, [], ◌∷◌, ◌++◌, length, get_or, take, drop, inl, inr, refl, sym, ◌∙◌, ap, arith}
use Rattle.std.specs.Prelude.{nat_lt}
use Rattle.std.proofs.lemmas.Bool.{cases_Bool, cases_eq}
use Rattle.std.proofs.lemmas.List.Elements.{Contains-get_or}
use Rattle.dg_model.specs.Moves.{all_done, give_ups, is_missing, off_target, spare}
use Rattle.dg_model.specs.Tables.{IsLowestFree, IsTable, Table, count_on, put_site, sites_in}
use Rattle.dg_model.specs.declared.sites.Site.{Site}
use Rattle.dg_model.proofs.MissingLaws.{not_missing}
use Rattle.dg_model.proofs.SiteLists.{apart_test, count_on-push, one_if, same_test, zero_if}
use Rattle.dg_model.proofs.SpareLaws.{off_head, off_tail}
use Rattle.dg_model.proofs.SpareSteps.{spare_push}
use Rattle.dg_move.specs.Spares.{AreWithin}
use Rattle.dg_move.specs.Turns.{Meets}
use Rattle.dg_move.proofs.ActLaws.{copied_is}
use Rattle.dg_move.proofs.StoreLaws.{put_here, put_other}

-- a block was copied, and gave up what it can do without
pub meets_of : (targets : ℕ → ℕ → Bool) (old mid new : Table) (b t : ℕ) (site : Site) → b < length old.rows → targets b t ≡ true → site.boundary ≡ t → IsLowestFree old t site.slot → site.slot ≤ old.shape.k → mid ≡ put_site old b site
    → new ≡ all_done mid (give_ups b (spare (targets b) (sites_in mid b))) → spare (targets b) (sites_in new b) ≡ []
    → ((c : ℕ) → c ≢ b → sites_in new c ≡ sites_in mid c)
    → ((c s : ℕ) → targets c s ≡ true → count_on s (sites_in new c) ≡ count_on s (sites_in mid c))
    → ((c s : ℕ) → is_missing targets new c s ≡ is_missing targets mid c s)
    → Meets targets old new b t
meets_of targets old mid new b t site within wanted at free slot put acts none others kept same =
    let row : sites_in mid b ≡ sites_in old b ++ site ∷ [] = ap (λ (x : Table). sites_in x b) put ∙ put_here old b site within in
    let wanted' : targets b site.boundary ≡ true = ap (targets b) at ∙ wanted in
    let left : spare (targets b) (sites_in mid b) ≡ off_target (targets b) (sites_in old b) = ap (spare (targets b)) row ∙ spare_push (targets b) (sites_in old b) site wanted' in
    let others_mid : (c : ℕ) → c ≢ b → sites_in mid c ≡ sites_in old c = λ c apart. ap (λ (x : Table). sites_in x c) put ∙ put_other old b c site apart in
    record {
      acts = acts
          ∙ ap (λ (xs : List Site). all_done mid (give_ups b xs)) left
          ∙ ap (λ (x : Table). all_done x (give_ups b (off_target (targets b) (sites_in old b)))) (copied_is old mid b t site at free slot put);
      others = λ c apart. others c apart ∙ others_mid c apart;
      none = none;
      met = not_missing targets new b t
          (omega (
            arith,
            kept b t wanted,
            ap (count_on t) row,
            count_on-push t (sites_in old b) site,
            one_if (site.boundary == t) (same_test site.boundary t at),
          ));
      rest = λ c s apart. same c s ∙ elim (cases_eq c b) [
        | inl here ↦
            let off : s ≢ t = apart here in
            let equal : count_on s (sites_in mid b) ≡ count_on s (sites_in old b) =
            omega (arith, ap (count_on s) row, count_on-push s (sites_in old b) site, zero_if (site.boundary == s) (apart_test site.boundary s (λ e. off (sym e ∙ at)))) in
            ap (λ (k : ℕ). targets c s && not (nat_lt 0 k)) (ap (λ (k : ℕ). count_on s (sites_in mid k)) here ∙ equal ∙ ap (λ (k : ℕ). count_on s (sites_in old k)) (sym here))
        | inr off ↦ ap (λ (xs : List Site). targets c s && not (nat_lt 0 (count_on s xs))) (others_mid c off)
      ];
    }

-- ---- the first of a block's sites that it can do without

pub off_target_at : (want : ℕ → Bool) (sites : List Site) (i : ℕ) (d : Site) → i < length sites → off_target want (take i sites) ≡ [] → want (get_or sites i d).boundary ≡ false → (rest : List Site) × (off_target want sites ≡ get_or sites i d ∷ rest)
off_target_at want [] i d within none miss = absurd (omega arith)
off_target_at want (x ∷ xs) zero d within none miss = (off_target want xs, off_head want x xs miss)
off_target_at want (x ∷ xs) (suc i) d within none miss = elim (cases_Bool (want x.boundary)) [
  | inl hit ↦
      let more = off_target_at want xs i d (omega arith) (sym (off_tail want x (take i xs) hit) ∙ none) miss in
      (more.0, off_tail want x xs hit ∙ more.1)
  | inr off ↦ let e = sym (off_head want x (take i xs) off) ∙ none in absurd (cc)
]

pub off_target_more : (want : ℕ → Bool) (sites : List Site) (site : Site) → off_target want sites ≡ [] → want site.boundary ≡ true → off_target want (sites ++ site ∷ []) ≡ []
off_target_more want [] site none hit = off_tail want site [] hit
off_target_more want (x ∷ xs) site none hit = elim (cases_Bool (want x.boundary)) [
  | inl w ↦ off_tail want x (xs ++ site ∷ []) w ∙ off_target_more want xs site (sym (off_tail want x xs w) ∙ none) hit
  | inr off ↦ let e = sym (off_head want x xs off) ∙ none in absurd (cc)
]

pub second_of : (sites : List Site) (d : Site) → 1 < length sites → (rest : List Site) × (drop 1 sites ≡ get_or sites 1 d ∷ rest)
second_of [] d more = absurd (omega arith)
second_of (x ∷ []) d more = absurd (omega arith)
second_of (x ∷ y ∷ ys) d more = (ys, refl)

pub second_none : (sites : List Site) → length sites ≤ 1 → drop 1 sites ≡ []
second_none [] few = refl
second_none (x ∷ []) few = refl
second_none (x ∷ y ∷ ys) few = absurd (omega arith)

-- the boundaries of a block's sites are below 16
pub within_of : (table : Table) (b : ℕ) → IsTable table → AreWithin (sites_in table b)
within_of table b ok k d below =
    let there = ok.boundaries b _ _ (Contains-get_or (sites_in table b) k d below) in
    let most = ok.shape.most_boundaries in
    omega (arith, there, most)
