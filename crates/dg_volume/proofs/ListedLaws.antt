-- The written ones of the blocks that the inference lists for a file are the file's blocks by the wants.
use Rattle.std.proofs.Common.{◌≡◌, ◌<◌, ◌∙◌, ℕ, true, List, length, inl, inr, refl, sym, ap, subst}
use Rattle.std.specs.Global.{Vec}
use Rattle.std.specs.Prelude.{◌↔◌, None, Option, Some, filter, is_some, map}
use Rattle.std.specs.List.{Contains, range_with_len}
use Rattle.std.specs.List.Sorted.{IsStrictlyIncreasing}
use Rattle.std.proofs.lemmas.Bool.{cases_lt, eq-eqb, false≢true}
use Rattle.std.proofs.lemmas.List.{get_or_past}
use Rattle.std.proofs.lemmas.List.Kept.{IsStrictlyIncreasing-filter}
use Rattle.dg_hot.specs.Spreads.{AreListed, lists_in, to_copy}
use Rattle.dg_infer.specs.Meanings.{KeptInference}
use Rattle.dg_infer.specs.Wants.{IsWantBy}
use Rattle.dg_model.specs.Placed.{IsPlaced}
use Rattle.dg_model.specs.Plans.{blocks_of, is_file}
use Rattle.dg_model.specs.Sites.{has_site}
use Rattle.dg_model.specs.Tables.{Table, sites_in}
use Rattle.dg_model.specs.Wants.{FitWants, want_of}
use Rattle.dg_model.specs.declared.homes.Home.{Home}
use Rattle.dg_model.specs.declared.wants.Want.{Want}
use Rattle.dg_model.specs.declared.wants.Want.TheVariants.{File}
use Rattle.dg_model.proofs.ClaimSearch.{in_range}
use Rattle.dg_volume.proofs.CopySteps.{file_want}
use Rattle.dg_volume.proofs.OrderLaws.{filter_in, in_filter, range_ascends, same_numbers}
use Rattle.dg_volume.proofs.WantedLaws.{one_want, placed_anew}
use Rattle.dg_volume.specs.Planned.{AreWanted}

no_want : (want : Want) → ◌≡◌ {A = Option Want} None (Some want) → ⊥
no_want want e = cc e

module _ (table : Table) (kept : KeptInference) (wants : List (Option Want)) (wanted : AreWanted table kept wants) (i : ℕ) where
  -- what is written, and of the file, is so by the wants
  file_at : (b : ℕ) (found : Option Want) → want_of wants b ≡ found → is_some found ≡ true → IsWantBy kept b (File i) → want_of wants b ≡ Some (File i)
  file_at b None e some is = absurd (false≢true some)
  file_at b (Some want) e some is = e ∙ ap Some (one_want kept b want (File i) (wanted.by b want e) is)

  within : (b : ℕ) (want : Want) → want_of wants b ≡ Some want → b < length wants
  within b want e = elim (cases_lt b (length wants)) [
    | inl low ↦ low
    | inr past ↦ absurd (no_want want (sym (get_or_past wants b None past) ∙ e))
  ]

  module _ (blocks : List ℕ) (up : IsStrictlyIncreasing blocks) (are : (b : ℕ) → Contains blocks b ↔ IsWantBy kept b (File i)) where
    there : (b : ℕ) → Contains (filter (λ c. has_site (sites_in table c)) blocks) b → Contains (blocks_of wants i) b
    there b listed =
        let h = in_filter (λ c. has_site (sites_in table c)) blocks b listed in
        let of = are b in
        let at = file_at b (want_of wants b) refl (wanted.fit.written b ∙ h.1) (of.0 h.0) in
        filter_in (λ c. is_file i (want_of wants c)) (range_with_len 0 (length wants)) b (in_range (length wants) b (within b (File i) at)) (ap (is_file i) at ∙ eq-eqb i i refl)

    back : (b : ℕ) → Contains (blocks_of wants i) b → Contains (filter (λ c. has_site (sites_in table c)) blocks) b
    back b listed =
        let h = in_filter (λ c. is_file i (want_of wants c)) (range_with_len 0 (length wants)) b listed in
        let at = file_want i (want_of wants b) h.1 in
        let of = are b in
        filter_in (λ c. has_site (sites_in table c)) blocks b (of.1 (wanted.by b (File i) at)) (sym (wanted.fit.written b) ∙ ap is_some at)

    pub listed_is : filter (λ b. has_site (sites_in table b)) blocks ≡ blocks_of wants i
    listed_is =
        same_numbers _ _ (IsStrictlyIncreasing-filter (λ b. has_site (sites_in table b)) blocks up)
        (IsStrictlyIncreasing-filter (λ b. is_file i (want_of wants b)) (range_with_len 0 (length wants)) (range_ascends (length wants)))
        there back

-- lists that were made of a table are those of an equal one
pub listed_on : (table next : Table) (kept : KeptInference) (wants : List (Option Want)) (homes copies : List Home) (files : List ℕ) (lists : List (Vec ℕ))
    → next ≡ table → AreWanted table kept wants → IsPlaced wants table homes copies → lists_in lists ≡ map (to_copy wants homes copies) files
    → AreListed wants next homes copies files lists
listed_on table next kept wants homes copies files lists same wanted placed listed = record {
  fit = subst (λ (t : Table). FitWants t wants) (sym same) wanted.fit;
  placed = subst (λ (t : Table). IsPlaced wants t homes copies) (sym same) placed;
  listed = listed;
}

-- what is so by some wants is so by any, since they are the same
pub placed_by_any : (table : Table) (kept : KeptInference) (homes copies : List Home) → (one : List (Option Want)) × AreWanted table kept one × IsPlaced one table homes copies
    → (wants : List (Option Want)) → AreWanted table kept wants → IsPlaced wants table homes copies
placed_by_any table kept homes copies (one, by, placed) wants wanted = placed_anew table kept one wants by wanted homes copies placed
