-- Blocks that stand on just the targets of a plan are in their places.
use Rattle.std.proofs.Common.{◌≡◌, ◌≢◌, ◌<◌, ◌≤◌, ◌*◌, ◌^◌, ℕ, suc, Bool, true, false, cond, List, [], ◌∷◌, length, inl, inr, refl, sym, ◌∙◌, ap, subst, arith}
use Rattle.std.specs.Prelude.{◌==◌, ◌++◌, ◌-◌, Option, Some, None, nat_lt, option_to_list}
use Rattle.std.specs.List.{Contains, list_any}
use Rattle.std.proofs.lemmas.Bool.{cases_lt}
use Rattle.std.proofs.lemmas.List.{get_or_past}
use Rattle.dg_model.proofs.SiteLists.{apart_test, count_on-cons, zero_if}
use Rattle.dg_model.proofs.SumLaws.{sum_le_most}
use Rattle.dg_model.specs.Homes.{Ascend}
use Rattle.dg_model.specs.Moves.{IsAtTargets, count_upto, is_missing, missing_in}
use Rattle.dg_model.specs.Placed.{IsPlaced}
use Rattle.dg_model.specs.Plans.{places_of}
use Rattle.dg_model.specs.Shapes.{IsShape}
use Rattle.dg_model.specs.Tables.{IsTable, Table, count_on, is_on, sites_in}
use Rattle.dg_model.specs.Wants.{want_of}
use Rattle.dg_model.specs.declared.shapes.Shape.{Shape}
use Rattle.dg_model.specs.declared.sites.Site.{Site}
use Rattle.dg_model.specs.declared.wants.Want.{Want}
use Rattle.dg_model.specs.declared.wants.Want.TheVariants.{File, Kept}
use Rattle.dg_plan.specs.Planned.{KeepsRules}
use Rattle.dg_plan.specs.Targets.{homes_of, wants_of}
use Rattle.dg_plan.specs.declared.target_lists.Targets.{Targets}
use Rattle.dg_volume.proofs.VolumeSteps.{false_of}

-- ---- sites

-- none of the sites is on boundary s
none_on : (s : ℕ) (sites : List Site) → ((site : Site) → Contains sites site → site.boundary ≢ s) → count_on s sites ≡ 0
none_on s [] none = refl
none_on s (x ∷ xs) none =
    omega (
      arith,
      count_on-cons s x xs,
      zero_if (x.boundary == s) (apart_test x.boundary s (none x (0, omega arith, refl))),
      none_on s xs (λ site here. none site (suc here.0, let low = here.1 in omega (arith, low), here.2)),
    )

-- no block is on a boundary that the array doesn't have
pub off_table : (table : Table) (b s : ℕ) → IsTable table → table.shape.b ≤ s → is_on table b s ≡ false
off_table table b s is past =
    ap (nat_lt 0) (none_on s (sites_in table b) (λ site here on.
    let low = is.boundaries b site.boundary site.slot here in
    absurd (omega (arith, low, past, on))))

-- ---- numbers of placements

one_each : (b : Bool) → cond {A = ℕ} b 1 0 ≤ 1
one_each true = omega arith
one_each false = omega arith

-- an array misses fewer placements than a limit that is none
pub few_missing : (targets : ℕ → ℕ → Bool) (table : Table) → IsShape table.shape → missing_in targets table ≤ 2 ^ 32 - 1
few_missing targets table shape =
    let row : (b : ℕ) → count_upto table.shape.b (is_missing targets table b) ≤ table.shape.b * 1 =
    λ b. sum_le_most (λ s. cond (is_missing targets table b s) 1 0) table.shape.b 1 (λ s low. one_each (is_missing targets table b s)) in
    let all : missing_in targets table ≤ table.shape.n * 16 =
    sum_le_most (λ b. count_upto table.shape.b (is_missing targets table b)) table.shape.n 16
    (λ b low. let most = shape.most_boundaries in omega (arith, row b, most)) in
    let blocks = shape.most_blocks in
    omega (arith, all, blocks)

-- ---- places

module _ (shape : Shape) (wants : List (Option Want)) (targets : Targets) (rules : KeepsRules shape wants targets) where
  module _ (table : Table) (is : IsTable table) (same : table.shape ≡ shape) (size : length wants ≡ shape.n) (at : IsAtTargets (wants_of targets) table) where
    -- also on boundaries that the array doesn't have
    on_all : (b s : ℕ) → b < table.shape.n → is_on table b s ≡ wants_of targets b s
    on_all b s low = elim (cases_lt s table.shape.b) [
      | inl within ↦ at b s low within
      | inr past ↦
          let beyond : shape.b ≤ s = subst (λ (x : Shape). x.b ≤ s) same past in
          off_table table b s is past
          ∙ sym (false_of (wants_of targets b s) (λ on. let within = rules.within b s on in absurd (omega (arith, within, beyond))))
    ]

    not_some : (want : Want) → ◌≡◌ {A = Option Want} None (Some want) → ⊥
    not_some want e = absurd (cc e)

    below : (b : ℕ) (want : Want) → want_of wants b ≡ Some want → b < table.shape.n
    below b want found = elim (cases_lt b (length wants)) [
      | inl low ↦ let n = ap (λ (x : Shape). x.n) same in omega (arith, low, size, n)
      | inr past ↦ absurd (not_some want (sym (get_or_past wants b None past) ∙ found))
    ]

    none_home : (i t : ℕ) → ◌≡◌ {A = Option ℕ} None (Some t) → ⊥
    none_home i t e = absurd (cc e)

    no_homes : Ascend []
    no_homes k within = absurd (omega (arith, within))

    pub are_placed : IsPlaced wants table (homes_of targets) []
    are_placed = record {
      kept = λ b found s. on_all b s (below b Kept found) ∙ rules.kept b found s ∙ ap (λ (x : Shape). list_any (λ t. t == s) (places_of x b)) (sym same);
      file = λ b i found s.
          let home = rules.file b i found in
          on_all b s (below b (File i) found) ∙ home.2 s
          ∙ ap (λ (h : Option ℕ). list_any (λ t. t == s) (option_to_list h ++ [])) (sym home.1);
      homes_are = rules.homes_are;
      copies_are = λ i t copied. absurd (none_home i t copied);
      homes_ascend = rules.ascend;
      copies_ascend = no_homes;
    }
