-- The table once blocks were copied to a boundary.
use Rattle.std.proofs.Common.{◌≡◌, ◌≢◌, ◌<◌, ◌+◌, ◌++◌, ◌==◌, ℕ, true, cond, List, [], ◌∷◌, length, map, inl, inr, refl, sym, ◌∙◌, ap, subst, arith, get_or-set_other}
use Rattle.std.specs.List.{Contains}
use Rattle.std.proofs.lemmas.List.{length-set}
use Rattle.dg_model.specs.Moves.{Action, all_done, copy_to, done}
use Rattle.dg_model.specs.Sites.{has_site}
use Rattle.dg_model.specs.Tables.{Table, count_on, lowest_free, put_site, sites_in}
use Rattle.dg_model.specs.declared.sites.Site.{Site}
use Rattle.dg_model.proofs.PutLaws.{sites_put_here}
use Rattle.dg_model.proofs.SiteLists.{count_on-push}
use Rattle.dg_model.proofs.TableLaws.{IsSized, all_done_sized}
use Rattle.dg_model.proofs.NumberLists.{AreApart, head_in, in_parts, nothing_in, tail_in}

-- each of these blocks is copied to boundary s
abbrev pub copies_to : ℕ → List ℕ → List Action
copies_to s blocks = map (λ b. copy_to b s) blocks

-- ---- one action

put_other : (table : Table) (b c : ℕ) (site : Site) → c ≢ b → sites_in (put_site table b site) c ≡ sites_in table c
put_other table b c site other = get_or-set_other table.rows b c (sites_in table b ++ site ∷ []) [] other

-- the site that a copy gets
abbrev pub site_for : Table → ℕ → Site
site_for table s = record { boundary = s; slot = lowest_free table s }

-- ---- blocks that are copied

module _ (s : ℕ) where
  pub copies_sized : (table : Table) (bs : List ℕ) → IsSized table (all_done table (copies_to s bs))
  copies_sized table bs = all_done_sized (copies_to s bs) table

  pub copies_other : (table : Table) (bs : List ℕ) (c : ℕ) → (Contains bs c → ⊥) → sites_in (all_done table (copies_to s bs)) c ≡ sites_in table c
  copies_other table [] c none = refl
  copies_other table (b ∷ bs) c none =
      copies_other (done table (copy_to b s)) bs c (λ there. none (tail_in b bs c there))
      ∙ put_other table b c (site_for table s) (λ same. none (subst (λ (d : ℕ). Contains (b ∷ bs) d) (sym same) (head_in b bs)))

  -- a block among them has one more site, its last one
  pub record HasCopy (old new : List Site) : Type 0 where
    pub slot : ℕ
    pub is : new ≡ old ++ record { boundary = s; slot = slot } ∷ []

  pub copies_here : (table : Table) (bs : List ℕ) (c : ℕ) → AreApart bs → Contains bs c → c < length table.rows
      → HasCopy (sites_in table c) (sites_in (all_done table (copies_to s bs)) c)
  copies_here table [] c apart there row = absurd (nothing_in c there)
  copies_here table (b ∷ bs) c apart there row = elim (in_parts b bs c there) [
    | inl same ↦ record {
      slot = lowest_free table s;
      is = copies_other (done table (copy_to b s)) bs c (λ more. apart.0 (subst (λ (d : ℕ). Contains bs d) (sym same) more))
          ∙ subst (λ (d : ℕ). sites_in (put_site table b (site_for table s)) d ≡ sites_in table d ++ site_for table s ∷ []) same
          (sites_put_here table b (site_for table s) (subst (λ (d : ℕ). d < length table.rows) (sym same) row));
    }
    | inr more ↦
        let rows : length (done table (copy_to b s)).rows ≡ length table.rows = length-set table.rows b (sites_in table b ++ site_for table s ∷ []) in
        let later = copies_here (done table (copy_to b s)) bs c apart.1 more (omega (arith, row, rows)) in
        let before : sites_in (done table (copy_to b s)) c ≡ sites_in table c =
        put_other table b c (site_for table s) (λ same. apart.0 (subst (λ (d : ℕ). Contains bs d) same more))
        in
        record { slot = later.slot; is = later.is ∙ ap (λ (xs : List Site). xs ++ record { boundary = s; slot = later.slot } ∷ []) before }
  ]

  -- ---- where blocks stand then

  pub on_copy : (old new : List Site) (t : ℕ) → HasCopy old new → count_on t new ≡ count_on t old + cond (s == t) 1 0
  on_copy old new t copy = ap (count_on t) copy.is ∙ count_on-push t old (record { boundary = s; slot = copy.slot })

  pub has_copy : (old new : List Site) → HasCopy old new → has_site new ≡ true
  has_copy old new copy = ap has_site copy.is ∙ some old
    where
      some : (xs : List Site) → has_site (xs ++ record { boundary = s; slot = copy.slot } ∷ []) ≡ true
      some [] = refl
      some (x ∷ xs) = refl
