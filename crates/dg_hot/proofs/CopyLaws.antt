-- The table while blocks are copied to a boundary, and while they give their copies up.
use Rattle.std.proofs.Common.{◌≡◌, ◌≢◌, ◌<◌, ◌≤◌, ◌+◌, ◌++◌, ℕ, zero, suc, List, [], ◌∷◌, length, get_or, inl, inr, refl, sym, ◌∙◌, ap, subst, arith, get_or-set_other}
use Rattle.std.specs.List.{Contains}
use Rattle.std.proofs.lemmas.List.{length-set, same_lists}
use Rattle.std.proofs.lemmas.List.Sums.{sum_by-set}
use Rattle.dg_model.specs.Moves.{all_done, copy_to, done, give_up}
use Rattle.dg_model.specs.Tables.{IsLowestFree, IsTable, Table, count_on, lowest_free, put_site, sites_in, sites_off, used_in, without_site}
use Rattle.dg_model.specs.declared.sites.Site.{Site}
use Rattle.dg_model.proofs.CopyLaws.{HasCopy, copies_here, copies_other, copies_sized, site_for}
use Rattle.dg_model.proofs.FreeLaws.{lowest_free_found}
use Rattle.dg_model.proofs.NumberLists.{head_in, in_or_out, in_parts, nothing_in, tail_in}
use Rattle.dg_model.proofs.PutLaws.{sites_put_here, sites_without_here}
use Rattle.dg_model.proofs.SiteLists.{count_on-last, off_last}
use Rattle.dg_model.proofs.TableLaws.{IsSized, all_done_sized, sized_both}
use Rattle.dg_hot.specs.Copied.{AreApart, copies_to, give_ups_on}
use Rattle.dg_hot.proofs.ApartLaws.{numbers_apart}

-- ---- one action

without_other : (table : Table) (b c s : ℕ) → c ≢ b → sites_in (without_site table b s) c ≡ sites_in table c
without_other table b c s other = get_or-set_other table.rows b c (sites_off s (sites_in table b)) [] other

-- a block that got the lowest free slot was copied
pub copied_is : (old new : Table) (b s : ℕ) (site : Site) → IsTable new → b < length old.rows → site.boundary ≡ s → IsLowestFree old s site.slot
    → new ≡ put_site old b site → new ≡ done old (copy_to b s)
copied_is old new b s site is row on lowest taken =
    let there : Contains (sites_in new b) (record { boundary = s; slot = site.slot }) =
    subst (λ (t : Table). Contains (sites_in t b) (record { boundary = s; slot = site.slot })) (sym taken)
    (subst (λ (xs : List Site). Contains xs (record { boundary = s; slot = site.slot })) (sym (sites_put_here old b site row))
    (subst (λ (x : Site). Contains (sites_in old b ++ site ∷ []) x) same (last_in (sites_in old b) site)))
    in
    let k : new.shape.k ≡ old.shape.k = ap (λ (t : Table). t.shape.k) taken in
    let low = is.slots b s site.slot there in
    let found : lowest_free old s ≡ site.slot = lowest_free_found old s site.slot (omega (arith, k, low)) lowest in
    taken ∙ ap (put_site old b) (sym (λ i. record { boundary = sym on i; slot = found i }))
  where
    same : site ≡ record { boundary = s; slot = site.slot }
    same i = record { boundary = on i; slot = site.slot }

    last_in : (xs : List Site) (x : Site) → Contains (xs ++ x ∷ []) x
    last_in [] x = (0, omega arith, refl)
    last_in (y ∷ ys) x = let h = last_in ys x in (suc h.0, omega (arith, h.1), h.2)

-- ---- blocks that are copied

module _ (s : ℕ) where
  pub copies_more : (table : Table) (bs : List ℕ) (b : ℕ) → all_done table (copies_to s (bs ++ b ∷ [])) ≡ done (all_done table (copies_to s bs)) (copy_to b s)
  copies_more table [] b = refl
  copies_more table (c ∷ bs) b = copies_more (done table (copy_to c s)) bs b

  -- each takes one slot
  pub copies_used : (table : Table) (bs : List ℕ) → ((b : ℕ) → Contains bs b → b < length table.rows) → used_in (all_done table (copies_to s bs)) s ≡ used_in table s + length bs
  copies_used table [] within = omega arith
  copies_used table (b ∷ bs) within =
      let next = done table (copy_to b s) in
      let rows : length next.rows ≡ length table.rows = length-set table.rows b (sites_in table b ++ site_for table s ∷ []) in
      let low : b < length table.rows = within b (head_in b bs) in
      omega (
        arith,
        copies_used next bs (λ c there. let w = within c (tail_in b bs c there) in omega (arith, rows, w)),
        sum_by-set (count_on s) table.rows b (sites_in table b ++ site_for table s ∷ []) [] low,
        count_on-last (sites_in table b) (site_for table s),
      )

  -- ---- blocks that give their copies up

  pub gives_more : (table : Table) (bs : List ℕ) (b : ℕ) → all_done table (give_ups_on s (bs ++ b ∷ [])) ≡ done (all_done table (give_ups_on s bs)) (give_up b s)
  gives_more table [] b = refl
  gives_more table (c ∷ bs) b = gives_more (done table (give_up c s)) bs b

  pub gives_other : (table : Table) (bs : List ℕ) (c : ℕ) → (Contains bs c → ⊥) → sites_in (all_done table (give_ups_on s bs)) c ≡ sites_in table c
  gives_other table [] c none = refl
  gives_other table (b ∷ bs) c none =
      gives_other (done table (give_up b s)) bs c (λ there. none (tail_in b bs c there))
      ∙ without_other table b c s (λ same. none (subst (λ (d : ℕ). Contains (b ∷ bs) d) (sym same) (head_in b bs)))

  pub gives_here : (table : Table) (bs : List ℕ) (c : ℕ) → AreApart bs → Contains bs c → c < length table.rows
      → sites_in (all_done table (give_ups_on s bs)) c ≡ sites_off s (sites_in table c)
  gives_here table [] c apart there row = absurd (nothing_in c there)
  gives_here table (b ∷ bs) c apart there row = elim (in_parts b bs c there) [
    | inl same ↦
        gives_other (done table (give_up b s)) bs c (λ more. apart.0 (subst (λ (d : ℕ). Contains bs d) (sym same) more))
        ∙ subst (λ (d : ℕ). sites_in (without_site table b s) d ≡ sites_off s (sites_in table d)) same
        (sites_without_here table b s (subst (λ (d : ℕ). d < length table.rows) (sym same) row))
    | inr more ↦
        let rows : length (done table (give_up b s)).rows ≡ length table.rows = length-set table.rows b (sites_off s (sites_in table b)) in
        gives_here (done table (give_up b s)) bs c apart.1 more (omega (arith, row, rows))
        ∙ ap (sites_off s) (without_other table b c s (λ same. apart.0 (subst (λ (d : ℕ). Contains bs d) same more)))
  ]

  -- a block that has no site on the boundary, and one more there: without it, it has what it had
  off_copy : (old new : List Site) → count_on s old ≡ 0 → HasCopy s old new → sites_off s new ≡ old
  off_copy old new none copy =
      let site : Site = record { boundary = s; slot = copy.slot } in
      let one : count_on s (old ++ site ∷ []) ≤ 1 = omega (arith, count_on-last old site, none) in
      ap (sites_off s) copy.is ∙ off_last old site one

  same_table : (old new : Table) → IsSized old new → ((b : ℕ) → b < length old.rows → sites_in new b ≡ sites_in old b) → new ≡ old
  same_table old new sized rows =
      let size : length new.rows ≡ length old.rows = sized.rows in
      let lists : new.rows ≡ old.rows = same_lists new.rows old.rows size (λ b d low.
      let within : b < length old.rows = omega (arith, low, size) in
      default new.rows b d [] low ∙ rows b within ∙ default old.rows b [] d within) in
      λ i. record { shape = sized.shape i; rows = lists i }
    where
      default : (xs : List (List Site)) (b : ℕ) (d e : List Site) → b < length xs → get_or xs b d ≡ get_or xs b e
      default [] b d e low = absurd (omega (arith, low))
      default (x ∷ xs) zero d e low = refl
      default (x ∷ xs) (suc b) d e low = default xs b d e (omega (arith, low))

  -- what was copied and then given up leaves the table as it was
  pub given_back : (table : Table) (bs : List ℕ) → AreApart bs → ((b : ℕ) → Contains bs b → count_on s (sites_in table b) ≡ 0)
      → all_done (all_done table (copies_to s bs)) (give_ups_on s bs) ≡ table
  given_back table bs apart none =
      let mid = all_done table (copies_to s bs) in
      let first = copies_sized s table bs in
      same_table table (all_done mid (give_ups_on s bs)) (sized_both table mid (all_done mid (give_ups_on s bs)) first (all_done_sized (give_ups_on s bs) mid))
      (λ b low. elim (in_or_out bs b) [
        | inl there ↦
            let size = first.rows in
            gives_here mid bs b apart there (omega (arith, low, size))
            ∙ off_copy (sites_in table b) (sites_in mid b) (none b there) (copies_here s table bs b (numbers_apart bs apart) there low)
        | inr out ↦ gives_other mid bs b out ∙ copies_other s table bs b out
      ])

  -- ---- how many sites they have then

  pub length_copy : (old new : List Site) → HasCopy s old new → length new ≡ length old + 1
  length_copy old new copy = ap (λ (xs : List Site). length xs) copy.is ∙ more old
    where
      more : (xs : List Site) → length (xs ++ record { boundary = s; slot = copy.slot } ∷ []) ≡ length xs + 1
      more [] = refl
      more (x ∷ xs) = let h = more xs in omega (arith, h)
