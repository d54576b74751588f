-- What a table says once a site joins a block's list, or once a block leaves a boundary.
use Rattle.std.proofs.Common.{◌≡◌, ◌⊎◌, ◌<◌, ◌≤◌, ◌+◌, ◌==◌, ◌≢◌, ℕ, cond, List, [], ◌∷◌, ◌++◌, length, get_or, set, replicate, refl, sym, ◌∙◌, ap, subst, inl, inr, ⊎_elim, arith}
use Rattle.std.specs.List.{Contains}
use Rattle.std.proofs.lemmas.Bool.{cases_eq, cases_lt}
use Rattle.std.proofs.lemmas.List.{get_or-set_same, get_or-replicate, get_or-set_other, get_or_past, length-replicate, length-set, set-get_or, set-set}
use Rattle.std.proofs.lemmas.List.Elements.{Contains-append_left, Contains-push, Contains-push_cases}
use Rattle.std.proofs.lemmas.List.Folds.{sum_by-replicate}
use Rattle.std.proofs.lemmas.List.Sums.{sum_by-set}
use Rattle.dg_model.specs.declared.sites.Site.{Site}
use Rattle.dg_model.specs.declared.shapes.Shape.{Shape}
use Rattle.dg_model.specs.Shapes.{IsShape}
use Rattle.dg_model.specs.Tables.{IsFree, IsTable, StandsIn, Table, count_on, empty_table, put_site, sites_in, used_in, without_site, sites_off}
use Rattle.dg_model.proofs.SiteLists.{apart_test, count_on-push, off_last, one_if, same_test, zero_if}
use Rattle.dg_model.proofs.RowLaws.{count_off_other, count_off_same, off-Contains, Contains-off, Contains-off_apart}

-- the site that a boundary and a slot name
abbrev pub site_at : ℕ → ℕ → Site
site_at s slot = record { boundary = s; slot = slot }

module _ (table : Table) (b : ℕ) (site : Site) (within : b < length table.rows) where
  -- the lists of the blocks once the site is the last of block b's
  pub sites_put_here : sites_in (put_site table b site) b ≡ sites_in table b ++ site ∷ []
  sites_put_here = get_or-set_same table.rows b (sites_in table b ++ site ∷ []) [] within

  pub sites_put_other : (c : ℕ) → c ≢ b → sites_in (put_site table b site) c ≡ sites_in table c
  sites_put_other c ne = get_or-set_other table.rows b c (sites_in table b ++ site ∷ []) [] ne

  pub put_kept : (c s slot : ℕ) → StandsIn table c s slot → StandsIn (put_site table b site) c s slot
  put_kept c s slot h =
      ⊎_elim
      (λ e. subst (λ xs. Contains xs (site_at s slot)) (sym (ap (sites_in (put_site table b site)) e ∙ sites_put_here)) (Contains-append_left (sites_in table b) (site ∷ []) (site_at s slot) (subst (λ d. StandsIn table d s slot) e h)))
      (λ ne. subst (λ xs. Contains xs (site_at s slot)) (sym (sites_put_other c ne)) h)
      (cases_eq c b)

  pub put_here : StandsIn (put_site table b site) b site.boundary site.slot
  put_here = subst (λ xs. Contains xs site) (sym sites_put_here) (Contains-push (sites_in table b) site)

  pub put_cases : (c s slot : ℕ) → StandsIn (put_site table b site) c s slot → StandsIn table c s slot ⊎ ((c ≡ b) × (site ≡ site_at s slot))
  put_cases c s slot h =
      ⊎_elim
      (λ e. ⊎_elim
      (λ old. inl (subst (λ d. StandsIn table d s slot) (sym e) old))
      (λ new. inr (e, new))
      (Contains-push_cases (sites_in table b) site (site_at s slot) (subst (λ xs. Contains xs (site_at s slot)) (ap (sites_in (put_site table b site)) e ∙ sites_put_here) h)))
      (λ ne. inl (subst (λ xs. Contains xs (site_at s slot)) (sites_put_other c ne) h))
      (cases_eq c b)

  pub used_put : (s : ℕ) → used_in (put_site table b site) s ≡ used_in table s + cond (site.boundary == s) 1 0
  used_put s = omega (arith, sum_by-set (count_on s) table.rows b (sites_in table b ++ site ∷ []) [] within, count_on-push s (sites_in table b) site)

  pub IsTable-put : IsTable table → site.boundary < table.shape.b → site.slot ≤ table.shape.k → IsFree table site.boundary site.slot → count_on site.boundary (sites_in table b) ≡ 0 → used_in table site.boundary ≤ table.shape.k → IsTable (put_site table b site)
  IsTable-put ok boundary slot free none left = record {
    shape = ok.shape;
    size = length-set table.rows b (sites_in table b ++ site ∷ []) ∙ ok.size;
    boundaries = λ c s k h. ⊎_elim (λ old. ok.boundaries c s k old) (λ new. subst (λ (x : Site). x.boundary < table.shape.b) new.1 boundary) (put_cases c s k h);
    slots = λ c s k h. ⊎_elim (λ old. ok.slots c s k old) (λ new. subst (λ (x : Site). x.slot ≤ table.shape.k) new.1 slot) (put_cases c s k h);
    one_block = λ a c s k g h.
        ⊎_elim
        (λ old. ⊎_elim (λ older. ok.one_block a c s k old older) (λ new. absurd (taken_twice a s k old new.1)) (put_cases c s k h))
        (λ new. ⊎_elim (λ old. absurd (taken_twice c s k old new.1)) (λ newer. new.0 ∙ sym newer.0) (put_cases c s k h))
        (put_cases a s k g);
    one_site = λ c s.
        ⊎_elim
        (λ e. subst (λ xs. count_on s xs ≤ 1) (sym (ap (sites_in (put_site table b site)) e ∙ sites_put_here)) (one_more s))
        (λ ne. subst (λ xs. count_on s xs ≤ 1) (sym (sites_put_other c ne)) (ok.one_site c s))
        (cases_eq c b);
    used = λ s.
        ⊎_elim
        (λ e. omega (arith, used_put s, one_if (site.boundary == s) (same_test site.boundary s e), subst (λ t. used_in table t ≤ table.shape.k) e left))
        (λ ne. omega (arith, used_put s, zero_if (site.boundary == s) (apart_test site.boundary s ne), ok.used s))
        (cases_eq site.boundary s);
  }
    where
      taken_twice : (c s k : ℕ) → StandsIn table c s k → site ≡ site_at s k → ⊥
      taken_twice c s k old e = free c (subst (λ x. Contains (sites_in table c) x) (sym e) old)

      one_more : (s : ℕ) → count_on s (sites_in table b ++ site ∷ []) ≤ 1
      one_more s =
          ⊎_elim
          (λ e. omega (arith, count_on-push s (sites_in table b) site, one_if (site.boundary == s) (same_test site.boundary s e), ap (λ t. count_on t (sites_in table b)) e))
          (λ ne. omega (arith, count_on-push s (sites_in table b) site, zero_if (site.boundary == s) (apart_test site.boundary s ne), ok.one_site b s))
          (cases_eq site.boundary s)

module _ (table : Table) (b s : ℕ) (within : b < length table.rows) where
  pub sites_without_here : sites_in (without_site table b s) b ≡ sites_off s (sites_in table b)
  sites_without_here = get_or-set_same table.rows b (sites_off s (sites_in table b)) [] within

  pub sites_without_other : (c : ℕ) → c ≢ b → sites_in (without_site table b s) c ≡ sites_in table c
  sites_without_other c ne = get_or-set_other table.rows b c (sites_off s (sites_in table b)) [] ne

  pub without_stood : (c t slot : ℕ) → StandsIn (without_site table b s) c t slot → StandsIn table c t slot
  without_stood c t slot h =
      ⊎_elim
      (λ e. subst (λ d. StandsIn table d t slot) (sym e) (Contains-off s (sites_in table b) (site_at t slot) (subst (λ xs. Contains xs (site_at t slot)) (ap (sites_in (without_site table b s)) e ∙ sites_without_here) h)))
      (λ ne. subst (λ xs. Contains xs (site_at t slot)) (sites_without_other c ne) h)
      (cases_eq c b)

  pub without_apart : (slot : ℕ) → StandsIn (without_site table b s) b s slot → ⊥
  without_apart slot h = Contains-off_apart s (sites_in table b) (site_at s slot) (subst (λ xs. Contains xs (site_at s slot)) sites_without_here h) refl

  pub without_kept : (c t slot : ℕ) → StandsIn table c t slot → (c ≡ b → t ≢ s) → StandsIn (without_site table b s) c t slot
  without_kept c t slot h stays =
      ⊎_elim
      (λ e. subst (λ xs. Contains xs (site_at t slot)) (sym (ap (sites_in (without_site table b s)) e ∙ sites_without_here)) (off-Contains s (sites_in table b) (site_at t slot) (subst (λ d. StandsIn table d t slot) e h) (stays e)))
      (λ ne. subst (λ xs. Contains xs (site_at t slot)) (sym (sites_without_other c ne)) h)
      (cases_eq c b)

  pub used_without_here : used_in (without_site table b s) s + count_on s (sites_in table b) ≡ used_in table s
  used_without_here = omega (arith, sum_by-set (count_on s) table.rows b (sites_off s (sites_in table b)) [] within, count_off_same s (sites_in table b))

  pub used_without_other : (t : ℕ) → s ≢ t → used_in (without_site table b s) t ≡ used_in table t
  used_without_other t ne = omega (arith, sum_by-set (count_on t) table.rows b (sites_off s (sites_in table b)) [] within, count_off_other s t (sites_in table b) ne)

  pub IsTable-without : IsTable table → IsTable (without_site table b s)
  IsTable-without ok = record {
    shape = ok.shape;
    size = length-set table.rows b (sites_off s (sites_in table b)) ∙ ok.size;
    boundaries = λ c t k h. ok.boundaries c t k (without_stood c t k h);
    slots = λ c t k h. ok.slots c t k (without_stood c t k h);
    one_block = λ a c t k g h. ok.one_block a c t k (without_stood a t k g) (without_stood c t k h);
    one_site = λ c t.
        ⊎_elim
        (λ e. subst (λ xs. count_on t xs ≤ 1) (sym (ap (sites_in (without_site table b s)) e ∙ sites_without_here)) (one_less t))
        (λ ne. subst (λ xs. count_on t xs ≤ 1) (sym (sites_without_other c ne)) (ok.one_site c t))
        (cases_eq c b);
    used = λ t.
        ⊎_elim
        (λ e. subst (λ u. used_in (without_site table b s) u ≤ table.shape.k + 1) e (omega (arith, used_without_here, ok.used s)))
        (λ ne. omega (arith, used_without_other t ne, ok.used t))
        (cases_eq s t);
  }
    where
      one_less : (t : ℕ) → count_on t (sites_off s (sites_in table b)) ≤ 1
      one_less t =
          ⊎_elim
          (λ e. omega (arith, subst (λ u. count_on u (sites_off s (sites_in table b)) ≡ 0) e (count_off_same s (sites_in table b))))
          (λ ne. omega (arith, count_off_other s t (sites_in table b) ne, ok.one_site b t))
          (cases_eq s t)

-- the last site of a block, given up and taken again
pub put-without : (table : Table) (b : ℕ) (others : List Site) (site : Site) → IsTable table → b < length table.rows → sites_in table b ≡ others ++ site ∷ [] → put_site (without_site table b site.boundary) b site ≡ table
put-without table b others site ok within last =
    ap (λ rows. record { shape = table.shape; rows = rows })
    (set-set table.rows b (sites_off site.boundary (sites_in table b)) (sites_in (without_site table b site.boundary) b ++ site ∷ [])
    ∙ ap (λ row. set table.rows b row) (ap (λ row. row ++ site ∷ []) others_stay ∙ sym last)
    ∙ set-get_or table.rows b [])
  where
    others_stay : sites_in (without_site table b site.boundary) b ≡ others
    others_stay =
        sites_without_here table b site.boundary within
        ∙ ap (sites_off site.boundary) last
        ∙ off_last others site (subst (λ xs. count_on site.boundary xs ≤ 1) last (ok.one_site b site.boundary))

-- a table that a site joins after its block gave it up is the one before
pub undone : (table new : Table) (b : ℕ) (site : Site) → b < table.shape.n → new ≡ put_site table b site → (before : Table) (others : List Site) → IsTable before → sites_in before b ≡ others ++ site ∷ [] → table ≡ without_site before b site.boundary → new ≡ before
undone table new b site within is before others ok last was =
    let size : table.shape.n ≡ before.shape.n = ap (λ (t : Table). t.shape.n) was in
    is ∙ ap (λ t. put_site t b site) was ∙ put-without before b others site ok (omega (arith, ok.size)) last

-- ---- the table without sites

pub empty_row : (n b : ℕ) → get_or {A = List Site} (replicate n []) b [] ≡ []
empty_row n b =
    ⊎_elim
    (λ lt. get_or-replicate n b [] [] lt)
    (λ past. get_or_past (replicate n []) b [] (omega (arith, length-replicate {A = List Site} n [])))
    (cases_lt b n)

pub none_stands : (shape : Shape) (b s slot : ℕ) → StandsIn (empty_table shape) b s slot → ⊥
none_stands shape b s slot h =
    let there : Contains [] (site_at s slot) = subst (λ xs. Contains xs (site_at s slot)) (empty_row shape.n b) h in
    absurd (omega (arith, there.1))

pub used_empty : (shape : Shape) (s : ℕ) → used_in (empty_table shape) s ≡ 0
used_empty shape s = omega (arith, sum_by-replicate (count_on s) shape.n [])

pub IsTable-empty : (shape : Shape) → IsShape shape → IsTable (empty_table shape)
IsTable-empty shape ok = record {
  shape = ok;
  size = length-replicate shape.n [];
  boundaries = λ b s k h. absurd (none_stands shape b s k h);
  slots = λ b s k h. absurd (none_stands shape b s k h);
  one_block = λ a b s k g h. absurd (none_stands shape a s k g);
  one_site = λ b s. subst (λ xs. count_on s xs ≤ 1) (sym (empty_row shape.n b)) (omega arith);
  used = λ s. omega (arith, used_empty shape s);
}
