-- How a block gives up one spare site after another. What it is to give up is what the definition lists: each that it gave up left the rest.
use Rattle.std.proofs.Common.{◌≡◌, ◌≢◌, ◌<◌, ◌≤◌, ◌+◌, ◌||◌, ℕ, Bool, true, false, cond, not, List, [], ◌∷◌, ◌++◌, length, drop, inl, inr, refl, sym, ◌∙◌, ap, subst, arith}
use Rattle.std.proofs.lemmas.Bool.{both_ways, cases_Bool, cases_eq, false≢true}
use Rattle.dg_model.specs.Moves.{has_met, off_target, spare}
use Rattle.dg_model.specs.Sites.{has_site}
use Rattle.dg_model.specs.Tables.{count_on, sites_off}
use Rattle.dg_model.proofs.SiteLists.{apart_test, count_on-cons, none_off, same_test}
use Rattle.dg_model.proofs.SpareLaws.{met_head, met_tail, off_head, off_tail, on_here, on_there, spare_met, spare_unmet, unmet_none}
use Rattle.dg_model.specs.declared.sites.Site.{Site}

-- ---- one site more

off_here : (s : ℕ) (x : Site) (xs : List Site) → x.boundary ≡ s → sites_off s (x ∷ xs) ≡ sites_off s xs
off_here s x xs e = ap (λ (b : Bool). cond (not b) (x ∷ sites_off s xs) (sites_off s xs)) (same_test x.boundary s e)

off_there : (s : ℕ) (x : Site) (xs : List Site) → x.boundary ≢ s → sites_off s (x ∷ xs) ≡ x ∷ sites_off s xs
off_there s x xs ne = ap (λ (b : Bool). cond (not b) (x ∷ sites_off s xs) (sites_off s xs)) (apart_test x.boundary s ne)

-- at most one site is on each boundary
abbrev pub AreSingle : List Site → Type 0
AreSingle sites = (s : ℕ) → count_on s sites ≤ 1

single_tail : (x : Site) (xs : List Site) → AreSingle (x ∷ xs) → AreSingle xs
single_tail x xs single s = omega (arith, single s, count_on-cons s x xs)

single_head : (x : Site) (xs : List Site) → AreSingle (x ∷ xs) → count_on x.boundary xs ≡ 0
single_head x xs single = omega (arith, single x.boundary, on_here x.boundary x xs refl)

pub off_length : (s : ℕ) (sites : List Site) → length (sites_off s sites) + count_on s sites ≡ length sites
off_length s [] = refl
off_length s (x ∷ xs) = elim (cases_eq x.boundary s) [
  | inl at ↦ omega (arith, ap length (off_here s x xs at), on_here s x xs at, off_length s xs)
  | inr off ↦ omega (arith, ap length (off_there s x xs off), on_there s x xs off, off_length s xs)
]

-- ---- sites on no target

module _ (targets : ℕ → Bool) where
  few_off : (sites : List Site) → length (off_target targets sites) ≤ length sites
  few_off [] = omega arith
  few_off (x ∷ xs) = elim (cases_Bool (targets x.boundary)) [
    | inl hit ↦ omega (arith, ap length (off_tail targets x xs hit), few_off xs)
    | inr miss ↦ omega (arith, ap length (off_head targets x xs miss), few_off xs)
  ]

  met_more : (sites : List Site) → has_met targets sites ≡ true → length (off_target targets sites) < length sites
  met_more [] met = absurd (false≢true met)
  met_more (x ∷ xs) met = elim (cases_Bool (targets x.boundary)) [
    | inl hit ↦ omega (arith, ap length (off_tail targets x xs hit), few_off xs)
    | inr miss ↦ omega (arith, ap length (off_head targets x xs miss), met_more xs (sym (met_tail targets x xs miss) ∙ met))
  ]

  -- a site on no target is given up
  met_off : (s : ℕ) (sites : List Site) → targets s ≡ false → has_met targets (sites_off s sites) ≡ has_met targets sites
  met_off s [] unwanted = refl
  met_off s (x ∷ xs) unwanted = elim (cases_eq x.boundary s) [
    | inl at ↦ ap (has_met targets) (off_here s x xs at) ∙ met_off s xs unwanted ∙ sym (met_tail targets x xs (ap targets at ∙ unwanted))
    | inr off ↦ ap (has_met targets) (off_there s x xs off) ∙ ap (λ (b : Bool). targets x.boundary || b) (met_off s xs unwanted)
  ]

  -- the first of the sites on no target is given up
  pub record DropsStray (sites : List Site) (site : Site) (rest : List Site) : Type 0 where
    pub left : off_target targets (sites_off site.boundary sites) ≡ rest
    pub unwanted : targets site.boundary ≡ false
    pub one : 0 < count_on site.boundary sites

  drops_stray : (sites : List Site) (site : Site) (rest : List Site) → AreSingle sites → off_target targets sites ≡ site ∷ rest → DropsStray sites site rest
  drops_stray [] site rest single first = absurd (cc)
  drops_stray (x ∷ xs) site rest single first = elim (cases_Bool (targets x.boundary)) [
    | inl hit ↦
        let later = drops_stray xs site rest (single_tail x xs single) (sym (off_tail targets x xs hit) ∙ first) in
        let apart : x.boundary ≢ site.boundary = λ e. both_ways (targets x.boundary) (ap targets e ∙ later.unwanted) hit in
        record {
          left = ap (off_target targets) (off_there site.boundary x xs apart) ∙ off_tail targets x (sites_off site.boundary xs) hit ∙ later.left;
          unwanted = later.unwanted;
          one = omega (arith, on_there site.boundary x xs apart, later.one);
        }
    | inr miss ↦
        let e : x ∷ off_target targets xs ≡ site ∷ rest = sym (off_head targets x xs miss) ∙ first in
        let same : x ≡ site = cc in
        let others : off_target targets xs ≡ rest = cc in
        let at : x.boundary ≡ site.boundary = ap (λ (y : Site). y.boundary) same in
        let none : count_on site.boundary xs ≡ 0 = ap (λ (s : ℕ). count_on s xs) (sym at) ∙ single_head x xs single in
        record {
          left = ap (off_target targets) (off_here site.boundary x xs at ∙ none_off site.boundary xs none) ∙ others;
          unwanted = ap targets (sym at) ∙ miss;
          one = omega (arith, on_here site.boundary x xs at);
        }
  ]

  -- the first of the sites that a block can do without is given up
  pub record DropsSpare (sites : List Site) (site : Site) (rest : List Site) : Type 0 where
    pub left : spare targets (sites_off site.boundary sites) ≡ rest
    pub kept : (t : ℕ) → targets t ≡ true → count_on t (sites_off site.boundary sites) ≡ count_on t sites
    pub one : 0 < count_on site.boundary sites
    pub more : 1 < length sites

  off_other : (s t : ℕ) (sites : List Site) → t ≢ s → count_on t (sites_off s sites) ≡ count_on t sites
  off_other s t [] ne = refl
  off_other s t (x ∷ xs) ne = elim (cases_eq x.boundary s) [
    | inl at ↦ ap (count_on t) (off_here s x xs at) ∙ off_other s t xs ne ∙ sym (on_there t x xs (λ e. ne (sym e ∙ at)))
    | inr off ↦
        omega (arith, ap (count_on t) (off_there s x xs off), count_on-cons t x (sites_off s xs), count_on-cons t x xs, off_other s t xs ne)
  ]

  off_none : (s t : ℕ) (sites : List Site) → count_on t sites ≡ 0 → count_on t (sites_off s sites) ≡ 0
  off_none s t [] none = refl
  off_none s t (x ∷ xs) none = elim (cases_eq x.boundary s) [
    | inl at ↦ ap (count_on t) (off_here s x xs at) ∙ off_none s t xs (omega (arith, none, count_on-cons t x xs))
    | inr off ↦
        omega (arith, ap (count_on t) (off_there s x xs off), count_on-cons t x (sites_off s xs), count_on-cons t x xs, off_none s t xs (omega (arith, none, count_on-cons t x xs)))
  ]

  drops_met : (sites : List Site) (site : Site) (rest : List Site) → AreSingle sites → has_met targets sites ≡ true → off_target targets sites ≡ site ∷ rest → DropsSpare sites site rest
  drops_met sites site rest single met first =
      let f = drops_stray sites site rest single first in
      record {
        left = spare_met targets (sites_off site.boundary sites) (met_off site.boundary sites f.unwanted ∙ met) ∙ f.left;
        kept = λ t wanted. off_other site.boundary t sites (λ e. both_ways (targets t) (ap targets e ∙ f.unwanted) wanted);
        one = f.one;
        more = omega (arith, met_more sites met, ap length first);
      }

  second_off : (x site : Site) (rest : List Site) → AreSingle (x ∷ site ∷ rest) → sites_off site.boundary (x ∷ site ∷ rest) ≡ x ∷ rest
  second_off x site rest single =
      let tail = single_tail x (site ∷ rest) single in
      let apart : x.boundary ≢ site.boundary = λ e. absurd (omega (arith, single site.boundary, on_here site.boundary x (site ∷ rest) e, on_here site.boundary site rest refl)) in
      off_there site.boundary x (site ∷ rest) apart
      ∙ ap (λ (xs : List Site). x ∷ xs) (off_here site.boundary site rest refl ∙ none_off site.boundary rest (single_head site rest tail))

  unmet_front : (x site : Site) (rest : List Site) → has_met targets (x ∷ site ∷ rest) ≡ false → has_met targets (x ∷ rest) ≡ false
  unmet_front x site rest unmet = elim (cases_Bool (targets x.boundary)) [
    | inl hit ↦ absurd (both_ways (has_met targets (x ∷ site ∷ rest)) unmet (met_head targets x (site ∷ rest) hit))
    | inr miss ↦ elim (cases_Bool (targets site.boundary)) [
      | inl hit ↦ absurd (both_ways (has_met targets (x ∷ site ∷ rest)) unmet (met_tail targets x (site ∷ rest) miss ∙ met_head targets site rest hit))
      | inr none ↦ met_tail targets x rest miss ∙ sym (met_tail targets site rest none) ∙ sym (met_tail targets x (site ∷ rest) miss) ∙ unmet
    ]
  ]

  drops_unmet : (sites : List Site) (site : Site) (rest : List Site) → AreSingle sites → has_met targets sites ≡ false → drop 1 sites ≡ site ∷ rest → DropsSpare sites site rest
  drops_unmet [] site rest single unmet first = absurd (cc)
  drops_unmet (x ∷ []) site rest single unmet first = absurd (cc)
  drops_unmet (x ∷ y ∷ ys) site rest single unmet first =
      let same : y ≡ site = cc in
      let others : ys ≡ rest = cc in
      let list : x ∷ y ∷ ys ≡ x ∷ site ∷ rest = cc in
      let single' : AreSingle (x ∷ site ∷ rest) = subst AreSingle list single in
      let off : sites_off site.boundary (x ∷ y ∷ ys) ≡ x ∷ rest = ap (sites_off site.boundary) list ∙ second_off x site rest single' in
      let unmet' : has_met targets (x ∷ site ∷ rest) ≡ false = sym (ap (has_met targets) list) ∙ unmet in
      record {
        left = ap (spare targets) off ∙ spare_unmet targets (x ∷ rest) (unmet_front x site rest unmet');
        kept = λ t wanted.
            off_none site.boundary t (x ∷ y ∷ ys) (unmet_none targets (x ∷ y ∷ ys) t unmet wanted) ∙ sym (unmet_none targets (x ∷ y ∷ ys) t unmet wanted);
        one = omega (arith, ap (count_on site.boundary) list, count_on-cons site.boundary x (site ∷ rest), on_here site.boundary site rest refl);
        more = omega arith;
      }

  pub drops : (sites : List Site) (site : Site) (rest : List Site) → AreSingle sites → spare targets sites ≡ site ∷ rest → DropsSpare sites site rest
  drops sites site rest single first = elim (cases_Bool (has_met targets sites)) [
    | inl met ↦ drops_met sites site rest single met (sym (spare_met targets sites met) ∙ first)
    | inr unmet ↦ drops_unmet sites site rest single unmet (sym (spare_unmet targets sites unmet) ∙ first)
  ]

  -- a target joins a block's sites: it can do without just those on no target
  off_push : (sites : List Site) (site : Site) → targets site.boundary ≡ true → off_target targets (sites ++ site ∷ []) ≡ off_target targets sites
  off_push [] site hit = off_tail targets site [] hit
  off_push (x ∷ xs) site hit = elim (cases_Bool (targets x.boundary)) [
    | inl w ↦ off_tail targets x (xs ++ site ∷ []) w ∙ off_push xs site hit ∙ sym (off_tail targets x xs w)
    | inr miss ↦ off_head targets x (xs ++ site ∷ []) miss ∙ ap (λ (ys : List Site). x ∷ ys) (off_push xs site hit) ∙ sym (off_head targets x xs miss)
  ]

  met_push : (sites : List Site) (site : Site) → targets site.boundary ≡ true → has_met targets (sites ++ site ∷ []) ≡ true
  met_push [] site hit = met_head targets site [] hit
  met_push (x ∷ xs) site hit = elim (cases_Bool (targets x.boundary)) [
    | inl w ↦ met_head targets x (xs ++ site ∷ []) w
    | inr miss ↦ met_tail targets x (xs ++ site ∷ []) miss ∙ met_push xs site hit
  ]

  pub spare_push : (sites : List Site) (site : Site) → targets site.boundary ≡ true → spare targets (sites ++ site ∷ []) ≡ off_target targets sites
  spare_push sites site hit = spare_met targets (sites ++ site ∷ []) (met_push sites site hit) ∙ off_push sites site hit

pub has_some : (sites : List Site) → 0 < length sites → has_site sites ≡ true
has_some [] some = absurd (omega arith)
has_some (x ∷ xs) some = refl

pub has_off : (s : ℕ) (sites : List Site) → 1 < length sites → count_on s sites ≤ 1 → has_site (sites_off s sites) ≡ has_site sites
has_off s sites more one =
    has_some (sites_off s sites) (omega (arith, off_length s sites, more, one)) ∙ sym (has_some sites (omega (arith, more)))
