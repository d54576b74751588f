-- A block is gone exactly where it is written, and each boundary that it stands on is lost.
use Rattle.std.proofs.Common.{◌≡◌, ◌≢◌, ◌∙◌, ℕ, ◌<◌, inl, inr, Bool, true, false, List, [], ◌∷◌, refl, sym, ap, subst, arith}
use Rattle.std.specs.Prelude.{Contains, ◌==◌}
use Rattle.std.specs.List.{list_any}
use Rattle.std.proofs.lemmas.Bool.{and_from, and_parts, cases_Bool, false≢true}
use Rattle.std.proofs.lemmas.Bool.Decides.{nat_tests}
use Rattle.std.proofs.lemmas.List.Elements.{Contains-append_cases, Contains-append_right}
use Rattle.ufs_frames.proofs.FragmentLaws.{in_one}
use Rattle.dg_model.specs.Members.{is_lost}
use Rattle.dg_model.specs.Sites.{all_lost, has_site, is_gone}
use Rattle.dg_model.specs.Tables.{Table, is_on, sites_in, stands_on}
use Rattle.dg_model.specs.declared.members.MemberState.{MemberState}
use Rattle.dg_model.specs.declared.sites.Site.{Site}
use Rattle.dg_model.proofs.SpareLaws.{on_here, on_there}

-- ---- one list of sites

stands_first : (s : ℕ) (x : Site) (xs : List Site) → x.boundary ≡ s → stands_on s (x ∷ xs) ≡ true
stands_first s x xs is = let count = on_here s x xs is in grind (arith, nat_tests)

stands_more : (s : ℕ) (x : Site) (xs : List Site) → stands_on s xs ≡ true → stands_on s (x ∷ xs) ≡ true
stands_more s x xs is = elim (cases_Bool (x.boundary == s)) [
  | inl here ↦ let same : x.boundary ≡ s = grind (arith, nat_tests) in stands_first s x xs same
  | inr there ↦ let apart : x.boundary ≢ s = λ (same : x.boundary ≡ s). grind (arith, nat_tests) in let count = on_there s x xs apart in grind (arith, nat_tests)
]

stands_rest : (s : ℕ) (x : Site) (xs : List Site) → x.boundary ≢ s → stands_on s (x ∷ xs) ≡ true → stands_on s xs ≡ true
stands_rest s x xs apart is = let count = on_there s x xs apart in grind (arith, nat_tests)

lost_each : (members : ℕ → MemberState) (sites : List Site) (s : ℕ) → all_lost members sites ≡ true → stands_on s sites ≡ true → is_lost members s ≡ true
lost_each members [] s all on = absurd (false≢true on)
lost_each members (x ∷ xs) s all on =
    let parts = and_parts (is_lost members x.boundary) (all_lost members xs) all in
    elim (cases_Bool (x.boundary == s)) [
      | inl here ↦ let same : x.boundary ≡ s = grind (arith, nat_tests) in subst (λ (t : ℕ). is_lost members t ≡ true) same parts.0
      | inr there ↦ let apart : x.boundary ≢ s = λ (same : x.boundary ≡ s). grind (arith, nat_tests) in lost_each members xs s parts.1 (stands_rest s x xs apart on)
    ]

lost_all : (members : ℕ → MemberState) (sites : List Site) → ((s : ℕ) → stands_on s sites ≡ true → is_lost members s ≡ true) → all_lost members sites ≡ true
lost_all members [] each = refl
lost_all members (x ∷ xs) each = and_from (is_lost members x.boundary) (all_lost members xs) (each x.boundary (stands_first x.boundary x xs refl))
    (lost_all members xs (λ s on. each s (stands_more s x xs on)))

-- ---- a block

pub gone_written : (table : Table) (members : ℕ → MemberState) (b : ℕ) → is_gone table members b ≡ true → has_site (sites_in table b) ≡ true
gone_written table members b gone = (and_parts (has_site (sites_in table b)) (all_lost members (sites_in table b)) gone).0

pub gone_each : (table : Table) (members : ℕ → MemberState) (b s : ℕ) → is_gone table members b ≡ true → is_on table b s ≡ true → is_lost members s ≡ true
gone_each table members b s gone on = lost_each members (sites_in table b) s ((and_parts (has_site (sites_in table b)) (all_lost members (sites_in table b)) gone).1) on

pub gone_from : (table : Table) (members : ℕ → MemberState) (b : ℕ) → has_site (sites_in table b) ≡ true
    → ((s : ℕ) → is_on table b s ≡ true → is_lost members s ≡ true) → is_gone table members b ≡ true
gone_from table members b written each = and_from (has_site (sites_in table b)) (all_lost members (sites_in table b)) written (lost_all members (sites_in table b) each)

-- a site on the boundary
pub stands_site : (sites : List Site) (s : ℕ) → stands_on s sites ≡ true → (slot : ℕ) × Contains sites (record { boundary = s; slot = slot })
stands_site [] s on = absurd (false≢true on)
stands_site (x ∷ xs) s on = elim (cases_Bool (x.boundary == s)) [
  | inl here ↦
      let same : x.boundary ≡ s = grind (arith, nat_tests) in
      (x.slot, (0, omega arith, ap (λ (t : ℕ). record { boundary = t; slot = x.slot }) same))
  | inr there ↦
      let apart : x.boundary ≢ s = λ (same : x.boundary ≡ s). grind (arith, nat_tests) in
      let later = stands_site xs s (stands_rest s x xs apart on) in
      (later.0, Contains-append_right (x ∷ []) xs (record { boundary = s; slot = later.0 }) later.1)
]

-- where no boundary became lost, what is gone was gone
pub gone_before : (table : Table) (old new : ℕ → MemberState) (b : ℕ) → ((s : ℕ) → is_on table b s ≡ true → s < table.shape.b)
    → ((s : ℕ) → s < table.shape.b → is_lost old s ≡ false → is_lost new s ≡ false) → is_gone table new b ≡ true → is_gone table old b ≡ true
gone_before table old new b within none gone = gone_from table old b (gone_written table new b gone) (λ s on. elim (cases_Bool (is_lost old s)) [
  | inl lost ↦ lost
  | inr stands ↦ absurd (false≢true (sym (none s (within s on) stands) ∙ gone_each table new b s gone on))
])

-- ---- some of some blocks

pub any_there : (test : ℕ → Bool) (xs : List ℕ) → list_any test xs ≡ true → (x : ℕ) × Contains xs x × (test x ≡ true)
any_there test [] h = absurd (false≢true h)
any_there test (x ∷ xs) h = elim (cases_Bool (test x)) [
  | inl here ↦ (x, (0, omega arith, refl), here)
  | inr there ↦ let later = any_there test xs (rw there at h) in (later.0, Contains-append_right (x ∷ []) xs later.0 later.1, later.2)
]

pub any_found : (test : ℕ → Bool) (xs : List ℕ) (x : ℕ) → Contains xs x → test x ≡ true → list_any test xs ≡ true
any_found test [] x has is = let low = has.1 in absurd (omega arith)
any_found test (y ∷ ys) x has is = elim (cases_Bool (test y)) [
  | inl here ↦ rw here refl
  | inr there ↦ elim (Contains-append_cases (y ∷ []) ys x has) [
    | inl first ↦ absurd (false≢true (sym there ∙ ap test (sym (in_one y x first)) ∙ is))
    | inr later ↦ rw there (any_found test ys x later is)
  ]
]
