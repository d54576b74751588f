-- Marks of pending blocks.
use Rattle.std.proofs.Common.{◌≡◌, ◌∙◌, ◌↔◌, ◌⊎◌, ℕ, suc, ◌+◌, ◌<◌, ◌≤◌, ◌&&◌, ◌==◌, not, inl, inr, List, [], ◌∷◌, Bool, true, false, length, refl, sym, ap, subst, arith, Contains}
use Rattle.std.proofs.lemmas.Bool.{cases_eq, false≢true}
use Rattle.std.proofs.lemmas.Bool.Decides.{nat_tests}
use Rattle.std.proofs.lemmas.List.{get_or_past}
use Rattle.std.specs.Bool.{Decides}
use Rattle.ufs_model.specs.Claims.{HasClaimCount, level_of}
use Rattle.ufs_model.specs.declared.claims.ClaimSource.{ClaimSource}
use Rattle.dg_infer.proofs.ListLaws.{below_cases, claimed_at, contains_cons, contains_none}
use Rattle.dg_infer.specs.Claimed.{ClaimsBy}
use Rattle.dg_infer.proofs.WatchLaws.{touched_cases}
use Rattle.dg_infer.specs.Known.{HasClaim}
use Rattle.dg_model.specs.Marks.{is_marked}
use Rattle.dg_infer.specs.Watches.{IsWatched, touch_at}
use Rattle.dg_infer.specs.declared.watches.Touch.{Touch}

-- ---- a fragment is claimed

not_zero : (count : ℕ) → count ≡ 0 → not (count == 0) ≡ true → ⊥
not_zero count e t = grind (arith, nat_tests)

is_some : (count n : ℕ) → count ≡ suc n → not (count == 0) ≡ true
is_some count n e = grind (arith, nat_tests)

by_list : (claimed : ClaimSource → List ℕ) (f count : ℕ) (sources : List ClaimSource) → ((s : ClaimSource) → Contains sources s ↔ Contains (claimed s) f) → count ≡ length sources
    → Decides (not (count == 0)) (HasClaim claimed f)
by_list claimed f count [] exactly number = (λ t. absurd (not_zero count number t), λ h. absurd (contains_none (h.0) ((exactly (h.0)).1 (h.1))))
by_list claimed f count (s ∷ sources) exactly number =
    (λ t. (s, (exactly s).0 ((contains_cons s sources s).1 (inl refl))), λ h. is_some count (length sources) number)

pub claimed_decides : (claimed : ClaimSource → List ℕ) (f count : ℕ) → HasClaimCount (ClaimsBy claimed) f count → Decides (not (count == 0)) (HasClaim claimed f)
claimed_decides claimed f count has = by_list claimed f count has.sources has.are.each (sym has.number)

-- ---- marks are taken

pub cleared : (old new : List Bool) (P : ℕ → Type 0) (fragment : ℕ) → P fragment → is_marked new fragment ≡ false → ((b : ℕ) → (b ≡ fragment → ⊥) → is_marked new b ≡ is_marked old b)
    → (b : ℕ) → (is_marked new b ≡ true) ↔ ((is_marked old b ≡ true) × (b ≡ fragment → P b → ⊥))
cleared old new P fragment has here others b = elim (cases_eq b fragment) [
  | inl e ↦ (
    λ t. absurd (false≢true (sym (ap (is_marked new) e ∙ here) ∙ t)),
    λ both. absurd (both.1 e (subst P (sym e) has)),
  )
  | inr apart ↦ (
    λ t. (sym (others b apart) ∙ t, λ e. absurd (apart e)),
    λ both. others b apart ∙ both.0,
  )
]

pub kept : (marks : List Bool) (P : ℕ → Type 0) (fragment : ℕ) → (P fragment → ⊥) → (b : ℕ) → (is_marked marks b ≡ true) ↔ ((is_marked marks b ≡ true) × (b ≡ fragment → P b → ⊥))
kept marks P fragment none b = (λ t. (t, λ e h. none (subst P e h)), λ both. both.0)

pub cleared_more : (first old new : List Bool) (P : ℕ → Type 0) (k count : ℕ) → count ≡ k + 1
    → ((b : ℕ) → (is_marked old b ≡ true) ↔ ((is_marked first b ≡ true) × (b < k → P b → ⊥)))
    → ((b : ℕ) → (is_marked new b ≡ true) ↔ ((is_marked old b ≡ true) × (b ≡ k → P b → ⊥)))
    → (b : ℕ) → (is_marked new b ≡ true) ↔ ((is_marked first b ≡ true) × (b < count → P b → ⊥))
cleared_more first old new P k count more so_far one b = (
  λ t.
      let now = (one b).0 t in
      let was = (so_far b).0 (now.0) in
      (was.0, λ lt h. elim (cases_eq b k) [ inl e ↦ now.1 e h | inr apart ↦ was.1 (omega (arith, lt, apart, more)) h ]),
  λ both. (one b).1 ((so_far b).1 (both.0, λ lt h. both.1 (omega (arith, lt, more)) h), λ e h. both.1 (omega (arith, e, more)) h),
)

past_end : (marks : List Bool) (b : ℕ) → length marks ≤ b → is_marked marks b ≡ false
past_end marks b past = get_or_past marks b false past

pub cleared_all : (first now : List Bool) (P : ℕ → Type 0) (k : ℕ) → length first ≤ k → ((b : ℕ) → (is_marked now b ≡ true) ↔ ((is_marked first b ≡ true) × (b < k → P b → ⊥)))
    → (b : ℕ) → (is_marked now b ≡ true) ↔ ((is_marked first b ≡ true) × (P b → ⊥))
cleared_all first now P k all is b = (
  λ t.
      let was = (is b).0 t in
      (was.0, elim (below_cases b k) as (λ side. P b → ⊥) [ inl lt ↦ was.1 lt | inr past ↦ absurd (false≢true (sym (past_end first b (omega (arith, past, all))) ∙ was.0)) ]),
  λ both. (is b).1 (both.0, λ lt. both.1),
)

-- ---- all touched ones

pub taken_more : (first old new : List Bool) (claimed : ClaimSource → List ℕ) (touches : List Touch) (k count fragment : ℕ) → count ≡ k + 1 → fragment ≡ (touch_at touches k).fragment
    → ((b : ℕ) → (is_marked old b ≡ true) ↔ ((is_marked first b ≡ true) × ((j : ℕ) → j < k → b ≡ (touch_at touches j).fragment → HasClaim claimed b → ⊥)))
    → ((b : ℕ) → (is_marked new b ≡ true) ↔ ((is_marked old b ≡ true) × (b ≡ fragment → HasClaim claimed b → ⊥)))
    → (b : ℕ) → (is_marked new b ≡ true) ↔ ((is_marked first b ≡ true) × ((j : ℕ) → j < count → b ≡ (touch_at touches j).fragment → HasClaim claimed b → ⊥))
taken_more first old new claimed touches k count fragment more is so_far one b = (
  λ t.
      let now = (one b).0 t in
      let was = (so_far b).0 (now.0) in (
        was.0,
        λ j lt e h. elim (cases_eq j k) [
          | inl same ↦ now.1 (e ∙ ap (λ (i : ℕ). (touch_at touches i).fragment) same ∙ sym is) h
          | inr apart ↦ was.1 j (omega (arith, lt, apart, more)) e h
        ],
      ),
  λ both. (one b).1 ((so_far b).1 (both.0, λ j lt e h. both.1 j (omega (arith, lt, more)) e h), λ e h. both.1 k (omega (arith, more)) (e ∙ is) h),
)

pub taken_all : (first new : List Bool) (before claimed : ClaimSource → List ℕ) (touches : List Touch) (count : ℕ) → length touches ≤ count → IsWatched before claimed touches
    → ((b : ℕ) → is_marked first b ≡ true → HasClaim before b → ⊥)
    → ((b : ℕ) → (is_marked new b ≡ true) ↔ ((is_marked first b ≡ true) × ((j : ℕ) → j < count → b ≡ (touch_at touches j).fragment → HasClaim claimed b → ⊥)))
    → (b : ℕ) → (is_marked new b ≡ true) ↔ ((is_marked first b ≡ true) × (HasClaim claimed b → ⊥))
taken_all first new before claimed touches count all watched bare is b = (
  λ t.
      let now = (is b).0 t in (
        now.0,
        λ h. elim (touched_cases touches (level_of (h.0)) b) [
          | inl at ↦ now.1 at.index (let x = at.inside in omega (arith, x, all)) (sym at.at) h
          | inr none ↦ let had = (watched.others (level_of (h.0)) b none).0 (claimed_at claimed (level_of (h.0)) b (h.0) refl (h.1)) in bare b (now.0) (had.source, had.claim)
        ],
      ),
  λ both. (is b).1 (both.0, λ j lt e h. both.1 h),
)

-- ---- the block that was written

and_both : (x y : Bool) → (not x && not y) ≡ true → (x ≡ false) × (y ≡ false)
and_both true y e = absurd (false≢true e)
and_both false true e = absurd (false≢true e)
and_both false false e = (refl, refl)

both_and : (x y : Bool) → x ≡ false → y ≡ false → (not x && not y) ≡ true
both_and x y e f = ap (λ (a : Bool). not a && not y) e ∙ ap (λ (a : Bool). not false && not a) f

hasnt : (x : Bool) {P : Type 0} → Decides x P → (P → ⊥) → x ≡ false
hasnt true d none = absurd (none (d.0 refl))
hasnt false d none = refl

pub written_mark : (first old new : List Bool) (claimed : ClaimSource → List ℕ) (block : ℕ) (has system : Bool) → Decides has (HasClaim claimed block)
    → ((b : ℕ) → (is_marked old b ≡ true) ↔ ((is_marked first b ≡ true) × (HasClaim claimed b → ⊥)))
    → is_marked new block ≡ (not has && not system) → ((b : ℕ) → (b ≡ block → ⊥) → is_marked new b ≡ is_marked old b)
    → (b : ℕ) → (is_marked new b ≡ true) ↔ (((is_marked first b ≡ true) ⊎ (b ≡ block)) × (HasClaim claimed b → ⊥) × (b ≡ block → system ≡ false))
written_mark first old new claimed block has system decides is here others b = elim (cases_eq b block) [
  | inl e ↦ (
    λ t.
        let parts = and_both has system (sym (ap (is_marked new) e ∙ here) ∙ t) in
        (inr e, λ h. false≢true (sym (parts.0) ∙ decides.1 (subst (λ (x : ℕ). HasClaim claimed x) e h)), λ same. parts.1),
    λ all. ap (is_marked new) e ∙ here ∙ both_and has system (hasnt has decides (λ h. all.1 (subst (λ (x : ℕ). HasClaim claimed x) (sym e) h))) (all.2 e),
  )
  | inr apart ↦ (
    λ t. let was = (is b).0 (sym (others b apart) ∙ t) in (inl (was.0), was.1, λ e. absurd (apart e)),
    λ all. others b apart ∙ (is b).1 (elim (all.0) [ inl m ↦ m | inr e ↦ absurd (apart e) ], all.1),
  )
]
