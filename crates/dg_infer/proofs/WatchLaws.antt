-- Lists of touches, and that they stay right while claims change.
use Rattle.std.proofs.Common.{◌≡◌, ◌∙◌, ◌⊎◌, ℕ, zero, suc, ◌+◌, ◌-◌, ◌<◌, ◌≤◌, inl, inr, List, [], ◌∷◌, ◌++◌, Bool, false, Option, Some, None, length, length-append, refl, sym, ap, subst, arith, Contains}
use Rattle.std.proofs.Math.ListN.{get_or-append}
use Rattle.std.proofs.Math.Seq.{get_or-append_seam}
use Rattle.std.proofs.lemmas.Bool.{cases_eq, false≢true}
use Rattle.std.specs.Option.{is_some}
use Rattle.std.specs.Bool.{Decides}
use Rattle.ufs_model.specs.Claims.{level_of}
use Rattle.ufs_model.specs.declared.claims.ClaimSource.{ClaimSource}
use Rattle.ufs_model.specs.declared.claims.ClaimSource.TheVariants.{Slot, Pointer}
use Rattle.dg_infer.specs.Claimed.{IsClaimedBy}
use Rattle.dg_infer.proofs.ListLaws.{below_cases, claimed_at}
use Rattle.dg_infer.specs.Watches.{Grows, IsDistinct, IsTouched, IsWatched, touch_at}
use Rattle.dg_infer.specs.declared.watches.Touch.{Touch}

-- ---- growth

pub grows_same : (touches : List Touch) → Grows touches touches
grows_same touches = record { longer = omega arith; same = λ k lt. refl }

pub grows_both : (a b c : List Touch) → Grows a b → Grows b c → Grows a c
grows_both a b c one two = record {
  longer = let x = one.longer in let y = two.longer in omega arith;
  same = λ k lt. two.same k (let x = one.longer in omega (arith, lt)) ∙ one.same k lt;
}

pub touched_grows : (old new : List Touch) (level fragment : ℕ) → Grows old new → IsTouched old level fragment → IsTouched new level fragment
touched_grows old new level fragment grows is = record {
  index = is.index;
  inside = let x = is.inside in let y = grows.longer in omega arith;
  at = ap (λ (t : Touch). t.fragment) (grows.same is.index is.inside) ∙ is.at;
  on = ap (λ (t : Touch). t.level) (grows.same is.index is.inside) ∙ is.on;
}

-- ---- one more

touch_last : (touches : List Touch) (t : Touch) → touch_at (touches ++ t ∷ []) (length touches) ≡ t
touch_last touches t = get_or-append_seam touches t [] (record { fragment = 0; level = 0; was = false })

touch_before : (touches : List Touch) (t : Touch) (k : ℕ) → k < length touches → touch_at (touches ++ t ∷ []) k ≡ touch_at touches k
touch_before touches t k lt = get_or-append touches (t ∷ []) (record { fragment = 0; level = 0; was = false }) k lt

length_more : (touches : List Touch) (t : Touch) → length (touches ++ t ∷ []) ≡ length touches + 1
length_more touches t = length-append touches (t ∷ [])

pub grows_push : (touches : List Touch) (t : Touch) → Grows touches (touches ++ t ∷ [])
grows_push touches t = record { longer = omega (arith, length_more touches t); same = touch_before touches t }

pub touched_push : (touches : List Touch) (t : Touch) → IsTouched (touches ++ t ∷ []) t.level t.fragment
touched_push touches t = record {
  index = length touches;
  inside = omega (arith, length_more touches t);
  at = ap (λ (s : Touch). s.fragment) (touch_last touches t);
  on = ap (λ (s : Touch). s.level) (touch_last touches t);
}

pub distinct_push : (touches : List Touch) (t : Touch) → IsDistinct touches → (IsTouched touches t.level t.fragment → ⊥) → IsDistinct (touches ++ t ∷ [])
distinct_push touches t is fresh = record {
  apart = λ j k lt inside f l. elim (below_cases k (length touches)) [
    | inl below ↦
        let first : j < length touches = omega (arith, lt, below) in
        is.apart j k lt below (sym (ap (λ (s : Touch). s.fragment) (touch_before touches t j first)) ∙ f ∙ ap (λ (s : Touch). s.fragment) (touch_before touches t k below))
        (sym (ap (λ (s : Touch). s.level) (touch_before touches t j first)) ∙ l ∙ ap (λ (s : Touch). s.level) (touch_before touches t k below))
    | inr past ↦
        let last : k ≡ length touches = omega (arith, past, inside, length_more touches t) in
        let first : j < length touches = omega (arith, lt, last) in
        let there : touch_at (touches ++ t ∷ []) k ≡ t = ap (touch_at (touches ++ t ∷ [])) last ∙ touch_last touches t in
        fresh (record {
          index = j;
          inside = first;
          at = sym (ap (λ (s : Touch). s.fragment) (touch_before touches t j first)) ∙ f ∙ ap (λ (s : Touch). s.fragment) there;
          on = sym (ap (λ (s : Touch). s.level) (touch_before touches t j first)) ∙ l ∙ ap (λ (s : Touch). s.level) there;
        })
  ];
}

pub watched_push : (before now : ClaimSource → List ℕ) (touches : List Touch) (t : Touch) → (IsTouched touches t.level t.fragment → ⊥) → Decides t.was (IsClaimedBy now t.level t.fragment)
    → IsWatched before now touches → IsWatched before now (touches ++ t ∷ [])
watched_push before now touches t fresh was is =
    let Right : Touch → Type 0 = λ s. Decides s.was (IsClaimedBy before s.level s.fragment) in
    let same = is.others t.level t.fragment fresh in record {
      known = λ k inside. elim (below_cases k (length touches)) [
        | inl below ↦ subst Right (sym (touch_before touches t k below)) (is.known k below)
        | inr past ↦
            let last : k ≡ length touches = omega (arith, past, inside, length_more touches t) in
            let there : touch_at (touches ++ t ∷ []) k ≡ t = ap (touch_at (touches ++ t ∷ [])) last ∙ touch_last touches t in
            subst Right (sym there) (λ e. same.0 (was.0 e), λ h. was.1 (same.1 h))
      ];
      others = λ level fragment none. is.others level fragment (λ h. none (touched_grows touches (touches ++ t ∷ []) level fragment (grows_push touches t) h));
    }

-- ---- a fragment is in the list, or it isn't

first_touch : (touches : List Touch) (level fragment n : ℕ) → n ≤ length touches
    → IsTouched touches level fragment ⊎ ((k : ℕ) → k < n → (touch_at touches k).fragment ≡ fragment → (touch_at touches k).level ≡ level → ⊥)
first_touch touches level fragment zero le = inr (λ k lt f l. omega (arith, lt))
first_touch touches level fragment (suc n) le = elim (first_touch touches level fragment n (omega arith)) [
  | inl is ↦ inl is
  | inr none ↦ elim (cases_eq ((touch_at touches n).fragment) fragment) [
    | inl f ↦ elim (cases_eq ((touch_at touches n).level) level) [
      | inl l ↦ inl (record { index = n; inside = omega (arith, le); at = f; on = l })
      | inr apart ↦ inr (λ k lt fk lk. elim (cases_eq k n) [
        | inl e ↦ apart (ap (λ (m : ℕ). (touch_at touches m).level) (sym e) ∙ lk)
        | inr ne ↦ none k (omega (arith, lt, ne)) fk lk
      ])
    ]
    | inr apart ↦ inr (λ k lt fk lk. elim (cases_eq k n) [
      | inl e ↦ apart (ap (λ (m : ℕ). (touch_at touches m).fragment) (sym e) ∙ fk)
      | inr ne ↦ none k (omega (arith, lt, ne)) fk lk
    ])
  ]
]

pub touched_cases : (touches : List Touch) (level fragment : ℕ) → IsTouched touches level fragment ⊎ (IsTouched touches level fragment → ⊥)
touched_cases touches level fragment = elim (first_touch touches level fragment (length touches) (omega arith)) [
  | inl is ↦ inl is
  | inr none ↦ inr (λ is. none is.index is.inside is.at is.on)
]

-- ---- while claims change

-- each source stays, or what it claimed and what it claims is touched
pub still_watched : (before now next : ClaimSource → List ℕ) (touches : List Touch)
    → ((source : ClaimSource) → (next source ≡ now source) ⊎ ((f : ℕ) → (Contains (now source) f ⊎ Contains (next source) f) → IsTouched touches (level_of source) f))
    → IsWatched before now touches → IsWatched before next touches
still_watched before now next touches change is = record {
  known = is.known;
  others = λ level f none. let same = is.others level f none in (
    λ h. elim (change h.source) [
      | inl stays ↦ same.0 (claimed_at now level f h.source h.is (subst (λ (xs : List ℕ). Contains xs f) stays h.claim))
      | inr all ↦ absurd (none (subst (λ (n : ℕ). IsTouched touches n f) h.is (all f (inr h.claim))))
    ],
    λ b. let h = same.1 b in elim (change h.source) [
      | inl stays ↦ claimed_at next level f h.source h.is (subst (λ (xs : List ℕ). Contains xs f) (sym stays) h.claim)
      | inr all ↦ absurd (none (subst (λ (n : ℕ). IsTouched touches n f) h.is (all f (inl h.claim))))
    ],
  );
}

pointer_change : (now next : ClaimSource → List ℕ) (touches : List Touch) (fragment level : ℕ)
    → ((source : ClaimSource) → ((at : ℕ) → source ≡ Pointer fragment level at → ⊥) → next source ≡ now source)
    → ((at f : ℕ) → Contains (now (Pointer fragment level at)) f → IsTouched touches (level - 1) f)
    → ((at f : ℕ) → Contains (next (Pointer fragment level at)) f → IsTouched touches (level - 1) f)
    → (source : ClaimSource) → (next source ≡ now source) ⊎ ((f : ℕ) → (Contains (now source) f ⊎ Contains (next source) f) → IsTouched touches (level_of source) f)
pointer_change now next touches fragment level others old new (Slot inode slot) = inl (others (Slot inode slot) (λ at e. cc))
pointer_change now next touches fragment level others old new (Pointer u k at) = elim (cases_eq u fragment) [
  | inl f ↦ elim (cases_eq k level) [
    | inl l ↦
        let here : Pointer u k at ≡ Pointer fragment level at = ap (λ (x : ℕ). Pointer x k at) f ∙ ap (λ (x : ℕ). Pointer fragment x at) l in
        inr (λ x either. subst (λ (n : ℕ). IsTouched touches (n - 1) x) (sym l) (elim either [
          | inl h ↦ old at x (subst (λ (s : ClaimSource). Contains (now s) x) here h)
          | inr h ↦ new at x (subst (λ (s : ClaimSource). Contains (next s) x) here h)
        ]))
    | inr apart ↦ inl (others (Pointer u k at) (λ a e. apart (let same : k ≡ level = cc in same)))
  ]
  | inr apart ↦ inl (others (Pointer u k at) (λ a e. apart (let same : u ≡ fragment = cc in same)))
]

pub pointers_watched : (before now next : ClaimSource → List ℕ) (touches : List Touch) (fragment level : ℕ)
    → ((source : ClaimSource) → ((at : ℕ) → source ≡ Pointer fragment level at → ⊥) → next source ≡ now source)
    → ((at f : ℕ) → Contains (now (Pointer fragment level at)) f → IsTouched touches (level - 1) f)
    → ((at f : ℕ) → Contains (next (Pointer fragment level at)) f → IsTouched touches (level - 1) f)
    → IsWatched before now touches → IsWatched before next touches
pointers_watched before now next touches fragment level others old new is = still_watched before now next touches (pointer_change now next touches fragment level others old new) is

slot_change : (now next : ClaimSource → List ℕ) (touches : List Touch) (number : ℕ)
    → ((source : ClaimSource) → ((slot : ℕ) → source ≡ Slot number slot → ⊥) → next source ≡ now source)
    → ((slot f : ℕ) → Contains (now (Slot number slot)) f → IsTouched touches (slot - 11) f)
    → ((slot f : ℕ) → Contains (next (Slot number slot)) f → IsTouched touches (slot - 11) f)
    → (source : ClaimSource) → (next source ≡ now source) ⊎ ((f : ℕ) → (Contains (now source) f ⊎ Contains (next source) f) → IsTouched touches (level_of source) f)
slot_change now next touches number others old new (Pointer u k at) = inl (others (Pointer u k at) (λ slot e. cc))
slot_change now next touches number others old new (Slot inode slot) = elim (cases_eq inode number) [
  | inl i ↦
      let here : Slot inode slot ≡ Slot number slot = ap (λ (x : ℕ). Slot x slot) i in
      inr (λ x either. elim either [
        | inl h ↦ old slot x (subst (λ (s : ClaimSource). Contains (now s) x) here h)
        | inr h ↦ new slot x (subst (λ (s : ClaimSource). Contains (next s) x) here h)
      ])
  | inr apart ↦ inl (others (Slot inode slot) (λ s e. apart (let same : inode ≡ number = cc in same)))
]

pub slots_watched : (before now next : ClaimSource → List ℕ) (touches : List Touch) (number : ℕ)
    → ((source : ClaimSource) → ((slot : ℕ) → source ≡ Slot number slot → ⊥) → next source ≡ now source)
    → ((slot f : ℕ) → Contains (now (Slot number slot)) f → IsTouched touches (slot - 11) f)
    → ((slot f : ℕ) → Contains (next (Slot number slot)) f → IsTouched touches (slot - 11) f)
    → IsWatched before now touches → IsWatched before next touches
slots_watched before now next touches number others old new is = still_watched before now next touches (slot_change now next touches number others old new) is

-- before anything is touched
pub watched_first : (claimed : ClaimSource → List ℕ) → IsWatched claimed claimed []
watched_first claimed = record { known = λ k inside. absurd (omega (arith, inside)); others = λ level fragment none. (λ h. h, λ h. h) }

-- ---- what is looked up

pub none_there : (o : Option Bool) → false ≡ is_some o → o ≡ None
none_there None e = refl
none_there (Some b) e = absurd (false≢true e)
