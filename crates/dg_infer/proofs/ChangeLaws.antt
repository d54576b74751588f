-- One level after another is made right.
use Rattle.std.proofs.Common.{◌≡◌, ◌∙◌, ◌↔◌, ℕ, ◌+◌, ◌-◌, ◌<◌, ◌≤◌, inl, inr, List, [], Bool, true, false, length, refl, sym, ap, subst, arith, Contains}
use Rattle.std.proofs.lemmas.Bool.{cases_eq, false≢true}
use Rattle.std.specs.Bool.{Decides}
use Rattle.ufs_model.specs.Claims.{IsClaim, IsClaimedAt, by_pointer, by_slot, level_of}
use Rattle.ufs_model.specs.declared.claims.ClaimSource.{ClaimSource}
use Rattle.ufs_model.specs.declared.claims.ClaimSource.TheVariants.{Slot, Pointer}
use Rattle.dg_infer.specs.Claimed.{IsClaimedBy}
use Rattle.dg_infer.proofs.ListLaws.{claimed_at, contains_none}
use Rattle.dg_infer.proofs.WatchLaws.{touched_cases}
use Rattle.dg_infer.specs.Changes.{AreClaims, IsMoved, IsRightDownTo, anew, ended, stayed}
use Rattle.dg_infer.specs.Watches.{IsDistinct, IsTouched, IsWatched, touch_at}
use Rattle.dg_infer.specs.declared.watches.Touch.{Touch}

-- ---- claims of the volume

pub pointer_claim : (t : ClaimSource → List ℕ) (fragment upper level at : ℕ) → IsClaim t fragment (Pointer upper level at) → Contains (t (Pointer upper level at)) fragment
pointer_claim t fragment upper level at (by_pointer above is low has) = has

pub slot_claim : (t : ClaimSource → List ℕ) (fragment inode slot : ℕ) → IsClaim t fragment (Slot inode slot) → Contains (t (Slot inode slot)) fragment
slot_claim t fragment inode slot (by_slot has) = has

pub claim_level : (t : ClaimSource → List ℕ) (fragment upper level at : ℕ) → IsClaim t fragment (Pointer upper level at) → 0 < level
claim_level t fragment upper level at (by_pointer above is low has) = low

-- the claim of the fragment with the pointer
pub claim_above : (t : ClaimSource → List ℕ) (fragment upper level at : ℕ) → IsClaim t fragment (Pointer upper level at) → (source : ClaimSource) × (level_of source ≡ level) × IsClaim t upper source
claim_above t fragment upper level at (by_pointer {source = source} above is low has) = (source, is, above)

-- ---- claims at a level that is right

claimed_of : (t before now : ClaimSource → List ℕ) (level fragment : ℕ) (source : ClaimSource) → IsRightDownTo t before now level → 0 < level → level_of source ≡ level → IsClaim t fragment source → IsClaimedBy now level fragment
claimed_of t before now level fragment (Slot inode slot) right low is claim =
    claimed_at now level fragment (Slot inode slot) is ((right.slots fragment inode slot).1 (slot_claim t fragment inode slot claim))
claimed_of t before now level fragment (Pointer upper above at) right low is claim =
    claimed_at now level fragment (Pointer upper above at) is ((right.pointers fragment upper above at (omega (arith, is, low))).1 claim)

claim_by : (t before now : ClaimSource → List ℕ) (level fragment : ℕ) (source : ClaimSource) → IsRightDownTo t before now level → 0 < level → level_of source ≡ level → Contains (now source) fragment
    → IsClaim t fragment source
claim_by t before now level fragment (Slot inode slot) right low is has = by_slot ((right.slots fragment inode slot).0 has)
claim_by t before now level fragment (Pointer upper above at) right low is has = (right.pointers fragment upper above at (omega (arith, is, low))).0 has

pub claim_of : (t before now : ClaimSource → List ℕ) (level fragment : ℕ) → IsRightDownTo t before now level → 0 < level → IsClaimedBy now level fragment
    → (source : ClaimSource) × (level_of source ≡ level) × IsClaim t fragment source
claim_of t before now level fragment right low h = (h.source, h.is, claim_by t before now level fragment h.source right low h.is h.claim)

pub is_indirect : (t before now : ClaimSource → List ℕ) (level fragment : ℕ) → IsRightDownTo t before now level → 0 < level → IsClaimedBy now level fragment → (source : ClaimSource) × IsClaim t fragment source × (0 < level_of source)
is_indirect t before now level fragment right low at = let some = claim_of t before now level fragment right low at in (some.0, some.2, omega (arith, some.1, low))

-- a fragment that is claimed at such a level is so by what the sources claim
pub claimed_right : (t before now : ClaimSource → List ℕ) (level fragment : ℕ) → IsRightDownTo t before now level → 0 < level → IsClaimedBy now level fragment → IsClaimedAt (IsClaim t) level fragment
claimed_right t before now level fragment right low h = let some = claim_of t before now level fragment right low h in record { source = some.0; claim = some.2; is = some.1 }

-- ---- the pointers of one fragment

-- its pointers claim what they do on the volume
by_anew : (t before now : ClaimSource → List ℕ) (level upper at : ℕ) (xs : List ℕ) → 0 < level → IsRightDownTo t before now level → IsClaimedBy now level upper → xs ≡ t (Pointer upper level at)
    → (fragment : ℕ) → Contains xs fragment ↔ IsClaim t fragment (Pointer upper level at)
by_anew t before now level upper at xs low right claimed is fragment =
    let above = claim_of t before now level upper right low claimed in (
      λ has. by_pointer (above.2) (above.1) low (subst (λ (ys : List ℕ). Contains ys fragment) is has),
      λ claim. subst (λ (ys : List ℕ). Contains ys fragment) (sym is) (pointer_claim t fragment upper level at claim),
    )

-- they claim nothing
by_none : (t before now : ClaimSource → List ℕ) (level upper at : ℕ) (xs : List ℕ) → 0 < level → IsRightDownTo t before now level → (IsClaimedBy now level upper → ⊥) → xs ≡ []
    → (fragment : ℕ) → Contains xs fragment ↔ IsClaim t fragment (Pointer upper level at)
by_none t before now level upper at xs low right none is fragment = (
  λ has. absurd (contains_none fragment (subst (λ (ys : List ℕ). Contains ys fragment) is has)),
  λ claim. let above = claim_above t fragment upper level at claim in absurd (none (claimed_of t before now level upper (above.0) right low (above.1) (above.2))),
)

-- they claim what they did, and it has a claim just where it had one
by_same : (t sources before now : ClaimSource → List ℕ) (level block upper at : ℕ) (xs : List ℕ) → 0 < level → IsRightDownTo t before now level → AreClaims sources before
    → ((u a : ℕ) → IsClaimedBy before level u → (u ≡ block → ⊥) → sources (Pointer u level a) ≡ t (Pointer u level a))
    → IsClaimedBy now level upper ↔ IsClaimedBy before level upper → (upper ≡ block → IsClaimedBy now level upper → ⊥) → xs ≡ before (Pointer upper level at)
    → (fragment : ℕ) → Contains xs fragment ↔ IsClaim t fragment (Pointer upper level at)
by_same t sources before now level block upper at xs low right are off iff apart is fragment = (
  λ has.
      let old = (are.each fragment (Pointer upper level at)).0 (subst (λ (ys : List ℕ). Contains ys fragment) is has) in
      let above = claim_above sources fragment upper level at old in
      let had : IsClaimedBy before level upper = claimed_at before level upper (above.0) (above.1) ((are.each upper (above.0)).1 (above.2)) in
      let claimed = iff.1 had in
      let now_above = claim_of t before now level upper right low claimed in
      by_pointer (now_above.2) (now_above.1) low
      (subst (λ (ys : List ℕ). Contains ys fragment) (off upper at had (λ e. apart e claimed)) (pointer_claim sources fragment upper level at old)),
  λ claim.
      let above = claim_above t fragment upper level at claim in
      let claimed = claimed_of t before now level upper (above.0) right low (above.1) (above.2) in
      let was = iff.0 claimed in
      let had = (are.each upper was.source).0 was.claim in
      subst (λ (ys : List ℕ). Contains ys fragment) (sym is)
      ((are.each fragment (Pointer upper level at)).1 (by_pointer had was.is low
      (subst (λ (ys : List ℕ). Contains ys fragment) (sym (off upper at was (λ e. apart e claimed))) (pointer_claim t fragment upper level at claim)))),
)

-- where it was touched
touched_right : (t sources before now next : ClaimSource → List ℕ) (block : ℕ) (touch : Touch) → 0 < touch.level → IsRightDownTo t before now touch.level → AreClaims sources before
    → ((u a : ℕ) → IsClaimedBy before touch.level u → (u ≡ block → ⊥) → sources (Pointer u touch.level a) ≡ t (Pointer u touch.level a))
    → (touch.was ≡ true) ↔ IsClaimedBy before touch.level touch.fragment → IsMoved t now next block touch
    → (fragment at : ℕ) → Contains (next (Pointer touch.fragment touch.level at)) fragment ↔ IsClaim t fragment (Pointer touch.fragment touch.level at)
touched_right t sources before now next block touch low right are off was (anew claimed all) fragment at =
    by_anew t before now touch.level touch.fragment at (next (Pointer touch.fragment touch.level at)) low right claimed (all at) fragment
touched_right t sources before now next block touch low right are off was (ended none all) fragment at =
    by_none t before now touch.level touch.fragment at (next (Pointer touch.fragment touch.level at)) low right none (all at) fragment
touched_right t sources before now next block touch low right are off was (stayed apart iff all) fragment at =
    by_same t sources before now touch.level block touch.fragment at (next (Pointer touch.fragment touch.level at)) low right are off
    (λ h. was.0 (iff.1 h), λ h. iff.0 (was.1 h)) apart (all at ∙ right.kept touch.fragment touch.level at (omega arith)) fragment

-- ---- all of a level

pointer_level : (u l a v k b : ℕ) → Pointer u l a ≡ Pointer v k b → l ≡ k
pointer_level u l a v k b e = cc

pub right_below : (t sources before now next : ClaimSource → List ℕ) (level block : ℕ) (touches : List Touch) → 1 ≤ level → AreClaims sources before
    → ((u a : ℕ) → IsClaimedBy before level u → (u ≡ block → ⊥) → sources (Pointer u level a) ≡ t (Pointer u level a))
    → IsTouched touches level block → IsWatched before now touches
    → ((k : ℕ) → k < length touches → (touch_at touches k).level ≡ level → IsMoved t now next block (touch_at touches k))
    → ((u a : ℕ) → (IsTouched touches level u → ⊥) → next (Pointer u level a) ≡ now (Pointer u level a))
    → ((source : ClaimSource) → ((u a : ℕ) → source ≡ Pointer u level a → ⊥) → next source ≡ now source)
    → IsRightDownTo t before now level → IsRightDownTo t before next (level - 1)
right_below t sources before now next level block touches low are off block_in watched moved untouched others right = record {
  slots = λ fragment inode slot.
      subst (λ (xs : List ℕ). Contains xs fragment ↔ Contains (t (Slot inode slot)) fragment) (sym (others (Slot inode slot) (λ u a e. cc))) (right.slots fragment inode slot);
  pointers = λ fragment upper above at high. elim (cases_eq above level) [
    | inl same ↦ subst (λ (n : ℕ). Contains (next (Pointer upper n at)) fragment ↔ IsClaim t fragment (Pointer upper n at)) (sym same) (elim (touched_cases touches level upper) [
      | inl is ↦
          let Right : ℕ → ℕ → Type 0 = λ u n. Contains (next (Pointer u n at)) fragment ↔ IsClaim t fragment (Pointer u n at) in
          let k = is.index in
          let known = watched.known k is.inside in
          subst (λ (u : ℕ). Right u level) is.at (subst (λ (n : ℕ). Right ((touch_at touches k).fragment) n) is.on
          (touched_right t sources before now next block (touch_at touches k) (subst (λ (n : ℕ). 0 < n) (sym is.on) low)
          (subst (λ (n : ℕ). IsRightDownTo t before now n) (sym is.on) right) are
          (λ u a had ne. subst (λ (n : ℕ). sources (Pointer u n a) ≡ t (Pointer u n a)) (sym is.on) (off u a (subst (λ (n : ℕ). IsClaimedBy before n u) is.on had) ne))
          (known.0, known.1) (moved k is.inside is.on) fragment at))
      | inr none ↦
          by_same t sources before now level block upper at (next (Pointer upper level at)) low right are off (watched.others level upper none)
          (λ e claimed. none (subst (λ (u : ℕ). IsTouched touches level u) (sym e) block_in))
          (untouched upper at none ∙ right.kept upper level at (omega arith)) fragment
    ])
    | inr apart ↦
        subst (λ (xs : List ℕ). Contains xs fragment ↔ IsClaim t fragment (Pointer upper above at)) (sym (others (Pointer upper above at) (λ u a e. apart (pointer_level upper above at u level a e))))
        (right.pointers fragment upper above at (omega (arith, high, apart, low)))
  ];
  kept = λ upper above at le.
      others (Pointer upper above at) (λ u a e. let same = pointer_level upper above at u level a e in omega (arith, same, le, low)) ∙ right.kept upper above at (omega (arith, le));
}

each_right : (t sources before now : ClaimSource → List ℕ) → AreClaims sources before → IsRightDownTo t before now 0 → (fragment : ℕ) (source : ClaimSource) → Contains (now source) fragment ↔ IsClaim t fragment source
each_right t sources before now are right fragment (Slot inode slot) = (
  λ has. by_slot ((right.slots fragment inode slot).0 has),
  λ claim. (right.slots fragment inode slot).1 (slot_claim t fragment inode slot claim),
)
each_right t sources before now are right fragment (Pointer upper level at) = elim (cases_eq level 0) [
  | inl same ↦ (
    λ has. absurd (
        let old = (are.each fragment (Pointer upper level at)).0 (subst (λ (xs : List ℕ). Contains xs fragment) (right.kept upper level at (omega (arith, same))) has) in
        let low = claim_level sources fragment upper level at old in
        omega (arith, low, same)
        ),
    λ claim. let low = claim_level t fragment upper level at claim in absurd (omega (arith, low, same)),
  )
  | inr apart ↦ right.pointers fragment upper level at (omega (arith, apart))
]

-- no level is left
pub right_in_the_end : (t sources before now : ClaimSource → List ℕ) → AreClaims sources before → IsRightDownTo t before now 0 → AreClaims t now
right_in_the_end t sources before now are right = record { each = λ fragment source. each_right t sources before now are right fragment source }

-- ---- one touch after another

moved_later : (t first now next : ClaimSource → List ℕ) (block : ℕ) (touch : Touch) → ((at : ℕ) → next (Pointer touch.fragment touch.level at) ≡ now (Pointer touch.fragment touch.level at))
    → IsMoved t first now block touch → IsMoved t first next block touch
moved_later t first now next block touch same (anew claimed all) = anew claimed (λ at. same at ∙ all at)
moved_later t first now next block touch same (ended none all) = ended none (λ at. same at ∙ all at)
moved_later t first now next block touch same (stayed apart iff all) = stayed apart iff (λ at. same at ∙ all at)

moved_from : (t first now next : ClaimSource → List ℕ) (block : ℕ) (touch : Touch) → IsClaimedBy now touch.level touch.fragment ↔ IsClaimedBy first touch.level touch.fragment
    → ((at : ℕ) → now (Pointer touch.fragment touch.level at) ≡ first (Pointer touch.fragment touch.level at)) → IsMoved t now next block touch → IsMoved t first next block touch
moved_from t first now next block touch iff same (anew claimed all) = anew (iff.0 claimed) all
moved_from t first now next block touch iff same (ended none all) = ended (λ h. none (iff.1 h)) all
moved_from t first now next block touch iff same (stayed apart was all) =
    stayed (λ e h. apart e (iff.1 h)) (λ w. iff.0 (was.0 w), λ h. was.1 (iff.1 h)) (λ at. all at ∙ same at)

claimed_along : (first now : ClaimSource → List ℕ) (level fragment : ℕ) → ((source : ClaimSource) → level_of source ≡ level → now source ≡ first source)
    → IsClaimedBy now level fragment ↔ IsClaimedBy first level fragment
claimed_along first now level fragment same = (
  λ h. claimed_at first level fragment h.source h.is (subst (λ (xs : List ℕ). Contains xs fragment) (same h.source h.is) h.claim),
  λ h. claimed_at now level fragment h.source h.is (subst (λ (xs : List ℕ). Contains xs fragment) (sym (same h.source h.is)) h.claim),
)

pub claimed_stays : (first now : ClaimSource → List ℕ) (touches : List Touch) (level count fragment : ℕ) → 1 ≤ level
    → ((source : ClaimSource) → ((j at : ℕ) → j < count → (touch_at touches j).level ≡ level → source ≡ Pointer ((touch_at touches j).fragment) level at → ⊥) → now source ≡ first source)
    → IsClaimedBy now level fragment ↔ IsClaimedBy first level fragment
claimed_stays first now touches level count fragment low so_far = claimed_along first now level fragment
    (λ s is. so_far s (λ j at lt on e. let lower : level_of s ≡ level - 1 = ap level_of e in omega (arith, lower, is, low)))

pub moved_more : (t first now next : ClaimSource → List ℕ) (level block : ℕ) (touches : List Touch) (k count : ℕ) → count ≡ k + 1 → 1 ≤ level → IsDistinct touches → k < length touches
    → ((source : ClaimSource) → ((j at : ℕ) → j < k → (touch_at touches j).level ≡ level → source ≡ Pointer ((touch_at touches j).fragment) level at → ⊥) → now source ≡ first source)
    → ((j : ℕ) → j < k → (touch_at touches j).level ≡ level → IsMoved t first now block (touch_at touches j))
    → ((source : ClaimSource) → ((touch_at touches k).level ≡ level → (at : ℕ) → source ≡ Pointer ((touch_at touches k).fragment) level at → ⊥) → next source ≡ now source)
    → ((touch_at touches k).level ≡ level → IsMoved t now next block (touch_at touches k))
    → (j : ℕ) → j < count → (touch_at touches j).level ≡ level → IsMoved t first next block (touch_at touches j)
moved_more t first now next level block touches k count more low distinct inside so_far before others here j lt on = elim (cases_eq j k) [
  | inl same ↦ subst (λ (i : ℕ). IsMoved t first next block (touch_at touches i)) (sym same) (
      let on_k : (touch_at touches k).level ≡ level = subst (λ (i : ℕ). (touch_at touches i).level ≡ level) same on in
      let touch = touch_at touches k in
      moved_from t first now next block touch
      (subst (λ (n : ℕ). IsClaimedBy now n touch.fragment ↔ IsClaimedBy first n touch.fragment) (sym on_k) (claimed_stays first now touches level k touch.fragment low so_far))
      (λ at. so_far (Pointer touch.fragment touch.level at) (λ i a less on_i e.
      distinct.apart i k less inside (let f : (touch_at touches k).fragment ≡ (touch_at touches i).fragment = cc in sym f) (on_i ∙ sym on_k)))
      (here on_k))
  | inr apart ↦
      let less : j < k = omega (arith, lt, apart, more) in
      moved_later t first now next block (touch_at touches j)
      (λ at. others (Pointer ((touch_at touches j).fragment) ((touch_at touches j).level) at) (λ on_k a e.
      distinct.apart j k less inside (let f : (touch_at touches j).fragment ≡ (touch_at touches k).fragment = cc in f) (on ∙ sym on_k)))
      (before j less on)
]

pub others_more : (first now next : ClaimSource → List ℕ) (level : ℕ) (touches : List Touch) (k count : ℕ) → count ≡ k + 1
    → ((source : ClaimSource) → ((j at : ℕ) → j < k → (touch_at touches j).level ≡ level → source ≡ Pointer ((touch_at touches j).fragment) level at → ⊥) → now source ≡ first source)
    → ((source : ClaimSource) → ((touch_at touches k).level ≡ level → (at : ℕ) → source ≡ Pointer ((touch_at touches k).fragment) level at → ⊥) → next source ≡ now source)
    → (source : ClaimSource) → ((j at : ℕ) → j < count → (touch_at touches j).level ≡ level → source ≡ Pointer ((touch_at touches j).fragment) level at → ⊥) → next source ≡ first source
others_more first now next level touches k count more so_far others source off =
    others source (λ on at e. off k at (omega (arith, more)) on e) ∙ so_far source (λ j at lt on e. off j at (omega (arith, lt, more)) on e)

-- ---- one touch, by what is known of it

pub moved_ended : (t now next : ClaimSource → List ℕ) (block : ℕ) (touch : Touch) (has : Bool) → Decides has (IsClaimedBy now touch.level touch.fragment) → has ≡ false
    → ((at : ℕ) → next (Pointer touch.fragment touch.level at) ≡ []) → IsMoved t now next block touch
moved_ended t now next block touch has is hasnt all = ended (λ h. false≢true (sym hasnt ∙ is.1 h)) all

pub moved_never : (t now : ClaimSource → List ℕ) (block : ℕ) (touch : Touch) (has : Bool) → Decides has (IsClaimedBy now touch.level touch.fragment) → has ≡ false → touch.was ≡ false
    → IsMoved t now now block touch
moved_never t now block touch has is hasnt was =
    stayed (λ e h. false≢true (sym hasnt ∙ is.1 h)) (λ w. absurd (false≢true (sym was ∙ w)), λ h. absurd (false≢true (sym hasnt ∙ is.1 h))) (λ at. refl)

pub moved_still : (t now : ClaimSource → List ℕ) (block : ℕ) (touch : Touch) (has : Bool) → Decides has (IsClaimedBy now touch.level touch.fragment) → has ≡ true → touch.was ≡ true
    → (touch.fragment ≡ block → ⊥) → IsMoved t now now block touch
moved_still t now block touch has is here was apart = stayed (λ e h. apart e) (λ w. is.0 here, λ h. was) (λ at. refl)

pub moved_anew : (t now next : ClaimSource → List ℕ) (block : ℕ) (touch : Touch) (has : Bool) → Decides has (IsClaimedBy now touch.level touch.fragment) → has ≡ true
    → ((at : ℕ) → next (Pointer touch.fragment touch.level at) ≡ t (Pointer touch.fragment touch.level at)) → IsMoved t now next block touch
moved_anew t now next block touch has is here all = anew (is.0 here) all
