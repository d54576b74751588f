-- Members that fall, boundaries that are lost, and blocks that are gone. A library for the crates above.
use Rattle.std.proofs.Common.{◌≡◌, ◌<◌, ◌≤◌, ◌+◌, ◌*◌, ◌⊎◌, inl, inr, ℕ, Bool, true, false, not, List, [], ◌∷◌, refl, sym, subst, ◌∙◌, ap, arith}
use Rattle.std.specs.List.{range_with_len}
use Rattle.std.proofs.lemmas.Bool.{and_from, and_parts, both_ways, cases_Bool, cases_lt, cases_order, false≢true, not-true}
use Rattle.std.proofs.lemmas.List.Folds.{Any-from_list_any, list_any_at}
use Rattle.std.proofs.lemmas.List.FromFn.{get_or-range_with_len, length-range_with_len}
use Rattle.dg_model.specs.Causes.{NoneRose, Rose}
use Rattle.dg_model.specs.Members.{IsStruck, MembersFall, is_filling, is_good, is_lost, partner_of}
use Rattle.dg_model.specs.Sites.{all_lost, has_site, is_gone}
use Rattle.dg_model.specs.States.{IsLeastLost, has_lost}
use Rattle.dg_model.specs.Tables.{Table, least_upto, sites_in}
use Rattle.dg_model.specs.declared.members.MemberState.{MemberState}
use Rattle.dg_model.specs.declared.members.MemberState.TheVariants.{Out}
use Rattle.dg_model.specs.declared.shapes.Shape.{Shape}
use Rattle.dg_model.specs.declared.sites.Site.{Site}
use Rattle.dg_model.proofs.FreeLaws.{least_below, least_there}

-- ---- counts of faults

-- no count fell
abbrev pub NoneFell : (ℕ → ℕ) → (ℕ → ℕ) → Type 0
NoneFell before now = (q : ℕ) → before q ≤ now q

pub rose_before : (a b c : ℕ) → a ≤ b → Rose b c → Rose a c
rose_before a b c low rose = omega (arith, low, rose)

pub rose_after : (a b c : ℕ) → Rose a b → b ≤ c → Rose a c
rose_after a b c rose low = omega (arith, rose, low)

pub none_front : (a b c : ℕ → ℕ) → NoneFell b c → NoneRose a c → NoneRose a b
none_front a b c rises none q rose = none q (rose_after (a q) (b q) (c q) rose (rises q))

pub none_back : (a b c : ℕ → ℕ) → NoneFell a b → NoneRose a c → NoneRose b c
none_back a b c rises none q rose = none q (rose_before (a q) (b q) (c q) (rises q) rose)

-- ---- members that fall

pub falls_same : (before now : ℕ → ℕ) (members : ℕ → MemberState) → MembersFall before now members members
falls_same before now members q = inl refl

-- one after another
pub falls_both : (a b c : ℕ → ℕ) (old mid new : ℕ → MemberState) → NoneFell a b → NoneFell b c → MembersFall a b old mid → MembersFall b c mid new
    → MembersFall a c old new
falls_both a b c old mid new first second one other q = elim (other q) [
  | inl same ↦ elim (one q) [
    | inl still ↦ inl (same ∙ still)
    | inr fell ↦ inr (record { out = same ∙ fell.out; caused = before fell.caused })
  ]
  | inr fell ↦ elim (one q) [
    | inl still ↦ inr (record { out = fell.out; caused = later still fell.caused })
    | inr early ↦ inr (record { out = fell.out; caused = before early.caused })
  ]
]
  where
    out_stays : (p : ℕ) → mid p ≡ Out → new p ≡ Out
    out_stays p out = elim (other p) [ inl same ↦ same ∙ out | inr fell ↦ fell.out ]

    before : Rose (a q) (b q) ⊎ ((is_filling (old q) ≡ true) × (mid (partner_of q) ≡ Out)) → Rose (a q) (c q) ⊎ ((is_filling (old q) ≡ true) × (new (partner_of q) ≡ Out))
    before h = elim h [
      | inl rose ↦ inl (rose_after (a q) (b q) (c q) rose (second q))
      | inr left ↦ inr (left.0, out_stays (partner_of q) left.1)
    ]

    later : mid q ≡ old q → Rose (b q) (c q) ⊎ ((is_filling (mid q) ≡ true) × (new (partner_of q) ≡ Out)) → Rose (a q) (c q) ⊎ ((is_filling (old q) ≡ true) × (new (partner_of q) ≡ Out))
    later still h = elim h [
      | inl rose ↦ inl (rose_before (a q) (b q) (c q) (first q) rose)
      | inr left ↦ inr (ap is_filling (sym still) ∙ left.0, left.1)
    ]

not_good : (state : MemberState) → state ≡ Out → is_good state ≡ false
not_good state out = ap is_good out

-- a member that isn't good stays so
pub good_was : (before now : ℕ → ℕ) (old new : ℕ → MemberState) (q : ℕ) → MembersFall before now old new → is_good (new q) ≡ true → is_good (old q) ≡ true
good_was before now old new q falls good = elim (falls q) [
  | inl same ↦ ap is_good (sym same) ∙ good
  | inr fell ↦ absurd (false≢true (sym (ap is_good fell.out) ∙ good))
]

-- where no count of faults rose and no member was refilled, each stays as it was
pub stays_where_none : (before now : ℕ → ℕ) (old new : ℕ → MemberState) → NoneRose before now → ((q : ℕ) → is_filling (old q) ≡ false) → MembersFall before now old new
    → (q : ℕ) → new q ≡ old q
stays_where_none before now old new none whole falls q = elim (falls q) [
  | inl same ↦ same
  | inr fell ↦ elim fell.caused [
    | inl rose ↦ absurd (none q rose)
    | inr left ↦ absurd (false≢true (sym (whole q) ∙ left.0))
  ]
]

-- ---- members made to fail

pub struck_good_was : (q : ℕ) (old new : ℕ → MemberState) (p : ℕ) → IsStruck q old new → is_good (new p) ≡ true → is_good (old p) ≡ true
struck_good_was q old new p struck good = elim (cases_order p q) [
  | inl same ↦ absurd (false≢true (sym (ap (λ k. is_good (new k)) same ∙ ap is_good struck.out) ∙ good))
  | inr apart ↦ elim (struck.others p (λ e. elim apart [ inl low ↦ omega (arith, e, low) | inr high ↦ omega (arith, e, high) ])) [
    | inl same ↦ ap is_good (sym same) ∙ good
    | inr left ↦ absurd (false≢true (sym (ap is_good left.1) ∙ good))
  ]
]

-- ---- lost boundaries

-- no member became good
abbrev pub NoneRecovers : (ℕ → MemberState) → (ℕ → MemberState) → Type 0
NoneRecovers old new = (q : ℕ) → is_good (new q) ≡ true → is_good (old q) ≡ true

not_by : (x y : Bool) → (y ≡ true → x ≡ true) → not x ≡ true → not y ≡ true
not_by x true back e = absurd (both_ways x (not-true x e) (back refl))
not_by x false back e = refl

-- a lost boundary stays lost
pub lost_stays : (old new : ℕ → MemberState) (s : ℕ) → NoneRecovers old new → is_lost old s ≡ true → is_lost new s ≡ true
lost_stays old new s back lost =
    let parts = and_parts (not (is_good (old (2 * s)))) (not (is_good (old (2 * s + 1)))) lost in
    and_from (not (is_good (new (2 * s)))) (not (is_good (new (2 * s + 1))))
    (not_by (is_good (old (2 * s))) (is_good (new (2 * s))) (back (2 * s)) parts.0)
    (not_by (is_good (old (2 * s + 1))) (is_good (new (2 * s + 1))) (back (2 * s + 1)) parts.1)

pub all_lost_stays : (old new : ℕ → MemberState) (sites : List Site) → NoneRecovers old new → all_lost old sites ≡ true → all_lost new sites ≡ true
all_lost_stays old new [] back lost = refl
all_lost_stays old new (site ∷ sites) back lost =
    let parts = and_parts (is_lost old site.boundary) (all_lost old sites) lost in
    and_from (is_lost new site.boundary) (all_lost new sites) (lost_stays old new site.boundary back parts.0) (all_lost_stays old new sites back parts.1)

-- a gone block stays gone
pub gone_stays : (table : Table) (old new : ℕ → MemberState) (b : ℕ) → NoneRecovers old new → is_gone table old b ≡ true → is_gone table new b ≡ true
gone_stays table old new b back gone =
    let parts = and_parts (has_site (sites_in table b)) (all_lost old (sites_in table b)) gone in
    and_from (has_site (sites_in table b)) (all_lost new (sites_in table b)) parts.0 (all_lost_stays old new (sites_in table b) back parts.1)

-- ---- the least lost boundary

pub has_lost_at : (shape : Shape) (members : ℕ → MemberState) (s : ℕ) → s < shape.b → is_lost members s ≡ true → has_lost shape members ≡ true
has_lost_at shape members s low lost =
    list_any_at (λ t. is_lost members t) (range_with_len 0 shape.b) s 0 (omega (arith, low, length-range_with_len 0 shape.b))
    (ap (λ t. is_lost members t) (get_or-range_with_len 0 shape.b s 0 low ∙ omega arith) ∙ lost)

pub has_lost_from : (shape : Shape) (members : ℕ → MemberState) → has_lost shape members ≡ true → (s : ℕ) × (s < shape.b) × (is_lost members s ≡ true)
has_lost_from shape members e =
    let found = Any-from_list_any (λ t. is_lost members t) (range_with_len 0 shape.b) e in
    let low : found.0 < shape.b = omega (arith, found.2, length-range_with_len 0 shape.b) in
    let at : found.1 ≡ found.0 = sym found.3 ∙ get_or-range_with_len 0 shape.b found.0 found.1 low ∙ omega arith in
    (found.0, low, subst (λ k. is_lost members k ≡ true) at found.4)

pub least_lost_is : (shape : Shape) (members : ℕ → MemberState) (s : ℕ) → IsLeastLost shape members s → has_lost shape members ≡ true
least_lost_is shape members s is = has_lost_at shape members s is.within is.lost

-- where no boundary is lost, none of them is
pub none_lost : (shape : Shape) (members : ℕ → MemberState) (s : ℕ) → has_lost shape members ≡ false → s < shape.b → is_lost members s ≡ false
none_lost shape members s whole low = elim (cases_Bool (is_lost members s)) [
  | inl lost ↦ absurd (false≢true (sym whole ∙ has_lost_at shape members s low lost))
  | inr fine ↦ fine
]

-- where each boundary isn't lost, none is
pub whole_from : (shape : Shape) (members : ℕ → MemberState) → ((s : ℕ) → s < shape.b → is_lost members s ≡ false) → has_lost shape members ≡ false
whole_from shape members fine = elim (cases_Bool (has_lost shape members)) [
  | inl lost ↦ absurd (let found = has_lost_from shape members lost in false≢true (sym (fine found.0 found.1) ∙ found.2))
  | inr whole ↦ whole
]

pub one_least_lost : (shape : Shape) (members : ℕ → MemberState) (s t : ℕ) → IsLeastLost shape members s → IsLeastLost shape members t → s ≡ t
one_least_lost shape members s t a b = elim (cases_order s t) [
  | inl same ↦ same
  | inr apart ↦ elim apart [
    | inl low ↦ absurd (false≢true (sym (b.least s low) ∙ a.lost))
    | inr high ↦ absurd (false≢true (sym (a.least t high) ∙ b.lost))
  ]
]

-- where some boundary is lost, one is the least
pub least_lost_from : (shape : Shape) (members : ℕ → MemberState) → has_lost shape members ≡ true → (s : ℕ) × IsLeastLost shape members s
least_lost_from shape members lost =
    let some = has_lost_from shape members lost in
    let found = least_upto shape.b (is_lost members) in
    let low : least_upto shape.b (is_lost members) < shape.b = elim (cases_lt found shape.b) [
      | inl low ↦ low
      | inr high ↦ absurd (false≢true (sym (least_below shape.b (is_lost members) some.0 (omega (arith, high, some.1))) ∙ some.2))
    ] in
    (found, record { within = low; lost = least_there shape.b (is_lost members) low; least = λ t less. least_below shape.b (is_lost members) t less })
