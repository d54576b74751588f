-- How lists gain the fragments that belong to an inode.
use Rattle.std.proofs.Common.{◌≡◌, ℕ, suc, ◌+◌, ◌-◌, ◌/◌, ◌<◌, ◌≤◌, ◌⊎◌, ◌↔◌, ◌++◌, inl, inr, List, [], ◌∷◌, Bool, true, false, not, Option, Some, None, Result, Ok, Err, Contains, zero, cond, length, slice_index, refl, sym, ◌∙◌, subst, arith}
use Rattle.std.proofs.lemmas.Bool.{cases_eq, false≢true}
use Rattle.std.proofs.lemmas.List.Elements.{Contains-append_cases, Contains-append_left, Contains-append_right, Contains-get_or, Contains-push, Contains-push_cases, at_from_Contains}
use Rattle.std.specs.Bool.{Decides}
use Rattle.std.specs.Option.{is_some}
use Rattle.std.specs.Prelude.{IfNone, IfSome, OnOk}
use Rattle.ufs_model.specs.Claims.{fragments_from, level_of}
use Rattle.ufs_model.specs.Owners.{IsOwner}
use Rattle.ufs_model.specs.Owners.IsOwner.{by_own_slot, by_upper}
use Rattle.ufs_model.specs.declared.claims.ClaimSource.{ClaimSource}
use Rattle.ufs_model.specs.declared.claims.ClaimSource.TheVariants.{Slot, Pointer}
use Rattle.ufs_model.specs.declared.geometries.Geometry.{Geometry}
use Rattle.dg_claims.specs.Kept.{KeptClaims, table_of}
use Rattle.dg_claims.specs.Tables.{IsSource, TableClaims}
use Rattle.dg_model.specs.declared.wants.Want.TheVariants.{File}
use Rattle.dg_infer.proofs.ListLaws.{contains_none}
use Rattle.dg_infer.specs.Files.{Gains, IsOfPointer, IsOfSlot, IsOwnedAt, IsSoleSource}
use Rattle.dg_infer.specs.Known.{is_system_by}
use Rattle.dg_infer.specs.Meanings.{KeptInference}
use Rattle.dg_infer.specs.Wants.{IsOfBy, IsRegularBy, IsWantBy}

-- ---- lists

pub gains_none : (xs : List ℕ) (P : ℕ → Type 0) → ((f : ℕ) → P f → ⊥) → Gains xs xs P
gains_none xs P none = record { kept = λ f h. h; gained = λ f h. absurd (none f h); only = λ f h. inl h }

-- one gain after another, of all that either gains
pub gains_more : (old mid new : List ℕ) (P Q R : ℕ → Type 0) → Gains old mid P → Gains mid new Q → ((f : ℕ) → P f → R f) → ((f : ℕ) → Q f → R f) → ((f : ℕ) → R f → P f ⊎ Q f)
    → Gains old new R
gains_more old mid new P Q R one two first second either = record {
  kept = λ f h. two.kept f (one.kept f h);
  gained = λ f h. elim (either f h) [ inl p ↦ two.kept f (one.gained f p) | inr q ↦ two.gained f q ];
  only = λ f h. elim (two.only f h) [
    | inl m ↦ elim (one.only f m) [ inl o ↦ inl o | inr p ↦ inr (first f p) ]
    | inr q ↦ inr (second f q)
  ];
}

-- the same gain, in other words
pub gains_as : (old new : List ℕ) (P Q : ℕ → Type 0) → Gains old new P → ((f : ℕ) → P f → Q f) → ((f : ℕ) → Q f → P f) → Gains old new Q
gains_as old new P Q gains there back = record {
  kept = gains.kept;
  gained = λ f q. gains.gained f (back f q);
  only = λ f h. elim (gains.only f h) [ inl o ↦ inl o | inr p ↦ inr (there f p) ];
}

-- ---- sources

pub sole_some : (kept : KeptClaims) (f : ℕ) (source sole : ClaimSource) → TableClaims (table_of kept) f source → IsSoleSource kept sole f → IsSoleSource kept source f
sole_some kept f source sole claim is = subst (λ (s : ClaimSource). IsSoleSource kept s f) (sym (is.only source claim)) is

pub sole_cases : (kept : KeptClaims) (f : ℕ) (r : Option ClaimSource) → IfSome r (λ sole. IsSoleSource kept sole f) → IfNone r ((source : ClaimSource) → IsSoleSource kept source f → ⊥)
    → (source : ClaimSource) → TableClaims (table_of kept) f source → Decides (is_some r) (IsSoleSource kept source f)
sole_cases kept f (Some sole) some none source claim = (λ is. sole_some kept f source sole claim some, λ only. refl)
sole_cases kept f None some none source claim = (λ is. absurd (false≢true is), λ only. absurd (none source only))

pub slot_below : (g : Option Geometry) (inode slot : ℕ) → IsSource g (Slot inode slot) → slot < 15
slot_below None inode slot is = absurd is
slot_below (Some g) inode slot is = is.2

pub pointer_below : (g : Geometry) (upper level at : ℕ) → IsSource (Some g) (Pointer upper level at) → at < g.fsize / 4
pointer_below g upper level at is = is.2

pub pointer_level : (g : Option Geometry) (upper level at : ℕ) → IsSource g (Pointer upper level at) → 1 ≤ level
pointer_level None upper level at is = absurd is
pointer_level (Some g) upper level at is = is.0

pub no_source : (g : Option Geometry) (source : ClaimSource) → g ≡ None → IsSource g source → ⊥
no_source None source e is = is
no_source (Some g) source e is = cc

-- ---- owners

-- the level of an owner's claim is that of the fragment's one source
pub owned_level : (claims : ℕ → ClaimSource → Type 0) (f inode level : ℕ) → IsOwner claims f inode level → (source : ClaimSource) × claims f source × (level_of source ≡ level)
owned_level claims f inode level (by_own_slot only is) = (_, only.claim, is)
owned_level claims f inode level (by_upper only is above) = (_, only.claim, is)

-- a fragment of an inode is that of a slot, or of a pointer in one at the level above
pub owned_cases : (kept : KeptClaims) (inode level f : ℕ) → ((source : ClaimSource) → TableClaims (table_of kept) f source → IsSource kept.geometry source)
    → IsOwnedAt kept inode level f → IsOfSlot kept inode level f ⊎ ((upper : ℕ) × IsOwnedAt kept inode (level + 1) upper × IsOfPointer kept upper (level + 1) f)
owned_cases kept inode level f sources (by_own_slot {slot = slot} only is) = inl (slot, is, only)
owned_cases kept inode level f sources (by_upper {upper = upper} {at = at} {above = above} only is owner) =
    let low : 1 ≤ above = pointer_level kept.geometry upper above at (sources (Pointer upper above at) only.claim) in
    let e : above ≡ level + 1 = omega (arith, low, is) in
    inr (upper, subst (λ (n : ℕ). IsOwnedAt kept inode n upper) e owner, subst (λ (n : ℕ). IsOfPointer kept upper n f) e (at, only))

pub owned_slot : (kept : KeptClaims) (inode level f : ℕ) → IsOfSlot kept inode level f → IsOwnedAt kept inode level f
owned_slot kept inode level f (slot, is, only) = by_own_slot only is

pub owned_pointer : (kept : KeptClaims) (inode level upper f : ℕ) → IsOwnedAt kept inode (level + 1) upper → IsOfPointer kept upper (level + 1) f → IsOwnedAt kept inode level f
owned_pointer kept inode level upper f owner (at, only) =
    let e : level_of (Pointer upper (level + 1) at) ≡ level = omega arith in by_upper only e owner

-- ---- steps of the loops

-- a number that is put where it is wanted
pub gains_put : (old new : List ℕ) (n : ℕ) (wanted : Bool) (P : ℕ → Type 0) → new ≡ cond wanted (old ++ n ∷ []) old → Decides wanted (P n) → Gains old new (λ f. (f ≡ n) × P f)
gains_put old new n true P e is = subst (λ (xs : List ℕ). Gains old xs (λ f. (f ≡ n) × P f)) (sym e) (record {
  kept = λ f h. Contains-append_left old (n ∷ []) f h;
  gained = λ f h. subst (λ (x : ℕ). Contains (old ++ n ∷ []) x) (sym (h.0)) (Contains-push old n);
  only = λ f h. elim (Contains-push_cases old n f h) [ inl o ↦ inl o | inr same ↦ inr (sym same, subst P same (is.0 refl)) ];
})
gains_put old new n false P e is = subst (λ (xs : List ℕ). Gains old xs (λ f. (f ≡ n) × P f)) (sym e)
    (gains_none old (λ f. (f ≡ n) × P f) (λ f h. false≢true (is.1 (subst P (h.0) (h.1)))))

-- the fragments of a run up to a place, and the one at it
pub gains_run : (old mid new : List ℕ) (first i : ℕ) (P : ℕ → Type 0) → Gains old mid (λ f. (first ≤ f) × (f < first + i) × P f) → Gains mid new (λ f. (f ≡ first + i) × P f)
    → Gains old new (λ f. (first ≤ f) × (f < first + (i + 1)) × P f)
gains_run old mid new first i P one two =
    gains_more old mid new (λ f. (first ≤ f) × (f < first + i) × P f) (λ f. (f ≡ first + i) × P f) (λ f. (first ≤ f) × (f < first + (i + 1)) × P f) one two
    (λ f h. (h.0, omega (arith, h.1), h.2))
    (λ f h. (omega (arith, h.0), omega (arith, h.0), h.1))
    (λ f h. elim (cases_eq f (first + i)) [ inl e ↦ inr (e, h.2) | inr ne ↦ inl (h.0, omega (arith, h.1, ne), h.2) ])

-- what the kinds of numbers below a place gain, and the one at it
pub gains_next : (old mid new : List ℕ) (i : ℕ) (P : ℕ → ℕ → Type 0) → Gains old mid (λ f. (k : ℕ) × (k < i) × P k f) → Gains mid new (P i) → Gains old new (λ f. (k : ℕ) × (k < i + 1) × P k f)
gains_next old mid new i P one two =
    gains_more old mid new (λ f. (k : ℕ) × (k < i) × P k f) (P i) (λ f. (k : ℕ) × (k < i + 1) × P k f) one two
    (λ f h. (h.0, omega (arith, h.1), h.2))
    (λ f h. (i, omega arith, h))
    (λ f h. elim (cases_eq (h.0) i) [ inl e ↦ inr (subst (λ (k : ℕ). P k f) e (h.2)) | inr ne ↦ inl (h.0, omega (arith, h.1, ne), h.2) ])

-- the same behind what was gained before
pub gains_after : (old mid new : List ℕ) (i : ℕ) (Q : ℕ → Type 0) (P : ℕ → ℕ → Type 0) → Gains old mid (λ f. Q f ⊎ ((k : ℕ) × (k < i) × P k f)) → Gains mid new (P i)
    → Gains old new (λ f. Q f ⊎ ((k : ℕ) × (k < i + 1) × P k f))
gains_after old mid new i Q P one two =
    gains_more old mid new (λ f. Q f ⊎ ((k : ℕ) × (k < i) × P k f)) (P i) (λ f. Q f ⊎ ((k : ℕ) × (k < i + 1) × P k f)) one two
    (λ f h. elim h [ inl q ↦ inl q | inr p ↦ inr (p.0, omega (arith, p.1), p.2) ])
    (λ f h. inr (i, omega arith, h))
    (λ f h. elim h [
      | inl q ↦ inl (inl q)
      | inr p ↦ elim (cases_eq (p.0) i) [ inl e ↦ inr (subst (λ (k : ℕ). P k f) e (p.2)) | inr ne ↦ inl (inr (p.0, omega (arith, p.1, ne), p.2)) ]
    ])

-- the same of a call in tail position
pub gains_as_ok : {E : Type 0} (r : Result (Unit {0}) E) (old new : List ℕ) (P Q : ℕ → Type 0) → OnOk r (Gains old new P) → ((f : ℕ) → P f → Q f) → ((f : ℕ) → Q f → P f) → OnOk r (Gains old new Q)
gains_as_ok (Ok u) old new P Q gains there back = gains_as old new P Q gains there back
gains_as_ok (Err e) old new P Q gains there back = gains

-- the fragments of a run
pub from_contains : (k a f : ℕ) → a ≤ f → f < a + k → Contains (fragments_from a k) f
from_contains zero a f low high = absurd (omega (arith, low, high))
from_contains (suc k) a f low high = elim (cases_eq f a) [
  | inl e ↦ subst (λ (x : ℕ). Contains (a ∷ fragments_from (suc a) k) x) (sym e) (Contains-append_left (a ∷ []) (fragments_from (suc a) k) a (Contains-push [] a))
  | inr ne ↦ Contains-append_right (a ∷ []) (fragments_from (suc a) k) f (from_contains k (suc a) f (omega (arith, low, ne)) (omega (arith, high)))
]

-- a list of those of slots, and of those of pointers in fragments of the level above, is that of all
pub owned_list : (kept : KeptClaims) (inode level : ℕ) (uppers owned : List ℕ) (n : ℕ)
    → ((f : ℕ) (source : ClaimSource) → TableClaims (table_of kept) f source → IsSource kept.geometry source)
    → ((f : ℕ) → Contains uppers f ↔ IsOwnedAt kept inode (level + 1) f) → n ≡ length uppers
    → Gains [] owned (λ f. IsOfSlot kept inode level f ⊎ ((k : ℕ) × (k < n) × IsOfPointer kept (slice_index uppers k) (level + 1) f))
    → (f : ℕ) → Contains owned f ↔ IsOwnedAt kept inode level f
owned_list kept inode level uppers owned n sources above all gains f = (
  λ has. elim (gains.only f has) [
    | inl none ↦ absurd (contains_none f none)
    | inr either ↦ elim either [
      | inl slot ↦ owned_slot kept inode level f slot
      | inr p ↦ owned_pointer kept inode level (slice_index uppers (p.0)) f ((above (slice_index uppers (p.0))).0 (Contains-get_or uppers (p.0) 0 (omega (arith, all, p.1)))) (p.2)
    ]
  ],
  λ owner. elim (owned_cases kept inode level f (sources f) owner) [
    | inl slot ↦ gains.gained f (inl slot)
    | inr p ↦
        let at = at_from_Contains uppers (p.0) ((above (p.0)).1 (p.1)) in
        gains.gained f (inr (at.0, omega (arith, all, at.1), subst (λ (u : ℕ). IsOfPointer kept u (level + 1) f) (sym (at.2 0)) (p.2)))
  ],
)

too_high : (kept : KeptClaims) (inode level f : ℕ) → ((f : ℕ) (source : ClaimSource) → TableClaims (table_of kept) f source → level_of source ≤ 3) → 4 ≤ level → IsOwnedAt kept inode level f → ⊥
too_high kept inode level f levels high owner =
    let found = owned_level (TableClaims (table_of kept)) f inode level owner in
    let low = levels f (found.0) (found.1) in
    omega (arith, low, high, found.2)

pub uppers_none : (kept : KeptClaims) (inode : ℕ) (uppers : List ℕ) → uppers ≡ [] → ((f : ℕ) (source : ClaimSource) → TableClaims (table_of kept) f source → level_of source ≤ 3)
    → (f : ℕ) → Contains uppers f ↔ IsOwnedAt kept inode 4 f
uppers_none kept inode uppers e levels f = (
  λ has. absurd (contains_none f (subst (λ (xs : List ℕ). Contains xs f) e has)),
  λ owner. absurd (too_high kept inode 4 f levels (omega arith) owner),
)

pub all_none : (kept : KeptClaims) (inode : ℕ) (all : List ℕ) → all ≡ [] → ((f : ℕ) (source : ClaimSource) → TableClaims (table_of kept) f source → level_of source ≤ 3)
    → (f : ℕ) → Contains all f ↔ ((level : ℕ) × (4 ≤ level + 0) × IsOwnedAt kept inode level f)
all_none kept inode all e levels f = (
  λ has. absurd (contains_none f (subst (λ (xs : List ℕ). Contains xs f) e has)),
  λ h. absurd (too_high kept inode (h.0) f levels (omega (arith, h.1)) (h.2)),
)

pub all_more : (kept : KeptClaims) (inode done : ℕ) (all owned more : List ℕ) → done ≤ 3 → more ≡ all ++ owned
    → ((f : ℕ) → Contains all f ↔ ((level : ℕ) × (4 ≤ level + done) × IsOwnedAt kept inode level f))
    → ((f : ℕ) → Contains owned f ↔ IsOwnedAt kept inode (3 - done) f)
    → (f : ℕ) → Contains more f ↔ ((level : ℕ) × (4 ≤ level + (done + 1)) × IsOwnedAt kept inode level f)
all_more kept inode done all owned more low e old here f = (
  λ has. elim (Contains-append_cases all owned f (subst (λ (xs : List ℕ). Contains xs f) e has)) [
    | inl h ↦ let o = (old f).0 h in (o.0, omega (arith, o.1), o.2)
    | inr h ↦ (3 - done, omega (arith, low), (here f).0 h)
  ],
  λ h. subst (λ (xs : List ℕ). Contains xs f) (sym e) (elim (cases_eq (h.0) (3 - done)) [
    | inl same ↦ Contains-append_right all owned f ((here f).1 (subst (λ (n : ℕ). IsOwnedAt kept inode n f) same (h.2)))
    | inr ne ↦ Contains-append_left all owned f ((old f).1 (h.0, omega (arith, h.1, ne, low), h.2))
  ]),
)

pub all_owned : (kept : KeptClaims) (inode done : ℕ) (all : List ℕ) → 4 ≤ done → ((f : ℕ) → Contains all f ↔ ((level : ℕ) × (4 ≤ level + done) × IsOwnedAt kept inode level f))
    → (f : ℕ) → Contains all f ↔ ((level : ℕ) × IsOwnedAt kept inode level f)
all_owned kept inode done all high old f = (λ has. let o = (old f).0 has in (o.0, o.2), λ h. (old f).1 (h.0, omega (arith, high), h.1))

-- those of a list, up to a place, that pass a test
pub gains_tested : (xs ys : List ℕ) (test : ℕ → Bool) (n : ℕ) → n ≡ length xs → Gains [] ys (λ b. (k : ℕ) × (k < n) × ((b ≡ slice_index xs k) × (test b ≡ false)))
    → (b : ℕ) → Contains ys b ↔ (Contains xs b × (test b ≡ false))
gains_tested xs ys test n all gains b = (
  λ has. elim (gains.only b has) [
    | inl none ↦ absurd (contains_none b none)
    | inr p ↦ (subst (λ (x : ℕ). Contains xs x) (sym (p.2.0)) (Contains-get_or xs (p.0) 0 (omega (arith, all, p.1))), p.2.1)
  ],
  λ both.
      let at = at_from_Contains xs b (both.0) in
      gains.gained b (at.0, omega (arith, all, at.1), (sym (at.2 0), both.1)),
)

pub not_decides : (b is : Bool) → b ≡ is → Decides (not b) (is ≡ false)
not_decides true is e = (λ t. absurd (false≢true t), λ f. absurd (false≢true (sym f ∙ sym e)))
not_decides false is e = (λ t. sym e, λ f. refl)

-- ---- the blocks of a file

pub blocks_are : (kept : KeptInference) (inode : ℕ) (owned plain blocks : List ℕ) → IsRegularBy kept inode → ((b : ℕ) → Contains owned b ↔ IsOfBy kept b inode)
    → ((b : ℕ) → Contains plain b ↔ (Contains owned b × (is_system_by kept.geometry b ≡ false))) → ((b : ℕ) → Contains blocks b ↔ Contains plain b)
    → (b : ℕ) → Contains blocks b ↔ IsWantBy kept b (File inode)
blocks_are kept inode owned plain blocks regular own apart same b = (
  λ has. let both = (apart b).0 ((same b).0 has) in (both.1, (own b).0 (both.0), regular),
  λ want. (same b).1 ((apart b).1 ((own b).1 (want.1), want.0)),
)
