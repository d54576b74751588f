-- The sources of a fragment, in the order of claims, and its owner.
use Rattle.std.proofs.Common.{◌≡◌, ℕ, zero, suc, ◌↔◌, ◌∙◌, inl, inr, List, [], ◌∷◌, All, Contains, Option, Some, None, IfSome, IfNone, length, map, true, refl, sym, ap, subst, arith, Less}
use Rattle.std.specs.List.{AllPairs}
use Rattle.std.specs.Prelude.{option_map, slice_get}
use Rattle.std.proofs.lemmas.Bool.Decides.{nat_tests}
use Rattle.std.proofs.lemmas.List.Elements.{All-cons, All-nil}
use Rattle.std.proofs.lemmas.List.Kept.{AllPairs-cons}
use Rattle.ufs_model.specs.Claims.{AreClaimsOn, HasClaimCount, is_earlier_claim, level_of}
use Rattle.ufs_model.specs.Owners.{IsOnlyClaim, IsOwner, by_own_slot, by_upper}
use Rattle.ufs_model.specs.declared.claims.ClaimSource.{ClaimSource}
use Rattle.ufs_model.specs.declared.claims.ClaimSource.TheVariants.{Slot, Pointer}
use Rattle.ufs_model.specs.declared.geometries.Geometry.{Geometry}
use Rattle.dg_claims.proofs.ListLaws.{contains_cons, contains_none}
use Rattle.dg_claims.proofs.MarkLaws.{AreLeveled, leveled_rest}
use Rattle.dg_claims.proofs.OrderLaws.{earlier, not_before_itself}
use Rattle.dg_claims.proofs.SourceLaws.{by_place, place_is, source_is}
use Rattle.dg_claims.specs.Kept.{IsKept, IsRun, IsPlace, KeptClaims, claimed_by, kept_of, size_in, table_of}
use Rattle.dg_claims.specs.Marks.{AreOrdered, all_on, marked_on, place_in}
use Rattle.dg_claims.specs.Places.{mark_cmp, mark_of, place_of, source_of}
use Rattle.dg_claims.specs.Runs.{run_at, run_fragments}
use Rattle.dg_claims.specs.Tables.{IsSource, TableClaims, claim_at, with_level}
use Rattle.dg_claims.specs.declared.claims.Claims.TheInside.{Inside}
use Rattle.dg_claims.specs.declared.places.Mark.{Mark}
use Rattle.dg_claims.specs.declared.places.Place.{Place}
use Rattle.dg_claims.specs.declared.runs.Run.{Run}

-- ---- all sources of a fragment

contains_sources : (places : List Place) (source : ClaimSource) → Contains (map source_of places) source ↔ Contains places (place_of source)
contains_sources [] source = (λ has. absurd (contains_none source has), λ has. absurd (contains_none (place_of source) has))
contains_sources (p ∷ ps) source =
    let rest = contains_sources ps source in
    let kept = contains_cons p ps (place_of source) in
    let told = contains_cons (source_of p) (map source_of ps) source in (
      λ has. kept.1 (elim (told.0 has) [ inl e ↦ inl (ap place_of e ∙ place_is p) | inr h ↦ inr (rest.0 h) ]),
      λ has. told.1 (elim (kept.0 has) [ inl e ↦ inl (sym (source_is source) ∙ ap source_of e) | inr h ↦ inr (rest.1 h) ]),
    )

-- a source claims the fragment where it is marked there
pub claims_marked : (inside : Inside) (kept : KeptClaims) (fragment : ℕ) (source : ClaimSource) → kept_of inside ≡ kept → IsKept inside
    → Contains (marked_on inside.marks fragment) (place_of source) ↔ Contains (claimed_by kept.runs source) fragment
claims_marked inside kept fragment source view is =
    subst (λ (xs : List ℕ). Contains (marked_on inside.marks fragment) (place_of source) ↔ Contains xs fragment) (sym (by_place kept.runs source))
    (subst (λ (k : KeptClaims). Contains (marked_on inside.marks fragment) (place_of source) ↔ Contains (run_fragments (run_at k.runs (place_of source))) fragment) view
    (is.marked fragment (place_of source)))

-- ---- their order

earlier_marks : (m n : Mark) → m ≡ mark_of m.place → n ≡ mark_of n.place → mark_cmp m n ≡ Less → is_earlier_claim (source_of m.place) (source_of n.place) ≡ true
earlier_marks m n is other less =
    earlier m.place n.place (subst (λ k. mark_cmp k (mark_of n.place) ≡ Less) is (subst (λ k. mark_cmp m k ≡ Less) other less))

all_later : (m : Mark) (ms : List Mark) → m ≡ mark_of m.place → AreLeveled ms → ((other : Mark) → Contains ms other → mark_cmp m other ≡ Less)
    → All (λ s. is_earlier_claim (source_of m.place) s ≡ true) (map source_of (map place_in ms))
all_later m [] is leveled before = All-nil (λ s. is_earlier_claim (source_of m.place) s ≡ true)
all_later m (n ∷ ms) is leveled before =
    let here = (contains_cons n ms n).1 (inl refl) in
    All-cons (λ s. is_earlier_claim (source_of m.place) s ≡ true) (source_of n.place) (map source_of (map place_in ms))
    (earlier_marks m n is (leveled n here) (before n here))
    (all_later m ms is (leveled_rest n ms leveled) (λ other has. before other ((contains_cons n ms other).1 (inr has))))

in_their_order : (ms : List Mark) → AreOrdered ms → AreLeveled ms → AllPairs (λ one other. is_earlier_claim one other ≡ true) (map source_of (map place_in ms))
in_their_order [] ordered leveled = λ i j d lt less. absurd (omega (arith, less))
in_their_order (m ∷ ms) ordered leveled =
    AllPairs-cons (λ one other. is_earlier_claim one other ≡ true) (source_of m.place) (map source_of (map place_in ms))
    (all_later m ms (leveled m ((contains_cons m ms m).1 (inl refl))) (leveled_rest m ms leveled) (ordered.0))
    (in_their_order ms (ordered.1) (leveled_rest m ms leveled))

listed : (inside : Inside) (kept : KeptClaims) (fragment : ℕ) → kept_of inside ≡ kept → IsKept inside
    → AreClaimsOn (TableClaims (table_of kept)) fragment (map source_of (marked_on inside.marks fragment))
listed inside kept fragment view is = record {
  each = λ source.
      let there = contains_sources (marked_on inside.marks fragment) source in
      let marked = claims_marked inside kept fragment source view is in
      (λ has. marked.0 (there.0 has), λ has. there.1 (marked.1 has));
  ordered = in_their_order (all_on inside.marks fragment) (is.marks.ordered fragment) (is.marks.leveled fragment);
}

length_sources : (places : List Place) → length (map source_of places) ≡ length places
length_sources [] = refl
length_sources (p ∷ ps) = ap suc (length_sources ps)

pub counted : (inside : Inside) (kept : KeptClaims) (fragment count : ℕ) → kept_of inside ≡ kept → IsKept inside → count ≡ length (marked_on inside.marks fragment)
    → HasClaimCount (TableClaims (table_of kept)) fragment count
counted inside kept fragment count view is number = record {
  sources = map source_of (marked_on inside.marks fragment);
  are = listed inside kept fragment view is;
  number = length_sources (marked_on inside.marks fragment) ∙ sym number;
}

-- ---- there is one list of them

never_both : (s t : ClaimSource) → is_earlier_claim s t ≡ true → is_earlier_claim t s ≡ true → ⊥
never_both (Slot i s) (Slot j t) one other = grind (arith, nat_tests)
never_both (Slot i s) (Pointer f l a) one other = grind (arith, nat_tests)
never_both (Pointer f l a) (Slot j t) one other = grind (arith, nat_tests)
never_both (Pointer f l a) (Pointer g k b) one other = grind (arith, nat_tests)

first_earlier : (s : ClaimSource) (ss : List ClaimSource) → AllPairs (λ one other. is_earlier_claim one other ≡ true) (s ∷ ss) → (t : ClaimSource) → Contains ss t → is_earlier_claim s t ≡ true
first_earlier s ss pairs t has =
    subst (λ u. is_earlier_claim s u ≡ true) (has.2) (pairs zero (suc (has.0)) t (omega arith) (let lt = has.1 in omega arith))

others_ordered : (s : ClaimSource) (ss : List ClaimSource) → AllPairs (λ one other. is_earlier_claim one other ≡ true) (s ∷ ss) → AllPairs (λ one other. is_earlier_claim one other ≡ true) ss
others_ordered s ss pairs i j d lt less = pairs (suc i) (suc j) d (omega (arith, lt)) (omega (arith, less))

same_rest : (s t : ClaimSource) (ss ts : List ClaimSource) → AllPairs (λ one other. is_earlier_claim one other ≡ true) (s ∷ ss) → s ≡ t
    → ((u : ClaimSource) → Contains (s ∷ ss) u → Contains (t ∷ ts) u) → (u : ClaimSource) → Contains ss u → Contains ts u
same_rest s t ss ts pairs same each u has = elim ((contains_cons t ts u).0 (each u ((contains_cons s ss u).1 (inr has)))) [
  | inl e ↦ let before = first_earlier s ss pairs u has in
      absurd (never_both s s (subst (λ x. is_earlier_claim s x ≡ true) (e ∙ sym same) before) (subst (λ x. is_earlier_claim s x ≡ true) (e ∙ sym same) before))
  | inr h ↦ h
]

one_list : (ss ts : List ClaimSource) → AllPairs (λ one other. is_earlier_claim one other ≡ true) ss → AllPairs (λ one other. is_earlier_claim one other ≡ true) ts
    → ((u : ClaimSource) → Contains ss u → Contains ts u) → ((u : ClaimSource) → Contains ts u → Contains ss u) → ss ≡ ts
one_list [] [] first second there back = refl
one_list [] (t ∷ ts) first second there back = absurd (contains_none t (back t ((contains_cons t ts t).1 (inl refl))))
one_list (s ∷ ss) [] first second there back = absurd (contains_none s (there s ((contains_cons s ss s).1 (inl refl))))
one_list (s ∷ ss) (t ∷ ts) first second there back =
    elim ((contains_cons t ts s).0 (there s ((contains_cons s ss s).1 (inl refl)))) [
      | inl e ↦
          let rest = one_list ss ts (others_ordered s ss first) (others_ordered t ts second) (same_rest s t ss ts first e there) (same_rest t s ts ss second (sym e) back) in
          ap (λ u. u ∷ ss) e ∙ ap (λ us. t ∷ us) rest
      | inr h ↦ elim ((contains_cons s ss t).0 (back t ((contains_cons t ts t).1 (inl refl)))) [
        | inl e ↦ let before = first_earlier t ts second s h in
            absurd (never_both t t (subst (λ u. is_earlier_claim t u ≡ true) (sym e) before) (subst (λ u. is_earlier_claim t u ≡ true) (sym e) before))
        | inr k ↦ absurd (never_both s t (first_earlier s ss first t k) (first_earlier t ts second s h))
      ]
    ]

pub same_claims : (claims : ℕ → ClaimSource → Type 0) (fragment : ℕ) (ss ts : List ClaimSource) → AreClaimsOn claims fragment ss → AreClaimsOn claims fragment ts → ss ≡ ts
same_claims claims fragment ss ts one other =
    one_list ss ts one.ordered other.ordered (λ u has. (other.each u).1 ((one.each u).0 has)) (λ u has. (one.each u).1 ((other.each u).0 has))

-- ---- a claim by its number

get_source : (places : List Place) (i : ℕ) → slice_get (map source_of places) i ≡ option_map source_of (slice_get places i)
get_source [] i = refl
get_source (p ∷ ps) zero = refl
get_source (p ∷ ps) (suc i) = get_source ps i

map_twice : (place : Option Place) → option_map with_level (option_map source_of place) ≡ option_map (λ p. with_level (source_of p)) place
map_twice None = refl
map_twice (Some place) = refl

pub claim_is : (inside : Inside) (kept : KeptClaims) (fragment i : ℕ) (place : Option Place) → kept_of inside ≡ kept → IsKept inside → place ≡ slice_get (marked_on inside.marks fragment) i
    → (sources : List ClaimSource) → AreClaimsOn (TableClaims (table_of kept)) fragment sources → option_map (λ p. with_level (source_of p)) place ≡ claim_at sources i
claim_is inside kept fragment i place view is at sources are =
    let marked = marked_on inside.marks fragment in
    ap (option_map (λ p. with_level (source_of p))) at ∙ sym (map_twice (slice_get marked i)) ∙ ap (option_map with_level) (sym (get_source marked i))
    ∙ ap (λ ss. claim_at ss i) (same_claims (TableClaims (table_of kept)) fragment (map source_of marked) sources (listed inside kept fragment view is) are)

pub told_claim : (place : Place) (source : ClaimSource) (level : ℕ) → source ≡ source_of place → level ≡ level_of source → Some (level, source) ≡ Some (with_level (source_of place))
told_claim place source level is of = ap (λ l. Some (l, source)) of ∙ ap (λ s. Some (with_level s)) is

-- ---- one source

pub one_claim : (inside : Inside) (kept : KeptClaims) (fragment : ℕ) (place : Place) (source : ClaimSource) → kept_of inside ≡ kept → IsKept inside
    → marked_on inside.marks fragment ≡ place ∷ [] → source ≡ source_of place → IsOnlyClaim (TableClaims (table_of kept)) fragment source
one_claim inside kept fragment place source view is one told =
    let same : place_of source ≡ place = ap place_of told ∙ place_is place in record {
      claim = (claims_marked inside kept fragment source view is).0 (subst (λ ps. Contains ps (place_of source)) (sym one) ((contains_cons place [] (place_of source)).1 (inl same)));
      only = λ other has.
          let marked = subst (λ ps. Contains ps (place_of other)) one ((claims_marked inside kept fragment other view is).1 has) in
          elim ((contains_cons place [] (place_of other)).0 marked) [
            | inl e ↦ sym (source_is other) ∙ ap source_of e ∙ sym told
            | inr h ↦ absurd (contains_none (place_of other) h)
          ];
    }

source_from : (geometry : Option Geometry) (size fragment : ℕ) (place : Place) (run : Option Run) → IfSome run (λ r. IsPlace geometry place × IsRun size r) → Contains (run_fragments run) fragment → IsPlace geometry place
source_from geometry size fragment place None h has = absurd (contains_none fragment has)
source_from geometry size fragment place (Some run) h has = h.0

pub claim_source : (inside : Inside) (kept : KeptClaims) (fragment : ℕ) (place : Place) (source : ClaimSource) → kept_of inside ≡ kept → IsKept inside
    → marked_on inside.marks fragment ≡ place ∷ [] → source ≡ source_of place → IsSource kept.geometry source
claim_source inside kept fragment place source view is one told =
    let marked = subst (λ ps. Contains ps place) (sym one) ((contains_cons place [] place).1 (inl refl)) in
    subst (λ s. IsSource kept.geometry s) (sym told)
    (subst (λ (k : KeptClaims). IsPlace k.geometry place) view
    (source_from inside.geometry (size_in inside.geometry) fragment place (run_at inside.runs place) (is.runs place) ((is.marked fragment place).0 marked)))

one_only : (ms : List Mark) (place : Place) → AreOrdered ms → AreLeveled ms → Contains (map place_in ms) place → ((other : Place) → Contains (map place_in ms) other → other ≡ place)
    → length (map place_in ms) ≡ 1
one_only [] place ordered leveled has only = absurd (contains_none place has)
one_only (m ∷ []) place ordered leveled has only = refl
one_only (m ∷ n ∷ ms) place ordered leveled has only =
    let rest = map place_in ms in
    let first : m.place ≡ place = only m.place ((contains_cons m.place (n.place ∷ rest) m.place).1 (inl refl)) in
    let second : n.place ≡ place = only n.place ((contains_cons m.place (n.place ∷ rest) n.place).1 (inr ((contains_cons n.place rest n.place).1 (inl refl)))) in
    let next = (contains_cons n ms n).1 (inl refl) in
    let same : m ≡ n =
    leveled m ((contains_cons m (n ∷ ms) m).1 (inl refl)) ∙ ap mark_of (first ∙ sym second) ∙ sym (leveled n ((contains_cons m (n ∷ ms) n).1 (inr next))) in
    absurd (not_before_itself m n same (ordered.0 n next))

pub no_claim : (inside : Inside) (kept : KeptClaims) (fragment : ℕ) → kept_of inside ≡ kept → IsKept inside → (length (marked_on inside.marks fragment) ≡ 1 → ⊥)
    → (source : ClaimSource) → IsOnlyClaim (TableClaims (table_of kept)) fragment source → ⊥
no_claim inside kept fragment view is many source one =
    many (one_only (all_on inside.marks fragment) (place_of source) (is.marks.ordered fragment) (is.marks.leveled fragment) ((claims_marked inside kept fragment source view is).1 one.claim)
    (λ other has.
    let told : source_of other ≡ source = one.only (source_of other) ((claims_marked inside kept fragment (source_of other) view is).0 (subst (λ p. Contains (marked_on inside.marks fragment) p) (sym (place_is other)) has)) in
    sym (place_is other) ∙ ap place_of told))

-- ---- owners

pub owner_none : (claims : ℕ → ClaimSource → Type 0) (fragment : ℕ) → ((source : ClaimSource) → IsOnlyClaim claims fragment source → ⊥)
    → (inode level : ℕ) → IsOwner claims fragment inode level → ⊥
owner_none claims fragment none inode level (by_own_slot {slot = slot} one at) = none (Slot inode slot) one
owner_none claims fragment none inode level (by_upper {upper = upper} {at = at} {above = above} one is owner) = none (Pointer upper above at) one

pub owner_level : (claims : ℕ → ClaimSource → Type 0) (fragment : ℕ) (source : ClaimSource) → IsOnlyClaim claims fragment source
    → (inode level : ℕ) → IsOwner claims fragment inode level → level_of source ≡ level
owner_level claims fragment source one inode level (by_own_slot {slot = slot} other at) = ap level_of (other.only source one.claim) ∙ at
owner_level claims fragment source one inode level (by_upper {upper = upper} {at = at} {above = above} other is owner) = ap level_of (other.only source one.claim) ∙ is

slot_not_pointer : {P : Type 0} (inode slot upper above at : ℕ) → Slot inode slot ≡ Pointer upper above at → P
slot_not_pointer inode slot upper above at e = absurd cc

upper_is : (u a t upper above at : ℕ) → Pointer u a t ≡ Pointer upper above at → u ≡ upper
upper_is u a t upper above at e = cc

above_is : (u a t upper above at : ℕ) → Pointer u a t ≡ Pointer upper above at → a ≡ above
above_is u a t upper above at e = cc

pub owner_upper : (claims : ℕ → ClaimSource → Type 0) (fragment upper above at : ℕ) → IsOnlyClaim claims fragment (Pointer upper above at)
    → ((inode : ℕ) → IsOwner claims upper inode above → ⊥) → (inode level : ℕ) → IsOwner claims fragment inode level → ⊥
owner_upper claims fragment upper above at one none inode level (by_own_slot {slot = slot} other is) =
    slot_not_pointer inode slot upper above at (one.only (Slot inode slot) other.claim)
owner_upper claims fragment upper above at one none inode level (by_upper {upper = u} {at = t} {above = a} other is owner) =
    let same = one.only (Pointer u a t) other.claim in
    none inode (subst (λ x. IsOwner claims x inode above) (upper_is u a t upper above at same) (subst (λ x. IsOwner claims u inode x) (above_is u a t upper above at same) owner))

-- ---- the answers of the calls

pub if_none : {X P : Type 0} (o : Option X) → P → IfNone o P
if_none None p = p
if_none (Some x) p = tt

pub owner_through : (claims : ℕ → ClaimSource → Type 0) (fragment upper above at level : ℕ) (source : ClaimSource) (r : Option ℕ) → source ≡ Pointer upper above at
    → IsOnlyClaim claims fragment source → level_of source ≡ level → IfSome r (λ inode. IsOwner claims upper inode above) → IfSome r (λ inode. IsOwner claims fragment inode level)
owner_through claims fragment upper above at level source None is one same owner = tt
owner_through claims fragment upper above at level source (Some inode) is one same owner =
    by_upper (subst (λ s. IsOnlyClaim claims fragment s) is one) (ap level_of (sym is) ∙ same) owner

pub owner_not_through : (claims : ℕ → ClaimSource → Type 0) (fragment upper above at : ℕ) (source : ClaimSource) (r : Option ℕ) → source ≡ Pointer upper above at
    → IsOnlyClaim claims fragment source → IfNone r ((inode : ℕ) → IsOwner claims upper inode above → ⊥)
    → (level : ℕ) → IfNone r ((inode : ℕ) → IsOwner claims fragment inode level → ⊥)
owner_not_through claims fragment upper above at source (Some inode) is one none level = tt
owner_not_through claims fragment upper above at source None is one none level =
    λ inode. owner_upper claims fragment upper above at (subst (λ s. IsOnlyClaim claims fragment s) is one) none inode level

pub owner_own : (claims : ℕ → ClaimSource → Type 0) (fragment inode slot level : ℕ) (source : ClaimSource) → source ≡ Slot inode slot → IsOnlyClaim claims fragment source → level_of source ≡ level
    → IsOwner claims fragment inode level
owner_own claims fragment inode slot level source is one same = by_own_slot (subst (λ s. IsOnlyClaim claims fragment s) is one) (ap level_of (sym is) ∙ same)

pub owner_one_level : (claims : ℕ → ClaimSource → Type 0) (fragment level : ℕ) (source : ClaimSource) → IsOnlyClaim claims fragment source → level ≡ level_of source
    → ((inode : ℕ) → IsOwner claims fragment inode level → ⊥) → (inode other : ℕ) → IsOwner claims fragment inode other → ⊥
owner_one_level claims fragment level source one is none inode other owner =
    none inode (subst (λ n. IsOwner claims fragment inode n) (sym (owner_level claims fragment source one inode other owner) ∙ sym is) owner)
