-- What sources claim on a volume after a write of one block.
use Rattle.std.proofs.Common.{◌≡◌, ◌∙◌, ℕ, ◌+◌, ◌*◌, ◌/◌, ◌<◌, ◌≤◌, ◌↔◌, ◌&&◌, List, [], Bool, true, false, cond, inl, inr, Option, Some, None, length, refl, sym, ap, subst, arith, take, drop, Contains, get_or-set_other, nat_lt}
use Rattle.std.proofs.lemmas.Bool.{cases_eq}
use Rattle.std.proofs.lemmas.Bool.Decides.{nat_tests}
use Rattle.std.proofs.lemmas.List.{get_or-set_same}
use Rattle.std.specs.Prelude.{replicate, slice_set}
use Rattle.ufs_model.specs.Blocks.{Volume, bind, block_at}
use Rattle.ufs_model.specs.Claims.{IsClaim, by_pointer, by_slot, fragments_at, level_of, pointer_fragments, slot_fragments, slot_fragments_in, source_fragments}
use Rattle.ufs_model.specs.Inodes.{has_pointers, inode_block, inode_byte, inode_in, inode_of}
use Rattle.ufs_model.specs.Pointers.{address, pointer_in, slot_address}
use Rattle.ufs_model.specs.Inodes.{is_inode_number}
use Rattle.ufs_model.specs.declared.claims.ClaimSource.{ClaimSource}
use Rattle.ufs_model.specs.declared.claims.ClaimSource.TheVariants.{Slot, Pointer}
use Rattle.ufs_model.specs.declared.geometries.Geometry.{Geometry}
use Rattle.ufs_model.specs.declared.inodes.Inode.{Inode}
use Rattle.dg_claims.specs.Scans.{stored_fragments}
use Rattle.dg_claims.specs.Tables.{IsSource, fragment_pointers, inode_fragments}
use Rattle.dg_infer.proofs.ChangeLaws.{slot_claim}
use Rattle.dg_infer.proofs.ListLaws.{below_cases, contains_none}
use Rattle.dg_infer.specs.Changes.{AreClaims, IsReady, IsRightDownTo}
use Rattle.dg_infer.specs.Claimed.{StandsIn}
use Rattle.dg_infer.specs.Meanings.{kind_by}
use Rattle.dg_infer.specs.Sweeps.{AreSlotsBefore, StandsBefore}
use Rattle.ufs_model.specs.Geometries.{IsGeometry}
use Rattle.ufs_model.specs.declared.inodes.Kind.{Kind}
use Rattle.dg_infer.specs.Watches.{IsTouched, IsWatched}
use Rattle.dg_infer.specs.declared.watches.Touch.{Touch}

-- ---- one block

pub other_block : (l : ℕ) (v : Volume) (b : ℕ) (bytes : List ℕ) (k : ℕ) → (k ≡ b → ⊥) → block_at l v k ≡ block_at l (slice_set v b bytes) k
other_block l v b bytes k apart = sym (get_or-set_other v b k bytes (replicate l 0) apart)

pub this_block : (l : ℕ) (v : Volume) (b : ℕ) (bytes : List ℕ) → b < length v → bytes ≡ block_at l (slice_set v b bytes) b
this_block l v b bytes inside = sym (get_or-set_same v b bytes (replicate l 0) inside)

-- ---- sources in other blocks

pub pointer_off : (g : Geometry) (v : Volume) (b : ℕ) (bytes : List ℕ) (u k a : ℕ) → (u ≡ b → ⊥) → source_fragments g v (Pointer u k a) ≡ source_fragments g (slice_set v b bytes) (Pointer u k a)
unfolding source_fragments
pointer_off g v b bytes u k a apart = ap (λ xs. pointer_fragments g xs a) (other_block g.fsize v b bytes u apart)

slot_off : (g : Geometry) (v : Volume) (b : ℕ) (bytes : List ℕ) (i s : ℕ) → (inode_block g i ≡ b → ⊥) → source_fragments g v (Slot i s) ≡ source_fragments g (slice_set v b bytes) (Slot i s)
unfolding source_fragments inode_of bind
slot_off g v b bytes i s apart =
    ap (λ xs. cond (is_inode_number g i) (slot_fragments_in g s (inode_in g.endian (take 128 (drop (inode_byte g i) xs)))) []) (other_block g.fsize v b bytes (inode_block g i) apart)

-- ---- inodes

pub in_range : (g : Geometry) (number : ℕ) → 2 ≤ number → number < g.ncg * g.ipg → is_inode_number g number ≡ true
in_range g number low high = grind (arith, nat_tests)

pub past_range : (g : Geometry) (number : ℕ) → g.ncg * g.ipg ≤ number → is_inode_number g number ≡ false
past_range g number le = grind (arith, nat_tests)

pub below_range : (g : Geometry) (number : ℕ) → number < 2 → is_inode_number g number ≡ false
below_range g number lt = grind (arith, nat_tests)

pub cond_true : {X : Type 0} (b : Bool) (x y : X) → b ≡ true → cond b x y ≡ x
cond_true b x y e = ap (λ t. cond t x y) e

pub cond_false : {X : Type 0} (b : Bool) (x y : X) → b ≡ false → cond b x y ≡ y
cond_false b x y e = ap (λ t. cond t x y) e

stored : (g : Geometry) (number slot : ℕ) (found : Option Inode) → is_inode_number g number ≡ true → stored_fragments (Some g) number found slot ≡ slot_fragments_in g slot found
unfolding inode_fragments
stored g number slot None within = refl
stored g number slot (Some inode) within = cond_true (is_inode_number g number) (slot_fragments g inode slot) [] within

target_of : (g : Geometry) (v : Volume) (number slot : ℕ) → is_inode_number g number ≡ true
    → source_fragments g v (Slot number slot) ≡ slot_fragments_in g slot (inode_in g.endian (take 128 (drop (inode_byte g number) (block_at g.fsize v (inode_block g number)))))
unfolding source_fragments inode_of bind
target_of g v number slot within = cond_true (is_inode_number g number) _ [] within

no_target : (g : Geometry) (v : Volume) (number slot : ℕ) → is_inode_number g number ≡ false → source_fragments g v (Slot number slot) ≡ []
unfolding source_fragments inode_of bind
no_target g v number slot out = cond_false (is_inode_number g number) _ [] out

pub stored_target : (g : Geometry) (geometry : Option Geometry) (v : Volume) (number slot block byte : ℕ) (bytes : List ℕ) → geometry ≡ Some g → 2 ≤ number → number < g.ncg * g.ipg
    → block ≡ inode_block g number → byte ≡ inode_byte g number → bytes ≡ block_at g.fsize v block
    → stored_fragments geometry number (inode_in g.endian (take 128 (drop byte bytes))) slot ≡ source_fragments g v (Slot number slot)
stored_target g geometry v number slot block byte bytes is low high here at has =
    let within = in_range g number low high in
    let whole : bytes ≡ block_at g.fsize v (inode_block g number) = has ∙ ap (λ b. block_at g.fsize v b) here in
    let read : inode_in g.endian (take 128 (drop byte bytes)) ≡ inode_in g.endian (take 128 (drop (inode_byte g number) (block_at g.fsize v (inode_block g number)))) =
    ap (λ n. inode_in g.endian (take 128 (drop n bytes))) at ∙ ap (λ xs. inode_in g.endian (take 128 (drop (inode_byte g number) xs))) whole in
    ap (λ o. stored_fragments o number (inode_in g.endian (take 128 (drop byte bytes))) slot) is
    ∙ stored g number slot (inode_in g.endian (take 128 (drop byte bytes))) within
    ∙ ap (slot_fragments_in g slot) read
    ∙ sym (target_of g v number slot within)

-- ---- pointers

pub pointer_target : (g : Geometry) (geometry : Option Geometry) (v : Volume) (fragment level at l : ℕ) (bytes : List ℕ) → geometry ≡ Some g → g.fsize ≡ l → bytes ≡ block_at l v fragment
    → fragment_pointers geometry bytes at ≡ source_fragments g v (Pointer fragment level at)
unfolding fragment_pointers source_fragments
pointer_target g geometry v fragment level at l bytes is size has =
    let whole : bytes ≡ block_at g.fsize v fragment = has ∙ ap (λ n. block_at n v fragment) (sym size) in
    ap (λ o. fragment_pointers o bytes at) is ∙ ap (λ xs. pointer_fragments g xs at) whole

-- ---- levels are at most 3

nat_lt_false : (a b : ℕ) → b ≤ a → nat_lt a b ≡ false
nat_lt_false a b le = grind (arith, nat_tests)

and_false : (a b : Bool) → b ≡ false → (a && b) ≡ false
and_false true b e = e
and_false false b e = refl

pub past_slots : (g : Geometry) (inode : Inode) (slot : ℕ) → 15 ≤ slot → slot_fragments g inode slot ≡ []
unfolding slot_fragments
past_slots g inode slot le =
    cond_false (has_pointers g inode && nat_lt slot 15) (fragments_at (slot_address g inode slot)) []
    (and_false (has_pointers g inode) (nat_lt slot 15) (nat_lt_false slot 15 le))

stored_past : (g : Geometry) (slot : ℕ) (found : Option Inode) → 15 ≤ slot → slot_fragments_in g slot found ≡ []
stored_past g slot None le = refl
stored_past g slot (Some inode) le = past_slots g inode slot le

cond_none : {X : Type 0} (b : Bool) (xs : List X) → xs ≡ [] → cond b xs [] ≡ []
cond_none true xs e = e
cond_none false xs e = refl

past_target : (g : Geometry) (v : Volume) (inode slot : ℕ) → 15 ≤ slot → source_fragments g v (Slot inode slot) ≡ []
unfolding source_fragments
past_target g v inode slot le = cond_none (is_inode_number g inode) (slot_fragments_in g slot ((inode_of g inode v).value)) (stored_past g slot ((inode_of g inode v).value) le)

short_slot : (g : Geometry) (v : Volume) (fragment inode slot : ℕ) → Contains (source_fragments g v (Slot inode slot)) fragment → slot < 15
short_slot g v fragment inode slot has = elim (below_cases slot 15) [
  | inl lt ↦ lt
  | inr le ↦ absurd (contains_none fragment (subst (λ xs. Contains xs fragment) (past_target g v inode slot le) has))
]

level_low : (g : Geometry) (v : Volume) {fragment : ℕ} {source : ClaimSource} → IsClaim (source_fragments g v) fragment source → level_of source ≤ 3
level_low g v (by_slot {fragment = fragment} {inode = inode} {slot = slot} has) = let lt = short_slot g v fragment inode slot has in omega arith
level_low g v (by_pointer {upper = upper} {level = level} {at = at} above is low has) = let le = level_low g v above in omega (arith, is, le)

pointer_low : (g : Geometry) (v : Volume) (fragment upper level at : ℕ) → IsClaim (source_fragments g v) fragment (Pointer upper level at) → level ≤ 3
pointer_low g v fragment upper level at (by_pointer above is low has) = let le = level_low g v above in omega (arith, is, le)

-- ---- pointers of a fragment are few

past_pointers : (g : Geometry) (bytes : List ℕ) (at : ℕ) → g.fsize / 4 ≤ at → pointer_fragments g bytes at ≡ []
unfolding pointer_fragments
past_pointers g bytes at le =
    cond_false (nat_lt at (g.fsize / 4)) (fragments_at (address g (pointer_in g.endian bytes at) g.frag)) [] (nat_lt_false at (g.fsize / 4) le)

pub pointers_within : (g : Geometry) (geometry : Option Geometry) (bytes : List ℕ) (at f : ℕ) → geometry ≡ Some g → Contains (fragment_pointers geometry bytes at) f
    → (at < g.fsize / 4) × Contains (pointer_fragments g bytes at) f
unfolding fragment_pointers
pointers_within g geometry bytes at f is has =
    let here : Contains (pointer_fragments g bytes at) f = subst (λ (xs : List ℕ). Contains xs f) (ap (λ o. fragment_pointers o bytes at) is) has in (
      elim (below_cases at (g.fsize / 4)) [
        | inl lt ↦ lt
        | inr le ↦ absurd (contains_none f (subst (λ (xs : List ℕ). Contains xs f) (past_pointers g bytes at le) here))
      ],
      here,
    )

pub source_within : (g : Geometry) (geometry : Option Geometry) (fragment level at : ℕ) → geometry ≡ Some g → IsSource geometry (Pointer fragment level at) → at < g.fsize / 4
source_within g geometry fragment level at is source = let known : IsSource (Some g) (Pointer fragment level at) = subst (λ o. IsSource o (Pointer fragment level at)) is source in known.2

pub slot_within : (geometry : Option Geometry) (number slot : ℕ) → IsSource geometry (Slot number slot) → slot < 15
slot_within None number slot source = absurd source
slot_within (Some g) number slot source = source.2

either_list : {X : Type 0} (b : Bool) (xs : List X) (x : X) → Contains (cond b xs []) x → Contains xs x
either_list true xs x has = has
either_list false xs x has = absurd (contains_none x has)

pub inode_claims : (g : Geometry) (geometry : Option Geometry) (number : ℕ) (inode : Inode) (slot f : ℕ) → geometry ≡ Some g → Contains (inode_fragments geometry number inode slot) f → Contains (slot_fragments g inode slot) f
unfolding inode_fragments
inode_claims g geometry number inode slot f is has =
    either_list (is_inode_number g number) (slot_fragments g inode slot) f (subst (λ o. Contains (inode_fragments o number inode slot) f) is has)

-- ---- the slots are right, before any level

slot_right : (t sources before now : ClaimSource → List ℕ) (fragment inode slot : ℕ) → AreClaims sources before → now (Slot inode slot) ≡ before (Slot inode slot)
    → sources (Slot inode slot) ≡ t (Slot inode slot) → Contains (now (Slot inode slot)) fragment ↔ Contains (t (Slot inode slot)) fragment
slot_right t sources before now fragment inode slot are stays same =
    let each = are.each fragment (Slot inode slot) in (
      λ has. subst (λ (xs : List ℕ). Contains xs fragment) same (slot_claim sources fragment inode slot (each.0 (subst (λ (xs : List ℕ). Contains xs fragment) stays has))),
      λ has. subst (λ (xs : List ℕ). Contains xs fragment) (sym stays) (each.1 (by_slot (subst (λ (xs : List ℕ). Contains xs fragment) (sym same) has))),
    )

slot_now : (t now : ClaimSource → List ℕ) (fragment inode slot : ℕ) → now (Slot inode slot) ≡ t (Slot inode slot) → Contains (now (Slot inode slot)) fragment ↔ Contains (t (Slot inode slot)) fragment
slot_now t now fragment inode slot is = (
  λ has. subst (λ (xs : List ℕ). Contains xs fragment) is has,
  λ has. subst (λ (xs : List ℕ). Contains xs fragment) (sym is) has,
)

pub right_at_first : (g : Geometry) (v : Volume) (b : ℕ) (bytes : List ℕ) (before now : ClaimSource → List ℕ) → AreClaims (source_fragments g v) before
    → ((number slot : ℕ) → StandsIn g number b → now (Slot number slot) ≡ source_fragments g (slice_set v b bytes) (Slot number slot))
    → ((source : ClaimSource) → ((number slot : ℕ) → StandsIn g number b → source ≡ Slot number slot → ⊥) → now source ≡ before source)
    → IsRightDownTo (source_fragments g (slice_set v b bytes)) before now 3
right_at_first g v b bytes before now are slots others =
    let w = slice_set v b bytes in record {
      slots = λ fragment inode slot. elim (cases_eq (inode_block g inode) b) [
        | inr apart ↦ slot_right (source_fragments g w) (source_fragments g v) before now fragment inode slot are
            (others (Slot inode slot) (λ number s stands e. apart (let same : inode ≡ number = cc in ap (inode_block g) same ∙ stands.2)))
            (slot_off g v b bytes inode slot apart)
        | inl here ↦ elim (below_cases inode 2) [
          | inl small ↦ slot_right (source_fragments g w) (source_fragments g v) before now fragment inode slot are
              (others (Slot inode slot) (λ number s stands e. let same : inode ≡ number = cc in omega (arith, small, stands.0, same)))
              (no_target g v inode slot (below_range g inode small) ∙ sym (no_target g w inode slot (below_range g inode small)))
          | inr low ↦ elim (below_cases inode (g.ncg * g.ipg)) [
            | inl high ↦ slot_now (source_fragments g w) now fragment inode slot (slots inode slot (low, high, here))
            | inr past ↦ slot_right (source_fragments g w) (source_fragments g v) before now fragment inode slot are
                (others (Slot inode slot) (λ number s stands e. let same : inode ≡ number = cc in omega (arith, past, stands.1, same)))
                (no_target g v inode slot (past_range g inode past) ∙ sym (no_target g w inode slot (past_range g inode past)))
          ]
        ]
      ];
      pointers = λ fragment upper level at high. (
        λ has. absurd (
            let stays = others (Pointer upper level at) (λ number s stands e. cc) in
            let old = (are.each fragment (Pointer upper level at)).0 (subst (λ (xs : List ℕ). Contains xs fragment) stays has) in
            let low = pointer_low g v fragment upper level at old in
            omega (arith, low, high)
            ),
        λ claim. absurd (let low = pointer_low g w fragment upper level at claim in omega (arith, low, high)),
      );
      kept = λ upper level at le. others (Pointer upper level at) (λ number s stands e. cc);
    }

pub ready_after : (g : Geometry) (v : Volume) (b : ℕ) (bytes : List ℕ) (before now : ClaimSource → List ℕ) (touches : List Touch) → AreClaims (source_fragments g v) before
    → ((number slot : ℕ) → StandsIn g number b → now (Slot number slot) ≡ source_fragments g (slice_set v b bytes) (Slot number slot))
    → ((source : ClaimSource) → ((number slot : ℕ) → StandsIn g number b → source ≡ Slot number slot → ⊥) → now source ≡ before source)
    → ((level : ℕ) → 1 ≤ level → level ≤ 3 → IsTouched touches level b) → IsWatched before now touches
    → IsReady (source_fragments g (slice_set v b bytes)) (source_fragments g v) before now b touches
ready_after g v b bytes before now touches are slots others touched watched = record {
  were = are;
  same = λ u level at had apart. pointer_off g v b bytes u level at apart;
  touched = touched;
  watched = watched;
  right = right_at_first g v b bytes before now are slots others;
}

-- ---- where nothing was claimed

pub no_claim : (t : ClaimSource → List ℕ) → ((source : ClaimSource) → t source ≡ []) → (fragment : ℕ) (source : ClaimSource) → IsClaim t fragment source → ⊥
no_claim t none fragment source (by_slot {inode = inode} {slot = slot} has) = contains_none fragment (subst (λ xs. Contains xs fragment) (none (Slot inode slot)) has)
no_claim t none fragment source (by_pointer {upper = upper} {level = level} {at = at} above is low has) = contains_none fragment (subst (λ xs. Contains xs fragment) (none (Pointer upper level at)) has)

pub no_claims : (t : ClaimSource → List ℕ) → ((source : ClaimSource) → t source ≡ []) → AreClaims t t
no_claims t none = record {
  each = λ fragment source. (
    λ has. absurd (contains_none fragment (subst (λ xs. Contains xs fragment) (none source) has)),
    λ claim. absurd (no_claim t none fragment source claim),
  );
}

both_none : (xs ys : List ℕ) (f : ℕ) → xs ≡ [] → ys ≡ [] → Contains xs f ↔ Contains ys f
both_none xs ys f x y = (
  λ has. absurd (contains_none f (subst (λ zs. Contains zs f) x has)),
  λ has. absurd (contains_none f (subst (λ zs. Contains zs f) y has)),
)

right_when_fresh : (g : Geometry) (v : Volume) (before now : ClaimSource → List ℕ) → IsGeometry g → ((source : ClaimSource) → before source ≡ []) → AreSlotsBefore g v g.size now
    → ((inode : ℕ) → inode < g.ncg * g.ipg → inode_block g inode < g.size) → IsRightDownTo (source_fragments g v) before now 3
right_when_fresh g v before now is none swept inside = record {
  slots = λ fragment inode slot. elim (below_cases inode 2) [
    | inl small ↦ both_none (now (Slot inode slot)) (source_fragments g v (Slot inode slot)) fragment
        (swept.later inode slot (λ stands. omega (arith, stands.0, small)))
        (no_target g v inode slot (below_range g inode small))
    | inr low ↦ elim (below_cases inode (g.ncg * g.ipg)) [
      | inl high ↦ slot_now (source_fragments g v) now fragment inode slot (swept.here inode slot (low, high, inside inode high))
      | inr past ↦ both_none (now (Slot inode slot)) (source_fragments g v (Slot inode slot)) fragment
          (swept.later inode slot (λ stands. omega (arith, stands.1, past)))
          (no_target g v inode slot (past_range g inode past))
    ]
  ];
  pointers = λ fragment upper level at high. (
    λ has. absurd (contains_none fragment (subst (λ xs. Contains xs fragment) (swept.pointers upper level at) has)),
    λ claim. absurd (let low = pointer_low g v fragment upper level at claim in omega (arith, low, high)),
  );
  kept = λ upper level at le. swept.pointers upper level at ∙ sym (none (Pointer upper level at));
}

pub ready_when_fresh : (g : Geometry) (v : Volume) (block : ℕ) (before now : ClaimSource → List ℕ) (touches : List Touch) → IsGeometry g → ((source : ClaimSource) → before source ≡ [])
    → AreSlotsBefore g v g.size now → ((inode : ℕ) → inode < g.ncg * g.ipg → inode_block g inode < g.size)
    → ((level : ℕ) → 1 ≤ level → level ≤ 3 → IsTouched touches level block) → IsWatched before now touches
    → IsReady (source_fragments g v) before before now block touches
ready_when_fresh g v block before now touches is none swept inside touched watched = record {
  were = no_claims before none;
  same = λ upper level at had apart. absurd (contains_none upper (subst (λ xs. Contains xs upper) (none had.source) had.claim));
  touched = touched;
  watched = watched;
  right = right_when_fresh g v before now is none swept inside;
}

-- ---- one more block of a sweep

pub slots_more : (g : Geometry) (v : Volume) (place : ℕ) (old new : ClaimSource → List ℕ)
    → ((number slot : ℕ) → StandsIn g number place → new (Slot number slot) ≡ source_fragments g v (Slot number slot))
    → ((source : ClaimSource) → ((number slot : ℕ) → StandsIn g number place → source ≡ Slot number slot → ⊥) → new source ≡ old source)
    → AreSlotsBefore g v place old → AreSlotsBefore g v (place + 1) new
slots_more g v place old new here others so_far = record {
  here = λ inode slot stands. elim (cases_eq (inode_block g inode) place) [
    | inl at ↦ here inode slot (stands.0, stands.1, at)
    | inr apart ↦
        others (Slot inode slot) (λ number s in_place e. apart (let same : inode ≡ number = cc in ap (inode_block g) same ∙ in_place.2))
        ∙ so_far.here inode slot (stands.0, stands.1, omega (arith, stands.2, apart))
  ];
  later = λ inode slot off.
      others (Slot inode slot) (λ number s in_place e. off (let same : number ≡ inode = cc in
      subst (λ (n : ℕ). StandsBefore g n (place + 1)) same (in_place.0, in_place.1, (let at = in_place.2 in omega (arith, at)))))
      ∙ so_far.later inode slot (λ stands. off (stands.0, stands.1, omega (arith, stands.2)));
  pointers = λ fragment level at. others (Pointer fragment level at) (λ number s in_place e. cc) ∙ so_far.pointers fragment level at;
}

pub kinds_more : (g : Geometry) (v : Volume) (place : ℕ) (old new : ℕ → Option Kind)
    → ((i : ℕ) → StandsIn g i place → new i ≡ kind_by g v i) → ((i : ℕ) → (StandsIn g i place → ⊥) → new i ≡ old i)
    → ((i : ℕ) → StandsBefore g i place → old i ≡ kind_by g v i) → ((i : ℕ) → (StandsBefore g i place → ⊥) → old i ≡ None)
    → ((i : ℕ) → StandsBefore g i (place + 1) → new i ≡ kind_by g v i) × ((i : ℕ) → (StandsBefore g i (place + 1) → ⊥) → new i ≡ None)
kinds_more g v place old new here others before later = (
  λ i stands. elim (cases_eq (inode_block g i) place) [
    | inl at ↦ here i (stands.0, stands.1, at)
    | inr apart ↦ others i (λ in_place. apart (in_place.2)) ∙ before i (stands.0, stands.1, omega (arith, stands.2, apart))
  ],
  λ i off. others i (λ in_place. off (in_place.0, in_place.1, (let at = in_place.2 in omega (arith, at)))) ∙ later i (λ stands. off (stands.0, stands.1, omega (arith, stands.2))),
)
