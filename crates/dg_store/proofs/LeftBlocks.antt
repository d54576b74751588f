-- What an array without its lost boundaries stands for.
use Rattle.std.proofs.Common.{◌≡◌, ◌≢◌, inl, inr, ℕ, zero, suc, ◌+◌, ◌*◌, ◌/◌, ◌%◌, ◌≤◌, ◌<◌, ◌∷◌, ◌&&◌, Bool, true, false, cond, List, [], length, get_or, map, refl, sym, ◌∙◌, ap, subst, arith}
use Rattle.std.specs.Prelude.{Option, not, if◌then◌else◌}
use Rattle.std.specs.List.{All, Contains, filter}
use Rattle.std.proofs.lemmas.Bool.{and_from, and_parts, cases_Bool, cases_lt, false≢true, le-ltb, lt-ltb}
use Rattle.std.proofs.lemmas.List.Elements.{All-head, All-tail, Contains-get_or}
use Rattle.std.proofs.lemmas.List.FromFn.{get_or-map-range_with_len, length-map-range_with_len}
use Rattle.dg_model.specs.Blocks.{block_in, zeros}
use Rattle.dg_model.specs.Lives.{left_of, place_in}
use Rattle.dg_model.specs.Members.{is_good, is_lost, serves, SlotHolds, SlotOf}
use Rattle.dg_model.specs.Regroups.{is_left, member_before, members_left, shape_left, site_left, sites_left, state_left, table_left}
use Rattle.dg_model.specs.Sites.{all_lost, has_site, is_gone}
use Rattle.dg_model.specs.States.{StandsFor, has_lost}
use Rattle.dg_model.specs.Tables.{IsTable, Table, sites_in}
use Rattle.dg_model.specs.declared.members.MemberState.{MemberState}
use Rattle.dg_model.specs.declared.members.MemberState.TheVariants.{Good, Filling, Out}
use Rattle.dg_model.specs.declared.shapes.Shape.{Shape}
use Rattle.dg_model.specs.declared.sites.Site.{Site}
use Rattle.dg_model.proofs.MemberLaws.{whole_from}
use Rattle.dg_model.proofs.RegroupLaws.{place_at, sites_of_left, was_site}
use Rattle.dg_store.specs.Reduced.{blocks_left}
use Rattle.dg_store.proofs.LeftPlaces.{left_has, left_passes, place_within}
use Rattle.dg_store.proofs.TableLemmas.{are_slots}

-- ---- members

good_left : (left : List ℕ) (m : MemberState) → state_left left m ≢ Out → m ≡ Good
good_left left Good called = refl
good_left left (Filling have) called = absurd (called refl)
good_left left Out called = absurd (called refl)

serving_left : (left : List ℕ) (m : MemberState) (slot : ℕ) → serves (state_left left m) slot ≡ true → m ≡ Good
serving_left left Good slot served = refl
serving_left left (Filling have) slot served = absurd (false≢true served)
serving_left left Out slot served = absurd (false≢true served)

still_good : (left : List ℕ) (m : MemberState) → is_good (state_left left m) ≡ is_good m
still_good left Good = refl
still_good left (Filling have) = refl
still_good left Out = refl

pub below_is : (left : List ℕ) (members : ℕ → MemberState) (q : ℕ) → q / 2 < length left → members_left left members q ≡ state_left left (members (member_before left q))
below_is left members q below =
    ap (λ (b : Bool). if b then state_left left (members (member_before left q)) else Out) (lt-ltb (q / 2) (length left) below)

past_is : (left : List ℕ) (members : ℕ → MemberState) (q : ℕ) → length left ≤ q / 2 → members_left left members q ≡ Out
past_is left members q past =
    ap (λ (b : Bool). if b then state_left left (members (member_before left q)) else Out) (le-ltb (q / 2) (length left) past)

-- a member that isn't out is the good one of a boundary that is left
pub was_good : (left : List ℕ) (members : ℕ → MemberState) (q : ℕ) → members_left left members q ≢ Out → (q / 2 < length left) × (members (member_before left q) ≡ Good)
was_good left members q called = elim (cases_lt (q / 2) (length left)) [
  | inl below ↦ (below, good_left left (members (member_before left q)) (λ out. called (below_is left members q below ∙ out)))
  | inr past ↦ absurd (called (past_is left members q past))
]

not_lost : (b : Bool) → not b ≡ true → b ≡ false
not_lost true e = absurd (false≢true e)
not_lost false e = refl

lost_not : (b : Bool) → b ≡ false → not b ≡ true
lost_not b e = ap not e

-- the places that are left are of boundaries that aren't lost
pub left_live : (shape : Shape) (members : ℕ → MemberState) (i : ℕ) → i < length (left_of shape members) → is_lost members (get_or (left_of shape members) i 0) ≡ false
left_live shape members i within =
    not_lost (is_lost members (get_or (left_of shape members) i 0)) (left_passes (λ x. not (is_lost members x)) shape.b i within)

-- and each of these is left
pub live_left : (shape : Shape) (members : ℕ → MemberState) (s : ℕ) → s < shape.b → is_lost members s ≡ false → place_in (left_of shape members) s < length (left_of shape members)
live_left shape members s below live =
    place_within (left_of shape members) s (left_has (λ x. not (is_lost members x)) shape.b s below (lost_not (is_lost members s) live))

-- no boundary is lost then
pub none_lost : (shape : Shape) (old new : ℕ → MemberState) → ((q : ℕ) → new q ≡ members_left (left_of shape old) old q) → has_lost (shape_left (left_of shape old) shape) new ≡ false
none_lost shape old new members = whole_from (shape_left (left_of shape old) shape) new (λ s below.
    let left = left_of shape old in
    let at : (2 * s) / 2 ≡ s = omega arith in
    let at_next : (2 * s + 1) / 2 ≡ s = omega arith in
    let first : member_before left (2 * s) ≡ 2 * get_or left s 0 = let none : (2 * s) % 2 ≡ 0 = omega arith in
    ap (λ (x : ℕ). 2 * get_or left x 0 + (2 * s) % 2) at ∙ omega (arith, none) in
    let second : member_before left (2 * s + 1) ≡ 2 * get_or left s 0 + 1 = let one : (2 * s + 1) % 2 ≡ 1 = omega arith in
    ap (λ (x : ℕ). 2 * get_or left x 0 + (2 * s + 1) % 2) at_next ∙ omega (arith, one) in
    let a : is_good (new (2 * s)) ≡ is_good (old (2 * get_or left s 0)) =
    ap is_good (members (2 * s) ∙ below_is left old (2 * s) (omega (arith, at, below))) ∙ still_good left (old (member_before left (2 * s))) ∙ ap (λ (q : ℕ). is_good (old q)) first in
    let b : is_good (new (2 * s + 1)) ≡ is_good (old (2 * get_or left s 0 + 1)) =
    ap is_good (members (2 * s + 1) ∙ below_is left old (2 * s + 1) (omega (arith, at_next, below))) ∙ still_good left (old (member_before left (2 * s + 1))) ∙ ap (λ (q : ℕ). is_good (old q)) second in
    ap (λ (x : Bool). not x && not (is_good (new (2 * s + 1)))) a ∙ ap (λ (x : Bool). not (is_good (old (2 * get_or left s 0))) && not x) b ∙ left_live shape old s below)

-- ---- sites

module _ (shape : Shape) (old : ℕ → MemberState) where
  step : (y : Site) (ys : List Site) (b : Bool) → is_left (left_of shape old) y.boundary ≡ b → has_site (sites_left (left_of shape old) (y ∷ ys))
      ≡ has_site (map (site_left (left_of shape old)) (cond b (y ∷ filter (λ site. is_left (left_of shape old) site.boundary) ys) (filter (λ site. is_left (left_of shape old) site.boundary) ys)))
  step y ys b e =
      ap (λ (t : Bool). has_site (map (site_left (left_of shape old)) (cond t (y ∷ filter (λ site. is_left (left_of shape old) site.boundary) ys) (filter (λ site. is_left (left_of shape old) site.boundary) ys)))) e

  -- where no site is left, each was on a lost boundary
  pub none_left : (sites : List Site) → All (λ site. (site.boundary < shape.b) × (site.slot < shape.k + 1)) sites → has_site (sites_left (left_of shape old) sites) ≡ false → all_lost old sites ≡ true
  none_left [] within none = refl
  none_left (y ∷ ys) within none = elim (cases_Bool (is_left (left_of shape old) y.boundary)) [
    | inl stays ↦ absurd (false≢true (sym none ∙ step y ys true stays))
    | inr out ↦ elim (cases_Bool (is_lost old y.boundary)) [
      | inl lost ↦ and_from (is_lost old y.boundary) (all_lost old ys) lost
          (none_left ys (All-tail (λ site. (site.boundary < shape.b) × (site.slot < shape.k + 1)) y ys within) (sym (step y ys false out) ∙ none))
      | inr live ↦
          let low = live_left shape old y.boundary ((All-head (λ site. (site.boundary < shape.b) × (site.slot < shape.k + 1)) y ys within).0) live in
          absurd (false≢true (sym out ∙ lt-ltb (place_in (left_of shape old) y.boundary) (length (left_of shape old)) low))
    ]
  ]

  -- of a block that is gone each site is on a lost boundary
  pub lost_all : (sites : List Site) (site : Site) (k : ℕ) → k < length sites → get_or sites k site ≡ site → all_lost old sites ≡ true → is_lost old site.boundary ≡ true
  lost_all [] site k within is lost = absurd (omega (arith, within))
  lost_all (y ∷ ys) site zero within is lost =
      ap (λ (x : Site). is_lost old x.boundary) (sym is) ∙ (and_parts (is_lost old y.boundary) (all_lost old ys) lost).0
  lost_all (y ∷ ys) site (suc k) within is lost =
      lost_all ys site k (omega (arith, within)) is (and_parts (is_lost old y.boundary) (all_lost old ys) lost).1

-- ---- blocks

module _ (table : Table) (old new : ℕ → MemberState) (before now : ℕ → Option (List ℕ)) where
  abbrev left : List ℕ
  left = left_of table.shape old

  abbrev value : List (List ℕ) → ℕ → List ℕ
  value V b = if is_gone table old b then zeros table.shape.l else block_in V b

  value_at : (V : List (List ℕ)) (b : ℕ) → b < length V → block_in (blocks_left table old V) b ≡ value V b
  value_at V b below = let e : 0 + b ≡ b = omega arith in get_or-map-range_with_len (value V) 0 (length V) b b [] below e

  -- a block that is given has its value at a site that is left
  slot_left : ((q : ℕ) → new q ≡ members_left left old q) → ((q : ℕ) → q / 2 < length left → now q ≡ before (member_before left q))
      → (site : Site) (v : List ℕ) → place_in left site.boundary < length left → SlotHolds table.shape.l old before site.boundary site.slot v
      → SlotHolds table.shape.l new now (place_in left site.boundary) site.slot v
  slot_left members bytes site v inside held q at served =
      let below : q / 2 < length left = omega (arith, at, inside) in
      let good : old (member_before left q) ≡ Good =
      serving_left left (old (member_before left q)) site.slot (ap (λ (m : MemberState). serves m site.slot) (sym (members q ∙ below_is left old q below)) ∙ served) in
      let here : get_or left (q / 2) 0 ≡ site.boundary = ap (λ (x : ℕ). get_or left x 0) at ∙ place_at left site.boundary inside in
      let boundary : member_before left q / 2 ≡ site.boundary = omega (arith, here) in
      subst (λ (told : Option (List ℕ)). SlotOf table.shape.l site.slot v told) (sym (bytes q below))
      (held (member_before left q) boundary (ap (λ (m : MemberState). serves m site.slot) good))

  given : (b k : ℕ) (site : Site) → k < length (sites_in table b) → get_or (sites_in table b) k site ≡ site → place_in left site.boundary < length left → is_gone table old b ≡ false
  given b k site within is inside =
      let live : is_lost old site.boundary ≡ false = ap (is_lost old) (sym (place_at left site.boundary inside)) ∙ left_live table.shape old (place_in left site.boundary) inside in
      elim (cases_Bool (is_gone table old b)) [
        | inr not_gone ↦ not_gone
        | inl gone ↦ absurd (false≢true (sym live ∙ lost_all table.shape old (sites_in table b) site k within is (and_parts (has_site (sites_in table b)) (all_lost old (sites_in table b)) gone).1))
      ]

  held_left : ((q : ℕ) → new q ≡ members_left left old q) → ((q : ℕ) → q / 2 < length left → now q ≡ before (member_before left q))
      → (V : List (List ℕ)) → StandsFor table old before V → (b : ℕ) → b < table.shape.n → (x : Site) → Contains (sites_in (table_left left table) b) x
      → SlotHolds table.shape.l new now x.boundary x.slot (block_in (blocks_left table old V) b)
  held_left members bytes V st b below x has =
      let was = was_site left (sites_in table b) x (subst (λ (l : List Site). Contains l x) (sites_of_left left table b) has) in
      let at = was.there in
      let here : is_gone table old b ≡ false = given b at.0 was.old at.1 at.2 was.inside in
      let same : block_in (blocks_left table old V) b ≡ block_in V b =
      value_at V b (omega (arith, below, st.size)) ∙ ap (λ (t : Bool). if t then zeros table.shape.l else block_in V b) here in
      let slot : SlotHolds table.shape.l old before was.old.boundary was.old.slot (block_in V b) =
      subst (λ (y : Site). SlotHolds table.shape.l old before y.boundary y.slot (block_in V b)) at.2 (st.held b below at.0 was.old at.1) in
      subst (λ (v : List ℕ). SlotHolds table.shape.l new now x.boundary x.slot v) (sym same)
      (subst (λ (y : Site). SlotHolds table.shape.l new now y.boundary y.slot (block_in V b)) (sym was.is)
      (slot_left members bytes was.old (block_in V b) was.inside slot))

  blank_left : IsTable table → (V : List (List ℕ)) → StandsFor table old before V → (b : ℕ) → b < table.shape.n → has_site (sites_in (table_left left table) b) ≡ false → value V b ≡ zeros table.shape.l
  blank_left is_table V st b below none = elim (cases_Bool (is_gone table old b)) [
    | inl gone ↦ ap (λ (t : Bool). if t then zeros table.shape.l else block_in V b) gone
    | inr here ↦ ap (λ (t : Bool). if t then zeros table.shape.l else block_in V b) here ∙ st.blank b below (elim (cases_Bool (has_site (sites_in table b))) [
      | inr blank ↦ blank
      | inl some ↦ absurd (false≢true (sym here ∙ and_from (has_site (sites_in table b)) (all_lost old (sites_in table b)) some
          (none_left table.shape old (sites_in table b) (are_slots table b table.shape.b is_table refl) (ap has_site (sym (sites_of_left left table b)) ∙ none))))
    ])
  ]

  -- what is left stands for the blocks, but for those that stood on lost boundaries alone, which are zeros
  pub blocks_stand : IsTable table → ((q : ℕ) → new q ≡ members_left left old q) → ((q : ℕ) → q / 2 < length left → now q ≡ before (member_before left q))
      → (V : List (List ℕ)) → StandsFor table old before V → StandsFor (table_left left table) new now (blocks_left table old V)
  blocks_stand is_table members bytes V st = record {
    size = length-map-range_with_len (value V) 0 (length V) ∙ st.size;
    blank = λ b below none. value_at V b (omega (arith, below, st.size)) ∙ blank_left is_table V st b below none;
    held = λ b below k d within. held_left members bytes V st b below (get_or (sites_in (table_left left table) b) k d) (Contains-get_or (sites_in (table_left left table) b) k d within);
  }
