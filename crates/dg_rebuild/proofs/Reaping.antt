-- Runs of slots that were passed one after another, and the blocks that were reaped in them.
use Rattle.std.proofs.Common.{◌≡◌, ◌≢◌, ◌⊎◌, ◌<◌, ◌≤◌, ◌+◌, ◌++◌, ◌==◌, ℕ, Bool, true, false, List, [], ◌∷◌, length, get_or, inl, inr, refl, sym, ◌∙◌, ap, subst, arith, get_or-set_other, get_or-set_same}
use Rattle.std.specs.Prelude.{◌||◌, if◌then◌else◌, slice_set}
use Rattle.std.specs.List.{Contains}
use Rattle.std.proofs.lemmas.Bool.{cases_eq, cases_lt, false≢true}
use Rattle.std.proofs.lemmas.List.{length-set}
use Rattle.std.proofs.lemmas.List.Folds.{list_any-append}
use Rattle.ufs_model.specs.Blocks.{Volume}
use Rattle.dg_model.specs.Blocks.{block_in, zeros}
use Rattle.dg_model.specs.Marks.{is_marked}
use Rattle.dg_model.specs.Refills.{Reaps, StandsBetween}
use Rattle.dg_model.specs.Tables.{IsTable, StandsIn, Table, sites_in}
use Rattle.dg_model.specs.declared.sites.Site.{Site}
use Rattle.dg_model.proofs.SiteLists.{apart_test, same_test}
use Rattle.dg_rebuild.specs.Answers.{IsUnmarkedAt}
use Rattle.dg_rebuild.specs.Reaped.{AreMarkedBetween, StandInOrder, is_among, zeroed}
use Rattle.dg_rebuild.proofs.Counts.{none_lower}

-- ---- blocks among others

among_by : (t : Bool) (xs : List ℕ) (b c : ℕ) → (c == b) ≡ t → is_among (c ∷ xs) b ≡ (t || is_among xs b)
among_by t xs b c e = ap (λ (u : Bool). u || is_among xs b) e

pub among_self : (b : ℕ) → is_among (b ∷ []) b ≡ true
among_self b = among_by true [] b b (same_test b b refl)

pub among_other : (b c : ℕ) → c ≢ b → is_among (b ∷ []) c ≡ false
among_other b c other = among_by false [] c b (apart_test b c (λ e. other (sym e)))

among_one : (b c : ℕ) → is_among (b ∷ []) c ≡ true → c ≡ b
among_one b c e = elim (cases_eq c b) [ inl same ↦ same | inr other ↦ absurd (false≢true (sym (among_other b c other) ∙ e)) ]

among_both : (xs ys : List ℕ) (b : ℕ) → is_among (xs ++ ys) b ≡ (is_among xs b || is_among ys b)
among_both xs ys b = list_any-append (λ (c : ℕ). c == b) xs ys

-- ---- what the blocks are then

pub zeroed_both : (l : ℕ) (xs ys : List ℕ) (V : Volume) → zeroed l (xs ++ ys) V ≡ zeroed l ys (zeroed l xs V)
zeroed_both l [] ys V = refl
zeroed_both l (x ∷ xs) ys V = zeroed_both l xs ys (slice_set V x (zeros l))

pub length_zeroed : (l : ℕ) (xs : List ℕ) (V : Volume) → length (zeroed l xs V) ≡ length V
length_zeroed l [] V = refl
length_zeroed l (x ∷ xs) V = length_zeroed l xs (slice_set V x (zeros l)) ∙ length-set V x (zeros l)

-- ---- what stands in the slots

module _ (table : Table) (marks : List Bool) (s : ℕ) where
  pub marked_empty : (low : ℕ) → AreMarkedBetween table marks s low low []
  marked_empty low = record { order = tt; each = λ b. (λ e. absurd (false≢true e), λ h. absurd (let at = h.1 in omega (arith, at.from, at.before))) }

  at_slot : (b slot : ℕ) → StandsBetween table b s slot (slot + 1) → StandsIn table b s slot
  at_slot b slot there =
      let same : there.slot ≡ slot = omega (arith, there.from, there.before) in
      subst (λ (k : ℕ). StandsIn table b s k) same there.stands

  -- no marked block stands in a slot
  pub marked_none : (slot : ℕ) → ((b : ℕ) → is_marked marks b ≡ true → StandsIn table b s slot → ⊥) → AreMarkedBetween table marks s slot (slot + 1) []
  marked_none slot none = record { order = tt; each = λ b. (λ e. absurd (false≢true e), λ h. absurd (none b h.0 (at_slot b slot h.1))) }

  -- a marked block stands in a slot
  pub marked_one : (b slot : ℕ) → IsTable table → is_marked marks b ≡ true → StandsIn table b s slot → AreMarkedBetween table marks s slot (slot + 1) (b ∷ [])
  marked_one b slot is mark stands = record {
    order = (slot, omega arith, omega arith, stands, tt);
    each = λ c. (
      λ e.
          let same = sym (among_one b c e) in (
            subst (λ (a : ℕ). is_marked marks a ≡ true) same mark,
            subst (λ (a : ℕ). StandsBetween table a s slot (slot + 1)) same
                (record { slot = slot; stands = stands; from = omega arith; before = omega arith }),
          ),
      λ h. subst (λ (a : ℕ). is_among (b ∷ []) a ≡ true) (is.one_block b c s slot stands (at_slot c slot h.1)) (among_self b),
    );
  }

-- the block in a slot isn't marked, so none that stands there is
pub unmarked_one : (table : Table) (marks : List Bool) (s slot block : ℕ) → IsTable table → StandsIn table block s slot → is_marked marks block ≡ false
    → IsUnmarkedAt table marks s slot
unmarked_one table marks s slot block is stands unmarked b there = ap (is_marked marks) (is.one_block b block s slot there stands) ∙ unmarked

-- what stands behind a run of slots stood there before it
pub unmarked_before : (old new : Table) (marks : List Bool) (s low high : ℕ) (V W : Volume) (xs : List ℕ) → IsTable old
    → Reaps old V s low high (is_among xs) new W → IsUnmarkedAt new marks s high → IsUnmarkedAt old marks s high
unmarked_before old new marks s low high V W xs is reaps unmarked b there = by_test (is_among xs b) refl
  where
    by_test : (t : Bool) → is_among xs b ≡ t → is_marked marks b ≡ false
    by_test true e = absurd (none_lower old is b s low high reaps.run there (reaps.passed b e))
    by_test false e = unmarked b (subst (λ (sites : List Site). Contains sites (record { boundary = s; slot = high }))
        (sym (reaps.sites b ∙ ap (λ (t : Bool). if t then [] else sites_in old b) e)) there)

order_wider : (table : Table) (s low mid high : ℕ) (ys : List ℕ) → low ≤ mid → StandInOrder table s mid high ys → StandInOrder table s low high ys
order_wider table s low mid high [] less order = tt
order_wider table s low mid high (b ∷ ys) less order = (order.0, omega (arith, less, order.1), order.2, order.3, order.4)

-- one run of slots and the next one
module _ (old mid new : Table) (marks : List Bool) (s low at high : ℕ) (V W X : Volume) (xs ys : List ℕ)
    (first : Reaps old V s low at (is_among xs) mid W) (second : Reaps mid W s at high (is_among ys) new X) where
  -- what stands after the first run stood before it, and only what was reaped there doesn't stand then
  was_by : (b : ℕ) (r : Bool) → is_among xs b ≡ r → (site : Site) → Contains (sites_in mid b) site → Contains (sites_in old b) site
  was_by b true e site there =
      absurd (let none : sites_in mid b ≡ [] = first.sites b ∙ ap (λ (t : Bool). if t then [] else sites_in old b) e in
      nothing (subst (λ (sites : List Site). Contains sites site) none there))
    where
      nothing : Contains [] site → ⊥
      nothing h = omega (arith, h.1)
  was_by b false e site there = subst (λ (sites : List Site). Contains sites site) (first.sites b ∙ ap (λ (t : Bool). if t then [] else sites_in old b) e) there

  stood : (b slot : ℕ) → StandsIn mid b s slot → StandsIn old b s slot
  stood b slot = was_by b (is_among xs b) refl (record { boundary = s; slot = slot })

  still : (b slot : ℕ) → is_among xs b ≡ false → StandsIn old b s slot → StandsIn mid b s slot
  still b slot e there =
      subst (λ (sites : List Site). Contains sites (record { boundary = s; slot = slot }))
      (sym (first.sites b ∙ ap (λ (t : Bool). if t then [] else sites_in old b) e)) there

  order_stood : (from : ℕ) (zs : List ℕ) → StandInOrder mid s from high zs → StandInOrder old s from high zs
  order_stood from [] order = tt
  order_stood from (b ∷ zs) order = (order.0, order.1, order.2, stood b order.0 order.3, order_stood (order.0 + 1) zs order.4)

  order_both : (from : ℕ) (zs : List ℕ) → from ≤ at → StandInOrder old s from at zs → StandInOrder mid s at high ys → StandInOrder old s from high (zs ++ ys)
  order_both from [] less front back = order_wider old s from at high ys less (order_stood at ys back)
  order_both from (b ∷ zs) less front back =
      let run = second.run in
      let before = front.2 in (
        front.0,
        front.1,
        omega (arith, run, before),
        front.3,
        order_both (front.0 + 1) zs (omega (arith, before)) front.4 back,
      )

  wider : (table : Table) (b from to : ℕ) → low ≤ from → to ≤ high → StandsBetween table b s from to → StandsBetween table b s low high
  wider table b from to less more there =
      record { slot = there.slot; stands = there.stands; from = omega (arith, less, there.from); before = omega (arith, more, there.before) }

  among_by_parts : (x y : Bool) → (x || y) ≡ true → (x ≡ true) ⊎ (y ≡ true)
  among_by_parts true y e = inl refl
  among_by_parts false y e = inr e

  among_front : (x y : Bool) → x ≡ true → (x || y) ≡ true
  among_front true y e = refl
  among_front false y e = absurd (false≢true e)

  among_back : (x y : Bool) → y ≡ true → (x || y) ≡ true
  among_back true y e = refl
  among_back false y e = e

  pub marked_both : AreMarkedBetween old marks s low at xs → AreMarkedBetween mid marks s at high ys → AreMarkedBetween old marks s low high (xs ++ ys)
  marked_both front back = record {
    order = order_both low xs first.run front.order back.order;
    each = λ b. (
      λ e. elim (among_by_parts (is_among xs b) (is_among ys b) (sym (among_both xs ys b) ∙ e)) [
        | inl x ↦ let h = (front.each b).0 x in (h.0, wider old b low at (omega arith) second.run h.1)
        | inr y ↦ let h = (back.each b).0 y in (h.0, wider old b at high first.run (omega arith) (carried b h.1))
      ],
      λ h. among_both xs ys b ∙ found b h.0 h.1 (is_among xs b) refl,
    );
  }
    where
      carried : (b : ℕ) → StandsBetween mid b s at high → StandsBetween old b s at high
      carried b there = record { slot = there.slot; stands = stood b there.slot there.stands; from = there.from; before = there.before }

      found : (b : ℕ) → is_marked marks b ≡ true → StandsBetween old b s low high → (x : Bool) → is_among xs b ≡ x → (is_among xs b || is_among ys b) ≡ true
      found b mark there true e = among_front (is_among xs b) (is_among ys b) e
      found b mark there false e = elim (cases_lt there.slot at) [
        | inl less ↦ among_front (is_among xs b) (is_among ys b) ((front.each b).1 (mark, record { slot = there.slot; stands = there.stands; from = there.from; before = less }))
        | inr past ↦ among_back (is_among xs b) (is_among ys b)
            ((back.each b).1 (mark, record { slot = there.slot; stands = still b there.slot e there.stands; from = past; before = there.before }))
      ]

  values_by : {A : Type 0} (x y : Bool) (none a b c : A) → c ≡ (if y then none else b) → b ≡ (if x then none else a) → c ≡ (if x || y then none else a)
  values_by true true none a b c back front = back
  values_by true false none a b c back front = back ∙ front
  values_by false true none a b c back front = back
  values_by false false none a b c back front = back ∙ front

  pub reaps_both : Reaps old V s low high (is_among (xs ++ ys)) new X
  reaps_both =
      let same : mid.shape ≡ old.shape = first.shape in
      let within : at ≤ old.shape.k + 1 = first.within in
      let k : mid.shape.k ≡ old.shape.k = ap (λ sh. sh.k) same in
      let more = second.within in
      record {
        run = omega (arith, first.run, second.run);
        within = omega (arith, k, more);
        passed = λ b e. elim (among_by_parts (is_among xs b) (is_among ys b) (sym (among_both xs ys b) ∙ e)) [
          | inl x ↦ wider old b low at (omega arith) second.run (first.passed b x)
          | inr y ↦
              let there = second.passed b y in
              wider old b at high first.run (omega arith) (record { slot = there.slot; stands = stood b there.slot there.stands; from = there.from; before = there.before })
        ];
        shape = second.shape ∙ same;
        rows = second.rows ∙ first.rows;
        sites = λ b.
            values_by (is_among xs b) (is_among ys b) [] (sites_in old b) (sites_in mid b) (sites_in new b) (second.sites b) (first.sites b)
            ∙ ap (λ (t : Bool). if t then [] else sites_in old b) (sym (among_both xs ys b));
        count = second.count ∙ first.count;
        values = λ b.
            values_by (is_among xs b) (is_among ys b) (zeros old.shape.l) (block_in V b) (block_in W b) (block_in X b)
            (second.values b ∙ ap (λ (n : ℕ). if is_among ys b then zeros n else block_in W b) (ap (λ sh. sh.l) same)) (first.values b)
            ∙ ap (λ (t : Bool). if t then zeros old.shape.l else block_in V b) (sym (among_both xs ys b));
      }

-- ---- one slot

-- nothing was reaped
pub reaps_none : (table : Table) (V : Volume) (s low high : ℕ) → low ≤ high → high ≤ table.shape.k + 1 → Reaps table V s low high (is_among []) table V
reaps_none table V s low high run within = record {
  run = run;
  within = within;
  passed = λ b e. absurd (false≢true e);
  shape = refl;
  rows = refl;
  sites = λ b. refl;
  count = refl;
  values = λ b. refl;
}

set_if : {A : Type 0} (xs : List A) (b c : ℕ) (none d : A) → b < length xs → get_or (slice_set xs b none) c d ≡ (if is_among (b ∷ []) c then none else get_or xs c d)
set_if xs b c none d within = elim (cases_eq c b) [
  | inl same ↦
      ap (λ (a : ℕ). get_or (slice_set xs b none) a d) same
      ∙ get_or-set_same xs b none d within
      ∙ sym (ap (λ (t : Bool). if t then none else get_or xs c d) (ap (is_among (b ∷ [])) same ∙ among_self b))
  | inr other ↦
      get_or-set_other xs b c none d other
      ∙ sym (ap (λ (t : Bool). if t then none else get_or xs c d) (among_other b c other))
]

-- the block of a slot was reaped
pub reaps_one : (table : Table) (V : Volume) (s slot b : ℕ) → slot < table.shape.k + 1 → StandsIn table b s slot → b < length table.rows → b < length V
    → Reaps table V s slot (slot + 1) (is_among (b ∷ [])) (record table { rows = slice_set table.rows b [] }) (slice_set V b (zeros table.shape.l))
reaps_one table V s slot b below stands row within = record {
  run = omega arith;
  within = omega (arith, below);
  passed = λ c e. subst (λ (a : ℕ). StandsBetween table a s slot (slot + 1)) (sym (among_one b c e))
      (record { slot = slot; stands = stands; from = omega arith; before = omega arith });
  shape = refl;
  rows = length-set table.rows b [];
  sites = λ c. set_if table.rows b c [] [] row;
  count = length-set V b (zeros table.shape.l);
  values = λ c. set_if V b c (zeros table.shape.l) [] within;
}
