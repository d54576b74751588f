-- Lists of blocks that members hold: two of them agree on each block that isn't gone.
use Rattle.std.proofs.Common.{◌≡◌, ◌∙◌, ℕ, ◌+◌, ◌*◌, ◌/◌, ◌<◌, inl, inr, true, false, not, List, [], ◌∷◌, refl, sym, ap, subst, arith}
use Rattle.std.specs.Prelude.{Contains, IsSome, Option, Some, None}
use Rattle.std.proofs.lemmas.Bool.{and_from, and_parts, cases_Bool, false≢true}
use Rattle.std.proofs.lemmas.List.{ext_get_or}
use Rattle.std.proofs.lemmas.List.Elements.{All-contains, Contains-append_right}
use Rattle.dg_model.specs.Blocks.{block_in}
use Rattle.dg_model.specs.Members.{SlotHolds, SlotOf, is_good, is_lost, serves}
use Rattle.dg_model.specs.Sites.{all_lost, has_site, is_gone}
use Rattle.dg_model.specs.States.{StandsFor, has_lost}
use Rattle.dg_model.specs.Tables.{IsTable, Table, sites_in}
use Rattle.dg_model.specs.declared.members.MemberState.{MemberState}
use Rattle.dg_model.specs.declared.members.MemberState.TheVariants.{Good, Filling, Out}
use Rattle.dg_model.specs.declared.sites.Site.{Site}
use Rattle.dg_model.proofs.MemberLaws.{has_lost_at}

-- ---- members

pub good_is : (m : MemberState) → is_good m ≡ true → m ≡ Good
good_is Good good = refl
good_is (Filling have) good = absurd (false≢true good)
good_is Out good = absurd (false≢true good)

serves_good : (m : MemberState) (slot : ℕ) → is_good m ≡ true → serves m slot ≡ true
serves_good Good slot good = refl
serves_good (Filling have) slot good = absurd (false≢true good)
serves_good Out slot good = absurd (false≢true good)

-- a boundary that isn't lost has a good member
left_member : (members : ℕ → MemberState) (s : ℕ) → is_lost members s ≡ false → (q : ℕ) × (q / 2 ≡ s) × (is_good (members q) ≡ true)
left_member members s left = elim (cases_Bool (is_good (members (2 * s)))) [
  | inl first ↦ (2 * s, omega arith, first)
  | inr bad_first ↦ elim (cases_Bool (is_good (members (2 * s + 1)))) [
    | inl second ↦ (2 * s + 1, omega arith, second)
    | inr bad_second ↦ absurd (false≢true (sym left ∙ and_from (not (is_good (members (2 * s)))) (not (is_good (members (2 * s + 1)))) (ap not bad_first) (ap not bad_second)))
  ]
]

-- ---- sites

-- of some sites that aren't all lost one isn't
left_site : (members : ℕ → MemberState) (sites : List Site) → all_lost members sites ≡ false → (site : Site) × Contains sites site × (is_lost members site.boundary ≡ false)
left_site members [] left = absurd (false≢true (sym left))
left_site members (x ∷ xs) left = elim (cases_Bool (is_lost members x.boundary)) [
  | inl lost ↦
      let later = left_site members xs (rw lost at left) in
      (later.0, Contains-append_right (x ∷ []) xs later.0 later.1, later.2)
  | inr stands ↦ (x, (0, omega arith, refl), stands)
]

-- of some sites that are all lost the first one is
first_lost : (members : ℕ → MemberState) (sites : List Site) → has_site sites ≡ true → all_lost members sites ≡ true
    → (site : Site) × Contains sites site × (is_lost members site.boundary ≡ true)
first_lost members [] written lost = absurd (false≢true written)
first_lost members (x ∷ xs) written lost = (x, (0, omega arith, refl), (and_parts (is_lost members x.boundary) (all_lost members xs) lost).0)

-- where no boundary is lost, no block is gone
pub none_gone : (table : Table) (members : ℕ → MemberState) (b : ℕ) → IsTable table → has_lost table.shape members ≡ false → is_gone table members b ≡ false
none_gone table members b ok whole = elim (cases_Bool (is_gone table members b)) [
  | inl gone ↦
      let parts = and_parts (has_site (sites_in table b)) (all_lost members (sites_in table b)) gone in
      let first = first_lost members (sites_in table b) parts.0 parts.1 in
      absurd (false≢true (sym whole ∙ has_lost_at table.shape members first.0.boundary (ok.boundaries b first.0.boundary first.0.slot first.1) first.2))
  | inr stands ↦ stands
]

-- ---- blocks

same_slot : (l slot : ℕ) (v w : List ℕ) (told : Option (List ℕ)) → IsSome told → SlotOf l slot v told → SlotOf l slot w told → v ≡ w
same_slot l slot v w None some hv hw = absurd (false≢true some)
same_slot l slot v w (Some all) some hv hw = sym hv ∙ hw

module _ (table : Table) (members : ℕ → MemberState) (bytes : ℕ → Option (List ℕ)) (told : (q : ℕ) → is_good (members q) ≡ true → IsSome (bytes q)) where
  -- what a good member has in a slot of a block that stands there
  in_slot : (V : List (List ℕ)) → StandsFor table members bytes V → (b : ℕ) → b < table.shape.n → (site : Site) → Contains (sites_in table b) site → (q : ℕ) → q / 2 ≡ site.boundary
      → is_good (members q) ≡ true → SlotOf table.shape.l site.slot (block_in V b) (bytes q)
  in_slot V h b low site here q on good =
      All-contains (λ (x : Site). SlotHolds table.shape.l members bytes x.boundary x.slot (block_in V b)) (sites_in table b) site (h.held b low) here
      q on (serves_good (members q) site.slot good)

  pub agree : (V W : List (List ℕ)) → StandsFor table members bytes V → StandsFor table members bytes W → (b : ℕ) → b < table.shape.n → is_gone table members b ≡ false
      → block_in V b ≡ block_in W b
  agree V W v w b low stands = elim (cases_Bool (has_site (sites_in table b))) [
    | inl written ↦
        let left : all_lost members (sites_in table b) ≡ false = rw written at stands in
        let site = left_site members (sites_in table b) left in
        let member = left_member members site.0.boundary site.2 in
        same_slot table.shape.l site.0.slot (block_in V b) (block_in W b) (bytes member.0) (told member.0 member.2)
        (in_slot V v b low site.0 site.1 member.0 member.1 member.2) (in_slot W w b low site.0 site.1 member.0 member.1 member.2)
    | inr none ↦ v.blank b low none ∙ sym (w.blank b low none)
  ]

  pub agree_whole : (V W : List (List ℕ)) → IsTable table → has_lost table.shape members ≡ false → StandsFor table members bytes V → StandsFor table members bytes W → V ≡ W
  agree_whole V W ok whole v w =
      ext_get_or [] V W (v.size ∙ sym w.size)
      (λ b low. agree V W v w b (subst (λ (n : ℕ). b < n) v.size low) (none_gone table members b ok whole))
