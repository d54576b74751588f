-- The blocks that a store stands for, as its slots and its table change.
use Rattle.std.proofs.Common.{◌≡◌, ◌≢◌, inl, inr, ℕ, ◌+◌, ◌<◌, true, List, [], length, refl, sym, ◌∙◌, ap, subst, arith, get_or}
use Rattle.std.specs.Prelude.{Option, replicate, slice_set}
use Rattle.std.specs.List.{Contains}
use Rattle.std.proofs.lemmas.Bool.{cases_eq, cases_lt}
use Rattle.std.proofs.lemmas.List.{get_or-replicate, get_or-set_same, get_or-set_other, get_or_past, length-replicate, length-set}
use Rattle.std.proofs.lemmas.List.Elements.{All-contains, All-nil, All-push, Contains-append_left, Contains-get_or}
use Rattle.dg_model.specs.Members.{SlotHolds}
use Rattle.dg_model.specs.Sites.{has_site}
use Rattle.dg_model.specs.Blocks.{block_in, zeros}
use Rattle.dg_model.specs.States.{StandsFor}
use Rattle.dg_model.specs.Tables.{Table, IsFree, IsTable, empty_table, put_site, sites_in, without_site}
use Rattle.dg_model.specs.declared.shapes.Shape.{Shape}
use Rattle.dg_model.specs.declared.sites.Site.{Site}
use Rattle.dg_model.specs.declared.members.MemberState.{MemberState}
use Rattle.dg_store.specs.Answers.{reaped}
use Rattle.dg_store.specs.Evictions.{IsThinned}
use Rattle.dg_store.specs.Slots.{KeepsSlots, KeepsOtherSlots, KeepsSlotsBut, SitesHold}
use Rattle.dg_store.proofs.PlaceLemmas.{IsHeld, site_is}
use Rattle.dg_store.proofs.TableLemmas.{put_here, put_other, has_put, without_here, without_other, has_off, has_some, off_within}

-- each block has some of its sites, and at least one where it had one; but for one block
pub record IsFewerBut (b : ℕ) (old new : Table) : Type 0 where
  pub shape : new.shape ≡ old.shape
  pub sites : (c : ℕ) (site : Site) → c ≢ b → Contains (sites_in new c) site → Contains (sites_in old c) site
  pub written : (c : ℕ) → c ≢ b → has_site (sites_in new c) ≡ has_site (sites_in old c)

-- the same of each block
pub record IsFewer (old new : Table) : Type 0 where
  pub shape : new.shape ≡ old.shape
  pub sites : (c : ℕ) (site : Site) → Contains (sites_in new c) site → Contains (sites_in old c) site
  pub written : (c : ℕ) → has_site (sites_in new c) ≡ has_site (sites_in old c)

pub thinned_fewer : (old new : Table) → IsThinned old new → IsFewer old new
thinned_fewer old new thinned = record {
  shape = thinned.shape;
  sites = λ c site in_new. subst (λ (xs : List Site). Contains xs site) (sym (thinned.front c).1) (Contains-append_left (sites_in new c) (thinned.front c).0 site in_new);
  written = thinned.written;
}

-- a block has its first site, and the others have some of theirs
pub first_fewer : (old new : Table) (b s : ℕ) → IsThinned old (without_site new b s) → IsFewerBut b old new
first_fewer old new b s thinned =
    let fewer = thinned_fewer old (without_site new b s) thinned in
    record {
      shape = fewer.shape;
      sites = λ c site other in_new. fewer.sites c site (subst (λ (xs : List Site). Contains xs site) (sym (without_other new b s c other)) in_new);
      written = λ c other. ap has_site (sym (without_other new b s c other)) ∙ fewer.written c;
    }

pub same_fewer : (b : ℕ) (table : Table) → IsFewerBut b table table
same_fewer b table = record { shape = refl; sites = λ c site other in_new. in_new; written = λ c other. refl }

-- a block that has more than one site gives one up
pub without_fewer : (table : Table) (b s : ℕ) → IsTable table → b < table.shape.n → 1 < length (sites_in table b) → IsFewer table (without_site table b s)
without_fewer table b s is below more =
    let within : b < length table.rows = omega (arith, is.size, below) in
    record {
      shape = refl;
      sites = λ c site. elim (cases_eq c b) [
        | inl here ↦ λ in_new.
            subst (λ (e : ℕ). Contains (sites_in table e) site) (sym here)
            (off_within s (sites_in table b) site
            (subst (λ (xs : List Site). Contains xs site) (without_here table b s within)
            (subst (λ (e : ℕ). Contains (sites_in (without_site table b s) e) site) here in_new)))
        | inr other ↦ λ in_new. subst (λ (xs : List Site). Contains xs site) (without_other table b s c other) in_new
      ];
      written = λ c. elim (cases_eq c b) [
        | inl here ↦
            ap (λ (e : ℕ). has_site (sites_in (without_site table b s) e)) here
            ∙ ap has_site (without_here table b s within)
            ∙ has_off s (sites_in table b) more (is.one_site b s)
            ∙ sym (has_some (sites_in table b) (omega (arith, more)))
            ∙ ap (λ (e : ℕ). has_site (sites_in table e)) (sym here)
        | inr other ↦ ap has_site (without_other table b s c other)
      ];
    }

module _ (members : ℕ → MemberState) (bytes : ℕ → Option (List ℕ)) (V : List (List ℕ)) where
  pub stands_fewer : (old new : Table) → IsFewer old new → StandsFor old members bytes V → StandsFor new members bytes V
  stands_fewer old new fewer st =
      let size : new.shape.n ≡ old.shape.n = ap (λ (s : Shape). s.n) fewer.shape in
      let bytes_is : new.shape.l ≡ old.shape.l = ap (λ (s : Shape). s.l) fewer.shape in
      record {
        size = st.size ∙ sym size;
        blank = λ c below none. st.blank c (omega (arith, below, size)) (sym (fewer.written c) ∙ none) ∙ ap zeros (sym bytes_is);
        held = λ c below k d within.
            let site = get_or (sites_in new c) k d in
            subst (λ (l : ℕ). SlotHolds l members bytes site.boundary site.slot (block_in V c)) (sym bytes_is)
            (All-contains (IsHeld old.shape.l members bytes (block_in V c)) (sites_in old c) site (st.held c (omega (arith, below, size))) (fewer.sites c site (Contains-get_or (sites_in new c) k d within)));
      }

  -- a block has one more site, which has its bytes
  pub stands_put : (table : Table) (b : ℕ) (site : Site) → IsTable table → b < table.shape.n → SlotHolds table.shape.l members bytes site.boundary site.slot (block_in V b)
      → StandsFor table members bytes V → StandsFor (put_site table b site) members bytes V
  stands_put table b site is range put st =
      let within : b < length table.rows = omega (arith, is.size, range) in
      record {
        size = st.size;
        blank = λ c below none. elim (cases_eq c b) [
          | inl here ↦ absurd (
              let has = ap (λ (e : ℕ). has_site (sites_in (put_site table b site) e)) here ∙ ap has_site (put_here table b site within) ∙ has_put (sites_in table b) site in
              cc (sym has ∙ none))
          | inr other ↦ st.blank c below (ap has_site (sym (put_other table b site c other)) ∙ none)
        ];
        held = λ c below. elim (cases_eq c b) [
          | inl here ↦
              subst (λ (e : ℕ). SitesHold table.shape.l members bytes (block_in V e) (sites_in (put_site table b site) e)) (sym here)
              (subst (λ (xs : List Site). SitesHold table.shape.l members bytes (block_in V b) xs) (sym (put_here table b site within))
              (All-push (IsHeld table.shape.l members bytes (block_in V b)) (sites_in table b) site (st.held b range) put))
          | inr other ↦ subst (λ (xs : List Site). SitesHold table.shape.l members bytes (block_in V c) xs) (sym (put_other table b site c other)) (st.held c below)
        ];
      }

module _ (old new : ℕ → MemberState) (before now : ℕ → Option (List ℕ)) (V : List (List ℕ)) where
  -- where each slot has what it had, each block has its value
  pub stands_kept : (table : Table) → KeepsSlots table.shape.l old before new now → StandsFor table old before V → StandsFor table new now V
  stands_kept table kept st = record {
    size = st.size;
    blank = st.blank;
    held = λ b below k d within. kept _ _ _ (st.held b below k d within);
  }

  -- a free slot was written
  pub stands_free : (table : Table) (s at : ℕ) → IsFree table s at → KeepsOtherSlots table.shape.l s at old before new now → StandsFor table old before V → StandsFor table new now V
  stands_free table s at free kept st = record {
    size = st.size;
    blank = st.blank;
    held = λ b below k d within.
        let site = get_or (sites_in table b) k d in
        kept site.boundary site.slot (block_in V b)
        (λ here same. free b (subst (λ (x : Site). Contains (sites_in table b) x) (site_is site s at here same) (Contains-get_or (sites_in table b) k d within)))
        (st.held b below k d within);
  }

  -- a block was written at each of its sites
  pub stands_written : (a c : Table) (b : ℕ) (v : List ℕ) → IsTable c → b < a.shape.n → IsFewerBut b a c → has_site (sites_in c b) ≡ true
      → KeepsSlotsBut c.shape.l (sites_in c b) old before new now → SitesHold c.shape.l new now v (sites_in c b)
      → StandsFor a old before V → StandsFor c new now (slice_set V b v)
  stands_written a c b v is range fewer has kept put st =
      let size : c.shape.n ≡ a.shape.n = ap (λ (s : Shape). s.n) fewer.shape in
      let bytes_is : c.shape.l ≡ a.shape.l = ap (λ (s : Shape). s.l) fewer.shape in
      let within : b < length V = omega (arith, st.size, range) in
      record {
        size = length-set V b v ∙ st.size ∙ sym size;
        blank = λ e below none. elim (cases_eq e b) [
          | inl here ↦ absurd (let some = ap (λ (x : ℕ). has_site (sites_in c x)) here ∙ has in cc (sym some ∙ none))
          | inr other ↦
              get_or-set_other V b e v [] other
              ∙ st.blank e (omega (arith, below, size)) (sym (fewer.written e other) ∙ none)
              ∙ ap zeros (sym bytes_is)
        ];
        held = λ e below. elim (cases_eq e b) [
          | inl here ↦
              subst (λ (x : ℕ). SitesHold c.shape.l new now (block_in (slice_set V b v) x) (sites_in c x)) (sym here)
              (subst (λ (u : List ℕ). SitesHold c.shape.l new now u (sites_in c b)) (sym (get_or-set_same V b v [] within)) put)
          | inr other ↦ λ k d there.
              let site = get_or (sites_in c e) k d in
              let in_e = Contains-get_or (sites_in c e) k d there in
              let had = All-contains (IsHeld a.shape.l old before (block_in V e)) (sites_in a e) site (st.held e (omega (arith, below, size))) (fewer.sites e site other in_e) in
              subst (λ (u : List ℕ). SlotHolds c.shape.l new now site.boundary site.slot u) (sym (get_or-set_other V b e v [] other))
              (kept site.boundary site.slot (block_in V e)
              (λ in_b. other (is.one_block e b site.boundary site.slot in_e in_b))
              (subst (λ (l : ℕ). SlotHolds l old before site.boundary site.slot (block_in V e)) (sym bytes_is) had))
        ];
      }

-- ---- a store that begins, and blocks that are reaped

no_rows : (shape : Shape) (b : ℕ) → sites_in (empty_table shape) b ≡ []
no_rows shape b = elim (cases_lt b shape.n) [
  | inl below ↦ get_or-replicate shape.n b [] [] below
  | inr past ↦ get_or_past (replicate shape.n []) b [] (omega (arith, length-replicate {A = List Site} shape.n []))
]

pub stands_blank : (members : ℕ → MemberState) (bytes : ℕ → Option (List ℕ)) (shape : Shape) → StandsFor (empty_table shape) members bytes (replicate shape.n (zeros shape.l))
stands_blank members bytes shape = record {
  size = length-replicate shape.n (zeros shape.l);
  blank = λ b below none. get_or-replicate shape.n b (zeros shape.l) [] below;
  held = λ b below. subst (λ (xs : List Site). SitesHold shape.l members bytes (block_in (replicate shape.n (zeros shape.l)) b) xs) (sym (no_rows shape b)) (All-nil _);
}

-- block b has no site any more
pub stands_reaped : (members : ℕ → MemberState) (bytes : ℕ → Option (List ℕ)) (V : List (List ℕ)) (table : Table) (b : ℕ) → IsTable table → b < table.shape.n
    → StandsFor table members bytes V → StandsFor (reaped table b) members bytes (slice_set V b (zeros table.shape.l))
stands_reaped members bytes V table b is range st =
    let within : b < length V = omega (arith, st.size, range) in
    let long : b < length table.rows = omega (arith, is.size, range) in
    let value = slice_set V b (zeros table.shape.l) in
    let here : sites_in (reaped table b) b ≡ [] = get_or-set_same table.rows b [] [] long in
    record {
      size = length-set V b (zeros table.shape.l) ∙ st.size;
      blank = λ e below none. elim (cases_eq e b) [
        | inl same ↦ ap (λ (x : ℕ). block_in value x) same ∙ get_or-set_same V b (zeros table.shape.l) [] within
        | inr other ↦
            get_or-set_other V b e (zeros table.shape.l) [] other
            ∙ st.blank e below (sym (ap has_site (get_or-set_other table.rows b e [] [] other)) ∙ none)
      ];
      held = λ e below. elim (cases_eq e b) [
        | inl same ↦ subst (λ (xs : List Site). SitesHold table.shape.l members bytes (block_in value e) xs) (sym (ap (sites_in (reaped table b)) same ∙ here)) (All-nil _)
        | inr other ↦
            subst (λ (u : List ℕ). SitesHold table.shape.l members bytes u (sites_in (reaped table b) e)) (sym (get_or-set_other V b e (zeros table.shape.l) [] other))
            (subst (λ (xs : List Site). SitesHold table.shape.l members bytes (block_in V e) xs) (sym (get_or-set_other table.rows b e [] [] other)) (st.held e below))
      ];
    }

-- each slot of the array has what it had
pub stands_below : (old new : ℕ → MemberState) (before now : ℕ → Option (List ℕ)) (V : List (List ℕ)) (table : Table) → IsTable table
    → ((t slot : ℕ) (v : List ℕ) → slot < table.shape.k + 1 → SlotHolds table.shape.l old before t slot v → SlotHolds table.shape.l new now t slot v)
    → StandsFor table old before V → StandsFor table new now V
stands_below old new before now V table is kept st = record {
  size = st.size;
  blank = st.blank;
  held = λ b below k d within.
      let site = get_or (sites_in table b) k d in
      kept site.boundary site.slot (block_in V b)
      (let low = is.slots b site.boundary site.slot (Contains-get_or (sites_in table b) k d within) in omega (arith, low))
      (st.held b below k d within);
}
