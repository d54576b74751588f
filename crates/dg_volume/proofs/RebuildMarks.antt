-- The marks by which a refill reaps blocks, and small facts of its answers.
use Rattle.std.proofs.Common.{◌≡◌, ◌∙◌, ◌+◌, ◌*◌, ◌/◌, ◌⊎◌, ◌&&◌, ℕ, Bool, true, false, List, [], ◌∷◌, inl, inr, refl, sym, ap, subst, arith, ◌≤◌}
use Rattle.std.specs.Prelude.{IfSome, IsSome, None, Option, Some, is_some, not}
use Rattle.std.proofs.lemmas.Bool.{cases_eq, false≢true}
use Rattle.std.specs.List.{Contains}
use Rattle.dg_infer.specs.Meanings.{KeptInference}
use Rattle.dg_infer.specs.Meanings as inferences
use Rattle.dg_infer.specs.Wants.{IsWantBy}
use Rattle.dg_io.specs.declared.outside.Rack.{Ghosts}
use Rattle.dg_model.specs.Marks.{IsDead, is_marked}
use Rattle.dg_model.specs.Members.{is_good, is_lost, partner_of}
use Rattle.dg_model.specs.Refills.{Reaps}
use Rattle.dg_model.specs.Sites.{has_site}
use Rattle.dg_model.specs.Tables.{Table, sites_in}
use Rattle.dg_model.specs.Wants.{FitWants, want_of}
use Rattle.dg_model.specs.declared.members.MemberState.{MemberState}
use Rattle.dg_model.specs.declared.members.MemberState.TheVariants.{Out}
use Rattle.dg_model.specs.declared.shapes.Shape.{Shape}
use Rattle.dg_model.specs.declared.sites.Site.{Site}
use Rattle.dg_model.specs.declared.wants.Want.{Want}
use Rattle.dg_model.specs.declared.wants.Want.TheVariants.{Stray}
use Rattle.dg_rebuild.specs.Answers as answers
use Rattle.dg_rebuild.specs.Reaped.{is_among, zeroed}
use Rattle.dg_rebuild.specs.declared.rebuilds.RebuildAnswer.TheVariants.{Copied, Failed, Lost}
use Rattle.dg_store.specs.Stores.{IsSound}
use Rattle.dg_store.specs.Stores as stores
use Rattle.dg_store.specs.declared.store.Store.{Store}
use Rattle.dg_volume.proofs.ReapLaws.{zeroed_stands}
use Rattle.dg_volume.proofs.RefillLaws.{lost_none_filling}
use Rattle.dg_volume.proofs.WantedLaws.{one_want}
use Rattle.dg_volume.specs.Phases.{CanReapAll}
use Rattle.dg_volume.specs.Refills.{IsDeadMark}
use Rattle.dg_volume.specs.Volumes.{AreWantsBy, FitsArray, marks_by}

-- a block that stands somewhere has a site
pub stands_has : (sites : List Site) (site : Site) → Contains sites site → has_site sites ≡ true
stands_has [] site here = absurd (let low = here.1 in omega (arith, low))
stands_has (x ∷ xs) site here = refl

pub if_some : {A : Type 0} (o : Option A) {P Q : A → Type 0} → ((a : A) → P a → Q a) → IfSome o P → IfSome o Q
if_some None go h = tt
if_some (Some a) go h = go a h

-- ---- marks

module _ {R : Type 0} (store : Store R) where
  -- a marked block is no wanted one
  pub stray_at : (kept : Option KeptInference) (marks : List Bool) (wants : List (Option Want)) → FitWants (stores.table_of store) wants
      → ((b : ℕ) → is_marked marks b ≡ true → IsSome kept) → IfSome kept (λ inference. (b : ℕ) → is_marked marks b ≡ true → IsDeadMark (stores.table_of store) inference b true)
      → IfSome kept (λ inference. AreWantsBy inference wants) → (b : ℕ) → is_marked marks b ≡ true → has_site (sites_in (stores.table_of store) b) ≡ true → want_of wants b ≡ Some Stray
  stray_at None marks wants fit some safe by b marked written = absurd (let none = some b marked in cc none)
  stray_at (Some inference) marks wants fit some safe by b marked written = at_want (want_of wants b) refl
    where
      stray : IsWantBy inference b Stray
      stray = let is = safe b marked in is.stray refl

      at_want : (w : Option Want) → want_of wants b ≡ w → want_of wants b ≡ Some Stray
      at_want None e = absurd (false≢true (sym (ap is_some e) ∙ fit.written b ∙ written))
      at_want (Some want) e = e ∙ ap Some (one_want inference b want Stray (by b want e) stray)

  -- a marked block isn't pending
  pub mark_free : (kept : Option KeptInference) (marks pending : List Bool) → ((b : ℕ) → is_marked marks b ≡ true → IsSome kept)
      → IfSome kept (λ inference. (b : ℕ) → is_marked marks b ≡ true → IsDeadMark (stores.table_of store) inference b true)
      → (b : ℕ) → is_marked marks b ≡ true → is_marked (marks_by kept pending) b ≡ false
  mark_free None marks pending some safe b marked = absurd (let none = some b marked in cc none)
  mark_free (Some inference) marks pending some safe b marked = let is = safe b marked in is.pending refl

  -- it is dead
  pub mark_dead : (kept : Option KeptInference) (marks pending : List Bool) → ((b : ℕ) → is_marked marks b ≡ true → IsSome kept)
      → IfSome kept (λ inference. (b : ℕ) → is_marked marks b ≡ true → IsDeadMark (stores.table_of store) inference b true)
      → (V : List (List ℕ)) → IfSome kept (λ inference. inferences.StandsFor inference V) → (b : ℕ) → is_marked marks b ≡ true → IsDead (stores.table_of store) V (marks_by kept pending) b
  mark_dead None marks pending some safe V held b marked = absurd (let none = some b marked in cc none)
  mark_dead (Some inference) marks pending some safe V held b marked = let is = safe b marked in (is.is V held).0 refl

  -- where any may be reaped, each dead block is marked
  pub dead_mark : (kept : Option KeptInference) (marks pending : List Bool) → IsSome kept
      → IfSome kept (λ inference. (b : ℕ) → IsDeadMark (stores.table_of store) inference b (is_marked marks b))
      → (V : List (List ℕ)) → IfSome kept (λ inference. inferences.StandsFor inference V) → (b : ℕ) → IsDead (stores.table_of store) V (marks_by kept pending) b → is_marked marks b ≡ true
  dead_mark None marks pending some each V held b dead = absurd (cc some)
  dead_mark (Some inference) marks pending some each V held b dead = let is = each b in (is.is V held).1 dead

-- what is inferred stands where dead blocks are zeros
pub reaped_stands : (kept : Option KeptInference) (table : Table) (shape : Shape) → table.shape ≡ shape → (marks : List Bool) (blocks : List ℕ) → IfSome kept (FitsArray shape)
    → IfSome kept (λ inference. (b : ℕ) → is_marked marks b ≡ true → IsDeadMark table inference b true) → IfSome kept (λ inference. CanReapAll inference blocks)
    → ((b : ℕ) → is_among blocks b ≡ true → is_marked marks b ≡ true) → (V : List (List ℕ)) → IfSome kept (λ inference. inferences.StandsFor inference V)
    → IfSome kept (λ inference. inferences.StandsFor inference (zeroed shape.l blocks V))
reaped_stands None table shape same marks blocks fits safe can marked V held = tt
reaped_stands (Some inference) table shape same marks blocks fits safe can marked V held =
    subst (λ (l : ℕ). inferences.StandsFor inference (zeroed l blocks V)) fits.bytes
    (zeroed_stands inference table marks (ap (λ (x : Shape). x.l) same ∙ sym fits.bytes) (ap (λ (x : Shape). x.n) same ∙ sym fits.number)
    (λ b m W stands. let is = safe b m in (is.is W stands).0 refl) blocks can marked V held)

-- a boundary of which both members are out is lost
pub both_out : (members : ℕ → MemberState) (s q : ℕ) → q / 2 ≡ s → members q ≡ Out → members (partner_of q) ≡ Out → is_lost members s ≡ false → ⊥
both_out members s q at out other live = elim (cases_eq q (2 * s)) [
  | inl here ↦
      let next : partner_of q ≡ 2 * s + 1 = omega (arith, here, at) in
      false≢true (sym live ∙ lost_by (subst (λ (p : ℕ). members p ≡ Out) here out) (subst (λ (p : ℕ). members p ≡ Out) next other))
  | inr apart ↦
      let here : q ≡ 2 * s + 1 = omega (arith, apart, at) in
      let first : partner_of q ≡ 2 * s = omega (arith, here) in
      false≢true (sym live ∙ lost_by (subst (λ (p : ℕ). members p ≡ Out) first other) (subst (λ (p : ℕ). members p ≡ Out) here out))
]
  where
    lost_by : members (2 * s) ≡ Out → members (2 * s + 1) ≡ Out → is_lost members s ≡ true
    lost_by one two =
        ap (λ (x : MemberState). not (is_good x) && not (is_good (members (2 * s + 1)))) one ∙ ap (λ (x : MemberState). true && not (is_good x)) two

-- no slot was passed
pub none_passed : (table : Table) (V : List (List ℕ)) (s slot : ℕ) → slot ≤ table.shape.k + 1 → Reaps table V s slot slot (λ c. false) table V
none_passed table V s slot low = record {
  run = omega arith;
  within = low;
  passed = λ c e. absurd (false≢true e);
  shape = refl;
  rows = refl;
  sites = λ c. refl;
  count = refl;
  values = λ c. refl;
}

pub copied_not_lost : (d l s : ℕ) → Lost s ≡ Copied d l → ⊥
copied_not_lost d l s e = cc e

pub failed_not_lost : (s : ℕ) → Lost s ≡ Failed → ⊥
failed_not_lost s e = cc e

-- of a boundary that is lost no member is refilled
pub by_loss : {R : Type 0} (rack : Ghosts R) (m : Store R) (s : ℕ) (lost : Bool) → is_lost (stores.members_of m) s ≡ lost → IsSound rack m
    → answers.HasNoFilling (stores.members_of m) s ⊎ (is_lost (stores.members_of m) s ≡ false)
by_loss rack m s true is sound = inl (lost_none_filling (stores.members_of m) s sound.paired is)
by_loss rack m s false is sound = inr is
