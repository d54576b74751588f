-- Cores of sound arrays, and what a step leaves of them where no count of faults rises.
use Rattle.std.proofs.Common.{◌≡◌, ◌<◌, ℕ, true, false, List, [], ◌∷◌, sym, ◌∙◌, ap, subst, inl, inr}
use Rattle.std.proofs.lemmas.Bool.{and_parts, cases_eq, false≢true}
use Rattle.std.proofs.lemmas.List.Elements.{All-head}
use Rattle.dg_model.specs.Causes.{NoneRose}
use Rattle.dg_model.specs.Changes.{Goes, LosesSites, Stays}
use Rattle.dg_model.specs.Members.{IsStruck, is_filling, is_lost}
use Rattle.dg_model.specs.Sites.{all_lost, has_site}
use Rattle.dg_model.specs.States.{State, has_lost}
use Rattle.dg_model.specs.Tables.{Table, sites_in}
use Rattle.dg_model.specs.declared.shapes.Shape.{Shape}
use Rattle.dg_model.specs.declared.sites.Site.{Site}
use Rattle.dg_model.specs.declared.members.MemberState.{MemberState}
use Rattle.dg_model.proofs.FirstSites.{AreBelow, IsInside, sited_inside}
use Rattle.dg_model.proofs.MemberLaws.{has_lost_at, stays_where_none}
use Rattle.dg_uses.specs.Views.{Core, Struck, Wrote, core_of}

-- no member is being refilled
abbrev pub NoneFills : (ℕ → MemberState) → Type 0
NoneFills members = (q : ℕ) → is_filling (members q) ≡ false

-- the core of an array of this shape on which no member is being refilled
pub record Sound (shape : Shape) (core : Core) : Type 0 where
  pub inside : IsInside shape core.table
  pub whole : NoneFills core.members
  pub boundaries : 0 < shape.b
  pub bytes : 0 < shape.l

pub core_is : (x y : Core) → x.table ≡ y.table → x.blocks ≡ y.blocks → x.members ≡ y.members → x ≡ y
core_is x y t b m = λ i. record { table = t i; blocks = b i; members = m i }

pub same_core : (old new : State) → new ≡ old → core_of new ≡ core_of old
same_core old new e = ap (λ (s : State). core_of s) e

pub same_sound : (shape : Shape) (old new : Core) → Sound shape old → new ≡ old → Sound shape new
same_sound shape old new sound e = subst (λ (c : Core). Sound shape c) (sym e) sound

-- ---- members

pub goes_members : (old new : State) → Goes old new → NoneRose old.counts.faults new.counts.faults → NoneFills old.members → new.members ≡ old.members
goes_members old new goes none whole = λ i q. stays_where_none old.counts.faults new.counts.faults old.members new.members none whole goes.members q i

pub stays_core : (old new : State) → Stays old new → NoneRose old.counts.faults new.counts.faults → NoneFills old.members → core_of new ≡ core_of old
stays_core old new h none whole =
    core_is (core_of new) (core_of old) (ap (λ (s : State). s.table) h.rest) (ap (λ (s : State). s.blocks) h.rest) (goes_members old new h.goes none whole)

struck_other : (k : ℕ) (m x : ℕ → MemberState) → NoneFills m → IsStruck k m x → (q : ℕ) → (q ≡ k → ⊥) → x q ≡ m q
struck_other k m x whole struck q other = elim (struck.others q other) [
  | inl same ↦ same
  | inr filled ↦ absurd (false≢true (sym (whole q) ∙ filled.0))
]

pub struck_same : (k : ℕ) (m x y : ℕ → MemberState) → NoneFills m → IsStruck k m x → IsStruck k m y → (q : ℕ) → x q ≡ y q
struck_same k m x y whole one two q = elim (cases_eq q k) [
  | inl same ↦ ap x same ∙ one.out ∙ sym two.out ∙ sym (ap y same)
  | inr other ↦ struck_other k m x whole one q other ∙ sym (struck_other k m y whole two q other)
]

struck_fills : (k : ℕ) (m x : ℕ → MemberState) → NoneFills m → IsStruck k m x → NoneFills x
struck_fills k m x whole struck q = elim (cases_eq q k) [
  | inl same ↦ ap is_filling (ap x same ∙ struck.out)
  | inr other ↦ ap is_filling (struck_other k m x whole struck q other) ∙ whole q
]

pub struck_sound : (shape : Shape) (old : Core) (k : ℕ) (new : Core) → Sound shape old → Struck old k new → Sound shape new
struck_sound shape old k new sound h = record {
  inside = subst (λ (t : Table). IsInside shape t) (sym (ap (λ (c : Core). c.table) h.rest)) sound.inside;
  whole = struck_fills k old.members new.members sound.whole h.members;
  boundaries = sound.boundaries;
  bytes = sound.bytes;
}

-- ---- sites

lost_site : (n : ℕ) (m : ℕ → MemberState) (sites : List Site) → has_site sites ≡ true → AreBelow n sites → all_lost m sites ≡ true
    → (s : ℕ) × (s < n) × (is_lost m s ≡ true)
lost_site n m [] has below lost = absurd (false≢true has)
lost_site n m (x ∷ xs) has below lost =
    (x.boundary, All-head (λ (site : Site). site.boundary < n) x xs below, (and_parts (is_lost m x.boundary) (all_lost m xs) lost).0)

-- of an array with no lost boundary a write doesn't lose the sites
pub keeps_sites : (shape : Shape) (table : Table) (b : ℕ) (members : ℕ → MemberState) → 0 < shape.b → b < shape.n → IsInside shape table
    → LosesSites table b members → has_lost shape members ≡ true
keeps_sites shape table b members some below inside h =
    let there = sited_inside shape table b h.sited some below inside h.is in
    let found = lost_site shape.b members (sites_in h.sited b) there.1 (there.0.sites b) h.lost in
    has_lost_at shape members found.0 found.1 found.2

pub wrote_sound : (shape : Shape) (old : Core) (b : ℕ) (bytes : List ℕ) (new : Core) → b < old.table.shape.n → Sound shape old → Wrote old b bytes new
    → Sound shape new
wrote_sound shape old b bytes new below sound h = record {
  inside =
      (sited_inside shape old.table b new.table sound.boundaries (subst (λ (t : Shape). b < t.n) sound.inside.numbers below) sound.inside h.sited).0;
  whole = subst (λ (m : ℕ → MemberState). NoneFills m) (sym h.members) sound.whole;
  boundaries = sound.boundaries;
  bytes = sound.bytes;
}
