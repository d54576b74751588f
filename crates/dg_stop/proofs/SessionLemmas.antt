-- What a double rack keeps is what an opening of the rack behind it gives.
use Rattle.std.proofs.Common.{◌≡◌, ℕ, Bool, true, false, List, [], refl, sym, ◌∙◌, ap, inl, inr, subst}
use Rattle.std.specs.Prelude.{Option, Some, None, IfSome, IsSome, if◌then◌else◌}
use Rattle.std.proofs.lemmas.Bool.{false≢true}
use Rattle.dg_io.specs.Kept.{IsNothing, Kept}
use Rattle.dg_io.specs.Told.{IsSame, Told}
use Rattle.dg_io.specs.declared.outside.Rack.{Ghosts}
use Rattle.dg_stop.proofs.BlankLemmas.{no_header_none}
use Rattle.dg_stop.proofs.ReadLemmas.{known_or}
use Rattle.dg_stop.proofs.Reopening.{none_reopened, spares_last, spares_reopened}
use Rattle.dg_stop.proofs.StepLemmas.{if_known}
use Rattle.dg_stop.specs.Changes.{Spares}
use Rattle.dg_stop.specs.Commits.{IsFresh}
use Rattle.dg_stop.specs.DoubleOpenings.{GivesKept, IsOfOne, OpensDouble, OpensPlain}
use Rattle.dg_stop.specs.Doubles.{Double, KeepsAll, double_keeps, known_in}
use Rattle.dg_stop.specs.Headers.{Header, HasHeader, HasNoHeader, entry_of, extra_of}
use Rattle.dg_stop.specs.Phases.{TellsAll, bytes_or, known_at}
use Rattle.dg_stop.specs.Reopens.{NoneCommitted, Reopened}
use Rattle.dg_stop.specs.Sessions.{DoublesGiveKept, IsFoundAgain, PlainsGiveNothing}
use Rattle.dg_stop.specs.declared.memories.Memory.{Memory}

-- ---- the same members that have headers

-- each member that has a header in one of them has the same bytes in both
pub record AreSameHeaded (a b : ℕ → List ℕ) : Type 0 where
  pub to : (q : ℕ) (h : Header) → HasHeader q (a q) h → b q ≡ a q
  pub from : (q : ℕ) (h : Header) → HasHeader q (b q) h → b q ≡ a q

module _ (a b : ℕ → List ℕ) (same : AreSameHeaded a b) where
  over : (q : ℕ) (h : Header) → HasHeader q (a q) h → HasHeader q (b q) h
  over q h has = subst (λ (l : List ℕ). HasHeader q l h) (sym (same.to q h has)) has

  back : (q : ℕ) (h : Header) → HasHeader q (b q) h → HasHeader q (a q) h
  back q h has = subst (λ (l : List ℕ). HasHeader q l h) (same.from q h has) has

  spares : (c : ℕ) → Spares c a b
  spares c = record {
    committed = λ q h has mark. back q h has;
    on = λ q h has e. over q h has;
    back = λ q h has e. back q h has;
    entry = λ q h has e. ap (entry_of h) (same.to q h has);
    extra = λ q h has e. ap (extra_of h) (same.to q h has);
  }

  spares_back : (c : ℕ) → Spares c b a
  spares_back c = record {
    committed = λ q h has mark. over q h has;
    on = λ q h has e. back q h has;
    back = λ q h has e. over q h has;
    entry = λ q h has e. ap (entry_of h) (sym (same.from q h has));
    extra = λ q h has e. ap (extra_of h) (sym (same.from q h has));
  }

  same_reopened : (p : ℕ) → IsFresh a p → (kept : Kept) → Reopened a kept → Reopened b kept
  same_reopened p fresh kept had = elim fresh [
    | inl none ↦ none_reopened a b none (λ q h has mark. none q h (back q h has) mark) kept had
    | inr last ↦ spares_reopened last.0 a b (spares last.0) last.1 kept had
  ]

  same_one : (kept : Kept) (memory : Memory) → KeepsAll memory a kept → IsOfOne b kept
  same_one kept memory keeps c q lead last leads =
      let held = keeps.anchored c (spares_last c b a (spares_back c) last) in
      let one = held.one in
      record {
        room_is = λ r h has e. one.room_is r h (back r h has) e ∙ sym (one.room_is q lead (back q lead leads.is.has) leads.is.sequence);
        count_is = λ r h has e. one.count_is r h (back r h has) e ∙ sym (one.count_is q lead (back q lead leads.is.has) leads.is.sequence);
        bytes = λ r h has e. ap (extra_of h) (same.from r h has) ∙ one.bytes r h (back r h has) e;
      }

-- ---- the members that an opening finds again

if_unknown : (b : Bool) (x : List ℕ) → b ≡ false → (if b then x else []) ≡ []
if_unknown false x is = refl
if_unknown true x is = absurd (false≢true (sym is))

headed_by : (q : ℕ) (x : List ℕ) (a b : Bool) → ((h : Header) → HasHeader q x h → b ≡ a) → (h : Header) → HasHeader q (if a then x else []) h → (if b then x else []) ≡ (if a then x else [])
headed_by q x true b again h has = ap (λ (c : Bool). if c then x else []) (again h has)
headed_by q x false b again h has = absurd (no_header_none q [] h refl has)

module _ (memory : Memory) (found : ℕ → Bool) (bytes : ℕ → Option (List ℕ)) (again : IsFoundAgain (known_in memory) found bytes) where
  found_again : AreSameHeaded (known_at (known_in memory) bytes) (known_at found bytes)
  found_again = record {
    to = λ q h has. headed_by q (bytes_or (bytes q)) (known_in memory q) (found q) (again q) h has;
    from = λ q h has. sym (headed_by q (bytes_or (bytes q)) (found q) (known_in memory q) (λ k at. sym (again q k at)) h has);
  }

-- ---- what is given

module _ {R : Type 0} (rack : Ghosts R) (it : Double R) (kept : Kept) (keeps : double_keeps rack it (Some kept)) where
  module _ (next : Double R) (extra : List ℕ) (opens : OpensDouble rack it.rack next extra) (told : TellsAll (rack.bytes next.rack))
      (again : IsFoundAgain (known_in it.memory) (known_in next.memory) (rack.bytes it.rack)) where
    kept_all : KeepsAll it.memory (known_at (known_in it.memory) (rack.bytes it.rack)) kept
    kept_all = (keeps.1 (λ q low. opens.leaves.tells q (told q low))).1

    same : AreSameHeaded (known_at (known_in it.memory) (rack.bytes it.rack)) (known_at (known_in next.memory) (rack.bytes it.rack))
    same = found_again it.memory (known_in next.memory) (rack.bytes it.rack) again

    reopened : Reopened (known_at (known_in next.memory) (rack.bytes it.rack)) kept
    reopened = same_reopened (known_at (known_in it.memory) (rack.bytes it.rack)) (known_at (known_in next.memory) (rack.bytes it.rack)) same it.memory.commit kept_all.fresh kept kept_all.reopened

    pub given_double : GivesKept rack next extra kept × double_keeps rack next (Some kept)
    given_double = (
      (opens.gives (λ q on. told q (opens.leaves.low q on))).kept kept reopened,
      opens.keeps keeps.0 kept
          (λ all. (reopened, same_one (known_at (known_in it.memory) (rack.bytes it.rack)) (known_at (known_in next.memory) (rack.bytes it.rack)) same kept it.memory kept_all)),
    )

  module _ (next : R) (extra : List ℕ) (opens : OpensPlain rack extra it.rack next) (told : TellsAll (rack.bytes next))
      (again : IsFoundAgain (known_in it.memory) opens.known (rack.bytes it.rack)) where
    kept_plain : KeepsAll it.memory (known_at (known_in it.memory) (rack.bytes it.rack)) kept
    kept_plain = (keeps.1 (λ q low. opens.leaves.tells q (told q low))).1

    bare_at : (q : ℕ) (x y : Option (List ℕ)) → Told IsSame x y → IsSome y → IfSome y (HasNoHeader q) → (h : Header) → HasHeader q (bytes_or x) h → ⊥
    bare_at q x None e is none h has = false≢true is
    bare_at q None (Some b) e is none h has = e
    bare_at q (Some a) (Some b) e is none h has = none h (subst (λ (l : List ℕ). HasHeader q l h) (sym e) has)

    none_found : NoneCommitted (known_at opens.known (rack.bytes it.rack))
    none_found q h has mark = elim (known_or (opens.known q)) [
      | inl on ↦ bare_at q (rack.bytes it.rack q) (rack.bytes next q) (opens.same q) (told q (opens.leaves.low q on)) (opens.none q on) h
          (subst (λ (l : List ℕ). HasHeader q l h) (if_known (opens.known q) (bytes_or (rack.bytes it.rack q)) on) has)
      | inr out ↦ no_header_none q (known_at opens.known (rack.bytes it.rack) q) h (if_unknown (opens.known q) (bytes_or (rack.bytes it.rack q)) out) has
    ]

    pub given_plain : IsNothing kept × (extra ≡ [])
    given_plain =
        let same = found_again it.memory opens.known (rack.bytes it.rack) again in
        let is = (same_reopened (known_at (known_in it.memory) (rack.bytes it.rack)) (known_at opens.known (rack.bytes it.rack)) same it.memory.commit kept_plain.fresh kept kept_plain.reopened).nothing none_found in
        (record { entries = is.0; extra = is.1 }, opens.extra_is)

pub doubles_give_kept : {R : Type 0} (rack : Ghosts R) → DoublesGiveKept rack
doubles_give_kept rack it next extra kept keeps opens told again = given_double rack it kept keeps next extra opens told again

pub plains_give_nothing : {R : Type 0} (rack : Ghosts R) → PlainsGiveNothing rack
plains_give_nothing rack it next extra kept keeps opens told again = given_plain rack it kept keeps next extra opens told again
