-- What a double rack keeps, where pages were written or a member fell.
use Rattle.std.proofs.Common.{◌≡◌, ◌≢◌, ◌≤◌, ◌<◌, ◌+◌, ◌*◌, ◌/◌, ◌⊎◌, ℕ, Bool, true, false, List, refl, sym, ◌∙◌, ap, arith, inl, inr, subst}
use Rattle.std.proofs.lemmas.Bool.Decides.{Decides-eqb}
use Rattle.std.specs.Prelude.{◌==◌, if◌then◌else◌, not, None}
use Rattle.dg_io.specs.Kept.{Kept}
use Rattle.dg_io.specs.Told.{Torn}
use Rattle.dg_stop.proofs.Blanking.{spares_one}
use Rattle.dg_stop.proofs.Committing.{none_prepared, prepared_fresh, prepared_reopened, prepared_spares, same_or_not}
use Rattle.dg_stop.proofs.Reopening.{committed_on, kept_on, none_reopened, same_last, spares_last, spares_reopened}
use Rattle.dg_stop.proofs.Writing.{guarded_after, prepared}
use Rattle.dg_stop.specs.Anchors.{IsAnchored, IsHeldBy}
use Rattle.dg_stop.specs.Changes.{Spares}
use Rattle.dg_stop.specs.Commits.{AreGuarded, ArePrepared, IsFresh}
use Rattle.dg_stop.specs.Doubles.{GuardsAll, KeepsAll, known_in, last_in, sizes_in, stands_in}
use Rattle.dg_stop.specs.Headers.{Header, HasHeader, entry_of, extra_of, header_table}
use Rattle.dg_stop.specs.Layouts.{names_second, page_place, table_place, table_size}
use Rattle.dg_stop.specs.Pages.{TornPages}
use Rattle.dg_stop.specs.Pages.TornPages.{untorn, tears}
use Rattle.dg_stop.specs.Reopens.{IsCommitted, IsLast, NoneCommitted, Reopened}
use Rattle.dg_stop.specs.declared.memories.Memory.{Memory}

pub anchored_none : (on : ℕ → Bool) (all : ℕ → List ℕ) (kept : Kept) → NoneCommitted all → IsAnchored on all kept
anchored_none on all kept none c last = absurd (none last.member last.header last.is.has last.is.mark)

on_still : (c q : ℕ) (before after : ℕ → List ℕ) (kept : Kept) → Spares c before after → ((k : Header) × IsCommitted before c q k) ⊎ (kept.entries q ≡ None)
    → ((k : Header) × IsCommitted after c q k) ⊎ (kept.entries q ≡ None)
on_still c q before after kept spares (inl (k, is)) = inl (k, committed_on c before after spares q k is)
on_still c q before after kept spares (inr none) = inr none

pub anchored_spares : (stands on : ℕ → Bool) (c : ℕ) (before after : ℕ → List ℕ) → Spares c before after → IsLast before c → (kept : Kept) → ((q : ℕ) → on q ≡ true → stands q ≡ true)
    → IsAnchored stands before kept → IsAnchored on after kept
anchored_spares stands on c before after spares last kept only was d next =
    let same : d ≡ c = same_last c before after spares last d next in
    let held : IsHeldBy stands before c kept = was c last in
    subst (λ (x : ℕ). IsHeldBy on after x kept) (sym same) (record {
      lead = held.lead;
      by = kept_on c before after spares held.lead kept held.by;
      one = spares_one c held.lead kept.extra before after spares held.one;
      on = λ q is. on_still c q before after kept spares (held.on q (only q is));
    })

-- ---- bytes that are the same

pub spares_same : (c : ℕ) (before after : ℕ → List ℕ) → ((q : ℕ) → after q ≡ before q) → Spares c before after
spares_same c before after same = record {
  committed = λ q h has mark. subst (λ (l : List ℕ). HasHeader q l h) (same q) has;
  on = λ q h has e. subst (λ (l : List ℕ). HasHeader q l h) (sym (same q)) has;
  back = λ q h has e. subst (λ (l : List ℕ). HasHeader q l h) (same q) has;
  entry = λ q h has e. ap (entry_of h) (same q);
  extra = λ q h has e. ap (extra_of h) (same q);
}

pub none_same : (before after : ℕ → List ℕ) → ((q : ℕ) → after q ≡ before q) → NoneCommitted before → NoneCommitted after
none_same before after same none q h has = none q h (subst (λ (l : List ℕ). HasHeader q l h) (same q) has)

-- what is kept in memory of a standing member is what it was, and no other member stands
pub record Narrows (old new : Memory) : Type 0 where
  pub only : (q : ℕ) → stands_in new q ≡ true → stands_in old q ≡ true
  pub known : (q : ℕ) → known_in new q ≡ known_in old q
  pub sizes : (q : ℕ) → sizes_in new q ≡ sizes_in old q
  pub last : (q x : ℕ) → last_in new q x ≡ last_in old q x
  pub room : new.room ≡ old.room
  pub commit : new.commit ≡ old.commit
  pub top : new.top ≡ old.top

module _ (old new : Memory) (before after : ℕ → List ℕ) (less : Narrows old new) (same : (q : ℕ) → after q ≡ before q) where
  was : (q : ℕ) (h : Header) → HasHeader q (after q) h → HasHeader q (before q) h
  was q h has = subst (λ (l : List ℕ). HasHeader q l h) (same q) has

  guarded : AreGuarded (stands_in old) (sizes_in old) old.room (last_in old) old.commit old.top before
      → AreGuarded (stands_in new) (sizes_in new) old.room (last_in new) old.commit old.top after
  guarded held = record {
    seen = λ q h has. held.seen q h (was q h has);
    size = λ q h at has e. held.size q h (less.only q at) (was q h has) e ∙ sym (less.sizes q);
    room_is = λ q h at has e. held.room_is q h (less.only q at) (was q h has) e;
    mark = λ q h at has e. held.mark q h (less.only q at) (was q h has) e;
    named = λ q h at has e o low. ap (λ (l : List ℕ). names_second l (table_place (header_table h) old.commit) (o / 512)) (same q)
        ∙ held.named q h (less.only q at) (was q h has) e o low ∙ sym (less.last q (o / 512));
    later = λ q h at has r k other mark e. held.later q h (less.only q at) (was q h has) r k (was r k other) mark e;
  }

  pub narrows_guards : GuardsAll old before → GuardsAll new after
  narrows_guards guards = record {
    guarded = rw (less.room, less.commit, less.top) (guarded guards.guarded);
    low = omega (arith, guards.low, less.commit, less.top);
    known = λ q at. less.known q ∙ guards.known q (less.only q at);
    numbers = λ q at. guards.numbers q (sym (less.known q) ∙ at);
  }

  fresh : IsFresh before old.commit → IsFresh after new.commit
  fresh (inl none) = inl (none_same before after same none)
  fresh (inr (c, last, low)) = inr (c, spares_last c before after (spares_same c before after same) last, omega (arith, low, less.commit))

  reopened : IsFresh before old.commit → (kept : Kept) → Reopened before kept → Reopened after kept
  reopened (inl none) kept is = none_reopened before after none (none_same before after same none) kept is
  reopened (inr (c, last, low)) kept is = spares_reopened c before after (spares_same c before after same) last kept is

  anchored : IsFresh before old.commit → (kept : Kept) → IsAnchored (stands_in old) before kept → IsAnchored (stands_in new) after kept
  anchored (inl none) kept is = anchored_none (stands_in new) after kept (none_same before after same none)
  anchored (inr (c, last, low)) kept is = anchored_spares (stands_in old) (stands_in new) c before after (spares_same c before after same) last kept less.only is

  pub narrows_keeps : (kept : Kept) → KeepsAll old before kept → KeepsAll new after kept
  narrows_keeps kept keeps = record {
    fresh = fresh keeps.fresh;
    reopened = reopened keeps.fresh kept keeps.reopened;
    anchored = anchored keeps.fresh kept keeps.anchored;
  }

-- ---- one page that was written, or not

module _ (memory : Memory) (q page : ℕ) (before after : ℕ → List ℕ) (guards : GuardsAll memory before) (stand : stands_in memory q ≡ true) (within : 512 * page < sizes_in memory q)
    (torn : Torn (page_place (table_size (sizes_in memory q) memory.room) page (not (last_in memory q page)) + 0) 512 (before q) (after q)) (others : (r : ℕ) → r ≢ q → after r ≡ before r) where
  step : ArePrepared (stands_in memory) memory.commit (memory.top + 1) before after
  step = prepared (stands_in memory) (sizes_in memory) memory.room (last_in memory) memory.commit memory.top q page 0 512 before after guards.guarded guards.low stand within (omega arith) torn others

  spares : (c : ℕ) → IsLast before c → memory.commit ≤ c → Spares c before after
  spares c last low = prepared_spares (stands_in memory) (sizes_in memory) memory.room (last_in memory) memory.commit memory.top (memory.top + 1) before after guards.guarded (omega arith) step c last low

  page_anchored : IsFresh before memory.commit → (kept : Kept) → IsAnchored (stands_in memory) before kept → IsAnchored (stands_in memory) after kept
  page_anchored (inl none) kept is = anchored_none (stands_in memory) after kept
      (none_prepared (stands_in memory) (sizes_in memory) memory.room (last_in memory) memory.commit memory.top (memory.top + 1) before after guards.guarded (omega arith) step none)
  page_anchored (inr (c, last, low)) kept is = anchored_spares (stands_in memory) (stands_in memory) c before after (spares c last low) last kept (λ r at. at) is

  pub page_guards : GuardsAll memory after
  page_guards = record {
    guarded = guarded_after (stands_in memory) (sizes_in memory) memory.room (last_in memory) memory.commit memory.top q page 0 512 before after guards.guarded guards.low stand within (omega arith) torn others;
    low = guards.low;
    known = guards.known;
    numbers = guards.numbers;
  }

  pub page_keeps : (kept : Kept) → KeepsAll memory before kept → KeepsAll memory after kept
  page_keeps kept keeps = record {
    fresh = prepared_fresh (stands_in memory) (sizes_in memory) memory.room (last_in memory) memory.commit memory.top (memory.top + 1) before after guards.guarded (omega arith) step keeps.fresh;
    reopened = prepared_reopened (stands_in memory) (sizes_in memory) memory.room (last_in memory) memory.commit memory.top (memory.top + 1) before after guards.guarded (omega arith) step keeps.fresh kept keeps.reopened;
    anchored = page_anchored keeps.fresh kept keeps.anchored;
  }

-- ---- pages one after another

-- the members' bytes, but these for member q
abbrev put_at : ℕ → List ℕ → (ℕ → List ℕ) → ℕ → List ℕ
put_at q bytes all r = if r == q then bytes else all r

put_own : (q : ℕ) (bytes : List ℕ) (all : ℕ → List ℕ) → put_at q bytes all q ≡ bytes
put_own q bytes all = ap (λ (b : Bool). if b then bytes else all q) ((Decides-eqb q q).1 refl)

put_other : (q : ℕ) (bytes : List ℕ) (all : ℕ → List ℕ) (r : ℕ) → r ≢ q → put_at q bytes all r ≡ all r
put_other q bytes all r apart = choose (r == q) refl where
  choose : (b : Bool) → (r == q) ≡ b → (if r == q then bytes else all r) ≡ all r
  choose true is = absurd (apart ((Decides-eqb r q).0 is))
  choose false is = ap (λ (b : Bool). if b then bytes else all r) is

plus_zero : (n : ℕ) → n ≡ n + 0
plus_zero n = omega arith

-- the same before and after: what is known of the headers, and whatever was kept
pub record Carries (memory : Memory) (before after : ℕ → List ℕ) : Type 0 where
  pub guards : GuardsAll memory after
  pub keeps : (kept : Kept) → KeepsAll memory before kept → KeepsAll memory after kept

stay : (memory : Memory) → Narrows memory memory
stay memory = record {
  only = λ q at. at;
  known = λ q. refl;
  sizes = λ q. refl;
  last = λ q x. refl;
  room = refl;
  commit = refl;
  top = refl;
}

module _ (memory : Memory) (q : ℕ) (before : ℕ → List ℕ) (guards : GuardsAll memory before) (stand : stands_in memory q ≡ true) where
  pub pages_carry : (a b : List ℕ) → TornPages (table_size (sizes_in memory q) memory.room) (sizes_in memory q) (last_in memory q) a b → a ≡ before q
      → (after : ℕ → List ℕ) → after q ≡ b → ((r : ℕ) → r ≢ q → after r ≡ before r) → Carries memory before after
  pages_carry a b (untorn same) first after own others =
      let all : (r : ℕ) → after r ≡ before r = λ (r : ℕ). elim (same_or_not r q) [
        | inl e ↦ subst (λ (x : ℕ). after x ≡ before x) (sym e) (own ∙ same ∙ first)
        | inr apart ↦ others r apart
      ] in
      record { guards = narrows_guards memory memory before after (stay memory) all guards; keeps = λ kept. narrows_keeps memory memory before after (stay memory) all kept }
  pages_carry a b (tears {b = mid} chain page within torn) first after own others =
      let half = put_at q mid before in
      let carried = pages_carry a mid chain first half (put_own q mid before) (put_other q mid before) in
      let t = table_size (sizes_in memory q) memory.room in
      let here : Torn (page_place t page (not (last_in memory q page)) + 0) 512 (half q) (after q) =
      subst (λ (l : List ℕ). Torn (page_place t page (not (last_in memory q page)) + 0) 512 l (after q)) (sym (put_own q mid before))
      (subst (λ (l : List ℕ). Torn (page_place t page (not (last_in memory q page)) + 0) 512 mid l) (sym own)
      (subst (λ (n : ℕ). Torn n 512 mid b) (plus_zero _) torn)) in
      let beside : (r : ℕ) → r ≢ q → after r ≡ half r = λ (r : ℕ) apart. others r apart ∙ sym (put_other q mid before r apart) in
      record {
        guards = page_guards memory q page half after carried.guards stand within here beside;
        keeps = λ kept is. page_keeps memory q page half after carried.guards stand within here beside kept (carried.keeps kept is);
      }
