-- What a double rack keeps, where a member was made anew, or has no header that counts any more.
use Rattle.std.proofs.Common.{◌≡◌, ◌≢◌, ◌≤◌, ◌<◌, ◌/◌, ◌⊎◌, ℕ, true, List, refl, sym, ◌∙◌, ap, arith, inl, inr, subst}
use Rattle.std.proofs.lemmas.Bool.{false≢true}
use Rattle.std.specs.Prelude.{◌==◌, if◌then◌else◌, is_some, Option, Some, None, IsSome}
use Rattle.dg_io.specs.Kept.{HasAnother, IsNothing, Kept, without}
use Rattle.dg_stop.proofs.Blanking.{by_of, entry_else, entry_own, next, one_after, rest_kept, still}
use Rattle.dg_stop.proofs.Committing.{same_or_not}
use Rattle.dg_stop.proofs.Keeping.{anchored_none}
use Rattle.dg_stop.specs.Anchors.{IsHeldBy}
use Rattle.dg_stop.specs.Commits.{AreGuarded, IsFresh}
use Rattle.dg_stop.specs.Doubles.{GuardsAll, KeepsAll, known_in, last_in, sizes_in, stands_in}
use Rattle.dg_stop.specs.Headers.{Header, HasHeader, header_table}
use Rattle.dg_stop.specs.Layouts.{names_second, table_place}
use Rattle.dg_stop.specs.Reopens.{IsCommitted, IsLast, NoneCommitted, Reopened}
use Rattle.dg_stop.specs.declared.memories.Memory.{Memory}

-- what is kept in memory of each other member is what it was
pub record IsElsewhere (q : ℕ) (old new : Memory) : Type 0 where
  pub stands : (r : ℕ) → r ≢ q → stands_in new r ≡ stands_in old r
  pub known : (r : ℕ) → r ≢ q → known_in new r ≡ known_in old r
  pub own : stands_in new q ≡ true → known_in new q ≡ true
  pub number : known_in new q ≡ true → q < 32
  pub sizes : (r : ℕ) → r ≢ q → sizes_in new r ≡ sizes_in old r
  pub last : (r x : ℕ) → r ≢ q → last_in new r x ≡ last_in old r x
  pub room : new.room ≡ old.room
  pub commit : new.commit ≡ old.commit
  pub top : new.top ≡ old.top

some_none : (e : Option (List ℕ)) → IsSome e → e ≡ None → ⊥
some_none None is none = false≢true is
some_none (Some x) is none = false≢true (sym (ap is_some none) ∙ refl)

none_without : (q x : ℕ) (kept : Kept) → kept.entries x ≡ None → (without q kept).entries x ≡ None
none_without q x kept none = elim (same_or_not x q) [
  | inl e ↦ subst (λ (z : ℕ). ◌≡◌ {A = Option (List ℕ)} (if z == q then None else kept.entries z) None) (sym e) (entry_own q (kept.entries q))
  | inr far ↦ entry_else x q (kept.entries x) far ∙ none
]

own_without : (q r : ℕ) (kept : Kept) → r ≡ q → (without q kept).entries r ≡ None
own_without q r kept e = subst (λ (z : ℕ). ◌≡◌ {A = Option (List ℕ)} (if z == q then None else kept.entries z) None) (sym e) (entry_own q (kept.entries q))

module _ (q : ℕ) (old new : Memory) (before after : ℕ → List ℕ) (beside : IsElsewhere q old new)
    (bare : (h : Header) → HasHeader q (after q) h → ⊥) (same : (r : ℕ) → r ≢ q → after r ≡ before r) where
  far : (r : ℕ) (h : Header) → HasHeader r (after r) h → r ≢ q
  far r h has e = bare h (subst (λ (y : ℕ). HasHeader y (after y) h) e has)

  was : (r : ℕ) (h : Header) → HasHeader r (after r) h → HasHeader r (before r) h
  was r h has = subst (λ (l : List ℕ). HasHeader r l h) (same r (far r h has)) has

  stood : (r : ℕ) → r ≢ q → stands_in new r ≡ true → stands_in old r ≡ true
  stood r apart at = sym (beside.stands r apart) ∙ at

  guarded : AreGuarded (stands_in old) (sizes_in old) old.room (last_in old) old.commit old.top before
      → AreGuarded (stands_in new) (sizes_in new) old.room (last_in new) old.commit old.top after
  guarded held = record {
    seen = λ r h has. held.seen r h (was r h has);
    size = λ r h at has e. held.size r h (stood r (far r h has) at) (was r h has) e ∙ sym (beside.sizes r (far r h has));
    room_is = λ r h at has e. held.room_is r h (stood r (far r h has) at) (was r h has) e;
    mark = λ r h at has e. held.mark r h (stood r (far r h has) at) (was r h has) e;
    named = λ r h at has e o low. ap (λ (l : List ℕ). names_second l (table_place (header_table h) old.commit) (o / 512)) (same r (far r h has))
        ∙ held.named r h (stood r (far r h has) at) (was r h has) e o low ∙ sym (beside.last r (o / 512) (far r h has));
    later = λ r h at has x k other mark e. held.later r h (stood r (far r h has) at) (was r h has) x k (was x k other) mark e;
  }

  knows : GuardsAll old before → (r : ℕ) → stands_in new r ≡ true → known_in new r ≡ true
  knows guards r at = elim (same_or_not r q) [
    | inl e ↦ subst (λ (x : ℕ). known_in new x ≡ true) (sym e) (beside.own (subst (λ (x : ℕ). stands_in new x ≡ true) e at))
    | inr apart ↦ beside.known r apart ∙ guards.known r (stood r apart at)
  ]

  numbers : GuardsAll old before → (r : ℕ) → known_in new r ≡ true → r < 32
  numbers guards r at = elim (same_or_not r q) [
    | inl e ↦ subst (λ (x : ℕ). x < 32) (sym e) (beside.number (subst (λ (x : ℕ). known_in new x ≡ true) e at))
    | inr apart ↦ guards.numbers r (sym (beside.known r apart) ∙ at)
  ]

  pub renewed_guards : GuardsAll old before → GuardsAll new after
  renewed_guards guards = record {
    guarded = rw (beside.room, beside.commit, beside.top) (guarded guards.guarded);
    low = omega (arith, guards.low, beside.commit, beside.top);
    known = knows guards;
    numbers = numbers guards;
  }

  none_after : NoneCommitted before → NoneCommitted after
  none_after none r h has = none r h (was r h has)

  module _ (kept : Kept) where
    where_none : NoneCommitted before → Reopened before kept → KeepsAll new after (without q kept)
    where_none none is = record {
      fresh = inl (none_after none);
      reopened = record {
        nothing = λ gone. (λ r. none_without q r kept ((is.nothing none).0 r), (is.nothing none).1);
        last = λ c r lead last leads. absurd (none_after none last.member last.header last.is.has last.is.mark);
      };
      anchored = anchored_none (stands_in new) after (without q kept) (none_after none);
    }

    module _ (c : ℕ) (last : IsLast before c) (low : old.commit ≤ c) (held : IsHeldBy (stands_in old) before c kept) (r : ℕ) (k : Header) (apart : r ≢ q) (is : IsCommitted before c r k) where
      last_after : IsLast after c
      last_after = next c q r held.lead k before after last kept held.by held.one bare same apart is

      unique : (d : ℕ) → IsLast after d → d ≡ c
      unique d other =
          let up : d ≤ c = omega (arith, last_after.most other.member other.header other.is.has other.is.mark, other.is.sequence) in
          let down : c ≤ d = omega (arith, other.most last_after.member last_after.header last_after.is.has last_after.is.mark, last_after.is.sequence) in
          omega (arith, up, down)

      on_far : (x : ℕ) → x ≢ q → ((h : Header) × IsCommitted before c x h) ⊎ (kept.entries x ≡ None) → ((h : Header) × IsCommitted after c x h) ⊎ ((without q kept).entries x ≡ None)
      on_far x off (inl (h, made)) = inl (
        h,
        record {
          has = still c q r held.lead k before after last kept held.by held.one bare same apart is x h off made.has;
          sequence = made.sequence;
          mark = made.mark;
        },
      )
      on_far x off (inr none) = inr (none_without q x kept none)

      on : (x : ℕ) → stands_in new x ≡ true → ((h : Header) × IsCommitted after c x h) ⊎ ((without q kept).entries x ≡ None)
      on x at = elim (same_or_not x q) [
        | inl e ↦ inr (own_without q x kept e)
        | inr off ↦ on_far x off (held.on x (stood x off at))
      ]

      held_after : IsHeldBy (stands_in new) after c (without q kept)
      held_after = record {
        lead = held.lead;
        by = by_of c q r held.lead k before after last kept held.by held.one bare same apart is held.lead refl refl;
        one = one_after c q r held.lead k before after last kept held.by held.one bare same apart is;
        on = on;
      }

      pub where_another : KeepsAll new after (without q kept)
      where_another = record {
        fresh = inr (c, last_after, omega (arith, low, beside.commit));
        reopened = (rest_kept c q r held.lead k before after last kept held.by held.one bare same apart is).1;
        anchored = λ d other. subst (λ (x : ℕ). IsHeldBy (stands_in new) after x (without q kept)) (sym (unique d other)) held_after;
      }

    has_entry : (c : ℕ) → IsLast before c → IsHeldBy (stands_in old) before c kept → IsNothing kept → ⊥
    has_entry c last held nothing =
        let got = held.by.attached last.member last.header (record {
          has = last.is.has;
          sequence = last.is.sequence;
          room = held.one.room_is last.member last.header last.is.has last.is.sequence;
          extra = held.one.count_is last.member last.header last.is.has last.is.sequence;
        }) in
        some_none (kept.entries last.member) (subst (λ (e : Option (List ℕ)). IsSome e) (sym got) refl) (nothing.entries last.member)

    of_other : (c : ℕ) → IsLast before c → old.commit ≤ c → (held : IsHeldBy (stands_in old) before c kept) → (other : ℕ) → other ≢ q → IsSome (kept.entries other)
        → ((k : Header) × IsCommitted before c other k) ⊎ (kept.entries other ≡ None) → KeepsAll new after (without q kept)
    of_other c last low held other apart some (inl (k, is)) = where_another c last low held other k apart is
    of_other c last low held other apart some (inr none) = absurd (some_none (kept.entries other) some none)

    of_last : (c : ℕ) → IsLast before c → old.commit ≤ c → (held : IsHeldBy (stands_in old) before c kept) → HasAnother (stands_in old) q kept ⊎ IsNothing kept → KeepsAll new after (without q kept)
    of_last c last low held (inl another) = of_other c last low held another.other another.differs another.entry (held.on another.other another.stand)
    of_last c last low held (inr nothing) = absurd (has_entry c last held nothing)

    rest : IsFresh before old.commit → KeepsAll old before kept → HasAnother (stands_in old) q kept ⊎ IsNothing kept → KeepsAll new after (without q kept)
    rest (inl none) keeps case = where_none none keeps.reopened
    rest (inr (c, last, low)) keeps case = of_last c last low (keeps.anchored c last) case

    pub renewed_keeps : KeepsAll old before kept → HasAnother (stands_in old) q kept ⊎ IsNothing kept → KeepsAll new after (without q kept)
    renewed_keeps keeps case = rest keeps.fresh keeps case
