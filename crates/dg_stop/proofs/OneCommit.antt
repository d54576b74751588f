-- A commit leaves the old checkpoint or the new one.
use Rattle.std.proofs.Common.{◌≡◌, ◌≢◌, ◌≤◌, ◌<◌, ◌/◌, ◌%◌, ◌⊎◌, ℕ, zero, suc, Bool, true, false, List, [], length, refl, sym, ◌∙◌, ap, arith, inl, inr, subst}
use Rattle.std.proofs.lemmas.Bool.{false≢true}
use Rattle.std.proofs.lemmas.List.{get_or_past}
use Rattle.std.specs.Prelude.{Option, Some, None, IsSome, if◌then◌else◌}
use Rattle.dg_io.specs.Told.{Told, IsSame}
use Rattle.dg_io.specs.declared.outside.Rack.{Ghosts}
use Rattle.dg_io.specs.Kept.{Kept}
use Rattle.dg_stop.proofs.Blanking.{completes_one}
use Rattle.dg_stop.proofs.Committing.{guarded_prepared, none_prepared, prepares_same, has_written, names_stay, prepared_fresh, prepared_reopened, prepared_spares, same_or_not}
use Rattle.dg_stop.proofs.Keeping.{anchored_none, anchored_spares}
use Rattle.dg_stop.proofs.Stopping.{committed_is, completes, guarded_all, guarded_unserved, same_prepared, landed_kept, landed_last, landed_reopened}
use Rattle.dg_stop.proofs.HeaderLemmas.{one_header}
use Rattle.dg_stop.specs.Layouts.{bit_in, names_second, table_place}
use Rattle.dg_stop.specs.Headers.{Header, HasHeader, header_table}
use Rattle.dg_stop.specs.Commits.{AreBelow, AreGuarded, ArePrepared, HasNone, IsFresh, IsNamed, IsOpenTo, IsPlaced, Prepares, PutsHeader, WritesHeader, as_committed}
use Rattle.dg_stop.specs.Phases.{FinishedBelow, KeepsOrCommits, LeavesKept, PassedBelow, Sized, StandsAfter, TellsKnown, all_kept, bits_in, bytes_or, flag_in, head_of, size_in, known_at, view_of}
use Rattle.dg_stop.specs.Anchors.{Holds, IsHeldBy, Stays}
use Rattle.dg_stop.specs.Reopens.{IsCommitted, KeptBy, Reopened}
use Rattle.dg_stop.specs.Stops.{AreOfOne, HasLanded, IsStopped, NamedOrNone, entry_by, new_kept}
use Rattle.dg_stop.specs.declared.places.Places.{Places}

pub told_both : (f : List ℕ → List ℕ → Type 0) (x y : Option (List ℕ)) → Told f x y → IsSome y → f (bytes_or x) (bytes_or y)
told_both f x None h is = absurd (false≢true is)
told_both f None (Some b) h is = absurd h
told_both f (Some a) (Some b) h is = h

same_by : (b : Bool) (x y : Option (List ℕ)) → Told IsSame x y → (b ≡ true → IsSome y) → (if b then bytes_or y else []) ≡ (if b then bytes_or x else [])
same_by true x y h is = told_both IsSame x y h (is refl)
same_by false x y h is = refl

pub same_at : (known : ℕ → Bool) (q : ℕ) (x y : Option (List ℕ)) → Told IsSame x y → (known q ≡ true → IsSome y) → (if known q then bytes_or y else []) ≡ (if known q then bytes_or x else [])
same_at known q x y h is = same_by (known q) x y h is

both_by : (b : Bool) → b ≡ true → (f : List ℕ → List ℕ → Type 0) (x y : List ℕ) → f x y → f (if b then x else []) (if b then y else [])
both_by true is f x y h = h
both_by false is f x y h = absurd (false≢true is)

pub both_at : (known : ℕ → Bool) (q : ℕ) → known q ≡ true → (f : List ℕ → List ℕ → Type 0) (x y : Option (List ℕ)) → Told f x y → (known q ≡ true → IsSome y)
    → f (if known q then bytes_or x else []) (if known q then bytes_or y else [])
both_at known q at f x y h is = both_by (known q) at f (bytes_or x) (bytes_or y) (told_both f x y h (is at))

pub lt_or : (q n : ℕ) → (q < n) ⊎ (n ≤ q)
lt_or q n = grind arith

-- each of finitely many, or one of another kind
pub all_or_some : (A B : ℕ → Type 0) (n : ℕ) → ((q : ℕ) → q < n → A q ⊎ B q) → ((q : ℕ) → q < n → A q) ⊎ ((q : ℕ) × B q)
all_or_some A B zero each = inl (λ q low. absurd (omega arith))
all_or_some A B (suc n) each = elim (all_or_some A B n (λ q low. each q (omega arith))) [
  | inr found ↦ inr found
  | inl all ↦ elim (each n (omega arith)) [
    | inr found ↦ inr (n, found)
    | inl last ↦ inl (λ q low. elim (same_or_not q n) [
      | inl same ↦ subst A (sym same) last
      | inr other ↦ all q (omega (arith, low, other))
    ])
  ]
]

-- the same checkpoint, entry by entry
kept_same : (all : ℕ → List ℕ) (a b : Kept) → ((q : ℕ) → b.entries q ≡ a.entries q) → b.extra ≡ a.extra → (c : ℕ) (lead : Header) → KeptBy all c lead a → KeptBy all c lead b
kept_same all a b entries extra c lead by = record {
  attached = λ r h at. entries r ∙ by.attached r h at;
  others = λ r none. entries r ∙ by.others r none;
  extra = λ r h at least. extra ∙ by.extra r h at least;
}

pub reopened_same : (all : ℕ → List ℕ) (a b : Kept) → ((q : ℕ) → b.entries q ≡ a.entries q) → b.extra ≡ a.extra → Reopened all a → Reopened all b
reopened_same all a b entries extra was = record {
  nothing = λ none. ((λ q. entries q ∙ (was.nothing none).0 q), extra ∙ (was.nothing none).1);
  last = λ c q lead last leads. kept_same all a b entries extra c lead (was.last c q lead last leads);
}

pub held_same : (on : ℕ → Bool) (all : ℕ → List ℕ) (a b : Kept) → ((q : ℕ) → b.entries q ≡ a.entries q) → b.extra ≡ a.extra → Holds on all a → Holds on all b
held_same on all a b entries extra was = record {
  reopened = reopened_same all a b entries extra was.reopened;
  anchored = λ c last.
      let held : IsHeldBy on all c a = was.anchored c last in
      record {
        lead = held.lead;
        by = kept_same all a b entries extra c held.lead held.by;
        one = subst (λ (l : List ℕ). AreOfOne c held.lead l all) (sym extra) held.one;
        on = λ q at. elim (held.on q at) [ inl is ↦ inl is | inr none ↦ inr (entries q ∙ none) ];
      };
}

-- what is prepared leaves what is kept
pub stays_prepared : (serve stand on : ℕ → Bool) (sizes : ℕ → ℕ) (room : ℕ) (places : ℕ → ℕ → Bool) (p top s : ℕ) (before after : ℕ → List ℕ)
    → AreGuarded serve sizes room places p top before → top < s → ArePrepared serve p s before after → ((q : ℕ) → on q ≡ true → stand q ≡ true)
    → IsFresh before p → (kept : Kept) → Reopened before kept → Stays stand on before after kept
stays_prepared serve stand on sizes room places p top s before after guarded above prepared only (inl none) kept was = record {
  reopened = prepared_reopened serve sizes room places p top s before after guarded above prepared (inl none) kept was;
  anchored = λ old. anchored_none on after kept (none_prepared serve sizes room places p top s before after guarded above prepared none);
}
stays_prepared serve stand on sizes room places p top s before after guarded above prepared only (inr (c, last, low)) kept was = record {
  reopened = prepared_reopened serve sizes room places p top s before after guarded above prepared (inr (c, last, low)) kept was;
  anchored = anchored_spares stand on c before after (prepared_spares serve sizes room places p top s before after guarded above prepared c last low) last kept only;
}

-- of fewer members
pub guarded_only : (stands on : ℕ → Bool) (sizes : ℕ → ℕ) (room : ℕ) (places : ℕ → ℕ → Bool) (p top : ℕ) (all : ℕ → List ℕ) → AreGuarded stands sizes room places p top all
    → ((q : ℕ) → on q ≡ true → stands q ≡ true) → AreGuarded on sizes room places p top all
guarded_only stands on sizes room places p top all guarded only = record {
  seen = guarded.seen;
  size = λ q h at has e. guarded.size q h (only q at) has e;
  room_is = λ q h at has e. guarded.room_is q h (only q at) has e;
  mark = λ q h at has e. guarded.mark q h (only q at) has e;
  named = λ q h at has e o low. guarded.named q h (only q at) has e o low;
  later = λ q h at has r k other mark e. guarded.later q h (only q at) has r k other mark e;
}

not_served : (b c : Bool) → (b ≡ true → c ≡ true) → c ≡ false → b ≡ false
not_served true c only is = absurd (false≢true (sym is ∙ only refl))
not_served false c only is = refl

module _ {S : Type 0} (rack : Ghosts S) (members : List Places) (s room : ℕ) (extra : List ℕ) (served flags : List Bool) (count : length served ≡ 32)
    (old mid : S) (first : PassedBelow rack members s room extra 32 served flags old mid) (steady : rack.steady old)
    (known stand : ℕ → Bool) (told_mid : TellsKnown known (rack.bytes mid)) (stand_known : (q : ℕ) → stand q ≡ true → known q ≡ true) (serve_stand : (q : ℕ) → flag_in served q ≡ true → stand q ≡ true)
    (places : ℕ → ℕ → Bool) (p top : ℕ) (whole : AreGuarded stand (size_in members) room places p top (known_at known (rack.bytes old)))
    (above : top < s) (apart : s % 2 ≢ p % 2) where
  are_known : (q : ℕ) → flag_in served q ≡ true → known q ≡ true
  are_known q is = stand_known q (serve_stand q is)

  guarded : AreGuarded (flag_in served) (size_in members) room places p top (known_at known (rack.bytes old))
  guarded = guarded_only stand (flag_in served) (size_in members) room places p top (known_at known (rack.bytes old)) whole serve_stand

  inside : (q : ℕ) → flag_in served q ≡ true → q < 32
  inside q is = elim (lt_or q 32) [
    | inl low ↦ low
    | inr high ↦ absurd (false≢true (sym (get_or_past served q false (omega (arith, count, high))) ∙ is))
  ]

  low_at : (q : ℕ) → AreBelow s q (known_at known (rack.bytes old) q)
  low_at q k has = omega (arith, above, guarded.seen q k has)

  open_at : (q : ℕ) → flag_in served q ≡ true → IsOpenTo p q (head_of members s room extra q) (known_at known (rack.bytes old) q)
  open_at q is = record { apart = apart; low = low_at q; size = λ k has e. guarded.size q k is has e; room_is = λ k has e. guarded.room_is q k is has e }

  idle_mid : (q : ℕ) → flag_in served q ≡ false → known_at known (rack.bytes mid) q ≡ known_at known (rack.bytes old) q
  idle_mid q is = elim (lt_or q 32) [
    | inl low ↦ same_at known q (rack.bytes old q) (rack.bytes mid q) ((first.below q low).idle is) (told_mid q)
    | inr high ↦ same_at known q (rack.bytes old q) (rack.bytes mid q) (first.rest q high).bytes (told_mid q)
  ]

  pub prepared_at : ArePrepared (flag_in served) p s (known_at known (rack.bytes old)) (known_at known (rack.bytes mid))
  prepared_at = record {
    standing = λ q is. both_at known q (are_known q is) _ (rack.bytes old q) (rack.bytes mid q) ((first.below q (inside q is)).prepares steady is p) (told_mid q) (open_at q is);
    rest = idle_mid;
  }

  prepared_by : (q : ℕ) (b : Bool) → flag_in served q ≡ b → Prepares p s q (known_at known (rack.bytes old) q) (known_at known (rack.bytes mid) q)
  prepared_by q true is = prepared_at.standing q is
  prepared_by q false is = subst (λ (l : List ℕ). Prepares p s q (known_at known (rack.bytes old) q) l) (sym (idle_mid q is)) (prepares_same p s q (known_at known (rack.bytes old) q) (low_at q))

  -- of all that stand: those that don't serve are as they were
  whole_prepared : ArePrepared stand p s (known_at known (rack.bytes old)) (known_at known (rack.bytes mid))
  whole_prepared = record {
    standing = λ q is. prepared_by q (flag_in served q) refl;
    rest = λ q is. idle_mid q (not_served (flag_in served q) (stand q) (serve_stand q) is);
  }

  seen_mid : (q : ℕ) (b : Bool) → flag_in served q ≡ b → (h : Header) → HasHeader q (known_at known (rack.bytes mid) q) h → h.sequence ≤ s
  seen_mid q true is h has = elim (same_or_not h.sequence s) [
    | inl same ↦ omega (arith, same)
    | inr other ↦ omega (arith, low_at q h ((prepared_at.standing q is).back h has other))
  ]
  seen_mid q false is h has = omega (arith, low_at q h (subst (λ (l : List ℕ). HasHeader q l h) (idle_mid q is) has))

  only_at : (q : ℕ) → flag_in flags q ≡ true → flag_in served q ≡ true
  only_at q on = elim (lt_or q 32) [
    | inl low ↦ (first.below q low).only on
    | inr high ↦ sym (first.rest q high).flag ∙ on
  ]

  -- the first pass alone
  pub untried_kept : (on : ℕ → Bool) → StandsAfter stand served flags on → IsFresh (known_at known (rack.bytes old)) p → (kept : Kept) → Reopened (known_at known (rack.bytes old)) kept
      → Stays stand on (known_at known (rack.bytes old)) (known_at known (rack.bytes mid)) kept
  untried_kept on after = stays_prepared (flag_in served) stand on (size_in members) room places p top s (known_at known (rack.bytes old)) (known_at known (rack.bytes mid)) guarded above prepared_at
      (λ q at. elim (after q at) [ inl serves ↦ serve_stand q (only_at q serves) | inr out ↦ out.0 ])

  pub fresh_mid : IsFresh (known_at known (rack.bytes old)) p → IsFresh (known_at known (rack.bytes mid)) p
  fresh_mid fresh = prepared_fresh (flag_in served) (size_in members) room places p top s (known_at known (rack.bytes old)) (known_at known (rack.bytes mid)) guarded above prepared_at fresh

  pub guards_mid : (on : ℕ → Bool) → StandsAfter stand served flags on → AreGuarded on (size_in members) room places p s (known_at known (rack.bytes mid))
  guards_mid on after = guarded_prepared stand (size_in members) room places p top s s (known_at known (rack.bytes old)) (known_at known (rack.bytes mid)) whole above
      (λ same. apart (ap (λ (x : ℕ). x % 2) (sym same))) whole_prepared (λ q h has. seen_mid q (flag_in served q) refl h has) on
      (λ q at. elim (after q at) [ inl serves ↦ serve_stand q (only_at q serves) | inr out ↦ out.0 ])

  module _ (same_flags : flags ≡ served) (serves : List Bool) (new : S) (second : FinishedBelow rack members s room extra 32 flags serves mid new)
      (told_new : TellsKnown known (rack.bytes new)) where
    named_at : (q : ℕ) → flag_in served q ≡ true
        → IsNamed q (head_of members s room extra q) extra (view_of members room q (known_at known (rack.bytes old) q)) (known_at known (rack.bytes mid) q)
    named_at q is = both_at known q (are_known q is) _ (rack.bytes old q) (rack.bytes mid q) ((first.below q (inside q is)).named (ap (λ (l : List Bool). flag_in l q) same_flags ∙ is)) (told_mid q) (low_at q)

    none_at : (q : ℕ) → flag_in served q ≡ false → HasNone s q (known_at known (rack.bytes mid) q)
    none_at q is k has same = omega (arith, same, low_at q k (subst (λ (l : List ℕ). HasHeader q l k) (idle_mid q is) has))

    named_by : (q : ℕ) (b : Bool) → flag_in served q ≡ b
        → NamedOrNone s q (head_of members s room extra q) extra (view_of members room q (known_at known (rack.bytes old) q)) (known_at known (rack.bytes mid) q)
    named_by q true is = inr (named_at q is)
    named_by q false is = inl (none_at q is)

    wrote_at : (q : ℕ) → flag_in served q ≡ true → WritesHeader (as_committed (head_of members s room extra q)) (known_at known (rack.bytes mid) q) (known_at known (rack.bytes new) q)
    wrote_at q is = both_at known q (are_known q is) _ (rack.bytes mid q) (rack.bytes new q)
        ((second.below q (inside q is)).wrote (first.steady_on.0 steady) (ap (λ (l : List Bool). flag_in l q) same_flags ∙ is)) (told_new q)

    idle_new : (q : ℕ) → flag_in served q ≡ false → known_at known (rack.bytes new) q ≡ known_at known (rack.bytes mid) q
    idle_new q is = elim (lt_or q 32) [
      | inl low ↦ same_at known q (rack.bytes mid q) (rack.bytes new q) ((second.below q low).idle (ap (λ (l : List Bool). flag_in l q) same_flags ∙ is)) (told_new q)
      | inr high ↦ same_at known q (rack.bytes mid q) (rack.bytes new q) (second.rest q high).bytes (told_new q)
    ]

    second_by : (q : ℕ) (b : Bool) → flag_in served q ≡ b → (known_at known (rack.bytes new) q ≡ known_at known (rack.bytes mid) q)
        ⊎ (HasHeader q (known_at known (rack.bytes mid) q) (head_of members s room extra q) × WritesHeader (as_committed (head_of members s room extra q)) (known_at known (rack.bytes mid) q) (known_at known (rack.bytes new) q))
    second_by q true is = inr ((named_at q is).has, wrote_at q is)
    second_by q false is = inl (idle_new q is)

    stopped_at : IsStopped (flag_in served) p s room (length extra) extra (head_of members s room extra) (λ q. view_of members room q (known_at known (rack.bytes old) q))
        (known_at known (rack.bytes old)) (known_at known (rack.bytes mid)) (known_at known (rack.bytes new))
    stopped_at = record {
      sequence = λ q. refl;
      room_is = λ q. refl;
      count_is = λ q. refl;
      prepared = prepared_at;
      named = λ q. named_by q (flag_in served q) refl;
      second = λ q. second_by q (flag_in served q) refl;
    }

    committed_at : (q : ℕ) → flag_in served q ≡ true → PutsHeader (as_committed (head_of members s room extra q)) (known_at known (rack.bytes mid) q) (known_at known (rack.bytes new) q)
        → IsCommitted (known_at known (rack.bytes new)) s q (as_committed (head_of members s room extra q))
    committed_at q is put =
        let named = named_at q is in
        record {
          has = has_written q (as_committed (head_of members s room extra q)) (known_at known (rack.bytes mid) q) (known_at known (rack.bytes new) q)
              (committed_is (head_of members s room extra q) named.has.is) named.has.own named.has.long put;
          sequence = refl;
          mark = refl;
        }

    landed_by : (q : ℕ) (b : Bool) → flag_in served q ≡ b → (known_at known (rack.bytes new) q ≡ known_at known (rack.bytes mid) q)
        ⊎ ((h : Header) × IsCommitted (known_at known (rack.bytes new)) s q h)
    landed_by q true is = elim (wrote_at q is) [
      | inl same ↦ inl same
      | inr put ↦ inr (as_committed (head_of members s room extra q), committed_at q is put)
    ]
    landed_by q false is = inl (idle_new q is)

    landed : HasLanded s (known_at known (rack.bytes mid)) (known_at known (rack.bytes new))
    landed = elim (all_or_some (λ q. known_at known (rack.bytes new) q ≡ known_at known (rack.bytes mid) q) (λ q. (h : Header) × IsCommitted (known_at known (rack.bytes new)) s q h) 32
        (λ q low. landed_by q (flag_in served q) refl)) [
          | inl none ↦ inl (λ q. elim (lt_or q 32) [ inl low ↦ none q low | inr high ↦ same_at known q (rack.bytes mid q) (rack.bytes new q) (second.rest q high).bytes (told_new q) ])
          | inr found ↦ inr (found.0, found.1.0, found.1.1)
        ]

    entries_by : (q : ℕ) (b : Bool) (is : flag_in served q ≡ b)
        → (if b then Some (view_of members room q (known_at known (rack.bytes old) q)) else None)
        ≡ entry_by s q (head_of members s room extra q) extra (view_of members room q (known_at known (rack.bytes old) q)) (known_at known (rack.bytes mid) q) (named_by q b is)
    unfolding named_by
    entries_by q true is = refl
    entries_by q false is = refl

    as_all : Reopened (known_at known (rack.bytes new)) (new_kept s (head_of members s room extra) extra (λ q. view_of members room q (known_at known (rack.bytes old) q)) (known_at known (rack.bytes mid)) stopped_at.named)
        → Reopened (known_at known (rack.bytes new)) (all_kept members room extra served (known_at known (rack.bytes old)))
    unfolding stopped_at named_by
    as_all was = reopened_same (known_at known (rack.bytes new))
        (new_kept s (head_of members s room extra) extra (λ q. view_of members room q (known_at known (rack.bytes old) q)) (known_at known (rack.bytes mid)) stopped_at.named)
        (all_kept members room extra served (known_at known (rack.bytes old))) (λ q. entries_by q (flag_in served q) refl) refl was

    placed_at : (q : ℕ) → flag_in served q ≡ true → IsPlaced (head_of members s room extra q) (bit_in (bits_in members q)) (known_at known (rack.bytes mid) q)
    placed_at q is = both_at known q (are_known q is) _ (rack.bytes old q) (rack.bytes mid q) ((first.below q (inside q is)).placed (ap (λ (l : List Bool). flag_in l q) same_flags ∙ is)) (told_mid q)

    low_of : (q : ℕ) → flag_in serves q ≡ true → q < 32
    low_of q on = elim (lt_or q 32) [
      | inl low ↦ low
      | inr high ↦ inside q (sym (ap (λ (l : List Bool). flag_in l q) same_flags) ∙ sym (second.rest q high).flag ∙ on)
    ]

    was_served : (q : ℕ) → flag_in serves q ≡ true → flag_in served q ≡ true
    was_served q on = sym (ap (λ (l : List Bool). flag_in l q) same_flags) ∙ (second.below q (low_of q on)).only on

    put_at : (q : ℕ) → flag_in serves q ≡ true → PutsHeader (as_committed (head_of members s room extra q)) (known_at known (rack.bytes mid) q) (known_at known (rack.bytes new) q)
    put_at q on = both_at known q (are_known q (was_served q on)) _ (rack.bytes mid q) (rack.bytes new q) ((second.below q (low_of q on)).done on) (told_new q)

    most_at : (q : ℕ) (h : Header) → HasHeader q (known_at known (rack.bytes new) q) h → h.sequence ≤ s
    most_at q h has = (completes (flag_in served) (size_in members) room places p top s (length extra) extra (head_of members s room extra)
        (λ r. view_of members room r (known_at known (rack.bytes old) r)) (known_at known (rack.bytes old)) (known_at known (rack.bytes mid)) (known_at known (rack.bytes new)) guarded above stopped_at).most q h has

    -- a serving member's header of s is the committed one
    it_is : (q : ℕ) (h : Header) → flag_in serves q ≡ true → HasHeader q (known_at known (rack.bytes new) q) h → h.sequence ≡ s → h ≡ as_committed (head_of members s room extra q)
    it_is q h on has e = one_header q (known_at known (rack.bytes new) q) h (as_committed (head_of members s room extra q)) has (committed_at q (was_served q on) (put_at q on)).has
        (ap (λ (x : ℕ). x % 2) e)

    named_new : (q : ℕ) → flag_in serves q ≡ true → IsPlaced (as_committed (head_of members s room extra q)) (bit_in (bits_in members q)) (known_at known (rack.bytes new) q)
    named_new q on o low =
        let named = named_at q (was_served q on) in
        names_stay q (as_committed (head_of members s room extra q)) (known_at known (rack.bytes mid) q) (known_at known (rack.bytes new) q)
        (committed_is (head_of members s room extra q) named.has.is) named.has.own named.has.long (put_at q on) (head_of members s room extra q) o low
        ∙ placed_at q (was_served q on) o low

    pub one_made : (q : ℕ) (lead : Header) → HasHeader q (known_at known (rack.bytes new) q) lead → lead.sequence ≡ s → AreOfOne s lead extra (known_at known (rack.bytes new))
    one_made q lead has at = completes_one s room extra (length extra) (λ r. view_of members room r (known_at known (rack.bytes old) r)) (known_at known (rack.bytes new))
        (completes (flag_in served) (size_in members) room places p top s (length extra) extra (head_of members s room extra)
        (λ r. view_of members room r (known_at known (rack.bytes old) r)) (known_at known (rack.bytes old)) (known_at known (rack.bytes mid)) (known_at known (rack.bytes new)) guarded above stopped_at) q lead has at

    -- where a committed header of s is there, what is kept is the checkpoint of this commit
    entry_none : (q : ℕ) → flag_in served q ≡ false → (all_kept members room extra served (known_at known (rack.bytes old))).entries q ≡ None
    entry_none q out = ap (λ (b : Bool). if b then Some (view_of members room q (known_at known (rack.bytes old) q)) else None) out

    by_all : (q : ℕ) (h : Header) → IsCommitted (known_at known (rack.bytes new)) s q h → KeptBy (known_at known (rack.bytes new)) s h (all_kept members room extra served (known_at known (rack.bytes old)))
    unfolding stopped_at named_by
    by_all q h is = kept_same (known_at known (rack.bytes new))
        (new_kept s (head_of members s room extra) extra (λ r. view_of members room r (known_at known (rack.bytes old) r)) (known_at known (rack.bytes mid)) stopped_at.named)
        (all_kept members room extra served (known_at known (rack.bytes old))) (λ r. entries_by r (flag_in served r) refl) refl s h
        (landed_kept (flag_in served) (size_in members) room places p top s (length extra) extra (head_of members s room extra)
        (λ r. view_of members room r (known_at known (rack.bytes old) r)) (known_at known (rack.bytes old)) (known_at known (rack.bytes mid)) (known_at known (rack.bytes new)) guarded above stopped_at q h is)

    held_by : (on : ℕ → Bool) → StandsAfter stand served serves on → (q : ℕ) (h : Header) → IsCommitted (known_at known (rack.bytes new)) s q h
        → IsHeldBy on (known_at known (rack.bytes new)) s (all_kept members room extra served (known_at known (rack.bytes old)))
    held_by on after q h is = record {
      lead = h;
      by = by_all q h is;
      one = one_made q h is.has is.sequence;
      on = λ r at. elim (after r at) [
        | inl serving ↦ inl (as_committed (head_of members s room extra r), committed_at r (was_served r serving) (put_at r serving))
        | inr out ↦ inr (entry_none r out.1)
      ];
    }

    held_new : (on : ℕ → Bool) → StandsAfter stand served serves on → (q : ℕ) (h : Header) → IsCommitted (known_at known (rack.bytes new)) s q h
        → Holds on (known_at known (rack.bytes new)) (all_kept members room extra served (known_at known (rack.bytes old)))
    held_new on after q h is = record {
      reopened = as_all (landed_reopened (flag_in served) (size_in members) room places p top s (length extra) extra (head_of members s room extra)
          (λ r. view_of members room r (known_at known (rack.bytes old) r)) (known_at known (rack.bytes old)) (known_at known (rack.bytes mid)) (known_at known (rack.bytes new)) guarded above stopped_at q h is);
      anchored = λ d last. subst (λ (x : ℕ). IsHeldBy on (known_at known (rack.bytes new)) x (all_kept members room extra served (known_at known (rack.bytes old))))
          (sym (landed_last (flag_in served) (size_in members) room places p top s (length extra) extra (head_of members s room extra)
          (λ r. view_of members room r (known_at known (rack.bytes old) r)) (known_at known (rack.bytes old)) (known_at known (rack.bytes mid)) (known_at known (rack.bytes new)) guarded above stopped_at q h is d last))
          (held_by on after q h is);
    }

    pub guards_new : (q : ℕ) → flag_in serves q ≡ true
        → AreGuarded (flag_in serves) (size_in members) room (λ r. bit_in (bits_in members r)) s s (known_at known (rack.bytes new)) × IsFresh (known_at known (rack.bytes new)) s
    guards_new q on =
        let is = committed_at q (was_served q on) (put_at q on) in (
          record {
            seen = most_at;
            size = λ r h at has e. ap (λ (x : Header). x.size) (it_is r h at has e);
            room_is = λ r h at has e. ap (λ (x : Header). x.room) (it_is r h at has e);
            mark = λ r h at has e. ap (λ (x : Header). x.committed) (it_is r h at has e);
            named = λ r h at has e o low.
                subst (λ (x : ℕ). names_second (known_at known (rack.bytes new) r) (table_place (header_table h) x) (o / 512) ≡ bit_in (bits_in members r) (o / 512)) e
                (subst (λ (x : Header). IsPlaced x (bit_in (bits_in members r)) (known_at known (rack.bytes new) r)) (sym (it_is r h at has e)) (named_new r at) o low);
            later = λ r h at has b k other mark e. most_at r h has;
          },
          inr (
            s,
            record {
              member = q;
              header = as_committed (head_of members s room extra q);
              is = is;
              most = λ r h has mark. most_at r h has;
            },
            omega arith,
          ),
        )

    guards_serving : (q : ℕ) → flag_in serves q ≡ true → AreGuarded (flag_in serves) (size_in members) room (λ r. bit_in (bits_in members r)) s s (known_at known (rack.bytes new))
    guards_serving q on = (guards_new q on).0

    -- who stood and didn't serve stands on
    pub guards_lost : (on : ℕ → Bool) → StandsAfter stand served serves on → ((q : ℕ) → flag_in serves q ≡ false) → AreGuarded on (size_in members) room places p s (known_at known (rack.bytes new))
    guards_lost on after none = guarded_unserved (flag_in served) (size_in members) room places p top s (length extra) extra (head_of members s room extra)
        (λ q. view_of members room q (known_at known (rack.bytes old) q)) (known_at known (rack.bytes old)) (known_at known (rack.bytes mid)) (known_at known (rack.bytes new)) guarded above stopped_at
        stand on whole (λ q at. (out q at).0) (λ q at. (out q at).1)
      where
        out : (q : ℕ) → on q ≡ true → (stand q ≡ true) × (flag_in served q ≡ false)
        out q at = elim (after q at) [ inl serving ↦ absurd (false≢true (sym (none q) ∙ serving)) | inr stood ↦ stood ]

    pub guards_made : (on : ℕ → Bool) → StandsAfter stand served serves on → (q : ℕ) → flag_in serves q ≡ true
        → AreGuarded on (size_in members) room (λ r. bit_in (bits_in members r)) s s (known_at known (rack.bytes new)) × IsFresh (known_at known (rack.bytes new)) s
        × Holds on (known_at known (rack.bytes new)) (all_kept members room extra served (known_at known (rack.bytes old)))
    guards_made on after q serving = (
      guarded_all (flag_in served) (size_in members) room places p top s (length extra) extra (head_of members s room extra)
          (λ q. view_of members room q (known_at known (rack.bytes old) q)) (known_at known (rack.bytes old)) (known_at known (rack.bytes mid)) (known_at known (rack.bytes new)) guarded above stopped_at
          stand on (flag_in serves) (λ r. bit_in (bits_in members r)) whole (guards_serving q serving) after,
      (guards_new q serving).1,
      held_new on after q (as_committed (head_of members s room extra q)) (committed_at q (was_served q serving) (put_at q serving)),
    )

    fresh_new : IsFresh (known_at known (rack.bytes old)) p → p ≤ s → IsFresh (known_at known (rack.bytes new)) p
    fresh_new fresh low = elim landed [
      | inl none ↦ prepared_fresh (flag_in served) (size_in members) room places p top s (known_at known (rack.bytes old)) (known_at known (rack.bytes new)) guarded above
          (same_prepared (flag_in served) (size_in members) room places p top s (length extra) extra (head_of members s room extra)
          (λ q. view_of members room q (known_at known (rack.bytes old) q)) (known_at known (rack.bytes old)) (known_at known (rack.bytes mid)) (known_at known (rack.bytes new)) guarded above stopped_at none) fresh
      | inr found ↦ inr (s, record { member = found.0; header = found.1; is = found.2; most = λ r h has mark. most_at r h has }, low)
    ]

    pub tried_kept : IsFresh (known_at known (rack.bytes old)) p → (kept : Kept) → Reopened (known_at known (rack.bytes old)) kept → (on : ℕ → Bool) → StandsAfter stand served serves on
        → KeepsOrCommits members s room extra true served serves p stand on (known_at known (rack.bytes old)) (known_at known (rack.bytes new)) kept
    tried_kept fresh kept was on after = record {
      untried = λ is. absurd (false≢true (sym is));
      fresh = fresh_new fresh;
      either = elim landed [
        | inl none ↦ inl (stays_prepared (flag_in served) stand on (size_in members) room places p top s (known_at known (rack.bytes old)) (known_at known (rack.bytes new)) guarded above
            (same_prepared (flag_in served) (size_in members) room places p top s (length extra) extra (head_of members s room extra)
            (λ q. view_of members room q (known_at known (rack.bytes old) q)) (known_at known (rack.bytes old)) (known_at known (rack.bytes mid)) (known_at known (rack.bytes new)) guarded above stopped_at none)
            (λ q at. elim (after q at) [ inl serving ↦ serve_stand q (was_served q serving) | inr out ↦ out.0 ]) fresh kept was)
        | inr found ↦ inr (held_new on after found.0 found.1 found.2)
      ];
    }

-- who serves after the first pass has the layout that is kept in memory
pub sized_passed : {S : Type 0} (rack : Ghosts S) (members : List Places) (s room : ℕ) (extra : List ℕ) (served flags : List Bool) (old mid : S)
    → PassedBelow rack members s room extra 32 served flags old mid → (q : ℕ) → flag_in flags q ≡ true → Sized rack members room q mid
sized_passed rack members s room extra served flags old mid first q on = elim (lt_or q 32) [
  | inl low ↦ (first.below q low).sized on
  | inr high ↦ (first.rest q high).sized (sym (first.rest q high).flag ∙ on)
]

-- the two exits
pub leaves_untried : {S : Type 0} (rack : Ghosts S) (members : List Places) (s room : ℕ) (extra : List ℕ) (served flags : List Bool) → length served ≡ 32 → (old mid : S)
    → PassedBelow rack members s room extra 32 served flags old mid → LeavesKept rack members s room extra false served flags old mid
leaves_untried rack members s room extra served flags count old mid first steady known stand told stand_known serve_stand places p top whole above apart = (
  λ on after. record {
    untried = λ is. guards_mid rack members s room extra served flags count old mid first steady known stand told stand_known serve_stand places p top whole above apart on after;
    lost = λ is. absurd (false≢true is);
    made = λ is. absurd (false≢true is);
    one = λ is. absurd (false≢true is);
  },
  λ fresh kept was on after.
      let same = untried_kept rack members s room extra served flags count old mid first steady known stand told stand_known serve_stand places p top whole above apart on after fresh kept was in
      let on = fresh_mid rack members s room extra served flags count old mid first steady known stand told stand_known serve_stand places p top whole above apart fresh in
      record { untried = λ is. same; fresh = λ low. on; either = inl same },
)

pub leaves_tried : {S : Type 0} (rack : Ghosts S) (members : List Places) (s room : ℕ) (extra : List ℕ) (served flags serves : List Bool) → length served ≡ 32 → (old mid new : S)
    → PassedBelow rack members s room extra 32 served flags old mid → flags ≡ served → FinishedBelow rack members s room extra 32 flags serves mid new
    → LeavesKept rack members s room extra true served serves old new
leaves_tried rack members s room extra served flags serves count old mid new first same second steady known stand told stand_known serve_stand places p top whole above apart = (
  λ on after. record {
    untried = λ is. absurd (false≢true (sym is));
    lost = λ is none. guards_lost rack members s room extra served flags count old mid first steady known stand (λ q at. second.tells q (told q at)) stand_known serve_stand places p top whole above apart
        same serves new second told on after none;
    made = λ is. guards_made rack members s room extra served flags count old mid first steady known stand (λ q at. second.tells q (told q at)) stand_known serve_stand places p top whole above apart
        same serves new second told on after;
    one = λ is. one_made rack members s room extra served flags count old mid first steady known stand (λ q at. second.tells q (told q at)) stand_known serve_stand places p top whole above apart
        same serves new second told;
  },
  λ fresh kept was on after.
      tried_kept rack members s room extra served flags count old mid first steady known stand (λ q at. second.tells q (told q at)) stand_known serve_stand places p top whole above apart same serves new second told fresh kept was on after,
)
