-- A commit that is stopped at any call: the members are reopened as before, or as what it names.
use Rattle.std.proofs.Common.{◌≡◌, ◌≢◌, ◌≤◌, ◌<◌, ◌/◌, ◌⊎◌, ℕ, Bool, true, false, List, refl, sym, ◌∙◌, ap, arith, inl, inr, subst}
use Rattle.std.specs.Prelude.{Some, None}
use Rattle.dg_io.specs.Kept.{Kept}
use Rattle.dg_stop.proofs.Committing.{committed_back, commits_ready, has_written, prepared_reopened, same_or_not, was_or_is}
use Rattle.dg_stop.proofs.Reopening.{completes_by, completes_last, completes_reopened}
use Rattle.dg_stop.specs.Headers.{Header, HasHeader, IsHeader, header_table}
use Rattle.dg_stop.specs.Layouts.{names_second, table_place}
use Rattle.dg_stop.specs.Changes.{Completes, Names}
use Rattle.dg_stop.specs.Commits.{AreGuarded, ArePrepared, HasNone, IsFresh, IsNamed, IsReady, Prepares, WritesHeader, as_committed}
use Rattle.dg_stop.specs.Reopens.{Reopened, IsCommitted, IsLast, KeptBy}
use Rattle.dg_stop.specs.Stops.{HasLanded, IsStopped, NamedOrNone, NotLanded, StopsLeaveOldOrNew, entry_by, new_kept}

pub committed_is : (h : Header) → IsHeader h → IsHeader (as_committed h)
committed_is h is = record { first = is.first; last = is.last; fits = is.fits; sizes = is.sizes; rooms = is.rooms; members = is.members }

module _ (stands : ℕ → Bool) (sizes : ℕ → ℕ) (room : ℕ) (places : ℕ → ℕ → Bool) (p top s count : ℕ) (extra : List ℕ) (heads : ℕ → Header)
    (targets : ℕ → List ℕ) (before middle after : ℕ → List ℕ) (guarded : AreGuarded stands sizes room places p top before) (above : top < s)
    (stopped : IsStopped stands p s room count extra heads targets before middle after) where
  below : (q : ℕ) (b : Bool) → stands q ≡ b → (h : Header) → HasHeader q (middle q) h → h.sequence ≤ s
  below q true is h has = elim (same_or_not h.sequence s) [
    | inl same ↦ omega (arith, same)
    | inr other ↦ omega (arith, above, guarded.seen q h ((stopped.prepared.standing q is).back h has other))
  ]
  below q false is h has = omega (arith, above, guarded.seen q h (subst (λ (l : List ℕ). HasHeader q l h) (stopped.prepared.rest q is) has))

  none_of : (q : ℕ) → stands q ≡ false → HasNone s q (middle q)
  none_of q is h has same = omega (arith, above, same, guarded.seen q h (subst (λ (l : List ℕ). HasHeader q l h) (stopped.prepared.rest q is) has))

  ready_none : (q : ℕ) → HasNone s q (middle q) → IsReady s room count extra (targets q) q (middle q)
  ready_none q none = record {
    most = below q (stands q) refl;
    room_is = λ h has same. absurd (none h has same);
    count_is = λ h has same. absurd (none h has same);
    entry = λ h has same. absurd (none h has same);
    extra_is = λ h has same. absurd (none h has same);
  }

  ready_named : (q : ℕ) → IsNamed q (heads q) extra (targets q) (middle q) → IsReady s room count extra (targets q) q (middle q)
  ready_named q named =
      subst (λ (x : ℕ). IsReady x room count extra (targets q) q (middle q)) (stopped.sequence q)
      (subst (λ (x : ℕ). IsReady (heads q).sequence x count extra (targets q) q (middle q)) (stopped.room_is q)
      (subst (λ (x : ℕ). IsReady (heads q).sequence (heads q).room x extra (targets q) q (middle q)) (stopped.count_is q) named.ready))

  ready_middle : (q : ℕ) → IsReady s room count extra (targets q) q (middle q)
  ready_middle q = elim (stopped.named q) [
    | inl none ↦ ready_none q none
    | inr named ↦ ready_named q named
  ]

  ready_after : (q : ℕ) → IsReady s room count extra (targets q) q (after q)
  ready_after q = elim (stopped.second q) [
    | inl same ↦ subst (λ (l : List ℕ). IsReady s room count extra (targets q) q l) (sym same) (ready_middle q)
    | inr wrote ↦ commits_ready q (heads q) s room count extra (targets q) (middle q) (after q) (ready_middle q) wrote.0 (stopped.sequence q) wrote.1
  ]

  pub completes : Completes s room extra count targets after
  completes = record {
    most = λ q h has. (ready_after q).most h has;
    room_is = λ q h has same. (ready_after q).room_is h has same;
    count_is = λ q h has same. (ready_after q).count_is h has same;
    entry = λ q h has same. (ready_after q).entry h has same;
    extra_is = λ q h has same. (ready_after q).extra_is h has same;
  }

  was_none : (q : ℕ) → HasNone s q (middle q) → HasNone s q (after q)
  was_none q none = elim (stopped.second q) [
    | inl same ↦ subst (λ (l : List ℕ). HasNone s q l) (sym same) none
    | inr wrote ↦ absurd (none (heads q) wrote.0 (stopped.sequence q))
  ]

  was_named : (q : ℕ) → IsNamed q (heads q) extra (targets q) (middle q) → HasNone s q (after q) → ⊥
  was_named q named none = elim (stopped.second q) [
    | inl same ↦ none (heads q) (subst (λ (l : List ℕ). HasHeader q l (heads q)) (sym same) named.has) (stopped.sequence q)
    | inr wrote ↦ elim wrote.1 [
      | inl same ↦ none (heads q) (subst (λ (l : List ℕ). HasHeader q l (heads q)) (sym same) named.has) (stopped.sequence q)
      | inr put ↦ none (as_committed (heads q))
          (has_written q (as_committed (heads q)) (middle q) (after q) (committed_is (heads q) named.has.is) named.has.own named.has.long put) (stopped.sequence q)
    ]
  ]

  entry_some : (q : ℕ) (named : NamedOrNone s q (heads q) extra (targets q) (middle q)) → (h : Header) → HasHeader q (after q) h → h.sequence ≡ s
      → (HasNone s q (middle q) → HasNone s q (after q)) → entry_by s q (heads q) extra (targets q) (middle q) named ≡ Some (targets q)
  entry_some q (inl none) h has same on = absurd (on none h has same)
  entry_some q (inr named) h has same on = refl

  entry_none : (q : ℕ) (named : NamedOrNone s q (heads q) extra (targets q) (middle q)) → HasNone s q (after q)
      → entry_by s q (heads q) extra (targets q) (middle q) named ≡ None
  entry_none q (inl none) gone = refl
  entry_none q (inr named) gone = absurd (was_named q named gone)

  names : Names s extra targets after (new_kept s heads extra targets middle stopped.named)
  names = record {
    has = λ q h has same. entry_some q (stopped.named q) h has same (was_none q);
    hasnt = λ q none. entry_none q (stopped.named q) none;
    extra_is = refl;
  }

  pub same_prepared : NotLanded middle after → ArePrepared stands p s before after
  same_prepared not = record {
    standing = λ q is. subst (λ (l : List ℕ). Prepares p s q (before q) l) (sym (not q)) (stopped.prepared.standing q is);
    rest = λ q is. not q ∙ stopped.prepared.rest q is;
  }

  pub landed_reopened : (q : ℕ) (h : Header) → IsCommitted after s q h → Reopened after (new_kept s heads extra targets middle stopped.named)
  landed_reopened q h is =
      completes_reopened s room extra count targets after completes q h is (new_kept s heads extra targets middle stopped.named) names

  pub landed_kept : (q : ℕ) (h : Header) → IsCommitted after s q h → KeptBy after s h (new_kept s heads extra targets middle stopped.named)
  landed_kept q h is = completes_by s room extra count targets after completes (new_kept s heads extra targets middle stopped.named) names q h is.has is.sequence

  pub landed_last : (q : ℕ) (h : Header) → IsCommitted after s q h → (d : ℕ) → IsLast after d → d ≡ s
  landed_last q h is d last = completes_last s room extra count targets after completes q h is d last

  pub stopped_reopened : IsFresh before p → HasLanded s middle after → (kept : Kept) → Reopened before kept
      → (Reopened after kept) ⊎ (Reopened after (new_kept s heads extra targets middle stopped.named))
  stopped_reopened fresh (inl not) kept was =
      inl (prepared_reopened stands sizes room places p top s before after guarded above (same_prepared not) fresh kept was)
  stopped_reopened fresh (inr (q, h, is)) kept was = inr (landed_reopened q h is)

  -- a member that didn't serve has the bytes that it had
  unserved : (q : ℕ) → stands q ≡ false → after q ≡ before q
  unserved q is = elim (stopped.second q) [
    | inl same ↦ same ∙ stopped.prepared.rest q is
    | inr wrote ↦ absurd (none_of q is (heads q) wrote.0 (stopped.sequence q))
  ]

  -- a committed header is one of s, or was there
  was_committed : (r : ℕ) (k : Header) → HasHeader r (after r) k → k.committed ≡ true → (k.sequence ≡ s) ⊎ HasHeader r (before r) k
  was_committed r k has mark = elim (same_or_not k.sequence s) [
    | inl same ↦ inl same
    | inr other ↦ inr (committed_back stands sizes room places p top s before middle guarded above stopped.prepared r k (in_middle other (stopped.second r)) mark (stands r) refl)
  ]
    where
      in_middle : k.sequence ≢ s → (after r ≡ middle r) ⊎ (HasHeader r (middle r) (heads r) × WritesHeader (as_committed (heads r)) (middle r) (after r)) → HasHeader r (middle r) k
      in_middle other (inl same) = subst (λ (l : List ℕ). HasHeader r l k) same has
      in_middle other (inr (there, inl same)) = subst (λ (l : List ℕ). HasHeader r l k) same has
      in_middle other (inr (there, inr put)) = elim (was_or_is r (as_committed (heads r)) (middle r) (after r) (committed_is (heads r) there.is) there.own there.long put k has) [
        | inl e ↦ absurd (other (ap (λ (x : Header). x.sequence) e ∙ stopped.sequence r))
        | inr old ↦ old.0
      ]

  -- the invariant of the members that stand and didn't serve, where the commit isn't the last one: they hold it of p
  pub guarded_unserved : (all on : ℕ → Bool) → AreGuarded all sizes room places p top before → ((q : ℕ) → on q ≡ true → all q ≡ true)
      → ((q : ℕ) → on q ≡ true → stands q ≡ false) → AreGuarded on sizes room places p s after
  guarded_unserved all on whole wider out = record {
    seen = λ q h has. (ready_after q).most h has;
    size = λ q h at has e. whole.size q h (wider q at) (was q at h has) e;
    room_is = λ q h at has e. whole.room_is q h (wider q at) (was q at h has) e;
    mark = λ q h at has e. whole.mark q h (wider q at) (was q at h has) e;
    named = λ q h at has e o low.
        ap (λ (l : List ℕ). names_second l (table_place (header_table h) p) (o / 512)) (unserved q (out q at)) ∙ whole.named q h (wider q at) (was q at h has) e o low;
    later = λ q h at has r k other mark e. elim (was_committed r k other mark) [
      | inl same ↦ absurd (omega (arith, above, same, e, whole.seen q h (was q at h has)))
      | inr old ↦ whole.later q h (wider q at) (was q at h has) r k old mark e
    ];
  }
    where
      was : (q : ℕ) → on q ≡ true → (h : Header) → HasHeader q (after q) h → HasHeader q (before q) h
      was q at h has = subst (λ (l : List ℕ). HasHeader q l h) (unserved q (out q at)) has

  -- and where it is: of s, for nothing, since all their headers are below it
  pub guarded_all : (all on serve : ℕ → Bool) (now : ℕ → ℕ → Bool) → AreGuarded all sizes room places p top before → AreGuarded serve sizes room now s s after
      → ((q : ℕ) → on q ≡ true → (serve q ≡ true) ⊎ ((all q ≡ true) × (stands q ≡ false))) → AreGuarded on sizes room now s s after
  guarded_all all on serve now whole made either = record {
    seen = made.seen;
    size = λ q h at has e. elim (either q at) [ inl on ↦ made.size q h on has e | inr out ↦ absurd (high q out.1 h has e) ];
    room_is = λ q h at has e. elim (either q at) [ inl on ↦ made.room_is q h on has e | inr out ↦ absurd (high q out.1 h has e) ];
    mark = λ q h at has e. elim (either q at) [ inl on ↦ made.mark q h on has e | inr out ↦ absurd (high q out.1 h has e) ];
    named = λ q h at has e o low. elim (either q at) [ inl on ↦ made.named q h on has e o low | inr out ↦ absurd (high q out.1 h has e) ];
    later = λ q h at has r k other mark e. made.seen q h has;
  }
    where
      high : (q : ℕ) → stands q ≡ false → (h : Header) → HasHeader q (after q) h → h.sequence ≡ s → ⊥
      high q out h has e = omega (arith, above, e, whole.seen q h (subst (λ (l : List ℕ). HasHeader q l h) (unserved q out) has))

pub stops_leave_old_or_new : StopsLeaveOldOrNew
stops_leave_old_or_new stands sizes room places p top s count extra heads targets before middle after guarded above stopped fresh landed kept was =
    stopped_reopened stands sizes room places p top s count extra heads targets before middle after guarded above stopped fresh landed kept was
