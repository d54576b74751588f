-- What holds of the members after an opening.
use Rattle.std.proofs.Common.{◌≡◌, ◌≤◌, ◌<◌, ◌/◌, ◌%◌, ◌⊎◌, ℕ, Bool, true, List, refl, sym, ◌∙◌, ap, arith, inl, inr, subst}
use Rattle.std.specs.Prelude.{Some, slice_index}
use Rattle.dg_io.specs.Kept.{Kept}
use Rattle.dg_stop.proofs.Committing.{names_stay}
use Rattle.dg_stop.proofs.HeaderLemmas.{one_header}
use Rattle.dg_stop.proofs.Opening.{WasOf, kept_after, last_after, openings_leave_kept, was}
use Rattle.dg_stop.proofs.Ranges.{seen_same}
use Rattle.dg_stop.proofs.Stopping.{committed_is}
use Rattle.dg_stop.specs.Anchors.{IsAnchored, IsHeldBy}
use Rattle.dg_stop.specs.Commits.{AreGuarded, WritesHeader, as_committed}
use Rattle.dg_stop.specs.Headers.{Header, HasHeader, header_table}
use Rattle.dg_stop.specs.Layouts.{names_second, seen, spot, table_place, table_size}
use Rattle.dg_stop.specs.Openings.{GuardsOpened, HoldsOpened, IsTaken, OpeningsHold}
use Rattle.dg_stop.specs.Reopens.{IsAttached, IsLast, Leads, Reopened}
use Rattle.dg_stop.specs.Stops.{AreOfOne, Upgrades}

-- a table is as it was
names_written : (c : ℕ) (lead : Header) (before after : ℕ → List ℕ) (q : ℕ) → (after q ≡ before q) ⊎ ((h : Header) × IsAttached before c lead q h × WritesHeader (as_committed h) (before q) (after q))
    → (k : Header) (o : ℕ) → o < k.size
    → names_second (after q) (table_place (header_table k) k.sequence) (o / 512) ≡ names_second (before q) (table_place (header_table k) k.sequence) (o / 512)
names_written c lead before after q (inl same) k o low = ap (λ (l : List ℕ). names_second l (table_place (header_table k) k.sequence) (o / 512)) same
names_written c lead before after q (inr (h, at, inl same)) k o low = ap (λ (l : List ℕ). names_second l (table_place (header_table k) k.sequence) (o / 512)) same
names_written c lead before after q (inr (h, at, inr put)) k o low = names_stay q (as_committed h) (before q) (after q) (committed_is h at.has.is) at.has.own at.has.long put k o low

spot_named : (t : ℕ) (a b : ℕ → Bool) (all : List ℕ) (o : ℕ) → a (o / 512) ≡ b (o / 512) → slice_index all (spot t a o) ≡ slice_index all (spot t b o)
spot_named t a b all o e = rw e refl

module _ (stands : ℕ → Bool) (sizes : ℕ → ℕ) (places : ℕ → ℕ → Bool) (c first top : ℕ) (lead : Header) (before after : ℕ → List ℕ)
    (last : IsLast before c) (leads : Leads before c first lead) (up : Upgrades c lead before after)
    (seen_before : (q : ℕ) (h : Header) → HasHeader q (before q) h → h.sequence ≤ top)
    (taken : (q : ℕ) → stands q ≡ true → IsTaken c lead before after (sizes q) (places q) q) where
  next : IsLast after c
  next = last_after c lead before after up last

  was_at : (q : ℕ) (k : Header) → HasHeader q (after q) k → WasOf c lead before q k (after q)
  was_at q k has = was c lead before after up q k has

  -- the header of c of a member that stands
  is_taken : (q : ℕ) (at : stands q ≡ true) (k : Header) → HasHeader q (after q) k → k.sequence ≡ c → k ≡ as_committed (taken q at).header
  is_taken q at k has e =
      let it = taken q at in
      one_header q (after q) k (as_committed it.header) has it.committed (ap (λ (x : ℕ). x % 2) (e ∙ sym it.attached.sequence))

  named : (q : ℕ) (at : stands q ≡ true) (k : Header) → k ≡ as_committed (taken q at).header → (o : ℕ) → o < k.size
      → names_second (after q) (table_place (header_table k) c) (o / 512) ≡ places q (o / 512)
  named q at k e o low =
      let it = taken q at in
      let size : o < it.header.size = subst (λ (h : Header). o < h.size) e low in
      ap (λ (h : Header). names_second (after q) (table_place (header_table h) c) (o / 512)) e
      ∙ subst (λ (x : ℕ). names_second (after q) (table_place (header_table it.header) x) (o / 512) ≡ names_second (before q) (table_place (header_table it.header) x) (o / 512)) it.attached.sequence
      (names_written c lead before after q (up q) it.header o size)
      ∙ it.named o size

  guarded : AreGuarded stands sizes lead.room places c top after
  guarded = record {
    seen = λ q k has. let w = was_at q k has in omega (arith, w.sequence, seen_before q w.old w.has);
    size = λ q k at has e. ap (λ (h : Header). h.size) (is_taken q at k has e) ∙ sym (taken q at).size_is;
    room_is = λ q k at has e. ap (λ (h : Header). h.room) (is_taken q at k has e) ∙ (taken q at).attached.room;
    mark = λ q k at has e. ap (λ (h : Header). h.committed) (is_taken q at k has e);
    named = λ q k at has e o low. named q at k (is_taken q at k has e) o low;
    later = λ q k at has r j other mark e. omega (arith, e, next.most r j other mark);
  }

  same_last : (d : ℕ) → IsLast after d → d ≡ c
  same_last d other =
      let up_to : d ≤ c = omega (arith, next.most other.member other.header other.is.has other.is.mark, other.is.sequence) in
      let down : c ≤ d = omega (arith, other.most next.member next.header next.is.has next.is.mark, next.is.sequence) in
      omega (arith, up_to, down)

  pub guards : GuardsOpened stands sizes places c top lead after
  guards = record { guarded = guarded; fresh = inr (c, next, omega arith) }

  module _ (kept : Kept) (had : Reopened before kept) where
    one_after : AreOfOne c lead kept.extra before → AreOfOne c lead kept.extra after
    one_after one = record {
      room_is = λ q k has e. let w = was_at q k has in sym w.room ∙ one.room_is q w.old w.has (w.sequence ∙ e);
      count_is = λ q k has e. let w = was_at q k has in sym w.extra ∙ one.count_is q w.old w.has (w.sequence ∙ e);
      bytes = λ q k has e. let w = was_at q k has in w.bytes ∙ one.bytes q w.old w.has (w.sequence ∙ e);
    }

    anchored : AreOfOne c lead kept.extra before → IsAnchored stands after kept
    anchored one d other = subst (λ (x : ℕ). IsHeldBy stands after x kept) (sym (same_last d other)) (record {
      lead = lead;
      by = kept_after c lead before after up kept (had.last c first lead last leads);
      one = one_after one;
      on = λ q at. inl (as_committed (taken q at).header, record { has = (taken q at).committed; sequence = (taken q at).attached.sequence; mark = refl });
    })

    bytes : (q : ℕ) → stands q ≡ true → kept.entries q ≡ Some (seen (table_size (sizes q) lead.room) (places q) (sizes q) (after q))
    bytes q at =
        let it = taken q at in
        let k = as_committed it.header in
        let by = kept_after c lead before after up kept (had.last c first lead last leads) in
        by.attached q k (record { has = it.committed; sequence = it.attached.sequence; room = it.attached.room; extra = it.attached.extra })
        ∙ ap (λ (l : List ℕ). Some l) (seen_same (header_table k) k.size (names_second (after q) (table_place (header_table k) k.sequence)) (places q) (after q) (after q)
        (λ o low. spot_named (header_table k) (names_second (after q) (table_place (header_table k) k.sequence)) (places q) (after q) o
        (subst (λ (x : ℕ). names_second (after q) (table_place (header_table k) x) (o / 512) ≡ places q (o / 512)) (sym it.attached.sequence) (named q at k refl o low)))
        ∙ as_sizes q (after q) it.header.size it.header.room (sizes q) (sym it.size_is) it.attached.room)
      where
        as_sizes : (q : ℕ) (all : List ℕ) (n r m : ℕ) → n ≡ m → r ≡ lead.room → seen (table_size n r) (places q) n all ≡ seen (table_size m lead.room) (places q) m all
        as_sizes q all n r m e f = rw (e, f) refl

    pub holds : HoldsOpened stands sizes places c lead before after kept
    holds = record { reopened = (openings_leave_kept c first lead before after last leads up kept had).1; anchored = anchored; bytes = bytes }

pub openings_hold : OpeningsHold
openings_hold stands sizes places c first top lead before after last leads up seen_before taken = (
  guards stands sizes places c first top lead before after last leads up seen_before taken,
  λ kept had. holds stands sizes places c first top lead before after last leads up seen_before taken kept had,
)
