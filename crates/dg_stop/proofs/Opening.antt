-- What an opening writes leaves what the members are reopened as.
use Rattle.std.proofs.Common.{◌≡◌, ◌≤◌, ◌%◌, ◌⊎◌, ℕ, true, List, refl, sym, ◌∙◌, ap, arith, inl, inr, subst}
use Rattle.std.specs.Prelude.{Some}
use Rattle.dg_io.specs.Kept.{Kept}
use Rattle.dg_stop.proofs.Committing.{entry_stays, extra_stays, has_written, was_or_is}
use Rattle.dg_stop.proofs.HeaderLemmas.{one_header}
use Rattle.dg_stop.proofs.Stopping.{committed_is}
use Rattle.dg_stop.specs.Headers.{Header, HasHeader, entry_of, extra_of}
use Rattle.dg_stop.specs.Commits.{WritesHeader, as_committed}
use Rattle.dg_stop.specs.Reopens.{KeptBy, Leads, Reopened, IsAttached, IsLast}
use Rattle.dg_stop.specs.Stops.{OpeningsLeaveKept, Upgrades}

-- a header of c after it, and the one before it of which it was made
pub record WasOf (c : ℕ) (lead : Header) (before : ℕ → List ℕ) (q : ℕ) (k : Header) (after : List ℕ) : Type 0 where
  pub old : Header
  pub has : HasHeader q (before q) old
  pub sequence : old.sequence ≡ k.sequence
  pub room : old.room ≡ k.room
  pub extra : old.extra ≡ k.extra
  pub entry : entry_of k after ≡ entry_of old (before q)
  pub bytes : extra_of k after ≡ extra_of old (before q)
  pub mark : old.committed ≡ true → k.committed ≡ true
  pub made : (k.committed ≡ true → old.committed ≡ true) ⊎ IsAttached before c lead q old

itself : (c : ℕ) (lead : Header) (before : ℕ → List ℕ) (q : ℕ) (k : Header) (after : List ℕ) → after ≡ before q → HasHeader q (before q) k → WasOf c lead before q k after
itself c lead before q k after same has = record {
  old = k;
  has = has;
  sequence = refl;
  room = refl;
  extra = refl;
  entry = ap (entry_of k) same;
  bytes = ap (extra_of k) same;
  mark = λ e. e;
  made = inl (λ e. e);
}

module _ (c : ℕ) (lead : Header) (before after : ℕ → List ℕ) (up : Upgrades c lead before after) where
  pub was : (q : ℕ) (k : Header) → HasHeader q (after q) k → WasOf c lead before q k (after q)
  was q k has = elim (up q) [
    | inl same ↦ itself c lead before q k (after q) same (subst (λ (l : List ℕ). HasHeader q l k) same has)
    | inr wrote ↦ written q k has wrote.0 wrote.1 wrote.2
  ]
    where
      written : (q : ℕ) (k : Header) → HasHeader q (after q) k → (h : Header) → IsAttached before c lead q h → WritesHeader (as_committed h) (before q) (after q)
          → WasOf c lead before q k (after q)
      written q k has h at (inl same) = itself c lead before q k (after q) same (subst (λ (l : List ℕ). HasHeader q l k) same has)
      written q k has h at (inr put) = elim (was_or_is q (as_committed h) (before q) (after q) (committed_is h at.has.is) at.has.own at.has.long put k has) [
        | inl e ↦ subst (λ (x : Header). WasOf c lead before q x (after q)) (sym e) (record {
          old = h;
          has = at.has;
          sequence = refl;
          room = refl;
          extra = refl;
          entry = entry_stays q (as_committed h) (before q) (after q) (committed_is h at.has.is) at.has.own at.has.long put h;
          bytes = extra_stays q (as_committed h) (before q) (after q) (committed_is h at.has.is) at.has.own at.has.long put h at.has.is;
          mark = λ e. refl;
          made = inr at;
        })
        | inr other ↦ record {
          old = k;
          has = other.0;
          sequence = refl;
          room = refl;
          extra = refl;
          entry = entry_stays q (as_committed h) (before q) (after q) (committed_is h at.has.is) at.has.own at.has.long put k;
          bytes = extra_stays q (as_committed h) (before q) (after q) (committed_is h at.has.is) at.has.own at.has.long put k other.0.is;
          mark = λ e. e;
          made = inl (λ e. e);
        }
      ]

  -- a header of c is still there, or it is committed now
  pub still : (q : ℕ) (h : Header) → HasHeader q (before q) h → h.sequence ≡ c → (HasHeader q (after q) h) ⊎ (HasHeader q (after q) (as_committed h))
  still q h has e = elim (up q) [
    | inl same ↦ inl (subst (λ (l : List ℕ). HasHeader q l h) (sym same) has)
    | inr wrote ↦ elim wrote.2 [
      | inl same ↦ inl (subst (λ (l : List ℕ). HasHeader q l h) (sym same) has)
      | inr put ↦ inr (subst (λ (x : Header). HasHeader q (after q) (as_committed x))
          (one_header q (before q) wrote.0 h wrote.1.has has (ap (λ (x : ℕ). x % 2) (wrote.1.sequence ∙ sym e)))
          (has_written q (as_committed wrote.0) (before q) (after q) (committed_is wrote.0 wrote.1.has.is) wrote.1.has.own wrote.1.has.long put))
    ]
  ]

  attached_before : (q : ℕ) (k : Header) → IsAttached after c lead q k → (w : WasOf c lead before q k (after q)) → IsAttached before c lead q w.old
  attached_before q k at w = record { has = w.has; sequence = w.sequence ∙ at.sequence; room = w.room ∙ at.room; extra = w.extra ∙ at.extra }

  none_attached : (q : ℕ) → ((k : Header) → IsAttached after c lead q k → ⊥) → (h : Header) → IsAttached before c lead q h → ⊥
  none_attached q none h at = elim (still q h at.has at.sequence) [
    | inl has ↦ none h (record { has = has; sequence = at.sequence; room = at.room; extra = at.extra })
    | inr has ↦ none (as_committed h) (record { has = has; sequence = at.sequence; room = at.room; extra = at.extra })
  ]

  least_before : (q : ℕ) → ((p : ℕ) (k : Header) → IsAttached after c lead p k → q ≤ p) → (p : ℕ) (h : Header) → IsAttached before c lead p h → q ≤ p
  least_before q least p h at = elim (still p h at.has at.sequence) [
    | inl has ↦ least p h (record { has = has; sequence = at.sequence; room = at.room; extra = at.extra })
    | inr has ↦ least p (as_committed h) (record { has = has; sequence = at.sequence; room = at.room; extra = at.extra })
  ]

  pub kept_after : (kept : Kept) → KeptBy before c lead kept → KeptBy after c lead kept
  kept_after kept by = record {
    attached = λ q k at. let w = was q k at.has in by.attached q w.old (attached_before q k at w) ∙ ap (λ (x : List ℕ). Some x) (sym w.entry);
    others = λ q none. by.others q (none_attached q none);
    extra = λ q k at least. let w = was q k at.has in by.extra q w.old (attached_before q k at w) (least_before q least) ∙ sym w.bytes;
  }

  -- a committed header after it has a sequence that was committed before
  sequences : (q : ℕ) (k : Header) → HasHeader q (after q) k → k.committed ≡ true → IsLast before c → k.sequence ≤ c
  sequences q k has mark last =
      let w = was q k has in
      elim w.made [
        | inl e ↦ omega (arith, w.sequence, last.most q w.old w.has (e mark))
        | inr at ↦ omega (arith, w.sequence, at.sequence)
      ]

  pub last_after : IsLast before c → IsLast after c
  last_after last = elim (still last.member last.header last.is.has last.is.sequence) [
    | inl has ↦ record {
      member = last.member;
      header = last.header;
      is = record { has = has; sequence = last.is.sequence; mark = last.is.mark };
      most = λ q k got mark. sequences q k got mark last;
    }
    | inr has ↦ record {
      member = last.member;
      header = as_committed last.header;
      is = record { has = has; sequence = last.is.sequence; mark = refl };
      most = λ q k got mark. sequences q k got mark last;
    }
  ]

  lead_is_last : (q : ℕ) → Leads before c q lead → (r : ℕ) (k : Header) → Leads after c r k → r ≤ q
  lead_is_last q leads r k next = elim (still q lead leads.is.has leads.is.sequence) [
    | inl has ↦ next.least q lead (record { has = has; sequence = leads.is.sequence; mark = leads.is.mark })
    | inr has ↦ next.least q (as_committed lead) (record { has = has; sequence = leads.is.sequence; mark = refl })
  ]

  -- the new lead has the numbers of the old one
  lead_same : (q : ℕ) → Leads before c q lead → (r : ℕ) (k : Header) → Leads after c r k → (k.room ≡ lead.room) × (k.extra ≡ lead.extra)
  lead_same q leads r k next =
      let w = was r k next.is.has in
      elim w.made [
        | inl e ↦
            let down : q ≤ r = leads.least r w.old (record { has = w.has; sequence = w.sequence ∙ next.is.sequence; mark = e next.is.mark }) in
            let up : r ≤ q = lead_is_last q leads r k next in
            let same : r ≡ q = omega (arith, down, up) in
            let one : w.old ≡ lead = one_header q (before q) w.old lead (subst (λ (x : ℕ). HasHeader x (before x) w.old) same w.has) leads.is.has
            (ap (λ (x : ℕ). x % 2) (w.sequence ∙ next.is.sequence ∙ sym leads.is.sequence)) in
            (sym w.room ∙ ap (λ (x : Header). x.room) one, sym w.extra ∙ ap (λ (x : Header). x.extra) one)
        | inr at ↦ (sym w.room ∙ at.room, sym w.extra ∙ at.extra)
      ]

  attached_by : (k : Header) → (k.room ≡ lead.room) × (k.extra ≡ lead.extra) → (r : ℕ) (h : Header) → IsAttached after c k r h → IsAttached after c lead r h
  attached_by k same r h at = record { has = at.has; sequence = at.sequence; room = at.room ∙ same.0; extra = at.extra ∙ same.1 }

  attached_as : (k : Header) → (k.room ≡ lead.room) × (k.extra ≡ lead.extra) → (r : ℕ) (h : Header) → IsAttached after c lead r h → IsAttached after c k r h
  attached_as k same r h at = record { has = at.has; sequence = at.sequence; room = at.room ∙ sym same.0; extra = at.extra ∙ sym same.1 }

  kept_by : (kept : Kept) → KeptBy after c lead kept → (k : Header) → (k.room ≡ lead.room) × (k.extra ≡ lead.extra) → KeptBy after c k kept
  kept_by kept by k same = record {
    attached = λ r h at. by.attached r h (attached_by k same r h at);
    others = λ r none. by.others r (λ h at. none h (attached_as k same r h at));
    extra = λ r h at least. by.extra r h (attached_by k same r h at) (λ p j other. least p j (attached_as k same p j other));
  }

  pub opening_kept : (q : ℕ) → IsLast before c → Leads before c q lead → (kept : Kept) → Reopened before kept → (IsLast after c) × (Reopened after kept)
  opening_kept q last leads kept had =
      let next = last_after last in (
        next,
        record {
          nothing = λ none. absurd (none next.member next.header next.is.has next.is.mark);
          last = λ d r k other lead_next.
              let up : d ≤ c = omega (arith, next.most other.member other.header other.is.has other.is.mark, other.is.sequence) in
              let down : c ≤ d = omega (arith, other.most next.member next.header next.is.has next.is.mark, next.is.sequence) in
              let same : d ≡ c = omega (arith, up, down) in
              subst (λ (x : ℕ). KeptBy after x k kept) (sym same)
              (kept_by kept (kept_after kept (had.last c q lead last leads)) k
              (lead_same q leads r k (subst (λ (x : ℕ). Leads after x r k) same lead_next)));
        },
      )

pub openings_leave_kept : OpeningsLeaveKept
openings_leave_kept c q lead before after last leads up kept had = opening_kept c lead before after up q last leads kept had
