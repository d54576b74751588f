-- What an opening writes leaves what any more members are reopened as, of which some have a later commit.
use Rattle.std.proofs.Common.{◌≡◌, ◌≢◌, ◌≤◌, ℕ, List, sym, ◌∙◌, ap, arith, inl, inr, subst}
use Rattle.std.specs.Prelude.{Some}
use Rattle.dg_io.specs.Kept.{Kept}
use Rattle.dg_stop.proofs.Committing.{entry_stays, extra_stays, other_stays, same_or_not, was_or_is}
use Rattle.dg_stop.proofs.HeaderLemmas.{one_header}
use Rattle.dg_stop.proofs.Opening.{opening_kept, was}
use Rattle.dg_stop.proofs.Stopping.{committed_is}
use Rattle.dg_stop.specs.Commits.{as_committed}
use Rattle.dg_stop.specs.Headers.{Header, HasHeader, IsHeader, entry_of, extra_of}
use Rattle.dg_stop.specs.Openings.{OpeningsSpare}
use Rattle.dg_stop.specs.Reopens.{IsAttached, IsCommitted, IsLast, KeptBy, Leads, Reopened}
use Rattle.dg_stop.specs.Stops.{Upgrades}

module _ (c : ℕ) (lead : Header) (before after : ℕ → List ℕ) (up : Upgrades c lead before after) where
  -- a header of another commit
  on_at : (q : ℕ) (k : Header) → k.sequence ≢ c → HasHeader q (before q) k → HasHeader q (after q) k
  on_at q k far has = elim (up q) [
    | inl same ↦ subst (λ (l : List ℕ). HasHeader q l k) (sym same) has
    | inr wrote ↦ elim wrote.2 [
      | inl same ↦ subst (λ (l : List ℕ). HasHeader q l k) (sym same) has
      | inr put ↦
          let h = wrote.0 in
          let at = wrote.1 in
          other_stays q (as_committed h) (before q) (after q) (committed_is h at.has.is) at.has.own at.has.long put k has
          (λ parity. far (ap (λ (x : Header). x.sequence) (one_header q (before q) k h has at.has (sym parity)) ∙ at.sequence))
    ]
  ]

  back_at : (q : ℕ) (k : Header) → k.sequence ≢ c → HasHeader q (after q) k → HasHeader q (before q) k
  back_at q k far has = elim (up q) [
    | inl same ↦ subst (λ (l : List ℕ). HasHeader q l k) same has
    | inr wrote ↦ elim wrote.2 [
      | inl same ↦ subst (λ (l : List ℕ). HasHeader q l k) same has
      | inr put ↦
          let h = wrote.0 in
          let at = wrote.1 in
          elim (was_or_is q (as_committed h) (before q) (after q) (committed_is h at.has.is) at.has.own at.has.long put k has) [
            | inl e ↦ absurd (far (ap (λ (x : Header). x.sequence) e ∙ at.sequence))
            | inr other ↦ other.0
          ]
    ]
  ]

  entry_at : (q : ℕ) (k : Header) → entry_of k (after q) ≡ entry_of k (before q)
  entry_at q k = elim (up q) [
    | inl same ↦ ap (entry_of k) same
    | inr wrote ↦ elim wrote.2 [
      | inl same ↦ ap (entry_of k) same
      | inr put ↦
          let h = wrote.0 in
          let at = wrote.1 in
          entry_stays q (as_committed h) (before q) (after q) (committed_is h at.has.is) at.has.own at.has.long put k
    ]
  ]

  extra_at : (q : ℕ) (k : Header) → IsHeader k → extra_of k (after q) ≡ extra_of k (before q)
  extra_at q k is = elim (up q) [
    | inl same ↦ ap (extra_of k) same
    | inr wrote ↦ elim wrote.2 [
      | inl same ↦ ap (extra_of k) same
      | inr put ↦
          let h = wrote.0 in
          let at = wrote.1 in
          extra_stays q (as_committed h) (before q) (after q) (committed_is h at.has.is) at.has.own at.has.long put k is
    ]
  ]

  module _ (d : ℕ) (far : d ≢ c) (m : ℕ) (k : Header) (commits : IsCommitted before c m k) (last : IsLast before d) where
    not_c : (n : ℕ) → n ≡ d → n ≢ c
    not_c n e same = far (sym e ∙ same)

    above : c ≤ d
    above = omega (arith, last.most m k commits.has commits.mark, commits.sequence)

    last_at : IsLast after d
    last_at = record {
      member = last.member;
      header = last.header;
      is = record { has = on_at last.member last.header (not_c last.header.sequence last.is.sequence) last.is.has; sequence = last.is.sequence; mark = last.is.mark };
      most = λ q h has mark.
          let w = was c lead before after up q h has in
          elim w.made [
            | inl e ↦ omega (arith, w.sequence, last.most q w.old w.has (e mark))
            | inr at ↦ omega (arith, w.sequence, at.sequence, above)
          ];
    }

    leads_back : (q : ℕ) (h : Header) → Leads after d q h → Leads before d q h
    leads_back q h leads = record {
      is = record { has = back_at q h (not_c h.sequence leads.is.sequence) leads.is.has; sequence = leads.is.sequence; mark = leads.is.mark };
      least = λ p j is. leads.least p j (record { has = on_at p j (not_c j.sequence is.sequence) is.has; sequence = is.sequence; mark = is.mark });
    }

    on_attached : (j : Header) (q : ℕ) (h : Header) → IsAttached before d j q h → IsAttached after d j q h
    on_attached j q h is = record { has = on_at q h (not_c h.sequence is.sequence) is.has; sequence = is.sequence; room = is.room; extra = is.extra }

    back_attached : (j : Header) (q : ℕ) (h : Header) → IsAttached after d j q h → IsAttached before d j q h
    back_attached j q h is = record { has = back_at q h (not_c h.sequence is.sequence) is.has; sequence = is.sequence; room = is.room; extra = is.extra }

    kept_at : (j : Header) (kept : Kept) → KeptBy before d j kept → KeptBy after d j kept
    kept_at j kept by = record {
      attached = λ q h is. by.attached q h (back_attached j q h is) ∙ ap (λ (x : List ℕ). Some x) (sym (entry_at q h));
      others = λ q none. by.others q (λ h is. none h (on_attached j q h is));
      extra = λ q h is least. by.extra q h (back_attached j q h is) (λ p i at. least p i (on_attached j p i at)) ∙ sym (extra_at q h is.has.is);
    }

    spared : (kept : Kept) → Reopened before kept → Reopened after kept
    spared kept had = record {
      nothing = λ none. absurd (none last_at.member last_at.header last_at.is.has last_at.is.mark);
      last = λ e q h other leads.
          let up_to : e ≤ d = omega (arith, last_at.most other.member other.header other.is.has other.is.mark, other.is.sequence) in
          let down : d ≤ e = omega (arith, other.most last_at.member last_at.header last_at.is.has last_at.is.mark, last_at.is.sequence) in
          let same : e ≡ d = omega (arith, up_to, down) in
          let at : Leads after d q h = subst (λ (x : ℕ). Leads after x q h) same leads in
          subst (λ (x : ℕ). KeptBy after x h kept) (sym same) (kept_at h kept (had.last d q h last (leads_back q h at)));
    }

  -- the same upgrades by another header that says the same
  as_other : (next : Header) → (lead.room ≡ next.room) × (lead.extra ≡ next.extra) → Upgrades c next before after
  as_other next same q = elim (up q) [
    | inl e ↦ inl e
    | inr wrote ↦
        let at = wrote.1 in
        inr (wrote.0, record { has = at.has; sequence = at.sequence; room = at.room ∙ same.0; extra = at.extra ∙ same.1 }, wrote.2)
  ]

pub openings_spare : OpeningsSpare
openings_spare c m d first k lead last before after commits up is leads same kept had = elim (same_or_not d c) [
  | inr far ↦ spared c lead before after up d far m k commits is kept had
  | inl e ↦
      let says = same e in
      (opening_kept c last before after (as_other c lead before after up last (sym says.0, sym says.1)) first (subst (IsLast before) e is) (subst (λ (x : ℕ). Leads before x first last) e leads) kept had).1
]
