-- A member that is made anew loses its entry, and no other one does.
use Rattle.std.proofs.Common.{◌≡◌, ◌≢◌, ◌≤◌, ℕ, Bool, true, false, List, refl, sym, ◌∙◌, ap, arith, inl, inr, subst}
use Rattle.std.specs.Prelude.{Option, Some, None, ◌==◌, if◌then◌else◌}
use Rattle.std.proofs.lemmas.Bool.Decides.{Decides-eqb}
use Rattle.dg_io.specs.Kept.{Kept, without}
use Rattle.dg_stop.proofs.Committing.{same_or_not}
use Rattle.dg_stop.specs.Headers.{Header, HasHeader, entry_of, extra_of}
use Rattle.dg_stop.specs.Changes.{Completes, Spares}
use Rattle.dg_stop.specs.Reopens.{KeptBy, Leads, Reopened, IsAttached, IsCommitted, IsLast}
use Rattle.dg_stop.specs.Stops.{AreOfOne, BlanksLeaveRest}

pub choose : (x q : ℕ) (b : Bool) → (x == q) ≡ b → (e : Option (List ℕ)) → x ≢ q → (if b then None else e) ≡ e
choose x q true is e apart = absurd (apart ((Decides-eqb x q).0 is))
choose x q false is e apart = refl

pub entry_else : (x q : ℕ) (e : Option (List ℕ)) → x ≢ q → (if x == q then None else e) ≡ e
entry_else x q e apart = choose x q (x == q) refl e apart

pub entry_own : (q : ℕ) (e : Option (List ℕ)) → ◌≡◌ {A = Option (List ℕ)} (if q == q then None else e) None
entry_own q e = ap (λ (b : Bool). if b then None else e) ((Decides-eqb q q).1 refl)

module _ (c q r : ℕ) (lead k : Header) (before after : ℕ → List ℕ) (last : IsLast before c)
    (kept : Kept) (old : KeptBy before c lead kept) (one : AreOfOne c lead kept.extra before)
    (bare : (h : Header) → HasHeader q (after q) h → ⊥) (same : (x : ℕ) → x ≢ q → after x ≡ before x) (apart : r ≢ q) (other : IsCommitted before c r k) where
  not_q : (x : ℕ) (h : Header) → HasHeader x (after x) h → x ≢ q
  not_q x h has e = bare h (subst (λ (y : ℕ). HasHeader y (after y) h) e has)

  was : (x : ℕ) (h : Header) → HasHeader x (after x) h → HasHeader x (before x) h
  was x h has = subst (λ (l : List ℕ). HasHeader x l h) (same x (not_q x h has)) has

  pub still : (x : ℕ) (h : Header) → x ≢ q → HasHeader x (before x) h → HasHeader x (after x) h
  still x h far has = subst (λ (l : List ℕ). HasHeader x l h) (sym (same x far)) has

  pub next : IsLast after c
  next = record {
    member = r;
    header = k;
    is = record { has = still r k apart other.has; sequence = other.sequence; mark = other.mark };
    most = λ x h has mark. last.most x h (was x h has) mark;
  }

  attached : (new : Header) → (x : ℕ) (h : Header) → IsAttached after c new x h → IsAttached before c lead x h
  attached new x h at = record {
    has = was x h at.has;
    sequence = at.sequence;
    room = one.room_is x h (was x h at.has) at.sequence;
    extra = one.count_is x h (was x h at.has) at.sequence;
  }

  pub by_of : (new : Header) → new.room ≡ lead.room → new.extra ≡ lead.extra → KeptBy after c new (without q kept)
  by_of new rooms counts = record {
    attached = λ x h at.
        let far = not_q x h at.has in
        entry_else x q (kept.entries x) far ∙ old.attached x h (attached new x h at) ∙ ap (λ (l : List ℕ). Some (entry_of h l)) (sym (same x far));
    others = λ x none. elim (same_or_not x q) [
      | inl e ↦ subst (λ (z : ℕ). ◌≡◌ {A = Option (List ℕ)} (if z == q then None else kept.entries z) None) (sym e) (entry_own q (kept.entries q))
      | inr far ↦ entry_else x q (kept.entries x) far ∙ old.others x (λ h at. none h (record {
        has = still x h far at.has;
        sequence = at.sequence;
        room = at.room ∙ sym rooms;
        extra = at.extra ∙ sym counts;
      }))
    ];
    extra = λ x h at least. sym (one.bytes x h (was x h at.has) at.sequence) ∙ ap (extra_of h) (sym (same x (not_q x h at.has)));
  }

  by : (y : ℕ) (new : Header) → Leads after c y new → KeptBy after c new (without q kept)
  by y new leads_new =
      let has = was y new leads_new.is.has in
      by_of new (one.room_is y new has leads_new.is.sequence) (one.count_is y new has leads_new.is.sequence)

  pub one_after : AreOfOne c lead kept.extra after
  one_after = record {
    room_is = λ x h has e. one.room_is x h (was x h has) e;
    count_is = λ x h has e. one.count_is x h (was x h has) e;
    bytes = λ x h has e. ap (extra_of h) (same x (not_q x h has)) ∙ one.bytes x h (was x h has) e;
  }

  pub rest_kept : IsLast after c × Reopened after (without q kept)
  rest_kept = (
    next,
    record {
      nothing = λ none. absurd (none next.member next.header next.is.has next.is.mark);
      last = λ d y new other_last leads_new.
          let up : d ≤ c = omega (arith, next.most other_last.member other_last.header other_last.is.has other_last.is.mark, other_last.is.sequence) in
          let down : c ≤ d = omega (arith, other_last.most next.member next.header next.is.has next.is.mark, next.is.sequence) in
          let e : d ≡ c = omega (arith, up, down) in
          subst (λ (x : ℕ). KeptBy after x new (without q kept)) (sym e) (by y new (subst (λ (x : ℕ). Leads after x y new) e leads_new));
    },
  )

pub blanks_leave_rest : BlanksLeaveRest
blanks_leave_rest c first q r lead k before after last leads kept had one bare same apart other =
    rest_kept c q r lead k before after last kept (had.last c first lead last leads) one bare same apart other

-- ---- headers of one commit

-- after a commit they are
pub completes_one : (s room : ℕ) (extra : List ℕ) (count : ℕ) (target : ℕ → List ℕ) (all : ℕ → List ℕ) → Completes s room extra count target all
    → (p : ℕ) (lead : Header) → HasHeader p (all p) lead → lead.sequence ≡ s → AreOfOne s lead extra all
completes_one s room extra count target all done p lead has at = record {
  room_is = λ q h got e. done.room_is q h got e ∙ sym (done.room_is p lead has at);
  count_is = λ q h got e. done.count_is q h got e ∙ sym (done.count_is p lead has at);
  bytes = λ q h got e. done.extra_is q h got e;
}

-- and they stay so
pub spares_one : (c : ℕ) (lead : Header) (extra : List ℕ) (before after : ℕ → List ℕ) → Spares c before after → AreOfOne c lead extra before → AreOfOne c lead extra after
spares_one c lead extra before after spares one = record {
  room_is = λ q h has e. one.room_is q h (spares.back q h has e) e;
  count_is = λ q h has e. one.count_is q h (spares.back q h has e) e;
  bytes = λ q h has e. spares.extra q h (spares.back q h has e) e ∙ one.bytes q h (spares.back q h has e) e;
}
