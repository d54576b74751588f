-- What the members are reopened as, after changes that spare the last commit, and after a new one.
use Rattle.std.proofs.Common.{◌≡◌, ◌≤◌, ℕ, List, sym, ◌∙◌, ap, arith, subst}
use Rattle.std.specs.Prelude.{Some}
use Rattle.dg_io.specs.Kept.{Kept}
use Rattle.dg_stop.specs.Headers.{Header, HasHeader}
use Rattle.dg_stop.specs.Reopens.{Reopened, IsLast, Leads, KeptBy, IsAttached, IsCommitted, NoneCommitted}
use Rattle.dg_stop.specs.Changes.{Spares, Completes, Names}

pub committed_on : (c : ℕ) (before after : ℕ → List ℕ) → Spares c before after → (q : ℕ) (h : Header) → IsCommitted before c q h → IsCommitted after c q h
committed_on c before after s q h is = record { has = s.on q h is.has is.sequence; sequence = is.sequence; mark = is.mark }

committed_back : (c : ℕ) (before after : ℕ → List ℕ) → Spares c before after → (q : ℕ) (h : Header) → IsCommitted after c q h → IsCommitted before c q h
committed_back c before after s q h is = record { has = s.committed q h is.has is.mark; sequence = is.sequence; mark = is.mark }

pub spares_last : (c : ℕ) (before after : ℕ → List ℕ) → Spares c before after → IsLast before c → IsLast after c
spares_last c before after s last = record {
  member = last.member;
  header = last.header;
  is = committed_on c before after s last.member last.header last.is;
  most = λ q h has mark. last.most q h (s.committed q h has mark) mark;
}

pub same_last : (c : ℕ) (before after : ℕ → List ℕ) → Spares c before after → IsLast before c → (d : ℕ) → IsLast after d → d ≡ c
same_last c before after s last d next =
    let up : d ≤ c = omega (arith, last.most next.member next.header (s.committed next.member next.header next.is.has next.is.mark) next.is.mark, next.is.sequence) in
    let now = committed_on c before after s last.member last.header last.is in
    let down : c ≤ d = omega (arith, next.most last.member last.header now.has now.mark, now.sequence) in
    omega (arith, up, down)

attached_on : (c : ℕ) (before after : ℕ → List ℕ) → Spares c before after → (lead : Header) (q : ℕ) (h : Header)
    → IsAttached before c lead q h → IsAttached after c lead q h
attached_on c before after s lead q h is = record { has = s.on q h is.has is.sequence; sequence = is.sequence; room = is.room; extra = is.extra }

attached_back : (c : ℕ) (before after : ℕ → List ℕ) → Spares c before after → (lead : Header) (q : ℕ) (h : Header)
    → IsAttached after c lead q h → IsAttached before c lead q h
attached_back c before after s lead q h is = record { has = s.back q h is.has is.sequence; sequence = is.sequence; room = is.room; extra = is.extra }

pub kept_on : (c : ℕ) (before after : ℕ → List ℕ) → Spares c before after → (lead : Header) (kept : Kept) → KeptBy before c lead kept → KeptBy after c lead kept
kept_on c before after s lead kept by = record {
  attached = λ q h is.
      let was = attached_back c before after s lead q h is in
      by.attached q h was ∙ ap (λ (x : List ℕ). Some x) (sym (s.entry q h was.has was.sequence));
  others = λ q none. by.others q (λ h is. none h (attached_on c before after s lead q h is));
  extra = λ q h is least.
      let was = attached_back c before after s lead q h is in
      by.extra q h was (λ p k at. least p k (attached_on c before after s lead p k at)) ∙ sym (s.extra q h was.has was.sequence);
}

leads_back : (c : ℕ) (before after : ℕ → List ℕ) → Spares c before after → (q : ℕ) (lead : Header) → Leads after c q lead → Leads before c q lead
leads_back c before after s q lead leads = record {
  is = committed_back c before after s q lead leads.is;
  least = λ p k is. leads.least p k (committed_on c before after s p k is);
}

-- a change that spares the last commit leaves what the members are reopened as
pub spares_reopened : (c : ℕ) (before after : ℕ → List ℕ) → Spares c before after → IsLast before c → (kept : Kept) → Reopened before kept → Reopened after kept
spares_reopened c before after s last kept was = record {
  nothing = λ none. absurd (none last.member last.header (s.on last.member last.header last.is.has last.is.sequence) last.is.mark);
  last = λ d q lead next leads.
      let same : d ≡ c = same_last c before after s last d next in
      subst (λ (x : ℕ). KeptBy after x lead kept) (sym same)
      (kept_on c before after s lead kept (was.last c q lead last (leads_back c before after s q lead (subst (λ (x : ℕ). Leads after x q lead) same leads))));
}

-- so does one by which nothing is committed where nothing was
pub none_reopened : (before after : ℕ → List ℕ) → NoneCommitted before → NoneCommitted after → (kept : Kept) → Reopened before kept → Reopened after kept
none_reopened before after was none kept old = record {
  nothing = λ gone. old.nothing was;
  last = λ d q lead next leads. absurd (none next.member next.header next.is.has next.is.mark);
}

-- what commit s kept, by any header of it
pub completes_by : (s room : ℕ) (extra : List ℕ) (count : ℕ) (target : ℕ → List ℕ) (all : ℕ → List ℕ) → Completes s room extra count target all
    → (kept : Kept) → Names s extra target all kept → (q : ℕ) (lead : Header) → HasHeader q (all q) lead → lead.sequence ≡ s → KeptBy all s lead kept
completes_by s room extra count target all done kept names q lead there e = record {
  attached = λ r h at. names.has r h at.has at.sequence ∙ ap (λ (x : List ℕ). Some x) (sym (done.entry r h at.has at.sequence));
  others = λ r none. names.hasnt r (λ h has sequence. none h (record {
    has = has;
    sequence = sequence;
    room = done.room_is r h has sequence ∙ sym (done.room_is q lead there e);
    extra = done.count_is r h has sequence ∙ sym (done.count_is q lead there e);
  }));
  extra = λ r h at least. names.extra_is ∙ sym (done.extra_is r h at.has at.sequence);
}

-- where a header of commit s is committed, it is the last one
pub completes_last : (s room : ℕ) (extra : List ℕ) (count : ℕ) (target : ℕ → List ℕ) (all : ℕ → List ℕ) → Completes s room extra count target all
    → (p : ℕ) (k : Header) → IsCommitted all s p k → (d : ℕ) → IsLast all d → d ≡ s
completes_last s room extra count target all done p k is d next =
    let up : d ≤ s = omega (arith, done.most next.member next.header next.is.has, next.is.sequence) in
    let down : s ≤ d = omega (arith, next.most p k is.has is.mark, is.sequence) in
    omega (arith, up, down)

-- where a header of commit s is committed, the members are reopened as what that commit names
pub completes_reopened : (s room : ℕ) (extra : List ℕ) (count : ℕ) (target : ℕ → List ℕ) (all : ℕ → List ℕ) → Completes s room extra count target all
    → (p : ℕ) (k : Header) → IsCommitted all s p k → (kept : Kept) → Names s extra target all kept → Reopened all kept
completes_reopened s room extra count target all done p k is kept names = record {
  nothing = λ none. absurd (none p k is.has is.mark);
  last = λ d q lead next leads.
      let same : d ≡ s = completes_last s room extra count target all done p k is d next in
      subst (λ (x : ℕ). KeptBy all x lead kept) (sym same) (completes_by s room extra count target all done kept names q lead leads.is.has (leads.is.sequence ∙ same));
}
