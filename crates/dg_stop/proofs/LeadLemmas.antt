-- The header that leads, found by one pass.
use Rattle.std.proofs.Common.{◌≡◌, ◌≤◌, ◌+◌, ◌⊎◌, ℕ, true, false, List, refl, sym, ◌∙◌, ap, arith, inl, inr, subst}
use Rattle.std.proofs.lemmas.Bool.{false≢true}
use Rattle.std.specs.Prelude.{Option, Some, None}
use Rattle.dg_stop.proofs.Committing.{same_or_not}
use Rattle.dg_stop.proofs.FindLemmas.{none_some}
use Rattle.dg_stop.specs.FoundHeaders.{IsIn, found_at}
use Rattle.dg_stop.specs.Leads.{IsAfter, IsBelow, IsBest, IsBestOf, IsLater, IsNotAfter, IsRaised, IsTop}
use Rattle.dg_stop.specs.declared.found_headers.Found.{Found}
use Rattle.dg_stop.specs.declared.headers.Header.{Header}

-- one more header, of member n
pub data More (has : ℕ → Header → Type 0) (n : ℕ) (header : Option Header) (q : ℕ) (h : Header) : Type 0 where
  old : has q h → More has n header q h
  new : q ≡ n → header ≡ Some h → More has n header q h

pub some_is : (a b : Header) → ◌≡◌ {A = Option Header} (Some a) (Some b) → a ≡ b
some_is a b e = ap (λ (o : Option Header). elim o [ None ↦ a | Some x ↦ x ]) e

module _ (has : ℕ → Header → Type 0) (n : ℕ) (low : (q : ℕ) (h : Header) → has q h → q ≤ n) where
  none_more : ((q : ℕ) (h : Header) → has q h → h.committed ≡ true → ⊥) → (q : ℕ) (h : Header) → More has n None q h → h.committed ≡ true → ⊥
  none_more is q h (old was) mark = is q h was mark
  none_more is q h (new at e) mark = none_some h e

  none_stayed : (h : Header) → (h.committed ≡ false) ⊎ ⊥ → ((q : ℕ) (k : Header) → has q k → k.committed ≡ true → ⊥) → (q : ℕ) (k : Header) → More has n (Some h) q k → k.committed ≡ true → ⊥
  none_stayed h (inl off) is q k (old was) m = is q k was m
  none_stayed h (inl off) is q k (new at e) m = false≢true (sym off ∙ ap (λ (x : Header). x.committed) (some_is h k e) ∙ m)
  none_stayed h (inr not) is q k more m = absurd not

  best_none : (best later : Option Header) → later ≡ best → IsBestOf has best → IsBestOf (More has n None) later
  best_none best later e is = subst (IsBestOf (More has n None)) (sym e) (by best is) where
    by : (best : Option Header) → IsBestOf has best → IsBestOf (More has n None) best
    by None is = λ q h. none_more is q h
    by (Some best) is = record {
      member = is.member;
      is = old is.is;
      mark = is.mark;
      most = most;
      least = least;
    }
      where
        most : (q : ℕ) (h : Header) → More has n None q h → h.committed ≡ true → h.sequence ≤ best.sequence
        most q h (old was) mark = is.most q h was mark
        most q h (new at e) mark = absurd (none_some h e)

        least : (q : ℕ) (h : Header) → More has n None q h → h.committed ≡ true → h.sequence ≡ best.sequence → is.member ≤ q
        least q h (old was) mark same = is.least q h was mark same
        least q h (new at e) mark same = absurd (none_some h e)

  taken : (best : Option Header) (h : Header) → h.committed ≡ true → IsAfter best h → IsBestOf has best → IsBest (More has n (Some h)) h
  taken best h mark after is = record { member = n; is = new refl refl; mark = mark; most = most best after is; least = least best after is } where
    most : (best : Option Header) → IsAfter best h → IsBestOf has best → (q : ℕ) (k : Header) → More has n (Some h) q k → k.committed ≡ true → k.sequence ≤ h.sequence
    most None after is q k (old was) m = absurd (is q k was m)
    most (Some best) after is q k (old was) m = omega (arith, after, is.most q k was m)
    most best after is q k (new at e) m = omega (arith, ap (λ (x : Header). x.sequence) (some_is h k e))

    least : (best : Option Header) → IsAfter best h → IsBestOf has best → (q : ℕ) (k : Header) → More has n (Some h) q k → k.committed ≡ true → k.sequence ≡ h.sequence → n ≤ q
    least None after is q k (old was) m same = absurd (is q k was m)
    least (Some best) after is q k (old was) m same = absurd (omega (arith, after, is.most q k was m, same))
    least best after is q k (new at e) m same = omega (arith, at)

  stayed : (best : Option Header) (h : Header) → (h.committed ≡ false) ⊎ IsNotAfter best h → IsBestOf has best → IsBestOf (More has n (Some h)) best
  stayed None h isnt is = λ q k. none_stayed h isnt is q k
  stayed (Some best) h isnt is = record { member = is.member; is = old is.is; mark = is.mark; most = most isnt; least = least } where
    most : (h.committed ≡ false) ⊎ (h.sequence ≤ best.sequence) → (q : ℕ) (k : Header) → More has n (Some h) q k → k.committed ≡ true → k.sequence ≤ best.sequence
    most isnt q k (old was) m = is.most q k was m
    most (inl off) q k (new at e) m = absurd (false≢true (sym off ∙ ap (λ (x : Header). x.committed) (some_is h k e) ∙ m))
    most (inr below) q k (new at e) m = omega (arith, below, ap (λ (x : Header). x.sequence) (some_is h k e))

    least : (q : ℕ) (k : Header) → More has n (Some h) q k → k.committed ≡ true → k.sequence ≡ best.sequence → is.member ≤ q
    least q k (old was) m same = is.least q k was m same
    least q k (new at e) m same = omega (arith, at, low is.member best is.is)

  pub best_more : (best header later : Option Header) → IsLater best header later → IsBestOf has best → IsBestOf (More has n header) later
  best_more best None later e is = best_none best later e is
  best_more best (Some h) later (inl takes) is = subst (IsBestOf (More has n (Some h))) (sym takes.is) (taken best h takes.mark takes.after is)
  best_more best (Some h) later (inr stays) is = subst (IsBestOf (More has n (Some h))) (sym stays.is) (stayed best h stays.isnt is)

  pub more_low : (header : Option Header) (q : ℕ) (h : Header) → More has n header q h → q ≤ n
  more_low header q h (old was) = low q h was
  more_low header q h (new at e) = omega (arith, at)

  -- ---- the greatest sequence

  pub top_more : (top raised : ℕ) (header : Option Header) → IsRaised top header raised → IsTop has top → IsTop (More has n header) raised
  top_more top raised None e is = record {
    most = most;
    some = elim is.some [
      | inl none ↦ inl (e ∙ none)
      | inr got ↦ inr (record { member = got.member; header = got.header; is = old got.is; sequence = got.sequence ∙ sym e })
    ];
  } where
    most : (q : ℕ) (h : Header) → More has n None q h → h.sequence ≤ raised
    most q h (old was) = omega (arith, e, is.most q h was)
    most q h (new at x) = absurd (none_some h x)
  top_more top raised (Some k) e is = record {
    most = most;
    some = elim e.2 [
      | inl same ↦ elim is.some [
        | inl none ↦ inl (same ∙ none)
        | inr got ↦ inr (record { member = got.member; header = got.header; is = old got.is; sequence = got.sequence ∙ sym same })
      ]
      | inr same ↦ inr (record { member = n; header = k; is = new refl refl; sequence = sym same })
    ];
  } where
    most : (q : ℕ) (h : Header) → More has n (Some k) q h → h.sequence ≤ raised
    most q h (old was) = omega (arith, e.0, is.most q h was)
    most q h (new at x) = omega (arith, e.1, ap (λ (y : Header). y.sequence) (some_is k h x))

-- ---- the headers of one more member

best_as : (a b : ℕ → Header → Type 0) → ((q : ℕ) (h : Header) → a q h → b q h) → ((q : ℕ) (h : Header) → b q h → a q h) → (best : Option Header) → IsBestOf a best → IsBestOf b best
best_as a b to from None is = λ q h has mark. is q h (from q h has) mark
best_as a b to from (Some best) is = record {
  member = is.member;
  is = to is.member best is.is;
  mark = is.mark;
  most = λ q h has mark. is.most q h (from q h has) mark;
  least = λ q h has mark same. is.least q h (from q h has) mark same;
}

module _ (found : List Found) (n : ℕ) (headers : Found) (at : headers ≡ found_at found n) where
  to : (q : ℕ) (h : Header) → More (More (IsBelow found n) n headers.first) n headers.second q h → IsBelow found (n + 1) q h
  to q h (old (old was)) = record { low = omega (arith, was.low); is = was.is }
  to q h (old (new e is)) = record { low = omega (arith, e); is = subst (λ (x : ℕ). IsIn h (found_at found x)) (sym e) (subst (IsIn h) at (inl is)) }
  to q h (new e is) = record { low = omega (arith, e); is = subst (λ (x : ℕ). IsIn h (found_at found x)) (sym e) (subst (IsIn h) at (inr is)) }

  here : (q : ℕ) (h : Header) → q ≡ n → IsIn h headers → More (More (IsBelow found n) n headers.first) n headers.second q h
  here q h e (inl is) = old (new e is)
  here q h e (inr is) = new e is

  from : (q : ℕ) (h : Header) → IsBelow found (n + 1) q h → More (More (IsBelow found n) n headers.first) n headers.second q h
  from q h is = elim (same_or_not q n) [
    | inl e ↦ here q h e (subst (IsIn h) (sym at) (subst (λ (x : ℕ). IsIn h (found_at found x)) e is.is))
    | inr other ↦ old (old (record { low = omega (arith, is.low, other); is = is.is }))
  ]

  low : (q : ℕ) (h : Header) → IsBelow found n q h → q ≤ n
  low q h is = omega (arith, is.low)

  pub best_turn : (best first next : Option Header) → IsLater best headers.first first → IsLater first headers.second next → IsBestOf (IsBelow found n) best → IsBestOf (IsBelow found (n + 1)) next
  best_turn best first next one two is =
      best_as (More (More (IsBelow found n) n headers.first) n headers.second) (IsBelow found (n + 1)) to from next
      (best_more (More (IsBelow found n) n headers.first) n (more_low (IsBelow found n) n low headers.first) first headers.second next two
      (best_more (IsBelow found n) n low best headers.first first one is))

  pub top_turn : (top first next : ℕ) → IsRaised top headers.first first → IsRaised first headers.second next → IsTop (IsBelow found n) top → IsTop (IsBelow found (n + 1)) next
  top_turn top first next one two is =
      let all = top_more (More (IsBelow found n) n headers.first) n (more_low (IsBelow found n) n low headers.first) first next headers.second two
      (top_more (IsBelow found n) n low top first headers.first one is) in
      record {
        most = λ q h has. all.most q h (from q h has);
        some = elim all.some [
          | inl none ↦ inl none
          | inr got ↦ inr (record { member = got.member; header = got.header; is = to got.member got.header got.is; sequence = got.sequence })
        ];
      }

pub best_start : (found : List Found) → IsBestOf (IsBelow found 0) None
best_start found q h is mark = omega (arith, is.low)

pub top_start : (found : List Found) → IsTop (IsBelow found 0) 0
top_start found = record { most = λ q h is. absurd (omega (arith, is.low)); some = inl refl }
