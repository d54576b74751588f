-- A commit that stops at any step leaves the members as what they were reopened as before, or as what it names.
use Rattle.std.proofs.Common.{◌≡◌, ◌≢◌, ◌≤◌, ◌<◌, ◌+◌, ◌/◌, ◌%◌, ◌⊎◌, ℕ, Bool, true, false, List, length, refl, sym, ◌∙◌, ap, arith, inl, inr, subst}
use Rattle.std.proofs.lemmas.Bool.{false≢true}
use Rattle.std.specs.Prelude.{slice_range}
use Rattle.dg_io.specs.Told.{Torn, patch}
use Rattle.dg_io.specs.Kept.{Kept}
use Rattle.dg_stop.proofs.Ranges.{torn_back, patch_there, patch_torn}
use Rattle.dg_stop.proofs.Avoiding.{keeps_header, keeps_names, keeps_entry, keeps_extra, header_avoids, header_keeps_entry, header_keeps_extra}
use Rattle.dg_stop.proofs.HeaderLemmas.{one_header, header_size}
use Rattle.dg_stop.proofs.Reopening.{spares_reopened, none_reopened, spares_last}
use Rattle.dg_stop.specs.Headers.{Header, HasHeader, IsHeader, entry_of, extra_of, header_bytes, header_table}
use Rattle.dg_stop.specs.Layouts.{header_place, double_size, names_second, table_place}
use Rattle.dg_stop.specs.Changes.{Spares, Avoids}
use Rattle.dg_stop.specs.Commits.{AreGuarded, ArePrepared, IsFresh, IsReady, Prepares, WritesHeader, as_committed}
use Rattle.dg_stop.specs.Reopens.{Reopened, IsLast, NoneCommitted}

-- ---- what is prepared spares the last commit

pub same_or_not : (a b : ℕ) → (a ≡ b) ⊎ (a ≢ b)
same_or_not a b = grind arith

module _ (stands : ℕ → Bool) (sizes : ℕ → ℕ) (room : ℕ) (places : ℕ → ℕ → Bool) (p top s : ℕ) (before after : ℕ → List ℕ)
    (guarded : AreGuarded stands sizes room places p top before) (above : top < s) (prepared : ArePrepared stands p s before after) where
  pub committed_back : (q : ℕ) (h : Header) → HasHeader q (after q) h → h.committed ≡ true → (b : Bool) → stands q ≡ b → HasHeader q (before q) h
  committed_back q h has mark true is = elim (same_or_not h.sequence s) [
    | inl same ↦ absurd (false≢true (sym ((prepared.standing q is).mark h has same) ∙ mark))
    | inr other ↦ (prepared.standing q is).back h has other
  ]
  committed_back q h has mark false is = subst (λ (l : List ℕ). HasHeader q l h) (prepared.rest q is) has

  pub none_prepared : NoneCommitted before → NoneCommitted after
  none_prepared none q h has mark = none q h (committed_back q h has mark (stands q) refl) mark

  module _ (c : ℕ) (last : IsLast before c) (fresh : p ≤ c) where
    -- a standing member's header of c is one of p
    is_p : (q : ℕ) (h : Header) → stands q ≡ true → HasHeader q (before q) h → h.sequence ≡ c → h.sequence ≡ p
    is_p q h is has e = omega (arith, e, fresh, guarded.later q h is has last.member last.header last.is.has last.is.mark (last.is.sequence ∙ sym e))

    below : (h : Header) → h.sequence ≡ c → h.sequence ≢ s
    below h e = λ same. absurd (omega (arith, above, same, e, last.is.sequence, guarded.seen last.member last.header last.is.has))

    on : (q : ℕ) (h : Header) → HasHeader q (before q) h → h.sequence ≡ c → (b : Bool) → stands q ≡ b → HasHeader q (after q) h
    on q h has e true is = (prepared.standing q is).on h has (is_p q h is has e)
    on q h has e false is = subst (λ (l : List ℕ). HasHeader q l h) (sym (prepared.rest q is)) has

    back : (q : ℕ) (h : Header) → HasHeader q (after q) h → h.sequence ≡ c → (b : Bool) → stands q ≡ b → HasHeader q (before q) h
    back q h has e true is = (prepared.standing q is).back h has (below h e)
    back q h has e false is = subst (λ (l : List ℕ). HasHeader q l h) (prepared.rest q is) has

    entry : (q : ℕ) (h : Header) → HasHeader q (before q) h → h.sequence ≡ c → (b : Bool) → stands q ≡ b → entry_of h (after q) ≡ entry_of h (before q)
    entry q h has e true is = (prepared.standing q is).entry h has (is_p q h is has e)
    entry q h has e false is = ap (entry_of h) (prepared.rest q is)

    extra : (q : ℕ) (h : Header) → HasHeader q (before q) h → h.sequence ≡ c → (b : Bool) → stands q ≡ b → extra_of h (after q) ≡ extra_of h (before q)
    extra q h has e true is = (prepared.standing q is).extra h has (is_p q h is has e)
    extra q h has e false is = ap (extra_of h) (prepared.rest q is)

    pub prepared_spares : Spares c before after
    prepared_spares = record {
      committed = λ q h has mark. committed_back q h has mark (stands q) refl;
      on = λ q h has e. on q h has e (stands q) refl;
      back = λ q h has e. back q h has e (stands q) refl;
      entry = λ q h has e. entry q h has e (stands q) refl;
      extra = λ q h has e. extra q h has e (stands q) refl;
    }

  -- a stop before the first committed header leaves what was kept
  pub prepared_reopened : IsFresh before p → (kept : Kept) → Reopened before kept → Reopened after kept
  prepared_reopened (inl none) kept was = none_reopened before after none (none_prepared none) kept was
  prepared_reopened (inr (c, last, fresh)) kept was = spares_reopened c before after (prepared_spares c last fresh) last kept was

  pub prepared_fresh : IsFresh before p → IsFresh after p
  prepared_fresh (inl none) = inl (none_prepared none)
  prepared_fresh (inr (c, last, fresh)) = inr (c, spares_last c before after (prepared_spares c last fresh) last, fresh)

-- the invariant after a pass that was stopped, of the members that stand on
pub guarded_prepared : (stands : ℕ → Bool) (sizes : ℕ → ℕ) (room : ℕ) (places : ℕ → ℕ → Bool) (p top s next : ℕ) (before after : ℕ → List ℕ)
    → AreGuarded stands sizes room places p top before → top < s → p ≢ s → ArePrepared stands p s before after
    → ((q : ℕ) (h : Header) → HasHeader q (after q) h → h.sequence ≤ next)
    → (on : ℕ → Bool) → ((q : ℕ) → on q ≡ true → stands q ≡ true) → AreGuarded on sizes room places p next after
guarded_prepared stands sizes room places p top s next before after guarded above apart prepared seen on only = record {
  seen = seen;
  size = λ q h at has e. guarded.size q h (only q at) (was q h at has e) e;
  room_is = λ q h at has e. guarded.room_is q h (only q at) (was q h at has e) e;
  mark = λ q h at has e. guarded.mark q h (only q at) (was q h at has e) e;
  named = λ q h at has e o low.
      subst (λ (x : ℕ). names_second (after q) (table_place (header_table h) x) (o / 512) ≡ names_second (before q) (table_place (header_table h) x) (o / 512)) e
      ((prepared.standing q (only q at)).names h (was q h at has e) e o low)
      ∙ guarded.named q h (only q at) (was q h at has e) e o low;
  later = λ q h at has r k other mark e.
      let old = committed_back stands sizes room places p top s before after guarded above prepared r k other mark (stands r) refl in
      elim (same_or_not h.sequence s) [
        | inl same ↦ absurd (omega (arith, above, same, e, guarded.seen r k old))
        | inr differ ↦ guarded.later q h (only q at) ((prepared.standing q (only q at)).back h has differ) r k old mark e
      ];
}
  where
    was : (q : ℕ) (h : Header) → on q ≡ true → HasHeader q (after q) h → h.sequence ≡ p → HasHeader q (before q) h
    was q h at has e = (prepared.standing q (only q at)).back h has (λ same. apart (sym e ∙ same))

-- ---- the steps of one member

pub prepares_same : (p s q : ℕ) (all : List ℕ) → ((h : Header) → HasHeader q all h → h.sequence < s) → Prepares p s q all all
prepares_same p s q all low = record {
  back = λ h has other. has;
  mark = λ h has same. absurd (omega (arith, low h has, same));
  on = λ h has e. has;
  entry = λ h has e. refl;
  extra = λ h has e. refl;
  names = λ h has e o low. refl;
}

pub prepares_then : (p s q : ℕ) (a b c : List ℕ) → Prepares p s q a b → Prepares p s q b c → Prepares p s q a c
prepares_then p s q a b c first second = record {
  back = λ h has other. first.back h (second.back h has other) other;
  mark = second.mark;
  on = λ h has e. second.on h (first.on h has e) e;
  entry = λ h has e. second.entry h (first.on h has e) e ∙ first.entry h has e;
  extra = λ h has e. second.extra h (first.on h has e) e ∙ first.extra h has e;
  names = λ h has e o low. second.names h (first.on h has e) e o low ∙ first.names h has e o low;
}

-- a write behind the headers which touches nothing that the header of p names
pub torn_prepares : (p s q place n : ℕ) (a b : List ℕ) → 1024 ≤ place → Torn place n a b → ((h : Header) → HasHeader q a h → h.sequence < s)
    → ((h : Header) → HasHeader q a h → h.sequence ≡ p → Avoids h a place n) → Prepares p s q a b
torn_prepares p s q place n a b behind torn low avoids = record {
  back = λ h has other. keeps_header q h place n b a (torn_back place n a b torn) (inr (omega (arith, behind))) has;
  mark = λ h has same. absurd (omega (arith, same, low h (keeps_header q h place n b a (torn_back place n a b torn) (inr (omega (arith, behind))) has)));
  on = λ h has e. keeps_header q h place n a b torn (avoids h has e).header has;
  entry = λ h has e. keeps_entry h place n a b torn (avoids h has e);
  extra = λ h has e. keeps_extra h place n a b torn has.is (avoids h has e).table;
  names = λ h has e o low. keeps_names h place n a b torn (avoids h has e).table o low;
}

-- ---- a header that is written

long_enough : (size room : ℕ) → 1024 ≤ double_size size room
long_enough size room = omega arith

module _ (q : ℕ) (h : Header) (before after : List ℕ) (is : IsHeader h) (own : h.member ≡ q) (long : length before ≡ double_size h.size h.room)
    (put : after ≡ patch before (header_place h.sequence) (header_bytes h)) where
  room_there : header_place h.sequence + length (header_bytes h) ≤ length before
  room_there = omega (arith, header_size h, long, long_enough h.size h.room)

  torn : Torn (header_place h.sequence) 512 before after
  torn = subst (λ (l : List ℕ). Torn (header_place h.sequence) 512 before l) (sym put)
      (subst (λ (n : ℕ). Torn (header_place h.sequence) n before (patch before (header_place h.sequence) (header_bytes h))) (header_size h)
      (patch_torn before (header_place h.sequence) (header_bytes h) room_there))

  pub has_written : HasHeader q after h
  has_written = record {
    is = is;
    own = own;
    bytes = ap (λ (l : List ℕ). slice_range l (header_place h.sequence) (header_place h.sequence + 512)) put
        ∙ patch_there before (header_place h.sequence) (header_bytes h) room_there (header_place h.sequence + 512) (omega (arith, header_size h));
    long = torn.size ∙ long;
  }

  -- each header is the one that was written, or was there and stands in the other place
  pub was_or_is : (k : Header) → HasHeader q after k → (k ≡ h) ⊎ (HasHeader q before k × (h.sequence % 2 ≢ k.sequence % 2))
  was_or_is k has = elim (same_or_not h.sequence k.sequence) [
    | inl same ↦ inl (one_header q after k h has has_written (ap (λ (x : ℕ). x % 2) (sym same)))
    | inr differ ↦ elim (same_or_not (h.sequence % 2) (k.sequence % 2)) [
      | inl parity ↦ inl (one_header q after k h has has_written (sym parity))
      | inr other ↦ inr (
        keeps_header q k (header_place h.sequence) 512 after before (torn_back (header_place h.sequence) 512 before after torn)
            (header_avoids k before h.sequence other).header has,
        other,
      )
    ]
  ]

  pub other_stays : (k : Header) → HasHeader q before k → h.sequence % 2 ≢ k.sequence % 2 → HasHeader q after k
  other_stays k has other = keeps_header q k (header_place h.sequence) 512 before after torn (header_avoids k before h.sequence other).header has

  pub entry_stays : (k : Header) → entry_of k after ≡ entry_of k before
  entry_stays k = header_keeps_entry k h.sequence before after torn

  pub names_stay : (k : Header) → (o : ℕ) → o < k.size
      → names_second after (table_place (header_table k) k.sequence) (o / 512) ≡ names_second before (table_place (header_table k) k.sequence) (o / 512)
  names_stay k o low = keeps_names k (header_place h.sequence) 512 before after torn (inl (omega arith)) o low

  pub extra_stays : (k : Header) → IsHeader k → extra_of k after ≡ extra_of k before
  extra_stays k k_is = header_keeps_extra k h.sequence before after torn k_is

-- a prepared header that is written, or not
pub header_prepares : (p q : ℕ) (h : Header) (before after : List ℕ) → IsHeader h → h.member ≡ q → h.committed ≡ false
    → length before ≡ double_size h.size h.room → h.sequence % 2 ≢ p % 2 → ((k : Header) → HasHeader q before k → k.sequence < h.sequence)
    → WritesHeader h before after → Prepares p h.sequence q before after
header_prepares p q h before after is own mark long apart low (inl same) = subst (λ (l : List ℕ). Prepares p h.sequence q before l) (sym same) (prepares_same p h.sequence q before low)
header_prepares p q h before after is own mark long apart low (inr put) = record {
  back = λ k has other. elim (was_or_is q h before after is own long put k has) [
    | inl same ↦ absurd (other (ap (λ (x : Header). x.sequence) same))
    | inr was ↦ was.0
  ];
  mark = λ k has same. elim (was_or_is q h before after is own long put k has) [
    | inl e ↦ ap (λ (x : Header). x.committed) e ∙ mark
    | inr was ↦ absurd (was.1 (ap (λ (x : ℕ). x % 2) (sym same)))
  ];
  on = λ k has e. other_stays q h before after is own long put k has (λ parity. apart (parity ∙ ap (λ (x : ℕ). x % 2) e));
  entry = λ k has e. entry_stays q h before after is own long put k;
  extra = λ k has e. extra_stays q h before after is own long put k has.is;
  names = λ k has e o low. names_stay q h before after is own long put k o low;
}

-- what the header of s names after it was written, where the table was written before
pub header_ready : (q : ℕ) (h : Header) (target extra before after : List ℕ) → IsHeader h → h.member ≡ q
    → length before ≡ double_size h.size h.room → ((k : Header) → HasHeader q before k → k.sequence < h.sequence)
    → entry_of h before ≡ target → extra_of h before ≡ extra
    → after ≡ patch before (header_place h.sequence) (header_bytes h) → IsReady h.sequence h.room h.extra extra target q after
header_ready q h target extra before after is own long low entry extra_is put = record {
  most = λ k has. elim (was_or_is q h before after is own long put k has) [
    | inl e ↦ omega (arith, ap (λ (x : Header). x.sequence) e)
    | inr was ↦ omega (arith, low k was.0)
  ];
  room_is = λ k has same. ap (λ (x : Header). x.room) (is_it k has same);
  count_is = λ k has same. ap (λ (x : Header). x.extra) (is_it k has same);
  entry = λ k has same. ap (λ (x : Header). entry_of x after) (is_it k has same) ∙ entry_stays q h before after is own long put h ∙ entry;
  extra_is = λ k has same. ap (λ (x : Header). extra_of x after) (is_it k has same) ∙ extra_stays q h before after is own long put h is ∙ extra_is;
}
  where
    is_it : (k : Header) → HasHeader q after k → k.sequence ≡ h.sequence → k ≡ h
    is_it k has same = one_header q after k h has (has_written q h before after is own long put) (ap (λ (x : ℕ). x % 2) same)

-- the committed header over the prepared one, or not: what it names stays
pub commits_ready : (q : ℕ) (h : Header) (s room count : ℕ) (extra target before after : List ℕ) → IsReady s room count extra target q before
    → HasHeader q before h → h.sequence ≡ s → WritesHeader (as_committed h) before after → IsReady s room count extra target q after
commits_ready q h s room count extra target before after ready has at (inl same) = subst (λ (l : List ℕ). IsReady s room count extra target q l) (sym same) ready
commits_ready q h s room count extra target before after ready has at (inr put) = record {
  most = λ k got. elim (was_or_is q (as_committed h) before after is has.own has.long put k got) [
    | inl e ↦ omega (arith, ap (λ (x : Header). x.sequence) e, at)
    | inr was ↦ ready.most k was.0
  ];
  room_is = λ k got same. ap (λ (x : Header). x.room) (is_it k got same) ∙ ready.room_is h has at;
  count_is = λ k got same. ap (λ (x : Header). x.extra) (is_it k got same) ∙ ready.count_is h has at;
  entry = λ k got same. ap (λ (x : Header). entry_of x after) (is_it k got same) ∙ entry_stays q (as_committed h) before after is has.own has.long put h ∙ ready.entry h has at;
  extra_is = λ k got same. ap (λ (x : Header). extra_of x after) (is_it k got same) ∙ extra_stays q (as_committed h) before after is has.own has.long put h has.is ∙ ready.extra_is h has at;
}
  where
    is : IsHeader (as_committed h)
    is = record { first = has.is.first; last = has.is.last; fits = has.is.fits; sizes = has.is.sizes; rooms = has.is.rooms; members = has.is.members }

    is_it : (k : Header) → HasHeader q after k → k.sequence ≡ s → k ≡ as_committed h
    is_it k got same = one_header q after k (as_committed h) got (has_written q (as_committed h) before after is has.own has.long put) (ap (λ (x : ℕ). x % 2) (same ∙ sym at))
