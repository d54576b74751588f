-- What the members that an opening attaches hold, by what they are reopened as.
use Rattle.std.proofs.Common.{◌≡◌, ◌≤◌, ◌<◌, ◌/◌, ◌%◌, ℕ, Bool, true, false, List, length, refl, sym, ◌∙◌, ap, arith, inl, inr, subst}
use Rattle.std.specs.Prelude.{Option, Some, None, IfSome, IsSome, slice_index}
use Rattle.std.proofs.lemmas.Bool.{false≢true}
use Rattle.dg_io.specs.Kept.{Kept}
use Rattle.dg_io.specs.Told.{IsSame, Told}
use Rattle.dg_io.specs.declared.outside.Rack.{Ghosts}
use Rattle.dg_stop.proofs.Committing.{has_written}
use Rattle.dg_stop.proofs.FindLemmas.{none_some}
use Rattle.dg_stop.proofs.FoundKnown.{before_mid, code_of, had_of, in_of, known_is, known_low, same_read, some_or}
use Rattle.dg_stop.proofs.HeaderLemmas.{one_header}
use Rattle.dg_stop.proofs.OneCommit.{lt_or, same_at, told_both}
use Rattle.dg_stop.proofs.OpenedLemmas.{openings_hold}
use Rattle.dg_stop.proofs.OpenedRack.{absent_at, attached_at, fate, head_is, not_false, pages_now, served_head, serves_by, size_at, standing_at}
use Rattle.dg_stop.proofs.PhaseLemmas.{told_right}
use Rattle.dg_stop.proofs.Ranges.{seen_same}
use Rattle.dg_stop.proofs.ReadLemmas.{known_or}
use Rattle.dg_stop.proofs.Sparing.{openings_spare}
use Rattle.dg_stop.proofs.StepLemmas.{if_known}
use Rattle.dg_stop.proofs.Stopping.{committed_is}
use Rattle.dg_stop.specs.Commits.{AreGuarded, IsFresh, IsPlaced, PutsHeader, WritesHeader, as_committed}
use Rattle.dg_stop.specs.DoubleCommits.{fell_now}
use Rattle.dg_stop.specs.DoubleOpenings.{Attaches, GivesLast, GivesTold, IsOfOne, SparesAll, is_prepared}
use Rattle.dg_stop.specs.Doubles.{GuardsAll, KeepsAll, fell_in, known_in, last_in, seen_in, sizes_in, stands_in}
use Rattle.dg_stop.specs.FoundHeaders.{AreFound, IsIn, found_at}
use Rattle.dg_stop.specs.Headers.{Header as Value, HasHeader, entry_of, extra_of, header_table}
use Rattle.dg_stop.specs.Layouts.{SamePages, bit_in, names_second, seen, spot, table_place, table_size}
use Rattle.dg_stop.specs.Leads.{IsAlike, IsAttachedBy}
use Rattle.dg_stop.specs.Openings.{GuardsOpened, HoldsOpened, IsTaken}
use Rattle.dg_stop.specs.Phases.{TellsKnown, bits_in, bits_of_held, bytes_or, flag_in, known_at, size_in}
use Rattle.dg_stop.specs.Readings.{AreTables}
use Rattle.dg_stop.specs.Reopens.{IsAttached, IsLast, KeptBy, Leads, NoneCommitted, Reopened}
use Rattle.dg_stop.specs.Stops.{Upgrades}
use Rattle.dg_stop.specs.Tables.{head_at}
use Rattle.dg_stop.specs.Values.{header_of}
use Rattle.dg_stop.specs.declared.found_headers.Found.{Found}
use Rattle.dg_stop.specs.declared.headers.Header.{Header}
use Rattle.dg_stop.specs.declared.memories.Memory.{Memory}
use Rattle.dg_stop.specs.declared.places.Places.{Places}
use Rattle.dg_stop.specs.declared.readings.Attached.{Attached}
use Rattle.dg_stop.specs.declared.tallies.Tally.{Tally}
use Rattle.std.specs.Global.{Vec}

told_at : (P : List ℕ → List ℕ → Type 0) (x y : Option (List ℕ)) (a b : List ℕ) → Told P x y → IsSome y → a ≡ bytes_or x → b ≡ bytes_or y → P a b
told_at P x y a b told is e f = subst (λ (l : List ℕ). P l b) (sym e) (subst (λ (l : List ℕ). P (bytes_or x) l) (sym f) (told_both P x y told is))

seen_some : (memory : Memory) (q : ℕ) (x : Option (List ℕ)) → IsSome x → seen_in memory q x ≡ Some (seen (table_size (sizes_in memory q) memory.room) (bit_in (bits_in memory.current.items q)) (sizes_in memory q) (bytes_or x))
seen_some memory q None is = absurd (false≢true is)
seen_some memory q (Some all) is = refl

seen_places : (t size : ℕ) (a b : List ℕ) (all : List ℕ) → a ≡ b → seen t (bit_in a) size all ≡ seen t (bit_in b) size all
seen_places t size a b all e = ap (λ (l : List ℕ). seen t (bit_in l) size all) e

seen_sized : (n r m s : ℕ) (places : ℕ → Bool) (all : List ℕ) → n ≡ m → r ≡ s → seen (table_size n r) places n all ≡ seen (table_size m s) places m all
seen_sized n r m s places all e f = rw (e, f) refl

spot_named : (t : ℕ) (a b : ℕ → Bool) (all : List ℕ) (o : ℕ) → a (o / 512) ≡ b (o / 512) → slice_index all (spot t a o) ≡ slice_index all (spot t b o)
spot_named t a b all o e = rw e refl

committed_same : (v : Value) → v.committed ≡ true → v ≡ as_committed v
committed_same v is = ap (λ (b : Bool). record { sequence = v.sequence; committed = b; member = v.member; size = v.size; room = v.room; extra = v.extra }) is

module _ {S : Type 0} (rack : Ghosts S) (found : List Found) (known failed : List Bool) (t : Attached) (old mid : S) (so : AreFound rack 32 found known failed old mid) (are : AreTables rack found mid t)
    (heads : length t.heads ≡ 32) (top : ℕ) (memory : Memory) (new : S) (at : Attaches rack known failed top t memory mid new) (count : length known ≡ 32)
    (most : (q : ℕ) (h : Header) → IsIn h (found_at found q) → h.sequence ≤ top) (told : TellsKnown (known_in memory) (rack.bytes new)) where
  abbrev c : ℕ
  c = t.lead.sequence

  abbrev before : ℕ → List ℕ
  before q = known_at (known_in memory) (rack.bytes old) q

  abbrev after : ℕ → List ℕ
  after q = known_at (known_in memory) (rack.bytes new) q

  is_known : (q : ℕ) → known_in memory q ≡ flag_in known q
  is_known q = known_is rack found known failed old mid so memory at.known_is count q

  low_at : (q : ℕ) → known_in memory q ≡ true → q < 32
  low_at q on = known_low rack found known failed old mid so memory at.known_is count q on

  same_at_read : (q : ℕ) → Told IsSame (rack.bytes old q) (rack.bytes mid q)
  same_at_read q = same_read rack found known failed old mid so memory at.known_is count q

  told_mid : TellsKnown (known_in memory) (rack.bytes mid)
  told_mid q on = at.finished.tells q (told q on)

  before_read : (q : ℕ) → known_in memory q ≡ true → before q ≡ bytes_or (rack.bytes mid q)
  before_read q on = before_mid rack found known failed old mid so memory at.known_is count told_mid q on

  after_new : (q : ℕ) → known_in memory q ≡ true → after q ≡ bytes_or (rack.bytes new q)
  after_new q on = if_known (known_in memory q) (bytes_or (rack.bytes new q)) on

  found_in : (q : ℕ) (v : Value) → HasHeader q (before q) v → (known_in memory q ≡ true) × IsIn (code_of v) (found_at found q)
  found_in q v has = in_of rack found known failed old mid so memory at.known_is count told_mid q v has

  had_at : (q : ℕ) (h : Header) → IsIn h (found_at found q) → HasHeader q (before q) (header_of h)
  had_at q h isin = had_of rack found known failed old mid so memory at.known_is count told_mid q h isin

  -- ---- the commit that leads

  last : IsLast before c
  last = record {
    member = are.leads.member;
    header = header_of t.lead;
    is = record { has = had_at are.leads.member t.lead are.leads.is.is; sequence = refl; mark = are.leads.mark };
    most = λ q v has mark.
        let is = found_in q v has in
        are.leads.most q (code_of v) (record { low = low_at q is.0; is = is.1 }) mark;
  }

  leads : Leads before c are.leads.member (header_of t.lead)
  leads = record {
    is = record { has = had_at are.leads.member t.lead are.leads.is.is; sequence = refl; mark = are.leads.mark };
    least = λ q v is.
        let isin = found_in q v is.has in
        are.leads.least q (code_of v) (record { low = low_at q isin.0; is = isin.1 }) is.mark is.sequence;
  }

  attached_head : (q : ℕ) (h : Header) → head_at t.heads q ≡ Some h → IsAttached before c (header_of t.lead) q (header_of h)
  attached_head q h e =
      let it = attached_at rack found known failed t old mid so are heads q h e in
      record { has = had_at q h it.isin; sequence = it.alike.sequence; room = it.alike.room; extra = it.alike.extra }

  head_attached : (q : ℕ) (v : Value) → IsAttached before c (header_of t.lead) q v → (h : Header) × (head_at t.heads q ≡ Some h)
  head_attached q v is =
      let isin = found_in q v is.has in
      by q (head_at t.heads q) refl (are.heads q (low_at q isin.0)) (code_of v) isin.1 (record { sequence = is.sequence; room = is.room; extra = is.extra })
    where
      by : (q : ℕ) (o : Option Header) → head_at t.heads q ≡ o → IsAttachedBy t.lead (found_at found q) o → (k : Header) → IsIn k (found_at found q) → IsAlike t.lead k → (h : Header) × (head_at t.heads q ≡ Some h)
      by q (Some h) e is k isin alike = (h, e)
      by q None e is k isin alike = absurd (is k (record { is = isin; alike = alike }))

  -- ---- what was written

  known_at_head : (q : ℕ) (h : Header) → head_at t.heads q ≡ Some h → known_in memory q ≡ true
  known_at_head q h e = is_known q ∙ (attached_at rack found known failed t old mid so are heads q h e).is_known

  same_idle : (q : ℕ) → q < 32 → flag_in at.served q ≡ false → after q ≡ before q
  same_idle q low idle = same_at (known_in memory) q (rack.bytes old q) (rack.bytes new q)
      (told_right IsSame (rack.bytes old q) (rack.bytes mid q) (rack.bytes new q) (same_at_read q)
      ((fate rack found known failed t old mid so are heads top memory new at count q low).idle idle)) (told q)

  same_high : (q : ℕ) → 32 ≤ q → after q ≡ before q
  same_high q high = same_at (known_in memory) q (rack.bytes old q) (rack.bytes new q)
      (told_right IsSame (rack.bytes old q) (rack.bytes mid q) (rack.bytes new q) (same_at_read q) (at.finished.rest q high).bytes) (told q)

  upgrades : rack.steady old → Upgrades c (header_of t.lead) before after
  upgrades steady q = elim (lt_or q 32) [
    | inr high ↦ inl (same_high q high)
    | inl low ↦ elim (known_or (flag_in at.served q)) [
      | inr idle ↦ inl (same_idle q low idle)
      | inl served ↦
          let head = served_head rack found known failed t old mid so are heads top memory new at count q served in
          let on = known_at_head q head.0 head.1.0 in
          inr (
            header_of head.0,
            attached_head q head.0 head.1.0,
            told_at (WritesHeader (as_committed (header_of head.0))) (rack.bytes mid q) (rack.bytes new q) (before q) (after q)
                (subst (λ v. Told (WritesHeader v) (rack.bytes mid q) (rack.bytes new q)) (head_is rack found known failed t old mid so are heads top memory new at count q head.0 head.1.0)
                ((fate rack found known failed t old mid so are heads top memory new at count q low).wrote (so.steady_on.0 steady) served))
                (told q on) (before_read q on) (after_new q on),
          )
    ]
  ]

  committed_at : (q : ℕ) (h : Header) → head_at t.heads q ≡ Some h → fell_now at.served at.serves q ≡ false → HasHeader q (after q) (as_committed (header_of h))
  committed_at q h e near =
      let it = attached_at rack found known failed t old mid so are heads q h e in
      let on = known_at_head q h e in
      let has = had_at q h it.isin in
      elim (known_or (flag_in at.served q)) [
        | inr idle ↦
            let mark : h.committed ≡ true = not_false h.committed (sym (ap is_prepared e) ∙ sym (at.prepared q) ∙ idle) in
            subst (λ (l : List ℕ). HasHeader q l (as_committed (header_of h))) (sym (same_idle q it.low idle)) (subst (λ (v : Value). HasHeader q (before q) v) (committed_same (header_of h) mark) has)
        | inl served ↦
            let serves = serves_by (flag_in at.served q) (flag_in at.serves q) served near in
            has_written q (as_committed (header_of h)) (before q) (after q) (committed_is (header_of h) has.is) has.own has.long
            (told_at (PutsHeader (as_committed (header_of h))) (rack.bytes mid q) (rack.bytes new q) (before q) (after q)
            (subst (λ v. Told (PutsHeader v) (rack.bytes mid q) (rack.bytes new q)) (head_is rack found known failed t old mid so are heads top memory new at count q h e)
            ((fate rack found known failed t old mid so are heads top memory new at count q it.low).done serves))
            (told q on) (before_read q on) (after_new q on))
      ]

  -- where its pages stood in the last commit, they stand now
  last_bits : (q : ℕ) → bits_in memory.last.items q ≡ bits_in memory.current.items q
  last_bits q = at.last.bits q ∙ sym (ap (λ (v : Vec Places). bits_in v.items q) at.current)

  named_at : (q : ℕ) (h : Header) → head_at t.heads q ≡ Some h → (o : ℕ) → o < h.size
      → names_second (before q) (table_place (header_table (header_of h)) c) (o / 512) ≡ last_in memory q (o / 512)
  named_at q h e o low =
      let it = attached_at rack found known failed t old mid so are heads q h e in
      let on = known_at_head q h e in
      let placed : IsPlaced (header_of h) (bit_in it.held.bits.items) (before q) =
      subst (IsPlaced (header_of h) (bit_in it.held.bits.items)) (sym (before_read q on)) (some_or (IsPlaced (header_of h) (bit_in it.held.bits.items)) (rack.bytes mid q) it.table.placed (told_mid q on)) in
      subst (λ (n : ℕ). names_second (before q) (table_place (header_table (header_of h)) n) (o / 512) ≡ bit_in it.held.bits.items (o / 512)) it.alike.sequence (placed o low)
      ∙ ap (λ (l : List ℕ). bit_in l (o / 512)) (sym (at.last.bits q ∙ ap bits_of_held it.got))

  taken : (q : ℕ) → stands_in memory q ≡ true → IsTaken c (header_of t.lead) before after (sizes_in memory q) (last_in memory q) q
  taken q on =
      let head = standing_at rack found known failed t old mid so are heads top memory new at count q on in
      let h = head.0 in
      record {
        header = header_of h;
        attached = attached_head q h head.1.0;
        committed = committed_at q h head.1.0 head.1.1;
        size_is = ap (λ (v : Vec Places). size_in v.items q) at.current ∙ size_at rack found known failed t old mid so are heads q h head.1.0;
        named = named_at q h head.1.0;
      }

  seen_before : (q : ℕ) (v : Value) → HasHeader q (before q) v → v.sequence ≤ top
  seen_before q v has = most q (code_of v) (found_in q v has).1

  module _ (steady : rack.steady old) where
    opens : GuardsOpened (stands_in memory) (sizes_in memory) (last_in memory) c top (header_of t.lead) after
        × ((kept : Kept) → Reopened before kept → HoldsOpened (stands_in memory) (sizes_in memory) (last_in memory) c (header_of t.lead) before after kept)
    opens = openings_hold (stands_in memory) (sizes_in memory) (last_in memory) c are.leads.member top (header_of t.lead) before after last leads (upgrades steady) seen_before taken

  by_last : (kept : Kept) → Reopened before kept → KeptBy before c (header_of t.lead) kept
  by_last kept had = had.last c are.leads.member (header_of t.lead) last leads

  -- ---- what is given

  pages_at : (q : ℕ) (h : Header) → head_at t.heads q ≡ Some h → SamePages (header_table (header_of h)) (before q) (after q)
  pages_at q h e =
      let it = attached_at rack found known failed t old mid so are heads q h e in
      let on = known_at_head q h e in
      let size : sizes_in memory q ≡ h.size = ap (λ (v : Vec Places). size_in v.items q) at.current ∙ size_at rack found known failed t old mid so are heads q h e in
      let table : table_size (sizes_in memory q) memory.room ≡ header_table (header_of h) = ap (λ (n : ℕ). table_size n memory.room) size ∙ ap (λ (n : ℕ). table_size h.size n) (at.room ∙ sym it.alike.room) in
      subst (λ (n : ℕ). SamePages n (before q) (after q)) table
      (told_at (SamePages (table_size (sizes_in memory q) memory.room)) (rack.bytes old q) (rack.bytes new q) (before q) (after q) (pages_now rack found known failed t old mid so are heads top memory new at count q)
      (told q on) (if_known (known_in memory q) (bytes_or (rack.bytes old q)) on) (after_new q on))

  -- the bytes of an entry, where its pages stand now
  entry_seen : (q : ℕ) (h : Header) → head_at t.heads q ≡ Some h → entry_of (header_of h) (before q) ≡ seen (header_table (header_of h)) (last_in memory q) h.size (after q)
  entry_seen q h e =
      let it = attached_at rack found known failed t old mid so are heads q h e in
      seen_same (header_table (header_of h)) h.size (names_second (before q) (table_place (header_table (header_of h)) h.sequence)) (last_in memory q) (before q) (after q)
      (λ o low. spot_named (header_table (header_of h)) (names_second (before q) (table_place (header_table (header_of h)) h.sequence)) (last_in memory q) (before q) o
      (subst (λ (n : ℕ). names_second (before q) (table_place (header_table (header_of h)) n) (o / 512) ≡ last_in memory q (o / 512)) (sym it.alike.sequence) (named_at q h e o low))
      ∙ sym ((pages_at q h e).bytes (spot (header_table (header_of h)) (last_in memory q) o) (omega arith)))

  entry_is : (kept : Kept) → Reopened before kept → (q : ℕ) → stands_in memory q ≡ true → kept.entries q ≡ seen_in memory q (rack.bytes new q)
  entry_is kept had q on =
      let head = standing_at rack found known failed t old mid so are heads top memory new at count q on in
      let h = head.0 in
      let it = attached_at rack found known failed t old mid so are heads q h head.1.0 in
      let on_it = known_at_head q h head.1.0 in
      let size : h.size ≡ sizes_in memory q = sym (ap (λ (v : Vec Places). size_in v.items q) at.current ∙ size_at rack found known failed t old mid so are heads q h head.1.0) in
      (by_last kept had).attached q (header_of h) (attached_head q h head.1.0)
      ∙ ap (λ (l : List ℕ). Some l)
      (entry_seen q h head.1.0 ∙ seen_sized h.size h.room (sizes_in memory q) memory.room (last_in memory q) (after q) size (it.alike.room ∙ sym at.room)
      ∙ ap (λ (l : List ℕ). seen (table_size (sizes_in memory q) memory.room) (last_in memory q) (sizes_in memory q) l) (after_new q on_it)
      ∙ seen_places (table_size (sizes_in memory q) memory.room) (sizes_in memory q) (bits_in memory.last.items q) (bits_in memory.current.items q) (bytes_or (rack.bytes new q)) (last_bits q))
      ∙ sym (seen_some memory q (rack.bytes new q) (told q on_it))

  entry_none : (kept : Kept) → Reopened before kept → (q : ℕ) → stands_in memory q ≡ false → fell_in memory q ≡ false → kept.entries q ≡ None
  entry_none kept had q out near = (by_last kept had).others q (λ v is.
      let head = head_attached q v is in
      let low = low_at q (found_in q v is.has).0 in
      none_head (head_at t.heads q) head.0 (absent_at rack found known failed t old mid so are heads top memory new at count q low out near) head.1)
    where
      none_head : (o : Option Header) (h : Header) → o ≡ None → o ≡ Some h → ⊥
      none_head None h a b = none_some h b
      none_head (Some k) h a b = none_some k (sym a)

  extra_is : (kept : Kept) → Reopened before kept → t.extra.items ≡ kept.extra
  extra_is kept had =
      let h = are.some.0 in
      let is = are.some.1 in
      let it = attached_at rack found known failed t old mid so are heads is.member h is.at in
      let on = known_at_head is.member h is.at in
      let read = subst (λ (q : ℕ). IfSome (rack.bytes mid q) (λ all. t.extra.items ≡ extra_of (header_of h) all)) it.bears.own (are.first h is).1 in
      some_or (λ all. t.extra.items ≡ extra_of (header_of h) all) (rack.bytes mid is.member) read (told_mid is.member on)
      ∙ ap (extra_of (header_of h)) (sym (before_read is.member on))
      ∙ sym ((by_last kept had).extra is.member (header_of h) (attached_head is.member h is.at)
      (λ p v at_p. let head = head_attached p v at_p in is.least p head.0 head.1))

  module _ (d q : ℕ) (lead : Value) (other : IsLast before d) (leads_other : Leads before d q lead) where
    same_number : d ≡ c
    same_number =
        let up : d ≤ c = omega (arith, last.most other.member other.header other.is.has other.is.mark, other.is.sequence) in
        let down : c ≤ d = omega (arith, other.most last.member last.header last.is.has last.is.mark, last.is.sequence) in
        omega (arith, up, down)

    same_lead : lead ≡ header_of t.lead
    same_lead =
        let next : Leads before c q lead = subst (λ (x : ℕ). Leads before x q lead) same_number leads_other in
        let up = next.least are.leads.member (header_of t.lead) leads.is in
        let down = leads.least q lead next.is in
        let same : q ≡ are.leads.member = omega (arith, up, down) in
        one_header q (before q) lead (header_of t.lead) next.is.has (subst (λ (x : ℕ). HasHeader x (before x) (header_of t.lead)) (sym same) leads.is.has) (ap (λ (x : ℕ). x % 2) (next.is.sequence ∙ sym leads.is.sequence))

    pub gives_last : GivesLast memory t.extra.items d lead
    gives_last = record {
      room = at.room ∙ sym (ap (λ (v : Value). v.room) same_lead);
      commit = at.commit ∙ sym same_number;
      extra_is = are.extra ∙ sym (ap (λ (v : Value). v.extra) same_lead);
    }

  not_none : NoneCommitted before → ⊥
  not_none none = none last.member last.header last.is.has last.is.mark

  pub guards_now : rack.steady old → GuardsAll memory after
  guards_now steady = record {
    guarded =
        subst (λ (x : ℕ). AreGuarded (stands_in memory) (sizes_in memory) x (last_in memory) memory.commit memory.top after) (sym at.room)
        (subst (λ (x : ℕ). AreGuarded (stands_in memory) (sizes_in memory) t.lead.room (last_in memory) x memory.top after) (sym at.commit)
        (subst (λ (x : ℕ). AreGuarded (stands_in memory) (sizes_in memory) t.lead.room (last_in memory) c x after) (sym at.top_is) (opens steady).0.guarded));
    low = omega (arith, at.commit, at.top_is, most are.leads.member t.lead are.leads.is.is);
    known = λ q on. let head = standing_at rack found known failed t old mid so are heads top memory new at count q on in known_at_head q head.0 head.1.0;
    numbers = low_at;
  }

  pub keeps_now : rack.steady old → (kept : Kept) → Reopened before kept → IsOfOne before kept → KeepsAll memory after kept
  keeps_now steady kept had one =
      let holds = (opens steady).1 kept had in
      record {
        fresh = subst (IsFresh after) (sym at.commit) (opens steady).0.fresh;
        reopened = holds.reopened;
        anchored = holds.anchored (one c are.leads.member (header_of t.lead) last leads);
      }

  -- ---- any more members

  module _ (steady : rack.steady old) (wide : ℕ → Bool) (within : (q : ℕ) → known_in memory q ≡ true → wide q ≡ true) (told_wide : TellsKnown wide (rack.bytes new)) where
    wide_before : (q : ℕ) → known_in memory q ≡ true → known_at wide (rack.bytes old) q ≡ before q
    wide_before q on = if_known (wide q) (bytes_or (rack.bytes old q)) (within q on) ∙ sym (if_known (known_in memory q) (bytes_or (rack.bytes old q)) on)

    wide_after : (q : ℕ) → known_in memory q ≡ true → known_at wide (rack.bytes new) q ≡ after q
    wide_after q on = if_known (wide q) (bytes_or (rack.bytes new q)) (within q on) ∙ sym (after_new q on)

    -- an unknown member isn't written
    same_unknown : (q : ℕ) → known_in memory q ≡ false → Told IsSame (rack.bytes mid q) (rack.bytes new q)
    same_unknown q out = elim (lt_or q 32) [
      | inr high ↦ (at.finished.rest q high).bytes
      | inl low ↦ elim (known_or (flag_in at.served q)) [
        | inr idle ↦ (fate rack found known failed t old mid so are heads top memory new at count q low).idle idle
        | inl served ↦
            let head = served_head rack found known failed t old mid so are heads top memory new at count q served in
            absurd (false≢true (sym out ∙ known_at_head q head.0 head.1.0))
      ]
    ]

    wide_upgrades : Upgrades c (header_of t.lead) (known_at wide (rack.bytes old)) (known_at wide (rack.bytes new))
    wide_upgrades q = elim (known_or (known_in memory q)) [
      | inr out ↦ inl (same_at wide q (rack.bytes old q) (rack.bytes new q)
          (told_right IsSame (rack.bytes old q) (rack.bytes mid q) (rack.bytes new q) (same_at_read q) (same_unknown q out)) (told_wide q))
      | inl on ↦ elim (upgrades steady q) [
        | inl e ↦ inl (wide_after q on ∙ e ∙ sym (wide_before q on))
        | inr wrote ↦
            let is = wrote.1 in
            inr (
              wrote.0,
              record {
                has = subst (λ (l : List ℕ). HasHeader q l wrote.0) (sym (wide_before q on)) is.has;
                sequence = is.sequence;
                room = is.room;
                extra = is.extra;
              },
              subst (λ (l : List ℕ). WritesHeader (as_committed wrote.0) l (known_at wide (rack.bytes new) q)) (sym (wide_before q on))
                  (subst (λ (l : List ℕ). WritesHeader (as_committed wrote.0) (before q) l) (sym (wide_after q on)) wrote.2),
            )
      ]
    ]

    wide_lead : HasHeader are.leads.member (known_at wide (rack.bytes old) are.leads.member) (header_of t.lead)
    wide_lead =
        let on = (found_in are.leads.member (header_of t.lead) leads.is.has).0 in
        subst (λ (l : List ℕ). HasHeader are.leads.member l (header_of t.lead)) (sym (wide_before are.leads.member on)) leads.is.has

    pub spares_now : SparesAll (known_at wide (rack.bytes old)) (known_at wide (rack.bytes new))
    spares_now = record {
      nothing = λ none. absurd (none are.leads.member (header_of t.lead) wide_lead are.leads.mark);
      last = λ says d first lead last leads.
          openings_spare c are.leads.member d first (header_of t.lead) (header_of t.lead) lead (known_at wide (rack.bytes old)) (known_at wide (rack.bytes new))
          (record { has = wide_lead; sequence = refl; mark = are.leads.mark }) wide_upgrades last leads
          (λ e. says first are.leads.member lead (header_of t.lead) leads.is.has wide_lead (leads.is.sequence ∙ e));
    }

  pub gives_now : (tally : Tally) → GivesTold rack (record { rack = new; memory = memory; tally = tally }) t.extra.items before after
  gives_now tally = record {
    most = λ q v has. omega (arith, at.top_is, seen_before q v has);
    nothing = λ none. absurd (not_none none);
    last = gives_last;
    kept = λ kept had. record { extra_is = extra_is kept had; entries = entry_is kept had; none = entry_none kept had };
    stays = λ steady kept had. ((opens (so.steady_on.1 (at.finished.steady_on.1 steady))).1 kept had).reopened;
  }
