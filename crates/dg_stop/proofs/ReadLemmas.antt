-- What an opening reads: the tables of the commit that leads, without the members on which a call failed.
use Rattle.std.proofs.Common.{◌^◌, ◌≡◌, ◌≤◌, ◌<◌, ◌⊎◌, ℕ, Bool, true, false, List, length, replicate, refl, sym, ◌∙◌, ap, arith, inl, inr, subst}
use Rattle.std.proofs.lemmas.Bool.{false≢true}
use Rattle.std.proofs.lemmas.List.{get_or-replicate, get_or-set_other, get_or-set_same, get_or_past, length-set}
use Rattle.std.specs.Prelude.{Option, Some, None, IfSome, IsSome, slice_set}
use Rattle.dg_io.specs.Told.{IsSame, Told}
use Rattle.dg_io.specs.declared.outside.Rack.{Ghosts}
use Rattle.dg_stop.proofs.Committing.{same_or_not}
use Rattle.dg_stop.proofs.FindLemmas.{none_some}
use Rattle.dg_stop.proofs.OneCommit.{lt_or}
use Rattle.dg_stop.proofs.PhaseLemmas.{told_itself, told_right}
use Rattle.dg_stop.proofs.TableLemmas.{head_low, holds_on}
use Rattle.dg_stop.proofs.TriesLemmas.{count_fewer}
use Rattle.dg_stop.specs.FoundHeaders.{AreFound, AreHeadersOf, IsIn, found_at, no_headers}
use Rattle.dg_stop.specs.Headers.{HasHeader, IsBareLabeled}
use Rattle.dg_stop.specs.Leads.{IsAttachedBy, IsLead, IsOfLead, IsTopOf}
use Rattle.dg_stop.specs.Phases.{flag_in}
use Rattle.dg_stop.specs.Readings.{AreSound, AreTables, HadHeader, HasRead, HasTables, IsSeen, LosesFound, ReadsOn}
use Rattle.dg_stop.specs.Tables.{AreBorne, AreHeads, AreShort, AreSmall, HasNoHead, IsFirstHead, LosesHead, ReadsFirst, ReadsTables, head_at}
use Rattle.dg_stop.specs.Tries.{count_in}
use Rattle.dg_stop.specs.Values.{header_of}
use Rattle.dg_stop.specs.declared.found_headers.Found.{Found}
use Rattle.dg_stop.specs.declared.headers.Header.{Header}
use Rattle.dg_stop.specs.declared.readings.Attached.{Attached}
use Rattle.dg_stop.specs.declared.readings.Reading.{Reading}

none_in : (h : Header) → IsIn h no_headers → ⊥
none_in h isin = elim isin [
  | inl e ↦ none_some h e
  | inr e ↦ none_some h e
]

pub known_or : (b : Bool) → (b ≡ true) ⊎ (b ≡ false)
known_or true = inl refl
known_or false = inr refl

head_some : (o : Option Header) → IsSome o → (h : Header) × (o ≡ Some h)
head_some (Some h) is = (h, refl)
head_some None is = absurd (false≢true is)

-- ---- the members that are attached

module _ {S : Type 0} (rack : Ghosts S) (found : List Found) (lead : Header) (heads : List (Option Header)) (are : AreHeads lead found 32 heads) (size : length heads ≡ 32) where
  pub head_in : (q : ℕ) (h : Header) → head_at heads q ≡ Some h → IsOfLead lead (found_at found q) h
  head_in q h e = subst (λ (x : Option Header). IsAttachedBy lead (found_at found q) x) e (are q (head_low heads q h size e))

  pub borne_by : (now : S) → AreSound rack found now → AreBorne rack heads now
  borne_by now sound q h e = sound q h (head_in q h e).is

  pub lost_found : (old new : S) (q : ℕ) → LosesHead rack heads old new q → LosesFound rack found old new q
  lost_found old new q lost =
      let head = head_some (head_at heads q) lost.1 in
      record { loses = lost.0; header = head.0; is = (head_in q head.0 head.1).is }

pub small_by : (heads : List (Option Header)) (most : ℕ) → AreShort heads most → most < 2 ^ 48 → AreSmall heads
small_by heads most short small q h e = omega (arith, short q h e, small)

module _ {S : Type 0} (rack : Ghosts S) (found : List Found) (t : Attached) (are : AreHeads t.lead found 32 t.heads) (size : length t.heads ≡ 32) (leads : IsLead found (Some t.lead)) where
  -- the header that leads attaches its member
  some_head : HasNoHead t.heads → ⊥
  some_head none = by (head_at t.heads leads.member) refl (are leads.member leads.is.low) where
    by : (o : Option Header) → head_at t.heads leads.member ≡ o → IsAttachedBy t.lead (found_at found leads.member) o → ⊥
    by None e is = is t.lead (record { is = leads.is.is; alike = record { sequence = refl; room = refl; extra = refl } })
    by (Some h) e is = none leads.member h e

  module _ (a b c : S) (sound : AreSound rack found a) (short : AreShort t.heads t.most) (small : t.most < 2 ^ 48) (tables : ReadsTables rack t.heads t.most None t.places.items a b)
      (first : ReadsFirst rack t.heads b c t.extra.items) where
    first_head : (h : Header) × IsFirstHead t.heads h
    first_head = elim first.some [ inl none ↦ absurd (some_head none) | inr head ↦ head ]

    count_extra : length t.extra.items ≡ t.lead.extra
    count_extra =
        let head = first_head in
        (first.has head.0 head.1).0 ∙ (head_in rack found t.lead t.heads are size head.1.member head.0 head.1.at).alike.extra

    pub are_tables : AreTables rack found c t
    are_tables = record {
      leads = leads;
      lead = (sound leads.member t.lead leads.is.is).1.is;
      heads = are;
      many = size;
      borne = first.borne;
      short = short;
      small = small;
      count = tables.2;
      roomy = tables.3;
      holds = λ q held got. holds_on rack b c q held (head_at t.heads q) (first.finds.same q) (tables.4 q held got);
      extra = count_extra;
      some = first_head;
      first = first.has;
    }

-- ---- without those on which a call failed

module _ {S : Type 0} (rack : Ghosts S) (found : List Found) (known failed : List Bool) (first now : S) (so : AreFound rack 32 found known failed first now) where
  -- a member that has a header is known
  pub known_in : (q : ℕ) (h : Header) → IsIn h (found_at found q) → (q < 32) × (flag_in known q ≡ true)
  known_in q h isin = elim (lt_or q 32) [
    | inl low ↦ (low, elim (known_or (flag_in known q)) [ inl is ↦ is | inr out ↦ absurd ((so.below q low).none out h isin) ])
    | inr high ↦ absurd ((so.rest q high).none h isin)
  ]

  pub sound_found : AreSound rack found now
  sound_found q h isin =
      let is = known_in q h isin in
      (is.0, ((so.below q is.0).on is.1).bears h isin)

module _ {S : Type 0} (rack : Ghosts S) (found : List Found) (known failed : List Bool) (old : S) where
  pub reads_none : ReadsOn rack found known failed old found known failed old
  reads_none = record { on = λ first so. so; only = λ q h isin. isin; same = λ q. told_itself (rack.bytes old q) }

  module _ (later : List Found) (knows fails : List Bool) (mid new : S) (so : ReadsOn rack found known failed old later knows fails mid) where
    pub reads_then : (same : (q : ℕ) → Told IsSame (rack.bytes mid q) (rack.bytes new q)) → ((first : S) → AreFound rack 32 later knows fails first mid → AreFound rack 32 later knows fails first new)
        → ReadsOn rack found known failed old later knows fails new
    reads_then same on = record {
      on = λ first was. on first (so.on first was);
      only = so.only;
      same = λ q. told_right IsSame (rack.bytes old q) (rack.bytes mid q) (rack.bytes new q) (so.same q) (same q);
    }

    module _ (many : length later ≡ 32) (all : length knows ≡ 32) (marks : length fails ≡ 32) (lost : ℕ) (is : LosesFound rack later mid new lost) where
      pub reads_lost : ReadsOn rack found known failed old (slice_set later lost no_headers) (slice_set knows lost false) (slice_set fails lost true) new
      reads_lost = record {
        on = λ first was. is.loses.on later knows fails first many all marks (so.on first was);
        only = only;
        same = λ q. told_right IsSame (rack.bytes old q) (rack.bytes mid q) (rack.bytes new q) (so.same q) (is.loses.same q);
      }
        where
          only : (q : ℕ) (h : Header) → IsIn h (found_at (slice_set later lost no_headers) q) → IsIn h (found_at found q)
          only q h isin = elim (same_or_not q lost) [
            | inl e ↦ absurd (none_in h (subst (IsIn h) (ap (λ (x : ℕ). found_at (slice_set later lost no_headers) x) e ∙ get_or-set_same later lost no_headers no_headers (omega (arith, many, is.loses.low))) isin))
            | inr apart ↦ so.only q h (subst (IsIn h) (get_or-set_other later lost q no_headers no_headers apart) isin)
          ]

      fewer : (q : ℕ) → flag_in (slice_set knows lost false) q ≡ true → flag_in knows q ≡ true
      fewer q on = elim (same_or_not q lost) [
        | inl e ↦ absurd (false≢true (sym (ap (λ (x : ℕ). flag_in (slice_set knows lost false) x) e ∙ get_or-set_same knows lost false false (omega (arith, all, is.loses.low))) ∙ on))
        | inr apart ↦ sym (get_or-set_other knows lost q false false apart) ∙ on
      ]

      -- one member less is known
      pub known_less : (first : S) → AreFound rack 32 later knows fails first mid → count_in (slice_set knows lost false) < count_in knows
      known_less first was = count_fewer knows (slice_set knows lost false) (sym (length-set knows lost false)) fewer (record {
        member = lost;
        was = (known_in rack later knows fails first mid was lost is.header is.is).1;
        isnt = get_or-set_same knows lost false false (omega (arith, all, is.loses.low));
      })

-- ---- from nothing

pub nothing_found : (q : ℕ) → found_at (replicate 32 no_headers) q ≡ no_headers
nothing_found q = elim (lt_or q 32) [
  | inl low ↦ get_or-replicate 32 q no_headers no_headers low
  | inr high ↦ get_or_past (replicate 32 no_headers) q no_headers high
]

pub none_failed : (q : ℕ) → flag_in (replicate 32 false) q ≡ false
none_failed q = elim (lt_or q 32) [
  | inl low ↦ get_or-replicate 32 q false false low
  | inr high ↦ get_or_past (replicate 32 false) q false high
]

pub all_known : (q : ℕ) → q < 32 → flag_in (replicate 32 true) q ≡ true
all_known q low = get_or-replicate 32 q true false low

pub told_first : (P : List ℕ → Type 0) (x y z : Option (List ℕ)) → Told (λ b a. P b) x y → (IsSome z → IsSome y) → Told (λ b a. P b) x z
told_first P x y None told still = tt
told_first P x None (Some c) told still = absurd (false≢true (still refl))
told_first P None (Some b) (Some c) told still = absurd told
told_first P (Some a) (Some b) (Some c) told still = told

had_told : (P Q : List ℕ → Type 0) (x y : Option (List ℕ)) → Told IsSame x y → IfSome y P → ((l : List ℕ) → P l → Q l) → Told (λ b a. Q b) x y
had_told P Q x None same is f = tt
had_told P Q None (Some b) same is f = absurd same
had_told P Q (Some a) (Some b) same is f = f a (subst P same is)

module _ {S : Type 0} (rack : Ghosts S) (found : List Found) (known failed : List Bool) (old mid : S) (so : AreFound rack 32 found known failed old mid) where
  -- a header that was found stood on its member at first
  pub had_header : (q : ℕ) (h : Header) → IsIn h (found_at found q) → HadHeader rack q (header_of h) old mid
  had_header q h isin =
      let is = known_in rack found known failed old mid so q h isin in
      let at = so.below q is.0 in
      had_told (AreHeadersOf q (found_at found q)) (λ l. HasHeader q l (header_of h)) (rack.bytes old q) (rack.bytes mid q) at.same (at.on is.1).headers (λ l are. (are h).0 isin)

  -- a known member that begins as a label had no header
  pub had_bare : (q : ℕ) → q < 32 → flag_in known q ≡ true → Told (λ before after. IsBareLabeled q before) (rack.bytes old q) (rack.bytes mid q)
  had_bare q low on = let at = so.below q low in had_told (IsBareLabeled q) (IsBareLabeled q) (rack.bytes old q) (rack.bytes mid q) at.same (at.on on).bare (λ l is. is)

  module _ (top : ℕ) (tops : IsTopOf found top) (later : List Found) (knows fails : List Bool) (new : S) (on : ReadsOn rack found known failed mid later knows fails new) where
    seen_then : IsSeen rack top old new
    seen_then = elim tops.some [
      | inl none ↦ inl none
      | inr got ↦ inr (record {
        member = got.member;
        header = header_of got.header;
        had = told_right _ (rack.bytes old got.member) (rack.bytes mid got.member) (rack.bytes new got.member) (had_header got.member got.header got.is.is) (on.same got.member);
        sequence = got.sequence;
      })
    ]

    pub has_read : length knows ≡ 32 → (attached : Option Attached) → HasTables rack later new attached → (reading : Reading) → reading.found ≡ later → reading.known ≡ knows → reading.failed ≡ fails → reading.top ≡ top → reading.attached ≡ attached
        → HasRead rack reading old new
    has_read many attached tables reading e f fail g h = record {
      many = ap (λ (l : List Bool). length l) f ∙ many;
      found = subst (λ (x : List Found). AreFound rack 32 x reading.known reading.failed old new) (sym e) (subst (λ (x : List Bool). AreFound rack 32 later x reading.failed old new) (sym f)
          (subst (λ (x : List Bool). AreFound rack 32 later knows x old new) (sym fail) (on.on old so)));
      most = λ q k isin.
          let was = on.only q k (subst (λ (x : List Found). IsIn k (found_at x q)) e isin) in
          let low = (known_in rack found known failed old mid so q k was).0 in
          subst (λ (n : ℕ). k.sequence ≤ n) (sym g) (tops.most q k (record { low = low; is = was }));
      seen = subst (λ (n : ℕ). IsSeen rack n old new) (sym g) seen_then;
      tables = subst (λ (x : List Found). HasTables rack x new reading.attached) (sym e) (subst (HasTables rack later new) (sym h) tables);
    }
