-- What an opening gives where some member has a header: a double rack.
use Rattle.std.proofs.Common.{◌≡◌, ◌≤◌, ◌<◌, ◌++◌, ℕ, Bool, true, List, [], length, refl, sym, ◌∙◌, ap, arith, inl, inr, subst}
use Rattle.std.specs.Prelude.{IsSome, is_some, slice_get}
use Rattle.dg_io.specs.RackCalls.{RackCall}
use Rattle.dg_io.specs.RackWords.{After}
use Rattle.dg_io.specs.Told.{StillTold}
use Rattle.dg_io.specs.declared.outside.Rack.{Ghosts}
use Rattle.dg_model.specs.Members.{partner_of}
use Rattle.dg_stop.proofs.FoundKnown.{known_is, known_low}
use Rattle.dg_stop.proofs.OpenedKeeps.{gives_now, guards_now, keeps_now, spares_now}
use Rattle.dg_stop.proofs.OpenedRack.{attached_at, get_places, held_now, leaves_now, pages_now, size_at, standing_at, unfailed, written_now}
use Rattle.dg_stop.proofs.ReadLemmas.{had_header, known_in as known_found, told_first}
use Rattle.dg_stop.specs.DoubleOpenings.{Attaches, GivesTold, IsOfPair, OpensDouble}
use Rattle.dg_stop.specs.Doubles.{HasNoCalls, IsTooLong, known_in, most_of, sizes_in, stands_in}
use Rattle.dg_stop.specs.FoundHeaders.{AreFound, IsIn, found_at}
use Rattle.dg_stop.specs.Headers.{Header as Value, HasHeader}
use Rattle.dg_stop.specs.Phases.{TellsAll, TellsKnown, flag_in, known_at, size_in}
use Rattle.dg_stop.specs.Readings.{AreTables, HadHeader, IsSeen}
use Rattle.dg_stop.specs.Tables.{IsPaired, head_at}
use Rattle.dg_stop.specs.Values.{header_of}
use Rattle.dg_stop.specs.declared.found_headers.Found.{Found}
use Rattle.dg_stop.specs.declared.headers.Header.{Header}
use Rattle.dg_stop.specs.declared.memories.Memory.{Memory}
use Rattle.dg_stop.specs.declared.places.Places.{Places}
use Rattle.dg_stop.specs.declared.readings.Attached.{Attached}
use Rattle.dg_stop.specs.declared.tallies.Tally.{Tally}
use Rattle.std.specs.Global.{Vec}

module _ {S : Type 0} (rack : Ghosts S) (old mid new : S) (tells : StillTold (rack.bytes mid) (rack.bytes new)) where
  pub had_then : (q : ℕ) (v : Value) → HadHeader rack q v old mid → HadHeader rack q v old new
  had_then q v had = told_first (λ l. HasHeader q l v) (rack.bytes old q) (rack.bytes mid q) (rack.bytes new q) had (tells q)

  pub seen_then : (top : ℕ) → IsSeen rack top old mid → IsSeen rack top old new
  seen_then top (inl none) = inl none
  seen_then top (inr got) = inr (record { member = got.member; header = got.header; had = had_then got.member got.header got.had; sequence = got.sequence })

-- a member and its partner
pair_low : (q r : ℕ) → q < 32 → IsOfPair q r → r < 32
pair_low q r low (inl e) = omega (arith, e, low)
pair_low q r low (inr e) = omega (arith, e, low)

partner_back : (q : ℕ) → partner_of (partner_of q) ≡ q
partner_back q = grind arith

module _ {S : Type 0} (rack : Ghosts S) (found : List Found) (known failed : List Bool) (t : Attached) (old mid : S) (so : AreFound rack 32 found known failed old mid) (are : AreTables rack found mid t)
    (heads : length t.heads ≡ 32) (top : ℕ) (memory : Memory) (new : S) (at : Attaches rack known failed top t memory mid new) (count : length known ≡ 32) where
  -- ---- memory

  paired_at : (q r : ℕ) → stands_in memory q ≡ true → IsOfPair q r → (r < 32) × IsPaired t.heads r
  paired_at q r on pair =
      let head = standing_at rack found known failed t old mid so are heads top memory new at count q on in
      let it = attached_at rack found known failed t old mid so are heads q head.0 head.1.0 in
      let some : IsSome (head_at t.heads q) = ap is_some head.1.0 in
      (pair_low q r it.low pair, by pair some)
    where
      by : IsOfPair q r → IsSome (head_at t.heads q) → IsPaired t.heads r
      by (inl e) some = inl (subst (λ (x : ℕ). IsSome (head_at t.heads x)) (sym e) some)
      by (inr e) some = inr (subst (λ (x : ℕ). IsSome (head_at t.heads x)) (sym (ap partner_of e ∙ partner_back q)) some)

  most_now : (r : ℕ) → r < 32 → IsPaired t.heads r → most_of (slice_get t.places.items r) ≡ t.most
  most_now r low paired =
      let held = get_places t.places.items r (omega (arith, low, are.count)) in
      ap most_of held.1 ∙ are.roomy r held.0 held.1 paired

  fits_at : (p : ℕ) → stands_in memory p ≡ true → sizes_in memory p ≤ t.most
  fits_at p on =
      let head = standing_at rack found known failed t old mid so are heads top memory new at count p on in
      omega (arith, ap (λ (v : Vec Places). size_in v.items p) at.current, size_at rack found known failed t old mid so are heads p head.0 head.1.0, are.short p head.0 head.1.0)

  pub roomy_now : (p q r : ℕ) → stands_in memory p ≡ true → stands_in memory q ≡ true → IsOfPair q r → IsTooLong memory r (sizes_in memory p) → ⊥
  roomy_now p q r on_p on_q pair long =
      let at_r = paired_at q r on_q pair in
      let now : most_of (slice_get memory.current.items r) ≡ t.most = ap (λ (v : Vec Places). most_of (slice_get v.items r)) at.current ∙ most_now r at_r.0 at_r.1 in
      let last : most_of (slice_get memory.last.items r) ≡ t.most = at.last.most r ∙ most_now r at_r.0 at_r.1 in
      let fits = fits_at p on_p in
      let many : length memory.current.items ≡ 32 = ap (λ (v : Vec Places). length v.items) at.current ∙ are.count in
      let many_last : length memory.last.items ≡ 32 = at.last.count ∙ are.count in
      elim long [
        | inl a ↦ omega (arith, a, many, at_r.0)
        | inr b ↦ elim b [
          | inl a ↦ omega (arith, a, many_last, at_r.0)
          | inr d ↦ elim d [
            | inl a ↦ omega (arith, a, now, fits)
            | inr a ↦ omega (arith, a, last, fits)
          ]
        ]
      ]

  module _ (none : (s : S) → rack.made s [] s) (both : (x y z : S) (k l : List RackCall) → rack.made x k y → rack.made y l z → rack.made x (k ++ l) z)
      (laws : (x y : S) (k : List RackCall) → rack.made x k y → After rack k x y) (most : (q : ℕ) (h : Header) → IsIn h (found_at found q) → h.sequence ≤ top) (seen : IsSeen rack top old mid) where
    pub opens_double : (tally : Tally) → HasNoCalls tally → (extra : List ℕ) → extra ≡ t.extra.items → OpensDouble rack old (record { rack = new; memory = memory; tally = tally }) extra
    opens_double tally calls extra e = record {
      leaves = leaves_now rack found known failed t old mid so are heads top memory new at count none both laws;
      tally = calls;
      standing = λ q on.
          let head = standing_at rack found known failed t old mid so are heads top memory new at count q on in
          let it = attached_at rack found known failed t old mid so are heads q head.0 head.1.0 in
          (is_known q ∙ it.is_known, at.fell q it.low ∙ rw (unfailed rack found known failed t old mid so are heads top memory new at count q it.low it.is_known, head.1.1) refl);
      bare = (held_now rack found known failed t old mid so are heads top memory new at count none both laws).bare;
      some = record {
        member = are.leads.member;
        header = header_of t.lead;
        is_known = is_known are.leads.member ∙ (known_found rack found known failed old mid so are.leads.member t.lead are.leads.is.is).1;
        had = had_then rack old mid new at.finished.tells are.leads.member (header_of t.lead) (had_header rack found known failed old mid so are.leads.member t.lead are.leads.is.is);
      };
      top = subst (λ (n : ℕ). IsSeen rack n old new) (sym at.top_is) (seen_then rack old mid new at.finished.tells top seen);
      pages = pages_now rack found known failed t old mid so are heads top memory new at count;
      written = written_now rack found known failed t old mid so are heads top memory new at count;
      roomy = roomy_now;
      gives = λ told. subst (λ (l : List ℕ). GivesTold rack (record { rack = new; memory = memory; tally = tally }) l (known_at (known_in memory) (rack.bytes old)) (known_at (known_in memory) (rack.bytes new))) (sym e)
          (gives_now rack found known failed t old mid so are heads top memory new at count most told tally);
      spares = λ steady wide within told.
          spares_now rack found known failed t old mid so are heads top memory new at count most (λ q on. told q (within q on)) steady wide within told;
      keeps_none = λ steady. (steady_now steady, λ told. guards_now rack found known failed t old mid so are heads top memory new at count most (known_told told) steady);
      keeps = λ steady kept had. (
        steady_now steady,
        λ told. let is = had told in (
          guards_now rack found known failed t old mid so are heads top memory new at count most (known_told told) steady,
          keeps_now rack found known failed t old mid so are heads top memory new at count most (known_told told) steady kept is.0 is.1,
        ),
      );
    }
      where
        is_known : (q : ℕ) → known_in memory q ≡ flag_in known q
        is_known q = known_is rack found known failed old mid so memory at.known_is count q

        steady_now : rack.steady old → rack.steady new
        steady_now steady = at.finished.steady_on.0 (so.steady_on.0 steady)

        known_told : TellsAll (rack.bytes new) → TellsKnown (known_in memory) (rack.bytes new)
        known_told told q on = told q (known_low rack found known failed old mid so memory at.known_is count q on)
