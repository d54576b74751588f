-- What an opening gives where no header is committed: a plain rack, or a double one without members.
use Rattle.std.proofs.Common.{◌≡◌, ◌≤◌, ◌<◌, ◌++◌, ℕ, Bool, true, List, [], length, refl, sym, ◌∙◌, ap, arith, inl, inr, subst}
use Rattle.std.specs.Prelude.{Option, Some, None, IfSome}
use Rattle.std.proofs.lemmas.Bool.{false≢true}
use Rattle.std.proofs.lemmas.Option.{slice_get_past}
use Rattle.dg_io.specs.Kept.{Kept}
use Rattle.dg_io.specs.RackCalls.{RackCall}
use Rattle.dg_io.specs.RackWords.{After}
use Rattle.dg_io.specs.Told.{IsSame, Told}
use Rattle.dg_io.specs.declared.outside.Rack.{Ghosts}
use Rattle.dg_stop.proofs.AttachLemmas.{flag_low}
use Rattle.dg_stop.proofs.FoundKnown.{code_of, in_of, known_is, known_low}
use Rattle.dg_stop.proofs.Frames.{told_same_pages}
use Rattle.dg_stop.proofs.Keeping.{anchored_none}
use Rattle.dg_stop.proofs.OneCommit.{lt_or, same_at}
use Rattle.dg_stop.proofs.Opening.{opening_kept}
use Rattle.dg_stop.proofs.OpenedRack.{leaves_opening}
use Rattle.dg_stop.proofs.ReadLemmas.{had_bare, had_header, known_in as known_found}
use Rattle.dg_stop.proofs.Reopening.{none_reopened}
use Rattle.dg_stop.specs.DoubleOpenings.{AreFailed, AttachesNone, GivesTold, LeavesOpening, MayUpgrade, OpensDouble, OpensPlain}
use Rattle.dg_stop.specs.Doubles.{AreHeld, GuardsAll, HasNoCalls, KeepsAll, fell_in, known_in, sizes_in, stands_in}
use Rattle.dg_stop.specs.FoundHeaders.{AreFound, AreHeadersOf, IsIn, found_at}
use Rattle.dg_stop.specs.Headers.{HasHeader, HasNoHeader}
use Rattle.dg_stop.specs.Layouts.{table_size}
use Rattle.dg_stop.specs.Leads.{IsLead}
use Rattle.dg_stop.specs.Phases.{TellsAll, TellsKnown, flag_in, known_at, size_of}
use Rattle.dg_stop.specs.Readings.{FoundSome, IsSeen}
use Rattle.dg_stop.specs.Reopens.{NoneCommitted, Reopened}
use Rattle.dg_stop.specs.Values.{header_of}
use Rattle.dg_stop.specs.declared.found_headers.Found.{Found}
use Rattle.dg_stop.specs.declared.headers.Header.{Header}
use Rattle.dg_stop.specs.declared.memories.Memory.{Memory}
use Rattle.dg_stop.specs.declared.tallies.Tally.{Tally}

pub are_failed : {S : Type 0} (rack : Ghosts S) (known : ℕ → Bool) (failed : List Bool) (old new : S) → LeavesOpening rack known (flag_in failed) old new → AreFailed rack failed old new
are_failed rack known failed old new leaves = record { rose = leaves.rose; quiet = leaves.quiet }

module _ {S : Type 0} (rack : Ghosts S) (found : List Found) (known failed : List Bool) (old mid : S) (so : AreFound rack 32 found known failed old mid)
    (none : (s : S) → rack.made s [] s) (both : (x y z : S) (k l : List RackCall) → rack.made x k y → rack.made y l z → rack.made x (k ++ l) z)
    (laws : (x y : S) (k : List RackCall) → rack.made x k y → After rack k x y) where
  failed_low : (q : ℕ) → flag_in failed q ≡ true → q < 32
  failed_low q on = elim (lt_or q 32) [
    | inl low ↦ low
    | inr high ↦ absurd (false≢true (sym (so.unfailed q high) ∙ on))
  ]

  same_read_at : (q : ℕ) → Told IsSame (rack.bytes old q) (rack.bytes mid q)
  same_read_at q = elim (lt_or q 32) [ inl low ↦ (so.below q low).same | inr high ↦ (so.rest q high).same ]

  -- nothing was written
  looked_leaves : (knows fell : ℕ → Bool) → ((q : ℕ) → knows q ≡ flag_in known q) → ((q : ℕ) → knows q ≡ true → q < 32) → ((q : ℕ) → fell q ≡ flag_in failed q) → LeavesOpening rack knows fell old mid
  looked_leaves knows fell is low fell_is = leaves_opening rack none both laws knows fell old mid so.made so.tells low
      (λ q under out. elim ((so.below q under).lost (sym (is q) ∙ out)) [
        | inl marked ↦ inl (fell_is q ∙ marked)
        | inr labeled ↦ inr (record { same = same_read_at q; labeled = labeled })
      ])
      (λ q on. had_bare rack found known failed old mid so q (low q on) (sym (is q) ∙ on))
      (λ q on. let marked : flag_in failed q ≡ true = sym (fell_is q) ∙ on in (so.below q (failed_low q marked)).rose marked)
      (λ q near. elim (lt_or q 32) [
        | inl under ↦ (so.below q under).quiet (sym (fell_is q) ∙ near)
        | inr high ↦ (so.rest q high).faults
      ])

  -- ---- a plain rack

  module _ (count : length known ≡ 32) where
    leaves_plain : LeavesOpening rack (flag_in known) (flag_in failed) old mid
    leaves_plain = looked_leaves (flag_in known) (flag_in failed) (λ q. refl) (flag_low known count) (λ q. refl)

    pub plain_failed : AreFailed rack failed old mid
    plain_failed = are_failed rack (flag_in known) failed old mid leaves_plain

    module _ (bare : (q : ℕ) (h : Header) → IsIn h (found_at found q) → ⊥) where
      no_header : (q : ℕ) (x : Option (List ℕ)) → IfSome x (AreHeadersOf q (found_at found q)) → IfSome x (HasNoHeader q)
      no_header q None are = tt
      no_header q (Some all) are = λ v has. bare q (code_of v) ((are (code_of v)).1 has)

      pub opens_plain : OpensPlain rack [] old mid
      opens_plain = record {
        known = flag_in known;
        fell = flag_in failed;
        leaves = leaves_plain;
        same = same_read_at;
        writes = so.writes;
        none = λ q on. no_header q (rack.bytes mid q) ((so.below q (flag_low known count q on)).on on).headers;
        extra_is = refl;
      }

  -- ---- a double one without members

  module _ (top : ℕ) (memory : Memory) (at : AttachesNone known failed top memory) (count : length known ≡ 32) (leads : IsLead found None) where
    absent : (q : ℕ) → sizes_in memory q ≡ 0
    absent q = ap size_of (slice_get_past memory.current.items q (omega (arith, at.current)))

    stands_not : (q : ℕ) → stands_in memory q ≡ true → ⊥
    stands_not q on = false≢true (sym (at.stands q) ∙ on)

    pub held_none : AreHeld rack memory mid
    held_none = record {
      sized = λ q on. absurd (stands_not q on);
      bare = λ q out near. absent q;
      paired = λ q on. absurd (stands_not q on);
      few = omega (arith, at.current);
    }

    same_may : (c q : ℕ) (x y : Option (List ℕ)) → Told IsSame x y → Told (MayUpgrade c q) x y
    same_may c q x None same = tt
    same_may c q None (Some b) same = absurd same
    same_may c q (Some a) (Some b) same = inl same

    module _ (told : TellsKnown (known_in memory) (rack.bytes mid)) where
      none_before : NoneCommitted (known_at (known_in memory) (rack.bytes old))
      none_before q v has mark =
          let is = in_of rack found known failed old mid so memory at.known_is count told q v has in
          leads q (code_of v) (record { low = known_low rack found known failed old mid so memory at.known_is count q is.0; is = is.1 }) mark

      same_known : (q : ℕ) → known_at (known_in memory) (rack.bytes mid) q ≡ known_at (known_in memory) (rack.bytes old) q
      same_known q = same_at (known_in memory) q (rack.bytes old q) (rack.bytes mid q) (same_read_at q) (told q)

      none_after : NoneCommitted (known_at (known_in memory) (rack.bytes mid))
      none_after q v has mark = none_before q v (subst (λ (l : List ℕ). HasHeader q l v) (same_known q) has) mark

      reopened_now : (kept : Kept) → Reopened (known_at (known_in memory) (rack.bytes old)) kept → Reopened (known_at (known_in memory) (rack.bytes mid)) kept
      reopened_now kept had = none_reopened (known_at (known_in memory) (rack.bytes old)) (known_at (known_in memory) (rack.bytes mid)) none_before none_after kept had

      gives_none : ((q : ℕ) (h : Header) → IsIn h (found_at found q) → h.sequence ≤ top) → (tally : Tally) → GivesTold rack (record { rack = mid; memory = memory; tally = tally }) [] (known_at (known_in memory) (rack.bytes old)) (known_at (known_in memory) (rack.bytes mid))
      gives_none most tally = record {
        most = λ q v has. omega (arith, at.top_is, most q (code_of v) (in_of rack found known failed old mid so memory at.known_is count told q v has).1);
        nothing = λ none. record { stands = at.stands; room = at.room; commit = at.commit; extra_is = refl };
        last = λ c q lead last leads. absurd (none_before last.member last.header last.is.has last.is.mark);
        kept = λ kept had. record {
          extra_is = sym (had.nothing none_before).1;
          entries = λ q on. absurd (stands_not q on);
          none = λ q out near. (had.nothing none_before).0 q;
        };
        stays = λ steady kept had. reopened_now kept had;
      }

      guards_none : ((q : ℕ) (h : Header) → IsIn h (found_at found q) → h.sequence ≤ top) → GuardsAll memory (known_at (known_in memory) (rack.bytes mid))
      guards_none most = record {
        guarded = record {
          seen = λ q v has.
              let is = in_of rack found known failed old mid so memory at.known_is count told q v (subst (λ (l : List ℕ). HasHeader q l v) (same_known q) has) in
              omega (arith, at.top_is, most q (code_of v) is.1);
          size = λ q h on has e. absurd (stands_not q on);
          room_is = λ q h on has e. absurd (stands_not q on);
          mark = λ q h on has e. absurd (stands_not q on);
          named = λ q h on has e. absurd (stands_not q on);
          later = λ q h on has. absurd (stands_not q on);
        };
        low = omega (arith, at.commit);
        known = λ q on. absurd (stands_not q on);
        numbers = known_low rack found known failed old mid so memory at.known_is count;
      }

      keeps_none : (kept : Kept) → Reopened (known_at (known_in memory) (rack.bytes old)) kept → KeepsAll memory (known_at (known_in memory) (rack.bytes mid)) kept
      keeps_none kept had = record {
        fresh = inl none_after;
        reopened = reopened_now kept had;
        anchored = anchored_none (stands_in memory) (known_at (known_in memory) (rack.bytes mid)) kept none_after;
      }

    known_told : TellsAll (rack.bytes mid) → TellsKnown (known_in memory) (rack.bytes mid)
    known_told told q on = told q (known_low rack found known failed old mid so memory at.known_is count q on)

    module _ (most : (q : ℕ) (h : Header) → IsIn h (found_at found q) → h.sequence ≤ top) (seen : IsSeen rack top old mid) (some : FoundSome found) where
      pub opens_none : (tally : Tally) → HasNoCalls tally → OpensDouble rack old (record { rack = mid; memory = memory; tally = tally }) []
      opens_none tally calls = record {
        leaves = looked_leaves (known_in memory) (fell_in memory) (known_is rack found known failed old mid so memory at.known_is count) (known_low rack found known failed old mid so memory at.known_is count) (λ q. ap (λ (l : List Bool). flag_in l q) at.fell);
        tally = calls;
        standing = λ q on. absurd (stands_not q on);
        bare = λ q out near. absent q;
        some = record {
          member = some.member;
          header = header_of some.header;
          is_known = known_is rack found known failed old mid so memory at.known_is count some.member ∙ (known_found rack found known failed old mid so some.member some.header some.is).1;
          had = had_header rack found known failed old mid so some.member some.header some.is;
        };
        top = subst (λ (n : ℕ). IsSeen rack n old mid) (sym at.top_is) seen;
        pages = λ q. told_same_pages (table_size (sizes_in memory q) memory.room) (rack.bytes old q) (rack.bytes mid q) (same_read_at q);
        written = λ steady q. same_may memory.commit q (rack.bytes old q) (rack.bytes mid q) (same_read_at q);
        roomy = λ p q r on other pair long. stands_not p on;
        gives = λ told. gives_none told most tally;
        spares = λ steady wide within told.
            let same : (q : ℕ) → known_at wide (rack.bytes mid) q ≡ known_at wide (rack.bytes old) q = λ q. same_at wide q (rack.bytes old q) (rack.bytes mid q) (same_read_at q) (told q) in
            record {
              nothing = λ none kept had.
                  none_reopened (known_at wide (rack.bytes old)) (known_at wide (rack.bytes mid)) none (λ q v has mark. none q v (subst (λ (l : List ℕ). HasHeader q l v) (same q) has) mark) kept had;
              last = λ says c first lead last leads kept had.
                  (opening_kept c lead (known_at wide (rack.bytes old)) (known_at wide (rack.bytes mid)) (λ q. inl (same q)) first last leads kept had).1;
            };
        keeps_none = λ steady. (so.steady_on.0 steady, λ told. guards_none (known_told told) most);
        keeps = λ steady kept had. (so.steady_on.0 steady, λ told. (guards_none (known_told told) most, keeps_none (known_told told) kept (had told).0));
      }
