-- A rack on which no member has a header is seen by the places of all boundaries; the members on which a call failed while headers were read aren't.
use Rattle.std.proofs.Common.{◌≡◌, ◌∙◌, ◌+◌, ◌/◌, ◌<◌, ◌≤◌, ℕ, Bool, true, false, List, [], ◌++◌, ap, arith, inl, inr, length, refl, slice_index, subst, sym}
use Rattle.std.specs.Prelude.{◌&&◌, not, nat_lt, is_some, IfSome, IsSome, None, Option, Some}
use Rattle.std.proofs.lemmas.Bool.{and_parts, false≢true, lt-ltb}
use Rattle.std.proofs.lemmas.Bool.Decides.{nat_tests}
use Rattle.std.proofs.lemmas.List.FromFn.{get_or-range_with_len, length-range_with_len}
use Rattle.dg_io.specs.MadeLaws.{each_such, same_both}
use Rattle.dg_io.specs.Makes.{Makes}
use Rattle.dg_io.specs.MakesLaws.{makes_made}
use Rattle.dg_io.specs.RackCalls.{Each, IsNoBlank, IsNotOn, RackCall, member_of}
use Rattle.dg_io.specs.RackCalls.RackCall.{blanks, calls, extends, looks}
use Rattle.dg_io.specs.RackWords.{After, MadeOnly}
use Rattle.dg_io.specs.Told.{IsSame, StillTold, Told}
use Rattle.dg_io.specs.declared.outside.Rack.{Ghosts}
use Rattle.dg_model.specs.Causes.{Rose}
use Rattle.dg_model.specs.Lives.{all_live, member_at}
use Rattle.dg_model.specs.States.{Counts, CountsRise}
use Rattle.dg_open.specs.Reopenings.{IsCallOfOpening}
use Rattle.dg_regroup.specs.Extras.{extra_bytes}
use Rattle.dg_regroup.specs.FrontLaws.{is_shown, was_shown}
use Rattle.dg_regroup.specs.FrontRacks.{front_room, front_stands, is_front, rack_behind, shown}
use Rattle.dg_regroup.specs.LiveGhosts.{live}
use Rattle.dg_regroup.specs.LiveMade.{is_passed}
use Rattle.dg_regroup.specs.LivePassing.{PassesOn, own_calls, own_writes, passes_on}
use Rattle.dg_regroup.specs.LiveRacks.{is_there, live_in, live_room, rack_in}
use Rattle.dg_regroup.specs.declared.extras.Extra.{Extra}
use Rattle.dg_regroup.specs.declared.live_racks.LiveRack.{LiveRack}
use Rattle.dg_run.proofs.BaseTies.{base_both, base_none, outer_alone, outer_name, outer_plain, outer_rise, plain_counts_of, whole_bytes}
use Rattle.dg_run.proofs.PlainFacts.{SeesNow, SeesPlain}
use Rattle.dg_run.proofs.Seeing.{IsCallAmong, Opened, bytes_at, faults_at, low_there, no_blank, not_on, opened_of}
use Rattle.dg_run.specs.Bases.{Base, IsPlainBase, base, base_bytes, base_counts, outer}
use Rattle.dg_run.specs.Finds.{HasNoHeaders, IsSaid, live_said}
use Rattle.dg_run.specs.Founds.{OpensRack, ShowsBy}
use Rattle.dg_saved.specs.Calls.{Facts}
use Rattle.dg_stop.specs.DoubleOpenings.{AreFailed, Opens, OpensPlain}
use Rattle.dg_stop.specs.FoundHeaders.{IsLook, IsOpening}
use Rattle.dg_stop.specs.Headers.{HasNoHeader, IsBareLabeled, IsLabeled}
use Rattle.dg_stop.specs.Phases.{flag_in}
use Rattle.dg_stop.specs.StopCalls.{behind}
use Rattle.dg_stop.specs.StopRacks.{stop_bytes, stop_room, stop_words}
use Rattle.dg_stop.specs.Ties.{plain_bytes}
use Rattle.dg_stop.specs.declared.stop_racks.StopRack.{StopRack}
use Rattle.dg_stop.specs.declared.stop_racks.StopRack.TheVariants.{Plain}
use Rattle.dg_volume.specs.Opens.{StoodOnce}

-- ---- numbers, and what members show

-- where all boundaries are in use, each of the first members is at its own place
low_place : (q : ℕ) → q < 32 → q / 2 < length (all_live 16)
low_place q low = omega (arith, low, length-range_with_len 0 16)

pub own_number : (q : ℕ) → q < 32 → member_at (all_live 16) q ≡ q
own_number q low =
    let number : slice_index (all_live 16) (q / 2) ≡ 0 + q / 2 = get_or-range_with_len 0 16 (q / 2) 0 (omega (arith, low)) in
    omega (arith, number)

-- a member that shows nothing has no bytes, where they are told
bare_shown : (cut : Bool) (n : Option ℕ) (o i : Option (List ℕ)) → cut ≡ true → n ≡ None → (IsSome o → IsSome i) → Told (λ before after. after ≡ []) i (shown cut n o)
bare_shown true None None i e is told = tt
bare_shown true None (Some all) None e is told = absurd (false≢true (told refl))
bare_shown true None (Some all) (Some old) e is told = refl
bare_shown true (Some n) o i e is told = absurd (cc is)
bare_shown false n o i e is told = absurd (false≢true e)

pub hides : {R : Type 0} (rack : Ghosts R) (it : Base R) (q : ℕ) → is_front it q ≡ true → it.length ≡ None → front_stands (stop_words rack) it q ≡ true → ⊥
hides rack it q front none stands = by (is_front it q) it.length front none stands where
  by : (cut : Bool) (n : Option ℕ) → cut ≡ true → n ≡ None → not (cut && not (is_some n)) && (stop_words rack).stands it.rack q ≡ true → ⊥
  by true None e is h = false≢true h
  by true (Some n) e is h = absurd (cc is)
  by false n e is h = absurd (false≢true e)

some_before : (a b : Option (List ℕ)) → Told IsSame a b → IsSome b → IsSome a
some_before None None same told = told
some_before None (Some b) same told = absurd same
some_before (Some a) b same told = refl

-- no extra bytes say nothing
said_nothing : (said : Option Extra) → IsSaid [] said → said ≡ None
said_nothing None is = refl
said_nothing (Some extra) is = absurd (let size : 0 ≡ length (extra_bytes extra) = ap length is.1 in omega (arith, size))

-- a call by which headers are read isn't on member q from 32 on
beyond : (q : ℕ) → 32 ≤ q → (call : RackCall) → IsOpening call → IsNotOn q call
beyond q past call is = λ same. (let low = is.low in let at = on call is.member is.is in omega (arith, past, low, same, at)) where
  on : (call : RackCall) (m : ℕ) → IsLook m call → member_of call ≡ m
  on call m (inl e) = ap member_of e
  on call m (inr e) = ap member_of e

module _ {R : Type 0} (rack : Ghosts R) (none : (s : R) → rack.made s [] s) (both : (a b c : R) (x y : List RackCall) → rack.made a x b → rack.made b y c → rack.made a (x ++ y) c)
    (law : (a b : R) (made : List RackCall) → rack.made a made b → After rack made a b) (before : R) (start now : LiveRack (Base R)) (extra : List ℕ) (found : OpensRack rack before start extra)
    (mid : R) (at : rack_behind (rack_in start) ≡ Plain mid) (made : Makes (live (base rack)) IsCallOfOpening start now)
    (tells : StillTold ((live (base rack)).bytes start) ((live (base rack)).bytes now)) where
  -- ---- when headers had been read

  opens : OpensPlain rack extra before mid
  opens = subst (λ (s : StopRack R). Opens rack before s extra) at found.opens

  are_failed : AreFailed rack found.failed before mid
  are_failed = subst (λ (s : StopRack R). AreFailed rack found.failed before (behind s)) at found.are_failed

  said_none : found.said ≡ None
  said_none = said_nothing found.said (subst (λ (l : List ℕ). IsSaid l found.said) opens.extra_is found.is_said)

  pub all_in : live_in start ≡ all_live 16
  all_in = found.live_is ∙ ap live_said said_none

  shows : ShowsBy None found.failed (rack_in start)
  shows = subst (λ (o : Option Extra). ShowsBy o found.failed (rack_in start)) said_none found.shows.by

  pub plain_start : IsPlainBase (rack_in start)
  plain_start = record { room = ap stop_room at; length = shows.0; refused = found.shows.refused }

  outer_is : outer (rack_in start) ≡ mid
  outer_is = ap behind at

  -- ---- the calls

  pub opened : Opened (base rack) start now
  opened = opened_of (base rack) start now made

  pub whole : live_in now ≡ all_live 16
  whole = opened.live_is ∙ all_in

  list : MadeOnly (base rack) (IsCallAmong (live_in start)) (rack_in start) (rack_in now)
  list = makes_made (base rack) (IsCallAmong (live_in start)) (base_none rack none) (base_both rack both) (rack_in start) (rack_in now) opened.made

  pub plain_now : IsPlainBase (rack_in now)
  plain_now = outer_plain rack (rack_in start) (rack_in now) list.calls list.made plain_start

  quiet_all : Each IsNoBlank list.calls
  quiet_all = each_such (IsCallAmong (live_in start)) IsNoBlank (no_blank (live_in start)) list.calls list.each

  same_front : (q : ℕ) → is_front (rack_in now) q ≡ is_front (rack_in start) q
  same_front = list.made.same_fronts quiet_all

  -- ---- hidden members

  abbrev pub hidden : ℕ → Bool
  hidden q = nat_lt q 32 && flag_in found.failed q

  hidden_low : (q : ℕ) → hidden q ≡ true → q < 32
  hidden_low q hid = less q (and_parts (nat_lt q 32) (flag_in found.failed q) hid).0 where
    less : (q : ℕ) → nat_lt q 32 ≡ true → q < 32
    less q is = grind (arith, nat_tests)

  hidden_front : (q : ℕ) → hidden q ≡ true → is_front (rack_in start) q ≡ true
  hidden_front q hid = shows.1 q ∙ (and_parts (nat_lt q 32) (flag_in found.failed q) hid).1

  shown_flag : (q : ℕ) → q < 32 → hidden q ≡ false → flag_in found.failed q ≡ false
  shown_flag q low hid = subst (λ (b : Bool). b && flag_in found.failed q ≡ false) (lt-ltb q 32 low) hid

  -- it stands at no moment of the opening
  never : (q : ℕ) → hidden q ≡ true → StoodOnce (live (base rack)) start q → ⊥
  never q hid once =
      let part = opened_of (base rack) start once.mid once.made in
      let through = makes_made (base rack) (IsCallAmong (live_in start)) (base_none rack none) (base_both rack both) (rack_in start) (rack_in once.mid) part.made in
      let quiet = each_such (IsCallAmong (live_in start)) IsNoBlank (no_blank (live_in start)) through.calls through.each in
      hides rack (rack_in once.mid) q (through.made.same_fronts quiet q ∙ hidden_front q hid) (through.made.length ∙ shows.0)
      (stands_at once.mid (part.live_is ∙ all_in) q (hidden_low q hid) once.stands) where
        here : (it : LiveRack (Base R)) (q : ℕ) → is_there (live_in it) q ≡ true → (live (base rack)).stands it q ≡ true → front_stands (stop_words rack) (rack_in it) (member_at (live_in it) q) ≡ true
        here it q there stands = rw there at stands

        stands_at : (it : LiveRack (Base R)) → live_in it ≡ all_live 16 → (q : ℕ) → q < 32 → (live (base rack)).stands it q ≡ true → front_stands (stop_words rack) (rack_in it) q ≡ true
        stands_at it all q low stands =
            let there : is_there (live_in it) q ≡ true = subst (λ (l : List ℕ). is_there l q ≡ true) (sym all) (low_there (all_live 16) q (low_place q low)) in
            subst (λ (n : ℕ). front_stands (stop_words rack) (rack_in it) n ≡ true) (ap (λ (l : List ℕ). member_at l q) all ∙ own_number q low) (here it q there stands)

  -- ---- the rack of the run, and what is seen of it

  start_counts : base_counts rack (rack_in start) ≡ rack.counts mid
  start_counts = plain_counts_of rack (rack_in start) plain_start ∙ ap rack.counts outer_is

  own_bytes : (it : LiveRack (Base R)) → live_in it ≡ all_live 16 → (q : ℕ) → q < 32 → (live (base rack)).bytes it q ≡ base_bytes rack (rack_in it) q
  own_bytes it all q low = bytes_at (base rack) it (all_live 16) all q (low_place q low) ∙ ap (λ (n : ℕ). base_bytes rack (rack_in it) n) (own_number q low)

  own_faults : (it : LiveRack (Base R)) → live_in it ≡ all_live 16 → (q : ℕ) → q < 32 → ((live (base rack)).counts it).faults q ≡ (base_counts rack (rack_in it)).faults q
  own_faults it all q low = faults_at (base rack) it (all_live 16) all q (low_place q low) ∙ ap (λ (n : ℕ). (base_counts rack (rack_in it)).faults n) (own_number q low)

  first_faults : (q : ℕ) → q < 32 → ((live (base rack)).counts start).faults q ≡ (rack.counts mid).faults q
  first_faults q low = own_faults start all_in q low ∙ ap (λ (c : Counts). c.faults q) start_counts

  -- a member that is hidden is seen to have no bytes
  bare_at : (it : LiveRack (Base R)) → live_in it ≡ all_live 16 → (q : ℕ) → q < 32 → is_front (rack_in it) q ≡ true → IsPlainBase (rack_in it) → (i : Option (List ℕ))
      → (IsSome (rack.bytes (outer (rack_in it)) q) → IsSome i) → Told (λ before after. after ≡ []) i ((live (base rack)).bytes it q)
  bare_at it all q low front plain i told =
      subst (λ (o : Option (List ℕ)). Told (λ before after. after ≡ []) i o) (sym (own_bytes it all q low))
      (bare_shown (is_front (rack_in it) q) (rack_in it).length (stop_bytes rack (rack_behind (rack_in it)) q) i front plain.length
      (λ some. told (subst (λ (o : Option (List ℕ)). IsSome o) (ap (λ (bytes : ℕ → Option (List ℕ)). bytes q) (plain_bytes rack (rack_behind (rack_in it)) plain.room)) some)))

  -- one that isn't is seen to have those of the rack of the run
  shown_at : (it : LiveRack (Base R)) → live_in it ≡ all_live 16 → (q : ℕ) → q < 32 → is_front (rack_in it) q ≡ false → IsPlainBase (rack_in it)
      → (live (base rack)).bytes it q ≡ rack.bytes (outer (rack_in it)) q
  shown_at it all q low front plain = own_bytes it all q low ∙ whole_bytes rack (rack_in it) q front plain

  module _ (counts : Counts) (bytes : ℕ → Option (List ℕ)) (later : (q : ℕ) → IsSome (bytes q) → IsSome (base_bytes rack (rack_in now) q)) (taken given : Option (List ℕ)) where
    -- what is met of the rack of the run, up to some later moment, and what is seen of it
    abbrev pub met : Facts
    met = record {
      before = rack.counts before;
      now = counts;
      images = rack.bytes before;
      bytes = bytes;
      extra = [];
      room = None;
      taken = taken;
      given = given;
    }

    abbrev pub seen : Facts
    seen = record {
      before = (live (base rack)).counts start;
      now = (live (base rack)).counts now;
      images = (live (base rack)).bytes start;
      bytes = (live (base rack)).bytes now;
      extra = extra;
      room = live_room (front_room stop_room) start;
      taken = taken;
      given = given;
    }

    told_now : (q : ℕ) → q < 32 → IsSome (bytes q) → IsSome ((live (base rack)).bytes now q)
    told_now q low some = subst (λ (o : Option (List ℕ)). IsSome o) (sym (own_bytes now whole q low)) (later q some)

    pub sees : SeesPlain (StoodOnce (live (base rack)) start) seen met
    sees = record {
      hidden = hidden;
      never = never;
      failed = λ q hid. subst (λ (n : ℕ). Rose ((rack.counts before).faults q) n) (sym (first_faults q (hidden_low q hid)))
          (are_failed.rose q (and_parts (nat_lt q 32) (flag_in found.failed q) hid).1);
      begun = λ q low shown. first_faults q low ∙ are_failed.quiet q (shown_flag q low shown);
      rise = λ q low. (let same = first_faults q low in let up = opens.leaves.rise.faults q in omega (arith, same, up));
      calls = (let up = opens.leaves.rise.calls in let same = ap (λ (c : Counts). c.calls) start_counts in let own = found.none.calls in omega (arith, up, same, own));
      writes = (let same = ap (λ (c : Counts). c.writes) start_counts in let own = found.none.writes in omega (arith, same, own)) ∙ opens.writes;
      same = λ q low shown.
          subst (λ (o : Option (List ℕ)). Told IsSame (rack.bytes before q) o)
          (sym (shown_at start all_in q low (shows.1 q ∙ shown_flag q low shown) plain_start ∙ ap (λ (r : R). rack.bytes r q) outer_is)) (opens.same q);
      bare = λ q hid.
          bare_at start all_in q (hidden_low q hid) (hidden_front q hid) plain_start (rack.bytes before q)
          (λ some. some_before (rack.bytes before q) (rack.bytes mid q) (opens.same q) (subst (λ (r : R). IsSome (rack.bytes r q)) outer_is some));
      told = told_now;
      still = tells;
      extra = opens.extra_is;
      none = refl;
      room = ap stop_room at;
    }

    -- no known member had a header
    pub no_headers : CountsRise (rack.counts mid) counts → HasNoHeaders met
    no_headers rise = record {
      known = opens.known;
      are = record {
        low = opens.leaves.low;
        lost = λ q low unknown. elim (opens.leaves.lost q low unknown) [
          | inl fell ↦ inl (let up = opens.leaves.rose q fell in let on = rise.faults q in omega (arith, up, on))
          | inr labeled ↦ inr (none_at IsLabeled (rack.bytes before q) (rack.bytes mid q) (bytes q) (opens.same q) (told_mid q low) labeled.labeled)
        ];
        bare = λ q known. told_then (λ all. IsBareLabeled q all) (rack.bytes before q) (rack.bytes mid q) (bytes q) (opens.leaves.bare q known) (told_mid q (opens.leaves.low q known));
      };
      none = λ q known. none_at (HasNoHeader q) (rack.bytes before q) (rack.bytes mid q) (bytes q) (opens.same q) (told_mid q (opens.leaves.low q known)) (opens.none q known);
    } where
      told_mid : (q : ℕ) → q < 32 → IsSome (bytes q) → IsSome (rack.bytes mid q)
      told_mid q low some =
          let first : IsSome (base_bytes rack (rack_in start) q) = subst (λ (o : Option (List ℕ)). IsSome o) (own_bytes start all_in q low) (tells q (told_now q low some)) in
          let under = was_shown (is_front (rack_in start) q) (rack_in start).length (stop_bytes rack (rack_behind (rack_in start)) q) first in
          subst (λ (s : StopRack R). IsSome (stop_bytes rack s q)) at under

      none_at : (P : List ℕ → Type 0) (a b c : Option (List ℕ)) → Told IsSame a b → (IsSome c → IsSome b) → IfSome b P → Told (λ before after. P before) a c
      none_at P a b None same told h = tt
      none_at P a None (Some c) same told h = absurd (false≢true (told refl))
      none_at P None (Some b) (Some c) same told h = absurd same
      none_at P (Some a) (Some b) (Some c) same told h = subst P same h

      told_then : (P : List ℕ → Type 0) (a b c : Option (List ℕ)) → Told (λ before after. P before) a b → (IsSome c → IsSome b) → Told (λ before after. P before) a c
      told_then P a b None h told = tt
      told_then P a None (Some c) h told = absurd (false≢true (told refl))
      told_then P None (Some b) (Some c) h told = absurd h
      told_then P (Some a) (Some b) (Some c) h told = h

  -- ---- at the same moment

  -- what the members that aren't seen have become
  pub outer_rises : CountsRise (rack.counts mid) (rack.counts (outer (rack_in now)))
  outer_rises = subst (λ (r : R). CountsRise (rack.counts r) (rack.counts (outer (rack_in now)))) outer_is (outer_rise rack law (rack_in start) (rack_in now) list.calls list.made)

  -- it is the same rack
  pub name_is : rack.name (outer (rack_in now)) ≡ rack.name before
  name_is = outer_name rack law (rack_in start) (rack_in now) list.calls list.made ∙ ap rack.name outer_is ∙ opens.leaves.same_rack

  same_unseen : (q : ℕ) → hidden q ≡ true → Told IsSame (rack.bytes before q) (rack.bytes (outer (rack_in now)) q)
  same_unseen q hid =
      let front = hidden_front q hid in
      let kept = list.made.unseen shows.0 q front (same_front q ∙ front) in
      let first : stop_bytes rack (rack_behind (rack_in start)) q ≡ rack.bytes mid q = ap (λ (s : StopRack R). stop_bytes rack s q) at in
      let last : stop_bytes rack (rack_behind (rack_in now)) q ≡ rack.bytes (outer (rack_in now)) q =
      ap (λ (bytes : ℕ → Option (List ℕ)). bytes q) (plain_bytes rack (rack_behind (rack_in now)) plain_now.room) in
      same_both (rack.bytes before q) (rack.bytes mid q) (rack.bytes (outer (rack_in now)) q) (opens.same q)
      (subst (λ (o : Option (List ℕ)). Told IsSame o (rack.bytes (outer (rack_in now)) q)) first (subst (λ (o : Option (List ℕ)). Told IsSame (stop_bytes rack (rack_behind (rack_in start)) q) o) last kept))

  headers : MadeOnly rack IsOpening before mid
  headers = makes_made rack IsOpening none both before mid opens.leaves.made

  past_on : (q : ℕ) → 32 ≤ q → (call : RackCall) → IsCallAmong (live_in start) call → IsNotOn q call
  past_on q past = not_on (live_in start) q (λ x low same. (
      let few : length (live_in start) ≡ 16 = ap length all_in ∙ length-range_with_len 0 16 in
      let number : slice_index (live_in start) x ≡ 0 + x = ap (λ (l : List ℕ). slice_index l x) all_in ∙ get_or-range_with_len 0 16 x 0 (omega (arith, low, few)) in
      omega (arith, past, low, few, number, same)))

  past_alone : (q : ℕ) → 32 ≤ q → Told IsSame (rack.bytes before q) (rack.bytes (outer (rack_in now)) q) × ((rack.counts (outer (rack_in now))).faults q ≡ (rack.counts before).faults q)
  past_alone q past =
      let first = law before mid headers.calls headers.made in
      let off = each_such IsOpening (IsNotOn q) (beyond q past) headers.calls headers.each in
      let alone = outer_alone rack law (rack_in start) (rack_in now) list.calls list.made q (each_such (IsCallAmong (live_in start)) (IsNotOn q) (past_on q past) list.calls list.each) in (
        same_both (rack.bytes before q) (rack.bytes mid q) (rack.bytes (outer (rack_in now)) q) (first.other_bytes q off)
            (subst (λ (r : R). Told IsSame (rack.bytes r q) (rack.bytes (outer (rack_in now)) q)) outer_is alone.bytes),
        alone.faults ∙ ap (λ (r : R). (rack.counts r).faults q) outer_is ∙ first.other_faults q off,
      )

  now_counts : base_counts rack (rack_in now) ≡ rack.counts (outer (rack_in now))
  now_counts = plain_counts_of rack (rack_in now) plain_now

  -- what is told in the end is told of what is seen
  pub later_same : (q : ℕ) → IsSome (rack.bytes (outer (rack_in now)) q) → IsSome (base_bytes rack (rack_in now) q)
  later_same q some =
      is_shown (is_front (rack_in now) q) (rack_in now).length (stop_bytes rack (rack_behind (rack_in now)) q)
      (subst (λ (o : Option (List ℕ)). IsSome o) (sym (ap (λ (bytes : ℕ → Option (List ℕ)). bytes q) (plain_bytes rack (rack_behind (rack_in now)) plain_now.room))) some)

  -- each call was on a member that is there
  there_first : (q : ℕ) → q < 32 → is_there (live_in start) q ≡ true
  there_first q low = subst (λ (l : List ℕ). is_there l q ≡ true) (sym all_in) (low_there (all_live 16) q (low_place q low))

  passed : (call : RackCall) → IsCallOfOpening call → is_passed (live_in start) call ≡ true
  passed (looks q) low = there_first q low
  passed (blanks q) low = absurd low
  passed (calls q) low = there_first q low
  passed (extends q) low = absurd low

  own : PassesOn (base rack) (λ call. Unit {0}) start now
  own = passes_on (base rack) IsCallOfOpening (λ call. Unit {0}) start now passed (λ call low. tt) made

  pub own_none : (own_calls now ≡ 0) × (own_writes now ≡ 0)
  own_none = (own.calls ∙ found.none.calls, own.writes ∙ found.none.writes)

  module _ (taken given : Option (List ℕ)) where
    pub sees_now : SeesNow (StoodOnce (live (base rack)) start) (seen (rack.counts (outer (rack_in now))) (rack.bytes (outer (rack_in now))) later_same taken given)
        (met (rack.counts (outer (rack_in now))) (rack.bytes (outer (rack_in now))) later_same taken given)
    unfolding sees
    sees_now = record {
      sees = sees (rack.counts (outer (rack_in now))) (rack.bytes (outer (rack_in now))) later_same taken given;
      now = record {
        faults = λ q low. sym (own_faults now whole q low ∙ ap (λ (c : Counts). c.faults q) now_counts);
        calls = (let same = ap (λ (c : Counts). c.calls) now_counts in let none = own_none.0 in omega (arith, same, none));
        writes = (let same = ap (λ (c : Counts). c.writes) now_counts in let none = own_none.1 in omega (arith, same, none));
        past = λ q past. (past_alone q past).1;
      };
      bytes = λ q low hid. shown_at now whole q low (same_front q ∙ shows.1 q ∙ shown_flag q low hid) plain_now;
      bare = λ q hid. bare_at now whole q (hidden_low q hid) (same_front q ∙ hidden_front q hid) plain_now (rack.bytes (outer (rack_in now)) q) (λ some. some);
      kept = same_unseen;
      past = λ q past. (past_alone q past).0;
    }
