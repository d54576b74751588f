-- A command on the array that was saved ends by what it finds on the rack of the run.
use Rattle.std.proofs.Common.{◌≡◌, ◌∙◌, ◌/◌, ◌<◌, ℕ, Bool, true, List, [], ◌++◌, ap, arith, inl, inr, length, refl, subst, sym}
use Rattle.std.specs.Prelude.{None, Option}
use Rattle.std.proofs.lemmas.Bool.Decides.{nat_tests}
use Rattle.std.proofs.lemmas.List.FromFn.{length-range_with_len}
use Rattle.dg_io.specs.Makes.{Makes}
use Rattle.dg_io.specs.RackCalls.{RackCall}
use Rattle.dg_io.specs.RackWords.{After}
use Rattle.dg_io.specs.Told.{StillTold}
use Rattle.dg_io.specs.declared.outside.Rack.{Ghosts}
use Rattle.dg_model.specs.Lives.{all_live, member_at}
use Rattle.dg_model.specs.States.{Counts, CountsRise}
use Rattle.dg_model.specs.declared.events.Event.{Event}
use Rattle.dg_model.specs.declared.replies.Reply.{Reply}
use Rattle.dg_open.specs.Reopenings.{IsCallOfOpening}
use Rattle.dg_regroup.specs.FrontRacks.{front_room, rack_behind}
use Rattle.dg_regroup.specs.LiveGhosts.{live}
use Rattle.dg_regroup.specs.LiveRacks.{is_there, live_in, live_room, rack_in}
use Rattle.dg_regroup.specs.declared.extras.Extra.{Extra}
use Rattle.dg_regroup.specs.declared.live_racks.LiveRack.{LiveRack}
use Rattle.dg_run.proofs.BaseTies.{some_base, told_outer}
use Rattle.dg_run.proofs.FoundKept as kept
use Rattle.dg_run.proofs.FoundPlain as plain
use Rattle.dg_run.proofs.PlainEnds.{IsReading, event_ends, status_ends}
use Rattle.dg_run.specs.Bases.{Base, base, outer}
use Rattle.dg_run.specs.Finds.{Finds, FindsKept, FindsPlain, tells_seen}
use Rattle.dg_run.specs.Founds.{OpensRack}
use Rattle.dg_saved.specs.Calls.{Facts}
use Rattle.dg_saved.specs.Ends.{EndsEvent, EndsStatus, EventOnce, StatusOnce}
use Rattle.dg_saved.specs.declared.ends.SavedEnd.{SavedEnd}
use Rattle.dg_stop.specs.Doubles.{Double}
use Rattle.dg_stop.specs.StopCalls.{behind}
use Rattle.dg_stop.specs.StopRacks.{stop_room, stop_tells}
use Rattle.dg_stop.specs.declared.stop_racks.StopRack.{StopRack}
use Rattle.dg_stop.specs.declared.stop_racks.StopRack.TheVariants.{Doubled, Plain}
use Rattle.dg_volume.specs.Opens.{StoodOnce}

module _ {R : Type 0} (rack : Ghosts R) (none : (s : R) → rack.made s [] s) (both : (a b c : R) (x y : List RackCall) → rack.made a x b → rack.made b y c → rack.made a (x ++ y) c)
    (law : (a b : R) (made : List RackCall) → rack.made a made b → After rack made a b)
    (before : R) (start now : LiveRack (Base R)) (extra : List ℕ) (found : OpensRack rack before start extra) (made : Makes (live (base rack)) IsCallOfOpening start now)
    (still : StillTold ((live (base rack)).bytes start) ((live (base rack)).bytes now)) (taken given : Option (List ℕ)) where
  abbrev now_tells : ℕ → Type 0
  now_tells = rack.tells (outer (rack_in now))

  abbrev pub seen : Facts
  seen = record {
    before = (live (base rack)).counts start;
    now = (live (base rack)).counts now;
    images = (live (base rack)).bytes start;
    bytes = (live (base rack)).bytes now;
    extra = extra;
    room = live_room (front_room stop_room) start;
    taken = taken;
    given = given;
  }

  abbrev pub met : Facts
  met = record {
    before = rack.counts before;
    now = rack.counts (outer (rack_in now));
    images = rack.bytes before;
    bytes = rack.bytes (outer (rack_in now));
    extra = [];
    room = None;
    taken = taken;
    given = given;
  }

  -- ---- no member has a header

  module _ (mid : R) (at : rack_behind (rack_in start) ≡ Plain mid) where
    -- what the rack of the run tells it tells of what is seen
    each : (q : ℕ) → now_tells q → (live (base rack)).tells now q
    each q tells there =
        let all = plain.whole rack none both law before start now extra found mid at made still in
        let low : q < 32 = low_of q (subst (λ (l : List ℕ). is_there l q ≡ true) all there) in
        let number : member_at (live_in now) q ≡ q = ap (λ (l : List ℕ). member_at l q) all ∙ plain.own_number q low in
        told_outer rack (rack_in now) (member_at (live_in now) q) (subst (λ (n : ℕ). now_tells n) (sym number) tells) where
          low_of : (q : ℕ) → is_there (all_live 16) q ≡ true → q < 32
          low_of q there = let size = length-range_with_len 0 16 in let low : q / 2 < length (all_live 16) = grind (arith, nat_tests) in omega (arith, size, low)

    event_plain : (event : Event) (text : Reply → List ℕ) (gives : Reply → Bool) (end : SavedEnd) → IsReading event → EventOnce (live (base rack)) start now seen event text gives end
        → FindsPlain met (EndsEvent now_tells met event text gives end)
    event_plain event text gives end reading h = record {
      none = plain.no_headers rack none both law before start now extra found mid at made still (rack.counts (outer (rack_in now))) (rack.bytes (outer (rack_in now)))
          (plain.later_same rack none both law before start now extra found mid at made still) taken given (plain.outer_rises rack none both law before start now extra found mid at made still);
      ends = event_ends (StoodOnce (live (base rack)) start) seen met (plain.sees_now rack none both law before start now extra found mid at made still taken given) now_tells ((live (base rack)).tells now) each
          refl refl event text gives reading end h.0 h.1;
    }

    status_plain : (end : SavedEnd) → StatusOnce (live (base rack)) start now seen end → FindsPlain met (EndsStatus now_tells met end)
    status_plain end h = record {
      none = plain.no_headers rack none both law before start now extra found mid at made still (rack.counts (outer (rack_in now))) (rack.bytes (outer (rack_in now)))
          (plain.later_same rack none both law before start now extra found mid at made still) taken given (plain.outer_rises rack none both law before start now extra found mid at made still);
      ends = status_ends (StoodOnce (live (base rack)) start) seen met (plain.sees_now rack none both law before start now extra found mid at made still taken given) now_tells ((live (base rack)).tells now) each
          refl refl end h.0 h.1;
    }

  -- ---- one has

  module _ (d : Double R) (at : rack_behind (rack_in start) ≡ Doubled d) where
    -- what is told of what is seen
    by_seen : (P : (ℕ → Type 0) → Type 0) → P ((live (base rack)).tells now) → P (tells_seen now_tells found.said)
    by_seen P h =
        let same = kept.live_now rack none both law before start now extra found d at made still in
        let first : P (λ q. is_there (kept.numbers rack none both law before start now extra found d at made still) q ≡ true
        → (base rack).tells (rack_in now) (member_at (kept.numbers rack none both law before start now extra found d at made still) q)) =
        subst (λ (l : List ℕ). P (λ q. is_there l q ≡ true → (base rack).tells (rack_in now) (member_at l q))) same h in
        behind_is (rack_behind (rack_in now)) P first where
          behind_is : (s : StopRack R) (P : (ℕ → Type 0) → Type 0)
              → P (λ q. is_there (kept.numbers rack none both law before start now extra found d at made still) q ≡ true
              → stop_tells rack s (member_at (kept.numbers rack none both law before start now extra found d at made still) q))
              → P (tells_seen (rack.tells (behind s)) found.said)
          behind_is (Plain s) P h = h
          behind_is (Doubled s) P h = h

    rises_none : (c : Counts) → CountsRise c c
    rises_none c = record { faults = λ q. omega arith; calls = omega arith; writes = omega arith }

    pub found_kept : (by : (ℕ → Type 0) → Facts → Type 0) → by ((live (base rack)).tells now) seen → FindsKept now_tells met by
    found_kept by h = record {
      seen = seen;
      sees = kept.sees rack none both law before start now extra found d at made still (rack.counts (outer (rack_in now))) (rack.bytes (outer (rack_in now))) now_tells (some_base rack (rack_in now)) (λ q told. told)
          (rises_none (rack.counts (outer (rack_in now)))) taken given;
      others = kept.others_now rack none both law before start now extra found d at made still (rack.counts (outer (rack_in now))) (rack.bytes (outer (rack_in now))) now_tells (some_base rack (rack_in now)) (λ q told. told)
          (rises_none (rack.counts (outer (rack_in now)))) taken given refl;
      ends = subst (λ (said : Option Extra). by (tells_seen now_tells said) seen)
          (sym (kept.said_is rack none both law before start now extra found d at made still (rack.counts (outer (rack_in now))) (rack.bytes (outer (rack_in now))) now_tells (some_base rack (rack_in now)) (λ q told. told)
          (rises_none (rack.counts (outer (rack_in now)))) taken given))
          (by_seen (λ tells. by tells seen) h);
    }

  -- ---- either of them

  pub event_found : (event : Event) (text : Reply → List ℕ) (gives : Reply → Bool) (end : SavedEnd) → IsReading event → EventOnce (live (base rack)) start now seen event text gives end
      → Finds now_tells met (λ tells facts. EndsEvent tells facts event text gives end)
  event_found event text gives end reading h = by (rack_behind (rack_in start)) refl where
    by : (s : StopRack R) → rack_behind (rack_in start) ≡ s → Finds now_tells met (λ tells facts. EndsEvent tells facts event text gives end)
    by (Plain mid) at = inl (event_plain mid at event text gives end reading h)
    by (Doubled d) at = inr (found_kept d at (λ tells facts. EndsEvent tells facts event text gives end) h.0)

  pub status_found : (end : SavedEnd) → StatusOnce (live (base rack)) start now seen end → Finds now_tells met (λ tells facts. EndsStatus tells facts end)
  status_found end h = by (rack_behind (rack_in start)) refl where
    by : (s : StopRack R) → rack_behind (rack_in start) ≡ s → Finds now_tells met (λ tells facts. EndsStatus tells facts end)
    by (Plain mid) at = inl (status_plain mid at end h)
    by (Doubled d) at = inr (found_kept d at (λ tells facts. EndsStatus tells facts end) h.0)

-- it is the same rack
module _ {R : Type 0} (rack : Ghosts R) (none : (s : R) → rack.made s [] s) (both : (a b c : R) (x y : List RackCall) → rack.made a x b → rack.made b y c → rack.made a (x ++ y) c)
    (law : (a b : R) (made : List RackCall) → rack.made a made b → After rack made a b)
    (before : R) (start now : LiveRack (Base R)) (extra : List ℕ) (found : OpensRack rack before start extra) (made : Makes (live (base rack)) IsCallOfOpening start now)
    (still : StillTold ((live (base rack)).bytes start) ((live (base rack)).bytes now)) where
  pub name_found : rack.name (outer (rack_in now)) ≡ rack.name before
  name_found = by (rack_behind (rack_in start)) refl where
    by : (s : StopRack R) → rack_behind (rack_in start) ≡ s → rack.name (outer (rack_in now)) ≡ rack.name before
    by (Plain mid) at = plain.name_is rack none both law before start now extra found mid at made still
    by (Doubled d) at = kept.name_is rack none both law before start now extra found d at made still
