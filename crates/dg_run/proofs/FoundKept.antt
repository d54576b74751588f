-- A rack that keeps a checkpoint is seen by the places of the boundaries in use, as the last commit has it.
use Rattle.std.proofs.Common.{◌≡◌, ◌≢◌, ◌⊎◌, ◌∙◌, ◌+◌, ◌*◌, ◌/◌, ◌%◌, ◌<◌, ◌≤◌, ℕ, suc, zero, Bool, true, false, List, [], ◌++◌, ap, arith, inl, inr, length, refl, slice_index, subst, sym}
use Rattle.std.specs.Prelude.{nat_le, IfSome, IsSome, None, Option, Some, if◌then◌else◌, map, take}
use Rattle.std.specs.List.{range_with_len}
use Rattle.std.proofs.lemmas.Bool.{cases_lt, false≢true, le-ltb}
use Rattle.std.proofs.lemmas.List.{length-map}
use Rattle.std.proofs.lemmas.List.Elements.{All-get_or}
use Rattle.std.proofs.lemmas.List.FromFn.{get_or-range_with_len, length-range_with_len}
use Rattle.dg_io.specs.Kept.{Kept}
use Rattle.dg_io.specs.MadeLaws.{each_such, same_both}
use Rattle.dg_io.specs.Makes.{Makes}
use Rattle.dg_io.specs.MakesLaws.{makes_made}
use Rattle.dg_io.specs.RackCalls.{Each, IsNoBlank, IsNotOn, RackCall}
use Rattle.dg_io.specs.RackCalls.RackCall.{blanks, calls, extends, looks}
use Rattle.dg_io.specs.RackWords.{After, MadeOnly}
use Rattle.dg_io.specs.Told.{IsSame, StillTold, Told}
use Rattle.dg_io.specs.declared.outside.Rack.{Ghosts}
use Rattle.dg_model.specs.Causes.{Rose}
use Rattle.dg_model.specs.Lives.{all_live, member_at}
use Rattle.dg_model.specs.States.{Counts, CountsRise}
use Rattle.dg_open.specs.Reopenings.{IsCallOfOpening}
use Rattle.dg_regroup.specs.FrontLaws.{each_for, was_shown}
use Rattle.dg_regroup.specs.FrontMade.{IsNoExtend}
use Rattle.dg_regroup.specs.FrontRacks.{front_length, front_of, front_room, is_front, rack_behind, shown}
use Rattle.dg_regroup.specs.LiveGhosts.{live}
use Rattle.dg_regroup.specs.LiveRacks.{is_there, live_in, live_room, rack_in}
use Rattle.dg_regroup.specs.declared.extras.Extra.{Extra}
use Rattle.dg_regroup.specs.declared.live_racks.LiveRack.{LiveRack}
use Rattle.dg_run.proofs.BaseTies.{base_after, base_both, base_known_on, base_none, outer_name, outer_rise, outer_stand, shows_said}
use Rattle.dg_run.proofs.PlainFacts.{either}
use Rattle.dg_run.proofs.Seeing.{IsCallAmong, Opened, bytes_at, faults_at, no_blank, no_extend, not_on, opened_of}
use Rattle.dg_run.proofs.Segments.{find_number}
use Rattle.dg_run.specs.Bases.{Base, base, base_bytes, base_counts, base_known, base_stands_in, outer}
use Rattle.dg_run.specs.Finds.{AreNone, AreKnown, BeganLabeled, HadHeader, HasFailed, HasSamePages, IsBeside, IsSaid, Sees, SeesEntries, boundaries_said, entry_seen, live_said}
use Rattle.dg_run.specs.Founds.{OpensRack, ShowsBy}
use Rattle.dg_run.specs.Keeping.{IsFoundAs, IsShownBy, length_said}
use Rattle.dg_saved.specs.Calls.{Facts}
use Rattle.dg_stop.specs.DoubleLaws.{seen_some, some_seen}
use Rattle.dg_stop.specs.DoubleOpenings.{AreFailed, GivesTold, Opens, OpensDouble}
use Rattle.dg_stop.specs.Doubles.{Double, DoubleMade, IsLookOrPlainOn, double_bytes, fell_in, known_in, seen_in, sizes_in, stands_in}
use Rattle.dg_stop.specs.Headers.{HasHeader, IsBareLabeled, IsLabeled}
use Rattle.dg_stop.specs.Layouts.{SamePages, seen as bytes_seen, spot, table_size}
use Rattle.dg_stop.specs.Phases.{TellsKnown, flag_in, known_at}
use Rattle.dg_stop.specs.Reopens.{Reopened}
use Rattle.dg_stop.specs.StopCalls.{behind}
use Rattle.dg_stop.specs.StopRacks.{made_by, stop_bytes, stop_counts, stop_keeps, stop_known, stop_room, stop_stands_in}
use Rattle.dg_stop.specs.declared.stop_racks.StopRack.{StopRack}
use Rattle.dg_stop.specs.declared.stop_racks.StopRack.TheVariants.{Doubled, Plain}

-- ---- bytes and counts

some_is : (o : Option (List ℕ)) → IsSome o → (all : List ℕ) × (o ≡ Some all)
some_is None some = absurd (false≢true some)
some_is (Some all) some = (all, refl)

-- what is told of an earlier moment, where a later one is
told_by : (P : List ℕ → Type 0) (a b c : Option (List ℕ)) → Told (λ before after. P before) a b → (IsSome c → IsSome b) → Told (λ before after. P before) a c
told_by P a b None h back = tt
told_by P a None (Some c) h back = absurd (false≢true (back refl))
told_by P None (Some b) (Some c) h back = absurd h
told_by P (Some a) (Some b) (Some c) h back = h

same_told_by : (P : List ℕ → Type 0) (a b c : Option (List ℕ)) → Told IsSame a b → (IsSome c → IsSome b) → IfSome b P → Told (λ before after. P before) a c
same_told_by P a b None same back h = tt
same_told_by P a None (Some c) same back h = absurd (false≢true (back refl))
same_told_by P None (Some b) (Some c) same back h = absurd same
same_told_by P (Some a) (Some b) (Some c) same back h = subst P same h

same_after : (step : List ℕ → List ℕ → Type 0) (a b c : Option (List ℕ)) → Told step a b → Told IsSame b c → Told step a c
same_after step a b None h same = tt
same_after step a None (Some c) h same = absurd same
same_after step None (Some b) (Some c) h same = absurd h
same_after step (Some a) (Some b) (Some c) h same = subst (λ (l : List ℕ). step a l) (sym same) h

some_before : (a b : Option (List ℕ)) → Told IsSame a b → IsSome b → IsSome a
some_before None None same told = told
some_before None (Some b) same told = absurd same
some_before (Some a) b same told = refl

-- as many bytes as are named
seen_size : (t : ℕ) (places : ℕ → Bool) (n : ℕ) (all : List ℕ) → length (bytes_seen t places n all) ≡ n
unfolding bytes_seen
seen_size t places n all = length-map (range_with_len 0 n) (λ (o : ℕ). slice_index all (spot t places o)) ∙ length-range_with_len 0 n

seen_none : (t : ℕ) (places : ℕ → Bool) (n : ℕ) (all : List ℕ) → n ≡ 0 → bytes_seen t places n all ≡ []
unfolding bytes_seen
seen_none t places n all none = subst (λ (k : ℕ). map (λ (o : ℕ). slice_index all (spot t places o)) (range_with_len 0 k) ≡ []) (sym none) refl

-- a call of an opening looks for a member, or reads or writes it
look_or_plain : (numbers : List ℕ) (q : ℕ) (call : RackCall) → IsCallAmong numbers call → IsLookOrPlainOn q call
look_or_plain numbers q (looks p) is = tt
look_or_plain numbers q (blanks p) is = absurd is
look_or_plain numbers q (calls p) is = tt
look_or_plain numbers q (extends p) is = absurd is

less_plain : (q p : ℕ) → IsLookOrPlainOn q (extends p) → IsLookOrPlainOn q (calls p)
less_plain q p is = tt

less_on : (q p : ℕ) → IsNotOn q (extends p) → IsNotOn q (calls p)
less_on q p is = is

-- how member q shows its bytes, by what is said
abbrev ShowsAt : Option Extra → List Bool → Bool → Option ℕ → ℕ → Type 0
ShowsAt None failed cut n q = (n ≡ None) × (cut ≡ flag_in failed q)
ShowsAt (Some extra) failed cut n q = (n ≡ Some extra.length) × (cut ≡ true)

abbrev bare : List ℕ
bare = []

take_none : (n : ℕ) → take n bare ≡ bare
take_none zero = refl
take_none (suc n) = refl

none_front : (n : ℕ) → front_of (Some n) bare ≡ bare
none_front n = by (nat_le n 0) where
  by : (b : Bool) → (if b then take n bare else bare) ≡ bare
  by true = take_none n
  by false = refl

shown_none : (cut : Bool) (n : Option ℕ) (all : List ℕ) → all ≡ [] → shown cut n (Some all) ≡ Some []
shown_none true None all e = refl
shown_none true (Some n) all e = ap (λ (l : List ℕ). Some (front_of (Some n) l)) e ∙ ap (λ (l : List ℕ). Some l) (none_front n)
shown_none false n all e = ap (λ (l : List ℕ). Some l) e

-- a member that isn't hidden shows what it is seen to hold by its entry
shown_entry : (said : Option Extra) (failed : List Bool) (cut : Bool) (n : Option ℕ) (q : ℕ) (all : List ℕ) → ShowsAt said failed cut n q → flag_in failed q ≡ false
    → shown cut n (Some all) ≡ Some (entry_seen said (Some all))
shown_entry None failed true n q all shows quiet = absurd (false≢true (sym quiet ∙ sym shows.1))
shown_entry None failed false n q all shows quiet = refl
shown_entry (Some extra) failed true None q all shows quiet = absurd (cc shows.0)
shown_entry (Some extra) failed true (Some n) q all shows quiet = let same : n ≡ extra.length = cc shows.0 in ap (λ (k : ℕ). Some (front_of (Some k) all)) same
shown_entry (Some extra) failed false n q all shows quiet = absurd (false≢true shows.1)

-- the boundaries in use are of the first line
pub said_within : (bytes : List ℕ) (said : Option Extra) → IsSaid bytes said → (x : ℕ) → x < length (live_said said) → slice_index (live_said said) x < boundaries_said said
said_within bytes None is x low =
    let few : length (all_live 16) ≡ 16 = length-range_with_len 0 16 in
    let number : slice_index (all_live 16) x ≡ 0 + x = get_or-range_with_len 0 16 x 0 (omega (arith, low, few)) in
    omega (arith, low, few, number)
said_within bytes (Some extra) is x low = All-get_or (λ s. s < extra.boundaries) extra.live x 0 low is.0.boundaries.are.within

pub said_most : (bytes : List ℕ) (said : Option Extra) → IsSaid bytes said → boundaries_said said ≤ 16
said_most bytes None is = omega arith
said_most bytes (Some extra) is = is.0.boundaries.most

-- so each is below 16
low_number : (bytes : List ℕ) (said : Option Extra) → IsSaid bytes said → (x : ℕ) → x < length (live_said said) → slice_index (live_said said) x < 16
low_number bytes said is x low = let within = said_within bytes said is x low in let most = said_most bytes said is in omega (arith, within, most)

-- and a member behind those of the first line is of none of them
pub said_beside : (bytes : List ℕ) (said : Option Extra) → IsSaid bytes said → (m : ℕ) → boundaries_said said ≤ m / 2 → IsBeside (live_said said) m
said_beside bytes said is m past x low same = let within = said_within bytes said is x low in omega (arith, within, past, same)

-- a member that shows its first bytes alone shows as many as is said
long_by : {R : Type 0} (said : Option Extra) (failed : List Bool) (it : Base R) → ShowsBy said failed it → front_length it ≡ length_said said
long_by None failed it h = h.0
long_by (Some extra) failed it h = h.0

module _ {R : Type 0} (rack : Ghosts R) (none : (s : R) → rack.made s [] s) (both : (a b c : R) (x y : List RackCall) → rack.made a x b → rack.made b y c → rack.made a (x ++ y) c)
    (law : (a b : R) (made : List RackCall) → rack.made a made b → After rack made a b) (before : R) (start now : LiveRack (Base R)) (extra : List ℕ) (found : OpensRack rack before start extra)
    (d : Double R) (at : rack_behind (rack_in start) ≡ Doubled d) (made : Makes (live (base rack)) IsCallOfOpening start now)
    (tells_on : StillTold ((live (base rack)).bytes start) ((live (base rack)).bytes now)) where
  -- ---- when headers had been read

  opens : OpensDouble rack before d extra
  opens = subst (λ (s : StopRack R). Opens rack before s extra) at found.opens

  are_failed : AreFailed rack found.failed before d.rack
  are_failed = subst (λ (s : StopRack R). AreFailed rack found.failed before (behind s)) at found.are_failed

  outer_is : outer (rack_in start) ≡ d.rack
  outer_is = ap behind at

  abbrev pub numbers : List ℕ
  numbers = live_said found.said

  -- ---- the calls

  pub opened : Opened (base rack) start now
  opened = opened_of (base rack) start now made

  pub list : MadeOnly (base rack) (IsCallAmong (live_in start)) (rack_in start) (rack_in now)
  list = makes_made (base rack) (IsCallAmong (live_in start)) (base_none rack none) (base_both rack both) (rack_in start) (rack_in now) opened.made

  pub live_now : live_in now ≡ numbers
  live_now = opened.live_is ∙ found.live_is

  -- ---- what is kept

  -- a checkpoint as the members show it
  abbrev pub first : Kept → Kept
  first kept = record { entries = λ q. shown (is_front (rack_in start) q) (rack_in start).length (kept.entries q); extra = kept.extra }

  pub shows_first : (kept : Kept) → IsShownBy found.said kept (first kept)
  shows_first kept = shows_said found.said (rack_in start) (long_by found.said found.failed (rack_in start) found.shows.by) kept (first kept) (record { entries = λ q. refl; extra = refl })

  pub long_now : front_length (rack_in now) ≡ length_said found.said
  long_now = list.made.length ∙ long_by found.said found.failed (rack_in start) found.shows.by

  -- what the known members are reopened as is kept, as they show it: no call of the opening makes a member anew
  pub keeps_first : rack.steady before → (kept : Kept) → IsFoundAs (known_in d.memory) (rack.bytes before) kept → (base rack).keeps (rack_in now) (Some (first kept))
  keeps_first steady kept is =
      let under : stop_keeps rack (Doubled d) (Some kept) = opens.keeps steady kept (λ told. (is.reopened, is.one)) in
      let here : (base rack).keeps (rack_in start) (Some (first kept)) =
      (kept, subst (λ (s : StopRack R). stop_keeps rack s (Some kept)) (sym at) under, record { entries = λ q. refl; extra = refl }) in
      (base_after rack law (rack_in start) (rack_in now) list.calls list.made).keeps_on
      (each_such (IsCallAmong (live_in start)) IsNoBlank (no_blank (live_in start)) list.calls list.each) (Some (first kept)) here

  -- it is double still
  pub record NowKept : Type 0 where
    pub it : Double R
    pub is : rack_behind (rack_in now) ≡ Doubled it
    pub by : DoubleMade rack d list.made.passed it

  now_kept : (x : StopRack R) → rack_behind (rack_in now) ≡ x → made_by rack (Doubled d) list.made.passed x → NowKept
  now_kept (Plain x) is by = absurd by
  now_kept (Doubled x) is by = record { it = x; is = is; by = by }

  pub kept_now : NowKept
  kept_now = now_kept (rack_behind (rack_in now)) refl (subst (λ (s : StopRack R). made_by rack s list.made.passed (rack_behind (rack_in now))) at list.made.below.by)

  abbrev z : Double R
  z = kept_now.it

  now_outer : outer (rack_in now) ≡ z.rack
  now_outer = ap behind kept_now.is

  stop_start : (q : ℕ) → stop_bytes rack (rack_behind (rack_in start)) q ≡ double_bytes rack d q
  stop_start q = ap (λ (s : StopRack R). stop_bytes rack s q) at

  -- what is told by places
  some_start : (q : ℕ) → q / 2 < length numbers → IsSome ((live (base rack)).bytes now q) → IsSome (rack.bytes d.rack (member_at numbers q))
  some_start q low some =
      let p = member_at numbers q in
      let first : IsSome (base_bytes rack (rack_in start) p) = subst (λ (o : Option (List ℕ)). IsSome o) (bytes_at (base rack) start numbers found.live_is q low) (tells_on q some) in
      let under = was_shown (is_front (rack_in start) p) (rack_in start).length (stop_bytes rack (rack_behind (rack_in start)) p) first in
      seen_some d.memory p (rack.bytes d.rack p) (subst (λ (o : Option (List ℕ)). IsSome o) (stop_start p) under)

  now_some : (q : ℕ) → q / 2 < length numbers → IsSome (base_bytes rack (rack_in now) (member_at numbers q)) → IsSome ((live (base rack)).bytes now q)
  now_some q low some = subst (λ (o : Option (List ℕ)). IsSome o) (sym (bytes_at (base rack) now numbers live_now q low)) some

  not_among : (p : ℕ) → ((x : ℕ) → x < length numbers → slice_index numbers x ≢ p / 2) → Each (IsNotOn p) list.calls
  not_among p absent = each_such (IsCallAmong (live_in start)) (IsNotOn p)
      (not_on (live_in start) p (subst (λ (l : List ℕ). (x : ℕ) → x < length l → slice_index l x ≡ p / 2 → ⊥) (sym found.live_is) absent)) list.calls list.each

  not_passed : (p : ℕ) → ((x : ℕ) → x < length numbers → slice_index numbers x ≢ p / 2) → Each (IsNotOn p) list.made.passed
  not_passed p absent = each_for (IsNotOn p) (less_on p) list.calls list.made.passed list.made.are_for (not_among p absent)

  -- a member of none of the boundaries in use is left alone
  pub alone : (p : ℕ) → ((x : ℕ) → x < length numbers → slice_index numbers x ≢ p / 2) → Told IsSame (rack.bytes d.rack p) (rack.bytes (outer (rack_in now)) p)
  alone p absent = subst (λ (r : R). Told IsSame (rack.bytes d.rack p) (rack.bytes r p)) (sym now_outer) (kept_now.by.alone p (not_passed p absent)).0.bytes

  small_at : (q : ℕ) → q / 2 < length numbers → member_at numbers q < 32
  small_at q low = let number = low_number extra found.said found.is_said (q / 2) low in omega (arith, number)

  -- whatever is told of a member was told when headers had been read
  pub told_start : (p : ℕ) → IsSome (base_bytes rack (rack_in now) p) → IsSome (rack.bytes d.rack p)
  told_start p some = by (find_number numbers (p / 2)) where
    by : ((x : ℕ) × (x < length numbers) × (slice_index numbers x ≡ p / 2)) ⊎ ((x : ℕ) → x < length numbers → slice_index numbers x ≢ p / 2) → IsSome (rack.bytes d.rack p)
    by (inl has) =
        let q : ℕ = 2 * has.0 + p % 2 in
        let place : q / 2 ≡ has.0 = omega arith in
        let number : member_at numbers q ≡ p =
        let e : slice_index numbers (q / 2) ≡ p / 2 = ap (λ (n : ℕ). slice_index numbers n) place ∙ has.2 in omega (arith, e) in
        let low : q / 2 < length numbers = omega (arith, place, has.1) in
        subst (λ (n : ℕ). IsSome (rack.bytes d.rack n)) number
        (some_start q low (now_some q low (subst (λ (n : ℕ). IsSome (base_bytes rack (rack_in now) n)) (sym number) some)))
    by (inr absent) =
        some_before (rack.bytes d.rack p) (rack.bytes (outer (rack_in now)) p) (alone p absent)
        (subst (λ (r : R). IsSome (rack.bytes r p)) (sym now_outer)
        (seen_some z.memory p (rack.bytes z.rack p)
        (subst (λ (s : StopRack R). IsSome (stop_bytes rack s p)) kept_now.is
        (was_shown (is_front (rack_in now) p) (rack_in now).length (stop_bytes rack (rack_behind (rack_in now)) p) some))))

  -- the counts of the rack of the run
  pub outer_rises : CountsRise (rack.counts d.rack) (rack.counts (outer (rack_in now)))
  outer_rises = subst (λ (r : R). CountsRise (rack.counts r) (rack.counts (outer (rack_in now)))) outer_is (outer_rise rack law (rack_in start) (rack_in now) list.calls list.made)

  -- it is the same rack
  pub name_is : rack.name (outer (rack_in now)) ≡ rack.name before
  name_is = outer_name rack law (rack_in start) (rack_in now) list.calls list.made ∙ ap rack.name outer_is ∙ opens.leaves.same_rack

  module _ (counts : Counts) (bytes : ℕ → Option (List ℕ)) (tells : ℕ → Type 0) (later : (q : ℕ) → IsSome (bytes q) → IsSome (base_bytes rack (rack_in now) q))
      (told_before : (q : ℕ) → tells q → rack.tells (outer (rack_in now)) q) (rise : CountsRise (rack.counts (outer (rack_in now))) counts) (taken given : Option (List ℕ)) where
    -- what is met of the rack of the run, up to some later moment, and what is seen of it
    abbrev pub met : Facts
    met = record {
      before = rack.counts before;
      now = counts;
      images = rack.bytes before;
      bytes = bytes;
      extra = [];
      room = None;
      taken = taken;
      given = given;
    }

    abbrev pub seen : Facts
    seen = record {
      before = (live (base rack)).counts start;
      now = (live (base rack)).counts now;
      images = (live (base rack)).bytes start;
      bytes = (live (base rack)).bytes now;
      extra = extra;
      room = live_room (front_room stop_room) start;
      taken = taken;
      given = given;
    }

    told_then : (p : ℕ) → IsSome (bytes p) → IsSome (rack.bytes d.rack p)
    told_then p some = told_start p (later p some)

    -- a count that rose while headers were read has risen
    has_failed : (p : ℕ) → Rose ((rack.counts before).faults p) ((rack.counts d.rack).faults p) → HasFailed met p
    has_failed p rose = (let one = outer_rises.faults p in let two = rise.faults p in omega (arith, rose, one, two))

    known_are : AreKnown met (known_in d.memory)
    known_are = record {
      low = opens.leaves.low;
      lost = λ q low unknown. elim (opens.leaves.lost q low unknown) [
        | inl fell ↦ inl (has_failed q (opens.leaves.rose q fell))
        | inr labeled ↦ inr (same_told_by IsLabeled (rack.bytes before q) (rack.bytes d.rack q) (bytes q) labeled.same (told_then q) labeled.labeled)
      ];
      bare = λ q known. told_by (λ all. IsBareLabeled q all) (rack.bytes before q) (rack.bytes d.rack q) (bytes q) (opens.leaves.bare q known) (told_then q);
    }

    -- each of the members 0 to 31 is known, or was missed, or a call on it failed
    pub known_first : (q : ℕ) → q < 32 → (base_known (rack_in now) q ≡ true) ⊎ ((HasFailed met q ⊎ BeganLabeled met q) ⊎ (0 < (base_counts rack (rack_in now)).faults q))
    known_first q low = by (either (known_in d.memory q)) where
      by : (known_in d.memory q ≡ true) ⊎ (known_in d.memory q ≡ false) → (base_known (rack_in now) q ≡ true) ⊎ ((HasFailed met q ⊎ BeganLabeled met q) ⊎ (0 < (base_counts rack (rack_in now)).faults q))
      by (inl is) = elim (base_known_on rack (rack_in start) (rack_in now) list.calls list.made q (ap (λ (s : StopRack R). stop_known s q) at ∙ is)) [
        | inl on ↦ inl on
        | inr failed ↦ inr (inr failed)
      ]
      by (inr unknown) = inr (inl (known_are.lost q low unknown))

    had_header : HadHeader met (known_in d.memory)
    had_header = record {
      member = opens.some.member;
      header = opens.some.header;
      is_known = opens.some.is_known;
      had = told_by (λ before. HasHeader opens.some.member before opens.some.header) (rack.bytes before opens.some.member) (rack.bytes d.rack opens.some.member) (bytes opens.some.member) opens.some.had
          (told_then opens.some.member);
    }

    -- ---- entries

    module _ (told : TellsKnown (known_in d.memory) bytes) (kept : Kept) (reopened : Reopened (known_at (known_in d.memory) (rack.bytes before)) kept) where
      told_known : TellsKnown (known_in d.memory) (rack.bytes d.rack)
      told_known q known = told_then q (told q known)

      gives : GivesTold rack d extra (known_at (known_in d.memory) (rack.bytes before)) (known_at (known_in d.memory) (rack.bytes d.rack))
      gives = opens.gives told_known

      abbrev Held : ℕ → Type 0
      Held p = ((all : List ℕ) × (kept.entries p ≡ Some all) × (double_bytes rack d p ≡ Some all) × (length all ≡ sizes_in d.memory p)) ⊎ (HasFailed met p
          ⊎ ((kept.entries p ≡ None) × (sizes_in d.memory p ≡ 0)))

      -- what a member holds by its entry
      held : (p : ℕ) → Held p
      held p = by (either (stands_in d.memory p)) (either (fell_in d.memory p)) where
        view : (o : Option (List ℕ)) → IsSome o → (all : List ℕ) × (seen_in d.memory p o ≡ Some all) × (length all ≡ sizes_in d.memory p)
        view None some = absurd (false≢true some)
        view (Some all) some = (_, refl, seen_size _ _ _ all)

        by : (stands_in d.memory p ≡ true) ⊎ (stands_in d.memory p ≡ false) → (fell_in d.memory p ≡ true) ⊎ (fell_in d.memory p ≡ false) → Held p
        by (inl stands) fell =
            let one = view (rack.bytes d.rack p) (told_known p (opens.standing p stands).0) in
            inl (one.0, (gives.kept kept reopened).entries p stands ∙ one.1, one.1, one.2)
        by (inr out) (inl fell) = inr (inl (has_failed p (opens.leaves.rose p fell)))
        by (inr out) (inr quiet) = inr (inr ((gives.kept kept reopened).none p out quiet, opens.bare p out quiet))

      shows_at : (p : ℕ) → p < 256 → ShowsAt found.said found.failed (is_front (rack_in start) p) (rack_in start).length p
      shows_at p low = by found.said found.shows.by where
        by : (said : Option Extra) → ShowsBy said found.failed (rack_in start) → ShowsAt said found.failed (is_front (rack_in start) p) (rack_in start).length p
        by None h = (h.0, h.1 p)
        by (Some e) h = (h.0, h.1 p low)

      start_at : (q : ℕ) → q / 2 < length numbers → (live (base rack)).bytes start q ≡ shown (is_front (rack_in start) (member_at numbers q)) (rack_in start).length (double_bytes rack d (member_at numbers q))
      start_at q low =
          let p = member_at numbers q in
          bytes_at (base rack) start numbers found.live_is q low ∙ ap (λ (o : Option (List ℕ)). shown (is_front (rack_in start) p) (rack_in start).length o) (stop_start p)

      -- one without an entry shows no byte
      nothing_shown : (p : ℕ) (cut : Bool) (n : Option ℕ) (o : Option (List ℕ)) → sizes_in d.memory p ≡ 0 → IfSome (shown cut n (seen_in d.memory p o)) (λ all. all ≡ [])
      nothing_shown p true n None size = tt
      nothing_shown p false n None size = tt
      nothing_shown p cut n (Some all) size = subst (λ (o : Option (List ℕ)). IfSome o (λ all. all ≡ [])) (sym (shown_none cut n _ (seen_none _ _ _ all size))) refl

      image_at : (q : ℕ) → q / 2 < length numbers → Held (member_at numbers q)
          → IfSome ((live (base rack)).bytes start q) (λ all. all ≡ entry_seen found.said (kept.entries (member_at numbers q))) ⊎ HasFailed met (member_at numbers q)
      image_at q low (inr (inl failed)) = inr failed
      image_at q low (inr (inr out)) =
          let p = member_at numbers q in
          inl (subst (λ (o : Option (List ℕ)). IfSome o (λ all. all ≡ entry_seen found.said (kept.entries p))) (sym (start_at q low))
          (subst (λ (e : Option (List ℕ)). IfSome (shown (is_front (rack_in start) p) (rack_in start).length (double_bytes rack d p)) (λ all. all ≡ entry_seen found.said e)) (sym out.0)
          (nothing_shown p (is_front (rack_in start) p) (rack_in start).length (rack.bytes d.rack p) out.1)))
      image_at q low (inl one) = by (either (flag_in found.failed (member_at numbers q))) where
        by : (flag_in found.failed (member_at numbers q) ≡ true) ⊎ (flag_in found.failed (member_at numbers q) ≡ false)
            → IfSome ((live (base rack)).bytes start q) (λ all. all ≡ entry_seen found.said (kept.entries (member_at numbers q))) ⊎ HasFailed met (member_at numbers q)
        by (inl fell) = inr (has_failed (member_at numbers q) (are_failed.rose (member_at numbers q) fell))
        by (inr quiet) =
            let p = member_at numbers q in
            let small = small_at q low in
            let is : (live (base rack)).bytes start q ≡ Some (entry_seen found.said (Some one.0)) =
            start_at q low ∙ ap (λ (o : Option (List ℕ)). shown (is_front (rack_in start) p) (rack_in start).length o) one.2
            ∙ shown_entry found.said found.failed (is_front (rack_in start) p) (rack_in start).length p one.0 (shows_at p (omega (arith, small))) quiet in
            inl (subst (λ (o : Option (List ℕ)). IfSome o (λ all. all ≡ entry_seen found.said (kept.entries p))) (sym is)
            (sym (ap (λ (o : Option (List ℕ)). entry_seen found.said o) one.1)))

      size_at : (p : ℕ) → Held p → (sizes_in d.memory p ≡ length (entry_seen None (kept.entries p))) ⊎ HasFailed met p
      size_at p (inl one) = inl (sym one.3 ∙ sym (ap (λ (o : Option (List ℕ)). length (entry_seen None o)) one.1))
      size_at p (inr (inl failed)) = inr failed
      size_at p (inr (inr out)) = inl (out.1 ∙ sym (ap (λ (o : Option (List ℕ)). length (entry_seen None o)) out.0))

      sees_entries : SeesEntries met seen found.said (sizes_in d.memory) kept
      sees_entries = record {
        extra = (gives.kept kept reopened).extra_is;
        images = λ q low. image_at q low (held (member_at numbers q));
        sizes_are = λ p. size_at p (held p);
      }

    -- ---- counts

    -- what a member's own count says
    own_start : (q : ℕ) → q / 2 < length numbers → ((live (base rack)).counts start).faults q ≡ slice_index d.tally.faults (member_at numbers q) + slice_index (rack_in start).refused (member_at numbers q)
    own_start q low =
        faults_at (base rack) start numbers found.live_is q low
        ∙ ap (λ (s : StopRack R). (stop_counts rack s).faults (member_at numbers q) + slice_index (rack_in start).refused (member_at numbers q)) at

    own_now : (q : ℕ) → q / 2 < length numbers → ((live (base rack)).counts now).faults q ≡ slice_index z.tally.faults (member_at numbers q) + slice_index (rack_in now).refused (member_at numbers q)
    own_now q low =
        faults_at (base rack) now numbers live_now q low
        ∙ ap (λ (s : StopRack R). (stop_counts rack s).faults (member_at numbers q) + slice_index (rack_in now).refused (member_at numbers q)) kept_now.is

    quiet_all : Each IsNoExtend list.calls
    quiet_all = each_such (IsCallAmong (live_in start)) IsNoExtend (no_extend (live_in start)) list.calls list.each

    looks_on : (p : ℕ) → Each (IsLookOrPlainOn p) list.made.passed
    looks_on p = each_for (IsLookOrPlainOn p) (less_plain p) list.calls list.made.passed list.made.are_for
        (each_such (IsCallAmong (live_in start)) (IsLookOrPlainOn p) (look_or_plain (live_in start) p) list.calls list.each)

    fails_with : (q : ℕ) → q / 2 < length numbers → tells (member_at numbers q) → ((live (base rack)).counts start).faults q < ((live (base rack)).counts now).faults q → HasFailed met (member_at numbers q)
    fails_with q low told rose =
        let p = member_at numbers q in
        let first = own_start q low in
        let last = own_now q low in
        let same = list.made.same_refused quiet_all p in
        let less : slice_index d.tally.faults p < slice_index z.tally.faults p = omega (arith, rose, first, last, same) in
        let here : rack.tells z.rack p = subst (λ (r : R). rack.tells r p) now_outer (told_before p told) in
        elim (kept_now.by.looked p here (looks_on p) less) [
          | inl up ↦
              (let one = opens.leaves.rise.faults p in let two = rise.faults p in let three = ap (λ (r : R). (rack.counts r).faults p) now_outer in omega (arith, up, one, two, three))
          | inr fell ↦ has_failed p (opens.leaves.rose p fell)
        ]

    begins : AreNone ((live (base rack)).counts start)
    begins = record {
      faults = λ q. elim (cases_lt (q / 2) (length numbers)) [
        | inl low ↦ (let own = own_start q low in let tally = opens.tally.faults (member_at numbers q) in let refused = found.shows.refused.faults (member_at numbers q) in omega (arith, own, tally, refused))
        | inr past ↦ absent_faults q (subst (λ (l : List ℕ). is_there l q ≡ false) (sym found.live_is) (le-ltb (q / 2) (length numbers) past)) ∙ found.none.faults q
      ];
      calls = (let stop = ap (λ (s : StopRack R). (stop_counts rack s).calls) at in omega (arith, stop, opens.tally.calls, found.none.calls));
      writes = (let stop = ap (λ (s : StopRack R). (stop_counts rack s).writes) at in omega (arith, stop, opens.tally.writes, found.shows.refused.writes, found.none.writes));
    } where
      absent_faults : (q : ℕ) → is_there (live_in start) q ≡ false → ((live (base rack)).counts start).faults q ≡ slice_index start.absent q
      absent_faults q away = rw away refl

    absent_bytes : (it : LiveRack (Base R)) → live_in it ≡ numbers → (q : ℕ) → length numbers ≤ q / 2 → (live (base rack)).bytes it q ≡ Some []
    absent_bytes it same q past = away_bytes (subst (λ (l : List ℕ). is_there l q ≡ false) (sym same) (le-ltb (q / 2) (length numbers) past)) where
      away_bytes : is_there (live_in it) q ≡ false → (live (base rack)).bytes it q ≡ Some []
      away_bytes away = rw away refl

    pub sees : Sees tells met seen
    sees = record {
      known = known_in d.memory;
      are = known_are;
      some = had_header;
      said = found.said;
      is_said = found.is_said;
      rise = record {
        faults = λ q. (let one = opens.leaves.rise.faults q in let two = outer_rises.faults q in let three = rise.faults q in omega (arith, one, two, three));
        calls = omega (arith, opens.leaves.rise.calls, outer_rises.calls, rise.calls);
        writes = omega (arith, opens.leaves.rise.writes, outer_rises.writes, rise.writes);
      };
      begin = begins;
      failed = fails_with;
      told = λ q low some. now_some q low (later (member_at numbers q) some);
      still = tells_on;
      absent = absent_bytes start found.live_is;
      gone = absent_bytes now live_now;
      sizes = sizes_in d.memory;
      entries = sees_entries;
      rooms = λ told c q lead last leads. ap stop_room at ∙ ap (λ (n : ℕ). Some n) ((opens.gives (λ p known. told_then p (told p known))).last c q lead last leads).room;
      taken = refl;
      given = refl;
    }

    pub said_is : sees.said ≡ found.said
    unfolding sees
    said_is = refl

    pub known_is : sees.known ≡ known_in d.memory
    unfolding sees
    known_is = refl

    -- the members beside those of the boundaries in use
    pub others_now : bytes ≡ rack.bytes (outer (rack_in now)) → (m : ℕ) → IsBeside (live_said sees.said) m → HasSamePages met seen.room sees.sizes m
    unfolding sees
    others_now same m beside =
        subst (λ (o : Option ℕ). HasSamePages met o (sizes_in d.memory) m) (sym (ap stop_room at))
        (subst (λ (b : ℕ → Option (List ℕ)). Told (SamePages (table_size (sizes_in d.memory m) d.memory.room)) (rack.bytes before m) (b m)) (sym same)
        (same_after (SamePages (table_size (sizes_in d.memory m) d.memory.room)) (rack.bytes before m) (rack.bytes d.rack m) (rack.bytes (outer (rack_in now)) m) (opens.pages m) (alone m beside)))

    -- A member behind those of the first line that has no entry stood nowhere; where it was left alone from then on, its bytes behind the headers are as they were.
    pub others_later : ((m : ℕ) → boundaries_said found.said ≤ m / 2 → base_stands_in (rack_in now) m ≡ false → Told IsSame (rack.bytes (outer (rack_in now)) m) (bytes m))
        → TellsKnown sees.known bytes → (kept : Kept) → Reopened (known_at sees.known (rack.bytes before)) kept
        → (m : ℕ) → boundaries_said sees.said ≤ m / 2 → kept.entries m ≡ None → HasSamePages met seen.room sees.sizes m
    unfolding sees
    others_later later_alone told kept reopened m past none =
        let beside = said_beside extra found.said found.is_said m past in
        let idle : base_stands_in (rack_in now) m ≡ false = outer_stand rack (rack_in start) (rack_in now) list.calls list.made m (not_among m beside) ∙ ap (λ (s : StopRack R). stop_stands_in s m) at
        ∙ no_entry told kept reopened m none in
        subst (λ (o : Option ℕ). HasSamePages met o (sizes_in d.memory) m) (sym (ap stop_room at))
        (same_after (SamePages (table_size (sizes_in d.memory m) d.memory.room)) (rack.bytes before m) (rack.bytes d.rack m) (bytes m) (opens.pages m)
        (same_both (rack.bytes d.rack m) (rack.bytes (outer (rack_in now)) m) (bytes m) (alone m beside) (later_alone m past idle))) where
          no_entry : TellsKnown (known_in d.memory) bytes → (kept : Kept) → Reopened (known_at (known_in d.memory) (rack.bytes before)) kept → (m : ℕ) → kept.entries m ≡ None → stands_in d.memory m ≡ false
          no_entry told kept reopened m none = elim (either (stands_in d.memory m)) [
            | inl stands ↦
                let some : IsSome (double_bytes rack d m) = some_seen d.memory m (rack.bytes d.rack m) (told_then m (told m (opens.standing m stands).0)) in
                let is : double_bytes rack d m ≡ None = sym (((opens.gives (λ q known. told_then q (told q known))).kept kept reopened).entries m stands) ∙ none in
                absurd (false≢true (subst (λ (o : Option (List ℕ)). IsSome o) is some))
            | inr out ↦ out
          ]
