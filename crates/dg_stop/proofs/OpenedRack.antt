-- What an opening leaves of the rack behind, and of what is kept in memory of the members.
use Rattle.std.proofs.Common.{◌≡◌, ◌<◌, ◌++◌, ◌∷◌, ◌⊎◌, ℕ, Bool, true, false, List, [], length, refl, sym, ◌∙◌, ap, arith, inl, inr, subst}
use Rattle.std.specs.Prelude.{◌&&◌, ◌||◌, not, Option, Some, None, IfSome, is_some, slice_get}
use Rattle.std.proofs.lemmas.Bool.{false≢true}
use Rattle.std.proofs.lemmas.List.{get_or_past}
use Rattle.std.proofs.lemmas.Option.{slice_get-get_or, slice_get_past}
use Rattle.dg_io.specs.MadeLaws.{each_such}
use Rattle.dg_io.specs.Makes.{Makes}
use Rattle.dg_io.specs.MakesLaws.{makes_both, makes_made, makes_such}
use Rattle.dg_io.specs.RackCalls.{IsNotOn, RackCall}
use Rattle.dg_io.specs.RackWords.{After, MadeOnly}
use Rattle.dg_io.specs.Told.{IsSame, StillTold, Told}
use Rattle.dg_io.specs.declared.outside.Rack.{Ghosts}
use Rattle.dg_model.specs.Causes.{Rose}
use Rattle.dg_stop.proofs.FindLemmas.{some_on}
use Rattle.dg_stop.proofs.Frames.{some_map, told_both_pages, told_same_pages}
use Rattle.dg_stop.proofs.OneCommit.{lt_or}
use Rattle.dg_stop.proofs.PhaseLemmas.{told_right}
use Rattle.dg_stop.proofs.ReadLemmas.{had_bare, head_in, known_in as known_found, known_or, told_first}
use Rattle.dg_stop.proofs.StepLemmas.{long_same}
use Rattle.dg_stop.specs.Commits.{WritesHeader, as_committed}
use Rattle.dg_stop.specs.DoubleCommits.{fell_now}
use Rattle.dg_stop.specs.DoubleOpenings.{Attaches, IsLabeledOn, LeavesOpening, MayUpgrade, is_prepared}
use Rattle.dg_stop.specs.Doubles.{AreHeld, fell_in, known_in, sizes_in, stands_in}
use Rattle.dg_stop.specs.FoundHeaders.{AreFound, AreHeadersOf, Bears, IsIn, IsOpening, found_at}
use Rattle.dg_stop.specs.Headers.{HasHeader, IsBareLabeled, IsLabeled}
use Rattle.dg_stop.specs.Layouts.{SamePages, bits_of, double_size, table_size}
use Rattle.dg_stop.specs.Leads.{IsAlike}
use Rattle.dg_stop.specs.Phases.{CanPrepare, Finished, IsServed, Sized, bits_of_held, flag_in, head_of, size_in, size_of}
use Rattle.dg_stop.specs.Readings.{AreTables}
use Rattle.dg_stop.specs.Tables.{HasTable, HoldsTable, head_at}
use Rattle.dg_stop.specs.Values.{header_of}
use Rattle.dg_stop.specs.declared.found_headers.Found.{Found}
use Rattle.dg_stop.specs.declared.headers.Header.{Header}
use Rattle.dg_stop.specs.declared.memories.Memory.{Memory}
use Rattle.dg_stop.specs.declared.places.Places.{Places}
use Rattle.dg_stop.specs.declared.readings.Attached.{Attached}
use Rattle.std.specs.Global.{Vec}

-- ---- marks

pub not_true : (b : Bool) → not b ≡ true → b ≡ false
not_true false is = refl
not_true true is = absurd (false≢true is)

pub not_false : (b : Bool) → not b ≡ false → b ≡ true
not_false true is = refl
not_false false is = absurd (false≢true (sym is))

stands_by : (h f : Bool) → (h && not f) ≡ true → (h ≡ true) × (f ≡ false)
stands_by true false is = (refl, refl)
stands_by true true is = absurd (false≢true is)
stands_by false f is = absurd (false≢true is)

near_by : (l f : Bool) → (l || f) ≡ false → (l ≡ false) × (f ≡ false)
near_by false false is = (refl, refl)
near_by false true is = absurd (false≢true (sym is))
near_by true f is = absurd (false≢true (sym is))

none_by : (h f : Bool) → (h && not f) ≡ false → f ≡ false → h ≡ false
none_by false f is on = refl
none_by true false is on = absurd (false≢true (sym is))
none_by true true is on = absurd (false≢true (sym on))

pub fell_by : (v s : Bool) → (v && not s) ≡ true → (v ≡ true) × (s ≡ false)
fell_by true false is = (refl, refl)
fell_by true true is = absurd (false≢true is)
fell_by false s is = absurd (false≢true is)

spared_by : (v s : Bool) → (v && not s) ≡ false → (s ≡ true → v ≡ true) → s ≡ v
spared_by true true is only = refl
spared_by true false is only = absurd (false≢true (sym is))
spared_by false false is only = refl
spared_by false true is only = absurd (false≢true (only refl))

pub serves_by : (v s : Bool) → v ≡ true → (v && not s) ≡ false → s ≡ true
serves_by true true is near = refl
serves_by true false is near = absurd (false≢true (sym near))
serves_by false s is near = absurd (false≢true is)

none_of : (o : Option Header) → is_some o ≡ false → o ≡ None
none_of None is = refl
none_of (Some h) is = absurd (false≢true (sym is))

some_of : (o : Option Header) → is_some o ≡ true → (h : Header) × (o ≡ Some h)
some_of (Some h) is = (h, refl)
some_of None is = absurd (false≢true is)

prepared_some : (o : Option Header) → is_prepared o ≡ true → (h : Header) × ((o ≡ Some h) × (h.committed ≡ false))
prepared_some (Some h) is = (h, (refl, not_true h.committed is))
prepared_some None is = absurd (false≢true is)

-- ---- calls

module _ {S : Type 0} (rack : Ghosts S) (none : (s : S) → rack.made s [] s) (both : (x y z : S) (k l : List RackCall) → rack.made x k y → rack.made y l z → rack.made x (k ++ l) z)
    (laws : (x y : S) (k : List RackCall) → rack.made x k y → After rack k x y) where
  -- a member that isn't called
  pub idle_stands : (served : List Bool) (a b : S) → Makes rack (IsServed served) a b → (q : ℕ) → flag_in served q ≡ false → rack.stands b q ≡ rack.stands a q
  idle_stands served a b made q out =
      let only : MadeOnly rack (IsServed served) a b = makes_made rack (IsServed served) none both a b made in
      (laws a b only.calls only.made).others_stand q
      (each_such (IsServed served) (IsNotOn q)
      (λ call on. subst (IsNotOn q) (sym on.is.on) (λ e. false≢true (sym out ∙ subst (λ (x : ℕ). flag_in served x ≡ true) e on.is.was))) only.calls only.each)

  pub leaves_opening : (known fell : ℕ → Bool) (a b : S) → Makes rack IsOpening a b → StillTold (rack.bytes a) (rack.bytes b) → ((q : ℕ) → known q ≡ true → q < 32)
      → ((q : ℕ) → q < 32 → known q ≡ false → (fell q ≡ true) ⊎ IsLabeledOn rack q a b) → ((q : ℕ) → known q ≡ true → Told (λ before after. IsBareLabeled q before) (rack.bytes a q) (rack.bytes b q))
      → ((q : ℕ) → fell q ≡ true → Rose ((rack.counts a).faults q) ((rack.counts b).faults q))
      → ((q : ℕ) → fell q ≡ false → (rack.counts b).faults q ≡ (rack.counts a).faults q) → LeavesOpening rack known fell a b
  leaves_opening known fell a b made tells low lost bare rose quiet =
      let only : MadeOnly rack IsOpening a b = makes_made rack IsOpening none both a b made in
      let after = laws a b only.calls only.made in
      record {
        made = made;
        same_rack = after.same_rack;
        steady_on = after.steady_on;
        tells = tells;
        rise = after.rise;
        low = low;
        lost = lost;
        bare = bare;
        rose = rose;
        quiet = quiet;
      }

-- ---- the members that are attached

-- member q is attached by this header
pub record AttachedAt {S : Type 0} (rack : Ghosts S) (found : List Found) (known failed : List Bool) (t : Attached) (mid : S) (q : ℕ) (h : Header) : Type 0 where
  pub low : q < 32
  pub is_known : flag_in known q ≡ true
  pub isin : IsIn h (found_at found q)
  pub alike : IsAlike t.lead h
  pub bears : Bears rack q mid h
  pub held : Places
  pub got : slice_get t.places.items q ≡ Some held
  pub table : HasTable rack mid h q held

pub get_places : (all : List Places) (q : ℕ) → q < length all → (held : Places) × (slice_get all q ≡ Some held)
get_places [] q low = absurd (omega (arith, low))
get_places (x ∷ all) q low = (_, slice_get-get_or (x ∷ all) q x low)

module _ {S : Type 0} (rack : Ghosts S) (found : List Found) (known failed : List Bool) (t : Attached) (old mid : S) (so : AreFound rack 32 found known failed old mid) (are : AreTables rack found mid t)
    (heads : length t.heads ≡ 32) where
  pub attached_at : (q : ℕ) (h : Header) → head_at t.heads q ≡ Some h → AttachedAt rack found known failed t mid q h
  attached_at q h e =
      let of = head_in rack found t.lead t.heads are.heads heads q h e in
      let is = known_found rack found known failed old mid so q h of.is in
      let held = get_places t.places.items q (omega (arith, is.0, are.count)) in
      record {
        low = is.0;
        is_known = is.1;
        isin = of.is;
        alike = of.alike;
        bears = (are.borne q h e).1;
        held = held.0;
        got = held.1;
        table = subst (λ (o : Option Header). HoldsTable rack mid o q held.0) e (are.holds q held.0 held.1);
      }

  pub size_at : (q : ℕ) (h : Header) → head_at t.heads q ≡ Some h → size_in t.places.items q ≡ h.size
  size_at q h e = let it = attached_at q h e in ap size_of it.got ∙ it.table.size

  pub sized_at : (q : ℕ) (h : Header) → head_at t.heads q ≡ Some h → Sized rack t.places.items t.lead.room q mid
  sized_at q h e =
      let it = attached_at q h e in
      let size = size_at q h e in
      record {
        there = omega (arith, it.low, are.count);
        stands = it.bears.stands;
        small = omega (arith, size, it.table.small);
        bits = ap (λ (l : List ℕ). length l) (ap bits_of_held it.got) ∙ it.table.bits ∙ ap bits_of (sym size);
        long = some_map (rack.bytes mid q) (λ all. length all ≡ double_size h.size h.room) (λ all. length all ≡ double_size (size_in t.places.items q) t.lead.room)
            (λ all long. long ∙ ap (λ (n : ℕ). double_size n h.room) (sym size) ∙ ap (λ (n : ℕ). double_size (size_in t.places.items q) n) it.alike.room) it.bears.long;
      }

  pub whole_at : (q : ℕ) (held : Places) → slice_get t.places.items q ≡ Some held → length held.bits.items ≡ bits_of held.size
  whole_at q held got = by (head_at t.heads q) (are.holds q held got) where
    by : (o : Option Header) → HoldsTable rack mid o q held → length held.bits.items ≡ bits_of held.size
    by None is = ap (λ (l : List ℕ). length l) is.1 ∙ ap bits_of (sym is.0)
    by (Some h) is = is.bits ∙ ap bits_of (sym is.size)

  pub can_finish : CanPrepare t.lead.sequence t.lead.room t.extra.items
  can_finish = record { first = are.lead.first; last = are.lead.last; fits = omega (arith, are.extra, are.lead.fits) }

  pub sized_prepared : (q : ℕ) → is_prepared (head_at t.heads q) ≡ true → Sized rack t.places.items t.lead.room q mid
  sized_prepared q on = let head = prepared_some (head_at t.heads q) on in sized_at q head.0 head.1.0

  -- a member that isn't attached has no bytes
  no_size : (q : ℕ) → head_at t.heads q ≡ None → size_in t.places.items q ≡ 0
  no_size q e = elim (lt_or q 32) [
    | inl low ↦
        let held = get_places t.places.items q (omega (arith, low, are.count)) in
        ap size_of held.1 ∙ (subst (λ (o : Option Header). HoldsTable rack mid o q held.0) e (are.holds q held.0 held.1)).0
    | inr high ↦ ap size_of (slice_get_past t.places.items q (omega (arith, high, are.count)))
  ]

  module _ (top : ℕ) (memory : Memory) (new : S) (at : Attaches rack known failed top t memory mid new) (count : length known ≡ 32) where
    -- a member that served had a prepared header
    pub served_head : (q : ℕ) → flag_in at.served q ≡ true → (h : Header) × ((head_at t.heads q ≡ Some h) × (h.committed ≡ false))
    served_head q on = prepared_some (head_at t.heads q) (sym (at.prepared q) ∙ on)

    served_at : (q : ℕ) → flag_in at.served q ≡ true → (q < 32) × (flag_in known q ≡ true)
    served_at q on =
        let head = served_head q on in
        let it = attached_at q head.0 head.1.0 in
        (it.low, it.is_known)

    -- on a known member no call failed while headers were read
    pub unfailed : (q : ℕ) → q < 32 → flag_in known q ≡ true → flag_in failed q ≡ false
    unfailed q low on = elim (known_or (flag_in failed q)) [
      | inl marked ↦ absurd (false≢true (sym ((so.below q low).unknown marked) ∙ on))
      | inr off ↦ off
    ]

    is_known : (q : ℕ) → known_in memory q ≡ flag_in known q
    is_known q = ap (λ (l : List Bool). flag_in l q) at.known_is

    pub known_low : (q : ℕ) → known_in memory q ≡ true → q < 32
    known_low q on = elim (lt_or q 32) [
      | inl low ↦ low
      | inr high ↦ absurd (false≢true (sym (get_or_past known q false (omega (arith, count, high))) ∙ sym (is_known q) ∙ on))
    ]

    served_or : (q : ℕ) → (flag_in at.served q ≡ true) ⊎ (flag_in at.served q ≡ false)
    served_or q = known_or (flag_in at.served q)

    pub fate : (q : ℕ) → q < 32 → Finished rack t.places.items t.lead.sequence t.lead.room t.extra.items q (flag_in at.served q) (flag_in at.serves q) mid new
    fate q low = at.finished.below q low

    -- a member that stands is attached, and didn't fall
    pub standing_at : (q : ℕ) → stands_in memory q ≡ true → (h : Header) × ((head_at t.heads q ≡ Some h) × (fell_now at.served at.serves q ≡ false))
    standing_at q on =
        let is = stands_by (is_some (head_at t.heads q)) (fell_now at.served at.serves q) (sym (at.stands q) ∙ on) in
        let head = some_of (head_at t.heads q) is.0 in
        (head.0, (head.1, is.1))

    -- who neither stands nor fell isn't attached
    pub absent_at : (q : ℕ) → q < 32 → stands_in memory q ≡ false → fell_in memory q ≡ false → head_at t.heads q ≡ None
    absent_at q low out near =
        let is = near_by (flag_in failed q) (fell_now at.served at.serves q) (sym (at.fell q low) ∙ near) in
        none_of (head_at t.heads q) (none_by (is_some (head_at t.heads q)) (fell_now at.served at.serves q) (sym (at.stands q) ∙ out) is.1)

    -- ---- what is kept in memory

    module _ (none : (s : S) → rack.made s [] s) (both : (x y z : S) (k l : List RackCall) → rack.made x k y → rack.made y l z → rack.made x (k ++ l) z)
        (laws : (x y : S) (k : List RackCall) → rack.made x k y → After rack k x y) where
      sized_now : (q : ℕ) → stands_in memory q ≡ true → Sized rack t.places.items t.lead.room q new
      sized_now q on =
          let head = standing_at q on in
          let it = attached_at q head.0 head.1.0 in
          let far = fate q it.low in
          let was = sized_at q head.0 head.1.0 in
          let same = spared_by (flag_in at.served q) (flag_in at.serves q) head.1.1 far.only in
          elim (served_or q) [
            | inl served ↦ far.sized (same ∙ served)
            | inr idle ↦ record {
              there = was.there;
              stands = idle_stands rack none both laws at.served mid new at.finished.made q idle ∙ was.stands;
              small = was.small;
              bits = was.bits;
              long = long_same (double_size (size_in t.places.items q) t.lead.room) (rack.bytes mid q) (rack.bytes new q) (far.idle idle) was.long;
            }
          ]

      size_now : (q : ℕ) → sizes_in memory q ≡ size_in t.places.items q
      size_now q = ap (λ (v : Vec Places). size_in v.items q) at.current

      bare_now : (q : ℕ) → stands_in memory q ≡ false → fell_in memory q ≡ false → sizes_in memory q ≡ 0
      bare_now q out near = elim (lt_or q 32) [
        | inl low ↦ size_now q ∙ no_size q (absent_at q low out near)
        | inr high ↦ size_now q ∙ ap size_of (slice_get_past t.places.items q (omega (arith, high, are.count)))
      ]

      pub held_now : AreHeld rack memory new
      held_now = record {
        sized = λ q on. rw (at.current, at.room) (sized_now q on);
        bare = bare_now;
        paired = λ q on. ap (λ (l : List ℕ). length l) (at.last.bits q) ∙ (sized_now q on).bits ∙ ap bits_of (sym (size_now q));
        few = omega (arith, are.count, ap (λ (v : Vec Places). length v.items) at.current);
      }

      -- ---- the counts

      rose_served : (q : ℕ) → q < 32 → fell_now at.served at.serves q ≡ true → Rose ((rack.counts old).faults q) ((rack.counts new).faults q)
      rose_served q low fell =
          let is = fell_by (flag_in at.served q) (flag_in at.serves q) fell in
          subst (λ (n : ℕ). Rose n ((rack.counts new).faults q)) ((so.below q low).quiet (unfailed q low (served_at q is.0).1)) ((fate q low).reach.cause is.0 is.1)

      -- a member that isn't known doesn't serve
      idle_unknown : (q : ℕ) → flag_in known q ≡ false → flag_in at.served q ≡ false
      idle_unknown q out = elim (served_or q) [
        | inl served ↦ absurd (false≢true (sym out ∙ (served_at q served).1))
        | inr idle ↦ idle
      ]

      rose_failed : (q : ℕ) → q < 32 → flag_in failed q ≡ true → Rose ((rack.counts old).faults q) ((rack.counts new).faults q)
      rose_failed q low marked =
          let far = fate q low in
          subst (λ (n : ℕ). Rose ((rack.counts old).faults q) n) (sym (far.reach.spared (not_serving q (idle_unknown q ((so.below q low).unknown marked)) far.only))) ((so.below q low).rose marked)
        where
          not_serving : (q : ℕ) → flag_in at.served q ≡ false → (flag_in at.serves q ≡ true → flag_in at.served q ≡ true) → flag_in at.serves q ≡ flag_in at.served q
          not_serving q idle only = elim (known_or (flag_in at.serves q)) [
            | inl on ↦ absurd (false≢true (sym idle ∙ only on))
            | inr off ↦ off ∙ sym idle
          ]

      quiet_now : (q : ℕ) → q < 32 → flag_in failed q ≡ false → fell_now at.served at.serves q ≡ false → (rack.counts new).faults q ≡ (rack.counts old).faults q
      quiet_now q low off near =
          let far = fate q low in
          far.reach.spared (spared_by (flag_in at.served q) (flag_in at.serves q) near far.only) ∙ (so.below q low).quiet off

      gone_or : (l f : Bool) → (l || f) ≡ true → (l ≡ true) ⊎ (f ≡ true)
      gone_or true f is = inl refl
      gone_or false f is = inr is

      lost_now : (q : ℕ) → q < 32 → known_in memory q ≡ false → (fell_in memory q ≡ true) ⊎ IsLabeledOn rack q old new
      lost_now q low out =
          let unknown : flag_in known q ≡ false = sym (is_known q) ∙ out in
          let idle = (fate q low).idle (idle_unknown q unknown) in
          elim ((so.below q low).lost unknown) [
            | inl marked ↦ inl (at.fell q low ∙ ap (λ (b : Bool). b || fell_now at.served at.serves q) marked)
            | inr labeled ↦ inr (record {
              same = told_right IsSame (rack.bytes old q) (rack.bytes mid q) (rack.bytes new q) (so.below q low).same idle;
              labeled = some_on IsLabeled (rack.bytes mid q) (rack.bytes new q) labeled idle;
            })
          ]

      pub leaves_now : LeavesOpening rack (known_in memory) (fell_in memory) old new
      leaves_now = leaves_opening rack none both laws (known_in memory) (fell_in memory) old new
          (makes_both rack IsOpening old mid new so.made (makes_such rack (IsServed at.served) IsOpening (λ call on. record { member = on.member; low = (served_at on.member on.is.was).0; is = inr on.is.on }) mid new at.finished.made))
          (λ q h. so.tells q (at.finished.tells q h)) known_low lost_now
          (λ q on. told_first (IsBareLabeled q) (rack.bytes old q) (rack.bytes mid q) (rack.bytes new q) (had_bare rack found known failed old mid so q (known_low q on) (sym (is_known q) ∙ on)) (at.finished.tells q))
          (λ q fell.
          let low = at.fell_low q fell in
          elim (gone_or (flag_in failed q) (fell_now at.served at.serves q) (sym (at.fell q low) ∙ fell)) [ inl marked ↦ rose_failed q low marked | inr gone ↦ rose_served q low gone ])
          (λ q near. elim (lt_or q 32) [
            | inl low ↦
                let is = near_by (flag_in failed q) (fell_now at.served at.serves q) (sym (at.fell q low) ∙ near) in
                quiet_now q low is.0 is.1
            | inr high ↦ (at.finished.rest q high).faults ∙ (so.rest q high).faults
          ])

    -- ---- the bytes

    pub same_read : (q : ℕ) → Told IsSame (rack.bytes old q) (rack.bytes mid q)
    same_read q = elim (lt_or q 32) [ inl low ↦ (so.below q low).same | inr high ↦ (so.rest q high).same ]

    pub pages_now : (q : ℕ) → Told (SamePages (table_size (sizes_in memory q) memory.room)) (rack.bytes old q) (rack.bytes new q)
    pages_now q = rw (at.current, at.room) (elim (lt_or q 32) [
      | inl low ↦ told_both_pages (table_size (size_in t.places.items q) t.lead.room) (rack.bytes old q) (rack.bytes mid q) (rack.bytes new q)
          (told_same_pages (table_size (size_in t.places.items q) t.lead.room) (rack.bytes old q) (rack.bytes mid q) (same_read q)) (fate q low).reach.pages
      | inr high ↦ told_same_pages (table_size (size_in t.places.items q) t.lead.room) (rack.bytes old q) (rack.bytes new q)
          (told_right IsSame (rack.bytes old q) (rack.bytes mid q) (rack.bytes new q) (same_read q) (at.finished.rest q high).bytes)
    ])

    -- the header that was written, in other words
    pub head_is : (q : ℕ) (h : Header) → head_at t.heads q ≡ Some h → as_committed (head_of t.places.items t.lead.sequence t.lead.room t.extra.items q) ≡ as_committed (header_of h)
    head_is q h e =
        let it = attached_at q h e in
        rw (size_at q h e, are.extra, sym it.alike.sequence, sym it.alike.room, sym it.alike.extra, sym it.bears.own) refl

    written_some : (c q : ℕ) (x y z : Option (List ℕ)) (h : Header) → Told IsSame x y → IfSome y (AreHeadersOf q (found_at found q)) → IsIn h (found_at found q) → h.sequence ≡ c
        → Told (WritesHeader (as_committed (header_of h))) y z → Told (MayUpgrade c q) x z
    written_some c q x y None h same are isin e wrote = tt
    written_some c q x None (Some d) h same are isin e wrote = absurd wrote
    written_some c q None (Some b) (Some d) h same are isin e wrote = absurd same
    written_some c q (Some a) (Some b) (Some d) h same are isin e wrote = inr (record {
      header = header_of h;
      had = subst (λ (l : List ℕ). HasHeader q l (header_of h)) same ((are h).0 isin);
      sequence = e;
      wrote = subst (λ (l : List ℕ). WritesHeader (as_committed (header_of h)) l d) same wrote;
    })

    same_may : (c q : ℕ) (x y : Option (List ℕ)) → Told IsSame x y → Told (MayUpgrade c q) x y
    same_may c q x None same = tt
    same_may c q None (Some b) same = absurd same
    same_may c q (Some a) (Some b) same = inl same

    pub written_now : rack.steady old → (q : ℕ) → Told (MayUpgrade memory.commit q) (rack.bytes old q) (rack.bytes new q)
    written_now steady q = rw at.commit (elim (lt_or q 32) [
      | inl low ↦ elim (served_or q) [
        | inl served ↦
            let head = served_head q served in
            let it = attached_at q head.0 head.1.0 in
            written_some t.lead.sequence q (rack.bytes old q) (rack.bytes mid q) (rack.bytes new q) head.0 (same_read q) ((so.below q low).on it.is_known).headers it.isin it.alike.sequence
            (subst (λ h. Told (WritesHeader h) (rack.bytes mid q) (rack.bytes new q)) (head_is q head.0 head.1.0) ((fate q low).wrote (so.steady_on.0 steady) served))
        | inr idle ↦ same_may t.lead.sequence q (rack.bytes old q) (rack.bytes new q) (told_right IsSame (rack.bytes old q) (rack.bytes mid q) (rack.bytes new q) (same_read q) ((fate q low).idle idle))
      ]
      | inr high ↦ same_may t.lead.sequence q (rack.bytes old q) (rack.bytes new q) (told_right IsSame (rack.bytes old q) (rack.bytes mid q) (rack.bytes new q) (same_read q) (at.finished.rest q high).bytes)
    ])
