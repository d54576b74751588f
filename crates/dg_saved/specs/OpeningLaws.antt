-- Laws of an array that was opened, of what was found where none was, and of racks that keep nothing. They stand here since the crates above cite them.
use Rattle.std.proofs.Common.{◌≡◌, ◌<◌, ◌≤◌, ◌/◌, ℕ, List, [], ap, arith, inl, inr, length, refl, sym, subst, zero-add, ◌∙◌}
use Rattle.std.specs.Prelude.{Bool, true, false, Option, Some, None, IfSome, IsSome}
use Rattle.std.proofs.lemmas.Bool.{false≢true}
use Rattle.std.proofs.lemmas.List.FromFn.{get_or-range_with_len}
use Rattle.dg_io.specs.MadeLaws.{same_both}
use Rattle.dg_io.specs.Makes.{Makes}
use Rattle.dg_io.specs.Makes.Makes.{nothing as made_nothing}
use Rattle.dg_io.specs.Told.{StillTold}
use Rattle.dg_io.specs.declared.outside.Rack.{Ghosts}
use Rattle.dg_model.specs.Changes.{IsInOrder}
use Rattle.dg_model.specs.Lives.{all_live, boundary_at}
use Rattle.dg_model.specs.Marks.{AreNext}
use Rattle.dg_model.specs.Openings.{Found, IsReopened, Opens, Reduced}
use Rattle.dg_model.specs.Saves.{SavedState}
use Rattle.dg_model.specs.States.{Counts, StandsFor, State, is_broken}
use Rattle.dg_model.specs.Tables.{Table}
use Rattle.dg_model.specs.declared.shapes.Shape.{Shape}
use Rattle.dg_open.specs.Founds.{IsRead}
use Rattle.dg_open.specs.Reopenings.{AreReadOf, FindsNoState, IsCallOfOpening, LeavesRead}
use Rattle.dg_regroup.specs.Extras.{extra_bytes}
use Rattle.dg_regroup.specs.declared.extras.Extra.{Extra}
use Rattle.dg_saved.specs.Calls.{Facts}
use Rattle.dg_saved.specs.Saved.{FoundNoState, FoundNone, FoundUnclean, FoundUnfit, HasLooked, HasSource, IsKnown, IsOpenedAs, OthersKept, SaysNothing, TellsArray, had, live_by}
use Rattle.dg_volume.specs.Besides.{AnswersBytes, AnswersOpenKept, CannotOpen, FindsUnfit, IsEnough, IsKept, OpensKept, StandsBeside}
use Rattle.dg_volume.specs.Opens.{HasOpenedBeside}
use Rattle.dg_volume.specs.Opens as openings
use Rattle.dg_volume.specs.Origins.{Origin, WasHeld}
use Rattle.dg_volume.specs.Origins.Origin.{held}
use Rattle.dg_volume.specs.Volumes.{Known, Leaves, StandsIn, Tells, any_phase, live_of, members_of, rack_of, shape_of, table_of}
use Rattle.dg_volume.specs.declared.opens.OpenAnswer.TheVariants.{NoState, Opened, Unclean}
use Rattle.dg_volume.specs.declared.phases.AnyPhase.{AnyPhase}
use Rattle.dg_volume.specs.declared.volumes.Volume.{Volume}
use Rattle.ufs_model.specs.Blocks.{Volume as Blocks}

-- ---- a stronger premise

-- What is said of an opened state where K holds is said of it where J does, whatever counts it has.
module _ {K J : Type 0} (w : J → K) where
  pub next_less : (broken : Bool) (l n : ℕ) (v : Blocks) (old new : List Bool) → AreNext broken K l n v old new → AreNext broken J l n v old new
  next_less true l n v old new h = h
  next_less false l n v old new h = record { size = h.size; fewer = h.fewer; are = λ j. h.are (w j) }

  order_on : (state : State) (now : Counts) → IsInOrder K state → IsInOrder J (record state { counts = now })
  order_on state now h = record {
    wants = h.wants;
    seen = record { fit = h.seen.fit; are = λ j. h.seen.are (w j) };
    placed = h.placed;
    sound = λ j. h.sound (w j);
  }

  -- where both hold, each says as much
  order_back : (state : State) (now : Counts) → J → IsInOrder J (record state { counts = now }) → IsInOrder K state
  order_back state now told h = record {
    wants = h.wants;
    seen = record { fit = h.seen.fit; are = λ k. h.seen.are told };
    placed = h.placed;
    sound = λ k. h.sound told;
  }

  pub reopened_on : (saved : SavedState) (state : State) (now : Counts) → IsReopened K saved state → IsReopened J saved (record state { counts = now })
  reopened_on saved state now h = record {
    worn = h.worn;
    settled = λ e. ((h.settled e).0, order_on state now (h.settled e).1);
    loose = λ e was told ordered. h.loose e was (w told) (order_back (record state { copies = saved.copies }) now told ordered);
    copies = h.copies;
  }

  pub opens_less : (taken : ℕ → Option Found) (beside : Option Reduced) (before : Counts) (state : State) → Opens K taken beside before state
      → Opens J taken beside before state
  opens_less taken beside before state h = record {
    source = h.source;
    label = h.label;
    saved = h.saved;
    is_source = h.is_source;
    reduced = h.reduced;
    reduced_is = h.reduced_is;
    fits = h.fits;
    boundaries = h.boundaries;
    live = h.live;
    cut = h.cut;
    table = h.table;
    homes = h.homes;
    recent = h.recent;
    good = h.good;
    out = h.out;
    fell = h.fell;
    pending = next_less (is_broken state) state.table.shape.l state.table.shape.n state.blocks h.saved.pending state.pending h.pending;
    phase = reopened_on h.saved state state.counts h.phase;
    label_is = h.label_is;
    body = h.body;
    counts = h.counts;
  }

-- what is told in the end was told before
pub had_less : (P : List ℕ → Type 0) (before mid now : Option (List ℕ)) → (IsSome now → IsSome mid) → IfSome (openings.had before mid) P → IfSome (had before now) P
had_less P before mid None told h = tt
had_less P before None (Some now) told h = absurd (false≢true (told refl))
had_less P before (Some mid) (Some now) told h = h

-- ---- nothing was opened

module _ {R : Type 0} (rack : Ghosts R) (room : R → Option ℕ) (extra : List ℕ) (before now : R) where
  -- it is the same rack
  pub same_no_state : AnswersOpenKept rack room before extra (NoState now) → rack.name now ≡ rack.name before
  same_no_state h = elim h [
    | inl said ↦ ap rack.name said.1
    | inr by ↦ elim by.answers [ inl none ↦ none.leaves.same_rack | inr bad ↦ bad.leaves.same_rack ]
  ]

  pub same_unclean : AnswersOpenKept rack room before extra (Unclean now) → rack.name now ≡ rack.name before
  same_unclean h = h.answers.leaves.same_rack

  -- calls of an opening were made of it, or none
  pub made_no_state : AnswersOpenKept rack room before extra (NoState now) → Makes rack IsCallOfOpening before now
  made_no_state h = elim h [
    | inl said ↦ made_nothing said.1
    | inr by ↦ elim by.answers [ inl none ↦ none.leaves.made | inr bad ↦ bad.leaves.made ]
  ]

  -- what is told now was told before
  pub tells_no_state : AnswersOpenKept rack room before extra (NoState now) → StillTold (rack.bytes before) (rack.bytes now)
  tells_no_state h = elim h [
    | inl said ↦ λ q told. subst (λ (r : R). IsSome (rack.bytes r q)) said.1 told
    | inr by ↦ elim by.answers [ inl none ↦ none.leaves.tells | inr bad ↦ bad.leaves.tells ]
  ]

  pub tells_unclean : AnswersOpenKept rack room before extra (Unclean now) → StillTold (rack.bytes before) (rack.bytes now)
  tells_unclean h = h.answers.leaves.tells

  pub made_unclean : AnswersOpenKept rack room before extra (Unclean now) → Makes rack IsCallOfOpening before now
  made_unclean h = h.answers.leaves.made

module _ {R : Type 0} (rack : Ghosts R) (room : R → Option ℕ) (extra : List ℕ) (before now : R) (taken given : Option (List ℕ)) where
  abbrev pub looked_facts : Facts
  looked_facts = record {
    before = rack.counts before;
    now = rack.counts now;
    images = rack.bytes before;
    bytes = rack.bytes now;
    extra = extra;
    room = room before;
    taken = taken;
    given = given;
  }

  module _ (kept : Option Extra) (is : IsKept extra kept) where
    abbrev looked : (found : ℕ → Option Found) → AreReadOf rack before now found → LeavesRead rack before now → HasLooked looked_facts
    looked found read leaves = record {
      kept = kept;
      is_kept = is;
      taken = found;
      read = read;
      same = leaves.same;
      rise = leaves.rise;
      writes = leaves.writes;
    }

    no_state : FindsNoState rack before now → FoundNone looked_facts
    no_state h = record { looked = looked h.taken h.read h.leaves; none = h.none }

    unfit : FindsUnfit rack (room before) kept before now → FoundUnfit looked_facts
    unfit h = record {
      looked = looked h.taken h.read h.leaves;
      source = h.source;
      label = h.label;
      saved = h.saved;
      is_source = h.is_source;
      cannot = h.cannot;
    }

  pub found_no_state : AnswersOpenKept rack room before extra (NoState now) → FoundNoState looked_facts
  found_no_state h = elim h [
    | inl said ↦ inr (inr (record { nothing = said.0; counts = ap rack.counts said.1; same = ap rack.bytes said.1 }))
    | inr by ↦ elim by.answers [ inl none ↦ inl (no_state by.kept by.is none) | inr bad ↦ inr (inl (unfit by.kept by.is bad)) ]
  ]

  pub found_unclean : AnswersOpenKept rack room before extra (Unclean now) → FoundUnclean looked_facts
  found_unclean h = record { looked = looked h.kept h.is h.answers.taken h.answers.read h.answers.leaves; unclean = h.answers.unclean }

-- ---- an array was opened

-- the boundaries in use of an opened state are those that stand beside it
pub live_opened : {K : Type 0} (taken : ℕ → Option Found) (beside : Option Reduced) (before : Counts) (state : State) → Opens K taken beside before state
    → state.live ≡ live_by state.table beside
live_opened taken None before state h = h.live ∙ ap (λ (r : Reduced). r.live) h.reduced_is ∙ ap (λ (t : Table). all_live t.shape.b) (sym h.table)
live_opened taken (Some reduced) before state h = h.live ∙ ap (λ (r : Reduced). r.live) h.reduced_is

module _ {R : Type 0} (rack : Ghosts R) (room : R → Option ℕ) (extra : List ℕ) (before : R) (volume new : Volume AnyPhase R) (hot : List ℕ) (taken given : Option (List ℕ))
    (answers : AnswersBytes rack room before extra (Opened volume hot)) (leaves : Leaves any_phase any_phase rack volume new) where
  -- what stands beside it, and how it was opened with that
  abbrev pub opening : OpensKept rack (room before) answers.kept before volume hot
  opening = answers.answers

  abbrev pub beside : Option Reduced
  beside = opening.beside

  abbrev pub opened : HasOpenedBeside rack beside before volume hot
  opened = opening.opened

  -- what was met outside
  abbrev pub facts : Facts
  facts = record {
    before = rack.counts before;
    now = rack.counts (rack_of new);
    images = rack.bytes before;
    bytes = rack.bytes (rack_of new);
    extra = extra;
    room = room before;
    taken = taken;
    given = given;
  }

  -- what it was opened from
  abbrev pub source : HasSource facts (rack.counts (rack_of volume))
  source = record {
    kept = answers.kept;
    is_kept = answers.is;
    taken = opened.taken;
    read = record {
      each = λ q low.
          had_less (λ all. IsRead opened.taken q ((rack.counts before).faults q) ((rack.counts (rack_of volume)).faults q) all (opened.taken q))
          (rack.bytes before q) (rack.bytes (rack_of volume) q) (rack.bytes (rack_of new) q) (leaves.tells q) (opened.read.each q low);
      others = opened.read.others;
    };
    rise = opened.stays.rise;
    writes = opened.writes;
    source = opened.source;
    label = opened.label;
    saved = opened.saved;
    is_source = opened.is_source;
    beside = beside;
    stands = subst (λ (t : Table). StandsBeside t answers.kept beside) opened.table opening.stands;
    enough = subst (λ (t : Table). IsEnough t.shape.n (room before)) opened.table opening.enough;
    first = opened.first;
    first_are = opened.first_are;
    members = members_of volume;
    fell = opened.fell;
    falls = opened.falls;
  }

  -- the members behind the array's own were left alone
  pub others : OthersKept facts opened.saved.table
  others q past =
      let behind : (shape_of volume).b ≤ q / 2 = subst (λ (t : Table). t.shape.b ≤ q / 2) (sym opened.table) past in
      same_both (rack.bytes before q) (rack.bytes (rack_of volume) q) (rack.bytes (rack_of new) q) (opened.others q behind) (leaves.own.other_bytes q behind)

  -- what the rack tells in the end
  abbrev pub told_now : ℕ → Type 0
  told_now = rack.tells (rack_of new)

  -- where it tells each member of its source's array, so it did each time
  known : TellsArray told_now opened.saved.table → Tells rack new
  known told q below = told q (subst (λ (t : Table). q / 2 < t.shape.b) opened.table (subst (λ (s : Shape). q / 2 < s.b) leaves.shape below))

  known_volume : TellsArray told_now opened.saved.table → Tells rack volume
  known_volume told q below = leaves.told_before q (known told q (subst (λ (s : Shape). q / 2 < s.b) (sym leaves.shape) below))

  -- what its members may have held
  abbrev pub origin : List (List ℕ) → Origin R
  origin V = held (record { table = table_of volume; members = opened.first; bytes = rack.bytes before; blocks = V })

  -- where the blocks are known in the end, they are known of the volume now, and when it was opened
  pub known_now : (V : List (List ℕ)) → IsKnown told_now facts (rack.counts (rack_of volume)) source V → Known (WasHeld rack (origin V)) rack new
  known_now V k = (known (k.0), subst (λ (t : Table). StandsFor t opened.first (rack.bytes before) V) (sym opened.table) (k.1))

  known_first : (V : List (List ℕ)) → IsKnown told_now facts (rack.counts (rack_of volume)) source V → Known (WasHeld rack (origin V)) rack volume
  known_first V k = (known_volume (k.0), subst (λ (t : Table). StandsFor t opened.first (rack.bytes before) V) (sym opened.table) (k.1))

  -- the state in which it was opened, with these blocks
  pub record AtFirst (V : List (List ℕ)) : Type 0 where
    pub state : State
    pub blocks : state.blocks ≡ V
    pub opens : Opens (Known (WasHeld rack (origin V)) rack volume) opened.taken beside (rack.counts before) state
    pub stands : StandsIn any_phase rack (WasHeld rack (origin V)) volume state
    pub recent : state.recent ≡ hot

  module _ (V : List (List ℕ)) where
    pub at_first : AtFirst V
    at_first = let at = opened.states_are V in record { state = at.0; blocks = at.1; opens = at.2; stands = at.3; recent = at.4 }

    pub is_opened : IsOpenedAs told_now facts (rack.counts (rack_of volume)) source V at_first.state
    is_opened = record {
      blocks = at_first.blocks;
      opens = opens_less (known_first V) opened.taken beside (rack.counts before) at_first.state at_first.opens;
      table = ap (λ (s : State). s.table) at_first.stands.is ∙ opened.table;
      members = ap (λ (s : State). s.members) at_first.stands.is;
      counts = ap (λ (s : State). s.counts) at_first.stands.is;
    }

  -- its boundaries in use are those that stand beside it
  pub live_is : live_of volume ≡ live_by opened.saved.table beside
  live_is =
      let at = at_first [] in
      ap (λ (s : State). s.live) (sym at.stands.is)
      ∙ live_opened opened.taken beside (rack.counts before) at.state at.opens
      ∙ ap (λ (t : Table). live_by t beside) (ap (λ (s : State). s.table) at.stands.is ∙ opened.table)

-- ---- nothing is kept

-- no bytes are those of what is kept
no_extra : (extra : Extra) → [] ≡ extra_bytes extra → ⊥
no_extra extra e =
    let size : 0 ≡ length (extra_bytes extra) = ap length e in
    omega (arith, size)

kept_none : (kept : Option Extra) → IsKept [] kept → kept ≡ None
kept_none None is = refl
kept_none (Some extra) is = absurd (no_extra extra is.1)

cannot_none : (table : Table) → CannotOpen table None None → ⊥
cannot_none table h = elim h [ inl little ↦ little | inr bad ↦ bad ]

-- With no extra bytes, of a rack that tells no room, all is as without them: nothing is kept, nothing stands beside the state, and there is no saved
-- array just where no state is found.
module _ (facts : Facts) (bytes : facts.extra ≡ []) (plain : facts.room ≡ None) where
  nothing_kept : (kept : Option Extra) → IsKept facts.extra kept → kept ≡ None
  nothing_kept kept is = kept_none kept (subst (λ (b : List ℕ). IsKept b kept) bytes is)

  pub never_unfit : FoundUnfit facts → ⊥
  never_unfit h =
      cannot_none h.saved.table
      (subst (λ (r : Option ℕ). CannotOpen h.saved.table r None) plain
      (subst (λ (k : Option Extra). CannotOpen h.saved.table facts.room k) (nothing_kept h.looked.kept h.looked.is_kept) h.cannot))

  pub never_nothing : SaysNothing facts → ⊥
  never_nothing h = h.nothing.some bytes

  pub found_none : FoundNoState facts → FoundNone facts
  found_none h = elim h [ inl none ↦ none | inr (inl bad) ↦ absurd (never_unfit bad) | inr (inr said) ↦ absurd (never_nothing said) ]

  module _ {opened : Counts} (source : HasSource facts opened) where
    pub none_kept : source.kept ≡ None
    none_kept = nothing_kept source.kept source.is_kept

    pub none_beside : source.beside ≡ None
    none_beside = subst (λ (k : Option Extra). StandsBeside source.saved.table k source.beside) none_kept source.stands

    pub opens_alone : (tells : ℕ → Type 0) (V : List (List ℕ)) (state : State) → IsOpenedAs tells facts opened source V state
        → Opens (IsKnown tells facts opened source V) source.taken None facts.before state
    opens_alone tells V state h = subst (λ (b : Option Reduced). Opens (IsKnown tells facts opened source V) source.taken b facts.before state) none_beside h.opens

-- where all boundaries are in use, each line of `status` has its place for a number
pub number_of_all : (b x : ℕ) → x < b → boundary_at (all_live b) x ≡ x
number_of_all b x low = get_or-range_with_len 0 b x 0 low ∙ zero-add x
