-- How the counts of a rack that is plain or double go with those of the rack behind it, over calls that read and write, which members are left
-- alone behind, and which are known. Laws for the crates above.
use Rattle.std.specs.Prelude.{◌≡◌, ◌≤◌, ◌<◌, ◌⊎◌, ℕ, Bool, false, true, IsSome, List, None, Option, Some, refl}
use Rattle.std.proofs.Common.{◌∙◌, ap, arith, inl, inr, subst, sym}
use Rattle.std.proofs.lemmas.Bool.{cases_lt, false≢true}
use Rattle.dg_io.specs.Kept.{Kept}
use Rattle.dg_io.specs.MadeLaws.{each_such}
use Rattle.dg_io.specs.RackCalls.{Each, IsNotOn, IsReadOrWrite, RackCall, blanks, calls, extends, looks}
use Rattle.dg_io.specs.RackWords.{After, MadeOnly}
use Rattle.dg_io.specs.Told.{IsSame, StillTold, Told}
use Rattle.dg_io.specs.declared.outside.Rack.{Ghosts}
use Rattle.dg_model.specs.Causes.{Rose}
use Rattle.dg_model.specs.States.{Counts, CountsRise}
use Rattle.dg_stop.specs.DoubleLaws.{alone_after, alone_none}
use Rattle.dg_stop.specs.DoubleOpenings.{IsOfOne, Opens}
use Rattle.dg_stop.specs.Doubles.{IsPlainOn, LeavesAlone, double_bytes}
use Rattle.dg_stop.specs.Phases.{TellsAll, flag_in, known_at}
use Rattle.dg_stop.specs.Reopens.{Reopened}
use Rattle.dg_stop.specs.StopCalls.{behind}
use Rattle.dg_stop.specs.StopRacks.{IsNew, StandKnown, StopCommits, StopMade, commits_by, made_by, stop_bytes, stop_counts, stop_keeps, stop_known, stop_name, stop_room, stop_stands_in, stop_tells, stop_words}
use Rattle.dg_stop.specs.declared.stop_racks.StopRack.{StopRack}
use Rattle.dg_stop.specs.declared.stop_racks.StopRack.TheVariants.{Plain, Doubled}

-- No count behind fell, and what the rack behind tells now it told before. The own count of a member that it tells rose only where that behind did.
pub record RisesWithBehind {R : Type 0} (rack : Ghosts R) (old new : StopRack R) : Type 0 where
  pub rise : CountsRise (rack.counts (behind old)) (rack.counts (behind new))
  pub told_before : (q : ℕ) → rack.tells (behind new) q → rack.tells (behind old) q
  pub tied : (q : ℕ) → rack.tells (behind new) q → (stop_counts rack old).faults q < (stop_counts rack new).faults q
      → Rose ((rack.counts (behind old)).faults q) ((rack.counts (behind new)).faults q)

-- what the known members of the rack behind are reopened as is kept
pub record KeepsOpened {R : Type 0} (rack : Ghosts R) (old : R) (it : StopRack R) : Type 0 where
  pub none : stop_keeps rack it None
  pub some : (kept : Kept)
      → (TellsAll (rack.bytes (behind it)) → Reopened (known_at (stop_known it) (rack.bytes old)) kept × IsOfOne (known_at (stop_known it) (rack.bytes old)) kept)
      → stop_keeps rack it (Some kept)

-- a call that reads or writes is a plain one on each member
plain_on : (q : ℕ) (call : RackCall) → IsReadOrWrite call → IsPlainOn q call
plain_on q (looks p) is = absurd is
plain_on q (blanks p) is = absurd is
plain_on q (calls p) is = tt
plain_on q (extends p) is = absurd is

less_rose : (a b : ℕ) → a < b → Rose a b
less_rose a b less = omega (arith, less)

rose_then : (a b c : ℕ) → Rose a b → b ≤ c → Rose a c
rose_then a b c rose later = omega (arith, rose, later)

then_rose : (a b c : ℕ) → a ≤ b → Rose b c → Rose a c
then_rose a b c later rose = omega (arith, rose, later)

rise_both : (a b c : Counts) → CountsRise a b → CountsRise b c → CountsRise a c
rise_both a b c first second = record {
  faults = λ q. omega (arith, first.faults q, second.faults q);
  calls = omega (arith, first.calls, second.calls);
  writes = omega (arith, first.writes, second.writes);
}

rise_none : (a : Counts) → CountsRise a a
rise_none a = record { faults = λ q. omega arith; calls = omega arith; writes = omega arith }

told_same : (old new : Option (List ℕ)) → Told IsSame old new → IsSome new → IsSome old
told_same None None same told = told
told_same None (Some b) same told = absurd same
told_same (Some a) None same told = absurd (cc told)
told_same (Some a) (Some b) same told = refl

module _ {R : Type 0} (rack : Ghosts R) where
  -- the counts of a plain one are those behind
  pub counts_of_plain : (it : R) → stop_counts rack (Plain it) ≡ rack.counts (behind (Plain it))
  counts_of_plain it = refl

  -- one after another
  pub ties_both : (a b c : StopRack R) → RisesWithBehind rack a b → RisesWithBehind rack b c → RisesWithBehind rack a c
  ties_both a b c first second = record {
    rise = rise_both (rack.counts (behind a)) (rack.counts (behind b)) (rack.counts (behind c)) first.rise second.rise;
    told_before = λ q tells. first.told_before q (second.told_before q tells);
    tied = λ q tells rose. elim (cases_lt ((stop_counts rack a).faults q) ((stop_counts rack b).faults q)) [
      | inl early ↦ rose_then _ _ _ (first.tied q (second.told_before q tells) early) (second.rise.faults q)
      | inr late ↦ then_rose _ _ _ (first.rise.faults q) (second.tied q tells (omega (arith, rose, late)))
    ];
  }

  -- ---- calls

  module _ (after : (a b : R) (made : List RackCall) → rack.made a made b → After rack made a b) where
    -- whatever calls are made, no count behind falls
    rise_by : (a b : StopRack R) (made : List RackCall) → made_by rack a made b → CountsRise (rack.counts (behind a)) (rack.counts (behind b))
    rise_by (Plain a) (Plain b) made is = (after a b made is).rise
    rise_by (Plain a) (Doubled b) made is = absurd is
    rise_by (Doubled a) (Plain b) made is = absurd is
    rise_by (Doubled a) (Doubled b) made is = is.behind

    told_by : (a b : StopRack R) (made : List RackCall) → made_by rack a made b → (q : ℕ) → rack.tells (behind b) q → rack.tells (behind a) q
    told_by (Plain a) (Plain b) made is = (after a b made is).told_before
    told_by (Plain a) (Doubled b) made is = absurd is
    told_by (Doubled a) (Plain b) made is = absurd is
    told_by (Doubled a) (Doubled b) made is = is.after.told_before

    -- of calls that are plain ones on this member
    tied_by : (a b : StopRack R) (made : List RackCall) → made_by rack a made b → (q : ℕ) → Each (IsPlainOn q) made → rack.tells (behind b) q
        → (stop_counts rack a).faults q < (stop_counts rack b).faults q → Rose ((rack.counts (behind a)).faults q) ((rack.counts (behind b)).faults q)
    tied_by (Plain a) (Plain b) made is q each tells rose = less_rose _ _ rose
    tied_by (Plain a) (Doubled b) made is q each tells rose = absurd is
    tied_by (Doubled a) (Plain b) made is q each tells rose = absurd is
    tied_by (Doubled a) (Doubled b) made is q each tells rose = is.cause q tells each rose

    name_by : (a b : StopRack R) (made : List RackCall) → made_by rack a made b → rack.name (behind b) ≡ rack.name (behind a)
    name_by (Plain a) (Plain b) made is = (after a b made is).same_rack
    name_by (Plain a) (Doubled b) made is = absurd is
    name_by (Doubled a) (Plain b) made is = absurd is
    name_by (Doubled a) (Doubled b) made is = is.after.same_rack

    -- it is the same rack behind
    pub calls_name : (a b : StopRack R) (made : List RackCall) → StopMade rack a made b → rack.name (behind b) ≡ rack.name (behind a)
    calls_name a b made is = name_by a b made is.by

    -- what it tells now it told before
    pub calls_told : (a b : StopRack R) (made : List RackCall) → StopMade rack a made b → (q : ℕ) → rack.tells (behind b) q → rack.tells (behind a) q
    calls_told a b made is = told_by a b made is.by

    pub calls_rise : (a b : StopRack R) (made : List RackCall) → StopMade rack a made b → CountsRise (rack.counts (behind a)) (rack.counts (behind b))
    calls_rise a b made is = rise_by a b made is.by

    -- a member that is neither looked for, made anew nor extended
    pub plain_tied : (a b : StopRack R) (made : List RackCall) → StopMade rack a made b → (q : ℕ) → Each (IsPlainOn q) made → rack.tells (behind b) q
        → (stop_counts rack a).faults q < (stop_counts rack b).faults q → Rose ((rack.counts (behind a)).faults q) ((rack.counts (behind b)).faults q)
    plain_tied a b made is = tied_by a b made is.by

    -- calls that read and write
    pub reads_tied : (a b : StopRack R) (made : List RackCall) → StopMade rack a made b → Each IsReadOrWrite made → RisesWithBehind rack a b
    reads_tied a b made is each = record {
      rise = rise_by a b made is.by;
      told_before = told_by a b made is.by;
      tied = λ q. tied_by a b made is.by q (each_such IsReadOrWrite (IsPlainOn q) (plain_on q) made each);
    }

    pub only_tied : (a b : StopRack R) → MadeOnly (stop_words rack) IsReadOrWrite a b → RisesWithBehind rack a b
    only_tied a b only = reads_tied a b only.calls only.made only.each

    -- ---- a member that none of the calls is on

    alone_by : (a b : StopRack R) (made : List RackCall) → made_by rack a made b → (q : ℕ) → Each (IsNotOn q) made → LeavesAlone rack q (behind a) (behind b)
    alone_by (Plain a) (Plain b) made is q each = alone_after rack q made a b (after a b made is) each
    alone_by (Plain a) (Doubled b) made is q each = absurd is
    alone_by (Doubled a) (Plain b) made is q each = absurd is
    alone_by (Doubled a) (Doubled b) made is q each = (is.alone q each).0

    -- it is left alone behind
    pub calls_alone : (a b : StopRack R) (made : List RackCall) → StopMade rack a made b → (q : ℕ) → Each (IsNotOn q) made → LeavesAlone rack q (behind a) (behind b)
    calls_alone a b made is = alone_by a b made is.by

  stand_by : (a b : StopRack R) (made : List RackCall) → made_by rack a made b → (q : ℕ) → Each (IsNotOn q) made → stop_stands_in b q ≡ stop_stands_in a q
  stand_by (Plain a) (Plain b) made is q each = refl
  stand_by (Plain a) (Doubled b) made is q each = absurd is
  stand_by (Doubled a) (Plain b) made is q each = absurd is
  stand_by (Doubled a) (Doubled b) made is q each = (is.alone q each).1

  -- and stands in memory as it did
  pub calls_stand : (a b : StopRack R) (made : List RackCall) → StopMade rack a made b → (q : ℕ) → Each (IsNotOn q) made → stop_stands_in b q ≡ stop_stands_in a q
  calls_stand a b made is = stand_by a b made is.by

  room_by : (a b : StopRack R) (made : List RackCall) → made_by rack a made b → stop_room b ≡ stop_room a
  room_by (Plain a) (Plain b) made is = refl
  room_by (Plain a) (Doubled b) made is = absurd is
  room_by (Doubled a) (Plain b) made is = absurd is
  room_by (Doubled a) (Doubled b) made is = ap (λ (n : ℕ). Some n) is.room

  -- the room for extra bytes is as it was
  pub calls_room : (a b : StopRack R) (made : List RackCall) → StopMade rack a made b → stop_room b ≡ stop_room a
  calls_room a b made is = room_by a b made is.by

  -- ---- commits

  commits_rise_by : (a b : StopRack R) → commits_by rack a b → CountsRise (rack.counts (behind a)) (rack.counts (behind b))
  commits_rise_by (Plain a) (Plain b) same = subst (λ (s : R). CountsRise (rack.counts a) (rack.counts s)) (sym same) (rise_none (rack.counts a))
  commits_rise_by (Plain a) (Doubled b) is = absurd is
  commits_rise_by (Doubled a) (Plain b) is = absurd is
  commits_rise_by (Doubled a) (Doubled b) is = is.rise

  -- no count behind falls by a commit
  pub commits_rise : (a b : StopRack R) → StopCommits rack a b → CountsRise (rack.counts (behind a)) (rack.counts (behind b))
  commits_rise a b is = commits_rise_by a b is.by

  commits_own_by : (a b : StopRack R) → commits_by rack a b → CountsRise (stop_counts rack a) (stop_counts rack b)
  commits_own_by (Plain a) (Plain b) same = subst (λ (s : R). CountsRise (rack.counts a) (rack.counts s)) (sym same) (rise_none (rack.counts a))
  commits_own_by (Plain a) (Doubled b) is = absurd is
  commits_own_by (Doubled a) (Plain b) is = absurd is
  commits_own_by (Doubled a) (Doubled b) is = is.own

  -- nor does an own one
  pub commits_own : (a b : StopRack R) → StopCommits rack a b → CountsRise (stop_counts rack a) (stop_counts rack b)
  commits_own a b is = commits_own_by a b is.by

  commits_alone_by : (a b : StopRack R) → commits_by rack a b → (q : ℕ) → stop_stands_in a q ≡ false → LeavesAlone rack q (behind a) (behind b)
  commits_alone_by (Plain a) (Plain b) is q out = subst (λ (s : R). LeavesAlone rack q a s) (sym is) (alone_none rack q a)
  commits_alone_by (Plain a) (Doubled b) is q out = absurd is
  commits_alone_by (Doubled a) (Plain b) is q out = absurd is
  commits_alone_by (Doubled a) (Doubled b) is q out = (is.alone q out).0

  -- a member that doesn't stand in memory is left alone behind
  pub commits_alone : (a b : StopRack R) → StopCommits rack a b → (q : ℕ) → stop_stands_in a q ≡ false → LeavesAlone rack q (behind a) (behind b)
  commits_alone a b is = commits_alone_by a b is.by

  commits_out_by : (a b : StopRack R) → commits_by rack a b → (q : ℕ) → stop_stands_in a q ≡ false → stop_stands_in b q ≡ false
  commits_out_by (Plain a) (Plain b) is q out = out
  commits_out_by (Plain a) (Doubled b) is q out = absurd is
  commits_out_by (Doubled a) (Plain b) is q out = absurd is
  commits_out_by (Doubled a) (Doubled b) is q out = (is.alone q out).1

  -- and doesn't stand then
  pub commits_out : (a b : StopRack R) → StopCommits rack a b → (q : ℕ) → stop_stands_in a q ≡ false → stop_stands_in b q ≡ false
  commits_out a b is = commits_out_by a b is.by

  commits_room_by : (a b : StopRack R) → commits_by rack a b → stop_room b ≡ stop_room a
  commits_room_by (Plain a) (Plain b) is = refl
  commits_room_by (Plain a) (Doubled b) is = absurd is
  commits_room_by (Doubled a) (Plain b) is = absurd is
  commits_room_by (Doubled a) (Doubled b) is = ap (λ (n : ℕ). Some n) is.room

  -- the room for extra bytes is as it was
  pub commits_room : (a b : StopRack R) → StopCommits rack a b → stop_room b ≡ stop_room a
  commits_room a b is = commits_room_by a b is.by

  commits_name_by : (a b : StopRack R) → commits_by rack a b → rack.name (behind b) ≡ rack.name (behind a)
  commits_name_by (Plain a) (Plain b) is = ap rack.name is
  commits_name_by (Plain a) (Doubled b) is = absurd is
  commits_name_by (Doubled a) (Plain b) is = absurd is
  commits_name_by (Doubled a) (Doubled b) is = is.same_rack

  -- it is the same rack behind
  pub commits_name : (a b : StopRack R) → StopCommits rack a b → rack.name (behind b) ≡ rack.name (behind a)
  commits_name a b is = commits_name_by a b is.by

  commits_told_by : (a b : StopRack R) → commits_by rack a b → (q : ℕ) → rack.tells (behind b) q → rack.tells (behind a) q
  commits_told_by (Plain a) (Plain b) is q told = subst (λ (s : R). rack.tells s q) is told
  commits_told_by (Plain a) (Doubled b) is q told = absurd is
  commits_told_by (Doubled a) (Plain b) is q told = absurd is
  commits_told_by (Doubled a) (Doubled b) is q told = is.told_before q told

  -- what it tells now it told before
  pub commits_told : (a b : StopRack R) → StopCommits rack a b → (q : ℕ) → rack.tells (behind b) q → rack.tells (behind a) q
  commits_told a b is = commits_told_by a b is.by

  commits_tell_by : (a b : StopRack R) → commits_by rack a b → (q : ℕ) → IsSome (stop_bytes rack b q) → IsSome (stop_bytes rack a q)
  commits_tell_by (Plain a) (Plain b) is q told = subst (λ (s : R). IsSome (rack.bytes s q)) is told
  commits_tell_by (Plain a) (Doubled b) is q told = absurd is
  commits_tell_by (Doubled a) (Plain b) is q told = absurd is
  commits_tell_by (Doubled a) (Doubled b) is q told = told_same (double_bytes rack a q) (double_bytes rack b q) (is.same q) told

  -- so were the bytes of each member
  pub commits_tell : (a b : StopRack R) → StopCommits rack a b → StillTold (stop_bytes rack a) (stop_bytes rack b)
  commits_tell a b is q told = commits_tell_by a b is.by q told

  -- ---- members that are known

  known_by : (a b : StopRack R) (made : List RackCall) → made_by rack a made b → (q : ℕ) → stop_known a q ≡ true
      → (stop_known b q ≡ true) ⊎ Rose ((stop_counts rack a).faults q) ((stop_counts rack b).faults q)
  known_by (Plain a) (Plain b) made is q known = inl refl
  known_by (Plain a) (Doubled b) made is q known = absurd is
  known_by (Doubled a) (Plain b) made is q known = absurd is
  known_by (Doubled a) (Doubled b) made is q known = is.known q known

  -- a member stays known, but where its count rose
  pub calls_known : (a b : StopRack R) (made : List RackCall) → StopMade rack a made b → (q : ℕ) → stop_known a q ≡ true
      → (stop_known b q ≡ true) ⊎ Rose ((stop_counts rack a).faults q) ((stop_counts rack b).faults q)
  calls_known a b made is = known_by a b made is.by

  stand_known_by : (a b : StopRack R) (made : List RackCall) → made_by rack a made b → StandKnown a → StandKnown b
  stand_known_by (Plain a) (Plain b) made is known = λ q at. refl
  stand_known_by (Plain a) (Doubled b) made is known = absurd is
  stand_known_by (Doubled a) (Plain b) made is known = absurd is
  stand_known_by (Doubled a) (Doubled b) made is known = is.standing known

  -- where each member that stands was known, each that stands is
  pub calls_stand_known : (a b : StopRack R) (made : List RackCall) → StopMade rack a made b → StandKnown a → StandKnown b
  calls_stand_known a b made is = stand_known_by a b made is.by

  commits_known_by : (a b : StopRack R) → commits_by rack a b → (q : ℕ) → stop_known b q ≡ stop_known a q
  commits_known_by (Plain a) (Plain b) is q = refl
  commits_known_by (Plain a) (Doubled b) is q = absurd is
  commits_known_by (Doubled a) (Plain b) is q = absurd is
  commits_known_by (Doubled a) (Doubled b) is q = ap (λ (flags : List Bool). flag_in flags q) is.known

  -- a commit leaves it known just where it was
  pub commits_known : (a b : StopRack R) → StopCommits rack a b → (q : ℕ) → stop_known b q ≡ stop_known a q
  commits_known a b is = commits_known_by a b is.by

  commits_stood_by : (a b : StopRack R) → commits_by rack a b → (q : ℕ) → stop_stands_in b q ≡ true → stop_stands_in a q ≡ true
  commits_stood_by (Plain a) (Plain b) is q at = at
  commits_stood_by (Plain a) (Doubled b) is q at = absurd is
  commits_stood_by (Doubled a) (Plain b) is q at = absurd is
  commits_stood_by (Doubled a) (Doubled b) is q at = is.stood q at

  pub commits_stand_known : (a b : StopRack R) → StopCommits rack a b → StandKnown a → StandKnown b
  commits_stand_known a b is known q at = commits_known a b is q ∙ known q (commits_stood_by a b is.by q at)

  -- ---- an opening

  pub opened_stand_known : (old : R) (it : StopRack R) (extra : List ℕ) → Opens rack old it extra → StandKnown it
  opened_stand_known old (Plain it) extra opens q at = refl
  opened_stand_known old (Doubled it) extra opens q at = (opens.standing q at).0

  -- a double rack keeps what its known members are reopened as
  pub opened_keeps : (old : R) (it : StopRack R) (extra : List ℕ) (room : ℕ) → Opens rack old it extra → rack.steady old → stop_room it ≡ Some room → KeepsOpened rack old it
  opened_keeps old (Plain it) extra room opens steady has = absurd (cc has)
  opened_keeps old (Doubled it) extra room opens steady has = record { none = opens.keeps_none steady; some = opens.keeps steady }

  -- ---- what is kept

  pub keeps_reopened : (it : StopRack R) (kept : Kept) → stop_keeps rack it (Some kept) → TellsAll (rack.bytes (behind it)) → Reopened (known_at (stop_known it) (rack.bytes (behind it))) kept
  keeps_reopened (Plain it) kept keeps told = absurd keeps
  keeps_reopened (Doubled it) kept keeps told = (keeps.1 told).1.reopened

  pub keeps_steady : (it : StopRack R) (kept : Option Kept) → stop_keeps rack it kept → rack.steady (behind it)
  keeps_steady (Plain it) kept keeps = absurd keeps
  keeps_steady (Doubled it) None keeps = keeps.0
  keeps_steady (Doubled it) (Some kept) keeps = keeps.0

  -- ---- what a rack means, by the rack behind

  pub name_behind : (it : StopRack R) → stop_name rack it ≡ rack.name (behind it)
  name_behind (Plain it) = refl
  name_behind (Doubled it) = refl

  pub tells_behind : (it : StopRack R) (q : ℕ) → stop_tells rack it q → rack.tells (behind it) q
  tells_behind (Plain it) q told = told
  tells_behind (Doubled it) q told = told

  pub told_behind : (it : StopRack R) (q : ℕ) → rack.tells (behind it) q → stop_tells rack it q
  told_behind (Plain it) q told = told
  told_behind (Doubled it) q told = told

  -- a rack without room for a checkpoint is plain
  pub is_plain : (it : StopRack R) → stop_room it ≡ None → it ≡ Plain (behind it)
  is_plain (Plain it) lacks = refl
  is_plain (Doubled it) lacks = absurd (cc lacks)

  pub plain_counts : (it : StopRack R) → stop_room it ≡ None → stop_counts rack it ≡ rack.counts (behind it)
  plain_counts (Plain it) lacks = refl
  plain_counts (Doubled it) lacks = absurd (cc lacks)

  pub plain_bytes : (it : StopRack R) → stop_room it ≡ None → stop_bytes rack it ≡ rack.bytes (behind it)
  plain_bytes (Plain it) lacks = refl
  plain_bytes (Doubled it) lacks = absurd (cc lacks)

  pub plain_idle : (it : StopRack R) → stop_room it ≡ None → (q : ℕ) → stop_stands_in it q ≡ false
  plain_idle (Plain it) lacks q = refl
  plain_idle (Doubled it) lacks q = absurd (cc lacks)

  -- no count of a plain one fell where none behind did
  pub plain_rise : (a b : StopRack R) → stop_room a ≡ None → stop_room b ≡ None → CountsRise (rack.counts (behind a)) (rack.counts (behind b))
      → CountsRise (stop_counts rack a) (stop_counts rack b)
  plain_rise (Plain a) (Plain b) lacks none rise = rise
  plain_rise (Plain a) (Doubled b) lacks none rise = absurd (cc none)
  plain_rise (Doubled a) b lacks none rise = absurd (cc lacks)

-- ---- a new double rack

-- no member of it is known
pub new_unknown : {R : Type 0} (old : R) (members most room : ℕ) (it : StopRack R) → IsNew old members most room it → (q : ℕ) → stop_known it q ≡ false
new_unknown old members most room (Plain it) new q = absurd new
new_unknown old members most room (Doubled it) new q = new.1.known q

-- none of them stands
pub new_stand_known : {R : Type 0} (old : R) (members most room : ℕ) (it : StopRack R) → IsNew old members most room it → StandKnown it
new_stand_known old members most room (Plain it) new q at = absurd new
new_stand_known old members most room (Doubled it) new q at = absurd (false≢true (sym (new.1.stands q) ∙ at))
