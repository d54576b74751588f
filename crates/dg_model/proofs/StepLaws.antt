-- What each step keeps, whatever its event. A library for the crates above.
use Rattle.std.proofs.Common.{◌≡◌, inl, inr, ◌∙◌, ap, sym, subst, arith, ℕ, Bool, true, false, List, [], ◌∷◌, length}
use Rattle.std.specs.Prelude.{Option, Some, None, take}
use Rattle.std.proofs.lemmas.List.{length-set}
use Rattle.dg_model.specs.Blocks.{padded}
use Rattle.dg_model.specs.Copies.{Spread}
use Rattle.dg_model.specs.Changes.{IsCut, Misses, PassesSlots, Settles, Spreads, Stays, Strikes, Tends, Writes, spread_in}
use Rattle.dg_model.specs.Marks.{AreNext, with_mark}
use Rattle.dg_model.specs.Members.{ArePaired}
use Rattle.dg_model.specs.Moves.{moves, moved}
use Rattle.dg_model.specs.Plans.{targets_of}
use Rattle.dg_model.specs.Runs.{Run}
use Rattle.dg_model.specs.States.{Counts, CountsRise, State, is_broken, place_of}
use Rattle.dg_model.specs.Steps.{Handles, Step, Touches, member_of}
use Rattle.dg_model.specs.Tables.{Table}
use Rattle.dg_model.specs.declared.events.Event.{Event}
use Rattle.dg_model.specs.declared.events.Event.TheVariants.{Write, Read, Fail, Replace, Rebuild, Settle, Tend, Diffuse, Who, Pending, Cat, Ls, Tree, Home, Save, Regroup, LostFiles, Audit, DropDisk, MendDisk}
use Rattle.dg_model.specs.declared.replies.Reply.{Reply}
use Rattle.dg_model.specs.declared.replies.Reply.TheVariants.{Done, Range, Degraded, Unavailable, Already, Lost, NotOut, Failed, NotFilling, Copied, Settled, Malformed, NoSpace, Tended, Diffused, NotSettled, Verdict, Blocks, Data, Given, Cut, Listed, ListedCut, Nodes, NodesCut, Refused, HomeAt, NoHome, Saved, NotSaved, Whole, TooFew, Regrouped, LostFiles as LostFilesReply, LostFilesCut, Audited, NotParity, Mended}
use Rattle.dg_model.proofs.TableLaws.{IsSized, all_done_sized, sited_sized, sized_same, spread_over_sized}

-- The array's numbers stay, each block has a row, a value and a mark if it had them, no count falls, and a member that is refilled keeps
-- a good partner.
pub record Keeps (old new : State) : Type 0 where
  pub table : IsSized old.table new.table
  pub blocks : length new.blocks ≡ length old.blocks
  pub marks : length new.pending ≡ length old.pending
  pub counts : CountsRise old.counts new.counts
  pub paired : ArePaired old.members → ArePaired new.members

rises_same : (old new : Counts) → new ≡ old → CountsRise old new
rises_same old new e = record {
  faults = λ q. omega (arith, ap (λ c. c.faults q) e);
  calls = omega (arith, ap (λ c. c.calls) e);
  writes = omega (arith, ap (λ c. c.writes) e);
}

pub rises_both : (old mid new : Counts) → CountsRise old mid → CountsRise mid new → CountsRise old new
rises_both old mid new one other = record {
  faults = λ q. omega (arith, one.faults q, other.faults q);
  calls = omega (arith, one.calls, other.calls);
  writes = omega (arith, one.writes, other.writes);
}

pub keeps_same : (old new : State) → new ≡ old → Keeps old new
keeps_same old new e = record {
  table = sized_same old.table new.table (ap (λ s. s.table) e);
  blocks = ap (λ s. length s.blocks) e;
  marks = ap (λ s. length s.pending) e;
  counts = rises_same old.counts new.counts (ap (λ s. s.counts) e);
  paired = λ h. subst (λ (s : State). ArePaired s.members) (sym e) h;
}

pub keeps_both : (old mid new : State) → Keeps old mid → Keeps mid new → Keeps old new
keeps_both old mid new one other = record {
  table = record { shape = other.table.shape ∙ one.table.shape; rows = other.table.rows ∙ one.table.rows };
  blocks = other.blocks ∙ one.blocks;
  marks = other.marks ∙ one.marks;
  counts = rises_both old.counts mid.counts new.counts one.counts other.counts;
  paired = λ h. other.paired (one.paired h);
}

pub keeps_stays : (old new : State) → Stays old new → Keeps old new
keeps_stays old new h = record {
  table = sized_same old.table new.table (ap (λ s. s.table) h.rest);
  blocks = ap (λ s. length s.blocks) h.rest;
  marks = ap (λ s. length s.pending) h.rest;
  counts = h.goes.passes.counts;
  paired = λ p. h.goes.passes.paired;
}

marks_next : (broken : Bool) (Known : Type 0) (l n : ℕ) (v : List (List ℕ)) (old new : List Bool) → AreNext broken Known l n v old new → length new ≡ length old
marks_next true Known l n v old new h = ap (λ marks. length marks) h
marks_next false Known l n v old new h = h.size

keeps_writes : (Known : Type 0) (old : State) (b : ℕ) (bytes : List ℕ) (new : State) → Writes Known old b bytes new → Keeps old new
keeps_writes Known old b bytes new h = record {
  table = sited_sized old.table b new.table h.sited;
  blocks = ap (λ s. length s.blocks) h.rest ∙ length-set old.blocks b (padded old.table.shape.l bytes);
  marks = marks_next (is_broken new) Known _ _ new.blocks (with_mark old.pending b) new.pending h.marks ∙ length-set old.pending b true;
  counts = h.goes.passes.counts;
  paired = λ p. h.goes.passes.paired;
}

keeps_strikes : (old : State) (q : ℕ) (new : State) → Strikes old q new → Keeps old new
keeps_strikes old q new h = record {
  table = sized_same old.table new.table (ap (λ s. s.table) h.rest);
  blocks = ap (λ s. length s.blocks) h.rest;
  marks = ap (λ s. length s.pending) h.rest;
  counts = rises_same old.counts new.counts (ap (λ s. s.counts) h.rest);
  paired = λ p. h.paired;
}

keeps_misses : (old : State) (q : ℕ) (new : State) → Misses old q new → Keeps old new
keeps_misses old q new h = record {
  table = sized_same old.table new.table (ap (λ s. s.table) h.rest);
  blocks = ap (λ s. length s.blocks) h.rest;
  marks = ap (λ s. length s.pending) h.rest;
  counts = h.passes.counts;
  paired = λ p. h.passes.paired;
}

keeps_cut : (Known : Type 0) (old : State) (limit : Option ℕ) (new : State) → IsCut Known old limit new → Keeps old new
keeps_cut Known old limit new h = record {
  table = subst (λ (t : Table). IsSized old.table t) (sym h.cut.cut.led) (all_done_sized h.cut.cut.front old.table);
  blocks = ap (λ s. length s.blocks) h.rest;
  marks = ap (λ s. length s.pending) h.rest;
  counts = h.goes.passes.counts;
  paired = λ p. h.goes.passes.paired;
}

moved_sized : (targets : ℕ → ℕ → Bool) (limit : Option ℕ) (old new : Table) → new ≡ moved targets limit old → IsSized old new
moved_sized targets limit old new e = subst (λ (t : Table). IsSized old t) (sym e) (all_done_sized (moves targets limit old) old)

keeps_tends : (Known : Type 0) (old : State) (n m l : ℕ) (new : State) → Tends Known old n m l new → Keeps old new
keeps_tends Known old n m l new h = record {
  table = moved_sized (targets_of old.table.shape h.wants h.found) (Some n) old.table new.table (ap (λ s. s.table) h.rest);
  blocks = ap (λ s. length s.blocks) h.rest;
  marks = ap (λ s. length s.pending) h.rest;
  counts = h.goes.passes.counts;
  paired = λ p. h.goes.passes.paired;
}

keeps_settles : (Known : Type 0) (old new : State) → Settles Known old new → Keeps old new
keeps_settles Known old new h = record {
  table = moved_sized (targets_of old.table.shape h.wants h.found) None old.table new.table (ap (λ s. s.table) h.rest);
  blocks = ap (λ s. length s.blocks) h.rest;
  marks = ap (λ s. length s.pending) h.rest;
  counts = h.goes.passes.counts;
  paired = λ p. h.goes.passes.paired;
}

keeps_spreads : (Known : Type 0) (old : State) (count gained : ℕ) (new : State) → Spreads Known old count gained new → Keeps old new
keeps_spreads Known old count gained new h = record {
  table =
      subst (λ (t : Table). IsSized old.table t) (sym (ap (λ (s : Spread). s.table) h.spread))
      (spread_over_sized h.wants old.homes (take count old.recent) (spread_in old));
  blocks = ap (λ s. length s.blocks) h.rest;
  marks = ap (λ s. length s.pending) h.rest;
  counts = h.goes.passes.counts;
  paired = λ p. h.goes.passes.paired;
}

keeps_slots : (Known : Type 0) (old : State) (s low high : ℕ) (new : State) → PassesSlots Known old s low high new → Keeps old new
keeps_slots Known old s low high new h = record {
  table = record { shape = h.reaps.shape; rows = h.reaps.rows };
  blocks = h.reaps.count;
  marks = ap (λ state. length state.pending) h.rest;
  counts = h.passes.counts;
  paired = λ p. h.passes.paired;
}

keeps_touches : (Known : Type 0) (old : State) (path : List ℕ) (new : State) → Touches Known old path new → Keeps old new
keeps_touches Known old path new h = record {
  table = sized_same old.table new.table (ap (λ s. s.table) h.rest);
  blocks = ap (λ s. length s.blocks) h.rest;
  marks = ap (λ s. length s.pending) h.rest;
  counts = h.goes.passes.counts;
  paired = λ p. h.goes.passes.paired;
}

-- the boundaries in use stay: this is no `regroup` that takes some out
abbrev pub StaysInUse : Event → Reply → Type 0
StaysInUse Regroup (Regrouped r c) = ⊥
StaysInUse event reply = Unit {0}

keeps_handles : (old : State) (s : ℕ) (new : State) → Handles old s new → Keeps old new
keeps_handles old s new h = record {
  table = sized_same old.table new.table (ap (λ s. s.table) h.rest);
  blocks = ap (λ s. length s.blocks) h.rest;
  marks = ap (λ s. length s.pending) h.rest;
  counts = h.counts;
  paired = λ p. h.paired;
}

pub step_keeps : (Known : Type 0) (old : State) (event : Event) (reply : Reply) (new : State) → StaysInUse event reply → Step Known old event reply new → Keeps old new
step_keeps Known old (Write b bytes) Range new u h = keeps_same old new h.1
step_keeps Known old (Write b bytes) Degraded new u h = elim h.1 [ inl was ↦ keeps_same old new was.1 | inr now ↦ keeps_stays old new now.3 ]
step_keeps Known old (Write b bytes) Done new u h = keeps_writes Known old b bytes new h.2
step_keeps Known old (Read b) Range new u h = keeps_same old new h.1
step_keeps Known old (Read b) Unavailable new u h = keeps_stays old new h.3
step_keeps Known old (Read b) (Data bytes) new u h = keeps_stays old new h.5
step_keeps Known old (Fail s j) Range new u h = keeps_same old new h.1
step_keeps Known old (Fail s j) Already new u h = keeps_same old new h.2
step_keeps Known old (Fail s j) Done new u h = keeps_strikes old _ new h.2
step_keeps Known old (Replace s j) Range new u h = keeps_same old new h.1
step_keeps Known old (Replace s j) (Lost t) new u h = elim h.3 [ inl was ↦ keeps_same old new was.1 | inr now ↦ keeps_stays old new now.2 ]
step_keeps Known old (Replace s j) NotOut new u h = keeps_same old new h.2
step_keeps Known old (Replace s j) Failed new u h = keeps_misses old (member_of old s j) new h.3
step_keeps Known old (Replace s j) Done new u h = record {
  table = sized_same old.table new.table (ap (λ s. s.table) h.3.rest);
  blocks = ap (λ s. length s.blocks) h.3.rest;
  marks = ap (λ s. length s.pending) h.3.rest;
  counts = h.3.passes.counts;
  paired = λ p. h.3.passes.paired;
}
step_keeps Known old (Rebuild s n) Range new u h = keeps_same old new h.1
step_keeps Known old (Rebuild s n) (Lost t) new u h =
    elim h.2 [ inl was ↦ keeps_same old new was.1 | inr now ↦ keeps_slots Known old (place_of old s) now.2.low now.2.high new now.2.slots ]
step_keeps Known old (Rebuild s n) NotFilling new u h = keeps_same old new h.3
step_keeps Known old (Rebuild s n) Failed new u h = keeps_slots Known old (place_of old s) h.3.low h.3.high new h.3.slots
step_keeps Known old (Rebuild s n) (Copied d l) new u h = keeps_slots Known old (place_of old s) h.2.low h.2.high new h.2.slots
step_keeps Known old Settle (Lost s) new u h = elim h [
  | inl was ↦ keeps_same old new was.1
  | inr now ↦ elim now.2 [ inl stays ↦ keeps_stays old new stays | inr cut ↦ keeps_cut Known old None new cut.1 ]
]
step_keeps Known old Settle Settled new u h = elim h.1 [ inl was ↦ keeps_same old new was.1 | inr now ↦ keeps_settles Known old new now.2 ]
step_keeps Known old Settle (Malformed kind n) new u h = keeps_stays old new h.3.stays
step_keeps Known old Settle (NoSpace bad) new u h = keeps_stays old new h.4.stays
step_keeps Known old (Tend n) (Lost s) new u h = elim h [
  | inl was ↦ keeps_same old new was.1
  | inr now ↦ elim now.2 [ inl stays ↦ keeps_stays old new stays | inr cut ↦ keeps_cut Known old (Some n) new cut ]
]
step_keeps Known old (Tend n) (Tended m l) new u h = elim h.1 [ inl was ↦ keeps_same old new was.3 | inr now ↦ keeps_tends Known old n m l new now.2 ]
step_keeps Known old (Tend n) (NoSpace bad) new u h = keeps_stays old new h.3.stays
step_keeps Known old Diffuse NotSettled new u h = keeps_same old new h.1
step_keeps Known old Diffuse (Lost s) new u h =
    elim h.1 [ inl was ↦ keeps_same old new was.1 | inr now ↦ keeps_spreads Known old now.1.0 now.1.1 new now.1.2 ]
step_keeps Known old Diffuse (Diffused gained) new u h = keeps_spreads Known old (length old.recent) gained new h.3
step_keeps Known old (Who b) Range new u h = keeps_same old new h.1
step_keeps Known old (Who b) Unavailable new u h = keeps_same old new h.2
step_keeps Known old (Who b) (Verdict who) new u h = keeps_same old new h.3
step_keeps Known old Pending (Blocks blocks) new u h = keeps_same old new h.1
step_keeps Known old (Cat path) (Given lines) new u h = keeps_touches Known old path new h.2
step_keeps Known old (Cat path) (Refused refusal) new u h = keeps_stays old new h.1
step_keeps Known old (Cat path) Unavailable new u h = keeps_stays old new h.1
step_keeps Known old (Cat path) (Cut lines) new u h = keeps_stays old new h.3
step_keeps Known old (Ls path) (Listed entries) new u h = keeps_stays old new h.1
step_keeps Known old (Ls path) (Refused refusal) new u h = keeps_stays old new h.1
step_keeps Known old (Ls path) Unavailable new u h = keeps_stays old new h.1
step_keeps Known old (Ls path) (ListedCut entries) new u h = keeps_stays old new h.2
step_keeps Known old Tree NotSettled new u h = keeps_same old new h.1
step_keeps Known old Tree (Nodes entries) new u h = keeps_stays old new h.2
step_keeps Known old Tree (Refused refusal) new u h = keeps_stays old new h.2
step_keeps Known old Tree Unavailable new u h = keeps_stays old new h.2
step_keeps Known old Tree (NodesCut entries) new u h = keeps_stays old new h.3
step_keeps Known old (Home path) NotSettled new u h = keeps_same old new h.1
step_keeps Known old (Home path) (HomeAt s copy) new u h = keeps_stays old new h.2
step_keeps Known old (Home path) NoHome new u h = keeps_stays old new h.2
step_keeps Known old (Home path) (Refused refusal) new u h = keeps_stays old new h.2
step_keeps Known old (Home path) Unavailable new u h = keeps_stays old new h.2
step_keeps Known old Save (Lost s) new u h = record {
  table = sized_same old.table new.table (ap (λ s. s.table) h.1.rest);
  blocks = ap (λ s. length s.blocks) h.1.rest;
  marks = ap (λ s. length s.pending) h.1.rest;
  counts = h.1.passes.counts;
  paired = λ p. h.1.passes.paired;
}
step_keeps Known old Save (Saved sequence) new u h = record {
  table = sized_same old.table new.table (ap (λ s. s.table) h.rest);
  blocks = ap (λ s. length s.blocks) h.rest;
  marks = ap (λ s. length s.pending) h.rest;
  counts = h.passes.counts;
  paired = λ p. h.passes.paired;
}
step_keeps Known old Save NotSaved new u h = keeps_same old new h.1
step_keeps Known old Regroup Whole new u h = keeps_same old new h.1
step_keeps Known old Regroup TooFew new u h = keeps_stays old new h.3
step_keeps Known old Regroup (Regrouped r c) new u h = absurd u
step_keeps Known old LostFiles NotSettled new u h = keeps_same old new h.1
step_keeps Known old LostFiles (LostFilesReply lost) new u h = keeps_stays old new h.2
step_keeps Known old LostFiles (Refused refusal) new u h = keeps_stays old new h.2
step_keeps Known old LostFiles Unavailable new u h = keeps_stays old new h.2
step_keeps Known old LostFiles (LostFilesCut lost) new u h = keeps_stays old new h.3
step_keeps Known old Audit (Audited findings) new u h = keeps_stays old new h.1
step_keeps Known old Audit Unavailable new u h = keeps_stays old new h.1
step_keeps Known old (DropDisk s j) NotParity new u h = keeps_same old new h
step_keeps Known old (DropDisk s j) Range new u h = keeps_same old new h
step_keeps Known old (DropDisk s j) Already new u h = keeps_same old new h
step_keeps Known old (DropDisk s j) Done new u h = keeps_handles old s new h.1
step_keeps Known old (MendDisk s j) NotParity new u h = keeps_same old new h
step_keeps Known old (MendDisk s j) Range new u h = keeps_same old new h
step_keeps Known old (MendDisk s j) (Lost t) new u h = elim h.2 [ inl was ↦ keeps_same old new was.1 | inr now ↦ keeps_handles old s new now.2 ]
step_keeps Known old (MendDisk s j) NotOut new u h = keeps_same old new h.1
step_keeps Known old (MendDisk s j) Failed new u h = keeps_handles old s new h.2
step_keeps Known old (MendDisk s j) (Mended c) new u h = keeps_handles old s new h.2
step_keeps Known old event reply new u h = absurd h

-- so they do in each step
abbrev pub StayInUse : List Event → List Reply → Type 0
StayInUse (event ∷ events) (reply ∷ replies) = StaysInUse event reply × StayInUse events replies
StayInUse events replies = Unit {0}

pub run_keeps : (Known : Type 0) (old : State) (events : List Event) (replies : List Reply) (new : State) → StayInUse events replies → Run Known old events replies new → Keeps old new
run_keeps Known old [] [] new u h = keeps_same old new h
run_keeps Known old [] (reply ∷ replies) new u h = absurd h
run_keeps Known old (event ∷ events) [] new u h = absurd h
run_keeps Known old (event ∷ events) (reply ∷ replies) new u h =
    keeps_both old h.0 new (step_keeps Known old event reply h.0 u.0 h.1) (run_keeps Known h.0 events replies new u.1 h.2)
