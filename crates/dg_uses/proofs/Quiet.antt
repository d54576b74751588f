-- A step holds too where the counts of members behind the array's own, and those of calls, are left out: it says nothing of them.
use Rattle.std.proofs.Common.{◌≡◌, ◌≤◌, ◌<◌, ◌/◌, ◌∙◌, inl, inr, ℕ, List, sym, ap, subst, arith}
use Rattle.std.specs.Prelude.{◌⊎◌, if◌then◌else◌, nat_lt, Option, Some, None}
use Rattle.std.proofs.lemmas.Bool.{cases_lt, cond-false, cond-true, le-ltb, lt-ltb}
use Rattle.ufs_model.specs.Blocks.{Reading}
use Rattle.dg_model.proofs.StepLaws.{StaysInUse}
use Rattle.dg_model.specs.Causes.{Rose}
use Rattle.dg_model.specs.Changes.{BreaksOff, FillingFell, Goes, IsCramped, IsCut, IsMember, IsPlan, MayRead, Misses, Passes, PassesSave, PassesSlots, ReadsFew, Rebuilds, Replaces, Saves, SavesNone, SeesWants, Settles, Spreads, Stays, StaysUnwritten, Strikes, Tends, Writes}
use Rattle.dg_model.specs.Members.{HasFallen, MembersFall, OthersFall}
use Rattle.dg_model.specs.Plans.{Plan}
use Rattle.dg_model.specs.States.{Counts, CountsRise, State, place_of}
use Rattle.dg_model.specs.Steps.{Handles, LosesStructure, MayAudit, Step, Touches, member_of}
use Rattle.dg_model.specs.declared.events.Event.{Event}
use Rattle.dg_model.specs.declared.events.Event.TheVariants.{Write, Read, Fail, Replace, Rebuild, Settle, Tend, Diffuse, Who, Pending, Cat, Ls, Tree, Home, Save, Regroup, LostFiles, Audit, DropDisk, MendDisk}
use Rattle.dg_model.specs.declared.findings.Finding.{Finding}
use Rattle.dg_model.specs.declared.members.MemberState.TheVariants.{Filling, Out}
use Rattle.dg_model.specs.declared.replies.Reply.{Reply}
use Rattle.dg_model.specs.declared.replies.Reply.TheVariants.{Done, Range, Degraded, Unavailable, Already, Lost, NotOut, Failed, NotFilling, Copied, Settled, Malformed, NoSpace, Tended, Diffused, NotSettled, Verdict, Blocks, Data, Given, Cut, Listed, ListedCut, Nodes, NodesCut, Refused, HomeAt, NoHome, Saved, NotSaved, Whole, TooFew, Regrouped, LostFiles as LostFilesReply, LostFilesCut, Audited, NotParity, Mended}
use Rattle.dg_model.specs.declared.wants.NoRoom.{NoRoom}
use Rattle.dg_model.specs.declared.wants.Want.{Want}
use Rattle.dg_uses.proofs.Seated.{IsSeated, found_here}

-- the counts of the members of so many boundaries, and those of calls that write
abbrev pub quiet_counts : ℕ → Counts → Counts
quiet_counts b c = record { faults = λ q. if nat_lt (q / 2) b then c.faults q else 0; calls = 0; writes = c.writes }

abbrev pub quiet : ℕ → State → State
quiet b s = record s { counts = quiet_counts b s.counts }

pub at_low : (b : ℕ) (c : Counts) (q : ℕ) → q / 2 < b → (quiet_counts b c).faults q ≡ c.faults q
at_low b c q low = cond-true (nat_lt (q / 2) b) (c.faults q) 0 (lt-ltb (q / 2) b low)

pub at_high : (b : ℕ) (c : Counts) (q : ℕ) → b ≤ q / 2 → (quiet_counts b c).faults q ≡ 0
at_high b c q past = cond-false (nat_lt (q / 2) b) (c.faults q) 0 (le-ltb (q / 2) b past)

pub quiet_rises : (b : ℕ) (c d : Counts) → CountsRise c d → CountsRise (quiet_counts b c) (quiet_counts b d)
quiet_rises b c d h = record {
  faults = λ q. elim (cases_lt (q / 2) b) [
    | inl low ↦ omega (arith, at_low b c q low, at_low b d q low, h.faults q)
    | inr past ↦ omega (arith, at_high b c q past, at_high b d q past)
  ];
  calls = omega arith;
  writes = h.writes;
}

pub quiet_rose : (b : ℕ) (c d : Counts) (q : ℕ) → q / 2 < b → Rose (c.faults q) (d.faults q) → Rose ((quiet_counts b c).faults q) ((quiet_counts b d).faults q)
quiet_rose b c d q low rose =
    subst (λ (x : ℕ). Rose x ((quiet_counts b d).faults q)) (sym (at_low b c q low)) (subst (λ (y : ℕ). Rose (c.faults q) y) (sym (at_low b d q low)) rose)

-- ---- steps of a state whose boundaries are so many, behind which no member does anything

module _ (Known : Type 0) (b : ℕ) (old new : State) (was : IsSeated old) (size : old.table.shape.b ≡ b) where
  abbrev O : State
  O = quiet b old

  abbrev N : State
  N = quiet b new

  out : (q : ℕ) → b ≤ q / 2 → old.members q ≡ Out
  out q past = was.out q (omega (arith, size, past))

  fallen : (q : ℕ) → (new.members q ≡ old.members q) ⊎ HasFallen old.counts.faults new.counts.faults old.members new.members q
      → (new.members q ≡ old.members q) ⊎ HasFallen O.counts.faults N.counts.faults old.members new.members q
  fallen q (inl same) = inl same
  fallen q (inr fell) = elim (cases_lt (q / 2) b) [
    | inr past ↦ inl (fell.out ∙ sym (out q past))
    | inl low ↦ inr (record {
      out = fell.out;
      caused = elim fell.caused [ inl rose ↦ inl (quiet_rose b old.counts new.counts q low rose) | inr left ↦ inr left ];
    })
  ]

  falls : MembersFall old.counts.faults new.counts.faults old.members new.members → MembersFall O.counts.faults N.counts.faults old.members new.members
  falls h q = fallen q (h q)

  others : (p : ℕ) → OthersFall p old.counts.faults new.counts.faults old.members new.members → OthersFall p O.counts.faults N.counts.faults old.members new.members
  others p h q apart = fallen q (h q apart)

  same_count : (q : ℕ) → new.counts.faults q ≡ old.counts.faults q → N.counts.faults q ≡ O.counts.faults q
  same_count q e = ap (λ (x : ℕ). if nat_lt (q / 2) b then x else 0) e

  fell : ((q : ℕ) → q / 2 < old.table.shape.b → old.counts.faults q < new.counts.faults q → new.members q ≡ Out) → (q : ℕ) → q / 2 < old.table.shape.b
      → O.counts.faults q < N.counts.faults q → new.members q ≡ Out
  fell h q low less =
      let here : q / 2 < b = omega (arith, size, low) in
      h q low (omega (arith, less, at_low b old.counts q here, at_low b new.counts q here))

  passes : Passes old new → Passes O N
  passes h = record {
    counts = quiet_rises b old.counts new.counts h.counts;
    label = h.label;
    paired = h.paired;
    faults = record { fell = fell h.faults.fell; beyond = λ q past. same_count q (h.faults.beyond q past) };
  }

  goes : Goes old new → Goes O N
  goes h = record { passes = passes h.passes; members = falls h.members; out = λ q is. same_count q (h.out q is) }

  stays : Stays old new → Stays O N
  stays h = record { goes = goes h.goes; rest = ap (λ (s : State). quiet b s) h.rest }

  unwritten : StaysUnwritten old new → StaysUnwritten O N
  unwritten h = record { stays = stays h.stays; unwritten = h.unwritten }

  same : new ≡ old → N ≡ O
  same e = ap (λ (s : State). quiet b s) e

  member : (s j : ℕ) → IsMember old s j → IsMember O s j
  member s j h = record { boundary = h.boundary; side = h.side }

  member_back : (s j : ℕ) → IsMember O s j → IsMember old s j
  member_back s j h = record { boundary = h.boundary; side = h.side }

  reads_few : (c : ℕ) → ReadsFew old c new → ReadsFew O c N
  reads_few c h = record { unwritten = h.unwritten; most = omega arith; one = λ none. omega arith }

  read : {A : Type 0} (reading : Reading A) (answer : Option A) → MayRead Known old new reading answer → MayRead Known O N reading answer
  read reading answer h = record { rule = h.rule; cause = h.cause; unwritten = h.unwritten }

  writes : (c : ℕ) (bytes : List ℕ) → Writes Known old c bytes new → Writes Known O c bytes N
  writes c bytes h = record {
    goes = goes h.goes;
    sited = h.sited;
    few = record { rereads = h.few.rereads; most = λ none. omega arith };
    marks = h.marks;
    rest = ap (λ (s : State). quiet b s) h.rest;
  }

  strikes : (q : ℕ) → Strikes old q new → Strikes O q N
  strikes q h = record { members = h.members; paired = h.paired; rest = ap (λ (s : State). quiet b s) h.rest }

  replaces : (q : ℕ) → Replaces old q new → Replaces O q N
  replaces q h = record {
    passes = passes h.passes;
    blank = h.blank;
    others = others q h.others;
    out = λ p apart is. same_count p (h.out p apart is);
    rest = ap (λ (s : State). quiet b s) h.rest;
  }

  misses : (q : ℕ) → q / 2 < b → Misses old q new → Misses O q N
  misses q low h = record {
    passes = passes h.passes;
    members = falls h.members;
    out = λ p apart is. same_count p (h.out p apart is);
    rose = quiet_rose b old.counts new.counts q low h.rose;
    rest = ap (λ (s : State). quiet b s) h.rest;
  }

  -- a member that was to be made anew, and one that was refilled, are of a boundary
  missed_low : (s j : ℕ) → (old.table.shape.b ≤ member_of old s j / 2 → ⊥) → member_of old s j / 2 < b
  missed_low s j here = elim (cases_lt (member_of old s j / 2) b) [
    | inl low ↦ low
    | inr past ↦ absurd (here (subst (λ (n : ℕ). n ≤ member_of old s j / 2) (sym size) past))
  ]

  filling_low : (q have : ℕ) → old.members q ≡ Filling have → q / 2 < b
  filling_low q have fills = elim (cases_lt (q / 2) b) [
    | inl low ↦ low
    | inr past ↦ absurd (cc (fills, out q past))
  ]

  wants : (state : State) (all : List (Option Want)) → SeesWants Known state all → SeesWants Known (quiet b state) all
  wants state all h = record { fit = h.fit; are = h.are }

  plan : (all : List (Option Want)) (found : Plan) → IsPlan Known old all found → IsPlan Known O all found
  plan all found h = record { parents = h.parents; sees_wants = wants old all h.sees_wants; sees_parents = h.sees_parents; is = h.is }

  cramped : (bad : NoRoom) → IsCramped Known old bad → IsCramped Known O bad
  cramped bad h = record {
    wants = h.wants;
    parents = h.parents;
    sees_wants = wants old h.wants h.sees_wants;
    sees_parents = h.sees_parents;
    is = h.is;
  }

  cut : (limit : Option ℕ) → IsCut Known old limit new → IsCut Known O limit N
  cut limit h = record {
    wants = h.wants;
    found = h.found;
    planned = plan h.wants h.found h.planned;
    goes = goes h.goes;
    cut = h.cut;
    rest = ap (λ (s : State). quiet b s) h.rest;
  }

  tends : (limit m l : ℕ) → Tends Known old limit m l new → Tends Known O limit m l N
  tends limit m l h = record {
    wants = h.wants;
    found = h.found;
    planned = plan h.wants h.found h.planned;
    goes = goes h.goes;
    rest = ap (λ (s : State). quiet b s) h.rest;
    met = h.met;
    left = h.left;
    still = h.still;
  }

  settles : Settles Known old new → Settles Known O N
  settles h = record {
    wants = h.wants;
    found = h.found;
    planned = plan h.wants h.found h.planned;
    goes = goes h.goes;
    sound = h.sound;
    rest = ap (λ (s : State). quiet b s) h.rest;
    still = h.still;
  }

  spreads : (count gained : ℕ) → Spreads Known old count gained new → Spreads Known O count gained N
  spreads count gained h = record {
    wants = h.wants;
    seen = wants old h.wants h.seen;
    goes = goes h.goes;
    spread = h.spread;
    gained_is = h.gained_is;
    rest = ap (λ (s : State). quiet b s) h.rest;
    still = h.still;
  }

  slots : (s low high : ℕ) → PassesSlots Known old s low high new → PassesSlots Known O s low high N
  slots s low high h = record {
    reaped = h.reaped;
    passes = passes h.passes;
    out = λ q is. same_count q (h.out q is);
    kept = h.kept;
    reaps = h.reaps;
    may = record { none = h.may.none; marks = h.may.marks; dead = h.may.dead; all = h.may.all };
    rest = ap (λ (state : State). quiet b state) h.rest;
  }

  rebuilds : (s n d l : ℕ) → Rebuilds Known old s n d l new → Rebuilds Known O s n d l N
  rebuilds s n d l h = record {
    q = h.q;
    low = h.low;
    high = h.high;
    filling = h.filling;
    refills = h.refills;
    slots = slots s h.low h.high h.slots;
    member = h.member;
    others = others h.q h.others;
  }

  breaks : (s : ℕ) → BreaksOff Known old s new → BreaksOff Known O s N
  breaks s h = record {
    low = h.low;
    high = h.high;
    at = h.at;
    slots = slots s h.low h.high h.slots;
    members = falls h.members;
    begun = h.begun;
  }

  filling_fell : (s : ℕ) → FillingFell old s new → FillingFell O s N
  filling_fell s h = record {
    q = h.q;
    have = h.have;
    filling = h.filling;
    out = h.out;
    rose = quiet_rose b old.counts new.counts h.q (filling_low h.q h.have h.filling.1) h.rose;
  }

  touches : (path : List ℕ) → Touches Known old path new → Touches Known O path N
  touches path h = record { goes = goes h.goes; i = h.i; is = h.is; rest = ap (λ (s : State). quiet b s) h.rest }

  passes_save : PassesSave old new → PassesSave O N
  passes_save h = record {
    counts = quiet_rises b old.counts new.counts h.counts;
    members = falls h.members;
    paired = h.paired;
    faults = record { fell = fell h.faults.fell; beyond = λ q past. same_count q (h.faults.beyond q past) };
    out = λ q is. same_count q (h.out q is);
  }

  saves : (number : ℕ) → Saves old number new → Saves O number N
  saves number h = record {
    passes = passes_save h.passes;
    some = h.some;
    marks = h.marks;
    marks_are = record { size = h.marks_are.size; still = h.marks_are.still; before = h.marks_are.before };
    form = h.form;
    next = h.next;
    rest = ap (λ (s : State). quiet b s) h.rest;
  }

  saves_none : SavesNone old new → SavesNone O N
  saves_none h = record { passes = passes_save h.passes; none = h.none; rest = ap (λ (s : State). quiet b s) h.rest }

  loses_structure : LosesStructure old old.blocks → LosesStructure O old.blocks
  loses_structure h = record { block = h.block; of_structure = h.of_structure; gone = h.gone }

  audit : (answer : Option (List Finding)) → MayAudit Known old new answer → MayAudit Known O N answer
  audit None h = record {
    unavailable = λ known lost. h.unavailable known (record { block = lost.block; of_structure = lost.of_structure; gone = lost.gone });
    findings = tt;
    only = λ known. let lost = h.only known in record { block = lost.block; of_structure = lost.of_structure; gone = lost.gone };
    cause = h.cause;
    unwritten = h.unwritten;
  }
  audit (Some findings) h = record {
    unavailable = λ known lost. h.unavailable known (record { block = lost.block; of_structure = lost.of_structure; gone = lost.gone });
    findings = h.findings;
    only = tt;
    cause = tt;
    unwritten = h.unwritten;
  }

  handles : (s : ℕ) → Handles old s new → Handles O s N
  handles s h = record {
    counts = quiet_rises b old.counts new.counts h.counts;
    unwritten = h.unwritten;
    members = h.members;
    paired = h.paired;
    rest = ap (λ (state : State). quiet b state) h.rest;
  }

  pub quiet_step : (event : Event) (reply : Reply) → StaysInUse event reply → Step Known old event reply new → Step Known O event reply N
  quiet_step (Write c bytes) Range u h = (h.0, same h.1)
  quiet_step (Write c bytes) Degraded u h =
      (h.0, elim h.1 [ inl still ↦ inl (still.0, same still.1) | inr now ↦ inr (now.0, now.1, (omega arith), stays now.3) ])
  quiet_step (Write c bytes) Done u h = (h.0, h.1, writes c bytes h.2)
  quiet_step (Read c) Range u h = (h.0, same h.1)
  quiet_step (Read c) Unavailable u h = (h.0, h.1, reads_few c h.2, stays h.3)
  quiet_step (Read c) (Data bytes) u h = (h.0, h.1, h.2, h.3, reads_few c h.4, stays h.5)
  quiet_step (Fail s j) Range u h = ((λ is. h.0 (member_back s j is)), same h.1)
  quiet_step (Fail s j) Already u h = (member s j h.0, h.1, same h.2)
  quiet_step (Fail s j) Done u h = (member s j h.0, h.1, strikes (member_of old s j) h.2)
  quiet_step (Replace s j) Range u h = ((λ is. h.0 (member_back s j is)), same h.1)
  quiet_step (Replace s j) (Lost t) u h =
      (member s j h.0, h.1, h.2, elim h.3 [ inl still ↦ inl (still.0, same still.1) | inr now ↦ inr (now.0, now.1, stays now.2) ])
  quiet_step (Replace s j) NotOut u h = (member s j h.0, h.1, same h.2)
  quiet_step (Replace s j) Failed u h =
      (member s j h.0, h.1, h.2, misses (member_of old s j) (missed_low s j (found_here old new was (ap (λ (x : State). x.table.shape) h.3.rest) s j h.0.side h.2)) h.3)
  quiet_step (Replace s j) Done u h = (member s j h.0, h.1, h.2, replaces (member_of old s j) h.3)
  quiet_step (Rebuild s n) Range u h = (h.0, same h.1)
  quiet_step (Rebuild s n) (Lost t) u h =
      (h.0, h.1, elim h.2 [ inl still ↦ inl (still.0, same still.1) | inr now ↦ inr (now.0, now.1, breaks (place_of old s) now.2) ])
  quiet_step (Rebuild s n) NotFilling u h = (h.0, h.1, h.2, same h.3)
  quiet_step (Rebuild s n) Failed u h = (h.0, h.1, filling_fell (place_of old s) h.2, breaks (place_of old s) h.3)
  quiet_step (Rebuild s n) (Copied d l) u h = (h.0, h.1, rebuilds (place_of old s) n d l h.2)
  quiet_step Settle (Lost s) u h = elim h [
    | inl still ↦ inl (still.0, same still.1)
    | inr now ↦ inr (now.0, now.1, elim now.2 [ inl still ↦ inl (stays still) | inr part ↦ inr (part.0, cut None part.1) ])
  ]
  quiet_step Settle Settled u h = (h.0, elim h.1 [ inl still ↦ inl (still.0, same still.1) | inr now ↦ inr (now.0, now.1, settles now.2) ])
  quiet_step Settle (Malformed kind n) u h = (h.0, h.1, h.2, unwritten h.3)
  quiet_step Settle (NoSpace bad) u h = (h.0, h.1, h.2, cramped bad h.3, unwritten h.4)
  quiet_step (Tend n) (Lost s) u h = elim h [
    | inl still ↦ inl (still.0, same still.1)
    | inr now ↦ inr (now.0, now.1, elim now.2 [ inl still ↦ inl (stays still) | inr part ↦ inr (cut (Some n) part) ])
  ]
  quiet_step (Tend n) (Tended m l) u h =
      (h.0, elim h.1 [ inl still ↦ inl (still.0, still.1, still.2, same still.3) | inr now ↦ inr (now.0, now.1, tends n m l now.2) ])
  quiet_step (Tend n) (NoSpace bad) u h = (h.0, h.1, cramped bad h.2, unwritten h.3)
  quiet_step Diffuse NotSettled u h = (h.0, same h.1)
  quiet_step Diffuse (Lost s) u h = (
    h.0,
    elim h.1 [
      | inl still ↦ inl (still.0, same still.1)
      | inr now ↦ inr (now.0, (now.1.0, now.1.1, spreads now.1.0 now.1.1 now.1.2))
    ],
  )
  quiet_step Diffuse (Diffused gained) u h = (h.0, h.1, h.2, spreads _ gained h.3)
  quiet_step (Who c) Range u h = (h.0, same h.1)
  quiet_step (Who c) Unavailable u h = (h.0, h.1, same h.2)
  quiet_step (Who c) (Verdict who) u h = (h.0, h.1, h.2, same h.3)
  quiet_step Pending (Blocks blocks) u h = (h.0, same h.1)
  quiet_step (Cat path) (Given lines) u h = (h.0, read _ _ h.1, touches path h.2)
  quiet_step (Cat path) (Refused refusal) u h = (read _ _ h.0, stays h.1)
  quiet_step (Cat path) Unavailable u h = (read _ _ h.0, stays h.1)
  quiet_step (Cat path) (Cut lines) u h = (h.0, (h.1.0, read _ _ h.1.1), h.2, stays h.3)
  quiet_step (Ls path) (Listed entries) u h = (read _ _ h.0, stays h.1)
  quiet_step (Ls path) (Refused refusal) u h = (read _ _ h.0, stays h.1)
  quiet_step (Ls path) Unavailable u h = (read _ _ h.0, stays h.1)
  quiet_step (Ls path) (ListedCut entries) u h = ((h.0.0, read _ _ h.0.1), h.1, stays h.2)
  quiet_step Tree NotSettled u h = (h.0, same h.1)
  quiet_step Tree (Nodes entries) u h = (h.0, read _ _ h.1, stays h.2)
  quiet_step Tree (Refused refusal) u h = (h.0, read _ _ h.1, stays h.2)
  quiet_step Tree Unavailable u h = (h.0, read _ _ h.1, stays h.2)
  quiet_step Tree (NodesCut entries) u h = (h.0, (h.1.0, read _ _ h.1.1), h.2, stays h.3)
  quiet_step (Home path) NotSettled u h = (h.0, same h.1)
  quiet_step (Home path) (HomeAt s copy) u h = (h.0, (h.1.0, read _ _ h.1.1, h.1.2, h.1.3), stays h.2)
  quiet_step (Home path) NoHome u h = (h.0, (h.1.0, read _ _ h.1.1, h.1.2), stays h.2)
  quiet_step (Home path) (Refused refusal) u h = (h.0, read _ _ h.1, stays h.2)
  quiet_step (Home path) Unavailable u h = (h.0, read _ _ h.1, stays h.2)
  quiet_step Save (Lost s) u h = (h.0, saves_none h.1)
  quiet_step Save (Saved number) u h = saves number h
  quiet_step Save NotSaved u h = (h.0, same h.1)
  quiet_step Regroup Whole u h = (h.0, same h.1)
  quiet_step Regroup TooFew u h = (h.0, h.1, h.2, stays h.3)
  quiet_step Regroup (Regrouped r c) u h = absurd u
  quiet_step LostFiles NotSettled u h = (h.0, same h.1)
  quiet_step LostFiles (LostFilesReply lost) u h = (h.0, (h.1.0, read _ _ h.1.1, h.1.2), stays h.2)
  quiet_step LostFiles (Refused refusal) u h = (h.0, read _ _ h.1, stays h.2)
  quiet_step LostFiles Unavailable u h = (h.0, read _ _ h.1, stays h.2)
  quiet_step LostFiles (LostFilesCut lost) u h = (h.0, (h.1.0, read _ _ h.1.1, (h.1.2.0, h.1.2.1)), h.2, stays h.3)
  quiet_step Audit (Audited findings) u h = (audit (Some findings) h.0, stays h.1)
  quiet_step Audit Unavailable u h = (audit None h.0, stays h.1)
  quiet_step (DropDisk s j) NotParity u h = same h
  quiet_step (DropDisk s j) Range u h = same h
  quiet_step (DropDisk s j) Already u h = same h
  quiet_step (DropDisk s j) Done u h = (h.0, handles s h.1)
  quiet_step (MendDisk s j) NotParity u h = same h
  quiet_step (MendDisk s j) Range u h = same h
  quiet_step (MendDisk s j) (Lost t) u h =
      (h.0, h.1, elim h.2 [ inl still ↦ inl (still.0, same still.1) | inr now ↦ inr (now.0, now.1, handles s now.2) ])
  quiet_step (MendDisk s j) NotOut u h = (h.0, same h.1)
  quiet_step (MendDisk s j) Failed u h = (h.0, h.1, handles s h.2)
  quiet_step (MendDisk s j) (Mended c) u h = (h.0, h.1, handles s h.2)
  quiet_step event reply u h = absurd h
