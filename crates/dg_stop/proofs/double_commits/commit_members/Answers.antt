use Rattle.std.proofs.Common.{Bool, List, false, replicate, refl, sym, ◌∙◌, arith, subst}
use Rattle.std.specs.Prelude.{Some, None}
use Rattle.std.proofs.lemmas.Bool.{false≢true}
use Rattle.dg_stop.proofs.CommitMembers.{Commits, commits_past, keeps_lost, keeps_made, keeps_past, leaves_members, leaves_past, none_flag, same_idle}
use Rattle.dg_stop.proofs.TriesLemmas.{none_of, serving_of}
use Rattle.dg_stop.specs.Phases.{LeavesTries}
use Rattle.dg_stop.specs.Tries.{TriesKeep}
use Rattle.dg_stop.specs.declared.memories.Memory.{Memory}
use Rattle.dg_stop.specs.declared.places.Places.{Places}
use Rattle.dg_stop.proofs.double_commits.commit_members.Goals as goal

pub settle_all-requires : goal.settle_all-requires
settle_all-requires g c = λ q on. absurd (false≢true (sym (none_flag 32 q) ∙ on))

pub returns-then-memory-ge-PAST_SEQUENCES-clause-answer : goal.returns-then-memory-ge-PAST_SEQUENCES-clause-answer
returns-then-memory-ge-PAST_SEQUENCES-clause-answer g c = (
  λ is. absurd (false≢true is),
  λ has. let found = serving_of (replicate 32 false) has in absurd (false≢true (sym (none_flag 32 found.0) ∙ found.1)),
)

pub returns-then-memory-ge-PAST_SEQUENCES-clause-tried : goal.returns-then-memory-ge-PAST_SEQUENCES-clause-tried
returns-then-memory-ge-PAST_SEQUENCES-clause-tried g c = record { only = λ q on. on; wider = λ q on. absurd (false≢true (sym (none_flag 32 q) ∙ on)) }

pub returns-then-memory-ge-PAST_SEQUENCES-clause-leaves : goal.returns-then-memory-ge-PAST_SEQUENCES-clause-leaves
returns-then-memory-ge-PAST_SEQUENCES-clause-leaves g c =
    let serves : List Bool = replicate 32 false in
    leaves_past g.R.Rack c.args.serving.now serves c.args.memory.now c.settle_all.new.memory c.args.rack.now
    (commits_past c.args.serving.now serves c.args.memory.now c.settle_all.new.memory c.settle_all.ensures) (none_flag 32) c.requires.held
    (omega (arith, c.if-memory-ge-PAST_SEQUENCES.true))

pub returns-then-memory-ge-PAST_SEQUENCES-clause-kept : goal.returns-then-memory-ge-PAST_SEQUENCES-clause-kept
returns-then-memory-ge-PAST_SEQUENCES-clause-kept g c =
    let serves : List Bool = replicate 32 false in
    keeps_past g.R.Rack c.args.serving.now serves c.args.memory.now c.settle_all.new.memory c.args.rack.now
    (commits_past c.args.serving.now serves c.args.memory.now c.settle_all.new.memory c.settle_all.ensures) (none_flag 32) c.args.serving.now c.args.extra.now

pub returns-in-Some-clause-leaves : goal.returns-in-Some-clause-leaves
returns-in-Some-clause-leaves g c =
    let served = c.args.serving.now in
    let serves = c.commit_all-made.new.serving in
    let m = c.args.memory.now in
    let mid = c.settle_all-2.new.memory in
    let s = c.in-Some.sequence in
    let next = c.commit_all-made.new.top in
    let n : Memory = record {
      current = mid.current;
      last = mid.last;
      stands = mid.stands;
      known = mid.known;
      fell = mid.fell;
      room = mid.room;
      commit = s;
      top = mid.top;
    } in
    let is : Commits served serves s next m n = record {
      current = c.settle_all-2.ensures.beside.current;
      known = c.settle_all-2.ensures.beside.known;
      room = c.settle_all-2.ensures.beside.room;
      commit_is = refl;
      top_is = c.settle_all-2.ensures.beside.top;
      members = λ q. record {
        stands = (c.settle_all-2.ensures.members q).stands;
        gone = (c.settle_all-2.ensures.members q).gone;
        last = (c.settle_all-2.ensures.members q).last;
      };
    } in
    let tries : LeavesTries g.R.Rack m.current.items m.room served serves c.args.rack.now c.commit_all-made.new.rack =
    subst (λ (l : List Places). LeavesTries g.R.Rack l m.room served serves c.args.rack.now c.commit_all-made.new.rack) c.deref.ensures.value c.in-Some.ensures.leaves in
    leaves_members served serves s next m n is g.R.Rack g.met.R.Rack.made_none g.met.R.Rack.made_both g.met.R.Rack.after c.args.rack.now c.commit_all-made.new.rack c.requires.held c.requires.stand tries

pub returns-in-Some-clause-kept : goal.returns-in-Some-clause-kept
returns-in-Some-clause-kept g c =
    let served = c.args.serving.now in
    let serves = c.commit_all-made.new.serving in
    let m = c.args.memory.now in
    let mid = c.settle_all-2.new.memory in
    let s = c.in-Some.sequence in
    let next = c.commit_all-made.new.top in
    let n : Memory = record {
      current = mid.current;
      last = mid.last;
      stands = mid.stands;
      known = mid.known;
      fell = mid.fell;
      room = mid.room;
      commit = s;
      top = mid.top;
    } in
    let is : Commits served serves s next m n = record {
      current = c.settle_all-2.ensures.beside.current;
      known = c.settle_all-2.ensures.beside.known;
      room = c.settle_all-2.ensures.beside.room;
      commit_is = refl;
      top_is = c.settle_all-2.ensures.beside.top;
      members = λ q. record {
        stands = (c.settle_all-2.ensures.members q).stands;
        gone = (c.settle_all-2.ensures.members q).gone;
        last = (c.settle_all-2.ensures.members q).last;
      };
    } in
    let tries : LeavesTries g.R.Rack m.current.items m.room served serves c.args.rack.now c.commit_all-made.new.rack =
    subst (λ (l : List Places). LeavesTries g.R.Rack l m.room served serves c.args.rack.now c.commit_all-made.new.rack) c.deref.ensures.value c.in-Some.ensures.leaves in
    keeps_made g.R.Rack served serves c.commit_all-made.new.tried c.args.extra.now next m c.args.rack.now c.commit_all-made.new.rack c.requires.stand c.in-Some.ensures.tried tries c.in-Some.ensures.top.0
    (same_idle served serves s next m n is g.R.Rack g.met.R.Rack.made_none g.met.R.Rack.made_both g.met.R.Rack.after c.args.rack.now c.commit_all-made.new.rack c.requires.held c.requires.stand tries)
    s n is c.in-Some.ensures.sequence.1 c.in-Some.ensures.sequence.0
    (subst (λ (l : List Places). TriesKeep g.R.Rack l m.room c.args.extra.now m.commit m.top next (Some s) c.commit_all-made.new.tried served serves c.args.rack.now c.commit_all-made.new.rack)
    c.deref.ensures.value c.in-Some.ensures.kept)

pub returns-in-None-clause-leaves : goal.returns-in-None-clause-leaves
returns-in-None-clause-leaves g c =
    let served = c.args.serving.now in
    let serves = c.commit_all-made.new.serving in
    let m = c.args.memory.now in
    let n = c.settle_all-2.new.memory in
    let next = c.commit_all-made.new.top in
    let is : Commits served serves m.commit next m n = record {
      current = c.settle_all-2.ensures.beside.current;
      known = c.settle_all-2.ensures.beside.known;
      room = c.settle_all-2.ensures.beside.room;
      commit_is = c.settle_all-2.ensures.beside.commit;
      top_is = c.settle_all-2.ensures.beside.top;
      members = λ q. record {
        stands = (c.settle_all-2.ensures.members q).stands;
        gone = (c.settle_all-2.ensures.members q).gone;
        last = (c.settle_all-2.ensures.members q).last;
      };
    } in
    let tries : LeavesTries g.R.Rack m.current.items m.room served serves c.args.rack.now c.commit_all-made.new.rack =
    subst (λ (l : List Places). LeavesTries g.R.Rack l m.room served serves c.args.rack.now c.commit_all-made.new.rack) c.deref.ensures.value c.in-None.ensures.leaves in
    leaves_members served serves m.commit next m n is g.R.Rack g.met.R.Rack.made_none g.met.R.Rack.made_both g.met.R.Rack.after c.args.rack.now c.commit_all-made.new.rack c.requires.held c.requires.stand tries

pub returns-in-None-clause-kept : goal.returns-in-None-clause-kept
returns-in-None-clause-kept g c =
    let served = c.args.serving.now in
    let serves = c.commit_all-made.new.serving in
    let m = c.args.memory.now in
    let n = c.settle_all-2.new.memory in
    let next = c.commit_all-made.new.top in
    let is : Commits served serves m.commit next m n = record {
      current = c.settle_all-2.ensures.beside.current;
      known = c.settle_all-2.ensures.beside.known;
      room = c.settle_all-2.ensures.beside.room;
      commit_is = c.settle_all-2.ensures.beside.commit;
      top_is = c.settle_all-2.ensures.beside.top;
      members = λ q. record {
        stands = (c.settle_all-2.ensures.members q).stands;
        gone = (c.settle_all-2.ensures.members q).gone;
        last = (c.settle_all-2.ensures.members q).last;
      };
    } in
    let tries : LeavesTries g.R.Rack m.current.items m.room served serves c.args.rack.now c.commit_all-made.new.rack =
    subst (λ (l : List Places). LeavesTries g.R.Rack l m.room served serves c.args.rack.now c.commit_all-made.new.rack) c.deref.ensures.value c.in-None.ensures.leaves in
    keeps_lost g.R.Rack served serves c.commit_all-made.new.tried c.args.extra.now next m c.args.rack.now c.commit_all-made.new.rack c.requires.stand c.in-None.ensures.tried tries c.in-None.ensures.top.0
    (same_idle served serves m.commit next m n is g.R.Rack g.met.R.Rack.made_none g.met.R.Rack.made_both g.met.R.Rack.after c.args.rack.now c.commit_all-made.new.rack c.requires.held c.requires.stand tries)
    n is (none_of serves (λ has. false≢true (c.in-None.ensures.answer.1 has)))
    (subst (λ (l : List Places). TriesKeep g.R.Rack l m.room c.args.extra.now m.commit m.top next None c.commit_all-made.new.tried served serves c.args.rack.now c.commit_all-made.new.rack)
    c.deref.ensures.value c.in-None.ensures.kept)

pub settle_all-requires-2 : goal.settle_all-requires-2
settle_all-requires-2 g c = λ q on.
    let stands = c.requires.stand q (c.commit_all-made.ensures.leaves.only q on) in
    c.requires.held.paired q stands ∙ sym (c.requires.held.sized q stands).bits
