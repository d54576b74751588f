use Rattle.std.proofs.Common.{◌≢◌, ◌∙◌, ◌+◌, ℕ, subst, sym}
use Rattle.dg_pair.specs.declared.boundaries.CopyAnswer.TheVariants.{Copied}
use Rattle.dg_rebuild.specs.Passed.{WentOn}
use Rattle.dg_store.specs.Stores.{table_of}
use Rattle.dg_rebuild.proofs.Answers.{done_number}
use Rattle.dg_rebuild.proofs.Members.{could_lost, falls_out, never_true, unfilled_out}
use Rattle.dg_rebuild.proofs.Reaping.{unmarked_one}
use Rattle.dg_rebuild.proofs.Steps.{reaped_free, went_copied, went_free, went_reaped}
use Rattle.dg_rebuild.proofs.slots.refill_slot.Goals as goal

pub pass_slot-requires-clause-next : goal.pass_slot-requires-clause-next
pass_slot-requires-clause-next g c = record {
  next = record {
    member = c.requires.next.member;
    have = c.args.slot;
    refilled = c.requires.next.refilled;
    below = c.requires.below;
  };
  free = c.in-None.ensures.block;
}

pub returns-in-None-clause-done : goal.returns-in-None-clause-done
returns-in-None-clause-done g c n is =
    let did = c.pass_slot.ensures in
    subst (λ (m : ℕ). WentOn g.R.Rack c.args.dead.now c.args.boundary c.args.slot (c.args.slot + 1) m c.args.reaped.now.items c.args.reaped.now.items
    c.args.store.now c.pass_slot.new.self) (done_number 0 n is) (went_free g.R.Rack c.args.dead.now c.args.boundary c.args.store.now c.pass_slot.new.self c.args.slot c.args.reaped.now.items
    c.requires.below c.requires.sound c.requires.next c.in-None.ensures.block did.sound did.stays did.rack did.table did.raised did.stands)

pub returns-then-is_dead-clause-done : goal.returns-then-is_dead-clause-done
returns-then-is_dead-clause-done g c n is =
    let did = c.in_ok-reap_slot-in-Some.ensures in
    let there = c.in-Some.ensures.block in
    subst (λ (m : ℕ). WentOn g.R.Rack c.args.dead.now c.args.boundary c.args.slot (c.args.slot + 1) m c.args.reaped.now.items c.reap_slot.new.reaped.items
    c.args.store.now c.reap_slot.new.store) (done_number 0 n is) (went_reaped g.R.Rack c.args.dead.now c.args.boundary c.args.store.now c.reap_slot.new.store c.args.slot c.in-Some.block c.args.reaped.now.items
    c.reap_slot.new.reaped.items c.requires.below c.requires.sound c.requires.next there (sym c.is_dead.ensures ∙ c.if-is_dead.true) did.sound did.stays did.rack did.table
    did.members did.zeros (reaped_free _ _ c.args.boundary c.args.slot c.in-Some.block c.requires.sound.table did.table there) did.joined)

pub returns-in-Copied-clause-done : goal.returns-in-Copied-clause-done
returns-in-Copied-clause-done g c n is =
    let did = c.copy_slot.ensures in
    subst (λ (m : ℕ). WentOn g.R.Rack c.args.dead.now c.args.boundary c.args.slot (c.args.slot + 1) m c.args.reaped.now.items c.args.reaped.now.items
    c.args.store.now c.copy_slot.new.self) (done_number 1 n is) (went_copied g.R.Rack c.args.dead.now c.args.boundary c.args.store.now c.copy_slot.new.self c.args.slot c.in-Some.block c.args.reaped.now.items
    c.requires.below c.requires.sound c.requires.next c.in-Some.ensures.block (sym c.is_dead.ensures ∙ c.if-is_dead.false) did.sound did.stays did.faulty did.idle did.beside did.table
    (did.copied c.in-Copied.is) (did.stands c.in-Copied.is) did.most)

pub returns-in-Lost-clause-stood : goal.returns-in-Lost-clause-stood
returns-in-Lost-clause-stood g c is =
    let did = c.copy_slot.ensures in
    let other : c.copy_slot.result ≢ Copied = λ copied. let now = c.in-Lost.is in cc (now, copied) in
    record {
      sound = did.sound;
      stays = did.stays;
      faults = record { fell = did.faulty; idle = did.idle; out = falls_out _ _ _ _ (did.falls other) };
      beside = did.beside;
      table = did.table;
      stands = did.same other;
      falls = did.falls other;
      out = could_lost _ _ _ _ c.args.boundary did.sound.paired (did.lost.0 c.in-Lost.is) (did.falls other);
      most = did.most;
    }

pub returns-in-Fell-clause-stood : goal.returns-in-Fell-clause-stood
returns-in-Fell-clause-stood g c is =
    let did = c.copy_slot.ensures in
    let other : c.copy_slot.result ≢ Copied = λ copied. let now = c.in-Fell.is in cc (now, copied) in
    record {
      sound = did.sound;
      stays = did.stays;
      faults = record { fell = did.faulty; idle = did.idle; out = falls_out _ _ _ _ (did.falls other) };
      beside = did.beside;
      table = did.table;
      stands = did.same other;
      falls = did.falls other;
      out = λ q at filling. (did.fell c.in-Fell.is).here q at ∙ unfilled_out _ filling;
      most = did.most;
    }

pub returns-in-Fell-clause-whole : goal.returns-in-Fell-clause-whole
returns-in-Fell-clause-whole g c is = never_true _ (λ lost. let now = c.in-Fell.is in let e = c.copy_slot.ensures.lost.1 lost in absurd (cc (now, e)))

pub returns-then-not-more-clause-used : goal.returns-then-not-more-clause-used
returns-then-not-more-clause-used g c why = (
  (c.in-Some.block, c.in-Some.ensures.block),
  unmarked_one (table_of c.args.store.now) c.args.dead.now c.args.boundary c.args.slot c.in-Some.block c.requires.sound.table c.in-Some.ensures.block
      (sym c.is_dead.ensures ∙ c.if-is_dead.false),
)

pub returns-in-Lost-clause-used : goal.returns-in-Lost-clause-used
returns-in-Lost-clause-used g c why = (
  (c.in-Some.block, c.in-Some.ensures.block),
  unmarked_one (table_of c.args.store.now) c.args.dead.now c.args.boundary c.args.slot c.in-Some.block c.requires.sound.table c.in-Some.ensures.block
      (sym c.is_dead.ensures ∙ c.if-is_dead.false),
)

pub returns-in-Fell-clause-used : goal.returns-in-Fell-clause-used
returns-in-Fell-clause-used g c why = (
  (c.in-Some.block, c.in-Some.ensures.block),
  unmarked_one (table_of c.args.store.now) c.args.dead.now c.args.boundary c.args.slot c.in-Some.block c.requires.sound.table c.in-Some.ensures.block
      (sym c.is_dead.ensures ∙ c.if-is_dead.false),
)
