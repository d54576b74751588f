use Rattle.std.proofs.Common.{rules, ◌≡◌, ◌+◌, ◌*◌, ℕ, arith}
use Rattle.dg_model.specs.Members.{HasRoom}
use Rattle.dg_pair.specs.declared.boundaries.Boundary.TheVariants.{Both, Half, Lost}
use Rattle.dg_pair.proofs.CaseLemmas.{each_from, fell_out}
use Rattle.dg_pair.proofs.KeptLemmas.{new_keeps}
use Rattle.dg_pair.proofs.MadeLemmas.{new_at, new_made}
use Rattle.dg_pair.proofs.SlotLemmas.{zeros_room_at, zeros_room_then}
use Rattle.dg_pair.proofs.boundaries.Boundary.new.Goals as goal

pub returns-in-Done-Done-clause-made : goal.returns-in-Done-Done-clause-made
returns-in-Done-Done-clause-made g c = new_made g.R.Rack g.met.R.Rack.made_both c.args.number _ _ _ c.blank-first.ensures.keeps.made c.blank-second.ensures.keeps.made

pub returns-in-Done-Done-clause-keeps : goal.returns-in-Done-Done-clause-keeps
returns-in-Done-Done-clause-keeps g c = new_keeps g.R.Rack _ _ _ _ _ c.blank-first.ensures.keeps c.blank-second.ensures.keeps

pub returns-in-Done-Done-clause-leaves : goal.returns-in-Done-Done-clause-leaves
returns-in-Done-Done-clause-leaves g c = record {
  pair = search rules;
  falls = search rules;
  room = each_from (λ (q : ℕ). HasRoom c.args.l c.args.slots (g.R.Rack.bytes c.blank-second.new.rack q)) (Both c.in-Done-Done.a c.in-Done-Done.b) (zeros_room_then c.args.l c.args.slots c.args.size _ (2 * c.args.number) (g.R.Rack.bytes c.args.rack.now) (g.R.Rack.bytes c.blank-first.new.rack) (g.R.Rack.bytes c.blank-second.new.rack) (search rules) c.requires.size (search rules) (c.blank-second.ensures.leaves.others (2 * c.args.number) (λ e. omega (arith, e))), zeros_room_at c.args.l c.args.slots c.args.size _ (2 * c.args.number + 1) (g.R.Rack.bytes c.blank-first.new.rack) (g.R.Rack.bytes c.blank-second.new.rack) (search rules) c.requires.size (search rules));
  stand = search rules;
  other_bytes = search rules;
  other_faults = search rules;
  others_stand = search rules;
  made = new_at g.R.Rack c.args.number _ _ (new_made g.R.Rack g.met.R.Rack.made_both c.args.number _ _ _ c.blank-first.ensures.keeps.made c.blank-second.ensures.keeps.made);
  fell = λ q rose. fell_out (Both c.in-Done-Done.a c.in-Done-Done.b) _ _ (each_from (λ (q : ℕ). (g.R.Rack.counts c.blank-second.new.rack).faults q ≡ (g.R.Rack.counts c.args.rack.now).faults q) (Both c.in-Done-Done.a c.in-Done-Done.b) (search rules)) q rose;
  rise = search rules;
  tells = search rules;
  same_rack = search rules;
  steady_on = search rules;
}

pub returns-in-Done-Fell-clause-made : goal.returns-in-Done-Fell-clause-made
returns-in-Done-Fell-clause-made g c = new_made g.R.Rack g.met.R.Rack.made_both c.args.number _ _ _ c.blank-first.ensures.keeps.made c.blank-second.ensures.keeps.made

pub returns-in-Done-Fell-clause-keeps : goal.returns-in-Done-Fell-clause-keeps
returns-in-Done-Fell-clause-keeps g c = new_keeps g.R.Rack _ _ _ _ _ c.blank-first.ensures.keeps c.blank-second.ensures.keeps

pub returns-in-Done-Fell-clause-leaves : goal.returns-in-Done-Fell-clause-leaves
returns-in-Done-Fell-clause-leaves g c = record {
  pair = search rules;
  falls = search rules;
  room = each_from (λ (q : ℕ). HasRoom c.args.l c.args.slots (g.R.Rack.bytes c.blank-second.new.rack q)) (Half c.in-Done-Fell.a c.in-Done-Fell.b) (zeros_room_then c.args.l c.args.slots c.args.size _ (2 * c.args.number) (g.R.Rack.bytes c.args.rack.now) (g.R.Rack.bytes c.blank-first.new.rack) (g.R.Rack.bytes c.blank-second.new.rack) (search rules) c.requires.size (search rules) (c.blank-second.ensures.leaves.others (2 * c.args.number) (λ e. omega (arith, e))));
  stand = search rules;
  other_bytes = search rules;
  other_faults = search rules;
  others_stand = search rules;
  made = new_at g.R.Rack c.args.number _ _ (new_made g.R.Rack g.met.R.Rack.made_both c.args.number _ _ _ c.blank-first.ensures.keeps.made c.blank-second.ensures.keeps.made);
  fell = λ q rose. fell_out (Half c.in-Done-Fell.a c.in-Done-Fell.b) _ _ (each_from (λ (q : ℕ). (g.R.Rack.counts c.blank-second.new.rack).faults q ≡ (g.R.Rack.counts c.args.rack.now).faults q) (Half c.in-Done-Fell.a c.in-Done-Fell.b) (search rules)) q rose;
  rise = search rules;
  tells = search rules;
  same_rack = search rules;
  steady_on = search rules;
}

pub returns-in-Fell-Done-clause-made : goal.returns-in-Fell-Done-clause-made
returns-in-Fell-Done-clause-made g c = new_made g.R.Rack g.met.R.Rack.made_both c.args.number _ _ _ c.blank-first.ensures.keeps.made c.blank-second.ensures.keeps.made

pub returns-in-Fell-Done-clause-keeps : goal.returns-in-Fell-Done-clause-keeps
returns-in-Fell-Done-clause-keeps g c = new_keeps g.R.Rack _ _ _ _ _ c.blank-first.ensures.keeps c.blank-second.ensures.keeps

pub returns-in-Fell-Done-clause-leaves : goal.returns-in-Fell-Done-clause-leaves
returns-in-Fell-Done-clause-leaves g c = record {
  pair = search rules;
  falls = search rules;
  room = each_from (λ (q : ℕ). HasRoom c.args.l c.args.slots (g.R.Rack.bytes c.blank-second.new.rack q)) (Half c.in-Fell-Done.b c.in-Fell-Done.a) (zeros_room_at c.args.l c.args.slots c.args.size _ (2 * c.args.number + 1) (g.R.Rack.bytes c.blank-first.new.rack) (g.R.Rack.bytes c.blank-second.new.rack) (search rules) c.requires.size (search rules));
  stand = search rules;
  other_bytes = search rules;
  other_faults = search rules;
  others_stand = search rules;
  made = new_at g.R.Rack c.args.number _ _ (new_made g.R.Rack g.met.R.Rack.made_both c.args.number _ _ _ c.blank-first.ensures.keeps.made c.blank-second.ensures.keeps.made);
  fell = λ q rose. fell_out (Half c.in-Fell-Done.b c.in-Fell-Done.a) _ _ (each_from (λ (q : ℕ). (g.R.Rack.counts c.blank-second.new.rack).faults q ≡ (g.R.Rack.counts c.args.rack.now).faults q) (Half c.in-Fell-Done.b c.in-Fell-Done.a) (search rules)) q rose;
  rise = search rules;
  tells = search rules;
  same_rack = search rules;
  steady_on = search rules;
}

pub returns-in-Fell-Fell-clause-made : goal.returns-in-Fell-Fell-clause-made
returns-in-Fell-Fell-clause-made g c = new_made g.R.Rack g.met.R.Rack.made_both c.args.number _ _ _ c.blank-first.ensures.keeps.made c.blank-second.ensures.keeps.made

pub returns-in-Fell-Fell-clause-keeps : goal.returns-in-Fell-Fell-clause-keeps
returns-in-Fell-Fell-clause-keeps g c = new_keeps g.R.Rack _ _ _ _ _ c.blank-first.ensures.keeps c.blank-second.ensures.keeps

pub returns-in-Fell-Fell-clause-leaves : goal.returns-in-Fell-Fell-clause-leaves
returns-in-Fell-Fell-clause-leaves g c = record {
  pair = search rules;
  falls = search rules;
  room = search rules;
  stand = search rules;
  other_bytes = search rules;
  other_faults = search rules;
  others_stand = search rules;
  made = new_at g.R.Rack c.args.number _ _ (new_made g.R.Rack g.met.R.Rack.made_both c.args.number _ _ _ c.blank-first.ensures.keeps.made c.blank-second.ensures.keeps.made);
  fell = λ q rose. fell_out (Lost c.in-Fell-Fell.a c.in-Fell-Fell.b) _ _ (each_from (λ (q : ℕ). (g.R.Rack.counts c.blank-second.new.rack).faults q ≡ (g.R.Rack.counts c.args.rack.now).faults q) (Lost c.in-Fell-Fell.a c.in-Fell-Fell.b) (search rules)) q rose;
  rise = search rules;
  tells = search rules;
  same_rack = search rules;
  steady_on = search rules;
}
