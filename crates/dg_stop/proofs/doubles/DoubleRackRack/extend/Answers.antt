use Rattle.std.proofs.Common.{◌≡◌, [], ◌∷◌, refl, sym, subst}
use Rattle.std.specs.Prelude.{OnErr, OnOk, IfSome}
use Rattle.dg_io.specs.RackCalls.RackCall.{extends}
use Rattle.dg_io.specs.RackWords.{Leaves}
use Rattle.dg_io.specs.Told.{Extended, FitsIn, KeepsFront, Told}
use Rattle.dg_model.specs.Causes.{RoseByOne}
use Rattle.dg_stop.proofs.CallLemmas.{extend_err, extend_ok, tally_of}
use Rattle.dg_stop.proofs.MemberLemmas.{extend_keeps, extend_steps}
use Rattle.dg_stop.proofs.StepLemmas.{leaves_double, made_double}
use Rattle.dg_stop.specs.Doubles.{Double, DoubleMade, double_bytes, double_words}
use Rattle.dg_stop.proofs.doubles.DoubleRackRack.extend.Goals as goal

pub invariant_of-self : goal.invariant_of-self
invariant_of-self g c =
    let m = c.args.member in
    let r = c.extend_member-result.result in
    let old : Double g.row.R.Denot = record { rack = c.self.inside.rack; memory = c.self.inside.memory; tally = c.self.inside.tally } in
    let new : Double g.row.R.Denot = record { rack = c.self.inside.rack; memory = c.extend_member-result.new.memory; tally = c.note_write.new.self } in
    (extend_steps g.R.Rack m c.self.inside.memory c.self.inside.rack c.self.invariant c.extend_member-result.new.memory r c.extend_member-result.ensures.ok c.extend_member-result.ensures.err).held

pub returns-clause-leaves : goal.returns-clause-leaves
returns-clause-leaves g c =
    let m = c.args.member in
    let r = c.extend_member-result.result in
    let old : Double g.row.R.Denot = record { rack = c.self.inside.rack; memory = c.self.inside.memory; tally = c.self.inside.tally } in
    let new : Double g.row.R.Denot = record { rack = c.self.inside.rack; memory = c.extend_member-result.new.memory; tally = c.note_write.new.self } in
    subst (λ (s : Double g.row.R.Denot). Leaves (double_words g.R.Rack) m r s new) c.self.view_is
    (leaves_double g.R.Rack (extends m) m refl r old new (extend_steps g.R.Rack m c.self.inside.memory c.self.inside.rack c.self.invariant c.extend_member-result.new.memory r c.extend_member-result.ensures.ok c.extend_member-result.ensures.err) (tally_of m r c.is_err.result c.self.inside.tally c.note_write.new.self c.is_err.ensures.value c.note_write.ensures.notes))

pub returns-clause-made : goal.returns-clause-made
returns-clause-made g c =
    let m = c.args.member in
    let r = c.extend_member-result.result in
    let old : Double g.row.R.Denot = record { rack = c.self.inside.rack; memory = c.self.inside.memory; tally = c.self.inside.tally } in
    let new : Double g.row.R.Denot = record { rack = c.self.inside.rack; memory = c.extend_member-result.new.memory; tally = c.note_write.new.self } in
    subst (λ (s : Double g.row.R.Denot). DoubleMade g.R.Rack s (extends m ∷ []) new) c.self.view_is
    (made_double g.R.Rack (extends m) m refl r old new (extend_steps g.R.Rack m c.self.inside.memory c.self.inside.rack c.self.invariant c.extend_member-result.new.memory r c.extend_member-result.ensures.ok c.extend_member-result.ensures.err) (tally_of m r c.is_err.result c.self.inside.tally c.note_write.new.self c.is_err.ensures.value c.note_write.ensures.notes) (λ no. (extend_keeps g.R.Rack m c.self.inside.memory c.self.inside.rack c.self.invariant c.extend_member-result.new.memory r c.extend_member-result.ensures.ok c.extend_member-result.ensures.err)) (λ plain. absurd (plain refl)) (λ look. absurd (look refl)))

pub returns-clause-writes : goal.returns-clause-writes
returns-clause-writes g c =
    subst (λ (s : Double g.row.R.Denot). RoseByOne s.tally.writes c.note_write.new.self.writes) c.self.view_is c.note_write.ensures.writes

pub returns-clause-ok : goal.returns-clause-ok
returns-clause-ok g c =
    let m = c.args.member in
    let r = c.extend_member-result.result in
    let old : Double g.row.R.Denot = record { rack = c.self.inside.rack; memory = c.self.inside.memory; tally = c.self.inside.tally } in
    let new : Double g.row.R.Denot = record { rack = c.self.inside.rack; memory = c.extend_member-result.new.memory; tally = c.note_write.new.self } in
    subst (λ (s : Double g.row.R.Denot). OnOk r (Told (Extended c.args.length) (double_bytes g.R.Rack s m) (double_bytes g.R.Rack new m))) c.self.view_is
    (extend_ok c.self.inside.memory c.extend_member-result.new.memory m c.args.length (g.R.Rack.bytes c.self.inside.rack m) r c.extend_member-result.ensures.ok c.extend_member-result.ensures.fails.1
    (subst (λ (s : Double g.row.R.Denot). IfSome (double_bytes g.R.Rack s m) (FitsIn c.args.length)) (sym c.self.view_is) c.requires.longer))

pub returns-clause-err : goal.returns-clause-err
returns-clause-err g c =
    let m = c.args.member in
    let r = c.extend_member-result.result in
    let old : Double g.row.R.Denot = record { rack = c.self.inside.rack; memory = c.self.inside.memory; tally = c.self.inside.tally } in
    let new : Double g.row.R.Denot = record { rack = c.self.inside.rack; memory = c.extend_member-result.new.memory; tally = c.note_write.new.self } in
    subst (λ (s : Double g.row.R.Denot). OnErr r (Told KeepsFront (double_bytes g.R.Rack s m) (double_bytes g.R.Rack new m))) c.self.view_is
    (extend_err c.self.inside.memory c.extend_member-result.new.memory m c.args.length (g.R.Rack.bytes c.self.inside.rack m) r c.extend_member-result.ensures.err)

pub returns-clause-calls : goal.returns-clause-calls
returns-clause-calls g c = subst (λ (s : Double g.row.R.Denot). c.self.inside.rack ≡ s.rack) c.self.view_is refl
