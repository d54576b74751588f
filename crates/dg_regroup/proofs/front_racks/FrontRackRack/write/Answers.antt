use Rattle.std.proofs.Common.{arith, length, refl}
use Rattle.dg_io.specs.RackCalls.RackCall.{calls}
use Rattle.dg_io.specs.Told.{OldOrNew, Patched, Torn}
use Rattle.dg_regroup.specs.FrontRacks.{is_front}
use Rattle.dg_regroup.proofs.FrontBytes.{Covers, err_more, ok_more, old_or_new_shown, patched_shown, told_shown, torn_shown}
use Rattle.dg_regroup.proofs.FrontCalls.{passed_as, unseen_by}
use Rattle.dg_regroup.proofs.front_racks.FrontRackRack.write.Goals as goal

pub returns-clause-ok : goal.returns-clause-ok
returns-clause-ok g c =
    let it = c.args.self.now in
    ok_more _ _ c.write.result
    (told_shown (is_front it c.args.member) it.length (Covers c.args.place (length c.args.buf.now)) (Patched c.args.place c.args.buf.now)
    (patched_shown it.length c.args.place c.args.buf.now)
    (g.R.Rack.bytes it.rack c.args.member) (g.R.Rack.bytes c.write.new.self c.args.member) c.requires.range)
    c.write.ensures.ok

pub returns-clause-err : goal.returns-clause-err
returns-clause-err g c =
    let it = c.args.self.now in
    err_more _ _ c.write.result
    (told_shown (is_front it c.args.member) it.length (Covers c.args.place (length c.args.buf.now)) (Torn c.args.place (length c.args.buf.now))
    (torn_shown it.length c.args.place (length c.args.buf.now))
    (g.R.Rack.bytes it.rack c.args.member) (g.R.Rack.bytes c.write.new.self c.args.member) c.requires.range)
    c.write.ensures.err

pub returns-clause-whole : goal.returns-clause-whole
returns-clause-whole g c =
    let it = c.args.self.now in
    err_more _ _ c.write.result
    (λ whole steady header. told_shown (is_front it c.args.member) it.length (Covers c.args.place (length c.args.buf.now)) (OldOrNew c.args.place c.args.buf.now)
    (old_or_new_shown it.length c.args.place c.args.buf.now)
    (g.R.Rack.bytes it.rack c.args.member) (g.R.Rack.bytes c.write.new.self c.args.member) c.requires.range (whole steady header))
    c.write.ensures.whole

pub returns-clause-made : goal.returns-clause-made
returns-clause-made g c =
    passed_as g.R.Rack (calls c.args.member) (calls c.args.member) refl c.args.self.now _ refl refl (λ q. omega arith) (λ q far. refl) (omega arith) (λ is. refl) (λ is. refl) (λ is. refl) (λ is. refl)
    (unseen_by g.R.Rack c.args.member c.args.self.now _ c.requires.stands c.write.ensures.leaves.others) c.write.ensures.made
