use Rattle.dg_text.proofs.CallSums.{calls_as}
use Rattle.dg_text.proofs.ReplyLines.{entry_whole, took_as, took_part_as}
use Rattle.ufs_model.specs.Listings.{Listed}
use Rattle.dg_text.proofs.listings.write_entry_line.Goals as goal

pub returns-clause-ok : goal.returns-clause-ok
returns-clause-ok g c =
    let entry : Listed = record { depth = c.args.depth; inode = c.args.inode; kind = c.args.kind; size = c.args.size; name = c.args.name.now } in
    took_as c.write_name.result _ _ _ _ (entry_whole c.args.form entry _ c.spell_head-head.ensures.text) c.write_name.ensures.ok

pub returns-clause-err : goal.returns-clause-err
returns-clause-err g c =
    let entry : Listed = record { depth = c.args.depth; inode = c.args.inode; kind = c.args.kind; size = c.args.size; name = c.args.name.now } in
    took_part_as c.write_name.result _ _ _ _ (entry_whole c.args.form entry _ c.spell_head-head.ensures.text) c.write_name.ensures.err

pub returns-clause-calls : goal.returns-clause-calls
returns-clause-calls g c =
    let entry : Listed = record { depth = c.args.depth; inode = c.args.inode; kind = c.args.kind; size = c.args.size; name = c.args.name.now } in
    calls_as g.K.Sink.whole g.K.Sink.calls _ _ _ _ _ (entry_whole c.args.form entry _ c.spell_head-head.ensures.text) c.write_name.ensures.calls
