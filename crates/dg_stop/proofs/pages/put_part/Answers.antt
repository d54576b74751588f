use Rattle.std.proofs.Common.{length, sym, arith}
use Rattle.dg_stop.proofs.MadeLemmas.{made_one}
use Rattle.dg_stop.proofs.PageLemmas.{inside_page, part_torn}
use Rattle.dg_stop.proofs.pages.put_part.Goals as goal

pub write-requires-clause-range : goal.write-requires-clause-range
write-requires-clause-range g c =
    rw c.place_of_page.ensures (inside_page c.args.table c.args.page c.args.second c.args.k (length c.args.piece.now) (g.R.Rack.bytes c.args.rack.now c.args.number) c.requires.fits c.requires.long)

pub returns-clause-torn : goal.returns-clause-torn
returns-clause-torn g c =
    part_torn c.write.result c.args.table c.args.page c.args.second c.args.k c.args.piece.now (g.R.Rack.bytes c.args.rack.now c.args.number) (g.R.Rack.bytes c.write.new.self c.args.number)
    c.requires.fits c.requires.long (rw (sym c.place_of_page.ensures) c.write.ensures.ok) (rw (sym c.place_of_page.ensures) c.write.ensures.err)

pub returns-clause-made : goal.returns-clause-made
returns-clause-made g c = made_one g.R.Rack c.args.number c.args.rack.now c.write.new.self c.write.ensures.made

pub returns-clause-done : goal.returns-clause-done
returns-clause-done g c = rw (sym c.place_of_page.ensures) c.write.ensures.ok

pub returns-clause-calls : goal.returns-clause-calls
returns-clause-calls g c = omega (arith, c.write.ensures.leaves.counted.most)
