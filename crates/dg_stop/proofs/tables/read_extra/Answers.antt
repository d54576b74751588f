use Rattle.std.proofs.Common.{length, refl, sym, ◌∙◌, ap}
use Rattle.std.specs.Prelude.{is_err}
use Rattle.std.proofs.lemmas.Bool.{false≢true}
use Rattle.dg_stop.proofs.FindLemmas.{looks_as, was_read}
use Rattle.dg_stop.proofs.TableLemmas.{extra_inside}
use Rattle.dg_stop.proofs.tables.read_extra.Goals as goal

pub read-requires-clause-range : goal.read-requires-clause-range
read-requires-clause-range g c =
    rw (c.place_of_table-table.ensures, c.table_len.ensures, c.bits_len.ensures)
    (extra_inside g.R.Rack c.args.header.now.member c.args.rack.now c.args.header.now c.requires.bears (length c.deref_mut.result.now) (ap (λ l. length l) c.deref_mut.ensures.value ∙ c.in_ok-extra.ensures))

pub returns-in-Ok-clause-looks : goal.returns-in-Ok-clause-looks
returns-in-Ok-clause-looks g c =
    looks_as g.R.Rack c.args.header.now.member c.read.result _ (λ h. sym (ap is_err c.in-Ok.is) ∙ h) (λ h. absurd (false≢true h)) c.args.rack.now c.read.new.self
    (was_read g.R.Rack c.args.header.now.member c.read.result c.args.rack.now c.read.new.self c.read.ensures.leaves c.read.ensures.made c.read.ensures.same c.read.ensures.writes)

pub returns-in-Err-clause-looks : goal.returns-in-Err-clause-looks
returns-in-Err-clause-looks g c =
    looks_as g.R.Rack c.args.header.now.member c.read.result _ (λ h. refl) (λ h. ap is_err c.in-Err.is) c.args.rack.now c.read.new.self
    (was_read g.R.Rack c.args.header.now.member c.read.result c.args.rack.now c.read.new.self c.read.ensures.leaves c.read.ensures.made c.read.ensures.same c.read.ensures.writes)
