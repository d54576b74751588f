use Rattle.dg_io.specs.Commits.{is_marked}
use Rattle.dg_open.proofs.FoundLemmas.{is_measured, seen_shape}
use Rattle.dg_open.proofs.ReadLemmas.{one_both}
use Rattle.dg_open.proofs.labels.find_member.Goals as goal

pub returns-in-Some-clause-reads : goal.returns-in-Some-clause-reads
returns-in-Some-clause-reads g c = one_both g.R.Rack c.args.member _ _ _ c.attach.ensures.reads c.label_on-found.ensures.reads

pub note_length-requires-clause-shape : goal.note_length-requires-clause-shape
note_length-requires-clause-shape g c = seen_shape g.R.Rack _ _ c.args.member c.label_on-found.result c.label_on-found.ensures.seen

pub returns-in-Some-clause-measured : goal.returns-in-Some-clause-measured
returns-in-Some-clause-measured g c =
    is_measured g.R.Rack c.label_on-found.new.rack c.args.member c.in-Some.length (is_marked c.note_length.new.long c.args.member) c.label_on-found.result c.label_on-found.ensures.long
    c.note_length.ensures.here
