use Rattle.dg_open.proofs.LabelLemmas.{opens}
use Rattle.dg_open.proofs.OpenLemmas.{finds_nothing, finds_silent, finds_unclean, seen_after, seen_labeled}
use Rattle.dg_open.proofs.TableLemmas.{none_marked}
use Rattle.dg_open.proofs.reopens.reopen.Goals as goal

pub returns-in_default : goal.returns-in_default
returns-in_default g c =
    let found = c.find_all-labels in
    finds_nothing g.R.Rack c.args.rack found.new.rack found.result found.ensures.seen (rw c.in_default.is at c.greatest_of.ensures)

pub returns-then-is_unclean : goal.returns-then-is_unclean
returns-then-is_unclean g c =
    let found = c.find_all-labels in
    finds_unclean g.R.Rack c.args.rack found.new.rack found.result c.in-Some.greatest found.ensures.seen c.in-Some.ensures (c.is_unclean.ensures.opened c.if-is_unclean.true)

pub first_state-requires-clause-none : goal.first_state-requires-clause-none
first_state-requires-clause-none g c = none_marked 32

pub returns-in_default-2 : goal.returns-in_default-2
returns-in_default-2 g c =
    let found = c.find_all-labels in
    let read = c.in_ok-source.ensures in
    finds_silent g.R.Rack c.args.rack found.new.rack c.first_state.new.rack found.result c.in-Some.greatest found.ensures.seen c.in-Some.ensures
    (c.is_unclean.ensures.clean c.if-is_unclean.false) read.leaves (rw c.in_default-2.is at c.in_ok-source.ensures.says)

pub open_from-requires-clause-labeled : goal.open_from-requires-clause-labeled
open_from-requires-clause-labeled g c =
    let found = c.find_all-labels in
    let now = c.first_state.new.rack in
    seen_labeled g.R.Rack c.args.rack now found.result (seen_after g.R.Rack c.args.rack found.new.rack now found.result found.ensures.seen c.in_ok-source.ensures.leaves)

pub returns : goal.returns
returns g c =
    let found = c.find_all-labels in
    let read = c.in_ok-source.ensures in
    opens g.R.Rack c.args.rack found.new.rack c.first_state.new.rack found.result c.first_state.new.failed found.new.long c.in-Some.greatest c.in-Some-2.source c.in_ok-reopened.reopened
    found.ensures.seen c.in-Some.ensures (c.is_unclean.ensures.clean c.if-is_unclean.false) read.leaves (rw c.in-Some-2.is at c.in_ok-source.ensures.says) read.failed found.ensures.quiet read.quiet found.ensures.measured c.in_ok-reopened.ensures
