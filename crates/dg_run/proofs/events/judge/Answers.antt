use Rattle.std.proofs.Common.{◌<◌, ◌≤◌, ◌+◌, length, arith}
use Rattle.std.specs.Option.{option_copied}
use Rattle.dg_text.specs.Refusals.{IsRefused}
use Rattle.dg_run.proofs.Refusing.{err_of, refused_size, refused_words}
use Rattle.dg_run.proofs.events.judge.Goals as goal

pub returns-then-bytes-room-clause-took : goal.returns-then-bytes-room-clause-took
returns-then-bytes-room-clause-took c more =
    let past : c.args.room < length c.args.line.now + 1 = omega arith in
    refused_size (option_copied c.args.shape) c.args.room c.args.line.now more c.requires.none c.requires.short past

pub returns-in-Err-clause-took : goal.returns-in-Err-clause-took
returns-in-Err-clause-took c more =
    let shape = option_copied c.args.shape in
    let line = c.args.line.now in
    let read = c.in_ok-event.ensures in
    let within : length line + 1 ≤ c.args.room = omega arith in
    refused_words shape c.args.room line more c.requires.none c.requires.short within c.in-Err.kind c.in_ok-event.field-0 c.in-Err.is
    (err_of (IsRefused shape line) c.in_ok-event.field-0 c.in-Err.kind c.in-Err.is read.refused) read.exact
