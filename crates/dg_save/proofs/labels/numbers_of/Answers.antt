use Rattle.std.proofs.Common.{ap}
use Rattle.std.specs.Prelude.{Some}
use Rattle.dg_save.proofs.LabelLemmas.{format_from, numbers_of_label, same_label, no_label}
use Rattle.dg_save.proofs.labels.numbers_of.Goals as goal

pub returns-in_err-format-clause-exact : goal.returns-in_err-format-clause-exact
returns-in_err-format-clause-exact c label is says =
    let has = numbers_of_label label c.args.buf.now is says in
    let digit = format_from label.format _ is.formats has.digit in
    cc (c.format_of.ensures.value, c.in_err-format.was, digit)

pub returns-in_err-shape-clause-exact : goal.returns-in_err-shape-clause-exact
returns-in_err-shape-clause-exact c label is says =
    cc (c.shape_of.ensures.exact label is says, c.in_err-shape.was)

pub returns-then-is_label-clause-exact : goal.returns-then-is_label-clause-exact
returns-then-is_label-clause-exact c label is says =
    let has = numbers_of_label label c.args.buf.now is says in
    let digit = format_from label.format _ is.formats has.digit in
    ap Some (same_label c.args.buf.now label c.in_ok-format.format c.u64_at.result c.u32_at.result c.in_ok-shape.shape has
    (cc (c.format_of.ensures.value, c.in_ok-format.was, digit)) c.u64_at.ensures
    (cc (c.shape_of.ensures.exact label is says, c.in_ok-shape.was)) c.u32_at.ensures)

pub returns-else-is_label-clause-exact : goal.returns-else-is_label-clause-exact
returns-else-is_label-clause-exact c label is says =
    let has = numbers_of_label label c.args.buf.now is says in
    let digit = format_from label.format _ is.formats has.digit in
    let same = same_label c.args.buf.now label c.in_ok-format.format c.u64_at.result c.u32_at.result c.in_ok-shape.shape has
    (cc (c.format_of.ensures.value, c.in_ok-format.was, digit)) c.u64_at.ensures
    (cc (c.shape_of.ensures.exact label is says, c.in_ok-shape.was)) c.u32_at.ensures in
    absurd (no_label _ label c.is_label.result same is c.is_label.ensures.1 c.if-is_label.false)
