use Rattle.std.proofs.Common.{false, arith}
use Rattle.std.proofs.lemmas.List.{get_or_past}
use Rattle.dg_stop.proofs.flags.clear_flag.Goals as goal

pub returns-then-member-ge-MEMBERS-clause-own : goal.returns-then-member-ge-MEMBERS-clause-own
returns-then-member-ge-MEMBERS-clause-own c = get_or_past c.args.flags.now c.args.member false (omega (arith, c.told-flags, c.if-member-ge-MEMBERS.true))
