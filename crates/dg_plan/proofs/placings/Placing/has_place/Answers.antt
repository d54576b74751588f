use Rattle.std.proofs.Common.{ap, sym, ◌∙◌}
use Rattle.std.specs.Prelude.{is_some}
use Rattle.dg_plan.proofs.FileLaws.{home_found}
use Rattle.dg_plan.proofs.placings.Placing.has_place.Goals as goal

pub returns : goal.returns
returns c = c.contains_key.ensures ∙ ap is_some (sym (home_found c.args.self.now.homes.entries c.args.inode))
