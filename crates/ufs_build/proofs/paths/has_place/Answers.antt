use Rattle.std.proofs.Common.{Bool, true, false, sym, arith}
use Rattle.std.specs.Bool.{OnTrue}
use Rattle.ufs_build.proofs.SlashLaws.{first_slash, short_name}
use Rattle.ufs_build.proofs.paths.has_place.Goals as goal

always : {P : Type 0} (b : Bool) → P → OnTrue b P
always true p = p
always false p = tt

pub split_path-requires : goal.split_path-requires
split_path-requires c = first_slash c.args.path.now (sym c.if-not-is_path.ensures)

pub returns-clause-slash : goal.returns-clause-slash
returns-clause-slash c = always _ (first_slash c.args.path.now (sym c.if-not-is_path.ensures))

pub returns-clause-short : goal.returns-clause-short
returns-clause-short c = always _ (short_name c.args.path.now (sym c.if-not-is_path.ensures) (omega arith))
