use Rattle.std.proofs.Common.{rules}
use Rattle.ufs_path.proofs.NameLaws.{pushed}
use Rattle.ufs_path.proofs.names.Names.push.Goals as goal

pub returns : goal.returns
returns c = λ names has. pushed c.args.self.now (record { path = c.extend_from_slice.new.self; starts = c.push.new.self }) names c.args.name.now has (search rules) (search rules)
