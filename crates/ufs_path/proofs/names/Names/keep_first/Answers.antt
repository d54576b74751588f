use Rattle.std.proofs.Common.{rules}
use Rattle.ufs_path.proofs.NameLaws.{kept_all, kept_first}
use Rattle.ufs_path.proofs.names.Names.keep_first.Goals as goal

pub returns-then-count-len : goal.returns-then-count-len
returns-then-count-len c = λ names has. kept_first c.args.self.now (record { path = c.truncate.new.self; starts = c.truncate-then-count-len.new.self }) c.args.count c.index-start.result.now c.index-start.result.now names has (search rules) (search rules) (search rules) (search rules)

pub returns-else-count-len : goal.returns-else-count-len
returns-else-count-len c = λ names has. kept_all c.args.self.now c.args.count names has (search rules)
