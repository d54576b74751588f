use Rattle.std.proofs.Common.{◌≡◌, ◌∙◌, rules}
use Rattle.ufs_dir.proofs.SearchLaws.{found_at, searched-bad, searched-ends}
use Rattle.ufs_dir.proofs.searches.find.Goals as goal

pub returns-in-End : goal.returns-in-End
returns-in-End c =
    let made : c.map_or.result ≡ found_at c.loop-entry.first = search rules in
    made ∙ searched-ends _ _ _ _ _ _ c.loop-entry.invariant c.in-End.ensures

pub returns-in-Bad : goal.returns-in-Bad
returns-in-Bad c = searched-bad _ _ _ _ _ _ _ c.loop-entry.invariant c.in-Bad.ensures
