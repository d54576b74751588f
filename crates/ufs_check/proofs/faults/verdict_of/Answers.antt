use Rattle.std.proofs.Common.{subst}
use Rattle.ufs_check.specs.Verdicts.{first_found}
use Rattle.ufs_check.proofs.FirstLaws.{IsFirstBelow, malformed_judges, sound_judges, whole_first}
use Rattle.ufs_check.proofs.faults.verdict_of.Goals as goal

pub returns-in-None-clause-judges : goal.returns-in-None-clause-judges
returns-in-None-clause-judges c = λ g v are.
    let all = whole_first c.args.faults.now _ _ _ _ c.keep_slots.ensures c.keep_claims.ensures c.keep_entries.ensures c.keep_links.ensures in
    sound_judges g v c.args.faults.now are (subst (IsFirstBelow (first_found c.args.faults.now) 23) c.in-None.is all)

pub returns-in-Some-clause-judges : goal.returns-in-Some-clause-judges
returns-in-Some-clause-judges c = λ g v are.
    let all = whole_first c.args.faults.now _ _ _ _ c.keep_slots.ensures c.keep_claims.ensures c.keep_entries.ensures c.keep_links.ensures in
    malformed_judges g v c.args.faults.now c.in-Some.kind c.in-Some.number are (subst (IsFirstBelow (first_found c.args.faults.now) 23) c.in-Some.is all)
