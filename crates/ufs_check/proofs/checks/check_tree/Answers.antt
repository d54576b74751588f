use Rattle.ufs_check.proofs.checks.check_tree.Goals as goal

pub returns-clause-found : goal.returns-clause-found
returns-clause-found g c =
    let found = rw c.in-Some.is at c.in_ok-found.ensures.found in
    λ told v stands.
    let both = found told v stands in
    (record { directories = both.0; links = c.in_ok-links.ensures v (both.1) }, both.1)

pub returns-clause-there : goal.returns-clause-there
returns-clause-there g c = let there = rw c.in-Some.is at c.in_ok-found.ensures.there in there
