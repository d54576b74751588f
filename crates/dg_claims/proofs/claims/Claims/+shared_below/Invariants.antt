use Rattle.dg_claims.proofs.claims.Claims.+shared_below.Given as goal

abbrev pub decreases-shared_below : goal.decreases-shared_below
decreases-shared_below l = l.levels
