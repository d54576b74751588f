use Rattle.dg_infer.proofs.chains.+chain_of.Given as goal

abbrev pub decreases-chain_of : goal.decreases-chain_of
decreases-chain_of l = l.levels
