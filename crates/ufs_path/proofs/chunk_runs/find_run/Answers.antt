use Rattle.std.proofs.Common.{◌≡◌, ◌/◌, ℕ, ap, subst, inl, inr}
use Rattle.std.specs.Prelude.{IfSome}
use Rattle.ufs_model.specs.Pointers.{file_block_of}
use Rattle.ufs_pointer.specs.Addresses.{address_in}
use Rattle.ufs_path.proofs.ConsultLaws.{consults_fetches}
use Rattle.ufs_path.proofs.RunLaws.{address_needed, hole_found, run_found, wild_found}
use Rattle.ufs_path.proofs.chunk_runs.find_run.Goals as goal

pub returns-in-Gone-clause-consults : goal.returns-in-Gone-clause-consults
returns-in-Gone-clause-consults g c =
    consults_fetches g.V.View (address_needed c.args.g.now c.args.inode.now c.args.n) (λ h. c.in-Gone.ensures.lost) c.in-Gone.ensures.fetched

pub returns-in-Hole-clause-consults : goal.returns-in-Hole-clause-consults
returns-in-Hole-clause-consults g c =
    consults_fetches g.V.View (address_needed c.args.g.now c.args.inode.now c.args.n) (λ h. absurd h) c.file_block.ensures.fetched

pub returns-in-Hole-clause-found : goal.returns-in-Hole-clause-found
returns-in-Hole-clause-found g c = λ is v holds.
    let said = (c.file_block.ensures.rule.rule is v holds).answer in
    let value = (file_block_of c.args.g.now c.args.inode.now c.args.n v).value in
    elim c.in-Hole.is [
      | inl hole ↦ hole_found c.args.g.now c.args.inode.now c.args.n v (subst (λ r. IfSome (address_in r) (λ a. a ≡ value)) hole said)
      | inr wild ↦ wild_found c.args.g.now c.args.inode.now c.args.n v (subst (λ r. IfSome (address_in r) (λ a. a ≡ value)) wild said)
    ]

pub returns-in-At-clause-found : goal.returns-in-At-clause-found
returns-in-At-clause-found g c = λ is v holds.
    run_found c.args.g.now c.args.inode.now c.args.n v c.in-At.start c.in-At.fragments _ ((c.in-At.ensures.rule.rule is v holds).answer)
    (ap (λ (k : ℕ). k / 512) c.bytes_in_block.ensures.value)

pub returns-in-At-clause-consults : goal.returns-in-At-clause-consults
returns-in-At-clause-consults g c =
    consults_fetches g.V.View (address_needed c.args.g.now c.args.inode.now c.args.n) (λ h. absurd h) c.in-At.ensures.fetched
