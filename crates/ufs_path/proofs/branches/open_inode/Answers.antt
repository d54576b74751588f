use Rattle.std.proofs.Common.{◌≡◌, ◌*◌, [], true, false, refl, rules}
use Rattle.std.specs.Prelude.{◌&&◌, nat_lt}
use Rattle.ufs_model.specs.Inodes.{kind_of}
use Rattle.ufs_model.specs.Paths.{is_directory}
use Rattle.ufs_path.proofs.BranchLaws.{below_needed, below_opens_in, below_shut}
use Rattle.ufs_path.proofs.ConsultLaws.{consults_along}
use Rattle.ufs_path.specs.Trees.{left_on}
use Rattle.ufs_path.proofs.branches.open_inode.Goals as goal

pub returns-then-depth-g-clause-opens : goal.returns-then-depth-g-clause-opens
returns-then-depth-g-clause-opens g c =
    let is : (is_directory (kind_of c.args.inode.now.mode) && nat_lt c.args.depth (c.args.g.now.ncg * c.args.g.now.ipg)) ≡ true = search rules in
    below_opens_in (g.V.View.stands_for c.args.view.now) (g.V.View.tells c.open_directory.new.view) (g.V.View.is_gone c.args.view.now) (g.V.View.is_gone c.open_directory.new.view)
    c.args.g.now c.args.depth c.args.inode.now (left_on c.args.stack.now.items) (left_on c.open_directory.new.stack.items) c.open_directory.result is c.open_directory.ensures.opens

pub returns-then-depth-g-clause-consults : goal.returns-then-depth-g-clause-consults
returns-then-depth-g-clause-consults g c =
    let is : (is_directory (kind_of c.args.inode.now.mode) && nat_lt c.args.depth (c.args.g.now.ncg * c.args.g.now.ipg)) ≡ true = search rules in
    consults_along g.V.View (λ told v holds. (holds, λ b h. below_needed c.args.g.now c.args.depth c.args.inode.now v b is h)) (λ h. h) c.open_directory.ensures.consults

pub returns-else-is_directory-clause-opens : goal.returns-else-is_directory-clause-opens
returns-else-is_directory-clause-opens g c =
    let is : (is_directory (kind_of c.args.inode.now.mode) && nat_lt c.args.depth (c.args.g.now.ncg * c.args.g.now.ipg)) ≡ false = search rules in
    ([], refl, below_shut c.args.g.now c.args.depth c.args.inode.now is)
