use Rattle.std.proofs.Common.{◌≡◌, ◌↔◌, ℕ, List, false, Contains, subst}
use Rattle.dg_model.specs.declared.wants.Want.TheVariants.{File}
use Rattle.dg_infer.proofs.FileLaws.{blocks_are}
use Rattle.dg_infer.specs.Inferences.{kept_in}
use Rattle.dg_infer.specs.Known.{is_system_by}
use Rattle.dg_infer.specs.Meanings.{KeptInference}
use Rattle.dg_infer.specs.Wants.{IsWantBy}
use Rattle.dg_infer.proofs.inferences.Inference.file_blocks.Goals as goal

pub returns-clause-are : goal.returns-clause-are
returns-clause-are c =
    subst (λ (k : KeptInference). (b : ℕ) → Contains c.sort_once.new.list.items b ↔ IsWantBy k b (File c.args.inode)) c.self.view_is
    (blocks_are (kept_in c.self.inside) c.args.inode c.in_ok-owned.owned.items c.in_ok-blocks.blocks.items c.sort_once.new.list.items
    (c.is_regular.ensures.0 c.if-not-is_regular.false) c.in_ok-owned.ensures (subst (λ (xs : List ℕ). (b : ℕ) → Contains c.in_ok-blocks.blocks.items b ↔ (Contains xs b × (is_system_by c.self.inside.geometry b ≡ false))) c.deref.ensures.value c.in_ok-blocks.ensures) c.sort_once.ensures.same)
