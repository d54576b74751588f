use Rattle.std.proofs.Common.{List, ◌↔◌, IsTrue, subst, ◌∙◌}
use Rattle.dg_model.specs.Homes.{Ascend}
use Rattle.dg_model.specs.declared.homes.Home.{Home}
use Rattle.dg_plan.proofs.home_lists.Homes.ascend.Goals as goal

pub returns : goal.returns
returns c = subst (λ (homes : List Home). IsTrue c.ascend.result ↔ Ascend homes) (c.deref.ensures.value ∙ c.self.view_is) c.ascend.ensures
