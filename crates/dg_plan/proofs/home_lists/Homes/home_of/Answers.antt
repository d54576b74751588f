use Rattle.std.proofs.Common.{◌≡◌, ◌<◌, List, get_or, length, ap, subst, ◌∙◌, arith, rules, nat_cmp}
use Rattle.std.specs.Prelude.{Err}
use Rattle.std.specs.List.Sorted.{IsBinarySearchResult}
use Rattle.std.proofs.lemmas.Fn.{always_returns_same}
use Rattle.dg_model.specs.declared.homes.Home.{Home}
use Rattle.dg_plan.proofs.RiseLaws.{search_failed, search_found}
use Rattle.dg_plan.proofs.home_lists.Homes.home_of.Goals as goal

pub returns-in-Ok : goal.returns-in-Ok
returns-in-Ok c =
    let at = c.in-Ok.ensures.position (λ (home : Home). home.inode) (always_returns_same _ _ _ (λ a r f' k. search rules)) in
    let view = c.self.view_is in
    let same : c.deref.result.now ≡ c.args.self.now = c.deref.ensures.value ∙ view in
    let within : c.in-Ok.place < length c.args.self.now = omega (arith, c.in-Ok.ensures.bound, ap length same) in
    search_found c.args.self.now c.args.inode c.in-Ok.place c.index.result.now c.index.result.now c.requires within
    (c.index.ensures ∙ ap (λ (hs : List Home). get_or hs c.in-Ok.place c.index.result.now) (view))
    (subst (λ (hs : List Home). nat_cmp (get_or hs c.in-Ok.place c.index.result.now).inode c.args.inode ≡ _) same (at c.index.result.now))

pub returns-in-Err : goal.returns-in-Err
returns-in-Err c =
    let at = c.in-Err.ensures.position (λ (home : Home). home.inode) (always_returns_same _ _ _ (λ a r f' k. search rules)) in
    search_failed c.args.self.now c.args.inode c.in-Err.field-0 c.requires
    (subst (λ (hs : List Home). IsBinarySearchResult (λ (home : Home). nat_cmp home.inode c.args.inode) hs (Err c.in-Err.field-0)) (c.deref.ensures.value ∙ c.self.view_is) at)
