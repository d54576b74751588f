use Rattle.std.proofs.Common.{rules}
use Rattle.std.proofs.lemmas.Fn.{always_returns_same}
use Rattle.dg_model.specs.declared.homes.Home.{Home}
use Rattle.dg_placed.proofs.HomeLaws.{search_failed, search_found}
use Rattle.dg_placed.proofs.files.place_of.Goals as goal

pub returns-in-Ok : goal.returns-in-Ok
returns-in-Ok c =
    let at = c.in-Ok.ensures.position (λ (home : Home). home.inode) (always_returns_same _ _ _ (λ a r f' k. search rules)) in
    let none : Home = record { inode = 0; boundary = 0 } in
    search_found c.args.homes.now c.args.inode c.in-Ok.place none c.in-Ok.ensures.bound (at none)

pub returns-in-Err : goal.returns-in-Err
returns-in-Err c =
    let at = c.in-Err.ensures.position (λ (home : Home). home.inode) (always_returns_same _ _ _ (λ a r f' k. search rules)) in
    search_failed c.args.homes.now c.args.inode c.in-Err.field-0 c.requires at
