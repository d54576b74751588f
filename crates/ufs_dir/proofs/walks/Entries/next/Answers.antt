use Rattle.std.proofs.Common.{◌≡◌, ◌<◌, length, arith}
use Rattle.std.proofs.lemmas.Bool.Decides.{nat_tests}
use Rattle.ufs_dir.proofs.StepLaws.{gives_bad, gives_end, gives_entry}
use Rattle.ufs_dir.proofs.walks.Entries.next.Goals as goal

pub returns-then-is_empty : goal.returns-then-is_empty
returns-then-is_empty c =
    let none : length c.self.inside.rest.now ≡ 0 = grind (arith, nat_tests, c.if-is_empty.ensures) in
    rw (← c.self.view_is) (gives_end _ _ none)

pub returns-in-Ok : goal.returns-in-Ok
returns-in-Ok c =
    let some : 0 < length c.self.inside.rest.now = grind (arith, nat_tests, c.if-is_empty.ensures) in
    rw (← c.self.view_is) (gives_entry _ _ _ _ some c.in-Ok.ensures.ok)

pub returns-in-Err : goal.returns-in-Err
returns-in-Err c =
    let some : 0 < length c.self.inside.rest.now = grind (arith, nat_tests, c.if-is_empty.ensures) in
    rw (← c.self.view_is) (gives_bad _ _ _ some c.in-Err.ensures.err)
