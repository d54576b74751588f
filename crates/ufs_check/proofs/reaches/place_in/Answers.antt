use Rattle.std.proofs.Common.{◌≡◌, ◌∙◌, ℕ, ◌+◌, ◌-◌, ◌<◌, ◌≤◌, Contains, Some, ap, subst, sym, arith}
use Rattle.ufs_check.proofs.RunLaws.{from_contains, get_from}
use Rattle.ufs_check.proofs.reaches.place_in.Goals as goal

pub overflow_sub-result : goal.overflow_sub-result
overflow_sub-result c =
    (from_contains c.in-Some.run'.first c.in-Some.run'.count c.args.f (subst (λ xs. Contains xs c.args.f) (sym c.in-Some.ensures.value) c.requires.claimed)).0

pub returns-clause-place : goal.returns-clause-place
returns-clause-place c =
    let first = c.in-Some.run'.first in
    let inside = from_contains first c.in-Some.run'.count c.args.f (subst (λ xs. Contains xs c.args.f) (sym c.in-Some.ensures.value) c.requires.claimed) in
    let low = inside.0 in
    let high = inside.1 in
    let within : c.args.f - first < c.in-Some.run'.count = omega arith in
    let back : first + (c.args.f - first) ≡ c.args.f = omega arith in
    rw (← c.in-Some.ensures.value) (get_from first c.in-Some.run'.count (c.args.f - first) within ∙ ap Some back)

pub returns-clause-few : goal.returns-clause-few
returns-clause-few c =
    let inside = from_contains c.in-Some.run'.first c.in-Some.run'.count c.args.f (subst (λ xs. Contains xs c.args.f) (sym c.in-Some.ensures.value) c.requires.claimed) in
    let low = inside.0 in
    let high = inside.1 in
    let few = c.in-Some.ensures.run.few in
    omega arith
