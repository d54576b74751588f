use Rattle.std.proofs.Common.{◌≡◌, ◌∙◌, Bool, List, [], subst, sym}
use Rattle.dg_claims.specs.Kept.{table_of}
use Rattle.ufs_audit.proofs.LossLaws.{AreAllHeld, bounds_of, marks_all, marks_below, none_above, ok_along}
use Rattle.ufs_audit.proofs.holders.held_by.Goals as goal

pub returns : goal.returns
returns c =
    let table = table_of c.args.claims.now in
    let dirs = c.args.directories.now in
    let size = c.args.g.now.size in
    let bounds = bounds_of table c.args.g.now c.requires c.claims_inside.ensures.inside c.claims_inside.ensures.levels c.claims_inside.ensures.sources in
    let none : c.deref.result.now ≡ [] = c.deref.ensures.value ∙ c.new-top.ensures.items in
    let third = marks_below table dirs size bounds c.deref.result.now c.in_ok-third.third.items 3 (none_above table dirs size bounds c.deref.result.now none) c.in_ok-third.ensures in
    let above3 = subst (λ (l : List Bool). AreAllHeld table dirs size bounds 3 l) (sym c.deref-2.ensures.value) (marks_all table dirs size bounds c.in_ok-third.third.items 3 third) in
    let second = marks_below table dirs size bounds c.deref-2.result.now c.in_ok-second.second.items 2 above3 c.in_ok-second.ensures in
    let above2 = subst (λ (l : List Bool). AreAllHeld table dirs size bounds 2 l) (sym c.deref-3.ensures.value) (marks_all table dirs size bounds c.in_ok-second.second.items 2 second) in
    let first = marks_below table dirs size bounds c.deref-3.result.now c.in_ok-first.first.items 1 above2 c.in_ok-first.ensures in
    let above1 = subst (λ (l : List Bool). AreAllHeld table dirs size bounds 1 l) (sym c.deref-4.ensures.value) (marks_all table dirs size bounds c.in_ok-first.first.items 1 first) in
    ok_along c.held_at-4.result _ _ (λ marks are. marks_below table dirs size bounds c.deref-4.result.now marks.items 0 above1 are) c.held_at-4.ensures
