use Rattle.std.proofs.Common.{◌≡◌, ◌∙◌, ◌<◌, ◌+◌, ◌*◌, ◌++◌, ℕ, List, ap, arith, length}
use Rattle.std.specs.Prelude.{codes}
use Rattle.std.specs.Fmt.{decimal}
use Rattle.dg_model.specs.Lives.{boundary_at}
use Rattle.dg_model.specs.Tables.{used_in}
use Rattle.dg_model.specs.declared.members.MemberState.{MemberState}
use Rattle.dg_pair.specs.Boundaries.{members_of as boundary_members}
use Rattle.dg_saved.proofs.Places.{place_below, place_of}
use Rattle.dg_saved.proofs.TextLines.{line_whole}
use Rattle.dg_saved.specs.Texts.{pair_words}
use Rattle.dg_volume.specs.Volumes.{live_of, members_of, table_of}
use Rattle.dg_saved.proofs.texts.push_boundary.Goals as goal

pub boundary-boundary-requires-clause-in_use : goal.boundary-boundary-requires-clause-in_use
boundary-boundary-requires-clause-in_use g c =
    place_below (live_of c.args.volume.now) c.live.result.now c.args.s c.live.ensures c.requires.well.in_use.live.ascend
    (omega (arith, c.requires.boundary, c.requires.well.in_use.number))

pub used-requires-clause-in_use : goal.used-requires-clause-in_use
used-requires-clause-in_use g c =
    place_below (live_of c.args.volume.now) c.live.result.now c.args.s c.live.ensures c.requires.well.in_use.live.ascend
    (omega (arith, c.requires.boundary, c.requires.well.in_use.number))

pub returns : goal.returns
returns g c =
    let s = c.args.s in
    let b = c.boundary-boundary.result.now in
    let v = c.args.volume.now in
    let low : s < length (live_of v) = omega (arith, c.requires.boundary, c.requires.well.in_use.number) in
    let place = place_of (live_of v) c.live.result.now s c.live.ensures c.requires.well.in_use.live.ascend low in
    let number = c.boundary-boundary.ensures.number ∙ place in
    let first : c.member.result ≡ members_of v (2 * s) =
    c.member.ensures ∙ ap (λ (n : ℕ). boundary_members b (2 * n + 0)) number
    ∙ ap (λ (q : ℕ). boundary_members b q) (omega arith) ∙ c.boundary-boundary.ensures.members (2 * s) (omega (arith, place)) in
    let second : c.member-2.result ≡ members_of v (2 * s + 1) =
    c.member-2.ensures ∙ ap (λ (n : ℕ). boundary_members b (2 * n + 1)) number
    ∙ c.boundary-boundary.ensures.members (2 * s + 1) (omega (arith, place)) in
    let pair = c.in_ok-push_pair.ensures
    ∙ ap (λ (m : MemberState). c.push.new.text.items ++ pair_words m c.member-2.result) first
    ∙ ap (λ (m : MemberState). c.push.new.text.items ++ pair_words (members_of v (2 * s)) m) second in
    let used = c.in_ok-push_words-2.ensures ∙ ap (λ (n : ℕ). c.push_pair.new.text.items ++ (codes " " ++ decimal n)) (c.used.ensures ∙ ap (used_in (table_of v)) place) in
    let words = c.in_ok-push_words.ensures ∙ ap (λ (live : List ℕ). c.args.text.now.items ++ (codes "boundary " ++ decimal (boundary_at live s))) c.live.ensures in
    line_whole c.push-2.result _ _ _ _ _ _ (codes "boundary " ++ decimal (boundary_at (live_of v) s)) _ _ words c.in_ok-push.ensures pair used c.push-2.ensures
