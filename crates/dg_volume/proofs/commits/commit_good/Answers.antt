use Rattle.std.proofs.Common.{◌≡◌, ◌<◌, ◌*◌, ℕ, true, subst, sym}
use Rattle.dg_io.specs.Commits.{is_marked}
use Rattle.dg_store.specs.Stores.{shape_of}
use Rattle.dg_volume.proofs.CommitLaws.{commits_array, fallen_below, standing}
use Rattle.dg_volume.proofs.commits.commit_good.Goals as goal
use Rattle.dg_volume.specs.Commits.{FailsMarked}

pub fail_marked-requires-clause-whole : goal.fail_marked-requires-clause-whole
fail_marked-requires-clause-whole g c =
    let s = c.requires.sound in
    c.commit-answer.ensures.leaves.whole (record { table = s.table; paired = s.paired; others = s.others; long = s.long; built = s.built })

pub fail_marked-requires-clause-below : goal.fail_marked-requires-clause-below
fail_marked-requires-clause-below g c =
    let mid = c.commit-answer.new.self in
    subst (λ (fell : ℕ). (q : ℕ) → is_marked fell q ≡ true → q < 2 * (shape_of mid).b) (sym c.fallen.ensures)
    (fallen_below g.R.Rack g.R.Checkpoint.room_of c.good_members-keep.result c.args.extra.now c.commit-answer.result c.args.store.now mid c.requires.sound
    c.good_members-keep.ensures c.commit-answer.ensures.leaves)

pub standing_is_sound-requires-clause-stand : goal.standing_is_sound-requires-clause-stand
standing_is_sound-requires-clause-stand g c =
    let mid = c.commit-answer.new.self in
    standing g.R.Rack g.R.Checkpoint.room_of c.good_members-keep.result c.args.extra.now c.commit-answer.result c.args.store.now mid c.fail_marked.new.store c.requires.sound
    c.commit-answer.ensures.leaves (subst (λ (fell : ℕ). FailsMarked g.R.Rack fell mid c.fail_marked.new.store) c.fallen.ensures c.fail_marked.ensures)

pub returns : goal.returns
returns g c =
    let mid = c.commit-answer.new.self in
    commits_array g.R.Rack g.R.Checkpoint.room_of g.R.Checkpoint.commits c.good_members-keep.result c.args.extra.now c.commit-answer.result c.args.store.now mid c.fail_marked.new.store
    c.good_members-keep.ensures c.commit-answer.ensures.leaves c.commit-answer.ensures.commits
    (subst (λ (fell : ℕ). FailsMarked g.R.Rack fell mid c.fail_marked.new.store) c.fallen.ensures c.fail_marked.ensures) c.standing_is_sound.ensures
