use Rattle.std.proofs.Common.{◌∙◌, ◌+◌, ◌*◌, ℕ, List, length, ap, subst, arith}
use Rattle.dg_regroup.specs.Extras.{extra_bytes}
use Rattle.dg_regroup.specs.declared.extras.Extra.{Extra}
use Rattle.dg_store.specs.Stores.{rack_of}
use Rattle.dg_volume.proofs.CommitSteps.{commit_goes, commits}
use Rattle.dg_volume.proofs.ExtraLaws.{extra_fits, extra_long}
use Rattle.dg_volume.proofs.volumes.Volume.commit.Goals as goal
use Rattle.dg_volume.specs.Commits.{CommitsArray, extra_of}
use Rattle.dg_volume.specs.Volumes.{cut_of, live_of, shape_of}

pub commit_good-requires-clause-fits : goal.commit_good-requires-clause-fits
commit_good-requires-clause-fits g c =
    let a = c.args.self.now in
    let says = c.deref.ensures.value ∙ c.in_ok-bytes.ensures ∙ ap (λ (extra : Extra). extra_bytes extra) c.in_ok-extra.ensures.is in
    let u = c.requires.well.in_use in
    let most = c.requires.well.array.table.shape.most_boundaries in
    let long = extra_long (extra_of a).length a.in_use.boundaries (live_of a) (cut_of a) (shape_of a).n (omega (arith, u.number, most)) u.marks in
    extra_fits (g.R.Checkpoint.room_of (rack_of a.store)) (30 + 4 * (shape_of a).n) (length c.deref.result.now)
    (let same = ap (λ (bytes : List ℕ). length bytes) says in omega (arith, same, long)) c.requires.room

pub returns-clause-on : goal.returns-clause-on
returns-clause-on g c =
    commit_goes g.S.InPhase g.R.Rack g.R.Checkpoint.room_of g.R.Checkpoint.commits c.deref.result.now c.commit_good.result c.args.self.now c.commit_good.new.store c.commit_good.ensures c.requires.well

pub returns-clause-commits : goal.returns-clause-commits
returns-clause-commits g c =
    let a = c.args.self.now in
    let says = c.deref.ensures.value ∙ c.in_ok-bytes.ensures ∙ ap (λ (extra : Extra). extra_bytes extra) c.in_ok-extra.ensures.is in
    commits g.S.InPhase g.R.Rack g.R.Checkpoint.room_of g.R.Checkpoint.commits c.commit_good.result a c.commit_good.new.store c.requires.well
    (subst (λ (bytes : List ℕ). CommitsArray g.R.Rack g.R.Checkpoint.room_of g.R.Checkpoint.commits bytes c.commit_good.result a.store c.commit_good.new.store) says c.commit_good.ensures)
