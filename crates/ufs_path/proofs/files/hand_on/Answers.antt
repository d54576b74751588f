use Rattle.std.proofs.Common.{◌++◌, ◌∙◌, ◌+◌, ◌*◌, [], suc, min, ap, refl, add-one, arith}
use Rattle.std.proofs.lemmas.List.{length-append}
use Rattle.dg_io.specs.ViewLaws.{keeps_both, keeps_same}
use Rattle.ufs_path.proofs.FileLaws.{file_fronts}
use Rattle.ufs_path.proofs.PartLaws.{front_fails, front_fails_whole, front_more, front_none}
use Rattle.ufs_path.proofs.ReadsLaws.{wider}
use Rattle.ufs_path.proofs.Sizes.{bytes_through}
use Rattle.ufs_path.specs.Answers.{refusal_of}
use Rattle.ufs_path.proofs.ConsultLaws.{consults_along, consults_both, consults_none}
use Rattle.ufs_path.proofs.NeedLaws.{part_needed}
use Rattle.ufs_path.proofs.files.hand_on.Goals as goal

pub loop-n-init : goal.loop-n-init
loop-n-init g c = record {
  keeps = keeps_same c.args.view.now c.requires.sound (g.met.V.View.unchanged c.args.view.now);
  levels = c.requires.levels;
  later = omega arith;
  given = omega arith;
  handed = ([], refl, g.met.O.Pieces.nothing c.args.out.now, front_none (file_fronts c.args.g.now c.args.inode.now));
  consulted = consults_none g.V.View c.args.view.now _ _ (g.met.V.View.fetched_none c.args.view.now) (λ h. h);
  stays = refl;
}

pub returns-in-Unread-clause-rule : goal.returns-in-Unread-clause-rule
returns-in-Unread-clause-rule g c =
    let so_far = c.loop-n.invariant.keeps in
    let part = c.hand_part.ensures.keeps in
    let handed = c.loop-n.invariant.handed in
    let unread = c.in-Unread.ensures.rule in
    let fronts = file_fronts c.args.g.now c.args.inode.now in
    let read = wider _ (λ b h. h) part.stays (λ v h. h) part.told (handed.3) in (
      handed.0,
      c.loop-n.n,
      c.in-Unread.field-0,
      omega arith,
      handed.1,
      rw (unread.0) (handed.2),
      read,
      front_fails_whole fronts (suc c.loop-n.n) c.args.count (refusal_of c.in-Unread.field-0) (λ b h. part.stays b (so_far.stays b h)) (omega arith)
          (front_fails fronts c.loop-n.n (handed.0) (refusal_of c.in-Unread.field-0) (λ b h. part.stays b (so_far.stays b h)) read
          (wider _ so_far.stays (λ b h. h) so_far.stands (λ h. h) (unread.1))),
    )

pub returns-in-Failed-clause-rule : goal.returns-in-Failed-clause-rule
returns-in-Failed-clause-rule g c =
    let so_far = c.loop-n.invariant.keeps in
    let part = c.hand_part.ensures.keeps in
    let handed = c.loop-n.invariant.handed in
    let failed = c.in-Failed.ensures.rule in
    let rose = failed.3 in (
      handed.0 ++ failed.0,
      suc c.loop-n.n,
      omega arith,
      g.met.O.Pieces.then_part _ _ _ (handed.0) (failed.0) (handed.2) (failed.1),
      front_more (file_fronts c.args.g.now c.args.inode.now) c.loop-n.n (handed.0) (failed.0)
          (wider _ (λ b h. h) part.stays (λ v h. h) part.told (handed.3)) (wider _ so_far.stays (λ b h. h) so_far.stands (λ h. h) (failed.2)),
      omega arith,
    )

pub loop-n-preserved : goal.loop-n-preserved
loop-n-preserved g c =
    let so_far = c.loop-n.invariant.keeps in
    let part = c.hand_part.ensures.keeps in
    let handed = c.loop-n.invariant.handed in
    let all = c.in-All.ensures.rule in
    record {
      keeps = keeps_both g.met.V.View.further c.args.view.now c.loop-n.view c.hand_part.new.view so_far part;
      levels = c.hand_part.ensures.levels ∙ c.loop-n.invariant.levels;
      later = let before = c.hand_part.ensures.later in omega arith;
      given = ap (λ n. n + c.in-All.bytes) c.loop-n.invariant.given ∙ ap (λ n. min (c.loop-n.n * c.args.g.now.bsize) c.args.inode.now.size + n) c.in-All.ensures.count ∙ bytes_through c.args.g.now c.args.inode.now c.loop-n.n;
      handed = (
        handed.0 ++ all.0,
        (let a = handed.1 in let b = all.1 in let e = length-append (handed.0) (all.0) in omega arith),
        g.met.O.Pieces.then _ _ _ (handed.0) (all.0) (handed.2) (all.2),
        rw add-one (front_more (file_fronts c.args.g.now c.args.inode.now) c.loop-n.n (handed.0) (all.0)
            (wider _ (λ b h. h) part.stays (λ v h. h) part.told (handed.3)) (wider _ so_far.stays (λ b h. h) so_far.stands (λ h. h) (all.3))),
      );
      consulted = consults_both g.V.View g.met.V.View.fetched_both so_far part (λ is v holds. (so_far.stands v holds, λ b h. part_needed (file_fronts c.args.g.now c.args.inode.now) c.loop-n.n c.args.count (c.loop-n.invariant.handed.0) v b c.loop-n-test.true ((c.loop-n.invariant.handed.3.rule (part.told is) v holds).answer) h)) (λ h. absurd h) c.loop-n.invariant.consulted c.hand_part.ensures.consults;
      stays = c.in-All.ensures.stays ∙ c.loop-n.invariant.stays;
    }

pub returns-in-Unread-clause-consults : goal.returns-in-Unread-clause-consults
returns-in-Unread-clause-consults g c =
    let so_far = c.loop-n.invariant.keeps in
    let part = c.hand_part.ensures.keeps in
    consults_both g.V.View g.met.V.View.fetched_both so_far part (λ is v holds. (so_far.stands v holds, λ b h. part_needed (file_fronts c.args.g.now c.args.inode.now) c.loop-n.n c.args.count (c.loop-n.invariant.handed.0) v b c.loop-n-test.true ((c.loop-n.invariant.handed.3.rule (part.told is) v holds).answer) h)) (λ h. absurd h) c.loop-n.invariant.consulted c.hand_part.ensures.consults

pub returns-in-Failed-clause-consults : goal.returns-in-Failed-clause-consults
returns-in-Failed-clause-consults g c =
    let so_far = c.loop-n.invariant.keeps in
    let part = c.hand_part.ensures.keeps in
    consults_both g.V.View g.met.V.View.fetched_both so_far part (λ is v holds. (so_far.stands v holds, λ b h. part_needed (file_fronts c.args.g.now c.args.inode.now) c.loop-n.n c.args.count (c.loop-n.invariant.handed.0) v b c.loop-n-test.true ((c.loop-n.invariant.handed.3.rule (part.told is) v holds).answer) h)) (λ h. absurd h) c.loop-n.invariant.consulted c.hand_part.ensures.consults

pub returns-clause-consults : goal.returns-clause-consults
returns-clause-consults g c = consults_along g.V.View (λ is v holds. (holds, λ b h. h)) (λ h. absurd h) c.loop-n.invariant.consulted

pub returns-in-Unread-clause-stays : goal.returns-in-Unread-clause-stays
returns-in-Unread-clause-stays g c = c.in-Unread.ensures.stays ∙ c.loop-n.invariant.stays
