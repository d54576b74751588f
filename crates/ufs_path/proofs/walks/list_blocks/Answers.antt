use Rattle.std.proofs.Common.{◌++◌, ◌∙◌, [], inl, inr, suc, add-one, ap, refl, sym, arith}
use Rattle.std.proofs.lemmas.List.{append-nil}
use Rattle.dg_io.specs.ViewLaws.{keeps_both, keeps_same}
use Rattle.ufs_model.specs.Paths.{chunks_in}
use Rattle.ufs_path.proofs.EntryLaws.{entry_fronts}
use Rattle.ufs_path.proofs.PartLaws.{front_fails, front_fails_whole, front_none}
use Rattle.ufs_path.proofs.ReadsLaws.{wider}
use Rattle.ufs_path.proofs.Sizes.{bytes_through}
use Rattle.ufs_path.proofs.WalkLaws.{failed_then, handed_later, handed_none, handed_then, more_read, unread_then}
use Rattle.ufs_path.specs.Answers.{refusal_of}
use Rattle.ufs_path.specs.Walks.{entries_among}
use Rattle.ufs_path.proofs.ConsultLaws.{consults_along, consults_both, consults_none}
use Rattle.ufs_path.proofs.NeedLaws.{block_first, lines_second}
use Rattle.ufs_path.proofs.walks.list_blocks.Goals as goal

pub loop-n-init : goal.loop-n-init
loop-n-init g c = record {
  keeps = keeps_same c.args.view.now c.requires.sound (g.met.V.View.unchanged c.args.view.now);
  levels = c.requires.levels;
  later = omega arith;
  few = omega arith;
  handed = record {
    entries = [];
    read = front_none (entry_fronts c.args.g.now c.args.inode.now);
    are = handed_none c.args.g.now c.args.out.now g.met.O.Listing.nothing;
  };
  consulted = consults_none g.V.View c.args.view.now _ _ (g.met.V.View.fetched_none c.args.view.now) (λ h. h);
  stays = refl;
}

pub returns-in-Unread-clause-rule : goal.returns-in-Unread-clause-rule
returns-in-Unread-clause-rule g c =
    let so_far = c.loop-n.invariant.keeps in
    let block = c.read_entries.ensures.keeps in
    let step = c.list_chunks.ensures.keeps in
    let done = c.loop-n.invariant.handed in
    let found = entries_among c.args.g.now.endian (chunks_in c.in-Ok.chunks c.read_entries.new.levels.block) in record {
      blocks = suc c.loop-n.n;
      few = omega arith;
      through = record {
        entries = done.entries ++ found;
        read = more_read c.args.g.now c.args.inode.now c.loop-n.n done.entries found so_far.stays block.stays step.stays so_far.stands block.told step.told done.read c.in-Ok.ensures.rule;
        are = inl (unread_then c.args.g.now done.entries found [] _ c.loop-n.given c.in-Unread.more c.in-Unread.fault c.args.out.now c.loop-n.out c.list_chunks.new.out g.met.O.Listing.then
            (λ b h. block.stays b (so_far.stays b h)) step.stays (λ v h. block.stands v (so_far.stands v h)) step.told (ap (λ xs. done.entries ++ xs) (sym (append-nil found)))
            (handed_later c.args.g.now block.stays block.told done.are) c.in-Unread.ensures.rule);
      };
    }

pub returns-in-Failed-clause-rule : goal.returns-in-Failed-clause-rule
returns-in-Failed-clause-rule g c =
    let so_far = c.loop-n.invariant.keeps in
    let block = c.read_entries.ensures.keeps in
    let step = c.list_chunks.ensures.keeps in
    let done = c.loop-n.invariant.handed in
    let found = entries_among c.args.g.now.endian (chunks_in c.in-Ok.chunks c.read_entries.new.levels.block) in record {
      blocks = suc c.loop-n.n;
      few = omega arith;
      through = record {
        entries = done.entries ++ found;
        read = more_read c.args.g.now c.args.inode.now c.loop-n.n done.entries found so_far.stays block.stays step.stays so_far.stands block.told step.told done.read c.in-Ok.ensures.rule;
        are = failed_then c.args.g.now done.entries found [] _ c.loop-n.given c.args.out.now c.loop-n.out c.list_chunks.new.out g.met.O.Listing.then_part c.loop-n.invariant.later
            (λ b h. block.stays b (so_far.stays b h)) step.stays (λ v h. block.stands v (so_far.stands v h)) step.told (ap (λ xs. done.entries ++ xs) (sym (append-nil found)))
            (handed_later c.args.g.now block.stays block.told done.are) c.in-Failed.ensures.rule;
      };
    }

pub returns-in-Err-clause-rule : goal.returns-in-Err-clause-rule
returns-in-Err-clause-rule g c =
    let so_far = c.loop-n.invariant.keeps in
    let block = c.read_entries.ensures.keeps in
    let done = c.loop-n.invariant.handed in
    let fronts = entry_fronts c.args.g.now c.args.inode.now in
    let read = wider _ (λ b h. h) block.stays (λ v h. h) block.told done.read in record {
      blocks = c.loop-n.n;
      few = omega arith;
      through = record {
        entries = done.entries;
        read = read;
        are = inr (
          handed_later c.args.g.now block.stays block.told done.are,
          front_fails_whole fronts (suc c.loop-n.n) c.args.count (refusal_of c.in-Err.fault) (λ b h. block.stays b (so_far.stays b h)) (omega arith)
              (front_fails fronts c.loop-n.n done.entries (refusal_of c.in-Err.fault) (λ b h. block.stays b (so_far.stays b h)) read
              (wider _ so_far.stays (λ b h. h) so_far.stands (λ h. h) c.in-Err.ensures.rule)),
        );
      };
    }

pub loop-n-preserved : goal.loop-n-preserved
loop-n-preserved g c =
    let so_far = c.loop-n.invariant.keeps in
    let block = c.read_entries.ensures.keeps in
    let step = c.list_chunks.ensures.keeps in
    let both = keeps_both g.met.V.View.further c.args.view.now c.loop-n.view c.read_entries.new.view so_far block in
    let done = c.loop-n.invariant.handed in
    let found = entries_among c.args.g.now.endian (chunks_in c.in-Ok.chunks c.read_entries.new.levels.block) in
    let few = c.loop-n.invariant.few in
    let more = c.in-All.ensures.few in
    let inside = c.in-Ok.ensures.few in
    let bytes = bytes_through c.args.g.now c.args.inode.now c.loop-n.n in
    let before = c.loop-n.invariant.later in
    let after = c.list_chunks.ensures.later in record {
      keeps = keeps_both g.met.V.View.further c.args.view.now c.read_entries.new.view c.list_chunks.new.view both step;
      levels = c.list_chunks.ensures.levels ∙ c.read_entries.ensures.levels ∙ c.loop-n.invariant.levels;
      later = omega arith;
      few = omega arith;
      handed = record {
        entries = done.entries ++ found;
        read = rw add-one (more_read c.args.g.now c.args.inode.now c.loop-n.n done.entries found so_far.stays block.stays step.stays so_far.stands block.told step.told done.read c.in-Ok.ensures.rule);
        are = handed_then c.args.g.now done.entries found c.loop-n.given c.in-All.more c.args.out.now c.loop-n.out c.list_chunks.new.out g.met.O.Listing.then
            both.stays step.stays both.stands step.told (handed_later c.args.g.now block.stays block.told done.are) c.in-All.ensures.rule;
      };
      consulted = consults_both g.V.View g.met.V.View.fetched_both both step (λ told v holds. (
        both.stands v (holds.0),
        λ b h. lines_second c.args.g.now c.args.inode.now (suc c.loop-n.n) c.args.count done.entries found (holds.1.0) done.are.lines v b (omega arith)
            ((more_read c.args.g.now c.args.inode.now c.loop-n.n done.entries found so_far.stays block.stays step.stays so_far.stands block.told step.told done.read c.in-Ok.ensures.rule).rule told v (holds.0)).answer
            (holds.1.1) ((done.are.read.rule (block.told (step.told told)) v (holds.0)).answer) h,
      )) (λ h. absurd h)
          (consults_both g.V.View g.met.V.View.fetched_both so_far block (λ told v holds. (so_far.stands v (holds.0), λ b h. block_first c.args.g.now c.args.inode.now c.loop-n.n c.args.count done.entries v b c.loop-n-test.true ((done.read.rule (block.told told) v (holds.0)).answer) h)) (λ h. h) c.loop-n.invariant.consulted c.in-Ok.ensures.consults) c.list_chunks.ensures.consults;
      stays = c.in-All.ensures.stays ∙ c.loop-n.invariant.stays;
    }

pub returns-in-Unread-clause-consults : goal.returns-in-Unread-clause-consults
returns-in-Unread-clause-consults g c =
    let so_far = c.loop-n.invariant.keeps in
    let block = c.read_entries.ensures.keeps in
    let step = c.list_chunks.ensures.keeps in
    let both = keeps_both g.met.V.View.further c.args.view.now c.loop-n.view c.read_entries.new.view so_far block in
    let done = c.loop-n.invariant.handed in
    let found = entries_among c.args.g.now.endian (chunks_in c.in-Ok.chunks c.read_entries.new.levels.block) in
    consults_both g.V.View g.met.V.View.fetched_both both step (λ told v holds. (
      both.stands v (holds.0),
      λ b h. lines_second c.args.g.now c.args.inode.now (suc c.loop-n.n) c.args.count done.entries found (holds.1.0) done.are.lines v b (omega arith)
          ((more_read c.args.g.now c.args.inode.now c.loop-n.n done.entries found so_far.stays block.stays step.stays so_far.stands block.told step.told done.read c.in-Ok.ensures.rule).rule told v (holds.0)).answer
          (holds.1.1) ((done.are.read.rule (block.told (step.told told)) v (holds.0)).answer) h,
    )) (λ h. h)
    (consults_both g.V.View g.met.V.View.fetched_both so_far block (λ told v holds. (so_far.stands v (holds.0), λ b h. block_first c.args.g.now c.args.inode.now c.loop-n.n c.args.count done.entries v b c.loop-n-test.true ((done.read.rule (block.told told) v (holds.0)).answer) h)) (λ h. h) c.loop-n.invariant.consulted c.in-Ok.ensures.consults) c.in-Unread.ensures.consults

pub returns-in-Failed-clause-consults : goal.returns-in-Failed-clause-consults
returns-in-Failed-clause-consults g c =
    let so_far = c.loop-n.invariant.keeps in
    let block = c.read_entries.ensures.keeps in
    let step = c.list_chunks.ensures.keeps in
    let both = keeps_both g.met.V.View.further c.args.view.now c.loop-n.view c.read_entries.new.view so_far block in
    let done = c.loop-n.invariant.handed in
    let found = entries_among c.args.g.now.endian (chunks_in c.in-Ok.chunks c.read_entries.new.levels.block) in
    consults_both g.V.View g.met.V.View.fetched_both both step (λ told v holds. (
      both.stands v (holds.0),
      λ b h. lines_second c.args.g.now c.args.inode.now (suc c.loop-n.n) c.args.count done.entries found (holds.1.0) done.are.lines v b (omega arith)
          ((more_read c.args.g.now c.args.inode.now c.loop-n.n done.entries found so_far.stays block.stays step.stays so_far.stands block.told step.told done.read c.in-Ok.ensures.rule).rule told v (holds.0)).answer
          (holds.1.1) ((done.are.read.rule (block.told (step.told told)) v (holds.0)).answer) h,
    )) (λ h. absurd h)
    (consults_both g.V.View g.met.V.View.fetched_both so_far block (λ told v holds. (so_far.stands v (holds.0), λ b h. block_first c.args.g.now c.args.inode.now c.loop-n.n c.args.count done.entries v b c.loop-n-test.true ((done.read.rule (block.told told) v (holds.0)).answer) h)) (λ h. h) c.loop-n.invariant.consulted c.in-Ok.ensures.consults) c.list_chunks.ensures.consults

pub returns-in-Err-clause-consults : goal.returns-in-Err-clause-consults
returns-in-Err-clause-consults g c =
    let so_far = c.loop-n.invariant.keeps in
    let block = c.read_entries.ensures.keeps in
    let done = c.loop-n.invariant.handed in
    consults_both g.V.View g.met.V.View.fetched_both so_far block (λ told v holds. (so_far.stands v (holds.0), λ b h. block_first c.args.g.now c.args.inode.now c.loop-n.n c.args.count done.entries v b c.loop-n-test.true ((done.read.rule (block.told told) v (holds.0)).answer) h)) (λ h. h) c.loop-n.invariant.consulted c.in-Err.ensures.consults

pub returns-clause-consults : goal.returns-clause-consults
returns-clause-consults g c = consults_along g.V.View (λ is v holds. (holds, λ b h. h)) (λ h. absurd h) c.loop-n.invariant.consulted

pub returns-in-Unread-clause-stays : goal.returns-in-Unread-clause-stays
returns-in-Unread-clause-stays g c = c.in-Unread.ensures.stays ∙ c.loop-n.invariant.stays
