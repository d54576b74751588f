use Rattle.std.proofs.Common.{◌≡◌, ◌++◌, ◌∙◌, ◌-◌, ◌*◌, [], ap, take, drop, refl, subst, sym, arith}
use Rattle.std.proofs.lemmas.List.{append_assoc}
use Rattle.dg_io.specs.ViewLaws.{keeps_both, keeps_same}
use Rattle.ufs_model.specs.Chunks.{entries_in, used_entries}
use Rattle.ufs_model.specs.Listings.{listed_entries}
use Rattle.ufs_model.specs.Paths.{chunks_in}
use Rattle.ufs_model.specs.Readings.{ReadsAs}
use Rattle.ufs_path.proofs.WalkLaws.{among_end, among_next, failed_then, handed_none, handed_then, unread_then}
use Rattle.ufs_path.specs.Walks.{AreHanded, entries_among}
use Rattle.ufs_path.proofs.ConsultLaws.{consults_along, consults_both, consults_none}
use Rattle.ufs_path.proofs.NeedLaws.{lines_needed}
use Rattle.ufs_path.proofs.walks.list_chunks.Goals as goal

pub loop-i-init : goal.loop-i-init
loop-i-init g c = record {
  keeps = keeps_same c.args.view.now c.requires.sound (g.met.V.View.unchanged c.args.view.now);
  levels = c.requires.levels;
  block = refl;
  later = omega arith;
  few = omega arith;
  handed = ([], ap (λ k. entries_among c.args.g.now.endian (chunks_in k c.args.levels.now.block)) (let e : c.args.count ≡ c.args.count - 0 = omega arith in e), handed_none c.args.g.now c.args.out.now g.met.O.Listing.nothing);
  consulted = consults_none g.V.View c.args.view.now _ _ (g.met.V.View.fetched_none c.args.view.now) (λ h. h);
  stays = refl;
}

pub returns-in-Unread-clause-rule : goal.returns-in-Unread-clause-rule
returns-in-Unread-clause-rule g c =
    let so_far = c.loop-i.invariant.keeps in
    let step = c.list_chunk.ensures.keeps in
    let handed = c.loop-i.invariant.handed in
    let is : c.chunk_at-chunk.result ≡ take 512 (drop (c.loop-i.i * 512) c.args.levels.now.block) = rw (c.block.ensures, c.loop-i.invariant.block) at c.chunk_at-chunk.ensures in
    unread_then c.args.g.now (handed.0) (used_entries (entries_in c.args.g.now.endian 0 c.chunk_at-chunk.result)) _ _ c.loop-i.given c.in-Unread.n c.in-Unread.fault c.args.out.now c.loop-i.out c.list_chunk.new.out g.met.O.Listing.then
    so_far.stays step.stays so_far.stands step.told (among_next c.args.g.now.endian c.args.count c.loop-i.i c.args.levels.now.block _ _ (handed.0) c.loop-i-test.true is (handed.1)) (handed.2) c.in-Unread.ensures.rule

pub returns-in-Failed-clause-rule : goal.returns-in-Failed-clause-rule
returns-in-Failed-clause-rule g c =
    let so_far = c.loop-i.invariant.keeps in
    let step = c.list_chunk.ensures.keeps in
    let handed = c.loop-i.invariant.handed in
    let is : c.chunk_at-chunk.result ≡ take 512 (drop (c.loop-i.i * 512) c.args.levels.now.block) = rw (c.block.ensures, c.loop-i.invariant.block) at c.chunk_at-chunk.ensures in
    failed_then c.args.g.now (handed.0) (used_entries (entries_in c.args.g.now.endian 0 c.chunk_at-chunk.result)) _ _ c.loop-i.given c.args.out.now c.loop-i.out c.list_chunk.new.out g.met.O.Listing.then_part c.loop-i.invariant.later
    so_far.stays step.stays so_far.stands step.told (among_next c.args.g.now.endian c.args.count c.loop-i.i c.args.levels.now.block _ _ (handed.0) c.loop-i-test.true is (handed.1)) (handed.2) c.in-Failed.ensures.rule

pub loop-i-preserved : goal.loop-i-preserved
loop-i-preserved g c =
    let so_far = c.loop-i.invariant.keeps in
    let step = c.list_chunk.ensures.keeps in
    let handed = c.loop-i.invariant.handed in
    let is : c.chunk_at-chunk.result ≡ take 512 (drop (c.loop-i.i * 512) c.args.levels.now.block) = rw (c.block.ensures, c.loop-i.invariant.block) at c.chunk_at-chunk.ensures in
    let few = c.loop-i.invariant.few in
    let more = c.in-All.ensures.few in
    let before = c.loop-i.invariant.later in
    let after = c.list_chunk.ensures.later in record {
      keeps = keeps_both g.met.V.View.further c.args.view.now c.loop-i.view c.list_chunk.new.view so_far step;
      levels = c.list_chunk.ensures.levels ∙ c.loop-i.invariant.levels;
      block = c.list_chunk.ensures.block ∙ c.loop-i.invariant.block;
      later = omega arith;
      few = omega arith;
      handed = (
        handed.0 ++ used_entries (entries_in c.args.g.now.endian 0 c.chunk_at-chunk.result),
        among_next c.args.g.now.endian c.args.count c.loop-i.i c.args.levels.now.block _ _ (handed.0) c.loop-i-test.true is (handed.1) ∙ sym (append_assoc (handed.0) (used_entries (entries_in c.args.g.now.endian 0 c.chunk_at-chunk.result)) _),
        handed_then c.args.g.now (handed.0) (used_entries (entries_in c.args.g.now.endian 0 c.chunk_at-chunk.result)) c.loop-i.given c.in-All.n c.args.out.now c.loop-i.out c.list_chunk.new.out g.met.O.Listing.then
            so_far.stays step.stays so_far.stands step.told (handed.2) c.in-All.ensures.rule,
      );
      consulted = consults_both g.V.View g.met.V.View.fetched_both so_far step (λ told v holds. (
        so_far.stands v holds,
        λ b h. lines_needed c.args.g.now 1 (handed.0) (used_entries (entries_in c.args.g.now.endian 0 c.chunk_at-chunk.result)) _ _ handed.2.lines v b
            (among_next c.args.g.now.endian c.args.count c.loop-i.i c.args.levels.now.block _ _ (handed.0) c.loop-i-test.true is (handed.1)) ((handed.2.read.rule (step.told told) v holds).answer) h,
      )) (λ h. absurd h) c.loop-i.invariant.consulted c.list_chunk.ensures.consults;
      stays = c.in-All.ensures.stays ∙ c.loop-i.invariant.stays;
    }

pub returns-clause-rule : goal.returns-clause-rule
returns-clause-rule g c =
    let handed = c.loop-i.invariant.handed in
    subst (λ done. AreHanded g.O.Listing.took c.args.out.now c.loop-i.out done
    (λ entries. ReadsAs (g.V.View.stands_for c.args.view.now) (g.V.View.is_gone c.args.view.now) (g.V.View.tells c.loop-i.view) (g.V.View.is_gone c.loop-i.view) (listed_entries c.args.g.now 1 entries)) c.loop-i.given)
    (among_end c.args.g.now.endian c.args.count c.loop-i.i _ _ (handed.0) (omega arith) (handed.1)) (handed.2)

pub returns-in-Unread-clause-consults : goal.returns-in-Unread-clause-consults
returns-in-Unread-clause-consults g c =
    let so_far = c.loop-i.invariant.keeps in
    let step = c.list_chunk.ensures.keeps in
    let handed = c.loop-i.invariant.handed in
    let is : c.chunk_at-chunk.result ≡ take 512 (drop (c.loop-i.i * 512) c.args.levels.now.block) = rw (c.block.ensures, c.loop-i.invariant.block) at c.chunk_at-chunk.ensures in
    consults_both g.V.View g.met.V.View.fetched_both so_far step (λ told v holds. (
      so_far.stands v holds,
      λ b h. lines_needed c.args.g.now 1 (handed.0) (used_entries (entries_in c.args.g.now.endian 0 c.chunk_at-chunk.result)) _ _ handed.2.lines v b
          (among_next c.args.g.now.endian c.args.count c.loop-i.i c.args.levels.now.block _ _ (handed.0) c.loop-i-test.true is (handed.1)) ((handed.2.read.rule (step.told told) v holds).answer) h,
    )) (λ h. h) c.loop-i.invariant.consulted c.in-Unread.ensures.consults

pub returns-in-Failed-clause-consults : goal.returns-in-Failed-clause-consults
returns-in-Failed-clause-consults g c =
    let so_far = c.loop-i.invariant.keeps in
    let step = c.list_chunk.ensures.keeps in
    let handed = c.loop-i.invariant.handed in
    let is : c.chunk_at-chunk.result ≡ take 512 (drop (c.loop-i.i * 512) c.args.levels.now.block) = rw (c.block.ensures, c.loop-i.invariant.block) at c.chunk_at-chunk.ensures in
    consults_both g.V.View g.met.V.View.fetched_both so_far step (λ told v holds. (
      so_far.stands v holds,
      λ b h. lines_needed c.args.g.now 1 (handed.0) (used_entries (entries_in c.args.g.now.endian 0 c.chunk_at-chunk.result)) _ _ handed.2.lines v b
          (among_next c.args.g.now.endian c.args.count c.loop-i.i c.args.levels.now.block _ _ (handed.0) c.loop-i-test.true is (handed.1)) ((handed.2.read.rule (step.told told) v holds).answer) h,
    )) (λ h. absurd h) c.loop-i.invariant.consulted c.list_chunk.ensures.consults

pub returns-clause-consults : goal.returns-clause-consults
returns-clause-consults g c = consults_along g.V.View (λ is v holds. (holds, λ b h. h)) (λ h. absurd h) c.loop-i.invariant.consulted

pub returns-in-Unread-clause-stays : goal.returns-in-Unread-clause-stays
returns-in-Unread-clause-stays g c = c.in-Unread.ensures.stays ∙ c.loop-i.invariant.stays
