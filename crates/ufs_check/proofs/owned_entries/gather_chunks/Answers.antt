use Rattle.std.proofs.Common.{◌≡◌, ◌∙◌, ◌++◌, ◌+◌, ◌-◌, ◌*◌, take, drop, sym, ap, arith}
use Rattle.dg_io.specs.ViewLaws.{keeps_both}
use Rattle.ufs_model.specs.Chunks.{entries_in, used_entries}
use Rattle.ufs_model.specs.Paths.{chunks_in}
use Rattle.ufs_check.specs.Entries.{entries_all}
use Rattle.ufs_check.proofs.ChunkLaws.{chunk_bytes, next_chunks, whole_here}
use Rattle.ufs_check.proofs.EntryLaws.{completes_end, completes_next}
use Rattle.ufs_check.proofs.PassLaws.{lost_later, only_both}
use Rattle.ufs_check.proofs.owned_entries.gather_chunks.Goals as goal

pub gather_chunk-requires-clause-whole : goal.gather_chunk-requires-clause-whole
gather_chunk-requires-clause-whole g c =
    let invariant = c.loop-i.invariant in
    let here : c.copy_from_slice.new.self ≡ take 512 (drop (c.loop-i.i * 512) c.args.levels.now.block) =
    c.copy_from_slice.ensures.after ∙ rw (c.block.ensures, invariant.block) (chunk_bytes c.loop-i.i c.args.levels.now.block) in
    rw here ((whole_here c.args.g.now.endian c.args.count c.loop-i.i c.args.levels.now.block c.loop-i-test.true invariant.whole).0)

pub returns-in_err-gather_chunk-clause-fetched : goal.returns-in_err-gather_chunk-clause-fetched
returns-in_err-gather_chunk-clause-fetched g c =
    let so_far = c.loop-i.invariant.keeps in
    only_both g.met.V.View.fetched_both so_far.stands c.gather_chunk.ensures.keeps.told c.loop-i.invariant.fetched c.gather_chunk.ensures.fetched

pub returns-then-not-branch-clause-fetched : goal.returns-then-not-branch-clause-fetched
returns-then-not-branch-clause-fetched g c =
    let so_far = c.loop-i.invariant.keeps in
    only_both g.met.V.View.fetched_both so_far.stands c.gather_chunk.ensures.keeps.told c.loop-i.invariant.fetched c.gather_chunk.ensures.fetched

pub loop-i-preserved : goal.loop-i-preserved
loop-i-preserved g c =
    let invariant = c.loop-i.invariant in
    let so_far = invariant.keeps in
    let bytes = c.args.levels.now.block in
    let here : c.copy_from_slice.new.self ≡ take 512 (drop (c.loop-i.i * 512) c.args.levels.now.block) =
    c.copy_from_slice.ensures.after ∙ rw (c.block.ensures, invariant.block) (chunk_bytes c.loop-i.i c.args.levels.now.block) in
    record {
      keeps = keeps_both g.met.V.View.further c.args.view.now c.loop-i.view c.gather_chunk.new.view so_far c.gather_chunk.ensures.keeps;
      levels = c.gather_chunk.ensures.levels ∙ invariant.levels;
      block = c.gather_chunk.ensures.block ∙ invariant.block;
      whole = (whole_here c.args.g.now.endian c.args.count c.loop-i.i c.args.levels.now.block c.loop-i-test.true invariant.whole).1;
      found = λ told v stands.
          completes_next c.args.g.now v (entries_all c.args.g.now.endian (chunks_in c.args.count bytes)) (entries_all c.args.g.now.endian (chunks_in (c.args.count - c.loop-i.i) (drop (c.loop-i.i * 512) bytes)))
          (used_entries (entries_in c.args.g.now.endian 0 c.copy_from_slice.new.self)) (entries_all c.args.g.now.endian (chunks_in (c.args.count - (c.loop-i.i + 1)) (drop ((c.loop-i.i + 1) * 512) bytes)))
          c.args.entries.now.items c.loop-i.entries.items c.gather_chunk.new.entries.items
          (ap (entries_all c.args.g.now.endian) (next_chunks c.args.count c.loop-i.i bytes c.loop-i-test.true)
          ∙ ap (λ chunk. used_entries (entries_in c.args.g.now.endian 0 chunk) ++ entries_all c.args.g.now.endian (chunks_in (c.args.count - (c.loop-i.i + 1)) (drop ((c.loop-i.i + 1) * 512) c.args.levels.now.block))) (sym here))
          (invariant.found (c.gather_chunk.ensures.keeps.told told) v stands)
          (c.in_ok-gather_chunk.ensures.found c.if-not-branch.false told v (so_far.stands v stands));
      fetched = only_both g.met.V.View.fetched_both so_far.stands c.gather_chunk.ensures.keeps.told invariant.fetched c.gather_chunk.ensures.fetched;
    }

pub returns-then-not-branch-clause-gone : goal.returns-then-not-branch-clause-gone
returns-then-not-branch-clause-gone g c = λ missed.
    let so_far = c.loop-i.invariant.keeps in
    lost_later so_far.blocks so_far.stands (c.in_ok-gather_chunk.ensures.gone c.if-not-branch.true)

pub returns-clause-found : goal.returns-clause-found
returns-clause-found g c = λ could told v stands.
    let endian = c.args.g.now.endian in
    let bytes = c.args.levels.now.block in
    let last = c.loop-i-test.false in
    let zero : c.args.count - c.loop-i.i ≡ 0 = omega arith in
    completes_end c.args.g.now v (entries_all endian (chunks_in c.args.count bytes)) (entries_all endian (chunks_in (c.args.count - c.loop-i.i) (drop (c.loop-i.i * 512) bytes)))
    c.args.entries.now.items c.loop-i.entries.items (ap (λ k. entries_all c.args.g.now.endian (chunks_in k (drop (c.loop-i.i * 512) c.args.levels.now.block))) zero)
    (c.loop-i.invariant.found told v stands)
