use Rattle.std.proofs.Common.{◌++◌, ◌∙◌, sym}
use Rattle.std.proofs.lemmas.List.{append_assoc}
use Rattle.ufs_model.specs.Chunks.{entries_in, used_entries}
use Rattle.ufs_path.proofs.BranchLaws.{adds_both}
use Rattle.ufs_path.proofs.WalkLaws.{among_next}
use Rattle.ufs_path.proofs.branches.push_chunks.Goals as goal

pub loop-k-preserved : goal.loop-k-preserved
loop-k-preserved c =
    let inv = c.loop-k.invariant in
    let some = used_entries (entries_in c.args.endian 0 c.chunk_at.result) in (
      inv.0 ++ some,
      among_next c.args.endian c.args.count c.loop-k.k c.args.block.now c.chunk_at.result _ (inv.0) c.loop-k-test.true c.chunk_at.ensures (inv.1) ∙ sym (append_assoc (inv.0) some _),
      adds_both c.args.depth (inv.0) some c.args.kept.now.items c.loop-k.kept.items c.push_chunk.new.kept.items (inv.2) c.in_ok-push_chunk.ensures,
    )
