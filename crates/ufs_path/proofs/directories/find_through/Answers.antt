use Rattle.std.proofs.Common.{◌∙◌, sym}
use Rattle.ufs_path.proofs.ChunkLaws.{chunk_bytes, ends_at, goes_past}
use Rattle.ufs_path.proofs.directories.find_through.Goals as goal

pub returns-in-At : goal.returns-in-At
returns-in-At c =
    ends_at c.args.endian c.args.name.now c.args.count c.loop-i.i c.args.bytes.now _ _ _ c.loop-i-test.true (chunk_bytes c.loop-i.i c.args.bytes.now)
    (sym c.find.ensures ∙ c.in-At.is) (λ e. cc) c.loop-i.invariant

pub returns-in-Bad : goal.returns-in-Bad
returns-in-Bad c =
    ends_at c.args.endian c.args.name.now c.args.count c.loop-i.i c.args.bytes.now _ _ _ c.loop-i-test.true (chunk_bytes c.loop-i.i c.args.bytes.now)
    (sym c.find.ensures ∙ c.in-Bad.is) (λ e. cc) c.loop-i.invariant

pub loop-i-preserved : goal.loop-i-preserved
loop-i-preserved c =
    goes_past c.args.endian c.args.name.now c.args.count c.loop-i.i c.args.bytes.now _ _ c.loop-i-test.true (chunk_bytes c.loop-i.i c.args.bytes.now)
    (sym c.find.ensures ∙ c.in-Absent.is) c.loop-i.invariant
