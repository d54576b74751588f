use Rattle.std.proofs.Common.{◌∙◌, sym, ap}
use Rattle.ufs_check.specs.Entries.{is_refused}
use Rattle.ufs_check.proofs.ChunkLaws.{chunk_bytes, refused_further, refused_here}
use Rattle.ufs_check.proofs.entries.has_refused.Goals as goal

pub returns-then-is_refused : goal.returns-then-is_refused
returns-then-is_refused c =
    refused_here c.args.endian c.args.count c.loop-i.i c.args.bytes.now _ c.loop-i-test.true
    (ap (is_refused c.args.endian) (sym (chunk_bytes c.loop-i.i c.args.bytes.now)) ∙ sym c.is_refused.ensures ∙ c.if-is_refused.true) c.loop-i.invariant

pub loop-i-preserved : goal.loop-i-preserved
loop-i-preserved c =
    refused_further c.args.endian c.args.count c.loop-i.i c.args.bytes.now _ c.loop-i-test.true
    (ap (is_refused c.args.endian) (sym (chunk_bytes c.loop-i.i c.args.bytes.now)) ∙ sym c.is_refused.ensures ∙ c.if-is_refused.false) c.loop-i.invariant
