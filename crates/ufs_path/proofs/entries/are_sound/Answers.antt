use Rattle.std.proofs.Common.{◌≡◌, true, false, rules}
use Rattle.std.specs.Option.{is_some}
use Rattle.ufs_path.proofs.ChunkLaws.{chunk_bytes, sound_past, unsound_at}
use Rattle.ufs_path.proofs.entries.are_sound.Goals as goal

pub returns-then-is_some : goal.returns-then-is_some
returns-then-is_some c =
    let some : is_some c.check.result ≡ true = search rules in
    unsound_at c.args.endian c.args.count c.loop-i.i c.args.bytes.now _ c.check.result _ c.loop-i-test.true (chunk_bytes c.loop-i.i c.args.bytes.now) c.check.ensures some c.loop-i.invariant

pub loop-i-preserved : goal.loop-i-preserved
loop-i-preserved c =
    let none : is_some c.check.result ≡ false = search rules in
    sound_past c.args.endian c.args.count c.loop-i.i c.args.bytes.now _ c.check.result _ c.loop-i-test.true (chunk_bytes c.loop-i.i c.args.bytes.now) c.check.ensures none c.loop-i.invariant
