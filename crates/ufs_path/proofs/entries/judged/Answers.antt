use Rattle.std.proofs.Common.{◌≡◌, Some, true, false, ap, sym, rules}
use Rattle.ufs_model.specs.Paths.{chunks_in}
use Rattle.ufs_path.specs.Walks.{are_sound}
use Rattle.ufs_path.proofs.ChunkLaws.{sound_entries, unsound_entries}
use Rattle.ufs_path.proofs.entries.judged.Goals as goal

pub returns-then-not-are_sound-clause-rule : goal.returns-then-not-are_sound-clause-rule
returns-then-not-are_sound-clause-rule c =
    let refused : are_sound c.args.endian (chunks_in c.args.count c.args.block.now) ≡ false = search rules in
    ap Some (sym (unsound_entries c.args.endian _ refused))

pub returns-clause-rule : goal.returns-clause-rule
returns-clause-rule c =
    let sound : are_sound c.args.endian (chunks_in c.args.count c.args.block.now) ≡ true = search rules in
    ap Some (sym (sound_entries c.args.endian _ sound))
