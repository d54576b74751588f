use Rattle.std.proofs.Common.{◌∙◌, sym}
use Rattle.ufs_check.proofs.FaultLaws.{entries_passed, scanned_owned, scanned_unread}
use Rattle.ufs_check.proofs.ParentLaws.{table_passed}
use Rattle.ufs_check.proofs.directories.note_directory.Goals as goal

pub returns-then-not-has_entries : goal.returns-then-not-has_entries
returns-then-not-has_entries c = λ g v is kind whole so_far.
    let i = c.args.i in
    let blocks = c.note_blocks.ensures in
    let unread = scanned_unread g v i c.args.inode.now c.args.scan.now is kind c.requires (sym c.has_entries.ensures ∙ c.if-not-has_entries.true) whole in
    let before = so_far.noted.entries in
    record {
      kept = table_passed g v i c.args.table.now unread so_far.kept;
      noted = record {
        blocks = c.in_ok-note_blocks.ensures.blocks g v is kind whole so_far.noted.blocks;
        entries = entries_passed g v i c.note_blocks.new.faults unread (record {
          entry = rw blocks.entry before.entry;
          entry_type = rw blocks.entry_type before.entry_type;
          names = rw blocks.names before.names;
          root_named = rw blocks.root_named before.root_named;
        });
      };
    }

pub returns : goal.returns
returns c = λ g v is kind whole so_far.
    let i = c.args.i in
    let blocks = c.note_blocks.ensures in
    let entries = c.note_entries.ensures in
    let read = scanned_owned g v i c.args.inode.now c.args.scan.now is kind c.requires (sym c.has_entries.ensures ∙ c.if-not-has_entries.false) whole in
    let noted = c.in_ok-note_blocks.ensures.blocks g v is kind whole so_far.noted.blocks in
    let before = so_far.noted.entries in
    record {
      kept = c.in_ok-add_directory.ensures g v (rw c.as_slice-2.ensures.value read) so_far.kept;
      noted = record {
        blocks = record { hole = rw entries.hole noted.hole; chunk = rw entries.chunk noted.chunk };
        entries = c.in_ok-note_entries.ensures.entries g v (rw c.as_slice.ensures.value read) (record {
          entry = rw blocks.entry before.entry;
          entry_type = rw blocks.entry_type before.entry_type;
          names = rw blocks.names before.names;
          root_named = rw blocks.root_named before.root_named;
        });
      };
    }
