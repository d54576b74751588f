use Rattle.std.proofs.Common.{sym, subst}
use Rattle.std.specs.Bool.{Decides}
use Rattle.ufs_model.specs.Malformations.{IsBad}
use Rattle.ufs_model.specs.declared.malformations.BadKind.TheVariants.{Entry, EntryType, Names, RootNamed}
use Rattle.ufs_check.proofs.FaultLaws.{bad_entry_decides, bad_type_decides}
use Rattle.ufs_check.proofs.NameLaws.{names_decides, root_named_decides}
use Rattle.ufs_check.proofs.NoteLaws.{all_noted}
use Rattle.ufs_check.proofs.directories.note_entries.Goals as goal

pub returns-clause-entries : goal.returns-clause-entries
returns-clause-entries c = λ g v all so_far.
    let i = c.args.i in
    let entries = c.args.entries.now in record {
      entry = all_noted (IsBad g v Entry) i _ _ _ c.in_ok-note.ensures
          (subst (λ b. Decides b (IsBad g v Entry i)) (sym c.names_none.ensures) (bad_entry_decides g v i entries all)) so_far.entry;
      entry_type = all_noted (IsBad g v EntryType) i _ _ _ c.in_ok-note-2.ensures
          (subst (λ b. Decides b (IsBad g v EntryType i)) (sym c.has_mistyped.ensures) (bad_type_decides g v i entries all)) so_far.entry_type;
      names = all_noted (IsBad g v Names) i _ _ c.in_ok-same.same c.in_ok-note-3.ensures (names_decides g v i entries c.in_ok-same.same all c.in_ok-same.ensures) so_far.names;
      root_named = all_noted (IsBad g v RootNamed) i _ _ _ c.in_ok-note-4.ensures
          (subst (λ b. Decides b (IsBad g v RootNamed i)) (sym c.names_root.ensures) (root_named_decides g v i entries all)) so_far.root_named;
    }
