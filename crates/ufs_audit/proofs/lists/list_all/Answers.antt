use Rattle.std.proofs.Common.{◌≡◌, [], ◌∷◌, rules}
use Rattle.ufs_model.specs.declared.malformations.BadKind.TheVariants.{GroupMagic, GroupMap, WrongType, Filesize, Past, Wild, WildIn, Align, AlignIn, Run, Twice}
use Rattle.ufs_model.specs.declared.malformations.BadKind.TheVariants.{PastIn, Free, Unused, Hole, Chunk, Entry, EntryType, Dots, Names, DirTwice, RootNamed}
use Rattle.ufs_check.specs.Verdicts.{found_in}
use Rattle.ufs_audit.specs.Listed.{listed}
use Rattle.ufs_audit.proofs.ListedLaws.{listed_more}
use Rattle.ufs_audit.proofs.lists.list_all.Goals as goal

pub returns : goal.returns
returns c =
    let numbers = found_in c.args.faults.now in
    let none : c.new-bad.result.items ≡ listed numbers [] = search rules in
    let one = listed_more numbers [] (GroupMagic ∷ GroupMap ∷ WrongType ∷ Filesize ∷ Past ∷ Wild ∷ []) _ _ none c.in_ok-add_slots.ensures in
    let two = listed_more numbers (GroupMagic ∷ GroupMap ∷ WrongType ∷ Filesize ∷ Past ∷ Wild ∷ []) (WildIn ∷ Align ∷ AlignIn ∷ Run ∷ []) _ _ one c.in_ok-add_pointers.ensures in
    let three = listed_more numbers (GroupMagic ∷ GroupMap ∷ WrongType ∷ Filesize ∷ Past ∷ Wild ∷ WildIn ∷ Align ∷ AlignIn ∷ Run ∷ []) (Twice ∷ PastIn ∷ Free ∷ Unused ∷ []) _ _ two
    c.in_ok-add_claims.ensures in
    let four = listed_more numbers (GroupMagic ∷ GroupMap ∷ WrongType ∷ Filesize ∷ Past ∷ Wild ∷ WildIn ∷ Align ∷ AlignIn ∷ Run ∷ Twice ∷ PastIn ∷ Free ∷ Unused ∷ []) (Hole ∷ Chunk ∷ Entry ∷ EntryType ∷ []) _ _ three
    c.in_ok-add_directories.ensures in
    listed_more numbers (GroupMagic ∷ GroupMap ∷ WrongType ∷ Filesize ∷ Past ∷ Wild ∷ WildIn ∷ Align ∷ AlignIn ∷ Run ∷ Twice ∷ PastIn ∷ Free ∷ Unused ∷ Hole ∷ Chunk ∷ Entry ∷ EntryType ∷ []) (Dots ∷ Names ∷ DirTwice ∷ RootNamed ∷ []) _ _ four
    c.in_ok-add_links.ensures
