use Rattle.ufs_model.specs.Malformations.{IsBad}
use Rattle.ufs_model.specs.declared.malformations.BadKind.TheVariants.{WildIn, AlignIn, PastIn}
use Rattle.dg_claims.specs.Kept.{table_of}
use Rattle.ufs_check.proofs.NoteLaws.{all_noted}
use Rattle.ufs_check.proofs.PointerLaws.{misaligned_decides, past_decides, wild_decides}
use Rattle.ufs_check.proofs.fragments.note_pointers.Goals as goal

pub returns-clause-pointers : goal.returns-clause-pointers
returns-clause-pointers c = λ v has is limits so_far.
    let g = c.args.g.now in
    let f = c.args.f in
    let table = table_of c.args.claims.now in record {
      wild_in = all_noted (IsBad g v WildIn) f _ _ _ c.in_ok-note.ensures (wild_decides g table v f _ _ has c.requires.upper is c.has_wild_pointer.ensures) so_far.wild_in;
      align_in = all_noted (IsBad g v AlignIn) f _ _ _ c.in_ok-note-2.ensures (misaligned_decides g table v f _ _ has c.requires.upper is c.has_misaligned_pointer.ensures) so_far.align_in;
      past_in = all_noted (IsBad g v PastIn) f _ _ _ c.in_ok-note-3.ensures (past_decides g v f _ c.args.limit _ is limits c.has_past_pointer.ensures) so_far.past_in;
    }
