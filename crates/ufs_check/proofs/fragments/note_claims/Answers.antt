use Rattle.std.proofs.Common.{◌∙◌, sym}
use Rattle.std.specs.Bool.{Decides}
use Rattle.ufs_model.specs.Malformations.{IsBad, IsFree}
use Rattle.ufs_model.specs.declared.malformations.BadKind.TheVariants.{Twice, Free}
use Rattle.dg_claims.specs.Kept.{table_of}
use Rattle.ufs_check.proofs.ClaimLaws.{free_claimed, free_there, free_unclaimed, twice_decides}
use Rattle.ufs_check.proofs.NoteLaws.{all_noted}
use Rattle.ufs_check.proofs.fragments.note_claims.Goals.{then-number-ge1, else-number-ge1}
use Rattle.ufs_check.proofs.fragments.note_claims.Goals as goal

pub returns-clause-claimed : goal.returns-clause-claimed
returns-clause-claimed c = λ v has is so_far.
    let g = c.args.g.now in
    let f = c.args.f in
    let table = table_of c.args.claims.now in
    let number = c.claims_on-number.result in
    let free : Decides c.if-number-ge1.note (IsFree g v f) = elim c.if-number-ge1.branch [
      | then-number-ge1 w ↦ rw w.note-is (free_claimed g table v f number _ has c.claims_on-number.ensures w.if-number-ge1.true (free_there g v f _ is ∙ sym w.is_marked_free.ensures))
      | else-number-ge1 w ↦ rw w.note-is (free_unclaimed g table v f number has c.claims_on-number.ensures w.if-number-ge1.false)
    ] in record {
      twice = all_noted (IsBad g v Twice) f _ _ _ c.in_ok-note.ensures (twice_decides g table v f number has c.claims_on-number.ensures) so_far.twice;
      free = all_noted (IsBad g v Free) f _ _ _ c.in_ok-note-2.ensures free so_far.free;
    }
