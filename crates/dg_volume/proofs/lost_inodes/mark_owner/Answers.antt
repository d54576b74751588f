use Rattle.std.proofs.Common.{◌≡◌, ℕ, subst, sym}
use Rattle.std.proofs.lemmas.Result.{on_ok_weaker}
use Rattle.dg_claims.specs.Kept.{KeptClaims, table_of}
use Rattle.dg_claims.specs.Tables.{TableClaims}
use Rattle.dg_infer.specs.Wants.{IsOfBy}
use Rattle.dg_volume.proofs.LostLaws.{gains_none, gains_same}
use Rattle.dg_volume.proofs.WantedLaws.{one_owner}
use Rattle.ufs_model.specs.Owners.{IsOwner}
use Rattle.dg_volume.proofs.lost_inodes.mark_owner.Goals as goal

pub returns-in_default : goal.returns-in_default
returns-in_default c =
    gains_none c.args.marks.now.items (IsOfBy c.args.inference.now c.args.block) (λ i own. c.in_default.ensures.none i (own.0)
    (subst (λ (k : KeptClaims). IsOwner (TableClaims (table_of k)) c.args.block i (own.0)) (sym c.claims.ensures) (own.1)))

pub returns : goal.returns
returns c =
    let kept = c.args.inference.now in
    let inode = c.in-Some.inode in
    let level = c.in-Some.field-0-1 in
    let owner : IsOwner (TableClaims (table_of kept.claims)) c.args.block inode level =
    subst (λ (k : KeptClaims). IsOwner (TableClaims (table_of k)) c.args.block inode level) c.claims.ensures c.in-Some.ensures.owner in
    on_ok_weaker c.mark_inode.result (λ gains. gains_same c.args.marks.now.items c.mark_inode.new.marks.items (λ i. i ≡ inode) (IsOfBy kept c.args.block)
    (λ i e. subst (λ (x : ℕ). IsOfBy kept c.args.block x) (sym e) (level, owner))
    (λ i of. one_owner (TableClaims (table_of kept.claims)) c.args.block i (of.0) inode level of.1 owner) gains) c.mark_inode.ensures
