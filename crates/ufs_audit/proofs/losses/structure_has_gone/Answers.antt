use Rattle.std.proofs.Common.{◌<◌, refl, sym, subst, arith}
use Rattle.dg_io.specs.ViewLaws.{keeps_both, keeps_same}
use Rattle.ufs_audit.proofs.AuditLaws.{structure_then, super_structure}
use Rattle.ufs_audit.proofs.LossLaws.{behind_then, has_part, ok_along, refused_super, super_there, there_behind, was_behind}
use Rattle.ufs_audit.specs.Losses.{IsBetween}
use Rattle.ufs_model.specs.Metadata.{IsStructure}
use Rattle.ufs_pointer.specs.KindLaws.{loses_along, only_both, only_none, only_of}
use Rattle.ufs_audit.proofs.losses.structure_has_gone.Goals as goal

pub returns-then-not-range_has_gone-clause-keeps : goal.returns-then-not-range_has_gone-clause-keeps
returns-then-not-range_has_gone-clause-keeps g c =
    keeps_same c.args.view.now c.requires.sound (g.met.V.View.unchanged c.args.view.now)

pub returns-then-not-range_has_gone-clause-there : goal.returns-then-not-range_has_gone-clause-there
returns-then-not-range_has_gone-clause-there g c =
    λ is told v stands b low of.
    let none = has_part g.V.View c.args.view.now (IsBetween 0 c.shape-count.result.1) c.range_has_gone.result c.range_has_gone.ensures c.if-not-range_has_gone.true in
    none b low (record { low = omega arith; high = omega (arith, low, c.shape-count.ensures.count) })

pub returns-then-not-range_has_gone-clause-fetched : goal.returns-then-not-range_has_gone-clause-fetched
returns-then-not-range_has_gone-clause-fetched g c =
    let l = g.V.View.size c.args.view.now in
    let n = g.V.View.count c.args.view.now in
    only_none (IsStructure l n) c.args.view.now (g.met.V.View.fetched_none c.args.view.now)

pub returns-in-None-clause-gone : goal.returns-in-None-clause-gone
returns-in-None-clause-gone g c =
    let l = g.V.View.size c.args.view.now in
    let n = g.V.View.count c.args.view.now in
    λ is. loses_along {kind = IsStructure l n} refl (λ b h. h) (λ told. told) (λ told v stands. (stands, λ block needs. super_structure l n v block needs)) c.in-None.ensures.lost

pub returns-in-None-clause-fetched : goal.returns-in-None-clause-fetched
returns-in-None-clause-fetched g c =
    let l = g.V.View.size c.args.view.now in
    let n = g.V.View.count c.args.view.now in
    only_of (IsStructure l n) (λ v stands block needs. super_structure l n v block needs) c.read_geometry.ensures.fetched

pub returns-in-Some-Err-clause-fetched : goal.returns-in-Some-Err-clause-fetched
returns-in-Some-Err-clause-fetched g c =
    let l = g.V.View.size c.args.view.now in
    let n = g.V.View.count c.args.view.now in
    only_of (IsStructure l n) (λ v stands block needs. super_structure l n v block needs) c.read_geometry.ensures.fetched

pub returns-in-Some-Err-clause-there : goal.returns-in-Some-Err-clause-there
returns-in-Some-Err-clause-there g c =
    let l = g.V.View.size c.args.view.now in
    let n = g.V.View.count c.args.view.now in
    let reads = rw c.in-Some-Err.field-0-is at c.in-Some-Err.ensures.rule in
    λ same told v stands b low of.
    let refused = sym ((reads.rule told v stands).answer) in
    there_behind (g.V.View.is_gone c.args.view.now b)
    (super_there l n _ reads told v stands b (refused_super l n v _ b refused of))

pub returns-clause-gone : goal.returns-clause-gone
returns-clause-gone g c =
    let l = g.V.View.size c.args.view.now in
    let n = g.V.View.count c.args.view.now in
    let first = c.read_geometry.ensures.keeps in
    let second = c.volume_has_gone.ensures.keeps in
    let reads = rw c.in-Some-Ok.field-0-is at c.in-Some-Ok.ensures.rule in
    ok_along c.volume_has_gone.result _ _ (λ gone one is.
    loses_along {kind = IsStructure l n} first.blocks (λ b h. h) (λ told. told)
    (λ told v stands. ((first.stands v stands, rw (first.bytes, first.blocks) (sym ((reads.rule (second.told told) v stands).answer))), λ block of. structure_then l n v block first.bytes first.blocks of)) (one is))
    c.volume_has_gone.ensures.gone

pub returns-clause-there : goal.returns-clause-there
returns-clause-there g c =
    let l = g.V.View.size c.args.view.now in
    let n = g.V.View.count c.args.view.now in
    let first = c.read_geometry.ensures.keeps in
    let second = c.volume_has_gone.ensures.keeps in
    let reads = rw c.in-Some-Ok.field-0-is at c.in-Some-Ok.ensures.rule in
    ok_along c.volume_has_gone.result _ _ (λ gone one is told v stands b low of.
    let before = second.told told in
    let answer = sym ((reads.rule before v stands).answer) in
    was_behind l n v b (g.V.View.is_gone c.args.view.now b) (g.V.View.is_gone c.read_geometry.new.view b) (λ lost. first.stays b lost) of
    (λ needs lost. super_there l n _ reads before v stands b needs lost)
    (λ behind. one is told v (first.stands v stands, rw (first.bytes, first.blocks) answer) b (subst (λ k. b < k) (sym first.blocks) low) (behind_then l n v b first.bytes first.blocks behind)))
    c.volume_has_gone.ensures.there

pub returns-clause-fetched : goal.returns-clause-fetched
returns-clause-fetched g c =
    let l = g.V.View.size c.args.view.now in
    let n = g.V.View.count c.args.view.now in
    let first = c.read_geometry.ensures.keeps in
    let second = c.volume_has_gone.ensures.keeps in
    let reads = rw c.in-Some-Ok.field-0-is at c.in-Some-Ok.ensures.rule in
    only_both {kind = IsStructure l n} g.met.V.View.fetched_both second.told
    (λ told v stands. ((first.stands v stands, rw (first.bytes, first.blocks) (sym ((reads.rule (second.told told) v stands).answer))), λ block of. structure_then l n v block first.bytes first.blocks of))
    (only_of (IsStructure l n) (λ v stands block needs. super_structure l n v block needs) c.read_geometry.ensures.fetched)
    c.volume_has_gone.ensures.fetched

pub returns-clause-keeps : goal.returns-clause-keeps
returns-clause-keeps g c =
    keeps_both g.met.V.View.further c.args.view.now c.read_geometry.new.view c.volume_has_gone.new.view c.read_geometry.ensures.keeps c.volume_has_gone.ensures.keeps
