use Rattle.std.proofs.Common.{◌<◌, refl, subst, Option}
use Rattle.ufs_model.specs.Claims.{source_fragments}
use Rattle.ufs_model.specs.declared.geometries.Geometry.{Geometry}
use Rattle.ufs_pointer.specs.KindLaws.{loses_along, only_along}
use Rattle.dg_claims.proofs.AnswerLaws.{ok_map}
use Rattle.dg_claims.proofs.ScanLaws.{claimed_of, is_indirect, decided, right_below}
use Rattle.dg_claims.specs.ThereLaws.{there_along}
use Rattle.dg_claims.specs.Kept.{claimed_by, size_in}
use Rattle.dg_claims.proofs.levels.scan_level.Goals as goal

pub scan_fragments-requires-clause-inside : goal.scan_fragments-requires-clause-inside
scan_fragments-requires-clause-inside g c = λ fragment has.
    subst (λ (o : Option Geometry). fragment < size_in o) c.requires.table (c.in_ok-fragments.ensures.inside fragment (rw c.deref.ensures.value at has))

pub returns-clause-right : goal.returns-clause-right
returns-clause-right g c =
    ok_map c.scan_fragments.result _ _ (λ got pointers is_got is v holds right.
    right_below (source_fragments c.args.g.now v) (claimed_by c.args.claims.now.runs) (claimed_by c.scan_fragments.new.claims.runs) c.args.level c.in_ok-fragments.fragments.items c.requires.low c.requires.none
    c.in_ok-fragments.ensures.claimed (rw c.deref.ensures.value at (pointers is_got is v holds)) (rw c.deref.ensures.value at c.scan_fragments.ensures.others)
    (decided c.in_ok-fragments.fragments.items) right) c.scan_fragments.ensures.pointers

pub returns-clause-lost : goal.returns-clause-lost
returns-clause-lost g c =
    ok_map c.scan_fragments.result _ _ (λ got lost missed.
    loses_along refl (λ b h. h) (λ h. h) (λ is v both. (
      both.0,
      λ b has. is_indirect c.args.g.now v (claimed_by c.args.claims.now.runs) c.args.level b c.requires.low (both.1)
          ((c.in_ok-fragments.ensures.claimed b).0 (rw c.deref.ensures.value at has)),
    )) (lost missed)) c.scan_fragments.ensures.lost

pub returns-clause-fetched : goal.returns-clause-fetched
returns-clause-fetched g c =
    only_along (λ is v both. (
      both.0,
      λ b has. is_indirect c.args.g.now v (claimed_by c.args.claims.now.runs) c.args.level b c.requires.low (both.1)
          ((c.in_ok-fragments.ensures.claimed b).0 (rw c.deref.ensures.value at has)),
    )) c.scan_fragments.ensures.fetched

pub returns-clause-there : goal.returns-clause-there
returns-clause-there g c =
    let all = rw c.deref.ensures.value at c.scan_fragments.ensures.there in
    ok_map c.scan_fragments.result _ _ (λ got there is_got.
    there_along (λ b h. h) (λ h. h) (λ is v both. (
      both.0,
      λ b at. (c.in_ok-fragments.ensures.claimed b).1 (claimed_of (source_fragments c.args.g.now v) (claimed_by c.args.claims.now.runs) c.args.level b (at.0) (both.1) c.requires.low (at.2) (at.1)),
    )) (there is_got)) all
