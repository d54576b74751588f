use Rattle.std.proofs.Common.{◌∙◌, refl}
use Rattle.dg_io.specs.ViewLaws.{keeps_both}
use Rattle.dg_claims.specs.Kept.{table_of}
use Rattle.dg_claims.specs.Scans.{HasInode, IsIndirect}
use Rattle.dg_claims.specs.ThereLaws.{there_along}
use Rattle.ufs_check.proofs.NeedLaws.{metadata_there}
use Rattle.ufs_check.specs.Needs.{IsGroupBlock}
use Rattle.ufs_check.proofs.ClaimLaws.{fetches_fewer, loses_fewer}
use Rattle.ufs_check.proofs.PassLaws.{lost_later, only_both}
use Rattle.ufs_check.proofs.checks.check_metadata.Goals as goal

pub returns-in_default-clause-gone : goal.returns-in_default-clause-gone
returns-in_default-clause-gone g c =
    let gone = rw c.in_default.is at c.in_ok-groups.ensures.gone in
    loses_fewer c.args.g.now (table_of c.args.claims.now) refl (λ v stands. stands) gone

pub returns-in_default-2-clause-gone : goal.returns-in_default-2-clause-gone
returns-in_default-2-clause-gone g c =
    let first = c.check_groups.ensures.keeps in
    let gone = rw c.in_default-2.is at c.in_ok-inodes.ensures.gone in
    loses_fewer c.args.g.now (table_of c.args.claims.now) first.blocks first.stands gone

pub returns-in_default-3-clause-gone : goal.returns-in_default-3-clause-gone
returns-in_default-3-clause-gone g c =
    let first = c.check_groups.ensures.keeps in
    let second = c.check_inodes.ensures.keeps in
    let gone = rw c.in_default-3.is at c.in_ok-fragments.ensures.gone in
    lost_later (second.blocks ∙ first.blocks) (λ v claimed. (second.stands v (first.stands v (claimed.0)), claimed.1)) gone

pub returns-in_err-inodes-clause-fetched : goal.returns-in_err-inodes-clause-fetched
returns-in_err-inodes-clause-fetched g c =
    only_both g.met.V.View.fetched_both (λ v claimed. c.check_groups.ensures.keeps.stands v (claimed.0)) c.check_inodes.ensures.keeps.told
    (fetches_fewer c.args.g.now (table_of c.args.claims.now) c.check_groups.ensures.fetched) c.check_inodes.ensures.fetched

pub returns-in_default-2-clause-fetched : goal.returns-in_default-2-clause-fetched
returns-in_default-2-clause-fetched g c =
    only_both g.met.V.View.fetched_both (λ v claimed. c.check_groups.ensures.keeps.stands v (claimed.0)) c.check_inodes.ensures.keeps.told
    (fetches_fewer c.args.g.now (table_of c.args.claims.now) c.check_groups.ensures.fetched) c.check_inodes.ensures.fetched

pub returns-in_err-fragments-clause-fetched : goal.returns-in_err-fragments-clause-fetched
returns-in_err-fragments-clause-fetched g c =
    only_both g.met.V.View.fetched_both (λ v claimed. (c.check_inodes.ensures.keeps.stands v (c.check_groups.ensures.keeps.stands v (claimed.0)), claimed.1)) c.check_fragments.ensures.keeps.told
    (only_both g.met.V.View.fetched_both (λ v claimed. c.check_groups.ensures.keeps.stands v (claimed.0)) c.check_inodes.ensures.keeps.told
    (fetches_fewer c.args.g.now (table_of c.args.claims.now) c.check_groups.ensures.fetched) c.check_inodes.ensures.fetched) c.check_fragments.ensures.fetched

pub returns-in_default-3-clause-fetched : goal.returns-in_default-3-clause-fetched
returns-in_default-3-clause-fetched g c =
    only_both g.met.V.View.fetched_both (λ v claimed. (c.check_inodes.ensures.keeps.stands v (c.check_groups.ensures.keeps.stands v (claimed.0)), claimed.1)) c.check_fragments.ensures.keeps.told
    (only_both g.met.V.View.fetched_both (λ v claimed. c.check_groups.ensures.keeps.stands v (claimed.0)) c.check_inodes.ensures.keeps.told
    (fetches_fewer c.args.g.now (table_of c.args.claims.now) c.check_groups.ensures.fetched) c.check_inodes.ensures.fetched) c.check_fragments.ensures.fetched

pub returns-clause-fetched : goal.returns-clause-fetched
returns-clause-fetched g c =
    only_both g.met.V.View.fetched_both (λ v claimed. (c.check_inodes.ensures.keeps.stands v (c.check_groups.ensures.keeps.stands v (claimed.0)), claimed.1)) c.check_fragments.ensures.keeps.told
    (only_both g.met.V.View.fetched_both (λ v claimed. c.check_groups.ensures.keeps.stands v (claimed.0)) c.check_inodes.ensures.keeps.told
    (fetches_fewer c.args.g.now (table_of c.args.claims.now) c.check_groups.ensures.fetched) c.check_inodes.ensures.fetched) c.check_fragments.ensures.fetched

pub returns-clause-keeps : goal.returns-clause-keeps
returns-clause-keeps g c =
    keeps_both g.met.V.View.further c.args.view.now c.check_inodes.new.view c.check_fragments.new.view
    (keeps_both g.met.V.View.further c.args.view.now c.check_groups.new.view c.check_inodes.new.view c.check_groups.ensures.keeps c.check_inodes.ensures.keeps) c.check_fragments.ensures.keeps

pub returns-clause-found : goal.returns-clause-found
returns-clause-found g c =
    let first = c.check_groups.ensures.keeps in
    let second = c.check_inodes.ensures.keeps in
    let third = c.check_fragments.ensures.keeps in
    let groups = rw c.in-Some.is at c.in_ok-groups.ensures.found in
    let inodes = rw c.in-Some-2.is at c.in_ok-inodes.ensures.found in
    let fragments = rw c.in-Some-3.is at c.in_ok-fragments.ensures.found in
    let whole = rw c.in-Some-3.is at c.in_ok-fragments.ensures.whole in
    λ told v claimed. record {
      groups = groups (second.told (third.told told)) v (claimed.0);
      inodes = inodes (third.told told) v (first.stands v (claimed.0));
      fragments = fragments told v (second.stands v (first.stands v (claimed.0)), claimed.1);
      whole = whole told v (second.stands v (first.stands v (claimed.0)), claimed.1);
    }

pub returns-clause-there : goal.returns-clause-there
returns-clause-there g c =
    let gg = c.args.g.now in
    let first = c.check_groups.ensures.keeps in
    let second = c.check_inodes.ensures.keeps in
    let third = c.check_fragments.ensures.keeps in
    let groups = rw c.in-Some.is at c.in_ok-groups.ensures.there in
    let inodes = rw c.in-Some-2.is at c.in_ok-inodes.ensures.there in
    let fragments = rw c.in-Some-3.is at c.in_ok-fragments.ensures.there in
    metadata_there gg
    (there_along {other = IsGroupBlock gg gg.ncg} (λ b h. h) (λ told. second.told (third.told told)) (λ told v claimed. (claimed.0, λ b h. h)) groups)
    (there_along {other = HasInode gg} first.stays third.told (λ told v claimed. (first.stands v (claimed.0), λ b h. h)) inodes)
    (there_along {other = IsIndirect gg} (λ b h. second.stays b (first.stays b h)) (λ h. h)
    (λ told v claimed. ((second.stands v (first.stands v (claimed.0)), claimed.1), λ b h. h)) fragments)
