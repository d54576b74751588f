use Rattle.dg_io.specs.ViewLaws.{keeps_both}
use Rattle.ufs_check.proofs.PassLaws.{lost_later, only_both}
use Rattle.ufs_check.proofs.surveys.find_notes.Goals as goal

pub returns-in_default-clause-gone : goal.returns-in_default-clause-gone
returns-in_default-clause-gone g c = let gone = rw c.in_default.is at c.in_ok-unnamed.ensures.gone in gone

pub returns-in_default-2-clause-gone : goal.returns-in_default-2-clause-gone
returns-in_default-2-clause-gone g c =
    let first = c.find_unnamed.ensures.keeps in
    let gone = rw c.in_default-2.is at c.in_ok-unclaimed.ensures.gone in
    lost_later first.blocks first.stands gone

pub returns-clause-found : goal.returns-clause-found
returns-clause-found g c =
    let first = c.find_unnamed.ensures.keeps in
    let second = c.find_unclaimed.ensures.keeps in
    let unnamed = rw c.in-Some.is at c.in_ok-unnamed.ensures.found in
    let unclaimed = rw c.in-Some-2.is at c.in_ok-unclaimed.ensures.found in
    λ told v claimed links. record {
      unnamed = unnamed (second.told told) v (claimed.0) links;
      unclaimed = unclaimed told v (first.stands v (claimed.0), claimed.1);
    }

pub returns-in_err-unclaimed-clause-fetched : goal.returns-in_err-unclaimed-clause-fetched
returns-in_err-unclaimed-clause-fetched g c =
    only_both g.met.V.View.fetched_both c.find_unnamed.ensures.keeps.stands c.find_unclaimed.ensures.keeps.told c.find_unnamed.ensures.fetched c.find_unclaimed.ensures.fetched

pub returns-in_default-2-clause-fetched : goal.returns-in_default-2-clause-fetched
returns-in_default-2-clause-fetched g c =
    only_both g.met.V.View.fetched_both c.find_unnamed.ensures.keeps.stands c.find_unclaimed.ensures.keeps.told c.find_unnamed.ensures.fetched c.find_unclaimed.ensures.fetched

pub returns-clause-fetched : goal.returns-clause-fetched
returns-clause-fetched g c =
    only_both g.met.V.View.fetched_both c.find_unnamed.ensures.keeps.stands c.find_unclaimed.ensures.keeps.told c.find_unnamed.ensures.fetched c.find_unclaimed.ensures.fetched

pub returns-in_err-unclaimed-clause-keeps : goal.returns-in_err-unclaimed-clause-keeps
returns-in_err-unclaimed-clause-keeps g c =
    keeps_both g.met.V.View.further c.args.view.now c.find_unnamed.new.view c.find_unclaimed.new.view c.find_unnamed.ensures.keeps c.find_unclaimed.ensures.keeps

pub returns-in_default-2-clause-keeps : goal.returns-in_default-2-clause-keeps
returns-in_default-2-clause-keeps g c =
    keeps_both g.met.V.View.further c.args.view.now c.find_unnamed.new.view c.find_unclaimed.new.view c.find_unnamed.ensures.keeps c.find_unclaimed.ensures.keeps

pub returns-clause-keeps : goal.returns-clause-keeps
returns-clause-keeps g c =
    keeps_both g.met.V.View.further c.args.view.now c.find_unnamed.new.view c.find_unclaimed.new.view c.find_unnamed.ensures.keeps c.find_unclaimed.ensures.keeps
