use Rattle.std.proofs.Common.{◌≡◌, ◌∙◌, ◌<◌, [], rules, arith}
use Rattle.dg_io.specs.ViewLaws.{keeps_both, keeps_same}
use Rattle.ufs_model.specs.Audits.{IsUnnamed}
use Rattle.ufs_model.specs.Metadata.{IsMetadataBy}
use Rattle.ufs_check.proofs.NoteLaws.{all_noted}
use Rattle.ufs_check.proofs.PassLaws.{lost_later, only_both}
use Rattle.ufs_check.proofs.UnnamedLaws.{unnamed_all, unnamed_none}
use Rattle.ufs_pointer.specs.KindLaws.{only_none}
use Rattle.ufs_check.proofs.unnamed.find_unnamed.Goals as goal

pub loop-i-init : goal.loop-i-init
loop-i-init g c = record {
  keeps = keeps_same c.args.view.now c.requires.sound (g.met.V.View.unchanged c.args.view.now);
  levels = c.requires.levels;
  found = λ told v stands links.
      let none : c.new-unnamed.result.items ≡ [] = search rules in unnamed_none c.args.g.now v _ none;
  fetched = only_none (IsMetadataBy c.args.g.now) c.args.view.now (g.met.V.View.fetched_none c.args.view.now);
}

pub loop-i-preserved : goal.loop-i-preserved
loop-i-preserved g c =
    let invariant = c.loop-i.invariant in
    let so_far = invariant.keeps in
    record {
      keeps = keeps_both g.met.V.View.further c.args.view.now c.loop-i.view c.read_named.new.view so_far c.read_named.ensures.keeps;
      levels = c.read_named.ensures.levels ∙ invariant.levels;
      found = λ told v stands links.
          all_noted (IsUnnamed c.args.g.now v) c.loop-i.i _ _ _ c.in_ok-note.ensures
          (c.is_unnamed.ensures c.args.g.now v links (c.in-Some.ensures.found told v (so_far.stands v stands)))
          (invariant.found (c.read_named.ensures.keeps.told told) v stands links);
      fetched = only_both g.met.V.View.fetched_both so_far.stands c.read_named.ensures.keeps.told invariant.fetched c.read_named.ensures.fetched;
    }

pub returns-clause-found : goal.returns-clause-found
returns-clause-found g c = λ told v stands links.
    unnamed_all c.args.g.now v c.loop-i.i _ c.loop-i-test.false (c.loop-i.invariant.found told v stands links)

pub returns-in_default-clause-gone : goal.returns-in_default-clause-gone
returns-in_default-clause-gone g c =
    let so_far = c.loop-i.invariant.keeps in
    lost_later so_far.blocks so_far.stands c.in_default.ensures.gone

pub returns-in_default-clause-fetched : goal.returns-in_default-clause-fetched
returns-in_default-clause-fetched g c =
    only_both g.met.V.View.fetched_both c.loop-i.invariant.keeps.stands c.read_named.ensures.keeps.told c.loop-i.invariant.fetched c.read_named.ensures.fetched

pub returns-in_err-note-clause-fetched : goal.returns-in_err-note-clause-fetched
returns-in_err-note-clause-fetched g c =
    only_both g.met.V.View.fetched_both c.loop-i.invariant.keeps.stands c.read_named.ensures.keeps.told c.loop-i.invariant.fetched c.read_named.ensures.fetched
