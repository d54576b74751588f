use Rattle.std.proofs.Common.{◌≡◌, ◌∙◌, [], rules, sym}
use Rattle.dg_io.specs.ViewLaws.{keeps_both, keeps_same}
use Rattle.ufs_audit.proofs.HolderLaws.{marks_more, no_marks}
use Rattle.ufs_audit.specs.Structures.{IsDirectoryOf}
use Rattle.ufs_model.specs.Metadata.{IsMetadataBy}
use Rattle.ufs_pointer.specs.KindLaws.{loses_along, only_both, only_none}
use Rattle.ufs_audit.proofs.directories.find_directories.Goals as goal

pub loop-number-init : goal.loop-number-init
loop-number-init g c = record {
  keeps = keeps_same c.args.view.now c.requires.sound (g.met.V.View.unchanged c.args.view.now);
  levels = c.requires.levels;
  found = λ told v stands.
      let none : c.new-marks.result.items ≡ [] = search rules in no_marks (IsDirectoryOf c.args.g.now v) _ none;
  fetched = only_none (IsMetadataBy c.args.g.now) c.args.view.now (g.met.V.View.fetched_none c.args.view.now);
}

pub loop-number-preserved : goal.loop-number-preserved
loop-number-preserved g c =
    let invariant = c.loop-number.invariant in
    let so_far = invariant.keeps in
    let read = c.read_directory.ensures.keeps in
    record {
      keeps = keeps_both g.met.V.View.further c.args.view.now c.loop-number.view c.read_directory.new.view so_far read;
      levels = c.read_directory.ensures.levels ∙ invariant.levels;
      found = λ told v stands.
          marks_more (IsDirectoryOf c.args.g.now v) c.loop-number.number c.loop-number.marks.items _ c.in-Some.mark c.push.result
          (sym c.is_err.ensures.value ∙ c.if-is_err.false) c.push.ensures.items (invariant.found (read.told told) v stands)
          (c.in-Some.ensures.found told v (so_far.stands v stands));
      fetched = only_both {kind = IsMetadataBy c.args.g.now} g.met.V.View.fetched_both read.told (λ told v stands. (so_far.stands v stands, λ b is. is)) invariant.fetched c.read_directory.ensures.fetched;
    }

pub returns-in_default-clause-gone : goal.returns-in_default-clause-gone
returns-in_default-clause-gone g c =
    let so_far = c.loop-number.invariant.keeps in
    loses_along {kind = IsMetadataBy c.args.g.now} so_far.blocks (λ b h. h) (λ is. is) (λ told v stands. (so_far.stands v stands, λ b is. is)) c.in_default.ensures.gone

pub returns-in_default-clause-fetched : goal.returns-in_default-clause-fetched
returns-in_default-clause-fetched g c =
    let so_far = c.loop-number.invariant.keeps in
    only_both {kind = IsMetadataBy c.args.g.now} g.met.V.View.fetched_both c.read_directory.ensures.keeps.told (λ told v stands. (so_far.stands v stands, λ b is. is)) c.loop-number.invariant.fetched c.read_directory.ensures.fetched

pub returns-then-is_err-clause-fetched : goal.returns-then-is_err-clause-fetched
returns-then-is_err-clause-fetched g c =
    let so_far = c.loop-number.invariant.keeps in
    only_both {kind = IsMetadataBy c.args.g.now} g.met.V.View.fetched_both c.read_directory.ensures.keeps.told (λ told v stands. (so_far.stands v stands, λ b is. is)) c.loop-number.invariant.fetched c.read_directory.ensures.fetched
