use Rattle.std.proofs.Common.{◌∙◌, [], ◌∷◌, sym, ap}
use Rattle.dg_io.specs.ViewLaws.{keeps_both}
use Rattle.ufs_dir.specs.Steps.{entry_of}
use Rattle.ufs_model.specs.Chunks.{entries_in, used_entries}
use Rattle.ufs_check.proofs.EntryLaws.{completes_end, completes_next, used_cons}
use Rattle.ufs_check.proofs.PassLaws.{lost_later, only_both}
use Rattle.ufs_check.proofs.owned_entries.gather_chunk.Goals as goal

pub returns-in_err-gather_entry-in-Entry-clause-fetched : goal.returns-in_err-gather_entry-in-Entry-clause-fetched
returns-in_err-gather_entry-in-Entry-clause-fetched g c =
    let so_far = c.loop-entry.invariant.keeps in
    only_both g.met.V.View.fetched_both so_far.stands c.gather_entry.ensures.keeps.told c.loop-entry.invariant.fetched c.gather_entry.ensures.fetched

pub returns-then-not-branch-clause-fetched : goal.returns-then-not-branch-clause-fetched
returns-then-not-branch-clause-fetched g c =
    let so_far = c.loop-entry.invariant.keeps in
    only_both g.met.V.View.fetched_both so_far.stands c.gather_entry.ensures.keeps.told c.loop-entry.invariant.fetched c.gather_entry.ensures.fetched

pub loop-entry-preserved : goal.loop-entry-preserved
loop-entry-preserved g c =
    let invariant = c.loop-entry.invariant in
    let so_far = invariant.keeps in
    let next = c.in-Entry.ensures in
    record {
      keeps = keeps_both g.met.V.View.further c.args.view.now c.loop-entry.view c.gather_entry.new.view so_far c.gather_entry.ensures.keeps;
      levels = c.gather_entry.ensures.levels ∙ invariant.levels;
      block = c.gather_entry.ensures.block ∙ invariant.block;
      whole = sym next.fault ∙ invariant.whole;
      found = λ told v stands.
          completes_next c.args.g.now v (used_entries (entries_in c.args.g.now.endian 0 c.args.chunk.now)) (used_entries c.loop-entry.walk.entries)
          (used_entries (entry_of c.in-Entry.entry ∷ [])) (used_entries c.next.new.self.entries) c.args.entries.now.items c.loop-entry.entries.items c.gather_entry.new.entries.items
          (ap used_entries next.entries ∙ used_cons (entry_of c.in-Entry.entry) c.next.new.self.entries)
          (invariant.found (c.gather_entry.ensures.keeps.told told) v stands)
          (c.in_ok-gather_entry-in-Entry.ensures.found c.if-not-branch.false told v (so_far.stands v stands));
      fetched = only_both g.met.V.View.fetched_both so_far.stands c.gather_entry.ensures.keeps.told invariant.fetched c.gather_entry.ensures.fetched;
    }

pub returns-then-not-branch-clause-gone : goal.returns-then-not-branch-clause-gone
returns-then-not-branch-clause-gone g c = λ missed.
    let so_far = c.loop-entry.invariant.keeps in
    lost_later so_far.blocks so_far.stands (c.in_ok-gather_entry-in-Entry.ensures.gone c.if-not-branch.true)

pub returns-in-End-clause-found : goal.returns-in-End-clause-found
returns-in-End-clause-found g c = λ could told v stands.
    completes_end c.args.g.now v (used_entries (entries_in c.args.g.now.endian 0 c.args.chunk.now)) (used_entries c.loop-entry.walk.entries)
    c.args.entries.now.items c.loop-entry.entries.items (ap used_entries c.in-End.ensures.entries) (c.loop-entry.invariant.found told v stands)
