use Rattle.std.proofs.Common.{◌≡◌, ◌∙◌, ◌++◌, [], ◌∷◌, ℕ, Result, rules, sym, subst}
use Rattle.dg_io.specs.ViewLaws.{keeps_both, keeps_same}
use Rattle.dg_io.specs.ViewWords.{Reads}
use Rattle.dg_model.specs.Causes.{Rose}
use Rattle.ufs_model.specs.declared.inodes.Inode.{Inode}
use Rattle.ufs_path.proofs.BranchLaws.{err_unread_walk, left_popped, on_err}
use Rattle.ufs_path.proofs.ConsultLaws.{consults_both, consults_none}
use Rattle.ufs_path.proofs.GrowLaws.{all_grown, entry_needed, entry_unread, front_begins, grew_line, grew_none, grew_same, opens_next}
use Rattle.ufs_path.specs.Consults.{IsUnread}
use Rattle.ufs_path.specs.Trees.{OpensEntry, all_lines, branch_of, left_on, line_of, opened}
use Rattle.ufs_path.specs.declared.faults.LookFault.{LookFault}
use Rattle.ufs_path.proofs.trees.walk_stack.Goals as goal

pub loop-given-init : goal.loop-given-init
loop-given-init g c = record {
  keeps = keeps_same c.args.view.now c.requires.sound (g.met.V.View.unchanged c.args.view.now);
  levels = c.requires.levels;
  grew = grew_none g.O.Listing.took g.O.Listing.faults c.args.out.now _ _ _ c.args.g.now (left_on c.args.entries.items) (g.met.O.Listing.nothing c.args.out.now);
  consulted = consults_none g.V.View c.args.view.now _ _ (g.met.V.View.fetched_none c.args.view.now) (λ h. h);
}

pub loop-given-preserved : goal.loop-given-preserved
loop-given-preserved g c =
    let so_far = c.loop-given.invariant.keeps in
    let step = c.open_entry.ensures.keeps in
    let G = c.args.g.now in
    let b = branch_of c.in-Some.entry in
    let bs = left_on c.pop.new.self.items in
    let new = left_on c.open_entry.new.stack.items in
    let grew = grew_same G (left_on c.loop-given.stack.items) (b ∷ bs) (left_popped c.loop-given.stack.items c.pop.new.self.items c.in-Some.entry c.in-Some.ensures.items) c.loop-given.invariant.grew in
    let opens = subst (λ (r : Result Inode LookFault). OpensEntry (Reads g.V.View c.loop-given.view c.open_entry.new.view (opened G b)) bs new r) c.in-Ok.is c.in_ok-opened-in-Some.ensures.opens in record {
      keeps = keeps_both g.met.V.View.further c.args.view.now c.loop-given.view c.open_entry.new.view so_far step;
      levels = c.open_entry.ensures.levels ∙ c.loop-given.invariant.levels;
      grew = grew_same G (opens.0 ++ bs) new (sym (opens.1))
          (grew_line G b bs (opens.0) c.in-Ok.inode g.met.O.Listing.then grew step.stays so_far.stands step.told (opens.2)
          (rw (c.kind.ensures, c.name.ensures.name) at c.in-Ok-line.ensures.ok) c.in-Ok-line.ensures.cause.kept);
      consulted = consults_both g.V.View g.met.V.View.fetched_both so_far step (λ is v holds. (so_far.stands v holds, entry_needed G b bs grew (step.told is) v holds)) (λ h. absurd h)
          c.loop-given.invariant.consulted c.open_entry.ensures.consults;
    }

pub returns-in_err-opened-in-Some-clause-keeps : goal.returns-in_err-opened-in-Some-clause-keeps
returns-in_err-opened-in-Some-clause-keeps g c =
    keeps_both g.met.V.View.further c.args.view.now c.loop-given.view c.open_entry.new.view c.loop-given.invariant.keeps c.open_entry.ensures.keeps

pub returns-in_err-opened-in-Some-clause-consults : goal.returns-in_err-opened-in-Some-clause-consults
returns-in_err-opened-in-Some-clause-consults g c =
    let so_far = c.loop-given.invariant.keeps in
    let step = c.open_entry.ensures.keeps in
    let G = c.args.g.now in
    let b = branch_of c.in-Some.entry in
    let bs = left_on c.pop.new.self.items in
    let grew = grew_same G (left_on c.loop-given.stack.items) (b ∷ bs) (left_popped c.loop-given.stack.items c.pop.new.self.items c.in-Some.entry c.in-Some.ensures.items) c.loop-given.invariant.grew in
    consults_both g.V.View g.met.V.View.fetched_both so_far step (λ is v holds. (so_far.stands v holds, entry_needed G b bs grew (step.told is) v holds))
    (λ h. absurd (err_unread_walk c.from_residual.result c.from_residual.ensures.0 h)) c.loop-given.invariant.consulted c.open_entry.ensures.consults

pub returns-in-Err-line-clause-keeps : goal.returns-in-Err-line-clause-keeps
returns-in-Err-line-clause-keeps g c =
    keeps_both g.met.V.View.further c.args.view.now c.loop-given.view c.open_entry.new.view c.loop-given.invariant.keeps c.open_entry.ensures.keeps

pub returns-in-Err-line-clause-rule : goal.returns-in-Err-line-clause-rule
returns-in-Err-line-clause-rule g c =
    let so_far = c.loop-given.invariant.keeps in
    let step = c.open_entry.ensures.keeps in
    let G = c.args.g.now in
    let b = branch_of c.in-Some.entry in
    let bs = left_on c.pop.new.self.items in
    let new = left_on c.open_entry.new.stack.items in
    let grew = grew_same G (left_on c.loop-given.stack.items) (b ∷ bs) (left_popped c.loop-given.stack.items c.pop.new.self.items c.in-Some.entry c.in-Some.ensures.items) c.loop-given.invariant.grew in
    let opens = subst (λ (r : Result Inode LookFault). OpensEntry (Reads g.V.View c.loop-given.view c.open_entry.new.view (opened G b)) bs new r) c.in-Ok.is c.in_ok-opened-in-Some.ensures.opens in
    let line = line_of b c.in-Ok.inode in (
      grew.done ++ (line ∷ []),
      g.met.O.Listing.then_part c.args.out.now c.loop-given.out c.line.new.self grew.done (line ∷ []) grew.taken (rw (c.kind.ensures, c.name.ensures.name) at c.in-Err-line.ensures.err),
      front_begins (all_lines G (opens.0 ++ bs)) (grew.done ++ (line ∷ [])) (opens_next G b bs (opens.0) c.in-Ok.inode grew step.stays so_far.stands step.told (opens.2)),
      subst (λ (k : ℕ). Rose k (g.O.Listing.faults c.line.new.self)) grew.stays c.in-Err-line.ensures.cause.failed,
    )

pub returns-in-Err-line-clause-consults : goal.returns-in-Err-line-clause-consults
returns-in-Err-line-clause-consults g c =
    let so_far = c.loop-given.invariant.keeps in
    let step = c.open_entry.ensures.keeps in
    let G = c.args.g.now in
    let b = branch_of c.in-Some.entry in
    let bs = left_on c.pop.new.self.items in
    let grew = grew_same G (left_on c.loop-given.stack.items) (b ∷ bs) (left_popped c.loop-given.stack.items c.pop.new.self.items c.in-Some.entry c.in-Some.ensures.items) c.loop-given.invariant.grew in
    consults_both g.V.View g.met.V.View.fetched_both so_far step (λ is v holds. (so_far.stands v holds, entry_needed G b bs grew (step.told is) v holds)) (λ h. absurd h)
    c.loop-given.invariant.consulted c.open_entry.ensures.consults

pub returns-in-Err-clause-keeps : goal.returns-in-Err-clause-keeps
returns-in-Err-clause-keeps g c =
    keeps_both g.met.V.View.further c.args.view.now c.loop-given.view c.open_entry.new.view c.loop-given.invariant.keeps c.open_entry.ensures.keeps

pub returns-in-Err-clause-rule : goal.returns-in-Err-clause-rule
returns-in-Err-clause-rule g c =
    let so_far = c.loop-given.invariant.keeps in
    let step = c.open_entry.ensures.keeps in
    let G = c.args.g.now in
    let b = branch_of c.in-Some.entry in
    let bs = left_on c.pop.new.self.items in
    let new = left_on c.open_entry.new.stack.items in
    let grew = grew_same G (left_on c.loop-given.stack.items) (b ∷ bs) (left_popped c.loop-given.stack.items c.pop.new.self.items c.in-Some.entry c.in-Some.ensures.items) c.loop-given.invariant.grew in
    let unread = subst (λ (r : Result Inode LookFault). OpensEntry (Reads g.V.View c.loop-given.view c.open_entry.new.view (opened G b)) bs new r) c.in-Err.is c.in_ok-opened-in-Some.ensures.opens in (
      grew.done,
      grew.count,
      grew.taken,
      λ is v holds lines e. front_begins (all_lines G (b ∷ bs)) grew.done grew.remains (step.told is) v holds lines e,
      entry_unread G b bs c.in-Err.fault grew step.stays so_far.stands step.told unread,
    )

pub returns-in-Err-clause-consults : goal.returns-in-Err-clause-consults
returns-in-Err-clause-consults g c =
    let so_far = c.loop-given.invariant.keeps in
    let step = c.open_entry.ensures.keeps in
    let G = c.args.g.now in
    let b = branch_of c.in-Some.entry in
    let bs = left_on c.pop.new.self.items in
    let grew = grew_same G (left_on c.loop-given.stack.items) (b ∷ bs) (left_popped c.loop-given.stack.items c.pop.new.self.items c.in-Some.entry c.in-Some.ensures.items) c.loop-given.invariant.grew in
    consults_both g.V.View g.met.V.View.fetched_both so_far step (λ is v holds. (so_far.stands v holds, entry_needed G b bs grew (step.told is) v holds))
    (λ h. subst (λ (r : Result Inode LookFault). IsUnread r) (sym c.in-Err.is) h) c.loop-given.invariant.consulted c.in_ok-opened-in-Some.ensures.consults

pub returns-in-None-clause-rule : goal.returns-in-None-clause-rule
returns-in-None-clause-rule g c =
    let none : left_on c.loop-given.stack.items ≡ [] = search rules in
    let grew = grew_same c.args.g.now (left_on c.loop-given.stack.items) [] none c.loop-given.invariant.grew in
    (grew.done, grew.count, grew.taken, all_grown c.args.g.now grew)

pub returns-in_err-opened-in-Some-clause-part : goal.returns-in_err-opened-in-Some-clause-part
returns-in_err-opened-in-Some-clause-part g c =
    let grew = c.loop-given.invariant.grew in
    let step = c.open_entry.ensures.keeps in
    on_err c.from_residual.result (
      grew.done,
      grew.taken,
      λ is v holds lines e. front_begins (all_lines c.args.g.now (left_on c.loop-given.stack.items)) grew.done grew.remains (step.told is) v holds lines e,
    )

pub returns-clause-part : goal.returns-clause-part
returns-clause-part g c =
    let grew = c.loop-given.invariant.grew in (
      grew.done,
      grew.taken,
      λ is v holds lines e. front_begins (all_lines c.args.g.now (left_on c.loop-given.stack.items)) grew.done grew.remains is v holds lines e,
    )

pub returns-in_err-opened-in-Some-clause-err_faults : goal.returns-in_err-opened-in-Some-clause-err_faults
returns-in_err-opened-in-Some-clause-err_faults g c = on_err c.from_residual.result c.loop-given.invariant.grew.stays

pub returns-clause-err_faults : goal.returns-clause-err_faults
returns-clause-err_faults g c = c.loop-given.invariant.grew.stays
