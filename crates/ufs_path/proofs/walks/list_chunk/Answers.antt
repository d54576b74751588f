use Rattle.std.proofs.Common.{◌++◌, ◌∙◌, ◌∷◌, [], List, length, ap, refl, sym, arith}
use Rattle.std.proofs.lemmas.List.{append_assoc}
use Rattle.dg_io.specs.ViewLaws.{keeps_both, keeps_same}
use Rattle.ufs_dir.specs.Steps.{entry_of}
use Rattle.ufs_model.specs.Chunks.{DirEntry, used_entries}
use Rattle.ufs_path.proofs.ChunkLaws.{entries_few}
use Rattle.ufs_path.proofs.WalkLaws.{failed_then, handed_none, handed_then, unread_then, used_front}
use Rattle.ufs_path.proofs.ConsultLaws.{consults_along, consults_both, consults_none}
use Rattle.ufs_path.proofs.NeedLaws.{lines_needed}
use Rattle.ufs_path.proofs.walks.list_chunk.Goals as goal

pub loop-entry-init : goal.loop-entry-init
loop-entry-init g c = record {
  keeps = keeps_same c.args.view.now c.requires.sound (g.met.V.View.unchanged c.args.view.now);
  levels = c.requires.levels;
  block = refl;
  later = omega arith;
  few = rw c.new-entries.ensures (let most = entries_few c.args.g.now.endian 0 c.args.chunk.now in let whole = c.requires.chunk in omega arith);
  handed = ([], rw c.new-entries.ensures refl, handed_none c.args.g.now c.args.out.now g.met.O.Listing.nothing);
  consulted = consults_none g.V.View c.args.view.now _ _ (g.met.V.View.fetched_none c.args.view.now) (λ h. h);
  stays = refl;
}

pub loop-entry-preserved : goal.loop-entry-preserved
loop-entry-preserved g c =
    let so_far = c.loop-entry.invariant.keeps in
    let step = c.list_entry.ensures.keeps in
    let handed = c.loop-entry.invariant.handed in
    let shorter = ap (λ (entries : List DirEntry). length entries) c.in-Entry.ensures.entries in
    let few = c.loop-entry.invariant.few in
    let one = c.in-All.ensures.few in
    let before = c.loop-entry.invariant.later in
    let after = c.list_entry.ensures.later in record {
      keeps = keeps_both g.met.V.View.further c.args.view.now c.loop-entry.view c.list_entry.new.view so_far step;
      levels = c.list_entry.ensures.levels ∙ c.loop-entry.invariant.levels;
      block = c.list_entry.ensures.block ∙ c.loop-entry.invariant.block;
      later = omega arith;
      few = omega arith;
      handed = (
        handed.0 ++ used_entries (entry_of c.in-Entry.entry ∷ []),
        rw (used_front (entry_of c.in-Entry.entry) _ _ c.in-Entry.ensures.entries) at (handed.1) ∙ sym (append_assoc (handed.0) (used_entries (entry_of c.in-Entry.entry ∷ [])) (used_entries c.next.new.self.entries)),
        handed_then c.args.g.now (handed.0) (used_entries (entry_of c.in-Entry.entry ∷ [])) c.loop-entry.given c.in-All.n c.args.out.now c.loop-entry.out c.list_entry.new.out g.met.O.Listing.then
            so_far.stays step.stays so_far.stands step.told (handed.2) c.in-All.ensures.rule,
      );
      consulted = consults_both g.V.View g.met.V.View.fetched_both so_far step (λ is v holds. (
        so_far.stands v holds,
        λ b h. lines_needed c.args.g.now 1 (handed.0) (used_entries (entry_of c.in-Entry.entry ∷ [])) (used_entries c.next.new.self.entries) _ handed.2.lines v b
            (rw (used_front (entry_of c.in-Entry.entry) _ _ c.in-Entry.ensures.entries) at (handed.1)) ((handed.2.read.rule (step.told is) v holds).answer) h,
      )) (λ h. absurd h) c.loop-entry.invariant.consulted c.list_entry.ensures.consults;
      stays = c.in-All.ensures.stays ∙ c.loop-entry.invariant.stays;
    }

pub returns-in-Unread-clause-rule : goal.returns-in-Unread-clause-rule
returns-in-Unread-clause-rule g c =
    let so_far = c.loop-entry.invariant.keeps in
    let step = c.list_entry.ensures.keeps in
    let handed = c.loop-entry.invariant.handed in
    unread_then c.args.g.now (handed.0) (used_entries (entry_of c.in-Entry.entry ∷ [])) (used_entries c.next.new.self.entries) _ c.loop-entry.given c.in-Unread.n c.in-Unread.fault c.args.out.now c.loop-entry.out c.list_entry.new.out g.met.O.Listing.then
    so_far.stays step.stays so_far.stands step.told (rw (used_front (entry_of c.in-Entry.entry) _ _ c.in-Entry.ensures.entries) at (handed.1)) (handed.2) c.in-Unread.ensures.rule

pub returns-in-Failed-clause-rule : goal.returns-in-Failed-clause-rule
returns-in-Failed-clause-rule g c =
    let so_far = c.loop-entry.invariant.keeps in
    let step = c.list_entry.ensures.keeps in
    let handed = c.loop-entry.invariant.handed in
    failed_then c.args.g.now (handed.0) (used_entries (entry_of c.in-Entry.entry ∷ [])) (used_entries c.next.new.self.entries) _ c.loop-entry.given c.args.out.now c.loop-entry.out c.list_entry.new.out g.met.O.Listing.then_part c.loop-entry.invariant.later
    so_far.stays step.stays so_far.stands step.told (rw (used_front (entry_of c.in-Entry.entry) _ _ c.in-Entry.ensures.entries) at (handed.1)) (handed.2) c.in-Failed.ensures.rule

pub returns-in-Unread-clause-consults : goal.returns-in-Unread-clause-consults
returns-in-Unread-clause-consults g c =
    let so_far = c.loop-entry.invariant.keeps in
    let step = c.list_entry.ensures.keeps in
    let handed = c.loop-entry.invariant.handed in
    consults_both g.V.View g.met.V.View.fetched_both so_far step (λ is v holds. (
      so_far.stands v holds,
      λ b h. lines_needed c.args.g.now 1 (handed.0) (used_entries (entry_of c.in-Entry.entry ∷ [])) (used_entries c.next.new.self.entries) _ handed.2.lines v b
          (rw (used_front (entry_of c.in-Entry.entry) _ _ c.in-Entry.ensures.entries) at (handed.1)) ((handed.2.read.rule (step.told is) v holds).answer) h,
    )) (λ h. h) c.loop-entry.invariant.consulted c.in-Unread.ensures.consults

pub returns-in-Failed-clause-consults : goal.returns-in-Failed-clause-consults
returns-in-Failed-clause-consults g c =
    let so_far = c.loop-entry.invariant.keeps in
    let step = c.list_entry.ensures.keeps in
    let handed = c.loop-entry.invariant.handed in
    consults_both g.V.View g.met.V.View.fetched_both so_far step (λ is v holds. (
      so_far.stands v holds,
      λ b h. lines_needed c.args.g.now 1 (handed.0) (used_entries (entry_of c.in-Entry.entry ∷ [])) (used_entries c.next.new.self.entries) _ handed.2.lines v b
          (rw (used_front (entry_of c.in-Entry.entry) _ _ c.in-Entry.ensures.entries) at (handed.1)) ((handed.2.read.rule (step.told is) v holds).answer) h,
    )) (λ h. absurd h) c.loop-entry.invariant.consulted c.list_entry.ensures.consults

pub returns-clause-consults : goal.returns-clause-consults
returns-clause-consults g c = consults_along g.V.View (λ is v holds. (holds, λ b h. h)) (λ h. absurd h) c.loop-entry.invariant.consulted

pub returns-in-Unread-clause-stays : goal.returns-in-Unread-clause-stays
returns-in-Unread-clause-stays g c = c.in-Unread.ensures.stays ∙ c.loop-entry.invariant.stays
