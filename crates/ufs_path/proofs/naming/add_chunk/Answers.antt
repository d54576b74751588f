use Rattle.std.proofs.Common.{◌≡◌, ◌++◌, ◌∙◌, [], ◌∷◌, ap, inl, inr, refl, sym, subst}
use Rattle.std.proofs.lemmas.List.{append_assoc, append-nil}
use Rattle.ufs_dir.specs.Steps.{IsStep, entry_of}
use Rattle.ufs_model.specs.Chunks.{used_entries}
use Rattle.ufs_path.specs.Parents.{AddsEntries, kept_in}
use Rattle.ufs_path.proofs.NamingLaws.{adds_both, adds_none}
use Rattle.ufs_path.proofs.WalkLaws.{used_front}
use Rattle.ufs_path.proofs.naming.add_chunk.Goals as goal

pub loop-entry-init : goal.loop-entry-init
loop-entry-init c = ([], rw c.new-entries.ensures refl, adds_none c.args.i (kept_in c.args.directories.now))

pub loop-entry-preserved : goal.loop-entry-preserved
loop-entry-preserved c =
    let inv = c.loop-entry.invariant in
    let entry = entry_of c.in-Entry.entry in (
      inv.0 ++ used_entries (entry ∷ []),
      rw (used_front entry _ _ c.in-Entry.ensures.entries) at (inv.1) ∙ sym (append_assoc (inv.0) (used_entries (entry ∷ [])) (used_entries c.next.new.self.entries)),
      adds_both c.args.i (inv.0) (used_entries (entry ∷ [])) (kept_in c.args.directories.now) (kept_in c.loop-entry.directories) (kept_in c.add_entry.new.directories) (inv.2) c.in_ok-add_entry-in-Entry.ensures,
    )

pub returns-in-End : goal.returns-in-End
returns-in-End c =
    let inv = c.loop-entry.invariant in
    let ended : used_entries (c.loop-entry.entries.entries) ≡ [] = ap used_entries (elim c.in-End.is [
      | inl end ↦ (subst (λ step. IsStep c.loop-entry.entries step c.next.new.self) end c.next.ensures).entries
      | inr (bad, is) ↦ (subst (λ step. IsStep c.loop-entry.entries step c.next.new.self) is c.next.ensures).entries
    ]) in
    subst (λ es. AddsEntries c.args.i es (kept_in c.args.directories.now) (kept_in c.loop-entry.directories))
    (sym (inv.1 ∙ ap (λ es. inv.0 ++ es) ended ∙ append-nil (inv.0))) (inv.2)
