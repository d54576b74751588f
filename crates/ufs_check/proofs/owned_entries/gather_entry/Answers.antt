use Rattle.std.proofs.Common.{◌≡◌, ◌∙◌, [], ◌∷◌, ◌++◌, sym, ap}
use Rattle.ufs_dir.specs.Steps.{entry_of}
use Rattle.ufs_check.specs.OwnedEntries.{seen_all}
use Rattle.ufs_check.proofs.EntryLaws.{sees_none, sees_one}
use Rattle.ufs_check.proofs.owned_entries.gather_entry.Goals as goal

pub returns-then-not-is_used-clause-found : goal.returns-then-not-is_used-clause-found
returns-then-not-is_used-clause-found g c = λ could told v stands.
    sees_none c.args.g.now v (entry_of c.args.entry.now) c.args.entries.now.items (sym c.is_used.ensures ∙ c.if-not-is_used.true)

pub returns-clause-found : goal.returns-clause-found
returns-clause-found g c = λ could told v stands.
    sees_one c.args.g.now v (entry_of c.args.entry.now) c.in-Some.named c.args.entries.now.items c.keep_entry.new.entries.items
    (sym c.is_used.ensures ∙ c.if-not-is_used.false) (c.in-Some.ensures.found told v stands)
    (c.in_ok-keep_entry.ensures ∙ ap (λ kind. seen_all c.args.entries.now.items ++ (entry_of c.args.entry.now, kind) ∷ []) c.kind_of.ensures)
