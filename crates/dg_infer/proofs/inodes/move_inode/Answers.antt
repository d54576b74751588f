use Rattle.std.proofs.Common.{ℕ, List, Contains, subst}
use Rattle.dg_claims.specs.Kept.{claimed_by}
use Rattle.dg_infer.proofs.FetchedLaws.{on_ok_map}
use Rattle.dg_infer.proofs.ListLaws.{contains_none}
use Rattle.dg_infer.proofs.TargetLaws.{inode_claims}
use Rattle.dg_infer.proofs.WatchLaws.{slots_watched, touched_grows}
use Rattle.dg_infer.proofs.inodes.move_inode.Goals as goal

pub returns-in_ok-watch_new-in-Some-clause-watched : goal.returns-in_ok-watch_new-in-Some-clause-watched
returns-in_ok-watch_new-in-Some-clause-watched c =
    on_ok_map c.of_inode.result (λ slots before is.
    slots_watched before (claimed_by c.args.claims.now.runs) (claimed_by c.of_inode.new.self.runs) c.watch_new.new.watch c.args.number c.of_inode.ensures.others
    (λ slot f has. touched_grows c.watch_old.new.watch c.watch_new.new.watch _ f c.watch_new.ensures.grows (c.in_ok-watch_old.ensures.touched slot f has))
    (λ slot f has. c.in_ok-watch_new-in-Some.ensures.touched slot f
    (inode_claims c.args.g.now c.args.claims.now.geometry c.args.number c.in-Some.inode slot f c.requires.table (subst (λ (xs : List ℕ). Contains xs f) (slots slot) has)))
    (c.watch_new.ensures.watched before (c.watch_old.ensures.watched before is))) c.of_inode.ensures.slots

pub returns-in-None-clause-watched : goal.returns-in-None-clause-watched
returns-in-None-clause-watched c = λ before is.
    slots_watched before (claimed_by c.args.claims.now.runs) (claimed_by c.remove_inode.new.self.runs) c.watch_old.new.watch c.args.number c.remove_inode.ensures.others
    c.in_ok-watch_old.ensures.touched
    (λ slot f has. absurd (contains_none f (subst (λ (xs : List ℕ). Contains xs f) (c.remove_inode.ensures.slots slot) has)))
    (c.watch_old.ensures.watched before is)
