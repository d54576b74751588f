use Rattle.std.proofs.Common.{◌++◌, ◌∙◌, List, ap, refl, ℕ}
use Rattle.std.specs.Prelude.{Some, codes}
use Rattle.dg_io.specs.Racks.{member_in, steady_in, told_in}
use Rattle.dg_run.specs.declared.top.Status.TheVariants.{Done}
use Rattle.dg_uses.proofs.Ended.{ended, met}
use Rattle.dg_uses.proofs.OtherSlots.{reads_past}
use Rattle.dg_uses.proofs.SavedReads.{saved_by}
use Rattle.dg_words.specs.declared.commands.Command.TheVariants.{Replay, Resume}
use Rattle.dg_uses.proofs.twice.resume_where_mirrors_differ.Goals as goal

pub returns : goal.returns
returns c = λ replays resumes saves reads empty fresh behind never begin first second.
    let s = c.run-saved in
    let r = c.run-resumed in
    let done = met c.args.source.now s.new.source c.args.sink.now s.new.sink c.args.rack.now s.new.rack in
    let on = met c.args.more.now r.new.source c.args.text.now r.new.sink c.args.other.now r.new.rack in
    let saved = saved_by c.input_is_unique.ensures c.saves_leave_the_state.ensures c.blank_members_are_older.ensures.empty (steady_in c.args.rack.now) (told_in s.new.rack) done fresh never
    (λ q. refl) (λ q. refl) behind (ap Some saves) refl (ended (steady_in c.args.rack.now) (told_in s.new.rack) done s.result Done (s.ensures.ends Replay replays) first) in
    reads_past c.labels_are_unique.ensures c.line_is_unique.ensures (member_in s.new.rack) (λ q. refl) saved (steady_in c.args.other.now) (told_in r.new.rack) on begin (λ q. refl) (λ q. refl) (ap Some reads) refl
    r.result (r.ensures.ends Resume resumes) second
    ∙ ap (λ (l : List ℕ). l ++ codes "range\n") empty
