use Rattle.std.proofs.Common.{◌++◌, ◌∙◌, List, ap, refl, ℕ}
use Rattle.std.specs.Prelude.{Some, codes}
use Rattle.dg_io.specs.Racks.{steady_in, told_in}
use Rattle.dg_run.specs.declared.top.Status.TheVariants.{Done}
use Rattle.dg_uses.proofs.Ended.{ended, met}
use Rattle.dg_uses.proofs.Headers.{resumed_plain}
use Rattle.dg_uses.proofs.SavedReads.{none_between, reads_saved, saved_by}
use Rattle.dg_words.specs.declared.commands.Command.TheVariants.{Replay, Resume}
use Rattle.dg_uses.proofs.twice.save_and_resume.Goals as goal

pub returns : goal.returns
returns c = λ replays resumes saves reads empty fresh behind first second never.
    let s = c.run-saved in
    let r = c.run-resumed in
    let done = met c.args.source.now s.new.source c.args.sink.now s.new.sink c.args.rack.now s.new.rack in
    let on = met c.args.more.now r.new.source c.args.text.now r.new.sink s.new.rack r.new.rack in
    let between = none_between (steady_in s.new.rack) (told_in r.new.rack) on r.result (r.ensures.ends Resume resumes) second never in
    let saved = saved_by c.input_is_unique.ensures c.saves_leave_the_state.ensures c.blank_members_are_older.ensures.empty (steady_in c.args.rack.now) (told_in s.new.rack) done fresh between.1
    (λ q. refl) (λ q. refl) behind (ap Some saves) refl (ended (steady_in c.args.rack.now) (told_in s.new.rack) done s.result Done (s.ensures.ends Replay replays) first) in
    let all = resumed_plain (steady_in s.new.rack) (told_in r.new.rack) on (λ q. refl) saved.headers r.result Done (λ e. cc e) (r.ensures.ends Resume resumes) second in
    reads_saved c.line_is_unique.ensures (told_in r.new.rack) (c.saved_arrays_go_on.ensures.resumed r.new.rack) on (λ q. refl) (λ q. refl) (λ q. refl) saved between.0
    (ap Some reads) refl all
    ∙ ap (λ (l : List ℕ). l ++ codes "data 6869\n") empty
