use Rattle.dg_run.proofs.Ended.{no_usage}
use Rattle.dg_run.proofs.top.serve_command.Goals as goal

pub returns-in-Replay-clause-ends : goal.returns-in-Replay-clause-ends
returns-in-Replay-clause-ends g c = rw c.in-Replay.is c.serve_replay.ensures.ends

pub returns-in-Resume-clause-ends : goal.returns-in-Resume-clause-ends
returns-in-Resume-clause-ends g c = rw c.in-Resume.is c.serve_resume.ensures.ends

pub returns-in-Cat-clause-ends : goal.returns-in-Cat-clause-ends
returns-in-Cat-clause-ends g c = rw c.in-Cat.is (rw c.as_slice.ensures at c.serve_file.ensures.ends)

pub returns-in-Ls-clause-ends : goal.returns-in-Ls-clause-ends
returns-in-Ls-clause-ends g c = rw c.in-Ls.is (rw c.as_slice-in-Ls.ensures at c.serve_directory.ensures.ends)

pub returns-in-Status-clause-ends : goal.returns-in-Status-clause-ends
returns-in-Status-clause-ends g c = rw c.in-Status.is c.serve_status.ensures.ends

pub returns-in-Trace-clause-ends : goal.returns-in-Trace-clause-ends
returns-in-Trace-clause-ends g c = rw c.in-Trace.is c.serve_trace.ensures.ends

pub returns-in-Drill-clause-ends : goal.returns-in-Drill-clause-ends
returns-in-Drill-clause-ends g c = rw c.in-Drill.is c.serve_drill.ensures.ends

pub returns-in-Replay-clause-usage : goal.returns-in-Replay-clause-usage
returns-in-Replay-clause-usage g c is = absurd (rw is at c.serve_replay.ensures.ends)

pub returns-in-Resume-clause-usage : goal.returns-in-Resume-clause-usage
returns-in-Resume-clause-usage g c is = no_usage _ _ _ (rw is at c.serve_resume.ensures.ends)

pub returns-in-Replay-clause-lines : goal.returns-in-Replay-clause-lines
returns-in-Replay-clause-lines g c none = rw c.in-Replay.is (c.serve_replay.ensures.lines none)

pub returns-in-Resume-clause-lines : goal.returns-in-Resume-clause-lines
returns-in-Resume-clause-lines g c none = rw c.in-Resume.is (c.serve_resume.ensures.lines none)

pub returns-in-Cat-clause-lines : goal.returns-in-Cat-clause-lines
returns-in-Cat-clause-lines g c none = rw c.in-Cat.is (c.serve_file.ensures.lines none)

pub returns-in-Ls-clause-lines : goal.returns-in-Ls-clause-lines
returns-in-Ls-clause-lines g c none = rw c.in-Ls.is (c.serve_directory.ensures.lines none)

pub returns-in-Status-clause-lines : goal.returns-in-Status-clause-lines
returns-in-Status-clause-lines g c none = rw c.in-Status.is (c.serve_status.ensures.lines none)

pub returns-in-Trace-clause-lines : goal.returns-in-Trace-clause-lines
returns-in-Trace-clause-lines g c none = rw c.in-Trace.is (c.serve_trace.ensures.lines none)

pub returns-in-Drill-clause-lines : goal.returns-in-Drill-clause-lines
returns-in-Drill-clause-lines g c none = rw c.in-Drill.is (c.serve_drill.ensures.lines none)

pub returns-in-Audit-clause-lines : goal.returns-in-Audit-clause-lines
returns-in-Audit-clause-lines g c none = rw c.in-Audit.is (c.serve_audit.ensures.lines none)
