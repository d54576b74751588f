use Rattle.dg_run.specs.Resumes.{WasFound}
use Rattle.dg_uses.proofs.PastReads.{past_read, past_read_kept}
use Rattle.dg_uses.proofs.mirrors.reads_past_the_last_block_are_refused.Goals as goal

pub returns : goal.returns
returns g c = record {
  plain = λ end facts b replies ran past. past_read (g.R.Rack.tells end) facts b replies ran past;
  kept = λ start end known facts seen said b replies ran past. past_read_kept (g.R.Rack.tells end) (WasFound (g.R.Rack.steady start) known facts) facts seen said b replies ran past;
}
