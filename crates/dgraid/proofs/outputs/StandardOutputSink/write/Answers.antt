use Rattle.std.proofs.Common.{ℕ, subst, sym}
use Rattle.dg_model.specs.Causes.{RoseByOne}
use Rattle.dgraid.proofs.outputs.StandardOutputSink.write.Goals as goal

pub returns-in-Ok-clause-counted : goal.returns-in-Ok-clause-counted
returns-in-Ok-clause-counted c = c.count.ensures.counted

pub returns-in-Ok-2-clause-counted : goal.returns-in-Ok-2-clause-counted
returns-in-Ok-2-clause-counted c = subst (λ (n : ℕ). RoseByOne c.args.self.now.calls n) (sym c.fault.ensures.calls) c.count.ensures.counted

pub returns-in-Err-clause-counted : goal.returns-in-Err-clause-counted
returns-in-Err-clause-counted c = subst (λ (n : ℕ). RoseByOne c.args.self.now.calls n) (sym c.fault-in-Err.ensures.calls) c.count.ensures.counted
