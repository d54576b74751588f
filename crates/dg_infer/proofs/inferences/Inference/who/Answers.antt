use Rattle.std.proofs.Common.{◌∙◌, sym, ap}
use Rattle.dg_infer.proofs.VerdictLaws.{not_special, told_by_role}
use Rattle.dg_infer.specs.Known.{verdict_by}
use Rattle.dg_infer.specs.Meanings.{KeptInference}
use Rattle.dg_infer.proofs.inferences.Inference.who.Goals as goal

pub returns-in-Some : goal.returns-in-Some
returns-in-Some c = λ table v fits stands.
    told_by_role c.args.self.now table v c.args.block c.args.written c.in-Some.own fits stands
    (sym (ap (λ (k : KeptInference). verdict_by k.geometry c.args.block) c.self.view_is) ∙ sym c.own_verdict.ensures ∙ c.in-Some.is)

pub returns-in-None : goal.returns-in-None
returns-in-None c = λ table v fits stands.
    c.claimant.ensures table v fits stands
    (not_special c.args.self.now table v c.args.block c.args.written fits stands
    (sym (ap (λ (k : KeptInference). verdict_by k.geometry c.args.block) c.self.view_is) ∙ sym c.own_verdict.ensures ∙ c.in-None.is))
