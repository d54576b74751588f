use Rattle.std.proofs.Common.{◌∙◌, length-set, subst}
use Rattle.dg_stop.proofs.TableLemmas.{heads_more}
use Rattle.dg_stop.specs.Leads.{IsAttachedBy}
use Rattle.dg_stop.proofs.tables.heads_of.Goals as goal

pub loop-member-preserved : goal.loop-member-preserved
loop-member-preserved c = record {
  size = length-set c.loop-member.heads c.loop-member.member c.attached_by.result ∙ c.loop-member.invariant.size;
  heads = heads_more c.args.lead.now c.args.found.now c.loop-member.member c.loop-member.heads c.attached_by.result c.loop-member.invariant.size c.loop-member-test.true c.loop-member.invariant.heads
      (subst (λ f. IsAttachedBy c.args.lead.now f c.attached_by.result) c.headers_at.ensures c.attached_by.ensures);
}
