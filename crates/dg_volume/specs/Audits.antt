-- What an audit answers.
use Rattle.dg_model.specs.declared.replies.Reply.{Reply}
use Rattle.dg_model.specs.declared.replies.Reply.TheVariants.{Audited as AuditedReply, Unavailable as UnavailableReply}
use Rattle.dg_volume.specs.declared.audits.AuditAnswer.{AuditAnswer}
use Rattle.dg_volume.specs.declared.audits.AuditAnswer.TheVariants.{Audited, Unavailable}

abbrev pub audit_reply : AuditAnswer → Reply
audit_reply (Audited findings) = AuditedReply findings
audit_reply Unavailable = UnavailableReply
