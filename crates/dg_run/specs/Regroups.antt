-- The reply to the event that goes on without the lost boundaries.
use Rattle.dg_model.specs.declared.replies.Reply.{Reply}
use Rattle.dg_model.specs.declared.replies.Reply.TheVariants.{Regrouped as RegroupedReply, TooFew as TooFewReply, Whole as WholeReply}
use Rattle.dg_volume.specs.declared.regroups.RegroupAnswer.{RegroupAnswer}
use Rattle.dg_volume.specs.declared.regroups.RegroupAnswer.TheVariants.{Regrouped, TooFew, Whole}

abbrev pub regroup_reply : RegroupAnswer → Reply
regroup_reply Whole = WholeReply
regroup_reply TooFew = TooFewReply
regroup_reply (Regrouped r c) = RegroupedReply r c
