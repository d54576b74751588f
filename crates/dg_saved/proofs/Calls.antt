-- By how many calls the texts of a saved array are printed.
use Rattle.std.proofs.Common.{◌≡◌, ◌≤◌, ℕ, List, ◌++◌, arith, refl, subst}
use Rattle.std.specs.Prelude.{Some, codes}
use Rattle.std.specs.List.{flat_map, range_with_len}
use Rattle.dg_io.specs.SinkLines.{feeds_in}
use Rattle.dg_model.specs.Tables.{Table}
use Rattle.dg_model.specs.declared.events.Event.TheVariants.{Array}
use Rattle.dg_model.specs.declared.members.MemberState.{MemberState}
use Rattle.dg_model.specs.declared.phases.Phase.{Phase}
use Rattle.dg_model.specs.declared.replies.Reply.{Reply}
use Rattle.dg_model.specs.declared.replies.Reply.TheVariants.{Refused, Unavailable as ReplyUnavailable}
use Rattle.dg_saved.specs.Serves.{reply_at}
use Rattle.dg_saved.specs.Texts.{array_text, boundary_line, nostate_text, phase_word, unclean_text}
use Rattle.dg_text.specs.LineCalls.{calls_of}
use Rattle.dg_text.specs.LineWeights.{feed_ahead, feed_last}
use Rattle.dg_text.specs.Lines.{line_of, spelling}
use Rattle.ufs_model.specs.declared.reads.PathRefusal.TheVariants.{NotFound as RefusedNotFound, NotDirectory as RefusedNotDirectory, NotRegular as RefusedNotRegular, Bad as RefusedBad}
use Rattle.ufs_path.specs.declared.faults.CatAnswer.{CatAnswer}
use Rattle.ufs_path.specs.declared.faults.CatAnswer.TheVariants.{Bad, Cut, Given, NotDirectory, NotFound, NotRegular, SinkFault, Unavailable}

-- the reply to a path that gave nothing is written by one call
pub reply_call : (answer : CatAnswer) (reply : Reply) → reply_at answer ≡ Some reply → calls_of reply ≡ 1
reply_call (Given n) reply is = absurd (cc is)
reply_call (Cut n) reply is = absurd (cc is)
reply_call SinkFault reply is = absurd (cc is)
reply_call NotFound reply is = let same : Refused RefusedNotFound ≡ reply = cc is in subst (λ (r : Reply). calls_of r ≡ 1) same refl
reply_call NotDirectory reply is = let same : Refused RefusedNotDirectory ≡ reply = cc is in subst (λ (r : Reply). calls_of r ≡ 1) same refl
reply_call NotRegular reply is = let same : Refused RefusedNotRegular ≡ reply = cc is in subst (λ (r : Reply). calls_of r ≡ 1) same refl
reply_call (Bad bad) reply is = let same : Refused (RefusedBad bad) ≡ reply = cc is in subst (λ (r : Reply). calls_of r ≡ 1) same refl
reply_call Unavailable reply is = let same : ReplyUnavailable ≡ reply = cc is in subst (λ (r : Reply). calls_of r ≡ 1) same refl

-- each text has a line
pub nostate_feed : 1 ≤ feeds_in nostate_text
nostate_feed =
    let one_line : feeds_in nostate_text ≡ 1 = refl in
    omega (arith, one_line)

pub unclean_feed : 1 ≤ feeds_in unclean_text
unclean_feed =
    let one_line : feeds_in unclean_text ≡ 1 = refl in
    omega (arith, one_line)

pub array_feed : (table : Table) (live : List ℕ) (members : ℕ → MemberState) (phase : Phase) → 1 ≤ feeds_in (array_text table live members phase)
array_feed table live members phase =
    feed_ahead (line_of (Array table.shape))
    (codes "phase " ++ (phase_word phase ++ (codes "\n" ++ flat_map (boundary_line table live members) (range_with_len 0 table.shape.b))))
    (feed_last (spelling (Array table.shape)))
