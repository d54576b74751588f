-- What an array that keeps a checkpoint keeps behind a save that was answered.
use Rattle.std.proofs.Common.{◌≡◌, ◌∙◌, ◌++◌, ◌∷◌, ℕ, List, [], arith, length, refl, subst, sym}
use Rattle.std.specs.Prelude.{All, Option}
use Rattle.std.proofs.lemmas.List.Elements.{All-head, All-tail}
use Rattle.dg_io.specs.Kept.{Kept}
use Rattle.dg_kept.specs.Opened.{AreTold}
use Rattle.dg_model.specs.Moments.{Happens, History, Kind, Moment}
use Rattle.dg_model.specs.Moments.Kind.{double}
use Rattle.dg_model.specs.States.{Counts, State}
use Rattle.dg_model.specs.declared.events.Event.{Event}
use Rattle.dg_model.specs.declared.events.Event.TheVariants.{Replace, Safe, Save as SaveEvent}
use Rattle.dg_model.specs.declared.replies.Reply.{Reply}
use Rattle.dg_model.specs.declared.replies.Reply.TheVariants.{Done, Saved}
use Rattle.dg_model.specs.declared.shapes.Shape.{Shape}
use Rattle.dg_regroup.specs.declared.extras.Extra.{Extra}
use Rattle.dg_run.specs.Calls.{Facts}
use Rattle.dg_run.specs.Keeping.{Books, IsShownBy, Keeping, KeepsAlong, KeepsFrom, MissesNone, Reopens, ShowsAll}
use Rattle.dg_run.specs.Keeping.Keeping.{found, nothing, saved}
use Rattle.dg_run.specs.Keeping.Mark.{there}
use Rattle.dg_run.specs.Opened.{IsMissed, KeepsOpened}
use Rattle.dg_uses.proofs.QuietRuns.{history_less, history_told}
use Rattle.dg_uses.specs.Checkpoints.{LeavesKept, ReopensFound, ReopensResumed, ReopensSaved}

-- an event that neither saves nor makes a member anew leaves what is kept
books_same : (Known : Type 0) (first : Keeping) (before : State) (event : Event) (reply : Reply) (after : State) (next : Keeping) → LeavesKept event
    → Books Known first before event reply after next → next ≡ first
books_same Known first before SaveEvent reply after next leaves h = absurd leaves
books_same Known first before (Replace s j) reply after next leaves h = absurd leaves
books_same Known first before event reply after next leaves h = h

-- and so do others behind it
along_same : (Known : Type 0) (kind : Kind) (first : Keeping) (old : Moment) (events : List Event) (replies : List Reply) (new : Moment) (last : Keeping)
    → All LeavesKept events → KeepsAlong Known kind first old events replies new last → last ≡ first
along_same Known kind first old [] [] new last leave h = h.1
along_same Known kind first old [] (reply ∷ replies) new last leave h = absurd h
along_same Known kind first old (event ∷ events) [] new last leave h = absurd h
along_same Known kind first old (event ∷ events) (reply ∷ replies) new last leave h =
    along_same Known kind h.1 h.0 events replies new last (All-tail LeavesKept event events leave) h.4
    ∙ books_same Known first old.state event reply h.0.state h.1 (All-head LeavesKept event events leave) h.3

-- a history along which it is told what is kept is a history
along_happens : (Known : Type 0) (kind : Kind) (first : Keeping) (old : Moment) (events : List Event) (replies : List Reply) (new : Moment) (last : Keeping)
    → KeepsAlong Known kind first old events replies new last → History Known kind old events replies new
along_happens Known kind first old [] [] new last h = h.0
along_happens Known kind first old [] (reply ∷ replies) new last h = absurd h
along_happens Known kind first old (event ∷ events) [] new last h = absurd h
along_happens Known kind first old (event ∷ events) (reply ∷ replies) new last h = (h.0, h.2, along_happens Known kind h.1 h.0 events replies new last h.4)

-- a save that was answered, what came before and behind it, and what it keeps
record SavesIn (Known : Type 0) (kind : Kind) (start : Moment) (front : List Event) (answers : List Reply) (number : ℕ) (rest : List Event) (others : List Reply) (new : Moment)
    (last : Keeping) : Type 0 where
  old : Moment
  mid : Moment
  led : History Known kind start front answers old
  saves : Happens Known kind old SaveEvent (Saved number) mid
  went : History Known kind mid rest others new
  kept : last ≡ saved mid.state (λ p. there)

along_saved : (Known : Type 0) (kind : Kind) (first : Keeping) (start : Moment) (front rest : List Event) (answers others : List Reply) (number : ℕ) (new : Moment) (last : Keeping)
    → length answers ≡ length front → All LeavesKept rest
    → KeepsAlong Known kind first start (front ++ SaveEvent ∷ rest) (answers ++ Saved number ∷ others) new last
    → SavesIn Known kind start front answers number rest others new last
along_saved Known kind first start [] rest [] others number new last size leave h = record {
  old = start;
  mid = h.0;
  led = refl;
  saves = h.2;
  went = along_happens Known kind h.1 h.0 rest others new last h.4;
  kept = along_same Known kind h.1 h.0 rest others new last leave h.4 ∙ h.3;
}
along_saved Known kind first start [] rest (reply ∷ answers) others number new last size leave h = absurd (omega (arith, size))
along_saved Known kind first start (event ∷ front) rest [] others number new last size leave h = absurd (omega (arith, size))
along_saved Known kind first start (event ∷ front) rest (reply ∷ answers) others number new last size leave h =
    let at = along_saved Known kind h.1 h.0 front rest answers others number new last (omega (arith, size)) leave h.4 in
    record { old = at.old; mid = at.mid; led = (h.0, h.2, at.led); saves = at.saves; went = at.went; kept = at.kept }

-- so the members are reopened as it
pub reopens_saved : (Known : Type 0) (before : Counts) (bytes : ℕ → Option (List ℕ)) (shape : Shape) (front rest : List Event) (answers others : List Reply) (number : ℕ)
    (final : Moment) → length answers ≡ length front → All LeavesKept rest
    → (last : Keeping) × KeepsFrom Known before (Safe shape ∷ (front ++ SaveEvent ∷ rest)) (Done ∷ (answers ++ Saved number ∷ others)) final last
    × Reopens MissesNone ShowsAll bytes final.state last
    → ReopensSaved Known before shape front answers number rest others final bytes
reopens_saved Known before bytes shape front rest answers others number final size leave (last, keeps, reopens) =
    let at = along_saved Known double nothing keeps.0 front rest answers others number final last size leave keeps.2 in
    record {
      old = at.old;
      mid = at.mid;
      led = (keeps.0, keeps.1, at.led);
      saves = at.saves;
      went = at.went;
      reopens = subst (λ (k : Keeping). Reopens MissesNone ShowsAll bytes final.state k) at.kept reopens;
    }

-- ---- of an array that was opened

module _ (Known : Type 0) (facts : Facts) (said : Option Extra) (kept : Kept) (start final : Moment) where
  -- a save that was answered is what the members are reopened as
  pub resumed_saved : (front rest : List Event) (answers others : List Reply) (number : ℕ) → length answers ≡ length front → All LeavesKept rest
      → KeepsOpened Known facts said kept start (front ++ SaveEvent ∷ rest) (answers ++ Saved number ∷ others) final
      → ReopensResumed Known facts said start front answers number rest others final
  resumed_saved front rest answers others number size leave h =
      let at = along_saved Known double (found h.first (λ p. there)) start front rest answers others number final h.last size leave h.along in
      record {
        old = at.old;
        mid = at.mid;
        led = at.led;
        saves = at.saves;
        went = at.went;
        reopens = subst (λ (k : Keeping). Reopens (IsMissed facts) (IsShownBy said) facts.bytes final.state k) at.kept h.reopens;
      }

  -- and where none is tried they are reopened as what was found
  pub resumed_found : (events : List Event) (replies : List Reply) → All LeavesKept events → KeepsOpened Known facts said kept start events replies final → ReopensFound facts said kept final.state
  resumed_found events replies leave h = record {
    first = h.first;
    shows = h.shows;
    reopens = subst (λ (k : Keeping). Reopens (IsMissed facts) (IsShownBy said) facts.bytes final.state k)
        (along_same Known double (found h.first (λ p. there)) start events replies final h.last leave h.along) h.reopens;
  }

-- ---- where the bytes are told

-- all is said that rests on them
pub saved_told : {Known : Type 0} → Known → (before : Counts) (bytes : ℕ → Option (List ℕ)) (shape : Shape) (front rest : List Event) (answers others : List Reply) (number : ℕ)
    (final : Moment) → ReopensSaved Known before shape front answers number rest others final bytes
    → ReopensSaved AreTold before shape front answers number rest others final bytes
saved_told known before bytes shape front rest answers others number final h =
    let save : History AreTold double h.old (SaveEvent ∷ []) (Saved number ∷ []) h.mid =
    history_less (λ _. known) double h.old (SaveEvent ∷ []) (Saved number ∷ []) h.mid (h.mid, h.saves, refl) in
    record {
      old = h.old;
      mid = h.mid;
      led = history_told known before (Safe shape ∷ front) (Done ∷ answers) h.old h.led;
      saves = subst (λ (m : Moment). Happens AreTold double h.old SaveEvent (Saved number) m) (sym save.2) save.1;
      went = history_less (λ _. known) double h.mid rest others final h.went;
      reopens = h.reopens;
    }
