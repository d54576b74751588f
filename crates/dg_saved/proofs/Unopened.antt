-- A command that opened no array.
use Rattle.std.proofs.Common.{◌≡◌, ◌≢◌, ◌⊎◌, ℕ, List, refl, inl, inr}
use Rattle.std.specs.Prelude.{Bool}
use Rattle.dg_io.specs.declared.outside.Rack.{Ghosts}
use Rattle.dg_model.specs.declared.events.Event.{Event}
use Rattle.dg_model.specs.declared.replies.Reply.{Reply}
use Rattle.dg_saved.specs.Calls.{Facts}
use Rattle.dg_saved.specs.Ends.{EndsUnopened, EventOnce, Printed, PrintedPart, StatusOnce}
use Rattle.dg_saved.specs.Saved.{FoundNoState, FoundUnclean}
use Rattle.dg_saved.specs.Texts.{nostate_text, unclean_text}
use Rattle.dg_saved.specs.declared.ends.SavedEnd.{SavedEnd}
use Rattle.dg_saved.specs.declared.ends.SavedEnd.TheVariants.{Done, NoState, Refused, Unclean, WriteFault}

pub no_state_ends : (facts : Facts) (end : SavedEnd) → (end ≡ NoState) ⊎ (end ≡ WriteFault) → (end ≢ WriteFault → Printed facts nostate_text)
    → (end ≡ WriteFault → PrintedPart facts nostate_text) → FoundNoState facts → EndsUnopened facts end
no_state_ends facts Done is told part found = elim is [ inl e ↦ absurd (cc e) | inr e ↦ absurd (cc e) ]
no_state_ends facts Refused is told part found = elim is [ inl e ↦ absurd (cc e) | inr e ↦ absurd (cc e) ]
no_state_ends facts NoState is told part found = (found, told (λ e. cc e))
no_state_ends facts Unclean is told part found = elim is [ inl e ↦ absurd (cc e) | inr e ↦ absurd (cc e) ]
no_state_ends facts WriteFault is told part found = inl (found, part refl)

pub unclean_ends : (facts : Facts) (end : SavedEnd) → (end ≡ Unclean) ⊎ (end ≡ WriteFault) → (end ≢ WriteFault → Printed facts unclean_text)
    → (end ≡ WriteFault → PrintedPart facts unclean_text) → FoundUnclean facts → EndsUnopened facts end
unclean_ends facts Done is told part found = elim is [ inl e ↦ absurd (cc e) | inr e ↦ absurd (cc e) ]
unclean_ends facts Refused is told part found = elim is [ inl e ↦ absurd (cc e) | inr e ↦ absurd (cc e) ]
unclean_ends facts NoState is told part found = elim is [ inl e ↦ absurd (cc e) | inr e ↦ absurd (cc e) ]
unclean_ends facts Unclean is told part found = (found, told (λ e. cc e))
unclean_ends facts WriteFault is told part found = inr (found, part refl)

pub event_unopened : {R : Type 0} (rack : Ghosts R) (before now : R) (facts : Facts) (event : Event) (text : Reply → List ℕ) (gives : Reply → Bool) (end : SavedEnd)
    → EndsUnopened facts end → EventOnce rack before now facts event text gives end
event_unopened rack before now facts event text gives Done h = absurd h
event_unopened rack before now facts event text gives Refused h = absurd h
event_unopened rack before now facts event text gives NoState h = (h, tt)
event_unopened rack before now facts event text gives Unclean h = (h, tt)
event_unopened rack before now facts event text gives WriteFault h = (inl h, tt)

pub status_unopened : {R : Type 0} (rack : Ghosts R) (before now : R) (facts : Facts) (end : SavedEnd) → EndsUnopened facts end → StatusOnce rack before now facts end
status_unopened rack before now facts Done h = absurd h
status_unopened rack before now facts Refused h = absurd h
status_unopened rack before now facts NoState h = (h, tt)
status_unopened rack before now facts Unclean h = (h, tt)
status_unopened rack before now facts WriteFault h = (inl h, tt)
