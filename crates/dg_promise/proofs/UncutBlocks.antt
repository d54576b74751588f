-- The blocks that taking lost boundaries out of use leaves.
use Rattle.std.proofs.Common.{◌≡◌, ◌∙◌, ℕ, get_or, length, replicate, sym, ap}
use Rattle.dg_model.specs.Marks.{is_marked}
use Rattle.dg_model.specs.Regroups.{Regroups}
use Rattle.dg_model.specs.States.{State}
use Rattle.dg_promise.specs.Promises.{AreTold}
use Rattle.dg_promise.specs.Uncut.{KeepsUncut}
use Rattle.dg_promise.proofs.RegroupSteps.{value_stays}

pub uncut_stays : (old : State) (r c : ℕ) (new : State) → length old.cut ≡ length old.blocks → Regroups AreTold old r c new
    → KeepsUncut old.table.shape.l new.cut old.blocks new.blocks
uncut_stays old r c new size h b fine =
    ap (λ (state : State). get_or state.blocks b (replicate old.table.shape.l 0)) h.rest
    ∙ value_stays h.mid h.counts old.table.shape.l b
    (ap (λ (state : State). length state.cut) h.opened.rest ∙ size ∙ sym (ap (λ (state : State). length state.blocks) h.opened.rest))
    (sym (ap (λ (state : State). is_marked state.cut b) h.rest) ∙ fine)
    ∙ ap (λ (state : State). get_or state.blocks b (replicate old.table.shape.l 0)) h.opened.rest
