-- Two histories of the same events from blank arrays of one shape, in which no count of faults rises and the bytes are told, have the same replies.
use Rattle.std.proofs.Common.{◌≡◌, ◌≢◌, ◌∙◌, ◌<◌, ◌≤◌, ◌+◌, ◌/◌, ℕ, true, false, List, [], ◌∷◌, length, refl, sym, ap, subst, inl, inr, arith}
use Rattle.std.specs.Prelude.{All, Some, replicate}
use Rattle.std.specs.List.Sorted.{IsStrictlyIncreasing}
use Rattle.std.proofs.lemmas.Bool.{cases_lt, false≢true}
use Rattle.std.proofs.lemmas.List.Elements.{All-head, All-tail}
use Rattle.std.proofs.lemmas.List.FromFn.{get_or-range_with_len, length-range_with_len}
use Rattle.dg_model.specs.Blocks.{zeros}
use Rattle.dg_model.specs.Causes.{NoneRose, Rose}
use Rattle.dg_model.specs.Changes.{Stays}
use Rattle.dg_model.specs.Lives.{all_live, member_at, place_in}
use Rattle.dg_model.specs.Members.{ArePaired, is_filling, is_lost}
use Rattle.dg_model.specs.Moments.{AreCountsOf, Happens, History, HistoryOf, IsAllowed, Makes, Moment, TookLost}
use Rattle.dg_model.specs.Moments.Kind.{plain}
use Rattle.dg_model.specs.Seals.{next_sequence}
use Rattle.dg_model.specs.Shapes.{IsShape}
use Rattle.dg_model.specs.States.{Counts, IsBlank, State, is_broken, plain_state}
use Rattle.dg_model.specs.Steps.{Step}
use Rattle.dg_model.specs.Tables.{empty_table}
use Rattle.dg_model.specs.declared.events.Event.{Event}
use Rattle.dg_model.specs.declared.events.Event.TheVariants.{Array, Write, Read, Fail, Replace, Rebuild, Settle, Tend, Diffuse, Who, Pending, Cat, Ls, Tree, Home, Save, Regroup, LostFiles, Audit, DropDisk, MendDisk}
use Rattle.dg_model.specs.declared.members.MemberState.{MemberState}
use Rattle.dg_model.specs.declared.members.MemberState.TheVariants.{Out}
use Rattle.dg_model.specs.declared.replies.Reply.{Reply}
use Rattle.dg_model.specs.declared.replies.Reply.TheVariants.{Done, Lost, Saved, Whole, TooFew, Regrouped}
use Rattle.dg_model.specs.declared.shapes.Shape.{Shape}
use Rattle.dg_model.proofs.KnownLaws.{step_less}
use Rattle.dg_model.proofs.MemberLaws.{none_back, none_front}
use Rattle.dg_model.proofs.StepLaws.{StaysInUse, step_keeps}
use Rattle.dg_promise.specs.Promises.{AreTold}
use Rattle.dg_promise.specs.Steady.{FitsBlock, IsSteady}
use Rattle.dg_text.specs.Lines.{IsInPlace}
use Rattle.dg_uses.proofs.Chains.{blank_at}
use Rattle.dg_uses.proofs.NextNumbers.{IsServed, next_after, step_number}
use Rattle.dg_uses.proofs.OneAudit.{audit_one}
use Rattle.dg_uses.proofs.OneLostFiles.{lost_is, lost_same}
use Rattle.dg_uses.proofs.OnePlan.{IsSavedWhole, diffuse_one, save_one, settle_one, tend_one}
use Rattle.dg_uses.proofs.OneReading.{cat_is, cat_same, home_is, home_same, ls_is, ls_same, tree_is, tree_same}
use Rattle.dg_uses.proofs.OneRebuild.{rebuild_one, who_one}
use Rattle.dg_uses.proofs.OneRegroup.{IsLeft, is_left, kept_one, left_ascends, one_left, stay_where, too_small, was_enough}
use Rattle.dg_uses.proofs.OneStep.{AreOne, IsFit, fail_one, pending_one, read_one, replace_one, write_one}
use Rattle.dg_uses.proofs.OneView.{both}
use Rattle.dg_uses.proofs.Promised.{fits}
use Rattle.dg_uses.proofs.Quiet.{quiet, quiet_counts, quiet_step}
use Rattle.dg_uses.proofs.QuietRuns.{happens_served, quiet_blank, quiet_none}
use Rattle.dg_uses.proofs.Seated.{IsSeated, blank_seated, sits_next, step_seated}
use Rattle.dg_uses.proofs.Seen.{Seen, seen_of, state_of}

-- the law of `dg_promise` on steady states
abbrev pub StepsKeepSteady : Type 0
StepsKeepSteady = (old : State) (event : Event) (reply : Reply) (new : State) → FitsBlock old.table.shape.l event → IsSteady old → Step AreTold old event reply new → IsSteady new

abbrev pub BlanksAreSteady : Type 0
BlanksAreSteady = (shape : Shape) (before : Counts) (state : State) → IsShape shape → IsBlank shape before state → IsSteady state

-- ---- one event

module _ (c : Seen) (ok : IsFit c) (old other x y : State) (was : seen_of old ≡ c) (too : seen_of other ≡ c) (none : NoneRose old.counts.faults x.counts.faults) (never : NoneRose other.counts.faults y.counts.faults)
    (number : next_sequence old.label ≡ next_sequence other.label) where
  here : (event : Event) (reply : Reply) → Step AreTold old event reply x → Step AreTold (state_of c old.label old.counts) event reply x
  here event reply h = subst (λ (d : Seen). Step AreTold (state_of d old.label old.counts) event reply x) was h

  there : (event : Event) (reply : Reply) → Step AreTold other event reply y → Step AreTold (state_of c other.label other.counts) event reply y
  there event reply h = subst (λ (d : Seen). Step AreTold (state_of d other.label other.counts) event reply y) too h

  module _ (shape : x.table.shape ≡ c.table.shape) (like : y.table.shape ≡ c.table.shape) where
    by : (event : Event) (r q : Reply) → IsServed event r → IsServed event q → StaysInUse event r → StaysInUse event q → (event ≡ Save → IsSavedWhole c r) → (event ≡ Save → IsSavedWhole c q)
        → Step AreTold (state_of c old.label old.counts) event r x → Step AreTold (state_of c other.label other.counts) event q y → AreOne r q x y
    by (Write b bytes) r q served too u v saves other_saves h g = write_one c ok old.label other.label old.counts other.counts x y none never b bytes r q h g
    by (Read b) r q served too u v saves other_saves h g = read_one c ok old.label other.label old.counts other.counts x y none never b r q h g
    by (Fail s j) r q served too u v saves other_saves h g = fail_one c ok old.label other.label old.counts other.counts x y none never s j r q h g
    by (Replace s j) r q served too u v saves other_saves h g = replace_one c ok old.label other.label old.counts other.counts x y none never s j r q h g
    by (Rebuild s limit) r q served too u v saves other_saves h g = rebuild_one c ok old.label other.label old.counts other.counts x y none never s limit r q h g
    by Settle r q served too u v saves other_saves h g = settle_one c ok old.label other.label old.counts other.counts x y none never shape like r q h g
    by (Tend limit) r q served too u v saves other_saves h g = tend_one c ok old.label other.label old.counts other.counts x y none never shape like limit r q h g
    by Diffuse r q served too u v saves other_saves h g = diffuse_one c ok old.label other.label old.counts other.counts x y none never shape like r q h g
    by (Who b) r q served too u v saves other_saves h g = who_one c ok old.label other.label old.counts other.counts x y none never b r q h g
    by Pending r q served too u v saves other_saves h g = pending_one c ok old.label other.label old.counts other.counts x y none never r q h g
    by (Cat path) r q served too u v saves other_saves h g =
        cat_same c ok (seen_of x) (seen_of y) path r q (cat_is c ok old.label old.counts x none path r h) (cat_is c ok other.label other.counts y never path q g)
    by (Ls path) r q served too u v saves other_saves h g =
        ls_same c ok (seen_of x) (seen_of y) path r q (ls_is c ok old.label old.counts x none path r h) (ls_is c ok other.label other.counts y never path q g)
    by Tree r q served too u v saves other_saves h g = tree_same c ok (seen_of x) (seen_of y) r q (tree_is c ok old.label old.counts x none r h) (tree_is c ok other.label other.counts y never q g)
    by (Home path) r q served too u v saves other_saves h g =
        home_same c ok (seen_of x) (seen_of y) path r q (home_is c ok old.label old.counts x none path r h) (home_is c ok other.label other.counts y never path q g)
    by Save r q served too u v saves other_saves h g = save_one c ok old.label other.label old.counts other.counts x y none never shape like number r q (saves refl) (other_saves refl) h g
    by Regroup r q served too u v saves other_saves h g = kept_one c ok old.label other.label old.counts other.counts x y none never r q u v h g
    by LostFiles r q served too u v saves other_saves h g =
        lost_same c ok (seen_of x) (seen_of y) r q (lost_is c ok old.label old.counts x none r h) (lost_is c ok other.label other.counts y never q g)
    by (DropDisk s j) r q served too u v saves other_saves h g =
        let one : x ≡ state_of c old.label old.counts = subst (λ (z : Reply). Step AreTold (state_of c old.label old.counts) (DropDisk s j) z x) served h in
        let two : y ≡ state_of c other.label other.counts = subst (λ (z : Reply). Step AreTold (state_of c other.label other.counts) (DropDisk s j) z y) too g in
        (served ∙ sym too, ap seen_of one ∙ sym (ap seen_of two))
    by (MendDisk s j) r q served too u v saves other_saves h g =
        let one : x ≡ state_of c old.label old.counts = subst (λ (z : Reply). Step AreTold (state_of c old.label old.counts) (MendDisk s j) z x) served h in
        let two : y ≡ state_of c other.label other.counts = subst (λ (z : Reply). Step AreTold (state_of c other.label other.counts) (MendDisk s j) z y) too g in
        (served ∙ sym too, ap seen_of one ∙ sym (ap seen_of two))
    by Audit r q served too u v saves other_saves h g = audit_one c ok old.label other.label old.counts other.counts x y none never r q h g
    by event r q served too u v saves other_saves h g = absurd served

    step_one : (event : Event) (r q : Reply) → IsServed event r → IsServed event q → StaysInUse event r → StaysInUse event q → (event ≡ Save → IsSavedWhole c r) → (event ≡ Save → IsSavedWhole c q)
        → Step AreTold old event r x → Step AreTold other event q y → AreOne r q x y
    step_one event r q served too u v saves other_saves h g = by event r q served too u v saves other_saves (here event r h) (there event q g)

-- ---- moments

-- what is kept of a moment along a history
record IsLed (shape : Shape) (m : Moment) : Type 0 where
  steady : IsSteady m.state
  paired : ArePaired m.state.members
  lines : m.state.table.shape.l ≡ shape.l
  seated : IsSeated m.state
  ascend : IsStrictlyIncreasing m.state.live
  tied : AreCountsOf m.state.live m.beneath.counts m.state.counts

led_fit : (shape : Shape) (m : Moment) → IsLed shape m → IsFit (seen_of m.state)
led_fit shape m led = record {
  table = led.steady.sites;
  paired = led.paired;
  size = led.seated.size;
  placed = λ settled. let order = led.steady.settled settled in (order.wants, order.placed);
}

regroup_paired : (old : State) (reply : Reply) (new : State) → ArePaired old.members → Step AreTold old Regroup reply new → ArePaired new.members
regroup_paired old Whole new was h = subst (λ (s : State). ArePaired s.members) (sym h.1) was
regroup_paired old TooFew new was h = h.3.goes.passes.paired
regroup_paired old (Regrouped r c) new was h = h.1.goes.passes.paired
regroup_paired old reply new was h = absurd h

step_paired : (old : State) (event : Event) (reply : Reply) (new : State) → ArePaired old.members → Step AreTold old event reply new → ArePaired new.members
step_paired old Regroup reply new was h = regroup_paired old reply new was h
step_paired old event reply new was h = (step_keeps AreTold old event reply new tt h).paired was

regroup_lines : (old : State) (reply : Reply) (new : State) → Step AreTold old Regroup reply new → new.table.shape.l ≡ old.table.shape.l
regroup_lines old Whole new h = ap (λ (s : State). s.table.shape.l) h.1
regroup_lines old TooFew new h = ap (λ (s : State). s.table.shape.l) h.3.rest
regroup_lines old (Regrouped r c) new h = ap (λ (s : State). s.table.shape.l) h.1.rest ∙ ap (λ (s : State). s.table.shape.l) h.1.opened.rest
regroup_lines old reply new h = absurd h

step_lines : (old : State) (event : Event) (reply : Reply) (new : State) → Step AreTold old event reply new → new.table.shape.l ≡ old.table.shape.l
step_lines old Regroup reply new h = regroup_lines old reply new h
step_lines old event reply new h = ap (λ (t : Shape). t.l) (step_keeps AreTold old event reply new tt h).table.shape

regroup_ascends : (old : State) (reply : Reply) (new : State) → IsSeated old → IsStrictlyIncreasing old.live → Step AreTold old Regroup reply new → IsStrictlyIncreasing new.live
regroup_ascends old Whole new seat ascend h = subst (λ (s : State). IsStrictlyIncreasing s.live) (sym h.1) ascend
regroup_ascends old TooFew new seat ascend h = subst IsStrictlyIncreasing (sym (ap (λ (s : State). s.live) h.3.rest)) ascend
regroup_ascends old (Regrouped r c) new seat ascend h = left_ascends old r c new h.1 seat ascend
regroup_ascends old reply new seat ascend h = absurd h

step_ascends : (old : State) (event : Event) (reply : Reply) (new : State) → IsSeated old → IsStrictlyIncreasing old.live → Step AreTold old event reply new
    → IsStrictlyIncreasing new.live
step_ascends old Regroup reply new seat ascend h = regroup_ascends old reply new seat ascend h
step_ascends old event reply new seat ascend h = subst IsStrictlyIncreasing (sym (sits_next AreTold old event reply new seat tt h).live) ascend

-- a save of a plain array
save_allowed : (old : Moment) (reply : Reply) (new : Moment) → IsAllowed plain old Save reply new → IsSavedWhole (seen_of old.state) reply
save_allowed old (Lost s) new h = h
save_allowed old (Saved i) new h = h
save_allowed old reply new h = tt

saves_allowed : (old : Moment) (event : Event) (reply : Reply) (new : Moment) → IsAllowed plain old event reply new → event ≡ Save → IsSavedWhole (seen_of old.state) reply
saves_allowed old event reply new h is = save_allowed old reply new (subst (λ (e : Event). IsAllowed plain old e reply new) is h)

-- where no count rose each was lost before
lost_before : (old new : Moment) → NoneRose old.beneath.counts.faults new.beneath.counts.faults → TookLost old new
    → (s : ℕ) → place_in old.state.live s < length old.state.live → (place_in new.state.live s < length new.state.live → ⊥) → is_lost old.state.members (place_in old.state.live s) ≡ true
lost_before old new none took s here gone = elim (took s here gone) [ inl lost ↦ lost | inr rose ↦ absurd (none rose.0 rose.2) ]

-- ---- histories

-- no count beneath falls
history_rises : (K : Type 0) (old : Moment) (events : List Event) (replies : List Reply) (new : Moment) → History K plain old events replies new
    → (p : ℕ) → old.beneath.counts.faults p ≤ new.beneath.counts.faults p
history_rises K old [] [] new h p = omega (arith, ap (λ (m : Moment). m.beneath.counts.faults p) h)
history_rises K old [] (reply ∷ replies) new h p = absurd h
history_rises K old (event ∷ events) [] new h p = absurd h
history_rises K old (event ∷ events) (reply ∷ replies) new h p = omega (arith, h.1.rise.faults p, history_rises K h.0 events replies new h.2 p)

module _ (law : StepsKeepSteady) (shape : Shape) (K : Type 0) (known : K) where
  told : (old : Moment) (event : Event) (reply : Reply) (new : Moment) → Happens K plain old event reply new → Step AreTold old.state event reply new.state
  told old event reply new h = step_less (λ _. known) old.state event reply new.state h.step

  led_on : (old : Moment) (event : Event) (reply : Reply) (new : Moment) → IsLed shape old → IsInPlace (Some shape) event → Happens K plain old event reply new → IsLed shape new
  led_on old event reply new led place h =
      let step = told old event reply new h in
      record {
        steady = law old.state event reply new.state (subst (λ (l : ℕ). FitsBlock l event) (sym led.lines) (fits shape event place)) led.steady step;
        paired = step_paired old.state event reply new.state led.paired step;
        lines = step_lines old.state event reply new.state step ∙ led.lines;
        seated = step_seated AreTold old.state event reply new.state led.seated step;
        ascend = step_ascends old.state event reply new.state led.seated led.ascend step;
        tied = h.tied;
      }

  -- no count of the members rose, where the same boundaries are in use
  none_here : (old : Moment) (event : Event) (reply : Reply) (new : Moment) → IsLed shape old → StaysInUse event reply → Happens K plain old event reply new
      → NoneRose old.beneath.counts.faults new.beneath.counts.faults
      → NoneRose (quiet_counts old.state.table.shape.b old.state.counts).faults (quiet_counts old.state.table.shape.b new.state.counts).faults
  none_here old event reply new led stay h none =
      let sits = sits_next AreTold old.state event reply new.state led.seated stay (told old event reply new h) in
      quiet_none old.state.table.shape.b old.state.live old.beneath.counts new.beneath.counts old.state.counts new.state.counts (sym led.seated.size) led.tied
      (subst (λ (live : List ℕ). AreCountsOf live new.beneath.counts new.state.counts) sits.live h.tied) none

  quiet_told : (old : Moment) (event : Event) (reply : Reply) (new : Moment) → IsLed shape old → StaysInUse event reply → Happens K plain old event reply new
      → Step AreTold (quiet old.state.table.shape.b old.state) event reply (quiet old.state.table.shape.b new.state)
  quiet_told old event reply new led stay h = quiet_step AreTold old.state.table.shape.b old.state new.state led.seated refl event reply stay (told old event reply new h)

  -- what is seen stays where all of the state does
  seen_stays : (old new : Moment) → IsLed shape old → AreCountsOf new.state.live new.beneath.counts new.state.counts
      → NoneRose old.beneath.counts.faults new.beneath.counts.faults → Stays old.state new.state → seen_of new.state ≡ seen_of old.state
  seen_stays old new led tied none h =
      ap seen_of h.rest ∙ ap (λ (m : ℕ → MemberState). record (seen_of old.state) { members = m })
      (λ i q. stay_where old.state.counts.faults new.state.counts.faults old.state.members new.state.members still led.paired h.goes.members q i)
    where
      still : (q : ℕ) → old.state.members q ≢ Out → Rose (old.state.counts.faults q) (new.state.counts.faults q) → ⊥
      still q there rose = elim (cases_lt (q / 2) old.state.table.shape.b) [
        | inr past ↦ there (led.seated.out q past)
        | inl low ↦
            let here : q / 2 < length old.state.live = omega (arith, low, led.seated.size) in
            let one = led.tied.faults q here in
            let two = (subst (λ (live : List ℕ). AreCountsOf live new.beneath.counts new.state.counts) (ap (λ (s : State). s.live) h.rest) tied).faults q here in
            let p = member_at old.state.live q in
            none p (subst (λ (a : ℕ). Rose a (new.beneath.counts.faults p)) one (subst (λ (b : ℕ). Rose (old.state.counts.faults q) b) two rose))
      ]

  -- an array that has too few boundaries isn't regrouped
  not_both : (old mid : Moment) (other point : State) (s e : ℕ) → IsLed shape old → AreCountsOf mid.state.live mid.beneath.counts mid.state.counts
      → NoneRose old.beneath.counts.faults mid.beneath.counts.faults → seen_of old.state ≡ seen_of other → (r : Reply) → StaysInUse Regroup r
      → Step AreTold old.state Regroup r mid.state → Step AreTold other Regroup (Regrouped s e) point → ⊥
  not_both old mid other point s e led tied none same Whole u h g =
      both (is_broken old.state) (subst (λ (c : Seen). is_broken (state_of c old.state.label old.state.counts) ≡ true) (sym same) g.0) h.0
  not_both old mid other point s e led tied none same TooFew u h g =
      was_enough other s e point g.1
      (subst too_small same (subst too_small (seen_stays old mid led tied none h.3) h.2))
  not_both old mid other point s e led tied none same (Regrouped n d) u h g = absurd u
  not_both old mid other point s e led tied none same r u h g = absurd h

module _ (law : StepsKeepSteady) (shape : Shape) (K L : Type 0) (known : K) (knows : L) where
  module _ (old other x y : Moment) (led : IsLed shape old) (too : IsLed shape other) (same : seen_of old.state ≡ seen_of other.state)
      (number : next_sequence old.state.label ≡ next_sequence other.state.label) (none : NoneRose old.beneath.counts.faults x.beneath.counts.faults)
      (never : NoneRose other.beneath.counts.faults y.beneath.counts.faults) where
    stay_one : (event : Event) (r q : Reply) → IsInPlace (Some shape) event → StaysInUse event r → StaysInUse event q → Happens K plain old event r x → Happens L plain other event q y
        → AreOne r q x.state y.state
    stay_one event r q place u v h g =
        let b = old.state.table.shape.b in
        let size : other.state.table.shape.b ≡ b = ap (λ (c : Seen). c.table.shape.b) (sym same) in
        let kept = step_keeps AreTold old.state event r x.state u (told law shape K known old event r x h) in
        let held = step_keeps AreTold other.state event q y.state v (told law shape L knows other event q y g) in
        let like : y.state.table.shape ≡ old.state.table.shape = held.table.shape ∙ ap (λ (c : Seen). c.table.shape) (sym same) in
        step_one (seen_of old.state) (led_fit shape old led) (quiet b old.state) (quiet b other.state) (quiet b x.state) (quiet b y.state) refl (sym same)
        (none_here law shape K known old event r x led u h none)
        (subst (λ (n : ℕ). NoneRose (quiet_counts n other.state.counts).faults (quiet_counts n y.state.counts).faults) size (none_here law shape L knows other event q y too v g never))
        number kept.table.shape like event r q (happens_served K shape old event r x place h) (happens_served L shape other event q y place g) u v
        (saves_allowed old event r x h.allowed)
        (λ is. subst (λ (c : Seen). IsSavedWhole c q) (sym same) (saves_allowed other event q y g.allowed is))
        (quiet_told law shape K known old event r x led u h)
        (subst (λ (n : ℕ). Step AreTold (quiet n other.state) event q (quiet n y.state)) size (quiet_told law shape L knows other event q y too v g))

    -- both took boundaries out of use
    left_one : (r d s e : ℕ) → Happens K plain old Regroup (Regrouped r d) x → Happens L plain other Regroup (Regrouped s e) y
        → AreOne (Regrouped r d) (Regrouped s e) x.state y.state
    left_one r d s e h g =
        let one = is_left old.state r d x.state (told law shape K known old Regroup (Regrouped r d) x h).1 old.beneath.counts x.beneath.counts led.seated led.paired led.tied h.tied none led.ascend (lost_before old x none (h.took refl)) in
        let two = is_left other.state s e y.state (told law shape L knows other Regroup (Regrouped s e) y g).1 other.beneath.counts y.beneath.counts too.seated too.paired too.tied g.tied never too.ascend (lost_before other y never (g.took refl)) in
        one_left (seen_of old.state) r d s e x.state y.state one (subst (λ (c : Seen). IsLeft c s e y.state) (sym same) two)

    regroup_one : (r q : Reply) → Happens K plain old Regroup r x → Happens L plain other Regroup q y → AreOne r q x.state y.state
    regroup_one (Regrouped r d) (Regrouped s e) h g = left_one r d s e h g
    regroup_one (Regrouped r d) q h g =
        absurd (not_both law shape L knows other y old.state x.state r d too g.tied never (sym same) q tt (told law shape L knows other Regroup q y g) (told law shape K known old Regroup (Regrouped r d) x h))
    regroup_one r (Regrouped s e) h g =
        absurd (not_both law shape K known old x other.state y.state s e led h.tied none same r tt (told law shape K known old Regroup r x h) (told law shape L knows other Regroup (Regrouped s e) y g))
    regroup_one r q h g = stay_one Regroup r q tt tt tt h g

    happens_one : (event : Event) (r q : Reply) → IsInPlace (Some shape) event → Happens K plain old event r x → Happens L plain other event q y → AreOne r q x.state y.state
    happens_one Regroup r q place h g = regroup_one r q h g
    happens_one event r q place h g = stay_one event r q place tt tt h g

  run_one : (events : List Event) (old other x y : Moment) (r q : List Reply) → All (IsInPlace (Some shape)) events → IsLed shape old → IsLed shape other
      → seen_of old.state ≡ seen_of other.state → next_sequence old.state.label ≡ next_sequence other.state.label
      → NoneRose old.beneath.counts.faults x.beneath.counts.faults → NoneRose other.beneath.counts.faults y.beneath.counts.faults
      → History K plain old events r x → History L plain other events q y → r ≡ q
  run_one [] old other x y [] [] places led too same number none never h g = refl
  run_one [] old other x y [] (reply ∷ q) places led too same number none never h g = absurd g
  run_one [] old other x y (reply ∷ r) q places led too same number none never h g = absurd h
  run_one (event ∷ events) old other x y [] q places led too same number none never h g = absurd h
  run_one (event ∷ events) old other x y (reply ∷ r) [] places led too same number none never h g = absurd g
  run_one (event ∷ events) old other x y (reply ∷ r) (answer ∷ q) places led too same number none never h g =
      let mid = h.0 in
      let point = g.0 in
      let place = All-head (IsInPlace (Some shape)) event events places in
      let front = none_front old.beneath.counts.faults mid.beneath.counts.faults x.beneath.counts.faults (history_rises K mid events r x h.2) none in
      let back = none_back old.beneath.counts.faults mid.beneath.counts.faults x.beneath.counts.faults h.1.rise.faults none in
      let before = none_front other.beneath.counts.faults point.beneath.counts.faults y.beneath.counts.faults (history_rises L point events q y g.2) never in
      let behind = none_back other.beneath.counts.faults point.beneath.counts.faults y.beneath.counts.faults g.1.rise.faults never in
      let one = happens_one old other mid point led too same number front before event reply answer place h.1 g.1 in
      let next : next_sequence mid.state.label ≡ next_sequence point.state.label =
      step_number AreTold old.state mid.state event reply (happens_served K shape old event reply mid place h.1) (told law shape K known old event reply mid h.1)
      ∙ ap (λ (z : Reply). next_after z (next_sequence old.state.label)) one.0 ∙ ap (next_after answer) number
      ∙ sym (step_number AreTold other.state point.state event answer (happens_served L shape other event answer point place g.1) (told law shape L knows other event answer point g.1)) in
      let rest = run_one events mid point x y r q (All-tail (IsInPlace (Some shape)) event events places)
      (led_on law shape K known old event reply mid led place h.1) (led_on law shape L knows other event answer point too place g.1) one.1 next back behind h.2 g.2 in
      ap (λ (z : Reply). z ∷ r) one.0 ∙ ap (λ (zs : List Reply). answer ∷ zs) rest

-- ---- from blank arrays

blank_paired : (shape : Shape) (before : Counts) (s : State) → IsBlank shape before s → ArePaired s.members
blank_paired shape before s blank q fills = absurd (false≢true (sym whole ∙ fills))
  where
    whole : is_filling (s.members q) ≡ false
    whole = elim (cases_lt (q / 2) shape.b) [
      | inr past ↦ ap is_filling (blank.others q past)
      | inl low ↦ elim (blank.members q low) [ inl good ↦ ap is_filling good | inr out ↦ ap is_filling out.0 ]
    ]

all_ascend : (b : ℕ) → IsStrictlyIncreasing (all_live b)
all_ascend b k low =
    let long = length-range_with_len 0 b in
    omega (arith, get_or-range_with_len 0 b k 0 (omega (arith, low, long)), get_or-range_with_len 0 b (k + 1) 0 (omega (arith, low, long)))

blank_led : {K : Type 0} → BlanksAreSteady → (shape : Shape) (before : Counts) (m : Moment) → IsShape shape → (made : Makes K plain (Array shape) shape before m) → IsLed shape m
blank_led law shape before m is made = record {
  steady = law shape made.first m.state is made.is_blank;
  paired = blank_paired shape made.first m.state made.is_blank;
  lines = ap (λ (s : State). s.table.shape.l) made.is_blank.is;
  seated = blank_seated shape made.first m.state is.most_boundaries made.is_blank;
  ascend = subst IsStrictlyIncreasing (sym (ap (λ (s : State). s.live) made.is_blank.is)) (all_ascend shape.b);
  tied = made.tied;
}

-- what is seen of a blank array
blank_seen : (shape : Shape) (one other : Counts) (s t : State) → NoneRose one.faults s.counts.faults → NoneRose other.faults t.counts.faults → IsBlank shape one s → IsBlank shape other t → seen_of s ≡ seen_of t
blank_seen shape one other s t none never first second =
    let members : (q : ℕ) → s.members q ≡ t.members q = λ q. blank_at shape one s none first q ∙ sym (blank_at shape other t never second q) in
    ap seen_of first.is ∙ ap (λ (f : ℕ → MemberState). seen_of (plain_state (empty_table shape) (replicate shape.n (zeros shape.l)) f t.counts)) (λ i q. members q i) ∙ sym (ap seen_of second.is)

blank_none : {K : Type 0} (shape : Shape) (before : Counts) (m : Moment) (made : Makes K plain (Array shape) shape before m) → NoneRose before.faults m.beneath.counts.faults
    → NoneRose (quiet_counts shape.b made.first).faults (quiet_counts shape.b m.state.counts).faults
blank_none shape before m made none =
    quiet_none shape.b (all_live shape.b) before m.beneath.counts made.first m.state.counts (length-range_with_len 0 shape.b) (made.begun refl)
    (subst (λ (live : List ℕ). AreCountsOf live m.beneath.counts m.state.counts) (ap (λ (s : State). s.live) made.is_blank.is) made.tied) none

module _ (steps : StepsKeepSteady) (blanks : BlanksAreSteady) (K L : Type 0) (known : K) (knows : L) (shape : Shape) (is : IsShape shape) (events : List Event)
    (places : All (IsInPlace (Some shape)) events) (before after : Counts) where
  made_one : (r q : List Reply) (x y : Moment) → NoneRose before.faults x.beneath.counts.faults → NoneRose after.faults y.beneath.counts.faults
      → (h : HistoryOf K before (Array shape ∷ events) (Done ∷ r) x) (g : HistoryOf L after (Array shape ∷ events) (Done ∷ q) y) → r ≡ q
  made_one r q x y none never h g =
      let one = h.1 in
      let two = g.1 in
      let front = none_front before.faults h.0.beneath.counts.faults x.beneath.counts.faults (history_rises K h.0 events r x h.2) none in
      let back = none_back before.faults h.0.beneath.counts.faults x.beneath.counts.faults one.rise.faults none in
      let first = none_front after.faults g.0.beneath.counts.faults y.beneath.counts.faults (history_rises L g.0 events q y g.2) never in
      let last = none_back after.faults g.0.beneath.counts.faults y.beneath.counts.faults two.rise.faults never in
      let seen : seen_of h.0.state ≡ seen_of g.0.state =
      blank_seen shape (quiet_counts shape.b one.first) (quiet_counts shape.b two.first) (quiet shape.b h.0.state) (quiet shape.b g.0.state)
      (blank_none shape before h.0 one front) (blank_none shape after g.0 two first)
      (quiet_blank shape one.first h.0.state one.is_blank) (quiet_blank shape two.first g.0.state two.is_blank) in
      let number : next_sequence h.0.state.label ≡ next_sequence g.0.state.label =
      ap (λ (s : State). next_sequence s.label) one.is_blank.is ∙ sym (ap (λ (s : State). next_sequence s.label) two.is_blank.is) in
      run_one steps shape K L known knows events h.0 g.0 x y r q places (blank_led blanks shape before h.0 is one) (blank_led blanks shape after g.0 is two) seen number back last h.2 g.2

  from_first : (r q : List Reply) (x y : Moment) → NoneRose before.faults x.beneath.counts.faults → NoneRose after.faults y.beneath.counts.faults
      → (h : HistoryOf K before (Array shape ∷ events) (Done ∷ r) x) (g : HistoryOf L after (Array shape ∷ events) q y) → Done ∷ r ≡ q
  from_first r [] x y none never h g = absurd g
  from_first r (Done ∷ q) x y none never h g = ap (λ (l : List Reply). Done ∷ l) (made_one r q x y none never h g)
  from_first r (answer ∷ q) x y none never h g = absurd g

  pub histories_one : (r q : List Reply) (x y : Moment) → NoneRose before.faults x.beneath.counts.faults → NoneRose after.faults y.beneath.counts.faults
      → (h : HistoryOf K before (Array shape ∷ events) r x) (g : HistoryOf L after (Array shape ∷ events) q y) → r ≡ q
  histories_one [] q x y none never h g = absurd h
  histories_one (Done ∷ r) q x y none never h g = from_first r q x y none never h g
  histories_one (answer ∷ r) q x y none never h g = absurd h
