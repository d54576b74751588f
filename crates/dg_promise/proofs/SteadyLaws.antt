-- What every state keeps: the blank array has it, and each step leaves it.
use Rattle.std.proofs.Common.{◌≡◌, ◌≢◌, ◌∙◌, ℕ, suc, ◌-◌, ◌<◌, ◌≤◌, inl, inr, length, get_or, Bool, true, false, List, [], ◌∷◌, None, refl, sym, ap, subst, arith}
use Rattle.std.specs.Prelude.{All, if◌then◌else◌, replicate, take}
use Rattle.std.proofs.lemmas.Bool.{cases_Bool}
use Rattle.std.proofs.lemmas.List.{get_or_default, length-append, length-replicate}
use Rattle.std.proofs.lemmas.List.Elements.{All-replicate, All-set}
use Rattle.ufs_frames.specs.Frames.{HasWholeIndirects}
use Rattle.ufs_model.specs.Blocks.{Volume}
use Rattle.dg_model.specs.Blocks.{block_in, padded, zeros}
use Rattle.dg_model.specs.Changes.{PassesSlots, Writes, phase_after, spread_in}
use Rattle.dg_model.specs.Copies.{Spread}
use Rattle.dg_model.specs.Regroups.{left_in}
use Rattle.dg_model.specs.Homes.{Ascend}
use Rattle.dg_model.specs.Moves.{moves}
use Rattle.dg_model.specs.Plans.{targets_of}
use Rattle.dg_model.specs.Runs.{Run, Trace}
use Rattle.dg_model.specs.Shapes.{IsShape}
use Rattle.dg_model.specs.States.{Counts, IsBlank, State, is_broken}
use Rattle.dg_model.specs.Steps.{Step}
use Rattle.dg_model.specs.Tables.{IsTable, Table}
use Rattle.dg_model.specs.declared.events.Event.{Event}
use Rattle.dg_model.specs.declared.events.Event.TheVariants.{Array}
use Rattle.dg_model.specs.declared.phases.Phase.TheVariants.{Loose, Settled}
use Rattle.dg_model.specs.declared.replies.Reply.{Reply}
use Rattle.dg_model.specs.declared.replies.Reply.TheVariants.{Done}
use Rattle.dg_model.specs.declared.shapes.Shape.{Shape}
use Rattle.dg_model.proofs.PutLaws.{IsTable-empty}
use Rattle.dg_model.proofs.TableLaws.{IsSized, all_done_sized, sited_sized, spread_over_sized}
use Rattle.dg_promise.proofs.Effects.{HasEffect, KeepsPlaces, effect_of, stays_places}
use Rattle.dg_promise.proofs.Effects.HasEffect.{keeps, moves_some, passes, regroups, settles, spreads, writes}
use Rattle.dg_promise.proofs.MoveLaws.{front_moved}
use Rattle.dg_promise.proofs.OrderLaws.{Volumes, order_stays, reaped_order, spread_is, spread_order}
use Rattle.dg_promise.proofs.PlanLaws.{good_plan}
use Rattle.dg_promise.proofs.SettleLaws.{PlansAreTargets, settled_table, settles as settles_order}
use Rattle.dg_promise.proofs.RegroupSteps.{homes_ascend, sizes_stay, table_stays}
use Rattle.dg_promise.proofs.ThinLaws.{reaped_table, sited_table}
use Rattle.dg_promise.specs.Promises.{AreTold}
use Rattle.dg_promise.specs.Steady.{FitsBlock, IsSteady}

-- the blocks have their size
abbrev HaveSize : Table → Volume → Type 0
HaveSize table blocks = All (λ block. length block ≡ table.shape.l) blocks

padded_length : (l : ℕ) (bytes : List ℕ) → length bytes ≤ l → length (padded l bytes) ≡ l
padded_length l bytes few =
    let zeros : length (replicate (l - length bytes) 0) ≡ l - length bytes = length-replicate {A = ℕ} (l - length bytes) 0 in
    omega (arith, length-append {A = ℕ} bytes (replicate (l - length bytes) 0), zeros)

-- ---- places stay

kept_steady : (old new : State) → KeepsPlaces old new → IsSteady old → IsSteady new
kept_steady old new kept steady = record {
  sites = subst IsTable (sym kept.table) steady.sites;
  size = subst (λ (table : Table). HaveSize table new.blocks) (sym kept.table) (subst (λ (v : Volume). HaveSize old.table v) (sym kept.blocks) steady.size);
  homes = subst Ascend (sym kept.homes) steady.homes;
  no_copies = λ other. kept.copies ∙ steady.no_copies (λ is. other (kept.phase ∙ is));
  settled = λ is. order_stays AreTold old new kept (steady.settled (sym kept.phase ∙ is));
}

-- ---- a write

loose_or_worn : (broken : Bool) → phase_after broken ≢ Settled
loose_or_worn true is = cc
loose_or_worn false is = cc

written_steady : (old : State) (b : ℕ) (bytes : List ℕ) (new : State) → length bytes ≤ old.table.shape.l → b < old.table.shape.n → Writes AreTold old b bytes new → IsSteady old → IsSteady new
written_steady old b bytes new few low h steady =
    let blocks = ap (λ (state : State). state.blocks) h.rest in
    let homes = ap (λ (state : State). state.homes) h.rest in
    let phase = ap (λ (state : State). state.phase) h.rest in
    let shape : new.table.shape ≡ old.table.shape = (sited_sized old.table b new.table h.sited).shape in
    record {
      sites = sited_table old.table b new.table steady.sites low h.sited;
      size = subst (λ (x : Shape). All (λ block. length block ≡ x.l) new.blocks) (sym shape)
          (subst (λ (v : Volume). HaveSize old.table v) (sym blocks)
          (All-set (λ block. length block ≡ old.table.shape.l) old.blocks b (padded old.table.shape.l bytes) (padded_length old.table.shape.l bytes few) steady.size));
      homes = subst Ascend (sym homes) steady.homes;
      no_copies = λ other. ap (λ (state : State). state.copies) h.rest;
      settled = λ is. absurd (loose_or_worn (is_broken new) (sym phase ∙ is));
    }

-- ---- reaping

passed_size : (old : State) (s low high : ℕ) (new : State) → PassesSlots AreTold old s low high new → HaveSize old.table old.blocks → HaveSize new.table new.blocks
passed_size old s low high new h size = λ k d below.
    let inside : k < length old.blocks = let count = h.reaps.count in omega arith in
    let here : get_or new.blocks k d ≡ block_in new.blocks k = get_or_default new.blocks k d [] below in
    let value = h.reaps.values k in
    let length_is : length (block_in new.blocks k) ≡ old.table.shape.l = elim (cases_Bool (h.reaped k)) [
      | inl reap ↦ ap length (value ∙ ap (λ (reap : Bool). if reap then zeros old.table.shape.l else block_in old.blocks k) reap) ∙ length-replicate old.table.shape.l 0
      | inr stays ↦ ap length (value ∙ ap (λ (reap : Bool). if reap then zeros old.table.shape.l else block_in old.blocks k) stays) ∙ size k [] inside
    ] in
    ap length here ∙ length_is ∙ ap (λ (x : Shape). x.l) (sym h.reaps.shape)

-- ---- all effects

module _ (facts : Volumes) (plans : PlansAreTargets) (whole : (l n : ℕ) (v : Volume) → All (λ block. length block ≡ l) v → HasWholeIndirects l n v) where
  by_effect : (old : State) (event : Event) (new : State) → FitsBlock old.table.shape.l event → IsSteady old → HasEffect AreTold old event new → IsSteady new
  by_effect old event new fits steady (keeps kept) = kept_steady old new kept steady
  by_effect old event new fits steady (writes b bytes is low h) = written_steady old b bytes new (fits b bytes is) low h steady
  by_effect old event new fits steady (passes s low high h) =
      let homes = ap (λ (state : State). state.homes) h.rest in
      let copies = ap (λ (state : State). state.copies) h.rest in
      let phase = ap (λ (state : State). state.phase) h.rest in
      record {
        sites = reaped_table old.table new.table old.blocks new.blocks s low high h.reaped steady.sites h.reaps;
        size = passed_size old s low high new h steady.size;
        homes = subst Ascend (sym homes) steady.homes;
        no_copies = λ other. copies ∙ steady.no_copies (λ is. other (phase ∙ is));
        settled = λ is. reaped_order facts AreTold tt old s low high new (whole old.table.shape.l old.table.shape.n old.blocks steady.size) h (steady.settled (sym phase ∙ is));
      }
  by_effect old event new fits steady (spreads count gained settled h) =
      let homes = ap (λ (state : State). state.homes) h.rest in
      let blocks = ap (λ (state : State). state.blocks) h.rest in
      let phase = ap (λ (state : State). state.phase) h.rest in
      let order = steady.settled settled in
      let is = spread_is facts AreTold tt old count gained new steady.sites h order in
      record {
        sites = is.ok;
        size = subst (λ (x : Shape). All (λ block. length block ≡ x.l) new.blocks) (sym is.same) (subst (λ (v : Volume). HaveSize old.table v) (sym blocks) steady.size);
        homes = subst Ascend (sym homes) steady.homes;
        no_copies = λ other. absurd (other (phase ∙ settled));
        settled = λ still. spread_order facts AreTold tt old count gained new steady.sites h order;
      }
  by_effect old event new fits steady (settles unsettled h) =
      let homes = ap (λ (state : State). state.homes) h.rest in
      let blocks = ap (λ (state : State). state.blocks) h.rest in
      let phase = ap (λ (state : State). state.phase) h.rest in
      let table = settled_table plans AreTold old new steady.sites h in
      let shape = (subst (λ (t : Table). IsSized old.table t) (sym (ap (λ (state : State). state.table) h.rest)) (all_done_sized (moves (targets_of old.table.shape h.wants h.found) None old.table) old.table)).shape in
      record {
        sites = table;
        size = subst (λ (x : Shape). All (λ block. length block ≡ x.l) new.blocks) (sym shape) (subst (λ (v : Volume). HaveSize old.table v) (sym blocks) steady.size);
        homes = subst Ascend (sym homes) (good_plan old.table.shape h.wants h.planned.parents old.homes h.found steady.homes h.planned.is).1;
        no_copies = λ other. absurd (other phase);
        settled = λ is. settles_order plans AreTold old new steady.sites steady.homes (steady.no_copies unsettled) h;
      }
  by_effect old event new fits steady (moves_some unsettled h) =
      let homes = ap (λ (state : State). state.homes) h.others in
      let copies = ap (λ (state : State). state.copies) h.others in
      let blocks = ap (λ (state : State). state.blocks) h.others in
      let phase = ap (λ (state : State). state.phase) h.others in
      let shape = (subst (λ (t : Table). IsSized old.table t) (sym h.led) (all_done_sized h.front old.table)).shape in
      record {
        sites = front_moved h.targets h.limit old.table new.table h.front h.rest steady.sites h.whole h.led;
        size = subst (λ (x : Shape). All (λ block. length block ≡ x.l) new.blocks) (sym shape) (subst (λ (v : Volume). HaveSize old.table v) (sym blocks) steady.size);
        homes = subst Ascend (sym homes) steady.homes;
        no_copies = λ other. copies ∙ steady.no_copies unsettled;
        settled = λ is. absurd (unsettled (sym phase ∙ is));
      }
  by_effect old event new fits steady (regroups r c is h) =
      let mid = kept_steady old h.mid (stays_places old h.mid h.opened) steady in
      subst IsSteady (sym h.rest) (record {
        sites = table_stays h.mid mid.sites h.enough;
        size = sizes_stay h.mid h.counts mid.size;
        homes = homes_ascend (left_in h.mid) h.mid.copies h.mid.homes mid.homes;
        no_copies = λ other. refl;
        settled = λ is. absurd (loose_or_worn (is_broken new) is);
      })

  pub step_steady : (old : State) (event : Event) (reply : Reply) (new : State) → FitsBlock old.table.shape.l event → IsSteady old → Step AreTold old event reply new → IsSteady new
  step_steady old event reply new fits steady step = by_effect old event new fits steady (effect_of AreTold old event reply new step)

-- ---- the bytes of a block

pub same_l : (Known : Type 0) (old : State) (event : Event) (new : State) → HasEffect Known old event new → new.table.shape.l ≡ old.table.shape.l
same_l Known old event new (keeps kept) = ap (λ (table : Table). table.shape.l) kept.table
same_l Known old event new (writes b bytes is low h) = ap (λ (x : Shape). x.l) (sited_sized old.table b new.table h.sited).shape
same_l Known old event new (passes s low high h) = ap (λ (x : Shape). x.l) h.reaps.shape
same_l Known old event new (spreads count gained settled h) =
    ap (λ (x : Shape). x.l) (subst (λ (t : Table). IsSized old.table t) (sym (ap (λ (spread : Spread). spread.table) h.spread))
    (spread_over_sized h.wants old.homes (take count old.recent) (spread_in old))).shape
same_l Known old event new (settles unsettled h) =
    ap (λ (x : Shape). x.l) (subst (λ (t : Table). IsSized old.table t) (sym (ap (λ (state : State). state.table) h.rest))
    (all_done_sized (moves (targets_of old.table.shape h.wants h.found) None old.table) old.table)).shape
same_l Known old event new (moves_some unsettled h) = ap (λ (x : Shape). x.l) (subst (λ (t : Table). IsSized old.table t) (sym h.led) (all_done_sized h.front old.table)).shape
same_l Known old event new (regroups r c is h) = ap (λ (state : State). state.table.shape.l) h.rest ∙ ap (λ (state : State). state.table.shape.l) h.opened.rest

-- ---- the blank array

pub blank_steady : (shape : Shape) (before : Counts) (state : State) → IsShape shape → IsBlank shape before state → IsSteady state
blank_steady shape before state is blank = subst IsSteady (sym blank.is) (record {
  sites = IsTable-empty shape is;
  size = All-replicate (λ block. length block ≡ shape.l) shape.n (zeros shape.l) (length-replicate shape.l 0);
  homes = λ k low. absurd (omega arith);
  no_copies = λ other. refl;
  settled = λ (no : Loose ≡ Settled). cc;
})

-- ---- runs

-- each step of a steady array leaves it steady
abbrev pub StepsStaySteady : Type 0
StepsStaySteady = (old : State) (event : Event) (reply : Reply) (new : State) → FitsBlock old.table.shape.l event → IsSteady old → Step AreTold old event reply new → IsSteady new

module _ (stays : StepsStaySteady) where
  pub run_steady : (l : ℕ) (old : State) (events : List Event) (replies : List Reply) (new : State) → old.table.shape.l ≡ l → All (FitsBlock l) events → IsSteady old
      → Run AreTold old events replies new → IsSteady new
  run_steady l old [] [] new same fit steady is = subst IsSteady (sym is) steady
  run_steady l old (event ∷ events) (reply ∷ replies) new same fit steady (mid, step, more) =
      let fits = subst (λ (k : ℕ). FitsBlock k event) (sym same) (fit 0 event (omega arith)) in
      let size : mid.table.shape.l ≡ l = same_l AreTold old event mid (effect_of AreTold old event reply mid step) ∙ same in
      run_steady l mid events replies new size (λ k d low. fit (suc k) d (omega arith)) (stays old event reply mid fits steady step) more
  run_steady l old [] (reply ∷ replies) new same fit steady none = absurd none
  run_steady l old (event ∷ events) [] new same fit steady none = absurd none

module _ (facts : Volumes) (plans : PlansAreTargets) (whole : (l n : ℕ) (v : Volume) → All (λ block. length block ≡ l) v → HasWholeIndirects l n v) where
  pub trace_steady : (before : Counts) (shape : Shape) (events : List Event) (replies : List Reply) (new : State) → IsShape shape → All (FitsBlock shape.l) events
      → Trace AreTold before (Array shape ∷ events) (Done ∷ replies) new → IsSteady new
  trace_steady before shape events replies new is fit (blank, made, run) =
      let size : blank.table.shape.l ≡ shape.l = ap (λ (state : State). state.table.shape.l) made.is in
      run_steady (step_steady facts plans whole) shape.l blank events replies new size fit (blank_steady shape before blank is made) run
