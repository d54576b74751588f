-- What a step does to the blocks, their places and the homes of files: one of seven things.
use Rattle.std.proofs.Common.{◌≡◌, ◌≢◌, ◌∙◌, ℕ, ◌<◌, inl, inr, length, List, [], ◌++◌, Option, Some, None, Bool, refl, sym, ap, subst}
use Rattle.std.proofs.lemmas.List.{append-nil}
use Rattle.dg_model.specs.Changes.{IsCut, PassesSlots, Settles, Spreads, Stays, Tends, Writes}
use Rattle.dg_model.specs.Moves.{Action, all_done, moves}
use Rattle.dg_model.specs.Plans.{targets_of}
use Rattle.dg_model.specs.Regroups.{Regroups}
use Rattle.dg_model.specs.States.{State, after_calls, place_of}
use Rattle.dg_model.specs.Steps.{Handles, Step}
use Rattle.dg_model.specs.declared.events.Event.{Event}
use Rattle.dg_model.specs.declared.events.Event.TheVariants.{Write, Read, Fail, Replace, Rebuild, Settle, Tend, Diffuse, Who, Pending, Cat, Ls, Tree, Home, Save, Regroup, LostFiles, Audit, DropDisk, MendDisk}
use Rattle.dg_model.specs.declared.phases.Phase.TheVariants.{Settled}
use Rattle.dg_model.specs.declared.replies.Reply.{Reply}
use Rattle.dg_model.specs.declared.replies.Reply.TheVariants.{Done, Range, Degraded, Unavailable, Already, Lost, NotOut, Failed, NotFilling, Copied, Settled as SettledReply, Malformed, NoSpace, Tended, Diffused, NotSettled, Verdict, Blocks, Data, Given, Cut, Listed, ListedCut, Nodes, NodesCut, Refused, HomeAt, NoHome, Saved, NotSaved, Whole, TooFew, Regrouped, LostFiles as LostFilesReply, LostFilesCut, Audited, NotParity, Mended}

-- blocks, their places, the homes of files and the phase stay
pub record KeepsPlaces (old new : State) : Type 0 where
  pub table : new.table ≡ old.table
  pub blocks : new.blocks ≡ old.blocks
  pub homes : new.homes ≡ old.homes
  pub copies : new.copies ≡ old.copies
  pub phase : new.phase ≡ old.phase
  pub cut : new.cut ≡ old.cut

pub same_places : (old new : State) → new ≡ old → KeepsPlaces old new
same_places old new is = record {
  table = ap (λ (s : State). s.table) is;
  blocks = ap (λ (s : State). s.blocks) is;
  homes = ap (λ (s : State). s.homes) is;
  copies = ap (λ (s : State). s.copies) is;
  phase = ap (λ (s : State). s.phase) is;
  cut = ap (λ (s : State). s.cut) is;
}

-- the new state is another one, which keeps places
places_of_other : (old other new : State) → new ≡ other → KeepsPlaces old other → KeepsPlaces old new
places_of_other old other new is keeps = subst (KeepsPlaces old) (sym is) keeps

pub stays_places : (old new : State) → Stays old new → KeepsPlaces old new
stays_places old new stays = places_of_other old (after_calls old new) new stays.rest (record { table = refl; blocks = refl; homes = refl; copies = refl; phase = refl; cut = refl })

-- some of the actions of moves were done
pub record Moves (old new : State) : Type 0 where
  pub targets : ℕ → ℕ → Bool
  pub limit : Option ℕ
  pub front : List Action
  pub rest : List Action
  pub whole : moves targets limit old.table ≡ front ++ rest
  pub led : new.table ≡ all_done old.table front
  pub others : new ≡ record (after_calls old new) { table = new.table }

-- what a step does
pub data HasEffect (Known : Type 0) (old : State) (event : Event) (new : State) : Type 0 where
  keeps : KeepsPlaces old new → HasEffect Known old event new
  writes : (b : ℕ) (bytes : List ℕ) → event ≡ Write b bytes → b < old.table.shape.n → Writes Known old b bytes new → HasEffect Known old event new
  passes : (s low high : ℕ) → PassesSlots Known old s low high new → HasEffect Known old event new
  spreads : (count gained : ℕ) → old.phase ≡ Settled → Spreads Known old count gained new → HasEffect Known old event new
  settles : old.phase ≢ Settled → Settles Known old new → HasEffect Known old event new
  moves_some : old.phase ≢ Settled → Moves old new → HasEffect Known old event new
  regroups : (r c : ℕ) → event ≡ Regroup → Regroups Known old r c new → HasEffect Known old event new

cut_moves : (Known : Type 0) (old : State) (limit : Option ℕ) (new : State) → IsCut Known old limit new → Moves old new
cut_moves Known old limit new h = record {
  targets = targets_of old.table.shape h.wants h.found;
  limit = limit;
  front = h.cut.cut.front;
  rest = h.cut.cut.rest;
  whole = h.cut.cut.whole;
  led = h.cut.cut.led;
  others = h.rest;
}

tend_moves : (Known : Type 0) (old : State) (n m l : ℕ) (new : State) → Tends Known old n m l new → Moves old new
tend_moves Known old n m l new h =
    let table = ap (λ (s : State). s.table) h.rest in
    record {
      targets = targets_of old.table.shape h.wants h.found;
      limit = Some n;
      front = moves (targets_of old.table.shape h.wants h.found) (Some n) old.table;
      rest = [];
      whole = sym (append-nil (moves (targets_of old.table.shape h.wants h.found) (Some n) old.table));
      led = table;
      others = h.rest ∙ ap (λ t. record (after_calls old new) { table = t }) (sym table);
    }

module _ (Known : Type 0) where
  same : (old : State) (event : Event) (new : State) → new ≡ old → HasEffect Known old event new
  same old event new is = keeps (same_places old new is)

  remains : (old : State) (event : Event) (new : State) → Stays old new → HasEffect Known old event new
  remains old event new is = keeps (stays_places old new is)

  other : (old : State) (event : Event) (x new : State) → new ≡ x → KeepsPlaces old x → HasEffect Known old event new
  other old event x new is kept = keeps (places_of_other old x new is kept)

  handled : (old : State) (event : Event) (s : ℕ) (new : State) → Handles old s new → HasEffect Known old event new
  handled old event s new h = other old event _ new h.rest (record { table = refl; blocks = refl; homes = refl; copies = refl; phase = refl; cut = refl })

  pub effect_of : (old : State) (event : Event) (reply : Reply) (new : State) → Step Known old event reply new → HasEffect Known old event new
  effect_of old (Write b bytes) Range new h = same old (Write b bytes) new h.1
  effect_of old (Write b bytes) Degraded new h = elim h.1 [ inl was ↦ same old (Write b bytes) new was.1 | inr now ↦ remains old (Write b bytes) new now.3 ]
  effect_of old (Write b bytes) Done new h = writes b bytes refl h.0 h.2
  effect_of old (Read b) Range new h = same old (Read b) new h.1
  effect_of old (Read b) Unavailable new h = remains old (Read b) new h.3
  effect_of old (Read b) (Data bytes) new h = remains old (Read b) new h.5
  effect_of old (Fail s j) Range new h = same old (Fail s j) new h.1
  effect_of old (Fail s j) Already new h = same old (Fail s j) new h.2
  effect_of old (Fail s j) Done new h = other old (Fail s j) _ new h.2.rest (record { table = refl; blocks = refl; homes = refl; copies = refl; phase = refl; cut = refl })
  effect_of old (Replace s j) Range new h = same old (Replace s j) new h.1
  effect_of old (Replace s j) (Lost t) new h = elim h.3 [ inl was ↦ same old (Replace s j) new was.1 | inr now ↦ remains old (Replace s j) new now.2 ]
  effect_of old (Replace s j) NotOut new h = same old (Replace s j) new h.2
  effect_of old (Replace s j) Failed new h = other old (Replace s j) (after_calls old new) new h.3.rest (record { table = refl; blocks = refl; homes = refl; copies = refl; phase = refl; cut = refl })
  effect_of old (Replace s j) Done new h = other old (Replace s j) (after_calls old new) new h.3.rest (record { table = refl; blocks = refl; homes = refl; copies = refl; phase = refl; cut = refl })
  effect_of old (Rebuild s n) Range new h = same old (Rebuild s n) new h.1
  effect_of old (Rebuild s n) (Lost t) new h =
      elim h.2 [ inl was ↦ same old (Rebuild s n) new was.1 | inr now ↦ passes (place_of old s) now.2.low now.2.high now.2.slots ]
  effect_of old (Rebuild s n) NotFilling new h = same old (Rebuild s n) new h.3
  effect_of old (Rebuild s n) Failed new h = passes (place_of old s) h.3.low h.3.high h.3.slots
  effect_of old (Rebuild s n) (Copied d l) new h = passes (place_of old s) h.2.low h.2.high h.2.slots
  effect_of old Settle (Lost s) new h = elim h [
    | inl was ↦ same old Settle new was.1
    | inr now ↦ elim now.2 [ inl still ↦ remains old Settle new still | inr cut ↦ moves_some now.1 (cut_moves Known old None new cut.1) ]
  ]
  effect_of old Settle SettledReply new h = elim h.1 [ inl was ↦ same old Settle new was.1 | inr now ↦ settles now.0 now.2 ]
  effect_of old Settle (Malformed kind n) new h = remains old Settle new h.3.stays
  effect_of old Settle (NoSpace bad) new h = remains old Settle new h.4.stays
  effect_of old (Tend n) (Lost s) new h = elim h [
    | inl was ↦ same old (Tend n) new was.1
    | inr now ↦ elim now.2 [ inl still ↦ remains old (Tend n) new still | inr cut ↦ moves_some now.1 (cut_moves Known old (Some n) new cut) ]
  ]
  effect_of old (Tend n) (Tended m l) new h = elim h.1 [ inl was ↦ same old (Tend n) new was.3 | inr now ↦ moves_some now.0 (tend_moves Known old n m l new now.2) ]
  effect_of old (Tend n) (NoSpace bad) new h = remains old (Tend n) new h.3.stays
  effect_of old Diffuse NotSettled new h = same old Diffuse new h.1
  effect_of old Diffuse (Lost s) new h =
      elim h.1 [ inl was ↦ same old Diffuse new was.1 | inr now ↦ spreads now.1.0 now.1.1 h.0 now.1.2 ]
  effect_of old Diffuse (Diffused gained) new h = spreads (length old.recent) gained h.0 h.3
  effect_of old (Who b) Range new h = same old (Who b) new h.1
  effect_of old (Who b) Unavailable new h = same old (Who b) new h.2
  effect_of old (Who b) (Verdict who) new h = same old (Who b) new h.3
  effect_of old Pending (Blocks blocks) new h = same old Pending new h.1
  effect_of old (Cat path) (Given lines) new h = other old (Cat path) _ new h.2.rest (record { table = refl; blocks = refl; homes = refl; copies = refl; phase = refl; cut = refl })
  effect_of old (Cat path) (Refused refusal) new h = remains old (Cat path) new h.1
  effect_of old (Cat path) Unavailable new h = remains old (Cat path) new h.1
  effect_of old (Cat path) (Cut lines) new h = remains old (Cat path) new h.3
  effect_of old (Ls path) (Listed entries) new h = remains old (Ls path) new h.1
  effect_of old (Ls path) (Refused refusal) new h = remains old (Ls path) new h.1
  effect_of old (Ls path) Unavailable new h = remains old (Ls path) new h.1
  effect_of old (Ls path) (ListedCut entries) new h = remains old (Ls path) new h.2
  effect_of old Tree NotSettled new h = same old Tree new h.1
  effect_of old Tree (Nodes entries) new h = remains old Tree new h.2
  effect_of old Tree (Refused refusal) new h = remains old Tree new h.2
  effect_of old Tree Unavailable new h = remains old Tree new h.2
  effect_of old Tree (NodesCut entries) new h = remains old Tree new h.3
  effect_of old (Home path) NotSettled new h = same old (Home path) new h.1
  effect_of old (Home path) (HomeAt s copy) new h = remains old (Home path) new h.2
  effect_of old (Home path) NoHome new h = remains old (Home path) new h.2
  effect_of old (Home path) (Refused refusal) new h = remains old (Home path) new h.2
  effect_of old (Home path) Unavailable new h = remains old (Home path) new h.2
  effect_of old Save (Lost s) new h = other old Save _ new h.1.rest (record { table = refl; blocks = refl; homes = refl; copies = refl; phase = refl; cut = refl })
  effect_of old Save (Saved sequence) new h = other old Save _ new h.rest (record { table = refl; blocks = refl; homes = refl; copies = refl; phase = refl; cut = refl })
  effect_of old Save NotSaved new h = same old Save new h.1
  effect_of old Regroup Whole new h = same old Regroup new h.1
  effect_of old Regroup TooFew new h = remains old Regroup new h.3
  effect_of old Regroup (Regrouped r c) new h = regroups r c refl h.1
  effect_of old LostFiles NotSettled new h = same old LostFiles new h.1
  effect_of old LostFiles (LostFilesReply lost) new h = remains old LostFiles new h.2
  effect_of old LostFiles (Refused refusal) new h = remains old LostFiles new h.2
  effect_of old LostFiles Unavailable new h = remains old LostFiles new h.2
  effect_of old LostFiles (LostFilesCut lost) new h = remains old LostFiles new h.3
  effect_of old Audit (Audited findings) new h = remains old Audit new h.1
  effect_of old Audit Unavailable new h = remains old Audit new h.1
  effect_of old (DropDisk s j) NotParity new h = same old (DropDisk s j) new h
  effect_of old (DropDisk s j) Range new h = same old (DropDisk s j) new h
  effect_of old (DropDisk s j) Already new h = same old (DropDisk s j) new h
  effect_of old (DropDisk s j) Done new h = handled old (DropDisk s j) s new h.1
  effect_of old (MendDisk s j) NotParity new h = same old (MendDisk s j) new h
  effect_of old (MendDisk s j) Range new h = same old (MendDisk s j) new h
  effect_of old (MendDisk s j) (Lost t) new h = elim h.2 [ inl was ↦ same old (MendDisk s j) new was.1 | inr now ↦ handled old (MendDisk s j) s new now.2 ]
  effect_of old (MendDisk s j) NotOut new h = same old (MendDisk s j) new h.1
  effect_of old (MendDisk s j) Failed new h = handled old (MendDisk s j) s new h.2
  effect_of old (MendDisk s j) (Mended c) new h = handled old (MendDisk s j) s new h.2
  effect_of old event reply new h = absurd h
