-- Where all boundaries of an array are in use, its members hold its state by their own numbers.
use Rattle.std.proofs.Common.{◌≡◌, ◌<◌, ◌/◌, ◌∙◌, inl, inr, ℕ, true, List, length, sym, ap, subst, arith}
use Rattle.std.specs.Prelude.{IfSome, Option, Some, None, take}
use Rattle.std.proofs.lemmas.Bool.{cases_lt, false≢true, or_left, or_right}
use Rattle.std.proofs.lemmas.List.Elements.{All-weaker}
use Rattle.dg_model.specs.Blocks.{block_in, zeros}
use Rattle.dg_model.specs.Members.{SlotHolds, SlotOf, serves}
use Rattle.dg_model.specs.Saves.{BeginsWith, HasBody, HasLength}
use Rattle.dg_model.specs.Seals.{HoldsLabel, LastLabel, label_on}
use Rattle.dg_model.specs.States.{HoldsAll, State}
use Rattle.dg_model.specs.Tables.{sites_in}
use Rattle.dg_model.specs.declared.members.MemberState.{MemberState}
use Rattle.dg_model.specs.declared.sites.Site.{Site}
use Rattle.dg_run.specs.Replays.{HoldsInUse}
use Rattle.dg_uses.proofs.Seated.{IsSeated, marks_label}

module _ (seen bytes : ℕ → Option (List ℕ)) (same : (q : ℕ) → q < 32 → seen q ≡ bytes q) where
  label_held : (label : Option LastLabel) → ((q : ℕ) → marks_label label q ≡ true → q < 32) → IfSome label (λ last. HoldsLabel last seen)
      → IfSome label (λ last. HoldsLabel last bytes)
  label_held None low h = tt
  label_held (Some last) low h = record {
    label = λ q keeps. subst (λ (o : Option (List ℕ)). IfSome o (λ all. BeginsWith all (label_on last q))) (same q (low q (or_left (last.keepers q) (last.bodies q) keeps))) (h.label q keeps);
    body = λ q has sealed. subst (λ (o : Option (List ℕ)). IfSome o (λ all. HasBody all last.shape last.body)) (same q (low q (or_right (last.keepers q) (last.bodies q) has))) (h.body q has sealed);
  }

  sizes_held : (label : Option LastLabel) → ((q : ℕ) → marks_label label q ≡ true → q < 32)
      → IfSome label (λ last. (q : ℕ) → last.keepers q ≡ true → IfSome (seen q) (λ all. HasLength (label_on last q) (length all)))
      → IfSome label (λ last. (q : ℕ) → last.keepers q ≡ true → IfSome (bytes q) (λ all. HasLength (label_on last q) (length all)))
  sizes_held None low h = tt
  sizes_held (Some last) low h =
      λ q keeps. subst (λ (o : Option (List ℕ)). IfSome o (λ all. HasLength (label_on last q) (length all))) (same q (low q (or_left (last.keepers q) (last.bodies q) keeps))) (h q keeps)

pub holds_whole : (bytes : ℕ → Option (List ℕ)) (state : State) → IsSeated state → length state.live ≡ state.boundaries → HoldsInUse bytes state → HoldsAll bytes state
holds_whole bytes state seat all h = record {
  blocks = record {
    size = h.holds.blocks.size;
    blank = h.holds.blocks.blank;
    held = λ b low. All-weaker (held_at h.seen b) (held_at bytes b) (each b) (sites_in state.table b) (h.holds.blocks.held b low);
  };
  label = label_held h.seen bytes same state.label (λ q marked. small q (seat.kept q marked)) h.holds.label;
  sizes = λ whole. sizes_held h.seen bytes same state.label (λ q marked. small q (seat.kept q marked)) (h.holds.sizes whole);
  fresh = λ q low here none. subst (λ (o : Option (List ℕ)). IfSome o (λ all. take 512 all ≡ zeros 512)) (same q (small q low)) (h.holds.fresh q low here none);
}
  where
    same : (q : ℕ) → q < 32 → h.seen q ≡ bytes q
    same = h.whole all

    small : (q : ℕ) → q / 2 < state.table.shape.b → q < 32
    small q low = omega (arith, low, seat.size, seat.few, seat.most)

    held_at : (ℕ → Option (List ℕ)) → ℕ → Site → Type 0
    held_at found b site = SlotHolds state.table.shape.l state.members found site.boundary site.slot (block_in state.blocks b)

    -- a member that serves a slot is there
    serving : (q slot : ℕ) → serves (state.members q) slot ≡ true → q < 32
    serving q slot served = elim (cases_lt (q / 2) state.table.shape.b) [
      | inl low ↦ small q low
      | inr past ↦ absurd (false≢true (sym (ap (λ (m : MemberState). serves m slot) (seat.out q past)) ∙ served))
    ]

    each : (b : ℕ) (site : Site) → held_at h.seen b site → held_at bytes b site
    each b site held q at served =
        subst (λ (o : Option (List ℕ)). SlotOf state.table.shape.l site.slot (block_in state.blocks b) o) (same q (serving q site.slot served)) (held q at served)
