-- Steps of a drill's volume, one after another, and its writes.
use Rattle.std.proofs.Common.{◌≡◌, ◌∙◌, ◌<◌, ◌≤◌, ◌+◌, ◌/◌, ◌++◌, ℕ, suc, List, [], ◌∷◌, get_or, length, take, drop, refl, sym, ap, subst, inl, inr, arith}
use Rattle.std.specs.Prelude.{None, false}
use Rattle.std.proofs.Math.Seq.{drop-cons}
use Rattle.std.proofs.lemmas.List.{drop_all, map_push, take_all, take_more}
use Rattle.dg_drill.proofs.OrderLaws.{apart_drop}
use Rattle.dg_drill.proofs.WriteCounts.{write_counted}
use Rattle.dg_drill.specs.Chains.{AreApart, AreUnwritten, HasAnswered, HasWritten, IsIn, LedTo, Steps}
use Rattle.dg_io.specs.declared.outside.Rack.{Ghosts}
use Rattle.dg_model.proofs.KnownLaws.{run_less}
use Rattle.dg_model.proofs.RunLaws.{run_push}
use Rattle.dg_model.specs.Blocks.{stripped}
use Rattle.dg_model.specs.Runs.{Run}
use Rattle.dg_model.specs.Sites.{has_site}
use Rattle.dg_model.specs.States.{State}
use Rattle.dg_model.specs.Steps.{Step}
use Rattle.dg_model.specs.Tables.{sites_in}
use Rattle.dg_model.specs.declared.events.Event.{Event}
use Rattle.dg_model.specs.declared.events.Event.TheVariants.{Write}
use Rattle.dg_model.specs.declared.replies.Reply.{Reply}
use Rattle.dg_model.specs.declared.shapes.Shape.{Shape}
use Rattle.dg_trace.specs.Traces.{write_of, writes_of}
use Rattle.dg_volume.specs.Origins.{Always}
use Rattle.dg_volume.specs.Origins.Origin.{nothing}
use Rattle.dg_volume.specs.HeldLaws.{own_still, own_then}
use Rattle.dg_volume.specs.Volumes.{IsWell, Known, Leaves, StandsIn, StepsBy, any_phase, rack_of, shape_of, table_of}
use Rattle.dg_volume.specs.declared.phases.AnyPhase.{AnyPhase}
use Rattle.dg_volume.specs.declared.volumes.Volume.{Volume}
use Rattle.ufs_build.specs.Traces.{block_in}

-- runs, one after the other
pub run_both : (Known : Type 0) (old mid new : State) (events others : List Event) (replies further : List Reply) → Run Known old events replies mid
    → Run Known mid others further new → Run Known old (events ++ others) (replies ++ further) new
run_both Known old mid new [] others [] further one other = subst (λ (s : State). Run Known s others further new) one other
run_both Known old mid new [] others (reply ∷ replies) further one other = absurd one
run_both Known old mid new (event ∷ events) others [] further one other = absurd one
run_both Known old mid new (event ∷ events) others (reply ∷ replies) further one other =
    (one.0, one.1, run_both Known one.0 mid new events others replies further one.2 other)

module _ {R : Type 0} (rack : Ghosts R) where
  -- ---- what calls leave

  pub leaves_none : (v : Volume AnyPhase R) → IsWell any_phase rack v → Leaves any_phase any_phase rack v v
  leaves_none v well = record {
    well = well;
    shape = refl;
    boundaries = refl;
    live = refl;
    line = refl;
    rise = record { faults = λ q. omega arith; calls = omega arith; writes = omega arith };
    tells = λ q told. told;
    told_before = λ q told. told;
    own = own_still rack v;
    same_rack = refl;
  }

  pub leaves_both : (a b c : Volume AnyPhase R) → Leaves any_phase any_phase rack a b → Leaves any_phase any_phase rack b c → Leaves any_phase any_phase rack a c
  leaves_both a b c one other = record {
    well = other.well;
    shape = other.shape ∙ one.shape;
    boundaries = other.boundaries ∙ one.boundaries;
    live = other.live ∙ one.live;
    line = other.line ∙ one.line;
    rise = record {
      faults = λ q. let early = one.rise.faults q in let late = other.rise.faults q in omega arith;
      calls = omega (arith, one.rise.calls, other.rise.calls);
      writes = omega (arith, one.rise.writes, other.rise.writes);
    };
    tells = λ q told. one.tells q (other.tells q told);
    told_before = λ q told. one.told_before q (other.told_before q told);
    own = own_then rack (shape_of a) (shape_of b) (rack_of a) (rack_of b) (rack_of c) one.shape one.own other.own;
    same_rack = other.same_rack ∙ one.same_rack;
  }

  -- what is told in the end was told before
  pub told_before : (a b : Volume AnyPhase R) → Leaves any_phase any_phase rack a b → Known Always rack b → Known Always rack a
  told_before a b leaves known = (λ q below. leaves.told_before q (known.0 q (subst (λ (s : Shape). q / 2 < s.b) (sym leaves.shape) below)), known.1)

  -- a step, whatever it changed of what was read last
  pub steps_of : (touch : List ℕ → List ℕ) (a b : Volume AnyPhase R) (event : Event) (reply : Reply) → StepsBy any_phase any_phase rack touch a event reply b → Steps rack a event reply b
  steps_of touch a b event reply steps state st = let one = steps nothing state st in (one.0, one.1, one.2)

  -- ---- chains

  pub led_none : (v : Volume AnyPhase R) (state : State) → StandsIn any_phase rack Always v state → LedTo rack state [] [] v state
  led_none v state stands = record { stands = stands; run = refl }

  pub led_more : (a b : Volume AnyPhase R) (state mid next : State) (events : List Event) (replies : List Reply) (event : Event) (reply : Reply)
      → Leaves any_phase any_phase rack a b → LedTo rack state events replies a mid → StandsIn any_phase rack Always b next → Step (Known Always rack b) mid event reply next
      → LedTo rack state (events ++ event ∷ []) (replies ++ reply ∷ []) b next
  led_more a b state mid next events replies event reply leaves led stands step = record {
    stands = stands;
    run = run_push (Known Always rack b) state events replies mid event reply next (run_less (told_before a b leaves) state events replies mid led.run) step;
  }

  -- ---- writes

  -- a block of the array has a row
  row_of : (v : Volume AnyPhase R) (state : State) (b : ℕ) → IsWell any_phase rack v → StandsIn any_phase rack Always v state → b < (shape_of v).n → b < length state.table.rows
  row_of v state b well stands low =
      let rows = well.array.table.size in
      let same : length state.table.rows ≡ length (table_of v).rows = ap (λ (s : State). length s.table.rows) stands.is in
      omega (arith, rows, same, low)

  pub writes_none : (v : Volume AnyPhase R) (state : State) (blocks : List ℕ) → StandsIn any_phase rack Always v state → AreUnwritten state.table blocks
      → HasWritten rack state [] blocks 0 v
  writes_none v state blocks stands none = record {
    replies = [];
    next = state;
    led = led_none v state stands;
    count = omega arith;
    unwritten = none;
  }

  -- one block more
  write_more : (a c : Volume AnyPhase R) (state : State) (events : List Event) (b : ℕ) (rest bytes : List ℕ) (more one : ℕ) → b < (shape_of a).n
      → AreApart (b ∷ rest) → IsWell any_phase rack a → Leaves any_phase any_phase rack a c → HasWritten rack state events (b ∷ rest) more a
      → HasAnswered rack a (Write b bytes) one c → HasWritten rack state (events ++ Write b bytes ∷ []) rest (more + one) c
  write_more a c state events b rest bytes more one low apart well leaves was answered =
      let step = answered.steps was.next was.led.stands in
      let none : has_site (sites_in was.next.table b) ≡ false = was.unwritten b (inl refl) in
      let counted = write_counted (Known Always rack c) was.next b bytes answered.reply step.0 (row_of a was.next b well was.led.stands low) none step.2 in
      record {
        replies = was.replies ++ answered.reply ∷ [];
        next = step.0;
        led = led_more a c state was.next step.0 events was.replies (Write b bytes) answered.reply leaves was.led step.1 step.2;
        count = omega (arith, was.count, counted.count, answered.count);
        unwritten = λ d there.
            counted.others d (λ same. apart.0 (subst (λ (k : ℕ). IsIn k rest) same there)) ∙ was.unwritten d (inr there);
      }

  -- of the blocks in their order
  pub writes_more : (a c : Volume AnyPhase R) (state : State) (l : ℕ) (image blocks : List ℕ) (i b more one : ℕ) → i < length blocks → b ≡ get_or blocks i 0
      → b < (shape_of a).n → AreApart blocks → IsWell any_phase rack a → Leaves any_phase any_phase rack a c
      → HasWritten rack state (writes_of l image (take i blocks)) (drop i blocks) more a → HasAnswered rack a (write_of l image b) one c
      → HasWritten rack state (writes_of l image (take (i + 1) blocks)) (drop (i + 1) blocks) (more + one) c
  writes_more a c state l image blocks i b more one inside is low apart well leaves was answered =
      let up : suc i ≡ i + 1 = omega arith in
      let split : drop i blocks ≡ b ∷ drop (i + 1) blocks =
      drop-cons blocks i 0 inside ∙ ap (λ (x : ℕ). x ∷ drop (suc i) blocks) (sym is) ∙ ap (λ (n : ℕ). b ∷ drop n blocks) up in
      let front : take (i + 1) blocks ≡ take i blocks ++ b ∷ [] = take_more blocks i 0 inside ∙ ap (λ (x : ℕ). take i blocks ++ x ∷ []) (sym is) in
      let events : writes_of l image (take (i + 1) blocks) ≡ writes_of l image (take i blocks) ++ write_of l image b ∷ [] =
      ap (λ (xs : List ℕ). writes_of l image xs) front ∙ map_push (write_of l image) (take i blocks) b in
      let here = subst (λ (xs : List ℕ). HasWritten rack state (writes_of l image (take i blocks)) xs more a) split was in
      let rest = subst (λ (xs : List ℕ). AreApart xs) split (apart_drop i blocks apart) in
      subst (λ (es : List Event). HasWritten rack state es (drop (i + 1) blocks) (more + one) c) (sym events)
      (write_more a c state (writes_of l image (take i blocks)) b (drop (i + 1) blocks) (stripped (block_in l image b)) more one low rest well leaves here answered)

  -- all of them
  pub writes_all : (v : Volume AnyPhase R) (state : State) (l : ℕ) (image blocks : List ℕ) (i more : ℕ) → length blocks ≤ i
      → HasWritten rack state (writes_of l image (take i blocks)) (drop i blocks) more v → HasWritten rack state (writes_of l image blocks) [] more v
  writes_all v state l image blocks i more past was =
      subst (λ (xs : List ℕ). HasWritten rack state (writes_of l image xs) [] more v) (take_all i blocks past)
      (subst (λ (xs : List ℕ). HasWritten rack state (writes_of l image (take i blocks)) xs more v) (drop_all i blocks past) was)
