-- Lines are served one after another.
use Rattle.std.proofs.Common.{◌≡◌, ◌≤◌, ◌<◌, ◌+◌, ◌-◌, ◌/◌, ◌^◌, ℕ, List, [], ◌∷◌, ◌++◌, length, refl, sym, ◌∙◌, ap, subst, arith, append_assoc, length-append}
use Rattle.std.specs.Prelude.{Option, Some}
use Rattle.std.proofs.lemmas.List.{append-nil}
use Rattle.std.proofs.lemmas.List.Concat.{flat_map-append}
use Rattle.std.proofs.lemmas.List.Elements.{All-append}
use Rattle.dg_io.specs.declared.outside.Rack.{Ghosts}
use Rattle.dg_model.specs.States.{State}
use Rattle.dg_regroup.specs.declared.live_racks.LiveRack.{LiveRack}
use Rattle.dg_model.specs.declared.shapes.Shape.{Shape}
use Rattle.dg_model.specs.declared.events.Event.{Event}
use Rattle.dg_model.specs.declared.replies.Reply.{Reply}
use Rattle.dg_run.proofs.BaseTies.{tells_outer}
use Rattle.dg_run.specs.Bases.{Base, base, outer}
use Rattle.dg_volume.specs.HeldLaws.{own_still}
use Rattle.dg_volume.specs.Origins.{Origin, WasHeld}
use Rattle.dg_volume.specs.Volumes.{any_phase}
use Rattle.dg_volume.specs.Volumes as volumes
use Rattle.dg_io.specs.Told.{Told, Took}
use Rattle.dg_run.specs.declared.arrays.Array.{Array}
use Rattle.dg_text.specs.Lines.{line_of, input_of, IsInPlace}
use Rattle.dg_text.specs.Replies.{reply_line, output_of}
use Rattle.dg_text.specs.declared.lines.BadLine.{BadLine}
use Rattle.dg_run.specs.Events.{IsRefused}
use Rattle.dg_run.specs.Lines.{BeginsAll, Served, ServedLine, AllServed, ServedTo, Turned, LinesEndAt}
use Rattle.dg_run.specs.Histories.{KnownBy, Leads, RunsBefore, RunsTo, TellsLine, VolumeRunsTo, standing_of, below_of, boundaries_of, Running, running}
use Rattle.dg_run.specs.Steps.{GoesOn, IsSound, StandsIn}
use Rattle.dg_run.specs.declared.lines.Turn.{Turn}
use Rattle.dg_run.specs.declared.lines.Turn.TheVariants.{Served as turn_served, End as turn_end, Refused as turn_refused}
use Rattle.dg_run.specs.declared.lines.LinesEnd.{LinesEnd}
use Rattle.dg_run.specs.declared.lines.LinesEnd.TheVariants.{Input as input_end, Refused as line_refused}
use Rattle.dg_run.proofs.Inputs.{All-one, begins_none, begins_more}
use Rattle.dg_run.proofs.Happening.{course_both, course_less}
use Rattle.dg_run.proofs.ToldSteps.{Told-refl, Told-then}

-- nothing was done to an array
pub goes_none : {R : Type 0} (rack : Ghosts R) (a : Array R) → IsSound rack a → GoesOn rack a a
goes_none rack a sound = record {
  well = sound;
  shape = refl;
  boundaries = refl;
  live = refl;
  line = refl;
  rise = record { faults = λ q. omega arith; calls = omega arith; writes = omega arith };
  tells = λ q h. h;
  told_before = λ q h. h;
  own = own_still rack a.volume;
  same_rack = refl;
}

module _ {R : Type 0} (rack : Ghosts R) where
  -- events led on, and then others
  pub leads_then : (Stands : Type 0 → State → Type 0) (a b c : Running R) (es fs : List Event) (rs ss : List Reply) → RunsTo rack a es rs b
      → ((origin : Origin (LiveRack (Base R))) (state : State) → StandsIn (running rack) (WasHeld (running rack) origin) b state → Leads rack Stands origin state b c fs ss)
      → (TellsLine (base rack) c → TellsLine (base rack) b)
      → (origin : Origin (LiveRack (Base R))) (state : State) → StandsIn (running rack) (WasHeld (running rack) origin) a state → Leads rack Stands origin state a c (es ++ fs) (rs ++ ss)
  leads_then Stands a b c es fs rs ss runs more told origin state st =
      let one = runs origin state st in
      let two = more one.after one.next one.stands in
      let K : Type 0 = KnownBy (WasHeld (running rack) origin) (base rack) c in
      record {
        after = two.after;
        next = two.next;
        stands = two.stands;
        known = λ tells held. two.known tells (one.known (told tells) held);
        course = course_both rack K (standing_of a state) es rs (standing_of b one.next) fs ss (standing_of c two.next)
            (course_less rack (λ k. (told k.0, k.1)) (standing_of a state) es rs (standing_of b one.next) one.course)
            (course_less rack (λ k. (k.0, one.known (told k.0) k.1)) (standing_of b one.next) fs ss (standing_of c two.next) two.course);
      }

  pub runs_more : (a b c : Running R) (es : List Event) (rs : List Reply) (e : Event) (r : Reply) → RunsTo rack a es rs b → RunsTo rack b (e ∷ []) (r ∷ []) c
      → (TellsLine (base rack) c → TellsLine (base rack) b) → RunsTo rack a (es ++ e ∷ []) (rs ++ r ∷ []) c
  runs_more a b c es rs e r runs more told = leads_then (λ P next. StandsIn (running rack) P c next) a b c es (e ∷ []) rs (r ∷ []) runs more told

  -- the same where nothing is said of the inodes that were read last
  pub volume_runs_more : (a b c : Running R) (es : List Event) (rs : List Reply) (e : Event) (r : Reply) → RunsTo rack a es rs b → VolumeRunsTo rack b (e ∷ []) (r ∷ []) c
      → (TellsLine (base rack) c → TellsLine (base rack) b) → VolumeRunsTo rack a (es ++ e ∷ []) (rs ++ r ∷ []) c
  volume_runs_more a b c es rs e r runs more told =
      leads_then (λ P next. volumes.StandsIn any_phase (running rack) P c.volume next) a b c es (e ∷ []) rs (r ∷ []) runs more told

  -- no event
  pub no_runs : (a : Running R) → RunsTo rack a [] [] a
  no_runs a origin state st = record { after = origin; next = state; stands = st; known = λ tells held. held; course = refl }

  -- what the rack of its boundaries tells of the first line's members that of the run tells
  told_outer_line : (b : Running R) (state : State) → state.boundaries ≡ boundaries_of b → TellsLine (base rack) b → (q : ℕ) → q / 2 < state.boundaries
      → rack.tells (outer (below_of b)) q
  told_outer_line b state line tells q low = tells_outer rack (below_of b) q (tells q (subst (λ (n : ℕ). q / 2 < n) line low))

  -- what the array stands for now isn't told
  pub runs_before : (a b c : Running R) (es : List Event) (rs : List Reply) → RunsTo rack a es rs b → boundaries_of c ≡ boundaries_of b → (TellsLine (base rack) c → TellsLine (base rack) b)
      → RunsBefore rack a es rs c
  runs_before a b c es rs runs same told origin state st =
      let one = runs origin state st in
      let line : one.next.boundaries ≡ boundaries_of b = ap (λ (s : State). s.boundaries) one.stands.volume.is in (
        standing_of b one.next,
        line ∙ sym same,
        course_less rack (λ k. (told k.0, k.1)) (standing_of a state) es rs (standing_of b one.next) one.course,
        λ tells. told_outer_line b one.next line (told tells),
      )

  pub volume_runs_before : (a c : Running R) (es : List Event) (rs : List Reply) → VolumeRunsTo rack a es rs c → RunsBefore rack a es rs c
  volume_runs_before a c es rs runs origin state st =
      let one = runs origin state st in
      let line : one.next.boundaries ≡ boundaries_of c = ap (λ (s : State). s.boundaries) one.stands.is in
      (standing_of c one.next, line, one.course, told_outer_line c one.next line)

  pub output_more : (rs : List Reply) (r : Reply) (x y z : Option (List ℕ)) → Told (Took (output_of rs)) x y → Told (Took (reply_line r)) y z → Told (Took (output_of (rs ++ r ∷ []))) x z
  output_more rs r x y z p q = Told-then _ _ (Took (output_of (rs ++ r ∷ []))) (λ a b c f s.
      s ∙ ap (λ (l : List ℕ). l ++ reply_line r) f ∙ append_assoc a (output_of rs) (reply_line r)
      ∙ ap (λ (l : List ℕ). a ++ l) (ap (λ (l : List ℕ). output_of rs ++ l) (sym (append-nil (reply_line r))) ∙ sym (flat_map-append reply_line rs (r ∷ [])))) x y z p q

  pub served_none : (shape : Shape) (left taken : Option (List ℕ)) (store : Running R) → Served rack shape [] left left taken taken store store
  served_none shape left taken store = record {
    replies = [];
    in_place = λ k d h. absurd (omega arith);
    input = Told-refl _ (begins_none (Some shape)) left;
    output = Told-refl _ (λ b. sym (append-nil b)) taken;
    runs = no_runs store;
  }

  pub served_more : (shape : Shape) (room n : ℕ) (es : List Event) (x y z t u v : Option (List ℕ)) (a b c : Running R) → Served rack shape es x y t u a b → (line : ServedLine rack shape room n y z u v b c) → (TellsLine (base rack) c → TellsLine (base rack) b) → Served rack shape (es ++ line.event ∷ []) x z t v a c
  served_more shape room n es x y z t u v a b c was line told = record {
    replies = was.replies ++ line.answered.reply ∷ [];
    in_place = All-append (IsInPlace (Some shape)) es (line.event ∷ []) was.in_place (All-one (IsInPlace (Some shape)) line.event line.in_place);
    input = Told-then _ _ _ (begins_more (Some shape) es line.event) x y z was.input line.input;
    output = output_more was.replies line.answered.reply t u v was.output line.answered.output;
    runs = runs_more a b c es was.replies line.event line.answered.reply was.runs line.answered.runs told;
  }

-- lines so far, the first of them with the number `from`: of so many bytes behind a line, the next one with this number
pub record SoFar {R : Type 0} (rack : Ghosts R) (shape : Shape) (first from passed number : ℕ) (left rest taken given : Option (List ℕ)) (old new : Running R) : Type 0 where
  pub events : List Event
  pub served : Served rack shape events left rest taken given old new
  pub passed_is : passed ≡ first + length (input_of events)
  pub number_is : number ≡ length events + from

module _ {R : Type 0} (rack : Ghosts R) where
  pub so_far_none : (shape : Shape) (first from : ℕ) (left taken : Option (List ℕ)) (store : Running R) → SoFar rack shape first from first from left left taken taken store store
  so_far_none shape first from left taken store = record { events = []; served = served_none rack shape left taken store; passed_is = omega arith; number_is = omega arith }

  pub so_far_more : (shape : Shape) (first from passed number room n : ℕ) (x y z t u v : Option (List ℕ)) (a b c : Running R) → SoFar rack shape first from passed number x y t u a b → ServedLine rack shape room n y z u v b c → (TellsLine (base rack) c → TellsLine (base rack) b)
      → SoFar rack shape first from (passed + n) (number + 1) x z t v a c
  so_far_more shape first from passed number room n x y z t u v a b c was line told =
      let text : input_of (was.events ++ line.event ∷ []) ≡ input_of was.events ++ line_of line.event = flat_map-append line_of was.events (line.event ∷ []) ∙ ap (λ (l : List ℕ). input_of was.events ++ l) (append-nil (line_of line.event)) in
      let size = ap length text in
      record {
        events = was.events ++ line.event ∷ [];
        served = served_more rack shape room n was.events x y z t u v a b c was.served line told;
        passed_is = omega (arith, size, length-append (input_of was.events) (line_of line.event), was.passed_is, line.size);
        number_is = omega (arith, length-append was.events (line.event ∷ []), was.number_is);
      }

  -- the input is at its end
  pub all_served : (shape : Shape) (first from passed number : ℕ) (x y z t u : Option (List ℕ)) (a b : Running R) → passed ≤ 2 ^ 40 → SoFar rack shape first from passed number x y t u a b → Told (λ before after. (before ≡ []) × (after ≡ [])) y z → AllServed rack shape first x z t u a b
  all_served shape first from passed number x y z t u a b budget was end = record {
    events = was.events;
    served = record {
      replies = was.served.replies;
      in_place = was.served.in_place;
      input = Told-then _ _ (BeginsAll (Some shape) was.events) (λ p q r f s. subst (λ (l : List ℕ). BeginsAll (Some shape) was.events p l) (s.0 ∙ sym s.1) f) x y z was.served.input end;
      output = was.served.output;
      runs = was.served.runs;
    };
    budget = omega (arith, was.passed_is);
    end = Told-then _ _ (λ before after. (before ≡ input_of was.events) × (after ≡ [])) (λ p q r f s. (f.lines ∙ ap (λ (l : List ℕ). input_of was.events ++ l) s.0 ∙ append-nil (input_of was.events), s.1)) x y z was.served.input end;
  }

  -- the next line is refused
  pub served_to : (shape : Shape) (first from passed number : ℕ) (kind : BadLine) (x y z t u : Option (List ℕ)) (a b : Running R) → passed ≤ 2 ^ 40 → SoFar rack shape first from passed number x y t u a b → Told (λ before after. IsRefused (Some shape) (2 ^ 40 - passed) before kind) y z → ServedTo rack shape first from number kind x z t u a b
  served_to shape first from passed number kind x y z t u a b budget was refused = record {
    events = was.events;
    middle = y;
    served = was.served;
    budget = omega (arith, was.passed_is);
    count = was.number_is;
    refused = subst (λ (n : ℕ). Told (λ before after. IsRefused (Some shape) (2 ^ 40 - n) before kind) y z) was.passed_is refused;
  }

-- what a turn did, by its answer
module _ {R : Type 0} (rack : Ghosts R) where
  pub turned_end : (shape : Shape) (room : ℕ) (y z u v : Option (List ℕ)) (b c : Running R) (turn : Turn) → turn ≡ turn_end → Turned rack shape room y z u v b c turn → Told (λ before after. (before ≡ []) × (after ≡ [])) y z × (v ≡ u) × (c ≡ b)
  turned_end shape room y z u v b c (turn_served n) is turned = absurd (cc is)
  turned_end shape room y z u v b c turn_end is turned = turned
  turned_end shape room y z u v b c (turn_refused kind) is turned = absurd (cc is)

  pub turned_served : (shape : Shape) (room n : ℕ) (y z u v : Option (List ℕ)) (b c : Running R) (turn : Turn) → turn ≡ turn_served n → Turned rack shape room y z u v b c turn
      → ServedLine rack shape room n y z u v b c
  turned_served shape room n y z u v b c (turn_served m) is turned = let same : m ≡ n = cc is in subst (λ (k : ℕ). ServedLine rack shape room k y z u v b c) same turned
  turned_served shape room n y z u v b c turn_end is turned = absurd (cc is)
  turned_served shape room n y z u v b c (turn_refused kind) is turned = absurd (cc is)

  pub lines_end : (shape : Shape) (first from passed number room : ℕ) (x y z t u v : Option (List ℕ)) (a b c : Running R) (turn : Turn) → turn ≡ turn_end → Turned rack shape room y z u v b c turn → passed ≤ 2 ^ 40 → SoFar rack shape first from passed number x y t u a b → AllServed rack shape first x z t v a c
  lines_end shape first from passed number room x y z t u v a b c turn is turned budget was =
      let end = turned_end shape room y z u v b c turn is turned in
      subst (λ (o : Option (List ℕ)). AllServed rack shape first x z t o a c) (sym end.1)
      (subst (λ (s : Running R). AllServed rack shape first x z t u a s) (sym end.2) (all_served rack shape first from passed number x y z t u a b budget was end.0))

  pub turned_refused : (shape : Shape) (room : ℕ) (kind : BadLine) (y z u v : Option (List ℕ)) (b c : Running R) (turn : Turn) → turn ≡ turn_refused kind
      → Turned rack shape room y z u v b c turn → Told (λ before after. IsRefused (Some shape) room before kind) y z × (v ≡ u) × (c ≡ b)
  turned_refused shape room kind y z u v b c (turn_served n) is turned = absurd (cc is)
  turned_refused shape room kind y z u v b c turn_end is turned = absurd (cc is)
  turned_refused shape room kind y z u v b c (turn_refused other) is turned =
      let same : other ≡ kind = cc is in
      subst (λ (k : BadLine). Told (λ before after. IsRefused (Some shape) room before k) y z × (v ≡ u) × (c ≡ b)) same turned

  pub lines_refused : (shape : Shape) (first from passed number : ℕ) (kind : BadLine) (x y z t u v : Option (List ℕ)) (a b c : Running R) (turn : Turn) → turn ≡ turn_refused kind
      → Turned rack shape (2 ^ 40 - passed) y z u v b c turn → passed ≤ 2 ^ 40 → SoFar rack shape first from passed number x y t u a b → ServedTo rack shape first from number kind x z t v a c
  lines_refused shape first from passed number kind x y z t u v a b c turn is turned budget was =
      let stop = turned_refused shape (2 ^ 40 - passed) kind y z u v b c turn is turned in
      subst (λ (o : Option (List ℕ)). ServedTo rack shape first from number kind x z t o a c) (sym stop.1)
      (subst (λ (s : Running R). ServedTo rack shape first from number kind x z t u a s) (sym stop.2) (served_to rack shape first from passed number kind x y z t u a b budget was stop.0))

  pub ended_input : (shape : Shape) (first from : ℕ) (x z t u : Option (List ℕ)) (a b : Running R) (end : LinesEnd) → end ≡ input_end → LinesEndAt rack shape first from x z t u a b end → AllServed rack shape first x z t u a b
  ended_input shape first from x z t u a b input_end is ended = ended
  ended_input shape first from x z t u a b (line_refused n kind) is ended = absurd (cc is)

  pub ended_line : (shape : Shape) (first from number : ℕ) (kind : BadLine) (x z t u : Option (List ℕ)) (a b : Running R) (end : LinesEnd) → end ≡ line_refused number kind → LinesEndAt rack shape first from x z t u a b end → ServedTo rack shape first from number kind x z t u a b
  ended_line shape first from number kind x z t u a b input_end is ended = absurd (cc is)
  ended_line shape first from number kind x z t u a b (line_refused n other) is ended =
      let numbers : n ≡ number = cc is in
      let kinds : other ≡ kind = cc is in
      subst (λ (k : BadLine). ServedTo rack shape first from number k x z t u a b) kinds (subst (λ (m : ℕ). ServedTo rack shape first from m other x z t u a b) numbers ended)
