-- What replays print that stop at a line, or at a fault of the sink.
use Rattle.std.proofs.Common.{◌≡◌, ◌≢◌, ◌≤◌, ◌+◌, ◌==◌, ◌&&◌, not, Bool, ◌-◌, ◌^◌, ◌∙◌, ℕ, false, true, List, [], ◌∷◌, ◌++◌, length, take, drop, get_or, refl, sym, ap, subst, arith, append_assoc, take-append-drop, inl, inr, length-append}
use Rattle.std.specs.Prelude.{All, Option, Some, None, codes}
use Rattle.std.specs.Fmt.{digits}
use Rattle.std.specs.Str.{bytes_eq}
use Rattle.std.proofs.lemmas.Bool.{false≢true}
use Rattle.std.proofs.lemmas.List.{append-nil}
use Rattle.std.proofs.lemmas.List.Elements.{All-cons, All-head, All-nil}
use Rattle.std.proofs.lemmas.Slice.Eq.{bytes_eq-Decides}
use Rattle.dg_io.specs.Racks.{counts_in, member_in, told_in}
use Rattle.dg_io.specs.Sinks.{taken_in}
use Rattle.dg_io.specs.Sources.{left_in}
use Rattle.dg_model.proofs.MomentLaws.{history_runs, history_traces}
use Rattle.dg_model.proofs.RunLaws.{run_none, trace_more}
use Rattle.dg_model.specs.Moments.{HistoryOf, Moment}
use Rattle.dg_model.specs.Moments.Kind.{double}
use Rattle.dg_model.specs.Runs.{Trace}
use Rattle.dg_model.specs.Shapes.{IsShape}
use Rattle.dg_model.specs.States.{Counts, State}
use Rattle.dg_model.specs.declared.events.Event.{Event}
use Rattle.dg_model.specs.declared.events.Event.TheVariants.{Array, Safe, Write, Read, Fail, Replace, Rebuild, Settle, Tend, Diffuse, Who, Pending, Cat, Ls, Tree, Home, Save, Audit, DropDisk, LostFiles, MendDisk, Regroup}
use Rattle.dg_model.specs.declared.replies.Reply.{Reply}
use Rattle.dg_model.specs.declared.replies.Reply.TheVariants.{Done}
use Rattle.dg_model.specs.declared.shapes.Shape.{Shape}
use Rattle.dg_run.specs.Bytes.{HasNoLineFeed}
use Rattle.dg_run.specs.Refusals.{HasLine, IsRefusedBy}
use Rattle.dg_run.specs.Replays.{IsCut, Ran, StopsAt, TellsBoundaries, shape_after}
use Rattle.dg_text.specs.Lines.{IsInPlace, input_of, line_of, shape_made, spelling}
use Rattle.dg_text.specs.Refusals.{Begins, word_of, words}
use Rattle.dg_text.specs.Replies.{output_of, refusal, reply_line}
use Rattle.dg_text.specs.declared.kinds.EventKind.{EventKind}
use Rattle.dg_text.specs.declared.kinds.EventKind.TheVariants as event_kind
use Rattle.dg_text.specs.declared.lines.BadLine.{BadLine}
use Rattle.dg_text.specs.declared.lines.BadLine.TheVariants.{Word}
use Rattle.dg_uses.proofs.Rows.{shape_here, shape_is}
use Rattle.dg_uses.specs.Replays.{HasBeenCut, HasStopped, IsFront}
use Rattle.dg_uses.specs.declared.replays.Replay.{Replay}

-- a text begins with the line of no more than one event in its place: a law of lines, which is handed in
abbrev pub OneLine : Type 0
OneLine = (shape : Option Shape) (event other : Event) (rest more : List ℕ) → IsInPlace shape event → IsInPlace shape other
    → line_of event ++ rest ≡ line_of other ++ more → (event ≡ other) × (rest ≡ more)

line_short : length (line_of (Array shape_here)) ≡ 21
unfolding digits
line_short = refl

trace_none : (Known : Type 0) (before : Counts) (replies : List Reply) (final : State) → Trace Known before [] replies final → replies ≡ []
trace_none Known before [] final trace = refl
trace_none Known before (reply ∷ replies) final trace = absurd trace

array_alone : (Known : Type 0) (before : Counts) (shape : Shape) (replies : List Reply) (final : State) → Trace Known before (Array shape ∷ []) replies final → replies ≡ Done ∷ []
array_alone Known before shape replies final trace =
    let t = trace_more Known before shape [] replies final trace in
    t.is ∙ ap (λ (l : List Reply). Done ∷ l) (run_none Known t.blank final t.rest t.run).0

-- the same of histories
history_none : (Known : Type 0) (before : Counts) (replies : List Reply) (final : Moment) → HistoryOf Known before [] replies final → replies ≡ []
history_none Known before replies final h =
    let t = history_traces Known before [] replies final h in trace_none Known t.0 replies final.state t.1

made_alone : (Known : Type 0) (before : Counts) (shape : Shape) (replies : List Reply) (final : Moment) → HistoryOf Known before (Array shape ∷ []) replies final → replies ≡ Done ∷ []
made_alone Known before shape replies final h =
    let t = history_traces Known before (Array shape ∷ []) replies final h in array_alone Known t.0 shape replies final.state t.1

-- ---- a line is refused

abbrev refused : List ℕ
refused = codes "array 1024 64 4 32 2\nreed 3\n"

refused_text : refused ≡ line_of (Array shape_here) ++ codes "reed 3\n"
unfolding digits
refused_text = refl

refused_output : output_of (Done ∷ []) ++ refusal 2 Word ≡ codes "ok\nline 2 word\n"
unfolding digits
refused_output = refl

at : (k : ℕ) (x y : List ℕ) → x ≡ y → get_or x k 0 ≡ get_or y k 0
at k x y e = ap (λ (l : List ℕ). get_or l k 0) e

no_reed : (shape : Shape) (event : Event) (more : List ℕ) → IsInPlace (Some shape) event → codes "reed 3\n" ≡ line_of event ++ more → ⊥
no_reed shape (Array s) more h e = h
no_reed shape (Write b bytes) more h e = absurd (omega (arith, at 0 _ _ e))
no_reed shape (Read b) more h e = absurd (omega (arith, at 2 _ _ e))
no_reed shape (Fail s j) more h e = absurd (omega (arith, at 0 _ _ e))
no_reed shape (Replace s j) more h e = absurd (omega (arith, at 2 _ _ e))
no_reed shape (Rebuild s n) more h e = absurd (omega (arith, at 2 _ _ e))
no_reed shape Settle more h e = absurd (omega (arith, at 0 _ _ e))
no_reed shape (Tend n) more h e = absurd (omega (arith, at 0 _ _ e))
no_reed shape Diffuse more h e = absurd (omega (arith, at 0 _ _ e))
no_reed shape (Who b) more h e = absurd (omega (arith, at 0 _ _ e))
no_reed shape Pending more h e = absurd (omega (arith, at 0 _ _ e))
no_reed shape (Cat path) more h e = absurd (omega (arith, at 0 _ _ e))
no_reed shape (Ls path) more h e = absurd (omega (arith, at 0 _ _ e))
no_reed shape Tree more h e = absurd (omega (arith, at 0 _ _ e))
no_reed shape (Home path) more h e = absurd (omega (arith, at 0 _ _ e))
no_reed shape Save more h e = absurd (omega (arith, at 0 _ _ e))
no_reed shape Audit more h e = absurd (omega (arith, at 0 _ _ e))
no_reed shape Regroup more h e = absurd (omega (arith, at 2 _ _ e))
no_reed shape LostFiles more h e = absurd (omega (arith, at 0 _ _ e))
no_reed shape (DropDisk s j) more h e = absurd (omega (arith, at 0 _ _ e))
no_reed shape (MendDisk s j) more h e = absurd (omega (arith, at 0 _ _ e))
no_reed shape event more h e = h

-- `reed` is the word of no event
reed_differs : (kind : EventKind) → bytes_eq (codes "reed") (word_of kind) ≡ false
reed_differs event_kind.Array = refl
reed_differs event_kind.Safe = refl
reed_differs event_kind.Write = refl
reed_differs event_kind.Read = refl
reed_differs event_kind.Fail = refl
reed_differs event_kind.Replace = refl
reed_differs event_kind.Rebuild = refl
reed_differs event_kind.Settle = refl
reed_differs event_kind.Tend = refl
reed_differs event_kind.Diffuse = refl
reed_differs event_kind.Who = refl
reed_differs event_kind.Pending = refl
reed_differs event_kind.Cat = refl
reed_differs event_kind.Ls = refl
reed_differs event_kind.Tree = refl
reed_differs event_kind.Home = refl
reed_differs event_kind.Save = refl
reed_differs event_kind.Audit = refl
reed_differs event_kind.Regroup = refl
reed_differs event_kind.LostFiles = refl
reed_differs event_kind.Drop = refl
reed_differs event_kind.Mend = refl

reed_words : words (codes "reed 3") ≡ codes "reed" ∷ codes "3" ∷ []
unfolding words
reed_words = refl

abbrev first_of : List (List ℕ) → List ℕ
first_of [] = []
first_of (word ∷ more) = word

no_event : Begins (codes "reed 3") → ⊥
no_event begins =
    let same : codes "reed" ≡ word_of begins.kind = ap first_of (sym reed_words ∙ begins.split) in
    false≢true (sym (reed_differs begins.kind) ∙ (bytes_eq-Decides (codes "reed") (word_of begins.kind)).1 same)

-- a text without a line feed, by a test of each byte
abbrev lacks : List ℕ → Bool
lacks [] = true
lacks (x ∷ rest) = not (x == 10) && lacks rest

both : (a b : Bool) → a && b ≡ true → (a ≡ true) × (b ≡ true)
both true b h = (refl, h)
both false b h = absurd (false≢true h)

differs : (x : ℕ) → not (x == 10) ≡ true → x ≢ 10
differs x h e = let same : not (10 == 10) ≡ true = subst (λ (y : ℕ). not (y == 10) ≡ true) e h in absurd (false≢true same)

pub all_of : (text : List ℕ) → lacks text ≡ true → HasNoLineFeed text
all_of [] h = All-nil (λ (x : ℕ). x ≢ 10)
all_of (x ∷ rest) h =
    let parts = both (not (x == 10)) (lacks rest) h in
    All-cons (λ (y : ℕ). y ≢ 10) x rest (differs x parts.0) (all_of rest parts.1)

reed_line : HasLine (codes "reed 3") (codes "reed 3\n")
reed_line = record { after = []; split = refl; none = all_of (codes "reed 3") refl }

reed_kind : (shape : Shape) (room : ℕ) (kind : BadLine) → 7 ≤ room → IsRefusedBy (Some shape) room (codes "reed 3\n") kind → kind ≡ Word
reed_kind shape room kind wide (inl long) = let there = long.1.there in absurd (omega arith)
reed_kind shape room kind wide (inr (n1, inl past)) = let there = past.1.there in absurd (omega arith)
reed_kind shape room kind wide (inr (n1, inr (n2, inl cut))) = absurd (cut.1.none 6 0 (omega arith) refl)
reed_kind shape room kind wide (inr (n1, inr (n2, inr (n3, inl word)))) = word.0
reed_kind shape room kind wide (inr (n1, inr (n2, inr (n3, inr rest)))) = absurd (rest.0 (codes "reed 3", reed_line, no_event))

-- a first line that makes an array, which is answered by `ok` where nothing stands behind it
record MakesArray (make : Event) : Type 1 where
  shape : Shape
  placed : IsInPlace None make
  made : shape_made make ≡ Some shape
  after : shape_after (make ∷ []) ≡ Some shape
  short : length (line_of make) ≤ 21
  alone : (Known : Type 0) (before : Counts) (replies : List Reply) (final : Moment) → HistoryOf Known before (make ∷ []) replies final → replies ≡ Done ∷ []

-- and behind it a line that is refused
module _ (one : OneLine) (make : Event) (m : MakesArray make) (before now : Counts) (images bytes : ℕ → Option (List ℕ)) (steady : Type 0) (tells : ℕ → Type 0) where
  abbrev Ran_of : List Event → List Reply → Type 0
  Ran_of events replies = Ran before now images bytes steady tells events replies

  behind_make : (es : List Event) (replies : List Reply) (kind : BadLine) (text taken : List ℕ) → Ran_of (make ∷ es) replies → codes "reed 3\n" ≡ input_of es ++ text
      → StopsAt (make ∷ es) kind text → taken ≡ output_of replies ++ refusal (length (make ∷ es) + 1) kind → taken ≡ codes "ok\nline 2 word\n"
  behind_make [] replies kind text taken ran is stop took =
      let room : ℕ = 2 ^ 40 - length (input_of (make ∷ [])) in
      let size = m.short in
      let line : length (input_of (make ∷ [])) ≡ length (line_of make) = ap length (append-nil (line_of make)) in
      let by = subst (λ (o : Option Shape). IsRefusedBy o room text kind) m.after stop.by_kind in
      let word : kind ≡ Word = reed_kind m.shape room kind (omega (arith, size, line)) (subst (λ (l : List ℕ). IsRefusedBy (Some m.shape) room l kind) (sym is) by) in
      took ∙ ap (λ (l : List Reply). output_of l ++ refusal 2 kind) (m.alone (TellsBoundaries tells ran.final.state) before replies ran.final ran.history)
      ∙ ap (λ (k : BadLine). output_of (Done ∷ []) ++ refusal 2 k) word ∙ refused_output
  behind_make (event ∷ es) replies kind text taken ran is stop took =
      let places = subst (λ (o : Option Shape). All (IsInPlace o) (event ∷ es)) m.made ran.in_place.1 in
      absurd (no_reed m.shape event (input_of es ++ text) (All-head (IsInPlace (Some m.shape)) event es places) (is ∙ append_assoc (line_of event) (input_of es) text))

  stops : (events : List Event) (replies : List Reply) (kind : BadLine) (text taken : List ℕ) → Ran_of events replies
      → line_of make ++ codes "reed 3\n" ≡ input_of events ++ text → StopsAt events kind text → taken ≡ output_of replies ++ refusal (length events + 1) kind
      → taken ≡ codes "ok\nline 2 word\n"
  stops [] replies kind text taken ran is stop took =
      let over = stop.none make (codes "reed 3\n") m.placed (sym is) in
      let size = m.short in
      absurd (omega (arith, over, size))
  stops (first ∷ es) replies kind text taken ran is stop took =
      let split = one None make first (codes "reed 3\n") (input_of es ++ text) m.placed ran.in_place.0 (is ∙ append_assoc (line_of first) (input_of es) text) in
      behind_make es replies kind text taken (subst (λ (e : Event). Ran_of (e ∷ es) replies) (sym split.0) ran) split.1
      (subst (λ (e : Event). StopsAt (e ∷ es) kind text) (sym split.0) stop) took

makes_array : MakesArray (Array shape_here)
makes_array = record {
  shape = shape_here;
  placed = shape_is;
  made = refl;
  after = refl;
  short = omega (arith, line_short);
  alone = λ Known before replies final h. made_alone Known before shape_here replies final h;
}

pub prints_refused : OneLine → (end : Replay) → HasStopped (codes "array 1024 64 4 32 2\nreed 3\n") end → taken_in end.sink ≡ codes "ok\nline 2 word\n"
prints_refused one end did =
    let stopped = did.stopped in
    let input = stopped.input in
    stops one (Array shape_here) makes_array did.before (counts_in end.rack) did.images (member_in end.rack) (Unit {0}) (told_in end.rack) stopped.events stopped.replies
    stopped.kind input.0 (taken_in end.sink) stopped.ran (sym refused_text ∙ input.1) input.2 stopped.output

-- the same of an array that keeps a checkpoint
safe_short : length (line_of (Safe shape_here)) ≡ 20
unfolding digits
safe_short = refl

safe_text : codes "safe 1024 64 4 32 2\nreed 3\n" ≡ line_of (Safe shape_here) ++ codes "reed 3\n"
unfolding digits
safe_text = refl

safe_alone : (Known : Type 0) (before : Counts) (replies : List Reply) (final : Moment) → HistoryOf Known before (Safe shape_here ∷ []) replies final → replies ≡ Done ∷ []
safe_alone Known before (Done ∷ replies) final h =
    ap (λ (l : List Reply). Done ∷ l) (run_none Known h.0.state final.state replies (history_runs Known double h.0 [] replies final h.2)).0
safe_alone Known before replies final h = absurd h

makes_safe : MakesArray (Safe shape_here)
makes_safe = record {
  shape = shape_here;
  placed = shape_is;
  made = refl;
  after = refl;
  short = omega (arith, safe_short);
  alone = safe_alone;
}

pub prints_refused_safe : OneLine → (end : Replay) → HasStopped (codes "safe 1024 64 4 32 2\nreed 3\n") end → taken_in end.sink ≡ codes "ok\nline 2 word\n"
prints_refused_safe one end did =
    let stopped = did.stopped in
    let input = stopped.input in
    stops one (Safe shape_here) makes_safe did.before (counts_in end.rack) did.images (member_in end.rack) (Unit {0}) (told_in end.rack) stopped.events stopped.replies
    stopped.kind input.0 (taken_in end.sink) stopped.ran (sym safe_text ∙ input.1) input.2 stopped.output

-- ---- the sink fails

abbrev alone : List ℕ
alone = codes "array 1024 64 4 32 2\n"

alone_text : alone ≡ line_of (Array shape_here) ++ []
unfolding digits
alone_text = refl

-- a part of a line is a front of it
part_is_front : (n : ℕ) (line : List ℕ) → IsFront (take n line) line
part_is_front n line = record { rest = drop n line; split = sym (take-append-drop n line) }

no_front : (front : List Reply) (last reply : Reply) → front ++ last ∷ [] ≡ reply ∷ [] → (front ≡ []) × (last ≡ reply)
no_front [] last reply e = let same : last ≡ reply = cc in (refl, same)
no_front (x ∷ []) last reply e = absurd (cc e)
no_front (x ∷ y ∷ front) last reply e = absurd (cc e)

no_push : (front : List Reply) (last : Reply) → front ++ last ∷ [] ≡ [] → ⊥
no_push [] last e = absurd (cc e)
no_push (x ∷ front) last e = absurd (cc e)

none_behind : (x y : List ℕ) → [] ≡ x ++ y → y ≡ []
none_behind [] y e = sym e
none_behind (z ∷ x) y e = absurd (cc e)

-- what stands behind the only line of the text
behind : OneLine → (s : Shape) (es : List Event) (more : List ℕ) → IsInPlace None (Array s) → alone ≡ input_of (Array s ∷ es) ++ more → [] ≡ input_of es ++ more
behind one s es more well is =
    (one None (Array shape_here) (Array s) [] (input_of es ++ more) shape_is well (sym alone_text ∙ is ∙ append_assoc (line_of (Array s)) (input_of es) more)).1

no_line : (es : List Event) (more : List ℕ) → [] ≡ input_of es ++ more → es ≡ []
no_line [] more e = refl
no_line (event ∷ es) more e =
    let none : length (input_of (event ∷ es) ++ more) ≡ 0 = sym (ap length e) in
    absurd (omega (arith, length-append (input_of (event ∷ es)) more, length-append (line_of event) (input_of es), length-append (spelling event) (codes "\n")))

-- a text that begins with the line of `array` doesn't begin with one of `safe`
not_safe : OneLine → (s : Shape) (es : List Event) (text : List ℕ) → IsShape s → (more : List ℕ) → line_of (Array shape_here) ++ more ≡ input_of (Safe s ∷ es) ++ text → ⊥
not_safe one s es text well more is =
    let first = one None (Array shape_here) (Safe s) more (input_of es ++ text) shape_is well (is ∙ append_assoc (line_of (Safe s)) (input_of es) text) in
    let same : Array shape_here ≡ Safe s = first.0 in cc same

reply_cut : OneLine → (before now : Counts) (images bytes : ℕ → Option (List ℕ)) (steady : Type 0) (tells : ℕ → Type 0) (events : List Event) (replies : List Reply) (last : Reply) (more taken : List ℕ) (n : ℕ)
    → Ran before now images bytes steady tells events (replies ++ last ∷ []) → alone ≡ input_of events ++ more → taken ≡ output_of replies ++ take n (reply_line last) → IsFront taken (codes "ok\n")
reply_cut one before now images bytes steady tells [] replies last more taken n ran is took =
    absurd (no_push replies last (history_none (TellsBoundaries tells ran.final.state) before (replies ++ last ∷ []) ran.final ran.history))
reply_cut one before now images bytes steady tells (Array s ∷ es) replies last more taken n ran is took =
    let only : es ≡ [] = no_line es more (behind one s es more ran.in_place.0 is) in
    let history = subst (λ (l : List Event). HistoryOf (TellsBoundaries tells ran.final.state) before (Array s ∷ l) (replies ++ last ∷ []) ran.final) only ran.history in
    let first = no_front replies last Done (made_alone (TellsBoundaries tells ran.final.state) before s (replies ++ last ∷ []) ran.final history) in
    let text : taken ≡ take n (reply_line Done) =
    took ∙ ap (λ (l : List Reply). output_of l ++ take n (reply_line last)) first.0 ∙ ap (λ (r : Reply). take n (reply_line r)) first.1 in
    subst (λ (l : List ℕ). IsFront l (codes "ok\n")) (sym text) (part_is_front n (codes "ok\n"))
reply_cut one before now images bytes steady tells (Safe s ∷ es) replies last more taken n ran is took = absurd (not_safe one s es more ran.in_place.0 [] (sym alone_text ∙ is))
reply_cut one before now images bytes steady tells (event ∷ es) replies last more taken n ran is took = absurd ran.in_place.0

no_refusal : OneLine → (before now : Counts) (images bytes : ℕ → Option (List ℕ)) (steady : Type 0) (tells : ℕ → Type 0) (events : List Event) (replies : List Reply) (kind : BadLine) (text : List ℕ) → Ran before now images bytes steady tells events replies
    → alone ≡ input_of events ++ text → StopsAt events kind text → ⊥
no_refusal one before now images bytes steady tells [] replies kind text ran is stop =
    let over = stop.none (Array shape_here) [] shape_is (sym is ∙ alone_text) in
    absurd (omega (arith, over, line_short))
no_refusal one before now images bytes steady tells (Array s ∷ es) replies kind text ran is stop =
    let empty = stop.some (none_behind (input_of es) text (behind one s es text ran.in_place.0 is)) in
    absurd (cc empty)
no_refusal one before now images bytes steady tells (Safe s ∷ es) replies kind text ran is stop = absurd (not_safe one s es text ran.in_place.0 [] (sym alone_text ∙ is))
no_refusal one before now images bytes steady tells (event ∷ es) replies kind text ran is stop = absurd ran.in_place.0

cut_front : OneLine → (before now : Counts) (images bytes : ℕ → Option (List ℕ)) (steady : Type 0) (tells : ℕ → Type 0) (left taken : List ℕ) → IsCut before now images bytes steady tells (Some alone) (Some left) (Some []) (Some taken) → IsFront taken (codes "ok\n")
cut_front one before now images bytes steady tells left taken (inl cut) =
    reply_cut one before now images bytes steady tells cut.events cut.replies cut.last cut.input.more taken cut.output.n cut.ran cut.input.split cut.output.is
cut_front one before now images bytes steady tells left taken (inr cut) = absurd (no_refusal one before now images bytes steady tells cut.events cut.replies cut.kind cut.input.0 cut.ran cut.input.1 cut.input.2)

pub prints_front : OneLine → (end : Replay) → HasBeenCut (codes "array 1024 64 4 32 2\n") end → IsFront (taken_in end.sink) (codes "ok\n")
prints_front one end did = cut_front one did.before (counts_in end.rack) did.images (member_in end.rack) (Unit {0}) (told_in end.rack) (left_in end.source) (taken_in end.sink) did.cut
