-- Lines that are served break off.
use Rattle.std.proofs.Common.{◌≡◌, ◌≤◌, ◌+◌, ◌-◌, ◌^◌, ℕ, List, [], ◌∷◌, ◌++◌, length, take, sym, ◌∙◌, ap, subst, arith, append_assoc, length-append, inl, inr}
use Rattle.std.specs.Prelude.{◌⊎◌, Option, Some, None}
use Rattle.std.specs.Option.{option_map}
use Rattle.std.proofs.lemmas.List.{append-nil}
use Rattle.std.proofs.lemmas.List.Concat.{flat_map-append}
use Rattle.std.proofs.lemmas.List.Elements.{All-append}
use Rattle.dg_io.specs.declared.outside.Rack.{Ghosts}
use Rattle.dg_io.specs.Told.{Told, Took, TookPart}
use Rattle.dg_model.specs.declared.shapes.Shape.{Shape}
use Rattle.dg_model.specs.declared.events.Event.{Event}
use Rattle.dg_run.specs.Bases.{base}
use Rattle.dg_run.specs.Histories.{EventDone, EventListed, EventWanted, TellsLine, boundaries_of, Running}
use Rattle.dg_text.specs.Lines.{line_of, input_of, longest, IsInPlace}
use Rattle.dg_text.specs.Replies.{output_of, reply_line}
use Rattle.dg_text.specs.ToldSteps.{took_both}
use Rattle.dg_run.specs.Endings.{GaveLines, StartsWith, StopsBefore, TookUpTo, LinesBrokeOff, LinesCut, LinesDone, LinesListed, LinesRanOut, LinesWanted, RanOutAt, ServedLinePart, WantedLine}
use Rattle.dg_run.specs.Events.{Begins}
use Rattle.dg_run.specs.Inputs.{AwaitsLine, BeginsWithLine}
use Rattle.dg_run.specs.Lines.{BeginsAll}
use Rattle.dg_run.proofs.Inputs.{All-one}
use Rattle.dg_run.proofs.Runs.{SoFar, output_more, runs_before, volume_runs_before, volume_runs_more}
use Rattle.dg_run.proofs.ToldSteps.{Told-then}

-- the line of an event was taken, and the source has so much left
pub starts_left : (shape : Option Shape) (event : Event) (unread : List ℕ) (x y : Option (List ℕ)) → Told (Begins shape event) x (option_map (λ more. unread ++ more) y) → Told (StartsWith (line_of event)) x y
starts_left shape event unread x None told = tt
starts_left shape event unread None (Some b) told = absurd told
starts_left shape event unread (Some a) (Some b) told = record { more = unread ++ b; split = told.line }

-- such a line is next, and the source has so much left
pub awaits_left : (most room : ℕ) (unread : List ℕ) (x y : Option (List ℕ)) → Told (BeginsWithLine most room) x (option_map (λ more. unread ++ more) y) → Told (AwaitsLine most room) x y
awaits_left most room unread x None told = tt
awaits_left most room unread None (Some b) told = absurd told
awaits_left most room unread (Some a) (Some b) told = (unread ++ b, told)

-- a line is next behind those that a text begins with
stops_before : (shape : Option Shape) (most room left : ℕ) (es : List Event) (x y z : Option (List ℕ)) → room ≡ left → Told (BeginsAll shape es) x y → Told (AwaitsLine most room) y z
    → Told (StopsBefore most left (input_of es)) x z
stops_before shape most room left es x y z same first second =
    subst (λ (n : ℕ). Told (StopsBefore most n (input_of es)) x z) same
    (Told-then (BeginsAll shape es) (AwaitsLine most room) (StopsBefore most room (input_of es)) (λ p q r f s. record { more = q; split = f.lines; next = s }) x y z first second)

more_lines : (es : List Event) (e : Event) → input_of (es ++ e ∷ []) ≡ input_of es ++ line_of e
more_lines es e = flat_map-append line_of es (e ∷ []) ∙ ap (λ (l : List ℕ). input_of es ++ l) (append-nil (line_of e))

-- one line more of those that a text begins with
starts_more : (shape : Option Shape) (es : List Event) (e : Event) (x y z : Option (List ℕ)) → Told (BeginsAll shape es) x y → Told (StartsWith (line_of e)) y z
    → Told (StartsWith (input_of (es ++ e ∷ []))) x z
starts_more shape es e x y z first second = Told-then (BeginsAll shape es) (StartsWith (line_of e)) (StartsWith (input_of (es ++ e ∷ [])))
    (λ p q o f s. record {
      more = s.more;
      split = f.lines ∙ ap (λ (l : List ℕ). input_of es ++ l) s.split ∙ sym (append_assoc (input_of es) (line_of e) s.more)
          ∙ ap (λ (l : List ℕ). l ++ s.more) (sym (more_lines es e));
    }) x y z first second

module _ {R : Type 0} (rack : Ghosts R) where
  broke_off : (shape : Shape) (first from passed number : ℕ) (x y z t u : Option (List ℕ)) (a b : Running R) → passed ≤ 2 ^ 40 → SoFar rack shape first from passed number x y t u a b
      → Told (GaveLines []) y z → LinesBrokeOff rack [] shape first x z t u a b
  broke_off shape first from passed number x y z t u a b budget was told = record {
    events = was.events;
    replies = was.served.replies;
    in_place = was.served.in_place;
    budget = omega (arith, was.passed_is);
    runs = was.served.runs;
    input = Told-then (BeginsAll (Some shape) was.events) (GaveLines []) (GaveLines (input_of was.events))
        (λ p q r f s. record { part = s.part; split = f.lines ∙ ap (λ (l : List ℕ). input_of was.events ++ l) s.split; none = s.none }) x y z was.served.input told;
    output = was.served.output;
  }

  pub lines_broke_off : (shape : Shape) (first from passed number : ℕ) (x y z t u v : Option (List ℕ)) (a b c : Running R) → passed ≤ 2 ^ 40 → SoFar rack shape first from passed number x y t u a b
      → Told (GaveLines []) y z → v ≡ u → c ≡ b → LinesBrokeOff rack [] shape first x z t v a c
  lines_broke_off shape first from passed number x y z t u v a b c budget was told same kept =
      subst (λ (o : Option (List ℕ)). LinesBrokeOff rack [] shape first x z t o a c) (sym same)
      (subst (λ (s : Running R). LinesBrokeOff rack [] shape first x z t u a s) (sym kept) (broke_off shape first from passed number x y z t u a b budget was told))

  pub lines_cut : (shape : Shape) (first from passed number : ℕ) (x y z t u v : Option (List ℕ)) (a b c : Running R) → passed ≤ 2 ^ 40 → SoFar rack shape first from passed number x y t u a b
      → ServedLinePart rack shape (2 ^ 40 - passed) y z u v b c → (TellsLine (base rack) c → TellsLine (base rack) b) → LinesCut rack [] shape first x z t v a c
  lines_cut shape first from passed number x y z t u v a b c budget was line told =
      let es = was.events in
      let e = line.event in
      let rs = was.served.replies in
      let r = line.answered.reply in
      let size = ap length (more_lines es e) in
      record {
        events = es ++ e ∷ [];
        replies = rs;
        last = r;
        in_place = All-append (IsInPlace (Some shape)) es (e ∷ []) was.served.in_place (All-one (IsInPlace (Some shape)) e line.in_place);
        budget = omega (arith, size, length-append (input_of es) (line_of e), was.passed_is, line.within);
        runs = volume_runs_more rack a b c es rs e r was.served.runs line.answered.runs told;
        input = starts_more (Some shape) es e x y z was.served.input line.input;
        output = Told-then (Took (output_of rs)) (TookPart (reply_line r)) (TookUpTo (output_of rs) (reply_line r))
            (λ p q o f s. record { n = s.0; is = s.1 ∙ ap (λ (l : List ℕ). l ++ take s.0 (reply_line r)) f ∙ append_assoc p (output_of rs) (take s.0 (reply_line r)) })
            t u v was.served.output line.answered.output;
      }

  lines_ran_out : (shape : Shape) (first from passed number : ℕ) (x y z t u v : Option (List ℕ)) (a b c : Running R) → passed ≤ 2 ^ 40 → SoFar rack shape first from passed number x y t u a b
      → Told (AwaitsLine (longest (Some shape)) (2 ^ 40 - passed)) y z → v ≡ u → boundaries_of c ≡ boundaries_of b → (TellsLine (base rack) c → TellsLine (base rack) b)
      → LinesWanted rack [] shape first x z t v a c
  lines_ran_out shape first from passed number x y z t u v a b c budget was told kept same tells = record {
    events = was.events;
    replies = was.served.replies;
    in_place = was.served.in_place;
    budget = omega (arith, was.passed_is);
    runs = runs_before rack a b c was.events was.served.replies was.served.runs same tells;
    input = stops_before (Some shape) (longest (Some shape)) (2 ^ 40 - passed) (2 ^ 40 - (first + length (input_of was.events))) was.events x y z
        (ap (λ (n : ℕ). 2 ^ 40 - n) was.passed_is) was.served.input told;
    output = subst (λ (o : Option (List ℕ)). Told (Took (output_of was.served.replies)) t o) (sym kept) was.served.output;
  }

  -- the reply of the last line was written whole
  ran_out_behind_reply : (shape : Shape) (first from passed number : ℕ) (x y z t u v : Option (List ℕ)) (a b c : Running R) → passed ≤ 2 ^ 40 → SoFar rack shape first from passed number x y t u a b
      → (line : WantedLine rack shape (2 ^ 40 - passed) y z u v b c) → EventDone rack line.event u v b c → (TellsLine (base rack) c → TellsLine (base rack) b)
      → LinesDone rack [] shape first x z t v a c
  ran_out_behind_reply shape first from passed number x y z t u v a b c budget was line answered told =
      let es = was.events in
      let e = line.event in
      let rs = was.served.replies in
      let r = answered.reply in
      let size = ap length (more_lines es e) in
      record {
        events = es;
        last = e;
        replies = rs ++ r ∷ [];
        notes = answered.notes;
        in_place = All-append (IsInPlace (Some shape)) es (e ∷ []) was.served.in_place (All-one (IsInPlace (Some shape)) e line.in_place);
        budget = omega (arith, size, length-append (input_of es) (line_of e), was.passed_is, line.within);
        runs = volume_runs_before rack a c (es ++ e ∷ []) (rs ++ r ∷ []) (volume_runs_more rack a b c es rs e r was.served.runs answered.runs told);
        input = starts_more (Some shape) es e x y z was.served.input line.input;
        output = output_more rack rs r t u v was.served.output answered.output;
      }

  -- of the listing that the last line asks for the first lines were written
  ran_out_in_listing : (shape : Shape) (first from passed number : ℕ) (x y z t u v : Option (List ℕ)) (a b c : Running R) → passed ≤ 2 ^ 40 → SoFar rack shape first from passed number x y t u a b
      → (line : WantedLine rack shape (2 ^ 40 - passed) y z u v b c) → EventListed rack line.event u v b c → (TellsLine (base rack) c → TellsLine (base rack) b)
      → LinesListed rack [] shape first x z t v a c
  ran_out_in_listing shape first from passed number x y z t u v a b c budget was line listed told =
      let es = was.events in
      let e = line.event in
      let rs = was.served.replies in
      let r = listed.reply in
      let size = ap length (more_lines es e) in
      record {
        events = es;
        replies = rs;
        last = e;
        reply = r;
        text = listed.text;
        lines = listed.lines;
        in_place = All-append (IsInPlace (Some shape)) es (e ∷ []) was.served.in_place (All-one (IsInPlace (Some shape)) e line.in_place);
        budget = omega (arith, size, length-append (input_of es) (line_of e), was.passed_is, line.within);
        runs = volume_runs_before rack a c (es ++ e ∷ []) (rs ++ r ∷ []) (volume_runs_more rack a b c es rs e r was.served.runs listed.runs told);
        input = starts_more (Some shape) es e x y z was.served.input line.input;
        output = took_both (output_of rs) listed.text t u v was.served.output listed.output;
      }

  ran_out_by : (shape : Shape) (first from passed number : ℕ) (x y z t u v : Option (List ℕ)) (a b c : Running R) → passed ≤ 2 ^ 40 → SoFar rack shape first from passed number x y t u a b
      → (line : WantedLine rack shape (2 ^ 40 - passed) y z u v b c) → EventDone rack line.event u v b c ⊎ EventListed rack line.event u v b c
      → (TellsLine (base rack) c → TellsLine (base rack) b) → LinesRanOut rack [] shape first x z t v a c
  ran_out_by shape first from passed number x y z t u v a b c budget was line (inl answered) told =
      inr (inl (ran_out_behind_reply shape first from passed number x y z t u v a b c budget was line answered told))
  ran_out_by shape first from passed number x y z t u v a b c budget was line (inr listed) told =
      inr (inr (ran_out_in_listing shape first from passed number x y z t u v a b c budget was line listed told))

  pub lines_ran_out_at : (shape : Shape) (first from passed number : ℕ) (x y z t u v : Option (List ℕ)) (a b c : Running R) → passed ≤ 2 ^ 40 → SoFar rack shape first from passed number x y t u a b
      → RanOutAt rack shape (2 ^ 40 - passed) y z u v b c → boundaries_of c ≡ boundaries_of b → (TellsLine (base rack) c → TellsLine (base rack) b) → LinesRanOut rack [] shape first x z t v a c
  lines_ran_out_at shape first from passed number x y z t u v a b c budget was (inl none) same told =
      inl (lines_ran_out shape first from passed number x y z t u v a b c budget was none.0 none.1 same told)
  lines_ran_out_at shape first from passed number x y z t u v a b c budget was (inr line) same told =
      ran_out_by shape first from passed number x y z t u v a b c budget was line line.answered told

  -- memory was wanting for the event of a line that was taken
  pub ran_out_of : (shape : Shape) (room : ℕ) (event : Event) (unread : List ℕ) (left rest taken given : Option (List ℕ)) (old now : Running R) → IsInPlace (Some shape) event
      → length (line_of event) ≤ room → Told (Begins (Some shape) event) left (option_map (λ more. unread ++ more) rest)
      → Told (BeginsWithLine (longest (Some shape)) room) left (option_map (λ more. unread ++ more) rest) → EventWanted rack event taken given old now
      → RanOutAt rack shape room left rest taken given old now
  ran_out_of shape room event unread left rest taken given old now place within told whole (inl same) = inl (awaits_left (longest (Some shape)) room unread left rest whole, same)
  ran_out_of shape room event unread left rest taken given old now place within told whole (inr answered) = inr (record {
    event = event;
    in_place = place;
    within = within;
    input = starts_left (Some shape) event unread left rest told;
    answered = answered;
  })

  -- ---- behind what was written before

  pub broke_off_behind : (front : List ℕ) (shape : Shape) (first : ℕ) (x z t m v : Option (List ℕ)) (a b : Running R) → Told (Took front) t m → LinesBrokeOff rack [] shape first x z m v a b → LinesBrokeOff rack front shape first x z t v a b
  broke_off_behind front shape first x z t m v a b wrote lines = record {
    events = lines.events;
    replies = lines.replies;
    in_place = lines.in_place;
    budget = lines.budget;
    runs = lines.runs;
    input = lines.input;
    output = Told-then (Took front) (Took (output_of lines.replies)) (Took (front ++ output_of lines.replies))
        (λ p q o f s. s ∙ ap (λ (l : List ℕ). l ++ output_of lines.replies) f ∙ append_assoc p front (output_of lines.replies)) t m v wrote lines.output;
  }

  pub cut_behind : (front : List ℕ) (shape : Shape) (first : ℕ) (x z t m v : Option (List ℕ)) (a b : Running R) → Told (Took front) t m → LinesCut rack [] shape first x z m v a b → LinesCut rack front shape first x z t v a b
  cut_behind front shape first x z t m v a b wrote lines =
      let out = output_of lines.replies in
      record {
        events = lines.events;
        replies = lines.replies;
        last = lines.last;
        in_place = lines.in_place;
        budget = lines.budget;
        runs = lines.runs;
        input = lines.input;
        output = Told-then (Took front) (TookUpTo out (reply_line lines.last)) (TookUpTo (front ++ out) (reply_line lines.last))
            (λ p q o f s. record {
              n = s.n;
              is = s.is ∙ ap (λ (l : List ℕ). l ++ (out ++ take s.n (reply_line lines.last))) f ∙ append_assoc p front (out ++ take s.n (reply_line lines.last))
                  ∙ ap (λ (l : List ℕ). p ++ l) (sym (append_assoc front out (take s.n (reply_line lines.last))));
            }) t m v wrote lines.output;
      }

  wanted_behind : (front : List ℕ) (shape : Shape) (first : ℕ) (x z t m v : Option (List ℕ)) (a b : Running R) → Told (Took front) t m → LinesWanted rack [] shape first x z m v a b → LinesWanted rack front shape first x z t v a b
  wanted_behind front shape first x z t m v a b wrote lines = record {
    events = lines.events;
    replies = lines.replies;
    in_place = lines.in_place;
    budget = lines.budget;
    runs = lines.runs;
    input = lines.input;
    output = took_both front (output_of lines.replies) t m v wrote lines.output;
  }

  done_behind : (front : List ℕ) (shape : Shape) (first : ℕ) (x z t m v : Option (List ℕ)) (a b : Running R) → Told (Took front) t m → LinesDone rack [] shape first x z m v a b → LinesDone rack front shape first x z t v a b
  done_behind front shape first x z t m v a b wrote lines = record {
    events = lines.events;
    last = lines.last;
    replies = lines.replies;
    notes = lines.notes;
    in_place = lines.in_place;
    budget = lines.budget;
    runs = lines.runs;
    input = lines.input;
    output = took_both front (output_of lines.replies) t m v wrote lines.output;
  }

  listed_behind : (front : List ℕ) (shape : Shape) (first : ℕ) (x z t m v : Option (List ℕ)) (a b : Running R) → Told (Took front) t m → LinesListed rack [] shape first x z m v a b → LinesListed rack front shape first x z t v a b
  listed_behind front shape first x z t m v a b wrote lines = record {
    events = lines.events;
    replies = lines.replies;
    last = lines.last;
    reply = lines.reply;
    text = lines.text;
    lines = lines.lines;
    in_place = lines.in_place;
    budget = lines.budget;
    runs = lines.runs;
    input = lines.input;
    output = took_both front (output_of lines.replies ++ lines.text) t m v wrote lines.output;
  }

  pub ran_out_behind : (front : List ℕ) (shape : Shape) (first : ℕ) (x z t m v : Option (List ℕ)) (a b : Running R) → Told (Took front) t m → LinesRanOut rack [] shape first x z m v a b → LinesRanOut rack front shape first x z t v a b
  ran_out_behind front shape first x z t m v a b wrote (inl lines) = inl (wanted_behind front shape first x z t m v a b wrote lines)
  ran_out_behind front shape first x z t m v a b wrote (inr (inl lines)) = inr (inl (done_behind front shape first x z t m v a b wrote lines))
  ran_out_behind front shape first x z t m v a b wrote (inr (inr lines)) = inr (inr (listed_behind front shape first x z t m v a b wrote lines))
