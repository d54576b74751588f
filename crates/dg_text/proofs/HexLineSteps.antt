-- What a receiver has written after each of its steps.
use Rattle.std.proofs.Common.{◌≡◌, ◌≤◌, ◌<◌, ◌+◌, ℕ, List, [], ◌∷◌, ◌++◌, length, length-append, take, drop, refl, sym, ◌∙◌, ap, subst, append_assoc, arith, take-append-drop}
use Rattle.std.specs.Prelude.{All}
use Rattle.std.specs.List.{concat}
use Rattle.std.proofs.lemmas.List.{append-nil}
use Rattle.std.proofs.lemmas.List.Elements.{All-nil, All-cons, All-head, All-tail}
use Rattle.std.proofs.lemmas.List.Folds.{concat-append}
use Rattle.std.proofs.lemmas.Grind.{flat_map-append}
use Rattle.dg_io.specs.SinkCalls.{LeavesSink}
use Rattle.dg_io.specs.SinkLines.{MayWrite, feeds_in, lines_both, lines_of_text}
use Rattle.dg_io.specs.Told.{Told, Took, TookPart}
use Rattle.dg_io.specs.declared.outside.Sink.{Ghosts}
use Rattle.dg_model.specs.Lists.{AreLines}
use Rattle.dg_text.specs.Replies.{bytes_line, file_text}
use Rattle.dg_text.specs.HexLines.{waiting, rest_lines, TookBytes, TookBytesPart, Ends, EndsPart}
use Rattle.dg_text.specs.HexLineLaws.{waits_short}
use Rattle.dg_text.specs.LineCalls.{bytes_calls}
use Rattle.dg_text.specs.SinkCallSteps.{leaves_both, leaves_more}
use Rattle.dg_text.specs.ToldSteps.{took_both, took_part_after}
use Rattle.dg_text.specs.LineWeights.{may_both, may_each, may_line}
use Rattle.dg_text.proofs.Pieces.{pieces_one}
use Rattle.dg_text.proofs.ReplyWeights.{bytes_feed}
use Rattle.dg_text.specs.declared.hex_lines.HexLines.{HexLines}

-- ---- a line that is full

one_line : (line : List ℕ) → file_text (line ∷ []) ≡ bytes_line line
one_line line = append-nil (bytes_line line)

full_line : (l : ℕ) (line : List ℕ) → length line ≡ l → All (λ (s : List ℕ). length s ≡ l) (line ∷ [])
full_line l line full = All-cons (λ (s : List ℕ). length s ≡ l) line [] full (All-nil (λ (s : List ℕ). length s ≡ l))

-- a line of no more bytes than a block is one call
pub one_call : {K : Type 0} (sink : Ghosts K) (line : List ℕ) (a b : K) → length line ≤ 4096 → LeavesSink sink.whole sink.calls (bytes_calls line) (length (bytes_line line)) a b
    → LeavesSink sink.whole sink.calls 1 (length (bytes_line line)) a b
one_call sink line a b short calls =
    subst (λ (n : ℕ). LeavesSink sink.whole sink.calls n (length (bytes_line line)) a b) (pieces_one 4096 (length line) (omega arith) short) calls

pub line_written : {K : Type 0} (sink : Ghosts K) (old new : HexLines K) (front line : List ℕ) → new.l ≡ old.l → new.sink.ghost_name ≡ old.sink.ghost_name → new.used ≡ 0
    → line ≡ waiting old ++ front → length line ≡ old.l → Told (Took (bytes_line line)) (sink.taken old.sink.now) (sink.taken new.sink.now) → LeavesSink sink.whole sink.calls 1 (length (bytes_line line)) old.sink.now new.sink.now
    → TookBytes sink old front new
line_written sink old new front line l same used is full told calls =
    let none : waiting new ≡ [] = ap (λ (n : ℕ). take n new.line) used in
    let P : List ℕ → Type 0 = λ s. Told (Took s) (sink.taken old.sink.now) (sink.taken new.sink.now) in
    let Q : List ℕ → Type 0 = λ s. LeavesSink sink.whole sink.calls 1 (length s) old.sink.now new.sink.now in
    record {
      lines = line ∷ [];
      l = l;
      same = same;
      split = record {
        full = full_line old.l line full;
        whole = sym is ∙ sym (append-nil line) ∙ sym (append-nil (line ++ [])) ∙ ap (λ (s : List ℕ). (line ++ []) ++ s) (sym none);
      };
      short = waits_short new;
      told = subst P (sym (one_line line)) told;
      calls = subst Q (sym (one_line line)) calls;
      few_lines = lines_of_text 255 sink.whole sink.calls sink.taken 1 (length (bytes_line line)) (bytes_line line) old.sink.now new.sink.now
          (may_line 255 (bytes_line line) (bytes_feed line)) calls told;
    }

pub line_part : {K : Type 0} (sink : Ghosts K) (old new : HexLines K) (bytes line : List ℕ) (count : ℕ) → new.l ≡ old.l → new.sink.ghost_name ≡ old.sink.ghost_name
    → line ≡ waiting old ++ take count bytes → length line ≡ old.l → Told (TookPart (bytes_line line)) (sink.taken old.sink.now) (sink.taken new.sink.now) → LeavesSink sink.whole sink.calls 1 (length (bytes_line line)) old.sink.now new.sink.now
    → TookBytesPart sink old bytes new
line_part sink old new bytes line count l same is full told calls =
    let P : List ℕ → Type 0 = λ s. Told (TookPart s) (sink.taken old.sink.now) (sink.taken new.sink.now) in
    let Q : List ℕ → Type 0 = λ s. LeavesSink sink.whole sink.calls 1 (length s) old.sink.now new.sink.now in
    record {
      lines = line ∷ [];
      tail = drop count bytes;
      l = l;
      same = same;
      split = record {
        full = full_line old.l line full;
        whole =
            ap (λ (s : List ℕ). waiting old ++ s) (sym (take-append-drop count bytes)) ∙ sym (append_assoc (waiting old) (take count bytes) (drop count bytes))
            ∙ ap (λ (s : List ℕ). s ++ drop count bytes) (sym is ∙ sym (append-nil line));
      };
      told = subst P (sym (one_line line)) told;
      calls = subst Q (sym (one_line line)) calls;
    }

-- ---- the bytes that wait in the end

pub rest_text_some : (rest : List ℕ) → 0 < length rest → file_text (rest_lines rest) ≡ bytes_line rest
rest_text_some [] some = absurd (omega arith)
rest_text_some (x ∷ rest) some = append-nil (bytes_line (x ∷ rest))

pub rest_calls : {K : Type 0} (sink : Ghosts K) (rest : List ℕ) (a b : K) → 0 < length rest → length rest ≤ 4096
    → LeavesSink sink.whole sink.calls (bytes_calls rest) (length (bytes_line rest)) a b
    → LeavesSink sink.whole sink.calls (length (rest_lines rest)) (length (file_text (rest_lines rest))) a b
rest_calls sink [] a b some short calls = absurd (omega (arith, some))
rest_calls sink (x ∷ rest) a b some short calls =
    subst (λ (text : List ℕ). LeavesSink sink.whole sink.calls 1 (length text) a b) (sym (rest_text_some (x ∷ rest) some)) (one_call sink (x ∷ rest) a b short calls)

concat_rest : (rest : List ℕ) → concat (rest_lines rest) ≡ rest
concat_rest [] = refl
concat_rest (x ∷ rest) = append-nil (x ∷ rest)

are_lines : (l : ℕ) (lines : List (List ℕ)) (rest : List ℕ) → All (λ line. length line ≡ l) lines → length rest < l → AreLines l (lines ++ rest_lines rest)
are_lines l [] [] full short = tt
are_lines l [] (x ∷ rest) full short = (omega arith, omega arith)
are_lines l (line ∷ []) [] full short =
    let first = All-head (λ (s : List ℕ). length s ≡ l) line [] full in
    (omega arith, omega arith)
are_lines l (line ∷ []) (x ∷ rest) full short =
    let first = All-head (λ (s : List ℕ). length s ≡ l) line [] full in
    (first, (omega arith, omega arith))
are_lines l (line ∷ next ∷ lines) rest full short =
    (All-head (λ (s : List ℕ). length s ≡ l) line (next ∷ lines) full, are_lines l (next ∷ lines) rest (All-tail (λ (s : List ℕ). length s ≡ l) line (next ∷ lines) full) short)

whole_file : (lines : List (List ℕ)) (rest front bytes : List ℕ) → front ≡ [] → front ++ bytes ≡ concat lines ++ rest → concat (lines ++ rest_lines rest) ≡ bytes
whole_file lines rest front bytes nothing is =
    concat-append lines (rest_lines rest) ∙ ap (λ (s : List ℕ). concat lines ++ s) (concat_rest rest) ∙ sym is ∙ ap (λ (s : List ℕ). s ++ bytes) nothing

text_ended : (lines : List (List ℕ)) (rest last : List ℕ) → file_text lines ++ (file_text (rest_lines rest) ++ last) ≡ file_text (lines ++ rest_lines rest) ++ last
text_ended lines rest last =
    sym (append_assoc (file_text lines) (file_text (rest_lines rest)) last) ∙ ap (λ (s : List ℕ). s ++ last) (sym (flat_map-append bytes_line lines (rest_lines rest)))

-- the calls for the lines that were full, and then for the others
ended_calls : {K : Type 0} (sink : Ghosts K) (lines : List (List ℕ)) (rest last : List ℕ) (a b c : K)
    → LeavesSink sink.whole sink.calls (length lines) (length (file_text lines)) a b
    → LeavesSink sink.whole sink.calls (length (rest_lines rest) + 1) (length (file_text (rest_lines rest) ++ last)) b c
    → LeavesSink sink.whole sink.calls (length (lines ++ rest_lines rest) + 1) (length (file_text (lines ++ rest_lines rest) ++ last)) a c
ended_calls sink lines rest last a b c first second =
    let sizes : length (file_text (lines ++ rest_lines rest) ++ last) ≡ length (file_text lines) + length (file_text (rest_lines rest) ++ last) =
    ap length (sym (text_ended lines rest last)) ∙ length-append (file_text lines) (file_text (rest_lines rest) ++ last) in
    leaves_more sink.whole sink.calls _ _ (length (lines ++ rest_lines rest) + 1) (length (file_text (lines ++ rest_lines rest) ++ last)) a c
    (omega (arith, length-append lines (rest_lines rest))) (omega (arith, sizes))
    (leaves_both sink.whole sink.calls (length lines) (length (file_text lines)) (length (rest_lines rest) + 1) (length (file_text (rest_lines rest) ++ last)) a b c first second)

-- the line of the bytes that wait, and the last
rest_weight : (rest last : List ℕ) → 1 ≤ feeds_in last → MayWrite 255 (length (rest_lines rest) + 1) (file_text (rest_lines rest) ++ last)
rest_weight rest last feed =
    may_both (length (rest_lines rest)) 1 (file_text (rest_lines rest)) last (may_each bytes_line (rest_lines rest) bytes_feed) (may_line 255 last feed)

pub ends : {K : Type 0} (sink : Ghosts K) (old new : HexLines K) (last : List ℕ) → 1 ≤ feeds_in last
    → Told (Took (file_text (rest_lines (waiting old)) ++ last)) (sink.taken old.sink.now) (sink.taken new.sink.now)
    → LeavesSink sink.whole sink.calls (length (rest_lines (waiting old)) + 1) (length (file_text (rest_lines (waiting old)) ++ last)) old.sink.now new.sink.now
    → Ends sink last old new
ends sink old new last feed told calls start bytes nothing took =
    let P : List ℕ → Type 0 = λ s. Told (Took s) (sink.taken start.sink.now) (sink.taken new.sink.now) in
    let short = took.short in
    let same = took.l in
    record {
      lines = took.lines ++ rest_lines (waiting old);
      are = are_lines start.l took.lines (waiting old) took.split.full (omega arith);
      whole = whole_file took.lines (waiting old) (waiting start) bytes nothing took.split.whole;
      told = subst P (text_ended took.lines (waiting old) last)
          (took_both (file_text took.lines) (file_text (rest_lines (waiting old)) ++ last) (sink.taken start.sink.now) (sink.taken old.sink.now) (sink.taken new.sink.now) took.told told);
      calls = ended_calls sink took.lines (waiting old) last start.sink.now old.sink.now new.sink.now took.calls calls;
      few_lines = lines_both 255 sink.whole sink.calls sink.taken start.sink.now old.sink.now new.sink.now took.few_lines
          (lines_of_text 255 sink.whole sink.calls sink.taken (length (rest_lines (waiting old)) + 1) (length (file_text (rest_lines (waiting old)) ++ last))
          (file_text (rest_lines (waiting old)) ++ last) old.sink.now new.sink.now (rest_weight (waiting old) last feed) calls told);
    }

pub ends_part : {K : Type 0} (sink : Ghosts K) (old new : HexLines K) (last : List ℕ)
    → Told (TookPart (file_text (rest_lines (waiting old)) ++ last)) (sink.taken old.sink.now) (sink.taken new.sink.now)
    → LeavesSink sink.whole sink.calls (length (rest_lines (waiting old)) + 1) (length (file_text (rest_lines (waiting old)) ++ last)) old.sink.now new.sink.now
    → EndsPart sink last old new
ends_part sink old new last told calls start bytes nothing took =
    let P : List ℕ → Type 0 = λ s. Told (TookPart s) (sink.taken start.sink.now) (sink.taken new.sink.now) in
    let short = took.short in
    let same = took.l in
    record {
      lines = took.lines ++ rest_lines (waiting old);
      are = are_lines start.l took.lines (waiting old) took.split.full (omega arith);
      whole = whole_file took.lines (waiting old) (waiting start) bytes nothing took.split.whole;
      told = subst P (text_ended took.lines (waiting old) last)
          (took_part_after (file_text took.lines) (file_text (rest_lines (waiting old)) ++ last) (sink.taken start.sink.now) (sink.taken old.sink.now) (sink.taken new.sink.now) took.told told);
      calls = ended_calls sink took.lines (waiting old) last start.sink.now old.sink.now new.sink.now took.calls calls;
    }
