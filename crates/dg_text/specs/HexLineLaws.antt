-- How what a receiver takes goes on from one piece to the next.
use Rattle.std.proofs.Common.{◌≡◌, ◌<◌, ◌+◌, ℕ, List, [], ◌++◌, length, length-append, refl, sym, ◌∙◌, ap, subst, append_assoc, arith}
use Rattle.std.specs.List.{concat}
use Rattle.std.proofs.lemmas.List.{append-nil, length-take}
use Rattle.std.proofs.lemmas.List.Elements.{All-nil, All-append}
use Rattle.std.proofs.lemmas.List.Folds.{concat-append}
use Rattle.std.proofs.lemmas.Grind.{flat_map-append}
use Rattle.dg_io.specs.SinkCalls.{LeavesSink}
use Rattle.dg_io.specs.SinkLines.{lines_both, lines_none}
use Rattle.dg_io.specs.Told.{Told, Took, TookPart}
use Rattle.dg_io.specs.declared.outside.Sink.{Ghosts}
use Rattle.dg_text.specs.Replies.{bytes_line, file_text}
use Rattle.dg_text.specs.HexLines.{waiting, InLines, TookBytes, TookBytesPart}
use Rattle.dg_text.specs.declared.hex_lines.HexLines.{HexLines}
use Rattle.dg_text.specs.SinkCallSteps.{leaves_both, leaves_more, leaves_none}
use Rattle.dg_text.specs.ToldSteps.{took_none, took_both, took_part_after}

pub in_lines_none : (l : ℕ) (tail : List ℕ) → InLines l (tail ++ []) tail []
in_lines_none l tail = record {
  full = All-nil (λ line. length line ≡ l);
  whole = append-nil tail;
}

pub in_lines_both : (l : ℕ) (front x middle y tail : List ℕ) (first second : List (List ℕ)) → InLines l (front ++ x) middle first → InLines l (middle ++ y) tail second
    → InLines l (front ++ (x ++ y)) tail (first ++ second)
in_lines_both l front x middle y tail first second a b = record {
  full = All-append (λ line. length line ≡ l) first second a.full b.full;
  whole =
      sym (append_assoc front x y) ∙ ap (λ (s : List ℕ). s ++ y) a.whole ∙ append_assoc (concat first) middle y
      ∙ ap (λ (s : List ℕ). concat first ++ s) b.whole ∙ sym (append_assoc (concat first) (concat second) tail)
      ∙ ap (λ (s : List ℕ). s ++ tail) (sym (concat-append first second));
}

text_both : (first second : List (List ℕ)) → file_text first ++ file_text second ≡ file_text (first ++ second)
text_both first second = sym (flat_map-append bytes_line first second)

-- calls for some lines, and then for others
calls_both : {K : Type 0} (sink : Ghosts K) (x y : List (List ℕ)) (a b c : K)
    → LeavesSink sink.whole sink.calls (length x) (length (file_text x)) a b → LeavesSink sink.whole sink.calls (length y) (length (file_text y)) b c
    → LeavesSink sink.whole sink.calls (length (x ++ y)) (length (file_text (x ++ y))) a c
calls_both sink x y a b c first second =
    let sizes : length (file_text (x ++ y)) ≡ length (file_text x) + length (file_text y) = ap length (sym (text_both x y)) ∙ length-append (file_text x) (file_text y) in
    leaves_more sink.whole sink.calls _ _ (length (x ++ y)) (length (file_text (x ++ y))) a c (omega (arith, length-append x y)) (omega (arith, sizes))
    (leaves_both sink.whole sink.calls (length x) (length (file_text x)) (length y) (length (file_text y)) a b c first second)

pub waits_short : {K : Type 0} (s : HexLines K) → length (waiting s) < s.l
waits_short s =
    let size = length-take s.used s.line in
    let within = s.within in
    omega arith

pub took_nothing : {K : Type 0} (sink : Ghosts K) (s : HexLines K) → TookBytes sink s [] s
took_nothing sink s = record {
  lines = [];
  l = refl;
  same = refl;
  split = in_lines_none s.l (waiting s);
  short = waits_short s;
  told = took_none (sink.taken s.sink.now);
  calls = leaves_none sink.whole sink.calls s.sink.now;
  few_lines = lines_none 255 sink.whole sink.calls sink.taken s.sink.now;
}

pub took_then : {K : Type 0} (sink : Ghosts K) (a b c : HexLines K) (x y : List ℕ) → TookBytes sink a x b → TookBytes sink b y c → TookBytes sink a (x ++ y) c
took_then sink a b c x y first second =
    let P : ℕ → Type 0 = λ l. InLines l (waiting b ++ y) (waiting c) second.lines in
    let Q : List ℕ → Type 0 = λ s. Told (Took s) (sink.taken a.sink.now) (sink.taken c.sink.now) in
    record {
      lines = first.lines ++ second.lines;
      l = second.l ∙ first.l;
      same = second.same ∙ first.same;
      split = in_lines_both a.l (waiting a) x (waiting b) y (waiting c) first.lines second.lines first.split (subst P first.l second.split);
      short = second.short;
      told = subst Q (text_both first.lines second.lines)
          (took_both (file_text first.lines) (file_text second.lines) (sink.taken a.sink.now) (sink.taken b.sink.now) (sink.taken c.sink.now) first.told second.told);
      calls = calls_both sink first.lines second.lines a.sink.now b.sink.now c.sink.now first.calls second.calls;
      few_lines = lines_both 255 sink.whole sink.calls sink.taken a.sink.now b.sink.now c.sink.now first.few_lines second.few_lines;
    }

pub took_then_part : {K : Type 0} (sink : Ghosts K) (a b c : HexLines K) (x y : List ℕ) → TookBytes sink a x b → TookBytesPart sink b y c → TookBytesPart sink a (x ++ y) c
took_then_part sink a b c x y first second =
    let P : ℕ → Type 0 = λ l. InLines l (waiting b ++ y) second.tail second.lines in
    let Q : List ℕ → Type 0 = λ s. Told (TookPart s) (sink.taken a.sink.now) (sink.taken c.sink.now) in
    record {
      lines = first.lines ++ second.lines;
      tail = second.tail;
      l = second.l ∙ first.l;
      same = second.same ∙ first.same;
      split = in_lines_both a.l (waiting a) x (waiting b) y second.tail first.lines second.lines first.split (subst P first.l second.split);
      told = subst Q (text_both first.lines second.lines)
          (took_part_after (file_text first.lines) (file_text second.lines) (sink.taken a.sink.now) (sink.taken b.sink.now) (sink.taken c.sink.now) first.told second.told);
      calls = calls_both sink first.lines second.lines a.sink.now b.sink.now c.sink.now first.calls second.calls;
    }

pub took_part_of : {K : Type 0} (sink : Ghosts K) (a b : HexLines K) (x y : List ℕ) → TookBytesPart sink a x b → TookBytesPart sink a (x ++ y) b
took_part_of sink a b x y part = record {
  lines = part.lines;
  tail = part.tail ++ y;
  l = part.l;
  same = part.same;
  split = record {
    full = part.split.full;
    whole = sym (append_assoc (waiting a) x y) ∙ ap (λ (s : List ℕ). s ++ y) part.split.whole ∙ append_assoc (concat part.lines) part.tail y;
  };
  told = part.told;
  calls = part.calls;
}
