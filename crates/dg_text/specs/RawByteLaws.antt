-- How what a receiver takes goes on from one piece to the next.
use Rattle.std.proofs.Common.{ℕ, List, [], ◌++◌, length, length-append, refl, sym, ◌∙◌, subst, arith}
use Rattle.dg_io.specs.SinkCalls.{LeavesSink}
use Rattle.dg_io.specs.SinkLines.{lines_both, lines_none}
use Rattle.dg_io.specs.declared.outside.Sink.{Ghosts}
use Rattle.dg_text.specs.SinkCallSteps.{leaves_both, leaves_more, leaves_none}
use Rattle.dg_text.specs.RawBytes.{TookRaw, TookRawPart}
use Rattle.dg_text.specs.ToldSteps.{took_none, took_both, took_part_of_more, took_part_after}
use Rattle.dg_text.specs.declared.raw.Raw.{Raw}

-- calls for some bytes, and then for others
calls_on : {K : Type 0} (sink : Ghosts K) (x y : List ℕ) (a b c : K) → LeavesSink sink.whole sink.calls (length x) (length x) a b
    → LeavesSink sink.whole sink.calls (length y) (length y) b c → LeavesSink sink.whole sink.calls (length (x ++ y)) (length (x ++ y)) a c
calls_on sink x y a b c first second =
    subst (λ (n : ℕ). LeavesSink sink.whole sink.calls n n a c) (sym (length-append x y))
    (leaves_both sink.whole sink.calls (length x) (length x) (length y) (length y) a b c first second)

pub took_raw_none : {K : Type 0} (sink : Ghosts K) (s : Raw K) → TookRaw sink s [] s
took_raw_none sink s = record {
  same = refl;
  told = took_none (sink.taken s.sink.now);
  calls = leaves_none sink.whole sink.calls s.sink.now;
  few_lines = lines_none 1 sink.whole sink.calls sink.taken s.sink.now;
}

pub took_raw_then : {K : Type 0} (sink : Ghosts K) (a b c : Raw K) (x y : List ℕ) → TookRaw sink a x b → TookRaw sink b y c → TookRaw sink a (x ++ y) c
took_raw_then sink a b c x y first second = record {
  same = second.same ∙ first.same;
  told = took_both x y (sink.taken a.sink.now) (sink.taken b.sink.now) (sink.taken c.sink.now) first.told second.told;
  calls = calls_on sink x y a.sink.now b.sink.now c.sink.now first.calls second.calls;
  few_lines = lines_both 1 sink.whole sink.calls sink.taken a.sink.now b.sink.now c.sink.now first.few_lines second.few_lines;
}

pub took_raw_then_part : {K : Type 0} (sink : Ghosts K) (a b c : Raw K) (x y : List ℕ) → TookRaw sink a x b → TookRawPart sink b y c → TookRawPart sink a (x ++ y) c
took_raw_then_part sink a b c x y first second = record {
  same = second.same ∙ first.same;
  told = took_part_after x y (sink.taken a.sink.now) (sink.taken b.sink.now) (sink.taken c.sink.now) first.told second.told;
  calls = calls_on sink x y a.sink.now b.sink.now c.sink.now first.calls second.calls;
}

pub took_raw_part : {K : Type 0} (sink : Ghosts K) (a b : Raw K) (x y : List ℕ) → TookRawPart sink a x b → TookRawPart sink a (x ++ y) b
took_raw_part sink a b x y part = record {
  same = part.same;
  told = took_part_of_more x y (sink.taken a.sink.now) (sink.taken b.sink.now) part.told;
  calls = leaves_more sink.whole sink.calls (length x) (length x) (length (x ++ y)) (length (x ++ y)) a.sink.now b.sink.now
      (omega (arith, length-append x y)) (omega (arith, length-append x y)) part.calls;
}
