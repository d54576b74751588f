-- A text that a sink took, by no more than so many calls, and how one text goes on from another.
use Rattle.std.proofs.Common.{◌≡◌, ◌≤◌, ◌+◌, ℕ, List, [], ◌++◌, length, length-append, sym, ◌∙◌, ap, subst, arith}
use Rattle.dg_io.specs.SinkCalls.{LeavesSink}
use Rattle.dg_io.specs.Told.{Told, Took, TookPart}
use Rattle.dg_io.specs.declared.outside.Sink.{Ghosts}
use Rattle.dg_text.specs.SinkCallSteps.{leaves_both, leaves_more, leaves_none}
use Rattle.dg_text.specs.ToldSteps.{took_none, took_both, took_part_of_more, took_part_after}

module _ {K : Type 0} (sink : Ghosts K) where
  -- no more calls than so many, nor than the text has bytes
  abbrev Calls : List ℕ → ℕ → K → K → Type 0
  Calls text few a b = LeavesSink sink.whole sink.calls few (length text) a b

  -- the sink took the text
  abbrev pub Wrote : List ℕ → ℕ → K → K → Type 0
  Wrote text few a b = Told (Took text) (sink.taken a) (sink.taken b) × Calls text few a b

  -- it took a part of the text
  abbrev pub WrotePart : List ℕ → ℕ → K → K → Type 0
  WrotePart text few a b = Told (TookPart text) (sink.taken a) (sink.taken b) × Calls text few a b

  calls_as : (s text : List ℕ) (m few : ℕ) (a b : K) → length s ≤ length text → m ≤ few → Calls s m a b → Calls text few a b
  calls_as s text m few a b size fewer calls = leaves_more sink.whole sink.calls m (length s) few (length text) a b fewer size calls

  calls_both : (s t text : List ℕ) (m n few : ℕ) (a b c : K) → s ++ t ≡ text → m + n ≡ few → Calls s m a b → Calls t n b c → Calls text few a c
  calls_both s t text m n few a b c is all first second =
      let size : length text ≡ length s + length t = ap length (sym is) ∙ length-append s t in
      leaves_more sink.whole sink.calls (m + n) (length s + length t) few (length text) a c (omega (arith, all)) (omega (arith, size))
      (leaves_both sink.whole sink.calls m (length s) n (length t) a b c first second)

  -- a text that is empty
  pub wrote_none : (text : List ℕ) (few : ℕ) (a : K) → text ≡ [] → Wrote text few a a
  wrote_none text few a is =
      let P : List ℕ → Type 0 = λ s. Told (Took s) (sink.taken a) (sink.taken a) in
      (subst P (sym is) (took_none (sink.taken a)), leaves_more sink.whole sink.calls 0 0 few (length text) a a (omega arith) (omega arith) (leaves_none sink.whole sink.calls a))

  -- the same text, put together otherwise
  pub wrote_as : (s text : List ℕ) (m few : ℕ) (a b : K) → s ≡ text → m ≤ few → Wrote s m a b → Wrote text few a b
  wrote_as s text m few a b is fewer wrote =
      let P : List ℕ → Type 0 = λ t. Told (Took t) (sink.taken a) (sink.taken b) in
      let size : length s ≡ length text = ap length is in
      (subst P is wrote.0, calls_as s text m few a b (omega (arith, size)) fewer wrote.1)

  -- a text, and then another
  pub wrote_both : (s t text : List ℕ) (m n few : ℕ) (a b c : K) → s ++ t ≡ text → m + n ≡ few → Wrote s m a b → Wrote t n b c → Wrote text few a c
  wrote_both s t text m n few a b c is all first second =
      let P : List ℕ → Type 0 = λ u. Told (Took u) (sink.taken a) (sink.taken c) in
      (subst P is (took_both s t (sink.taken a) (sink.taken b) (sink.taken c) first.0 second.0), calls_both s t text m n few a b c is all first.1 second.1)

  -- a text, and then a part of another
  pub wrote_part_after : (s t text : List ℕ) (m n few : ℕ) (a b c : K) → s ++ t ≡ text → m + n ≡ few → Wrote s m a b → WrotePart t n b c → WrotePart text few a c
  wrote_part_after s t text m n few a b c is all first second =
      let P : List ℕ → Type 0 = λ u. Told (TookPart u) (sink.taken a) (sink.taken c) in
      (subst P is (took_part_after s t (sink.taken a) (sink.taken b) (sink.taken c) first.0 second.0), calls_both s t text m n few a b c is all first.1 second.1)

  -- a part of a text is a part of it and of what stands behind it
  pub wrote_part_of_more : (s t text : List ℕ) (m few : ℕ) (a b : K) → s ++ t ≡ text → m ≤ few → WrotePart s m a b → WrotePart text few a b
  wrote_part_of_more s t text m few a b is fewer part =
      let P : List ℕ → Type 0 = λ u. Told (TookPart u) (sink.taken a) (sink.taken b) in
      let size : length text ≡ length s + length t = ap length (sym is) ∙ length-append s t in
      (subst P is (took_part_of_more s t (sink.taken a) (sink.taken b) part.0), calls_as s text m few a b (omega (arith, size)) fewer part.1)
