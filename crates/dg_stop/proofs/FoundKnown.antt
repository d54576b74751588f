-- The headers of the members on which no call failed, where their bytes are told.
use Rattle.std.proofs.Common.{◌≡◌, ◌<◌, ℕ, Bool, true, false, List, length, sym, ◌∙◌, ap, arith, inl, inr, subst}
use Rattle.std.specs.Prelude.{Option, Some, None, IfSome, IsSome}
use Rattle.std.proofs.lemmas.Bool.{false≢true}
use Rattle.std.proofs.lemmas.List.{get_or_past}
use Rattle.dg_io.specs.Told.{IsSame, Told}
use Rattle.dg_io.specs.declared.outside.Rack.{Ghosts}
use Rattle.dg_stop.proofs.BlankLemmas.{no_header_unknown}
use Rattle.dg_stop.proofs.OneCommit.{lt_or, told_both}
use Rattle.dg_stop.proofs.ReadLemmas.{known_in as known_found, known_or}
use Rattle.dg_stop.proofs.StepLemmas.{if_known}
use Rattle.dg_stop.specs.Doubles.{known_in}
use Rattle.dg_stop.specs.FoundHeaders.{AreFound, AreHeadersOf, IsIn, found_at}
use Rattle.dg_stop.specs.Headers.{Header as Value, HasHeader}
use Rattle.dg_stop.specs.Phases.{TellsKnown, bytes_or, flag_in, known_at}
use Rattle.dg_stop.specs.Values.{header_of}
use Rattle.dg_stop.specs.declared.found_headers.Found.{Found}
use Rattle.dg_stop.specs.declared.headers.Header.{Header}
use Rattle.dg_stop.specs.declared.memories.Memory.{Memory}

abbrev pub code_of : Value → Header
code_of v = record { sequence = v.sequence; committed = v.committed; member = v.member; size = v.size; room = v.room; extra = v.extra }

pub some_or : (P : List ℕ → Type 0) (x : Option (List ℕ)) → IfSome x P → IsSome x → P (bytes_or x)
some_or P None h is = absurd (false≢true is)
some_or P (Some l) h is = h

module _ {S : Type 0} (rack : Ghosts S) (found : List Found) (known failed : List Bool) (old mid : S) (so : AreFound rack 32 found known failed old mid) (memory : Memory) (same : memory.known ≡ known)
    (count : length known ≡ 32) where
  pub same_read : (q : ℕ) → Told IsSame (rack.bytes old q) (rack.bytes mid q)
  same_read q = elim (lt_or q 32) [ inl low ↦ (so.below q low).same | inr high ↦ (so.rest q high).same ]

  pub known_is : (q : ℕ) → known_in memory q ≡ flag_in known q
  known_is q = ap (λ (l : List Bool). flag_in l q) same

  pub known_low : (q : ℕ) → known_in memory q ≡ true → q < 32
  known_low q on = elim (lt_or q 32) [
    | inl low ↦ low
    | inr high ↦ absurd (false≢true (sym (get_or_past known q false (omega (arith, count, high))) ∙ sym (known_is q) ∙ on))
  ]

  module _ (told : TellsKnown (known_in memory) (rack.bytes mid)) where
    pub before_mid : (q : ℕ) → known_in memory q ≡ true → known_at (known_in memory) (rack.bytes old) q ≡ bytes_or (rack.bytes mid q)
    before_mid q on = if_known (known_in memory q) (bytes_or (rack.bytes old q)) on ∙ sym (told_both IsSame (rack.bytes old q) (rack.bytes mid q) (same_read q) (told q on))

    headers_before : (q : ℕ) → known_in memory q ≡ true → AreHeadersOf q (found_at found q) (known_at (known_in memory) (rack.bytes old) q)
    headers_before q on = subst (AreHeadersOf q (found_at found q)) (sym (before_mid q on))
        (some_or (AreHeadersOf q (found_at found q)) (rack.bytes mid q) ((so.below q (known_low q on)).on (sym (known_is q) ∙ on)).headers (told q on))

    -- the headers of the known members are those that were found
    pub in_of : (q : ℕ) (v : Value) → HasHeader q (known_at (known_in memory) (rack.bytes old) q) v → (known_in memory q ≡ true) × IsIn (code_of v) (found_at found q)
    in_of q v has = elim (known_or (known_in memory q)) [
      | inl on ↦ (on, (headers_before q on (code_of v)).1 has)
      | inr out ↦ absurd (no_header_unknown memory (rack.bytes old) q out v has)
    ]

    pub had_of : (q : ℕ) (h : Header) → IsIn h (found_at found q) → HasHeader q (known_at (known_in memory) (rack.bytes old) q) (header_of h)
    had_of q h isin =
        let is = known_found rack found known failed old mid so q h isin in
        (headers_before q (known_is q ∙ is.1) h).0 isin
