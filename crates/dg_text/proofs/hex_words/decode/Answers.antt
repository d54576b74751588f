use Rattle.std.proofs.Common.{◌≡◌, ◌<◌, ◌+◌, ◌*◌, ℕ, ◌∷◌, [], inl, inr, sym, subst, take, slice_index, arith}
use Rattle.std.proofs.lemmas.Bool.{cases_lt, ltb-false, ltb-true}
use Rattle.std.proofs.lemmas.List.{take_all}
use Rattle.std.proofs.lemmas.List.Elements.{All-nil}
use Rattle.hex.specs.Hex.{encode_lower}
use Rattle.dg_text.specs.Lines.{AreBytes}
use Rattle.dg_text.proofs.HexWords.{all_read, byte_more, byte_spelled, digit_worth, joined_small, none_before, pair_more, parts_small, wrapped_byte}
use Rattle.dg_text.proofs.hex_words.decode.Goals as goal

pub loop-i-init : goal.loop-i-init
loop-i-init c = record { front = λ low. none_before c.args.word.now; bytes = λ low. All-nil (λ x. x < 256); none = λ large. absurd (omega (arith, large)) }

pub loop-i-preserved : goal.loop-i-preserved
loop-i-preserved c =
    let inv = c.loop-i.invariant in
    let word = c.args.word.now in
    let i : ℕ = c.loop-i.i in
    let h : ℕ = c.value_of-first.result in
    let l : ℕ = c.value_of-second.result in
    record {
      front = λ small.
          let parts = parts_small c.loop-i.values h l small in
          let spelled = byte_spelled (slice_index word (2 * i)) (slice_index word (2 * i + 1)) h l parts.1 parts.2 (c.value_of-first.ensures.found parts.1) (c.value_of-second.ensures.found parts.2) in
          pair_more word c.loop-i.bytes i _ (omega arith) (omega arith)
          (subst (λ (b : ℕ). encode_lower (b ∷ []) ≡ slice_index word (2 * i) ∷ slice_index word (2 * i + 1) ∷ []) (sym (wrapped_byte h l parts.1 parts.2)) spelled) (inv.front parts.0);
      bytes = λ small. byte_more c.loop-i.bytes i _ (omega arith) (omega arith) (inv.bytes (parts_small c.loop-i.values h l small).0);
      none = λ large spelled are is. elim (cases_lt c.loop-i.values 16) [
        | inr before ↦ inv.none before spelled are is
        | inl low ↦
            let first = digit_worth word spelled (2 * i) (omega arith) are is in
            let second = digit_worth word spelled (2 * i + 1) (omega arith) are is in
            elim (cases_lt h 16) [
              | inr high ↦ c.value_of-first.ensures.none high first.0 first.1 first.2
              | inl top ↦ elim (cases_lt l 16) [
                | inr high ↦ c.value_of-second.ensures.none high second.0 second.1 second.2
                | inl bottom ↦ absurd (omega (arith, large, joined_small c.loop-i.values h l low top bottom))
              ]
            ]
      ];
    }

pub returns-clause-found : goal.returns-clause-found
returns-clause-found c = λ yes.
    let low : c.loop-i.values < 16 = ltb-true c.loop-i.values 16 yes in
    let whole : take c.loop-i.i c.loop-i.bytes ≡ c.loop-i.bytes = take_all c.loop-i.i c.loop-i.bytes (omega arith) in (
      all_read c.args.word.now c.loop-i.bytes c.loop-i.i (omega arith) (omega arith) (c.loop-i.invariant.front low),
      subst (λ l. AreBytes l) whole (c.loop-i.invariant.bytes low),
    )

pub returns-clause-none : goal.returns-clause-none
returns-clause-none c = λ no. c.loop-i.invariant.none (ltb-false c.loop-i.values 16 no)
