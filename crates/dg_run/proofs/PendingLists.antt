-- The marked blocks, one after another.
use Rattle.std.proofs.Common.{◌≡◌, ◌∙◌, ◌≤◌, ◌<◌, ◌+◌, ◌-◌, ◌++◌, ◌∷◌, [], ℕ, zero, suc, Bool, cond, true, false, List, length, ap, append_assoc, arith, inl, inr, refl, subst, sym}
use Rattle.std.specs.Prelude.{Option}
use Rattle.std.specs.List.{filter, range_with_len}
use Rattle.std.proofs.lemmas.Bool.{cases_lt, false≢true}
use Rattle.std.proofs.lemmas.List.{append-nil, get_or_past}
use Rattle.std.proofs.lemmas.List.Concat.{flat_map-append}
use Rattle.std.proofs.lemmas.List.Elements.{filter-append}
use Rattle.dg_io.specs.Told.{Told, Took, TookPart}
use Rattle.dg_model.specs.Marks.{is_marked, marked}
use Rattle.dg_text.specs.Replies.{block_line, blocks_text}
use Rattle.dg_text.specs.ToldSteps.{took_both, took_part_after, took_part_of_more}

-- those below block k
abbrev pub marked_below : List Bool → ℕ → List ℕ
marked_below marks k = filter (λ b. is_marked marks b) (range_with_len 0 k)

range_more : (a n j : ℕ) → a + n ≡ j → range_with_len a (suc n) ≡ range_with_len a n ++ j ∷ []
range_more a zero j at = ap (λ (x : ℕ). x ∷ []) (omega (arith, at))
range_more a (suc n) j at = ap (λ (l : List ℕ). a ∷ l) (range_more (a + 1) n j (omega (arith, at)))

one_more : (marks : List Bool) (k : ℕ) → marked_below marks (k + 1) ≡ marked_below marks k ++ cond (is_marked marks k) (k ∷ []) []
one_more marks k =
    let next : k + 1 ≡ suc k = omega arith in
    ap (λ (n : ℕ). marked_below marks n) next
    ∙ ap (λ (l : List ℕ). filter (λ b. is_marked marks b) l) (range_more 0 k k (omega arith))
    ∙ filter-append (λ b. is_marked marks b) (range_with_len 0 k) (k ∷ [])

at_mark : (marks : List Bool) (k : ℕ) → is_marked marks k ≡ true → marked_below marks (k + 1) ≡ marked_below marks k ++ k ∷ []
at_mark marks k is = one_more marks k ∙ ap (λ (b : Bool). marked_below marks k ++ cond b (k ∷ []) []) is

at_none : (marks : List Bool) (k : ℕ) → is_marked marks k ≡ false → marked_below marks (k + 1) ≡ marked_below marks k
at_none marks k is = one_more marks k ∙ ap (λ (b : Bool). marked_below marks k ++ cond b (k ∷ []) []) is ∙ append-nil (marked_below marks k)

none_between : (marks : List Bool) (d from to : ℕ) → from + d ≡ to → ((c : ℕ) → from ≤ c → c < to → is_marked marks c ≡ false)
    → marked_below marks to ≡ marked_below marks from
none_between marks zero from to at none = ap (λ (n : ℕ). marked_below marks n) (omega (arith, at))
none_between marks (suc d) from to at none =
    ap (λ (n : ℕ). marked_below marks n) (omega (arith, at))
    ∙ at_none marks (from + d) (none (from + d) (omega arith) (omega (arith, at)))
    ∙ none_between marks d from (from + d) refl (λ c low high. none c low (omega (arith, at)))

-- the next one
pub marked_next : (marks : List Bool) (from b : ℕ) → from ≤ b → ((c : ℕ) → from ≤ c → c < b → is_marked marks c ≡ false) → is_marked marks b ≡ true
    → marked_below marks (b + 1) ≡ marked_below marks from ++ b ∷ []
marked_next marks from b low none is =
    at_mark marks b is ∙ ap (λ (l : List ℕ). l ++ b ∷ []) (none_between marks (b - from) from b (omega arith) none)

-- there is no other
pub marked_end : (marks : List Bool) (from : ℕ) → from ≤ length marks → ((c : ℕ) → from ≤ c → is_marked marks c ≡ false) → marked marks ≡ marked_below marks from
marked_end marks from low none = none_between marks (length marks - from) from (length marks) (omega arith) (λ c above below. none c above)

-- a marked block is one of those that have a mark
pub marked_within : (marks : List Bool) (b : ℕ) → is_marked marks b ≡ true → b < length marks
marked_within marks b is = elim (cases_lt b (length marks)) [
  | inl below ↦ below
  | inr past ↦ absurd (false≢true (sym (get_or_past marks b false (omega arith)) ∙ is))
]

-- those from a block on
record MarkedFrom (marks : List Bool) (k to : ℕ) : Type 0 where
  rest : List ℕ
  split : marked_below marks to ≡ marked_below marks k ++ rest

marked_from : (marks : List Bool) (d k to : ℕ) → k + d ≡ to → MarkedFrom marks k to
marked_from marks zero k to at = record {
  rest = [];
  split = ap (λ (n : ℕ). marked_below marks n) (omega (arith, at)) ∙ sym (append-nil (marked_below marks k));
}
marked_from marks (suc d) k to at =
    let more = marked_from marks d (k + 1) to (omega (arith, at)) in
    let here = cond (is_marked marks k) (k ∷ []) [] in
    record {
      rest = here ++ more.rest;
      split = more.split ∙ ap (λ (l : List ℕ). l ++ more.rest) (one_more marks k) ∙ append_assoc (marked_below marks k) here more.rest;
    }

text_more : (blocks : List ℕ) (b : ℕ) → blocks_text (blocks ++ b ∷ []) ≡ blocks_text blocks ++ block_line b
text_more blocks b = flat_map-append block_line blocks (b ∷ []) ∙ ap (λ (l : List ℕ). blocks_text blocks ++ l) (append-nil (block_line b))

-- the line of the next one was written
pub wrote_next : (marks : List Bool) (from b : ℕ) (x y z : Option (List ℕ)) → marked_below marks (b + 1) ≡ marked_below marks from ++ b ∷ []
    → Told (Took (blocks_text (marked_below marks from))) x y → Told (Took (block_line b)) y z → Told (Took (blocks_text (marked_below marks (b + 1)))) x z
wrote_next marks from b x y z is wrote line =
    let text = ap (λ (l : List ℕ). blocks_text l) is ∙ text_more (marked_below marks from) b in
    subst (λ (l : List ℕ). Told (Took l) x z) (sym text) (took_both (blocks_text (marked_below marks from)) (block_line b) x y z wrote line)

-- it was written in part
pub wrote_next_part : (marks : List Bool) (from b : ℕ) (x y z : Option (List ℕ)) → b < length marks → marked_below marks (b + 1) ≡ marked_below marks from ++ b ∷ []
    → Told (Took (blocks_text (marked_below marks from))) x y → Told (TookPart (block_line b)) y z → Told (TookPart (blocks_text (marked marks))) x z
wrote_next_part marks from b x y z within is wrote line =
    let front = blocks_text (marked_below marks from) ++ block_line b in
    let more = marked_from marks (length marks - (b + 1)) (b + 1) (length marks) (omega arith) in
    let text : front ++ blocks_text more.rest ≡ blocks_text (marked marks) =
    ap (λ (l : List ℕ). l ++ blocks_text more.rest) (sym (ap (λ (l : List ℕ). blocks_text l) is ∙ text_more (marked_below marks from) b))
    ∙ sym (flat_map-append block_line (marked_below marks (b + 1)) more.rest) ∙ ap (λ (l : List ℕ). blocks_text l) (sym more.split) in
    subst (λ (l : List ℕ). Told (TookPart l) x z) text
    (took_part_of_more front (blocks_text more.rest) x z (took_part_after (blocks_text (marked_below marks from)) (block_line b) x y z wrote line))
