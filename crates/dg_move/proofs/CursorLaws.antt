-- The least of the cursors is the next placement, and one round moves one of them.
use Rattle.std.proofs.Common.{◌≡◌, ◌<◌, ◌≤◌, ◌+◌, ℕ, Bool, true, List, length, get_or, set, inl, inr, refl, sym, ◌∙◌, ap, subst, arith}
use Rattle.std.proofs.lemmas.Bool.{both_ways, cases_eq, cases_lt}
use Rattle.std.proofs.lemmas.List.{get_or-set_same, get_or-set_other}
use Rattle.dg_model.specs.Moves.{is_missing}
use Rattle.dg_model.specs.Tables.{Table, used_in}
use Rattle.dg_model.specs.declared.shapes.Shape.{Shape}
use Rattle.dg_move.specs.Cursors.{AreCursors, IsFrom, IsLeastBelow, IsLeastCursor}
use Rattle.dg_move.specs.Turns.{IsNext, Meets}

module _ (targets : ℕ → ℕ → Bool) (table : Table) (next : List ℕ) (cursors : AreCursors targets table next) where
  -- no placement on a boundary is missing below its cursor
  not_below : (s c : ℕ) → s < table.shape.b → is_missing targets table c s ≡ true → get_or next s 0 ≤ c
  not_below s c low missing = elim (cases_lt c (get_or next s 0)) [
    | inl below ↦ absurd (both_ways (is_missing targets table c s) ((cursors s low).none c (omega arith) below) missing)
    | inr past ↦ past
  ]

  pub next_of : (t : ℕ) → IsLeastCursor table next t → IsNext targets table (get_or next t 0) t
  next_of t at = record {
    block = at.block;
    boundary = at.within;
    missing = (cursors t at.within).there at.block;
    room = at.room;
    least = λ c s below missing room.
        let here : get_or next s 0 ≤ c = not_below s c below missing in
        let least = at.least s below room in
        elim (cases_lt (get_or next t 0) c) [
          | inl less ↦ inl less
          | inr past ↦ elim (cases_lt s t) [
            | inl lower ↦ let low = at.lowest s lower room in absurd (omega (arith, low, here, past))
            | inr upper ↦ inr (omega (arith, past, here, least), upper)
          ]
        ];
  }

-- the cursor of a boundary moves to the next missing placement once one is met; the others stay
pub cursors_more : (targets : ℕ → ℕ → Bool) (old new : Table) (next : List ℕ) (b t r : ℕ) → AreCursors targets old next → new.shape ≡ old.shape → b ≡ get_or next t 0 → t < length next → Meets targets old new b t
    → IsFrom targets new t (b + 1) r → AreCursors targets new (set next t r)
cursors_more targets old new next b t r cursors shape at within meets from s low = elim (cases_eq s t) [
  | inl here ↦
      let now : get_or (set next t r) s 0 ≡ r = ap (λ (k : ℕ). get_or (set next t r) k 0) here ∙ get_or-set_same next t r 0 within in
      subst (λ (k : ℕ). IsFrom targets new s 0 k) (sym now)
      (subst (λ (k : ℕ). IsFrom targets new k 0 r) (sym here)
      (record {
        after = omega arith;
        most = from.most;
        none = λ c above below. elim (cases_lt b c) [
          | inl past ↦ from.none c (omega arith) below
          | inr upto ↦ elim (cases_eq c b) [
            | inl same ↦ ap (λ (k : ℕ). is_missing targets new k t) same ∙ meets.met
            | inr apart ↦
                meets.rest c t (λ e. absurd (apart e))
                ∙ (cursors t (old_below t (omega (arith, low, here)))).none c (omega arith) (let lower : c < b = omega (arith, upto, apart) in omega (arith, lower, at))
          ]
        ];
        there = from.there;
      }))
  | inr apart ↦
      let now : get_or (set next t r) s 0 ≡ get_or next s 0 = get_or-set_other next t s r 0 apart in
      let was = cursors s (old_below s low) in
      subst (λ (k : ℕ). IsFrom targets new s 0 k) (sym now)
      (record {
        after = was.after;
        most = subst (λ (x : Shape). get_or next s 0 ≤ x.n) (sym shape) was.most;
        none = λ c above below. meets.rest c s (λ _. apart) ∙ was.none c above below;
        there = λ below. meets.rest (get_or next s 0) s (λ _. apart) ∙ was.there (subst (λ (x : Shape). get_or next s 0 < x.n) shape below);
      })
]
  where
    old_below : (k : ℕ) → k < new.shape.b → k < old.shape.b
    old_below k below = subst (λ (x : Shape). k < x.b) shape below

-- ---- the least of the cursors, boundary by boundary

module _ (table : Table) (next : List ℕ) (i least block : ℕ) (so_far : IsLeastBelow table next i least block) where
  -- boundary i has a lesser block and room
  pub least_takes : (n : ℕ) → n ≡ i + 1 → get_or next i 0 < block → used_in table i ≤ table.shape.k → IsLeastBelow table next n i (get_or next i 0)
  least_takes n one less room = record {
    most = let m = so_far.most in omega arith;
    none = λ s below free. elim (cases_lt s i) [
      | inl lower ↦ let k = so_far.none s lower free in omega (arith, k, less)
      | inr upto ↦ let at : s ≡ i = omega arith in let e : get_or next s 0 ≡ get_or next i 0 = ap (λ (k : ℕ). get_or next k 0) at in omega (arith, e)
    ];
    lowest = λ s below lower free. let k = so_far.none s lower free in omega (arith, k, less);
    is = λ some. (omega arith, refl, room);
    within = omega arith;
  }

  -- boundary i has no lesser block, or no room
  pub least_keeps : (n : ℕ) → n ≡ i + 1 → (get_or next i 0 < block → used_in table i ≤ table.shape.k → ⊥) → IsLeastBelow table next n least block
  least_keeps n one kept = record {
    most = so_far.most;
    none = λ s below free. elim (cases_lt s i) [
      | inl lower ↦ so_far.none s lower free
      | inr upto ↦
          let at : s ≡ i = omega arith in
          let e : get_or next s 0 ≡ get_or next i 0 = ap (λ (k : ℕ). get_or next k 0) at in
          let room : used_in table i ≤ table.shape.k = subst (λ (k : ℕ). used_in table k ≤ table.shape.k) at free in
          elim (cases_lt (get_or next i 0) block) [
            | inl less ↦ absurd (kept less room)
            | inr past ↦ omega (arith, past, e)
          ]
    ];
    lowest = λ s below lower free. let w = so_far.within in so_far.lowest s (omega (arith, w, lower)) lower free;
    within = let w = so_far.within in omega arith;
    is = λ some. let w = so_far.is some in (let a = w.0 in omega arith, w.1, w.2);
  }
