-- One round after another.
use Rattle.std.proofs.Common.{◌≡◌, ◌<◌, ◌≤◌, ◌+◌, ◌⊎◌, ℕ, zero, suc, Bool, true, false, min, List, [], ◌∷◌, ◌++◌, length, inl, inr, refl, sym, ◌∙◌, ap, subst, arith}
use Rattle.std.specs.Prelude.{Some, None}
use Rattle.std.proofs.lemmas.Bool.{cases_eq, cases_lt}
use Rattle.std.proofs.lemmas.List.{append_assoc}
use Rattle.dg_model.specs.Members.{is_lost}
use Rattle.dg_model.specs.Moves.{Action, IsCutByLoss, IsCutOff, IsTidy, all_done, copy_to, count_upto, ending, give_ups, is_missing, meeting, missing, missing_in, moved, moves, next_placement, off_target, round, rounds, spare, sum_upto, tidying}
use Rattle.dg_model.specs.Plans.{Placement}
use Rattle.dg_model.specs.Sites.{is_gone}
use Rattle.dg_model.specs.Tables.{Table, sites_in}
use Rattle.dg_model.specs.declared.members.MemberState.{MemberState}
use Rattle.dg_model.specs.declared.shapes.Shape.{Shape}
use Rattle.dg_model.proofs.ActionLists.{all_both, missing_length}
use Rattle.dg_model.proofs.SumLaws.{count_one_less, count_same, sum_one_less}
use Rattle.dg_move.specs.Turns.{IsNext, IsTurned, Meets, move_to}
use Rattle.dg_move.proofs.ActLaws.{meeting_is, tidying_none}

module _ (targets : ℕ → ℕ → Bool) where
  pub turned_none : (total : ℕ) (old now : Table) → now ≡ all_done old (tidying targets old) → IsTurned targets total 0 old now
  turned_none total old now tidy = record {
    left = total;
    all = omega arith;
    acts = [];
    turned = old;
    whole = refl;
    led = refl;
    tidy = tidy;
    still = λ some. absurd (omega arith);
    start = λ few. refl;
  }

  ending_some : (table : Table) (ps : List Placement) → 0 < length ps → ending targets table ps ≡ []
  ending_some table [] some = absurd (omega arith)
  ending_some table (p ∷ ps) some = refl

  ending_none : (table : Table) (ps : List Placement) → length ps ≡ 0 → ending targets table ps ≡ tidying targets table
  ending_none table [] none = refl
  ending_none table (p ∷ ps) none = absurd (omega (arith, none))

  -- a round from a table whose blocks give up what they can do without
  round_is : (turned now : Table) (b t : ℕ) → now ≡ all_done turned (tidying targets turned) → IsNext targets now b t → round targets turned ≡ tidying targets turned ++ move_to targets now b t
  unfolding round
  round_is turned now b t tidy next =
      ap (λ (x : Table). tidying targets turned ++ meeting targets x (next_placement targets x)) (sym tidy)
      ∙ ap (λ (xs : List Action). tidying targets turned ++ xs) (meeting_is targets now b t next)

  round_leads : (turned now new : Table) (b t : ℕ) → now ≡ all_done turned (tidying targets turned) → IsNext targets now b t → new ≡ all_done now (move_to targets now b t) → new ≡ all_done turned (round targets turned)
  round_leads turned now new b t tidy next acts =
      acts
      ∙ ap (λ (x : Table). all_done x (move_to targets now b t)) tidy
      ∙ sym (all_both (tidying targets turned) (move_to targets now b t) turned)
      ∙ ap (all_done turned) (sym (round_is turned now b t tidy next))

  -- one round more is left where some are left
  pub left_more : (total count left : ℕ) → count + left ≡ total → count < total → (less : ℕ) × (left ≡ suc less)
  left_more total count zero all below = absurd (omega arith)
  left_more total count (suc less) all below = (less, refl)

  pub turned_more : (total count more : ℕ) (old now new : Table) (b t : ℕ) → more ≡ count + 1 → count < total → IsTurned targets total count old now → IsNext targets now b t → Meets targets now new b t → IsTidy targets new → IsTurned targets total more old new
  turned_more total count more old now new b t one below so_far next meets tidy =
      let less = left_more total count so_far.left so_far.all below in
      let leads = round_leads so_far.turned now new b t so_far.tidy next meets.acts in
      record {
        left = less.0;
        all = let a = so_far.all in let e = less.1 in omega (arith, a, e, one);
        acts = so_far.acts ++ round targets so_far.turned;
        turned = new;
        whole = so_far.whole
            ∙ ap (λ (k : ℕ). so_far.acts ++ rounds targets k so_far.turned) less.1
            ∙ ap (λ (x : Table). so_far.acts ++ (round targets so_far.turned ++ rounds targets less.0 x)) (sym leads)
            ∙ sym (append_assoc so_far.acts (round targets so_far.turned) (rounds targets less.0 new));
        led = leads
            ∙ ap (λ (x : Table). all_done x (round targets so_far.turned)) so_far.led
            ∙ sym (all_both so_far.acts (round targets so_far.turned) old);
        tidy = sym (ap (all_done new) (tidying_none targets new tidy));
        still = λ some. refl;
        start = λ few. absurd (omega (arith, few, one));
      }

  -- ---- cut off before the copy of the next round

  abbrev after_copy : (now turned : Table) (b less : ℕ) → List Action
  after_copy now turned b less = give_ups b (off_target (targets b) (sites_in now b)) ++ rounds targets less (all_done turned (round targets turned))

  pub next_whole : (limit total count less : ℕ) (old now : Table) (b t : ℕ) → total ≡ min limit (missing_in targets old) → (so_far : IsTurned targets total count old now)
      → IsNext targets now b t → so_far.left ≡ suc less
      → moves targets (Some limit) old ≡ (so_far.acts ++ tidying targets so_far.turned) ++ (copy_to b t ∷ after_copy now so_far.turned b less)
  unfolding moves
  next_whole limit total count less old now b t is so_far next more =
      let turned = so_far.turned in
      let first = tidying targets turned in
      let later = rounds targets less (all_done turned (round targets turned)) in
      ap (λ (k : ℕ). rounds targets k old) (sym is)
      ∙ so_far.whole
      ∙ ap (λ (k : ℕ). so_far.acts ++ rounds targets k turned) more
      ∙ ap (λ (xs : List Action). so_far.acts ++ (xs ++ later)) (round_is turned now b t so_far.tidy next)
      ∙ ap (λ (xs : List Action). so_far.acts ++ xs) (append_assoc first (move_to targets now b t) later)
      ∙ sym (append_assoc so_far.acts first (move_to targets now b t ++ later))

  pub next_led : (total count : ℕ) (old now new : Table) → (so_far : IsTurned targets total count old now) → new ≡ now
      → new ≡ all_done old (so_far.acts ++ tidying targets so_far.turned)
  next_led total count old now new so_far same =
      same
      ∙ so_far.tidy
      ∙ ap (λ (x : Table). all_done x (tidying targets so_far.turned)) so_far.led
      ∙ sym (all_both so_far.acts (tidying targets so_far.turned) old)

  pub cut_next : (limit total count : ℕ) (old now new : Table) (b t : ℕ) → total ≡ min limit (missing_in targets old) → IsTurned targets total count old now
      → IsNext targets now b t → count < total → new ≡ now → IsCutOff targets (Some limit) old new
  cut_next limit total count old now new b t is so_far next below same =
      let less = left_more total count so_far.left so_far.all below in
      record {
        front = so_far.acts ++ tidying targets so_far.turned;
        rest = copy_to b t ∷ after_copy now so_far.turned b less.0;
        whole = next_whole limit total count less.0 old now b t is so_far next less.1;
        led = next_led total count old now new so_far same;
      }

  -- the copy of the next round failed
  pub cut_failed : (limit total count : ℕ) (old now new : Table) (members : ℕ → MemberState) (b t : ℕ) → total ≡ min limit (missing_in targets old)
      → IsTurned targets total count old now → IsNext targets now b t → count < total → new ≡ now
      → (is_gone new members b ≡ true) ⊎ (is_lost members t ≡ true) → IsCutByLoss targets (Some limit) old new members
  cut_failed limit total count old now new members b t is so_far next below same cause =
      let less = left_more total count so_far.left so_far.all below in
      record {
        cut = record {
          front = so_far.acts ++ tidying targets so_far.turned;
          rest = copy_to b t ∷ after_copy now so_far.turned b less.0;
          whole = next_whole limit total count less.0 old now b t is so_far next less.1;
          led = next_led total count old now new so_far same;
        };
        end = inl (record { block = b; boundary = t; more = after_copy now so_far.turned b less.0; copy = refl; cause = cause });
      }

  -- cut off behind a round, whose copy stands
  pub cut_whole : (limit total count : ℕ) (old now new : Table) (members : ℕ → MemberState) (b t : ℕ) → total ≡ min limit (missing_in targets old)
      → count < total → IsTurned targets total count old now → IsNext targets now b t → Meets targets now new b t → is_lost members t ≡ false
      → IsCutByLoss targets (Some limit) old new members
  unfolding moves
  cut_whole limit total count old now new members b t is below so_far next meets stands =
      let less = left_more total count so_far.left so_far.all below in
      let acts = so_far.acts in
      let first = tidying targets so_far.turned in
      let leads = round_leads so_far.turned now new b t so_far.tidy next meets.acts in
      let last : round targets so_far.turned ≡ first ++ move_to targets now b t = round_is so_far.turned now b t so_far.tidy next in
      record {
        cut = record {
          front = acts ++ round targets so_far.turned;
          rest = rounds targets less.0 (all_done so_far.turned (round targets so_far.turned));
          whole = ap (λ (k : ℕ). rounds targets k old) (sym is)
              ∙ so_far.whole
              ∙ ap (λ (k : ℕ). acts ++ rounds targets k so_far.turned) less.1
              ∙ sym (append_assoc acts (round targets so_far.turned) (rounds targets less.0 (all_done so_far.turned (round targets so_far.turned))));
          led = leads
              ∙ ap (λ (x : Table). all_done x (round targets so_far.turned)) so_far.led
              ∙ sym (all_both acts (round targets so_far.turned) old);
        };
        end = inr (record {
          before = acts ++ first;
          block = b;
          boundary = t;
          given_up = off_target (targets b) (sites_in now b);
          copy = ap (λ (xs : List Action). acts ++ xs) last ∙ sym (append_assoc acts first (move_to targets now b t));
          stands = stands;
        });
      }

  -- a limit that allows the same rounds
  pub cut_same : (limit total : ℕ) (old new : Table) → total ≡ min limit (missing_in targets old) → IsCutOff targets (Some total) old new → IsCutOff targets (Some limit) old new
  unfolding moves
  cut_same limit total old new is cut = record {
    front = cut.front;
    rest = cut.rest;
    whole = ap (λ (k : ℕ). rounds targets k old) (omega (arith, is)) ∙ cut.whole;
    led = cut.led;
  }

  pub loss_same : (limit total : ℕ) (old new : Table) (members : ℕ → MemberState) → total ≡ min limit (missing_in targets old)
      → IsCutByLoss targets (Some total) old new members → IsCutByLoss targets (Some limit) old new members
  unfolding moves
  loss_same limit total old new members is loss = record {
    cut = record {
      front = loss.cut.front;
      rest = loss.cut.rest;
      whole = ap (λ (k : ℕ). rounds targets k old) (omega (arith, is)) ∙ loss.cut.whole;
      led = loss.cut.led;
    };
    end = loss.end;
  }

  -- a limit that allows all rounds is none
  pub moves_all : (limit : ℕ) (table : Table) → missing_in targets table ≤ limit → moves targets (Some limit) table ≡ moves targets None table
  unfolding moves
  moves_all limit table all = ap (λ (k : ℕ). rounds targets k table) (let same : min limit (missing_in targets table) ≡ missing_in targets table = omega (arith, all) in same)

  -- a limit of no round, where some placement is missing
  pub moved_none : (limit : ℕ) (old : Table) → min limit (missing_in targets old) ≡ 0 → 0 < missing_in targets old → old ≡ moved targets (Some limit) old
  unfolding moves
  moved_none limit old none some =
      let count = missing_length targets old in
      sym (ap (λ (k : ℕ). all_done old (rounds targets k old)) none ∙ ap (all_done old) (ending_some old (missing targets old) (omega (arith, count, some))))

  -- all rounds were done
  pub moved_of : (limit total : ℕ) (old now : Table) → total ≡ min limit (missing_in targets old) → (total ≡ 0 → missing_in targets old ≡ 0) → IsTurned targets total total old now → now ≡ moved targets (Some limit) old
  unfolding moves
  moved_of limit total old now is none so_far =
      let zero_left : so_far.left ≡ 0 = let a = so_far.all in omega (arith, a) in
      let count = missing_length targets so_far.turned in
      let ends : now ≡ all_done so_far.turned (ending targets so_far.turned (missing targets so_far.turned)) = elim (cases_eq (missing_in targets so_far.turned) 0) [
        | inl none_left ↦ so_far.tidy ∙ sym (ap (all_done so_far.turned) (ending_none so_far.turned (missing targets so_far.turned) (omega (arith, count, none_left))))
        | inr more ↦ elim (cases_lt 0 total) [
          | inl some ↦ sym (so_far.still some) ∙ sym (ap (all_done so_far.turned) (ending_some so_far.turned (missing targets so_far.turned) (omega (arith, count, more))))
          | inr few ↦ absurd (more (ap (missing_in targets) (so_far.start (omega (arith, few))) ∙ none (omega (arith, few))))
        ]
      ] in
      ends
      ∙ ap (λ (x : Table). all_done x (rounds targets 0 so_far.turned)) so_far.led
      ∙ sym (all_both so_far.acts (rounds targets 0 so_far.turned) old)
      ∙ ap (λ (xs : List Action). all_done old xs) (sym (so_far.whole ∙ ap (λ (k : ℕ). so_far.acts ++ rounds targets k so_far.turned) zero_left))
      ∙ ap (λ (k : ℕ). all_done old (rounds targets k old)) is

  -- ---- what a round changes

  -- one placement less is missing
  pub met_less : (old new : Table) (b t : ℕ) → new.shape ≡ old.shape → IsNext targets old b t → Meets targets old new b t → missing_in targets new + 1 ≡ missing_in targets old
  met_less old new b t shape next meets =
      let row : ℕ → ℕ = λ c. count_upto old.shape.b (is_missing targets new c) in
      let was : ℕ → ℕ = λ c. count_upto old.shape.b (is_missing targets old c) in
      let resized : missing_in targets new ≡ sum_upto old.shape.n row =
      ap (λ (s : Shape). sum_upto s.n (λ c. count_upto s.b (is_missing targets new c))) shape in
      let less : sum_upto old.shape.n row + 1 ≡ sum_upto old.shape.n was = sum_one_less was row old.shape.n b next.block
      (count_one_less old.shape.b t (is_missing targets old b) (is_missing targets new b) next.boundary next.missing meets.met (λ s apart. meets.rest b s (λ _. apart)))
      (λ c apart. count_same old.shape.b (is_missing targets old c) (is_missing targets new c) (λ s. meets.rest c s (λ e. absurd (apart e)))) in
      omega (arith, resized, less)

  pub tidy_more : (old new : Table) (b t : ℕ) → new.shape ≡ old.shape → IsTidy targets old → Meets targets old new b t → IsTidy targets new
  tidy_more old new b t shape tidy meets c within = elim (cases_eq c b) [
    | inl here ↦ subst (λ (k : ℕ). spare (targets k) (sites_in new k) ≡ []) (sym here) meets.none
    | inr apart ↦ ap (spare (targets c)) (meets.others c apart) ∙ tidy c (subst (λ (s : Shape). c < s.n) shape within)
  ]
