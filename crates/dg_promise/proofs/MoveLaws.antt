-- After all moves each block stands on just its targets.
use Rattle.std.proofs.Common.{◌≡◌, ◌≢◌, ◌∙◌, ◌&&◌, ◌==◌, ℕ, zero, suc, ◌+◌, ◌<◌, ◌≤◌, inl, inr, Bool, true, false, cond, not, List, [], ◌∷◌, ◌++◌, length, map, Option, Some, None, refl, sym, ap, subst, arith}
use Rattle.std.specs.Prelude.{Contains, find, nat_le, nat_lt}
use Rattle.std.specs.List.{filter, flat_map, range_with_len}
use Rattle.std.proofs.lemmas.Bool.{cases_Bool, cases_eq, cases_lt, leb-true}
use Rattle.std.proofs.lemmas.List.{append-nil, set_past}
use Rattle.std.proofs.lemmas.List.Elements.{Contains-append_cases, Contains-append_right}
use Rattle.dg_model.specs.Moves.{Action, AreTargets, IsAtTargets, IsTidy, all_done, copy_to, count_upto, done, ending, give_ups, is_missing, meeting, missing, missing_in, missing_of, moved, moves, next_placement, off_target, round, rounds, spare, sum_upto, tidying, within}
use Rattle.dg_model.specs.Plans.{Placement}
use Rattle.dg_model.specs.Sites.{has_site}
use Rattle.dg_model.specs.Tables.{IsTable, Table, count_on, is_on, lowest_free, put_site, sites_in, sites_off, used_in, without_site}
use Rattle.dg_model.specs.declared.shapes.Shape.{Shape}
use Rattle.dg_model.specs.declared.sites.Site.{Site}
use Rattle.dg_model.proofs.ActionLists.{all_both, missing_length, tidying_below, tidying_is, tidying_more}
use Rattle.dg_model.proofs.ClaimSearch.{part_of, range_low}
use Rattle.dg_model.proofs.FirstSites.{has_last}
use Rattle.dg_model.proofs.MissingLaws.{missing_none, missing_stay, missing_wanted, not_missing, placed_from, targets_stay}
use Rattle.dg_model.proofs.PutLaws.{IsTable-put, IsTable-without, sites_put_here, sites_put_other, sites_without_here, sites_without_other}
use Rattle.dg_model.proofs.RoomLaws.{two_steps_enough}
use Rattle.dg_model.proofs.SiteLists.{apart_test, count_on-push, one_if, same_test, zero_if}
use Rattle.dg_model.proofs.SpareSteps.{drops, has_off, spare_push}
use Rattle.dg_model.proofs.SumLaws.{count_one_less, count_same, sum_one_less}
use Rattle.dg_promise.proofs.PlanLaws.{in_filter}
use Rattle.dg_promise.proofs.SlotLaws.{free_is, free_low}

in_map : (f : ℕ → Placement) (xs : List ℕ) (y : Placement) → Contains (map f xs) y → (x : ℕ) × Contains xs x × (f x ≡ y)
in_map f [] y has = let low = has.1 in absurd (omega arith)
in_map f (x ∷ xs) y has = elim (Contains-append_cases (f x ∷ []) (map f xs) y has) [
  | inl first ↦ (x, (0, omega arith, refl), (let place : first.0 ≡ 0 = let low = first.1 in omega arith in rw place at first.2))
  | inr later ↦ let rest = in_map f xs y later in (rest.0, Contains-append_right (x ∷ []) xs rest.0 rest.1, rest.2)
]

find_some : (test : Placement → Bool) (xs : List Placement) (p : Placement) → find test xs ≡ Some p → (test p ≡ true) × Contains xs p
find_some test [] p is = let no : None ≡ Some p = is in cc
find_some test (x ∷ xs) p is = elim (cases_Bool (test x)) [
  | inl passes ↦ let found : Some x ≡ Some p = rw passes at is in let same : x ≡ p = cc in (ap test (sym same) ∙ passes, (0, omega arith, same))
  | inr fails ↦ let rest = find_some test xs p (rw fails at is) in (rest.0, Contains-append_right (x ∷ []) xs p rest.1)
]

-- a missing placement with room
record IsOpen (targets : ℕ → ℕ → Bool) (table : Table) (b s : ℕ) : Type 0 where
  block : b < table.shape.n
  boundary : s < table.shape.b
  missing : is_missing targets table b s ≡ true
  room : used_in table s ≤ table.shape.k

next_open : (targets : ℕ → ℕ → Bool) (table : Table) (p : Placement) → next_placement targets table ≡ Some p → IsOpen targets table p.block p.boundary
unfolding missing
next_open targets table p is =
    let found = find_some (λ p. nat_le (used_in table p.boundary) table.shape.k) (missing targets table) p is in
    let part = part_of (missing_of targets table) (range_with_len 0 table.shape.n) p found.1 in
    let place = in_map (λ s. record { block = part.part; boundary = s }) (filter (is_missing targets table part.part) (range_with_len 0 table.shape.b)) p part.inside in
    let inside = in_filter (is_missing targets table part.part) place.0 (range_with_len 0 table.shape.b) place.1 in
    subst (λ (q : Placement). IsOpen targets table q.block q.boundary) place.2 (record {
      block = range_low table.shape.n part.part part.there;
      boundary = range_low table.shape.b place.0 inside.0;
      missing = inside.1;
      room = subst (λ (q : Placement). used_in table q.boundary ≤ table.shape.k) (sym place.2) (leb-true (used_in table p.boundary) table.shape.k found.0);
    })

-- ---- what a missing placement is

missing_same : (targets : ℕ → ℕ → Bool) (old new : Table) (b t : ℕ) → (targets b t ≡ true → count_on t (sites_in new b) ≡ count_on t (sites_in old b)) → is_missing targets new b t ≡ is_missing targets old b t
missing_same targets old new b t same = elim (cases_Bool (targets b t)) [
  | inl wanted ↦ ap (λ (k : ℕ). targets b t && not (nat_lt 0 k)) (same wanted)
  | inr other ↦ ap (λ (v : Bool). v && not (is_on new b t)) other ∙ sym (ap (λ (v : Bool). v && not (is_on old b t)) other)
]

-- ---- a block gives up what it can do without

record IsTidied (targets : ℕ → ℕ → Bool) (b : ℕ) (old new : Table) : Type 0 where
  ok : IsTable new
  shape : new.shape ≡ old.shape
  others : (c : ℕ) → c ≢ b → sites_in new c ≡ sites_in old c
  none : spare (targets b) (sites_in new b) ≡ []
  kept : (t : ℕ) → targets b t ≡ true → count_on t (sites_in new b) ≡ count_on t (sites_in old b)
  written : has_site (sites_in new b) ≡ has_site (sites_in old b)

give_block : (targets : ℕ → ℕ → Bool) (b : ℕ) (xs : List Site) (old : Table) → IsTable old → b < old.shape.n → spare (targets b) (sites_in old b) ≡ xs
    → IsTidied targets b old (all_done old (give_ups b xs))
give_block targets b [] old ok low is = record { ok = ok; shape = refl; others = λ c other. refl; none = is; kept = λ t wanted. refl; written = refl }
give_block targets b (site ∷ rest) old ok low is =
    let size = ok.size in
    let within : b < length old.rows = omega arith in
    let drop = drops (targets b) (sites_in old b) site rest (ok.one_site b) is in
    let next = without_site old b site.boundary in
    let here = sites_without_here old b site.boundary within in
    let tidied = give_block targets b rest (without_site old b site.boundary) (IsTable-without old b site.boundary within ok) low (ap (spare (targets b)) here ∙ drop.left) in
    record {
      ok = tidied.ok;
      shape = tidied.shape;
      others = λ c other. tidied.others c other ∙ sites_without_other old b site.boundary within c other;
      none = tidied.none;
      kept = λ t wanted. tidied.kept t wanted ∙ ap (count_on t) here ∙ drop.kept t wanted;
      written = tidied.written ∙ ap has_site here ∙ has_off site.boundary (sites_in old b) drop.more (ok.one_site b site.boundary);
    }

-- ---- all blocks do

record AreTidied (targets : ℕ → ℕ → Bool) (k : ℕ) (old new : Table) : Type 0 where
  ok : IsTable new
  shape : new.shape ≡ old.shape
  tidy : (c : ℕ) → c < k → spare (targets c) (sites_in new c) ≡ []
  later : (c : ℕ) → k ≤ c → sites_in new c ≡ sites_in old c
  kept : (c t : ℕ) → targets c t ≡ true → count_on t (sites_in new c) ≡ count_on t (sites_in old c)
  written : (c : ℕ) → has_site (sites_in new c) ≡ has_site (sites_in old c)

tidied_below : (targets : ℕ → ℕ → Bool) (old : Table) (k : ℕ) → IsTable old → k ≤ old.shape.n → AreTidied targets k old (all_done old (tidying_below targets old k))
tidied_below targets old zero ok low = record { ok = ok; shape = refl; tidy = λ c few. absurd (omega arith); later = λ c high. refl; kept = λ c t wanted. refl; written = λ c. refl }
tidied_below targets old (suc k) ok low =
    let now = all_done old (tidying_below targets old k) in
    let before = tidied_below targets old k ok (omega arith) in
    let same = before.later k (omega arith) in
    let inside : k < now.shape.n = subst (λ (shape : Shape). k < shape.n) (sym before.shape) (omega arith) in
    let one = give_block targets k (spare (targets k) (sites_in old k)) (all_done old (tidying_below targets old k)) before.ok inside (ap (spare (targets k)) same) in
    let acts : all_done old (tidying_below targets old (suc k)) ≡ all_done (all_done old (tidying_below targets old k)) (give_ups k (spare (targets k) (sites_in old k))) =
    ap (all_done old) (tidying_more targets old k (suc k) (omega arith)) ∙ all_both (tidying_below targets old k) (give_ups k (spare (targets k) (sites_in old k))) old in
    subst (AreTidied targets (suc k) old) (sym acts) (record {
      ok = one.ok;
      shape = one.shape ∙ before.shape;
      tidy = λ c few. elim (cases_eq c k) [
        | inl here ↦ subst (λ (d : ℕ). spare (targets d) (sites_in (all_done (all_done old (tidying_below targets old k)) (give_ups k (spare (targets k) (sites_in old k)))) d) ≡ []) (sym here) one.none
        | inr other ↦ ap (spare (targets c)) (one.others c other) ∙ before.tidy c (omega arith)
      ];
      later = λ c high. one.others c (λ (is : c ≡ k). absurd (omega arith)) ∙ before.later c (omega arith);
      kept = λ c t wanted. elim (cases_eq c k) [
        | inl here ↦ subst (λ (d : ℕ). targets d t ≡ true → count_on t (sites_in (all_done (all_done old (tidying_below targets old k)) (give_ups k (spare (targets k) (sites_in old k)))) d) ≡ count_on t (sites_in old d)) (sym here)
            (λ wants. one.kept t wants ∙ before.kept k t wants) wanted
        | inr other ↦ ap (count_on t) (one.others c other) ∙ before.kept c t wanted
      ];
      written = λ c. elim (cases_eq c k) [
        | inl here ↦ subst (λ (d : ℕ). has_site (sites_in (all_done (all_done old (tidying_below targets old k)) (give_ups k (spare (targets k) (sites_in old k)))) d) ≡ has_site (sites_in old d)) (sym here)
            (one.written ∙ before.written k)
        | inr other ↦ ap has_site (one.others c other) ∙ before.written c
      ];
    })

-- what tidying leaves
pub record Leaves (targets : ℕ → ℕ → Bool) (old new : Table) : Type 0 where
  pub ok : IsTable new
  pub shape : new.shape ≡ old.shape
  pub written : (c : ℕ) → has_site (sites_in new c) ≡ has_site (sites_in old c)

record IsTidyTable (targets : ℕ → ℕ → Bool) (old new : Table) : Type 0 where
  leaves : Leaves targets old new
  tidy : IsTidy targets new
  same : missing_in targets new ≡ missing_in targets old

tidied : (targets : ℕ → ℕ → Bool) (old : Table) → IsTable old → IsTidyTable targets old (all_done old (tidying targets old))
tidied targets old ok =
    let all = tidied_below targets old old.shape.n ok (omega arith) in
    subst (λ (actions : List Action). IsTidyTable targets old (all_done old actions)) (sym (tidying_is targets old)) (record {
      leaves = record { ok = all.ok; shape = all.shape; written = all.written };
      tidy = λ b low. all.tidy b (subst (λ (s : Shape). b < s.n) all.shape low);
      same = missing_stay targets old (all_done old (tidying_below targets old old.shape.n)) all.shape
          (λ b t. missing_same targets old (all_done old (tidying_below targets old old.shape.n)) b t (λ wanted. all.kept b t wanted));
    })

-- ---- a placement is met

record IsMet (targets : ℕ → ℕ → Bool) (old new : Table) : Type 0 where
  leaves : Leaves targets old new
  tidy : IsTidy targets new
  less : missing_in targets new + 1 ≡ missing_in targets old

-- the site that a copy gets
abbrev copied : Table → ℕ → Site
copied table s = record { boundary = s; slot = lowest_free table s }

copy_ok : (targets : ℕ → ℕ → Bool) (old : Table) (b s : ℕ) → IsTable old → IsOpen targets old b s → IsTable (put_site old b (copied old s))
copy_ok targets old b s ok open_at =
    let size = ok.size in
    let low = open_at.block in
    let within : b < length old.rows = omega arith in
    IsTable-put old b (copied old s) within ok open_at.boundary (free_low old s open_at.room) (free_is old s open_at.room).free (missing_none targets old b s open_at.missing) open_at.room

met : (targets : ℕ → ℕ → Bool) (old : Table) (b s : ℕ) → IsTable old → AreTargets targets old → IsTidy targets old → IsOpen targets old b s
    → IsMet targets old (all_done old (copy_to b s ∷ give_ups b (off_target (targets b) (sites_in old b))))
met targets old b s ok are tidy open_at =
    let size = ok.size in
    let low = open_at.block in
    let within : b < length old.rows = omega arith in
    let mid = put_site old b (copied old s) in
    let new = all_done (put_site old b (copied old s)) (give_ups b (off_target (targets b) (sites_in old b))) in
    let row = sites_put_here old b (copied old s) within in
    let wanted = missing_wanted targets old b s open_at.missing in
    let one = give_block targets b (off_target (targets b) (sites_in old b)) (put_site old b (copied old s)) (copy_ok targets old b s ok open_at) low
    (ap (spare (targets b)) row ∙ spare_push (targets b) (sites_in old b) (copied old s) wanted) in
    let others : (c : ℕ) → c ≢ b → sites_in new c ≡ sites_in old c = λ c other. one.others c other ∙ sites_put_other old b (copied old s) within c other in
    let here : (t : ℕ) → targets b t ≡ true → count_on t (sites_in new b) ≡ count_on t (sites_in old b) + cond (s == t) 1 0 =
    λ t wants. one.kept t wants ∙ ap (count_on t) row ∙ count_on-push t (sites_in old b) (copied old s) in
    let there : is_missing targets new b s ≡ false = not_missing targets new b s (let count = here s wanted in let one_more = one_if (s == s) (same_test s s refl) in omega arith) in
    let rest : (c t : ℕ) → (c ≡ b → t ≢ s) → is_missing targets new c t ≡ is_missing targets old c t = λ c t apart. missing_same targets old new c t (λ wants. elim (cases_eq c b) [
      | inl at ↦
          let off : s ≢ t = λ is. apart at (sym is) in
          let none = zero_if (s == t) (apart_test s t off) in
          subst (λ (d : ℕ). targets d t ≡ true → count_on t (sites_in new d) ≡ count_on t (sites_in old d)) (sym at)
          (λ wants. let count = here t wants in omega arith) wants
      | inr other ↦ ap (count_on t) (others c other)
    ]) in
    record {
      leaves = record {
        ok = one.ok;
        shape = one.shape;
        written = λ c. elim (cases_eq c b) [
          | inl at ↦ subst (λ (d : ℕ). has_site (sites_in new d) ≡ has_site (sites_in old d)) (sym at)
              (one.written ∙ ap has_site row ∙ has_last (sites_in old b) (copied old s) ∙ sym (are.written b s wanted))
          | inr other ↦ ap has_site (others c other)
        ];
      };
      tidy = λ c few. elim (cases_eq c b) [
        | inl at ↦ subst (λ (d : ℕ). spare (targets d) (sites_in new d) ≡ []) (sym at) one.none
        | inr other ↦ ap (spare (targets c)) (others c other) ∙ tidy c (subst (λ (x : Shape). c < x.n) one.shape few)
      ];
      less =
          let resized : missing_in targets new ≡ sum_upto old.shape.n (λ c. count_upto old.shape.b (is_missing targets new c)) =
          ap (λ (x : Shape). sum_upto x.n (λ c. count_upto x.b (is_missing targets new c))) one.shape in
          let less = sum_one_less (λ c. count_upto old.shape.b (is_missing targets old c)) (λ c. count_upto old.shape.b (is_missing targets new c)) old.shape.n b open_at.block
          (count_one_less old.shape.b s (is_missing targets old b) (is_missing targets new b) open_at.boundary open_at.missing there (λ t apart. rest b t (λ same. apart)))
          (λ c apart. count_same old.shape.b (is_missing targets old c) (is_missing targets new c) (λ t. rest c t (λ e. absurd (apart e)))) in
          omega (arith, resized, less);
    }

-- ---- a round

both_leave : (targets : ℕ → ℕ → Bool) (old mid new : Table) → Leaves targets old mid → Leaves targets mid new → Leaves targets old new
both_leave targets old mid new one other = record { ok = other.ok; shape = other.shape ∙ one.shape; written = λ c. other.written c ∙ one.written c }

round_met : (targets : ℕ → ℕ → Bool) (old : Table) → IsTable old → AreTargets targets old → 0 < missing_in targets old → IsMet targets old (all_done old (round targets old))
unfolding round
round_met targets old ok are some =
    let now = all_done old (tidying targets old) in
    let first = tidied targets old ok in
    let are_now = targets_stay targets old (all_done old (tidying targets old)) first.leaves.shape first.leaves.written are in
    subst (IsMet targets old) (sym (all_both (tidying targets old) (meeting targets now (next_placement targets now)) old)) (by_next first are_now (next_placement targets (all_done old (tidying targets old))) refl)
  where
    by_next : IsTidyTable targets old (all_done old (tidying targets old)) → AreTargets targets (all_done old (tidying targets old)) → (found : Option Placement)
        → next_placement targets (all_done old (tidying targets old)) ≡ found → IsMet targets old (all_done (all_done old (tidying targets old)) (meeting targets (all_done old (tidying targets old)) found))
    by_next first are_now None is =
        let none = two_steps_enough targets (all_done old (tidying targets old)) first.leaves.ok are_now first.tidy is in
        let same = first.same in
        absurd (omega arith)
    by_next first are_now (Some p) is =
        let step = met targets (all_done old (tidying targets old)) p.block p.boundary first.leaves.ok are_now first.tidy (next_open targets (all_done old (tidying targets old)) p is) in
        record {
          leaves = both_leave targets old (all_done old (tidying targets old)) _ first.leaves step.leaves;
          tidy = step.tidy;
          less = let less = step.less in let same = first.same in omega arith;
        }

-- ---- where none is missing

-- ---- all rounds

pub record IsMoved (targets : ℕ → ℕ → Bool) (old new : Table) : Type 0 where
  pub leaves : Leaves targets old new
  pub at : IsAtTargets targets new

ending_none : (targets : ℕ → ℕ → Bool) (table : Table) (ps : List Placement) → length ps ≡ 0 → ending targets table ps ≡ tidying targets table
ending_none targets table [] none = refl
ending_none targets table (p ∷ ps) none = absurd (omega (arith, none))

rounds_end : (targets : ℕ → ℕ → Bool) (k : ℕ) (old : Table) → IsTable old → AreTargets targets old → missing_in targets old ≡ k → IsMoved targets old (all_done old (rounds targets k old))
rounds_end targets zero old ok are none =
    let all = tidied targets old ok in
    let count = missing_length targets old in
    let same = all.same in
    subst (λ (actions : List Action). IsMoved targets old (all_done old actions)) (sym (ending_none targets old (missing targets old) (omega arith))) (record {
      leaves = all.leaves;
      at = placed_from targets (all_done old (tidying targets old)) (targets_stay targets old (all_done old (tidying targets old)) all.leaves.shape all.leaves.written are) all.tidy (omega arith);
    })
rounds_end targets (suc k) old ok are some =
    let one = round_met targets old ok are (omega arith) in
    let next = all_done old (round targets old) in
    let less = one.less in
    let rest = rounds_end targets k (all_done old (round targets old)) one.leaves.ok (targets_stay targets old (all_done old (round targets old)) one.leaves.shape one.leaves.written are) (omega arith) in
    subst (IsMoved targets old) (sym (all_both (round targets old) (rounds targets k (all_done old (round targets old))) old)) (record {
      leaves = both_leave targets old (all_done old (round targets old)) _ one.leaves rest.leaves;
      at = rest.at;
    })

-- after all moves each block stands on just its targets
pub all_moved : (targets : ℕ → ℕ → Bool) (old : Table) → IsTable old → AreTargets targets old → IsMoved targets old (moved targets None old)
unfolding moves
all_moved targets old ok are = rounds_end targets (missing_in targets old) old ok are refl

-- ---- each table on the way is one

-- the table is one after each of the actions
abbrev AreFine : Table → List Action → Type 0
AreFine table [] = Unit {0}
AreFine table (action ∷ more) = IsTable (done table action) × AreFine (done table action) more

fine_both : (table : Table) (xs ys : List Action) → AreFine table xs → AreFine (all_done table xs) ys → AreFine table (xs ++ ys)
fine_both table [] ys one other = other
fine_both table (x ∷ xs) ys one other = (one.0, fine_both (done table x) xs ys one.1 other)

fine_front : (table : Table) (xs ys : List Action) → IsTable table → AreFine table (xs ++ ys) → IsTable (all_done table xs)
fine_front table [] ys ok fine = ok
fine_front table (x ∷ xs) ys ok fine = fine_front (done table x) xs ys fine.0 fine.1

fine_end : (table : Table) (xs : List Action) → IsTable table → AreFine table xs → IsTable (all_done table xs)
fine_end table xs ok fine = fine_front table xs [] ok (subst (AreFine table) (sym (append-nil xs)) fine)

without_ok : (table : Table) (b s : ℕ) → IsTable table → IsTable (without_site table b s)
without_ok table b s ok = elim (cases_lt b (length table.rows)) [
  | inl within ↦ IsTable-without table b s within ok
  | inr past ↦ subst (λ (rows : List (List Site)). IsTable (record { shape = table.shape; rows = rows })) (sym (set_past table.rows b (sites_off s (sites_in table b)) past)) ok
]

gives_fine : (table : Table) (b : ℕ) (xs : List Site) → IsTable table → AreFine table (give_ups b xs)
gives_fine table b [] ok = tt
gives_fine table b (x ∷ xs) ok = let next = without_ok table b x.boundary ok in (next, gives_fine (without_site table b x.boundary) b xs next)

all_fine : (table : Table) (spares : ℕ → List Site) (bs : List ℕ) → IsTable table → AreFine table (flat_map (λ b. give_ups b (spares b)) bs)
all_fine table spares [] ok = tt
all_fine table spares (b ∷ bs) ok =
    let first = gives_fine table b (spares b) ok in
    fine_both table (give_ups b (spares b)) (flat_map (λ b. give_ups b (spares b)) bs) first
    (all_fine (all_done table (give_ups b (spares b))) spares bs (fine_end table (give_ups b (spares b)) ok first))

tidying_fine : (targets : ℕ → ℕ → Bool) (table : Table) → IsTable table → AreFine table (tidying targets table)
unfolding tidying
tidying_fine targets table ok = all_fine table (λ b. spare (targets b) (sites_in table b)) (range_with_len 0 table.shape.n) ok

meeting_fine : (targets : ℕ → ℕ → Bool) (table : Table) (found : Option Placement) → IsTable table → next_placement targets table ≡ found → AreFine table (meeting targets table found)
meeting_fine targets table None ok is = tt
meeting_fine targets table (Some p) ok is =
    let next = copy_ok targets table p.block p.boundary ok (next_open targets table p is) in
    (next, gives_fine (put_site table p.block (copied table p.boundary)) p.block (off_target (targets p.block) (sites_in table p.block)) next)

round_fine : (targets : ℕ → ℕ → Bool) (table : Table) → IsTable table → AreFine table (round targets table)
unfolding round
round_fine targets table ok =
    let first = tidying_fine targets table ok in
    let now = all_done table (tidying targets table) in
    fine_both table (tidying targets table) (meeting targets now (next_placement targets now)) first
    (meeting_fine targets now (next_placement targets now) (fine_end table (tidying targets table) ok first) refl)

ending_fine : (targets : ℕ → ℕ → Bool) (table : Table) (ps : List Placement) → IsTable table → AreFine table (ending targets table ps)
ending_fine targets table [] ok = tidying_fine targets table ok
ending_fine targets table (p ∷ ps) ok = tt

rounds_fine : (targets : ℕ → ℕ → Bool) (k : ℕ) (table : Table) → IsTable table → AreFine table (rounds targets k table)
rounds_fine targets zero table ok = ending_fine targets table (missing targets table) ok
rounds_fine targets (suc k) table ok =
    let one = round_fine targets table ok in
    fine_both table (round targets table) (rounds targets k (all_done table (round targets table))) one
    (rounds_fine targets k (all_done table (round targets table)) (fine_end table (round targets table) ok one))

-- some of the first actions of moves lead to a table
pub front_moved : (targets : ℕ → ℕ → Bool) (limit : Option ℕ) (old new : Table) (front rest : List Action) → IsTable old → moves targets limit old ≡ front ++ rest → new ≡ all_done old front
    → IsTable new
unfolding moves
front_moved targets limit old new front rest ok whole led =
    subst IsTable (sym led) (fine_front old front rest ok (subst (AreFine old) whole (rounds_fine targets (within limit (missing_in targets old)) old ok)))
