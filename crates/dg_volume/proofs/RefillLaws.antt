-- Members that are refilled, and marks of blocks that may be reaped.
use Rattle.std.proofs.Common.{◌≡◌, ◌≢◌, ◌∙◌, ◌<◌, ◌≤◌, ◌+◌, ◌*◌, ◌/◌, ◌⊎◌, ℕ, Bool, true, false, not, List, [], ◌∷◌, ◌++◌, length, inl, inr, refl, sym, ap, subst, arith}
use Rattle.std.specs.Prelude.{◌&&◌, Err, IfOk, IfSome, IsSome, None, Ok, Option, Result, Some, if◌then◌else◌}
use Rattle.std.specs.Result.{is_err, is_ok}
use Rattle.std.proofs.lemmas.Bool.{and_parts, cases_eq, cases_lt, cases_order, false≢true, not-true}
use Rattle.std.proofs.lemmas.List.{get_or_append_left, get_or_past, get_or_push, length-append}
use Rattle.dg_infer.specs.Meanings.{KeptInference}
use Rattle.dg_model.proofs.MemberLaws.{has_lost_at, has_lost_from}
use Rattle.dg_model.specs.Marks.{is_marked}
use Rattle.dg_model.specs.Members.{ArePaired, IsRefilled, is_filling, is_good, is_lost, partner_of}
use Rattle.dg_model.specs.Sites.{has_site}
use Rattle.dg_model.specs.States.{has_lost}
use Rattle.dg_model.specs.Tables.{IsTable, Table, sites_in}
use Rattle.dg_model.specs.declared.members.MemberState.{MemberState}
use Rattle.dg_model.specs.declared.members.MemberState.TheVariants.{Filling, Out}
use Rattle.dg_model.specs.declared.phases.Phase.{Phase}
use Rattle.dg_model.specs.declared.phases.Phase.TheVariants.{Worn}
use Rattle.dg_model.specs.declared.shapes.Shape.{Shape}
use Rattle.dg_rebuild.specs.Passed.{IsLeftAt}
use Rattle.dg_store.specs.Stores.{members_of, shape_of, table_of}
use Rattle.dg_store.specs.declared.store.Store.{Store}
use Rattle.dg_volume.specs.Refills.{AreDeadMarks, AreReapMarks, IsDeadMark}

-- ---- members

not_good : (members : ℕ → MemberState) (q : ℕ) → not (is_good (members q)) ≡ true → is_good (members q) ≡ false
not_good members q e = not-true (is_good (members q)) e

-- no member of a lost boundary is refilled: its partner would be good
pub lost_none_filling : (members : ℕ → MemberState) (s : ℕ) → ArePaired members → is_lost members s ≡ true → (q : ℕ) → q / 2 ≡ s → is_filling (members q) ≡ false
lost_none_filling members s paired lost q at = by_test (is_filling (members q)) refl
  where
    parts : (not (is_good (members (2 * s))) ≡ true) × (not (is_good (members (2 * s + 1))) ≡ true)
    parts = and_parts (not (is_good (members (2 * s)))) (not (is_good (members (2 * s + 1)))) lost

    no_partner : is_good (members (partner_of q)) ≡ true → ⊥
    no_partner good = elim (cases_order q (2 * s)) [
      | inl same ↦
          let other : partner_of q ≡ 2 * s + 1 = omega (arith, same, at) in
          false≢true (sym (not_good members (2 * s + 1) parts.1) ∙ sym (ap (λ (p : ℕ). is_good (members p)) other) ∙ good)
      | inr apart ↦
          let other : partner_of q ≡ 2 * s = elim apart [ inl low ↦ absurd (omega (arith, low, at)) | inr high ↦ omega (arith, high, at) ] in
          false≢true (sym (not_good members (2 * s) parts.0) ∙ sym (ap (λ (p : ℕ). is_good (members p)) other) ∙ good)
    ]

    by_test : (b : Bool) → is_filling (members q) ≡ b → is_filling (members q) ≡ false
    by_test true is = absurd (no_partner (paired q is))
    by_test false is = is

-- the boundary of a member that is refilled isn't lost
pub filling_live : (members : ℕ → MemberState) (s q have : ℕ) → ArePaired members → IsRefilled members s q have → is_lost members s ≡ true → ⊥
filling_live members s q have paired filling lost = false≢true (sym (lost_none_filling members s paired lost q filling.0) ∙ ap is_filling filling.1)

-- where one member was refilled on, each that was out is out
pub left_outs : (old new : ℕ → MemberState) (s q have : ℕ) (state : MemberState) → IsRefilled old s q have → IsLeftAt old new q state → (p : ℕ) → old p ≡ Out → new p ≡ Out
left_outs old new s q have state filling left p out = elim (cases_eq p q) [
  | inl here ↦ absurd (not_out (sym filling.1 ∙ sym (ap old here) ∙ out))
  | inr apart ↦ left.others p apart ∙ out
]
  where
    not_out : Filling have ≡ Out → ⊥
    not_out e = cc e

-- another boundary has the members that it had
same_lost : (old new : ℕ → MemberState) (q t : ℕ) (state : MemberState) → IsLeftAt old new q state → q / 2 ≢ t → is_lost new t ≡ is_lost old t
same_lost old new q t state left apart =
    ap (λ (m : MemberState). not (is_good m) && not (is_good (new (2 * t + 1)))) (left.others (2 * t) (λ e. apart (omega (arith, e))))
    ∙ ap (λ (m : MemberState). not (is_good (old (2 * t))) && not (is_good m)) (left.others (2 * t + 1) (λ e. apart (omega (arith, e))))

-- so what is lost stays lost where a member was refilled
pub lost_where_left : (shape : Shape) (old new : ℕ → MemberState) (s q have : ℕ) (state : MemberState) → ArePaired old → IsRefilled old s q have → IsLeftAt old new q state
    → has_lost shape old ≡ true → has_lost shape new ≡ true
lost_where_left shape old new s q have state paired filling left lost =
    let found = has_lost_from shape old lost in
    has_lost_at shape new (found.0) found.1
    (same_lost old new q (found.0) state left (λ e. filling_live old (found.0) q have paired (e, filling.1) found.2) ∙ found.2)

-- ---- marks

ok_of : {A E : Type 0} (r : Result A E) → is_err r ≡ false → is_ok r ≡ true
ok_of (Ok a) e = refl
ok_of (Err x) e = absurd (false≢true (sym e))

-- what a vector has once a push succeeded
pub pushed_mark : {A E : Type 0} (r : Result A E) (marks new : List Bool) (mark : Bool) → is_err r ≡ false
    → new ≡ (if is_ok r then marks ++ mark ∷ [] else marks) → new ≡ marks ++ mark ∷ []
pushed_mark r marks new mark e is = is ∙ ap (λ (b : Bool). if b then marks ++ mark ∷ [] else marks) (ok_of r e)

no_site : (table : Table) (b : ℕ) → IsTable table → table.shape.n ≤ b → has_site (sites_in table b) ≡ false
no_site table b is past = ap has_site (get_or_past table.rows b [] (let size = is.size in omega (arith, size, past)))

module _ (table : Table) (kept : KeptInference) where
  -- so many first blocks
  pub record AreFirstMarks (marks : List Bool) (n : ℕ) : Type 0 where
    pub size : length marks ≡ n
    pub each : (b : ℕ) → b < n → IsDeadMark table kept b (is_marked marks b)

  pub no_first : AreFirstMarks [] 0
  no_first = record { size = refl; each = λ b low. absurd (omega (arith, low)) }

  -- and the next one
  pub next_mark : (marks : List Bool) (n : ℕ) (mark : Bool) → AreFirstMarks marks n → IsDeadMark table kept n mark → AreFirstMarks (marks ++ mark ∷ []) (n + 1)
  next_mark marks n mark first next = record {
    size = omega (arith, first.size, length-append marks (mark ∷ []));
    each = λ b low. elim (cases_lt b n) [
      | inl before ↦
          subst (λ (m : Bool). IsDeadMark table kept b m) (sym (get_or_append_left marks (mark ∷ []) false b (let e = first.size in omega (arith, e, before)))) (first.each b before)
      | inr past ↦
          let at : b ≡ n = omega (arith, low, past) in
          let here : is_marked (marks ++ mark ∷ []) b ≡ mark = get_or_push marks mark false b (let e = first.size in omega (arith, e, at)) in
          subst (λ (m : Bool). IsDeadMark table kept b m) (sym here) (subst (λ (k : ℕ). IsDeadMark table kept k mark) (sym at) next)
    ];
  }

  -- a block past the last one isn't dead
  past_mark : (b : ℕ) → IsTable table → table.shape.n ≤ b → IsDeadMark table kept b false
  past_mark b is past = record {
    is = λ V held. (λ e. absurd (false≢true e), λ dead. absurd (false≢true (sym (no_site table b is past) ∙ dead.written)));
    pending = λ e. absurd (false≢true e);
    stray = λ e. absurd (false≢true e);
  }

  pub all_marks : (marks : List Bool) → IsTable table → AreFirstMarks marks table.shape.n → AreDeadMarks table kept marks
  all_marks marks is first = record {
    size = first.size;
    each = λ b. elim (cases_lt b table.shape.n) [
      | inl low ↦ first.each b low
      | inr past ↦
          subst (λ (m : Bool). IsDeadMark table kept b m) (sym (get_or_past marks b false (let e = first.size in omega (arith, e, past)))) (past_mark b is past)
    ];
  }

module _ {R : Type 0} (store : Store R) (phase : Phase) (kept : Option KeptInference) where
  -- none may be reaped
  pub none_marked : (marks : List Bool) → length marks ≡ (shape_of store).n → ((b : ℕ) → is_marked marks b ≡ false)
      → (has_lost (shape_of store) (members_of store) ≡ true) ⊎ (phase ≡ Worn) → AreReapMarks store phase kept marks
  none_marked marks size none spares = record {
    size = size;
    none = λ why. none;
    some = λ live. absurd (live spares);
    known = λ b marked. absurd (false≢true (sym (none b) ∙ marked));
    each = each_of kept;
    safe = safe_of kept;
  }
    where
      each_of : (o : Option KeptInference) → IfSome o (λ inference. ((has_lost (shape_of store) (members_of store) ≡ true) ⊎ (phase ≡ Worn) → ⊥) → AreDeadMarks (table_of store) inference marks)
      each_of None = tt
      each_of (Some inference) = λ live. absurd (live spares)

      safe_of : (o : Option KeptInference) → IfSome o (λ inference. (b : ℕ) → is_marked marks b ≡ true → IsDeadMark (table_of store) inference b true)
      safe_of None = tt
      safe_of (Some inference) = λ b marked. absurd (false≢true (sym (none b) ∙ marked))

  -- each dead one may
  pub dead_marked : (inference : KeptInference) (marks : List Bool) → kept ≡ Some inference → AreDeadMarks (table_of store) inference marks
      → has_lost (shape_of store) (members_of store) ≡ false → phase ≢ Worn → AreReapMarks store phase kept marks
  dead_marked inference marks is dead whole live = record {
    size = dead.size;
    none = λ why. absurd (elim why [ inl lost ↦ false≢true (sym whole ∙ lost) | inr worn ↦ live worn ]);
    some = λ none. subst IsSome (sym is) refl;
    known = λ b marked. subst IsSome (sym is) refl;
    each = subst (λ (o : Option KeptInference). IfSome o (λ inference. ((has_lost (shape_of store) (members_of store) ≡ true) ⊎ (phase ≡ Worn) → ⊥) → AreDeadMarks (table_of store) inference marks))
        (sym is) (λ none. dead);
    safe = subst (λ (o : Option KeptInference). IfSome o (λ inference. (b : ℕ) → is_marked marks b ≡ true → IsDeadMark (table_of store) inference b true))
        (sym is) (λ b marked. subst (λ (m : Bool). IsDeadMark (table_of store) inference b m) marked (dead.each b));
  }

-- ---- results

pub if_ok : {A E : Type 0} (result : Result A E) {P Q : A → Type 0} → ((a : A) → P a → Q a) → IfOk result P → IfOk result Q
if_ok (Ok a) go h = go a h
if_ok (Err e) go h = tt
