-- What each block is to the plan, one after another.
use Rattle.std.proofs.Common.{◌≡◌, ◌<◌, ◌+◌, ◌++◌, ◌∙◌, ℕ, Bool, true, false, List, [], ◌∷◌, length, inl, inr, refl, sym, ap, subst, arith}
use Rattle.std.specs.Prelude.{Option, Some, None, Result, Ok, Err, IfSome, is_some, if◌then◌else◌}
use Rattle.std.specs.Result.{is_err, is_ok}
use Rattle.std.proofs.lemmas.Bool.{cases_lt, false≢true}
use Rattle.std.proofs.lemmas.List.{get_or_append_left, get_or_past, get_or_push, length-append}
use Rattle.dg_infer.specs.Meanings.{KeptInference}
use Rattle.dg_infer.specs.Meanings as inferences
use Rattle.dg_infer.specs.Wants.{IsWantBy}
use Rattle.dg_model.specs.Sites.{has_site}
use Rattle.dg_model.specs.Tables.{IsTable, Table}
use Rattle.dg_model.specs.Wants.{IsWant, want_of}
use Rattle.dg_model.specs.declared.wants.Want.{Want}
use Rattle.dg_volume.specs.Planned.{AreWanted, IsWantOf}

ok_of : {A E : Type 0} (r : Result A E) → is_err r ≡ false → is_ok r ≡ true
ok_of (Ok a) e = refl
ok_of (Err x) e = absurd (false≢true (sym e))

-- what a vector has once a push succeeded
pub pushed : {A E : Type 0} (r : Result A E) (wants new : List (Option Want)) (want : Option Want) → is_err r ≡ false
    → new ≡ (if is_ok r then wants ++ want ∷ [] else wants) → new ≡ wants ++ want ∷ []
pushed r wants new want e is = is ∙ ap (λ (b : Bool). if b then wants ++ want ∷ [] else wants) (ok_of r e)

module _ (table : Table) (kept : KeptInference) where
  -- so many first blocks
  pub record AreFirst (wants : List (Option Want)) (n : ℕ) : Type 0 where
    pub size : length wants ≡ n
    pub each : (b : ℕ) → b < n → IsWantOf table kept b (want_of wants b)

  pub none_first : AreFirst [] 0
  none_first = record { size = refl; each = λ b low. absurd (omega (arith, low)) }

  -- and the next one
  pub one_more : (wants : List (Option Want)) (n : ℕ) (want : Option Want) → AreFirst wants n → IsWantOf table kept n want → AreFirst (wants ++ want ∷ []) (n + 1)
  one_more wants n want first next = record {
    size = omega (arith, first.size, length-append wants (want ∷ []));
    each = λ b low. elim (cases_lt b n) [
      | inl before ↦
          subst (λ (w : Option Want). IsWantOf table kept b w) (sym (get_or_append_left wants (want ∷ []) None b (let e = first.size in omega (arith, e, before)))) (first.each b before)
      | inr past ↦
          let at : b ≡ n = omega (arith, low, past) in
          let here : want_of (wants ++ want ∷ []) b ≡ want = get_or_push wants want None b (let e = first.size in omega (arith, e, at)) in
          subst (λ (w : Option Want). IsWantOf table kept b w) (sym here) (subst (λ (k : ℕ). IsWantOf table kept k want) (sym at) next)
    ];
  }

  -- of the wants of all blocks, each is right
  at_want : (V : List (List ℕ)) (b : ℕ) (found : Option Want) (want : Want) → IsWantOf table kept b found → inferences.StandsFor kept V → found ≡ Some want
      → IsWant kept.l kept.n V b want
  at_want V b found want right held is = subst (λ (w : Option Want). IfSome w (IsWant kept.l kept.n V b)) is (right.is V held)

  pub all_wanted : (wants : List (Option Want)) → IsTable table → AreFirst wants table.shape.n → AreWanted table kept wants
  all_wanted wants is first = record {
    fit = record {
      size = first.size;
      written = λ b. elim (cases_lt b table.shape.n) [
        | inl low ↦ let right = first.each b low in right.written
        | inr past ↦
            ap is_some (get_or_past wants b None (let e = first.size in omega (arith, e, past)))
            ∙ sym (ap has_site (get_or_past table.rows b [] (let e = is.size in omega (arith, e, past))))
      ];
    };
    are = λ V held b want found. elim (cases_lt b table.shape.n) [
      | inl low ↦ at_want V b (want_of wants b) want (first.each b low) held found
      | inr past ↦ absurd (no_want want (sym (get_or_past wants b None (let e = first.size in omega (arith, e, past))) ∙ found))
    ];
    by = λ b want found. elim (cases_lt b table.shape.n) [
      | inl low ↦ let right = first.each b low in subst (λ (w : Option Want). IfSome w (IsWantBy kept b)) found right.by
      | inr past ↦ absurd (no_want want (sym (get_or_past wants b None (let e = first.size in omega (arith, e, past))) ∙ found))
    ];
  }
    where
      no_want : (want : Want) → ◌≡◌ {A = Option Want} None (Some want) → ⊥
      no_want want e = absurd (cc e)
