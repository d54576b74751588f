use Rattle.std.proofs.Common.{◌≡◌, ◌∙◌, ℕ, [], ◌∷◌, arith, false, inl, inr, refl, rules, subst, sym, true}
use Rattle.std.specs.Prelude.{slice_index_or, slice_set}
use Rattle.std.proofs.lemmas.Bool.{cases_eq, false≢true}
use Rattle.dg_io.specs.RackCalls.RackCall.{blanks}
use Rattle.dg_regroup.proofs.FrontCalls.{unmarked}
use Rattle.dg_regroup.proofs.front_racks.FrontRackRack.blank.Goals as goal

pub returns-clause-made : goal.returns-clause-made
returns-clause-made g c = record {
  length = refl;
  passed = blanks c.args.member ∷ [];
  are_for = (refl, tt);
  below = c.blank.ensures.made;
  same_front = search rules;
  same_fronts = λ each q. absurd each.0;
  rise = λ q. omega arith;
  others = λ q each. refl;
  writes = omega arith;
  whole_refused = λ is q. refl;
  whole_writes = λ is. refl;
  still = search rules;
  unseen = λ is q old new.
      elim (cases_eq q c.args.member) [
        | inl e ↦
            absurd (false≢true (sym (unmarked c.args.self.now.fronts c.args.member)
            ∙ subst (λ (p : ℕ). slice_index_or (slice_set c.args.self.now.fronts c.args.member false) p false ≡ true) e new))
        | inr far ↦ c.blank.ensures.leaves.others q far
      ];
  same_refused = λ each q. refl;
  same_writes = λ each. refl;
}
