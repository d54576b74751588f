use Rattle.std.proofs.Common.{◌≡◌, ◌<◌, ℕ, true, refl, inl, inr, arith, subst, sym, ◌∙◌}
use Rattle.std.proofs.lemmas.Bool.{cases_eq}
use Rattle.dg_parity.specs.Groups.{is_out}
use Rattle.dg_parity.proofs.GroupLemmas.{later-then}
use Rattle.dg_parity.proofs.groups.Group.mark_all.Goals as goal

pub loop-j-preserved : goal.loop-j-preserved
loop-j-preserved c = record {
  end = refl;
  told = c.mark.ensures.told ∙ c.loop-j.invariant.told;
  later = later-then _ _ _ c.loop-j.invariant.later c.mark.ensures.later;
  out = λ i lt. elim (cases_eq i c.loop-j.j) [
    | inl e ↦ subst (λ (k : ℕ). is_out c.mark.new.self k ≡ true) (sym e) c.mark.ensures.out
    | inr ne ↦ c.mark.ensures.later.grows i (c.loop-j.invariant.out i (omega arith))
  ];
}

pub mark-requires : goal.mark-requires
mark-requires c = subst (λ (n : ℕ). c.loop-j.j < n) (sym c.loop-j.invariant.later.disks) (omega arith)
