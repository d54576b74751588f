-- What a step keeps where an array has no label. A library for the crates above.
use Rattle.std.proofs.Common.{◌≡◌, ℕ, refl, sym, subst, arith}
use Rattle.std.specs.Prelude.{Option, None, nat_lt}
use Rattle.std.proofs.lemmas.Bool.{le-ltb, lt-ltb}
use Rattle.dg_model.specs.Changes.{FaultsTell, Goes, OutStay, Passes, Stays}
use Rattle.dg_model.specs.Members.{ArePaired, MembersFall}
use Rattle.dg_model.specs.Seals.{KeepsLabel, LastLabel}
use Rattle.dg_model.specs.States.{CountsRise, State, after_calls}
use Rattle.dg_model.specs.declared.members.MemberState.{MemberState}

-- an array without a label keeps none
pub no_label : (before now : ℕ) (old new : ℕ → MemberState) → KeepsLabel before now old new None None
no_label before now old new = record {
  opens = nat_lt before now;
  rose = λ less below. lt-ltb before now less;
  stood = λ same below. le-ltb before now (omega (arith, same));
  is = refl;
}

label_by : (before now : ℕ) (old new : ℕ → MemberState) (last next : Option LastLabel) → last ≡ None → next ≡ None → KeepsLabel before now old new last next
label_by before now old new last next l n =
    subst (λ x. KeepsLabel before now old new x next) (sym l) (subst (λ y. KeepsLabel before now old new None y) (sym n) (no_label before now old new))

pub passes_plain : (old new : State) → old.label ≡ None → new.label ≡ None → CountsRise old.counts new.counts → ArePaired new.members → FaultsTell old new → Passes old new
passes_plain old new l n rises paired faults = record {
  counts = rises;
  label = label_by old.counts.writes new.counts.writes old.members new.members old.label new.label l n;
  paired = paired;
  faults = faults;
}

-- a step of such an array in which members only fall
pub goes_plain : (old new : State) → old.label ≡ None → new.label ≡ None → CountsRise old.counts new.counts
    → MembersFall old.counts.faults new.counts.faults old.members new.members → ArePaired new.members → FaultsTell old new → OutStay old new → Goes old new
goes_plain old new l n rises falls paired faults out = record { passes = passes_plain old new l n rises paired faults; members = falls; out = out }

-- and all else stays
pub stays_plain : (old new : State) → old.label ≡ None → new.label ≡ None → CountsRise old.counts new.counts
    → MembersFall old.counts.faults new.counts.faults old.members new.members → ArePaired new.members → FaultsTell old new → OutStay old new
    → new ≡ after_calls old new → Stays old new
stays_plain old new l n rises falls paired faults out rest = record { goes = goes_plain old new l n rises falls paired faults out; rest = rest }
