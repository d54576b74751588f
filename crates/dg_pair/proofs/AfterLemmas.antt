-- What two calls leave, where the first of two members that serve has fallen in the first.
use Rattle.std.proofs.Common.{◌≡◌, ◌≢◌, inl, inr, ℕ, ◌∙◌, arith}
use Rattle.std.specs.Prelude.{Result}
use Rattle.std.proofs.lemmas.Bool.Decides.{nat_tests}
use Rattle.dg_model.specs.Members.{MembersFall}
use Rattle.dg_model.specs.declared.members.MemberState.TheVariants.{Out}
use Rattle.dg_io.specs.RackWords.{Leaves}
use Rattle.dg_io.specs.declared.outside.Rack.{Ghosts}
use Rattle.dg_pair.specs.declared.members.Good.{Good as GoodType}
use Rattle.dg_pair.specs.declared.members.Out.{Out as OutType}
use Rattle.dg_pair.specs.declared.members.Member.{Member}
use Rattle.dg_pair.specs.declared.boundaries.Boundary.{Boundary}
use Rattle.dg_pair.specs.declared.boundaries.Boundary.TheVariants.{Both, Half}
use Rattle.dg_pair.specs.Boundaries.{members_of, ArePartners, IsWell}
use Rattle.dg_pair.specs.Cases.{EachIn, LeavesCase}
use Rattle.dg_pair.proofs.CaseLemmas.{each_from, each_to}
use Rattle.dg_pair.proofs.FallLemmas.{same_then}

module _ (a b : Member GoodType) (out : Member OutType) (well : ArePartners a b) (is : out.number ≡ a.number) where
  -- the one that fell stays out
  out_at : (new : Boundary) (mid last : ℕ → ℕ) → MembersFall mid last (members_of (Half b out)) (members_of new) → (q : ℕ) → q ≡ a.number → members_of new q ≡ Out
  out_at new mid last falls q e = elim (falls q) [
    | inl same ↦ same ∙ (let numbers = well.numbers in grind (arith, nat_tests))
    | inr fell ↦ fell.out
  ]

  unfailed_after : (new : Boundary) (first mid last : ℕ → ℕ) → IsWell new → ((q : ℕ) → q ≢ a.number → mid q ≡ first q) → MembersFall mid last (members_of (Half b out)) (members_of new)
      → EachIn new (λ q. last q ≡ mid q) → EachIn new (λ q. last q ≡ first q)
  unfailed_after new first mid last sound early falls kept = each_to (λ (q : ℕ). last q ≡ first q) new sound (λ q some.
      each_from (λ (q : ℕ). last q ≡ mid q) new kept q some ∙ early q (λ e. some (out_at new mid last falls q e)))

  pub case_after : {S T E : Type 0} (rack : Ghosts S) (result : Result T E) (new : Boundary) (first mid last : S) → Leaves rack a.number result first mid → LeavesCase rack (Half b out) new mid last
      → MembersFall (rack.counts mid).faults (rack.counts last).faults (members_of (Half b out)) (members_of new) → LeavesCase rack (Both a b) new first last
  case_after rack result new first mid last leaves case falls = record {
    well = case.well;
    number = case.number ∙ (let numbers = well.numbers in omega arith);
    size = case.size ∙ well.sizes;
    slots = case.slots ∙ well.slots;
    stand = case.stand;
    other_bytes = λ q other. same_then _ _ _ (leaves.others q other.0) (case.other_bytes q (other.1, λ e. other.0 (e ∙ is)));
    other_faults = λ q other. case.other_faults q (other.1, λ e. other.0 (e ∙ is)) ∙ leaves.other_faults q other.0;
    others_stand = λ q other h. case.others_stand q (other.1, λ e. other.0 (e ∙ is)) (leaves.others_stand q other.0 h);
    unfailed = unfailed_after new _ _ _ case.well leaves.other_faults falls case.unfailed;
    rise = record {
      faults = λ q. omega (arith, leaves.rise.faults q, case.rise.faults q);
      calls = omega (arith, leaves.rise.calls, case.rise.calls);
      writes = omega (arith, leaves.rise.writes, case.rise.writes);
    };
    tells = λ q h. leaves.tells q (case.tells q h);
    same_rack = case.same_rack ∙ leaves.same_rack;
    steady_on = (λ h. case.steady_on.0 (leaves.steady_on.0 h), λ h. leaves.steady_on.1 (case.steady_on.1 h));
  }
