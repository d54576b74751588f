-- All that an audit finds of two blocks that hold no volume, and what it doesn't. Both blocks stand on boundary 1, and all members are good.
use Rattle.std.proofs.Common.{◌≡◌, ◌∙◌, ◌++◌, ℕ, zero, suc, true, List, [], ◌∷◌, Contains, ap, refl, sym, subst, arith, length, length-append, map}
use Rattle.std.proofs.lemmas.Bool.{false≢true}
use Rattle.std.proofs.lemmas.List.{length-map}
use Rattle.ufs_model.specs.Audits.{AreAll, AreMalformations, IsNoted, IsUnclaimed, IsUnnamed, is_earlier_malformation}
use Rattle.ufs_model.specs.Malformations.{IsMalformed}
use Rattle.ufs_model.specs.declared.geometries.BadSuper.TheVariants.{Magic}
use Rattle.ufs_model.specs.declared.malformations.BadKind.{BadKind}
use Rattle.ufs_model.specs.declared.malformations.BadKind.TheVariants.{Super}
use Rattle.dg_model.specs.Findings.{TellsFindings, bad_line}
use Rattle.dg_model.specs.Sites.{is_gone}
use Rattle.dg_model.specs.Steps.{Step}
use Rattle.dg_model.specs.declared.events.Event.TheVariants.{Audit}
use Rattle.dg_model.specs.declared.findings.Finding.{Finding}
use Rattle.dg_model.specs.declared.findings.Finding.TheVariants.{Bad, Unclaimed, Unnamed}
use Rattle.dg_model.specs.declared.replies.Reply.TheVariants.{Audited, Unavailable}
use Rattle.dg_model.proofs.StepRows.{all_good, array_read, before, both_on_1, malformed, nothing as nothing_known, reads}
use Rattle.dg_model.proofs.VerdictRows.{blocks, no_volume}

abbrev magic : BadKind × ℕ
magic = (Super Magic, 0)

as_pair : (kind : BadKind) (number : ℕ) → kind ≡ Super Magic → number ≡ 0 → (kind, number) ≡ magic
as_pair kind number k n = ap (λ (x : BadKind). (x, number)) k ∙ ap (λ (x : ℕ). (Super Magic, x)) n

only_magic : (kind : BadKind) (number : ℕ) → IsMalformed 512 2 blocks kind number → (kind, number) ≡ magic
unfolding IsMalformed
only_magic kind number bad = let is = rw no_volume at bad in as_pair kind number is.0 is.1

is_malformed : (kind : BadKind) (number : ℕ) → Contains (magic ∷ []) (kind, number) → IsMalformed 512 2 blocks kind number
is_malformed kind number (zero, low, at) = subst (λ (one : BadKind × ℕ). IsMalformed 512 2 blocks (one.0) (one.1)) at malformed.here
is_malformed kind number (suc k, low, at) = absurd (omega (arith, low))

-- ---- the superblock alone is wrong, and nothing is noted

malformations : AreMalformations 512 2 blocks (magic ∷ [])
malformations = record {
  each = λ kind number. (is_malformed kind number, λ bad. (0, omega arith, sym (only_magic kind number bad)));
  ordered = λ i j d less low. absurd (omega (arith, less, low));
}

unnamed_none : (i : ℕ) → IsNoted IsUnnamed 512 2 blocks i → ⊥
unnamed_none i noted = absurd (rw no_volume at noted)

unclaimed_none : (f : ℕ) → IsNoted IsUnclaimed 512 2 blocks f → ⊥
unclaimed_none f noted = absurd (rw no_volume at noted)

nothing : (holds : ℕ → Type 0) → ((n : ℕ) → holds n → ⊥) → AreAll holds []
nothing holds none = record { each = λ n. ((λ c. absurd (omega (arith, c.1))), (λ h. absurd (none n h))); ascend = λ i j d less low. absurd (omega (arith, low)) }

told : TellsFindings 512 2 blocks (Bad (Super Magic) 0 ∷ [])
told = record {
  bad = magic ∷ [];
  unnamed = [];
  unclaimed = [];
  is = refl;
  are = record { malformations = malformations; unnamed = nothing _ unnamed_none; unclaimed = nothing _ unclaimed_none };
}

-- ---- it isn't told twice

twice : (one other : BadKind × ℕ) (rest : List (BadKind × ℕ)) → AreMalformations 512 2 blocks (one ∷ other ∷ rest) → ⊥
twice (kind, number) (other, m) rest are =
    let first = only_magic kind number ((are.each kind number).0 (0, omega arith, refl)) in
    let second = only_magic other m ((are.each other m).0 (1, omega arith, refl)) in
    let earlier = are.ordered 0 1 magic (omega arith) (omega arith) in
    false≢true (sym (ap (λ (x : BadKind × ℕ). is_earlier_malformation x (other, m)) first ∙ ap (λ (x : BadKind × ℕ). is_earlier_malformation magic x) second) ∙ earlier)

none_of : (holds : ℕ → Type 0) (numbers : List ℕ) → ((n : ℕ) → holds n → ⊥) → AreAll holds numbers → length numbers ≡ 0
none_of holds [] none are = refl
none_of holds (n ∷ more) none are = absurd (none n ((are.each n).0 (0, omega arith, refl)))

no_two : (bad : List (BadKind × ℕ)) → AreMalformations 512 2 blocks bad → length bad ≡ 2 → ⊥
no_two [] are two = omega (arith, two)
no_two (one ∷ []) are two = omega (arith, two)
no_two (one ∷ other ∷ rest) are two = twice one other rest are

told_twice : TellsFindings 512 2 blocks (Bad (Super Magic) 0 ∷ Bad (Super Magic) 0 ∷ []) → ⊥
told_twice h =
    let whole = ap (λ (lines : List Finding). length lines) h.is in
    let first = length-append (map bad_line h.bad) (map Unnamed h.unnamed) in
    let all = length-append (map bad_line h.bad ++ map Unnamed h.unnamed) (map Unclaimed h.unclaimed) in
    let no_names = none_of _ h.unnamed unnamed_none h.are.unnamed in
    let no_claims = none_of _ h.unclaimed unclaimed_none h.are.unclaimed in
    no_two h.bad h.are.malformations
    (omega (arith, whole, first, all, no_names, no_claims, length-map h.bad bad_line, length-map h.unnamed Unnamed, length-map h.unclaimed Unclaimed))

-- ---- it is answered, since no block is gone

none_gone : (b : ℕ) → is_gone both_on_1 all_good b ≡ true → ⊥
unfolding all_good
none_gone zero gone = false≢true gone
none_gone (suc zero) gone = false≢true gone
none_gone (suc (suc b)) gone = false≢true gone

audited : Step (Unit {0}) before Audit (Audited (Bad (Super Magic) 0 ∷ [])) (array_read both_on_1 nothing_known 9)
audited = (
  record {
    unavailable = λ known lost. absurd (none_gone lost.block lost.gone);
    findings = λ known. told;
    only = tt;
    cause = tt;
    unwritten = refl;
  },
  reads both_on_1 nothing_known,
)

unavailable : (Known : Type 0) → Step Known before Audit Unavailable (array_read both_on_1 nothing_known 9) → ⊥
unavailable Known h = none_gone h.0.cause.0 h.0.cause.1
