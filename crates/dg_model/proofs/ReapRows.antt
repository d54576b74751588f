-- A refill within a limit of one copy, of a boundary whose slots hold a block that lives, a dead one, one that lives, and none. What is alive
-- isn't computed: it is assumed of the volume.
use Rattle.std.proofs.Common.{◌≡◌, ◌≢◌, ◌∙◌, inl, inr, ℕ, zero, suc, Bool, true, false, List, [], ◌∷◌, ◌++◌, length, ap, refl, arith, sym, subst}
use Rattle.std.proofs.lemmas.Bool.{cases_Bool, false≢true}
use Rattle.std.proofs.lemmas.List.{get_or-set_other, get_or-set_same, length-set}
use Rattle.std.specs.Prelude.{◌==◌, ◌/◌, None, cond, if◌then◌else◌, replicate, slice_set}
use Rattle.ufs_model.specs.Blocks.{Volume}
use Rattle.dg_model.specs.Blocks.{block_in, zeros}
use Rattle.dg_model.specs.Marks.{IsDead, is_marked}
use Rattle.dg_model.specs.Members.{is_filling, is_good, partner_of}
use Rattle.dg_model.specs.Refills.{StandsBetween}
use Rattle.dg_model.specs.States.{State}
use Rattle.dg_model.specs.Steps.{Step}
use Rattle.dg_model.specs.Tables.{StandsIn, Table, sites_in}
use Rattle.dg_model.specs.declared.events.Event.TheVariants.{Rebuild}
use Rattle.dg_model.specs.declared.members.MemberState.{MemberState}
use Rattle.dg_model.specs.declared.members.MemberState.TheVariants.{Filling, Good, Out}
use Rattle.dg_model.specs.declared.phases.Phase.TheVariants.{Loose, Worn}
use Rattle.dg_model.specs.declared.replies.Reply.TheVariants.{Copied}
use Rattle.dg_model.specs.declared.sites.Site.{Site}
use Rattle.dg_model.proofs.PlanRows.{on, shape_of}
use Rattle.dg_model.proofs.RowLaws.{same_from_test}
use Rattle.dg_model.proofs.StepRows.{all_good}

-- member 0 is refilled up to a slot, and members 1, 2 and 3 are good
refilled : ℕ → ℕ → MemberState
refilled have zero = Filling have
refilled have (suc q) = all_good (suc q)

paired : (have q : ℕ) → is_filling (refilled have q) ≡ true → is_good (refilled have (partner_of q)) ≡ true
unfolding all_good refilled
paired have zero e = refl
paired have (suc zero) e = absurd (false≢true e)
paired have (suc (suc zero)) e = absurd (false≢true e)
paired have (suc (suc (suc zero))) e = absurd (false≢true e)
paired have (suc (suc (suc (suc q)))) e = absurd (false≢true e)

others_good : (q : ℕ) → q ≢ 0 → refilled 2 q ≡ refilled 0 q
unfolding refilled
others_good zero other = absurd (other refl)
others_good (suc q) other = refl

-- blocks 34, 35 and 36 of 128 stand in slots 0, 1 and 2 of boundary 0
abbrev rows : List (List Site)
rows = replicate 34 [] ++ (on 0 0 ∷ []) ∷ (on 0 1 ∷ []) ∷ (on 0 2 ∷ []) ∷ replicate 91 []

abbrev table : Table
table = record { shape = shape_of 2 64 1; rows = rows }

abbrev without_dead : Table
without_dead = record table { rows = slice_set rows 35 [] }

abbrev array : Table → Volume → ℕ → ℕ → State
array sites volume have calls = record {
  boundaries = 2;
  live = 0 ∷ 1 ∷ [];
  table = sites;
  blocks = volume;
  pending = replicate 128 false;
  cut = replicate 128 false;
  homes = [];
  copies = [];
  phase = Loose;
  recent = [];
  members = refilled have;
  label = None;
  counts = record { faults = λ q. 0; calls = calls; writes = calls };
}

not_worn : Loose ≡ Worn → ⊥
not_worn e = cc

unmarked : (b : ℕ) → (b == 35) ≡ true → is_marked (replicate 128 false) b ≡ false
unmarked b is = ap (λ (k : ℕ). is_marked (replicate 128 false) k) (same_from_test b 35 is)

in_its_slot : (b : ℕ) → (b == 35) ≡ true → StandsBetween table b 0 0 2
in_its_slot b is = subst (λ (k : ℕ). StandsBetween table k 0 0 2) (sym (same_from_test b 35 is)) (record { slot = 1; stands = (0, omega arith, refl); from = omega arith; before = omega arith })

sites_then : (b : ℕ) → sites_in without_dead b ≡ (if b == 35 then [] else sites_in table b)
sites_then b = by_test (b == 35) refl
  where
    by_test : (same : Bool) → (b == 35) ≡ same → sites_in without_dead b ≡ cond same [] (sites_in table b)
    by_test true is = ap (λ (k : ℕ). sites_in without_dead k) (same_from_test b 35 is)
    by_test false is = get_or-set_other rows 35 b [] [] (λ same. false≢true (sym is ∙ ap (λ (k : ℕ). k == 35) same))

dead_in_2 : StandsIn table 35 0 2 → ⊥
dead_in_2 (zero, low, at) = let slot = ap (λ (site : Site). site.slot) at in omega (arith, slot)
dead_in_2 (suc k, low, at) = omega (arith, low)

module _ (v : Volume) (size : length v ≡ 128) (dead : IsDead table v (replicate 128 false) 35) (alive : (b : ℕ) → b ≢ 35 → IsDead table v (replicate 128 false) b → ⊥) where
  abbrev begun : State
  begun = array table v 0 5

  -- the dead block is reaped on the way, and the refill ends before the next
  abbrev passed : State
  passed = array without_dead (slice_set v 35 (zeros 1024)) 2 9

  values_then : (b : ℕ) → block_in (slice_set v 35 (zeros 1024)) b ≡ (if b == 35 then zeros 1024 else block_in v b)
  values_then b = by_test (b == 35) refl
    where
      by_test : (same : Bool) → (b == 35) ≡ same → block_in (slice_set v 35 (zeros 1024)) b ≡ cond same (zeros 1024) (block_in v b)
      by_test true is =
          ap (λ (k : ℕ). block_in (slice_set v 35 (zeros 1024)) k) (same_from_test b 35 is) ∙ get_or-set_same v 35 (zeros 1024) [] (omega (arith, size))
      by_test false is = get_or-set_other v 35 b (zeros 1024) [] (λ same. false≢true (sym is ∙ ap (λ (k : ℕ). k == 35) same))

  only_dead : (b : ℕ) → IsDead table v (replicate 128 false) b → (b == 35) ≡ true
  only_dead b is = elim (cases_Bool (b == 35)) [
    | inl same ↦ same
    | inr other ↦ absurd (alive b (λ same. false≢true (sym other ∙ ap (λ (k : ℕ). k == 35) same)) is)
  ]

  kept_in_2 : (b : ℕ) → StandsIn table b 0 2 → IsDead table v (replicate 128 false) b → ⊥
  kept_in_2 b stands is = dead_in_2 (subst (λ (k : ℕ). StandsIn table k 0 2) (same_from_test b 35 (only_dead b is)) stands)

  rebuilt : Step (Unit {0}) begun (Rebuild 0 1) (Copied 1 1) passed
  unfolding all_good refilled
  rebuilt = (
    omega arith,
    (λ lost. false≢true lost),
    record {
      q = 0;
      low = 0;
      high = 2;
      filling = (refl, refl);
      refills = record { copied = refl; limit = omega arith; end = inr (refl, (36, (0, omega arith, refl))); rest = refl };
      slots = record {
        reaped = λ b. b == 35;
        passes = record {
          counts = record { faults = λ q. omega arith; calls = omega arith; writes = omega arith };
          label = record { opens = true; rose = λ a b. refl; stood = λ e. absurd (omega (arith, e)); is = refl };
          paired = paired 2;
          faults = record { fell = λ q low less. absurd (omega (arith, less)); beyond = λ q high. refl };
        };
        out = λ q was. refl;
        kept = λ told spares whole b stands is. kept_in_2 b stands is;
        reaps = record {
          run = omega arith;
          within = omega arith;
          passed = in_its_slot;
          shape = refl;
          rows = refl;
          sites = sites_then;
          count = length-set v 35 (zeros 1024);
          values = values_then;
        };
        may = record {
          none = λ spared b. absurd (elim spared [ inl lost ↦ false≢true lost | inr worn ↦ not_worn worn ]);
          marks = unmarked;
          dead = λ told b is. subst (λ (k : ℕ). IsDead table v (replicate 128 false) k) (sym (same_from_test b 35 is)) dead;
          all = λ told spares whole b is stands. only_dead b is;
        };
        rest = refl;
      };
      member = refl;
      others = λ q other. inl (others_good q other);
    },
  )

  -- it doesn't end before the dead block, with two used slots left
  its_member : (q low : ℕ) → q / 2 ≡ 0 → refilled 0 q ≡ Filling low → q ≡ 0
  unfolding all_good refilled
  its_member zero low at is = refl
  its_member (suc zero) low at is = absurd (false≢true (ap is_filling is))
  its_member (suc (suc q)) low at is = absurd (omega (arith, at))

  slot_of : MemberState → ℕ
  slot_of Good = 0
  slot_of (Filling have) = have
  slot_of Out = 0

  its_end : (last : Bool) (high : ℕ) → ◌≡◌ {A = MemberState} (Filling 1) (cond last Good (Filling high)) → high ≡ 1
  unfolding slot_of
  its_end true high is = absurd (false≢true (sym (ap is_filling is)))
  its_end false high is = sym (ap slot_of is)

  keeps_dead : Step (Unit {0}) begun (Rebuild 0 1) (Copied 1 2) (array table v 1 9) → ⊥
  unfolding all_good refilled
  keeps_dead h =
      let q = its_member h.2.q h.2.low h.2.filling.0 h.2.filling.1 in
      let high = its_end (h.2.high == 65) h.2.high (ap (refilled 1) (sym q) ∙ h.2.member) in
      h.2.slots.kept tt (λ spared. elim spared [ inl lost ↦ false≢true lost | inr worn ↦ not_worn worn ]) refl 35 (0, omega arith, ap (λ (slot : ℕ). on 0 slot) (sym high)) dead
