-- What reads and moves leave of an array, one after another, and what was planned over it before and after reads.
use Rattle.std.proofs.Common.{◌≡◌, ◌<◌, ◌/◌, ℕ, Bool, List, sym, subst}
use Rattle.std.specs.Prelude.{Result, Ok, Err, OnErr}
use Rattle.dg_claims.specs.Kept.{KeptClaims, table_of}
use Rattle.dg_claims.specs.Tables.{IsTableOf}
use Rattle.dg_infer.specs.Meanings.{KeptInference}
use Rattle.dg_infer.specs.Meanings as inferences
use Rattle.dg_io.specs.declared.outside.Rack.{Ghosts}
use Rattle.dg_label.specs.Seals.{KeepsArray}
use Rattle.dg_model.proofs.MemberLaws.{falls_both}
use Rattle.dg_model.specs.Plans.{plan}
use Rattle.dg_model.specs.Tables.{Table}
use Rattle.dg_model.specs.Wants.{AreParents}
use Rattle.dg_model.specs.declared.homes.Home.{Home}
use Rattle.dg_model.specs.declared.parents.Parent.{Parent}
use Rattle.dg_model.specs.declared.shapes.Shape.{Shape}
use Rattle.dg_model.specs.declared.wants.NoRoom.{NoRoom}
use Rattle.dg_move.specs.Stores.{MovesOn}
use Rattle.dg_plan.specs.Planned.{IsPlanned, KeepsRules}
use Rattle.dg_plan.specs.declared.target_lists.Targets.{Targets}
use Rattle.dg_store.specs.Leaves.{Keeps}
use Rattle.dg_store.specs.ReadLaws.{reads_both, reads_none, stays_both}
use Rattle.dg_store.specs.Stores.{IsSound, TellsAll, members_of, rack_of}
use Rattle.dg_store.specs.declared.store.Store.{Store}
use Rattle.dg_volume.proofs.FaultLaws.{array_outs, array_tells, falls_out, keeps_outs, keeps_tells, outs_both, stays_by, tells_both}
use Rattle.dg_volume.specs.Planned.{AreKnown, AreWanted, HasMovedArray, HasNoPlan, HasPlan, HasReadArray}
use Rattle.dg_volume.specs.Volumes.{FitsArray}

pub on_err : {A E : Type 0} (r : Result A E) (P : Type 0) → P → OnErr r P
on_err (Ok a) P p = tt
on_err (Err e) P p = p

-- the claims that are kept are those of each volume for which the inference stands
pub table_right : (shape : Shape) (kept : KeptInference) (claims : KeptClaims) (V : List (List ℕ)) → FitsArray shape kept → claims ≡ kept.claims → inferences.StandsFor kept V
    → IsTableOf shape.l shape.n V (table_of claims)
table_right shape kept claims V fits same held =
    let by_bytes = subst (λ (l : ℕ). IsTableOf l kept.n V (table_of kept.claims)) fits.bytes held.claims in
    let by_number = subst (λ (n : ℕ). IsTableOf shape.l n V (table_of kept.claims)) fits.number by_bytes in
    subst (λ (c : KeptClaims). IsTableOf shape.l shape.n V (table_of c)) (sym same) by_number

module _ {R : Type 0} (rack : Ghosts R) where
  -- what is told in the end was told before
  pub told_by : (a b : Store R) → Keeps rack a b → TellsAll rack b → TellsAll rack a
  told_by a b keeps told q below = keeps.stays.told_before q (told q (subst (λ (s : Shape). q / 2 < s.b) (sym keeps.shape) below))

  pub told_moved : (a b : Store R) → HasMovedArray rack a b → TellsAll rack b → TellsAll rack a
  told_moved a b h told q below = h.stays.stays.told_before q (told q (subst (λ (s : Shape). q / 2 < s.b) (sym h.stays.shape) below))

  -- no call was made
  pub read_none : (a : Store R) → IsSound rack a → HasReadArray rack a a
  read_none a sound = record { sound = sound; reads = reads_none rack a; stands = λ V held. held }

  pub read_both : (a b c : Store R) → HasReadArray rack a b → HasReadArray rack b c → HasReadArray rack a c
  read_both a b c first second = record {
    sound = second.sound;
    reads = reads_both rack a b c first.reads second.reads;
    stands = λ V held. second.stands V (first.stands V held);
  }

  pub read_moved : (a b : Store R) → HasReadArray rack a b → HasMovedArray rack a b
  read_moved a b h = record {
    sound = h.sound;
    stays = stays_by rack a b h.reads.keeps;
    falls = h.reads.keeps.falls;
    faults = keeps_tells rack a b h.reads.keeps;
    outs = keeps_outs rack a b h.reads.keeps;
    stands = λ told. h.stands;
  }

  pub moved_none : (a : Store R) → IsSound rack a → HasMovedArray rack a a
  moved_none a sound = read_moved a a (read_none a sound)

  pub moved_by : (targets : ℕ → ℕ → Bool) (a b : Store R) → MovesOn rack targets a b → HasMovedArray rack a b
  moved_by targets a b h = record {
    sound = h.leaves.sound;
    stays = stays_by rack a b h.leaves.keeps;
    falls = h.leaves.keeps.falls;
    faults = keeps_tells rack a b h.leaves.keeps;
    outs = keeps_outs rack a b h.leaves.keeps;
    stands = h.stands;
  }

  pub opened_array : (a b : Store R) → KeepsArray rack a b → HasMovedArray rack a b
  opened_array a b h = record {
    sound = h.sound;
    stays = h.stays;
    falls = h.falls;
    faults = array_tells rack a b h;
    outs = array_outs rack a b h;
    stands = λ told. h.stands;
  }

  pub moved_then : (a b c : Store R) → HasMovedArray rack a b → HasMovedArray rack b c → HasMovedArray rack a c
  moved_then a b c first second = record {
    sound = second.sound;
    stays = stays_both rack a b c first.stays second.stays;
    falls =
        falls_both (rack.counts (rack_of a)).faults (rack.counts (rack_of b)).faults (rack.counts (rack_of c)).faults (members_of a) (members_of b) (members_of c)
        first.stays.stays.rise.faults second.stays.stays.rise.faults first.falls second.falls;
    faults =
        tells_both rack a b c first.stays.shape
        (falls_out (rack.counts (rack_of b)).faults (rack.counts (rack_of c)).faults (members_of b) (members_of c) second.falls) first.faults second.faults;
    outs =
        outs_both rack a b c (falls_out (rack.counts (rack_of a)).faults (rack.counts (rack_of b)).faults (members_of a) (members_of b) first.falls) first.outs second.outs;
    stands = λ told V held. second.stands told V (first.stands (told_moved b c second told) V held);
  }

  pub moved_both : (a b c : Store R) → HasReadArray rack a b → HasMovedArray rack b c → HasMovedArray rack a c
  moved_both a b c first second = moved_then a b c (read_moved a b first) second

  known_before : (a b c : Store R) (parents : List Parent) → HasReadArray rack a b → AreKnown rack b c parents → AreKnown rack a c parents
  known_before a b c parents read known told V held =
      subst (λ (s : Shape). AreParents s.l s.n V parents) read.reads.keeps.shape (known told V (read.stands V held))

  -- a plan that was made after reads is one from before them
  pub plan_before : (a b c : Store R) (kept : KeptInference) (homes : List Home) (targets : Targets) → HasReadArray rack a b → HasPlan rack b c kept homes targets
      → HasPlan rack a c kept homes targets
  plan_before a b c kept homes targets read found = record {
    wants = found.wants;
    parents = found.parents;
    wanted = subst (λ (t : Table). AreWanted t kept found.wants) read.reads.table found.wanted;
    known = known_before a b c found.parents read found.known;
    planned = subst (λ (s : Shape). IsPlanned s found.wants found.parents homes targets) read.reads.keeps.shape found.planned;
    rules = subst (λ (s : Shape). KeepsRules s found.wants targets) read.reads.keeps.shape found.rules;
    live = found.live;
  }

  pub no_plan_before : (a b c : Store R) (kept : KeptInference) (homes : List Home) (bad : NoRoom) → HasReadArray rack a b → HasNoPlan rack b c kept homes bad
      → HasNoPlan rack a c kept homes bad
  no_plan_before a b c kept homes bad read cramped = record {
    wants = cramped.wants;
    parents = cramped.parents;
    wanted = subst (λ (t : Table). AreWanted t kept cramped.wants) read.reads.table cramped.wanted;
    known = known_before a b c cramped.parents read cramped.known;
    is = subst (λ (s : Shape). plan s cramped.wants cramped.parents homes ≡ Err bad) read.reads.keeps.shape cramped.is;
  }
