-- What calls for one disk of a group leave of the others.
use Rattle.std.proofs.Common.{◌≡◌, ◌≢◌, ℕ, ◌<◌, inl, inr, sym, subst, ◌∙◌}
use Rattle.std.proofs.lemmas.Bool.{cases_Bool, false≢true}
use Rattle.dg_model.specs.Causes.{Rose}
use Rattle.dg_io.specs.declared.outside.Rack.{Ghosts}
use Rattle.dg_parity.specs.Blanks.{LeavesOthers}
use Rattle.dg_parity.specs.Groups.{disk_number, is_out, LeavesGroup}
use Rattle.dg_parity.specs.Mends.{FallBut, LeavesBut}
use Rattle.dg_parity.specs.declared.groups.Group.{Group}
use Rattle.dg_parity.proofs.BlankLemmas.{others-then, others-of, others-named}
use Rattle.dg_parity.proofs.GroupLemmas.{rose-sooner, rose-later}
use Rattle.dg_parity.proofs.MendLemmas.{Unmarks}

pub fall-none : {S : Type 0} (rack : Ghosts S) (j : ℕ) (group : Group) (now : S) → FallBut rack j group group now now
fall-none rack j group now = record { cause = λ i lt ne in0 out. absurd (false≢true (sym in0 ∙ out)); stays = λ i ne h. h }

pub fall-marked : {S : Type 0} (rack : Ghosts S) (j : ℕ) (old mid : Group) (now : S) → ((i : ℕ) → i ≢ j → is_out mid i ≡ is_out old i) → FallBut rack j old mid now now
fall-marked rack j old mid now same = record {
  cause = λ i lt ne in0 out. absurd (false≢true (sym in0 ∙ sym (same i ne) ∙ out));
  stays = λ i ne h. same i ne ∙ h;
}

-- calls on the group behind that
pub fall-then : {S : Type 0} (rack : Ghosts S) (j : ℕ) (old mid new : Group) (s t u : S) → mid.number ≡ old.number → mid.disks ≡ old.disks → LeavesOthers rack old s t
    → FallBut rack j old mid s t → LeavesGroup rack mid new t u → FallBut rack j old new s u
fall-then rack j old mid new s t u number disks before f g = record {
  cause = λ i lt ne in0 out. elim (cases_Bool (is_out mid i)) [
    | inl out1 ↦ rose-later _ _ _ (f.cause i lt ne in0 out1) (g.rise.faults (disk_number old.number i))
    | inr in1 ↦ rose-sooner _ _ _ (before.rise.faults (disk_number old.number i))
        (subst (λ (k : ℕ). Rose ((rack.counts t).faults (disk_number k i)) ((rack.counts u).faults (disk_number k i))) number
        (g.cause i (subst (λ (n : ℕ). i < n) (sym disks) lt) in1 out))
  ];
  stays = λ i ne h. g.later.grows i (f.stays i ne h);
}

pub others-marked : {S : Type 0} (rack : Ghosts S) (old mid new : Group) (t u : S) → mid.number ≡ old.number → mid.disks ≡ old.disks → LeavesGroup rack mid new t u → LeavesOthers rack old t u
others-marked rack old mid new t u number disks h = others-named rack old mid t u number disks (others-of rack mid new t u h)

-- disk j was filled, whether it was done or not
pub others-but : {S : Type 0} (rack : Ghosts S) (j : ℕ) (old new : Group) (s t : S) → j < old.disks → LeavesBut rack j old new s t → LeavesOthers rack old s t
others-but rack j old new s t lt h = record {
  others = λ q f. h.others q (λ i below in0. f i below) (f j lt);
  other_faults = λ q f. h.other_faults q (λ i below in0. f i below) (f j lt);
  others_stand = λ q f. h.others_stand q (λ i below in0. f i below) (f j lt);
  rise = h.rise;
  tells = h.tells;
  same_rack = h.same_rack;
  steady_on = h.steady_on;
}

pub fall-but : {S : Type 0} (rack : Ghosts S) (j : ℕ) (old new : Group) (s t : S) → LeavesBut rack j old new s t → FallBut rack j old new s t
fall-but rack j old new s t h = record { cause = λ i lt ne in0 out. h.cause i lt in0 out; stays = λ i ne out. h.later.grows i out }

-- and came back
pub fall-unmarked : {S : Type 0} (rack : Ghosts S) (j : ℕ) (old mid new : Group) (s t : S) → FallBut rack j old mid s t → Unmarks mid new j → FallBut rack j old new s t
fall-unmarked rack j old mid new s t f u = record {
  cause = λ i lt ne in0 out. f.cause i lt ne in0 (sym (u.others i ne) ∙ out);
  stays = λ i ne out. u.others i ne ∙ f.stays i ne out;
}

pub returned-fall : {S : Type 0} (rack : Ghosts S) (j : ℕ) (old g mid new : Group) (s t u : S) → j < old.disks → LeavesBut rack j old g s t → Unmarks g mid j → LeavesGroup rack mid new t u
    → FallBut rack j old new s u
returned-fall rack j old g mid new s t u lt fill un note =
    fall-then rack j old mid new s t u (un.number ∙ fill.later.number) (un.disks ∙ fill.later.disks) (others-but rack j old g s t lt fill)
    (fall-unmarked rack j old g mid s t (fall-but rack j old g s t fill) un) note

pub returned-others : {S : Type 0} (rack : Ghosts S) (j : ℕ) (old g mid new : Group) (s t u : S) → j < old.disks → LeavesBut rack j old g s t → Unmarks g mid j → LeavesGroup rack mid new t u
    → LeavesOthers rack old s u
returned-others rack j old g mid new s t u lt fill un note =
    others-then rack old s t u (others-but rack j old g s t lt fill) (others-marked rack old mid new t u (un.number ∙ fill.later.number) (un.disks ∙ fill.later.disks) note)
