-- What a commit leaves of a rack of which some members show their first bytes alone.
use Rattle.std.proofs.Common.{◌≡◌, ◌+◌, ◌&&◌, ◌⊎◌, inl, inr, ℕ, Bool, true, false, not, List, Option, None, Some, slice_index, refl, ap, arith}
use Rattle.dg_io.specs.Commits.{IsNewKept, KeptAfter, LeavesCommit}
use Rattle.dg_io.specs.Kept.{Kept}
use Rattle.dg_io.specs.declared.checkpoints.CommitAnswer.{CommitAnswer}
use Rattle.dg_io.specs.declared.checkpoints.CommitAnswer.TheVariants.{Committed, Lost}
use Rattle.dg_io.specs.declared.outside.Rack.{Ghosts}
use Rattle.dg_model.specs.Causes.{Rose}
use Rattle.dg_regroup.specs.FrontGhosts.{front}
use Rattle.dg_regroup.specs.FrontLaws.{same_shown}
use Rattle.dg_regroup.specs.FrontRacks.{front_keeps, front_room, is_front, is_hidden, shown}
use Rattle.dg_regroup.specs.declared.front_racks.FrontRack.{FrontRack}

rose_sum : (before now own : ℕ) → Rose before now → Rose (before + own) (now + own)
rose_sum before now own rose = omega (arith, rose)

none_shown : (cut : Bool) (n : Option ℕ) (bytes : Option (List ℕ)) → bytes ≡ None → shown cut n bytes ≡ None
none_shown true n bytes is = ap (shown true n) is
none_shown false n bytes is = is

module _ {R : Type 0} (rack : Ghosts R) (it : FrontRack R) (r : R) where
  -- only the rack below is another one
  abbrev after_it : FrontRack R
  after_it = record it { rack = r }

  abbrev show : Kept → Kept
  show next = record { entries = λ q. shown (is_front it q) it.length (next.entries q); extra = next.extra }

  new_kept : (keep fell : ℕ) (extra : List ℕ) (next : Kept) → IsNewKept keep fell extra (rack.bytes it.rack) next → IsNewKept keep fell extra ((front rack).bytes it) (show next)
  new_kept keep fell extra next is = record {
    others = λ q off. none_shown (is_front it q) it.length (next.entries q) (is.others q off);
    stand = λ q kept up. ap (shown (is_front it q) it.length) (is.stand q kept up);
    fallen = λ q kept down. either q (is.fallen q kept down);
    extra_is = is.extra_is;
  } where
    either : (q : ℕ) → (next.entries q ≡ rack.bytes it.rack q) ⊎ (next.entries q ≡ None)
        → (shown (is_front it q) it.length (next.entries q) ≡ shown (is_front it q) it.length (rack.bytes it.rack q)) ⊎ (shown (is_front it q) it.length (next.entries q) ≡ None)
    either q (inl same) = inl (ap (shown (is_front it q) it.length) same)
    either q (inr none) = inr (none_shown (is_front it q) it.length (next.entries q) none)

  kept_new : (keep fell : ℕ) (extra : List ℕ) → ((next : Kept) × IsNewKept keep fell extra (rack.bytes it.rack) next × rack.keeps r (Some next))
      → (next : Kept) × IsNewKept keep fell extra ((front rack).bytes it) next × front_keeps rack after_it (Some next)
  kept_new keep fell extra (next, is, keeps) = (show next, new_kept keep fell extra next is, (next, keeps, record { entries = λ q. refl; extra = refl }))

  kept_committed : (keep : ℕ) (extra : List ℕ) (sequence fell : ℕ) → KeptAfter rack keep extra (Committed sequence fell) it.rack r
      → KeptAfter (front rack) keep extra (Committed sequence fell) it after_it
  kept_committed keep extra sequence fell done None keeps = kept_new keep fell extra (done keeps.0 keeps.1)
  kept_committed keep extra sequence fell done (Some kept) keeps = kept_new keep fell extra (done (Some keeps.0) keeps.1)

  kept_lost : (keep : ℕ) (extra : List ℕ) → KeptAfter rack keep extra Lost it.rack r → KeptAfter (front rack) keep extra Lost it after_it
  kept_lost keep extra done None keeps = elim (done keeps.0 keeps.1) [
    | inl old ↦ inl (keeps.0, old)
    | inr next ↦ inr (kept_new keep keep extra next)
  ]
  kept_lost keep extra done (Some kept) keeps = elim (done (Some keeps.0) keeps.1) [
    | inl old ↦ inl (keeps.0, old, record { entries = keeps.2.entries; extra = keeps.2.extra })
    | inr next ↦ inr (kept_new keep keep extra next)
  ]

  kept_through : (keep : ℕ) (extra : List ℕ) (answer : CommitAnswer) → KeptAfter rack keep extra answer it.rack r → KeptAfter (front rack) keep extra answer it after_it
  kept_through keep extra (Committed sequence fell) done = kept_committed keep extra sequence fell done
  kept_through keep extra Lost done = kept_lost keep extra done

  pub commit_shown : (room : R → Option ℕ) (keep : ℕ) (extra : List ℕ) (answer : CommitAnswer) → LeavesCommit rack room keep extra answer it.rack r
      → LeavesCommit (front rack) (front_room room) keep extra answer it after_it
  commit_shown room keep extra answer leaves = record {
    same_rack = leaves.same_rack;
    steady_on = leaves.steady_on;
    rise = record {
      faults = λ q. (let up = leaves.rise.faults q in omega (arith, up));
      calls = leaves.rise.calls;
      writes = let up = leaves.rise.writes in omega (arith, up);
    };
    same = λ q. same_shown (is_front it q) it.length (rack.bytes it.rack q) (rack.bytes r q) (leaves.same q);
    told_before = leaves.told_before;
    cause = λ q is. rose_sum _ _ (slice_index it.refused q) (leaves.cause q is);
    only = leaves.only;
    uncalled = λ q off. ap (λ (n : ℕ). n + slice_index it.refused q) (leaves.uncalled q off);
    stand_on = λ q up. ap (λ (stand : Bool). not (is_hidden it q) && stand) (leaves.stand_on q up);
    kept = kept_through keep extra answer leaves.kept;
    disks_fall = leaves.disks_fall;
    room_is = leaves.room_is;
  }
