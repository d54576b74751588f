-- Moves that a loss ended.
use Rattle.std.proofs.Common.{◌≡◌, ◌<◌, ◌++◌, ◌⊎◌, ℕ, Bool, false, min, refl, ◌∙◌, ap, arith}
use Rattle.dg_io.specs.declared.outside.Rack.{Ghosts}
use Rattle.dg_model.specs.Moves.{missing_in, moves, round, rounds, all_done, tidying}
use Rattle.dg_model.specs.States.{has_lost}
use Rattle.dg_store.specs.Stores.{members_of, shape_of, table_of}
use Rattle.dg_store.specs.declared.store.Store.{Store}
use Rattle.dg_move.specs.Stops.{CopyStands, StoppedAt}
use Rattle.dg_move.specs.Stores.{CopyFails, MovesOn}
use Rattle.dg_move.specs.Turns.{IsNext, IsTurned}
use Rattle.dg_move.proofs.TurnLaws.{left_more, next_led, next_whole}

module _ {R : Type 0} (rack : Ghosts R) (targets : ℕ → ℕ → Bool) where
  -- the copy of the next round is the last one
  pub stopped_next : (limit total count : ℕ) (old mid new : Store R) (b s : ℕ) → total ≡ min limit (missing_in targets (table_of old)) → count < total
      → IsTurned targets total count (table_of old) (table_of mid) → IsNext targets (table_of mid) b s
      → MovesOn rack targets old mid → has_lost (shape_of mid) (members_of mid) ≡ false
      → CopyFails rack b s mid new ⊎ CopyStands rack targets b s mid new → StoppedAt rack targets limit old new
  stopped_next limit total count old mid new b s is below so_far next on live end =
      let less = left_more targets total count so_far.left so_far.all below in
      record {
        middle = mid;
        block = b;
        boundary = s;
        front = so_far.acts ++ tidying targets so_far.turned;
        more = rounds targets less.0 (all_done so_far.turned (round targets so_far.turned));
        whole = next_whole targets limit total count less.0 (table_of old) (table_of mid) b s is so_far next less.1;
        led = next_led targets total count (table_of old) (table_of mid) (table_of mid) so_far refl;
        before = on;
        live = live;
        end = end;
      }

  -- a limit that allows the same rounds
  pub stopped_same : (limit total : ℕ) (old new : Store R) → total ≡ min limit (missing_in targets (table_of old))
      → StoppedAt rack targets total old new → StoppedAt rack targets limit old new
  unfolding moves
  stopped_same limit total old new is stopped = record {
    middle = stopped.middle;
    block = stopped.block;
    boundary = stopped.boundary;
    front = stopped.front;
    more = stopped.more;
    whole = ap (λ (k : ℕ). rounds targets k (table_of old)) (omega (arith, is)) ∙ stopped.whole;
    led = stopped.led;
    before = stopped.before;
    live = stopped.live;
    end = stopped.end;
  }
