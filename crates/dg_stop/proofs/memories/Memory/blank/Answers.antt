use Rattle.std.proofs.Common.{◌≡◌, ℕ, Bool, zero, suc, false, get_or, replicate, refl}
use Rattle.dg_stop.proofs.memories.Memory.blank.Goals as goal

falses_at : (n q : ℕ) → get_or {A = Bool} (replicate n false) q false ≡ false
falses_at zero q = refl
falses_at (suc n) zero = refl
falses_at (suc n) (suc q) = falses_at n q

pub returns : goal.returns
returns c = record {
  count = c.in_ok-current.ensures.count;
  sizes = c.in_ok-current.ensures.sizes;
  room_now = c.in_ok-current.ensures.most;
  room_last = c.in_ok-last.ensures.most;
  stands = λ q. falses_at 32 q;
  known = λ q. falses_at 32 q;
  fell = λ q. falses_at 32 q;
  room_is = refl;
  commit = refl;
  top = refl;
}
