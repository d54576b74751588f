-- How many calls of the rack behind a call of a rack over it makes.
use Rattle.std.specs.Prelude.{◌≤◌, ◌+◌, ◌*◌, ◌/◌, ◌%◌, ◌==◌, ◌&&◌, ◌||◌, not, nat_le, ℕ, zero, suc, Bool, cond, if◌then◌else◌}
use Rattle.std.specs.List.{count_by, range_with_len}
use Rattle.std.proofs.Math.Bool.{beq}
use Rattle.dg_io.specs.declared.outside.Rack.{Ghosts}
use Rattle.dg_model.specs.Moves.{count_upto}

-- so many calls at most
abbrev pub MostCalls : {S : Type 0} → Ghosts S → ℕ → S → S → Type 0
MostCalls rack most before now = (rack.counts now).calls ≤ (rack.counts before).calls + most

-- how many pages so many bytes at a place stand on
abbrev pub pages_on : ℕ → ℕ → ℕ
pages_on place zero = 0
pages_on place (suc k) = (place % 512 + k) / 512 + 1

-- not all bytes of page p are among so many at a place
abbrev pub is_part : ℕ → ℕ → ℕ → Bool
is_part place count p = not (nat_le place (512 * p) && nat_le (512 * p + 512) (place + count))

-- How many pages are written in part that still stand where the last commit has them. Each of these is read before it is written.
abbrev pub parts_on : (ℕ → Bool) → (ℕ → Bool) → ℕ → ℕ → ℕ
parts_on now last place count = count_by (λ p. is_part place count p && beq (now p) (last p)) (range_with_len (place / 512) (pages_on place count))

-- calls that write so many bytes of a page, which stands in a place, into a place
abbrev pub calls_on_page : Bool → Bool → ℕ → ℕ
calls_on_page stands second count = if beq stands second || (count == 512) then 1 else 2

-- one where it is so
abbrev pub one_if : Bool → ℕ
one_if is = cond is 1 0

-- how many of the 32 members are such ones
abbrev pub members_of : (ℕ → Bool) → ℕ
members_of is = count_upto 32 is

-- calls of one try of a commit of so many members, in which it was committed or not
abbrev pub calls_of_try : Bool → ℕ → ℕ
calls_of_try committed members = if committed then 4 * members else 3 * members

-- Calls of a commit of so many members, of which so many fell: four on each, and three on each once more for each that fell.
abbrev pub calls_of_commit : ℕ → ℕ → ℕ
calls_of_commit members fell = 4 * members + 3 * members * fell
