-- A commit that was stopped at any call.
use Rattle.std.specs.Prelude.{◌≡◌, ◌≢◌, ◌<◌, ◌≤◌, ◌+◌, ◌*◌, ◌⊎◌, not, ℕ, Bool, true, List, Option, Some, None}
use Rattle.std.proofs.Common.{inl, inr}
use Rattle.dg_io.specs.Told.{Torn}
use Rattle.dg_io.specs.Kept.{Kept, without}
use Rattle.dg_stop.specs.Headers.{Header, HasHeader, extra_of}
use Rattle.dg_stop.specs.Layouts.{page_place, table_size}
use Rattle.dg_stop.specs.Commits.{AreGuarded, ArePrepared, HasNone, IsFresh, IsNamed, WritesHeader, as_committed}
use Rattle.dg_stop.specs.Reopens.{Reopened, IsAttached, IsCommitted, IsLast, Leads}

-- no header of s is there, or header h, which names these bytes
abbrev pub NamedOrNone : ℕ → ℕ → Header → List ℕ → List ℕ → List ℕ → Type 0
NamedOrNone s q h extra target all = HasNone s q all ⊎ IsNamed q h extra target all

-- How far commit s came: first, on the standing members, tables and prepared headers were written, each of them, none or in part; then, on
-- members that have the prepared header, committed ones.
pub record IsStopped (stands : ℕ → Bool) (p s room count : ℕ) (extra : List ℕ) (heads : ℕ → Header)
    (targets : ℕ → List ℕ) (before middle after : ℕ → List ℕ) : Type 0 where
  pub sequence : (q : ℕ) → (heads q).sequence ≡ s
  pub room_is : (q : ℕ) → (heads q).room ≡ room
  pub count_is : (q : ℕ) → (heads q).extra ≡ count
  pub prepared : ArePrepared stands p s before middle
  pub named : (q : ℕ) → NamedOrNone s q (heads q) extra (targets q) (middle q)
  pub second : (q : ℕ) → (after q ≡ middle q) ⊎ (HasHeader q (middle q) (heads q) × WritesHeader (as_committed (heads q)) (middle q) (after q))

abbrev pub NotLanded : (ℕ → List ℕ) → (ℕ → List ℕ) → Type 0
NotLanded middle after = (q : ℕ) → after q ≡ middle q

-- no committed header was written, or one is there
abbrev pub HasLanded : ℕ → (ℕ → List ℕ) → (ℕ → List ℕ) → Type 0
HasLanded s middle after = NotLanded middle after ⊎ ((q : ℕ) × (h : Header) × IsCommitted after s q h)

abbrev pub entry_by : (s q : ℕ) (h : Header) (extra target all : List ℕ) → NamedOrNone s q h extra target all → Option (List ℕ)
entry_by s q h extra target all (inl none) = None
entry_by s q h extra target all (inr named) = Some target

-- the new checkpoint: the bytes of the members on which the header stands
abbrev pub new_kept : (s : ℕ) (heads : ℕ → Header) (extra : List ℕ) (targets middle : ℕ → List ℕ)
    → ((q : ℕ) → NamedOrNone s q (heads q) extra (targets q) (middle q)) → Kept
new_kept s heads extra targets middle named = record { entries = λ q. entry_by s q (heads q) extra (targets q) (middle q) (named q); extra = extra }

-- A commit that stops at any call leaves what the members were reopened as, or makes it the new checkpoint.
abbrev pub StopsLeaveOldOrNew : Type 0
StopsLeaveOldOrNew =
    (stands : ℕ → Bool) (sizes : ℕ → ℕ) (room : ℕ) (places : ℕ → ℕ → Bool) (p top s count : ℕ) (extra : List ℕ) (heads : ℕ → Header)
    (targets : ℕ → List ℕ) (before middle after : ℕ → List ℕ) → AreGuarded stands sizes room places p top before → top < s
    → (stopped : IsStopped stands p s room count extra heads targets before middle after) → IsFresh before p → HasLanded s middle after
    → (kept : Kept) → Reopened before kept → (Reopened after kept) ⊎ (Reopened after (new_kept s heads extra targets middle stopped.named))

-- A write of a part of a page of a standing member, in the place that the last commit doesn't use, leaves what the members are reopened as,
-- whether it is done or not.
abbrev pub WritesLeaveKept : Type 0
WritesLeaveKept =
    (stands : ℕ → Bool) (sizes : ℕ → ℕ) (room : ℕ) (places : ℕ → ℕ → Bool) (p top q page k n : ℕ) (before after : ℕ → List ℕ)
    → AreGuarded stands sizes room places p top before → p ≤ top → stands q ≡ true → 512 * page < sizes q → k + n ≤ 512
    → Torn (page_place (table_size (sizes q) room) page (not (places q page)) + k) n (before q) (after q) → ((r : ℕ) → r ≢ q → after r ≡ before r)
    → IsFresh before p → (kept : Kept) → Reopened before kept
    → Reopened after kept × AreGuarded stands sizes room places p top after × IsFresh after p

-- What an opening writes: on members that the commit has, the committed header over the prepared one.
abbrev pub Upgrades : ℕ → Header → (ℕ → List ℕ) → (ℕ → List ℕ) → Type 0
Upgrades c lead before after =
    (q : ℕ) → (after q ≡ before q) ⊎ ((h : Header) × IsAttached before c lead q h × WritesHeader (as_committed h) (before q) (after q))

-- It leaves what the members are reopened as, whether it is done or not.
abbrev pub OpeningsLeaveKept : Type 0
OpeningsLeaveKept =
    (c q : ℕ) (lead : Header) (before after : ℕ → List ℕ) → IsLast before c → Leads before c q lead → Upgrades c lead before after
    → (kept : Kept) → Reopened before kept → (IsLast after c) × (Reopened after kept)

-- the headers of c are of one commit: they say one room and one number of extra bytes, and name these extra bytes
pub record AreOfOne (c : ℕ) (lead : Header) (extra : List ℕ) (all : ℕ → List ℕ) : Type 0 where
  pub room_is : (q : ℕ) (h : Header) → HasHeader q (all q) h → h.sequence ≡ c → h.room ≡ lead.room
  pub count_is : (q : ℕ) (h : Header) → HasHeader q (all q) h → h.sequence ≡ c → h.extra ≡ lead.extra
  pub bytes : (q : ℕ) (h : Header) → HasHeader q (all q) h → h.sequence ≡ c → extra_of h (all q) ≡ extra

-- A member that is made anew loses its entry, and no other one does, where another has a committed header of the last commit.
abbrev pub BlanksLeaveRest : Type 0
BlanksLeaveRest =
    (c first q r : ℕ) (lead k : Header) (before after : ℕ → List ℕ) → IsLast before c → Leads before c first lead
    → (kept : Kept) → Reopened before kept → AreOfOne c lead kept.extra before
    → ((h : Header) → HasHeader q (after q) h → ⊥) → ((x : ℕ) → x ≢ q → after x ≡ before x) → r ≢ q → IsCommitted before c r k
    → IsLast after c × Reopened after (without q kept)
