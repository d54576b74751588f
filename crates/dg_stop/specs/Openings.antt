-- What an opening takes of the members, and what holds of it then.
use Rattle.std.specs.Prelude.{◌≡◌, ◌≤◌, ◌<◌, ◌/◌, ℕ, Bool, true, List, Some}
use Rattle.dg_io.specs.Kept.{Kept}
use Rattle.dg_stop.specs.Anchors.{IsAnchored}
use Rattle.dg_stop.specs.Commits.{AreGuarded, IsFresh, as_committed}
use Rattle.dg_stop.specs.Headers.{Header, HasHeader, header_table}
use Rattle.dg_stop.specs.Layouts.{names_second, seen, table_place, table_size}
use Rattle.dg_stop.specs.Reopens.{IsAttached, IsCommitted, IsLast, Leads, Reopened}
use Rattle.dg_stop.specs.Stops.{AreOfOne, Upgrades}

-- A member that is attached by its header of commit c: its committed header stands on it then, and its bytes and the places of its pages are
-- those that the header and its table say.
pub record IsTaken (c : ℕ) (lead : Header) (before after : ℕ → List ℕ) (size : ℕ) (places : ℕ → Bool) (q : ℕ) : Type 0 where
  pub header : Header
  pub attached : IsAttached before c lead q header
  pub committed : HasHeader q (after q) (as_committed header)
  pub size_is : size ≡ header.size
  pub named : (o : ℕ) → o < header.size → names_second (before q) (table_place (header_table header) c) (o / 512) ≡ places (o / 512)

-- What is known of the headers of the members after an opening.
pub record GuardsOpened (stands : ℕ → Bool) (sizes : ℕ → ℕ) (places : ℕ → ℕ → Bool) (c top : ℕ) (lead : Header) (after : ℕ → List ℕ) : Type 0 where
  pub guarded : AreGuarded stands sizes lead.room places c top after
  pub fresh : IsFresh after c

-- What holds then of what they were reopened as: they are reopened as that, and those that stand have the bytes of it.
pub record HoldsOpened (stands : ℕ → Bool) (sizes : ℕ → ℕ) (places : ℕ → ℕ → Bool) (c : ℕ) (lead : Header) (before after : ℕ → List ℕ) (kept : Kept) : Type 0 where
  pub reopened : Reopened after kept
  pub anchored : AreOfOne c lead kept.extra before → IsAnchored stands after kept
  pub bytes : (q : ℕ) → stands q ≡ true → kept.entries q ≡ Some (seen (table_size (sizes q) lead.room) (places q) (sizes q) (after q))

-- Where each member that stands was taken, and no more was written than committed headers over prepared ones, what they were reopened as holds.
abbrev pub OpeningsHold : Type 0
OpeningsHold =
    (stands : ℕ → Bool) (sizes : ℕ → ℕ) (places : ℕ → ℕ → Bool) (c first top : ℕ) (lead : Header) (before after : ℕ → List ℕ)
    → IsLast before c → Leads before c first lead → Upgrades c lead before after
    → ((q : ℕ) (h : Header) → HasHeader q (before q) h → h.sequence ≤ top)
    → ((q : ℕ) → stands q ≡ true → IsTaken c lead before after (sizes q) (places q) q)
    → GuardsOpened stands sizes places c top lead after
    × ((kept : Kept) → Reopened before kept → HoldsOpened stands sizes places c lead before after kept)

-- It spares what any more members are reopened as: c needn't be the last commit of all of them, and where it is, the header that leads them says
-- the same.
abbrev pub OpeningsSpare : Type 0
OpeningsSpare =
    (c m d first : ℕ) (k lead last : Header) (before after : ℕ → List ℕ) → IsCommitted before c m k → Upgrades c lead before after
    → IsLast before d → Leads before d first last → (d ≡ c → (last.room ≡ lead.room) × (last.extra ≡ lead.extra))
    → (kept : Kept) → Reopened before kept → Reopened after kept
