-- A commit that is begun again where a member falls before it is made.
use Rattle.std.specs.Prelude.{◌≡◌, ◌≤◌, ◌+◌, ◌⊎◌, ℕ, Bool, true, false, List, [], ◌∷◌, Option, Some, None}
use Rattle.dg_io.specs.Kept.{Kept}
use Rattle.dg_io.specs.declared.outside.Rack.{Ghosts}
use Rattle.dg_stop.specs.Anchors.{Holds, Stays}
use Rattle.dg_stop.specs.Commits.{AreGuarded, IsFresh}
use Rattle.dg_stop.specs.Headers.{Header, HasHeader}
use Rattle.dg_stop.specs.Layouts.{bit_in}
use Rattle.dg_stop.specs.Phases.{StandsAfter, TellsKnown, all_kept, bits_in, flag_in, known_at, size_in}
use Rattle.dg_stop.specs.Reopens.{Reopened}
use Rattle.dg_stop.specs.Stops.{AreOfOne}
use Rattle.dg_stop.specs.declared.places.Places.{Places}

-- how many members serve
abbrev pub count_in : List Bool → ℕ
count_in [] = 0
count_in (true ∷ rest) = count_in rest + 1
count_in (false ∷ rest) = count_in rest

-- The members that served when the last try began: each that serves now is one of these, and none that didn't serve at first.
pub record AreTried (tried served serves : List Bool) : Type 0 where
  pub only : (q : ℕ) → flag_in tried q ≡ true → flag_in served q ≡ true
  pub wider : (q : ℕ) → flag_in serves q ≡ true → flag_in tried q ≡ true

-- What the tries leave of the invariant of the members that stand then, with their answer: the sequence of the commit that was made, or none
-- where no member serves any more.
pub record GuardsTries (members : List Places) (room : ℕ) (extra : List ℕ) (places : ℕ → ℕ → Bool) (last top : ℕ) (answer : Option ℕ)
    (tried : List Bool) (on : ℕ → Bool) (before after : ℕ → List ℕ) : Type 0 where
  pub lost : answer ≡ None → AreGuarded on (size_in members) room places last top after
  pub made : (s : ℕ) → answer ≡ Some s → AreGuarded on (size_in members) room (λ r. bit_in (bits_in members r)) s s after × IsFresh after s
      × Holds on after (all_kept members room extra tried before)
  pub one : (s q : ℕ) (lead : Header) → answer ≡ Some s → HasHeader q (after q) lead → lead.sequence ≡ s → AreOfOne s lead extra after

-- what is kept then: the old checkpoint, or that of a commit of the members that were tried
pub record KeepsTries (members : List Places) (room : ℕ) (extra : List ℕ) (last : ℕ) (tried : List Bool)
    (stand on : ℕ → Bool) (before after : ℕ → List ℕ) (kept : Kept) : Type 0 where
  pub fresh : IsFresh after last
  pub either : Stays stand on before after kept ⊎ Holds on after (all_kept members room extra tried before)

-- Where the rack is steady and tells the known members' bytes at the end, for whatever was kept of these, of which are all that stand, and of
-- these all that serve: `top` was the greatest sequence seen, and `next` is it now.
abbrev pub TriesKeep : {S : Type 0} → Ghosts S → List Places → ℕ → List ℕ → ℕ → ℕ → ℕ → Option ℕ → List Bool → List Bool → List Bool → S → S → Type 0
TriesKeep rack members room extra last top next answer tried served serves old new =
    rack.steady old → (known stand : ℕ → Bool) → TellsKnown known (rack.bytes new) → ((q : ℕ) → stand q ≡ true → known q ≡ true)
    → ((q : ℕ) → flag_in served q ≡ true → stand q ≡ true)
    → (places : ℕ → ℕ → Bool) → AreGuarded stand (size_in members) room places last top (known_at known (rack.bytes old))
    → ((on : ℕ → Bool) → StandsAfter stand served serves on
    → GuardsTries members room extra places last next answer tried on (known_at known (rack.bytes old)) (known_at known (rack.bytes new)))
    × (last ≤ top → IsFresh (known_at known (rack.bytes old)) last → (kept : Kept) → Reopened (known_at known (rack.bytes old)) kept
    → (on : ℕ → Bool) → StandsAfter stand served serves on
    → KeepsTries members room extra last tried stand on (known_at known (rack.bytes old)) (known_at known (rack.bytes new)) kept)

-- the same while no try was made: what was kept is kept
abbrev pub TriesSpare : {S : Type 0} → Ghosts S → List Places → ℕ → ℕ → ℕ → ℕ → List Bool → List Bool → S → S → Type 0
TriesSpare rack members room last top next served serves old new =
    rack.steady old → (known stand : ℕ → Bool) → TellsKnown known (rack.bytes new) → ((q : ℕ) → stand q ≡ true → known q ≡ true)
    → ((q : ℕ) → flag_in served q ≡ true → stand q ≡ true)
    → (places : ℕ → ℕ → Bool) → AreGuarded stand (size_in members) room places last top (known_at known (rack.bytes old))
    → ((on : ℕ → Bool) → StandsAfter stand served serves on → AreGuarded on (size_in members) room places last next (known_at known (rack.bytes new)))
    × (last ≤ top → IsFresh (known_at known (rack.bytes old)) last → (kept : Kept) → Reopened (known_at known (rack.bytes old)) kept
    → (on : ℕ → Bool) → StandsAfter stand served serves on
    → Stays stand on (known_at known (rack.bytes old)) (known_at known (rack.bytes new)) kept × IsFresh (known_at known (rack.bytes new)) last)
