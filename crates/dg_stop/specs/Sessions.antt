-- What a double rack keeps is what an opening of the rack behind it gives.
use Rattle.std.specs.Prelude.{◌≡◌, ℕ, Bool, List, [], Option, Some}
use Rattle.dg_io.specs.Kept.{IsNothing, Kept}
use Rattle.dg_io.specs.declared.outside.Rack.{Ghosts}
use Rattle.dg_stop.specs.DoubleOpenings.{GivesKept, OpensDouble, OpensPlain}
use Rattle.dg_stop.specs.Doubles.{Double, double_keeps, known_in}
use Rattle.dg_stop.specs.Headers.{Header, HasHeader}
use Rattle.dg_stop.specs.Phases.{TellsAll, bytes_or}

-- a member that has a header is known to both, or to neither
abbrev pub IsFoundAgain : (ℕ → Bool) → (ℕ → Bool) → (ℕ → Option (List ℕ)) → Type 0
IsFoundAgain known found bytes = (q : ℕ) (h : Header) → HasHeader q (bytes_or (bytes q)) h → found q ≡ known q

-- The opening gives the checkpoint that the double rack kept, and keeps it in turn.
abbrev pub DoublesGiveKept : {R : Type 0} → Ghosts R → Type 0
DoublesGiveKept {R = R} rack =
    (it next : Double R) (extra : List ℕ) (kept : Kept) → double_keeps rack it (Some kept) → OpensDouble rack it.rack next extra → TellsAll (rack.bytes next.rack)
    → IsFoundAgain (known_in it.memory) (known_in next.memory) (rack.bytes it.rack) → GivesKept rack next extra kept × double_keeps rack next (Some kept)

-- Where it is plain, nothing was kept.
abbrev pub PlainsGiveNothing : {R : Type 0} → Ghosts R → Type 0
PlainsGiveNothing {R = R} rack =
    (it : Double R) (next : R) (extra : List ℕ) (kept : Kept) → double_keeps rack it (Some kept) → (opens : OpensPlain rack extra it.rack next) → TellsAll (rack.bytes next)
    → IsFoundAgain (known_in it.memory) opens.known (rack.bytes it.rack) → IsNothing kept × (extra ≡ [])
