-- What a look for a line feed finds.
use Rattle.std.specs.Prelude.{◌≡◌, ◌+◌, ◌<◌, ◌≤◌, ◌++◌, ◌∷◌, ℕ, List, length, take, drop}
use Rattle.dg_run.specs.Bytes.{HasNoLineFeed}
use Rattle.dg_run.specs.declared.pieces.Scan.{Scan}
use Rattle.dg_run.specs.declared.pieces.Scan.TheVariants.{Found, Unended, More}

abbrev pub Scanned : ℕ → List ℕ → Scan → Type 0
Scanned limit bytes (Found n) = (n < limit) × (n < length bytes) × (bytes ≡ take n bytes ++ 10 ∷ drop (n + 1) bytes) × HasNoLineFeed (take n bytes)
Scanned limit bytes Unended = (limit ≤ length bytes) × HasNoLineFeed (take limit bytes)
Scanned limit bytes More = (length bytes < limit) × HasNoLineFeed bytes
