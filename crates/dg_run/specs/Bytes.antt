-- Line feeds.
use Rattle.std.specs.Prelude.{◌≢◌, ℕ, List, All}

abbrev pub HasNoLineFeed : List ℕ → Type 0
HasNoLineFeed bytes = All (λ byte. byte ≢ 10) bytes
