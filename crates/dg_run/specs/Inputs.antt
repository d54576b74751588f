-- The input as a reader sees it: what its buffer still has, and then what the source has left.
use Rattle.std.specs.Prelude.{◌≡◌, ◌≤◌, ◌+◌, ◌++◌, ◌∷◌, ◌<◌, [], ℕ, List, length, take, slice_range, Option}
use Rattle.std.specs.Option.{option_map}
use Rattle.dg_run.specs.Bytes.{HasNoLineFeed}
use Rattle.dg_run.specs.declared.input.Input.{Input}
use Rattle.dg_run.specs.declared.input.LineStep.{LineStep}
use Rattle.dg_run.specs.declared.input.LineStep.TheVariants.{Line, End, Full, Cut}

-- the bytes of the buffer that are still to be used
abbrev pub unread : Input → List ℕ
unread input = slice_range input.bytes.items input.at input.end

-- all bytes that are still to come, where the source tells its own
abbrev pub ahead : Input → Option (List ℕ) → Option (List ℕ)
ahead input left = option_map (λ more. unread input ++ more) left

abbrev pub line_in : Input → ℕ → ℕ → List ℕ
line_in input from to = slice_range input.bytes.items from to

-- a line stands in the buffer, is shorter than the limit, and has no line feed
abbrev pub IsStep : ℕ → Input → LineStep → Type 0
IsStep limit input (Line from to) = (from ≤ to) × (to ≤ 65536) × (to + 1 ≤ from + limit) × HasNoLineFeed (line_in input from to)
IsStep limit input End = Unit {0}
IsStep limit input Full = Unit {0}
IsStep limit input (Cut n) = n < limit

-- how many reads gave no byte: one at the end of the input
abbrev pub empty_reads_of_step : LineStep → ℕ
empty_reads_of_step (Line from to) = 0
empty_reads_of_step End = 1
empty_reads_of_step Full = 0
empty_reads_of_step (Cut n) = 1

-- the text ends after so many bytes, at least one, and has no line feed
pub record IsCutOff (n : ℕ) (text : List ℕ) : Type 0 where
  pub some : text ≡ [] → ⊥
  pub size : n ≡ length text
  pub none : HasNoLineFeed text

-- there are so many first bytes without a line feed
pub record IsFull (limit : ℕ) (text : List ℕ) : Type 0 where
  pub there : limit ≤ length text
  pub none : HasNoLineFeed (take limit text)

-- what came next: the line and its line feed; or nothing; or bytes without a line feed
abbrev pub TookStep : ℕ → Input → LineStep → List ℕ → List ℕ → Type 0
TookStep limit input (Line from to) before after = before ≡ line_in input from to ++ 10 ∷ after
TookStep limit input End before after = (before ≡ []) × (after ≡ [])
TookStep limit input Full before after = IsFull limit before
TookStep limit input (Cut n) before after = IsCutOff n before

-- A whole line was taken: it has no more bytes than the longest, its line feed among them, and than the room.
pub record BeginsWithLine (most room : ℕ) (before after : List ℕ) : Type 0 where
  pub line : List ℕ
  pub split : before ≡ line ++ 10 ∷ after
  pub none : HasNoLineFeed line
  pub short : length line + 1 ≤ most
  pub within : length line + 1 ≤ room

-- The text begins with such a line: so it isn't refused for the line's length, nor for the budget, nor for the input's end.
abbrev pub AwaitsLine : ℕ → ℕ → List ℕ → List ℕ → Type 0
AwaitsLine most room before after = (behind : List ℕ) × BeginsWithLine most room before behind
