-- Why the rest of an input is refused where it stands: by the first kind that fits, of the line that it begins with and of what stands
-- around that. The kinds and their order are this project's own.
use Rattle.std.specs.Prelude.{◌≡◌, ◌≤◌, ◌<◌, ◌++◌, ◌∷◌, [], ℕ, List, length, take, Option, None}
use Rattle.dg_model.specs.declared.shapes.Shape.{Shape}
use Rattle.dg_text.specs.Lines.{longest}
use Rattle.dg_text.specs.Refusals.{Fits, IsFirst}
use Rattle.dg_text.specs.declared.lines.BadLine.{BadLine}
use Rattle.dg_text.specs.declared.lines.BadLine.TheVariants.{Long, Size, Cut, Word, Order, Form, Number, Limits, Hex, Path}
use Rattle.dg_run.specs.Bytes.{HasNoLineFeed}

-- the text begins with this line, and a line feed behind it
pub record HasLine (line text : List ℕ) : Type 0 where
  pub after : List ℕ
  pub split : text ≡ line ++ 10 ∷ after
  pub none : HasNoLineFeed line

-- so many first bytes of the text have no line feed, and stand within the room
pub record IsLong (most room : ℕ) (text : List ℕ) : Type 0 where
  pub within : most ≤ room
  pub there : most ≤ length text
  pub none : HasNoLineFeed (take most text)

-- the first line of the text, its line feed among it, has a byte behind the room
pub record GoesPast (room : ℕ) (text : List ℕ) : Type 0 where
  pub there : room < length text
  pub none : HasNoLineFeed (take room text)

-- the text ends before a line feed: in the middle of a line, or where the first line should stand
pub record EndsEarly (shape : Option Shape) (text : List ℕ) : Type 0 where
  pub none : HasNoLineFeed text
  pub some : text ≡ [] → shape ≡ None

-- The texts that each kind fits behind an array of this shape, of which so many bytes may still come up to the budget: `long` and `size` by
-- the first bytes, `cut` by the end, and the others by the first line.
abbrev pub FitsAt : Option Shape → ℕ → List ℕ → BadLine → Type 0
FitsAt shape room text Long = IsLong (longest shape) room text
FitsAt shape room text Size = GoesPast room text
FitsAt shape room text Cut = EndsEarly shape text
FitsAt shape room text kind = (line : List ℕ) × HasLine line text × Fits shape line kind

-- the kinds that are judged by the words of a line, in order
abbrev pub kinds_of_words : List BadLine
kinds_of_words = Word ∷ Order ∷ Form ∷ Number ∷ Limits ∷ Hex ∷ Path ∷ []

-- all kinds, in order
abbrev pub kinds : List BadLine
kinds = Long ∷ Size ∷ Cut ∷ kinds_of_words

-- the text is refused by this kind, the first that fits
abbrev pub IsRefusedBy : Option Shape → ℕ → List ℕ → BadLine → Type 0
IsRefusedBy shape room text kind = IsFirst (FitsAt shape room text) kinds kind
