-- The commands of the program: the words of each, and the values that it takes. The words are this project's own.
use Rattle.std.specs.Prelude.{◌≡◌, ◌⊎◌, ◌≤◌, ◌<◌, ◌^◌, ℕ, true, false, length, List, [], ◌∷◌, codes, Result, Ok, Err}
use Rattle.std.specs.Fmt.{decimal}
use Rattle.ufs_model.specs.Paths.{is_path}
use Rattle.dg_text.specs.Lines.{AreBytes, path_word}
use Rattle.dg_words.specs.Values.{any_has_hyphen}
use Rattle.dg_words.specs.declared.commands.Command.{Command}
use Rattle.dg_words.specs.declared.commands.Command.TheVariants.{Replay, Resume, Cat, Ls, Status, Trace, Drill, Audit}
use Rattle.dg_words.specs.declared.commands.Order.{Order}
use Rattle.dg_words.specs.declared.commands.Order.TheVariants.{Up, Down, Late}
use Rattle.dg_words.specs.declared.commands.WordsRefused.{WordsRefused}
use Rattle.dg_words.specs.declared.commands.WordsRefused.TheVariants.{NoMemory}

-- the word of an order
abbrev pub order_word : Order → List ℕ
order_word Up = codes "up"
order_word Down = codes "down"
order_word Late = codes "late"

-- the one way to write a command
abbrev pub words_of : Command → List (List ℕ)
words_of Replay = codes "replay" ∷ []
words_of Resume = codes "resume" ∷ []
words_of (Cat path) = codes "cat" ∷ path_word path ∷ []
words_of (Ls path) = codes "ls" ∷ path_word path ∷ []
words_of Status = codes "status" ∷ []
words_of (Trace order b k m) = codes "trace" ∷ order_word order ∷ decimal b ∷ decimal k ∷ decimal m ∷ []
words_of (Drill seed files) = codes "drill" ∷ decimal seed ∷ decimal files ∷ []
words_of Audit = codes "audit" ∷ []

-- the values that a command may have
abbrev pub HasValues : Command → Type 0
HasValues Replay = Unit {0}
HasValues Resume = Unit {0}
HasValues (Cat path) = (is_path path ≡ true) × AreBytes path
HasValues (Ls path) = (is_path path ≡ true) × AreBytes path
HasValues Status = Unit {0}
HasValues (Trace order b k m) = (b < 2 ^ 32) × (k < 2 ^ 32) × (m < 2 ^ 32)
HasValues (Drill seed files) = (seed < 2 ^ 64) × (1 ≤ files) × (files ≤ 2000)
HasValues Audit = Unit {0}

-- these words are this command
pub record IsCommand (words : List (List ℕ)) (command : Command) : Type 0 where
  pub written : words ≡ words_of command
  pub values : HasValues command

-- the words are the one word of this path
pub record IsPathWord (words : List (List ℕ)) (path : List ℕ) : Type 0 where
  pub spelled : words ≡ path_word path ∷ []
  pub well : is_path path ≡ true
  pub bytes : AreBytes path

-- a word is the word of one path at most
abbrev pub ArePathsUnique : Type 0
ArePathsUnique = (p q : List ℕ) → is_path p ≡ true → AreBytes p → is_path q ≡ true → AreBytes q → path_word p ≡ path_word q → p ≡ q

-- the name of a command that takes a path
abbrev pub IsNameOfPath : List ℕ → Type 0
IsNameOfPath name = (name ≡ codes "cat") ⊎ (name ≡ codes "ls")

-- the answer is this value, but for want of memory
abbrev pub Gives : {A : Type 0} → Result A WordsRefused → A → Type 0
Gives result x = (result ≡ Ok x) ⊎ (result ≡ Err NoMemory)

-- ---- memory

-- such a command takes so many values
pub data TakesValues (name : List ℕ) (count : ℕ) : Type 0 where
  of_path : IsNameOfPath name → count ≡ 1 → TakesValues name count
  of_drill : name ≡ codes "drill" → count ≡ 2 → TakesValues name count
  of_trace : name ≡ codes "trace" → count ≡ 4 → TakesValues name count

-- Words for which memory is taken: a command's name with as many values as it has, none of which begins with `-`.
pub record TakesMemory (words : List (List ℕ)) : Type 0 where
  pub name : List ℕ
  pub values : List (List ℕ)
  pub written : words ≡ name ∷ values
  pub plain : any_has_hyphen values ≡ false
  pub known : TakesValues name (length values)
