-- The words behind the name of a command, and how `clap` is asked for them.
use Rattle.std.specs.Prelude.{◌≡◌, ◌==◌, Bool, true, false, List, [], ◌∷◌, Option, Some, IsSome, map}
use Rattle.std.specs.List.{list_any}
use Rattle.clap.specs.Simple.{new_shape}
use Rattle.clap.specs.Words.{App, Rule, Text, new_app, new_rule, with_rule}

-- the word begins with `-`
abbrev pub has_hyphen : Text → Bool
has_hyphen [] = false
has_hyphen (c ∷ rest) = c == 45

-- some word does
abbrev pub any_has_hyphen : List Text → Bool
any_has_hyphen words = list_any has_hyphen words

-- a command without values; the words that it is handed don't begin with its name
abbrev pub bare_app : Text → App
bare_app name = record (new_app name) { top = record (new_shape name) { no_binary_name = true } }

-- a value that has to be there
abbrev pub value_rule : Text → Rule
value_rule name = record (new_rule name) { required = true }

-- the command with one more value
abbrev pub with_value : App → Text → App
with_value app name = with_rule app (value_rule name)

-- each was found
abbrev pub EachFound : List (Option Text) → Type 0
EachFound [] = Unit {0}
EachFound (value ∷ values) = IsSome value × EachFound values

-- what was found are these words, one after another
pub record AreFound (words : List Text) (values : List (Option Text)) : Type 0 where
  pub each : EachFound values
  pub same : map Some words ≡ values
