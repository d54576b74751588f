-- No value of a command begins with `-`.
use Rattle.std.proofs.Common.{◌≡◌, ◌<◌, ◌≤◌, ◌==◌, ◌^◌, ℕ, List, [], ◌∷◌, true, false, refl, arith, length, get_or}
use Rattle.std.specs.Prelude.{drop}
use Rattle.std.specs.Fmt.{decimal}
use Rattle.std.specs.Int.{IsInRange}
use Rattle.std.proofs.lemmas.Bool.{false≢true}
use Rattle.std.proofs.lemmas.Bool.Decides.{nat_tests}
use Rattle.std.proofs.lemmas.Fmt.{decimal_is_IsNumeral}
use Rattle.std.proofs.lemmas.Str.Parse.{digit_at}
use Rattle.ufs_model.specs.Paths.{is_path}
use Rattle.dg_text.specs.Lines.{path_word, spelled_byte}
use Rattle.dg_words.specs.Commands.{HasValues, order_word, words_of}
use Rattle.dg_words.specs.Values.{any_has_hyphen, has_hyphen}
use Rattle.dg_words.specs.declared.commands.Command.{Command}
use Rattle.dg_words.specs.declared.commands.Command.TheVariants.{Replay, Resume, Cat, Ls, Status, Trace, Drill, Audit}
use Rattle.dg_words.specs.declared.commands.Order.{Order}
use Rattle.dg_words.specs.declared.commands.Order.TheVariants.{Up, Down, Late}

pub hyphen_none : (word : List ℕ) → length word ≡ 0 → has_hyphen word ≡ false
hyphen_none [] h = refl
hyphen_none (c ∷ rest) h = absurd (omega arith)

pub hyphen_some : (word : List ℕ) → 0 < length word → has_hyphen word ≡ (get_or word 0 0 == 45)
hyphen_some [] h = absurd (omega arith)
hyphen_some (c ∷ rest) h = refl

digits_plain : (digits : List ℕ) → 0 < length digits → 48 ≤ get_or digits 0 0 → has_hyphen digits ≡ false
digits_plain [] n high = absurd (omega arith)
digits_plain (c ∷ rest) n high = let far : 48 ≤ c = high in grind (arith, nat_tests)

decimal_plain : (n : ℕ) → n < 2 ^ 64 → has_hyphen (decimal n) ≡ false
decimal_plain n small =
    let numeral = (decimal_is_IsNumeral n small).0 in
    let in_range : IsInRange 48 57 _ = digit_at (decimal n) 0 numeral.1 numeral.0 in
    digits_plain (decimal n) numeral.0 in_range.0

path_plain : (path : List ℕ) → is_path path ≡ true → has_hyphen (path_word path) ≡ false
unfolding is_path path_word spelled_byte
path_plain [] is = absurd (false≢true is)
path_plain (b ∷ rest) is =
    let slash : b ≡ 47 = grind (arith, nat_tests) in
    rw slash refl

order_plain : (order : Order) → has_hyphen (order_word order) ≡ false
order_plain Up = refl
order_plain Down = refl
order_plain Late = refl

pub values_plain : (c : Command) → HasValues c → any_has_hyphen (drop 1 (words_of c)) ≡ false
values_plain Replay h = refl
values_plain Resume h = refl
values_plain (Cat path) h = rw (path_plain path h.0) refl
values_plain (Ls path) h = rw (path_plain path h.0) refl
values_plain Status h = refl
values_plain Audit h = refl
values_plain (Trace order b k m) h =
    rw (order_plain order, decimal_plain b (omega arith), decimal_plain k (omega arith), decimal_plain m (omega arith)) refl
values_plain (Drill seed files) h = rw (decimal_plain seed h.0, decimal_plain files (omega arith)) refl
