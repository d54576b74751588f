-- Words are one command at most.
use Rattle.std.proofs.Common.{◌≡◌, ◌<◌, ◌^◌, ℕ, zero, suc, List, [], ◌∷◌, true, refl, sym, ◌∙◌, ap, arith}
use Rattle.std.specs.Fmt.{decimal}
use Rattle.std.specs.Str.{bytes_eq}
use Rattle.std.specs.Str.Parse.{digits_value}
use Rattle.std.proofs.lemmas.Bool.{false≢true}
use Rattle.std.proofs.lemmas.Fmt.{decimal_is_IsNumeral}
use Rattle.std.proofs.lemmas.Slice.Eq.{bytes_eq-Decides}
use Rattle.dg_words.specs.Commands.{ArePathsUnique, HasValues, IsCommand, order_word, words_of}
use Rattle.dg_words.specs.declared.commands.Command.{Command}
use Rattle.dg_words.specs.declared.commands.Command.TheVariants.{Replay, Resume, Cat, Ls, Status, Trace, Drill, Audit}
use Rattle.dg_words.specs.declared.commands.Order.{Order}
use Rattle.dg_words.specs.declared.commands.Order.TheVariants.{Up, Down, Late}

same_number : (n m : ℕ) → n < 2 ^ 64 → m < 2 ^ 64 → decimal n ≡ decimal m → n ≡ m
same_number n m a b e = sym (decimal_is_IsNumeral n a).1 ∙ ap (digits_value 10) e ∙ (decimal_is_IsNumeral m b).1

same_order : (a b : Order) → order_word a ≡ order_word b → bytes_eq (order_word a) (order_word b) ≡ true → a ≡ b
same_order Up Up e h = refl
same_order Down Down e h = refl
same_order Late Late e h = refl
same_order a b e h = absurd (false≢true h)

eq_self : (word other : List ℕ) → word ≡ other → bytes_eq word other ≡ true
eq_self word other e = (bytes_eq-Decides word other).1 e

-- the name in front of some words
abbrev name_in : List (List ℕ) → List ℕ
name_in [] = []
name_in (name ∷ values) = name

-- the value at a place behind it
abbrev value_in : ℕ → List (List ℕ) → List ℕ
value_in k [] = []
value_in zero (value ∷ values) = value
value_in (suc k) (value ∷ values) = value_in k values

same_command : ArePathsUnique → (c d : Command) → HasValues c → HasValues d → words_of c ≡ words_of d → bytes_eq (name_in (words_of c)) (name_in (words_of d)) ≡ true → c ≡ d
same_command one Replay Replay vc vd e h = refl
same_command one Resume Resume vc vd e h = refl
same_command one (Cat p) (Cat q) vc vd e h = ap Cat (one p q vc.0 vc.1 vd.0 vd.1 (ap (value_in 1) e))
same_command one (Ls p) (Ls q) vc vd e h = ap Ls (one p q vc.0 vc.1 vd.0 vd.1 (ap (value_in 1) e))
same_command one Status Status vc vd e h = refl
same_command one Audit Audit vc vd e h = refl
same_command one (Trace o b k m) (Trace p c l n) vc vd e h =
    let orders : o ≡ p = let same : order_word o ≡ order_word p = ap (value_in 1) e in same_order o p same (eq_self _ _ same) in
    let bs : b ≡ c = same_number b c (omega arith) (omega arith) (ap (value_in 2) e) in
    let ks : k ≡ l = same_number k l (omega arith) (omega arith) (ap (value_in 3) e) in
    let ms : m ≡ n = same_number m n (omega arith) (omega arith) (ap (value_in 4) e) in
    cc
same_command one (Drill s f) (Drill t g) vc vd e h =
    let seeds : s ≡ t = same_number s t vc.0 vd.0 (ap (value_in 1) e) in
    let files : f ≡ g = same_number f g (omega arith) (omega arith) (ap (value_in 2) e) in
    cc
same_command one c d vc vd e h = absurd (false≢true h)

pub one_command : ArePathsUnique → (words : List (List ℕ)) (c d : Command) → IsCommand words c → IsCommand words d → c ≡ d
one_command one words c d a b =
    let e : words_of c ≡ words_of d = sym a.written ∙ b.written in
    same_command one c d a.values b.values e (eq_self _ _ (ap name_in e))
