use Rattle.std.proofs.Common.{◌≡◌, ◌++◌, List, ℕ, length, take, drop, refl, sym, ◌∙◌, ap, take-append-drop, true, false}
use Rattle.std.proofs.lemmas.List.{take_rest, take_at}
use Rattle.std.proofs.lemmas.Slice.Eq.{slice_eq-Decides}
use Rattle.std.proofs.lemmas.Bool.Decides.{Decides-eqb}
use Rattle.dg_text.proofs.words.after_word.Goals as goal

pub returns-then-eq-clause-found : goal.returns-then-eq-clause-found
returns-then-eq-clause-found c =
    let n = length c.args.word.now in
    let front : take n c.args.text.now ≡ c.args.word.now = (slice_eq-Decides Decides-eqb _ _ true c.if-eq.ensures).0 refl in
    sym (take-append-drop n c.args.text.now) ∙ ap (λ (l : List ℕ). l ++ drop n c.args.text.now) front
    ∙ ap (λ (l : List ℕ). c.args.word.now ++ l) (sym (take_rest c.args.text.now n))

pub returns-else-eq-clause-exact : goal.returns-else-eq-clause-exact
returns-else-eq-clause-exact c rest is =
    let n = length c.args.word.now in
    let not_front : take n c.args.text.now ≡ c.args.word.now → ⊥ = λ e. cc ((slice_eq-Decides Decides-eqb _ _ false c.if-eq.ensures).1 e) in
    not_front (ap (λ (l : List ℕ). take n l) is ∙ take_at c.args.word.now rest n refl)
