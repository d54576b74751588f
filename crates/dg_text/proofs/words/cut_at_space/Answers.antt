use Rattle.std.proofs.Common.{◌+◌, ◌∷◌, ◌++◌, ℕ, List, take, drop, sym, ◌∙◌, ap, subst}
use Rattle.std.specs.Prelude.{Contains}
use Rattle.std.proofs.lemmas.List.{take_rest}
use Rattle.dg_text.proofs.Cuts.{Lacks-from_not, first_cut, has_at_cut, cut_there}
use Rattle.dg_text.proofs.words.cut_at_space.Goals as goal

pub returns-in_err-i-clause-exact : goal.returns-in_err-i-clause-exact
returns-in_err-i-clause-exact c word rest lacks is =
    let P : List ℕ → Type 0 = λ l. Contains l 32 in
    absurd (c.in_err-i.ensures.none (subst P (sym is) (has_at_cut 32 word rest)))

pub returns-clause-exact : goal.returns-clause-exact
returns-clause-exact c word rest lacks is =
    let i = c.in_ok-i.i in
    let text = c.args.text.now in
    let f = c.in_ok-i.ensures.found in
    let cut = first_cut 32 (take i text) word (drop (i + 1) text) rest (Lacks-from_not 32 (take i text) f.2) (Lacks-from_not 32 word lacks) (cut_there 32 text i f.0 f.1 ∙ is) in
    (cut.0, take_rest text (i + 1) ∙ cut.1)

pub returns-clause-found : goal.returns-clause-found
returns-clause-found c =
    let i = c.in_ok-i.i in
    let text = c.args.text.now in
    let f = c.in_ok-i.ensures.found in
    sym (cut_there 32 text i f.0 f.1) ∙ ap (λ (l : List ℕ). take i text ++ 32 ∷ l) (sym (take_rest text (i + 1)))
