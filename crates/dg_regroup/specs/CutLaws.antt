-- Fetches of a view of which some blocks were cut, one after another.
use Rattle.std.proofs.Common.{◌≡◌, ◌∙◌, ℕ, Bool, not, List, ◌++◌, sym, subst}
use Rattle.std.proofs.lemmas.List.Elements.{filter-append}
use Rattle.dg_model.specs.Marks.{is_marked}
use Rattle.dg_regroup.specs.CutViews.{uncut}

-- fetches of some blocks, and then of others
pub fetched_two : {S : Type 0} (fetched : S → List ℕ → S → Type 0)
    → ((a b c : S) (x y : List ℕ) → fetched a x b → fetched b y c → fetched a (x ++ y) c)
    → (a b c : S) (one two three : List Bool) (x y : List ℕ)
    → fetched a (uncut one x) b × (two ≡ one) → fetched b (uncut two y) c × (three ≡ two) → fetched a (uncut one (x ++ y)) c × (three ≡ one)
fetched_two fetched both a b c one two three x y first second =
    let behind = subst (λ cut. fetched b (uncut cut y) c) (first.1) (second.0) in (
      subst (λ blocks. fetched a blocks c) (sym (filter-append (λ b. not (is_marked one b)) x y)) (both a b c (uncut one x) (uncut one y) (first.0) behind),
      second.1 ∙ first.1,
    )
