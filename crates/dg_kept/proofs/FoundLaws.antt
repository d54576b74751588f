-- What is taken of members on which a save is found: those with the greatest number have what was saved.
use Rattle.std.proofs.Common.{◌≡◌, ◌∙◌, ℕ, ◌/◌, ◌%◌, ◌<◌, ◌≤◌, ◌⊎◌, inl, inr, List, refl, sym, ap, subst, arith}
use Rattle.std.specs.Prelude.{Option, Some, None}
use Rattle.std.proofs.lemmas.Bool.{cases_lt, false≢true}
use Rattle.dg_model.specs.Openings.{Found, HasNoState, HasOwnLabel, IsNewest, IsSource, IsUnclean, Says}
use Rattle.dg_model.specs.Saves.{Label, SavedState}
use Rattle.dg_model.specs.Seals.{label_on}
use Rattle.dg_save.specs.Laws.{BodiesAreUnique, LabelsAreUnique}
use Rattle.dg_kept.proofs.ToldLaws.{some_and, some_if}
use Rattle.dg_kept.specs.Saved.{HasSaved, IsFoundOn, IsOlder, IsSave, Save}
use Rattle.dg_kept.specs.Taken.{AreTaken, IsBodyTaken, IsTaken}

none_some : (f : Found) → None ≡ Some f → ⊥
none_some f e = cc

no_state : (s : SavedState) → Some s ≡ None → ⊥
no_state s e = cc

-- ---- one member

module _ (labels : LabelsAreUnique) (bodies : BodiesAreUnique) (save : Save) (is : IsSave save) where
  own_label : (q : ℕ) (all : List ℕ) → HasSaved save q all → HasOwnLabel q all (label_on save.label q)
  own_label q all h = record {
    begins = h.label;
    boundary = ap (λ (n : ℕ). n / 2) (is.numbers q);
    side = ap (λ (n : ℕ). n % 2) (is.numbers q);
    size = h.size;
  }

  one_label : (q : ℕ) (all : List ℕ) (label : Label) → HasSaved save q all → HasOwnLabel q all label → label ≡ label_on save.label q
  one_label q all label h own = labels label (label_on save.label q) own.begins.is h.label.is (sym own.begins.bytes ∙ h.label.bytes)

  -- its body says the saved state, and no other one
  says_saved : (q : ℕ) (all : List ℕ) → HasSaved save q all → Says (label_on save.label q) all (Some save.state)
  says_saved q all h = record { form = is.form; numbers = sym is.shape; says = h.body ∙ is.body }

  says_it : (q : ℕ) (all : List ℕ) (saved : SavedState) → HasSaved save q all → Says (label_on save.label q) all (Some saved) → saved ≡ save.state
  says_it q all saved h says =
      bodies save.label.format saved save.state says.form is.form (says.numbers ∙ is.shape) (sym says.says ∙ h.body ∙ is.body)

  -- ---- all members

  module _ (images : ℕ → Option (List ℕ)) (found : IsFoundOn save images) (taken : ℕ → Option Found) (read : AreTaken images taken) where
    -- what was found of a member of which something was taken
    pub record IsMet (q : ℕ) (f : Found) : Type 0 where
      pub within : q < 32
      pub all : List ℕ
      pub told : images q ≡ Some all
      pub kind : HasSaved save q all ⊎ IsOlder save q all
      pub own : HasOwnLabel q all f.label
      pub body : IsBodyTaken taken q f.label all f.state

    pub met : (q : ℕ) (f : Found) → taken q ≡ Some f → IsMet q f
    met q f there = elim (cases_lt q 32) [
      | inl within ↦
          let at = some_and (λ (all : List ℕ). HasSaved save q all ⊎ IsOlder save q all) (images q) (found.each q within) in
          let is_taken = some_if (λ (all : List ℕ). IsTaken taken q all (taken q)) (images q) at.0 at.1 (read.each q within) in
          let parts : IsTaken taken q at.0 (Some f) = subst (λ (o : Option Found). IsTaken taken q at.0 o) there is_taken in
          record { within = within; all = at.0; told = at.1; kind = at.2; own = parts.0; body = parts.1 }
      | inr past ↦ absurd (none_some f (sym (read.others q past) ∙ there))
    ]

    -- a member that has what was saved was taken, with its label
    pub record IsTakenUp (q : ℕ) : Type 0 where
      pub f : Found
      pub there : taken q ≡ Some f
      pub label : f.label ≡ label_on save.label q

    pub taken_up : (q : ℕ) (all : List ℕ) → q < 32 → images q ≡ Some all → HasSaved save q all → IsTakenUp q
    taken_up q all within told h = on (taken q) refl
      where
        on : (o : Option Found) → taken q ≡ o → IsTakenUp q
        on None e =
            let is_taken = some_if (λ (all : List ℕ). IsTaken taken q all (taken q)) (images q) all told (read.each q within) in
            let none : IsTaken taken q all None = subst (λ (o : Option Found). IsTaken taken q all o) e is_taken in
            absurd (none (label_on save.label q) (own_label q all h))
        on (Some f) e =
            let is_taken = some_if (λ (all : List ℕ). IsTaken taken q all (taken q)) (images q) all told (read.each q within) in
            let parts : IsTaken taken q all (Some f) = subst (λ (o : Option Found). IsTaken taken q all o) e is_taken in
            record { f = f; there = e; label = one_label q all f.label h parts.0 }

    -- no label has a greater number
    at_most : (q : ℕ) (f : Found) → taken q ≡ Some f → f.label.sequence ≤ save.label.sequence
    at_most q f there =
        let m = met q f there in
        elim m.kind [
          | inl h ↦ let same = ap (λ (l : Label). l.sequence) (one_label q m.all f.label h m.own) in omega (arith, same)
          | inr older ↦ let less = older f.label m.own in omega (arith, less)
        ]

    -- one member has it
    first_one : (q : ℕ) × IsTakenUp q
    first_one =
        let at = some_and (HasSaved save found.one.0) (images found.one.0) found.one.2 in
        (found.one.0, taken_up found.one.0 at.0 found.one.1 at.1 at.2)

    first_number : first_one.1.f.label.sequence ≡ save.label.sequence
    first_number = ap (λ (l : Label). l.sequence) first_one.1.label

    first_newest : IsNewest taken first_one.0 first_one.1.f
    first_newest = record {
      there = first_one.1.there;
      greatest = λ p other there. (let most = at_most p other there in let number = first_number in omega (arith, most, number));
    }

    -- ---- the newest

    -- one of the newest has what was saved
    pub record IsOfSave (q : ℕ) (f : Found) : Type 0 where
      pub m : IsMet q f
      pub has : HasSaved save q m.all
      pub label : f.label ≡ label_on save.label q

    pub newest_has : (q : ℕ) (f : Found) → save.label.sequence ≤ f.label.sequence → taken q ≡ Some f → IsOfSave q f
    newest_has q f great there =
        let m = met q f there in
        elim m.kind [
          | inl h ↦ record { m = m; has = h; label = one_label q m.all f.label h m.own }
          | inr older ↦ absurd (let less = older f.label m.own in omega (arith, less, great))
        ]

    of_newest : (q : ℕ) (f : Found) → IsNewest taken q f → IsOfSave q f
    of_newest q f newest =
        let great : save.label.sequence ≤ f.label.sequence =
        (let most = newest.greatest first_one.0 first_one.1.f first_one.1.there in let number = first_number in omega (arith, most, number)) in
        newest_has q f great newest.there

    pub not_unclean : IsUnclean taken → ⊥
    not_unclean unclean =
        let of = of_newest unclean.q unclean.found unclean.newest in
        false≢true (sym unclean.opened ∙ ap (λ (l : Label). l.sealed) of.label ∙ is.sealed)

    pub has_state : HasNoState taken → ⊥
    has_state none =
        let f = first_one.1.f in
        let of = of_newest first_one.0 f first_newest in
        let empty = none.none first_one.0 f first_newest in
        let body = subst (λ (o : Option SavedState). IsBodyTaken taken first_one.0 f.label of.m.all o) empty of.m.body in
        elim body [
          | inl silent ↦ silent save.state (subst (λ (l : Label). Says l of.m.all (Some save.state)) (sym of.label) (says_saved first_one.0 of.m.all of.has))
          | inr spared ↦ elim spared [
            | inl outdone ↦
                let most = at_most outdone.p outdone.found outdone.there in
                let number = first_number in
                let greater = outdone.greater in
                omega (arith, most, number, greater)
            | inr other ↦ elim other [
              | inl unclean ↦ not_unclean unclean
              | inr first ↦ no_state first.saved (sym first.says ∙ none.none first.p first.found first.newest)
            ]
          ]
        ]

    pub source_is : (q : ℕ) (label : Label) (saved : SavedState) → IsSource taken q label saved → (label ≡ label_on save.label q) × (saved ≡ save.state)
    source_is q label saved source =
        let of = of_newest q (record { label = label; state = Some saved }) source.newest in
        (of.label, says_it q of.m.all saved of.has (subst (λ (l : Label). Says l of.m.all (Some saved)) of.label of.m.body))
