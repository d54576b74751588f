-- What is gone of a settled array with few lost boundaries, and what that leaves of its files.
use Rattle.std.proofs.Common.{◌≡◌, ◌∙◌, ◌⊎◌, ℕ, ◌+◌, ◌%◌, ◌<◌, inl, inr, Bool, true, false, List, ◌++◌, Option, Some, None, Result, Ok, Err, refl, sym, ap, arith}
use Rattle.std.specs.Prelude.{◌||◌, IsNone, IsSome, IsSomeAnd, is_some, option_to_list, ◌==◌}
use Rattle.std.specs.List.{list_any}
use Rattle.std.proofs.lemmas.Bool.{cases_Bool, false≢true}
use Rattle.std.proofs.lemmas.Bool.Decides.{nat_tests}
use Rattle.std.proofs.lemmas.List.FromFn.{get_or-map-range_with_len, length-map-range_with_len}
use Rattle.ufs_model.specs.Paths.{cat_of}
use Rattle.ufs_model.specs.declared.reads.PathRefusal.{PathRefusal}
use Rattle.ufs_frames.specs.Frames.{FilesAreTame, HasWholeIndirects}
use Rattle.dg_model.specs.Changes.{IsSoundIn}
use Rattle.dg_model.specs.Homes.{home_of}
use Rattle.dg_model.specs.Members.{is_lost}
use Rattle.dg_model.specs.Placed.{IsPlaced}
use Rattle.dg_model.specs.Plans.{places_of}
use Rattle.dg_model.specs.Shapes.{IsShape}
use Rattle.dg_model.specs.Sites.{has_site, is_gone}
use Rattle.dg_model.specs.States.{State, gone_in, is_cut}
use Rattle.dg_model.specs.Valid.{IsUncut}
use Rattle.dg_model.specs.Tables.{sites_in}
use Rattle.dg_model.specs.Volumes.{IsRegularFile}
use Rattle.dg_model.specs.Wants.{AreWants, FitWants, IsOf, IsWant, want_of}
use Rattle.dg_model.specs.declared.shapes.Shape.{Shape}
use Rattle.dg_model.specs.declared.wants.Want.{Want}
use Rattle.dg_model.specs.declared.wants.Want.TheVariants.{File, Kept, Stray}
use Rattle.dg_model.proofs.ClaimSearch.{number_found}
use Rattle.dg_model.proofs.RowLaws.{same_from_test}
use Rattle.dg_promise.proofs.CountLaws.{places_count}
use Rattle.dg_promise.proofs.GoneLaws.{any_found, any_there, gone_each, gone_from, gone_written}
use Rattle.dg_promise.proofs.PathLaws.{alone, needed, no_system, own_needed}
use Rattle.dg_promise.proofs.WantLaws.{block_counts, some_block}
use Rattle.dg_promise.specs.Needed.{IsNeeded}
use Rattle.dg_promise.specs.Needed.IsNeeded.{of_directory, of_file, of_system}
use Rattle.dg_promise.specs.Promises.{FewLost, LeadsNowhere, LeadsTo, Stands, Survives}

-- ---- places

place_there : (shape : Shape) (b i : ℕ) → i < shape.m → list_any (λ t. t == (b + i) % shape.b) (places_of shape b) ≡ true
place_there shape b i low = number_found (places_of shape b) ((b + i) % shape.b) (
  i,
  rw (length-map-range_with_len (λ i. (b + i) % shape.b) 0 shape.m) low,
  get_or-map-range_with_len (λ i. (b + i) % shape.b) 0 shape.m i i ((b + i) % shape.b) low (omega arith),
)

-- the boundaries of a file
on_home : (home copy : Option ℕ) (s : ℕ) → (home ≡ Some s) ⊎ (copy ≡ Some s) → list_any (λ t. t == s) (option_to_list home ++ option_to_list copy) ≡ true
on_home home copy s (inl is) = let same : (s == s) ≡ true = grind (arith, nat_tests) in rw (is, same) refl
on_home None copy s (inr is) = let same : (s == s) ≡ true = grind (arith, nat_tests) in rw (is, same) refl
on_home (Some t) copy s (inr is) = elim (cases_Bool (t == s)) [
  | inl here ↦ rw here refl
  | inr there ↦ let same : (s == s) ≡ true = grind (arith, nat_tests) in rw (there, is, same) refl
]

of_one : (copy : Option ℕ) (s : ℕ) → list_any (λ t. t == s) (option_to_list copy) ≡ true → copy ≡ Some s
of_one None s on = absurd (false≢true on)
of_one (Some t) s on = elim (cases_Bool (t == s)) [
  | inl here ↦ ap Some (same_from_test t s here)
  | inr there ↦ absurd (false≢true (rw there at on))
]

home_on : (home copy : Option ℕ) (s : ℕ) → list_any (λ t. t == s) (option_to_list home ++ option_to_list copy) ≡ true → (home ≡ Some s) ⊎ (copy ≡ Some s)
home_on None copy s on = inr (of_one copy s on)
home_on (Some t) copy s on = elim (cases_Bool (t == s)) [
  | inl here ↦ inl (ap Some (same_from_test t s here))
  | inr there ↦ inr (of_one copy s (rw there at on))
]

-- ---- files that survive

-- a boundary that isn't lost, with the file or its copy
standing : (P : ℕ → Type 0) (home copy : Option ℕ) → IsSome home → IsNone home ⊎ IsSomeAnd home P ⊎ IsSomeAnd copy P → (s : ℕ) × ((home ≡ Some s) ⊎ (copy ≡ Some s)) × P s
standing P (Some s) copy some (inl none) = absurd (false≢true (sym none))
standing P (Some s) copy some (inr (inl stands)) = (s, inl refl, stands)
standing P (Some s) (Some t) some (inr (inr stands)) = (t, inr refl, stands)
standing P (Some s) None some (inr (inr stands)) = absurd stands
standing P None copy some h = absurd (false≢true some)

stands_by : (P : ℕ → Type 0) (home copy : Option ℕ) (s : ℕ) → (home ≡ Some s) ⊎ (copy ≡ Some s) → P s → IsNone home ⊎ IsSomeAnd home P ⊎ IsSomeAnd copy P
stands_by P home copy s (inl is) stands = inr (inl (rw is stands))
stands_by P home copy s (inr is) stands = inr (inr (rw is stands))

has_home : (P : ℕ → Type 0) (home copy : Option ℕ) → (IsNone home ⊎ IsSomeAnd home P ⊎ IsSomeAnd copy P → ⊥) → IsSome home
has_home P None copy none = absurd (none (inl refl))
has_home P (Some s) copy none = refl

pub survives_or : (state : State) (i : ℕ) → Survives state i ⊎ (Survives state i → ⊥)
survives_or state i = by_home (home_of state.homes i) (home_of state.copies i)
  where
    by_copy : (s : ℕ) (copy : Option ℕ) → is_lost state.members s ≡ true → (IsNone (Some s) ⊎ IsSomeAnd (Some s) (Stands state) ⊎ IsSomeAnd copy (Stands state)) ⊎ (IsNone (Some s) ⊎ IsSomeAnd (Some s) (Stands state) ⊎ IsSomeAnd copy (Stands state) → ⊥)
    by_copy s None lost = inr (λ h. elim h [ inl none ↦ false≢true (sym none) | inr other ↦ elim other [ inl stands ↦ false≢true (sym stands ∙ lost) | inr none ↦ none ] ])
    by_copy s (Some t) lost = elim (cases_Bool (is_lost state.members t)) [
      | inl gone ↦ inr (λ h. elim h [ inl none ↦ false≢true (sym none) | inr other ↦ elim other [ inl stands ↦ false≢true (sym stands ∙ lost) | inr stands ↦ false≢true (sym stands ∙ gone) ] ])
      | inr stands ↦ inl (inr (inr stands))
    ]

    by_home : (home copy : Option ℕ) → (IsNone home ⊎ IsSomeAnd home (Stands state) ⊎ IsSomeAnd copy (Stands state)) ⊎ (IsNone home ⊎ IsSomeAnd home (Stands state) ⊎ IsSomeAnd copy (Stands state) → ⊥)
    by_home None copy = inl (inl refl)
    by_home (Some s) copy = elim (cases_Bool (is_lost state.members s)) [
      | inl lost ↦ by_copy s copy lost
      | inr stands ↦ inl (inr (inl stands))
    ]

-- ---- what is gone

by_members : (gone cut : Bool) → (gone || cut) ≡ true → (cut ≡ true → ⊥) → gone ≡ true
by_members true cut either none = refl
by_members false cut either none = absurd (none either)

or_left : (gone cut : Bool) → gone ≡ true → (gone || cut) ≡ true
or_left true cut is = refl
or_left false cut is = absurd (false≢true is)

or_right : (gone cut : Bool) → cut ≡ true → (gone || cut) ≡ true
or_right true cut is = refl
or_right false cut is = is

-- where a needed block was cut, one is gone
pub cut_lacks : (state : State) (path : List ℕ) → (IsUncut state path → ⊥) → list_any (gone_in state) ((cat_of state.table.shape.l state.table.shape.n path state.blocks).needs) ≡ true
cut_lacks state path cut = elim (cases_Bool (list_any (is_cut state) ((cat_of state.table.shape.l state.table.shape.n path state.blocks).needs))) [
  | inl some ↦
      let one = any_there (is_cut state) ((cat_of state.table.shape.l state.table.shape.n path state.blocks).needs) some in
      any_found (gone_in state) ((cat_of state.table.shape.l state.table.shape.n path state.blocks).needs) one.0 one.1
      (or_right (is_gone state.table state.members one.0) (is_cut state one.0) one.2)
  | inr none ↦ absurd (cut none)
]

module _ (state : State) (wants : List (Option Want)) (fit : FitWants state.table wants) (placed : IsPlaced wants state.table state.homes state.copies) where
  -- a block that is written has a want, and so has one that is gone
  written_want : (b : ℕ) → has_site (sites_in state.table b) ≡ true → (want : Want) × (want_of wants b ≡ Some want)
  written_want b written = on (want_of wants b) refl (fit.written b ∙ written)
    where
      on : (found : Option Want) → want_of wants b ≡ found → is_some found ≡ true → (want : Want) × (want_of wants b ≡ Some want)
      on None is some = absurd (false≢true some)
      on (Some want) is some = (want, is)

  want_there : (b : ℕ) → is_gone state.table state.members b ≡ true → (want : Want) × (want_of wants b ≡ Some want)
  want_there b gone = written_want b (gone_written state.table state.members b gone)

  kept_stands : IsShape state.table.shape → FewLost state → (b : ℕ) → want_of wants b ≡ Some Kept → is_gone state.table state.members b ≡ true → ⊥
  kept_stands shape few b is gone =
      let least = shape.least_boundaries in
      let many = places_count (is_lost state.members) state.table.shape.b b state.table.shape.m (omega arith) shape.most_places (λ i low.
      gone_each state.table state.members b ((b + i) % state.table.shape.b) gone (placed.kept b is ((b + i) % state.table.shape.b) ∙ place_there state.table.shape b i low)) in
      omega arith

  file_stands : (b i : ℕ) → Survives state i → want_of wants b ≡ Some (File i) → is_gone state.table state.members b ≡ true → ⊥
  file_stands b i survives is gone =
      let home = (placed.homes_are i).1 (block_counts wants b i is) in
      let one = standing (Stands state) (home_of state.homes i) (home_of state.copies i) home survives in
      let on = placed.file b i is one.0 ∙ on_home (home_of state.homes i) (home_of state.copies i) one.0 one.1 in
      false≢true (sym one.2 ∙ gone_each state.table state.members b one.0 gone on)

  -- a file that doesn't survive has a written block, and each such block is gone
  file_gone : (i : ℕ) → (Survives state i → ⊥) → (b : ℕ) × (want_of wants b ≡ Some (File i)) × (is_gone state.table state.members b ≡ true)
  file_gone i none =
      let home = has_home (Stands state) (home_of state.homes i) (home_of state.copies i) none in
      let block = some_block wants i ((placed.homes_are i).0 home) in
      let written : has_site (sites_in state.table block.0) ≡ true = sym (fit.written block.0) ∙ ap is_some block.1 in (
        block.0,
        block.1,
        gone_from state.table state.members block.0 written (λ s on. elim (cases_Bool (is_lost state.members s)) [
          | inl lost ↦ lost
          | inr stands ↦ absurd (none (stands_by (Stands state) (home_of state.homes i) (home_of state.copies i) s
              (home_on (home_of state.homes i) (home_of state.copies i) s (sym (placed.file block.0 i block.1 s) ∙ on)) stands))
        ]),
      )

  -- ---- what is needed

  module _ (are : AreWants state.table.shape.l state.table.shape.n state.blocks wants) where
    -- whether a needed block is gone, by why it is needed
    kept_of : (b : ℕ) (want : Want) → want_of wants b ≡ Some want → ((i : ℕ) → IsWant state.table.shape.l state.table.shape.n state.blocks b (File i) → ⊥)
        → IsWant state.table.shape.l state.table.shape.n state.blocks b Kept → want ≡ Kept
    kept_of b Kept is no_file kept = refl
    kept_of b (File i) is no_file kept = absurd (no_file i (are b (File i) is))
    kept_of b Stray is no_file (inl system) = absurd ((are b Stray is).0 system)
    kept_of b Stray is no_file (inr (i, owner, other)) = absurd ((are b Stray is).1 i owner)

    file_want : (b i : ℕ) (want : Want) → want_of wants b ≡ Some want → IsWant state.table.shape.l state.table.shape.n state.blocks b (File i) → want ≡ File i
    file_want b i Kept is own = kept (are b Kept is)
      where
        kept : IsWant state.table.shape.l state.table.shape.n state.blocks b Kept → Kept ≡ File i
        kept (inl system) = absurd (no_system state.table.shape.l state.table.shape.n state.blocks b i own.0 system)
        kept (inr (j, owner, other)) =
            let same = alone state.table.shape.l state.table.shape.n state.blocks b i j own.0 owner in
            absurd (other (rw same at own.1))
    file_want b i (File j) is own = let want = are b (File j) is in ap File (alone state.table.shape.l state.table.shape.n state.blocks b j i want.0 own.0)
    file_want b i Stray is own = absurd ((are b Stray is).1 i own.0)

    -- a regular file has a home exactly where a written block belongs to it
    pub no_home : (i : ℕ) → IsRegularFile state.table.shape.l state.table.shape.n state.blocks i → IsNone (home_of state.homes i)
        → (b : ℕ) → has_site (sites_in state.table b) ≡ true → IsOf state.table.shape.l state.table.shape.n state.blocks b i → ⊥
    no_home i regular none b written owner =
        let want = written_want b written in
        let is = want.1 ∙ ap Some (file_want b i want.0 want.1 (owner, regular)) in
        false≢true (sym none ∙ (placed.homes_are i).1 (block_counts wants b i is))

    pub owns_none : (i : ℕ) → ((b : ℕ) → has_site (sites_in state.table b) ≡ true → IsOf state.table.shape.l state.table.shape.n state.blocks b i → ⊥) → IsNone (home_of state.homes i)
    owns_none i none = elim (cases_Bool (is_some (home_of state.homes i))) [
      | inl some ↦
          let block = some_block wants i ((placed.homes_are i).0 some) in
          absurd (none block.0 (sym (fit.written block.0) ∙ ap is_some block.1) (are block.0 (File i) block.1).0)
      | inr nowhere ↦ nowhere
    ]

    -- ---- the promise

    module _ (tame : FilesAreTame) (whole : HasWholeIndirects state.table.shape.l state.table.shape.n state.blocks) (sound : IsSoundIn state) (shape : IsShape state.table.shape) (few : FewLost state) (path : List ℕ) where
      kept_stands_too : (b : ℕ) → IsWant state.table.shape.l state.table.shape.n state.blocks b Kept → ((i : ℕ) → IsWant state.table.shape.l state.table.shape.n state.blocks b (File i) → ⊥)
          → is_gone state.table state.members b ≡ true → ⊥
      kept_stands_too b kept no_file gone =
          let want = want_there b gone in
          kept_stands shape few b (want.1 ∙ ap Some (kept_of b want.0 want.1 no_file kept)) gone

      -- of the needed blocks only those of the file can be gone
      gone_of : (b : ℕ) → IsNeeded state.table.shape.l state.table.shape.n state.blocks path b → is_gone state.table state.members b ≡ true
          → (i : ℕ) × LeadsTo state path i × (Survives state i → ⊥)
      gone_of b (of_system system) gone = absurd (kept_stands_too b (inl system) (λ i file. no_system state.table.shape.l state.table.shape.n state.blocks b i file.0 system) gone)
      gone_of b (of_directory i owner other) gone = absurd (kept_stands_too b (inr (i, owner, other)) (λ j file.
          let same = alone state.table.shape.l state.table.shape.n state.blocks b j i file.0 owner in
          other (rw same at file.1)) gone)
      gone_of b (of_file i leads owner regular) gone =
          let want = want_there b gone in
          (i, leads, λ survives. file_stands b i survives (want.1 ∙ ap Some (file_want b i want.0 want.1 (owner, regular))) gone)

      any_gone : IsUncut state path → list_any (gone_in state) ((cat_of state.table.shape.l state.table.shape.n path state.blocks).needs) ≡ true → (i : ℕ) × LeadsTo state path i × (Survives state i → ⊥)
      any_gone uncut h =
          let one = any_there (gone_in state) ((cat_of state.table.shape.l state.table.shape.n path state.blocks).needs) h in
          gone_of one.0 (needed state.table.shape.l state.table.shape.n state.blocks whole sound path one.0 one.1)
          (by_members (is_gone state.table state.members one.0) (is_cut state one.0) one.2 (λ cut. false≢true (sym uncut
          ∙ any_found (is_cut state) ((cat_of state.table.shape.l state.table.shape.n path state.blocks).needs) one.0 one.1 cut)))

      same_file : (i j : ℕ) → LeadsTo state path i → LeadsTo state path j → j ≡ i
      same_file i j one other = let same : ◌≡◌ {A = Result ℕ PathRefusal} (Ok j) (Ok i) = sym other ∙ one in cc

      -- a file that survives is whole
      pub whole_file : (i : ℕ) → IsUncut state path → LeadsTo state path i → Survives state i → list_any (gone_in state) ((cat_of state.table.shape.l state.table.shape.n path state.blocks).needs) ≡ false
      whole_file i uncut leads survives = elim (cases_Bool (list_any (gone_in state) ((cat_of state.table.shape.l state.table.shape.n path state.blocks).needs))) [
        | inl gone ↦ let one = any_gone uncut gone in absurd (one.2 (rw (same_file i one.0 leads one.1) survives))
        | inr none ↦ none
      ]

      -- one that doesn't lacks a block
      pub lost_file : (i : ℕ) → LeadsTo state path i → (Survives state i → ⊥) → list_any (gone_in state) ((cat_of state.table.shape.l state.table.shape.n path state.blocks).needs) ≡ true
      lost_file i leads none =
          let block = file_gone i none in
          let owner = are block.0 (File i) block.1 in
          any_found (gone_in state) ((cat_of state.table.shape.l state.table.shape.n path state.blocks).needs) block.0
          (own_needed state.table.shape.l state.table.shape.n state.blocks whole sound path tame i leads block.0 owner.0) (or_left (is_gone state.table state.members block.0) (is_cut state block.0) block.2)

      -- and a path that leads to no file lacks none
      pub whole_refusal : (refusal : PathRefusal) → IsUncut state path → LeadsNowhere state path refusal → list_any (gone_in state) ((cat_of state.table.shape.l state.table.shape.n path state.blocks).needs) ≡ false
      whole_refusal refusal uncut leads = elim (cases_Bool (list_any (gone_in state) ((cat_of state.table.shape.l state.table.shape.n path state.blocks).needs))) [
        | inl gone ↦ let one = any_gone uncut gone in let no : ◌≡◌ {A = Result ℕ PathRefusal} (Ok one.0) (Err refusal) = sym one.1 ∙ leads in absurd (grind (arith, no))
        | inr none ↦ none
      ]
