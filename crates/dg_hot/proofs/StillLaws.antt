-- Recent files of which none lacks a copy.
use Rattle.std.proofs.Common.{◌≡◌, ◌<◌, ◌&&◌, ℕ, Bool, true, false, not, List, length, get_or, refl, sym, ◌∙◌, ap}
use Rattle.std.specs.Prelude.{None, Option, Some, is_some}
use Rattle.std.specs.List.{list_any}
use Rattle.std.proofs.lemmas.Bool.{false≢true}
use Rattle.std.proofs.lemmas.List.Folds.{list_any_at}
use Rattle.dg_model.specs.Copies.{lacks_copy}
use Rattle.dg_model.specs.declared.homes.Home.{Home}
use Rattle.dg_store.specs.Stores.{rack_of}
use Rattle.dg_store.specs.declared.store.Store.{Store}

-- a file that has a home and doesn't lack a copy has one
pub has_copy : (home copy : Option ℕ) (s : ℕ) → home ≡ Some s → (is_some home && not (is_some copy)) ≡ false → is_some copy ≡ true
has_copy None copy s e none = absurd (cc)
has_copy (Some h) None s e none = absurd (false≢true (sym none))
has_copy (Some h) (Some t) s e none = refl

-- one of the files
none_at : (test : ℕ → Bool) (files : List ℕ) (k i : ℕ) → list_any test files ≡ false → k < length files → get_or files k 0 ≡ i → test i ≡ false
none_at test files k i none low at = by_test (test i) refl
  where
    by_test : (t : Bool) → test i ≡ t → t ≡ false
    by_test true e = absurd (false≢true (sym none ∙ list_any_at test files k 0 low (ap test at ∙ e)))
    by_test false e = refl

module _ {R : Type 0} where
  -- nothing changes with one file more
  pub still_on : (homes before mid after : List Home) (recent files : List ℕ) (k i : ℕ) (a b c : Store R) → files ≡ recent → k < length files
      → get_or files k 0 ≡ i → (list_any (lacks_copy homes before) recent ≡ false → (b ≡ a) × (mid ≡ before))
      → (lacks_copy homes mid i ≡ false → (c ≡ b) × (after ≡ mid))
      → list_any (lacks_copy homes before) recent ≡ false → (c ≡ a) × (after ≡ before)
  still_on homes before mid after recent files k i a b c same low at so_far next none =
      let was = so_far none in
      let one = none_at (lacks_copy homes before) files k i (ap (list_any (lacks_copy homes before)) same ∙ none) low at in
      let now = next (ap (λ (xs : List Home). lacks_copy homes xs i) was.1 ∙ one) in
      (now.0 ∙ was.0, now.1 ∙ was.1)

  pub same_rack : (a b : Store R) → b ≡ a → rack_of b ≡ rack_of a
  same_rack a b same = ap (λ (store : Store R). rack_of store) same
