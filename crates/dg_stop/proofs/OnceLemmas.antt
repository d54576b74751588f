-- What a commit leaves of the rack, whatever was kept.
use Rattle.std.proofs.Common.{◌≡◌, ◌⊎◌, ℕ, Bool, true, false, List, length, refl, sym, ◌∙◌, ap, arith, inl, inr, subst}
use Rattle.std.proofs.lemmas.Bool.{false≢true}
use Rattle.std.proofs.lemmas.List.{ext_get_or}
use Rattle.dg_io.specs.Makes.{Makes}
use Rattle.dg_io.specs.MakesLaws.{makes_both}
use Rattle.dg_io.specs.Told.{Told, IsSame}
use Rattle.dg_io.specs.declared.outside.Rack.{Ghosts}
use Rattle.dg_model.specs.Causes.{Rose}
use Rattle.dg_stop.proofs.Frames.{told_both_pages, told_same_pages}
use Rattle.dg_stop.proofs.OneCommit.{all_or_some, lt_or, sized_passed}
use Rattle.dg_stop.specs.Layouts.{table_size}
use Rattle.dg_stop.specs.Phases.{FinishedBelow, IsFewer, IsServed, LeavesOnce, PassedBelow, Reaches, Sized, flag_in, size_in}
use Rattle.dg_stop.specs.declared.places.Places.{Places}

reach_rest : {S : Type 0} (rack : Ghosts S) (t q : ℕ) (served serves : Bool) (old mid : S) → serves ≡ served → (rack.counts mid).faults q ≡ (rack.counts old).faults q
    → Told IsSame (rack.bytes old q) (rack.bytes mid q) → Reaches rack t q served serves old mid
reach_rest rack t q served serves old mid same faults bytes = record {
  cause = λ is off. absurd (false≢true (sym off ∙ same ∙ is));
  spared = λ is. faults;
  pages = told_same_pages t (rack.bytes old q) (rack.bytes mid q) bytes;
}

reach_both : {S : Type 0} (rack : Ghosts S) (t q : ℕ) (served flag serves : Bool) (old mid new : S) → flag ≡ served → Reaches rack t q served flag old mid
    → Reaches rack t q flag serves mid new → Reaches rack t q served serves old new
reach_both rack t q served flag serves old mid new same first second = record {
  cause = λ is off. subst (λ (n : ℕ). Rose n ((rack.counts new).faults q)) (first.spared same) (second.cause (same ∙ is) off);
  spared = λ is. second.spared (is ∙ sym same) ∙ first.spared same;
  pages = told_both_pages t (rack.bytes old q) (rack.bytes mid q) (rack.bytes new q) first.pages second.pages;
}

fell_or_same : (a b : Bool) → (b ≡ true → a ≡ true) → (b ≡ a) ⊎ ((a ≡ true) × (b ≡ false))
fell_or_same true true only = inl refl
fell_or_same true false only = inr (refl, refl)
fell_or_same false false only = inl refl
fell_or_same false true only = absurd (false≢true (only refl))

module _ {S : Type 0} (rack : Ghosts S) (members : List Places) (s room : ℕ) (extra : List ℕ) (served flags : List Bool) (old mid : S)
    (first : PassedBelow rack members s room extra 32 served flags old mid) where
  only_first : (q : ℕ) → flag_in flags q ≡ true → flag_in served q ≡ true
  only_first q on = elim (lt_or q 32) [
    | inl low ↦ (first.below q low).only on
    | inr high ↦ sym (first.rest q high).flag ∙ on
  ]

  reach_first : (q : ℕ) → Reaches rack (table_size (size_in members q) room) q (flag_in served q) (flag_in flags q) old mid
  reach_first q = elim (lt_or q 32) [
    | inl low ↦ (first.below q low).reach
    | inr high ↦ reach_rest rack (table_size (size_in members q) room) q (flag_in served q) (flag_in flags q) old mid (first.rest q high).flag (first.rest q high).faults (first.rest q high).bytes
  ]

  -- who serves no more, where they aren't the same
  fewer_first : length served ≡ 32 → length flags ≡ 32 → (served ≡ flags → ⊥) → IsFewer served flags
  fewer_first count later apart = elim (all_or_some (λ q. flag_in flags q ≡ flag_in served q) (λ q. (flag_in served q ≡ true) × (flag_in flags q ≡ false)) 32
      (λ q low. fell_or_same (flag_in served q) (flag_in flags q) (only_first q))) [
        | inl all ↦ absurd (apart (ext_get_or false served flags (count ∙ sym later) (λ i low. sym (all i (omega (arith, low, count))))))
        | inr found ↦ record { member = found.0; was = found.1.0; isnt = found.1.1 }
      ]

  pub once_untried : length served ≡ 32 → length flags ≡ 32 → (served ≡ flags → ⊥) → LeavesOnce rack members room false served flags old mid
  once_untried count later apart = record {
    tries = record {
      made = first.made;
      only = only_first;
      cause = λ q. (reach_first q).cause;
      spared = λ q. (reach_first q).spared;
      sized = sized_passed rack members s room extra served flags old mid first;
      pages = λ q. (reach_first q).pages;
      tells = first.tells;
      steady_on = first.steady_on;
    };
    fewer = λ is. fewer_first count later apart;
  }

  module _ (same : flags ≡ served) (serves : List Bool) (new : S) (second : FinishedBelow rack members s room extra 32 flags serves mid new) where
    same_flag : (q : ℕ) → flag_in flags q ≡ flag_in served q
    same_flag q = ap (λ (l : List Bool). flag_in l q) same

    only_second : (q : ℕ) → flag_in serves q ≡ true → flag_in flags q ≡ true
    only_second q on = elim (lt_or q 32) [
      | inl low ↦ (second.below q low).only on
      | inr high ↦ sym (second.rest q high).flag ∙ on
    ]

    reach_second : (q : ℕ) → Reaches rack (table_size (size_in members q) room) q (flag_in flags q) (flag_in serves q) mid new
    reach_second q = elim (lt_or q 32) [
      | inl low ↦ (second.below q low).reach
      | inr high ↦ reach_rest rack (table_size (size_in members q) room) q (flag_in flags q) (flag_in serves q) mid new (second.rest q high).flag (second.rest q high).faults (second.rest q high).bytes
    ]

    sized_second : (q : ℕ) → flag_in serves q ≡ true → Sized rack members room q new
    sized_second q on = elim (lt_or q 32) [
      | inl low ↦ (second.below q low).sized on
      | inr high ↦ (second.rest q high).sized (sym (second.rest q high).flag ∙ on)
    ]

    reach_all : (q : ℕ) → Reaches rack (table_size (size_in members q) room) q (flag_in served q) (flag_in serves q) old new
    reach_all q = reach_both rack (table_size (size_in members q) room) q (flag_in served q) (flag_in flags q) (flag_in serves q) old mid new (same_flag q) (reach_first q) (reach_second q)

    pub once_tried : LeavesOnce rack members room true served serves old new
    once_tried = record {
      tries = record {
        made = makes_both rack (IsServed served) old mid new first.made (subst (λ (l : List Bool). Makes rack (IsServed l) mid new) same second.made);
        only = λ q on. sym (same_flag q) ∙ only_second q on;
        cause = λ q. (reach_all q).cause;
        spared = λ q. (reach_all q).spared;
        sized = sized_second;
        pages = λ q. (reach_all q).pages;
        tells = λ q told. first.tells q (second.tells q told);
        steady_on = ((λ h. second.steady_on.0 (first.steady_on.0 h)), (λ h. first.steady_on.1 (second.steady_on.1 h)));
      };
      fewer = λ is. absurd (false≢true (sym is));
    }
