-- What members hold for a state of two blocks, and what they don't: bytes where no label is, and more bytes than a label gives.
use Rattle.std.proofs.Common.{◌≡◌, ◌∙◌, inl, inr, ℕ, zero, suc, true, false, List, [], ap, refl, arith, sym, subst, length}
use Rattle.std.proofs.lemmas.Bool.{false≢true}
use Rattle.std.proofs.lemmas.List.{length-replicate}
use Rattle.std.specs.Prelude.{◌<◌, All, Option, Some, IfSome, slice_index, take}
use Rattle.dg_model.specs.Blocks.{block_in, zeros}
use Rattle.dg_model.specs.Members.{SlotHolds, is_good}
use Rattle.dg_model.specs.Saves.{BeginsWith, HasLength, Label, label_bytes}
use Rattle.dg_model.specs.Seals.{LastLabel, label_on}
use Rattle.dg_model.specs.Sites.{has_site}
use Rattle.dg_model.specs.States.{AreSized, HoldsAll, State}
use Rattle.dg_model.specs.Tables.{Table, sites_in}
use Rattle.dg_model.proofs.SettledRows.{at_home, both_on_0}
use Rattle.dg_model.proofs.StepRows.{all_good, array_with, nothing, shape, table_with}
use Rattle.dg_model.proofs.VerdictRows.{blocks}

-- ---- without a label: no block is written, and each member is blank

abbrev unsited : Table
unsited = table_with [] []

all_blank : (b : ℕ) → b < 2 → has_site (sites_in unsited b) ≡ false → block_in blocks b ≡ zeros 512
all_blank zero low none = refl
all_blank (suc zero) low none = refl
all_blank (suc (suc b)) low none = absurd (omega (arith, low))

abbrev blank_bytes : ℕ → Option (List ℕ)
blank_bytes q = Some (zeros 512)

none_held : (b : ℕ) → b < 2 → All (λ site. SlotHolds 512 all_good blank_bytes site.boundary site.slot (block_in blocks b)) (sites_in unsited b)
none_held zero low = λ k d within. absurd (omega (arith, within))
none_held (suc zero) low = λ k d within. absurd (omega (arith, within))
none_held (suc (suc b)) low = absurd (omega (arith, low))

blank_holds : HoldsAll blank_bytes (array_with unsited nothing 5)
blank_holds = record {
  blocks = record { size = refl; blank = all_blank; held = none_held };
  label = tt;
  sizes = λ all. tt;
  fresh = λ q low there none. refl;
}

-- a good member of it doesn't begin with the label of another array
other_label : (bytes : ℕ → Option (List ℕ)) (all : List ℕ) (label : Label) → bytes 1 ≡ Some all → BeginsWith all label → HoldsAll bytes (array_with unsited nothing 5) → ⊥
unfolding all_good label_bytes
other_label bytes all label told begins h =
    let fresh = subst (λ (b : Option (List ℕ)). IfSome b (λ all. take 512 all ≡ zeros 512)) told (h.fresh 1 (omega arith) (λ out. false≢true (sym (ap is_good out))) refl) in
    let first = ap (λ (l : List ℕ). slice_index l 0) (sym begins.bytes ∙ fresh) in
    omega (arith, first)

-- ---- with a label: 512 bytes, three slots of 512, and room for a body of 77 + 4 + 24 + 30 bytes

abbrev last : LastLabel
last = record {
  format = 2;
  sequence = 1;
  sealed = true;
  shape = shape;
  body = [];
  keepers = λ q. is_good (all_good q);
  bodies = λ q. is_good (all_good q);
  numbers = λ q. q;
}

abbrev labelled : State
labelled = record (array_with both_on_0 at_home 5) { label = Some last }

right_size : AreSized (λ q. Some (zeros 2183)) labelled
right_size = λ all q keeps. inl (length-replicate {A = ℕ} 2183 0)

one_too_much : (bytes : ℕ → Option (List ℕ)) (all : List ℕ) → bytes 0 ≡ Some all → length all ≡ 2184 → HoldsAll bytes labelled → ⊥
unfolding all_good
one_too_much bytes all told long h =
    let sized = subst (λ (b : Option (List ℕ)). IfSome b (λ all. HasLength (label_on last 0) (length all))) told (h.sizes refl 0 refl) in
    elim sized [ inl size ↦ omega (arith, size, long) | inr old ↦ omega (arith, old.0) ]
