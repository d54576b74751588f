-- The calls that were made on the members of a boundary.
use Rattle.std.proofs.Common.{◌≡◌, ◌≢◌, ◌⊎◌, inl, inr, ℕ, ◌+◌, ◌*◌, ◌/◌, ◌<◌, List, [], ◌∷◌, ◌++◌, refl, sym, ◌∙◌, subst, arith}
use Rattle.std.specs.Prelude.{◌↔◌}
use Rattle.std.proofs.lemmas.Bool.Decides.{nat_tests}
use Rattle.dg_model.specs.declared.members.MemberState.{MemberState}
use Rattle.dg_model.specs.declared.members.MemberState.TheVariants.{Good, Filling, Out}
use Rattle.dg_io.specs.OnlyLaws.{only_none, only_one, only_such, only_both}
use Rattle.dg_io.specs.RackCalls.{RackCall, looks, blanks, calls, extends}
use Rattle.dg_io.specs.RackWords.{MadeOnly}
use Rattle.dg_io.specs.declared.outside.Rack.{Ghosts}
use Rattle.dg_pair.specs.declared.members.Good.{Good as GoodType}
use Rattle.dg_pair.specs.declared.members.Filling.{Filling as FillingType}
use Rattle.dg_pair.specs.declared.members.Out.{Out as OutType}
use Rattle.dg_pair.specs.declared.members.Member.{Member}
use Rattle.dg_pair.specs.declared.boundaries.ExtendAnswer.{ExtendAnswer}
use Rattle.dg_pair.specs.declared.boundaries.ExtendAnswer.TheVariants.{Extended, NotGood, Fell}
use Rattle.dg_pair.specs.declared.boundaries.NoteAnswer.{NoteAnswer}
use Rattle.dg_pair.specs.declared.boundaries.NoteAnswer.TheVariants.{Noted, NotGood as NoteNotGood, Fell as NoteFell}
use Rattle.dg_pair.specs.declared.boundaries.ReplaceAnswer.{ReplaceAnswer}
use Rattle.dg_pair.specs.declared.boundaries.ReplaceAnswer.TheVariants.{Replaced, Lost, NotOut, Failed}
use Rattle.dg_pair.specs.declared.boundaries.Boundary.TheVariants.{Both, Half, Fill}
use Rattle.dg_pair.specs.Boundaries.{members_of}
use Rattle.dg_pair.specs.Calls.{IsBlankAt, IsBlankOf, IsCallOf, IsExtendOf}
use Rattle.dg_pair.specs.Kept.{BlanksBy}

is_good : (m : MemberState) → m ≡ Good → m ≢ Out
is_good m good out = let e = sym good ∙ out in cc

is_filling : (m : MemberState) (have : ℕ) → m ≡ Filling have → m ≢ Out
is_filling m have filling out = let e = sym filling ∙ out in cc

-- one call, on a member that serves
pub half_made : {S : Type 0} (rack : Ghosts S) (a : Member GoodType) (b : Member OutType) (before now : S) → rack.made before (calls a.number ∷ []) now → MadeOnly rack (IsCallOf (members_of (Half a b))) before now
half_made rack a b before now made = only_one rack _ (calls a.number) before now (is_good _ (grind (arith, nat_tests))) made

pub both_made : {S : Type 0} (rack : Ghosts S) (a b : Member GoodType) (before now : S) → rack.made before (calls a.number ∷ []) now → MadeOnly rack (IsCallOf (members_of (Both a b))) before now
both_made rack a b before now made = only_one rack _ (calls a.number) before now (is_good _ (grind (arith, nat_tests))) made

pub fill_made : {S : Type 0} (rack : Ghosts S) (a : Member GoodType) (b : Member FillingType) (before now : S) → rack.made before (calls a.number ∷ []) now → MadeOnly rack (IsCallOf (members_of (Fill a b))) before now
fill_made rack a b before now made = only_one rack _ (calls a.number) before now (is_good _ (grind (arith, nat_tests))) made

-- and then one on the other
module _ {S : Type 0} (rack : Ghosts S) (then : (a b c : S) (x y : List RackCall) → rack.made a x b → rack.made b y c → rack.made a (x ++ y) c) (first mid last : S) where
  pub both_then : (a b : Member GoodType) → rack.made first (calls a.number ∷ []) mid → rack.made mid (calls b.number ∷ []) last → MadeOnly rack (IsCallOf (members_of (Both a b))) first last
  both_then a b one two = only_both rack _ then first mid last (both_made rack a b first mid one) (only_one rack _ (calls b.number) mid last (is_good _ (grind (arith, nat_tests))) two)

  half_in : (a b : Member GoodType) (out : Member OutType) (call : RackCall) → IsCallOf (members_of (Half b out)) call → IsCallOf (members_of (Both a b)) call
  half_in a b out (looks q) is = is
  half_in a b out (blanks q) is = is
  half_in a b out (calls q) is = λ e. is (grind (arith, nat_tests))
  half_in a b out (extends q) is = is

  pub both_half : (a b : Member GoodType) (out : Member OutType) → rack.made first (calls a.number ∷ []) mid → MadeOnly rack (IsCallOf (members_of (Half b out))) mid last → MadeOnly rack (IsCallOf (members_of (Both a b))) first last
  both_half a b out one two = only_both rack _ then first mid last (both_made rack a b first mid one) (only_such rack _ _ mid last (half_in a b out) two)

  pub fill_then : (a : Member GoodType) (b : Member FillingType) → a.number + b.number ≡ 4 * (a.number / 2) + 1 → rack.made first (calls a.number ∷ []) mid → rack.made mid (calls b.number ∷ []) last
      → MadeOnly rack (IsCallOf (members_of (Fill a b))) first last
  fill_then a b numbers one two = only_both rack _ then first mid last (fill_made rack a b first mid one)
      (only_one rack _ (calls b.number) mid last (is_filling _ b.state.have (grind (arith, nat_tests))) two)

-- a call on one member, where that is good; else nothing is done
pub tried_made : {S : Type 0} (rack : Ghosts S) (none : (s : S) → rack.made s [] s) (members : ℕ → MemberState) (p : ℕ) (before now : S) (Quiet : Type 0) → Quiet ⊎ (Quiet → ⊥) → Quiet ↔ (members p ≢ Good)
    → ((Quiet → ⊥) → rack.made before (calls p ∷ []) now) → (Quiet → now ≡ before) → MadeOnly rack (IsCallOf members) before now
tried_made rack none members p before now Quiet (inl is) not_good made quiet = subst (λ s. MadeOnly rack (IsCallOf members) before s) (sym (quiet is)) (only_none rack _ none before)
tried_made rack none members p before now Quiet (inr not) not_good made quiet = only_one rack _ (calls p) before now (λ out. not (not_good.1 (λ good. let e = sym good ∙ out in cc))) (made not)

pub tried_extend : {S : Type 0} (rack : Ghosts S) (none : (s : S) → rack.made s [] s) (members : ℕ → MemberState) (p : ℕ) (before now : S) (Quiet : Type 0) → Quiet ⊎ (Quiet → ⊥) → Quiet ↔ (members p ≢ Good)
    → ((Quiet → ⊥) → rack.made before (extends p ∷ []) now) → (Quiet → now ≡ before) → MadeOnly rack (IsExtendOf members) before now
tried_extend rack none members p before now Quiet (inl is) not_good made quiet = subst (λ s. MadeOnly rack (IsExtendOf members) before s) (sym (quiet is)) (only_none rack _ none before)
tried_extend rack none members p before now Quiet (inr not) not_good made quiet = only_one rack _ (extends p) before now (λ out. not (not_good.1 (λ good. let e = sym good ∙ out in cc))) (made not)

pub noted_or : (answer : NoteAnswer) → (answer ≡ NoteNotGood) ⊎ (answer ≢ NoteNotGood)
noted_or Noted = inr (λ e. cc)
noted_or NoteNotGood = inl refl
noted_or NoteFell = inr (λ e. cc)

pub extended_or : (answer : ExtendAnswer) → (answer ≡ NotGood) ⊎ (answer ≢ NotGood)
extended_or Extended = inr (λ e. cc)
extended_or NotGood = inl refl
extended_or Fell = inr (λ e. cc)

-- a member that is made anew, where it is out and its partner serves
pub replace_made : {S : Type 0} (rack : Ghosts S) (none : (s : S) → rack.made s [] s) (answer : ReplaceAnswer) (p : ℕ) (before now : S) → BlanksBy rack p answer before now → MadeOnly rack (IsBlankOf p) before now
replace_made rack none Replaced p before now is = only_one rack _ (blanks p) before now refl is.made
replace_made rack none Failed p before now is = only_one rack _ (blanks p) before now refl is.made
replace_made rack none Lost p before now is = subst (λ s. MadeOnly rack (IsBlankOf p) before s) (sym is) (only_none rack _ none before)
replace_made rack none NotOut p before now is = subst (λ s. MadeOnly rack (IsBlankOf p) before s) (sym is) (only_none rack _ none before)

blank_at : (number side : ℕ) → side < 2 → (call : RackCall) → IsBlankOf (2 * number + side) call → IsBlankAt number call
blank_at number side small (looks q) is = is
blank_at number side small (blanks q) is = omega (arith, small, is)
blank_at number side small (calls q) is = is
blank_at number side small (extends q) is = is

pub replace_at : {S : Type 0} (rack : Ghosts S) (number side : ℕ) (before now : S) → side < 2 → MadeOnly rack (IsBlankOf (2 * number + side)) before now → MadeOnly rack (IsBlankAt number) before now
replace_at rack number side before now small only = only_such rack _ _ before now (blank_at number side small) only

-- the two members of a new boundary are made anew in their order
pub new_made : {S : Type 0} (rack : Ghosts S) → ((a b c : S) (x y : List RackCall) → rack.made a x b → rack.made b y c → rack.made a (x ++ y) c) → (number : ℕ) (first mid last : S)
    → rack.made first (blanks (2 * number) ∷ []) mid → rack.made mid (blanks (2 * number + 1) ∷ []) last → rack.made first (blanks (2 * number) ∷ blanks (2 * number + 1) ∷ []) last
new_made rack then number first mid last one two = then first mid last (blanks (2 * number) ∷ []) (blanks (2 * number + 1) ∷ []) one two

pub new_at : {S : Type 0} (rack : Ghosts S) (number : ℕ) (first last : S) → rack.made first (blanks (2 * number) ∷ blanks (2 * number + 1) ∷ []) last → MadeOnly rack (IsBlankAt number) first last
new_at rack number first last made = record { calls = blanks (2 * number) ∷ blanks (2 * number + 1) ∷ []; each = (omega arith, (omega arith, tt)); made = made }
