-- What is found of one member.
use Rattle.std.proofs.Common.{◌≡◌, ◌⊎◌, inl, inr, ℕ, ◌+◌, ◌≤◌, ◌<◌, Bool, true, false, List, length, take, refl, sym, ◌∙◌, ap, subst, arith}
use Rattle.std.specs.Prelude.{◌↔◌, ◌==◌, Option, Some, None, IfSome, IsSome, IsSomeAnd, IsTrue, MatchOption, slice_range}
use Rattle.std.proofs.lemmas.Bool.{false≢true}
use Rattle.std.proofs.lemmas.Grind.{common_steps}
use Rattle.std.proofs.lemmas.List.{length-take}
use Rattle.dg_io.specs.Told.{IsEmpty, IsSame, Measures, Reads, Told}
use Rattle.dg_io.specs.declared.outside.Rack.{Ghosts}
use Rattle.dg_model.specs.Openings.{HasOwnLabel}
use Rattle.dg_model.specs.Saves.{HasLength, Label as LabelValue, label_bytes, member_length}
use Rattle.dg_model.specs.Shapes.{IsShape}
use Rattle.dg_open.proofs.ReadLemmas.{if_both, if_some, told_by, told_on}
use Rattle.dg_open.specs.Seen.{HasHead, IsAsLong, IsAttached, IsMeasured, IsNoLabel, IsOwnLabel, IsSeen, IsShort}
use Rattle.dg_save.specs.Labels.{IsOwn, SaysLabel, label_of}
use Rattle.dg_save.specs.Laws.{LabelsAreUnique}
use Rattle.dg_save.specs.declared.labels.Label.{Label}

-- a label that is another member's, or of another length
pub no_label : LabelsAreUnique → (member size : ℕ) (head : List ℕ) (found : Label) → SaysLabel head found → (result : Bool)
    → IsTrue result ↔ IsOwn member size (label_of found) → result ≡ false → IsNoLabel member size head
no_label unique member size head found says result iff false_is label is bytes own =
    let same : label ≡ label_of found = unique label (label_of found) is says.is (sym bytes ∙ says.says) in
    let own_too : IsOwn member size (label_of found) = subst (λ (l : LabelValue). IsOwn member size l) same own in
    false≢true (sym false_is ∙ iff.1 own_too)

pub is_own : (member size : ℕ) (head : List ℕ) (found : Label) → SaysLabel head found → (result : Bool)
    → IsTrue result ↔ IsOwn member size (label_of found) → result ≡ true → IsOwnLabel member size head found
is_own member size head found says result iff true_is = record { is = says.is; says = says.says; own = iff.0 true_is }

label_size : (label : LabelValue) → length (label_bytes label) ≡ 512
unfolding label_bytes
label_size label = refl

pub front_is : (n : ℕ) (xs : List ℕ) → slice_range xs 0 (0 + n) ≡ take n xs
front_is n xs = grind (arith, common_steps)

-- ---- a member that is attached

measured : (n : ℕ) (x y : List ℕ) → Measures n x y → length y ≡ n
measured n x y m = ap length m.same ∙ m.size

empty : (x y : List ℕ) → IsEmpty x y → length y < 512
empty x y e = let n = ap length e.same in let m = ap length e.none in omega (arith, n, m)

pub attached : {R : Type 0} (rack : Ghosts R) (old new : R) (member : ℕ) (found : Option ℕ) (n : ℕ)
    → IfSome found (λ size. Told (Measures size) (rack.bytes old member) (rack.bytes new member))
    → (IsSome found → rack.stands new member ≡ true) → found ≡ Some n → 512 ≤ n → IsAttached rack new member n
attached rack old new member None n told stands is room = absurd (false≢true (ap (λ (o : Option ℕ). is_some_of o) is))
  where
    is_some_of : Option ℕ → Bool
    is_some_of None = false
    is_some_of (Some x) = true
attached rack old new member (Some size) n told stands is room =
    let same : size ≡ n = cc in
    record {
      stands = stands refl;
      room = room;
      size_is = told_by (Measures size) (λ all. length all ≡ n) (rack.bytes old member) (rack.bytes new member) told (λ x y m. measured size x y m ∙ same);
    }

pub short : {R : Type 0} (rack : Ghosts R) (old new : R) (member : ℕ) (found : Option ℕ)
    → IfSome found (λ size. Told (Measures size) (rack.bytes old member) (rack.bytes new member))
    → (found ≡ None → Told IsEmpty (rack.bytes old member) (rack.bytes new member))
    → (found ≡ None) ⊎ IsSomeAnd found (λ n. n < 512) → IsShort rack old new member
short rack old new member None told none small =
    inr (told_by IsEmpty (λ all. length all < 512) (rack.bytes old member) (rack.bytes new member) (none refl) empty)
short rack old new member (Some size) told none small = elim small [
  | inl e ↦ absurd (absurd_some e)
  | inr low ↦ inr (told_by (Measures size) (λ all. length all < 512) (rack.bytes old member) (rack.bytes new member) told (λ x y m. omega (arith, measured size x y m, low)))
]
  where
    absurd_some : Some size ≡ None → ⊥
    absurd_some e = cc

-- ---- its first bytes

pub head_range : (told : Option (List ℕ)) (size n : ℕ) → IfSome told (λ all. length all ≡ size) → 512 ≤ size → n ≡ 512 → IfSome told (λ all. 0 + n ≤ length all)
head_range told size n size_is room is = if_some (λ all. length all ≡ size) (λ all. 0 + n ≤ length all) told size_is (λ all e. omega (arith, e))

head_is : (head x y : List ℕ) → length head ≡ 512 → Reads 0 head x y → head ≡ take 512 y
head_is head x y size reads = reads.there ∙ front_is (length head) x ∙ ap (λ (n : ℕ). take n x) size ∙ ap (λ (xs : List ℕ). take 512 xs) (sym reads.same)

pub has_head : {R : Type 0} (rack : Ghosts R) (old new : R) (member size : ℕ) (head : List ℕ) → IsAttached rack old member size
    → Told IsSame (rack.bytes old member) (rack.bytes new member) → Told (Reads 0 head) (rack.bytes old member) (rack.bytes new member)
    → length head ≡ 512 → rack.stands new member ≡ true → HasHead rack new member size head
has_head rack old new member size head attached same reads length_is stands = record {
  stands = stands;
  size_is = told_on (λ all. length all ≡ size) (rack.bytes old member) (rack.bytes new member) same attached.size_is;
  begins = told_by (Reads 0 head) (λ all. head ≡ take 512 all) (rack.bytes old member) (rack.bytes new member) reads (λ x y r. head_is head x y length_is r);
}

-- ---- its label

-- the array of a label that was seen has a shape
pub seen_shape : {R : Type 0} (rack : Ghosts R) (old new : R) (member : ℕ) (found : Option Label) → IsSeen rack old new member found
    → IfSome found (λ label. IsShape label.shape)
seen_shape rack old new member None seen = tt
seen_shape rack old new member (Some label) seen = seen.is.shape

-- a bit by a member's length tells whether it is as long as format 2 says
pub is_measured : {R : Type 0} (rack : Ghosts R) (now : R) (member size : ℕ) (long : Bool) (found : Option Label)
    → (IsSome found → IsAsLong rack now member size) → IfSome found (λ label. long ≡ (size == member_length 2 label.shape))
    → IfSome found (IsMeasured rack now member long)
is_measured rack now member size long None sized is = tt
is_measured rack now member size long (Some label) sized is =
    if_some (λ all. length all ≡ size) (λ all. long ≡ (length all == member_length 2 label.shape)) (rack.bytes now member) (sized refl)
    (λ all same. is ∙ ap (λ (n : ℕ). n == member_length 2 label.shape) (sym same))

pub seen_short : {R : Type 0} (rack : Ghosts R) (old new : R) (member : ℕ) → IsShort rack old new member → IsSeen rack old new member None
seen_short rack old new member is = elim is [
  | inl failed ↦ inl failed
  | inr small ↦ inr (if_some (λ all. length all < 512) _ (rack.bytes new member) small
      (λ all low label own. let n = ap length own.begins.bytes in too_short all low (n ∙ label_size label)))
]
  where
    too_short : (all : List ℕ) → length all < 512 → length (take 512 all) ≡ 512 → ⊥
    too_short all low n = omega (arith, n, length-take 512 all)

pub seen_of : {R : Type 0} (rack : Ghosts R) (old new : R) (member size : ℕ) (head : List ℕ) (result : Option Label) → HasHead rack new member size head
    → MatchOption result (IsNoLabel member size head) (IsOwnLabel member size head) → IsSeen rack old new member result
seen_of rack old new member size head None has none = inr (if_both (λ all. length all ≡ size) (λ all. head ≡ take 512 all) _ (rack.bytes new member) has.size_is has.begins
    (λ all size_is begins label own. none label own.begins.is (begins ∙ own.begins.bytes) (record {
      boundary = own.boundary;
      side = own.side;
      size_is = subst (λ (n : ℕ). HasLength label n) size_is own.size;
    })))
seen_of rack old new member size head (Some label) has own = record {
  is = own.is;
  boundary = own.own.boundary;
  side = own.own.side;
  own = if_both (λ all. length all ≡ size) (λ all. head ≡ take 512 all) (λ all. HasOwnLabel member all (label_of label)) (rack.bytes new member) has.size_is has.begins
      (λ all size_is begins. record {
        begins = record { is = own.is; bytes = sym begins ∙ own.says };
        boundary = own.own.boundary;
        side = own.own.side;
        size = subst (λ (n : ℕ). HasLength (label_of label) n) (sym size_is) own.own.size_is;
      });
}
