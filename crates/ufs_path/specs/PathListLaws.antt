-- How what a receiver of paths takes goes on from some entries to the next.
use Rattle.std.proofs.Common.{◌≡◌, ◌∙◌, ◌+◌, ◌++◌, ℕ, Bool, true, false, List, [], ◌∷◌, inl, inr, refl, sym, ap, subst}
use Rattle.std.specs.Prelude.{length}
use Rattle.std.proofs.lemmas.List.{append_assoc, length-append}
use Rattle.std.proofs.Math.Nat.{add_assoc, add-zero}
use Rattle.dg_model.specs.Paths.{PathOf, names_to}
use Rattle.ufs_model.specs.Listings.{Listed}
use Rattle.ufs_path.specs.PathLists.{HandedFrom, HasNames, TookMarked, TookMarkedPart, is_marked_file, marked_from, names_after, put_path}
use Rattle.ufs_path.specs.declared.marked_paths.MarkedPaths.{MarkedPaths}

-- ---- entries, and then others

put_both : (put : Bool) (inode : ℕ) (names : List (List ℕ)) (x y : List PathOf) → put_path put inode names (x ++ y) ≡ put_path put inode names x ++ y
put_both true inode names x y = refl
put_both false inode names x y = refl

pub names_both : (before : List (List ℕ)) (x y : List Listed) → names_after before (x ++ y) ≡ names_after (names_after before x) y
names_both before [] y = refl
names_both before (entry ∷ x) y = names_both (names_to before entry) x y

pub from_both : (marks : List Bool) (before : List (List ℕ)) (x y : List Listed)
    → marked_from marks before (x ++ y) ≡ marked_from marks before x ++ marked_from marks (names_after before x) y
from_both marks before [] y = refl
from_both marks before (entry ∷ x) y =
    let put = is_marked_file marks entry.kind entry.inode in
    let here = names_to before entry in
    ap (put_path put entry.inode here) (from_both marks here x y)
    ∙ put_both put entry.inode here (marked_from marks here x) (marked_from marks (names_after here x) y)

count_both : {A : Type 0} (a b c : ℕ) (x y whole : List A) → whole ≡ x ++ y → b ≡ a + length x → c ≡ b + length y → c ≡ a + length whole
count_both a b c x y whole is first second =
    second ∙ ap (λ k. k + length y) first ∙ add_assoc a (length x) (length y) ∙ ap (λ k. a + k) (sym (length-append x y)) ∙ ap (λ l. a + length l) (sym is)

-- ---- the laws of a receiver

module _ {O : Type 0} (took took_part : O → List PathOf → O → Type 0) (faults : O → ℕ) where
  pub took_none : ((s : O) → took s [] s) → (s : MarkedPaths O) → TookMarked took took_part faults s [] s
  took_none nothing s = record {
    marks = refl;
    same = refl;
    wants = refl;
    kept = refl;
    handed = λ names has. record { names_are = has; took_all = nothing s.out.now; given = sym (add-zero s.given) };
  }

  handed_both : ((a b c : O) (x y : List PathOf) → took a x b → took b y c → took a (x ++ y) c) → (a b c : MarkedPaths O) (x y : List Listed) (names : List (List ℕ))
      → b.marks ≡ a.marks → HandedFrom took took_part faults a b names x → HandedFrom took took_part faults b c (names_after names x) y
      → HandedFrom took took_part faults a c names (x ++ y)
  handed_both then a b c x y names marks one two =
      let there = names_after names x in
      let first = marked_from a.marks.now names x in
      let second = marked_from a.marks.now there y in
      let second_is : marked_from b.marks.now there y ≡ second = ap (λ m. marked_from m.now there y) marks in
      let whole_is : marked_from a.marks.now names (x ++ y) ≡ first ++ second = from_both a.marks.now names x y in record {
        names_are = subst (λ (n : List (List ℕ)). HasNames c.names.now n) (sym (names_both names x y)) two.names_are;
        took_all = subst (λ (l : List PathOf). took a.out.now l c.out.now) (sym whole_is)
            (then a.out.now b.out.now c.out.now first second one.took_all (subst (λ (l : List PathOf). took b.out.now l c.out.now) second_is two.took_all));
        given = count_both a.given b.given c.given first second (marked_from a.marks.now names (x ++ y)) whole_is one.given (two.given ∙ ap (λ l. b.given + length l) second_is);
      }

  pub took_both : ((a b c : O) (x y : List PathOf) → took a x b → took b y c → took a (x ++ y) c) → (a b c : MarkedPaths O) (x y : List Listed)
      → TookMarked took took_part faults a x b → TookMarked took took_part faults b y c → TookMarked took took_part faults a (x ++ y) c
  took_both then a b c x y first second = record {
    marks = second.marks ∙ first.marks;
    same = second.same ∙ first.same;
    wants = second.wants ∙ first.wants;
    kept = second.kept ∙ first.kept;
    handed = λ names has.
        let one = first.handed names has in
        handed_both then a b c x y names first.marks one (second.handed (names_after names x) one.names_are);
  }

  -- what the marked ones among the first entries and then others gave
  front_both : ((a b c : O) (x y : List PathOf) → took a x b → took b y c → took a (x ++ y) c) → (a b : MarkedPaths O) (c : O) (x y : List Listed) (names : List (List ℕ))
      → b.marks ≡ a.marks → took a.out.now (marked_from a.marks.now names x) b.out.now → took b.out.now (marked_from b.marks.now (names_after names x) y) c
      → took a.out.now (marked_from a.marks.now names (x ++ y)) c
  front_both then a b c x y names marks one two =
      let there = names_after names x in
      subst (λ (l : List PathOf). took a.out.now l c) (sym (from_both a.marks.now names x y))
      (then a.out.now b.out.now c (marked_from a.marks.now names x) (marked_from a.marks.now there y) one
      (subst (λ (l : List PathOf). took b.out.now l c) (ap (λ m. marked_from m.now there y) marks) two))

  part_both : ((a b c : O) (x y : List PathOf) → took a x b → took_part b y c → took_part a (x ++ y) c) → (a b : MarkedPaths O) (c : O) (x y : List Listed) (names : List (List ℕ))
      → b.marks ≡ a.marks → took a.out.now (marked_from a.marks.now names x) b.out.now → took_part b.out.now (marked_from b.marks.now (names_after names x) y) c
      → took_part a.out.now (marked_from a.marks.now names (x ++ y)) c
  part_both then_part a b c x y names marks one two =
      let there = names_after names x in
      subst (λ (l : List PathOf). took_part a.out.now l c) (sym (from_both a.marks.now names x y))
      (then_part a.out.now b.out.now c (marked_from a.marks.now names x) (marked_from a.marks.now there y) one
      (subst (λ (l : List PathOf). took_part b.out.now l c) (ap (λ m. marked_from m.now there y) marks) two))

  pub took_part_behind : ((a b c : O) (x y : List PathOf) → took a x b → took b y c → took a (x ++ y) c)
      → ((a b c : O) (x y : List PathOf) → took a x b → took_part b y c → took_part a (x ++ y) c) → (a b c : MarkedPaths O) (x y : List Listed)
      → TookMarked took took_part faults a x b → TookMarkedPart took took_part faults b y c → TookMarkedPart took took_part faults a (x ++ y) c
  took_part_behind then then_part a b c x y first second = record {
    marks = second.marks ∙ first.marks;
    same = second.same ∙ first.same;
    broke = λ names has.
        let one = first.handed names has in
        elim (second.broke (names_after names x) one.names_are) [
          | inl failed ↦ inl (record {
            wants = failed.wants ∙ first.wants;
            took_some = part_both then_part a b c.out.now x y names first.marks one.took_all failed.took_some;
          })
          | inr wanted ↦ inr (record {
            some = wanted.some;
            kept = wanted.kept ∙ first.kept;
            front = x ++ wanted.front;
            rest = wanted.rest;
            split = ap (λ (l : List Listed). x ++ l) wanted.split ∙ sym (append_assoc x wanted.front wanted.rest);
            took_front = front_both then a b c.out.now x wanted.front names first.marks one.took_all wanted.took_front;
          })
        ];
  }

  pub took_part_more : ((a b : O) (x y : List PathOf) → took_part a x b → took_part a (x ++ y) b) → (a b : MarkedPaths O) (x y : List Listed)
      → TookMarkedPart took took_part faults a x b → TookMarkedPart took took_part faults a (x ++ y) b
  took_part_more part a b x y first = record {
    marks = first.marks;
    same = first.same;
    broke = λ names has.
        elim (first.broke names has) [
          | inl failed ↦ inl (record {
            wants = failed.wants;
            took_some = subst (λ (l : List PathOf). took_part a.out.now l b.out.now) (sym (from_both a.marks.now names x y))
                (part a.out.now b.out.now (marked_from a.marks.now names x) (marked_from a.marks.now (names_after names x) y) failed.took_some);
          })
          | inr wanted ↦ inr (record {
            some = wanted.some;
            kept = wanted.kept;
            front = wanted.front;
            rest = wanted.rest ++ y;
            split = ap (λ (l : List Listed). l ++ y) wanted.split ∙ append_assoc wanted.front wanted.rest y;
            took_front = wanted.took_front;
          })
        ];
  }
