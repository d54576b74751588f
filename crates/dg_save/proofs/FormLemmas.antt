-- What a state that can be saved has: a block has few sites, there are no more copies than homes, and each number fits its bytes.
use Rattle.std.proofs.Common.{◌≡◌, ◌≢◌, ◌+◌, ◌<◌, ◌≤◌, ◌==◌, ℕ, zero, suc, true, cond, List, [], ◌∷◌, length, get_or, map, refl, sym, ◌∙◌, ap, arith, subst, inl, inr}
use Rattle.std.specs.Prelude.{Some}
use Rattle.std.specs.Bool.{one_answer}
use Rattle.std.specs.Cmp.{IsEquivalence}
use Rattle.std.specs.List.{All, AllPairs, Contains}
use Rattle.std.specs.Set.{is_member}
use Rattle.std.proofs.lemmas.Bool.{cases_Bool}
use Rattle.std.proofs.lemmas.Bool.Decides.{Decides-eqb}
use Rattle.std.proofs.lemmas.List.{get_or_default, length-map}
use Rattle.std.proofs.lemmas.List.Kept.{AllPairs-from_increasing}
use Rattle.std.proofs.lemmas.Map.Made.{IsDistinct-from_AllPairs, is_member-Decides, length-le_from_is_member}
use Rattle.dg_model.specs.Homes.{Ascend, home_of}
use Rattle.dg_model.specs.Moves.{sum_upto}
use Rattle.dg_model.specs.Saves.{AreHomes, CanBeSaved, HasForm, SavedState}
use Rattle.dg_model.specs.Shapes.{IsShape}
use Rattle.dg_model.specs.Tables.{IsTable, Table, count_on, sites_in}
use Rattle.dg_model.specs.declared.homes.Home.{Home}
use Rattle.dg_model.specs.declared.shapes.Shape.{Shape}
use Rattle.dg_model.specs.declared.sites.Site.{Site}
use Rattle.dg_model.proofs.SiteLists.{count_on-cons, one_if, same_test}
use Rattle.dg_model.proofs.SumLaws.{sum_both, sum_le_most, sum_same, term_le}
use Rattle.dg_save.specs.Decodes.{HasParts}
use Rattle.dg_save.specs.Parts.{FitHomes, FitSites, IsSpelled}

-- ---- the sites of a block

-- a list has no more sites than it has on all boundaries
pub row_total : (n : ℕ) (sites : List Site) → All (λ x. x.boundary < n) sites → length sites ≤ sum_upto n (λ s. count_on s sites)
row_total n [] each = omega arith
row_total n (x ∷ xs) each =
    let here : x.boundary < n = each 0 x (omega arith) in
    omega (
      arith,
      sum_same (λ s. count_on s (x ∷ xs)) (λ s. cond (x.boundary == s) 1 0 + count_on s xs) n (λ s low. count_on-cons s x xs),
      sum_both (λ s. cond (x.boundary == s) 1 0) (λ s. count_on s xs) n,
      term_le (λ s. cond (x.boundary == s) 1 0) n x.boundary here,
      one_if (x.boundary == x.boundary) (same_test x.boundary x.boundary refl),
      row_total n xs (λ k d low. each (suc k) d (omega (arith, low))),
    )

pub row_contains : (sites : List Site) (k : ℕ) (d : Site) → k < length sites → Contains sites (get_or sites k d)
row_contains sites k d low = (k, low, get_or_default sites k (get_or sites k d) d low)

pub boundary_below : (table : Table) (b : ℕ) → IsTable table → All (λ x. x.boundary < table.shape.b) (sites_in table b)
boundary_below table b is k d low =
    let x = get_or (sites_in table b) k d in
    is.boundaries b x.boundary x.slot (row_contains (sites_in table b) k d low)

slot_below : (table : Table) (b : ℕ) → IsTable table → All (λ x. x.slot ≤ table.shape.k) (sites_in table b)
slot_below table b is k d low =
    let x = get_or (sites_in table b) k d in
    is.slots b x.boundary x.slot (row_contains (sites_in table b) k d low)

row_short : (table : Table) (b : ℕ) → IsTable table → length (sites_in table b) ≤ table.shape.b
row_short table b is =
    omega (
      arith,
      row_total table.shape.b (sites_in table b) (boundary_below table b is),
      sum_le_most (λ s. count_on s (sites_in table b)) table.shape.b 1 (λ s low. is.one_site b s),
    )

row_fits : (table : Table) (b : ℕ) → IsTable table → FitSites (sites_in table b)
row_fits table b is = record {
  short = omega (arith, row_short table b is, is.shape.most_boundaries);
  each = λ k d low. (
    omega (arith, boundary_below table b is k d low, is.shape.most_boundaries),
    omega (arith, slot_below table b is k d low, is.shape.most_slots),
  );
}

rows_fit : (table : Table) → IsTable table → All FitSites table.rows
rows_fit table is b d low = subst FitSites (get_or_default table.rows b [] d low) (row_fits table b is)

-- ---- homes

same_number : IsEquivalence ◌==◌
same_number = record {
  refl = λ x. (Decides-eqb x x).1 refl;
  symm = λ x y. one_answer (x == y) (y == x) (Decides-eqb x y) ((λ h. sym ((Decides-eqb y x).0 h)), (λ h. (Decides-eqb y x).1 (sym h)));
  congr = λ x y z h. ap (λ (v : ℕ). v == z) ((Decides-eqb x y).0 h);
}

-- the inode of a home in the list has one
pub home_from : (homes : List Home) (i k : ℕ) → k < length homes → get_or (map (λ (h : Home). h.inode) homes) k 0 ≡ i → (t : ℕ) × (home_of homes i ≡ Some t)
home_from [] i k low e = absurd (omega (arith, low))
home_from (h ∷ hs) i zero low e = (h.boundary, ap (λ b. cond b (Some h.boundary) (home_of hs i)) (same_test h.inode i e))
home_from (h ∷ hs) i (suc k) low e = elim (cases_Bool (h.inode == i)) [
  | inl same ↦ (h.boundary, ap (λ b. cond b (Some h.boundary) (home_of hs i)) same)
  | inr other ↦
      let rest = home_from hs i k (omega (arith, low)) e in
      (rest.0, ap (λ b. cond b (Some h.boundary) (home_of hs i)) other ∙ rest.1)
]

-- an inode with a home stands in the list
pub home_in : (homes : List Home) (i t : ℕ) → home_of homes i ≡ Some t → Contains (map (λ (h : Home). h.inode) homes) i
home_in [] i t e = absurd (cc e)
home_in (h ∷ hs) i t e = elim (cases_Bool (h.inode == i)) [
  | inl same ↦ (0, omega arith, (Decides-eqb h.inode i).0 same)
  | inr other ↦
      let rest = home_in hs i t (sym (ap (λ b. cond b (Some h.boundary) (home_of hs i)) other) ∙ e) in
      (suc rest.0, omega (arith, rest.1), rest.2)
]

pub inodes_differ : (homes : List Home) → Ascend homes → AllPairs (λ x y. x ≢ y) (map (λ (h : Home). h.inode) homes)
inodes_differ homes rise i j d before low e =
    let less = AllPairs-from_increasing (map (λ (h : Home). h.inode) homes) rise i j d before low in
    absurd (omega (arith, less, e))

pub few_copies : (saved : SavedState) → CanBeSaved saved → length saved.copies ≤ length saved.homes
few_copies saved can =
    let inodes = λ (homes : List Home). map (λ (h : Home). h.inode) homes in
    let within : (q : ℕ) → is_member ◌==◌ (inodes saved.copies) q ≡ true → is_member ◌==◌ (inodes saved.homes) q ≡ true =
    λ q there.
    let at = (is_member-Decides Decides-eqb (inodes saved.copies) q).0 there in
    let low : at.0 < length saved.copies = omega (arith, at.1, length-map saved.copies (λ (h : Home). h.inode)) in
    let copy = home_from saved.copies q at.0 low (get_or_default (inodes saved.copies) at.0 0 q at.1 ∙ at.2) in
    let home = can.elsewhere q copy.0 copy.1 in
    (is_member-Decides Decides-eqb (inodes saved.homes) q).1 (home_in saved.homes q home.0 home.1) in
    omega (
      arith,
      length-le_from_is_member same_number (inodes saved.copies) (inodes saved.homes)
          (IsDistinct-from_AllPairs Decides-eqb (inodes saved.copies) (inodes_differ saved.copies can.copies.0)) within,
      length-map saved.copies (λ (h : Home). h.inode),
      length-map saved.homes (λ (h : Home). h.inode),
    )

homes_fit : (shape : Shape) (homes : List Home) → IsShape shape → AreHomes shape homes → length homes ≤ shape.n → FitHomes homes
homes_fit shape homes is are few = record {
  short = omega (arith, few, is.most_blocks);
  each = λ k d low. ((are.1 k d low).0, omega (arith, (are.1 k d low).1, is.most_boundaries));
}

-- ---- the whole

pub spelled : (saved : SavedState) → CanBeSaved saved → IsSpelled saved.table.shape saved
spelled saved can = record {
  numbers = refl;
  members = can.members;
  blocks = can.table.size;
  sites = rows_fit saved.table can.table;
  marks = can.marks;
  homes = homes_fit saved.table.shape saved.homes can.table.shape can.homes can.few_homes;
  copies = homes_fit saved.table.shape saved.copies can.table.shape can.copies (omega (arith, few_copies saved can, can.few_homes));
  recent = record { short = omega (arith, can.few_recent); each = can.recent };
}

pub parts_of_form : (format : ℕ) (shape : Shape) (saved : SavedState) → saved.table.shape ≡ shape → HasForm format saved → HasParts format shape saved
parts_of_form format shape saved numbers form = record {
  spelled = subst (λ (s : Shape). IsSpelled s saved) numbers (spelled saved form.can);
  no_copies = form.no_copies;
  no_recent = form.no_recent;
}
