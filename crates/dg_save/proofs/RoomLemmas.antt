-- The body of a state has room: a block takes two bytes and five a site, and there are no more sites than slots.
use Rattle.std.proofs.Common.{◌≡◌, ◌+◌, ◌*◌, ◌≤◌, ℕ, Bool, List, [], ◌∷◌, length, get_or, refl, sym, ◌∙◌, ap, arith, inl, inr}
use Rattle.std.specs.Prelude.{flat_map}
use Rattle.std.specs.List.{sum_by, zip}
use Rattle.std.proofs.lemmas.List.{length-append}
use Rattle.std.proofs.lemmas.List.Concat.{flat_map-cons}
use Rattle.std.proofs.lemmas.List.Sums.{sum_by-cons}
use Rattle.byteorder.specs.Endian.{little_bytes}
use Rattle.dg_model.specs.Moves.{sum_upto}
use Rattle.dg_model.specs.Saves.{HasForm, SavedState, body_of, home_bytes, homes_bytes, room_of, site_bytes}
use Rattle.dg_model.specs.Tables.{IsTable, Table, count_on}
use Rattle.dg_model.specs.declared.homes.Home.{Home}
use Rattle.dg_model.specs.declared.sites.Site.{Site}
use Rattle.dg_model.proofs.SumLaws.{sum_le, sum_le_most, sum_places, sum_swap}
use Rattle.dg_save.specs.Parts.{blocks_bytes, bytes_of_block, good_bytes, numbers_bytes, rest_bytes}
use Rattle.dg_save.proofs.BodyLemmas.{body_parts, from_blocks, from_homes, from_rest}
use Rattle.dg_save.proofs.FormLemmas.{boundary_below, few_copies, parts_of_form, row_total}

-- each value takes so many bytes
even_length : {X : Type 0} (f : X → List ℕ) (n : ℕ) (xs : List X) → ((x : X) → length (f x) ≡ n) → length (flat_map f xs) ≡ n * length xs
even_length f n [] each = omega arith
even_length f n (x ∷ xs) each =
    omega (arith, ap length (flat_map-cons f x xs), length-append (f x) (flat_map f xs), each x, even_length f n xs each)

blocks_length : (rows : List (List Site)) (marks : List Bool) → length rows ≡ length marks
    → length (blocks_bytes (rows, marks)) ≡ 2 * length rows + 5 * sum_by length rows
blocks_length [] [] e = omega arith
blocks_length [] (m ∷ ms) e = absurd (omega (arith, e))
blocks_length (r ∷ rs) [] e = absurd (omega (arith, e))
blocks_length (r ∷ rs) (m ∷ ms) e =
    let one : length (bytes_of_block (r, m)) ≡ 2 + 5 * length r = omega (arith, even_length site_bytes 5 r (λ x. refl)) in
    omega (
      arith,
      ap length (flat_map-cons bytes_of_block (r, m) (zip rs ms)),
      length-append (bytes_of_block (r, m)) (blocks_bytes (rs, ms)),
      one,
      sum_by-cons {X = List Site} length r rs,
      blocks_length rs ms (omega (arith, e)),
    )

-- there are no more sites than slots
sites_total : (table : Table) → IsTable table → sum_by length table.rows ≤ table.shape.b * (table.shape.k + 1)
sites_total table is =
    omega (
      arith,
      sum_places {X = List Site} length table.rows [],
      sum_le (λ i. length (get_or table.rows i [])) (λ i. sum_upto table.shape.b (λ s. count_on s (get_or table.rows i []))) (length table.rows)
          (λ i low. row_total table.shape.b (get_or table.rows i []) (boundary_below table i is)),
      sum_swap (λ i s. count_on s (get_or table.rows i [])) (length table.rows) table.shape.b,
      sum_le_most (λ s. sum_upto (length table.rows) (λ i. count_on s (get_or table.rows i []))) table.shape.b (table.shape.k + 1)
          (λ s low. omega (arith, sum_places (count_on s) table.rows [], is.used s)),
    )

homes_length : (homes : List Home) → length (homes_bytes homes) ≡ 4 + 5 * length homes
homes_length homes = omega (arith, length-append (little_bytes 4 (length homes)) (flat_map home_bytes homes), even_length home_bytes 5 homes (λ x. refl))

numbers_length : (numbers : List ℕ) → length (numbers_bytes numbers) ≡ 1 + 4 * length numbers
numbers_length numbers = omega (arith, even_length (little_bytes 4) 4 numbers (λ x. refl))

rest_length : (saved : SavedState) → length (rest_bytes 2 (saved.copies, saved.recent)) ≡ 5 + 5 * length saved.copies + 4 * length saved.recent
rest_length saved =
    omega (arith, length-append (homes_bytes saved.copies) (numbers_bytes saved.recent), homes_length saved.copies, numbers_length saved.recent)

front_length : (format : ℕ) (saved : SavedState) → HasForm format saved
    → length (body_of format saved) ≤ 8 + 2 * saved.table.shape.b + 7 * saved.table.shape.n + 5 * (saved.table.shape.b * (saved.table.shape.k + 1))
    + length (rest_bytes format (saved.copies, saved.recent))
front_length format saved form =
    let has = parts_of_form format saved.table.shape saved refl form in
    let whole = ap length (body_parts format saved.table.shape saved form.formats has) in
    let rest = length-append (rest_bytes format (saved.copies, saved.recent)) [] in
    let good : length (flat_map good_bytes saved.good) ≡ length saved.good = omega (arith, even_length good_bytes 1 saved.good (λ x. refl)) in
    omega (
      arith,
      whole,
      length-append (flat_map good_bytes saved.good) (from_blocks format saved),
      length-append (blocks_bytes (saved.table.rows, saved.pending)) (from_homes format saved),
      length-append (homes_bytes saved.homes) (from_rest format saved),
      rest,
      good,
      form.can.members,
      blocks_length saved.table.rows saved.pending (form.can.table.size ∙ sym form.can.marks),
      form.can.table.size,
      sites_total saved.table form.can.table,
      homes_length saved.homes,
      form.can.few_homes,
    )

pub room_enough : (format : ℕ) (saved : SavedState) → HasForm format saved → length (body_of format saved) ≤ room_of format saved.table.shape
room_enough format saved form = elim form.formats [
  | inl one ↦
      let front = front_length format saved form in
      let none : length (rest_bytes format (saved.copies, saved.recent)) ≡ 0 = ap (λ (f : ℕ). length (rest_bytes f (saved.copies, saved.recent))) one in
      let room : room_of format saved.table.shape ≡ room_of 1 saved.table.shape = ap (λ (f : ℕ). room_of f saved.table.shape) one in
      omega (arith, front, none, room)
  | inr two ↦
      let front = front_length format saved form in
      let rest : length (rest_bytes format (saved.copies, saved.recent)) ≡ 5 + 5 * length saved.copies + 4 * length saved.recent =
      ap (λ (f : ℕ). length (rest_bytes f (saved.copies, saved.recent))) two ∙ rest_length saved in
      let room : room_of format saved.table.shape ≡ room_of 2 saved.table.shape = ap (λ (f : ℕ). room_of f saved.table.shape) two in
      omega (arith, front, rest, room, few_copies saved form.can, form.can.few_homes, form.can.few_recent)
]
