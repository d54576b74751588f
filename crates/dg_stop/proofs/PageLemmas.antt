-- Writes of a part of a page.
use Rattle.std.proofs.Common.{◌≡◌, ◌≤◌, ◌+◌, ◌-◌, ◌*◌, ℕ, Bool, List, length, take, drop, sym, ◌∙◌, ap, arith, subst}
use Rattle.std.proofs.lemmas.List.{drop-drop}
use Rattle.std.proofs.lemmas.Grind.{common_steps}
use Rattle.std.specs.Prelude.{Option, Some, None, IfSome, OnErr, OnOk, Result, Ok, Err}
use Rattle.dg_io.specs.Told.{Told, Torn, Patched, IsSame}
use Rattle.dg_stop.proofs.Avoiding.{low_place}
use Rattle.dg_stop.proofs.Ranges.{patch_torn}
use Rattle.dg_stop.specs.Layouts.{page_place}

take_take : (m n : ℕ) (xs : List ℕ) → m ≤ n → take m (take n xs) ≡ take m xs
take_take m n xs h = grind (arith, common_steps)

-- what changed a range alone changed no more than a wider one
pub torn_wider : (place n wide m : ℕ) (before after : List ℕ) → wide ≤ place → place + n ≤ wide + m → Torn place n before after → Torn wide m before after
torn_wider place n wide m before after front back torn =
    let e : (place + n) + (wide + m - (place + n)) ≡ wide + m = omega arith in
    let from : (xs : List ℕ) → drop (wide + m) xs ≡ drop (wide + m - (place + n)) (drop (place + n) xs) = λ (xs : List ℕ). ap (λ (k : ℕ). drop k xs) (sym e) ∙ sym (drop-drop (wide + m - (place + n)) (place + n) xs) in
    record {
      size = torn.size;
      front = sym (take_take wide place after front) ∙ ap (λ (l : List ℕ). take wide l) torn.front ∙ take_take wide place before front;
      back = from after ∙ ap (λ (l : List ℕ). drop (wide + m - (place + n)) l) torn.back ∙ sym (from before);
    }

-- a write of a part, done or not
pub part_torn : {T E : Type 0} (r : Result T E) (table page : ℕ) (second : Bool) (k : ℕ) (piece : List ℕ) (x y : Option (List ℕ)) → k + length piece ≤ 512
    → IfSome x (λ all. 1024 + 2 * table + 1024 * (page + 1) ≤ length all)
    → OnOk r (Told (Patched (page_place table page second + k) piece) x y) → OnErr r (Told (Torn (page_place table page second + k) (length piece)) x y)
    → Told (Torn (page_place table page second) 512) x y
part_torn r table page second k piece x None fits long done torn = tt
part_torn (Ok t) table page second k piece None (Some a) fits long done torn = absurd done
part_torn (Err e) table page second k piece None (Some a) fits long done torn = absurd torn
part_torn (Ok t) table page second k piece (Some b) (Some a) fits long done torn =
    torn_wider (page_place table page second + k) (length piece) (page_place table page second) 512 b a (omega arith) (omega (arith, fits))
    (subst (λ (l : List ℕ). Torn (page_place table page second + k) (length piece) b l) (sym done)
    (patch_torn b (page_place table page second + k) piece (omega (arith, fits, long, low_place second))))
part_torn (Err e) table page second k piece (Some b) (Some a) fits long done torn =
    torn_wider (page_place table page second + k) (length piece) (page_place table page second) 512 b a (omega arith) (omega (arith, fits)) torn

pub inside_page : (table page : ℕ) (second : Bool) (k n : ℕ) (x : Option (List ℕ)) → k + n ≤ 512
    → IfSome x (λ all. 1024 + 2 * table + 1024 * (page + 1) ≤ length all) → IfSome x (λ all. page_place table page second + k + n ≤ length all)
inside_page table page second k n None fits long = tt
inside_page table page second k n (Some all) fits long = omega (arith, fits, long, low_place second)

pub same_torn : (place n : ℕ) (x y : Option (List ℕ)) → Told IsSame x y → Told (Torn place n) x y
same_torn place n x None same = tt
same_torn place n None (Some a) same = absurd same
same_torn place n (Some b) (Some a) same = record { size = ap (λ (l : List ℕ). length l) same; front = ap (take place) same; back = ap (drop (place + n)) same }
