-- How many calls on the rack copies make.
use Rattle.std.proofs.Common.{◌≡◌, ◌<◌, ◌≤◌, ◌+◌, ◌*◌, ◌==◌, ℕ, suc, cond, List, [], ◌∷◌, length, get_or, take, inl, inr, refl, sym, ◌∙◌, ap, arith}
use Rattle.std.specs.Global.{Vec}
use Rattle.std.specs.Prelude.{map}
use Rattle.std.specs.List.{Contains}
use Rattle.std.proofs.Math.Nat.{mul-add, mul-le-mul_left}
use Rattle.std.proofs.lemmas.Bool.{cases_eq}
use Rattle.std.proofs.lemmas.List.{length-map}
use Rattle.std.proofs.lemmas.List.Sums.{sum_by_more}
use Rattle.dg_io.specs.declared.outside.Rack.{Ghosts}
use Rattle.dg_model.specs.Moves.{sum_upto}
use Rattle.dg_model.specs.Tables.{IsTable, Table, count_on, sites_in}
use Rattle.dg_model.specs.declared.shapes.Shape.{Shape}
use Rattle.dg_model.specs.declared.sites.Site.{Site}
use Rattle.dg_model.proofs.SiteLists.{apart_test, count_on-cons, one_if, same_test, zero_if}
use Rattle.dg_model.proofs.SumLaws.{count_pos, sum_both, sum_le_most, sum_same}
use Rattle.dg_store.specs.Leaves.{CallsAtMost}
use Rattle.dg_store.specs.Stores.{rack_of, shape_of, table_of}
use Rattle.dg_store.specs.declared.store.Store.{Store}
use Rattle.dg_hot.specs.Spreads.{copy_calls, count_in, lists_in}

-- a list has no more sites than it has on all boundaries
few_sites : (n : ℕ) (sites : List Site) → ((x : Site) → Contains sites x → x.boundary < n) → length sites ≤ sum_upto n (λ s. count_on s sites)
few_sites n [] within = omega arith
few_sites n (x ∷ xs) within =
    omega (
      arith,
      sum_same (λ s. count_on s (x ∷ xs)) (λ s. cond (x.boundary == s) 1 0 + count_on s xs) n (λ s low. count_on-cons s x xs),
      sum_both (λ s. cond (x.boundary == s) 1 0) (λ s. count_on s xs) n,
      count_pos n x.boundary (λ s. x.boundary == s) (within x (0, omega arith, refl)) (same_test x.boundary x.boundary refl),
      few_sites n xs (λ y there. within y (suc there.0, (let a = there.1 in omega arith), there.2)),
    )

-- a block that isn't on a boundary has a site on each other one at most
sites_left : (table : Table) (b s : ℕ) → IsTable table → s < table.shape.b → count_on s (sites_in table b) ≡ 0 → length (sites_in table b) + 1 ≤ table.shape.b
sites_left table b s ok below none =
    let sites = sites_in table b in
    let n = table.shape.b in
    omega (
      arith,
      few_sites n sites (λ x there. ok.boundaries b x.boundary x.slot there),
      sum_both (λ t. count_on t sites) (λ t. cond (s == t) 1 0) n,
      count_pos n s (λ t. s == t) below (same_test s s refl),
      sum_le_most (λ t. count_on t sites + cond (s == t) 1 0) n 1 (λ t low. elim (cases_eq s t) [
        | inl at ↦ omega (arith, one_if (s == t) (same_test s t at), ap (λ (k : ℕ). count_on k sites) at, none)
        | inr apart ↦ omega (arith, zero_if (s == t) (apart_test s t apart), ok.one_site b t)
      ]),
    )

-- one copy makes no more calls than a read of all these sites, and a write
pub one_copy : (table : Table) (b s : ℕ) → IsTable table → s < table.shape.b → count_on s (sites_in table b) ≡ 0
    → 2 * length (sites_in table b) + 2 ≤ copy_calls table 1
one_copy table b s ok below none = omega (arith, sites_left table b s ok below none)

copies_both : (table : Table) (k m n : ℕ) → n ≡ k + m → copy_calls table n ≡ copy_calls table k + copy_calls table m
copies_both table k m n sum = ap (λ (x : ℕ). copy_calls table x) sum ∙ mul-add (2 * table.shape.b) k m

-- there is a list for each file
pub as_many : (blocks : ℕ → List ℕ) (files : List ℕ) (lists : List (Vec ℕ)) → lists_in lists ≡ map blocks files → length lists ≡ length files
as_many blocks files lists listed =
    let size = ap length listed in
    omega (arith, size, length-map lists (λ (v : Vec ℕ). v.items), length-map files blocks)

module _ {R : Type 0} (rack : Ghosts R) where
  pub calls_none : (a b : Store R) (n : ℕ) → rack_of b ≡ rack_of a → CallsAtMost rack a b n
  calls_none a b n same = let e = ap (λ (r : R). (rack.counts r).calls) same in omega (arith, e)

  pub calls_same : (a b c : Store R) (n : ℕ) → CallsAtMost rack a b n → rack_of c ≡ rack_of b → CallsAtMost rack a c n
  calls_same a b c n most same = let e = ap (λ (r : R). (rack.counts r).calls) same in omega (arith, e, most)

  pub calls_both : (a b c : Store R) (k m n : ℕ) → n ≡ k + m → shape_of b ≡ shape_of a → CallsAtMost rack a b (copy_calls (table_of a) k)
      → CallsAtMost rack b c (copy_calls (table_of b) m) → CallsAtMost rack a c (copy_calls (table_of a) n)
  calls_both a b c k m n sum shape first second =
      let same : copy_calls (table_of b) m ≡ copy_calls (table_of a) m = ap (λ (s : Shape). 2 * s.b * m) shape in
      omega (arith, first, second, same, copies_both (table_of a) k m n sum)

  pub calls_within : (a c : Store R) (k n : ℕ) → k ≤ n → CallsAtMost rack a c (copy_calls (table_of a) k) → CallsAtMost rack a c (copy_calls (table_of a) n)
  calls_within a c k n less most =
      let more : copy_calls (table_of a) k ≤ copy_calls (table_of a) n = mul-le-mul_left (2 * (table_of a).shape.b) less in
      omega (arith, most, more)

  -- one list more was copied, or not
  pub calls_next : (lists : List (Vec ℕ)) (k : ℕ) (list : Vec ℕ) (own : List ℕ) (a b c : Store R) → k < length lists → list ≡ get_or lists k list
      → own ≡ list.items → shape_of b ≡ shape_of a → CallsAtMost rack a b (copy_calls (table_of a) (count_in (take k lists)))
      → CallsAtMost rack b c (copy_calls (table_of b) (length own)) → CallsAtMost rack a c (copy_calls (table_of a) (count_in (take (k + 1) lists)))
  calls_next lists k list own a b c low at is shape first second =
      let sum = sum_by_more (λ (v : Vec ℕ). length v.items) lists k list low in
      let here : length (get_or lists k list).items ≡ length own = ap (λ (v : Vec ℕ). length v.items) (sym at) ∙ sym (ap length is) in
      calls_both a b c (count_in (take k lists)) (length own) (count_in (take (k + 1) lists)) (omega (arith, sum, here)) shape first second
