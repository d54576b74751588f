-- A table from which sites went is one.
use Rattle.std.proofs.Common.{◌≡◌, ◌∙◌, ℕ, suc, ◌+◌, ◌<◌, ◌≤◌, length, get_or, List, [], ◌∷◌, ◌++◌, sym, ap, subst, arith}
use Rattle.std.specs.Prelude.{Contains}
use Rattle.std.specs.List.{sum_by}
use Rattle.std.proofs.lemmas.List.Elements.{Contains-append_left}
use Rattle.std.proofs.lemmas.List.Sums.{sum_by-cons}
use Rattle.dg_model.specs.Shapes.{IsShape}
use Rattle.dg_model.specs.Tables.{IsTable, StandsIn, Table, count_on, sites_in, used_in}
use Rattle.dg_model.specs.declared.shapes.Shape.{Shape}
use Rattle.dg_model.specs.declared.sites.Site.{Site}
use Rattle.dg_model.proofs.PutLaws.{site_at}
use Rattle.dg_model.proofs.SiteLists.{count_on-append}

-- each block has a front of its sites
pub record IsThinned (old new : Table) : Type 0 where
  pub shape : new.shape ≡ old.shape
  pub rows : length new.rows ≡ length old.rows
  pub front : (b : ℕ) → (rest : List Site) × (sites_in old b ≡ sites_in new b ++ rest)

sums_le : (f : List Site → ℕ) (xs ys : List (List Site)) → length xs ≡ length ys → ((k : ℕ) → f (get_or xs k []) ≤ f (get_or ys k [])) → sum_by f xs ≤ sum_by f ys
sums_le f [] [] same below = omega arith
sums_le f [] (y ∷ ys) same below = absurd (omega (arith, same))
sums_le f (x ∷ xs) [] same below = absurd (omega (arith, same))
sums_le f (x ∷ xs) (y ∷ ys) same below = omega (arith, sum_by-cons f x xs, sum_by-cons f y ys, below 0, sums_le f xs ys (omega (arith, same)) (λ k. below (suc k)))

pub thinned_table : (old new : Table) → IsTable old → IsThinned old new → IsTable new
thinned_table old new ok thin = record {
  shape = subst IsShape (sym thin.shape) ok.shape;
  size = thin.rows ∙ ok.size ∙ ap (λ (s : Shape). s.n) (sym thin.shape);
  boundaries = λ b s slot h. subst (λ (sh : Shape). s < sh.b) (sym thin.shape) (ok.boundaries b s slot (stood b s slot h));
  slots = λ b s slot h. subst (λ (sh : Shape). slot ≤ sh.k) (sym thin.shape) (ok.slots b s slot (stood b s slot h));
  one_block = λ a b s slot g h. ok.one_block a b s slot (stood a s slot g) (stood b s slot h);
  one_site = λ b s. omega (arith, fewer s b, ok.one_site b s);
  used = λ s.
      subst (λ (sh : Shape). used_in new s ≤ sh.k + 1) (sym thin.shape)
      (omega (arith, sums_le (count_on s) new.rows old.rows thin.rows (fewer s), ok.used s));
}
  where
    stood : (b s slot : ℕ) → StandsIn new b s slot → StandsIn old b s slot
    stood b s slot h =
        let f = thin.front b in
        subst (λ xs. Contains xs (site_at s slot)) (sym f.1) (Contains-append_left (sites_in new b) f.0 (site_at s slot) h)

    fewer : (s b : ℕ) → count_on s (sites_in new b) ≤ count_on s (sites_in old b)
    fewer s b =
        let f = thin.front b in
        let more : count_on s (sites_in old b) ≡ count_on s (sites_in new b) + count_on s f.0 = ap (count_on s) f.1 ∙ count_on-append s (sites_in new b) f.0 in
        omega (arith, more)
