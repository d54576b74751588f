-- What is left of sites, blocks and homes, one after another.
use Rattle.std.proofs.Common.{◌≡◌, ◌∙◌, ◌+◌, ◌*◌, ◌<◌, ◌≤◌, ◌==◌, inl, inr, ℕ, Bool, true, false, not, List, [], ◌∷◌, ◌++◌, Option, None, Some, map, filter, get_or, length, take, if◌then◌else◌, refl, sym, ap, subst, arith}
use Rattle.std.specs.Prelude.{flat_map, option_to_list, ◌&&◌}
use Rattle.std.specs.Global.{Vec}
use Rattle.std.specs.List.{range_with_len}
use Rattle.std.proofs.lemmas.Bool.{cases_lt}
use Rattle.std.proofs.lemmas.Grind.{flat_map-append}
use Rattle.std.proofs.lemmas.List.{append-nil, map-append, take_more}
use Rattle.std.proofs.lemmas.List.Elements.{filter-append, filter_agree}
use Rattle.std.proofs.lemmas.List.Filters.{length-filter_both}
use Rattle.std.proofs.lemmas.List.FromFn.{length-range_with_len}
use Rattle.std.specs.Int.{bit_at}
use Rattle.dg_io.specs.Reduced.{places_left}
use Rattle.dg_map.specs.Renumbers.{renumbered, renumbered_site, renumbered_sites}
use Rattle.dg_map.specs.Restores.{AreSites}
use Rattle.std.specs.Option.{option_map}
use Rattle.std.proofs.Math.ListN.{get_or-map}
use Rattle.std.specs.Prelude.{slice_index_or}
use Rattle.dg_model.proofs.RegroupLaws.{left_is_table}
use Rattle.dg_model.specs.Lives.{place_in}
use Rattle.dg_model.specs.Regroups.{home_left, homes_left, is_left, shape_left, site_left, sites_left, table_left}
use Rattle.dg_model.specs.Sites.{has_site}
use Rattle.dg_model.specs.Tables.{IsTable, Table, sites_in}
use Rattle.dg_model.specs.declared.homes.Home.{Home}
use Rattle.dg_model.specs.declared.shapes.Shape.{Shape}
use Rattle.dg_model.specs.declared.sites.Site.{Site}
use Rattle.dg_regroup.proofs.LeftLemmas.{filter_more, places_ascend}
use Rattle.dg_regroup.specs.Cuts.{IsCutOver, IsTooFew, cut_between, cut_off, loses_sites, new_place}

-- ---- sites

sites_both : (left : List ℕ) (xs ys : List Site) → sites_left left (xs ++ ys) ≡ sites_left left xs ++ sites_left left ys
sites_both left xs ys =
    let p : Site → Bool = λ site. is_left left site.boundary in
    ap (map (site_left left)) (filter-append p xs ys) ∙ map-append (site_left left) (filter p xs) (filter p ys)

module _ (left : List ℕ) (numbers : List (Option ℕ)) (are : (s : ℕ) → slice_index_or numbers s None ≡ new_place left s) where
  one_left : (x : Site) → sites_left left (x ∷ []) ≡ option_to_list (renumbered_site numbers x)
  one_left x = one (is_left left x.boundary) ∙ ap (λ (place : Option ℕ). option_to_list (option_map (λ s. record x { boundary = s }) place)) (sym (are x.boundary)) where
    one : (b : Bool) → map (site_left left) (if b then x ∷ [] else []) ≡ option_to_list (option_map (λ s. record x { boundary = s }) (if b then Some (place_in left x.boundary) else None))
    one true = refl
    one false = refl

  row_left : (sites : List Site) → renumbered_sites numbers sites ≡ sites_left left sites
  row_left [] = refl
  row_left (x ∷ xs) =
      ap (λ (ys : List Site). option_to_list (renumbered_site numbers x) ++ ys) (row_left xs)
      ∙ ap (λ (ys : List Site). ys ++ sites_left left xs) (sym (one_left x))
      ∙ sym (sites_both left (x ∷ []) xs)

  pub rows_left : (rows : List (List Site)) → map (renumbered_sites numbers) rows ≡ map (sites_left left) rows
  rows_left [] = refl
  rows_left (row ∷ rows) =
      ap (λ (first : List Site). first ∷ map (renumbered_sites numbers) rows) (row_left row) ∙ ap (λ (rest : List (List Site)). sites_left left row ∷ rest) (rows_left rows)

-- ---- homes

pub homes_more : (left : List ℕ) (copies homes : List Home) (i : ℕ) (d : Home) (home : Option Home) → i < length homes → home_left left copies (get_or homes i d) ≡ home
    → homes_left left copies (take (i + 1) homes) ≡ homes_left left copies (take i homes) ++ option_to_list home
homes_more left copies homes i d home low is =
    let f : Home → List Home = λ home. option_to_list (home_left left copies home) in
    ap (flat_map f) (take_more homes i d low)
    ∙ flat_map-append f (take i homes) (get_or homes i d ∷ [])
    ∙ ap (λ (xs : List Home). homes_left left copies (take i homes) ++ xs) (append-nil (f (get_or homes i d)) ∙ ap option_to_list is)

-- ---- blocks

pub cut_more : (old new : Table) (b : ℕ) (out : Bool) → loses_sites old new b ≡ out
    → filter (loses_sites old new) (range_with_len 0 (b + 1)) ≡ filter (loses_sites old new) (range_with_len 0 b) ++ (if out then b ∷ [] else [])
cut_more old new b out is =
    filter_more (loses_sites old new) b
    ∙ ap (λ (t : Bool). filter (loses_sites old new) (range_with_len 0 b) ++ (if t then b ∷ [] else [])) is

-- what falls out has sites before and none afterwards
pub cut_is : (left : List ℕ) (table : Table) → cut_between table (table_left left table) ≡ cut_off left table
cut_is left table = filter_agree _ _ (λ b. ap (λ (sites : List Site). has_site (sites_in table b) && not (has_site sites)) (get_or-map (sites_left left) table.rows b [])) (range_with_len 0 table.shape.n)

-- ---- the whole

pub enough : (lost : ℕ) (table : Table) → IsTable table → (IsTooFew (places_left lost table.shape.b) table.shape → ⊥) → IsTable (table_left (places_left lost table.shape.b) table)
enough lost table is many =
    let left = places_left lost table.shape.b in
    left_is_table left table is (places_ascend lost table.shape.b) (few lost table.shape.b)
    (elim (cases_lt (length left) table.shape.m) [ inl less ↦ absurd (many (inl less)) | inr not ↦ not ])
    (elim (cases_lt (length left) 2) [ inl less ↦ absurd (many (inr (inl less))) | inr not ↦ not ])
    (elim (cases_lt (length left * table.shape.k) table.shape.n) [ inl less ↦ absurd (many (inr (inr less))) | inr not ↦ not ])
  where
    few : (lost b : ℕ) → length (places_left lost b) ≤ b
    few lost b = let both = length-filter_both (λ s. bit_at lost s == 0) (λ s. not (bit_at lost s == 0)) (λ s. refl) (range_with_len 0 b) in let long = length-range_with_len 0 b in omega (arith, both, long)

pub are_sites : (table : Table) → IsTable table → AreSites table
are_sites table is = record {
  shape = is.shape;
  size = is.size;
  boundaries = is.boundaries;
  slots = is.slots;
  one_block = is.one_block;
  one_site = is.one_site;
}

pub some_none : (x : Shape) → Some x ≡ None → ⊥
some_none x e = cc

module _ (lost : ℕ) (table : Table) (places : List ℕ) (numbers : List (Option ℕ)) (shape left : Shape) (places_are : places ≡ places_left lost shape.b)
    (are : (s : ℕ) → slice_index_or numbers s None ≡ new_place places s) (shape_is : shape ≡ table.shape) (left_is : left ≡ shape_left places shape)
    (is : IsTable table) (many : IsTooFew places shape → ⊥) where
  -- the table under the new places is what is left
  whole_left : renumbered left numbers table ≡ table_left places table
  whole_left =
      ap (λ (x : Shape). renumbered x numbers table) (left_is ∙ ap (λ (x : Shape). shape_left places x) shape_is)
      ∙ ap (λ (rows : List (List Site)). record { shape = shape_left places table.shape; rows = rows }) (rows_left places numbers are table.rows)

  is_table : IsTable (table_left places table)
  is_table =
      let e : places ≡ places_left lost table.shape.b = places_are ∙ ap (λ (x : Shape). places_left lost x.b) shape_is in
      let more : IsTooFew (places_left lost table.shape.b) table.shape → ⊥ =
      λ few. many (subst (λ (x : Shape). IsTooFew places x) (sym shape_is) (subst (λ (xs : List ℕ). IsTooFew xs table.shape) (sym e) few)) in
      subst (λ (xs : List ℕ). IsTable (table_left xs table)) (sym e) (enough lost table is more)

  pub are_left : AreSites (renumbered left numbers table)
  are_left = subst (λ (t : Table). AreSites t) (sym whole_left) (are_sites (table_left places table) is_table)

  -- what is made of it
  pub cut_over_is : (homes copies kept : List Home) (now view : Table) (cut : Vec ℕ) → view ≡ now → now ≡ renumbered left numbers table → cut.items ≡ cut_between table now
      → kept ≡ homes_left places copies homes → IsCutOver (places_left lost shape.b) table homes copies (record { shape = left; map = view; homes = kept; cut = cut })
  cut_over_is homes copies kept now view cut seen now_is cut_are kept_are =
      let made : now ≡ table_left places table = now_is ∙ whole_left in
      subst (λ (xs : List ℕ). IsCutOver xs table homes copies (record { shape = left; map = view; homes = kept; cut = cut })) places_are (record {
        shape_is = left_is ∙ ap (λ (x : Shape). shape_left places x) shape_is;
        map_is = seen ∙ made;
        is_table = subst (λ (t : Table). IsTable t) (sym (seen ∙ made)) is_table;
        homes_are = kept_are;
        cut_are = cut_are ∙ ap (λ (t : Table). cut_between table t) made ∙ cut_is places table;
      })
