-- What a map's table is while blocks are given lists of sites.
use Rattle.std.proofs.Common.{◌≡◌, ◌<◌, ◌≤◌, ◌+◌, ◌≢◌, ℕ, suc, List, [], ◌∷◌, ◌++◌, length, get_or, set, take, drop, refl, sym, ◌∙◌, ap, subst, ⊎_elim, arith}
use Rattle.std.specs.Global.{Vec}
use Rattle.std.specs.List.{Contains}
use Rattle.std.proofs.Math.Seq.{take-suc}
use Rattle.std.proofs.lemmas.Bool.{cases_eq, cases_lt}
use Rattle.std.proofs.lemmas.List.{get_or-set_same, get_or-set_other, get_or-map, ext_get_or, set-set, set-get_or, take-append-drop}
use Rattle.std.proofs.lemmas.List.Elements.{Contains-get_or}
use Rattle.dg_model.specs.declared.sites.Site.{Site}
use Rattle.dg_model.specs.declared.shapes.Shape.{Shape}
use Rattle.dg_model.specs.Tables.{IsFree, IsTable, StandsIn, Table, count_on, empty_table, put_site, sites_in}
use Rattle.dg_model.proofs.PutLaws.{empty_row, site_at}
use Rattle.dg_model.proofs.SiteLists.{count_on-append, count_on-last, count_pos}
use Rattle.dg_map.specs.Restores.{AreSites, CanHave, IsRestoredBelow, set_sites, table_with}

-- what a read past the end of a list gives
abbrev pub no_site : Site
no_site = record { boundary = 0; slot = 0 }

-- ---- one block's sites

module _ (old : Table) (b : ℕ) (sites : List Site) (can : CanHave old b sites) (long : b < length old.rows) where
  pub sites_here : (xs : List Site) → sites_in (set_sites old b xs) b ≡ xs
  sites_here xs = get_or-set_same old.rows b xs [] long

  pub sites_apart : (xs : List Site) (c : ℕ) → c ≢ b → sites_in (set_sites old b xs) c ≡ sites_in old c
  sites_apart xs c ne = get_or-set_other old.rows b c xs [] ne

  -- at most one site on a boundary, so none of the earlier ones is on that of site k
  pub none_before : (k : ℕ) (d : Site) → k < length sites → count_on (get_or sites k d).boundary (take k sites) ≡ 0
  none_before k d lt =
      let x = get_or sites k d in
      let whole = ap (count_on x.boundary) (take-append-drop (suc k) sites) in
      let more = ap (count_on x.boundary) (take-suc sites k d lt) in
      omega (arith, can.one_site x.boundary, whole, count_on-append x.boundary (take (suc k) sites) (drop (suc k) sites), more, count_on-last (take k sites) x)

  pub still_none : (k : ℕ) (d : Site) → k < length sites → count_on (get_or sites k d).boundary (sites_in (set_sites old b (take k sites)) b) ≡ 0
  still_none k d lt = ap (count_on (get_or sites k d).boundary) (sites_here (take k sites)) ∙ none_before k d lt

  pub still_free : (k : ℕ) (d : Site) → k < length sites → IsFree (set_sites old b (take k sites)) (get_or sites k d).boundary (get_or sites k d).slot
  still_free k d lt c stood =
      let x = get_or sites k d in
      ⊎_elim
      (λ same.
      let here : Contains (take k sites) x = subst (λ (xs : List Site). Contains xs x) (ap (sites_in (set_sites old b (take k sites))) same ∙ sites_here (take k sites)) stood in
      absurd (omega (arith, count_pos x.boundary (take k sites) x here refl, none_before k d lt)))
      (λ apart. (can.open_sites k d lt).free c (subst (λ (xs : List Site). Contains xs x) (sites_apart (take k sites) c apart) stood))
      (cases_eq c b)

  pub put_next : (k count : ℕ) (d : Site) → k < length sites → count ≡ k + 1 → put_site (set_sites old b (take k sites)) b (get_or sites k d) ≡ set_sites old b (take count sites)
  put_next k count d lt next =
      let more : suc k ≡ count = omega arith in
      ap (λ (rows : List (List Site)). record old { rows = rows })
      (set-set old.rows b (take k sites) (sites_in (set_sites old b (take k sites)) b ++ get_or sites k d ∷ [])
      ∙ ap (λ (row : List Site). set old.rows b row) (ap (λ (row : List Site). row ++ get_or sites k d ∷ []) (sites_here (take k sites)) ∙ sym (take-suc sites k d lt) ∙ ap (λ (i : ℕ). take i sites) more))

  pub put_none : old ≡ set_sites old b (take 0 sites)
  put_none = ap (λ (rows : List (List Site)). record old { rows = rows }) (sym (ap (λ (row : List Site). set old.rows b row) (sym can.none) ∙ set-get_or old.rows b []))

-- ---- all blocks

module _ (whole : Table) (are : AreSites whole) where
  pub restored_none : (now : Table) → now ≡ empty_table whole.shape → IsRestoredBelow whole now 0
  restored_none now is = record {
    shape = ap (λ (t : Table). t.shape) is;
    before = λ b lt. absurd (omega arith);
    after = λ b le. ap (λ (t : Table). sites_in t b) is ∙ empty_row whole.shape.n b;
  }

  pub can_have : (now : Table) (b : ℕ) → IsRestoredBelow whole now b → b < whole.shape.n → CanHave now b (sites_in whole b)
  can_have now b below lt = record {
    within = subst (λ (s : Shape). b < s.n) (sym below.shape) lt;
    none = below.after b (omega arith);
    open_sites = λ k d inside.
        let x = get_or (sites_in whole b) k d in
        let stands : StandsIn whole b x.boundary x.slot = Contains-get_or (sites_in whole b) k d inside in
        record {
          boundary = subst (λ (s : Shape). x.boundary < s.b) (sym below.shape) (are.boundaries b x.boundary x.slot stands);
          slot = subst (λ (s : Shape). x.slot ≤ s.k) (sym below.shape) (are.slots b x.boundary x.slot stands);
          free = λ c stood.
              ⊎_elim
              (λ early.
              let owner : c ≡ b = are.one_block c b x.boundary x.slot (subst (λ (xs : List Site). Contains xs (site_at x.boundary x.slot)) (below.before c early) stood) stands in
              absurd (omega arith))
              (λ late.
              let gone : Contains [] (site_at x.boundary x.slot) = subst (λ (xs : List Site). Contains xs (site_at x.boundary x.slot)) (below.after c late) stood in
              absurd (let none = gone.1 in omega arith))
              (cases_lt c b);
        };
    one_site = are.one_site b;
  }

  pub restored_more : (now new : Table) (b : ℕ) → IsRestoredBelow whole now b → b < length now.rows → new ≡ set_sites now b (sites_in whole b) → IsRestoredBelow whole new (b + 1)
  restored_more now new b below long is = record {
    shape = ap (λ (t : Table). t.shape) is ∙ below.shape;
    before = λ c lt.
        ap (λ (t : Table). sites_in t c) is
        ∙ ⊎_elim
        (λ same. ap (λ (q : ℕ). sites_in (set_sites now b (sites_in whole b)) q) same ∙ get_or-set_same now.rows b (sites_in whole b) [] long ∙ ap (sites_in whole) (sym same))
        (λ apart. get_or-set_other now.rows b c (sites_in whole b) [] apart ∙ below.before c (omega arith))
        (cases_eq c b);
    after = λ c le. ap (λ (t : Table). sites_in t c) is ∙ get_or-set_other now.rows b c (sites_in whole b) [] (λ same. absurd (omega arith)) ∙ below.after c (omega arith);
  }

  pub restored_all : (now : Table) (count : ℕ) → IsTable now → IsRestoredBelow whole now count → count ≡ whole.shape.n → now ≡ whole
  restored_all now count ok below end =
      let f : Shape → List (List Site) → Table = λ s rows. record { shape = s; rows = rows } in
      let long : length now.rows ≡ whole.shape.n = ok.size ∙ ap (λ (s : Shape). s.n) below.shape in
      let rows : now.rows ≡ whole.rows = ext_get_or [] now.rows whole.rows (long ∙ sym are.size) (λ k lt. below.before k (omega arith)) in
      ap (λ (s : Shape). f s now.rows) below.shape ∙ ap (λ (rows : List (List Site)). f whole.shape rows) rows

-- the list of one block, where it stands in a vector
pub list_at : (shape : Shape) (lists : List (Vec Site)) (b : ℕ) (list : Vec Site) → b < length lists → list ≡ get_or lists b list → sites_in (table_with shape lists) b ≡ list.items
list_at shape lists b list lt is = get_or-map (λ (v : Vec Site). v.items) lists b list [] lt ∙ ap (λ (v : Vec Site). v.items) (sym is)

-- a table's lists are such
pub sites_of_table : (table : Table) → IsTable table → AreSites table
sites_of_table table ok = record {
  shape = ok.shape;
  size = ok.size;
  boundaries = ok.boundaries;
  slots = ok.slots;
  one_block = ok.one_block;
  one_site = ok.one_site;
}
