-- How many blocks are written: a write of a block without a site that is done makes them one more.
use Rattle.std.proofs.Common.{◌≡◌, ◌≢◌, ◌<◌, ◌+◌, ◌-◌, ◌++◌, ℕ, zero, suc, Bool, false, cond, List, [], ◌∷◌, length, length-append, take, refl, sym, ◌∙◌, ap, inl, inr, arith}
use Rattle.std.specs.Prelude.{slice_set}
use Rattle.std.proofs.lemmas.Bool.{cases_eq, cases_lt}
use Rattle.std.proofs.lemmas.List.{get_or-set_other, get_or-set_same, length-set, set_past}
use Rattle.std.proofs.lemmas.List.Sums.{sum_by-set}
use Rattle.dg_model.proofs.SpareSteps.{has_some}
use Rattle.dg_model.specs.Sites.{Evicts, IsGivenFirst, has_site, without_last}
use Rattle.dg_model.specs.States.{State}
use Rattle.dg_model.specs.Steps.{Step}
use Rattle.dg_model.specs.Tables.{Table, sites_in}
use Rattle.dg_model.specs.declared.events.Event.TheVariants.{Write}
use Rattle.dg_model.specs.declared.replies.Reply.{Reply}
use Rattle.dg_model.specs.declared.replies.Reply.TheVariants.{Degraded, Done, Range}
use Rattle.dg_model.specs.declared.sites.Site.{Site}
use Rattle.dg_drill.specs.Chains.{done_count}
use Rattle.dg_drill.specs.Drills.{written_count}

-- ---- tables

-- the same blocks are written
record HasSame (old new : Table) : Type 0 where
  rows : length new.rows ≡ length old.rows
  sites : (c : ℕ) → has_site (sites_in new c) ≡ has_site (sites_in old c)
  count : written_count new ≡ written_count old

same_table : (old new : Table) → new ≡ old → HasSame old new
same_table old new e = record {
  rows = ap (λ (t : Table). length t.rows) e;
  sites = λ c. ap (λ (t : Table). has_site (sites_in t c)) e;
  count = ap written_count e;
}

same_both : (old mid new : Table) → HasSame old mid → HasSame mid new → HasSame old new
same_both old mid new one other = record {
  rows = other.rows ∙ one.rows;
  sites = λ c. other.sites c ∙ one.sites c;
  count = other.count ∙ one.count;
}

abbrev weight : List Site → ℕ
weight sites = cond (has_site sites) 1 0

abbrev with_row : Table → ℕ → List Site → Table
with_row table b sites = record table { rows = slice_set table.rows b sites }

row_other : (table : Table) (b c : ℕ) (sites : List Site) → c ≢ b → has_site (sites_in (with_row table b sites) c) ≡ has_site (sites_in table c)
row_other table b c sites other = ap has_site (get_or-set_other table.rows b c sites [] other)

row_here : (table : Table) (b : ℕ) (sites : List Site) → b < length table.rows → sites_in (with_row table b sites) b ≡ sites
row_here table b sites low = get_or-set_same table.rows b sites [] low

row_same : (table : Table) (b : ℕ) (sites : List Site) → has_site sites ≡ has_site (sites_in table b) → HasSame table (with_row table b sites)
row_same table b sites same = elim (cases_lt b (length table.rows)) [
  | inl low ↦ record {
    rows = length-set table.rows b sites;
    sites = λ c. elim (cases_eq c b) [
      | inl e ↦ ap (λ (k : ℕ). has_site (sites_in (with_row table b sites) k)) e ∙ ap has_site (row_here table b sites low) ∙ same
          ∙ ap (λ (k : ℕ). has_site (sites_in table k)) (sym e)
      | inr other ↦ row_other table b c sites other
    ];
    count =
        let sum = sum_by-set weight table.rows b sites [] low in
        let here : weight sites ≡ weight (sites_in table b) = ap (λ (x : Bool). cond x 1 0) same in
        omega (arith, sum, here);
  }
  | inr high ↦ same_table table (with_row table b sites) (ap (λ (rows : List (List Site)). record table { rows = rows }) (set_past table.rows b sites high))
]

-- a block that gives up the last of its sites has another one
keeps_one : (sites : List Site) → 1 < length sites → has_site (take (length sites - 1) sites) ≡ has_site sites
keeps_one [] more = absurd (omega (arith, more))
keeps_one (x ∷ []) more = absurd (omega (arith, more))
keeps_one (x ∷ y ∷ rest) more = ap (λ (n : ℕ). has_site (take n (x ∷ y ∷ rest))) (one_more (length rest))
  where
    one_more : (n : ℕ) → suc (suc n) - 1 ≡ suc n
    one_more n = omega arith

evicts_same : (count : ℕ) (old new : Table) → Evicts count old new → HasSame old new
evicts_same zero old new h = same_table old new h.1
evicts_same (suc count) old new h =
    let c = h.1.0 in
    same_both old (without_last old c) new (row_same old c (take (length (sites_in old c) - 1) (sites_in old c)) (keeps_one (sites_in old c) h.1.1.more))
    (evicts_same count (without_last old c) new h.1.2)

-- ---- writes

-- what a write of block b leaves of the written blocks
pub record IsCounted (old : Table) (b : ℕ) (reply : Reply) (new : Table) : Type 0 where
  pub rows : length new.rows ≡ length old.rows
  pub others : (c : ℕ) → c ≢ b → has_site (sites_in new c) ≡ has_site (sites_in old c)
  pub count : written_count new ≡ written_count old + done_count reply

given_counted : (old : Table) (b : ℕ) (new : Table) → b < length old.rows → has_site (sites_in old b) ≡ false → IsGivenFirst old b new → IsCounted old b Done new
given_counted old b new low none g =
    let same = evicts_same g.evictions old g.middle g.evicted in
    let sites = sites_in g.middle b ++ g.site ∷ [] in
    let below : b < length g.middle.rows = omega (arith, low, same.rows) in
    let sum = sum_by-set weight g.middle.rows b sites [] below in
    let here : weight sites ≡ 1 = ap (λ (x : Bool). cond x 1 0) (has_some sites (omega (arith, length-append (sites_in g.middle b) (g.site ∷ [])))) in
    let was : weight (sites_in g.middle b) ≡ 0 = ap (λ (x : Bool). cond x 1 0) (same.sites b ∙ none) in
    let whole = ap written_count g.given in
    record {
      rows = ap (λ (t : Table). length t.rows) g.given ∙ length-set g.middle.rows b sites ∙ same.rows;
      others = λ c other. ap (λ (t : Table). has_site (sites_in t c)) g.given ∙ row_other g.middle b c sites other ∙ same.sites c;
      count = omega (arith, sum, here, was, whole, same.count);
    }

unchanged : (old : Table) (b : ℕ) (reply : Reply) (new : Table) → done_count reply ≡ 0 → new ≡ old → IsCounted old b reply new
unchanged old b reply new none e =
    let same = same_table old new e in
    record {
      rows = same.rows;
      others = λ c other. same.sites c;
      count = omega (arith, same.count, none);
    }

pub write_counted : (Known : Type 0) (old : State) (b : ℕ) (bytes : List ℕ) (reply : Reply) (new : State) → b < length old.table.rows
    → has_site (sites_in old.table b) ≡ false → Step Known old (Write b bytes) reply new → IsCounted old.table b reply new.table
write_counted Known old b bytes Range new low none h = unchanged old.table b Range new.table refl (ap (λ (s : State). s.table) h.1)
write_counted Known old b bytes Degraded new low none h = elim h.1 [
  | inl was ↦ unchanged old.table b Degraded new.table refl (ap (λ (s : State). s.table) was.1)
  | inr now ↦ unchanged old.table b Degraded new.table refl (ap (λ (s : State). s.table) now.3.rest)
]
write_counted Known old b bytes Done new low none h = given_counted old.table b new.table low none (h.2.sited.first none)
write_counted Known old b bytes reply new low none h = absurd h
