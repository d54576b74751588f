-- Evictions, one after another, and the boundary with the fewest used slots.
use Rattle.std.proofs.Common.{◌≡◌, ◌<◌, ◌≤◌, ◌%◌, ℕ, zero, suc, List, [], length, sym, ◌∙◌, ap, subst, arith}
use Rattle.std.specs.List.{sum_by}
use Rattle.dg_model.specs.declared.shapes.Shape.{Shape}
use Rattle.dg_model.specs.declared.sites.Site.{Site}
use Rattle.dg_model.specs.Sites.{Evicts, IsFirstBoundary, IsLeastSpread, IsPacked, without_last}
use Rattle.dg_model.specs.Tables.{IsTable, Table, put_site, sites_in, used_in, without_site}
use Rattle.dg_store.specs.declared.sites.GivenUp.{GivenUp}
use Rattle.dg_store.specs.Evictions.{GaveUp, IsEvicted, IsThinned}
use Rattle.dg_store.proofs.SitesGivenUp.{gave_push, gave_thinned, last_left, put_left, sites_fewer, thinned_empty}

-- so many evictions, at each of which every boundary is packed
abbrev pub Evicting : ℕ → Table → Table → Type 0
Evicting zero old new = new ≡ old
Evicting (suc count) old new = IsPacked old × ((c : ℕ) × IsLeastSpread old c × Evicting count (without_last old c) new)

evicting_more : (count : ℕ) (old mid new : Table) (c : ℕ) → Evicting count old mid → IsPacked mid → IsLeastSpread mid c → new ≡ without_last mid c → Evicting (suc count) old new
evicting_more zero old mid new c so_far packed least is =
    (subst IsPacked so_far packed, (c, subst (λ t. IsLeastSpread t c) so_far least, is ∙ ap (λ t. without_last t c) so_far))
evicting_more (suc count) old mid new c (full, (d, spread, more)) packed least is =
    (full, (d, spread, evicting_more count (without_last old d) mid new c more packed least is))

evicting_end : (count : ℕ) (old new : Table) → Evicting count old new → (IsPacked new → ⊥) → Evicts count old new
evicting_end zero old new done stop = (subst (λ t. IsPacked t → ⊥) done stop, done)
evicting_end (suc count) old new (full, (d, spread, more)) stop = (full, (d, spread, evicting_end count (without_last old d) new more stop))

-- where a block's first site has a boundary, not every boundary is packed
first_stops : (table : Table) (b s : ℕ) → IsTable table → IsFirstBoundary table b s → IsPacked table → ⊥
first_stops table b s ok first packed =
    let some : 2 ≤ table.shape.b = ok.shape.least_boundaries in
    let full : table.shape.k ≤ used_in table (b % table.shape.b) = packed (b % table.shape.b) (omega arith) in
    let fewest = first.other full in
    absurd (omega (arith, packed s fewest.within, first.room))

-- what the evictions so far have left
pub record HasEvicted (old : Table) (given_up : List GivenUp) (now : Table) : Type 0 where
  pub table : IsTable now
  pub count : ℕ
  pub evicting : Evicting count old now
  pub gave : GaveUp given_up old now

pub evicted_more : (old now new : Table) (es more : List GivenUp) → HasEvicted old es now → IsPacked now → IsEvicted now new es more → IsTable new → HasEvicted old more new
evicted_more old now new es more so_far packed one ok = record {
  table = ok;
  count = suc so_far.count;
  evicting = evicting_more so_far.count old now new one.given.block so_far.evicting packed one.least (one.left ∙ sym (last_left now one.given so_far.table one.last));
  gave = subst (λ es. GaveUp es old new) (sym one.listed) (gave_push es one.given old now new so_far.gave one.last one.left);
}

pub evicted_end : (old now : Table) (es : List GivenUp) (b s : ℕ) → HasEvicted old es now → IsFirstBoundary now b s → (count : ℕ) × Evicts count old now
evicted_end old now es b s so_far first = (so_far.count, evicting_end so_far.count old now so_far.evicting (first_stops now b s so_far.table first))

pub evicted_thinned : (old now : Table) (es : List GivenUp) → IsTable old → HasEvicted old es now → IsThinned old now
evicted_thinned old now es ok so_far = gave_thinned es old now ok so_far.gave

pub evicted_empty : (old now : Table) (es : List GivenUp) (b : ℕ) → IsTable old → HasEvicted old es now → sites_in old b ≡ [] → sites_in now b ≡ []
evicted_empty old now es b ok so_far none = thinned_empty old now b (evicted_thinned old now es ok so_far) none

-- ---- the fewest used slots

-- boundary s has the fewest used slots of the first n, and the lowest number among equals
pub record IsFewestBelow (table : Table) (n s : ℕ) : Type 0 where
  pub within : s < n
  pub fewest : (t : ℕ) → t < n → used_in table s ≤ used_in table t
  pub lowest : (t : ℕ) → t < s → used_in table s < used_in table t

pub evicted_within : (old now : Table) (es : List GivenUp) (b : ℕ) → IsTable old → HasEvicted old es now → b < old.shape.n → b < now.shape.n
evicted_within old now es b ok so_far within = subst (λ (s : Shape). b < s.n) (sym (evicted_thinned old now es ok so_far).shape) within

-- an eviction leaves fewer sites
pub evicted_fewer : (now new : Table) (es more : List GivenUp) → IsTable now → IsEvicted now new es more → sum_by length new.rows < sum_by length now.rows
evicted_fewer now new es more ok one = subst (λ (t : Table). sum_by length t.rows < sum_by length now.rows) (sym one.left) (sites_fewer now one.given ok one.last)

-- the table before a block was given its first site
pub first_left : (old middle new : Table) (b : ℕ) (site : Site) → sites_in old b ≡ [] → b < old.shape.n → IsTable middle → IsThinned old middle → new ≡ put_site middle b site → without_site new b site.boundary ≡ middle
first_left old middle new b site none within ok thin is =
    let inside : b < middle.shape.n = subst (λ (s : Shape). b < s.n) (sym thin.shape) within in
    ap (λ t. without_site t b site.boundary) is
    ∙ put_left middle b site (omega (arith, inside, ok.size)) (thinned_empty old middle b thin none)
