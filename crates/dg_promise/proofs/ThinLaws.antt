-- Tables from which sites went, and one in which a block got its first site.
use Rattle.std.proofs.Common.{◌≡◌, ◌∙◌, ℕ, zero, suc, ◌-◌, ◌%◌, ◌<◌, inl, inr, length, take, drop, Bool, true, false, List, [], ◌∷◌, ◌++◌, refl, sym, ap, subst, arith}
use Rattle.std.specs.Prelude.{if◌then◌else◌}
use Rattle.std.proofs.lemmas.Bool.{cases_Bool, cases_eq, cases_lt, false≢true}
use Rattle.std.proofs.lemmas.List.{append-nil, get_or-set_other, get_or-set_same, length-set, take-append-drop}
use Rattle.std.proofs.lemmas.Nat.{mod_below}
use Rattle.dg_model.specs.Refills.{Reaps}
use Rattle.dg_model.specs.Sites.{Evicts, IsFirstBoundary, IsSited, has_site, without_last}
use Rattle.dg_model.specs.Tables.{IsTable, Table, count_on, sites_in, used_in}
use Rattle.dg_model.specs.declared.shapes.Shape.{Shape}
use Rattle.dg_model.specs.declared.sites.Site.{Site}
use Rattle.ufs_model.specs.Blocks.{Volume}
use Rattle.dg_model.proofs.FreeLaws.{taken_to}
use Rattle.dg_model.proofs.PutLaws.{IsTable-put}
use Rattle.dg_model.proofs.ThinLaws.{IsThinned, thinned_table}
use Rattle.dg_promise.proofs.SlotLaws.{taken_below}

-- ---- reaped blocks

reaps_thin : (old new : Table) (v w : Volume) (s low high : ℕ) (reaped : ℕ → Bool) → Reaps old v s low high reaped new w → IsThinned old new
reaps_thin old new v w s low high reaped h = record {
  shape = h.shape;
  rows = h.rows;
  front = λ b. by_test b (reaped b) refl;
}
  where
    by_test : (b : ℕ) (reap : Bool) → reaped b ≡ reap → (rest : List Site) × (sites_in old b ≡ sites_in new b ++ rest)
    by_test b true is = (sites_in old b, sym (ap (λ (xs : List Site). xs ++ sites_in old b) (h.sites b ∙ ap (λ (reap : Bool). if reap then [] else sites_in old b) is)))
    by_test b false is = ([], sym (append-nil (sites_in new b) ∙ h.sites b ∙ ap (λ (reap : Bool). if reap then [] else sites_in old b) is))

pub reaped_table : (old new : Table) (v w : Volume) (s low high : ℕ) (reaped : ℕ → Bool) → IsTable old → Reaps old v s low high reaped new w → IsTable new
reaped_table old new v w s low high reaped ok h = thinned_table old new ok (reaps_thin old new v w s low high reaped h)

-- ---- evictions

last_thin : (old : Table) (c : ℕ) → c < length old.rows → IsThinned old (without_last old c)
last_thin old c low = record {
  shape = refl;
  rows = length-set old.rows c (take (length (sites_in old c) - 1) (sites_in old c));
  front = λ b. elim (cases_eq b c) [
    | inl here ↦ (
      drop (length (sites_in old c) - 1) (sites_in old c),
      subst (λ (d : ℕ). sites_in old d ≡ sites_in (without_last old c) d ++ drop (length (sites_in old c) - 1) (sites_in old c)) (sym here)
          (sym (ap (λ (xs : List Site). xs ++ drop (length (sites_in old c) - 1) (sites_in old c)) (get_or-set_same old.rows c (take (length (sites_in old c) - 1) (sites_in old c)) [] low)
          ∙ take-append-drop (length (sites_in old c) - 1) (sites_in old c))),
    )
    | inr other ↦ ([], sym (append-nil (sites_in (without_last old c) b) ∙ get_or-set_other old.rows c b (take (length (sites_in old c) - 1) (sites_in old c)) [] other))
  ];
}

front_none : (xs rest : List Site) → [] ≡ xs ++ rest → xs ≡ []
front_none [] rest is = refl
front_none (x ∷ xs) rest is = let no : [] ≡ x ∷ (xs ++ rest) = is in cc

record IsEvicted (old new : Table) : Type 0 where
  ok : IsTable new
  shape : new.shape ≡ old.shape
  bare : (b : ℕ) → sites_in old b ≡ [] → sites_in new b ≡ []

evicted : (count : ℕ) (old new : Table) → IsTable old → Evicts count old new → IsEvicted old new
evicted zero old new ok h = subst (IsEvicted old) (sym h.1) (record { ok = ok; shape = refl; bare = λ b none. none })
evicted (suc count) old new ok (packed, (c, least, rest)) =
    let size = ok.size in
    let within = least.within in
    let thin = last_thin old c (omega arith) in
    let next = evicted count (without_last old c) new (thinned_table old (without_last old c) ok thin) rest in
    record {
      ok = next.ok;
      shape = next.shape;
      bare = λ b none. next.bare b (let f = thin.front b in front_none (sites_in (without_last old c) b) f.0 (sym none ∙ f.1));
    }

-- ---- a first site

no_sites : (xs : List Site) → has_site xs ≡ false → xs ≡ []
no_sites [] h = refl
no_sites (x ∷ xs) h = absurd (false≢true (sym h))

first_low : (middle : Table) (b s : ℕ) → IsTable middle → IsFirstBoundary middle b s → s < middle.shape.b
first_low middle b s ok first =
    let least = ok.shape.least_boundaries in
    elim (cases_lt (used_in middle (b % middle.shape.b)) middle.shape.k) [
      | inl room ↦ let own = first.own room in let low = mod_below b middle.shape.b (omega arith) in omega arith
      | inr full ↦ (first.other full).within
    ]

pub sited_table : (old : Table) (b : ℕ) (new : Table) → IsTable old → b < old.shape.n → IsSited old b new → IsTable new
sited_table old b new ok low h = elim (cases_Bool (has_site (sites_in old b))) [
  | inl has ↦ subst IsTable (sym (h.kept has)) ok
  | inr none ↦
      let g = h.first none in
      let all = evicted g.evictions old g.middle ok g.evicted in
      let bare = all.bare b (no_sites (sites_in old b) none) in
      let size = all.ok.size in
      let inside : b < g.middle.shape.n = subst (λ (x : Shape). b < x.n) (sym all.shape) low in
      let room = g.boundary.room in
      let slot = taken_below g.middle g.site.boundary g.site.slot (λ k below. let taken = g.slot.lower k below in taken_to g.middle taken.0 g.site.boundary k taken.1) in
      subst IsTable (sym g.given) (IsTable-put g.middle b g.site (omega arith) all.ok (first_low g.middle b g.site.boundary all.ok g.boundary) (omega arith) g.slot.free
      (ap (count_on g.site.boundary) bare) (omega arith))
]
