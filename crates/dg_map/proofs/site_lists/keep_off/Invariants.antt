use Rattle.std.proofs.Common.{◌≡◌, ◌⊎◌, ◌<◌, ◌≤◌, ◌+◌, ℕ, drop, get_or, length, take}
use Rattle.dg_model.specs.Tables.{sites_off}
use Rattle.dg_model.specs.declared.sites.Site.{Site}
use Rattle.dg_map.proofs.site_lists.keep_off.Given as goal

abbrev pub invariant-loop-place : goal.invariant-loop-place
invariant-loop-place l = record {
  few : l.kept ≤ l.place;
  long : length l.sites.items ≡ length l.initial.sites.items;
  row : take l.kept (drop l.start l.sites.items) ≡ sites_off l.boundary (take l.place (drop l.start l.initial.sites.items));
  others : (j : ℕ) (d : Site) → (j < l.start) ⊎ (l.start + l.place ≤ j) → get_or l.sites.items j d ≡ get_or l.initial.sites.items j d;
}
