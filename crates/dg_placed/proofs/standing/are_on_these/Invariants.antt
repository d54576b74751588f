use Rattle.std.proofs.Common.{◌≡◌, ◌==◌, ◌<◌, ℕ, true, get_or}
use Rattle.std.specs.List.{list_any}
use Rattle.dg_model.specs.declared.sites.Site.{Site}
use Rattle.dg_placed.proofs.standing.are_on_these.Given as goal

abbrev pub invariant-loop-site : goal.invariant-loop-site
invariant-loop-site l = (k : ℕ) (d : Site) → k < l.site-index → list_any (λ (t : ℕ). t == (get_or l.sites k d).boundary) l.boundaries ≡ true
