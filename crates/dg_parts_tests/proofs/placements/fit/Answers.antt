use Rattle.std.proofs.Common.{◌≡◌, ◌<◌, ◌≤◌, ℕ, List, [], length, inl, inr, sym, ◌∙◌, ap, arith}
use Rattle.std.specs.Prelude.{Option, None, is_some}
use Rattle.std.proofs.lemmas.Bool.{cases_lt}
use Rattle.std.proofs.lemmas.List.{get_or_past}
use Rattle.dg_model.specs.Sites.{has_site}
use Rattle.dg_model.specs.Tables.{IsTable, Table, sites_in}
use Rattle.dg_model.specs.Wants.{FitWants, want_of}
use Rattle.dg_model.specs.declared.shapes.Shape.{Shape}
use Rattle.dg_model.specs.declared.wants.Want.{Want}
use Rattle.dg_parts_tests.proofs.placements.fit.Goals as goal

fit_all : (table : Table) (wants : List (Option Want)) (n : ℕ) → IsTable table → length wants ≡ table.shape.n → table.shape.n ≤ n
    → ((b : ℕ) → b < n → is_some (want_of wants b) ≡ has_site (sites_in table b)) → FitWants table wants
fit_all table wants n is size past below = record {
  size = size;
  written = λ b. elim (cases_lt b n) [
    | inl low ↦ below b low
    | inr high ↦
        ap is_some (get_or_past wants b None (omega (arith, size, past, high)))
        ∙ sym (ap has_site (get_or_past table.rows b [] (let rows = is.size in omega (arith, rows, past, high))))
  ];
}

pub returns : goal.returns
returns c = λ h.
    let n : (shape : Shape) → shape ≡ c.args.map.now.shape → shape.n ≡ c.args.map.now.shape.n = λ shape e. ap (λ (s : Shape). s.n) e in
    let first = n c.shape.result.now c.shape.ensures.shape in
    let second = n c.shape-2.result.now c.shape-2.ensures.shape in
    fit_all c.args.map.now c.args.wants.now c.loop-block.block c.shape.ensures.table (c.if-wants-shape.false ∙ first) (let past = c.loop-block-test.false in omega (arith, past, second)) c.loop-block.invariant
