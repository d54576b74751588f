use Rattle.std.proofs.Common.{rules, ◌≤◌, ◌+◌, ◌*◌, ℕ, length, subst, sym, ◌≡◌}
use Rattle.std.specs.Option.{option_copied}
use Rattle.dg_text.specs.Lines.{line_of, longest}
use Rattle.dg_text.proofs.Lengths.{line_fits}
use Rattle.dg_text.proofs.lines.longest_line.Goals as goal

pub returns-clause-fits : goal.returns-clause-fits
returns-clause-fits c event place =
    let value : 2 * c.match-shape.block + 4201 ≡ longest (option_copied c.args.shape) = search rules in
    let P : ℕ → Type 0 = λ n. length (line_of event) ≤ n in
    subst P (sym value) (line_fits (option_copied c.args.shape) event place)
