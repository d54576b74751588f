use Rattle.std.proofs.Common.{◌≡◌, ℕ, false, subst, sym, ◌∙◌}
use Rattle.std.proofs.lemmas.Bool.{false≢true}
use Rattle.dg_parity.specs.Groups.{is_out}
use Rattle.dg_parity.proofs.run_reads.read_wanted.Goals as goal

pub read_row-requires-clause-there : goal.read_row-requires-clause-there
read_row-requires-clause-there g c =
    let one = c.if-not-is_wanted.ensures.yes in
    subst (λ (d : ℕ). is_out c.args.group.now d ≡ false) one.2 (c.requires.there one.0 one.1)

pub returns-then-not-is_wanted-clause-own : goal.returns-then-not-is_wanted-clause-own
returns-then-not-is_wanted-clause-own g c has all held k lt disk = absurd (c.if-not-is_wanted.ensures.no k lt disk)

pub returns-then-not-read_row-clause-idle : goal.returns-then-not-read_row-clause-idle
returns-then-not-read_row-clause-idle g c out =
    let one = c.if-not-is_wanted.ensures.yes in
    absurd (false≢true (sym (subst (λ (d : ℕ). is_out c.args.group.now d ≡ false) one.2 (c.requires.there one.0 one.1)) ∙ out))

pub returns-clause-idle : goal.returns-clause-idle
returns-clause-idle g c out =
    let one = c.if-not-is_wanted.ensures.yes in
    absurd (false≢true (sym (subst (λ (d : ℕ). is_out c.args.group.now d ≡ false) one.2 (c.requires.there one.0 one.1)) ∙ out))
