use Rattle.std.proofs.Common.{rules, ◌≢◌, ◌+◌, sym, ◌∙◌}
use Rattle.std.proofs.lemmas.Bool.{false≢true}
use Rattle.dg_parity.proofs.PartLemmas.{added-unless}
use Rattle.dg_parity.proofs.parts.add_unless.Goals as goal

pub returns-clause-added : goal.returns-clause-added
returns-clause-added g c has all held k lt =
    let not_a : c.args.j ≢ c.args.a = search rules in
    let not_b : c.args.j ≢ c.args.b = search rules in
    added-unless (λ i. has i (c.args.place + k)) c.args.a c.args.b c.args.j _ _ not_a not_b (c.if-not-add_disk.ensures.added has all held k lt)

pub returns-clause-idle : goal.returns-clause-idle
returns-clause-idle g c out =
    let not_a : c.args.j ≢ c.args.a = search rules in
    let not_b : c.args.j ≢ c.args.b = search rules in
    absurd (false≢true (sym (c.requires.there not_a not_b) ∙ out))

pub returns-then-not-add_disk-clause-idle : goal.returns-then-not-add_disk-clause-idle
returns-then-not-add_disk-clause-idle g c out =
    let not_a : c.args.j ≢ c.args.a = search rules in
    let not_b : c.args.j ≢ c.args.b = search rules in
    absurd (false≢true (sym (c.requires.there not_a not_b) ∙ out))
