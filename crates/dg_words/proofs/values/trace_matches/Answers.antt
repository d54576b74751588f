use Rattle.std.proofs.Common.{◌≡◌, ◌∙◌, ap, codes, length, map, string_bytes}
use Rattle.std.proofs.lemmas.List.{length-map}
use Rattle.std.proofs.lemmas.Result.{IfErr-weaker, IfOk-weaker}
use Rattle.clap.specs.Words.{App, app_of, takes}
use Rattle.dg_words.specs.Values.{with_value}
use Rattle.dg_words.proofs.Takes.{trace_app, trace_found, takes_trace}
use Rattle.dg_words.proofs.values.trace_matches.Goals as goal

pub returns-clause-ok : goal.returns-clause-ok
returns-clause-ok c =
    let is : app_of c.in_ok-command-4.command ≡ trace_app = (c.in_ok-command-4.ensures ∙ ap (λ (a : App). with_value a (codes "M")) (c.in_ok-command-3.ensures ∙ ap (λ (a : App). with_value a (codes "K")) (c.in_ok-command-2.ensures ∙ ap (λ (a : App). with_value a (codes "B")) (c.in_ok-command.ensures ∙ ap (λ (a : App). with_value a (codes "ORDER")) c.bare.ensures)))) in
    let words = map string_bytes c.args.words.now in
    let n : length words ≡ 4 = length-map _ _ ∙ c.requires.count in
    IfOk-weaker c.try_get_matches_from.result _ _ (λ m h. trace_found _ words m is n c.requires.plain h) c.try_get_matches_from.ensures.matches

pub returns-clause-err : goal.returns-clause-err
returns-clause-err c =
    let is : app_of c.in_ok-command-4.command ≡ trace_app = (c.in_ok-command-4.ensures ∙ ap (λ (a : App). with_value a (codes "M")) (c.in_ok-command-3.ensures ∙ ap (λ (a : App). with_value a (codes "K")) (c.in_ok-command-2.ensures ∙ ap (λ (a : App). with_value a (codes "B")) (c.in_ok-command.ensures ∙ ap (λ (a : App). with_value a (codes "ORDER")) c.bare.ensures)))) in
    let words = map string_bytes c.args.words.now in
    let n : length words ≡ 4 = length-map _ _ ∙ c.requires.count in
    IfErr-weaker c.try_get_matches_from.result _ _ (λ e h. h (ap (λ (a : App). takes a words) is ∙ takes_trace words n c.requires.plain)) c.try_get_matches_from.ensures.passes
