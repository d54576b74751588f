use Rattle.std.proofs.Common.{sym, ◌∙◌}
use Rattle.dg_move.proofs.TurnLaws.{moves_all}
use Rattle.dg_move.proofs.laws.limit_of_all.Goals as goal

pub returns-clause-moves : goal.returns-clause-moves
returns-clause-moves c = λ targets limit table all. moves_all targets limit table all

pub returns-clause-cut : goal.returns-clause-cut
returns-clause-cut c = λ targets limit old new all cut. record {
  front = cut.front;
  rest = cut.rest;
  whole = sym (moves_all targets limit old all) ∙ cut.whole;
  led = cut.led;
}
