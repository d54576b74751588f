use Rattle.dg_words.specs.declared.commands.Command.TheVariants.{Trace}
use Rattle.dg_uses.proofs.answers.answer_an_image.Goals as goal

pub returns : goal.returns
returns g c order b k m words image answer is left some source sink = c.run.ensures.complete (Trace order b k m) words source sink image answer (left, some) is
