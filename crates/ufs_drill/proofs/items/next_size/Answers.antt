use Rattle.std.proofs.Common.{◌∙◌, ℕ, ap, sym}
use Rattle.rand_pcg.specs.Lcg.{Lcg}
use Rattle.rand_pcg.specs.Pcg.{pcg32}
use Rattle.ufs_drill.proofs.ItemLaws.{generator_more}
use Rattle.ufs_drill.proofs.items.next_size.Goals as goal

pub returns-clause-next : goal.returns-clause-next
returns-clause-next c = λ seed n is. ap (λ (p : ℕ × Lcg). p.1) c.next_word-word.ensures ∙ ap (λ (g : Lcg). (pcg32 g).1) is ∙ sym (generator_more seed n)
