use Rattle.std.proofs.Common.{◌≡◌, ◌∙◌, ℕ, List, ap, rules}
use Rattle.dg_model.proofs.TrimLaws.{trimmed_is}
use Rattle.dg_model.specs.Blocks.{stripped}
use Rattle.dg_model.specs.declared.events.Event.TheVariants.{Write}
use Rattle.ufs_build.specs.Traces.{block_in}
use Rattle.dg_trace.proofs.lines.write_of.Goals as goal

pub returns : goal.returns
returns c =
    let block : c.split_at-2.result.0.now ≡ block_in c.args.g.now.fsize c.args.volume.now c.args.b = search rules in
    let short = trimmed_is c.trimmed.result.now c.split_at-2.result.0.now c.trimmed.ensures in
    let bytes : c.new.result ≡ c.trimmed.result.now = search rules in
    ap (λ (l : List ℕ). Write c.args.b l) (bytes ∙ short ∙ ap stripped block)
