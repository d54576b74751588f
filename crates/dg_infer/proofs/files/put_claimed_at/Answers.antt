use Rattle.std.proofs.Common.{◌≡◌, ◌∙◌, sym}
use Rattle.ufs_model.specs.Claims.{level_of}
use Rattle.dg_infer.proofs.FileLaws.{gains_as_ok}
use Rattle.dg_infer.specs.Files.{IsSoleSource}
use Rattle.dg_infer.proofs.files.put_claimed_at.Goals as goal

pub returns : goal.returns
returns c =
    gains_as_ok c.put_claimed.result c.args.list.now.items c.put_claimed.new.list.items (IsSoleSource c.args.claims.now c.args.source.now)
    (λ fragment. (level_of c.args.source.now ≡ c.args.level) × IsSoleSource c.args.claims.now c.args.source.now fragment)
    c.put_claimed.ensures (λ f only. (sym c.level.ensures ∙ c.if-level.false, only)) (λ f h. h.1)
