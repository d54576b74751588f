use Rattle.std.proofs.Common.{refl, sym, ap, ◌∙◌}
use Rattle.dg_parity.specs.Groups.{has_none}
use Rattle.dg_parity.specs.Sound.{is_sound}
use Rattle.dg_parity.proofs.SoundLemmas.{doubts-none, sound-same}
use Rattle.dg_parity.proofs.sureness.judge.Goals as goal

pub returns-clause-sure : goal.returns-clause-sure
returns-clause-sure g c =
    ap has_none c.of-doubts.ensures ∙ doubts-none (is_sound g.R.Rack c.args.group c.args.rack.now) ∙ sym (sound-same g.R.Rack c.args.group _ c.args.rack.now refl refl refl refl)
