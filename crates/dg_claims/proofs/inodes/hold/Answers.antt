use Rattle.ufs_pointer.specs.Fetches.{IsJust}
use Rattle.ufs_pointer.specs.KindLaws.{only_once}
use Rattle.std.proofs.Common.{refl}
use Rattle.dg_claims.specs.ThereLaws.{not_before}
use Rattle.dg_claims.proofs.inodes.hold.Goals as goal

pub returns-then-not-read_fragment-clause-fetched : goal.returns-then-not-read_fragment-clause-fetched
returns-then-not-read_fragment-clause-fetched g c = only_once (IsJust c.args.block) (λ v holds. refl) c.read_fragment.ensures.once

pub returns-clause-fetched : goal.returns-clause-fetched
returns-clause-fetched g c = only_once (IsJust c.args.block) (λ v holds. refl) c.read_fragment.ensures.once

pub returns-clause-there : goal.returns-clause-there
returns-clause-there g c = λ got before grows is v holds had.
    not_before before (g.V.View.is_gone c.args.view.now) c.args.block grows ((c.read_fragment.ensures.there c.if-not-read_fragment.false).each is v holds c.args.block refl)
