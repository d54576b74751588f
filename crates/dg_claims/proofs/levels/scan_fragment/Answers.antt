use Rattle.std.proofs.Common.{◌∙◌, refl}
use Rattle.ufs_pointer.specs.Fetches.{IsJust}
use Rattle.ufs_pointer.specs.KindLaws.{only_once}
use Rattle.dg_claims.proofs.ScanLaws.{pointer_source}
use Rattle.dg_claims.proofs.levels.scan_fragment.Goals as goal

pub returns-clause-pointers : goal.returns-clause-pointers
returns-clause-pointers g c = λ got is v holds at.
    c.in_ok-of_pointers.ensures.pointers at
    ∙ pointer_source c.args.g.now c.args.claims.now.geometry v c.args.fragment c.args.level at (g.V.View.size c.args.view.now) c.aside.result.now c.requires.table c.requires.geometry.fsize
    (c.aside.ensures ∙ c.read_fragment.ensures.bytes c.if-not-read_fragment.false is v holds)

pub returns-then-not-read_fragment-clause-fetched : goal.returns-then-not-read_fragment-clause-fetched
returns-then-not-read_fragment-clause-fetched g c = only_once (IsJust c.args.fragment) (λ v holds. refl) c.read_fragment.ensures.once

pub returns-in_err-of_pointers-clause-fetched : goal.returns-in_err-of_pointers-clause-fetched
returns-in_err-of_pointers-clause-fetched g c = only_once (IsJust c.args.fragment) (λ v holds. refl) c.read_fragment.ensures.once

pub returns-clause-fetched : goal.returns-clause-fetched
returns-clause-fetched g c = only_once (IsJust c.args.fragment) (λ v holds. refl) c.read_fragment.ensures.once

pub returns-clause-there : goal.returns-clause-there
returns-clause-there g c = λ got. c.read_fragment.ensures.there c.if-not-read_fragment.false
