use Rattle.std.proofs.Common.{◌∙◌, ◌<◌, Option, sym, ap, subst, arith}
use Rattle.std.proofs.lemmas.Bool.{not-true}
use Rattle.ufs_model.specs.Blocks.{block_at}
use Rattle.ufs_model.specs.Claims.{source_fragments}
use Rattle.ufs_model.specs.declared.geometries.Geometry.{Geometry}
use Rattle.dg_claims.specs.Kept.{claimed_by, size_in}
use Rattle.dg_infer.proofs.ChangeLaws.{moved_anew, moved_never, moved_still}
use Rattle.dg_infer.proofs.TargetLaws.{pointer_target}
use Rattle.dg_infer.proofs.levels.move_touch.Goals as goal

pub returns-then-not-touch-clause-moved : goal.returns-then-not-touch-clause-moved
returns-then-not-touch-clause-moved g c = λ got is v holds has.
    moved_never (source_fragments c.args.g.now v) (claimed_by c.args.claims.now.runs) c.args.block c.args.touch c.has_level-now.result c.has_level-now.ensures c.if-not-now.true (not-true c.args.touch.was c.if-not-touch.true)

pub returns-then-touch-block-clause-moved : goal.returns-then-touch-block-clause-moved
returns-then-touch-block-clause-moved g c = λ got is v holds has.
    moved_anew (source_fragments c.args.g.now v) (claimed_by c.args.claims.now.runs) (claimed_by c.put_pointers.new.claims.runs) c.args.block c.args.touch c.has_level-now.result c.has_level-now.ensures c.if-not-now.false
    (λ at.
    c.in_ok-put_pointers.ensures.pointers at
    ∙ pointer_target c.args.g.now c.args.claims.now.geometry v c.args.touch.fragment c.args.touch.level at (g.V.View.size c.args.view.now) c.args.bytes.now c.requires.table c.requires.geometry.fsize
    (has ∙ ap (λ b. block_at (g.V.View.size c.args.view.now) v b) (sym c.if-touch-block.true)))

pub returns-then-touch-clause-moved : goal.returns-then-touch-clause-moved
returns-then-touch-clause-moved g c = λ got is v holds has.
    moved_still (source_fragments c.args.g.now v) (claimed_by c.args.claims.now.runs) c.args.block c.args.touch c.has_level-now.result c.has_level-now.ensures c.if-not-now.false c.if-touch.true c.if-touch-block.false

pub read_fragment-requires-clause-within : goal.read_fragment-requires-clause-within
read_fragment-requires-clause-within g c =
    let claimed = c.has_level-now.ensures.0 c.if-not-now.false in
    let inside = c.claims_inside.ensures.inside c.args.touch.fragment claimed.source claimed.claim in
    let within : c.args.touch.fragment < c.args.g.now.size = subst (λ (o : Option Geometry). c.args.touch.fragment < size_in o) c.requires.table inside in
    let most = c.requires.geometry.size in
    omega (arith, within, most)

pub returns-clause-moved : goal.returns-clause-moved
returns-clause-moved g c = λ got is v holds has.
    moved_anew (source_fragments c.args.g.now v) (claimed_by c.args.claims.now.runs) (claimed_by c.put_pointers-2.new.claims.runs) c.args.block c.args.touch c.has_level-now.result c.has_level-now.ensures c.if-not-now.false
    (λ at.
    c.in_ok-put_pointers-2.ensures.pointers at
    ∙ pointer_target c.args.g.now c.args.claims.now.geometry v c.args.touch.fragment c.args.touch.level at (g.V.View.size c.args.view.now) c.aside.result.now c.requires.table c.requires.geometry.fsize
    (c.aside.ensures ∙ c.read_fragment.ensures.bytes c.if-not-read_fragment.false is v holds))

pub returns-then-not-read_fragment-clause-lost : goal.returns-then-not-read_fragment-clause-lost
returns-then-not-read_fragment-clause-lost g c = λ missed.
    let claimed = c.has_level-now.ensures.0 c.if-not-now.false in
    let inside = c.claims_inside.ensures.inside c.args.touch.fragment claimed.source claimed.claim in
    let within : c.args.touch.fragment < c.args.g.now.size = subst (λ (o : Option Geometry). c.args.touch.fragment < size_in o) c.requires.table inside in
    let most = c.requires.geometry.size in
    (claimed, omega (arith, within, most), c.read_fragment.ensures.gone c.if-not-read_fragment.true)
