use Rattle.std.proofs.Common.{◌∙◌, ℕ, Option, sym, ap, subst}
use Rattle.std.specs.Prelude.{replicate}
use Rattle.ufs_model.specs.Metadata.{IsMetadataBy}
use Rattle.ufs_pointer.specs.KindLaws.{only_none}
use Rattle.dg_infer.proofs.WholeLaws.{fresh_only, past_end}
use Rattle.dg_infer.specs.Places.{IsClaimedRead}
use Rattle.ufs_model.specs.declared.geometries.Geometry.{Geometry}
use Rattle.dg_claims.specs.Kept.{table_of}
use Rattle.dg_infer.specs.Meanings.{AreParts}
use Rattle.dg_infer.specs.Writes.{FetchesWholeBy, StandsWhole}
use Rattle.dg_infer.proofs.fresh.restored_parts.Goals as goal

pub returns-in_default-clause-parts : goal.returns-in_default-clause-parts
returns-in_default-clause-parts g c = λ v h.
    subst (λ (o : Option Geometry). AreParts v o (table_of c.in_ok-no_parts.field-0.claims) c.in_ok-no_parts.field-0.kinds.entries c.in_ok-no_parts.field-0.free.items)
    (sym c.in_default.is) (c.in_ok-no_parts.ensures.parts v)

pub returns-in_err-no_parts-clause-fetched : goal.returns-in_err-no_parts-clause-fetched
returns-in_err-no_parts-clause-fetched g c =
    subst (λ (o : Option Geometry). FetchesWholeBy g.V.View c.args.view.now c.args.view.now o) (sym c.in_default.is) (g.met.V.View.fetched_none c.args.view.now)

pub returns-in_default-clause-fetched : goal.returns-in_default-clause-fetched
returns-in_default-clause-fetched g c =
    subst (λ (o : Option Geometry). FetchesWholeBy g.V.View c.args.view.now c.args.view.now o) (sym c.in_default.is) (g.met.V.View.fetched_none c.args.view.now)

pub returns-in_err-beyond-clause-fetched : goal.returns-in_err-beyond-clause-fetched
returns-in_err-beyond-clause-fetched g c =
    subst (λ (o : Option Geometry). FetchesWholeBy g.V.View c.args.view.now c.args.view.now o) (sym c.in-Some.is)
    (only_none (IsMetadataBy c.in-Some.g) c.args.view.now (g.met.V.View.fetched_none c.args.view.now))

pub returns-clause-fetched : goal.returns-clause-fetched
returns-clause-fetched g c =
    let old = c.args.view.now in
    let new = c.read_parts.new.view in
    let n = c.shape-l.result.1 in
    let beyond = c.deref.result.now in
    subst (λ (o : Option Geometry). FetchesWholeBy g.V.View old new o) (sym c.in-Some.is)
    (fresh_only g.V.View g.met.V.View.fetched_both (StandsWhole g.V.View old) (g.V.View.tells new) c.in-Some.g n (IsClaimedRead g.V.View old new c.in-Some.g n beyond) old new
    (λ place claimed told v holds.
    claimed told v (holds.0)
    (c.deref.ensures.value ∙ c.in_ok-beyond.ensures ∙ ap (λ (l : ℕ). replicate l 0) c.shape-l.ensures.size
    ∙ past_end (g.V.View.size old) n v (holds.1 ∙ sym c.shape-l.ensures.count)))
    c.read_parts.ensures.fetched)
