use Rattle.std.proofs.Common.{◌∙◌, ap, refl}
use Rattle.dg_model.specs.declared.shapes.Shape.{Shape}
use Rattle.dg_store.specs.Stores.{table_of}
use Rattle.dg_volume.proofs.BesideSteps.{reduced_by}
use Rattle.dg_volume.proofs.besides.in_use_by.Goals as goal

pub returns-clause-reduced : goal.returns-clause-reduced
returns-clause-reduced g c =
    reduced_by (table_of c.args.store.now) c.args.extra (record { boundaries = c.args.extra.boundaries; live = c.into_vec.result.items; cut = c.in_ok-cut.cut.items }) c.requires.form
    c.requires.fits refl c.into_vec.ensures (c.in_ok-cut.ensures.size ∙ ap (λ (shape : Shape). shape.n) c.shape-shape.ensures) (c.in_ok-cut.ensures.marked ∙ c.as_slice.ensures)
