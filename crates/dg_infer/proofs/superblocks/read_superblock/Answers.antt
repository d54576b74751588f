use Rattle.std.proofs.Common.{◌∙◌, ◌/◌, refl}
use Rattle.dg_infer.proofs.FetchedLaws.{ok_map, some_map}
use Rattle.dg_infer.proofs.VolumeLaws.{super_read}
use Rattle.dg_infer.proofs.superblocks.read_superblock.Goals as goal

pub returns-clause-geometry : goal.returns-clause-geometry
returns-clause-geometry g c =
    ok_map c.superblock_in.result _ _ (λ read value. some_map read _ _ (λ found is told v holds has.
    is ∙ super_read (g.V.View.size c.args.view.now) (g.V.View.count c.args.view.now) c.fragment_bytes-l.result c.shape-n.result.1 v c.in-Some.area.items (8192 / c.fragment_bytes-l.result)
    c.min-inside.result c.div_ceil-count.result _ (c.fragment_bytes-l.ensures.value ∙ c.requires.levels) c.shape-n.ensures.count refl c.div_ceil-count.ensures c.min-inside.ensures refl
    (rw c.in-Some.is at c.in_ok-area.ensures.room) (rw c.in-Some.is at c.in_ok-area.ensures.area told v holds has)) value) c.superblock_in.ensures.value
