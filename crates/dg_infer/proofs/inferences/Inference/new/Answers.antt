use Rattle.std.proofs.Common.{None}
use Rattle.std.proofs.lemmas.List.{length-replicate}
use Rattle.std.specs.Prelude.{replicate}
use Rattle.dg_model.specs.Blocks.{zeros}
use Rattle.dg_infer.proofs.BlankLaws.{all_false, blank}
use Rattle.dg_infer.proofs.WriteLaws.{TableLaws, bare_marks, stands_anew}
use Rattle.dg_infer.proofs.inferences.Inference.new.Goals as goal

pub returns-clause-pending : goal.returns-clause-pending
returns-clause-pending c = all_false c.in_ok-pending.pending.items c.args.n c.in_ok-pending.ensures.room c.in_ok-pending.ensures.none

pub returns-clause-stands : goal.returns-clause-stands
returns-clause-stands c =
    let laws : TableLaws = record { accepted = c.tables_of_volumes.ensures.accepted; refused = c.tables_of_volumes.ensures.refused; claims = c.tables_of_volumes.ensures.claims } in
    let w = replicate c.args.n (zeros c.args.l) in
    (stands_anew laws c.args.l c.args.n w None c.in_ok-parts.parts.claims c.in_ok-parts.parts.kinds.entries c.in_ok-pending.pending.items c.in_ok-parts.parts.free.items c.in_ok-pending.pending.items
    (length-replicate c.args.n (zeros c.args.l)) (blank c.args.l c.args.n) c.in_ok-parts.ensures.geometry (c.in_ok-parts.ensures.parts w)
    (bare_marks c.in_ok-pending.pending.items _ c.in_ok-pending.ensures.none)).0
