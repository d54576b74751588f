use Rattle.std.proofs.Common.{◌+◌, ◌≤◌, ◌++◌, ℕ, List, arith, subst}
use Rattle.std.specs.Option.{option_map}
use Rattle.dg_io.specs.Told.{Told, IsSame}
use Rattle.dg_run.proofs.ToldSteps.{Told-filled}
use Rattle.dg_run.proofs.input.Input.fill.Goals as goal

pub returns-clause-same : goal.returns-clause-same
returns-clause-same g c =
    let m = c.make_room.new.self in
    let front = c.in_ok-n.ensures.front in
    let gave = c.in_ok-n.ensures.gave in
    let unread = c.make_room.ensures.unread in
    let ordered : m.at ≤ m.end = omega arith in
    subst (λ (u : List ℕ). Told IsSame (option_map (λ more. u ++ more) (g.S.Source.left c.args.source.now)) (option_map (λ more. Rattle.std.specs.Prelude.slice_range c.read_behind.new.bytes.items m.at (m.end + c.in_ok-n.n) ++ more) (g.S.Source.left c.read_behind.new.source))) unread
    (Told-filled m.bytes.items c.read_behind.new.bytes.items m.at m.end c.in_ok-n.n _ _ ordered (omega arith) front gave)
