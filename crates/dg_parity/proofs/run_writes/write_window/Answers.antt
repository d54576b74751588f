use Rattle.std.proofs.lemmas.List.{length-take-le}
use Rattle.std.proofs.Common.{◌*◌, ◌≡◌, ℕ, length, sym, subst, ◌∙◌, arith}
use Rattle.dg_io.specs.Told.{patch}
use Rattle.dg_parity.specs.Groups.{is_out, Holds}
use Rattle.dg_parity.specs.Runs.{laid, ArePages, IsWindow}
use Rattle.dg_parity.proofs.BytesLemmas.{patch-length}
use Rattle.dg_parity.proofs.GroupLemmas.{leaves-then}
use Rattle.dg_parity.proofs.CallLemmas.{told-back}
use Rattle.dg_parity.proofs.MemberSteps.{stands-length}
use Rattle.dg_parity.proofs.LaidSteps.{stands-laid, laid-stands}
use Rattle.dg_parity.proofs.RunSteps.{stays-then}
use Rattle.dg_parity.proofs.UpdateSteps.{window-least}
use Rattle.dg_parity.proofs.run_writes.write_window.Goals as goal

pub write_rows-requires : goal.write_rows-requires
write_rows-requires g c =
    let later = c.make_pages.ensures.leaves.later in
    record {
      ready = c.make_pages.ensures.leaves.ready;
      some = c.requires.some;
      range = omega (arith, c.requires.range, later.size);
      window = subst (λ (n : ℕ). IsWindow n c.args.at (length c.args.piece.now) c.window_of-window.result) (sym later.disks) c.window_of-window.ensures;
      room = c.make_pages.auto.parities ∙ length-take-le (512 * c.window_of-window.result.count) _ (omega (arith, c.window_of-window.ensures.most));
    }

pub returns-then-is_lost-clause-leaves : goal.returns-then-is_lost-clause-leaves
returns-then-is_lost-clause-leaves g c = leaves-then g.R.Rack _ _ _ _ _ _ c.make_pages.ensures.leaves c.write_rows.ensures.leaves

pub returns-clause-leaves : goal.returns-clause-leaves
returns-clause-leaves g c = leaves-then g.R.Rack _ _ _ _ _ _ c.make_pages.ensures.leaves c.write_rows.ensures.leaves

pub returns-clause-put : goal.returns-clause-put
returns-clause-put g c bytes all h =
    let one = c.make_pages.ensures.leaves.later in
    let two = c.write_rows.ensures.leaves.later in
    let n = c.args.group.now.disks in
    let next = patch bytes c.args.at c.args.piece.now in
    let size : length bytes ≡ c.args.group.now.length = stands-length g.R.Rack c.args.group.now c.args.rack.now bytes h in
    let mid = told-back g.R.Rack _ _ _ _ c.write_rows.ensures.leaves all in
    let start : Holds g.R.Rack c.args.group.now c.args.rack.now (laid n bytes) = stands-laid g.R.Rack c.args.group.now c.args.rack.now bytes h in
    laid-stands g.R.Rack c.write_rows.new.group c.write_rows.new.rack next
    (patch-length bytes c.args.piece.now c.args.at (omega (arith, size, c.requires.range)) ∙ size ∙ sym one.size ∙ sym two.size)
    (subst (λ (m : ℕ). Holds g.R.Rack c.write_rows.new.group c.write_rows.new.rack (laid m next)) (sym two.disks)
    (c.write_rows.ensures.put bytes (size ∙ sym one.size) all
    (subst (λ (m : ℕ). ArePages m c.window_of-window.result.first c.window_of-window.result.count (is_out c.make_pages.new.group) next c.make_pages.new.parities) (sym one.disks)
    (c.if-not-make_pages.ensures.right bytes size mid start))
    (subst (λ (m : ℕ). Holds g.R.Rack c.make_pages.new.group c.make_pages.new.rack (laid m bytes)) (sym one.disks) (c.make_pages.ensures.holds (laid n bytes) mid start))))

pub returns-then-is_lost-clause-calls : goal.returns-then-is_lost-clause-calls
returns-then-is_lost-clause-calls g c = omega (arith, c.make_pages.ensures.calls, c.write_rows.ensures.calls, c.make_pages.ensures.leaves.later.disks)

pub returns-clause-calls : goal.returns-clause-calls
returns-clause-calls g c = omega (arith, c.make_pages.ensures.calls, c.write_rows.ensures.calls, c.make_pages.ensures.leaves.later.disks)

pub returns-clause-steady : goal.returns-clause-steady
returns-clause-steady g c =
    stays-then c.args.group.now c.make_pages.new.group c.write_rows.new.group c.write_rows.ensures.leaves.later c.if-not-make_pages.ensures.steady c.write_rows.ensures.steady

pub returns-clause-least : goal.returns-clause-least
returns-clause-least g c =
    window-least g.R.Rack c.args.group.now c.make_pages.new.group c.write_rows.new.group _ _ _ c.args.at (length c.args.piece.now) c.requires.some c.write_rows.ensures.leaves.later
    c.if-not-make_pages.ensures.few c.write_rows.ensures.few c.write_rows.ensures.calls
