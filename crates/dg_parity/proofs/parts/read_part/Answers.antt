use Rattle.std.proofs.Common.{ℕ, subst, arith, inl, inr, sym, ◌∙◌}
use Rattle.dg_parity.proofs.GroupLemmas.{leaves-then}
use Rattle.dg_parity.proofs.CallLemmas.{told-back, holds-then, even-later}
use Rattle.dg_parity.proofs.RunSteps.{fell-later}
use Rattle.std.specs.Bool.{OnTrue}
use Rattle.dg_parity.specs.Groups.{is_out}
use Rattle.dg_parity.specs.Updates.{StaysWithin}
use Rattle.dg_parity.proofs.UpdateLemmas.{get-in, get-out}
use Rattle.dg_parity.proofs.parts.read_part.Goals as goal

pub returns-then-not-make_part-clause-leaves : goal.returns-then-not-make_part-clause-leaves
returns-then-not-make_part-clause-leaves g c = leaves-then g.R.Rack _ _ _ _ _ _ c.read_disk.ensures.leaves c.make_part-2.ensures.leaves

pub returns-then-not-make_part-clause-holds : goal.returns-then-not-make_part-clause-holds
returns-then-not-make_part-clause-holds g c = holds-then g.R.Rack _ _ _ _ _ _ c.make_part-2.ensures.leaves c.read_disk.ensures.holds c.make_part-2.ensures.holds

pub returns-clause-leaves : goal.returns-clause-leaves
returns-clause-leaves g c = leaves-then g.R.Rack _ _ _ _ _ _ c.read_disk.ensures.leaves c.make_part-2.ensures.leaves

pub returns-clause-holds : goal.returns-clause-holds
returns-clause-holds g c = holds-then g.R.Rack _ _ _ _ _ _ c.make_part-2.ensures.leaves c.read_disk.ensures.holds c.make_part-2.ensures.holds

pub returns-clause-got : goal.returns-clause-got
returns-clause-got g c has all held even k lt =
    c.if-not-make_part.ensures.got has all
    (c.read_disk.ensures.holds has (told-back g.R.Rack _ _ _ _ c.make_part-2.ensures.leaves all) held)
    (even-later _ _ has c.read_disk.ensures.leaves.later even) k lt

pub returns-then-not-make_part-clause-calls : goal.returns-then-not-make_part-clause-calls
returns-then-not-make_part-clause-calls g c = omega (arith, c.read_disk.ensures.calls, c.make_part-2.ensures.calls, c.read_disk.ensures.leaves.later.disks)

pub returns-clause-calls : goal.returns-clause-calls
returns-clause-calls g c = omega (arith, c.read_disk.ensures.calls, c.make_part-2.ensures.calls, c.read_disk.ensures.leaves.later.disks)

pub returns-then-read_disk-clause-steady : goal.returns-then-read_disk-clause-steady
returns-then-read_disk-clause-steady g c = inl c.if-read_disk.ensures.done

pub returns-clause-steady : goal.returns-clause-steady
returns-clause-steady g c =
    inr (fell-later c.args.group.now c.read_disk.new.group c.make_part-2.new.group c.make_part-2.ensures.leaves.later
    (record { disk = c.args.j; before = sym c.is_out.ensures ∙ c.if-is_out.false; now = c.if-read_disk.ensures.fell }))

pub returns-then-is_out-clause-few : goal.returns-then-is_out-clause-few
returns-then-is_out-clause-few g c =
    subst (λ (most : ℕ). OnTrue c.make_part.result (StaysWithin g.R.Rack most c.args.group.now c.make_part.new.group c.args.rack.now c.make_part.new.rack))
    (sym (get-out c.args.group.now.disks (is_out c.args.group.now) c.args.j (sym c.is_out.ensures ∙ c.if-is_out.true))) c.make_part.ensures.few

pub returns-then-read_disk-clause-few : goal.returns-then-read_disk-clause-few
returns-then-read_disk-clause-few g c =
    inl (
      c.if-read_disk.ensures.done,
      omega (arith, c.read_disk.ensures.calls, get-in c.args.group.now.disks (is_out c.args.group.now) c.args.j (sym c.is_out.ensures ∙ c.if-is_out.false)),
    )

pub returns-clause-few : goal.returns-clause-few
returns-clause-few g c =
    inr (fell-later c.args.group.now c.read_disk.new.group c.make_part-2.new.group c.make_part-2.ensures.leaves.later
    (record { disk = c.args.j; before = sym c.is_out.ensures ∙ c.if-is_out.false; now = c.if-read_disk.ensures.fell }))
