use Rattle.std.proofs.Common.{◌+◌, ◌<◌, ◌≡◌, ℕ, length, refl, sym, subst, ◌∙◌, arith, inl, ap}
use Rattle.dg_io.specs.Told.{patch}
use Rattle.dg_parity.specs.Groups.{is_out, Holds}
use Rattle.dg_parity.specs.Runs.{mixed, ArePages, IsWindow}
use Rattle.dg_parity.proofs.GroupLemmas.{leaves-then, leaves_none, in-before}
use Rattle.dg_parity.proofs.CallLemmas.{told-back}
use Rattle.dg_parity.proofs.LaidSteps.{laid-mixed, mixed-laid}
use Rattle.dg_parity.proofs.RunSteps.{stays-then}
use Rattle.dg_parity.specs.Updates.{writes_in, writes_on}
use Rattle.dg_parity.specs.declared.groups.Group.{Group}
use Rattle.dg_model.specs.Moves.{sum_upto}
use Rattle.dg_model.proofs.SumLaws.{sum_more, sum_swap}
use Rattle.dg_parity.proofs.UpdateLemmas.{window-sum, within-is, within-none, within-of, within-then}
use Rattle.dg_parity.proofs.run_writes.write_rows.Goals as goal

pub write_row-requires : goal.write_row-requires
write_row-requires g c =
    let later = c.loop-j.invariant.leaves.later in
    record {
      ready = c.loop-j.invariant.leaves.ready;
      disk = subst (λ (n : ℕ). c.loop-j.j < n) (sym later.disks) (omega arith);
      some = c.requires.some;
      range = omega (arith, c.requires.range, later.size);
      window = subst (λ (n : ℕ). IsWindow n c.args.at (length c.args.piece.now) c.args.window) (sym later.disks) c.requires.window;
      room = c.requires.room;
    }

pub loop-j-init : goal.loop-j-init
loop-j-init g c = record {
  end = refl;
  leaves = leaves_none g.R.Rack c.args.group.now c.args.rack.now c.requires.ready;
  put = λ bytes size all pages held. laid-mixed g.R.Rack c.args.group.now c.args.rack.now c.args.group.now.disks bytes (patch bytes c.args.at c.args.piece.now) held;
  steady = inl refl;
  few = within-none g.R.Rack _ c.args.group.now c.args.rack.now;
  calls = omega arith;
}

pub loop-j-preserved : goal.loop-j-preserved
loop-j-preserved g c =
    let later = c.loop-j.invariant.leaves.later in
    record {
      end = refl;
      leaves = leaves-then g.R.Rack _ _ _ _ _ _ c.loop-j.invariant.leaves c.write_row.ensures.leaves;
      put = λ bytes size all pages held.
          let next = patch bytes c.args.at c.args.piece.now in
          let back = told-back g.R.Rack _ _ _ _ c.write_row.ensures.leaves all in
          subst (λ (n : ℕ). Holds g.R.Rack c.write_row.new.group c.write_row.new.rack (mixed n bytes next (c.loop-j.j + 1))) later.disks
          (c.write_row.ensures.put bytes (size ∙ sym later.size) all
          (subst (λ (n : ℕ). ArePages n c.args.window.first c.args.window.count (is_out c.loop-j.group) next c.args.parities.now) (sym later.disks)
          (λ q r within small in0. pages q r within small (in-before c.args.group.now c.loop-j.group _ later in0)))
          (subst (λ (n : ℕ). Holds g.R.Rack c.loop-j.group c.loop-j.rack (mixed n bytes next c.loop-j.j)) (sym later.disks) (c.loop-j.invariant.put bytes size back pages held)));
      steady = stays-then c.args.group.now c.loop-j.group c.write_row.new.group c.write_row.ensures.leaves.later c.loop-j.invariant.steady c.write_row.ensures.steady;
      few =
          let own = λ (k : Group). sum_upto c.args.window.count (λ q. writes_on k.disks (is_out k) c.args.at (length c.args.piece.now) (c.args.window.first + q) c.loop-j.j) in
          let more =
          sum_more (λ j. sum_upto c.args.window.count (λ q. writes_on c.args.group.now.disks (is_out c.args.group.now) c.args.at (length c.args.piece.now) (c.args.window.first + q) j))
          c.loop-j.j (c.loop-j.j + 1) refl in
          within-then g.R.Rack own _ _ c.args.group.now c.loop-j.group c.write_row.new.group _ _ _ c.write_row.ensures.leaves.later (omega (arith, more)) c.loop-j.invariant.few
          (within-of g.R.Rack _ c.loop-j.group c.write_row.new.group _ _ c.write_row.ensures.steady c.write_row.ensures.few);
      calls = omega (arith, c.loop-j.invariant.calls, c.write_row.ensures.calls);
    }

pub returns-clause-put : goal.returns-clause-put
returns-clause-put g c bytes size all pages held =
    let end : c.loop-j.j ≡ c.args.group.now.disks = omega arith in
    mixed-laid g.R.Rack c.loop-j.group c.loop-j.rack c.args.group.now.disks bytes (patch bytes c.args.at c.args.piece.now) c.loop-j.invariant.leaves.later.disks
    (subst (λ (k : ℕ). Holds g.R.Rack c.loop-j.group c.loop-j.rack (mixed c.args.group.now.disks bytes (patch bytes c.args.at c.args.piece.now) k)) end
    (c.loop-j.invariant.put bytes size all pages held))

pub returns-clause-steady : goal.returns-clause-steady
returns-clause-steady g c = c.loop-j.invariant.steady

pub returns-clause-few : goal.returns-clause-few
returns-clause-few g c =
    let n = c.args.group.now.disks in
    let own = λ (t : ℕ). λ (j : ℕ). writes_on n (is_out c.args.group.now) c.args.at (length c.args.piece.now) t j in
    let end : c.loop-j.j ≡ n = omega arith in
    within-is g.R.Rack _ _ _ _ _ _
    (ap (λ (m : ℕ). sum_upto m (λ j. sum_upto c.args.window.count (λ q. own (c.args.window.first + q) j))) end
    ∙ sum_swap (λ j q. own (c.args.window.first + q) j) n c.args.window.count
    ∙ window-sum (λ t. writes_in n (is_out c.args.group.now) c.args.at (length c.args.piece.now) t) n c.args.at (length c.args.piece.now) c.args.window c.requires.some c.requires.window)
    c.loop-j.invariant.few
