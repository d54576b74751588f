use Rattle.std.proofs.Common.{◌≡◌, ◌+◌, ◌*◌, ℕ, get_or, bit_xor, inl, inr, refl, sym, ap, subst, ◌∙◌, arith}
use Rattle.std.proofs.lemmas.Bool.{cases_eq}
use Rattle.dg_parity.specs.Exclusive.{xor_upto, with_at}
use Rattle.dg_parity.specs.Stripes.{spot_of}
use Rattle.dg_parity.specs.Groups.{length_of}
use Rattle.dg_parity.specs.declared.groups.Group.{Group}
use Rattle.dg_parity.proofs.GroupLemmas.{leaves-then}
use Rattle.dg_parity.proofs.CallLemmas.{holds-then, told-back, added-more}
use Rattle.dg_parity.proofs.StripeLemmas.{disk-below}
use Rattle.dg_parity.proofs.RunSteps.{calls-in, idle-calls, in-up, fell-from, out-is, window-same}
use Rattle.dg_parity.proofs.run_reads.add_rows.Goals as goal

pub add_row-requires-clause-window : goal.add_row-requires-clause-window
add_row-requires-clause-window g c =
    window-same _ _ c.args.at _ _ c.args.window (ap (λ (group : Group). group.disks) (sym c.loop-j.invariant.same)) (sym c.loop-j.auto.buf) c.requires.window

pub add_row-requires-clause-below : goal.add_row-requires-clause-below
add_row-requires-clause-below g c = omega (arith, c.loop-j.auto.row, ap length_of c.loop-j.invariant.same, c.requires.below)

pub returns-then-not-add_row-clause-leaves : goal.returns-then-not-add_row-clause-leaves
returns-then-not-add_row-clause-leaves g c = leaves-then g.R.Rack _ _ _ _ _ _ c.loop-j.invariant.leaves c.add_row.ensures.leaves

pub returns-then-not-add_row-clause-holds : goal.returns-then-not-add_row-clause-holds
returns-then-not-add_row-clause-holds g c = holds-then g.R.Rack _ _ _ _ _ _ c.add_row.ensures.leaves c.loop-j.invariant.holds c.add_row.ensures.holds

pub returns-then-not-add_row-clause-fell : goal.returns-then-not-add_row-clause-fell
returns-then-not-add_row-clause-fell g c = fell-from c.args.group.now c.loop-j.group c.add_row.new.group c.loop-j.invariant.same c.if-not-add_row.ensures.fell

pub returns-then-not-add_row-clause-calls : goal.returns-then-not-add_row-clause-calls
returns-then-not-add_row-clause-calls g c =
    omega (
      arith,
      in-up c.args.group.now (c.loop-j.j + 1) c.args.group.now.disks (omega arith),
      calls-in c.args.group.now c.loop-j.j _ _ _
          (λ out. idle-calls g.R.Rack _ _ (c.add_row.ensures.idle (out-is c.args.group.now c.args.o c.loop-j.j c.requires.alive c.requires.out out)))
          c.add_row.ensures.calls c.loop-j.invariant.calls,
    )

pub loop-j-preserved : goal.loop-j-preserved
loop-j-preserved g c = record {
  end = refl;
  same = c.if-not-add_row.ensures.done ∙ c.loop-j.invariant.same;
  leaves = leaves-then g.R.Rack _ _ _ _ _ _ c.loop-j.invariant.leaves c.add_row.ensures.leaves;
  holds = holds-then g.R.Rack _ _ _ _ _ _ c.add_row.ensures.leaves c.loop-j.invariant.holds c.add_row.ensures.holds;
  got = λ has all held k lt low other.
      let back = told-back g.R.Rack _ _ _ _ c.add_row.ensures.leaves all in
      let n : c.loop-j.group.disks ≡ c.args.group.now.disks = ap (λ (group : Group). group.disks) c.loop-j.invariant.same in
      elim (cases_eq (spot_of c.args.group.now.disks (c.args.at + k)).disk c.loop-j.j) [
        | inl e ↦
            subst (λ (d : ℕ). get_or c.add_row.new.buf k 0 ≡ has d (spot_of c.args.group.now.disks (c.args.at + k)).place) (sym e)
            (subst (λ (m : ℕ). get_or c.add_row.new.buf k 0 ≡ has c.loop-j.j (spot_of m (c.args.at + k)).place) n
            (c.if-not-add_row.ensures.own has all (c.loop-j.invariant.holds has back held) (λ o. other (e ∙ o)) k lt
            (subst (λ (m : ℕ). (spot_of m (c.args.at + k)).disk ≡ c.loop-j.j) (sym n) e)))
        | inr ne ↦
            c.if-not-add_row.ensures.disks k (omega (arith, lt, c.add_row.auto.buf)) (λ e. ne (subst (λ (m : ℕ). (spot_of m (c.args.at + k)).disk ≡ c.loop-j.j) n e))
            ∙ c.loop-j.invariant.got has back held k (omega (arith, lt, c.add_row.auto.buf)) (omega (arith, low, ne)) other
      ];
  added = λ has all held k lt.
      let back = told-back g.R.Rack _ _ _ _ c.add_row.ensures.leaves all in
      added-more (with_at (λ (i : ℕ). has i (512 + 512 * c.args.window.first + k)) c.args.o 0) _ _ _ c.loop-j.j
      (c.loop-j.invariant.added has back held k (omega (arith, lt, c.add_row.auto.sum)))
      (c.if-not-add_row.ensures.added has all (c.loop-j.invariant.holds has back held) k lt);
  calls = calls-in c.args.group.now c.loop-j.j _ _ _
      (λ out. idle-calls g.R.Rack _ _ (c.add_row.ensures.idle (out-is c.args.group.now c.args.o c.loop-j.j c.requires.alive c.requires.out out)))
      c.add_row.ensures.calls c.loop-j.invariant.calls;
}

pub returns-clause-got : goal.returns-clause-got
returns-clause-got g c has all held k lt other =
    c.loop-j.invariant.got has all held k lt (omega (arith, disk-below c.args.group.now.disks (c.args.at + k) c.args.group.now.least)) other

pub returns-clause-added : goal.returns-clause-added
returns-clause-added g c has all held k lt =
    let end : c.loop-j.j ≡ c.args.group.now.disks = omega arith in
    subst (λ (m : ℕ). get_or c.loop-j.sum k 0 ≡ bit_xor (get_or c.args.sum.now k 0) (xor_upto (with_at (λ (i : ℕ). has i (512 + 512 * c.args.window.first + k)) c.args.o 0) m)) end
    (c.loop-j.invariant.added has all held k lt)
