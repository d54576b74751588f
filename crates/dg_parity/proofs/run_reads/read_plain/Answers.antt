use Rattle.std.proofs.Common.{◌≡◌, ◌+◌, ℕ, false, get_or, inl, inr, refl, sym, ap, subst, ◌∙◌, arith}
use Rattle.std.proofs.lemmas.Bool.{cases_eq}
use Rattle.dg_parity.specs.Stripes.{spot_of}
use Rattle.dg_parity.specs.Groups.{is_out, length_of}
use Rattle.dg_parity.specs.declared.groups.Group.{Group}
use Rattle.dg_parity.proofs.GroupLemmas.{leaves-then}
use Rattle.dg_parity.proofs.CallLemmas.{holds-then, told-back}
use Rattle.dg_parity.proofs.RunSteps.{calls-in, idle-calls, in-up, fell-from, window-same}
use Rattle.dg_parity.proofs.run_reads.read_plain.Goals as goal

pub read_wanted-requires-clause-there : goal.read_wanted-requires-clause-there
read_wanted-requires-clause-there g c k lt =
    subst (λ (group : Group). is_out group (spot_of group.disks (c.args.at + k)).disk ≡ false) (sym c.loop-j.invariant.same) (c.requires.there k (omega (arith, c.loop-j.auto.buf, lt)))

pub read_wanted-requires-clause-window : goal.read_wanted-requires-clause-window
read_wanted-requires-clause-window g c =
    window-same _ _ c.args.at _ _ c.args.window (ap (λ (group : Group). group.disks) (sym c.loop-j.invariant.same)) (sym c.loop-j.auto.buf) c.requires.window

pub read_wanted-requires-clause-below : goal.read_wanted-requires-clause-below
read_wanted-requires-clause-below g c = omega (arith, c.loop-j.auto.row, ap length_of c.loop-j.invariant.same, c.requires.below)

pub returns-then-not-read_wanted-clause-leaves : goal.returns-then-not-read_wanted-clause-leaves
returns-then-not-read_wanted-clause-leaves g c = leaves-then g.R.Rack _ _ _ _ _ _ c.loop-j.invariant.leaves c.read_wanted.ensures.leaves

pub returns-then-not-read_wanted-clause-holds : goal.returns-then-not-read_wanted-clause-holds
returns-then-not-read_wanted-clause-holds g c = holds-then g.R.Rack _ _ _ _ _ _ c.read_wanted.ensures.leaves c.loop-j.invariant.holds c.read_wanted.ensures.holds

pub returns-then-not-read_wanted-clause-fell : goal.returns-then-not-read_wanted-clause-fell
returns-then-not-read_wanted-clause-fell g c = fell-from c.args.group.now c.loop-j.group c.read_wanted.new.group c.loop-j.invariant.same c.if-not-read_wanted.ensures.fell

pub loop-j-preserved : goal.loop-j-preserved
loop-j-preserved g c = record {
  end = refl;
  same = c.if-not-read_wanted.ensures.done ∙ c.loop-j.invariant.same;
  leaves = leaves-then g.R.Rack _ _ _ _ _ _ c.loop-j.invariant.leaves c.read_wanted.ensures.leaves;
  holds = holds-then g.R.Rack _ _ _ _ _ _ c.read_wanted.ensures.leaves c.loop-j.invariant.holds c.read_wanted.ensures.holds;
  got = λ has all held k lt low.
      let back = told-back g.R.Rack _ _ _ _ c.read_wanted.ensures.leaves all in
      let n : c.loop-j.group.disks ≡ c.args.group.now.disks = ap (λ (group : Group). group.disks) c.loop-j.invariant.same in
      elim (cases_eq (spot_of c.args.group.now.disks (c.args.at + k)).disk c.loop-j.j) [
        | inl e ↦
            subst (λ (d : ℕ). get_or c.read_wanted.new.buf k 0 ≡ has d (spot_of c.args.group.now.disks (c.args.at + k)).place) (sym e)
            (subst (λ (m : ℕ). get_or c.read_wanted.new.buf k 0 ≡ has c.loop-j.j (spot_of m (c.args.at + k)).place) n
            (c.if-not-read_wanted.ensures.own has all (c.loop-j.invariant.holds has back held) k lt (subst (λ (m : ℕ). (spot_of m (c.args.at + k)).disk ≡ c.loop-j.j) (sym n) e)))
        | inr ne ↦
            c.if-not-read_wanted.ensures.disks k (omega (arith, lt, c.read_wanted.auto.buf)) (λ e. ne (subst (λ (m : ℕ). (spot_of m (c.args.at + k)).disk ≡ c.loop-j.j) n e))
            ∙ c.loop-j.invariant.got has back held k (omega (arith, lt, c.read_wanted.auto.buf)) (omega (arith, low, ne))
      ];
  calls = calls-in c.args.group.now c.loop-j.j _ _ _
      (λ out. idle-calls g.R.Rack _ _ (c.read_wanted.ensures.idle (ap (λ (group : Group). is_out group c.loop-j.j) c.loop-j.invariant.same ∙ out)))
      c.read_wanted.ensures.calls c.loop-j.invariant.calls;
}

pub returns-then-not-read_wanted-clause-calls : goal.returns-then-not-read_wanted-clause-calls
returns-then-not-read_wanted-clause-calls g c =
    omega (
      arith,
      in-up c.args.group.now (c.loop-j.j + 1) c.args.group.now.disks (omega arith),
      calls-in c.args.group.now c.loop-j.j _ _ _
          (λ out. idle-calls g.R.Rack _ _ (c.read_wanted.ensures.idle (ap (λ (group : Group). is_out group c.loop-j.j) c.loop-j.invariant.same ∙ out)))
          c.read_wanted.ensures.calls c.loop-j.invariant.calls,
    )

pub returns-clause-got : goal.returns-clause-got
returns-clause-got g c has all held k lt low = c.loop-j.invariant.got has all held k lt (omega (arith, low))
