use Rattle.std.specs.Int.Bits.{xor_zero_r}
use Rattle.std.proofs.Common.{inl, ◌≡◌, ◌+◌, ◌*◌, ◌<◌, ◌≤◌, ℕ, length, refl, sym, subst, ◌∙◌, arith, get_or, bit_xor}
use Rattle.dg_io.specs.Told.{patch}
use Rattle.dg_parity.specs.Groups.{Holds, is_out}
use Rattle.dg_parity.specs.Runs.{IsWhole, laid, term_of}
use Rattle.std.proofs.Math.Nat.{mul-le-mul_left}
use Rattle.dg_parity.specs.Exclusive.{xor_upto}
use Rattle.dg_parity.proofs.CountLemmas.{mul-next}
use Rattle.dg_parity.proofs.GroupLemmas.{leaves-then, leaves_none, same-length}
use Rattle.dg_parity.proofs.CallLemmas.{holds-then, told-back, added-more}
use Rattle.dg_parity.proofs.MemberSteps.{not-true}
use Rattle.dg_parity.proofs.RunSteps.{stays-then}
use Rattle.dg_model.specs.Moves.{sum_upto}
use Rattle.dg_parity.specs.Updates.{reads_on, StaysWithin}
use Rattle.dg_parity.specs.declared.groups.Group.{Group}
use Rattle.dg_model.proofs.SumLaws.{sum_more}
use Rattle.dg_parity.proofs.UpdateLemmas.{within-none, within-then}
use Rattle.dg_parity.proofs.run_writes.add_terms.Goals as goal

pub add_term-requires : goal.add_term-requires
add_term-requires g c = record {
  ready = c.loop-j.invariant.leaves.ready;
  alive = c.loop-j.invariant.alive;
  disk = subst (λ (n : ℕ). c.loop-j.j < n) (sym c.loop-j.invariant.leaves.later.disks) (omega arith);
  some = c.requires.some;
  range = omega (arith, c.requires.range, c.loop-j.invariant.leaves.later.size);
  stripe = omega (arith, c.requires.stripe, same-length c.args.group.now c.loop-j.group c.loop-j.invariant.leaves.later);
  page = c.loop-j.auto.page ∙ c.requires.page;
}

pub returns-then-not-add_term-clause-leaves : goal.returns-then-not-add_term-clause-leaves
returns-then-not-add_term-clause-leaves g c = leaves-then g.R.Rack _ _ _ _ _ _ c.loop-j.invariant.leaves c.add_term.ensures.leaves

pub returns-then-not-add_term-clause-holds : goal.returns-then-not-add_term-clause-holds
returns-then-not-add_term-clause-holds g c = holds-then g.R.Rack _ _ _ _ _ _ c.add_term.ensures.leaves c.loop-j.invariant.holds c.add_term.ensures.holds

pub loop-j-preserved : goal.loop-j-preserved
loop-j-preserved g c =
    let n : c.loop-j.group.disks ≡ c.args.group.now.disks = c.loop-j.invariant.leaves.later.disks in
    record {
      end = refl;
      alive = not-true _ c.if-not-add_term.ensures.alive;
      leaves = leaves-then g.R.Rack _ _ _ _ _ _ c.loop-j.invariant.leaves c.add_term.ensures.leaves;
      holds = holds-then g.R.Rack _ _ _ _ _ _ c.add_term.ensures.leaves c.loop-j.invariant.holds c.add_term.ensures.holds;
      added = λ bytes size all held r lt.
          let back = told-back g.R.Rack _ _ _ _ c.add_term.ensures.leaves all in
          added-more (term_of c.args.group.now.disks c.args.t c.args.by_change bytes (patch bytes c.args.at c.args.piece.now) r) _ _ _ c.loop-j.j
          (c.loop-j.invariant.added bytes size back held r lt)
          (subst (λ (m : ℕ). get_or c.add_term.new.page r 0 ≡ bit_xor (get_or c.loop-j.page r 0) (term_of m c.args.t c.args.by_change bytes (patch bytes c.args.at c.args.piece.now) r c.loop-j.j)) n
          (c.if-not-add_term.ensures.added bytes (size ∙ sym c.loop-j.invariant.leaves.later.size) all
          (subst (λ (m : ℕ). Holds g.R.Rack c.loop-j.group c.loop-j.rack (laid m bytes)) (sym n) (c.loop-j.invariant.holds (laid c.args.group.now.disks bytes) back held)) r lt));
      idle = λ by whole.
          c.add_term.ensures.idle by (subst (λ (m : ℕ). IsWhole m c.args.t c.args.at (length c.args.piece.now)) (sym n) whole) ∙ c.loop-j.invariant.idle by whole;
      steady = stays-then c.args.group.now c.loop-j.group c.add_term.new.group c.add_term.ensures.leaves.later c.loop-j.invariant.steady c.if-not-add_term.ensures.steady;
      few =
          let own = λ (k : Group). reads_on k.disks (is_out k) c.args.at (length c.args.piece.now) c.args.t c.args.by_change c.loop-j.j in
          let more = sum_more (reads_on c.args.group.now.disks (is_out c.args.group.now) c.args.at (length c.args.piece.now) c.args.t c.args.by_change) c.loop-j.j (c.loop-j.j + 1) refl in
          within-then g.R.Rack own _ _ c.args.group.now c.loop-j.group c.add_term.new.group _ _ _ c.add_term.ensures.leaves.later (omega (arith, more)) c.loop-j.invariant.few
          c.if-not-add_term.ensures.few;
      calls = omega (arith, c.loop-j.invariant.calls, c.add_term.ensures.calls, n, mul-next (c.args.group.now.disks + 1) c.loop-j.j);
    }

pub returns-then-not-add_term-clause-idle : goal.returns-then-not-add_term-clause-idle
returns-then-not-add_term-clause-idle g c by whole =
    c.add_term.ensures.idle by (subst (λ (m : ℕ). IsWhole m c.args.t c.args.at (length c.args.piece.now)) (sym c.loop-j.invariant.leaves.later.disks) whole) ∙ c.loop-j.invariant.idle by whole

pub returns-then-not-add_term-clause-calls : goal.returns-then-not-add_term-clause-calls
returns-then-not-add_term-clause-calls g c =
    let n = c.args.group.now.disks in
    let up : (n + 1) * (c.loop-j.j + 1) ≤ (n + 1) * n = mul-le-mul_left (n + 1) (omega arith) in
    omega (arith, c.loop-j.invariant.calls, c.add_term.ensures.calls, c.loop-j.invariant.leaves.later.disks, mul-next (n + 1) c.loop-j.j, up)

pub returns-clause-calls : goal.returns-clause-calls
returns-clause-calls g c =
    let n = c.args.group.now.disks in
    let up : (n + 1) * c.loop-j.j ≤ (n + 1) * n = mul-le-mul_left (n + 1) (omega arith) in
    omega (arith, c.loop-j.invariant.calls, up)

pub returns-clause-added : goal.returns-clause-added
returns-clause-added g c bytes size all held r lt =
    let end : c.loop-j.j ≡ c.args.group.now.disks = omega arith in
    subst (λ (m : ℕ). get_or c.loop-j.page r 0 ≡ bit_xor (get_or c.args.page.now r 0)
    (xor_upto (term_of c.args.group.now.disks c.args.t c.args.by_change bytes (patch bytes c.args.at c.args.piece.now) r) m)) end
    (c.loop-j.invariant.added bytes size all held r lt)

pub returns-clause-steady : goal.returns-clause-steady
returns-clause-steady g c = c.loop-j.invariant.steady

pub returns-clause-few : goal.returns-clause-few
returns-clause-few g c =
    let end : c.loop-j.j ≡ c.args.group.now.disks = omega arith in
    subst (λ (m : ℕ). StaysWithin g.R.Rack (sum_upto m (reads_on c.args.group.now.disks (is_out c.args.group.now) c.args.at (length c.args.piece.now) c.args.t c.args.by_change))
    c.args.group.now c.loop-j.group c.args.rack.now c.loop-j.rack) end c.loop-j.invariant.few

pub loop-j-init : goal.loop-j-init
loop-j-init g c = record {
  end = refl;
  alive = c.requires.alive;
  leaves = leaves_none g.R.Rack c.args.group.now c.args.rack.now c.requires.ready;
  holds = λ has all held. held;
  added = λ bytes size all held r lt. sym (xor_zero_r (get_or c.args.page.now r 0));
  idle = λ by whole. refl;
  steady = inl refl;
  few = within-none g.R.Rack _ c.args.group.now c.args.rack.now;
  calls = omega arith;
}
