use Rattle.std.proofs.Common.{◌≡◌, ◌+◌, ◌-◌, ◌*◌, ◌++◌, ℕ, false, length, take, drop, get_or, inl, inr, refl, sym, ap, subst, ◌∙◌, arith}
use Rattle.std.proofs.lemmas.List.{length-take-le, length-drop}
use Rattle.std.proofs.lemmas.Bool.{cases_eq}
use borrow.Rule.Slice.PartMut.{post_of, same_len_mid}
use Rattle.dg_io.specs.Told.{patch}
use Rattle.dg_parity.specs.Stripes.{parity_of}
use Rattle.dg_parity.specs.Groups.{is_out, Holds, MostCalls}
use Rattle.dg_parity.specs.Runs.{laid, IsPage, IsWhole}
use Rattle.dg_parity.proofs.GroupLemmas.{leaves-then, leaves_none, in-before, same-length}
use Rattle.dg_parity.proofs.CallLemmas.{told-back, holds-then}
use Rattle.dg_parity.proofs.MemberSteps.{mid-before, mid-inside, not-true}
use Rattle.dg_parity.proofs.RunSteps.{window-below, window-small, idle-calls, stays-then}
use Rattle.dg_parity.proofs.WriteSteps.{read-none, read-next, whole-is}
use Rattle.dg_parity.specs.Updates.{least_reads}
use Rattle.dg_parity.specs.declared.groups.Group.{Group}
use Rattle.dg_model.proofs.SumLaws.{sum_more}
use Rattle.dg_model.specs.Moves.{sum_upto}
use Rattle.dg_parity.proofs.UpdateLemmas.{window-sum, within-is, within-none, within-then}
use Rattle.dg_parity.proofs.run_writes.make_pages.Goals as goal

pub make_page-requires-clause-range : goal.make_page-requires-clause-range
make_page-requires-clause-range g c = omega (arith, c.requires.range, c.loop-q.invariant.leaves.later.size)

pub make_page-requires-clause-stripe : goal.make_page-requires-clause-stripe
make_page-requires-clause-stripe g c =
    omega (
      arith,
      window-below c.args.group.now.disks c.args.at (length c.args.piece.now) c.args.group.now.length c.args.window c.args.group.now.least c.requires.some c.requires.range c.requires.window,
      same-length c.args.group.now c.loop-q.group c.loop-q.invariant.leaves.later,
    )

pub loop-q-preserved : goal.loop-q-preserved
loop-q-preserved g c =
    let q = c.loop-q.q in
    let low = 512 * q in
    let count = 512 * q + 512 - 512 * q in
    let n : c.loop-q.group.disks ≡ c.args.group.now.disks = c.loop-q.invariant.leaves.later.disks in
    let later = c.loop-q.invariant.leaves.later in
    let cut : length (take count (drop low c.loop-q.parities)) ≡ count =
    length-take-le count (drop low c.loop-q.parities) (omega (arith, length-drop low c.loop-q.parities, c.loop-q.invariant.size, c.requires.room)) in
    let size : length c.make_page.new.page ≡ 512 = omega (arith, cut, c.make_page.auto.page) in
    let zs = post_of low count c.loop-q.parities in
    record {
      end = refl;
      size = same_len_mid low count c.loop-q.parities c.make_page.new.page c.make_page.auto.page ∙ c.loop-q.invariant.size;
      alive = not-true _ c.if-not-make_page.ensures.alive;
      leaves = leaves-then g.R.Rack _ _ _ _ _ _ c.loop-q.invariant.leaves c.make_page.ensures.leaves;
      holds = holds-then g.R.Rack _ _ _ _ _ _ c.make_page.ensures.leaves c.loop-q.invariant.holds c.make_page.ensures.holds;
      right = λ bytes long all held i r lt small in0.
          let back = told-back g.R.Rack _ _ _ _ c.make_page.ensures.leaves all in
          let next = patch bytes c.args.at c.args.piece.now in
          elim (cases_eq i q) [
            | inl e ↦
                subst (λ (k : ℕ). get_or (take low c.loop-q.parities ++ (c.make_page.new.page ++ zs)) (512 * k + r) 0 ≡ laid c.args.group.now.disks next (parity_of c.args.group.now.disks (c.args.window.first + k)) (512 + 512 * (c.args.window.first + k) + r)) (sym e)
                (mid-inside c.loop-q.parities c.make_page.new.page zs low (512 * q + r) (omega arith) (omega (arith, size, small)) (omega (arith, c.loop-q.invariant.size, c.requires.room))
                ∙ ap (λ (k : ℕ). get_or c.make_page.new.page k 0) (omega arith)
                ∙ subst (λ (m : ℕ). IsPage m (c.args.window.first + q) next c.make_page.new.page) n
                (c.if-not-make_page.ensures.right bytes (long ∙ sym later.size) all
                (subst (λ (m : ℕ). Holds g.R.Rack c.loop-q.group c.loop-q.rack (laid m bytes)) (sym n) (c.loop-q.invariant.holds (laid c.args.group.now.disks bytes) back held))
                (subst (λ (m : ℕ). is_out c.make_page.new.group (parity_of m (c.args.window.first + q)) ≡ false) (sym n)
                (subst (λ (k : ℕ). is_out c.make_page.new.group (parity_of c.args.group.now.disks (c.args.window.first + k)) ≡ false) e in0))) r small)
            | inr ne ↦
                mid-before c.loop-q.parities c.make_page.new.page zs low (512 * i + r) (omega (arith, lt, ne, small)) (omega (arith, c.loop-q.invariant.size, c.requires.room))
                ∙ c.loop-q.invariant.right bytes long back held i r (omega (arith, lt, ne)) small (in-before c.loop-q.group c.make_page.new.group _ c.make_page.ensures.leaves.later in0)
          ];
      steady = stays-then c.args.group.now c.loop-q.group c.make_page.new.group c.make_page.ensures.leaves.later c.loop-q.invariant.steady c.if-not-make_page.ensures.steady;
      few =
          let own = λ (k : Group). least_reads k.disks (is_out k) c.args.at (length c.args.piece.now) (c.args.window.first + q) in
          let more =
          sum_more (λ i. least_reads c.args.group.now.disks (is_out c.args.group.now) c.args.at (length c.args.piece.now) (c.args.window.first + i)) q (q + 1) refl in
          within-then g.R.Rack own _ _ c.args.group.now c.loop-q.group c.make_page.new.group _ _ _ c.make_page.ensures.leaves.later (omega (arith, more)) c.loop-q.invariant.few
          c.if-not-make_page.ensures.few;
      reads = read-next c.args.group.now.disks c.args.at (c.args.at + length c.args.piece.now) c.args.window.count c.loop-q.q _ _ _ (omega arith)
          (subst (λ (m : ℕ). MostCalls g.R.Rack ((m + 1) * m) c.loop-q.rack c.make_page.new.rack) c.loop-q.invariant.leaves.later.disks c.make_page.ensures.calls)
          (λ first last. idle-calls g.R.Rack _ _ (c.make_page.ensures.whole (subst (λ (m : ℕ). IsWhole m (c.args.window.first + c.loop-q.q) c.args.at (length c.args.piece.now))
          (sym c.loop-q.invariant.leaves.later.disks)
          (whole-is c.args.group.now.disks c.args.at (length c.args.piece.now) c.loop-q.q c.args.window c.args.group.now.least c.requires.some c.requires.window (omega arith) first last))))
          c.loop-q.invariant.reads;
    }

pub returns-then-not-make_page-clause-leaves : goal.returns-then-not-make_page-clause-leaves
returns-then-not-make_page-clause-leaves g c = leaves-then g.R.Rack _ _ _ _ _ _ c.loop-q.invariant.leaves c.make_page.ensures.leaves

pub returns-then-not-make_page-clause-holds : goal.returns-then-not-make_page-clause-holds
returns-then-not-make_page-clause-holds g c = holds-then g.R.Rack _ _ _ _ _ _ c.make_page.ensures.leaves c.loop-q.invariant.holds c.make_page.ensures.holds

pub returns-then-not-make_page-clause-calls : goal.returns-then-not-make_page-clause-calls
returns-then-not-make_page-clause-calls g c =
    let next =
    read-next c.args.group.now.disks c.args.at (c.args.at + length c.args.piece.now) c.args.window.count c.loop-q.q _ _ _ (omega arith)
    (subst (λ (m : ℕ). MostCalls g.R.Rack ((m + 1) * m) c.loop-q.rack c.make_page.new.rack) c.loop-q.invariant.leaves.later.disks c.make_page.ensures.calls)
    (λ first last. idle-calls g.R.Rack _ _ (c.make_page.ensures.whole (subst (λ (m : ℕ). IsWhole m (c.args.window.first + c.loop-q.q) c.args.at (length c.args.piece.now))
    (sym c.loop-q.invariant.leaves.later.disks)
    (whole-is c.args.group.now.disks c.args.at (length c.args.piece.now) c.loop-q.q c.args.window c.args.group.now.least c.requires.some c.requires.window (omega arith) first last))))
    c.loop-q.invariant.reads in
    next.all

pub returns-clause-calls : goal.returns-clause-calls
returns-clause-calls g c = c.loop-q.invariant.reads.all

pub returns-clause-right : goal.returns-clause-right
returns-clause-right g c bytes size all held q r lt small in0 = c.loop-q.invariant.right bytes size all held q r (omega (arith, lt)) small in0

pub loop-q-init : goal.loop-q-init
loop-q-init g c = record {
  end = refl;
  size = refl;
  alive = c.requires.alive;
  leaves = leaves_none g.R.Rack c.args.group.now c.args.rack.now c.requires.ready;
  holds = λ has all held. held;
  right = λ bytes size all held q r lt. absurd (omega (arith, lt));
  steady = inl refl;
  few = within-none g.R.Rack _ c.args.group.now c.args.rack.now;
  reads = read-none _ _ _ _ _;
}

pub make_page-requires-clause-small : goal.make_page-requires-clause-small
make_page-requires-clause-small g c =
    omega (arith, window-small c.args.group.now.disks c.args.at (length c.args.piece.now) c.args.window c.requires.window c.requires.long)

pub returns-clause-steady : goal.returns-clause-steady
returns-clause-steady g c = c.loop-q.invariant.steady

pub returns-clause-few : goal.returns-clause-few
returns-clause-few g c =
    let own = λ (t : ℕ). least_reads c.args.group.now.disks (is_out c.args.group.now) c.args.at (length c.args.piece.now) t in
    let end : c.loop-q.q ≡ c.args.window.count = omega arith in
    within-is g.R.Rack _ _ _ _ _ _
    (ap (λ (m : ℕ). sum_upto m (λ q. own (c.args.window.first + q))) end
    ∙ window-sum own c.args.group.now.disks c.args.at (length c.args.piece.now) c.args.window c.requires.some c.requires.window)
    c.loop-q.invariant.few
