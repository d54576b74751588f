use Rattle.std.proofs.Common.{◌≡◌, ◌+◌, ◌-◌, ◌/◌, ◌<◌, ◌⊎◌, ℕ, List, length, take, drop, true, refl, sym, subst, ◌∙◌, arith, inl}
use Rattle.dg_io.specs.Told.{patch}
use Rattle.dg_parity.specs.Runs.{begins, passes_in, reads_at}
use Rattle.dg_parity.specs.Stripes.{stripe_of}
use Rattle.std.proofs.lemmas.List.{length-take-le, length-drop}
use Rattle.dg_parity.specs.Groups.{MostCalls, StandsFor, is_out}
use Rattle.dg_parity.proofs.GroupLemmas.{leaves-then, leaves_none}
use Rattle.dg_parity.proofs.CallLemmas.{told-back}
use Rattle.dg_parity.proofs.MemberSteps.{stands-next, stands-length, not-true}
use Rattle.dg_parity.proofs.RunSteps.{pass-next, stays-then}
use Rattle.dg_parity.proofs.LaidSteps.{patch-none}
use Rattle.dg_parity.proofs.WriteSteps.{IsPut, put-none, put-next, cut-next}
use Rattle.dg_parity.specs.Updates.{StaysLeast}
use Rattle.dg_parity.proofs.UpdateSteps.{least-all, least-none, least-then}
use Rattle.dg_parity.proofs.members.write_member.Goals as goal

pub loop-done-init : goal.loop-done-init
loop-done-init g c = record {
  within = omega arith;
  alive = c.requires.alive;
  calls = subst (λ (l : ℕ). IsPut c.args.group.now.disks c.args.place (length c.args.buf.now) (g.R.Rack.counts c.args.rack.now).calls (g.R.Rack.counts c.args.rack.now).calls
      (passes_in c.args.group.now.disks c.args.place (length c.args.buf.now)) (passes_in c.args.group.now.disks (c.args.place + 0) l) 0)
      (let e : length c.args.buf.now ≡ length c.args.buf.now - 0 = omega arith in e)
      (subst (λ (b : ℕ). IsPut c.args.group.now.disks c.args.place (length c.args.buf.now) (g.R.Rack.counts c.args.rack.now).calls (g.R.Rack.counts c.args.rack.now).calls
      (passes_in c.args.group.now.disks c.args.place (length c.args.buf.now)) (passes_in c.args.group.now.disks b (length c.args.buf.now)) 0)
      (let e : c.args.place ≡ c.args.place + 0 = omega arith in e)
      (put-none c.args.group.now.disks c.args.place (length c.args.buf.now) (g.R.Rack.counts c.args.rack.now).calls (passes_in c.args.group.now.disks c.args.place (length c.args.buf.now))));
  steady = inl refl;
  least = inl (refl, least-none g.R.Rack c.args.group.now.disks (is_out c.args.group.now) c.args.place (length c.args.buf.now) c.args.rack.now);
  leaves = leaves_none g.R.Rack c.args.group.now c.args.rack.now c.requires.ready;
  put = λ bytes all h. subst (λ (l : List ℕ). StandsFor g.R.Rack c.args.group.now c.args.rack.now l)
      (sym (patch-none bytes c.args.place (omega (arith, stands-length g.R.Rack c.args.group.now c.args.rack.now bytes h, c.requires.range)))) h;
}

pub loop-done-preserved : goal.loop-done-preserved
loop-done-preserved g c =
    let done = c.loop-done.done in
    let part = c.in_window-part.result in
    let n = c.args.group.now.disks in
    let disks = c.loop-done.invariant.leaves.later.disks in
    let size : length (take (done + part - done) (drop done c.args.buf.now)) ≡ part =
    length-take-le (done + part - done) (drop done c.args.buf.now) (omega (arith, length-drop done c.args.buf.now, c.in_window-part.ensures.most)) ∙ omega arith in
    let more =
    pass-next n c.args.place done (length c.args.buf.now) (length c.args.buf.now) part refl c.args.group.now.least
    (c.in_window-part.ensures.some (omega arith)) c.in_window-part.ensures.most
    (subst (λ (m : ℕ). (part ≡ length c.args.buf.now - done) ⊎ (stripe_of m ((c.args.place + done + part) / 512) ≡ stripe_of m ((c.args.place + done) / 512) + 16)) disks
    c.in_window-part.ensures.whole) in
    let call =
    subst (λ (k : ℕ). MostCalls g.R.Rack (reads_at n (c.args.place + done) + reads_at n k + n) c.loop-done.rack c.write_window.new.rack) (omega (arith, size))
    (subst (λ (m : ℕ). MostCalls g.R.Rack (reads_at m (c.args.place + done) + reads_at m (c.args.place + done + length (take (done + part - done) (drop done c.args.buf.now))) + m)
    c.loop-done.rack c.write_window.new.rack) disks c.write_window.ensures.calls) in
    let next =
    put-next n c.args.place (length c.args.buf.now) _ _ _ _ _ _ done part (omega arith) (c.in_window-part.ensures.some (omega arith)) (omega (arith, c.in_window-part.ensures.most)) more
    (cut-next n c.args.place done part (length c.args.buf.now) (omega arith)
    (subst (λ (m : ℕ). (part ≡ length c.args.buf.now - done) ⊎ (begins m (c.args.place + done + part) ≡ true)) disks c.in_window-part.ensures.begins))
    call c.loop-done.invariant.calls in
    record {
      within = omega (arith, c.in_window-part.ensures.most);
      calls = next;
      alive = not-true _ c.if-not-write_window.ensures.alive;
      steady = stays-then c.args.group.now c.loop-done.group c.write_window.new.group c.write_window.ensures.leaves.later c.loop-done.invariant.steady c.if-not-write_window.ensures.steady;
      least =
          least-then g.R.Rack c.args.place (length c.args.buf.now) _ _ _ done part c.args.group.now c.loop-done.group c.write_window.new.group _ _ _
          (c.in_window-part.ensures.some (omega arith)) (omega (arith, c.in_window-part.ensures.most)) more
          (λ ne. c.loop-done.invariant.calls.cut ne (omega arith))
          (cut-next n c.args.place done part (length c.args.buf.now) (omega arith)
          (subst (λ (m : ℕ). (part ≡ length c.args.buf.now - done) ⊎ (begins m (c.args.place + done + part) ≡ true)) disks c.in_window-part.ensures.begins))
          (subst (λ (m : ℕ). stripe_of m ((c.args.place + done + (part - 1)) / 512) < stripe_of m ((c.args.place + done) / 512) + 16) disks
          (c.in_window-part.ensures.window (part - 1) (omega (arith, c.in_window-part.ensures.some (omega arith)))))
          c.write_window.ensures.leaves.later
          (subst (λ (k : ℕ). StaysLeast g.R.Rack c.loop-done.group.disks (is_out c.loop-done.group) (c.args.place + done) k c.loop-done.group c.write_window.new.group
          c.loop-done.rack c.write_window.new.rack) size c.if-not-write_window.ensures.least)
          c.loop-done.invariant.least;
      leaves = leaves-then g.R.Rack _ _ _ _ _ _ c.loop-done.invariant.leaves c.write_window.ensures.leaves;
      put = λ bytes all h.
          let back = told-back g.R.Rack _ _ _ _ c.write_window.ensures.leaves all in
          stands-next g.R.Rack c.write_window.new.group c.write_window.new.rack bytes c.args.buf.now c.args.place c.loop-done.done c.in_window-part.result
          (omega (arith, c.in_window-part.ensures.most)) (omega (arith, stands-length g.R.Rack c.args.group.now c.args.rack.now bytes h, c.requires.range))
          (c.if-not-write_window.ensures.put (patch bytes c.args.place (take c.loop-done.done c.args.buf.now)) all (c.loop-done.invariant.put bytes back h));
    }

pub returns-then-not-write_window-clause-calls : goal.returns-then-not-write_window-clause-calls
returns-then-not-write_window-clause-calls g c =
    let done = c.loop-done.done in
    let part = c.in_window-part.result in
    let n = c.args.group.now.disks in
    let disks = c.loop-done.invariant.leaves.later.disks in
    let size : length (take (done + part - done) (drop done c.args.buf.now)) ≡ part =
    length-take-le (done + part - done) (drop done c.args.buf.now) (omega (arith, length-drop done c.args.buf.now, c.in_window-part.ensures.most)) ∙ omega arith in
    let more =
    pass-next n c.args.place done (length c.args.buf.now) (length c.args.buf.now) part refl c.args.group.now.least
    (c.in_window-part.ensures.some (omega arith)) c.in_window-part.ensures.most
    (subst (λ (m : ℕ). (part ≡ length c.args.buf.now - done) ⊎ (stripe_of m ((c.args.place + done + part) / 512) ≡ stripe_of m ((c.args.place + done) / 512) + 16)) disks
    c.in_window-part.ensures.whole) in
    let call =
    subst (λ (k : ℕ). MostCalls g.R.Rack (reads_at n (c.args.place + done) + reads_at n k + n) c.loop-done.rack c.write_window.new.rack) (omega (arith, size))
    (subst (λ (m : ℕ). MostCalls g.R.Rack (reads_at m (c.args.place + done) + reads_at m (c.args.place + done + length (take (done + part - done) (drop done c.args.buf.now))) + m)
    c.loop-done.rack c.write_window.new.rack) disks c.write_window.ensures.calls) in
    let next =
    put-next n c.args.place (length c.args.buf.now) _ _ _ _ _ _ done part (omega arith) (c.in_window-part.ensures.some (omega arith)) (omega (arith, c.in_window-part.ensures.most)) more
    (cut-next n c.args.place done part (length c.args.buf.now) (omega arith)
    (subst (λ (m : ℕ). (part ≡ length c.args.buf.now - done) ⊎ (begins m (c.args.place + done + part) ≡ true)) disks c.in_window-part.ensures.begins))
    call c.loop-done.invariant.calls in
    omega (arith, next.most)

pub returns-clause-calls : goal.returns-clause-calls
returns-clause-calls g c = omega (arith, c.loop-done.invariant.calls.most)

pub returns-then-not-write_window-clause-leaves : goal.returns-then-not-write_window-clause-leaves
returns-then-not-write_window-clause-leaves g c = leaves-then g.R.Rack _ _ _ _ _ _ c.loop-done.invariant.leaves c.write_window.ensures.leaves

pub write_window-requires-clause-window : goal.write_window-requires-clause-window
write_window-requires-clause-window g c =
    let done = c.loop-done.done in
    let part = c.in_window-part.result in
    let size : length (take (done + part - done) (drop done c.args.buf.now)) ≡ part =
    length-take-le (done + part - done) (drop done c.args.buf.now) (omega (arith, length-drop done c.args.buf.now, c.in_window-part.ensures.most)) ∙ omega arith in
    subst (λ (k : ℕ). stripe_of c.loop-done.group.disks ((c.args.place + done + (k - 1)) / 512) < stripe_of c.loop-done.group.disks ((c.args.place + done) / 512) + 16) (sym size)
    (c.in_window-part.ensures.window (part - 1) (omega (arith, c.in_window-part.ensures.some (omega arith))))

pub returns-clause-steady : goal.returns-clause-steady
returns-clause-steady g c = c.loop-done.invariant.steady

pub returns-clause-least : goal.returns-clause-least
returns-clause-least g c =
    least-all g.R.Rack c.args.place (length c.args.buf.now) _ c.loop-done.done c.args.group.now c.loop-done.group c.args.rack.now c.loop-done.rack
    (omega (arith, c.loop-done.invariant.within)) c.loop-done.invariant.least
