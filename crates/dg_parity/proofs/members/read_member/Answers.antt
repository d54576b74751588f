use Rattle.std.proofs.Common.{◌≡◌, ◌⊎◌, ◌+◌, ◌-◌, ◌/◌, ◌<◌, ℕ, refl, sym, subst, length, take, drop, get_or, inl, inr, ap, ◌∙◌, arith}
use Rattle.std.proofs.lemmas.List.{length-take-le, length-drop}
use Rattle.std.proofs.lemmas.Bool.{cases_lt}
use borrow.Rule.Slice.PartMut.{post_of, same_len_mid}
use Rattle.dg_parity.specs.Stripes.{stripe_of}
use Rattle.dg_parity.specs.Runs.{passes_in}
use Rattle.dg_parity.proofs.GroupLemmas.{leaves-then, leaves_none}
use Rattle.dg_parity.proofs.CallLemmas.{told-back}
use Rattle.dg_parity.proofs.MemberSteps.{mid-before, mid-inside, mid-length, not-true}
use Rattle.dg_parity.proofs.RunSteps.{IsPassed, pass-next, passed-none, passed-next, passed-last, passed-most, passed-steady}
use Rattle.dg_parity.proofs.members.read_member.Goals as goal

pub loop-done-init : goal.loop-done-init
loop-done-init g c = record {
  size = refl;
  within = omega arith;
  alive = c.requires.alive;
  leaves = leaves_none g.R.Rack c.args.group.now c.args.rack.now c.requires.ready;
  stands = λ bytes all h. h;
  got = λ bytes all h k lt. absurd (omega (arith, lt));
  passes = subst (λ (l : ℕ). IsPassed g.R.Rack c.args.group.now c.args.group.now c.args.rack.now c.args.rack.now (passes_in c.args.group.now.disks c.args.place (length c.args.buf.now))
      (passes_in c.args.group.now.disks (c.args.place + 0) l)) (let e : length c.args.buf.now ≡ length c.args.buf.now - 0 = omega arith in e)
      (subst (λ (b : ℕ). IsPassed g.R.Rack c.args.group.now c.args.group.now c.args.rack.now c.args.rack.now (passes_in c.args.group.now.disks c.args.place (length c.args.buf.now))
      (passes_in c.args.group.now.disks b (length c.args.buf.now))) (let e : c.args.place ≡ c.args.place + 0 = omega arith in e)
      (passed-none g.R.Rack c.args.group.now c.args.rack.now (passes_in c.args.group.now.disks c.args.place (length c.args.buf.now))));
}

pub read_window-requires-clause-window : goal.read_window-requires-clause-window
read_window-requires-clause-window g c =
    let done = c.loop-done.done in
    let part = c.in_window-part.result in
    let size : length (take (done + part - done) (drop done c.loop-done.buf)) ≡ part =
    length-take-le (done + part - done) (drop done c.loop-done.buf) (omega (arith, length-drop done c.loop-done.buf, c.in_window-part.ensures.most)) ∙ omega arith in
    subst (λ (k : ℕ). stripe_of c.loop-done.group.disks ((c.args.place + done + (k - 1)) / 512) < stripe_of c.loop-done.group.disks ((c.args.place + done) / 512) + 16) (sym size)
    (c.in_window-part.ensures.window (part - 1) (omega (arith, c.in_window-part.ensures.some (omega arith))))

pub loop-done-preserved : goal.loop-done-preserved
loop-done-preserved g c =
    let done = c.loop-done.done in
    let part = c.in_window-part.result in
    let cut : length (take (done + part - done) (drop done c.loop-done.buf)) ≡ done + part - done =
    length-take-le (done + part - done) (drop done c.loop-done.buf) (omega (arith, length-drop done c.loop-done.buf)) in
    let size : length c.read_window.new.buf ≡ part = omega (arith, cut, c.read_window.auto.buf) in
    let zs = post_of done (done + part - done) c.loop-done.buf in
    record {
      within = omega (arith, mid-length c.loop-done.buf c.read_window.new.buf zs done (omega arith));
      size = same_len_mid done (done + part - done) c.loop-done.buf c.read_window.new.buf c.read_window.auto.buf ∙ c.loop-done.invariant.size;
      alive = not-true _ c.if-not-read_window.ensures.alive;
      leaves = leaves-then g.R.Rack _ _ _ _ _ _ c.loop-done.invariant.leaves c.read_window.ensures.leaves;
      stands = λ bytes all h. c.read_window.ensures.stands bytes all (c.loop-done.invariant.stands bytes (told-back g.R.Rack _ _ _ _ c.read_window.ensures.leaves all) h);
      got = λ bytes all h k lt.
          let back = told-back g.R.Rack _ _ _ _ c.read_window.ensures.leaves all in
          elim (cases_lt k done) [
            | inl first ↦ mid-before c.loop-done.buf c.read_window.new.buf zs done k first (omega arith) ∙ c.loop-done.invariant.got bytes back h k first
            | inr next ↦
                mid-inside c.loop-done.buf c.read_window.new.buf zs done k next (omega arith) (omega arith)
                ∙ c.if-not-read_window.ensures.got bytes all (c.loop-done.invariant.stands bytes back h) (k - done) (omega arith)
                ∙ ap (λ (x : ℕ). get_or bytes x 0) (omega arith)
          ];
      passes = passed-next g.R.Rack c.args.group.now c.loop-done.group c.read_window.new.group c.args.rack.now c.loop-done.rack c.read_window.new.rack _ _ _
          (pass-next c.args.group.now.disks c.args.place c.loop-done.done (length c.args.buf.now) (length c.loop-done.buf) c.in_window-part.result c.loop-done.invariant.size c.args.group.now.least
          (c.in_window-part.ensures.some (omega arith)) c.in_window-part.ensures.most
          (subst (λ (m : ℕ). (c.in_window-part.result ≡ length c.loop-done.buf - c.loop-done.done)
          ⊎ (stripe_of m ((c.args.place + c.loop-done.done + c.in_window-part.result) / 512) ≡ stripe_of m ((c.args.place + c.loop-done.done) / 512) + 16)) c.loop-done.invariant.leaves.later.disks
          c.in_window-part.ensures.whole))
          c.loop-done.invariant.passes c.loop-done.invariant.leaves.later c.read_window.ensures.leaves.later c.if-not-read_window.ensures.steady c.read_window.ensures.calls
          (not-true _ c.if-not-read_window.ensures.alive);
    }

pub returns-then-not-read_window-clause-leaves : goal.returns-then-not-read_window-clause-leaves
returns-then-not-read_window-clause-leaves g c = leaves-then g.R.Rack _ _ _ _ _ _ c.loop-done.invariant.leaves c.read_window.ensures.leaves

pub returns-then-not-read_window-clause-stands : goal.returns-then-not-read_window-clause-stands
returns-then-not-read_window-clause-stands g c bytes all h =
    c.read_window.ensures.stands bytes all (c.loop-done.invariant.stands bytes (told-back g.R.Rack _ _ _ _ c.read_window.ensures.leaves all) h)

pub returns-then-not-read_window-clause-calls : goal.returns-then-not-read_window-clause-calls
returns-then-not-read_window-clause-calls g c =
    passed-last g.R.Rack c.args.group.now c.loop-done.group c.args.rack.now c.loop-done.rack c.read_window.new.rack _ _ _
    (pass-next c.args.group.now.disks c.args.place c.loop-done.done (length c.args.buf.now) (length c.loop-done.buf) c.in_window-part.result c.loop-done.invariant.size c.args.group.now.least
    (c.in_window-part.ensures.some (omega arith)) c.in_window-part.ensures.most
    (subst (λ (m : ℕ). (c.in_window-part.result ≡ length c.loop-done.buf - c.loop-done.done)
    ⊎ (stripe_of m ((c.args.place + c.loop-done.done + c.in_window-part.result) / 512) ≡ stripe_of m ((c.args.place + c.loop-done.done) / 512) + 16)) c.loop-done.invariant.leaves.later.disks
    c.in_window-part.ensures.whole))
    c.loop-done.invariant.passes c.loop-done.invariant.leaves.later c.read_window.ensures.calls

pub returns-clause-calls : goal.returns-clause-calls
returns-clause-calls g c = passed-most g.R.Rack _ _ _ _ _ _ c.loop-done.invariant.passes

pub returns-clause-steady : goal.returns-clause-steady
returns-clause-steady g c = passed-steady g.R.Rack _ _ _ _ _ _ c.loop-done.invariant.passes
