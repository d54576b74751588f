use Rattle.std.proofs.Common.{◌+◌, length, refl, ap, ◌∙◌}
use Rattle.std.specs.Prelude.{Option, not}
use Rattle.dg_io.specs.Told.{IsSame, Reads}
use Rattle.dg_parity.proofs.ArrayLemmas.{calls-at, fails-past, none-back, served-call, serves-is, steps-one, told-own}
use Rattle.dg_parity.specs.ArrayCalls.{quiet_reads_of, reads_of}
use Rattle.dg_parity.specs.declared.groups.Group.{Group}
use Rattle.dg_parity.proofs.GoesOnLemmas.{goes-one, none-fell}
use Rattle.dg_parity.proofs.group_calls.read_at.Goals as goal

pub returns-then-not-read-clause-steps : goal.returns-then-not-read-clause-steps
returns-then-not-read-clause-steps g c =
    let h =
    served-call g.R.Rack c.args.member c.args.groups.now.len c.args.groups.now.items c.in-Some.group.now c.read.new.group c.args.rack.now c.read.new.rack c.if-member-ne0.false c.requires.kept
    c.args.groups.now.ok.0 (c.in-Some.ensures.variant.0 refl) c.in-Some.ensures.value c.read.ensures.kept c.read.ensures.leaves c.read.ensures.idle c.read.ensures.silent c.read.ensures.telling in
    steps-one h.call h.cause

pub returns-then-not-read-clause-stays : goal.returns-then-not-read-clause-stays
returns-then-not-read-clause-stays g c =
    let h =
    served-call g.R.Rack c.args.member c.args.groups.now.len c.args.groups.now.items c.in-Some.group.now c.read.new.group c.args.rack.now c.read.new.rack c.if-member-ne0.false c.requires.kept
    c.args.groups.now.ok.0 (c.in-Some.ensures.variant.0 refl) c.in-Some.ensures.value c.read.ensures.kept c.read.ensures.leaves c.read.ensures.idle c.read.ensures.silent c.read.ensures.telling in
    none-back h.call h.stays

pub returns-then-not-read-clause-fails : goal.returns-then-not-read-clause-fails
returns-then-not-read-clause-fails g c =
    let h =
    served-call g.R.Rack c.args.member c.args.groups.now.len c.args.groups.now.items c.in-Some.group.now c.read.new.group c.args.rack.now c.read.new.rack c.if-member-ne0.false c.requires.kept
    c.args.groups.now.ok.0 (c.in-Some.ensures.variant.0 refl) c.in-Some.ensures.value c.read.ensures.kept c.read.ensures.leaves c.read.ensures.idle c.read.ensures.silent c.read.ensures.telling in
    fails-past h.call (c.args.place + length c.args.buf.now) c.if-not-read.ensures.fails

pub returns-then-not-read-clause-same : goal.returns-then-not-read-clause-same
returns-then-not-read-clause-same g c =
    let h =
    served-call g.R.Rack c.args.member c.args.groups.now.len c.args.groups.now.items c.in-Some.group.now c.read.new.group c.args.rack.now c.read.new.rack c.if-member-ne0.false c.requires.kept
    c.args.groups.now.ok.0 (c.in-Some.ensures.variant.0 refl) c.in-Some.ensures.value c.read.ensures.kept c.read.ensures.leaves c.read.ensures.idle c.read.ensures.silent c.read.ensures.telling in
    told-own h.call IsSame c.read.ensures.same

pub returns-clause-steps : goal.returns-clause-steps
returns-clause-steps g c =
    let h =
    served-call g.R.Rack c.args.member c.args.groups.now.len c.args.groups.now.items c.in-Some.group.now c.read.new.group c.args.rack.now c.read.new.rack c.if-member-ne0.false c.requires.kept
    c.args.groups.now.ok.0 (c.in-Some.ensures.variant.0 refl) c.in-Some.ensures.value c.read.ensures.kept c.read.ensures.leaves c.read.ensures.idle c.read.ensures.silent c.read.ensures.telling in
    steps-one h.call h.cause

pub returns-clause-stays : goal.returns-clause-stays
returns-clause-stays g c =
    let h =
    served-call g.R.Rack c.args.member c.args.groups.now.len c.args.groups.now.items c.in-Some.group.now c.read.new.group c.args.rack.now c.read.new.rack c.if-member-ne0.false c.requires.kept
    c.args.groups.now.ok.0 (c.in-Some.ensures.variant.0 refl) c.in-Some.ensures.value c.read.ensures.kept c.read.ensures.leaves c.read.ensures.idle c.read.ensures.silent c.read.ensures.telling in
    none-back h.call h.stays

pub returns-clause-alive : goal.returns-clause-alive
returns-clause-alive g c =
    let h =
    served-call g.R.Rack c.args.member c.args.groups.now.len c.args.groups.now.items c.in-Some.group.now c.read.new.group c.args.rack.now c.read.new.rack c.if-member-ne0.false c.requires.kept
    c.args.groups.now.ok.0 (c.in-Some.ensures.variant.0 refl) c.in-Some.ensures.value c.read.ensures.kept c.read.ensures.leaves c.read.ensures.idle c.read.ensures.silent c.read.ensures.telling in
    serves-is h.call ∙ ap not c.if-not-read.ensures.alive

pub returns-clause-ok : goal.returns-clause-ok
returns-clause-ok g c =
    let h =
    served-call g.R.Rack c.args.member c.args.groups.now.len c.args.groups.now.items c.in-Some.group.now c.read.new.group c.args.rack.now c.read.new.rack c.if-member-ne0.false c.requires.kept
    c.args.groups.now.ok.0 (c.in-Some.ensures.variant.0 refl) c.in-Some.ensures.value c.read.ensures.kept c.read.ensures.leaves c.read.ensures.idle c.read.ensures.silent c.read.ensures.telling in
    told-own h.call (Reads c.args.place c.read.new.buf) c.if-not-read.ensures.ok

pub returns-clause-same : goal.returns-clause-same
returns-clause-same g c =
    let h =
    served-call g.R.Rack c.args.member c.args.groups.now.len c.args.groups.now.items c.in-Some.group.now c.read.new.group c.args.rack.now c.read.new.rack c.if-member-ne0.false c.requires.kept
    c.args.groups.now.ok.0 (c.in-Some.ensures.variant.0 refl) c.in-Some.ensures.value c.read.ensures.kept c.read.ensures.leaves c.read.ensures.idle c.read.ensures.silent c.read.ensures.telling in
    told-own h.call IsSame c.read.ensures.same

pub returns-then-not-read-clause-calls : goal.returns-then-not-read-clause-calls
returns-then-not-read-clause-calls g c =
    let h =
    served-call g.R.Rack c.args.member c.args.groups.now.len c.args.groups.now.items c.in-Some.group.now c.read.new.group c.args.rack.now c.read.new.rack c.if-member-ne0.false c.requires.kept
    c.args.groups.now.ok.0 (c.in-Some.ensures.variant.0 refl) c.in-Some.ensures.value c.read.ensures.kept c.read.ensures.leaves c.read.ensures.idle c.read.ensures.silent c.read.ensures.telling in
    calls-at h.call (λ (o : Option Group). reads_of o c.args.place (length c.args.buf.now)) c.read.ensures.calls

pub returns-clause-calls : goal.returns-clause-calls
returns-clause-calls g c =
    let h =
    served-call g.R.Rack c.args.member c.args.groups.now.len c.args.groups.now.items c.in-Some.group.now c.read.new.group c.args.rack.now c.read.new.rack c.if-member-ne0.false c.requires.kept
    c.args.groups.now.ok.0 (c.in-Some.ensures.variant.0 refl) c.in-Some.ensures.value c.read.ensures.kept c.read.ensures.leaves c.read.ensures.idle c.read.ensures.silent c.read.ensures.telling in
    calls-at h.call (λ (o : Option Group). reads_of o c.args.place (length c.args.buf.now)) c.read.ensures.calls

pub returns-then-not-read-clause-goes_on : goal.returns-then-not-read-clause-goes_on
returns-then-not-read-clause-goes_on g c =
    let h =
    served-call g.R.Rack c.args.member c.args.groups.now.len c.args.groups.now.items c.in-Some.group.now c.read.new.group c.args.rack.now c.read.new.rack c.if-member-ne0.false c.requires.kept
    c.args.groups.now.ok.0 (c.in-Some.ensures.variant.0 refl) c.in-Some.ensures.value c.read.ensures.kept c.read.ensures.leaves c.read.ensures.idle c.read.ensures.silent c.read.ensures.telling in
    goes-one h.call c.read.ensures.noted

pub returns-clause-goes_on : goal.returns-clause-goes_on
returns-clause-goes_on g c =
    let h =
    served-call g.R.Rack c.args.member c.args.groups.now.len c.args.groups.now.items c.in-Some.group.now c.read.new.group c.args.rack.now c.read.new.rack c.if-member-ne0.false c.requires.kept
    c.args.groups.now.ok.0 (c.in-Some.ensures.variant.0 refl) c.in-Some.ensures.value c.read.ensures.kept c.read.ensures.leaves c.read.ensures.idle c.read.ensures.silent c.read.ensures.telling in
    goes-one h.call c.read.ensures.noted

pub returns-clause-quiet : goal.returns-clause-quiet
returns-clause-quiet g c none =
    let h =
    served-call g.R.Rack c.args.member c.args.groups.now.len c.args.groups.now.items c.in-Some.group.now c.read.new.group c.args.rack.now c.read.new.rack c.if-member-ne0.false c.requires.kept
    c.args.groups.now.ok.0 (c.in-Some.ensures.variant.0 refl) c.in-Some.ensures.value c.read.ensures.kept c.read.ensures.leaves c.read.ensures.idle c.read.ensures.silent c.read.ensures.telling in
    calls-at h.call (λ (o : Option Group). quiet_reads_of o c.args.place (length c.args.buf.now)) (c.if-not-read.ensures.quiet (none-fell h.call none))
