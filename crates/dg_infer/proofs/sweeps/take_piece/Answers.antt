use Rattle.std.proofs.Common.{◌≡◌, ◌∙◌, ◌+◌, ◌-◌, ◌≤◌, ℕ, List, ap, subst, sym, length}
use Rattle.dg_infer.proofs.SweepLaws.{gathered_next, gathered_now, gathered_room, marks_amid, marks_last, marks_skip, whole_room}
use Rattle.dg_infer.specs.Sweeps.{group_start}
use Rattle.dg_infer.proofs.sweeps.take_piece.Goals as goal

pub returns-in_default-clause-marks : goal.returns-in_default-clause-marks
returns-in_default-clause-marks c = λ v has before.
    marks_skip c.args.g.now v c.args.place c.args.free.now c.args.group.now.items c.requires.geometry c.in_default.ensures.none before

pub mark_group-requires-clause-bytes : goal.mark_group-requires-clause-bytes
mark_group-requires-clause-bytes c =
    let value = c.group_block-first.ensures.value in
    let room = gathered_room c.args.g.now c.args.place c.in-Some.c c.args.group.now.items c.begin_group.new.group.items c.push_bytes.new.area.items c.args.bytes.now c.in-Some.ensures.within
    c.in-Some.ensures.inside (λ e. c.begin_group.ensures.first (e ∙ sym value)) (λ ne. c.begin_group.ensures.later (λ e. ne (e ∙ value))) c.in_ok-push_bytes.ensures c.requires.bytes c.requires.gathered in
    let last : c.args.place - group_start c.args.g.now c.in-Some.c + 1 ≡ c.args.g.now.frag = ap (λ (x : ℕ). c.args.place - x + 1) (sym value) ∙ c.if-place-first.true in
    let whole = whole_room c.args.g.now c.args.place c.in-Some.c c.push_bytes.new.area.items c.requires.geometry room last (c.in-Some.ensures.inside.0) in
    subst (λ (xs : List ℕ). c.args.g.now.bsize ≤ length xs) (sym c.deref.ensures.value) whole

pub returns-then-place-first-clause-gathered : goal.returns-then-place-first-clause-gathered
returns-then-place-first-clause-gathered c =
    let value = c.group_block-first.ensures.value in
    gathered_next c.args.g.now c.args.place c.in-Some.c c.push_bytes.new.area.items c.requires.geometry c.in-Some.ensures.within c.in-Some.ensures.inside
    (gathered_room c.args.g.now c.args.place c.in-Some.c c.args.group.now.items c.begin_group.new.group.items c.push_bytes.new.area.items c.args.bytes.now c.in-Some.ensures.within
    c.in-Some.ensures.inside (λ e. c.begin_group.ensures.first (e ∙ sym value)) (λ ne. c.begin_group.ensures.later (λ e. ne (e ∙ value))) c.in_ok-push_bytes.ensures c.requires.bytes c.requires.gathered)

pub returns-then-place-first-clause-marks : goal.returns-then-place-first-clause-marks
returns-then-place-first-clause-marks c = λ v has before.
    let value = c.group_block-first.ensures.value in
    let last : c.args.place - group_start c.args.g.now c.in-Some.c + 1 ≡ c.args.g.now.frag = ap (λ (x : ℕ). c.args.place - x + 1) (sym value) ∙ c.if-place-first.true in
    let now = gathered_now c.args.g.now v c.args.place c.in-Some.c c.args.group.now.items c.begin_group.new.group.items c.push_bytes.new.area.items c.args.bytes.now c.in-Some.ensures.within
    c.in-Some.ensures.inside (λ e. c.begin_group.ensures.first (e ∙ sym value)) (λ ne. c.begin_group.ensures.later (λ e. ne (e ∙ value))) c.in_ok-push_bytes.ensures has
    (λ amid. before.amid c.in-Some.c amid) in
    marks_last c.args.g.now v c.args.place c.in-Some.c c.args.free.now c.mark_group.new.free c.args.group.now.items c.push_bytes.new.area.items c.requires.geometry c.in-Some.ensures.within
    c.in-Some.ensures.inside last now (rw c.deref.ensures.value at c.mark_group.ensures.inside) c.mark_group.ensures.others before

pub returns-else-place-first-clause-gathered : goal.returns-else-place-first-clause-gathered
returns-else-place-first-clause-gathered c =
    let value = c.group_block-first.ensures.value in
    gathered_next c.args.g.now c.args.place c.in-Some.c c.push_bytes.new.area.items c.requires.geometry c.in-Some.ensures.within c.in-Some.ensures.inside
    (gathered_room c.args.g.now c.args.place c.in-Some.c c.args.group.now.items c.begin_group.new.group.items c.push_bytes.new.area.items c.args.bytes.now c.in-Some.ensures.within
    c.in-Some.ensures.inside (λ e. c.begin_group.ensures.first (e ∙ sym value)) (λ ne. c.begin_group.ensures.later (λ e. ne (e ∙ value))) c.in_ok-push_bytes.ensures c.requires.bytes c.requires.gathered)

pub returns-else-place-first-clause-marks : goal.returns-else-place-first-clause-marks
returns-else-place-first-clause-marks c = λ v has before.
    let value = c.group_block-first.ensures.value in
    let now = gathered_now c.args.g.now v c.args.place c.in-Some.c c.args.group.now.items c.begin_group.new.group.items c.push_bytes.new.area.items c.args.bytes.now c.in-Some.ensures.within
    c.in-Some.ensures.inside (λ e. c.begin_group.ensures.first (e ∙ sym value)) (λ ne. c.begin_group.ensures.later (λ e. ne (e ∙ value))) c.in_ok-push_bytes.ensures has
    (λ amid. before.amid c.in-Some.c amid) in
    marks_amid c.args.g.now v c.args.place c.in-Some.c c.args.free.now c.args.group.now.items c.push_bytes.new.area.items c.requires.geometry c.in-Some.ensures.within c.in-Some.ensures.inside
    (λ e. c.if-place-first.false (ap (λ (x : ℕ). c.args.place - x + 1) value ∙ e)) now before
