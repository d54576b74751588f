use Rattle.std.proofs.Common.{◌≡◌, ℕ, [], ◌∷◌, Bool, true, false, sym, subst, ◌∙◌, rules}
use Rattle.std.specs.List.Sorted.{IsStrictlySortedBy}
use Rattle.std.specs.Ordering.{nat_cmp}
use Rattle.dg_plan.specs.Placings.{Goes}
use Rattle.dg_plan.proofs.FileLaws.{numbers}
use Rattle.dg_plan.proofs.GoLaws.{AreCounts, IsPlacing, go_begins, go_ends, go_none, go_places, go_skips, go_stops}
use Rattle.dg_plan.proofs.placings.Placing.place_all.Goals as goal

pub loop-inode-init : goal.loop-inode-init
loop-inode-init c =
    let files = c.args.files.now in
    let sorted : IsStrictlySortedBy nat_cmp (numbers files.entries) = search rules in
    (tt, tt, go_begins files c.args.directories.now _ c.args.self.now (search rules) c.requires.rise sorted c.requires.counts)

pub loop-inode-preserved-then-has_place : goal.loop-inode-preserved-then-has_place
loop-inode-preserved-then-has_place c =
    let e : ℕ × ℕ = (c.in-Some.inode.now, c.in-Some.count.now) in
    let files = c.args.files.now in
    let here : c.loop-inode.inode-iterator ≡ e ∷ c.next.new.self = c.in-Some.ensures.steps in
    let placing : IsPlacing files c.args.directories.now (e ∷ c.next.new.self) c.args.self.now c.loop-inode.self = subst (λ es. IsPlacing files c.args.directories.now es c.args.self.now c.loop-inode.self) here c.loop-inode.invariant.2 in
    (tt, tt, go_skips files c.args.directories.now e c.next.new.self c.args.self.now c.loop-inode.self placing (sym c.has_place.ensures ∙ c.if-has_place.true))

pub place-requires-clause-none : goal.place-requires-clause-none
place-requires-clause-none c =
    let e : ℕ × ℕ = (c.in-Some.inode.now, c.in-Some.count.now) in
    let files = c.args.files.now in
    let here : c.loop-inode.inode-iterator ≡ e ∷ c.next.new.self = c.in-Some.ensures.steps in
    let placing : IsPlacing files c.args.directories.now (e ∷ c.next.new.self) c.args.self.now c.loop-inode.self = subst (λ es. IsPlacing files c.args.directories.now es c.args.self.now c.loop-inode.self) here c.loop-inode.invariant.2 in
    go_none files c.args.directories.now e c.next.new.self c.args.self.now c.loop-inode.self placing (sym c.has_place.ensures ∙ c.if-has_place.false)

pub place-requires-clause-count : goal.place-requires-clause-count
place-requires-clause-count c =
    let e : ℕ × ℕ = (c.in-Some.inode.now, c.in-Some.count.now) in
    let files = c.args.files.now in
    let here : c.loop-inode.inode-iterator ≡ e ∷ c.next.new.self = c.in-Some.ensures.steps in
    let counts : AreCounts files.entries (e ∷ c.next.new.self) = subst (λ es. AreCounts files.entries es) here c.loop-inode.invariant.2.counts in
    counts.1

pub returns-then-not-branch-clause-placed : goal.returns-then-not-branch-clause-placed
returns-then-not-branch-clause-placed c =
    let e : ℕ × ℕ = (c.in-Some.inode.now, c.in-Some.count.now) in
    let files = c.args.files.now in
    let now = c.loop-inode.self in
    let here : c.loop-inode.inode-iterator ≡ e ∷ c.next.new.self = c.in-Some.ensures.steps in
    let placing : IsPlacing files c.args.directories.now (e ∷ c.next.new.self) c.args.self.now now = subst (λ es. IsPlacing files c.args.directories.now es c.args.self.now now) here c.loop-inode.invariant.2 in
    let goes : Goes c.args.directories.now e.1 e.0 now c.place.new.self false = subst (λ (b : Bool). Goes c.args.directories.now e.1 e.0 now c.place.new.self b) c.if-not-branch.true c.in_ok-place.ensures.goes in
    go_stops files c.args.directories.now e c.next.new.self c.args.self.now now placing c.place.new.self (sym c.has_place.ensures ∙ c.if-has_place.false) goes c.place.new.self

pub loop-inode-preserved : goal.loop-inode-preserved
loop-inode-preserved c =
    let e : ℕ × ℕ = (c.in-Some.inode.now, c.in-Some.count.now) in
    let files = c.args.files.now in
    let now = c.loop-inode.self in
    let here : c.loop-inode.inode-iterator ≡ e ∷ c.next.new.self = c.in-Some.ensures.steps in
    let placing : IsPlacing files c.args.directories.now (e ∷ c.next.new.self) c.args.self.now now = subst (λ es. IsPlacing files c.args.directories.now es c.args.self.now now) here c.loop-inode.invariant.2 in
    let goes : Goes c.args.directories.now e.1 e.0 now c.place.new.self true = subst (λ (b : Bool). Goes c.args.directories.now e.1 e.0 now c.place.new.self b) c.if-not-branch.false c.in_ok-place.ensures.goes in
    (tt, tt, go_places files c.args.directories.now e c.next.new.self c.args.self.now now placing c.place.new.self (sym c.has_place.ensures ∙ c.if-has_place.false) goes (c.in_ok-place.ensures.stands c.if-not-branch.false))

pub returns-clause-placed : goal.returns-clause-placed
returns-clause-placed c =
    let files = c.args.files.now in
    let none : c.loop-inode.inode-iterator ≡ [] = c.in-None.ensures.steps.0 in
    go_ends files c.args.directories.now c.loop-inode.inode-iterator c.args.self.now c.loop-inode.self none c.loop-inode.invariant.2
