use Rattle.std.proofs.Common.{[], ◌∷◌, refl, ◌∙◌, arith, inl, inr, subst, sym}
use Rattle.std.proofs.lemmas.Bool.{false≢true}
use Rattle.dg_io.specs.RackCalls.RackCall.{blanks}
use Rattle.dg_stop.proofs.BlankLemmas.{beside_then, blank_seen, blank_sized, blanks_steps, elsewhere, gone_bare, laid_pair, laid_size, loses_stands, no_header_blank, no_header_unknown, others_keep}
use Rattle.dg_stop.proofs.MemberLemmas.{told_itself}
use Rattle.dg_stop.proofs.StepLemmas.{still_steps}
use Rattle.dg_stop.specs.Doubles.{Loses}
use Rattle.dg_stop.specs.declared.memories.Memory.{Memory}
use Rattle.dg_stop.proofs.member_calls.blank_member.Goals as goal

pub double_len-requires : goal.double_len-requires
double_len-requires g c = c.in-Ok.ensures.lays.small

pub join-requires : goal.join-requires
join-requires g c = omega (arith, c.in-Ok.ensures.lays.there, c.in-Ok.ensures.lays.beside.count, c.requires.held.few)

pub returns-in-Err-clause-steps : goal.returns-in-Err-clause-steps
returns-in-Err-clause-steps g c =
    let q = c.args.member in
    let m = c.args.memory.now in
    let loses : Loses q m c.lose.new.self = subst (λ (x : Memory). Loses q x c.lose.new.self) c.in-Err.ensures.err c.lose.ensures in
    still_steps g.R.Rack (blanks q) q _ m c.lose.new.self c.args.rack.now c.requires.held loses.beside loses.placed.now loses.placed.last (loses_stands q m c.lose.new.self loses) tt
    (λ out gone. gone_bare q c.lose.new.self (omega (arith, c.requires.held.few, loses.beside.count)) loses.fell gone) tt (λ are at. absurd (false≢true (sym loses.stands ∙ at))) tt

pub returns-in-Err-clause-keeps : goal.returns-in-Err-clause-keeps
returns-in-Err-clause-keeps g c =
    let q = c.args.member in
    let m = c.args.memory.now in
    let loses : Loses q m c.lose.new.self = subst (λ (x : Memory). Loses q x c.lose.new.self) c.in-Err.ensures.err c.lose.ensures in
    others_keep g.R.Rack q m c.lose.new.self c.args.rack.now c.args.rack.now (elsewhere q m c.lose.new.self loses.beside (λ at. absurd (false≢true (sym loses.stands ∙ at)))
    (λ at. absurd (false≢true (sym loses.known ∙ at))))
    (λ told h. no_header_unknown c.lose.new.self (g.R.Rack.bytes c.args.rack.now) q loses.known h) (λ r far. told_itself (g.R.Rack.bytes c.args.rack.now r)) (λ r h. h) (λ h. h, λ h. h)

pub returns-in-Err-clause-due : goal.returns-in-Err-clause-due
returns-in-Err-clause-due g c = inr (c.in-Err.ensures.fails.0 refl)

pub returns-in-Ok-blank-clause-steps : goal.returns-in-Ok-blank-clause-steps
returns-in-Ok-blank-clause-steps g c =
    let q = c.args.member in
    let m = c.args.memory.now in
    let mid = c.lay.new.self in
    let n = c.join.new.self in
    blanks_steps g.R.Rack q _ m n c.args.rack.now c.blank.new.self c.requires.held c.in-Ok-blank.ensures.leaves (g.met.R.Rack.after c.args.rack.now c.blank.new.self (blanks q ∷ []) c.blank.ensures.made)
    (beside_then q m mid n c.in-Ok.ensures.lays.beside c.join.ensures.beside)
    (λ at. blank_sized g.R.Rack q c.args.size c.double_len.result m mid n c.args.rack.now c.blank.new.self c.in-Ok.ensures.lays c.join.ensures c.in-Ok-blank.ensures.stands c.double_len.ensures c.in-Ok-blank.ensures.ok)
    (λ out gone. absurd (false≢true (sym out ∙ c.join.ensures.stands)))
    (λ at. laid_pair q c.args.size m mid n c.in-Ok.ensures.lays c.join.ensures) c.join.ensures.stands (λ at. c.join.ensures.known)

pub returns-in-Ok-blank-clause-keeps : goal.returns-in-Ok-blank-clause-keeps
returns-in-Ok-blank-clause-keeps g c =
    let q = c.args.member in
    let m = c.args.memory.now in
    let n = c.join.new.self in
    others_keep g.R.Rack q m n c.args.rack.now c.blank.new.self (elsewhere q m n (beside_then q m c.lay.new.self n c.in-Ok.ensures.lays.beside c.join.ensures.beside) (λ at. c.join.ensures.known)
    (λ at. omega (arith, c.in-Ok.ensures.lays.there, c.in-Ok.ensures.lays.beside.count, c.requires.held.few)))
    (λ told h. no_header_blank n (g.R.Rack.bytes c.args.rack.now) (g.R.Rack.bytes c.blank.new.self) q c.double_len.result c.join.ensures.known c.in-Ok-blank.ensures.ok
    (told q (omega (arith, c.in-Ok.ensures.lays.there, c.in-Ok.ensures.lays.beside.count, c.requires.held.few))) h)
    c.blank.ensures.leaves.others c.blank.ensures.leaves.tells c.blank.ensures.leaves.steady_on

pub returns-in-Ok-blank-clause-ok : goal.returns-in-Ok-blank-clause-ok
returns-in-Ok-blank-clause-ok g c =
    blank_seen c.args.memory.now c.join.new.self c.args.member c.double_len.result c.args.size (g.R.Rack.bytes c.args.rack.now c.args.member) (g.R.Rack.bytes c.blank.new.self c.args.member)
    (laid_size c.args.member c.args.size c.args.memory.now c.lay.new.self c.join.new.self c.in-Ok.ensures.lays c.join.ensures) c.in-Ok-blank.ensures.ok

pub returns-in-Ok-blank-clause-stands : goal.returns-in-Ok-blank-clause-stands
returns-in-Ok-blank-clause-stands g c = c.join.ensures.stands

pub returns-in-Err-blank-clause-steps : goal.returns-in-Err-blank-clause-steps
returns-in-Err-blank-clause-steps g c =
    let q = c.args.member in
    let m = c.args.memory.now in
    let mid = c.lay.new.self in
    let n = c.lose-in-Err-blank.new.self in
    let beside = beside_then q m mid n c.in-Ok.ensures.lays.beside c.lose-in-Err-blank.ensures.beside in
    blanks_steps g.R.Rack q _ m n c.args.rack.now c.blank.new.self c.requires.held c.in-Err-blank.ensures.leaves (g.met.R.Rack.after c.args.rack.now c.blank.new.self (blanks q ∷ []) c.blank.ensures.made)
    beside (λ at. absurd (false≢true (sym c.lose-in-Err-blank.ensures.stands ∙ at)))
    (λ out gone. gone_bare q n (omega (arith, c.requires.held.few, beside.count)) c.lose-in-Err-blank.ensures.fell gone)
    (λ at. absurd (false≢true (sym c.lose-in-Err-blank.ensures.stands ∙ at))) tt (λ at. absurd (false≢true (sym c.lose-in-Err-blank.ensures.stands ∙ at)))

pub returns-in-Err-blank-clause-keeps : goal.returns-in-Err-blank-clause-keeps
returns-in-Err-blank-clause-keeps g c =
    let q = c.args.member in
    let m = c.args.memory.now in
    let n = c.lose-in-Err-blank.new.self in
    others_keep g.R.Rack q m n c.args.rack.now c.blank.new.self
    (elsewhere q m n (beside_then q m c.lay.new.self n c.in-Ok.ensures.lays.beside c.lose-in-Err-blank.ensures.beside) (λ at. absurd (false≢true (sym c.lose-in-Err-blank.ensures.stands ∙ at)))
    (λ at. absurd (false≢true (sym c.lose-in-Err-blank.ensures.known ∙ at))))
    (λ told h. no_header_unknown n (g.R.Rack.bytes c.blank.new.self) q c.lose-in-Err-blank.ensures.known h)
    c.blank.ensures.leaves.others c.blank.ensures.leaves.tells c.blank.ensures.leaves.steady_on

pub returns-in-Err-blank-clause-due : goal.returns-in-Err-blank-clause-due
returns-in-Err-blank-clause-due g c = inl c.in-Err-blank.ensures.leaves.cause.failed
