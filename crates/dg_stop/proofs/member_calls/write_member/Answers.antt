use Rattle.std.proofs.Common.{List, length, refl, subst, ◌+◌}
use Rattle.dg_io.specs.RackCalls.RackCall.{calls}
use Rattle.dg_stop.proofs.MemberLemmas.{done_keeps, done_steps, failed_keeps, failed_steps, fall_keeps, fall_steps, puts_seen, rewrites_current, torn_none, torn_seen}
use Rattle.dg_io.specs.Told.{Told}
use Rattle.dg_stop.specs.Layouts.{bit_in, table_size}
use Rattle.dg_stop.specs.Pages.{TornPages}
use Rattle.dg_stop.specs.Phases.{bits_in, size_in}
use Rattle.dg_stop.specs.declared.places.Places.{Places}
use Rattle.dg_stop.specs.Behind.{MostCalls, pages_on, parts_on}
use Rattle.dg_stop.specs.Doubles.{now_in}
use Rattle.dg_stop.proofs.member_calls.write_member.Goals as goal

pub returns-then-not-is_inside-clause-steps : goal.returns-then-not-is_inside-clause-steps
returns-then-not-is_inside-clause-steps g c = fall_steps g.R.Rack c.args.member c.args.memory.now _ c.args.rack.now c.requires.held c.fall.ensures (calls c.args.member) _ refl

pub returns-then-not-is_inside-clause-keeps : goal.returns-then-not-is_inside-clause-keeps
returns-then-not-is_inside-clause-keeps g c = fall_keeps g.R.Rack c.args.member c.args.memory.now _ c.args.rack.now c.requires.held c.fall.ensures

pub returns-then-not-is_inside-clause-err : goal.returns-then-not-is_inside-clause-err
returns-then-not-is_inside-clause-err g c = torn_none c.args.memory.now _ c.args.member c.args.place (length c.args.piece.now) (g.R.Rack.bytes c.args.rack.now c.args.member) c.fall.ensures

pub write_at-requires-clause-sized : goal.write_at-requires-clause-sized
write_at-requires-clause-sized g c = c.requires.held.sized c.args.member c.requires.stands

pub returns-in-Ok-clause-steps : goal.returns-in-Ok-clause-steps
returns-in-Ok-clause-steps g c =
    let m = c.args.memory.now in
    let mid = record c.args.memory.now { current = c.write_at.new.current } in
    done_steps g.R.Rack g.met.R.Rack.made_none g.met.R.Rack.made_both g.met.R.Rack.after c.args.member _ m mid c.args.rack.now c.write_at.new.rack c.requires.held c.requires.stands c.write_at.ensures.made c.in-Ok.ensures.serves
    (subst (λ (l : List Places). Told (TornPages (table_size (size_in m.current.items c.args.member) m.room) (size_in m.current.items c.args.member) (bit_in (bits_in l c.args.member)))
    (g.R.Rack.bytes c.args.rack.now c.args.member) (g.R.Rack.bytes c.write_at.new.rack c.args.member)) c.deref-2.ensures.value c.write_at.ensures.pages)
    (rewrites_current c.args.member m mid refl refl refl refl refl refl refl c.write_at.ensures.others c.write_at.ensures.count c.write_at.ensures.size c.write_at.ensures.length) refl

pub returns-in-Ok-clause-keeps : goal.returns-in-Ok-clause-keeps
returns-in-Ok-clause-keeps g c =
    let m = c.args.memory.now in
    let mid = record c.args.memory.now { current = c.write_at.new.current } in
    done_keeps g.R.Rack g.met.R.Rack.made_none g.met.R.Rack.made_both g.met.R.Rack.after c.args.member c.write_at.result m mid c.args.rack.now c.write_at.new.rack c.requires.held c.requires.stands c.write_at.ensures.made c.write_at.ensures.serves
    (subst (λ (l : List Places). Told (TornPages (table_size (size_in m.current.items c.args.member) m.room) (size_in m.current.items c.args.member) (bit_in (bits_in l c.args.member)))
    (g.R.Rack.bytes c.args.rack.now c.args.member) (g.R.Rack.bytes c.write_at.new.rack c.args.member)) c.deref-2.ensures.value c.write_at.ensures.pages)
    (rewrites_current c.args.member m mid refl refl refl refl refl refl refl c.write_at.ensures.others c.write_at.ensures.count c.write_at.ensures.size c.write_at.ensures.length)

pub returns-in-Ok-clause-ok : goal.returns-in-Ok-clause-ok
returns-in-Ok-clause-ok g c =
    puts_seen c.args.memory.now (record c.args.memory.now { current = c.write_at.new.current }) c.args.member c.args.place c.args.piece.now (g.R.Rack.bytes c.args.rack.now c.args.member) (g.R.Rack.bytes c.write_at.new.rack c.args.member)
    refl c.write_at.ensures.size c.in-Ok.ensures.done

pub returns-in-Err-clause-steps : goal.returns-in-Err-clause-steps
returns-in-Err-clause-steps g c =
    let m = c.args.memory.now in
    let mid = record c.args.memory.now { current = c.write_at.new.current } in
    failed_steps g.R.Rack g.met.R.Rack.made_none g.met.R.Rack.made_both g.met.R.Rack.after c.args.member _ m mid c.args.rack.now c.write_at.new.rack c.requires.held c.requires.stands c.write_at.ensures.made c.in-Err.ensures.serves
    (subst (λ (l : List Places). Told (TornPages (table_size (size_in m.current.items c.args.member) m.room) (size_in m.current.items c.args.member) (bit_in (bits_in l c.args.member)))
    (g.R.Rack.bytes c.args.rack.now c.args.member) (g.R.Rack.bytes c.write_at.new.rack c.args.member)) c.deref-2.ensures.value c.write_at.ensures.pages)
    (rewrites_current c.args.member m mid refl refl refl refl refl refl refl c.write_at.ensures.others c.write_at.ensures.count c.write_at.ensures.size c.write_at.ensures.length) _ c.fall-in-Err.ensures refl

pub returns-in-Err-clause-keeps : goal.returns-in-Err-clause-keeps
returns-in-Err-clause-keeps g c =
    let m = c.args.memory.now in
    let mid = record c.args.memory.now { current = c.write_at.new.current } in
    failed_keeps g.R.Rack g.met.R.Rack.made_none g.met.R.Rack.made_both g.met.R.Rack.after c.args.member c.write_at.result m mid c.args.rack.now c.write_at.new.rack c.requires.held c.requires.stands c.write_at.ensures.made c.write_at.ensures.serves
    (subst (λ (l : List Places). Told (TornPages (table_size (size_in m.current.items c.args.member) m.room) (size_in m.current.items c.args.member) (bit_in (bits_in l c.args.member)))
    (g.R.Rack.bytes c.args.rack.now c.args.member) (g.R.Rack.bytes c.write_at.new.rack c.args.member)) c.deref-2.ensures.value c.write_at.ensures.pages)
    (rewrites_current c.args.member m mid refl refl refl refl refl refl refl c.write_at.ensures.others c.write_at.ensures.count c.write_at.ensures.size c.write_at.ensures.length) _ c.fall-in-Err.ensures

pub returns-in-Err-clause-err : goal.returns-in-Err-clause-err
returns-in-Err-clause-err g c =
    torn_seen c.args.memory.now (record c.args.memory.now { current = c.write_at.new.current }) _ c.args.member c.args.place (length c.args.piece.now) (g.R.Rack.bytes c.args.rack.now c.args.member) (g.R.Rack.bytes c.write_at.new.rack c.args.member)
    c.fall-in-Err.ensures refl c.write_at.ensures.size c.in-Err.ensures.torn

pub returns-in-Ok-clause-calls : goal.returns-in-Ok-clause-calls
returns-in-Ok-clause-calls g c =
    let q = c.args.member in
    let n = length c.args.piece.now in
    subst (λ (l : List Places). MostCalls g.R.Rack (pages_on c.args.place n + parts_on (now_in c.args.memory.now q) (bit_in (bits_in l q)) c.args.place n) c.args.rack.now c.write_at.new.rack) c.deref-2.ensures.value c.write_at.ensures.calls

pub returns-in-Err-clause-calls : goal.returns-in-Err-clause-calls
returns-in-Err-clause-calls g c =
    let q = c.args.member in
    let n = length c.args.piece.now in
    subst (λ (l : List Places). MostCalls g.R.Rack (pages_on c.args.place n + parts_on (now_in c.args.memory.now q) (bit_in (bits_in l q)) c.args.place n) c.args.rack.now c.write_at.new.rack) c.deref-2.ensures.value c.write_at.ensures.calls
