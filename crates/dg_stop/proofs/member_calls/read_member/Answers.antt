use Rattle.std.proofs.Common.{◌≡◌, ℕ, List, length, refl, ◌∙◌, ap, arith, subst, sym}
use Rattle.std.specs.Prelude.{IfSome}
use Rattle.dg_io.specs.RackCalls.RackCall.{calls}
use Rattle.dg_stop.proofs.MemberLemmas.{done_keeps, done_steps, failed_keeps, failed_steps, fall_keeps, fall_same, fall_steps, reads_seen, rewrites_self, same_pages, same_seen, told_itself}
use Rattle.dg_stop.specs.Doubles.{last_in, sizes_in}
use Rattle.dg_stop.specs.Layouts.{double_size, table_size}
use Rattle.dg_stop.specs.Phases.{bits_in, size_in}
use Rattle.dg_stop.specs.declared.places.Places.{Places}
use Rattle.dg_stop.proofs.member_calls.read_member.Goals as goal

pub returns-then-not-is_inside-clause-steps : goal.returns-then-not-is_inside-clause-steps
returns-then-not-is_inside-clause-steps g c = fall_steps g.R.Rack c.args.member c.args.memory.now _ c.args.rack.now c.requires.held c.fall.ensures (calls c.args.member) _ refl

pub returns-then-not-is_inside-clause-keeps : goal.returns-then-not-is_inside-clause-keeps
returns-then-not-is_inside-clause-keeps g c = fall_keeps g.R.Rack c.args.member c.args.memory.now _ c.args.rack.now c.requires.held c.fall.ensures

pub returns-then-not-is_inside-clause-same : goal.returns-then-not-is_inside-clause-same
returns-then-not-is_inside-clause-same g c =
    fall_same c.args.member c.args.memory.now _ (g.R.Rack.bytes c.args.rack.now c.args.member) (g.R.Rack.bytes c.args.rack.now c.args.member) c.fall.ensures (told_itself (g.R.Rack.bytes c.args.rack.now c.args.member))

pub read_pages-requires-clause-stands : goal.read_pages-requires-clause-stands
read_pages-requires-clause-stands g c = (c.requires.held.sized c.args.member c.requires.stands).stands

pub read_pages-requires-clause-small : goal.read_pages-requires-clause-small
read_pages-requires-clause-small g c =
    let small = (c.requires.held.sized c.args.member c.requires.stands).small in
    let size : c.size_at-size.result ≡ sizes_in c.args.memory.now c.args.member = c.size_at-size.ensures ∙ ap (λ (l : List Places). size_in l c.args.member) c.deref.ensures.value in
    omega (arith, size, small)

pub read_pages-requires-clause-long : goal.read_pages-requires-clause-long
read_pages-requires-clause-long g c =
    subst (λ (k : ℕ). IfSome (g.R.Rack.bytes c.args.rack.now c.args.member) (λ all. length all ≡ double_size k c.args.memory.now.room)) (sym (c.size_at-size.ensures ∙ ap (λ (l : List Places). size_in l c.args.member) c.deref.ensures.value))
    (c.requires.held.sized c.args.member c.requires.stands).long

pub returns-in-Ok-clause-steps : goal.returns-in-Ok-clause-steps
returns-in-Ok-clause-steps g c =
    let m = c.args.memory.now in
    done_steps g.R.Rack g.met.R.Rack.made_none g.met.R.Rack.made_both g.met.R.Rack.after c.args.member _ m m c.args.rack.now c.read_pages.new.rack c.requires.held c.requires.stands c.read_pages.ensures.made c.in-Ok.ensures.serves
    (same_pages (table_size (sizes_in m c.args.member) m.room) (sizes_in m c.args.member) (last_in m c.args.member) (g.R.Rack.bytes c.args.rack.now c.args.member) (g.R.Rack.bytes c.read_pages.new.rack c.args.member) c.read_pages.ensures.same)
    (rewrites_self c.args.member m) refl

pub returns-in-Ok-clause-keeps : goal.returns-in-Ok-clause-keeps
returns-in-Ok-clause-keeps g c =
    let m = c.args.memory.now in
    done_keeps g.R.Rack g.met.R.Rack.made_none g.met.R.Rack.made_both g.met.R.Rack.after c.args.member c.read_pages.result m m c.args.rack.now c.read_pages.new.rack c.requires.held c.requires.stands c.read_pages.ensures.made c.read_pages.ensures.serves
    (same_pages (table_size (sizes_in m c.args.member) m.room) (sizes_in m c.args.member) (last_in m c.args.member) (g.R.Rack.bytes c.args.rack.now c.args.member) (g.R.Rack.bytes c.read_pages.new.rack c.args.member) c.read_pages.ensures.same)
    (rewrites_self c.args.member m)

pub returns-in-Ok-clause-same : goal.returns-in-Ok-clause-same
returns-in-Ok-clause-same g c = same_seen c.args.memory.now c.args.member (g.R.Rack.bytes c.args.rack.now c.args.member) (g.R.Rack.bytes c.read_pages.new.rack c.args.member) c.read_pages.ensures.same

pub returns-in-Ok-clause-ok : goal.returns-in-Ok-clause-ok
returns-in-Ok-clause-ok g c =
    reads_seen c.args.memory.now c.args.member c.size_at-size.result c.args.place c.bits_at-bits.result.now c.read_pages.new.buf (g.R.Rack.bytes c.args.rack.now c.args.member) (g.R.Rack.bytes c.read_pages.new.rack c.args.member)
    (c.size_at-size.ensures ∙ ap (λ (l : List Places). size_in l c.args.member) c.deref.ensures.value) (c.bits_at-bits.ensures ∙ ap (λ (l : List Places). bits_in l c.args.member) c.deref-2.ensures.value)
    c.in-Ok.ensures.done

pub returns-in-Err-clause-steps : goal.returns-in-Err-clause-steps
returns-in-Err-clause-steps g c =
    let m = c.args.memory.now in
    failed_steps g.R.Rack g.met.R.Rack.made_none g.met.R.Rack.made_both g.met.R.Rack.after c.args.member _ m m c.args.rack.now c.read_pages.new.rack c.requires.held c.requires.stands c.read_pages.ensures.made c.in-Err.ensures.serves
    (same_pages (table_size (sizes_in m c.args.member) m.room) (sizes_in m c.args.member) (last_in m c.args.member) (g.R.Rack.bytes c.args.rack.now c.args.member) (g.R.Rack.bytes c.read_pages.new.rack c.args.member) c.read_pages.ensures.same)
    (rewrites_self c.args.member m) _ c.fall-in-Err.ensures refl

pub returns-in-Err-clause-keeps : goal.returns-in-Err-clause-keeps
returns-in-Err-clause-keeps g c =
    let m = c.args.memory.now in
    failed_keeps g.R.Rack g.met.R.Rack.made_none g.met.R.Rack.made_both g.met.R.Rack.after c.args.member c.read_pages.result m m c.args.rack.now c.read_pages.new.rack c.requires.held c.requires.stands c.read_pages.ensures.made c.read_pages.ensures.serves
    (same_pages (table_size (sizes_in m c.args.member) m.room) (sizes_in m c.args.member) (last_in m c.args.member) (g.R.Rack.bytes c.args.rack.now c.args.member) (g.R.Rack.bytes c.read_pages.new.rack c.args.member) c.read_pages.ensures.same)
    (rewrites_self c.args.member m) _ c.fall-in-Err.ensures

pub returns-in-Err-clause-same : goal.returns-in-Err-clause-same
returns-in-Err-clause-same g c = fall_same c.args.member c.args.memory.now _ (g.R.Rack.bytes c.args.rack.now c.args.member) (g.R.Rack.bytes c.read_pages.new.rack c.args.member) c.fall-in-Err.ensures c.read_pages.ensures.same
