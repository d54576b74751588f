use Rattle.std.proofs.Common.{rules, ◌≡◌, ◌+◌, ◌/◌, ◌%◌, ℕ, Bool, length, ◌∙◌, ap, arith, subst}
use Rattle.dg_io.specs.Told.{Reads}
use Rattle.dg_stop.proofs.MadeLemmas.{made_one}
use Rattle.dg_stop.proofs.PieceLemmas.{page_inside, reads_page, told_long}
use Rattle.dg_stop.proofs.PreparingTold.{OnOk-map}
use Rattle.dg_stop.specs.Layouts.{bit_in, double_size, page_place, table_size}
use Rattle.dg_stop.specs.Pages.{ReadsPiece}
use Rattle.dg_stop.proofs.page_calls.read_page.Goals as goal

pub read-requires-clause-range : goal.read-requires-clause-range
read-requires-clause-range g c =
    rw (c.place_of_page-place.ensures, c.table_len.ensures) (page_inside c.args.size c.args.room c.args.at (length c.args.buf.now) c.bit.result (g.R.Rack.bytes c.args.rack.now c.args.number)
    c.requires.page c.requires.some c.requires.range c.requires.long)

pub returns-clause-made : goal.returns-clause-made
returns-clause-made g c = made_one g.R.Rack c.args.number c.args.rack.now c.read.new.self c.read.ensures.made

pub returns-clause-done : goal.returns-clause-done
returns-clause-done g c =
    let size = c.args.size in
    let room = c.args.room in
    let at = c.args.at in
    let long : length c.read.new.buf ≡ length c.args.buf.now = search rules in
    let place : c.place_of_page-place.result ≡ page_place (table_size size room) (at / 512) (bit_in c.args.bits.now (at / 512)) =
    c.place_of_page-place.ensures ∙ ap (λ (t : ℕ). page_place t (at / 512) c.bit.result) c.table_len.ensures
    ∙ ap (λ (b : Bool). page_place (table_size size room) (at / 512) b) c.bit.ensures in
    OnOk-map c.read.result _ _ (λ told. told_long (Reads (c.place_of_page-place.result + at % 512) c.read.new.buf) (ReadsPiece (table_size size room) size (bit_in c.args.bits.now) at c.read.new.buf)
    (double_size size room) (g.R.Rack.bytes c.args.rack.now c.args.number) (g.R.Rack.bytes c.read.new.self c.args.number) c.requires.long
    (λ a b size_a reads. reads_page size room at (bit_in c.args.bits.now) c.read.new.buf a b size_a (omega (arith, c.requires.page, long)) (omega (arith, c.requires.some, long))
    (omega (arith, c.requires.range, long)) (subst (λ (k : ℕ). Reads (k + at % 512) c.read.new.buf a b) place reads)) told) c.read.ensures.ok

pub returns-clause-calls : goal.returns-clause-calls
returns-clause-calls g c = omega (arith, c.read.ensures.leaves.counted.most)
