use Rattle.std.proofs.Common.{◌≡◌, ◌+◌, ◌/◌, ◌%◌, ℕ, Bool, List, length, ◌∙◌, ap, arith, subst, sym}
use Rattle.std.specs.Prelude.{not}
use Rattle.dg_io.specs.Told.{Torn}
use Rattle.dg_stop.proofs.PieceLemmas.{one_page, puts_page, told_long, told_map, told_two, torn_page, OnErr-always}
use Rattle.dg_stop.specs.Layouts.{bit_in, double_size, page_place, table_size}
use Rattle.dg_stop.specs.Pages.{PutsPart, PutsPiece, TearsPiece, TornPages}
use Rattle.dg_stop.specs.Behind.{MostCalls, calls_on_page}
use Rattle.dg_stop.specs.Pages.{moved}
use Rattle.dg_stop.proofs.page_calls.write_page.Goals as goal

pub returns-in_err-write_part-clause-pages : goal.returns-in_err-write_part-clause-pages
returns-in_err-write_part-clause-pages g c =
    let size = c.args.now.now.size in
    let room = c.args.room in
    let page = c.args.at / 512 in
    let place : page_place c.table_len-table.result page (not c.bit-second.result) ≡ page_place (table_size size room) page (not (bit_in c.args.last.now page)) =
    ap (λ (t : ℕ). page_place t page (not c.bit-second.result)) c.table_len-table.ensures ∙ ap (λ (b : Bool). page_place (table_size size room) page (not b)) c.bit-second.ensures in
    told_map (Torn (page_place c.table_len-table.result page (not c.bit-second.result)) 512) (TornPages (table_size size room) size (bit_in c.args.last.now))
    (g.R.Rack.bytes c.args.rack.now c.args.number) (g.R.Rack.bytes c.write_part.new.rack c.args.number)
    (λ a b torn. one_page size room c.args.at (bit_in c.args.last.now) a b (omega (arith, c.requires.some, c.requires.range)) (subst (λ (k : ℕ). Torn k 512 a b) place torn)) c.in_err-write_part.ensures.torn

pub returns-clause-pages : goal.returns-clause-pages
returns-clause-pages g c =
    let size = c.args.now.now.size in
    let room = c.args.room in
    let page = c.args.at / 512 in
    let place : page_place c.table_len-table.result page (not c.bit-second.result) ≡ page_place (table_size size room) page (not (bit_in c.args.last.now page)) =
    ap (λ (t : ℕ). page_place t page (not c.bit-second.result)) c.table_len-table.ensures ∙ ap (λ (b : Bool). page_place (table_size size room) page (not b)) c.bit-second.ensures in
    told_map (Torn (page_place c.table_len-table.result page (not c.bit-second.result)) 512) (TornPages (table_size size room) size (bit_in c.args.last.now))
    (g.R.Rack.bytes c.args.rack.now c.args.number) (g.R.Rack.bytes c.write_part.new.rack c.args.number)
    (λ a b torn. one_page size room c.args.at (bit_in c.args.last.now) a b (omega (arith, c.requires.some, c.requires.range)) (subst (λ (k : ℕ). Torn k 512 a b) place torn)) c.in_ok-write_part.ensures.torn

pub returns-in_err-write_part-clause-torn : goal.returns-in_err-write_part-clause-torn
returns-in_err-write_part-clause-torn g c =
    let size = c.args.now.now.size in
    let room = c.args.room in
    let at = c.args.at in
    let second = not c.bit-second.result in
    let stands : bit_in c.args.now.now.bits.items (at / 512) ≡ c.bit-stands.result = sym (c.bit-stands.ensures ∙ ap (λ (l : List ℕ). bit_in l (at / 512)) c.deref.ensures.value) in
    OnErr-always c.from_residual.result _ (told_two (Torn (page_place c.table_len-table.result (at / 512) second) 512)
    (Torn (page_place c.table_len-table.result (at / 512) second + at % 512) (length c.args.piece.now)) (c.bit-stands.result ≡ second)
    (TearsPiece (table_size size room) size (bit_in c.args.now.now.bits.items) (bit_in c.args.now.now.bits.items) at (length c.args.piece.now))
    (double_size size room) (g.R.Rack.bytes c.args.rack.now c.args.number) (g.R.Rack.bytes c.write_part.new.rack c.args.number) c.requires.long
    (λ a b size_a whole part. torn_page size room at (length c.args.piece.now) (bit_in c.args.now.now.bits.items) second a b size_a c.requires.page c.requires.range
    (subst (λ (t : ℕ). Torn (page_place t (at / 512) second) 512 a b) c.table_len-table.ensures whole)
    (λ same. subst (λ (t : ℕ). Torn (page_place t (at / 512) second + at % 512) (length c.args.piece.now) a b) c.table_len-table.ensures (part (sym stands ∙ same))))
    c.in_err-write_part.ensures.torn c.in_err-write_part.ensures.part)

pub returns-clause-done : goal.returns-clause-done
returns-clause-done g c =
    let size = c.args.now.now.size in
    let room = c.args.room in
    let at = c.args.at in
    let second = not c.bit-second.result in
    let stands : c.bit-stands.result ≡ bit_in c.args.now.now.bits.items (at / 512) = c.bit-stands.ensures ∙ ap (λ (l : List ℕ). bit_in l (at / 512)) c.deref.ensures.value in
    told_long (PutsPart c.table_len-table.result (at / 512) c.bit-stands.result second (at % 512) c.args.piece.now)
    (PutsPiece (table_size size room) size (bit_in c.args.now.now.bits.items) (bit_in c.put_bit.new.bits.items) at c.args.piece.now)
    (double_size size room) (g.R.Rack.bytes c.args.rack.now c.args.number) (g.R.Rack.bytes c.write_part.new.rack c.args.number) c.requires.long
    (λ a b size_a put. puts_page size room at (bit_in c.args.now.now.bits.items) (bit_in c.put_bit.new.bits.items) second c.args.piece.now a b size_a c.requires.page c.requires.some c.requires.range
    c.put_bit.ensures.bits
    (subst (λ (t : ℕ). PutsPart t (at / 512) (bit_in c.args.now.now.bits.items (at / 512)) second (at % 512) c.args.piece.now a b) c.table_len-table.ensures
    (subst (λ (s : Bool). PutsPart c.table_len-table.result (at / 512) s second (at % 512) c.args.piece.now a b) stands put))) c.in_ok-write_part.ensures.done

pub returns-in_err-write_part-clause-calls : goal.returns-in_err-write_part-clause-calls
returns-in_err-write_part-clause-calls g c =
    let page = c.args.at / 512 in
    let stands : c.bit-stands.result ≡ bit_in c.args.now.now.bits.items page = c.bit-stands.ensures ∙ ap (λ (l : List ℕ). bit_in l page) c.deref.ensures.value in
    subst (λ (s : Bool). MostCalls g.R.Rack (calls_on_page s (not (bit_in c.args.last.now page)) (length c.args.piece.now)) c.args.rack.now c.write_part.new.rack) stands
    (subst (λ (b : Bool). MostCalls g.R.Rack (calls_on_page c.bit-stands.result (not b) (length c.args.piece.now)) c.args.rack.now c.write_part.new.rack) c.bit-second.ensures c.write_part.ensures.calls)

pub returns-clause-calls : goal.returns-clause-calls
returns-clause-calls g c =
    let page = c.args.at / 512 in
    let stands : c.bit-stands.result ≡ bit_in c.args.now.now.bits.items page = c.bit-stands.ensures ∙ ap (λ (l : List ℕ). bit_in l page) c.deref.ensures.value in
    subst (λ (s : Bool). MostCalls g.R.Rack (calls_on_page s (not (bit_in c.args.last.now page)) (length c.args.piece.now)) c.args.rack.now c.write_part.new.rack) stands
    (subst (λ (b : Bool). MostCalls g.R.Rack (calls_on_page c.bit-stands.result (not b) (length c.args.piece.now)) c.args.rack.now c.write_part.new.rack) c.bit-second.ensures c.write_part.ensures.calls)

pub returns-clause-bits : goal.returns-clause-bits
returns-clause-bits g c =
    subst (λ (b : Bool). (p : ℕ) → bit_in c.put_bit.new.bits.items p ≡ moved (c.args.at / 512) (not b) (bit_in c.args.now.now.bits.items) p) c.bit-second.ensures c.put_bit.ensures.bits
