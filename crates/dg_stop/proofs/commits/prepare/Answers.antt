use Rattle.std.proofs.Common.{◌≡◌, ℕ, ap, sym, ◌∙◌, refl, arith}
use Rattle.dg_stop.specs.Headers.{header_table}
use Rattle.dg_stop.specs.Layouts.{table_place}
use Rattle.dg_stop.specs.Values.{header_of}
use Rattle.dg_stop.proofs.PreparingTold.{OnErr-any, OnErr-map, OnOk-map, bits_none, bits_told, extra_none, extra_told, header_long, header_names, header_none, header_placed, header_told, second_fits, third_fits, writes_either}
use Rattle.dg_stop.proofs.Frames.{all_pages, bits_pages, extra_pages}
use Rattle.dg_stop.proofs.MadeLemmas.{made_one, made_three, made_two}
use Rattle.dg_stop.proofs.commits.prepare.Goals as goal

pub returns-in_err-write-clause-prepares : goal.returns-in_err-write-clause-prepares
returns-in_err-write-clause-prepares g c steady p =
    let at : c.place_of_table-place.result ≡ table_place (header_table (header_of c.args.header.now)) c.args.header.now.sequence =
    c.place_of_table-place.ensures ∙ ap (λ (t : ℕ). table_place t c.args.header.now.sequence) c.table_len-table.ensures in
    bits_told c.args.header.now.member (header_of c.args.header.now) c.args.bits.now c.args.extra.now c.requires.is refl c.requires.plain c.requires.bits c.requires.extra p
    (g.R.Rack.bytes c.args.rack.now c.args.header.now.member) (g.R.Rack.bytes c.write.new.self c.args.header.now.member) c.requires.long
    (rw (sym at) c.in_err-write.ensures.err)

pub returns-in_err-write-clause-stopped : goal.returns-in_err-write-clause-stopped
returns-in_err-write-clause-stopped g c =
    let at : c.place_of_table-place.result ≡ table_place (header_table (header_of c.args.header.now)) c.args.header.now.sequence =
    c.place_of_table-place.ensures ∙ ap (λ (t : ℕ). table_place t c.args.header.now.sequence) c.table_len-table.ensures in
    OnErr-any c.from_residual.result _ (λ steady.
    bits_none c.args.header.now.member (header_of c.args.header.now) c.args.bits.now c.args.extra.now c.requires.is refl c.requires.plain c.requires.bits c.requires.extra
    (g.R.Rack.bytes c.args.rack.now c.args.header.now.member) (g.R.Rack.bytes c.write.new.self c.args.header.now.member) c.requires.long
    (rw (sym at) c.in_err-write.ensures.err))

pub write-requires-2-clause-range : goal.write-requires-2-clause-range
write-requires-2-clause-range g c =
    let at : c.place_of_table-place.result ≡ table_place (header_table (header_of c.args.header.now)) c.args.header.now.sequence =
    c.place_of_table-place.ensures ∙ ap (λ (t : ℕ). table_place t c.args.header.now.sequence) c.table_len-table.ensures in
    rw (at, c.bits_len.ensures) (second_fits (header_of c.args.header.now) c.args.bits.now c.args.extra.now
    (g.R.Rack.bytes c.args.rack.now c.args.header.now.member) (g.R.Rack.bytes c.write.new.self c.args.header.now.member)
    c.requires.is c.requires.bits c.requires.extra c.requires.long (rw (sym at) c.in_ok-write.ensures.ok))

pub returns-in_err-write-2-clause-prepares : goal.returns-in_err-write-2-clause-prepares
returns-in_err-write-2-clause-prepares g c steady p =
    let at : c.place_of_table-place.result ≡ table_place (header_table (header_of c.args.header.now)) c.args.header.now.sequence =
    c.place_of_table-place.ensures ∙ ap (λ (t : ℕ). table_place t c.args.header.now.sequence) c.table_len-table.ensures in
    extra_told c.args.header.now.member (header_of c.args.header.now) c.args.bits.now c.args.extra.now c.requires.is refl c.requires.plain c.requires.bits c.requires.extra p
    (g.R.Rack.bytes c.args.rack.now c.args.header.now.member) (g.R.Rack.bytes c.write.new.self c.args.header.now.member) (g.R.Rack.bytes c.write-2.new.self c.args.header.now.member)
    c.requires.long (rw (sym at) c.in_ok-write.ensures.ok) (rw (sym at, sym c.bits_len.ensures) c.in_err-write-2.ensures.err)

pub returns-in_err-write-2-clause-stopped : goal.returns-in_err-write-2-clause-stopped
returns-in_err-write-2-clause-stopped g c =
    let at : c.place_of_table-place.result ≡ table_place (header_table (header_of c.args.header.now)) c.args.header.now.sequence =
    c.place_of_table-place.ensures ∙ ap (λ (t : ℕ). table_place t c.args.header.now.sequence) c.table_len-table.ensures in
    OnErr-any c.from_residual-in_err-write-2.result _ (λ steady.
    extra_none c.args.header.now.member (header_of c.args.header.now) c.args.bits.now c.args.extra.now c.requires.is refl c.requires.plain c.requires.bits c.requires.extra
    (g.R.Rack.bytes c.args.rack.now c.args.header.now.member) (g.R.Rack.bytes c.write.new.self c.args.header.now.member) (g.R.Rack.bytes c.write-2.new.self c.args.header.now.member)
    c.requires.long (rw (sym at) c.in_ok-write.ensures.ok) (rw (sym at, sym c.bits_len.ensures) c.in_err-write-2.ensures.err))

pub write_header-requires-clause-long : goal.write_header-requires-clause-long
write_header-requires-clause-long g c =
    let at : c.place_of_table-place.result ≡ table_place (header_table (header_of c.args.header.now)) c.args.header.now.sequence =
    c.place_of_table-place.ensures ∙ ap (λ (t : ℕ). table_place t c.args.header.now.sequence) c.table_len-table.ensures in
    third_fits (header_of c.args.header.now) c.args.bits.now c.args.extra.now
    (g.R.Rack.bytes c.args.rack.now c.args.header.now.member) (g.R.Rack.bytes c.write.new.self c.args.header.now.member) (g.R.Rack.bytes c.write-2.new.self c.args.header.now.member)
    c.requires.is c.requires.bits c.requires.extra c.requires.long (rw (sym at) c.in_ok-write.ensures.ok) (rw (sym at, sym c.bits_len.ensures) c.in_ok-write-2.ensures.ok)

pub returns-clause-prepares : goal.returns-clause-prepares
returns-clause-prepares g c steady p =
    let at : c.place_of_table-place.result ≡ table_place (header_table (header_of c.args.header.now)) c.args.header.now.sequence =
    c.place_of_table-place.ensures ∙ ap (λ (t : ℕ). table_place t c.args.header.now.sequence) c.table_len-table.ensures in
    let on : g.R.Rack.steady c.write-2.new.self = c.in_ok-write-2.ensures.leaves.steady_on.0 (c.in_ok-write.ensures.leaves.steady_on.0 steady) in
    header_told c.args.header.now.member (header_of c.args.header.now) c.args.bits.now c.args.extra.now c.requires.is refl c.requires.plain c.requires.bits c.requires.extra
    (g.R.Rack.bytes c.args.rack.now c.args.header.now.member) (g.R.Rack.bytes c.write.new.self c.args.header.now.member) (g.R.Rack.bytes c.write-2.new.self c.args.header.now.member)
    c.requires.long (rw (sym at) c.in_ok-write.ensures.ok) (rw (sym at, sym c.bits_len.ensures) c.in_ok-write-2.ensures.ok) p
    (g.R.Rack.bytes c.write_header.new.rack c.args.header.now.member)
    (writes_either c.write_header.result (g.R.Rack.steady c.write-2.new.self) (header_of c.args.header.now) _ _ c.write_header.ensures.done c.write_header.ensures.stopped on)

pub returns-clause-done : goal.returns-clause-done
returns-clause-done g c =
    let at : c.place_of_table-place.result ≡ table_place (header_table (header_of c.args.header.now)) c.args.header.now.sequence =
    c.place_of_table-place.ensures ∙ ap (λ (t : ℕ). table_place t c.args.header.now.sequence) c.table_len-table.ensures in
    OnOk-map c.write_header.result _ _ (λ done.
    header_names c.args.header.now.member (header_of c.args.header.now) c.args.bits.now c.args.extra.now c.requires.is refl c.requires.plain c.requires.bits c.requires.extra
    (g.R.Rack.bytes c.args.rack.now c.args.header.now.member) (g.R.Rack.bytes c.write.new.self c.args.header.now.member) (g.R.Rack.bytes c.write-2.new.self c.args.header.now.member)
    c.requires.long (rw (sym at) c.in_ok-write.ensures.ok) (rw (sym at, sym c.bits_len.ensures) c.in_ok-write-2.ensures.ok)
    (g.R.Rack.bytes c.write_header.new.rack c.args.header.now.member) done) c.write_header.ensures.done

pub returns-clause-stopped : goal.returns-clause-stopped
returns-clause-stopped g c =
    let at : c.place_of_table-place.result ≡ table_place (header_table (header_of c.args.header.now)) c.args.header.now.sequence =
    c.place_of_table-place.ensures ∙ ap (λ (t : ℕ). table_place t c.args.header.now.sequence) c.table_len-table.ensures in
    OnErr-map c.write_header.result _ _ (λ stopped steady.
    header_none c.args.header.now.member (header_of c.args.header.now) c.args.bits.now c.args.extra.now c.requires.is refl c.requires.plain c.requires.bits c.requires.extra
    (g.R.Rack.bytes c.args.rack.now c.args.header.now.member) (g.R.Rack.bytes c.write.new.self c.args.header.now.member) (g.R.Rack.bytes c.write-2.new.self c.args.header.now.member)
    c.requires.long (rw (sym at) c.in_ok-write.ensures.ok) (rw (sym at, sym c.bits_len.ensures) c.in_ok-write-2.ensures.ok)
    (g.R.Rack.bytes c.write_header.new.rack c.args.header.now.member)
    (stopped (c.in_ok-write-2.ensures.leaves.steady_on.0 (c.in_ok-write.ensures.leaves.steady_on.0 steady)))) c.write_header.ensures.stopped

pub returns-clause-long : goal.returns-clause-long
returns-clause-long g c =
    let at : c.place_of_table-place.result ≡ table_place (header_table (header_of c.args.header.now)) c.args.header.now.sequence =
    c.place_of_table-place.ensures ∙ ap (λ (t : ℕ). table_place t c.args.header.now.sequence) c.table_len-table.ensures in
    OnOk-map c.write_header.result _ _ (λ done.
    header_long c.args.header.now.member (header_of c.args.header.now) c.args.bits.now c.args.extra.now c.requires.is refl c.requires.plain c.requires.bits c.requires.extra
    (g.R.Rack.bytes c.args.rack.now c.args.header.now.member) (g.R.Rack.bytes c.write.new.self c.args.header.now.member) (g.R.Rack.bytes c.write-2.new.self c.args.header.now.member)
    c.requires.long (rw (sym at) c.in_ok-write.ensures.ok) (rw (sym at, sym c.bits_len.ensures) c.in_ok-write-2.ensures.ok)
    (g.R.Rack.bytes c.write_header.new.rack c.args.header.now.member) done) c.write_header.ensures.done

pub returns-clause-placed : goal.returns-clause-placed
returns-clause-placed g c =
    let at : c.place_of_table-place.result ≡ table_place (header_table (header_of c.args.header.now)) c.args.header.now.sequence =
    c.place_of_table-place.ensures ∙ ap (λ (t : ℕ). table_place t c.args.header.now.sequence) c.table_len-table.ensures in
    OnOk-map c.write_header.result _ _ (λ done.
    header_placed c.args.header.now.member (header_of c.args.header.now) c.args.bits.now c.args.extra.now c.requires.is refl c.requires.plain c.requires.bits c.requires.extra
    (g.R.Rack.bytes c.args.rack.now c.args.header.now.member) (g.R.Rack.bytes c.write.new.self c.args.header.now.member) (g.R.Rack.bytes c.write-2.new.self c.args.header.now.member)
    c.requires.long (rw (sym at) c.in_ok-write.ensures.ok) (rw (sym at, sym c.bits_len.ensures) c.in_ok-write-2.ensures.ok)
    (g.R.Rack.bytes c.write_header.new.rack c.args.header.now.member) done) c.write_header.ensures.done

pub returns-in_err-write-clause-made : goal.returns-in_err-write-clause-made
returns-in_err-write-clause-made g c = made_one g.R.Rack c.args.header.now.member c.args.rack.now c.write.new.self c.in_err-write.ensures.made

pub returns-in_err-write-2-clause-made : goal.returns-in_err-write-2-clause-made
returns-in_err-write-2-clause-made g c = made_two g.R.Rack c.args.header.now.member c.args.rack.now c.write.new.self c.write-2.new.self c.in_ok-write.ensures.made c.in_err-write-2.ensures.made

pub returns-clause-made : goal.returns-clause-made
returns-clause-made g c = made_three g.R.Rack c.args.header.now.member c.args.rack.now c.write.new.self c.write-2.new.self c.write_header.new.rack
    c.in_ok-write.ensures.made c.in_ok-write-2.ensures.made c.write_header.ensures.made

pub returns-in_err-write-clause-pages : goal.returns-in_err-write-clause-pages
returns-in_err-write-clause-pages g c =
    let at : c.place_of_table-place.result ≡ table_place (header_table (header_of c.args.header.now)) c.args.header.now.sequence =
    c.place_of_table-place.ensures ∙ ap (λ (t : ℕ). table_place t c.args.header.now.sequence) c.table_len-table.ensures in
    bits_pages (header_of c.args.header.now) c.args.bits.now c.args.extra.now c.requires.is c.requires.bits c.requires.extra (g.R.Rack.bytes c.args.rack.now c.args.header.now.member) (g.R.Rack.bytes c.write.new.self c.args.header.now.member) (rw (sym at) c.in_err-write.ensures.err)

pub returns-in_err-write-2-clause-pages : goal.returns-in_err-write-2-clause-pages
returns-in_err-write-2-clause-pages g c =
    let at : c.place_of_table-place.result ≡ table_place (header_table (header_of c.args.header.now)) c.args.header.now.sequence =
    c.place_of_table-place.ensures ∙ ap (λ (t : ℕ). table_place t c.args.header.now.sequence) c.table_len-table.ensures in
    extra_pages (header_of c.args.header.now) c.args.bits.now c.args.extra.now c.requires.is c.requires.bits c.requires.extra (g.R.Rack.bytes c.args.rack.now c.args.header.now.member) (g.R.Rack.bytes c.write.new.self c.args.header.now.member) (g.R.Rack.bytes c.write-2.new.self c.args.header.now.member)
    c.requires.long (rw (sym at) c.in_ok-write.ensures.ok) (rw (sym at, sym c.bits_len.ensures) c.in_err-write-2.ensures.err)

pub returns-clause-pages : goal.returns-clause-pages
returns-clause-pages g c =
    let at : c.place_of_table-place.result ≡ table_place (header_table (header_of c.args.header.now)) c.args.header.now.sequence =
    c.place_of_table-place.ensures ∙ ap (λ (t : ℕ). table_place t c.args.header.now.sequence) c.table_len-table.ensures in
    all_pages (header_of c.args.header.now) c.args.bits.now c.args.extra.now c.requires.is c.requires.bits c.requires.extra (g.R.Rack.bytes c.args.rack.now c.args.header.now.member) (g.R.Rack.bytes c.write.new.self c.args.header.now.member) (g.R.Rack.bytes c.write-2.new.self c.args.header.now.member) (g.R.Rack.bytes c.write_header.new.rack c.args.header.now.member)
    c.requires.long (rw (sym at) c.in_ok-write.ensures.ok)
    (second_fits (header_of c.args.header.now) c.args.bits.now c.args.extra.now (g.R.Rack.bytes c.args.rack.now c.args.header.now.member) (g.R.Rack.bytes c.write.new.self c.args.header.now.member)
    c.requires.is c.requires.bits c.requires.extra c.requires.long (rw (sym at) c.in_ok-write.ensures.ok))
    (rw (sym at, sym c.bits_len.ensures) c.in_ok-write-2.ensures.ok) c.write_header.ensures.torn

pub returns-in_err-write-clause-calls : goal.returns-in_err-write-clause-calls
returns-in_err-write-clause-calls g c = omega (arith, c.write.ensures.leaves.counted.most)

pub returns-in_err-write-2-clause-calls : goal.returns-in_err-write-2-clause-calls
returns-in_err-write-2-clause-calls g c = omega (arith, c.write.ensures.leaves.counted.most, c.write-2.ensures.leaves.counted.most)

pub returns-clause-calls : goal.returns-clause-calls
returns-clause-calls g c = omega (arith, c.write.ensures.leaves.counted.most, c.write-2.ensures.leaves.counted.most, c.write_header.ensures.leaves.counted.most)
