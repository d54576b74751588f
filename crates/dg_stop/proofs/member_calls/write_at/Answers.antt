use Rattle.std.proofs.Common.{◌≡◌, ℕ, List, length, ap, sym, subst, ◌+◌}
use Rattle.std.specs.Prelude.{OnErr, OnOk, slice_set}
use Rattle.dg_io.specs.Told.{Told}
use Rattle.dg_stop.specs.Layouts.{bit_in, table_size}
use Rattle.dg_stop.specs.Pages.{PutsPiece, TearsPiece}
use Rattle.dg_stop.proofs.MemberLemmas.{lent, lent_back}
use Rattle.dg_stop.specs.Phases.{bits_in, bits_of_held, size_in, size_of}
use Rattle.dg_stop.specs.Behind.{MostCalls, pages_on, parts_on}
use Rattle.dg_stop.proofs.member_calls.write_at.Goals as goal

pub returns-in-Some-clause-done : goal.returns-in-Some-clause-done
returns-in-Some-clause-done g c =
    let q = c.args.member in
    let held = lent c.args.current.now.items q c.in-Some.now.now c.requires.sized.there c.in-Some.ensures.value in
    let size : c.in-Some.now.now.size ≡ size_in c.args.current.now.items q = sym (ap size_of held) in
    let old : c.in-Some.now.now.bits.items ≡ bits_in c.args.current.now.items q = sym (ap bits_of_held held) in
    let new : c.write_pages.new.now.bits.items ≡ bits_in (slice_set c.args.current.now.items q c.write_pages.new.now) q =
    sym (ap bits_of_held (lent_back c.args.current.now.items q c.write_pages.new.now c.requires.sized.there)) in
    subst (λ (l : List ℕ). OnOk c.write_pages.result (Told (PutsPiece (table_size (size_in c.args.current.now.items q) c.args.room) (size_in c.args.current.now.items q)
    (bit_in (bits_in c.args.current.now.items q)) (bit_in l) c.args.place c.args.piece.now) (g.R.Rack.bytes c.args.rack.now q) (g.R.Rack.bytes c.write_pages.new.rack q))) new
    (subst (λ (l : List ℕ). OnOk c.write_pages.result (Told (PutsPiece (table_size (size_in c.args.current.now.items q) c.args.room) (size_in c.args.current.now.items q)
    (bit_in l) (bit_in c.write_pages.new.now.bits.items) c.args.place c.args.piece.now) (g.R.Rack.bytes c.args.rack.now q) (g.R.Rack.bytes c.write_pages.new.rack q))) old
    (subst (λ (k : ℕ). OnOk c.write_pages.result (Told (PutsPiece (table_size k c.args.room) k
    (bit_in c.in-Some.now.now.bits.items) (bit_in c.write_pages.new.now.bits.items) c.args.place c.args.piece.now) (g.R.Rack.bytes c.args.rack.now q) (g.R.Rack.bytes c.write_pages.new.rack q))) size
    c.write_pages.ensures.done))

pub returns-in-Some-clause-torn : goal.returns-in-Some-clause-torn
returns-in-Some-clause-torn g c =
    let q = c.args.member in
    let held = lent c.args.current.now.items q c.in-Some.now.now c.requires.sized.there c.in-Some.ensures.value in
    let size : c.in-Some.now.now.size ≡ size_in c.args.current.now.items q = sym (ap size_of held) in
    let old : c.in-Some.now.now.bits.items ≡ bits_in c.args.current.now.items q = sym (ap bits_of_held held) in
    let new : c.write_pages.new.now.bits.items ≡ bits_in (slice_set c.args.current.now.items q c.write_pages.new.now) q =
    sym (ap bits_of_held (lent_back c.args.current.now.items q c.write_pages.new.now c.requires.sized.there)) in
    subst (λ (l : List ℕ). OnErr c.write_pages.result (Told (TearsPiece (table_size (size_in c.args.current.now.items q) c.args.room) (size_in c.args.current.now.items q)
    (bit_in (bits_in c.args.current.now.items q)) (bit_in l) c.args.place (length c.args.piece.now)) (g.R.Rack.bytes c.args.rack.now q) (g.R.Rack.bytes c.write_pages.new.rack q))) new
    (subst (λ (l : List ℕ). OnErr c.write_pages.result (Told (TearsPiece (table_size (size_in c.args.current.now.items q) c.args.room) (size_in c.args.current.now.items q)
    (bit_in l) (bit_in c.write_pages.new.now.bits.items) c.args.place (length c.args.piece.now)) (g.R.Rack.bytes c.args.rack.now q) (g.R.Rack.bytes c.write_pages.new.rack q))) old
    (subst (λ (k : ℕ). OnErr c.write_pages.result (Told (TearsPiece (table_size k c.args.room) k
    (bit_in c.in-Some.now.now.bits.items) (bit_in c.write_pages.new.now.bits.items) c.args.place (length c.args.piece.now)) (g.R.Rack.bytes c.args.rack.now q) (g.R.Rack.bytes c.write_pages.new.rack q))) size
    c.write_pages.ensures.torn))

pub returns-in-Some-clause-calls : goal.returns-in-Some-clause-calls
returns-in-Some-clause-calls g c =
    let q = c.args.member in
    let n = length c.args.piece.now in
    let held = lent c.args.current.now.items q c.in-Some.now.now c.requires.sized.there c.in-Some.ensures.value in
    let old : c.in-Some.now.now.bits.items ≡ bits_in c.args.current.now.items q = sym (ap bits_of_held held) in
    subst (λ (l : List ℕ). MostCalls g.R.Rack (pages_on c.args.place n + parts_on (bit_in (bits_in c.args.current.now.items q)) (bit_in l) c.args.place n) c.args.rack.now c.write_pages.new.rack) c.bits_at-last.ensures
    (subst (λ (l : List ℕ). MostCalls g.R.Rack (pages_on c.args.place n + parts_on (bit_in l) (bit_in c.bits_at-last.result.now) c.args.place n) c.args.rack.now c.write_pages.new.rack) old c.write_pages.ensures.calls)
