use Rattle.std.proofs.Common.{ℕ, List, length, ◌∙◌, ap, subst}
use Rattle.std.specs.Prelude.{OnErr, OnOk}
use Rattle.dg_io.specs.Told.{Told, Patched, Torn}
use Rattle.dg_stop.proofs.Frames.{header_torn}
use Rattle.dg_stop.proofs.HeaderLemmas.{header_size}
use Rattle.dg_stop.specs.Layouts.{header_place}
use Rattle.dg_stop.specs.Values.{header_of}
use Rattle.dg_stop.proofs.headers.write_header.Goals as goal

pub returns-clause-torn : goal.returns-clause-torn
returns-clause-torn g c =
    header_torn c.write.result (header_of c.args.header.now) (g.R.Rack.bytes c.args.rack.now c.args.header.now.member) (g.R.Rack.bytes c.write.new.self c.args.header.now.member) c.requires.long
    (subst (λ (l : List ℕ). OnOk c.write.result (Told (Patched (header_place c.args.header.now.sequence) l) (g.R.Rack.bytes c.args.rack.now c.args.header.now.member) (g.R.Rack.bytes c.write.new.self c.args.header.now.member)))
    c.fill_header.ensures c.write.ensures.ok)
    (subst (λ (n : ℕ). OnErr c.write.result (Told (Torn (header_place c.args.header.now.sequence) n) (g.R.Rack.bytes c.args.rack.now c.args.header.now.member) (g.R.Rack.bytes c.write.new.self c.args.header.now.member)))
    (ap (λ (l : List ℕ). length l) c.fill_header.ensures ∙ header_size (header_of c.args.header.now)) c.write.ensures.err)
