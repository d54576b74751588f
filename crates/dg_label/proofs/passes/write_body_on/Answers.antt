use Rattle.std.proofs.Common.{◌≡◌, ◌+◌, ◌*◌, ◌/◌, ◌%◌, ℕ, arith, length}
use Rattle.dg_io.specs.Told.{Patched, Torn}
use Rattle.dg_model.specs.Saves.{body_place}
use Rattle.dg_store.specs.Stores.{shape_of}
use Rattle.dg_label.proofs.FallenLaws.{fallen_by_note}
use Rattle.dg_label.proofs.PassLaws.{touched_by_note}
use Rattle.dg_label.proofs.passes.write_body_on.Goals as goal

pub returns : goal.returns
returns g c =
    let at : 2 * (c.args.member / 2) + c.args.member % 2 ≡ c.args.member = omega arith in
    let e = rw (at, c.body_place-place.ensures, c.shape.ensures) at c.note.ensures in
    record {
      touches = touched_by_note g.R.Rack c.args.member (Patched (body_place (shape_of c.args.store.now)) c.args.body.now) c.args.store.now c.note.new.self
          (record { sound = e.sound; stays = e.stays; idle = e.idle; fell = e.faulty; table = e.table; falls = e.falls; stands = e.stands })
          e.other_bytes e.most c.note.result e.not_good e.kept e.fell e.patched e.quiet;
      fallen = fallen_by_note g.R.Rack c.args.member (λ (q : ℕ). Torn (body_place (shape_of c.args.store.now)) (length c.args.body.now)) c.args.store.now c.note.new.self
          e.other_bytes c.note.result e.not_good e.kept e.fell e.torn e.quiet;
    }
