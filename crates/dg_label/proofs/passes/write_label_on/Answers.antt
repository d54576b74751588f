use Rattle.std.proofs.Common.{◌≡◌, ◌+◌, ◌*◌, ◌/◌, ◌%◌, List, ℕ, arith, subst}
use Rattle.dg_io.specs.Told.{Patched}
use Rattle.dg_model.specs.Saves.{label_bytes}
use Rattle.dg_store.specs.Leaves.{BytesChange}
use Rattle.dg_store.specs.Stores.{rack_of, shape_of}
use Rattle.dg_label.specs.Pages.{PageFails, numbered, page_of}
use Rattle.dg_label.specs.Seals.{KeepsArray}
use Rattle.dg_label.proofs.ByteLaws.{label_long}
use Rattle.dg_label.proofs.FallenLaws.{fallen_by_note}
use Rattle.dg_label.proofs.LeftLaws.{page_failed}
use Rattle.dg_label.proofs.PassLaws.{bad_by_note, good_by_note, touched_by_note, wrote_by_note}
use Rattle.dg_label.proofs.passes.write_label_on.Goals as goal

pub returns-in_default : goal.returns-in_default
returns-in_default g c =
    let q = c.args.member in
    let a = c.args.store.now in
    let b = c.note.new.self in
    let at : 2 * (q / 2) + q % 2 ≡ q = omega arith in
    let e = rw at at c.note.ensures in
    let page : c.write_label.new.buf ≡ label_bytes (numbered (shape_of a) c.args.kept.now q) = rw c.shape.ensures at c.write_label.ensures in
    let change : List ℕ → List ℕ → Type 0 = Patched 0 (label_bytes (numbered (shape_of a) c.args.kept.now q)) in
    let array : KeepsArray g.R.Rack a b = record { sound = e.sound; stays = e.stays; idle = e.idle; fell = e.faulty; table = e.table; falls = e.falls; stands = e.stands } in
    record {
      touches = touched_by_note g.R.Rack q change a b array e.other_bytes e.most c.note.result e.not_good e.kept e.fell
          (λ is. subst (λ (xs : List ℕ). BytesChange g.R.Rack a b q (Patched 0 xs)) page (e.patched is)) e.quiet;
      fallen = fallen_by_note g.R.Rack q (λ (p : ℕ). PageFails (g.R.Rack.steady (rack_of a)) (page_of (shape_of a) c.args.kept.now p)) a b e.other_bytes c.note.result
          e.not_good e.kept e.fell
          (λ is. page_failed (g.R.Rack.steady (rack_of a)) c.write_label.new.buf (page_of (shape_of a) c.args.kept.now q) (label_long (numbered (shape_of a) c.args.kept.now q)) page
          (g.R.Rack.bytes (rack_of a) q) (g.R.Rack.bytes (rack_of b) q) (e.torn is) (e.whole is)) e.quiet;
      good = bad_by_note g.R.Rack q change a b array e.other_bytes e.most c.note.result c.in_default.not-Noted e.not_good e.kept e.fell;
      wrote = wrote_by_note g.R.Rack q change a b array e.other_bytes e.most c.note.result e.not_good e.written e.tried;
    }

pub returns-in-Noted : goal.returns-in-Noted
returns-in-Noted g c =
    let q = c.args.member in
    let a = c.args.store.now in
    let b = c.note.new.self in
    let at : 2 * (q / 2) + q % 2 ≡ q = omega arith in
    let e = rw at at c.note.ensures in
    let page : c.write_label.new.buf ≡ label_bytes (numbered (shape_of a) c.args.kept.now q) = rw c.shape.ensures at c.write_label.ensures in
    let change : List ℕ → List ℕ → Type 0 = Patched 0 (label_bytes (numbered (shape_of a) c.args.kept.now q)) in
    let array : KeepsArray g.R.Rack a b = record { sound = e.sound; stays = e.stays; idle = e.idle; fell = e.faulty; table = e.table; falls = e.falls; stands = e.stands } in
    record {
      touches = touched_by_note g.R.Rack q change a b array e.other_bytes e.most c.note.result e.not_good e.kept e.fell
          (λ is. subst (λ (xs : List ℕ). BytesChange g.R.Rack a b q (Patched 0 xs)) page (e.patched is)) e.quiet;
      fallen = fallen_by_note g.R.Rack q (λ (p : ℕ). PageFails (g.R.Rack.steady (rack_of a)) (page_of (shape_of a) c.args.kept.now p)) a b e.other_bytes c.note.result
          e.not_good e.kept e.fell
          (λ is. page_failed (g.R.Rack.steady (rack_of a)) c.write_label.new.buf (page_of (shape_of a) c.args.kept.now q) (label_long (numbered (shape_of a) c.args.kept.now q)) page
          (g.R.Rack.bytes (rack_of a) q) (g.R.Rack.bytes (rack_of b) q) (e.torn is) (e.whole is)) e.quiet;
      good = good_by_note g.R.Rack q change a b array e.other_bytes e.most c.note.result c.in-Noted.is e.not_good e.kept;
      wrote = wrote_by_note g.R.Rack q change a b array e.other_bytes e.most c.note.result e.not_good e.written e.tried;
    }
