use Rattle.std.proofs.Common.{◌∙◌, ◌<◌, ℕ, List, [], Bool, true, length, ap, subst, arith}
use Rattle.std.proofs.lemmas.List.{length-set}
use Rattle.std.specs.Prelude.{slice_set}
use Rattle.dg_model.specs.Marks.{AreLeft, with_mark}
use Rattle.dg_store.specs.Stores.{members_of}
use Rattle.dg_store.specs.Stores as stores
use Rattle.dg_volume.proofs.WriteSteps.{gone_lost, reread_few}
use Rattle.dg_volume.specs.Writes.{IsFollowed}
use Rattle.dg_volume.proofs.writes.follow.Goals as goal

pub returns-in_default-clause-lost : goal.returns-in_default-clause-lost
returns-in_default-clause-lost g c = λ missed.
    let keeps = c.written.ensures.keeps in
    let gone = c.in_ok-moved.ensures.gone c.in_default.is in
    gone_lost (stores.table_of c.written.new.view) (members_of c.written.new.view) gone.block keeps.sound.table gone.lost

pub returns-clause-room : goal.returns-clause-room
returns-clause-room g c =
    let left = c.mark.ensures.pending [] in
    left.size ∙ length-set c.written.new.self.pending c.args.block true ∙ ap length c.written.ensures.pending

pub returns-clause-inferred : goal.returns-clause-inferred
returns-clause-inferred g c = λ whole V h.
    let inside : c.args.block < length V = omega (arith, c.requires.inside, c.requires.fits.number, h.was.number) in
    c.mark.ensures.stands (slice_set V c.args.block c.args.buf.now)
    (c.in_ok-moved.ensures.stands c.in-Known.moved c.in-Known.is V (record { tells = h.tells; inside = inside; stands = h.stands; was = h.was }))

pub returns-clause-marks : goal.returns-clause-marks
returns-clause-marks g c = λ whole V.
    let w = slice_set V c.args.block c.args.buf.now in
    let kept = c.args.inference.now in
    let moved = c.written.new.self in
    let left = c.mark.ensures.pending w in
    let Known = IsFollowed g.R.Rack c.args.store.now c.written.new.view kept c.args.block c.args.buf.now V in
    let Left : ℕ → ℕ → List Bool → Type 0 = λ l n old. AreLeft Known l n w (with_mark old c.args.block) c.mark.new.self.pending in
    let next : Left moved.l moved.n moved.pending = record {
      size = left.size;
      fewer = left.fewer;
      are = λ h.
          let inside : c.args.block < length V = omega (arith, c.requires.inside, c.requires.fits.number, h.was.number) in
          left.are (c.in_ok-moved.ensures.stands c.in-Known.moved c.in-Known.is V (record { tells = h.tells; inside = inside; stands = h.stands; was = h.was }));
    } in
    subst (λ (xs : List Bool). Left kept.l kept.n xs) c.written.ensures.pending
    (subst (λ (n : ℕ). Left kept.l n moved.pending) (c.written.ensures.size.1) (subst (λ (l : ℕ). Left l moved.n moved.pending) (c.written.ensures.size.0) next))

pub returns-clause-few : goal.returns-clause-few
returns-clause-few g c = λ whole V.
    let w = slice_set V c.args.block c.args.buf.now in
    let kept = c.args.inference.now in
    let read = c.in_ok-moved.ensures.fetched c.in-Known.moved c.in-Known.is V in
    reread_few g.R.Rack _ (IsFollowed g.R.Rack c.args.store.now c.written.new.view kept c.args.block c.args.buf.now V) kept.l kept.n c.args.store.now c.written.new.view V w c.args.block read.blocks
    c.requires.fits.bytes c.requires.fits.number
    (λ h.
    let inside : c.args.block < length V = omega (arith, c.requires.inside, c.requires.fits.number, h.was.number) in
    record { tells = h.tells; inside = inside; stands = h.stands; was = h.was })
    read.reads read.were read.count
