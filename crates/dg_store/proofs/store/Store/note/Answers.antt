use Rattle.std.proofs.Common.{◌≡◌, inl, inr, ◌+◌, ◌*◌, ◌/◌, refl, sym, ◌∙◌, ap, arith, rules}
use Rattle.std.proofs.lemmas.Bool.{cases_eq}
use Rattle.dg_store.proofs.Blocks.{stands_below}
use Rattle.dg_store.proofs.Changed.{fell_changed}
use Rattle.dg_store.proofs.Calls.{kept_at, row_falls, was_in, row_is, own_of, stays_of, called_of, idle_of}
use Rattle.dg_store.proofs.Refills.{noted_long}
use Rattle.dg_store.proofs.Parts.{part_of}
use Rattle.dg_store.proofs.Sound.{row_of, sound_of}
use Rattle.dg_store.proofs.Struck.{struck}
use Rattle.dg_store.proofs.store.Store.note.Goals as goal

pub note-requires : goal.note-requires
note-requires g c =
    let part = part_of c.requires.sound c.requires.boundary c.index_mut.ensures.value in
    let p = 2 * c.args.boundary + c.args.side in
    let at : p / 2 ≡ c.args.boundary = omega (arith, c.requires.side) in
    record {
      well = part.pair.well;
      side = c.requires.side;
      beside = rw (part.pair.slots_is, part.pair.size_is) c.requires.beside;
      fits = rw part.pair.number_is (λ good. c.requires.fits ((part.changed c.index_mut.result.now).was p at ∙ good));
      room = part.room;
      stand = part.stand;
    }

pub returns : goal.returns
returns g c =
    let s = c.requires.sound in
    let part = part_of s c.requires.boundary c.index_mut.ensures.value in
    let x = c.index_mut.result.now in
    let y = c.note.new.self in
    let row = c.args.self.now.row.items in
    let k = rw part.pair.number_is at c.note.ensures in
    let leaves = c.note.ensures.leaves in
    let changed = part.changed y in
    let p = 2 * c.args.boundary + c.args.side in
    let at : p / 2 ≡ c.args.boundary = omega (arith, c.requires.side) in
    record {
      sound = sound_of g.R.Rack g.met.R.Rack.told _ s.table
          (row_is g.R.Rack c.args.self.now.map.shape c.args.boundary row x y _ _ part.within part.was (row_of g.R.Rack c.args.self.now s) leaves.pair leaves.stand leaves.others_stand leaves.other_bytes
          (λ q here serving. noted_long c.args.self.now.map.shape p c.args.place c.args.buf.now c.note.result _ _ _ _ (was_in _ _ _ _ leaves.falls)
          (λ good. c.requires.fits (changed.was p at ∙ good)) k.not_good k.out k.noted k.other_members (λ is. ap g.R.Rack.bytes (k.quiet is)) q
          (λ stands. s.long q (λ out. stands (sym (changed.was q here) ∙ out))) serving))
          s.built.block s.built.given_up;
      stays = record { shape = refl; stays = stays_of g.R.Rack g.met.R.Rack.after leaves; own = own_of g.R.Rack part.pair.number_is c.requires.boundary leaves };
      called = called_of g.R.Rack part.pair.own changed.was c.note.ensures.made;
      idle = idle_of g.R.Rack g.met.R.Rack.after part.pair.own changed.was c.note.ensures.made;
      faulty = fell_changed c.args.boundary _ _ _ _ changed _ _ (λ q off. leaves.other_faults q (λ here. off (here ∙ part.pair.number_is))) leaves.fell;
      table = search rules;
      not_good = (λ is good. k.not_good.0 is (sym (changed.was p at) ∙ good), λ ne. k.not_good.1 (λ good. ne (changed.was p at ∙ good)));
      kept = λ other q. elim (cases_eq (q / 2) c.args.boundary) [
        | inl here ↦ changed.here q here ∙ k.stays other q ∙ sym (changed.was q here)
        | inr off ↦ changed.other q off
      ];
      fell = λ is. struck c.args.boundary c.args.side _ _ _ _ c.requires.side changed (k.out is) (k.others is);
      fault = k.fell;
      falls = row_falls _ _ _ _ x y part.within part.was s.built.stands _ _ leaves.falls;
      patched = k.noted;
      torn = k.torn;
      whole = k.whole;
      other_bytes = k.other_members;
      other_faults = k.only_faults;
      written = search rules;
      tried = search rules;
      quiet = search rules;
      most = search rules;
      stands = λ V st_for. stands_below _ _ _ _ V c.args.self.now.map s.table
          (λ t slot v low. kept_at _ _ _ _ x y part.within part.was s.built.stands _ _ leaves.other_bytes t slot v
          (λ here had. c.note.ensures.kept slot v (omega (arith, part.pair.slots_is, low)) had)) st_for;
    }
