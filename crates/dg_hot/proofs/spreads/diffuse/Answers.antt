use Rattle.std.proofs.Common.{◌∙◌, ◌+◌, ◌<◌, ℕ, List, length, refl, sym, ap, subst, take, arith}
use Rattle.std.specs.Global.{Vec}
use Rattle.std.specs.Prelude.{map}
use Rattle.std.proofs.lemmas.List.{get_or_read}
use Rattle.std.proofs.lemmas.List.Sums.{sum_by-take-le}
use Rattle.dg_model.specs.Homes.{home_of}
use Rattle.dg_store.specs.Stores.{table_of}
use Rattle.dg_hot.specs.Copied.{AreApart, CanCopy}
use Rattle.dg_hot.specs.Spreads.{HasSpreadSome, copy_calls, count_in, spread_of, to_copy}
use Rattle.dg_hot.proofs.CallLaws.{as_many, calls_next, calls_none, calls_within}
use Rattle.dg_hot.proofs.FileLaws.{IsSettled, by_blocks, copied_apart, copied_can, has_none, list_here, none_before, on_err, settled_has, settled_some, spread_on, spread_same, spread_some, spreads_as}
use Rattle.dg_hot.proofs.PlacedLaws.{can_copy}
use Rattle.dg_hot.proofs.StillLaws.{same_rack, still_on}
use Rattle.dg_hot.proofs.StoreLaws.{moved_both, moved_none}
use Rattle.dg_hot.proofs.spreads.diffuse.Goals as goal

pub returns-in_err-files-clause-err : goal.returns-in_err-files-clause-err
returns-in_err-files-clause-err g c wants by =
    on_err c.from_residual.result _ (record { count = 0; gained = 0; has = has_none wants c.args.homes.now c.args.hot.now c.args.copies.now c.args.store.now })

pub loop-place-init : goal.loop-place-init
loop-place-init g c = record {
  moved = moved_none g.R.Rack c.args.store.now c.requires.sound;
  whole = c.requires.whole;
  spread = λ wants by. has_none wants c.args.homes.now c.in_ok-files.files.items c.args.copies.now c.args.store.now;
  few = omega arith;
  most = calls_none g.R.Rack c.args.store.now c.args.store.now (copy_calls (table_of c.args.store.now) (count_in (take 0 c.args.blocks.now))) refl;
  still = λ none. (refl, refl);
}

-- ---- one file

pub spread_file-requires-clause-copies : goal.spread_file-requires-clause-copies
spread_file-requires-clause-copies g c =
    let (wants, by) = c.requires.listed in
    let start : IsSettled wants c.args.homes.now (spread_of c.args.store.now c.args.copies.now) = record { placed = by.placed; fit = by.fit; sized = c.requires.sound.table.size } in
    (settled_has wants c.args.homes.now c.in_ok-files.files.items c.loop-place.place c.loop-place.gained c.args.copies.now c.loop-place.copies
    c.args.store.now c.loop-place.store start (c.loop-place.invariant.spread wants by)).placed.copies_ascend

pub spread_file-requires-clause-apart : goal.spread_file-requires-clause-apart
spread_file-requires-clause-apart g c =
    let (wants, by) = c.requires.listed in
    let low : c.loop-place.place < length c.in_ok-files.files.items = omega arith in
    let at = sym (get_or_read c.in_ok-files.files.items _ _ low c.index.ensures 0) in
    let own =
    c.deref.ensures.value
    ∙ list_here (to_copy wants c.args.homes.now c.args.copies.now) c.in_ok-files.files.items c.args.blocks.now c.loop-place.place c.index.result.now c.index-blocks-place.result
    (by.listed ∙ ap (map (to_copy wants c.args.homes.now c.args.copies.now)) (sym c.in_ok-files.ensures.inodes)) low at c.index-blocks-place.is
    in
    subst AreApart (sym own) (copied_apart wants c.args.homes.now c.args.copies.now c.index.result.now)

pub spread_file-requires-clause-can : goal.spread_file-requires-clause-can
spread_file-requires-clause-can g c h s home off none =
    let (wants, by) = c.requires.listed in
    let start : IsSettled wants c.args.homes.now (spread_of c.args.store.now c.args.copies.now) = record { placed = by.placed; fit = by.fit; sized = c.requires.sound.table.size } in
    let now =
    settled_has wants c.args.homes.now c.in_ok-files.files.items c.loop-place.place c.loop-place.gained c.args.copies.now c.loop-place.copies
    c.args.store.now c.loop-place.store start (c.loop-place.invariant.spread wants by)
    in
    let low : c.loop-place.place < length c.in_ok-files.files.items = omega arith in
    let at = sym (get_or_read c.in_ok-files.files.items _ _ low c.index.ensures 0) in
    let own =
    c.deref.ensures.value
    ∙ list_here (to_copy wants c.args.homes.now c.args.copies.now) c.in_ok-files.files.items c.args.blocks.now c.loop-place.place c.index.result.now c.index-blocks-place.result
    (by.listed ∙ ap (map (to_copy wants c.args.homes.now c.args.copies.now)) (sym c.in_ok-files.ensures.inodes)) low at c.index-blocks-place.is
    in
    subst (CanCopy (table_of c.loop-place.store) s) (sym own)
    (copied_can wants c.args.homes.now c.args.copies.now c.index.result.now (table_of c.loop-place.store) s
    (can_copy wants (table_of c.loop-place.store) c.args.homes.now c.loop-place.copies c.index.result.now h s now.placed now.fit now.sized home none off))

pub loop-place-preserved : goal.loop-place-preserved
loop-place-preserved g c =
    let old = c.loop-place.invariant in
    let did = c.in_ok-more.ensures in
    let low : c.loop-place.place < length c.in_ok-files.files.items = omega arith in
    let at = sym (get_or_read c.in_ok-files.files.items _ _ low c.index.ensures 0) in
    record {
      moved = moved_both g.R.Rack _ _ _ old.moved did.moved;
      whole = c.in_default.ensures;
      spread = λ wants by.
          let own =
          c.deref.ensures.value
          ∙ list_here (to_copy wants c.args.homes.now c.args.copies.now) c.in_ok-files.files.items c.args.blocks.now c.loop-place.place c.index.result.now c.index-blocks-place.result
          (by.listed ∙ ap (map (to_copy wants c.args.homes.now c.args.copies.now)) (sym c.in_ok-files.ensures.inodes)) low at c.index-blocks-place.is
          in
          let tried =
          spreads_as _ _ c.in_ok-more.more c.loop-place.copies c.spread_file.new.copies c.loop-place.store c.spread_file.new.store
          (by_blocks wants c.args.homes.now c.args.copies.now c.index.result.now c.deref.result.now (home_of c.args.homes.now c.index.result.now)
          (home_of c.loop-place.copies c.index.result.now)
          (spread_of c.loop-place.store c.loop-place.copies) refl
          (none_before wants c.args.homes.now c.in_ok-files.files.items c.loop-place.place c.loop-place.gained c.args.copies.now c.loop-place.copies
          c.args.store.now c.loop-place.store c.index.result.now (c.loop-place.invariant.spread wants by))
          own)
          c.in_ok-more.ensures.spread
          in
          spread_on wants c.args.homes.now c.in_ok-files.files.items c.loop-place.place (c.loop-place.gained + c.in_ok-more.more)
          c.loop-place.gained c.in_ok-more.more c.index.result.now c.args.copies.now c.loop-place.copies c.spread_file.new.copies
          c.args.store.now c.loop-place.store c.spread_file.new.store low at refl (old.spread wants by) tried c.in_default.ensures;
      few = omega (arith, old.few, did.few);
      most =
          let (wants, by) = c.requires.listed in
          let many = as_many (to_copy wants c.args.homes.now c.args.copies.now) c.args.hot.now c.args.blocks.now by.listed in
          let files = ap length c.in_ok-files.ensures.inodes in
          let long : c.loop-place.place < length c.args.blocks.now = omega (arith, many, files, c.loop-place-test.true) in
          calls_next g.R.Rack c.args.blocks.now c.loop-place.place c.index-blocks-place.result c.deref.result.now c.args.store.now c.loop-place.store c.spread_file.new.store
          long c.index-blocks-place.is c.deref.ensures.value c.loop-place.invariant.moved.leaves.keeps.shape c.loop-place.invariant.most did.most;
      still = still_on c.args.homes.now c.args.copies.now c.loop-place.copies c.spread_file.new.copies c.args.hot.now c.in_ok-files.files.items c.loop-place.place
          c.index.result.now c.args.store.now c.loop-place.store c.spread_file.new.store c.in_ok-files.ensures.inodes low at old.still did.still;
    }

-- ---- calls

pub returns-in_err-files-clause-most : goal.returns-in_err-files-clause-most
returns-in_err-files-clause-most g c =
    calls_none g.R.Rack c.args.store.now c.args.store.now (copy_calls (table_of c.args.store.now) (count_in c.args.blocks.now)) refl

pub returns-in_err-more-clause-most : goal.returns-in_err-more-clause-most
returns-in_err-more-clause-most g c =
    let (wants, by) = c.requires.listed in
    let many = as_many (to_copy wants c.args.homes.now c.args.copies.now) c.args.hot.now c.args.blocks.now by.listed in
    let files = ap length c.in_ok-files.ensures.inodes in
    let long : c.loop-place.place < length c.args.blocks.now = omega (arith, many, files, c.loop-place-test.true) in
    calls_within g.R.Rack c.args.store.now c.spread_file.new.store (count_in (take (c.loop-place.place + 1) c.args.blocks.now)) (count_in c.args.blocks.now)
    (sum_by-take-le (λ (list : Vec ℕ). length list.items) c.args.blocks.now (c.loop-place.place + 1))
    (calls_next g.R.Rack c.args.blocks.now c.loop-place.place c.index-blocks-place.result c.deref.result.now c.args.store.now c.loop-place.store c.spread_file.new.store
    long c.index-blocks-place.is c.deref.ensures.value c.loop-place.invariant.moved.leaves.keeps.shape c.loop-place.invariant.most c.in_err-more.ensures.most)

pub returns-in-Some-clause-most : goal.returns-in-Some-clause-most
returns-in-Some-clause-most g c =
    let (wants, by) = c.requires.listed in
    let many = as_many (to_copy wants c.args.homes.now c.args.copies.now) c.args.hot.now c.args.blocks.now by.listed in
    let files = ap length c.in_ok-files.ensures.inodes in
    let long : c.loop-place.place < length c.args.blocks.now = omega (arith, many, files, c.loop-place-test.true) in
    calls_within g.R.Rack c.args.store.now c.spread_file.new.store (count_in (take (c.loop-place.place + 1) c.args.blocks.now)) (count_in c.args.blocks.now)
    (sum_by-take-le (λ (list : Vec ℕ). length list.items) c.args.blocks.now (c.loop-place.place + 1))
    (calls_next g.R.Rack c.args.blocks.now c.loop-place.place c.index-blocks-place.result c.deref.result.now c.args.store.now c.loop-place.store c.spread_file.new.store
    long c.index-blocks-place.is c.deref.ensures.value c.loop-place.invariant.moved.leaves.keeps.shape c.loop-place.invariant.most c.in_ok-more.ensures.most)

pub returns-clause-most : goal.returns-clause-most
returns-clause-most g c =
    calls_within g.R.Rack c.args.store.now c.loop-place.store (count_in (take c.loop-place.place c.args.blocks.now)) (count_in c.args.blocks.now)
    (sum_by-take-le (λ (list : Vec ℕ). length list.items) c.args.blocks.now c.loop-place.place) c.loop-place.invariant.most

-- ---- no file lacks a copy

pub returns-in_err-more-clause-still : goal.returns-in_err-more-clause-still
returns-in_err-more-clause-still g c none =
    let low : c.loop-place.place < length c.in_ok-files.files.items = omega arith in
    let at = sym (get_or_read c.in_ok-files.files.items _ _ low c.index.ensures 0) in
    same_rack c.args.store.now c.spread_file.new.store
    (still_on c.args.homes.now c.args.copies.now c.loop-place.copies c.spread_file.new.copies c.args.hot.now c.in_ok-files.files.items c.loop-place.place
    c.index.result.now c.args.store.now c.loop-place.store c.spread_file.new.store c.in_ok-files.ensures.inodes low at c.loop-place.invariant.still
    c.in_err-more.ensures.still none).0

pub returns-in-Some-clause-still : goal.returns-in-Some-clause-still
returns-in-Some-clause-still g c none =
    let low : c.loop-place.place < length c.in_ok-files.files.items = omega arith in
    let at = sym (get_or_read c.in_ok-files.files.items _ _ low c.index.ensures 0) in
    same_rack c.args.store.now c.spread_file.new.store
    (still_on c.args.homes.now c.args.copies.now c.loop-place.copies c.spread_file.new.copies c.args.hot.now c.in_ok-files.files.items c.loop-place.place
    c.index.result.now c.args.store.now c.loop-place.store c.spread_file.new.store c.in_ok-files.ensures.inodes low at c.loop-place.invariant.still
    c.in_ok-more.ensures.still none).0

pub returns-clause-still : goal.returns-clause-still
returns-clause-still g c none = same_rack c.args.store.now c.loop-place.store (c.loop-place.invariant.still none).0

-- ---- no memory

pub returns-in_err-more-clause-moved : goal.returns-in_err-more-clause-moved
returns-in_err-more-clause-moved g c = moved_both g.R.Rack _ _ _ c.loop-place.invariant.moved c.in_err-more.ensures.moved

pub returns-in_err-more-clause-placed : goal.returns-in_err-more-clause-placed
returns-in_err-more-clause-placed g c wants by =
    let start : IsSettled wants c.args.homes.now (spread_of c.args.store.now c.args.copies.now) = record { placed = by.placed; fit = by.fit; sized = c.requires.sound.table.size } in
    let low : c.loop-place.place < length c.in_ok-files.files.items = omega arith in
    let at = sym (get_or_read c.in_ok-files.files.items _ _ low c.index.ensures 0) in
    settled_some wants c.args.homes.now c.in_ok-files.files.items c.args.copies.now c.spread_file.new.copies c.args.store.now c.spread_file.new.store start
    (spread_same wants c.args.homes.now c.in_ok-files.files.items c.loop-place.place c.loop-place.gained
    c.loop-place.gained 0 c.index.result.now c.args.copies.now c.loop-place.copies c.spread_file.new.copies
    c.args.store.now c.loop-place.store c.spread_file.new.store low at (omega arith) (c.loop-place.invariant.spread wants by) c.in_err-more.ensures.err)

pub returns-in_err-more-clause-err : goal.returns-in_err-more-clause-err
returns-in_err-more-clause-err g c wants by =
    let low : c.loop-place.place < length c.in_ok-files.files.items = omega arith in
    let at = sym (get_or_read c.in_ok-files.files.items _ _ low c.index.ensures 0) in
    on_err c.from_residual-in_err-more.result _
    (subst (λ (is : List ℕ). HasSpreadSome wants c.args.homes.now is c.args.copies.now c.spread_file.new.copies c.args.store.now c.spread_file.new.store)
    c.in_ok-files.ensures.inodes
    (spread_same wants c.args.homes.now c.in_ok-files.files.items c.loop-place.place c.loop-place.gained
    c.loop-place.gained 0 c.index.result.now c.args.copies.now c.loop-place.copies c.spread_file.new.copies
    c.args.store.now c.loop-place.store c.spread_file.new.store low at (omega arith) (c.loop-place.invariant.spread wants by) c.in_err-more.ensures.err))

-- ---- a boundary is lost

pub returns-in-Some-clause-moved : goal.returns-in-Some-clause-moved
returns-in-Some-clause-moved g c = moved_both g.R.Rack _ _ _ c.loop-place.invariant.moved c.in_ok-more.ensures.moved

pub returns-in-Some-clause-placed : goal.returns-in-Some-clause-placed
returns-in-Some-clause-placed g c wants by =
    let start : IsSettled wants c.args.homes.now (spread_of c.args.store.now c.args.copies.now) = record { placed = by.placed; fit = by.fit; sized = c.requires.sound.table.size } in
    let low : c.loop-place.place < length c.in_ok-files.files.items = omega arith in
    let at = sym (get_or_read c.in_ok-files.files.items _ _ low c.index.ensures 0) in
    let own =
    c.deref.ensures.value
    ∙ list_here (to_copy wants c.args.homes.now c.args.copies.now) c.in_ok-files.files.items c.args.blocks.now c.loop-place.place c.index.result.now c.index-blocks-place.result
    (by.listed ∙ ap (map (to_copy wants c.args.homes.now c.args.copies.now)) (sym c.in_ok-files.ensures.inodes)) low at c.index-blocks-place.is
    in
    let tried =
    spreads_as _ _ c.in_ok-more.more c.loop-place.copies c.spread_file.new.copies c.loop-place.store c.spread_file.new.store
    (by_blocks wants c.args.homes.now c.args.copies.now c.index.result.now c.deref.result.now (home_of c.args.homes.now c.index.result.now)
    (home_of c.loop-place.copies c.index.result.now)
    (spread_of c.loop-place.store c.loop-place.copies) refl
    (none_before wants c.args.homes.now c.in_ok-files.files.items c.loop-place.place c.loop-place.gained c.args.copies.now c.loop-place.copies
    c.args.store.now c.loop-place.store c.index.result.now (c.loop-place.invariant.spread wants by))
    own)
    c.in_ok-more.ensures.spread
    in
    settled_some wants c.args.homes.now c.in_ok-files.files.items c.args.copies.now c.spread_file.new.copies c.args.store.now c.spread_file.new.store start
    (spread_some wants c.args.homes.now c.in_ok-files.files.items c.loop-place.place (c.loop-place.gained + c.in_ok-more.more)
    c.loop-place.gained c.in_ok-more.more c.index.result.now c.args.copies.now c.loop-place.copies c.spread_file.new.copies
    c.args.store.now c.loop-place.store c.spread_file.new.store low at refl (c.loop-place.invariant.spread wants by) tried)

pub returns-in-Some-clause-cut : goal.returns-in-Some-clause-cut
returns-in-Some-clause-cut g c wants by s e =
    let low : c.loop-place.place < length c.in_ok-files.files.items = omega arith in
    let at = sym (get_or_read c.in_ok-files.files.items _ _ low c.index.ensures 0) in
    let own =
    c.deref.ensures.value
    ∙ list_here (to_copy wants c.args.homes.now c.args.copies.now) c.in_ok-files.files.items c.args.blocks.now c.loop-place.place c.index.result.now c.index-blocks-place.result
    (by.listed ∙ ap (map (to_copy wants c.args.homes.now c.args.copies.now)) (sym c.in_ok-files.ensures.inodes)) low at c.index-blocks-place.is
    in
    let tried =
    spreads_as _ _ c.in_ok-more.more c.loop-place.copies c.spread_file.new.copies c.loop-place.store c.spread_file.new.store
    (by_blocks wants c.args.homes.now c.args.copies.now c.index.result.now c.deref.result.now (home_of c.args.homes.now c.index.result.now)
    (home_of c.loop-place.copies c.index.result.now)
    (spread_of c.loop-place.store c.loop-place.copies) refl
    (none_before wants c.args.homes.now c.in_ok-files.files.items c.loop-place.place c.loop-place.gained c.args.copies.now c.loop-place.copies
    c.args.store.now c.loop-place.store c.index.result.now (c.loop-place.invariant.spread wants by))
    own)
    c.in_ok-more.ensures.spread
    in
    subst (λ (is : List ℕ). HasSpreadSome wants c.args.homes.now is c.args.copies.now c.spread_file.new.copies c.args.store.now c.spread_file.new.store)
    c.in_ok-files.ensures.inodes
    (spread_some wants c.args.homes.now c.in_ok-files.files.items c.loop-place.place (c.loop-place.gained + c.in_ok-more.more)
    c.loop-place.gained c.in_ok-more.more c.index.result.now c.args.copies.now c.loop-place.copies c.spread_file.new.copies
    c.args.store.now c.loop-place.store c.spread_file.new.store low at refl (c.loop-place.invariant.spread wants by) tried)

-- ---- the end

pub returns-clause-placed : goal.returns-clause-placed
returns-clause-placed g c wants by =
    let start : IsSettled wants c.args.homes.now (spread_of c.args.store.now c.args.copies.now) = record { placed = by.placed; fit = by.fit; sized = c.requires.sound.table.size } in
    (settled_has wants c.args.homes.now c.in_ok-files.files.items c.loop-place.place c.loop-place.gained c.args.copies.now c.loop-place.copies
    c.args.store.now c.loop-place.store start (c.loop-place.invariant.spread wants by)).placed

pub returns-in_err-files-clause-moved : goal.returns-in_err-files-clause-moved
returns-in_err-files-clause-moved g c = moved_none g.R.Rack c.args.store.now c.requires.sound
