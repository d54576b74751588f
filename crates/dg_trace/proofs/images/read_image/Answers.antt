use Rattle.std.proofs.Common.{◌≡◌, ◌≤◌, ◌+◌, ◌-◌, ◌++◌, ◌∙◌, ℕ, List, [], length, ap, arith, refl, rules, subst, sym}
use Rattle.std.specs.Prelude.{slice_range}
use Rattle.dg_io.specs.SourceReads.{reads_both, reads_more, reads_none}
use Rattle.dg_io.specs.Told.{Gave, Told}
use Rattle.dg_trace.proofs.ImageSteps.{gave_both, gave_none, image_end, image_past, part_of, part_then, size_both}
use Rattle.dg_trace.proofs.images.read_image.Goals as goal

pub loop-count-init : goal.loop-count-init
loop-count-init g c =
    let none : c.new-image.result.items ≡ [] = search rules in
    record {
      count = sym (ap length none);
      most = omega arith;
      piece = c.in-Ok.ensures;
      gave = subst (λ (l : List ℕ). Told (Gave l) (g.S.Source.left c.args.source.now) (g.S.Source.left c.args.source.now)) (sym none) (gave_none (g.S.Source.left c.args.source.now));
      reads = reads_none g.S.Source.calls g.S.Source.left c.args.source.now;
      kept = refl;
    }

pub returns-in_default-read_behind-clause-part : goal.returns-in_default-read_behind-clause-part
returns-in_default-read_behind-clause-part g c =
    let inv = c.loop-count.invariant in
    part_then c.loop-count.image.items _ _ _ (omega (arith, inv.count, inv.most)) inv.gave c.in_default-read_behind.ensures.err

pub returns-then-n-eq0-clause-image : goal.returns-then-n-eq0-clause-image
returns-then-n-eq0-clause-image g c =
    let inv = c.loop-count.invariant in
    image_end c.loop-count.image.items _ _ _ _ (omega (arith, inv.count, inv.most)) inv.gave c.in-Ok-read_behind.ensures.gave
    (c.in-Ok-read_behind.ensures.end c.if-n-eq0.true)

pub returns-in_default-append-clause-part : goal.returns-in_default-append-clause-part
returns-in_default-append-clause-part g c =
    let inv = c.loop-count.invariant in
    let at : ℕ = 65536 - c.min-room.result in
    let n : ℕ = c.in-Ok-read_behind.n in
    let within : at + n ≤ length c.read_behind.new.piece.items = c.in-Ok-read_behind.ensures.within in
    let size = size_both c.loop-count.image.items c.read_behind.new.piece.items at n within in
    part_of (c.loop-count.image.items ++ slice_range c.read_behind.new.piece.items at (at + n)) _ _
    (omega (arith, size, within, inv.count, inv.most, inv.piece, c.read_behind.ensures.size, c.min-room.ensures, c.loop-count-test.true))
    (gave_both c.loop-count.image.items _ _ _ _ inv.gave c.in-Ok-read_behind.ensures.gave)

pub loop-count-preserved : goal.loop-count-preserved
loop-count-preserved g c =
    let inv = c.loop-count.invariant in
    let at : ℕ = 65536 - c.min-room.result in
    let n : ℕ = c.in-Ok-read_behind.n in
    let within : at + n ≤ length c.read_behind.new.piece.items = c.in-Ok-read_behind.ensures.within in
    let size = size_both c.loop-count.image.items c.read_behind.new.piece.items at n within in
    let grown : c.append.new.image.items ≡ c.loop-count.image.items ++ slice_range c.read_behind.new.piece.items at (at + n) = search rules in
    record {
      count = ap (λ (k : ℕ). k + n) inv.count ∙ sym (ap length grown ∙ size);
      most = omega (arith, within, inv.piece, c.read_behind.ensures.size, c.min-room.ensures, c.loop-count-test.true);
      piece = c.read_behind.ensures.size ∙ inv.piece;
      gave = subst (λ (l : List ℕ). Told (Gave l) (g.S.Source.left c.args.source.now) (g.S.Source.left c.read_behind.new.source)) (sym grown)
          (gave_both c.loop-count.image.items _ _ _ _ inv.gave c.in-Ok-read_behind.ensures.gave);
      reads = reads_both g.S.Source.calls g.S.Source.left 0 0 _ _ _ inv.reads (c.in-Ok-read_behind.ensures.takes (omega (arith, c.if-n-eq0.false)));
      kept = c.in-Ok-read_behind.ensures.cause.kept ∙ inv.kept;
    }

pub returns-clause-image : goal.returns-clause-image
returns-clause-image g c =
    let inv = c.loop-count.invariant in
    let test = c.loop-count-test.false in
    image_past c.loop-count.image.items _ _ (omega (arith, inv.count, test)) (omega (arith, inv.count, inv.most)) inv.gave

pub returns-in_default-clause-reads : goal.returns-in_default-clause-reads
returns-in_default-clause-reads g c =
    reads_more g.S.Source.calls g.S.Source.left 0 1 _ _ (omega arith) (reads_none g.S.Source.calls g.S.Source.left c.args.source.now)

pub returns-in_default-read_behind-clause-reads : goal.returns-in_default-read_behind-clause-reads
returns-in_default-read_behind-clause-reads g c =
    reads_both g.S.Source.calls g.S.Source.left 0 1 _ _ _ c.loop-count.invariant.reads c.in_default-read_behind.ensures.reads

pub returns-then-n-eq0-clause-reads : goal.returns-then-n-eq0-clause-reads
returns-then-n-eq0-clause-reads g c =
    reads_both g.S.Source.calls g.S.Source.left 0 1 _ _ _ c.loop-count.invariant.reads c.in-Ok-read_behind.ensures.reads

pub returns-in_default-append-clause-reads : goal.returns-in_default-append-clause-reads
returns-in_default-append-clause-reads g c =
    reads_both g.S.Source.calls g.S.Source.left 0 1 _ _ _ c.loop-count.invariant.reads c.in-Ok-read_behind.ensures.reads

pub returns-clause-reads : goal.returns-clause-reads
returns-clause-reads g c = reads_more g.S.Source.calls g.S.Source.left 0 1 _ _ (omega arith) c.loop-count.invariant.reads
