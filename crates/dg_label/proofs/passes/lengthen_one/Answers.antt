use Rattle.std.proofs.Common.{◌≡◌, ◌+◌, ◌*◌, ◌/◌, ◌%◌, ◌∙◌, ℕ, Bool, arith, false, not, subst, sym, true}
use Rattle.std.proofs.lemmas.Bool.{both_ways}
use Rattle.std.specs.Prelude.{if◌then◌else◌}
use Rattle.dg_io.specs.Told.{Extended, KeepsFront}
use Rattle.dg_label.specs.Labels.{is_long}
use Rattle.dg_label.proofs.FallenLaws.{fallen_by_extend, fallen_none}
use Rattle.dg_label.proofs.LabelLaws.{touched_long}
use Rattle.dg_label.proofs.PassLaws.{touched_by_extend}
use Rattle.dg_label.proofs.SaveLaws.{uncalled_by_extend, uncalled_none}
use Rattle.dg_model.specs.Saves.{member_length}
use Rattle.dg_store.specs.Leaves.{BytesChange, CallsAtMost}
use Rattle.dg_label.proofs.passes.lengthen_one.Goals as goal

pub returns : goal.returns
returns g c =
    let q = c.args.member in
    let a = c.args.store.now in
    let b = c.extend.new.self in
    let at : 2 * (q / 2) + q % 2 ≡ q = omega arith in
    let e = rw at at c.extend.ensures in
    let size : c.member_length-size.result ≡ member_length 2 c.args.line.now = c.member_length-size.ensures in
    let short : is_long c.args.label.now q ≡ false = sym c.is_long.ensures ∙ c.if-is_long.false in
    record {
      touches = touched_by_extend g.R.Rack q (Extended (member_length 2 c.args.line.now)) a b
          (record { sound = e.sound; stays = e.stays; idle = e.idle; fell = e.faulty; table = e.table; falls = e.falls; stands = e.stands })
          e.other_bytes e.most c.extend.result e.not_good e.kept e.fell (λ is. subst (λ (n : ℕ). BytesChange g.R.Rack a b q (Extended n)) size (e.extended is)) e.quiet;
      fallen = fallen_by_extend g.R.Rack q (λ (p : ℕ). KeepsFront) a b e.other_bytes c.extend.result e.not_good e.kept e.fell e.front e.quiet;
      uncalled = λ p good apart.
          uncalled_by_extend g.R.Rack q a b c.extend.result e.other_bytes e.other_faults e.kept e.fell p
          (λ here. both_ways (is_long c.args.label.now q) short (apart here)) good;
      most = subst (λ (long : Bool). CallsAtMost g.R.Rack a b (if not long then 1 else 0)) (sym short) e.most;
    }

pub returns-then-is_long : goal.returns-then-is_long
returns-then-is_long g c =
    let q = c.args.member in
    let a = c.args.store.now in
    let long : is_long c.args.label.now q ≡ true = sym c.is_long.ensures ∙ c.if-is_long.true in
    record {
      touches = touched_long g.R.Rack c.args.line.now a c.args.label.now q c.requires.sound long c.requires.length;
      fallen = fallen_none g.R.Rack (λ (p : ℕ). KeepsFront) a;
      uncalled = λ p good apart. uncalled_none g.R.Rack p a;
      most = omega arith;
    }
