use Rattle.std.proofs.Common.{◌∙◌, ℕ, ap, arith, refl}
use Rattle.dg_io.specs.Commits.{is_marked}
use Rattle.dg_open.proofs.TableLemmas.{none_has, none_quiet, none_seen, one_clear, one_measured, one_quiet, one_seen, one_stands}
use Rattle.dg_open.proofs.labels.find_all.Goals as goal

pub loop-member-init : goal.loop-member-init
loop-member-init g c = record {
  seen = none_seen g.R.Rack c.args.rack.now _ refl;
  stand = λ q low some. absurd (omega (arith, low));
  quiet = none_quiet g.R.Rack c.args.rack.now _;
  measured = λ q low. absurd (omega (arith, low));
  clear = λ q high. ap (λ (n : ℕ). is_marked n q) c.requires.none ∙ none_has q;
}

pub loop-member-preserved : goal.loop-member-preserved
loop-member-preserved g c =
    let inv = c.loop-member.invariant in
    let found = c.find_member.ensures in
    record {
      seen = one_seen g.R.Rack _ c.loop-member.rack c.find_member.new.rack c.loop-member.labels c.loop-member.member c.find_member.result c.loop-member-test.true inv.seen found.reads found.seen;
      stand = one_stands g.R.Rack c.loop-member.rack c.find_member.new.rack c.loop-member.labels c.loop-member.member c.find_member.result inv.seen.size c.loop-member-test.true inv.stand found.reads found.stands;
      quiet = one_quiet g.R.Rack _ c.loop-member.rack c.find_member.new.rack c.loop-member.labels c.loop-member.member c.find_member.result inv.seen.size c.loop-member-test.true inv.quiet found.reads found.quiet;
      measured = one_measured g.R.Rack c.loop-member.rack c.find_member.new.rack c.loop-member.labels c.loop-member.member c.loop-member.long c.find_member.new.long c.find_member.result
          inv.seen.size c.loop-member-test.true inv.measured found.reads found.measured found.others;
      clear = one_clear c.loop-member.member c.loop-member.long c.find_member.new.long inv.clear found.others;
    }
