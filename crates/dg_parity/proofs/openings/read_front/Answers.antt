use Rattle.std.proofs.Common.{inl}
use Rattle.dg_parity.specs.Groups.{disk_number}
use Rattle.dg_parity.proofs.OpeningLemmas.{front-of, counts-anyway}
use Rattle.dg_parity.proofs.openings.read_front.Goals as goal

pub returns-clause-found : goal.returns-clause-found
returns-clause-found g c = record {
  front_is = inl (front-of c.args.s c.args.j c.in-Some.long c.read_page.new.page (g.R.Rack.bytes c.read_page.new.rack (disk_number c.args.s c.args.j)) c.judge.result
      c.in-Some.ensures.got c.judge.ensures.front);
  stands = λ h. c.in-Some.ensures.stands;
  counted = counts-anyway c.args.s c.args.j c.in-Some.long c.judge.result c.judge.ensures.counted;
}
