use Rattle.std.proofs.Common.{◌∙◌, refl, arith}
use Rattle.std.proofs.lemmas.List.Elements.{All-nil}
use Rattle.dg_store.specs.ReadLaws.{lost_stays, none_first, none_second}
use Rattle.dg_store.specs.Rows.{members_in}
use Rattle.dg_store.proofs.PlaceLemmas.{no_site, kept_both, lost_more, lost_whole, one_stands}
use Rattle.dg_store.proofs.RowLaws.{keeps_none, keeps_both}
use Rattle.dg_store.proofs.places.read_sites.Goals as goal

pub loop-site-init : goal.loop-site-init
loop-site-init g c = record {
  keeps = keeps_none g.R.Rack c.args.shape.now _ _ c.requires.row;
  lost = All-nil _;
  kept = λ t slot v had. had;
  most = omega arith;
  quiet = λ none. omega arith;
  writes = refl;
}

pub loop-site-preserved : goal.loop-site-preserved
loop-site-preserved g c =
    let i = c.loop-site.invariant in
    let k = c.read_slot.ensures in
    let lost = k.lost.0 c.in_default.is in
    record {
      keeps = keeps_both g.R.Rack c.args.shape.now _ _ _ _ _ _ i.keeps k.keeps;
      lost = lost_more (members_in c.loop-site.row.items) (members_in c.read_slot.new.row.items) c.args.sites.now c.loop-site.site-index no_site (λ s was. lost_stays _ _ _ _ s k.keeps.falls was) c.loop-site-test.true i.lost lost;
      kept = kept_both _ _ _ _ _ _ _ i.kept k.kept;
      most = omega (arith, i.most, k.most);
      quiet = λ none. omega (
        arith,
        i.quiet (none_first _ _ _ k.keeps.stays.rise.faults none),
        k.quiet (none_second _ _ _ i.keeps.stays.rise.faults none) c.in_default.is,
      );
      writes = k.writes ∙ i.writes;
    }

pub returns-clause-gone : goal.returns-clause-gone
returns-clause-gone g c = (λ is. lost_whole (members_in c.loop-site.row.items) c.args.sites.now c.loop-site.site-index c.loop-site-test.false c.loop-site.invariant.lost, λ lost. refl)

pub returns-clause-once : goal.returns-clause-once
returns-clause-once g c none = omega (arith, c.loop-site.invariant.quiet none)

pub returns-in-Got-clause-gone : goal.returns-in-Got-clause-gone
returns-in-Got-clause-gone g c =
    let k = c.read_slot.ensures in
    let stands = one_stands (members_in c.read_slot.new.row.items) c.args.sites.now c.loop-site.site-index no_site c.loop-site-test.true (λ lost. let is = k.lost.1 lost in cc (c.in-Got.is, is)) in
    (λ is. absurd (cc is), λ lost. absurd (cc (stands, lost)))

pub returns-in-Got-clause-got : goal.returns-in-Got-clause-got
returns-in-Got-clause-got g c is v had told =
    c.read_slot.ensures.got c.in-Got.is v (c.loop-site.invariant.kept _ _ v (had c.loop-site.site-index _ c.loop-site-test.true)) (told c.loop-site.site-index _ c.loop-site-test.true)

pub returns-in-Got-clause-keeps : goal.returns-in-Got-clause-keeps
returns-in-Got-clause-keeps g c = keeps_both g.R.Rack c.args.shape.now _ _ _ _ _ _ c.loop-site.invariant.keeps c.read_slot.ensures.keeps

pub returns-in-Got-clause-kept : goal.returns-in-Got-clause-kept
returns-in-Got-clause-kept g c = kept_both _ _ _ _ _ _ _ c.loop-site.invariant.kept c.read_slot.ensures.kept

pub returns-in-Got-clause-once : goal.returns-in-Got-clause-once
returns-in-Got-clause-once g c none =
    let i = c.loop-site.invariant in
    let k = c.read_slot.ensures in
    omega (
      arith,
      i.quiet (none_first _ _ _ k.keeps.stays.rise.faults none),
      k.once (none_second _ _ _ i.keeps.stays.rise.faults none),
    )
