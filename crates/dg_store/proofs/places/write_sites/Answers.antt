use Rattle.std.proofs.Common.{List, subst, arith}
use Rattle.std.proofs.lemmas.List.{take_all}
use Rattle.std.proofs.lemmas.List.Elements.{All-nil, Contains-get_or}
use Rattle.dg_model.specs.declared.sites.Site.{Site}
use Rattle.dg_store.specs.Rows.{members_in}
use Rattle.dg_store.specs.Slots.{LostAreOut, SitesHold}
use Rattle.dg_store.proofs.PlaceLemmas.{no_site, but_these, but_both, out_more, put_more}
use Rattle.dg_store.proofs.RowLaws.{keeps_none, keeps_both}
use Rattle.dg_store.proofs.places.write_sites.Goals as goal

pub loop-site-init : goal.loop-site-init
loop-site-init g c = record {
  keeps = keeps_none g.R.Rack c.args.shape.now _ _ c.requires.row;
  put = All-nil _;
  out = All-nil _;
  kept = λ t slot v off had. had;
  most = omega arith;
}

pub loop-site-preserved : goal.loop-site-preserved
loop-site-preserved g c =
    let i = c.loop-site.invariant in
    let k = c.write_slot.ensures in
    let old = members_in c.loop-site.row.items in
    let new = members_in c.write_slot.new.row.items in
    let sites = c.args.sites.now in
    let at = c.loop-site.site-index in
    record {
      keeps = keeps_both g.R.Rack c.args.shape.now _ _ _ _ _ _ i.keeps k.keeps;
      put = put_more c.args.shape.now.l old new _ _ sites at no_site c.args.buf.now c.loop-site-test.true k.kept k.put i.put;
      out = out_more old new sites at no_site c.loop-site-test.true k.others (λ lost. k.out (k.lost.1 lost)) i.out;
      kept = but_both c.args.shape.now.l sites _ _ _ _ _ _ i.kept (but_these c.args.shape.now.l old new _ _ sites _ _ (Contains-get_or sites at no_site c.loop-site-test.true) k.kept);
      most = omega (arith, i.most, k.most);
    }

pub returns-clause-put : goal.returns-clause-put
returns-clause-put g c =
    subst (λ (xs : List Site). SitesHold c.args.shape.now.l (members_in c.loop-site.row.items) (g.R.Rack.bytes c.loop-site.rack) c.args.buf.now xs)
    (take_all c.loop-site.site-index c.args.sites.now c.loop-site-test.false) c.loop-site.invariant.put

pub returns-clause-out : goal.returns-clause-out
returns-clause-out g c =
    subst (λ (xs : List Site). LostAreOut (members_in c.loop-site.row.items) xs)
    (take_all c.loop-site.site-index c.args.sites.now c.loop-site-test.false) c.loop-site.invariant.out
