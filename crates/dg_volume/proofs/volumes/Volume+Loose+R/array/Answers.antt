use Rattle.std.proofs.Common.{◌∙◌, refl}
use Rattle.dg_volume.proofs.BlankLaws.{is_blank}
use Rattle.dg_volume.proofs.volumes.Volume+Loose+R.array.Goals as goal

pub returns : goal.returns
returns g c =
    is_blank g.R.Rack c.args.shape c.args.rack _ c.in_ok-store.ensures
    (record {
      bytes = c.in_ok-inference.ensures.size.0;
      number = c.in_ok-inference.ensures.size.1;
      pending = c.in_ok-inference.ensures.pending;
      inferred = c.in_ok-inference.ensures.stands;
      levels = c.in_ok-levels.ensures.fragment;
      homes = c.new-6.ensures ∙ c.new-5.ensures.items;
      copies = c.new-8.ensures ∙ c.new-7.ensures.items;
      boundaries = c.in_ok-in_use.ensures.boundaries;
      long = c.in_ok-in_use.ensures.long;
      live = c.in_ok-in_use.ensures.live;
      cut = c.in_ok-in_use.ensures.cut;
      label = refl;
      given = refl;
    })
