use Rattle.std.proofs.Common.{◌<◌, ◌/◌, ◌∙◌, [], length, sym, ap, subst, arith}
use Rattle.std.proofs.lemmas.List.{get_or_default}
use Rattle.dg_model.specs.Tables.{Table}
use Rattle.dg_store.specs.ReadLaws.{tells_good}
use Rattle.dg_store.proofs.ViewLaws.{fetched_one, gone_stays}
use Rattle.dg_store.proofs.views.StoreView.fetch.Goals as goal

pub returns-clause-keeps : goal.returns-clause-keeps
returns-clause-keeps g c =
    let k = c.read.ensures in
    let on = k.reads in
    record {
      stands = k.stands;
      told = λ told q below. on.keeps.stays.told_before q (told q (subst (λ (t : Table). q / 2 < t.shape.b) (sym on.table) below));
      stays = λ b gone. gone_stays _ _ _ _ _ _ b on.table on.keeps.falls gone;
      blocks = ap (λ (t : Table). t.shape.n) on.table;
      bytes = ap (λ (t : Table). t.shape.l) on.table;
      sound = k.sound;
      goes = on;
    }

pub returns-clause-bytes : goal.returns-clause-bytes
returns-clause-bytes g c got told v st =
    let k = c.read.ensures in
    let within : c.args.block < length v = omega (arith, st.size, c.requires.within) in
    k.got got (tells_good g.R.Rack _ k.sound told) v st ∙ get_or_default v c.args.block [] _ within

pub returns-clause-fetched : goal.returns-clause-fetched
returns-clause-fetched g c =
    let k = c.read.ensures in
    fetched_one g.R.Rack c.args.self.now c.read.new.self c.args.block c.read.result k.reads k.gone k.called k.unwritten k.most k.once
