use Rattle.std.proofs.Common.{◌≡◌, ◌*◌, Bool, List, length, refl, sym, ◌∙◌, ap, subst}
use Rattle.dg_map.specs.Restores.{AreSites}
use Rattle.dg_model.specs.Tables.{Table}
use Rattle.dg_model.specs.declared.members.MemberState.{MemberState}
use Rattle.dg_model.specs.declared.shapes.Shape.{Shape}
use Rattle.dg_open.proofs.RowLemmas.{Is, are_sites, row_is, table_is}
use Rattle.dg_open.proofs.reopens.open_from.Goals as goal
use Rattle.dg_open.specs.Seen.{AreCounted, IsCounted}
use Rattle.dg_store.specs.Rows.{members_in}

pub restored-requires : goal.restored-requires
restored-requires g c =
    let source = c.args.source in
    subst (λ (t : Table). AreSites t) (sym (table_is source.saved source.label.shape c.as_vec.result.now.items c.requires.numbers c.as_vec.ensures)) (are_sites _ c.requires.form.table)

pub opened-requires-clause-row : goal.opened-requires-clause-row
opened-requires-clause-row g c =
    let source = c.args.source in
    let size : length c.as_slice.result.now ≡ 2 * source.label.shape.b =
    ap length c.as_slice.ensures ∙ c.requires.form.members ∙ ap (λ (s : Shape). 2 * s.b) c.requires.numbers in
    let row = c.in_ok-row.ensures in
    row_is g.R.Rack c.args.rack c.args.labels.now c.args.failed.now source.label c.as_slice.result.now c.in_ok-row.row.items c.requires.label size c.requires.labeled c.requires.stand
    row.count row.stands row.members

pub returns : goal.returns
returns g c =
    let source = c.args.source in
    let store = c.in_ok-store.ensures in
    let marks : c.as_slice.result.now ≡ source.saved.good = c.as_slice.ensures in
    let counted = subst (λ (m : List Bool). AreCounted c.args.labels.now c.args.failed.now source.label m (members_in c.in_ok-row.row.items)) marks c.in_ok-row.ensures.members in
    record {
      rack_is = store.rack;
      saved_is = refl;
      table_is = store.table ∙ c.in_ok-map.ensures.sites ∙ table_is source.saved source.label.shape c.as_vec.result.now.items c.requires.numbers c.as_vec.ensures;
      members = λ q. subst (λ (m : MemberState). Is (IsCounted c.args.labels.now c.args.failed.now source.label source.saved.good q) m) (sym (store.members q)) (counted q);
      sound = store.sound;
      label_is = refl;
    }
