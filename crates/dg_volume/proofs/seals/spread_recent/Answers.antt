use Rattle.std.proofs.Common.{◌≡◌, ◌∙◌, ℕ, false, List, length, sym, ap, subst}
use Rattle.std.specs.Prelude.{All, map}
use Rattle.std.specs.List.{list_any}
use Rattle.dg_hot.specs.Spreads.{HasSpread, lists_in, to_copy}
use Rattle.dg_hot.specs.declared.spreads.DiffuseAnswer.{DiffuseAnswer}
use Rattle.dg_hot.specs.declared.spreads.DiffuseAnswer.TheVariants.{Diffused, Lost}
use Rattle.dg_model.specs.Copies.{lacks_copy}
use Rattle.dg_model.specs.Placed.{IsPlaced}
use Rattle.dg_model.specs.Tables.{Table}
use Rattle.dg_store.specs.Stores.{table_of}
use Rattle.dg_volume.proofs.ListedLaws.{listed_on, placed_by_any}
use Rattle.dg_volume.proofs.ArrayLaws.{moved_none, opened_array}
use Rattle.dg_volume.proofs.LabelLaws.{relabels_none}
use Rattle.dg_volume.proofs.SealSteps.{cut_behind, diffused_behind, labels_behind, labels_opened, none_copied, none_cut, none_of, spread_behind}
use Rattle.dg_volume.proofs.seals.spread_recent.Goals as goal

count_in : DiffuseAnswer → ℕ
count_in (Diffused n) = n
count_in (Lost s) = 0

none_in : (n : ℕ) → Diffused 0 ≡ Diffused n → 0 ≡ n
unfolding count_in
none_in n is = ap count_in is

-- ---- nothing was copied

pub returns-in_err-recent-clause-placed : goal.returns-in_err-recent-clause-placed
returns-in_err-recent-clause-placed g c wants wanted =
    placed_by_any (table_of c.args.store.now) c.args.inference.now c.args.homes.now c.args.copies.now c.requires.placed wants wanted

pub returns-then-not-any_lacks_copy-clause-placed : goal.returns-then-not-any_lacks_copy-clause-placed
returns-then-not-any_lacks_copy-clause-placed g c wants wanted =
    placed_by_any (table_of c.args.store.now) c.args.inference.now c.args.homes.now c.args.copies.now c.requires.placed wants wanted

pub returns-in_err-blocks-clause-placed : goal.returns-in_err-blocks-clause-placed
returns-in_err-blocks-clause-placed g c wants wanted =
    placed_by_any (table_of c.args.store.now) c.args.inference.now c.args.homes.now c.args.copies.now c.requires.placed wants wanted

pub returns-then-not-any_lacks_copy-clause-diffused : goal.returns-then-not-any_lacks_copy-clause-diffused
returns-then-not-any_lacks_copy-clause-diffused g c wants wanted n is =
    let lacks = lacks_copy c.args.homes.now c.args.copies.now in
    let none : All (λ i. lacks i ≡ false) c.args.hot.now =
    none_of lacks c.args.hot.now (subst (λ (xs : List ℕ). list_any lacks xs ≡ false) (c.deref.ensures.value ∙ c.in_ok-recent.ensures.inodes)
    (sym c.any_lacks_copy.ensures ∙ c.if-not-any_lacks_copy.true)) in
    subst (λ (k : ℕ). HasSpread wants c.args.homes.now c.args.hot.now (length c.args.hot.now) k c.args.copies.now c.args.copies.now c.args.store.now c.args.store.now)
    (none_in n is) (none_copied g.R.Rack wants c.args.homes.now c.args.hot.now c.args.copies.now c.args.store.now none)

pub returns-then-not-any_lacks_copy-clause-label : goal.returns-then-not-any_lacks_copy-clause-label
returns-then-not-any_lacks_copy-clause-label g c = λ line. relabels_none g.R.Rack line c.args.store.now c.args.label.now

pub returns-in_err-blocks-clause-label : goal.returns-in_err-blocks-clause-label
returns-in_err-blocks-clause-label g c = λ line. relabels_none g.R.Rack line c.args.store.now c.args.label.now

pub returns-in_err-recent-clause-label : goal.returns-in_err-recent-clause-label
returns-in_err-recent-clause-label g c = λ line. relabels_none g.R.Rack line c.args.store.now c.args.label.now

pub returns-in-Some-clause-array : goal.returns-in-Some-clause-array
returns-in-Some-clause-array g c = opened_array g.R.Rack c.args.store.now c.open_seal.new.store c.open_seal.ensures.array

pub returns-in-Some-clause-label : goal.returns-in-Some-clause-label
returns-in-Some-clause-label g c = λ line.
    labels_opened g.R.Rack line c.args.store.now c.open_seal.new.store c.args.label.now c.open_seal.new.label c.requires.sound c.requires.whole c.open_seal.ensures

pub returns-in-Some-clause-cut : goal.returns-in-Some-clause-cut
returns-in-Some-clause-cut g c wants wanted s is =
    none_cut g.R.Rack wants c.args.homes.now c.args.hot.now c.args.copies.now c.args.store.now c.open_seal.new.store c.open_seal.ensures.array

pub returns-clause-array : goal.returns-clause-array
returns-clause-array g c = spread_behind g.R.Rack c.args.store.now c.open_seal.new.store c.diffuse.new.store c.open_seal.ensures.array c.diffuse.ensures.moved

pub returns-clause-label : goal.returns-clause-label
returns-clause-label g c = λ line.
    labels_behind g.R.Rack line c.args.store.now c.open_seal.new.store c.diffuse.new.store c.args.label.now c.open_seal.new.label c.requires.sound c.requires.whole c.open_seal.ensures
    c.diffuse.ensures.moved.leaves

-- ---- behind the opening

pub returns-in-Some-clause-placed : goal.returns-in-Some-clause-placed
returns-in-Some-clause-placed g c wants wanted =
    subst (λ (t : Table). IsPlaced wants t c.args.homes.now c.args.copies.now) (sym c.open_seal.ensures.array.table)
    (placed_by_any (table_of c.args.store.now) c.args.inference.now c.args.homes.now c.args.copies.now c.requires.placed wants wanted)

pub returns-clause-placed : goal.returns-clause-placed
returns-clause-placed g c wants wanted =
    let listed =
    listed_on (table_of c.args.store.now) (table_of c.open_seal.new.store) c.args.inference.now wants c.args.homes.now c.args.copies.now c.args.hot.now c.deref-3.result.now
    c.open_seal.ensures.array.table wanted
    (placed_by_any (table_of c.args.store.now) c.args.inference.now c.args.homes.now c.args.copies.now c.requires.placed wants wanted)
    (ap lists_in c.deref-3.ensures.value ∙ c.in_ok-blocks.ensures wants wanted ∙ ap (map (to_copy wants c.args.homes.now c.args.copies.now)) (c.deref-2.ensures.value ∙ c.in_ok-recent.ensures.inodes))
    in
    c.diffuse.ensures.placed wants listed

pub returns-clause-diffused : goal.returns-clause-diffused
returns-clause-diffused g c wants wanted =
    let listed =
    listed_on (table_of c.args.store.now) (table_of c.open_seal.new.store) c.args.inference.now wants c.args.homes.now c.args.copies.now c.args.hot.now c.deref-3.result.now
    c.open_seal.ensures.array.table wanted
    (placed_by_any (table_of c.args.store.now) c.args.inference.now c.args.homes.now c.args.copies.now c.requires.placed wants wanted)
    (ap lists_in c.deref-3.ensures.value ∙ c.in_ok-blocks.ensures wants wanted ∙ ap (map (to_copy wants c.args.homes.now c.args.copies.now)) (c.deref-2.ensures.value ∙ c.in_ok-recent.ensures.inodes))
    in
    diffused_behind g.R.Rack wants c.args.homes.now c.args.hot.now c.args.copies.now c.diffuse.new.copies c.args.store.now c.open_seal.new.store c.diffuse.new.store
    c.diffuse.result c.open_seal.ensures.array (c.diffuse.ensures.diffused wants listed)

pub returns-clause-cut : goal.returns-clause-cut
returns-clause-cut g c wants wanted =
    let listed =
    listed_on (table_of c.args.store.now) (table_of c.open_seal.new.store) c.args.inference.now wants c.args.homes.now c.args.copies.now c.args.hot.now c.deref-3.result.now
    c.open_seal.ensures.array.table wanted
    (placed_by_any (table_of c.args.store.now) c.args.inference.now c.args.homes.now c.args.copies.now c.requires.placed wants wanted)
    (ap lists_in c.deref-3.ensures.value ∙ c.in_ok-blocks.ensures wants wanted ∙ ap (map (to_copy wants c.args.homes.now c.args.copies.now)) (c.deref-2.ensures.value ∙ c.in_ok-recent.ensures.inodes))
    in
    cut_behind g.R.Rack wants c.args.homes.now c.args.hot.now c.args.copies.now c.diffuse.new.copies c.args.store.now c.open_seal.new.store c.diffuse.new.store
    c.diffuse.result c.open_seal.ensures.array (c.diffuse.ensures.cut wants listed)

pub returns-in_err-recent-clause-array : goal.returns-in_err-recent-clause-array
returns-in_err-recent-clause-array g c = moved_none g.R.Rack c.args.store.now c.requires.sound

pub returns-then-not-any_lacks_copy-clause-array : goal.returns-then-not-any_lacks_copy-clause-array
returns-then-not-any_lacks_copy-clause-array g c = moved_none g.R.Rack c.args.store.now c.requires.sound

pub returns-in_err-blocks-clause-array : goal.returns-in_err-blocks-clause-array
returns-in_err-blocks-clause-array g c = moved_none g.R.Rack c.args.store.now c.requires.sound
