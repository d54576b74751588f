use Rattle.std.proofs.Common.{◌≡◌, ◌<◌, ℕ, length, List, ◌∷◌, arith, ap, refl, subst, sym, ◌∙◌}
use Rattle.dg_model.specs.Tables.{sites_in, Table, count_on, sites_off, without_site}
use Rattle.dg_plan.specs.Targets.{wants_of}
use Rattle.dg_store.specs.Stores.{shape_of, table_of}
use Rattle.dg_model.specs.Moves.{spare}
use Rattle.dg_move.specs.Spares.{AreWithin}
use Rattle.dg_model.specs.declared.shapes.Shape.{Shape}
use Rattle.dg_model.specs.declared.sites.Site.{Site}
use Rattle.dg_model.proofs.SpareSteps.{drops, off_length}
use Rattle.dg_move.proofs.MeetLaws.{within_of}
use Rattle.dg_move.proofs.StoreLaws.{gave_one, only_both, only_none, only_one, without_here, without_other}
use Rattle.dg_move.proofs.spares.give_up_spare.Goals as goal

pub first_spare-requires-clause-within : goal.first_spare-requires-clause-within
first_spare-requires-clause-within g c =
    let now = c.loop-boundary.store in
    let row : c.sites.result.now ≡ sites_in (table_of now) c.args.block = c.sites.ensures.sites ∙ ap (λ (t : Table). sites_in t c.args.block) c.map.ensures in
    subst (λ (xs : List Site). AreWithin xs) (sym row) (within_of (table_of now) c.args.block c.loop-boundary.invariant.only.leaves.sound.table)

pub unplace-requires-clause-one : goal.unplace-requires-clause-one
unplace-requires-clause-one g c =
    let now = c.loop-boundary.store in
    let row : c.sites.result.now ≡ sites_in (table_of now) c.args.block = c.sites.ensures.sites ∙ ap (λ (t : Table). sites_in t c.args.block) c.map.ensures in
    let f = c.in-Some.ensures in
    let want = wants_of c.args.targets.now c.args.block in
    let l = drops want (sites_in (table_of now) c.args.block) f.0 f.1 (c.loop-boundary.invariant.only.leaves.sound.table.one_site c.args.block) (ap (spare want) (sym row) ∙ f.2) in
    subst (λ (s : ℕ). 0 < count_on s (sites_in (table_of now) c.args.block)) f.3 l.one

pub loop-boundary-smaller : goal.loop-boundary-smaller
loop-boundary-smaller g c =
    let now = c.loop-boundary.store in
    let row : c.sites.result.now ≡ sites_in (table_of now) c.args.block = c.sites.ensures.sites ∙ ap (λ (t : Table). sites_in t c.args.block) c.map.ensures in
    let f = c.in-Some.ensures in
    let want = wants_of c.args.targets.now c.args.block in
    let l = drops want (sites_in (table_of now) c.args.block) f.0 f.1 (c.loop-boundary.invariant.only.leaves.sound.table.one_site c.args.block) (ap (spare want) (sym row) ∙ f.2) in
    let inside : c.args.block < length (table_of now).rows = let size = c.loop-boundary.invariant.only.leaves.sound.table.size in let n = ap (λ (s : Shape). s.n) c.loop-boundary.invariant.only.leaves.keeps.shape in omega (arith, size, n, c.requires.block) in
    let left : sites_in (table_of c.unplace.new.self) c.args.block ≡ sites_off f.0.boundary (sites_in (table_of now) c.args.block) =
    ap (λ (t : Table). sites_in t c.args.block) (c.unplace.ensures.table ∙ ap (λ (s : ℕ). without_site (table_of now) c.args.block s) (sym f.3)) ∙ without_here (table_of now) c.args.block f.0.boundary inside in
    let less : length (sites_in (table_of c.unplace.new.self) c.args.block) < length (sites_in (table_of now) c.args.block) =
    omega (arith, ap length left, off_length f.0.boundary (sites_in (table_of now) c.args.block), l.one) in
    less

pub loop-boundary-preserved : goal.loop-boundary-preserved
loop-boundary-preserved g c =
    let now = c.loop-boundary.store in
    let b = c.args.block in
    let u = c.unplace.ensures in
    let inv = c.loop-boundary.invariant in
    let row : c.sites.result.now ≡ sites_in (table_of now) b = c.sites.ensures.sites ∙ ap (λ (t : Table). sites_in t b) c.map.ensures in
    let f = c.in-Some.ensures in
    let targets = wants_of c.args.targets.now in
    let first : spare (targets b) (sites_in (table_of now) b) ≡ f.0 ∷ f.1 = ap (spare (targets b)) (sym row) ∙ f.2 in
    let l = drops (targets b) (sites_in (table_of now) b) f.0 f.1 (inv.only.leaves.sound.table.one_site b) first in
    let within : b < (shape_of now).n = subst (λ (s : Shape). b < s.n) (sym inv.only.leaves.keeps.shape) c.requires.block in
    let inside : b < length (table_of now).rows = let size = inv.only.leaves.sound.table.size in omega (arith, size, within) in
    let gone : table_of c.unplace.new.self ≡ without_site (table_of now) b f.0.boundary = c.unplace.ensures.table ∙ ap (λ (s : ℕ). without_site (table_of now) b s) (sym f.3) in
    record {
      only = only_both g.R.Rack targets c.args.store.now now c.unplace.new.self inv.only
          (only_one g.R.Rack targets now c.unplace.new.self b f.0 f.1 inv.only.leaves.sound within l u.leaves u.written u.rack u.members gone u.stands);
      others = λ a apart. ap (λ (t : Table). sites_in t a) gone ∙ without_other (table_of now) b f.0.boundary a apart ∙ inv.others a apart;
      goes = gave_one (targets b) (table_of now) (table_of c.unplace.new.self) b f.0 f.1 inside first l gone ∙ inv.goes;
    }

pub loop-boundary-init : goal.loop-boundary-init
loop-boundary-init g c = record {
  only = only_none g.R.Rack (wants_of c.args.targets.now) c.args.store.now c.requires.sound;
  others = λ b apart. refl;
  goes = refl;
}
