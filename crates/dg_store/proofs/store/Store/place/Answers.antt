use Rattle.std.proofs.Common.{◌≡◌, ◌≢◌, ◌<◌, true, length, sym, ◌∙◌, arith}
use Rattle.std.specs.Prelude.{◌↔◌}
use Rattle.std.proofs.lemmas.Bool.{and_parts}
use Rattle.dg_model.specs.Members.{is_lost}
use Rattle.dg_model.specs.Sites.{all_lost, has_site, is_gone}
use Rattle.dg_model.specs.Tables.{sites_in}
use Rattle.dg_store.specs.ReadLaws.{keeps_both, keeps_none}
use Rattle.dg_store.specs.Slots.{PutsBlock}
use Rattle.dg_store.specs.Stores.{KeepsBlocks, Tells, members_of}
use Rattle.dg_store.specs.declared.store.PlaceAnswer.{PlaceAnswer}
use Rattle.dg_store.specs.declared.store.PlaceAnswer.TheVariants.{Full, Gone, Lost, Placed}
use Rattle.dg_store.proofs.PlaceLemmas.{tell_before}
use Rattle.dg_store.proofs.TableLemmas.{err_map, none_on, ok_map, written_by}
use Rattle.dg_store.proofs.store.Store.place.Goals as goal

-- no slot is left, or the block is gone

pub returns-then-used-most-clause-leaves : goal.returns-then-used-most-clause-leaves
returns-then-used-most-clause-leaves g c = record { sound = c.requires.sound; keeps = keeps_none g.R.Rack c.args.self.now }

-- the block was read

pub returns-clause-leaves : goal.returns-clause-leaves
returns-clause-leaves g c =
    let out = c.copy_out.ensures in
    let copied = c.copy_in.ensures in
    record { sound = copied.leaves.sound; keeps = keeps_both g.R.Rack _ _ _ out.leaves.keeps copied.leaves.keeps }

pub returns-clause-written : goal.returns-clause-written
returns-clause-written g c =
    let copied = rw c.copy_out.ensures.table at c.copy_in.ensures in
    let within : c.args.block < length c.args.self.now.map.rows = omega (arith, c.requires.sound.table.size, c.requires.range) in
    written_by c.copy_in.result _ _ c.args.block c.args.boundary within c.requires.written copied.placed copied.refused copied.err

pub returns-clause-stands : goal.returns-clause-stands
returns-clause-stands g c =
    let out = c.copy_out.ensures in
    let copied = c.copy_in.ensures in
    let sites = sites_in c.args.self.now.map c.args.block in
    ok_map c.copy_in.result
    (λ (answer : PlaceAnswer). answer ≡ Placed → PutsBlock g.R.Rack c.copy_out.new.self c.args.block c.copy_in.new.self)
    (λ (answer : PlaceAnswer). answer ≡ Placed → Tells g.R.Rack c.copy_in.new.self → KeepsBlocks g.R.Rack c.args.self.now c.copy_in.new.self)
    (λ answer puts is told V st. puts is V (out.stands V st)
    (out.got c.in_default.is (tell_before _ _ _ _ c.args.boundary sites copied.members copied.leaves.keeps.stays.tells (none_on c.args.boundary sites c.requires.none) told) V st))
    copied.stands

pub returns-clause-same : goal.returns-clause-same
returns-clause-same g c =
    ok_map c.copy_in.result
    (λ (answer : PlaceAnswer). answer ≢ Placed → KeepsBlocks g.R.Rack c.copy_out.new.self c.copy_in.new.self)
    (λ (answer : PlaceAnswer). answer ≢ Placed → KeepsBlocks g.R.Rack c.args.self.now c.copy_in.new.self)
    (λ answer keeps other V st. keeps other V (c.copy_out.ensures.stands V st))
    c.copy_in.ensures.same

pub returns-clause-err_same : goal.returns-clause-err_same
returns-clause-err_same g c = err_map c.copy_in.result _ _ (λ keeps V st. keeps V (c.copy_out.ensures.stands V st)) c.copy_in.ensures.err_same

pub returns-clause-gone : goal.returns-clause-gone
returns-clause-gone g c =
    let copied = rw c.copy_out.ensures.table at c.copy_in.ensures in
    let sites = sites_in c.args.self.now.map c.args.block in
    ok_map c.copy_in.result
    (λ (answer : PlaceAnswer). answer ≢ Gone)
    (λ (answer : PlaceAnswer). answer ≢ Full → (answer ≡ Gone) ↔ (is_gone c.args.self.now.map (members_of c.copy_in.new.self) c.args.block ≡ true))
    (λ answer there full. (
      λ is. absurd (there is),
      λ gone.
          let lost = (and_parts (has_site sites) (all_lost (members_of c.copy_in.new.self) sites) gone).1 in
          let is = c.copy_out.ensures.gone.1 (sym copied.live ∙ lost) in
          absurd (let got = c.in_default.is in cc (is, got)),
    ))
    copied.there

pub returns-clause-lost : goal.returns-clause-lost
returns-clause-lost g c =
    ok_map c.copy_in.result
    (λ (answer : PlaceAnswer). answer ≢ Full → (answer ≡ Lost c.args.boundary) ↔ (is_lost (members_of c.copy_in.new.self) c.args.boundary ≡ true))
    (λ (answer : PlaceAnswer). answer ≢ Full → answer ≢ Gone → (answer ≡ Lost c.args.boundary) ↔ (is_lost (members_of c.copy_in.new.self) c.args.boundary ≡ true))
    (λ answer lost full there. lost full)
    c.copy_in.ensures.lost
