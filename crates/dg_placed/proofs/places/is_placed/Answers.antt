use Rattle.std.proofs.Common.{Bool, ◌↔◌, IsTrue}
use Rattle.std.proofs.lemmas.Result.{IfOk-weaker}
use Rattle.dg_model.specs.Placed.{IsPlaced}
use Rattle.dg_placed.specs.Used.{HaveBlocks}
use Rattle.dg_placed.proofs.UseLaws.{placed_just}
use Rattle.dg_placed.proofs.places.is_placed.Goals as goal

pub returns : goal.returns
returns c =
    let wants = c.args.wants.now in
    let table = c.args.map.now in
    let homes = c.args.homes.now in
    let copies = c.args.copies.now in
    let have = rw (c.as_slice-2.ensures, c.as_slice-wants.ensures) at c.have_blocks.ensures in
    let elsewhere = rw c.as_slice.ensures at c.are_copies.ensures in
    let all = rw c.as_slice-wants.ensures at c.are_in_their_places.ensures in
    IfOk-weaker c.have_blocks.result (λ (all' : Bool). IsTrue all' ↔ HaveBlocks homes wants) (λ (placed : Bool). IsTrue placed ↔ IsPlaced wants table homes copies)
    (λ r h. placed_just table wants homes copies r c.requires.fit c.requires.homes c.requires.copies (elsewhere.0 c.if-not-are_copies.false) (all.0 c.if-not-are_in_their_places.false) h) have
