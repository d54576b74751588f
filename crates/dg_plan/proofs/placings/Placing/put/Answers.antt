use Rattle.std.proofs.Common.{◌≡◌, ◌<◌, ◌-◌, ℕ, List, length, get_or, set, ap, sym, subst, ◌∙◌, arith}
use Rattle.std.proofs.lemmas.List.{get_or_read}
use Rattle.std.specs.BTreeMap.{insert_entry}
use Rattle.std.specs.Ordering.{nat_cmp}
use Rattle.dg_plan.specs.Beside.{AreLeast}
use Rattle.dg_model.specs.Homes.{with_home}
use Rattle.dg_plan.specs.Placings.{homes_in}
use Rattle.dg_model.specs.Plans.{less_room}
use Rattle.dg_plan.specs.declared.placings.Placing.{Placing}
use Rattle.dg_model.specs.declared.homes.Home.{Home}
use Rattle.dg_plan.proofs.BesideLaws.{least_more, least_same}
use Rattle.dg_plan.proofs.FileLaws.{homes_more}
use Rattle.dg_plan.proofs.placings.Placing.put.Goals as goal
use Rattle.dg_plan.proofs.placings.Placing.put.Goals.{in-Some+in_ok-note, in_default}

pub returns-clause-placed : goal.returns-clause-placed
returns-clause-placed c =
    let old = c.args.self.now in
    let mid = c.match-directory.self in
    let s = c.args.home.boundary in
    let count = c.args.count in
    let same_rooms : mid.rooms.items ≡ old.rooms.items = elim c.match-directory.branch [
      | in-Some+in_ok-note w ↦ ap (λ (p : Placing). p.rooms.items) w.self-is
      | in_default w ↦ ap (λ (p : Placing). p.rooms.items) w.self-is
    ] in
    let same_homes : mid.homes.entries ≡ old.homes.entries = elim c.match-directory.branch [
      | in-Some+in_ok-note w ↦ ap (λ (p : Placing). p.homes.entries) w.self-is
      | in_default w ↦ ap (λ (p : Placing). p.homes.entries) w.self-is
    ] in
    let inside : c.from.result < length mid.rooms.items = omega (arith, c.from.ensures, c.requires.within, ap length same_rooms) in
    let at : c.index_mut.result.now ≡ get_or mid.rooms.items c.from.result 0 = get_or_read mid.rooms.items c.from.result c.index_mut.result.now inside c.index_mut.ensures.value 0 in
    let rooms : set mid.rooms.items c.from.result (c.index_mut.result.now - count) ≡ less_room s count old.rooms.items =
    ap (λ (v : ℕ). set mid.rooms.items c.from.result (v - count)) at
    ∙ ap (λ (b : ℕ). set mid.rooms.items b (get_or mid.rooms.items b 0 - count)) c.from.ensures
    ∙ ap (λ (xs : List ℕ). set xs s (get_or xs s 0 - count)) same_rooms in
    let homes : homes_in c.insert.new.self.entries ≡ with_home (record { inode = c.args.home.inode; boundary = s }) (homes_in old.homes.entries) =
    ap homes_in (c.in-Ok.ensures.entries ∙ ap (λ es. insert_entry nat_cmp es c.args.home.inode s) same_homes) ∙ homes_more old.homes.entries c.args.home.inode s c.requires.none in
    λ i. record { rooms = rooms i; homes = homes i }

pub returns-clause-least : goal.returns-clause-least
returns-clause-least c =
    let old = c.args.self.now in
    let mid = c.match-directory.self in
    let s = c.args.home.boundary in
    let home : Home = record { inode = c.args.home.inode; boundary = s } in
    let same_homes : mid.homes.entries ≡ old.homes.entries = elim c.match-directory.branch [
      | in-Some+in_ok-note w ↦ ap (λ (p : Placing). p.homes.entries) w.self-is
      | in_default w ↦ ap (λ (p : Placing). p.homes.entries) w.self-is
    ] in
    let homes : homes_in c.insert.new.self.entries ≡ with_home home (homes_in old.homes.entries) =
    ap homes_in (c.in-Ok.ensures.entries ∙ ap (λ es. insert_entry nat_cmp es c.args.home.inode s) same_homes) ∙ homes_more old.homes.entries c.args.home.inode s c.requires.none in
    λ parents inside least. subst (λ (hs : List Home). AreLeast parents mid.least hs) (sym homes)
    (elim c.match-directory.branch [
      | in-Some+in_ok-note w ↦
          subst (λ t. AreLeast parents t (with_home home (homes_in old.homes.entries))) (sym (ap (λ (p : Placing). p.least) w.self-is))
          (least_more parents old.least w.note.new.least (homes_in old.homes.entries) home w.in-Some.directory least c.requires.rise (sym inside ∙ w.in-Some.is) w.in_ok-note.ensures)
      | in_default w ↦
          subst (λ t. AreLeast parents t (with_home home (homes_in old.homes.entries))) (sym (ap (λ (p : Placing). p.least) w.self-is))
          (least_same parents old.least (homes_in old.homes.entries) home least (sym inside ∙ w.in_default.is))
    ])
