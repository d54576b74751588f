use Rattle.std.proofs.Common.{◌≡◌, ◌+◌, ◌++◌, [], ◌∷◌, List, ℕ, suc, length, refl, sym, ap, subst, arith, rules, length-append}
use Rattle.std.proofs.lemmas.Grind.{common_steps}
use Rattle.dg_io.specs.Told.{Told, IsZeros}
use Rattle.dg_model.specs.Saves.{member_length}
use Rattle.dg_model.specs.declared.members.MemberState.TheVariants.{Good}
use Rattle.dg_pair.specs.declared.boundaries.Boundary.{Boundary}
use Rattle.dg_pair.specs.Boundaries.{MembersStand, members_of}
use Rattle.dg_store.specs.Answers.{AreBlank, AreZeroed, blanks_of}
use Rattle.dg_store.specs.ReadLaws.{below_none, own_both, own_wider, rack_both}
use Rattle.dg_store.specs.Leaves.{FailedAreOut}
use Rattle.dg_store.proofs.Calls.{own_blanked, stays_of}
use Rattle.dg_store.specs.Rows.{RowStands, members_in}
use Rattle.dg_store.proofs.Changed.{blank_long, pushed_fell, stand_changed, zeroed_changed}
use Rattle.dg_store.proofs.Rows.{begun_is, push_changed, push_stands, push_begins}
use Rattle.dg_store.proofs.boundaries.blank_row.Goals as goal

pub loop-number-preserved : goal.loop-number-preserved
loop-number-preserved g c =
    let made = c.new-boundary.ensures in
    let leaves = made.leaves in
    let inv = c.loop-number.invariant in
    let shape = c.args.shape.now in
    let slots = shape.k + 1 in
    let y = c.new-boundary.result in
    let longer = c.loop-number.row.items ++ y ∷ [] in
    let f = (g.R.Rack.counts c.args.rack.now).faults in
    let h = (g.R.Rack.counts c.new-boundary.new.rack).faults in
    let now = g.R.Rack.bytes c.new-boundary.new.rack in
    let pushed : c.push.new.self.items ≡ longer = grind (arith, common_steps) in
    let changed = push_changed c.loop-number.row.items c.loop-number.number y inv.count in
    let stands = push_stands shape.l slots c.loop-number.number c.loop-number.row.items y inv.count inv.stands leaves.pair in
    let begins = push_begins c.loop-number.number _ _ _ _ f _ h changed inv.begins (begun_is c.loop-number.number _ _ (members_of y) leaves.falls) inv.stays.rise.faults leaves.rise.faults in
    let stand = stand_changed c.loop-number.number _ _ _ _ changed _ _ leaves.others_stand inv.stand leaves.stand in
    let size = member_length 2 shape in
    let next : suc c.loop-number.number ≡ c.loop-number.number + 1 = omega arith in
    let blank = subst (λ (n : ℕ). (q : ℕ) → members_of y q ≡ Good → Told (IsZeros n) (g.R.Rack.bytes c.loop-number.rack q) (now q)) c.member_length-size.ensures made.blank in
    let zeros = zeroed_changed c.loop-number.number _ _ _ _ changed size _ now leaves.other_bytes inv.zeros blank in
    record {
      count = omega (arith, ap length pushed, length-append c.loop-number.row.items (y ∷ []), inv.count);
      stands = subst (λ (row : List Boundary). RowStands shape.l slots row) (sym pushed) stands;
      begins = subst (λ (row : List Boundary). AreBlank (c.loop-number.number + 1) f h (members_in row)) (sym pushed) begins;
      stand = subst (λ (row : List Boundary). MembersStand (members_in row) (g.R.Rack.stands c.new-boundary.new.rack)) (sym pushed) stand;
      zeros = subst (λ (row : List Boundary). AreZeroed size (members_in row) now) (sym pushed) zeros;
      stays = rack_both g.R.Rack _ _ _ inv.stays (stays_of g.R.Rack g.met.R.Rack.after leaves);
      made = subst (λ (n : ℕ). g.R.Rack.made c.args.rack.now (blanks_of n) c.new-boundary.new.rack) next (g.met.R.Rack.made_both _ _ _ _ _ inv.made made.made);
      nothing = λ kept none keeps. let next = inv.nothing kept none keeps in made.keeps next.0 next.1 next.2;
      own = own_both g.R.Rack (c.loop-number.number + 1) _ _ _ (own_wider g.R.Rack _ _ _ _ (omega arith) inv.own) (own_blanked g.R.Rack refl (omega arith) leaves);
      fell = subst (λ (row : List Boundary). FailedAreOut f h (members_in row)) (sym pushed) (pushed_fell c.loop-number.number _ _ _ _ changed f _ h inv.fell leaves.fell inv.own.other_faults (λ q off. leaves.other_faults q off));
      most = omega (arith, inv.most, made.most);
    }

pub returns-clause-row : goal.returns-clause-row
returns-clause-row g c =
    let inv = c.loop-number.invariant in
    record {
      count = let end = c.loop-number.auto.number-end in let past = c.loop-number-test.false in omega (arith, inv.count);
      stands = inv.stands;
      long = blank_long c.args.shape.now _ _ _ _ _ inv.begins inv.zeros;
      stand = inv.stand;
    }

pub returns-clause-own : goal.returns-clause-own
returns-clause-own g c =
    let end = c.loop-number.auto.number-end in
    own_wider g.R.Rack _ _ _ _ (omega arith) c.loop-number.invariant.own

pub returns-clause-made : goal.returns-clause-made
returns-clause-made g c =
    let end = c.loop-number.auto.number-end in
    let past = c.loop-number-test.false in
    let all : c.loop-number.number ≡ c.args.shape.now.b = omega arith in
    subst (λ (n : ℕ). g.R.Rack.made c.args.rack.now (blanks_of n) c.loop-number.rack) all c.loop-number.invariant.made

pub loop-number-init : goal.loop-number-init
loop-number-init g c = record {
  count = search rules;
  stands = search rules;
  begins = search rules;
  stand = search rules;
  zeros = search rules;
  stays = search rules;
  made = g.met.R.Rack.made_none _;
  nothing = λ kept none keeps. (kept, none, keeps);
  own = below_none g.R.Rack 0 _;
  fell = λ q rose. absurd (omega (arith, rose));
  most = search rules;
}

pub returns-then-is_err-clause-rack : goal.returns-then-is_err-clause-rack
returns-then-is_err-clause-rack g c = rack_both g.R.Rack _ _ _ c.loop-number.invariant.stays (stays_of g.R.Rack g.met.R.Rack.after c.new-boundary.ensures.leaves)

pub returns-then-is_err-clause-own : goal.returns-then-is_err-clause-own
returns-then-is_err-clause-own g c =
    let end = c.loop-number.auto.number-end in
    let inside = c.loop-number-test.true in
    own_both g.R.Rack c.args.shape.now.b _ _ _ (own_wider g.R.Rack _ _ _ _ (omega arith) c.loop-number.invariant.own) (own_blanked g.R.Rack refl (omega arith) c.new-boundary.ensures.leaves)
