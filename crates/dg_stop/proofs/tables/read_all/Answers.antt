use Rattle.std.proofs.Common.{◌+◌, ◌≡◌, ◌∙◌, ◌∷◌, [], ℕ, List, length, length-append, refl, sym, ap, subst}
use Rattle.std.specs.Prelude.{IfOk, IsErr, IsOk, IsSome}
use Rattle.dg_stop.proofs.FindLemmas.{finds_lose, loses_on}
use Rattle.dg_stop.proofs.TableLemmas.{borne_on, finds_more, holds_more, roomy_more}
use Rattle.dg_stop.specs.Tables.{AreRoomy, HoldsAt, HoldsTable}
use Rattle.dg_stop.specs.declared.places.Places.{Places}
use Rattle.dg_stop.proofs.tables.read_all.Goals as goal

pub returns-in-Err : goal.returns-in-Err
returns-in-Err g c =
    let err = subst (λ r. IsErr r) (sym c.in-Err.is) refl in (
      finds_lose g.R.Rack c.loop-member.member c.args.rack.now c.loop-member.rack c.places_of.new.rack c.loop-member.invariant.finds
          (loses_on g.R.Rack c.loop-member.member c.loop-member-test.true c.loop-member.rack c.places_of.new.rack c.in_ok-places.field-0 err c.in_ok-places.ensures.looks),
      subst (λ h. IsSome h) c.head_of-head.ensures (c.in_ok-places.ensures.lost err),
    )

pub loop-member-preserved : goal.loop-member-preserved
loop-member-preserved g c =
    let n = c.loop-member.member in
    let ok = subst (λ r. IsOk r) (sym c.in-Ok.is) refl in
    let looks = c.in_ok-places.ensures.looks in
    let own : HoldsTable g.R.Rack c.places_of.new.rack c.head_of-head.result n c.in-Ok.places =
    subst (λ r. IfOk r (HoldsTable g.R.Rack c.places_of.new.rack c.head_of-head.result n)) c.in-Ok.is c.in_ok-places.ensures.has in
    let most : c.in-Ok.places.most ≡ c.room_for-room.result = subst (λ r. IfOk r (λ held. held.most ≡ c.room_for-room.result)) c.in-Ok.is c.in_ok-places.ensures.most in
    record {
      finds = finds_more g.R.Rack c.args.heads.now n c.loop-member.rack c.places_of.new.rack c.in_ok-places.field-0 ok c.loop-member-test.true looks c.args.rack.now c.loop-member.invariant.finds;
      borne = borne_on g.R.Rack c.args.heads.now n c.loop-member.rack c.places_of.new.rack c.in_ok-places.field-0 ok c.loop-member-test.true looks c.loop-member.invariant.borne;
      count = ap (λ (l : List Places). length l) c.in_ok-add-in-Ok.ensures ∙ length-append c.loop-member.all.items (c.in-Ok.places ∷ []) ∙ ap (λ (k : ℕ). k + 1) c.loop-member.invariant.count;
      roomy = subst (λ (l : List Places). AreRoomy c.args.heads.now c.args.most l) (sym {A = List Places} c.in_ok-add-in-Ok.ensures)
          (roomy_more g.R.Rack c.args.heads.now n c.loop-member.rack c.places_of.new.rack c.in_ok-places.field-0 ok c.loop-member-test.true looks c.args.most c.loop-member.all.items c.in-Ok.places
          c.loop-member.invariant.count c.loop-member.invariant.roomy (λ paired. most ∙ c.room_for-room.ensures.paired paired));
      holds = subst (λ (l : List Places). (q : ℕ) → HoldsAt g.R.Rack c.places_of.new.rack c.args.heads.now l q) (sym {A = List Places} c.in_ok-add-in-Ok.ensures)
          (holds_more g.R.Rack c.args.heads.now n c.loop-member.rack c.places_of.new.rack c.in_ok-places.field-0 ok c.loop-member-test.true looks c.loop-member.all.items c.in-Ok.places
          c.loop-member.invariant.count c.loop-member.invariant.holds (subst (λ h. HoldsTable g.R.Rack c.places_of.new.rack h n c.in-Ok.places) c.head_of-head.ensures own));
    }
