-- What a refill leaves behind the opening of the seal.
use Rattle.std.proofs.Common.{◌≡◌, ◌∙◌, ◌<◌, ◌++◌, ℕ, Bool, true, false, List, length, inl, inr, sym, ap, subst}
use Rattle.std.proofs.lemmas.Bool.{false≢true}
use Rattle.dg_io.specs.declared.outside.Rack.{Ghosts}
use Rattle.dg_label.specs.Seals.{KeepsArray}
use Rattle.dg_model.proofs.MemberLaws.{falls_both, good_was, lost_stays, rose_after}
use Rattle.dg_model.specs.Members.{IsRefilled, MembersFall, OthersFall, is_lost, partner_of}
use Rattle.dg_model.specs.Refills.{Reaps}
use Rattle.dg_model.specs.States.{has_lost}
use Rattle.dg_model.specs.Tables.{Table}
use Rattle.dg_model.specs.declared.members.MemberState.{MemberState}
use Rattle.dg_model.specs.declared.members.MemberState.TheVariants.{Filling, Out}
use Rattle.dg_model.specs.declared.shapes.Shape.{Shape}
use Rattle.dg_rebuild.specs.Passed.{IsLeftAt, Passed}
use Rattle.dg_rebuild.specs.Reaped.{AreMarkedBetween, is_among, zeroed}
use Rattle.dg_store.specs.Leaves as arrays
use Rattle.dg_store.specs.ReadLaws.{stays_both}
use Rattle.dg_store.specs.Stores.{IsSound}
use Rattle.dg_store.specs.Stores as stores
use Rattle.dg_store.specs.declared.store.Store.{Store}
use Rattle.dg_volume.proofs.VolumeLaws.{lost_on}

module _ {R : Type 0} (rack : Ghosts R) where
  -- a member that is refilled behind the opening was so before
  pub filling_was : (a m : Store R) (s q have : ℕ) → KeepsArray rack a m → IsRefilled (stores.members_of m) s q have → IsRefilled (stores.members_of a) s q have
  filling_was a m s q have opening filling = elim (opening.falls q) [
    | inl same ↦ (filling.0, sym same ∙ filling.1)
    | inr fell ↦ absurd (not_out (sym filling.1 ∙ fell.out))
  ]
    where
      not_out : Filling have ≡ Out → ⊥
      not_out e = cc e

  -- what is lost before it is lost behind it
  pub lost_behind : (a m : Store R) → KeepsArray rack a m → has_lost (stores.shape_of a) (stores.members_of a) ≡ true → has_lost (stores.shape_of a) (stores.members_of m) ≡ true
  lost_behind a m opening lost =
      lost_on (stores.shape_of a) (stores.members_of a) (stores.members_of m)
      (λ q good. good_was (rack.counts (stores.rack_of a)).faults (rack.counts (stores.rack_of m)).faults (stores.members_of a) (stores.members_of m) q opening.falls good) lost

  pub live_before : (a m : Store R) (s : ℕ) → KeepsArray rack a m → is_lost (stores.members_of m) s ≡ false → is_lost (stores.members_of a) s ≡ true → ⊥
  live_before a m s opening live lost =
      false≢true (sym live ∙ lost_stays (stores.members_of a) (stores.members_of m) s
      (λ q good. good_was (rack.counts (stores.rack_of a)).faults (rack.counts (stores.rack_of m)).faults (stores.members_of a) (stores.members_of m) q opening.falls good) lost)

  -- the other members, where one is refilled behind the opening
  pub others_behind : (a m b : Store R) (q have : ℕ) (state : MemberState) → KeepsArray rack a m → arrays.Stays rack m b → stores.members_of m q ≡ Filling have
      → IsLeftAt (stores.members_of m) (stores.members_of b) q state
      → OthersFall q (rack.counts (stores.rack_of a)).faults (rack.counts (stores.rack_of b)).faults (stores.members_of a) (stores.members_of b)
  others_behind a m b q have state opening left filling h p apart = elim (opening.falls p) [
    | inl same ↦ inl (h.others p apart ∙ same)
    | inr fell ↦ inr (record {
      out = h.others p apart ∙ fell.out;
      caused = elim fell.caused [
        | inl rose ↦
            inl (rose_after ((rack.counts (stores.rack_of a)).faults p) ((rack.counts (stores.rack_of m)).faults p) ((rack.counts (stores.rack_of b)).faults p) rose (left.stays.rise.faults p))
        | inr gone ↦ inr (gone.0, h.others (partner_of p) (λ here. not_out (sym filling ∙ sym (ap (stores.members_of m) here) ∙ gone.1)) ∙ gone.1)
      ];
    })
  ]
    where
      not_out : Filling have ≡ Out → ⊥
      not_out e = cc e

  pub falls_behind : (a m b : Store R) → KeepsArray rack a m → arrays.Stays rack m b
      → MembersFall (rack.counts (stores.rack_of m)).faults (rack.counts (stores.rack_of b)).faults (stores.members_of m) (stores.members_of b)
      → MembersFall (rack.counts (stores.rack_of a)).faults (rack.counts (stores.rack_of b)).faults (stores.members_of a) (stores.members_of b)
  falls_behind a m b opening left falls =
      falls_both (rack.counts (stores.rack_of a)).faults (rack.counts (stores.rack_of m)).faults (rack.counts (stores.rack_of b)).faults
      (stores.members_of a) (stores.members_of m) (stores.members_of b) opening.stays.stays.rise.faults left.stays.rise.faults opening.falls falls

  -- The slots of boundary s from one to before another were passed, and just the marked blocks in them reaped, by what stood before the opening.
  pub record HasSlots (marks : List Bool) (s low high : ℕ) (before after : List ℕ) (old new : Store R) : Type 0 where
    pub sound : IsSound rack new
    pub stays : arrays.Stays rack old new
    pub reaped : List ℕ
    pub joined : after ≡ before ++ reaped
    pub marked : AreMarkedBetween (stores.table_of old) marks s low high reaped
    pub reaps : (V : List (List ℕ)) → length V ≡ (stores.shape_of old).n
        → Reaps (stores.table_of old) V s low high (is_among reaped) (stores.table_of new) (zeroed (stores.shape_of old).l reaped V)
    pub stands : stores.TellsAll rack new → (V : List (List ℕ)) → stores.StandsFor rack old V → stores.StandsFor rack new (zeroed (stores.shape_of old).l reaped V)

  pub slots_behind : (marks : List Bool) (s low high : ℕ) (before after : List ℕ) (a m b : Store R) → KeepsArray rack a m → Passed rack marks s low high before after m b
      → HasSlots marks s low high before after a b
  slots_behind marks s low high before after a m b opening p = record {
    sound = p.sound;
    stays = stays_both rack a m b opening.stays p.stays;
    reaped = p.reaped;
    joined = p.joined;
    marked = subst (λ (t : Table). AreMarkedBetween t marks s low high p.reaped) opening.table p.marked;
    reaps = subst (λ (t : Table). (V : List (List ℕ)) → length V ≡ t.shape.n → Reaps t V s low high (is_among p.reaped) (stores.table_of b) (zeroed t.shape.l p.reaped V)) opening.table p.reaps;
    stands = λ told V held. subst (λ (t : Table). stores.StandsFor rack b (zeroed t.shape.l p.reaped V)) opening.table (p.stands told V (opening.stands V held));
  }

  -- the boundary is there still
  pub below_behind : (a m b : Store R) (s : ℕ) → KeepsArray rack a m → arrays.Stays rack m b → s < (stores.shape_of a).b → s < (stores.shape_of b).b
  below_behind a m b s opening left low = subst (λ (x : Shape). s < x.b) (sym (left.shape ∙ opening.stays.shape)) low
