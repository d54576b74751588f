-- Events that move blocks to their places, and saves: from one state, where no count of faults rises, each has one reply, and leads to one state but
-- for its counts and its label.
use Rattle.std.proofs.Common.{◌≡◌, ◌<◌, ◌∙◌, ℕ, Bool, true, false, List, length, take, Option, Some, None, refl, sym, ap, subst, inl, inr, arith}
use Rattle.std.specs.Prelude.{Result, min}
use Rattle.std.proofs.lemmas.Bool.{false≢true}
use Rattle.ufs_model.specs.declared.malformations.BadKind.{BadKind}
use Rattle.dg_model.specs.Causes.{NoneRose}
use Rattle.dg_model.specs.Changes.{IsCramped, IsLeastLostIn, IsPlan, Saves, Settles, Spreads, Tends, spread_in}
use Rattle.dg_model.specs.Copies.{Spread, spread_over}
use Rattle.dg_model.specs.Lives.{place_in}
use Rattle.dg_model.specs.Members.{MembersFall, is_good}
use Rattle.dg_model.specs.Moves.{missing_in, moved}
use Rattle.dg_model.specs.Plans.{Plan, plan, targets_of}
use Rattle.dg_model.specs.Seals.{LastLabel, next_sequence}
use Rattle.dg_model.specs.States.{Counts, IsLeastLost, State, has_lost}
use Rattle.dg_model.specs.Steps.{LostNow, Step, WasLost}
use Rattle.dg_model.specs.Wants.{AreParents, AreWants, FitWants}
use Rattle.dg_model.specs.declared.events.Event.TheVariants.{Settle, Tend, Diffuse, Save}
use Rattle.dg_model.specs.declared.members.MemberState.{MemberState}
use Rattle.dg_model.specs.declared.parents.Parent.{Parent}
use Rattle.dg_model.specs.declared.phases.Phase.TheVariants.{Settled}
use Rattle.dg_model.specs.declared.replies.Reply.{Reply}
use Rattle.dg_model.specs.declared.replies.Reply.TheVariants.{Lost, Settled as SettledReply, Malformed, NoSpace, Tended, Diffused, NotSettled, Saved, NotSaved}
use Rattle.dg_model.specs.declared.shapes.Shape.{Shape}
use Rattle.dg_model.specs.declared.wants.NoRoom.{NoRoom}
use Rattle.dg_model.specs.declared.wants.Want.{Want}
use Rattle.dg_model.proofs.MemberLaws.{least_lost_is, one_least_lost}
use Rattle.dg_promise.proofs.OrderLaws.{wants_same}
use Rattle.dg_promise.specs.Promises.{AreTold}
use Rattle.dg_uses.proofs.OneFinding.{one_malformation}
use Rattle.dg_uses.proofs.OneParent.{parents_same}
use Rattle.dg_uses.proofs.OneStep.{AreOne, IsFit, one_boundary, stays_x, stays_y}
use Rattle.dg_uses.proofs.OneView.{apart, both, err_same, ok_same}
use Rattle.dg_uses.proofs.Seen.{Seen, goes_stay, members_stay, seen_of, state_of}

-- ---- the plan

-- what is planned by some wants and parents
abbrev pub planned_by : Seen → List (Option Want) → List Parent → Result Plan NoRoom
planned_by c wants parents = plan c.table.shape wants parents c.homes

-- wants and parents that a state may see
record Sees (c : Seen) (wants : List (Option Want)) (parents : List Parent) : Type 0 where
  fit : FitWants c.table wants
  wants_are : AreWants c.table.shape.l c.table.shape.n c.blocks wants
  parents_are : AreParents c.table.shape.l c.table.shape.n c.blocks parents

module _ (c : Seen) (wants others : List (Option Want)) (parents more : List Parent) (h : Sees c wants parents) (g : Sees c others more) where
  sees_wants : wants ≡ others
  sees_wants = wants_same c.table c.blocks wants others h.fit h.wants_are g.fit g.wants_are

  sees_parents : parents ≡ more
  sees_parents = parents_same c.table.shape.l c.table.shape.n c.blocks parents more h.parents_are g.parents_are

  -- so there is one plan
  plan_same : planned_by c wants parents ≡ planned_by c others more
  plan_same = ap (λ (w : List (Option Want)). planned_by c w parents) sees_wants ∙ ap (planned_by c others) sees_parents

module _ (c : Seen) (l k : Option LastLabel) (n m : Counts) where
  plan_sees : (wants : List (Option Want)) (found : Plan) (h : IsPlan AreTold (state_of c l n) wants found) → Sees c wants h.parents
  plan_sees wants found h = record { fit = h.sees_wants.fit; wants_are = h.sees_wants.are tt; parents_are = h.sees_parents tt }

  plan_too : (wants : List (Option Want)) (found : Plan) (h : IsPlan AreTold (state_of c k m) wants found) → Sees c wants h.parents
  plan_too wants found h = record { fit = h.sees_wants.fit; wants_are = h.sees_wants.are tt; parents_are = h.sees_parents tt }

  cramped_sees : (bad : NoRoom) (h : IsCramped AreTold (state_of c l n) bad) → Sees c h.wants h.parents
  cramped_sees bad h = record { fit = h.sees_wants.fit; wants_are = h.sees_wants.are tt; parents_are = h.sees_parents tt }

  cramped_too : (bad : NoRoom) (h : IsCramped AreTold (state_of c k m) bad) → Sees c h.wants h.parents
  cramped_too bad h = record { fit = h.sees_wants.fit; wants_are = h.sees_wants.are tt; parents_are = h.sees_parents tt }

  pub one_plan : (wants others : List (Option Want)) (found other : Plan) → IsPlan AreTold (state_of c l n) wants found → IsPlan AreTold (state_of c k m) others other
      → (wants ≡ others) × (found ≡ other)
  one_plan wants others found other h g =
      let a = plan_sees wants found h in
      let b = plan_too others other g in
      (sees_wants c wants others h.parents g.parents a b, ok_same found other (planned_by c others g.parents) (sym h.is ∙ plan_same c wants others h.parents g.parents a b) (sym g.is))

  pub one_want_of_room : (bad other : NoRoom) → IsCramped AreTold (state_of c l n) bad → IsCramped AreTold (state_of c k m) other → bad ≡ other
  one_want_of_room bad other h g =
      err_same bad other (planned_by c g.wants g.parents)
      (sym h.is ∙ plan_same c h.wants g.wants h.parents g.parents (cramped_sees bad h) (cramped_too other g)) (sym g.is)

  pub no_room_there : (wants : List (Option Want)) (found : Plan) (bad : NoRoom) → IsPlan AreTold (state_of c l n) wants found → IsCramped AreTold (state_of c k m) bad → ⊥
  no_room_there wants found bad h g =
      apart found bad (planned_by c g.wants g.parents) (sym h.is ∙ plan_same c wants g.wants h.parents g.parents (plan_sees wants found h) (cramped_too bad g)) (sym g.is)

  pub no_room_here : (wants : List (Option Want)) (found : Plan) (bad : NoRoom) → IsCramped AreTold (state_of c l n) bad → IsPlan AreTold (state_of c k m) wants found → ⊥
  no_room_here wants found bad h g =
      apart found bad (planned_by c wants g.parents) (sym g.is)
      (sym h.is ∙ plan_same c h.wants wants h.parents g.parents (cramped_sees bad h) (plan_too wants found g))

-- ---- lost boundaries

module _ (c : Seen) (ok : IsFit c) where
  -- boundary s of the first line is the least one that is lost
  abbrev pub IsLeastAt : ℕ → Type 0
  IsLeastAt s = IsLeastLost c.table.shape c.members (place_in c.live s)

  pub least_same : (s t : ℕ) → IsLeastAt s → IsLeastAt t → s ≡ t
  least_same s t a b =
      one_boundary c ok s t a.within (one_least_lost c.table.shape c.members (place_in c.live s) (place_in c.live t) a b)

  pub least_breaks : (s : ℕ) → IsLeastAt s → has_lost c.table.shape c.members ≡ false → ⊥
  least_breaks s a whole = both (has_lost c.table.shape c.members) (least_lost_is c.table.shape c.members (place_in c.live s) a) whole

  -- none is lost in a state with the same members
  pub none_now : (z : State) (s : ℕ) → z.members ≡ c.members → z.table.shape ≡ c.table.shape → has_lost c.table.shape c.members ≡ false → IsLeastLostIn z s → ⊥
  none_now z s members shape whole h =
      let lost = least_lost_is z.table.shape z.members (place_in z.live s) h in
      both (has_lost c.table.shape c.members)
      (subst (λ (t : Shape). has_lost t c.members ≡ true) shape (subst (λ (f : ℕ → MemberState). has_lost z.table.shape f ≡ true) members lost)) whole

-- a save that is done, or finds a lost boundary, is one of an array that has all its boundaries in use
abbrev pub IsSavedWhole : Seen → Reply → Type 0
IsSavedWhole c (Lost s) = length c.live < c.boundaries → ⊥
IsSavedWhole c (Saved i) = length c.live < c.boundaries → ⊥
IsSavedWhole c reply = Unit {0}

-- ---- one event

-- what is seen once blocks were moved by a plan
abbrev moved_by : Seen → (ℕ → MemberState) → Option ℕ → List (Option Want) → Plan → Seen
moved_by c members limit wants found = record c { members = members; table = moved (targets_of c.table.shape wants found) limit c.table }

abbrev settled_by : Seen → (ℕ → MemberState) → List (Option Want) → Plan → Seen
settled_by c members wants found = record (moved_by c members None wants found) { homes = found.homes; phase = Settled }

module _ (c : Seen) (ok : IsFit c) (l : Option LastLabel) (n : Counts) (x : State) (none : NoneRose n.faults x.counts.faults) (shape : x.table.shape ≡ c.table.shape) where
  was_lost : (s : ℕ) → WasLost (state_of c l n) s x → IsLeastAt c ok s × (seen_of x ≡ c)
  was_lost s h = (h.0, ap seen_of h.1)

  not_now : (s : ℕ) → LostNow (state_of c l n) s x → x.members ≡ c.members → ⊥
  not_now s h members = none_now c ok x s members shape h.0 h.1

  settle_lost : (s : ℕ) → Step AreTold (state_of c l n) Settle (Lost s) x → IsLeastAt c ok s × (seen_of x ≡ c)
  settle_lost s h = elim h [
    | inl was ↦ was_lost s was
    | inr now ↦ elim now.2 [
      | inl still ↦ absurd (not_now s now.0 (goes_stay c l n x ok.paired none still.goes))
      | inr cut ↦ absurd (not_now s now.0 (goes_stay c l n x ok.paired none cut.1.goes))
    ]
  ]

  tend_lost : (limit s : ℕ) → Step AreTold (state_of c l n) (Tend limit) (Lost s) x → IsLeastAt c ok s × (seen_of x ≡ c)
  tend_lost limit s h = elim h [
    | inl was ↦ was_lost s was
    | inr now ↦ elim now.2 [
      | inl still ↦ absurd (not_now s now.0 (goes_stay c l n x ok.paired none still.goes))
      | inr cut ↦ absurd (not_now s now.0 (goes_stay c l n x ok.paired none cut.goes))
    ]
  ]

  diffuse_lost : (s : ℕ) → Step AreTold (state_of c l n) Diffuse (Lost s) x → IsLeastAt c ok s × (seen_of x ≡ c)
  diffuse_lost s h = elim h.1 [
    | inl was ↦ was_lost s was
    | inr now ↦ absurd (not_now s now.0 (goes_stay c l n x ok.paired none now.1.2.goes))
  ]

  saves_members : MembersFall n.faults x.counts.faults c.members x.members → x.members ≡ c.members
  saves_members falls = λ i q. members_stay n.faults x.counts.faults c.members x.members none ok.paired falls q i

  settles_seen : (h : Settles AreTold (state_of c l n) x) → seen_of x ≡ settled_by c c.members h.wants h.found
  settles_seen h = ap seen_of h.rest ∙ ap (λ (f : ℕ → MemberState). settled_by c f h.wants h.found) (goes_stay c l n x ok.paired none h.goes)

  tends_seen : (limit done left : ℕ) (h : Tends AreTold (state_of c l n) limit done left x) → seen_of x ≡ moved_by c c.members (Some limit) h.wants h.found
  tends_seen limit done left h = ap seen_of h.rest ∙ ap (λ (f : ℕ → MemberState). moved_by c f (Some limit) h.wants h.found) (goes_stay c l n x ok.paired none h.goes)

  spreads_seen : (count gained : ℕ) (h : Spreads AreTold (state_of c l n) count gained x) → seen_of x ≡ record c { table = (spread_in x).table; copies = (spread_in x).copies }
  spreads_seen count gained h =
      ap seen_of h.rest ∙ ap (λ (f : ℕ → MemberState). record c { members = f; table = x.table; copies = x.copies }) (goes_stay c l n x ok.paired none h.goes)

module _ (c : Seen) (ok : IsFit c) (l : Option LastLabel) (n : Counts) (x : State) (none : NoneRose n.faults x.counts.faults) (shape : x.table.shape ≡ c.table.shape) where
  save_lost : (s : ℕ) → Step AreTold (state_of c l n) Save (Lost s) x → IsLeastAt c ok s × (seen_of x ≡ c) × ((q : ℕ) → is_good (c.members q) ≡ false)
  save_lost s h =
      let members = saves_members c ok l n x none shape h.1.passes.members in
      let seen : seen_of x ≡ c = ap seen_of h.1.rest ∙ ap (λ (f : ℕ → MemberState). record c { members = f }) members in (
        subst (λ (d : Seen). IsLeastLost d.table.shape d.members (place_in d.live s)) seen h.0,
        seen,
        λ q. subst (λ (f : ℕ → MemberState). is_good (f q) ≡ false) members (h.1.none q),
      )

  saves_good : (j : ℕ) (h : Saves (state_of c l n) j x) → is_good (c.members (h.some.0)) ≡ true
  saves_good j h = subst (λ (f : ℕ → MemberState). is_good (f (h.some.0)) ≡ true) (saves_members c ok l n x none shape h.passes.members) (h.some.1)

  saves_seen : (j : ℕ) → Saves (state_of c l n) j x → seen_of x ≡ c
  saves_seen j h = ap seen_of h.rest ∙ ap (λ (f : ℕ → MemberState). record c { members = f }) (saves_members c ok l n x none shape h.passes.members)

module _ (c : Seen) (ok : IsFit c) (l k : Option LastLabel) (n m : Counts) (x y : State) (none : NoneRose n.faults x.counts.faults) (never : NoneRose m.faults y.counts.faults)
    (shape : x.table.shape ≡ c.table.shape) (other : y.table.shape ≡ c.table.shape) where
  settles_one : Settles AreTold (state_of c l n) x → Settles AreTold (state_of c k m) y → seen_of x ≡ seen_of y
  settles_one h g =
      let p = one_plan c l k n m h.wants g.wants h.found g.found h.planned g.planned in
      settles_seen c ok l n x none shape h ∙ ap (λ (w : List (Option Want)). settled_by c c.members w h.found) p.0
      ∙ ap (settled_by c c.members g.wants) p.1 ∙ sym (settles_seen c ok k m y never other g)

  pub settle_one : (r q : Reply) → Step AreTold (state_of c l n) Settle r x → Step AreTold (state_of c k m) Settle q y → AreOne r q x y
  settle_one (Lost s) (Lost t) h g =
      let a = settle_lost c ok l n x none shape s h in
      let b = settle_lost c ok k m y never other t g in
      (ap Lost (least_same c ok s t a.0 b.0), a.1 ∙ sym b.1)
  settle_one (Lost s) SettledReply h g = absurd (least_breaks c ok s (settle_lost c ok l n x none shape s h).0 g.0)
  settle_one (Lost s) (Malformed kind a) h g = absurd (least_breaks c ok s (settle_lost c ok l n x none shape s h).0 g.0)
  settle_one (Lost s) (NoSpace bad) h g = absurd (least_breaks c ok s (settle_lost c ok l n x none shape s h).0 g.0)
  settle_one (Lost s) q h g = absurd g
  settle_one SettledReply (Lost t) h g = absurd (least_breaks c ok t (settle_lost c ok k m y never other t g).0 h.0)
  settle_one SettledReply SettledReply h g = elim h.1 [
    | inl was ↦ elim g.1 [ inl too ↦ (refl, ap seen_of was.1 ∙ sym (ap seen_of too.1)) | inr now ↦ absurd (now.0 was.0) ]
    | inr now ↦ elim g.1 [ inl was ↦ absurd (now.0 was.0) | inr too ↦ (refl, settles_one now.2 too.2) ]
  ]
  settle_one SettledReply (Malformed kind a) h g = elim h.1 [ inl was ↦ absurd (g.1 was.0) | inr now ↦ absurd (now.2.sound tt kind a (g.2 tt).here) ]
  settle_one SettledReply (NoSpace bad) h g = elim h.1 [
    | inl was ↦ absurd (g.1 was.0)
    | inr now ↦ absurd (no_room_there c l k n m now.2.wants now.2.found bad now.2.planned g.3)
  ]
  settle_one SettledReply q h g = absurd g
  settle_one (Malformed kind a) (Lost t) h g = absurd (least_breaks c ok t (settle_lost c ok k m y never other t g).0 h.0)
  settle_one (Malformed kind a) SettledReply h g = elim g.1 [ inl was ↦ absurd (h.1 was.0) | inr now ↦ absurd (now.2.sound tt kind a (h.2 tt).here) ]
  settle_one (Malformed kind a) (Malformed too b) h g =
      let same = one_malformation c.table.shape.l c.table.shape.n c.blocks kind too a b (h.2 tt) (g.2 tt) in
      (ap (λ (z : BadKind). Malformed z a) same.0 ∙ ap (Malformed too) same.1, stays_x c ok l k n m x y none never h.3.stays ∙ sym (stays_y c ok l k n m x y none never g.3.stays))
  settle_one (Malformed kind a) (NoSpace bad) h g = absurd (g.2 tt kind a (h.2 tt).here)
  settle_one (Malformed kind a) q h g = absurd g
  settle_one (NoSpace bad) (Lost t) h g = absurd (least_breaks c ok t (settle_lost c ok k m y never other t g).0 h.0)
  settle_one (NoSpace bad) SettledReply h g = elim g.1 [
    | inl was ↦ absurd (h.1 was.0)
    | inr now ↦ absurd (no_room_here c l k n m now.2.wants now.2.found bad h.3 now.2.planned)
  ]
  settle_one (NoSpace bad) (Malformed kind a) h g = absurd (h.2 tt kind a (g.2 tt).here)
  settle_one (NoSpace bad) (NoSpace too) h g = (
    ap NoSpace (one_want_of_room c l k n m bad too h.3 g.3),
    stays_x c ok l k n m x y none never h.4.stays ∙ sym (stays_y c ok l k n m x y none never g.4.stays),
  )
  settle_one (NoSpace bad) q h g = absurd g
  settle_one r q h g = absurd h

  tends_one : (limit a b i j : ℕ) → Tends AreTold (state_of c l n) limit a b x → Tends AreTold (state_of c k m) limit i j y → (Tended a b ≡ Tended i j) × (seen_of x ≡ seen_of y)
  tends_one limit a b i j h g =
      let p = one_plan c l k n m h.wants g.wants h.found g.found h.planned g.planned in
      let seen : seen_of x ≡ seen_of y = tends_seen c ok l n x none shape limit a b h ∙ ap (λ (w : List (Option Want)). moved_by c c.members (Some limit) w h.found) p.0
      ∙ ap (moved_by c c.members (Some limit) g.wants) p.1 ∙ sym (tends_seen c ok k m y never other limit i j g) in
      let targets : targets_of c.table.shape h.wants h.found ≡ targets_of c.table.shape g.wants g.found = ap (λ (w : List (Option Want)). targets_of c.table.shape w h.found) p.0 ∙ ap (targets_of c.table.shape g.wants) p.1 in
      let met : a ≡ i = h.met ∙ ap (λ (t : ℕ → ℕ → Bool). min limit (missing_in t c.table)) targets ∙ sym g.met in
      let left : b ≡ j = h.left ∙ ap (λ (t : ℕ → ℕ → Bool). missing_in t x.table) targets ∙ ap (λ (s : Seen). missing_in (targets_of c.table.shape g.wants g.found) s.table) seen ∙ sym g.left in
      (ap (λ (z : ℕ). Tended z b) met ∙ ap (Tended i) left, seen)

  pub tend_one : (limit : ℕ) (r q : Reply) → Step AreTold (state_of c l n) (Tend limit) r x → Step AreTold (state_of c k m) (Tend limit) q y → AreOne r q x y
  tend_one limit (Lost s) (Lost t) h g =
      let a = tend_lost c ok l n x none shape limit s h in
      let b = tend_lost c ok k m y never other limit t g in
      (ap Lost (least_same c ok s t a.0 b.0), a.1 ∙ sym b.1)
  tend_one limit (Lost s) (Tended i j) h g = absurd (least_breaks c ok s (tend_lost c ok l n x none shape limit s h).0 g.0)
  tend_one limit (Lost s) (NoSpace bad) h g = absurd (least_breaks c ok s (tend_lost c ok l n x none shape limit s h).0 g.0)
  tend_one limit (Lost s) q h g = absurd g
  tend_one limit (Tended a b) (Lost t) h g = absurd (least_breaks c ok t (tend_lost c ok k m y never other limit t g).0 h.0)
  tend_one limit (Tended a b) (Tended i j) h g = elim h.1 [
    | inl was ↦ elim g.1 [
      | inl too ↦ (
        ap (λ (z : ℕ). Tended z b) (was.1 ∙ sym too.1) ∙ ap (Tended i) (was.2 ∙ sym too.2),
        ap seen_of was.3 ∙ sym (ap seen_of too.3),
      )
      | inr now ↦ absurd (now.0 was.0)
    ]
    | inr now ↦ elim g.1 [ inl was ↦ absurd (now.0 was.0) | inr too ↦ tends_one limit a b i j now.2 too.2 ]
  ]
  tend_one limit (Tended a b) (NoSpace bad) h g = elim h.1 [
    | inl was ↦ absurd (g.1 was.0)
    | inr now ↦ absurd (no_room_there c l k n m now.2.wants now.2.found bad now.2.planned g.2)
  ]
  tend_one limit (Tended a b) q h g = absurd g
  tend_one limit (NoSpace bad) (Lost t) h g = absurd (least_breaks c ok t (tend_lost c ok k m y never other limit t g).0 h.0)
  tend_one limit (NoSpace bad) (Tended i j) h g = elim g.1 [
    | inl was ↦ absurd (h.1 was.0)
    | inr now ↦ absurd (no_room_here c l k n m now.2.wants now.2.found bad h.2 now.2.planned)
  ]
  tend_one limit (NoSpace bad) (NoSpace too) h g = (
    ap NoSpace (one_want_of_room c l k n m bad too h.2 g.2),
    stays_x c ok l k n m x y none never h.3.stays ∙ sym (stays_y c ok l k n m x y none never g.3.stays),
  )
  tend_one limit (NoSpace bad) q h g = absurd g
  tend_one limit r q h g = absurd h

  spreads_one : (count a b : ℕ) → Spreads AreTold (state_of c l n) count a x → Spreads AreTold (state_of c k m) count b y → (Diffused a ≡ Diffused b) × (seen_of x ≡ seen_of y)
  spreads_one count a b h g =
      let wants : h.wants ≡ g.wants = wants_same c.table c.blocks h.wants g.wants h.seen.fit (h.seen.are tt) g.seen.fit (g.seen.are tt) in
      let spread : spread_in x ≡ spread_in y = h.spread ∙ ap (λ (w : List (Option Want)). spread_over w c.homes (take count c.recent) (record { table = c.table; copies = c.copies })) wants ∙ sym g.spread in
      let gained : a ≡ b = omega (arith, h.gained_is, g.gained_is, ap (λ (s : Spread). length s.copies) spread) in
      (ap Diffused gained, spreads_seen c ok l n x none shape count a h ∙ ap (λ (s : Spread). record c { table = s.table; copies = s.copies }) spread ∙ sym (spreads_seen c ok k m y never other count b g))

  pub diffuse_one : (r q : Reply) → Step AreTold (state_of c l n) Diffuse r x → Step AreTold (state_of c k m) Diffuse q y → AreOne r q x y
  diffuse_one NotSettled NotSettled h g = (refl, ap seen_of h.1 ∙ sym (ap seen_of g.1))
  diffuse_one NotSettled (Lost t) h g = absurd (h.0 g.0)
  diffuse_one NotSettled (Diffused b) h g = absurd (h.0 g.0)
  diffuse_one NotSettled q h g = absurd g
  diffuse_one (Lost s) NotSettled h g = absurd (g.0 h.0)
  diffuse_one (Lost s) (Lost t) h g =
      let a = diffuse_lost c ok l n x none shape s h in
      let b = diffuse_lost c ok k m y never other t g in
      (ap Lost (least_same c ok s t a.0 b.0), a.1 ∙ sym b.1)
  diffuse_one (Lost s) (Diffused b) h g = absurd (least_breaks c ok s (diffuse_lost c ok l n x none shape s h).0 g.1)
  diffuse_one (Lost s) q h g = absurd g
  diffuse_one (Diffused a) NotSettled h g = absurd (g.0 h.0)
  diffuse_one (Diffused a) (Lost t) h g = absurd (least_breaks c ok t (diffuse_lost c ok k m y never other t g).0 h.1)
  diffuse_one (Diffused a) (Diffused b) h g = spreads_one (length c.recent) a b h.3 g.3
  diffuse_one (Diffused a) q h g = absurd g
  diffuse_one r q h g = absurd h

  -- ---- saves

  save_lost_x : (s : ℕ) → Step AreTold (state_of c l n) Save (Lost s) x → IsLeastAt c ok s × (seen_of x ≡ c) × ((q : ℕ) → is_good (c.members q) ≡ false)
  save_lost_x s h = save_lost c ok l n x none shape s h

  save_lost_y : (s : ℕ) → Step AreTold (state_of c k m) Save (Lost s) y → IsLeastAt c ok s × (seen_of y ≡ c) × ((q : ℕ) → is_good (c.members q) ≡ false)
  save_lost_y s h = save_lost c ok k m y never other s h

  pub save_one : next_sequence l ≡ next_sequence k → (r q : Reply) → IsSavedWhole c r → IsSavedWhole c q → Step AreTold (state_of c l n) Save r x → Step AreTold (state_of c k m) Save q y → AreOne r q x y
  save_one number (Lost s) (Lost t) here there h g =
      let a = save_lost_x s h in
      let b = save_lost_y t g in
      (ap Lost (least_same c ok s t a.0 b.0), a.1 ∙ sym b.1)
  save_one number (Lost s) (Saved j) here there h g = absurd (false≢true (sym ((save_lost_x s h).2 g.some.0) ∙ saves_good c ok k m y never other j g))
  save_one number (Lost s) NotSaved here there h g = absurd (here g.0)
  save_one number (Lost s) q here there h g = absurd g
  save_one number (Saved i) (Lost t) here there h g = absurd (false≢true (sym ((save_lost_y t g).2 h.some.0) ∙ saves_good c ok l n x none shape i h))
  save_one number (Saved i) (Saved j) here there h g = (ap Saved (h.next ∙ number ∙ sym g.next), saves_seen c ok l n x none shape i h ∙ sym (saves_seen c ok k m y never other j g))
  save_one number (Saved i) NotSaved here there h g = absurd (here g.0)
  save_one number (Saved i) q here there h g = absurd g
  save_one number NotSaved (Lost t) here there h g = absurd (there h.0)
  save_one number NotSaved (Saved j) here there h g = absurd (there h.0)
  save_one number NotSaved NotSaved here there h g = (refl, ap seen_of h.1 ∙ sym (ap seen_of g.1))
  save_one number NotSaved q here there h g = absurd g
  save_one number r q here there h g = absurd h
