-- Steps of an array of two blocks over members that hold no volume, and what is no step. Where bytes are told, the blocks are nobody's.
use Rattle.std.proofs.Common.{◌≡◌, ◌<◌, inl, inr, ℕ, zero, suc, Bool, true, false, List, [], ◌∷◌, ◌++◌, ap, refl, arith, sym, subst, ◌∙◌, length, take}
use Rattle.std.proofs.lemmas.Bool.{false≢true}
use Rattle.std.proofs.lemmas.List.{length-append, take_all}
use Rattle.std.specs.Prelude.{Option, Some, None, Result, Ok, Err, is_some}
use Rattle.std.specs.List.{sum_by}
use Rattle.std.specs.Option.{unwrap_or}
use Rattle.ufs_model.specs.Malformations.{IsFirstMalformation, IsMalformed}
use Rattle.ufs_model.specs.Owners.{BelongsTo}
use Rattle.ufs_model.specs.declared.geometries.BadSuper.TheVariants.{Magic}
use Rattle.ufs_model.specs.declared.malformations.BadKind.TheVariants.{Super}
use Rattle.dg_model.specs.Changes.{Goes, SeesWants, Stays, Tends}
use Rattle.dg_model.specs.Members.{is_filling, is_good, is_lost, partner_of}
use Rattle.dg_model.specs.Moves.{Action, IsCutByLoss, IsCutOff, all_done, copy_to, give_up, give_ups, missing, missing_in, moved, moves, round, tidying}
use Rattle.dg_model.specs.Plans.{Plan, place_kept, place_stray, place_with, plan, roomiest, stay, targets_of}
use Rattle.dg_model.specs.States.{State}
use Rattle.dg_model.specs.Steps.{Step}
use Rattle.dg_model.specs.Sites.{has_site}
use Rattle.dg_model.specs.Tables.{Table, lowest_free, sites_in}
use Rattle.dg_model.specs.Wants.{AreParents, IsWant, want_of}
use Rattle.dg_model.specs.declared.events.Event.TheVariants.{Settle, Tend}
use Rattle.dg_model.specs.declared.homes.Home.{Home}
use Rattle.dg_model.specs.declared.members.MemberState.{MemberState}
use Rattle.dg_model.specs.declared.members.MemberState.TheVariants.{Good, Out}
use Rattle.dg_model.specs.declared.parents.Parent.{Parent}
use Rattle.dg_model.specs.declared.phases.Phase.{Phase}
use Rattle.dg_model.specs.declared.phases.Phase.TheVariants.{Loose, Settled}
use Rattle.dg_model.specs.declared.replies.Reply.TheVariants.{Malformed, NoSpace, Settled as SettledReply, Tended}
use Rattle.dg_model.specs.declared.shapes.Shape.{Shape}
use Rattle.dg_model.specs.declared.sites.Site.{Site}
use Rattle.dg_model.specs.declared.wants.NoRoom.{NoRoom}
use Rattle.dg_model.specs.declared.wants.Want.{Want}
use Rattle.dg_model.specs.declared.wants.Want.TheVariants.{Kept, File, Stray}
use Rattle.dg_model.proofs.PlanRows.{on}
use Rattle.dg_model.proofs.VerdictRows.{blocks, is_stray, no_volume, owner_claims, plain}

-- ---- the array

-- the four members of two boundaries
unfoldable pub all_good : ℕ → MemberState
all_good zero = Good
all_good (suc zero) = Good
all_good (suc (suc zero)) = Good
all_good (suc (suc (suc zero))) = Good
all_good (suc (suc (suc (suc q)))) = Out

pub not_filling : (q : ℕ) → is_filling (all_good q) ≡ true → is_good (all_good (partner_of q)) ≡ true
unfolding all_good
not_filling zero e = refl
not_filling (suc zero) e = refl
not_filling (suc (suc zero)) e = refl
not_filling (suc (suc (suc zero))) e = refl
not_filling (suc (suc (suc (suc q)))) e = absurd (false≢true e)

abbrev pub shape : Shape
shape = record { l = 512; n = 2; b = 2; k = 2; m = 1 }

abbrev pub table_with : List Site → List Site → Table
table_with first second = record { shape = shape; rows = first ∷ second ∷ [] }

-- what is known of it beside its sites and members
pub record Rest : Type 0 where
  pub homes : List Home
  pub copies : List Home
  pub phase : Phase
  pub recent : List ℕ

abbrev pub nothing : Rest
nothing = record { homes = []; copies = []; phase = Loose; recent = [] }

-- the array after so many calls, all of which wrote
abbrev pub array_with : Table → Rest → ℕ → State
array_with table rest calls = record {
  boundaries = 2;
  live = 0 ∷ 1 ∷ [];
  table = table;
  blocks = blocks;
  pending = true ∷ false ∷ [];
  cut = false ∷ false ∷ [];
  homes = rest.homes;
  copies = rest.copies;
  phase = rest.phase;
  recent = rest.recent;
  members = all_good;
  label = None;
  counts = record { faults = λ q. 0; calls = calls; writes = calls };
}

-- calls were made, and all went well
pub goes : (t u : Table) (x y : Rest) → Goes (array_with t x 5) (array_with u y 9)
unfolding all_good
goes t u x y = record {
  passes = record {
    counts = record { faults = λ q. omega arith; calls = omega arith; writes = omega arith };
    label = record { opens = true; rose = λ a b. refl; stood = λ e. absurd (omega (arith, e)); is = refl };
    paired = not_filling;
    faults = record { fell = λ q low less. absurd (omega (arith, less)); beyond = λ q high. refl };
  };
  members = λ q. inl refl;
  out = λ q was. refl;
}

pub stays : (t : Table) (x : Rest) → Stays (array_with t x 5) (array_with t x 9)
stays t x = record { goes = goes t t x x; rest = refl }

-- the array after calls that only read, up to so many
abbrev pub array_read : Table → Rest → ℕ → State
array_read table rest calls = record (array_with table rest 5) { counts = record { faults = λ q. 0; calls = calls; writes = 5 } }

pub reads : (t : Table) (x : Rest) → Stays (array_with t x 5) (array_read t x 9)
unfolding all_good
reads t x = record {
  goes = record {
    passes = record {
      counts = record { faults = λ q. omega arith; calls = omega arith; writes = omega arith };
      label = record { opens = false; rose = λ less. absurd (omega (arith, less)); stood = λ e below. refl; is = refl };
      paired = not_filling;
      faults = record { fell = λ q low less. absurd (omega (arith, less)); beyond = λ q high. refl };
    };
    members = λ q. inl refl;
    out = λ q was. refl;
  };
  rest = refl;
}

-- both blocks stand on boundary 1, or each on its own
abbrev pub both_on_1 : Table
both_on_1 = table_with (on 1 0 ∷ []) (on 1 1 ∷ [])

abbrev pub apart : Table
apart = table_with (on 0 0 ∷ []) (on 1 1 ∷ [])

abbrev pub before : State
before = array_with both_on_1 nothing 5

pub is_loose : Loose ≡ Settled → ⊥
is_loose e = cc

-- ---- what the blocks are to the plan, where they are told

abbrev pub both_stray : List (Option Want)
both_stray = Some Stray ∷ Some Stray ∷ []

stray_only : (want : Want) → Some Stray ≡ Some want → IsWant 512 2 blocks 0 want
stray_only want e = subst (λ w. IsWant 512 2 blocks 0 w) (ap (λ o. unwrap_or o Stray) e) (is_stray 0)

stray_only_1 : (want : Want) → Some Stray ≡ Some want → IsWant 512 2 blocks 1 want
stray_only_1 want e = subst (λ w. IsWant 512 2 blocks 1 w) (ap (λ o. unwrap_or o Stray) e) (is_stray 1)

none_want : (b : ℕ) (want : Want) → None ≡ Some want → IsWant 512 2 blocks b want
none_want b want e = absurd (false≢true (ap (λ (o : Option Want). is_some o) e))

are_wants : (b : ℕ) (want : Want) → want_of both_stray b ≡ Some want → IsWant 512 2 blocks b want
are_wants zero want e = stray_only want e
are_wants (suc zero) want e = stray_only_1 want e
are_wants (suc (suc b)) want e = none_want (suc (suc b)) want e

written : (b : ℕ) → is_some (want_of both_stray b) ≡ has_site (sites_in both_on_1 b)
written zero = refl
written (suc zero) = refl
written (suc (suc b)) = refl

sees : SeesWants (Unit {0}) before both_stray
sees = record { fit = record { size = refl; written = written }; are = λ told. are_wants }

-- no directory names anything
no_parents : AreParents 512 2 blocks []
no_parents = record {
  ascend = λ k low. absurd (omega (arith, low));
  each = λ i d. ((λ c. absurd (omega (arith, c.1))), (λ h. absurd (rw no_volume at h)));
}

abbrev pub places : Plan
places = record { homes = []; strays = record { block = 1; boundary = 1 } ∷ record { block = 0; boundary = 0 } ∷ [] }

planned : plan shape both_stray [] [] ≡ Ok places
unfolding plan place_kept stay place_with place_stray roomiest
planned = refl

-- ---- tended

tended : Step (Unit {0}) before (Tend 1) (Tended 1 0) (array_with apart nothing 9)
unfolding all_good missing moves round tidying lowest_free targets_of
tended = (
  refl,
  inr (
    is_loose,
    refl,
    record {
      wants = both_stray;
      found = places;
      planned = record { parents = []; sees_wants = sees; sees_parents = λ told. no_parents; is = planned };
      goes = goes both_on_1 apart nothing nothing;
      rest = refl;
      met = refl;
      left = refl;
      still = λ none. absurd (omega (arith, none));
    },
  ),
)

-- ---- no other number is a step: the wants, the parents and the plan are these alone

owned : (b i : ℕ) → (level : ℕ) × BelongsTo 512 2 blocks b i level → ⊥
owned b i h = (plain [] b).unclaimed (owner_claims b i h.0 h.1)

not_kept : (b : ℕ) → IsWant 512 2 blocks b Kept → ⊥
not_kept b h = elim h [ inl system ↦ (plain [] b).role (inl system) | inr other ↦ owned b other.0 other.1 ]

not_file : (b i : ℕ) → IsWant 512 2 blocks b (File i) → ⊥
not_file b i h = owned b i h.0

one_want : (b : ℕ) (want : Option Want) → is_some want ≡ true → ((w : Want) → want ≡ Some w → IsWant 512 2 blocks b w) → want ≡ Some Stray
one_want b None some is = absurd (false≢true some)
one_want b (Some Kept) some is = absurd (not_kept b (is Kept refl))
one_want b (Some (File i)) some is = absurd (not_file b i (is (File i) refl))
one_want b (Some Stray) some is = refl

same_two : (x y : Option Want) → x ≡ Some Stray → y ≡ Some Stray → x ∷ y ∷ [] ≡ both_stray
same_two x y a b = ap (λ (o : Option Want). o ∷ y ∷ []) a ∙ ap (λ (o : Option Want). Some Stray ∷ o ∷ []) b

one_list : (wants : List (Option Want)) → SeesWants (Unit {0}) before wants → wants ≡ both_stray
one_list [] seen = absurd (let size = seen.fit.size in omega (arith, size))
one_list (x ∷ []) seen = absurd (let size = seen.fit.size in omega (arith, size))
one_list (x ∷ y ∷ []) seen =
    same_two x y (one_want 0 x (seen.fit.written 0) (λ w e. seen.are tt 0 w e)) (one_want 1 y (seen.fit.written 1) (λ w e. seen.are tt 1 w e))
one_list (x ∷ y ∷ z ∷ more) seen = absurd (let size = seen.fit.size in omega (arith, size))

one_family : (parents : List Parent) → AreParents 512 2 blocks parents → parents ≡ []
one_family [] are = refl
one_family (parent ∷ more) are = absurd (rw no_volume at ((are.each parent.inode parent.directory).0 (0, omega arith, refl)))

plan_in : Plan → Result Plan NoRoom → Plan
plan_in other (Ok found) = found
plan_in other (Err bad) = other

one_plan : (wants : List (Option Want)) (parents : List Parent) (found : Plan) → wants ≡ both_stray → parents ≡ [] → plan shape wants parents [] ≡ Ok found
    → found ≡ places
unfolding plan_in
one_plan wants parents found w p is =
    sym (ap (plan_in places) is) ∙ ap (λ ps. plan_in places (plan shape wants ps [])) p ∙ ap (λ ws. plan_in places (plan shape ws [] [])) w ∙ ap (plan_in places) planned

left_by : (wants : List (Option Want)) (found : Plan) → wants ≡ both_stray → found ≡ places
    → missing_in (targets_of shape wants found) (moved (targets_of shape wants found) (Some 1) both_on_1) ≡ 0
unfolding missing moves round tidying lowest_free targets_of
left_by wants found w f =
    ap (λ ws. missing_in (targets_of shape ws found) (moved (targets_of shape ws found) (Some 1) both_on_1)) w
    ∙ ap (λ fs. missing_in (targets_of shape both_stray fs) (moved (targets_of shape both_stray fs) (Some 1) both_on_1)) f

tends_wrongly : (m l : ℕ) (new : State) → Tends (Unit {0}) before 1 m (suc l) new → ⊥
tends_wrongly m l new t =
    let wants = one_list t.wants t.planned.sees_wants in
    let found = one_plan t.wants t.planned.parents t.found wants (one_family t.planned.parents (t.planned.sees_parents tt)) t.planned.is in
    let left = t.left ∙ ap (λ s. missing_in (targets_of shape t.wants t.found) s.table) t.rest ∙ left_by t.wants t.found wants found in
    omega (arith, left)

-- nothing is left once one placement was met
wrong_left : (m l : ℕ) (new : State) → Step (Unit {0}) before (Tend 1) (Tended m (suc l)) new → ⊥
wrong_left m l new h = elim h.1 [ inl was ↦ is_loose was.0 | inr now ↦ tends_wrongly m l new now.2 ]

-- no more are met than the limit allows
wrong_met : (Known : Type 0) (old : State) (l : ℕ) (new : State) → Step Known (record old { phase = Loose }) (Tend 1) (Tended 2 l) new → ⊥
wrong_met Known old l new h = elim h.1 [ inl was ↦ is_loose was.0 | inr now ↦ omega (arith, now.2.met) ]

-- there is room
wrong_refusal : (bad : NoRoom) (new : State) → Step (Unit {0}) before (Tend 1) (NoSpace bad) new → ⊥
unfolding plan_in
wrong_refusal bad new h =
    let c = h.2 in
    let wants = one_list c.wants c.sees_wants in
    let parents = one_family c.parents (c.sees_parents tt) in
    let ok = ap (λ ps. is_planned (plan shape c.wants ps [])) parents ∙ ap (λ ws. is_planned (plan shape ws [] [])) wants ∙ ap is_planned planned in
    false≢true (sym (ap is_planned c.is) ∙ ok)
  where
    is_planned : Result Plan NoRoom → Bool
    is_planned (Ok found) = true
    is_planned (Err other) = false

-- ---- cut off: a site isn't given up before the copy stands

abbrev targets : ℕ → ℕ → Bool
targets = targets_of shape both_stray places

actions : moves targets (Some 1) both_on_1 ≡ copy_to 0 0 ∷ give_up 0 1 ∷ []
unfolding missing moves round tidying lowest_free targets_of
actions = refl

abbrev sites_of_0 : Table → ℕ
sites_of_0 table = length (sites_in table 0)

fronts : (k : ℕ) → 0 < sites_of_0 (all_done both_on_1 (take k (copy_to 0 0 ∷ give_up 0 1 ∷ [])))
unfolding lowest_free
fronts zero = omega arith
fronts (suc zero) = omega arith
fronts (suc (suc k)) =
    subst (λ (acts : List Action). 0 < sites_of_0 (all_done both_on_1 acts)) (sym (take_all (suc (suc k)) (copy_to 0 0 ∷ give_up 0 1 ∷ []) (omega arith)))
    (omega arith)

take_front : (xs ys : List Action) → take (length xs) (xs ++ ys) ≡ xs
take_front [] ys = refl
take_front (x ∷ xs) ys = ap (λ (l : List Action). x ∷ l) (take_front xs ys)

keeps_one : (front rest : List Action) → copy_to 0 0 ∷ give_up 0 1 ∷ [] ≡ front ++ rest → 0 < sites_of_0 (all_done both_on_1 front)
keeps_one front rest e =
    subst (λ (acts : List Action). 0 < sites_of_0 (all_done both_on_1 acts)) (ap (take (length front)) e ∙ take_front front rest) (fronts (length front))

-- in each cut block 0 has a site: its old one, both, or the new one
given_up_first : IsCutOff targets (Some 1) both_on_1 (table_with [] (on 1 1 ∷ [])) → ⊥
given_up_first cut =
    let some = keeps_one cut.front cut.rest (sym actions ∙ cut.whole) in
    let none = ap sites_of_0 cut.led in
    omega (arith, some, none)

-- ---- cut by the loss of boundary 0: the copy to it fails, and block 0 keeps its source

one_lost : ℕ → MemberState
one_lost zero = Out
one_lost (suc zero) = Out
one_lost (suc (suc q)) = all_good (suc (suc q))

-- nothing was done
cut_before_copy : IsCutByLoss targets (Some 1) both_on_1 both_on_1 one_lost
unfolding one_lost
cut_before_copy = record {
  cut = record { front = []; rest = copy_to 0 0 ∷ give_up 0 1 ∷ []; whole = actions; led = refl };
  end = inl (record { block = 0; boundary = 0; more = give_up 0 1 ∷ []; copy = refl; cause = inr refl });
}

boundary_of : List Action → ℕ
boundary_of [] = 0
boundary_of (copy_to b s ∷ more) = s
boundary_of (give_up b s ∷ more) = s

second_copies : List Action → Bool
second_copies [] = false
second_copies (x ∷ []) = false
second_copies (x ∷ copy_to b s ∷ more) = true
second_copies (x ∷ give_up b s ∷ more) = false

-- of the two actions the first alone is a copy
first_copies : (earlier : List Action) (b s : ℕ) (more : List Action) → copy_to 0 0 ∷ give_up 0 1 ∷ [] ≡ earlier ++ copy_to b s ∷ more → (earlier ≡ []) × (s ≡ 0)
unfolding boundary_of second_copies
first_copies [] b s more e = (refl, sym (ap boundary_of e))
first_copies (x ∷ []) b s more e = absurd (false≢true (ap second_copies e))
first_copies (x ∷ y ∷ earlier) b s more e =
    let long = ap (λ (acts : List Action). length acts) e in absurd (omega (arith, long, length-append earlier (copy_to b s ∷ more)))

append_three : (xs ys zs : List Action) → (xs ++ ys) ++ zs ≡ xs ++ (ys ++ zs)
append_three [] ys zs = refl
append_three (x ∷ xs) ys zs = ap (λ (l : List Action). x ∷ l) (append_three xs ys zs)

abbrev boundary_of_0 : Table → ℕ
boundary_of_0 table = sum_by (λ site. site.boundary) (sites_in table 0)

-- the copy that failed wasn't done, and its block didn't give up its source
cut_after_copy : IsCutByLoss targets (Some 1) both_on_1 apart one_lost → ⊥
unfolding one_lost
cut_after_copy h = elim h.end [
  | inl next ↦
      let first = first_copies h.cut.front next.block next.boundary next.more (sym actions ∙ h.cut.whole ∙ ap (λ (l : List Action). h.cut.front ++ l) next.copy) in
      let same = ap boundary_of_0 (h.cut.led ∙ ap (λ (l : List Action). all_done both_on_1 l) first.0) in
      omega (arith, same)
  | inr last ↦
      let parts = append_three last.before (copy_to last.block last.boundary ∷ give_ups last.block last.given_up) h.cut.rest in
      let first = first_copies last.before last.block last.boundary (give_ups last.block last.given_up ++ h.cut.rest)
      (sym actions ∙ h.cut.whole ∙ ap (λ (l : List Action). l ++ h.cut.rest) last.copy ∙ parts) in
      false≢true (sym last.stands ∙ ap (λ (s : ℕ). is_lost one_lost s) first.1)
]

-- ---- settle finds that there is no volume

pub malformed : IsFirstMalformation 512 2 blocks (Super Magic) 0
unfolding IsMalformed
malformed = record {
  here = rw no_volume (refl, refl);
  least = λ m low bad. omega (arith, low);
  first = λ other m low bad. omega (arith, low);
}

settles_not : Step (Unit {0}) before Settle (Malformed (Super Magic) 0) (array_read both_on_1 nothing 9)
unfolding all_good
settles_not = (refl, is_loose, (λ told. malformed), record { stays = reads both_on_1 nothing; unwritten = refl })

-- and writes nothing, so that the seal of a label stays
refuses_written : Step (Unit {0}) before Settle (Malformed (Super Magic) 0) (array_with both_on_1 nothing 9) → ⊥
refuses_written h = let e = h.3.unwritten in omega (arith, e)

-- so it doesn't settle
settles_unsound : (new : State) → Step (Unit {0}) before Settle SettledReply new → ⊥
settles_unsound new h = elim h.1 [ inl was ↦ is_loose was.0 | inr now ↦ now.2.sound tt (Super Magic) 0 malformed.here ]
