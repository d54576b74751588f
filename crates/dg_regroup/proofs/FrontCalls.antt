-- A call on a rack of which some members show their first bytes alone, by the call that the rack below gets for it.
use Rattle.std.proofs.Common.{◌≡◌, ◌≢◌, ◌≤◌, ℕ, Bool, false, true, List, [], ◌∷◌, ◌∙◌, None, Option, Some, IsSome, ap, arith, inl, inr, subst, sym}
use Rattle.std.specs.Prelude.{◌&&◌, not, is_some, length, slice_index, slice_index_or, slice_set}
use Rattle.std.proofs.lemmas.Bool.{cases_eq, cases_lt, false≢true}
use Rattle.std.proofs.lemmas.List.{get_or-set_same, get_or_past, length-set}
use Rattle.dg_io.specs.RackCalls.{RackCall, member_of}
use Rattle.dg_io.specs.Told.{IsSame, OthersSame, Told}
use Rattle.dg_io.specs.declared.outside.Rack.{Ghosts}
use Rattle.dg_regroup.specs.FrontMade.{FrontMade, IsFor, IsNoExtend}
use Rattle.dg_regroup.specs.FrontRacks.{front_stands, is_front}
use Rattle.dg_regroup.specs.declared.front_racks.FrontRack.{FrontRack}

pub not_none : {A : Type 0} (x : Option A) → IsSome x → x ≡ None → ⊥
not_none None some is = absurd (cc some)
not_none (Some x) some is = absurd (cc is)

pub passed_as : {R : Type 0} (rack : Ghosts R) (call below : RackCall) → IsFor call below → (a b : FrontRack R) → b.length ≡ a.length → b.fronts ≡ a.fronts
    → ((q : ℕ) → slice_index a.refused q ≤ slice_index b.refused q) → ((q : ℕ) → q ≢ member_of call → slice_index b.refused q ≡ slice_index a.refused q) → a.writes ≤ b.writes
    → (IsNoExtend call → b.refused ≡ a.refused) → (IsNoExtend call → b.writes ≡ a.writes)
    → (a.length ≡ None → b.refused ≡ a.refused) → (a.length ≡ None → b.writes ≡ a.writes)
    → (a.length ≡ None → (q : ℕ) → is_front a q ≡ true → Told IsSame (rack.bytes a.rack q) (rack.bytes b.rack q)) → rack.made a.rack (below ∷ []) b.rack → FrontMade rack a (call ∷ []) b
passed_as rack call below is a b long same rise others writes kept idle whole quiet unseen made = record {
  length = long;
  passed = below ∷ [];
  are_for = (is, tt);
  below = made;
  same_front = λ q each. ap (λ (fronts : List Bool). slice_index_or fronts q false) same;
  same_fronts = λ each q. ap (λ (fronts : List Bool). slice_index_or fronts q false) same;
  rise = rise;
  others = λ q each. others q (λ e. each.0 (sym e));
  writes = writes;
  whole_refused = λ is q. ap (λ (refused : List ℕ). slice_index refused q) (whole is);
  whole_writes = quiet;
  still = λ q is. ap (λ (fronts : List Bool). slice_index_or fronts q false) same ∙ is;
  unseen = λ is q front later. unseen is q front;
  same_refused = λ each q. ap (λ (refused : List ℕ). slice_index refused q) (kept each.0);
  same_writes = λ each. idle each.0;
}

-- where a call leaves the other members, and this one's bytes too, it leaves all
pub spared : (member : ℕ) (old new : ℕ → Option (List ℕ)) → OthersSame member old new → Told IsSame (old member) (new member) → (q : ℕ) → Told IsSame (old q) (new q)
spared member old new others own q = elim (cases_eq q member) [
  | inl e ↦ subst (λ (p : ℕ). Told IsSame (old p) (new p)) (sym e) own
  | inr far ↦ others q far
]

-- a member that shows nothing doesn't stand
pub hidden_not : {R : Type 0} (rack : Ghosts R) (it : FrontRack R) (q : ℕ) → front_stands rack it q ≡ true → it.length ≡ None → is_front it q ≡ true → ⊥
hidden_not rack it q stands none front = by (is_front it q) it.length front none stands where
  by : (cut : Bool) (n : Option ℕ) → cut ≡ true → n ≡ None → not (cut && not (is_some n)) && rack.stands it.rack q ≡ true → ⊥
  by true None e is h = false≢true h
  by true (Some n) e is h = absurd (cc is)
  by false n e is h = absurd (false≢true e)

-- so a call on one that stands leaves those
pub unseen_by : {R : Type 0} (rack : Ghosts R) (member : ℕ) (a : FrontRack R) (b : R) → front_stands rack a member ≡ true → OthersSame member (rack.bytes a.rack) (rack.bytes b)
    → a.length ≡ None → (q : ℕ) → is_front a q ≡ true → Told IsSame (rack.bytes a.rack q) (rack.bytes b q)
unseen_by rack member a b stands others none q front = elim (cases_eq q member) [
  | inl e ↦ absurd (hidden_not rack a member stands none (subst (λ (p : ℕ). is_front a p ≡ true) e front))
  | inr far ↦ others q far
]

-- a mark that was taken away is gone
pub unmarked : (marks : List Bool) (m : ℕ) → slice_index_or (slice_set marks m false) m false ≡ false
unmarked marks m = elim (cases_lt m (length marks)) [
  | inl low ↦ get_or-set_same marks m false false low
  | inr past ↦ get_or_past (slice_set marks m false) m false (omega (arith, past, length-set marks m false))
]
