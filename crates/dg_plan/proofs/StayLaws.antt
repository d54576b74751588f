-- Files that stay at their homes, one after another.
use Rattle.std.proofs.Common.{◌≡◌, ◌<◌, ◌≤◌, ◌+◌, ◌==◌, ◌&&◌, ◌⊎◌, ℕ, zero, suc, Bool, true, cond, List, [], ◌∷◌, drop, get_or, length, inl, inr, refl, sym, ◌∙◌, ap, subst, arith}
use Rattle.std.specs.Prelude.{Option, Some, None, find, is_some, nat_lt}
use Rattle.std.specs.BTreeMap.{BTreeMap, get, is_at}
use Rattle.std.specs.Map.{lookup}
use Rattle.std.specs.Ordering.{nat_cmp}
use Rattle.std.proofs.lemmas.Bool.{cases_Bool, cases_eq, false≢true}
use Rattle.std.proofs.lemmas.List.{drop_more, length-set}
use Rattle.dg_model.proofs.SiteLists.{apart_test}
use Rattle.dg_model.specs.Homes.{Ascend, home_of, with_home}
use Rattle.dg_model.specs.Plans.{Placed, are_same, count_of, directory_of, has_room, placed_on, stay, stay_all, stay_with}
use Rattle.dg_model.specs.declared.homes.Home.{Home}
use Rattle.dg_model.specs.declared.parents.Parent.{Parent}
use Rattle.dg_model.specs.declared.wants.Want.{Want}
use Rattle.dg_plan.specs.Beside.{Rise}
use Rattle.dg_plan.specs.Files.{blocks_at}
use Rattle.dg_plan.specs.Placings.{AreStayed, HasLeast, KeepsLeast, Knows, homes_in, placed_of}
use Rattle.dg_plan.specs.declared.placings.Placing.{Placing}
use Rattle.dg_plan.proofs.BesideLaws.{rise_more}
use Rattle.dg_plan.proofs.FileLaws.{blocks_same}
use Rattle.dg_plan.proofs.RiseLaws.{rises}

-- ---- one home more

-- the homes of other files are those that they were
pub with_other : (home : Home) (homes : List Home) (i : ℕ) → (home.inode ≡ i → ⊥) → home_of (with_home home homes) i ≡ home_of homes i
with_other home [] i apart = ap (λ (b : Bool). cond b (Some home.boundary) None) (apart_test home.inode i apart)
with_other home (first ∷ homes) i apart = elim (cases_Bool (nat_lt home.inode first.inode)) [
  | inl hit ↦
      ap (λ (v : Bool). home_of (cond v (home ∷ first ∷ homes) (first ∷ with_home home homes)) i) hit
      ∙ ap (λ (b : Bool). cond b (Some home.boundary) (home_of (first ∷ homes) i)) (apart_test home.inode i apart)
  | inr miss ↦
      ap (λ (v : Bool). home_of (cond v (home ∷ first ∷ homes) (first ∷ with_home home homes)) i) miss
      ∙ ap (λ (o : Option ℕ). cond (first.inode == i) (Some first.boundary) o) (with_other home homes i apart)
]

pub none_of : (o : Option ℕ) → (is_some o ≡ true → ⊥) → o ≡ None
none_of None apart = refl
none_of (Some s) apart = absurd (apart refl)

-- a file stays, or nothing changes
pub stay_cases : (count : ℕ) (home : Home) (placed : Placed) → (stay_with count home placed ≡ placed) ⊎ (stay_with count home placed ≡ placed_on home.inode count home.boundary placed)
stay_cases count home placed =
    let test = nat_lt 0 count && has_room home.boundary count placed.rooms in
    elim (cases_Bool test) [
      | inl hit ↦ inr (ap (λ (v : Bool). cond v (placed_on home.inode count home.boundary placed) placed) hit)
      | inr miss ↦ inl (ap (λ (v : Bool). cond v (placed_on home.inode count home.boundary placed) placed) miss)
    ]

-- what a file that stays, or doesn't, leaves of what was placed
record Leaves (home : Home) (old new : Placed) : Type 0 where
  rise : Rise old.homes → home_of old.homes home.inode ≡ None → Rise new.homes
  size : length new.rooms ≡ length old.rooms
  others : (i : ℕ) → (home.inode ≡ i → ⊥) → home_of new.homes i ≡ home_of old.homes i

put_leaves : (home : Home) (count : ℕ) (placed : Placed) → Leaves home placed (placed_on home.inode count home.boundary placed)
put_leaves home count placed = record {
  rise = λ rise none. rise_more home placed.homes rise none;
  size = length-set placed.rooms _ _;
  others = λ i apart. with_other home placed.homes i apart;
}

stay_leaves : (home : Home) (count : ℕ) (placed new : Placed) → new ≡ stay_with count home placed → Leaves home placed new
stay_leaves home count placed new is = elim (stay_cases count home placed) [
  | inl same ↦ subst (λ (q : Placed). Leaves home placed q) (sym (is ∙ same)) (record { rise = λ rise none. rise; size = refl; others = λ i apart. refl })
  | inr put ↦ subst (λ (q : Placed). Leaves home placed q) (sym (is ∙ put)) (put_leaves home count placed)
]

-- ---- all of them

pub record IsLeft (wants : List (Option Want)) (parents : List Parent) (homes : List Home) (k : ℕ) (rooms : List ℕ) (now : Placing) : Type 0 where
  pub left : stay_all wants (drop k homes) (placed_of now) ≡ stay_all wants homes (record { rooms = rooms; homes = [] })
  pub least : HasLeast parents now

-- what was placed so far, and that the homes from k on complete it
pub record IsStaying (files directories : BTreeMap ℕ ℕ) (rooms : List ℕ) (homes : List Home) (k : ℕ) (now : Placing) : Type 0 where
  pub rise : Rise (homes_in now.homes.entries)
  pub size : length now.rooms.items ≡ length rooms
  pub below : (d : Home) → k < length homes → (i : ℕ) → is_some (home_of (homes_in now.homes.entries) i) ≡ true → i < (get_or homes k d).inode
  pub each : (wants : List (Option Want)) (parents : List Parent) → Knows wants parents files directories → IsLeft wants parents homes k rooms now

pub stay_begins : (files directories : BTreeMap ℕ ℕ) (rooms : List ℕ) (homes : List Home) (start : Placing) → start.rooms.items ≡ rooms → start.homes.entries ≡ [] → start.least.entries ≡ []
    → IsStaying files directories rooms homes 0 start
stay_begins files directories rooms homes start same none empty =
    let no_homes : homes_in start.homes.entries ≡ [] = ap homes_in none in
    record {
      rise = subst Rise (sym no_homes) tt;
      size = ap length same;
      below = λ d some i found. absurd (false≢true (sym (ap (λ hs. is_some (home_of hs i)) no_homes) ∙ found));
      each = λ wants parents knows. record {
        left = ap (stay_all wants homes) (λ i. record { rooms = same i; homes = no_homes i });
        least = λ d. ap (lookup (is_at (nat_cmp d))) empty ∙ sym (ap (find (λ (home : Home). are_same (directory_of parents home.inode) (Some d))) no_homes);
      };
    }

pub stay_none : (files directories : BTreeMap ℕ ℕ) (rooms : List ℕ) (homes : List Home) (k : ℕ) (now : Placing) (home d : Home) → IsStaying files directories rooms homes k now → k < length homes → home ≡ get_or homes k d
    → home_of (homes_in now.homes.entries) home.inode ≡ None
stay_none files directories rooms homes k now home d staying within at =
    none_of (home_of (homes_in now.homes.entries) home.inode)
    (λ found. let low = staying.below d within home.inode found in let e : home.inode ≡ (get_or homes k d).inode = ap (λ (h : Home). h.inode) at in absurd (omega (arith, low, e)))

stay_is : (files : BTreeMap ℕ ℕ) (wants : List (Option Want)) (home : Home) (placed : Placed) → ((i : ℕ) → blocks_at files.entries i ≡ count_of wants i) → stay wants home placed ≡ stay_with (blocks_at files.entries home.inode) home placed
unfolding stay
stay_is files wants home placed counts = ap (λ (c : ℕ). stay_with c home placed) (sym (counts home.inode))

pub knows_counts : (wants : List (Option Want)) (parents : List Parent) (files directories : BTreeMap ℕ ℕ) → Knows wants parents files directories → (i : ℕ) → blocks_at files.entries i ≡ count_of wants i
knows_counts wants parents files directories knows i = ap (λ es. blocks_at es i) knows.by_file ∙ blocks_same wants i

pub stay_step : (files directories : BTreeMap ℕ ℕ) (rooms : List ℕ) (homes : List Home) (k : ℕ) (old new : Placing) (home d : Home) (directory : Option ℕ) → Ascend homes → IsStaying files directories rooms homes k old
    → k < length homes → home ≡ get_or homes k d → directory ≡ get nat_cmp directories home.inode
    → placed_of new ≡ stay_with (blocks_at files.entries home.inode) home (placed_of old) → KeepsLeast directory home.inode old new
    → IsStaying files directories rooms homes (k + 1) new
stay_step files directories rooms homes k old new home d directory ascend staying within at inside placed keeps =
    let none = stay_none files directories rooms homes k old home d staying within at in
    let leaves : Leaves home (placed_of old) (placed_of new) = stay_leaves home (blocks_at files.entries home.inode) (placed_of old) (placed_of new) placed in
    record {
      rise = leaves.rise staying.rise none;
      size = leaves.size ∙ staying.size;
      below = λ e more i found.
          let next : (get_or homes k e).inode < (get_or homes (k + 1) e).inode = rises k (k + 1) homes e ascend (omega arith) more in
          elim (cases_eq home.inode i) [
            | inl own ↦
                let here : home.inode ≡ (get_or homes k d).inode = ap (λ (h : Home). h.inode) at in
                let far : (get_or homes k d).inode < (get_or homes (k + 1) d).inode = rises k (k + 1) homes d ascend (omega arith) more in
                let same : (get_or homes (k + 1) d).inode ≡ (get_or homes (k + 1) e).inode = ap (λ (h : Home). h.inode) (get_or_any homes (k + 1) d e more) in
                omega (arith, own, here, far, same)
            | inr other ↦
                let low = staying.below e within i (ap is_some (sym (leaves.others i other)) ∙ found) in
                omega (arith, low, next)
          ];
      each = λ wants parents knows.
          let so_far = staying.each wants parents knows in
          record {
            left = sym (ap (λ hs. stay_all wants hs (placed_of old)) (drop_more homes k d within)
                ∙ ap (λ (h : Home). stay_all wants (drop (k + 1) homes) (stay wants h (placed_of old))) (sym at)
                ∙ ap (stay_all wants (drop (k + 1) homes)) (stay_is files wants home (placed_of old) (knows_counts wants parents files directories knows) ∙ sym placed))
                ∙ so_far.left;
            least = keeps parents (inside ∙ knows.by_directory home.inode) so_far.least;
          };
    }
  where
    get_or_any : (hs : List Home) (n : ℕ) (x y : Home) → n < length hs → get_or hs n x ≡ get_or hs n y
    get_or_any [] n x y low = absurd (omega (arith, low))
    get_or_any (h ∷ hs) zero x y low = refl
    get_or_any (h ∷ hs) (suc n) x y low = get_or_any hs n x y (omega (arith, low))

pub stay_ends : (files directories : BTreeMap ℕ ℕ) (rooms : List ℕ) (homes : List Home) (k : ℕ) (now : Placing) → length homes ≤ k → IsStaying files directories rooms homes k now
    → AreStayed files directories rooms homes now
stay_ends files directories rooms homes k now past staying wants parents knows =
    let so_far = staying.each wants parents knows in
    record {
      placed = sym so_far.left ∙ ap (λ hs. stay_all wants hs (placed_of now)) (nothing_left homes k past);
      least = so_far.least;
    }
  where
    nothing_left : (hs : List Home) (n : ℕ) → length hs ≤ n → drop n hs ≡ []
    nothing_left [] zero low = refl
    nothing_left [] (suc n) low = refl
    nothing_left (h ∷ hs) zero low = absurd (omega (arith, low))
    nothing_left (h ∷ hs) (suc n) low = nothing_left hs n (omega (arith, low))
