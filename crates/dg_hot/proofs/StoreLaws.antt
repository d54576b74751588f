-- Copies of blocks on a store.
use Rattle.std.proofs.Common.{◌≡◌, ◌≢◌, ◌<◌, ◌≤◌, ◌+◌, ◌*◌, ◌&&◌, ◌==◌, ℕ, zero, suc, true, cond, not, List, [], ◌∷◌, length, get_or, take, refl, sym, ◌∙◌, ap, subst, arith}
use Rattle.std.specs.Prelude.{◌↔◌}
use Rattle.std.specs.List.{Contains}
use Rattle.std.proofs.lemmas.Bool.{and_parts, false≢true}
use Rattle.std.proofs.lemmas.List.{length-take-le, take_more}
use Rattle.dg_io.specs.declared.outside.Rack.{Ghosts}
use Rattle.dg_model.specs.Members.{is_good, is_lost}
use Rattle.dg_model.specs.Moves.{all_done, copy_to, done, give_up}
use Rattle.dg_model.specs.Sites.{all_lost, has_site, is_gone}
use Rattle.dg_model.specs.States.{has_lost}
use Rattle.dg_model.specs.Tables.{IsTable, Table, count_on, sites_in, used_in}
use Rattle.dg_model.specs.declared.members.MemberState.{MemberState}
use Rattle.dg_model.specs.declared.shapes.Shape.{Shape}
use Rattle.dg_model.specs.declared.sites.Site.{Site}
use Rattle.dg_model.proofs.CopyLaws.{copies_here, copies_other, copies_sized, on_copy}
use Rattle.dg_model.proofs.MemberLaws.{has_lost_at, has_lost_from}
use Rattle.dg_model.proofs.NumberLists.{in_take}
use Rattle.dg_model.proofs.SiteLists.{one_if, same_test}
use Rattle.dg_model.proofs.TableLaws.{all_done_sized}
use Rattle.dg_store.specs.Answers.{IsPlaced}
use Rattle.dg_store.specs.ReadLaws.{keeps_both, keeps_none, told_all}
use Rattle.dg_store.specs.Stores.{IsSound}
use Rattle.dg_store.specs.declared.store.PlaceAnswer.{PlaceAnswer}
use Rattle.dg_store.specs.declared.store.PlaceAnswer.TheVariants.{Full, Gone, Lost, Placed}
use Rattle.dg_store.specs.declared.store.Store.{Store}
use Rattle.dg_hot.specs.Copied.{AreApart, CanCopy, CanGiveUp, copies_to, give_ups_on}
use Rattle.dg_hot.specs.Spreads.{Moved}
use Rattle.dg_hot.proofs.CopyLaws.{copied_is, copies_more, copies_used, gives_more, gives_other, length_copy}
use Rattle.dg_hot.proofs.ApartLaws.{apart_at, numbers_apart}

module _ {R : Type 0} (rack : Ghosts R) where
  pub moved_none : (a : Store R) → IsSound rack a → Moved rack a a
  moved_none a sound = record { leaves = record { sound = sound; keeps = keeps_none rack a }; written = λ c. refl; stands = λ told V st. st }

  pub moved_both : (a b c : Store R) → Moved rack a b → Moved rack b c → Moved rack a c
  moved_both a b c first second = record {
    leaves = record { sound = second.leaves.sound; keeps = keeps_both rack a b c first.leaves.keeps second.leaves.keeps };
    written = λ d. second.written d ∙ first.written d;
    stands = λ told V st. second.stands told V (first.stands (told_all rack b c second.leaves.keeps.shape second.leaves.keeps.stays told) V st);
  }

-- ---- boundaries that are lost

first_lost : (members : ℕ → MemberState) (table : Table) (b : ℕ) (sites : List Site) → IsTable table → sites_in table b ≡ sites → has_site sites ≡ true
    → all_lost members sites ≡ true → has_lost table.shape members ≡ true
first_lost members table b [] is at some lost = absurd (false≢true some)
first_lost members table b (site ∷ sites) is at some lost =
    let within = is.boundaries b site.boundary site.slot (subst (λ (xs : List Site). Contains xs site) (sym at) (0, omega arith, refl)) in
    has_lost_at table.shape members site.boundary within (and_parts (is_lost members site.boundary) (all_lost members sites) lost).0

-- where a block is gone, one is lost
pub gone_lost : (table : Table) (members : ℕ → MemberState) (b : ℕ) → IsTable table → is_gone table members b ≡ true → has_lost table.shape members ≡ true
gone_lost table members b is gone =
    let parts = and_parts (has_site (sites_in table b)) (all_lost members (sites_in table b)) gone in
    first_lost members table b (sites_in table b) is refl parts.0 parts.1

-- ---- blocks that can be copied, and give their copies up

written_length : (sites : List Site) → has_site sites ≡ true → 0 < length sites
written_length [] some = absurd (false≢true some)
written_length (x ∷ sites) some = omega arith

module _ (table : Table) (s : ℕ) (is : IsTable table) where
  pub can_take : (bs : List ℕ) (k : ℕ) → CanCopy table s bs → CanCopy table s (take k bs)
  can_take bs k can = record {
    within = λ b there. can.within b (in_take k bs b there);
    written = λ b there. can.written b (in_take k bs b there);
    none = λ b there. can.none b (in_take k bs b there);
  }

  row_of : (bs : List ℕ) → CanCopy table s bs → (b : ℕ) → Contains bs b → b < length table.rows
  row_of bs can b there = let size = is.size in let low = can.within b there in omega (arith, size, low)

  pub can_give_up : (bs : List ℕ) → AreApart bs → CanCopy table s bs → CanGiveUp (all_done table (copies_to s bs)) s bs
  can_give_up bs apart can = record {
    within = λ b there.
        let same = ap (λ (sh : Shape). sh.n) (copies_sized s table bs).shape in
        let low = can.within b there in
        omega (arith, same, low);
    one = λ b there.
        let has = copies_here s table bs b (numbers_apart bs apart) there (row_of bs can b there) in
        omega (arith, on_copy s (sites_in table b) (sites_in (all_done table (copies_to s bs)) b) s has, here s);
    other = λ b there.
        let has = copies_here s table bs b (numbers_apart bs apart) there (row_of bs can b there) in
        omega (
          arith,
          length_copy s (sites_in table b) (sites_in (all_done table (copies_to s bs)) b) has,
          written_length (sites_in table b) (can.written b there),
        );
  }
    where
      here : (t : ℕ) → ◌≡◌ {A = ℕ} (cond (t == t) 1 0) 1
      here t = one_if (t == t) (same_test t t refl)

  -- the block at a place, once those before it were copied
  module _ (bs : List ℕ) (k : ℕ) (apart : AreApart bs) (can : CanCopy table s bs) (low : k < length bs) where
    abbrev mid : Table
    mid = all_done table (copies_to s (take k bs))

    there_at : Contains bs (get_or bs k 0)
    there_at = (k, low, other_default bs k low)
      where
        other_default : (xs : List ℕ) (j : ℕ) → j < length xs → get_or xs j (get_or xs j 0) ≡ get_or xs j 0
        other_default [] j less = absurd (omega (arith, less))
        other_default (x ∷ xs) zero less = refl
        other_default (x ∷ xs) (suc j) less = other_default xs j (omega (arith, less))

    same_sites : sites_in mid (get_or bs k 0) ≡ sites_in table (get_or bs k 0)
    same_sites = copies_other s table (take k bs) (get_or bs k 0) (apart_at k bs 0 apart low)

    pub next_within : get_or bs k 0 < mid.shape.n
    next_within =
        let same = ap (λ (sh : Shape). sh.n) (copies_sized s table (take k bs)).shape in
        let less = can.within (get_or bs k 0) there_at in
        omega (arith, same, less)

    pub next_written : has_site (sites_in mid (get_or bs k 0)) ≡ true
    next_written = ap has_site same_sites ∙ can.written (get_or bs k 0) there_at

    pub next_none : count_on s (sites_in mid (get_or bs k 0)) ≡ 0
    next_none = ap (count_on s) same_sites ∙ can.none (get_or bs k 0) there_at

    pub next_used : used_in mid s ≡ used_in table s + k
    next_used = omega (
      arith,
      copies_used s table (take k bs) (λ b there. row_of (take k bs) (can_take bs k can) b there),
      length-take-le k bs (omega (arith, low)),
    )

    pub next_done : (new : Table) → new ≡ done mid (copy_to (get_or bs k 0) s) → new ≡ all_done table (copies_to s (take (k + 1) bs))
    next_done new e =
        e ∙ sym (ap (λ (xs : List ℕ). all_done table (copies_to s xs)) (take_more bs k 0 low) ∙ copies_more s table (take k bs) (get_or bs k 0))

-- the block at a place, once those before it gave their copies up
module _ (table : Table) (s : ℕ) (bs : List ℕ) (k : ℕ) (apart : AreApart bs) (can : CanGiveUp table s bs) (low : k < length bs) where
  abbrev left : Table
  left = all_done table (give_ups_on s (take k bs))

  given_at : Contains bs (get_or bs k 0)
  given_at = (k, low, other_default bs k low)
    where
      other_default : (xs : List ℕ) (j : ℕ) → j < length xs → get_or xs j (get_or xs j 0) ≡ get_or xs j 0
      other_default [] j less = absurd (omega (arith, less))
      other_default (x ∷ xs) zero less = refl
      other_default (x ∷ xs) (suc j) less = other_default xs j (omega (arith, less))

  left_sites : sites_in left (get_or bs k 0) ≡ sites_in table (get_or bs k 0)
  left_sites = gives_other s table (take k bs) (get_or bs k 0) (apart_at k bs 0 apart low)

  pub give_within : get_or bs k 0 < left.shape.n
  give_within =
      let same = ap (λ (sh : Shape). sh.n) (all_done_sized (give_ups_on s (take k bs)) table).shape in
      let less = can.within (get_or bs k 0) given_at in
      omega (arith, same, less)

  pub give_one : 0 < count_on s (sites_in left (get_or bs k 0))
  give_one = let same = ap (count_on s) left_sites in let one = can.one (get_or bs k 0) given_at in omega (arith, same, one)

  pub give_other : 1 < length (sites_in left (get_or bs k 0))
  give_other = let same = ap (λ (xs : List Site). length xs) left_sites in let other = can.other (get_or bs k 0) given_at in omega (arith, same, other)

  pub give_done : (new : Table) → new ≡ done left (give_up (get_or bs k 0) s) → new ≡ all_done table (give_ups_on s (take (k + 1) bs))
  give_done new e =
      e ∙ sym (ap (λ (xs : List ℕ). all_done table (give_ups_on s xs)) (take_more bs k 0 low) ∙ gives_more s table (take k bs) (get_or bs k 0))

-- a block that got a site was copied
pub placed_is : (old new : Table) (b s : ℕ) → IsTable new → b < length old.rows → IsPlaced old b s new → new ≡ done old (copy_to b s)
placed_is old new b s is row placed = copied_is old new b s placed.site is row placed.takes.on placed.takes.lowest placed.takes.taken

-- where a block isn't placed, though there is room, a boundary is lost
pub not_placed : (answer : PlaceAnswer) (old : Table) (shape : Shape) (members : ℕ → MemberState) (b s : ℕ) → IsTable old → s < old.shape.b → shape ≡ old.shape
    → used_in old s < old.shape.k → answer ≢ Placed
    → (answer ≡ Full → old.shape.k ≤ used_in old s)
    → (answer ≢ Full → (answer ≡ Gone) ↔ (is_gone old members b ≡ true))
    → (answer ≢ Full → answer ≢ Gone → (answer ≡ Lost s) ↔ (is_lost members s ≡ true))
    → ((t : ℕ) → answer ≡ Lost t → t ≡ s)
    → has_lost shape members ≡ true
not_placed Placed old shape members b s is low same room other full gone lost which = absurd (other refl)
not_placed Full old shape members b s is low same room other full gone lost which = let most = full refl in absurd (omega (arith, room, most))
not_placed Gone old shape members b s is low same room other full gone lost which =
    ap (λ (sh : Shape). has_lost sh members) same ∙ gone_lost old members b is ((gone (λ e. absurd (cc e))).0 refl)
not_placed (Lost t) old shape members b s is low same room other full gone lost which =
    ap (λ (sh : Shape). has_lost sh members) same
    ∙ has_lost_at old.shape members s low ((lost (λ e. absurd (cc e)) (λ e. absurd (cc e))).0 (ap (λ (u : ℕ). Lost u) (which t refl)))

-- the members do what they did
pub lost_on : (new old : Shape) (now was : ℕ → MemberState) → new ≡ old → ((q : ℕ) → now q ≡ was q) → has_lost old was ≡ true → has_lost new now ≡ true
lost_on new old now was same members lost =
    let found = has_lost_from old was lost in
    ap (λ (sh : Shape). has_lost sh now) same
    ∙ has_lost_at old now found.0 found.1
    (ap (λ (m : MemberState). not (is_good m) && not (is_good (now (2 * found.0 + 1)))) (members (2 * found.0))
    ∙ ap (λ (m : MemberState). not (is_good (was (2 * found.0))) && not (is_good m)) (members (2 * found.0 + 1)) ∙ found.2)
