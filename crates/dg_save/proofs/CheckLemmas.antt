-- What makes that a state can be saved, as it is tested part by part.
use Rattle.std.proofs.Common.{◌≡◌, ◌≢◌, ◌+◌, ◌*◌, ◌<◌, ◌≤◌, ◌==◌, ℕ, zero, suc, Bool, true, false, cond, List, [], ◌∷◌, length, get_or, map, take, refl, sym, ◌∙◌, ap, arith, subst, inl, inr}
use Rattle.std.specs.Prelude.{MatchOption, Option, Some, None}
use Rattle.std.specs.List.{AllPairs, Contains}
use Rattle.std.proofs.lemmas.Bool.{cases_eq, cases_lt}
use Rattle.std.proofs.lemmas.Bool.Decides.{Decides-eqb}
use Rattle.std.proofs.lemmas.List.{get_or-map, get_or_default, length-map, take_all, take_more}
use Rattle.std.proofs.lemmas.List.Quantifiers.{all_pairs_push}
use Rattle.dg_model.specs.Homes.{Ascend, home_of}
use Rattle.dg_model.specs.Saves.{CanBeSaved, IsBody, SavedState}
use Rattle.dg_model.specs.Tables.{IsTable}
use Rattle.dg_model.specs.declared.homes.Home.{Home}
use Rattle.dg_model.specs.declared.phases.Phase.{Phase}
use Rattle.dg_model.specs.declared.phases.Phase.TheVariants.{Settled}
use Rattle.dg_model.specs.declared.shapes.Shape.{Shape}
use Rattle.dg_model.proofs.SiteLists.{apart_test, same_test}
use Rattle.dg_save.specs.Checks.{AreCopies, AreFiles, IsElsewhere}
use Rattle.dg_save.specs.Decodes.{IsDecoded, SpellsState}
use Rattle.dg_save.specs.Labels.{IsFormat}
use Rattle.dg_save.specs.Parts.{IsSpelled}
use Rattle.dg_save.specs.States.{state_of}
use Rattle.dg_save.specs.declared.states.SavedState.{SavedState as SavedParts}
use Rattle.dg_save.proofs.BodyLemmas.{states_once}
use Rattle.dg_save.proofs.FormLemmas.{inodes_differ, parts_of_form}

-- ---- copies

pub elsewhere_more : (homes copies : List Home) (i : ℕ) (e : Home) → i < length copies → ((k : ℕ) (d : Home) → k < i → IsElsewhere homes (get_or copies k d))
    → IsElsewhere homes (get_or copies i e) → (k : ℕ) (d : Home) → k < i + 1 → IsElsewhere homes (get_or copies k d)
elsewhere_more homes copies i e low before here k d within = elim (cases_lt k i) [
  | inl earlier ↦ before k d earlier
  | inr last ↦
      let at : i ≡ k = omega arith in
      subst (IsElsewhere homes) (get_or_default copies i e d low ∙ ap (λ (n : ℕ). get_or copies n d) at) here
]

rest_ascend : (h : Home) (hs : List Home) → Ascend (h ∷ hs) → Ascend hs
rest_ascend h hs rise k low =
    let inodes = map (λ (x : Home). x.inode) hs in
    let e : suc k + 1 ≡ suc (k + 1) = omega arith in
    subst (λ (n : ℕ). get_or inodes k 0 < get_or (h.inode ∷ inodes) n 0) e (rise (suc k) (omega (arith, low)))

-- the boundary of a listed home is the one that its inode has
own_home : (homes : List Home) (k : ℕ) (d : Home) → Ascend homes → k < length homes → home_of homes (get_or homes k d).inode ≡ Some (get_or homes k d).boundary
own_home [] k d rise low = absurd (omega (arith, low))
own_home (h ∷ hs) zero d rise low = ap (λ b. cond b (Some h.boundary) (home_of hs h.inode)) (same_test h.inode h.inode refl)
own_home (h ∷ hs) (suc k) d rise low =
    let short : k < length hs = omega (arith, low) in
    let apart : (h.inode == (get_or hs k d).inode) ≡ false =
    apart_test h.inode (get_or hs k d).inode
    (λ e. inodes_differ (h ∷ hs) rise 0 (suc k) 0 (omega arith) (omega (arith, short, length-map hs (λ (x : Home). x.inode)))
    (e ∙ sym (get_or-map (λ (x : Home). x.inode) hs k d 0 short))) in
    ap (λ b. cond b (Some h.boundary) (home_of hs (get_or hs k d).inode)) apart ∙ own_home hs k d (rest_ascend h hs rise) short

-- an inode's home is listed
listed : (homes : List Home) (i t : ℕ) → home_of homes i ≡ Some t → (k : ℕ) × (k < length homes) × ((d : Home) → ((get_or homes k d).inode ≡ i) × ((get_or homes k d).boundary ≡ t))
listed [] i t e = cc e
listed (h ∷ hs) i t e = elim (cases_eq h.inode i) [
  | inl same ↦
      let here = sym (ap (λ b. cond b (Some h.boundary) (home_of hs i)) (same_test h.inode i same)) ∙ e in
      (0, omega arith, λ d. (same, cc here))
  | inr other ↦
      let rest = listed hs i t (sym (ap (λ b. cond b (Some h.boundary) (home_of hs i)) (apart_test h.inode i other)) ∙ e) in
      (suc rest.0, omega (arith, rest.1), λ d. rest.2 d)
]

-- where the array isn't settled, there are none
pub none_unsettled : (phase : Phase) (copies homes : List Home) (test : Bool) → (phase ≡ Settled → ⊥) → test ≡ (length copies == 0)
    → (test ≡ true → AreCopies phase copies homes) × (AreCopies phase copies homes → test ≡ true)
none_unsettled phase copies homes test off is = (
  λ e.
      let none : length copies ≡ 0 = (Decides-eqb (length copies) 0).0 (sym is ∙ e) in
      record { settled = λ some. absurd (omega (arith, none, some)); elsewhere = λ k d low. absurd (omega (arith, none, low)) },
  λ are. elim (cases_eq (length copies) 0) [
    | inl none ↦ is ∙ (Decides-eqb (length copies) 0).1 none
    | inr some ↦ absurd (off (are.settled (omega (arith, some))))
  ],
)

-- ---- recent inodes

pub distinct_more : (xs : List ℕ) (i : ℕ) (e : ℕ) → i < length xs → AllPairs (λ a b. a ≢ b) (take i xs) → (Contains (take i xs) (get_or xs i e) → ⊥)
    → AllPairs (λ a b. a ≢ b) (take (i + 1) xs)
distinct_more xs i e low before new =
    subst (AllPairs (λ a b. a ≢ b)) (sym (take_more xs i e low))
    (all_pairs_push (λ a b. a ≢ b) (take i xs) (get_or xs i e) before (λ k d lk at. new (k, lk, get_or_default (take i xs) k (get_or xs i e) d lk ∙ at)))

pub distinct_all : (xs : List ℕ) (i : ℕ) → length xs ≤ i → AllPairs (λ a b. a ≢ b) (take i xs) → AllPairs (λ a b. a ≢ b) xs
distinct_all xs i all are = subst (AllPairs (λ a b. a ≢ b)) (take_all i xs all) are

-- ---- the whole

pub files_of : (saved : SavedState) → CanBeSaved saved → AreFiles saved
files_of saved can = record {
  few = can.few_homes;
  homes = record { ascend = can.homes.0; within = λ k d low. (can.homes.1 k d low).1 };
  order = record { ascend = can.copies.0; within = λ k d low. (can.copies.1 k d low).1 };
  copies = record {
    settled = can.settled;
    elsewhere = λ k d low.
        let copy = get_or saved.copies k d in
        can.elsewhere copy.inode copy.boundary (own_home saved.copies k d can.copies.0 low);
  };
  recent = record { few = can.few_recent; once = can.once };
}

pub can_from : (shape : Shape) (saved : SavedState) → IsSpelled shape saved → AreFiles saved → IsTable saved.table → CanBeSaved saved
can_from shape saved spelled files table = record {
  members = spelled.members ∙ ap (λ (s : Shape). 2 * s.b) (sym spelled.numbers);
  table = table;
  marks = spelled.marks ∙ ap (λ (s : Shape). s.n) (sym spelled.numbers);
  homes = (files.homes.ascend, λ k d low. ((spelled.homes.each k d low).0, files.homes.within k d low));
  few_homes = files.few;
  copies = (files.order.ascend, λ k d low. ((spelled.copies.each k d low).0, files.order.within k d low));
  settled = files.copies.settled;
  elsewhere = λ i t has.
      let at = listed saved.copies i t has in
      let none : Home = record { inode = 0; boundary = 0 } in
      let home = files.copies.elsewhere at.0 none at.1 in
      (home.0, sym (ap (home_of saved.homes) (at.2 none).0) ∙ home.1, λ e. home.2 (e ∙ sym (at.2 none).1));
  few_recent = files.recent.few;
  recent = spelled.recent.each;
  once = files.recent.once;
}

-- ---- decoding

pub decoded : (format : ℕ) (shape : Shape) (body : List ℕ) (state : SavedParts) (found : Option SavedParts) → IsFormat format → SpellsState format shape body state
    → MatchOption found (CanBeSaved (state_of state) → ⊥) (λ s. (s ≡ state) × CanBeSaved (state_of state)) → IsDecoded format shape body found
decoded format shape body state None which spells none = λ saved is.
    let parts = parts_of_form format shape saved is.numbers is.form in
    let same = states_once format shape (state_of state) saved which spells.parts parts (sym spells.says ∙ is.says) in
    none (subst CanBeSaved (sym same) is.form.can)
decoded format shape body state (Some s) which spells some = subst (λ (x : SavedParts). IsBody format shape body (state_of x)) (sym some.0) (record {
  form = record { can = some.1; formats = which; no_copies = spells.parts.no_copies; no_recent = spells.parts.no_recent };
  numbers = spells.parts.spelled.numbers;
  says = spells.says;
})
