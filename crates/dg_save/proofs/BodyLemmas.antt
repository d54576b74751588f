-- A body is its parts, one after another, and so it spells at most one state.
use Rattle.std.proofs.Common.{◌≡◌, ◌+◌, ◌*◌, ◌++◌, ℕ, zero, suc, Bool, false, cond, List, [], ◌∷◌, length, get_or, refl, sym, ◌∙◌, ap, arith, inl, inr, subst}
use Rattle.std.specs.Prelude.{Err, Result, flat_map}
use Rattle.std.specs.List.{range_with_len, zip}
use Rattle.std.proofs.lemmas.List.{append-nil, append_assoc, nil_from_length}
use Rattle.std.proofs.lemmas.List.Concat.{flat_map-cons, flat_map_single}
use Rattle.dg_model.specs.Saves.{SavedState, block_bytes, body_of, front_of_body, homes_bytes, rest_of_body}
use Rattle.dg_model.specs.declared.homes.Home.{Home}
use Rattle.dg_model.specs.declared.shapes.Shape.{Shape}
use Rattle.dg_model.specs.declared.sites.Site.{Site}
use Rattle.dg_save.specs.Decodes.{HasParts}
use Rattle.dg_save.specs.Labels.{IsFormat}
use Rattle.dg_save.specs.Parts.{AreEach, FitBlocks, FitRest, IsAny, blocks_bytes, bytes_of_block, good_bytes, numbers_bytes, phase_bytes, rest_bytes}
use Rattle.dg_save.specs.declared.readers.Unread.{Unread}
use Rattle.dg_save.specs.declared.readers.Unread.TheVariants.{Malformed}
use Rattle.dg_save.proofs.PartLemmas.{AreOnce, block_lists_once, home_lists_once, lists_once, marks_once, number_lists_once, phases_once}

-- ---- blocks

shifted : (f : ℕ → List ℕ) (a n : ℕ) → flat_map f (range_with_len (a + 1) n) ≡ flat_map (λ b. f (suc b)) (range_with_len a n)
shifted f a zero = refl
shifted f a (suc n) =
    let e : a + 1 ≡ suc a = omega arith in
    flat_map-cons f (a + 1) (range_with_len (a + 1 + 1) n)
    ∙ ap (λ (x : ℕ). f x ++ flat_map f (range_with_len (a + 1 + 1) n)) e
    ∙ ap (λ l. f (suc a) ++ l) (shifted f (a + 1) n)
    ∙ sym (flat_map-cons (λ b. f (suc b)) a (range_with_len (a + 1) n))

blocks_are : (rows : List (List Site)) (marks : List Bool) → length marks ≡ length rows
    → flat_map (λ b. block_bytes (get_or rows b []) (get_or marks b false)) (range_with_len 0 (length rows)) ≡ blocks_bytes (rows, marks)
blocks_are [] [] e = refl
blocks_are [] (m ∷ ms) e = absurd (omega (arith, e))
blocks_are (r ∷ rs) [] e = absurd (omega (arith, e))
blocks_are (r ∷ rs) (m ∷ ms) e =
    let f = λ (b : ℕ). block_bytes (get_or (r ∷ rs) b []) (get_or (m ∷ ms) b false) in
    flat_map-cons f 0 (range_with_len (0 + 1) (length rs))
    ∙ ap (λ l. block_bytes r m ++ l) (shifted f 0 (length rs) ∙ blocks_are rs ms (omega (arith, e)))
    ∙ sym (flat_map-cons bytes_of_block (r, m) (zip rs ms))

-- ---- the parts of a body, from each on

abbrev pub from_rest : ℕ → SavedState → List ℕ
from_rest format saved = rest_bytes format (saved.copies, saved.recent) ++ []

abbrev pub from_homes : ℕ → SavedState → List ℕ
from_homes format saved = homes_bytes saved.homes ++ from_rest format saved

abbrev pub from_blocks : ℕ → SavedState → List ℕ
from_blocks format saved = blocks_bytes (saved.table.rows, saved.pending) ++ from_homes format saved

abbrev pub from_good : ℕ → SavedState → List ℕ
from_good format saved = flat_map good_bytes saved.good ++ from_blocks format saved

join_parts : (a b c d e : List ℕ) → (((a ++ b) ++ c) ++ d) ++ e ≡ a ++ (b ++ (c ++ (d ++ (e ++ []))))
join_parts a b c d e = simp (append_assoc, append-nil)

front_parts : (saved : SavedState) (shape : Shape) → saved.table.shape ≡ shape → length saved.table.rows ≡ shape.n → length saved.pending ≡ shape.n
    → front_of_body saved ≡ ((phase_bytes saved.phase ++ flat_map good_bytes saved.good) ++ blocks_bytes (saved.table.rows, saved.pending)) ++ homes_bytes saved.homes
unfolding front_of_body
front_parts saved shape numbers rows marks =
    let n : saved.table.shape.n ≡ length saved.table.rows = ap (λ (s : Shape). s.n) numbers ∙ sym rows in
    rw (n, blocks_are saved.table.rows saved.pending (marks ∙ sym rows), flat_map_single {A = ℕ} (λ (g : Bool). cond g 0 1) saved.good) refl

rest_parts : (saved : SavedState) → rest_of_body saved ≡ homes_bytes saved.copies ++ numbers_bytes saved.recent
unfolding rest_of_body
rest_parts saved = refl

whole_parts : (format : ℕ) (saved : SavedState) → IsFormat format → body_of format saved ≡ front_of_body saved ++ rest_bytes format (saved.copies, saved.recent)
whole_parts format saved which = elim which [
  | inl one ↦ rw one (sym (append-nil (front_of_body saved)))
  | inr two ↦ rw two (ap (λ l. front_of_body saved ++ l) (rest_parts saved))
]

pub body_parts : (format : ℕ) (shape : Shape) (saved : SavedState) → IsFormat format → HasParts format shape saved
    → body_of format saved ≡ phase_bytes saved.phase ++ from_good format saved
body_parts format shape saved which has =
    whole_parts format saved which
    ∙ ap (λ l. l ++ rest_bytes format (saved.copies, saved.recent)) (front_parts saved shape has.spelled.numbers has.spelled.blocks has.spelled.marks)
    ∙ join_parts (phase_bytes saved.phase) (flat_map good_bytes saved.good) (blocks_bytes (saved.table.rows, saved.pending)) (homes_bytes saved.homes)
    (rest_bytes format (saved.copies, saved.recent))

-- ---- what is left once a part was read

rest_by : (format : ℕ) → IsFormat format → (x y : List Home × List ℕ) (r s : List ℕ) → FitRest format x → FitRest format y
    → rest_bytes format x ++ r ≡ rest_bytes format y ++ s → (x ≡ y) × (r ≡ s)
rest_by format which x y r s fx fy e = elim which [
  | inl one ↦
      let none : r ≡ s = subst (λ (f : ℕ). rest_bytes f x ++ r ≡ rest_bytes f y ++ s) one e in (
        ap (λ (l : List Home). (l, x.1)) (fx.no_copies one ∙ sym (fy.no_copies one)) ∙ ap (λ (l : List ℕ). (y.0, l)) (fx.no_recent one ∙ sym (fy.no_recent one)),
        none,
      )
  | inr two ↦
      let both : (homes_bytes x.0 ++ numbers_bytes x.1) ++ r ≡ (homes_bytes y.0 ++ numbers_bytes y.1) ++ s =
      subst (λ (f : ℕ). rest_bytes f x ++ r ≡ rest_bytes f y ++ s) two e in
      let copies = home_lists_once.once x.0 y.0 (numbers_bytes x.1 ++ r) (numbers_bytes y.1 ++ s) fx.copies fy.copies
      (sym (append_assoc (homes_bytes x.0) (numbers_bytes x.1) r) ∙ both ∙ append_assoc (homes_bytes y.0) (numbers_bytes y.1) s) in
      let recent = number_lists_once.once x.1 y.1 r s fx.recent fy.recent copies.1 in
      (ap (λ (l : List Home). (l, x.1)) copies.0 ∙ ap (λ (l : List ℕ). (y.0, l)) recent.0, recent.1)
]

pub rest_once : (format : ℕ) → IsFormat format → AreOnce (FitRest format) (rest_bytes format)
rest_once format which = record { once = λ x y r s fx fy e. rest_by format which x y r s fx fy e }

pub good_of : (format : ℕ) (shape : Shape) (saved : SavedState) → HasParts format shape saved → AreEach IsAny (2 * shape.b) saved.good
good_of format shape saved has = record { many = has.spelled.members; each = λ k d low. tt }

pub blocks_of : (format : ℕ) (shape : Shape) (saved : SavedState) → HasParts format shape saved → FitBlocks shape.n (saved.table.rows, saved.pending)
blocks_of format shape saved has = record { lists = has.spelled.blocks; marks = has.spelled.marks; sites = has.spelled.sites }

pub rest_of : (format : ℕ) (shape : Shape) (saved : SavedState) → HasParts format shape saved → FitRest format (saved.copies, saved.recent)
rest_of format shape saved has = record { copies = has.spelled.copies; recent = has.spelled.recent; no_copies = has.no_copies; no_recent = has.no_recent }

-- ---- a call's refusal

pub was_malformed : {R : Type 0} (r : Result R Unread) (y e : Unread) → r ≡ Err y → y ≡ e → r ≡ Err Malformed → e ≡ Malformed
was_malformed r y e is same m = sym same ∙ cc (is, m)

-- ---- one state

same_state : (a b : SavedState) → a.phase ≡ b.phase → a.good ≡ b.good → a.table.shape ≡ b.table.shape → a.table.rows ≡ b.table.rows → a.pending ≡ b.pending
    → a.homes ≡ b.homes → a.copies ≡ b.copies → a.recent ≡ b.recent → a ≡ b
same_state a b e1 e2 e3 e4 e5 e6 e7 e8 = rw (← e1, ← e2, ← e3, ← e4, ← e5, ← e6, ← e7, ← e8) refl

pub states_once : (format : ℕ) (shape : Shape) (a b : SavedState) → IsFormat format → HasParts format shape a → HasParts format shape b
    → body_of format a ≡ body_of format b → a ≡ b
states_once format shape a b which ha hb e =
    let s0 = phases_once.once a.phase b.phase (from_good format a) (from_good format b) tt tt
    (sym (body_parts format shape a which ha) ∙ e ∙ body_parts format shape b which hb) in
    let s1 = (lists_once marks_once (2 * shape.b)).once a.good b.good (from_blocks format a) (from_blocks format b)
    (good_of format shape a ha) (good_of format shape b hb) s0.1 in
    let s2 = (block_lists_once shape.n).once (a.table.rows, a.pending) (b.table.rows, b.pending) (from_homes format a) (from_homes format b)
    (blocks_of format shape a ha) (blocks_of format shape b hb) s1.1 in
    let s3 = home_lists_once.once a.homes b.homes (from_rest format a) (from_rest format b) ha.spelled.homes hb.spelled.homes s2.1 in
    let s4 = (rest_once format which).once (a.copies, a.recent) (b.copies, b.recent) [] [] (rest_of format shape a ha) (rest_of format shape b hb) s3.1 in
    same_state a b s0.0 s1.0 (ha.spelled.numbers ∙ sym hb.spelled.numbers)
    (ap (λ (p : List (List Site) × List Bool). p.0) s2.0) (ap (λ (p : List (List Site) × List Bool). p.1) s2.0) s3.0
    (ap (λ (p : List Home × List ℕ). p.0) s4.0) (ap (λ (p : List Home × List ℕ). p.1) s4.0)

pub parts_join : (format : ℕ) (shape : Shape) (saved : SavedState) (body r1 r2 r3 r4 r5 : List ℕ) → IsFormat format → HasParts format shape saved
    → body ≡ phase_bytes saved.phase ++ r1 → r1 ≡ flat_map good_bytes saved.good ++ r2 → r2 ≡ blocks_bytes (saved.table.rows, saved.pending) ++ r3
    → r3 ≡ homes_bytes saved.homes ++ r4 → r4 ≡ rest_bytes format (saved.copies, saved.recent) ++ r5 → length r5 ≡ 0 → body ≡ body_of format saved
parts_join format shape saved body r1 r2 r3 r4 r5 which has e0 e1 e2 e3 e4 e5 =
    e0 ∙ ap (λ l. phase_bytes saved.phase ++ l)
    (e1 ∙ ap (λ l. flat_map good_bytes saved.good ++ l)
    (e2 ∙ ap (λ l. blocks_bytes (saved.table.rows, saved.pending) ++ l)
    (e3 ∙ ap (λ l. homes_bytes saved.homes ++ l)
    (e4 ∙ ap (λ l. rest_bytes format (saved.copies, saved.recent) ++ l) (nil_from_length r5 e5)))))
    ∙ sym (body_parts format shape saved which has)
