-- Bytes in which a label, or a body, was put.
use Rattle.std.proofs.Common.{◌≡◌, ◌∙◌, ◌≤◌, ◌+◌, ◌-◌, ◌++◌, ℕ, List, length, take, drop, refl, sym, ap, arith, append-nil, append_assoc, length-append, length-drop, length-take}
use Rattle.std.specs.Prelude.{replicate, slice_range}
use Rattle.std.proofs.lemmas.List.{drop-drop, drop-take, drop_at, length-replicate, take-take, take_all, take_at}
use Rattle.dg_io.specs.Told.{Extended, KeepsFront, Patched, patch}
use Rattle.dg_model.specs.Saves.{HasBody, Label, body_place, label_bytes}
use Rattle.dg_model.specs.declared.shapes.Shape.{Shape}

-- ---- how long they are

pub label_long : (label : Label) → length (label_bytes label) ≡ 512
unfolding label_bytes
label_long label = refl

pub patched_long : (place : ℕ) (piece before after : List ℕ) → Patched place piece before after → place + length piece ≤ length before → length after ≡ length before
patched_long place piece before after is fits =
    ap length is
    ∙ omega (
      arith,
      length-append (take place before ++ piece) (drop (place + length piece) before),
      length-append (take place before) piece,
      length-take place before,
      length-drop (place + length piece) before,
    )

pub extended_long : (n : ℕ) (before after : List ℕ) → Extended n before after → length before ≤ n → length after ≡ n
extended_long n before after is fits =
    ap length is ∙ omega (arith, length-append before (replicate (n - length before) 0), length-replicate {A = ℕ} (n - length before) 0, fits)

pub extended_none : (n : ℕ) (all : List ℕ) → length all ≡ n → Extended n all all
extended_none n all size =
    let none : n - length all ≡ 0 = omega (arith, size) in
    sym (append-nil all) ∙ ap (λ (k : ℕ). all ++ replicate k 0) (sym none)

-- ---- at the front

pub front_there : (piece all : List ℕ) → length piece ≡ 512 → take 512 (patch all 0 piece) ≡ piece
front_there piece all size = ap (take 512) (front_parts piece all) ∙ take_at piece (drop (0 + length piece) all) 512 size
  where
    front_parts : (piece all : List ℕ) → patch all 0 piece ≡ piece ++ drop (0 + length piece) all
    front_parts piece all = refl

-- what stands behind it stays
pub behind_stays : (piece all : List ℕ) (from to : ℕ) → length piece ≡ 512 → 512 ≤ from → slice_range (patch all 0 piece) from to ≡ slice_range all from to
behind_stays piece all from to size behind = ap (take (to - from)) dropped
  where
    here : from ≡ length piece + (from - length piece)
    here = omega (arith, size, behind)

    dropped : drop from (piece ++ drop (0 + length piece) all) ≡ drop from all
    dropped =
        ap (λ (k : ℕ). drop k (piece ++ drop (0 + length piece) all)) here
        ∙ sym (drop-drop (from - length piece) (length piece) (piece ++ drop (0 + length piece) all))
        ∙ ap (drop (from - length piece)) (drop_at piece (drop (0 + length piece) all) (length piece) refl)
        ∙ drop-drop (from - length piece) (0 + length piece) all
        ∙ ap (λ (k : ℕ). drop k all) (omega (arith, size, behind))

-- ---- at its place

pub body_there : (shape : Shape) (body all after : List ℕ) → Patched (body_place shape) body all after → body_place shape + length body ≤ length all → HasBody after shape body
body_there shape body all after is fits =
    ap (λ (xs : List ℕ). slice_range xs place (place + length body)) is
    ∙ ap (λ (xs : List ℕ). take ((place + length body) - place) xs) dropped
    ∙ take_at body (drop (place + length body) all) ((place + length body) - place) (omega arith)
  where
    place : ℕ
    place = body_place shape

    dropped : drop place (patch all place body) ≡ body ++ drop (place + length body) all
    dropped =
        ap (drop place) (append_assoc (take place all) body (drop (place + length body) all))
        ∙ drop_at (take place all) (body ++ drop (place + length body) all) place (length-take place all ∙ omega (arith, fits))

pub body_stays : (shape : Shape) (body piece all after : List ℕ) → length piece ≡ 512 → Patched 0 piece all after → HasBody all shape body → HasBody after shape body
body_stays shape body piece all after size is had =
    ap (λ (xs : List ℕ). slice_range xs (body_place shape) (body_place shape + length body)) is
    ∙ behind_stays piece all (body_place shape) (body_place shape + length body) size (omega arith)
    ∙ had

-- ---- what changes in front of a place, and what behind the first page

module _ (place : ℕ) where
  -- where nothing changed in front of a place, the slots and the first page are as they were
  pub front_slots : (x y : List ℕ) → 512 ≤ place → take place y ≡ take place x → slice_range y 512 place ≡ slice_range x 512 place
  front_slots x y low same = sym (of_front y) ∙ ap (drop 512) same ∙ of_front x
    where
      of_front : (z : List ℕ) → drop 512 (take place z) ≡ slice_range z 512 place
      of_front z = ap (λ (n : ℕ). drop 512 (take n z)) (omega (arith, low)) ∙ drop-take 512 (place - 512) z

  pub front_page : (x y : List ℕ) → 512 ≤ place → take place y ≡ take place x → take 512 y ≡ take 512 x
  front_page x y low same = sym (take-take 512 place y low) ∙ ap (take 512) same ∙ take-take 512 place x low

  -- so it is where a member was made longer, or something was put there
  pub front_longer : (x y : List ℕ) → place ≤ length x → KeepsFront x y → take place y ≡ take place x
  front_longer x y long keeps = sym (take-take place (length x) y long) ∙ ap (take place) keeps

  pub front_patched : (piece x y : List ℕ) → place ≤ length x → Patched place piece x y → take place y ≡ take place x
  front_patched piece x y long is =
      ap (take place) (is ∙ append_assoc (take place x) piece (drop (place + length piece) x))
      ∙ take_at (take place x) (piece ++ drop (place + length piece) x) place (length-take place x ∙ omega (arith, long))

  -- where nothing changed behind the first page, the slots are as they were
  pub behind_slots : (x y : List ℕ) → drop 512 y ≡ drop 512 x → slice_range y 512 place ≡ slice_range x 512 place
  behind_slots x y same = ap (take (place - 512)) same

pub extended_front : (n : ℕ) (x y : List ℕ) → Extended n x y → KeepsFront x y
extended_front n x y is = ap (take (length x)) is ∙ take_at x (replicate (n - length x) 0) (length x) refl

pub same_front : (x y : List ℕ) → y ≡ x → KeepsFront x y
same_front x y same = ap (take (length x)) same ∙ take_all (length x) x (omega arith)

-- a body behind it, too
pub behind_body : (shape : Shape) (body x y : List ℕ) → drop 512 y ≡ drop 512 x → HasBody x shape body → HasBody y shape body
behind_body shape body x y same had =
    ap (take ((body_place shape + length body) - body_place shape)) (behind y ∙ ap (drop (body_place shape - 512)) same ∙ sym (behind x)) ∙ had
  where
    behind : (z : List ℕ) → drop (body_place shape) z ≡ drop (body_place shape - 512) (drop 512 z)
    behind z = ap (λ (k : ℕ). drop k z) (omega arith) ∙ sym (drop-drop (body_place shape - 512) 512 z)

-- a label in front leaves what is behind it
pub behind_label : (page x y : List ℕ) → length page ≡ 512 → Patched 0 page x y → drop 512 y ≡ drop 512 x
behind_label page x y size is =
    let end : 0 + length page ≡ 512 = omega (arith, size) in
    ap (drop 512) is ∙ drop_at page (drop (0 + length page) x) 512 size ∙ ap (λ (k : ℕ). drop k x) end

pub label_there : (page x y : List ℕ) → length page ≡ 512 → Patched 0 page x y → take 512 y ≡ page
label_there page x y size is = ap (take 512) is ∙ front_there page x size
