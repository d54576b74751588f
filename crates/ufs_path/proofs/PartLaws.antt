-- Items that are read part after part, the parts end to end.
use Rattle.std.proofs.Common.{◌≡◌, ◌∙◌, ℕ, zero, suc, ◌+◌, ◌-◌, ◌≤◌, Bool, List, [], ◌++◌, Some, Ok, Err, Result, Option, length, drop, refl, sym, ap, subst, arith}
use Rattle.std.specs.Option.{option_map}
use Rattle.std.proofs.lemmas.List.{append_assoc, append-nil}
use Rattle.std.proofs.Math.Seq.{drop-append_seam}
use Rattle.ufs_model.specs.Blocks.{Reading, Volume, known}
use Rattle.ufs_model.specs.Readings.{Grows, ReadsAs, and_then, on_ok}
use Rattle.ufs_model.proofs.ReadingLaws.{reads_known}
use Rattle.ufs_path.proofs.ReadsLaws.{both_read, refused_read, same_read, then_is}

-- `front k` reads the items of the first k parts
pub record AreFronts {A R : Type 0} (front part : ℕ → Reading (Result (List A) R)) : Type 0 where
  pub none : (v : Volume) → known (Ok []) v ≡ front 0 v
  pub more : (k : ℕ) (v : Volume) → and_then (front k) (λ items. and_then (part k) (λ last. known (Ok (items ++ last)))) v ≡ front (suc k) v

pub front_none : {A R : Type 0} {stands : Volume → Type 0} {tells : Type 0} {before after : ℕ → Bool} {front part : ℕ → Reading (Result (List A) R)} → AreFronts front part
    → ReadsAs stands before tells after (front 0) (Some (Ok []))
front_none are = same_read are.none (reads_known (Ok []))

-- one more part
pub front_more : {A R : Type 0} {stands : Volume → Type 0} {tells : Type 0} {before after : ℕ → Bool} {front part : ℕ → Reading (Result (List A) R)} → AreFronts front part → (k : ℕ) (x y : List A)
    → ReadsAs stands before tells after (front k) (Some (Ok x)) → ReadsAs stands before tells after (part k) (Some (Ok y))
    → ReadsAs stands before tells after (front (suc k)) (Some (Ok (x ++ y)))
front_more are k x y one two = same_read (are.more k) (both_read _ x _ one (both_read _ y _ two (reads_known (Ok (x ++ y)))))

-- one part that isn't read
pub front_fails : {A R : Type 0} {stands : Volume → Type 0} {tells : Type 0} {before after : ℕ → Bool} {front part : ℕ → Reading (Result (List A) R)} → AreFronts front part → (k : ℕ) (x : List A) (refusal : Option R) → Grows before after
    → ReadsAs stands before tells after (front k) (Some (Ok x)) → ReadsAs stands before tells after (part k) (option_map Err refusal)
    → ReadsAs stands before tells after (front (suc k)) (option_map Err refusal)
front_fails are k x refusal grows one two = same_read (are.more k) (both_read _ x _ one (refused_read _ refusal grows two))

front_stays : {A R : Type 0} {stands : Volume → Type 0} {tells : Type 0} {before after : ℕ → Bool} {front part : ℕ → Reading (Result (List A) R)} → AreFronts front part → (k d : ℕ) (refusal : Option R) → Grows before after
    → ReadsAs stands before tells after (front k) (option_map Err refusal) → ReadsAs stands before tells after (front (d + k)) (option_map Err refusal)
front_stays {stands = stands} {tells = tells} {before = before} {after = after} {front = front} are k zero refusal grows h =
    subst (λ j. ReadsAs stands before tells after (front j) (option_map Err refusal)) (let e : k ≡ 0 + k = omega arith in e) h
front_stays {stands = stands} {tells = tells} {before = before} {after = after} {front = front} are k (suc d) refusal grows h =
    subst (λ j. ReadsAs stands before tells after (front j) (option_map Err refusal)) (let e : suc (d + k) ≡ suc d + k = omega arith in e)
    (same_read (are.more (d + k)) (refused_read _ refusal grows (front_stays are k d refusal grows h)))

-- where a front isn't read, the whole isn't
pub front_fails_whole : {A R : Type 0} {stands : Volume → Type 0} {tells : Type 0} {before after : ℕ → Bool} {front part : ℕ → Reading (Result (List A) R)} → AreFronts front part → (k count : ℕ) (refusal : Option R) → Grows before after → k ≤ count
    → ReadsAs stands before tells after (front k) (option_map Err refusal) → ReadsAs stands before tells after (front count) (option_map Err refusal)
front_fails_whole {stands = stands} {tells = tells} {before = before} {after = after} {front = front} are k count refusal grows le h =
    subst (λ j. ReadsAs stands before tells after (front j) (option_map Err refusal)) (let e : (count - k) + k ≡ count = omega arith in e)
    (front_stays are k (count - k) refusal grows h)

-- ---- the items of a front are a front of the items

abbrev pub joined : {A R : Type 0} → Result (List A) R → Result (List A) R → Result (List A) R
joined (Ok x) (Ok y) = Ok (x ++ y)
joined (Ok x) (Err e) = Err e
joined (Err e) y = Err e

value_part : {A R : Type 0} (x : List A) (y : Result (List A) R) (v : Volume) → (on_ok y (λ part. known (Ok (x ++ part))) v).value ≡ joined (Ok x) y
value_part x (Ok y) v = refl
value_part x (Err e) v = refl

value_parts : {A R : Type 0} (x : Result (List A) R) (d : Reading (Result (List A) R)) (v : Volume)
    → (on_ok x (λ front. and_then d (λ part. known (Ok (front ++ part)))) v).value ≡ joined x ((d v).value)
value_parts (Ok x) d v = ap (λ c. c.value) (then_is d (λ part. known (Ok (x ++ part))) v) ∙ value_part x ((d v).value) v
value_parts (Err e) d v = refl

pub value_both : {A R : Type 0} (d e : Reading (Result (List A) R)) (v : Volume)
    → (and_then d (λ front. and_then e (λ part. known (Ok (front ++ part)))) v).value ≡ joined ((d v).value) ((e v).value)
value_both d e v = ap (λ c. c.value) (then_is d _ v) ∙ value_parts ((d v).value) e v

pub joined_ok : {A R : Type 0} (x y : Result (List A) R) (items : List A) → Ok items ≡ joined x y → (a : List A) × (b : List A) × (Ok a ≡ x) × (items ≡ a ++ b)
joined_ok (Ok x) (Ok y) items e = (x, y, refl, cc)
joined_ok (Ok x) (Err r) items e = cc
joined_ok (Err r) y items e = cc

begins : {A R : Type 0} {front part : ℕ → Reading (Result (List A) R)} → AreFronts front part → (k d : ℕ) (v : Volume) (some all : List A) → Ok some ≡ (front k v).value → Ok all ≡ (front (d + k) v).value
    → (rest : List A) × (all ≡ some ++ rest)
begins {front = front} are k zero v some all e1 e2 = (
  [],
  let same : Ok all ≡ Ok some = e2 ∙ ap (λ j. (front j v).value) (let z : 0 + k ≡ k = omega arith in z) ∙ sym e1 in
      let equal : all ≡ some = cc in equal ∙ sym (append-nil some),
)
begins {front = front} {part = part} are k (suc d) v some all e1 e2 =
    let one = joined_ok ((front (d + k) v).value) ((part (d + k) v).value) all
    (e2 ∙ ap (λ j. (front j v).value) (let z : suc d + k ≡ suc (d + k) = omega arith in z) ∙ sym (ap (λ c. c.value) (are.more (d + k) v)) ∙ value_both (front (d + k)) (part (d + k)) v) in
    let more = begins are k d v some one.0 e1 one.2 in
    (more.0 ++ one.1, one.3 ∙ ap (λ x. x ++ one.1) more.1 ∙ append_assoc some more.0 one.1)

-- what stands after a front
pub after_front : {A : Type 0} (some all rest : List A) → all ≡ some ++ rest → all ≡ some ++ drop (length some) all
after_front some all rest e = e ∙ ap (λ xs. some ++ xs) (sym (ap (drop (length some)) e ∙ drop-append_seam some rest))

pub rest_is : {A R : Type 0} {front part : ℕ → Reading (Result (List A) R)} → AreFronts front part → (k count : ℕ) (v : Volume) (some all : List A) → k ≤ count → Ok some ≡ (front k v).value → Ok all ≡ (front count v).value
    → all ≡ some ++ drop (length some) all
rest_is {front = front} are k count v some all le e1 e2 =
    let found = begins are k (count - k) v some all e1 (e2 ∙ ap (λ j. (front j v).value) (let e : count ≡ (count - k) + k = omega arith in e)) in
    after_front some all found.0 found.1
