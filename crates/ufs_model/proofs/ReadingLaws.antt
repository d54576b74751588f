-- The reading rule, one reader after another. For the crates that read a volume.
use Rattle.std.proofs.Common.{◌≡◌, ◌∙◌, ℕ, List, [], ◌∷◌, ◌++◌, Bool, true, false, inl, inr, Option, Some, None, Result, Ok, Err, refl, sym, subst}
use Rattle.std.specs.List.{list_any}
use Rattle.std.specs.Option.{option_map}
use Rattle.std.proofs.lemmas.List.Folds.{list_any-append}
use Rattle.std.proofs.lemmas.Bool.{or_cases, or_left, or_right}
use Rattle.ufs_model.specs.Blocks.{Volume, Consulted, Reading, known, bind}
use Rattle.ufs_model.specs.Readings.{MeetsRule, ReadsAs, Grows, Continues, on_ok, and_then, answered}

-- ---- consulted blocks

any_grows : (before after : ℕ → Bool) (needs : List ℕ) → Grows before after → list_any before needs ≡ true → list_any after needs ≡ true
any_grows before after [] grows h = h
any_grows before after (b ∷ needs) grows h = elim (or_cases (before b) (list_any before needs) h) [
  | inl here ↦ or_left (after b) (list_any after needs) (grows b here)
  | inr rest ↦ or_right (after b) (list_any after needs) (any_grows before after needs grows rest)
]

any_left : (test : ℕ → Bool) (xs ys : List ℕ) → list_any test xs ≡ true → list_any test (xs ++ ys) ≡ true
any_left test xs ys h = list_any-append test xs ys ∙ or_left (list_any test xs) (list_any test ys) h

any_right : (test : ℕ → Bool) (xs ys : List ℕ) → list_any test ys ≡ true → list_any test (xs ++ ys) ≡ true
any_right test xs ys h = list_any-append test xs ys ∙ or_right (list_any test xs) (list_any test ys) h

-- ---- the rule on one volume

-- an answer, and then what follows from it
rule_then : {A B : Type 0} {before now after : ℕ → Bool} (d : Consulted A) (f : Consulted B) (r : Option B) → Grows before now
    → (list_any before d.needs ≡ true → true ≡ false) → MeetsRule now after f r
    → MeetsRule before after (record { value = f.value; needs = d.needs ++ f.needs }) r
rule_then {after = after} d f None grows none two = record { unavailable = λ h. refl; answer = tt; only = any_right after (d.needs) (f.needs) two.only }
rule_then {before = before} {now = now} d f (Some r) grows none two = record {
  unavailable = λ h. elim (or_cases (list_any before (d.needs)) (list_any before (f.needs)) (sym (list_any-append before (d.needs) (f.needs)) ∙ h)) [
    | inl first ↦ none first
    | inr rest ↦ two.unavailable (any_grows before now (f.needs) grows rest)
  ];
  answer = two.answer;
  only = tt;
}

rule_bind : {A B : Type 0} {before now after : ℕ → Bool} (v : Volume) (d : Reading A) (f : A → Reading B) (a : A) (r : Option B) → Grows before now
    → MeetsRule before now (d v) (Some a) → MeetsRule now after (f a v) r → MeetsRule before after (bind d f v) r
unfolding bind
rule_bind {now = now} {after = after} v d f a r grows one two =
    rule_then (d v) (f ((d v).value) v) r grows one.unavailable (subst (λ x. MeetsRule now after (f x v) r) one.answer two)

rule_none : {A B : Type 0} {before after : ℕ → Bool} (v : Volume) (d : Reading A) (f : A → Reading B)
    → MeetsRule before after (d v) None → MeetsRule before after (bind d f v) None
unfolding bind
rule_none {after = after} v d f one = record { unavailable = λ h. refl; answer = tt; only = any_left after ((d v).needs) ((f ((d v).value) v).needs) one.only }

rule_known : {A : Type 0} (before after : ℕ → Bool) (v : Volume) (a : A) → MeetsRule before after (known a v) (Some a)
rule_known before after v a = record { unavailable = λ h. sym h; answer = refl; only = tt }

-- ---- readers in a row. The first three facts say what the calls on the view keep.

pub reads_then : {A B : Type 0} {stands still : Volume → Type 0} {tells told : Type 0} {before now after : ℕ → Bool} {d : Reading A} (f : A → Reading B) {a : A} {r : Option B}
    → Grows before now → ((v : Volume) → stands v → still v) → (told → tells)
    → ReadsAs stands before tells now d (Some a) → ReadsAs still now told after (f a) r → ReadsAs stands before told after (bind d f) r
reads_then {d = d} f {a = a} {r = r} grows keeps tell one two = record {
  rule = λ is v holds. rule_bind v d f a r grows (one.rule (tell is) v holds) (two.rule is v (keeps v holds));
}

-- no answer, and so none to what follows
pub reads_none : {A B : Type 0} {stands : Volume → Type 0} {tells : Type 0} {before after : ℕ → Bool} {d : Reading A} (f : A → Reading B)
    → ReadsAs stands before tells after d None → ReadsAs stands before tells after (bind d f) None
reads_none {d = d} f one = record { rule = λ is v holds. rule_none v d f (one.rule is v holds) }

-- an answer that needs nothing
pub reads_known : {A : Type 0} {stands : Volume → Type 0} {tells : Type 0} {before after : ℕ → Bool} (a : A) → ReadsAs stands before tells after (known a) (Some a)
reads_known {before = before} {after = after} a = record { rule = λ is v holds. rule_known before after v a }

-- an answer, and what is made of it
pub reads_map : {A B : Type 0} {stands : Volume → Type 0} {tells : Type 0} {before after : ℕ → Bool} {d : Reading A} (f : A → B) {a : A}
    → Grows before after → ReadsAs stands before tells after d (Some a) → ReadsAs stands before tells after (bind d (λ x. known (f x))) (Some (f a))
reads_map f {a = a} grows one = reads_then (λ x. known (f x)) grows (λ v holds. holds) (λ is. is) one (reads_known (f a))

-- ---- readers that may refuse

-- a refusal, or no answer, is that of the whole
refused_whole : {A B R : Type 0} {stands : Volume → Type 0} {tells : Type 0} {before after : ℕ → Bool} {d : Reading (Result A R)} (f : A → Reading (Result B R)) (o : Option R)
    → Grows before after → ReadsAs stands before tells after d (option_map Err o) → ReadsAs stands before tells after (and_then d f) (option_map Err o)
unfolding and_then
refused_whole f None grows one = reads_none (λ answer. on_ok answer f) one
refused_whole f (Some refusal) grows one = reads_then (λ answer. on_ok answer f) grows (λ v holds. holds) (λ is. is) one (reads_known (Err refusal))

pub reads_refused : {A B E R : Type 0} {stands : Volume → Type 0} {tells : Type 0} {before after : ℕ → Bool} {d : Reading (Result A R)} (refusal_of : E → Option R) (f : A → Reading (Result B R)) (e : E)
    → Grows before after → ReadsAs stands before tells after d (answered refusal_of (Err e)) → ReadsAs stands before tells after (and_then d f) (answered refusal_of (Err e))
reads_refused refusal_of f e grows one = refused_whole f (refusal_of e) grows one

-- an answer, and what follows from it
pub reads_on : {A B E R : Type 0} {stands still : Volume → Type 0} {tells told : Type 0} {before now after : ℕ → Bool} {d : Reading (Result A R)} (refusal_of : E → Option R) (f : A → Reading (Result B R)) (a : A) (r : Option (Result B R))
    → Grows before now → ((v : Volume) → stands v → still v) → (told → tells)
    → ReadsAs stands before tells now d (answered refusal_of (Ok a)) → ReadsAs still now told after (f a) r → ReadsAs stands before told after (and_then d f) r
unfolding and_then
reads_on refusal_of f a r grows keeps tell one two = reads_then (λ answer. on_ok answer f) grows keeps tell one two

-- ---- loops

pub begins : {A : Type 0} (stands : Volume → Type 0) (before : ℕ → Bool) (tells : Type 0) (whole : Reading A) → Continues stands before tells before whole whole
begins stands before tells whole = record { go = λ is v holds after result grows rule. rule }

-- one more answer
pub goes_on : {B R : Type 0} {stands still : Volume → Type 0} {tells told : Type 0} {before now after : ℕ → Bool} {whole : Reading (Result B R)} {A : Type 0} {d : Reading (Result A R)} (f : A → Reading (Result B R)) (a : A)
    → Grows now after → ((v : Volume) → stands v → still v) → (told → tells)
    → Continues stands before tells now whole (and_then d f) → ReadsAs still now told after d (Some (Ok a)) → Continues stands before told after whole (f a)
unfolding and_then
goes_on {now = now} {after = after} {d = d} f a grows keeps tell so_far one = record {
  go = λ is v holds later result further rule.
      so_far.go (tell is) v holds later result (λ b h. further b (grows b h))
      (rule_bind v d (λ answer. on_ok answer f) (Ok a) result grows (one.rule is v (keeps v holds)) rule);
}

-- a refusal, or no answer, ends the loop
pub ends_refused : {A B E R : Type 0} {stands still : Volume → Type 0} {tells told : Type 0} {before now after : ℕ → Bool} {whole : Reading (Result B R)} {d : Reading (Result A R)} (refusal_of : E → Option R) (f : A → Reading (Result B R)) (e : E)
    → Grows now after → ((v : Volume) → stands v → still v) → (told → tells)
    → Continues stands before tells now whole (and_then d f) → ReadsAs still now told after d (answered refusal_of (Err e)) → ReadsAs stands before told after whole (answered refusal_of (Err e))
ends_refused {after = after} {d = d} refusal_of f e grows keeps tell so_far one =
    let all = reads_refused refusal_of f e grows one in record {
      rule = λ is v holds. so_far.go (tell is) v holds after (answered refusal_of (Err e)) grows (all.rule is v (keeps v holds));
    }

-- what is left needs nothing
pub ends : {A : Type 0} {stands : Volume → Type 0} {tells : Type 0} {before now : ℕ → Bool} {whole : Reading A} (a : A)
    → Continues stands before tells now whole (known a) → ReadsAs stands before tells now whole (Some a)
ends {now = now} a so_far = record { rule = λ is v holds. so_far.go is v holds now (Some a) (λ b h. h) (rule_known now now v a) }
