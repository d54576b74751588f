-- Readings over a longer row of calls, and readings that are the same on each volume.
use Rattle.std.proofs.Common.{◌≡◌, ◌∙◌, ℕ, List, [], ◌∷◌, ◌++◌, Bool, true, inl, inr, Some, None, Ok, Err, Result, Option, refl, sym, ap, subst}
use Rattle.std.specs.Prelude.{IfNone}
use Rattle.std.specs.List.{list_any}
use Rattle.std.specs.Option.{option_map}
use Rattle.std.proofs.lemmas.List.{append_assoc, append-nil}
use Rattle.std.proofs.lemmas.Bool.{or_cases, or_left, or_right}
use Rattle.ufs_model.specs.Blocks.{Consulted, Reading, Volume, bind, known}
use Rattle.ufs_model.specs.Readings.{Grows, MeetsRule, ReadsAs, and_then, on_ok}
use Rattle.ufs_model.proofs.ReadingLaws.{reads_on, reads_refused}

-- ---- over a longer row of calls

any_grows : (before after : ℕ → Bool) (needs : List ℕ) → Grows before after → list_any before needs ≡ true → list_any after needs ≡ true
any_grows before after [] grows h = h
any_grows before after (b ∷ needs) grows h = elim (or_cases (before b) (list_any before needs) h) [
  | inl here ↦ or_left (after b) (list_any after needs) (grows b here)
  | inr rest ↦ or_right (after b) (list_any after needs) (any_grows before after needs grows rest)
]

none_map : {A P Q : Type 0} (r : Option A) → (P → Q) → IfNone r P → IfNone r Q
none_map None f p = f p
none_map (Some a) f p = tt

-- what a few calls read was read by all calls
pub wider : {A : Type 0} {stands still : Volume → Type 0} {tells told : Type 0} {before now later after : ℕ → Bool} {d : Reading A} (r : Option A)
    → Grows before now → Grows later after → ((v : Volume) → stands v → still v) → (told → tells)
    → ReadsAs still now tells later d r → ReadsAs stands before told after d r
wider {before = before} {now = now} {later = later} {after = after} {d = d} r grows further keeps tell reads = record {
  rule = λ is v holds.
      let few = reads.rule (tell is) v (keeps v holds) in record {
        unavailable = λ h. few.unavailable (any_grows before now ((d v).needs) grows h);
        answer = few.answer;
        only = none_map r (any_grows later after ((d v).needs) further) few.only;
      };
}

-- an answer doesn't tell what is gone after
pub answer_stays : {A : Type 0} {stands : Volume → Type 0} {tells : Type 0} {before now after : ℕ → Bool} {d : Reading A} (a : A)
    → ReadsAs stands before tells now d (Some a) → ReadsAs stands before tells after d (Some a)
answer_stays a reads = record {
  rule = λ is v holds. record {
    unavailable = (reads.rule is v holds).unavailable;
    answer = (reads.rule is v holds).answer;
    only = tt;
  };
}

-- readings by the same calls, the one on the answer of the other
pub both_read : {A B R : Type 0} {stands : Volume → Type 0} {tells : Type 0} {before after : ℕ → Bool} {d : Reading (Result A R)} (f : A → Reading (Result B R)) (a : A) (r : Option (Result B R))
    → ReadsAs stands before tells after d (Some (Ok a)) → ReadsAs stands before tells after (f a) r → ReadsAs stands before tells after (and_then d f) r
both_read {before = before} f a r one two = reads_on (λ refusal. refusal) f a r (λ b h. h) (λ v h. h) (λ h. h) (answer_stays {after = before} (Ok a) one) two

pub refused_read : {A B R : Type 0} {stands : Volume → Type 0} {tells : Type 0} {before after : ℕ → Bool} {d : Reading (Result A R)} (f : A → Reading (Result B R)) (refusal : Option R) → Grows before after
    → ReadsAs stands before tells after d (option_map Err refusal) → ReadsAs stands before tells after (and_then d f) (option_map Err refusal)
refused_read f refusal grows one = reads_refused (λ refusal. refusal) f refusal grows one

-- ---- the same readings

-- on the volumes that the view stands for, where it tells its blocks
pub same_where : {A : Type 0} {stands : Volume → Type 0} {tells : Type 0} {before after : ℕ → Bool} {d e : Reading A} {r : Option A}
    → (tells → (v : Volume) → stands v → d v ≡ e v) → ReadsAs stands before tells after d r → ReadsAs stands before tells after e r
same_where {before = before} {after = after} {r = r} same reads = record { rule = λ is v holds. subst (λ c. MeetsRule before after c r) (same is v holds) (reads.rule is v holds) }

pub same_read : {A : Type 0} {stands : Volume → Type 0} {tells : Type 0} {before after : ℕ → Bool} {d e : Reading A} {r : Option A}
    → ((v : Volume) → d v ≡ e v) → ReadsAs stands before tells after d r → ReadsAs stands before tells after e r
same_read same reads = same_where (λ is v holds. same v) reads

-- the same answer
pub answer_where : {A : Type 0} {stands : Volume → Type 0} {tells : Type 0} {before after : ℕ → Bool} {d : Reading A} (a b : A)
    → (tells → (v : Volume) → stands v → a ≡ b) → ReadsAs stands before tells after d (Some a) → ReadsAs stands before tells after d (Some b)
answer_where a b same reads = record {
  rule = λ is v holds. record {
    unavailable = (reads.rule is v holds).unavailable;
    answer = sym (same is v holds) ∙ (reads.rule is v holds).answer;
    only = tt;
  };
}

-- where there is an answer, a fault is no refusal
pub none_now : {A R : Type 0} {stands : Volume → Type 0} {tells : Type 0} {before after : ℕ → Bool} {d : Reading (Result A R)} (a : A) (refusal : Option R)
    → ReadsAs stands before tells after d (Some (Ok a)) → ReadsAs stands before tells after d (option_map Err refusal) → ReadsAs stands before tells after d None
none_now a None one two = two
none_now a (Some refusal) one two = record {
  rule = λ is v holds.
      let first = (one.rule is v holds).answer in
      let second = (two.rule is v holds).answer in
      let both = first ∙ sym second in cc;
}

-- what follows from something consulted
abbrev pub then_consulted : {A B R : Type 0} → Consulted (Result A R) → (A → Reading (Result B R)) → Volume → Consulted (Result B R)
then_consulted c f v = record { value = (on_ok c.value f v).value; needs = c.needs ++ (on_ok c.value f v).needs }

pub then_is : {A B R : Type 0} (d : Reading (Result A R)) (f : A → Reading (Result B R)) (v : Volume) → and_then d f v ≡ then_consulted (d v) f v
unfolding and_then bind
then_is d f v = refl

-- the same is followed by the same
pub then_front : {A B R : Type 0} (d e : Reading (Result A R)) (f : A → Reading (Result B R)) (v : Volume) → d v ≡ e v → and_then d f v ≡ and_then e f v
then_front d e f v same = then_is d f v ∙ ap (λ c. then_consulted c f v) same ∙ sym (then_is e f v)

back_at : {A B R : Type 0} (x : Result A R) (needs : List ℕ) (f h : A → Reading (Result B R)) (v : Volume) → ((a : A) → f a v ≡ h a v)
    → then_consulted (record { value = x; needs = needs }) f v ≡ then_consulted (record { value = x; needs = needs }) h v
back_at (Ok a) needs f h v same = ap (λ (c : Consulted _). record { value = c.value; needs = needs ++ c.needs }) (same a)
back_at (Err refusal) needs f h v same = refl

pub then_back : {A B R : Type 0} (d : Reading (Result A R)) (f h : A → Reading (Result B R)) (v : Volume) → ((a : A) → f a v ≡ h a v) → and_then d f v ≡ and_then d h v
then_back d f h v same = then_is d f v ∙ back_at ((d v).value) ((d v).needs) f h v same ∙ sym (then_is d h v)

-- what is known is followed by what follows
pub then_known : {A B R : Type 0} (a : A) (f : A → Reading (Result B R)) (v : Volume) → and_then (known (Ok a)) f v ≡ f a v
unfolding and_then bind
then_known a f v = refl

ends_at : {A R : Type 0} (x : Result A R) (needs : List ℕ) (v : Volume) → then_consulted (record { value = x; needs = needs }) (λ a. known (Ok a)) v ≡ record { value = x; needs = needs }
ends_at (Ok a) needs v = ap (λ n. record { value = Ok a; needs = n }) (append-nil needs)
ends_at (Err refusal) needs v = ap (λ n. record { value = Err refusal; needs = n }) (append-nil needs)

-- what needs nothing more
pub then_same : {A R : Type 0} (d : Reading (Result A R)) (v : Volume) → and_then d (λ a. known (Ok a)) v ≡ d v
then_same d v = then_is d (λ a. known (Ok a)) v ∙ ends_at ((d v).value) ((d v).needs) v

assoc_at : {A B C R : Type 0} (x : Result A R) (needs : List ℕ) (f : A → Reading (Result B R)) (h : B → Reading (Result C R)) (v : Volume)
    → then_consulted (then_consulted (record { value = x; needs = needs }) f v) h v ≡ then_consulted (record { value = x; needs = needs }) (λ a. and_then (f a) h) v
unfolding and_then bind
assoc_at (Ok a) needs f h v = ap (λ n. record { value = (on_ok ((f a v).value) h v).value; needs = n }) (append_assoc needs ((f a v).needs) ((on_ok ((f a v).value) h v).needs))
assoc_at (Err refusal) needs f h v = ap (λ n. record { value = Err refusal; needs = n }) (append-nil (needs ++ []))

-- three in a row
pub then_then : {A B C R : Type 0} (d : Reading (Result A R)) (f : A → Reading (Result B R)) (h : B → Reading (Result C R)) (v : Volume)
    → and_then (and_then d f) h v ≡ and_then d (λ a. and_then (f a) h) v
then_then d f h v =
    then_is (and_then d f) h v ∙ ap (λ c. then_consulted c h v) (then_is d f v) ∙ assoc_at ((d v).value) ((d v).needs) f h v ∙ sym (then_is d (λ a. and_then (f a) h) v)
