-- The reading rule: what a reader may answer for a reading of a volume, some of whose blocks are gone or become gone while
-- it reads. The rule is this project's own.
use Rattle.std.specs.Prelude.{◌≡◌, ℕ, Bool, true, Option, Some, IfSome, IfNone, IsNone, Result, Ok, Err}
use Rattle.std.specs.List.{list_any}
use Rattle.std.specs.Option.{option_map}
use Rattle.ufs_model.specs.Blocks.{Volume, Consulted, Reading, known, bind}

-- Where a consulted block is gone before, there is no answer. An answer is that of the definition. There is none only where a
-- consulted block is gone after.
pub record MeetsRule {A : Type 0} (before after : ℕ → Bool) (d : Consulted A) (result : Option A) : Type 0 where
  pub unavailable : list_any before (d.needs) ≡ true → IsNone result
  pub answer : IfSome result (λ a. a ≡ d.value)
  pub only : IfNone result (list_any after (d.needs) ≡ true)

-- The same of a view: it meets the rule on each volume that it stands for before, where it still tells its blocks after.
pub record ReadsAs {A : Type 0} (stands : Volume → Type 0) (before : ℕ → Bool) (tells : Type 0) (after : ℕ → Bool) (d : Reading A) (result : Option A) : Type 0 where
  pub rule : tells → (v : Volume) → stands v → MeetsRule before after (d v) result

-- what is gone stays gone
abbrev pub Grows : (ℕ → Bool) → (ℕ → Bool) → Type 0
Grows before after = (b : ℕ) → before b ≡ true → after b ≡ true

-- Whatever is read of the rest from now on completes the reading of the whole. For loops.
pub record Continues {A : Type 0} (stands : Volume → Type 0) (before : ℕ → Bool) (tells : Type 0) (now : ℕ → Bool) (whole rest : Reading A) : Type 0 where
  pub go : tells → (v : Volume) → stands v → (after : ℕ → Bool) (result : Option A) → Grows now after
      → MeetsRule now after (rest v) result → MeetsRule before after (whole v) result

-- ---- readings that may refuse

-- what follows from an answer that is no refusal
abbrev pub on_ok : {A B R : Type 0} → Result A R → (A → Reading (Result B R)) → Reading (Result B R)
on_ok (Ok a) f = f a
on_ok (Err refusal) f = known (Err refusal)

-- the one, and then what follows from it where it isn't refused
unfoldable pub and_then : {A B R : Type 0} → Reading (Result A R) → (A → Reading (Result B R)) → Reading (Result B R)
and_then d f = bind d (λ answer. on_ok answer f)

-- What the answer of a reader says of a reading: nothing where a block is gone, for which the reader has a fault that is no
-- refusal.
abbrev pub answered : {A E R : Type 0} → (E → Option R) → Result A E → Option (Result A R)
answered refusal_of (Ok a) = Some (Ok a)
answered refusal_of (Err e) = option_map Err (refusal_of e)
