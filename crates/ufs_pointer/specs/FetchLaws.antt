-- What readers in a row fetched. For the crates that read a volume.
use Rattle.std.proofs.Common.{◌≡◌, ◌∙◌, ℕ, List, [], ◌++◌, Bool, Option, Some, None, refl, sym, ap, subst}
use Rattle.std.proofs.lemmas.List.{append_assoc}
use Rattle.ufs_model.specs.Blocks.{Volume, Consulted, Reading, known, bind}
use Rattle.ufs_model.specs.Readings.{ReadsAs}
use Rattle.ufs_pointer.specs.Fetches.{BeginsWith, IsConsulted, Fetches}

-- ---- on one volume

needs_then : {A B : Type 0} (d : Consulted A) (f : Consulted B) (r : Option B) (x y : List ℕ) → x ≡ d.needs → IsConsulted f r y
    → IsConsulted (record { value = f.value; needs = d.needs ++ f.needs }) r (x ++ y)
needs_then d f None x y one two = record {
  rest = two.rest;
  whole = ap (λ z. z ++ f.needs) (sym one) ∙ ap (λ z. x ++ z) two.whole ∙ sym (append_assoc x y two.rest);
}
needs_then d f (Some r) x y one two = ap (λ z. z ++ y) one ∙ ap (λ z. d.needs ++ z) two

needs_bind : {A B : Type 0} (v : Volume) (d : Reading A) (f : A → Reading B) (a : A) (r : Option B) (x y : List ℕ) → a ≡ (d v).value
    → x ≡ (d v).needs → IsConsulted (f a v) r y → IsConsulted (bind d f v) r (x ++ y)
unfolding bind
needs_bind v d f a r x y is one two = needs_then (d v) (f ((d v).value) v) r x y one (subst (λ b. IsConsulted (f b v) r y) is two)

needs_none : {A B : Type 0} (v : Volume) (d : Reading A) (f : A → Reading B) (x : List ℕ) → BeginsWith ((d v).needs) x → BeginsWith ((bind d f v).needs) x
unfolding bind
needs_none v d f x one = record {
  rest = one.rest ++ (f ((d v).value) v).needs;
  whole = ap (λ z. z ++ (f ((d v).value) v).needs) one.whole ∙ append_assoc x one.rest ((f ((d v).value) v).needs);
}

-- ---- readers in a row. The facts before the readers are the view's law, and what the calls keep.

-- an answer that needs nothing
pub fetches_known : {S A : Type 0} {fetched : S → List ℕ → S → Type 0} {stands : Volume → Type 0} {tells : Type 0} {old new : S} (a : A)
    → fetched old [] new → Fetches fetched stands tells (known a) (Some a) old new
fetches_known a none = record { blocks = []; were = none; consulted = λ is v holds. refl }

-- an answer, and then what follows from it
pub fetches_then : {S A B : Type 0} {fetched : S → List ℕ → S → Type 0} {stands still : Volume → Type 0} {tells told : Type 0} {before now : ℕ → Bool} {d : Reading A} (f : A → Reading B) {a : A} {r : Option B} {old middle new : S}
    → ((s t u : S) (x y : List ℕ) → fetched s x t → fetched t y u → fetched s (x ++ y) u) → ((v : Volume) → stands v → still v) → (told → tells)
    → ReadsAs stands before tells now d (Some a) → Fetches fetched stands tells d (Some a) old middle → Fetches fetched still told (f a) r middle new
    → Fetches fetched stands told (bind d f) r old new
fetches_then {d = d} f {a = a} {r = r} {old = old} {middle = middle} {new = new} both keeps tell read one two = record {
  blocks = one.blocks ++ two.blocks;
  were = both old middle new (one.blocks) (two.blocks) (one.were) (two.were);
  consulted = λ is v holds. needs_bind v d f a r (one.blocks) (two.blocks) ((read.rule (tell is) v holds).answer)
      (one.consulted (tell is) v holds) (two.consulted is v (keeps v holds));
}

-- no answer, and so none to what follows
pub fetches_none : {S A B : Type 0} {fetched : S → List ℕ → S → Type 0} {stands : Volume → Type 0} {tells : Type 0} {d : Reading A} (f : A → Reading B) {old new : S}
    → Fetches fetched stands tells d None old new → Fetches fetched stands tells (bind d f) None old new
fetches_none {d = d} f one = record { blocks = one.blocks; were = one.were; consulted = λ is v holds. needs_none v d f (one.blocks) (one.consulted is v holds) }

-- an answer, and what is made of it without a fetch
pub fetches_map : {S A B : Type 0} {fetched : S → List ℕ → S → Type 0} {stands : Volume → Type 0} {tells : Type 0} {before after : ℕ → Bool} {d : Reading A} (f : A → B) {a : A} {old new : S}
    → ((s t u : S) (x y : List ℕ) → fetched s x t → fetched t y u → fetched s (x ++ y) u) → fetched new [] new
    → ReadsAs stands before tells after d (Some a) → Fetches fetched stands tells d (Some a) old new → Fetches fetched stands tells (bind d (λ x. known (f x))) (Some (f a)) old new
fetches_map f {a = a} both none read one = fetches_then (λ x. known (f x)) both (λ v holds. holds) (λ is. is) read one (fetches_known (f a) none)
