-- How bytes that a sink took go on from one another.
use Rattle.std.proofs.Common.{◌≡◌, ℕ, zero, suc, ◌+◌, List, [], ◌∷◌, ◌++◌, length, take, refl, sym, ◌∙◌, ap, append_assoc}
use Rattle.std.specs.Prelude.{Option, Some, None, Result, Ok, Err, OnErr}
use Rattle.std.proofs.lemmas.List.{append-nil}
use Rattle.std.proofs.Math.Seq.{take-append-add}
use Rattle.dg_io.specs.Told.{Told, Took, TookPart}

pub Told-then : (f s t : List ℕ → List ℕ → Type 0) → ((a b c : List ℕ) → f a b → s b c → t a c) → (x y z : Option (List ℕ)) → Told f x y → Told s y z → Told t x z
Told-then f s t h x y None p q = tt
Told-then f s t h (Some a) (Some b) (Some c) p q = h a b c p q
Told-then f s t h None (Some b) (Some c) p q = absurd p
Told-then f s t h x None (Some c) p q = absurd q

pub Told-map : (f t : List ℕ → List ℕ → Type 0) → ((a b : List ℕ) → f a b → t a b) → (x y : Option (List ℕ)) → Told f x y → Told t x y
Told-map f t h x None p = tt
Told-map f t h (Some a) (Some b) p = h a b p
Told-map f t h None (Some b) p = absurd p

-- nothing was taken
pub took_none : (x : Option (List ℕ)) → Told (Took []) x x
took_none None = tt
took_none (Some a) = sym (append-nil a)

-- bytes, and then others
pub took_both : (s t : List ℕ) (x y z : Option (List ℕ)) → Told (Took s) x y → Told (Took t) y z → Told (Took (s ++ t)) x z
took_both s t x y z p q = Told-then (Took s) (Took t) (Took (s ++ t)) (λ a b c f g. g ∙ ap (λ (l : List ℕ). l ++ t) f ∙ append_assoc a s t) x y z p q

-- a part of bytes is a part of more of them
part_of_more : (n : ℕ) (s t : List ℕ) → (m : ℕ) × (take n s ≡ take m (s ++ t))
part_of_more zero s t = (0, refl)
part_of_more (suc n) [] t = (0, refl)
part_of_more (suc n) (b ∷ s) t =
    let more = part_of_more n s t in
    (suc more.0, ap (λ (l : List ℕ). b ∷ l) more.1)

pub took_part_of_more : (s t : List ℕ) (x y : Option (List ℕ)) → Told (TookPart s) x y → Told (TookPart (s ++ t)) x y
took_part_of_more s t x y p = Told-map (TookPart s) (TookPart (s ++ t)) (λ a b h.
    let more = part_of_more h.0 s t in
    (more.0, h.1 ∙ ap (λ (l : List ℕ). a ++ l) more.1)) x y p

-- bytes, and then a part of others
pub took_part_after : (s t : List ℕ) (x y z : Option (List ℕ)) → Told (Took s) x y → Told (TookPart t) y z → Told (TookPart (s ++ t)) x z
took_part_after s t x y z p q = Told-then (Took s) (TookPart t) (TookPart (s ++ t)) (λ a b c f g.
    (length s + g.0, g.1 ∙ ap (λ (l : List ℕ). l ++ take g.0 t) f ∙ append_assoc a s (take g.0 t) ∙ ap (λ (l : List ℕ). a ++ l) (sym (take-append-add s t g.0)))) x y z p q

pub on_err : {T E P : Type 0} (r : Result T E) → P → OnErr r P
on_err (Ok value) p = tt
on_err (Err error) p = p
