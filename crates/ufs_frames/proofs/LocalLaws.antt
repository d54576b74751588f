-- Readings one after another are local where each of them is.
use Rattle.std.proofs.Common.{◌≡◌, ◌∙◌, ℕ, zero, suc, ◌+◌, ◌-◌, ◌*◌, Bool, true, false, List, [], ◌∷◌, ◌++◌, Result, Ok, Err, refl, ap, subst, min, replicate, lit<}
use Rattle.std.specs.Prelude.{Contains, if◌then◌else◌}
use Rattle.std.proofs.lemmas.List.Elements.{Contains-append_left, Contains-append_right}
use Rattle.ufs_model.specs.Blocks.{Consulted, Reading, Volume, area_of, area_within, bind, consult, known}
use Rattle.ufs_model.specs.Readings.{and_then, on_ok}
use Rattle.ufs_frames.specs.Frames.{AgreeOn, IsLocal}

pub local_known : {A : Type 0} (l : ℕ) (a : A) → IsLocal l (known a)
local_known l a = record { same = λ v w agree. refl }

pub local_consult : (l b : ℕ) → IsLocal l (consult l b)
local_consult l b = record { same = λ v w agree. ap (λ (block : List ℕ). record { value = block; needs = b ∷ [] }) (agree b (0, lit< tt, refl)) }

pub bind_same : {A B : Type 0} (d : Reading A) (f : A → Reading B) (v w : Volume) → d w ≡ d v → f ((d v).value) w ≡ f ((d v).value) v → bind d f w ≡ bind d f v
unfolding bind
bind_same {A} {B} d f v w one two =
    ap (λ (c : Consulted A). record { value = (f (c.value) w).value; needs = c.needs ++ (f (c.value) w).needs }) one
    ∙ ap (λ (c : Consulted B). record { value = c.value; needs = (d v).needs ++ c.needs }) two

bind_needs : {A B : Type 0} (d : Reading A) (f : A → Reading B) (v : Volume) → (bind d f v).needs ≡ (d v).needs ++ (f ((d v).value) v).needs
unfolding bind
bind_needs d f v = refl

-- the second needs to be local at an answer of the first alone
pub local_after : {A B : Type 0} (l : ℕ) (d : Reading A) (f : A → Reading B) → IsLocal l d → ((v : Volume) → IsLocal l (f ((d v).value))) → IsLocal l (bind d f)
local_after l d f one two = record {
  same = λ v w agree.
      let all = subst (λ (needs : List ℕ). AgreeOn l (Contains needs) v w) (bind_needs d f v) agree in
      bind_same d f v w
      (one.same v w (λ b here. all b (Contains-append_left ((d v).needs) ((f ((d v).value) v).needs) b here)))
      ((two v).same v w (λ b here. all b (Contains-append_right ((d v).needs) ((f ((d v).value) v).needs) b here)));
}

pub local_bind : {A B : Type 0} (l : ℕ) (d : Reading A) (f : A → Reading B) → IsLocal l d → ((a : A) → IsLocal l (f a)) → IsLocal l (bind d f)
local_bind l d f one two = local_after l d f one (λ v. two ((d v).value))

local_on : {A B R : Type 0} (l : ℕ) (answer : Result A R) (f : A → Reading (Result B R)) → ((a : A) → answer ≡ Ok a → IsLocal l (f a)) → IsLocal l (on_ok answer f)
local_on l (Ok a) f each = each a refl
local_on l (Err refusal) f each = local_known l (Err refusal)

-- the same of readings that may refuse
pub local_ok : {A B R : Type 0} (l : ℕ) (d : Reading (Result A R)) (f : A → Reading (Result B R)) → IsLocal l d
    → ((v : Volume) (a : A) → (d v).value ≡ Ok a → IsLocal l (f a)) → IsLocal l (and_then d f)
unfolding and_then
local_ok l d f one two = local_after l d (λ answer. on_ok answer f) one (λ v. local_on l ((d v).value) f (two v))

pub local_then : {A B R : Type 0} (l : ℕ) (d : Reading (Result A R)) (f : A → Reading (Result B R)) → IsLocal l d → ((a : A) → IsLocal l (f a)) → IsLocal l (and_then d f)
local_then l d f one two = local_ok l d f one (λ v a is. two a)

pub local_if : {A : Type 0} (l : ℕ) (b : Bool) (one other : Reading A) → IsLocal l one → IsLocal l other → IsLocal l (if b then one else other)
local_if l true one other first second = first
local_if l false one other first second = second

-- ---- blocks end to end

pub local_area : (l a k : ℕ) → IsLocal l (area_of l a k)
unfolding area_of
local_area l a zero = local_known l []
local_area l a (suc k) =
    local_bind l (area_of l a k) _ (local_area l a k) (λ front.
    local_bind l (consult l (a + k)) _ (local_consult l (a + k)) (λ last. local_known l (front ++ last)))

pub local_within : (l n a k : ℕ) → IsLocal l (area_within l n a k)
unfolding area_within
local_within l n a k =
    local_bind l (area_of l a (min k (n - a))) _ (local_area l a (min k (n - a))) (λ bytes.
    local_known l (bytes ++ replicate ((k - min k (n - a)) * l) 0))
