-- Laws of the numbers with which an array was made. They stand here since the crates above cite them.
use Rattle.std.proofs.Common.{◌≡◌, ◌∙◌, ◌≤◌, ◌+◌, ◌*◌, inr, ℕ, Bool, true, false, refl, sym, ap, subst, arith}
use Rattle.std.proofs.Math.Nat.{mul-le-mul_right}
use Rattle.std.specs.Prelude.{◌==◌, IfSome, None, Option, Some, if◌then◌else◌}
use Rattle.dg_io.specs.declared.outside.Rack.{Ghosts}
use Rattle.dg_label.specs.Labels.{AreNumbers, AreSized, HasOwnSeal, HaveSameNumbers, IsOfArray, StandsLabeled, is_sealed}
use Rattle.dg_label.specs.Lines.{IsLineOf}
use Rattle.dg_label.specs.declared.labels.KeptLabel.{KeptLabel}
use Rattle.dg_model.specs.Saves.{body_place, room_of}
use Rattle.dg_model.specs.Seals.{LastLabel}
use Rattle.dg_model.specs.Shapes.{IsShape}
use Rattle.dg_model.specs.declared.shapes.Shape.{Shape}
use Rattle.dg_store.specs.Stores.{shape_of}
use Rattle.dg_store.specs.declared.store.Store.{Store}

-- all boundaries are in use
pub line_itself : (shape : Shape) → IsShape shape → IsLineOf shape shape
line_itself shape is = record { is = is; fewer = omega arith; numbers = refl }

-- an array of the same shape
pub line_on : (line a b : Shape) → b ≡ a → IsLineOf line a → IsLineOf line b
line_on line a b same fits = subst (λ (s : Shape). IsLineOf line s) (sym same) fits

pub seal_on : (a b : Shape) (label : Option KeptLabel) → b ≡ a → HasOwnSeal a label → HasOwnSeal b label
seal_on a b label same seal = subst (λ (s : Shape). HasOwnSeal s label) (sym same) seal

-- bodies stand at the same place
pub place_is : (line shape : Shape) → IsLineOf line shape → body_place shape ≡ body_place line
place_is line shape fits = ap body_place fits.numbers

-- a body of an array with fewer boundaries takes no more bytes
pub room_fits : (line shape : Shape) (format : ℕ) → IsLineOf line shape → room_of format shape ≤ room_of format line
room_fits line shape format fits = subst (λ (s : Shape). room_of format s ≤ room_of format line) (sym fits.numbers) (by_form (format == 1))
  where
    by_form : (one : Bool)
        → (if one then 8 + 2 * shape.b + 7 * line.n + 5 * shape.b * (line.k + 1) else 77 + 2 * shape.b + 12 * line.n + 5 * shape.b * (line.k + 1))
        ≤ (if one then 8 + 2 * line.b + 7 * line.n + 5 * line.b * (line.k + 1) else 77 + 2 * line.b + 12 * line.n + 5 * line.b * (line.k + 1))
    by_form true = let few = fits.fewer in
        let sites : 5 * shape.b * (line.k + 1) ≤ 5 * line.b * (line.k + 1) = mul-le-mul_right (line.k + 1) (omega (arith, few)) in
        omega (arith, few, sites)
    by_form false = let few = fits.fewer in
        let sites : 5 * shape.b * (line.k + 1) ≤ 5 * line.b * (line.k + 1) = mul-le-mul_right (line.k + 1) (omega (arith, few)) in
        omega (arith, few, sites)

-- the numbers of a label of the boundaries in use are numbers of the line
pub numbers_fit : (line shape : Shape) (kept : KeptLabel) → IsLineOf line shape → AreNumbers shape kept → AreNumbers line kept
numbers_fit line shape kept fits is = let less = room_fits line shape kept.format fits in let body = is.body in
    record { formats = is.formats; first = is.first; last = is.last; body = omega (arith, less, body) }

-- labels that differ in the bits of members alone
pub same_numbers : (shape : Shape) (before after : Option KeptLabel) → HaveSameNumbers before after → IfSome before (AreNumbers shape) → IfSome after (AreNumbers shape)
same_numbers shape None None same numbers = tt
same_numbers shape None (Some k) same numbers = absurd same
same_numbers shape (Some b) None same numbers = absurd same
same_numbers shape (Some b) (Some k) same numbers =
    subst (λ (x : KeptLabel). AreNumbers shape x) (sym same) (record { formats = numbers.formats; first = numbers.first; last = numbers.last; body = numbers.body })

pub same_seal : (before after : Option KeptLabel) → HaveSameNumbers before after → is_sealed after ≡ is_sealed before
same_seal None None same = refl
same_seal None (Some k) same = absurd same
same_seal (Some b) None same = absurd same
same_seal (Some b) (Some k) same = ap (λ (x : KeptLabel). x.sealed) same

pub own_seal : (shape : Shape) (before after : Option KeptLabel) → HaveSameNumbers before after → HasOwnSeal shape before → HasOwnSeal shape after
own_seal shape before after same seal sealed = same_numbers shape before after same (seal (sym (same_seal before after same) ∙ sealed))

-- where all boundaries of the line are in use, the label is of this array, and the members that keep it are as long as it says
pub label_of_whole : {R : Type 0} (rack : Ghosts R) (line : Shape) (store : Store R) (kept : Option KeptLabel) (last : LastLabel) → shape_of store ≡ line
    → StandsLabeled rack line store kept (Some last) → IsOfArray (shape_of store) last × AreSized rack store last
label_of_whole rack line store kept last same stands = let is = stands.of_array (inr same) in (is, stands.sizes (is.shape_is ∙ same))
