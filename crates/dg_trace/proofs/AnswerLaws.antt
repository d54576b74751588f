-- An image has one answer.
use Rattle.std.proofs.Common.{◌≡◌, ◌<◌, ◌*◌, ℕ, List, length, refl, ap, subst, inl, inr, arith}
use Rattle.std.specs.Prelude.{Result, Ok, Err}
use Rattle.dg_model.specs.Shapes.{IsShape}
use Rattle.dg_trace.specs.Answers.{HasWhole, IsAccepted, IsAnswer, IsRefused}
use Rattle.dg_trace.specs.Volumes.{shape_for, volume_on}
use Rattle.dg_trace.specs.declared.asked.Asked.{Asked}
use Rattle.dg_trace.specs.declared.asked.TraceRefusal.{TraceRefusal}
use Rattle.dg_trace.specs.declared.asked.TraceRefusal.TheVariants.{Length, Limits, Super}
use Rattle.ufs_model.specs.declared.geometries.BadSuper.{BadSuper}
use Rattle.ufs_model.specs.declared.geometries.Geometry.{Geometry}

ok_same : {A E : Type 0} (r : Result A E) (x y : A) → r ≡ Ok x → r ≡ Ok y → x ≡ y
ok_same r x y p q = cc

err_same : {A E : Type 0} (r : Result A E) (x y : E) → r ≡ Err x → r ≡ Err y → x ≡ y
err_same r x y p q = cc

not_both : {A E : Type 0} (r : Result A E) (x : A) (y : E) → r ≡ Ok x → r ≡ Err y → ⊥
not_both r x y p q = cc

-- an image that has its whole volume isn't refused for its length
whole_length : (asked : Asked) (image : List ℕ) (g : Geometry) → HasWhole image g → IsRefused asked image Length → ⊥
whole_length asked image g has (inl none) = none has.has.size
whole_length asked image g has (inr (h, other, short)) =
    let same : h ≡ g = ok_same (volume_on image) h g other.volume has.has.volume in
    let short' : length image < g.size * g.fsize = subst (λ (x : Geometry). length image < x.size * x.fsize) same short in
    omega (arith, has.whole, short')

volume_super : (asked : Asked) (image : List ℕ) (g : Geometry) (bad : BadSuper) → volume_on image ≡ Ok g → IsRefused asked image (Super bad) → ⊥
volume_super asked image g bad is h = not_both (volume_on image) g bad is h.1

accepted_refused : (asked : Asked) (image : List ℕ) (g : Geometry) (refusal : TraceRefusal) → IsAccepted asked image g → IsRefused asked image refusal → ⊥
accepted_refused asked image g Length a r = whole_length asked image g a.has r
accepted_refused asked image g (Super bad) a r = volume_super asked image g bad a.has.has.volume r
accepted_refused asked image g Limits a r =
    r.2 (subst (λ (x : Geometry). IsShape (shape_for asked x)) (ok_same (volume_on image) g r.0 a.has.has.volume r.1.has.volume) a.limits)

length_super : (asked : Asked) (image : List ℕ) (bad : BadSuper) → IsRefused asked image Length → IsRefused asked image (Super bad) → ⊥
length_super asked image bad (inl none) s = none s.0
length_super asked image bad (inr (g, has, short)) s = not_both (volume_on image) g bad has.volume s.1

refused_same : (asked : Asked) (image : List ℕ) (one other : TraceRefusal) → IsRefused asked image one → IsRefused asked image other → one ≡ other
refused_same asked image Length Length p q = refl
refused_same asked image Length (Super bad) p q = absurd (length_super asked image bad p q)
refused_same asked image Length Limits p q = absurd (whole_length asked image q.0 q.1 p)
refused_same asked image (Super bad) Length p q = absurd (length_super asked image bad q p)
refused_same asked image (Super bad) (Super worse) p q = ap Super (err_same (volume_on image) bad worse p.1 q.1)
refused_same asked image (Super bad) Limits p q = absurd (volume_super asked image q.0 bad q.1.has.volume p)
refused_same asked image Limits Length p q = absurd (whole_length asked image p.0 p.1 q)
refused_same asked image Limits (Super bad) p q = absurd (volume_super asked image p.0 bad p.1.has.volume q)
refused_same asked image Limits Limits p q = refl

pub one_answer : (asked : Asked) (image : List ℕ) (one other : Result Geometry TraceRefusal) → IsAnswer asked image one → IsAnswer asked image other → one ≡ other
one_answer asked image (Ok g) (Ok h) p q = ap Ok (ok_same (volume_on image) g h p.has.has.volume q.has.has.volume)
one_answer asked image (Ok g) (Err refusal) p q = absurd (accepted_refused asked image g refusal p q)
one_answer asked image (Err refusal) (Ok g) p q = absurd (accepted_refused asked image g refusal q p)
one_answer asked image (Err one) (Err other) p q = ap Err (refused_same asked image one other p q)
