-- What names tell, and which blocks fall out.
use Rattle.std.proofs.Common.{◌≡◌, ◌∙◌, ◌+◌, ◌*◌, ◌<◌, ◌==◌, inl, inr, ℕ, suc, Bool, true, false, not, List, [], ◌∷◌, All, filter, get_or, map, if◌then◌else◌, refl, sym, ap, subst, arith}
use Rattle.std.specs.Prelude.{◌&&◌}
use Rattle.std.specs.Int.{bit_at}
use Rattle.std.specs.List.{range_with_len}
use Rattle.std.proofs.lemmas.Bool.{cases_Bool, false≢true}
use Rattle.std.proofs.lemmas.Bool.Decides.{nat_tests}
use Rattle.std.proofs.lemmas.List.FromFn.{get_or-range_with_len, length-range_with_len}
use Rattle.std.proofs.lemmas.List.{get_or_default}
use Rattle.std.proofs.lemmas.Nat.Bits.{bit_at-lt}
use Rattle.dg_io.specs.Reduced.{places_left}
use Rattle.dg_model.specs.Lives.{left_of}
use Rattle.dg_model.specs.Members.{is_lost}
use Rattle.dg_model.specs.Regroups.{is_left, site_left, sites_left}
use Rattle.dg_model.specs.Sites.{all_lost, has_site, is_gone}
use Rattle.dg_model.specs.Tables.{IsTable, Table, sites_in}
use Rattle.dg_model.specs.declared.members.MemberState.{MemberState}
use Rattle.dg_model.specs.declared.shapes.Shape.{Shape}
use Rattle.dg_model.specs.declared.sites.Site.{Site}
use Rattle.dg_regroup.proofs.ExtraLemmas.{front_once, numbers_once, says_front, says_numbers}
use Rattle.dg_regroup.proofs.PlaceLemmas.{left_is}
use Rattle.dg_regroup.specs.Cuts.{AreMarkedLost, cut_off, falls_out}
use Rattle.dg_regroup.specs.Extras.{IsExtra, extra_bytes, numbers_bytes}
use Rattle.dg_regroup.specs.LiveRacks.{named}
use Rattle.dg_regroup.specs.declared.extras.Extra.{Extra}

-- ---- names

names_end : (n c y : ℕ) → y < 16 → 17 * n ≡ 17 * c + (y + 1) → ⊥
names_end n c y small same = omega (arith, same)

names_next : (a b x y : ℕ) → x < 16 → y < 16 → 17 * a + (x + 1) ≡ 17 * b + (y + 1) → (a ≡ b) × (x ≡ y)
names_next a b x y low high same = (omega (arith, same), omega (arith, same))

pub same_boundaries : (one other : List ℕ) (n m : ℕ) → All (λ s. s < 16) one → All (λ s. s < 16) other → named n one ≡ named m other → (one ≡ other) × (n ≡ m)
same_boundaries [] [] n m low high same = (refl, omega (arith, same))
same_boundaries [] (y ∷ ys) n m low high same = absurd (names_end n (named m ys) y (high 0 0 (omega arith)) same)
same_boundaries (x ∷ xs) [] n m low high same = absurd (names_end m (named n xs) x (low 0 0 (omega arith)) (sym same))
same_boundaries (x ∷ xs) (y ∷ ys) n m low high same =
    let both = names_next (named n xs) (named m ys) x y (low 0 0 (omega arith)) (high 0 0 (omega arith)) same in
    let rest = same_boundaries xs ys n m (λ k d lt. low (suc k) d (omega arith)) (λ k d lt. high (suc k) d (omega arith)) (both.0) in
    (rw (both.1, rest.0) refl, rest.1)

-- ---- lists by tests that agree

filter_same : (p q : ℕ → Bool) (xs : List ℕ) → All (λ x. p x ≡ q x) xs → filter p xs ≡ filter q xs
filter_same p q [] same = refl
filter_same p q (x ∷ xs) same =
    let first : p x ≡ q x = same 0 0 (omega arith) in
    let rest : filter p xs ≡ filter q xs = filter_same p q xs (λ k d lt. same (suc k) d (omega (arith, lt))) in
    ap (λ (b : Bool). if b then x ∷ filter p xs else filter p xs) first ∙ ap (λ (ys : List ℕ). if q x then x ∷ ys else ys) rest

on_range : (p q : ℕ → Bool) (n : ℕ) → ((x : ℕ) → x < n → p x ≡ q x) → filter p (range_with_len 0 n) ≡ filter q (range_with_len 0 n)
on_range p q n same = filter_same p q (range_with_len 0 n) each where
  each : All (λ x. p x ≡ q x) (range_with_len 0 n)
  each k d low =
      let long = length-range_with_len 0 n in
      let within : k < n = omega (arith, low, long) in
      let e : get_or (range_with_len 0 n) k d ≡ k = omega (arith, get_or-range_with_len 0 n k d within) in
      subst (λ (x : ℕ). p x ≡ q x) (sym e) (same k within)

zero_or_one : (n : ℕ) → n < 2 → (n == 0) ≡ not (n == 1)
zero_or_one n low = elim (cases_Bool (n == 1)) [
  | inl is ↦ let e : (n == 0) ≡ false = grind (arith, nat_tests, is) in e ∙ sym (ap not is)
  | inr out ↦ let e : (n == 0) ≡ true = grind (arith, nat_tests, out, low) in e ∙ sym (ap not out)
]

pub stays_of : (lost : ℕ) (shape : Shape) (members : ℕ → MemberState) → AreMarkedLost lost shape members → (s : ℕ) → s < shape.b → (bit_at lost s == 0) ≡ not (is_lost members s)
stays_of lost shape members marked s low = zero_or_one (bit_at lost s) (bit_at-lt lost s) ∙ ap not (sym (marked s low))

pub left_same : (lost : ℕ) (shape : Shape) (members : ℕ → MemberState) → AreMarkedLost lost shape members → places_left lost shape.b ≡ left_of shape members
left_same lost shape members marked = on_range (λ s. bit_at lost s == 0) (λ s. not (is_lost members s)) shape.b (stays_of lost shape members marked)

-- ---- blocks

none_left : (left : List ℕ) (members : ℕ → MemberState) (sites : List Site) → All (λ (site : Site). is_left left site.boundary ≡ not (is_lost members site.boundary)) sites
    → not (has_site (sites_left left sites)) ≡ all_lost members sites
none_left left members [] same = refl
none_left left members (x ∷ xs) same =
    one (is_left left x.boundary) (is_lost members x.boundary) (same 0 x (omega arith)) (none_left left members xs (λ k d lt. same (suc k) d (omega (arith, lt))))
  where
    one : (stays lost : Bool) → stays ≡ not lost → not (has_site (sites_left left xs)) ≡ all_lost members xs
        → not (has_site (map (site_left left) (if stays then x ∷ filter (λ site. is_left left site.boundary) xs else filter (λ site. is_left left site.boundary) xs))) ≡ (lost && all_lost members xs)
    one true true e rest = absurd (false≢true (sym e))
    one true false e rest = refl
    one false true e rest = rest
    one false false e rest = absurd (false≢true e)

pub cut_same : (lost : ℕ) (table : Table) (members : ℕ → MemberState) → IsTable table → AreMarkedLost lost table.shape members
    → cut_off (places_left lost table.shape.b) table ≡ filter (λ b. is_gone table members b) (range_with_len 0 table.shape.n)
cut_same lost table members is marked = on_range (λ b. falls_out (places_left lost table.shape.b) (sites_in table b)) (λ b. is_gone table members b) table.shape.n one where
  one : (b : ℕ) → b < table.shape.n → falls_out (places_left lost table.shape.b) (sites_in table b) ≡ is_gone table members b
  one b low = ap (λ (t : Bool). has_site (sites_in table b) && t) (none_left (places_left lost table.shape.b) members (sites_in table b) (λ k d within.
      (let site = get_or (sites_in table b) k d in
      let here = is.boundaries b site.boundary site.slot (k, within, get_or_default (sites_in table b) k site d within) in
      left_is lost table.shape.b site.boundary here ∙ stays_of lost table.shape members marked site.boundary here)))

-- ---- bytes

pub one_extra : (one other : Extra) → IsExtra one → IsExtra other → extra_bytes one ≡ extra_bytes other → one ≡ other
one_extra one other is also same =
    let front = front_once (extra_bytes one) _ _ _ _ _ _ _ _ (says_front (extra_bytes one) one is refl) (says_front (extra_bytes one) other also same) in
    let cut : one.cut ≡ other.cut = numbers_once (numbers_bytes one.cut) one.cut other.cut (says_numbers one is)
    (let says = says_numbers other also in record { short = says.short; fit = says.fit; says = front.rest_is }) in
    λ i. record { length = front.size_is i; boundaries = front.boundaries_are i; live = front.live_are i; cut = cut i }
