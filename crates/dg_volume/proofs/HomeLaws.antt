-- Homes that ascend, each of which is found by its inode.
use Rattle.std.proofs.Common.{◌≡◌, ◌<◌, ◌+◌, ◌^◌, ℕ, zero, suc, Bool, true, false, cond, List, [], ◌∷◌, length, get_or, map, refl, ◌∙◌, ap, subst, arith}
use Rattle.std.specs.Prelude.{◌==◌, All, Option, Some, if◌then◌else◌}
use Rattle.dg_model.proofs.SiteLists.{apart_test, same_test}
use Rattle.dg_model.specs.Homes.{Ascend, home_of}
use Rattle.dg_model.specs.Saves.{AreHomes}
use Rattle.dg_model.specs.declared.homes.Home.{Home}
use Rattle.dg_model.specs.declared.shapes.Shape.{Shape}

abbrev pub inodes : List Home → List ℕ
inodes homes = map (λ (home : Home). home.inode) homes

pub tail_ascends : (home : Home) (homes : List Home) → Ascend (home ∷ homes) → Ascend homes
tail_ascends home homes ascend k within =
    let next : suc k + 1 ≡ suc (k + 1) = omega arith in
    let later = ascend (suc k) (omega (arith, within)) in
    subst (λ (n : ℕ). get_or (inodes homes) k 0 < get_or (inodes (home ∷ homes)) n 0) next later

-- inodes behind one are above it
pub above : (home : Home) (homes : List Home) (k : ℕ) (d : Home) → Ascend (home ∷ homes) → k < length homes → home.inode < (get_or homes k d).inode
above home [] k d ascend within = absurd (omega (arith, within))
above home (next ∷ homes) zero d ascend within = ascend 0 (omega arith)
above home (next ∷ homes) (suc k) d ascend within =
    let first = ascend 0 (omega arith) in
    let far = above next homes k d (tail_ascends home (next ∷ homes) ascend) (omega (arith, within)) in
    omega (arith, first, far)

-- the home at a place is the one that is found by its inode
pub found_at : (homes : List Home) (k : ℕ) (d : Home) → Ascend homes → k < length homes → home_of homes (get_or homes k d).inode ≡ Some (get_or homes k d).boundary
found_at [] k d ascend within = absurd (omega (arith, within))
found_at (home ∷ homes) zero d ascend within = ap (λ (b : Bool). cond b (Some home.boundary) (home_of homes home.inode)) (same_test home.inode home.inode refl)
found_at (home ∷ homes) (suc k) d ascend within =
    let i = (get_or homes k d).inode in
    let low = above home homes k d ascend (omega (arith, within)) in
    ap (λ (b : Bool). cond b (Some home.boundary) (home_of homes i)) (apart_test home.inode i (λ e. absurd (omega (arith, e, low))))
    ∙ found_at homes k d (tail_ascends home homes ascend) (omega (arith, within))

-- homes of which each that is found is on a boundary of the array
pub are_homes : (shape : Shape) (homes : List Home) → Ascend homes → ((i s : ℕ) → home_of homes i ≡ Some s → s < shape.b)
    → All (λ (home : Home). home.inode < 2 ^ 32) homes → AreHomes shape homes
are_homes shape homes ascend within small =
    (ascend, λ k d low. (small k d low, within ((get_or homes k d).inode) ((get_or homes k d).boundary) (found_at homes k d ascend low)))

-- and each that is found is there
pub home_within : (shape : Shape) (homes : List Home) (i s : ℕ) → AreHomes shape homes → home_of homes i ≡ Some s → s < shape.b
home_within shape homes i s are is = at_some homes are.1 is
  where
    by_test : (b : Bool) {low : ℕ} {rest : Option ℕ} → low < shape.b → (rest ≡ Some s → s < shape.b) → (if b then Some low else rest) ≡ Some s → s < shape.b
    by_test true {low} below rest is = let same : low ≡ s = cc is in subst (λ (k : ℕ). k < shape.b) same below
    by_test false below rest is = rest is

    at_some : (homes : List Home) → All (λ (home : Home). (home.inode < 2 ^ 32) × (home.boundary < shape.b)) homes → home_of homes i ≡ Some s → s < shape.b
    at_some [] all is = absurd (cc is)
    at_some (home ∷ homes) all is =
        by_test (home.inode == i) (all 0 home (omega arith)).1 (λ more. at_some homes (λ k d low. all (suc k) d (omega (arith, low))) more) is
