-- What is claimed is data of a group.
use Rattle.std.proofs.Common.{◌≡◌, ℕ, zero, suc, ◌+◌, ◌-◌, ◌*◌, ◌/◌, ◌<◌, ◌≤◌, inl, inr, Bool, true, false, ◌&&◌, List, [], ◌∷◌, Option, Some, None, refl, subst, arith}
use Rattle.std.specs.Prelude.{◌==◌, Contains, if◌then◌else◌, nat_le, nat_lt}
use Rattle.std.proofs.Math.Nat.{div-lt_iff_lt-mul}
use Rattle.std.proofs.lemmas.Bool.{and_parts, cases_lt, false≢true}
use Rattle.std.proofs.lemmas.Bool.Decides.{nat_tests}
use Rattle.std.proofs.lemmas.List.Elements.{Contains-append_cases}
use Rattle.ufs_model.specs.Blocks.{Volume, block_at}
use Rattle.ufs_model.specs.Claims.{IsClaim, fragments_at, fragments_from, pointer_fragments, slot_fragments, slot_fragments_in, source_fragments}
use Rattle.ufs_model.specs.Claims.IsClaim.{by_pointer, by_slot}
use Rattle.ufs_model.specs.Geometries.{IsGeometry, cgstart}
use Rattle.ufs_model.specs.Inodes.{has_pointers, inode_of, is_inode_number, slot_of, span}
use Rattle.ufs_model.specs.Numbers.{all_below}
use Rattle.ufs_model.specs.Pointers.{address, is_data_run, pointer_in}
use Rattle.ufs_model.specs.Roles.{has_super, is_data_of, role, role_in}
use Rattle.ufs_model.specs.declared.claims.ClaimSource.{ClaimSource}
use Rattle.ufs_model.specs.declared.claims.ClaimSource.TheVariants.{Pointer, Slot}
use Rattle.ufs_model.specs.declared.geometries.Geometry.{Geometry}
use Rattle.ufs_model.specs.declared.inodes.Inode.{Inode}
use Rattle.ufs_model.specs.declared.pointers.Address.TheVariants.{At, Hole, Wild}
use Rattle.ufs_model.specs.declared.roles.Role.{Role}
use Rattle.ufs_model.specs.declared.roles.Role.TheVariants.{Outside, System}
use Rattle.ufs_model.specs.declared.roles.SystemKind.TheVariants.{Boot, Super}
use Rattle.ufs_frames.proofs.FragmentLaws.{in_none, in_one}

-- a fragment is data of some group
pub record IsData (g : Geometry) (f : ℕ) : Type 0 where
  pub group : ℕ
  pub is : is_data_of group (role g f) ≡ true

below_at : (test : ℕ → Bool) (n : ℕ) → all_below test n ≡ true → (i : ℕ) → i < n → test i ≡ true
below_at test zero all i low = absurd (omega arith)
below_at test (suc n) all i low =
    let parts = and_parts (all_below test n) (test n) all in
    elim (cases_lt i n) [
      | inl lt ↦ below_at test n (parts.0) i lt
      | inr ge ↦ let e : n ≡ i = omega arith in subst (λ (k : ℕ). test k ≡ true) e (parts.1)
    ]

pub fragments_within : (a k f : ℕ) → Contains (fragments_from a k) f → (a ≤ f) × (f < a + k)
fragments_within a zero f h = absurd (in_none f h)
fragments_within a (suc k) f h = elim (Contains-append_cases (a ∷ []) (fragments_from (suc a) k) f h) [
  | inl first ↦ let same = in_one a f first in (omega arith, omega arith)
  | inr later ↦ let range = fragments_within (suc a) k f later in (let low = range.0 in omega arith, let high = range.1 in omega arith)
]

at_by : (zero_pointer run : Bool) (g : Geometry) (a k f : ℕ) → is_data_run g a k ≡ run → Contains (fragments_at (if zero_pointer then Hole else if run then At a k else Wild)) f
    → (is_data_run g a k ≡ true) × (a ≤ f) × (f < a + k)
at_by true run g a k f is h = absurd (in_none f h)
at_by false true g a k f is h = let range = fragments_within a k f h in (is, range.0, range.1)
at_by false false g a k f is h = absurd (in_none f h)

address_data : (g : Geometry) (a k f : ℕ) → Contains (fragments_at (address g a k)) f → IsData g f
unfolding address is_data_run
address_data g a k f h =
    let run = at_by (a == 0) (is_data_run g a k) g a k f refl h in
    let low = run.1 in
    let high = run.2 in
    let place : a + (f - a) ≡ f = omega arith in
    record {
      group = a / g.fpg;
      is = subst (λ (b : ℕ). is_data_of (a / g.fpg) (role g b) ≡ true) place (below_at (λ i. is_data_of (a / g.fpg) (role g (a + i))) k (run.0) (f - a) (omega arith));
    }

-- ---- what a source claims

pub if_contains : (b : Bool) (xs : List ℕ) (f : ℕ) → Contains (if b then xs else []) f → Contains xs f
if_contains true xs f h = h
if_contains false xs f h = absurd (in_none f h)

slot_data : (g : Geometry) (inode : Inode) (slot f : ℕ) → Contains (slot_fragments g inode slot) f → IsData g f
unfolding slot_fragments
slot_data g inode slot f h = address_data g (slot_of inode slot) (span g inode slot) f
    (if_contains (has_pointers g inode && nat_lt slot 15) (fragments_at (address g (slot_of inode slot) (span g inode slot))) f h)

found_data : (g : Geometry) (slot f : ℕ) (found : Option Inode) → Contains (slot_fragments_in g slot found) f → IsData g f
found_data g slot f None h = absurd (in_none f h)
found_data g slot f (Some inode) h = slot_data g inode slot f h

source_data : (g : Geometry) (v : Volume) (source : ClaimSource) (f : ℕ) → Contains (source_fragments g v source) f → IsData g f
unfolding source_fragments pointer_fragments
source_data g v (Slot i slot) f h = found_data g slot f ((inode_of g i v).value) (if_contains (is_inode_number g i) (slot_fragments_in g slot ((inode_of g i v).value)) f h)
source_data g v (Pointer upper level at) f h = address_data g (pointer_in g.endian (block_at g.fsize v upper) at) g.frag f
    (if_contains (nat_lt at (g.fsize / 4)) (fragments_at (address g (pointer_in g.endian (block_at g.fsize v upper) at) g.frag)) f h)

claim_contains : (claimed : ClaimSource → List ℕ) (f : ℕ) (source : ClaimSource) → IsClaim claimed f source → Contains (claimed source) f
claim_contains claimed f source (by_slot h) = h
claim_contains claimed f source (by_pointer upper level above h) = h

pub claim_data : (g : Geometry) (v : Volume) (f : ℕ) (source : ClaimSource) → IsClaim (source_fragments g v) f source → IsData g f
claim_data g v f source claim = source_data g v source f (claim_contains (source_fragments g v) f source claim)

-- ---- data is inside the volume

role_by : (past super boot : Bool) (c : ℕ) (rest : Role) → is_data_of c (if past then Outside else if super then System Super else if boot then System Boot else rest) ≡ true → past ≡ false
role_by true super boot c rest h = absurd (false≢true h)
role_by false super boot c rest h = refl

inside : (g : Geometry) (f : ℕ) → IsData g f → f < g.size
unfolding role
inside g f data_of =
    let past : nat_le g.size f ≡ false = role_by (nat_le g.size f) (has_super g.fsize f) (nat_lt f (cgstart g 0 + g.sblkno)) data_of.group (role_in g (f / g.fpg) (cgstart g (f / g.fpg)) f) data_of.is in
    grind (arith, nat_tests)

-- its group is one of the volume's
pub data_group : (g : Geometry) (f : ℕ) → IsGeometry g → IsData g f → f / g.fpg < g.ncg
data_group g f is data_of =
    let low = inside g f data_of in
    let groups = is.groups in
    let size : g.size ≤ g.ncg * g.fpg = groups.3 in
    let some : 1 ≤ g.fpg = groups.1 in
    (div-lt_iff_lt-mul {k = g.fpg} {x = f} {y = g.ncg} (omega arith)).1 (omega arith)

-- an inode's group is one of the volume's
pub inode_group : (g : Geometry) (i : ℕ) → IsGeometry g → i < g.ncg * g.ipg → i / g.ipg < g.ncg
inode_group g i is low =
    let inodes = is.inodes in
    let some : 1 ≤ g.ipg = inodes.0 in
    (div-lt_iff_lt-mul {k = g.ipg} {x = i} {y = g.ncg} (omega arith)).1 (omega arith)
