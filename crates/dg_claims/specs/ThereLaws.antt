-- Blocks that weren't gone when readers in a row began. For the crates that read a volume.
use Rattle.std.proofs.Common.{◌≡◌, ◌∙◌, ◌⊎◌, ◌+◌, ◌*◌, ◌/◌, ◌%◌, ◌<◌, ◌≤◌, ℕ, List, Bool, true, false, Some, inl, inr, refl, sym, subst, arith, Contains}
use Rattle.std.proofs.Math.Nat.{div-eq_of_lt, mod-eq_of_lt, mul-le-mul_right, one-mul}
use Rattle.std.specs.Bool.{then_some}
use Rattle.std.specs.List.{list_any}
use Rattle.std.proofs.lemmas.Bool.{cases_order, false≢true}
use Rattle.std.proofs.lemmas.List.Folds.{list_any_at}
use Rattle.ufs_model.specs.Blocks.{Volume, Reading, area_of, bind}
use Rattle.ufs_model.specs.Geometries.{IsGeometry, cgstart}
use Rattle.ufs_model.specs.Inodes.{inode_block}
use Rattle.ufs_model.specs.Readings.{Grows, ReadsAs}
use Rattle.ufs_model.specs.declared.geometries.Geometry.{Geometry}
use Rattle.ufs_pointer.specs.Fetches.{IsJust, IsNeeded}
use Rattle.dg_claims.specs.There.{WasThere}

not_true : (test : Bool) → (test ≡ true → ⊥) → test ≡ false
not_true true never = absurd (never refl)
not_true false never = refl

-- what isn't gone now wasn't before
pub not_before : (before now : ℕ → Bool) (b : ℕ) → Grows before now → now b ≡ false → before b ≡ false
not_before before now b grows there = not_true (before b) (λ was. false≢true (sym there ∙ grows b was))

any_of : (test : ℕ → Bool) (xs : List ℕ) (x : ℕ) → Contains xs x → test x ≡ true → list_any test xs ≡ true
any_of test xs x (i, low, at) holds = list_any_at test xs i x low (subst (λ y. test y ≡ true) (sym at) holds)

-- a reading that could be done needed no block that was gone
pub there_read : {A : Type 0} {stands : Volume → Type 0} {before after : ℕ → Bool} {tells : Type 0} {d : Reading A} (a : A)
    → ReadsAs stands before tells after d (Some a) → WasThere stands tells (IsNeeded d) before
there_read {before = before} {d = d} a read = record {
  each = λ is v holds b needs. not_true (before b) (λ was. false≢true (sym ((read.rule is v holds).unavailable (any_of before ((d v).needs) b needs was))));
}

-- the same of a reading that tells whether it could be done
pub there_could : {A : Type 0} {stands : Volume → Type 0} {before after : ℕ → Bool} {tells : Type 0} {d : Reading A} (could : Bool) (a : A)
    → ReadsAs stands before tells after d (then_some could a) → could ≡ true → WasThere stands tells (IsNeeded d) before
there_could true a read is = there_read a read
there_could false a read is = absurd (false≢true is)

-- On fewer volumes, of fewer blocks, at an earlier moment, where the view tells less in the end.
pub there_along : {stands still : Volume → Type 0} {tells told : Type 0} {kind other : Volume → ℕ → Type 0} {before now : ℕ → Bool}
    → Grows before now → (told → tells) → (told → (v : Volume) → stands v → still v × ((b : ℕ) → kind v b → other v b))
    → WasThere still tells other now → WasThere stands told kind before
there_along {before = before} {now = now} grows tell along one = record {
  each = λ is v holds b of_kind. let on = along is v holds in not_before before now b grows (one.each (tell is) v (on.0) b (on.1 b of_kind));
}

-- each block of a kind is of one of two other kinds
pub there_both : {stands : Volume → Type 0} {tells : Type 0} {one other kind : Volume → ℕ → Type 0} {gone : ℕ → Bool}
    → (tells → (v : Volume) → stands v → (b : ℕ) → kind v b → one v b ⊎ other v b) → WasThere stands tells one gone → WasThere stands tells other gone → WasThere stands tells kind gone
there_both cases first second = record {
  each = λ is v holds b of_kind. elim (cases is v holds b of_kind) [
    | inl h ↦ first.each is v holds b h
    | inr h ↦ second.each is v holds b h
  ];
}

-- ---- one block

one_need : (l a : ℕ) (v : Volume) → Contains ((area_of l a 1 v).needs) a
unfolding area_of bind
one_need l a v = (0, omega arith, let same : a + 0 ≡ a = omega arith in same)

-- the block that was read was there
pub there_one : {stands : Volume → Type 0} {tells : Type 0} {before after : ℕ → Bool} (l a : ℕ) (could : Bool) (bytes : List ℕ)
    → ReadsAs stands before tells after (area_of l a 1) (then_some could bytes) → could ≡ true → WasThere stands tells (IsJust a) before
there_one {before = before} l a could bytes read is = record {
  each = λ told v holds b same. subst (λ x. before x ≡ false) (sym same) ((there_could could bytes read is).each told v holds a (one_need l a v));
}

-- ---- the inodes, of which the first ones stand in one block

-- a group has inodes of a whole block at least
many_inodes : (g : Geometry) → IsGeometry g → (32 ≤ g.inopb) × (32 ≤ g.ipg)
many_inodes g is =
    let size = is.bsize.1 in
    let per : 32 ≤ g.inopb = rw is.inopb (omega (arith, size)) in
    let some = is.inodes.0 in
    let whole = is.inodes.1 in
    elim (cases_order g.ipg g.inopb) [
      | inl same ↦ (per, omega arith)
      | inr other ↦ elim other [
        | inl less ↦ absurd (let kept : g.ipg % g.inopb ≡ g.ipg = mod-eq_of_lt less in omega arith)
        | inr more ↦ (per, omega arith)
      ]
    ]

first_block : (g : Geometry) (i : ℕ) → IsGeometry g → i ≤ 2 → inode_block g i ≡ cgstart g 0 + g.iblkno
unfolding inode_block
first_block g i is low =
    let many = many_inodes g is in
    let per = many.0 in
    let some = many.1 in
    let least = is.fsize.0 in
    let group : i / g.ipg ≡ 0 = div-eq_of_lt (omega arith) in
    let index : i % g.ipg ≡ i = mod-eq_of_lt (omega arith) in
    let block : i / g.inopb ≡ 0 = div-eq_of_lt (omega arith) in
    let place : i % g.inopb ≡ i = mod-eq_of_lt (omega arith) in
    let fragment : 128 * i / g.fsize ≡ 0 = div-eq_of_lt (omega arith) in
    rw (group, index, block, place, fragment) (omega arith)

two_inodes : (g : Geometry) → IsGeometry g → 2 < g.ncg * g.ipg
two_inodes g is =
    let many = (many_inodes g is).1 in
    let some = is.groups.0 in
    let product : 1 * g.ipg ≤ g.ncg * g.ipg = mul-le-mul_right g.ipg some in
    let one : 1 * g.ipg ≡ g.ipg = one-mul g.ipg in
    omega arith

-- what holds of the block of each inode from 2 on holds of those of all inodes
pub all_blocks : (g : Geometry) (P : ℕ → Type 0) → IsGeometry g → ((i : ℕ) → 2 ≤ i → i < g.ncg * g.ipg → P (inode_block g i)) → (i : ℕ) → i < g.ncg * g.ipg → P (inode_block g i)
all_blocks g P is each i high = elim (cases_order i 2) [
  | inl same ↦ each i (omega arith) high
  | inr other ↦ elim other [
    | inl less ↦ subst P (first_block g 2 is (omega arith) ∙ sym (first_block g i is (omega arith))) (each 2 (omega arith) (two_inodes g is))
    | inr more ↦ each i (omega arith) high
  ]
]
