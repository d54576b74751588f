-- A volume has one first malformation at most.
use Rattle.std.proofs.Common.{◌≡◌, ◌∙◌, ◌-◌, ℕ, List, [], ◌∷◌, refl, sym, ap, subst, inl, inr}
use Rattle.std.specs.Prelude.{Result, Ok, Err, slice_index_or}
use Rattle.std.proofs.lemmas.Bool.{cases_order}
use Rattle.ufs_model.specs.Blocks.{Volume}
use Rattle.ufs_model.specs.Malformations.{IsBad, IsBadBy, IsFirstMalformation, IsMalformed, order_of}
use Rattle.ufs_model.specs.Superblocks.{geometry_of}
use Rattle.ufs_model.specs.declared.geometries.BadSuper.{BadSuper}
use Rattle.ufs_model.specs.declared.geometries.Geometry.{Geometry}
use Rattle.ufs_model.specs.declared.malformations.BadKind.{BadKind}
use Rattle.ufs_model.specs.declared.malformations.BadKind.TheVariants.{Super, GroupMagic, GroupMap, WrongType, Filesize, Past, Wild as WildSlot, WildIn, Align, AlignIn, Run, Twice, PastIn, Free, Unused, Hole as HoleIn, Chunk, Entry, EntryType, Dots, Names, DirTwice, RootNamed}

-- the kinds in their order, those behind the refusals of a superblock
abbrev kinds : List BadKind
kinds = GroupMagic ∷ GroupMap ∷ WrongType ∷ Filesize ∷ Past ∷ WildSlot ∷ WildIn ∷ Align ∷ AlignIn ∷ Run ∷ Twice ∷ PastIn ∷ Free ∷ Unused ∷ HoleIn ∷ Chunk ∷ Entry ∷ EntryType ∷ Dots ∷ Names ∷ DirTwice ∷ RootNamed ∷ []

-- the kind with a number in the order, from 1 on
abbrev kind_at : ℕ → BadKind
kind_at n = slice_index_or kinds (n - 1) RootNamed

abbrev IsBehind : BadKind → Type 0
IsBehind (Super bad) = ⊥
IsBehind kind = Unit {0}

kind_is : (kind : BadKind) → IsBehind kind → kind_at (order_of kind) ≡ kind
kind_is (Super bad) behind = absurd behind
kind_is GroupMagic behind = refl
kind_is GroupMap behind = refl
kind_is WrongType behind = refl
kind_is Filesize behind = refl
kind_is Past behind = refl
kind_is WildSlot behind = refl
kind_is WildIn behind = refl
kind_is Align behind = refl
kind_is AlignIn behind = refl
kind_is Run behind = refl
kind_is Twice behind = refl
kind_is PastIn behind = refl
kind_is Free behind = refl
kind_is Unused behind = refl
kind_is HoleIn behind = refl
kind_is Chunk behind = refl
kind_is Entry behind = refl
kind_is EntryType behind = refl
kind_is Dots behind = refl
kind_is Names behind = refl
kind_is DirTwice behind = refl
kind_is RootNamed behind = refl

module _ (v : Volume) where
  behind_super : (g : Geometry) (kind : BadKind) (number : ℕ) → IsBad g v kind number → IsBehind kind
  behind_super g (Super bad) number h = absurd h
  behind_super g kind number h = tt

  by_geometry : (found : Result Geometry BadSuper) (kind other : BadKind) (a b : ℕ) → IsBadBy v found kind a → IsBadBy v found other b → order_of kind ≡ order_of other → kind ≡ other
  by_geometry (Err bad) kind other a b h g same = h.0 ∙ sym g.0
  by_geometry (Ok geometry) kind other a b h g same =
      sym (kind_is kind (behind_super geometry kind a h)) ∙ ap kind_at same ∙ kind_is other (behind_super geometry other b g)

module _ (l n : ℕ) (v : Volume) where
  one_kind : (kind other : BadKind) (a b : ℕ) → IsMalformed l n v kind a → IsMalformed l n v other b → order_of kind ≡ order_of other → kind ≡ other
  unfolding IsMalformed
  one_kind kind other a b h g same = by_geometry v ((geometry_of l n v).value) kind other a b h g same

  one_order : (kind other : BadKind) (a b : ℕ) → IsFirstMalformation l n v kind a → IsFirstMalformation l n v other b → order_of kind ≡ order_of other
  one_order kind other a b h g = elim (cases_order (order_of kind) (order_of other)) [
    | inl same ↦ same
    | inr apart ↦ elim apart [ inl low ↦ absurd (g.first kind a low h.here) | inr high ↦ absurd (h.first other b high g.here) ]
  ]

  -- one number, and one kind
  pub one_malformation : (kind other : BadKind) (a b : ℕ) → IsFirstMalformation l n v kind a → IsFirstMalformation l n v other b → (kind ≡ other) × (a ≡ b)
  one_malformation kind other a b h g =
      let same = one_kind kind other a b h.here g.here (one_order kind other a b h g) in (
        same,
        elim (cases_order a b) [
          | inl one ↦ one
          | inr apart ↦ elim apart [
            | inl low ↦ absurd (g.least a low (subst (λ (k : BadKind). IsMalformed l n v k a) same h.here))
            | inr high ↦ absurd (h.least b high (subst (λ (k : BadKind). IsMalformed l n v k b) (sym same) g.here))
          ]
        ],
      )
