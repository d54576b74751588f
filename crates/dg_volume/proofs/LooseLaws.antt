-- Dead blocks that become blocks of zeros change neither the structure of a volume, nor what is read of it by a path.
use Rattle.std.proofs.Common.{◌≡◌, ◌∙◌, ◌⊎◌, ℕ, Bool, true, List, [], length, inl, inr, sym, ap, subst, arith}
use Rattle.std.specs.Prelude.{IsOkAnd, Ok, Result, replicate}
use Rattle.std.proofs.lemmas.Bool.{cases_lt, false≢true}
use Rattle.std.proofs.lemmas.List.{get_or_default, get_or_past}
use Rattle.dg_model.specs.Blocks.{block_in, zeros}
use Rattle.dg_model.specs.Marks.{IsDead}
use Rattle.dg_model.specs.Tables.{Table}
use Rattle.ufs_frames.specs.Frames.{AgreeOn, DifferLoosely, HasWholeIndirects, IsLoose, IsUsed, of_claim, of_system}
use Rattle.ufs_model.specs.Blocks.{Volume, block_at}
use Rattle.ufs_model.specs.GroupMaps.{is_marked_free}
use Rattle.ufs_model.specs.Roles.{is_system, role}
use Rattle.ufs_model.specs.Superblocks.{geometry_of}
use Rattle.ufs_model.specs.declared.geometries.BadSuper.{BadSuper}
use Rattle.ufs_model.specs.declared.geometries.Geometry.{Geometry}
use Rattle.ufs_model.specs.declared.roles.Role.TheVariants.{Data}

-- loose blocks may change
abbrev pub LooseBlocksChange : Type 0
LooseBlocksChange = (l n : ℕ) (v w : Volume) (g : Geometry) → (geometry_of l n v).value ≡ Ok g → HasWholeIndirects l n v
    → AgreeOn l (λ b. IsLoose l n v b → ⊥) v w → DifferLoosely l n v w

-- a block is the same, whatever stands for one past the end
at_any : (l : ℕ) (V W : Volume) (b : ℕ) → length W ≡ length V → block_in W b ≡ block_in V b → block_at l W b ≡ block_at l V b
at_any l V W b count same = elim (cases_lt b (length V)) [
  | inl low ↦
      get_or_default W b (replicate l 0) [] (omega (arith, low, count)) ∙ same ∙ sym (get_or_default V b (replicate l 0) [] low)
  | inr past ↦ get_or_past W b (replicate l 0) (omega (arith, past, count)) ∙ sym (get_or_past V b (replicate l 0) past)
]

module _ (table : Table) (marks : List Bool) (V : Volume) where
  not_used : (b : ℕ) → IsDead table V marks b → IsUsed table.shape.l table.shape.n V b → ⊥
  not_used b dead (of_system g is own) =
      let free = subst (λ (r : Result Geometry BadSuper). IsOkAnd r (λ g. ((c : ℕ) × (role g b ≡ Data c)) × ((is_marked_free g b V).value ≡ true))) is dead.free in
      false≢true (sym (ap is_system (free.0.1)) ∙ own)
  not_used b dead (of_claim source claim) = dead.unclaimed (source, claim)

  loose_dead : (b : ℕ) (g : Geometry) → (geometry_of table.shape.l table.shape.n V).value ≡ Ok g → IsDead table V marks b → IsLoose table.shape.l table.shape.n V b
  loose_dead b g accepted dead = record { geometry = g; accepted = accepted; unused = not_used b dead }

  pub reaped_differ : LooseBlocksChange → (W : Volume) → length W ≡ length V
      → ((b : ℕ) → (block_in W b ≡ block_in V b) ⊎ (IsDead table V marks b × (block_in W b ≡ zeros table.shape.l)))
      → (g : Geometry) → (geometry_of table.shape.l table.shape.n V).value ≡ Ok g → HasWholeIndirects table.shape.l table.shape.n V → DifferLoosely table.shape.l table.shape.n V W
  reaped_differ law W count each g accepted whole =
      law table.shape.l table.shape.n V W g accepted whole (λ b apart. elim (each b) [
        | inl same ↦ at_any table.shape.l V W b count same
        | inr dead ↦ absurd (apart (loose_dead b g accepted dead.0))
      ])
