-- What is told of blocks, and of paths, where there is no volume; and what isn't.
use Rattle.std.proofs.Common.{◌≡◌, inl, inr, ℕ, Bool, true, false, List, [], ◌∷◌, refl, sym, replicate}
use Rattle.std.proofs.lemmas.Bool.{false≢true}
use Rattle.std.specs.Prelude.{Err}
use Rattle.ufs_model.specs.Blocks.{Volume, area_of, area_within, bind}
use Rattle.ufs_model.specs.Numbers.{number_at}
use Rattle.ufs_model.specs.Owners.{BelongsTo, IsOwner}
use Rattle.ufs_model.specs.Superblocks.{geometry_by, geometry_in, geometry_of, superblock_of, endian_of, fields}
use Rattle.ufs_model.specs.declared.geometries.BadSuper.TheVariants.{Magic}
use Rattle.dg_model.specs.Marks.{AreLeft, IsDead, IsPlain, IsSpecial, IsVerdict, marked}
use Rattle.dg_model.specs.Tables.{Table}
use Rattle.dg_model.specs.Volumes.{IsClaimed, geometry_on}
use Rattle.dg_model.specs.Wants.{IsWant}
use Rattle.dg_model.specs.declared.sites.Site.{Site}
use Rattle.dg_model.specs.declared.verdicts.Who.TheVariants.{Pending, Idle, Dead}
use Rattle.dg_model.specs.declared.wants.Want.TheVariants.{Stray}
use Rattle.dg_model.proofs.MarkLaws.{unclaimed_without}
use Rattle.dg_model.proofs.PlanRows.{on}

abbrev pub blocks : Volume
blocks = replicate 2 (replicate 512 0)

pub no_volume : geometry_on 512 2 blocks ≡ Err Magic
unfolding geometry_of superblock_of area_within area_of bind geometry_in geometry_by endian_of fields number_at
no_volume = refl

abbrev pub table_of : List (List Site) → Table
table_of rows = record { shape = record { l = 512; n = 2; b = 2; k = 2; m = 1 }; rows = rows }

abbrev table : Table
table = table_of ((on 0 0 ∷ []) ∷ [] ∷ [])

pub not_special : (b : ℕ) → IsSpecial 512 2 blocks b → ⊥
not_special b e = elim e [ inl system ↦ absurd (rw no_volume at system) | inr outside ↦ absurd (rw no_volume at outside) ]

pub plain : (rows : List (List Site)) (b : ℕ) → IsPlain (table_of rows) blocks b
plain rows b = record { role = not_special b; unclaimed = unclaimed_without 512 2 blocks Magic b no_volume }

pub not_dead : (rows : List (List Site)) (marks : List Bool) (b : ℕ) → IsDead (table_of rows) blocks marks b → ⊥
not_dead rows marks b dead = absurd (rw no_volume at dead.free)

is_pending : IsVerdict table blocks (true ∷ false ∷ []) 0 Pending
is_pending = (plain table.rows 0, refl)

is_idle : IsVerdict table blocks (true ∷ false ∷ []) 1 Idle
is_idle = (plain table.rows 1, refl, not_dead table.rows (true ∷ false ∷ []) 1)

-- a pending block isn't told idle, and without a volume none is told dead
idle_while_pending : IsVerdict table blocks (true ∷ false ∷ []) 0 Idle → ⊥
idle_while_pending h = false≢true (sym h.1)

dead_without_volume : (b : ℕ) → IsVerdict table blocks (true ∷ false ∷ []) b Dead → ⊥
dead_without_volume b h = not_dead table.rows (true ∷ false ∷ []) b h

marked_blocks : marked (true ∷ false ∷ true ∷ []) ≡ 0 ∷ 2 ∷ []
marked_blocks = refl

-- without a volume each mark stays: a write makes its block pending
marks_stay : AreLeft (Unit {0}) 512 2 blocks (true ∷ true ∷ []) (true ∷ true ∷ [])
marks_stay = record {
  size = refl;
  fewer = λ b e. e;
  are = λ known b. ((λ e. (e, λ k. elim k [ inl system ↦ (plain [] b).role (inl system) | inr claim ↦ (plain [] b).unclaimed claim ])), (λ h. h.0));
}

-- and none may be dropped
mark_dropped : AreLeft (Unit {0}) 512 2 blocks (true ∷ true ∷ []) (true ∷ false ∷ []) → ⊥
mark_dropped left =
    let back = (left.are tt 1).1 in
    false≢true (back (refl, λ k. elim k [ inl system ↦ (plain [] 1).role (inl system) | inr claim ↦ (plain [] 1).unclaimed claim ]))

-- ---- wants

-- without a volume each written block is nobody's
pub owner_claims : (b i level : ℕ) → BelongsTo 512 2 blocks b i level → IsClaimed 512 2 blocks b
owner_claims b i level (IsOwner.by_own_slot only is) = (_, only.claim)
owner_claims b i level (IsOwner.by_upper only is above) = (_, only.claim)

pub is_stray : (b : ℕ) → IsWant 512 2 blocks b Stray
is_stray b = ((λ system. (plain [] b).role (inl system)), (λ i h. (plain [] b).unclaimed (owner_claims b i h.0 h.1)))
