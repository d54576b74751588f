-- What a volume of n blocks of l bytes is by its geometry.
use Rattle.std.proofs.Common.{◌≡◌, ℕ, Result, Ok, Err, refl, sym, ap, subst}
use Rattle.ufs_model.specs.Blocks.{Volume, bind}
use Rattle.ufs_model.specs.Claims.{source_fragments, source_fragments_in, volume_fragments}
use Rattle.ufs_model.specs.Malformations.{IsBad, IsBadBy, IsMalformed, IsSoundVolume}
use Rattle.ufs_model.specs.Paths.{volume_geometry}
use Rattle.ufs_model.specs.Superblocks.{geometry_of}
use Rattle.ufs_model.specs.declared.geometries.BadSuper.{BadSuper}
use Rattle.ufs_model.specs.declared.geometries.Geometry.{Geometry}
use Rattle.ufs_model.specs.declared.malformations.BadKind.{BadKind}
use Rattle.ufs_model.specs.declared.malformations.BadKind.TheVariants.{Super}

pub accepted_is_read : (l n : ℕ) (v : Volume) (g : Geometry) → (geometry_of l n v).value ≡ Ok g → (volume_geometry l n v).value ≡ Ok g
unfolding volume_geometry bind
accepted_is_read l n v g is = rw is refl

-- ---- its claims

pub fragments_by : (l n : ℕ) (v : Volume) (g : Geometry) → (geometry_of l n v).value ≡ Ok g → volume_fragments l n v ≡ source_fragments g v
unfolding volume_fragments
fragments_by l n v g is = ap (source_fragments_in v) is

-- ---- a sound one

not_super : (l n : ℕ) (v : Volume) (bad : BadSuper) → (geometry_of l n v).value ≡ Err bad → IsMalformed l n v (Super bad) 0
unfolding IsMalformed
not_super l n v bad is = subst (λ found. IsBadBy v found (Super bad) 0) (sym is) (refl, refl)

pub sound_geometry : (l n : ℕ) (v : Volume) → IsSoundVolume l n v → (g : Geometry) × ((geometry_of l n v).value ≡ Ok g)
sound_geometry l n v sound = on ((geometry_of l n v).value) refl
  where
    on : (found : Result Geometry BadSuper) → (geometry_of l n v).value ≡ found → (g : Geometry) × ((geometry_of l n v).value ≡ Ok g)
    on (Ok g) is = (g, is)
    on (Err bad) is = absurd (sound (Super bad) 0 (not_super l n v bad is))

pub sound_by : (l n : ℕ) (v : Volume) (g : Geometry) → (geometry_of l n v).value ≡ Ok g → IsSoundVolume l n v → (kind : BadKind) (number : ℕ) → IsBad g v kind number → ⊥
unfolding IsMalformed
sound_by l n v g is sound kind number bad = sound kind number (subst (λ found. IsBadBy v found kind number) (sym is) bad)
