-- A dead block that becomes one of zeros leaves what an inference stands for.
use Rattle.std.proofs.Common.{◌≡◌, ◌∙◌, ℕ, ◌<◌, ◌*◌, inl, inr, List, true, Option, Some, None, IfSome, refl, sym, ap, subst}
use Rattle.std.proofs.lemmas.Bool.{false≢true}
use Rattle.std.specs.Prelude.{slice_set, Ok}
use Rattle.dg_model.specs.Volumes.{geometry_on}
use Rattle.ufs_frames.specs.Frames.{AgreeOn, HaveSameClaims, IsUsed, of_claim, of_system}
use Rattle.ufs_model.specs.Blocks.{Volume}
use Rattle.ufs_model.specs.Geometries.{IsGeometryOn}
use Rattle.ufs_model.specs.Inodes.{inode_block}
use Rattle.ufs_model.specs.Metadata.{IsMetadata, IsStructure, by_geometry, of_inode, of_metadata}
use Rattle.ufs_model.specs.Roles.{is_system, role}
use Rattle.ufs_model.specs.Superblocks.{geometry_of}
use Rattle.ufs_model.specs.declared.geometries.Geometry.{Geometry}
use Rattle.ufs_model.specs.declared.roles.Role.{Role}
use Rattle.ufs_model.specs.declared.roles.Role.TheVariants.{Data}
use Rattle.dg_claims.specs.Kept.{table_of}
use Rattle.dg_claims.specs.Tables.{IsTableOf, accepted}
use Rattle.dg_infer.proofs.GroupLaws.{free_kept}
use Rattle.dg_infer.proofs.KindLaws.{kind_none, kind_off}
use Rattle.dg_infer.proofs.ListLaws.{below_cases}
use Rattle.dg_infer.proofs.SweepLaws.{area_is_metadata, group_area}
use Rattle.dg_infer.proofs.TargetLaws.{other_block}
use Rattle.dg_infer.proofs.VerdictLaws.{some_is}
use Rattle.dg_infer.proofs.VolumeLaws.{accepted_some, known_by, length_mark}
use Rattle.dg_infer.proofs.WriteLaws.{free_by_of, free_on_of, kinds_by, kinds_on}
use Rattle.dg_infer.specs.Known.{HasClaim, IsDataBy, role_by}
use Rattle.dg_infer.specs.Meanings.{KeptInference, StandsFor, kind_by}

data_not_system : (r : Role) (c : ℕ) → r ≡ Data c → is_system r ≡ true → ⊥
data_not_system r c e t = false≢true (sym (ap is_system e) ∙ t)

some_geometry : (x y : Geometry) → Some x ≡ Some y → x ≡ y
some_geometry x y e = cc

no_role : (o : Option Geometry) (b c : ℕ) → o ≡ None → role_by o b ≡ Some (Data c) → ⊥
no_role o b c none e = let there : None ≡ Some (Data c) = sym (ap (λ x. role_by x b) none) ∙ e in cc

-- the block is none that the volume's structure needs
not_used : (kept : KeptInference) (v : Volume) (b : ℕ) (g : Geometry) (c : ℕ) → StandsFor kept v → kept.geometry ≡ Some g → role g b ≡ Data c
    → (HasClaim ((table_of kept.claims).claimed) b → ⊥) → IsUsed kept.l kept.n v b → ⊥
not_used kept v b g c stands known there bare (of_system h is own) =
    let same : g ≡ h = some_geometry g h (sym known ∙ stands.geometry ∙ ap accepted is) in
    data_not_system (role h b) c (ap (λ x. role x b) (sym same) ∙ there) own
not_used kept v b g c stands known there bare (of_claim source claim) = bare (source, (stands.claims.claims b source).1 claim)

other_kind : (g : Geometry) (v : Volume) (b : ℕ) (bytes : List ℕ) (i : ℕ) → ((inode : ℕ) → inode < g.ncg * g.ipg → inode_block g inode ≡ b → ⊥) → kind_by g v i ≡ kind_by g (slice_set v b bytes) i
other_kind g v b bytes i off = elim (below_cases i (g.ncg * g.ipg)) [
  | inl small ↦ kind_off g v b bytes i (off i small)
  | inr past ↦ kind_none g v i (inr past) ∙ sym (kind_none g (slice_set v b bytes) i (inr past))
]

reaped_by : ((l n : ℕ) (v : Volume) (g : Geometry) (b : ℕ) → (geometry_of l n v).value ≡ Ok g → IsStructure l n v b → IsUsed l n v b)
    → ((l n : ℕ) (v w : Volume) → AgreeOn l (IsMetadata l n v) v w → HaveSameClaims l n v w)
    → (kept : KeptInference) (v : Volume) (b : ℕ) (bytes : List ℕ) (c : ℕ) (o : Option Geometry) → kept.geometry ≡ o → IfSome o (IsGeometryOn kept.l kept.n) → StandsFor kept v → role_by o b ≡ Some (Data c)
    → (HasClaim ((table_of kept.claims).claimed) b → ⊥) → StandsFor kept (slice_set v b bytes)
reaped_by used same kept v b bytes c None known on stands there bare = absurd (no_role None b c refl there)
reaped_by used same kept v b bytes c (Some g) known on stands there bare =
    let w = slice_set v b bytes in
    let data_role : role g b ≡ Data c = some_is (role g b) (Data c) there in
    let ok : geometry_on kept.l kept.n v ≡ Ok g = accepted_some (geometry_on kept.l kept.n v) g (sym known ∙ stands.geometry) in
    let apart : IsMetadata kept.l kept.n v b → ⊥ = λ m. not_used kept v b g c stands known data_role bare (used kept.l kept.n v g b ok (of_metadata m)) in
    let agree : AgreeOn kept.l (IsMetadata kept.l kept.n v) v w = λ k m. sym (other_block kept.l v b bytes k (λ e. apart (subst (λ x. IsMetadata kept.l kept.n v x) e m))) in
    let have = same kept.l kept.n v w agree in
    let geometry : kept.geometry ≡ accepted (geometry_on kept.l kept.n w) = stands.geometry ∙ ap (λ x. accepted (x.value)) (sym have.geometry) in
    let table : IsTableOf kept.l kept.n w (table_of kept.claims) = record {
      geometry = stands.claims.geometry ∙ ap (λ x. accepted (x.value)) (sym have.geometry);
      claims = λ fragment source. (
        λ h. (have.claims fragment source).1 ((stands.claims.claims fragment source).0 h),
        λ h. (stands.claims.claims fragment source).1 ((have.claims fragment source).0 h),
      );
    } in
    record {
      number = length_mark v b bytes ∙ stands.number;
      geometry = geometry;
      claims = table;
      kinds = kinds_on w g kept.geometry kept.kinds known (λ i. kinds_by v g kept.geometry kept.kinds known stands.kinds i
          ∙ other_kind g v b bytes i (λ inode small here. apart (by_geometry g ok (of_inode inode small (sym here)))));
      free = free_on_of w g kept.geometry kept.free known (free_kept g v b bytes kept.free on.tests (λ group small in_block. apart (by_geometry g ok (area_is_metadata g v (group_area g v group b small in_block))))
          (free_by_of v g kept.geometry kept.free known stands.free));
      pending = λ f t k. stands.pending f t ((known_by kept.l kept.n v kept.geometry (table_of kept.claims) f stands.geometry stands.claims).1
          ((known_by kept.l kept.n w kept.geometry (table_of kept.claims) f geometry table).0 k));
    }

pub reaped_stands : ((l n : ℕ) (v : Volume) (g : Geometry) (b : ℕ) → (geometry_of l n v).value ≡ Ok g → IsStructure l n v b → IsUsed l n v b)
    → ((l n : ℕ) (v w : Volume) → AgreeOn l (IsMetadata l n v) v w → HaveSameClaims l n v w)
    → (kept : KeptInference) (v : Volume) (b : ℕ) (bytes : List ℕ) → IfSome kept.geometry (IsGeometryOn kept.l kept.n) → StandsFor kept v → IsDataBy kept.geometry b
    → (HasClaim ((table_of kept.claims).claimed) b → ⊥) → StandsFor kept (slice_set v b bytes)
reaped_stands used same kept v b bytes on stands there bare = reaped_by used same kept v b bytes (there.0) kept.geometry refl on stands (there.1) bare
