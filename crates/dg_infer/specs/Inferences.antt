-- How an inference is kept.
use Rattle.std.specs.Prelude.{◌≡◌, ◌^◌, ◌<◌, IfSome, length}
use Rattle.ufs_model.specs.Geometries.{IsGeometryOn}
use Rattle.dg_claims.specs.Kept.{table_of}
use Rattle.dg_infer.specs.Meanings.{KeptInference}
use Rattle.dg_infer.specs.declared.inferences.Inference.TheInside.{Inside}

abbrev pub kept_in : Inside → KeptInference
kept_in inside = record {
  l = inside.l;
  n = inside.n;
  geometry = inside.geometry;
  claims = inside.claims;
  kinds = inside.kinds.entries;
  pending = inside.pending.items;
  free = inside.free.items;
}

-- The table has the geometry, which is one of the blocks, and each block has its marks.
pub record IsInference (inside : Inside) : Type 0 where
  pub same : (table_of inside.claims).geometry ≡ inside.geometry
  pub on : IfSome inside.geometry (IsGeometryOn inside.l inside.n)
  pub fits : inside.n < 2 ^ 32
  pub marks : length inside.pending.items ≡ inside.n
  pub free : length inside.free.items ≡ inside.n
