-- What is found where the superblock is refused.
use Rattle.std.specs.Prelude.{◌≡◌, ◌∷◌, []}
use Rattle.ufs_model.specs.declared.geometries.BadSuper.{BadSuper}
use Rattle.ufs_model.specs.declared.malformations.BadKind.TheVariants.{Super}
use Rattle.ufs_audit.specs.declared.audits.Findings.{Findings}

-- the refusal alone
pub record IsRefusal (refusal : BadSuper) (findings : Findings) : Type 0 where
  pub bad : findings.bad.items ≡ (Super refusal, 0) ∷ []
  pub unnamed : findings.notes.unnamed.items ≡ []
  pub unclaimed : findings.notes.unclaimed.items ≡ []
