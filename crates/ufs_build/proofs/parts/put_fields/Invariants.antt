use Rattle.std.proofs.Common.{◌≡◌, drop}
use Rattle.ufs_build.specs.Parts.{field_parts, put_parts}
use Rattle.ufs_build.proofs.parts.put_fields.Given as goal

abbrev pub invariant-loop-field : goal.invariant-loop-field
invariant-loop-field l =
    put_parts (field_parts l.endian l.base (drop l.field-index l.fields)) l.image ≡ put_parts (field_parts l.endian l.base l.fields) l.initial.image
