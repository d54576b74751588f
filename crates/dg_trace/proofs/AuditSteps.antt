-- How an audit of an image ends.
use Rattle.std.proofs.Common.{◌≡◌, ◌∙◌, ◌+◌, ◌-◌, ◌*◌, ◌≤◌, ◌++◌, ◌∷◌, [], ℕ, Bool, true, false, List, ap, append_assoc, drop, inr, length, map, refl, replicate, subst, sym, take, arith}
use Rattle.std.specs.Prelude.{Option, None, Some, Result, Ok, Err}
use Rattle.std.proofs.lemmas.List.FromFn.{get_or-map-range_with_len, length-map-range_with_len}
use Rattle.dg_io.specs.MemViews.{IsImage}
use Rattle.dg_io.specs.Told.{Told, Took, TookPart}
use Rattle.dg_model.specs.Findings.{TellsFindings, bad_line}
use Rattle.dg_model.specs.declared.findings.Finding.{Finding}
use Rattle.dg_model.specs.declared.findings.Finding.TheVariants.{Bad, Unnamed, Unclaimed}
use Rattle.dg_text.specs.Lines.{AreBytes}
use Rattle.dg_trace.specs.Answers.{IsInSize, volume_bytes}
use Rattle.dg_trace.specs.Audits.{AreLinesBy, AuditEnds, EndsAudit, IsAudit, audit_text, blocks_in, end_by, end_of, has_bad}
use Rattle.dg_trace.specs.Calls.{Facts}
use Rattle.dg_trace.specs.Images.{GaveImage}
use Rattle.dg_trace.specs.Volumes.{volume_on}
use Rattle.dg_trace.specs.declared.asked.TraceFault.{TraceFault}
use Rattle.dg_trace.specs.declared.asked.TraceFault.TheVariants.{NoMemory, Read, Write}
use Rattle.dg_trace.specs.declared.audits.AuditEnd.{AuditEnd}
use Rattle.ufs_audit.specs.declared.audits.Findings.{Findings}
use Rattle.ufs_build.specs.Traces.{block_in}
use Rattle.ufs_model.specs.Audits.{AreFindings}
use Rattle.ufs_model.specs.Blocks.{Volume}
use Rattle.ufs_model.specs.declared.geometries.BadSuper.{BadSuper}
use Rattle.ufs_model.specs.declared.geometries.Geometry.{Geometry}
use Rattle.ufs_model.specs.declared.malformations.BadKind.TheVariants.{Super}

-- the bytes of a volume are an image of its blocks
pub image_blocks : (g : Geometry) (bytes : List ℕ) → IsImage bytes g.size g.fsize (blocks_in g bytes)
image_blocks g bytes = record {
  number = length-map-range_with_len (λ b. block_in g.fsize bytes b) 0 g.size;
  each = λ b low.
      let size : g.fsize ≡ (b * g.fsize + g.fsize) - b * g.fsize = omega arith in
      get_or-map-range_with_len (λ c. block_in g.fsize bytes c) 0 g.size b b (replicate g.fsize 0) low (omega arith) ∙ ap (λ (k : ℕ). take k (drop (b * g.fsize) bytes)) size;
}

-- the lines of all findings
pub findings_told : (l n : ℕ) (v : Volume) (found : Findings) (lines : List Finding)
    → lines ≡ map bad_line found.bad.items ++ (map Unnamed found.notes.unnamed.items ++ map Unclaimed found.notes.unclaimed.items)
    → AreFindings l n v found.bad.items found.notes.unnamed.items found.notes.unclaimed.items → TellsFindings l n v lines
findings_told l n v found lines is are =
    record {
      bad = found.bad.items;
      unnamed = found.notes.unnamed.items;
      unclaimed = found.notes.unclaimed.items;
      is = is ∙ sym (append_assoc (map bad_line found.bad.items) (map Unnamed found.notes.unnamed.items) (map Unclaimed found.notes.unclaimed.items));
      are = are;
    }

module _ (image : List ℕ) (x y : Option (List ℕ)) where
  lines_end : (lines : List Finding) (bad : Bool) → has_bad lines ≡ bad → IsAudit image (Some lines) → Told (Took (audit_text (Some lines))) x y → EndsAudit image x y (Ok (end_by bad))
  lines_end lines true e is told = (lines, record { is = is; output = told }, e)
  lines_end lines false e is told = (lines, record { is = is; output = told }, e)

  -- what was found was printed
  pub found_end : (found : Option (List Finding)) → IsAudit image found → Told (Took (audit_text found)) x y → EndsAudit image x y (Ok (end_of found))
  found_end None is told = record { is = is; output = told }
  found_end (Some lines) is told = lines_end lines (has_bad lines) refl is told

  -- or a part of it
  pub part_end : (found : Option (List Finding)) → IsAudit image found → Told (TookPart (audit_text found)) x y → EndsAudit image x y (Err Write)
  part_end found is told = (found, record { is = is; output = told })

-- an image that was read, and what followed
pub audit_read : (facts : Facts) (image : List ℕ) (end : Result AuditEnd TraceFault) → AreBytes image → Told (GaveImage image) facts.left facts.rest
    → EndsAudit image facts.taken facts.given end → AuditEnds facts end
audit_read facts image (Ok end) bytes read ends = record { image = image; bytes = bytes; read = read; ends = ends }
audit_read facts image (Err Read) bytes read ends = absurd ends
audit_read facts image (Err Write) bytes read ends = record { image = image; bytes = bytes; read = read; ends = ends }
audit_read facts image (Err NoMemory) bytes read ends = inr (record { image = image; bytes = bytes; read = read; ends = ends })

-- ---- what is found, by what the superblock gives

module _ (image : List ℕ) (lines : List Finding) where
  -- its refusal
  pub refused_lines : (bad : BadSuper) → volume_on image ≡ Err bad → IsInSize image → lines ≡ Bad (Super bad) 0 ∷ [] → IsAudit image (Some lines)
  refused_lines bad is size same = (size, subst (λ (r : Result Geometry BadSuper). AreLinesBy image r lines) (sym is) same)

  -- or all that is found on the volume
  pub volume_told : (g : Geometry) (bytes : List ℕ) → TellsFindings g.fsize g.size (blocks_in g bytes) lines → bytes ≡ volume_bytes g image → volume_on image ≡ Ok g
      → IsInSize image → g.size * g.fsize ≤ length image → IsAudit image (Some lines)
  volume_told g bytes told same is size whole = (
    size,
    subst (λ (r : Result Geometry BadSuper). AreLinesBy image r lines) (sym is)
        (record { has = record { size = size; volume = is }; whole = whole }, subst (λ (l : List ℕ). TellsFindings g.fsize g.size (blocks_in g l) lines) same told),
  )
