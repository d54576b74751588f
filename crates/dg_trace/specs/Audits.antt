-- What is told of an image by its audit. The command is this project's own.
use Rattle.std.specs.Prelude.{◌≡◌, ◌⊎◌, ℕ, Bool, true, false, List, [], ◌∷◌, codes, map, Option, Some, None, Result, Ok, Err}
use Rattle.std.specs.List.{list_any, range_with_len}
use Rattle.dg_io.specs.Told.{Told, Took, TookPart}
use Rattle.dg_model.specs.Findings.{TellsFindings}
use Rattle.dg_model.specs.declared.findings.Finding.{Finding}
use Rattle.dg_model.specs.declared.findings.Finding.TheVariants.{Bad}
use Rattle.dg_model.specs.declared.replies.Reply.TheVariants.{Audited}
use Rattle.dg_text.specs.Lines.{AreBytes}
use Rattle.dg_text.specs.Replies.{reply_line}
use Rattle.dg_trace.specs.Answers.{HasWhole, IsInSize, IsWrongLength, volume_bytes}
use Rattle.dg_trace.specs.Calls.{Facts}
use Rattle.dg_trace.specs.Ends.{BrokeOff}
use Rattle.dg_trace.specs.Images.{GaveImage}
use Rattle.dg_trace.specs.Volumes.{volume_on}
use Rattle.dg_trace.specs.declared.asked.TraceFault.{TraceFault}
use Rattle.dg_trace.specs.declared.asked.TraceFault.TheVariants.{NoMemory, Read, Write}
use Rattle.dg_trace.specs.declared.audits.AuditEnd.{AuditEnd}
use Rattle.dg_trace.specs.declared.audits.AuditEnd.TheVariants.{Length, Malformed, Sound}
use Rattle.ufs_build.specs.Traces.{block_in}
use Rattle.ufs_model.specs.Blocks.{Volume}
use Rattle.ufs_model.specs.declared.geometries.BadSuper.{BadSuper}
use Rattle.ufs_model.specs.declared.geometries.Geometry.{Geometry}
use Rattle.ufs_model.specs.declared.malformations.BadKind.TheVariants.{Super}

-- ---- what is found

-- the blocks of a volume with this geometry, whose bytes these are
abbrev pub blocks_in : Geometry → List ℕ → Volume
blocks_in g bytes = map (λ b. block_in g.fsize bytes b) (range_with_len 0 g.size)

-- By what the superblock gives: its refusal alone; or, where all bytes of the volume are there, all that is found on it.
abbrev pub AreLinesBy : List ℕ → Result Geometry BadSuper → List Finding → Type 0
AreLinesBy image (Err bad) lines = lines ≡ Bad (Super bad) 0 ∷ []
AreLinesBy image (Ok g) lines = HasWhole image g × TellsFindings g.fsize g.size (blocks_in g (volume_bytes g image)) lines

-- the lines of an audit, or none for an image of a wrong length
abbrev pub IsAudit : List ℕ → Option (List Finding) → Type 0
IsAudit image None = IsWrongLength image
IsAudit image (Some lines) = IsInSize image × AreLinesBy image (volume_on image) lines

-- ---- what is printed

-- a line tells a malformation
abbrev pub is_bad : Finding → Bool
is_bad (Bad kind n) = true
is_bad note = false

abbrev pub has_bad : List Finding → Bool
has_bad lines = list_any is_bad lines

-- the lines, or that the length is wrong
abbrev pub audit_text : Option (List Finding) → List ℕ
audit_text None = codes "bad length\n"
audit_text (Some lines) = reply_line (Audited lines)

-- how an audit ends once that was printed
abbrev pub end_by : Bool → AuditEnd
end_by true = Malformed
end_by false = Sound

abbrev pub end_of : Option (List Finding) → AuditEnd
end_of None = Length
end_of (Some lines) = end_by (has_bad lines)

-- an image is audited so, and that was printed, whole (`Took`) or in part (`TookPart`)
pub record PrintsAudit (image : List ℕ) (found : Option (List Finding)) (printed : List ℕ → List ℕ → List ℕ → Type 0) (taken given : Option (List ℕ)) : Type 0 where
  pub is : IsAudit image found
  pub output : Told (printed (audit_text found)) taken given

-- the same of some lines, among which is a malformation, or isn't
abbrev pub PrintsLines : List ℕ → Bool → Option (List ℕ) → Option (List ℕ) → Type 0
PrintsLines image bad taken given = (lines : List Finding) × PrintsAudit image (Some lines) Took taken given × (has_bad lines ≡ bad)

-- By the end: the lines were printed, without a malformation or with one; or that the image has a wrong length; or the sink failed behind a part of
-- what was to be printed; or memory was wanting, and nothing was printed.
abbrev pub EndsAudit : List ℕ → Option (List ℕ) → Option (List ℕ) → Result AuditEnd TraceFault → Type 0
EndsAudit image taken given (Ok Sound) = PrintsLines image false taken given
EndsAudit image taken given (Ok Malformed) = PrintsLines image true taken given
EndsAudit image taken given (Ok Length) = PrintsAudit image None Took taken given
EndsAudit image taken given (Err Read) = ⊥
EndsAudit image taken given (Err Write) = (found : Option (List Finding)) × PrintsAudit image found TookPart taken given
EndsAudit image taken given (Err NoMemory) = given ≡ taken

-- ---- how the command ends

-- an image was read to its end, or one byte past what an image may have, and what follows ended so
pub record AnsweredAudit (facts : Facts) (end : Result AuditEnd TraceFault) : Type 0 where
  pub image : List ℕ
  pub bytes : AreBytes image
  pub read : Told (GaveImage image) facts.left facts.rest
  pub ends : EndsAudit image facts.taken facts.given end

-- by the end: an image was read and audited; or the source failed, or memory was wanting, and nothing was printed
abbrev pub AuditEnds : Facts → Result AuditEnd TraceFault → Type 0
AuditEnds facts (Ok end) = AnsweredAudit facts (Ok end)
AuditEnds facts (Err Read) = BrokeOff facts
AuditEnds facts (Err Write) = AnsweredAudit facts (Err Write)
AuditEnds facts (Err NoMemory) = BrokeOff facts ⊎ AnsweredAudit facts (Err NoMemory)
