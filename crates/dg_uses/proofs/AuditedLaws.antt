-- What an audit of an image printed is all that was to be found on it.
use Rattle.std.proofs.Common.{◌≡◌, ◌∙◌, ◌⊎◌, ◌+◌, ◌*◌, ◌^◌, ◌<◌, ◌≤◌, ◌++◌, ℕ, List, length, ap, arith, inl, inr, length-append, refl, subst, sym}
use Rattle.std.specs.Prelude.{Option, Some, None, Result, Ok, Err, IsSome}
use Rattle.std.proofs.lemmas.Bool.{cases_lt}
use Rattle.std.proofs.lemmas.List.{append-nil}
use Rattle.dg_io.specs.Told.{Told, Took}
use Rattle.dg_model.specs.declared.findings.Finding.{Finding}
use Rattle.dg_run.specs.Calls.{Facts, streams_of}
use Rattle.dg_run.specs.Ends.{EndsAudit, audit_status}
use Rattle.dg_run.specs.declared.top.Status.{Status}
use Rattle.dg_run.specs.declared.top.Status.TheVariants.{Done, NoMemory, Refused}
use Rattle.dg_trace.specs.Answers.{IsInSize, IsWrongLength, volume_bytes}
use Rattle.dg_trace.specs.Audits.{AnsweredAudit, AreLinesBy, IsAudit, PrintsAudit, audit_text, blocks_in, end_by, end_of}
use Rattle.dg_trace.specs.Images.{GaveImage}
use Rattle.dg_trace.specs.Volumes.{volume_on}
use Rattle.dg_trace.specs.declared.audits.AuditEnd.{AuditEnd}
use Rattle.dg_trace.specs.declared.audits.AuditEnd.TheVariants.{Length, Malformed, Sound}
use Rattle.dg_uses.proofs.OneAudit.{lines_one}
use Rattle.dg_uses.proofs.TracedLaws.{told_both}
use Rattle.dg_uses.specs.Answers.{HasAudited}
use Rattle.ufs_model.specs.declared.geometries.BadSuper.{BadSuper}
use Rattle.ufs_model.specs.declared.geometries.Geometry.{Geometry}

-- ---- an image has one audit

lines_same : (image : List ℕ) (r : Result Geometry BadSuper) (lines others : List Finding) → AreLinesBy image r lines → AreLinesBy image r others → lines ≡ others
lines_same image (Err bad) lines others h k = h ∙ sym k
lines_same image (Ok g) lines others h k = lines_one g.fsize g.size (blocks_in g (volume_bytes g image)) lines others h.1 k.1

-- one that is too short for its volume has no lines
too_short : (image : List ℕ) (r : Result Geometry BadSuper) (g : Geometry) (lines : List Finding) → r ≡ Ok g → length image < g.size * g.fsize → AreLinesBy image r lines → ⊥
too_short image r g lines is short h =
    let has = (subst (λ (x : Result Geometry BadSuper). AreLinesBy image x lines) is h).0 in
    let whole = has.whole in
    omega (arith, whole, short)

wrong_length : (image : List ℕ) (lines : List Finding) → IsWrongLength image → IsAudit image (Some lines) → ⊥
wrong_length image lines (inl none) is = none is.0
wrong_length image lines (inr (g, has, short)) is = too_short image (volume_on image) g lines has.volume short is.1

one_audit : (image : List ℕ) (one other : Option (List Finding)) → IsAudit image one → IsAudit image other → one ≡ other
one_audit image None None h k = refl
one_audit image None (Some lines) h k = absurd (wrong_length image lines h k)
one_audit image (Some lines) None h k = absurd (wrong_length image lines k h)
one_audit image (Some lines) (Some others) h k = ap Some (lines_same image (volume_on image) lines others h.1 k.1)

-- ---- the image that was read

module _ (image text rest : List ℕ) (gave : GaveImage image text rest) where
  -- one that isn't too long was read whole
  same_text : length image ≤ 2 ^ 28 → image ≡ text
  same_text low = sym (append-nil image) ∙ ap (λ (l : List ℕ). image ++ l) (sym (gave.whole low)) ∙ sym gave.split

  -- one that is too long begins a text that is
  long_text : 2 ^ 28 < length image → IsInSize text → ⊥
  long_text high size =
      let count : length text ≡ length image + length rest = ap length gave.split ∙ length-append image rest in
      let most = size.most in
      omega (arith, high, count, most)

  audit_by : (found : Option (List Finding)) → IsAudit image found → (2 ^ 28 < length image) ⊎ (length image ≤ 2 ^ 28) → IsAudit text found
  audit_by found is (inr low) = subst (λ (l : List ℕ). IsAudit l found) (same_text low) is
  audit_by None is (inl high) = inl (long_text high)
  audit_by (Some lines) is (inl high) = let most = is.0.most in absurd (omega (arith, high, most))

  -- so the text has its audit
  audit_of : (found : Option (List Finding)) → IsAudit image found → IsAudit text found
  audit_of found is = audit_by found is (cases_lt (2 ^ 28) (length image))

-- ---- what was printed

module _ (f : Facts) (image : List ℕ) (found : Option (List Finding)) (is : IsAudit image found) (left : f.left ≡ Some image) (rest : IsSome f.rest) where
  audited : (got : List ℕ) (other : Option (List Finding)) (status : Status) → status ≡ audit_status (Ok (end_of other)) → Told (GaveImage got) f.left f.rest
      → PrintsAudit got other Took f.taken f.given → HasAudited found f.taken f.given status
  audited got other status ended read prints =
      let told = told_both (GaveImage got) f.left f.rest image left rest read in
      let same : other ≡ found = one_audit image other found (audit_of got image told.0 told.2 other prints.is) is in
      record {
        ended = ended ∙ ap (λ (o : Option (List Finding)). audit_status (Ok (end_of o))) same;
        printed = subst (λ (o : Option (List Finding)). Told (Took (audit_text o)) f.taken f.given) same prints.output;
      }

  by_end : (end : AuditEnd) → AnsweredAudit (streams_of f) (Ok end) → HasAudited found f.taken f.given (audit_status (Ok end))
  by_end Sound one = audited one.image (Some one.ends.0) Done (sym (ap (λ b. audit_status (Ok (end_by b))) one.ends.2)) one.read one.ends.1
  by_end Malformed one = audited one.image (Some one.ends.0) Refused (sym (ap (λ b. audit_status (Ok (end_by b))) one.ends.2)) one.read one.ends.1
  by_end Length one = audited one.image None Refused refl one.read one.ends

  refused : EndsAudit (streams_of f) Refused → HasAudited found f.taken f.given Refused
  refused (inl one) = by_end Malformed one
  refused (inr one) = by_end Length one

  pub audit_answered : (status : Status) → EndsAudit (streams_of f) status → (status ≡ Done) ⊎ ((status ≡ Refused) ⊎ (status ≡ NoMemory))
      → HasAudited found f.taken f.given status ⊎ (status ≡ NoMemory)
  audit_answered status ends (inl done) =
      inl (subst (HasAudited found f.taken f.given) (sym done) (by_end Sound (subst (EndsAudit (streams_of f)) done ends)))
  audit_answered status ends (inr (inl bad)) =
      inl (subst (HasAudited found f.taken f.given) (sym bad) (refused (subst (EndsAudit (streams_of f)) bad ends)))
  audit_answered status ends (inr (inr memory)) = inr memory
