-- A volume makes a step by an audit.
use Rattle.std.proofs.Common.{◌≡◌, ◌∙◌, ◌<◌, ◌≤◌, ◌++◌, ◌∷◌, [], inl, inr, ℕ, List, true, false, length, map, append_assoc, refl, sym, ap, subst, arith}
use Rattle.std.proofs.lemmas.Bool.{and_parts, cases_order, false≢true}
use Rattle.std.proofs.lemmas.List.{get_or_past}
use Rattle.dg_io.specs.declared.outside.Rack.{Ghosts}
use Rattle.dg_model.specs.Findings.{TellsFindings, bad_line}
use Rattle.dg_model.specs.Sites.{all_lost, has_site, is_gone}
use Rattle.dg_model.specs.Tables.{IsTable, Table, sites_in}
use Rattle.dg_model.specs.declared.events.Event.TheVariants.{Audit}
use Rattle.dg_model.specs.declared.findings.Finding.{Finding}
use Rattle.dg_model.specs.declared.findings.Finding.TheVariants.{Unnamed, Unclaimed}
use Rattle.dg_model.specs.declared.members.MemberState.{MemberState}
use Rattle.dg_model.specs.declared.replies.Reply.TheVariants.{Audited, Unavailable}
use Rattle.dg_model.specs.declared.sites.Site.{Site}
use Rattle.dg_store.specs.Stores as stores
use Rattle.dg_volume.proofs.PathSteps.{held}
use Rattle.dg_volume.proofs.VolumeLaws.{HasRead, read_state, reads_in, reads_stay, steps_from}
use Rattle.dg_volume.specs.Volumes.{StepsTo, Tells, members_of, shape_of, table_of}
use Rattle.dg_volume.specs.declared.phases.InPhase as phases
use Rattle.dg_volume.specs.declared.volumes.Volume.{Volume}
use Rattle.ufs_audit.specs.declared.audits.Findings.{Findings}
use Rattle.ufs_model.specs.Audits.{AreFindings}
use Rattle.ufs_model.specs.Blocks as blocks
use Rattle.ufs_model.specs.Metadata.{IsStructure}
use Rattle.ufs_pointer.specs.Fetches.{LosesOne}

-- a block that is gone is one of the array's
no_site : (sites : List Site) → length sites ≡ 0 → has_site sites ≡ false
no_site [] none = refl
no_site (x ∷ xs) none = absurd (omega (arith, none))

pub gone_within : (table : Table) (members : ℕ → MemberState) (b : ℕ) → IsTable table → is_gone table members b ≡ true → b < table.shape.n
gone_within table members b is gone = elim (cases_order table.shape.n b) [
  | inl same ↦ absurd (past (omega (arith, same)))
  | inr other ↦ elim other [
    | inl less ↦ absurd (past (omega (arith, less)))
    | inr greater ↦ greater
  ]
]
  where
    past : table.shape.n ≤ b → ⊥
    past behind =
        let some = (and_parts (has_site (sites_in table b)) (all_lost members (sites_in table b)) gone).0 in
        let none : sites_in table b ≡ [] = get_or_past table.rows b [] (omega (arith, is.size, behind)) in
        false≢true (sym (no_site (sites_in table b) (ap length none)) ∙ some)

module _ {S R : Type 0} (phase : phases.Ghosts S) (rack : Ghosts R) where
  -- the structure of the volumes for which it stands
  abbrev pub IsStructureOf : Volume S R → blocks.Volume → ℕ → Type 0
  IsStructureOf a v b = IsStructure (shape_of a).l (shape_of a).n v b

  -- no block of the structure was gone, and these are all findings
  pub record HasFound (a b : Volume S R) (lines : List Finding) : Type 0 where
    pub there : Tells rack b → (v : blocks.Volume) → stores.StandsFor rack a.store v → (c : ℕ) → c < (shape_of a).n → IsStructureOf a v c
        → is_gone (table_of a) (members_of a) c ≡ false
    pub findings : Tells rack b → (v : blocks.Volume) → stores.StandsFor rack a.store v → TellsFindings (shape_of a).l (shape_of a).n v lines

  pub audited : (a b : Volume S R) (lines : List Finding) → HasRead phase rack a b → IsTable (table_of a) → HasFound a b lines
      → StepsTo phase phase rack a Audit (Audited lines) b
  audited a b lines h table found = steps_from phase rack a b Audit (Audited lines) (λ origin rest V label holds. (
    read_state phase rack a b h rest V,
    reads_in phase rack a b rest V label h holds,
    (
      record {
        unavailable = λ told loses.
            let there = found.there (told.0) V (held phase rack a b V h holds told) loses.block (gone_within (table_of a) (members_of a) loses.block table loses.gone) loses.of_structure in
            absurd (false≢true (sym there ∙ loses.gone));
        findings = λ told. found.findings (told.0) V (held phase rack a b V h holds told);
        only = tt;
        cause = tt;
        unwritten = h.reads.writes;
      },
      reads_stay phase rack a b rest V label h,
    ),
    refl,
  ))

  -- some block of the structure is gone
  abbrev pub LosesOf : Volume S R → Volume S R → Type 0
  LosesOf a b = LosesOne (stores.StandsFor rack a.store) (Tells rack b) (shape_of a).n (IsStructureOf a) (is_gone (table_of b) (members_of b))

  pub unaudited : (a b : Volume S R) → HasRead phase rack a b → LosesOf a b → StepsTo phase phase rack a Audit Unavailable b
  unaudited a b h lost = steps_from phase rack a b Audit Unavailable (λ origin rest V label holds. (
    read_state phase rack a b h rest V,
    reads_in phase rack a b rest V label h holds,
    (
      record {
        unavailable = λ told loses. refl;
        findings = tt;
        only = λ told. record {
          block = lost.block;
          of_structure = subst (λ (t : Table). IsStructure t.shape.l t.shape.n V lost.block) (sym h.reads.table) (lost.of_kind (told.0) V (held phase rack a b V h holds told));
          gone = lost.lost;
        };
        cause = (lost.block, lost.lost);
        unwritten = h.reads.writes;
      },
      reads_stay phase rack a b rest V label h,
    ),
    refl,
  ))

-- the lines of all findings
pub findings_told : (l n : ℕ) (v : blocks.Volume) (found : Findings) (lines : List Finding)
    → lines ≡ map bad_line found.bad.items ++ (map Unnamed found.notes.unnamed.items ++ map Unclaimed found.notes.unclaimed.items)
    → AreFindings l n v found.bad.items found.notes.unnamed.items found.notes.unclaimed.items → TellsFindings l n v lines
findings_told l n v found lines is are = record {
  bad = found.bad.items;
  unnamed = found.notes.unnamed.items;
  unclaimed = found.notes.unclaimed.items;
  is = is ∙ sym (append_assoc (map bad_line found.bad.items) (map Unnamed found.notes.unnamed.items) (map Unclaimed found.notes.unclaimed.items));
  are = are;
}
