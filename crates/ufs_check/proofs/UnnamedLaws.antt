-- Inodes that no entry names.
use Rattle.std.proofs.Common.{◌≡◌, ◌∙◌, ℕ, ◌+◌, ◌*◌, ◌<◌, ◌≤◌, ◌&&◌, Bool, true, false, List, [], Option, None, Some, not, is_some, refl, sym, subst, arith}
use Rattle.std.specs.Prelude.{MatchOption}
use Rattle.std.specs.Bool.{Decides}
use Rattle.std.proofs.lemmas.Bool.Decides.{Decides-like, Decides-not}
use Rattle.ufs_model.specs.Audits.{AreAll, IsUnnamed}
use Rattle.ufs_model.specs.Blocks.{Volume}
use Rattle.ufs_model.specs.Malformations.{IsInode, inode_at}
use Rattle.ufs_model.specs.declared.geometries.Geometry.{Geometry}
use Rattle.ufs_model.specs.declared.inodes.Inode.{Inode}
use Rattle.ufs_check.specs.Links.{IsEntered}
use Rattle.ufs_check.specs.Notes.{AreAllBelow}
use Rattle.ufs_check.proofs.FaultLaws.{inode_within}
use Rattle.ufs_check.proofs.NoteLaws.{all_all, all_empty}

absent_by : (o : Option Inode) → is_some o ≡ false → MatchOption o ⊥ (λ _. Unit {0}) → ⊥
absent_by None is h = h
absent_by (Some inode) is h = let no : true ≡ false = is in cc

present_by : (o : Option Inode) → is_some o ≡ true → MatchOption o ⊥ (λ _. Unit {0})
present_by None is = let no : false ≡ true = is in cc
present_by (Some inode) is = tt

-- an inode that isn't there
pub unnamed_absent : (g : Geometry) (v : Volume) (i : ℕ) (named : Option Inode) → named ≡ inode_at g v i → is_some named ≡ false → Decides false (IsUnnamed g v i)
unnamed_absent g v i named is none = (
  λ h. let no : false ≡ true = h in cc,
  λ one. absurd (absent_by named none (subst (λ o. MatchOption o ⊥ (λ _. Unit {0})) (sym is) one.there)),
)

pub unnamed_decides : (g : Geometry) (v : Volume) (i : ℕ) (named : Option Inode) (entered : Bool) → 2 < i → named ≡ inode_at g v i → is_some named ≡ true
    → Decides entered (IsEntered g v i) → Decides (not entered) (IsUnnamed g v i)
unnamed_decides g v i named entered above is some decides =
    Decides-like (not entered)
    (λ no. record {
      above = above;
      there = subst (λ o. MatchOption o ⊥ (λ _. Unit {0})) is (present_by named some);
      unnamed = λ d k plain. no (record { d = d; k = k; plain = plain });
    })
    (λ one entered. one.unnamed (entered.d) (entered.k) entered.plain)
    (Decides-not entered decides)

pub unnamed_none : (g : Geometry) (v : Volume) (numbers : List ℕ) → numbers ≡ [] → AreAllBelow (IsUnnamed g v) 3 numbers
unnamed_none g v numbers none = all_empty (IsUnnamed g v) 3 numbers none (λ m lt one. let above = one.above in omega arith)

pub unnamed_all : (g : Geometry) (v : Volume) (bound : ℕ) (numbers : List ℕ) → g.ncg * g.ipg ≤ bound → AreAllBelow (IsUnnamed g v) bound numbers → AreAll (IsUnnamed g v) numbers
unnamed_all g v bound numbers end so_far =
    all_all (IsUnnamed g v) bound numbers (λ i one. let lt = (inode_within g v i (λ _. Unit {0}) one.there).1 in omega arith) so_far
