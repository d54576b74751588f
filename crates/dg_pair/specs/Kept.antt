-- What calls that make members anew leave of the checkpoint that a rack keeps.
use Rattle.std.specs.Prelude.{◌≡◌, ◌∷◌, ℕ, [], Option, Some}
use Rattle.dg_io.specs.Kept.{IsNothing, KeepsRest, Kept}
use Rattle.dg_io.specs.RackCalls.{blanks}
use Rattle.dg_io.specs.declared.outside.Rack.{Ghosts}
use Rattle.dg_pair.specs.declared.boundaries.ReplaceAnswer.{ReplaceAnswer}
use Rattle.dg_pair.specs.declared.boundaries.ReplaceAnswer.TheVariants.{Replaced, Lost, NotOut, Failed}

-- one member was made anew, by one call: of what was kept no more than its entry is gone
pub record BlanksMember {S : Type 0} (rack : Ghosts S) (member : ℕ) (before now : S) : Type 0 where
  pub made : rack.made before (blanks member ∷ []) now
  pub keeps : KeepsRest rack.keeps rack.stands member before now

-- by the answer to a replacement of a member
abbrev pub BlanksBy : {S : Type 0} → Ghosts S → ℕ → ReplaceAnswer → S → S → Type 0
BlanksBy rack member Replaced before now = BlanksMember rack member before now
BlanksBy rack member Failed before now = BlanksMember rack member before now
BlanksBy rack member Lost before now = now ≡ before
BlanksBy rack member NotOut before now = now ≡ before

-- where nothing was kept, nothing is
abbrev pub KeepsNothing : {S : Type 0} → (S → Option Kept → Type 0) → S → S → Type 0
KeepsNothing keeps before now = (kept : Kept) → IsNothing kept → keeps before (Some kept) → (next : Kept) × IsNothing next × keeps now (Some next)
