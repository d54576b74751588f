-- What a view of an image means. The words of this file are this crate's own.
use Rattle.std.proofs.Common.{◌≡◌, ◌∙◌, ℕ, List}
use Rattle.dg_io.specs.MemViews.{IsImage}
use Rattle.ufs_audit.specs.declared.images.ImageView.{ImageView}

abbrev pub size_of : ImageView → ℕ
size_of view = view.size

abbrev pub count_of : ImageView → ℕ
count_of view = view.count

-- its image has these blocks
abbrev pub stands_in : ImageView → List (List ℕ) → Type 0
stands_in view blocks = IsImage view.image.items view.count view.size blocks

-- nothing became of it, twice
pub same_both : (a b c : ImageView) → b ≡ a → c ≡ b → c ≡ a
same_both a b c first second = second ∙ first
