-- What is read of a store through a view without its cut blocks.
use Rattle.std.proofs.Common.{◌≡◌, ◌||◌, ℕ, Bool, List, sym, subst}
use Rattle.std.specs.Prelude.{Option}
use Rattle.dg_io.specs.declared.outside.Rack.{Ghosts}
use Rattle.dg_model.specs.Marks.{is_marked}
use Rattle.dg_model.specs.Sites.{is_gone}
use Rattle.dg_store.specs.Stores.{StandsFor, TellsAll, members_of, shape_of, table_of}
use Rattle.dg_store.specs.declared.store.Store.{Store}
use Rattle.dg_volume.specs.CutReads.{ReadsCut, gone_with}
use Rattle.ufs_model.specs.Blocks.{Reading}
use Rattle.ufs_model.specs.Readings.{ReadsAs}

-- what holds of a result that the view gave holds of it as the store's
pub cut_rule : {R A : Type 0} (rack : Ghosts R) (Q : (Option A → Type 0) → Type 0) (cut was now : List Bool) (store old final new : Store R) (reading : ℕ → ℕ → Reading A)
    → old ≡ store → final ≡ new → was ≡ cut → now ≡ was
    → Q (λ r. ReadsAs (StandsFor rack old) (λ b. is_marked was b || is_gone (table_of old) (members_of old) b) (TellsAll rack new)
    (λ b. is_marked now b || is_gone (table_of new) (members_of new) b) (reading (shape_of old).l (shape_of old).n) r)
    → Q (ReadsCut rack cut store final (reading (shape_of store).l (shape_of store).n))
cut_rule rack Q cut was now store old final new reading same_old same_final same_cut same_now held =
    let one =
    subst (λ (c : List Bool). Q (λ r. ReadsAs (StandsFor rack old) (gone_with was old) (TellsAll rack new) (gone_with c new) (reading (shape_of old).l (shape_of old).n) r)) same_now held in
    let two =
    subst (λ (c : List Bool). Q (λ r. ReadsAs (StandsFor rack old) (gone_with c old) (TellsAll rack new) (gone_with c new) (reading (shape_of old).l (shape_of old).n) r)) same_cut one in
    let three =
    subst (λ (x : Store _). Q (λ r. ReadsAs (StandsFor rack x) (gone_with cut x) (TellsAll rack new) (gone_with cut new) (reading (shape_of x).l (shape_of x).n) r)) same_old two in
    subst (λ (x : Store _). Q (λ r. ReadsAs (StandsFor rack store) (gone_with cut store) (TellsAll rack x) (gone_with cut x) (reading (shape_of store).l (shape_of store).n) r)) (sym same_final) three
