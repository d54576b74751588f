-- The first page of a member, where its label stands, and what a call beside the slots that failed leaves of a member.
use Rattle.std.specs.Prelude.{◌≡◌, ◌/◌, ◌%◌, ℕ, Bool, true, false, List, Option, None, Some, if◌then◌else◌}
use Rattle.dg_io.specs.Told.{IsSame, OldOrNew, Patched, Torn}
use Rattle.dg_io.specs.declared.outside.Rack.{Ghosts}
use Rattle.dg_label.specs.declared.labels.KeptLabel.{KeptLabel}
use Rattle.dg_model.specs.Members.{is_good}
use Rattle.dg_model.specs.Saves.{Label, label_bytes}
use Rattle.dg_model.specs.declared.shapes.Shape.{Shape}
use Rattle.dg_store.specs.Leaves.{BytesChange}
use Rattle.dg_store.specs.Stores.{members_of}
use Rattle.dg_store.specs.declared.store.Store.{Store}

-- ---- pages

-- the label of these numbers, as it stands on member q
abbrev pub numbered : Shape → KeptLabel → ℕ → Label
numbered shape kept q = record {
  format = kept.format;
  sequence = kept.sequence;
  sealed = kept.sealed;
  boundary = q / 2;
  side = q % 2;
  shape = shape;
  body = kept.body;
}

-- its bytes
abbrev pub page_of : Shape → KeptLabel → ℕ → List ℕ
page_of shape kept q = label_bytes (numbered shape kept q)

-- the first page of member q once its seal is opened: its own where nothing is sealed
abbrev pub opened_page : Shape → Option KeptLabel → ℕ → List ℕ → List ℕ
opened_page shape None q page = page
opened_page shape (Some kept) q page = if kept.sealed then page_of shape (record kept { sealed = false }) q else page

-- ---- calls that failed

-- A first page was to be written: any bytes stand there, and on a steady rack the page whole, or nothing has changed.
pub record PageFails (steady : Type 0) (page before after : List ℕ) : Type 0 where
  pub torn : Torn 0 512 before after
  pub whole : steady → OldOrNew 0 page before after

-- the bytes of each member that fell changed so, and those of each one that wasn't good are as they were
pub record LeavesFallen {R : Type 0} (rack : Ghosts R) (fails : ℕ → List ℕ → List ℕ → Type 0) (old new : Store R) : Type 0 where
  pub fell : (q : ℕ) → is_good (members_of old q) ≡ true → is_good (members_of new q) ≡ false → BytesChange rack old new q (fails q)
  pub bad : (q : ℕ) → is_good (members_of old q) ≡ false → BytesChange rack old new q IsSame

-- What the opening of its seal leaves of a member that was good: this page, and all else as it was. Where it fell, the page failed.
pub record OpensMember (steady : Type 0) (page : List ℕ) (good : Bool) (before after : List ℕ) : Type 0 where
  pub done : good ≡ true → Patched 0 page before after
  pub failed : good ≡ false → PageFails steady page before after
