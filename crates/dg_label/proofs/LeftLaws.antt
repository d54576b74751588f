-- What the steps of a save leave of the bytes of one member.
use Rattle.std.proofs.Common.{◌≡◌, ◌∙◌, ◌≤◌, ℕ, Bool, true, false, List, inl, inr, refl, sym, ap, subst, arith, length, take, drop}
use Rattle.std.specs.Prelude.{None, Option, Some, if◌then◌else◌, slice_range}
use Rattle.std.proofs.lemmas.Bool.{false≢true}
use Rattle.dg_io.specs.Told.{IsHeader, OldOrNew, Patched, Told, Torn}
use Rattle.dg_label.specs.Labels.{is_sealed}
use Rattle.dg_label.specs.Pages.{PageFails, numbered, opened_page, page_of}
use Rattle.dg_label.specs.Saves.{IsSaved, LeavesMember, saved_numbers}
use Rattle.dg_label.specs.declared.labels.KeptLabel.{KeptLabel}
use Rattle.dg_label.proofs.ByteLaws.{behind_body, behind_label, behind_slots, front_page, front_slots, label_long, label_there}
use Rattle.dg_model.specs.Saves.{HasBody, body_place}
use Rattle.dg_model.specs.declared.shapes.Shape.{Shape}

-- a page that was written in a call that failed
pub page_failed : (steady : Type 0) (piece page : List ℕ) → length page ≡ 512 → piece ≡ page → (a b : Option (List ℕ)) → Told (Torn 0 (length piece)) a b
    → (steady → IsHeader 0 piece → Told (OldOrNew 0 piece) a b) → Told (PageFails steady page) a b
page_failed steady piece page size is a None torn whole = tt
page_failed steady piece page size is None (Some y) torn whole = absurd torn
page_failed steady piece page size is (Some x) (Some y) torn whole =
    let long : length piece ≡ 512 = ap length is ∙ size in
    record {
      torn = subst (λ (n : ℕ). Torn 0 n x y) long torn;
      whole = λ on. subst (λ (p : List ℕ). OldOrNew 0 p x y) is (whole on (record { size = long; where_is = inl refl }));
    }

-- its slots stand behind the first page
pub front_low : (shape : Shape) → 512 ≤ body_place shape
front_low shape = omega arith

module _ (shape : Shape) (before : Option KeptLabel) (q : ℕ) where
  opened_is : (kept : KeptLabel) (page : List ℕ) → before ≡ Some kept → kept.sealed ≡ true
      → opened_page shape before q page ≡ page_of shape (record kept { sealed = false }) q
  opened_is kept page is sealed =
      ap (λ (label : Option KeptLabel). opened_page shape label q page) is
      ∙ ap (λ (s : Bool). if s then page_of shape (record kept { sealed = false }) q else page) sealed

  -- its seal is opened, and behind its first page nothing has changed
  abbrev pub Opened : List ℕ → List ℕ → Type 0
  Opened x y = (take 512 y ≡ opened_page shape before q (take 512 x)) × (drop 512 y ≡ drop 512 x)

  -- its seal is opened, and its slots are as they were
  abbrev pub Ready : List ℕ → List ℕ → Type 0
  Ready x y = (take 512 y ≡ opened_page shape before q (take 512 x)) × (slice_range y 512 (body_place shape) ≡ slice_range x 512 (body_place shape))

  pub opened_by : (kept : KeptLabel) (x y : List ℕ) → before ≡ Some kept → kept.sealed ≡ true → Patched 0 (page_of shape (record kept { sealed = false }) q) x y → Opened x y
  opened_by kept x y is sealed put =
      let page : List ℕ = page_of shape (record kept { sealed = false }) q in
      let long : length page ≡ 512 = label_long (numbered shape (record kept { sealed = false }) q) in
      (label_there page x y long put ∙ sym (opened_is kept (take 512 x) is sealed), behind_label page x y long put)

  pub opened_front : (x y z : List ℕ) → Opened x y → take (body_place shape) z ≡ take (body_place shape) y → Ready x z
  opened_front x y z opened same = (
    front_page (body_place shape) y z (front_low shape) same ∙ opened.0,
    front_slots (body_place shape) y z (front_low shape) same ∙ behind_slots (body_place shape) x y opened.1,
  )

  -- ---- how far a save came

  module _ (steady : Type 0) (body : List ℕ) (good : Bool) where
    abbrev Left : List ℕ → List ℕ → Type 0
    Left = LeavesMember steady shape before body q good

    -- its opening failed
    pub left_unopened : (kept : KeptLabel) (x y : List ℕ) → before ≡ Some kept → kept.sealed ≡ true → good ≡ false
        → PageFails steady (page_of shape (record kept { sealed = false }) q) x y → Left x y
    left_unopened kept x y is sealed out fails = record {
      slots = behind_slots (body_place shape) x y fails.torn.back;
      saved = λ stays. absurd (false≢true (sym out ∙ stays));
      page = λ on. elim (fails.whole on) [
        | inl same ↦ inr (inr ((ap is_sealed is ∙ sealed, out), same))
        | inr put ↦ inl (opened_by kept x y is sealed put).0
      ];
      order = inr (inr ((ap is_sealed is ∙ sealed, out), fails.torn.back));
    }

    -- it fell in front of its label
    pub left_early : (x y : List ℕ) → good ≡ false → Ready x y → Left x y
    left_early x y out ready = record {
      slots = ready.1;
      saved = λ stays. absurd (false≢true (sym out ∙ stays));
      page = λ on. inl ready.0;
      order = inl ready.0;
    }

    module _ (x y z : List ℕ) (ready : Ready x y) (had : HasBody y shape body) where
      abbrev label : List ℕ
      label = page_of shape (saved_numbers before body) q

      long : length label ≡ 512
      long = label_long (numbered shape (saved_numbers before body) q)

      put_saved : Patched 0 label y z → IsSaved shape before body q z
      put_saved put = (label_there label y z long put, behind_body shape body y z (behind_label label y z long put) had)

      -- it fell at its label
      pub left_torn : good ≡ false → PageFails steady label y z → Left x z
      left_torn out fails = record {
        slots = behind_slots (body_place shape) y z fails.torn.back ∙ ready.1;
        saved = λ stays. absurd (false≢true (sym out ∙ stays));
        page = λ on. elim (fails.whole on) [
          | inl same ↦ inl (ap (take 512) same ∙ ready.0)
          | inr put ↦ inr (inl (put_saved put))
        ];
        order = inr (inl (behind_body shape body y z fails.torn.back had));
      }

      -- it was saved
      pub left_saved : Patched 0 label y z → Left x z
      left_saved put = record {
        slots = behind_slots (body_place shape) y z (behind_label label y z long put) ∙ ready.1;
        saved = λ stays. put_saved put;
        page = λ on. inr (inl (put_saved put));
        order = inr (inl (put_saved put).1);
      }

-- nothing was to be opened
pub opened_none : (shape : Shape) (before : Option KeptLabel) (q : ℕ) (x y : List ℕ) → is_sealed before ≡ false → y ≡ x → Opened shape before q x y
opened_none shape None q x y none same = (ap (take 512) same, ap (drop 512) same)
opened_none shape (Some kept) q x y none same = (
  ap (take 512) same ∙ sym (ap (λ (s : Bool). if s then page_of shape (record kept { sealed = false }) q else take 512 x) none),
  ap (drop 512) same,
)
