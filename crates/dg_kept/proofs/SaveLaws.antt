-- What a step that saves an array leaves on its members, and what is found of it on those that are left.
use Rattle.std.proofs.Common.{◌≡◌, ◌∙◌, ℕ, ◌*◌, ◌/◌, ◌<◌, ◌≢◌, ◌⊎◌, inl, inr, true, false, List, [], length, refl, sym, ap, subst, arith}
use Rattle.std.specs.Prelude.{IfSome, IsSomeAnd, Option, Some, None, slice_index, take}
use Rattle.std.proofs.lemmas.Bool.{cases_Bool, false≢true}
use Rattle.std.proofs.lemmas.List.Elements.{All-contains}
use Rattle.dg_model.specs.Blocks.{block_in, zeros}
use Rattle.dg_model.specs.Changes.{Saves}
use Rattle.dg_model.specs.Members.{SlotHolds, SlotOf, is_filling, is_good, serves, slot_of}
use Rattle.dg_model.specs.Openings.{HasOwnLabel}
use Rattle.dg_model.specs.Saves.{BeginsWith, HasBody, HasLength, Label, body_of, label_bytes}
use Rattle.dg_model.specs.Seals.{HoldsLabel, LastLabel, keeps_label, label_on}
use Rattle.dg_model.specs.States.{HoldsAll, StandsFor, State, saved_of}
use Rattle.dg_model.specs.Tables.{StandsIn, Table, sites_in}
use Rattle.dg_model.specs.declared.members.MemberState.{MemberState}
use Rattle.dg_model.specs.declared.members.MemberState.TheVariants.{Good, Filling, Out}
use Rattle.dg_model.specs.declared.sites.Site.{Site}
use Rattle.dg_kept.proofs.ToldLaws.{some_if, some_more, told_from}
use Rattle.dg_kept.specs.Saved.{HasSaved, IsFoundOn, IsOlder, IsSave, Save}
use Rattle.dg_kept.specs.SavedRuns.{AreAllInUse, AreTakenAway, IsLeft, LeavesSave, StandsStill}

-- ---- members without a label

pub zeros_older : (save : Save) (q : ℕ) (all : List ℕ) → take 512 all ≡ zeros 512 → IsOlder save q all
unfolding label_bytes
zeros_older save q all blank label own =
    let first = ap (λ (l : List ℕ). slice_index l 0) (sym own.begins.bytes ∙ blank) in
    absurd (omega (arith, first))

pub no_label : (q : ℕ) (label : Label) → HasOwnLabel q [] label → ⊥
no_label q label own = elim own.size [
  | inl size ↦ omega (arith, size)
  | inr old ↦ let size = old.1 in omega (arith, size)
]

pub empty_older : (save : Save) (q : ℕ) → IsOlder save q []
empty_older save q label own = absurd (no_label q label own)

-- ---- members

serves_good : (m : MemberState) (slot : ℕ) → is_good m ≡ true → serves m slot ≡ true
serves_good Good slot good = refl
serves_good (Filling have) slot good = absurd (false≢true good)
serves_good Out slot good = absurd (false≢true good)

filling_bad : (m : MemberState) → is_filling m ≡ true → is_good m ≡ false
filling_bad Good filling = absurd (false≢true filling)
filling_bad (Filling have) filling = refl
filling_bad Out filling = absurd (false≢true filling)

filling_in : (m : MemberState) → is_filling m ≡ true → m ≢ Out
filling_in m filling out = false≢true (sym (ap is_filling out) ∙ filling)

in_filling : (m : MemberState) → m ≢ Out → is_good m ≡ false → is_filling m ≡ true
in_filling Good stands bad = absurd (false≢true (sym bad))
in_filling (Filling have) stands bad = refl
in_filling Out stands bad = absurd (stands refl)

-- ---- a save

module _ (old : State) (number : ℕ) (new : State) (bytes : ℕ → Option (List ℕ)) (h : Saves old number new) (in_use : AreAllInUse new)
    (holds : HoldsAll bytes new) where
  abbrev last : LastLabel
  last = record {
    format = 2;
    sequence = number;
    sealed = true;
    shape = old.table.shape;
    body = body_of 2 (saved_of old h.marks);
    keepers = λ q. is_good (new.members q);
    bodies = λ q. is_good (new.members q);
    numbers = λ q. q;
  }

  abbrev save : Save
  save = record { label = last; state = saved_of old h.marks; blocks = old.blocks }

  label_is : new.label ≡ Some last
  label_is = ap (λ (s : State). s.label) h.rest

  table_is : new.table ≡ old.table
  table_is = ap (λ (s : State). s.table) h.rest

  stands : StandsFor old.table new.members bytes old.blocks
  stands = subst (λ (t : Table). StandsFor t new.members bytes old.blocks) table_is
      (subst (λ (v : List (List ℕ)). StandsFor new.table new.members bytes v) (ap (λ (s : State). s.blocks) h.rest) holds.blocks)

  two_not_one : ◌≡◌ {A = ℕ} 2 1 → ⊥
  two_not_one e = omega (arith, e)

  is_save : IsSave save
  is_save = record {
    sealed = refl;
    numbers = λ q. refl;
    form = record { can = h.form; formats = inr refl; no_copies = λ e. absurd (two_not_one e); no_recent = λ e. absurd (two_not_one e) };
    shape = refl;
    body = refl;
    size = stands.size;
    blank = stands.blank;
  }

  labels : HoldsLabel last bytes
  labels = subst (λ (l : Option LastLabel). IfSome l (λ (x : LastLabel). HoldsLabel x bytes)) label_is holds.label

  sizes : (q : ℕ) → is_good (new.members q) ≡ true → IfSome (bytes q) (λ all. HasLength (label_on last q) (length all))
  sizes = subst (λ (l : Option LastLabel). IfSome l (λ (x : LastLabel). (q : ℕ) → x.keepers q ≡ true → IfSome (bytes q) (λ all. HasLength (label_on x q) (length all))))
      label_is (holds.sizes in_use)

  in_slot : (q b slot : ℕ) → is_good (new.members q) ≡ true → b < old.table.shape.n → StandsIn old.table b (q / 2) slot
      → SlotOf old.table.shape.l slot (block_in old.blocks b) (bytes q)
  in_slot q b slot good low here =
      All-contains (λ (x : Site). SlotHolds old.table.shape.l new.members bytes x.boundary x.slot (block_in old.blocks b)) (sites_in old.table b)
      (record { boundary = q / 2; slot = slot }) (stands.held b low) here q refl (serves_good (new.members q) slot good)

  has_saved : (q : ℕ) → is_good (new.members q) ≡ true → IfSome (bytes q) (HasSaved save q)
  has_saved q good = on (bytes q) refl
    where
      on : (o : Option (List ℕ)) → bytes q ≡ o → IfSome o (HasSaved save q)
      on None e = tt
      on (Some all) e = record {
        label = some_if (λ (x : List ℕ). BeginsWith x (label_on last q)) (bytes q) all e (labels.label q good);
        size = some_if (λ (x : List ℕ). HasLength (label_on last q) (length x)) (bytes q) all e (sizes q good);
        body = some_if (λ (x : List ℕ). HasBody x last.shape last.body) (bytes q) all e (labels.body q good refl);
        blocks = λ b slot low here. some_if (λ (x : List ℕ). slot_of old.table.shape.l slot x ≡ block_in old.blocks b) (bytes q) all e (in_slot q b slot good low here);
      }

  fresh : (q : ℕ) → q / 2 < new.table.shape.b → is_filling (new.members q) ≡ true → IfSome (bytes q) (IsOlder save q)
  fresh q low filling = on (bytes q) refl
    where
      keeps_none : keeps_label new.label q ≡ false
      keeps_none = ap (λ (l : Option LastLabel). keeps_label l q) label_is ∙ filling_bad (new.members q) filling

      blank : IfSome (bytes q) (λ all. take 512 all ≡ zeros 512)
      blank = holds.fresh q low (filling_in (new.members q) filling) keeps_none

      on : (o : Option (List ℕ)) → bytes q ≡ o → IfSome o (IsOlder save q)
      on None e = tt
      on (Some all) e = zeros_older save q all (some_if (λ (x : List ℕ). take 512 x ≡ zeros 512) (bytes q) all e blank)

  pub leaves_save : (s : Save) × LeavesSave old number new bytes s
  leaves_save = (
    save,
    record {
      is = is_save;
      number_is = refl;
      label = label_is;
      state = refl;
      good = h.marks_are;
      blocks = refl;
      has = has_saved;
      fresh = fresh;
    },
  )

-- ---- what is left

module _ (old : State) (number : ℕ) (new : State) (bytes images : ℕ → Option (List ℕ)) (save : Save) (left : LeavesSave old number new bytes save)
    (away : AreTakenAway save new bytes images) where
  here : (P : List ℕ → Type 0) (q : ℕ) → IsLeft bytes images q → IfSome (bytes q) P → IsSomeAnd (images q) P
  here P q is h = subst (λ (o : Option (List ℕ)). IsSomeAnd o P) (sym is.same) (told_from P (bytes q) is.told h)

  -- a member that stands still has what was saved, or is older
  still : (q : ℕ) → StandsStill new bytes images q → IsSomeAnd (images q) (λ all. HasSaved save q all ⊎ IsOlder save q all)
  still q is = elim (cases_Bool (is_good (new.members q))) [
    | inl good ↦ some_more (HasSaved save q) (λ all. HasSaved save q all ⊎ IsOlder save q all) (images q) (λ all h. inl h) (here (HasSaved save q) q is.left (left.has q good))
    | inr bad ↦ some_more (IsOlder save q) (λ all. HasSaved save q all ⊎ IsOlder save q all) (images q) (λ all h. inr h)
        (here (IsOlder save q) q is.left (left.fresh q is.own (in_filling (new.members q) is.stood bad)))
  ]

  pub found_left : IsFoundOn save images
  found_left = record {
    one = (away.one.0, away.one.1, here (HasSaved save away.one.0) away.one.0 away.one.3 (left.has away.one.0 away.one.2));
    each = λ q low. elim (away.each q low) [ inl is ↦ still q is | inr other ↦ other ];
  }
