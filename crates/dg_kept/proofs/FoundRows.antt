-- A save of an array of one block on two boundaries, found on one member, while the others are gone; and what isn't found so.
use Rattle.std.proofs.Common.{◌≡◌, ◌∙◌, ◌++◌, ◌+◌, ◌-◌, ◌<◌, ◌≤◌, ◌⊎◌, inl, inr, ℕ, zero, suc, Bool, true, false, cond, List, [], ◌∷◌, length, refl, sym, ap, arith}
use Rattle.std.specs.Prelude.{IfSome, IsSomeAnd, Option, Some, None, is_some, nat_eq, replicate, slice_index}
use Rattle.std.proofs.lemmas.Bool.{false≢true}
use Rattle.std.proofs.lemmas.List.Sums.{sum_by-cons}
use Rattle.dg_model.specs.Blocks.{block_in, zeros}
use Rattle.dg_model.specs.Members.{slot_of}
use Rattle.dg_model.specs.Openings.{Found, HasOwnLabel}
use Rattle.dg_model.specs.Saves.{IsLabel, SavedState, body_of, front_of_body, label_bytes, member_length, rest_of_body}
use Rattle.dg_model.specs.Seals.{label_on}
use Rattle.dg_model.specs.Shapes.{IsShape}
use Rattle.dg_model.specs.Sites.{has_site}
use Rattle.dg_model.specs.Tables.{IsTable, StandsIn, Table, count_on, sites_in}
use Rattle.dg_model.specs.declared.phases.Phase.TheVariants.{Loose}
use Rattle.dg_model.specs.declared.shapes.Shape.{Shape}
use Rattle.dg_model.specs.declared.sites.Site.{Site}
use Rattle.dg_model.proofs.SiteLists.{count_on-cons}
use Rattle.dg_kept.proofs.SaveLaws.{empty_older, no_label}
use Rattle.dg_kept.specs.Saved.{HasSaved, IsFoundOn, IsOlder, IsSave, Save}
use Rattle.dg_kept.specs.Taken.{AreTaken, IsTaken}

-- ---- the save

abbrev shape : Shape
shape = record { l = 512; n = 1; b = 2; k = 1; m = 1 }

is_shape : IsShape shape
is_shape = record {
  block = inl refl;
  least_blocks = omega arith;
  most_blocks = omega arith;
  least_boundaries = omega arith;
  most_boundaries = omega arith;
  least_slots = omega arith;
  most_slots = omega arith;
  room = omega arith;
  sites = omega arith;
  least_places = omega arith;
  most_places = omega arith;
}

-- block 0 stands in slot 0 of boundary 0
abbrev site : Site
site = record { boundary = 0; slot = 0 }

abbrev table : Table
table = record { shape = shape; rows = (site ∷ []) ∷ [] }

stands_there : (b s slot : ℕ) → StandsIn table b s slot → (b ≡ 0) × (s ≡ 0) × (slot ≡ 0)
stands_there zero s slot (zero, low, at) = (refl, sym (ap (λ (x : Site). x.boundary) at), sym (ap (λ (x : Site). x.slot) at))
stands_there zero s slot (suc k, low, at) = absurd (omega (arith, low))
stands_there (suc b) s slot (k, low, at) = absurd (omega (arith, low))

at_most_one : (same : Bool) → cond {A = ℕ} same 1 0 ≤ 1
at_most_one true = omega arith
at_most_one false = omega arith

none_on : (s : ℕ) → count_on s [] ≡ 0
none_on s = refl

one_on : (s : ℕ) → count_on s (site ∷ []) ≤ 1
one_on s = omega (arith, count_on-cons s site [], at_most_one (nat_eq 0 s), none_on s)

each_one : (b s : ℕ) → count_on s (sites_in table b) ≤ 1
each_one zero s = one_on s
each_one (suc b) s = omega (arith, none_on s)

is_table : IsTable table
is_table = record {
  shape = is_shape;
  size = refl;
  boundaries = λ b s slot h. (let at = (stands_there b s slot h).1 in omega (arith, at));
  slots = λ b s slot h. (let at = (stands_there b s slot h).2 in omega (arith, at));
  one_block = λ a b s slot g h. (stands_there a s slot g).0 ∙ sym (stands_there b s slot h).0;
  one_site = each_one;
  used = λ s. omega (arith, sum_by-cons (count_on s) (site ∷ []) [], one_on s);
}

abbrev state : SavedState
state = record { phase = Loose; good = true ∷ true ∷ true ∷ true ∷ []; table = table; pending = true ∷ []; homes = []; copies = []; recent = [] }

abbrev block : List ℕ
block = 7 ∷ zeros 511

abbrev save : Save
save = record {
  label = record {
    format = 2;
    sequence = 5;
    sealed = true;
    shape = shape;
    body = body_of 2 state;
    keepers = λ q. true;
    bodies = λ q. true;
    numbers = λ q. q;
  };
  state = state;
  blocks = block ∷ [];
}

nothing_below : (k : ℕ) → k < 0 → ⊥
nothing_below k low = omega (arith, low)

is_save : IsSave save
is_save = record {
  sealed = refl;
  numbers = λ q. refl;
  form = record {
    can = record {
      members = refl;
      table = is_table;
      marks = refl;
      homes = ((λ k low. absurd (omega (arith, low))), (λ k d low. absurd (nothing_below k low)));
      few_homes = omega arith;
      copies = ((λ k low. absurd (omega (arith, low))), (λ k d low. absurd (nothing_below k low)));
      settled = λ low. absurd (nothing_below 0 low);
      elsewhere = λ i t e. absurd (false≢true (ap (λ (o : Option ℕ). is_some o) e));
      few_recent = omega arith;
      recent = λ k d low. absurd (nothing_below k low);
      once = λ i j d less low. absurd (nothing_below j low);
    };
    formats = inr refl;
    no_copies = λ e. refl;
    no_recent = λ e. refl;
  };
  shape = refl;
  body = refl;
  size = refl;
  blank = blank;
}
  where
    blank : (b : ℕ) → b < 1 → has_site (sites_in table b) ≡ false → block_in (block ∷ []) b ≡ zeros 512
    blank zero low none = absurd (false≢true (sym none))
    blank (suc b) low none = absurd (omega (arith, low))

-- ---- a member

-- its bytes: a label with this number, the block in the first of two slots, this body, and the rest of its room
abbrev member : ℕ → List ℕ → List ℕ
member number body =
    label_bytes (record (label_on save.label 0) { sequence = number }) ++ block ++ zeros 512 ++ body
    ++ replicate (member_length 2 shape - (512 + 1024 + length body)) 0

abbrev saved_member : List ℕ
saved_member = member 5 (body_of 2 state)

is_label : (number : ℕ) → 1 ≤ number → number < 100 → IsLabel (record (label_on save.label 0) { sequence = number })
unfolding front_of_body rest_of_body
is_label number first last = record {
  formats = inr refl;
  first = first;
  last = omega arith;
  shape = is_shape;
  boundary = omega arith;
  side = omega arith;
  body = omega arith;
}

has_saved : HasSaved save 0 saved_member
unfolding label_bytes front_of_body rest_of_body
has_saved = record {
  label = record { is = is_label 5 (omega arith) (omega arith); bytes = refl };
  size = inl refl;
  body = refl;
  blocks = in_slot;
}
  where
    in_slot : (b slot : ℕ) → b < 1 → StandsIn table b 0 slot → slot_of 512 slot saved_member ≡ block_in (block ∷ []) b
    in_slot b slot low here =
        let at = stands_there b 0 slot here in
        ap (λ (k : ℕ). slot_of 512 k saved_member) at.2 ∙ sym (ap (λ (k : ℕ). block_in (block ∷ []) k) at.0)

own : HasOwnLabel 0 saved_member (label_on save.label 0)
own = record { begins = has_saved.label; boundary = refl; side = refl; size = has_saved.size }

-- it isn't older than the save, and neither is one of a later save
not_older : IsOlder save 0 saved_member → ⊥
not_older older = let less = older (label_on save.label 0) own in omega (arith, less)

later_own : HasOwnLabel 0 (member 6 (body_of 2 state)) (record (label_on save.label 0) { sequence = 6 })
unfolding label_bytes front_of_body rest_of_body
later_own = record {
  begins = record { is = is_label 6 (omega arith) (omega arith); bytes = refl };
  boundary = refl;
  side = refl;
  size = inl refl;
}

not_later : HasSaved save 0 (member 6 (body_of 2 state)) → ⊥
unfolding label_bytes
not_later h = let number = ap (λ (l : List ℕ). slice_index l 8) (sym later_own.begins.bytes ∙ h.label.bytes) in omega (arith, number)

-- one with the label above another body doesn't have what was saved
other_body : HasSaved save 0 (member 5 (zeros 24)) → ⊥
unfolding label_bytes front_of_body rest_of_body
other_body h = let count = ap (λ (l : List ℕ). slice_index l 8) h.body in omega (arith, count)

-- ---- where it is found

-- the other members are gone
abbrev images : List ℕ → ℕ → Option (List ℕ)
images first zero = Some first
images first (suc q) = Some []

found_on : IsFoundOn save (images saved_member)
found_on = record { one = (0, omega arith, has_saved); each = each }
  where
    each : (q : ℕ) → q < 32 → IsSomeAnd (images saved_member q) (λ all. HasSaved save q all ⊎ IsOlder save q all)
    each zero low = inl has_saved
    each (suc q) low = inr (empty_older save (suc q))

taken : ℕ → Option Found
taken zero = Some (record { label = label_on save.label 0; state = Some state })
taken (suc q) = None

are_taken : AreTaken (images saved_member) taken
unfolding taken
are_taken = record { each = each; others = others }
  where
    each : (q : ℕ) → q < 32 → IfSome (images saved_member q) (λ all. IsTaken taken q all (taken q))
    each zero low = (own, record { form = is_save.form; numbers = refl; says = has_saved.body })
    each (suc q) low = no_label (suc q)

    others : (q : ℕ) → 32 ≤ q → taken q ≡ None
    others zero past = absurd (omega (arith, past))
    others (suc q) past = refl

-- beside a member of a later save it isn't
not_found : IsFoundOn save (images (member 6 (body_of 2 state))) → ⊥
not_found found = elim (found.each 0 (omega arith)) [
  | inl has ↦ not_later has
  | inr older ↦ let less = older (record (label_on save.label 0) { sequence = 6 }) later_own in omega (arith, less)
]

-- nor where no member is left
none_left : IsFoundOn save (images []) → ⊥
none_left found = by found.one.0 found.one.2
  where
    too_short : (q : ℕ) → HasSaved save q [] → ⊥
    too_short q h = elim h.size [ inl size ↦ omega (arith, size) | inr old ↦ let size = old.1 in omega (arith, size) ]

    by : (q : ℕ) → IsSomeAnd (images [] q) (HasSaved save q) → ⊥
    by zero h = too_short 0 h
    by (suc q) h = too_short (suc q) h
