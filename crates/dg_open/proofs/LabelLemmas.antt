-- The label of an array that was opened, and the whole of what an opening gives.
use Rattle.std.proofs.Common.{◌≡◌, ◌≢◌, ◌⊎◌, inl, inr, ℕ, ◌+◌, ◌*◌, ◌/◌, ◌%◌, ◌<◌, ◌||◌, Bool, true, false, List, length, refl, sym, ◌∙◌, ap, subst, arith, eqb}
use Rattle.std.specs.Prelude.{◌==◌, Option, Some, IfSome, IsSome, if◌then◌else◌, slice_range}
use Rattle.std.proofs.lemmas.Bool.{and_parts, both_ways, cases_Bool, cases_eq, eq-eqb, false≢true, ne_eqb}
use Rattle.dg_io.specs.declared.outside.Rack.{Ghosts}
use Rattle.dg_label.specs.Labels.{AreNumbers, AreNumbersOf, HasLength, IsLabeled, StandsLabeled, is_long}
use Rattle.dg_io.specs.Commits.{is_marked as has_bit}
use Rattle.dg_label.specs.LineLaws.{line_itself}
use Rattle.dg_label.specs.declared.labels.KeptLabel.{KeptLabel}
use Rattle.dg_model.specs.Members.{is_filling, is_good}
use Rattle.dg_model.specs.Openings.{Found, HasOwnLabel, MayBeGood, Says}
use Rattle.dg_model.specs.Saves.{BeginsWith, HasBody, IsLabel, Label as LabelValue, body_of, body_place, member_length}
use Rattle.dg_model.specs.Saves as saves
use Rattle.dg_model.specs.Seals.{LastLabel, label_on}
use Rattle.dg_model.specs.Tables.{Table}
use Rattle.dg_model.specs.declared.members.MemberState.{MemberState}
use Rattle.dg_model.specs.declared.members.MemberState.TheVariants.{Good, Filling, Out}
use Rattle.dg_model.specs.declared.shapes.Shape.{Shape}
use Rattle.dg_model.specs.Marks.{is_marked}
use Rattle.dg_open.proofs.OpenLemmas.{counted_may, may_counted, seen_after, seen_labeled, source_is, source_read, state_from}
use Rattle.dg_open.proofs.ReadLemmas.{failed_before, if_both, if_some, measured_on, quiet_both, reads_both}
use Rattle.dg_open.proofs.RowLemmas.{counted_labeled, counted_low}
use Rattle.dg_open.specs.Reopenings.{HasReopened, LeavesRead, opened_label}
use Rattle.dg_open.specs.Seen.{AreCounted, AreFailed, AreLabeled, AreMeasured, AreQuiet, AreSealed, AreSeen, HasFailed, HasNotFailed, IsCounted, IsFirst, IsGreatest, IsLabeledBy, IsMeasured, OpensFrom, QuietBut}
use Rattle.dg_open.specs.Seen.{kept_of, label_at, taken_in}
use Rattle.dg_open.specs.declared.bodies.Source.{Source}
use Rattle.dg_open.specs.declared.reopens.Reopened.{Reopened}
use Rattle.dg_save.specs.Labels.{label_of}
use Rattle.dg_save.specs.States.{state_of}
use Rattle.dg_save.specs.declared.labels.Label.{Label}
use Rattle.dg_save.specs.declared.states.SavedState.{SavedState}
use Rattle.dg_store.specs.Stores.{IsSound, members_of, rack_of, shape_of, table_of}

good_not_out : Good ≡ Out → ⊥
good_not_out e = cc

-- what a member that is good counts as
when_good : (P : Type 0) (member : MemberState) → ((member ≡ Good) × P) ⊎ ((member ≡ Out) × (P → ⊥)) → member ≡ Good → P
when_good P member is good = elim is [ inl here ↦ here.1 | inr out ↦ absurd (good_not_out (sym good ∙ out.0)) ]

-- one that isn't out
when_in : (P : Type 0) (member : MemberState) → ((member ≡ Good) × P) ⊎ ((member ≡ Out) × (P → ⊥)) → member ≢ Out → P
when_in P member is not = elim is [ inl here ↦ here.1 | inr out ↦ absurd (not out.0) ]

eqb_is : (q s : ℕ) → eqb q s ≡ true → q ≡ s
eqb_is q s e = grind (arith, e)

good_is : (member : MemberState) → is_good member ≡ true → member ≡ Good
good_is Good e = refl
good_is (Filling have) e = absurd (false≢true e)
good_is Out e = absurd (false≢true e)

never_filling : (P : Type 0) (member : MemberState) → ((member ≡ Good) × P) ⊎ ((member ≡ Out) × (P → ⊥)) → is_filling member ≡ true → ⊥
never_filling P member is filling = elim is [
  | inl here ↦ false≢true (sym (ap is_filling here.0) ∙ filling)
  | inr out ↦ false≢true (sym (ap is_filling out.0) ∙ filling)
]

same_value : (l : LabelValue) (body : ℕ) → l.sealed ≡ true → l.body ≡ body → l ≡ record l { sealed = true; body = body }
same_value l body sealed size = ap (λ (b : Bool). record l { sealed = b }) sealed ∙ ap (λ (n : ℕ). record l { sealed = true; body = n }) size

-- a member whose bit tells how long it is
length_is : (label : LabelValue) (kept : KeptLabel) (shape : Shape) (q size : ℕ) → IsLabel label → kept.format ≡ label.format → shape ≡ label.shape
    → has_bit kept.long q ≡ (size == member_length 2 label.shape) → saves.HasLength label size → HasLength shape (Some kept) q size
length_is label kept shape q size is format shaped bit has = subst (λ (s : Shape). HasLength s (Some kept) q size) (sym shaped) (elim is.formats [
  | inr two ↦
      let long : is_long (Some kept) q ≡ true = ap (λ (f : ℕ). (f == 2) || has_bit kept.long q) (format ∙ two) in
      by_bit true long (elim has [ inl same ↦ same ∙ ap (λ (f : ℕ). member_length f label.shape) two | inr other ↦ other.1 ])
  | inl one ↦
      let told : is_long (Some kept) q ≡ (size == member_length 2 label.shape) = ap (λ (f : ℕ). (f == 2) || has_bit kept.long q) (format ∙ one) ∙ bit in
      elim (cases_eq size (member_length 2 label.shape)) [
        | inl same ↦ by_bit true (told ∙ eq-eqb size (member_length 2 label.shape) same) same
        | inr apart ↦
            by_bit false (told ∙ ne_eqb size (member_length 2 label.shape) apart)
            (elim has [ inl same ↦ same ∙ ap (λ (f : ℕ). member_length f label.shape) one | inr other ↦ absurd (apart other.1) ])
      ]
])
  where
    by_bit : (long : Bool) → is_long (Some kept) q ≡ long → size ≡ member_length (if long then 2 else 1) label.shape → HasLength label.shape (Some kept) q size
    by_bit long told size_is = subst (λ (b : Bool). size ≡ member_length (if b then 2 else 1) label.shape) (sym told) size_is

module _ {R : Type 0} (rack : Ghosts R) (before start : R) (table : List (Option Label)) (failed : List Bool) (long greatest : ℕ) (label : Label) (reopened : Reopened R)
    (seen : AreSeen rack before start table 32) (is_greatest : IsGreatest table 32 greatest) (sealed : AreSealed table greatest 32)
    (leaves : LeavesRead rack start (rack_of reopened.store)) (first : IsFirst rack start (rack_of reopened.store) table greatest (record { label = label; saved = reopened.saved }))
    (fails : AreFailed rack start (rack_of reopened.store) failed)
    (quiet_start : AreQuiet rack before start table 32) (quiet : QuietBut rack start (rack_of reopened.store) failed)
    (table_is : table_of reopened.store ≡ (state_of reopened.saved).table) (members : AreCounted table failed label reopened.saved.good (members_of reopened.store))
    (label_is : reopened.label ≡ kept_of label long) (sound : IsSound rack reopened.store) (measures : AreMeasured rack start table long 32) where
  abbrev now : R
  now = rack_of reopened.store

  abbrev source : Source
  source = record { label = label; saved = reopened.saved }

  abbrev taken : ℕ → Option Found
  taken = taken_in table (state_from first.q (state_of reopened.saved))

  labeled : AreLabeled rack now table
  labeled = seen_labeled rack before now table (seen_after rack before start now table seen leaves)

  is_label : IsLabel (label_of label)
  is_label = (subst (λ (o : Option Label). IfSome o (IsLabeledBy rack now first.q)) first.number.there (labeled first.q first.within)).is

  is_sealed : label.sealed ≡ true
  is_sealed = sealed first.q label first.within first.number

  shape_is : shape_of reopened.store ≡ label.shape
  shape_is = ap (λ (t : Table). t.shape) table_is ∙ first.says.numbers

  abbrev last : LastLabel
  last = opened_label first.q (label_of label) (state_of reopened.saved) reopened.store

  size_of_marks : length reopened.saved.good ≡ 2 * label.shape.b
  size_of_marks = first.says.form.members ∙ ap (λ (s : Shape). 2 * s.b) first.says.numbers

  low : (q : ℕ) → IsCounted table failed label reopened.saved.good q → q < 32
  low q counted = counted_low table failed label reopened.saved.good label.shape.b q size_of_marks is_label.shape.most_boundaries counted

  own : (q : ℕ) → IsCounted table failed label reopened.saved.good q → IsLabeledBy rack now q (record label { boundary = q / 2; side = q % 2 })
  own q counted = counted_labeled rack now table failed label reopened.saved.good q labeled (low q counted) counted

  begins : (q : ℕ) → is_good (members_of reopened.store q) ≡ true → IfSome (rack.bytes now q) (λ all. BeginsWith all (label_on last q))
  begins q good =
      let counted = when_good _ (members_of reopened.store q) (members q) (good_is (members_of reopened.store q) good) in
      let value : label_of (record label { boundary = q / 2; side = q % 2 }) ≡ label_on last q =
      same_value (label_of (record label { boundary = q / 2; side = q % 2 })) (length (body_of label.format (state_of reopened.saved))) is_sealed (sym first.says.size) in
      if_some (λ all. HasOwnLabel q all (label_of (record label { boundary = q / 2; side = q % 2 }))) (λ all. BeginsWith all (label_on last q)) (rack.bytes now q) (own q counted).own
      (λ all h. subst (λ (l : LabelValue). BeginsWith all l) value h.begins)

  -- it is as long as the label says
  sized : (q : ℕ) → is_good (members_of reopened.store q) ≡ true → IfSome (rack.bytes now q) (λ all. saves.HasLength (label_on last q) (length all))
  sized q good =
      let counted = when_good _ (members_of reopened.store q) (members q) (good_is (members_of reopened.store q) good) in
      if_some (λ all. HasOwnLabel q all (label_of (record label { boundary = q / 2; side = q % 2 }))) (λ all. saves.HasLength (label_on last q) (length all)) (rack.bytes now q) (own q counted).own
      (λ all h. h.size)

  -- the source has the body that was read
  has_body : (q : ℕ) → last.bodies q ≡ true → IfSome (rack.bytes now q) (λ all. HasBody all label.shape (body_of label.format (state_of reopened.saved)))
  has_body q is =
      let here = eqb_is q first.q (and_parts (q == first.q) (is_good (members_of reopened.store q)) is).0 in
      subst (λ (p : ℕ). IfSome (rack.bytes now p) (λ all. HasBody all label.shape (body_of label.format (state_of reopened.saved)))) (sym here)
      (if_some (λ all. Says (label_of label) all (Some (state_of reopened.saved))) (λ all. HasBody all label.shape (body_of label.format (state_of reopened.saved))) (rack.bytes now first.q)
      first.says.says
      (λ all is_body. ap (λ (n : ℕ). slice_range all (body_place label.shape) (body_place label.shape + n)) first.says.size ∙ is_body.says))

  numbers_of : AreNumbersOf last (kept_of label long)
  numbers_of = record { format = refl; sequence = refl; sealed = sym is_sealed; body = first.says.size }

  kept : AreNumbersOf last reopened.label
  kept = subst (λ (k : KeptLabel). AreNumbersOf last k) (sym label_is) numbers_of

  numbers : AreNumbers (shape_of reopened.store) reopened.label
  numbers = subst (λ (k : KeptLabel). AreNumbers (shape_of reopened.store) k) (sym label_is)
      (subst (λ (s : Shape). AreNumbers s (kept_of label long)) (sym shape_is)
      (record { formats = is_label.formats; first = is_label.first; last = is_label.last; body = is_label.body }))

  -- its bit tells how long it is
  measured : (q : ℕ) → IsCounted table failed label reopened.saved.good q → IfSome (rack.bytes now q) (λ all. has_bit long q ≡ (length all == member_length 2 label.shape))
  measured q counted =
      subst (λ (found : Option Label). IfSome found (IsMeasured rack now q (has_bit long q))) counted.there
      (measured_on rack start now q (has_bit long q) (label_at table q) (measures q (low q counted)) leaves)

  is_labeled : IsLabeled rack (shape_of reopened.store) reopened.store (Some reopened.label)
  is_labeled = record {
    fits = line_itself (shape_of reopened.store) sound.table.shape;
    numbers = numbers;
    sealed = λ sealed. numbers;
    lengths = λ q not.
        let counted = when_in _ (members_of reopened.store q) (members q) not in
        if_both (λ all. HasOwnLabel q all (label_of (record label { boundary = q / 2; side = q % 2 }))) (λ all. has_bit long q ≡ (length all == member_length 2 label.shape))
        (λ all. HasLength (shape_of reopened.store) (Some reopened.label) q (length all)) (rack.bytes now q) (own q counted).own (measured q counted)
        (λ all h bit. length_is (label_of (record label { boundary = q / 2; side = q % 2 })) reopened.label (shape_of reopened.store) q (length all) (own q counted).is
        (ap (λ (k : KeptLabel). k.format) label_is) shape_is (ap (λ (k : KeptLabel). has_bit k.long q) label_is ∙ bit) h.size);
    filling = λ q filling. absurd (never_filling _ (members_of reopened.store q) (members q) filling);
  }

  stands : StandsLabeled rack (shape_of reopened.store) reopened.store (Some reopened.label) (Some last)
  stands = record {
    kept = kept;
    holds = record {
      label = begins;
      body = λ q has sealed_last. has_body q has;
    };
    of_array = λ why. record { shape_is = sym shape_is; numbers_are = λ q. refl };
    sizes = λ all_named. sized;
    filling = λ q filling. absurd (never_filling _ (members_of reopened.store q) (members q) filling);
    fresh = λ q within not none. elim (members q) [
      | inl good ↦ absurd (both_ways (is_good (members_of reopened.store q)) none (ap is_good good.0))
      | inr gone ↦ absurd (not gone.0)
    ];
  }

  -- of a member that is good no count of faults rose
  counted_quiet : (q : ℕ) → IsCounted table failed label reopened.saved.good q → HasNotFailed rack before now q
  counted_quiet q counted =
      quiet_both rack before start now q
      (quiet_start.labeled q (low q counted) (subst (λ (o : Option Label). IsSome o) (sym counted.there) refl)) (quiet q counted.stood)

  fell : (q : ℕ) → (rack.counts before).faults q < (rack.counts now).faults q → members_of reopened.store q ≡ Out
  fell q rose = elim (members q) [
    | inl good ↦ absurd (let same = counted_quiet q good.1 in omega (arith, rose, same))
    | inr gone ↦ gone.0
  ]

  out : (q : ℕ) → (members_of reopened.store q ≡ Good)
      ⊎ ((members_of reopened.store q ≡ Out) × (MayBeGood taken (label_of label) (state_of reopened.saved) q → HasFailed rack before now q))
  out q = elim (members q) [
    | inl good ↦ inl good.0
    | inr gone ↦ inr (
      gone.0,
      λ may. elim (cases_Bool (is_marked failed q)) [
        | inl marked ↦ failed_before rack before start now q seen.leaves (fails q marked)
        | inr stood ↦ absurd (gone.1 (may_counted rack before start now table greatest source seen is_greatest sealed leaves first failed q may stood))
      ],
    )
  ]

  pub has_reopened : HasReopened rack before reopened
  has_reopened = record {
    taken = taken;
    source = first.q;
    label = label_of label;
    read = source_read rack before start now table greatest source seen is_greatest sealed leaves first;
    is_source = source_is rack before start now table greatest source seen is_greatest sealed leaves first;
    form = first.says.form;
    table = table_is;
    good = λ q good. counted_may rack before start now table greatest source seen is_greatest sealed leaves first failed q
        (when_good _ (members_of reopened.store q) (members q) good);
    out = out;
    fell = fell;
    body = first.says.size;
    sound = sound;
    labeled = is_labeled;
    stands = stands;
    leaves = reads_both rack before start now seen.leaves leaves;
  }

pub opens : {R : Type 0} (rack : Ghosts R) (before start now : R) (table : List (Option Label)) (failed : List Bool) (long greatest : ℕ) (source : Source) (reopened : Reopened R)
    → AreSeen rack before start table 32 → IsGreatest table 32 greatest → AreSealed table greatest 32 → LeavesRead rack start now → IsFirst rack start now table greatest source
    → AreFailed rack start now failed → AreQuiet rack before start table 32 → QuietBut rack start now failed
    → AreMeasured rack start table long 32 → OpensFrom rack now table failed long source reopened → HasReopened rack before reopened
opens rack before start now table failed long greatest source reopened seen is_greatest sealed leaves first fails quiet_start quiet measures opened =
    has_reopened rack before start table failed long greatest source.label reopened seen is_greatest sealed
    (subst (λ s. LeavesRead rack start s) (sym opened.rack_is) leaves)
    (subst (λ s. IsFirst rack start s table greatest (record source { saved = reopened.saved })) (sym opened.rack_is)
    (subst (λ (v : SavedState). IsFirst rack start now table greatest (record source { saved = v })) (sym opened.saved_is) first))
    (subst (λ s. AreFailed rack start s failed) (sym opened.rack_is) fails)
    quiet_start
    (subst (λ s. QuietBut rack start s failed) (sym opened.rack_is) quiet)
    (opened.table_is ∙ ap (λ (v : SavedState). (state_of v).table) (sym opened.saved_is))
    (subst (λ (v : SavedState). AreCounted table failed source.label v.good (members_of reopened.store)) (sym opened.saved_is) opened.members)
    opened.label_is
    opened.sound
    measures
