-- What an opening makes is in a state that the model opens.
use Rattle.std.proofs.Common.{◌≡◌, ◌≢◌, ◌⊎◌, ◌∙◌, ◌<◌, ◌≤◌, ◌+◌, ◌*◌, ℕ, Bool, true, false, List, [], length, drop, get_or, inl, inr, refl, sym, ap, subst, take, arith, ◌/◌, ◌&&◌, zero, suc}
use Rattle.std.specs.List.Sorted.{IsStrictlyIncreasing}
use Rattle.std.specs.Prelude.{◌==◌, IfSome, IsSome, MatchOption, Option, Some, None, is_some}
use Rattle.std.proofs.lemmas.Bool.{and_from, and_parts, cases_lt, false≢true}
use Rattle.std.proofs.lemmas.List.{get_or_default, same_lists}
use Rattle.std.proofs.lemmas.List.Elements.{All-nil, All-weaker}
use Rattle.std.proofs.lemmas.List.Kept.{AllPairs-from_increasing}
use Rattle.dg_infer.specs.Meanings.{KeptInference}
use Rattle.dg_infer.specs.Meanings as inferences
use Rattle.dg_io.specs.MadeLaws.{same_both}
use Rattle.dg_io.specs.Makes.{Makes}
use Rattle.dg_io.specs.MakesLaws.{makes_both, makes_such}
use Rattle.dg_io.specs.RackCalls.{RackCall}
use Rattle.dg_io.specs.RackCalls.RackCall.{looks, blanks, calls, extends}
use Rattle.dg_io.specs.Told.{IsSame, Told, Torn}
use Rattle.dg_io.specs.declared.outside.Rack.{Ghosts}
use Rattle.dg_label.specs.Labels.{HasLength, IsLabeled, StandsLabeled}
use Rattle.dg_label.specs.LineLaws.{line_on, seal_on}
use Rattle.dg_label.specs.declared.labels.KeptLabel.{KeptLabel}
use Rattle.dg_model.specs.Blocks.{block_in}
use Rattle.dg_model.specs.Causes.{Rose}
use Rattle.dg_model.specs.Changes.{IsInOrder}
use Rattle.dg_model.specs.Lives.{AreLive}
use Rattle.dg_model.specs.Marks.{AreLeft, AreNext}
use Rattle.dg_model.specs.Members.{HasFallen, SlotHolds, SlotOf, is_filling, is_good, slot_of}
use Rattle.dg_model.specs.Openings.{FitsReduced, Found, IsReopened, MayBeGood, Opens, Reduced, all_in_use, copies_after}
use Rattle.dg_model.specs.Placed.{IsPlaced}
use Rattle.dg_model.specs.Saves.{AreHomes, Label, SavedState, member_length}
use Rattle.dg_model.specs.Seals.{LastLabel}
use Rattle.dg_model.specs.States.{State, has_lost, is_broken}
use Rattle.dg_model.specs.States as states
use Rattle.dg_model.specs.Tables.{Table, sites_in}
use Rattle.dg_model.specs.Volumes.{IsRegularFile, IsSystemBlock}
use Rattle.dg_model.specs.Wants.{AreWants, FitWants, IsOf, IsWant, want_of}
use Rattle.dg_model.specs.declared.homes.Home.{Home}
use Rattle.dg_model.specs.declared.members.MemberState.{MemberState}
use Rattle.dg_model.specs.declared.members.MemberState.TheVariants.{Filling, Good, Out}
use Rattle.dg_model.specs.declared.phases.Phase.{Phase}
use Rattle.dg_model.specs.declared.phases.Phase.TheVariants.{Loose as LoosePhase, Settled as SettledPhase, Worn as WornPhase}
use Rattle.dg_model.specs.declared.shapes.Shape.{Shape}
use Rattle.dg_model.specs.declared.sites.Site.{Site}
use Rattle.dg_model.specs.declared.wants.Want.{Want}
use Rattle.dg_model.specs.declared.wants.Want.TheVariants.{File, Kept, Stray}
use Rattle.dg_open.specs.Founds.{AreRead, IsBodyRead, IsRead}
use Rattle.dg_open.specs.Reopenings.{HasReopened, IsCallOfOpening, opened_label}
use Rattle.dg_open.specs.declared.reopens.Reopened.{Reopened}
use Rattle.dg_pair.specs.Calls.{IsCallOf}
use Rattle.dg_save.specs.States as saves
use Rattle.dg_store.specs.Leaves.{RackStays}
use Rattle.dg_store.specs.Stores.{TellsAll}
use Rattle.dg_store.specs.Stores as stores
use Rattle.dg_store.specs.declared.store.Store.{Store}
use Rattle.dg_volume.proofs.FaultLaws.{falls_out, keeps_tells}
use Rattle.dg_volume.proofs.LabelLaws.{filling_not_good, good_falls, length_stays, stands_through}
use Rattle.dg_volume.specs.Origins.{WasHeld}
use Rattle.dg_volume.specs.Origins.Origin.{held as blocks_held}
use Rattle.dg_volume.specs.Opens.{HasOpenedBeside, IsDisordered, IsMadeOf, IsOrdered, IsPhaseOf, IsRestored, had}
use Rattle.dg_volume.specs.Phases.{kept_in, phase_in}
use Rattle.dg_volume.specs.Planned.{HasReadArray}
use Rattle.dg_volume.specs.Volumes.{FitsArray, IsInPlace, IsWell, Known, StandsIn, StandsUnder, any_phase, cut_of, line_of, live_of, marks_by, marks_of, members_of, rack_of, reduced_of, shape_of, table_of}
use Rattle.dg_volume.specs.declared.phases.AnyPhase.{AnyPhase}
use Rattle.dg_volume.specs.declared.phases.AnyPhase.TheVariants.{Loose, Settled, Worn}
use Rattle.dg_volume.specs.declared.volumes.Volume.{Volume}
use Rattle.ufs_model.specs.Blocks as volumes
use Rattle.ufs_model.specs.Malformations.{IsFirstMalformation, IsSoundVolume}

-- ---- one want for each block

abbrev pub OneOwner : Type 0
OneOwner = (l n : ℕ) (v : volumes.Volume) (b i j : ℕ) → IsOf l n v b i → IsOf l n v b j → i ≡ j

abbrev pub NoSystem : Type 0
NoSystem = (l n : ℕ) (v : volumes.Volume) (b i : ℕ) → IsOf l n v b i → IsSystemBlock l n v b → ⊥

module _ (one : OneOwner) (none : NoSystem) where
  kept_file : (l n : ℕ) (v : volumes.Volume) (b i : ℕ) → IsWant l n v b Kept → IsWant l n v b (File i) → ⊥
  kept_file l n v b i kept file = elim kept [
    | inl system ↦ none l n v b i file.0 system
    | inr own ↦ own.2 (subst (λ (j : ℕ). IsRegularFile l n v j) (one l n v b i own.0 file.0 own.1) file.1)
  ]

  kept_stray : (l n : ℕ) (v : volumes.Volume) (b : ℕ) → IsWant l n v b Kept → IsWant l n v b Stray → ⊥
  kept_stray l n v b kept stray = elim kept [
    | inl system ↦ stray.0 system
    | inr own ↦ stray.1 own.0 own.1
  ]

  one_want : (l n : ℕ) (v : volumes.Volume) (b : ℕ) (x y : Want) → IsWant l n v b x → IsWant l n v b y → x ≡ y
  one_want l n v b Kept Kept first other = refl
  one_want l n v b Kept (File i) first other = absurd (kept_file l n v b i first other)
  one_want l n v b Kept Stray first other = absurd (kept_stray l n v b first other)
  one_want l n v b (File i) Kept first other = absurd (kept_file l n v b i other first)
  one_want l n v b (File i) (File j) first other = ap File (one l n v b i j first.0 other.0)
  one_want l n v b (File i) Stray first other = absurd (other.1 i first.0)
  one_want l n v b Stray Kept first other = absurd (kept_stray l n v b other first)
  one_want l n v b Stray (File i) first other = absurd (first.1 i other.0)
  one_want l n v b Stray Stray first other = refl

  same_want : (l n : ℕ) (v : volumes.Volume) (b : ℕ) (x y : Option Want) → is_some x ≡ is_some y → ((w : Want) → x ≡ Some w → IsWant l n v b w) → ((w : Want) → y ≡ Some w → IsWant l n v b w) → x ≡ y
  same_want l n v b None None e first other = refl
  same_want l n v b None (Some y) e first other = absurd (false≢true e)
  same_want l n v b (Some x) None e first other = absurd (false≢true (sym e))
  same_want l n v b (Some x) (Some y) e first other = ap (λ (w : Want). Some w) (one_want l n v b x y (first x refl) (other y refl))

  -- the wants of the blocks of a table are these alone
  pub same_wants : (table : Table) (l n : ℕ) (v : volumes.Volume) (xs ys : List (Option Want)) → FitWants table xs → FitWants table ys → AreWants l n v xs → AreWants l n v ys → xs ≡ ys
  same_wants table l n v xs ys fits fit first other =
      same_lists xs ys (fits.size ∙ sym fit.size) (λ k d low. at_any k d low (want_at k))
    where
      want_at : (k : ℕ) → want_of xs k ≡ want_of ys k
      want_at k = same_want l n v k (want_of xs k) (want_of ys k) (fits.written k ∙ sym (fit.written k)) (first k) (other k)

      at_any : (k : ℕ) (d : Option Want) → k < length xs → want_of xs k ≡ want_of ys k → get_or xs k d ≡ get_or ys k d
      at_any k d low e = get_or_default xs k d None low ∙ e ∙ get_or_default ys k None d (omega (arith, low, fits.size, fit.size))

-- ---- counts

rose_later : (before mid now : ℕ) → Rose before mid → mid ≤ now → Rose before now
rose_later before mid now rose later = omega (arith, rose, later)

rose_before : (before mid now : ℕ) → before ≤ mid → Rose mid now → Rose before now
rose_before before mid now earlier rose = omega (arith, earlier, rose)

-- ---- what was read

body_later : (taken : ℕ → Option Found) (q before mid now : ℕ) (label : Label) (all : List ℕ) (said : Option SavedState) → mid ≤ now → IsBodyRead taken q before mid label all said
    → IsBodyRead taken q before now label all said
body_later taken q before mid now label all (Some saved) later h = h
body_later taken q before mid now label all None later h = elim h [
  | inl none ↦ inl none
  | inr more ↦ elim more [
    | inl rose ↦ inr (inl (rose_later before mid now rose later))
    | inr passed ↦ inr (inr passed)
  ]
]

read_later : (taken : ℕ → Option Found) (q before mid now : ℕ) (all : List ℕ) (found : Option Found) → mid ≤ now → IsRead taken q before mid all found → IsRead taken q before now all found
read_later taken q before mid now all None later h = elim h [
  | inl none ↦ inl none
  | inr rose ↦ inr (rose_later before mid now rose later)
]
read_later taken q before mid now all (Some found) later h = (h.0, body_later taken q before mid now found.label all found.state later h.1)

read_had : (P Q : List ℕ → Type 0) (before mid now : Option (List ℕ)) → Told IsSame before mid → (IsSome now → IsSome mid) → IfSome mid P → ((all : List ℕ) → P all → Q all)
    → IfSome (had before now) Q
read_had P Q before mid None same told is gives = tt
read_had P Q before None (Some n) same told is gives = absurd (false≢true (told refl))
read_had P Q None (Some m) (Some n) same told is gives = absurd same
read_had P Q (Some b) (Some m) (Some n) same told is gives = gives b (subst P same is)

torn_on : (n : ℕ) (before mid now : Option (List ℕ)) → Told IsSame before mid → Told (Torn 512 n) mid now → Told (Torn 512 n) before now
torn_on n before mid None same told = tt
torn_on n before None (Some a) same told = absurd told
torn_on n None (Some m) (Some a) same told = absurd same
torn_on n (Some b) (Some m) (Some a) same told = record {
  size = told.size ∙ ap length same;
  front = told.front ∙ ap (λ (xs : List ℕ). take 512 xs) same;
  back = told.back ∙ ap (λ (xs : List ℕ). drop (512 + n) xs) same;
}

slot_same : (l slot : ℕ) (v : List ℕ) (before now : Option (List ℕ)) → Told IsSame before now → SlotOf l slot v before → SlotOf l slot v now
slot_same l slot v None None same holds = tt
slot_same l slot v (Some b) None same holds = tt
slot_same l slot v None (Some a) same holds = absurd same
slot_same l slot v (Some b) (Some a) same holds = ap (slot_of l slot) same ∙ holds

-- members that hold some blocks hold them where their bytes stay
held_same : (table : Table) (members : ℕ → MemberState) (before now : ℕ → Option (List ℕ)) (V : List (List ℕ)) → ((q : ℕ) → Told IsSame (before q) (now q)) → states.StandsFor table members before V
    → states.StandsFor table members now V
held_same table members before now V same held = record {
  size = held.size;
  blank = held.blank;
  held = λ b low.
      All-weaker (λ (site : Site). SlotHolds table.shape.l members before site.boundary site.slot (block_in V b))
      (λ (site : Site). SlotHolds table.shape.l members now site.boundary site.slot (block_in V b))
      (λ site holds q on serving. slot_same table.shape.l site.slot (block_in V b) (before q) (now q) (same q) (holds q on serving)) (sites_in table b) (held.held b low);
}

-- ---- members

still_good : (before now : ℕ → ℕ) (old new : ℕ → MemberState) (q : ℕ) → (new q ≡ old q) ⊎ HasFallen before now old new q → new q ≡ Good → old q ≡ Good
still_good before now old new q fall good = elim fall [
  | inl same ↦ sym same ∙ good
  | inr fallen ↦ absurd (out_good (sym fallen.out ∙ good))
]
  where
    out_good : Out ≡ Good → ⊥
    out_good e = cc e

good_is : (m : MemberState) → is_good m ≡ true → m ≡ Good
good_is Good e = refl
good_is (Filling have) e = absurd (false≢true e)
good_is Out e = absurd (false≢true e)

fall_before : (before mid now : ℕ → ℕ) (old new : ℕ → MemberState) (q : ℕ) → before q ≤ mid q → (new q ≡ old q) ⊎ HasFallen mid now old new q → (new q ≡ old q) ⊎ HasFallen before now old new q
fall_before before mid now old new q earlier fall = elim fall [
  | inl same ↦ inl same
  | inr fallen ↦ inr (record {
    out = fallen.out;
    caused = elim fallen.caused [
      | inl rose ↦ inl (rose_before (before q) (mid q) (now q) earlier rose)
      | inr partner ↦ inr partner
    ];
  })
]

out_by : (before mid now : ℕ → ℕ) (old new : ℕ → MemberState) (q : ℕ) (May : Type 0) → before q ≤ mid q → mid q ≤ now q
    → (old q ≡ Good) ⊎ ((old q ≡ Out) × (May → Rose (before q) (mid q))) → (new q ≡ old q) ⊎ HasFallen mid now old new q
    → (new q ≡ Good) ⊎ ((new q ≡ Out) × (May → Rose (before q) (now q)))
out_by before mid now old new q May earlier later was fall = elim was [
  | inl good ↦ elim fall [
    | inl same ↦ inl (same ∙ good)
    | inr fallen ↦ inr (
      fallen.out,
      λ may. elim fallen.caused [
        | inl rose ↦ rose_before (before q) (mid q) (now q) earlier rose
        | inr partner ↦ absurd (false≢true (ap is_filling (sym good) ∙ partner.0))
      ],
    )
  ]
  | inr out ↦ inr (elim fall [ inl same ↦ same ∙ out.0 | inr fallen ↦ fallen.out ], λ may. rose_later (before q) (mid q) (now q) (out.1 may) later)
]

-- ---- the label

module _ {R : Type 0} (rack : Ghosts R) where
  pub labeled_on : (line : Shape) (old new : Store R) (label : Option KeptLabel) → HasReadArray rack old new → IsLabeled rack line old label → IsLabeled rack line new label
  labeled_on line old new label read is = let keeps = read.reads.keeps in record {
    fits = line_on line (stores.shape_of old) (stores.shape_of new) keeps.shape is.fits;
    numbers = is.numbers;
    sealed = seal_on (stores.shape_of old) (stores.shape_of new) label keeps.shape is.sealed;
    lengths = λ q stays.
        (length_stays _ (HasLength line label q) (rack.bytes (stores.rack_of old) q) (rack.bytes (stores.rack_of new) q) (keeps.beside q)
        (is.lengths q (λ out. elim (keeps.falls q) [ inl same ↦ stays (same ∙ out) | inr fallen ↦ stays fallen.out ])));
    filling = λ q fills.
        (length_stays _ (λ n. n ≡ member_length 2 line) (rack.bytes (stores.rack_of old) q) (rack.bytes (stores.rack_of new) q) (keeps.beside q)
        (is.filling q (was_filling q fills)));
  }
    where
      was_filling : (q : ℕ) → is_filling (stores.members_of new q) ≡ true → is_filling (stores.members_of old q) ≡ true
      was_filling q fills = elim (read.reads.keeps.falls q) [
        | inl same ↦ ap is_filling (sym same) ∙ fills
        | inr fallen ↦ absurd (false≢true (ap is_filling (sym fallen.out) ∙ fills))
      ]

-- ---- phases

loose_worn : LoosePhase ≡ WornPhase → ⊥
loose_worn e = cc e

settled_worn : SettledPhase ≡ WornPhase → ⊥
settled_worn e = cc e

loose_settled : LoosePhase ≡ SettledPhase → ⊥
loose_settled e = cc e

worn_settled : WornPhase ≡ SettledPhase → ⊥
worn_settled e = cc e

settled_loose : SettledPhase ≡ LoosePhase → ⊥
settled_loose e = cc e

worn_loose : WornPhase ≡ LoosePhase → ⊥
worn_loose e = cc e

no_homes : (shape : Shape) → AreHomes shape []
no_homes shape = (λ k within. absurd (omega (arith, within)), All-nil _)

pub copies_there : (shape : Shape) (phase : Phase) (copies : List Home) → AreHomes shape copies → AreHomes shape (copies_after phase copies)
copies_there shape LoosePhase copies are = no_homes shape
copies_there shape SettledPhase copies are = are
copies_there shape WornPhase copies are = no_homes shape

pub uncopied : (phase : Phase) (copies : List Home) → phase ≢ SettledPhase → copies_after phase copies ≡ []
uncopied LoosePhase copies other = refl
uncopied SettledPhase copies other = absurd (other refl)
uncopied WornPhase copies other = refl

next_when : (broken : Bool) (Known : Type 0) (l n : ℕ) (V : volumes.Volume) (old new : List Bool) → broken ≡ true → new ≡ old → AreNext broken Known l n V old new
next_when true Known l n V old new e same = same
next_when false Known l n V old new e same = absurd (false≢true e)

next_left : (broken : Bool) (Known : Type 0) (l n : ℕ) (V : volumes.Volume) (old new : List Bool) → broken ≡ false → AreLeft Known l n V old new → AreNext broken Known l n V old new
next_left true Known l n V old new e left = absurd (false≢true (sym e))
next_left false Known l n V old new e left = left

wants_at : (kept : KeptInference) (shape : Shape) (wants : List (Option Want)) (V : volumes.Volume) → FitsArray shape kept → AreWants kept.l kept.n V wants → AreWants shape.l shape.n V wants
wants_at kept shape wants V fits are = subst (λ (m : ℕ). AreWants m shape.n V wants) fits.bytes (subst (λ (m : ℕ). AreWants kept.l m V wants) fits.number are)

-- what holds of each phase that an opened array may have
module _ {R : Type 0} (rack : Ghosts R) (old new : Store R) (saved : SavedState) (same : stores.table_of new ≡ stores.table_of old) where
  now : (P : Table → Type 0) → P (stores.table_of old) → P (stores.table_of new)
  now P h = subst P (sym same) h

  fits_now : (kept : KeptInference) → FitsArray (stores.shape_of old) kept → FitsArray (stores.shape_of new) kept
  fits_now kept fits = now (λ t. FitsArray t.shape kept) fits

  pub marks_size : (phase : AnyPhase) (marks : List Bool) (n : ℕ) → IsPhaseOf rack old new saved phase → length saved.pending ≡ n → length marks ≡ n → length (marks_by (kept_in phase) marks) ≡ n
  marks_size (Worn worn) marks n h size own = own
  marks_size (Loose loose) marks n h size own = (h.0.pending_are []).size ∙ size
  marks_size (Settled settled) marks n h size own = (h.0.pending_are []).size ∙ size

  pub fits_phase : (phase : AnyPhase) → IsPhaseOf rack old new saved phase → IfSome (kept_in phase) (FitsArray (stores.shape_of new))
  fits_phase (Worn worn) h = tt
  fits_phase (Loose loose) h = fits_now loose.inference h.0.fits
  fits_phase (Settled settled) h = fits_now settled.inference h.0.fits

  pub worn_lost : (phase : AnyPhase) → IsPhaseOf rack old new saved phase → phase_in phase ≡ WornPhase → has_lost (stores.shape_of new) (stores.members_of new) ≡ true
  worn_lost (Worn worn) h e = h
  worn_lost (Loose loose) h e = absurd (loose_worn e)
  worn_lost (Settled settled) h e = absurd (settled_worn e)

  pub in_place : (phase : AnyPhase) → IsPhaseOf rack old new saved phase → phase_in phase ≡ SettledPhase
      → IsInPlace (stores.table_of new) (kept_in phase) saved.homes (copies_after (phase_in phase) saved.copies)
  in_place (Worn worn) h e = absurd (worn_settled e)
  in_place (Loose loose) h e = absurd (loose_settled e)
  in_place (Settled settled) h e =
      let ordered = h.1.1 in
      let kept = settled.inference in
      record {
        wants = ordered.wants;
        fit = now (λ t. FitWants t ordered.wants) ordered.wanted.fit;
        placed = now (λ t. IsPlaced ordered.wants t saved.homes saved.copies) ordered.placed;
        are = λ V held. wants_at kept (stores.shape_of new) ordered.wants V (fits_now kept h.0.fits) (ordered.wanted.are V held);
        by = ordered.wanted.by;
      }

  -- blocks that the array stood for
  module _ (P : Type 0) (V : List (List ℕ)) (held : TellsAll rack new × P → stores.StandsFor rack old V) where
    pub inferred : (phase : AnyPhase) → IsPhaseOf rack old new saved phase → TellsAll rack new × P → IfSome (kept_in phase) (λ kept. inferences.StandsFor kept V)
    inferred (Worn worn) h told = tt
    inferred (Loose loose) h told = h.0.stands (told.0) V (held told)
    inferred (Settled settled) h told = h.0.stands (told.0) V (held told)

    left_now : (kept : KeptInference) → IsRestored rack old new saved.pending kept → AreLeft (TellsAll rack new × P) (stores.shape_of new).l (stores.shape_of new).n V saved.pending kept.pending
    left_now kept restored = now (λ t. AreLeft (TellsAll rack new × P) t.shape.l t.shape.n V saved.pending kept.pending) (record {
      size = (restored.pending_are V).size;
      fewer = (restored.pending_are V).fewer;
      are = λ told b. (restored.pending_are V).are (told.0, held told) b;
    })

    pub pending_next : (phase : AnyPhase) (marks : List Bool) → IsPhaseOf rack old new saved phase → marks ≡ saved.pending
        → AreNext (has_lost (stores.shape_of new) (stores.members_of new)) (TellsAll rack new × P) (stores.shape_of new).l (stores.shape_of new).n V saved.pending (marks_by (kept_in phase) marks)
    pending_next (Worn worn) marks h own = next_when _ (TellsAll rack new × P) _ _ V saved.pending marks h own
    pending_next (Loose loose) marks h own = next_left _ (TellsAll rack new × P) _ _ V saved.pending loose.inference.pending h.0.live (left_now loose.inference h.0)
    pending_next (Settled settled) marks h own = next_left _ (TellsAll rack new × P) _ _ V saved.pending settled.inference.pending h.0.live (left_now settled.inference h.0)

    -- a state of these blocks
    module _ (one : OneOwner) (none : NoSystem) (state : State) (table_is : state.table ≡ stores.table_of new) (blocks_are : state.blocks ≡ V) (homes_are : state.homes ≡ saved.homes) where
      -- what is said of the state is said of these parts
      abbrev Ordered : Table → List (List ℕ) → List Home → List Home → Type 0
      Ordered table blocks homes copies = IsInOrder (TellsAll rack new × P) (record state { table = table; blocks = blocks; homes = homes; copies = copies })

      sound_now : (kept : KeptInference) → IsRestored rack old new saved.pending kept → IsOrdered rack old new kept saved.homes saved.copies → TellsAll rack new × P
          → IsSoundVolume (stores.shape_of new).l (stores.shape_of new).n V
      sound_now kept restored ordered told = now (λ t. IsSoundVolume t.shape.l t.shape.n V) (ordered.sound (told.0) V (held told) (restored.stands (told.0) V (held told)))

      ordered_now : (kept : KeptInference) → IsRestored rack old new saved.pending kept → IsOrdered rack old new kept saved.homes saved.copies
          → Ordered (stores.table_of new) V saved.homes saved.copies
      ordered_now kept restored ordered = record {
        wants = ordered.wants;
        seen = record {
          fit = now (λ t. FitWants t ordered.wants) ordered.wanted.fit;
          are = λ told. wants_at kept (stores.shape_of new) ordered.wants V (fits_now kept restored.fits) (ordered.wanted.are V (restored.stands (told.0) V (held told)));
        };
        placed = now (λ t. IsPlaced ordered.wants t saved.homes saved.copies) ordered.placed;
        sound = sound_now kept restored ordered;
      }

      disordered_now : (kept : KeptInference) → IsRestored rack old new saved.pending kept → IsDisordered rack old new kept saved.homes saved.copies → TellsAll rack new × P
          → Ordered (stores.table_of new) V saved.homes saved.copies → ⊥
      disordered_now kept restored bad told ordered =
          let stands = restored.stands (told.0) V (held told) in
          elim bad [
            | inl displaced ↦
                let wants_are = same_wants one none (stores.table_of new) (stores.shape_of new).l (stores.shape_of new).n V ordered.wants displaced.wants ordered.seen.fit
                (now (λ t. FitWants t displaced.wants) displaced.wanted.fit) (ordered.seen.are told)
                (wants_at kept (stores.shape_of new) displaced.wants V (fits_now kept restored.fits) (displaced.wanted.are V stands)) in
                displaced.displaced (subst (λ (t : Table). IsPlaced displaced.wants t saved.homes saved.copies) same
                (subst (λ (w : List (Option Want)). IsPlaced w (stores.table_of new) saved.homes saved.copies) wants_are ordered.placed))
            | inr more ↦ elim more [
              | inl unsound ↦
                  let first = now (λ t. IsFirstMalformation t.shape.l t.shape.n V unsound.kind unsound.number) (unsound.first (told.0) V (held told) stands) in
                  ordered.sound told unsound.kind unsound.number first.here
              | inr lost ↦ false≢true (sym restored.live ∙ lost)
            ]
          ]

      to_parts : (copies : List Home) → IsInOrder (TellsAll rack new × P) (record state { copies = copies }) → Ordered (stores.table_of new) V saved.homes copies
      to_parts copies h =
          subst (λ (hs : List Home). Ordered (stores.table_of new) V hs copies) homes_are
          (subst (λ (xs : List (List ℕ)). Ordered (stores.table_of new) xs state.homes copies) blocks_are
          (subst (λ (t : Table). Ordered t state.blocks state.homes copies) table_is h))

      of_parts : Ordered (stores.table_of new) V saved.homes state.copies → IsInOrder (TellsAll rack new × P) state
      of_parts h =
          subst (λ (t : Table). Ordered t state.blocks state.homes state.copies) (sym table_is)
          (subst (λ (xs : List (List ℕ)). Ordered (stores.table_of new) xs state.homes state.copies) (sym blocks_are)
          (subst (λ (hs : List Home). Ordered (stores.table_of new) V hs state.copies) (sym homes_are) h))

      pub reopened_is : (phase : AnyPhase) → IsPhaseOf rack old new saved phase → state.phase ≡ phase_in phase → state.copies ≡ copies_after (phase_in phase) saved.copies
          → is_broken state ≡ has_lost (stores.shape_of new) (stores.members_of new) → IsReopened (TellsAll rack new × P) saved state
      reopened_is (Worn worn) h phase_is copies_are broken = record {
        worn = (λ e. broken ∙ h, λ e. phase_is);
        settled = λ e. absurd (worn_settled (sym phase_is ∙ e));
        loose = λ e. absurd (worn_loose (sym phase_is ∙ e));
        copies = copies_are ∙ ap (λ (p : Phase). copies_after p saved.copies) (sym phase_is);
      }
      reopened_is (Loose loose) h phase_is copies_are broken = record {
        worn = (λ e. absurd (loose_worn (sym phase_is ∙ e)), λ e. absurd (false≢true (sym h.0.live ∙ sym broken ∙ e)));
        settled = λ e. absurd (loose_settled (sym phase_is ∙ e));
        loose = λ e was told ordered. disordered_now loose.inference h.0 (h.1 was) told (to_parts saved.copies ordered);
        copies = copies_are ∙ ap (λ (p : Phase). copies_after p saved.copies) (sym phase_is);
      }
      reopened_is (Settled settled) h phase_is copies_are broken = record {
        worn = (λ e. absurd (settled_worn (sym phase_is ∙ e)), λ e. absurd (false≢true (sym h.0.live ∙ sym broken ∙ e)));
        settled = λ e. (h.1.0, of_parts (subst (λ (cs : List Home). Ordered (stores.table_of new) V saved.homes cs) (sym copies_are) (ordered_now settled.inference h.0 h.1.1)));
        loose = λ e. absurd (settled_loose (sym phase_is ∙ e));
        copies = copies_are ∙ ap (λ (p : Phase). copies_after p saved.copies) (sym phase_is);
      }

-- ---- boundaries in use

-- a boundary's number is at least its place
above : (live : List ℕ) → IsStrictlyIncreasing live → (k : ℕ) → k < length live → k ≤ get_or live k 0
above live rise zero within = omega arith
above live rise (suc k) within =
    let before : k ≤ get_or live k 0 = above live rise k (omega (arith, within)) in
    let next : get_or live k 0 < get_or live (suc k) 0 = AllPairs-from_increasing live rise k (suc k) 0 (omega arith) within in
    omega (arith, before, next)

-- no more are in use than there are
live_few : (boundaries : ℕ) (live : List ℕ) → AreLive boundaries live → length live ≤ boundaries
live_few boundaries live are = elim (cases_lt boundaries (length live)) [
  | inl more ↦
      let most : get_or live boundaries 0 < boundaries = are.within boundaries 0 more in
      let least = above live are.ascend boundaries more in
      absurd (omega (arith, most, least))
  | inr less ↦ less
]

-- ---- the whole

module _ (one : OneOwner) (none : NoSystem) {R : Type 0} (rack : Ghosts R) (before : R) (beside : Option Reduced) (reopened : Reopened R) (volume : Volume AnyPhase R)
    (hot : List ℕ) (found : HasReopened rack before reopened)
    (reduced_is : MatchOption beside (reduced_of volume ≡ all_in_use (stores.table_of reopened.store).shape) (λ stands. reduced_of volume ≡ stands))
    (fits : FitsReduced (stores.table_of reopened.store) (reduced_of volume)) (made : IsMadeOf rack reopened volume hot) where
  abbrev start : Store R
  start = reopened.store

  abbrev saved : SavedState
  saved = saves.state_of reopened.saved

  abbrev last : LastLabel
  last = opened_label found.source found.label saved volume.store

  table_saved : table_of volume ≡ saved.table
  table_saved = made.reads.reads.table ∙ found.table

  of_saved : (P : Table → Type 0) → P saved.table → P (table_of volume)
  of_saved P h = subst P (sym table_saved) h

  earlier : (q : ℕ) → (rack.counts before).faults q ≤ (rack.counts (stores.rack_of start)).faults q
  earlier q = found.leaves.rise.faults q

  later : (q : ℕ) → (rack.counts (stores.rack_of start)).faults q ≤ (rack.counts (rack_of volume)).faults q
  later q = made.reads.reads.keeps.stays.rise.faults q

  read_before : AreRead (λ q. had (rack.bytes before q) (rack.bytes (rack_of volume) q)) (rack.counts before).faults (rack.counts (rack_of volume)).faults found.taken
  read_before = record {
    each = λ q low.
        read_had (λ all. IsRead found.taken q ((rack.counts before).faults q) ((rack.counts (stores.rack_of start)).faults q) all (found.taken q))
        (λ all. IsRead found.taken q ((rack.counts before).faults q) ((rack.counts (rack_of volume)).faults q) all (found.taken q))
        (rack.bytes before q) (rack.bytes (stores.rack_of start) q) (rack.bytes (rack_of volume) q) (found.leaves.same q) (made.reads.reads.keeps.stays.tells q) (found.read.each q low)
        (λ all h. read_later found.taken q ((rack.counts before).faults q) ((rack.counts (stores.rack_of start)).faults q) ((rack.counts (rack_of volume)).faults q) all (found.taken q) (later q) h);
    others = found.read.others;
  }

  stays_on : RackStays rack before (rack_of volume)
  stays_on =
      let keeps = made.reads.reads.keeps.stays in
      record {
        rise = record {
          faults = λ q. let one' = earlier q in let two = later q in omega (arith, one', two);
          calls = let one' = found.leaves.rise.calls in let two = keeps.rise.calls in omega (arith, one', two);
          writes = let one' = found.leaves.rise.writes in let two = keeps.rise.writes in omega (arith, one', two);
        };
        tells = λ q told. found.leaves.tells q (keeps.tells q told);
        same_rack = keeps.same_rack ∙ found.leaves.same_rack;
        steady_on = (λ s. keeps.steady_on.0 (found.leaves.steady_on.0 s), λ s. found.leaves.steady_on.1 (keeps.steady_on.1 s));
        told_before = λ q told. found.leaves.told_before q (keeps.told_before q told);
      }

  -- the labels and bodies were read, and then blocks of the array
  opening_calls : Makes rack IsCallOfOpening before (rack_of volume)
  opening_calls =
      makes_both rack IsCallOfOpening before (stores.rack_of start) (rack_of volume) found.leaves.made
      (makes_such rack (IsCallOf (stores.members_of start)) IsCallOfOpening of_opening (stores.rack_of start) (rack_of volume) made.reads.reads.keeps.called)
    where
      of_opening : (call : RackCall) → IsCallOf (stores.members_of start) call → IsCallOfOpening call
      of_opening (looks q) is = absurd is
      of_opening (blanks q) is = absurd is
      of_opening (calls q) is = elim (cases_lt q 32) [
        | inl low ↦ low
        | inr high ↦ let few = found.sound.table.shape.most_boundaries in absurd (is (found.sound.others q (omega (arith, high, few))))
      ]
      of_opening (extends q) is = absurd is

  in_use_fits : FitsReduced (table_of volume) (reduced_of volume)
  in_use_fits = subst (λ (t : Table). FitsReduced t (reduced_of volume)) (sym made.reads.reads.table) fits

  -- members are as long by its own numbers
  own_line : stores.shape_of start ≡ line_of volume
  own_line =
      let shape : shape_of volume ≡ stores.shape_of start = made.reads.reads.keeps.shape in
      sym shape ∙ (λ i. record (shape_of volume) { b = sym made.long i })

  well : IsWell any_phase rack volume
  well = record {
    array = made.reads.sound;
    levels = made.levels;
    marks = marks_size rack start volume.store saved made.reads.reads.table volume.phase volume.pending.items (shape_of volume).n made.phase size (ap length made.pending ∙ size);
    inferred = fits_phase rack start volume.store saved made.reads.reads.table volume.phase made.phase;
    in_use = in_use_fits;
    long = let few = live_few volume.in_use.boundaries (live_of volume) in_use_fits.live in omega (arith, made.long, in_use_fits.number, few);
    labeled =
        subst (λ (x : Shape). IsLabeled rack x volume.store volume.label) own_line
        (subst (λ (l : Option KeptLabel). IsLabeled rack (stores.shape_of start) volume.store l) (sym made.label)
        (labeled_on rack (stores.shape_of start) start volume.store (Some reopened.label) made.reads found.labeled));
    homes_are = subst (λ (hs : List Home). AreHomes (shape_of volume) hs) (sym made.homes) (of_saved (λ t. AreHomes t.shape saved.homes) found.form.homes);
    few_homes = subst (λ (hs : List Home). length hs ≤ (shape_of volume).n) (sym made.homes) (of_saved (λ t. length saved.homes ≤ t.shape.n) found.form.few_homes);
    copies_are = subst (λ (cs : List Home). AreHomes (shape_of volume) cs) (sym made.copies)
        (copies_there (shape_of volume) (phase_in volume.phase) saved.copies (of_saved (λ t. AreHomes t.shape saved.copies) found.form.copies));
    uncopied = λ other. made.copies ∙ uncopied (phase_in volume.phase) saved.copies other;
    worn = worn_lost rack start volume.store saved made.reads.reads.table volume.phase made.phase;
    settled = λ e.
        subst (λ (hs : List Home). IsInPlace (table_of volume) (kept_in volume.phase) hs volume.copies) (sym made.homes)
        (subst (λ (cs : List Home). IsInPlace (table_of volume) (kept_in volume.phase) saved.homes cs) (sym made.copies)
        (in_place rack start volume.store saved made.reads.reads.table volume.phase made.phase e));
  }
    where
      size : length saved.pending ≡ (shape_of volume).n
      size = of_saved (λ t. length saved.pending ≡ t.shape.n) found.form.marks

  was_good : (q : ℕ) → is_good (members_of volume q) ≡ true → is_good (stores.members_of start q) ≡ true
  was_good = good_falls rack (rack.counts (stores.rack_of start)).faults (rack.counts (rack_of volume)).faults (stores.members_of start) (members_of volume) made.reads.reads.keeps.falls

  was_out : (q : ℕ) → stores.members_of start q ≡ Out → members_of volume q ≡ Out
  was_out = falls_out (rack.counts (stores.rack_of start)).faults (rack.counts (rack_of volume)).faults (stores.members_of start) (members_of volume) made.reads.reads.keeps.falls

  -- each member that isn't out is good, since none is refilled
  good_or_out : (q : ℕ) → members_of volume q ≢ Out → is_good (members_of volume q) ≡ true
  good_or_out q here = elim (made.reads.reads.keeps.falls q) [
    | inl same ↦ elim (found.out q) [ inl good ↦ ap is_good (same ∙ good) | inr out ↦ absurd (here (was_out q out.0)) ]
    | inr fell ↦ absurd (here fell.out)
  ]

  stands_labeled : StandsUnder rack volume (Some last)
  stands_labeled =
      let through = stands_through rack (stores.shape_of start) start volume.store (Some reopened.label) (Some (opened_label found.source found.label saved start)) made.reads.reads.keeps found.stands in
      subst (λ (x : Shape). StandsLabeled rack x volume.store volume.label (Some last)) own_line
      (subst (λ (l : Option KeptLabel). StandsLabeled rack (stores.shape_of start) volume.store l (Some last)) (sym made.label) (record {
        kept = record { format = through.kept.format; sequence = through.kept.sequence; sealed = through.kept.sealed; body = through.kept.body };
        holds = record {
          label = λ q good. through.holds.label q (was_good q good);
          body = λ q has sealed. through.holds.body q (has_before q has) sealed;
        };
        sizes = λ named q good. through.sizes named q (was_good q good);
        of_array = λ why. let is = through.of_array why in record { shape_is = is.shape_is; numbers_are = is.numbers_are };
        filling = λ q fills. filling_not_good (members_of volume q) fills;
        fresh = λ q below here lacks. absurd (false≢true (sym lacks ∙ good_or_out q here));
      }))
    where
      has_before : (q : ℕ) → ((q == found.source) && is_good (members_of volume q)) ≡ true → ((q == found.source) && is_good (stores.members_of start q)) ≡ true
      has_before q has =
          let parts = and_parts (q == found.source) (is_good (members_of volume q)) has in
          and_from (q == found.source) (is_good (stores.members_of start q)) parts.0 (was_good q parts.1)

  -- a member of which a call failed is out
  failed_out : (q : ℕ) → (rack.counts before).faults q < (rack.counts (rack_of volume)).faults q → members_of volume q ≡ Out
  failed_out q rose = elim (cases_lt (q / 2) (shape_of volume).b) [
    | inl below ↦ elim (cases_lt ((rack.counts before).faults q) ((rack.counts (stores.rack_of start)).faults q)) [
      | inl early ↦ was_out q (found.fell q early)
      | inr late ↦
          let faults = keeps_tells rack start volume.store made.reads.reads.keeps in
          faults.fell q (subst (λ (s : Shape). q / 2 < s.b) made.reads.reads.keeps.shape below) (omega (arith, late, rose))
    ]
    | inr past ↦ made.reads.sound.others q (omega (arith, past))
  ]

  -- the state of these blocks
  abbrev opened : List (List ℕ) → State
  opened V = record {
    boundaries = volume.in_use.boundaries;
    live = live_of volume;
    cut = cut_of volume;
    table = table_of volume;
    blocks = V;
    pending = marks_of any_phase volume;
    homes = volume.homes;
    copies = volume.copies;
    phase = phase_in volume.phase;
    recent = hot;
    members = members_of volume;
    label = Some last;
    counts = rack.counts (rack_of volume);
  }

  module _ (V : List (List ℕ)) where
    -- the first members held these blocks
    abbrev P : Type 0
    P = WasHeld rack (blocks_held (record { table = table_of volume; members = stores.members_of start; bytes = rack.bytes before; blocks = V }))

    start_held : Known P rack volume → stores.StandsFor rack start V
    start_held told =
        subst (λ (t : Table). states.StandsFor t (stores.members_of start) (rack.bytes (stores.rack_of start)) V) made.reads.reads.table
        (held_same (table_of volume) (stores.members_of start) (rack.bytes before) (rack.bytes (stores.rack_of start)) V found.leaves.same (told.1))

    opens : Opens (Known P rack volume) found.taken beside (rack.counts before) (opened V)
    opens = record {
      source = found.source;
      label = found.label;
      saved = saved;
      is_source = found.is_source;
      reduced = reduced_of volume;
      reduced_is = subst (λ (t : Table). MatchOption beside (reduced_of volume ≡ all_in_use t.shape) (λ stands. reduced_of volume ≡ stands)) found.table reduced_is;
      fits = subst (λ (t : Table). FitsReduced t (reduced_of volume)) found.table fits;
      boundaries = refl;
      live = refl;
      cut = refl;
      table = table_saved;
      homes = made.homes;
      recent = made.recent;
      good = λ q good. found.good q (still_good _ _ (stores.members_of start) (members_of volume) q (made.reads.reads.keeps.falls q) good);
      out = λ q. out_by (rack.counts before).faults (rack.counts (stores.rack_of start)).faults (rack.counts (rack_of volume)).faults (stores.members_of start) (members_of volume) q
          (MayBeGood found.taken found.label saved q) (earlier q) (later q) (found.out q) (made.reads.reads.keeps.falls q);
      fell = failed_out;
      pending = pending_next rack start volume.store saved made.reads.reads.table P V start_held volume.phase volume.pending.items made.phase made.pending;
      phase = reopened_is rack start volume.store saved made.reads.reads.table P V start_held one none (opened V) refl refl made.homes volume.phase made.phase refl made.copies refl;
      label_is = refl;
      body = found.body;
      counts = stays_on.rise;
    }

    stands_in : StandsIn any_phase rack P volume (opened V)
    stands_in = record {
      is = refl;
      label = stands_labeled;
      holds = λ told. record {
        array = made.reads.stands V (start_held told);
        inferred = inferred rack start volume.store saved made.reads.reads.table P V start_held volume.phase made.phase told;
      };
    }

  pub has_opened : HasOpenedBeside rack beside before volume hot
  has_opened = record {
    well = well;
    given_is = made.given;
    stays = stays_on;
    writes = made.reads.reads.writes ∙ found.leaves.writes;
    beside = λ q. subst (λ (s : Shape). Told (Torn 512 ((s.k + 1) * s.l)) (rack.bytes before q) (rack.bytes (rack_of volume) q)) (sym made.reads.reads.keeps.shape)
        (torn_on _ (rack.bytes before q) (rack.bytes (stores.rack_of start) q) (rack.bytes (rack_of volume) q) (found.leaves.same q) (made.reads.reads.keeps.beside q));
    made = opening_calls;
    taken = found.taken;
    read = read_before;
    source = found.source;
    label = found.label;
    saved = saved;
    is_source = found.is_source;
    table = table_saved;
    first = stores.members_of start;
    stood = λ q in_use. record { mid = stores.rack_of start; made = found.leaves.made; stands = found.sound.stand q in_use };
    first_are = λ q. elim (found.out q) [ inl good ↦ inl (good, found.good q good) | inr out ↦ inr out.0 ];
    fell = failed_out;
    others = λ q past.
        same_both (rack.bytes before q) (rack.bytes (stores.rack_of start) q) (rack.bytes (rack_of volume) q) (found.leaves.same q)
        (made.reads.reads.keeps.own.other_bytes q (subst (λ (s : Shape). s.b ≤ q / 2) made.reads.reads.keeps.shape past));
    falls = λ q. fall_before (rack.counts before).faults (rack.counts (stores.rack_of start)).faults (rack.counts (rack_of volume)).faults (stores.members_of start) (members_of volume) q (earlier q)
        (made.reads.reads.keeps.falls q);
    states_are = λ V. (opened V, refl, opens V, stands_in V, refl);
  }
