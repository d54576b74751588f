-- What an opening makes with what is kept beside the saved state.
use Rattle.std.proofs.Common.{◌≡◌, ◌∙◌, ◌<◌, ◌≤◌, ◌+◌, ℕ, Bool, true, false, List, get_or, length, inl, inr, refl, sym, ap, subst, arith, zero-add}
use Rattle.std.specs.Prelude.{All, None, Option, Some, replicate, slice_set}
use Rattle.std.specs.List.{Contains, range_with_len}
use Rattle.std.specs.List.Sorted.{IsStrictlyIncreasing}
use Rattle.std.proofs.lemmas.Bool.{cases_eq, cases_lt, false≢true}
use Rattle.std.proofs.lemmas.List.{get_or-set_other, get_or-set_same, get_or_default, get_or_past, length-replicate, length-set}
use Rattle.std.proofs.lemmas.List.FromFn.{get_or-range_with_len, length-range_with_len}
use Rattle.std.proofs.lemmas.List.Kept.{IsStrictlyIncreasing-filter}
use Rattle.dg_io.specs.declared.outside.Rack.{Ghosts}
use Rattle.dg_model.specs.Lives.{AreLive}
use Rattle.dg_model.specs.Marks.{is_marked, marked}
use Rattle.dg_model.specs.Openings.{FitsReduced, Reduced}
use Rattle.dg_model.specs.Tables.{IsTable, Table}
use Rattle.dg_model.specs.declared.shapes.Shape.{Shape}
use Rattle.dg_open.specs.Reopenings.{HasReopened}
use Rattle.dg_open.specs.declared.reopens.Reopened.{Reopened}
use Rattle.dg_regroup.specs.Extras.{IsExtra}
use Rattle.dg_regroup.specs.declared.extras.Extra.{Extra}
use Rattle.dg_save.specs.States as saves
use Rattle.dg_store.specs.Stores as stores
use Rattle.dg_volume.proofs.OpenSteps.{NoSystem, OneOwner, has_opened}
use Rattle.dg_volume.proofs.OrderLaws.{filter_in, in_filter, range_ascends, same_numbers}
use Rattle.dg_volume.proofs.PlaceLaws.{fits_all, none_marked}
use Rattle.dg_volume.specs.Besides.{CanBeCut, CannotOpen, FindsUnfit, FitsTable, IsEnough, IsReducedBy, IsReducedOr, OpensKept}
use Rattle.dg_volume.specs.Opens.{HasOpened, IsMadeOf}
use Rattle.dg_volume.specs.Volumes.{reduced_of}
use Rattle.dg_volume.specs.declared.phases.AnyPhase.{AnyPhase}
use Rattle.dg_volume.specs.declared.volumes.Volume.{Volume}

-- ---- marks

marked_low : (marks : List Bool) (b : ℕ) → is_marked marks b ≡ true → b < length marks
marked_low marks b is = elim (cases_lt b (length marks)) [
  | inl low ↦ low
  | inr past ↦ absurd (false≢true (sym (get_or_past marks b false past) ∙ is))
]

in_marked : (marks : List Bool) (b : ℕ) → is_marked marks b ≡ true → Contains (marked marks) b
in_marked marks b is =
    let low = marked_low marks b is in
    let numbers = range_with_len 0 (length marks) in
    filter_in (λ c. is_marked marks c) numbers b (b, omega (arith, low, length-range_with_len 0 (length marks)), get_or-range_with_len 0 (length marks) b b low ∙ zero-add b) is

-- Of these blocks those before a place are marked, and no others but some of them.
pub record AreMarkedTo (blocks : List ℕ) (n place : ℕ) (marks : List Bool) : Type 0 where
  pub size : length marks ≡ n
  pub each : (k : ℕ) → k < place → is_marked marks (get_or blocks k 0) ≡ true
  pub only : (b : ℕ) → is_marked marks b ≡ true → Contains blocks b

pub marked_none : (blocks : List ℕ) (n : ℕ) → AreMarkedTo blocks n 0 (replicate n false)
marked_none blocks n = record {
  size = length-replicate n false;
  each = λ k low. absurd (omega (arith, low));
  only = λ b is. absurd (false≢true (sym (none_marked n b) ∙ is));
}

pub marked_next : (blocks : List ℕ) (n place x : ℕ) (marks : List Bool) → AreMarkedTo blocks n place marks → place < length blocks → x ≡ get_or blocks place 0 → x < n
    → AreMarkedTo blocks n (place + 1) (slice_set marks x true)
marked_next blocks n place x marks h within at low = record {
  size = length-set marks x true ∙ h.size;
  each = λ k less. elim (cases_eq k place) [
    | inl same ↦ here (get_or blocks k 0) (ap (λ (j : ℕ). get_or blocks j 0) same ∙ sym at)
    | inr apart ↦ still (get_or blocks k 0) (h.each k (omega (arith, less, apart)))
  ];
  only = λ b is. elim (cases_eq b x) [
    | inl same ↦ (place, within, get_or_default blocks place b 0 within ∙ sym at ∙ sym same)
    | inr apart ↦ h.only b (sym (get_or-set_other marks x b true false apart) ∙ is)
  ];
}
  where
    here : (c : ℕ) → c ≡ x → is_marked (slice_set marks x true) c ≡ true
    here c same = ap (λ (j : ℕ). is_marked (slice_set marks x true) j) same ∙ get_or-set_same marks x true false (omega (arith, low, h.size))

    still : (c : ℕ) → is_marked marks c ≡ true → is_marked (slice_set marks x true) c ≡ true
    still c is = elim (cases_eq c x) [ inl same ↦ here c same | inr apart ↦ get_or-set_other marks x c true false apart ∙ is ]

-- in the end just these blocks are marked
pub marked_all : (blocks : List ℕ) (n place : ℕ) (marks : List Bool) → AreMarkedTo blocks n place marks → length blocks ≤ place → IsStrictlyIncreasing blocks → marked marks ≡ blocks
marked_all blocks n place marks h end ascend =
    same_numbers (marked marks) blocks (IsStrictlyIncreasing-filter (λ b. is_marked marks b) (range_with_len 0 (length marks)) (range_ascends (length marks))) ascend
    (λ b there. h.only b (in_filter (λ c. is_marked marks c) (range_with_len 0 (length marks)) b there).1)
    (λ b there. in_marked marks b (each_in b there))
  where
    each_in : (b : ℕ) → Contains blocks b → is_marked marks b ≡ true
    each_in b (k, low, at) = subst (λ (c : ℕ). is_marked marks c ≡ true) (get_or_default blocks k 0 b low ∙ at) (h.each k (omega (arith, low, end)))

-- ---- what fits

-- a cut block of those that can be cut has no site
can_cut : (table : Table) (blocks : List ℕ) (b : ℕ) → All (CanBeCut table) blocks → Contains blocks b → CanBeCut table b
can_cut table blocks b can (k, low, at) = subst (λ (c : ℕ). CanBeCut table c) at (can k b low)

pub reduced_by : (table : Table) (extra : Extra) (reduced : Reduced) → IsExtra extra → FitsTable table extra → reduced.boundaries ≡ extra.boundaries → reduced.live ≡ extra.live
    → length reduced.cut ≡ table.shape.n → marked reduced.cut ≡ extra.cut → IsReducedBy table extra reduced
reduced_by table extra reduced form can boundaries live size cut = record {
  boundaries = boundaries;
  live = live;
  cut = cut;
  fits = record {
    most = omega (arith, boundaries, form.boundaries.most);
    live = subst (λ (n : ℕ). AreLive n reduced.live) (sym boundaries) (subst (λ (xs : List ℕ). AreLive extra.boundaries xs) (sym live) form.boundaries.are);
    number = ap (λ (xs : List ℕ). length xs) live ∙ can.number;
    marks = size;
    unsited = λ b is. (can_cut table extra.cut b can.cut (subst (λ (xs : List ℕ). Contains xs b) cut (in_marked reduced.cut b is))).1;
  };
}

-- ---- the whole

module _ {R : Type 0} (rack : Ghosts R) where
  -- what is in use fits the array
  reduced_fits : (reopened : Reopened R) (kept : Option Extra) (reduced : Reduced) → IsTable (stores.table_of reopened.store) → IsReducedOr (stores.table_of reopened.store) kept reduced
      → FitsReduced (stores.table_of reopened.store) reduced
  reduced_fits reopened None reduced table is = subst (λ (r : Reduced). FitsReduced (stores.table_of reopened.store) r) (sym is) (fits_all (stores.table_of reopened.store) table)
  reduced_fits reopened (Some extra) reduced table is = is.fits

  module _ (one : OneOwner) (none : NoSystem) (before : R) (reopened : Reopened R) (volume : Volume AnyPhase R) (hot : List ℕ) (found : HasReopened rack before reopened)
      (made : IsMadeOf rack reopened volume hot) where
    pub opens_all : IsReducedOr (stores.table_of reopened.store) None (reduced_of volume) → HasOpened rack before volume hot
    opens_all is = has_opened one none rack before None reopened volume hot found is (reduced_fits reopened None (reduced_of volume) found.sound.table is) made

    pub opens_kept : (room : Option ℕ) (kept : Option Extra) → IsEnough (stores.shape_of reopened.store).n room → IsReducedOr (stores.table_of reopened.store) kept (reduced_of volume)
        → OpensKept rack room kept before volume hot
    opens_kept room None enough is = record {
      beside = None;
      stands = refl;
      enough = subst (λ (s : Shape). IsEnough s.n room) (sym made.reads.reads.keeps.shape) enough;
      opened = opens_all is;
    }
    opens_kept room (Some extra) enough is = record {
      beside = Some (reduced_of volume);
      stands = subst (λ (t : Table). IsReducedBy t extra (reduced_of volume)) (sym made.reads.reads.table) is;
      enough = subst (λ (s : Shape). IsEnough s.n room) (sym made.reads.reads.keeps.shape) enough;
      opened = has_opened one none rack before (Some (reduced_of volume)) reopened volume hot found refl is.fits made;
    }

-- a state was found that can't be opened
pub finds_unfit : {R : Type 0} (rack : Ghosts R) (before : R) (room : Option ℕ) (kept : Option Extra) (reopened : Reopened R) → HasReopened rack before reopened
    → CannotOpen (stores.table_of reopened.store) room kept → FindsUnfit rack room kept before (stores.rack_of reopened.store)
finds_unfit rack before room kept reopened found cannot = record {
  taken = found.taken;
  read = found.read;
  source = found.source;
  label = found.label;
  saved = saves.state_of reopened.saved;
  is_source = found.is_source;
  cannot = subst (λ (t : Table). CannotOpen t room kept) found.table cannot;
  leaves = found.leaves;
}
