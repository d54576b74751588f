-- Volumes of the boundaries in use: the places of boundaries that are told by their numbers, and cut blocks without a site.
use Rattle.std.proofs.Common.{◌≡◌, ◌∙◌, ◌<◌, ◌≤◌, ◌+◌, ◌*◌, ℕ, true, false, List, length, refl, sym, ap, subst, arith}
use Rattle.std.specs.List.Sorted.{IsStrictlyIncreasing}
use Rattle.dg_io.specs.declared.outside.Rack.{Ghosts}
use Rattle.dg_model.specs.Lives.{boundary_at, place_in}
use Rattle.dg_model.specs.Members.{is_lost}
use Rattle.dg_model.specs.Openings.{FitsReduced}
use Rattle.dg_model.specs.Sites.{has_site}
use Rattle.dg_model.specs.States.{IsLeastLost}
use Rattle.dg_model.specs.Tables.{Table, sites_in}
use Rattle.dg_model.specs.declared.members.MemberState.{MemberState}
use Rattle.dg_model.specs.declared.members.MemberState.TheVariants.{Out}
use Rattle.dg_model.specs.declared.shapes.Shape.{Shape}
use Rattle.dg_store.specs.Answers.{SameWritten}
use Rattle.dg_volume.proofs.PlaceLaws.{fits_on, least_at, lost_out}
use Rattle.dg_volume.specs.Volumes.{IsWell, live_of, members_of, reduced_in, reduced_of, shape_of, table_of}
use Rattle.dg_volume.specs.declared.in_use.InUse.{InUse}
use Rattle.dg_volume.specs.declared.phases.InPhase as phases
use Rattle.dg_volume.specs.declared.volumes.Volume.{Volume}

-- boundary t of the first line is in use, at this place
pub record HasPlace {S R : Type 0} (volume : Volume S R) (t place : ℕ) : Type 0 where
  pub number : t < volume.in_use.boundaries
  pub is : place_in (live_of volume) t ≡ place
  pub within : place < (shape_of volume).b

-- it isn't in use
pub record IsUnused {S R : Type 0} (volume : Volume S R) (t : ℕ) : Type 0 where
  pub number : t < volume.in_use.boundaries
  pub is : place_in (live_of volume) t ≡ length (live_of volume)

module _ {S T R : Type 0} where
  -- the same boundaries are in use
  pub place_on : (a : Volume S R) (b : Volume T R) (t place : ℕ) → b.in_use ≡ a.in_use → shape_of b ≡ shape_of a → HasPlace a t place → HasPlace b t place
  place_on a b t place same shape h = record {
    number = subst (λ (u : InUse). t < u.boundaries) (sym same) h.number;
    is = ap (λ (u : InUse). place_in u.live.items t) same ∙ h.is;
    within = subst (λ (s : Shape). place < s.b) (sym shape) h.within;
  }

  -- no block got a site that had none
  pub fits_as : (a : Volume S R) (b : Volume T R) → b.in_use ≡ a.in_use → shape_of b ≡ shape_of a
      → ((c : ℕ) → has_site (sites_in (table_of a) c) ≡ false → has_site (sites_in (table_of b) c) ≡ false) → FitsReduced (table_of a) (reduced_of a) → FitsReduced (table_of b) (reduced_of b)
  fits_as a b same shape bare fits =
      subst (λ (u : InUse). FitsReduced (table_of b) (reduced_in u)) (sym same) (fits_on (table_of a) (table_of b) (reduced_of a) shape bare fits)

  pub fits_table : (a : Volume S R) (b : Volume T R) → b.in_use ≡ a.in_use → table_of b ≡ table_of a → FitsReduced (table_of a) (reduced_of a) → FitsReduced (table_of b) (reduced_of b)
  fits_table a b same table fits =
      fits_as a b same (ap (λ (x : Table). x.shape) table) (λ c none. ap (λ (x : Table). has_site (sites_in x c)) table ∙ none) fits

  pub fits_same : (a : Volume S R) (b : Volume T R) → b.in_use ≡ a.in_use → shape_of b ≡ shape_of a → SameWritten (table_of a) (table_of b) → FitsReduced (table_of a) (reduced_of a)
      → FitsReduced (table_of b) (reduced_of b)
  fits_same a b same shape written fits = fits_as a b same shape (λ c none. written c ∙ none) fits

  -- members are as long by no more boundaries than the first line has
  pub long_on : (a : Volume S R) (b : Volume T R) → b.in_use ≡ a.in_use → a.in_use.long ≤ a.in_use.boundaries → b.in_use.long ≤ b.in_use.boundaries
  long_on a b same less = subst (λ (u : InUse). u.long ≤ u.boundaries) (sym same) less

  -- the least boundary that is lost is so by its number
  pub least_on : (a : Volume S R) (b : Volume T R) (place : ℕ) → FitsReduced (table_of a) (reduced_of a) → b.in_use ≡ a.in_use → shape_of b ≡ shape_of a
      → IsLeastLost (shape_of b) (members_of b) place → IsLeastLost (shape_of b) (members_of b) (place_in (live_of b) (boundary_at (live_of b) place))
  least_on a b place fits same shape least =
      let live : live_of b ≡ live_of a = ap (λ (u : InUse). u.live.items) same in
      let rise : IsStrictlyIncreasing (live_of b) = subst (λ (xs : List ℕ). IsStrictlyIncreasing xs) (sym live) fits.live.ascend in
      let size : length (live_of b) ≡ (shape_of b).b = ap (λ (xs : List ℕ). length xs) live ∙ fits.number ∙ sym (ap (λ (s : Shape). s.b) shape) in
      least_at (shape_of b) (live_of b) (members_of b) place rise size least

module _ {S R : Type 0} where
  -- where nothing was done
  pub least_here : (a : Volume S R) (place : ℕ) → FitsReduced (table_of a) (reduced_of a) → IsLeastLost (shape_of a) (members_of a) place
      → IsLeastLost (shape_of a) (members_of a) (place_in (live_of a) (boundary_at (live_of a) place))
  least_here a place fits least = least_on a a place fits refl refl least

  -- a member by its place
  pub own_member : (a : Volume S R) (t place j : ℕ) → HasPlace a t place → 2 * place_in (live_of a) t + j ≡ 2 * place + j
  own_member a t place j h = ap (λ (k : ℕ). 2 * k + j) h.is

  pub lost_in : (a : Volume S R) (members : ℕ → MemberState) (t place : ℕ) → HasPlace a t place → is_lost members place ≡ true → is_lost members (place_in (live_of a) t) ≡ true
  lost_in a members t place h lost = ap (λ (k : ℕ). is_lost members k) h.is ∙ lost

  pub lost_of : (a : Volume S R) (members : ℕ → MemberState) (t place : ℕ) → HasPlace a t place → is_lost members (place_in (live_of a) t) ≡ true → is_lost members place ≡ true
  lost_of a members t place h lost = ap (λ (k : ℕ). is_lost members k) (sym h.is) ∙ lost

  -- the members of a boundary that isn't in use are out
  pub unused_out : (phase : phases.Ghosts S) (rack : Ghosts R) (a : Volume S R) (t j : ℕ) → IsWell phase rack a → IsUnused a t → j < 2 → members_of a (2 * place_in (live_of a) t + j) ≡ Out
  unused_out phase rack a t j well h side = well.array.others (2 * place_in (live_of a) t + j) (omega (arith, h.is, side, well.in_use.number))

  -- so it counts as lost
  pub unused_lost : (phase : phases.Ghosts S) (rack : Ghosts R) (a : Volume S R) (t : ℕ) → IsWell phase rack a → IsUnused a t → is_lost (members_of a) (place_in (live_of a) t) ≡ true
  unused_lost phase rack a t well h =
      let none : 2 * place_in (live_of a) t + 0 ≡ 2 * place_in (live_of a) t = omega arith in
      lost_out (members_of a) (place_in (live_of a) t)
      (ap (members_of a) (sym none) ∙ unused_out phase rack a t 0 well h (omega arith))
      (unused_out phase rack a t 1 well h (omega arith))
