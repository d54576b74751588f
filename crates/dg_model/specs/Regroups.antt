-- Going on after a loss: the lost boundaries are taken out of use, and the blocks that stood on them alone are cut. The rules are this
-- project's own.
use Rattle.std.specs.Prelude.{◌≡◌, ◌⊎◌, ◌+◌, ◌*◌, ◌/◌, ◌%◌, ◌<◌, ◌&&◌, ◌||◌, ℕ, Bool, true, not, nat_lt, List, [], Option, Some, None, length, map, filter, flat_map, slice_index, option_to_list, if◌then◌else◌}
use Rattle.std.specs.List.{range_with_len}
use Rattle.std.specs.Option.{option_map}
use Rattle.dg_model.specs.Blocks.{block_in, zeros}
use Rattle.dg_model.specs.Changes.{Goes, Stays, phase_after}
use Rattle.dg_model.specs.Homes.{home_of}
use Rattle.dg_model.specs.Lives.{left_of, place_in}
use Rattle.dg_model.specs.Marks.{AreNext, is_marked}
use Rattle.dg_model.specs.Members.{is_good, is_lost}
use Rattle.dg_model.specs.Moves.{count_upto}
use Rattle.dg_model.specs.Seals.{IsUnsealed, LastLabel}
use Rattle.dg_model.specs.Sites.{is_gone}
use Rattle.dg_model.specs.States.{Counts, State, after_calls, is_broken}
use Rattle.dg_model.specs.Tables.{Table}
use Rattle.dg_model.specs.declared.homes.Home.{Home}
use Rattle.dg_model.specs.declared.members.MemberState.{MemberState}
use Rattle.dg_model.specs.declared.members.MemberState.TheVariants.{Good, Filling, Out}
use Rattle.dg_model.specs.declared.phases.Phase.TheVariants.{Loose}
use Rattle.dg_model.specs.declared.shapes.Shape.{Shape}
use Rattle.dg_model.specs.declared.sites.Site.{Site}

-- ---- under new places

-- `left` has the old places of the boundaries that stay in use, ascending; the new place of one is its place in this list.
module _ (left : List ℕ) where
  -- whether the boundary at an old place stays in use
  abbrev pub is_left : ℕ → Bool
  is_left x = nat_lt (place_in left x) (length left)

  -- the old place of the member at a new one
  abbrev pub member_before : ℕ → ℕ
  member_before q = 2 * slice_index left (q / 2) + q % 2

  -- the sites that are left, in their order, with their slots
  abbrev pub site_left : Site → Site
  site_left site = record site { boundary = place_in left site.boundary }

  abbrev pub sites_left : List Site → List Site
  sites_left sites = map site_left (filter (λ site. is_left site.boundary) sites)

  abbrev pub shape_left : Shape → Shape
  shape_left shape = record shape { b = length left }

  abbrev pub table_left : Table → Table
  table_left table = record { shape = shape_left table.shape; rows = map sites_left table.rows }

  -- a home on a boundary that stays in use is there; any other is on that of the file's copy, if this stays in use
  abbrev pub moved_home : ℕ → Option ℕ → Option Home
  moved_home i None = None
  moved_home i (Some x) = if is_left x then Some (record { inode = i; boundary = place_in left x }) else None

  abbrev pub home_left : List Home → Home → Option Home
  home_left copies home = if is_left home.boundary then moved_home home.inode (Some home.boundary) else moved_home home.inode (home_of copies home.inode)

  abbrev pub homes_left : List Home → List Home → List Home
  homes_left copies homes = flat_map (λ home. option_to_list (home_left copies home)) homes

  -- a member that was refilled goes out
  abbrev pub state_left : MemberState → MemberState
  state_left Good = Good
  state_left (Filling have) = Out
  state_left Out = Out

  abbrev pub members_left : (ℕ → MemberState) → ℕ → MemberState
  members_left members q = if nat_lt (q / 2) (length left) then state_left (members (member_before q)) else Out

  -- the label stands on the same members
  abbrev pub label_left : LastLabel → LastLabel
  label_left last = record last {
    keepers = λ q. nat_lt (q / 2) (length left) && last.keepers (member_before q);
    bodies = λ q. nat_lt (q / 2) (length left) && last.bodies (member_before q);
    numbers = λ q. last.numbers (member_before q);
  }

  -- the counts are those of the same rack
  pub record AreCountsLeft (before now : Counts) : Type 0 where
    pub faults : (q : ℕ) → q / 2 < length left → now.faults q ≡ before.faults (member_before q)
    pub calls : now.calls ≡ before.calls
    pub writes : now.writes ≡ before.writes

-- ---- without the lost boundaries

-- how many boundaries are lost
abbrev pub lost_in : State → ℕ
lost_in state = count_upto state.table.shape.b (is_lost state.members)

-- the places of the others
abbrev pub left_in : State → List ℕ
left_in state = left_of state.table.shape state.members

-- whether block b stands on lost boundaries alone
abbrev pub falls_out : State → ℕ → Bool
falls_out state b = is_gone state.table state.members b

-- Without the lost boundaries the array would have fewer than m of them, or fewer than 2, or fewer than N counted slots.
abbrev pub IsTooSmall : State → Type 0
IsTooSmall state =
    (length (left_in state) < state.table.shape.m) ⊎ (length (left_in state) < 2) ⊎ (length (left_in state) * state.table.shape.k < state.table.shape.n)

-- The array without its lost boundaries, over a rack with these counts: the blocks that stood on them alone are zeros, and count as cut; no
-- other one loses a site elsewhere.
abbrev pub without_lost : State → Counts → State
without_lost state counts = record state {
  live = map (λ x. slice_index state.live x) (left_in state);
  table = table_left (left_in state) state.table;
  blocks = map (λ b. if falls_out state b then zeros state.table.shape.l else block_in state.blocks b) (range_with_len 0 (length state.blocks));
  pending = map (λ b. is_marked state.pending b && not (falls_out state b)) (range_with_len 0 (length state.pending));
  cut = map (λ b. is_marked state.cut b || falls_out state b) (range_with_len 0 (length state.cut));
  homes = homes_left (left_in state) state.copies state.homes;
  copies = [];
  phase = Loose;
  members = members_left (left_in state) state.members;
  label = option_map (label_left (left_in state)) state.label;
  counts = counts;
}

-- a sealed label was opened, if a member was there to open it on
abbrev pub Unseals : State → State → Type 0
Unseals old new = (q : ℕ) → is_good (old.members q) ≡ true → IsUnsealed new.label

-- A step that takes the lost boundaries out of use: r of them, and c blocks. First the seal is opened, by which others may be lost too; these
-- go as well. Then the volume is read anew, in so far as a boundary lost meanwhile leaves it.
pub record Regroups (Known : Type 0) (old : State) (r c : ℕ) (new : State) : Type 0 where
  pub mid : State
  pub opened : Stays old mid
  pub unsealed : Unseals old mid
  pub enough : IsTooSmall mid → ⊥
  pub boundaries : r ≡ lost_in mid
  pub blocks : c ≡ count_upto mid.table.shape.n (falls_out mid)
  pub counts : Counts
  pub same_rack : AreCountsLeft (left_in mid) mid.counts counts
  pub goes : Goes (without_lost mid counts) new
  pub unwritten : new.counts.writes ≡ mid.counts.writes
  pub marks : AreNext (is_broken new) Known new.table.shape.l new.table.shape.n new.blocks (without_lost mid counts).pending new.pending
  pub rest : new ≡ record (after_calls (without_lost mid counts) new) { pending = new.pending; phase = phase_after (is_broken new) }
