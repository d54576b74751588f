-- What events on blocks and members, and reads by path, do to an array where bytes are told and no call fails: the reply of each, and what
-- the array is then. The rules are this project's own.
use Rattle.std.specs.Prelude.{◌≡◌, ◌≢◌, ◌+◌, ◌*◌, ◌/◌, ◌<◌, ℕ, Bool, true, false, List, [], ◌∷◌, Result, Ok, Err, replicate, slice_set, nat_lt, if◌then◌else◌}
use Rattle.std.specs.List.{concat, list_any}
use Rattle.ufs_model.specs.Blocks.{Consulted}
use Rattle.ufs_model.specs.Listings.{Listed, ls_of}
use Rattle.ufs_model.specs.Paths.{cat_of}
use Rattle.ufs_model.specs.declared.reads.PathRefusal.{PathRefusal}
use Rattle.dg_model.specs.Blocks.{IsTrimmed, block_in, padded, zeros}
use Rattle.dg_model.specs.Lists.{AreLines}
use Rattle.dg_model.specs.Members.{IsStruck}
use Rattle.dg_model.specs.Sites.{IsSited, is_gone}
use Rattle.dg_model.specs.States.{State, has_lost}
use Rattle.dg_model.specs.Tables.{Table, empty_table}
use Rattle.dg_model.specs.declared.shapes.Shape.{Shape}
use Rattle.dg_model.specs.declared.events.Event.{Event}
use Rattle.dg_model.specs.declared.events.Event.TheVariants.{Write, Read, Fail, Cat, Ls}
use Rattle.dg_model.specs.declared.members.MemberState.{MemberState}
use Rattle.dg_model.specs.declared.members.MemberState.TheVariants.{Good, Out}
use Rattle.dg_model.specs.declared.replies.Reply.{Reply}
use Rattle.dg_model.specs.declared.replies.Reply.TheVariants.{Done, Range, Degraded, Unavailable, Already, Data, Given, Listed as ListedReply, Refused}

-- ---- what decides the replies

-- Where blocks stand, their values, and what members do: all of a state that the replies to these events rest on, as long as all boundaries
-- are in use and no block was cut. So it is from the blank array on, since none of these events takes a boundary out of use.
pub record Core : Type 0 where
  pub table : Table
  pub blocks : List (List ℕ)
  pub members : ℕ → MemberState

abbrev pub core_of : State → Core
core_of state = record { table = state.table; blocks = state.blocks; members = state.members }

-- the blank array, each member of which is good
abbrev pub blank_core : Shape → Core
blank_core shape = record {
  table = empty_table shape;
  blocks = replicate shape.n (zeros shape.l);
  members = λ q. if nat_lt (q / 2) shape.b then Good else Out;
}

-- block b is one of the array's
abbrev pub HasBlock : Core → ℕ → Type 0
HasBlock core b = b < core.table.shape.n

-- member j of boundary s is one of the array's
pub record HasMember (core : Core) (s j : ℕ) : Type 0 where
  pub boundary : s < core.table.shape.b
  pub side : j < 2

-- whether some boundary is lost
abbrev pub has_lost_in : Core → Bool
has_lost_in core = has_lost core.table.shape core.members

-- whether block b is gone
abbrev pub is_gone_in : Core → ℕ → Bool
is_gone_in core b = is_gone core.table core.members b

-- whether one of these blocks is gone
abbrev pub any_gone_in : Core → List ℕ → Bool
any_gone_in core blocks = list_any (is_gone_in core) blocks

-- the file at a path, and the blocks that are read for it
abbrev pub file_in : Core → List ℕ → Consulted (Result (List ℕ) PathRefusal)
file_in core path = cat_of core.table.shape.l core.table.shape.n path core.blocks

-- the directory at a path, and the blocks that are read for it
abbrev pub listing_in : Core → List ℕ → Consulted (Result (List Listed) PathRefusal)
listing_in core path = ls_of core.table.shape.l core.table.shape.n path core.blocks

-- ---- one event

-- block b was written: it keeps its sites or has its first one, its value is these bytes with zeros for their missing end, and members
-- stay
pub record Wrote (old : Core) (b : ℕ) (bytes : List ℕ) (new : Core) : Type 0 where
  pub sited : IsSited old.table b new.table
  pub blocks : new.blocks ≡ slice_set old.blocks b (padded old.table.shape.l bytes)
  pub members : new.members ≡ old.members

-- an event made member q fail, and all else stays
pub record Struck (old : Core) (q : ℕ) (new : Core) : Type 0 where
  pub members : IsStruck q old.members new.members
  pub rest : new ≡ record old { members = new.members }

-- The reply to an event, and what the array is then.
abbrev pub View : Core → Event → Reply → Core → Type 0
View old (Write b bytes) Range new = (HasBlock old b → ⊥) × (new ≡ old)
View old (Write b bytes) Degraded new = HasBlock old b × (has_lost_in old ≡ true) × (new ≡ old)
View old (Write b bytes) Done new = HasBlock old b × (has_lost_in old ≡ false) × Wrote old b bytes new
View old (Read b) Range new = (HasBlock old b → ⊥) × (new ≡ old)
View old (Read b) Unavailable new = HasBlock old b × (is_gone_in old b ≡ true) × (new ≡ old)
View old (Read b) (Data bytes) new = HasBlock old b × (is_gone_in old b ≡ false) × IsTrimmed bytes (block_in old.blocks b) × (new ≡ old)
View old (Fail s j) Range new = (HasMember old s j → ⊥) × (new ≡ old)
View old (Fail s j) Already new = HasMember old s j × (old.members (2 * s + j) ≡ Out) × (new ≡ old)
View old (Fail s j) Done new = HasMember old s j × (old.members (2 * s + j) ≢ Out) × Struck old (2 * s + j) new
View old (Cat path) (Given lines) new =
    (any_gone_in old (file_in old path).needs ≡ false) × AreLines old.table.shape.l lines × (Ok (concat lines) ≡ (file_in old path).value) × (new ≡ old)
View old (Cat path) (Refused refusal) new = (any_gone_in old (file_in old path).needs ≡ false) × (Err refusal ≡ (file_in old path).value) × (new ≡ old)
View old (Cat path) Unavailable new = (any_gone_in old (file_in old path).needs ≡ true) × (new ≡ old)
View old (Ls path) (ListedReply entries) new =
    (any_gone_in old (listing_in old path).needs ≡ false) × (Ok entries ≡ (listing_in old path).value) × (new ≡ old)
View old (Ls path) (Refused refusal) new =
    (any_gone_in old (listing_in old path).needs ≡ false) × (Err refusal ≡ (listing_in old path).value) × (new ≡ old)
View old (Ls path) Unavailable new = (any_gone_in old (listing_in old path).needs ≡ true) × (new ≡ old)
-- no other reply is given
View old event reply new = ⊥

-- ---- events one after another

-- each event had its reply
abbrev pub Views : Core → List Event → List Reply → Core → Type 0
Views old [] [] new = new ≡ old
Views old (event ∷ events) (reply ∷ replies) new = (mid : Core) × View old event reply mid × Views mid events replies new
Views old [] (reply ∷ replies) new = ⊥
Views old (event ∷ events) [] new = ⊥
