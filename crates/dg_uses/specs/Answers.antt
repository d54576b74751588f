-- What a client promises of a replay in which no call on a member fails, and no boundary is lost: a function of the events.
use Rattle.std.specs.Prelude.{◌≡◌, ◌<◌, ◌+◌, ◌*◌, ◌/◌, ◌==◌, ◌&&◌, ◌||◌, not, if◌then◌else◌, nat_lt, ℕ, Bool, false, List, [], ◌∷◌, IsSome, Ok, Option}
use Rattle.dg_io.specs.Told.{Told, Took}
use Rattle.dg_model.specs.Blocks.{stripped}
use Rattle.dg_model.specs.States.{has_lost}
use Rattle.dg_model.specs.declared.events.Event.{Event}
use Rattle.dg_model.specs.declared.events.Event.TheVariants.{Write, Read, Fail}
use Rattle.dg_model.specs.declared.findings.Finding.{Finding}
use Rattle.dg_model.specs.declared.members.MemberState.{MemberState}
use Rattle.dg_model.specs.declared.members.MemberState.TheVariants.{Good, Out}
use Rattle.dg_model.specs.declared.replies.Reply.{Reply}
use Rattle.dg_model.specs.declared.replies.Reply.TheVariants.{Already, Data, Done, Range}
use Rattle.dg_model.specs.declared.shapes.Shape.{Shape}
use Rattle.dg_run.specs.Ends.{audit_status}
use Rattle.dg_run.specs.declared.top.Status.{Status}
use Rattle.dg_trace.specs.Audits.{audit_text, end_of}

-- what was last written to each block, once block b is written
abbrev pub put : (ℕ → List ℕ) → ℕ → List ℕ → ℕ → List ℕ
put written b bytes c = if c == b then bytes else written c

-- which members are out, once member q was made to fail
abbrev pub struck : (ℕ → Bool) → ℕ → ℕ → Bool
struck out q p = (p == q) || out p

-- what a member does, of which it is told whether it is out
abbrev pub member_by : Shape → (ℕ → Bool) → ℕ → MemberState
member_by shape out q = if nat_lt (q / 2) shape.b && not (out q) then Good else Out

-- there is such a member: a boundary of the array, and one of its two sides
pub record IsThere (shape : Shape) (s j : ℕ) : Type 0 where
  pub boundary : s < shape.b
  pub side : j < 2

-- the events are writes, reads and failures of members, and no boundary is lost after any of them
abbrev pub StaysWhole : Shape → (ℕ → Bool) → List Event → Type 0
StaysWhole shape out [] = Unit {0}
StaysWhole shape out (Write b bytes ∷ events) = StaysWhole shape out events
StaysWhole shape out (Read b ∷ events) = StaysWhole shape out events
StaysWhole shape out (Fail s j ∷ events) =
    IsThere shape s j × (has_lost shape (member_by shape (struck out (2 * s + j))) ≡ false) × StaysWhole shape (struck out (2 * s + j)) events
StaysWhole shape out (event ∷ events) = ⊥

-- The replies to such events, where these members are out and these bytes were written last.
abbrev pub answers : Shape → (ℕ → Bool) → (ℕ → List ℕ) → List Event → List Reply
answers shape out written [] = []
answers shape out written (Write b bytes ∷ events) =
    if nat_lt b shape.n then Done ∷ answers shape out (put written b bytes) events else Range ∷ answers shape out written events
answers shape out written (Read b ∷ events) = (if nat_lt b shape.n then Data (stripped (written b)) else Range) ∷ answers shape out written events
answers shape out written (Fail s j ∷ events) = (if out (2 * s + j) then Already else Done) ∷ answers shape (struck out (2 * s + j)) written events
answers shape out written (event ∷ events) = []

-- each member tells its bytes
abbrev pub TellsEach : (ℕ → Option (List ℕ)) → Type 0
TellsEach bytes = (q : ℕ) → IsSome (bytes q)

-- an audit printed what was found, and ended by it
pub record HasAudited (found : Option (List Finding)) (taken given : Option (List ℕ)) (status : Status) : Type 0 where
  pub ended : status ≡ audit_status (Ok (end_of found))
  pub printed : Told (Took (audit_text found)) taken given
