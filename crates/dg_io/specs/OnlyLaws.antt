-- Calls that were made of a rack, each of them of some kind. The laws of the rack's `made` are arguments.
use Rattle.std.specs.Prelude.{◌≡◌, ℕ, List, [], ◌∷◌, ◌++◌}
use Rattle.dg_io.specs.Kept.{KeepsOn}
use Rattle.dg_io.specs.MadeLaws.{each_both, each_such}
use Rattle.dg_io.specs.RackCalls.{RackCall, IsNotOn, IsNoBlank}
use Rattle.dg_io.specs.RackWords.{After, MadeOnly}
use Rattle.dg_io.specs.Told.{Told, IsSame}
use Rattle.dg_io.specs.declared.outside.Rack.{Ghosts}

pub only_one : {S : Type 0} (rack : Ghosts S) (may : RackCall → Type 0) (call : RackCall) (a b : S) → may call → rack.made a (call ∷ []) b → MadeOnly rack may a b
only_one rack may call a b is made = record { calls = call ∷ []; each = (is, tt); made = made }

pub only_such : {S : Type 0} (rack : Ghosts S) (may such : RackCall → Type 0) (a b : S) → ((call : RackCall) → may call → such call) → MadeOnly rack may a b → MadeOnly rack such a b
only_such rack may such a b h only = record { calls = only.calls; each = each_such may such h only.calls only.each; made = only.made }

pub only_none : {S : Type 0} (rack : Ghosts S) (may : RackCall → Type 0) → ((s : S) → rack.made s [] s) → (a : S) → MadeOnly rack may a a
only_none rack may none a = record { calls = []; each = tt; made = none a }

pub only_both : {S : Type 0} (rack : Ghosts S) (may : RackCall → Type 0) → ((a b c : S) (x y : List RackCall) → rack.made a x b → rack.made b y c → rack.made a (x ++ y) c) → (a b c : S)
    → MadeOnly rack may a b → MadeOnly rack may b c → MadeOnly rack may a c
only_both rack may both a b c first second = record {
  calls = first.calls ++ second.calls;
  each = each_both may first.calls second.calls first.each second.each;
  made = both a b c first.calls second.calls first.made second.made;
}

-- a member on which none of the calls can be has the bytes, the count of faults and the standing that it had
module _ {S : Type 0} (rack : Ghosts S) (after : (a b : S) (calls : List RackCall) → rack.made a calls b → After rack calls a b) (may : RackCall → Type 0) (a b : S) (only : MadeOnly rack may a b) where
  pub only_bytes : (q : ℕ) → ((call : RackCall) → may call → IsNotOn q call) → Told IsSame (rack.bytes a q) (rack.bytes b q)
  only_bytes q h = (after a b only.calls only.made).other_bytes q (each_such may (IsNotOn q) h only.calls only.each)

  pub only_faults : (q : ℕ) → ((call : RackCall) → may call → IsNotOn q call) → (rack.counts b).faults q ≡ (rack.counts a).faults q
  only_faults q h = (after a b only.calls only.made).other_faults q (each_such may (IsNotOn q) h only.calls only.each)

  pub only_stands : (q : ℕ) → ((call : RackCall) → may call → IsNotOn q call) → rack.stands b q ≡ rack.stands a q
  only_stands q h = (after a b only.calls only.made).others_stand q (each_such may (IsNotOn q) h only.calls only.each)

  pub only_told : (q : ℕ) → rack.tells b q → rack.tells a q
  only_told q h = (after a b only.calls only.made).told_before q h

  -- where no member can be made anew, the checkpoint is kept
  pub only_keeps : ((call : RackCall) → may call → IsNoBlank call) → KeepsOn rack.keeps a b
  only_keeps h = (after a b only.calls only.made).keeps_on (each_such may IsNoBlank h only.calls only.each)
