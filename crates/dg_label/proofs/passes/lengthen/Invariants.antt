use Rattle.std.proofs.Common.{◌≡◌, ℕ, true}
use Rattle.dg_io.specs.Told.{Extended, KeepsFront}
use Rattle.dg_label.specs.Labels.{is_long}
use Rattle.dg_label.specs.Pages.{LeavesFallen}
use Rattle.dg_label.specs.Passes.{IsUncalled, PassesBy}
use Rattle.dg_label.specs.Saves.{short_members}
use Rattle.dg_model.specs.Members.{is_good}
use Rattle.dg_model.specs.Saves.{member_length}
use Rattle.dg_store.specs.Leaves.{CallsAtMost, IsCallOrExtendBelow}
use Rattle.dg_store.specs.Stores.{members_of}
use Rattle.dg_label.proofs.passes.lengthen.Given as goal

abbrev pub invariant-loop-member : goal.invariant-loop-member
invariant-loop-member g l = record {
  passes : PassesBy g.R.Rack IsCallOrExtendBelow l.member (λ (q : ℕ). Extended (member_length 2 l.line)) l.fn.store l.store;
  fallen : LeavesFallen g.R.Rack (λ (q : ℕ). KeepsFront) l.fn.store l.store;
  uncalled : (q : ℕ) → is_good (members_of l.fn.store q) ≡ true → is_long l.label q ≡ true → IsUncalled g.R.Rack q l.fn.store l.store;
  most : CallsAtMost g.R.Rack l.fn.store l.store (short_members l.label l.member);
}
