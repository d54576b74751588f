-- The number of the next save after a step.
use Rattle.std.proofs.Common.{◌≡◌, ◌∙◌, ◌+◌, ℕ, List, Option, Some, None, refl, ap, sym, subst, inl, inr, false}
use Rattle.std.specs.Option.{option_map}
use Rattle.dg_model.specs.Changes.{Passes, Stays}
use Rattle.dg_model.specs.Regroups.{label_left, left_in, without_lost}
use Rattle.dg_model.specs.Seals.{LastLabel, forgotten, next_sequence}
use Rattle.dg_model.specs.States.{State}
use Rattle.dg_model.specs.Steps.{Step}
use Rattle.dg_model.specs.declared.events.Event.{Event}
use Rattle.dg_model.specs.declared.events.Event.TheVariants.{Write, Read, Fail, Replace, Rebuild, Settle, Tend, Diffuse, Who, Pending, Cat, Ls, Tree, Home, Save, Regroup, LostFiles, Audit, DropDisk, MendDisk}
use Rattle.dg_model.specs.declared.replies.Reply.{Reply}
use Rattle.dg_model.specs.declared.replies.Reply.TheVariants.{Done, Range, Degraded, Unavailable, Already, Lost, NotOut, Failed, NotFilling, Copied, Settled, Malformed, NoSpace, Tended, Diffused, NotSettled, Verdict, Blocks, Data, Given, Cut, Listed, ListedCut, Nodes, NodesCut, Refused, HomeAt, NoHome, Saved, NotSaved, Whole, TooFew, Regrouped, LostFiles as LostFilesReply, LostFilesCut, Audited, NotParity}
use Rattle.dg_uses.proofs.Seen.{next_number_is, number_kept}

-- the events that a replay serves behind its first one. One on a single disk has one reply
abbrev pub IsServed : Event → Reply → Type 0
IsServed (Write b bytes) reply = Unit {0}
IsServed (Read b) reply = Unit {0}
IsServed (Fail s j) reply = Unit {0}
IsServed (Replace s j) reply = Unit {0}
IsServed (Rebuild s n) reply = Unit {0}
IsServed Settle reply = Unit {0}
IsServed (Tend n) reply = Unit {0}
IsServed Diffuse reply = Unit {0}
IsServed (Who b) reply = Unit {0}
IsServed Pending reply = Unit {0}
IsServed (Cat path) reply = Unit {0}
IsServed (Ls path) reply = Unit {0}
IsServed Tree reply = Unit {0}
IsServed (Home path) reply = Unit {0}
IsServed Save reply = Unit {0}
IsServed Regroup reply = Unit {0}
IsServed LostFiles reply = Unit {0}
IsServed Audit reply = Unit {0}
IsServed (DropDisk s j) reply = reply ≡ NotParity
IsServed (MendDisk s j) reply = reply ≡ NotParity
IsServed event reply = ⊥

-- a save that is done makes it one more
abbrev pub next_after : Reply → ℕ → ℕ
next_after (Saved sequence) n = n + 1
next_after reply n = n

same_label : (old new : State) → new ≡ old → next_sequence new.label ≡ next_sequence old.label
same_label old new e = ap (λ (s : State). next_sequence s.label) e

passed : (old new : State) → Passes old new → next_sequence new.label ≡ next_sequence old.label
passed old new h = number_kept old.counts.writes new.counts.writes old.members new.members old.label new.label h.label

stayed : (old new : State) → Stays old new → next_sequence new.label ≡ next_sequence old.label
stayed old new h = passed old new h.goes.passes

forgotten_is : (label : Option LastLabel) → next_sequence (option_map forgotten label) ≡ next_sequence label
forgotten_is None = refl
forgotten_is (Some last) = refl

left_is : (left : List ℕ) (label : Option LastLabel) → next_sequence (option_map (label_left left) label) ≡ next_sequence label
left_is left None = refl
left_is left (Some last) = refl

module _ (Known : Type 0) (old new : State) where
  write_number : (b : ℕ) (bytes : List ℕ) (reply : Reply) → Step Known old (Write b bytes) reply new → next_sequence new.label ≡ next_after reply (next_sequence old.label)
  write_number b bytes Range h = same_label old new h.1
  write_number b bytes Degraded h = elim h.1 [ inl was ↦ same_label old new was.1 | inr now ↦ stayed old new now.3 ]
  write_number b bytes Done h = passed old new h.2.goes.passes
  write_number b bytes reply h = absurd h

  read_number : (b : ℕ) (reply : Reply) → Step Known old (Read b) reply new → next_sequence new.label ≡ next_after reply (next_sequence old.label)
  read_number b Range h = same_label old new h.1
  read_number b Unavailable h = stayed old new h.3
  read_number b (Data bytes) h = stayed old new h.5
  read_number b reply h = absurd h

  fail_number : (s : ℕ) (j : ℕ) (reply : Reply) → Step Known old (Fail s j) reply new → next_sequence new.label ≡ next_after reply (next_sequence old.label)
  fail_number s j Range h = same_label old new h.1
  fail_number s j Already h = same_label old new h.2
  fail_number s j Done h = ap (λ (s : State). next_sequence s.label) h.2.rest ∙ next_number_is false old.members new.members old.label
  fail_number s j reply h = absurd h

  replace_number : (s : ℕ) (j : ℕ) (reply : Reply) → Step Known old (Replace s j) reply new → next_sequence new.label ≡ next_after reply (next_sequence old.label)
  replace_number s j Range h = same_label old new h.1
  replace_number s j (Lost t) h = elim h.3 [ inl was ↦ same_label old new was.1 | inr now ↦ stayed old new now.2 ]
  replace_number s j NotOut h = same_label old new h.2
  replace_number s j Failed h = passed old new h.3.passes
  replace_number s j Done h = passed old new h.3.passes
  replace_number s j reply h = absurd h

  rebuild_number : (s : ℕ) (n : ℕ) (reply : Reply) → Step Known old (Rebuild s n) reply new → next_sequence new.label ≡ next_after reply (next_sequence old.label)
  rebuild_number s n Range h = same_label old new h.1
  rebuild_number s n (Lost t) h = elim h.2 [ inl was ↦ same_label old new was.1 | inr now ↦ passed old new now.2.slots.passes ]
  rebuild_number s n NotFilling h = same_label old new h.3
  rebuild_number s n Failed h = passed old new h.3.slots.passes
  rebuild_number s n (Copied d l) h = passed old new h.2.slots.passes
  rebuild_number s n reply h = absurd h

  settle_number : (reply : Reply) → Step Known old Settle reply new → next_sequence new.label ≡ next_after reply (next_sequence old.label)
  settle_number (Lost s) h = elim h [
    | inl was ↦ same_label old new was.1
    | inr now ↦ elim now.2 [ inl still ↦ stayed old new still | inr cut ↦ passed old new cut.1.goes.passes ]
  ]
  settle_number Settled h = elim h.1 [ inl was ↦ same_label old new was.1 | inr now ↦ passed old new now.2.goes.passes ]
  settle_number (Malformed kind n) h = stayed old new h.3.stays
  settle_number (NoSpace bad) h = stayed old new h.4.stays
  settle_number reply h = absurd h

  tend_number : (n : ℕ) (reply : Reply) → Step Known old (Tend n) reply new → next_sequence new.label ≡ next_after reply (next_sequence old.label)
  tend_number n (Lost s) h = elim h [
    | inl was ↦ same_label old new was.1
    | inr now ↦ elim now.2 [ inl still ↦ stayed old new still | inr cut ↦ passed old new cut.goes.passes ]
  ]
  tend_number n (Tended m l) h = elim h.1 [ inl was ↦ same_label old new was.3 | inr now ↦ passed old new now.2.goes.passes ]
  tend_number n (NoSpace bad) h = stayed old new h.3.stays
  tend_number n reply h = absurd h

  diffuse_number : (reply : Reply) → Step Known old Diffuse reply new → next_sequence new.label ≡ next_after reply (next_sequence old.label)
  diffuse_number NotSettled h = same_label old new h.1
  diffuse_number (Lost s) h = elim h.1 [ inl was ↦ same_label old new was.1 | inr now ↦ passed old new now.1.2.goes.passes ]
  diffuse_number (Diffused gained) h = passed old new h.3.goes.passes
  diffuse_number reply h = absurd h

  who_number : (b : ℕ) (reply : Reply) → Step Known old (Who b) reply new → next_sequence new.label ≡ next_after reply (next_sequence old.label)
  who_number b Range h = same_label old new h.1
  who_number b Unavailable h = same_label old new h.2
  who_number b (Verdict who) h = same_label old new h.3
  who_number b reply h = absurd h

  pending_number : (reply : Reply) → Step Known old Pending reply new → next_sequence new.label ≡ next_after reply (next_sequence old.label)
  pending_number (Blocks blocks) h = same_label old new h.1
  pending_number reply h = absurd h

  cat_number : (path : List ℕ) (reply : Reply) → Step Known old (Cat path) reply new → next_sequence new.label ≡ next_after reply (next_sequence old.label)
  cat_number path (Given lines) h = passed old new h.2.goes.passes
  cat_number path (Refused refusal) h = stayed old new h.1
  cat_number path Unavailable h = stayed old new h.1
  cat_number path (Cut lines) h = stayed old new h.3
  cat_number path reply h = absurd h

  ls_number : (path : List ℕ) (reply : Reply) → Step Known old (Ls path) reply new → next_sequence new.label ≡ next_after reply (next_sequence old.label)
  ls_number path (Listed entries) h = stayed old new h.1
  ls_number path (Refused refusal) h = stayed old new h.1
  ls_number path Unavailable h = stayed old new h.1
  ls_number path (ListedCut entries) h = stayed old new h.2
  ls_number path reply h = absurd h

  tree_number : (reply : Reply) → Step Known old Tree reply new → next_sequence new.label ≡ next_after reply (next_sequence old.label)
  tree_number NotSettled h = same_label old new h.1
  tree_number (Nodes entries) h = stayed old new h.2
  tree_number (Refused refusal) h = stayed old new h.2
  tree_number Unavailable h = stayed old new h.2
  tree_number (NodesCut entries) h = stayed old new h.3
  tree_number reply h = absurd h

  home_number : (path : List ℕ) (reply : Reply) → Step Known old (Home path) reply new → next_sequence new.label ≡ next_after reply (next_sequence old.label)
  home_number path NotSettled h = same_label old new h.1
  home_number path (HomeAt s copy) h = stayed old new h.2
  home_number path NoHome h = stayed old new h.2
  home_number path (Refused refusal) h = stayed old new h.2
  home_number path Unavailable h = stayed old new h.2
  home_number path reply h = absurd h

  save_number : (reply : Reply) → Step Known old Save reply new → next_sequence new.label ≡ next_after reply (next_sequence old.label)
  save_number (Lost s) h = ap (λ (s : State). next_sequence s.label) h.1.rest ∙ forgotten_is old.label
  save_number (Saved sequence) h = ap (λ (s : State). next_sequence s.label) h.rest ∙ ap (λ (n : ℕ). n + 1) h.next
  save_number NotSaved h = same_label old new h.1
  save_number reply h = absurd h

  regroup_number : (reply : Reply) → Step Known old Regroup reply new → next_sequence new.label ≡ next_after reply (next_sequence old.label)
  regroup_number Whole h = same_label old new h.1
  regroup_number TooFew h = stayed old new h.3
  regroup_number (Regrouped r c) h =
      passed (without_lost h.1.mid h.1.counts) new h.1.goes.passes ∙ left_is (left_in h.1.mid) h.1.mid.label ∙ stayed old h.1.mid h.1.opened
  regroup_number reply h = absurd h

  audit_number : (reply : Reply) → Step Known old Audit reply new → next_sequence new.label ≡ next_after reply (next_sequence old.label)
  audit_number (Audited findings) h = stayed old new h.1
  audit_number Unavailable h = stayed old new h.1
  audit_number reply h = absurd h

  lost_number : (reply : Reply) → Step Known old LostFiles reply new → next_sequence new.label ≡ next_after reply (next_sequence old.label)
  lost_number NotSettled h = same_label old new h.1
  lost_number (LostFilesReply lost) h = stayed old new h.2
  lost_number (Refused refusal) h = stayed old new h.2
  lost_number Unavailable h = stayed old new h.2
  lost_number (LostFilesCut lost) h = stayed old new h.3
  lost_number reply h = absurd h

  drop_number : (s j : ℕ) (reply : Reply) → reply ≡ NotParity → Step Known old (DropDisk s j) reply new → next_sequence new.label ≡ next_after reply (next_sequence old.label)
  drop_number s j reply is h =
      subst (λ (z : Reply). next_sequence new.label ≡ next_after z (next_sequence old.label)) (sym is)
      (same_label old new (subst (λ (z : Reply). Step Known old (DropDisk s j) z new) is h))

  mend_number : (s j : ℕ) (reply : Reply) → reply ≡ NotParity → Step Known old (MendDisk s j) reply new → next_sequence new.label ≡ next_after reply (next_sequence old.label)
  mend_number s j reply is h =
      subst (λ (z : Reply). next_sequence new.label ≡ next_after z (next_sequence old.label)) (sym is)
      (same_label old new (subst (λ (z : Reply). Step Known old (MendDisk s j) z new) is h))

  pub step_number : (event : Event) (reply : Reply) → IsServed event reply → Step Known old event reply new → next_sequence new.label ≡ next_after reply (next_sequence old.label)
  step_number (Write b bytes) reply served h = write_number b bytes reply h
  step_number (Read b) reply served h = read_number b reply h
  step_number (Fail s j) reply served h = fail_number s j reply h
  step_number (Replace s j) reply served h = replace_number s j reply h
  step_number (Rebuild s n) reply served h = rebuild_number s n reply h
  step_number Settle reply served h = settle_number reply h
  step_number (Tend n) reply served h = tend_number n reply h
  step_number Diffuse reply served h = diffuse_number reply h
  step_number (Who b) reply served h = who_number b reply h
  step_number Pending reply served h = pending_number reply h
  step_number (Cat path) reply served h = cat_number path reply h
  step_number (Ls path) reply served h = ls_number path reply h
  step_number Tree reply served h = tree_number reply h
  step_number (Home path) reply served h = home_number path reply h
  step_number Save reply served h = save_number reply h
  step_number Regroup reply served h = regroup_number reply h
  step_number LostFiles reply served h = lost_number reply h
  step_number Audit reply served h = audit_number reply h
  step_number (DropDisk s j) reply served h = drop_number s j reply served h
  step_number (MendDisk s j) reply served h = mend_number s j reply served h
  step_number event reply served h = absurd served
