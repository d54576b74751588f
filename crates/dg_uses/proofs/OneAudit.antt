-- An audit has one answer where no count of faults rises: a volume's findings stand in one list.
use Rattle.std.proofs.Common.{◌≡◌, ◌∙◌, ◌<◌, ◌++◌, ◌||◌, ◌&&◌, ◌==◌, nat_lt, ℕ, true, List, Option, map, refl, sym, ap, subst, arith}
use Rattle.std.proofs.lemmas.Bool.{true≢false}
use Rattle.std.proofs.lemmas.Bool.Decides.{nat_tests}
use Rattle.ufs_model.specs.Audits.{AreAll, AreFindings, AreMalformations, is_earlier_malformation}
use Rattle.ufs_model.specs.Blocks.{Volume}
use Rattle.ufs_model.specs.Malformations.{order_of}
use Rattle.ufs_model.specs.Metadata.{IsStructure}
use Rattle.ufs_model.specs.declared.malformations.BadKind.{BadKind}
use Rattle.dg_model.specs.Findings.{TellsFindings, bad_line}
use Rattle.dg_model.specs.Causes.{NoneRose}
use Rattle.dg_model.specs.Changes.{Stays}
use Rattle.dg_model.specs.Seals.{LastLabel}
use Rattle.dg_model.specs.Sites.{is_gone}
use Rattle.dg_model.specs.States.{Counts, State}
use Rattle.dg_model.specs.Steps.{LosesStructure, Step}
use Rattle.dg_model.specs.declared.events.Event.TheVariants.{Audit}
use Rattle.dg_model.specs.declared.findings.Finding.{Finding}
use Rattle.dg_model.specs.declared.findings.Finding.TheVariants.{Unnamed, Unclaimed}
use Rattle.dg_model.specs.declared.replies.Reply.{Reply}
use Rattle.dg_model.specs.declared.replies.Reply.TheVariants.{Audited, Unavailable}
use Rattle.dg_promise.specs.Promises.{AreTold}
use Rattle.dg_uses.proofs.OneList.{one_list}
use Rattle.dg_uses.proofs.OneStep.{AreOne, IsFit}
use Rattle.dg_uses.proofs.Seen.{Seen, seen_of, state_of, stays_seen}

pub numbers_one : (holds : ℕ → Type 0) (xs ys : List ℕ) → AreAll holds xs → AreAll holds ys → xs ≡ ys
numbers_one holds xs ys h g =
    one_list ◌<◌ (λ a b less more. omega (arith, less, more)) xs ys h.ascend g.ascend (λ n has. (g.each n).1 ((h.each n).0 has)) (λ n has. (h.each n).1 ((g.each n).0 has))

-- of two malformations one is the earlier one
abbrev IsEarlier : BadKind × ℕ → BadKind × ℕ → Type 0
IsEarlier one other = is_earlier_malformation one other ≡ true

earlier_apart : (k m a b : ℕ) → nat_lt k m || ((k == m) && nat_lt a b) ≡ true → nat_lt m k || ((m == k) && nat_lt b a) ≡ true → ⊥
earlier_apart k m a b one other = grind (arith, nat_tests)

apart : (a b : BadKind × ℕ) → IsEarlier a b → IsEarlier b a → ⊥
apart a b one other = earlier_apart (order_of a.0) (order_of b.0) a.1 b.1 one other

module _ (l n : ℕ) (v : Volume) where
  pub malformations_one : (xs ys : List (BadKind × ℕ)) → AreMalformations l n v xs → AreMalformations l n v ys → xs ≡ ys
  malformations_one xs ys h g =
      one_list IsEarlier apart xs ys h.ordered g.ordered (λ u has. (g.each u.0 u.1).1 ((h.each u.0 u.1).0 has)) (λ u has. (h.each u.0 u.1).1 ((g.each u.0 u.1).0 has))

  findings_one : (xs ys : List (BadKind × ℕ)) (is js fs gs : List ℕ) → AreFindings l n v xs is fs → AreFindings l n v ys js gs
      → map bad_line xs ++ map Unnamed is ++ map Unclaimed fs ≡ map bad_line ys ++ map Unnamed js ++ map Unclaimed gs
  findings_one xs ys is js fs gs h g =
      ap (λ (z : List (BadKind × ℕ)). map bad_line z ++ map Unnamed is ++ map Unclaimed fs) (malformations_one xs ys h.malformations g.malformations)
      ∙ ap (λ (z : List ℕ). map bad_line ys ++ map Unnamed z ++ map Unclaimed fs) (numbers_one _ is js h.unnamed g.unnamed)
      ∙ ap (λ (z : List ℕ). map bad_line ys ++ map Unnamed js ++ map Unclaimed z) (numbers_one _ fs gs h.unclaimed g.unclaimed)

  -- the lines of an audit are one list
  pub lines_one : (lines others : List Finding) → TellsFindings l n v lines → TellsFindings l n v others → lines ≡ others
  lines_one lines others h g = h.is ∙ findings_one h.bad g.bad h.unnamed g.unnamed h.unclaimed g.unclaimed h.are g.are ∙ sym g.is

module _ (c : Seen) (ok : IsFit c) (l k : Option LastLabel) (n m : Counts) (x y : State) (none : NoneRose n.faults x.counts.faults) (never : NoneRose m.faults y.counts.faults) where
  -- a block of the structure is gone
  loses_of : (s t : State) → seen_of s ≡ seen_of t → LosesStructure s t.blocks → LosesStructure t t.blocks
  loses_of s t same lost = record {
    block = lost.block;
    of_structure = subst (λ (d : Seen). IsStructure d.table.shape.l d.table.shape.n t.blocks lost.block) same lost.of_structure;
    gone = subst (λ (d : Seen). is_gone d.table d.members lost.block ≡ true) same lost.gone;
  }

  seen_x : Stays (state_of c l n) x → seen_of x ≡ c
  seen_x h = stays_seen c l n x ok.paired none h

  seen_y : Stays (state_of c k m) y → seen_of y ≡ c
  seen_y h = stays_seen c k m y ok.paired never h

  pub audit_one : (r q : Reply) → Step AreTold (state_of c l n) Audit r x → Step AreTold (state_of c k m) Audit q y → AreOne r q x y
  audit_one (Audited lines) (Audited others) h g =
      (ap Audited (lines_one c.table.shape.l c.table.shape.n c.blocks lines others (h.0.findings tt) (g.0.findings tt)), seen_x h.1 ∙ sym (seen_y g.1))
  audit_one (Audited lines) Unavailable h g = absurd (true≢false (h.0.unavailable tt (loses_of y (state_of c l n) (seen_y g.1) (g.0.only tt))))
  audit_one (Audited lines) q h g = absurd g
  audit_one Unavailable (Audited others) h g = absurd (true≢false (g.0.unavailable tt (loses_of x (state_of c k m) (seen_x h.1) (h.0.only tt))))
  audit_one Unavailable Unavailable h g = (refl, seen_x h.1 ∙ sym (seen_y g.1))
  audit_one Unavailable q h g = absurd g
  audit_one r q h g = absurd h
