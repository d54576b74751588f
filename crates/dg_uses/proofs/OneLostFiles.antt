-- The files that lost blocks: from one state, where no count of faults rises, they have one reply, and it leaves what is seen.
use Rattle.std.proofs.Common.{◌≡◌, ◌≢◌, ◌∙◌, inl, inr, ℕ, Bool, List, [], ◌∷◌, refl, sym, ap, subst, arith}
use Rattle.std.specs.Prelude.{Option, Some, None, Ok, Err}
use Rattle.ufs_model.specs.Blocks.{Volume}
use Rattle.ufs_model.specs.Listings.{Listed}
use Rattle.dg_model.specs.Causes.{NoneRose}
use Rattle.dg_model.specs.Changes.{Stays}
use Rattle.dg_model.specs.Paths.{AreLost, AreLostFrom, PathOf, names_to, path_by}
use Rattle.dg_model.specs.Seals.{LastLabel}
use Rattle.dg_model.specs.States.{Counts, State}
use Rattle.dg_model.specs.Steps.{Step}
use Rattle.dg_model.specs.declared.events.Event.TheVariants.{LostFiles}
use Rattle.dg_model.specs.declared.phases.Phase.TheVariants.{Settled}
use Rattle.dg_model.specs.declared.replies.Reply.{Reply}
use Rattle.dg_model.specs.declared.replies.Reply.TheVariants.{LostFiles as LostFilesReply, LostFilesCut, NotSettled, Refused, Unavailable}
use Rattle.dg_promise.specs.Promises.{AreTold}
use Rattle.dg_uses.proofs.OneReading.{IsOne, differ, one_refusal, one_value, tree}
use Rattle.dg_uses.proofs.OneStep.{IsFit}
use Rattle.dg_uses.proofs.ReadOnce.{IsAnswer, answer_is, not_cut_short}
use Rattle.dg_uses.proofs.Seen.{Seen, seen_of, state_of, stays_seen}

-- a listing has one list of files that lost blocks
one_lost : (l n : ℕ) (v : Volume) (cut : List Bool) (before : List (List ℕ)) (entries : List Listed) (lost others : List PathOf)
    → AreLostFrom l n v cut before entries lost → AreLostFrom l n v cut before entries others → lost ≡ others
one_lost l n v cut before [] lost others h g = h ∙ sym g
one_lost l n v cut before (entry ∷ entries) lost others (inl h) (inl g) =
    h.2 ∙ ap (λ (rest : List PathOf). record { inode = entry.inode; path = path_by (names_to before entry) } ∷ rest)
    (one_lost l n v cut (names_to before entry) entries h.0 g.0 h.3 g.3) ∙ sym g.2
one_lost l n v cut before (entry ∷ entries) lost others (inl h) (inr g) = absurd (g.0 h.1)
one_lost l n v cut before (entry ∷ entries) lost others (inr h) (inl g) = absurd (h.0 g.1)
one_lost l n v cut before (entry ∷ entries) lost others (inr h) (inr g) = one_lost l n v cut (names_to before entry) entries lost others h.1 g.1

-- what the replies answer
abbrev pub LostIs : Seen → Reply → Seen → Type 0
LostIs c NotSettled d = (c.phase ≢ Settled) × (d ≡ c)
LostIs c (LostFilesReply lost) d =
    (c.phase ≡ Settled) × ((entries : List Listed) × IsAnswer c (tree c) (Some (Ok entries)) × AreLost c.table.shape.l c.table.shape.n c.blocks c.cut entries lost) × (d ≡ c)
LostIs c (Refused bad) d = (c.phase ≡ Settled) × IsAnswer c (tree c) (Some (Err bad)) × (d ≡ c)
LostIs c Unavailable d = (c.phase ≡ Settled) × IsAnswer c (tree c) None × (d ≡ c)
LostIs c reply d = ⊥

module _ (c : Seen) (ok : IsFit c) (l : Option LastLabel) (n : Counts) (x : State) (none : NoneRose n.faults x.counts.faults) where
  stays : Stays (state_of c l n) x → seen_of x ≡ c
  stays h = stays_seen c l n x ok.paired none h

  pub lost_is : (r : Reply) → Step AreTold (state_of c l n) LostFiles r x → LostIs c r (seen_of x)
  lost_is NotSettled h = (h.0, ap seen_of h.1)
  lost_is (LostFilesReply lost) h = let same = stays h.2 in (h.0, (h.1.0, answer_is c (tree c) l n x same (Some (Ok h.1.0)) h.1.1, h.1.2 tt), same)
  lost_is (Refused bad) h = let same = stays h.2 in (h.0, answer_is c (tree c) l n x same (Some (Err bad)) h.1, same)
  lost_is Unavailable h = let same = stays h.2 in (h.0, answer_is c (tree c) l n x same None h.1, same)
  lost_is (LostFilesCut lost) h = absurd (not_cut_short c (tree c) l n x (stays h.3) (Ok h.1.0) h.1.1 h.2)
  lost_is r h = absurd h

module _ (c : Seen) (ok : IsFit c) (d e : Seen) where
  lists_same : (lost others : List PathOf) → LostIs c (LostFilesReply lost) d → LostIs c (LostFilesReply others) e → lost ≡ others
  lists_same lost others h g =
      let entries : g.1.0 ≡ h.1.0 = one_value c ok d e (tree c) g.1.0 h.1.0 g.1.1 h.1.1 in
      one_lost c.table.shape.l c.table.shape.n c.blocks c.cut [] h.1.0 lost others h.1.2
      (subst (λ (es : List Listed). AreLost c.table.shape.l c.table.shape.n c.blocks c.cut es others) entries g.1.2)

  pub lost_same : (r q : Reply) → LostIs c r d → LostIs c q e → IsOne c ok d e r q
  lost_same NotSettled NotSettled h g = (refl, h.1 ∙ sym g.1)
  lost_same NotSettled (LostFilesReply others) h g = absurd (h.0 g.0)
  lost_same NotSettled (Refused too) h g = absurd (h.0 g.0)
  lost_same NotSettled Unavailable h g = absurd (h.0 g.0)
  lost_same NotSettled q h g = absurd g
  lost_same (LostFilesReply lost) NotSettled h g = absurd (g.0 h.0)
  lost_same (LostFilesReply lost) (LostFilesReply others) h g = (ap LostFilesReply (lists_same lost others h g), h.2 ∙ sym g.2)
  lost_same (LostFilesReply lost) (Refused bad) h g = absurd (omega (arith, differ c ok d e (tree c) (Some (Ok h.1.0)) (Some (Err bad)) h.1.1 g.1))
  lost_same (LostFilesReply lost) Unavailable h g = absurd (omega (arith, differ c ok d e (tree c) (Some (Ok h.1.0)) None h.1.1 g.1))
  lost_same (LostFilesReply lost) q h g = absurd g
  lost_same (Refused bad) NotSettled h g = absurd (g.0 h.0)
  lost_same (Refused bad) (LostFilesReply others) h g = absurd (omega (arith, differ c ok d e (tree c) (Some (Err bad)) (Some (Ok g.1.0)) h.1 g.1.1))
  lost_same (Refused bad) (Refused too) h g = (ap Refused (one_refusal c ok d e (tree c) bad too h.1 g.1), h.2 ∙ sym g.2)
  lost_same (Refused bad) Unavailable h g = absurd (omega (arith, differ c ok d e (tree c) (Some (Err bad)) None h.1 g.1))
  lost_same (Refused bad) q h g = absurd g
  lost_same Unavailable NotSettled h g = absurd (g.0 h.0)
  lost_same Unavailable (LostFilesReply others) h g = absurd (omega (arith, differ c ok d e (tree c) None (Some (Ok g.1.0)) h.1 g.1.1))
  lost_same Unavailable (Refused too) h g = absurd (omega (arith, differ c ok d e (tree c) None (Some (Err too)) h.1 g.1))
  lost_same Unavailable Unavailable h g = (refl, h.2 ∙ sym g.2)
  lost_same Unavailable q h g = absurd g
  lost_same r q h g = absurd h
