-- The parts of an opening: the files that were read last, and the phase.
use Rattle.std.proofs.Common.{◌≡◌, ◌≢◌, ◌∙◌, ◌==◌, ◌<◌, ◌≤◌, ◌+◌, ℕ, suc, Bool, true, false, cond, not, List, [], ◌∷◌, length, get_or, drop, take, filter, AllPairs, inl, inr, refl, sym, ap, subst, arith}
use Rattle.std.specs.Prelude.{Err}
use Rattle.std.proofs.lemmas.List.{drop_more, get_or-drop, length-drop, take_all}
use Rattle.dg_infer.specs.Meanings.{KeptInference}
use Rattle.dg_infer.specs.Meanings as inferences
use Rattle.dg_io.specs.declared.outside.Rack.{Ghosts}
use Rattle.dg_model.proofs.MemberLaws.{has_lost_at}
use Rattle.dg_model.proofs.SiteLists.{apart_test}
use Rattle.dg_model.specs.Copies.{touched}
use Rattle.dg_model.specs.Marks.{AreLeft}
use Rattle.dg_model.specs.Placed.{IsPlaced}
use Rattle.dg_model.specs.Saves.{SavedState}
use Rattle.dg_model.specs.States.{has_lost}
use Rattle.dg_model.specs.Tables.{Table}
use Rattle.dg_model.specs.declared.homes.Home.{Home}
use Rattle.dg_model.specs.declared.shapes.Shape.{Shape}
use Rattle.dg_store.specs.Stores.{TellsAll, members_of, shape_of}
use Rattle.dg_store.specs.Stores as stores
use Rattle.dg_store.specs.declared.store.Store.{Store}
use Rattle.dg_volume.specs.Opens.{AnswersStill, IsDisordered, IsDisplaced, IsOrdered, IsPhaseOf, IsRestored}
use Rattle.dg_volume.specs.Phases.{phase_with}
use Rattle.dg_volume.specs.Planned.{AnswersCheck, AreWanted, FindsOn, HasReadArray}
use Rattle.dg_volume.specs.Volumes.{FitsArray}
use Rattle.dg_volume.specs.declared.settles.Unsettled.{Unsettled}
use Rattle.dg_volume.specs.declared.settles.Unsettled.TheVariants.{Lost, Malformed, NoSpace}
use Rattle.dg_volume.proofs.ArrayLaws.{told_by}
use Rattle.ufs_model.specs.Malformations.{IsFirstMalformation, IsSoundVolume}

-- ---- the files that were read last

without_none : (i : ℕ) (xs : List ℕ) → ((k : ℕ) → k < length xs → get_or xs k 0 ≢ i) → filter (λ j. not (j == i)) xs ≡ xs
without_none i [] other = refl
without_none i (x ∷ xs) other =
    ap (λ (b : Bool). cond (not b) (x ∷ filter (λ j. not (j == i)) xs) (filter (λ j. not (j == i)) xs)) (apart_test x i (other 0 (omega arith)))
    ∙ ap (λ ys. x ∷ ys) (without_none i xs (λ k low. other (suc k) (omega (arith, low))))

-- an inode that is touched before those behind it in a list
pub touched_next : (xs : List ℕ) (k n i : ℕ) → k < length xs → n ≡ k + 1 → i ≡ get_or xs k 0 → length xs ≤ 16 → AllPairs (λ i j. i ≢ j) xs → touched i (drop n xs) ≡ drop k xs
touched_next xs k n i low next at few once =
    ap (λ m. touched i (drop m xs)) next
    ∙ ap (λ j. touched j (drop (k + 1) xs)) at
    ∙ ap (λ ys. take 16 (get_or xs k 0 ∷ ys)) (without_none (get_or xs k 0) (drop (k + 1) xs) others)
    ∙ ap (take 16) (sym (drop_more xs k 0 low))
    ∙ take_all 16 (drop k xs) (omega (arith, length-drop k xs, few))
  where
    others : (j : ℕ) → j < length (drop (k + 1) xs) → get_or (drop (k + 1) xs) j 0 ≢ get_or xs k 0
    others j within same =
        once k (k + 1 + j) 0 (omega arith) (omega (arith, within, length-drop (k + 1) xs)) (sym same ∙ get_or-drop (k + 1) xs j 0)

-- ---- order

module _ {R : Type 0} (rack : Ghosts R) where
  pub bad_check : (old new : Store R) (kept : KeptInference) (homes copies : List Home) (bad : Unsettled) → AnswersCheck rack old new kept (Err bad)
      → IsDisordered rack old new kept homes copies
  bad_check old new kept homes copies (Lost s) h = inr (inr (has_lost_at (shape_of new) (members_of new) s h.within h.lost))
  bad_check old new kept homes copies (Malformed kind n) h = inr (inl (record { kind = kind; number = n; first = h }))
  bad_check old new kept homes copies (NoSpace bad) h = absurd h

  module _ (old mid new : Store R) (first : HasReadArray rack old mid) where
    finds_before : (kept : KeptInference) (finds : ℕ → ℕ → List (List ℕ) → Type 0) → FindsOn rack mid new kept (λ V. finds (shape_of mid).l (shape_of mid).n V)
        → FindsOn rack old new kept (λ V. finds (shape_of old).l (shape_of old).n V)
    finds_before kept finds on told V held inferred =
        subst (λ (s : Shape). finds s.l s.n V) first.reads.keeps.shape (on told V (first.stands V held) inferred)

    ordered_before : (kept : KeptInference) (homes copies : List Home) → IsOrdered rack mid new kept homes copies → IsOrdered rack old new kept homes copies
    ordered_before kept homes copies h = record {
      wants = h.wants;
      wanted = subst (λ (t : Table). AreWanted t kept h.wants) first.reads.table h.wanted;
      placed = subst (λ (t : Table). IsPlaced h.wants t homes copies) first.reads.table h.placed;
      sound = finds_before kept IsSoundVolume h.sound;
    }

    displaced_before : (kept : KeptInference) (homes copies : List Home) → IsDisplaced mid kept homes copies → IsDisplaced old kept homes copies
    displaced_before kept homes copies h = record {
      wants = h.wants;
      wanted = subst (λ (t : Table). AreWanted t kept h.wants) first.reads.table h.wanted;
      displaced = subst (λ (t : Table). IsPlaced h.wants t homes copies → ⊥) first.reads.table h.displaced;
    }

    disordered_before : (kept : KeptInference) (homes copies : List Home) → IsDisordered rack mid new kept homes copies → IsDisordered rack old new kept homes copies
    disordered_before kept homes copies h = elim h [
      | inl displaced ↦ inl (displaced_before kept homes copies displaced)
      | inr more ↦ elim more [
        | inl unsound ↦ inr (inl (record {
          kind = unsound.kind;
          number = unsound.number;
          first = finds_before kept (λ l n V. IsFirstMalformation l n V unsound.kind unsound.number) unsound.first;
        }))
        | inr lost ↦ inr (inr lost)
      ]
    ]

    -- what is restored at first is so in the end
    pub restored_later : (pending : List Bool) (kept : KeptInference) → HasReadArray rack mid new → has_lost (shape_of new) (members_of new) ≡ false → FitsArray (shape_of old) kept
        → (TellsAll rack mid → (V : List (List ℕ)) → stores.StandsFor rack old V → inferences.StandsFor kept V)
        → ((V : List (List ℕ)) → AreLeft (TellsAll rack mid × stores.StandsFor rack old V) (shape_of old).l (shape_of old).n V pending kept.pending)
        → IsRestored rack old new pending kept
    restored_later pending kept second live fits stands left = record {
      live = live;
      fits = fits;
      stands = λ told V held. stands (told_by rack mid new second.reads.keeps told) V held;
      pending_are = λ V. record {
        size = (left V).size;
        fewer = (left V).fewer;
        are = λ known b. (left V).are (told_by rack mid new second.reads.keeps known.0, known.1) b;
      };
    }

    pub phase_is : (saved : SavedState) (kept : KeptInference) (settled : Bool) → IsRestored rack old new saved.pending kept → AnswersStill rack mid new kept saved settled
        → IsPhaseOf rack old new saved (phase_with kept settled)
    phase_is saved kept true restored h = (restored, (h.0, ordered_before kept saved.homes saved.copies h.1))
    phase_is saved kept false restored h = (restored, λ was. disordered_before kept saved.homes saved.copies (h was))
