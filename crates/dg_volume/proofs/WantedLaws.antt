-- By what is kept one block is one thing to the plan.
use Rattle.std.proofs.Common.{◌≡◌, ◌∙◌, ◌<◌, ℕ, List, length, inl, inr, refl, sym, ap, subst}
use Rattle.std.specs.Prelude.{None, Option, Some, filter, is_some}
use Rattle.std.specs.List.{range_with_len}
use Rattle.std.proofs.lemmas.Bool.{false≢true}
use Rattle.std.proofs.lemmas.List.Elements.{filter_agree}
use Rattle.dg_claims.specs.Kept.{table_of}
use Rattle.dg_claims.specs.Tables.{TableClaims}
use Rattle.dg_infer.specs.Meanings.{KeptInference}
use Rattle.dg_infer.specs.Wants.{IsOfBy, IsRegularBy, IsWantBy}
use Rattle.dg_model.specs.Placed.{IsPlaced}
use Rattle.dg_model.specs.Plans.{count_of, is_file}
use Rattle.dg_model.specs.Tables.{Table}
use Rattle.dg_model.specs.Wants.{want_of}
use Rattle.dg_model.specs.declared.homes.Home.{Home}
use Rattle.dg_model.specs.declared.wants.Want.{Want}
use Rattle.dg_model.specs.declared.wants.Want.TheVariants.{File, Kept, Stray}
use Rattle.dg_volume.specs.Planned.{AreWanted}
use Rattle.ufs_model.specs.Owners.{IsOwner}
use Rattle.ufs_model.specs.Owners.IsOwner.{by_own_slot, by_upper}
use Rattle.ufs_model.specs.declared.claims.ClaimSource.{ClaimSource}
use Rattle.ufs_model.specs.declared.claims.ClaimSource.TheVariants.{Pointer, Slot}

slots_apart : (i s u a t : ℕ) → Pointer u a t ≡ Slot i s → ⊥
slots_apart i s u a t e = cc e

slot_inode : (i s j t : ℕ) → Slot j t ≡ Slot i s → i ≡ j
slot_inode i s j t e = sym (cc e)

pointer_upper : (u a t v b k : ℕ) → Pointer v b k ≡ Pointer u a t → v ≡ u
pointer_upper u a t v b k e = cc e

-- a fragment has one owner
pub one_owner : (claims : ℕ → ClaimSource → Type 0) (f i level j other : ℕ) → IsOwner claims f i level → IsOwner claims f j other → i ≡ j
one_owner claims f i level j other (by_own_slot {slot = s} only is) (by_own_slot {slot = t} single at) = slot_inode i s j t (only.only (Slot j t) single.claim)
one_owner claims f i level j other (by_own_slot {slot = s} only is) (by_upper {upper = u} {at = t} {above = a} single at up) =
    absurd (slots_apart i s u a t (only.only (Pointer u a t) single.claim))
one_owner claims f i level j other (by_upper {upper = u} {at = t} {above = a} only is up) (by_own_slot {slot = s} single at) =
    absurd (slots_apart j s u a t (single.only (Pointer u a t) only.claim))
one_owner claims f i level j other (by_upper {upper = u} {at = t} {above = a} only is up) (by_upper {upper = v} {at = k} {above = b} single at high) =
    one_owner claims u i a j b up (subst (λ (x : ℕ). IsOwner claims x j b) (pointer_upper u a t v b k (only.only (Pointer v b k) single.claim)) high)

module _ (kept : KeptInference) (b : ℕ) where
  one_of : (i j : ℕ) → IsOfBy kept b i → IsOfBy kept b j → i ≡ j
  one_of i j one other = one_owner (TableClaims (table_of kept.claims)) b i (one.0) j (other.0) (one.1) (other.1)

  kept_file : (i : ℕ) → IsWantBy kept b Kept → IsWantBy kept b (File i) → ⊥
  kept_file i one other = elim one [
    | inl system ↦ false≢true (sym other.0 ∙ system)
    | inr own ↦ own.1.2 (subst (λ (x : ℕ). IsRegularBy kept x) (one_of i (own.1.0) other.1 own.1.1) other.2)
  ]

  kept_stray : IsWantBy kept b Kept → IsWantBy kept b Stray → ⊥
  kept_stray one other = elim one [
    | inl system ↦ false≢true (sym other.0 ∙ system)
    | inr own ↦ other.1 (own.1.0) own.1.1
  ]

  pub one_want : (x y : Want) → IsWantBy kept b x → IsWantBy kept b y → x ≡ y
  one_want Kept Kept one other = refl
  one_want Kept (File i) one other = absurd (kept_file i one other)
  one_want Kept Stray one other = absurd (kept_stray one other)
  one_want (File i) Kept one other = absurd (kept_file i other one)
  one_want (File i) (File j) one other = ap File (one_of i j one.1 other.1)
  one_want (File i) Stray one other = absurd (other.1 i one.1)
  one_want Stray Kept one other = absurd (kept_stray other one)
  one_want Stray (File i) one other = absurd (one.1 i other.1)
  one_want Stray Stray one other = refl

-- ---- wants that are made anew

-- one block is one thing, by what is kept
module _ (table : Table) (kept : KeptInference) (one two : List (Option Want)) (old : AreWanted table kept one) (new : AreWanted table kept two) where
  same_at : (b : ℕ) (x y : Option Want) → want_of one b ≡ x → want_of two b ≡ y → is_some x ≡ is_some y → x ≡ y
  same_at b None None e f is = refl
  same_at b None (Some want) e f is = absurd (false≢true is)
  same_at b (Some want) None e f is = absurd (false≢true (sym is))
  same_at b (Some x) (Some y) e f is = ap Some (one_want kept b x y (old.by b x e) (new.by b y f))

  same_want : (b : ℕ) → want_of one b ≡ want_of two b
  same_want b = same_at b (want_of one b) (want_of two b) refl refl (old.fit.written b ∙ sym (new.fit.written b))

  same_count : (i : ℕ) → count_of one i ≡ count_of two i
  same_count i =
      ap (λ (n : ℕ). length (filter (λ b. is_file i (want_of one b)) (range_with_len 0 n))) (old.fit.size ∙ sym new.fit.size)
      ∙ ap length (filter_agree (λ b. is_file i (want_of one b)) (λ b. is_file i (want_of two b)) (λ b. ap (is_file i) (same_want b)) (range_with_len 0 (length two)))

  pub placed_anew : (homes copies : List Home) → IsPlaced one table homes copies → IsPlaced two table homes copies
  placed_anew homes copies placed = record {
    kept = λ b found. placed.kept b (same_want b ∙ found);
    file = λ b i found. placed.file b i (same_want b ∙ found);
    homes_are = λ i.
        let both = placed.homes_are i in
        (λ h. subst (λ (n : ℕ). 0 < n) (same_count i) (both.0 h), λ h. both.1 (subst (λ (n : ℕ). 0 < n) (sym (same_count i)) h));
    copies_are = placed.copies_are;
    homes_ascend = placed.homes_ascend;
    copies_ascend = placed.copies_ascend;
  }
