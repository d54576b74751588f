-- What the tables of a boundary's slots say, once a slot is taken or given up.
use Rattle.std.proofs.Common.{◌≡◌, ◌≢◌, ◌<◌, ◌≤◌, ◌+◌, ◌^◌, ℕ, Bool, true, false, cond, List, length, get_or, set, slice_get, IsSome, Option, Some, None, refl, sym, ◌∙◌, ap, subst, ⊎_elim, arith}
use Rattle.std.proofs.lemmas.Bool.{cases_eq, cases_lt, false≢true}
use Rattle.std.proofs.lemmas.List.{get_or-set_other, get_or-set_same, length-set}
use Rattle.std.proofs.lemmas.Option.{slice_get-get_or, slice_get_past}
use Rattle.dg_map.specs.Bits.{IsBits, IsLeast, Sets, count_upto, has}
use Rattle.dg_map.specs.Slots.{GivesUp, IsSlots, IsUnused, Puts, block_in}
use Rattle.dg_map.specs.declared.boundary_slots.Slots.{Slots}
use Rattle.dg_map.proofs.AgreeLemmas.{cond_apart, cond_same, not_both}
use Rattle.dg_map.proofs.CountLemmas.{count_all, count_lacks, count_more, count_none}

-- ---- an item of a list that is set

get-set_same : (xs : List ℕ) (i y : ℕ) → i < length xs → slice_get (set xs i y) i ≡ Some y
get-set_same xs i y lt =
    slice_get-get_or (set xs i y) i 0 (omega (arith, length-set xs i y, lt)) ∙ ap (λ v. Some v) (get_or-set_same xs i y 0 lt)

get-set_other : (xs : List ℕ) (i y k : ℕ) → k ≢ i → slice_get (set xs i y) k ≡ slice_get xs k
get-set_other xs i y k ne =
    ⊎_elim
    (λ lt.
    slice_get-get_or (set xs i y) k 0 (omega (arith, length-set xs i y, lt))
    ∙ ap (λ v. Some v) (get_or-set_other xs i k y 0 ne)
    ∙ sym (slice_get-get_or xs k 0 lt))
    (λ past. slice_get_past (set xs i y) k (omega (arith, length-set xs i y, past)) ∙ sym (slice_get_past xs k past))
    (cases_lt k (length xs))

-- ---- the block in a slot

cond_none : (b : Bool) → ◌≡◌ {A = Option ℕ} (cond b None None) None
cond_none true = refl
cond_none false = refl

cond_free : (b : Bool) (o : Option ℕ) (x : ℕ) → o ≡ Some x → cond b None o ≡ None → b ≡ true
cond_free true o x some none = refl
cond_free false o x some none = absurd (not_both o x none some)

cond_used : (b : Bool) (o : Option ℕ) → IsSome (cond b None o) → b ≡ false
cond_used true o some = absurd (false≢true some)
cond_used false o some = refl

-- where the bit is set, or the slot isn't one of the boundary, no block stands there
pub free_none : (slots : Slots) (k : ℕ) → has slots.free k ≡ true → block_in slots k ≡ None
free_none slots k free = ap (λ b. cond b None (slice_get slots.blocks.items k)) free

pub past_none : (slots : Slots) (k : ℕ) → IsSlots slots → slots.most ≤ k → block_in slots k ≡ None
past_none slots k sound past =
    ap (λ o. cond (has slots.free k) None o) (slice_get_past slots.blocks.items k (omega (arith, sound.blocks, past))) ∙ cond_none (has slots.free k)

-- where it isn't, the block of the table stands there
pub used_some : (slots : Slots) (k d : ℕ) → IsSlots slots → k < slots.most → has slots.free k ≡ false → block_in slots k ≡ Some (get_or slots.blocks.items k d)
used_some slots k d sound lt used =
    ap (λ b. cond b None (slice_get slots.blocks.items k)) used ∙ slice_get-get_or slots.blocks.items k d (omega (arith, sound.blocks, lt))

-- a slot of the boundary with no block is free
pub none_free : (slots : Slots) (k : ℕ) → IsSlots slots → k < slots.most → block_in slots k ≡ None → has slots.free k ≡ true
none_free slots k sound lt none =
    cond_free (has slots.free k) (slice_get slots.blocks.items k) (get_or slots.blocks.items k 0) (slice_get-get_or slots.blocks.items k 0 (omega (arith, sound.blocks, lt))) none

-- a slot with a block isn't
pub some_used : (slots : Slots) (k : ℕ) → IsSome (block_in slots k) → has slots.free k ≡ false
some_used slots k some = cond_used (has slots.free k) (slice_get slots.blocks.items k) some

pub some_within : (slots : Slots) (k : ℕ) → IsSlots slots → IsSome (block_in slots k) → k < slots.most
some_within slots k sound some =
    ⊎_elim (λ lt. lt) (λ past. absurd (false≢true (subst IsSome (past_none slots k sound past) some))) (cases_lt k slots.most)

-- a number below one that is the least free slot has a block
pub lower_some : (slots : Slots) (slot k : ℕ) → IsSlots slots → IsLeast slots.free slot → k < slot → IsSome (block_in slots k)
lower_some slots slot k sound least below =
    subst IsSome (sym (used_some slots k 0 sound (omega (arith, below, sound.free.below slot least.here, sound.bound)) (not_free (has slots.free k) refl))) refl
  where
    not_free : (b : Bool) → has slots.free k ≡ b → has slots.free k ≡ false
    not_free true e = absurd (let le : slot ≤ k = least.least k e in omega (arith, le, below))
    not_free false e = e

-- ---- how many are used

pub few_used : (slots : Slots) → IsSlots slots → slots.used ≤ slots.most
few_used slots sound = omega (arith, sound.count)

-- where fewer are used than there are, one is free
pub some_free : (slots : Slots) → IsSlots slots → slots.used < slots.most → ((k : ℕ) → has slots.free k ≡ false) → ⊥
some_free slots sound left none =
    absurd (omega (arith, sound.count, left, count_none slots.most (has slots.free) (λ k lt. none k)))

pub slots_unused : (slots : Slots) → IsBits slots.free → slots.free.bound ≡ slots.most → slots.most ≤ 2 ^ 20 + 1 → ((k : ℕ) → k < slots.most → has slots.free k ≡ true) → length slots.blocks.items ≡ slots.most → slots.used ≡ 0 → IsUnused slots.most slots
slots_unused slots bits bound small all blocks none = record { sound = sound; most_is = refl; empty = empty; count = none }
  where
    sound : IsSlots slots
    sound = record {
      small = small;
      free = bits;
      bound = bound;
      blocks = blocks;
      count = omega (arith, none, count_all slots.most (has slots.free) all);
    }

    empty : (k : ℕ) → block_in slots k ≡ None
    empty k = ⊎_elim (λ lt. free_none slots k (all k lt)) (λ past. past_none slots k sound past) (cases_lt k slots.most)

module _ (old new : Slots) (slot : ℕ) (sound : IsSlots old) (most : new.most ≡ old.most) (within : slot < old.most) where
  -- the bit of the slot is cleared, and the block written to its place
  pub slots_put : (block : ℕ) → block_in old slot ≡ None → Sets old.free new.free slot false → new.blocks.items ≡ set old.blocks.items slot block → new.used ≡ old.used + 1 → Puts old new slot block
  slots_put block none sets blocks count = record {
    sound = record {
      small = omega (arith, most, sound.small);
      free = sets.sound;
      bound = sets.bound ∙ sound.bound ∙ sym most;
      blocks = ap length blocks ∙ length-set old.blocks.items slot block ∙ sound.blocks ∙ sym most;
      count =
          let fewer = count_more old.most slot (has new.free) (has old.free) within sets.here free (λ k ne. sym (sets.others k ne)) in
          let counted = ap (λ n. count_upto n (has new.free)) most in
          omega (arith, fewer, counted, sound.count, count, most);
    };
    most = most;
    within = within;
    free = none;
    blocks = λ k.
        ⊎_elim
        (λ e. here k e ∙ sym (cond_same slot k (Some block) (block_in old k) e))
        (λ ne. apart k (λ f. ne (sym f)) ∙ sym (cond_apart slot k (Some block) (block_in old k) ne))
        (cases_eq slot k);
    count = count;
  }
    where
      free : has old.free slot ≡ true
      free = none_free old slot sound within none

      at : block_in new slot ≡ Some block
      at =
          ap (λ b. cond b None (slice_get new.blocks.items slot)) sets.here
          ∙ ap (λ xs. slice_get xs slot) blocks
          ∙ get-set_same old.blocks.items slot block (omega (arith, sound.blocks, within))

      here : (k : ℕ) → slot ≡ k → block_in new k ≡ Some block
      here k e = subst (λ q. block_in new q ≡ Some block) e at

      apart : (k : ℕ) → k ≢ slot → block_in new k ≡ block_in old k
      apart k ne =
          ap (λ b. cond b None (slice_get new.blocks.items k)) (sets.others k ne)
          ∙ ap (λ o. cond (has old.free k) None o) (ap (λ xs. slice_get xs k) blocks ∙ get-set_other old.blocks.items slot block k ne)

  -- the bit of the slot is set
  pub slots_give : IsSome (block_in old slot) → Sets old.free new.free slot true → new.blocks ≡ old.blocks → new.used + 1 ≡ old.used → GivesUp old new slot
  slots_give some sets blocks count = record {
    sound = record {
      small = omega (arith, most, sound.small);
      free = sets.sound;
      bound = sets.bound ∙ sound.bound ∙ sym most;
      blocks = ap (λ v. length v.items) blocks ∙ sound.blocks ∙ sym most;
      count =
          let more = count_more old.most slot (has old.free) (has new.free) within (some_used old slot some) sets.here sets.others in
          let counted = ap (λ n. count_upto n (has new.free)) most in
          omega (arith, more, counted, sound.count, count, most);
    };
    most = most;
    blocks = λ k.
        ⊎_elim
        (λ e. subst (λ q. block_in new q ≡ None) e (free_none new slot sets.here) ∙ sym (cond_same slot k None (block_in old k) e))
        (λ ne.
        ap (λ b. cond b None (slice_get new.blocks.items k)) (sets.others k (λ f. ne (sym f)))
        ∙ ap (λ v. cond (has old.free k) None (slice_get v.items k)) blocks
        ∙ sym (cond_apart slot k None (block_in old k) ne))
        (cases_eq slot k);
    count = count;
  }

-- a slot is used, so the count isn't 0
pub count_some : (slots : Slots) (slot : ℕ) → IsSlots slots → IsSome (block_in slots slot) → 0 < slots.used
count_some slots slot sound some = omega (arith, sound.count, count_lacks slots.most slot (has slots.free) (some_within slots slot sound some) (some_used slots slot some))
