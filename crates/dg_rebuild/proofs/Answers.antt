-- What the answers of a refill say.
use Rattle.std.proofs.Common.{◌≡◌, ◌⊎◌, ◌<◌, ◌≤◌, ◌+◌, ◌/◌, ◌==◌, ℕ, Bool, true, false, List, inl, inr, refl, sym, ◌∙◌, ap, subst, arith}
use Rattle.std.specs.Prelude.{◌↔◌, Err, IfOk, Ok, Result, if◌then◌else◌, nat_lt}
use Rattle.std.proofs.lemmas.Bool.{false≢true, ltb-false, ltb-true}
use Rattle.dg_io.specs.declared.outside.Rack.{Ghosts}
use Rattle.dg_model.specs.Members.{is_filling, is_good, is_lost}
use Rattle.dg_model.specs.Tables.{IsTable, IsTaken, used_between}
use Rattle.dg_model.specs.declared.members.MemberState.TheVariants.{Good, Filling}
use Rattle.dg_model.proofs.MemberLaws.{rose_before}
use Rattle.dg_pair.specs.Boundaries.{completed}
use Rattle.dg_store.specs.Answers.{ChangesAt}
use Rattle.dg_store.specs.Leaves.{FaultRose, Stays}
use Rattle.dg_store.specs.Stores.{IsSound, KeepsBlocks, members_of, rack_of, shape_of, table_of}
use Rattle.dg_store.specs.declared.store.Store.{Store}
use Rattle.dg_rebuild.specs.Answers.{FillingFell, HasBrokenOff, HasCopied, IsUnmarkedAt}
use Rattle.dg_rebuild.specs.Passed.{CouldNot, WentOn}
use Rattle.dg_rebuild.specs.declared.rebuilds.RebuildAnswer.TheVariants.{Copied, Failed, Lost}
use Rattle.dg_rebuild.specs.declared.slots.SlotAnswer.TheVariants.{Done}
use Rattle.dg_rebuild.proofs.Members.{filling_stands, good_stands}
use Rattle.dg_rebuild.proofs.Steps.{breaks_off, ends_at, ends_whole}

pub done_number : (m n : ℕ) → Done m ≡ Done n → m ≡ n
done_number m n e = cc e

copied_numbers : (a b c d : ℕ) → Copied a b ≡ Copied c d → (a ≡ c) × (b ≡ d)
copied_numbers a b c d e = (cc e, cc e)

-- a copy is made only below the limit
pub few_copies : (done limit n : ℕ) → done ≤ limit → n ≤ (if nat_lt done limit then 1 else 0) → done + n ≤ limit
few_copies done limit n few most = by_test (nat_lt done limit) refl most
  where
    by_test : (t : Bool) → nat_lt done limit ≡ t → n ≤ (if t then 1 else 0) → done + n ≤ limit
    by_test true e most = omega (arith, ltb-true done limit e, most)
    by_test false e most = omega (arith, few, most)

not_failed : (d l : ℕ) → Copied d l ≡ Failed → ⊥
not_failed d l e = cc e

not_lost : (d l s : ℕ) → Copied d l ≡ Lost s → ⊥
not_lost d l s e = cc e

pub not_broken : {P : Type 0} (d l s : ℕ) → (Copied d l ≡ Failed) ⊎ (Copied d l ≡ Lost s) → P
not_broken d l s e = elim e [ inl failed ↦ absurd (not_failed d l failed) | inr lost ↦ absurd (not_lost d l s lost) ]

module _ {R : Type 0} (rack : Ghosts R) (marks : List Bool) (s : ℕ) where
  -- nothing has changed since
  went_same : (a b c : Store R) (low high copies : ℕ) (xs ys zs : List ℕ) → c ≡ b → zs ≡ ys → WentOn rack marks s low high copies xs ys a b
      → WentOn rack marks s low high copies xs zs a c
  went_same a b c low high copies xs ys zs same list went =
      subst (λ (store : Store R). WentOn rack marks s low high copies xs zs a store) (sym same)
      (subst (λ (ws : List ℕ). WentOn rack marks s low high copies xs ws a b) (sym list) went)

  copied_as : (a b : Store R) (n done left d l : ℕ) (xs ys : List ℕ) → Copied done left ≡ Copied d l → HasCopied rack marks s n done left xs ys a b
      → HasCopied rack marks s n d l xs ys a b
  copied_as a b n done left d l xs ys e has =
      let same = copied_numbers done left d l e in
      subst (λ (m : ℕ). HasCopied rack marks s n m l xs ys a b) same.0 (subst (λ (m : ℕ). HasCopied rack marks s n done m xs ys a b) same.1 has)

  -- the refill stops at a used slot
  pub stops : (a b c : Store R) (low high n done left : ℕ) (xs ys zs : List ℕ) → IsTable (table_of a) → c ≡ b → zs ≡ ys
      → WentOn rack marks s low high done xs ys a b → high < (shape_of a).k + 1 → done ≤ n → nat_lt done n ≡ false
      → IsTaken (table_of b) s high → IsUnmarkedAt (table_of b) marks s high
      → left ≡ used_between (table_of c) s high ((shape_of c).k + 1) → HasCopied rack marks s n done left xs zs a c
  stops a b c low high n done left xs ys zs is same list went below few full taken unmarked rest =
      ends_at rack marks s a c low high n done left xs zs is below few (ltb-false done n full)
      (subst (λ (store : Store R). IsTaken (table_of store) s high) (sym same) taken)
      (subst (λ (store : Store R). IsUnmarkedAt (table_of store) marks s high) (sym same) unmarked) rest
      (went_same a b c low high done xs ys zs same list went)

  pub stops_as : (a b c : Store R) (low high n done left d l : ℕ) (xs ys zs : List ℕ) → IsTable (table_of a) → c ≡ b → zs ≡ ys
      → WentOn rack marks s low high done xs ys a b → high < (shape_of a).k + 1 → done ≤ n → nat_lt done n ≡ false
      → IsTaken (table_of b) s high → IsUnmarkedAt (table_of b) marks s high
      → left ≡ used_between (table_of c) s high ((shape_of c).k + 1) → Copied done left ≡ Copied d l → HasCopied rack marks s n d l xs zs a c
  stops_as a b c low high n done left d l xs ys zs is same list went below few full taken unmarked rest e =
      copied_as a c n done left d l xs zs e (stops a b c low high n done left xs ys zs is same list went below few full taken unmarked rest)

  -- it is done
  pub whole_as : (a b c : Store R) (low high n done d l : ℕ) (xs ys : List ℕ) → IsTable (table_of a) → high ≡ (shape_of a).k + 1 → done ≤ n → WentOn rack marks s low high done xs ys a b
      → IsSound rack c → Stays rack b c → rack_of c ≡ rack_of b → table_of c ≡ table_of b → ChangesAt completed s (members_of b) (members_of c) → KeepsBlocks rack b c
      → Copied done 0 ≡ Copied d l → HasCopied rack marks s n d l xs ys a c
  whole_as a b c low high n done d l xs ys is end few went sound stays same table changes keeps e =
      copied_as a c n done 0 d l xs ys e (ends_whole rack marks s a b c low n done xs ys is few
      (subst (λ (slot : ℕ). WentOn rack marks s low slot done xs ys a b) end went) sound stays same table changes keeps)

  -- a boundary whose member was given slots isn't lost
  stands_by : (c : Store R) (q slots high : ℕ) (t : Bool) → (high == slots) ≡ t → q / 2 ≡ s → IsSound rack c
      → members_of c q ≡ (if t then Good else Filling high) → is_lost (members_of c) s ≡ false
  stands_by c q slots high true e at sound is = good_stands (members_of c) s q at (ap is_good is)
  stands_by c q slots high false e at sound is = filling_stands (members_of c) s q high sound.paired (at, is)

  pub copied_stands : (a c : Store R) (n d l : ℕ) (xs ys : List ℕ) → HasCopied rack marks s n d l xs ys a c → (Copied d l ≡ Lost s) ↔ (is_lost (members_of c) s ≡ true)
  copied_stands a c n d l xs ys has =
      let stands = stands_by c has.q ((shape_of a).k + 1) has.high (has.high == ((shape_of a).k + 1)) refl has.filling.0 has.slots.sound has.members.member in
      (λ e. absurd (not_lost d l s e), λ lost. absurd (false≢true (sym stands ∙ lost)))

  -- it is broken off
  pub breaks : (a b c : Store R) (low high copies : ℕ) (xs ys zs : List ℕ) → IsTable (table_of a) → zs ≡ ys → WentOn rack marks s low high copies xs ys a b
      → high ≤ (shape_of a).k + 1 → IsTaken (table_of b) s high × IsUnmarkedAt (table_of b) marks s high → CouldNot rack s b c → HasBrokenOff rack marks s xs zs a c
  breaks a b c low high copies xs ys zs is list went within used could =
      let k : (shape_of b).k ≡ (shape_of a).k = ap (λ sh. sh.k) went.slots.stays.shape in
      subst (λ (ws : List ℕ). HasBrokenOff rack marks s xs ws a c) (sym list)
      (breaks_off rack marks s a b c low high copies xs ys is went (omega (arith, k, within)) used.0 used.1 could)

  pub fell_off : (a b c : Store R) (low high copies : ℕ) (xs ys : List ℕ) → WentOn rack marks s low high copies xs ys a b → CouldNot rack s b c
      → ((q : ℕ) → q / 2 ≡ s → is_filling (members_of b q) ≡ true → FaultRose rack b c q) → FillingFell rack s a c
  fell_off a b c low high copies xs ys went could fault =
      let q = went.members.q in
      let at = went.members.was.0 in
      let filling = ap is_filling went.members.left.member in
      record {
        q = q;
        low = low;
        filling = went.members.was;
        out = could.out q at filling;
        rose = rose_before ((rack.counts (rack_of a)).faults q) ((rack.counts (rack_of b)).faults q) ((rack.counts (rack_of c)).faults q)
            (went.slots.stays.stays.rise.faults q) (fault q at filling);
      }

pub map_ok : {A E : Type 0} (r : Result A E) (P Q : A → Type 0) → ((a : A) → P a → Q a) → IfOk r P → IfOk r Q
map_ok (Ok a) P Q step is = step a is
map_ok (Err e) P Q step is = tt
