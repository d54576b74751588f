-- A refill on a store: one slot after another, and how it ends.
use Rattle.std.proofs.Common.{◌≡◌, ◌<◌, ◌≤◌, ◌+◌, ◌++◌, ℕ, Bool, true, false, List, [], ◌∷◌, length, replicate, inl, inr, refl, sym, ◌∙◌, ap, subst, arith, append_assoc, get_or, get_or-set_other, get_or-set_same}
use Rattle.std.specs.Prelude.{slice_set}
use Rattle.std.specs.List.{Contains}
use Rattle.std.proofs.lemmas.Bool.{cases_eq, cases_lt}
use Rattle.std.proofs.lemmas.List.{append-nil, length-replicate}
use Rattle.ufs_model.specs.Blocks.{Volume}
use Rattle.dg_io.specs.declared.outside.Rack.{Ghosts}
use Rattle.dg_model.specs.Blocks.{zeros}
use Rattle.dg_model.specs.Marks.{is_marked}
use Rattle.dg_model.specs.Members.{is_filling}
use Rattle.dg_model.specs.Refills.{Reaps}
use Rattle.dg_model.specs.Tables.{IsFree, IsTable, IsTaken, StandsIn, Table, sites_in, used_between}
use Rattle.dg_model.specs.declared.members.MemberState.TheVariants.{Out}
use Rattle.dg_model.specs.declared.shapes.Shape.{Shape}
use Rattle.dg_model.specs.declared.sites.Site.{Site}
use Rattle.dg_model.proofs.FreeLaws.{stands_within}
use Rattle.dg_pair.specs.Boundaries.{completed, raised}
use Rattle.dg_pair.specs.Calls.{KeepsBeside}
use Rattle.dg_store.specs.Answers.{ChangesAt, reaped}
use Rattle.dg_store.specs.Leaves.{CallsAtMost, KeepsOut, PutsOut, Stays}
use Rattle.dg_store.specs.ReadLaws.{beside_both, beside_none, stays_both, stays_none, tells_good, told_all}
use Rattle.dg_store.specs.Stores.{IsSound, KeepsBlocks, SetsBlock, StandsFor, Tells, TellsAll, members_of, rack_of, shape_of, table_of}
use Rattle.dg_store.specs.declared.store.Store.{Store}
use Rattle.dg_rebuild.specs.Answers.{HasBrokenOff, HasCopied, IsUnmarkedAt}
use Rattle.dg_rebuild.specs.Passed.{CouldNot, FaultsTell, HasMemberAt, Passed, WentOn}
use Rattle.dg_rebuild.specs.Reaped.{is_among, zeroed}
use Rattle.dg_rebuild.proofs.Counts.{used_below, used_free, used_none, used_split, used_taken}
use Rattle.dg_rebuild.proofs.Members.{all_slots, changes_out, falls_broken, goes_both, goes_up, left_all, not_all_slots}
use Rattle.dg_rebuild.proofs.Reaping.{marked_both, marked_empty, marked_none, marked_one, reaps_both, reaps_none, reaps_one, unmarked_before, zeroed_both}

-- once its block is reaped a slot is free
pub reaped_free : (old new : Table) (s slot b : ℕ) → IsTable old → new ≡ reaped old b → StandsIn old b s slot → IsFree new s slot
reaped_free old new s slot b is same stands c there = elim (cases_eq c b) [
  | inl here ↦
      let none : sites_in new c ≡ [] =
      ap (λ (t : Table). sites_in t c) same ∙ ap (λ (a : ℕ). get_or (slice_set old.rows b []) a []) here
      ∙ get_or-set_same old.rows b [] [] (stands_within old b s slot stands)
      in
      let few : length (sites_in new c) ≡ 0 = ap (λ (xs : List Site). length xs) none in
      omega (arith, few, there.1)
  | inr other ↦
      let stays : sites_in new c ≡ sites_in old c = ap (λ (t : Table). sites_in t c) same ∙ get_or-set_other old.rows b c [] [] other in
      other (is.one_block c b s slot (subst (λ (xs : List Site). Contains xs (record { boundary = s; slot = slot })) stays there) stands)
]

module _ {R : Type 0} (rack : Ghosts R) where
  -- ---- counts of faults

  abbrev faults : Store R → ℕ → ℕ
  faults a = (rack.counts (rack_of a)).faults

  pub faults_both : (a b c : Store R) → FaultsTell rack a b → FaultsTell rack b c → FaultsTell rack a c
  faults_both a b c first second = record {
    fell = λ q rose. elim (cases_lt (faults b q) (faults c q)) [
      | inl late ↦ second.fell q late
      | inr early ↦ second.out q (first.fell q (omega (arith, rose, early)))
    ];
    idle = λ q out. second.idle q (first.out q out) ∙ first.idle q out;
    out = λ q out. second.out q (first.out q out);
  }

  -- no call was made
  pub faults_same : (a b : Store R) → rack_of b ≡ rack_of a → ((q : ℕ) → members_of a q ≡ Out → members_of b q ≡ Out) → FaultsTell rack a b
  faults_same a b same out = record {
    fell = λ q rose. let e = ap (λ (r : R). (rack.counts r).faults q) same in absurd (omega (arith, e, rose));
    idle = λ q out. ap (λ (r : R). (rack.counts r).faults q) same;
    out = out;
  }

  pub faults_none : (a : Store R) → FaultsTell rack a a
  faults_none a = faults_same a a refl (λ q out. out)

  -- no call was made
  same_beside : (l slots : ℕ) (a b : Store R) → rack_of b ≡ rack_of a → KeepsBeside l slots (rack.bytes (rack_of a)) (rack.bytes (rack_of b))
  same_beside l slots a b same = subst (λ (r : R). KeepsBeside l slots (rack.bytes (rack_of a)) (rack.bytes r)) (sym same) (beside_none l slots (rack.bytes (rack_of a)))

  same_calls : (a b : Store R) → rack_of b ≡ rack_of a → CallsAtMost rack a b 0
  same_calls a b same = let e = ap (λ (r : R). (rack.counts r).calls) same in omega (arith, e)

  module _ (marks : List Bool) (s : ℕ) where
    -- ---- runs of slots

    some_blocks : Store R → Volume
    some_blocks a = replicate (shape_of a).n []

    some_size : (a : Store R) → length (some_blocks a) ≡ (shape_of a).n
    unfolding some_blocks
    some_size a = length-replicate (shape_of a).n []

    -- no slot was passed, and what stood stands
    pub passed_none : (a b : Store R) (low : ℕ) (xs : List ℕ) → low ≤ (shape_of a).k + 1 → IsSound rack b → Stays rack a b → FaultsTell rack a b
        → KeepsBeside (shape_of a).l ((shape_of a).k + 1) (rack.bytes (rack_of a)) (rack.bytes (rack_of b))
        → table_of b ≡ table_of a → (TellsAll rack b → KeepsBlocks rack a b) → Passed rack marks s low low xs xs a b
    passed_none a b low xs within sound stays tell beside table keeps = record {
      sound = sound;
      stays = stays;
      faults = tell;
      beside = beside;
      reaped = [];
      joined = sym (append-nil xs);
      marked = marked_empty (table_of a) marks s low;
      reaps = λ V size. subst (λ (t : Table). Reaps (table_of a) V s low low (is_among []) t V) (sym table) (reaps_none (table_of a) V s low low (omega arith) within);
      stands = λ told V st. keeps told V st;
    }

    -- a slot was passed, and what stood stands
    passed_kept : (a b : Store R) (slot : ℕ) (xs : List ℕ) → slot < (shape_of a).k + 1 → IsSound rack b → Stays rack a b → FaultsTell rack a b
        → KeepsBeside (shape_of a).l ((shape_of a).k + 1) (rack.bytes (rack_of a)) (rack.bytes (rack_of b))
        → table_of b ≡ table_of a → (TellsAll rack b → KeepsBlocks rack a b)
        → ((c : ℕ) → is_marked marks c ≡ true → StandsIn (table_of a) c s slot → ⊥) → Passed rack marks s slot (slot + 1) xs xs a b
    passed_kept a b slot xs within sound stays tell beside table keeps none = record {
      sound = sound;
      stays = stays;
      faults = tell;
      beside = beside;
      reaped = [];
      joined = sym (append-nil xs);
      marked = marked_none (table_of a) marks s slot none;
      reaps = λ V size. subst (λ (t : Table). Reaps (table_of a) V s slot (slot + 1) (is_among []) t V) (sym table)
          (reaps_none (table_of a) V s slot (slot + 1) (omega arith) (omega (arith, within)));
      stands = λ told V st. keeps told V st;
    }

    module _ (a b c : Store R) (low at high : ℕ) (xs ys zs : List ℕ) (first : Passed rack marks s low at xs ys a b) (second : Passed rack marks s at high ys zs b c) where
      same_zeros : (V : Volume) → zeroed (shape_of b).l second.reaped (zeroed (shape_of a).l first.reaped V) ≡ zeroed (shape_of a).l (first.reaped ++ second.reaped) V
      same_zeros V =
          ap (λ (sh : Shape). zeroed sh.l second.reaped (zeroed (shape_of a).l first.reaped V)) first.stays.shape
          ∙ sym (zeroed_both (shape_of a).l first.reaped second.reaped V)

      front_reaps : (V : Volume) → length V ≡ (shape_of a).n → Reaps (table_of a) V s low at (is_among first.reaped) (table_of b) (zeroed (shape_of a).l first.reaped V)
      front_reaps V size = first.reaps V size

      back_reaps : (V : Volume) → length V ≡ (shape_of a).n
          → Reaps (table_of b) (zeroed (shape_of a).l first.reaped V) s at high (is_among second.reaped) (table_of c)
          (zeroed (shape_of a).l (first.reaped ++ second.reaped) V)
      back_reaps V size =
          let W = zeroed (shape_of a).l first.reaped V in
          subst (λ (X : Volume). Reaps (table_of b) W s at high (is_among second.reaped) (table_of c) X) (same_zeros V)
          (second.reaps W ((first.reaps V size).count ∙ size ∙ sym (ap (λ (sh : Shape). sh.n) first.stays.shape)))

      -- the used slots of the front stay used
      pub front_used : used_between (table_of c) s low at ≡ used_between (table_of b) s low at
      front_used =
          let back = back_reaps (some_blocks a) (some_size a) in
          used_below (table_of b) first.sound.table (table_of c) (is_among second.reaped) s low at high (first.reaps (some_blocks a) (some_size a)).run back.rows back.sites back.passed

      pub run_front : low ≤ at
      run_front = (first.reaps (some_blocks a) (some_size a)).run

      pub run_back : at ≤ high
      run_back = (back_reaps (some_blocks a) (some_size a)).run

      pub passed_both : Passed rack marks s low high xs zs a c
      passed_both = record {
        sound = second.sound;
        stays = stays_both rack a b c first.stays second.stays;
        faults = faults_both a b c first.faults second.faults;
        beside = beside_both (shape_of a).l ((shape_of a).k + 1) _ _ _ first.beside
            (subst (λ (sh : Shape). KeepsBeside sh.l (sh.k + 1) (rack.bytes (rack_of b)) (rack.bytes (rack_of c))) first.stays.shape second.beside);
        reaped = first.reaped ++ second.reaped;
        joined = second.joined ∙ ap (λ (ws : List ℕ). ws ++ second.reaped) first.joined ∙ append_assoc xs first.reaped second.reaped;
        marked = marked_both (table_of a) (table_of b) (table_of c) marks s low at high _ _ _ first.reaped second.reaped
            (front_reaps (some_blocks a) (some_size a)) (back_reaps (some_blocks a) (some_size a)) first.marked second.marked;
        reaps = λ V size. reaps_both (table_of a) (table_of b) (table_of c) marks s low at high V (zeroed (shape_of a).l first.reaped V)
            (zeroed (shape_of a).l (first.reaped ++ second.reaped) V) first.reaped second.reaped (front_reaps V size) (back_reaps V size);
        stands = λ told V st. subst (λ (X : Volume). StandsFor rack c X) (same_zeros V)
            (second.stands told (zeroed (shape_of a).l first.reaped V) (first.stands (told_all rack b c second.stays.shape second.stays.stays told) V st));
      }

    pub went_none : (a : Store R) (low : ℕ) (xs : List ℕ) → low ≤ (shape_of a).k + 1 → IsSound rack a → HasMemberAt (members_of a) s low
        → WentOn rack marks s low low 0 xs xs a a
    went_none a low xs within sound at = record {
      slots = passed_none a a low xs within sound (stays_none rack a) (faults_none a) (beside_none (shape_of a).l ((shape_of a).k + 1) (rack.bytes (rack_of a))) refl (λ told V st. st);
      members = record { q = at.member; was = at.refilled; left = record { member = at.refilled.1; others = λ p other. refl } };
      copied = sym (used_none (table_of a) s low low (omega arith));
      most = omega arith;
    }

    pub went_both : (a b c : Store R) (low at high : ℕ) (m n total : ℕ) (xs ys zs : List ℕ) → total ≡ m + n
        → WentOn rack marks s low at m xs ys a b → WentOn rack marks s at high n ys zs b c → WentOn rack marks s low high total xs zs a c
    went_both a b c low at high m n total xs ys zs sum first second = record {
      slots = passed_both a b c low at high xs ys zs first.slots second.slots;
      members = goes_both (members_of a) (members_of b) (members_of c) s low at high first.slots.sound.paired first.members second.members;
      copied = omega (
        arith,
        sum,
        first.copied,
        second.copied,
        front_used a b c low at high xs ys zs first.slots second.slots,
        used_split s low at high (run_front a b c low at high xs ys zs first.slots second.slots) (run_back a b c low at high xs ys zs first.slots second.slots) (table_of c),
      );
      most = omega (arith, sum, first.most, second.most);
    }

    -- ---- one slot

    -- an unused slot was passed
    pub went_free : (a b : Store R) (slot : ℕ) (xs : List ℕ) → slot < (shape_of a).k + 1 → IsSound rack a → HasMemberAt (members_of a) s slot
        → IsFree (table_of a) s slot → IsSound rack b → Stays rack a b → rack_of b ≡ rack_of a → table_of b ≡ table_of a
        → ChangesAt raised s (members_of a) (members_of b) → KeepsBlocks rack a b → WentOn rack marks s slot (slot + 1) 0 xs xs a b
    went_free a b slot xs below was at free sound stays same table changes keeps = record {
      slots = passed_kept a b slot xs below sound stays (faults_same a b same (changes_out raised refl s (members_of a) (members_of b) changes))
          (same_beside (shape_of a).l ((shape_of a).k + 1) a b same) table (λ told. keeps) (λ c mark there. free c there);
      members = goes_up (members_of a) (members_of b) s slot was.paired at changes;
      copied = sym (ap (λ (t : Table). used_between t s slot (slot + 1)) table ∙ used_free (table_of a) s slot free);
      most = same_calls a b same;
    }

    -- a slot was copied
    pub went_copied : (a b : Store R) (slot block : ℕ) (xs : List ℕ) → slot < (shape_of a).k + 1 → IsSound rack a → HasMemberAt (members_of a) s slot
        → StandsIn (table_of a) block s slot → is_marked marks block ≡ false → IsSound rack b → Stays rack a b → PutsOut rack a b → KeepsOut rack a b
        → KeepsBeside (shape_of a).l ((shape_of a).k + 1) (rack.bytes (rack_of a)) (rack.bytes (rack_of b)) → table_of b ≡ table_of a
        → ChangesAt raised s (members_of a) (members_of b) → (Tells rack b → KeepsBlocks rack a b) → CallsAtMost rack a b 2
        → WentOn rack marks s slot (slot + 1) 1 xs xs a b
    went_copied a b slot block xs below was at there unmarked sound stays fell idle beside table changes keeps most = record {
      slots = passed_kept a b slot xs below sound stays (record { fell = fell; idle = idle; out = changes_out raised refl s (members_of a) (members_of b) changes }) beside table
          (λ told. keeps (tells_good rack b sound told))
          (λ c mark stands.
          let same = was.table.one_block c block s slot stands there in
          let e = sym mark ∙ ap (is_marked marks) same ∙ unmarked in
          absurd (cc e));
      members = goes_up (members_of a) (members_of b) s slot was.paired at changes;
      copied = sym (ap (λ (t : Table). used_between t s slot (slot + 1)) table ∙ used_taken (table_of a) was.table block s slot there);
      most = omega (arith, most);
    }

    -- the block of a slot was reaped
    pub went_reaped : (a b : Store R) (slot block : ℕ) (xs ys : List ℕ) → slot < (shape_of a).k + 1 → IsSound rack a → HasMemberAt (members_of a) s slot
        → StandsIn (table_of a) block s slot → is_marked marks block ≡ true → IsSound rack b → Stays rack a b → rack_of b ≡ rack_of a
        → table_of b ≡ reaped (table_of a) block → ChangesAt raised s (members_of a) (members_of b)
        → SetsBlock rack a block (zeros (shape_of a).l) b → IsFree (table_of b) s slot → ys ≡ xs ++ block ∷ []
        → WentOn rack marks s slot (slot + 1) 0 xs ys a b
    went_reaped a b slot block xs ys below was at there mark sound stays same table changes sets free joined =
        let row : block < length (table_of a).rows = stands_within (table_of a) block s slot there in
        let size = was.table.size in
        record {
          slots = record {
            sound = sound;
            stays = stays;
            faults = faults_same a b same (changes_out raised refl s (members_of a) (members_of b) changes);
            beside = same_beside (shape_of a).l ((shape_of a).k + 1) a b same;
            reaped = block ∷ [];
            joined = joined;
            marked = marked_one (table_of a) marks s block slot was.table mark there;
            reaps = λ V count.
                subst (λ (t : Table). Reaps (table_of a) V s slot (slot + 1) (is_among (block ∷ [])) t (slice_set V block (zeros (shape_of a).l))) (sym table)
                (reaps_one (table_of a) V s slot block below there row (omega (arith, row, size, count)));
            stands = λ told V st. sets V st;
          };
          members = goes_up (members_of a) (members_of b) s slot was.paired at changes;
          copied = sym (used_free (table_of b) s slot free);
          most = same_calls a b same;
        }

    -- ---- how a refill ends

    stood_unmarked : (a b : Store R) (low high : ℕ) (xs ys : List ℕ) → IsTable (table_of a) → Passed rack marks s low high xs ys a b
        → IsUnmarkedAt (table_of b) marks s high → IsUnmarkedAt (table_of a) marks s high
    stood_unmarked a b low high xs ys is slots =
        unmarked_before (table_of a) (table_of b) marks s low high (some_blocks a) (zeroed (shape_of a).l slots.reaped (some_blocks a)) slots.reaped is
        (slots.reaps (some_blocks a) (some_size a))

    -- at a used slot, since so many copies were made
    pub ends_at : (a b : Store R) (low high n d l : ℕ) (xs ys : List ℕ) → IsTable (table_of a) → high < (shape_of a).k + 1 → d ≤ n → n ≤ d
        → IsTaken (table_of b) s high → IsUnmarkedAt (table_of b) marks s high → l ≡ used_between (table_of b) s high ((shape_of b).k + 1) → WentOn rack marks s low high d xs ys a b → HasCopied rack marks s n d l xs ys a b
    ends_at a b low high n d l xs ys is below few many taken unmarked rest went = record {
      q = went.members.q;
      low = low;
      high = high;
      filling = went.members.was;
      slots = went.slots;
      refills = record { copied = went.copied; limit = few; end = inr (omega (arith, few, many), taken); rest = rest };
      kept = stood_unmarked a b low high xs ys is went.slots unmarked;
      members = record { member = went.members.left.member ∙ sym (not_all_slots ((shape_of a).k + 1) high below); others = went.members.left.others };
      most = went.most;
    }

    -- behind the last slot
    pub ends_whole : (a b c : Store R) (low n d : ℕ) (xs ys : List ℕ) → IsTable (table_of a) → d ≤ n → WentOn rack marks s low ((shape_of a).k + 1) d xs ys a b
        → IsSound rack c → Stays rack b c → rack_of c ≡ rack_of b → table_of c ≡ table_of b → ChangesAt completed s (members_of b) (members_of c) → KeepsBlocks rack b c
        → HasCopied rack marks s n d 0 xs ys a c
    ends_whole a b c low n d xs ys is few went sound stays same table changes keeps =
        let slots = (shape_of a).k + 1 in
        let k : (shape_of b).k ≡ (shape_of a).k = ap (λ (sh : Shape). sh.k) went.slots.stays.shape in
        let whole : (shape_of c).k ≡ (shape_of b).k = ap (λ (sh : Shape). sh.k) stays.shape in
        let calls = same_calls b c same in
        record {
          q = went.members.q;
          low = low;
          high = slots;
          filling = went.members.was;
          slots = passed_both a b c low slots slots xs ys ys went.slots
              (passed_none b c slots ys (omega (arith, k)) sound stays (faults_same b c same (changes_out completed refl s (members_of b) (members_of c) changes))
              (same_beside (shape_of b).l ((shape_of b).k + 1) b c same) table (λ told. keeps));
          refills = record {
            copied = went.copied ∙ sym (ap (λ (t : Table). used_between t s low slots) table);
            limit = few;
            end = inl (omega (arith, k, whole));
            rest = sym (used_none (table_of c) s slots ((shape_of c).k + 1) (omega (arith, k, whole)));
          };
          kept = λ b there. absurd (let last = is.slots b s slots there in omega (arith, last));
          members =
              let left = left_all (members_of a) (members_of b) (members_of c) s low slots went.slots.sound.paired went.members changes in
              record { member = left.member ∙ sym (all_slots slots); others = left.others };
          most = omega (arith, went.most, calls);
        }

    -- at a slot that couldn't be copied
    pub breaks_off : (a b c : Store R) (low high copies : ℕ) (xs ys : List ℕ) → IsTable (table_of a) → WentOn rack marks s low high copies xs ys a b
        → high ≤ (shape_of b).k + 1 → IsTaken (table_of b) s high → IsUnmarkedAt (table_of b) marks s high → CouldNot rack s b c → HasBrokenOff rack marks s xs ys a c
    breaks_off a b c low high copies xs ys is went within taken unmarked could = record {
      q = went.members.q;
      low = low;
      high = high;
      filling = went.members.was;
      slots = passed_both a b c low high high xs ys ys went.slots (passed_none b c high ys within could.sound could.stays could.faults could.beside could.table (λ told. could.stands));
      at = subst (λ (t : Table). IsTaken t s high) (sym could.table) taken;
      kept = stood_unmarked a b low high xs ys is went.slots unmarked;
      members = falls_broken _ _ _ (members_of a) (members_of b) (members_of c) s low high went.slots.stays.stays.rise.faults went.members
          (could.out went.members.q went.members.was.0 (ap is_filling went.members.left.member)) could.falls;
      most =
          let used = ap (λ (t : Table). used_between t s low high) could.table in
          omega (arith, went.copied, went.most, could.most, used);
    }
