-- A store without its lost boundaries.
use Rattle.std.proofs.Common.{◌≡◌, ◌≢◌, ◌==◌, ◌↔◌, inl, inr, ℕ, zero, suc, ◌+◌, ◌*◌, ◌-◌, ◌/◌, ◌%◌, ◌^◌, ◌≤◌, ◌<◌, Bool, true, false, List, length, get_or, sym, ◌∙◌, ap, subst, arith}
use Rattle.std.specs.Prelude.{Option, Some, None, IfSome, IsSome, not, if◌then◌else◌}
use Rattle.std.specs.Int.{bit_at}
use Rattle.std.proofs.Math.Nat.{mul-le-mul_right, pow-le-pow_right}
use Rattle.std.proofs.lemmas.Bool.{cases_eq, false≢true}
use Rattle.std.proofs.lemmas.Nat.Bits.{bit_at_above, bit_at_cat_high, bit_at_cat_low}
use Rattle.dg_io.specs.Reduced.{LeavesLeft, places_left}
use Rattle.dg_io.specs.Reduced as racks
use Rattle.dg_io.specs.declared.outside.Rack.{Ghosts}
use Rattle.dg_model.specs.Lives.{left_of}
use Rattle.dg_model.specs.Members.{is_good, is_lost}
use Rattle.dg_model.specs.Regroups.{member_before, members_left, shape_left}
use Rattle.dg_model.specs.Saves.{member_length}
use Rattle.dg_model.specs.States.{StandsFor, has_lost}
use Rattle.dg_model.specs.Tables.{IsTable, Table}
use Rattle.dg_model.specs.declared.members.MemberState.{MemberState}
use Rattle.dg_model.specs.declared.members.MemberState.TheVariants.{Good, Out}
use Rattle.dg_model.specs.declared.shapes.Shape.{Shape}
use Rattle.dg_model.proofs.SiteLists.{same_test}
use Rattle.dg_store.specs.Reduced.{blocks_left, IsReduced, left_in, reduced}
use Rattle.dg_store.specs.Rows.{IsRow, RowStands, members_in}
use Rattle.dg_store.specs.Stores.{IsSound, lost_bits}
use Rattle.dg_store.specs.declared.store.Store.{Store}
use Rattle.dg_store.proofs.Bits.{bits_below}
use Rattle.dg_store.proofs.LeftBlocks.{blocks_stand, none_lost, was_good}
use Rattle.dg_store.proofs.LeftPlaces.{left_agree, left_front, left_rest, left_short}
use Rattle.dg_store.proofs.Sound.{sound_by}

-- ---- bits

bit_here : (b : Bool) (n low : ℕ) → low < 2 ^ n → (bit_at (low + (if b then 2 ^ n else 0)) n == 0) ≡ not b
bit_here true n low below =
    let e : low + 2 ^ n ≡ 1 * 2 ^ n + low = omega arith in
    let none : n - n ≡ 0 = omega arith in
    let bit : bit_at (1 * 2 ^ n + low) n ≡ 1 = bit_at_cat_high 1 n low n below (omega arith) ∙ ap (bit_at 1) none in
    ap (λ (x : ℕ). bit_at x n == 0) e ∙ ap (λ (x : ℕ). x == 0) bit
bit_here false n low below =
    let e : low + 0 ≡ low = omega arith in
    same_test (bit_at (low + 0) n) 0 (ap (λ (x : ℕ). bit_at x n) e ∙ bit_at_above low n n below (omega arith))

bit_low : (b : Bool) (n low s : ℕ) → s < n → bit_at (low + (if b then 2 ^ n else 0)) s ≡ bit_at low s
bit_low true n low s below =
    let e : low + 2 ^ n ≡ 1 * 2 ^ n + low = omega arith in
    ap (λ (x : ℕ). bit_at x s) e ∙ bit_at_cat_low 1 n low s below
bit_low false n low s below = let e : low + 0 ≡ low = omega arith in ap (λ (x : ℕ). bit_at x s) e

-- the bits that aren't set are those of the boundaries that aren't lost
bits_are : (members : ℕ → MemberState) (n s : ℕ) → s < n → (bit_at (lost_bits members n) s == 0) ≡ not (is_lost members s)
bits_are members zero s below = absurd (omega (arith, below))
bits_are members (suc n) s below = elim (cases_eq s n) [
  | inl at ↦ subst (λ (x : ℕ). (bit_at (lost_bits members (suc n)) x == 0) ≡ not (is_lost members x)) (sym at) (bit_here (is_lost members n) n (lost_bits members n) (bits_below members n))
  | inr off ↦ ap (λ (x : ℕ). x == 0) (bit_low (is_lost members n) n (lost_bits members n) s (omega (arith, below, off))) ∙ bits_are members n s (omega (arith, below, off))
]

pub bits_leave : (shape : Shape) (members : ℕ → MemberState) → places_left (lost_bits members shape.b) shape.b ≡ left_of shape members
bits_leave shape members = left_agree (λ s. bit_at (lost_bits members shape.b) s == 0) (λ x. not (is_lost members x)) shape.b (bits_are members shape.b)

-- a rack with more boundaries begins with those that are left
rack_front : (shape : Shape) (members : ℕ → MemberState) (n : ℕ) → shape.b ≤ n → (i : ℕ) → i < length (left_of shape members)
    → (i < length (places_left (lost_bits members shape.b) n)) × (get_or (places_left (lost_bits members shape.b) n) i 0 ≡ get_or (left_of shape members) i 0)
rack_front shape members n wide i within =
    let lost = lost_bits members shape.b in
    let total : shape.b + (n - shape.b) ≡ n = omega (arith, wide) in
    let same = bits_leave shape members in
    let front = left_front (λ s. bit_at lost s == 0) shape.b (n - shape.b) i (subst (λ (l : List ℕ). i < length l) (sym same) within) in
    subst (λ (m : ℕ). (i < length (places_left lost m)) × (get_or (places_left lost m) i 0 ≡ get_or (left_of shape members) i 0)) total
    (front.0, front.1 ∙ ap (λ (l : List ℕ). get_or l i 0) same)

pub rack_rest : (shape : Shape) (members : ℕ → MemberState) (n : ℕ) → shape.b ≤ n
    → length (places_left (lost_bits members shape.b) n) + shape.b ≡ n + length (left_of shape members)
rack_rest shape members n wide =
    let lost = lost_bits members shape.b in
    let total : shape.b + (n - shape.b) ≡ n = omega (arith, wide) in
    let long = left_rest (λ s. bit_at lost s == 0) shape.b (n - shape.b)
    (λ s past. same_test (bit_at lost s) 0 (bit_at_above lost shape.b s (bits_below members shape.b) past)) in
    let all : length (places_left lost (shape.b + (n - shape.b))) ≡ length (places_left lost n) = ap (λ (m : ℕ). length (places_left lost m)) total in
    let same : length (places_left lost shape.b) ≡ length (left_of shape members) = ap length (bits_leave shape members) in
    omega (arith, all, same, long, wide)

pub bits_within : (members : ℕ → MemberState) (b n : ℕ) → b ≤ n → lost_bits members b < 2 ^ n
bits_within members b n wide =
    let more : 2 ^ b ≤ 2 ^ n = pow-le-pow_right {n = 2} (omega arith) {i = b} {j = n} wide in
    omega (arith, bits_below members b, more)

-- ---- racks

module _ {S : Type 0} (rack : Ghosts S) (long left : List ℕ) (front : (i : ℕ) → i < length left → (i < length long) × (get_or long i 0 ≡ get_or left i 0)) where
  member_same : (q : ℕ) → q / 2 < length left → racks.member_before long q ≡ racks.member_before left q
  member_same q below = ap (λ (x : ℕ). 2 * x + q % 2) ((front (q / 2) below).1)

  -- what is said of all boundaries that the rack has left holds of the first of them
  pub leaves_front : (old new : S) → LeavesLeft rack long old new → LeavesLeft rack left old new
  leaves_front old new l = record {
    bytes = λ q below. l.bytes q ((front (q / 2) below).0) ∙ ap (rack.bytes old) (member_same q below);
    faults = λ q below. l.faults q ((front (q / 2) below).0) ∙ ap (rack.counts old).faults (member_same q below);
    stands = λ q below. l.stands q ((front (q / 2) below).0) ∙ ap (rack.stands old) (member_same q below);
    tells = λ q below. subst (λ (p : ℕ). rack.tells old p ↔ rack.tells new q) (member_same q below) (l.tells q ((front (q / 2) below).0));
    calls = l.calls;
    writes = l.writes;
    steady_on = l.steady_on;
    kept = λ kept keeps_it. (let next = l.kept kept keeps_it in (
      next.0,
      record {
        entries = λ q below. next.1.entries q ((front (q / 2) below).0) ∙ ap kept.entries (member_same q below);
        extra = next.1.extra;
      },
      next.2,
    ));
    untold = l.untold;
    out = λ s j below. l.out s j ((front s below).0) ∙ ap (λ (x : ℕ). (rack.disks old).out x j) ((front s below).1);
    disk_faults = λ s j below. l.disk_faults s j ((front s below).0) ∙ ap (λ (x : ℕ). (rack.disks old).faults x j) ((front s below).1);
  }

-- ---- stores

good_out : (m : MemberState) → m ≡ Good → m ≡ Out → ⊥
good_out m good out = false≢true (sym (ap is_good out) ∙ ap is_good good)

shorter : (shape : Shape) (left : List ℕ) → length left ≤ shape.b → member_length 1 (shape_left left shape) ≤ member_length 1 shape
shorter shape left few =
    let five : 5 * length left ≤ 5 * shape.b = omega (arith, few) in
    omega (arith, few, mul-le-mul_right (shape.k + 1) five)

weaker : (small large : ℕ) (told : Option (List ℕ)) → small ≤ large → IfSome told (λ all. large ≤ length all) → IfSome told (λ all. small ≤ length all)
weaker small large None less long = tt
weaker small large (Some all) less long = omega (arith, less, long)

module _ {R : Type 0} (rack : Ghosts R) (told : (s : R) (q : ℕ) → rack.tells s q → rack.stands s q ≡ true → IsSome (rack.bytes s q)) where
  pub reduced_is : (boundaries : R → ℕ) (dropped : R → ℕ → R → Type 0) (old new : Store R) → IsSound rack old → old.map.shape.b ≤ boundaries old.rack
      → new.map ≡ reduced old → IsTable new.map → length new.block.items ≡ length old.block.items → new.given_up.items ≡ old.given_up.items
      → length new.row.items ≡ length (left_in old) → RowStands old.map.shape.l (old.map.shape.k + 1) new.row.items
      → ((q : ℕ) → members_in new.row.items q ≡ members_left (left_in old) (members_in old.row.items) q)
      → LeavesLeft rack (places_left (lost_bits (members_in old.row.items) old.map.shape.b) (boundaries old.rack)) old.rack new.rack
      → dropped old.rack (lost_bits (members_in old.row.items) old.map.shape.b) new.rack
      → boundaries new.rack ≡ length (places_left (lost_bits (members_in old.row.items) old.map.shape.b) (boundaries old.rack))
      → IsReduced rack boundaries dropped old new
  reduced_is boundaries dropped old new sound wide table is_table block given_up count stands members leaves below rest =
      let mine = leaves_front rack (places_left (lost_bits (members_in old.row.items) old.map.shape.b) (boundaries old.rack)) (left_in old)
      (rack_front old.map.shape (members_in old.row.items) (boundaries old.rack) wide) old.rack new.rack leaves in
      let good : (q : ℕ) → members_in new.row.items q ≢ Out → (q / 2 < length (left_in old)) × (members_in old.row.items (member_before (left_in old) q) ≡ Good) =
      λ q called. was_good (left_in old) (members_in old.row.items) q (λ out. called (members q ∙ out)) in
      let in_use : (q : ℕ) → members_in old.row.items q ≡ Good → members_in old.row.items q ≢ Out = λ q is out. good_out (members_in old.row.items q) is out in
      let row : IsRow rack (shape_left (left_in old) old.map.shape) new.row.items new.rack = record {
        count = count;
        stands = stands;
        long = λ q called. (let was = good q called in
            weaker _ _ (rack.bytes new.rack q) (shorter old.map.shape (left_in old) (left_short (λ x. not (is_lost (members_in old.row.items) x)) old.map.shape.b))
            (subst (λ (o : Option (List ℕ)). IfSome o (λ all. member_length 1 old.map.shape ≤ length all)) (sym (mine.bytes q was.0))
            (sound.long (member_before (left_in old) q) (in_use (member_before (left_in old) q) was.1))));
        stand = λ q called. (let was = good q called in
            mine.stands q was.0 ∙ sound.stand (member_before (left_in old) q) (in_use (member_before (left_in old) q) was.1));
      } in
      record {
        sound = sound_by rack told new (shape_left (left_in old) old.map.shape) (ap (λ (t : Table). t.shape) table) is_table row (block ∙ sound.built.block) (given_up ∙ sound.built.given_up);
        table = table;
        members = members;
        none = subst (λ (t : Table). has_lost t.shape (members_in new.row.items) ≡ false) (sym table)
            (none_lost old.map.shape (members_in old.row.items) (members_in new.row.items) members);
        leaves = mine;
        rest = (let fewer : new.map.shape.b ≡ length (left_in old) = ap (λ (t : Table). t.shape.b) table in
            omega (arith, rest, fewer, rack_rest old.map.shape (members_in old.row.items) (boundaries old.rack) wide));
        below = below;
        blocks = λ V st. subst (λ (t : Table). StandsFor t (members_in new.row.items) (rack.bytes new.rack) (blocks_left old.map (members_in old.row.items) V)) (sym table)
            (blocks_stand old.map (members_in old.row.items) (members_in new.row.items) (rack.bytes old.rack) (rack.bytes new.rack) sound.table members mine.bytes V st);
      }
