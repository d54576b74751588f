-- Calls of a double rack leave what each of them leaves.
use Rattle.std.specs.Prelude.{◌≡◌, ◌≤◌, ◌⊎◌, ◌&&◌, ◌++◌, ℕ, Bool, true, false, List, [], Option, Some, None, IsSome, refl, slice_index}
use Rattle.std.proofs.Common.{◌∙◌, arith, inl, inr}
use Rattle.std.proofs.lemmas.Bool.{cases_lt, false≢true}
use Rattle.dg_io.specs.MadeLaws.{after_both, after_none, each_back, each_front, same_both, same_told}
use Rattle.dg_io.specs.RackCalls.{Each, IsNotOn, RackCall}
use Rattle.dg_io.specs.RackWords.{After}
use Rattle.dg_io.specs.declared.outside.Rack.{Ghosts}
use Rattle.dg_model.specs.Causes.{Rose}
use Rattle.dg_model.specs.States.{Counts, CountsRise}
use Rattle.dg_stop.specs.Doubles.{Double, DoubleMade, IsLookOrPlainOn, LeavesAlone, double_bytes, double_counts, double_disks, double_keeps, double_name, double_stands, double_steady, double_tells, double_words, fell_in, seen_in, stands_in}
use Rattle.dg_stop.specs.declared.memories.Memory.{Memory}

pub seen_some : (m : Memory) (q : ℕ) (x : Option (List ℕ)) → IsSome (seen_in m q x) → IsSome x
seen_some m q None is = is
seen_some m q (Some all) is = refl

pub some_seen : (m : Memory) (q : ℕ) (x : Option (List ℕ)) → IsSome x → IsSome (seen_in m q x)
some_seen m q None is = is
some_seen m q (Some all) is = refl

pub both_of : (a b : Bool) → a && b ≡ true → (a ≡ true) × (b ≡ true)
both_of true b is = (refl, is)
both_of false b is = absurd (false≢true is)

pub double_tells_told : {R : Type 0} (bytes : R → ℕ → Option (List ℕ)) (tells : R → ℕ → Type 0) → ((s : R) (q : ℕ) → IsSome (bytes s q) → tells s q)
    → (s : Double R) (q : ℕ) → IsSome (seen_in s.memory q (bytes s.rack q)) → tells s.rack q
double_tells_told bytes tells law s q told = law s.rack q (seen_some s.memory q (bytes s.rack q) told)

pub double_told : {R : Type 0} (bytes : R → ℕ → Option (List ℕ)) (stands : R → ℕ → Bool) (tells : R → ℕ → Type 0) → ((s : R) (q : ℕ) → tells s q → stands s q ≡ true → IsSome (bytes s q))
    → (s : Double R) (q : ℕ) → tells s.rack q → (stands_in s.memory q && stands s.rack q) ≡ true → IsSome (seen_in s.memory q (bytes s.rack q))
double_told bytes stands tells law s q told stand = some_seen s.memory q (bytes s.rack q) (law s.rack q told (both_of (stands_in s.memory q) (stands s.rack q) stand).1)

rose_then : (a b c : ℕ) → Rose a b → b ≤ c → Rose a c
rose_then a b c rose later = omega (arith, rose, later)

then_rose : (a b c : ℕ) → a ≤ b → Rose b c → Rose a c
then_rose a b c later rose = omega (arith, rose, later)

rise_both : (a b c : Counts) → CountsRise a b → CountsRise b c → CountsRise a c
rise_both a b c first second = record {
  faults = λ q. omega (arith, first.faults q, second.faults q);
  calls = omega (arith, first.calls, second.calls);
  writes = omega (arith, first.writes, second.writes);
}

-- a member that is left alone behind
module _ {S : Type 0} (rack : Ghosts S) (q : ℕ) where
  pub alone_none : (a : S) → LeavesAlone rack q a a
  alone_none a = record { bytes = same_told (rack.bytes a q); faults = refl; stands = refl }

  pub alone_both : (a b c : S) → LeavesAlone rack q a b → LeavesAlone rack q b c → LeavesAlone rack q a c
  alone_both a b c first second = record {
    bytes = same_both (rack.bytes a q) (rack.bytes b q) (rack.bytes c q) first.bytes second.bytes;
    faults = second.faults ∙ first.faults;
    stands = second.stands ∙ first.stands;
  }

  -- none of the calls was on it
  pub alone_after : (calls : List RackCall) (a b : S) → After rack calls a b → Each (IsNotOn q) calls → LeavesAlone rack q a b
  alone_after calls a b after each = record { bytes = after.other_bytes q each; faults = after.other_faults q each; stands = after.others_stand q each }

module _ {R : Type 0} (rack : Ghosts R) where
  pub double_none : (s : Double R) → DoubleMade rack s [] s
  double_none s = record {
    after = after_none (double_name rack) (double_bytes rack) (double_counts rack) (double_stands rack) (double_steady rack) (double_tells rack) (double_keeps rack) (double_disks rack) s;
    behind = record { faults = λ q. omega arith; calls = omega arith; writes = omega arith };
    cause = λ q tells each rose. absurd (omega (arith, rose));
    looked = λ q tells each rose. absurd (omega (arith, rose));
    fell = λ q tells each fell. inr fell;
    alone = λ q each. (alone_none rack q s.rack, refl);
    room = refl;
    known = λ q is. inl is;
    standing = λ stand. stand;
  }

  pub double_both : (a b c : Double R) (x y : List RackCall) → DoubleMade rack a x b → DoubleMade rack b y c → DoubleMade rack a (x ++ y) c
  double_both a b c x y first second = record {
    after = after_both (double_name rack) (double_bytes rack) (double_counts rack) (double_stands rack) (double_steady rack) (double_tells rack) (double_keeps rack) (double_disks rack) a b c x y
        first.after second.after;
    behind = rise_both (rack.counts a.rack) (rack.counts b.rack) (rack.counts c.rack) first.behind second.behind;
    cause = λ q tells each rose. elim (cases_lt (slice_index a.tally.faults q) (slice_index b.tally.faults q)) [
      | inl early ↦ rose_then _ _ _ (first.cause q (second.after.told_before q tells) (each_front _ x y each) early) (second.behind.faults q)
      | inr late ↦ then_rose _ _ _ (first.behind.faults q) (second.cause q tells (each_back _ x y each) (omega (arith, rose, late)))
    ];
    looked = λ q tells each rose. elim (cases_lt (slice_index a.tally.faults q) (slice_index b.tally.faults q)) [
      | inl early ↦ then_or q (first.looked q (second.after.told_before q tells) (each_front _ x y each) early)
      | inr late ↦ or_fell q tells (each_front _ x y each) (second.looked q tells (each_back _ x y each) (omega (arith, rose, late)))
    ];
    fell = λ q tells each fell. or_fell q tells (each_front _ x y each) (second.fell q tells (each_back _ x y each) fell);
    alone = λ q each.
        let front = first.alone q (each_front _ x y each) in
        let back = second.alone q (each_back _ x y each) in
        (alone_both rack q a.rack b.rack c.rack front.0 back.0, back.1 ∙ front.1);
    room = second.room ∙ first.room;
    known = λ q is. elim (first.known q is) [
      | inl still ↦ elim (second.known q still) [
        | inl on ↦ inl on
        | inr late ↦ inr (then_rose _ _ _ (first.after.rise.faults q) late)
      ]
      | inr early ↦ inr (rose_then _ _ _ early (second.after.rise.faults q))
    ];
    standing = λ stand. second.standing (first.standing stand);
  } where
    -- the count behind rose, or the member had fallen before
    then_or : (q : ℕ) → Rose ((rack.counts a.rack).faults q) ((rack.counts b.rack).faults q) ⊎ (fell_in a.memory q ≡ true)
        → Rose ((rack.counts a.rack).faults q) ((rack.counts c.rack).faults q) ⊎ (fell_in a.memory q ≡ true)
    then_or q (inl early) = inl (rose_then _ _ _ early (second.behind.faults q))
    then_or q (inr was) = inr was

    or_fell : (q : ℕ) → rack.tells c.rack q → Each (IsLookOrPlainOn q) x → Rose ((rack.counts b.rack).faults q) ((rack.counts c.rack).faults q) ⊎ (fell_in b.memory q ≡ true)
        → Rose ((rack.counts a.rack).faults q) ((rack.counts c.rack).faults q) ⊎ (fell_in a.memory q ≡ true)
    or_fell q tells front (inl late) = inl (then_rose _ _ _ (first.behind.faults q) late)
    or_fell q tells front (inr mid) = then_or q (first.fell q (second.after.told_before q tells) front mid)

  pub double_after : (a b : Double R) (calls : List RackCall) → DoubleMade rack a calls b → After (double_words rack) calls a b
  double_after a b calls made = made.after
