-- Turns of the second pass.
use Rattle.std.proofs.Common.{◌≡◌, ◌≢◌, ◌+◌, ◌↔◌, ℕ, Bool, true, false, List, refl, sym, ◌∙◌, ap, arith, inl, inr, subst}
use Rattle.std.proofs.lemmas.Bool.{false≢true}
use Rattle.std.specs.Prelude.{Option, Some, None, IfSome, Result, Ok, Err, OnOk, OnErr, is_err, length, slice_get}
use Rattle.dg_io.specs.Told.{Told, IsSame, StillTold, Torn}
use Rattle.dg_io.specs.RackWords.{Leaves}
use Rattle.dg_io.specs.declared.outside.Rack.{Ghosts}
use Rattle.dg_stop.proofs.CommitCounts.{finish_calls}
use Rattle.dg_stop.proofs.Committing.{same_or_not}
use Rattle.dg_io.specs.Makes.{Makes}
use Rattle.dg_io.specs.MakesLaws.{makes_none}
use Rattle.dg_stop.proofs.Frames.{told_torn_pages}
use Rattle.dg_stop.proofs.PhaseLemmas.{made_turn, reach_left, reach_none, reach_right, sized_on, told_itself, told_left, told_right}
use Rattle.dg_stop.proofs.PreparingTold.{puts_writes}
use Rattle.dg_stop.specs.Behind.{MostCalls, one_if}
use Rattle.dg_stop.specs.Headers.{Header}
use Rattle.dg_stop.specs.Commits.{PutsHeader, WritesHeader, as_committed}
use Rattle.dg_stop.specs.Layouts.{header_place, table_size}
use Rattle.dg_stop.specs.Phases.{Finished, FinishedBelow, IsOnServed, IsServed, LeavesOthers, Sized, flag_in, head_of, size_in, size_of}
use Rattle.dg_stop.specs.declared.places.Places.{Places}

module _ {S : Type 0} (rack : Ghosts S) (members : List Places) where
  pub finished_on : (s room : ℕ) (extra : List ℕ) (q : ℕ) (served serves later : Bool) (old mid new : S) → later ≡ serves
      → (rack.stands mid q ≡ true → rack.stands new q ≡ true) → Told IsSame (rack.bytes mid q) (rack.bytes new q) → (rack.steady mid ↔ rack.steady new)
      → StillTold (rack.bytes mid) (rack.bytes new) → (rack.counts new).faults q ≡ (rack.counts mid).faults q
      → Finished rack members s room extra q served serves old mid → Finished rack members s room extra q served later old new
  finished_on s room extra q served serves later old mid new flag stand same steady tells faults far = subst (λ (b : Bool). Finished rack members s room extra q served b old new) (sym flag) (record {
    only = far.only;
    sized = λ is. sized_on rack members room q mid new stand same (far.sized is);
    idle = λ is. told_right IsSame (rack.bytes old q) (rack.bytes mid q) (rack.bytes new q) (far.idle is) same;
    wrote = λ is on. told_right _ (rack.bytes old q) (rack.bytes mid q) (rack.bytes new q) (far.wrote is on) same;
    done = λ is. told_right _ (rack.bytes old q) (rack.bytes mid q) (rack.bytes new q) (far.done is) same;
    steady_on = ((λ h. steady.0 (far.steady_on.0 h)), (λ h. far.steady_on.1 (steady.1 h)));
    tells = λ r h. far.tells r (tells r h);
    reach = reach_right rack (table_size (size_in members q) room) q served serves old mid new faults same far.reach;
  })

  pub finishes : (s room : ℕ) (extra : List ℕ) (q : ℕ) (served flag serves : Bool) (old mid new : S) → flag ≡ served
      → Told IsSame (rack.bytes old q) (rack.bytes mid q) → (rack.steady old ↔ rack.steady mid) → StillTold (rack.bytes old) (rack.bytes mid)
      → (rack.counts mid).faults q ≡ (rack.counts old).faults q → Finished rack members s room extra q flag serves mid new → Finished rack members s room extra q served serves old new
  finishes s room extra q served flag serves old mid new was same steady tells faults far0 =
      let far : Finished rack members s room extra q served serves mid new = subst (λ (b : Bool). Finished rack members s room extra q b serves mid new) was far0 in
      record {
        only = far.only;
        sized = far.sized;
        idle = λ is. told_left IsSame (rack.bytes old q) (rack.bytes mid q) (rack.bytes new q) same (far.idle is);
        wrote = λ is on. told_left _ (rack.bytes old q) (rack.bytes mid q) (rack.bytes new q) same (far.wrote (steady.0 is) on);
        done = λ is. told_left _ (rack.bytes old q) (rack.bytes mid q) (rack.bytes new q) same (far.done is);
        steady_on = ((λ h. far.steady_on.0 (steady.0 h)), (λ h. steady.1 (far.steady_on.1 h)));
        tells = λ r h. tells r (far.tells r h);
        reach = reach_left rack (table_size (size_in members q) room) q served serves old mid new faults same far.reach;
      }

  pub finish_turn : (s room : ℕ) (extra : List ℕ) (n : ℕ) (first now next : List Bool) (old mid new : S)
      → FinishedBelow rack members s room extra n first now old mid
      → Makes rack (IsOnServed n (flag_in now n)) mid new → MostCalls rack (one_if (flag_in now n)) mid new
      → Finished rack members s room extra n (flag_in now n) (flag_in next n) mid new → LeavesOthers rack n now next mid new
      → FinishedBelow rack members s room extra (n + 1) first next old new
  finish_turn s room extra n first now next old mid new so made calls own others = record {
    calls = finish_calls rack first (flag_in now n) n old mid new (so.rest n (omega arith)).flag so.calls calls;
    made = made_turn rack n first (flag_in now n) old mid new (so.rest n (omega arith)).flag so.made made;
    steady_on = ((λ h. own.steady_on.0 (so.steady_on.0 h)), (λ h. so.steady_on.1 (own.steady_on.1 h)));
    tells = λ r h. so.tells r (own.tells r h);
    below = λ q low. elim (same_or_not q n) [
      | inl same ↦ subst (λ (x : ℕ). Finished rack members s room extra x (flag_in first x) (flag_in next x) old new) (sym same)
          (finishes s room extra n (flag_in first n) (flag_in now n) (flag_in next n) old mid new (so.rest n (omega arith)).flag (so.rest n (omega arith)).bytes so.steady_on so.tells
          (so.rest n (omega arith)).faults own)
      | inr other ↦ finished_on s room extra q (flag_in first q) (flag_in now q) (flag_in next q) old mid new (others.flags q other) (others.stand q other) (others.bytes q other) own.steady_on own.tells
          (others.faults q other) (so.below q (omega (arith, low, other)))
    ];
    rest = λ q high.
        let other : q ≢ n = λ e. absurd (omega (arith, e, high)) in
        let was = so.rest q (omega (arith, high)) in
        record {
          flag = others.flags q other ∙ was.flag;
          bytes = told_right IsSame (rack.bytes old q) (rack.bytes mid q) (rack.bytes new q) was.bytes (others.bytes q other);
          faults = others.faults q other ∙ was.faults;
          sized = λ is. sized_on rack members room q mid new (others.stand q other) (others.bytes q other) (was.sized is);
        };
  }

  -- no turn yet
  pub finished_none : (s room : ℕ) (extra : List ℕ) (first : List Bool) (old : S) → ((q : ℕ) → flag_in first q ≡ true → Sized rack members room q old)
      → FinishedBelow rack members s room extra 0 first first old old
  finished_none s room extra first old sized = record {
    steady_on = ((λ h. h), (λ h. h));
    tells = λ r h. h;
    calls = omega arith;
    made = makes_none rack (IsServed first) old;
    below = λ q low. absurd (omega (arith, low));
    rest = λ q high. record { flag = refl; bytes = told_itself (rack.bytes old q); faults = refl; sized = sized q };
  }

-- a write leaves the length
long_torn : (place n : ℕ) (m : ℕ) (x y : Option (List ℕ)) → IfSome x (λ all. length all ≡ m) → Told (Torn place n) x y → IfSome y (λ all. length all ≡ m)
long_torn place n m x None h torn = tt
long_torn place n m None (Some a) h torn = absurd torn
long_torn place n m (Some b) (Some a) h torn = torn.size ∙ h

abbrev committed_with : (s room q size : ℕ) (extra : List ℕ) → Header
committed_with s room q size extra = record { sequence = s; committed = true; member = q; size = size; room = room; extra = length extra }

pub finish_done : {S T E : Type 0} (rack : Ghosts S) (members : List Places) (s room q : ℕ) (extra : List ℕ) (held : Places) → slice_get members q ≡ Some held
    → (old new : S) (r : Result T E) → is_err r ≡ false → Leaves rack q r old new → Told (Torn (header_place s) 512) (rack.bytes old q) (rack.bytes new q)
    → OnOk r (Told (PutsHeader (committed_with s room q held.size extra)) (rack.bytes old q) (rack.bytes new q))
    → Sized rack members room q old → Finished rack members s room extra q true true old new
finish_done rack members s room q extra held got old new (Err e) ok leaves torn done sized = absurd (false≢true (sym ok))
finish_done rack members s room q extra held got old new (Ok t) ok leaves torn done sized =
    let size_is : held.size ≡ size_in members q = sym (ap size_of got) in
    let put : Told (PutsHeader (as_committed (head_of members s room extra q))) (rack.bytes old q) (rack.bytes new q)
    = subst (λ (n : ℕ). Told (PutsHeader (committed_with s room q n extra)) (rack.bytes old q) (rack.bytes new q)) size_is done in
    record {
      only = λ is. refl;
      sized = λ is. record {
        there = sized.there;
        stands = leaves.stands_on sized.stands;
        small = sized.small;
        bits = sized.bits;
        long = long_torn (header_place s) 512 _ (rack.bytes old q) (rack.bytes new q) sized.long torn;
      };
      idle = λ is. absurd (false≢true (sym is));
      wrote = λ steady is. puts_writes (as_committed (head_of members s room extra q)) (rack.bytes old q) (rack.bytes new q) put;
      done = λ is. put;
      steady_on = leaves.steady_on;
      tells = leaves.tells;
      reach = record {
        cause = λ is off. absurd (false≢true (sym off));
        spared = λ is. leaves.cause.kept;
        pages = told_torn_pages (table_size (size_in members q) room) (header_place s) 512 (rack.bytes old q) (rack.bytes new q) (omega arith) torn;
      };
    }

pub finish_failed : {S T E : Type 0} (rack : Ghosts S) (members : List Places) (s room q : ℕ) (extra : List ℕ) (held : Places) → slice_get members q ≡ Some held
    → (old new : S) (r : Result T E) → is_err r ≡ true → Leaves rack q r old new → Told (Torn (header_place s) 512) (rack.bytes old q) (rack.bytes new q)
    → OnErr r (rack.steady old → Told (WritesHeader (committed_with s room q held.size extra)) (rack.bytes old q) (rack.bytes new q))
    → (serves : Bool) → serves ≡ false → Finished rack members s room extra q true serves old new
finish_failed rack members s room q extra held got old new (Ok t) fails leaves torn stopped serves none = absurd (false≢true fails)
finish_failed rack members s room q extra held got old new (Err e) fails leaves torn stopped serves none =
    let size_is : held.size ≡ size_in members q = sym (ap size_of got) in
    record {
      only = λ is. absurd (false≢true (sym none ∙ is));
      sized = λ is. absurd (false≢true (sym none ∙ is));
      idle = λ is. absurd (false≢true (sym is));
      wrote = λ steady is. subst (λ (n : ℕ). Told (WritesHeader (committed_with s room q n extra)) (rack.bytes old q) (rack.bytes new q)) size_is (stopped steady);
      done = λ is. absurd (false≢true (sym none ∙ is));
      steady_on = leaves.steady_on;
      tells = leaves.tells;
      reach = record {
        cause = λ is off. leaves.cause.failed;
        spared = λ is. absurd (false≢true (sym none ∙ is));
        pages = told_torn_pages (table_size (size_in members q) room) (header_place s) 512 (rack.bytes old q) (rack.bytes new q) (omega arith) torn;
      };
    }

-- it didn't serve
pub finish_idle : {S : Type 0} (rack : Ghosts S) (members : List Places) (s room q : ℕ) (extra : List ℕ) (now : S) (flag : Bool) → flag ≡ false → Finished rack members s room extra q flag flag now now
finish_idle rack members s room q extra now flag none = record {
  only = λ is. is;
  sized = λ is. absurd (false≢true (sym none ∙ is));
  idle = λ is. told_itself (rack.bytes now q);
  wrote = λ steady is. absurd (false≢true (sym none ∙ is));
  done = λ is. absurd (false≢true (sym none ∙ is));
  steady_on = ((λ h. h), (λ h. h));
  tells = λ r h. h;
  reach = reach_none rack (table_size (size_in members q) room) q flag now;
}
