-- Turns of a pass over the members.
use Rattle.std.proofs.Common.{◌≡◌, ◌≢◌, ◌+◌, ◌*◌, ◌↔◌, ℕ, Bool, true, false, List, refl, sym, ◌∙◌, ap, arith, inl, inr, subst}
use Rattle.std.proofs.lemmas.Bool.{false≢true}
use Rattle.std.specs.Prelude.{Option, Some, None, IfSome}
use Rattle.dg_io.specs.Told.{Told, IsSame, StillTold}
use Rattle.dg_io.specs.declared.outside.Rack.{Ghosts}
use Rattle.dg_io.specs.Makes.{Makes}
use Rattle.dg_io.specs.MakesLaws.{makes_both, makes_none, makes_such}
use Rattle.dg_model.specs.Causes.{Rose}
use Rattle.dg_stop.proofs.CommitCounts.{prepare_calls}
use Rattle.dg_stop.proofs.Committing.{same_or_not}
use Rattle.dg_stop.proofs.Frames.{itself_pages, told_both_pages, told_same_pages}
use Rattle.dg_stop.proofs.MadeLemmas.{as_served}
use Rattle.std.specs.Prelude.{Result, Ok, Err, OnOk, OnErr, is_err, length, slice_get}
use Rattle.dg_stop.specs.Behind.{MostCalls, one_if}
use Rattle.dg_stop.specs.Headers.{Header}
use Rattle.dg_stop.specs.Layouts.{SamePages, bit_in, double_size, seen, table_size}
use Rattle.dg_stop.specs.Commits.{AreBelow, IsNamed, IsNamedOrNone, IsOpenTo, IsPlaced, Prepares}
use Rattle.dg_stop.specs.Serving.{Serves}
use Rattle.dg_stop.specs.Phases.{IsOnServed, IsServed, LeavesOthers, Reaches, Sized, SoFar, PassedBelow, bits_in, bits_of_held, flag_in, size_in, size_of}
use Rattle.dg_stop.specs.declared.places.Places.{Places}

pub told_right : (f : List ℕ → List ℕ → Type 0) (x y z : Option (List ℕ)) → Told f x y → Told IsSame y z → Told f x z
told_right f x y None p q = tt
told_right f x None (Some c) p q = absurd q
told_right f None (Some b) (Some c) p q = absurd p
told_right f (Some a) (Some b) (Some c) p q = subst (λ (l : List ℕ). f a l) (sym q) p

pub told_left : (f : List ℕ → List ℕ → Type 0) (x y z : Option (List ℕ)) → Told IsSame x y → Told f y z → Told f x z
told_left f x y None p q = tt
told_left f x None (Some c) p q = absurd q
told_left f None (Some b) (Some c) p q = absurd p
told_left f (Some a) (Some b) (Some c) p q = subst (λ (l : List ℕ). f l c) p q

long_on : (P : List ℕ → Type 0) (x y : Option (List ℕ)) → IfSome x P → Told IsSame x y → IfSome y P
long_on P x None h same = tt
long_on P None (Some b) h same = absurd same
long_on P (Some a) (Some b) h same = subst P (sym same) h

-- a member in its own turn, and in the turn of another
module _ {S : Type 0} (rack : Ghosts S) (t q : ℕ) (served serves : Bool) (old mid new : S) where
  pub reach_left : (rack.counts mid).faults q ≡ (rack.counts old).faults q → Told IsSame (rack.bytes old q) (rack.bytes mid q)
      → Reaches rack t q served serves mid new → Reaches rack t q served serves old new
  reach_left faults same own = record {
    cause = λ is off. subst (λ (n : ℕ). Rose n ((rack.counts new).faults q)) faults (own.cause is off);
    spared = λ is. own.spared is ∙ faults;
    pages = told_both_pages t (rack.bytes old q) (rack.bytes mid q) (rack.bytes new q) (told_same_pages t (rack.bytes old q) (rack.bytes mid q) same) own.pages;
  }

  pub reach_right : (rack.counts new).faults q ≡ (rack.counts mid).faults q → Told IsSame (rack.bytes mid q) (rack.bytes new q)
      → Reaches rack t q served serves old mid → Reaches rack t q served serves old new
  reach_right faults same far = record {
    cause = λ is off. subst (λ (n : ℕ). Rose ((rack.counts old).faults q) n) (sym faults) (far.cause is off);
    spared = λ is. faults ∙ far.spared is;
    pages = told_both_pages t (rack.bytes old q) (rack.bytes mid q) (rack.bytes new q) far.pages (told_same_pages t (rack.bytes mid q) (rack.bytes new q) same);
  }

pub told_itself : (x : Option (List ℕ)) → Told IsSame x x
told_itself None = tt
told_itself (Some l) = refl

pub reach_none : {S : Type 0} (rack : Ghosts S) (t q : ℕ) (flag : Bool) (now : S) → Reaches rack t q flag flag now now
reach_none rack t q flag now = record {
  cause = λ is off. absurd (false≢true (sym off ∙ is));
  spared = λ is. refl;
  pages = itself_pages t (rack.bytes now q);
}

-- the calls of a turn, after those of the turns before
pub made_turn : {S : Type 0} (rack : Ghosts S) (n : ℕ) (first : List Bool) (flag : Bool) (old mid new : S) → flag ≡ flag_in first n → Makes rack (IsServed first) old mid
    → Makes rack (IsOnServed n flag) mid new → Makes rack (IsServed first) old new
made_turn rack n first flag old mid new same made own = makes_both rack (IsServed first) old mid new made
    (makes_such rack (IsOnServed n (flag_in first n)) (IsServed first) (λ call on. record { member = n; is = on }) mid new (as_served rack n flag (flag_in first n) same mid new own))

module _ {S : Type 0} (rack : Ghosts S) (members : List Places) where
  pub sized_on : (room q : ℕ) (mid new : S) → (rack.stands mid q ≡ true → rack.stands new q ≡ true) → Told IsSame (rack.bytes mid q) (rack.bytes new q)
      → Sized rack members room q mid → Sized rack members room q new
  sized_on room q mid new stand same sized = record {
    there = sized.there;
    stands = stand sized.stands;
    small = sized.small;
    bits = sized.bits;
    long = long_on _ (rack.bytes mid q) (rack.bytes new q) sized.long same;
  }

  -- a member that was passed, in a turn of another
  pub passed_on : (s room : ℕ) (extra : List ℕ) (q : ℕ) (served serves later : Bool) (old mid new : S) → later ≡ serves
      → (rack.stands mid q ≡ true → rack.stands new q ≡ true) → Told IsSame (rack.bytes mid q) (rack.bytes new q) → (rack.steady mid ↔ rack.steady new)
      → StillTold (rack.bytes mid) (rack.bytes new) → (rack.counts new).faults q ≡ (rack.counts mid).faults q
      → SoFar rack members s room extra q served serves old mid → SoFar rack members s room extra q served later old new
  passed_on s room extra q served serves later old mid new flag stand same steady tells faults far = subst (λ (b : Bool). SoFar rack members s room extra q served b old new) (sym flag) (record {
    only = far.only;
    sized = λ is. sized_on room q mid new stand same (far.sized is);
    idle = λ is. told_right IsSame (rack.bytes old q) (rack.bytes mid q) (rack.bytes new q) (far.idle is) same;
    prepares = λ is on p. told_right _ (rack.bytes old q) (rack.bytes mid q) (rack.bytes new q) (far.prepares is on p) same;
    named = λ is. told_right _ (rack.bytes old q) (rack.bytes mid q) (rack.bytes new q) (far.named is) same;
    placed = λ is. told_right _ (rack.bytes old q) (rack.bytes mid q) (rack.bytes new q) (far.placed is) same;
    stopped = λ is on off. told_right _ (rack.bytes old q) (rack.bytes mid q) (rack.bytes new q) (far.stopped is on off) same;
    steady_on = ((λ h. steady.0 (far.steady_on.0 h)), (λ h. far.steady_on.1 (steady.1 h)));
    tells = λ r h. far.tells r (tells r h);
    reach = reach_right rack (table_size (size_in members q) room) q served serves old mid new faults same far.reach;
  })

  -- a member in its own turn
  pub passes : (s room : ℕ) (extra : List ℕ) (q : ℕ) (served flag serves : Bool) (old mid new : S) → flag ≡ served
      → Told IsSame (rack.bytes old q) (rack.bytes mid q) → (rack.steady old ↔ rack.steady mid) → StillTold (rack.bytes old) (rack.bytes mid)
      → (rack.counts mid).faults q ≡ (rack.counts old).faults q → SoFar rack members s room extra q flag serves mid new → SoFar rack members s room extra q served serves old new
  passes s room extra q served flag serves old mid new was same steady tells faults far0 =
      let far : SoFar rack members s room extra q served serves mid new = subst (λ (b : Bool). SoFar rack members s room extra q b serves mid new) was far0 in
      record {
        only = far.only;
        sized = far.sized;
        idle = λ is. told_left IsSame (rack.bytes old q) (rack.bytes mid q) (rack.bytes new q) same (far.idle is);
        prepares = λ is on p. told_left _ (rack.bytes old q) (rack.bytes mid q) (rack.bytes new q) same (far.prepares (steady.0 is) on p);
        named = λ is. told_left _ (rack.bytes old q) (rack.bytes mid q) (rack.bytes new q) same (far.named is);
        placed = λ is. told_left _ (rack.bytes old q) (rack.bytes mid q) (rack.bytes new q) same (far.placed is);
        stopped = λ is on off. told_left _ (rack.bytes old q) (rack.bytes mid q) (rack.bytes new q) same (far.stopped (steady.0 is) on off);
        steady_on = ((λ h. far.steady_on.0 (steady.0 h)), (λ h. steady.1 (far.steady_on.1 h)));
        tells = λ r h. tells r (far.tells r h);
        reach = reach_left rack (table_size (size_in members q) room) q served serves old mid new faults same far.reach;
      }

  -- one turn
  pub turn : (s room : ℕ) (extra : List ℕ) (n : ℕ) (first now next : List Bool) (old mid new : S)
      → PassedBelow rack members s room extra n first now old mid
      → Makes rack (IsOnServed n (flag_in now n)) mid new → MostCalls rack (3 * one_if (flag_in now n)) mid new
      → SoFar rack members s room extra n (flag_in now n) (flag_in next n) mid new → LeavesOthers rack n now next mid new
      → PassedBelow rack members s room extra (n + 1) first next old new
  turn s room extra n first now next old mid new so made calls own others = record {
    calls = prepare_calls rack first (flag_in now n) n old mid new (so.rest n (omega arith)).flag so.calls calls;
    made = made_turn rack n first (flag_in now n) old mid new (so.rest n (omega arith)).flag so.made made;
    steady_on = ((λ h. own.steady_on.0 (so.steady_on.0 h)), (λ h. so.steady_on.1 (own.steady_on.1 h)));
    tells = λ r h. so.tells r (own.tells r h);
    below = λ q low. elim (same_or_not q n) [
      | inl same ↦ subst (λ (x : ℕ). SoFar rack members s room extra x (flag_in first x) (flag_in next x) old new) (sym same)
          (passes s room extra n (flag_in first n) (flag_in now n) (flag_in next n) old mid new (so.rest n (omega arith)).flag (so.rest n (omega arith)).bytes so.steady_on so.tells
          (so.rest n (omega arith)).faults own)
      | inr other ↦ passed_on s room extra q (flag_in first q) (flag_in now q) (flag_in next q) old mid new (others.flags q other) (others.stand q other) (others.bytes q other) own.steady_on own.tells
          (others.faults q other) (so.below q (omega (arith, low, other)))
    ];
    rest = λ q high.
        let other : q ≢ n = λ e. absurd (omega (arith, e, high)) in
        let was = so.rest q (omega (arith, high)) in
        record {
          flag = others.flags q other ∙ was.flag;
          bytes = told_right IsSame (rack.bytes old q) (rack.bytes mid q) (rack.bytes new q) was.bytes (others.bytes q other);
          faults = others.faults q other ∙ was.faults;
          sized = λ is. sized_on room q mid new (others.stand q other) (others.bytes q other) (was.sized is);
        };
  }

  -- no turn yet
  pub passed_none : (s room : ℕ) (extra : List ℕ) (first : List Bool) (old : S) → ((q : ℕ) → flag_in first q ≡ true → Sized rack members room q old)
      → PassedBelow rack members s room extra 0 first first old old
  passed_none s room extra first old sized = record {
    steady_on = ((λ h. h), (λ h. h));
    tells = λ r h. h;
    calls = omega arith;
    made = makes_none rack (IsServed first) old;
    below = λ q low. absurd (omega (arith, low));
    rest = λ q high. record { flag = refl; bytes = told_itself (rack.bytes old q); faults = refl; sized = sized q };
  }

-- the header of these numbers
abbrev header_with : (s room q size : ℕ) (extra : List ℕ) → Header
header_with s room q size extra = record { sequence = s; committed = false; member = q; size = size; room = room; extra = length extra }

-- the member served, and the call was done
pub own_done : {S T E : Type 0} (rack : Ghosts S) (members : List Places) (s room q : ℕ) (extra : List ℕ) (held : Places) → slice_get members q ≡ Some held
    → (bits : List ℕ) → bits ≡ held.bits.items → (old new : S) (r : Result T E) → is_err r ≡ false → Serves rack q r old new
    → Told (SamePages (table_size held.size room)) (rack.bytes old q) (rack.bytes new q)
    → (rack.steady old → (p : ℕ) → Told (λ b a. IsOpenTo p q (header_with s room q held.size extra) b → Prepares p s q b a) (rack.bytes old q) (rack.bytes new q))
    → OnOk r (Told (λ b a. AreBelow s q b → IsNamed q (header_with s room q held.size extra) extra (seen (table_size held.size room) (bit_in bits) held.size b) a) (rack.bytes old q) (rack.bytes new q))
    → OnOk r (Told (λ b a. IsPlaced (header_with s room q held.size extra) (bit_in bits) a) (rack.bytes old q) (rack.bytes new q))
    → OnOk r (IfSome (rack.bytes new q) (λ all. length all ≡ double_size held.size room))
    → Sized rack members room q old → SoFar rack members s room extra q true true old new
own_done rack members s room q extra held got bits bits_are old new (Err e) ok served pages prepares done placed long sized = absurd (false≢true (sym ok))
own_done rack members s room q extra held got bits bits_are old new (Ok t) ok served pages prepares done placed long sized =
    let size_is : held.size ≡ size_in members q = sym (ap size_of got) in
    let names_are : bits ≡ bits_in members q = bits_are ∙ sym (ap bits_of_held got) in
    record {
      only = λ is. refl;
      sized = λ is. record {
        there = sized.there;
        stands = served.stands_on sized.stands;
        small = sized.small;
        bits = sized.bits;
        long = subst (λ (n : ℕ). IfSome (rack.bytes new q) (λ all. length all ≡ double_size n room)) size_is long;
      };
      idle = λ is. absurd (false≢true (sym is));
      prepares = λ steady is p. subst (λ (n : ℕ). Told (λ b a. IsOpenTo p q (header_with s room q n extra) b → Prepares p s q b a) (rack.bytes old q) (rack.bytes new q)) size_is (prepares steady p);
      named = λ is. subst (λ (n : ℕ). Told (λ b a. AreBelow s q b → IsNamed q (header_with s room q n extra) extra (seen (table_size n room) (bit_in (bits_in members q)) n b) a) (rack.bytes old q) (rack.bytes new q)) size_is
          (subst (λ (l : List ℕ). Told (λ b a. AreBelow s q b → IsNamed q (header_with s room q held.size extra) extra (seen (table_size held.size room) (bit_in l) held.size b) a) (rack.bytes old q) (rack.bytes new q)) names_are done);
      placed = λ is. subst (λ (n : ℕ). Told (λ b a. IsPlaced (header_with s room q n extra) (bit_in (bits_in members q)) a) (rack.bytes old q) (rack.bytes new q)) size_is
          (subst (λ (l : List ℕ). Told (λ b a. IsPlaced (header_with s room q held.size extra) (bit_in l) a) (rack.bytes old q) (rack.bytes new q)) names_are placed);
      stopped = λ steady is off. absurd (false≢true (sym off));
      steady_on = served.steady_on;
      tells = served.tells;
      reach = record {
        cause = λ is off. absurd (false≢true (sym off));
        spared = λ is. served.spared;
        pages = subst (λ (n : ℕ). Told (SamePages (table_size n room)) (rack.bytes old q) (rack.bytes new q)) size_is pages;
      };
    }

-- the member served, and the call failed
pub own_failed : {S T E : Type 0} (rack : Ghosts S) (members : List Places) (s room q : ℕ) (extra : List ℕ) (held : Places) → slice_get members q ≡ Some held
    → (bits : List ℕ) → bits ≡ held.bits.items → (old new : S) (r : Result T E) → is_err r ≡ true → Serves rack q r old new
    → Told (SamePages (table_size held.size room)) (rack.bytes old q) (rack.bytes new q)
    → (rack.steady old → (p : ℕ) → Told (λ b a. IsOpenTo p q (header_with s room q held.size extra) b → Prepares p s q b a) (rack.bytes old q) (rack.bytes new q))
    → OnErr r (rack.steady old → Told (λ b a. AreBelow s q b → IsNamedOrNone q (header_with s room q held.size extra) extra (seen (table_size held.size room) (bit_in bits) held.size b) a) (rack.bytes old q) (rack.bytes new q))
    → (serves : Bool) → serves ≡ false → SoFar rack members s room extra q true serves old new
own_failed rack members s room q extra held got bits bits_are old new (Ok t) fails served pages prepares stopped serves none = absurd (false≢true fails)
own_failed rack members s room q extra held got bits bits_are old new (Err e) fails served pages prepares stopped serves none =
    let size_is : held.size ≡ size_in members q = sym (ap size_of got) in
    let names_are : bits ≡ bits_in members q = bits_are ∙ sym (ap bits_of_held got) in
    record {
      only = λ is. absurd (false≢true (sym none ∙ is));
      sized = λ is. absurd (false≢true (sym none ∙ is));
      idle = λ is. absurd (false≢true (sym is));
      prepares = λ steady is p. subst (λ (n : ℕ). Told (λ b a. IsOpenTo p q (header_with s room q n extra) b → Prepares p s q b a) (rack.bytes old q) (rack.bytes new q)) size_is (prepares steady p);
      named = λ is. absurd (false≢true (sym none ∙ is));
      placed = λ is. absurd (false≢true (sym none ∙ is));
      stopped = λ steady is off. subst (λ (n : ℕ). Told (λ b a. AreBelow s q b → IsNamedOrNone q (header_with s room q n extra) extra (seen (table_size n room) (bit_in (bits_in members q)) n b) a) (rack.bytes old q) (rack.bytes new q)) size_is
          (subst (λ (l : List ℕ). Told (λ b a. AreBelow s q b → IsNamedOrNone q (header_with s room q held.size extra) extra (seen (table_size held.size room) (bit_in l) held.size b) a) (rack.bytes old q) (rack.bytes new q)) names_are (stopped steady));
      steady_on = served.steady_on;
      tells = served.tells;
      reach = record {
        cause = λ is off. served.cause;
        spared = λ is. absurd (false≢true (sym none ∙ is));
        pages = subst (λ (n : ℕ). Told (SamePages (table_size n room)) (rack.bytes old q) (rack.bytes new q)) size_is pages;
      };
    }

-- it didn't serve
pub own_idle : {S : Type 0} (rack : Ghosts S) (members : List Places) (s room q : ℕ) (extra : List ℕ) (now : S) (flag : Bool) → flag ≡ false → SoFar rack members s room extra q flag flag now now
own_idle rack members s room q extra now flag none = record {
  only = λ is. is;
  sized = λ is. absurd (false≢true (sym none ∙ is));
  idle = λ is. told_itself (rack.bytes now q);
  prepares = λ steady is p. absurd (false≢true (sym none ∙ is));
  named = λ is. absurd (false≢true (sym none ∙ is));
  placed = λ is. absurd (false≢true (sym none ∙ is));
  stopped = λ steady is off. absurd (false≢true (sym off ∙ is));
  steady_on = ((λ h. h), (λ h. h));
  tells = λ r h. h;
  reach = reach_none rack (table_size (size_in members q) room) q flag now;
}
