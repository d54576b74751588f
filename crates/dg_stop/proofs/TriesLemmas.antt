-- Tries of a commit, one after another.
use Rattle.std.proofs.Common.{◌≡◌, ◌≢◌, ◌≤◌, ◌<◌, ◌+◌, ◌*◌, ◌%◌, ◌⊎◌, ℕ, zero, suc, Bool, true, false, List, [], ◌∷◌, length, get_or, refl, sym, ◌∙◌, ap, arith, inl, inr, subst}
use Rattle.std.proofs.lemmas.Bool.{false≢true}
use Rattle.std.specs.Prelude.{Option, Some, None, is_some, if◌then◌else◌}
use Rattle.std.proofs.lemmas.List.{get_or_past}
use Rattle.std.specs.List.{Contains}
use Rattle.dg_io.specs.Kept.{Kept}
use Rattle.dg_io.specs.MakesLaws.{makes_both, makes_none, makes_such}
use Rattle.dg_io.specs.declared.outside.Rack.{Ghosts}
use Rattle.dg_model.specs.Causes.{Rose}
use Rattle.dg_stop.proofs.CommitCounts.{TriesCalled, try_again}
use Rattle.dg_stop.proofs.Frames.{itself_pages, told_both_pages}
use Rattle.dg_stop.proofs.OneCommit.{both_at, guarded_only, held_same, lt_or}
use Rattle.dg_stop.proofs.Committing.{same_or_not}
use Rattle.dg_stop.proofs.Ranges.{seen_same}
use Rattle.dg_stop.specs.Anchors.{Holds, IsAnchored, IsHeldBy, Stays}
use Rattle.dg_stop.specs.Behind.{MostCalls, calls_of_try, members_of}
use Rattle.dg_stop.specs.Commits.{AreGuarded, IsFresh}
use Rattle.dg_stop.specs.Layouts.{SamePages, bit_in, spot, table_size}
use Rattle.dg_stop.specs.Phases.{IsFewer, IsServed, LeavesKept, LeavesOnce, LeavesTries, Sized, StandsAfter, TellsKnown, all_kept, bits_in, flag_in, known_at, size_in, view_of}
use Rattle.dg_stop.specs.Reopens.{Reopened}
use Rattle.dg_stop.specs.Stops.{AreOfOne}
use Rattle.dg_stop.specs.Tries.{AreTried, TriesKeep, TriesSpare, count_in}
use Rattle.dg_stop.specs.declared.places.Places.{Places}

-- ---- how many serve

count_heads : (x y : Bool) (a b : List Bool) → (y ≡ true → x ≡ true) → count_in b ≤ count_in a → count_in (y ∷ b) ≤ count_in (x ∷ a)
count_heads true true a b only low = omega (arith, low)
count_heads true false a b only low = omega (arith, low)
count_heads false false a b only low = low
count_heads false true a b only low = absurd (false≢true (only refl))

pub count_le : (a b : List Bool) → length a ≡ length b → ((q : ℕ) → flag_in b q ≡ true → flag_in a q ≡ true) → count_in b ≤ count_in a
count_le [] [] e only = omega arith
count_le [] (y ∷ b) e only = absurd (omega (arith, e))
count_le (x ∷ a) [] e only = absurd (omega (arith, e))
count_le (x ∷ a) (y ∷ b) e only = count_heads x y a b (only 0) (count_le a b (omega (arith, e)) (λ q. only (suc q)))

less_heads : (x y : Bool) (a b : List Bool) → (y ≡ true → x ≡ true) → count_in b < count_in a → count_in (y ∷ b) < count_in (x ∷ a)
less_heads true true a b only low = omega (arith, low)
less_heads true false a b only low = omega (arith, low)
less_heads false false a b only low = low
less_heads false true a b only low = absurd (false≢true (only refl))

less_here : (x y : Bool) (a b : List Bool) → x ≡ true → y ≡ false → count_in b ≤ count_in a → count_in (y ∷ b) < count_in (x ∷ a)
less_here true false a b was isnt low = omega (arith, low)
less_here true true a b was isnt low = absurd (false≢true (sym isnt))
less_here false y a b was isnt low = absurd (false≢true was)

count_less : (a b : List Bool) → length a ≡ length b → ((q : ℕ) → flag_in b q ≡ true → flag_in a q ≡ true) → (q : ℕ) → flag_in a q ≡ true → flag_in b q ≡ false → count_in b < count_in a
count_less [] b e only q was isnt = absurd (false≢true was)
count_less (x ∷ a) [] e only q was isnt = absurd (omega (arith, e))
count_less (x ∷ a) (y ∷ b) e only zero was isnt = less_here x y a b was isnt (count_le a b (omega (arith, e)) (λ r. only (suc r)))
count_less (x ∷ a) (y ∷ b) e only (suc q) was isnt = less_heads x y a b (only 0) (count_less a b (omega (arith, e)) (λ r. only (suc r)) q was isnt)

pub count_fewer : (a b : List Bool) → length a ≡ length b → ((q : ℕ) → flag_in b q ≡ true → flag_in a q ≡ true) → IsFewer a b → count_in b < count_in a
count_fewer a b e only fewer = count_less a b e only fewer.member fewer.was fewer.isnt

most_head : (x : Bool) (a : List Bool) → count_in a ≤ length a → count_in (x ∷ a) ≤ length (x ∷ a)
most_head true a low = omega (arith, low)
most_head false a low = omega (arith, low)

pub count_most : (a : List Bool) → count_in a ≤ length a
count_most [] = omega arith
count_most (x ∷ a) = most_head x a (count_most a)

-- ---- what tries leave

pub tries_none : {S : Type 0} (rack : Ghosts S) (members : List Places) (room : ℕ) (served : List Bool) (old : S) → ((q : ℕ) → flag_in served q ≡ true → Sized rack members room q old)
    → LeavesTries rack members room served served old old
tries_none rack members room served old sized = record {
  made = makes_none rack (IsServed served) old;
  only = λ q on. on;
  cause = λ q is off. absurd (false≢true (sym off ∙ is));
  spared = λ q same. refl;
  sized = sized;
  pages = λ q. itself_pages (table_size (size_in members q) room) (rack.bytes old q);
  tells = λ q told. told;
  steady_on = ((λ h. h), (λ h. h));
}

module _ {S : Type 0} (rack : Ghosts S) (members : List Places) (room : ℕ) (served flags serves : List Bool) (old mid new : S)
    (first : LeavesTries rack members room served flags old mid) (second : LeavesTries rack members room flags serves mid new) where
  rose_by : (q : ℕ) (b : Bool) → flag_in flags q ≡ b → flag_in served q ≡ true → flag_in serves q ≡ false → Rose ((rack.counts old).faults q) ((rack.counts new).faults q)
  rose_by q true is was isnt = subst (λ (n : ℕ). Rose n ((rack.counts new).faults q)) (first.spared q (is ∙ sym was)) (second.cause q is isnt)
  rose_by q false is was isnt = subst (λ (n : ℕ). Rose ((rack.counts old).faults q) n) (sym (second.spared q (isnt ∙ sym is))) (first.cause q was is)

  spared_by : (q : ℕ) (b : Bool) → flag_in flags q ≡ b → flag_in serves q ≡ flag_in served q → (rack.counts new).faults q ≡ (rack.counts old).faults q
  spared_by q true is same = second.spared q (same ∙ first.only q is ∙ sym is) ∙ first.spared q (is ∙ sym (first.only q is))
  spared_by q false is same = by (flag_in served q) refl
    where
      by : (b : Bool) → flag_in served q ≡ b → (rack.counts new).faults q ≡ (rack.counts old).faults q
      by true was = absurd (false≢true (sym is ∙ second.only q (same ∙ was)))
      by false was = second.spared q (same ∙ was ∙ sym is) ∙ first.spared q (is ∙ sym was)

  pub tries_both : LeavesTries rack members room served serves old new
  tries_both = record {
    made = makes_both rack (IsServed served) old mid new first.made (makes_such rack (IsServed flags) (IsServed served)
        (λ call on. record { member = on.member; is = record { on = on.is.on; was = first.only on.member on.is.was } }) mid new second.made);
    only = λ q on. first.only q (second.only q on);
    cause = λ q. rose_by q (flag_in flags q) refl;
    spared = λ q. spared_by q (flag_in flags q) refl;
    sized = second.sized;
    pages = λ q. told_both_pages (table_size (size_in members q) room) (rack.bytes old q) (rack.bytes mid q) (rack.bytes new q) (first.pages q) (second.pages q);
    tells = λ q told. first.tells q (second.tells q told);
    steady_on = ((λ h. second.steady_on.0 (first.steady_on.0 h)), (λ h. first.steady_on.1 (second.steady_on.1 h)));
  }

-- ---- what is kept

-- who stands between two tries
stand_now : (ℕ → Bool) → List Bool → List Bool → ℕ → Bool
stand_now stand served flags q = if flag_in flags q then true else (if flag_in served q then false else stand q)

now_by : (f v s : Bool) → (if f then true else (if v then false else s)) ≡ true → (f ≡ true) ⊎ ((s ≡ true) × (v ≡ false))
now_by true v s is = inl refl
now_by false true s is = absurd (false≢true is)
now_by false false s is = inr (is, refl)

now_flag : (f v s : Bool) → f ≡ true → (if f then true else (if v then false else s)) ≡ true
now_flag true v s is = refl
now_flag false v s is = absurd (false≢true is)

now_stood : (f v s : Bool) → v ≡ false → s ≡ true → (if f then true else (if v then false else s)) ≡ true
now_stood true v s out is = refl
now_stood false true s out is = absurd (false≢true (sym out))
now_stood false false s out is = is

not_flag : (f v : Bool) → (f ≡ true → v ≡ true) → v ≡ false → f ≡ false
not_flag true v only is = absurd (false≢true (sym is ∙ only refl))
not_flag false v only is = refl

-- pages that stand as they were show the same bytes
pub view_same : (members : List Places) (room q : ℕ) (b a : List ℕ) → SamePages (table_size (size_in members q) room) b a → view_of members room q a ≡ view_of members room q b
view_same members room q b a same =
    seen_same (table_size (size_in members q) room) (size_in members q) (bit_in (bits_in members q)) (bit_in (bits_in members q)) a b
    (λ o low. same.bytes (spot (table_size (size_in members q) room) (bit_in (bits_in members q)) o) (omega arith))

some_if : (b : Bool) (x y : List ℕ) → (b ≡ true → x ≡ y) → (if b then Some x else None) ≡ (if b then Some y else None)
some_if true x y same = ap (λ (l : List ℕ). Some l) (same refl)
some_if false x y same = refl

-- what is kept stays, whoever of those that stood stands on
anchored_less : (stand on : ℕ → Bool) (all : ℕ → List ℕ) (kept : Kept) → ((q : ℕ) → on q ≡ true → stand q ≡ true) → IsAnchored stand all kept → IsAnchored on all kept
anchored_less stand on all kept only was c last =
    let held : IsHeldBy stand all c kept = was c last in
    record { lead = held.lead; by = held.by; one = held.one; on = λ q at. held.on q (only q at) }

stays_none : (stand on : ℕ → Bool) (all : ℕ → List ℕ) (kept : Kept) → ((q : ℕ) → on q ≡ true → stand q ≡ true) → Reopened all kept → Stays stand on all all kept
stays_none stand on all kept only was = record { reopened = was; anchored = anchored_less stand on all kept only }

stays_then : (stand now on : ℕ → Bool) (before middle after : ℕ → List ℕ) (kept : Kept) → Stays stand now before middle kept → Stays now on middle after kept → Stays stand on before after kept
stays_then stand now on before middle after kept first second = record { reopened = second.reopened; anchored = λ old. second.anchored (first.anchored old) }

only_after : (stand on : ℕ → Bool) (served serves : List Bool) → ((q : ℕ) → flag_in serves q ≡ true → stand q ≡ true) → StandsAfter stand served serves on → (q : ℕ) → on q ≡ true → stand q ≡ true
only_after stand on served serves serve_stand after q at = elim (after q at) [ inl is ↦ serve_stand q is | inr out ↦ out.0 ]

pub spare_none : {S : Type 0} (rack : Ghosts S) (members : List Places) (room last top : ℕ) (served : List Bool) (old : S) → TriesSpare rack members room last top top served served old old
spare_none rack members room last top served old steady known stand told stand_known serve_stand places guarded = (
  λ on after. guarded_only stand on (size_in members) room places last top (known_at known (rack.bytes old)) guarded (only_after stand on served served serve_stand after),
  λ low fresh kept was on after. (stays_none stand on (known_at known (rack.bytes old)) kept (only_after stand on served served serve_stand after) was, fresh),
)

abbrev number_of : Option ℕ → ℕ
number_of None = 0
number_of (Some n) = n

module _ {S : Type 0} (rack : Ghosts S) (members : List Places) (room : ℕ) (extra : List ℕ) (last top mid_top s : ℕ) (served flags serves : List Bool) (old mid new : S)
    (before : top ≤ mid_top) (above : mid_top < s) (apart : s % 2 ≢ last % 2)
    (first : LeavesTries rack members room served flags old mid) (spare : TriesSpare rack members room last top mid_top served flags old mid) where
  module _ (second : LeavesTries rack members room flags serves mid new) (steady : rack.steady old)
      (known stand : ℕ → Bool) (told : TellsKnown known (rack.bytes new)) (stand_known : (q : ℕ) → stand q ≡ true → known q ≡ true) (serve_stand : (q : ℕ) → flag_in served q ≡ true → stand q ≡ true)
      (places : ℕ → ℕ → Bool) (guarded : AreGuarded stand (size_in members) room places last top (known_at known (rack.bytes old))) where
    told_mid : TellsKnown known (rack.bytes mid)
    told_mid q at = second.tells q (told q at)

    now : ℕ → Bool
    now q = stand_now stand served flags q

    now_after : StandsAfter stand served flags now
    unfolding now stand_now
    now_after q at = now_by (flag_in flags q) (flag_in served q) (stand q) at

    now_known : (q : ℕ) → now q ≡ true → known q ≡ true
    now_known q at = elim (now_after q at) [ inl flag ↦ stand_known q (serve_stand q (first.only q flag)) | inr out ↦ stand_known q out.0 ]

    flag_now : (q : ℕ) → flag_in flags q ≡ true → now q ≡ true
    unfolding now stand_now
    flag_now q is = now_flag (flag_in flags q) (flag_in served q) (stand q) is

    after_now : (on : ℕ → Bool) → StandsAfter stand served serves on → StandsAfter now flags serves on
    unfolding now stand_now
    after_now on after q at = elim (after q at) [
      | inl is ↦ inl is
      | inr out ↦ inr (now_stood (flag_in flags q) (flag_in served q) (stand q) out.1 out.0, not_flag (flag_in flags q) (flag_in served q) (first.only q) out.1)
    ]

    guarded_mid : AreGuarded now (size_in members) room places last mid_top (known_at known (rack.bytes mid))
    guarded_mid = (spare steady known stand told_mid stand_known serve_stand places guarded).0 now now_after

    kept_mid : last ≤ top → IsFresh (known_at known (rack.bytes old)) last → (kept : Kept) → Reopened (known_at known (rack.bytes old)) kept
        → Stays stand now (known_at known (rack.bytes old)) (known_at known (rack.bytes mid)) kept × IsFresh (known_at known (rack.bytes mid)) last
    kept_mid low fresh kept was = (spare steady known stand told_mid stand_known serve_stand places guarded).1 low fresh kept was now now_after

    -- the bytes of a member that served when the try began are those that it had at first
    views : (q : ℕ) → flag_in flags q ≡ true → view_of members room q (known_at known (rack.bytes mid) q) ≡ view_of members room q (known_at known (rack.bytes old) q)
    views q is = view_same members room q (known_at known (rack.bytes old) q) (known_at known (rack.bytes mid) q)
        (both_at known q (stand_known q (serve_stand q (first.only q is))) (SamePages (table_size (size_in members q) room)) (rack.bytes old q) (rack.bytes mid q) (first.pages q) (told_mid q))

    as_first : (on : ℕ → Bool) (all : ℕ → List ℕ) → Holds on all (all_kept members room extra flags (known_at known (rack.bytes mid)))
        → Holds on all (all_kept members room extra flags (known_at known (rack.bytes old)))
    as_first on all was = held_same on all (all_kept members room extra flags (known_at known (rack.bytes mid))) (all_kept members room extra flags (known_at known (rack.bytes old)))
        (λ q. some_if (flag_in flags q) (view_of members room q (known_at known (rack.bytes old) q)) (view_of members room q (known_at known (rack.bytes mid) q)) (λ is. sym (views q is))) refl was

  -- a try that wasn't made
  pub spare_both : (once : LeavesOnce rack members room false flags serves mid new) → LeavesKept rack members s room extra false flags serves mid new → TriesSpare rack members room last top s served serves old new
  spare_both once kept_by steady known stand told stand_known serve_stand places guarded =
      let all = kept_by (first.steady_on.0 steady) known (now once.tries steady known stand told stand_known serve_stand places guarded) told
      (now_known once.tries steady known stand told stand_known serve_stand places guarded) (flag_now once.tries steady known stand told stand_known serve_stand places guarded) places last mid_top
      (guarded_mid once.tries steady known stand told stand_known serve_stand places guarded) above apart in (
        λ on after. (all.0 on (after_now once.tries steady known stand told stand_known serve_stand places guarded on after)).untried refl,
        λ low fresh kept was on after.
            let was_mid = kept_mid once.tries steady known stand told stand_known serve_stand places guarded low fresh kept was in
            let done = all.1 was_mid.1 kept was_mid.0.reopened on (after_now once.tries steady known stand told stand_known serve_stand places guarded on after) in (
              stays_then stand (now once.tries steady known stand told stand_known serve_stand places guarded) on (known_at known (rack.bytes old)) (known_at known (rack.bytes mid)) (known_at known (rack.bytes new)) kept
                  was_mid.0 (done.untried refl),
              done.fresh (omega (arith, low, before, above)),
            ),
      )

  commit_of : (once : LeavesOnce rack members room true flags serves mid new) → (steady : rack.steady old) → (known stand : ℕ → Bool) → (told : TellsKnown known (rack.bytes new))
      → (stand_known : (q : ℕ) → stand q ≡ true → known q ≡ true) → (serve_stand : (q : ℕ) → flag_in served q ≡ true → stand q ≡ true) → (places : ℕ → ℕ → Bool)
      → (guarded : AreGuarded stand (size_in members) room places last top (known_at known (rack.bytes old)))
      → (on : ℕ → Bool) → Holds on (known_at known (rack.bytes new)) (all_kept members room extra flags (known_at known (rack.bytes mid)))
      → Holds on (known_at known (rack.bytes new)) (all_kept members room extra flags (known_at known (rack.bytes old)))
  commit_of once steady known stand told stand_known serve_stand places guarded on was =
      as_first once.tries steady known stand told stand_known serve_stand places guarded on (known_at known (rack.bytes new)) was

  -- a try that was made
  pub keep_both : (answer : Option ℕ) → ((t : ℕ) → answer ≡ Some t → (t ≡ s) × ((q : ℕ) × (flag_in serves q ≡ true))) → (answer ≡ None → (q : ℕ) → flag_in serves q ≡ false)
      → (once : LeavesOnce rack members room true flags serves mid new) → LeavesKept rack members s room extra true flags serves mid new
      → TriesKeep rack members room extra last top s answer flags served serves old new
  keep_both answer some none once kept_by steady known stand told stand_known serve_stand places guarded =
      let all = kept_by (first.steady_on.0 steady) known (now once.tries steady known stand told stand_known serve_stand places guarded) told
      (now_known once.tries steady known stand told stand_known serve_stand places guarded) (flag_now once.tries steady known stand told stand_known serve_stand places guarded) places last mid_top
      (guarded_mid once.tries steady known stand told stand_known serve_stand places guarded) above apart in (
        λ on after.
            let guards = all.0 on (after_now once.tries steady known stand told stand_known serve_stand places guarded on after) in
            record {
              lost = λ is. guards.lost refl (none is);
              made = λ t is.
                  let found = some t is in
                  let done = guards.made refl found.1.0 found.1.1 in
                  subst (λ (x : ℕ). AreGuarded on (size_in members) room (λ r. bit_in (bits_in members r)) x x (known_at known (rack.bytes new)) × IsFresh (known_at known (rack.bytes new)) x
                  × Holds on (known_at known (rack.bytes new)) (all_kept members room extra flags (known_at known (rack.bytes old)))) (sym found.0)
                  (done.0, done.1, commit_of once steady known stand told stand_known serve_stand places guarded on done.2);
              one = λ t q lead is has at.
                  let same : t ≡ s = (some t is).0 in
                  subst (λ (x : ℕ). AreOfOne x lead extra (known_at known (rack.bytes new))) (sym same) (guards.one refl q lead has (at ∙ same));
            },
        λ low fresh kept was on after.
            let was_mid = kept_mid once.tries steady known stand told stand_known serve_stand places guarded low fresh kept was in
            let done = all.1 was_mid.1 kept was_mid.0.reopened on (after_now once.tries steady known stand told stand_known serve_stand places guarded on after) in
            record {
              fresh = done.fresh (omega (arith, low, before, above));
              either = elim done.either [
                | inl is ↦ inl (stays_then stand (now once.tries steady known stand told stand_known serve_stand places guarded) on (known_at known (rack.bytes old)) (known_at known (rack.bytes mid))
                    (known_at known (rack.bytes new)) kept was_mid.0 is)
                | inr is ↦ inr (commit_of once steady known stand told stand_known serve_stand places guarded on is)
              ];
            },
      )

  pub keep_some : (q : ℕ) × (flag_in serves q ≡ true) → (once : LeavesOnce rack members room true flags serves mid new) → LeavesKept rack members s room extra true flags serves mid new
      → TriesKeep rack members room extra last top s (Some s) flags served serves old new
  keep_some found once kept_by = keep_both (Some s) (λ t is. (sym (ap number_of is), found)) (λ is. absurd (false≢true (sym (ap is_some is)))) once kept_by

  pub keep_lost : ((q : ℕ) → flag_in serves q ≡ false) → (once : LeavesOnce rack members room true flags serves mid new) → LeavesKept rack members s room extra true flags serves mid new
      → TriesKeep rack members room extra last top s None flags served serves old new
  keep_lost none once kept_by = keep_both None (λ t is. absurd (false≢true (ap is_some is))) (λ is. none) once kept_by

-- no member serves: nothing more is tried
pub keep_none : {S : Type 0} (rack : Ghosts S) (members : List Places) (room : ℕ) (extra : List ℕ) (last top next : ℕ) (tried served serves : List Bool) (old new : S)
    → TriesSpare rack members room last top next served serves old new → TriesKeep rack members room extra last top next None tried served serves old new
keep_none rack members room extra last top next tried served serves old new spare steady known stand told stand_known serve_stand places guarded =
    let all = spare steady known stand told stand_known serve_stand places guarded in (
      λ on after. record {
        lost = λ is. all.0 on after;
        made = λ s is. absurd (not_some s is);
        one = λ s q lead is. absurd (not_some s is);
      },
      λ low fresh kept was on after. let done = all.1 low fresh kept was on after in record { fresh = done.1; either = inl done.0 },
    )
  where
    not_some : (s : ℕ) → ◌≡◌ {A = Option ℕ} None (Some s) → ⊥
    not_some s is = false≢true (ap is_some is)

-- ---- the loop

-- the next sequence is at most two above the greatest that was seen
pub next_near : (top last r : ℕ) → ((n : ℕ) → top < n → n % 2 ≢ last % 2 → r ≤ n) → r ≤ top + 2
next_near top last r least = elim (same_or_not ((top + 1) % 2) (last % 2)) [
  | inl same ↦ least (top + 2) (omega arith) (λ e. absurd (omega (arith, e, same)))
  | inr other ↦ omega (arith, least (top + 1) (omega arith) other)
]

-- what holds before each try
pub record TriesSoFar {S : Type 0} (rack : Ghosts S) (members : List Places) (room last top : ℕ) (served flags tried : List Bool) (next : ℕ) (old mid : S) : Type 0 where
  pub low : top ≤ next
  pub budget : next + 2 * count_in flags ≤ top + 64
  pub count : length flags ≡ 32
  pub tries : AreTried tried served flags
  pub leaves : LeavesTries rack members room served flags old mid
  pub spare : TriesSpare rack members room last top next served flags old mid
  pub calls : TriesCalled rack served flags old mid

pub so_far_none : {S : Type 0} (rack : Ghosts S) (members : List Places) (room last top : ℕ) (served : List Bool) (old : S) → length served ≡ 32
    → ((q : ℕ) → flag_in served q ≡ true → Sized rack members room q old) → TriesSoFar rack members room last top served served served top old old
so_far_none rack members room last top served old count sized = record {
  low = omega arith;
  budget = omega (arith, count, count_most served);
  count = count;
  tries = record { only = λ q is. is; wider = λ q is. is };
  leaves = tries_none rack members room served old sized;
  spare = spare_none rack members room last top served old;
  calls = omega arith;
}

pub so_far_next : {S : Type 0} (rack : Ghosts S) (members : List Places) (room : ℕ) (extra : List ℕ) (last top next s : ℕ) (served flags tried serves : List Bool) (old mid new : S)
    → TriesSoFar rack members room last top served flags tried next old mid → next < s → s % 2 ≢ last % 2 → s ≤ next + 2 → length serves ≡ 32
    → LeavesOnce rack members room false flags serves mid new → LeavesKept rack members s room extra false flags serves mid new
    → MostCalls rack (calls_of_try false (members_of (flag_in flags))) mid new
    → TriesSoFar rack members room last top served serves flags s old new
so_far_next rack members room extra last top next s served flags tried serves old mid new so above apart near count once kept calls =
    let fewer : count_in serves < count_in flags = count_fewer flags serves (so.count ∙ sym count) once.tries.only (once.fewer refl) in
    record {
      low = omega (arith, so.low, above);
      budget = omega (arith, so.budget, near, fewer);
      count = count;
      tries = record { only = so.leaves.only; wider = once.tries.only };
      leaves = tries_both rack members room served flags serves old mid new so.leaves once.tries;
      calls = try_again rack served flags serves old mid new so.count so.leaves.only once.tries.only (once.fewer refl) so.calls calls;
      spare = spare_both rack members room extra last top next s served flags serves old mid new so.low above apart so.leaves so.spare once kept;
    }

-- a member that serves, and none
default_of : (xs : List Bool) (k : ℕ) → k < length xs → get_or xs k true ≡ get_or xs k false
default_of [] k low = absurd (omega (arith, low))
default_of (x ∷ xs) zero low = refl
default_of (x ∷ xs) (suc k) low = default_of xs k (omega (arith, low))

pub serving_of : (flags : List Bool) → Contains flags true → (q : ℕ) × (flag_in flags q ≡ true)
serving_of flags has = (has.0, sym (default_of flags has.0 has.1) ∙ has.2)

pub none_of : (flags : List Bool) → (Contains flags true → ⊥) → (q : ℕ) → flag_in flags q ≡ false
none_of flags hasnt q = by (flag_in flags q) refl
  where
    by : (b : Bool) → flag_in flags q ≡ b → flag_in flags q ≡ false
    by false is = is
    by true is = elim (lt_or q (length flags)) [
      | inl low ↦ absurd (hasnt (q, low, default_of flags q low ∙ is))
      | inr high ↦ get_or_past flags q false high
    ]

some_head : (x : Bool) (a : List Bool) → x ≡ true → 1 ≤ count_in (x ∷ a)
some_head true a is = omega arith
some_head false a is = absurd (false≢true is)

more_head : (x : Bool) (a : List Bool) → 1 ≤ count_in a → 1 ≤ count_in (x ∷ a)
more_head true a low = omega arith
more_head false a low = low

count_some : (a : List Bool) (q : ℕ) → flag_in a q ≡ true → 1 ≤ count_in a
count_some [] q is = absurd (false≢true is)
count_some (x ∷ a) zero is = some_head x a is
count_some (x ∷ a) (suc q) is = more_head x a (count_some a q is)

pub count_serving : (a : List Bool) → Contains a true → 1 ≤ count_in a
count_serving a has = let found = serving_of a has in count_some a found.0 found.1

-- the sequence of a try is in bounds
pub try_within : (top next count s : ℕ) → next + 2 * count ≤ top + 64 → 1 ≤ count → s ≤ next + 2 → s ≤ top + 64
try_within top next count s budget some near = omega (arith, budget, some, near)
