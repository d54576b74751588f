-- What the calls behind an opening of the seal leave of an array, each by what the opening left and what the call itself left.
use Rattle.std.proofs.Common.{◌≡◌, ◌∙◌, ◌≤◌, ◌+◌, ◌*◌, ◌&&◌, ℕ, suc, Bool, true, false, List, [], ◌∷◌, length, get_or, refl, sym, ap, subst, arith, inl, inr}
use Rattle.std.specs.Prelude.{All, Err, IfOk, None, Ok, OnErr, Option, Result, Some, if◌then◌else◌, is_some, max, nat_lt, not, take}
use Rattle.std.proofs.Math.Seq.{take-length}
use Rattle.std.proofs.lemmas.Bool.{false≢true}
use Rattle.std.specs.List.{list_any}
use Rattle.std.proofs.lemmas.Bool.Decides.{nat_tests}
use Rattle.std.proofs.lemmas.List.Folds.{list_any_at}
use Rattle.dg_hot.specs.Spreads.{HasSpread, HasSpreadSome, Moved, spread_of}
use Rattle.dg_hot.specs.declared.spreads.DiffuseAnswer.{DiffuseAnswer}
use Rattle.dg_hot.specs.declared.spreads.DiffuseAnswer.TheVariants.{Diffused, Lost as DiffuseLost}
use Rattle.dg_io.specs.declared.outside.Rack.{Ghosts}
use Rattle.dg_label.specs.Labels.{is_sealed}
use Rattle.dg_label.specs.Seals.{HasGood, KeepsArray, OpensSeal}
use Rattle.dg_label.specs.declared.labels.KeptLabel.{KeptLabel}
use Rattle.dg_model.proofs.MemberLaws.{falls_both, falls_same}
use Rattle.dg_model.specs.Changes.{LosesSites}
use Rattle.dg_model.specs.Copies.{Spread, lacks_copy, spread_by, spread_over}
use Rattle.dg_model.specs.Homes.{home_of}
use Rattle.dg_model.specs.Members.{is_filling, is_lost, partner_of}
use Rattle.dg_model.specs.Sites.{IsSited}
use Rattle.dg_model.specs.States.{has_lost}
use Rattle.dg_model.specs.Tables.{Table, sites_in}
use Rattle.dg_model.specs.declared.homes.Home.{Home}
use Rattle.dg_model.specs.declared.members.MemberState.{MemberState}
use Rattle.dg_model.specs.declared.shapes.Shape.{Shape}
use Rattle.dg_model.specs.declared.wants.Want.{Want}
use Rattle.dg_move.specs.Answers.{MovesTo}
use Rattle.dg_move.specs.Stores.{MovesOn, rounds_in}
use Rattle.dg_move.specs.declared.tends.TendAnswer.{TendAnswer}
use Rattle.dg_move.specs.declared.tends.TendAnswer.TheVariants.{Lost as TendLost, Tended}
use Rattle.dg_rebuild.specs.Answers.{HasNoFilling}
use Rattle.dg_store.specs.Answers.{IsAllLost, IsStored, IsUnchanged, SameWritten}
use Rattle.dg_store.specs.Leaves.{CallsAtMost, Leaves}
use Rattle.dg_store.specs.ReadLaws.{stays_both, stays_none}
use Rattle.dg_store.specs.Stores.{IsSound, members_of, rack_of, shape_of, table_of}
use Rattle.dg_store.specs.declared.store.StoreWrite.{StoreWrite}
use Rattle.dg_store.specs.declared.store.StoreWrite.TheVariants.{AllLost, Stored}
use Rattle.dg_store.specs.declared.store.Store.{Store}
use Rattle.dg_volume.proofs.ArrayLaws.{moved_by, moved_then, opened_array}
use Rattle.dg_volume.proofs.FaultLaws.{array_outs, array_tells, falls_out, keeps_outs, keeps_tells, outs_both, stays_by, tells_both}
use Rattle.dg_volume.proofs.LabelLaws.{good_whole, opened_opens, relabels_none, relabels_opened, relabels_then, relabels_where, slots_kept}
use Rattle.dg_volume.specs.Planned.{HasMovedArray}
use Rattle.dg_volume.specs.Refills.{HasFilling, OpensRefill}
use Rattle.dg_volume.specs.Seals.{EndsMoves, FallsOn, HasStoredBlock, OpensWhere, Relabels, opening_calls}
use Rattle.dg_volume.specs.declared.refills.RebuildAnswer.{RebuildAnswer}
use Rattle.dg_volume.specs.declared.refills.RebuildAnswer.TheVariants.{Failed as RebuildFailed, Lost as RebuildLost}

-- ---- copies of no file

-- where no file lacks one, none gets one
none_spread : (wants : List (Option Want)) (homes : List Home) (recent : List ℕ) (spread : Spread) → All (λ i. lacks_copy homes spread.copies i ≡ false) recent
    → spread_over wants homes recent spread ≡ spread
unfolding spread_over
none_spread wants homes [] spread none = refl
none_spread wants homes (i ∷ more) spread none =
    ap (λ (x : Spread). spread_over wants homes more x) (by_file (home_of homes i) (home_of spread.copies i) (none 0 0 (omega arith)))
    ∙ none_spread wants homes more spread (λ k d within. none (suc k) d (omega (arith, within)))
  where
    by_file : (home copy : Option ℕ) → (is_some home && not (is_some copy)) ≡ false → spread_by wants i home copy spread ≡ spread
    by_file None copy none = refl
    by_file (Some s) (Some t) none = refl
    by_file (Some s) None none = absurd (false≢true (sym none))

-- where none passes, each fails
pub none_of : {X : Type 0} (p : X → Bool) (xs : List X) → list_any p xs ≡ false → All (λ x. p x ≡ false) xs
none_of p xs none k d low = by_test (p (get_or xs k d)) refl
  where
    by_test : (b : Bool) → p (get_or xs k d) ≡ b → b ≡ false
    by_test true is = absurd (false≢true (sym none ∙ list_any_at p xs k d low is))
    by_test false is = refl

module _ {R : Type 0} (rack : Ghosts R) where
  -- ---- openings

  pub keeps_none : (a : Store R) → IsSound rack a → KeepsArray rack a a
  keeps_none a sound = record {
    sound = sound;
    stays = stays_none rack a;
    idle = λ q out. refl;
    fell = λ q rose. absurd (omega (arith, rose));
    table = refl;
    falls = falls_same (rack.counts (rack_of a)).faults (rack.counts (rack_of a)).faults (members_of a);
    stands = λ V held. held;
  }

  pub where_opened : (a m : Store R) (before after : Option KeptLabel) → OpensSeal rack a m before after → OpensWhere rack true a m before after
  where_opened a m before after h = record { array = h.array; labeled = h.labeled; opens = λ is. h; quiet = λ is. absurd (false≢true (sym is)) }

  pub where_none : (a : Store R) (label : Option KeptLabel) → IsSound rack a → OpensWhere rack false a a label label
  where_none a label sound = record { array = keeps_none a sound; labeled = λ line labeled. labeled; opens = λ is. absurd (false≢true is); quiet = λ is. (refl, refl) }

  good_in : (a : Store R) → IsSound rack a → has_lost (shape_of a) (members_of a) ≡ false → HasGood a
  good_in a sound whole = let shape = sound.table.shape in let some = shape.least_boundaries in good_whole rack a (omega (arith, some)) whole

  -- ---- a write

  pub falls_behind : (a m c : Store R) → KeepsArray rack a m → Leaves rack m c → FallsOn rack a c
  falls_behind a m c first second = record {
    sound = second.sound;
    stays = stays_both rack a m c first.stays (stays_by rack m c second.keeps);
    falls =
        falls_both (rack.counts (rack_of a)).faults (rack.counts (rack_of m)).faults (rack.counts (rack_of c)).faults (members_of a) (members_of m) (members_of c)
        first.stays.stays.rise.faults second.keeps.stays.rise.faults first.falls second.keeps.falls;
    faults =
        tells_both rack a m c first.stays.shape
        (falls_out (rack.counts (rack_of m)).faults (rack.counts (rack_of c)).faults (members_of m) (members_of c) second.keeps.falls)
        (array_tells rack a m first) (keeps_tells rack m c second.keeps);
    outs =
        outs_both rack a m c (falls_out (rack.counts (rack_of a)).faults (rack.counts (rack_of m)).faults (members_of a) (members_of m) first.falls)
        (array_outs rack a m first) (keeps_outs rack m c second.keeps);
  }

  pub stored_behind : {E : Type 0} (a m c : Store R) (b : ℕ) (value : List ℕ) (result : Result StoreWrite E) → KeepsArray rack a m
      → IfOk result (λ answer. answer ≡ Stored → IsStored rack b value m c) → IfOk result (λ answer. answer ≡ Stored → HasStoredBlock rack b value a c)
  stored_behind a m c b value (Ok answer) first h = λ is.
      let stored = h is in
      record {
        sited = subst (λ (t : Table). IsSited t b (table_of c)) first.table stored.sited;
        live = stored.live;
        sets = λ V held. stored.sets V (first.stands V held);
      }
  stored_behind a m c b value (Err e) first h = tt

  pub lost_behind : {E : Type 0} (a m c : Store R) (b : ℕ) (result : Result StoreWrite E) → KeepsArray rack a m
      → IfOk result (λ answer. answer ≡ AllLost → IsAllLost rack b m c) → IfOk result (λ answer. answer ≡ AllLost → IsAllLost rack b a c)
  lost_behind a m c b (Ok answer) first h = λ is.
      let all = h is in
      record {
        lost = subst (λ (t : Table). LosesSites t b (members_of c)) first.table all.lost;
        table = all.table ∙ first.table;
        stands = λ V held. all.stands V (first.stands V held);
      }
  lost_behind a m c b (Err e) first h = tt

  pub unchanged_behind : {E : Type 0} (a m c : Store R) (result : Result StoreWrite E) → KeepsArray rack a m → OnErr result (IsUnchanged rack m c) → OnErr result (IsUnchanged rack a c)
  unchanged_behind a m c (Ok answer) first h = tt
  unchanged_behind a m c (Err e) first h = record {
    written = subst (λ (t : Table). SameWritten t (table_of c)) first.table h.written;
    stands = λ V held. h.stands V (first.stands V held);
  }

  calls_by : (sealed : Bool) (was mid now members own : ℕ) → (sealed ≡ false → mid ≡ was) → mid ≤ was + members → now ≤ mid + own → now ≤ was + ((if sealed then members else 0) + own)
  calls_by true was mid now members own quiet most more = omega (arith, most, more)
  calls_by false was mid now members own quiet most more = let same = quiet refl in omega (arith, same, more)

  pub calls_behind : (a m c : Store R) (before after : Option KeptLabel) (b : ℕ) → OpensSeal rack a m before after → CallsAtMost rack m c (2 * max 1 (length (sites_in (table_of m) b)))
      → CallsAtMost rack a c (opening_calls before (2 * (shape_of a).b) + 2 * max 1 (length (sites_in (table_of a) b)))
  calls_behind a m c before after b opening most =
      calls_by (is_sealed before) (rack.counts (rack_of a)).calls (rack.counts (rack_of m)).calls (rack.counts (rack_of c)).calls (2 * (shape_of a).b) (2 * max 1 (length (sites_in (table_of a) b)))
      (λ open_now. ap (λ (x : Store R). (rack.counts (rack_of x)).calls) (opening.quiet open_now)) opening.most
      (subst (λ (t : Table). CallsAtMost rack m c (2 * max 1 (length (sites_in t b)))) opening.array.table most)

  -- of an opening that was made in each case
  pub labels_behind : (line : Shape) (a m c : Store R) (before after : Option KeptLabel) → IsSound rack a → has_lost (shape_of a) (members_of a) ≡ false → OpensSeal rack a m before after → Leaves rack m c
      → Relabels rack line a c before after
  labels_behind line a m c before after sound whole opening left =
      let good = good_in a sound whole in
      relabels_then rack line a m c before after (relabels_opened rack line a m before after good opening) (slots_kept rack a m c left.keeps)
      (λ closed. absurd (false≢true (sym closed ∙ opened_opens rack line a m before after good opening)))

  pub labels_opened : (line : Shape) (a m : Store R) (before after : Option KeptLabel) → IsSound rack a → has_lost (shape_of a) (members_of a) ≡ false → OpensSeal rack a m before after → Relabels rack line a m before after
  labels_opened line a m before after sound whole opening = relabels_opened rack line a m before after (good_in a sound whole) opening

  -- ---- moves

  pub moved_behind : (targets : ℕ → ℕ → Bool) (a m c : Store R) → KeepsArray rack a m → MovesOn rack targets m c → HasMovedArray rack a c
  moved_behind targets a m c first second = moved_then rack a m c (opened_array rack a m first) (moved_by rack targets m c second)

  pub written_behind : (a m c : Store R) → KeepsArray rack a m → SameWritten (table_of m) (table_of c) → SameWritten (table_of a) (table_of c)
  written_behind a m c first written = subst (λ (t : Table). SameWritten t (table_of c)) first.table written

  pub same_written : (a m : Store R) → KeepsArray rack a m → SameWritten (table_of a) (table_of m)
  same_written a m first = subst (λ (t : Table). SameWritten (table_of a) t) (sym first.table) (λ b. refl)

  -- the label where moves were behind an opening, which was made where something was copied
  pub labels_moved : (line : Shape) (targets : ℕ → ℕ → Bool) (limit : ℕ) (writes : Bool) (a m c : Store R) (before after : Option KeptLabel) → IsSound rack a
      → has_lost (shape_of a) (members_of a) ≡ false → OpensWhere rack writes a m before after → (writes ≡ false → rounds_in targets limit (table_of m) ≡ 0)
      → Leaves rack m c → (rounds_in targets limit (table_of m) ≡ 0 → rack_of c ≡ rack_of m) → Relabels rack line a c before after
  labels_moved line targets limit writes a m c before after sound whole opening none left still =
      let first = relabels_where rack line writes a m before after (λ is. good_in a sound whole) opening in
      relabels_then rack line a m c before after first.0 (slots_kept rack a m c left.keeps)
      (λ closed. ap (λ (r : R). (rack.counts r).writes) (still (none (sym first.1 ∙ closed))))

  pub labels_lost : (line : Shape) (writes : Bool) (a m : Store R) (before after : Option KeptLabel) → IsSound rack a → has_lost (shape_of a) (members_of a) ≡ false
      → OpensWhere rack writes a m before after → Relabels rack line a m before after
  labels_lost line writes a m before after sound whole opening =
      let first = relabels_where rack line writes a m before after (λ is. good_in a sound whole) opening in first.0

  pub ends_behind : {E : Type 0} (targets : ℕ → ℕ → Bool) (limit : ℕ) (a m c : Store R) (result : Result TendAnswer E) → KeepsArray rack a m
      → IfOk result (λ answer. MovesTo targets limit (table_of m) (table_of c) (members_of c) answer) → IfOk result (λ answer. EndsMoves targets limit (table_of a) (table_of c) (members_of c) answer)
  ends_behind targets limit a m c (Ok (Tended n l)) first h = subst (λ (t : Table). EndsMoves targets limit t (table_of c) (members_of c) (Tended n l)) first.table h
  ends_behind targets limit a m c (Ok (TendLost s)) first h = subst (λ (t : Table). EndsMoves targets limit t (table_of c) (members_of c) (TendLost s)) first.table (inr h)
  ends_behind targets limit a m c (Err e) first h = tt

  -- in the opening, before any action
  pub ends_at_once : (targets : ℕ → ℕ → Bool) (limit s : ℕ) (a m : Store R) → KeepsArray rack a m → EndsMoves targets limit (table_of a) (table_of m) (members_of m) (TendLost s)
  ends_at_once targets limit s a m first = inl first.table

  -- ---- copies of files

  pub spread_behind : (a m c : Store R) → KeepsArray rack a m → Moved rack m c → HasMovedArray rack a c
  spread_behind a m c first second = moved_then rack a m c (opened_array rack a m first) (record {
    sound = second.leaves.sound;
    stays = stays_by rack m c second.leaves.keeps;
    falls = second.leaves.keeps.falls;
    faults = keeps_tells rack m c second.leaves.keeps;
    outs = keeps_outs rack m c second.leaves.keeps;
    stands = second.stands;
  })

  pub has_behind : (wants : List (Option Want)) (homes : List Home) (recent : List ℕ) (count gained : ℕ) (before after : List Home) (a m c : Store R) → KeepsArray rack a m
      → HasSpread wants homes recent count gained before after m c → HasSpread wants homes recent count gained before after a c
  has_behind wants homes recent count gained before after a m c first h = record {
    spread = h.spread ∙ ap (λ (t : Table). spread_over wants homes (take count recent) (record { table = t; copies = before })) first.table;
    gained_is = h.gained_is;
  }

  pub diffused_behind : {E : Type 0} (wants : List (Option Want)) (homes : List Home) (recent : List ℕ) (before after : List Home) (a m c : Store R) (result : Result DiffuseAnswer E) → KeepsArray rack a m
      → IfOk result (λ answer. (n : ℕ) → answer ≡ Diffused n → HasSpread wants homes recent (length recent) n before after m c)
      → IfOk result (λ answer. (n : ℕ) → answer ≡ Diffused n → HasSpread wants homes recent (length recent) n before after a c)
  diffused_behind wants homes recent before after a m c (Ok answer) first h = λ n is. has_behind wants homes recent (length recent) n before after a m c first (h n is)
  diffused_behind wants homes recent before after a m c (Err e) first h = tt

  pub cut_behind : {E : Type 0} (wants : List (Option Want)) (homes : List Home) (recent : List ℕ) (before after : List Home) (a m c : Store R) (result : Result DiffuseAnswer E) → KeepsArray rack a m
      → IfOk result (λ answer. (s : ℕ) → answer ≡ DiffuseLost s → HasSpreadSome wants homes recent before after m c)
      → IfOk result (λ answer. (s : ℕ) → answer ≡ DiffuseLost s → HasSpreadSome wants homes recent before after a c)
  cut_behind wants homes recent before after a m c (Ok answer) first h = λ s is.
      let some = h s is in
      record { count = some.count; gained = some.gained; has = has_behind wants homes recent some.count some.gained before after a m c first some.has }
  cut_behind wants homes recent before after a m c (Err e) first h = tt

  -- nothing was copied
  pub none_copied : (wants : List (Option Want)) (homes : List Home) (recent : List ℕ) (copies : List Home) (a : Store R) → All (λ i. lacks_copy homes copies i ≡ false) recent
      → HasSpread wants homes recent (length recent) 0 copies copies a a
  none_copied wants homes recent copies a none = record {
    spread = sym (ap (λ (files : List ℕ). spread_over wants homes files (spread_of a copies)) (take-length recent) ∙ none_spread wants homes recent (spread_of a copies) none);
    gained_is = omega arith;
  }

  pub none_cut : (wants : List (Option Want)) (homes : List Home) (recent : List ℕ) (copies : List Home) (a m : Store R) → KeepsArray rack a m
      → HasSpreadSome wants homes recent copies copies a m
  unfolding spread_over
  none_cut wants homes recent copies a m first = record {
    count = 0;
    gained = 0;
    has = record { spread = ap (λ (t : Table). record { table = t; copies = copies }) first.table; gained_is = omega arith };
  }

  -- ---- the opening before a refill

  -- no member is refilled: nothing was done
  pub opens_none : (line : Shape) (a : Store R) (label : Option KeptLabel) (s limit : ℕ) → IsSound rack a → HasNoFilling (members_of a) s
      → OpensRefill rack line s limit a a label label None
  opens_none line a label s limit sound none = record {
    array = keeps_none a sound;
    labels = relabels_none rack line a label;
    quiet = λ closed. inr none;
    same = λ ended still. (refl, refl);
    was = tt;
    none = tt;
    lost = tt;
    fell = tt;
  }

  no_copies : (limit : ℕ) → nat_lt 0 limit ≡ false → limit ≡ 0
  no_copies limit none = grind (arith, nat_tests)

  some_filling : (members : ℕ → MemberState) (s : ℕ) → HasFilling members s → HasNoFilling members s → ⊥
  some_filling members s was none = false≢true (sym (none was.q was.refilled.0) ∙ ap is_filling was.refilled.1)

  good_filling : (a : Store R) (s : ℕ) → IsSound rack a → HasFilling (members_of a) s → HasGood a
  good_filling a s sound was = (partner_of was.q, sound.paired was.q (ap is_filling was.refilled.1))

  -- one is refilled, behind the opening too
  pub opens_filling : (line : Shape) (a m : Store R) (before after : Option KeptLabel) (s limit : ℕ) → IsSound rack a → HasFilling (members_of a) s
      → OpensWhere rack (nat_lt 0 limit) a m before after → HasFilling (members_of m) s → OpensRefill rack line s limit a m before after None
  opens_filling line a m before after s limit sound was opening still =
      let first = relabels_where rack line (nat_lt 0 limit) a m before after (λ is. good_filling a s sound was) opening in
      record {
        array = opening.array;
        labels = first.0;
        quiet = λ closed. inl (no_copies limit (sym first.1 ∙ closed));
        same = λ ended none. absurd (some_filling (members_of m) s still none);
        was = tt;
        none = tt;
        lost = tt;
        fell = tt;
      }

  -- one was refilled, and isn't behind it
  pub opens_gone : (line : Shape) (a m : Store R) (before after : Option KeptLabel) (s limit : ℕ) (answer : RebuildAnswer) → IsSound rack a
      → HasFilling (members_of a) s → OpensWhere rack (nat_lt 0 limit) a m before after → HasNoFilling (members_of m) s
      → (is_lost (members_of m) s ≡ true → answer ≡ RebuildLost s) → (is_lost (members_of m) s ≡ false → answer ≡ RebuildFailed)
      → OpensRefill rack line s limit a m before after (Some answer)
  opens_gone line a m before after s limit answer sound was opening gone lost fell =
      let first = relabels_where rack line (nat_lt 0 limit) a m before after (λ is. good_filling a s sound was) opening in
      record {
        array = opening.array;
        labels = first.0;
        quiet = λ closed. inr gone;
        same = λ ended none. absurd (not_none answer ended);
        was = was;
        none = gone;
        lost = lost;
        fell = fell;
      }
    where
      not_none : (answer : RebuildAnswer) → Some answer ≡ None → ⊥
      not_none answer e = cc e
