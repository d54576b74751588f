-- The steps of the plan together, and what every plan keeps.
use Rattle.std.proofs.Common.{◌≡◌, ◌<◌, ◌≤◌, ◌^◌, ◌==◌, ◌↔◌, ℕ, Bool, true, false, cond, List, [], ◌∷◌, length, get_or, replicate, inl, inr, refl, sym, ◌∙◌, ap, subst, arith}
use Rattle.std.specs.Prelude.{Option, Some, None, IsSome, Result, Ok, Err, IfOk, IfErr, count_by, is_some, option_to_list}
use Rattle.std.specs.BTreeMap.{BTreeMap, get}
use Rattle.std.specs.Ordering.{nat_cmp}
use Rattle.std.specs.List.{list_any, range_with_len}
use Rattle.std.proofs.lemmas.Bool.{cases_Bool, cases_lt, false≢true}
use Rattle.std.proofs.lemmas.List.{get_or-replicate, get_or_past}
use Rattle.std.proofs.lemmas.List.FromFn.{get_or-range_with_len, length-range_with_len}
use Rattle.dg_model.proofs.SumLaws.{count_same, sum_places, sum_same}
use Rattle.dg_model.specs.Homes.{Ascend, home_of}
use Rattle.dg_model.specs.Moves.{AreTargets, count_upto, sum_upto}
use Rattle.dg_model.specs.Plans.{Placed, Plan, count_of, each_ok, directory_of, place_file, place_in, plan, targets_by, targets_of, then_ok, waiting}
use Rattle.dg_model.specs.Shapes.{IsShape}
use Rattle.dg_model.specs.Sites.{has_site}
use Rattle.dg_model.specs.Tables.{Table, sites_in}
use Rattle.dg_model.specs.Wants.{FitWants, want_of}
use Rattle.dg_model.specs.declared.homes.Home.{Home}
use Rattle.dg_model.specs.declared.parents.Parent.{Parent}
use Rattle.dg_model.specs.declared.shapes.Shape.{Shape}
use Rattle.dg_model.specs.declared.wants.NoRoom.{NoRoom}
use Rattle.dg_model.specs.declared.wants.NoRoom.TheVariants.{Inode, System}
use Rattle.dg_model.specs.declared.wants.Want.{Want}
use Rattle.dg_model.specs.declared.wants.Want.TheVariants.{Kept, File, Stray}
use Rattle.dg_plan.specs.Files.{files_with}
use Rattle.dg_plan.specs.Marks.{IsMarkBy}
use Rattle.dg_plan.specs.Placings.{AreStayed, homes_in, placed_of}
use Rattle.dg_plan.specs.Planned.{IsPlanned, KeepsRules}
use Rattle.dg_plan.specs.Folds.{files_placed, kept_placed, strays_placed}
use Rattle.dg_plan.specs.Steps.{Ends, FilesGo, HasFiles, HasTargets}
use Rattle.dg_plan.specs.Strays.{HasSeats, mark_of}
use Rattle.dg_plan.specs.Targets.{homes_of, wants_of}
use Rattle.dg_plan.specs.declared.placings.Placing.{Placing}
use Rattle.dg_plan.specs.declared.target_lists.Targets.{Targets}
use Rattle.dg_plan.proofs.FileLaws.{home_found}
use Rattle.dg_plan.proofs.HousedLaws.{listed, of_files}
use Rattle.dg_plan.proofs.MarkLaws.{is_set, mark_by, mark_none}
use Rattle.dg_plan.proofs.PlaceLaws.{file_housed, found_some, home_within, listed_housed, placed_low, some_target, stray_seat, target_below}
use Rattle.dg_plan.proofs.TargetLaws.{most_blocks}

-- ---- steps 2 and 3

pub files_by : (wants : List (Option Want)) (parents : List Parent) (homes : List Home) (rooms : List ℕ) (files directories : BTreeMap ℕ ℕ) (stayed : Placing) → files.entries ≡ files_with wants
    → ((i : ℕ) → get nat_cmp directories i ≡ directory_of parents i) → AreStayed files directories rooms homes stayed
    → files_placed wants parents homes rooms ≡ each_ok (place_file wants parents) (waiting wants (placed_of stayed)) (placed_of stayed)
files_by wants parents homes rooms files directories stayed by_file by_directory stays =
    ap (λ (p : Placed). each_ok (place_file wants parents) (waiting wants p) p) (stays wants parents (record { by_file = by_file; by_directory = by_directory })).placed

-- ---- step 4

-- all marks together
pub targets_by_marks : (shape : Shape) (wants : List (Option Want)) (placing : Placing) (rooms seats first marks : List ℕ) (targets : Targets) → length wants ≡ shape.n → first ≡ replicate shape.n 0
    → HasSeats wants placing.rooms.items rooms first seats → length marks ≡ shape.n
    → ((b : ℕ) → b < shape.n → IsMarkBy shape (homes_in placing.homes.entries) b (want_of wants b) (get_or seats b 0) (get_or marks b 0))
    → targets.of ≡ marks → homes_of targets ≡ homes_in placing.homes.entries → ((b : ℕ) → get_or targets.of b 0 < 2 ^ 16) → Ascend (homes_of targets)
    → HasTargets shape wants (placed_of placing) targets
unfolding targets_of
targets_by_marks shape wants placing rooms seats first marks targets count none seated size marked of homes bits ascend = record {
  scattered = seated.scattered;
  rest = seated.placed;
  same_homes = homes;
  same_targets = λ b s.
      ap (λ ms. is_set (get_or ms b 0) s) of
      ∙ (elim (cases_lt b shape.n) [
        | inl within ↦
            mark_by shape (homes_in placing.homes.entries) seated.scattered.places b (want_of wants b) (get_or seats b 0) (get_or marks b 0) (marked b within)
            (seated.marked b ∙ ap (mark_of (place_in seated.scattered.places b)) (ap (λ ms. get_or ms b 0) none ∙ get_or-replicate shape.n b 0 0 within)) s
        | inr past ↦
            ap (λ (n : ℕ). is_set n s) (get_or_past marks b 0 (omega (arith, past, size)))
            ∙ mark_none.bits s
            ∙ sym (ap (λ (w : Option Want). list_any (λ t. t == s) (targets_by shape (record { homes = homes_in placing.homes.entries; strays = seated.scattered.places }) b w)) (get_or_past wants b None (omega (arith, past, count))))
      ]);
  fits = record { size = ap length of ∙ size; bits = bits };
  ascend = ascend;
}

-- ---- the whole

abbrev after_files : List (Option Want) → Placed → Result Plan NoRoom
after_files wants placed = then_ok (strays_placed wants placed.rooms) (λ scattered. Ok (record { homes = placed.homes; strays = scattered.places }))

abbrev after_kept : List (Option Want) → List Parent → List Home → List ℕ → Result Plan NoRoom
after_kept wants parents homes rooms = then_ok (files_placed wants parents homes rooms) (after_files wants)

plan_is : (shape : Shape) (wants : List (Option Want)) (parents : List Parent) (homes : List Home) → plan shape wants parents homes ≡ then_ok (kept_placed shape wants (replicate shape.b shape.k)) (after_kept wants parents homes)
unfolding plan
plan_is shape wants parents homes = refl

module _ (shape : Shape) (wants : List (Option Want)) (parents : List Parent) (homes : List Home) (full : List ℕ) (all : full ≡ replicate shape.b shape.k) where
  pub no_system : kept_placed shape wants full ≡ Err System → plan shape wants parents homes ≡ Err System
  no_system none =
      plan_is shape wants parents homes
      ∙ ap (λ rooms. then_ok (kept_placed shape wants rooms) (after_kept wants parents homes)) (sym all)
      ∙ ap (λ r. then_ok r (after_kept wants parents homes)) none

  module _ (rooms : List ℕ) (kept : kept_placed shape wants full ≡ Ok rooms) where
    from_files : plan shape wants parents homes ≡ after_kept wants parents homes rooms
    from_files =
        plan_is shape wants parents homes
        ∙ ap (λ rooms. then_ok (kept_placed shape wants rooms) (after_kept wants parents homes)) (sym all)
        ∙ ap (λ r. then_ok r (after_kept wants parents homes)) kept

    pub no_inode : (i : ℕ) → files_placed wants parents homes rooms ≡ Err (Inode i) → plan shape wants parents homes ≡ Err (Inode i)
    no_inode i none = from_files ∙ ap (λ r. then_ok r (after_files wants)) none

    module _ (placing : Placing) (files : HasFiles wants parents homes rooms placing) where
      from_rest : plan shape wants parents homes ≡ after_files wants (placed_of placing)
      from_rest = from_files ∙ ap (λ r. then_ok r (after_files wants)) files.placed

      pub no_rest : (bad : NoRoom) → strays_placed wants placing.rooms.items ≡ Err bad → plan shape wants parents homes ≡ Err bad
      no_rest bad none = from_rest ∙ ap (λ r. then_ok r (λ scattered. Ok (record { homes = homes_in placing.homes.entries; strays = scattered.places }))) none

      pub planned : (targets : Targets) → HasTargets shape wants (placed_of placing) targets → IsPlanned shape wants parents homes targets
      planned targets has = record {
        found = record { homes = homes_in placing.homes.entries; strays = has.scattered.places };
        by_plan = from_rest ∙ ap (λ r. then_ok r (λ scattered. Ok (record { homes = homes_in placing.homes.entries; strays = scattered.places }))) has.rest;
        same_homes = has.same_homes;
        same_targets = has.same_targets;
        fits = has.fits;
      }

-- what the files' step answered, by its arm
pub files_found : {wants : List (Option Want)} {parents : List Parent} {homes : List Home} {rooms : List ℕ} {placing : Placing} {r : Result Placing ℕ} → r ≡ Ok placing → FilesGo wants parents homes rooms r → HasFiles wants parents homes rooms placing
files_found is goes = subst (FilesGo _ _ _ _) is goes

pub none_found : (wants : List (Option Want)) (parents : List Parent) (homes : List Home) (rooms : List ℕ) {i : ℕ} {r : Result Placing ℕ} → r ≡ Err i → FilesGo wants parents homes rooms r → files_placed wants parents homes rooms ≡ Err (Inode i)
none_found wants parents homes rooms is goes = subst (FilesGo wants parents homes rooms) is goes

-- homes of placed files are on boundaries
pub homes_low : (shape : Shape) (wants : List (Option Want)) (parents : List Parent) (homes : List Home) (full rooms : List ℕ) (placing : Placing) → IsShape shape → full ≡ replicate shape.b shape.k
    → kept_placed shape wants full ≡ Ok rooms → HasFiles wants parents homes rooms placing → (i s : ℕ) → get nat_cmp placing.homes i ≡ Some s → s < 16
homes_low shape wants parents homes full rooms placing limits all kept files i s found =
    let most = limits.most_boundaries in
    let low = placed_low shape wants parents homes rooms (placed_of placing) limits (ap (kept_placed shape wants) (sym all) ∙ kept) files.placed i s (home_found placing.homes.entries i ∙ found) in
    omega (arith, most, low)

-- ---- what every plan keeps

range_count : (n : ℕ) (test : ℕ → Bool) → count_upto n test ≡ count_by test (range_with_len 0 n)
range_count n test =
    let f : ℕ → ℕ = λ b. cond (test b) 1 0 in
    sum_same f (λ i. f (get_or (range_with_len 0 n) i 0)) n (λ i low. ap f (sym (get_or-range_with_len 0 n i 0 low ∙ omega arith)))
    ∙ ap (λ (m : ℕ). sum_upto m (λ i. f (get_or (range_with_len 0 n) i 0))) (sym (length-range_with_len 0 n))
    ∙ sym (sum_places f (range_with_len 0 n) 0)

want_some : (w : Option Want) → is_some w ≡ true → (want : Want) × (w ≡ Some want)
want_some None e = absurd (false≢true e)
want_some (Some want) e = (want, refl)

module _ (shape : Shape) (wants : List (Option Want)) (parents : List Parent) (homes : List Home) (targets : Targets) (limits : IsShape shape) (size : length wants ≡ shape.n) (is : IsPlanned shape wants parents homes targets) where
  by : (b s : ℕ) → wants_of targets b s ≡ list_any (λ t. t == s) (targets_by shape is.found b (want_of wants b))
  unfolding targets_of
  by b s = is.same_targets b s

  by_want : (b : ℕ) (want : Option Want) → want_of wants b ≡ want → (s : ℕ) → wants_of targets b s ≡ list_any (λ t. t == s) (targets_by shape is.found b want)
  by_want b want e s = by b s ∙ ap (λ (w : Option Want). list_any (λ t. t == s) (targets_by shape is.found b w)) e

  one_by : (b s : ℕ) (o : Option ℕ) → o ≡ Some s → ((u : ℕ) → wants_of targets b u ≡ list_any (λ t. t == u) (option_to_list o)) → (u : ℕ) → wants_of targets b u ≡ list_any (λ t. t == u) (s ∷ [])
  one_by b s o e goes u = goes u ∙ ap (λ (x : Option ℕ). list_any (λ t. t == u) (option_to_list x)) e

  most : (s : ℕ) → s < shape.b → count_upto shape.n (λ b. wants_of targets b s) ≤ shape.k
  most s low =
      let stands : ℕ → Bool = λ b. list_any (λ u. u == s) (targets_by shape is.found b (want_of wants b)) in
      let same = count_same shape.n stands (λ b. wants_of targets b s) (λ b. by b s) in
      let ranged = range_count shape.n stands in
      let sized : count_by stands (range_with_len 0 (length wants)) ≡ count_by stands (range_with_len 0 shape.n) = ap (λ (n : ℕ). count_by stands (range_with_len 0 n)) size in
      omega (arith, same, ranged, sized, most_blocks shape wants is.found s parents homes is.by_plan low)

  pub keeps_rules : Ascend (homes_of targets) → KeepsRules shape wants targets
  keeps_rules ascend = record {
    most = most;
    kept = λ b e. by_want b (Some Kept) e;
    file = λ b i e.
        let s = found_some (home_of is.found.homes i) (file_housed shape wants parents homes is.found limits is.by_plan b i e) in
        (s.0, ap (λ hs. home_of hs i) is.same_homes ∙ s.1, one_by b s.0 (home_of is.found.homes i) s.1 (by_want b (Some (File i)) e));
    stray = λ b e.
        let s = found_some (place_in is.found.strays b) (stray_seat shape wants parents homes is.found limits is.by_plan b e) in
        (s.0, one_by b s.0 (place_in is.found.strays b) s.1 (by_want b (Some Stray) e));
    none = λ b e. by_want b None e;
    some = λ b there.
        let want = want_some (want_of wants b) there in
        let t = some_target shape wants parents homes is.found limits is.by_plan b want.0 want.1 in
        (t.0, target_below shape wants parents homes is.found limits is.by_plan b t.0 t.1, by b t.0 ∙ t.1);
    within = λ b s on. target_below shape wants parents homes is.found limits is.by_plan b s (sym (by b s) ∙ on);
    homes_are = λ i. homes_are i;
    homes_within = λ i s found. home_within shape wants parents homes is.found limits is.by_plan i s (ap (λ hs. home_of hs i) (sym is.same_homes) ∙ found);
    ascend = ascend;
  }
    where
      homes_are : (i : ℕ) → IsSome (home_of (homes_of targets) i) ↔ (0 < count_of wants i)
      homes_are i = (
        λ some. of_files shape wants parents homes is.found is.by_plan i (ap (λ hs. is_some (home_of hs i)) (sym is.same_homes) ∙ some),
        λ some. ap (λ hs. is_some (home_of hs i)) is.same_homes ∙ listed_housed shape wants parents homes is.found limits is.by_plan i (listed wants i some),
      )

-- ---- conditions of moves

pub are_targets : (table : Table) (wants : List (Option Want)) (targets : ℕ → ℕ → Bool) → FitWants table wants
    → ((b : ℕ) → is_some (want_of wants b) ≡ true → (s : ℕ) × (s < table.shape.b) × (targets b s ≡ true))
    → ((b s : ℕ) → want_of wants b ≡ None → targets b s ≡ false)
    → ((b s : ℕ) → targets b s ≡ true → s < table.shape.b)
    → ((s : ℕ) → s < table.shape.b → count_upto table.shape.n (λ b. targets b s) ≤ table.shape.k)
    → AreTargets targets table
are_targets table wants targets fit some none within most = record {
  some = λ b low has. some b (fit.written b ∙ has);
  written = λ b s on. elim (cases_Bool (has_site (sites_in table b))) [
    | inl has ↦ has
    | inr hasnt ↦ absurd (false≢true (sym (none b s (no_want (want_of wants b) (fit.written b ∙ hasnt))) ∙ on))
  ];
  within = within;
  most = most;
}
  where
    no_want : (w : Option Want) → is_some w ≡ false → w ≡ None
    no_want None e = refl
    no_want (Some want) e = absurd (false≢true (sym e))

pub targets_by_rules : (table : Table) (wants : List (Option Want)) (targets : Targets) → FitWants table wants → KeepsRules table.shape wants targets → AreTargets (wants_of targets) table
targets_by_rules table wants targets fit rules = are_targets table wants (wants_of targets) fit rules.some (λ b s none. rules.none b none s) rules.within rules.most

pub targets_by_plan : (table : Table) (wants : List (Option Want)) (parents : List Parent) (homes : List Home) (found : Plan) → IsShape table.shape → FitWants table wants → plan table.shape wants parents homes ≡ Ok found
    → AreTargets (targets_of table.shape wants found) table
unfolding targets_of
targets_by_plan table wants parents homes found limits fit is =
    are_targets table wants (targets_of table.shape wants found) fit
    (λ b there.
    let want = want_some (want_of wants b) there in
    let t = some_target table.shape wants parents homes found limits is b want.0 want.1 in
    (t.0, target_below table.shape wants parents homes found limits is b t.0 t.1, t.1))
    (λ b s none. ap (λ (w : Option Want). list_any (λ t. t == s) (targets_by table.shape found b w)) none)
    (λ b s on. target_below table.shape wants parents homes found limits is b s on)
    (λ s low.
    let stands : ℕ → Bool = λ b. list_any (λ u. u == s) (targets_by table.shape found b (want_of wants b)) in
    let sized : count_by stands (range_with_len 0 (length wants)) ≡ count_by stands (range_with_len 0 table.shape.n) = ap (λ (n : ℕ). count_by stands (range_with_len 0 n)) fit.size in
    omega (arith, range_count table.shape.n stands, sized, most_blocks table.shape wants found s parents homes is low))

-- ---- results

if_ok : {T E : Type 0} (r : Result T E) (P Q : T → Type 0) → ((x : T) → P x → Q x) → IfOk r P → IfOk r Q
if_ok (Ok x) P Q f h = f x h
if_ok (Err e) P Q f h = h

module _ (shape : Shape) (wants : List (Option Want)) (parents : List Parent) (homes : List Home) (full : List ℕ) (all : full ≡ replicate shape.b shape.k) (rooms : List ℕ) (kept : kept_placed shape wants full ≡ Ok rooms)
    (placing : Placing) (files : HasFiles wants parents homes rooms placing) where
  one_planned : (r : Result Targets NoRoom) → Ends shape wants (placed_of placing) r → IfOk r (IsPlanned shape wants parents homes)
  one_planned (Ok targets) ends = planned shape wants parents homes full all rooms kept placing files targets ends
  one_planned (Err bad) ends = tt

  one_cramped : (r : Result Targets NoRoom) → Ends shape wants (placed_of placing) r → IfErr r (λ bad. plan shape wants parents homes ≡ Err bad)
  one_cramped (Ok targets) ends = tt
  one_cramped (Err bad) ends = no_rest shape wants parents homes full all rooms kept placing files bad ends

  one_kept : IsShape shape → length wants ≡ shape.n → (r : Result Targets NoRoom) → Ends shape wants (placed_of placing) r → IfOk r (KeepsRules shape wants)
  one_kept limits size (Ok targets) ends =
      keeps_rules shape wants parents homes targets limits size (planned shape wants parents homes full all rooms kept placing files targets ends) ends.ascend
  one_kept limits size (Err bad) ends = tt

  pub all_planned : {E : Type 0} (r : Result (Result Targets NoRoom) E) → IfOk r (Ends shape wants (placed_of placing)) → IfOk r (λ found. IfOk found (IsPlanned shape wants parents homes))
  all_planned r ends = if_ok r (Ends shape wants (placed_of placing)) (λ found. IfOk found (IsPlanned shape wants parents homes)) one_planned ends

  pub all_cramped : {E : Type 0} (r : Result (Result Targets NoRoom) E) → IfOk r (Ends shape wants (placed_of placing)) → IfOk r (λ found. IfErr found (λ bad. plan shape wants parents homes ≡ Err bad))
  all_cramped r ends = if_ok r (Ends shape wants (placed_of placing)) (λ found. IfErr found (λ bad. plan shape wants parents homes ≡ Err bad)) one_cramped ends

  pub all_kept : {E : Type 0} → IsShape shape → length wants ≡ shape.n → (r : Result (Result Targets NoRoom) E) → IfOk r (Ends shape wants (placed_of placing)) → IfOk r (λ found. IfOk found (KeepsRules shape wants))
  all_kept limits size r ends = if_ok r (Ends shape wants (placed_of placing)) (λ found. IfOk found (KeepsRules shape wants)) (one_kept limits size) ends
