-- What a drill without faults holds and gives: the blocks of its volume, and just the bytes of its files.
use Rattle.std.proofs.Common.{◌≡◌, ◌<◌, ◌≤◌, ◌+◌, ◌*◌, ◌%◌, ◌^◌, ◌++◌, ◌==◌, ℕ, zero, suc, Bool, true, false, List, [], ◌∷◌, length, cond, refl, sym, ◌∙◌, ap, subst, inl, inr, arith}
use Rattle.std.specs.Prelude.{Some, Result, Ok, Err, if◌then◌else◌, count_by, map, slice_get}
use Rattle.std.specs.Cmp.Lexicographic.{pointwise}
use Rattle.std.specs.List.{concat, range_with_len}
use Rattle.std.proofs.lemmas.List.{ext_get_or, length-append, length-map, take_all}
use Rattle.std.proofs.lemmas.List.FromFn.{get_or-map-range_with_len, length-map-range_with_len, length-range_with_len}
use Rattle.std.proofs.lemmas.List.Sums.{sum_by-cons}
use Rattle.std.proofs.lemmas.Option.{same_Some}
use Rattle.std.proofs.lemmas.Slice.Eq.{bytes_eq-Decides}
use Rattle.dg_model.proofs.RunLaws.{run_more, run_none}
use Rattle.dg_model.specs.Blocks.{block_in}
use Rattle.dg_model.specs.Causes.{NoneRose}
use Rattle.dg_model.specs.Homes.{home_of}
use Rattle.dg_model.specs.Runs.{Run, Trace}
use Rattle.dg_model.specs.States.{Counts, State}
use Rattle.dg_model.specs.Steps.{Step}
use Rattle.dg_model.specs.declared.events.Event.TheVariants.{Fail, Settle}
use Rattle.dg_model.specs.declared.replies.Reply.{Reply}
use Rattle.dg_model.specs.declared.replies.Reply.TheVariants.{Already, Done, Given, Range, Settled, Unavailable}
use Rattle.dg_model.specs.declared.shapes.Shape.{Shape}
use Rattle.dg_promise.specs.Promises.{AreTold, bytes_at, file_at}
use Rattle.dg_trace.specs.Answers.{events_of, volume_bytes}
use Rattle.dg_trace.specs.Replays.{IsReplayed}
use Rattle.dg_trace.specs.Traces.{trace_events}
use Rattle.dg_trace.specs.Volumes.{shape_for}
use Rattle.dg_trace.specs.declared.asked.Asked.{Asked}
use Rattle.dg_words.specs.declared.commands.Order.TheVariants.{Late}
use Rattle.ufs_build.specs.Builds.{built}
use Rattle.ufs_build.specs.Traces.{block_in as image_block}
use Rattle.ufs_build.specs.Volumes.{geometry_of_spec, volume_of_spec}
use Rattle.ufs_build.specs.declared.items.Item.{Item}
use Rattle.ufs_build.specs.declared.items.ItemKind.TheVariants.{File}
use Rattle.ufs_build.specs.declared.volumes.Spec.{Spec}
use Rattle.ufs_drill.specs.Items.{directory_item, drill_items, file_bytes, file_item, file_path}
use Rattle.ufs_drill.specs.Volumes.{drill_spec}
use Rattle.ufs_image_laws.specs.Built.{blocks_in}
use Rattle.ufs_model.specs.Blocks.{Volume}
use Rattle.ufs_model.specs.Paths.{cat_of}
use Rattle.ufs_model.specs.Trees.{file_of}
use Rattle.ufs_model.specs.declared.geometries.Geometry.{Geometry}
use Rattle.ufs_model.specs.declared.reads.PathRefusal.{PathRefusal}
use Rattle.dg_drill.proofs.LossSteps.{cat_blocks}
use Rattle.dg_drill.specs.Drills.{later_events, read_event, write_events}
use Rattle.dg_drill.specs.Losses.{AreGiven, is_at, lost_homes, stands_at}
use Rattle.dg_drill.specs.Reports.{boundary_of, given_count, gives, is_unavailable, unavailable_count}
use Rattle.dg_drill.specs.Volumes.{drill_shape}

-- ---- blocks stay behind the writes

settle_blocks : (old new : State) → Step AreTold old Settle Settled new → new.blocks ≡ old.blocks
settle_blocks old new h = elim h.1 [ inl was ↦ ap (λ (s : State). s.blocks) was.1 | inr now ↦ ap (λ (s : State). s.blocks) now.2.rest ]

fail_blocks : (old new : State) (s j : ℕ) (reply : Reply) → Step AreTold old (Fail s j) reply new → new.blocks ≡ old.blocks
fail_blocks old new s j Range h = ap (λ (s : State). s.blocks) h.1
fail_blocks old new s j Already h = ap (λ (s : State). s.blocks) h.2
fail_blocks old new s j Done h = ap (λ (s : State). s.blocks) h.2.rest
fail_blocks old new s j reply h = absurd h

-- the readings, of which there is one for each file
record ReadsLeave (old : State) (n : ℕ) (replies : List Reply) (new : State) : Type 0 where
  count : length replies ≡ n
  blocks : new.blocks ≡ old.blocks

reads_leave : (k n : ℕ) (old new : State) (replies : List Reply) → Run AreTold old (map read_event (range_with_len k n)) replies new → ReadsLeave old n replies new
reads_leave k zero old new replies run =
    let end = run_none AreTold old new replies run in
    record { count = ap (λ (l : List Reply). length l) end.0; blocks = ap (λ (s : State). s.blocks) end.1 }
reads_leave k (suc n) old new replies run =
    let first = run_more AreTold old (read_event k) (map read_event (range_with_len (k + 1) n)) replies new run in
    let rest = reads_leave (k + 1) n first.mid new first.rest first.run in
    record {
      count = ap (λ (l : List Reply). length l) first.is ∙ ap suc rest.count;
      blocks = rest.blocks ∙ cat_blocks old first.mid (file_path k) first.reply first.step;
    }

-- what comes behind the writes
record EndLeaves (written : State) (files : ℕ) (cats : List Reply) (final : State) : Type 0 where
  pub count : length cats ≡ files
  pub blocks : final.blocks ≡ written.blocks

end_leaves : (seed files : ℕ) (written final : State) (losses cats : List Reply) → Run AreTold written (later_events seed files) (Settled ∷ (losses ++ cats)) final
    → length losses ≡ 2 → EndLeaves written files cats final
end_leaves seed files written final [] cats run two = absurd (omega (arith, two))
end_leaves seed files written final (x ∷ []) cats run two = absurd (omega (arith, two))
end_leaves seed files written final (x ∷ y ∷ z ∷ rest) cats run two = absurd (omega (arith, two))
end_leaves seed files written final (x ∷ y ∷ []) cats run two =
    let settled = run.0 in
    let chain = run.2 in
    let one = chain.0 in
    let both = chain.2.0 in
    let reads = reads_leave 0 files both final cats chain.2.2 in
    record {
      count = reads.count;
      blocks = reads.blocks ∙ fail_blocks one both (boundary_of seed) 1 y chain.2.1 ∙ fail_blocks settled one (boundary_of seed) 0 x chain.1 ∙ settle_blocks written settled run.1;
    }

-- ---- the blocks of the volume

abbrev drill_asked : Asked
drill_asked = record { order = Late; b = 4; k = 16384; m = 3 }

abbrev pub HoldsVolume : Type 0
HoldsVolume = (asked : Asked) (image : List ℕ) (g : Geometry) (before : Counts) (replies : List Reply) (final : State) → 0 < asked.b
    → g.size * g.fsize ≤ length image → Trace AreTold before (events_of asked image g) replies final → NoneRose before.faults final.counts.faults
    → IsReplayed g image replies final

blocks_are : (l n : ℕ) (image : List ℕ) (blocks : List (List ℕ)) → length blocks ≡ n → ((b : ℕ) → b < n → block_in blocks b ≡ image_block l image b)
    → blocks ≡ blocks_in l n image
unfolding blocks_in
blocks_are l n image blocks count each =
    ext_get_or [] blocks (map (image_block l image) (range_with_len 0 n)) (count ∙ sym (length-map-range_with_len (image_block l image) 0 n))
    (λ b low. each b (omega (arith, count, low)) ∙ sym (get_or-map-range_with_len (image_block l image) 0 n b b [] (omega (arith, count, low)) (omega arith)))

-- the written state holds the volume's blocks
pub volume_held : HoldsVolume → (before : Counts) (g : Geometry) (image : List ℕ) (writes : List Reply) (written : State) → g.fsize ≡ 1024 → g.size ≡ 32768
    → length image ≡ g.size * g.fsize → Trace AreTold before (write_events g image) writes written → NoneRose before.faults written.counts.faults
    → written.blocks ≡ blocks_in 1024 32768 image
volume_held holds before g image writes written fsize size long trace none =
    let shape : shape_for drill_asked g ≡ drill_shape = ap (λ (l : ℕ). record { l = l; n = g.size; b = 4; k = 16384; m = 3 }) fsize ∙ ap (λ (n : ℕ). record { l = 1024; n = n; b = 4; k = 16384; m = 3 }) size in
    let whole : volume_bytes g image ≡ image = take_all (g.size * g.fsize) image (omega (arith, long)) in
    let chain : Trace AreTold before (events_of drill_asked image g) writes written =
    subst (λ (v : List ℕ). Trace AreTold before (trace_events Late g (shape_for drill_asked g) v) writes written) (sym whole)
    (subst (λ (s : Shape). Trace AreTold before (trace_events Late g s image) writes written) (sym shape) trace) in
    let is = holds drill_asked image g before writes written (omega arith) (omega (arith, long)) chain none in
    blocks_are 1024 32768 image written.blocks (is.holds.count ∙ size) (λ b low.
    is.holds.each b (omega (arith, low, size)) ∙ ap (λ (v : List ℕ). image_block g.fsize v b) whole ∙ ap (λ (l : ℕ). image_block l image b) fsize)

-- ---- the files of the volume

files_get : (seed from n j : ℕ) → j < n → slice_get (map (file_item seed) (range_with_len from n)) j ≡ Some (file_item seed (from + j))
files_get seed from zero j low = absurd (omega arith)
files_get seed from (suc n) zero low = ap (λ (k : ℕ). Some (file_item seed k)) (let e : from ≡ from + 0 = omega arith in e)
files_get seed from (suc n) (suc j) low =
    files_get seed (from + 1) n j (omega (arith, low)) ∙ ap (λ (k : ℕ). Some (file_item seed k)) (let e : from + 1 + j ≡ from + suc j = omega arith in e)

item_get : (seed files j : ℕ) → j < files → slice_get (drill_items seed files) (suc (suc (suc (suc (suc (suc (suc (suc (suc (suc j)))))))))) ≡ Some (file_item seed j)
item_get seed files j low = files_get seed 0 files j low ∙ ap (λ (k : ℕ). Some (file_item seed k)) (let e : 0 + j ≡ j = omega arith in e)

item_count : (seed files : ℕ) → length (drill_items seed files) ≡ 10 + files
item_count seed files =
    length-append (map directory_item (range_with_len 0 10)) (map (file_item seed) (range_with_len 0 files))
    ∙ ap (λ (n : ℕ). 10 + n) (length-map (range_with_len 0 files) (file_item seed) ∙ length-range_with_len 0 files)

pub few_items : (seed files : ℕ) → files ≤ 2000 → length (drill_items seed files) + 2 < 2 ^ 23
few_items seed files few = let c = item_count seed files in omega (arith, c, few)

-- file j of the state has its bytes
pub record HasFile (state : State) (seed j : ℕ) : Type 0 where
  pub i : ℕ
  pub leads : file_at state (file_path j) ≡ Ok i
  pub bytes : bytes_at state (file_path j) ≡ Ok (file_bytes seed j)

abbrev pub AreReadBuilt : Type 0
AreReadBuilt = (spec : Spec) (items : List Item) (image : List ℕ) (k : ℕ) (item : Item) → built spec items ≡ Ok image → 8192 % spec.l ≡ 0
    → length items + 2 < 2 ^ 23 → slice_get items k ≡ Some item → item.kind ≡ File
    → (cat_of spec.l (spec.ncg * spec.fpg) item.path (blocks_in spec.l (spec.ncg * spec.fpg) image)).value ≡ Ok item.bytes

abbrev pub AreRefused : Type 0
AreRefused = (l n : ℕ) (v : Volume) (path : List ℕ) (refusal : PathRefusal) → (file_of l n path v).value ≡ Err refusal → (cat_of l n path v).value ≡ Err refusal

ok_not : (bytes : List ℕ) (refusal : PathRefusal) → ◌≡◌ {A = Result (List ℕ) PathRefusal} (Ok bytes) (Err refusal) → ⊥
ok_not bytes refusal e = cc e

has_file : AreReadBuilt → AreRefused → (seed files : ℕ) (image : List ℕ) (state : State) → files ≤ 2000 → built drill_spec (drill_items seed files) ≡ Ok image
    → state.table.shape ≡ drill_shape → state.blocks ≡ blocks_in 1024 32768 image → (j : ℕ) → j < files → HasFile state seed j
has_file read refused seed files image state few made shape blocks j low =
    let bytes : bytes_at state (file_path j) ≡ Ok (file_bytes seed j) =
    ap (λ (s : Shape). (cat_of s.l s.n (file_path j) state.blocks).value) shape ∙ ap (λ (v : Volume). (cat_of 1024 32768 (file_path j) v).value) blocks
    ∙ read drill_spec (drill_items seed files) image (suc (suc (suc (suc (suc (suc (suc (suc (suc (suc j)))))))))) (file_item seed j) made refl (few_items seed files few)
    (item_get seed files j low) refl in
    by_file (file_at state (file_path j)) refl bytes
  where
    by_file : (file : Result ℕ PathRefusal) → file_at state (file_path j) ≡ file → bytes_at state (file_path j) ≡ Ok (file_bytes seed j) → HasFile state seed j
    by_file (Ok i) e bytes = record { i = i; leads = e; bytes = bytes }
    by_file (Err refusal) e bytes = absurd (ok_not (file_bytes seed j) refusal (sym bytes ∙ refused state.table.shape.l state.table.shape.n state.blocks (file_path j) refusal e))

-- ---- counts

single_by : (b : Bool) → (if b then 1 else 0) + 0 ≤ 1
single_by true = omega arith
single_by false = omega arith

single : (bytes : List ℕ) (reply : Reply) → (if gives bytes reply then 1 else 0) + (if is_unavailable reply then 1 else 0) ≤ 1
single bytes (Given lines) = single_by (pointwise ◌==◌ (concat lines) bytes)
single bytes Unavailable = omega arith
single bytes reply = omega arith

-- no reply is counted twice
most_counted : (seed k : ℕ) (replies : List Reply) → given_count seed k replies + unavailable_count replies ≤ length replies
most_counted seed k [] = omega arith
most_counted seed k (reply ∷ replies) =
    let one = single (file_bytes seed k) reply in
    let rest = most_counted seed (suc k) replies in
    let sum : (if gives (file_bytes seed k) reply then 1 else 0) + given_count seed (suc k) replies + ((if is_unavailable reply then 1 else 0) + unavailable_count replies) ≤ suc (length replies) =
    omega (arith, one, rest) in sum

gives_by : (bytes : List ℕ) (lines : List (List ℕ)) (reply : Reply) → reply ≡ Given lines → concat lines ≡ bytes → gives bytes reply ≡ true
gives_by bytes lines reply is same = ap (gives bytes) is ∙ (bytes_eq-Decides (concat lines) bytes).1 same

ok_same : (a b : List ℕ) → ◌≡◌ {A = Result (List ℕ) PathRefusal} (Ok a) (Ok b) → a ≡ b
ok_same a b e = cc e

-- each file whose home isn't lost is counted as given
counted_by : (s : ℕ) (final : State) (seed k : ℕ) (reply : Reply) (at : Bool) → HasFile final seed k → stands_at final s (file_at final (file_path k)) ≡ at
    → (stands_at final s (file_at final (file_path k)) ≡ false → gives (file_bytes seed k) reply ≡ true)
    → 1 ≤ (if gives (file_bytes seed k) reply then 1 else 0) + cond (stands_at final s (file_at final (file_path k))) 1 0
counted_by s final seed k reply true has e given = rw e (omega arith)
counted_by s final seed k reply false has e given = let yes_given = given e in rw (e, yes_given) (omega arith)

least_counted : (s : ℕ) (final : State) (seed k n : ℕ) (replies : List Reply) → length replies ≡ n → AreGiven s final k replies
    → ((j : ℕ) → k ≤ j → j < k + n → HasFile final seed j)
    → n ≤ given_count seed k replies + count_by (λ j. stands_at final s (file_at final (file_path j))) (range_with_len k n)
least_counted s final seed k zero replies long given has = omega arith
least_counted s final seed k (suc n) [] long given has = absurd (omega (arith, long))
least_counted s final seed k (suc n) (reply ∷ replies) long given has =
    let own = has k (omega arith) (omega arith) in
    let here = counted_by s final seed k reply (stands_at final s (file_at final (file_path k))) own refl (λ apart.
    let home : is_at s (home_of final.homes own.i) ≡ false = ap (stands_at final s) (sym own.leads) ∙ apart in
    let all = (given.0) own.i own.leads home in
    gives_by (file_bytes seed k) all.lines reply all.reply_is (ok_same (concat all.lines) (file_bytes seed k) (sym all.bytes ∙ own.bytes))) in
    let later = least_counted s final seed (k + 1) n replies (omega (arith, long)) (given.1) (λ j low high. has j (omega (arith, low)) (omega (arith, high))) in
    let count = sum_by-cons (λ (j : ℕ). cond (stands_at final s (file_at final (file_path j))) 1 0) k (range_with_len (k + 1) n) in
    let step : given_count seed (suc k) replies ≡ given_count seed (k + 1) replies = ap (λ (m : ℕ). given_count seed m replies) (let e : suc k ≡ k + 1 = omega arith in e) in
    sum_is _ _ _ _ _ _ here later _ count step
  where
    sum_is : (n one here later later' rest : ℕ) → 1 ≤ one + here → n ≤ later' + rest → (sum : ℕ) → sum ≡ here + rest → later ≡ later' → suc n ≤ one + later + sum
    sum_is n one here later later' rest a b sum e same = omega (arith, a, b, e, same)

-- all of them are given or unavailable
pub all_counted : (final : State) (seed files : ℕ) (cats : List Reply) → length cats ≡ files → AreGiven (boundary_of seed) final 0 cats
    → unavailable_count cats ≡ lost_homes final seed files → ((j : ℕ) → j < files → HasFile final seed j) → given_count seed 0 cats + unavailable_count cats ≡ files
all_counted final seed files cats long given lost has =
    let least = least_counted (boundary_of seed) final seed 0 files cats long given (λ j low high. has j (omega (arith, high))) in
    let most = most_counted seed 0 cats in
    equal_by _ _ _ _ _ least most long lost
  where
    equal_by : (given unavailable lost files long : ℕ) → files ≤ given + lost → given + unavailable ≤ long → long ≡ files → unavailable ≡ lost → given + unavailable ≡ files
    equal_by given unavailable lost files long a b c d = omega (arith, a, b, c, d)

-- ---- the volume's numbers

drill_size : (geometry_of_spec drill_spec).size ≡ 32768
unfolding geometry_of_spec
drill_size = refl

pub size_is : (g : Geometry) → volume_of_spec drill_spec ≡ Some (geometry_of_spec drill_spec) → volume_of_spec drill_spec ≡ Some g → g.size ≡ 32768
size_is g numbers is = let same = same_Some (geometry_of_spec drill_spec) g (sym numbers ∙ is) in ap (λ (x : Geometry). x.size) (sym same) ∙ drill_size

-- ---- the law

pub drill_gives : HoldsVolume → AreReadBuilt → AreRefused → (before : Counts) (seed files : ℕ) (g : Geometry) (image : List ℕ) (writes losses cats : List Reply) (written final : State)
    → files ≤ 2000 → built drill_spec (drill_items seed files) ≡ Ok image → g.fsize ≡ 1024 → g.size ≡ 32768 → length image ≡ g.size * g.fsize
    → Trace AreTold before (write_events g image) writes written → NoneRose before.faults written.counts.faults → final.table.shape ≡ drill_shape
    → Run AreTold written (later_events seed files) (Settled ∷ (losses ++ cats)) final → length losses ≡ 2
    → unavailable_count cats ≡ lost_homes final seed files → AreGiven (boundary_of seed) final 0 cats → given_count seed 0 cats + unavailable_count cats ≡ files
drill_gives holds read refused before seed files g image writes losses cats written final few made fsize size long trace none shape run two lost given =
    let on = end_leaves seed files written final losses cats run two in
    let blocks = on.blocks ∙ volume_held holds before g image writes written fsize size long trace none in
    all_counted final seed files cats on.count given lost (has_file read refused seed files image final few made shape blocks)
