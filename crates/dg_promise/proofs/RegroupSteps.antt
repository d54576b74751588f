-- What taking lost boundaries out of use leaves of what every state keeps.
use Rattle.std.proofs.Common.{◌≡◌, ◌∙◌, ◌<◌, ◌≤◌, ◌*◌, ◌++◌, ℕ, inl, inr, length, get_or, not, Bool, true, false, cond, List, [], ◌∷◌, Option, Some, None, refl, sym, ap, subst, arith}
use Rattle.std.specs.Prelude.{◌||◌, All, Contains, IfSome, replicate, if◌then◌else◌, option_to_list}
use Rattle.std.specs.List.{list_any, range_with_len}
use Rattle.std.proofs.Math.ListN.{get_or-eq_default}
use Rattle.std.proofs.lemmas.Bool.{cases_Bool, cases_lt, false≢true}
use Rattle.std.proofs.lemmas.List.{get_or_default, length-replicate}
use Rattle.std.proofs.lemmas.List.Concat.{flat_map-cons}
use Rattle.std.proofs.lemmas.List.Filters.{length-filter_both}
use Rattle.std.proofs.lemmas.List.FromFn.{get_or-map-range_with_len, length-map-range_with_len, length-range_with_len}
use Rattle.dg_model.specs.Blocks.{block_in, zeros}
use Rattle.dg_model.specs.Homes.{Ascend, home_of}
use Rattle.dg_model.specs.Lives.{place_in}
use Rattle.dg_model.specs.Members.{is_lost}
use Rattle.dg_model.specs.Regroups.{IsTooSmall, Regroups, falls_out, home_left, homes_left, is_left, left_in, moved_home, table_left, without_lost}
use Rattle.dg_model.specs.Marks.{is_marked}
use Rattle.dg_model.specs.States.{Counts, State, is_cut}
use Rattle.dg_model.specs.Tables.{IsTable}
use Rattle.dg_model.specs.declared.homes.Home.{Home}
use Rattle.dg_model.proofs.HomeLaws.{AscendFrom, Ascending, ascending_from, ascending_to, from_lower}
use Rattle.dg_model.proofs.RegroupLaws.{left_ascend, left_is_table}
use Rattle.ufs_frames.specs.Frames.{IsLocal}
use Rattle.ufs_model.specs.Paths.{cat_of}
use Rattle.dg_promise.proofs.GoneLaws.{any_found}
use Rattle.dg_promise.specs.Promises.{AreTold}

-- ---- homes

moved_inode : (left : List ℕ) (i : ℕ) (at : Option ℕ) → IfSome (moved_home left i at) (λ home. home.inode ≡ i)
moved_inode left i None = tt
moved_inode left i (Some x) = on (is_left left x)
  where
    on : (b : Bool) → IfSome (cond {A = Option Home} b (Some (record { inode = i; boundary = place_in left x })) None) (λ home. home.inode ≡ i)
    on true = refl
    on false = tt

left_inode : (left : List ℕ) (copies : List Home) (home : Home) → IfSome (home_left left copies home) (λ other. other.inode ≡ home.inode)
left_inode left copies home = on (is_left left home.boundary)
  where
    on : (b : Bool) → IfSome (cond b (moved_home left home.inode (Some home.boundary)) (moved_home left home.inode (home_of copies home.inode))) (λ other. other.inode ≡ home.inode)
    on true = moved_inode left home.inode (Some home.boundary)
    on false = moved_inode left home.inode (home_of copies home.inode)

one_more : (n : ℕ) (home : Home) (rest : List Home) → n < home.inode → AscendFrom home.inode rest → (found : Option Home) → IfSome found (λ other. other.inode ≡ home.inode)
    → AscendFrom n (option_to_list found ++ rest)
one_more n home rest low up None is = from_lower n home.inode rest (omega (arith, low)) up
one_more n home rest low up (Some other) is = (omega (arith, low, is), subst (λ (i : ℕ). AscendFrom i rest) (sym is) up)

homes_from : (left : List ℕ) (copies : List Home) (n : ℕ) (homes : List Home) → AscendFrom n homes → AscendFrom n (homes_left left copies homes)
homes_from left copies n [] up = tt
homes_from left copies n (home ∷ homes) up =
    subst (AscendFrom n) (sym (flat_map-cons (λ one. option_to_list (home_left left copies one)) home homes))
    (one_more n home (homes_left left copies homes) up.0 (homes_from left copies home.inode homes up.1) (home_left left copies home) (left_inode left copies home))

weaker : (n : ℕ) (homes : List Home) → AscendFrom n homes → Ascending homes
weaker n [] up = tt
weaker n (home ∷ homes) up = up.1

first_from : (left : List ℕ) (copies : List Home) (homes : List Home) → Ascending homes → Ascending (homes_left left copies homes)
first_from left copies [] up = tt
first_from left copies (home ∷ homes) up =
    subst Ascending (sym (flat_map-cons (λ one. option_to_list (home_left left copies one)) home homes))
    (on (home_left left copies home) (left_inode left copies home))
  where
    rest : AscendFrom home.inode (homes_left left copies homes)
    rest = homes_from left copies home.inode homes up

    on : (found : Option Home) → IfSome found (λ other. other.inode ≡ home.inode) → Ascending (option_to_list found ++ homes_left left copies homes)
    on None is = weaker home.inode (homes_left left copies homes) rest
    on (Some other) is = subst (λ (i : ℕ). AscendFrom i (homes_left left copies homes)) (sym is) rest

pub homes_ascend : (left : List ℕ) (copies homes : List Home) → Ascend homes → Ascend (homes_left left copies homes)
homes_ascend left copies homes up = ascending_to (homes_left left copies homes) (first_from left copies homes (ascending_from homes up))

-- ---- the table

few_left : (state : State) → length (left_in state) ≤ state.table.shape.b
few_left state =
    omega (
      arith,
      length-filter_both (λ x. not (is_lost state.members x)) (λ x. not (not (is_lost state.members x))) (λ x. refl) (range_with_len 0 state.table.shape.b),
      length-range_with_len 0 state.table.shape.b,
    )

pub table_stays : (state : State) → IsTable state.table → (IsTooSmall state → ⊥) → IsTable (table_left (left_in state) state.table)
table_stays state is enough =
    left_is_table (left_in state) state.table is (left_ascend state.table.shape state.members) (few_left state)
    (elim (cases_lt (length (left_in state)) state.table.shape.m) [ inl few ↦ absurd (enough (inl few)) | inr high ↦ high ])
    (elim (cases_lt (length (left_in state)) 2) [ inl few ↦ absurd (enough (inr (inl few))) | inr high ↦ high ])
    (elim (cases_lt (length (left_in state) * state.table.shape.k) state.table.shape.n) [ inl few ↦ absurd (enough (inr (inr few))) | inr high ↦ high ])

-- ---- blocks

pub sizes_stay : (state : State) (counts : Counts) → All (λ block. length block ≡ state.table.shape.l) state.blocks
    → All (λ block. length block ≡ state.table.shape.l) (without_lost state counts).blocks
sizes_stay state counts size = λ k d low.
    let inside : k < length state.blocks = omega (arith, low, length-map-range_with_len (λ b. if falls_out state b then zeros state.table.shape.l else block_in state.blocks b) 0 (length state.blocks)) in
    ap length (get_or-map-range_with_len (λ b. if falls_out state b then zeros state.table.shape.l else block_in state.blocks b) 0 (length state.blocks) k k d inside (omega arith))
    ∙ by_block k inside (falls_out state k)
  where
    by_block : (k : ℕ) → k < length state.blocks → (out : Bool) → length (cond out (zeros state.table.shape.l) (block_in state.blocks k)) ≡ state.table.shape.l
    by_block k inside true = length-replicate state.table.shape.l 0
    by_block k inside false = size k [] inside

-- ---- values

or_false : (a b : Bool) → (a || b) ≡ false → b ≡ false
or_false true b e = absurd (false≢true (sym e))
or_false false b e = e

-- a block that isn't cut afterwards has its value still
pub value_stays : (state : State) (counts : Counts) (l b : ℕ) → length state.cut ≡ length state.blocks → is_marked (without_lost state counts).cut b ≡ false
    → get_or (without_lost state counts).blocks b (replicate l 0) ≡ get_or state.blocks b (replicate l 0)
value_stays state counts l b size uncut = elim (cases_lt b (length state.blocks)) [
  | inl low ↦
      let marked = get_or-map-range_with_len (λ k. is_marked state.cut k || falls_out state k) 0 (length state.cut) b b false (omega (arith, low, size)) (omega arith) in
      let stays = or_false (is_marked state.cut b) (falls_out state b) (sym marked ∙ uncut) in
      get_or-map-range_with_len (λ k. if falls_out state k then zeros state.table.shape.l else block_in state.blocks k) 0 (length state.blocks) b b (replicate l 0) low (omega arith)
      ∙ ap (λ out. cond out (zeros state.table.shape.l) (block_in state.blocks b)) stays ∙ get_or_default state.blocks b [] (replicate l 0) low
  | inr high ↦
      let long = length-map-range_with_len (λ k. if falls_out state k then zeros state.table.shape.l else block_in state.blocks k) 0 (length state.blocks) in
      get_or-eq_default (without_lost state counts).blocks (replicate l 0) (omega (arith, high, long)) ∙ sym (get_or-eq_default state.blocks (replicate l 0) high)
]

-- so what is read by such blocks alone stays
pub uncut_stay : (old : State) (r c : ℕ) (new : State) (path : List ℕ) → length old.cut ≡ length old.blocks → Regroups AreTold old r c new
    → list_any (is_cut new) (cat_of old.table.shape.l old.table.shape.n path old.blocks).needs ≡ false → IsLocal old.table.shape.l (cat_of old.table.shape.l old.table.shape.n path)
    → cat_of old.table.shape.l old.table.shape.n path new.blocks ≡ cat_of old.table.shape.l old.table.shape.n path old.blocks
uncut_stay old r c new path size h uncut local = local.same old.blocks new.blocks (λ b needed. value b (kept b needed))
  where
    kept : (b : ℕ) → Contains (cat_of old.table.shape.l old.table.shape.n path old.blocks).needs b → is_cut new b ≡ false
    kept b needed = elim (cases_Bool (is_cut new b)) [
      | inl cut ↦ absurd (false≢true (sym uncut ∙ any_found (is_cut new) (cat_of old.table.shape.l old.table.shape.n path old.blocks).needs b needed cut))
      | inr fine ↦ fine
    ]

    value : (b : ℕ) → is_cut new b ≡ false → get_or new.blocks b (replicate old.table.shape.l 0) ≡ get_or old.blocks b (replicate old.table.shape.l 0)
    value b fine =
        ap (λ (state : State). get_or state.blocks b (replicate old.table.shape.l 0)) h.rest
        ∙ value_stays h.mid h.counts old.table.shape.l b
        (ap (λ (state : State). length state.cut) h.opened.rest ∙ size ∙ sym (ap (λ (state : State). length state.blocks) h.opened.rest))
        (sym (ap (λ (state : State). is_marked state.cut b) h.rest) ∙ fine)
        ∙ ap (λ (state : State). get_or state.blocks b (replicate old.table.shape.l 0)) h.opened.rest
