-- One more block of a sweep over a volume.
use Rattle.std.proofs.Common.{◌≡◌, ◌∙◌, ℕ, ◌+◌, ◌-◌, ◌*◌, ◌/◌, ◌%◌, ◌<◌, ◌≤◌, ◌⊎◌, inl, inr, List, [], ◌++◌, Bool, true, Option, Some, None, IfSome, length, length-append, refl, sym, ap, subst, arith, nat_lt}
use Rattle.std.proofs.lemmas.Bool.{cases_eq, false≢true}
use Rattle.std.proofs.lemmas.Bool.Decides.{nat_tests}
use Rattle.std.specs.Option.{is_some}
use Rattle.dg_model.specs.Marks.{is_marked}
use Rattle.dg_model.specs.Rereads.{IsAreaOf, of_group, of_inodes}
use Rattle.ufs_model.specs.Blocks.{Volume, area_of, block_at}
use Rattle.ufs_model.specs.Geometries.{IsGeometry, cgbase, cgstart, end_of}
use Rattle.ufs_model.specs.GroupMaps.{by_maps, group_bytes, group_in, is_free}
use Rattle.ufs_model.specs.Inodes.{inode_block}
use Rattle.ufs_model.specs.Metadata.{IsMetadataBy, of_group as of_group_block, of_inode}
use Rattle.ufs_model.specs.declared.geometries.Geometry.{Geometry}
use Rattle.dg_infer.proofs.AreaLaws.{area_more, area_needs, area_none}
use Rattle.dg_infer.proofs.GroupLaws.{end_inside, free_is, group_below, in_group_range, in_its_group, in_volume, off_group_range, past_volume}
use Rattle.dg_infer.proofs.KindLaws.{kind_none}
use Rattle.dg_infer.specs.Meanings.{free_by, kind_at, kind_by}
use Rattle.ufs_model.specs.declared.inodes.Kind.{Kind}
use Rattle.dg_infer.proofs.ListLaws.{below_cases}
use Rattle.dg_infer.specs.Areas.{IsInGroupBlock}
use Rattle.dg_infer.specs.Sweeps.{AreKindsBefore, AreMarksBefore, HasGathered, IsAmidGroup, IsPastGroup, group_start}

-- ---- blocks that are read

pub group_area : (g : Geometry) (v : Volume) (c b : ℕ) → c < g.ncg → IsInGroupBlock g c b → IsAreaOf g v b
unfolding group_bytes
group_area g v c b small in_block = of_group c small (area_needs g.fsize (cgstart g c + g.cblkno) g.frag v b (in_block.0) (in_block.1))

pub area_of_group : (g : Geometry) (v : Volume) (b : ℕ) (found : Option ℕ) → is_some found ≡ true → IfSome found (λ c. c < g.ncg) → IfSome found (λ c. IsInGroupBlock g c b) → IsAreaOf g v b
area_of_group g v b None is small in_block = absurd (false≢true is)
area_of_group g v b (Some c) is small in_block = group_area g v c b small in_block

pub first_inode : (first end : ℕ) → nat_lt first end ≡ true → first < end
first_inode first end is = grind (arith, nat_tests)

pub area_of_inode : (g : Geometry) (v : Volume) (b inode : ℕ) → inode < g.ncg * g.ipg → inode_block g inode ≡ b → IsAreaOf g v b
area_of_inode g v b inode small here = of_inodes inode small (sym here)

group_whole : (g : Geometry) (v : Volume) (c : ℕ) → (area_of g.fsize (group_start g c) g.frag v).value ≡ (group_bytes g c v).value
unfolding group_bytes
group_whole g v c = refl

pub area_is_metadata : (g : Geometry) (v : Volume) {b : ℕ} → IsAreaOf g v b → IsMetadataBy g v b
area_is_metadata g v (of_group c small has) = of_group_block c small has
area_is_metadata g v (of_inodes inode small here) = of_inode inode small here

-- ---- the group of a block

one_group : (g : Geometry) (c d b : ℕ) → IsGeometry g → c < g.ncg → d < g.ncg → IsInGroupBlock g c b → IsInGroupBlock g d b → c ≡ d
one_group g c d b is small low one other = sym ((in_its_group g c b is small (one.0) (one.1)).0) ∙ (in_its_group g d b is low (other.0) (other.1)).0

amid_in : (g : Geometry) (place c : ℕ) → IsAmidGroup g (place + 1) c → IsInGroupBlock g c place
amid_in g place c amid = (let begun = amid.begun in omega arith, let ends = amid.ends in omega arith)

past_before : (g : Geometry) (place f : ℕ) → IsPastGroup g place f → IsPastGroup g (place + 1) f
past_before g place f past = (past.0, omega (arith, past.1))

-- ---- a block of no group block

last_in : (g : Geometry) (place f : ℕ) → IsGeometry g → IsPastGroup g (place + 1) f → (IsPastGroup g place f → ⊥) → IsInGroupBlock g (f / g.fpg) place
last_in g place f is past off = elim (below_cases place (group_start g (f / g.fpg) + g.frag)) [
  | inl early ↦ (let some = is.frag in omega (arith, past.1), early)
  | inr ended ↦ absurd (off (past.0, ended))
]

pub marks_skip : (g : Geometry) (v : Volume) (place : ℕ) (free : List Bool) (group : List ℕ) → IsGeometry g → ((c : ℕ) → c < g.ncg → IsInGroupBlock g c place → ⊥)
    → AreMarksBefore g v place free group → AreMarksBefore g v (place + 1) free group
marks_skip g v place free group is none so_far = record {
  here = λ f past. elim (below_cases place (group_start g (f / g.fpg) + g.frag)) [
    | inl early ↦ absurd (none (f / g.fpg) (group_below g f is (past.0)) (let some = is.frag in omega (arith, past.1), early))
    | inr ended ↦ so_far.here f (past.0, ended)
  ];
  later = λ f off. so_far.later f (λ past. off (past_before g place f past));
  amid = λ c amid. absurd (none c amid.group (amid_in g place c amid));
}

-- ---- a block of a group block

-- the bytes of its group block up to it
pub gathered_now : (g : Geometry) (v : Volume) (place c : ℕ) (old start now bytes : List ℕ) → c < g.ncg → IsInGroupBlock g c place
    → (place ≡ group_start g c → start ≡ []) → ((place ≡ group_start g c → ⊥) → start ≡ old) → now ≡ start ++ bytes → bytes ≡ block_at g.fsize v place
    → (IsAmidGroup g place c → old ≡ (area_of g.fsize (group_start g c) (place - group_start g c) v).value)
    → now ≡ (area_of g.fsize (group_start g c) (place + 1 - group_start g c) v).value
gathered_now g v place c old start now bytes small in_block first later is has before =
    let a = group_start g c in
    let k = place - a in
    let at : a + k ≡ place = omega (arith, in_block.0) in
    let more = area_more g.fsize a k (place + 1 - a) v (omega (arith, in_block.0)) in
    let last : bytes ≡ block_at g.fsize v (a + k) = has ∙ ap (λ (n : ℕ). block_at g.fsize v n) (sym at) in
    let front : start ≡ (area_of g.fsize a k v).value = elim (cases_eq place a) [
      | inl e ↦
          let zero_k : k ≡ 0 = omega (arith, e) in
          first e ∙ sym (area_none g.fsize a v) ∙ ap (λ (n : ℕ). (area_of g.fsize a n v).value) (sym zero_k)
      | inr ne ↦ later ne ∙ before (record { group = small; begun = omega (arith, in_block.0, ne); ends = in_block.1 })
    ] in
    is ∙ ap (λ xs. xs ++ bytes) front ∙ ap (λ ys. (area_of g.fsize a k v).value ++ ys) last ∙ sym more

pub zero_product : (k l : ℕ) → k ≡ 0 → 0 ≡ k * l
zero_product k l e =
    let none : 0 * l ≡ 0 = grind (arith) in
    sym (ap (λ n. n * l) e ∙ none)

pub next_product : (i l : ℕ) → i * l + l ≡ (i + 1) * l
next_product i l = grind (arith)

-- before the first block nothing is gathered
pub gathered_none : (g : Geometry) (group : List ℕ) → HasGathered g 0 group
gathered_none g group c amid = absurd (let begun = amid.begun in omega (arith, begun))

-- and how many they are
pub gathered_room : (g : Geometry) (place c : ℕ) (old start now bytes : List ℕ) → c < g.ncg → IsInGroupBlock g c place
    → (place ≡ group_start g c → start ≡ []) → ((place ≡ group_start g c → ⊥) → start ≡ old) → now ≡ start ++ bytes → length bytes ≡ g.fsize → HasGathered g place old
    → length now ≡ (place + 1 - group_start g c) * g.fsize
gathered_room g place c old start now bytes small in_block first later is size before =
    let a = group_start g c in
    let k = place - a in
    let more : k + 1 ≡ place + 1 - a = omega (arith, in_block.0) in
    let front : length start ≡ k * g.fsize = elim (cases_eq place a) [
      | inl e ↦
          ap length (first e) ∙ zero_product k g.fsize (omega (arith, e))
      | inr ne ↦ ap length (later ne) ∙ before c (record { group = small; begun = omega (arith, in_block.0, ne); ends = in_block.1 })
    ] in
    ap length is ∙ length-append start bytes ∙ ap (λ (n : ℕ). n + length bytes) front ∙ ap (λ (n : ℕ). k * g.fsize + n) size ∙ next_product k g.fsize
    ∙ ap (λ (n : ℕ). n * g.fsize) more

pub gathered_next : (g : Geometry) (place c : ℕ) (now : List ℕ) → IsGeometry g → c < g.ncg → IsInGroupBlock g c place → length now ≡ (place + 1 - group_start g c) * g.fsize
    → HasGathered g (place + 1) now
gathered_next g place c now is small in_block room d amid =
    let same = one_group g c d place is small amid.group in_block (amid_in g place d amid) in
    room ∙ ap (λ (x : ℕ). (place + 1 - group_start g x) * g.fsize) same

-- with the last block of a group block all its bytes are there
pub whole_room : (g : Geometry) (place c : ℕ) (now : List ℕ) → IsGeometry g → length now ≡ (place + 1 - group_start g c) * g.fsize → place - group_start g c + 1 ≡ g.frag
    → group_start g c ≤ place → g.bsize ≤ length now
whole_room g place c now is room last low =
    let sizes = is.frag in
    let all : place + 1 - group_start g c ≡ g.frag = omega (arith, last, low) in
    let bytes : length now ≡ g.frag * g.fsize = room ∙ ap (λ (n : ℕ). n * g.fsize) all in
    omega (arith, sizes.3, bytes)

-- another one than the last
pub marks_amid : (g : Geometry) (v : Volume) (place c : ℕ) (free : List Bool) (old now : List ℕ) → IsGeometry g → c < g.ncg → IsInGroupBlock g c place
    → (place - group_start g c + 1 ≡ g.frag → ⊥) → now ≡ (area_of g.fsize (group_start g c) (place + 1 - group_start g c) v).value
    → AreMarksBefore g v place free old → AreMarksBefore g v (place + 1) free now
marks_amid g v place c free old now is small in_block more has so_far = record {
  here = λ f past. elim (below_cases place (group_start g (f / g.fpg) + g.frag)) [
    | inl early ↦
        let some = is.frag in
        let there : IsInGroupBlock g (f / g.fpg) place = (omega (arith, past.1, some.1), early) in
        let same = one_group g c (f / g.fpg) place is small (group_below g f is (past.0)) in_block there in
        absurd (more (let end : group_start g c + g.frag ≤ place + 1 = subst (λ (x : ℕ). group_start g x + g.frag ≤ place + 1) (sym same) (past.1) in omega (arith, end, in_block.0, in_block.1)))
    | inr ended ↦ so_far.here f (past.0, ended)
  ];
  later = λ f off. so_far.later f (λ past. off (past_before g place f past));
  amid = λ d amid.
      let same = one_group g c d place is small amid.group in_block (amid_in g place d amid) in
      subst (λ (x : ℕ). now ≡ (area_of g.fsize (group_start g x) (place + 1 - group_start g x) v).value) same has;
}

-- the last one, with which the marks of its group are set
pub marks_last : (g : Geometry) (v : Volume) (place c : ℕ) (free marked : List Bool) (old now : List ℕ) → IsGeometry g → c < g.ncg → IsInGroupBlock g c place
    → place - group_start g c + 1 ≡ g.frag → now ≡ (area_of g.fsize (group_start g c) (place + 1 - group_start g c) v).value
    → ((f : ℕ) → cgbase g c ≤ f → f < end_of g c → is_marked marked f ≡ by_maps (group_in g (f / g.fpg) now) (λ group. is_free now group (f % g.fpg)))
    → ((f : ℕ) → ((f < cgbase g c) ⊎ (end_of g c ≤ f)) → is_marked marked f ≡ is_marked free f)
    → AreMarksBefore g v place free old → AreMarksBefore g v (place + 1) marked now
marks_last g v place c free marked old now is small in_block last has inner outer so_far =
    let all : place + 1 - group_start g c ≡ g.frag = omega (arith, last, in_block.0) in
    let whole : now ≡ (group_bytes g c v).value = has ∙ ap (λ (n : ℕ). (area_of g.fsize (group_start g c) n v).value) all ∙ group_whole g v c in
    record {
      here = λ f past. elim (cases_eq (f / g.fpg) c) [
        | inl same ↦
            let range = in_group_range g f c is (past.0) same in
            inner f (range.0) (range.1) ∙ free_is g v f now (whole ∙ ap (λ (x : ℕ). (group_bytes g x v).value) (sym same))
        | inr apart ↦
            outer f (off_group_range g f c (past.0) apart)
            ∙ so_far.here f (
              past.0,
              elim (below_cases place (group_start g (f / g.fpg) + g.frag)) [
                | inr ended ↦ ended
                | inl early ↦
                    let some = is.frag in
                    absurd (apart (sym (one_group g c (f / g.fpg) place is small (group_below g f is (past.0)) in_block (omega (arith, past.1, some.1), early))))
              ],
            )
      ];
      later = λ f off. elim (below_cases f g.size) [
        | inr past ↦ outer f (inr (end_inside g c f past)) ∙ so_far.later f (λ before. off (past_before g place f before))
        | inl inside ↦ elim (cases_eq (f / g.fpg) c) [
          | inl same ↦ absurd (off (inside, (let end : group_start g c + g.frag ≤ place + 1 = omega (arith, last, in_block.0) in subst (λ (x : ℕ). group_start g x + g.frag ≤ place + 1) (sym same) end)))
          | inr apart ↦ outer f (off_group_range g f c inside apart) ∙ so_far.later f (λ before. off (past_before g place f before))
        ]
      ];
      amid = λ d amid.
          let same = one_group g c d place is small amid.group in_block (amid_in g place d amid) in
          let ends : place + 1 < group_start g c + g.frag = subst (λ (x : ℕ). place + 1 < group_start g x + g.frag) (sym same) amid.ends in
          absurd (omega (arith, ends, last, in_block.0));
    }

-- ---- the whole sweep

group_ends : (g : Geometry) (f : ℕ) → IsGeometry g → f < g.size → group_start g (f / g.fpg) + g.frag ≤ g.size
group_ends g f is inside =
    let some = is.frag in
    let last = group_start g (f / g.fpg) + g.frag - 1 in
    let own = in_its_group g (f / g.fpg) last is (group_below g f is inside) (omega (arith, some.1)) (omega (arith, some.1)) in
    omega (arith, own.1, some.1)

pub free_swept : (g : Geometry) (v : Volume) (free : List Bool) (group : List ℕ) → IsGeometry g → AreMarksBefore g v g.size free group → (f : ℕ) → is_marked free f ≡ free_by g v f
free_swept g v free group is swept f = elim (below_cases f g.size) [
  | inl inside ↦ swept.here f (inside, group_ends g f is inside) ∙ sym (in_volume g v f inside)
  | inr past ↦ swept.later f (λ before. omega (arith, past, before.0)) ∙ sym (past_volume g v f past)
]

pub kinds_swept : (g : Geometry) (v : Volume) (kinds : List (ℕ × Kind)) → ((inode : ℕ) → inode < g.ncg * g.ipg → inode_block g inode < g.size) → AreKindsBefore g v g.size kinds
    → (i : ℕ) → kind_at kinds i ≡ kind_by g v i
kinds_swept g v kinds inside swept i = elim (below_cases i 2) [
  | inl small ↦ swept.later i (λ stands. omega (arith, stands.0, small)) ∙ sym (kind_none g v i (inl small))
  | inr low ↦ elim (below_cases i (g.ncg * g.ipg)) [
    | inl high ↦ swept.here i (low, high, inside i high)
    | inr past ↦ swept.later i (λ stands. omega (arith, stands.1, past)) ∙ sym (kind_none g v i (inr past))
  ]
]
