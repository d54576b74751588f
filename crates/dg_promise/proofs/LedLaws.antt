-- What is reached through a source is consulted where its first file block is read.
use Rattle.std.proofs.Common.{◌≡◌, ◌∙◌, ℕ, zero, suc, ◌+◌, ◌-◌, ◌*◌, ◌/◌, ◌%◌, ◌^◌, ◌<◌, ◌≤◌, inl, inr, length, Bool, true, false, ◌&&◌, List, [], ◌∷◌, Option, Some, None, refl, sym, ap, subst, arith}
use Rattle.std.specs.Prelude.{Contains, if◌then◌else◌, nat_lt, slice_get}
use Rattle.std.proofs.Math.Nat.{mul-le-mul_right}
use Rattle.std.proofs.lemmas.Bool.{cases_lt}
use Rattle.std.proofs.lemmas.Bool.Decides.{nat_tests}
use Rattle.std.proofs.lemmas.List.Elements.{Contains-append_left, Contains-append_right}
use Rattle.std.proofs.lemmas.Nat.{div-mul-add, mod-mul-add}
use Rattle.ufs_model.specs.Blocks.{Volume, area_of, bind, block_at}
use Rattle.ufs_model.specs.Claims.{fragments_at, fragments_from, level_of, pointer_fragments, slot_fragments, slot_fragments_in, source_fragments}
use Rattle.ufs_model.specs.Inodes.{has_pointers, inode_of, is_inode_number, slot_of, span}
use Rattle.ufs_model.specs.Malformations.{FirstBlock, inode_at}
use Rattle.ufs_model.specs.Malformations.FirstBlock.{of_pointer, of_slot}
use Rattle.ufs_model.specs.Paths.{block_of, bytes_at}
use Rattle.ufs_model.specs.Pointers.{address, file_block_of, pointer_in, slot_address, through}
use Rattle.ufs_model.specs.declared.claims.ClaimSource.{ClaimSource}
use Rattle.ufs_model.specs.declared.claims.ClaimSource.TheVariants.{Pointer, Slot}
use Rattle.ufs_model.specs.declared.geometries.Geometry.{Geometry}
use Rattle.ufs_model.specs.declared.inodes.Inode.{Inode}
use Rattle.ufs_model.specs.declared.pointers.Address.{Address}
use Rattle.ufs_model.specs.declared.pointers.Address.TheVariants.{At, Hole, Wild}
use Rattle.ufs_frames.specs.Frames.{IsFile, IsWhole}
use Rattle.ufs_frames.proofs.ClaimLaws.{reached_claim}
use Rattle.ufs_frames.proofs.DataLaws.{fragments_within}
use Rattle.ufs_frames.proofs.FragmentLaws.{contains_got, fragments_have, in_none, pointer_at_fragment, pointers_many, quarters}
use Rattle.ufs_frames.proofs.ReachLaws.{address_span, pointer_claims, slot_claims, slot_whole}
use Rattle.dg_promise.proofs.WalkLaws.{Leads, first_needs, first_value, slot_leads, step_leads}

-- ---- fragments

-- an address with fragments
record IsAt (at : Address) : Type 0 where
  start : ℕ
  count : ℕ
  is : at ≡ At start count

is_at : (at : Address) (f : ℕ) → Contains (fragments_at at) f → IsAt at
is_at Hole f h = absurd (in_none f h)
is_at Wild f h = absurd (in_none f h)
is_at (At a k) f h = record { start = a; count = k; is = refl }

within_by : (has low : Bool) (xs : List ℕ) (f : ℕ) → Contains (if has && low then xs else []) f → low ≡ true
within_by true true xs f h = refl
within_by true false xs f h = absurd (in_none f h)
within_by false low xs f h = absurd (in_none f h)

slot_of_some : (g : Geometry) (inode : Inode) (slot f : ℕ) → Contains (slot_fragments g inode slot) f → slot < 15
unfolding slot_fragments
slot_of_some g inode slot f h =
    let low = within_by (has_pointers g inode) (nat_lt slot 15) (fragments_at (slot_address g inode slot)) f h in
    grind (arith, nat_tests)

slot_of_found : (g : Geometry) (i slot f : ℕ) (inode : Inode) (number : Bool) (found : Option Inode) → (if number then found else None) ≡ Some inode
    → Contains (if number then slot_fragments_in g slot found else []) f → slot < 15
slot_of_found g i slot f inode true None is h = absurd (in_none f h)
slot_of_found g i slot f inode true (Some other) is h = slot_of_some g other slot f h
slot_of_found g i slot f inode false found is h = absurd (in_none f h)

pub slot_low : (g : Geometry) (v : Volume) (i slot f : ℕ) (inode : Inode) → inode_at g v i ≡ Some inode → Contains (source_fragments g v (Slot i slot)) f → slot < 15
unfolding source_fragments
slot_low g v i slot f inode is h = slot_of_found g i slot f inode (is_inode_number g i) ((inode_of g i v).value) is h

low_by : (low : Bool) (xs : List ℕ) (f : ℕ) → Contains (if low then xs else []) f → low ≡ true
low_by true xs f h = refl
low_by false xs f h = absurd (in_none f h)

pub pointer_low : (g : Geometry) (v : Volume) (u level at f : ℕ) → Contains (source_fragments g v (Pointer u level at)) f → at < g.fsize / 4
unfolding source_fragments pointer_fragments
pointer_low g v u level at f h =
    let low = low_by (nat_lt at (g.fsize / 4)) (fragments_at (address g (pointer_in g.endian (block_at g.fsize v u) at) g.frag)) f h in
    grind (arith, nat_tests)

-- the fragment at a place
got_is : (a k place f : ℕ) → slice_get (fragments_from a k) place ≡ Some f → (place < k) × (f ≡ a + place)
got_is a zero place f h = let no : None ≡ Some f = h in cc
got_is a (suc k) zero f h = (omega arith, let same : Some a ≡ Some f = h in let e : a ≡ f = cc in omega arith)
got_is a (suc k) (suc place) f h = let rest = got_is (suc a) k place f h in (let low = rest.0 in omega arith, let e = rest.1 in omega arith)

-- blocks end to end are consulted each
area_all : (l a k b : ℕ) (v : Volume) → a ≤ b → b < a + k → Contains ((area_of l a k v).needs) b
unfolding area_of bind
area_all l a zero b v low high = absurd (omega arith)
area_all l a (suc k) b v low high = elim (cases_lt b (a + k)) [
  | inl lt ↦ Contains-append_left ((area_of l a k v).needs) ((a + k) ∷ []) b (area_all l a k b v low lt)
  | inr ge ↦ let same : b ≡ a + k = omega arith in Contains-append_right ((area_of l a k v).needs) ((a + k) ∷ []) b (contains_got ((a + k) ∷ []) 0 b (ap Some (sym same)))
]

-- ---- the way to a source

module _ (g : Geometry) (v : Volume) (whole : IsWhole g v) (i : ℕ) (inode : Inode) (file : IsFile g v i inode) where
  -- what a source claims stands at an address, through which the file blocks from one on are found
  record IsLed (source : ClaimSource) (n : ℕ) : Type 0 where
    at : Address
    are : source_fragments g v source ≡ fragments_at at
    full : 0 < level_of source → (a k : ℕ) → at ≡ At a k → k ≡ g.frag
    leads : Leads g inode v (level_of source) n at

  some_pointers : 0 < g.nindir
  some_pointers = let many = pointers_many g whole.geometry in omega arith

  -- the place of a pointer in its indirect block
  number_low : (place at : ℕ) → place < g.frag → at < g.fsize / 4 → place * (g.fsize / 4) + at < g.nindir
  number_low place at low inside =
      let many = whole.geometry.nindir in
      let product = whole.geometry.frag.3 in
      let quarter = (quarters g whole.geometry).0 in
      let all : g.frag * (4 * (g.fsize / 4)) ≡ 4 * (g.frag * (g.fsize / 4)) = grind (arith) in
      let bytes : g.bsize ≡ 4 * (g.frag * (g.fsize / 4)) = product ∙ ap (λ (k : ℕ). g.frag * k) quarter ∙ all in
      let more : (place + 1) * (g.fsize / 4) ≤ g.frag * (g.fsize / 4) = mul-le-mul_right (g.fsize / 4) (let h : place + 1 ≤ g.frag = omega arith in h) in
      let next : (place + 1) * (g.fsize / 4) ≡ place * (g.fsize / 4) + g.fsize / 4 = grind (arith) in
      omega arith

  below : (other : ClaimSource) (m place u level at f a : ℕ) → FirstBlock g v other i m → source_fragments g v other ≡ fragments_from a g.frag → slice_get (source_fragments g v other) place ≡ Some u
      → level_of other ≡ level → 0 < level → Contains (source_fragments g v (Pointer u level at)) f → Leads g inode v (level_of other) m (At a g.frag)
      → IsLed (Pointer u level at) (m + (place * (g.fsize / 4) + at) * g.nindir ^ (level - 1))
  unfolding through bind
  below other m place u level at f a before are here is above has leads =
      let got = got_is a g.frag place u (rw are at here) in
      let inside = pointer_low g v u level at f has in
      let quarter = quarters g whole.geometry in
      let p = place * (g.fsize / 4) + at in
      let index : (place * (g.fsize / 4) + at) / (g.fsize / 4) ≡ place = div-mul-add place (g.fsize / 4) at inside in
      let rest : (place * (g.fsize / 4) + at) % (g.fsize / 4) ≡ at = mod-mul-add place (g.fsize / 4) at inside in
      let blocks : (j : ℕ) → j < g.frag → length (block_at g.fsize v (a + j)) ≡ g.fsize =
      λ j low. whole.uppers (a + j) other (reached_claim g v other i m (a + j) before (rw are (fragments_have a g.frag (a + j) (omega arith) (omega arith)))) (omega arith) in
      let same = pointer_at_fragment g.endian g.fsize a g.frag (place * (g.fsize / 4) + at) v blocks (quarter.0) (quarter.1) (rw index (got.0)) in
      let pointer : pointer_in g.endian (block_at g.fsize v u) at ≡ pointer_in g.endian ((area_of g.fsize a g.frag v).value) (place * (g.fsize / 4) + at) = rw (got.1, same, index, rest) refl in
      let level_is : level_of other ≡ suc (level - 1) = omega arith in
      record {
        at = (through g (place * (g.fsize / 4) + at) (At a g.frag) v).value;
        are = pointer_claims g v u level at inside ∙ ap (λ x. fragments_at (address g x g.frag)) pointer;
        full = λ above b j found. address_span g (pointer_in g.endian ((area_of g.fsize a g.frag v).value) (place * (g.fsize / 4) + at)) g.frag b j found;
        leads = step_leads g inode v (level - 1) m (place * (g.fsize / 4) + at) (At a g.frag) some_pointers (number_low place at (got.0) inside)
            (subst (λ (k : ℕ). Leads g inode v k m (At a g.frag)) level_is leads);
      }

  led : (source : ClaimSource) (n f : ℕ) → FirstBlock g v source i n → Contains (source_fragments g v source) f → IsLed source n
  led source n f (of_slot {slot = slot}) has =
      let low = slot_low g v i slot f inode file.there has in
      record {
        at = slot_address g inode slot;
        are = slot_claims g v i slot inode file.there file.pointers low;
        full = λ above a k is. address_span g (slot_of inode slot) (span g inode slot) a k is ∙ slot_whole g inode slot (omega arith);
        leads = slot_leads g inode v some_pointers slot low;
      }
  led source n f (of_pointer {f = u} {level = level} {at = at} {n = m} {source = other} place before here is above) has =
      let there = contains_got (source_fragments g v other) place u here in
      let up = led other m u before there in
      let start = is_at up.at u (rw up.are at there) in
      let count = up.full (rw is above) start.start start.count start.is in
      let place_is : up.at ≡ At start.start g.frag = start.is ∙ ap (At start.start) count in
      below other m place u level at f start.start before (up.are ∙ ap fragments_at place_is) here is above has
      (subst (λ (x : Address). Leads g inode v (level_of other) m x) place_is up.leads)

  -- ---- what is consulted

  at_level : (source : ClaimSource) (n b level : ℕ) → level_of source ≡ level → IsLed source n → Contains (source_fragments g v source) b → Contains ((block_of g inode n v).needs) b
  unfolding block_of bytes_at through bind
  at_level source n b zero is one has =
      let start = is_at one.at b (rw one.are at has) in
      let level : Leads g inode v 0 n one.at = subst (λ (k : ℕ). Leads g inode v k n one.at) is one.leads in
      let value = first_value g inode v n one.at level ∙ start.is in
      let range = fragments_within start.start start.count b (subst (λ x. Contains (fragments_at x) b) start.is (rw one.are at has)) in
      Contains-append_right ((file_block_of g inode n v).needs) _ b
      (rw value (Contains-append_left ((area_of g.fsize start.start start.count v).needs) [] b (area_all g.fsize start.start start.count b v range.0 range.1)))
  at_level source n b (suc k) is one has =
      let start = is_at one.at b (rw one.are at has) in
      let level : Leads g inode v (suc k) n one.at = subst (λ (k : ℕ). Leads g inode v k n one.at) is one.leads in
      let range = fragments_within start.start start.count b (subst (λ x. Contains (fragments_at x) b) start.is (rw one.are at has)) in
      let taken : Contains ((through g 0 (At start.start start.count) v).needs) b =
      Contains-append_left ((area_of g.fsize start.start start.count v).needs) [] b (area_all g.fsize start.start start.count b v range.0 range.1) in
      Contains-append_left ((file_block_of g inode n v).needs) _ b
      (first_needs g inode v k n b one.at some_pointers level (subst (λ x. Contains ((through g 0 x v).needs) b) (sym start.is) taken))

  -- what is reached through a source is consulted for the first file block that is
  pub reached_needed : (source : ClaimSource) (n b : ℕ) → FirstBlock g v source i n → Contains (source_fragments g v source) b → Contains ((block_of g inode n v).needs) b
  reached_needed source n b reaches has = at_level source n b (level_of source) refl (led source n b reaches has) has
