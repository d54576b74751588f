-- Where no pointer on the way to a file block is wild, the file block isn't.
use Rattle.std.proofs.Common.{◌≡◌, ℕ, suc, ◌+◌, ◌/◌, ◌%◌, ◌^◌, ◌<◌, lit<, refl, subst, arith}
use Rattle.ufs_model.specs.Blocks.{Volume, area_of, bind}
use Rattle.ufs_model.specs.Pointers.{address, chain_address, file_block_of, locate_of, pointer_in, slot_address, through}
use Rattle.ufs_model.specs.declared.claims.ClaimSource.{ClaimSource}
use Rattle.ufs_model.specs.declared.geometries.Geometry.{Geometry}
use Rattle.ufs_model.specs.declared.inodes.Inode.{Inode}
use Rattle.ufs_model.specs.declared.pointers.Address.{Address}
use Rattle.ufs_model.specs.declared.pointers.Address.TheVariants.{At, Hole, Wild}
use Rattle.ufs_model.specs.declared.pointers.Chain.{Chain}
use Rattle.ufs_model.specs.declared.pointers.Chain.TheVariants.{Direct, One, Two, Three}
use Rattle.ufs_frames.specs.Chains.{IsChain}
use Rattle.ufs_frames.specs.Frames.{FilesAreTame, IsFile, IsTame, IsWhole}
use Rattle.ufs_frames.proofs.FragmentLaws.{chain_bounds, fragments_have, place_below, pointer_at_fragment, quarters}
use Rattle.ufs_frames.proofs.ReachLaws.{IsClaimed, IsReached, few, slot_claimed, through_claimed, upper_blocks}

module _ (g : Geometry) (v : Volume) (i : ℕ) (inode : Inode) (whole : IsWhole g v) (file : IsFile g v i inode) (tame : IsTame g v inode) where
  slot_tame : (slot : ℕ) → slot < 15 → slot_address g inode slot ≡ Wild → ⊥
  slot_tame slot low is = tame.slots (record { slot = slot; is = low; wild = is })

  through_wild : (level p a : ℕ) (source : ClaimSource) → p / (g.fsize / 4) < g.frag → IsReached g v i (suc level) source (At a g.frag)
      → address g (pointer_in g.endian ((area_of g.fsize a g.frag v).value) p) g.frag ≡ Wild → ⊥
  through_wild level p a source low one is =
      let quarter = quarters g whole.geometry in
      let some = quarter.1 in
      let inside : p % (g.fsize / 4) < g.fsize / 4 = omega arith in
      let same = pointer_at_fragment g.endian g.fsize a g.frag p v (upper_blocks g v i level a source whole one) (quarter.0) some low in
      tame.pointers (a + p / (g.fsize / 4)) (record {
        level = suc level;
        at = p % (g.fsize / 4);
        upper = record {
          source = source;
          claim = one.claims (a + p / (g.fsize / 4)) (fragments_have a g.frag (a + p / (g.fsize / 4)) (omega arith) (omega arith));
          of_level = one.of_level;
          above = omega arith;
        };
        is = inside;
        wild = subst (λ pointer. address g pointer g.frag ≡ Wild) same is;
      })

  through_tame : (level p : ℕ) (at : Address) → p < g.nindir → IsClaimed g v i (suc level) at → (at ≡ Wild → ⊥) → (through g p at v).value ≡ Wild → ⊥
  unfolding through bind
  through_tame level p Hole low one before is = let no : Hole ≡ Wild = is in cc
  through_tame level p Wild low one before is = before refl
  through_tame level p (At a k) low one before is =
      let same : k ≡ g.frag = one.whole (omega arith) a k refl in
      let reached = one.reached a k refl in
      let wild = subst (λ k. address g (pointer_in g.endian ((area_of g.fsize a k v).value) p) g.frag ≡ Wild) same is in
      through_wild level p a (reached.0) (place_below g p whole.geometry low) (subst (λ k. IsReached g v i (suc level) (reached.0) (At a k)) same (reached.1)) wild

  -- nor is what a chain leads to
  chain_tame : (chain : Chain) → IsChain g.nindir chain → (chain_address g inode chain v).value ≡ Wild → ⊥
  unfolding bind
  chain_tame (Direct slot) low is = slot_tame slot (omega arith) is
  chain_tame (One p) low is =
      through_tame 0 p (slot_address g inode 12) low (slot_claimed g v i 12 inode file.there file.pointers (lit< tt)) (slot_tame 12 (lit< tt)) is
  chain_tame (Two p q) low is =
      let top = slot_claimed g v i 13 inode file.there file.pointers (lit< tt) in
      let one = through_claimed g v i 1 p (slot_address g inode 13) whole (place_below g p whole.geometry low.0) top in
      through_tame 0 q ((through g p (slot_address g inode 13) v).value) low.1 one
      (through_tame 1 p (slot_address g inode 13) low.0 top (slot_tame 13 (lit< tt))) is
  chain_tame (Three p q r) low is =
      let top = slot_claimed g v i 14 inode file.there file.pointers (lit< tt) in
      let two = through_claimed g v i 2 p (slot_address g inode 14) whole (place_below g p whole.geometry low.0) top in
      let one = through_claimed g v i 1 q ((through g p (slot_address g inode 14) v).value) whole (place_below g q whole.geometry low.1) two in
      through_tame 0 r ((through g q ((through g p (slot_address g inode 14) v).value) v).value) low.2 one
      (through_tame 1 q ((through g p (slot_address g inode 14) v).value) low.1 two
      (through_tame 2 p (slot_address g inode 14) low.0 top (slot_tame 14 (lit< tt)))) is

  file_block_tame : (n : ℕ) → n < 2 ^ 30 → (file_block_of g inode n v).value ≡ Wild → ⊥
  unfolding file_block_of
  file_block_tame n small is = chain_tame (locate_of g n) (chain_bounds g n whole.geometry small) is

pub files_tame : FilesAreTame
files_tame = λ g v i n inode whole file small low tame is. file_block_tame g v i inode whole file tame n (few g inode n whole.geometry small low) is
