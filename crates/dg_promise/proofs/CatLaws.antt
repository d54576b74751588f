-- On a sound volume: which blocks the file at a path needs, and that it needs each of its own.
use Rattle.std.proofs.Common.{◌≡◌, ◌≢◌, ℕ, ◌+◌, ◌*◌, ◌-◌, ◌/◌, ◌^◌, ◌<◌, ◌≤◌, inl, inr, true, Some, refl, sym, subst}
use Rattle.std.specs.Prelude.{Contains, MatchOption}
use Rattle.std.proofs.lemmas.Bool.{cases_lt}
use Rattle.ufs_model.specs.Blocks.{Volume}
use Rattle.ufs_model.specs.Claims.{IsClaim, fragments_at, source_fragments}
use Rattle.ufs_model.specs.Inodes.{block_count, has_pointers, kind_of, slot_of, span}
use Rattle.ufs_model.specs.Malformations.{FirstBlock, HasPast, HasWild, IsBad, IsPointed, first_block, inode_at, pointer_at}
use Rattle.ufs_model.specs.Malformations.FirstBlock.{of_pointer, of_slot}
use Rattle.ufs_model.specs.Owners.{IsOwner}
use Rattle.ufs_model.specs.Owners.IsOwner.{by_own_slot, by_upper}
use Rattle.ufs_model.specs.Paths.{contents_of, is_regular}
use Rattle.ufs_model.specs.Pointers.{address, file_block_of}
use Rattle.ufs_model.specs.declared.claims.ClaimSource.{ClaimSource}
use Rattle.ufs_model.specs.declared.claims.ClaimSource.TheVariants.{Pointer, Slot}
use Rattle.ufs_model.specs.declared.geometries.Geometry.{Geometry}
use Rattle.ufs_model.specs.declared.inodes.Inode.{Inode}
use Rattle.ufs_model.specs.declared.malformations.BadKind.{BadKind}
use Rattle.ufs_model.specs.declared.malformations.BadKind.TheVariants.{Filesize, Past, PastIn, Wild as WildSlot, WildIn}
use Rattle.ufs_model.specs.declared.pointers.Address.TheVariants.{Hole, Wild}
use Rattle.ufs_frames.specs.Frames.{FilesAreTame, IsFile, IsWhole}
use Rattle.ufs_frames.proofs.FragmentLaws.{in_none}
use Rattle.ufs_frames.proofs.NeedLaws.{regular_kind}
use Rattle.ufs_frames.proofs.ReachLaws.{pointer_claims, slot_claims}
use Rattle.dg_promise.proofs.LedLaws.{pointer_low, reached_needed, slot_low}
use Rattle.dg_promise.proofs.OwnerLaws.{claim_contains, place_in, pointer_above, traced}
use Rattle.dg_promise.proofs.ReadLaws.{IsRead, contents_need, contents_read}

-- ---- claims of what isn't 0

hole : (g : Geometry) (a k : ℕ) → a ≡ 0 → address g a k ≡ Hole
unfolding address
hole g a k is = rw is refl

address_some : (g : Geometry) (a k f : ℕ) → Contains (fragments_at (address g a k)) f → a ≢ 0
address_some g a k f h = λ is. in_none f (subst (λ at. Contains (fragments_at at) f) (hole g a k is) h)

-- ---- what an inode owns

-- block b belongs to the inode by a source, through which one of its file blocks is reached
record IsOwned (g : Geometry) (v : Volume) (i : ℕ) (inode : Inode) (b : ℕ) : Type 0 where
  source : ClaimSource
  first : ℕ
  reaches : FirstBlock g v source i first
  has : Contains (source_fragments g v source) b
  low : first < block_count g inode

pointed : (g : Geometry) (v : Volume) (i : ℕ) (inode : Inode) (holds : Inode → Type 0) → IsFile g v i inode → holds inode → IsPointed g v i holds
pointed g v i inode holds file h = subst (λ found. MatchOption found ⊥ (λ other. (has_pointers g other ≡ true) × holds other)) (sym file.there) (file.pointers, h)

owned : (g : Geometry) (v : Volume) (sound : (kind : BadKind) (number : ℕ) → IsBad g v kind number → ⊥) (i : ℕ) (inode : Inode) {b level : ℕ} → IsFile g v i inode
    → IsOwner (IsClaim (source_fragments g v)) b i level → IsOwned g v i inode b
owned g v sound i inode file (by_own_slot {fragment = b} {slot = slot} one is) =
    let has = claim_contains one.claim in
    let low = slot_low g v i slot b inode file.there has in
    let here = subst (λ fragments. Contains fragments b) (slot_claims g v i slot inode file.there file.pointers low) has in
    elim (cases_lt (first_block g slot) (block_count g inode)) [
      | inl lt ↦ record { source = Slot i slot; first = first_block g slot; reaches = of_slot; has = has; low = lt }
      | inr ge ↦ absurd (sound Past i (pointed g v i inode (HasPast g v) file (record { slot = slot; is = low; some = address_some g (slot_of inode slot) (span g inode slot) b here; past = ge })))
    ]
owned g v sound i inode file (by_upper {fragment = b} {upper = u} {at = at} {above = above} one is owner) =
    let up = traced g v owner in
    let has = claim_contains one.claim in
    let low = pointer_low g v u above at b has in
    let here = subst (λ fragments. Contains fragments b) (pointer_claims g v u above at low) has in
    let spot = place_in (source_fragments g v up.source) u (claim_contains up.one.claim) in
    let first = up.first + (spot.place * (g.fsize / 4) + at) * g.nindir ^ (above - 1) in
    let reaches = of_pointer {at = at} spot.place up.reaches spot.here up.of_level (pointer_above one.claim) in
    elim (cases_lt (up.first + (spot.place * (g.fsize / 4) + at) * g.nindir ^ (above - 1)) (block_count g inode)) [
      | inl lt ↦ record { source = Pointer u above at; first = first; reaches = reaches; has = has; low = lt }
      | inr ge ↦ absurd (sound PastIn u (record {
        level = above;
        at = at;
        i = i;
        inode = inode;
        block = first;
        owned = owner;
        is = low;
        some = address_some g (pointer_at g v u at) g.frag b here;
        reaches = reaches;
        owner = file.there;
        past = ge;
      }))
    ]

-- ---- a regular file of a sound volume

module _ (tame : FilesAreTame) (g : Geometry) (v : Volume) (whole : IsWhole g v) (sound : (kind : BadKind) (number : ℕ) → IsBad g v kind number → ⊥)
    (i : ℕ) (inode : Inode) (there : inode_at g v i ≡ Some inode) (regular : is_regular (kind_of inode.mode) ≡ true) where
  pub the_file : IsFile g v i inode
  the_file = record { there = there; pointers = rw (regular_kind (kind_of inode.mode) regular) refl }

  is_small : inode.size < 2 ^ 32
  is_small = elim (cases_lt inode.size (2 ^ 32)) [
    | inl lt ↦ lt
    | inr ge ↦ absurd (sound Filesize i (pointed g v i inode (λ (other : Inode). 2 ^ 32 ≤ other.size) the_file ge))
  ]

  is_tame : (n : ℕ) → n < block_count g inode → (file_block_of g inode n v).value ≢ Wild
  is_tame n low = tame g v i n inode whole the_file is_small low (record {
    slots = λ wild. sound WildSlot i (pointed g v i inode (HasWild g v) the_file wild);
    pointers = λ f wild. sound WildIn f wild;
  })

  pub file_read : IsRead (contents_of g inode) v
  file_read = contents_read g v inode is_tame regular is_small

  pub file_needs : (b level : ℕ) → IsOwner (IsClaim (source_fragments g v)) b i level → Contains ((contents_of g inode v).needs) b
  file_needs b level owner =
      let one = owned g v sound i inode the_file owner in
      contents_need g v inode is_tame regular is_small one.first b one.low (reached_needed g v whole i inode the_file one.source one.first b one.reaches one.has)
