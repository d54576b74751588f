-- What is wrong with the pointers of a fragment of an indirect block, by its bytes.
use Rattle.std.proofs.Common.{◌≡◌, ◌≢◌, ℕ, suc, inl, inr, length, ◌+◌, ◌/◌, ◌<◌, ◌≤◌, List, Bool, true, Option, None, Some, nat_le, sym, subst, add-one, arith}
use Rattle.std.specs.Prelude.{Contains}
use Rattle.std.specs.Bool.{Decides}
use Rattle.std.proofs.lemmas.Bool.{cases_order}
use Rattle.ufs_model.specs.Blocks.{Volume, block_at}
use Rattle.ufs_model.specs.Malformations.{HasMisalignedIn, HasPastIn, HasWildIn, IsBad}
use Rattle.ufs_model.specs.Pointers.{address, pointer_in}
use Rattle.ufs_model.specs.declared.claims.ClaimSource.{ClaimSource}
use Rattle.ufs_model.specs.declared.geometries.Geometry.{Geometry}
use Rattle.ufs_model.specs.declared.malformations.BadKind.TheVariants.{WildIn, AlignIn, Twice, PastIn, Free}
use Rattle.ufs_model.specs.declared.pointers.Address.TheVariants.{Wild, At}
use Rattle.dg_claims.specs.Kept.{size_in}
use Rattle.dg_claims.specs.Tables.{ClaimTable}
use Rattle.ufs_check.proofs.ClaimLaws.{claim_inside, upper_in, upper_of}
use Rattle.ufs_check.proofs.NoteLaws.{all_all, all_passed}
use Rattle.ufs_check.proofs.ReachLaws.{reach_upper}
use Rattle.std.proofs.lemmas.Bool.Decides.{nat_tests}
use Rattle.ufs_check.specs.Fragments.{AreFragmentFaults, AreFragmentFaultsBelow, ArePointerFaultsBelow, HasClaimsOf, IsUpperIn}
use Rattle.ufs_frames.specs.Frames.{HasWholeUppers}
use Rattle.ufs_check.specs.Limits.{IsLimit}
use Rattle.ufs_check.specs.Pointers.{HasMisalignedPointer, HasPastPointer, HasWildPointer}
use Rattle.ufs_check.specs.declared.limits.Limit.{Limit}
use Rattle.ufs_check.specs.declared.verdicts.FragmentFaults.{FragmentFaults}

pub wild_decides : (g : Geometry) (table : ClaimTable) (v : Volume) (f : ℕ) (bytes : List ℕ) (b : Bool) → HasClaimsOf g table v → IsUpperIn table f → bytes ≡ block_at g.fsize v f
    → Decides b (HasWildPointer g bytes) → Decides b (HasWildIn g v f)
wild_decides g table v f bytes b has upper is decides =
    let above = upper_of g table v f has upper in (
      λ test.
          let one = decides.0 test in record {
            level = above.0;
            at = one.at;
            upper = above.1;
            is = one.is;
            wild = subst (λ bytes. address g (pointer_in g.endian bytes (one.at)) g.frag ≡ Wild) is one.wild;
          },
      λ one. decides.1 (record {
        at = one.at;
        is = one.is;
        wild = subst (λ bytes. address g (pointer_in g.endian bytes (one.at)) g.frag ≡ Wild) (sym is) one.wild;
      }),
    )

pub misaligned_decides : (g : Geometry) (table : ClaimTable) (v : Volume) (f : ℕ) (bytes : List ℕ) (b : Bool) → HasClaimsOf g table v → IsUpperIn table f → bytes ≡ block_at g.fsize v f
    → Decides b (HasMisalignedPointer g bytes) → Decides b (HasMisalignedIn g v f)
misaligned_decides g table v f bytes b has upper is decides =
    let above = upper_of g table v f has upper in (
      λ test.
          let one = decides.0 test in record {
            level = above.0;
            at = one.at;
            start = one.start;
            upper = above.1;
            is = one.is;
            whole = subst (λ bytes. address g (pointer_in g.endian bytes (one.at)) g.frag ≡ At (one.start) g.frag) is one.whole;
            middle = one.middle;
          },
      λ one. decides.1 (record {
        at = one.at;
        start = one.start;
        is = one.is;
        whole = subst (λ bytes. address g (pointer_in g.endian bytes (one.at)) g.frag ≡ At (one.start) g.frag) (sym is) one.whole;
        middle = one.middle;
      }),
    )

pub past_decides : (g : Geometry) (v : Volume) (f : ℕ) (bytes : List ℕ) (limit : Option Limit) (b : Bool) → bytes ≡ block_at g.fsize v f → IsLimit g v f limit
    → Decides b (HasPastPointer g bytes limit) → Decides b (HasPastIn g v f)
past_decides g v f bytes limit b is limits decides = (
  λ test.
      let one = decides.0 test in
      let past = (limits.past (one.at)).1 one.past in record {
        level = past.level;
        at = one.at;
        i = past.i;
        inode = past.inode;
        block = past.block;
        owned = past.owned;
        is = one.is;
        some = subst (λ bytes. pointer_in g.endian bytes (one.at) ≢ 0) is one.some;
        reaches = past.reaches;
        owner = past.owner;
        past = past.past;
      },
  λ one. decides.1 (record {
    at = one.at;
    is = one.is;
    some = subst (λ bytes. pointer_in g.endian bytes (one.at) ≢ 0) (sym is) one.some;
    past = (limits.past (one.at)).0
        (record { level = one.level; i = one.i; inode = one.inode; block = one.block; owned = one.owned; reaches = one.reaches; owner = one.owner; past = one.past });
  }),
)

-- a fragment of data has no pointers
pub no_pointers : (g : Geometry) (table : ClaimTable) (v : Volume) (f : ℕ) (faults : FragmentFaults) → HasClaimsOf g table v → (IsUpperIn table f → ⊥)
    → ArePointerFaultsBelow g v f faults → ArePointerFaultsBelow g v (f + 1) faults
no_pointers g table v f faults has lower so_far = record {
  wild_in = all_passed (IsBad g v WildIn) f faults.wild_in.items (λ one. lower (upper_in g table v f (one.level) has one.upper)) so_far.wild_in;
  align_in = all_passed (IsBad g v AlignIn) f faults.align_in.items (λ one. lower (upper_in g table v f (one.level) has one.upper)) so_far.align_in;
  past_in = all_passed (IsBad g v PastIn) f faults.past_in.items (λ one. lower (reach_upper g table v f (one.level) (one.at) (one.i) (one.block) has one.reaches)) so_far.past_in;
}

-- no fault is past the volume's end
pub faults_all : (g : Geometry) (table : ClaimTable) (v : Volume) (bound : ℕ) (faults : FragmentFaults) → HasClaimsOf g table v → table.geometry ≡ Some g
    → ((f : ℕ) (source : ClaimSource) → Contains (table.claimed source) f → f < size_in table.geometry) → g.size ≤ bound
    → AreFragmentFaultsBelow g v bound faults → AreFragmentFaults g v faults
faults_all g table v bound faults has is inside end so_far =
    let below = λ (f : ℕ) (source : ClaimSource). claim_inside g table v f source has is inside in record {
      wild_in = all_all (IsBad g v WildIn) bound faults.wild_in.items (λ f one. let lt = below f (one.upper.source) one.upper.claim in omega arith) so_far.pointers.wild_in;
      align_in = all_all (IsBad g v AlignIn) bound faults.align_in.items (λ f one. let lt = below f (one.upper.source) one.upper.claim in omega arith) so_far.pointers.align_in;
      twice = all_all (IsBad g v Twice) bound faults.twice.items (λ f two. let lt = below f (two.one) two.first in omega arith) so_far.claimed.twice;
      past_in = all_all (IsBad g v PastIn) bound faults.past_in.items
          (λ f one. let upper = reach_upper g table v f (one.level) (one.at) (one.i) (one.block) has one.reaches in
          let lt : f < g.size = subst (λ geometry. f < size_in geometry) is (inside f (upper.0) (upper.2)) in omega arith)
          so_far.pointers.past_in;
      free = all_all (IsBad g v Free) bound faults.free.items (λ f one. let lt = below f (one.source) one.claim in omega arith) so_far.claimed.free;
    }

-- ---- fragments of indirect blocks have their bytes

pub uppers_more : (g : Geometry) (table : ClaimTable) (v : Volume) (f : ℕ) → ((m : ℕ) → m < f → IsUpperIn table m → length (block_at g.fsize v m) ≡ g.fsize)
    → (IsUpperIn table f → length (block_at g.fsize v f) ≡ g.fsize) → (m : ℕ) → m < suc f → IsUpperIn table m → length (block_at g.fsize v m) ≡ g.fsize
uppers_more g table v f below here m lt upper = elim (cases_order m f) [
  | inl same ↦ rw same (here (rw (← same) upper))
  | inr other ↦ elim other [ inl less ↦ below m less upper | inr greater ↦ absurd (omega arith) ]
]

pub uppers_all : (g : Geometry) (table : ClaimTable) (v : Volume) (bound : ℕ) → HasClaimsOf g table v → table.geometry ≡ Some g
    → ((f : ℕ) (source : ClaimSource) → Contains (table.claimed source) f → f < size_in table.geometry) → g.size ≤ bound
    → ((m : ℕ) → m < bound → IsUpperIn table m → length (block_at g.fsize v m) ≡ g.fsize) → HasWholeUppers g v
uppers_all g table v bound has is inside end below = λ f source claim above.
    let lt = claim_inside g table v f source has is inside claim in
    below f (omega arith) (source, above, (has f source).1 claim)
