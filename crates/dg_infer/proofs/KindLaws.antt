-- The kinds of inodes on a volume after a write of one block.
use Rattle.std.proofs.Common.{◌≡◌, ◌∙◌, ℕ, ◌*◌, ◌<◌, ◌≤◌, ◌⊎◌, inl, inr, List, cond, Option, None, sym, ap, arith, take, drop}
use Rattle.std.proofs.lemmas.Bool.{cases_eq}
use Rattle.std.specs.Prelude.{slice_set}
use Rattle.ufs_model.specs.Blocks.{Volume, bind, block_at}
use Rattle.ufs_model.specs.Inodes.{inode_block, inode_byte, inode_in, inode_of}
use Rattle.ufs_model.specs.Inodes.{is_inode_number}
use Rattle.ufs_model.specs.declared.geometries.Geometry.{Geometry}
use Rattle.ufs_model.specs.declared.inodes.Kind.{Kind}
use Rattle.dg_infer.proofs.ListLaws.{below_cases}
use Rattle.dg_infer.proofs.TargetLaws.{below_range, cond_false, cond_true, in_range, other_block, past_range}
use Rattle.dg_infer.specs.Claimed.{StandsIn}
use Rattle.dg_infer.specs.Meanings.{kind_by, pointing_kind}

-- in the bytes of its block
pub kind_stored : (g : Geometry) (v : Volume) (i block byte : ℕ) (bytes : List ℕ) → 2 ≤ i → i < g.ncg * g.ipg → block ≡ inode_block g i → byte ≡ inode_byte g i → bytes ≡ block_at g.fsize v block
    → pointing_kind g (inode_in g.endian (take 128 (drop byte bytes))) ≡ kind_by g v i
unfolding kind_by inode_of bind
kind_stored g v i block byte bytes low high here at has =
    ap (λ n. pointing_kind g (inode_in g.endian (take 128 (drop n bytes)))) at
    ∙ ap (λ xs. pointing_kind g (inode_in g.endian (take 128 (drop (inode_byte g i) xs)))) (has ∙ ap (λ b. block_at g.fsize v b) here)
    ∙ sym (cond_true (is_inode_number g i) _ None (in_range g i low high))

-- in another block
pub kind_off : (g : Geometry) (v : Volume) (b : ℕ) (bytes : List ℕ) (i : ℕ) → (inode_block g i ≡ b → ⊥) → kind_by g v i ≡ kind_by g (slice_set v b bytes) i
unfolding kind_by inode_of bind
kind_off g v b bytes i apart =
    ap (λ xs. cond (is_inode_number g i) (pointing_kind g (inode_in g.endian (take 128 (drop (inode_byte g i) xs)))) None) (other_block g.fsize v b bytes (inode_block g i) apart)

-- no inode
pub kind_none : (g : Geometry) (v : Volume) (i : ℕ) → (i < 2) ⊎ (g.ncg * g.ipg ≤ i) → kind_by g v i ≡ None
unfolding kind_by inode_of bind
kind_none g v i (inl small) = cond_false (is_inode_number g i) _ None (below_range g i small)
kind_none g v i (inr past) = cond_false (is_inode_number g i) _ None (past_range g i past)

pub kinds_moved : (g : Geometry) (v : Volume) (b : ℕ) (bytes : List ℕ) (old new : ℕ → Option Kind) → ((i : ℕ) → old i ≡ kind_by g v i)
    → ((i : ℕ) → StandsIn g i b → new i ≡ kind_by g (slice_set v b bytes) i)
    → ((i : ℕ) → (StandsIn g i b → ⊥) → new i ≡ old i)
    → (i : ℕ) → new i ≡ kind_by g (slice_set v b bytes) i
kinds_moved g v b bytes old new was here others i = elim (cases_eq (inode_block g i) b) [
  | inr apart ↦ others i (λ stands. apart (stands.2)) ∙ was i ∙ kind_off g v b bytes i apart
  | inl at ↦ elim (below_cases i 2) [
    | inl small ↦ others i (λ stands. omega (arith, stands.0, small)) ∙ was i ∙ kind_none g v i (inl small) ∙ sym (kind_none g (slice_set v b bytes) i (inl small))
    | inr low ↦ elim (below_cases i (g.ncg * g.ipg)) [
      | inl high ↦ here i (low, high, at)
      | inr past ↦ others i (λ stands. omega (arith, stands.1, past)) ∙ was i ∙ kind_none g v i (inr past) ∙ sym (kind_none g (slice_set v b bytes) i (inr past))
    ]
  ]
]
