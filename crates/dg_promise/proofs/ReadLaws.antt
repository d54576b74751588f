-- The contents of a file of which no file block is wild: they are read, and each of its file blocks is consulted.
use Rattle.std.proofs.Common.{◌≡◌, ◌≢◌, ◌∙◌, ℕ, zero, suc, ◌^◌, ◌<◌, ◌≤◌, inl, inr, true, false, [], ◌++◌, Some, None, Result, Ok, Err, refl, sym, ap, subst, arith}
use Rattle.std.specs.Prelude.{Contains, nat_le}
use Rattle.std.proofs.lemmas.Bool.{cases_lt}
use Rattle.std.proofs.lemmas.Bool.Decides.{nat_tests}
use Rattle.std.proofs.lemmas.List.Elements.{Contains-append_left, Contains-append_right}
use Rattle.ufs_model.specs.Blocks.{Reading, Volume, bind}
use Rattle.ufs_model.specs.Inodes.{block_count, kind_of}
use Rattle.ufs_model.specs.Paths.{block_of, bytes_at, contents_of, file_refusal, front_of, is_regular, part_of, unless_refused}
use Rattle.ufs_model.specs.Pointers.{file_block_of}
use Rattle.ufs_model.specs.Readings.{and_then, on_ok}
use Rattle.ufs_model.specs.declared.geometries.Geometry.{Geometry}
use Rattle.ufs_model.specs.declared.inodes.Inode.{Inode}
use Rattle.ufs_model.specs.declared.pointers.Address.{Address}
use Rattle.ufs_model.specs.declared.pointers.Address.TheVariants.{At, Hole, Wild}

-- ---- one reading after another

pub then_ok : {A B R : Type 0} (d : Reading (Result A R)) (f : A → Reading (Result B R)) (v : Volume) (a : A) → (d v).value ≡ Ok a → (and_then d f v).value ≡ (f a v).value
unfolding and_then bind
then_ok d f v a is = rw is refl

pub then_refused : {A B R : Type 0} (d : Reading (Result A R)) (f : A → Reading (Result B R)) (v : Volume) (refusal : R) → (d v).value ≡ Err refusal
    → (and_then d f v).value ≡ Err refusal
unfolding and_then bind
then_refused d f v refusal is = rw is refl

pub then_first : {A B R : Type 0} (d : Reading (Result A R)) (f : A → Reading (Result B R)) (v : Volume) (b : ℕ) → Contains ((d v).needs) b → Contains ((and_then d f v).needs) b
unfolding and_then bind
then_first d f v b h = Contains-append_left ((d v).needs) ((on_ok ((d v).value) f v).needs) b h

pub then_second : {A B R : Type 0} (d : Reading (Result A R)) (f : A → Reading (Result B R)) (v : Volume) (a : A) (b : ℕ) → (d v).value ≡ Ok a
    → Contains ((f a v).needs) b → Contains ((and_then d f v).needs) b
unfolding and_then bind
then_second d f v a b is h = Contains-append_right ((d v).needs) ((on_ok ((d v).value) f v).needs) b (rw is h)

-- a reading that isn't refused
pub record IsRead {A R : Type 0} (d : Reading (Result A R)) (v : Volume) : Type 0 where
  pub answer : A
  pub is : (d v).value ≡ Ok answer

-- ---- a file

module _ (g : Geometry) (v : Volume) (inode : Inode) (tame : (n : ℕ) → n < block_count g inode → (file_block_of g inode n v).value ≢ Wild) where
  bytes_read : (at : Address) → at ≢ Wild → IsRead (bytes_at g at) v
  unfolding bytes_at bind
  bytes_read Hole tame_at = record { answer = None; is = refl }
  bytes_read Wild tame_at = absurd (tame_at refl)
  bytes_read (At a k) tame_at = record { answer = Some _; is = refl }

  block_read : (n : ℕ) → n < block_count g inode → IsRead (block_of g inode n) v
  unfolding block_of bind
  block_read n low = let bytes = bytes_read ((file_block_of g inode n v).value) (tame n low) in record { answer = bytes.answer; is = bytes.is }

  part_read : (n : ℕ) → n < block_count g inode → IsRead (part_of g inode n) v
  unfolding part_of
  part_read n low = let block = block_read n low in record { answer = _; is = then_ok (block_of g inode n) _ v block.answer block.is }

  front_read : (k : ℕ) → k ≤ block_count g inode → IsRead (front_of g inode k) v
  unfolding front_of
  front_read zero low = record { answer = []; is = refl }
  front_read (suc k) low =
      let front = front_read k (omega arith) in
      let part = part_read k (omega arith) in
      record {
        answer = front.answer ++ part.answer;
        is = then_ok (front_of g inode k) _ v front.answer front.is ∙ then_ok (part_of g inode k) _ v part.answer part.is;
      }

  part_needs : (n b : ℕ) → Contains ((block_of g inode n v).needs) b → Contains ((part_of g inode n v).needs) b
  unfolding part_of
  part_needs n b h = then_first (block_of g inode n) _ v b h

  front_needs : (k n b : ℕ) → k ≤ block_count g inode → n < k → Contains ((block_of g inode n v).needs) b → Contains ((front_of g inode k v).needs) b
  unfolding front_of
  front_needs zero n b few low h = absurd (omega arith)
  front_needs (suc k) n b few low h = elim (cases_lt n k) [
    | inl lt ↦ then_first (front_of g inode k) _ v b (front_needs k n b (omega arith) lt h)
    | inr ge ↦
        let same : n ≡ k = omega arith in
        let front = front_read k (omega arith) in
        then_second (front_of g inode k) _ v front.answer b front.is
        (then_first (part_of g inode k) _ v b (part_needs k b (subst (λ (x : ℕ). Contains ((block_of g inode x v).needs) b) same h)))
  ]

  -- ---- its contents

  module _ (regular : is_regular (kind_of inode.mode) ≡ true) (small : inode.size < 2 ^ 32) where
    unrefused : file_refusal inode ≡ None
    unfolding file_refusal
    unrefused =
        let low : nat_le (2 ^ 32) inode.size ≡ false = grind (arith, nat_tests) in
        rw (regular, low) refl

    contents_are : contents_of g inode ≡ front_of g inode (block_count g inode)
    unfolding contents_of
    contents_are = ap (λ refusal. unless_refused refusal (front_of g inode (block_count g inode))) unrefused

    pub contents_read : IsRead (contents_of g inode) v
    contents_read =
        let front = front_read (block_count g inode) (omega arith) in
        record { answer = front.answer; is = ap (λ d. (d v).value) contents_are ∙ front.is }

    pub contents_need : (n b : ℕ) → n < block_count g inode → Contains ((block_of g inode n v).needs) b → Contains ((contents_of g inode v).needs) b
    contents_need n b low h = subst (λ d. Contains ((d v).needs) b) (sym contents_are) (front_needs (block_count g inode) n b (omega arith) low h)
