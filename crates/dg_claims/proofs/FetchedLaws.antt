-- One block that is read, and fetches one after another.
use Rattle.std.proofs.Common.{◌≡◌, ◌∙◌, ℕ, ◌+◌, List, Bool, true, false, ap, arith}
use Rattle.std.specs.Bool.{then_some}
use Rattle.std.proofs.lemmas.Bool.{false≢true}
use Rattle.ufs_model.specs.Blocks.{Volume, area_of, bind, block_at}
use Rattle.ufs_model.specs.Readings.{ReadsAs}

one_value : (l a : ℕ) (v : Volume) → (area_of l a 1 v).value ≡ block_at l v a
unfolding area_of bind
one_value l a v = let same : a + 0 ≡ a = omega arith in ap (λ b. block_at l v b) same

pub one_read : {stands : Volume → Type 0} {tells : Type 0} {before after : ℕ → Bool} (l a : ℕ) (got : Bool) (bytes : List ℕ) → ReadsAs stands before tells after (area_of l a 1) (then_some got bytes)
    → got ≡ true → tells → (v : Volume) → stands v → bytes ≡ block_at l v a
one_read l a true bytes reads got_it is v holds = (reads.rule is v holds).answer ∙ one_value l a v
one_read l a false bytes reads got_it is v holds = absurd (false≢true got_it)
