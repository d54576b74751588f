-- What a view in memory means, and its fetches.
use Rattle.std.proofs.Common.{◌≤◌, ◌+◌, ◌-◌, ◌^◌, ℕ, List, [], ◌++◌, length, length-append, arith}
use Rattle.std.specs.Prelude.{Bool, min}
use Rattle.dg_io.specs.MemViews.{gone_in, IsImage}
use Rattle.dg_io.specs.declared.memory_views.MemView.{MemView}

abbrev pub size_of : MemView → ℕ
size_of view = view.size

abbrev pub count_of : MemView → ℕ
count_of view = view.count

-- its image has these blocks
abbrev pub stands_in : MemView → List (List ℕ) → Type 0
stands_in view blocks = IsImage view.image.items view.count view.size blocks

-- which blocks are gone by now
abbrev pub gone_now : MemView → ℕ → Bool
gone_now view b = gone_in view.losses.items view.fetches b

-- the fetches of so many blocks were counted; a count is a 64-bit number that stands still at its end
pub record CountsFetches (old : MemView) (blocks : List ℕ) (new : MemView) : Type 0 where
  pub rose : min (old.fetches + length blocks) (2 ^ 64 - 1) ≤ new.fetches
  pub most : new.fetches ≤ old.fetches + length blocks

pub counts_none : (s : MemView) → CountsFetches s [] s
counts_none s = record { rose = omega arith; most = omega arith }

pub counts_both : (a b c : MemView) (x y : List ℕ) → CountsFetches a x b → CountsFetches b y c → CountsFetches a (x ++ y) c
counts_both a b c x y first second = record {
  rose = omega (arith, length-append x y, first.rose, second.rose);
  most = omega (arith, length-append x y, first.most, second.most);
}
