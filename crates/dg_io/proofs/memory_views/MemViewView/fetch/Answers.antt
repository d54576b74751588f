use Rattle.std.proofs.Common.{◌≡◌, ◌≤◌, ℕ, List, [], ◌∷◌, true, inl, inr, refl, arith}
use Rattle.std.specs.Prelude.{◌==◌, nat_le, ◌&&◌}
use Rattle.std.proofs.lemmas.Bool.{or_cases, or_left, or_right}
use Rattle.std.proofs.lemmas.Bool.Decides.{nat_tests}
use Rattle.dg_io.specs.MemViews.{gone_in}
use Rattle.dg_io.specs.declared.memory_views.Loss.{Loss}
use Rattle.dg_io.proofs.memory_views.MemViewView.fetch.Goals as goal

one_later : (loss : Loss) (early late b : ℕ) → early ≤ late → ((loss.block == b) && nat_le loss.fetch early) ≡ true → ((loss.block == b) && nat_le loss.fetch late) ≡ true
one_later loss early late b le h = grind (arith, nat_tests)

-- what is gone after some fetches is gone after more of them
gone_later : (losses : List Loss) (early late b : ℕ) → early ≤ late → gone_in losses early b ≡ true → gone_in losses late b ≡ true
gone_later [] early late b le h = h
gone_later (loss ∷ losses) early late b le h = elim (or_cases ((loss.block == b) && nat_le loss.fetch early) (gone_in losses early b) h) [
  | inl here ↦ or_left ((loss.block == b) && nat_le loss.fetch late) (gone_in losses late b) (one_later loss early late b le here)
  | inr rest ↦ or_right ((loss.block == b) && nat_le loss.fetch late) (gone_in losses late b) (gone_later losses early late b le rest)
]

pub returns-then-is_lost-clause-keeps : goal.returns-then-is_lost-clause-keeps
returns-then-is_lost-clause-keeps c =
    let later : c.args.self.now.fetches ≤ c.saturating_add-self.result = omega (arith, c.saturating_add-self.ensures) in record {
      stands = λ v h. h;
      told = λ h. h;
      stays = λ b h. gone_later c.args.self.now.losses.items _ _ b later h;
      blocks = refl;
      bytes = refl;
      sound = tt;
      goes = later;
    }

pub returns-clause-keeps : goal.returns-clause-keeps
returns-clause-keeps c =
    let later : c.args.self.now.fetches ≤ c.saturating_add-self.result = omega (arith, c.saturating_add-self.ensures) in record {
      stands = λ v h. h;
      told = λ h. h;
      stays = λ b h. gone_later c.args.self.now.losses.items _ _ b later h;
      blocks = refl;
      bytes = refl;
      sound = tt;
      goes = later;
    }
