-- What a drill loses: the files whose home is the lost boundary.
use Rattle.std.specs.Prelude.{◌≡◌, ℕ, ◌+◌, ◌==◌, Bool, false, List, [], ◌∷◌, Option, Some, None, Result, Ok, Err, count_by}
use Rattle.std.specs.List.{range_with_len}
use Rattle.ufs_drill.specs.Items.{file_path}
use Rattle.dg_drill.specs.Reports.{boundary_of}
use Rattle.dg_model.specs.Homes.{home_of}
use Rattle.dg_model.specs.States.{State}
use Rattle.dg_model.specs.declared.replies.Reply.{Reply}
use Rattle.dg_promise.specs.Promises.{GivesAll, LeadsTo, file_at}
use Rattle.ufs_model.specs.declared.reads.PathRefusal.{PathRefusal}

-- a home is that boundary
abbrev pub is_at : ℕ → Option ℕ → Bool
is_at s None = false
is_at s (Some home) = home == s

-- the home of the regular file that was found is that boundary
abbrev pub stands_at : State → ℕ → Result ℕ PathRefusal → Bool
stands_at state s (Ok i) = is_at s (home_of state.homes i)
stands_at state s (Err refusal) = false

-- how many of a drill's files have their home on the lost boundary
abbrev pub lost_homes : State → ℕ → ℕ → ℕ
lost_homes state seed files = count_by (λ k. stands_at state (boundary_of seed) (file_at state (file_path k))) (range_with_len 0 files)

-- each of the files from number k on whose home isn't that boundary is given, with the bytes that reading it gives
abbrev pub AreGiven : ℕ → State → ℕ → List Reply → Type 0
AreGiven s state k [] = Unit {0}
AreGiven s state k (reply ∷ replies) =
    ((i : ℕ) → LeadsTo state (file_path k) i → is_at s (home_of state.homes i) ≡ false → GivesAll state (file_path k) reply)
    × AreGiven s state (k + 1) replies
