-- How many calls a commit of a double rack takes, by the marks of its answer.
use Rattle.std.proofs.Common.{◌≡◌, ◌≤◌, ℕ, Bool, true, false, List, refl, sym, ◌∙◌}
use Rattle.std.specs.Prelude.{Option, Some, None, not, ◌&&◌}
use Rattle.std.proofs.lemmas.Bool.{false≢true}
use Rattle.dg_io.specs.Commits.{is_marked}
use Rattle.dg_stop.proofs.CommitCounts.{commit_less, members_le}
use Rattle.dg_stop.specs.Behind.{calls_of_commit, members_of}
use Rattle.dg_stop.specs.DoubleCommits.{answer_in, fell_now}
use Rattle.dg_stop.specs.Phases.{flag_in}
use Rattle.dg_stop.specs.StopCalls.{double_commits}

was_served : (x y : Bool) → (x && not y) ≡ true → x ≡ true
was_served true y is = refl
was_served false y is = absurd (false≢true is)

pub commit_called : (keep marks : ℕ) (served serves : List Bool) (made : Option ℕ) → ((q : ℕ) → flag_in served q ≡ is_marked keep q)
    → ((q : ℕ) → is_marked marks q ≡ fell_now served serves q)
    → calls_of_commit (members_of (flag_in served)) (members_of (fell_now served serves)) ≤ double_commits keep (answer_in made marks)
commit_called keep marks served serves (Some sequence) flags fallen =
    commit_less (members_of (flag_in served)) (members_of (is_marked keep)) (members_of (fell_now served serves)) (members_of (is_marked marks))
    (members_le (flag_in served) (is_marked keep) (λ q is. sym (flags q) ∙ is)) (members_le (fell_now served serves) (is_marked marks) (λ q is. fallen q ∙ is))
commit_called keep marks served serves None flags fallen =
    commit_less (members_of (flag_in served)) (members_of (is_marked keep)) (members_of (fell_now served serves)) (members_of (is_marked keep))
    (members_le (flag_in served) (is_marked keep) (λ q is. sym (flags q) ∙ is))
    (members_le (fell_now served serves) (is_marked keep) (λ q is. sym (flags q) ∙ was_served (flag_in served q) (flag_in serves q) is))
