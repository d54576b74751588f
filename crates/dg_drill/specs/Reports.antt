-- What a drill prints: how many of its files were given and how many weren't. The text is this project's own.
use Rattle.std.specs.Prelude.{ℕ, suc, ◌+◌, ◌%◌, ◌==◌, Bool, true, false, List, [], ◌∷◌, ◌++◌, if◌then◌else◌, codes, length}
use Rattle.std.specs.Cmp.Lexicographic.{pointwise}
use Rattle.std.specs.Fmt.{decimal}
use Rattle.std.specs.List.{concat}
use Rattle.ufs_drill.specs.Items.{file_bytes}
use Rattle.dg_model.specs.declared.replies.Reply.{Reply}
use Rattle.dg_model.specs.declared.replies.Reply.TheVariants.{Given, Unavailable}
use Rattle.dg_text.specs.Replies.{reply_line}

-- ---- single files

-- the reply gives just these bytes
abbrev pub gives : List ℕ → Reply → Bool
gives bytes (Given lines) = pointwise ◌==◌ (concat lines) bytes
gives bytes reply = false

abbrev pub is_unavailable : Reply → Bool
is_unavailable Unavailable = true
is_unavailable reply = false

-- ---- the files from number k on, by their replies

abbrev pub given_count : ℕ → ℕ → List Reply → ℕ
given_count seed k [] = 0
given_count seed k (reply ∷ replies) = (if gives (file_bytes seed k) reply then 1 else 0) + given_count seed (suc k) replies

-- the bytes of those that were given
abbrev pub given_bytes : ℕ → ℕ → List Reply → ℕ
given_bytes seed k [] = 0
given_bytes seed k (reply ∷ replies) = (if gives (file_bytes seed k) reply then length (file_bytes seed k) else 0) + given_bytes seed (suc k) replies

abbrev pub unavailable_count : List Reply → ℕ
unavailable_count [] = 0
unavailable_count (reply ∷ replies) = (if is_unavailable reply then 1 else 0) + unavailable_count replies

-- ---- text

-- the boundary that is lost
abbrev pub boundary_of : ℕ → ℕ
boundary_of seed = seed % 4

abbrev pub first_line : ℕ → ℕ → List ℕ
first_line seed files = codes "drill " ++ (decimal seed ++ (codes " " ++ (decimal files ++ codes "\n")))

-- `drill SEED FILES`, `blocks W`, the reply to the `settle`, `lost S`, `given G bytes T`, `unavailable U`
abbrev pub report_text : ℕ → ℕ → ℕ → Reply → List Reply → List ℕ
report_text seed files written settled cats =
    first_line seed files
    ++ (codes "blocks " ++ (decimal written ++ codes "\n"))
    ++ reply_line settled
    ++ (codes "lost " ++ (decimal (boundary_of seed) ++ codes "\n"))
    ++ (codes "given " ++ (decimal (given_count seed 0 cats) ++ (codes " bytes " ++ (decimal (given_bytes seed 0 cats) ++ codes "\n"))))
    ++ (codes "unavailable " ++ (decimal (unavailable_count cats) ++ codes "\n"))
