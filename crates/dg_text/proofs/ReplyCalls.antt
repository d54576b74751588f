-- A reply with short lines is written by one call a line.
use Rattle.std.proofs.Common.{◌<◌, ◌≤◌, ℕ, List, length, arith}
use Rattle.std.specs.Prelude.{All}
use Rattle.std.specs.List.{sum_by}
use Rattle.std.proofs.lemmas.List.Elements.{All-weaker}
use Rattle.std.proofs.lemmas.List.Sums.{sum_by-le}
use Rattle.dg_model.specs.Paths.{PathOf}
use Rattle.dg_model.specs.declared.replies.Reply.{Reply}
use Rattle.dg_model.specs.declared.replies.Reply.TheVariants.{Done, Range, Degraded, Unavailable, Already, Lost, NotOut, Failed, NotFilling, Copied, Settled, Malformed, NoSpace, Tended, Diffused, NotSettled, Verdict, Blocks, Data, Given, Cut, Listed as ListedReply, ListedCut, Nodes, NodesCut, Refused, HomeAt, NoHome, Saved, NotSaved, Whole, TooFew, Regrouped, LostFiles, LostFilesCut, Audited, NotParity, Mended}
use Rattle.dg_text.specs.LineCalls.{HasShortLines, calls_of, lines_of, pieces}
use Rattle.dg_text.proofs.Pieces.{pieces_one}
use Rattle.ufs_model.specs.Listings.{Listed}

-- one piece for each line
all_one : {A : Type 0} (most : ℕ) (size : A → ℕ) (xs : List A) → 0 < most → All (λ x. size x ≤ most) xs → sum_by (λ x. pieces most (size x)) xs ≤ length xs
all_one {A} most size xs some short =
    let ones = All-weaker (λ x. size x ≤ most) (λ x. pieces most (size x) ≤ 1) (λ x within. (let one = pieces_one most (size x) some within in omega (arith, one))) xs short in
    let sum = sum_by-le (λ x. pieces most (size x)) 1 xs ones in
    omega (arith, sum)

pub a_call_a_line : (reply : Reply) → HasShortLines reply → calls_of reply ≤ lines_of reply
a_call_a_line (Data bytes) short = let one = pieces_one 4096 (length bytes) (omega arith) short in omega (arith, one)
a_call_a_line (Given lines) short = let sum = all_one 4096 (λ (line : List ℕ). length line) lines (omega arith) short in omega (arith, sum)
a_call_a_line (Cut lines) short = let sum = all_one 4096 (λ (line : List ℕ). length line) lines (omega arith) short in omega (arith, sum)
a_call_a_line (ListedReply entries) short = let sum = all_one 255 (λ (entry : Listed). length entry.name) entries (omega arith) short in omega (arith, sum)
a_call_a_line (ListedCut entries) short = let sum = all_one 255 (λ (entry : Listed). length entry.name) entries (omega arith) short in omega (arith, sum)
a_call_a_line (Nodes entries) short = let sum = all_one 255 (λ (entry : Listed). length entry.name) entries (omega arith) short in omega (arith, sum)
a_call_a_line (NodesCut entries) short = let sum = all_one 255 (λ (entry : Listed). length entry.name) entries (omega arith) short in omega (arith, sum)
a_call_a_line (LostFiles files) short = let sum = all_one 1023 (λ (lost : PathOf). length lost.path) files (omega arith) short in omega (arith, sum)
a_call_a_line (LostFilesCut files) short = let sum = all_one 1023 (λ (lost : PathOf). length lost.path) files (omega arith) short in omega (arith, sum)
a_call_a_line Done short = omega arith
a_call_a_line Range short = omega arith
a_call_a_line Degraded short = omega arith
a_call_a_line Unavailable short = omega arith
a_call_a_line Already short = omega arith
a_call_a_line (Lost s) short = omega arith
a_call_a_line NotOut short = omega arith
a_call_a_line Failed short = omega arith
a_call_a_line NotFilling short = omega arith
a_call_a_line (Copied done left) short = omega arith
a_call_a_line Settled short = omega arith
a_call_a_line (Malformed kind n) short = omega arith
a_call_a_line (NoSpace room) short = omega arith
a_call_a_line (Tended met left) short = omega arith
a_call_a_line (Diffused gained) short = omega arith
a_call_a_line NotSettled short = omega arith
a_call_a_line (Verdict who) short = omega arith
a_call_a_line (Blocks blocks) short = omega arith
a_call_a_line (Refused refusal) short = omega arith
a_call_a_line (HomeAt s copy) short = omega arith
a_call_a_line NoHome short = omega arith
a_call_a_line (Saved sequence) short = omega arith
a_call_a_line NotSaved short = omega arith
a_call_a_line Whole short = omega arith
a_call_a_line TooFew short = omega arith
a_call_a_line (Regrouped boundaries blocks) short = omega arith
a_call_a_line (Audited findings) short = omega arith
a_call_a_line NotParity short = omega arith
a_call_a_line (Mended stripes) short = omega arith
