-- What is printed of a drill has a line.
use Rattle.std.proofs.Common.{◌≤◌, ℕ, List, ◌++◌}
use Rattle.std.specs.Prelude.{codes}
use Rattle.std.specs.Fmt.{decimal}
use Rattle.dg_drill.specs.Reports.{boundary_of, first_line, given_bytes, given_count, report_text, unavailable_count}
use Rattle.dg_io.specs.SinkLines.{feeds_in}
use Rattle.dg_model.specs.declared.replies.Reply.{Reply}
use Rattle.dg_text.specs.LineWeights.{feed_behind, feed_number}
use Rattle.dg_text.specs.Replies.{reply_line}

pub report_feed : (seed files written : ℕ) (settled : Reply) (cats : List Reply) → 1 ≤ feeds_in (report_text seed files written settled cats)
report_feed seed files written settled cats =
    feed_behind
    (first_line seed files
    ++ (codes "blocks " ++ (decimal written ++ codes "\n"))
    ++ reply_line settled
    ++ (codes "lost " ++ (decimal (boundary_of seed) ++ codes "\n"))
    ++ (codes "given " ++ (decimal (given_count seed 0 cats) ++ (codes " bytes " ++ (decimal (given_bytes seed 0 cats) ++ codes "\n")))))
    (codes "unavailable " ++ (decimal (unavailable_count cats) ++ codes "\n"))
    (feed_number (codes "unavailable ") (unavailable_count cats))
