-- No more calls write a reply than its lines and bytes allow.
use Rattle.std.proofs.Common.{◌≡◌, ◌≤◌, ℕ, List, [], ◌∷◌, ◌++◌, length, length-append, refl, arith}
use Rattle.std.specs.Prelude.{codes}
use Rattle.std.specs.Fmt.{decimal}
use Rattle.std.specs.List.{sum_by}
use Rattle.hex.specs.Hex.{encode_lower, lower_digits}
use Rattle.hex.proofs.HexLemmas.{length-encode_with}
use Rattle.dg_io.specs.SinkLines.{MayWrite, feeds_in}
use Rattle.dg_model.specs.Paths.{PathOf}
use Rattle.dg_model.specs.declared.findings.Finding.{Finding}
use Rattle.dg_model.specs.declared.findings.Finding.TheVariants.{Bad as BadFinding, Unnamed, Unclaimed}
use Rattle.dg_model.specs.declared.replies.Reply.{Reply}
use Rattle.dg_model.specs.declared.replies.Reply.TheVariants.{Done, Range, Degraded, Unavailable, Already, Lost, NotOut, Failed, NotFilling, Copied, Settled, Malformed, NoSpace, Tended, Diffused, NotSettled, Verdict, Blocks, Data, Given, Cut, Listed as ListedReply, ListedCut, Nodes, NodesCut, Refused, HomeAt, NoHome, Saved, NotSaved, Whole, TooFew, Regrouped, LostFiles, LostFilesCut, Audited, NotParity, Mended}
use Rattle.dg_text.specs.LineCalls.{bytes_calls, calls_of, entry_calls, path_calls}
use Rattle.dg_text.specs.Lines.{hex_word, path_word}
use Rattle.dg_text.specs.LineWeights.{feed_behind, feed_last, feed_number, may_each, may_ended, may_line, may_lines, may_pieces}
use Rattle.dg_text.specs.Listings.{line_in}
use Rattle.dg_text.specs.declared.listings.Form.{Form}
use Rattle.dg_text.specs.declared.listings.Form.TheVariants.{Directory, Volume}
use Rattle.dg_text.specs.Replies.{block_line, blocks_text, bytes_line, entry_line, entry_words, file_text, finding_line, findings_text, entries_text, kind_of, lost_line, lost_text, malformation_word, node_line, nodes_text, refusal, reply_line, usage, words_of}
use Rattle.dg_text.specs.declared.lines.BadLine.{BadLine}
use Rattle.dg_text.proofs.PathWords.{path_word_longer}
use Rattle.ufs_model.specs.Listings.{Listed}

-- ---- the lines of one item

pub block_feed : (b : ℕ) → 1 ≤ feeds_in (block_line b)
block_feed b = feed_number (codes "block ") b

pub finding_feed : (finding : Finding) → 1 ≤ feeds_in (finding_line finding)
finding_feed (BadFinding kind n) =
    feed_behind (codes "bad ") (malformation_word kind ++ (codes " " ++ (decimal n ++ codes "\n")))
    (feed_behind (malformation_word kind) (codes " " ++ (decimal n ++ codes "\n")) (feed_number (codes " ") n))
finding_feed (Unnamed i) = feed_number (codes "note unnamed ") i
finding_feed (Unclaimed f) = feed_number (codes "note unclaimed ") f

pub bytes_feed : (bytes : List ℕ) → 1 ≤ feeds_in (bytes_line bytes)
bytes_feed bytes = feed_behind (codes "bytes ") (encode_lower bytes ++ codes "\n") (feed_last (encode_lower bytes))

pub bytes_weight : (bytes : List ℕ) → MayWrite 255 (bytes_calls bytes) (bytes_line bytes)
bytes_weight bytes =
    let digits = length-encode_with lower_digits bytes in
    let tail = length-append (encode_lower bytes) (codes "\n") in
    let all = length-append (codes "bytes ") (encode_lower bytes ++ codes "\n") in
    may_pieces 4096 (length bytes) (bytes_line bytes) (omega arith) (omega (arith, digits, tail, all)) (bytes_feed bytes)

words_longer : (entry : Listed) → length entry.name ≤ length (entry_words entry)
words_longer entry =
    let name = path_word_longer entry.name in
    simp length-append (omega (arith, name))

entry_weight : (entry : Listed) → MayWrite 255 (entry_calls entry) (entry_line entry)
entry_weight entry =
    let words = words_longer entry in
    let tail = length-append (entry_words entry) (codes "\n") in
    let all = length-append (codes "entry ") (entry_words entry ++ codes "\n") in
    may_pieces 255 (length entry.name) (entry_line entry) (omega arith) (omega (arith, words, tail, all))
    (feed_behind (codes "entry ") (entry_words entry ++ codes "\n") (feed_last (entry_words entry)))

node_weight : (entry : Listed) → MayWrite 255 (entry_calls entry) (node_line entry)
node_weight entry =
    let words = words_longer entry in
    let tail = length-append (entry_words entry) (codes "\n") in
    let space = length-append (codes " ") (entry_words entry ++ codes "\n") in
    let depth = length-append (decimal entry.depth) (codes " " ++ (entry_words entry ++ codes "\n")) in
    let all = length-append (codes "node ") (decimal entry.depth ++ (codes " " ++ (entry_words entry ++ codes "\n"))) in
    may_pieces 255 (length entry.name) (node_line entry) (omega arith) (omega (arith, words, tail, space, depth, all))
    (feed_behind (codes "node ") (decimal entry.depth ++ (codes " " ++ (entry_words entry ++ codes "\n")))
    (feed_behind (decimal entry.depth) (codes " " ++ (entry_words entry ++ codes "\n")) (feed_behind (codes " ") (entry_words entry ++ codes "\n") (feed_last (entry_words entry)))))

-- in whichever form
pub line_weight : (form : Form) (entry : Listed) → MayWrite 255 (entry_calls entry) (line_in form entry)
line_weight Directory entry = entry_weight entry
line_weight Volume entry = node_weight entry

pub lost_weight : (lost : PathOf) → MayWrite 255 (path_calls lost) (lost_line lost)
lost_weight lost =
    let path = path_word_longer lost.path in
    let tail = length-append (path_word lost.path) (codes "\n") in
    let space = length-append (codes " ") (path_word lost.path ++ codes "\n") in
    let number = length-append (decimal lost.inode) (codes " " ++ (path_word lost.path ++ codes "\n")) in
    let all = length-append (codes "lost ") (decimal lost.inode ++ (codes " " ++ (path_word lost.path ++ codes "\n"))) in
    may_pieces 1023 (length lost.path) (lost_line lost) (omega arith) (omega (arith, path, tail, space, number, all))
    (feed_behind (codes "lost ") (decimal lost.inode ++ (codes " " ++ (path_word lost.path ++ codes "\n")))
    (feed_behind (decimal lost.inode) (codes " " ++ (path_word lost.path ++ codes "\n")) (feed_behind (codes " ") (path_word lost.path ++ codes "\n") (feed_last (path_word lost.path)))))

-- the answer to a refused line
pub refusal_feed : (number : ℕ) (kind : BadLine) → 1 ≤ feeds_in (refusal number kind)
refusal_feed number kind =
    feed_behind (codes "line ") (decimal number ++ (codes " " ++ (kind_of kind ++ codes "\n")))
    (feed_behind (decimal number) (codes " " ++ (kind_of kind ++ codes "\n")) (feed_behind (codes " ") (kind_of kind ++ codes "\n") (feed_last (kind_of kind))))

pub usage_feed : 1 ≤ feeds_in usage
usage_feed =
    let one_line : feeds_in usage ≡ 1 = refl in
    omega (arith, one_line)

-- ---- a reply

hex_longer : (bytes : List ℕ) → length bytes ≤ length (hex_word bytes)
hex_longer [] = omega arith
hex_longer (x ∷ xs) = omega (arith, length-encode_with lower_digits (x ∷ xs))

data_weight : (bytes : List ℕ) → MayWrite 255 (bytes_calls bytes) (reply_line (Data bytes))
data_weight bytes =
    let digits = hex_longer bytes in
    let words = length-append (codes "data ") (hex_word bytes) in
    let all = length-append (codes "data " ++ hex_word bytes) (codes "\n") in
    may_pieces 4096 (length bytes) (reply_line (Data bytes)) (omega arith) (omega (arith, digits, words, all)) (feed_last (codes "data " ++ hex_word bytes))

one : (reply : Reply) → MayWrite 255 1 (reply_line reply)
one reply = may_line 255 (reply_line reply) (feed_last (words_of reply))

pub reply_weight : (reply : Reply) → MayWrite 255 (calls_of reply) (reply_line reply)
reply_weight (Blocks blocks) = may_ended (length blocks) (blocks_text blocks) _ (may_each block_line blocks block_feed)
reply_weight (Data bytes) = data_weight bytes
reply_weight (Given lines) = may_ended (sum_by bytes_calls lines) (file_text lines) _ (may_lines bytes_line bytes_calls lines bytes_weight)
reply_weight (Cut lines) = may_ended (sum_by bytes_calls lines) (file_text lines) _ (may_lines bytes_line bytes_calls lines bytes_weight)
reply_weight (ListedReply entries) = may_ended (sum_by entry_calls entries) (entries_text entries) _ (may_lines entry_line entry_calls entries entry_weight)
reply_weight (ListedCut entries) = may_ended (sum_by entry_calls entries) (entries_text entries) _ (may_lines entry_line entry_calls entries entry_weight)
reply_weight (Nodes entries) = may_ended (sum_by entry_calls entries) (nodes_text entries) _ (may_lines node_line entry_calls entries node_weight)
reply_weight (NodesCut entries) = may_ended (sum_by entry_calls entries) (nodes_text entries) _ (may_lines node_line entry_calls entries node_weight)
reply_weight (LostFiles files) = may_ended (sum_by path_calls files) (lost_text files) _ (may_lines lost_line path_calls files lost_weight)
reply_weight (LostFilesCut files) = may_ended (sum_by path_calls files) (lost_text files) _ (may_lines lost_line path_calls files lost_weight)
reply_weight (Audited findings) = may_ended (length findings) (findings_text findings) _ (may_each finding_line findings finding_feed)
reply_weight Done = one Done
reply_weight Range = one Range
reply_weight Degraded = one Degraded
reply_weight Unavailable = one Unavailable
reply_weight Already = one Already
reply_weight (Lost s) = one (Lost s)
reply_weight NotOut = one NotOut
reply_weight Failed = one Failed
reply_weight NotFilling = one NotFilling
reply_weight (Copied done left) = one (Copied done left)
reply_weight Settled = one Settled
reply_weight (Malformed kind n) = one (Malformed kind n)
reply_weight (NoSpace room) = one (NoSpace room)
reply_weight (Tended met left) = one (Tended met left)
reply_weight (Diffused gained) = one (Diffused gained)
reply_weight NotSettled = one NotSettled
reply_weight (Verdict who) = one (Verdict who)
reply_weight (Refused refusal) = one (Refused refusal)
reply_weight (HomeAt s copy) = one (HomeAt s copy)
reply_weight NoHome = one NoHome
reply_weight (Saved sequence) = one (Saved sequence)
reply_weight NotSaved = one NotSaved
reply_weight Whole = one Whole
reply_weight TooFew = one TooFew
reply_weight (Regrouped boundaries blocks) = one (Regrouped boundaries blocks)
reply_weight NotParity = one NotParity
reply_weight (Mended stripes) = one (Mended stripes)
