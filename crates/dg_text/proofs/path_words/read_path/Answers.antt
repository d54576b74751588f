use Rattle.std.proofs.Common.{◌≡◌}
use Rattle.dg_text.proofs.Lengths.{path_short}
use Rattle.dg_text.proofs.path_words.read_path.Goals as goal

pub returns-in_default-clause-none : goal.returns-in_default-clause-none
returns-in_default-clause-none c h =
    rw c.in_default.is at c.in_ok-bytes.ensures.exact h.0 (path_short h.0 h.1) h.2 h.3

pub returns-then-not-is_path-clause-none : goal.returns-then-not-is_path-clause-none
returns-then-not-is_path-clause-none c h =
    let found : c.in-Some.bytes.items ≡ h.0 = rw c.in-Some.is at c.in_ok-bytes.ensures.exact h.0 (path_short h.0 h.1) h.2 h.3 in
    let one = h.1 in
    cc (found, one, c.is_path.ensures, c.if-not-is_path.true)
