use Rattle.std.proofs.Common.{◌≡◌, ◌≤◌, ◌*◌, ◌^◌, length, take}
use Rattle.std.specs.List.{concat}
use Rattle.dg_text.proofs.replies.bytes_in.Given as goal

abbrev pub invariant-loop-line : goal.invariant-loop-line
invariant-loop-line l = record {
  is : l.count ≡ length (concat (take l.line-index l.lines));
  most : l.count ≤ l.line-index * 2 ^ 64;
}
