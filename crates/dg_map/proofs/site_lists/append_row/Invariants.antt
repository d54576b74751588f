use Rattle.std.proofs.Common.{◌≡◌, ◌+◌, ◌++◌, length, take}
use Rattle.dg_map.proofs.site_lists.append_row.Given as goal

abbrev pub invariant-loop-site : goal.invariant-loop-site
invariant-loop-site l = l.rows.items ≡ l.fn.rows.items ++ take l.site-index l.sites

abbrev pub invariant-loop : goal.invariant-loop
invariant-loop l = record {
  front : take (length l.fn.rows.items + length l.sites) l.rows.items ≡ l.fn.rows.items ++ l.sites;
  long : length l.rows.items ≡ length l.fn.rows.items + l.counter;
}
