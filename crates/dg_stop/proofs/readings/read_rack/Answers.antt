use Rattle.std.proofs.Common.{◌≡◌, ℕ, arith, replicate, refl, sym, subst}
use Rattle.dg_stop.proofs.ReadLemmas.{all_known, has_read, none_failed, nothing_found}
use Rattle.dg_stop.specs.FoundHeaders.{found_at, no_headers}
use Rattle.dg_stop.proofs.readings.read_rack.Goals as goal

pub find_all-requires-clause-none : goal.find_all-requires-clause-none
find_all-requires-clause-none g c = subst (λ x. (q : ℕ) → found_at (replicate 32 x) q ≡ no_headers) (sym c.nothing-found.ensures) nothing_found

pub find_all-requires-clause-known : goal.find_all-requires-clause-known
find_all-requires-clause-known g c = all_known

pub find_all-requires-clause-failed : goal.find_all-requires-clause-failed
find_all-requires-clause-failed g c = none_failed

pub returns : goal.returns
returns g c =
    has_read g.R.Rack c.find_all.new.found c.find_all.new.known c.find_all.new.failed c.args.rack.now c.find_all.new.rack c.find_all.ensures c.top_of-top.result c.top_of-top.ensures c.read_tables.new.found c.read_tables.new.known c.read_tables.new.failed
    c.read_tables.new.rack c.in_ok-attached.ensures.on (omega (arith, c.read_tables.array_long, c.read_tables.array_long2)) c.in_ok-attached.attached c.in_ok-attached.ensures.tables _ refl refl refl refl refl
