-- What the sources in memory hold.
use Rattle.std.specs.Prelude.{ℕ, List, drop}
use Rattle.std.specs.List.{Contains}
use Rattle.dg_io.specs.declared.sources.MemSource.{MemSource}
use Rattle.dg_io.specs.declared.sources.SureSource.{SureSource}

-- the bytes still to come
abbrev pub left_in : MemSource → List ℕ
left_in source = drop source.at source.bytes.items

abbrev pub source_faults : MemSource → ℕ
source_faults source = source.faults

-- how many calls were made
abbrev pub source_calls : MemSource → ℕ
source_calls source = source.calls

-- the numbers of the calls that fail, from 0
abbrev pub source_fails : MemSource → List ℕ
source_fails source = source.fails.items

-- the next call is one of those that fail
abbrev pub IsListed : MemSource → Type 0
IsListed source = Contains (source_fails source) (source_calls source)

abbrev pub sure_calls : SureSource → ℕ
sure_calls source = source.calls

abbrev pub sure_left : SureSource → List ℕ
sure_left source = drop source.at source.bytes.items
