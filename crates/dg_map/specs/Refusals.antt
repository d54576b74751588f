-- When a site is refused.
use Rattle.std.specs.Prelude.{◌<◌, ◌≤◌, ℕ, Result, Ok, Err}
use Rattle.dg_model.specs.declared.sites.Site.{Site}
use Rattle.dg_map.specs.declared.faults.TakeFault.{TakeFault}
use Rattle.dg_map.specs.declared.faults.TakeFault.TheVariants.{Full, NoMemory}

-- the answer is `Full` exactly where so many slots are used
abbrev pub IsFullAt : ℕ → ℕ → Result Site TakeFault → Type 0
IsFullAt most used (Ok site) = used < most
IsFullAt most used (Err Full) = most ≤ used
IsFullAt most used (Err NoMemory) = used < most
