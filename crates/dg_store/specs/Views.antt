-- What any number of reads leave of a store.
use Rattle.std.specs.Prelude.{◌≡◌, ◌≤◌, ◌*◌, ◌&&◌, not, ℕ, Bool, List, count_by, length}
use Rattle.std.specs.List.{sum_by}
use Rattle.dg_io.specs.declared.outside.Rack.{Ghosts}
use Rattle.dg_model.specs.Members.{MembersFall}
use Rattle.dg_model.specs.Sites.{all_lost, has_site}
use Rattle.dg_model.specs.Tables.{Table, sites_in}
use Rattle.dg_model.specs.declared.members.MemberState.{MemberState}
use Rattle.dg_store.specs.declared.store.Store.{Store}
use Rattle.dg_store.specs.Leaves.{CallsAtLeast, CallsAtMost, Keeps, NoFault}
use Rattle.dg_store.specs.Stores.{rack_of, table_of, members_of}

-- the sites stay, members only fall, and nothing was written
pub record ReadsOn {R : Type 0} (rack : Ghosts R) (old new : Store R) : Type 0 where
  pub keeps : Keeps rack old new
  pub table : table_of new ≡ table_of old
  pub writes : (rack.counts (rack_of new)).writes ≡ (rack.counts (rack_of old)).writes

-- whether block b is written
abbrev pub is_written : Table → ℕ → Bool
is_written table b = has_site (sites_in table b)

-- whether block b is written, and some site of it isn't lost
abbrev pub is_given : Table → (ℕ → MemberState) → ℕ → Bool
is_given table members b = is_written table b && not (all_lost members (sites_in table b))

-- Just these blocks were fetched, one after another. The calls rose by at least one for each that is written and still given in the
-- end (a count stands still at its end), by at most two for each site, and by at most one for each written block where no fault came.
pub record Fetches {R : Type 0} (rack : Ghosts R) (old : Store R) (blocks : List ℕ) (new : Store R) : Type 0 where
  pub table : table_of new ≡ table_of old
  pub falls : MembersFall (rack.counts (rack_of old)).faults (rack.counts (rack_of new)).faults (members_of old) (members_of new)
  pub later : (q : ℕ) → (rack.counts (rack_of old)).faults q ≤ (rack.counts (rack_of new)).faults q
  pub rose : CallsAtLeast rack old new (count_by (is_given (table_of old) (members_of new)) blocks)
  pub most : CallsAtMost rack old new (2 * sum_by (λ b. length (sites_in (table_of old) b)) blocks)
  pub few : NoFault rack old new → CallsAtMost rack old new (count_by (is_written (table_of old)) blocks)
