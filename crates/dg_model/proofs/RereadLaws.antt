-- Of calls after a write. A library for the crates above.
use Rattle.std.proofs.Common.{◌≢◌, ◌≤◌, ◌+◌, ◌*◌, ℕ, [], arith}
use Rattle.std.specs.Prelude.{length, max}
use Rattle.std.proofs.lemmas.List.Elements.{All-nil}
use Rattle.ufs_model.specs.Blocks.{Volume}
use Rattle.dg_model.specs.Changes.{RefusesFew, WritesFew}
use Rattle.dg_model.specs.Rereads.{IsBeside, IsChangedAt, Rereads}
use Rattle.dg_model.specs.States.{State}
use Rattle.dg_model.specs.Tables.{sites_in}

-- nothing is read
abbrev pub no_rereads : (Known : Type 0) (l n b : ℕ) (old new : Volume) → Rereads Known l n old new b
no_rereads Known l n b old new = record {
  indirect = [];
  indirect_once = λ i j d less within. absurd (omega (arith, within));
  changed = λ known. All-nil (IsChangedAt l n old new);
  beside = [];
  beside_once = λ i j d less within. absurd (omega (arith, within));
  are_beside = λ known. All-nil (IsBeside l n old new b);
  others = λ known. All-nil (λ f. f ≢ b);
}

-- a write that makes at most two calls for each of the block's sites, or for its first one
pub few_calls : (Known : Type 0) (old : State) (b : ℕ) (new : State)
    → new.counts.calls ≤ old.counts.calls + 2 * max 1 (length (sites_in old.table b)) → WritesFew Known old b new
few_calls Known old b new most = record {
  rereads = no_rereads Known old.table.shape.l old.table.shape.n b old.blocks new.blocks;
  most = λ none. omega (arith, most);
}

-- the same of one that is refused
pub refused_calls : (old : State) (b : ℕ) (new : State)
    → new.counts.calls ≤ old.counts.calls + 2 * max 1 (length (sites_in old.table b)) → RefusesFew old b new
refused_calls old b new most = omega (arith, most)
