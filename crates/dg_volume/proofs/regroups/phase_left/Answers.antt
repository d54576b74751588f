use Rattle.std.proofs.Common.{◌∙◌, sym}
use Rattle.dg_store.specs.Stores.{members_of, table_of}
use Rattle.dg_volume.proofs.GoneLaws.{gone_lost}
use Rattle.dg_volume.proofs.regroups.phase_left.Goals as goal

pub returns-in_default-clause-phase : goal.returns-in_default-clause-phase
returns-in_default-clause-phase g c =
    let new = c.restored.new.view in
    let lost = rw c.in_default.is at c.in_ok-inference.ensures.lost in
    gone_lost (table_of new) (members_of new) lost.block c.in_ok-inference.ensures.keeps.sound.table lost.lost

pub returns-clause-phase : goal.returns-clause-phase
returns-clause-phase g c =
    let stands = rw c.in-Some.is at c.in_ok-inference.ensures.stands in
    let left = rw c.in-Some.is at c.in_ok-inference.ensures.pending in
    let size = rw c.in-Some.is at c.in_ok-inference.ensures.size in record {
      live = sym c.is_degraded.ensures ∙ c.if-is_degraded.false;
      fits = record { bytes = size.0; number = size.1 };
      stands = λ told V held. stands V (record { tells = told; stands = held; number = held.size });
      pending_are = λ V. record {
        size = (left V).size;
        fewer = (left V).fewer;
        are = λ known b. (left V).are (record { tells = known.0; stands = known.1; number = let whole = known.1 in whole.size }) b;
      };
    }
