-- What an opening gives, by what it read.
use Rattle.std.proofs.Common.{◌≡◌, ◌++◌, ℕ, List, [], sym, arith, subst}
use Rattle.std.specs.Prelude.{Option, Some, None}
use Rattle.dg_io.specs.RackCalls.{RackCall}
use Rattle.dg_io.specs.RackWords.{After}
use Rattle.dg_io.specs.declared.outside.Rack.{Ghosts}
use Rattle.dg_stop.proofs.OpenedDouble.{opens_double}
use Rattle.dg_stop.proofs.OpenedNone.{are_failed, held_none, opens_none, opens_plain, plain_failed}
use Rattle.dg_stop.proofs.OpenedRack.{held_now}
use Rattle.dg_stop.proofs.ReadLemmas.{sound_found}
use Rattle.dg_stop.specs.DoubleOpenings.{AreFailed, AttachesAll, AttachesBy, OpensDouble, OpensPlain}
use Rattle.dg_stop.specs.Doubles.{AreHeld, Double, HasNoCalls, known_in}
use Rattle.dg_stop.specs.FoundHeaders.{IsIn, found_at}
use Rattle.dg_stop.specs.Leads.{IsTopOf}
use Rattle.dg_stop.specs.Readings.{FoundSome, HasRead, HasTables}
use Rattle.dg_stop.specs.declared.headers.Header.{Header}
use Rattle.dg_stop.specs.declared.memories.Memory.{Memory}
use Rattle.dg_stop.specs.declared.readings.Attached.{Attached}
use Rattle.dg_stop.specs.declared.readings.Reading.{Reading}

module _ {S : Type 0} (rack : Ghosts S) (none : (s : S) → rack.made s [] s) (both : (x y z : S) (k l : List RackCall) → rack.made x k y → rack.made y l z → rack.made x (k ++ l) z)
    (laws : (x y : S) (k : List RackCall) → rack.made x k y → After rack k x y) (reading : Reading) (old mid : S) (has : HasRead rack reading old mid) where
  pub plain_opened : IsTopOf reading.found 0 → OpensPlain rack [] old mid
  plain_opened tops = opens_plain rack reading.found reading.known reading.failed old mid has.found none both laws has.many bare where
    bare : (q : ℕ) (h : Header) → IsIn h (found_at reading.found q) → ⊥
    bare q h isin =
        let sound = sound_found rack reading.found reading.known reading.failed old mid has.found q h isin in
        omega (arith, sound.1.is.first, tops.most q h (record { low = sound.0; is = isin }))

  pub failed_opened : AreFailed rack reading.failed old mid
  failed_opened = plain_failed rack reading.found reading.known reading.failed old mid has.found none both laws has.many

  module _ (memory : Memory) (extra : List ℕ) (new : S) where
    held_by : (o : Option Attached) → HasTables rack reading.found mid o → AttachesBy rack o reading.known reading.failed reading.top memory extra mid new → AreHeld rack memory new
    held_by None leads at = subst (AreHeld rack memory) (sym at.2) (held_none rack reading.found reading.known reading.failed old mid has.found none both laws reading.top memory at.0 has.many leads)
    held_by (Some t) are at = held_now rack reading.found reading.known reading.failed t old mid has.found are are.many reading.top memory new at.0 has.many none both laws

    double_by : FoundSome reading.found → (it : Double S) → it.rack ≡ new → it.memory ≡ memory → HasNoCalls it.tally → (o : Option Attached) → HasTables rack reading.found mid o
        → AttachesBy rack o reading.known reading.failed reading.top memory extra mid new → OpensDouble rack old (record { rack = new; memory = memory; tally = it.tally }) extra
    double_by some it e f calls None leads at =
        subst (λ (l : List ℕ). OpensDouble rack old (record { rack = new; memory = memory; tally = it.tally }) l) (sym at.1)
        (subst (λ (r : S). OpensDouble rack old (record { rack = r; memory = memory; tally = it.tally }) []) (sym at.2)
        (opens_none rack reading.found reading.known reading.failed old mid has.found none both laws reading.top memory at.0 has.many leads has.most has.seen some it.tally calls))
    double_by some it e f calls (Some t) are at =
        opens_double rack reading.found reading.known reading.failed t old mid has.found are are.many reading.top memory new at.0 has.many none both laws has.most has.seen it.tally calls extra at.1

    pub held_opened : AttachesAll rack reading memory extra mid new → AreHeld rack memory new
    held_opened at = held_by reading.attached has.tables at

    pub double_opened : FoundSome reading.found → AttachesAll rack reading memory extra mid new → (it : Double S) → it.rack ≡ new → it.memory ≡ memory → HasNoCalls it.tally → OpensDouble rack old it extra
    double_opened some at it e f calls =
        subst (λ (m : Memory). OpensDouble rack old (record { rack = it.rack; memory = m; tally = it.tally }) extra) (sym f)
        (subst (λ (r : S). OpensDouble rack old (record { rack = r; memory = memory; tally = it.tally }) extra) (sym e) (double_by some it e f calls reading.attached has.tables at))

-- the members that are marked as fallen are those on which a call failed
pub failed_double : {S : Type 0} (rack : Ghosts S) (old : S) (it : Double S) (extra : List ℕ) (memory : Memory) → it.memory ≡ memory → OpensDouble rack old it extra → AreFailed rack memory.fell old it.rack
failed_double rack old it extra memory is opens =
    subst (λ (m : Memory). AreFailed rack m.fell old it.rack) is (are_failed rack (known_in it.memory) it.memory.fell old it.rack opens.leaves)
