-- What a drill that was done says of its files.
use Rattle.std.proofs.Common.{◌≡◌, ◌≤◌, ◌∙◌, ℕ, List, ◌∷◌, ◌++◌, ap, subst, sym}
use Rattle.std.specs.Prelude.{◌+◌, length}
use Rattle.dg_drill.specs.Calls.{Facts}
use Rattle.dg_drill.specs.Drills.{Prints, TellsBoundaries, later_events, write_events, written_count}
use Rattle.dg_drill.specs.Losses.{lost_homes}
use Rattle.dg_drill.specs.Reports.{given_count, report_text, unavailable_count}
use Rattle.dg_drill.specs.Volumes.{IsDrillVolume, drill_shape}
use Rattle.dg_io.specs.Told.{Told, Took}
use Rattle.dg_model.proofs.KnownLaws.{run_less}
use Rattle.dg_model.specs.Causes.{NoneRose}
use Rattle.dg_model.specs.Runs.{Run, Trace}
use Rattle.dg_model.specs.States.{Counts, State}
use Rattle.dg_model.specs.declared.replies.Reply.{Reply}
use Rattle.dg_model.specs.declared.replies.Reply.TheVariants.{Settled}
use Rattle.dg_promise.specs.Promises.{AreTold}
use Rattle.dg_uses.proofs.Promised.{trace_told}
use Rattle.dg_uses.specs.Drilled.{LosesItsHomes}
use Rattle.ufs_model.specs.declared.geometries.Geometry.{Geometry}

abbrev pub LosesHomes : Type 0
LosesHomes = (before : Counts) (seed files : ℕ) (g : Geometry) (image : List ℕ) (writes losses cats : List Reply) (written final : State)
    → IsDrillVolume seed files image g → Trace AreTold before (write_events g image) writes written
    → Run AreTold written (later_events seed files) (Settled ∷ (losses ++ cats)) final → length losses ≡ 2 → NoneRose before.faults final.counts.faults
    → unavailable_count cats ≡ lost_homes final seed files

-- so it is of each drill of few enough files
abbrev Drills : ((seed files : ℕ) → Reply → List Reply → Type 0) → Type 0
Drills P = (before : Counts) (seed files : ℕ) (g : Geometry) (image : List ℕ) (writes losses cats : List Reply) (reply : Reply) (written final : State)
    → files ≤ 2000 → IsDrillVolume seed files image g → Trace AreTold before (write_events g image) writes written
    → Run AreTold written (later_events seed files) (reply ∷ (losses ++ cats)) final → length losses ≡ 2 → NoneRose before.faults final.counts.faults
    → P seed files reply cats

abbrev pub AreSettled : Type 0
AreSettled = Drills (λ seed files reply cats. reply ≡ Settled)

abbrev pub GiveFiles : Type 0
GiveFiles = Drills (λ seed files reply cats. given_count seed 0 cats + unavailable_count cats ≡ files)

pub loses_its_homes : LosesHomes → AreSettled → GiveFiles → (tells : ℕ → Type 0) (f : Facts) (seed files : ℕ) → files ≤ 2000 → Prints tells f seed files Took
    → ((q : ℕ) → tells q) → NoneRose f.before.faults f.now.faults → LosesItsHomes seed files f.taken f.given f.bytes
loses_its_homes homes settles gives tells f seed files few prints told none =
    let h = prints.1 in
    let known : TellsBoundaries tells h.final = λ q below. told q in
    let led = trace_told f.before drill_shape _ h.writes h.written known h.led in
    let on = run_less (λ _. known) h.written (later_events seed files) (h.settled ∷ (h.losses ++ h.cats)) h.final h.on in
    let no_fault = subst (λ (c : Counts). NoneRose f.before.faults c.faults) (sym h.counts) none in
    let settled : h.settled ≡ Settled =
    settles f.before seed files h.geometry h.image h.writes h.losses h.cats h.settled h.written h.final few h.volume led on h.number no_fault in
    record {
      written = written_count h.written.table;
      cats = h.cats;
      final = h.final;
      holds = h.holds known;
      homes = homes f.before seed files h.geometry h.image h.writes h.losses h.cats h.written h.final h.volume led
          (subst (λ (r : Reply). Run AreTold h.written (later_events seed files) (r ∷ (h.losses ++ h.cats)) h.final) settled on) h.number no_fault;
      all = gives f.before seed files h.geometry h.image h.writes h.losses h.cats h.settled h.written h.final few h.volume led on h.number no_fault;
      output = subst (λ (t : List ℕ). Told (Took t) f.taken f.given)
          (h.text_is ∙ ap (λ (r : Reply). report_text seed files (written_count h.written.table) r h.cats) settled) prints.2;
    }
