-- A resumed array beside the promise of an array.
use Rattle.std.proofs.Common.{◌≡◌, ◌++◌, ◌∷◌, ℕ, List, length, inl, inr, refl, sym, ◌∙◌, ap, subst}
use Rattle.std.specs.Prelude.{All, false, IfSome, IsSome, Option, Some, None, is_some}
use Rattle.std.proofs.lemmas.Bool.{cases_lt, false≢true}
use Rattle.dg_io.specs.Kept.{Kept}
use Rattle.dg_model.proofs.KnownLaws.{run_less}
use Rattle.dg_model.proofs.MomentLaws.{history_runs}
use Rattle.dg_model.specs.Moments.Kind.{double, plain}
use Rattle.dg_model.specs.Openings.{Found, Opens, Reduced, Says}
use Rattle.dg_model.specs.Runs.{Run}
use Rattle.dg_model.specs.Saves.{CanBeSaved, SavedState}
use Rattle.dg_model.specs.States.{Counts, State}
use Rattle.dg_model.specs.Tables.{Table}
use Rattle.dg_model.specs.declared.events.Event.{Event}
use Rattle.dg_model.specs.declared.events.Event.TheVariants.{Cat}
use Rattle.dg_model.specs.declared.replies.Reply.{Reply}
use Rattle.dg_open.specs.Founds.{AreRead, IsBodyRead, IsRead}
use Rattle.dg_promise.specs.Promises.{AreTold}
use Rattle.dg_promise.specs.Readings.{ReadsFrom}
use Rattle.dg_promise.specs.Steady.{FitsBlock, IsSteady}
use Rattle.dg_run.specs.Calls.{Facts, met_by}
use Rattle.dg_run.specs.Finds.{Sees, tells_seen}
use Rattle.dg_run.specs.Opened.{IsKnownKept, kept_moment, opened_moment}
use Rattle.dg_run.specs.Resumes.{AreLines, RanOn, RanOnKept}
use Rattle.dg_saved.specs.Calls.{Facts as SeenFacts}
use Rattle.dg_saved.specs.OpeningLaws.{opens_less}
use Rattle.dg_saved.specs.Saved.{HasSource, IsKnown, IsOpenedAs, had}
use Rattle.dg_text.specs.Lines.{IsInPlace}
use Rattle.dg_uses.proofs.Promised.{all_fit, all_front}
use Rattle.dg_uses.proofs.Seeing.{seen_told}
use Rattle.dg_uses.specs.Answers.{TellsEach}
use Rattle.dg_uses.specs.Promises.{resumed_from}

-- ---- what was read of a member whose bytes are told can be said by a body

of_body : (taken : ℕ → Option Found) (q before now : ℕ) (all : List ℕ) (found : Found) (saved : SavedState) → found.state ≡ Some saved
    → IsBodyRead taken q before now found.label all found.state → CanBeSaved saved
of_body taken q before now all found saved is read =
    let says : Says found.label all (Some saved) = subst (λ (o : Option SavedState). IsBodyRead taken q before now found.label all o) is read in says.form.can

of_member : (taken : ℕ → Option Found) (q before now : ℕ) (bytes : Option (List ℕ)) (found : Found) (saved : SavedState) → IsSome bytes → taken q ≡ Some found
    → found.state ≡ Some saved → IfSome bytes (λ all. IsRead taken q before now all (taken q)) → CanBeSaved saved
of_member taken q before now None found saved told there is read = absurd (false≢true told)
of_member taken q before now (Some all) found saved told there is read =
    let both = subst (λ (o : Option Found). IsRead taken q before now all o) there read in of_body taken q before now all found saved is both.1

of_taken : (bytes : ℕ → Option (List ℕ)) (before now : ℕ → ℕ) (taken : ℕ → Option Found) (q : ℕ) (found : Found) (saved : SavedState) → TellsEach bytes
    → AreRead bytes before now taken → taken q ≡ Some found → found.state ≡ Some saved → CanBeSaved saved
of_taken bytes before now taken q found saved told read there is = elim (cases_lt q 32) [
  | inl low ↦ of_member taken q (before q) (now q) (bytes q) found saved (told q) there is (read.each q low)
  | inr high ↦ absurd (false≢true (sym (ap (λ (o : Option Found). is_some o) (read.others q high)) ∙ ap (λ (o : Option Found). is_some o) there))
]

had_told : (before after : Option (List ℕ)) → IsSome before → IsSome after → IsSome (had before after)
had_told before None was is = absurd (false≢true is)
had_told before (Some now) was is = was

-- whatever was counted, a state is steady
with_counts : (state : State) (counts : Counts) → IsSteady state → IsSteady (record state { counts = counts })
with_counts state counts h = record {
  sites = h.sites;
  size = h.size;
  homes = h.homes;
  no_copies = h.no_copies;
  settled = λ settled. let order = h.settled settled in record {
    wants = order.wants;
    seen = record { fit = order.seen.fit; are = order.seen.are };
    placed = order.placed;
    sound = order.sound;
  };
}

-- ---- a file that is read

-- what is known of opened arrays, and of runs from steady states
abbrev pub OpensSteady : Type 0
OpensSteady = (taken : ℕ → Option Found) (beside : Option Reduced) (before : Counts) (state : State)
    → All (λ block. length block ≡ state.table.shape.l) state.blocks → (opens : Opens AreTold taken beside before state) → CanBeSaved opens.saved → IsSteady state

abbrev pub RunsKeep : Type 0
RunsKeep = (first : State) (front : List Event) (path : List ℕ) (rest : List Event) (replies : List Reply) (last : State) → IsSteady first
    → All (FitsBlock first.table.shape.l) front → Run AreTold first (front ++ Cat path ∷ rest) replies last → ReadsFrom first front path rest replies last

-- an array that was opened with blocks that its members held is steady
module _ (opens_steady : OpensSteady) (tells : ℕ → Type 0) (facts : SeenFacts) (opened : Counts) (source : HasSource facts opened) (V : List (List ℕ)) (state : State)
    (is : IsOpenedAs tells facts opened source V state) (known : IsKnown tells facts opened source V) where
  opened_steady : TellsEach facts.images → TellsEach facts.bytes → All (λ block. length block ≡ source.saved.table.shape.l) V → IsSteady state
  opened_steady images bytes sizes =
      let opens : Opens AreTold source.taken source.beside facts.before state = opens_less (λ _. known) source.taken source.beside facts.before state is.opens in
      let can = of_taken (λ q. had (facts.images q) (facts.bytes q)) facts.before.faults opened.faults source.taken opens.source
      (record { label = opens.label; state = Some opens.saved }) opens.saved (λ q. had_told (facts.images q) (facts.bytes q) (images q) (bytes q)) source.read
      opens.is_source.newest.there refl in
      let blocks : All (λ block. length block ≡ state.table.shape.l) state.blocks =
      subst (λ (t : Table). All (λ block. length block ≡ t.shape.l) state.blocks) (sym is.table)
      (subst (λ (v : List (List ℕ)). All (λ block. length block ≡ source.saved.table.shape.l) v) (sym is.blocks) sizes) in
      opens_steady source.taken source.beside facts.before state blocks opens can

  front_fits : (front rest : List Event) (path : List ℕ) → AreLines source.saved.table.shape (front ++ Cat path ∷ rest) → All (FitsBlock state.table.shape.l) front
  front_fits front rest path lines =
      let shape = source.saved.table.shape in
      subst (λ (t : Table). All (FitsBlock t.shape.l) front) (sym is.table) (all_fit shape front (all_front (IsInPlace (Some shape)) front (Cat path ∷ rest) lines.in_place))

pub resumed_reads : OpensSteady → RunsKeep → (tells : ℕ → Type 0) (facts : Facts) (front rest : List Event) (path : List ℕ) (replies : List Reply)
    (ran : RanOn tells facts (front ++ Cat path ∷ rest) replies) (V : List (List ℕ)) (size : length V ≡ ran.source.saved.table.shape.n)
    → All (λ block. length block ≡ ran.source.saved.table.shape.l) V → TellsEach facts.images → TellsEach facts.bytes → IsKnown tells (met_by facts) ran.opened ran.source V
    → ReadsFrom (resumed_from (ran.runs V size).resumed) front path rest replies (ran.runs V size).resumed.final.state
resumed_reads opens_steady keeps tells facts front rest path replies ran V size sizes images bytes known =
    let resumed = (ran.runs V size).resumed in
    let steady = opened_steady opens_steady tells (met_by facts) ran.opened ran.source V resumed.state resumed.is known images bytes sizes in
    let fit = front_fits opens_steady tells (met_by facts) ran.opened ran.source V resumed.state resumed.is known front rest path ran.lines in
    let first = resumed_from resumed in
    let run = history_runs _ plain (opened_moment resumed.state resumed.first ran.opened) (front ++ Cat path ∷ rest) replies resumed.final resumed.history in
    keeps first front path rest replies resumed.final.state (with_counts resumed.state resumed.first steady) fit
    (run_less (λ _. known) first (front ++ Cat path ∷ rest) replies resumed.final.state run)

-- the same of an array that keeps a checkpoint
pub resumed_reads_kept : OpensSteady → RunsKeep → (tells : ℕ → Type 0) (WasKept : Kept → Type 0) (facts : Facts) (seen : SeenFacts) (sees : Sees tells (met_by facts) seen) (front rest : List Event)
    (path : List ℕ) (replies : List Reply) (ran : RanOnKept tells WasKept facts seen sees.said (front ++ Cat path ∷ rest) replies) (V : List (List ℕ))
    (size : length V ≡ ran.source.saved.table.shape.n) → All (λ block. length block ≡ ran.source.saved.table.shape.l) V → TellsEach facts.bytes
    → IsKnownKept tells facts seen sees.said ran.opened ran.source V
    → ReadsFrom (ran.runs V size).resumed.state front path rest replies (ran.runs V size).resumed.final.state
resumed_reads_kept opens_steady keeps tells WasKept facts seen sees front rest path replies ran V size sizes told known =
    let resumed = (ran.runs V size).resumed in
    let state = resumed.state in
    let bytes : TellsEach seen.bytes = seen_told tells (met_by facts) seen sees told in
    let steady =
    opened_steady opens_steady (tells_seen tells sees.said) seen ran.opened ran.source V state resumed.is known.1 (λ q. sees.still q (bytes q)) bytes sizes in
    let fit = front_fits opens_steady (tells_seen tells sees.said) seen ran.opened ran.source V state resumed.is known.1 front rest path ran.lines in
    let run = history_runs _ double (kept_moment state resumed.beneath) (front ++ Cat path ∷ rest) replies resumed.final resumed.history in
    keeps state front path rest replies resumed.final.state steady fit (run_less (λ _. known) state (front ++ Cat path ∷ rest) replies resumed.final.state run)
