-- A volume makes a step by a file that is read, or a directory that is listed, by its path.
use Rattle.std.proofs.Common.{◌≡◌, ◌∙◌, ℕ, List, ◌++◌, refl, sym, subst, true}
use Rattle.std.specs.Prelude.{Option, Some, None, Result, Ok, Err, IfNone, ◌||◌}
use Rattle.std.specs.List.{concat, list_any}
use Rattle.dg_io.specs.declared.outside.Rack.{Ghosts}
use Rattle.dg_model.specs.Changes.{IsCutShort, MayRead}
use Rattle.dg_model.specs.Lists.{AreLines}
use Rattle.dg_model.specs.Marks.{is_marked}
use Rattle.dg_model.specs.Sites.{is_gone}
use Rattle.dg_model.specs.States.{HasGone, State}
use Rattle.dg_model.specs.Steps.{recent_after}
use Rattle.dg_model.specs.declared.events.Event.TheVariants.{Cat, Ls}
use Rattle.dg_model.specs.declared.replies.Reply.TheVariants.{Cut, Given, Listed as ListedReply, ListedCut, Refused, Unavailable as ReplyUnavailable}
use Rattle.dg_store.specs.Stores as stores
use Rattle.dg_volume.proofs.FaultLaws.{keeps_outs, keeps_tells}
use Rattle.dg_volume.proofs.PlaceLaws.{any_turned, meets_turned, or_turned}
use Rattle.dg_volume.proofs.VolumeLaws.{HasRead, label_by, on_label, read_keeps, read_state, reads_in, reads_stay, steps_by, steps_from, told_before}
use Rattle.dg_volume.specs.CutReads.{LosesOne, ReadsCut, gone_with}
use Rattle.dg_volume.specs.Replies.{AnswersCat, AnswersLs, HasFileAt, TellsInode}
use Rattle.dg_volume.specs.Volumes.{Known, StandsFor, StepsBy, StepsTo, Tells, cut_of, marks_by, members_of, rack_of, shape_of, state_of, table_of, touched_by}
use Rattle.dg_volume.specs.declared.in_use.InUse.{InUse}
use Rattle.dg_volume.specs.declared.phases.InPhase as phases
use Rattle.dg_volume.specs.declared.volumes.Volume.{Volume}
use Rattle.ufs_model.specs.Blocks.{Consulted, Reading}
use Rattle.ufs_model.specs.Listings.{Listed, ls_of}
use Rattle.ufs_model.specs.Paths.{cat_of}
use Rattle.ufs_model.specs.Readings.{MeetsRule}
use Rattle.ufs_model.specs.Trees.{file_of}
use Rattle.ufs_model.specs.declared.reads.PathRefusal.{PathRefusal}
use Rattle.ufs_model.specs.declared.reads.PathRefusal.TheVariants.{NotFound as RefusedNotFound, NotDirectory as RefusedNotDirectory, NotRegular as RefusedNotRegular, Bad as RefusedBad}
use Rattle.ufs_path.specs.Answers.{IsAnswer}
use Rattle.ufs_path.specs.Consults.{IsUnanswered}
use Rattle.ufs_path.specs.declared.faults.CatAnswer.{CatAnswer}
use Rattle.ufs_path.specs.declared.faults.CatAnswer.TheVariants.{Given as AnswerGiven, NotFound, NotDirectory, Bad, Unavailable, NotRegular, Cut as AnswerCut, SinkFault}

module _ {S R : Type 0} (phase : phases.Ghosts S) (rack : Ghosts R) where
  -- some block of a volume is gone
  abbrev pub LosesBlock : Volume S R → Type 0
  LosesBlock volume = LosesOne (cut_of volume) volume.store

  -- what is read of the blocks that the volume stands for
  abbrev pub ReadsBy : {A : Type 0} → Reading A → Volume S R → Volume S R → Option A → Type 0
  ReadsBy reading a b answer = ReadsCut rack (cut_of a) a.store b.store reading answer

  -- of the file at a path
  abbrev pub Reads : List ℕ → Volume S R → Volume S R → Option (Result (List ℕ) PathRefusal) → Type 0
  Reads path a b answer = ReadsBy (cat_of (shape_of a).l (shape_of a).n path) a b answer

  -- of the directory at a path
  abbrev pub Lists : List ℕ → Volume S R → Volume S R → Option (Result (List Listed) PathRefusal) → Type 0
  Lists path a b answer = ReadsBy (ls_of (shape_of a).l (shape_of a).n path) a b answer

  pub held : {P : Type 0} → (a b : Volume S R) (V : List (List ℕ)) → HasRead phase rack a b → (Known P rack a → StandsFor phase rack a V) → Known P rack b → stores.StandsFor rack a.store V
  held a b V h holds told = let all = holds (told_before phase rack a b (read_keeps phase rack a b h) told) in all.array

  -- the reading rule, as states have it
  meets_at : {A : Type 0} (a b : Volume S R) → HasRead phase rack a b → (d : Consulted A) (answer : Option A) → MeetsRule (gone_with (cut_of a) a.store) (gone_with (cut_of a) b.store) d answer
      → MeetsRule (λ c. is_gone (table_of a) (members_of a) c || is_marked (cut_of a) c) (λ c. is_gone (table_of b) (members_of b) c || is_marked (cut_of b) c) d answer
  meets_at a b h d answer rule =
      meets_turned (is_gone (table_of a) (members_of a)) (is_marked (cut_of a)) (is_gone (table_of b) (members_of b)) (is_marked (cut_of b)) d answer
      (subst (λ (u : InUse). MeetsRule (gone_with (cut_of a) a.store) (gone_with u.cut.items b.store) d answer) (sym h.beside.in_use) rule)

  -- what may be answered of a state by what was read of the volume
  pub may_read : {P : Type 0} → {A : Type 0} (reading : Reading A) (a b : Volume S R) (rest : State) (V : List (List ℕ)) (answer : Option A) → (h : HasRead phase rack a b)
      → (Known P rack a → StandsFor phase rack a V) → ReadsBy reading a b answer → IfNone answer (LosesBlock b)
      → MayRead (Known P rack b) (state_of phase rack a rest V) (read_state phase rack a b h rest V) reading answer
  may_read reading a b rest V answer h holds reads gone = record {
    rule = λ told.
        meets_at a b h (reading V) answer (reads.rule (told.0) V (held a b V h holds told));
    cause = at_end answer gone;
    unwritten = h.reads.writes;
  }
    where
      at_end : {A : Type 0} (answer : Option A) → IfNone answer (LosesBlock b) → IfNone answer (HasGone (read_state phase rack a b h rest V))
      at_end None gone = (gone.0, or_turned (is_marked (cut_of b) gone.0) (is_gone (table_of b) (members_of b) gone.0) ∙ gone.1)
      at_end (Some given) gone = tt

  -- what was cut short
  pub cut_short : {P : Type 0} → {A : Type 0} (reading : Reading A) (a b : Volume S R) (rest : State) (V : List (List ℕ)) → (h : HasRead phase rack a b)
      → (Known P rack a → StandsFor phase rack a V) → ReadsBy reading a b None → IsCutShort (Known P rack b) (state_of phase rack a rest V) (read_state phase rack a b h rest V) reading
  cut_short reading a b rest V h holds lost told =
      let rule = lost.rule (told.0) V (held a b V h holds told) in
      any_turned (is_gone (table_of b) (members_of b)) (is_marked (cut_of b)) (reading V).needs
      (subst (λ (u : InUse). list_any (gone_with u.cut.items b.store) (reading V).needs ≡ true) (sym h.beside.in_use) rule.only)

  -- ---- a file

  cat_refused : (path : List ℕ) (refusal : PathRefusal) (a b : Volume S R) → HasRead phase rack a b → Reads path a b (Some (Err refusal))
      → StepsTo phase phase rack a (Cat path) (Refused refusal) b
  cat_refused path refusal a b h reads = steps_from phase rack a b (Cat path) (Refused refusal) (λ origin rest V label holds. (
    read_state phase rack a b h rest V,
    reads_in phase rack a b rest V label h holds,
    (
      may_read (cat_of (shape_of a).l (shape_of a).n path) a b rest V (Some (Err refusal)) h holds reads tt,
      reads_stay phase rack a b rest V label h,
    ),
    refl,
  ))

  cat_lost : (path : List ℕ) (a b : Volume S R) → HasRead phase rack a b → Reads path a b None → LosesBlock b → StepsTo phase phase rack a (Cat path) ReplyUnavailable b
  cat_lost path a b h reads gone = steps_from phase rack a b (Cat path) ReplyUnavailable (λ origin rest V label holds. (
    read_state phase rack a b h rest V,
    reads_in phase rack a b rest V label h holds,
    (
      may_read (cat_of (shape_of a).l (shape_of a).n path) a b rest V None h holds reads gone,
      reads_stay phase rack a b rest V label h,
    ),
    refl,
  ))

  -- what the blocks of the volume say of the file at a path
  pub has_file : (path : List ℕ) (a b : Volume S R) (i : ℕ) → (Tells rack b → Tells rack a)
      → (Tells rack b → (V : List (List ℕ)) → stores.StandsFor rack a.store V → (file_of (shape_of a).l (shape_of a).n path V).value ≡ Ok i) → HasFileAt phase rack a path b i
  has_file path a b i back is origin state stands told = let all = stands.holds (back (told.0), told.1) in is (told.0) state.blocks all.array

  -- the rest of the state once file i was given whole
  abbrev touched_rest : Volume S R → ℕ → State → State
  touched_rest a i rest = record rest { recent = recent_after (phase.phase a.phase) i rest.recent }

  touches : (path : List ℕ) (lines : List (List ℕ)) (i : ℕ) (a b : Volume S R) → HasRead phase rack a b → AreLines (shape_of a).l lines → Reads path a b (Some (Ok (concat lines)))
      → HasFileAt phase rack a path b i → StepsBy phase phase rack (recent_after (phase.phase a.phase) i) a (Cat path) (Given lines) b
  touches path lines i a b h are reads file = steps_by phase rack (recent_after (phase.phase a.phase) i) a b (Cat path) (Given lines) (λ origin rest V label holds.
      let next = read_state phase rack a b h (touched_rest a i rest) V in (
        next,
        reads_in phase rack a b (touched_rest a i rest) V label h holds,
        (
          are,
          record {
            rule = λ told.
                meets_at a b h (cat_of (shape_of a).l (shape_of a).n path V) (Some (Ok (concat lines))) (reads.rule (told.0) V (held a b V h holds told));
            cause = tt;
            unwritten = h.reads.writes;
          },
          record {
            goes = record {
              passes = record {
                counts = h.reads.keeps.stays.rise;
                label = label_by rack a b (read_keeps phase rack a b h).labels rest.label label;
                paired = h.sound.paired;
                faults =
                    let faults = keeps_tells rack a.store b.store h.reads.keeps in
                    record { fell = faults.fell; beyond = faults.beyond };
              };
              members = h.reads.keeps.falls;
              out = keeps_outs rack a.store b.store h.reads.keeps;
            };
            i = i;
            is = λ told. file origin (state_of phase rack a rest V) (record { is = refl; label = label; holds = holds }) told;
            rest = λ j. record (on_label a b (read_keeps phase rack a b h).labels.opens (touched_rest a i rest)) {
              boundaries = (h.beside.in_use j).boundaries;
              live = (h.beside.in_use j).live.items;
              cut = (h.beside.in_use j).cut.items;
              table = h.reads.table j;
              blocks = V;
              pending = marks_by (phase.kept (h.beside.phase_is j)) ((h.beside.pending j).items);
              homes = h.beside.homes j;
              copies = h.beside.copies j;
              phase = phase.phase (h.beside.phase_is j);
              members = members_of b;
              counts = rack.counts (rack_of b);
            };
          },
        ),
        refl,
      ))

  -- as it is told
  given_steps : (path : List ℕ) (lines : List (List ℕ)) (a b : Volume S R) → HasRead phase rack a b → AreLines (shape_of a).l lines → Reads path a b (Some (Ok (concat lines)))
      → (i : ℕ) → b.given ≡ Some i → HasFileAt phase rack a path b i → StepsBy phase phase rack (touched_by (phase.phase a.phase) b.given) a (Cat path) (Given lines) b
  given_steps path lines a b h are reads i is file =
      subst (λ (told : Option ℕ). StepsBy phase phase rack (touched_by (phase.phase a.phase) told) a (Cat path) (Given lines) b) (sym is) (touches path lines i a b h are reads file)

  cut_steps : (path : List ℕ) (lines : List (List ℕ)) (more : List ℕ) (a b : Volume S R) → HasRead phase rack a b → AreLines (shape_of a).l lines
      → Reads path a b (Some (Ok (concat lines ++ more))) → Reads path a b None → StepsTo phase phase rack a (Cat path) (Cut lines) b
  cut_steps path lines more a b h are reads lost = steps_from phase rack a b (Cat path) (Cut lines) (λ origin rest V label holds. (
    read_state phase rack a b h rest V,
    reads_in phase rack a b rest V label h holds,
    (
      are,
      (more, may_read (cat_of (shape_of a).l (shape_of a).n path) a b rest V (Some (Ok (concat lines ++ more))) h holds reads tt),
      cut_short (cat_of (shape_of a).l (shape_of a).n path) a b rest V h holds lost,
      reads_stay phase rack a b rest V label h,
    ),
    refl,
  ))

  -- each answer
  pub cat_answers : {C : Type 0} (took took_part : C → List ℕ → C → Type 0) (faults : C → ℕ) (old new : C) (path : List ℕ) (a b : Volume S R) (answer : CatAnswer) → HasRead phase rack a b
      → (IsUnanswered answer → LosesBlock b) → IsAnswer took took_part faults old new (Reads path a b) answer → TellsInode (HasFileAt phase rack a path b) a.given b.given answer
      → AnswersCat took took_part faults old new (shape_of a).l (λ reply. StepsBy phase phase rack (touched_by (phase.phase a.phase) b.given) a (Cat path) reply b)
      (λ reply. StepsTo phase phase rack a (Cat path) reply b) answer
  cat_answers took took_part faults old new path a b (AnswerGiven n) h cause rule told =
      (rule.0, rule.1, rule.2, λ lines are whole. given_steps path lines a b h are (subst (λ (l : List ℕ). Reads path a b (Some (Ok l))) (sym whole) rule.3) told.0 told.1 told.2)
  cat_answers took took_part faults old new path a b NotFound h cause rule told = (rule.0, cat_refused path RefusedNotFound a b h rule.1)
  cat_answers took took_part faults old new path a b NotDirectory h cause rule told = (rule.0, cat_refused path RefusedNotDirectory a b h rule.1)
  cat_answers took took_part faults old new path a b (Bad bad) h cause rule told = (rule.0, cat_refused path (RefusedBad bad) a b h rule.1)
  cat_answers took took_part faults old new path a b Unavailable h cause rule told = (rule.0, cat_lost path a b h rule.1 (cause tt))
  cat_answers took took_part faults old new path a b NotRegular h cause rule told = (rule.0, cat_refused path RefusedNotRegular a b h rule.1)
  cat_answers took took_part faults old new path a b (AnswerCut n) h cause rule told =
      (rule.0, rule.2, rule.3, λ lines are whole. cut_steps path lines rule.1 a b h are (subst (λ (l : List ℕ). Reads path a b (Some (Ok (l ++ rule.1)))) (sym whole) rule.4) rule.5)
  cat_answers took took_part faults old new path a b SinkFault h cause rule told =
      (rule.0, rule.1, rule.3, λ lines are whole. given_steps path lines a b h are (subst (λ (l : List ℕ). Reads path a b (Some (Ok l))) (sym whole) rule.2) told.0 told.1 told.2)

  -- ---- a directory

  ls_refused : (path : List ℕ) (refusal : PathRefusal) (a b : Volume S R) → HasRead phase rack a b → Lists path a b (Some (Err refusal))
      → StepsTo phase phase rack a (Ls path) (Refused refusal) b
  ls_refused path refusal a b h reads = steps_from phase rack a b (Ls path) (Refused refusal) (λ origin rest V label holds. (
    read_state phase rack a b h rest V,
    reads_in phase rack a b rest V label h holds,
    (
      may_read (ls_of (shape_of a).l (shape_of a).n path) a b rest V (Some (Err refusal)) h holds reads tt,
      reads_stay phase rack a b rest V label h,
    ),
    refl,
  ))

  ls_lost : (path : List ℕ) (a b : Volume S R) → HasRead phase rack a b → Lists path a b None → LosesBlock b → StepsTo phase phase rack a (Ls path) ReplyUnavailable b
  ls_lost path a b h reads gone = steps_from phase rack a b (Ls path) ReplyUnavailable (λ origin rest V label holds. (
    read_state phase rack a b h rest V,
    reads_in phase rack a b rest V label h holds,
    (
      may_read (ls_of (shape_of a).l (shape_of a).n path) a b rest V None h holds reads gone,
      reads_stay phase rack a b rest V label h,
    ),
    refl,
  ))

  listed_steps : (path : List ℕ) (entries : List Listed) (a b : Volume S R) → HasRead phase rack a b → Lists path a b (Some (Ok entries))
      → StepsTo phase phase rack a (Ls path) (ListedReply entries) b
  listed_steps path entries a b h reads = steps_from phase rack a b (Ls path) (ListedReply entries) (λ origin rest V label holds. (
    read_state phase rack a b h rest V,
    reads_in phase rack a b rest V label h holds,
    (
      may_read (ls_of (shape_of a).l (shape_of a).n path) a b rest V (Some (Ok entries)) h holds reads tt,
      reads_stay phase rack a b rest V label h,
    ),
    refl,
  ))

  listed_cut_steps : (path : List ℕ) (entries more : List Listed) (a b : Volume S R) → HasRead phase rack a b → Lists path a b (Some (Ok (entries ++ more))) → Lists path a b None
      → StepsTo phase phase rack a (Ls path) (ListedCut entries) b
  listed_cut_steps path entries more a b h reads lost = steps_from phase rack a b (Ls path) (ListedCut entries) (λ origin rest V label holds. (
    read_state phase rack a b h rest V,
    reads_in phase rack a b rest V label h holds,
    (
      (more, may_read (ls_of (shape_of a).l (shape_of a).n path) a b rest V (Some (Ok (entries ++ more))) h holds reads tt),
      cut_short (ls_of (shape_of a).l (shape_of a).n path) a b rest V h holds lost,
      reads_stay phase rack a b rest V label h,
    ),
    refl,
  ))

  -- each answer
  pub ls_answers : {C : Type 0} (took took_part : C → List Listed → C → Type 0) (faults : C → ℕ) (old new : C) (path : List ℕ) (a b : Volume S R) (answer : CatAnswer) → HasRead phase rack a b
      → (IsUnanswered answer → LosesBlock b) → IsAnswer took took_part faults old new (Lists path a b) answer
      → AnswersLs took took_part faults old new (λ reply. StepsTo phase phase rack a (Ls path) reply b) answer
  ls_answers took took_part faults old new path a b (AnswerGiven n) h cause rule = (rule.0, rule.1, rule.2, listed_steps path rule.0 a b h rule.3)
  ls_answers took took_part faults old new path a b NotFound h cause rule = (rule.0, ls_refused path RefusedNotFound a b h rule.1)
  ls_answers took took_part faults old new path a b NotDirectory h cause rule = (rule.0, ls_refused path RefusedNotDirectory a b h rule.1)
  ls_answers took took_part faults old new path a b (Bad bad) h cause rule = (rule.0, ls_refused path (RefusedBad bad) a b h rule.1)
  ls_answers took took_part faults old new path a b Unavailable h cause rule = (rule.0, ls_lost path a b h rule.1 (cause tt))
  ls_answers took took_part faults old new path a b NotRegular h cause rule = (rule.0, ls_refused path RefusedNotRegular a b h rule.1)
  ls_answers took took_part faults old new path a b (AnswerCut n) h cause rule = (rule.0, rule.2, rule.3, listed_cut_steps path rule.0 rule.1 a b h rule.4 rule.5)
  ls_answers took took_part faults old new path a b SinkFault h cause rule = (rule.0, rule.1, rule.3, listed_steps path rule.0 a b h rule.2)
