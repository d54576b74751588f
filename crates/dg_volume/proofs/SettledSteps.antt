-- A settled volume makes a step by a listing of all directories, and by what is told of the home of a file.
use Rattle.std.proofs.Common.{◌≡◌, ◌<◌, ℕ, List, ◌++◌, Bool, arith, inl, inr, length, refl, subst}
use Rattle.std.specs.Prelude.{IfOk, None, Ok, OnErr, Option, Err, Result, Some, if◌then◌else◌}
use Rattle.std.specs.Option.{option_map}
use Rattle.dg_io.specs.declared.outside.Rack.{Ghosts}
use Rattle.dg_model.specs.Homes.{home_of}
use Rattle.dg_model.specs.Lives.{boundary_at}
use Rattle.dg_model.specs.Openings.{FitsReduced}
use Rattle.dg_model.specs.Saves.{AreHomes}
use Rattle.dg_model.specs.declared.events.Event.TheVariants.{Home, Tree}
use Rattle.dg_model.specs.declared.homes.Home.{Home as FileHome}
use Rattle.dg_model.specs.declared.phases.Phase.TheVariants.{Settled as SettledPhase}
use Rattle.dg_model.specs.declared.replies.Reply.TheVariants.{HomeAt, NoHome, Nodes, NodesCut, Refused, Unavailable as ReplyUnavailable}
use Rattle.dg_volume.proofs.FileLaws.{as_file}
use Rattle.dg_volume.proofs.HomeLaws.{home_within}
use Rattle.dg_volume.proofs.PathSteps.{LosesBlock, ReadsBy, cut_short, may_read}
use Rattle.dg_volume.proofs.PlaceLaws.{home_place, home_places}
use Rattle.dg_volume.proofs.VolumeLaws.{HasRead, read_state, reads_in, reads_stay, steps_from}
use Rattle.dg_volume.specs.Fronts.{HandsLines}
use Rattle.dg_volume.specs.Replies.{AnswersTree, answer_for, fault_reply, home_reply}
use Rattle.dg_volume.specs.Volumes.{StepsTo, live_of, reduced_of, shape_of, table_of}
use Rattle.dg_volume.specs.declared.phases.InPhase as phases
use Rattle.dg_volume.specs.declared.volumes.Volume.{Volume}
use Rattle.ufs_model.proofs.ReadingLaws.{reads_known, reads_on, reads_refused}
use Rattle.ufs_model.specs.Blocks as blocks
use Rattle.ufs_model.specs.Inodes.{kind_of}
use Rattle.ufs_model.specs.Listings.{Listed}
use Rattle.ufs_model.specs.Paths.{is_regular, look_of}
use Rattle.ufs_model.specs.Readings.{Grows, ReadsAs}
use Rattle.ufs_model.specs.Trees.{file_of, tree_of}
use Rattle.ufs_model.specs.declared.inodes.Inode.{Inode}
use Rattle.ufs_model.specs.declared.reads.PathRefusal.{PathRefusal}
use Rattle.ufs_model.specs.declared.reads.PathRefusal.TheVariants.{Bad as RefusedBad, NotDirectory as RefusedNotDirectory, NotFound as RefusedNotFound, NotRegular as RefusedNotRegular}
use Rattle.ufs_path.specs.Answers.{IsAnswer, refusal_of}
use Rattle.ufs_path.specs.Consults.{IsUnanswered, IsUnavailable}
use Rattle.ufs_path.specs.Trees.{HandsSome, IsUnansweredIn}
use Rattle.ufs_path.specs.declared.faults.CatAnswer.{CatAnswer}
use Rattle.ufs_path.specs.declared.faults.CatAnswer.TheVariants.{Bad, Cut as AnswerCut, Given as AnswerGiven, NotDirectory, NotFound, NotRegular, SinkFault, Unavailable}
use Rattle.ufs_path.specs.declared.faults.LookFault.{LookFault}
use Rattle.ufs_path.specs.declared.faults.LookFault.TheVariants.{Bad as FaultBad, NotDirectory as FaultNotDirectory, NotFound as FaultNotFound, Unavailable as FaultUnavailable}

-- ---- the inode of a file, by what its path leads to

module _ {stands : blocks.Volume → Type 0} {tells : Type 0} {before after : ℕ → Bool} (l n : ℕ) (path : List ℕ) (grows : Grows before after) where
  pub file_found : (found : ℕ × Inode) (regular : Bool) → is_regular (kind_of found.1.mode) ≡ regular → ReadsAs stands before tells after (look_of l n path) (Some (Ok found))
      → ReadsAs stands before tells after (file_of l n path) (Some (if regular then Ok found.0 else Err RefusedNotRegular))
  unfolding file_of
  file_found found regular is reads =
      subst (λ (x : Bool). ReadsAs stands before tells after (file_of l n path) (Some (if x then Ok found.0 else Err RefusedNotRegular))) is
      (reads_on refusal_of as_file found (Some (if is_regular (kind_of found.1.mode) then Ok found.0 else Err RefusedNotRegular)) grows (λ v holds. holds) (λ told. told) reads
      (reads_known (if is_regular (kind_of found.1.mode) then Ok found.0 else Err RefusedNotRegular)))

  pub file_missed : (fault : LookFault) → ReadsAs stands before tells after (look_of l n path) (option_map Err (refusal_of fault))
      → ReadsAs stands before tells after (file_of l n path) (option_map Err (refusal_of fault))
  unfolding file_of
  file_missed fault reads = reads_refused refusal_of as_file fault grows reads

module _ {S R : Type 0} (phase : phases.Ghosts S) (rack : Ghosts R) where
  -- what is read of all directories
  abbrev pub Walks : Volume S R → Volume S R → Option (Result (List Listed) PathRefusal) → Type 0
  Walks a b answer = ReadsBy phase rack (tree_of (shape_of a).l (shape_of a).n) a b answer

  -- and of the inode of a file
  abbrev pub Finds : List ℕ → Volume S R → Volume S R → Option (Result ℕ PathRefusal) → Type 0
  Finds path a b answer = ReadsBy phase rack (file_of (shape_of a).l (shape_of a).n path) a b answer

  -- ---- all directories

  tree_refused : (refusal : PathRefusal) (a b : Volume S R) → phase.phase a.phase ≡ SettledPhase → HasRead phase rack a b → Walks a b (Some (Err refusal))
      → StepsTo phase phase rack a Tree (Refused refusal) b
  tree_refused refusal a b settled h reads = steps_from phase rack a b Tree (Refused refusal) (λ origin rest V label holds. (
    read_state phase rack a b h rest V,
    reads_in phase rack a b rest V label h holds,
    (
      settled,
      may_read phase rack (tree_of (shape_of a).l (shape_of a).n) a b rest V (Some (Err refusal)) h holds reads tt,
      reads_stay phase rack a b rest V label h,
    ),
    refl,
  ))

  tree_lost : (a b : Volume S R) → phase.phase a.phase ≡ SettledPhase → HasRead phase rack a b → Walks a b None → LosesBlock phase rack b
      → StepsTo phase phase rack a Tree ReplyUnavailable b
  tree_lost a b settled h reads gone = steps_from phase rack a b Tree ReplyUnavailable (λ origin rest V label holds. (
    read_state phase rack a b h rest V,
    reads_in phase rack a b rest V label h holds,
    (
      settled,
      may_read phase rack (tree_of (shape_of a).l (shape_of a).n) a b rest V None h holds reads gone,
      reads_stay phase rack a b rest V label h,
    ),
    refl,
  ))

  tree_steps : (entries : List Listed) (a b : Volume S R) → phase.phase a.phase ≡ SettledPhase → HasRead phase rack a b → Walks a b (Some (Ok entries))
      → StepsTo phase phase rack a Tree (Nodes entries) b
  tree_steps entries a b settled h reads = steps_from phase rack a b Tree (Nodes entries) (λ origin rest V label holds. (
    read_state phase rack a b h rest V,
    reads_in phase rack a b rest V label h holds,
    (
      settled,
      may_read phase rack (tree_of (shape_of a).l (shape_of a).n) a b rest V (Some (Ok entries)) h holds reads tt,
      reads_stay phase rack a b rest V label h,
    ),
    refl,
  ))

  tree_cut : (entries more : List Listed) (a b : Volume S R) → phase.phase a.phase ≡ SettledPhase → HasRead phase rack a b → Walks a b (Some (Ok (entries ++ more)))
      → Walks a b None → StepsTo phase phase rack a Tree (NodesCut entries) b
  tree_cut entries more a b settled h reads lost = steps_from phase rack a b Tree (NodesCut entries) (λ origin rest V label holds. (
    read_state phase rack a b h rest V,
    reads_in phase rack a b rest V label h holds,
    (
      settled,
      (more, may_read phase rack (tree_of (shape_of a).l (shape_of a).n) a b rest V (Some (Ok (entries ++ more))) h holds reads tt),
      cut_short phase rack (tree_of (shape_of a).l (shape_of a).n) a b rest V h holds lost,
      reads_stay phase rack a b rest V label h,
    ),
    refl,
  ))

  tree_answers : {C : Type 0} (took took_part : C → List Listed → C → Type 0) (faults : C → ℕ) (old new : C) (a b : Volume S R) (answer : CatAnswer)
      → phase.phase a.phase ≡ SettledPhase → HasRead phase rack a b → (IsUnanswered answer → LosesBlock phase rack b)
      → IsAnswer took took_part faults old new (Walks a b) answer → AnswersTree took took_part faults old new (λ reply. StepsTo phase phase rack a Tree reply b) answer
  tree_answers took took_part faults old new a b (AnswerGiven n) settled h cause rule = (rule.0, rule.1, rule.2, tree_steps rule.0 a b settled h rule.3)
  tree_answers took took_part faults old new a b NotFound settled h cause rule = (rule.0, tree_refused RefusedNotFound a b settled h rule.1)
  tree_answers took took_part faults old new a b NotDirectory settled h cause rule = (rule.0, tree_refused RefusedNotDirectory a b settled h rule.1)
  tree_answers took took_part faults old new a b (Bad bad) settled h cause rule = (rule.0, tree_refused (RefusedBad bad) a b settled h rule.1)
  tree_answers took took_part faults old new a b Unavailable settled h cause rule = (rule.0, tree_lost a b settled h rule.1 (cause tt))
  tree_answers took took_part faults old new a b NotRegular settled h cause rule = (rule.0, tree_refused RefusedNotRegular a b settled h rule.1)
  tree_answers took took_part faults old new a b (AnswerCut n) settled h cause rule = (rule.0, rule.2, rule.3, tree_cut rule.0 rule.1 a b settled h rule.4 rule.5)
  tree_answers took took_part faults old new a b SinkFault settled h cause rule = (rule.0, rule.1, rule.3, tree_steps rule.0 a b settled h rule.2)

  -- where there is memory
  pub tree_runs : {C E : Type 0} (took took_part : C → List Listed → C → Type 0) (faults : C → ℕ) (old new : C) (a b : Volume S R) (result : Result CatAnswer E)
      → phase.phase a.phase ≡ SettledPhase → HasRead phase rack a b → (IsUnansweredIn result → LosesBlock phase rack b)
      → IfOk result (IsAnswer took took_part faults old new (Walks a b)) → IfOk result (AnswersTree took took_part faults old new (λ reply. StepsTo phase phase rack a Tree reply b))
  tree_runs took took_part faults old new a b (Ok answer) settled h cause rule = tree_answers took took_part faults old new a b answer settled h cause rule
  tree_runs took took_part faults old new a b (Err e) settled h cause rule = tt

  first_lines : {C : Type 0} (took : C → List Listed → C → Type 0) (old new : C) (a b : Volume S R) → phase.phase a.phase ≡ SettledPhase → HasRead phase rack a b
      → HandsSome took old new (Walks a b) → HandsLines took old new (λ reply. StepsTo phase phase rack a Tree reply b)
  first_lines took old new a b settled h (inl same) = inl same
  first_lines took old new a b settled h (inr some) = inr (some.0, some.1, some.2, tree_steps (some.0 ++ some.1) a b settled h some.3)

  -- where there is none
  pub tree_wanting : {C E : Type 0} (took : C → List Listed → C → Type 0) (old new : C) (a b : Volume S R) (result : Result CatAnswer E)
      → phase.phase a.phase ≡ SettledPhase → HasRead phase rack a b → OnErr result (HandsSome took old new (Walks a b))
      → OnErr result (HandsLines took old new (λ reply. StepsTo phase phase rack a Tree reply b))
  tree_wanting took old new a b (Ok answer) settled h some = tt
  tree_wanting took old new a b (Err e) settled h some = first_lines took old new a b settled h some

  -- ---- homes

  home_refused : (path : List ℕ) (refusal : PathRefusal) (a b : Volume S R) → phase.phase a.phase ≡ SettledPhase → HasRead phase rack a b → Finds path a b (Some (Err refusal))
      → StepsTo phase phase rack a (Home path) (Refused refusal) b
  home_refused path refusal a b settled h reads = steps_from phase rack a b (Home path) (Refused refusal) (λ origin rest V label holds. (
    read_state phase rack a b h rest V,
    reads_in phase rack a b rest V label h holds,
    (
      settled,
      may_read phase rack (file_of (shape_of a).l (shape_of a).n path) a b rest V (Some (Err refusal)) h holds reads tt,
      reads_stay phase rack a b rest V label h,
    ),
    refl,
  ))

  home_lost : (path : List ℕ) (a b : Volume S R) → phase.phase a.phase ≡ SettledPhase → HasRead phase rack a b → Finds path a b None → LosesBlock phase rack b
      → StepsTo phase phase rack a (Home path) ReplyUnavailable b
  home_lost path a b settled h reads gone = steps_from phase rack a b (Home path) ReplyUnavailable (λ origin rest V label holds. (
    read_state phase rack a b h rest V,
    reads_in phase rack a b rest V label h holds,
    (
      settled,
      may_read phase rack (file_of (shape_of a).l (shape_of a).n path) a b rest V None h holds reads gone,
      reads_stay phase rack a b rest V label h,
    ),
    refl,
  ))

  pub home_fault : (path : List ℕ) (fault : LookFault) (a b : Volume S R) → phase.phase a.phase ≡ SettledPhase → HasRead phase rack a b
      → Finds path a b (option_map Err (refusal_of fault)) → (IsUnavailable fault → LosesBlock phase rack b) → StepsTo phase phase rack a (Home path) (fault_reply fault) b
  home_fault path FaultNotFound a b settled h reads cause = home_refused path RefusedNotFound a b settled h reads
  home_fault path FaultNotDirectory a b settled h reads cause = home_refused path RefusedNotDirectory a b settled h reads
  home_fault path (FaultBad bad) a b settled h reads cause = home_refused path (RefusedBad bad) a b settled h reads
  home_fault path FaultUnavailable a b settled h reads cause = home_lost path a b settled h reads (cause tt)

  pub home_irregular : (path : List ℕ) (a b : Volume S R) → phase.phase a.phase ≡ SettledPhase → HasRead phase rack a b → Finds path a b (Some (Err RefusedNotRegular))
      → StepsTo phase phase rack a (Home path) (Refused RefusedNotRegular) b
  home_irregular path a b settled h reads = home_refused path RefusedNotRegular a b settled h reads

  -- a home is on a boundary in use
  home_low : (a : Volume S R) (homes : List FileHome) (i s : ℕ) → FitsReduced (table_of a) (reduced_of a) → AreHomes (shape_of a) homes → home_of homes i ≡ Some s → s < length (live_of a)
  home_low a homes i s fits are is = let low = home_within (shape_of a) homes i s are is in omega (arith, low, fits.number)

  home_by : (path : List ℕ) (i : ℕ) (home : Option ℕ) (a b : Volume S R) → phase.phase a.phase ≡ SettledPhase → HasRead phase rack a b → Finds path a b (Some (Ok i))
      → FitsReduced (table_of a) (reduced_of a) → AreHomes (shape_of a) a.homes → AreHomes (shape_of a) a.copies → home_of a.homes i ≡ home
      → StepsTo phase phase rack a (Home path) (home_reply (answer_for (live_of a) home (home_of a.copies i))) b
  home_by path i (Some s) a b settled h reads fits homes copies is = steps_from phase rack a b (Home path) (HomeAt (boundary_at (live_of a) s) (option_map (boundary_at (live_of a)) (home_of a.copies i))) (λ origin rest V label holds. (
    read_state phase rack a b h rest V,
    reads_in phase rack a b rest V label h holds,
    (
      settled,
      (
        i,
        may_read phase rack (file_of (shape_of a).l (shape_of a).n path) a b rest V (Some (Ok i)) h holds reads tt,
        home_place (live_of a) (home_of a.homes i) s fits.live.ascend (home_low a a.homes i s fits homes is) is,
        home_places (live_of a) (home_of a.copies i) fits.live.ascend (λ t at. home_low a a.copies i t fits copies at),
      ),
      reads_stay phase rack a b rest V label h,
    ),
    refl,
  ))
  home_by path i None a b settled h reads fits homes copies is = steps_from phase rack a b (Home path) NoHome (λ origin rest V label holds. (
    read_state phase rack a b h rest V,
    reads_in phase rack a b rest V label h holds,
    (
      settled,
      (i, may_read phase rack (file_of (shape_of a).l (shape_of a).n path) a b rest V (Some (Ok i)) h holds reads tt, is),
      reads_stay phase rack a b rest V label h,
    ),
    refl,
  ))

  pub home_steps : (path : List ℕ) (i : ℕ) (a b : Volume S R) → phase.phase a.phase ≡ SettledPhase → HasRead phase rack a b → Finds path a b (Some (Ok i))
      → FitsReduced (table_of a) (reduced_of a) → AreHomes (shape_of a) a.homes → AreHomes (shape_of a) a.copies
      → StepsTo phase phase rack a (Home path) (home_reply (answer_for (live_of a) (home_of a.homes i) (home_of a.copies i))) b
  home_steps path i a b settled h reads fits homes copies = home_by path i (home_of a.homes i) a b settled h reads fits homes copies refl
