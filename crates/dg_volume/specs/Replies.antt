-- The replies that the answers of a volume stand for, and what holds of each such reply.
use Rattle.std.specs.Prelude.{◌≡◌, ℕ, List, Option, None, Some, Ok, length}
use Rattle.std.specs.List.{concat}
use Rattle.std.specs.Option.{option_map}
use Rattle.dg_io.specs.declared.outside.Rack.{Ghosts}
use Rattle.dg_model.specs.Blocks.{IsTrimmed}
use Rattle.dg_model.specs.Causes.{Rose}
use Rattle.dg_model.specs.Lists.{AreLines}
use Rattle.dg_model.specs.Lives.{boundary_at}
use Rattle.dg_model.specs.States.{State}
use Rattle.dg_model.specs.declared.replies.Reply.{Reply}
use Rattle.dg_model.specs.declared.replies.Reply.TheVariants.{Already, Cut, Data, Done, Given, HomeAt, Listed as ListedReply, ListedCut, NoHome, Nodes, NodesCut, NotSettled, Range, Refused, Unavailable, Verdict}
use Rattle.dg_volume.specs.Origins.{Origin, WasHeld}
use Rattle.dg_volume.specs.Volumes.{Known, StandsIn, shape_of}
use Rattle.dg_volume.specs.declared.phases.InPhase as phases
use Rattle.dg_volume.specs.declared.queries.WhoAnswer.{WhoAnswer}
use Rattle.dg_volume.specs.declared.queries.WhoAnswer.TheVariants.{Is, Range as WhoRange, Unavailable as WhoUnavailable}
use Rattle.dg_volume.specs.declared.settled_paths.AnyHome.{AnyHome}
use Rattle.dg_volume.specs.declared.settled_paths.AnyHome.TheVariants.{Is as HomeIs, NotSettled as HomeNotSettled}
use Rattle.dg_volume.specs.declared.settled_paths.HomeAnswer.{HomeAnswer}
use Rattle.dg_volume.specs.declared.settled_paths.HomeAnswer.TheVariants.{At, Fault, NoHome as HasNoHome, NotRegular as HomeNotRegular}
use Rattle.dg_volume.specs.declared.settled_paths.TreeAnswer.{TreeAnswer}
use Rattle.dg_volume.specs.declared.settled_paths.TreeAnswer.TheVariants.{Is as TreeIs, NotSettled as TreeNotSettled}
use Rattle.dg_volume.specs.declared.volumes.FailAnswer.{FailAnswer}
use Rattle.dg_volume.specs.declared.volumes.FailAnswer.TheVariants.{Already as FailAlready, Failed, Range as FailRange}
use Rattle.dg_volume.specs.declared.volumes.ReadAnswer.{ReadAnswer}
use Rattle.dg_volume.specs.declared.volumes.ReadAnswer.TheVariants.{Got, Range as ReadRange, Unavailable as ReadUnavailable}
use Rattle.dg_volume.specs.declared.volumes.Volume.{Volume}
use Rattle.ufs_model.specs.Listings.{Listed}
use Rattle.ufs_model.specs.Trees.{file_of}
use Rattle.ufs_model.specs.declared.reads.PathRefusal.TheVariants.{Bad as RefusedBad, NotDirectory as RefusedNotDirectory, NotFound as RefusedNotFound, NotRegular as RefusedNotRegular}
use Rattle.ufs_path.specs.Consults.{StaysUnlessFailed}
use Rattle.ufs_path.specs.declared.faults.CatAnswer.{CatAnswer}
use Rattle.ufs_path.specs.declared.faults.CatAnswer.TheVariants.{Bad, Cut as AnswerCut, Given as AnswerGiven, NotDirectory, NotFound, NotRegular, SinkFault, Unavailable as AnswerUnavailable}
use Rattle.ufs_path.specs.declared.faults.LookFault.{LookFault}
use Rattle.ufs_path.specs.declared.faults.LookFault.TheVariants.{Bad as FaultBad, NotDirectory as FaultNotDirectory, NotFound as FaultNotFound, Unavailable as FaultUnavailable}

-- ---- answers with one reply

-- what a block belongs to
abbrev pub who_reply : WhoAnswer → Reply
who_reply WhoRange = Range
who_reply (Is who) = Verdict who
who_reply WhoUnavailable = Unavailable

-- a member was made to fail
abbrev pub fail_reply : FailAnswer → Reply
fail_reply FailRange = Range
fail_reply FailAlready = Already
fail_reply Failed = Done

-- ---- reads of a block

-- A read's reply: the bytes of the block that was read, without the zeros at its end.
abbrev pub IsReadReply : ReadAnswer → List ℕ → Reply → Type 0
IsReadReply Got block reply = (bytes : List ℕ) × IsTrimmed bytes block × (reply ≡ Data bytes)
IsReadReply ReadRange block reply = reply ≡ Range
IsReadReply ReadUnavailable block reply = reply ≡ Unavailable

-- ---- reads by path

-- What was handed on by `cat` and by `ls`, from one state of the receiver to another, and what holds of each reply to it; of that which
-- gives a file, by `cat`, more holds. The bytes of a file stand in the reply as lines. A refusal hands nothing on. Where the receiver failed,
-- the reply is the one that it would have taken.
abbrev pub AnswersCat : {S : Type 0} → (S → List ℕ → S → Type 0) → (S → List ℕ → S → Type 0) → (S → ℕ) → S → S → ℕ → (Reply → Type 0)
    → (Reply → Type 0) → CatAnswer → Type 0
AnswersCat took took_part faults old new l gives holds (AnswerGiven n) =
    (bytes : List ℕ) × (length bytes ≡ n) × took old bytes new
    × ((lines : List (List ℕ)) → AreLines l lines → concat lines ≡ bytes → gives (Given lines))
AnswersCat took took_part faults old new l gives holds NotFound = (new ≡ old) × holds (Refused RefusedNotFound)
AnswersCat took took_part faults old new l gives holds NotDirectory = (new ≡ old) × holds (Refused RefusedNotDirectory)
AnswersCat took took_part faults old new l gives holds (Bad bad) = (new ≡ old) × holds (Refused (RefusedBad bad))
AnswersCat took took_part faults old new l gives holds AnswerUnavailable = (new ≡ old) × holds Unavailable
AnswersCat took took_part faults old new l gives holds NotRegular = (new ≡ old) × holds (Refused RefusedNotRegular)
AnswersCat took took_part faults old new l gives holds (AnswerCut n) =
    (bytes : List ℕ) × (length bytes ≡ n) × took old bytes new
    × ((lines : List (List ℕ)) → AreLines l lines → concat lines ≡ bytes → holds (Cut lines))
AnswersCat took took_part faults old new l gives holds SinkFault =
    (bytes : List ℕ) × took_part old bytes new × Rose (faults old) (faults new)
    × ((lines : List (List ℕ)) → AreLines l lines → concat lines ≡ bytes → gives (Given lines))

-- Wherever a volume is told in the end, the file at a path had this inode.
abbrev pub HasFileAt : {S R : Type 0} → phases.Ghosts S → Ghosts R → Volume S R → List ℕ → Volume S R → ℕ → Type 0
HasFileAt {R = R} phase rack old path new i =
    (origin : Origin R) (state : State) → StandsIn phase rack (WasHeld rack origin) old state → Known (WasHeld rack origin) rack new → (file_of (shape_of old).l (shape_of old).n path state.blocks).value ≡ Ok i

-- The inode that is told after `cat`: the file's where it was given whole, and else the one that was told before. Where the receiver failed,
-- it is told as if it had taken all.
abbrev pub TellsInode : (ℕ → Type 0) → Option ℕ → Option ℕ → CatAnswer → Type 0
TellsInode is_file old new (AnswerGiven n) = (i : ℕ) × (new ≡ Some i) × is_file i
TellsInode is_file old new NotFound = new ≡ old
TellsInode is_file old new NotDirectory = new ≡ old
TellsInode is_file old new (Bad bad) = new ≡ old
TellsInode is_file old new AnswerUnavailable = new ≡ old
TellsInode is_file old new NotRegular = new ≡ old
TellsInode is_file old new (AnswerCut n) = new ≡ old
TellsInode is_file old new SinkFault = (i : ℕ) × (new ≡ Some i) × is_file i

-- the same of the entries of a directory
abbrev pub AnswersLs : {S : Type 0} → (S → List Listed → S → Type 0) → (S → List Listed → S → Type 0) → (S → ℕ) → S → S → (Reply → Type 0)
    → CatAnswer → Type 0
AnswersLs took took_part faults old new holds (AnswerGiven n) =
    (entries : List Listed) × (length entries ≡ n) × took old entries new × holds (ListedReply entries)
AnswersLs took took_part faults old new holds NotFound = (new ≡ old) × holds (Refused RefusedNotFound)
AnswersLs took took_part faults old new holds NotDirectory = (new ≡ old) × holds (Refused RefusedNotDirectory)
AnswersLs took took_part faults old new holds (Bad bad) = (new ≡ old) × holds (Refused (RefusedBad bad))
AnswersLs took took_part faults old new holds AnswerUnavailable = (new ≡ old) × holds Unavailable
AnswersLs took took_part faults old new holds NotRegular = (new ≡ old) × holds (Refused RefusedNotRegular)
AnswersLs took took_part faults old new holds (AnswerCut n) =
    (entries : List Listed) × (length entries ≡ n) × took old entries new × holds (ListedCut entries)
AnswersLs took took_part faults old new holds SinkFault =
    (entries : List Listed) × took_part old entries new × Rose (faults old) (faults new) × holds (ListedReply entries)

-- the same of all entries of the volume
abbrev pub AnswersTree : {S : Type 0} → (S → List Listed → S → Type 0) → (S → List Listed → S → Type 0) → (S → ℕ) → S → S → (Reply → Type 0)
    → CatAnswer → Type 0
AnswersTree took took_part faults old new holds (AnswerGiven n) =
    (entries : List Listed) × (length entries ≡ n) × took old entries new × holds (Nodes entries)
AnswersTree took took_part faults old new holds NotFound = (new ≡ old) × holds (Refused RefusedNotFound)
AnswersTree took took_part faults old new holds NotDirectory = (new ≡ old) × holds (Refused RefusedNotDirectory)
AnswersTree took took_part faults old new holds (Bad bad) = (new ≡ old) × holds (Refused (RefusedBad bad))
AnswersTree took took_part faults old new holds AnswerUnavailable = (new ≡ old) × holds Unavailable
AnswersTree took took_part faults old new holds NotRegular = (new ≡ old) × holds (Refused RefusedNotRegular)
AnswersTree took took_part faults old new holds (AnswerCut n) =
    (entries : List Listed) × (length entries ≡ n) × took old entries new × holds (NodesCut entries)
AnswersTree took took_part faults old new holds SinkFault =
    (entries : List Listed) × took_part old entries new × Rose (faults old) (faults new) × holds (Nodes entries)

-- the same where the phase is told only when the program runs
abbrev pub AnswersTreeAny : {S : Type 0} → (S → List Listed → S → Type 0) → (S → List Listed → S → Type 0) → (S → ℕ) → S → S → (Reply → Type 0)
    → TreeAnswer → Type 0
AnswersTreeAny took took_part faults old new holds (TreeIs answer) = AnswersTree took took_part faults old new holds answer
AnswersTreeAny took took_part faults old new holds TreeNotSettled = (new ≡ old) × holds NotSettled

abbrev pub StaysUnlessFailedAny : TreeAnswer → ℕ → ℕ → Type 0
StaysUnlessFailedAny (TreeIs answer) before now = StaysUnlessFailed answer before now
StaysUnlessFailedAny TreeNotSettled before now = now ≡ before

-- ---- the home of a file

-- by the places of the boundary of its home and that of its copy, of which the numbers are told
abbrev pub answer_for : List ℕ → Option ℕ → Option ℕ → HomeAnswer
answer_for live None copy = HasNoHome
answer_for live (Some s) copy = At (boundary_at live s) (option_map (boundary_at live) copy)

-- where a path leads to no inode
abbrev pub fault_reply : LookFault → Reply
fault_reply FaultNotFound = Refused RefusedNotFound
fault_reply FaultNotDirectory = Refused RefusedNotDirectory
fault_reply (FaultBad bad) = Refused (RefusedBad bad)
fault_reply FaultUnavailable = Unavailable

abbrev pub home_reply : HomeAnswer → Reply
home_reply (At s copy) = HomeAt s copy
home_reply HasNoHome = NoHome
home_reply (Fault fault) = fault_reply fault
home_reply HomeNotRegular = Refused RefusedNotRegular

-- where the phase is told only when the program runs
abbrev pub any_home_reply : AnyHome → Reply
any_home_reply (HomeIs answer) = home_reply answer
any_home_reply HomeNotSettled = NotSettled
