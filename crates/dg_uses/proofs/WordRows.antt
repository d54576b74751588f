-- What becomes of words that are no command, where neither the source nor the sink fails.
use Rattle.std.proofs.Common.{◌≡◌, [], ℕ, List, refl, subst, sym}
use Rattle.std.specs.Prelude.{Option, Some}
use Rattle.dg_io.specs.Told.{Told, Took}
use Rattle.dg_run.specs.Calls.{Facts}
use Rattle.dg_run.specs.Ends.{AreNoCommand, EndsUsage}
use Rattle.dg_run.specs.declared.top.Status.{Status}
use Rattle.dg_run.specs.declared.top.Status.TheVariants.{BadLine, Done, NoMemory, NoState, ReadFault, Refused, Unclean, Usage, WriteFault}
use Rattle.dg_text.specs.Replies.{usage}
use Rattle.dg_uses.proofs.BlankRows.{took}
use Rattle.dg_words.specs.Commands.{TakesMemory, words_of}
use Rattle.dg_words.specs.declared.commands.Command.{Command}
use Rattle.dg_words.specs.declared.commands.Command.TheVariants.{Audit, Cat, Drill, Ls, Replay, Resume, Status as StatusCommand, Trace}

not_spelled : (command : Command) → [] ≡ words_of command → ⊥
not_spelled Replay is = cc is
not_spelled Resume is = cc is
not_spelled (Cat path) is = cc is
not_spelled (Ls path) is = cc is
not_spelled StatusCommand is = cc is
not_spelled (Trace order b k m) is = cc is
not_spelled (Drill seed files) is = cc is
not_spelled Audit is = cc is

no_words : AreNoCommand []
no_words command is = not_spelled command is.written

no_memory : TakesMemory [] → ⊥
no_memory takes = cc (takes.written)

-- no words are no command
pub none_asked : (words : List (List ℕ)) → words ≡ [] → AreNoCommand words
none_asked words empty = subst (λ (l : List (List ℕ)). AreNoCommand l) (sym empty) no_words

-- and no memory is taken for them
pub none_taken : (words : List (List ℕ)) → words ≡ [] → TakesMemory words → ⊥
none_taken words empty takes = no_memory (subst (λ (l : List (List ℕ)). TakesMemory l) empty takes)

-- the usage line was printed
pub is_usage : (facts : Facts) (status : Status) → EndsUsage facts status → (status ≡ WriteFault → ⊥) → (status ≡ NoMemory → ⊥) → status ≡ Usage
is_usage facts Usage ends write memory = refl
is_usage facts WriteFault ends write memory = absurd (write refl)
is_usage facts NoMemory ends write memory = absurd (memory refl)
is_usage facts Done ends write memory = absurd ends
is_usage facts BadLine ends write memory = absurd ends
is_usage facts ReadFault ends write memory = absurd ends
is_usage facts NoState ends write memory = absurd ends
is_usage facts Unclean ends write memory = absurd ends
is_usage facts Refused ends write memory = absurd ends

pub usage_printed : (facts : Facts) (status : Status) (text : List ℕ) → EndsUsage facts status → status ≡ Usage → facts.taken ≡ Some [] → facts.given ≡ Some text → text ≡ usage
usage_printed facts status text ends is empty given =
    let printed : Told (Took usage) facts.taken facts.given = subst (λ (s : Status). EndsUsage facts s) is ends in
    took facts.given usage text (subst (λ (t : Option (List ℕ)). Told (Took usage) t facts.given) empty printed) given
