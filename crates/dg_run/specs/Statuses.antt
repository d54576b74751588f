-- The exit status of the program, by how its run ended. The numbers are this project's own.
use Rattle.std.specs.Prelude.{ℕ}
use Rattle.dg_run.specs.declared.top.Status.{Status}
use Rattle.dg_run.specs.declared.top.Status.TheVariants.{Done, Usage, BadLine, ReadFault, WriteFault, NoMemory, NoState, Unclean, Refused}

abbrev pub code_of : Status → ℕ
code_of Done = 0
code_of Usage = 1
code_of BadLine = 2
code_of ReadFault = 3
code_of WriteFault = 4
code_of NoMemory = 5
code_of NoState = 6
code_of Unclean = 7
code_of Refused = 8
