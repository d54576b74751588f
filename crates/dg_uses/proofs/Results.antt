-- What holds of a result, and of a status.
use Rattle.std.proofs.Common.{◌≡◌, ◌∙◌, sym}
use Rattle.std.specs.Prelude.{Result, Ok, Err, IfOk}
use Rattle.dg_run.specs.declared.top.Status.{Status}
use Rattle.dg_run.specs.declared.top.Status.TheVariants.{Done, ReadFault, WriteFault}

pub if_ok : {T E : Type 0} (result : Result T E) (P Q : T → Type 0) → ((value : T) → P value → Q value) → IfOk result P → IfOk result Q
if_ok (Ok value) P Q f h = f value h
if_ok (Err error) P Q f h = tt

pub done_no_read : (status : Status) → status ≡ Done → status ≡ ReadFault → ⊥
done_no_read status done read = let e : Done ≡ ReadFault = sym done ∙ read in cc e

pub done_no_write : (status : Status) → status ≡ Done → status ≡ WriteFault → ⊥
done_no_write status done write = let e : Done ≡ WriteFault = sym done ∙ write in cc e

pub if_ok_both : {T E : Type 0} (result : Result T E) (P Q S : T → Type 0) → ((value : T) → P value → Q value → S value) → IfOk result P → IfOk result Q → IfOk result S
if_ok_both (Ok value) P Q S f h k = f value h k
if_ok_both (Err error) P Q S f h k = tt
