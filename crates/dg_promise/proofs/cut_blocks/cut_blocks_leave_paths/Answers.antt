use Rattle.std.proofs.Common.{sym}
use Rattle.dg_promise.proofs.cut_blocks.cut_blocks_leave_paths.Goals as goal

pub returns-clause-cat_before : goal.returns-clause-cat_before
returns-clause-cat_before c = λ l n path v w cut keeps none. (c.readings_are_local.ensures.cat l n path).same v w (λ b needed. keeps b (none b needed))

pub returns-clause-cat_after : goal.returns-clause-cat_after
returns-clause-cat_after c = λ l n path v w cut keeps none. sym ((c.readings_are_local.ensures.cat l n path).same w v (λ b needed. sym (keeps b (none b needed))))

pub returns-clause-ls_before : goal.returns-clause-ls_before
returns-clause-ls_before c = λ l n path v w cut keeps none. (c.readings_are_local.ensures.ls l n path).same v w (λ b needed. keeps b (none b needed))

pub returns-clause-ls_after : goal.returns-clause-ls_after
returns-clause-ls_after c = λ l n path v w cut keeps none. sym ((c.readings_are_local.ensures.ls l n path).same w v (λ b needed. sym (keeps b (none b needed))))
