use Rattle.std.proofs.Common.{List, ℕ, [], ◌∷◌, ◌++◌, ◌≡◌, ◌∙◌, arith, false, length, refl, subst, sym}
use Rattle.std.specs.Prelude.{◌==◌, codes}
use Rattle.std.proofs.lemmas.Result.{on_ok_weaker, on_err_weaker}
use Rattle.dg_io.specs.Told.{Told, Took, TookPart}
use Rattle.dg_model.specs.declared.replies.Reply.TheVariants.{Data}
use Rattle.dg_text.specs.LineCalls.{bytes_calls}
use Rattle.dg_text.specs.LineWeights.{leaves_lines}
use Rattle.dg_text.specs.Replies.{reply_line}
use Rattle.dg_text.proofs.ReplyLines.{took_as}
use Rattle.dg_text.proofs.ReplyWeights.{reply_weight}
use Rattle.dg_text.proofs.replies.write_data.Goals as goal
use Rattle.hex.specs.Hex.{encode_lower}

data_line : (bytes : List ℕ) → (length bytes == 0) ≡ false → codes "data " ++ (encode_lower bytes ++ codes "\n") ≡ reply_line (Data bytes)
data_line [] some = absurd (grind (arith, some))
data_line (x ∷ bytes) some = refl

pub returns-clause-ok : goal.returns-clause-ok
returns-clause-ok g c =
    let P : List ℕ → Type 0 = λ l. Told (Took l) (g.K.Sink.taken c.args.sink.now) (g.K.Sink.taken c.write_hex_line.new.sink) in
    on_ok_weaker c.write_hex_line.result (λ told. subst P (data_line c.args.bytes.now (sym c.is_empty.ensures ∙ c.if-is_empty.false)) told) c.write_hex_line.ensures.ok

pub returns-clause-err : goal.returns-clause-err
returns-clause-err g c =
    let P : List ℕ → Type 0 = λ l. Told (TookPart l) (g.K.Sink.taken c.args.sink.now) (g.K.Sink.taken c.write_hex_line.new.sink) in
    on_err_weaker c.write_hex_line.result (λ told. subst P (data_line c.args.bytes.now (sym c.is_empty.ensures ∙ c.if-is_empty.false)) told) c.write_hex_line.ensures.err

pub returns-clause-lines : goal.returns-clause-lines
returns-clause-lines g c =
    let bytes = c.args.bytes.now in
    leaves_lines g.K.Sink c.write_hex_line.result (bytes_calls bytes) _ (reply_line (Data bytes)) _ _ (reply_weight (Data bytes)) c.write_hex_line.ensures.calls
    (took_as c.write_hex_line.result _ (reply_line (Data bytes)) _ _ (data_line bytes (sym c.is_empty.ensures ∙ c.if-is_empty.false)) c.write_hex_line.ensures.ok)
