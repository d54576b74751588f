-- A part of a file, or of a listing, was written.
use Rattle.std.proofs.Common.{◌≡◌, ◌<◌, ℕ, List, [], ◌∷◌, ◌++◌, length, sym, ◌∙◌, ap, subst, arith, append_assoc}
use Rattle.std.specs.Prelude.{Option, All, codes}
use Rattle.std.specs.Fmt.{decimal}
use Rattle.std.specs.List.{concat}
use Rattle.std.proofs.lemmas.List.Folds.{concat-append}
use Rattle.std.proofs.lemmas.Grind.{flat_map-append}
use Rattle.dg_io.specs.Told.{Told, Took, TookPart}
use Rattle.dg_io.specs.declared.outside.Rack.{Ghosts}
use Rattle.dg_model.specs.Lists.{AreLines}
use Rattle.dg_model.proofs.Lined.{in_lines}
use Rattle.dg_model.specs.declared.events.Event.TheVariants.{Cat}
use Rattle.dg_model.specs.declared.replies.Reply.TheVariants.{Given}
use Rattle.dg_run.specs.declared.arrays.Array.{Array}
use Rattle.dg_text.specs.HexLines.{InLines, last_line}
use Rattle.dg_text.specs.Replies.{bytes_line, file_text, reply_line}
use Rattle.dg_text.specs.ToldSteps.{took_both, took_part_after, took_part_of_more}
use Rattle.dg_run.specs.Steps.{AnsweredPart, VolumeStepsTo}
use Rattle.dg_run.proofs.Inputs.{All-head, All-tail}

abbrev IsFull : ℕ → List ℕ → Type 0
IsFull l line = length line ≡ l

more_are : (l : ℕ) (full more : List (List ℕ)) → 0 < l → All (IsFull l) full → AreLines l more → AreLines l (full ++ more)
more_are l [] more some full are = are
more_are l (line ∷ []) [] some full are = let n : length line ≡ l = All-head (IsFull l) line [] full in (omega arith, omega arith)
more_are l (line ∷ []) (next ∷ more) some full are = (All-head (IsFull l) line [] full, are)
more_are l (line ∷ next ∷ rest) more some full are =
    (All-head (IsFull l) line (next ∷ rest) full, more_are l (next ∷ rest) more some (All-tail (IsFull l) line (next ∷ rest) full) are)

-- a part of the lines of a file is a part of the file's reply
part_of_file : (lines more : List (List ℕ)) (x y : Option (List ℕ)) → Told (TookPart (file_text lines)) x y → Told (TookPart (reply_line (Given (lines ++ more)))) x y
part_of_file lines more x y told =
    let w = codes "end " ++ decimal (length (concat (lines ++ more))) in
    let n = codes "\n" in
    let same : file_text lines ++ ((file_text more ++ w) ++ n) ≡ (file_text (lines ++ more) ++ w) ++ n =
    sym (append_assoc (file_text lines) (file_text more ++ w) n)
    ∙ ap (λ (s : List ℕ). s ++ n) (sym (append_assoc (file_text lines) (file_text more) w))
    ∙ ap (λ (s : List ℕ). (s ++ w) ++ n) (sym (flat_map-append bytes_line lines more)) in
    subst (λ (s : List ℕ). Told (TookPart s) x y) same (took_part_of_more (file_text lines) ((file_text more ++ w) ++ n) x y told)

-- a part of the lines of items is a part of their reply
pub part_of_lines : {A : Type 0} (text word : List ℕ) (items : List A) (x y : Option (List ℕ)) → Told (TookPart text) x y
    → Told (TookPart ((text ++ (word ++ decimal (length items))) ++ codes "\n")) x y
part_of_lines text word items x y told =
    let w = word ++ decimal (length items) in
    let n = codes "\n" in
    subst (λ (s : List ℕ). Told (TookPart s) x y) (sym (append_assoc text w n)) (took_part_of_more text (w ++ n) x y told)

-- lines of items, and a part of the line that ends them with their number, are a part of their reply
pub part_lines : {A : Type 0} (text word : List ℕ) (items : List A) (n : ℕ) (x y : Option (List ℕ)) → length items ≡ n
    → Told (TookPart (text ++ last_line word n)) x y → Told (TookPart ((text ++ (word ++ decimal (length items))) ++ codes "\n")) x y
part_lines text word items n x y size told =
    let m = length items in
    let same : text ++ last_line word n ≡ (text ++ (word ++ decimal m)) ++ codes "\n" =
    ap (λ (k : ℕ). text ++ last_line word k) (sym size)
    ∙ sym (append_assoc text (word ++ decimal m) (codes "\n") ∙ ap (λ (l : List ℕ). text ++ l) (append_assoc word (decimal m) (codes "\n"))) in
    subst (λ (l : List ℕ). Told (TookPart l) x y) same told

-- Lines of items, and the line that ends them with their number, are their reply. `x` and `y` are what was written before and
-- after.
pub told_lines : {A : Type 0} (text word : List ℕ) (items : List A) (n : ℕ) (x y : Option (List ℕ)) → length items ≡ n
    → Told (Took (text ++ last_line word n)) x y → Told (Took ((text ++ (word ++ decimal (length items))) ++ codes "\n")) x y
told_lines text word items n x y size told =
    let m = length items in
    let same : text ++ last_line word n ≡ (text ++ (word ++ decimal m)) ++ codes "\n" =
    ap (λ (k : ℕ). text ++ last_line word k) (sym size)
    ∙ sym (append_assoc text (word ++ decimal m) (codes "\n") ∙ ap (λ (l : List ℕ). text ++ l) (append_assoc word (decimal m) (codes "\n"))) in
    subst (λ (l : List ℕ). Told (Took l) x y) same told

-- lines, and then the line that ends them
pub told_end : (text last : List ℕ) (x y z : Option (List ℕ)) → Told (Took text) x y → Told (Took last) y z → Told (Took (text ++ last)) x z
told_end text last x y z first second = took_both text last x y z first second

-- lines, and then a part of the line that ends them
pub part_end : (text last : List ℕ) (x y z : Option (List ℕ)) → Told (Took text) x y → Told (TookPart last) y z → Told (TookPart (text ++ last)) x z
part_end text last x y z first second = took_part_after text last x y z first second

module _ {R : Type 0} (rack : Ghosts R) where
  -- the sink failed at the bytes of a file
  pub file_part : (l : ℕ) (path items tail : List ℕ) (lines : List (List ℕ)) (x y : Option (List ℕ)) (a b : Array R) → 0 < l → InLines l items tail lines
      → ((all : List (List ℕ)) → AreLines l all → concat all ≡ items → VolumeStepsTo rack a (Cat path) (Given all) b)
      → Told (TookPart (file_text lines)) x y → AnsweredPart rack (Cat path) x y a b
  file_part l path items tail lines x y a b some split gives told =
      let rest = in_lines l (length tail) tail some (omega arith) in
      let all = lines ++ rest.lines in
      let whole : concat all ≡ items = concat-append lines rest.lines ∙ ap (λ (s : List ℕ). concat lines ++ s) rest.whole ∙ sym split.whole in
      record {
        reply = Given all;
        steps = gives all (more_are l lines rest.lines some split.full rest.are) whole;
        output = part_of_file lines rest.lines x y told;
      }
