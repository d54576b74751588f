use Rattle.std.proofs.Common.{◌++◌, ◌∙◌, sym, ap, append_assoc, arith, take, get_or, ℕ, List}
use Rattle.std.proofs.lemmas.List.{append-nil, take_more}
use Rattle.dg_text.specs.Lines.{path_word, spelled_byte}
use Rattle.dg_text.proofs.PathWords.{path_word_none, path_word_last}
use Rattle.dg_text.proofs.listings.put_name.Goals as goal

pub loop-byte-init : goal.loop-byte-init
loop-byte-init c =
    let front = take c.args.at c.args.line.now in
    record {
      within = omega arith;
      text = sym (ap (λ (l : List ℕ). front ++ l) path_word_none ∙ append-nil front);
    }

pub loop-byte-preserved : goal.loop-byte-preserved
loop-byte-preserved c =
    let front = take c.args.at c.args.line.now in
    let i = c.loop-byte.byte-index in
    let before = take i c.args.name.now in
    let byte = get_or c.args.name.now i 0 in
    record {
      within = omega (arith, c.put_byte-end.ensures.end, c.loop-byte.invariant.within);
      text =
          c.put_byte-end.ensures.text ∙ ap (λ (l : List ℕ). l ++ spelled_byte byte) c.loop-byte.invariant.text
          ∙ append_assoc front (path_word before) (spelled_byte byte)
          ∙ ap (λ (l : List ℕ). front ++ l) (sym (path_word_last before byte) ∙ ap path_word (sym (take_more c.args.name.now i 0 c.loop-byte-test.true)));
    }
