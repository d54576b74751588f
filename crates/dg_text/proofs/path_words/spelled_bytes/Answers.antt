use Rattle.std.proofs.Common.{◌≡◌, ◌<◌, ◌+◌, ◌++◌, ◌∷◌, [], ◌∙◌, sym, ap, subst, arith, length, drop, ℕ, List}
use Rattle.std.proofs.lemmas.List.{drop-drop}
use Rattle.std.proofs.lemmas.List.Elements.{All-nil, All-push}
use Rattle.dg_text.specs.Lines.{path_word, spelled_byte, AreBytes}
use Rattle.dg_text.proofs.PathWords.{IsFront, front_none, front_next, front_more, front_end, word_more, path_word_none}
use Rattle.dg_text.proofs.path_words.spelled_bytes.Goals as goal

preserved_path : (word old new : List ℕ) (at count byte : ℕ) (path : List ℕ) → at < length word → AreBytes path → IsFront word old at path → new ≡ old ++ byte ∷ []
    → ((x : ℕ) (rest : List ℕ) → x < 256 → drop at word ≡ spelled_byte x ++ rest → (byte ≡ x) × (drop count (drop at word) ≡ rest)) → IsFront word new (at + count) path
preserved_path word old new at count byte path within are front grown read =
    let next = front_next word old at path within are front in
    let found = read next.0 (path_word next.1) next.2 next.4 in
    let whole : path ≡ old ++ byte ∷ next.1 = next.3 ∙ ap (λ (x : ℕ). old ++ x ∷ next.1) (sym found.0) in
    let P : List ℕ → Type 0 = λ l. IsFront word l (at + count) path in
    subst P (sym grown) (front_more word old at count path byte next.1 whole (sym (drop-drop count at word) ∙ found.1))

pub loop-at-init : goal.loop-at-init
loop-at-init c =
    let none = c.new-bytes.ensures.items in
    let P : List ℕ → Type 0 = λ l. AreBytes l in
    record {
      within = omega arith;
      front = ap (λ (l : List ℕ). l ++ c.args.word.now) (sym (ap path_word none ∙ path_word_none));
      bytes = subst P (sym none) (All-nil (λ x. x < 256));
      exact = λ path are is. let Q : List ℕ → Type 0 = λ l. IsFront c.args.word.now l 0 path in subst Q (sym none) (front_none c.args.word.now path is);
    }

pub returns-in_default-clause-exact : goal.returns-in_default-clause-exact
returns-in_default-clause-exact c bytes short are is =
    let front = c.loop-at.invariant.exact bytes are is in
    let next = front_next c.args.word.now c.loop-at.bytes.items c.loop-at.at bytes c.loop-at-test.true are front in
    c.in_default.ensures.exact next.0 (path_word next.1) next.2 (c.split_at.ensures.back ∙ next.4)

pub loop-at-preserved : goal.loop-at-preserved
loop-at-preserved c =
    let word = c.args.word.now in
    let old = c.loop-at.bytes.items in
    let at = c.loop-at.at in
    let byte = c.in-Some.byte in
    let new = c.in-Ok.ensures.items in
    let back = c.split_at.ensures.back in
    let found = c.in-Some.ensures.found in
    let here : drop at word ≡ spelled_byte byte ++ drop c.in-Some.count (drop at word) = rw back at found.0 in
    let P : List ℕ → Type 0 = λ l. AreBytes l in
    record {
      within = omega (arith, found.2, c.split_at.ensures.back_len);
      front = rw new (word_more word old at c.in-Some.count byte c.loop-at.invariant.front here);
      bytes = subst P (sym new) (All-push (λ x. x < 256) old byte c.loop-at.invariant.bytes found.3);
      exact = λ path are is. preserved_path word old c.push.new.self.items at c.in-Some.count byte path c.loop-at-test.true are (c.loop-at.invariant.exact path are is) new
          (λ x rest small begins. let read = c.in-Some.ensures.exact x rest small (back ∙ begins) in (read.0, ap (λ (l : List ℕ). drop c.in-Some.count l) (sym back) ∙ read.1));
    }

pub returns-clause-exact : goal.returns-clause-exact
returns-clause-exact c bytes short are is =
    let front = c.loop-at.invariant.exact bytes are is in
    sym (front_end c.args.word.now c.loop-at.bytes.items c.loop-at.at bytes c.loop-at-test.false front)
