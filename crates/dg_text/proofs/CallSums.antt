-- How many calls write lines, one after the other.
use Rattle.std.proofs.Common.{◌≡◌, ◌<◌, ◌≤◌, ◌+◌, ℕ, List, ◌++◌, length, length-append, take, drop, get_or, sym, ◌∙◌, ap, arith}
use Rattle.std.specs.Prelude.{codes}
use Rattle.std.specs.Fmt.{decimal}
use Rattle.std.specs.List.{flat_map, sum_by}
use Rattle.std.proofs.lemmas.List.Sums.{sum_by-le, sum_by-take-le, sum_by_more}
use Rattle.dg_io.specs.SinkCalls.{LeavesSink}
use Rattle.dg_text.specs.SinkCallSteps.{leaves_both, leaves_more}
use Rattle.dg_text.proofs.FileLines.{ended, text_cut, text_more}

-- one for each is no more than how many there are
pub sum_of_ones : {A : Type 0} (xs : List A) → sum_by (λ (x : A). 1) xs ≤ length xs
sum_of_ones {A} xs =
    let sum = sum_by-le (λ (x : A). 1) 1 xs (λ i d low. omega arith) in
    omega (arith, sum)

module _ {K : Type 0} (whole : K → Type 0) (calls : K → ℕ) where
  -- those for the lines before this one, and for it
  pub calls_more : {A : Type 0} (line_of : A → List ℕ) (count : A → ℕ) (xs : List A) (i : ℕ) (x : A) (line : List ℕ) (few : ℕ) (a b c : K)
      → i < length xs → x ≡ get_or xs i x → line ≡ line_of x → few ≡ count x
      → LeavesSink whole calls (sum_by count (take i xs)) (length (flat_map line_of (take i xs))) a b → LeavesSink whole calls few (length line) b c
      → LeavesSink whole calls (sum_by count (take (i + 1) xs)) (length (flat_map line_of (take (i + 1) xs))) a c
  calls_more line_of count xs i x line few a b c low is same counted before last =
      let sizes = ap length (text_more line_of xs i x low is) ∙ length-append (flat_map line_of (take i xs)) (line_of x) in
      let one : length line ≡ length (line_of x) = ap length same in
      let sum = sum_by_more count xs i x low in
      let item : count x ≡ count (get_or xs i x) = ap count is in
      leaves_more whole calls _ _ (sum_by count (take (i + 1) xs)) (length (flat_map line_of (take (i + 1) xs))) a c
      (omega (arith, sum, item, counted)) (omega (arith, sizes, one))
      (leaves_both whole calls (sum_by count (take i xs)) (length (flat_map line_of (take i xs))) few (length line) a b c before last)

  -- those for some lines are no more than those for all
  pub calls_within : {A : Type 0} (line_of : A → List ℕ) (count : A → ℕ) (xs : List A) (i : ℕ) (a b : K)
      → LeavesSink whole calls (sum_by count (take i xs)) (length (flat_map line_of (take i xs))) a b
      → LeavesSink whole calls (sum_by count xs) (length (flat_map line_of xs)) a b
  calls_within line_of count xs i a b before =
      let sizes = ap length (text_cut line_of xs i) ∙ length-append (flat_map line_of (take i xs)) (flat_map line_of (drop i xs)) in
      leaves_more whole calls (sum_by count (take i xs)) (length (flat_map line_of (take i xs))) (sum_by count xs) (length (flat_map line_of xs)) a b
      (sum_by-take-le count xs i) (omega (arith, sizes)) before

  -- one for each line
  pub calls_counted : {A : Type 0} (text : List ℕ) (xs : List A) (a b : K) → LeavesSink whole calls (sum_by (λ (x : A). 1) xs) (length text) a b → LeavesSink whole calls (length xs) (length text) a b
  calls_counted {A} text xs a b before =
      leaves_more whole calls (sum_by (λ (x : A). 1) xs) (length text) (length xs) (length text) a b (sum_of_ones xs) (omega arith) before

  -- those for the lines, and for the one that ends them
  pub calls_ended : (text word : List ℕ) (few n count : ℕ) (a b c : K) → count ≡ n → LeavesSink whole calls few (length text) a b
      → LeavesSink whole calls 1 (length (word ++ (decimal count ++ codes "\n"))) b c
      → LeavesSink whole calls (few + 1) (length ((text ++ (word ++ decimal n)) ++ codes "\n")) a c
  calls_ended text word few n count a b c is before last =
      let sizes = sym (length-append text (word ++ (decimal count ++ codes "\n")))
      ∙ ap (λ (k : ℕ). length (text ++ (word ++ (decimal k ++ codes "\n")))) is ∙ ap length (ended text word (decimal n)) in
      leaves_more whole calls _ _ (few + 1) (length ((text ++ (word ++ decimal n)) ++ codes "\n")) a c (omega arith) (omega (arith, sizes))
      (leaves_both whole calls few (length text) 1 (length (word ++ (decimal count ++ codes "\n"))) a b c before last)

  -- those for the lines alone are fewer
  pub calls_unended : (text word number : List ℕ) (few : ℕ) (a b : K) → LeavesSink whole calls few (length text) a b
      → LeavesSink whole calls (few + 1) (length ((text ++ (word ++ number)) ++ codes "\n")) a b
  calls_unended text word number few a b before =
      let all = length-append (text ++ (word ++ number)) (codes "\n") in
      let front = length-append text (word ++ number) in
      leaves_more whole calls few (length text) (few + 1) (length ((text ++ (word ++ number)) ++ codes "\n")) a b (omega arith) (omega (arith, all, front)) before

  -- the same of a text that is put together otherwise
  pub calls_as : (line text : List ℕ) (few : ℕ) (a b : K) → line ≡ text → LeavesSink whole calls few (length line) a b → LeavesSink whole calls few (length text) a b
  calls_as line text few a b is before =
      let same : length line ≡ length text = ap length is in
      leaves_more whole calls few (length line) few (length text) a b (omega arith) (omega (arith, same)) before
