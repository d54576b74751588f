-- The blocks that are consulted for blocks end to end.
use Rattle.std.proofs.Common.{◌≡◌, ◌∙◌, ℕ, zero, suc, ◌+◌, ◌-◌, ◌<◌, ◌≤◌, List, [], ◌∷◌, ◌++◌, Bool, true, false, refl, sym, ap, subst, arith}
use Rattle.std.specs.Bool.{then_some}
use Rattle.std.specs.List.{Contains, range_with_len}
use Rattle.std.proofs.lemmas.List.FromFn.{get_or-range_with_len, length-range_with_len}
use Rattle.ufs_model.specs.Blocks.{Volume, area_of, bind}
use Rattle.ufs_pointer.specs.Fetches.{Fetches, FetchesArea, IsNeeded}

-- one more block
range_more : (a n b : ℕ) → a + n ≡ b → range_with_len a (suc n) ≡ range_with_len a n ++ b ∷ []
range_more a zero b e = let same : a ≡ b = omega arith in ap (λ x. x ∷ []) same
range_more a (suc n) b e = ap (λ xs. a ∷ xs) (range_more (a + 1) n b (omega arith))

-- some blocks, and then the others
range_both : (a i d k : ℕ) → i + d ≡ k → range_with_len a k ≡ range_with_len a i ++ range_with_len (a + i) d
range_both a zero d k e = let same : a ≡ a + 0 = omega arith in let all : k ≡ d = omega arith in rw (all, ← same) refl
range_both a (suc i) d zero e = absurd (omega arith)
range_both a (suc i) d (suc k) e =
    let on : a + 1 + i ≡ a + suc i = omega arith in
    ap (λ xs. a ∷ xs) (rw (← on) (range_both (a + 1) i d k (omega arith)))

area_needs : (l a k : ℕ) (v : Volume) → (area_of l a k v).needs ≡ range_with_len a k
unfolding area_of bind
area_needs l a zero v = refl
area_needs l a (suc k) v = ap (λ xs. xs ++ (a + k) ∷ []) (area_needs l a k v) ∙ sym (range_more a k (a + k) refl)

-- ---- the loop

pub fetched_more : {S : Type 0} (fetched : S → List ℕ → S → Type 0) (a i : ℕ) (s t u : S)
    → ((s t u : S) (x y : List ℕ) → fetched s x t → fetched t y u → fetched s (x ++ y) u)
    → fetched s (range_with_len a i) t → fetched t ((a + i) ∷ []) u → fetched s (range_with_len a (suc i)) u
fetched_more fetched a i s t u both so_far one =
    subst (λ blocks. fetched s blocks u) (sym (range_more a i (a + i) refl)) (both s t u (range_with_len a i) ((a + i) ∷ []) so_far one)

-- all of them
pub area_whole : {S : Type 0} (fetched : S → List ℕ → S → Type 0) (gone : ℕ → Bool) (a i k : ℕ) (old new : S) → i ≤ k → k ≤ i → fetched old (range_with_len a i) new → FetchesArea fetched gone a k true old new
area_whole fetched gone a i k old new most least all = record { number = i; most = most; all = λ is. omega arith; cut = λ is. let no : true ≡ false = is in cc; were = all }

-- some of them, up to number i, which is gone
pub area_cut : {S : Type 0} (fetched : S → List ℕ → S → Type 0) (gone : ℕ → Bool) (a i k : ℕ) (old new : S) → i < k → gone (a + i) ≡ true → fetched old (range_with_len a (suc i)) new → FetchesArea fetched gone a k false old new
area_cut fetched gone a i k old new most here some = record {
  number = suc i;
  most = most;
  all = λ is. let no : false ≡ true = is in cc;
  cut = λ is. (omega arith, let same : suc i - 1 ≡ i = omega arith in rw same here);
  were = some;
}

-- ---- the reading

pub area_fetches : {S : Type 0} {fetched : S → List ℕ → S → Type 0} {stands : Volume → Type 0} {tells : Type 0} {gone : ℕ → Bool} {old new : S} (l a k : ℕ) (could : Bool) (bytes : List ℕ)
    → FetchesArea fetched gone a k could old new → Fetches fetched stands tells (area_of l a k) (then_some could bytes) old new
area_fetches l a k true bytes h = record {
  blocks = range_with_len a h.number;
  were = h.were;
  consulted = λ is v holds. ap (range_with_len a) (h.all refl) ∙ sym (area_needs l a k v);
}
area_fetches l a k false bytes h = record {
  blocks = range_with_len a h.number;
  were = h.were;
  consulted = λ is v holds. record {
    rest = range_with_len (a + h.number) (k - h.number);
    whole = area_needs l a k v ∙ range_both a h.number (k - h.number) k (let most = h.most in omega arith);
  };
}

-- ---- what is gone

range_contains : (a k b : ℕ) → a ≤ b → b < a + k → Contains (range_with_len a k) b
range_contains a k b low high =
    let on : a + (b - a) ≡ b = omega arith in
    (b - a, (let many = length-range_with_len a k in omega arith), get_or-range_with_len a k (b - a) b (omega arith) ∙ on)

-- each of the blocks is consulted
pub needed_in : (l a k : ℕ) (v : Volume) (b : ℕ) → a ≤ b → b < a + k → IsNeeded (area_of l a k) v b
needed_in l a k v b low high = subst (λ xs. Contains xs b) (sym (area_needs l a k v)) (range_contains a k b low high)

-- ---- one block

area_one : {S : Type 0} {fetched : S → List ℕ → S → Type 0} {gone : ℕ → Bool} {old new : S} (a : ℕ) (could : Bool) (h : FetchesArea fetched gone a 1 could old new) → h.number ≡ 1
area_one a true h = h.all refl
area_one a false h = let least = (h.cut refl).0 in let most = h.most in omega arith

pub area_once : {S : Type 0} {fetched : S → List ℕ → S → Type 0} {gone : ℕ → Bool} {old new : S} (a : ℕ) (could : Bool) → FetchesArea fetched gone a 1 could old new → fetched old (a ∷ []) new
area_once {fetched = fetched} {old = old} {new = new} a could h = subst (λ (n : ℕ). fetched old (range_with_len a n) new) (area_one a could h) h.were

pub area_gone : {S : Type 0} {fetched : S → List ℕ → S → Type 0} {gone : ℕ → Bool} {old new : S} (a : ℕ) (could : Bool) → FetchesArea fetched gone a 1 could old new → could ≡ false → gone a ≡ true
area_gone {gone = gone} a could h missed =
    let one : a + (h.number - 1) ≡ a = omega (arith, area_one a could h) in
    subst (λ (b : ℕ). gone b ≡ true) one ((h.cut missed).1)
